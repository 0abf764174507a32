use Rattle.std.proofs.Common.{◌≡◌, ◌∙◌, rules, length, option_map, sym, ap}
use Rattle.std.proofs.lemmas.List.{length-map}
use Rattle.file_state.specs.Views.{body_view, interface_view}
use Rattle.file_typing.specs.Elaboration.{is_object, params_of}
use Rattle.file_typing.specs.LocalObjects.{object_of_local}
use Rattle.local_objects.specs.ObjectTables.{object_at}
use Rattle.typing_base.specs.NoteViews.{local_view}
use Rattle.c_elab.proofs.Wholes.{defined}
use Rattle.c_elab.proofs.functions.definition.Goals as goal

pub returns : goal.returns
returns c =
    let interface = option_map interface_view c.args.interface in
    let body = body_view c.args.body in
    let objects : object_at c.as_slice-objects.result.now ≡ object_of_local (is_object body) c.args.first = ap object_at c.as_slice-objects.ensures.value ∙ c.in_ok-objects.ensures in
    let counted : c.len-count.result ≡ length c.params_of.result.items = search rules in
    let as_many : length c.params_of.result.items ≡ length (params_of interface) = sym (length-map c.params_of.result.items local_view) ∙ ap length c.params_of.ensures in
    rw (c.from_vec.ensures, c.from_vec-2.ensures)
    (defined c.args.first c.args.name interface body (object_at c.as_slice-objects.result.now) c.in_ok-params.params.items _ _ _ _ _ objects (counted ∙ as_many) c.result_of-returned.ensures
    c.in_ok-params.ensures c.in_ok-locals.ensures.front c.in_ok-locals.ensures.back c.resolve.ensures)
