use Rattle.std.proofs.Common.{◌≡◌, ◌<◌, ◌≤◌, List, [], ◌∷◌, ◌++◌, ◌∙◌, ap, sym, subst, get_or, length, append_assoc}
use Rattle.std.proofs.lemmas.List.{append-nil}
use Rattle.rvt_tree.specs.declared.types.Pointee.{Pointee}
use Rattle.c_meaning.specs.Stores.{objects_of}
use Rattle.c_places.specs.Starts.{AreAllStarts}
use Rattle.c_places.proofs.Begins.{starts_next, starts_done}
use Rattle.c_places.proofs.starts.all_starts.Goals as goal

pub loop-object-preserved : goal.loop-object-preserved
loop-object-preserved c others rest =
    let program = c.args.program.now in
    let out = c.loop-object.out.items in
    let rows = c.in_ok-starts.starts.items in
    let at = c.loop-object.object-index in
    let object = c.object-item.result in
    let all = c.as_slice-object-items.ensures in
    let pushed : c.push.new.self.items ++ others ≡ out ++ (rows ∷ others) =
    ap (λ xs. xs ++ others) (c.in_ok-push.ensures.items ∙ ap (λ x. out ++ x ∷ []) c.from_vec-starts.ensures) ∙ append_assoc out (rows ∷ []) others in
    subst (λ (made : List (List (List Pointee))). AreAllStarts program made (objects_of program)) (sym pushed)
    (c.loop-object.invariant (rows ∷ others)
    (starts_next program (objects_of program) at object rows others
    (subst (λ xs. at < length xs) all c.loop-object-test.true)
    (subst (λ xs. object ≡ get_or xs at object) all c.object-item.is)
    c.in_ok-starts.ensures rest))

pub returns : goal.returns
returns c =
    let program = c.args.program.now in
    let out = c.loop-object.out.items in
    subst (λ (made : List (List (List Pointee))). AreAllStarts program made (objects_of program)) (append-nil out)
    (c.loop-object.invariant []
    (starts_done program (objects_of program) c.loop-object.object-index
    (subst (λ xs. length xs ≤ c.loop-object.object-index) c.as_slice-object-items.ensures c.loop-object-test.false)))
