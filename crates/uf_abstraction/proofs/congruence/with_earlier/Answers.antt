use Rattle.std.proofs.Common.{◌∙◌, ◌<◌, [], ap, length, refl, sym, subst}
use Rattle.std.specs.List.{AllByRecursion}
use Rattle.std.specs.Prelude.{map}
use Rattle.uf_abstraction.proofs.Grouping.{all_got, comparable_earlier, earlier_built, found_places, got_mapped, mapped_long}
use Rattle.uf_abstraction.specs.Applying.{IsThere}
use Rattle.uf_abstraction.specs.Groups.{at_places, or_none, places_of}
use Rattle.uf_abstraction.specs.Names.{application_of, IsAsked}
use Rattle.uf_abstraction.specs.Testing.{IsComparable}
use Rattle.uf_abstraction.proofs.congruence.with_earlier.Goals as goal

pub with_places-requires-clause-this_asked : goal.with_places-requires-clause-this_asked
with_places-requires-clause-this_asked c = all_got IsAsked c.args.made.now.entries _ _ c.requires.asked c.entry.ensures

pub with_places-requires-clause-this_is_there : goal.with_places-requires-clause-this_is_there
with_places-requires-clause-this_is_there c = all_got (IsThere c.args.circuit.now) (map application_of c.args.made.now.entries) _ _ c.requires.all_there (got_mapped c.args.made.now.entries _ _ _ c.entry.ensures)

pub with_places-requires-clause-places : goal.with_places-requires-clause-places
with_places-requires-clause-places c =
    let name = c.entry.result.0.now.name in
    let same = c.deref.ensures.value ∙ ap or_none c.in-Some.ensures.value ∙ found_places c.args.groups.now.entries name in
    subst (AllByRecursion (λ place. place < length c.args.made.now.entries)) (sym same)
    (subst (λ n. AllByRecursion (λ place. place < n) (places_of c.args.groups.now.entries name)) (mapped_long c.args.made.now.entries) (c.requires.grouped.within name))

pub with_places-requires-clause-comparable : goal.with_places-requires-clause-comparable
with_places-requires-clause-comparable c =
    let name = c.entry.result.0.now.name in
    let b = application_of (c.entry.result.0.now, c.entry.result.1.now) in
    let applied = map application_of c.args.made.now.entries in
    let same = c.deref.ensures.value ∙ ap or_none c.in-Some.ensures.value ∙ found_places c.args.groups.now.entries name in
    subst (AllByRecursion (λ a. IsComparable a b)) (sym (ap (at_places applied) same ∙ c.requires.grouped.are name))
    (comparable_earlier applied c.args.place b c.requires.laid_out (got_mapped c.args.made.now.entries _ _ _ c.entry.ensures))

pub returns-in_ok-lit-in-Some-clause-built : goal.returns-in_ok-lit-in-Some-clause-built
returns-in_ok-lit-in-Some-clause-built c = λ b e.
    let name = c.entry.result.0.now.name in
    let applied = map application_of c.args.made.now.entries in
    let same = c.deref.ensures.value ∙ ap or_none c.in-Some.ensures.value ∙ found_places c.args.groups.now.entries name in
    earlier_built applied c.args.place b (application_of (c.entry.result.0.now, c.entry.result.1.now)) c.deref.result.now _ _ e (got_mapped c.args.made.now.entries _ _ _ c.entry.ensures) (ap (at_places applied) same ∙ c.requires.grouped.are name)
    c.in_ok-lit-in-Some.ensures.built

pub returns-in-None-clause-built : goal.returns-in-None-clause-built
returns-in-None-clause-built c = λ b e.
    let name = c.entry.result.0.now.name in
    let applied = map application_of c.args.made.now.entries in
    earlier_built applied c.args.place b (application_of (c.entry.result.0.now, c.entry.result.1.now)) [] _ _ e (got_mapped c.args.made.now.entries _ _ _ c.entry.ensures)
    (ap (at_places applied) (ap or_none c.in-None.ensures.value ∙ found_places c.args.groups.now.entries name) ∙ c.requires.grouped.are name) refl
