use Rattle.std.proofs.Common.{◌≡◌, ℕ, List, Bool, true, false, is_some, Option, None, Some, sym, ap, ap₂, ◌∙◌}
use Rattle.std.specs.List.{list_any}
use Rattle.std.specs.Str.{bytes_eq}
use Rattle.joint_objects.specs.Names.{pair_views}
use Rattle.joint_objects.specs.Globals.{unless_taken, listed_or, listed_name, other_name}
use Rattle.joint_objects.proofs.SoughtLemmas.{any_position}
use Rattle.joint_objects.proofs.names.other_name_of.Goals as goal

name_by : (listed : List (List ℕ × List ℕ)) (name : List ℕ) (said : Option (List ℕ)) (taken : Bool) → listed_name listed name ≡ said → list_any (λ names. bytes_eq names.1 name) listed ≡ taken →
    other_name listed name ≡ listed_or said (unless_taken taken name)
name_by listed name said taken is any = ap₂ (λ s t. listed_or s (unless_taken t name)) is any

pub returns-in-Some-number_of : goal.returns-in-Some-number_of
returns-in-Some-number_of c =
    let pairs = pair_views c.args.pairs.now in
    sym (name_by pairs c.args.name.now None true (sym c.in-None.ensures)
    (any_position (λ names. bytes_eq names.1 c.args.name.now) 0 pairs ∙ ap is_some (sym (c.requires.theirs c.args.name.now) ∙ sym c.in-Some-number_of.ensures)))

pub returns-in-None-number_of : goal.returns-in-None-number_of
returns-in-None-number_of c =
    let pairs = pair_views c.args.pairs.now in
    sym (name_by pairs c.args.name.now None false (sym c.in-None.ensures)
    (any_position (λ names. bytes_eq names.1 c.args.name.now) 0 pairs ∙ ap is_some (sym (c.requires.theirs c.args.name.now) ∙ sym c.in-None-number_of.ensures)))
