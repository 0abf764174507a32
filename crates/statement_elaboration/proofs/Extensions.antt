-- Environments with more names.
use Rattle.std.proofs.Common.{◌≡◌, ◌≤◌, length, drop, ◌-◌, ◌+◌, ap, sym, ◌∙◌, arith}
use Rattle.std.proofs.lemmas.List.{drop-drop, length-drop}
use Rattle.typing_base.specs.declared.scopes.Environment.{Environment}
use Rattle.statement_elaboration.specs.Views.{Extends}

pub extends_within : (old new : Environment) → Extends old new → length old.names ≤ length new.names
extends_within old new x =
    let n : length new.names - (length new.names - length old.names) ≡ length old.names = sym (length-drop (length new.names - length old.names) new.names) ∙ ap length x.names in
    omega (arith, n)

pub extends_more : (old mid new : Environment) → Extends old mid → Extends mid new → Extends old new
extends_more old mid new x y =
    let below : length old.names ≤ length mid.names = extends_within old mid x in
    let above : length mid.names ≤ length new.names = extends_within mid new y in
    let all : length new.names - length mid.names + (length mid.names - length old.names) ≡ length new.names - length old.names = omega (arith, below, above) in
    record {
      names = ap (λ i. drop i new.names) (sym all) ∙ sym (drop-drop (length mid.names - length old.names) (length new.names - length mid.names) new.names)
          ∙ ap (drop (length mid.names - length old.names)) y.names ∙ x.names;
      tags = y.tags ∙ x.tags;
      structs = y.structs ∙ x.structs;
    }

-- the names of a block are forgotten
pub left_again : (old new : Environment) → Extends old new
    → record { names = drop (length new.names - length old.names) new.names; tags = new.tags; structs = new.structs } ≡ old
left_again old new x =
    ap (λ names. record { names = names; tags = new.tags; structs = new.structs }) x.names
    ∙ ap (λ tags. record { names = old.names; tags = tags; structs = new.structs }) x.tags
    ∙ ap (λ structs. record { names = old.names; tags = old.tags; structs = structs }) x.structs
