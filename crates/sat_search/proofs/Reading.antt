-- What the code reads of a trail.
use Rattle.std.proofs.Common.{◌≡◌, ◌<◌, ℕ, ℤ, pos, List, length, ap, sym, ◌∙◌, w64, get_or, subst, slice_index}
use Rattle.std.proofs.lemmas.Int.{to_z-of_z}
use Rattle.std.proofs.lemmas.List.{get_or_read}
use mir.Val.{SFits, of_z, to_z}
use Rattle.clause_db.specs.Literal.{variable_of}
use Rattle.clause_db.specs.Numbered.{IsNumbered}
use Rattle.clause_db.proofs.Places.{IsNumbered-same}
use Rattle.unit_propagation.specs.Places.{literal_at}
use Rattle.unit_propagation.specs.Quiet.{IsReason}
use Rattle.sat_search.specs.Learning.{HasReasonAt}

-- the variable at a place
pub variable_read : (trail : List ℤ) (p : ℕ) (x : ℤ) (v : ℕ) → p < length trail → x ≡ get_or trail p x → SFits w64 x → v ≡ variable_of (to_z w64 (of_z w64 x)) → v ≡ variable_of (literal_at trail p)
variable_read trail p x v within is fits e = e ∙ ap variable_of (to_z-of_z w64 x fits ∙ get_or_read trail p x within is (pos 0))

-- the clause of the number that stands as its reason
pub reason_read : (clauses : List (List ℤ)) (trail : List ℤ) (reasons : List ℕ) (p v number : ℕ) (other : List ℤ) → v < length reasons → v ≡ variable_of (literal_at trail p) → number ≡ get_or reasons v number → HasReasonAt clauses trail reasons p → IsNumbered clauses number other → IsReason trail p other
reason_read clauses trail reasons p v number other within is read has numbered =
    let same : number ≡ slice_index reasons (variable_of (literal_at trail p)) = get_or_read reasons v number within read 0 ∙ ap (slice_index reasons) is in
    subst (IsReason trail p) (IsNumbered-same clauses number has.0 other (subst (λ n. IsNumbered clauses n has.0) (sym same) has.1) numbered) has.2
