-- Where the clauses of a list and of the lines of a log stand, when both are counted on.
use Rattle.std.proofs.Common.{◌≡◌, ℕ, ℤ, ◌<◌, ◌≤◌, ◌+◌, ◌-◌, List, [], ◌∷◌, ◌++◌, length, get_or, map, refl, sym, ap, ◌∙◌, arith, length-append, Some}
use Rattle.std.proofs.lemmas.List.{get_or-map, length-map, get_or_append_left, get_or-append_right}
use Rattle.std.proofs.lemmas.Option.{slice_get-get_or, slice_get_within, get_or_from_slice_get}
use Rattle.std.specs.Prelude.{slice_get, Contains}
use Rattle.clause_db.specs.Numbered.{IsNumbered}

pub slice_get-map_left : {X : Type 0} (f : X → List ℤ) (xs : List X) (ys : List (List ℤ)) (k : ℕ) (x : X) → k < length xs → x ≡ get_or xs k x → slice_get (map f xs ++ ys) k ≡ Some (f x)
slice_get-map_left f xs ys k x h e =
    slice_get-get_or (map f xs ++ ys) k [] (simp (length-append, length-map) (omega arith)) ∙ ap Some (get_or_append_left (map f xs) ys [] k (simp length-map h) ∙ get_or-map f xs k x [] h ∙ ap f (sym e))

pub slice_get-map_right : {X : Type 0} (f : X → List ℤ) (ys : List (List ℤ)) (xs : List X) (k n : ℕ) (x : X) → n ≡ length ys → n ≤ k → k - n < length xs → x ≡ get_or xs (k - n) x → slice_get (ys ++ map f xs) k ≡ Some (f x)
slice_get-map_right f ys xs k n x is h g e =
    slice_get-get_or (ys ++ map f xs) k [] (simp (length-append, length-map) (omega arith)) ∙ ap Some (get_or-append_right ys (map f xs) n k [] (sym is) h ∙ get_or-map f xs (k - n) x [] g ∙ ap f (sym e))

-- a clause keeps its number when more are added
pub IsNumbered-append : (xs ys : List (List ℤ)) (number : ℕ) (clause : List ℤ) → IsNumbered xs number clause → IsNumbered (xs ++ ys) number clause
IsNumbered-append xs ys number clause (k, is, at) =
    let within : k < length xs = slice_get_within xs k clause at in
    (k, is, slice_get-get_or (xs ++ ys) k [] (simp length-append (omega arith)) ∙ ap Some (get_or_append_left xs ys [] k within ∙ get_or_from_slice_get xs k clause [] at))

-- the clause that is added has the next number
pub IsNumbered-last : (xs : List (List ℤ)) (clause : List ℤ) → IsNumbered (xs ++ clause ∷ []) (length xs + 1) clause
IsNumbered-last xs clause = (length xs, refl, slice_get-get_or (xs ++ clause ∷ []) (length xs) [] (simp length-append (omega arith)) ∙ ap Some (get_or-append_right xs (clause ∷ []) (length xs) (length xs) [] refl (omega arith) ∙ at_first (length xs - length xs) (omega arith))) where
  at_first : (n : ℕ) → n ≡ 0 → get_or (clause ∷ []) n [] ≡ clause
  at_first n e = rw e refl

pub contains_numbered : (xs : List (List ℤ)) (number : ℕ) (clause : List ℤ) → IsNumbered xs number clause → Contains xs clause
contains_numbered xs number clause (k, is, at) = (k, slice_get_within xs k clause at, get_or_from_slice_get xs k clause clause at)

-- one number has one clause
pub IsNumbered-same : (xs : List (List ℤ)) (number : ℕ) (c d : List ℤ) → IsNumbered xs number c → IsNumbered xs number d → c ≡ d
IsNumbered-same xs number c d (k, is, at) (j, js, bt) =
    let e : k ≡ j = omega arith in
    sym (get_or_from_slice_get xs k c [] at) ∙ ap (λ i. get_or xs i []) e ∙ get_or_from_slice_get xs j d [] bt
