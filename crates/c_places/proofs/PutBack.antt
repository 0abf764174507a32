-- What is kept of the store and put back is what a return puts back.
use Rattle.std.proofs.Common.{◌≡◌, ℕ, zero, suc, List, [], ◌∷◌, ◌++◌, take, drop, Bool, true, false, if◌then◌else◌, refl, ap, sym, ◌∙◌}
use Rattle.rvt_num.specs.declared.values.Value.{Value}
use Rattle.rvt_tree.specs.declared.programs.Object.{Object}
use Rattle.c_meaning.specs.Stores.{stored}
use Rattle.c_meaning.specs.Runs.{is_owner, for_owned}
use Rattle.c_places.specs.Kept.{owned_cells, put_back}

abbrev none_of : (A : Type 0) → List A
none_of A = []

pub take_none : {A : Type 0} (n : ℕ) → take n (none_of A) ≡ []
take_none zero = refl
take_none (suc n) = refl

drop_none : {A : Type 0} (n : ℕ) → drop n (none_of A) ≡ []
drop_none zero = refl
drop_none (suc n) = refl

module _ {A : Type 0} (keep : List A → List A) (none : keep [] ≡ []) where
  -- the first part of what is kept
  take_kept : (n : ℕ) (xs : List A) → take n (take n xs ++ keep (drop n xs)) ≡ take n xs
  take_kept zero xs = refl
  take_kept (suc n) [] = ap (take (suc n)) none
  take_kept (suc n) (x ∷ xs) = ap (λ ys. x ∷ ys) (take_kept n xs)

  drop_kept : (n : ℕ) (xs : List A) → drop n (take n xs ++ keep (drop n xs)) ≡ keep (drop n xs)
  drop_kept zero xs = refl
  drop_kept (suc n) [] = ap (drop (suc n)) none ∙ sym none
  drop_kept (suc n) (x ∷ xs) = drop_kept n xs

owned_none : (function : ℕ) (objects : List Object) → owned_cells function objects [] ≡ []
owned_none function [] = refl
owned_none function (object ∷ objects) = owned_none_step (is_owner function object.owner) (stored object) (owned_cells function objects) (owned_none function objects)
  where
    owned_none_step : (b : Bool) (n : ℕ) (keep : List Value → List Value) → keep [] ≡ [] → (if b then take n [] else []) ++ keep (drop n []) ≡ []
    owned_none_step true n keep none = ap (λ xs. xs ++ keep (drop n [])) (take_none n) ∙ ap keep (drop_none n) ∙ none
    owned_none_step false n keep none = ap keep (drop_none n) ∙ none

abbrev kept_first : Bool → ℕ → (List Value → List Value) → List Value → List Value
kept_first b n keep before = (if b then take n before else []) ++ keep (drop n before)

put_back_step : (b : Bool) (n : ℕ) (keep : List Value → List Value) (none : keep [] ≡ []) (put close : List Value → List Value → List Value) (same : (before store : List Value) → put (keep before) store ≡ close before store)
    (before store : List Value) →
    (if b then take n (kept_first b n keep before) ++ put (drop n (kept_first b n keep before)) (drop n store) else take n store ++ put (kept_first b n keep before) (drop n store))
    ≡ (if b then take n before else take n store) ++ close (drop n before) (drop n store)
put_back_step true n keep none put close same before store =
    ap (λ xs. xs ++ put (drop n (kept_first true n keep before)) (drop n store)) (take_kept keep none n before)
    ∙ ap (λ xs. take n before ++ put xs (drop n store)) (drop_kept keep none n before)
    ∙ ap (λ xs. take n before ++ xs) (same (drop n before) (drop n store))
put_back_step false n keep none put close same before store = ap (λ xs. take n store ++ xs) (same (drop n before) (drop n store))

pub put_back_is_closed : (function : ℕ) (objects : List Object) (before store : List Value) →
    put_back function objects (owned_cells function objects before) store ≡ for_owned function objects (λ saved now. saved) before store
put_back_is_closed function [] before store = refl
put_back_is_closed function (object ∷ objects) before store =
    put_back_step (is_owner function object.owner) (stored object) (owned_cells function objects) (owned_none function objects)
    (put_back function objects) (for_owned function objects (λ saved now. saved)) (put_back_is_closed function objects) before store
