-- The longest front of a list whose elements pass a test.
use Rattle.std.proofs.Common.{◌≡◌, suc, ◌+◌, ◌≤◌, Bool, true, false, cond, List, [], ◌∷◌, ◌++◌, length, take, drop, refl, sym, subst, arith}
use Rattle.std.specs.List.{list_all, prefix_len}
use Rattle.std.proofs.lemmas.Bool.{and_parts, and_from}

-- whether the list begins with an element that passes
abbrev pub begins : {X : Type 0} → (X → Bool) → List X → Bool
begins p [] = false
begins p (x ∷ xs) = p x

all-step : {X : Type 0} (p : X → Bool) (x : X) (xs : List X) (b : Bool) → p x ≡ b → list_all p (take (prefix_len p xs) xs) ≡ true → list_all p (take (cond b (1 + prefix_len p xs) 0) (x ∷ xs)) ≡ true
all-step p x xs true e h = let s : suc (prefix_len p xs) ≡ 1 + prefix_len p xs = omega arith in subst (λ n. list_all p (take n (x ∷ xs)) ≡ true) s (and_from _ _ e h)
all-step p x xs false e h = refl

pub all-run : {X : Type 0} (p : X → Bool) (xs : List X) → list_all p (take (prefix_len p xs) xs) ≡ true
all-run p [] = refl
all-run p (x ∷ xs) = all-step p x xs (p x) refl (all-run p xs)

stops-step : {X : Type 0} (p : X → Bool) (x : X) (xs : List X) (b : Bool) → p x ≡ b → begins p (drop (prefix_len p xs) xs) ≡ false → begins p (drop (cond b (1 + prefix_len p xs) 0) (x ∷ xs)) ≡ false
stops-step p x xs true e h = let s : suc (prefix_len p xs) ≡ 1 + prefix_len p xs = omega arith in subst (λ n. begins p (drop n (x ∷ xs)) ≡ false) s h
stops-step p x xs false e h = e

pub run-stops : {X : Type 0} (p : X → Bool) (xs : List X) → begins p (drop (prefix_len p xs) xs) ≡ false
run-stops p [] = refl
run-stops p (x ∷ xs) = stops-step p x xs (p x) refl (run-stops p xs)

pub run-covers : {X : Type 0} (p : X → Bool) (front after : List X) → list_all p front ≡ true → length front ≤ prefix_len p (front ++ after)
run-covers p [] after h = omega arith
run-covers p (x ∷ xs) after h =
    let passes = and_parts (p x) (list_all p xs) h in
    let rest = run-covers p xs after passes.1 in
    let more : suc (length xs) ≤ 1 + prefix_len p (xs ++ after) = omega (arith, rest) in
    subst (λ b. suc (length xs) ≤ cond b (1 + prefix_len p (xs ++ after)) 0) (sym passes.0) more

stopped : {X : Type 0} (p : X → Bool) (after : List X) → begins p after ≡ false → prefix_len p after ≡ 0
stopped p [] h = refl
stopped p (x ∷ xs) h = subst (λ b. cond b (1 + prefix_len p xs) 0 ≡ 0) (sym h) refl

pub run-is : {X : Type 0} (p : X → Bool) (front after : List X) → list_all p front ≡ true → begins p after ≡ false → prefix_len p (front ++ after) ≡ length front
run-is p [] after h stops = stopped p after stops
run-is p (x ∷ xs) after h stops =
    let passes = and_parts (p x) (list_all p xs) h in
    let rest = run-is p xs after passes.1 stops in
    let more : 1 + prefix_len p (xs ++ after) ≡ suc (length xs) = omega (arith, rest) in
    subst (λ b. cond b (1 + prefix_len p (xs ++ after)) 0 ≡ suc (length xs)) (sym passes.0) more

pub all-weaker : {X : Type 0} (p q : X → Bool) → ((x : X) → p x ≡ true → q x ≡ true) → (xs : List X) → list_all p xs ≡ true → list_all q xs ≡ true
all-weaker p q weaker [] h = refl
all-weaker p q weaker (x ∷ xs) h =
    let passes = and_parts (p x) (list_all p xs) h in
    and_from (q x) (list_all q xs) (weaker x passes.0) (all-weaker p q weaker xs passes.1)
