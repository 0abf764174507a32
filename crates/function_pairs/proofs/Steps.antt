-- Searches in a list with one more element in front.
use Rattle.std.proofs.Common.{◌≡◌, ℕ, suc, ◌+◌, ◌<◌, Bool, true, false, List, ◌∷◌, Option, Some, length, drop, get_or, cond, drop-cons, sym, ◌∙◌, ap, arith}
use Rattle.std.specs.List.{position_from, find}
use Rattle.std.specs.Borrow.{Bor}
use Rattle.version_map.specs.declared.map.Listed.{Listed}
use Rattle.function_pairs.specs.Counterparts.{text_or, new_side, old_side}

pub front : {X : Type 0} (xs : List X) (i left : ℕ) (x : X) → left ≡ i + 1 → i < length xs → x ≡ get_or xs i x → drop i xs ≡ x ∷ drop left xs
front {X} xs i left x e low is =
    let next : suc i ≡ left = omega (arith, e) in
    drop-cons xs i x low ∙ ap (λ (y : X). y ∷ drop (suc i) xs) (sym is) ∙ ap (λ (n : ℕ). x ∷ drop n xs) next

pub position_before : {X : Type 0} (p : X → Bool) (xs : List X) (i left : ℕ) (x : X) → left ≡ i + 1 → i < length xs → x ≡ get_or xs i x →
    cond (p x) (Some i) (position_from p left (drop left xs)) ≡ position_from p i (drop i xs)
position_before {X} p xs i left x e low is =
    ap (λ (n : ℕ). cond (p x) (Some i) (position_from p n (drop left xs))) e
    ∙ sym (ap (λ (ys : List X). position_from p i ys) (front xs i left x e low is))

pub find_before : {X : Type 0} (p : X → Bool) (xs : List X) (i left : ℕ) (x : X) → left ≡ i + 1 → i < length xs → x ≡ get_or xs i x →
    cond (p x) (Some x) (find p (drop left xs)) ≡ find p (drop i xs)
find_before {X} p xs i left x e low is = sym (ap (λ (ys : List X). find p ys) (front xs i left x e low is))

pub new_side_of : (b : Bool) (name : List ℕ) (text : Bor (List ℕ)) (line : Listed) (below : Option (Bor (List ℕ))) (found : Option Listed) →
    text.now ≡ line.new → text_or name below ≡ new_side name found → text_or name (cond b (Some text) below) ≡ new_side name (cond b (Some line) found)
new_side_of true name text line below found here later = here
new_side_of false name text line below found here later = later

pub old_side_of : (b : Bool) (name : List ℕ) (text : Bor (List ℕ)) (line : Listed) (below : Option (Bor (List ℕ))) (found : Option Listed) →
    text.now ≡ line.old → text_or name below ≡ old_side name found → text_or name (cond b (Some text) below) ≡ old_side name (cond b (Some line) found)
old_side_of true name text line below found here later = here
old_side_of false name text line below found here later = later
