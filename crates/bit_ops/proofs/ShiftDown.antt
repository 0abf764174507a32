-- The circuit of a shift down has the bits of the quotient by a power of two, rounded down.
use Rattle.std.proofs.Common.{◌≡◌, ℕ, zero, suc, ◌+◌, ◌*◌, ◌/◌, ◌<◌, ◌≤◌, ◌^◌, Bool, true, false, List, [], ◌∷◌, ◌++◌, length, map, drop, replicate, refl, sym, ap, ◌∙◌, arith}
use Rattle.std.proofs.Math.Nat.{div-div-eq-div-mul, mul_comm, mul-le-mul_left, pow-suc}
use Rattle.std.proofs.Math.Pow.{pow_pos}
use Rattle.std.proofs.lemmas.Nat.{pow-add}
use Rattle.aig_build.specs.declared.lits.Lit.{Lit}
use Rattle.aig_build.specs.Circuits.{Node, IsCircuit, lit_value}
use Rattle.aig_build.proofs.Nodes.{Grows-keeps, Grows-length}
use Rattle.bit_words.specs.declared.cells.Cell.TheVariants.{Choice}
use Rattle.bit_words.specs.Built.{ripple_built}
use Rattle.bit_words.specs.Words.{AreThere, values, bit_number, number_of_bits}
use Rattle.bit_words.proofs.Computing.{differ}
use Rattle.bit_words.proofs.ConvertValues.{number_append, number_zeros, values-append}
use Rattle.bit_words.proofs.Multiplication.{values-replicate}
use Rattle.bit_words.proofs.PlacedValues.{choice_bits}
use Rattle.bit_words.proofs.RippleCarry.{AreThere-later, values-later, ripple_bits, ripple-makes, ripple_width}
use Rattle.bit_words.proofs.WordValues.{values_length}
use Rattle.bit_ops.specs.Built.{moved_bits, shift_built}
use Rattle.bit_ops.proofs.ShiftingSteps.{AreThere-moved, moved_length}

-- ---- the number without the lowest bits
half : (b : Bool) (n : ℕ) → (bit_number b + 2 * n) / 2 ≡ n
half false n = omega arith
half true n = omega arith

none_left : (n : ℕ) → 0 / 2 ^ n ≡ 0
none_left n = omega arith

pub number_drop : (n : ℕ) (bs : List Bool) → number_of_bits (drop n bs) ≡ number_of_bits bs / 2 ^ n
number_drop zero bs = omega arith
number_drop (suc n) [] = sym (none_left (suc n))
number_drop (suc n) (b ∷ bs) =
    number_drop n bs ∙ ap (λ k. k / 2 ^ n) (sym (half b (number_of_bits bs)))
    ∙ div-div-eq-div-mul (bit_number b + 2 * number_of_bits bs) 2 (2 ^ n)
    ∙ ap (λ k. (bit_number b + 2 * number_of_bits bs) / k) (sym (pow-suc 2 n ∙ mul_comm (2 ^ n) 2))

pub number_down : (n : ℕ) (bs : List Bool) → number_of_bits (drop n bs ++ replicate n false) ≡ number_of_bits bs / 2 ^ n
number_down n bs =
    let none : 2 ^ length (drop n bs) * number_of_bits (replicate n false) ≡ 0 = ap (λ k. 2 ^ length (drop n bs) * k) (number_zeros n) ∙ omega arith in
    number_append (drop n bs) (replicate n false) ∙ ap (λ k. number_of_bits (drop n bs) + k) none ∙ omega arith ∙ number_drop n bs

-- ---- bits with a sign: all inverted where it is true
abbrev pub turned : Bool → List Bool → List Bool
turned f bs = map (differ f) bs

turned-append : (f : Bool) (xs ys : List Bool) → turned f (xs ++ ys) ≡ turned f xs ++ turned f ys
turned-append f [] ys = refl
turned-append f (x ∷ xs) ys = ap (λ bs. differ f x ∷ bs) (turned-append f xs ys)

turned-drop : (f : Bool) (n : ℕ) (xs : List Bool) → turned f (drop n xs) ≡ drop n (turned f xs)
turned-drop f zero xs = refl
turned-drop f (suc n) [] = refl
turned-drop f (suc n) (x ∷ xs) = turned-drop f n xs

itself_differs : (f : Bool) → differ f f ≡ false
itself_differs false = refl
itself_differs true = refl

turned-fill : (f : Bool) (n : ℕ) → turned f (replicate n f) ≡ replicate n false
turned-fill f zero = refl
turned-fill f (suc n) = λ i. itself_differs f i ∷ turned-fill f n i

turned_down : (f : Bool) (n : ℕ) (bs : List Bool) → number_of_bits (turned f (drop n bs ++ replicate n f)) ≡ number_of_bits (turned f bs) / 2 ^ n
turned_down f n bs =
    ap number_of_bits (turned-append f (drop n bs) (replicate n f) ∙ (λ i. turned-drop f n bs i ++ turned-fill f n i)) ∙ number_down n (turned f bs)

-- ---- the circuit
pub values-drop : (nodes : List Node) (inputs : List Bool) (n : ℕ) (xs : List Lit) → values nodes inputs (drop n xs) ≡ drop n (values nodes inputs xs)
values-drop nodes inputs zero xs = refl
values-drop nodes inputs (suc n) [] = refl
values-drop nodes inputs (suc n) (x ∷ xs) = values-drop nodes inputs n xs

values-down : (nodes : List Node) (inputs : List Bool) (fill : Lit) (f : Bool) (n : ℕ) (xs : List Lit) → lit_value nodes inputs fill ≡ f
    → values nodes inputs (moved_bits false fill n xs) ≡ drop n (values nodes inputs xs) ++ replicate n f
values-down nodes inputs fill f n xs e =
    values-append nodes inputs (drop n xs) (replicate n fill)
    ∙ (λ i. values-drop nodes inputs n xs i ++ (values-replicate nodes inputs n fill ∙ ap (replicate n) e) i)

-- one bit of the count
chosen : (f c : Bool) (ms xs : List Bool) (step : ℕ) → length ms ≡ length xs → number_of_bits (turned f ms) ≡ number_of_bits (turned f xs) / 2 ^ step
    → number_of_bits (turned f (ripple_bits Choice c ms xs)) ≡ number_of_bits (turned f xs) / 2 ^ (step * bit_number c)
chosen f true ms xs step l e =
    let once : step ≡ step * 1 = omega arith in
    ap (λ bs. number_of_bits (turned f bs)) (choice_bits true ms xs l) ∙ e ∙ ap (λ k. number_of_bits (turned f xs) / 2 ^ k) once
chosen f false ms xs step l e =
    let none : 0 ≡ step * 0 = omega arith in
    let whole : number_of_bits (turned f xs) ≡ number_of_bits (turned f xs) / 2 ^ 0 = omega arith in
    ap (λ bs. number_of_bits (turned f bs)) (choice_bits false ms xs l) ∙ whole ∙ ap (λ k. number_of_bits (turned f xs) / 2 ^ k) none

joined_steps : (step b n x : ℕ) → x / 2 ^ (step * b) / 2 ^ (2 * step * n) ≡ x / 2 ^ (step * (b + 2 * n))
joined_steps step b n x =
    let sum : step * b + 2 * step * n ≡ step * (b + 2 * n) = grind arith in
    div-div-eq-div-mul x (2 ^ (step * b)) (2 ^ (2 * step * n)) ∙ ap (λ p. x / p) (sym (pow-add 2 (step * b) (2 * step * n)) ∙ ap (λ k. 2 ^ k) sum)

-- a shift down divides by the power of two that the count says
pub shift_down : (ns : List Node) (inputs : List Bool) (fill : Lit) (f : Bool) (xs cs : List Lit) (step : ℕ) → IsCircuit ns → fill.node < length ns → AreThere ns xs → AreThere ns cs → step * 2 ^ length cs ≤ length xs
    → lit_value ns inputs fill ≡ f
    → number_of_bits (turned f (values (shift_built ns false fill xs cs step).nodes inputs (shift_built ns false fill xs cs step).bits)) ≡ number_of_bits (turned f (values ns inputs xs)) / 2 ^ (step * number_of_bits (values ns inputs cs))
unfolding shift_built
shift_down ns inputs fill f xs [] step h t p q l v =
    let x = number_of_bits (turned f (values ns inputs xs)) in
    let none : 0 ≡ step * 0 = omega arith in
    let whole : x ≡ x / 2 ^ 0 = omega arith in
    whole ∙ ap (λ k. x / 2 ^ k) none
shift_down ns inputs fill f xs (c ∷ cs) step h t p q l v =
    let power : step * 2 ^ suc (length cs) ≡ 2 * step * 2 ^ length cs = (let d = pow-suc 2 (length cs) in ap (λ k. step * k) d ∙ grind arith) in
    let some : step * 1 ≤ step * 2 ^ suc (length cs) = mul-le-mul_left step (pow_pos (suc (length cs))) in
    let within : step ≤ length xs = omega arith in
    let ms = moved_bits false fill step xs in
    let long : length ms ≡ length xs = moved_length false fill step xs within in
    let m = ripple_built ns Choice c ms xs in
    let makes = ripple-makes Choice ns c ms xs h q.0 (AreThere-moved ns false fill step xs t p) p long in
    let wide : length m.bits ≡ length xs = ripple_width ns Choice c ms xs m refl long ∙ long in
    let filled : fill.node < length m.nodes = omega (arith, Grows-length ns m.nodes makes.grows) in
    let rest = shift_down m.nodes inputs fill f m.bits cs (2 * step) makes.circuit filled makes.there (AreThere-later ns m.nodes cs makes.grows q.1) (omega arith) (Grows-keeps ns m.nodes makes.grows inputs fill t ∙ v) in
    let moved = ap (λ bs. number_of_bits (turned f bs)) (values-down ns inputs fill f step xs v) ∙ turned_down f step (values ns inputs xs) in
    let here = ap (λ bs. number_of_bits (turned f bs)) (makes.bits inputs) ∙ chosen f (lit_value ns inputs c) (values ns inputs ms) (values ns inputs xs) step (values_length ns inputs ms ∙ long ∙ sym (values_length ns inputs xs)) moved in
    rest ∙ (λ i. here i / 2 ^ (2 * step * number_of_bits (values-later ns m.nodes inputs cs makes.grows q.1 i)))
    ∙ joined_steps step (bit_number (lit_value ns inputs c)) (number_of_bits (values ns inputs cs)) (number_of_bits (turned f (values ns inputs xs)))
