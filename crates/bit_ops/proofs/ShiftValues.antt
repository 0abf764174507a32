-- The circuit of a shift up has the bits of the product by a power of two.
use Rattle.std.proofs.Common.{◌≡◌, ℕ, zero, suc, ◌+◌, ◌-◌, ◌*◌, ◌<◌, ◌≤◌, ◌^◌, ◌%◌, Bool, true, false, List, [], ◌∷◌, ◌++◌, length, take, replicate, refl, sym, ap, ◌∙◌, arith, subst, add-zero}
use Rattle.std.proofs.lemmas.List.{take-map, length-replicate}
use Rattle.std.proofs.lemmas.Nat.{pow-add, mul-mod_second}
use Rattle.std.proofs.Math.Nat.{mod-eq_of_lt, mul-le-mul_left, mul_assoc, pow-suc}
use Rattle.std.proofs.Math.Pow.{pow_pos}
use Rattle.aig_build.specs.declared.lits.Lit.{Lit}
use Rattle.aig_build.specs.Circuits.{Node, IsCircuit, constant, lit_value}
use Rattle.aig_build.proofs.Gates.{constant_value}
use Rattle.bit_words.specs.declared.cells.Cell.TheVariants.{Choice}
use Rattle.bit_words.specs.Built.{ripple_built}
use Rattle.bit_ops.specs.Built.{moved_bits, shift_built}
use Rattle.bit_words.specs.Words.{AreThere, values, bit_number, number_of_bits}
use Rattle.bit_words.proofs.Arithmetic.{below_power}
use Rattle.bit_words.proofs.ConvertValues.{number_append, number_zeros, values-append}
use Rattle.bit_words.proofs.Multiplication.{front_number, low_bit, values-replicate}
use Rattle.bit_words.proofs.PlacedValues.{choice_bits}
use Rattle.bit_words.proofs.RippleCarry.{AreThere-later, values-later, ripple_bits, ripple-makes, ripple_width}
use Rattle.bit_ops.proofs.ShiftingSteps.{AreThere-moved, moved_length}
use Rattle.bit_words.proofs.SignedOrder.{double_power}
use Rattle.bit_words.proofs.WordValues.{values_length, some_nodes}

one_times : (y : ℕ) → 2 ^ 0 * y ≡ y
one_times y = omega arith

twice : (m k : ℕ) → 2 * (m % 2 ^ k) ≡ (2 * m) % 2 ^ suc k
twice m k =
    let begin : 2 * (m % 2 ^ k) ≡ 0 + 2 * (m % 2 ^ k) = omega arith in
    let end : 0 + 2 * m ≡ 2 * m = omega arith in
    begin ∙ low_bit 0 m k (omega arith) ∙ ap (λ q. q % 2 ^ suc k) end

scaled : (n x j : ℕ) → 2 ^ n * (x % 2 ^ j) ≡ (2 ^ n * x) % 2 ^ (j + n)
scaled zero x j = one_times (x % 2 ^ j) ∙ (λ i. sym (one_times x) i % 2 ^ sym (add-zero j) i)
scaled (suc n) x j =
    let e : suc (j + n) ≡ j + suc n = omega arith in
    double_power n (x % 2 ^ j) ∙ ap (λ k. 2 * k) (scaled n x j) ∙ twice (2 ^ n * x) (j + n) ∙ (λ i. sym (double_power n x) i % 2 ^ e i)

-- zeros below
number_up : (n : ℕ) (zs : List Bool) → number_of_bits (replicate n false ++ zs) ≡ 2 ^ n * number_of_bits zs
number_up n zs =
    let plus_none : 0 + 2 ^ n * number_of_bits zs ≡ 2 ^ n * number_of_bits zs = omega arith in
    number_append (replicate n false) zs ∙ (λ i. number_zeros n i + 2 ^ length-replicate n false i * number_of_bits zs) ∙ plus_none

moved_number : (n : ℕ) (bs : List Bool) → n ≤ length bs → number_of_bits (replicate n false ++ take (length bs - n) bs) ≡ 2 ^ n * number_of_bits bs % 2 ^ length bs
moved_number n bs h =
    let back : length bs - n + n ≡ length bs = omega arith in
    number_up n (take (length bs - n) bs) ∙ ap (λ k. 2 ^ n * k) (front_number (length bs - n) bs (omega arith)) ∙ scaled n (number_of_bits bs) (length bs - n) ∙ ap (λ k. 2 ^ n * number_of_bits bs % 2 ^ k) back

values-moved : (nodes : List Node) (inputs : List Bool) (n : ℕ) (xs : List Lit) → IsCircuit nodes
    → values nodes inputs (moved_bits true (constant false) n xs) ≡ replicate n false ++ take (length (values nodes inputs xs) - n) (values nodes inputs xs)
values-moved nodes inputs n xs h =
    values-append nodes inputs (replicate n (constant false)) (take (length xs - n) xs)
    ∙ (λ i. (values-replicate nodes inputs n (constant false) ∙ ap (replicate n) (constant_value nodes (constant false) inputs h refl)) i ++ sym (take-map (lit_value nodes inputs) (length xs - n) xs) i)
    ∙ ap (λ k. replicate n false ++ take (k - n) (values nodes inputs xs)) (sym (values_length nodes inputs xs))

-- one bit of the count
chosen : (c : Bool) (ms xs : List Bool) (step w : ℕ) → length ms ≡ length xs → length xs ≡ w → number_of_bits ms ≡ 2 ^ step * number_of_bits xs % 2 ^ w
    → number_of_bits (ripple_bits Choice c ms xs) ≡ 2 ^ (step * bit_number c) * number_of_bits xs % 2 ^ w
chosen true ms xs step w l e f =
    let once : step ≡ step * 1 = omega arith in
    ap number_of_bits (choice_bits true ms xs l) ∙ f ∙ ap (λ k. 2 ^ k * number_of_bits xs % 2 ^ w) once
chosen false ms xs step w l e f =
    let none : 0 ≡ step * 0 = omega arith in
    let small : number_of_bits xs < 2 ^ w = subst (λ k. number_of_bits xs < 2 ^ k) e (below_power xs) in
    ap number_of_bits (choice_bits false ms xs l) ∙ sym (mod-eq_of_lt small) ∙ ap (λ k. k % 2 ^ w) (sym (one_times (number_of_bits xs))) ∙ ap (λ k. 2 ^ k * number_of_bits xs % 2 ^ w) none

joined_steps : (step b n x w : ℕ) → 2 ^ (2 * step * n) * (2 ^ (step * b) * x % 2 ^ w) % 2 ^ w ≡ 2 ^ (step * (b + 2 * n)) * x % 2 ^ w
joined_steps step b n x w =
    let sum : 2 * step * n + step * b ≡ step * (b + 2 * n) = grind arith in
    mul-mod_second (2 ^ (2 * step * n)) (2 ^ (step * b) * x) (2 ^ w)
    ∙ ap (λ k. k % 2 ^ w) (sym (mul_assoc (2 ^ (2 * step * n)) (2 ^ (step * b)) x) ∙ ap (λ p. p * x) (sym (pow-add 2 (2 * step * n) (step * b)) ∙ ap (λ k. 2 ^ k) sum))

-- a shift up multiplies by the power of two that the count says, modulo 2 ^ w
pub shift_up : (ns : List Node) (inputs : List Bool) (xs cs : List Lit) (step w : ℕ) → IsCircuit ns → AreThere ns xs → AreThere ns cs → length xs ≡ w → step * 2 ^ length cs ≤ w
    → number_of_bits (values (shift_built ns true (constant false) xs cs step).nodes inputs (shift_built ns true (constant false) xs cs step).bits) ≡ 2 ^ (step * number_of_bits (values ns inputs cs)) * number_of_bits (values ns inputs xs) % 2 ^ w
unfolding shift_built
shift_up ns inputs xs [] step w h p q e l =
    let x = number_of_bits (values ns inputs xs) in
    let none : 0 ≡ step * 0 = omega arith in
    let small : x < 2 ^ w = subst (λ k. x < 2 ^ k) (values_length ns inputs xs ∙ e) (below_power (values ns inputs xs)) in
    sym (mod-eq_of_lt small) ∙ ap (λ k. k % 2 ^ w) (sym (one_times x)) ∙ ap (λ k. 2 ^ k * x % 2 ^ w) none
shift_up ns inputs xs (c ∷ cs) step w h p q e l =
    let power : step * 2 ^ suc (length cs) ≡ 2 * step * 2 ^ length cs = (let d = pow-suc 2 (length cs) in ap (λ k. step * k) d ∙ grind arith) in
    let some : step * 1 ≤ step * 2 ^ suc (length cs) = mul-le-mul_left step (pow_pos (suc (length cs))) in
    let within : step ≤ length xs = omega arith in
    let ms = moved_bits true (constant false) step xs in
    let long : length ms ≡ length xs = moved_length true (constant false) step xs within in
    let m = ripple_built ns Choice c ms xs in
    let makes = ripple-makes Choice ns c ms xs h q.0 (AreThere-moved ns true (constant false) step xs (some_nodes ns h) p) p long in
    let wide : length m.bits ≡ w = ripple_width ns Choice c ms xs m refl long ∙ long ∙ e in
    let rest = shift_up m.nodes inputs m.bits cs (2 * step) w makes.circuit makes.there (AreThere-later ns m.nodes cs makes.grows q.1) wide (omega arith) in
    let moved = ap number_of_bits (values-moved ns inputs step xs h) ∙ moved_number step (values ns inputs xs) (let v = values_length ns inputs xs in omega arith) ∙ ap (λ k. 2 ^ step * number_of_bits (values ns inputs xs) % 2 ^ k) (values_length ns inputs xs ∙ e) in
    let here = ap number_of_bits (makes.bits inputs) ∙ chosen (lit_value ns inputs c) (values ns inputs ms) (values ns inputs xs) step w (values_length ns inputs ms ∙ long ∙ sym (values_length ns inputs xs)) (values_length ns inputs xs ∙ e) moved in
    rest ∙ (λ i. 2 ^ (2 * step * number_of_bits (values-later ns m.nodes inputs cs makes.grows q.1 i)) * here i % 2 ^ w)
    ∙ joined_steps step (bit_number (lit_value ns inputs c)) (number_of_bits (values ns inputs cs)) (number_of_bits (values ns inputs xs)) w
