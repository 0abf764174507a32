-- The circuit of a product has the bits of the product.
use Rattle.std.proofs.Common.{◌≡◌, ℕ, zero, suc, ◌+◌, ◌-◌, ◌*◌, ◌<◌, ◌≤◌, ◌^◌, ◌%◌, ◌/◌, Bool, true, false, List, [], ◌∷◌, length, take, drop, get_or, replicate, refl, sym, ap, ◌∙◌, arith, length-take, add-zero}
use Rattle.std.proofs.Math.Nat.{pow-suc, mul_comm, add-mod, mod-lt, mod-mod, div-add-mod'}
use Rattle.std.proofs.Math.Arith.{digits_mod}
use Rattle.std.proofs.Math.Seq.{take-length}
use Rattle.std.proofs.Math.Pow.{pow_pos}
use Rattle.std.proofs.lemmas.Nat.{mul-mod_first}
use Rattle.std.proofs.lemmas.List.{take-map, length-replicate}
use Rattle.aig_build.specs.declared.lits.Lit.{Lit}
use Rattle.aig_build.specs.Circuits.{Node, IsCircuit, Grows, constant, lit_value}
use Rattle.aig_build.proofs.Gates.{constant_value}
use Rattle.aig_build.proofs.Nodes.{Grows-refl, Grows-trans, Grows-keeps, Grows-length}
use Rattle.bit_words.specs.declared.cells.Cell.TheVariants.{Sum, And}
use Rattle.bit_words.specs.Built.{MadeBits, cell_built, ripple_built, row_built, add_row_built, product_built}
use Rattle.bit_words.specs.Words.{AreThere, values, number_of_bits, bit_number}
use Rattle.bit_words.proofs.Arithmetic.{sum_modulo}
use Rattle.bit_words.proofs.RippleCarry.{AreThere-later, values-later, ripple_bits, ripple-makes, ripple_width}
use Rattle.bit_words.proofs.WordValues.{values_length, some_nodes}

-- ---- one more low bit, modulo a power of two
pub low_bit : (r m n : ℕ) → r < 2 → r + 2 * (m % 2 ^ n) ≡ (r + 2 * m) % 2 ^ suc n
low_bit r m n h =
    let split = div-add-mod' m (2 ^ n) in
    let small = mod-lt m (pow_pos n) in
    let whole : r + 2 * m ≡ m / 2 ^ n * (2 * 2 ^ n) + (r + 2 * (m % 2 ^ n)) = (let e : m / 2 ^ n * (2 * 2 ^ n) ≡ 2 * (m / 2 ^ n * 2 ^ n) = grind arith in omega arith) in
    sym (ap (λ p. (r + 2 * m) % p) (pow-suc 2 n ∙ mul_comm (2 ^ n) 2) ∙ ap (λ k. k % (2 * 2 ^ n)) whole ∙ digits_mod (m / 2 ^ n) (omega arith))

bit_small : (b : Bool) → bit_number b < 2
bit_small false = omega arith
bit_small true = omega arith

-- the lower bits of a number
pub front_number : (n : ℕ) (bs : List Bool) → n ≤ length bs → number_of_bits (take n bs) ≡ number_of_bits bs % 2 ^ n
front_number zero bs h = omega arith
front_number (suc n) [] h = absurd (omega arith)
front_number (suc n) (b ∷ bs) h = ap (λ k. bit_number b + 2 * k) (front_number n bs (omega arith)) ∙ low_bit (bit_number b) (number_of_bits bs) n (bit_small b)

-- a row: the first number, or 0
row_number : (y : Bool) (xs : List Bool) → number_of_bits (ripple_bits And false xs (replicate (length xs) y)) ≡ bit_number y * number_of_bits xs
row_number y [] = omega arith
row_number false (false ∷ xs) = omega (arith, row_number false xs)
row_number false (true ∷ xs) = omega (arith, row_number false xs)
row_number true (false ∷ xs) = omega (arith, row_number true xs)
row_number true (true ∷ xs) = omega (arith, row_number true xs)

-- the step of the product in numbers
product_step : (r m y a b n : ℕ) → r + 2 * m ≡ y * a → r < 2 → r + 2 * ((m + a % 2 ^ n * b % 2 ^ n) % 2 ^ n) ≡ a * (y + 2 * b) % 2 ^ suc n
product_step r m y a b n e h =
    let p = 2 ^ n in
    let inner : (m + a % p * b % p) % p ≡ (m + a * b) % p = ap (λ k. (m + k) % p) (mul-mod_first a b p) ∙ add-mod m (a * b % p) p ∙ ap (λ k. (m % p + k) % p) (mod-mod (a * b) p) ∙ sym (add-mod m (a * b) p) in
    let whole : r + 2 * (m + a * b) ≡ a * (y + 2 * b) = (let f : a * (y + 2 * b) ≡ y * a + 2 * (a * b) = grind arith in omega arith) in
    ap (λ k. r + 2 * k) inner ∙ low_bit r (m + a * b) n h ∙ ap (λ k. k % 2 ^ suc n) whole

-- ---- the circuit
pub AreThere-take : (nodes : List Node) (n : ℕ) (xs : List Lit) → AreThere nodes xs → AreThere nodes (take n xs)
AreThere-take nodes zero xs t = tt
AreThere-take nodes (suc n) [] t = tt
AreThere-take nodes (suc n) (x ∷ xs) t = (t.0, AreThere-take nodes n xs t.1)

pub AreThere-replicate : (nodes : List Node) (n : ℕ) (x : Lit) → x.node < length nodes → AreThere nodes (replicate n x)
AreThere-replicate nodes zero x h = tt
AreThere-replicate nodes (suc n) x h = (h, AreThere-replicate nodes n x h)

pub values-replicate : (nodes : List Node) (inputs : List Bool) (n : ℕ) (x : Lit) → values nodes inputs (replicate n x) ≡ replicate n (lit_value nodes inputs x)
values-replicate nodes inputs zero x = refl
values-replicate nodes inputs (suc n) x = ap (λ bs. lit_value nodes inputs x ∷ bs) (values-replicate nodes inputs n x)

length_front : (n : ℕ) (xs : List Lit) → n ≤ length xs → length (take n xs) ≡ n
length_front n xs h = simp length-take (omega arith)

pub record MakesProduct (old : List Node) (xs ys : List Lit) (m : MadeBits) : Type 0 where
  pub circuit : IsCircuit m.nodes
  pub grows : Grows old m.nodes
  pub there : AreThere m.nodes m.bits
  pub width : length m.bits ≡ length xs
  pub value : (inputs : List Bool) → number_of_bits (values m.nodes inputs m.bits) ≡ number_of_bits (values old inputs xs) * number_of_bits (values old inputs ys) % 2 ^ length xs

-- what comes of a row, the product with the other bits, and their sum
Grows-there : (old new : List Node) (x : Lit) → Grows old new → x.node < length old → x.node < length new
Grows-there old new x g h = omega (arith, Grows-length old new g)

pub joined_makes : (old row high sum : List Node) (x y lowest : Lit) (xs ys rows highs sums : List Lit) → IsCircuit sum → Grows old row → Grows row high → Grows high sum
    → AreThere old (x ∷ xs) → AreThere old (y ∷ ys) → length ys ≡ length xs
    → AreThere row (lowest ∷ rows) → length rows ≡ length xs
    → ((inputs : List Bool) → number_of_bits (values row inputs (lowest ∷ rows)) ≡ bit_number (lit_value old inputs y) * number_of_bits (values old inputs (x ∷ xs)))
    → length highs ≡ length xs
    → ((inputs : List Bool) → number_of_bits (values high inputs highs) ≡ number_of_bits (values row inputs (take (length xs) (x ∷ xs))) * number_of_bits (values row inputs ys) % 2 ^ length xs)
    → AreThere sum sums → length sums ≡ length xs
    → ((inputs : List Bool) → number_of_bits (values sum inputs sums) ≡ (number_of_bits (values high inputs rows) + number_of_bits (values high inputs highs)) % 2 ^ length xs)
    → MakesProduct old (x ∷ xs) (y ∷ ys) (record { nodes = sum; bits = lowest ∷ sums; carry = constant false })
joined_makes old row high sum x y lowest xs ys rows highs sums circuit g g' g'' p q same rt rw_ re hw he st sw se = record {
  circuit = circuit;
  grows = Grows-trans _ _ _ g (Grows-trans _ _ _ g' g'');
  there = (Grows-there row sum lowest (Grows-trans _ _ _ g' g'') rt.0, st);
  width = ap suc sw;
  value = λ inputs.
      let a = number_of_bits (values old inputs (x ∷ xs)) in
      let n = length xs in
      let front : number_of_bits (values row inputs (take n (x ∷ xs))) ≡ a % 2 ^ n =
      ap number_of_bits (values-later old row inputs (take n (x ∷ xs)) g (AreThere-take old n (x ∷ xs) p) ∙ sym (take-map (lit_value old inputs) n (x ∷ xs)))
      ∙ front_number n (values old inputs (x ∷ xs)) (let e = values_length old inputs (x ∷ xs) in omega arith) in
      let others : number_of_bits (values row inputs ys) ≡ number_of_bits (values old inputs ys) = ap number_of_bits (values-later old row inputs ys g q.1) in
      let carried : number_of_bits (values high inputs rows) ≡ number_of_bits (values row inputs rows) = ap number_of_bits (values-later row high inputs rows g' rt.1) in
      let lowest_same : lit_value sum inputs lowest ≡ lit_value row inputs lowest = Grows-keeps row sum (Grows-trans _ _ _ g' g'') inputs lowest rt.0 in
      (λ i. bit_number (lowest_same i) + 2 * (se inputs ∙ (λ j. (carried j + (he inputs ∙ (λ k. front k * others k % 2 ^ n)) j) % 2 ^ n)) i)
      ∙ product_step (bit_number (lit_value row inputs lowest)) (number_of_bits (values row inputs rows)) (bit_number (lit_value old inputs y)) a (number_of_bits (values old inputs ys)) n (re inputs) (bit_small _);
}

row_value : (old : List Node) (inputs : List Bool) (xs : List Lit) (y : Lit) (n : ℕ) → IsCircuit old → length xs ≡ n
    → number_of_bits (ripple_bits And (lit_value old inputs (constant false)) (values old inputs xs) (values old inputs (replicate n y))) ≡ bit_number (lit_value old inputs y) * number_of_bits (values old inputs xs)
row_value old inputs xs y n h e =
    (λ i. number_of_bits (ripple_bits And (constant_value old (constant false) inputs h refl i) (values old inputs xs) (values-replicate old inputs n y i)))
    ∙ ap (λ k. number_of_bits (ripple_bits And false (values old inputs xs) (replicate k (lit_value old inputs y)))) (sym (values_length old inputs xs ∙ e))
    ∙ row_number (lit_value old inputs y) (values old inputs xs)

sum_number : (old : List Node) (inputs : List Bool) (xs ys : List Lit) (n : ℕ) → IsCircuit old → length xs ≡ n → length ys ≡ n
    → number_of_bits (ripple_bits Sum (lit_value old inputs (constant false)) (values old inputs xs) (values old inputs ys)) ≡ (number_of_bits (values old inputs xs) + number_of_bits (values old inputs ys)) % 2 ^ n
sum_number old inputs xs ys n h e f =
    ap (λ c. number_of_bits (ripple_bits Sum c (values old inputs xs) (values old inputs ys))) (constant_value old (constant false) inputs h refl)
    ∙ sum_modulo false (values old inputs xs) (values old inputs ys) (values_length old inputs xs ∙ e ∙ sym f ∙ sym (values_length old inputs ys))
    ∙ (λ i. add-zero (number_of_bits (values old inputs xs) + number_of_bits (values old inputs ys)) i % 2 ^ (values_length old inputs xs ∙ e) i)

pub product-makes : (ns : List Node) (xs ys : List Lit) → IsCircuit ns → AreThere ns xs → AreThere ns ys → length xs ≡ length ys → MakesProduct ns xs ys (product_built ns xs ys)
unfolding product_built ripple_built
product-makes ns [] [] h p q e = record { circuit = h; grows = Grows-refl ns; there = tt; width = refl; value = λ inputs. refl }
product-makes ns [] (y ∷ ys) h p q e = absurd (omega arith)
product-makes ns (x ∷ xs) [] h p q e = absurd (omega arith)
product-makes ns (x ∷ xs) (y ∷ ys) h p q e =
    let n = length xs in
    let none = constant false in
    let cell = cell_built ns And x y none in
    let rest = ripple_built cell.nodes And cell.carry xs (replicate n y) in
    let same : length (x ∷ xs) ≡ length (replicate (suc n) y) = sym (length-replicate (suc n) y) in
    let row = ripple-makes And ns none (x ∷ xs) (replicate (suc n) y) h (some_nodes ns h) p (AreThere-replicate ns (suc n) y q.0) same in
    let wide = ripple_width ns And none (x ∷ xs) (replicate (suc n) y) _ refl same in
    let rows_wide : length rest.bits ≡ n = omega arith in
    let front = length_front n (x ∷ xs) (omega arith) in
    let high = product-makes rest.nodes (take n (x ∷ xs)) ys row.circuit (AreThere-take rest.nodes n (x ∷ xs) (AreThere-later ns rest.nodes (x ∷ xs) row.grows p)) (AreThere-later ns rest.nodes ys row.grows q.1) (front ∙ (let f : n ≡ length ys = omega arith in f)) in
    let highs = product_built rest.nodes (take n (x ∷ xs)) ys in
    let highs_wide : length highs.bits ≡ n = high.width ∙ front in
    let sum = ripple-makes Sum highs.nodes none rest.bits highs.bits high.circuit (some_nodes highs.nodes high.circuit) (AreThere-later rest.nodes highs.nodes rest.bits high.grows row.there.1) high.there (rows_wide ∙ sym highs_wide) in
    let sums = ripple_built highs.nodes Sum none rest.bits highs.bits in
    joined_makes ns rest.nodes highs.nodes sums.nodes x y cell.sum xs ys rest.bits highs.bits sums.bits sum.circuit row.grows high.grows sum.grows
    p q (omega arith) row.there rows_wide
    (λ inputs. ap number_of_bits (row.bits inputs) ∙ row_value ns inputs (x ∷ xs) y (suc n) h refl)
    highs_wide
    (λ inputs. high.value inputs ∙ ap (λ k. number_of_bits (values rest.nodes inputs (take n (x ∷ xs))) * number_of_bits (values rest.nodes inputs ys) % 2 ^ k) front)
    sum.there
    (ripple_width highs.nodes Sum none rest.bits highs.bits _ refl (rows_wide ∙ sym highs_wide) ∙ rows_wide)
    (λ inputs. ap number_of_bits (sum.bits inputs) ∙ sum_number highs.nodes inputs rest.bits highs.bits n high.circuit rows_wide highs_wide)

-- ---- slices
pub tail_is : (xs : List Lit) → take (length xs - 1) (drop 1 xs) ≡ drop 1 xs
tail_is [] = refl
tail_is (x ∷ xs) = ap (λ n. take n xs) (let e : suc (length xs) - 1 ≡ length xs = omega arith in e) ∙ take-length xs

pub AreThere-tail : (nodes : List Node) (xs : List Lit) → AreThere nodes xs → AreThere nodes (drop 1 xs)
AreThere-tail nodes [] t = tt
AreThere-tail nodes (x ∷ xs) t = t.1

pub product_unfolds : (ns : List Node) (xs ys : List Lit) (d : Lit) → 0 < length xs → 0 < length ys
    → (row : MadeBits) → row_built ns xs (get_or ys 0 d) ≡ row
    → product_built ns xs ys ≡ add_row_built (product_built row.nodes (take (length xs - 1) xs) (drop 1 ys)).nodes row.bits (product_built row.nodes (take (length xs - 1) xs) (drop 1 ys)).bits
unfolding product_built
product_unfolds ns [] ys d p q row e = absurd (omega arith)
product_unfolds ns (x ∷ xs) [] d p q row e = absurd (omega arith)
product_unfolds ns (x ∷ xs) (y ∷ ys) d p q row e =
    let at : length xs ≡ suc (length xs) - 1 = omega arith in
    λ i. add_row_built (product_built (e i).nodes (take (at i) (x ∷ xs)) ys).nodes (e i).bits (product_built (e i).nodes (take (at i) (x ∷ xs)) ys).bits

pub product_from : (ns n1 n2 : List Node) (xs ys rows highs : List Lit) (d : Lit) (r : MadeBits) → 0 < length xs → 0 < length ys
    → (row_built ns xs (get_or ys 0 d)).nodes ≡ n1 → (row_built ns xs (get_or ys 0 d)).bits ≡ rows
    → product_built n1 (take (length xs - 1) xs) (take (length ys - 1) (drop 1 ys)) ≡ record { nodes = n2; bits = highs; carry = constant false }
    → add_row_built n2 rows highs ≡ r → product_built ns xs ys ≡ r
product_from ns n1 n2 xs ys rows highs d r p q e f h k =
    product_unfolds ns xs ys d p q _ refl
    ∙ (λ i. add_row_built (product_built (e i) (take (length xs - 1) xs) (sym (tail_is ys) i)).nodes (f i) (product_built (e i) (take (length xs - 1) xs) (sym (tail_is ys) i)).bits)
    ∙ (λ i. add_row_built (h i).nodes rows (h i).bits) ∙ k

pub product_of_none : (ns : List Node) (xs ys : List Lit) → length xs ≡ length ys → length ys ≡ 0 → product_built ns xs ys ≡ record { nodes = ns; bits = []; carry = constant false }
unfolding product_built
product_of_none ns [] [] e z = refl
product_of_none ns (x ∷ xs) [] e z = refl
product_of_none ns [] (y ∷ ys) e z = refl
product_of_none ns (x ∷ xs) (y ∷ ys) e z = absurd (omega arith)
