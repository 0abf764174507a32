-- The circuit of a long division has the bits of the quotient and of the remainder.
use Rattle.std.proofs.Common.{◌≡◌, ℕ, suc, ◌+◌, ◌-◌, ◌*◌, ◌/◌, ◌<◌, ◌≤◌, ◌^◌, ◌%◌, Bool, true, false, not, cond, List, [], ◌∷◌, ◌++◌, length, map, take, replicate, refl, sym, ap, ◌∙◌, arith, subst, length-take}
use Rattle.std.proofs.lemmas.List.{take-map, length-replicate}
use Rattle.std.proofs.Math.Nat.{pow-suc, mul_comm, mod-eq_of_lt, div-eq_of_lt-le, add-mul-mod_self_right}
use Rattle.aig_build.specs.declared.lits.Lit.{Lit}
use Rattle.aig_build.specs.Circuits.{Node, IsCircuit, Grows, constant, opposite, lit_value}
use Rattle.aig_build.proofs.Gates.{constant_value}
use Rattle.aig_build.proofs.Nodes.{Grows-refl, Grows-trans, Grows-keeps, Grows-length}
use Rattle.bit_words.specs.declared.cells.Cell.TheVariants.{Sum, Choice}
use Rattle.bit_words.specs.Built.{ripple_built}
use Rattle.bit_words.specs.Words.{AreThere, values, bit_number, number_of_bits}
use Rattle.bit_words.proofs.Arithmetic.{below_power, sum_is}
use Rattle.bit_words.proofs.ConvertValues.{AreThere-append, number_append, values-append}
use Rattle.bit_words.proofs.LessValues.{zeros}
use Rattle.bit_words.proofs.Multiplication.{AreThere-take, AreThere-replicate, front_number}
use Rattle.bit_words.proofs.PlacedValues.{AreThere-flipped, choice_bits, flipped_length, flipped_number, values-flipped}
use Rattle.bit_words.proofs.RippleCarry.{AreThere-later, values-later, ripple_bits, ripple_carry, ripple-makes, ripple_width}
use Rattle.bit_words.proofs.WordValues.{values_length, some_nodes}
use Rattle.bit_ops.specs.Built.{MadePlace, MadeQuotient, place_built, quotient_built}

-- ---- one place, in numbers
place_numbers : (fits : Bool) (s l d p pp r : ℕ) → pp ≡ 2 * p → l + pp * bit_number fits ≡ s + (pp - d) → d < p → s < 2 * d → l < pp → r ≡ cond fits (l % p) (s % p) → (r + bit_number fits * d ≡ s) × (r < d)
place_numbers true s l d p pp r e f small below under g =
    let rest : l % p ≡ l = mod-eq_of_lt (omega arith) in
    (omega arith, omega arith)
place_numbers false s l d p pp r e f small below under g =
    let rest : s % p ≡ s = mod-eq_of_lt (omega arith) in
    (omega arith, omega arith)

length-push : (xs : List Lit) (y : Lit) → length (xs ++ y ∷ []) ≡ suc (length xs)
length-push [] y = refl
length-push (x ∷ xs) y = ap suc (length-push xs y)

front_length : (n : ℕ) (xs : List Lit) → n ≤ length xs → length (take n xs) ≡ n
front_length n xs h = simp length-take (omega arith)

bit_small : (b : Bool) → bit_number b < 2
bit_small false = omega arith
bit_small true = omega arith

not_length : (xs : List Bool) → length (map not xs) ≡ length xs
not_length [] = refl
not_length (x ∷ xs) = ap suc (not_length xs)

-- the opposite of each bit, and a 1 above them
taken_number : (ds : List Bool) → number_of_bits (map not ds ++ true ∷ []) + number_of_bits ds + 1 ≡ 2 * 2 ^ length ds
taken_number ds =
    let all = flipped_number ds in
    let parts : number_of_bits (map not ds ++ true ∷ []) ≡ number_of_bits (map not ds) + 2 ^ length ds * 1 = number_append (map not ds) (true ∷ []) ∙ ap (λ n. number_of_bits (map not ds) + 2 ^ n * 1) (not_length ds) in
    omega arith

cond-map : (f : List Bool → ℕ) (c : Bool) (xs ys : List Bool) → f (cond c xs ys) ≡ cond c (f xs) (f ys)
cond-map f true xs ys = refl
cond-map f false xs ys = refl

-- ---- one place
pub record MakesPlace (old : List Node) (x : Lit) (rest ds : List Lit) (m : MadePlace) : Type 0 where
  pub circuit : IsCircuit m.nodes
  pub grows : Grows old m.nodes
  pub fits_there : m.fits.node < length m.nodes
  pub rest_there : AreThere m.nodes m.rest
  pub wide : length m.rest ≡ length ds
  pub value : (inputs : List Bool) → bit_number (lit_value old inputs x) + 2 * number_of_bits (values old inputs rest) < 2 * number_of_bits (values old inputs ds)
      → (number_of_bits (values m.nodes inputs m.rest) + bit_number (lit_value m.nodes inputs m.fits) * number_of_bits (values old inputs ds) ≡ bit_number (lit_value old inputs x) + 2 * number_of_bits (values old inputs rest))
      × (number_of_bits (values m.nodes inputs m.rest) < number_of_bits (values old inputs ds))

pub place-makes : (old : List Node) (x : Lit) (rest ds : List Lit) → IsCircuit old → x.node < length old → AreThere old rest → AreThere old ds → length rest ≡ length ds → MakesPlace old x rest ds (place_built old x rest ds)
unfolding place_built
place-makes old x rest ds h t p q e =
    let w = length ds in
    let so_far = x ∷ rest in
    let taken = map opposite ds ++ constant true ∷ [] in
    let some = some_nodes old h in
    let taken_there : AreThere old taken = AreThere-append old (map opposite ds) (constant true ∷ []) (AreThere-flipped old ds q) (some, tt) in
    let taken_long : length taken ≡ suc w = length-push (map opposite ds) (constant true) ∙ ap suc (flipped_length ds) in
    let same : length so_far ≡ length taken = ap suc e ∙ sym taken_long in
    let less = ripple_built old Sum (constant true) so_far taken in
    let l = ripple-makes Sum old (constant true) so_far taken h some (t, p) taken_there same in
    let less_long : length less.bits ≡ suc w = ripple_width old Sum (constant true) so_far taken less refl same ∙ ap suc e in
    let so_far_later : AreThere less.nodes so_far = AreThere-later old less.nodes so_far l.grows (t, p) in
    let fronts : length (take w less.bits) ≡ length (take w so_far) = front_length w less.bits (omega arith) ∙ sym (front_length w so_far (omega arith)) in
    let left = ripple_built less.nodes Choice less.carry (take w less.bits) (take w so_far) in
    let c = ripple-makes Choice less.nodes less.carry (take w less.bits) (take w so_far) l.circuit l.carry_there (AreThere-take less.nodes w less.bits l.there) (AreThere-take less.nodes w so_far so_far_later) fronts in
    record {
      circuit = c.circuit;
      grows = Grows-trans _ _ _ l.grows c.grows;
      fits_there = let f = l.carry_there in omega (arith, Grows-length less.nodes left.nodes c.grows);
      rest_there = c.there;
      wide = ripple_width less.nodes Choice less.carry (take w less.bits) (take w so_far) left refl fronts ∙ front_length w less.bits (omega arith);
      value = λ inputs small.
          let xs = values old inputs so_far in
          let dv = values old inputs ds in
          let ys = values old inputs taken in
          let fits = lit_value less.nodes inputs less.carry in
          let long : length xs ≡ suc w = values_length old inputs so_far ∙ ap suc e in
          let lv = values less.nodes inputs less.bits in
          let sum : number_of_bits lv + 2 ^ suc w * bit_number fits ≡ number_of_bits xs + number_of_bits ys + 1 =
          (λ i. number_of_bits (l.bits inputs i) + 2 ^ sym long i * bit_number (l.carries inputs i))
          ∙ ap (λ b. number_of_bits (ripple_bits Sum b xs ys) + 2 ^ length xs * bit_number (ripple_carry Sum b xs ys)) (constant_value old (constant true) inputs h refl)
          ∙ sum_is true xs ys (values_length old inputs so_far ∙ same ∙ sym (values_length old inputs taken)) in
          let ys_are : ys ≡ map not dv ++ true ∷ [] = values-append old inputs (map opposite ds) (constant true ∷ []) ∙ (λ i. values-flipped old inputs ds i ++ constant_value old (constant true) inputs h refl i ∷ []) in
          let ys_number : number_of_bits ys + number_of_bits dv + 1 ≡ 2 * 2 ^ w = ap (λ zs. number_of_bits zs + number_of_bits dv + 1) ys_are ∙ taken_number dv ∙ ap (λ n. 2 * 2 ^ n) (values_length old inputs ds) in
          let d_small : number_of_bits dv < 2 ^ w = subst (λ n. number_of_bits dv < 2 ^ n) (values_length old inputs ds) (below_power dv) in
          let l_small : number_of_bits lv < 2 ^ suc w = subst (λ n. number_of_bits lv < 2 ^ n) (values_length less.nodes inputs less.bits ∙ less_long) (below_power lv) in
          let twice : 2 ^ suc w ≡ 2 * 2 ^ w = pow-suc 2 w ∙ mul_comm (2 ^ w) 2 in
          let lower : number_of_bits (values less.nodes inputs (take w less.bits)) ≡ number_of_bits lv % 2 ^ w =
          ap number_of_bits (sym (take-map (lit_value less.nodes inputs) w less.bits)) ∙ front_number w lv (let n = values_length less.nodes inputs less.bits in omega arith) in
          let upper : number_of_bits (values less.nodes inputs (take w so_far)) ≡ number_of_bits xs % 2 ^ w =
          ap number_of_bits (values-later old less.nodes inputs (take w so_far) l.grows (AreThere-take old w so_far (t, p)) ∙ sym (take-map (lit_value old inputs) w so_far)) ∙ front_number w xs (omega arith) in
          let as_bits : number_of_bits (values left.nodes inputs left.bits) ≡ cond fits (number_of_bits lv % 2 ^ w) (number_of_bits xs % 2 ^ w) =
          ap number_of_bits (c.bits inputs ∙ choice_bits fits _ _ (values_length less.nodes inputs (take w less.bits) ∙ fronts ∙ sym (values_length less.nodes inputs (take w so_far))))
          ∙ cond-map number_of_bits fits _ _ ∙ (λ i. cond fits (lower i) (upper i)) in
          let numbers = place_numbers fits (number_of_bits xs) (number_of_bits lv) (number_of_bits dv) (2 ^ w) (2 ^ suc w) _ twice (omega arith) d_small small l_small as_bits in
          let kept : lit_value left.nodes inputs less.carry ≡ fits = Grows-keeps less.nodes left.nodes c.grows inputs less.carry l.carry_there in
          (ap (λ b. number_of_bits (values left.nodes inputs left.bits) + bit_number b * number_of_bits dv) kept ∙ numbers.0, numbers.1);
    }

-- ---- all places
pub record MakesQuotient (old : List Node) (xs ds : List Lit) (m : MadeQuotient) : Type 0 where
  pub circuit : IsCircuit m.nodes
  pub grows : Grows old m.nodes
  pub quotient_there : AreThere m.nodes m.quotient
  pub rest_there : AreThere m.nodes m.remainder
  pub wide : length m.remainder ≡ length ds
  pub value : (inputs : List Bool) → 0 < number_of_bits (values old inputs ds)
      → (number_of_bits (values m.nodes inputs m.quotient) * number_of_bits (values old inputs ds) + number_of_bits (values m.nodes inputs m.remainder) ≡ number_of_bits (values old inputs xs))
      × (number_of_bits (values m.nodes inputs m.remainder) < number_of_bits (values old inputs ds))

more_places : (f q d r s x y k : ℕ) → q * d + r ≡ y → k + f * d ≡ x + 2 * r → (f + 2 * q) * d + k ≡ x + 2 * y
more_places f q d r s x y k e g =
    let parts : (f + 2 * q) * d ≡ f * d + 2 * (q * d) = grind arith in
    omega arith

pub quotient-makes : (old : List Node) (xs ds : List Lit) → IsCircuit old → AreThere old xs → AreThere old ds → MakesQuotient old xs ds (quotient_built old xs ds)
unfolding quotient_built
quotient-makes old [] ds h p q = record {
  circuit = h;
  grows = Grows-refl old;
  quotient_there = tt;
  rest_there = AreThere-replicate old (length ds) (constant false) (some_nodes old h);
  wide = length-replicate (length ds) (constant false);
  value = λ inputs some.
      let none = zeros old inputs (length ds) h in
      let no_times : 0 * number_of_bits (values old inputs ds) + number_of_bits (values old inputs (replicate (length ds) (constant false))) ≡ number_of_bits (values old inputs (replicate (length ds) (constant false))) = omega arith in
      (no_times ∙ none, omega arith);
}
quotient-makes old (x ∷ xs) ds h p q =
    let high = quotient_built old xs ds in
    let m = quotient-makes old xs ds h p.1 q in
    let x_there : x.node < length high.nodes = (let t = p.0 in omega (arith, Grows-length old high.nodes m.grows)) in
    let place = place_built high.nodes x high.remainder ds in
    let n = place-makes high.nodes x high.remainder ds m.circuit x_there m.rest_there (AreThere-later old high.nodes ds m.grows q) m.wide in
    record {
      circuit = n.circuit;
      grows = Grows-trans _ _ _ m.grows n.grows;
      quotient_there = (n.fits_there, AreThere-later high.nodes place.nodes high.quotient n.grows m.quotient_there);
      rest_there = n.rest_there;
      wide = n.wide;
      value = λ inputs some.
          let d = number_of_bits (values old inputs ds) in
          let d_same : number_of_bits (values high.nodes inputs ds) ≡ d = ap number_of_bits (values-later old high.nodes inputs ds m.grows q) in
          let x_same : bit_number (lit_value high.nodes inputs x) ≡ bit_number (lit_value old inputs x) = ap bit_number (Grows-keeps old high.nodes m.grows inputs x p.0) in
          let q_same : number_of_bits (values place.nodes inputs high.quotient) ≡ number_of_bits (values high.nodes inputs high.quotient) = ap number_of_bits (values-later high.nodes place.nodes inputs high.quotient n.grows m.quotient_there) in
          let before = m.value inputs some in
          let less = before.1 in
          let bit = bit_small (lit_value high.nodes inputs x) in
          let here = n.value inputs (omega arith) in
          let taken : number_of_bits (values place.nodes inputs place.rest) + bit_number (lit_value place.nodes inputs place.fits) * d ≡ bit_number (lit_value old inputs x) + 2 * number_of_bits (values high.nodes inputs high.remainder) =
          sym (ap (λ k. number_of_bits (values place.nodes inputs place.rest) + bit_number (lit_value place.nodes inputs place.fits) * k) d_same) ∙ here.0 ∙ ap (λ k. k + 2 * number_of_bits (values high.nodes inputs high.remainder)) x_same in
          let under = here.1 in (
            ap (λ k. (bit_number (lit_value place.nodes inputs place.fits) + 2 * k) * d + number_of_bits (values place.nodes inputs place.rest)) q_same
                ∙ more_places (bit_number (lit_value place.nodes inputs place.fits)) (number_of_bits (values high.nodes inputs high.quotient)) d (number_of_bits (values high.nodes inputs high.remainder)) 0 (bit_number (lit_value old inputs x)) (number_of_bits (values old inputs xs)) (number_of_bits (values place.nodes inputs place.rest)) before.0 taken,
            omega arith,
          );
    }

-- ---- quotient and remainder of numbers
pub divides_as : (q d r x : ℕ) → q * d + r ≡ x → r < d → (x / d ≡ q) × (x % d ≡ r)
divides_as q d r x e l =
    let next : (q + 1) * d ≡ q * d + d = grind arith in
    let swapped : x ≡ r + q * d = omega arith in
    (div-eq_of_lt-le {k = q} d {m = x} (omega arith) (omega arith), ap (λ n. n % d) swapped ∙ add-mul-mod_self_right r q d ∙ mod-eq_of_lt l)

pub quotient_numbers : (old new : List Node) (xs ds q r : List Lit) → IsCircuit old → AreThere old xs → AreThere old ds → quotient_built old xs ds ≡ record { nodes = new; quotient = q; remainder = r } → (inputs : List Bool) → 0 < number_of_bits (values old inputs ds)
    → (number_of_bits (values new inputs q) ≡ number_of_bits (values old inputs xs) / number_of_bits (values old inputs ds)) × (number_of_bits (values new inputs r) ≡ number_of_bits (values old inputs xs) % number_of_bits (values old inputs ds))
quotient_numbers old new xs ds q r h p t e inputs some =
    let m = subst (λ (m : MadeQuotient). MakesQuotient old xs ds m) e (quotient-makes old xs ds h p t) in
    let v = m.value inputs some in
    let d = divides_as (number_of_bits (values new inputs q)) (number_of_bits (values old inputs ds)) (number_of_bits (values new inputs r)) (number_of_bits (values old inputs xs)) v.0 v.1 in
    (sym d.0, sym d.1)
