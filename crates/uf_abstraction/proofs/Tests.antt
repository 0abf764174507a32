-- Literals that tell facts: conjunctions and disjunctions of such, and tests of lists of literals.
use Rattle.std.proofs.Common.{◌≡◌, ℕ, zero, suc, ◌+◌, ◌*◌, ◌/◌, ◌%◌, ◌<◌, ◌≤◌, ◌^◌, Bool, true, false, not, ◌&&◌, ◌||◌, List, [], ◌∷◌, ◌++◌, length, refl, sym, ap, ◌∙◌, subst, arith, true≢false, ◌⊎◌, inl, inr, nat_lt}
use Rattle.std.proofs.lemmas.Bool.{and_parts, and_from}
use Rattle.std.proofs.lemmas.Bool.Decides.{nat_tests}
use Rattle.std.proofs.Math.Nat.{pow-suc}
use Rattle.std.specs.Prelude.{map, replicate, ◌==◌}
use Rattle.aig_build.specs.Built.{Made, and_built}
use Rattle.aig_build.specs.Circuits.{Node, constant, opposite}
use Rattle.aig_build.specs.declared.lits.Lit.{Lit}
use Rattle.bit_words.proofs.Arithmetic.{less_is}
use Rattle.bit_words.proofs.RippleCarry.{ripple_carry}
use Rattle.bit_words.specs.Built.{negated, or_built, carried_built}
use Rattle.bit_words.specs.Words.{bit_number, number_of_bits}
use Rattle.bit_words.specs.declared.cells.Cell.TheVariants.{Less}
use Rattle.sym_values.proofs.Conjunctions.{conjunction}
use Rattle.sym_values.proofs.Ripples.{or_gives, ripple_gives}
use Rattle.sym_values.proofs.SameBits.{bits_same, long_map, map_append}
use Rattle.sym_values.proofs.Tests.{equality, constant_true}
use Rattle.sym_values.specs.Gates.{Tells}
use Rattle.sym_values.specs.Valuations.{Valuation, IsValuation}
use Rattle.uf_abstraction.specs.Testing.{equal_built, and_so, number_lits}

one_of : {X Y : Type 0} (a b : Bool) → (a || b) ≡ true → (a ≡ true → X) → (b ≡ true → Y) → X ⊎ Y
one_of true b e f g = inl (f refl)
one_of false b e f g = inr (g e)

pub left_true : (a b : Bool) → a ≡ true → (a || b) ≡ true
left_true true b e = refl
left_true false b e = absurd (true≢false (sym e))

pub right_true : (a b : Bool) → b ≡ true → (a || b) ≡ true
right_true true b e = refl
right_true false b e = e

second : (a b : Bool) → not (a && not b) ≡ true → a ≡ true → b ≡ true
second true true e p = refl
second true false e p = e
second false b e p = absurd (true≢false (sym p))

implied : (a b : Bool) → (a ≡ true → b ≡ true) → not (a && not b) ≡ true
implied false b f = refl
implied true b f = ap (λ c. not (not c)) (f refl)

-- ---- numbers

is_odd : (n : ℕ) → bit_number (n % 2 == 1) ≡ n % 2
is_odd n = by (n % 2) (omega arith)
  where
    by : (r : ℕ) → r < 2 → bit_number (r == 1) ≡ r
    by zero h = refl
    by (suc zero) h = refl
    by (suc (suc r)) h = absurd (omega arith)

zero_parts : (xs ys : List Bool) → number_of_bits (xs ++ ys) ≡ 0 → (number_of_bits xs ≡ 0) × (number_of_bits ys ≡ 0)
zero_parts [] ys e = (refl, e)
zero_parts (false ∷ xs) ys e = let rest = zero_parts xs ys (omega (arith, e)) in (omega (arith, rest.0), rest.1)
zero_parts (true ∷ xs) ys e = absurd (omega (arith, e))

zero_whole : (xs ys : List Bool) → number_of_bits xs ≡ 0 → number_of_bits ys ≡ 0 → number_of_bits (xs ++ ys) ≡ 0
zero_whole [] ys e f = f
zero_whole (false ∷ xs) ys e f = let rest = zero_whole xs ys (omega (arith, e)) f in omega (arith, rest)
zero_whole (true ∷ xs) ys e f = absurd (omega (arith, e))

with_zero : (xs : List Bool) → number_of_bits (xs ++ false ∷ []) ≡ number_of_bits xs
with_zero [] = refl
with_zero (x ∷ xs) = ap (λ n. bit_number x + 2 * n) (with_zero xs)

at_most : (m n : ℕ) → nat_lt m (n + 1) ≡ true → m ≤ n
at_most m n e = grind (arith, nat_tests)

is_at_most : (m n : ℕ) → m ≤ n → nat_lt m (n + 1) ≡ true
is_at_most m n e = grind (arith, nat_tests)

pub long_number : (w n : ℕ) → length (number_lits w n) ≡ w
long_number zero n = refl
long_number (suc w) n = ap (λ k. suc k) (long_number w _)

long_zeros : (n : ℕ) → length (replicate n (constant false)) ≡ n
long_zeros zero = refl
long_zeros (suc n) = ap (λ k. suc k) (long_zeros n)

long_push : (xs : List Lit) (x : Lit) → length (xs ++ x ∷ []) ≡ length xs + 1
long_push [] x = refl
long_push (y ∷ ys) x = let rest = long_push ys x in omega (arith, rest)

module _ (v : Valuation) where
  -- a literal of a circuit that tells a fact
  abbrev pub Says : List Node → Made → Type 0 → Type 0
  Says ns m P = Tells v ns m.nodes m.lit P

  pub nothing : (ns : List Node) → Says ns (record { nodes = ns; lit = constant true }) (Prim.Unit {0})
  nothing ns = record { back = λ h. h; holds = λ h e. tt; is_true = λ h p. constant_true v ns h }

  pub as_well : (ns : List Node) (m : Made) (P Q : Type 0) → (P → Q) → (Q → P) → Says ns m P → Says ns m Q
  as_well ns m P Q f g t = record { back = t.back; holds = λ h e. f (t.holds h e); is_true = λ h q. t.is_true h (g q) }

  -- and where the literals have the values of the circuit
  pub as_known : (ns : List Node) (m : Made) (P Q : Type 0) → (IsValuation ns v → P → Q) → (IsValuation ns v → Q → P) → Says ns m P → Says ns m Q
  as_known ns m P Q f g t = record { back = t.back; holds = λ h e. f (t.back h) (t.holds h e); is_true = λ h q. t.is_true h (g (t.back h) q) }

  pub both_say : (ns : List Node) (m n : Made) (P Q : Type 0) → Says ns m P → Says m.nodes n Q → Says ns (and_so m n) (P × Q)
  both_say ns m n P Q s t =
      let c = conjunction v n.nodes m.lit n.lit in
      record {
        back = λ h. s.back (t.back (c.back h));
        holds = λ h e.
            let g = c.back h in
            let both = and_parts (v m.lit) (v n.lit) (sym (c.is h) ∙ e) in
            (s.holds (t.back g) both.0, t.holds g both.1);
        is_true = λ h p. let g = c.back h in c.is h ∙ and_from (v m.lit) (v n.lit) (s.is_true (t.back g) p.0) (t.is_true g p.1);
      }

  -- one of the two
  pub either_says : (ns : List Node) (m n : Made) (P Q : Type 0) → Says ns m P → Says m.nodes n Q → Says ns (or_built n.nodes m.lit n.lit) (P ⊎ Q)
  either_says ns m n P Q s t =
      let c = or_gives v n.nodes m.lit n.lit in
      record {
        back = λ h. s.back (t.back (c.back h));
        holds = λ h e. let g = c.back h in one_of (v m.lit) (v n.lit) (sym (c.is h) ∙ e) (s.holds (t.back g)) (t.holds g);
        is_true = λ h p. let g = c.back h in c.is h ∙ elim p [ inl x ↦ left_true (v m.lit) (v n.lit) (s.is_true (t.back g) x) | inr y ↦ right_true (v m.lit) (v n.lit) (t.is_true g y) ];
      }

  -- the second where the first
  pub then_says : (ns : List Node) (m n : Made) (P Q : Type 0) → Says ns m P → Says m.nodes n Q → Says ns (negated (and_built n.nodes m.lit (opposite n.lit))) (P → Q)
  then_says ns m n P Q s t =
      let c = conjunction v n.nodes m.lit (opposite n.lit) in
      let worth = λ (h : IsValuation (and_built n.nodes m.lit (opposite n.lit)).nodes v). h.of_opposite (and_built n.nodes m.lit (opposite n.lit)).lit ∙ ap not (c.is h ∙ ap (λ b. v m.lit && b) (h.of_opposite n.lit)) in
      record {
        back = λ h. s.back (t.back (c.back h));
        holds = λ h e p. let g = c.back h in t.holds g (second (v m.lit) (v n.lit) (sym (worth h) ∙ e) (s.is_true (t.back g) p));
        is_true = λ h f. let g = c.back h in worth h ∙ implied (v m.lit) (v n.lit) (λ e. t.is_true g (f (s.holds (t.back g) e)));
      }

  pub same_says : (ns : List Node) (xs ys : List Lit) → length xs ≡ length ys → Says ns (equal_built ns xs ys) (map v xs ≡ map v ys)
  same_says ns xs ys e = equality v ns xs ys e

  -- ---- numbers of literals

  constant_is : (ns : List Node) → IsValuation ns v → (b : Bool) → v (constant b) ≡ b
  constant_is ns h false = h.of_constant
  constant_is ns h true = constant_true v ns h

  number_is : (ns : List Node) → IsValuation ns v → (w n : ℕ) → n < 2 ^ w → number_of_bits (map v (number_lits w n)) ≡ n
  number_is ns h zero n s = omega (arith, s)
  number_is ns h (suc w) n s =
      let rest = number_is ns h w (n / 2) (omega (arith, s, pow-suc 2 w)) in
      let low = ap bit_number (constant_is ns h (n % 2 == 1)) ∙ is_odd n in
      omega (arith, rest, low)

  zeros_are : (ns : List Node) → IsValuation ns v → (n : ℕ) → number_of_bits (map v (replicate n (constant false))) ≡ 0
  zeros_are ns h zero = refl
  zeros_are ns h (suc n) = let rest = zeros_are ns h n in let low = ap bit_number h.of_constant in omega (arith, rest, low)

  long_both : (xs ys : List Lit) → length xs ≡ length ys → length (map v xs) ≡ length (map v ys)
  long_both xs ys e = long_map v xs ∙ e ∙ sym (long_map v ys)

  -- the word, with one bit more, is this number
  pub object_says : (ns : List Node) (xs : List Lit) (n : ℕ) → n < 2 ^ (length xs + 1) → Says ns (equal_built ns (xs ++ constant false ∷ []) (number_lits (length (xs ++ constant false ∷ [])) n)) (number_of_bits (map v xs) ≡ n)
  object_says ns xs n s =
      let more = xs ++ constant false ∷ [] in
      let lits = number_lits (length more) n in
      let long : length more ≡ length lits = sym (long_number (length more) n) in
      let below : n < 2 ^ length more = subst (λ k. n < 2 ^ k) (sym (long_push xs (constant false))) s in
      let wide = λ (h : IsValuation ns v). ap number_of_bits (map_append v xs (constant false ∷ []) ∙ ap (λ b. map v xs ++ b ∷ []) h.of_constant) ∙ with_zero (map v xs) in
      as_known ns (equal_built ns more lits) (map v more ≡ map v lits) (number_of_bits (map v xs) ≡ n)
      (λ h e. sym (wide h) ∙ ap number_of_bits e ∙ number_is ns h (length more) n below)
      (λ h e. bits_same (map v more) (map v lits) (long_both more lits long) (wide h ∙ e ∙ sym (number_is ns h (length more) n below)))
      (same_says ns more lits long)

  -- the word is at most this number
  pub within_says : (ns : List Node) (xs : List Lit) (n : ℕ) → n < 2 ^ length xs → Says ns (carried_built ns Less (constant true) xs (number_lits (length xs) n)) (number_of_bits (map v xs) ≤ n)
  within_says ns xs n s =
      let lits = number_lits (length xs) n in
      let long : length xs ≡ length lits = sym (long_number (length xs) n) in
      let r = ripple_gives v Less ns (constant true) xs lits in
      let worth = λ (h : IsValuation (carried_built ns Less (constant true) xs lits).nodes v).
      r.carries h ∙ ap (λ c. ripple_carry Less c (map v xs) (map v lits)) (constant_true v ns (r.back h))
      ∙ less_is true (map v xs) (map v lits) (long_both xs lits long) ∙ ap (λ k. nat_lt (number_of_bits (map v xs)) (k + 1)) (number_is ns (r.back h) (length xs) n s) in
      record {
        back = r.back;
        holds = λ h e. at_most _ n (sym (worth h) ∙ e);
        is_true = λ h p. worth h ∙ is_at_most _ n p;
      }

  -- both words are zero
  pub null_says : (ns : List Node) (xs ys : List Lit) → Says ns (equal_built ns (xs ++ ys) (replicate (length (xs ++ ys)) (constant false))) ((number_of_bits (map v xs) ≡ 0) × (number_of_bits (map v ys) ≡ 0))
  null_says ns xs ys =
      let bits = xs ++ ys in
      let zeros = replicate (length bits) (constant false) in
      let long : length bits ≡ length zeros = sym (long_zeros (length bits)) in
      as_known ns (equal_built ns bits zeros) (map v bits ≡ map v zeros) ((number_of_bits (map v xs) ≡ 0) × (number_of_bits (map v ys) ≡ 0))
      (λ h e. zero_parts (map v xs) (map v ys) (ap number_of_bits (sym (map_append v xs ys) ∙ e) ∙ zeros_are ns h (length bits)))
      (λ h p. bits_same (map v bits) (map v zeros) (long_both bits zeros long) (ap number_of_bits (map_append v xs ys) ∙ zero_whole (map v xs) (map v ys) p.0 p.1 ∙ sym (zeros_are ns h (length bits))))
      (same_says ns bits zeros long)
