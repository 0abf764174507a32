-- The loop over the bits of a number, and what a test is worth.
use Rattle.std.proofs.Common.{◌≡◌, ℕ, zero, suc, ◌+◌, ◌-◌, ◌*◌, ◌/◌, ◌%◌, ◌^◌, ◌==◌, ◌&&◌, ◌<◌, ◌≤◌, Bool, true, false, not, cond, List, [], ◌∷◌, length, drop, refl, sym, ap, ◌∙◌, arith, subst, get_or, drop-cons, if◌then◌else◌}
use Rattle.std.specs.Prelude.{map}
use Rattle.std.proofs.lemmas.Bool.{eqb-true, eq-eqb, ne_eqb, true≢false}
use Rattle.std.proofs.Math.Nat.{div-div-eq-div-mul, pow-suc, div-one}
use Rattle.aig_build.proofs.Nodes.{Grows-refl, Grows-trans}
use Rattle.aig_build.specs.Built.{Made, and_built}
use Rattle.aig_build.specs.Circuits.{Node, Grows, constant, opposite}
use Rattle.aig_build.specs.declared.lits.Lit.{Lit}
use Rattle.bit_words.specs.Words.{bit_number, number_of_bits}
use Rattle.sym_constants.specs.Tests.{as_lowest, test_built, TestLaw, IsTesting}
use Rattle.sym_values.proofs.Conjunctions.{conjunction}
use Rattle.sym_values.specs.Valuations.{Valuation, IsValuation}

none : (ns : List Node) (also : Lit) (n : ℕ) → test_built ns also [] n ≡ record { nodes = ns; lit = if n == 0 then also else constant false }
unfolding test_built
none ns also n = refl

one_more : (ns now : List Node) (also lit bit : Lit) (bits : List Lit) (n : ℕ) → test_built ns also bits (n / 2) ≡ record { nodes = now; lit = lit }
    → test_built ns also (bit ∷ bits) n ≡ and_built now lit (as_lowest n bit)
unfolding test_built
one_more ns now also lit bit bits n e = ap (λ (m : Made). and_built m.nodes m.lit (as_lowest n bit)) e

drop_whole : {X : Type 0} (xs : List X) → drop (length xs) xs ≡ []
drop_whole [] = refl
drop_whole (x ∷ xs) = drop_whole xs

minus-zero : (w : ℕ) → w - 0 ≡ w
minus-zero w = omega arith

pub test_first : (ns : List Node) (also lit : Lit) (bits : List Lit) (n : ℕ) → lit ≡ (if n / 2 ^ length bits == 0 then also else constant false) → lit.node < length ns → IsTesting ns ns also lit bits n (length bits - 0)
test_first ns also lit bits n e t = subst (λ k. IsTesting ns ns also lit bits n k) (sym (minus-zero (length bits))) (record {
  is = ap (λ xs. test_built ns also xs (n / 2 ^ length bits)) (drop_whole bits) ∙ none ns also (n / 2 ^ length bits) ∙ (λ i. record { nodes = ns; lit = sym e i });
  grows = Grows-refl ns;
  there = t;
})

halved : (n left : ℕ) → n / 2 ^ left / 2 ≡ n / 2 ^ suc left
halved n left = div-div-eq-div-mul n (2 ^ left) 2 ∙ ap (λ m. n / m) (sym (pow-suc 2 left))

more : (first now new : List Node) (also lit next d : Lit) (bits : List Lit) (n left : ℕ) → left < length bits → IsTesting first now also lit bits n (suc left)
    → and_built now lit (as_lowest (n / 2 ^ left) (get_or bits left d)) ≡ record { nodes = new; lit = next } → Grows now new → next.node < length new → IsTesting first new also next bits n left
more first now new also lit next d bits n left h t e g there = record {
  is =
      ap (λ xs. test_built first also xs (n / 2 ^ left)) (drop-cons bits left d h)
      ∙ one_more first now also lit (get_or bits left d) (drop (suc left) bits) (n / 2 ^ left)
      (ap (λ m. test_built first also (drop (suc left) bits) m) (halved n left) ∙ t.is)
      ∙ e;
  grows = Grows-trans first now new t.grows g;
  there = there;
}

one_less : (w done : ℕ) → done < w → w - done ≡ suc (w - 1 - done)
one_less w done h = omega arith

less_again : (w done : ℕ) → w - 1 - done ≡ w - (done + 1)
less_again w done = omega arith

last_below : (w done : ℕ) → done < w → w - 1 - done < w
last_below w done h = omega arith

pub test_more : (first now new : List Node) (also lit next low d : Lit) (bits : List Lit) (n done : ℕ) → done < length bits → IsTesting first now also lit bits n (length bits - done)
    → low ≡ as_lowest (n / 2 ^ (length bits - 1 - done)) (get_or bits (length bits - 1 - done) d) → and_built now lit low ≡ record { nodes = new; lit = next } → Grows now new → next.node < length new
    → IsTesting first new also next bits n (length bits - (done + 1))
test_more first now new also lit next low d bits n done h t e b g there =
    subst (λ k. IsTesting first new also next bits n k) (less_again (length bits) done)
    (more first now new also lit next d bits n (length bits - 1 - done) (last_below (length bits) done h) (subst (λ k. IsTesting first now also lit bits n k) (one_less (length bits) done h) t)
    (ap (and_built now lit) (sym e) ∙ b) g there)

nothing_left : (w done : ℕ) → w ≤ done → w - done ≡ 0
nothing_left w done h = omega arith

pub test_all : (first now : List Node) (also lit : Lit) (bits : List Lit) (n done : ℕ) → length bits ≤ done → IsTesting first now also lit bits n (length bits - done) → test_built first also bits n ≡ record { nodes = now; lit = lit }
test_all first now also lit bits n done h t =
    ap (test_built first also bits) (sym (div-one n)) ∙ subst (λ k. test_built first also (drop k bits) (n / 2 ^ k) ≡ record { nodes = now; lit = lit }) (nothing_left (length bits) done h) t.is

-- ---- what it is worth

and_true : (b : Bool) → (b && true) ≡ b
and_true true = refl
and_true false = refl

and_false : (b : Bool) → (b && false) ≡ false
and_false true = refl
and_false false = refl

and_assoc : (a b c : Bool) → ((a && b) && c) ≡ (a && (b && c))
and_assoc true b c = refl
and_assoc false b c = refl

same_tests : (a b c d : ℕ) → (a ≡ b → c ≡ d) → (c ≡ d → a ≡ b) → (a == b) ≡ (c == d)
same_tests a b c d f g = by (a == b) refl
  where
    by : (t : Bool) → (a == b) ≡ t → (a == b) ≡ (c == d)
    by true e = e ∙ sym (eq-eqb c d (f (eqb-true a b e)))
    by false e = e ∙ sym (ne_eqb c d (λ q. true≢false (sym (eq-eqb a b (g q)) ∙ e)))

bit_parts : (b : Bool) (m n : ℕ) → ((m == n / 2) && cond (n % 2 == 1) b (not b)) ≡ (bit_number b + 2 * m == n)
bit_parts b m n = by b (n % 2) (omega arith) refl
  where
    by : (b : Bool) (r : ℕ) → r < 2 → n % 2 ≡ r → ((m == n / 2) && cond (r == 1) b (not b)) ≡ (bit_number b + 2 * m == n)
    by true zero h e = and_false (m == n / 2) ∙ sym (ne_eqb (1 + 2 * m) n (λ q. let no : ⊥ = omega (arith, q) in no))
    by false zero h e = and_true (m == n / 2) ∙ same_tests m (n / 2) (0 + 2 * m) n (λ q. omega (arith, q)) (λ q. omega (arith, q))
    by true (suc zero) h e = and_true (m == n / 2) ∙ same_tests m (n / 2) (1 + 2 * m) n (λ q. omega (arith, q)) (λ q. omega (arith, q))
    by false (suc zero) h e = and_false (m == n / 2) ∙ sym (ne_eqb (0 + 2 * m) n (λ q. let no : ⊥ = omega (arith, q) in no))
    by b (suc (suc r)) h e = absurd (omega arith)

module _ (v : Valuation) where
  lowest_is : (ns : List Node) (n : ℕ) (bit : Lit) → IsValuation ns v → v (as_lowest n bit) ≡ cond (n % 2 == 1) (v bit) (not (v bit))
  lowest_is ns n bit h = by (n % 2 == 1)
    where
      by : (b : Bool) → v (if b then bit else opposite bit) ≡ cond b (v bit) (not (v bit))
      by true = refl
      by false = h.of_opposite bit

  none_is : (ns : List Node) (also : Lit) (b : Bool) → IsValuation ns v → v (if b then also else constant false) ≡ (v also && b)
  none_is ns also true h = sym (and_true (v also))
  none_is ns also false h = h.of_constant ∙ sym (and_false (v also))

pub test_is : TestLaw
unfolding test_built
test_is v ns also [] n = record { back = λ h. h; is = λ h. none_is v ns also (n == 0) h ∙ ap (λ b. v also && b) (same_tests n 0 0 n (λ q. sym q) (λ q. sym q)) }
test_is v ns also (bit ∷ bits) n =
    let high = test_built ns also bits (n / 2) in
    let rest = test_is v ns also bits (n / 2) in
    let gate = conjunction v high.nodes high.lit (as_lowest n bit) in
    record {
      back = λ h. rest.back (gate.back h);
      is = λ h. let g = gate.back h in
          gate.is h ∙ (λ i. rest.is g i && lowest_is v ns n bit (rest.back g) i)
          ∙ and_assoc (v also) (number_of_bits (map v bits) == n / 2) (cond (n % 2 == 1) (v bit) (not (v bit)))
          ∙ ap (λ b. v also && b) (bit_parts (v bit) (number_of_bits (map v bits)) n);
    }
