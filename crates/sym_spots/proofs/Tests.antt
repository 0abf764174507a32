-- What the tests of an index are worth.
use Rattle.std.proofs.Common.{◌≡◌, ℕ, zero, suc, ◌+◌, ◌-◌, ◌*◌, ◌^◌, ◌==◌, ◌&&◌, ◌||◌, ◌<◌, ◌≤◌, Bool, true, false, not, List, [], ◌∷◌, ◌++◌, length, take, get_or, Option, Some, None, refl, sym, ap, ◌∙◌, arith, subst}
use Rattle.std.specs.Prelude.{map, ℤ, pos, negsuc, nat_lt}
use Rattle.std.proofs.lemmas.Bool.{ne_eqb}
use Rattle.std.proofs.lemmas.Bool.Decides.{nat_tests}
use Rattle.aig_build.specs.Circuits.{Node, constant, opposite}
use Rattle.aig_build.specs.declared.lits.Lit.{Lit}
use Rattle.bit_words.proofs.Arithmetic.{below_power}
use Rattle.bit_words.proofs.SignedOrder.{top_split, front_length}
use Rattle.bit_words.specs.Built.{sign_bit}
use Rattle.bit_words.specs.Words.{LitWord, bit_number, number_of_bits}
use Rattle.rvt_num.proofs.Readings.{signed_reading_low, signed_reading_high}
use Rattle.rvt_num.specs.Kinds.{width}
use Rattle.rvt_num.specs.Wrapping.{signed_reading, reading}
use Rattle.rvt_num.specs.declared.kinds.Kind.{Kind}
use Rattle.rvt_num.specs.declared.kinds.Kind.TheVariants.{Bool as BoolKind, I8, U8, I16, U16, I32, U32, I64, U64}
use Rattle.sym_constants.proofs.Testing.{test_is}
use Rattle.sym_spots.specs.Aims.{MadeTests, word_test, word_tests}
use Rattle.sym_values.proofs.Ripples.{or_gives}
use Rattle.sym_values.specs.Valuations.{Valuation, IsValuation, Gives}

-- a number that is not negative
abbrev pub natural : ℤ → Option ℕ
natural (pos n) = Some n
natural (negsuc n) = None

abbrev pub is_it : Option ℕ → ℕ → Bool
is_it (Some i) n = i == n
is_it None n = false

-- the tests of 0, 1 and so on, where the index is this number or none of them
abbrev pub AreTests : Valuation → Option ℕ → List Lit → Type 0
AreTests v i [] = Prim.Unit {0}
AreTests v (Some zero) (t ∷ ts) = (v t ≡ true) × AreTests v None ts
AreTests v (Some (suc n)) (t ∷ ts) = (v t ≡ false) × AreTests v (Some n) ts
AreTests v None (t ∷ ts) = (v t ≡ false) × AreTests v None ts

abbrev pub any_lit : Valuation → List Lit → Bool
any_lit v [] = false
any_lit v (t ∷ ts) = v t || any_lit v ts

abbrev pub is_below : Option ℕ → ℕ → Bool
is_below (Some i) n = nat_lt i n
is_below None n = false

same_next : (i n : ℕ) → (suc i == suc n) ≡ (i == n)
same_next i n = grind (arith, nat_tests)

below_next : (i n : ℕ) → nat_lt (suc i) (suc n) ≡ nat_lt i n
below_next i n = grind (arith, nat_tests)

none_below : (n : ℕ) → nat_lt 0 (suc n) ≡ true
none_below n = grind (arith, nat_tests)

never_below : (n : ℕ) → nat_lt n 0 ≡ false
never_below n = grind (arith, nat_tests)

not_zero : (n : ℕ) → (suc n == 0) ≡ false
not_zero n = ne_eqb (suc n) 0 (λ q. let no : ⊥ = omega (arith, q) in no)

not_first : (n : ℕ) → (0 == suc n) ≡ false
not_first n = ne_eqb 0 (suc n) (λ q. let no : ⊥ = omega (arith, q) in no)

pub any_is : (v : Valuation) (i : Option ℕ) (ts : List Lit) → AreTests v i ts → any_lit v ts ≡ is_below i (length ts)
any_is v None [] h = refl
any_is v (Some zero) [] h = refl
any_is v (Some (suc n)) [] h = sym (never_below (suc n))
any_is v (Some zero) (t ∷ ts) h = ap (λ b. b || any_lit v ts) h.0 ∙ sym (none_below (length ts))
any_is v (Some (suc n)) (t ∷ ts) h = ap (λ b. b || any_lit v ts) h.0 ∙ any_is v (Some n) ts h.1 ∙ sym (below_next n (length ts))
any_is v None (t ∷ ts) h = ap (λ b. b || any_lit v ts) h.0 ∙ any_is v None ts h.1

push_tests : (v : Valuation) (i : Option ℕ) (ts : List Lit) (t : Lit) → AreTests v i ts → v t ≡ is_it i (length ts) → AreTests v i (ts ++ t ∷ [])
push_tests v None [] t h e = (e, tt)
push_tests v (Some zero) [] t h e = (e, tt)
push_tests v (Some (suc n)) [] t h e = (e ∙ not_zero n, tt)
push_tests v None (x ∷ xs) t h e = (h.0, push_tests v None xs t h.1 e)
push_tests v (Some zero) (x ∷ xs) t h e = (h.0, push_tests v None xs t h.1 (e ∙ not_first (length xs)))
push_tests v (Some (suc n)) (x ∷ xs) t h e = (h.0, push_tests v (Some n) xs t h.1 (e ∙ same_next n (length xs)))

push_any : (v : Valuation) (ts : List Lit) (t : Lit) → any_lit v (ts ++ t ∷ []) ≡ (any_lit v ts || v t)
push_any v [] t = by (v t)
  where
    by : (b : Bool) → (b || false) ≡ b
    by true = refl
    by false = refl
push_any v (x ∷ xs) t = ap (λ b. v x || b) (push_any v xs t) ∙ by (v x)
  where
    by : (b : Bool) → (b || (any_lit v xs || v t)) ≡ ((b || any_lit v xs) || v t)
    by true = refl
    by false = refl

push_long : (ts : List Lit) (t : Lit) → length (ts ++ t ∷ []) ≡ suc (length ts)
push_long [] t = refl
push_long (x ∷ xs) t = ap (λ n. suc n) (push_long xs t)

-- ---- the sign

map_at : (v : Valuation) (xs : List Lit) (n : ℕ) (d : Lit) → n < length xs → v (get_or xs n d) ≡ get_or (map v xs) n false
map_at v [] n d h = absurd (omega arith)
map_at v (x ∷ xs) zero d h = refl
map_at v (x ∷ xs) (suc n) d h = map_at v xs n d (omega arith)

map_long : (v : Valuation) (xs : List Lit) → length (map v xs) ≡ length xs
map_long v [] = refl
map_long v (x ∷ xs) = ap (λ n. suc n) (map_long v xs)

-- a number by its highest bit
signed_by : (n p low : ℕ) (b : Bool) (m : ℕ) → low < 2 ^ n → p ≡ low + 2 ^ n * bit_number b → (not b && (p == m)) ≡ is_it (natural (signed_reading (suc n) p)) m
signed_by n p low false m h e =
    let half : 2 ^ (suc n - 1) ≡ 2 ^ n = ap (λ k. 2 ^ k) (omega arith) in
    let small : p < 2 ^ (suc n - 1) = omega arith in
    ap (λ z. is_it (natural z) m) (sym (signed_reading_low (suc n) p small))
signed_by n p low true m h e =
    let half : 2 ^ (suc n - 1) ≡ 2 ^ n = ap (λ k. 2 ^ k) (omega arith) in
    let large : 2 ^ (suc n - 1) ≤ p = omega arith in
    ap (λ z. is_it (natural z) m) (sym (signed_reading_high (suc n) p large))

module _ (v : Valuation) where
  signed_is : (ns : List Node) (n : ℕ) (bits : List Lit) (m : ℕ) → IsValuation ns v → length bits ≡ suc n
      → (v (opposite (get_or bits (length bits - 1) (constant false))) && (number_of_bits (map v bits) == m)) ≡ is_it (natural (signed_reading (suc n) (number_of_bits (map v bits)))) m
  signed_is ns n bits m h e =
      let long : length (map v bits) ≡ suc n = map_long v bits ∙ e in
      let last : length bits - 1 ≡ n = omega arith in
      let inside : n < length bits = omega arith in
      let sign : v (opposite (get_or bits (length bits - 1) (constant false))) ≡ not (get_or (map v bits) n false) =
      h.of_opposite (get_or bits (length bits - 1) (constant false)) ∙ ap (λ k. not (v (get_or bits k (constant false)))) last ∙ ap not (map_at v bits n (constant false) inside) in
      let front : length (take n (map v bits)) ≡ n = front_length n (map v bits) long in
      let low : number_of_bits (take n (map v bits)) < 2 ^ n = subst (λ k. number_of_bits (take n (map v bits)) < 2 ^ k) front (below_power (take n (map v bits))) in
      ap (λ b. b && (number_of_bits (map v bits) == m)) sign
      ∙ signed_by n (number_of_bits (map v bits)) (number_of_bits (take n (map v bits))) (get_or (map v bits) n false) m low (top_split n (map v bits) long)

  unsigned_is : (ns : List Node) (p m : ℕ) → IsValuation ns v → (v (opposite (constant false)) && (p == m)) ≡ is_it (natural (pos p)) m
  unsigned_is ns p m h = ap (λ b. b && (p == m)) (h.of_opposite (constant false) ∙ ap not h.of_constant)

  kind_is : (ns : List Node) (k : Kind) (bits : List Lit) (m : ℕ) → IsValuation ns v → length bits ≡ width k
      → (v (opposite (sign_bit (record { kind = k; bits = bits }))) && (number_of_bits (map v bits) == m)) ≡ is_it (natural (reading k (number_of_bits (map v bits)))) m
  kind_is ns BoolKind bits m h e = unsigned_is ns (number_of_bits (map v bits)) m h
  kind_is ns I8 bits m h e = signed_is ns 7 bits m h e
  kind_is ns U8 bits m h e = unsigned_is ns (number_of_bits (map v bits)) m h
  kind_is ns I16 bits m h e = signed_is ns 15 bits m h e
  kind_is ns U16 bits m h e = unsigned_is ns (number_of_bits (map v bits)) m h
  kind_is ns I32 bits m h e = signed_is ns 31 bits m h e
  kind_is ns U32 bits m h e = unsigned_is ns (number_of_bits (map v bits)) m h
  kind_is ns I64 bits m h e = signed_is ns 63 bits m h e
  kind_is ns U64 bits m h e = unsigned_is ns (number_of_bits (map v bits)) m h

  -- a test is true where the word is the number
  word_test_is : (ns : List Node) (w : LitWord) (m : ℕ) → length w.bits ≡ width w.kind
      → Gives v ns (word_test ns w m).nodes (word_test ns w m).lit (is_it (natural (reading w.kind (number_of_bits (map v w.bits)))) m)
  word_test_is ns w m e =
      let t = test_is v ns (opposite (sign_bit w)) w.bits m in
      record { back = t.back; is = λ h. t.is h ∙ kind_is ns w.kind w.bits m (t.back h) e }

  pub record TestsGive (ns : List Node) (i : Option ℕ) (count : ℕ) (m : MadeTests) : Type 0 where
    pub back : IsValuation m.nodes v → IsValuation ns v
    pub are : IsValuation m.nodes v → AreTests v i m.lits
    pub any : IsValuation m.nodes v → v m.any ≡ any_lit v m.lits
    pub long : length m.lits ≡ count

  pub word_tests_are : (ns : List Node) (w : LitWord) (count : ℕ) → length w.bits ≡ width w.kind → TestsGive ns (natural (reading w.kind (number_of_bits (map v w.bits)))) count (word_tests ns w count)
  unfolding word_tests
  word_tests_are ns w zero e = record { back = λ h. h; are = λ h. tt; any = λ h. h.of_constant; long = refl }
  word_tests_are ns w (suc n) e =
      let m = word_tests ns w n in
      let rest = word_tests_are ns w n e in
      let T = word_test m.nodes w n in
      let t = word_test_is m.nodes w n e in
      let o = or_gives v T.nodes m.any T.lit in
      record {
        back = λ h. rest.back (t.back (o.back h));
        are = λ h. let g = t.back (o.back h) in
            push_tests v (natural (reading w.kind (number_of_bits (map v w.bits)))) m.lits T.lit (rest.are g) (t.is (o.back h) ∙ ap (is_it (natural (reading w.kind (number_of_bits (map v w.bits))))) (sym rest.long));
        any = λ h. let g = t.back (o.back h) in
            o.is h ∙ ap (λ b. b || v T.lit) (rest.any g) ∙ sym (push_any v m.lits T.lit);
        long = push_long m.lits T.lit ∙ ap (λ k. suc k) rest.long;
      }
