-- The bits of words as numbers of kinds.
use Rattle.std.proofs.Common.{arith, negsuc, neg_ℤ, ◌≡◌, ◌≢◌, ℕ, ◌+◌, ◌-◌, ◌*◌, ◌<◌, ◌^◌, ◌%◌, ℤ, ◌+ℤ◌, ◌-ℤ◌, ◌*ℤ◌, refl, sym, ap, ◌∙◌}
use Rattle.std.proofs.Math.Nat.{zero-mod, mod-eq_of_lt, add-mul-mod_self_right}
use Rattle.rvt_num.specs.declared.kinds.Kind.{Kind}
use Rattle.rvt_num.specs.declared.kinds.Kind.TheVariants.{Bool as BoolKind, I8, U8, I16, U16, I32, U32, I64, U64}
use Rattle.rvt_num.specs.Kinds.{width, promoted_kind}
use Rattle.rvt_num.specs.Wrapping.{pattern_of, reading, wrap}
use Rattle.rvt_num.proofs.Patterns.{pattern-add, pattern-sub, pattern-mul, pattern-neg}
use Rattle.rvt_num.proofs.Readings.{pattern_of_reading, promoted_is_no_bool}

pub wrap_is : (kind : Kind) (z : ℤ) → kind ≢ BoolKind → wrap kind z ≡ reading kind (pattern_of (width kind) z)
wrap_is BoolKind z n = absurd (n refl)
wrap_is I8 z n = refl
wrap_is U8 z n = refl
wrap_is I16 z n = refl
wrap_is U16 z n = refl
wrap_is I32 z n = refl
wrap_is U32 z n = refl
wrap_is I64 z n = refl
wrap_is U64 z n = refl

module _ (kind : Kind) (p : promoted_kind kind ≡ kind) (m n : ℕ) (small : m < 2 ^ width kind) (small' : n < 2 ^ width kind) where
  -- the sum, the difference and the product of two patterns, cut to the width, are the patterns of the wrapped results
  pub added : reading kind ((m + n) % 2 ^ width kind) ≡ wrap kind (reading kind m +ℤ reading kind n)
  added = sym (wrap_is kind _ (promoted_is_no_bool kind p) ∙ ap (reading kind) (pattern-add (width kind) _ _ ∙ (λ i. (pattern_of_reading kind m small i + pattern_of_reading kind n small' i) % 2 ^ width kind)))

  pub subtracted : reading kind ((m + (2 ^ width kind - n)) % 2 ^ width kind) ≡ wrap kind (reading kind m -ℤ reading kind n)
  subtracted = sym (wrap_is kind _ (promoted_is_no_bool kind p) ∙ ap (reading kind) (pattern-sub (width kind) _ _ ∙ (λ i. (pattern_of_reading kind m small i + (2 ^ width kind - pattern_of_reading kind n small' i)) % 2 ^ width kind)))

  pub multiplied : reading kind (m * n % 2 ^ width kind) ≡ wrap kind (reading kind m *ℤ reading kind n)
  multiplied = sym (wrap_is kind _ (promoted_is_no_bool kind p) ∙ ap (reading kind) (pattern-mul (width kind) _ _ ∙ (λ i. pattern_of_reading kind m small i * pattern_of_reading kind n small' i % 2 ^ width kind)))

module _ (kind : Kind) (p : promoted_kind kind ≡ kind) (m : ℕ) (small : m < 2 ^ width kind) where
  pub negative : reading kind ((2 ^ width kind - m) % 2 ^ width kind) ≡ wrap kind (neg_ℤ (reading kind m))
  negative = sym (wrap_is kind _ (promoted_is_no_bool kind p) ∙ ap (reading kind) (pattern-neg (width kind) _ ∙ (λ i. (2 ^ width kind - pattern_of_reading kind m small i) % 2 ^ width kind)))

  -- m with every bit inverted
  pub inverted_number : (k : ℕ) → k + m + 1 ≡ 2 ^ width kind → reading kind k ≡ wrap kind (negsuc 0 -ℤ reading kind m)
  inverted_number k e =
      let w = 2 ^ width kind in
      let below : k < w = omega arith in
      let less_none : w - 1 - 0 ≡ w - 1 = omega arith in
      let ones : w - 1 - 0 % w ≡ w - 1 = ap (λ n. w - 1 - n) (zero-mod w) ∙ less_none in
      let whole : w - 1 + (w - m) ≡ k + 1 * w = omega arith in
      sym (wrap_is kind _ (promoted_is_no_bool kind p) ∙ ap (reading kind) (pattern-sub (width kind) (negsuc 0) (reading kind m)
      ∙ (λ i. (ones i + (w - pattern_of_reading kind m small i)) % w) ∙ ap (λ n. n % w) whole ∙ add-mul-mod_self_right k 1 w ∙ mod-eq_of_lt below))
