-- Products that are counted as far as 4,097.
use Rattle.std.proofs.Common.{◌≡◌, ◌+◌, ◌*◌, ℕ, zero, suc, min, arith, sym, ap, ◌∙◌}
use Rattle.std.specs.Prelude.{nat_lt}

pub limited_product : (p c : ℕ) → min (p * min c 4097) 4097 ≡ min (p * c) 4097
limited_product zero c = omega arith
limited_product (suc p) c =
    let a : suc p * min c 4097 ≡ min c 4097 + p * min c 4097 = grind arith in
    let b : suc p * c ≡ c + p * c = grind arith in
    let others = limited_product p c in
    omega (arith, a, b, others)

-- the same of a greater limit
pub limited_further : (c : ℕ) → min (min 4294967295 c) 4097 ≡ min c 4097
limited_further c = omega arith

pub above_limited : (n : ℕ) → nat_lt 4096 (min n 4097) ≡ nat_lt 4096 n
above_limited n = grind (arith)

pub above_product : (n c : ℕ) → nat_lt 4096 (min (n * min 4294967295 c) 4097) ≡ nat_lt 4096 (n * c)
above_product n c =
    let e : min (n * min 4294967295 c) 4097 ≡ min (n * c) 4097 =
    sym (limited_product n (min 4294967295 c)) ∙ ap (λ m. min (n * m) 4097) (limited_further c) ∙ limited_product n c in
    ap (nat_lt 4096) e ∙ above_limited (n * c)

-- one more factor of a product that is counted as far as 4,097
pub limited_factor : (q total c : ℕ) → min (q * min (total * min c 4097) 4097) 4097 ≡ min ((c * q) * total) 4097
limited_factor q total c =
    let a : q * (total * min c 4097) ≡ (q * total) * min c 4097 = grind arith in
    let b : (q * total) * c ≡ (c * q) * total = grind arith in
    limited_product q (total * min c 4097) ∙ ap (λ n. min n 4097) a ∙ limited_product (q * total) c ∙ ap (λ n. min n 4097) b
