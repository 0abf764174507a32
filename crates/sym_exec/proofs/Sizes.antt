-- The parts of code are smaller than it.
use Rattle.std.proofs.Common.{◌≡◌, ◌<◌, ◌≤◌, ℕ, zero, suc, ◌+◌, ◌*◌, List, [], ◌∷◌, length, get_or, ap, arith}
use Rattle.core_ir.specs.declared.units.Code.{Code, size-Code}
use Rattle.core_ir.specs.declared.units.Code.TheVariants.{Seq, If}
use Rattle.core_ir.specs.declared.units.Code.TheViews as V
use Rattle.core_ir.proofs.units.Code.TheLaws.{the_size}
use denote.Param.Weighed.{most}

one_falls : (r : ℕ) (a b : Code) → size-Code a < size-Code (If r a b)
one_falls r a b = omega (arith, V.sized-If r a b)

other_falls : (r : ℕ) (a b : Code) → size-Code b < size-Code (If r a b)
other_falls r a b = omega (arith, V.sized-If r a b)

seq_falls : (parts : List Code) → most size-Code parts < size-Code (Seq parts)
seq_falls parts = omega (arith, V.sized-Seq parts)

part_falls : (parts : List Code) (i : ℕ) (x : Code) → i < length parts → x ≡ get_or parts i x → size-Code x ≤ most size-Code parts
part_falls [] i x p e = absurd (omega (arith, p))
part_falls (y ∷ ys) zero x p e = let s : size-Code x ≡ size-Code y = ap size-Code e in omega (arith, s)
part_falls (y ∷ ys) (suc i) x p e = let r = part_falls ys i x (omega (arith, p)) e in omega (arith, r)

pub falls_to_parts : (code : Code) (parts shown : List Code) (t : ℕ) → code ≡ Seq parts → shown ≡ parts → 2 * the_size code + 0 ≡ t → 2 * most (λ x. the_size x) shown + 1 < t
falls_to_parts code parts shown t e f d =
    let s : size-Code code ≡ size-Code (Seq parts) = ap size-Code e in
    let m : most size-Code shown ≡ most size-Code parts = ap (λ (l : List Code). most size-Code l) f in
    let n = seq_falls parts in
    let dd : 2 * size-Code code + 0 ≡ t = d in
    (let g : 2 * most size-Code shown + 1 < t = omega (arith, s, m, n, dd) in g)

pub falls_to_part : (parts : List Code) (i : ℕ) (x : Code) (t : ℕ) → i < length parts → x ≡ get_or parts i x → 2 * most (λ x. the_size x) parts + 1 ≡ t → 2 * the_size x + 0 < t
falls_to_part parts i x t p e d =
    let n = part_falls parts i x p e in
    let dd : 2 * most size-Code parts + 1 ≡ t = d in
    (let g : 2 * size-Code x + 0 < t = omega (arith, n, dd) in g)

pub falls_to_first : (code : Code) (r : ℕ) (a b shown : Code) (t : ℕ) → code ≡ If r a b → shown ≡ a → 2 * the_size code + 0 ≡ t → 2 * the_size shown + 0 < t
falls_to_first code r a b shown t e f d =
    let s : size-Code code ≡ size-Code (If r a b) = ap size-Code e in
    let m : size-Code shown ≡ size-Code a = ap size-Code f in
    let n = one_falls r a b in
    let dd : 2 * size-Code code + 0 ≡ t = d in
    (let g : 2 * size-Code shown + 0 < t = omega (arith, s, m, n, dd) in g)

pub falls_to_second : (code : Code) (r : ℕ) (a b shown : Code) (t : ℕ) → code ≡ If r a b → shown ≡ b → 2 * the_size code + 0 ≡ t → 2 * the_size shown + 0 < t
falls_to_second code r a b shown t e f d =
    let s : size-Code code ≡ size-Code (If r a b) = ap size-Code e in
    let m : size-Code shown ≡ size-Code b = ap size-Code f in
    let n = other_falls r a b in
    let dd : 2 * size-Code code + 0 ≡ t = d in
    (let g : 2 * size-Code shown + 0 < t = omega (arith, s, m, n, dd) in g)
