-- What an operation gives where the exact value is at hand.
use Rattle.std.proofs.Common.{◌≡◌, ℕ, zero, suc, ◌<◌, Bool, true, false, ◌&&◌, nat_le, if◌then◌else◌, ◌^◌, ◌-◌, ◌≤◌, ℤ, pos, negsuc, neg_ℤ, ◌≤ℤ◌, ◌<ℤ◌, FitsSigned, to_z, of_z, eqb, Some, None, Result, Ok, Err, refl, sym, ap, ◌∙◌, subst, arith, unsigned_abs}
use Rattle.std.proofs.lemmas.Bool.Decides.{nat_tests}
use Rattle.std.specs.Prelude.{int_div}
use Rattle.std.specs.Int.{w64, w128}
use Rattle.std.proofs.Math.Nat.{div-le_self}
use Rattle.std.proofs.lemmas.Int.{ints, to_z-of_z, fits_signed_from_abs}
use Rattle.rvt_num.proofs.Outcomes.{abs_small}
use Rattle.rvt_num.specs.declared.kinds.Kind.{Kind}
use Rattle.rvt_num.specs.declared.operations.BinOp.{BinOp}
use Rattle.rvt_num.specs.declared.values.Trap.{Trap}
use Rattle.rvt_num.specs.declared.values.Trap.TheVariants as T
use Rattle.rvt_num.specs.declared.values.Value.{Value}
use Rattle.rvt_num.specs.declared.values.Value.TheVariants as V
use Rattle.rvt_num.specs.Number.{Number}
use Rattle.rvt_num.specs.Kinds.{is_signed, least}
use Rattle.rvt_num.specs.Operations.{trap_of, unless_trapped, number_of, result_kind, exact, int_eq, division_trap, converted}
use Rattle.rvt_num.specs.Wrapping.{wrapped}
use Rattle.c_meaning.specs.Stores.{number_of as value_number}
use Rattle.c_meaning.specs.Statements.{converted_back}
use Rattle.c_meaning.specs.Expressions.{operated, as_value}

-- a cell with the exact value wrapped is what the operation gives, where it does not trap
pub gives : (op : BinOp) (a b : Number) (v : ℤ) (cell : Value) → trap_of op a b ≡ None → cell ≡ V.Num (wrapped (result_kind op a.kind) v) → v ≡ exact op a b → operated op (V.Num a) (V.Num b) ≡ Ok cell
gives op a b v cell t e f =
    ap (λ trap. as_value (unless_trapped trap (number_of op a b))) t
    ∙ ap (λ z. Ok (V.Num (wrapped (result_kind op a.kind) z))) (sym f)
    ∙ ap Ok (sym e)

and_false : (b : Bool) → (b && false) ≡ false
and_false true = refl
and_false false = refl

-- ---- division by a number above 0
divisor_above : (a : Number) (kind : Kind) (n : ℕ) → division_trap a (record { kind = kind; value = pos (suc n) }) ≡ None
divisor_above a kind n =
    let zero_test : nat_le (suc n) 0 ≡ false = grind (arith, nat_tests) in
    ap (λ t. if (t && nat_le 0 (suc n)) then Some T.Divide else (if (is_signed a.kind && int_eq a.value (least a.kind) && int_eq (pos (suc n)) (negsuc 0)) then Some T.Quotient else None)) zero_test
    ∙ ap (λ t. if t then Some T.Quotient else None) (and_false (is_signed a.kind && int_eq a.value (least a.kind)))

pub no_division_trap : (a : Number) (kind : Kind) (z : ℤ) → pos 0 <ℤ z → division_trap a (record { kind = kind; value = z }) ≡ None
no_division_trap a kind (pos zero) q = absurd (omega (arith, ints))
no_division_trap a kind (pos (suc n)) q = divisor_above a kind n
no_division_trap a kind (negsuc n) q = absurd (omega (arith, ints))

-- no trap of a division: the divisor is not 0
pub divisor_there : (a : Number) (kind : Kind) (z : ℤ) → division_trap a (record { kind = kind; value = z }) ≡ None → 0 < unsigned_abs z
divisor_there a kind (pos zero) e = cc
divisor_there a kind (pos (suc n)) e = omega arith
divisor_there a kind (negsuc n) e = omega arith

bits_there : (x : ℤ) → negsuc (2 ^ 63 - 1) ≤ℤ x → 0 < unsigned_abs x → 0 < of_z w128 x
bits_there (pos n) low q = q
bits_there (negsuc n) low q = let small : n < 2 ^ 63 = omega (arith, ints) in omega arith

pub unsigned_there : (y z : ℤ) → y ≡ z → negsuc (2 ^ 63 - 1) ≤ℤ y → 0 < unsigned_abs z → 0 < of_z w128 y
unsigned_there y z e low p = bits_there y low (subst (λ x. 0 < unsigned_abs x) (sym e) p)

abs_neg : (n : ℕ) → unsigned_abs (neg_ℤ (pos n)) ≡ n
abs_neg zero = refl
abs_neg (suc n) = refl

abs_quotient : (x y : ℤ) → unsigned_abs (int_div x y) ≤ unsigned_abs x
abs_quotient (pos a) (pos b) = div-le_self a b
abs_quotient (pos a) (negsuc b) = rw abs_neg (div-le_self a (suc b))
abs_quotient (negsuc a) (pos b) = rw abs_neg (div-le_self (suc a) b)
abs_quotient (negsuc a) (negsuc b) = div-le_self (suc a) (suc b)

-- a quotient fits where its dividend does, and more
pub quotient_fits : (x y : ℤ) → negsuc (2 ^ 63 - 1) ≤ℤ x → x ≤ℤ pos (2 ^ 64 - 1) → negsuc (2 ^ 63 - 1) ≤ℤ y → y ≤ℤ pos (2 ^ 64 - 1) → FitsSigned w128 (int_div (to_z w128 (of_z w128 x)) (to_z w128 (of_z w128 y)))
quotient_fits x y low high low' high' =
    let first : FitsSigned w128 x = omega (arith, ints) in
    let second : FitsSigned w128 y = omega (arith, ints) in
    rw (to_z-of_z w128 x first, to_z-of_z w128 y second) (fits_signed_from_abs w128 (int_div x y) (omega (arith, abs_quotient x y, abs_small x low high)))

-- ---- `op=`
abbrev value_or : Result Value Trap → Value
value_or (Ok v) = v
value_or (Err why) = V.Null

pub back : (b : Result Number Trap) (new r : Value) (k kind : Kind) → Ok new ≡ as_value b → k ≡ kind → r ≡ V.Num (converted k (value_number new)) → Ok r ≡ converted_back kind b
back (Ok n) new r k kind e f g =
    let same : new ≡ V.Num n = ap value_or e in
    ap Ok (g ∙ (λ i. V.Num (converted (f i) (value_number (same i)))))
back (Err why) new r k kind e f g = cc

-- the test `==` on 64 bits
pub equal_is : (x y : ℤ) → FitsSigned w64 x → FitsSigned w64 y → eqb (of_z w64 x) (of_z w64 y) ≡ int_eq x y
equal_is x y f g = grind (arith, ints)
