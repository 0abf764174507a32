use Rattle.std.proofs.Common.{◌*ℤ◌, Ok, not, refl, sym, ap, ◌∙◌, arith, rules}
use Rattle.std.specs.Int.{w64}
use Rattle.std.proofs.lemmas.Int.{ints, to_z-of_z}
use Rattle.rvt_num.specs.declared.kinds.Kind.TheVariants.{I32}
use Rattle.rvt_num.specs.declared.operations.BinOp.TheVariants as B
use Rattle.rvt_num.specs.declared.values.Value.TheVariants as V
use Rattle.rvt_num.specs.Operations.{truth}
use Rattle.rvt_num.specs.Wrapping.{wrapped}
use Rattle.c_cells.proofs.Exact.{equal_is, gives}
use Rattle.c_cells.proofs.quick.of_shorts.Goals as goal

pub returns-in_ok-checked_add-in-Add : goal.returns-in_ok-checked_add-in-Add
returns-in_ok-checked_add-in-Add c =
    rw c.in-Add.is (gives B.Add (record { kind = c.args.kind; value = c.args.x }) (record { kind = c.args.other; value = c.args.y }) _ _ refl c.wrapped.ensures
    (omega (arith, ints, c.in_ok-checked_add-in-Add.ensures.1)))

pub returns-in_ok-checked_sub-in-Sub : goal.returns-in_ok-checked_sub-in-Sub
returns-in_ok-checked_sub-in-Sub c =
    rw c.in-Sub.is (gives B.Sub (record { kind = c.args.kind; value = c.args.x }) (record { kind = c.args.other; value = c.args.y }) _ _ refl c.wrapped-in-Sub.ensures
    (omega (arith, ints, c.in_ok-checked_sub-in-Sub.ensures.1)))

pub returns-in_ok-checked_mul-in-Mul : goal.returns-in_ok-checked_mul-in-Mul
returns-in_ok-checked_mul-in-Mul c =
    let first = to_z-of_z w64 c.args.x (search rules) in
    let second = to_z-of_z w64 c.args.y (search rules) in
    rw c.in-Mul.is (gives B.Mul (record { kind = c.args.kind; value = c.args.x }) (record { kind = c.args.other; value = c.args.y }) _ _ refl c.wrapped-in-Mul.ensures
    (to_z-of_z w64 c.in_ok-checked_mul-in-Mul.field-0 (search rules) ∙ c.in_ok-checked_mul-in-Mul.ensures.1 ∙ (λ i. first i *ℤ second i)))

pub returns-in-Eq : goal.returns-in-Eq
returns-in-Eq c =
    let same = equal_is c.args.x c.args.y (search rules) (search rules) in
    rw c.in-Eq.is (ap (λ b. Ok (V.Num (wrapped I32 (truth b)))) (sym same) ∙ ap Ok (sym c.truth_value.ensures))

pub returns-in-Ne : goal.returns-in-Ne
returns-in-Ne c =
    let same = equal_is c.args.x c.args.y (search rules) (search rules) in
    rw c.in-Ne.is (ap (λ b. Ok (V.Num (wrapped I32 (truth (not b))))) (sym same) ∙ ap Ok (sym c.truth_value-in-Ne.ensures))
