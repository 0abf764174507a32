use Rattle.std.proofs.Common.{sym, ap, ◌∙◌}
use Rattle.rvt_num.specs.Operations.{binary_of, converted}
use Rattle.c_meaning.specs.Stores.{number_of}
use Rattle.c_meaning.specs.Expressions.{operated}
use Rattle.c_cells.proofs.Exact.{back}
use Rattle.c_cells.proofs.operations.updated.Goals as goal

pub returns-in-Ok : goal.returns-in-Ok
returns-in-Ok c =
    back (binary_of c.args.op (converted c.args.kind (number_of c.args.old)) (number_of c.args.value)) _ _ _ _
    (sym c.in-Ok.is ∙ c.operated.ensures ∙ ap (λ v. operated c.args.op v c.args.value) c.converted.ensures) c.kind.ensures c.converted-in-Ok.ensures
