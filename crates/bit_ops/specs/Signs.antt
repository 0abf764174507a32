-- Numbers with a sign.
use Rattle.std.specs.Prelude.{Bool, ◌&&◌, if◌then◌else◌}
use Rattle.rvt_num.specs.declared.operations.UnOp.TheVariants.{Minus}
use Rattle.rvt_num.specs.Kinds.{is_signed}
use Rattle.rvt_num.specs.Number.{Number}
use Rattle.rvt_num.specs.Operations.{unary_of}

-- the opposite of a number of a signed kind where `negative` is true, else the number
abbrev pub signed_number : Bool → Number → Number
signed_number negative a = if is_signed a.kind && negative then unary_of Minus a else a
