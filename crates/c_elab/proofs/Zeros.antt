-- Zero is a number of each kind.
use Rattle.std.proofs.Common.{◌≡◌, pos, refl}
use Rattle.rvt_num.specs.Wrapping.{wrapped}
use Rattle.rvt_num.specs.declared.kinds.Kind.{Kind}
use Rattle.rvt_num.specs.declared.kinds.Kind.TheVariants as K

pub zero_wrapped : (kind : Kind) → wrapped kind (pos 0) ≡ record { kind = kind; value = pos 0 }
zero_wrapped K.Bool = refl
zero_wrapped K.I8 = refl
zero_wrapped K.U8 = refl
zero_wrapped K.I16 = refl
zero_wrapped K.U16 = refl
zero_wrapped K.I32 = refl
zero_wrapped K.U32 = refl
zero_wrapped K.I64 = refl
zero_wrapped K.U64 = refl
