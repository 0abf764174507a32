-- Two versions of the factorial function over one global object:
--     int f(int n){ if (n <= 1) return 1; return n * f(n - 1); }
--     int f(int n){ if (n <= 1) return 1; int r = f(n - 1); return n * r; }
use Rattle.std.specs.Prelude.{true, false, List, [], ◌∷◌, ◌++◌, pos}
use Rattle.core_ir.specs.declared.cores.Core.{Core}
use Rattle.core_ir.specs.declared.cores.CoreObject.{CoreObject}
use Rattle.core_ir.specs.declared.cores.JointCore.{JointCore}
use Rattle.core_ir.specs.declared.units.Code.{Code}
use Rattle.core_ir.specs.declared.units.Code.TheVariants.{Seq, Set, Call, If, Stop}
use Rattle.core_ir.specs.declared.units.CoreOp.TheVariants.{Const, Copy, Binary}
use Rattle.core_ir.specs.declared.units.Shape.{Shape}
use Rattle.core_ir.specs.declared.units.Shape.TheVariants.{Word}
use Rattle.core_ir.specs.declared.units.Unit.{Unit}
use Rattle.rvt_num.specs.declared.kinds.Kind.TheVariants.{I32}
use Rattle.rvt_num.specs.declared.operations.BinOp.TheVariants.{Le, Sub, Mul}
use Rattle.rvt_num.specs.declared.values.Value.TheVariants.{Num}

abbrev pub int : Shape
int = Word I32

-- register 0 is n, 1 holds 1, 2 whether n is at most 1, 3 holds n - 1, 4 the result of the inner call, 5 the product, and 6 is r
abbrev pub first_part : List Code
first_part =
    Set 1 (Const (Num (record { kind = I32; value = pos 1 }))) ∷ Set 2 (Binary Le 0 1) ∷ If 2 (Stop (1 ∷ [])) (Seq []) ∷ Set 3 (Binary Sub 0 1) ∷ Call 0 (3 ∷ []) (4 ∷ []) ∷ []

abbrev pub old_body : Code
old_body = Seq (first_part ++ Set 5 (Binary Mul 0 4) ∷ Stop (5 ∷ []) ∷ [])

abbrev pub new_body : Code
new_body = Seq (first_part ++ Set 6 (Copy 4) ∷ Set 5 (Binary Mul 0 6) ∷ Stop (5 ∷ []) ∷ [])

abbrev pub factorial : Code → Unit
factorial body =
    record {
      inputs = int ∷ [];
      registers = int ∷ int ∷ int ∷ int ∷ int ∷ int ∷ int ∷ [];
      results = int ∷ [];
      owned = [];
      body = body;
      fixed = 1088;
      branches = 1;
      derefs = 0;
      own_traps = [];
    }

abbrev pub global : CoreObject
global = record { cells = int ∷ []; starts = (5, 0) ∷ []; constant = false; addressable = true; contents = [] }

abbrev pub version : Code → Core
version body = record { units = factorial body ∷ []; objects = global ∷ [] }

abbrev pub both_factorials : JointCore
both_factorials = record { old = version old_body; new_side = version new_body; pairs = (0, 0, true) ∷ [] }
