-- A program, or the rule that is broken first, before it is told.
use Rattle.std.specs.Prelude.{List, Result, Ok, Err}
use Rattle.rvt_tree.specs.declared.programs.Program.{Program}
use Rattle.c_syntax.specs.Syntax as s
use Rattle.file_typing.specs.Elaboration as e
use Rattle.file_typing.specs.Elaboration.{Elaborated}
use Rattle.file_typing.specs.Programs.{program_view}
use Rattle.typing_base.specs.declared.faults.Break.{Break}
use Rattle.typing_base.specs.declared.faults.Fault.{Fault}
use Rattle.typing_base.specs.declared.faults.Fault.TheVariants as F
use Rattle.typing_base.specs.Views.{cause_view}

abbrev pub break_view : Break → e.Break
break_view broken = record { cause = cause_view broken.cause; place = broken.place }

abbrev pub IsTyped : List s.ExternalItem → Result Program Fault → Type 0
IsTyped items (Ok program) = Elaborated items (Ok (program_view program))
IsTyped items (Err (F.Broken broken)) = Elaborated items (Err (break_view broken))
IsTyped items (Err F.Memory) = Unit {0}
