-- What the items of a file become, by what is typed of them.
use Rattle.std.proofs.Common.{◌≡◌, List, Ok, Err, sym, subst}
use Rattle.rvt_tree.specs.declared.places.Place.{Place}
use Rattle.rvt_tree.specs.declared.programs.Program.{Program}
use Rattle.c_syntax.specs.Syntax as s
use Rattle.expression_typing.specs.Outcomes as o
use Rattle.expression_typing.specs.Progress as n
use Rattle.file_typing.specs.Elaboration as e
use Rattle.file_typing.specs.Elaboration.{Elaborated, program_of, whole_file}
use Rattle.file_typing.specs.FileScope.{FileScope}
use Rattle.file_typing.specs.Programs.{ProgramView, program_view}
use Rattle.file_state.specs.Views.{file_state_view}
use Rattle.typing_base.specs.Follows.{Becomes}
use Rattle.typing_base.specs.declared.faults.Fault.{Fault}
use Rattle.typing_base.specs.declared.faults.Fault.TheVariants as F
use Rattle.typing_base.specs.declared.notes.Notes.{Notes}
use Rattle.c_elab.specs.LastRules as l
use Rattle.c_elab.specs.LastRules.{BreaksLastRule, IsSought}
use Rattle.c_elab.specs.Typed.{IsTyped}

breaks_at_last : (items : List s.ExternalItem) (file : FileScope) (notes : n.Notes) (cause : o.Cause) (at : Place)
    → whole_file items ≡ o.Made file notes → BreaksLastRule file.functions cause at → Elaborated items (Err (record { cause = cause; place = at }))
breaks_at_last items file notes _ _ typed (l.calls_no_body call is) = e.calls_no_body typed is
breaks_at_last items file notes _ _ typed (l.takes_address_on_cycle at none first) = e.takes_address_on_cycle typed none first

-- a rule that is broken at the end of the file
pub end_refused : (items : List s.ExternalItem) (file : FileScope) (notes : n.Notes) (fault : Fault)
    → whole_file items ≡ o.Made file notes → IsSought file.functions (Err fault) → IsTyped items (Err fault)
end_refused items file notes (F.Broken broken) typed last = breaks_at_last items file notes _ _ typed last
end_refused items file notes F.Memory typed last = tt

pub accepted : (items : List s.ExternalItem) (file : FileScope) (notes : n.Notes) (program : Program)
    → whole_file items ≡ o.Made file notes → IsSought file.functions (Ok tt) → program_view program ≡ program_of file → IsTyped items (Ok program)
accepted items file notes program typed last made =
    subst (λ (view : ProgramView). Elaborated items (Ok view)) (sym made) (e.is_program typed last.0 last.1)

-- a rule that an item breaks
pub item_refused : (items : List s.ExternalItem) (fault : Fault) (notes : Notes)
    → Becomes file_state_view (whole_file items) (Err fault) notes → IsTyped items (Err fault)
item_refused items (F.Broken broken) notes is = e.breaks_a_rule is
item_refused items F.Memory notes is = tt
