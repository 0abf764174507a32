-- When a step says what a phrase becomes.
use Rattle.std.specs.Prelude.{◌≡◌, Result, Ok, Err}
use Rattle.expression_typing.specs.Outcomes.{Outcome, Made, Broken, Checking, give, broken}
use Rattle.expression_typing.specs.Operands as x
use Rattle.typing_base.specs.declared.faults.Fault.{Fault}
use Rattle.typing_base.specs.declared.faults.Fault.TheVariants as F
use Rattle.typing_base.specs.declared.operands.Operand.{Operand}
use Rattle.typing_base.specs.declared.notes.Notes.{Notes}
use Rattle.typing_base.specs.Views.{cause_view, operand_view, notes_view}

-- a step has this outcome: what it makes, and what is noted then; or the rule that is broken; unless memory was wanting
abbrev pub Becomes : {A B : Type 0} → (B → A) → Outcome A → Result B Fault → Notes → Type 0
Becomes view outcome (Ok made) notes = outcome ≡ Made (view made) (notes_view notes)
Becomes view outcome (Err (F.Broken b)) notes = outcome ≡ Broken (cause_view b.cause) b.place
Becomes view outcome (Err F.Memory) notes = Unit {0}

abbrev pub BecomesOperand : Outcome x.Operand → Result Operand Fault → Notes → Type 0
BecomesOperand outcome result notes = Becomes operand_view outcome result notes

-- the same of a rule that notes nothing
abbrev pub Gives : {A B : Type 0} → (B → A) → Checking A → Result B Fault → Type 0
Gives view rule (Ok made) = rule ≡ give (view made)
Gives view rule (Err (F.Broken b)) = rule ≡ broken (cause_view b.cause) b.place
Gives view rule (Err F.Memory) = Unit {0}

abbrev pub GivesOperand : Checking x.Operand → Result Operand Fault → Type 0
GivesOperand rule result = Gives operand_view rule result
