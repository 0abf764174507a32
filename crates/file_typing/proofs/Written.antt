-- Short ways to write the trees of a file of one line.
use Rattle.std.proofs.Common.{ℕ, List, Option, Some, None, option_map, pos, true, false}
use Rattle.rvt_num.specs.declared.kinds.Kind.TheVariants.{I32}
use Rattle.rvt_tree.specs.declared.places.Place.{Place}
use Rattle.c_syntax.specs.Syntax as s
use Rattle.c_syntax.specs.declared.bases.Base.{Base}
use Rattle.c_syntax.specs.declared.bases.Pointer.{Pointer}
use Rattle.c_syntax.specs.declared.bases.Specifier.{Specifier}
use Rattle.c_syntax.specs.declared.bases.Word.{Word}
use Rattle.expression_typing.specs.Outcomes.{Cause, Outcome, Made, Broken, no_body}
use Rattle.expression_typing.specs.Progress.{Call}
use Rattle.file_typing.specs.CallCycles.{first_without_body}
use Rattle.file_typing.specs.Elaboration.{Break, whole_file, program_of}
use Rattle.file_typing.specs.FileScope.{FileScope}
use Rattle.file_typing.specs.Programs.{ProgramView}

-- ---- tokens, by their columns

abbrev pub at : ℕ → Place
at column = record { line = 1; column = column }

abbrev pub word : List ℕ → ℕ → Word
word name column = record { name = name; place = at column }

abbrev pub int : ℕ → ℕ → s.Expression
int n column = s.integer (record { kind = I32; value = pos n }) (at column)

abbrev pub star : ℕ → Pointer
star column = record { place = at column; constant = false }

abbrev pub constant_star : ℕ → Pointer
constant_star column = record { place = at column; constant = true }

-- ---- declarations

abbrev pub base : ℕ → Specifier → Base
base column specifier = record { place = at column; constant = false; specifier = specifier }

abbrev pub constant_base : ℕ → Specifier → Base
constant_base column specifier = record { place = at column; constant = true; specifier = specifier }

abbrev pub declarator : Option Pointer → Word → s.Dimensions → s.Declarator
declarator pointer word dimensions = record { pointer = pointer; word = word; dimensions = dimensions }

-- a name alone
abbrev pub plain : Word → s.Declarator
plain word = declarator None word s.no_dimensions

abbrev pub bare : s.Declarator → s.InitDeclarator
bare declarator = record { declarator = declarator; value = None }

abbrev pub set_to : s.Declarator → s.Initializer → s.InitDeclarator
set_to declarator value = record { declarator = declarator; value = Some value }

abbrev pub local : Base → List s.InitDeclarator → s.Declaration
local base inits = record { base = base; inits = inits }

abbrev pub parameter_of : Base → Option Pointer → Option Word → s.Dimensions → s.Parameter
parameter_of base pointer word dimensions = record { base = base; pointer = pointer; word = word; dimensions = dimensions }

abbrev pub parameter : Base → Word → s.Parameter
parameter base word = parameter_of base None (Some word) s.no_dimensions

-- ---- structs and enums

abbrev pub line : Base → List s.Declarator → s.FieldDeclaration
line base declarators = record { base = base; declarators = declarators }

abbrev pub enumerator : Word → s.EnumerationConstant
enumerator word = record { word = word; value = None }

abbrev pub enumerator_of : Word → s.Expression → s.EnumerationConstant
enumerator_of word value = record { word = word; value = Some value }

abbrev pub alone : Base → s.ItemSpecifier
alone base = record { base = base; members = None }

abbrev pub with_members : Base → s.Members → s.ItemSpecifier
with_members base members = record { base = base; members = Some members }

-- ---- what is computed of a file

abbrev pub of_call : Option Call → Option Break
of_call = option_map (λ call. record { cause = no_body call.name; place = call.place })

abbrev pub refusal_of : Outcome FileScope → Option Break
refusal_of (Broken cause place) = Some (record { cause = cause; place = place })
refusal_of (Made file notes) = of_call (first_without_body file.functions)

-- the first rule that is broken, call cycles left aside
abbrev pub refused : List s.ExternalItem → Option Break
refused items = refusal_of (whole_file items)

abbrev pub at_column : Cause → ℕ → Option Break
at_column cause column = Some (record { cause = cause; place = at column })

abbrev pub program_in : Outcome FileScope → Option ProgramView
program_in (Broken cause place) = None
program_in (Made file notes) = Some (program_of file)

-- the program of a file that breaks no rule, call cycles left aside
abbrev pub program : List s.ExternalItem → Option ProgramView
program items = program_in (whole_file items)
