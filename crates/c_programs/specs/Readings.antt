-- Which program a file of C is, and what a refusal of others says.
use Rattle.std.specs.Prelude.{◌≡◌, ℕ, List, Ok, Err}
use Rattle.rvt_tree.specs.declared.places.Place.{Place}
use Rattle.rvt_tree.specs.declared.places.Fault.{Fault}
use Rattle.rvt_tree.specs.declared.places.Fault.TheVariants as fault
use Rattle.rvt_tree.specs.declared.programs.Program.{Program}
use Rattle.c_lexer.specs.declared.tokens.Place.{Place as PlaceInFile}
use Rattle.c_syntax.specs.Syntax.{ExternalItem}
use Rattle.c_source.specs.declared.refused.Refusal.{Refusal}
use Rattle.c_source.specs.declared.refused.Refused.{Refused}
use Rattle.c_source.specs.declared.refused.Refused.TheVariants as refused
use Rattle.c_source.specs.Source.{IsSource, IsRefusalOf}
use Rattle.expression_typing.specs.Outcomes.{number_of, word_of}
use Rattle.file_typing.specs.Elaboration.{Elaborated, Break}
use Rattle.file_typing.specs.Programs.{ProgramView, IsProgramOf}

-- The bytes are a file of C, and the program is what its items become.
pub record IsReading (bytes : List ℕ) (program : Program) : Type 0 where
  pub items : List ExternalItem
  pub source : IsSource bytes items
  pub view : ProgramView
  pub elaborated : Elaborated items (Ok view)
  pub trees : IsProgramOf view program

-- the bytes are no program
abbrev pub HasNoReading : List ℕ → Type 0
HasNoReading bytes = (program : Program) → IsReading bytes program → ⊥

-- ---- refusals

abbrev pub place_in_file : Place → PlaceInFile
place_in_file place = record { line = place.line; column = place.column }

-- the refusal names the broken rule: its place, its cause and its word
pub record NamesRule (broken : Break) (refusal : Refusal) : Type 0 where
  pub place : refusal.place ≡ place_in_file broken.place
  pub cause : refusal.cause ≡ number_of broken.cause
  pub word : refusal.word ≡ word_of broken.cause

-- The refusal is the first that there is: of the bytes as tokens, then of the tokens as a file, then of the file's items.
pub data IsFirstRefusal (bytes : List ℕ) (refusal : Refusal) : Type 0 where
  of_the_source : IsRefusalOf bytes refusal → IsFirstRefusal bytes refusal
  of_the_items : (items : List ExternalItem) (broken : Break) → IsSource bytes items → Elaborated items (Err broken) → NamesRule broken refusal
      → IsFirstRefusal bytes refusal

-- what a fault says: want of memory says nothing
abbrev pub IsFirstFault : List ℕ → Refused → Type 0
IsFirstFault bytes (refused.Source refusal) = IsFirstRefusal bytes refusal
IsFirstFault bytes refused.Memory = Unit {0}

-- a refusal says that the bytes are no program
abbrev pub NoReadingWhere : List ℕ → Refused → Type 0
NoReadingWhere bytes (refused.Source refusal) = HasNoReading bytes
NoReadingWhere bytes refused.Memory = Unit {0}

-- the refusal of a file for a fault of its items
abbrev pub refused_for : Fault → Refused
refused_for (fault.Refused r) = refused.Source (record { place = place_in_file r.place; cause = r.cause; word = r.word })
refused_for fault.Memory = refused.Memory
