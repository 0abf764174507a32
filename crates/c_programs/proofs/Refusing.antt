-- A file that is refused is no program, and a program is the only one.
use Rattle.std.proofs.Common.{◌≡◌, ℕ, List, Ok, Err, Result, sym, ◌∙◌, ap, subst}
use Rattle.rvt_tree.specs.declared.places.Fault.{Fault}
use Rattle.rvt_tree.specs.declared.places.Fault.TheVariants as fault
use Rattle.rvt_tree.specs.declared.programs.Program.{Program}
use Rattle.c_syntax.specs.Syntax.{ExternalItem}
use Rattle.c_source.specs.declared.refused.Refused.{Refused}
use Rattle.c_source.specs.declared.refused.Refused.TheVariants as refused
use Rattle.c_source.specs.Source.{IsSource, IsFaultOf, HasNoSource}
use Rattle.file_typing.specs.Elaboration.{Elaborated, IsElaborated, OneAnswer, Break}
use Rattle.file_typing.specs.Programs.{ProgramView, program_view}
use Rattle.c_programs.specs.Readings.{IsReading, IsFirstFault, NoReadingWhere, of_the_source, of_the_items, place_in_file, refused_for}

-- ---- no file

pub first_of_source : (bytes : List ℕ) (f : Refused) → IsFaultOf bytes f → IsFirstFault bytes f
first_of_source bytes (refused.Source refusal) is = of_the_source is
first_of_source bytes refused.Memory is = tt

pub none_of_source : (bytes : List ℕ) (f : Refused) → HasNoSource bytes f → NoReadingWhere bytes f
none_of_source bytes (refused.Source refusal) none = λ program reading. none reading.items reading.source
none_of_source bytes refused.Memory none = tt

-- ---- a file, and what its items become

module _ (bytes : List ℕ) (items : List ExternalItem) (only : (others : List ExternalItem) → IsSource bytes others → others ≡ items) (one : OneAnswer) where
  -- all answers to the bytes are one
  same_answer : (answer : Result ProgramView Break) → Elaborated items answer → (program : Program) (reading : IsReading bytes program) → Ok reading.view ≡ answer
  same_answer answer is program reading =
      one items (Ok reading.view) answer (subst (λ xs. Elaborated xs (Ok reading.view)) (only reading.items reading.source) reading.elaborated) is

  pub none_of_items : (f : Fault) → IsElaborated items (Err f) → NoReadingWhere bytes (refused_for f)
  none_of_items (fault.Refused r) is = λ program reading. let no : Ok reading.view ≡ Err is.0 = same_answer (Err is.0) is.1 program reading in absurd (cc)
  none_of_items fault.Memory is = tt

  pub only_program : (program : Program) → IsElaborated items (Ok program) → (other : Program) → IsReading bytes other → program_view other ≡ program_view program
  only_program program is other reading =
      let same : Ok reading.view ≡ Ok is.0 = same_answer (Ok is.0) is.1 other reading in
      let views : reading.view ≡ is.0 = cc in
      reading.trees ∙ views ∙ sym is.2

pub first_of_items : (bytes : List ℕ) (items : List ExternalItem) → IsSource bytes items → (f : Fault) → IsElaborated items (Err f) → IsFirstFault bytes (refused_for f)
first_of_items bytes items source (fault.Refused r) is =
    of_the_items items is.0 source is.1 (record { place = ap place_in_file is.2.0; cause = is.2.1; word = is.2.2 })
first_of_items bytes items source fault.Memory is = tt
