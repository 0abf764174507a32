-- The constants of an enum, one by one.
use Rattle.std.proofs.Common.{◌≡◌, ◌≤◌, List, [], ◌∷◌, map, length, take, drop, get_or, ◌-◌, Err, refl, ap, sym, ◌∙◌, arith}
use Rattle.std.proofs.lemmas.Grind.{common_steps}
use Rattle.std.specs.Prelude.{ℤ, ◌+ℤ◌, pos}
use Rattle.c_syntax.specs.declared.declarations.Enumerator.{Enumerator}
use Rattle.c_syntax.specs.Syntax as s
use Rattle.c_syntax.specs.Views.{enumerator_view}
use Rattle.expression_typing.specs.Progress as p
use Rattle.expression_typing.specs.Outcomes.{Outcome, Made, Broken, go_on}
use Rattle.file_typing.specs.Blocks.{unless_declared}
use Rattle.file_typing.specs.Enumerations.{value_or, is_int, typed_constants, with_constant}
use Rattle.file_typing.specs.FileScope.{FileScope}
use Rattle.typing_base.specs.declared.faults.Fault.{Fault}
use Rattle.typing_base.specs.declared.faults.Fault.TheVariants as F
use Rattle.typing_base.specs.declared.notes.Notes.{Notes}
use Rattle.typing_base.specs.Follows.{Becomes}
use Rattle.file_declarations.specs.Steps.{one_constant}

-- ---- by the outcomes of the three phrases

module _ (file : FileScope) (one : s.EnumerationConstant) (rest : List s.EnumerationConstant) where
  declared : (value : ℤ) (o : Outcome (Unit {0}))
      → go_on (λ _. typed_constants (with_constant one.word value file) (value +ℤ pos 1) rest) o
      ≡ go_on (λ (r : FileScope × ℤ). typed_constants r.0 r.1 rest) (go_on (λ _ notes. Made (with_constant one.word value file, value +ℤ pos 1) notes) o)
  declared value (Made x notes) = refl
  declared value (Broken cause at) = refl

  checked : (value : ℤ) (o : Outcome (Unit {0}))
      → go_on (λ _ notes. go_on (λ _. typed_constants (with_constant one.word value file) (value +ℤ pos 1) rest) (unless_declared file.names one.word.name one.word.place notes)) o
      ≡ go_on (λ (r : FileScope × ℤ). typed_constants r.0 r.1 rest)
      (go_on (λ _ notes. go_on (λ _ notes. Made (with_constant one.word value file, value +ℤ pos 1) notes) (unless_declared file.names one.word.name one.word.place notes)) o)
  checked value (Made x notes) = declared value (unless_declared file.names one.word.name one.word.place notes)
  checked value (Broken cause at) = refl

  valued : (o : Outcome ℤ)
      → go_on (λ value notes. go_on (λ _ notes. go_on (λ _. typed_constants (with_constant one.word value file) (value +ℤ pos 1) rest) (unless_declared file.names one.word.name one.word.place notes)) (is_int one.word value notes)) o
      ≡ go_on (λ (r : FileScope × ℤ). typed_constants r.0 r.1 rest)
      (go_on (λ value notes. go_on (λ _ notes. go_on (λ _ notes. Made (with_constant one.word value file, value +ℤ pos 1) notes) (unless_declared file.names one.word.name one.word.place notes)) (is_int one.word value notes)) o)
  valued (Made value notes) = checked value (is_int one.word value notes)
  valued (Broken cause at) = refl

  constants_by_one : (next : ℤ) (notes : p.Notes)
      → typed_constants file next (one ∷ rest) notes ≡ go_on (λ (r : FileScope × ℤ). typed_constants r.0 r.1 rest) (one_constant file next one notes)
  constants_by_one next notes = valued (value_or file next one.value notes)

-- ---- the same of the list that the code goes through

-- of a list that is not empty, the others
others_are : {A : Type 0} (x : A) (xs : List A) → take (length (x ∷ xs) - 1) (drop 1 (x ∷ xs)) ≡ xs
others_are x xs = let n : length (x ∷ xs) - 1 ≡ length xs = omega arith in rw n (grind (arith, common_steps))

pub next_constant : (file after : FileScope) (next now later : ℤ) (list : List Enumerator) (one : Enumerator) (n m : p.Notes) → 1 ≤ length list → one ≡ get_or list 0 one
    → one_constant file next (enumerator_view one) n ≡ Made (after, later) m → now ≡ later
    → typed_constants file next (map enumerator_view list) n ≡ typed_constants after now (map enumerator_view (take (length list - 1) (drop 1 list))) m
next_constant file after next now later [] one n m some first made same = absurd (let no : ⊥ = omega (arith, some) in no)
next_constant file after next now later (x ∷ rest) one n m some first made same =
    constants_by_one file (enumerator_view x) (map enumerator_view rest) next n
    ∙ ap (λ (e : Enumerator). go_on (λ (r : FileScope × ℤ). typed_constants r.0 r.1 (map enumerator_view rest)) (one_constant file next (enumerator_view e) n)) (sym first)
    ∙ ap (go_on (λ (r : FileScope × ℤ). typed_constants r.0 r.1 (map enumerator_view rest))) made
    ∙ ap (λ (l : List Enumerator). typed_constants after later (map enumerator_view l) m) (sym (others_are x rest))
    ∙ ap (λ (z : ℤ). typed_constants after z (map enumerator_view (take (length (x ∷ rest) - 1) (drop 1 (x ∷ rest)))) m) (sym same)

pub constant_fails : {A B : Type 0} (view : B → FileScope × ℤ) (other : A → FileScope) (whole : Outcome FileScope) (file : FileScope) (next : ℤ) (list : List Enumerator) (one : Enumerator) (n : p.Notes)
    (fault : Fault) (m k : Notes) → 1 ≤ length list → one ≡ get_or list 0 one → whole ≡ typed_constants file next (map enumerator_view list) n
    → Becomes view (one_constant file next (enumerator_view one) n) (Err fault) m → Becomes other whole (Err fault) k
constant_fails view other whole file next [] one n fault m k some first is failed = absurd (let no : ⊥ = omega (arith, some) in no)
constant_fails view other whole file next (x ∷ rest) one n (F.Broken b) m k some first is failed =
    is
    ∙ constants_by_one file (enumerator_view x) (map enumerator_view rest) next n
    ∙ ap (λ (e : Enumerator). go_on (λ (r : FileScope × ℤ). typed_constants r.0 r.1 (map enumerator_view rest)) (one_constant file next (enumerator_view e) n)) (sym first)
    ∙ ap (go_on (λ (r : FileScope × ℤ). typed_constants r.0 r.1 (map enumerator_view rest))) failed
constant_fails view other whole file next (x ∷ rest) one n F.Memory m k some first is failed = tt
