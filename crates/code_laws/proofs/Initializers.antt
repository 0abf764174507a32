-- The code of initializers.
use Rattle.std.proofs.Common.{◌≡◌, ℕ, zero, suc, ◌+◌, ◌-◌, List, [], ◌∷◌, length, refl, sym, ap, ◌∙◌, subst, arith}
use Rattle.std.proofs.lemmas.List.{length-map}
use Rattle.std.specs.Prelude.{take, drop, map}
use Rattle.rvt_num.specs.declared.values.Value.{Value}
use Rattle.rvt_tree.specs.declared.expressions.Variable.{Variable}
use Rattle.rvt_tree.specs.declared.programs.Program.{Program}
use Rattle.rvt_tree.specs.Syntax.{Initializer, initial_value, braces, Initializers, no_initializers, initializer, declaration_with}
use Rattle.c_meaning.specs.Outcomes.{State, and_then}
use Rattle.c_meaning.specs.Stores.{cleared, cells_of, with_cells}
use Rattle.c_meaning.specs.Statements.{initial_cells, put_cells}
use Rattle.c_meaning.specs.Runs.{stepping}
use Rattle.c_tasks.specs.Operands.{Operands, with_values, with_manner}
use Rattle.c_tasks.specs.Tasks.{Rest, running_statement}
use Rattle.c_tasks.proofs.Sequences.{then_then}
use Rattle.c_code.specs.Expressions.{value_code}
use Rattle.c_code.specs.Initializers.{Counts, count_of, least, cells_in, cells_in_members, pad_code, initializer_code, members_code}
use Rattle.c_code.specs.Statements.{declaring}
use Rattle.c_code.specs.declared.instructions.Manner.TheVariants as M
use Rattle.c_code.specs.declared.instructions.Instruction.{Instruction}
use Rattle.c_code.specs.declared.instructions.Instruction.TheVariants as I
use Rattle.code_laws.specs.Effects.{effect, values_from}
use Rattle.code_laws.specs.Stands.{Spans, Stands, begins}
use Rattle.code_laws.proofs.Spanning.{split, one}
use Rattle.code_laws.proofs.Values.{value_stands, alike_where, last_of, below_of}
use Rattle.code_laws.proofs.Cells.{padding, filled, filled_members, cells_many, fills}

all_taken : (count : ℕ) (l : List Value) → length l ≡ count → take count l ≡ l
all_taken zero [] h = refl
all_taken zero (v ∷ l) h = absurd (let no : ⊥ = omega (arith, h) in no)
all_taken (suc n) [] h = absurd (let no : ⊥ = omega (arith, h) in no)
all_taken (suc n) (v ∷ l) h = ap (λ vs. v ∷ vs) (all_taken n l (omega (arith, h)))

module _ (program : Program) (d : ℕ) (counts : Counts) (code : List Instruction) where
  abbrev S : ℕ → ℕ → ℕ → Rest → Type 0
  S pc h p k = Stands program d counts code pc h p k

  pads_stand : (at n slot from to : ℕ) (next : Rest) → Spans code from to (pad_code at n slot) → S to (slot + n) 0 next → S from slot 0 (padding program d at n slot next)
  pads_stand at zero slot from to next spans after =
      let level : slot + 0 ≡ slot = omega arith in
      subst (λ h. S from h 0 next) level (subst (λ n. S n (slot + 0) 0 next) (sym spans) after)
  pads_stand at (suc n) slot from to next spans after = one program d counts code (I.Pad at (suc n) slot) spans (refl, refl, refl) (λ on s. refl) after

  mutual
    pub initializer_stands : (init : Initializer) (at size slot from to : ℕ) (next : Rest) → Spans code from to (initializer_code init at size slot) → S to (slot + cells_in init size) 0 next →
        S from slot 0 (filled program d init at size slot next)
    initializer_stands (initial_value e) at size slot from to next spans after =
        let first = split code from to (value_code e slot 0) (pad_code (suc at) (size - 1) (suc slot)) spans in
        let level : slot + suc (size - 1) ≡ suc slot + (size - 1) = omega arith in
        value_stands program d counts code e slot 0 from first.0 (padding program d (suc at) (size - 1) (suc slot) next) first.1
        (pads_stand (suc at) (size - 1) (suc slot) first.0 to next first.2 (subst (λ h. S to h 0 next) level after))
    initializer_stands (braces members) at size slot from to next spans after = members_stand members at size slot from to next spans after

    members_stand : (members : Initializers) (at size slot from to : ℕ) (next : Rest) → Spans code from to (members_code members at size slot) → S to (slot + cells_in_members members size) 0 next →
        S from slot 0 (filled_members program d members at size slot next)
    members_stand no_initializers at size slot from to next spans after = pads_stand at size slot from to next spans after
    members_stand (initializer i own rest) at size slot from to next spans after =
        let n = cells_in i (least own size) in
        let first = split code from to (initializer_code i at (least own size) slot) (members_code rest (at + own) (size - own) (slot + n)) spans in
        let level : slot + (n + cells_in_members rest (size - own)) ≡ slot + n + cells_in_members rest (size - own) = omega arith in
        initializer_stands i at (least own size) slot from first.0 (filled_members program d rest (at + own) (size - own) (slot + n) next) first.1
        (members_stand rest (at + own) (size - own) (slot + n) first.0 to next first.2 (subst (λ h. S to h 0 next) level after))

  -- what comes when all cells wait on top of the zeros
  initialized : (variable : Variable) (count n : ℕ) (zeros cells : List Value) (on : Operands) (next : Rest) (t : State ℕ) → length zeros ≡ count → length cells ≡ n →
      effect program d (I.Initialize variable count n) (effect program d (I.End M.Normally) next) (with_values cells (with_values zeros on)) t ≡ and_then (put_cells program variable cells) (λ manner. next (with_manner manner on)) t
  initialized variable count n zeros cells on next t many number =
      let all = with_values cells (with_values zeros on) in
      ap (λ cs. and_then (put_cells program variable cs) (λ manner. effect program d (I.End M.Normally) next (record { values = drop count (drop n all.values); places = on.places; manner = on.manner; zeros = on.zeros })) t) (last_of cells (with_values zeros on).values n number)
      ∙ ap (λ vs. and_then (put_cells program variable cells) (λ manner. effect program d (I.End M.Normally) next (record { values = drop count vs; places = on.places; manner = on.manner; zeros = on.zeros })) t) (below_of cells (with_values zeros on).values n number)
      ∙ ap (λ vs. and_then (put_cells program variable cells) (λ manner. effect program d (I.End M.Normally) next (record { values = vs; places = on.places; manner = on.manner; zeros = on.zeros })) t) (below_of zeros on.values count many)

  -- a declaration with its initializer, where the zeros of the variable wait
  with_zeros : (variable : Variable) (init : Initializer) (count : ℕ) (zeros : List Value) (on : Operands) (next : Rest) (s : State ℕ) → length zeros ≡ count →
      and_then (and_then (initial_cells program (stepping program d) init zeros) (put_cells program variable)) (λ manner. next (with_manner manner on)) s
      ≡ filled program d init 0 count count (effect program d (I.Initialize variable count (cells_in init count)) (effect program d (I.End M.Normally) next)) (with_values zeros on) s
  with_zeros variable init count zeros on next s many =
      let last = effect program d (I.Initialize variable count (cells_in init count)) (effect program d (I.End M.Normally) next) in
      let waiting : values_from count 0 count (with_values zeros on) ≡ zeros = ap (take count) (last_of zeros on.values count many) ∙ all_taken count zeros many in
      then_then (initial_cells program (stepping program d) init zeros s) (put_cells program variable) (λ manner. next (with_manner manner on))
      ∙ alike_where (λ cells. length cells ≡ cells_in init count) (initial_cells program (stepping program d) init zeros s) _ _ (cells_many program d init count zeros many s)
      (λ cells t number. sym (initialized variable count (cells_in init count) zeros cells on next t many number))
      ∙ ap (λ zs. and_then (initial_cells program (stepping program d) init zs) (λ cells. last (with_values cells (with_values zeros on))) s) (sym waiting)
      ∙ sym (fills program d init 0 count count last (with_values zeros on) s (ap length waiting ∙ many))

  pub declaration_stands : (variable : Variable) (init : Initializer) (from to : ℕ) (next : Rest) → Spans code from to (declaring variable init (count_of counts variable)) → S to 0 0 next →
      S from 0 0 (running_statement program d (declaration_with variable init) next)
  declaration_stands variable init from to next spans after =
      let count = count_of counts variable in
      let n = cells_in init count in
      let first = split code (suc from) to (initializer_code init 0 count count) (I.Initialize variable count n ∷ I.End M.Normally ∷ []) spans.1 in
      let second = split code first.0 to (I.Initialize variable count n ∷ []) (I.End M.Normally ∷ []) first.2 in
      let ended = effect program d (I.End M.Normally) next in
      let last = effect program d (I.Initialize variable count n) ended in
      begins (filled program d init 0 count count last) variable spans.0
      (λ on s fits. let zeros = map cleared (cells_of program variable s.locals s.store) in
      with_zeros variable init count zeros on next (with_cells program variable zeros s) (length-map (cells_of program variable s.locals s.store) cleared ∙ fits))
      (initializer_stands init 0 count count (suc from) first.0 last first.1
      (one program d counts code (I.Initialize variable count n) second.1 (refl, refl, refl) (λ on s. refl)
      (one program d counts code (I.End M.Normally) second.2 (refl, refl) (λ on s. refl) after)))
