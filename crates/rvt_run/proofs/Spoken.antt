-- What a run writes says nothing false.
use Rattle.std.proofs.Common.{◌≡◌, ℕ, ◌≤◌, List, [], ◌++◌, take, length, Option, Some, Ok, refl, sym, ◌∙◌, ap, subst, inl, inr, arith}
use Rattle.std.specs.Prelude.{codes, All}
use Rattle.std.specs.List.{concat, Contains}
use Rattle.std.proofs.lemmas.List.{append_cancel_left, append-nil}
use Rattle.std.proofs.Math.Seq.{take-length}
use Rattle.std.proofs.lemmas.List.Elements.{All-contains}
use Rattle.std.proofs.Math.Nat.{eq-or-lt_of_le}
use Rattle.rvt_edge.specs.declared.desk.Call.{Call}
use Rattle.rvt_edge.specs.Desk.{Files}
use Rattle.rvt_edge.specs.Sink.{Grows, GrowsByPart}
use Rattle.command_words.specs.Commands.{comparison, IsCommand}
use Rattle.rvt_tree.specs.declared.programs.Program.{Program}
use Rattle.c_programs.specs.Readings.{IsReading}
use Rattle.version_map.specs.Maps.{Entries, map_of}
use Rattle.function_pairs.specs.Units.{pair_name}
use Rattle.rvt_run.specs.Answer.{Answers, refused, compare, run, AnswersCompare, old_fault, old_long, new_fault, new_long, map_fault, map_long, compared, Compares, old_refused, new_refused, map_refused, joined, Names, map_text, IsWhole, IsWholeMap, Writes, IsLine}
use Rattle.rvt_run.specs.Joined.{IsCompared, no_such_name, types_differ, too_large, on_cycle, reported, functions_of}
use Rattle.rvt_run.specs.Headline.{lines_of, SaysFullTruly, IsFullInFiles}
use Rattle.rvt_run.specs.Report.{IsName, IsNumbered, IsTrueLine, full_line}
use Rattle.rvt_run.proofs.Lone.{lone, lone_text, no_refusal, no_line_refusal}
use Rattle.rvt_run.proofs.Placed.{HasNoColon, pair_none}
use Rattle.rvt_run.proofs.RunSpoken.{answers_run_no_full}
use Rattle.rvt_run.proofs.Split.{lines_of_concat, line_of_part}

-- where a line of the answer to `compare` says that a pair is fully equivalent, it is
module _ (words : List (List ℕ)) (files : Option Files) (f g : List ℕ) (number : Option ℕ) (f_is : IsName f) (g_is : IsName g) (low : IsNumbered number) where
  abbrev Said : List (List ℕ) → Type 0
  Said lines = Contains lines (full_line (pair_name f g) number)

  none : HasNoColon (pair_name f g)
  none = pair_none f g f_is g_is

  module _ (old new : List ℕ) (map_name : Option (List ℕ)) (is : IsCommand words (comparison old new map_name)) (old_bytes new_bytes map_bytes : List ℕ)
      (old_told : IsWhole files old old_bytes) (new_told : IsWhole files new new_bytes) (map_told : IsWholeMap files map_name map_bytes) where
    joined_true : (p q : Program) (said : Entries) → IsReading old_bytes p → IsReading new_bytes q → map_of map_bytes ≡ Ok said → (map_text_name : List ℕ) (status : ℕ) (lines : List (List ℕ)) → IsCompared map_text_name p q said status lines →
        Said lines → IsFullInFiles words files f g number
    joined_true p q said p_read q_read m_read shown status lines (no_such_name at found) among = absurd (no_line_refusal shown at (codes "no such name") (pair_name f g) number none among)
    joined_true p q said p_read q_read m_read shown status lines (types_differ at no_ found) among = absurd (no_line_refusal shown at (codes "types differ") (pair_name f g) number none among)
    joined_true p q said p_read q_read m_read shown status lines (too_large known alike large) among = absurd (lone_text (codes "the table of objects is too larg") 101 (pair_name f g) number (λ e. omega (arith, e)) among)
    joined_true p q said p_read q_read m_read shown status lines (on_cycle joint owner known alike are cycle) among =
        absurd (lone owner (codes ": address of a local on a call cycle of the two file") 115 (pair_name f g) number (λ e. omega (arith, e)) among)
    joined_true p q said p_read q_read m_read shown status lines (reported joint known alike are off report) among = record {
      old_name = old;
      new_name = new;
      map_name = map_name;
      command = is;
      old_bytes = old_bytes;
      new_bytes = new_bytes;
      map_bytes = map_bytes;
      old_told = old_told;
      new_told = new_told;
      map_told = map_told;
      old = p;
      new = q;
      said = said;
      old_read = p_read;
      new_read = q_read;
      map_read = m_read;
      joint = joint;
      are_joint = are;
      pair = All-contains (IsTrueLine (functions_of p q said).of_old joint.old joint.new_side) lines (full_line (pair_name f g) number) report.report.truth among f g number f_is g_is low refl;
    }

    compares_true : (names : Names) (status : ℕ) (lines : List (List ℕ)) → Compares names old_bytes new_bytes map_bytes status lines → Said lines → IsFullInFiles words files f g number
    compares_true names status lines (old_refused refusal refuses no_) among = absurd (no_refusal names.old refusal (pair_name f g) number none among)
    compares_true names status lines (new_refused p refusal read refuses no_) among = absurd (no_refusal names.new_side refusal (pair_name f g) number none among)
    compares_true names status lines (map_refused p q refusal p_read q_read wrong) among = absurd (no_line_refusal names.map_name refusal.line (map_text refusal.cause) (pair_name f g) number none among)
    compares_true names status lines (joined p q said p_read q_read m_read compared_) among = joined_true p q said p_read q_read m_read names.map_name status lines compared_ among

  compare_true : (old new : List ℕ) (map_name : Option (List ℕ)) → IsCommand words (comparison old new map_name) → (calls : List Call) (status : ℕ) (lines : List (List ℕ)) → AnswersCompare files old new map_name calls status lines →
      Said lines → IsFullInFiles words files f g number
  compare_true old new map_name is calls status lines old_fault among = absurd (lone old (codes ": cannot rea") 100 (pair_name f g) number (λ e. omega (arith, e)) among)
  compare_true old new map_name is calls status lines (old_long long) among = absurd (lone old (codes ": too lon") 103 (pair_name f g) number (λ e. omega (arith, e)) among)
  compare_true old new map_name is calls status lines (new_fault bytes whole) among = absurd (lone new (codes ": cannot rea") 100 (pair_name f g) number (λ e. omega (arith, e)) among)
  compare_true old new map_name is calls status lines (new_long bytes whole long) among = absurd (lone new (codes ": too lon") 103 (pair_name f g) number (λ e. omega (arith, e)) among)
  compare_true old new map_name is calls status lines (map_fault ob nb file ot nt named) among = absurd (lone file (codes ": cannot rea") 100 (pair_name f g) number (λ e. omega (arith, e)) among)
  compare_true old new map_name is calls status lines (map_long ob nb file ot nt named long) among = absurd (lone file (codes ": too lon") 103 (pair_name f g) number (λ e. omega (arith, e)) among)
  compare_true old new map_name is calls status lines (compared ob nb mb ot nt mt compares) among = compares_true old new map_name is ob nb mb ot nt mt _ status lines compares among

  -- the same of each answer
  pub answer_true : (calls : List Call) (status : ℕ) (lines : List (List ℕ)) → Answers words files calls status lines → Said lines → IsFullInFiles words files f g number
  answer_true calls status lines (refused absent no_calls two are) among =
      absurd (lone [] (codes "rvt: the words are no comman") 100 (pair_name f g) number (λ e. omega (arith, e)) (subst Said are among))
  answer_true calls status lines (compare old new map_name is answers) among = compare_true old new map_name is calls status lines answers among
  answer_true calls status lines (run file function arguments steps is answers) among = absurd (answers_run_no_full files file function arguments steps calls status lines (pair_name f g) number answers none among)

-- what was written behind these bytes
piece_is : (written text piece : List ℕ) → Some (written ++ text) ≡ Some (written ++ piece) → text ≡ piece
piece_is written text piece e = let same : written ++ text ≡ written ++ piece = cc in append_cancel_left written text piece same

-- a whole answer, or a first part of one
pub spoken : (words : List (List ℕ)) (files : Option Files) (calls : List Call) (status result faults now : ℕ) (lines : List (List ℕ)) (before after : Option (List ℕ)) →
    Answers words files calls status lines → All IsLine lines → faults ≤ now → Writes before after faults now result status (concat lines) → SaysFullTruly words files before after
spoken words files calls status result faults now lines before after answers shaped later writes written text f g number begun ended f_is g_is low among =
    answer_true words files f g number f_is g_is low calls status lines answers in_lines
  where
    part : (n : ℕ) × (text ≡ take n (concat lines))
    part = elim (eq-or-lt_of_le later) [
      | inl same ↦ (let grown : Grows before after (concat lines) = (writes.whole (sym same)).1 in
          let told : Grows (Some written) after (concat lines) = subst (λ (o : Option (List ℕ)). Grows o after (concat lines)) begun grown in
          (length (concat lines), piece_is written text (concat lines) (sym ended ∙ told) ∙ sym (take-length (concat lines))))
      | inr rose ↦ (let grown : GrowsByPart before after (concat lines) = (writes.cut rose).1 in
          let told : Grows (Some written) after (take grown.0 (concat lines)) = subst (λ (o : Option (List ℕ)). Grows o after (take grown.0 (concat lines))) begun grown.1 in
          (grown.0, piece_is written text (take grown.0 (concat lines)) (sym ended ∙ told)))
    ]

    in_lines : Contains lines (full_line (pair_name f g) number)
    in_lines =
        let of_part : Contains (lines_of (take part.0 (concat lines))) (full_line (pair_name f g) number) = subst (λ (t : List ℕ). Contains (lines_of t) (full_line (pair_name f g) number)) part.1 among in
        subst (λ (ls : List (List ℕ)). Contains ls (full_line (pair_name f g) number)) (lines_of_concat lines shaped) (line_of_part part.0 (concat lines) [] (full_line (pair_name f g) number) of_part)

-- nothing was written
pub silent : (words : List (List ℕ)) (files : Option Files) (before : Option (List ℕ)) → SaysFullTruly words files before before
silent words files before written text f g number begun ended f_is g_is low among =
    let same : Some (written ++ text) ≡ Some (written ++ []) = sym ended ∙ begun ∙ ap Some (sym (append-nil written)) in
    let none : text ≡ [] = piece_is written text [] same in
    let no : Contains (lines_of []) (full_line (pair_name f g) number) = subst (λ (t : List ℕ). Contains (lines_of t) (full_line (pair_name f g) number)) none among in
    absurd (omega (arith, no.1))
