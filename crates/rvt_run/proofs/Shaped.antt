-- Each line of an answer is one line.
use Rattle.std.proofs.Common.{◌≡◌, ◌≢◌, ℕ, zero, suc, ◌+◌, ◌-◌, Bool, true, false, if◌then◌else◌, List, [], ◌∷◌, ◌++◌, length, Option, Some, None, refl, sym, ◌∙◌, ap, subst, arith}
use Rattle.std.specs.Prelude.{◌==◌, ◌&&◌, codes, All, slice_get}
use Rattle.std.specs.Fmt.{decimal}
use Rattle.std.proofs.lemmas.Bool.{eqb-true}
use Rattle.std.proofs.lemmas.List.{map-append}
use Rattle.std.proofs.lemmas.List.Elements.{All-nil, All-cons, All-append}
use Rattle.rvt_tree.specs.declared.pairings.Pairing.{Pairing}
use Rattle.rvt_tree.specs.declared.programs.Function.{Function}
use Rattle.rvt_tree.specs.declared.programs.Program.{Program}
use Rattle.rvt_run.specs.declared.pairs.Verdict.{Verdict}
use Rattle.rvt_run.specs.declared.pairs.Verdict.TheVariants.{Twin, Interface, Bodies}
use Rattle.rvt_run.specs.Answer.{IsLine, no_command}
use Rattle.rvt_run.specs.Lines.{line, line_said}
use Rattle.loop_interfaces.specs.declared.interfaces.LoopInterface.{LoopInterface}
use Rattle.rvt_run.specs.Pairs.{PairVerdict, ArePairs, no_more, skipped, paired, AreLoopPairs, units_alone, is_twin, partner_at, function_at}
use Rattle.rvt_run.specs.Report.{verdict_text, unit_text, unit_lines, pair_line, pair_lines, only_lines, counts_text, counts_of, full_among, report_lines}
use Rattle.rvt_run.specs.Texts.{HasNoLineEnd}
use Rattle.function_pairs.specs.declared.pairs.FunctionPairs.{FunctionPairs}
use Rattle.function_pairs.specs.Units.{pair_name}
use Rattle.rvt_run.proofs.Digits.{AreDigits, decimal_are}
use Rattle.rvt_run.proofs.Units.{by_names}
use Rattle.command_words.specs.Texts.{is_printing, is_text}
use Rattle.std.specs.List.{list_all}

-- ---- texts without line ends

pub and_left : (a b : Bool) → (a && b) ≡ true → a ≡ true
and_left true b is = refl
and_left false b is = is

pub and_right : (a b : Bool) → (a && b) ≡ true → b ≡ true
and_right true b is = is
and_right false b is = cc

other_byte : (byte : ℕ) → byte ≢ 10 → (byte == 10) ≡ false
other_byte byte apart = cases (byte == 10) refl
  where
    cases : (b : Bool) → (byte == 10) ≡ b → b ≡ false
    cases false is = refl
    cases true is = absurd (apart (eqb-true byte 10 is))

pub joined : (a b : List ℕ) → HasNoLineEnd a → HasNoLineEnd b → HasNoLineEnd (a ++ b)
joined [] b none none' = none'
joined (x ∷ a) b none none' = (none.0, joined a b none.1 none')

-- the test by computing
abbrev pub one_line_text : List ℕ → Bool
one_line_text [] = true
one_line_text (b ∷ bytes) = if b == 10 then false else one_line_text bytes

pub literal : (text : List ℕ) → one_line_text text ≡ true → HasNoLineEnd text
literal [] yes_ = tt
literal (b ∷ bytes) is = cases (b == 10) refl (literal bytes)
  where
    cases : (c : Bool) → (b == 10) ≡ c → (one_line_text bytes ≡ true → HasNoLineEnd bytes) → HasNoLineEnd (b ∷ bytes)
    cases true found later = let wrong : false ≡ true = sym (ap (λ (c : Bool). if c then false else one_line_text bytes) found) ∙ is in cc
    cases false found later = (found, later (sym (ap (λ (c : Bool). if c then false else one_line_text bytes) found) ∙ is))

digits_none : (bytes : List ℕ) → AreDigits bytes → HasNoLineEnd bytes
digits_none [] all = tt
digits_none (b ∷ bytes) all = (other_byte b (λ ten. omega (arith, ten, all.0.0)), digits_none bytes all.1)

pub number_none : (n : ℕ) → HasNoLineEnd (decimal n)
number_none n = digits_none (decimal n) (decimal_are n)

-- a word of the command line
printing_none : (word : List ℕ) → list_all is_printing word ≡ true → HasNoLineEnd word
printing_none [] all = tt
printing_none (b ∷ word) all = (cases (b == 10) refl, printing_none word (and_right (is_printing b) (list_all is_printing word) all))
  where
    cases : (c : Bool) → (b == 10) ≡ c → c ≡ false
    cases false is = refl
    cases true is =
        let no : false ≡ true = sym (ap is_printing (eqb-true b 10 is)) ∙ and_left (is_printing b) (list_all is_printing word) all in
        cc

pub text_none : (word : List ℕ) → is_text word ≡ true → HasNoLineEnd word
text_none word is = printing_none word (and_right _ (list_all is_printing word) is)

-- ---- lines

pub line_of : (first second : List ℕ) → HasNoLineEnd first → HasNoLineEnd second → IsLine (line first second)
line_of first second none none' = record {
  body = first ++ second;
  ended = refl;
  one = joined first second none none';
}

pub only_this : (bytes : List ℕ) → IsLine bytes → All IsLine (bytes ∷ [])
only_this bytes is = All-cons IsLine bytes [] is (All-nil IsLine)

verdict_none : (verdict : Verdict) → HasNoLineEnd (verdict_text verdict)
verdict_none Twin = literal (codes ": fully equivalent, twin") refl
verdict_none Interface = literal (codes ": unknown, interface") refl
verdict_none Bodies = literal (codes ": unknown, bodies differ") refl

-- no name of the functions has a line end
abbrev pub NamesNone : List Function → Type 0
NamesNone = All (λ f. HasNoLineEnd f.name)

rest_none : (f : Function) (fs : List Function) → NamesNone (f ∷ fs) → NamesNone fs
rest_none f fs none k d h = none (suc k) d (omega (arith, h))

first_none : (f : Function) (fs : List Function) → NamesNone (f ∷ fs) → HasNoLineEnd f.name
first_none f fs none = none 0 f (omega arith)

unit_none : (name : List ℕ) (number : Option ℕ) → HasNoLineEnd name → HasNoLineEnd (unit_text name number)
unit_none name None none = none
unit_none name (Some n) none = joined name (codes " loop " ++ decimal n) none (joined (codes " loop ") (decimal n) (literal (codes " loop ") refl) (number_none n))

pair_shaped : (name : List ℕ) (number : Option ℕ) (verdict : Verdict) → HasNoLineEnd name → IsLine (pair_line (name, number, verdict))
pair_shaped name number verdict none = line_of (unit_text name number) (verdict_text verdict) (unit_none name number none) (verdict_none verdict)

loops_shaped : (pairing : Pairing) (f g : Function) (are_twins : Bool) (loops others : List LoopInterface) (pairs : List PairVerdict) → AreLoopPairs pairing f g are_twins loops others pairs → HasNoLineEnd (pair_name f.name g.name) → All IsLine (pair_lines pairs)
loops_shaped pairing f g are_twins [] others pairs none plain = subst (λ (l : List PairVerdict). All IsLine (pair_lines l)) (sym none) (All-nil IsLine)
loops_shaped pairing f g are_twins (a ∷ loops) [] pairs none plain = subst (λ (l : List PairVerdict). All IsLine (pair_lines l)) (sym none) (All-nil IsLine)
loops_shaped pairing f g are_twins (a ∷ loops) (b ∷ others) [] are plain = absurd are
loops_shaped pairing f g are_twins (a ∷ loops) (b ∷ others) (p ∷ pairs) are plain =
    All-cons IsLine (pair_line p) (pair_lines pairs) (pair_shaped p.0 p.1 p.2 (subst HasNoLineEnd (sym are.0) plain)) (loops_shaped pairing f g are_twins loops others pairs are.4 plain)

-- the printed name of two functions
name_shaped : (a b : List ℕ) → HasNoLineEnd a → HasNoLineEnd b → HasNoLineEnd (pair_name a b)
name_shaped a b none none' = by_names a b HasNoLineEnd (λ same. none) (joined (a ++ codes " -> ") b (joined a (codes " -> ") none (literal (codes " -> ") refl)) none')

there_none : (fs : List Function) → NamesNone fs → (k : ℕ) (g : Function) → slice_get fs k ≡ Some g → HasNoLineEnd g.name
there_none [] none k g there = let no : ◌≡◌ {A = Option Function} None (Some g) = there in cc
there_none (f ∷ fs) none zero g there = let same : f ≡ g = cc in subst (λ (x : Function). HasNoLineEnd x.name) same (first_none f fs none)
there_none (f ∷ fs) none (suc k) g there = there_none fs (rest_none f fs none) k g there

partner_none : (partners : List (Option ℕ)) (new : List Function) (i : ℕ) (g : Function) → NamesNone new → partner_at partners new i ≡ Some g → HasNoLineEnd g.name
partner_none partners new i g none partner = by (slice_get partners i) partner
  where
    by : (o : Option (Option ℕ)) → function_at new o ≡ Some g → HasNoLineEnd g.name
    by (Some (Some k)) there = there_none new none k g there
    by (Some None) there = let no : ◌≡◌ {A = Option Function} None (Some g) = there in cc
    by None there = let no : ◌≡◌ {A = Option Function} None (Some g) = there in cc

pairs_shaped : (pairing : Pairing) (partners : List (Option ℕ)) (new : List Function) (twins : Option Pairing) (i : ℕ) (fs : List Function) (pairs : List PairVerdict) → ArePairs pairing partners new twins i fs pairs → NamesNone fs → NamesNone new → All IsLine (pair_lines pairs)
pairs_shaped pairing partners new twins _ _ _ (no_more i) none news = All-nil IsLine
pairs_shaped pairing partners new twins _ _ _ (skipped i f fs pairs alone rest) none news = pairs_shaped pairing partners new twins (i + 1) fs pairs rest (rest_none f fs none) news
pairs_shaped pairing partners new twins _ _ _ (paired i f fs pairs g verdict loops some judged are_loops rest) none news =
    let named = name_shaped f.name g.name (first_none f fs none) (partner_none partners new i g news some) in
    All-cons IsLine (pair_line (pair_name f.name g.name, None, verdict)) (pair_lines (loops ++ pairs)) (pair_shaped (pair_name f.name g.name) None verdict named)
    (subst (All IsLine) (sym (map-append pair_line loops pairs)) (All-append IsLine (pair_lines loops) (pair_lines pairs)
    (loops_shaped pairing f g (is_twin twins i) are_loops.old are_loops.new_side loops are_loops.are_pairs named) (pairs_shaped pairing partners new twins (i + 1) fs pairs rest (rest_none f fs none) news)))

units_shaped : (word : List ℕ) → HasNoLineEnd word → (name : List ℕ) → HasNoLineEnd name → (numbers : List (Option ℕ)) → All IsLine (unit_lines word name numbers)
units_shaped word plain name none [] = All-nil IsLine
units_shaped word plain name none (n ∷ numbers) =
    All-cons IsLine (word ++ unit_text name n ++ 10 ∷ []) (unit_lines word name numbers) (line_of word (unit_text name n) plain (unit_none name n none)) (units_shaped word plain name none numbers)

only_shaped : (word : List ℕ) → HasNoLineEnd word → (partners : List (Option ℕ)) (others : List Function) (i : ℕ) (fs : List Function) → NamesNone fs → All IsLine (only_lines word partners others i fs)
only_shaped word plain partners others i [] none = All-nil IsLine
only_shaped word plain partners others i (f ∷ fs) none =
    All-append IsLine (unit_lines word f.name (units_alone partners others i f)) (only_lines word partners others (i + 1) fs) (units_shaped word plain f.name (first_none f fs none) (units_alone partners others i f))
    (only_shaped word plain partners others (i + 1) fs (rest_none f fs none))

-- ---- counts

counts_shaped : (full all : ℕ) → IsLine (counts_of full all)
counts_shaped full all =
    line_of (codes "pairs ") (counts_text full all) (literal (codes "pairs ") refl)
    (joined (decimal all) (codes " full " ++ (decimal full ++ (codes " partial 0 different 0 unknown " ++ decimal (all - full)))) (number_none all)
    (joined (codes " full ") (decimal full ++ (codes " partial 0 different 0 unknown " ++ decimal (all - full))) (literal (codes " full ") refl)
    (joined (decimal full) (codes " partial 0 different 0 unknown " ++ decimal (all - full)) (number_none full)
    (joined (codes " partial 0 different 0 unknown ") (decimal (all - full)) (literal (codes " partial 0 different 0 unknown ") refl) (number_none (all - full))))))

-- each line of a report
pub report_shaped : (functions : FunctionPairs) (old new : Program) (pairing : Pairing) (twins : Option Pairing) (pairs : List PairVerdict) → ArePairs pairing functions.of_old new.functions twins 0 old.functions pairs →
    NamesNone old.functions → NamesNone new.functions → All IsLine (report_lines functions old new pairs)
report_shaped functions old new pairing twins pairs are_pairs olds news =
    let only_old = only_lines (codes "only old: ") functions.of_old new.functions 0 old.functions in
    let only_new = only_lines (codes "only new: ") functions.of_new old.functions 0 new.functions in
    let counts = counts_of (full_among pairs) (length pairs) in
    let first : All IsLine (pair_lines pairs) = pairs_shaped pairing functions.of_old new.functions twins 0 old.functions pairs are_pairs olds news in
    let second : All IsLine only_old = only_shaped (codes "only old: ") (literal (codes "only old: ") refl) functions.of_old new.functions 0 old.functions olds in
    let third : All IsLine only_new = only_shaped (codes "only new: ") (literal (codes "only new: ") refl) functions.of_new old.functions 0 new.functions news in
    let last : IsLine counts = counts_shaped (full_among pairs) (length pairs) in
    All-append IsLine (pair_lines pairs ++ only_old ++ only_new) (counts ∷ []) (All-append IsLine (pair_lines pairs ++ only_old) only_new (All-append IsLine (pair_lines pairs) only_old first second) third) (only_this counts last)

-- ---- other answers

-- a name and a text behind it
pub line_shaped : (name text : List ℕ) → HasNoLineEnd name → one_line_text text ≡ true → All IsLine (line name text ∷ [])
line_shaped name text none is = only_this (line name text) (line_of name text none (literal text is))

pub no_command_shaped : All IsLine no_command
no_command_shaped = line_shaped (codes "rvt: the words are no command") [] (literal (codes "rvt: the words are no command") refl) refl

-- bytes of which none ends a line
pub no_line_end : (text : List ℕ) → All (λ byte. byte ≢ 10) text → HasNoLineEnd text
no_line_end [] all = tt
no_line_end (b ∷ text) all = (other_byte b (all 0 b (omega arith)), no_line_end text (λ k d h. all (suc k) d (omega (arith, h))))

-- no byte of a name of the functions ends a line
abbrev pub NamesPlain : List Function → Type 0
NamesPlain = All (λ f. All (λ byte. byte ≢ 10) f.name)

pub names_none : (functions : List Function) → NamesPlain functions → NamesNone functions
names_none functions all k d h = no_line_end _ (all k d h)

-- a place in a map, and why its line is refused
pub line_said_none : (number : ℕ) (text : List ℕ) → HasNoLineEnd text → HasNoLineEnd (line_said number text)
line_said_none number text none =
    joined (codes ":" ++ (decimal number ++ codes ": ")) text
    (joined (codes ":") (decimal number ++ codes ": ") (literal (codes ":") refl) (joined (decimal number) (codes ": ") (number_none number) (literal (codes ": ") refl))) none
