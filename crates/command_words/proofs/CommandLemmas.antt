-- The command that words are.
use Rattle.std.proofs.Common.{◌≡◌, ℕ, zero, suc, ◌+◌, ◌-◌, ◌<◌, ◌≤◌, length, take, drop, get_or, Bool, true, false, List, [], ◌∷◌, ◌++◌, Option, Some, None, refl, sym, ◌∙◌, ap, subst, arith}
use Rattle.std.specs.Prelude.{slice_index, ◌&&◌, ◌==◌, cond, filter, map, is_some, option_map}
use Rattle.std.specs.Borrow.{Bor}
use Rattle.std.proofs.lemmas.List.{at_drop_more, take_all}
use Rattle.std.specs.List.{list_all}
use Rattle.std.specs.Option.{option_to_list}
use Rattle.command_words.specs.declared.options.Flag.{Flag}
use Rattle.command_words.specs.declared.options.Flag.TheVariants.{Map, Steps}
use Rattle.command_words.specs.declared.lines.Setting.{Setting as Set}
use Rattle.command_words.specs.declared.options.Verb.{Verb}
use Rattle.command_words.specs.declared.options.Verb.TheVariants.{Compare, Run}
use Rattle.command_words.specs.declared.lines.State.TheVariants.{Open}
use Rattle.command_words.specs.Commands.{Asked, comparison, function_run, IsCommand, compare, run, StandsOnce, same_flag, texts, values_of, is_text_if_there}
use Rattle.command_words.specs.Lines.{Setting, Says, no_more, positional, joined, apart, bare, behind}
use Rattle.command_words.specs.declared.lines.Line.{Line}
use Rattle.command_words.specs.Texts.{is_text}
use Rattle.command_words.specs.Numbers.{AreSteps}
use Rattle.command_words.specs.Options.{word_of}
use Rattle.command_words.specs.Scan.{Said, said_by, names_in, settings_in, setting_of, scan}
use Rattle.command_words.specs.Spellings.{value_in}
use Rattle.command_words.proofs.Readings.{longer, said_is_read, read_is_said, same_value}

abbrev pub first_word : List (List ℕ) → List ℕ
first_word [] = []
first_word (word ∷ words) = word

abbrev pub rest_of : List (List ℕ) → List (List ℕ)
rest_of [] = []
rest_of (word ∷ words) = words

-- no command has the other's word
words_differ : (a b : List (List ℕ)) → word_of Compare ∷ a ≡ word_of Run ∷ b → ⊥
words_differ a b is =
    let letter : ◌≡◌ {A = ℕ} 99 114 = ap (λ (words : List (List ℕ)). slice_index (first_word words) 0) is in
    absurd (omega (arith, letter))

-- the words behind one command say one thing
pub one_line : (verb : Verb) (a b : List (List ℕ)) (names names' : List (List ℕ)) (settings settings' : List Setting) → word_of verb ∷ a ≡ word_of verb ∷ b → Says verb a names settings → Says verb b names' settings' → ◌≡◌ {A = Said} (names, settings) (names', settings')
one_line verb a b names names' settings settings' same says says' =
    same_value _ _ (sym (said_is_read verb a names settings says) ∙ ap (λ (words : List (List ℕ)). scan verb Open (rest_of words)) same ∙ said_is_read verb b names' settings' says')

same_option : (a b : Option (List ℕ)) → option_to_list a ≡ option_to_list b → a ≡ b
same_option None None is = refl
same_option None (Some y) is = cc
same_option (Some x) None is = cc
same_option (Some x) (Some y) is = ap (λ (l : List (List ℕ)). Some (first_word l)) is

pub one_value : (flag : Flag) (settings settings' : List Setting) (a b : Option (List ℕ)) → settings ≡ settings' → StandsOnce flag settings a → StandsOnce flag settings' b → a ≡ b
one_value flag settings settings' a b same stands stands' =
    same_option a b (sym (subst (λ (s : List Setting). StandsOnce flag s a) same stands) ∙ stands')

pub one_number : (value value' : Option (List ℕ)) (n m : ℕ) → value ≡ value' → AreSteps value n → AreSteps value' m → n ≡ m
one_number value value' n m same are are' = both value' (subst (λ (v : Option (List ℕ)). AreSteps v n) same are) are'
  where
    both : (v : Option (List ℕ)) → AreSteps v n → AreSteps v m → n ≡ m
    both None is is' = is ∙ sym is'
    both (Some text) is is' = sym is.0.value ∙ is'.0.value

-- the parts of the line that a run has
abbrev pub call_by : List (List ℕ) → ℕ → Asked
call_by (file ∷ function ∷ arguments) steps = function_run file function arguments steps
call_by _ steps = comparison [] [] None

abbrev pub comparison_by : List (List ℕ) → Option (List ℕ) → Asked
comparison_by (old ∷ new ∷ names) map_name = comparison old new map_name
comparison_by _ map_name = comparison [] [] None

pub one_command : (words : List (List ℕ)) (a b : Asked) → IsCommand words a → IsCommand words b → a ≡ b
one_command words _ _ (compare rest settings old new map_name is says stands) (compare rest' settings' old' new' map_name' is' says' stands') =
    let same = one_line Compare rest rest' (old ∷ new ∷ []) (old' ∷ new' ∷ []) settings settings' (sym is ∙ is') says says' in
    let one_map = one_value Map settings settings' map_name map_name' (ap (λ (said : Said). said.1) same) stands stands' in
    ap (λ (said : Said). comparison_by said.0 map_name) same ∙ ap (λ (m : Option (List ℕ)). comparison old' new' m) one_map
one_command words _ _ (compare rest settings old new map_name is says map_stands) (run rest' arguments settings' file function value steps is' says' stands' are') = absurd (words_differ rest rest' (sym is ∙ is'))
one_command words _ _ (run rest arguments settings file function value steps is says stands are) (compare rest' settings' old new map_name is' says' map_stands) = absurd (words_differ rest' rest (sym is' ∙ is))
one_command words _ _ (run rest arguments settings file function value steps is says stands are) (run rest' arguments' settings' file' function' value' steps' is' says' stands' are') =
    let same = one_line Run rest rest' (file ∷ function ∷ arguments) (file' ∷ function' ∷ arguments') settings settings' (sym is ∙ is') says says' in
    let number = one_number value value' steps steps' (one_value Steps settings settings' value value' (ap (λ (said : Said). said.1) same) stands stands') are are' in
    ap (λ (said : Said). call_by said.0 steps) same ∙ ap (λ (n : ℕ). function_run file' function' arguments' n) number

-- ---- what a command's words say

-- the command that names and settings are
abbrev pub Fits : Verb → Asked → Said → Type 0
Fits Compare command said = (old : List ℕ) × (new : List ℕ) × (map_name : Option (List ℕ)) × (said.0 ≡ old ∷ new ∷ []) × StandsOnce Map said.1 map_name × (command ≡ comparison old new map_name)
Fits Run command said =
    (file : List ℕ) × (function : List ℕ) × (arguments : List (List ℕ)) × (value : Option (List ℕ)) × (steps : ℕ) × (said.0 ≡ file ∷ function ∷ arguments) × StandsOnce Steps said.1 value × AreSteps value steps × (command ≡ function_run file function arguments steps)

behind_word : (verb : Verb) (a b : List (List ℕ)) → word_of verb ∷ a ≡ word_of verb ∷ b → b ≡ a
behind_word verb a b is = sym (ap rest_of is)

pub line_in : (verb : Verb) (words : List (List ℕ)) (command : Asked) → IsCommand (word_of verb ∷ words) command → (said : Said) × (scan verb Open words ≡ Some said) × Fits verb command said
line_in Compare words _ (compare rest settings old new map_name is says stands) =
    ((old ∷ new ∷ [], settings), ap (scan Compare Open) (sym (behind_word Compare words rest is)) ∙ said_is_read Compare rest (old ∷ new ∷ []) settings says, (old, new, map_name, refl, stands, refl))
line_in Compare words _ (run rest arguments settings file function value steps is says stands are) = absurd (words_differ words rest is)
line_in Run words _ (compare rest settings old new map_name is says stands) = absurd (words_differ rest words (sym is))
line_in Run words _ (run rest arguments settings file function value steps is says stands are) =
    ((file ∷ function ∷ arguments, settings), ap (scan Run Open) (sym (behind_word Run words rest is)) ∙ said_is_read Run rest (file ∷ function ∷ arguments) settings says, (file, function, arguments, value, steps, refl, stands, are, refl))

-- words that can't be read are no command
pub not_read : (verb : Verb) (words : List (List ℕ)) (line : Option Line) → option_map said_by line ≡ scan verb Open words → line ≡ None → (command : Asked) → IsCommand (word_of verb ∷ words) command → ⊥
not_read verb words line read none command is =
    let said = line_in verb words command is in
    let nothing : ◌≡◌ {A = Option Said} None (Some said.0) = sym (ap (option_map said_by) none) ∙ read ∙ said.1 in
    cc

module _ (verb : Verb) (words : List (List ℕ)) (found : Option Line) (line : Line) (read : option_map said_by found ≡ scan verb Open words) (some : found ≡ Some line) where
  pub is_read : scan verb Open words ≡ Some (said_by line)
  is_read = sym read ∙ ap (option_map said_by) some

  pub says_line : Says verb words (names_in line) (settings_in line)
  says_line = read_is_said verb words Open (said_by line) is_read

  -- the line of another reading is this line
  pub this_line : (command : Asked) → IsCommand (word_of verb ∷ words) command → Fits verb command (said_by line)
  this_line command is =
      let said = line_in verb words command is in
      subst (λ (s : Said). Fits verb command s) (same_value _ _ (sym said.1 ∙ is_read)) said.2

-- the positional words are texts
pub names_are_texts : (verb : Verb) (words names : List (List ℕ)) (settings : List Setting) → Says verb words names settings → list_all is_text names ≡ true
names_are_texts verb _ _ _ no_more = refl
names_are_texts verb _ _ _ (positional word words names settings text plain rest) = ap (λ (b : Bool). b && list_all is_text names) text ∙ names_are_texts verb words names settings rest
names_are_texts verb _ _ _ (joined flag value words names settings taken valued text rest) = names_are_texts verb words names settings rest
names_are_texts verb _ _ _ (apart flag value words names settings taken valued text plain rest) = names_are_texts verb words names settings rest
names_are_texts verb _ _ _ (bare flag words names settings taken valued rest) = names_are_texts verb words names settings rest
names_are_texts verb _ _ _ (behind words all) = all

pub two_texts : (a b : List ℕ) (rest : List (List ℕ)) → list_all is_text (a ∷ b ∷ rest) ≡ true → (is_text a && is_text b && list_all is_text rest) ≡ true
two_texts a b rest all = by (is_text a) (is_text b) (list_all is_text rest) all
  where
    by : (x y z : Bool) → (x && (y && z)) ≡ true → (x && y && z) ≡ true
    by true y z is = is
    by false y z is = is

pub both_texts : (a b : List ℕ) → list_all is_text (a ∷ b ∷ []) ≡ true → (is_text a && is_text b) ≡ true
both_texts a b all = by (is_text a) (is_text b) all
  where
    by : (x y : Bool) → (x && (y && true)) ≡ true → (x && y) ≡ true
    by true true is = refl
    by true false is = is
    by false y is = is

and_more : (a b : Bool) → a ≡ true → b ≡ true → (a && b) ≡ true
and_more true b is is' = is'
and_more false b is is' = is

text_if_there : (value : Option (List ℕ)) → list_all is_text (option_to_list value) ≡ true → is_text_if_there value ≡ true
text_if_there None all = refl
text_if_there (Some text) all = by (is_text text) all
  where
    by : (b : Bool) → (b && true) ≡ true → b ≡ true
    by true is = refl
    by false is = is

-- one more value, if the flag is the same
more_values : (same : Bool) (flag : Flag) (value : List ℕ) (rest : List Setting) → is_text value ≡ true → list_all is_text (map (λ (s : Setting). s.1) rest) ≡ true
    → list_all is_text (map (λ (s : Setting). s.1) (cond same ((flag, value) ∷ rest) rest)) ≡ true
more_values true flag value rest text all = ap (λ (b : Bool). b && list_all is_text (map (λ (s : Setting). s.1) rest)) text ∙ all
more_values false flag value rest text all = all

-- the values of options are texts
pub values_are_texts : (verb : Verb) (words names : List (List ℕ)) (settings : List Setting) → Says verb words names settings → (flag : Flag) → list_all is_text (values_of flag settings) ≡ true
values_are_texts verb _ _ _ no_more flag = refl
values_are_texts verb _ _ _ (positional word words names settings text plain rest) flag = values_are_texts verb words names settings rest flag
values_are_texts verb _ _ _ (joined other value words names settings taken valued text rest) flag =
    more_values (same_flag other flag) other value (filter (λ (s : Setting). same_flag s.0 flag) settings) text (values_are_texts verb words names settings rest flag)
values_are_texts verb _ _ _ (apart other value words names settings taken valued text plain rest) flag =
    more_values (same_flag other flag) other value (filter (λ (s : Setting). same_flag s.0 flag) settings) text (values_are_texts verb words names settings rest flag)
values_are_texts verb _ _ _ (bare Map words names settings taken valued rest) flag = cc
values_are_texts verb _ _ _ (bare Steps words names settings taken valued rest) flag = cc
values_are_texts verb _ _ _ (behind words all) flag = refl

-- an option that stands twice doesn't stand once
pub stands_twice : (values more : List (List ℕ)) (a b : List ℕ) → values ≡ a ∷ b ∷ more → (value : Option (List ℕ)) → values ≡ option_to_list value → ⊥
stands_twice values more a b are None once = let no : [] ≡ a ∷ b ∷ more = sym once ∙ are in cc
stands_twice values more a b are (Some x) once = let no : x ∷ [] ≡ a ∷ b ∷ more = sym once ∙ are in cc

abbrev pub SeenText : Type 0
SeenText = Bor (List ℕ)

-- the words of two names
pub is_comparison : (words : List (List ℕ)) (names : List (List ℕ)) (settings : List Setting) (old new : List ℕ) (map_name : Option (List ℕ)) → Says Compare words names settings → names ≡ old ∷ new ∷ [] → StandsOnce Map settings map_name
    → IsCommand (word_of Compare ∷ words) (comparison old new map_name)
is_comparison words names settings old new map_name says are stands = compare words settings old new map_name refl (subst (λ (ns : List (List ℕ)). Says Compare words ns settings) are says) stands

pub comparison_texts : (words : List (List ℕ)) (names : List (List ℕ)) (settings : List Setting) (old new : List ℕ) (map_name : Option (List ℕ)) → Says Compare words names settings → names ≡ old ∷ new ∷ [] → StandsOnce Map settings map_name
    → (is_text old && is_text new && is_text_if_there map_name) ≡ true
comparison_texts words names settings old new map_name says are stands =
    and_more (is_text old && is_text new) (is_text_if_there map_name) (both_texts old new (sym (ap (list_all is_text) are) ∙ names_are_texts Compare words names settings says))
    (text_if_there map_name (sym (ap (list_all is_text) stands) ∙ values_are_texts Compare words names settings says Map))

pub is_run : (words : List (List ℕ)) (names : List (List ℕ)) (settings : List Setting) (file function : List ℕ) (arguments : List (List ℕ)) (value : Option (List ℕ)) (steps : ℕ) → Says Run words names settings
    → names ≡ file ∷ function ∷ arguments → StandsOnce Steps settings value → AreSteps value steps → IsCommand (word_of Run ∷ words) (function_run file function arguments steps)
is_run words names settings file function arguments value steps says names_are stands are = run words arguments settings file function value steps refl (subst (λ (ns : List (List ℕ)). Says Run words ns settings) names_are says) stands are

pub run_texts : (words : List (List ℕ)) (names : List (List ℕ)) (settings : List Setting) (file function : List ℕ) (arguments : List (List ℕ)) → Says Run words names settings → names ≡ file ∷ function ∷ arguments
    → (is_text file && is_text function && list_all is_text arguments) ≡ true
run_texts words names settings file function arguments says are = two_texts file function arguments (sym (ap (list_all is_text) are) ∙ names_are_texts Run words names settings says)

pub no_more_names : (xs : List SeenText) → (length xs == 0) ≡ true → texts xs ≡ []
no_more_names [] is = refl
no_more_names (x ∷ xs) is = let no : false ≡ true = sym (longer (length xs)) ∙ is in cc

-- names behind the first two are none of a comparison
pub more_names : (xs : List SeenText) (a b c d : List ℕ) → (length xs == 0) ≡ false → a ∷ b ∷ texts xs ≡ c ∷ d ∷ [] → ⊥
more_names [] a b c d is same = cc
more_names (x ∷ xs) a b c d is same = cc

-- one default is as good as another
same_at : (settings : List Set) (i : ℕ) (d e : Set) → i < length settings → get_or settings i d ≡ get_or settings i e
same_at [] i d e low = absurd (omega (arith, low))
same_at (s ∷ settings) zero d e low = refl
same_at (s ∷ settings) (suc i) d e low = same_at settings i d e (omega (arith, low))

-- a setting behind one of the same option
pub twice : (settings : List Set) (i : ℕ) (flag : Flag) (e : Set) (found : Option SeenText) (values : List (List ℕ)) → i < length settings → same_flag (get_or settings i e).flag flag ≡ true → values ≡ option_to_list (value_in found) ++ values_of flag (map setting_of (drop i settings)) → true ≡ is_some found
    → (value : Option (List ℕ)) → values ≡ option_to_list value → ⊥
twice settings i flag e None values low same are some value once = cc
twice [] i flag e (Some text) values low same are some value once = absurd (omega (arith, low))
twice (d ∷ others) i flag e (Some text) values low same are some value once =
    let settings : List Set = d ∷ others in
    let next : values_of flag (map setting_of (drop i settings)) ≡ (get_or settings i d).value.now ∷ values_of flag (map setting_of (drop (i + 1) settings)) = at_drop_more (λ (s : List Set). values_of flag (map setting_of s)) settings i d low ∙ taken (get_or settings i d) (drop (i + 1) settings) (ap (λ (s : Set). same_flag s.flag flag) (same_at settings i d e low) ∙ same) in
    stands_twice values (values_of flag (map setting_of (drop (i + 1) settings))) text.now (get_or settings i d).value.now (are ∙ ap (λ (l : List (List ℕ)). text.now ∷ l) next) value once
  where
    taken : (s : Set) (rest : List Set) → same_flag s.flag flag ≡ true → values_of flag (map setting_of (s ∷ rest)) ≡ s.value.now ∷ values_of flag (map setting_of rest)
    taken s rest is = ap (λ (b : Bool). map (λ (x : Setting). x.1) (cond b (setting_of s ∷ filter (λ (x : Setting). same_flag x.0 flag) (map setting_of rest)) (filter (λ (x : Setting). same_flag x.0 flag) (map setting_of rest)))) is

-- the first word, and those behind it
pub first_word_is : {S : Type 0} (f : S → List ℕ) (words : List S) (word : S) (text : List ℕ) → 1 ≤ length words → word ≡ get_or words 0 word → f word ≡ text → map f words ≡ text ∷ map f (take (length words - 1) (drop 1 words))
first_word_is f [] word text low is same = absurd (omega arith)
first_word_is {S} f (first ∷ words) word text low is same =
    ap (λ (t : List ℕ). t ∷ map f words) (ap f (sym is) ∙ same) ∙ ap (λ (l : List S). text ∷ map f l) (sym (take_all (length (first ∷ words) - 1) words (omega arith)))
