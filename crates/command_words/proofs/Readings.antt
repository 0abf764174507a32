-- The words that are read one after another say what the line says, and nothing else.
use Rattle.std.proofs.Common.{◌≡◌, ℕ, suc, Bool, true, false, List, [], ◌∷◌, ◌++◌, Option, Some, None, not, refl, sym, ◌∙◌, ap, subst, arith}
use Rattle.std.specs.Prelude.{◌==◌, ◌&&◌, if◌then◌else◌, codes, bytes_eq, option_map}
use Rattle.std.specs.List.{list_all}
use Rattle.std.proofs.lemmas.Bool.{eqb-true}
use Rattle.std.proofs.lemmas.Slice.Eq.{bytes_eq-Decides}
use Rattle.command_words.specs.declared.options.Flag.{Flag}
use Rattle.command_words.specs.declared.options.Flag.TheVariants.{Map, Steps}
use Rattle.command_words.specs.declared.options.Verb.{Verb}
use Rattle.command_words.specs.declared.lines.State.{State}
use Rattle.command_words.specs.declared.lines.State.TheVariants.{Open, Waiting, Behind}
use Rattle.command_words.specs.Lines.{begins_with_dash, Setting, Says, no_more, positional, joined, apart, bare, behind}
use Rattle.command_words.specs.Options.{name_of, has_value, takes}
use Rattle.command_words.specs.Scan.{Said, with_name, with_setting, option_with, option_step, open_step, value_step, text_step, scan}
use Rattle.command_words.specs.Spellings.{Spelled, spelling_of, flag_named, behind_dashes, cut, option_behind}
use Rattle.command_words.specs.Texts.{is_printing, is_text}

-- ---- tests

pub if_true : {A : Type 0} (b : Bool) (x y : A) → b ≡ true → (if b then x else y) ≡ x
if_true true x y is = refl
if_true false x y is = cc

pub if_false : {A : Type 0} (b : Bool) (x y : A) → b ≡ false → (if b then x else y) ≡ y
if_false true x y is = cc
if_false false x y is = refl

-- a test that had to hold
pub if_some : {A : Type 0} (b : Bool) (x : Option A) (v : A) → (if b then x else None) ≡ Some v → (b ≡ true) × (x ≡ Some v)
if_some true x v is = (refl, is)
if_some false x v is = cc

pub same_value : {A : Type 0} (a b : A) → Some a ≡ Some b → a ≡ b
same_value a b is = cc

and_left : (a b : Bool) → (a && b) ≡ true → a ≡ true
and_left true b is = refl
and_left false b is = is

and_right : (a b : Bool) → (a && b) ≡ true → b ≡ true
and_right true b is = is
and_right false b is = cc

pub longer : (n : ℕ) → (suc n == 0) ≡ false
longer n = grind arith

-- ---- what is put in front

name_in : (word : List ℕ) (o : Option Said) (said : Said) → with_name word o ≡ Some said → (rest : Said) × (o ≡ Some rest) × (said ≡ (word ∷ rest.0, rest.1))
name_in word None said is = cc
name_in word (Some rest) said is = (rest, refl, sym (same_value _ _ is))

setting_in : (flag : Flag) (value : List ℕ) (o : Option Said) (said : Said) → with_setting flag value o ≡ Some said → (rest : Said) × (o ≡ Some rest) × (said ≡ (rest.0, (flag, value) ∷ rest.1))
setting_in flag value None said is = cc
setting_in flag value (Some rest) said is = (rest, refl, sym (same_value _ _ is))

-- ---- spelled options

-- the value behind a name
abbrev pub tail_of : Option (List ℕ) → List ℕ
tail_of None = []
tail_of (Some value) = codes "=" ++ value

cut_whole : (text : List ℕ) → text ≡ (cut text).0 ++ tail_of (cut text).1
cut_whole [] = refl
cut_whole (byte ∷ text) = cases (byte == 61) refl (cut_whole text)
  where
    cases : (b : Bool) → (byte == 61) ≡ b → text ≡ (cut text).0 ++ tail_of (cut text).1
        → (let r : List ℕ × Option (List ℕ) = if b then ([], Some text) else (byte ∷ (cut text).0, (cut text).1) in byte ∷ text ≡ r.0 ++ tail_of r.1)
    cases true is more = ap (λ (n : ℕ). n ∷ text) (eqb-true byte 61 is)
    cases false is more = ap (λ (t : List ℕ). byte ∷ t) more

dashes_whole : (word text : List ℕ) → behind_dashes word ≡ Some text → word ≡ codes "--" ++ text
dashes_whole [] text is = cc
dashes_whole (a ∷ []) text is = cc
dashes_whole (a ∷ b ∷ rest) text is =
    let found = if_some ((a == 45) && (b == 45)) (Some rest) text is in
    let first : a ≡ 45 = eqb-true a 45 (and_left (a == 45) (b == 45) found.0) in
    let second : b ≡ 45 = eqb-true b 45 (and_right (a == 45) (b == 45) found.0) in
    let same : rest ≡ text = same_value _ _ found.1 in
    ap (λ (n : ℕ). n ∷ b ∷ rest) first ∙ ap (λ (n : ℕ). 45 ∷ n ∷ rest) second ∙ ap (λ (t : List ℕ). 45 ∷ 45 ∷ t) same

name_whole : (name : List ℕ) (flag : Flag) → flag_named name ≡ Some flag → name ≡ name_of flag
name_whole name flag is = first (bytes_eq name (name_of Map)) refl is
  where
    second : (b : Bool) → bytes_eq name (name_of Steps) ≡ b → (if b then Some Steps else None) ≡ Some flag → name ≡ name_of flag
    second true same e = (bytes_eq-Decides name (name_of Steps)).0 same ∙ ap name_of (same_value Steps flag e)
    second false same e = cc

    first : (b : Bool) → bytes_eq name (name_of Map) ≡ b → (if b then Some Map else (if bytes_eq name (name_of Steps) then Some Steps else None)) ≡ Some flag → name ≡ name_of flag
    first true same e = (bytes_eq-Decides name (name_of Map)).0 same ∙ ap name_of (same_value Map flag e)
    first false same e = second (bytes_eq name (name_of Steps)) refl e

-- a word that spells an option
spelled_whole : (word : List ℕ) (spelled : Spelled) → spelling_of word ≡ Some spelled → word ≡ codes "--" ++ (name_of spelled.0 ++ tail_of spelled.1)
spelled_whole word spelled is = cases (behind_dashes word) refl is
  where
    named : (text : List ℕ) (f : Option Flag) → flag_named (cut text).0 ≡ f → option_map (λ (flag : Flag). (flag, (cut text).1)) f ≡ Some spelled → text ≡ name_of spelled.0 ++ tail_of spelled.1
    named text None at e = cc
    named text (Some flag) at e =
        let same : (flag, (cut text).1) ≡ spelled = same_value _ _ e in
        subst (λ (s : Spelled). text ≡ name_of s.0 ++ tail_of s.1) same (cut_whole text ∙ ap (λ (n : List ℕ). n ++ tail_of (cut text).1) (name_whole (cut text).0 flag at))

    cases : (o : Option (List ℕ)) → behind_dashes word ≡ o → option_behind o ≡ Some spelled → word ≡ codes "--" ++ (name_of spelled.0 ++ tail_of spelled.1)
    cases None at e = cc
    cases (Some text) at e = dashes_whole word text at ∙ ap (λ (t : List ℕ). codes "--" ++ t) (named text (flag_named (cut text).0) refl e)

-- ---- what is read is said

-- what the words say, by what may stand there
abbrev pub Reads : Verb → State → List (List ℕ) → Said → Type 0
Reads verb Open words said = Says verb words said.0 said.1
Reads verb (Waiting flag) words said =
    (value : List ℕ) × (rest : List (List ℕ)) × (after : Said) × (words ≡ value ∷ rest) × (is_text value ≡ true) × (begins_with_dash value ≡ false) × (said ≡ (after.0, (flag, value) ∷ after.1)) × Says verb rest after.0 after.1
Reads verb Behind words said = (list_all is_text words ≡ true) × (said ≡ (words, []))

module _ (verb : Verb) (word : List ℕ) (words : List (List ℕ)) (text : is_text word ≡ true)
    (go : State → Option Said) (more : (state : State) (said : Said) → go state ≡ Some said → Reads verb state words said) where
  -- `--NAME VALUE`
  apart_said : (flag : Flag) (said : Said) → word ≡ codes "--" ++ name_of flag → takes verb flag ≡ true → has_value flag ≡ true → Reads verb (Waiting flag) words said → Says verb (word ∷ words) said.0 said.1
  apart_said flag said spelled taken valued (value, rest, later, words_are, value_text, plain, said_is, says) =
      subst (λ (s : Said). Says verb (word ∷ words) s.0 s.1) (sym said_is)
      (subst (λ (ws : List (List ℕ)). Says verb (word ∷ ws) later.0 ((flag, value) ∷ later.1)) (sym words_are)
      (subst (λ (w : List ℕ). Says verb (w ∷ value ∷ rest) later.0 ((flag, value) ∷ later.1)) (sym spelled)
      (apart flag value rest later.0 later.1 taken valued value_text plain says)))

  option_said : (flag : Flag) (value : Option (List ℕ)) (valued : Bool) (said : Said) → has_value flag ≡ valued → word ≡ codes "--" ++ (name_of flag ++ tail_of value) → takes verb flag ≡ true
      → option_with valued flag value go ≡ Some said → Says verb (word ∷ words) said.0 said.1
  option_said Map None true said valued spelled taken e = apart_said Map said spelled taken valued (more (Waiting Map) said e)
  option_said Steps None true said valued spelled taken e = apart_said Steps said spelled taken valued (more (Waiting Steps) said e)
  option_said flag (Some value) true said valued spelled taken e =
      let good = if_some (is_text value) (with_setting flag value (go Open)) said e in
      let rest = setting_in flag value (go Open) said good.1 in
      subst (λ (s : Said). Says verb (word ∷ words) s.0 s.1) (sym rest.2)
      (subst (λ (w : List ℕ). Says verb (w ∷ words) rest.0.0 ((flag, value) ∷ rest.0.1)) (sym spelled)
      (joined flag value words rest.0.0 rest.0.1 taken valued good.0 (more Open rest.0 rest.1)))
  option_said Map None false said valued spelled taken e = cc
  option_said Steps None false said valued spelled taken e = cc
  option_said flag (Some value) false said valued spelled taken e = cc

  spelled_said : (o : Option Spelled) (said : Said) → spelling_of word ≡ o → option_step verb o go ≡ Some said → Says verb (word ∷ words) said.0 said.1
  spelled_said None said at e = cc
  spelled_said (Some spelled) said at e =
      let taken = if_some (takes verb spelled.0) (option_with (has_value spelled.0) spelled.0 spelled.1 go) said e in
      option_said spelled.0 spelled.1 (has_value spelled.0) said refl (spelled_whole word spelled at) taken.0 taken.1

  open_said : (said : Said) → open_step verb word go ≡ Some said → Says verb (word ∷ words) said.0 said.1
  open_said said e = cases (begins_with_dash word) refl e
    where
      dashes : (b : Bool) → bytes_eq word (codes "--") ≡ b → (if b then go Behind else option_step verb (spelling_of word) go) ≡ Some said → Says verb (word ∷ words) said.0 said.1
      dashes true is e =
          let rest = more Behind said e in
          subst (λ (s : Said). Says verb (word ∷ words) s.0 s.1) (sym rest.1)
          (subst (λ (w : List ℕ). Says verb (w ∷ words) words []) (sym ((bytes_eq-Decides word (codes "--")).0 is)) (behind words rest.0))
      dashes false is e = spelled_said (spelling_of word) said refl e

      cases : (b : Bool) → begins_with_dash word ≡ b → (if b then (if bytes_eq word (codes "--") then go Behind else option_step verb (spelling_of word) go) else with_name word (go Open)) ≡ Some said → Says verb (word ∷ words) said.0 said.1
      cases true is e = dashes (bytes_eq word (codes "--")) refl e
      cases false is e =
          let rest = name_in word (go Open) said e in
          subst (λ (s : Said). Says verb (word ∷ words) s.0 s.1) (sym rest.2) (positional word words rest.0.0 rest.0.1 text is (more Open rest.0 rest.1))

  value_said : (flag : Flag) (said : Said) → value_step flag word go ≡ Some said → Reads verb (Waiting flag) (word ∷ words) said
  value_said flag said e = cases (begins_with_dash word) refl e
    where
      cases : (b : Bool) → begins_with_dash word ≡ b → (if b then None else with_setting flag word (go Open)) ≡ Some said → Reads verb (Waiting flag) (word ∷ words) said
      cases true is e = cc
      cases false is e = let rest = setting_in flag word (go Open) said e in (word, words, rest.0, refl, text, is, rest.2, more Open rest.0 rest.1)

  behind_said : (said : Said) → with_name word (go Behind) ≡ Some said → Reads verb Behind (word ∷ words) said
  behind_said said e =
      let rest = name_in word (go Behind) said e in
      let after = more Behind rest.0 rest.1 in
      (ap (λ (b : Bool). b && list_all is_text words) text ∙ after.0, rest.2 ∙ ap (λ (s : Said). (word ∷ s.0, s.1)) after.1)

  step_said : (state : State) (said : Said) → text_step verb state word go ≡ Some said → Reads verb state (word ∷ words) said
  step_said Open said e = open_said said e
  step_said (Waiting flag) said e = value_said flag said e
  step_said Behind said e = behind_said said e

pub read_is_said : (verb : Verb) (words : List (List ℕ)) (state : State) (said : Said) → scan verb state words ≡ Some said → Reads verb state words said
read_is_said verb [] Open said e = subst (λ (s : Said). Says verb [] s.0 s.1) (same_value _ _ e) no_more
read_is_said verb [] (Waiting flag) said e = cc
read_is_said verb [] Behind said e = (refl, sym (same_value _ _ e))
read_is_said verb (word ∷ words) state said e =
    let good = if_some (is_text word) (text_step verb state word (λ next. scan verb next words)) said e in
    step_said verb word words good.0 (λ next. scan verb next words) (λ next. read_is_said verb words next) state said good.1

-- ---- what is said is read

module _ (verb : Verb) where
  read_text : (state : State) (word : List ℕ) (words : List (List ℕ)) → is_text word ≡ true → scan verb state (word ∷ words) ≡ text_step verb state word (λ next. scan verb next words)
  read_text state word words text = if_true (is_text word) (text_step verb state word (λ next. scan verb next words)) None text

  behind_read : (words : List (List ℕ)) → list_all is_text words ≡ true → scan verb Behind words ≡ Some (words, [])
  behind_read [] all = refl
  behind_read (word ∷ words) all =
      read_text Behind word words (and_left (is_text word) (list_all is_text words) all) ∙ ap (λ (o : Option Said). with_name word o) (behind_read words (and_right (is_text word) (list_all is_text words) all))

  -- a taken option with its value joined
  joined_read : (flag : Flag) (value : List ℕ) (words : List (List ℕ)) → takes verb flag ≡ true → is_text value ≡ true
      → scan verb Open ((codes "--" ++ (name_of flag ++ (codes "=" ++ value))) ∷ words) ≡ with_setting flag value (scan verb Open words)
  joined_read Map value words taken text =
      read_text Open (codes "--map=" ++ value) words (ap (λ (b : Bool). (not b && true) && list_all is_printing value) (longer _) ∙ and_right _ (list_all is_printing value) text)
      ∙ if_true (takes verb Map) (option_with true Map (Some value) (λ next. scan verb next words)) None taken
      ∙ if_true (is_text value) (with_setting Map value (scan verb Open words)) None text
  joined_read Steps value words taken text =
      read_text Open (codes "--steps=" ++ value) words (ap (λ (b : Bool). (not b && true) && list_all is_printing value) (longer _) ∙ and_right _ (list_all is_printing value) text)
      ∙ if_true (takes verb Steps) (option_with true Steps (Some value) (λ next. scan verb next words)) None taken
      ∙ if_true (is_text value) (with_setting Steps value (scan verb Open words)) None text

  apart_read : (flag : Flag) (words : List (List ℕ)) → takes verb flag ≡ true → has_value flag ≡ true → scan verb Open ((codes "--" ++ name_of flag) ∷ words) ≡ scan verb (Waiting flag) words
  apart_read Map words taken valued = if_true (takes verb Map) (option_with true Map None (λ next. scan verb next words)) None taken
  apart_read Steps words taken valued = if_true (takes verb Steps) (option_with true Steps None (λ next. scan verb next words)) None taken

pub said_is_read : (verb : Verb) (words names : List (List ℕ)) (settings : List Setting) → Says verb words names settings → scan verb Open words ≡ Some (names, settings)
said_is_read verb _ _ _ no_more = refl
said_is_read verb _ _ _ (positional word words names settings text plain rest) =
    read_text verb Open word words text
    ∙ if_false (begins_with_dash word) (if bytes_eq word (codes "--") then scan verb Behind words else option_step verb (spelling_of word) (λ next. scan verb next words)) (with_name word (scan verb Open words)) plain
    ∙ ap (λ (o : Option Said). with_name word o) (said_is_read verb words names settings rest)
said_is_read verb _ _ _ (joined flag value words names settings taken valued text rest) =
    joined_read verb flag value words taken text ∙ ap (λ (o : Option Said). with_setting flag value o) (said_is_read verb words names settings rest)
said_is_read verb _ _ _ (apart flag value words names settings taken valued text plain rest) =
    apart_read verb flag (value ∷ words) taken valued
    ∙ read_text verb (Waiting flag) value words text
    ∙ if_false (begins_with_dash value) None (with_setting flag value (scan verb Open words)) plain
    ∙ ap (λ (o : Option Said). with_setting flag value o) (said_is_read verb words names settings rest)
said_is_read verb _ _ _ (bare Map words names settings taken valued rest) = cc
said_is_read verb _ _ _ (bare Steps words names settings taken valued rest) = cc
said_is_read verb _ _ _ (behind words all) = behind_read verb words all
