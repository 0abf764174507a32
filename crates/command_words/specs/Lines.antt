-- What the words behind a command say.
use Rattle.std.specs.Prelude.{◌≡◌, ℕ, ◌==◌, Bool, true, false, List, [], ◌∷◌, ◌++◌, slice_index, codes}
use Rattle.std.specs.List.{list_all}
use Rattle.command_words.specs.declared.options.Flag.{Flag}
use Rattle.command_words.specs.declared.options.Verb.{Verb}
use Rattle.command_words.specs.Options.{name_of, has_value, takes}
use Rattle.command_words.specs.Texts.{is_text}

abbrev pub begins_with_dash : List ℕ → Bool
begins_with_dash word = slice_index word 0 == 45

-- an option, and its value: empty where it has none
abbrev pub Setting : Type 0
Setting = Flag × List ℕ

-- The words behind a command: which of them are positional, and which options stand among them, both in their order.
pub data Says (verb : Verb) : List (List ℕ) → List (List ℕ) → List Setting → Type 0 where
  no_more : Says verb [] [] []
  -- a word that doesn't begin with `-` is positional
  positional : (word : List ℕ) (words names : List (List ℕ)) (settings : List Setting) → is_text word ≡ true → begins_with_dash word ≡ false
      → Says verb words names settings → Says verb (word ∷ words) (word ∷ names) settings
  -- `--NAME=VALUE`
  joined : (flag : Flag) (value : List ℕ) (words names : List (List ℕ)) (settings : List Setting) → takes verb flag ≡ true → has_value flag ≡ true → is_text value ≡ true
      → Says verb words names settings → Says verb ((codes "--" ++ (name_of flag ++ (codes "=" ++ value))) ∷ words) names ((flag, value) ∷ settings)
  -- `--NAME VALUE`, where the value doesn't begin with `-`
  apart : (flag : Flag) (value : List ℕ) (words names : List (List ℕ)) (settings : List Setting) → takes verb flag ≡ true → has_value flag ≡ true → is_text value ≡ true → begins_with_dash value ≡ false
      → Says verb words names settings → Says verb ((codes "--" ++ name_of flag) ∷ value ∷ words) names ((flag, value) ∷ settings)
  -- `--NAME` of an option without a value
  bare : (flag : Flag) (words names : List (List ℕ)) (settings : List Setting) → takes verb flag ≡ true → has_value flag ≡ false
      → Says verb words names settings → Says verb ((codes "--" ++ name_of flag) ∷ words) names ((flag, []) ∷ settings)
  -- behind `--` each word is positional
  behind : (words : List (List ℕ)) → list_all is_text words ≡ true → Says verb (codes "--" ∷ words) words []
