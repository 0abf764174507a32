-- Every map fits.
use Rattle.std.proofs.Common.{◌≡◌, ℕ, ◌+◌, ◌-◌, ◌*◌, ◌<◌, ◌≤◌, Bool, true, false, ◌&&◌, List, [], ◌∷◌, ◌++◌, map, Option, Some, None, refl, sym, ◌∙◌, ap, subst, arith, true≢false}
use Rattle.std.specs.Prelude.{◌==◌, ◌||◌, nat_le, if◌then◌else◌, codes, All, Result, Ok, Err}
use Rattle.std.specs.Option.{option_map}
use Rattle.std.specs.Str.{bytes_eq}
use Rattle.std.proofs.lemmas.Bool.Decides.{nat_tests}
use Rattle.std.proofs.lemmas.List.{map-append}
use Rattle.std.proofs.lemmas.List.Elements.{All-nil, All-cons, All-append}
use Rattle.std.proofs.lemmas.Slice.Eq.{bytes_eq-Decides}
use Rattle.rvt_num.specs.declared.kinds.Kind.{Kind}
use Rattle.c_tokens.specs.Bytes.{is_digit}
use Rattle.version_map.specs.declared.map.Listed.{Listed}
use Rattle.version_map.specs.declared.map.Added.{Added}
use Rattle.version_map.specs.Texts.{parts}
use Rattle.version_map.specs.Words.{is_name, kind_of, count_from, count_of}
use Rattle.version_map.specs.Lines.{Saying, nothing, functions, globals, object, is_remark, two_names, with_kind, object_of, said_by, saying_of}
use Rattle.version_map.specs.Maps.{Entries, Refusal, nothing_said, stands_among, old_names, new_names, object_names, with_listed, with_added, on_entries, with_sayings, with_line, with_lines, go_on, map_of}
use Rattle.version_map.specs.Fits.{Rise, Differ, Fits}

-- ---- numbers that rise

-- the numbers rise, and the last one is at most this one
abbrev RiseTo : ℕ → ℕ → List ℕ → Type 0
RiseTo low high [] = low ≤ high
RiseTo low high (number ∷ numbers) = (low < number) × RiseTo number high numbers

rise : (low high : ℕ) (numbers : List ℕ) → RiseTo low high numbers → Rise low numbers
rise low high [] to = tt
rise low high (number ∷ numbers) to = (to.0, rise number high numbers to.1)

rise_on : (low high : ℕ) (numbers : List ℕ) → RiseTo low high numbers → RiseTo low (high + 1) numbers
rise_on low high [] to = omega (arith, to)
rise_on low high (number ∷ numbers) to = (to.0, rise_on number high numbers to.1)

rise_more : (low high : ℕ) (numbers : List ℕ) → RiseTo low high numbers → RiseTo low (high + 1) (numbers ++ (high + 1) ∷ [])
rise_more low high [] to = (omega (arith, to), omega arith)
rise_more low high (number ∷ numbers) to = (to.0, rise_more number high numbers to.1)

-- ---- names that differ

neither : (a b : Bool) → (a || b) ≡ false → (a ≡ false) × (b ≡ false)
neither true b none = absurd (true≢false none)
neither false b none = (refl, none)

turned : (a b : List ℕ) → bytes_eq a b ≡ false → bytes_eq b a ≡ false
turned a b apart = cases (bytes_eq b a) refl
  where
    cases : (t : Bool) → bytes_eq b a ≡ t → bytes_eq b a ≡ false
    cases true is = absurd (true≢false (sym ((bytes_eq-Decides a b).1 (sym ((bytes_eq-Decides b a).0 is))) ∙ apart))
    cases false is = is

none_more : (text : List ℕ) (names : List (List ℕ)) (name : List ℕ) → stands_among text names ≡ false → bytes_eq text name ≡ false → stands_among text (names ++ name ∷ []) ≡ false
none_more text [] name none apart = ap (λ (b : Bool). b || false) apart
none_more text (other ∷ names) name none apart =
    let both = neither (bytes_eq text other) (stands_among text names) none in
    ap (λ (b : Bool). b || stands_among text (names ++ name ∷ [])) both.0 ∙ none_more text names name both.1 apart

differ_more : (names : List (List ℕ)) (name : List ℕ) → Differ names → stands_among name names ≡ false → Differ (names ++ name ∷ [])
differ_more [] name differ none = (refl, tt)
differ_more (other ∷ names) name differ none =
    let both = neither (bytes_eq name other) (stands_among name names) none in
    (none_more other names name differ.0 (turned name other both.0), differ_more names name differ.1 both.1)

-- ---- counts

abbrev IsCount : ℕ → Type 0
IsCount count = (1 ≤ count) × (count ≤ 4096)

abbrev IfCount : Option ℕ → Type 0
IfCount None = Unit {0}
IfCount (Some count) = IsCount count

abbrev SayingFits : Option Saying → Type 0
SayingFits (Some (object name kind count)) = IsCount count
SayingFits (Some nothing) = Unit {0}
SayingFits (Some (functions old new)) = Unit {0}
SayingFits (Some (globals old new)) = Unit {0}
SayingFits None = Unit {0}

within : (value : ℕ) → (nat_le 1 value && nat_le value 4096) ≡ true → IsCount value
within value is =
    let low : 1 ≤ value = grind (arith, nat_tests) in
    let high : value ≤ 4096 = grind (arith, nat_tests) in
    (low, high)

count_fits_from : (value : ℕ) (bytes : List ℕ) → IfCount (count_from value bytes)
count_fits_from value [] = cases (nat_le 1 value && nat_le value 4096) refl
  where
    cases : (b : Bool) → (nat_le 1 value && nat_le value 4096) ≡ b → IfCount (if b then Some value else None)
    cases true is = within value is
    cases false is = tt
count_fits_from value (byte ∷ bytes) = cases (is_digit byte) (count_fits_from (10 * value + (byte - 48)) bytes)
  where
    cases : (b : Bool) → IfCount (count_from (10 * value + (byte - 48)) bytes) → IfCount (if b then count_from (10 * value + (byte - 48)) bytes else None)
    cases true rest = rest
    cases false rest = tt

count_fits : (text : List ℕ) → IfCount (count_of text)
count_fits [] = tt
count_fits (byte ∷ bytes) = cases (byte == 48) (count_fits_from 0 (byte ∷ bytes))
  where
    cases : (b : Bool) → IfCount (count_from 0 (byte ∷ bytes)) → IfCount (if b then None else count_from 0 (byte ∷ bytes))
    cases true rest = tt
    cases false rest = rest

kind_fits : (name : List ℕ) (kind : Option Kind) (count : Option ℕ) → IfCount count → SayingFits (with_kind name kind count)
kind_fits name (Some kind) (Some count) fits = fits
kind_fits name (Some kind) None fits = tt
kind_fits name None (Some count) fits = tt
kind_fits name None None fits = tt

if_fits : (b : Bool) (one other : Option Saying) → SayingFits one → SayingFits other → SayingFits (if b then one else other)
if_fits true one other fits too = fits
if_fits false one other fits too = too

object_fits : (words : List (List ℕ)) → SayingFits (object_of words)
object_fits [] = tt
object_fits (name ∷ []) = tt
object_fits (name ∷ kind ∷ []) = tt
object_fits (name ∷ kind ∷ count ∷ []) =
    if_fits (is_name name) (with_kind name (kind_of kind) (count_of count)) None (kind_fits name (kind_of kind) (count_of count) (count_fits count)) tt
object_fits (name ∷ kind ∷ count ∷ more ∷ words) = tt

functions_fit : (names : Option (List ℕ × List ℕ)) → SayingFits (option_map (λ names. functions names.0 names.1) names)
functions_fit (Some names) = tt
functions_fit None = tt

globals_fit : (names : Option (List ℕ × List ℕ)) → SayingFits (option_map (λ names. globals names.0 names.1) names)
globals_fit (Some names) = tt
globals_fit None = tt

said_fits : (words : List (List ℕ)) → SayingFits (said_by words)
said_fits [] = tt
said_fits (word ∷ words) =
    if_fits (bytes_eq word (codes "function")) _ _ (functions_fit (two_names words))
    (if_fits (bytes_eq word (codes "global")) _ _ (globals_fit (two_names words)) (if_fits (bytes_eq word (codes "object")) _ _ (object_fits words) tt))

saying_fits : (text : List ℕ) → SayingFits (saying_of text)
saying_fits text = if_fits (is_remark text) (Some nothing) (said_by (parts 32 text)) tt (said_fits (parts 32 text))

-- ---- what the lines so far say

record PairsKept (before : ℕ) (entries : List Listed) : Type 0 where
  pub lines : RiseTo 0 before (map (λ (entry : Listed). entry.line) entries)
  pub olds : Differ (old_names entries)
  pub news : Differ (new_names entries)

record ObjectsKept (before : ℕ) (entries : List Added) : Type 0 where
  pub lines : RiseTo 0 before (map (λ (entry : Added). entry.line) entries)
  pub names : Differ (object_names entries)
  pub counts : All (λ (entry : Added). (1 ≤ entry.count) × (entry.count ≤ 4096)) entries

record Kept (before : ℕ) (said : Entries) : Type 0 where
  pub functions : PairsKept before said.functions
  pub globals : PairsKept before said.globals
  pub objects : ObjectsKept before said.objects

abbrev IfOkIs : {T : Type 0} → (T → Type 0) → Result T Refusal → Type 0
IfOkIs Is (Ok x) = Is x
IfOkIs Is (Err refusal) = Unit {0}

pairs_on : (before : ℕ) (entries : List Listed) → PairsKept before entries → PairsKept (before + 1) entries
pairs_on before entries kept = record { lines = rise_on 0 before (map (λ (entry : Listed). entry.line) entries) kept.lines; olds = kept.olds; news = kept.news }

objects_on : (before : ℕ) (entries : List Added) → ObjectsKept before entries → ObjectsKept (before + 1) entries
objects_on before entries kept = record { lines = rise_on 0 before (map (λ (entry : Added). entry.line) entries) kept.lines; names = kept.names; counts = kept.counts }

listed_kept : (before : ℕ) (entries : List Listed) (old new : List ℕ) → PairsKept before entries
    → IfOkIs (PairsKept (before + 1)) (with_listed entries (record { line = before + 1; old = old; new = new }))
listed_kept before entries old new kept = cases (stands_among old (old_names entries)) (stands_among new (new_names entries)) refl refl
  where
    cases : (a b : Bool) → stands_among old (old_names entries) ≡ a → stands_among new (new_names entries) ≡ b
        → IfOkIs (PairsKept (before + 1)) (if a || b then Err (record { line = before + 1; cause = 42 }) else Ok (entries ++ record { line = before + 1; old = old; new = new } ∷ []))
    cases true b olds news = tt
    cases false true olds news = tt
    cases false false olds news = record {
      lines = subst (RiseTo 0 (before + 1)) (sym (map-append (λ (entry : Listed). entry.line) entries (record { line = before + 1; old = old; new = new } ∷ [])))
          (rise_more 0 before (map (λ (entry : Listed). entry.line) entries) kept.lines);
      olds = subst Differ (sym (map-append (λ (entry : Listed). entry.old) entries (record { line = before + 1; old = old; new = new } ∷ []))) (differ_more (old_names entries) old kept.olds olds);
      news = subst Differ (sym (map-append (λ (entry : Listed). entry.new) entries (record { line = before + 1; old = old; new = new } ∷ []))) (differ_more (new_names entries) new kept.news news);
    }

added_kept : (before : ℕ) (entries : List Added) (name : List ℕ) (kind : Kind) (count : ℕ) → IsCount count → ObjectsKept before entries
    → IfOkIs (ObjectsKept (before + 1)) (with_added entries (record { line = before + 1; name = name; kind = kind; count = count }))
added_kept before entries name kind count fits kept = cases (stands_among name (object_names entries)) refl
  where
    cases : (a : Bool) → stands_among name (object_names entries) ≡ a
        → IfOkIs (ObjectsKept (before + 1)) (if a then Err (record { line = before + 1; cause = 42 }) else Ok (entries ++ record { line = before + 1; name = name; kind = kind; count = count } ∷ []))
    cases true names = tt
    cases false names = record {
      lines = subst (RiseTo 0 (before + 1)) (sym (map-append (λ (entry : Added). entry.line) entries (record { line = before + 1; name = name; kind = kind; count = count } ∷ [])))
          (rise_more 0 before (map (λ (entry : Added). entry.line) entries) kept.lines);
      names = subst Differ (sym (map-append (λ (entry : Added). entry.name) entries (record { line = before + 1; name = name; kind = kind; count = count } ∷ []))) (differ_more (object_names entries) name kept.names names);
      counts = All-append (λ (entry : Added). (1 ≤ entry.count) × (entry.count ≤ 4096)) entries (record { line = before + 1; name = name; kind = kind; count = count } ∷ []) kept.counts
          (All-cons (λ (entry : Added). (1 ≤ entry.count) × (entry.count ≤ 4096)) (record { line = before + 1; name = name; kind = kind; count = count }) [] fits (All-nil (λ (entry : Added). (1 ≤ entry.count) × (entry.count ≤ 4096))));
    }

put_kept : {T : Type 0} (Is : T → Type 0) (n : ℕ) (put : T → Entries) (r : Result T Refusal) → ((x : T) → Is x → Kept n (put x)) → IfOkIs Is r → IfOkIs (Kept n) (on_entries put r)
put_kept Is n put (Ok x) keeps is = keeps x is
put_kept Is n put (Err refusal) keeps is = tt

saying_kept : (before : ℕ) (said : Entries) (saying : Option Saying) → SayingFits saying → Kept before said → IfOkIs (Kept (before + 1)) (with_sayings said (before + 1) saying)
saying_kept before said None fits kept = tt
saying_kept before said (Some nothing) fits kept = record {
  functions = pairs_on before said.functions kept.functions;
  globals = pairs_on before said.globals kept.globals;
  objects = objects_on before said.objects kept.objects;
}
saying_kept before said (Some (functions old new)) fits kept =
    put_kept (PairsKept (before + 1)) (before + 1) (λ more. record { functions = more; globals = said.globals; objects = said.objects })
    (with_listed said.functions (record { line = before + 1; old = old; new = new }))
    (λ more is. record { functions = is; globals = pairs_on before said.globals kept.globals; objects = objects_on before said.objects kept.objects })
    (listed_kept before said.functions old new kept.functions)
saying_kept before said (Some (globals old new)) fits kept =
    put_kept (PairsKept (before + 1)) (before + 1) (λ more. record { functions = said.functions; globals = more; objects = said.objects })
    (with_listed said.globals (record { line = before + 1; old = old; new = new }))
    (λ more is. record { functions = pairs_on before said.functions kept.functions; globals = is; objects = objects_on before said.objects kept.objects })
    (listed_kept before said.globals old new kept.globals)
saying_kept before said (Some (object name kind count)) fits kept =
    put_kept (ObjectsKept (before + 1)) (before + 1) (λ more. record { functions = said.functions; globals = said.globals; objects = more })
    (with_added said.objects (record { line = before + 1; name = name; kind = kind; count = count }))
    (λ more is. record { functions = pairs_on before said.functions kept.functions; globals = pairs_on before said.globals kept.globals; objects = is })
    (added_kept before said.objects name kind count fits kept.objects)

kept_fits : (before : ℕ) (said : Entries) → Kept before said → Fits said
kept_fits before said kept = record {
  functions = record { lines = rise 0 before (map (λ (entry : Listed). entry.line) said.functions) kept.functions.lines; olds = kept.functions.olds; news = kept.functions.news };
  globals = record { lines = rise 0 before (map (λ (entry : Listed). entry.line) said.globals) kept.globals.lines; olds = kept.globals.olds; news = kept.globals.news };
  objects = record { lines = rise 0 before (map (λ (entry : Added). entry.line) said.objects) kept.objects.lines; names = kept.objects.names; counts = kept.objects.counts };
}

gone_on : (n : ℕ) (next : Entries → Result Entries Refusal) (r : Result Entries Refusal) → ((more : Entries) → Kept n more → IfOkIs Fits (next more)) → IfOkIs (Kept n) r → IfOkIs Fits (go_on next r)
gone_on n next (Ok more) fits kept = fits more kept
gone_on n next (Err refusal) fits kept = tt

lines_fit : (texts : List (List ℕ)) (said : Entries) (before : ℕ) → Kept before said → IfOkIs Fits (with_lines said before texts)
lines_fit [] said before kept = kept_fits before said kept
lines_fit (text ∷ texts) said before kept =
    gone_on (before + 1) (λ more. with_lines more (before + 1) texts) (with_line said (before + 1) text) (λ more still. lines_fit texts more (before + 1) still)
    (saying_kept before said (saying_of text) (saying_fits text) kept)

nothing_kept : Kept 0 nothing_said
nothing_kept = record {
  functions = record { lines = omega arith; olds = tt; news = tt };
  globals = record { lines = omega arith; olds = tt; news = tt };
  objects = record { lines = omega arith; names = tt; counts = All-nil (λ (entry : Added). (1 ≤ entry.count) × (entry.count ≤ 4096)) };
}

pub maps_fit : (bytes : List ℕ) (said : Entries) → map_of bytes ≡ Ok said → Fits said
maps_fit bytes said is = subst (IfOkIs Fits) is (lines_fit (parts 10 bytes) nothing_said 0 nothing_kept)
