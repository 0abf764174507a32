-- What is said of a run.
use Rattle.std.proofs.Common.{◌≡◌, ℕ, zero, suc, ◌<◌, nat_lt, Bool, true, false, Option, Some, None, length, get_or, List, [], ◌∷◌, ◌++◌, Result, Ok, Err, refl, sym, ◌∙◌, ap, subst, arith}
use Rattle.std.specs.Prelude.{codes, IfOk, ℤ, pos, negsuc, bytes_eq, cond, map, position, slice_get, Vec}
use Rattle.std.specs.Fmt.{decimal, signed_decimal}
use Rattle.std.specs.String.{string_bytes}
use Rattle.rvt_num.specs.declared.values.Trap.{Trap}
use Rattle.rvt_num.specs.declared.values.Trap.TheVariants as T
use Rattle.rvt_run.specs.declared.run.Said.{Said}
use Rattle.rvt_num.specs.declared.values.Value.{Value}
use Rattle.rvt_tree.specs.declared.programs.Program.{Program}
use Rattle.c_meaning.specs.Promises.{mutable_cells}
use Rattle.c_meaning.specs.Runs.{run}
use Rattle.c_meaning.specs.Stores.{objects_of}
use Rattle.c_interp.specs.declared.machine.Stop.{Stop as StopOf}
use Rattle.c_interp.specs.Stops.{stop_with}
use Rattle.rvt_run.specs.declared.answers.Answer.{Answer}
use Rattle.rvt_run.specs.Runs.{trap_word, most_calls, MachineStops, StopsSo, IsFunction, IsRunAnswer, stopped, stop_status, stop_text}
use Rattle.rvt_tree.specs.declared.programs.Function.{Function}
use Rattle.rvt_tree.specs.declared.programs.Local.{Local}
use Rattle.one_table.specs.Names.{function_number}
use Rattle.call_arguments.specs.Answers.{AreFor}
use Rattle.call_arguments.specs.Arguments.{AreArguments, IsFirstBad}
use Rattle.call_arguments.specs.declared.arguments.Arguments.{Arguments}
use Rattle.call_arguments.specs.declared.arguments.Arguments.TheVariants.{Values, Bad}
use Rattle.command_words.specs.Commands.{texts}
use Rattle.std.specs.Borrow.{Bor}
use Rattle.std.specs.Global.{Global}
use Rattle.std.specs.List.{position_or_len}
use Rattle.std.specs.Option.{is_none, is_some}
use Rattle.std.proofs.lemmas.Iterator.Adapters.{position_from-zero}
use Rattle.rvt_run.specs.Texts.{HasNoLineEnd}
use Rattle.rvt_run.proofs.Shaped.{joined, literal, number_none}

pub says_at : {E : Type 0} (r : Result Said E) (Is : ℕ → List ℕ → Type 0) (status : ℕ) (text : List ℕ) → IfOk r (λ s. s.status ≡ status) → IfOk r (λ s. string_bytes s.text ≡ text) → Is status text → IfOk r (λ s. Is s.status (string_bytes s.text))
says_at (Ok s) Is status text same same' is = subst (λ (n : ℕ). Is n (string_bytes s.text)) (sym same) (subst (λ (t : List ℕ). Is status t) (sym same') is)
says_at (Err e) Is status text same same' is = tt

pub trap_none : (why : Trap) → HasNoLineEnd (codes "traps " ++ trap_word why)
trap_none T.Divide = literal (codes "traps divide") refl
trap_none T.Quotient = literal (codes "traps quotient") refl
trap_none T.Shift = literal (codes "traps shift") refl
trap_none T.Index = literal (codes "traps index") refl
trap_none T.Null = literal (codes "traps null") refl
trap_none T.Range = literal (codes "traps range") refl
trap_none T.Place = literal (codes "traps place") refl
trap_none T.NoReturn = literal (codes "traps noreturn") refl

signed_none : (z : ℤ) → HasNoLineEnd (signed_decimal z)
signed_none (pos n) = number_none n
signed_none (negsuc n) = (refl, number_none (suc n))

pub result_none : (z : ℤ) → HasNoLineEnd (codes "returns " ++ signed_decimal z)
result_none z = joined (codes "returns ") (signed_decimal z) (literal (codes "returns ") refl) (signed_none z)

-- a number between two texts
pub between_none : (first last : List ℕ) (n : ℕ) → HasNoLineEnd first → HasNoLineEnd last → HasNoLineEnd (first ++ (decimal n ++ last))
between_none first last n none none' = joined first (decimal n ++ last) none (joined (decimal n) last (number_none n) none')

pub none_of : (text other : List ℕ) → text ≡ other → HasNoLineEnd other → HasNoLineEnd text
none_of text other same none = subst HasNoLineEnd (sym same) none

-- an answer, by its status and its lines
pub answer_at : {E : Type 0} (r : Result Answer E) (Is : ℕ → List (List ℕ) → Type 0) (status : ℕ) (lines : List (List ℕ)) → IfOk r (λ x. x.status ≡ status) → IfOk r (λ x. x.lines.items ≡ lines) → Is status lines → IfOk r (λ x. Is x.status x.lines.items)
answer_at (Ok x) Is status lines same same' is = subst (λ (n : ℕ). Is n x.lines.items) (sym same) (subst (λ (l : List (List ℕ)). Is status l) (sym same') is)
answer_at (Err e) Is status lines same same' is = tt

-- the run that a machine made
pub machine_stops : {E : Type 0} (r : Result StopOf E) (program given : Program) (function : ℕ) (values contents after : List Value) (bound calls : ℕ) → given ≡ program → calls ≡ most_calls
    → IfOk r (λ stop. run given function values contents bound calls ≡ stop_with stop after) → IfOk r (λ stop. MachineStops program function values contents bound stop)
machine_stops (Ok stop) program given function values contents after bound calls one two is = record {
  store = after;
  run =
      subst (λ (p : Program). run p function values contents bound most_calls ≡ stop_with stop after) one
      (subst (λ (d : ℕ). run given function values contents bound d ≡ stop_with stop after) two is);
}
machine_stops (Err e) program given function values contents after bound calls one two is = tt

pub from_first : (program : Program) (number : ℕ) (values contents : List Value) (bound : ℕ) (stop : StopOf) → contents ≡ mutable_cells (objects_of program) → MachineStops program number values contents bound stop → StopsSo program number values bound stop
from_first program number values contents bound stop same is = subst (λ (s : List Value). MachineStops program number values s bound stop) same is

-- what is said of a run that stopped
pub stopped_at : {E : Type 0} (r : Result Said E) (program : Program) (file name : List ℕ) (words : List (List ℕ)) (bound number : ℕ) (function : Function) (values : List Value) → IsFunction program name number function → AreArguments program function.params words values
    → IfOk r (λ said. (stop : StopOf) × StopsSo program number values bound stop × (said.status ≡ stop_status stop) × (string_bytes said.text ≡ stop_text bound stop))
    → IfOk r (λ said. IsRunAnswer program file name words bound said.status (string_bytes said.text))
stopped_at (Ok said) program file name words bound number function values is are (stop, so, status, text) =
    subst (λ (n : ℕ). IsRunAnswer program file name words bound n (string_bytes said.text)) (sym status)
    (subst (λ (t : List ℕ). IsRunAnswer program file name words bound (stop_status stop) t) (sym text) (stopped number function values stop is are so))
stopped_at (Err e) program file name words bound number function values is are so = tt

-- ---- functions by their names

pub numbered_so : (functions slice : List Function) (name bytes : List ℕ) (o : Option ℕ) → slice ≡ functions → bytes ≡ name → o ≡ position (λ (f : Function). bytes_eq f.name bytes) slice → o ≡ function_number functions name
numbered_so functions slice name bytes o same same' is =
    is ∙ ap (λ (b : List ℕ). position (λ (f : Function). bytes_eq f.name b) slice) same' ∙ ap (λ (fs : List Function). position (λ (f : Function). bytes_eq f.name name) fs) same ∙ position_from-zero (λ (f : Function). bytes_eq f.name name) functions

pub same_some : {A : Type 0} (a b : A) → Some a ≡ Some b → a ≡ b
same_some a b is = cc

-- an item that is there
pub item_there : {A : Type 0} (xs : List A) (n : ℕ) (d x : A) → slice_get xs n ≡ Some x → get_or xs n d ≡ x
item_there [] n d x is = cc
item_there (y ∷ xs) zero d x is = same_some y x is
item_there (y ∷ xs) (suc n) d x is = item_there xs n d x is

pub there_item : {A : Type 0} (xs : List A) (n : ℕ) (d : A) → n < length xs → slice_get xs n ≡ Some (get_or xs n d)
there_item [] n d low = absurd (omega (arith, low))
there_item (y ∷ xs) zero d low = refl
there_item (y ∷ xs) (suc n) d low = there_item xs n d (omega (arith, low))

pub position_below : {A : Type 0} (p : A → Bool) (xs : List A) (n : ℕ) → position p xs ≡ Some n → n < length xs
position_below p xs n is = cases (nat_lt (position_or_len p xs) (length xs)) refl is
  where
    cases : (b : Bool) → nat_lt (position_or_len p xs) (length xs) ≡ b → cond b (Some (position_or_len p xs)) None ≡ Some n → n < length xs
    cases true low is = let same : position_or_len p xs ≡ n = same_some _ _ is in let under : position_or_len p xs < length xs = grind (arith, low) in omega (arith, same, under)
    cases false low is = cc

-- a body is there or it isn't
pub body_both : {A : Type 0} (o : Option A) → is_none o ≡ true → is_some o ≡ true → ⊥
body_both None none some = let no : false ≡ true = some in cc
body_both (Some x) none some = let no : false ≡ true = none in cc

-- no function without a body is the one of its name
pub no_body : (program : Program) (name : List ℕ) (number other : ℕ) (function found : Function) → function_number program.functions name ≡ Some number → found ≡ get_or program.functions number found → is_none found.body ≡ true → IsFunction program name other function → ⊥
no_body program name number other function found named at none is =
    let same : other ≡ number = same_some _ _ (sym is.named ∙ named) in
    let there : slice_get program.functions number ≡ Some function = ap (λ (n : ℕ). slice_get program.functions n) (sym same) ∙ is.there in
    let found_is : found ≡ function = at ∙ item_there program.functions number found function there in
    body_both function.body (ap (λ (f : Function). is_none f.body) (sym found_is) ∙ none) is.body

-- ---- arguments

pub first_bad_below : (program : Program) (params : List Local) (words : List (List ℕ)) (k : ℕ) → IsFirstBad program params words k → k < length params
first_bad_below program [] [] k is = absurd is
first_bad_below program [] (word ∷ words) k is = absurd is
first_bad_below program (local ∷ params) [] k is = absurd is
first_bad_below program (local ∷ params) (word ∷ words) zero is = omega arith
first_bad_below program (local ∷ params) (word ∷ words) (suc k) is = let later : k < length params = first_bad_below program params words k is.1 in omega (arith, later)

abbrev pub SeenText : Type 0
SeenText = Bor (List ℕ)

pub seen_length : (words : List SeenText) → length (texts words) ≡ length words
seen_length [] = refl
seen_length (word ∷ words) = ap suc (seen_length words)

pub for_values : (program : Program) (params slice : List Local) (words seen : List SeenText) (a : Arguments) (values : Vec Value Global) → slice ≡ params → seen ≡ words → AreFor program slice (map (λ (word : SeenText). word.now) seen) a → a ≡ Values values
    → AreArguments program params (texts words) values.items
for_values program params slice words seen a values same same' are is =
    subst (λ (ps : List Local). AreArguments program ps (texts words) values.items) same (subst (λ (ws : List SeenText). AreArguments program slice (texts ws) values.items) same' (subst (λ (x : Arguments). AreFor program slice (texts seen) x) is are))

pub for_bad : (program : Program) (params slice : List Local) (words seen : List SeenText) (a : Arguments) (before : ℕ) → slice ≡ params → seen ≡ words → AreFor program slice (map (λ (word : SeenText). word.now) seen) a → a ≡ Bad before
    → IsFirstBad program params (texts words) before
for_bad program params slice words seen a before same same' are is =
    subst (λ (ps : List Local). IsFirstBad program ps (texts words) before) same (subst (λ (ws : List SeenText). IsFirstBad program slice (texts ws) before) same' (subst (λ (x : Arguments). AreFor program slice (texts seen) x) is are))
