-- Units under a table: each call, and each loop statement that is met in a body, takes its end from a list.
use Rattle.std.specs.Prelude.{ℕ, List, [], ◌∷◌, ◌++◌, map, get_or, set, Bool, true, false, ◌&&◌, nat_eq, if◌then◌else◌, Option, Some, None, option_map, unwrap_or, pos}
use Rattle.rvt_num.specs.Number.{Number}
use Rattle.rvt_num.specs.Operations.{int_eq}
use Rattle.rvt_num.specs.declared.kinds.Kind.{Kind}
use Rattle.rvt_num.specs.declared.values.Trap.{Trap}
use Rattle.rvt_num.specs.declared.values.Value.{Value}
use Rattle.rvt_num.specs.declared.values.Value.TheVariants.{Num, Null, At}
use Rattle.c_types.specs.Layout.{same_kind}
use Rattle.c_meaning.specs.Outcomes.{Done, Returning, Trapped, Doing, Answers, Manner, Normally}
use Rattle.c_meaning.specs.Stores.{cleared}

pub data UnitName : Type 0 where
  Shared : ℕ → UnitName
  OldUnit : ℕ → UnitName
  NewUnit : ℕ → UnitName

-- what an end may depend on: the arguments, or the cells of a loop's locals, and the touched cells of the store
pub record Key : Type 0 where
  pub given : List (List Value)
  pub cells : List Value

-- an end, with what the touched cells then hold: a trap, a result, or the locals of a loop that ends normally
pub data Answer : Type 0 where
  TrapOf : Trap → Answer
  ResultOf : Option Number → List Value → Answer
  LocalsOf : List (List Value) → List Value → Answer

pub record Entry : Type 0 where
  pub name : UnitName
  pub key : Key
  pub answer : Answer

-- a call that was made
pub record Made : Type 0 where
  pub name : UnitName
  pub key : Key

-- a unit that a body may call: its name, its interface if it is a loop, the places in the store of the cells that it touches, and the kind of its result
pub record Callee : Type 0 where
  pub name : UnitName
  pub interface : List ℕ
  pub cells : List ℕ
  pub result : Option Kind

pub record Directory : Type 0 where
  pub function : ℕ → Callee
  pub loop : ℕ → Callee

-- ---- equality of names and keys

abbrev pub same_number : Number → Number → Bool
same_number a b = same_kind a.kind b.kind && int_eq a.value b.value

abbrev pub same_value : Value → Value → Bool
same_value (Num a) (Num b) = same_number a b
same_value Null Null = true
same_value (At a i) (At b j) = nat_eq a b && nat_eq i j
same_value _ _ = false

abbrev pub same_list : {A : Type 0} → (A → A → Bool) → List A → List A → Bool
same_list same [] [] = true
same_list same (a ∷ as_) (b ∷ bs) = same a b && same_list same as_ bs
same_list same [] (b ∷ bs) = false
same_list same (a ∷ as_) [] = false

abbrev pub same_name : UnitName → UnitName → Bool
same_name (Shared a) (Shared b) = nat_eq a b
same_name (OldUnit a) (OldUnit b) = nat_eq a b
same_name (NewUnit a) (NewUnit b) = nat_eq a b
same_name _ _ = false

abbrev pub same_key : Key → Key → Bool
same_key a b = same_list (same_list same_value) a.given b.given && same_list same_value a.cells b.cells

-- the first entry of a name and key counts
abbrev pub entry_of : List Entry → UnitName → Key → Option Answer
entry_of [] name key = None
entry_of (entry ∷ table) name key = if same_name entry.name name && same_key entry.key key then Some entry.answer else entry_of table name key

-- ---- answers from a table

abbrev pub cells_at : List ℕ → List Value → List Value
cells_at places store = map (λ place. get_or store place Null) places

abbrev pub put_at : {A : Type 0} → List ℕ → List A → List A → List A
put_at [] as_ all = all
put_at (place ∷ places) [] all = all
put_at (place ∷ places) (a ∷ as_) all = put_at places as_ (set all place a)

abbrev pub zero_result : Option Kind → Option Number
zero_result = option_map (λ kind. record { kind = kind; value = pos 0 })

-- where no entry is, all is zero or null
abbrev pub missing_call : Callee → Key → Answer
missing_call callee key = ResultOf (zero_result callee.result) (map cleared key.cells)

abbrev pub missing_loop : Key → Answer
missing_loop key = LocalsOf (map (map cleared) key.given) (map cleared key.cells)

abbrev pub after_call : Callee → Answer → Doing (List Made) (Option Number)
after_call callee (TrapOf why) s = Trapped why s.kept
after_call callee (ResultOf n cells) s = Done n (record { locals = s.locals; store = put_at callee.cells cells s.store; kept = s.kept })
after_call callee (LocalsOf locals cells) s = Done None s

abbrev pub after_loop : Callee → Answer → Doing (List Made) Manner
after_loop callee (TrapOf why) s = Trapped why s.kept
after_loop callee (ResultOf n cells) s = Returning n (put_at callee.cells cells s.store) s.kept
after_loop callee (LocalsOf locals cells) s =
    Done Normally (record { locals = put_at callee.interface locals s.locals; store = put_at callee.cells cells s.store; kept = s.kept })

abbrev pub having_made : {A : Type 0} → UnitName → Key → Doing (List Made) A → Doing (List Made) A
having_made name key next s = next (record { locals = s.locals; store = s.store; kept = s.kept ++ record { name = name; key = key } ∷ [] })

abbrev pub call_key : Callee → List Value → List Value → Key
call_key callee arguments store = record { given = map (λ v. v ∷ []) arguments; cells = cells_at callee.cells store }

abbrev pub loop_key : Callee → List (List Value) → List Value → Key
loop_key callee locals store = record { given = map (λ number. get_or locals number []) callee.interface; cells = cells_at callee.cells store }

abbrev pub call_answer : List Entry → Callee → Key → Answer
call_answer table callee key = unwrap_or (entry_of table callee.name key) (missing_call callee key)

abbrev pub loop_answer : List Entry → Callee → Key → Answer
loop_answer table callee key = unwrap_or (entry_of table callee.name key) (missing_loop key)

abbrev pub answered_call : List Entry → Callee → Key → Doing (List Made) (Option Number)
answered_call table callee key = having_made callee.name key (after_call callee (call_answer table callee key))

abbrev pub answered_loop : List Entry → Callee → Key → Doing (List Made) Manner
answered_loop table callee key = having_made callee.name key (after_loop callee (loop_answer table callee key))

-- calls and loops under a table, which keep the list of the calls made
abbrev pub under_table : Directory → List Entry → Answers (List Made)
under_table directory table =
    record {
      call = λ function arguments s. answered_call table (directory.function function) (call_key (directory.function function) arguments s.store) s;
      loop = λ number round_first test round s. answered_loop table (directory.loop number) (loop_key (directory.loop number) s.locals s.store) s;
    }
