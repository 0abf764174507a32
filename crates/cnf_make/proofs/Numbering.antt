-- The table of variables as it grows.
use Rattle.std.proofs.Common.{◌≡◌, ℕ, ◌+◌, ◌<◌, Bool, true, false, cond, List, [], ◌∷◌, ◌++◌, length, take, get_or, Some, None, sym, ap, ◌∙◌, arith, ⊎_elim}
use Rattle.std.specs.Prelude.{is_none, slice_get, nat_lt}
use Rattle.std.proofs.lemmas.Bool.{cases_Bool, ltb-true, ltb-false}
use Rattle.std.proofs.lemmas.List.{get_or_append_left, get_or_push, length_push}
use Rattle.std.proofs.lemmas.List.Sums.{count_by_more_yes, count_by_more_no}
use Rattle.std.proofs.lemmas.Option.{get_or_from_slice_get}
use Rattle.aig_build.specs.Circuits.{Node}
use Rattle.cnf_make.specs.Needed.{is_marked}
use Rattle.cnf_make.specs.Tseitin.{constants_and_inputs, marked_count, variable_of}
use Rattle.cnf_make.proofs.Variables.{variable_yes, variable_no}

pub record IsNumberedTo (nodes : List Node) (marks : List Bool) (n input gate : ℕ) (table : List ℕ) : Type 0 where
  pub input_is : input ≡ constants_and_inputs (take n nodes) + 1
  pub gate_is : gate ≡ constants_and_inputs nodes + marked_count (take n marks) + 1
  pub size : length table ≡ n
  pub entries : (k : ℕ) → k < n → get_or table k 0 ≡ variable_of nodes marks k

module _ (nodes : List Node) (marks : List Bool) (n : ℕ) (table : List ℕ) where
  one_more : (v : ℕ) → length table ≡ n → v ≡ variable_of nodes marks n → ((k : ℕ) → k < n → get_or table k 0 ≡ variable_of nodes marks k)
      → (k : ℕ) → k < n + 1 → get_or (table ++ v ∷ []) k 0 ≡ variable_of nodes marks k
  one_more v size is old k h = ⊎_elim
      (λ t. let less = ltb-true k n t in get_or_append_left table (v ∷ []) 0 k (omega arith) ∙ old k less)
      (λ f. let le = ltb-false k n f in let at : k ≡ n = omega arith in get_or_push table v 0 k (omega arith) ∙ is ∙ ap (variable_of nodes marks) (sym at))
      (cases_Bool (nat_lt k n))

  pub input_more : (b : Bool) (input : ℕ) (x : Node) → n < length nodes → slice_get nodes n ≡ Some x → is_none x ≡ b → input ≡ constants_and_inputs (take n nodes) + 1 → input + cond b 1 0 ≡ constants_and_inputs (take (n + 1) nodes) + 1
  input_more true input x h g e old = let more = count_by_more_yes is_none nodes n None h (ap is_none (get_or_from_slice_get nodes n x None g) ∙ e) in omega arith
  input_more false input x h g e old = let more = count_by_more_no is_none nodes n None h (ap is_none (get_or_from_slice_get nodes n x None g) ∙ e) in omega arith

  pub gate_step : (b : Bool) (input gate input' gate' : ℕ) (table' : List ℕ) (x : Node) → n < length nodes → n < length marks → slice_get nodes n ≡ Some x → is_none x ≡ b → is_marked marks n ≡ true
      → input' ≡ input + cond b 1 0 → gate' ≡ gate + 1 → table' ≡ table ++ gate ∷ [] → IsNumberedTo nodes marks n input gate table → IsNumberedTo nodes marks (n + 1) input' gate' table'
  gate_step b input gate input' gate' table' x h w g e t is_input is_gate is_table old = record {
    input_is = is_input ∙ input_more b input x h g e old.input_is;
    gate_is = let was = old.gate_is in let more = count_by_more_yes (λ (y : Bool). y) marks n false w t in omega arith;
    size = ap length is_table ∙ length_push table gate ∙ ap (λ m. m + 1) old.size;
    entries = λ k l. ap (λ ts. get_or ts k 0) is_table ∙ one_more gate old.size (old.gate_is ∙ sym (variable_yes nodes marks n t)) old.entries k l;
  }

  pub other_step : (b : Bool) (input gate input' gate' : ℕ) (table' : List ℕ) (x : Node) → n < length nodes → n < length marks → slice_get nodes n ≡ Some x → is_none x ≡ b → is_marked marks n ≡ false
      → input' ≡ input + cond b 1 0 → gate' ≡ gate → table' ≡ table ++ input ∷ [] → IsNumberedTo nodes marks n input gate table → IsNumberedTo nodes marks (n + 1) input' gate' table'
  other_step b input gate input' gate' table' x h w g e t is_input is_gate is_table old = record {
    input_is = is_input ∙ input_more b input x h g e old.input_is;
    gate_is = let was = old.gate_is in let more = count_by_more_no (λ (y : Bool). y) marks n false w t in omega arith;
    size = ap length is_table ∙ length_push table input ∙ ap (λ m. m + 1) old.size;
    entries = λ k l. ap (λ ts. get_or ts k 0) is_table ∙ one_more input old.size (old.input_is ∙ sym (variable_no nodes marks n t)) old.entries k l;
  }
