-- Registers that are read and set, and stores that are merged.
use Rattle.std.proofs.Common.{◌≡◌, ℕ, zero, suc, List, [], ◌∷◌, Option, Some, None, refl, sym, ap, ◌∙◌, subst, slice_get, slice_set}
use Rattle.std.proofs.lemmas.Option.{none-some, same_Some}
use Rattle.aig_build.specs.Circuits.{Node}
use Rattle.aig_build.specs.declared.lits.Lit.{Lit}
use Rattle.bit_ops.specs.declared.values.SymValue.{SymValue}
use Rattle.bit_words.specs.Words.{AreThere}
use Rattle.core_ir.specs.Places.{register}
use Rattle.core_ir.specs.declared.units.Shape.{Shape}
use Rattle.rvt_num.specs.declared.values.Value.{Value}
use Rattle.sym_store.proofs.Choices.{merging, alike}
use Rattle.sym_store.specs.Merging.{MadeValues, merged_values, AreAlike}
use Rattle.sym_store.specs.Stores.{LitStore, RegisterLaw, SetLaw, SetLaidLaw, MadeStore, merged_store, MergeStoreLaw, StoresAlikeLaw}
use Rattle.sym_values.specs.Valuations.{Valuation}
use Rattle.sym_values.specs.Values.{value_under, both_stand, values_under, all_lits, IsLaid, AreLaid}

-- a list of values stands where its first and the rest do
record Parts (first : Option Value) (rest : Option (List Value)) (values : List Value) : Type 0 where
  head : Value
  tail : List Value
  are : head ∷ tail ≡ values
  of_head : first ≡ Some head
  of_tail : rest ≡ Some tail

parts : (a : Option Value) (b : Option (List Value)) (values : List Value) → both_stand a b ≡ Some values → Parts a b values
parts None b values e = absurd (none-some _ e)
parts (Some x) None values e = absurd (none-some _ e)
parts (Some x) (Some xs) values e = record { head = x; tail = xs; are = same_Some _ _ e; of_head = refl; of_tail = refl }

-- ---- one register

register_by : (v : Valuation) (xs : List SymValue) (values : List Value) (r : ℕ) (x : SymValue) → values_under v xs ≡ Some values → slice_get xs r ≡ Some x → value_under v x ≡ Some (register values r)
register_by v [] values r x h e = absurd (none-some _ e)
register_by v (a ∷ more) values zero x h e =
    let p = parts (value_under v a) (values_under v more) values h in
    subst (λ vs. value_under v x ≡ Some (register vs zero)) p.are (ap (value_under v) (sym (same_Some _ _ e)) ∙ p.of_head)
register_by v (a ∷ more) values (suc n) x h e =
    let p = parts (value_under v a) (values_under v more) values h in
    subst (λ vs. value_under v x ≡ Some (register vs (suc n))) p.are (register_by v more p.tail n x p.of_tail e)

pub register_is : RegisterLaw
register_is v s state r x h e = register_by v s.registers state.registers r x h.of_registers e

set_by : (v : Valuation) (xs : List SymValue) (values : List Value) (r : ℕ) (x : SymValue) (value : Value) → values_under v xs ≡ Some values → value_under v x ≡ Some value → values_under v (slice_set xs r x) ≡ Some (slice_set values r value)
set_by v [] values r x value h e = subst (λ vs. Some [] ≡ Some (slice_set vs r value)) (same_Some _ _ h) refl
set_by v (a ∷ more) values zero x value h e =
    let p = parts (value_under v a) (values_under v more) values h in
    subst (λ vs. both_stand (value_under v x) (values_under v more) ≡ Some (slice_set vs zero value)) p.are (λ i. both_stand (e i) (p.of_tail i))
set_by v (a ∷ more) values (suc n) x value h e =
    let p = parts (value_under v a) (values_under v more) values h in
    let rest = set_by v more p.tail n x value p.of_tail e in
    subst (λ vs. both_stand (value_under v a) (values_under v (slice_set more n x)) ≡ Some (slice_set vs (suc n) value)) p.are (λ i. both_stand (p.of_head i) (rest i))

pub set_is : SetLaw
set_is v s state r x value h e = record { of_registers = set_by v s.registers state.registers r x value h.of_registers e; of_cells = h.of_cells }

laid_by : (shapes : List Shape) (xs : List SymValue) (r : ℕ) (shape : Shape) (x : SymValue) → AreLaid shapes xs → slice_get shapes r ≡ Some shape → IsLaid shape x → AreLaid shapes (slice_set xs r x)
laid_by [] xs r shape x h e l = absurd (none-some _ e)
laid_by (s ∷ ss) [] r shape x h e l = absurd h
laid_by (s ∷ ss) (a ∷ more) zero shape x h e l = (subst (λ t. IsLaid t x) (sym (same_Some _ _ e)) l, h.1)
laid_by (s ∷ ss) (a ∷ more) (suc n) shape x h e l = (h.0, laid_by ss more n shape x h.1 e l)

pub set_laid : SetLaidLaw
set_laid registers cells s r shape x h e l = record { of_registers = laid_by registers s.registers r shape x h.of_registers e l; of_cells = h.of_cells }

-- ---- two stores

abbrev made_of : MadeValues → MadeValues → MadeStore
made_of r c = record { nodes = c.nodes; store = record { registers = r.values; cells = c.values } }

-- the lists that are merged are those of the stores
pub merged_by : (ns : List Node) (which : Lit) (s t : LitStore) (a b x y : List SymValue) (r c : MadeValues) → a ≡ s.registers → b ≡ t.registers → x ≡ s.cells → y ≡ t.cells → merged_values ns which a b ≡ r → merged_values r.nodes which x y ≡ c
    → merged_store ns which s t ≡ record { nodes = c.nodes; store = record { registers = r.values; cells = c.values } }
unfolding merged_store
merged_by ns which s t a b x y r c ha hb hx hy e f =
    let first : merged_values ns which s.registers t.registers ≡ r =
    subst (λ u. merged_values ns which s.registers u ≡ r) hb (subst (λ u. merged_values ns which u b ≡ r) ha e) in
    let second : merged_values r.nodes which s.cells t.cells ≡ c =
    subst (λ u. merged_values r.nodes which s.cells u ≡ c) hy (subst (λ u. merged_values r.nodes which u y ≡ c) hx f) in
    ap (λ (m : MadeValues). made_of m (merged_values m.nodes which s.cells t.cells)) first ∙ ap (made_of r) second

pub there_by : (ns : List Node) (xs ys : List SymValue) → ys ≡ xs → AreThere ns (all_lits xs) → AreThere ns (all_lits ys)
there_by ns xs ys e t = subst (λ zs. AreThere ns (all_lits zs)) (sym e) t

pub alike_by : (xs ys a b : List SymValue) → a ≡ xs → b ≡ ys → AreAlike xs ys → AreAlike a b
alike_by xs ys a b e f h = subst (λ u. AreAlike u b) (sym e) (subst (AreAlike xs) (sym f) h)

pub stores_merging : MergeStoreLaw
unfolding merged_store
stores_merging v ns which registers cells s t p q =
    let one = merging v ns which registers s.registers t.registers p.of_registers q.of_registers in
    let two = merging v (merged_values ns which s.registers t.registers).nodes which cells s.cells t.cells p.of_cells q.of_cells in
    record {
      back = λ h. one.back (two.back h);
      laid = record { of_registers = one.laid; of_cells = two.laid };
      first = λ h e state g. record { of_registers = one.first (two.back h) e ∙ g.of_registers; of_cells = two.first h e ∙ g.of_cells };
      second = λ h e state g. record { of_registers = one.second (two.back h) e ∙ g.of_registers; of_cells = two.second h e ∙ g.of_cells };
    }

pub stores_alike : StoresAlikeLaw
stores_alike registers cells s t p q = record {
  registers = alike registers s.registers t.registers p.of_registers q.of_registers;
  cells = alike cells s.cells t.cells p.of_cells q.of_cells;
}
