-- What is merged stands in the circuit.
use Rattle.std.proofs.Common.{◌<◌, Bool, true, false, List, [], ◌∷◌, ◌++◌, length, arith}
use Rattle.aig_build.proofs.Nodes.{Grows-length, Grows-refl, Grows-trans}
use Rattle.aig_build.specs.Built.{same_lit}
use Rattle.aig_build.specs.Circuits.{Node, IsCircuit, Grows}
use Rattle.aig_build.specs.declared.lits.Lit.{Lit}
use Rattle.bit_ops.specs.declared.values.SymValue.{SymValue}
use Rattle.bit_ops.specs.declared.values.SymValue.TheVariants.{Word, Pointer}
use Rattle.bit_words.proofs.Computing.{itself, choice-makes}
use Rattle.bit_words.proofs.ConvertValues.{AreThere-append}
use Rattle.bit_words.proofs.RippleCarry.{AreThere-later}
use Rattle.bit_words.specs.Words.{AreThere}
use Rattle.sym_store.specs.Merging.{unless_same, merged_lit, merged_lits, merged_value, merged_values}
use Rattle.sym_store.specs.Stores.{LitStore, IsStoreThere, merged_store}
use Rattle.sym_values.specs.Values.{lits_of, all_lits}

pub there_front : (ns : List Node) (xs ys : List Lit) → AreThere ns (xs ++ ys) → AreThere ns xs
there_front ns [] ys t = tt
there_front ns (x ∷ xs) ys t = (t.0, there_front ns xs ys t.1)

pub there_back : (ns : List Node) (xs ys : List Lit) → AreThere ns (xs ++ ys) → AreThere ns ys
there_back ns [] ys t = t
there_back ns (x ∷ xs) ys t = there_back ns xs ys t.1

-- from one circuit comes another, in which literals stand
pub record Stands (old new : List Node) (lits : List Lit) : Type 0 where
  pub circuit : IsCircuit new
  pub grows : Grows old new
  pub there : AreThere new lits

same : (ns : List Node) (lits : List Lit) → IsCircuit ns → AreThere ns lits → Stands ns ns lits
same ns lits h t = record { circuit = h; grows = Grows-refl ns; there = t }

-- one after another
pub both_stand : (old mid new : List Node) (xs ys : List Lit) → Stands old mid xs → Stands mid new ys → Stands old new (xs ++ ys)
both_stand old mid new xs ys p q = record {
  circuit = q.circuit;
  grows = Grows-trans old mid new p.grows q.grows;
  there = AreThere-append new xs ys (AreThere-later mid new xs q.grows p.there) q.there;
}

module _ (which : Lit) where
  unless : (ns : List Node) (a b : Lit) (t : Bool) → IsCircuit ns → which.node < length ns → a.node < length ns → b.node < length ns → Stands ns (unless_same ns which a b t).nodes ((unless_same ns which a b t).lit ∷ [])
  unless ns a b true h w p q = same ns (a ∷ []) h (p, tt)
  unless ns a b false h w p q =
      let m = choice-makes ns h a b _ _ (itself ns a p) (itself ns b q) which _ (itself ns which w) in
      record { circuit = m.circuit; grows = m.grows; there = (m.there, tt) }

  lit_stands : (ns : List Node) (a b : Lit) → IsCircuit ns → which.node < length ns → a.node < length ns → b.node < length ns → Stands ns (merged_lit ns which a b).nodes ((merged_lit ns which a b).lit ∷ [])
  unfolding merged_lit
  lit_stands ns a b h w p q = unless ns a b (same_lit a b) h w p q

  longer : (old new : List Node) → Grows old new → which.node < length old → which.node < length new
  longer old new g w = omega (arith, w, Grows-length old new g)

  lits_stand : (ns : List Node) (xs ys : List Lit) → IsCircuit ns → which.node < length ns → AreThere ns xs → AreThere ns ys → Stands ns (merged_lits ns which xs ys).nodes (merged_lits ns which xs ys).lits
  unfolding merged_lits
  lits_stand ns [] ys h w p q = same ns [] h tt
  lits_stand ns (x ∷ xs) [] h w p q = same ns [] h tt
  lits_stand ns (x ∷ xs) (y ∷ ys) h w p q =
      let m = merged_lit ns which x y in
      let one = lit_stands ns x y h w p.0 q.0 in
      let rest = lits_stand m.nodes xs ys one.circuit (longer ns m.nodes one.grows w) (AreThere-later ns m.nodes xs one.grows p.1) (AreThere-later ns m.nodes ys one.grows q.1) in
      both_stand ns m.nodes (merged_lits m.nodes which xs ys).nodes (m.lit ∷ []) (merged_lits m.nodes which xs ys).lits one rest

  value_stands : (ns : List Node) (x y : SymValue) → IsCircuit ns → which.node < length ns → AreThere ns (lits_of x) → AreThere ns (lits_of y) → Stands ns (merged_value ns which x y).nodes (lits_of (merged_value ns which x y).value)
  unfolding merged_value
  value_stands ns (Word a) (Word b) h w p q = lits_stand ns a.bits b.bits h w p q
  value_stands ns (Word a) (Pointer o c) h w p q = same ns a.bits h p
  value_stands ns (Pointer o c) (Word b) h w p q = same ns (o.bits ++ c.bits) h p
  value_stands ns (Pointer o c) (Pointer r d) h w p q =
      let m = merged_lits ns which o.bits r.bits in
      let one = lits_stand ns o.bits r.bits h w (there_front ns o.bits c.bits p) (there_front ns r.bits d.bits q) in
      let two = lits_stand m.nodes c.bits d.bits one.circuit (longer ns m.nodes one.grows w) (AreThere-later ns m.nodes c.bits one.grows (there_back ns o.bits c.bits p)) (AreThere-later ns m.nodes d.bits one.grows (there_back ns r.bits d.bits q)) in
      both_stand ns m.nodes (merged_lits m.nodes which c.bits d.bits).nodes m.lits (merged_lits m.nodes which c.bits d.bits).lits one two

  pub values_stand : (ns : List Node) (xs ys : List SymValue) → IsCircuit ns → which.node < length ns → AreThere ns (all_lits xs) → AreThere ns (all_lits ys) → Stands ns (merged_values ns which xs ys).nodes (all_lits (merged_values ns which xs ys).values)
  unfolding merged_values
  values_stand ns [] ys h w p q = same ns [] h tt
  values_stand ns (x ∷ xs) [] h w p q = same ns [] h tt
  values_stand ns (x ∷ xs) (y ∷ ys) h w p q =
      let m = merged_value ns which x y in
      let one = value_stands ns x y h w (there_front ns (lits_of x) (all_lits xs) p) (there_front ns (lits_of y) (all_lits ys) q) in
      let rest = values_stand m.nodes xs ys one.circuit (longer ns m.nodes one.grows w) (AreThere-later ns m.nodes (all_lits xs) one.grows (there_back ns (lits_of x) (all_lits xs) p)) (AreThere-later ns m.nodes (all_lits ys) one.grows (there_back ns (lits_of y) (all_lits ys) q)) in
      both_stand ns m.nodes (merged_values m.nodes which xs ys).nodes (lits_of m.value) (all_lits (merged_values m.nodes which xs ys).values) one rest

  pub record StoreStands (ns new : List Node) (s : LitStore) : Type 0 where
    pub circuit : IsCircuit new
    pub grows : Grows ns new
    pub there : IsStoreThere new s

  pub store_stands : (ns : List Node) (s t : LitStore) → IsCircuit ns → which.node < length ns → IsStoreThere ns s → IsStoreThere ns t → StoreStands ns (merged_store ns which s t).nodes (merged_store ns which s t).store
  unfolding merged_store
  store_stands ns s t h w p q =
      let r = merged_values ns which s.registers t.registers in
      let one = values_stand ns s.registers t.registers h w p.registers q.registers in
      let c = merged_values r.nodes which s.cells t.cells in
      let two = values_stand r.nodes s.cells t.cells one.circuit (longer ns r.nodes one.grows w) (AreThere-later ns r.nodes (all_lits s.cells) one.grows p.cells) (AreThere-later ns r.nodes (all_lits t.cells) one.grows q.cells) in
      record {
        circuit = two.circuit;
        grows = Grows-trans ns r.nodes c.nodes one.grows two.grows;
        there = record { registers = AreThere-later r.nodes c.nodes (all_lits r.values) two.grows one.there; cells = two.there };
      }
