-- A field is met only where one of the code's nodes moves a pointer on.
use Rattle.std.proofs.Common.{◌≡◌, ℕ, List, [], ◌∷◌, ◌++◌, refl, sym, ap, ◌∙◌, subst, inl, inr}
use Rattle.std.specs.Prelude.{map}
use Rattle.core_ir.proofs.Nodes.{among_left, among_right}
use Rattle.core_ir.specs.Calls.{Among, joined}
use Rattle.core_ir.specs.Fields.{MeetsField, here, in_first, in_second, in_part}
use Rattle.core_ir.specs.Meaning.{Answers, Setting}
use Rattle.core_ir.specs.Nodes.{CodeNode, node_nodes, nodes_in}
use Rattle.core_ir.specs.Places.{State}
use Rattle.core_ir.specs.declared.units.Code.{Code}
use Rattle.core_ir.specs.declared.units.Code.TheFolds.{fold-roll-Code}
use Rattle.core_ir.specs.declared.units.Code.TheOpen.{Code-F}
use Rattle.core_ir.specs.declared.units.Code.TheVariants.{Seq, Set, If, rolls-Seq, rolls-Set, rolls-If}
use Rattle.core_ir.specs.declared.units.CoreOp.{CoreOp}
use Rattle.core_ir.specs.declared.units.CoreOp.TheVariants.{Field}
use Rattle.rvt_num.specs.declared.values.Value.{Value}

pub set_nodes : (r : ℕ) (op : CoreOp) → nodes_in (Set r op) ≡ Code-F.Set r op ∷ []
set_nodes r op = ap nodes_in (sym (rolls-Set r op)) ∙ fold-roll-Code (List CodeNode) node_nodes (Code-F.Set r op)

pub if_nodes : (r : ℕ) (one two : Code) → nodes_in (If r one two) ≡ Code-F.If r tt tt ∷ (nodes_in one ++ nodes_in two)
if_nodes r one two = ap nodes_in (sym (rolls-If r one two)) ∙ fold-roll-Code (List CodeNode) node_nodes (Code-F.If r one two)

pub seq_nodes : (parts : List Code) → nodes_in (Seq parts) ≡ node_nodes (Code-F.Seq (map nodes_in parts))
seq_nodes parts = ap nodes_in (sym (rolls-Seq parts)) ∙ fold-roll-Code (List CodeNode) node_nodes (Code-F.Seq parts)

-- a node of a part is one of the whole
among_part : (n : CodeNode) (before after : List Code) (part : Code) → Among n (nodes_in part) → Among n (joined (map nodes_in (before ++ part ∷ after)))
among_part n [] after part h = among_left n (nodes_in part) (joined (map nodes_in after)) h
among_part n (b ∷ before) after part h = among_right n (nodes_in b) (joined (map nodes_in (before ++ part ∷ after))) (among_part n before after part h)

-- the node at which a field is met
pub record FieldNode (code : Code) (cells : ℕ) : Type 0 where
  pub target : ℕ
  pub pointer : ℕ
  pub is_there : Among (Code-F.Set target (Field pointer cells)) (nodes_in code)

module _ (at : Setting) (answers : Answers) where
  pub met_there : (code : Code) (s : State) (v : Value) (cells : ℕ) → MeetsField at answers code s v cells → FieldNode code cells
  met_there code s v cells (here s' r p c) =
      record { target = r; pointer = p; is_there = subst (Among (Code-F.Set r (Field p c))) (sym (set_nodes r (Field p c))) (inl refl) }
  met_there code s v cells (in_first s' r one two v' c e m) =
      let f = met_there one s' v' c m in
      let n : CodeNode = Code-F.Set f.target (Field f.pointer c) in
      record { target = f.target; pointer = f.pointer; is_there = subst (Among n) (sym (if_nodes r one two)) (inr (among_left n (nodes_in one) (nodes_in two) f.is_there)) }
  met_there code s v cells (in_second s' r one two v' c e m) =
      let f = met_there two s' v' c m in
      let n : CodeNode = Code-F.Set f.target (Field f.pointer c) in
      record { target = f.target; pointer = f.pointer; is_there = subst (Among n) (sym (if_nodes r one two)) (inr (among_right n (nodes_in one) (nodes_in two) f.is_there)) }
  met_there code s v cells (in_part s' t before after part v' c e m) =
      let f = met_there part t v' c m in
      let n : CodeNode = Code-F.Set f.target (Field f.pointer c) in
      record { target = f.target; pointer = f.pointer; is_there = subst (Among n) (sym (seq_nodes (before ++ part ∷ after))) (inr (among_part n before after part f.is_there)) }
