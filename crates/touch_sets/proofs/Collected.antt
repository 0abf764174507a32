-- What is collected along code is what its nodes tell.
use Rattle.std.proofs.Common.{◌≡◌, ℕ, suc, ◌+◌, ◌<◌, List, [], ◌∷◌, ◌++◌, length, map, drop, get_or, append_assoc, refl, sym, ap, ◌∙◌, drop-cons, add-one}
use Rattle.std.proofs.lemmas.List.{append-nil}
use Rattle.core_ir.proofs.Folds.{Both, both_folds}
use Rattle.core_ir.specs.Calls.{joined}
use Rattle.core_ir.specs.Nodes.{CodeNode, node_nodes, nodes_in, node_objects, node_types, objects_in, types_in}
use Rattle.core_ir.specs.declared.units.Code.{Code}
use Rattle.core_ir.specs.declared.units.Code.TheFolds.{fold-roll-Code, map-Code}
use Rattle.core_ir.specs.declared.units.Code.TheOpen.{Code-F}
use Rattle.core_ir.specs.declared.units.Code.TheVariants.{Seq, Set, Load, Store, If, rolls-Seq, rolls-Set, rolls-Load, rolls-Store, rolls-If}
use Rattle.core_ir.specs.declared.units.CoreOp.{CoreOp}
use Rattle.core_ir.specs.declared.units.Shape.{Shape}
use Rattle.core_ir.specs.declared.units.Spot.{Spot}
use Rattle.touch_sets.specs.Bodies.{node_collected, collected, collected_all}

module _ (f : CodeNode → List ℕ) where
  joined_append : (ns ms : List CodeNode) → joined (map f (ns ++ ms)) ≡ joined (map f ns) ++ joined (map f ms)
  joined_append [] ms = refl
  joined_append (n ∷ ns) ms = ap (λ xs. f n ++ xs) (joined_append ns ms) ∙ sym (append_assoc (f n) (joined (map f ns)) (joined (map f ms)))

  abbrev Collects : List ℕ → List CodeNode → Type 0
  Collects xs ns = xs ≡ joined (map f ns)

  collect_parts : (ys : List (Both (List ℕ) (List CodeNode) Collects)) → joined (map (λ y. y.left) ys) ≡ joined (map f (joined (map (λ y. y.right) ys)))
  collect_parts [] = refl
  collect_parts (y ∷ ys) =
      ap (λ xs. xs ++ joined (map (λ y. y.left) ys)) y.related
      ∙ ap (λ xs. joined (map f y.right) ++ xs) (collect_parts ys)
      ∙ sym (joined_append y.right (joined (map (λ y. y.right) ys)))

  module _ (of_seq : (ps : List (Prim.Unit {0})) → f (Code-F.Seq ps) ≡ []) (of_if : (r : ℕ) → f (Code-F.If r tt tt) ≡ []) where
    collect_node : (y : Code-F (Both (List ℕ) (List CodeNode) Collects)) → Collects (node_collected f (map-Code _ (List ℕ) (λ y. y.left) y)) (node_nodes (map-Code _ (List CodeNode) (λ y. y.right) y))
    collect_node (Code-F.Seq ys) = collect_parts ys ∙ ap (λ xs. xs ++ joined (map f (joined (map (λ y. y.right) ys)))) (sym (of_seq _))
    collect_node (Code-F.Set r op) = sym (append-nil (f (Code-F.Set r op)))
    collect_node (Code-F.Load r spot) = sym (append-nil (f (Code-F.Load r spot)))
    collect_node (Code-F.Store spot r) = sym (append-nil (f (Code-F.Store spot r)))
    collect_node (Code-F.Call u ins outs) = sym (append-nil (f (Code-F.Call u ins outs)))
    collect_node (Code-F.If r a b) =
        ap (λ xs. xs ++ b.left) a.related
        ∙ ap (λ xs. joined (map f a.right) ++ xs) b.related
        ∙ sym (joined_append a.right b.right)
        ∙ ap (λ xs. xs ++ joined (map f (a.right ++ b.right))) (sym (of_if r))
    collect_node (Code-F.Stop rs) = sym (append-nil (f (Code-F.Stop rs)))
    collect_node (Code-F.Fail t) = sym (append-nil (f (Code-F.Fail t)))

    pub collects : (c : Code) → collected f c ≡ joined (map f (nodes_in c))
    collects = both_folds (List ℕ) (List CodeNode) (node_collected f) node_nodes Collects collect_node

  -- ---- form by form

  pub seq_collected : (parts : List Code) → collected f (Seq parts) ≡ collected_all f parts
  seq_collected parts = ap (collected f) (sym (rolls-Seq parts)) ∙ fold-roll-Code (List ℕ) (node_collected f) (Code-F.Seq parts)

  pub set_collected : (r : ℕ) (op : CoreOp) → collected f (Set r op) ≡ f (Code-F.Set r op)
  set_collected r op = ap (collected f) (sym (rolls-Set r op)) ∙ fold-roll-Code (List ℕ) (node_collected f) (Code-F.Set r op)

  pub load_collected : (r : ℕ) (spot : Spot) → collected f (Load r spot) ≡ f (Code-F.Load r spot)
  load_collected r spot = ap (collected f) (sym (rolls-Load r spot)) ∙ fold-roll-Code (List ℕ) (node_collected f) (Code-F.Load r spot)

  pub store_collected : (spot : Spot) (r : ℕ) → collected f (Store spot r) ≡ f (Code-F.Store spot r)
  store_collected spot r = ap (collected f) (sym (rolls-Store spot r)) ∙ fold-roll-Code (List ℕ) (node_collected f) (Code-F.Store spot r)

  pub if_collected : (r : ℕ) (a b : Code) → collected f (If r a b) ≡ collected f a ++ collected f b
  if_collected r a b = ap (collected f) (sym (rolls-If r a b)) ∙ fold-roll-Code (List ℕ) (node_collected f) (Code-F.If r a b)

  -- the first of the pieces that are left
  pub step_collected : (parts : List Code) (i : ℕ) (x : Code) → x ≡ get_or parts i x → i < length parts → collected_all f (drop i parts) ≡ collected f x ++ collected_all f (drop (i + 1) parts)
  step_collected parts i x e h =
      ap (collected_all f) (drop-cons parts i x h)
      ∙ ap (λ (y : Code). collected f y ++ collected_all f (drop (suc i) parts)) (sym e)
      ∙ ap (λ n. collected f x ++ collected_all f (drop n parts)) (sym (add-one i))

pub objects_collected : (c : Code) → collected node_objects c ≡ objects_in c
objects_collected = collects node_objects (λ ps. refl) (λ r. refl)

pub types_collected : (shapes : List Shape) (c : Code) → collected (node_types shapes) c ≡ types_in shapes c
types_collected shapes = collects (node_types shapes) (λ ps. refl) (λ r. refl)
