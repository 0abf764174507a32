-- Code without a place, a field or an operation that may trap ends in a trap only by a call.
use Rattle.std.proofs.Common.{◌≡◌, ℕ, Bool, true, false, ◌&&◌, List, [], ◌∷◌, ◌++◌, map, Option, Some, None, refl, sym, ap, ◌∙◌, subst, inl}
use Rattle.std.specs.Prelude.{Result, Ok, Err}
use Rattle.std.specs.List.{AllByRecursion}
use Rattle.core_ir.proofs.FieldsMet.{set_nodes, if_nodes, seq_nodes}
use Rattle.core_ir.proofs.Folds.{Both, both_folds}
use Rattle.core_ir.proofs.Nodes.{among_right}
use Rattle.core_ir.proofs.Runs.{all_append, all_front, all_back}
use Rattle.core_ir.specs.Calls.{Among, joined}
use Rattle.core_ir.specs.Meaning.{End, Trapped, Returned, Request, Answers, Flow, Goes, Over, Waits, Step, followed, in_order, answered, choice, is_true, request_of, Setting, node, does, set_register}
use Rattle.core_ir.specs.Nodes.{CodeNode, node_nodes, nodes_in, all_true, node_goes_on, goes_on}
use Rattle.core_ir.specs.Operations.{number_result, on_numbers, value_of}
use Rattle.core_ir.specs.Places.{State, register}
use Rattle.core_ir.specs.declared.cores.CoreObject.{CoreObject}
use Rattle.core_ir.specs.declared.units.Code.{Code}
use Rattle.core_ir.specs.declared.units.Code.TheFolds.{fold-roll-Code, map-Code}
use Rattle.core_ir.specs.declared.units.Code.TheOpen.{Code-F}
use Rattle.core_ir.specs.declared.units.Code.TheVariants.{Seq, Set, Call, If, Stop, rolls-Seq, rolls-Call, rolls-Stop}
use Rattle.core_ir.specs.declared.units.CoreOp.{CoreOp}
use Rattle.core_ir.specs.declared.units.CoreOp.TheVariants.{Const, Copy, Unary, Binary, Convert, Sum, Field, Same, IsNull}
use Rattle.rvt_num.specs.Number.{Number}
use Rattle.rvt_num.specs.Operations.{trap_of, unless_trapped, number_of}
use Rattle.rvt_num.specs.declared.operations.BinOp.{BinOp}
use Rattle.rvt_num.specs.declared.values.Trap.{Trap}
use Rattle.rvt_num.specs.declared.values.Value.{Value}
use Rattle.rvt_num.specs.declared.values.Value.TheVariants.{Num, Null, At}

-- ---- nodes that trap at most by a call

abbrev pub IsPlainOp : CoreOp → Type 0
IsPlainOp (Const v) = Prim.Unit {0}
IsPlainOp (Copy r) = Prim.Unit {0}
IsPlainOp (Binary op l r) = (a b : Number) → trap_of op a b ≡ None
IsPlainOp _ = ⊥

abbrev pub IsPlain : CodeNode → Type 0
IsPlain (Code-F.Seq ps) = Prim.Unit {0}
IsPlain (Code-F.Set r op) = IsPlainOp op
IsPlain (Code-F.Load r s) = ⊥
IsPlain (Code-F.Store s r) = ⊥
IsPlain (Code-F.Call u ins outs) = Prim.Unit {0}
IsPlain (Code-F.If r a b) = Prim.Unit {0}
IsPlain (Code-F.Stop rs) = Prim.Unit {0}
IsPlain (Code-F.Fail t) = ⊥

ok_err : (v : Value) (t : Trap) → ◌≡◌ {A = Result Value Trap} (Ok v) (Err t) → ⊥
ok_err v t e = cc

plain_numbers : (op : BinOp) (v w : Value) → ((a b : Number) → trap_of op a b ≡ None) → (t : Trap) → on_numbers op v w ≡ Err t → ⊥
plain_numbers op (Num a) (Num b) h t e =
    ok_err (Num (number_of op a b)) t (sym (ap (λ o. number_result (unless_trapped o (number_of op a b))) (h a b)) ∙ e)
plain_numbers op (Num a) Null h t e = ok_err Null t e
plain_numbers op (Num a) (At o c) h t e = ok_err Null t e
plain_numbers op Null w h t e = ok_err Null t e
plain_numbers op (At o c) w h t e = ok_err Null t e

plain_value : (objects : List CoreObject) (rs : List Value) (op : CoreOp) → IsPlainOp op → (t : Trap) → value_of objects rs op ≡ Err t → ⊥
plain_value objects rs (Const v) h t e = ok_err v t e
plain_value objects rs (Copy r) h t e = ok_err (register rs r) t e
plain_value objects rs (Unary op r) h t e = absurd h
plain_value objects rs (Binary op l r) h t e = plain_numbers op (register rs l) (register rs r) h t e
plain_value objects rs (Convert k r) h t e = absurd h
plain_value objects rs (Sum p n cells) h t e = absurd h
plain_value objects rs (Field p cells) h t e = absurd h
plain_value objects rs (Same a b) h t e = absurd h
plain_value objects rs (IsNull p) h t e = absurd h

goes_over : (s : State) (e : End) → Goes s ≡ Over e → ⊥
goes_over s e h = cc

set_goes : (s : State) (r : ℕ) (t : Trap) (v : Result Value Trap) → (v ≡ Err t → ⊥) → set_register s r v ≡ Over (Trapped t) → ⊥
set_goes s r t (Ok v) h e = goes_over _ _ e
set_goes s r t (Err x) h e = h (ap Err (same_trap x t e))
  where
    same_trap : (x t : Trap) → Over (Trapped x) ≡ Over (Trapped t) → x ≡ t
    same_trap = λ x t e. cc

-- ---- runs

-- the call that ended in the trap
pub record Blamed (a : Answers) (t : Trap) (calls : List Request) : Type 0 where
  pub call : Request
  pub is_there : Among call calls
  pub traps : a call ≡ Some (Trapped t)

module _ (at : Setting) (a : Answers) where
  abbrev IsBlamed : Step → List CodeNode → Type 0
  IsBlamed m ns = AllByRecursion IsPlain ns → (s : State) (t : Trap) → (m s).flow ≡ Over (Trapped t) → Blamed a t (m s).calls

  blamed_later : (t : Trap) (cs ds : List Request) → Blamed a t ds → Blamed a t (cs ++ ds)
  blamed_later t cs ds b = record { call = b.call; is_there = among_right b.call cs ds b.is_there; traps = b.traps }

  blamed_followed : (t : Trap) (cs : List Request) (f : Flow) (next : Step) → (f ≡ Over (Trapped t) → Blamed a t cs) → ((s : State) → (next s).flow ≡ Over (Trapped t) → Blamed a t (next s).calls) → (followed cs f next).flow ≡ Over (Trapped t) → Blamed a t (followed cs f next).calls
  blamed_followed t cs (Goes s) next h n e = blamed_later t cs (next s).calls (n s e)
  blamed_followed t cs (Over x) next h n e = h e
  blamed_followed t cs Waits next h n e = h e

  blamed_parts : (ys : List (Both Step (List CodeNode) IsBlamed)) → AllByRecursion IsPlain (joined (map (λ y. y.right) ys)) → (s : State) (t : Trap) → (in_order (map (λ y. y.left) ys) s).flow ≡ Over (Trapped t) → Blamed a t (in_order (map (λ y. y.left) ys) s).calls
  blamed_parts [] p s t e = absurd (goes_over _ _ e)
  blamed_parts (y ∷ ys) p s t e =
      let rest = joined (map (λ y. y.right) ys) in
      blamed_followed t (y.left s).calls (y.left s).flow (in_order (map (λ y. y.left) ys)) (y.related (all_front IsPlain y.right rest p) s t) (λ u. blamed_parts ys (all_back IsPlain y.right rest p) u t) e

  blamed_answer : (s : State) (outs : List ℕ) (q : Request) (t : Trap) (o : Option End) → a q ≡ o → answered s outs o ≡ Over (Trapped t) → Blamed a t (q ∷ [])
  blamed_answer s outs q t None h e = absurd (waits_over _ e)
    where
      waits_over : (x : End) → Waits ≡ Over x → ⊥
      waits_over = λ x e. cc
  blamed_answer s outs q t (Some (Trapped x)) h e = record { call = q; is_there = inl refl; traps = h ∙ ap (λ y. Some (Trapped y)) (same_trap x t e) }
    where
      same_trap : (x t : Trap) → Over (Trapped x) ≡ Over (Trapped t) → x ≡ t
      same_trap = λ x t e. cc
  blamed_answer s outs q t (Some (Returned rs st)) h e = absurd (goes_over _ _ e)

  blamed_choice : (b : Bool) (m n : Step) (s : State) (t : Trap) → ((m s).flow ≡ Over (Trapped t) → Blamed a t (m s).calls) → ((n s).flow ≡ Over (Trapped t) → Blamed a t (n s).calls) → (choice b m n s).flow ≡ Over (Trapped t) → Blamed a t (choice b m n s).calls
  blamed_choice true m n s t h k e = h e
  blamed_choice false m n s t h k e = k e

  blamed_node : (y : Code-F (Both Step (List CodeNode) IsBlamed)) → IsBlamed (node at a (map-Code _ Step (λ y. y.left) y)) (node_nodes (map-Code _ (List CodeNode) (λ y. y.right) y))
  blamed_node (Code-F.Seq ys) p s t e = blamed_parts ys p.1 s t e
  blamed_node (Code-F.Set r op) p s t e = absurd (set_goes s r t (value_of at.objects s.registers op) (plain_value at.objects s.registers op p.0 t) e)
  blamed_node (Code-F.Load r spot) p s t e = absurd p.0
  blamed_node (Code-F.Store spot r) p s t e = absurd p.0
  blamed_node (Code-F.Call u ins outs) p s t e = blamed_answer s outs (request_of s u ins) t (a (request_of s u ins)) refl e
  blamed_node (Code-F.If r x y) p s t e =
      blamed_choice (is_true (register s.registers r)) x.left y.left s t (x.related (all_front IsPlain x.right y.right p.1) s t) (y.related (all_back IsPlain x.right y.right p.1) s t) e
  blamed_node (Code-F.Stop rs) p s t e = absurd (returned_trapped _ _ t e)
    where
      returned_trapped : (rs st : List Value) (t : Trap) → Over (Returned rs st) ≡ Over (Trapped t) → ⊥
      returned_trapped = λ rs st t e. cc
  blamed_node (Code-F.Fail x) p s t e = absurd p.0

  pub blamed : (c : Code) → AllByRecursion IsPlain (nodes_in c) → (s : State) (t : Trap) → (does at a c s).flow ≡ Over (Trapped t) → Blamed a t (does at a c s).calls
  blamed = both_folds Step (List CodeNode) (node at a) node_nodes IsBlamed blamed_node

-- ---- what holds of all nodes, form by form

module _ (P : CodeNode → Type 0) where
  pub all_set : (r : ℕ) (op : CoreOp) → P (Code-F.Set r op) → AllByRecursion P (nodes_in (Set r op))
  all_set r op h = subst (AllByRecursion P) (sym (set_nodes r op)) (h, tt)

  pub all_call : (u : ℕ) (ins outs : List ℕ) → P (Code-F.Call u ins outs) → AllByRecursion P (nodes_in (Call u ins outs))
  all_call u ins outs h =
      subst (AllByRecursion P) (sym (ap nodes_in (sym (rolls-Call u ins outs)) ∙ fold-roll-Code (List CodeNode) node_nodes (Code-F.Call u ins outs))) (h, tt)

  pub all_stop : (rs : List ℕ) → P (Code-F.Stop rs) → AllByRecursion P (nodes_in (Stop rs))
  all_stop rs h =
      subst (AllByRecursion P) (sym (ap nodes_in (sym (rolls-Stop rs)) ∙ fold-roll-Code (List CodeNode) node_nodes (Code-F.Stop rs))) (h, tt)

  pub all_if : (r : ℕ) (c d : Code) → P (Code-F.If r tt tt) → AllByRecursion P (nodes_in c) → AllByRecursion P (nodes_in d) → AllByRecursion P (nodes_in (If r c d))
  all_if r c d h k l = subst (AllByRecursion P) (sym (if_nodes r c d)) (h, all_append P (nodes_in c) (nodes_in d) k l)

  all_joined : (parts : List Code) → AllByRecursion (λ c. AllByRecursion P (nodes_in c)) parts → AllByRecursion P (joined (map nodes_in parts))
  all_joined [] h = tt
  all_joined (c ∷ parts) h = all_append P (nodes_in c) (joined (map nodes_in parts)) h.0 (all_joined parts h.1)

  pub all_seq : (parts : List Code) → ((ps : List (Prim.Unit {0})) → P (Code-F.Seq ps)) → AllByRecursion (λ c. AllByRecursion P (nodes_in c)) parts → AllByRecursion P (nodes_in (Seq parts))
  all_seq parts h k = subst (AllByRecursion P) (sym (seq_nodes parts)) (h _, all_joined parts k)

-- ---- code that ends in a return isn't left at its end

and_false : (b : Bool) → (b && false) ≡ false
and_false true = refl
and_false false = refl

pub stop_ends : (rs : List ℕ) → goes_on (Stop rs) ≡ false
stop_ends rs = ap goes_on (sym (rolls-Stop rs)) ∙ fold-roll-Code Bool node_goes_on (Code-F.Stop rs)

last_false : (bs : List Bool) → all_true (bs ++ false ∷ []) ≡ false
last_false [] = refl
last_false (b ∷ bs) = ap (λ c. b && c) (last_false bs) ∙ and_false b

map_last : (parts : List Code) (c : Code) → map goes_on (parts ++ c ∷ []) ≡ map goes_on parts ++ goes_on c ∷ []
map_last [] c = refl
map_last (p ∷ parts) c = ap (λ bs. goes_on p ∷ bs) (map_last parts c)

pub seq_ends : (parts : List Code) (c : Code) → goes_on c ≡ false → goes_on (Seq (parts ++ c ∷ [])) ≡ false
seq_ends parts c h =
    ap goes_on (sym (rolls-Seq (parts ++ c ∷ [])))
    ∙ fold-roll-Code Bool node_goes_on (Code-F.Seq (parts ++ c ∷ []))
    ∙ ap all_true (map_last parts c ∙ ap (λ b. map goes_on parts ++ b ∷ []) h)
    ∙ last_false (map goes_on parts)
