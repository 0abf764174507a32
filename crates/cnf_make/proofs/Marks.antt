-- The operands of a marked gate that are gates are marked.
use Rattle.std.proofs.Common.{◌≡◌, ℕ, zero, suc, ◌-◌, ◌<◌, ◌≤◌, Bool, true, false, cond, List, [], ◌∷◌, length, set, get_or, Some, None, refl, sym, ap, ◌∙◌, arith, ◌⊎◌, inl, inr, ⊎_elim, length-set, subst}
use Rattle.std.specs.Prelude.{slice_get, is_some, replicate, nat_lt}
use Rattle.std.proofs.lemmas.Bool.{cases_Bool, ltb-true, ltb-false}
use Rattle.std.proofs.lemmas.List.{length-replicate}
use Rattle.std.proofs.lemmas.Option.{get_or_from_slice_get}
use Rattle.aig_build.specs.declared.lits.Lit.{Lit}
use Rattle.aig_build.specs.Circuits.{Node, IsCircuit}
use Rattle.cnf_make.specs.Needed.{node_at, is_marked, marked, operands_marked, spread_from, spread_below, needed}

set_keeps : (marks : List Bool) (i m : ℕ) → get_or marks m false ≡ true → get_or (set marks i true) m false ≡ true
set_keeps [] i m e = e
set_keeps (x ∷ xs) zero zero e = refl
set_keeps (x ∷ xs) zero (suc m) e = e
set_keeps (x ∷ xs) (suc i) zero e = e
set_keeps (x ∷ xs) (suc i) (suc m) e = set_keeps xs i m e

set_above : (marks : List Bool) (i m : ℕ) → i < m → get_or (set marks i true) m false ≡ get_or marks m false
set_above [] i m h = refl
set_above (x ∷ xs) zero zero h = absurd (omega arith)
set_above (x ∷ xs) zero (suc m) h = refl
set_above (x ∷ xs) (suc i) zero h = absurd (omega arith)
set_above (x ∷ xs) (suc i) (suc m) h = set_above xs i m (omega arith)

set_itself : (marks : List Bool) (i : ℕ) → i < length marks → get_or (set marks i true) i false ≡ true
set_itself [] i h = absurd (omega arith)
set_itself (x ∷ xs) zero h = refl
set_itself (x ∷ xs) (suc i) h = set_itself xs i (omega arith)

pub below_or_here : (n k : ℕ) → n < suc k → (n < k) ⊎ (n ≡ k)
below_or_here n k h = ⊎_elim (λ t. inl (ltb-true n k t)) (λ f. inr (let le = ltb-false n k f in omega arith)) (cases_Bool (nat_lt n k))

pub node_there : (nodes : List Node) (n : ℕ) (g : Lit × Lit) → node_at nodes n ≡ Some g → slice_get nodes n ≡ Some (Some g)
node_there [] n g e = cc
node_there (x ∷ xs) zero g e = ap Some e
node_there (x ∷ xs) (suc n) g e = node_there xs n g e

pub node_below : (nodes : List Node) (n : ℕ) (g : Lit × Lit) → node_at nodes n ≡ Some g → n < length nodes
node_below [] n g e = cc
node_below (x ∷ xs) zero g e = omega arith
node_below (x ∷ xs) (suc n) g e = omega (arith, node_below xs n g e)

either_keeps : (b : Bool) (marks : List Bool) (i m : ℕ) → is_marked marks m ≡ true → is_marked (cond b (set marks i true) marks) m ≡ true
either_keeps false marks i m e = e
either_keeps true marks i m e = set_keeps marks i m e

either_above : (b : Bool) (marks : List Bool) (i m : ℕ) → i < m → is_marked (cond b (set marks i true) marks) m ≡ is_marked marks m
either_above false marks i m h = refl
either_above true marks i m h = set_above marks i m h

either_length : (b : Bool) (marks : List Bool) (i : ℕ) → length (cond b (set marks i true) marks) ≡ length marks
either_length false marks i = refl
either_length true marks i = length-set marks i true

module _ (nodes : List Node) where
  pub marked_length : (marks : List Bool) (lit : Lit) → length (marked nodes marks lit) ≡ length marks
  marked_length marks lit = either_length (is_some (node_at nodes lit.node)) marks lit.node

  marked_itself : (b : Bool) (marks : List Bool) (i : ℕ) → i < length marks → b ≡ true → is_marked (cond b (set marks i true) marks) i ≡ true
  marked_itself true marks i h e = set_itself marks i h
  marked_itself false marks i h e = cc

  operands_keep : (marks : List Bool) (x : Node) (m : ℕ) → is_marked marks m ≡ true → is_marked (operands_marked nodes marks x) m ≡ true
  operands_keep marks None m e = e
  operands_keep marks (Some g) m e =
      either_keeps (is_some (node_at nodes g.1.node)) _ g.1.node m (either_keeps (is_some (node_at nodes g.0.node)) marks g.0.node m e)

  operands_length : (marks : List Bool) (x : Node) → length (operands_marked nodes marks x) ≡ length marks
  operands_length marks None = refl
  operands_length marks (Some g) = marked_length _ g.1 ∙ marked_length marks g.0

  operands_above : (marks : List Bool) (x : Node) (n m : ℕ) → IsCircuit nodes → node_at nodes n ≡ x → n ≤ m → is_marked (operands_marked nodes marks x) m ≡ is_marked marks m
  operands_above marks None n m circuit e h = refl
  operands_above marks (Some g) n m circuit e h =
      let order = circuit.operands n g.0 g.1 (node_there nodes n g e) in
      either_above (is_some (node_at nodes g.1.node)) _ g.1.node m (omega arith) ∙ either_above (is_some (node_at nodes g.0.node)) marks g.0.node m (omega arith)

  choice_keeps : (b : Bool) (marks : List Bool) (x : Node) (m : ℕ) → is_marked marks m ≡ true → is_marked (cond b (operands_marked nodes marks x) marks) m ≡ true
  choice_keeps false marks x m e = e
  choice_keeps true marks x m e = operands_keep marks x m e

  choice_length : (b : Bool) (marks : List Bool) (x : Node) → length (cond b (operands_marked nodes marks x) marks) ≡ length marks
  choice_length false marks x = refl
  choice_length true marks x = operands_length marks x

  choice_above : (b : Bool) (marks : List Bool) (n m : ℕ) → IsCircuit nodes → n ≤ m → is_marked (cond b (operands_marked nodes marks (node_at nodes n)) marks) m ≡ is_marked marks m
  choice_above false marks n m circuit h = refl
  choice_above true marks n m circuit h = operands_above marks (node_at nodes n) n m circuit refl h

  pub spread_from_length : (marks : List Bool) (n : ℕ) → length (spread_from nodes marks n) ≡ length marks
  spread_from_length marks n = choice_length (is_marked marks n) marks (node_at nodes n)

  below_keeps : (n : ℕ) (marks : List Bool) (m : ℕ) → is_marked marks m ≡ true → is_marked (spread_below nodes n marks) m ≡ true
  below_keeps zero marks m e = e
  below_keeps (suc n) marks m e = below_keeps n (spread_from nodes marks n) m (choice_keeps (is_marked marks n) marks (node_at nodes n) m e)

  below_above : (n : ℕ) (marks : List Bool) (m : ℕ) → IsCircuit nodes → n ≤ m → is_marked (spread_below nodes n marks) m ≡ is_marked marks m
  below_above zero marks m circuit h = refl
  below_above (suc n) marks m circuit h =
      below_above n (spread_from nodes marks n) m circuit (omega arith) ∙ choice_above (is_marked marks n) marks n m circuit (omega arith)

  pub below_length : (n : ℕ) (marks : List Bool) → length (spread_below nodes n marks) ≡ length marks
  below_length zero marks = refl
  below_length (suc n) marks = below_length n (spread_from nodes marks n) ∙ spread_from_length marks n

  pub needed_length : (bad : Lit) → length (needed nodes bad) ≡ length nodes
  unfolding needed
  needed_length bad = below_length (length nodes) _ ∙ marked_length _ bad ∙ length-replicate (length nodes) false

  -- where the operand is a gate, it is marked
  abbrev pub Reached : List Bool → Lit → Type 0
  Reached marks lit = is_some (node_at nodes lit.node) ≡ true → is_marked marks lit.node ≡ true

  module _ (circuit : IsCircuit nodes) where
    here : (b : Bool) (n : ℕ) (marks : List Bool) (x y : Lit) → length marks ≡ length nodes → node_at nodes n ≡ Some (x, y) → b ≡ true
        → Reached (cond b (operands_marked nodes marks (Some (x, y))) marks) x × Reached (cond b (operands_marked nodes marks (Some (x, y))) marks) y
    here false n marks x y size e t = cc
    here true n marks x y size e t =
        let order = circuit.operands n x y (node_there nodes n (x, y) e) in
        let below = node_below nodes n (x, y) e in (
          λ is. either_keeps (is_some (node_at nodes y.node)) _ y.node x.node (marked_itself (is_some (node_at nodes x.node)) marks x.node (omega arith) is),
          λ is. marked_itself (is_some (node_at nodes y.node)) _ y.node (omega (arith, marked_length marks x)) is,
        )

    pub closed : (k : ℕ) (marks : List Bool) (n : ℕ) (x y : Lit) → n < k → length marks ≡ length nodes → node_at nodes n ≡ Some (x, y) → is_marked (spread_below nodes k marks) n ≡ true
        → Reached (spread_below nodes k marks) x × Reached (spread_below nodes k marks) y
    closed zero marks n x y h size e t = absurd (omega arith)
    closed (suc k) marks n x y h size e t =
        let rest = below_or_here n k h in
        ⊎_elim
        (λ less. closed k (spread_from nodes marks k) n x y less (spread_from_length marks k ∙ size) e t)
        (λ same.
        let at = subst (λ j. node_at nodes j ≡ Some (x, y)) same e in
        let was : is_marked marks k ≡ true = sym (below_above k (spread_from nodes marks k) k circuit (omega arith) ∙ choice_above (is_marked marks k) marks k k circuit (omega arith)) ∙ ap (is_marked (spread_below nodes (suc k) marks)) (sym same) ∙ t in
        let both = here (is_marked marks k) k marks x y size at was in
        let step : spread_from nodes marks k ≡ cond (is_marked marks k) (operands_marked nodes marks (Some (x, y))) marks = ap (λ z. cond (is_marked marks k) (operands_marked nodes marks z) marks) at in (
          λ is. below_keeps k (spread_from nodes marks k) x.node (ap (λ ms. is_marked ms x.node) step ∙ both.0 is),
          λ is. below_keeps k (spread_from nodes marks k) y.node (ap (λ ms. is_marked ms y.node) step ∙ both.1 is),
        ))
        rest

pub needed_closed : (nodes : List Node) (bad : Lit) (n : ℕ) (x y : Lit) → IsCircuit nodes → node_at nodes n ≡ Some (x, y) → is_marked (needed nodes bad) n ≡ true
    → Reached nodes (needed nodes bad) x × Reached nodes (needed nodes bad) y
unfolding needed
needed_closed nodes bad n x y circuit e t =
    closed nodes circuit (length nodes) _ n x y (node_below nodes n (x, y) e) (marked_length nodes _ bad ∙ length-replicate (length nodes) false) e t

-- the loop from the last node down
pub down_step : (nodes : List Node) (marks : List Bool) (n : ℕ) → 0 < n → spread_below nodes n marks ≡ spread_below nodes (n - 1) (spread_from nodes marks (n - 1))
down_step nodes marks zero h = absurd (omega arith)
down_step nodes marks (suc n) h = let e : suc n - 1 ≡ n = omega arith in rw e refl

pub down_skip : (nodes : List Node) (marks : List Bool) (n : ℕ) → 0 < n → is_marked marks (n - 1) ≡ false → spread_below nodes (n - 1) marks ≡ spread_below nodes n marks
down_skip nodes marks n h e = sym (down_step nodes marks n h ∙ ap (λ b. spread_below nodes (n - 1) (cond b (operands_marked nodes marks (node_at nodes (n - 1))) marks)) e)

pub down_node : (nodes : List Node) (marks : List Bool) (n : ℕ) (x : Node) → 0 < n → is_marked marks (n - 1) ≡ true → slice_get nodes (n - 1) ≡ Some x → spread_below nodes (n - 1) (operands_marked nodes marks x) ≡ spread_below nodes n marks
down_node nodes marks n x h e g =
    sym (down_step nodes marks n h ∙ ap (λ b. spread_below nodes (n - 1) (cond b (operands_marked nodes marks (node_at nodes (n - 1))) marks)) e
    ∙ ap (λ z. spread_below nodes (n - 1) (operands_marked nodes marks z)) (get_or_from_slice_get nodes (n - 1) x None g))

pub down_begun : (nodes : List Node) (bad : Lit) (n : ℕ) (first marks : List Bool) → n ≡ length nodes → first ≡ replicate n false → marks ≡ marked nodes first bad → spread_below nodes n marks ≡ needed nodes bad
unfolding needed
down_begun nodes bad n first marks e f m =
    ap (spread_below nodes n) (m ∙ ap (λ ms. marked nodes ms bad) f) ∙ (λ i. spread_below nodes (e i) (marked nodes (replicate (e i) false) bad))

pub needed_itself : (nodes : List Node) (bad : Lit) → bad.node < length nodes → Reached nodes (needed nodes bad) bad
unfolding needed
needed_itself nodes bad h is =
    below_keeps nodes (length nodes) _ bad.node (marked_itself nodes (is_some (node_at nodes bad.node)) (replicate (length nodes) false) bad.node (omega (arith, length-replicate (length nodes) false)) is)
