-- The variables of different nodes differ, and a gate's is above those of its operands.
use Rattle.std.proofs.Common.{◌≡◌, ◌≢◌, ℕ, zero, suc, ◌+◌, ◌<◌, ◌≤◌, Bool, true, false, cond, List, [], ◌∷◌, length, take, get_or, Some, None, refl, sym, ap, ◌∙◌, arith, ◌⊎◌, inl, inr, ⊎_elim, subst}
use Rattle.std.specs.Prelude.{count_by, is_none, is_some}
use Rattle.std.proofs.lemmas.Bool.{cases_Bool}
use Rattle.std.proofs.lemmas.List.Sums.{count_by_more_yes, sum_by-take-le, count_by-le-length}
use Rattle.aig_build.specs.declared.lits.Lit.{Lit}
use Rattle.aig_build.specs.Circuits.{Node, IsCircuit}
use Rattle.cnf_make.specs.Needed.{node_at, is_marked, needed}
use Rattle.cnf_make.specs.Tseitin.{constants_and_inputs, marked_count, variable_of}
use Rattle.cnf_make.proofs.Marks.{Reached, needed_closed, needed_length, node_below, node_there}

take_less : {A : Type 0} (i j : ℕ) (xs : List A) → i ≤ j → take i (take j xs) ≡ take i xs
take_less zero j xs h = refl
take_less (suc i) zero xs h = absurd (omega arith)
take_less (suc i) (suc j) [] h = refl
take_less (suc i) (suc j) (x ∷ xs) h = ap (λ ys. x ∷ ys) (take_less i j xs (omega arith))

count_mono : {A : Type 0} (p : A → Bool) (xs : List A) (i j : ℕ) → i ≤ j → count_by p (take i xs) ≤ count_by p (take j xs)
count_mono p xs i j h = subst (λ ys. count_by p ys ≤ count_by p (take j xs)) (take_less i j xs h) (sum_by-take-le (λ y. cond (p y) 1 0) (take j xs) i)

pub count_strict : {A : Type 0} (p : A → Bool) (xs : List A) (i j : ℕ) (d : A) → i < j → i < length xs → p (get_or xs i d) ≡ true → count_by p (take i xs) + 1 ≤ count_by p (take j xs)
count_strict p xs i j d h w e =
    let one = count_by_more_yes p xs i d w e in
    let more = count_mono p xs (i + 1) j (omega arith) in
    omega arith

pub count_below : {A : Type 0} (p : A → Bool) (xs : List A) (i : ℕ) (d : A) → i < length xs → p (get_or xs i d) ≡ true → count_by p (take i xs) + 1 ≤ count_by p xs
count_below p xs i d w e =
    let one = count_by_more_yes p xs i d w e in
    let all = sum_by-take-le (λ y. cond (p y) 1 0) xs (i + 1) in
    omega arith

-- a node that is no gate, or is marked
abbrev pub Has : List Node → List Bool → ℕ → Type 0
Has nodes marks n = (is_marked marks n ≡ true) ⊎ ((is_marked marks n ≡ false) × (is_none (node_at nodes n) ≡ true))

module _ (nodes : List Node) (marks : List Bool) where
  pub variable_yes : (n : ℕ) → is_marked marks n ≡ true → variable_of nodes marks n ≡ constants_and_inputs nodes + marked_count (take n marks) + 1
  variable_yes n e = ap (λ b. cond b (constants_and_inputs nodes + marked_count (take n marks) + 1) (constants_and_inputs (take n nodes) + 1)) e

  pub variable_no : (n : ℕ) → is_marked marks n ≡ false → variable_of nodes marks n ≡ constants_and_inputs (take n nodes) + 1
  variable_no n e = ap (λ b. cond b (constants_and_inputs nodes + marked_count (take n marks) + 1) (constants_and_inputs (take n nodes) + 1)) e

  pub variable_positive : (n : ℕ) → 0 < variable_of nodes marks n
  variable_positive n = ⊎_elim (λ t. omega (arith, variable_yes n t)) (λ f. omega (arith, variable_no n f)) (cases_Bool (is_marked marks n))

  pub variable_small : (n : ℕ) → variable_of nodes marks n ≤ length nodes + length marks + 1
  variable_small n =
      let all = count_by-le-length is_none nodes in
      let inputs = sum_by-take-le (λ (y : Node). cond (is_none y) 1 0) nodes n in
      let gates = sum_by-take-le (λ (y : Bool). cond y 1 0) marks n in
      let gates_all = count_by-le-length (λ (y : Bool). y) marks in
      ⊎_elim (λ t. omega (arith, variable_yes n t)) (λ f. omega (arith, variable_no n f)) (cases_Bool (is_marked marks n))

  pub variable_before : (x n : ℕ) → x < n → x < length nodes → x < length marks → is_marked marks n ≡ true → Has nodes marks x → variable_of nodes marks x < variable_of nodes marks n
  variable_before x n h w v t has =
      let at_n = variable_yes n t in
      ⊎_elim
      (λ yes. let at_x = variable_yes x yes in let more = count_strict (λ (y : Bool). y) marks x n false h v yes in omega arith)
      (λ no. let at_x = variable_no x no.0 in let more = count_below is_none nodes x None w no.1 in omega arith)
      has

  pub variable_differs : (x y : ℕ) → x < y → y < length nodes → y < length marks → Has nodes marks x → Has nodes marks y → variable_of nodes marks x ≢ variable_of nodes marks y
  variable_differs x y h w v has_x has_y =
      ⊎_elim
      (λ yes_y. let less = variable_before x y h (omega arith) (omega arith) yes_y has_x in λ e. omega arith)
      (λ no_y. let at_y = variable_no y no_y.0 in let below = count_below is_none nodes y None w no_y.1 in
      ⊎_elim
      (λ yes_x. let at_x = variable_yes x yes_x in λ e. omega arith)
      (λ no_x. let at_x = variable_no x no_x.0 in let more = count_strict is_none nodes x y None h (omega arith) no_x.1 in λ e. omega arith)
      has_x)
      has_y

none_or_some : (o : Node) → (is_none o ≡ true) ⊎ (is_some o ≡ true)
none_or_some None = inl refl
none_or_some (Some g) = inr refl

pub has_it : (nodes : List Node) (marks : List Bool) (lit : Lit) → Reached nodes marks lit → Has nodes marks lit.node
has_it nodes marks lit reached = ⊎_elim
    (λ none. ⊎_elim (λ t. inl t) (λ f. inr (f, none)) (cases_Bool (is_marked marks lit.node)))
    (λ some. inl (reached some))
    (none_or_some (node_at nodes lit.node))

-- a needed gate and its operands
pub record AreApart (nodes : List Node) (marks : List Bool) (n : ℕ) (x y : Lit) : Type 0 where
  pub first : variable_of nodes marks x.node < variable_of nodes marks n
  pub second : variable_of nodes marks y.node < variable_of nodes marks n
  pub different : variable_of nodes marks x.node ≢ variable_of nodes marks y.node

apart_in : (nodes : List Node) (bad : Lit) (n : ℕ) (x y : Lit) → IsCircuit nodes → node_at nodes n ≡ Some (x, y) → is_marked (needed nodes bad) n ≡ true → AreApart nodes (needed nodes bad) n x y
apart_in nodes bad n x y circuit e t =
    let marks = needed nodes bad in
    let order = circuit.operands n x y (node_there nodes n (x, y) e) in
    let below = node_below nodes n (x, y) e in
    let size = needed_length nodes bad in
    let reached = needed_closed nodes bad n x y circuit e t in
    let has_x = has_it nodes marks x reached.0 in
    let has_y = has_it nodes marks y reached.1 in
    record {
      first = variable_before nodes marks x.node n (omega arith) (omega arith) (omega arith) t has_x;
      second = variable_before nodes marks y.node n (omega arith) (omega arith) (omega arith) t has_y;
      different = variable_differs nodes marks x.node y.node (omega arith) (omega arith) (omega arith) has_x has_y;
    }

pub apart : (nodes : List Node) (bad : Lit) (marks : List Bool) (n : ℕ) (x y : Lit) → IsCircuit nodes → marks ≡ needed nodes bad → node_at nodes n ≡ Some (x, y) → is_marked marks n ≡ true → AreApart nodes marks n x y
apart nodes bad marks n x y circuit m e t = subst (λ ms. AreApart nodes ms n x y) (sym m) (apart_in nodes bad n x y circuit e (ap (λ ms. is_marked ms n) (sym m) ∙ t))
