-- The Tseitin clauses of a circuit: each gate that is needed has a variable, and clauses that make it
-- the conjunction of its operands.
use Rattle.std.specs.Prelude.{ℕ, zero, suc, ◌+◌, ◌==◌, nat_lt, ℤ, pos, neg_ℤ, Bool, true, false, not, List, [], ◌∷◌, ◌++◌, length, take, count_by, Some, None, is_none, if◌then◌else◌}
use Rattle.aig_build.specs.declared.lits.Lit.{Lit}
use Rattle.aig_build.specs.Circuits.{Node, negate_if}
use Rattle.cnf_make.specs.Needed.{node_at, is_marked, needed}

abbrev pub constants_and_inputs : List Node → ℕ
constants_and_inputs nodes = count_by is_none nodes

abbrev pub marked_count : List Bool → ℕ
marked_count marks = count_by (λ mark. mark) marks

-- the variables are the constant's, which is 1, then the inputs' and then the marked gates', each in the order of the nodes
abbrev pub variable_of : List Node → List Bool → ℕ → ℕ
variable_of nodes marks n =
    if is_marked marks n then constants_and_inputs nodes + marked_count (take n marks) + 1
    else constants_and_inputs (take n nodes) + 1

-- a variable, and whether it is negated
abbrev pub Signed : Type 0
Signed = ℕ × Bool

abbrev pub literal : Signed → ℤ
literal (v, false) = pos v
literal (v, true) = neg_ℤ (pos v)

abbrev pub opposite : Signed → Signed
opposite s = (s.0, not s.1)

-- variable 1 is true and node 0 is false, so that node 0 is the literal -1
abbrev pub signed : List Node → List Bool → Lit → Signed
signed nodes marks lit = (variable_of nodes marks lit.node, negate_if (lit.node == 0) lit.negated)

-- the literals of two variables by increasing variable
abbrev pub in_order : Signed → Signed → List ℤ
in_order a b = if nat_lt a.0 b.0 then literal a ∷ literal b ∷ [] else literal b ∷ literal a ∷ []

-- the clauses of g = a ∧ b
abbrev pub gate_clauses : Signed → Signed → ℕ → List (List ℤ)
gate_clauses a b g =
    (literal a ∷ literal (g, true) ∷ []) ∷ (literal b ∷ literal (g, true) ∷ []) ∷ (in_order (opposite a) (opposite b) ++ pos g ∷ []) ∷ []

abbrev pub node_clauses : List Node → List Bool → ℕ → Node → List (List ℤ)
node_clauses nodes marks n None = []
node_clauses nodes marks n (Some gate) = gate_clauses (signed nodes marks gate.0) (signed nodes marks gate.1) (variable_of nodes marks n)

abbrev pub clauses_at : List Node → List Bool → ℕ → List (List ℤ)
clauses_at nodes marks n = if is_marked marks n then node_clauses nodes marks n (node_at nodes n) else []

-- the clause of 1 and those of the marked gates among the first n nodes
abbrev pub clauses_below : List Node → List Bool → ℕ → List (List ℤ)
clauses_below nodes marks zero = (pos 1 ∷ []) ∷ []
clauses_below nodes marks (suc n) = clauses_below nodes marks n ++ clauses_at nodes marks n

-- the Tseitin clauses of the gates that the literal needs, and its own clause
unfoldable pub clause_list : List Node → Lit → List (List ℤ)
clause_list nodes bad =
    clauses_below nodes (needed nodes bad) (length nodes) ++ (literal (signed nodes (needed nodes bad) bad) ∷ []) ∷ []

unfoldable pub variable_count : List Node → Lit → ℕ
variable_count nodes bad = constants_and_inputs nodes + marked_count (needed nodes bad)
