use Rattle.std.proofs.Common.{rules, ◌≡◌, ◌++◌, ◌∷◌, [], pos, length, w64, ap, ◌∙◌, arith}
use Rattle.std.proofs.lemmas.Int.{to_z-of_z}
use mir.Val.{SFits}
use Rattle.aig_build.proofs.Gates.{some_taken}
use Rattle.clause_db.specs.Log.{literal_lists}
use Rattle.cnf_make.specs.Tseitin.{signed}
use Rattle.cnf_make.proofs.Written.{listed, counted}
use Rattle.std.proofs.Common.{sym, subst}
use Rattle.std.specs.Prelude.{List, ℤ}
use Rattle.clause_db.specs.Assignment.{Satisfies}
use Rattle.aig_build.specs.Circuits.{input_count}
use Rattle.cnf_make.specs.Inputs.{CanSatisfy}
use Rattle.cnf_make.proofs.Extending.{can_satisfy}
use Rattle.cnf_make.proofs.Meaning.{makes_true}
use Rattle.cnf_make.proofs.listing.clauses.Goals as goal

pub gates-init : goal.gates-init
gates-init c =
    let some = some_taken _ c.nodes-node-end.ensures.circuit in
    let inputs = c.inputs-variables.ensures in
    record {
      list = c.in_ok-write.ensures ∙ ap (λ xs. literal_lists xs ++ (pos 1 ∷ []) ∷ []) c.new-list.ensures.items;
      variables = omega arith;
    }

pub returns-clause-list : goal.returns-clause-list
returns-clause-list c =
    let all : c.gates.node ≡ length c.args.circuit.now = omega (arith, c.gates.auto.node-end, c.gates-test.false, c.nodes-node-end.ensures.count) in
    let fits : SFits w64 c.literal.result = search rules in
    listed c.args.circuit.now c.args.bad c.in_ok-marks.marks.items c.gates.node c.in_ok-marks.ensures.marks all _ _ _ c.signed-last.result c.gates.invariant.list (c.signed-last.ensures ∙ ap (λ ms. signed c.args.circuit.now ms c.args.bad) c.deref-2.ensures.value) (to_z-of_z w64 _ fits ∙ c.literal.ensures) c.in_ok-write-2.ensures

pub returns-clause-variables : goal.returns-clause-variables
returns-clause-variables c =
    let all : c.gates.node ≡ length c.args.circuit.now = omega (arith, c.gates.auto.node-end, c.gates-test.false, c.nodes-node-end.ensures.count) in
    counted c.args.circuit.now c.args.bad c.in_ok-marks.marks.items c.gates.node c.in_ok-marks.ensures.marks all c.gates.variables c.in_ok-marks.ensures.length c.gates.invariant.variables

pub returns-clause-sound : goal.returns-clause-sound
returns-clause-sound c = λ v all. makes_true c.args.circuit.now c.args.bad v c.nodes-node-end.ensures.circuit c.requires (subst (Satisfies v) (returns-clause-list c) all)

pub returns-clause-complete : goal.returns-clause-complete
returns-clause-complete c = λ bits t.
    subst (λ (clauses : List (List ℤ)). CanSatisfy clauses (input_count c.args.circuit.now) bits) (sym (returns-clause-list c)) (can_satisfy c.args.circuit.now c.args.bad bits c.nodes-node-end.ensures.circuit c.requires t)
