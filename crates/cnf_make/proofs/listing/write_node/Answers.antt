use Rattle.std.proofs.Common.{rules, ◌≡◌, ◌++◌, true, None, sym, ap, ◌∙◌, arith, subst}
use Rattle.std.specs.Prelude.{OnOk}
use Rattle.std.proofs.lemmas.Option.{get_or_from_slice_get}
use Rattle.clause_db.specs.Log.{literal_lists}
use Rattle.cnf_make.specs.Needed.{is_marked}
use Rattle.cnf_make.specs.Tseitin.{Signed}
use Rattle.cnf_make.proofs.Variables.{apart, variable_small}
use Rattle.cnf_make.proofs.Written.{at_gate, at_other}
use Rattle.cnf_make.proofs.listing.write_node.Goals as goal

pub write_gate-requires-clause-first_before : goal.write_gate-requires-clause-first_before
write_gate-requires-clause-first_before c =
    let t : is_marked c.args.marks.now c.args.node ≡ true = search rules in
    let all = apart _ c.args.bad _ c.args.node _ _ c.requires.circuit c.requires.marks (get_or_from_slice_get c.args.circuit.now c.args.node _ None c.in-Some.ensures.there) t in
    let less = all.first in
    let e = ap (λ (s : Signed). s.0) c.signed-first.ensures in
    let v = c.requires.variables c.args.node c.requires.there in
    omega arith

pub write_gate-requires-clause-second_before : goal.write_gate-requires-clause-second_before
write_gate-requires-clause-second_before c =
    let t : is_marked c.args.marks.now c.args.node ≡ true = search rules in
    let all = apart _ c.args.bad _ c.args.node _ _ c.requires.circuit c.requires.marks (get_or_from_slice_get c.args.circuit.now c.args.node _ None c.in-Some.ensures.there) t in
    let less = all.second in
    let e = ap (λ (s : Signed). s.0) c.signed-second.ensures in
    let v = c.requires.variables c.args.node c.requires.there in
    omega arith

pub write_gate-requires-clause-different : goal.write_gate-requires-clause-different
write_gate-requires-clause-different c =
    let t : is_marked c.args.marks.now c.args.node ≡ true = search rules in
    let all = apart _ c.args.bad _ c.args.node _ _ c.requires.circuit c.requires.marks (get_or_from_slice_get c.args.circuit.now c.args.node _ None c.in-Some.ensures.there) t in
    λ same. all.different (sym (ap (λ (s : Signed). s.0) c.signed-first.ensures) ∙ same ∙ ap (λ (s : Signed). s.0) c.signed-second.ensures)

pub write_gate-requires-clause-in_range : goal.write_gate-requires-clause-in_range
write_gate-requires-clause-in_range c =
    let v = c.requires.variables c.args.node c.requires.there in
    let small = variable_small c.args.circuit.now c.args.marks.now c.args.node in
    let few = c.requires.few in
    let size = c.requires.marks_length in
    omega arith

pub returns-in-Some : goal.returns-in-Some
returns-in-Some c =
    let t : is_marked c.args.marks.now c.args.node ≡ true = search rules in
    subst (λ cs. OnOk c.write_gate.result (literal_lists c.write_gate.new.list.items ≡ literal_lists c.args.list.now.items ++ cs))
    (at_gate c.args.circuit.now c.args.marks.now c.args.node _ _ _ _ _ t c.in-Some.ensures.there c.signed-first.ensures c.signed-second.ensures (c.requires.variables c.args.node c.requires.there))
    c.write_gate.ensures

pub returns-in-None : goal.returns-in-None
returns-in-None c =
    let t : is_marked c.args.marks.now c.args.node ≡ true = search rules in
    at_other c.args.circuit.now c.args.marks.now c.args.node _ t c.in-None.ensures.there
