use Rattle.std.proofs.Common.{arith, ◌≡◌, ◌<◌, ℕ, ◌-◌, length, get_or}
use Rattle.std.proofs.lemmas.List.{length-map}
use Rattle.clause_db.specs.declared.clause.LogLine.{LogLine}
use Rattle.clause_db.specs.Log.{literal_lists, results}
use Rattle.clause_db.proofs.Places.{slice_get-map_left, slice_get-map_right}
use Rattle.clause_db.proofs.numbered.clause_at.Goals as goal

pub returns-then-index-len-clause-found : goal.returns-then-index-len-clause-found
returns-then-index-len-clause-found c =
    let list = c.args.clauses.now.list in
    let k : ℕ = c.args.number - 1 in
    let within : k < length list.items = omega (arith, list.ok.0, c.len.ensures) in
    (k, omega arith, slice_get-map_left (λ x. x.literals.items) list.items (results c.args.lines.now) k c.index.result.now within c.index.ensures)

pub returns-then-line-lines-clause-found : goal.returns-then-line-lines-clause-found
returns-then-line-lines-clause-found c =
    let list = c.args.clauses.now.list in
    let k : ℕ = c.args.number - 1 in
    let same : c.len-2.result ≡ length (literal_lists list.items) = simp length-map (omega (arith, list.ok.0)) in
    let line : LogLine = c.index-lines-line.result in
    let is : line ≡ get_or c.args.lines.now (k - c.len-2.result) line = c.index-lines-line.is in
    (k, omega arith, rw (← is) (slice_get-map_right {X = LogLine} (λ x. x.result.literals.items) (literal_lists list.items) c.args.lines.now k c.len-2.result line same (omega arith) (omega arith) is))
