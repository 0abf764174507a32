use Rattle.std.proofs.Common.{rules, arith, ◌≡◌, ◌<◌, ℕ, ℤ, pos, ap, sym, ◌∙◌, length, w64}
use Rattle.std.proofs.lemmas.Int.{to_z-of_z}
use Rattle.std.proofs.lemmas.List.{get_or_read}
use mir.Val.{SFits, of_z}
use Rattle.clause_db.specs.Literal.{variable_of}
use Rattle.chain_resolution.proofs.Tables.{at, kept_with, put_right, put_touched, put_with, put_count}
use Rattle.chain_resolution.proofs.Reading.{same_read}
use Rattle.chain_resolution.proofs.marked.MarkedClause.put.Goals as goal

pub returns-then-index-ne0 : goal.returns-then-index-ne0
returns-then-index-ne0 c =
    let old = c.args.self.now.table.items in
    let table = c.make_room.new.table.items in
    let l : ℤ = c.args.literal in
    let fits : SFits w64 l = search rules in
    let v : c.variable-place.result ≡ variable_of l = c.variable-place.ensures ∙ ap variable_of (to_z-of_z w64 l fits) in
    let within : c.variable-place.result < length table = c.in_ok-make_room.ensures.within in
    let read : c.index.result.now ≡ at table c.variable-place.result = get_or_read table c.variable-place.result c.index.result.now within c.index.ensures (pos 0) in
    kept_with old table c.args.self.now.at_variables c.in_ok-make_room.ensures.unchanged c.variable-place.result l c.requires.positive v (λ e. c.if-index-ne0.true (ap (of_z w64) (read ∙ e))) c.requires.apart

pub invariant_of-self-2 : goal.invariant_of-self-2
invariant_of-self-2 c =
    let old = c.args.self.now.table.items in
    let right = c.args.self.now.at_variables in
    let table = c.make_room.new.table.items in
    let same = c.in_ok-make_room.ensures.unchanged in
    let place : ℕ = c.variable-place.result in
    let l : ℤ = c.args.literal in
    let fits : SFits w64 l = search rules in
    let here_fits : SFits w64 c.index.result.now = search rules in
    let zero_fits : SFits w64 (pos 0) = search rules in
    let v : place ≡ variable_of l = c.variable-place.ensures ∙ ap variable_of (to_z-of_z w64 l fits) in
    let within : place < length table = c.in_ok-make_room.ensures.within in
    let read : c.index.result.now ≡ at table place = get_or_read table place c.index.result.now within c.index.ensures (pos 0) in
    let none : at table place ≡ pos 0 = sym read ∙ same_read c.index.result.now (pos 0) here_fits zero_fits c.if-index-ne0.false in
    rw (to_z-of_z w64 l fits, c.in-Ok.ensures.items) record {
      at_variables = put_right old table right same place l c.requires.positive v within;
      all_touched = put_touched old table right same place l c.requires.positive v within c.args.self.now.touched.items c.args.self.now.all_touched;
      counted = (let n = put_count old table right same place l c.requires.positive v within none in omega (arith, n, c.args.self.now.counted, c.in_ok-make_room.ensures.count));
    }

pub returns : goal.returns
returns c =
    let old = c.args.self.now.table.items in
    let right = c.args.self.now.at_variables in
    let table = c.make_room.new.table.items in
    let same = c.in_ok-make_room.ensures.unchanged in
    let place : ℕ = c.variable-place.result in
    let l : ℤ = c.args.literal in
    let fits : SFits w64 l = search rules in
    let here_fits : SFits w64 c.index.result.now = search rules in
    let zero_fits : SFits w64 (pos 0) = search rules in
    let v : place ≡ variable_of l = c.variable-place.ensures ∙ ap variable_of (to_z-of_z w64 l fits) in
    let within : place < length table = c.in_ok-make_room.ensures.within in
    let read : c.index.result.now ≡ at table place = get_or_read table place c.index.result.now within c.index.ensures (pos 0) in
    let none : at table place ≡ pos 0 = sym read ∙ same_read c.index.result.now (pos 0) here_fits zero_fits c.if-index-ne0.false in
    rw (to_z-of_z w64 l fits) (put_with old table right same place l c.requires.positive v within none)
