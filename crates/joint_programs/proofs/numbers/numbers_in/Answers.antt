use Rattle.std.proofs.Common.{◌≡◌, ◌+◌, ◌-◌, ◌<◌, ◌≤◌, length, rules, arith}
use Rattle.joint_programs.proofs.Places.{step_back, at_end}
use Rattle.joint_programs.proofs.numbers.numbers_in.Goals as goal

pub table-init : goal.table-init
table-init c =
    let within : length c.args.table.now ≤ length c.args.table.now = omega arith in
    (within, at_end c.args.table.now c.args.count c.in_ok-numbers.numbers.items c.in_ok-numbers.ensures)

pub table-preserved : goal.table-preserved
table-preserved c =
    let more : 0 < c.table.left = search rules in
    let one : c.table.left ≡ c.table.left - 1 + 1 = omega (arith, more) in
    let before : c.table.left ≤ length c.args.table.now = c.table.invariant.0 in
    let low : c.table.left - 1 < length c.args.table.now = omega (arith, more, before) in
    let within : c.table.left - 1 ≤ length c.args.table.now = omega (arith, low) in
    (within, step_back c.args.table.now c.table.left (c.table.left - 1) c.args.count c.table.numbers.items c.put_place.new.numbers.items one low c.table.invariant.1 c.put_place.ensures)
