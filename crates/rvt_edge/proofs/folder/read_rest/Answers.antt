use Rattle.std.proofs.Common.{◌<◌, ◌≤◌, ◌+◌, ◌-◌, length, vec_len, rules, arith}
use Rattle.rvt_edge.proofs.ReadStart.{none_read, more_read, read_appends}
use Rattle.rvt_edge.proofs.folder.read_rest.Goals.{then-left-count, else-left-count}
use Rattle.rvt_edge.proofs.folder.read_rest.Goals as goal

pub loop-buffer-init : goal.loop-buffer-init
loop-buffer-init g c = record {
  appends = search rules;
  further = search rules;
  within = search rules;
  read = none_read _ _ _;
}

pub loop-buffer-preserved : goal.loop-buffer-preserved
loop-buffer-preserved g c =
    let old = c.args.into.now.items in
    let now = c.loop-buffer.into.items in
    let taken = c.if-left-count.taken in
    let count = c.in-Ok.count in
    let grown = c.in_ok-extend_from_slice.ensures.items in
    let small : length now ≤ length old + c.args.limit = search (rules, arith) in
    let room : count ≤ length c.read.new.buf = search (rules, arith) in
    let less : taken ≤ count = elim c.if-left-count.branch [ then-left-count w ↦ search (rules, arith) | else-left-count w ↦ search (rules, arith) ] in
    let over : taken < count → length old + c.args.limit < length now + taken = elim c.if-left-count.branch [ then-left-count w ↦ λ s. search (rules, arith) | else-left-count w ↦ λ s. search (rules, arith) ] in
    let read = more_read _ _ _ c.args.limit old now c.extend_from_slice.new.self.items c.read.new.buf count taken small room less over c.loop-buffer.invariant.read c.in-Ok.ensures.bytes.0 grown in
    let long : length c.extend_from_slice.new.self.items ≤ length old + (vec_len c.extend_from_slice.new.self - c.len-before.result) = search (rules, arith) in
    record {
      appends = read_appends _ _ _ _ _ _ long read;
      further = search rules;
      within = search rules;
      read = read;
    }
