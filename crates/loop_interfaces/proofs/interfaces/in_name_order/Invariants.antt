use Rattle.std.proofs.Common.{◌≡◌, take}
use Rattle.std.specs.Prelude.{All}
use Rattle.loop_interfaces.proofs.Ordered.{numbers_of, IsKey}
use Rattle.loop_interfaces.proofs.interfaces.in_name_order.Given as goal

abbrev pub invariant-numbers : goal.invariant-numbers
invariant-numbers l = record {
  made : numbers_of l.keys.items ≡ take l.number-index l.numbers;
  keys : All (IsKey l.function) l.keys.items;
}

abbrev pub invariant-keys : goal.invariant-keys
invariant-keys l = l.locals.items ≡ numbers_of (take l.key-index l.key-items)
