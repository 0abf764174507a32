use Rattle.std.proofs.Common.{◌≡◌, ◌+◌, ◌-◌, ◌≤◌, false, length, drop}
use Rattle.std.specs.Option.{option_map}
use Rattle.c_tokens.specs.Quotes.{to_quote}
use Rattle.c_tokens.proofs.quotes.to_quote.Given as goal

abbrev pub invariant-loop-length : goal.invariant-loop-length
invariant-loop-length l =
    (option_map (λ n. l.length + n) (to_quote l.quote l.is_escaped (drop l.length l.text)) ≡ to_quote l.quote false l.text) × (l.length ≤ length l.text)

abbrev pub decreases-loop-length : goal.decreases-loop-length
decreases-loop-length l = length l.text - l.length
