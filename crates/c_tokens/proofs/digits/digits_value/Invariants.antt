use Rattle.std.proofs.Common.{◌≡◌, ◌<◌, ◌^◌, drop}
use Rattle.std.specs.Prelude.{fold}
use Rattle.c_tokens.specs.Digits.{add_digit, digits_value}
use Rattle.c_tokens.proofs.digits.digits_value.Given as goal

abbrev pub invariant-digits : goal.invariant-digits
invariant-digits l = (fold (add_digit l.base) l.value (drop l.byte-index l.text) ≡ digits_value l.base l.text) × (l.value < 2 ^ 64)
