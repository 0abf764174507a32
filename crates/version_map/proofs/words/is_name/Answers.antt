use Rattle.std.proofs.Common.{rules, ◌≡◌, ◌<◌, ℕ, length, sym, ◌∙◌, arith}
use Rattle.std.specs.Prelude.{nat_eq, false}
use Rattle.version_map.proofs.WordLemmas.{no_empty_name, whole, short, no_token}
use Rattle.version_map.proofs.words.is_name.Goals as goal

pub returns-then-is_empty : goal.returns-then-is_empty
returns-then-is_empty c = let empty : length c.args.text.now ≡ 0 = search rules in sym (no_empty_name c.args.text.now empty)

pub returns-then-front-text : goal.returns-then-front-text
returns-then-front-text c =
    let some : 0 < length c.args.text.now = search rules in
    let long : c.in-Ok.front.length ≡ length c.args.text.now = search rules in
    c.is_word.ensures ∙ sym (whole c.args.text.now c.in-Ok.front some long c.in-Ok.ensures.front)

pub returns-else-front-text : goal.returns-else-front-text
returns-else-front-text c =
    let some : 0 < length c.args.text.now = search rules in
    unequal c.in-Ok.front.length (length c.args.text.now) c.if-front-text.false ∙ sym (short c.args.text.now c.in-Ok.front some c.if-front-text.false c.in-Ok.ensures.front)
  where
    unequal : (a b : ℕ) → (a ≡ b → ⊥) → nat_eq a b ≡ false
    unequal a b apart = grind arith

pub returns-in-Err : goal.returns-in-Err
returns-in-Err c = let some : 0 < length c.args.text.now = search rules in sym (no_token c.args.text.now some c.in-Err.ensures.none)
