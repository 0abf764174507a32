-- The number of one more function in front.
use Rattle.std.proofs.Common.{◌≡◌, ℕ, suc, ◌+◌, ◌<◌, List, ◌∷◌, Some, length, drop, get_or, cond, drop-cons, sym, ◌∙◌, ap, arith}
use Rattle.std.specs.List.{position_from}
use Rattle.std.specs.Str.{bytes_eq}
use Rattle.rvt_tree.specs.declared.programs.Function.{Function}

pub numbered_before : (functions : List Function) (i left : ℕ) (f : Function) (name : List ℕ) → left ≡ i + 1 → i < length functions → f ≡ get_or functions i f →
    cond (bytes_eq f.name name) (Some i) (position_from (λ (g : Function). bytes_eq g.name name) left (drop left functions)) ≡ position_from (λ (g : Function). bytes_eq g.name name) i (drop i functions)
numbered_before functions i left f name e low is =
    let next : i + 1 ≡ suc i = omega arith in
    let whole : drop i functions ≡ f ∷ drop (suc i) functions = drop-cons functions i f low ∙ ap (λ (x : Function). x ∷ drop (suc i) functions) (sym is) in
    ap (λ (n : ℕ). cond (bytes_eq f.name name) (Some i) (position_from (λ (g : Function). bytes_eq g.name name) n (drop n functions))) e
    ∙ ap (λ (n : ℕ). cond (bytes_eq f.name name) (Some i) (position_from (λ (g : Function). bytes_eq g.name name) (i + 1) (drop n functions))) next
    ∙ sym (ap (λ (xs : List Function). position_from (λ (g : Function). bytes_eq g.name name) i xs) whole)
