-- Partners by what names stand for.
use Rattle.std.proofs.Common.{◌≡◌, ℕ, ◌+◌, ◌<◌, ◌&&◌, if◌then◌else◌, List, [], ◌∷◌, ◌++◌, length, drop, get_or, Option, None, ap, ap₂, refl, sym, ◌∙◌}
use Rattle.std.proofs.lemmas.List.{append_assoc}
use Rattle.std.specs.Str.{bytes_eq}
use Rattle.rvt_tree.specs.declared.programs.Function.{Function}
use Rattle.function_pairs.specs.declared.partners.Side.{Side}
use Rattle.function_pairs.specs.Defined.{number_in, defined_number}
use Rattle.function_pairs.specs.Counterparts.{name_in}
use Rattle.function_pairs.specs.FunctionPairs.{is_number, partner_of, partners_from}
use Rattle.function_pairs.specs.Sides.{IsSide, partner_among, partners_among}
use Rattle.function_pairs.proofs.Steps.{front}

-- the partner, where a side tells the first number of the name, its counterpart, the counterpart of that, and its number
abbrev partner_by : ℕ → List ℕ → Option ℕ → List ℕ → Option ℕ → Option ℕ
partner_by number name first back second = if is_number number first && bytes_eq back name then second else None

module _ (own other : Side) (there back : List ℕ → List ℕ) (functions others : List Function) (here : IsSide own there functions) (beyond : IsSide other back others) where
  pub partner_stands : (number : ℕ) (name : List ℕ) → partner_among own other number name ≡ partner_of there back functions others number name
  partner_stands number name =
      ap (λ (first : Option ℕ). partner_by number name first (name_in (name_in name own.names) other.names) (number_in (name_in name own.names) other.numbers)) (here.numbers name)
      ∙ ap (λ (text : List ℕ). partner_by number name (defined_number functions name) (name_in text other.names) (number_in text other.numbers)) (here.names name)
      ∙ ap₂ (λ (text : List ℕ) (second : Option ℕ). partner_by number name (defined_number functions name) text second) (beyond.names (there name)) (beyond.numbers (there name))

  pub partners_stand : (number : ℕ) (fs : List Function) → partners_among own other number fs ≡ partners_from there back functions others number fs
  partners_stand number [] = refl
  partners_stand number (f ∷ rest) =
      ap₂ (λ (x : Option ℕ) (xs : List (Option ℕ)). x ∷ xs) (partner_stands number f.name) (partners_stand (number + 1) rest)

-- one more partner
pub next_partner : (own other : Side) (functions : List Function) (items : List (Option ℕ)) (number : ℕ) (f : Function) (partner : Option ℕ) →
    number < length functions → f ≡ get_or functions number f → partner ≡ partner_among own other number f.name →
    items ++ partner ∷ [] ++ partners_among own other (number + 1) (drop (number + 1) functions) ≡ items ++ partners_among own other number (drop number functions)
next_partner own other functions items number f partner low is e =
    append_assoc items (partner ∷ []) (partners_among own other (number + 1) (drop (number + 1) functions))
    ∙ ap (λ (p : Option ℕ). items ++ p ∷ partners_among own other (number + 1) (drop (number + 1) functions)) e
    ∙ ap (λ (fs : List Function). items ++ partners_among own other number fs) (sym (front functions number (number + 1) f refl low is))
