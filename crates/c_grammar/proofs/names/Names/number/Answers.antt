use Rattle.std.proofs.Common.{ℕ, List, ◌∙◌, sym, ap}
use Rattle.std.specs.List.{position_or_len}
use Rattle.std.specs.Str.{bytes_eq}
use Rattle.c_grammar.specs.Terminals.{with_name}
use Rattle.c_grammar.proofs.Numbers.{names_of, place_shown, added_shown}
use Rattle.c_grammar.proofs.names.Names.number.Goals as goal

pub returns-clause-number : goal.returns-clause-number
returns-clause-number c =
    c.in_ok-number-2.ensures.number
    ∙ c.in_ok-number.ensures.index
    ∙ sym (place_shown (bytes_eq c.args.name.now) c.self.inside.names.keys)
    ∙ ap (λ (ns : List (List ℕ)). position_or_len (bytes_eq c.args.name.now) ns) c.self.view_is

pub returns-clause-added : goal.returns-clause-added
returns-clause-added c =
    ap names_of c.in_ok-number.ensures.keys
    ∙ added_shown c.args.name c.self.inside.names.keys
    ∙ ap (λ (ns : List (List ℕ)). with_name ns c.args.name.now) c.self.view_is
