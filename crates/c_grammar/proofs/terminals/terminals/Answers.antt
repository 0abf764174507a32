use Rattle.std.proofs.Common.{◌≡◌, ◌∙◌, List, ℕ, [], ap}
use Rattle.c_lexer.specs.Texts.{StandsIn, text_of}
use Rattle.c_grammar.specs.Classes.{class_before}
use Rattle.c_grammar.specs.Terminals.{names_after}
use Rattle.c_grammar.proofs.Tokens.{all_behind, all_first, known_more, terminal_more}
use Rattle.c_grammar.proofs.terminals.terminals.Goals as goal

pub text-requires : goal.text-requires
text-requires c = all_first (StandsIn c.args.bytes.now) c.tokens.left.now c.in-Some.rest.now c.in-Some.token.now c.in-Some.ensures.cases.0 c.tokens.invariant.within

pub number-requires : goal.number-requires
number-requires c = all_first (StandsIn c.args.bytes.now) c.tokens.left.now c.in-Some.rest.now c.in-Some.token.now c.in-Some.ensures.cases.0 c.tokens.invariant.within

pub tokens-preserved : goal.tokens-preserved
tokens-preserved c =
    let bytes = c.args.bytes.now in
    let token = c.in-Some.token.now in
    let rest = c.in-Some.rest.now in
    let all = names_after [] bytes c.args.tokens.now in
    let class : c.class_before-class.result ≡ class_before (text_of bytes token) token.class rest =
    c.class_before-class.ensures ∙ ap (λ (text : List ℕ). class_before text token.class rest) c.text.ensures in
    record {
      within = all_behind (StandsIn bytes) c.tokens.left.now rest token c.in-Some.ensures.cases.0 c.tokens.invariant.within;
      known = known_more c.tokens.names c.number.new.names all bytes c.tokens.left.now rest token c.in-Some.ensures.cases.0 c.in_ok-name.ensures.names c.tokens.invariant.known;
      so_far =
          terminal_more c.tokens.names all bytes c.tokens.left.now rest token c.class_before-class.result c.in_ok-name.name c.tokens.terminals.items c.push.new.self.items
          c.in-Some.ensures.cases.0 c.tokens.invariant.known class c.in_ok-name.ensures.number c.in_ok-push.ensures.items
          ∙ c.tokens.invariant.so_far;
    }
