use Rattle.std.proofs.Common.{length, ◌≡◌, []}
use Rattle.std.specs.Prelude.{All}
use Rattle.c_lexer.specs.Texts.{StandsIn}
use Rattle.c_tokens.specs.declared.tokens.TokenClass.TheVariants as T
use Rattle.file_actions.specs.Shown.{shown}
use Rattle.file_actions.specs.Tree.{after_steps}
use Rattle.file_actions.proofs.steps_taken.follow.Given as goal

abbrev pub invariant-steps : goal.invariant-steps
invariant-steps l = record {
  within : All (StandsIn l.bytes) l.tokens;
  so_far : after_steps l.bytes l.tokens l.class l.read l.place l.steps (shown l.parts) ≡ after_steps l.bytes l.fn.tokens T.Word [] (record { line = 1; column = 1 }) l.fn.steps (shown l.fn.parts);
}

abbrev pub decreases-steps : goal.decreases-steps
decreases-steps l = length l.steps
