use Rattle.std.proofs.Common.{◌≡◌, ◌≤◌}
use Rattle.c_syntax.specs.Views.{parts_view}
use Rattle.c_syntax.specs.declared.statements.Parts.{size-Parts}
use Rattle.file_typing.specs.Statements.{ends_with_jump}
use Rattle.statement_elaboration.proofs.groups.+ends_with_jump.Given as goal

abbrev pub invariant-ends_with_jump-parts : goal.invariant-ends_with_jump-parts
invariant-ends_with_jump-parts l = record {
  no_deeper : size-Parts l.rest ≤ size-Parts l.fn.parts;
  same : ends_with_jump (parts_view l.fn.parts) ≡ ends_with_jump (parts_view l.rest);
}
