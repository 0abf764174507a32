use Rattle.std.proofs.Common.{sym, ap, ◌∙◌}
use Rattle.c_control.specs.Groups.{is_label}
use Rattle.c_control.proofs.groups.is_label.Goals as goal

pub returns-in-Case : goal.returns-in-Case
returns-in-Case c = c.is_case.ensures ∙ sym (ap (λ w. is_label w c.args.label) c.in-Case.is)

pub returns-in-Default : goal.returns-in-Default
returns-in-Default c = c.is_default.ensures ∙ sym (ap (λ w. is_label w c.args.label) c.in-Default.is)
