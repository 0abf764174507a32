use Rattle.std.proofs.Common.{length, ap}
use Rattle.joint_programs.specs.JointPrograms.{table_of_old}
use Rattle.joint_laws.proofs.Entries.{stand}
use Rattle.joint_laws.proofs.laws.joint_programs_stand.Goals as goal

pub returns : goal.returns
returns c = λ old new functions said j program program' is_old is_new.
    stand old new functions (length (table_of_old old new functions said)) j.structs j.functions_turn j.old_numbered j.new_numbered program program'
    (ap (λ p. p.structs) is_old) (ap (λ p. p.structs) is_new) said.objects (table_of_old old new functions said) j.table
    (ap (λ p. p.objects) is_old) (ap (λ p. p.objects) is_new)
