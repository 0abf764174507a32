-- Faults that are handed on.
use Rattle.std.proofs.Common.{◌≡◌, Result, Ok, Err, IsErrAnd, IfErr, sym, subst}
use Rattle.joint_programs.specs.declared.faults.JointFault.{JointFault}

pub fault_kept : {A : Type 0} (Holds : JointFault → Type 0) (fault : JointFault) (result : Result A JointFault) →
    IsErrAnd result (λ e. e ≡ fault) → Holds fault → IfErr result Holds
fault_kept Holds fault (Ok x) handed is = tt
fault_kept Holds fault (Err e) handed is = subst Holds (sym handed) is
