use Rattle.twin_check.specs.Sets.{IsWithin, HasEveryClosed, partners}
use Rattle.twin_check.proofs.sets.closed_twins.Given as goal

abbrev pub invariant-passes : goal.invariant-passes
invariant-passes l = record {
  within : IsWithin l.twins l.fn.pairing;
  every : HasEveryClosed l.old l.other l.fn.pairing l.twins;
}

abbrev pub decreases-passes : goal.decreases-passes
decreases-passes l = partners l.twins.functions
