use Rattle.std.proofs.Common.{arith, ◌<◌, ℕ, nat_lt, IsTrue}
use Rattle.std.proofs.lemmas.Bool.Decides.{nat_tests}
use Rattle.sat_search.proofs.learning.is_alone.Goals as goal

below_from_test : (a b : ℕ) → IsTrue (nat_lt a b) → a < b
below_from_test a b h = grind (arith, nat_tests)

pub returns-clause-none : goal.returns-clause-none
returns-clause-none c e p high low w =
    let h = below_from_test _ _ e in
    c.latest_up_to.ensures.none_between p (omega (arith, h, high)) (omega (arith, low)) w

pub returns-clause-bounded : goal.returns-clause-bounded
returns-clause-bounded c e = let h = below_from_test _ _ e in omega (arith, h)
