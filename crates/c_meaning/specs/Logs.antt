-- Answers that also keep what each call and each loop statement did.
use Rattle.std.specs.Prelude.{◌≡◌, ℕ, List, [], ◌∷◌, ◌++◌, zero, suc, Bool, Option, Some, None}
use Rattle.rvt_num.specs.Number.{Number}
use Rattle.rvt_num.specs.declared.values.Trap.{Trap}
use Rattle.rvt_num.specs.declared.values.Value.{Value}
use Rattle.c_meaning.specs.Outcomes.{state, Outcome, Done, Returning, Trapped, Cut, Deep, Doing, Answers, Manner, Normally, give}
use Rattle.c_meaning.specs.Runs.{turn}
use Rattle.c_meaning.specs.Loops.{Loop}

-- how a call or a loop statement ended: with a value, these locals and this store; by leaving the function; or by a trap
pub data MetEnd (A : Type 0) : Type 0 where
  WithValue : A → List (List Value) → List Value → MetEnd A
  WithReturn : Option Number → List Value → MetEnd A
  WithTrap : Trap → MetEnd A

-- a call or a loop statement that was met with these locals and this store, and what was kept before and after it
pub data Met (X : Type 0) : Type 0 where
  MetCall : (function : ℕ) (arguments : List Value) (locals : List (List Value)) (store : List Value) (before : X) → MetEnd (Option Number) → (after : X) → Met X
  MetLoop : (number : ℕ) (locals : List (List Value)) (store : List Value) (before : X) → MetEnd Manner → (after : X) → Met X

pub record Logged (X : Type 0) : Type 0 where
  pub own : X
  pub met : List (Met X)

abbrev pub with_log : {X A : Type 0} → List (Met X) → (MetEnd A → X → Met X) → Outcome X A → Outcome (Logged X) A
with_log log met (Done a s) = Done a (state s.locals s.store (record { own = s.kept; met = log ++ met (WithValue a s.locals s.store) s.kept ∷ [] }))
with_log log met (Returning n store x) = Returning n store (record { own = x; met = log ++ met (WithReturn n store) x ∷ [] })
with_log log met (Trapped why x) = Trapped why (record { own = x; met = log ++ met (WithTrap why) x ∷ [] })
with_log log met Cut = Cut
with_log log met Deep = Deep

abbrev pub without_log : {X A : Type 0} → Outcome (Logged X) A → Outcome X A
without_log (Done a s) = Done a (state s.locals s.store s.kept.own)
without_log (Returning n store x) = Returning n store x.own
without_log (Trapped why x) = Trapped why x.own
without_log Cut = Cut
without_log Deep = Deep

-- what was met, if no bound ran out
abbrev pub met_in : {X A : Type 0} → Outcome (Logged X) A → List (Met X)
met_in (Done a s) = s.kept.met
met_in (Returning n store x) = x.met
met_in (Trapped why x) = x.met
met_in Cut = []
met_in Deep = []

-- a part of a loop, which keeps no log of its own
abbrev pub unlogged : {X A : Type 0} → Doing (Logged X) A → Doing X A
unlogged m s = without_log (m (state s.locals s.store (record { own = s.kept; met = [] })))

abbrev pub logging : {X : Type 0} → Answers X → Answers (Logged X)
logging answers =
    record {
      call = λ function arguments s.
          with_log s.kept.met (MetCall function arguments s.locals s.store s.kept.own) (answers.call function arguments (state s.locals s.store s.kept.own));
      loop = λ number round_first test round s.
          with_log s.kept.met (MetLoop number s.locals s.store s.kept.own) (answers.loop number round_first (unlogged test) (unlogged round) (state s.locals s.store s.kept.own));
    }

-- a step that is spent beside a log
abbrev pub spend_logged_at : {A : Type 0} → ℕ → Doing (Logged ℕ) A → Doing (Logged ℕ) A
spend_logged_at zero m = λ s. Cut
spend_logged_at (suc left) m = λ s. m (state s.locals s.store (record { own = left; met = s.kept.met }))

abbrev pub spend_logged : {A : Type 0} → Doing (Logged ℕ) A → Doing (Logged ℕ) A
spend_logged m s = spend_logged_at s.kept.own m s

-- one turn of a loop in a run, with a log
abbrev pub turned_logged : Answers ℕ → ℕ → Option (Loop (Logged ℕ)) → Doing (Logged ℕ) Manner
turned_logged answers number None = give Normally
turned_logged answers number (Some loop) = turn loop.round_first (spend_logged loop.test) loop.round ((logging answers).loop number loop.round_first loop.test loop.round)

-- ---- two kinds of answers

-- the outcome has this end, and then keeps x
abbrev pub HasEnd : {X A : Type 0} → Outcome X A → MetEnd A → X → Type 0
HasEnd r (WithValue a locals store) x = r ≡ Done a (state locals store x)
HasEnd r (WithReturn n store) x = r ≡ Returning n store x
HasEnd r (WithTrap why) x = r ≡ Trapped why x

-- what was met is what these answers give
abbrev pub Happened : {X : Type 0} → Answers X → Met X → Type 0
Happened {X} answers (MetCall function arguments locals store before end after) = HasEnd (answers.call function arguments (state locals store before)) end after
Happened {X} answers (MetLoop number locals store before end after) =
    (first : Bool) × (test : Doing X Bool) × (round : Doing X Manner) × HasEnd (answers.loop number first test round (state locals store before)) end after

abbrev pub AllHappened : {X : Type 0} → Answers X → List (Met X) → Type 0
AllHappened answers [] = Unit {0}
AllHappened answers (met ∷ more) = Happened answers met × AllHappened answers more

-- answers that keep a view of what was met before give this end too
abbrev pub Given : {X Y : Type 0} → Answers Y → (List (Met X) → Y) → List (Met X) → Met X → Type 0
Given {X} {Y} answers view earlier (MetCall function arguments locals store before end after) =
    HasEnd (answers.call function arguments (state locals store (view earlier))) end (view (earlier ++ MetCall function arguments locals store before end after ∷ []))
Given {X} {Y} answers view earlier (MetLoop number locals store before end after) =
    (first : Bool) (test : Doing Y Bool) (round : Doing Y Manner) →
    HasEnd (answers.loop number first test round (state locals store (view earlier))) end (view (earlier ++ MetLoop number locals store before end after ∷ []))

abbrev pub AllGiven : {X Y : Type 0} → Answers Y → (List (Met X) → Y) → List (Met X) → List (Met X) → Type 0
AllGiven answers view earlier [] = Unit {0}
AllGiven answers view earlier (met ∷ more) = Given answers view earlier met × AllGiven answers view (earlier ++ met ∷ []) more

-- the same end, with what the second side keeps
abbrev pub EndsAs : {X Y A : Type 0} → Outcome X A → Y → Outcome Y A → Type 0
EndsAs (Done a s) y r = r ≡ Done a (state s.locals s.store y)
EndsAs (Returning n store x) y r = r ≡ Returning n store y
EndsAs (Trapped why x) y r = r ≡ Trapped why y
EndsAs Cut y r = Unit {0}
EndsAs Deep y r = Unit {0}
