-- Proper calls make proper calls and have proper ends, where their calls have.
use Rattle.std.proofs.Common.{◌≡◌, ℕ, Option, Some, None, refl, sym, subst}
use Rattle.core_ir.proofs.Bodies.{all_mapped, CallFits, EndFits}
use Rattle.core_ir.proofs.Entries.{unit_calls_fit, unit_end_fits}
use Rattle.core_ir.proofs.Shapes.{all_refreed}
use Rattle.core_ir.proofs.Sound.{store_free}
use Rattle.core_ir.specs.Calls.{calls_in}
use Rattle.core_ir.specs.Fits.{Fits, MayName}
use Rattle.core_ir.specs.Inputs.{HaveShapes, IsFree, inputs_by, results_by, IsInput, IsProper, IsProperEnd, AreProper}
use Rattle.core_ir.specs.Joint.{Side, node_of, unit_of, table}
use Rattle.core_ir.specs.Laws.{RunsAreProper}
use Rattle.core_ir.specs.Meaning.{End, Trapped, Returned, Request, Answers}
use Rattle.core_ir.specs.declared.cores.JointCore.{JointCore}
use Rattle.core_ir.specs.declared.units.Unit.{Unit}

abbrev Any : ℕ → Type 0
Any o = Prim.Unit {0}

-- an input is proper
pub input_proper : (joint : JointCore) (side : Side) (call : Request) → IsInput joint side call → IsProper joint side call
input_proper joint side call i =
    record {
      arguments = all_refreed (table joint) (IsFree joint (node_of joint side call.unit)) Any (λ o f. tt) _ call.args i.arguments;
      cells = all_refreed (table joint) (IsFree joint (node_of joint side call.unit)) Any (λ o f. tt) _ call.store i.cells;
    }

no_end : (e : End) → None ≡ Some e → ⊥
no_end e h = cc

module _ (joint : JointCore) (fits : Fits joint) (side : Side) (answers : Answers) (proper : AreProper joint side answers) where
  module _ (call : Request) (is_proper : IsProper joint side call) (w : Unit) (is : unit_of joint side call.unit ≡ Some w) where
    abbrev Callee : Request → Type 0
    Callee q = CallFits joint fits side Any (MayName joint fits.helpers side call.unit) (λ o m. tt) w answers (calls_in w.body) q

    proper_call : (q : Request) → Callee q → IsProper joint side q
    proper_call q c =
        record {
          arguments = subst (λ o. HaveShapes (table joint) Any (inputs_by o) q.args) (sym c.is_there) c.args;
          cells = store_free joint fits (λ _. ⊥) Any q.store c.store;
        }

    as_end : (q : Request) (v : Unit) (e : End) → unit_of joint side q.unit ≡ Some v → IsProperEnd joint side q.unit e → EndFits joint fits side Any v e
    as_end q v (Trapped t) is h = tt
    as_end q v (Returned results store) is h =
        (subst (λ o. HaveShapes (table joint) Any (results_by o) results) is h.0, store_free joint fits Any (λ _. ⊥) store h.1)

    from_end : (e : End) → EndFits joint fits side Any w e → IsProperEnd joint side call.unit e
    from_end (Trapped t) h = tt
    from_end (Returned results store) h =
        (subst (λ o. HaveShapes (table joint) Any (results_by o) results) (sym is) h.0, store_free joint fits (λ _. ⊥) Any store h.1)

    each_answer : (q : Request) (v : Unit) (e : End) → Callee q → unit_of joint side q.unit ≡ Some v → answers q ≡ Some e → EndFits joint fits side Any v e
    each_answer q v e c isv a = as_end q v e isv (proper q e (proper_call q c) a)

    args : HaveShapes (table joint) Any w.inputs call.args
    args = subst (λ o. HaveShapes (table joint) Any (inputs_by o) call.args) is is_proper.arguments

    proper_of_unit : RunsAreProper joint side answers call (Some w)
    proper_of_unit =
        let u = fits.units side call.unit w is in
        let cells = store_free joint fits Any (λ _. ⊥) call.store is_proper.cells in
        record {
          calls = all_mapped _ _ proper_call _ (unit_calls_fit joint fits side Any (MayName joint fits.helpers side call.unit) (λ o m. tt) w u.others u.registers u.body u.stops answers each_answer call.args call.store args cells);
          end = λ e k. from_end e (unit_end_fits joint fits side Any (MayName joint fits.helpers side call.unit) (λ o m. tt) w u.others u.registers u.body u.stops answers each_answer call.args call.store args cells e k);
        }

  by_unit : (call : Request) → IsProper joint side call → (o : Option Unit) → unit_of joint side call.unit ≡ o → RunsAreProper joint side answers call o
  by_unit call p None is = record { calls = tt; end = λ e k. absurd (no_end e k) }
  by_unit call p (Some w) is = proper_of_unit call p w is

  pub proper_run : (call : Request) → IsProper joint side call → RunsAreProper joint side answers call (unit_of joint side call.unit)
  proper_run call p = by_unit call p (unit_of joint side call.unit) refl
