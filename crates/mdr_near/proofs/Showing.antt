-- What a run shows and leaves is what it ended in.
use Rattle.std.proofs.Common.{◌≡◌, ℕ, ◌+◌, List, length, refl, sym, ap, ◌∙◌, subst, arith}
use Rattle.mdr_core.specs.declared.plan.Plan.{Plan}
use Rattle.mdr_core.specs.declared.program.Program.{Program}
use Rattle.mdr_exchanges.proofs.Endings.{as_before}
use Rattle.mdr_exchanges.proofs.Stops.{exchanges_few}
use Rattle.mdr_exchanges.specs.Ends.{AreFew, IsAsBefore}
use Rattle.mdr_exchanges.specs.Runs.{IsRun, answers_of, run_over}
use Rattle.mdr_model.specs.declared.memory.Cell.{Cell}
use Rattle.mdr_model.specs.declared.outcome.End.{End}
use Rattle.mdr_model.specs.Memory.{Memory}
use Rattle.mdr_near.specs.Endings.{EndsIn}
use Rattle.mdr_outside.specs.declared.far.Exchange.{Exchange}
use Rattle.mdr_plain.specs.declared.outcome.Outcome.{Outcome}
use Rattle.mdr_plain.specs.Outcome.{outcome_of}
use Rattle.mdr_plain.specs.Scripts.{finish}
use Rattle.mdr_plain.specs.World.{World}
use Rattle.mdr_bound.specs.declared.bound.Bound.{Bound}
use Rattle.mdr_region.specs.Layout.{places_of}
use Rattle.mdr_split.specs.AnyAnswers.{kernel_in}
use Rattle.mdr_split.specs.State.{Kernel}
use Rattle.mdr_watch.specs.Leaving.{with_views}
use Rattle.mdr_watched.specs.Driver.{Driver, driver_of}
use Rattle.mdr_world.specs.Driven.{Driven}

-- ---- an outcome

-- nothing is shown of the sets of open upcalls
pub sets_unshown : (program : Program) (end : End) (views : List (List Cell)) (w : World) → outcome_of program (finish end (with_views views w)) ≡ outcome_of program (finish end w)
unfolding outcome_of
sets_unshown program end views w = refl

-- it is the driver's
pub shown_by : (o : Outcome) (program : Program) (end : End) (w : Driven) → w.program ≡ program → o ≡ outcome_of w.program (finish end w.world) → o ≡ outcome_of program (finish end w.world)
shown_by o program end w kept shown = shown ∙ ap (λ (p : Program). outcome_of p (finish end w.world)) kept

pub end_shown : (o : Outcome) (program : Program) (end : End) (w : World) → o ≡ outcome_of program (finish end w) → o.end ≡ end
unfolding outcome_of
end_shown o program end w e = ap (λ (x : Outcome). x.end) e

ticks_shown : (o : Outcome) (program : Program) (end : End) (w : World) → o ≡ outcome_of program (finish end w) → o.ticks ≡ w.clock.ticks
unfolding outcome_of
ticks_shown o program end w e = ap (λ (x : Outcome). x.ticks) e

module _ (program : Program) (plan : Plan) (script : Bound) (budget : ℕ) (es : List Exchange) (end : End) (w : World) where
  abbrev d : Driver
  d = driver_of program plan

  abbrev EndsSo : Type 0
  EndsSo = EndsIn d script budget es end w

  -- the outcome is the run's
  pub shows_run : (o : Outcome) → EndsSo → o ≡ outcome_of program (finish end w) → IsRun d script budget es o
  shows_run o e shown = record {
    messages = e.ended.messages;
    spelled = e.ended.spelled;
    outcome = shown ∙ sym (sets_unshown program end e.left.views w) ∙ sym (ap (λ (x : World). outcome_of program (finish end x)) e.left.world) ∙ sym (ap (outcome_of program) e.ended.ended);
  }

  -- so is the memory
  pub leaves_memory : (memory : Memory) → EndsSo → memory ≡ w.memory → memory ≡ (kernel_in (run_over d script budget es).pending).world.memory
  leaves_memory memory e is = is ∙ sym (ap (λ (x : World). x.memory) e.left.world) ∙ sym (ap (λ (k : Kernel). k.world.memory) e.ended.kernel)

  -- and its layout
  pub leaves_layout : (layout : ℕ × ℕ) → EndsSo → layout ≡ places_of w.lives → layout ≡ places_of (kernel_in (run_over d script budget es).pending).world.lives
  leaves_layout layout e is = is ∙ ap places_of (sym (ap (λ (x : World). x.lives) e.left.world) ∙ sym (ap (λ (k : Kernel). k.world.lives) e.ended.kernel))

  pub leaves_as_before : (o : Outcome) (memory : Memory) → EndsSo → o ≡ outcome_of program (finish end w) → memory ≡ w.memory → IsAsBefore d script budget es memory o.end
  leaves_as_before o memory e shown is =
      subst (λ (x : End). IsAsBefore d script budget es memory x) (sym (end_shown o program end w shown))
      (subst (λ (m : Memory). IsAsBefore d script budget es m end) (ap (λ (x : World). x.memory) e.left.world ∙ sym is)
      (as_before d script budget es end e.kernel e.ended))

  pub sends_few : (o : Outcome) (n : ℕ) → EndsSo → o ≡ outcome_of program (finish end w) → n ≡ length es + length (answers_of es) → AreFew d script budget es n o.ticks
  sends_few o n e shown count =
      let few = exchanges_few d script budget es e.ended.messages in
      let spent : o.ticks ≡ (kernel_in (run_over d script budget es).pending).world.clock.ticks =
      ticks_shown o program end w shown ∙ sym (ap (λ (x : World). x.clock.ticks) e.left.world) ∙ sym (ap (λ (k : Kernel). k.world.clock.ticks) e.ended.kernel) in
      omega (arith, few, spent, count)
