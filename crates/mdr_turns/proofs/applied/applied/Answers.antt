-- Runs without a fault are stored in visible cells alone.
use Rattle.std.proofs.Common.{◌∙◌, ap, refl, subst, sym}
use Rattle.mdr_kernel_memory.specs.Holding.{holding_at}
use Rattle.mdr_limits.proofs.Contained.{faultless_contained}
use Rattle.mdr_model.specs.Copies.{put_runs}
use Rattle.mdr_model.specs.Legal.{IsContained}
use Rattle.mdr_model.specs.Memory.{Memory}
use Rattle.mdr_plain.specs.World.{advanced}
use Rattle.mdr_watched.specs.Views.{top}
use Rattle.mdr_world.specs.Driven.{Driven}
use Rattle.mdr_turns.specs.declared.state.Ledger.{Ledger}
use Rattle.mdr_turns.specs.States.{kernel_in}
use Rattle.mdr_turns.proofs.Behind.{behind_applied, behind_moved}
use Rattle.mdr_turns.proofs.applied.applied.Goals as goal

pub returns-clause-contained : goal.returns-clause-contained
returns-clause-contained c = λ d e.
    subst (λ (m : Memory). IsContained d.program c.args.active.guarded.world.memory m (top c.args.active.guarded.world.views)) (sym (ap (λ (g : Driven). g.world.memory) c.apply-left.ensures))
    (faultless_contained d (kernel_in c.args.active) c.args.runs.now e)

pub returns-clause-kept : goal.returns-clause-kept
returns-clause-kept c = λ watch h. record {
  same = ap (λ (g : Driven). g.program) c.apply-left.ensures ∙ h.same;
  passes = ap (λ (l : Ledger). l.passes) c.agreed_applied.ensures ∙ h.passes;
  behind =
      behind_moved watch.program.now (holding_at (put_runs c.args.runs.now c.args.active.guarded.world.memory) (advanced c.args.ticks c.args.active.guarded.world.clock) c.args.active.guarded).world c.apply-left.result.world c.args.active.behind c.args.active.behind
      (sym (ap (λ (g : Driven). g.world) c.apply-left.ensures)) refl
      (behind_applied watch.program.now c.args.active.guarded.world (put_runs c.args.runs.now c.args.active.guarded.world.memory) c.args.ticks c.args.active.behind h.behind);
}
