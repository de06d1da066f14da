use Rattle.std.proofs.Common.{◌≡◌, ◌∙◌, map, subst}
use Rattle.mdr_exchanges.specs.Runs.{run_over, sent_of}
use Rattle.mdr_model.specs.Text.{text}
use Rattle.mdr_near.specs.HalfState.{HalfState, driver_held}
use Rattle.mdr_region.specs.Layout.{places_of}
use Rattle.mdr_split.specs.AnyAnswers.{kernel_in}
use Rattle.mdr_top.proofs.Sending.{sent_whole}
use Rattle.mdr_top.proofs.loading.began.Goals as goal

pub returns-clause-part : goal.returns-clause-part
returns-clause-part g c =
    sent_whole c.args.program.now c.args.plan.now c.args.script.now c.args.ticks (g.F.Far.calls c.args.far.now) (g.F.Far.calls c.run.new.far) (g.F.Far.exchanges c.run.new.far)
    (subst (λ (h : HalfState). sent_of (g.F.Far.exchanges c.run.new.far) ≡ map text (run_over (driver_held h) c.args.script.now c.args.ticks (g.F.Far.exchanges c.run.new.far)).sent) c.new-half.ensures c.in_ok-outcome.ensures.run.messages)
    c.in_ok-outcome.ensures.called

pub returns-clause-laid : goal.returns-clause-laid
returns-clause-laid g c =
    c.layout-layout.ensures
    ∙ subst (λ (h : HalfState). c.run.new.self.layout ≡ places_of (kernel_in (run_over (driver_held h) c.args.script.now c.args.ticks (g.F.Far.exchanges c.run.new.far)).pending).world.lives) c.new-half.ensures c.in_ok-outcome.ensures.left.laid
