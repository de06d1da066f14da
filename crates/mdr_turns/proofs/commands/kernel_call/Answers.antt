use Rattle.std.proofs.Common.{◌∙◌, ap}
use Rattle.std.proofs.lemmas.Result.{IfOk-weaker}
use Rattle.mdr_watch.specs.Watching.{driver_in}
use Rattle.mdr_world.specs.Driven.{Driven}
use Rattle.mdr_turns.proofs.Calling.{kernel_called}
use Rattle.mdr_turns.proofs.commands.kernel_call.Goals as goal

pub enters-requires-clause-between : goal.enters-requires-clause-between
enters-requires-clause-between c = record {
  same = ap (λ (d : Driven). d.program) c.in-Ok.ensures.begun ∙ c.requires.between.same;
  passes = c.requires.between.passes;
  alone = ap (λ (d : Driven). d.world.views) c.in-Ok.ensures.begun ∙ c.requires.between.alone;
}

pub returns-in-Ok-clause-comes : goal.returns-in-Ok-clause-comes
returns-in-Ok-clause-comes c =
    IfOk-weaker c.enters.result _ _
    (λ r h. λ script go.
    kernel_called (driver_in c.args.watch) c.args.func c.args.args.now c.args.begun c.args.between.ledger c.args.between.world c.note_call.new.world script go r c.requires.kernel c.requires.between.same c.in-Ok.ensures.begun
    (h script c.args.between.world.world go))
    c.enters.ensures.comes
