use Rattle.std.proofs.Common.{◌∙◌, ap, List, [], subst, sym}
use Rattle.mdr_watched.specs.Views.{opened}
use Rattle.mdr_watch.specs.Watching.{driver_in}
use Rattle.mdr_world.specs.Driven.{Driven}
use Rattle.mdr_turns.specs.declared.state.Frame.{Frame}
use Rattle.mdr_turns.specs.States.{IsBehind}
use Rattle.mdr_turns.proofs.Behind.{first_behind}
use Rattle.mdr_turns.proofs.Calling.{user_commanded}
use Rattle.mdr_turns.proofs.commands.upcall_command.Goals as goal

pub returns-in_ok-pending-in-Ok-clause-comes : goal.returns-in_ok-pending-in-Ok-clause-comes
returns-in_ok-pending-in-Ok-clause-comes c = λ script go.
    user_commanded (driver_in c.args.watch) c.args.func c.args.args.now c.args.begun c.args.between.ledger c.args.between.world c.note_call.new.world c.new.result script go c.in_ok-pending-in-Ok.pending c.requires.user c.requires.between.same c.in-Ok.ensures.begun
    c.new.ensures (c.in_ok-pending-in-Ok.ensures.comes script c.args.between.world.world)

pub calls-requires-clause-between : goal.calls-requires-clause-between
calls-requires-clause-between c = record {
  same = ap (λ (d : Driven). d.program) c.in-Ok.ensures.begun ∙ c.requires.between.same;
  passes = c.requires.between.passes;
  alone = ap (λ (d : Driven). d.world.views) c.in-Ok.ensures.begun ∙ c.requires.between.alone;
}

pub calls-requires-clause-behind : goal.calls-requires-clause-behind
calls-requires-clause-behind c =
    subst (λ (fs : List Frame). IsBehind c.args.watch.program.now (opened [] c.note_call.new.world.world) (record { frames = fs; done = c.args.begun })) (sym c.new.ensures)
    (first_behind c.args.watch.program.now c.note_call.new.world.world c.args.begun (ap (λ (d : Driven). d.world.views) c.in-Ok.ensures.begun ∙ c.requires.between.alone))
