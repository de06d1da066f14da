use Rattle.std.proofs.Common.{◌≤◌, ◌∙◌, ap, refl, subst, sym}
use Rattle.std.proofs.lemmas.Result.{IfOk-weaker}
use Rattle.mdr_watched.specs.Views.{closed}
use Rattle.mdr_watch.specs.Watching.{driver_in}
use Rattle.mdr_world.specs.Driven.{Driven}
use Rattle.mdr_turns.specs.declared.state.Base.{Base}
use Rattle.mdr_turns.specs.declared.state.Base.TheVariants as began
use Rattle.mdr_turns.specs.Coming.{ReturnsTo}
use Rattle.mdr_turns.specs.States.{kernel_with, waits_over}
use Rattle.mdr_turns.proofs.Behind.{behind_closed, behind_moved, only_commanded, others_open}
use Rattle.mdr_turns.proofs.Resuming.{base_is}
use Rattle.mdr_turns.proofs.Taking.{returns_command, returns_down}
use Rattle.mdr_turns.proofs.returns.resumed.Goals as goal

pub alone-world-requires : goal.alone-world-requires
alone-world-requires c =
    only_commanded c.args.watch.program.now c.args.within.guarded.world c.args.within.behind c.args.frame.wait
    (base_is c.args.watch.program.now c.args.within.guarded.world c.args.within.behind c.args.frame.wait c.args.frame.base began.Commanded c.in-Commanded.is c.requires.behind)

pub command_back-requires-clause-between : goal.command_back-requires-clause-between
command_back-requires-clause-between c = record {
  same = ap (λ (g : Driven). g.program) c.alone-world.ensures.is ∙ c.requires.within.same;
  passes = c.requires.within.passes;
  alone = c.alone-world.ensures.alone;
}

pub command_back-requires-clause-paused : goal.command_back-requires-clause-paused
command_back-requires-clause-paused c = c.requires.behind.paused.0

pub command_back-requires-clause-spent : goal.command_back-requires-clause-spent
command_back-requires-clause-spent c = subst (λ (g : Driven). g.world.clock.rest ≤ c.args.frame.wait.rest) (sym c.alone-world.ensures.is) c.requires.behind.spent.0

pub returns-in-Commanded-clause-comes : goal.returns-in-Commanded-clause-comes
returns-in-Commanded-clause-comes c =
    IfOk-weaker c.command_back.result _ _
    (λ p h.
    subst (λ (s : Base). ReturnsTo (driver_in c.args.watch) p c.args.wire (kernel_with c.args.within.ledger c.args.within.guarded.world) (waits_over (record { wait = c.args.frame.wait; base = s }) c.args.within.behind) c.args.script.now) (sym c.in-Commanded.is)
    (returns_command (driver_in c.args.watch) p c.args.wire c.args.within.ledger c.args.within.behind c.args.script.now c.args.within.guarded c.alone-world.result c.args.frame.wait c.alone-world.ensures.is h))
    c.command_back.ensures.comes

pub under-requires : goal.under-requires
under-requires c =
    others_open c.args.watch.program.now c.args.within.guarded.world c.args.within.behind c.args.frame.wait c.in-Down.crossing c.in-Down.open
    (base_is c.args.watch.program.now c.args.within.guarded.world c.args.within.behind c.args.frame.wait c.args.frame.base (began.Down c.in-Down.crossing c.in-Down.open) c.in-Down.is c.requires.behind)

pub down_back-requires-clause-active : goal.down_back-requires-clause-active
down_back-requires-clause-active c = record {
  same = ap (λ (g : Driven). g.program) c.under.ensures ∙ c.requires.within.same;
  passes = c.requires.within.passes;
  behind =
      behind_moved c.args.watch.program.now (closed c.args.within.guarded.world) c.under.result.world c.args.within.behind c.args.within.behind (sym (ap (λ (g : Driven). g.world) c.under.ensures)) refl
      (behind_closed c.args.watch.program.now c.args.within.guarded.world c.args.within.behind c.args.frame.wait c.in-Down.crossing c.in-Down.open
      (base_is c.args.watch.program.now c.args.within.guarded.world c.args.within.behind c.args.frame.wait c.args.frame.base (began.Down c.in-Down.crossing c.in-Down.open) c.in-Down.is c.requires.behind));
}

pub down_back-requires-clause-paused : goal.down_back-requires-clause-paused
down_back-requires-clause-paused c = c.requires.behind.paused.0

pub down_back-requires-clause-spent : goal.down_back-requires-clause-spent
down_back-requires-clause-spent c = subst (λ (g : Driven). g.world.clock.rest ≤ c.args.frame.wait.rest) (sym c.under.ensures) c.requires.behind.spent.0

pub returns-in-Down-clause-comes : goal.returns-in-Down-clause-comes
returns-in-Down-clause-comes c =
    IfOk-weaker c.down_back.result _ _
    (λ p h.
    subst (λ (s : Base). ReturnsTo (driver_in c.args.watch) p c.args.wire (kernel_with c.args.within.ledger c.args.within.guarded.world) (waits_over (record { wait = c.args.frame.wait; base = s }) c.args.within.behind) c.args.script.now) (sym c.in-Down.is)
    (returns_down (driver_in c.args.watch) p c.args.wire c.args.within.ledger c.args.within.behind c.args.script.now c.args.within.guarded c.under.result c.args.frame.wait c.in-Down.crossing c.in-Down.open _ c.under.ensures refl h))
    c.down_back.ensures.comes
