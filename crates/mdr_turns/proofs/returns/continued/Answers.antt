use Rattle.std.proofs.Common.{◌∙◌, ap, refl, subst, sym}
use Rattle.std.proofs.lemmas.Result.{IfOk-weaker}
use Rattle.mdr_watch.specs.Watching.{driver_in}
use Rattle.mdr_world.specs.Driven.{Driven}
use Rattle.mdr_turns.specs.declared.state.Behind.{Behind}
use Rattle.mdr_turns.specs.Coming.{NotesIn, ReturnsTo}
use Rattle.mdr_turns.specs.States.{kernel_in, waits_over}
use Rattle.mdr_turns.proofs.Behind.{behind_moved, none_waits, one_waits, only_first}
use Rattle.mdr_turns.proofs.Taking.{returns_noted}
use Rattle.mdr_turns.proofs.returns.continued.Goals as goal

pub alone-world-requires : goal.alone-world-requires
alone-world-requires c =
    only_first c.args.watch.program.now c.args.active.guarded.world c.args.active.behind (none_waits c.args.active.behind.frames c.args.active.behind.done c.in-Nothing.done (sym c.innermost.ensures ∙ c.in-Nothing.is)).0 c.requires.active.behind

pub noted-requires-clause-between : goal.noted-requires-clause-between
noted-requires-clause-between c = record {
  same = ap (λ (g : Driven). g.program) c.alone-world.ensures.is ∙ c.requires.active.same;
  passes = c.requires.active.passes;
  alone = c.alone-world.ensures.alone;
}

pub returns-in-Nothing-clause-comes : goal.returns-in-Nothing-clause-comes
returns-in-Nothing-clause-comes c =
    let none = none_waits c.args.active.behind.frames c.args.active.behind.done c.in-Nothing.done (sym c.innermost.ensures ∙ c.in-Nothing.is) in
    IfOk-weaker c.noted.result _ _
    (λ p h.
    returns_noted (driver_in c.args.watch) p c.args.wire c.args.active.ledger c.args.active.behind c.args.script.now c.args.active.guarded c.alone-world.result none.0 c.alone-world.ensures.is
    (subst (λ n. NotesIn (driver_in c.args.watch) p c.args.wire c.alone-world.result.world c.args.active.ledger n c.args.script.now) (sym none.1) h))
    c.noted.ensures.comes

pub resumed-requires-clause-behind : goal.resumed-requires-clause-behind
resumed-requires-clause-behind c =
    behind_moved c.args.watch.program.now c.args.active.guarded.world c.args.active.guarded.world c.args.active.behind (waits_over c.in-Over.frame c.in-Over.behind) refl
    (one_waits c.args.active.behind c.in-Over.frame c.in-Over.behind (sym c.innermost.ensures ∙ c.in-Over.is)) c.requires.active.behind

pub returns-in-Over-clause-comes : goal.returns-in-Over-clause-comes
returns-in-Over-clause-comes c =
    IfOk-weaker c.resumed.result _ _
    (λ p h.
    subst (λ (b : Behind). ReturnsTo (driver_in c.args.watch) p c.args.wire (kernel_in c.args.active) b c.args.script.now)
    (sym (one_waits c.args.active.behind c.in-Over.frame c.in-Over.behind (sym c.innermost.ensures ∙ c.in-Over.is))) h)
    c.resumed.ensures.comes
