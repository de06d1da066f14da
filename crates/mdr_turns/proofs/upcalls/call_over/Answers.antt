use Rattle.std.proofs.Common.{◌∙◌, ap, refl, sym}
use Rattle.std.proofs.lemmas.Result.{IfOk-weaker}
use Rattle.mdr_events.specs.Values.{wires_of}
use Rattle.mdr_watched.specs.Views.{opened}
use Rattle.mdr_watch.specs.Watching.{driver_in}
use Rattle.mdr_world.specs.Driven.{Driven, driver}
use Rattle.mdr_turns.proofs.Behind.{behind_moved}
use Rattle.mdr_turns.proofs.Messages.{call_from}
use Rattle.mdr_turns.proofs.upcalls.call_over.Goals as goal

pub call_opened-requires-clause-within : goal.call_opened-requires-clause-within
call_opened-requires-clause-within c = record { same = ap (λ (g : Driven). g.program) c.in-Ok.ensures ∙ c.requires.within.same; passes = c.requires.within.passes }

pub call_opened-requires-clause-behind : goal.call_opened-requires-clause-behind
call_opened-requires-clause-behind c =
    behind_moved c.args.watch.program.now (opened c.args.set c.args.within.guarded.world) c.in-Ok.guarded.world c.args.within.behind c.args.within.behind (sym (ap (λ (g : Driven). g.world) c.in-Ok.ensures)) refl c.requires.behind

pub returns-in-Ok-clause-comes : goal.returns-in-Ok-clause-comes
returns-in-Ok-clause-comes c =
    IfOk-weaker c.call_opened.result _ _
    (λ p h. λ script before.
    call_from (driver_in c.args.watch) before script p c.in-Ok.guarded (driver c.args.within.guarded.program (opened c.args.set c.args.within.guarded.world)) c.args.within.ledger c.args.within.ledger c.args.within.behind c.args.within.behind c.in-Ok.ensures refl refl
    c.args.callee.func c.args.callee.depth (wires_of c.args.callee.args.now) (h script before))
    c.call_opened.ensures.comes
