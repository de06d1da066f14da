use Rattle.std.proofs.Common.{◌∙◌, ap, refl, sym}
use Rattle.std.proofs.lemmas.Result.{IfOk-weaker}
use Rattle.mdr_events.specs.Values.{wires_of}
use Rattle.mdr_watched.specs.Views.{opened}
use Rattle.mdr_watch.specs.Watching.{driver_in}
use Rattle.mdr_world.specs.Driven.{Driven, driver}
use Rattle.mdr_turns.proofs.Behind.{behind_moved}
use Rattle.mdr_turns.proofs.Messages.{call_from}
use Rattle.mdr_turns.proofs.upcalls.call_first.Goals as goal

pub call_opened-requires-clause-within : goal.call_opened-requires-clause-within
call_opened-requires-clause-within c = record { same = ap (λ (g : Driven). g.program) c.new-guarded.ensures ∙ c.requires.between.same; passes = c.requires.between.passes }

pub call_opened-requires-clause-behind : goal.call_opened-requires-clause-behind
call_opened-requires-clause-behind c =
    behind_moved c.args.watch.program.now (opened c.args.set c.args.between.world.world) c.new-guarded.result.world c.args.behind c.args.behind (sym (ap (λ (g : Driven). g.world) c.new-guarded.ensures)) refl c.requires.behind

pub returns-clause-comes : goal.returns-clause-comes
returns-clause-comes c =
    IfOk-weaker c.call_opened.result _ _
    (λ p h. λ script before.
    call_from (driver_in c.args.watch) before script p c.new-guarded.result (driver c.args.between.world.program (opened c.args.set c.args.between.world.world)) c.args.between.ledger c.args.between.ledger c.args.behind c.args.behind c.new-guarded.ensures refl refl
    c.args.callee.func c.args.callee.depth (wires_of c.args.callee.args.now) (h script before))
    c.call_opened.ensures.comes
