use Rattle.std.proofs.Common.{◌∙◌, sym}
use Rattle.mdr_watch.proofs.Turns.{ticked_on, ticked_out}
use Rattle.mdr_watch.proofs.turn.tick.Goals as goal

pub returns : goal.returns
returns c = ticked_on c.args.activation c.args.at c.args.machine.now c.run_through.new.machine c.args.guarded.now c.run_through.new.guarded c.in_ok-event.event c.in_ok-event.ensures

pub returns-then-rest-eq0 : goal.returns-then-rest-eq0
returns-then-rest-eq0 c = ticked_out c.args.activation c.args.at c.args.machine.now c.args.machine.now c.args.guarded.now (sym c.rest.ensures ∙ c.if-rest-eq0.true)
