use Rattle.std.proofs.Math.Path.{sym, ◌∙◌}
use Rattle.std.proofs.lemmas.List.{at_drop_all}
use Rattle.mdr_core.specs.Services.{directives}
use Rattle.mdr_call.specs.Turns.{core_reading}
use Rattle.mdr_call.proofs.TextTurns.{behind, at_turn, at_go, at_take, at_end}
use Rattle.mdr_call.proofs.directives.directives.Goals.{in-Goes, in-Takes+in_ok-push-in-Takes}
use Rattle.mdr_call.proofs.directives.directives.Goals as goal

pub returns-in-Wrong : goal.returns-in-Wrong
returns-in-Wrong c = at_turn c.args.text.now c.loop-byte.byte-index c.loop-byte.reading _ c.loop-byte.kinds _ c.loop-byte-test.true c.in-Wrong.ensures c.loop-byte.invariant

pub loop-byte-preserved : goal.loop-byte-preserved
loop-byte-preserved c = elim c.match-turn.branch [
  | in-Goes w ↦ at_go c.args.text.now c.loop-byte.byte-index c.loop-byte.reading c.match-turn.reading w.in-Goes.next c.loop-byte.kinds c.match-turn.kinds _ c.loop-byte-test.true w.in-Goes.ensures w.kinds-is w.reading-is c.loop-byte.invariant
  | in-Takes+in_ok-push-in-Takes w ↦ at_take c.args.text.now c.loop-byte.byte-index c.loop-byte.reading c.match-turn.reading w.in-Takes.kind c.loop-byte.kinds c.match-turn.kinds _ c.loop-byte-test.true w.in-Takes.ensures (w.kinds-is ∙ w.in_ok-push-in-Takes.ensures.ok) w.reading-is c.loop-byte.invariant
]

pub returns : goal.returns
returns c = c.ended.ensures ∙ sym (at_end c.loop-byte.reading c.loop-byte.kinds) ∙ sym (at_drop_all (λ bs. behind c.loop-byte.kinds (directives (core_reading c.loop-byte.reading) bs)) c.args.text.now c.loop-byte.byte-index c.loop-byte-test.false) ∙ c.loop-byte.invariant
