use Rattle.std.proofs.Common.{◌∙◌}
use Rattle.mdr_exec.proofs.declare.declare_object.Goals as goal

pub returns-in_ok-event : goal.returns-in_ok-event
returns-in_ok-event g c = λ program side n s some object asks shape is. c.in_ok-event.ensures program side n s some object (asks ∙ c.if-asks.true) shape is

pub returns-in_ok-bear : goal.returns-in_ok-bear
returns-in_ok-bear g c = λ program side n s some object asks shape is. c.in_ok-bear.ensures program side n s some object (asks ∙ c.if-asks.false) shape is
