use Rattle.std.proofs.Common.{sym, ◌∙◌}
use Rattle.mdr_world.proofs.HandleLaws.{pointer-current, pointer-dead, pointer-lives}
use Rattle.mdr_world.proofs.handles.pointer_now.Goals as goal

pub returns-in-Some-clause-value : goal.returns-in-Some-clause-value
returns-in-Some-clause-value c = pointer-lives c.args.blocks.now c.args.p c.in-Some.block c.births-in_order.ensures.in_order (sym c.handle.ensures ∙ c.in-Some.is)

pub returns-in-Some-clause-alive : goal.returns-in-Some-clause-alive
returns-in-Some-clause-alive c = pointer-current c.args.blocks.now.handles c.args.p c.in-Some.block _ (sym c.handle.ensures ∙ c.in-Some.is)

pub returns-in-None-clause-value : goal.returns-in-None-clause-value
returns-in-None-clause-value c = pointer-dead c.args.blocks.now c.args.p c.births-in_order.ensures.in_order (sym c.handle.ensures ∙ c.in-None.is)
