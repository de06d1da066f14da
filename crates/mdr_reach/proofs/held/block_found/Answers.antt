use Rattle.std.proofs.Common.{sym, ◌∙◌}
use Rattle.mdr_reach.proofs.BlockLaws.{handle_found, none_born}
use Rattle.mdr_reach.proofs.held.block_found.Goals as goal

pub held_by-requires-clause-alive : goal.held_by-requires-clause-alive
held_by-requires-clause-alive c = (handle_found c.args.scene.blocks.now.handles c.args.serial c.in-Some.b (sym c.find.ensures ∙ c.in-Some.is)).0

pub returns-in-Some-clause-serial : goal.returns-in-Some-clause-serial
returns-in-Some-clause-serial c = c.held_by.ensures.serial ∙ (handle_found c.args.scene.blocks.now.handles c.args.serial c.in-Some.b (sym c.find.ensures ∙ c.in-Some.is)).1

pub returns-in-None-clause-held : goal.returns-in-None-clause-held
returns-in-None-clause-held c = none_born c.args.scene.blocks.now c.args.serial c.births-in_order.ensures.in_order (sym c.find.ensures ∙ c.in-None.is)
