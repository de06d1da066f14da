use Rattle.std.proofs.Common.{◌∙◌}
use Rattle.mdr_user_memory.proofs.LoopLaws.{newborn_is, none_left, popped}
use Rattle.mdr_user_memory.proofs.taking.newborn.Goals as goal

pub returns : goal.returns
returns c =
    newborn_is c.args.program.now c.args.new c.in-Some.block c.as_slice.result.now c.in_ok-values_of-in-Some.field-0
    (popped c.args.program.now c.args.new c.into_vec-zeros.result.items c.pop.new.self.items c.new.result c.in-Some.block c.new.ensures (c.into_vec-zeros.ensures ∙ c.in_ok-blocks.ensures) c.in-Some.ensures.items) c.as_slice.ensures
    c.in_ok-values_of-in-Some.ensures

pub unreachable-requires : goal.unreachable-requires
unreachable-requires c =
    none_left c.args.program.now c.args.new c.into_vec-zeros.result.items c.pop.new.self.items c.new.result _ c.new.ensures (c.into_vec-zeros.ensures ∙ c.in_ok-blocks.ensures) c.in-None.ensures.items c.in-None.ensures.rest
    c.in-None.ensures.cases.0
