use Rattle.std.proofs.Common.{ap, sym, ◌∙◌, subst}
use Rattle.mdr_model.specs.Memory.{killed}
use Rattle.mdr_copy.specs.Serials.{Rise}
use Rattle.mdr_copy.proofs.Orders.{killed_from}
use Rattle.mdr_copy.proofs.lives.without_one.Goals as goal

pub of-requires : goal.of-requires
of-requires c = subst Rise (sym (c.in_ok-left.ensures ∙ ap (killed c.args.serial) c.as_slice.ensures.blocks)) (killed_from 0 c.args.serial c.args.memory.now c.as_slice.ensures.rises)
