use Rattle.std.proofs.Common.{◌∙◌}
use Rattle.mdr_region.proofs.HoleLaws.{cut_none}
use Rattle.mdr_region.proofs.places.place.Goals as goal

pub returns-in-None-checked_add-clause-as_before :
    goal.returns-in-None-checked_add-clause-as_before
returns-in-None-checked_add-clause-as_before c = c.take_first.ensures.holes ∙ cut_none c.args.n c.args.holes.now.items c.in-None.ensures.start
