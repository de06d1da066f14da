use Rattle.std.proofs.Common.{◌∙◌, ap, is_some}
use Rattle.mdr_region.specs.Holes.{first_fit}
use Rattle.mdr_region.proofs.HoleLaws.{some_fits}
use Rattle.mdr_region.proofs.places.Places.has_hole.Goals as goal

pub returns : goal.returns
returns c = c.is_some.ensures ∙ (ap is_some (c.first_of.ensures ∙ ap (first_fit c.args.n 0) c.deref.ensures.value) ∙ some_fits c.args.n 0 c.args.self.now.holes.items)
