use Rattle.mdr_kept.proofs.Making.{bodies_scoped}
use Rattle.mdr_kept.proofs.scope_laws.bodies_are_scoped.Goals as goal

pub returns : goal.returns
returns c = bodies_scoped
