use Rattle.std.proofs.Common.{◌∙◌}
use Rattle.mdr_user_memory.specs.Spots.{cell_in}
use Rattle.mdr_user_memory.proofs.KeptLaws.{held_is}
use Rattle.mdr_user_memory.proofs.seen_memory.SeenMemory.held.Goals as goal

pub held-requires : goal.held-requires
held-requires c = c.self.invariant.twin.linked

pub returns : goal.returns
returns c = c.held.ensures ∙ held_is c.self.inside.agreed c.self.inside.region c.self.inside.pairs c.self.inside.view _ (cell_in c.args.spot) c.self.view_is c.self.invariant
