use Rattle.std.proofs.Common.{◌∙◌}
use Rattle.mdr_user_memory.proofs.KeptLaws.{kept_seen, seen_is}
use Rattle.mdr_user_memory.proofs.user_memory.UserMemory.seen.Goals as goal

pub seen_memory-requires : goal.seen_memory-requires
seen_memory-requires c = kept_seen c.self.inside.agreed c.self.inside.region c.self.inside.pairs c.self.invariant

pub returns : goal.returns
returns c = c.seen_memory.ensures ∙ seen_is c.self.inside.agreed c.self.inside.region c.self.inside.pairs c.args.view _ c.self.view_is c.self.invariant
