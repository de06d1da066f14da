use Rattle.std.proofs.Common.{◌∙◌, ap}
use Rattle.std.specs.Prelude.{is_some}
use Rattle.mdr_user_memory.proofs.KeptLaws.{live_is}
use Rattle.mdr_user_memory.proofs.seen_memory.SeenMemory.is_live.Goals as goal

pub returns : goal.returns
returns c = c.is_some.ensures ∙ ap is_some c.user_of.ensures.exact ∙ live_is c.self.inside.agreed c.self.inside.region c.self.inside.pairs c.self.inside.view _ c.args.serial c.self.view_is c.self.invariant
