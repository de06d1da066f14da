use Rattle.std.proofs.Common.{◌∙◌, sym}
use Rattle.mdr_user_memory.proofs.TwinLaws.{pair_alive}
use Rattle.mdr_user_memory.proofs.looking.held.Goals as goal

pub named_at-requires-clause-alive : goal.named_at-requires-clause-alive
named_at-requires-clause-alive c = pair_alive c.args.spot.serial c.in-Some.block c.requires (sym c.user_of.ensures.exact ∙ c.in-Some.is)
