use Rattle.mdr_viewed.proofs.Ticks.{user_code_keeps_ticks}
use Rattle.mdr_viewed.proofs.laws.user_code_keeps_ticks.Goals as goal

pub returns : goal.returns
returns c = user_code_keeps_ticks
