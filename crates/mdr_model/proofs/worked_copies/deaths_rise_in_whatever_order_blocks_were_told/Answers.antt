use Rattle.mdr_model.proofs.WorkedCopyProofs.{deaths_rise}
use Rattle.mdr_model.proofs.worked_copies.deaths_rise_in_whatever_order_blocks_were_told.Goals as goal

pub returns : goal.returns
returns c = deaths_rise
