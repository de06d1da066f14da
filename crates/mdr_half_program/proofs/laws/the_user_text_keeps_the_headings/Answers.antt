use Rattle.mdr_half_program.proofs.Kept.{user_text_keeps}
use Rattle.mdr_half_program.proofs.laws.the_user_text_keeps_the_headings.Goals as goal

pub returns : goal.returns
returns c = user_text_keeps
