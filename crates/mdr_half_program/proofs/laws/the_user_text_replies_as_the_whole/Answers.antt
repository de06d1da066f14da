use Rattle.mdr_half_program.proofs.Printed.{the_user_text_replies_as_the_whole}
use Rattle.mdr_half_program.proofs.laws.the_user_text_replies_as_the_whole.Goals as goal

pub returns : goal.returns
returns c = the_user_text_replies_as_the_whole
