use Rattle.mdr_half_program.proofs.Together.{user_text_gives}
use Rattle.mdr_half_program.proofs.laws.the_user_text_gives_its_part.Goals as goal

pub returns : goal.returns
returns c = user_text_gives
