use Rattle.mdr_split.proofs.RefusalLaws.{refused_are_left_out, refused_leaves_user}
use Rattle.mdr_split.proofs.laws.refused_messages_change_nothing.Goals as goal

pub returns : goal.returns
returns c = record { stays = refused_leaves_user; left_out = refused_are_left_out }
