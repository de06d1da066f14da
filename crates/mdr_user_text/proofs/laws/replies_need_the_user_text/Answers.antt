use Rattle.mdr_user_text.proofs.SameReplies.{replies_need_the_user_text}
use Rattle.mdr_user_text.proofs.laws.replies_need_the_user_text.Goals as goal

pub returns : goal.returns
returns c = replies_need_the_user_text
