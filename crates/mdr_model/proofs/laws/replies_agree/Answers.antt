use Rattle.mdr_model.proofs.AgreedReplies.{tellable, reply_whole, reply_user, replied}
use Rattle.mdr_model.proofs.laws.replies_agree.Goals as goal

pub returns : goal.returns
returns c = λ program known next view copy m w u r. (tellable r, reply_whole r, reply_user r, replied r)
