use Rattle.mdr_model.proofs.AgreedMessages.{follows, accepted, tellable, message}
use Rattle.mdr_model.proofs.LifeTests.{lives_pass}
use Rattle.mdr_model.proofs.laws.messages_agree.Goals as goal

pub returns : goal.returns
returns c = λ program known next next' view values copy m m' a f shown. (
  accepted program view values copy m' (follows a f),
  λ blocks. lives_pass program view values copy m' (follows a f) blocks,
  tellable program view values copy m' (follows a f) shown,
  message program view values copy m' (follows a f) shown,
)
