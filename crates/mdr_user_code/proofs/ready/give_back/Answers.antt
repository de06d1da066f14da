use Rattle.mdr_user_code.proofs.ready.give_back.Goals as goal

pub answer-requires-clause-fit : goal.answer-requires-clause-fit
answer-requires-clause-fit c = λ vs same. c.requires.fit vs
