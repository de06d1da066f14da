use Rattle.mdr_user_code.proofs.ReadyLaws.{as_many}
use Rattle.mdr_user_code.proofs.ready.answer.Goals as goal

pub resume-requires-clause-fit : goal.resume-requires-clause-fit
resume-requires-clause-fit c = c.requires.fit c.as_slice.result.now (as_many c.as_slice.result.now c.in_ok-values.values c.args.results.now c.as_slice.ensures c.in_ok-values.ensures)
