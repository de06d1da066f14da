use Rattle.mdr_body.proofs.Folds.{clause_is}
use Rattle.mdr_body.proofs.address.+takes_at.Goals as goal

pub clause_takes-returns : goal.clause_takes-returns
clause_takes-returns t c = rw (clause_is c.args.clause.now) (rw c.as_slice.ensures at c.takes_along.ensures)
