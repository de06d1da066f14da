use Rattle.mdr_body.proofs.Folds.{clause_is}
use Rattle.mdr_body.proofs.uses.+use_at.Goals as goal

pub use_in_clause-returns : goal.use_in_clause-returns
use_in_clause-returns t c = rw (clause_is c.args.clause.now) (rw c.as_slice.ensures at c.use_along.ensures)
