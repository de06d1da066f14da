use Rattle.mdr_print.proofs.Folds.{block_is, clause_is, sole_body}
use Rattle.mdr_print.proofs.statement.+state.Goals as goal

pub put_words-returns-in-Block : goal.put_words-returns-in-Block
put_words-returns-in-Block t c = rw (c.in-Block.is, block_is c.in-Block.body) (rw c.as_slice.ensures at c.put_block.ensures)

pub put_body-returns-in-Block : goal.put_body-returns-in-Block
put_body-returns-in-Block t c = rw (c.in-Block.is, block_is c.in-Block.body) (rw c.as_slice.ensures at c.put_lines.ensures)

pub put_body-returns-in_default : goal.put_body-returns-in_default
put_body-returns-in_default t c = rw (sole_body c.args.s.now c.in_default.not-Block c.args.depth) c.put_line.ensures

pub put_clause-returns : goal.put_clause-returns
put_clause-returns t c = rw (clause_is c.args.c.now) (rw (c.as_slice.ensures, c.as_slice-2.ensures) at c.put_labelled.ensures)

pub put_inside-returns : goal.put_inside-returns
put_inside-returns t c = rw c.in_ok-inside.ensures at c.put_lines.ensures
