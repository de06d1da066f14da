use Rattle.std.proofs.Common.{rules}
use Rattle.mdr_top.proofs.whole_running.ran.Goals as goal

pub returns-clause-run : goal.returns-clause-run
returns-clause-run c = record {
  outcome = c.in_ok-outcome.outcome;
  is_outcome = c.in_ok-outcome.ensures;
  status_is = c.status_of-status.ensures;
  text_is = search rules;
}
