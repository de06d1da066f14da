use Rattle.mdr_rich_sources.proofs.WorkedProofs.{do_turns, switch_tries}
use Rattle.mdr_rich_sources.proofs.worked.turns_and_clauses.Goals as goal

pub returns : goal.returns
returns c = record { turns = do_turns; clauses = switch_tries }
