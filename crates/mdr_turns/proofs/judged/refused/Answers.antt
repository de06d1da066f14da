use Rattle.mdr_turns.proofs.judged.refused.Goals as goal

pub returns-clause-kept : goal.returns-clause-kept
returns-clause-kept c = λ watch stands. c.over_in.ensures.kept watch (c.active_in.ensures.kept watch stands).same
