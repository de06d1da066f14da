use Rattle.mdr_turns.proofs.backs.down_gave.Goals as goal

pub returns-in-Stopped-clause-kept : goal.returns-in-Stopped-clause-kept
returns-in-Stopped-clause-kept c = c.over_in.ensures.kept c.args.watch c.requires.active.same
