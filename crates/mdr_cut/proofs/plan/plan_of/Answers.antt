use Rattle.mdr_cut.proofs.plan.plan_of.Goals as goal

pub roots_of-requires : goal.roots_of-requires
roots_of-requires c = c.requires.numbers

pub slice-requires-clause-few : goal.slice-requires-clause-few
slice-requires-clause-few c = c.requires.numbers
