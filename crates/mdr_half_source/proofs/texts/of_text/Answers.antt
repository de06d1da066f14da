use Rattle.mdr_half_source.proofs.texts.of_text.Goals as goal

pub returns : goal.returns
returns c = c.in_ok-half.ensures c.args.user.now c.args.plan.now c.in_ok-found.ensures
