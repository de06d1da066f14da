use Rattle.mdr_model.specs.User.{has_shape}
use Rattle.mdr_user_code.proofs.GrownLaws.{all_there}
use Rattle.mdr_user_code.proofs.grown.put_news.Goals as goal

pub put_own-requires-clause-shaped : goal.put_own-requires-clause-shaped
put_own-requires-clause-shaped c = all_there (has_shape c.args.program.now) c.args.news.now c.loop-block.block-index _ c.requires.shaped c.loop-block-test.true
