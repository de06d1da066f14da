use Rattle.std.proofs.Common.{length, refl, arith, ◌≤◌, ◌<◌}
use Rattle.mdr_copy.proofs.Inserted.{all_first, news_before}
use Rattle.mdr_copy.proofs.lives.put_news.Goals as goal

pub loop-i-init : goal.loop-i-init
loop-i-init c = (omega arith, all_first c.args.program.now c.args.news.now c.args.copy.now)

pub loop-i-preserved : goal.loop-i-preserved
loop-i-preserved c =
    let within : c.loop-i.i ≤ length c.args.news.now = c.loop-i.invariant.0 in
    let some : 0 < c.loop-i.i = c.loop-i-test.true in
    (omega (arith, within), news_before c.args.program.now c.args.news.now c.loop-i.i _ _ c.args.copy.now c.loop-i.copy c.put_new.new.copy some within refl c.in_ok-put_new.ensures c.loop-i.invariant.1)
