use Rattle.std.proofs.Common.{◌≡◌, drop}
use Rattle.mdr_model.specs.Agreement.{news_at}
use Rattle.mdr_fits.proofs.results.news_at.Given as goal

abbrev pub invariant-loop-new : goal.invariant-loop-new
invariant-loop-new l = news_at (drop l.new-index l.news) l.serial ≡ news_at l.news l.serial
