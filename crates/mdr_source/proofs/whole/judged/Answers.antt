use Rattle.std.proofs.Common.{◌≡◌, subst, MatchResult}
use Rattle.mdr_faults.specs.Faults.{Right, IsFirst}
use Rattle.mdr_source.specs.Sources.{Judged}
use Rattle.mdr_source.proofs.whole.judged.Goals as goal

pub returns-in-Err : goal.returns-in-Err
returns-in-Err c = λ found first. Judged.fault c.in-Err.fault (subst (λ r. MatchResult r (λ p. found ≡ Right p) (λ f. IsFirst f found)) c.in-Err.is first)
