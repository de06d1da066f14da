use Rattle.std.proofs.Common.{◌≡◌, ◌++◌, drop}
use Rattle.mdr_copy.specs.Namings.{is_listed, news_by}
use Rattle.mdr_copy.proofs.told.news_of.Given as goal

abbrev pub invariant-loop-block : goal.invariant-loop-block
invariant-loop-block l = l.out.items ++ news_by l.copy (is_listed l.named) (drop l.block-index l.memory) ≡ news_by l.copy (is_listed l.named) l.memory
