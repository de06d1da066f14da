use Rattle.std.proofs.Common.{◌≡◌, ◌++◌, drop}
use Rattle.mdr_split.specs.User.{cells_of_news}
use Rattle.mdr_user_code.proofs.grown.put_news.Given as goal

abbrev pub invariant-loop-block : goal.invariant-loop-block
invariant-loop-block l = l.out ++ cells_of_news l.program l.touched (drop l.block-index l.news) ≡ l.initial.out ++ cells_of_news l.program l.touched l.news
