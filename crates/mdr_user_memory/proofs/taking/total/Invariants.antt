use Rattle.std.proofs.Common.{◌≡◌, ◌+◌, drop}
use Rattle.mdr_user_memory.specs.Taking.{total}
use Rattle.mdr_user_memory.proofs.taking.total.Given as goal

abbrev pub invariant-loop-new : goal.invariant-loop-new
invariant-loop-new l = l.sum + total (drop l.new-index l.news) ≡ total l.news
