use Rattle.std.proofs.Common.{drop}
use Rattle.mdr_user_memory.proofs.LoopLaws.{Bears}
use Rattle.mdr_user_memory.proofs.lists.bear_all.Given as goal

abbrev pub invariant-loop-new : goal.invariant-loop-new
invariant-loop-new l = Bears l.news (drop l.new-index l.news) l.initial.region l.initial.pairs l.region l.pairs
