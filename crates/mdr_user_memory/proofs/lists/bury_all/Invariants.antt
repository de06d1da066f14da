use Rattle.std.proofs.Common.{drop}
use Rattle.mdr_user_memory.proofs.LoopLaws.{Buries}
use Rattle.mdr_user_memory.proofs.lists.bury_all.Given as goal

abbrev pub invariant-loop-serial : goal.invariant-loop-serial
invariant-loop-serial l = Buries l.serials (drop l.serial-index l.serials) l.initial.region l.initial.pairs l.region l.pairs
