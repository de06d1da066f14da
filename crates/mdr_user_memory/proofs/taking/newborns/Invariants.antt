use Rattle.std.proofs.Common.{◌≡◌, ◌++◌, map, drop}
use Rattle.mdr_user_memory.specs.Taking.{newborn_of}
use Rattle.mdr_user_memory.proofs.taking.newborns.Given as goal

abbrev pub invariant-loop-new : goal.invariant-loop-new
invariant-loop-new l = l.list ++ map (newborn_of l.program) (drop l.new-index l.news) ≡ map (newborn_of l.program) l.news
