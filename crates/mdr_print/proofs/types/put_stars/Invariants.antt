use Rattle.std.proofs.Common.{◌≡◌, ◌++◌, ◌-◌, List}
use Rattle.mdr_print.specs.Marks.{Mark, spell}
use Rattle.mdr_print.specs.Types.{stars}
use Rattle.mdr_print.proofs.types.put_stars.Given as goal

abbrev pub invariant-loop : goal.invariant-loop
invariant-loop l = (rest : List Mark) → l.out.items ++ spell (stars (l.count - l.counter) rest) ≡ l.initial.out.items ++ spell (stars l.count rest)
