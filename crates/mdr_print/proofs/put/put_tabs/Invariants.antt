use Rattle.std.proofs.Common.{◌≡◌, ◌++◌, ◌-◌, List}
use Rattle.mdr_print.specs.Marks.{Mark, spell, tabs}
use Rattle.mdr_print.proofs.put.put_tabs.Given as goal

abbrev pub invariant-loop : goal.invariant-loop
invariant-loop l = (rest : List Mark) → l.out.items ++ spell (tabs (l.depth - l.counter) rest) ≡ l.initial.out.items ++ spell (tabs l.depth rest)
