use Rattle.std.proofs.Common.{length}
use Rattle.mdr_paths.specs.Marking.{TellsBelow}
use Rattle.mdr_slice.specs.Marks.{HasBoth}
use Rattle.mdr_slice.proofs.halves.both.Given as goal

abbrev pub invariant-loop-at : goal.invariant-loop-at
invariant-loop-at l = TellsBelow (length l.one) l.at (HasBoth l.one l.other) l.marks.items
