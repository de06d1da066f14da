use Rattle.std.proofs.Common.{length, map}
use Rattle.mdr_paths.specs.Marking.{TellsBelow}
use Rattle.mdr_access.specs.Owned.{Owns}
use Rattle.mdr_access.specs.Told.{form_of}
use Rattle.mdr_access.proofs.owned.form_marks.Given as goal

abbrev pub invariant-loop-at : goal.invariant-loop-at
invariant-loop-at l = TellsBelow (length l.keys) l.at (Owns l.program (map form_of l.forms) l.keys) l.marks.items
