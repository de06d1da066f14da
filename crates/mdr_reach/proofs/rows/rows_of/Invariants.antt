use Rattle.mdr_reach.specs.Spots.{AreRows}
use Rattle.mdr_reach.proofs.rows.rows_of.Given as goal

abbrev pub invariant-loop-s : goal.invariant-loop-s
invariant-loop-s l = AreRows l.structs l.touched l.s l.rows
