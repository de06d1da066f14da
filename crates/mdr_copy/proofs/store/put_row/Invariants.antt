use Rattle.std.proofs.Common.{◌≡◌, ◌+◌, drop}
use Rattle.mdr_model.specs.Copies.{numbered, put_all}
use Rattle.mdr_copy.proofs.store.put_row.Given as goal

abbrev pub invariant-loop-i : goal.invariant-loop-i
invariant-loop-i l = put_all (numbered l.serial (l.first + l.i) (drop l.i l.values)) l.memory ≡ put_all (numbered l.serial l.first l.values) l.initial.memory
