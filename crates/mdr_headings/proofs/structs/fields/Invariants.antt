use Rattle.std.proofs.Common.{◌≡◌, [], drop, take}
use Rattle.mdr_faults.specs.Faults.{told, followed}
use Rattle.mdr_headings.specs.Structs.{fields_behind}
use Rattle.mdr_headings.proofs.structs.fields.Given as goal

abbrev pub invariant-loop-i : goal.invariant-loop-i
invariant-loop-i l = followed l.all (told (fields_behind l.scope l.limit l.siblings (take l.i l.ds) (drop l.i l.ds))) ≡ told (fields_behind l.scope l.limit l.siblings [] l.ds)
