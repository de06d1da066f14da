use Rattle.std.proofs.Common.{◌≡◌, [], drop, take}
use Rattle.mdr_faults.specs.Faults.{told, followed}
use Rattle.mdr_headings.specs.Heads.{params_behind}
use Rattle.mdr_headings.proofs.head.params.Given as goal

abbrev pub invariant-loop-i : goal.invariant-loop-i
invariant-loop-i l = followed l.all (told (params_behind l.scope l.siblings (take l.i l.ds) (drop l.i l.ds))) ≡ told (params_behind l.scope l.siblings [] l.ds)
