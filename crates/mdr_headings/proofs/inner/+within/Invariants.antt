use Rattle.std.proofs.Common.{◌≡◌, [], drop, map, take}
use Rattle.mdr_faults.specs.Faults.{told, followed}
use Rattle.mdr_headings.specs.Within.{inner, inner_list}
use Rattle.mdr_headings.proofs.inner.+within.Given as goal

abbrev pub invariant-inner_annotations-loop-i : goal.invariant-inner_annotations-loop-i
invariant-inner_annotations-loop-i l = followed l.all (told (inner_list l.scope l.around l.siblings (take l.i l.ds) (map (inner l.scope) (drop l.i l.ds)))) ≡ told (inner_list l.scope l.around l.siblings [] (map (inner l.scope) l.ds))
