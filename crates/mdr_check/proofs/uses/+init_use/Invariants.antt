use Rattle.std.proofs.Common.{◌≡◌, drop, map}
use Rattle.mdr_check.specs.Uses.{first_of, elem_use}
use Rattle.mdr_check.proofs.uses.+init_use.Given as goal

abbrev pub invariant-elems_use-loop-e : goal.invariant-elems_use-loop-e
invariant-elems_use-loop-e l = first_of (map (elem_use l.name) (drop l.e-index l.elems)) ≡ first_of (map (elem_use l.name) l.elems)
