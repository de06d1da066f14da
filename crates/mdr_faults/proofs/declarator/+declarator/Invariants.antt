use Rattle.std.proofs.Common.{◌≡◌, [], drop, map, take}
use Rattle.mdr_faults.specs.Faults.{told, followed}
use Rattle.mdr_faults.specs.Declarations.{declarator, parameter_list}
use Rattle.mdr_faults.proofs.declarator.+declarator.Given as goal

abbrev pub invariant-parameter_list-loop-i : goal.invariant-parameter_list-loop-i
invariant-parameter_list-loop-i l = followed l.all (told (parameter_list (map (declarator l.scope) (take l.i l.params)) (map (declarator l.scope) (drop l.i l.params)))) ≡ told (parameter_list [] (map (declarator l.scope) l.params))
