use Rattle.std.proofs.Common.{◌≡◌, ◌++◌, drop}
use Rattle.mdr_meaning.specs.Bodies.{known_of}
use Rattle.mdr_exec.proofs.ParamLaws.{shapes_in}
use Rattle.mdr_exec.proofs.params.shapes_of.Given as goal

abbrev pub invariant-loop-param : goal.invariant-loop-param
invariant-loop-param l = l.shapes ++ shapes_in (known_of l.program) (drop l.param-index l.params) ≡ shapes_in (known_of l.program) l.params
