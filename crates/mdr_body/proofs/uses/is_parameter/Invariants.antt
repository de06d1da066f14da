use Rattle.std.proofs.Common.{◌≡◌, drop}
use Rattle.mdr_body.specs.Uses.{is_parameter}
use Rattle.mdr_body.proofs.uses.is_parameter.Given as goal

abbrev pub invariant-loop-d : goal.invariant-loop-d
invariant-loop-d l = is_parameter (drop l.d-index l.ds) l.name ≡ is_parameter l.ds l.name
