use Rattle.std.proofs.Common.{◌≡◌, drop, ◌++◌, map}
use Rattle.mdr_headings.specs.Structs.{member}
use Rattle.mdr_headings.proofs.structs.members.Given as goal

abbrev pub invariant-loop-d : goal.invariant-loop-d
invariant-loop-d l = l.all ++ map (member l.scope l.limit) (drop l.d-index l.ds) ≡ map (member l.scope l.limit) l.ds
