use Rattle.std.proofs.Common.{◌≡◌, drop, ◌++◌, map}
use Rattle.mdr_headings.specs.Annotations.{candidate}
use Rattle.mdr_headings.proofs.inner.candidates.Given as goal

abbrev pub invariant-loop-d : goal.invariant-loop-d
invariant-loop-d l = l.all ++ map (candidate l.scope) (drop l.d-index l.ds) ≡ map (candidate l.scope) l.ds
