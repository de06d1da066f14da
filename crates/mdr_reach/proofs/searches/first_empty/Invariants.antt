use Rattle.std.proofs.Common.{◌≡◌, ◌+◌, ◌-◌, ◌*◌, map}
use Rattle.std.specs.Prelude.{slice_get}
use Rattle.mdr_extents.specs.Extent.{first_of, is_empty}
use Rattle.mdr_meaning.specs.Values.{wire_of}
use Rattle.mdr_reach.proofs.searches.first_empty.Given as goal

abbrev pub invariant-loop-i : goal.invariant-loop-i
invariant-loop-i l =
    first_of (λ i. is_empty (slice_get (map wire_of l.cells) (l.first + i * l.size + l.start))) l.i (l.end - l.i)
    ≡ first_of (λ i. is_empty (slice_get (map wire_of l.cells) (l.first + i * l.size + l.start))) l.from (l.end - l.from)

abbrev pub decreases-loop-i : goal.decreases-loop-i
decreases-loop-i l = l.end - l.i
