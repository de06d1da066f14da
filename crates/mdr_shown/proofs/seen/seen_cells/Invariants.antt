use Rattle.std.proofs.Common.{◌≡◌, ◌++◌, drop, map}
use Rattle.mdr_events.specs.Values.{wires_of}
use Rattle.mdr_plain.specs.Outcome.{seen_of}
use Rattle.mdr_shown.proofs.seen.seen_cells.Given as goal

abbrev pub invariant-loop-value : goal.invariant-loop-value
invariant-loop-value l =
    l.cells.items ++ map (seen_of l.program l.met.serials.items) (wires_of (drop l.value-index l.values))
    ≡ map (seen_of l.program l.met.serials.items) (wires_of l.values)
