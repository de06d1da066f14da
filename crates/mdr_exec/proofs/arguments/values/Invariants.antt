use Rattle.std.proofs.Common.{◌≡◌}
use Rattle.mdr_meaning.specs.Bodies.{known_of}
use Rattle.mdr_events.specs.Values.{wires_of}
use Rattle.mdr_exec.proofs.ArgumentLaws.{all_of, and_then, rest_from}
use Rattle.mdr_exec.proofs.arguments.values.Given as goal

-- these values, and then those of the rest
abbrev pub invariant-loop-e : goal.invariant-loop-e
invariant-loop-e g l =
    and_then (wires_of l.done) (rest_from g.C.Memory.accesses l.memory (known_of l.program) (wires_of l.slots) l.es l.e-index)
    ≡ all_of g.C.Memory.accesses l.memory (known_of l.program) (wires_of l.slots) l.es
