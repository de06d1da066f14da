use Rattle.std.proofs.Common.{◌∙◌, ap}
use Rattle.mdr_meaning.specs.Bodies.{known_of}
use Rattle.mdr_events.specs.Values.{wires_of}
use Rattle.mdr_exec.proofs.ArgumentLaws.{and_then, rest_from, value_first, value_stops_here, values_begin, values_end}
use Rattle.mdr_exec.proofs.arguments.values.Goals as goal

pub loop-e-init : goal.loop-e-init
loop-e-init g c =
    ap (λ vs. and_then (wires_of vs) (rest_from g.C.Memory.accesses c.args.memory.now (known_of c.args.program.now) (wires_of c.args.slots.now) c.args.es.now 0)) c.new-done.ensures
    ∙ values_begin g.C.Memory.accesses c.args.memory.now (known_of c.args.program.now) (wires_of c.args.slots.now) c.args.es.now

pub loop-e-preserved : goal.loop-e-preserved
loop-e-preserved g c =
    value_first g.C.Memory.accesses c.args.memory.now (known_of c.args.program.now) (wires_of c.args.slots.now) c.args.es.now c.loop-e.e-index c.e-item.result _ c.evaluated.result c.in-Ok.value c.loop-e.done c.push.new.self
    c.loop-e-test.true c.e-item.is c.evaluated.ensures c.in-Ok.is c.in_ok-push-in-Ok.ensures.ok c.loop-e.invariant

pub returns-in-Err : goal.returns-in-Err
returns-in-Err g c =
    value_stops_here g.C.Memory.accesses c.args.memory.now (known_of c.args.program.now) (wires_of c.args.slots.now) c.args.es.now c.loop-e.e-index c.e-item.result _ c.evaluated.result c.in-Err.stop c.loop-e.done
    c.loop-e-test.true c.e-item.is c.evaluated.ensures c.in-Err.is c.loop-e.invariant

pub returns : goal.returns
returns g c = values_end g.C.Memory.accesses c.args.memory.now (known_of c.args.program.now) (wires_of c.args.slots.now) c.args.es.now c.loop-e.e-index c.loop-e.done c.loop-e-test.false c.loop-e.invariant
