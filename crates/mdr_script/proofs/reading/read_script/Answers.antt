use Rattle.std.proofs.Common.{◌<◌, length, arith}
use Rattle.mdr_syntax.proofs.Lexing.{some_left}
use Rattle.mdr_script.specs.Scripts.{script_of}
use Rattle.mdr_script.proofs.Splits.{begins, few, on_line, fault_of}
use Rattle.mdr_script.proofs.reading.read_script.Goals as goal

pub loop-rest-init : goal.loop-rest-init
loop-rest-init c = begins c.args.bytes.now c.new-script.result c.new-script.ensures

pub returns-in-Err : goal.returns-in-Err
returns-in-Err c =
    let some : 0 < length c.loop-rest.rest.now = some_left c.is_empty.result (length c.loop-rest.rest.now) c.is_empty.ensures c.loop-rest-test.true in
    fault_of c.loop-rest.number c.loop-rest.script c.step.new.self c.in-Err.e c.loop-rest.rest.now c.split_line.result.0.now c.split_line.result.1.now (script_of c.args.bytes.now) some c.split_line.ensures.line c.split_line.ensures.rest c.in-Err.ensures c.loop-rest.invariant

pub overflow_add-number : goal.overflow_add-number
overflow_add-number c =
    let low = few c.loop-rest.number c.loop-rest.script c.step.new.self c.split_line.result.0.now c.in-Ok.ensures in
    omega (arith, low)

pub loop-rest-preserved : goal.loop-rest-preserved
loop-rest-preserved c =
    let some : 0 < length c.loop-rest.rest.now = some_left c.is_empty.result (length c.loop-rest.rest.now) c.is_empty.ensures c.loop-rest-test.true in
    on_line c.loop-rest.number c.loop-rest.script c.step.new.self c.loop-rest.rest.now c.split_line.result.0.now c.split_line.result.1.now _ some c.split_line.ensures.line c.split_line.ensures.rest c.in-Ok.ensures c.loop-rest.invariant
