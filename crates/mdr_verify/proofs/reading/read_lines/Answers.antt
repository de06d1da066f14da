use Rattle.std.proofs.Common.{◌≡◌, ◌+◌, length, None, sym, subst, arith, rules}
use Rattle.mdr_verify.specs.declared.reader.Reader.{Reader}
use Rattle.mdr_verify.specs.Steps.{after}
use Rattle.mdr_verify.specs.Reading.{Progress}
use Rattle.mdr_verify.proofs.Splits.{IsCut, few_by, none_left}
use Rattle.mdr_verify.proofs.Going.{begins, goes_by, refused_by, open_line, finished}
use Rattle.mdr_verify.proofs.reading.read_lines.Goals as goal

pub loop-rest-init : goal.loop-rest-init
loop-rest-init c = record {
  progress = subst (λ (r : Reader). Progress c.args.bytes.now c.args.bytes.now 1 r) (sym c.new-reader.ensures) (begins c.args.bytes.now);
  few = omega arith;
}

pub returns-in-Err-Refused : goal.returns-in-Err-Refused
returns-in-Err-Refused c =
    let cut : IsCut c.loop-rest.rest.now c.in-Some.line.now c.in-Some.after.now = record { front = c.in-Some.ensures.0; behind = c.in-Some.ensures.1; newline = c.in-Some.ensures.2 } in
    let none : after c.loop-rest.reader c.in-Some.line.now ≡ None = rw c.in-Err-Refused.field-0-is at c.in-Err-Refused.ensures in
    refused_by c.args.bytes.now c.loop-rest.rest.now c.in-Some.line.now c.in-Some.after.now c.loop-rest.number c.loop-rest.reader c.loop-rest.invariant.progress cut none

pub loop-rest-preserved : goal.loop-rest-preserved
loop-rest-preserved c =
    let cut : IsCut c.loop-rest.rest.now c.in-Some.line.now c.in-Some.after.now = record { front = c.in-Some.ensures.0; behind = c.in-Some.ensures.1; newline = c.in-Some.ensures.2 } in
    record {
      progress = goes_by c.args.bytes.now c.loop-rest.rest.now c.in-Some.line.now c.in-Some.after.now c.loop-rest.number c.loop-rest.reader c.step.new.self c.loop-rest.invariant.progress cut c.in-Ok.ensures;
      few = few_by c.loop-rest.rest.now c.in-Some.line.now c.in-Some.after.now c.loop-rest.number (1 + length c.args.bytes.now) cut c.loop-rest.invariant.few;
    }

pub returns-in_default : goal.returns-in_default
returns-in_default c = open_line c.args.bytes.now c.loop-rest.rest.now c.loop-rest.number c.loop-rest.reader c.loop-rest.invariant.progress c.in_default.ensures (search rules)

pub returns : goal.returns
returns c = finished c.args.bytes.now c.loop-rest.rest.now c.loop-rest.number c.loop-rest.reader c.finish.result c.loop-rest.invariant.progress (none_left c.loop-rest.rest.now c.is_empty.result c.is_empty.ensures c.loop-rest-test.false) c.finish.ensures
