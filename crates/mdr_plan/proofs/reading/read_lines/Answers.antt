use Rattle.std.proofs.Common.{◌+◌, length, Ok, Err, refl, sym, subst, arith, rules}
use Rattle.mdr_plan.specs.declared.plan_error.PlanError.TheVariants.{Line}
use Rattle.mdr_plan.specs.declared.plan_error.PlanKind.TheVariants.{Form}
use Rattle.mdr_plan.specs.declared.reader.Reader.{Reader}
use Rattle.mdr_plan.specs.declared.unread.Unread.TheVariants.{Refused}
use Rattle.mdr_plan.specs.Steps.{StepFails}
use Rattle.mdr_plan.specs.Standing.{IsRefusal}
use Rattle.mdr_plan.specs.Texts.{Progress}
use Rattle.mdr_plan.proofs.Going.{IsCut, begins, goes_by, refused_by, few_by, open_line, finished, none_left}
use Rattle.mdr_plan.proofs.reading.read_lines.Goals as goal

pub loop-rest-init : goal.loop-rest-init
loop-rest-init c = record {
  progress = subst (λ (r : Reader). Progress c.args.bytes.now c.args.bytes.now 1 r) (sym c.new-reader.ensures) (begins c.args.bytes.now);
  few = omega arith;
}

pub returns-in-Err-Refused : goal.returns-in-Err-Refused
returns-in-Err-Refused c =
    let cut : IsCut c.loop-rest.rest.now c.in-Some.line.now c.in-Some.after.now = record { front = c.in-Some.ensures.0; behind = c.in-Some.ensures.1; newline = c.in-Some.ensures.2 } in
    let few = c.loop-rest.invariant.few in
    let small = c.requires in
    let failed : StepFails Refused c.loop-rest.reader c.in-Some.line.now c.step.new.self = rw c.in-Err-Refused.field-0-is at c.in-Err-Refused.ensures in
    refused_by c.args.bytes.now c.loop-rest.rest.now c.in-Some.line.now c.in-Some.after.now c.loop-rest.number c.loop-rest.reader c.refusal.result c.loop-rest.invariant.progress (omega (arith, few, small)) cut failed.0 (subst (λ (r : Reader). IsRefusal r c.in-Some.line.now c.loop-rest.number c.refusal.result) failed.1 c.refusal.ensures)

pub loop-rest-preserved : goal.loop-rest-preserved
loop-rest-preserved c =
    let cut : IsCut c.loop-rest.rest.now c.in-Some.line.now c.in-Some.after.now = record { front = c.in-Some.ensures.0; behind = c.in-Some.ensures.1; newline = c.in-Some.ensures.2 } in
    record {
      progress = goes_by c.args.bytes.now c.loop-rest.rest.now c.in-Some.line.now c.in-Some.after.now c.loop-rest.number c.loop-rest.reader c.step.new.self c.loop-rest.invariant.progress cut c.in-Ok.ensures;
      few = few_by c.loop-rest.rest.now c.in-Some.line.now c.in-Some.after.now c.loop-rest.number (1 + length c.args.bytes.now) cut c.loop-rest.invariant.few;
    }

pub returns-in_default : goal.returns-in_default
returns-in_default c = open_line c.args.bytes.now c.loop-rest.rest.now c.loop-rest.number c.loop-rest.reader c.loop-rest.invariant.progress c.in_default.ensures (search rules)

pub returns-in-Some-finish : goal.returns-in-Some-finish
returns-in-Some-finish c =
    finished c.args.bytes.now c.loop-rest.rest.now c.loop-rest.number c.loop-rest.reader (Ok c.in-Some-finish.plan) c.loop-rest.invariant.progress (none_left c.loop-rest.rest.now c.is_empty.result c.is_empty.ensures c.loop-rest-test.false) c.in-Some-finish.ensures

pub returns-in-None : goal.returns-in-None
returns-in-None c =
    finished c.args.bytes.now c.loop-rest.rest.now c.loop-rest.number c.loop-rest.reader (Err (Line c.loop-rest.number Form)) c.loop-rest.invariant.progress (none_left c.loop-rest.rest.now c.is_empty.result c.is_empty.ensures c.loop-rest-test.false)
    (c.in-None.ensures, refl)
