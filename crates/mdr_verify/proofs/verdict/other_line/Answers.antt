use Rattle.std.proofs.Common.{◌+◌, length, arith}
use Rattle.mdr_verify.proofs.Splits.{IsCut, few_by}
use Rattle.mdr_verify.proofs.Alike.{bytes_same, bytes_differ, none_read, alike_on, rest_differs}
use Rattle.mdr_verify.proofs.verdict.other_line.Goals as goal

pub loop-line-init : goal.loop-line-init
loop-line-init c = record { alike = none_read c.args.said.now c.args.due.now; few = omega arith }

pub loop-line-preserved : goal.loop-line-preserved
loop-line-preserved c =
    let said : IsCut c.loop-line.said_rest.now c.in-Some.line.now c.in-Some.after.now = record { front = c.in-Some.ensures.0; behind = c.in-Some.ensures.1; newline = c.in-Some.ensures.2 } in
    let due : IsCut c.loop-line.due_rest.now c.in-Some-split_line.other.now c.in-Some-split_line.due_after.now = record { front = c.in-Some-split_line.ensures.0; behind = c.in-Some-split_line.ensures.1; newline = c.in-Some-split_line.ensures.2 } in
    record {
      alike = alike_on c.args.said.now c.args.due.now c.loop-line.said_rest.now c.loop-line.due_rest.now c.in-Some.line.now c.in-Some-split_line.other.now c.in-Some.after.now c.in-Some-split_line.due_after.now c.loop-line.number c.loop-line.invariant.alike said due (bytes_same c.in-Some.line.now c.in-Some-split_line.other.now c.ne.result c.ne.ensures c.if-ne.false);
      few = few_by c.loop-line.said_rest.now c.in-Some.line.now c.in-Some.after.now c.loop-line.number (1 + length c.args.said.now) said c.loop-line.invariant.few;
    }

pub returns-else-eq : goal.returns-else-eq
returns-else-eq c = rest_differs c.args.said.now c.args.due.now c.loop-line.said_rest.now c.loop-line.due_rest.now c.loop-line.number c.loop-line.invariant.alike c.in_default.ensures (bytes_differ c.loop-line.said_rest.now c.loop-line.due_rest.now c.eq.result c.eq.ensures c.if-eq.false)
