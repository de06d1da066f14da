use Rattle.std.proofs.Common.{◌∙◌, sym}
use Rattle.mdr_exec.specs.Found.{body_codes}
use Rattle.mdr_exec.proofs.BehindLaws.{again_at, past_at}
use Rattle.mdr_exec.proofs.behind.next_behind.Goals as goal

pub returns-then-is_behind_while : goal.returns-then-is_behind_while
returns-then-is_behind_while c =
    again_at (body_codes c.args.program.now c.args.machine.now.top.func) c.args.machine.now.top.path c.in-Some.path.now c.in-Some.p.now (sym c.as_slice.ensures ∙ c.in-Some.ensures.cases.0) c.in-Body.is
    (c.is_behind_while.ensures c.if-is_behind_while.true)

pub returns-in-One : goal.returns-in-One
returns-in-One c =
    past_at (body_codes c.args.program.now c.args.machine.now.top.func) c.args.machine.now.top.path c.in-Some.path.now c.in-Some.p.now (sym c.as_slice.ensures ∙ c.in-Some.ensures.cases.0) c.in-One.is
