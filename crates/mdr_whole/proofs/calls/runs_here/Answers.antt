use Rattle.std.proofs.Common.{◌∙◌, sym}
use Rattle.mdr_exec.specs.Halves.{is_kernel, is_own}
use Rattle.mdr_meaning.specs.Bodies.{body_of}
use Rattle.mdr_whole.proofs.Turns.{its_own, not_own}
use Rattle.mdr_whole.proofs.calls.runs_here.Goals as goal

pub returns-then-is_among : goal.returns-then-is_among
returns-then-is_among c =
    c.has_body.ensures
    ∙ its_own (is_own c.args.code.side (is_kernel c.args.code.halves.now c.args.func)) (body_of c.args.code.program.now c.args.func) (sym c.is_among.ensures ∙ c.if-is_among.true)

pub returns : goal.returns
returns c = not_own (is_own c.args.code.side (is_kernel c.args.code.halves.now c.args.func)) (body_of c.args.code.program.now c.args.func) (sym c.is_among.ensures ∙ c.if-is_among.false)
