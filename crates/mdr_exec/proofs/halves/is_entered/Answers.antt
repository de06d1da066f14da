use Rattle.std.proofs.Common.{None, ◌∙◌, ap, sym}
use Rattle.mdr_core.specs.Layout.{chosen}
use Rattle.mdr_meaning.specs.Bodies.{body_of}
use Rattle.mdr_exec.specs.Halves.{is_own}
use Rattle.mdr_exec.proofs.halves.is_entered.Goals as goal

pub returns-then-is_own : goal.returns-then-is_own
returns-then-is_own c =
    ap (λ b. chosen b (body_of c.args.program.now c.args.func) None) (ap (is_own c.args.side) (sym c.is_kernel.ensures) ∙ sym c.is_own.ensures ∙ c.if-is_own.true) ∙ c.has_body.ensures

pub returns-else-is_own : goal.returns-else-is_own
returns-else-is_own c =
    ap (λ b. chosen b (body_of c.args.program.now c.args.func) None) (ap (is_own c.args.side) (sym c.is_kernel.ensures) ∙ sym c.is_own.ensures ∙ c.if-is_own.false)
