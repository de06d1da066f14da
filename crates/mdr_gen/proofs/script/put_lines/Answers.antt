use Rattle.std.proofs.Common.{◌≡◌, ◌++◌, ◌-◌, ◌∙◌, ap, arith, subst, sym}
use Rattle.mdr_gen.specs.Generator.{next, line_of, lines_from}
use Rattle.mdr_gen.proofs.Lines.{none, more}
use Rattle.mdr_gen.proofs.script.put_lines.Goals as goal

pub loop-left-preserved : goal.loop-left-preserved
loop-left-preserved c =
    let lt = c.loop-left-test.true in
    let put : c.put_line.new.out.items ≡ c.loop-left.out.items ++ line_of (next c.loop-left.x) = c.in_ok-put_line.ensures ∙ ap (λ x. c.loop-left.out.items ++ line_of x) c.next-x.ensures in
    subst (λ x. c.put_line.new.out.items ++ lines_from x (c.loop-left.left - 1) ≡ c.args.out.now.items ++ lines_from c.args.seed c.args.size) (sym c.next-x.ensures)
    (more c.loop-left.x c.loop-left.left (c.loop-left.left - 1) c.loop-left.out.items c.put_line.new.out.items (c.args.out.now.items ++ lines_from c.args.seed c.args.size) (omega (arith, lt)) put c.loop-left.invariant)

pub returns : goal.returns
returns c = none c.loop-left.x c.loop-left.left c.loop-left.out.items (c.args.out.now.items ++ lines_from c.args.seed c.args.size) (λ h. let k = c.loop-left-test.false in omega (arith, h, k)) c.loop-left.invariant
