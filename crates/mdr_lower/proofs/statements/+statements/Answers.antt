use Rattle.std.proofs.Common.{◌≡◌, List, [], map, subst, sym}
use Rattle.mdr_rich.specs.declared.code.Clause.{Clause as RichClause}
use Rattle.mdr_rich.specs.declared.code.Step.{Step as RichStep}
use Rattle.mdr_rich.specs.declared.code.Stmt.{Stmt as RichStmt}
use Rattle.mdr_lower.specs.Apart.{arms, outside}
use Rattle.mdr_lower.specs.Lowering.{within, step_lowered, clause_lowered, stmt_lowered}
use Rattle.mdr_lower.proofs.Chained.{switch_grown}
use Rattle.mdr_lower.proofs.Connected.{then_ok}
use Rattle.mdr_lower.proofs.statements.+statements.Goals as goal

pub put_step-returns-in_ok-default-in-Switch : goal.put_step-returns-in_ok-default-in-Switch
put_step-returns-in_ok-default-in-Switch t c =
    let n = c.args.number in
    let w = c.args.work.now in
    let w1 = c.kept_value.new.work in
    let w2 = c.arms_apart.new.work in
    let w3 = c.list_apart-in-Switch.new.work in
    let i = c.in_ok-slot-in-Switch.slot in
    let ys = c.in_ok-arms-in-Switch.arms in
    let d = c.in_ok-default-in-Switch.default in
    then_ok c.put_arms.result
    (λ is.
    subst (λ (s : RichStep). c.put_arms.new.work ≡ step_lowered s n w) (sym c.in-Switch.is)
    (switch_grown n c.in-Switch.value c.in-Switch.clauses c.in-Switch.default w w1 w2 w3 c.put_arms.new.work i ys d c.in_ok-slot-in-Switch.ensures.told c.in_ok-slot-in-Switch.ensures.grown
    (subst (λ (cs : List RichClause). ys ≡ (arms i (map clause_lowered cs) [] w1).1) c.as_slice-in-Switch.ensures c.in_ok-arms-in-Switch.ensures.told)
    (subst (λ (cs : List RichClause). w2 ≡ (arms i (map clause_lowered cs) [] w1).0) c.as_slice-in-Switch.ensures c.in_ok-arms-in-Switch.ensures.grown)
    (subst (λ (ss : List RichStmt). d ≡ (within w2 (map stmt_lowered ss)).code) c.as_slice-in-Switch-2.ensures c.in_ok-default-in-Switch.ensures.told)
    (subst (λ (ss : List RichStmt). w3 ≡ outside w2.code (within w2 (map stmt_lowered ss))) c.as_slice-in-Switch-2.ensures c.in_ok-default-in-Switch.ensures.grown) is))
    c.put_arms.ensures
