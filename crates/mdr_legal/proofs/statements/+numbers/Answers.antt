use Rattle.std.proofs.Common.{List, eq-eqb, sym, ap, ◌∙◌}
use Rattle.mdr_core.specs.declared.code.Stmt.{Stmt}
use Rattle.mdr_core.specs.Folds.{codes_of}
use Rattle.mdr_meaning.specs.Fair.{stands}
use Rattle.mdr_legal.proofs.Walks.{not_number, for_first, for_own, for_second, for_third}
use Rattle.mdr_legal.proofs.statements.+numbers.Goals as goal

pub stands_in-returns-then-stands-2 : goal.stands_in-returns-then-stands-2
stands_in-returns-then-stands-2 t c =
    c.if-stands-2.true
    ∙ for_first c.args.number c.args.statement.now c.in-For.init c.in-For.field-1 c.in-For.step c.in-For.body c.in-For.is
    (ap (λ (xs : List Stmt). stands c.args.number (codes_of xs)) (sym c.as_slice-in-For.ensures) ∙ sym c.stands-in-For.ensures ∙ c.if-stands-2.true)

pub stands_in-returns-then-number-statement-3 : goal.stands_in-returns-then-number-statement-3
stands_in-returns-then-number-statement-3 t c =
    eq-eqb _ _ c.if-number-statement-3.true
    ∙ for_own c.args.number c.args.statement.now c.in-For.init c.in-For.field-1 c.in-For.step c.in-For.body c.in-For.is
    (ap (λ (xs : List Stmt). stands c.args.number (codes_of xs)) (sym c.as_slice-in-For.ensures) ∙ sym c.stands-in-For.ensures ∙ c.if-stands-2.false)
    (eq-eqb _ _ c.if-number-statement-3.true)

pub stands_in-returns-then-stands-3 : goal.stands_in-returns-then-stands-3
stands_in-returns-then-stands-3 t c =
    c.if-stands-3.true
    ∙ for_second c.args.number c.args.statement.now c.in-For.init c.in-For.field-1 c.in-For.step c.in-For.body c.in-For.is
    (ap (λ (xs : List Stmt). stands c.args.number (codes_of xs)) (sym c.as_slice-in-For.ensures) ∙ sym c.stands-in-For.ensures ∙ c.if-stands-2.false)
    (not_number _ _ c.if-number-statement-3.false)
    (ap (λ (xs : List Stmt). stands c.args.number (codes_of xs)) (sym c.as_slice-else-number-statement-3.ensures) ∙ sym c.stands-else-number-statement-3.ensures ∙ c.if-stands-3.true)

pub stands_in-returns-else-stands-3 : goal.stands_in-returns-else-stands-3
stands_in-returns-else-stands-3 t c =
    c.stands-else-stands-3.ensures
    ∙ ap (λ (xs : List Stmt). stands c.args.number (codes_of xs)) c.as_slice-else-stands-3.ensures
    ∙ for_third c.args.number c.args.statement.now c.in-For.init c.in-For.field-1 c.in-For.step c.in-For.body c.in-For.is
    (ap (λ (xs : List Stmt). stands c.args.number (codes_of xs)) (sym c.as_slice-in-For.ensures) ∙ sym c.stands-in-For.ensures ∙ c.if-stands-2.false)
    (not_number _ _ c.if-number-statement-3.false)
    (ap (λ (xs : List Stmt). stands c.args.number (codes_of xs)) (sym c.as_slice-else-number-statement-3.ensures) ∙ sym c.stands-else-number-statement-3.ensures ∙ c.if-stands-3.false)
