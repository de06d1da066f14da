-- The types of code that is joined.
use Rattle.std.proofs.Common.{ℕ, ◌≤◌, Bool, true, false, List, [], ◌∷◌, ◌++◌, map, Option, refl, sym, ◌∙◌, subst}
use Rattle.mdr_core.specs.declared.kind.Kind.{Kind}
use Rattle.mdr_rich.specs.declared.code.Clause.{Clause}
use Rattle.mdr_rich.specs.declared.code.Expr.{Expr}
use Rattle.mdr_rich.specs.declared.code.Step.TheVariants as step
use Rattle.mdr_rich.specs.declared.code.Stmt.{Stmt}
use Rattle.mdr_core.specs.declared.program.Program.{Program}
use Rattle.mdr_core.specs.declared.types.Ty.{Ty}
use Rattle.mdr_rich.specs.Code.{Code}
use Rattle.mdr_rich.specs.Folds.{code_of, codes_of, clauses_of, before, term_of, test_of}
use Rattle.mdr_core.specs.Typing.{Slot, IsCondition, int}
use Rattle.mdr_rich.specs.Typing.{Has, IsTyped, AreTyped, AreClauses}
use Rattle.mdr_rich.proofs.Coded.{code_is, if_is, while_is, for_is, do_is, switch_is, block_is}
use Rattle.mdr_body.specs.Statements.{stmt}

module _ (program : Program) (slots : List Slot) (result : Ty) where
  pub typed_both : (b : Bool) (xs ys : List Stmt) → AreTyped program slots result b (codes_of xs) → AreTyped program slots result b (codes_of ys) → AreTyped program slots result b (codes_of (xs ++ ys))
  typed_both b [] ys h k = k
  typed_both b (x ∷ xs) ys h k = (h.0, typed_both b xs ys h.1 k)

  typed_before : (b : Bool) (xs : List Stmt) (c : Code) → AreTyped program slots result b (codes_of xs) → IsTyped program slots result b c → AreTyped program slots result b (before (map code_of xs) c)
  typed_before b [] c h k = (k, tt)
  typed_before b (x ∷ xs) c h k = (h.0, typed_before b xs c h.1 k)

  pub if_typed : (b : Bool) (n : ℕ) (e : Expr) (one other : List Stmt) → 1 ≤ n → IsCondition (Has program slots (term_of e)) → AreTyped program slots result b (codes_of one) → AreTyped program slots result b (codes_of other) → IsTyped program slots result b (code_of (stmt n (step.If e one other)))
  if_typed b n e one other numbered condition first second = subst (IsTyped program slots result b) (sym (code_is (stmt n (step.If e one other)) (step.If e one other) refl ∙ if_is n e one other)) (record { numbered = numbered; condition = condition; first = first; second = second })

  pub while_typed : (b : Bool) (n : ℕ) (e : Expr) (body : List Stmt) → 1 ≤ n → IsCondition (Has program slots (term_of e)) → AreTyped program slots result true (codes_of body) → IsTyped program slots result b (code_of (stmt n (step.While e body)))
  while_typed b n e body numbered condition turn = subst (IsTyped program slots result b) (sym (code_is (stmt n (step.While e body)) (step.While e body) refl ∙ while_is n e body)) (record { numbered = numbered; condition = condition; stepped = tt; turn = turn })

  pub do_typed : (b : Bool) (n : ℕ) (body : List Stmt) (e : Expr) → 1 ≤ n → AreTyped program slots result true (codes_of body) → IsCondition (Has program slots (term_of e)) → IsTyped program slots result b (code_of (stmt n (step.Do body e)))
  do_typed b n body e numbered turn condition = subst (IsTyped program slots result b) (sym (code_is (stmt n (step.Do body e)) (step.Do body e) refl ∙ do_is n body e)) (record { numbered = numbered; turn = turn; condition = condition })

  pub switch_typed : (b : Bool) (n : ℕ) (e : Expr) (k : Kind) (cs : List Clause) (other : List Stmt) → 1 ≤ n → Has program slots (term_of e) (int k) → AreClauses program slots result b k (clauses_of cs other) → IsTyped program slots result b (code_of (stmt n (step.Switch e cs other)))
  switch_typed b n e k cs other numbered value parts = subst (IsTyped program slots result b) (sym (code_is (stmt n (step.Switch e cs other)) (step.Switch e cs other) refl ∙ switch_is n e cs other)) (record { numbered = numbered; kind = k; value = value; parts = parts })

  pub block_typed : (b : Bool) (n : ℕ) (body : List Stmt) → AreTyped program slots result b (codes_of body) → IsTyped program slots result b (code_of (stmt n (step.Block body)))
  block_typed b n body h = subst (IsTyped program slots result b) (sym (code_is (stmt n (step.Block body)) (step.Block body) refl ∙ block_is n body)) h

  pub for_typed : (b : Bool) (n : ℕ) (init : List Stmt) (test : Option Expr) (next body : List Stmt) → 1 ≤ n → AreTyped program slots result b (codes_of init) → IsCondition (Has program slots (test_of test)) → AreTyped program slots result false (codes_of next) → AreTyped program slots result true (codes_of body) → IsTyped program slots result b (code_of (stmt n (step.For init test next body)))
  for_typed b n init test next body numbered first condition stepped turn =
      let loop : Code = Code.Loop n (test_of test) (codes_of next) (codes_of body) in
      subst (IsTyped program slots result b) (sym (code_is (stmt n (step.For init test next body)) (step.For init test next body) refl ∙ for_is n init test next body))
      (typed_before b init loop first (record { numbered = numbered; condition = condition; stepped = stepped; turn = turn }))
