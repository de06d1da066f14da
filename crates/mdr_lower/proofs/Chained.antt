-- The clauses of a `switch`, as code makes them: first each clause by itself, and then one in the other.
use Rattle.std.proofs.Common.{◌≡◌, ℕ, ◌+◌, List, [], ◌∷◌, ◌++◌, length, map, refl, sym, ap, ◌∙◌, append-nil, append_assoc, arith}
use Rattle.mdr_core.specs.declared.code.Expr.{Expr}
use Rattle.mdr_core.specs.declared.code.Step.TheVariants as step
use Rattle.mdr_core.specs.declared.code.Stmt.{Stmt}
use Rattle.mdr_rich.specs.declared.code.Clause.{Clause as RichClause}
use Rattle.mdr_rich.specs.declared.code.Expr.{Expr as RichExpr}
use Rattle.mdr_rich.specs.declared.code.Step.{Step as RichStep}
use Rattle.mdr_rich.specs.declared.code.Step.TheFolds.{fold-roll-Step}
use Rattle.mdr_rich.specs.declared.code.Step.TheOpen.{Step-F}
use Rattle.mdr_rich.specs.declared.code.Step.TheVariants as rich
use Rattle.mdr_rich.specs.declared.code.Step.TheVariants.{rolls-Switch}
use Rattle.mdr_rich.specs.declared.code.Stmt.{Stmt as RichStmt}
use Rattle.mdr_rich.specs.Carried.{type_of}
use Rattle.mdr_rich.specs.Folds.{term_of}
use Rattle.mdr_lower.specs.declared.arms.Arm.{Arm}
use Rattle.mdr_lower.specs.declared.work.Work.{Work}
use Rattle.mdr_lower.specs.Apart.{outside, behind, arm, arms, way, chain}
use Rattle.mdr_lower.specs.Lowering.{Branch, stmt, inside, within, kept, expr_lowered, tried, step_layer, clause_layer, stmt_layer, step_lowered, clause_lowered, stmt_lowered}

-- the last arm is the first one in front of what follows
pub chain_last : (n : ℕ) (ys : List Arm) (a : Arm) (s : Stmt) → chain n (ys ++ a ∷ []) s ≡ chain n ys (way n a s)
chain_last n [] a s = refl
chain_last n (x ∷ xs) a s = ap (way n x) (chain_last n xs a s)

pub one_less : (ys : List Arm) (a : Arm) → length (ys ++ a ∷ []) ≡ length ys + 1
one_less [] a = refl
one_less (x ∷ xs) a = let e : length (xs ++ a ∷ []) ≡ length xs + 1 = one_less xs a in omega (arith, e)

-- arms behind others
arms_behind : (i : ℕ) (cs : List Branch) (xs : List Arm) (w : Work) → arms i cs xs w ≡ ((arms i cs [] w).0, xs ++ (arms i cs [] w).1)
arms_behind i [] xs w = ap (λ ys. (w, ys)) (sym (append-nil xs))
arms_behind i (c ∷ cs) xs w =
    let v : Work = outside w.code (within w c.1) in
    let a : Arm = arm i c w in
    arms_behind i cs (xs ++ a ∷ []) v
    ∙ ap (λ ys. ((arms i cs [] v).0, ys)) (append_assoc xs (a ∷ []) (arms i cs [] v).1)
    ∙ sym (ap (λ x. (x.0, xs ++ x.1)) (arms_behind i cs (a ∷ []) v))

-- whatever stands in front of them
arms_front : (i : ℕ) (cs : List Branch) (xs : List Arm) (code : List Stmt) (w : Work) → arms i cs xs (outside code w) ≡ (outside code (arms i cs xs w).0, (arms i cs xs w).1)
arms_front i [] xs code w = refl
arms_front i (c ∷ cs) xs code w =
    let v : Work = within w c.1 in
    let ys : List Arm = xs ++ arm i c w ∷ [] in
    arms_front i cs ys code v ∙ sym (ap (λ x. (outside code x.0, x.1)) (arms_front i cs ys w.code v))

abbrev default_of : List (Work → Work) → Work → Stmt
default_of body w = stmt 0 (step.Block (within w body).code)

-- what the clauses come to, given their arms
abbrev joined_arms : (number : ℕ) → (default : List (Work → Work)) → Work × List Arm → Work
joined_arms n body x = behind (chain n x.1 (default_of body x.0)) (outside x.0.code (within x.0 body))

pub tried_is : (n i : ℕ) (cs : List Branch) (body : List (Work → Work)) (w : Work) → tried n i cs body w ≡ joined_arms n body (arms i cs [] w)
tried_is n i [] body w = refl
tried_is n i (c ∷ cs) body w =
    let v : Work = within w c.1 in
    let a : Arm = arm i c w in
    ap (λ (u : Work). behind (stmt n (step.If a.test v.code u.code)) (outside w.code u)) (tried_is n i cs body (inside v) ∙ ap (joined_arms n body) (arms_front i cs [] [] v))
    ∙ sym (ap (joined_arms n body) (arms_behind i cs (a ∷ []) (outside w.code v) ∙ ap (λ x. (x.0, a ∷ x.1)) (arms_front i cs [] w.code v)))

abbrev clauses_lowered : List RichClause → List Branch
clauses_lowered cs = map clause_lowered cs

abbrev statements_lowered : List RichStmt → List (Work → Work)
statements_lowered ss = map stmt_lowered ss

-- what an arm of code leaves
pub switch_grown : (n : ℕ) (e : RichExpr) (cs : List RichClause) (body : List RichStmt) (w w1 w2 w3 w4 : Work) (i : ℕ) (ys : List Arm) (d : List Stmt)
    → i ≡ (expr_lowered n e w).0.next → w1 ≡ (kept n (type_of (term_of e)) (expr_lowered n e w)).0
    → ys ≡ (arms i (clauses_lowered cs) [] w1).1 → w2 ≡ (arms i (clauses_lowered cs) [] w1).0
    → d ≡ (within w2 (statements_lowered body)).code → w3 ≡ outside w2.code (within w2 (statements_lowered body))
    → w4 ≡ behind (chain n ys (stmt 0 (step.Block d))) w3 → w4 ≡ step_lowered (rich.Switch e cs body) n w
switch_grown n e cs body w w1 w2 w3 w4 i ys d at first told grown made left is =
    let bs : List (Work → Work) = statements_lowered body in
    let x : Work × Expr = expr_lowered n e w in
    is
    ∙ (λ j. behind (chain n ys (stmt 0 (step.Block (made j)))) (left j))
    ∙ (λ j. joined_arms n bs (grown j, told j))
    ∙ (λ j. joined_arms n bs (arms (at j) (clauses_lowered cs) [] (first j)))
    ∙ sym (tried_is n x.0.next (clauses_lowered cs) bs (kept n (type_of (term_of e)) x).0)
    ∙ sym (ap (λ (f : ℕ → Work → Work). f n w) (fold-roll-Step (ℕ → Work → Work) Branch (Work → Work) step_layer clause_layer stmt_layer (Step-F.Switch e cs body)))
    ∙ ap (λ (s : RichStep). step_lowered s n w) (rolls-Switch e cs body)
