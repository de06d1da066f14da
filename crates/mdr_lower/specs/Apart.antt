-- for proofs
-- Statements that stand inside others, as code makes them: what was made before them is put aside meanwhile.
use Rattle.std.specs.Prelude.{ℕ, ℤ, Bool, false, List, [], ◌∷◌, ◌++◌, Option, Some, None}
use Rattle.mdr_core.specs.declared.code.Callee.{Callee}
use Rattle.mdr_core.specs.declared.code.Expr.{Expr}
use Rattle.mdr_core.specs.declared.code.Expr.TheVariants as expr
use Rattle.mdr_core.specs.declared.code.Lval.TheVariants as lval
use Rattle.mdr_core.specs.declared.code.Step.TheVariants as step
use Rattle.mdr_core.specs.declared.code.Stmt.{Stmt}
use Rattle.mdr_core.specs.declared.kind.Kind.TheVariants.{S32}
use Rattle.mdr_core.specs.declared.value.Value.TheVariants as value
use Rattle.mdr_core.specs.Layout.{chosen}
use Rattle.mdr_rich.specs.declared.code.Expr.{Expr as RichExpr}
use Rattle.mdr_rich.specs.Activity.{is_active, are_active}
use Rattle.mdr_rich.specs.Carried.{type_of}
use Rattle.mdr_rich.specs.Code.{Term, Called, Terms}
use Rattle.mdr_rich.specs.Folds.{term_of}
use Rattle.mdr_lower.specs.declared.arms.Arm.{Arm}
use Rattle.mdr_lower.specs.declared.work.Work.{Work}
use Rattle.mdr_lower.specs.Lowering.{Branch, stmt, inside, two, part, keeps, disjoined, low, low_callee, low_args, expr_lowered, perhaps_lowered, within, turn, is_labelled}

abbrev pub pair : {A B : Type 0} → A → B → A × B
pair a b = (a, b)

-- two parts, the first one kept where the second one is active
abbrev pub two_lowered : (number : ℕ) → (a b : Term) → Work → Work × (Expr × Expr)
two_lowered n a b w = two pair (part (keeps (is_active b) a) n (type_of a) (low n a w)) (low n b)

-- a callee and its arguments
abbrev pub parts_lowered : (number : ℕ) → Called → Terms → Work → Work × (Callee × List Expr)
parts_lowered n f args w = two pair (low_callee n (are_active args) f w) (low_args n args [])

-- `||` behind its left side
abbrev pub either : (number : ℕ) → Work × Expr → (right : Term) → Work × Expr
either n x b = chosen (is_active b) (disjoined n x (low n b)) (two expr.Or x (low n b))

-- behind statements inside another, with these in front
abbrev pub outside : (front : List Stmt) → Work → Work
outside code v = record { code = code; slots = v.slots; next = v.next }

-- what was made inside, and the work behind it
abbrev pub apart : Work → (inner : Work) → Work × List Stmt
apart w v = (outside w.code v, v.code)

-- what is made inside, of which the value alone is wanted
abbrev pub value_apart : {A : Type 0} → Work → Work × A → Work × A
value_apart w x = (outside w.code x.0, x.1)

-- the test is active
abbrev pub is_tested : Option RichExpr → Bool
is_tested None = false
is_tested (Some e) = is_active (term_of e)

-- the test of a `for`, but for one that stands in its body
abbrev pub test_of : (number : ℕ) → Option RichExpr → Work → Work × Option Expr
test_of n test w = chosen (is_tested test) (w, None) (value_apart w (perhaps_lowered n test (inside w)))

-- a body, with an active test in it
abbrev pub body_of : (number : ℕ) → Option RichExpr → (body : List (Work → Work)) → Work → Work
body_of n None body w = within w body
body_of n (Some e) body w = chosen (is_active (term_of e)) (turn n (expr_lowered n e (inside w)) body) (within w body)

-- ---- `do`

-- its slot is set
abbrev pub flag : (number slot : ℕ) → ℤ → List Stmt
flag n i x = stmt n (step.Assign (lval.Slot i) (expr.Lit (value.Int S32 x))) ∷ []

-- ---- `switch`

-- a statement behind those so far
abbrev pub behind : Stmt → Work → Work
behind s w = record { code = w.code ++ s ∷ []; slots = w.slots; next = w.next }

-- a clause that was lowered
abbrev pub arm : (slot : ℕ) → Branch → Work → Arm
arm i c w = record { test = is_labelled i c.0; body = (within w c.1).code }

-- what is tried where it fails
abbrev pub way : (number : ℕ) → Arm → (other : Stmt) → Stmt
way n a other = stmt n (step.If a.test a.body (other ∷ []))

-- the clauses, each with its test and its statements, behind those so far
abbrev pub arms : (slot : ℕ) → List Branch → (so_far : List Arm) → Work → Work × List Arm
arms i [] done w = (w, done)
arms i (c ∷ cs) done w = arms i cs (done ++ arm i c w ∷ []) (outside w.code (within w c.1))

-- each arm stands in the `else` of the one before it, and the last statement in that of the last one
abbrev pub chain : (number : ℕ) → List Arm → Stmt → Stmt
chain n [] last = last
chain n (a ∷ rest) last = way n a (chain n rest last)
