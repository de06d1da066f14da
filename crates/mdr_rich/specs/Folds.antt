-- believed
-- The code of a source's bodies as plain data: one line for each form.
use Rattle.std.specs.Prelude.{ℕ, pos, List, [], ◌∷◌, map, Option, Some, None}
use Rattle.std.specs.Option.{option_map}
use Rattle.mdr_core.specs.declared.kind.Kind.TheVariants.{S32}
use Rattle.mdr_core.specs.declared.value.Value.{Value}
use Rattle.mdr_core.specs.declared.value.Value.TheVariants as value
use Rattle.mdr_rich.specs.declared.code.Lval.{Lval}
use Rattle.mdr_rich.specs.declared.code.Expr.{Expr}
use Rattle.mdr_rich.specs.declared.code.Expr.TheOpen.{Expr-F, Lval-F}
use Rattle.mdr_rich.specs.declared.code.Expr.TheFolds.{fold-Expr, fold-Lval}
use Rattle.mdr_rich.specs.declared.code.Callee.{Callee}
use Rattle.mdr_rich.specs.declared.code.Callee.TheVariants as callee
use Rattle.mdr_rich.specs.declared.code.CallForm.{CallForm}
use Rattle.mdr_rich.specs.declared.code.Clause.{Clause}
use Rattle.mdr_rich.specs.declared.code.Step.TheOpen.{Step-F, Clause-F, Stmt-F}
use Rattle.mdr_rich.specs.declared.code.Step.TheFolds.{fold-Stmt, fold-Clause}
use Rattle.mdr_rich.specs.declared.code.Stmt.{Stmt}
use Rattle.mdr_core.specs.Code.{Way}
use Rattle.mdr_rich.specs.Code.{Term, Lvalue, Called, CallOf, Goal, Code, Codes, Clauses, term_list}

-- ---- expressions

abbrev pub lvalue_layer : Lval-F Term Lvalue → Lvalue
lvalue_layer (Lval-F.Slot i t) = Lvalue.Slot i t
lvalue_layer (Lval-F.Object i t) = Lvalue.Object i t
lvalue_layer (Lval-F.Global g t) = Lvalue.Global g t
lvalue_layer (Lval-F.Deref e) = Lvalue.Deref e
lvalue_layer (Lval-F.Member p f t) = Lvalue.Member p f t
lvalue_layer (Lval-F.Index p e) = Lvalue.Index p e

abbrev pub term_layer : Expr-F Term Lvalue → Term
term_layer (Expr-F.Lit v) = Term.Lit v
term_layer (Expr-F.Load p) = Term.Load p
term_layer (Expr-F.Addr p) = Term.Addr p
term_layer (Expr-F.Decay p) = Term.Decay p
term_layer (Expr-F.Neg k e) = Term.Neg k e
term_layer (Expr-F.Flip k e) = Term.Flip k e
term_layer (Expr-F.Not e) = Term.Not e
term_layer (Expr-F.Bin op k a b) = Term.Bin op k a b
term_layer (Expr-F.Rel op a b) = Term.Rel op a b
term_layer (Expr-F.And a b) = Term.And a b
term_layer (Expr-F.Or a b) = Term.Or a b
term_layer (Expr-F.Conv k e) = Term.Conv k e
term_layer (Expr-F.ToVoid e) = Term.ToVoid e
term_layer (Expr-F.FromVoid t e) = Term.FromVoid t e
term_layer (Expr-F.Move back p e) = Term.Move back p e
term_layer (Expr-F.Diff p q) = Term.Diff p q
term_layer (Expr-F.Cond t c a b) = Term.Cond t c a b
term_layer (Expr-F.CallDirect t f args) = Term.Call t (Called.Direct f) (term_list args) None None
term_layer (Expr-F.CallThrough t e args) = Term.Call t (Called.Through e) (term_list args) None None
term_layer (Expr-F.CallService t n args shape format) = Term.Call t (Called.Service n) (term_list args) shape format
term_layer (Expr-F.Bump t up first p) = Term.Bump t up first p

abbrev pub term_of : Expr → Term
term_of = fold-Expr Term Lvalue term_layer lvalue_layer

abbrev pub lvalue_of : Lval → Lvalue
lvalue_of = fold-Lval Term Lvalue term_layer lvalue_layer

-- ---- calls

abbrev pub called_of : Callee → Called
called_of (callee.Direct f) = Called.Direct f
called_of (callee.Through e) = Called.Through (term_of e)
called_of (callee.Service n) = Called.Service n

abbrev pub call_of : CallForm → CallOf
call_of form = record { callee = called_of form.callee; args = map term_of form.args; shape = form.shape; format = form.format }

abbrev pub goal_of : Option Lval → Goal
goal_of None = Goal.Nowhere
goal_of (Some p) = Goal.Into (lvalue_of p)

-- ---- statements

abbrev pub code_list : List Code → Codes
code_list [] = Codes.End
code_list (c ∷ cs) = Codes.Then c (code_list cs)

-- a missing test is a constant that isn't zero (6.8.5.3, paragraph 2)
abbrev pub test_of : Option Expr → Term
test_of None = Term.Lit (value.Int S32 (pos 1))
test_of (Some e) = term_of e

-- what a `for` begins with stands in front of its loop, in a block (6.8.5, paragraph 5)
abbrev pub before : List Code → Code → Codes
before [] c = Codes.Then c Codes.End
before (d ∷ ds) c = Codes.Then d (before ds c)

-- a clause: its labels, and what follows them
abbrev pub Labelled : Type 0
Labelled = List Value × Codes

abbrev pub clause_list : List Labelled → (default : Codes) → Clauses
clause_list [] body = Clauses.Default body
clause_list (c ∷ cs) body = Clauses.Clause c.0 c.1 (clause_list cs body)

abbrev pub step_layer : Step-F (ℕ → Code) Labelled Code → ℕ → Code
step_layer (Step-F.Declare i) n = Code.Declare n i
step_layer (Step-F.Text i text) n = Code.Text n i text
step_layer (Step-F.Assign p e) n = Code.Assign n (lvalue_of p) (term_of e)
step_layer (Step-F.Call target form) n = Code.Call n (goal_of target) (call_of form)
step_layer (Step-F.If e one other) n = Code.If n (term_of e) (code_list one) (code_list other)
step_layer (Step-F.While e body) n = Code.Loop n (term_of e) Codes.End (code_list body)
step_layer (Step-F.For init test step body) n = Code.Block (before init (Code.Loop n (test_of test) (code_list step) (code_list body)))
step_layer (Step-F.Do body e) n = Code.Do n (code_list body) (term_of e)
step_layer (Step-F.Switch e clauses body) n = Code.Switch n (term_of e) (clause_list clauses (code_list body))
step_layer (Step-F.Return e) n = Code.Return n (option_map term_of e)
step_layer (Step-F.ReturnCall form) n = Code.Call n Goal.Back (call_of form)
step_layer Step-F.Break n = Code.Jump n Way.Breaks
step_layer Step-F.Continue n = Code.Jump n Way.Continues
step_layer Step-F.Empty n = Code.Jump n Way.Ends
step_layer (Step-F.Block body) n = Code.Block (code_list body)

abbrev pub clause_layer : Clause-F (ℕ → Code) Labelled Code → Labelled
clause_layer c = (c.labels, code_list c.body)

abbrev pub stmt_layer : Stmt-F (ℕ → Code) Labelled Code → Code
stmt_layer s = s.step s.number

abbrev pub code_of : Stmt → Code
code_of = fold-Stmt (ℕ → Code) Labelled Code step_layer clause_layer stmt_layer

abbrev pub clause_of : Clause → Labelled
clause_of = fold-Clause (ℕ → Code) Labelled Code step_layer clause_layer stmt_layer

abbrev pub codes_of : List Stmt → Codes
codes_of ss = code_list (map code_of ss)

-- the clauses of a `switch`, and what its `default` does
abbrev pub clauses_of : List Clause → (default : List Stmt) → Clauses
clauses_of cs body = clause_list (map clause_of cs) (codes_of body)
