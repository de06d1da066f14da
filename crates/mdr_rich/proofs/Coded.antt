-- The plain data of code: one equation for each form.
use Rattle.std.proofs.Common.{◌≡◌, ℕ, Bool, List, map, Option, None, sym, ap, ◌∙◌}
use Rattle.std.specs.Option.{option_map}
use Rattle.mdr_core.specs.declared.kind.Kind.{Kind}
use Rattle.mdr_core.specs.declared.types.Ty.{Ty}
use Rattle.mdr_core.specs.declared.value.Value.{Value}
use Rattle.mdr_core.specs.declared.code.BinOp.{BinOp}
use Rattle.mdr_core.specs.declared.code.RelOp.{RelOp}
use Rattle.mdr_rich.specs.declared.code.Lval.{Lval}
use Rattle.mdr_rich.specs.declared.code.Expr.{Expr}
use Rattle.mdr_rich.specs.declared.code.CallForm.{CallForm}
use Rattle.mdr_rich.specs.declared.code.Clause.{Clause, out-Clause}
use Rattle.mdr_rich.specs.declared.code.Stmt.{Stmt}
use Rattle.mdr_rich.specs.declared.code.Step.{Step}
use Rattle.mdr_rich.specs.declared.code.Expr.TheOpen.{Expr-F, Lval-F}
use Rattle.mdr_rich.specs.declared.code.Expr.TheFolds.{fold-roll-Expr, fold-roll-Lval}
use Rattle.mdr_rich.specs.declared.code.Expr.TheVariants as expr
use Rattle.mdr_rich.specs.declared.code.Expr.TheVariants.{rolls-Lit, rolls-Load, rolls-Addr, rolls-Decay, rolls-Neg, rolls-Flip, rolls-Not, rolls-Bin, rolls-Rel, rolls-And, rolls-Or, rolls-Conv, rolls-ToVoid, rolls-FromVoid, rolls-Move, rolls-Diff, rolls-Cond, rolls-CallDirect, rolls-CallThrough, rolls-CallService, rolls-Bump}
use Rattle.mdr_rich.specs.declared.code.Lval.TheVariants as lval
use Rattle.mdr_rich.specs.declared.code.Lval.TheVariants.{rolls-Slot, rolls-Object, rolls-Global, rolls-Deref, rolls-Member, rolls-Index}
use Rattle.mdr_rich.specs.declared.code.Step.TheOpen.{Step-F}
use Rattle.mdr_rich.specs.declared.code.Step.TheFolds.{fold-Step, fold-roll-Step, fold_out-Stmt, fold_out-Clause}
use Rattle.mdr_rich.specs.declared.code.Step.TheVariants as step
use Rattle.mdr_rich.specs.declared.code.Step.TheVariants.{rolls-Declare, rolls-Text, rolls-Assign, rolls-Call, rolls-If, rolls-While, rolls-For, rolls-Do, rolls-Switch, rolls-Return, rolls-ReturnCall, rolls-Break, rolls-Continue, rolls-Empty, rolls-Block}
use Rattle.mdr_core.specs.Code.{Way}
use Rattle.mdr_rich.specs.Code.{Term, Lvalue, Called, Goal, Code, Codes, term_list}
use Rattle.mdr_rich.specs.Folds.{term_layer, lvalue_layer, term_of, lvalue_of, call_of, goal_of, test_of, before, Labelled, step_layer, stmt_layer, clause_layer, code_of, clause_of, codes_of, clauses_of}

-- ---- expressions and lvalues

pub lit_is : (v : Value) → term_of (expr.Lit v) ≡ Term.Lit v
lit_is v = ap term_of (sym (rolls-Lit v)) ∙ fold-roll-Expr Term Lvalue term_layer lvalue_layer (Expr-F.Lit v)

pub load_is : (p : Lval) → term_of (expr.Load p) ≡ Term.Load (lvalue_of p)
load_is p = ap term_of (sym (rolls-Load p)) ∙ fold-roll-Expr Term Lvalue term_layer lvalue_layer (Expr-F.Load p)

pub addr_is : (p : Lval) → term_of (expr.Addr p) ≡ Term.Addr (lvalue_of p)
addr_is p = ap term_of (sym (rolls-Addr p)) ∙ fold-roll-Expr Term Lvalue term_layer lvalue_layer (Expr-F.Addr p)

pub decay_is : (p : Lval) → term_of (expr.Decay p) ≡ Term.Decay (lvalue_of p)
decay_is p = ap term_of (sym (rolls-Decay p)) ∙ fold-roll-Expr Term Lvalue term_layer lvalue_layer (Expr-F.Decay p)

pub neg_is : (k : Kind) (e : Expr) → term_of (expr.Neg k e) ≡ Term.Neg k (term_of e)
neg_is k e = ap term_of (sym (rolls-Neg k e)) ∙ fold-roll-Expr Term Lvalue term_layer lvalue_layer (Expr-F.Neg k e)

pub flip_is : (k : Kind) (e : Expr) → term_of (expr.Flip k e) ≡ Term.Flip k (term_of e)
flip_is k e = ap term_of (sym (rolls-Flip k e)) ∙ fold-roll-Expr Term Lvalue term_layer lvalue_layer (Expr-F.Flip k e)

pub not_is : (e : Expr) → term_of (expr.Not e) ≡ Term.Not (term_of e)
not_is e = ap term_of (sym (rolls-Not e)) ∙ fold-roll-Expr Term Lvalue term_layer lvalue_layer (Expr-F.Not e)

pub bin_is : (op : BinOp) (k : Kind) (a b : Expr) → term_of (expr.Bin op k a b) ≡ Term.Bin op k (term_of a) (term_of b)
bin_is op k a b = ap term_of (sym (rolls-Bin op k a b)) ∙ fold-roll-Expr Term Lvalue term_layer lvalue_layer (Expr-F.Bin op k a b)

pub rel_is : (op : RelOp) (a b : Expr) → term_of (expr.Rel op a b) ≡ Term.Rel op (term_of a) (term_of b)
rel_is op a b = ap term_of (sym (rolls-Rel op a b)) ∙ fold-roll-Expr Term Lvalue term_layer lvalue_layer (Expr-F.Rel op a b)

pub and_is : (a b : Expr) → term_of (expr.And a b) ≡ Term.And (term_of a) (term_of b)
and_is a b = ap term_of (sym (rolls-And a b)) ∙ fold-roll-Expr Term Lvalue term_layer lvalue_layer (Expr-F.And a b)

pub or_is : (a b : Expr) → term_of (expr.Or a b) ≡ Term.Or (term_of a) (term_of b)
or_is a b = ap term_of (sym (rolls-Or a b)) ∙ fold-roll-Expr Term Lvalue term_layer lvalue_layer (Expr-F.Or a b)

pub conv_is : (k : Kind) (e : Expr) → term_of (expr.Conv k e) ≡ Term.Conv k (term_of e)
conv_is k e = ap term_of (sym (rolls-Conv k e)) ∙ fold-roll-Expr Term Lvalue term_layer lvalue_layer (Expr-F.Conv k e)

pub to_void_is : (e : Expr) → term_of (expr.ToVoid e) ≡ Term.ToVoid (term_of e)
to_void_is e = ap term_of (sym (rolls-ToVoid e)) ∙ fold-roll-Expr Term Lvalue term_layer lvalue_layer (Expr-F.ToVoid e)

pub from_void_is : (t : Ty) (e : Expr) → term_of (expr.FromVoid t e) ≡ Term.FromVoid t (term_of e)
from_void_is t e = ap term_of (sym (rolls-FromVoid t e)) ∙ fold-roll-Expr Term Lvalue term_layer lvalue_layer (Expr-F.FromVoid t e)

pub move_is : (back : Bool) (p i : Expr) → term_of (expr.Move back p i) ≡ Term.Move back (term_of p) (term_of i)
move_is back p i = ap term_of (sym (rolls-Move back p i)) ∙ fold-roll-Expr Term Lvalue term_layer lvalue_layer (Expr-F.Move back p i)

pub diff_is : (p q : Expr) → term_of (expr.Diff p q) ≡ Term.Diff (term_of p) (term_of q)
diff_is p q = ap term_of (sym (rolls-Diff p q)) ∙ fold-roll-Expr Term Lvalue term_layer lvalue_layer (Expr-F.Diff p q)

pub cond_is : (t : Ty) (c a b : Expr) → term_of (expr.Cond t c a b) ≡ Term.Cond t (term_of c) (term_of a) (term_of b)
cond_is t c a b = ap term_of (sym (rolls-Cond t c a b)) ∙ fold-roll-Expr Term Lvalue term_layer lvalue_layer (Expr-F.Cond t c a b)

pub direct_is : (t : Ty) (f : ℕ) (args : List Expr) → term_of (expr.CallDirect t f args) ≡ Term.Call t (Called.Direct f) (term_list (map term_of args)) None None
direct_is t f args = ap term_of (sym (rolls-CallDirect t f args)) ∙ fold-roll-Expr Term Lvalue term_layer lvalue_layer (Expr-F.CallDirect t f args)

pub through_is : (t : Ty) (e : Expr) (args : List Expr) → term_of (expr.CallThrough t e args) ≡ Term.Call t (Called.Through (term_of e)) (term_list (map term_of args)) None None
through_is t e args = ap term_of (sym (rolls-CallThrough t e args)) ∙ fold-roll-Expr Term Lvalue term_layer lvalue_layer (Expr-F.CallThrough t e args)

pub service_is : (t : Ty) (n : ℕ) (args : List Expr) (shape : Option Ty) (format : Option (List ℕ)) → term_of (expr.CallService t n args shape format) ≡ Term.Call t (Called.Service n) (term_list (map term_of args)) shape format
service_is t n args shape format = ap term_of (sym (rolls-CallService t n args shape format)) ∙ fold-roll-Expr Term Lvalue term_layer lvalue_layer (Expr-F.CallService t n args shape format)

pub bump_is : (t : Ty) (up first : Bool) (p : Lval) → term_of (expr.Bump t up first p) ≡ Term.Bump t up first (lvalue_of p)
bump_is t up first p = ap term_of (sym (rolls-Bump t up first p)) ∙ fold-roll-Expr Term Lvalue term_layer lvalue_layer (Expr-F.Bump t up first p)

pub slot_is : (i : ℕ) (t : Ty) → lvalue_of (lval.Slot i t) ≡ Lvalue.Slot i t
slot_is i t = ap lvalue_of (sym (rolls-Slot i t)) ∙ fold-roll-Lval Term Lvalue term_layer lvalue_layer (Lval-F.Slot i t)

pub object_is : (i : ℕ) (t : Ty) → lvalue_of (lval.Object i t) ≡ Lvalue.Object i t
object_is i t = ap lvalue_of (sym (rolls-Object i t)) ∙ fold-roll-Lval Term Lvalue term_layer lvalue_layer (Lval-F.Object i t)

pub global_is : (g : ℕ) (t : Ty) → lvalue_of (lval.Global g t) ≡ Lvalue.Global g t
global_is g t = ap lvalue_of (sym (rolls-Global g t)) ∙ fold-roll-Lval Term Lvalue term_layer lvalue_layer (Lval-F.Global g t)

pub deref_is : (e : Expr) → lvalue_of (lval.Deref e) ≡ Lvalue.Deref (term_of e)
deref_is e = ap lvalue_of (sym (rolls-Deref e)) ∙ fold-roll-Lval Term Lvalue term_layer lvalue_layer (Lval-F.Deref e)

pub member_is : (p : Lval) (f : ℕ) (t : Ty) → lvalue_of (lval.Member p f t) ≡ Lvalue.Member (lvalue_of p) f t
member_is p f t = ap lvalue_of (sym (rolls-Member p f t)) ∙ fold-roll-Lval Term Lvalue term_layer lvalue_layer (Lval-F.Member p f t)

pub index_is : (p : Lval) (e : Expr) → lvalue_of (lval.Index p e) ≡ Lvalue.Index (lvalue_of p) (term_of e)
index_is p e = ap lvalue_of (sym (rolls-Index p e)) ∙ fold-roll-Lval Term Lvalue term_layer lvalue_layer (Lval-F.Index p e)

-- ---- statements

-- a step as code, with its statement's number
abbrev pub numbered : Step → ℕ → Code
numbered = fold-Step (ℕ → Code) Labelled Code step_layer clause_layer stmt_layer

pub code_is : (s : Stmt) (st : Step) → s.step ≡ st → code_of s ≡ numbered st s.number
code_is s st is = fold_out-Stmt (ℕ → Code) Labelled Code step_layer clause_layer stmt_layer s ∙ ap (λ (x : Step). numbered x s.number) is

pub declare_is : (n : ℕ) (i : ℕ) → numbered (step.Declare i) n ≡ Code.Declare n i
declare_is n i =
    ap (λ (s : Step). numbered s n) (sym (rolls-Declare i))
    ∙ ap (λ (f : ℕ → Code). f n) (fold-roll-Step (ℕ → Code) Labelled Code step_layer clause_layer stmt_layer (Step-F.Declare i))

pub text_is : (n : ℕ) (i : ℕ) (text : List ℕ) → numbered (step.Text i text) n ≡ Code.Text n i text
text_is n i text =
    ap (λ (s : Step). numbered s n) (sym (rolls-Text i text))
    ∙ ap (λ (f : ℕ → Code). f n) (fold-roll-Step (ℕ → Code) Labelled Code step_layer clause_layer stmt_layer (Step-F.Text i text))

pub assign_is : (n : ℕ) (p : Lval) (e : Expr) → numbered (step.Assign p e) n ≡ Code.Assign n (lvalue_of p) (term_of e)
assign_is n p e =
    ap (λ (s : Step). numbered s n) (sym (rolls-Assign p e))
    ∙ ap (λ (f : ℕ → Code). f n) (fold-roll-Step (ℕ → Code) Labelled Code step_layer clause_layer stmt_layer (Step-F.Assign p e))

pub call_is : (n : ℕ) (target : Option Lval) (form : CallForm) → numbered (step.Call target form) n ≡ Code.Call n (goal_of target) (call_of form)
call_is n target form =
    ap (λ (s : Step). numbered s n) (sym (rolls-Call target form))
    ∙ ap (λ (f : ℕ → Code). f n) (fold-roll-Step (ℕ → Code) Labelled Code step_layer clause_layer stmt_layer (Step-F.Call target form))

pub if_is : (n : ℕ) (e : Expr) (one other : List Stmt) → numbered (step.If e one other) n ≡ Code.If n (term_of e) (codes_of one) (codes_of other)
if_is n e one other =
    ap (λ (s : Step). numbered s n) (sym (rolls-If e one other))
    ∙ ap (λ (f : ℕ → Code). f n) (fold-roll-Step (ℕ → Code) Labelled Code step_layer clause_layer stmt_layer (Step-F.If e one other))

pub while_is : (n : ℕ) (e : Expr) (body : List Stmt) → numbered (step.While e body) n ≡ Code.Loop n (term_of e) Codes.End (codes_of body)
while_is n e body =
    ap (λ (s : Step). numbered s n) (sym (rolls-While e body))
    ∙ ap (λ (f : ℕ → Code). f n) (fold-roll-Step (ℕ → Code) Labelled Code step_layer clause_layer stmt_layer (Step-F.While e body))

pub for_is : (n : ℕ) (init : List Stmt) (test : Option Expr) (next body : List Stmt) → numbered (step.For init test next body) n ≡ Code.Block (before (map code_of init) (Code.Loop n (test_of test) (codes_of next) (codes_of body)))
for_is n init test next body =
    ap (λ (s : Step). numbered s n) (sym (rolls-For init test next body))
    ∙ ap (λ (f : ℕ → Code). f n) (fold-roll-Step (ℕ → Code) Labelled Code step_layer clause_layer stmt_layer (Step-F.For init test next body))

pub do_is : (n : ℕ) (body : List Stmt) (e : Expr) → numbered (step.Do body e) n ≡ Code.Do n (codes_of body) (term_of e)
do_is n body e =
    ap (λ (s : Step). numbered s n) (sym (rolls-Do body e))
    ∙ ap (λ (f : ℕ → Code). f n) (fold-roll-Step (ℕ → Code) Labelled Code step_layer clause_layer stmt_layer (Step-F.Do body e))

pub switch_is : (n : ℕ) (e : Expr) (clauses : List Clause) (body : List Stmt) → numbered (step.Switch e clauses body) n ≡ Code.Switch n (term_of e) (clauses_of clauses body)
switch_is n e clauses body =
    ap (λ (s : Step). numbered s n) (sym (rolls-Switch e clauses body))
    ∙ ap (λ (f : ℕ → Code). f n) (fold-roll-Step (ℕ → Code) Labelled Code step_layer clause_layer stmt_layer (Step-F.Switch e clauses body))

pub clause_is : (c : Clause) → clause_of c ≡ ((out-Clause c).labels, codes_of (out-Clause c).body)
clause_is c = fold_out-Clause (ℕ → Code) Labelled Code step_layer clause_layer stmt_layer c

pub return_is : (n : ℕ) (e : Option Expr) → numbered (step.Return e) n ≡ Code.Return n (option_map term_of e)
return_is n e =
    ap (λ (s : Step). numbered s n) (sym (rolls-Return e))
    ∙ ap (λ (f : ℕ → Code). f n) (fold-roll-Step (ℕ → Code) Labelled Code step_layer clause_layer stmt_layer (Step-F.Return e))

pub return_call_is : (n : ℕ) (form : CallForm) → numbered (step.ReturnCall form) n ≡ Code.Call n Goal.Back (call_of form)
return_call_is n form =
    ap (λ (s : Step). numbered s n) (sym (rolls-ReturnCall form))
    ∙ ap (λ (f : ℕ → Code). f n) (fold-roll-Step (ℕ → Code) Labelled Code step_layer clause_layer stmt_layer (Step-F.ReturnCall form))

pub break_is : (n : ℕ) → numbered step.Break n ≡ Code.Jump n Way.Breaks
break_is n =
    ap (λ (s : Step). numbered s n) (sym rolls-Break)
    ∙ ap (λ (f : ℕ → Code). f n) (fold-roll-Step (ℕ → Code) Labelled Code step_layer clause_layer stmt_layer Step-F.Break)

pub continue_is : (n : ℕ) → numbered step.Continue n ≡ Code.Jump n Way.Continues
continue_is n =
    ap (λ (s : Step). numbered s n) (sym rolls-Continue)
    ∙ ap (λ (f : ℕ → Code). f n) (fold-roll-Step (ℕ → Code) Labelled Code step_layer clause_layer stmt_layer Step-F.Continue)

pub empty_is : (n : ℕ) → numbered step.Empty n ≡ Code.Jump n Way.Ends
empty_is n =
    ap (λ (s : Step). numbered s n) (sym rolls-Empty)
    ∙ ap (λ (f : ℕ → Code). f n) (fold-roll-Step (ℕ → Code) Labelled Code step_layer clause_layer stmt_layer Step-F.Empty)

pub block_is : (n : ℕ) (body : List Stmt) → numbered (step.Block body) n ≡ Code.Block (codes_of body)
block_is n body =
    ap (λ (s : Step). numbered s n) (sym (rolls-Block body))
    ∙ ap (λ (f : ℕ → Code). f n) (fold-roll-Step (ℕ → Code) Labelled Code step_layer clause_layer stmt_layer (Step-F.Block body))
