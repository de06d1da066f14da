-- for proofs
-- Code that is written once: as a program holds it, with its plain data. Worked examples are made of it.
use Rattle.std.specs.Prelude.{◌≡◌, ℕ, Bool, List, [], ◌∷◌, map, Some, None}
use Rattle.std.proofs.Common.{refl, ap, ◌∙◌}
use Rattle.mdr_core.specs.declared.types.Ty.{Ty}
use Rattle.mdr_core.specs.declared.types.Ann.TheVariants.{Single}
use Rattle.mdr_core.specs.declared.code.Lval.{Lval}
use Rattle.mdr_core.specs.declared.code.Lval.TheVariants as lval
use Rattle.mdr_core.specs.declared.code.Expr.{Expr}
use Rattle.mdr_core.specs.declared.code.Expr.TheVariants as expr
use Rattle.mdr_core.specs.declared.code.Callee.{Callee}
use Rattle.mdr_core.specs.declared.code.Callee.TheVariants as callee
use Rattle.mdr_core.specs.declared.code.CallForm.{CallForm}
use Rattle.mdr_core.specs.declared.code.Step.{Step}
use Rattle.mdr_core.specs.declared.code.Step.TheVariants as step
use Rattle.mdr_core.specs.declared.code.Stmt.{Stmt}
use Rattle.mdr_core.specs.declared.program.Func.{Func}
use Rattle.mdr_core.specs.declared.program.Param.{Param}
use Rattle.mdr_core.specs.declared.program.Local.{Local}
use Rattle.mdr_core.specs.Code.{Term, Lvalue, Called, CallOf, Goal, Code, Codes}
use Rattle.mdr_core.specs.Folds.{term_of, lvalue_of, called_of, call_of, code_of, codes_of, before}
use Rattle.mdr_core.proofs.Coded as coded
use Rattle.mdr_core.proofs.Coded.{numbered, code_is, lit_is, load_is, addr_is, decay_is, neg_is, flip_is, not_is, bin_is, rel_is, and_is, or_is, conv_is, to_void_is, from_void_is, move_is, diff_is, slot_is, object_is, global_is, deref_is, member_is, index_is}

-- ---- expressions, lvalues and calls as programs hold them

abbrev mutual
  pub expr_of : Term → Expr
  expr_of (Term.Lit v) = expr.Lit v
  expr_of (Term.Load p) = expr.Load (lval_of p)
  expr_of (Term.Addr p) = expr.Addr (lval_of p)
  expr_of (Term.Decay p) = expr.Decay (lval_of p)
  expr_of (Term.Neg k e) = expr.Neg k (expr_of e)
  expr_of (Term.Flip k e) = expr.Flip k (expr_of e)
  expr_of (Term.Not e) = expr.Not (expr_of e)
  expr_of (Term.Bin op k a b) = expr.Bin op k (expr_of a) (expr_of b)
  expr_of (Term.Rel op a b) = expr.Rel op (expr_of a) (expr_of b)
  expr_of (Term.And a b) = expr.And (expr_of a) (expr_of b)
  expr_of (Term.Or a b) = expr.Or (expr_of a) (expr_of b)
  expr_of (Term.Conv k e) = expr.Conv k (expr_of e)
  expr_of (Term.ToVoid e) = expr.ToVoid (expr_of e)
  expr_of (Term.FromVoid t e) = expr.FromVoid t (expr_of e)
  expr_of (Term.Move back p i) = expr.Move back (expr_of p) (expr_of i)
  expr_of (Term.Diff p q) = expr.Diff (expr_of p) (expr_of q)

  pub lval_of : Lvalue → Lval
  lval_of (Lvalue.Slot i) = lval.Slot i
  lval_of (Lvalue.Object i) = lval.Object i
  lval_of (Lvalue.Global g) = lval.Global g
  lval_of (Lvalue.Deref e) = lval.Deref (expr_of e)
  lval_of (Lvalue.Member p f) = lval.Member (lval_of p) f
  lval_of (Lvalue.Index p e) = lval.Index (lval_of p) (expr_of e)

abbrev pub callee_of : Called → Callee
callee_of (Called.Direct f) = callee.Direct f
callee_of (Called.Through e) = callee.Through (expr_of e)
callee_of (Called.Service n) = callee.Service n

abbrev pub exprs_of : List Term → List Expr
exprs_of [] = []
exprs_of (e ∷ es) = expr_of e ∷ exprs_of es

abbrev pub form_of : CallOf → CallForm
form_of call = record { callee = callee_of call.callee; args = exprs_of call.args; shape = call.shape; format = call.format }

-- ---- their plain data is what they were written as

mutual
  same_term : (e : Term) → term_of (expr_of e) ≡ e
  same_term (Term.Lit v) = lit_is v
  same_term (Term.Load p) = load_is (lval_of p) ∙ ap Term.Load (same_lvalue p)
  same_term (Term.Addr p) = addr_is (lval_of p) ∙ ap Term.Addr (same_lvalue p)
  same_term (Term.Decay p) = decay_is (lval_of p) ∙ ap Term.Decay (same_lvalue p)
  same_term (Term.Neg k e) = neg_is k (expr_of e) ∙ ap (Term.Neg k) (same_term e)
  same_term (Term.Flip k e) = flip_is k (expr_of e) ∙ ap (Term.Flip k) (same_term e)
  same_term (Term.Not e) = not_is (expr_of e) ∙ ap Term.Not (same_term e)
  same_term (Term.Bin op k a b) = bin_is op k (expr_of a) (expr_of b) ∙ (λ i. Term.Bin op k (same_term a i) (same_term b i))
  same_term (Term.Rel op a b) = rel_is op (expr_of a) (expr_of b) ∙ (λ i. Term.Rel op (same_term a i) (same_term b i))
  same_term (Term.And a b) = and_is (expr_of a) (expr_of b) ∙ (λ i. Term.And (same_term a i) (same_term b i))
  same_term (Term.Or a b) = or_is (expr_of a) (expr_of b) ∙ (λ i. Term.Or (same_term a i) (same_term b i))
  same_term (Term.Conv k e) = conv_is k (expr_of e) ∙ ap (Term.Conv k) (same_term e)
  same_term (Term.ToVoid e) = to_void_is (expr_of e) ∙ ap Term.ToVoid (same_term e)
  same_term (Term.FromVoid t e) = from_void_is t (expr_of e) ∙ ap (Term.FromVoid t) (same_term e)
  same_term (Term.Move back p i) = move_is back (expr_of p) (expr_of i) ∙ (λ j. Term.Move back (same_term p j) (same_term i j))
  same_term (Term.Diff p q) = diff_is (expr_of p) (expr_of q) ∙ (λ i. Term.Diff (same_term p i) (same_term q i))

  same_lvalue : (p : Lvalue) → lvalue_of (lval_of p) ≡ p
  same_lvalue (Lvalue.Slot i) = slot_is i
  same_lvalue (Lvalue.Object i) = object_is i
  same_lvalue (Lvalue.Global g) = global_is g
  same_lvalue (Lvalue.Deref e) = deref_is (expr_of e) ∙ ap Lvalue.Deref (same_term e)
  same_lvalue (Lvalue.Member p f) = member_is (lval_of p) f ∙ ap (λ (q : Lvalue). Lvalue.Member q f) (same_lvalue p)
  same_lvalue (Lvalue.Index p e) = index_is (lval_of p) (expr_of e) ∙ (λ i. Lvalue.Index (same_lvalue p i) (same_term e i))

same_called : (c : Called) → called_of (callee_of c) ≡ c
same_called (Called.Direct f) = refl
same_called (Called.Through e) = ap Called.Through (same_term e)
same_called (Called.Service n) = refl

same_terms : (es : List Term) → map term_of (exprs_of es) ≡ es
same_terms [] = refl
same_terms (e ∷ es) = λ i. same_term e i ∷ same_terms es i

same_call : (call : CallOf) → call_of (form_of call) ≡ call
same_call call = λ i. record { callee = same_called call.callee i; args = same_terms call.args i; shape = call.shape; format = call.format }

-- ---- statements

pub record Written : Type 0 where
  pub stmt : Stmt
  pub code : Code
  pub same : code_of stmt ≡ code

abbrev pub stmts : List Written → List Stmt
stmts [] = []
stmts (w ∷ ws) = w.stmt ∷ stmts ws

abbrev pub listed : List Written → List Code
listed [] = []
listed (w ∷ ws) = w.code ∷ listed ws

abbrev pub plain : List Written → Codes
plain [] = Codes.End
plain (w ∷ ws) = Codes.Then w.code (plain ws)

-- the plain data of what is written
pub same_body : (ws : List Written) → codes_of (stmts ws) ≡ plain ws
same_body [] = refl
same_body (w ∷ ws) = λ i. Codes.Then (w.same i) (same_body ws i)

same_list : (ws : List Written) → map code_of (stmts ws) ≡ listed ws
same_list [] = refl
same_list (w ∷ ws) = λ i. w.same i ∷ same_list ws i

abbrev numbers_as : ℕ → Step → Code → Type 0
numbers_as n s c = code_of (record { number = n; step = s }) ≡ c

pub same_declare : (n i : ℕ) → numbers_as n (step.Declare i) (Code.Declare n i)
same_declare n i = code_is _ (step.Declare i) refl ∙ coded.declare_is n i

pub same_assign : (n : ℕ) (p : Lvalue) (e : Term) → numbers_as n (step.Assign (lval_of p) (expr_of e)) (Code.Assign n p e)
same_assign n p e = code_is _ (step.Assign (lval_of p) (expr_of e)) refl ∙ coded.assign_is n (lval_of p) (expr_of e) ∙ (λ i. Code.Assign n (same_lvalue p i) (same_term e i))

pub same_calling : (n : ℕ) (call : CallOf) → numbers_as n (step.Call None (form_of call)) (Code.Call n Goal.Nowhere call)
same_calling n call = code_is _ (step.Call None (form_of call)) refl ∙ coded.call_is n None (form_of call) ∙ ap (Code.Call n Goal.Nowhere) (same_call call)

pub same_into : (n : ℕ) (p : Lvalue) (call : CallOf) → numbers_as n (step.Call (Some (lval_of p)) (form_of call)) (Code.Call n (Goal.Into p) call)
same_into n p call = code_is _ (step.Call (Some (lval_of p)) (form_of call)) refl ∙ coded.call_is n (Some (lval_of p)) (form_of call) ∙ (λ i. Code.Call n (Goal.Into (same_lvalue p i)) (same_call call i))

pub same_if : (n : ℕ) (e : Term) (one other : List Written) → numbers_as n (step.If (expr_of e) (stmts one) (stmts other)) (Code.If n e (plain one) (plain other))
same_if n e one other = code_is _ (step.If (expr_of e) (stmts one) (stmts other)) refl ∙ coded.if_is n (expr_of e) (stmts one) (stmts other) ∙ (λ i. Code.If n (same_term e i) (same_body one i) (same_body other i))

pub same_while : (n : ℕ) (e : Term) (body : List Written) → numbers_as n (step.While (expr_of e) (stmts body)) (Code.Loop n e Codes.End (plain body))
same_while n e body = code_is _ (step.While (expr_of e) (stmts body)) refl ∙ coded.while_is n (expr_of e) (stmts body) ∙ (λ i. Code.Loop n (same_term e i) Codes.End (same_body body i))

pub same_for : (n : ℕ) (init : List Written) (e : Term) (next body : List Written) → numbers_as n (step.For (stmts init) (Some (expr_of e)) (stmts next) (stmts body)) (Code.Block (before (listed init) (Code.Loop n e (plain next) (plain body))))
same_for n init e next body =
    code_is _ (step.For (stmts init) (Some (expr_of e)) (stmts next) (stmts body)) refl
    ∙ coded.for_is n (stmts init) (Some (expr_of e)) (stmts next) (stmts body)
    ∙ (λ i. Code.Block (before (same_list init i) (Code.Loop n (same_term e i) (same_body next i) (same_body body i))))

pub same_return : (n : ℕ) (e : Term) → numbers_as n (step.Return (Some (expr_of e))) (Code.Return n (Some e))
same_return n e = code_is _ (step.Return (Some (expr_of e))) refl ∙ coded.return_is n (Some (expr_of e)) ∙ ap (λ (x : Term). Code.Return n (Some x)) (same_term e)

-- each with its number

abbrev pub declare : (number slot : ℕ) → Written
declare n i = record { stmt = record { number = n; step = step.Declare i }; code = Code.Declare n i; same = same_declare n i }

abbrev pub assign : ℕ → Lvalue → Term → Written
assign n p e = record { stmt = record { number = n; step = step.Assign (lval_of p) (expr_of e) }; code = Code.Assign n p e; same = same_assign n p e }

abbrev pub calling : ℕ → CallOf → Written
calling n call = record { stmt = record { number = n; step = step.Call None (form_of call) }; code = Code.Call n Goal.Nowhere call; same = same_calling n call }

abbrev pub call_into : ℕ → Lvalue → CallOf → Written
call_into n p call = record { stmt = record { number = n; step = step.Call (Some (lval_of p)) (form_of call) }; code = Code.Call n (Goal.Into p) call; same = same_into n p call }

abbrev pub branch : ℕ → Term → (one other : List Written) → Written
branch n e one other = record { stmt = record { number = n; step = step.If (expr_of e) (stmts one) (stmts other) }; code = Code.If n e (plain one) (plain other); same = same_if n e one other }

abbrev pub while_loop : ℕ → Term → List Written → Written
while_loop n e body = record { stmt = record { number = n; step = step.While (expr_of e) (stmts body) }; code = Code.Loop n e Codes.End (plain body); same = same_while n e body }

abbrev pub for_loop : ℕ → (init : List Written) → Term → (next body : List Written) → Written
for_loop n init e next body = record {
  stmt = record { number = n; step = step.For (stmts init) (Some (expr_of e)) (stmts next) (stmts body) };
  code = Code.Block (before (listed init) (Code.Loop n e (plain next) (plain body)));
  same = same_for n init e next body;
}

abbrev pub gives : ℕ → Term → Written
gives n e = record { stmt = record { number = n; step = step.Return (Some (expr_of e)) }; code = Code.Return n (Some e); same = same_return n e }

-- ---- functions

pub record WrittenFunc : Type 0 where
  pub name : List ℕ
  pub params : List Param
  pub result : Ty
  pub locals : List Local
  pub critical : Bool
  pub lines : List Written

abbrev pub func_of : WrittenFunc → Func
func_of w = record { name = w.name; params = w.params; result = w.result; ann = Single; locals = w.locals; critical = w.critical; body = Some (stmts w.lines) }
