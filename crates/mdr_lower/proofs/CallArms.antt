-- Calls as parts of expressions: what the arms of `low` leave.
use Rattle.std.proofs.Common.{◌≡◌, ℕ, List, [], map, Option, None, sym, ap, ◌∙◌}
use Rattle.mdr_core.specs.declared.code.Callee.TheVariants as callee
use Rattle.mdr_core.specs.declared.code.Expr.{Expr}
use Rattle.mdr_core.specs.declared.types.Ty.{Ty}
use Rattle.mdr_rich.specs.declared.code.Expr.{Expr as RichExpr}
use Rattle.mdr_rich.specs.declared.code.Expr.TheVariants as rich
use Rattle.mdr_rich.specs.Activity.{are_active}
use Rattle.mdr_rich.specs.Carried.{type_of}
use Rattle.mdr_rich.specs.Code.{term_list}
use Rattle.mdr_rich.specs.Folds.{term_of}
use Rattle.mdr_rich.proofs.Coded.{direct_is, through_is, service_is}
use Rattle.mdr_lower.specs.declared.work.Work.{Work}
use Rattle.mdr_lower.specs.Lowering.{low, low_args, called, as_call, part, keeps}

abbrev pub given : (n : ℕ) → List RichExpr → Work → Work × List Expr
given n args w = low_args n (term_list (map term_of args)) [] w

pub direct_grown : (n : ℕ) (t : Ty) (f : ℕ) (args : List RichExpr) (w w1 w2 : Work) (es : List Expr) → es ≡ (given n args w).1 → w1 ≡ (given n args w).0
    → w2 ≡ (called n t (w1, as_call None None (callee.Direct f) es)).0 → w2 ≡ (low n (term_of (rich.CallDirect t f args)) w).0
direct_grown n t f args w w1 w2 es made left e =
    e ∙ (λ i. (called n t (left i, as_call None None (callee.Direct f) (made i))).0) ∙ ap (λ m. (low n m w).0) (sym (direct_is t f args))

abbrev pub taken : (n : ℕ) → RichExpr → List RichExpr → Work → Work × Expr
taken n f args w = part (keeps (are_active (term_list (map term_of args))) (term_of f)) n (type_of (term_of f)) (low n (term_of f) w)

pub through_grown : (n : ℕ) (t : Ty) (f : RichExpr) (args : List RichExpr) (w w0 w1 w2 : Work) (g : Expr) (es : List Expr) → g ≡ (taken n f args w).1 → w0 ≡ (taken n f args w).0
    → es ≡ (given n args w0).1 → w1 ≡ (given n args w0).0 → w2 ≡ (called n t (w1, as_call None None (callee.Through g) es)).0 → w2 ≡ (low n (term_of (rich.CallThrough t f args)) w).0
through_grown n t f args w w0 w1 w2 g es kept first made left e =
    e ∙ (λ i. (called n t (left i, as_call None None (callee.Through g) (made i))).0)
    ∙ (λ i. (called n t ((given n args (first i)).0, as_call None None (callee.Through (kept i)) (given n args (first i)).1)).0)
    ∙ ap (λ m. (low n m w).0) (sym (through_is t f args))

pub service_grown : (n : ℕ) (t : Ty) (s : ℕ) (args : List RichExpr) (shape : Option Ty) (format : Option (List ℕ)) (w w1 w2 : Work) (es : List Expr) → es ≡ (given n args w).1 → w1 ≡ (given n args w).0
    → w2 ≡ (called n t (w1, as_call shape format (callee.Service s) es)).0 → w2 ≡ (low n (term_of (rich.CallService t s args shape format)) w).0
service_grown n t s args shape format w w1 w2 es made left e =
    e ∙ (λ i. (called n t (left i, as_call shape format (callee.Service s) (made i))).0) ∙ ap (λ m. (low n m w).0) (sym (service_is t s args shape format))
