-- A choice whose parts were copied.
use Rattle.std.proofs.Common.{◌≡◌, IfOk, Result, sym, ◌∙◌}
use Rattle.std.proofs.lemmas.Result.{IfOk-weaker}
use Rattle.mdr_core.specs.declared.types.Ty.{Ty}
use Rattle.mdr_rich.specs.declared.code.Expr.{Expr}
use Rattle.mdr_rich.specs.declared.code.Expr.TheVariants as expr

pub choice_copied : {E : Type 0} (made : Result Expr E) (e : Expr) (ty : Ty) (c a b c' a' b' : Expr) → IfOk made (λ x. x ≡ expr.Cond ty c' a' b') → c' ≡ c → a' ≡ a → b' ≡ b → e ≡ expr.Cond ty c a b → IfOk made (λ x. x ≡ e)
choice_copied made e ty c a b c' a' b' h p q r is =
    let same : expr.Cond ty c' a' b' ≡ expr.Cond ty c a b = λ i. expr.Cond ty (p i) (q i) (r i) in
    IfOk-weaker made _ _ (λ x k. k ∙ same ∙ sym is) h
