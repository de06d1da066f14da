-- A value that is one more or less has the type that the value has.
use Rattle.std.proofs.Common.{◌≡◌, Bool, true, false, not, IsTrue, List, pos, inl, inr, refl, sym, subst}
use Rattle.mdr_core.specs.declared.code.Expr.{Expr}
use Rattle.mdr_core.specs.declared.code.Expr.TheVariants as expr
use Rattle.mdr_core.specs.declared.kind.Kind.{Kind}
use Rattle.mdr_core.specs.declared.kind.Kind.TheVariants.{U8, U16, U32, U64, S8, S16, S32, S64}
use Rattle.mdr_core.specs.declared.program.Program.{Program}
use Rattle.mdr_core.specs.declared.types.Ty.{Ty}
use Rattle.mdr_core.specs.declared.types.Ty.TheOpen.{Ty-F}
use Rattle.mdr_core.specs.declared.types.Ty.TheVariants as type
use Rattle.mdr_core.specs.declared.value.Value.TheVariants as value
use Rattle.mdr_core.specs.Conversions.{promoted}
use Rattle.mdr_core.specs.Folds.{term_of}
use Rattle.mdr_core.specs.Kinds.{is_same_kind, is_in_range}
use Rattle.mdr_core.specs.Layout.{chosen}
use Rattle.mdr_core.specs.Typing.{Slot, RightOperand, int, ptr, Has}
use Rattle.mdr_core.proofs.Coded.{lit_is, bin_is, conv_is, move_is}
use Rattle.mdr_rich.specs.Typing.{IsStepped}
use Rattle.mdr_lower.specs.Lowering.{as_kind, step_operator, stepped_by, stepped}

kinds_exact : (k l : Kind) → is_same_kind k l ≡ true → k ≡ l
kinds_exact U8 U8 h = refl
kinds_exact U16 U16 h = refl
kinds_exact U32 U32 h = refl
kinds_exact U64 U64 h = refl
kinds_exact S8 S8 h = refl
kinds_exact S16 S16 h = refl
kinds_exact S32 S32 h = refl
kinds_exact S64 S64 h = refl
kinds_exact k l h = absurd cc

pub one_in_range : (k : Kind) → IsTrue (is_in_range k (pos 1))
unfolding is_in_range
one_in_range U8 = refl
one_in_range U16 = refl
one_in_range U32 = refl
one_in_range U64 = refl
one_in_range S8 = refl
one_in_range S16 = refl
one_in_range S32 = refl
one_in_range S64 = refl

pub zero_in_range : IsTrue (is_in_range S32 (pos 0))
unfolding is_in_range
zero_in_range = refl

module _ (program : Program) (all : List Slot) where
  abbrev V : Ty → Expr → Type 0
  V t e = Has program all (term_of e) t

  as_kind_has : (k l : Kind) (e : Expr) → V (int k) e → V (int l) (as_kind k l e)
  as_kind_has k l e v = by (is_same_kind k l) refl where
    by : (b : Bool) → is_same_kind k l ≡ b → V (int l) (chosen b e (expr.Conv l e))
    by true q = subst (λ m. V (int m) e) (kinds_exact k l q) v
    by false q = subst (λ x. Has program all x (int l)) (sym (conv_is l e)) (record { from = k; operand = v; is = refl })

  one_has : (k : Kind) → V (int k) (expr.Lit (value.Int k (pos 1)))
  one_has k = subst (λ x. Has program all x (int k)) (sym (lit_is (value.Int k (pos 1)))) (refl, one_in_range k)

  right_one : (up : Bool) (k : Kind) (e : Expr) → V (int k) e → RightOperand (step_operator up) k (Has program all (term_of e))
  right_one true k e v = v
  right_one false k e v = v

  number_stepped : (up : Bool) (k : Kind) (e : Expr) → V (int k) e → V (int k) (stepped_by up e (Ty-F.Int k))
  number_stepped up k e v =
      let wide : Kind = promoted k in
      let one : Expr = expr.Lit (value.Int wide (pos 1)) in
      as_kind_has wide k (expr.Bin (step_operator up) wide (as_kind k wide e) one)
      (subst (λ x. Has program all x (int wide)) (sym (bin_is (step_operator up) wide (as_kind k wide e) one))
      (record { left = as_kind_has k wide e v; right = right_one up wide one (one_has wide); is = refl }))

  pointer_stepped : (up : Bool) (t : Ty) (e : Expr) → V (ptr t) e → V (ptr t) (stepped_by up e (Ty-F.Ptr t))
  pointer_stepped up t e v =
      subst (λ x. Has program all x (ptr t)) (sym (move_is (not up) e (expr.Lit (value.Int S32 (pos 1)))))
      (record { type = t; kind = S32; pointer = v; steps = one_has S32; is = refl })

  pub stepped_has : (up : Bool) (t : Ty) (e : Expr) → IsStepped t → V t e → V t (stepped up t e)
  stepped_has up t e (inl h) v =
      subst (λ u. V u (stepped up u e)) (sym h.1)
      (subst (λ l. V (int h.0) (stepped_by up e l)) (sym (type.outs-Int h.0)) (number_stepped up h.0 e (subst (λ u. V u e) h.1 v)))
  stepped_has up t e (inr h) v =
      subst (λ u. V u (stepped up u e)) (sym h.1)
      (subst (λ l. V (ptr h.0) (stepped_by up e l)) (sym (type.outs-Ptr h.0)) (pointer_stepped up h.0 e (subst (λ u. V u e) h.1 v)))
