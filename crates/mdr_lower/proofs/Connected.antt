-- `&&` and `||`: what their arms leave and give.
use Rattle.std.proofs.Common.{◌≡◌, ℕ, Bool, true, false, List, [], OnOk, Result, Ok, Err, sym, ap, ◌∙◌}
use Rattle.mdr_core.specs.declared.code.Expr.{Expr}
use Rattle.mdr_core.specs.declared.code.Expr.TheVariants as expr
use Rattle.mdr_core.specs.declared.code.Step.TheVariants as step
use Rattle.mdr_core.specs.declared.code.Stmt.{Stmt}
use Rattle.mdr_core.specs.declared.kind.Kind.TheVariants.{S32}
use Rattle.mdr_core.specs.declared.types.Ty.TheVariants as type
use Rattle.mdr_core.specs.Layout.{chosen}
use Rattle.mdr_rich.specs.Activity.{is_active}
use Rattle.mdr_rich.specs.Code.{Term}
use Rattle.mdr_lower.specs.declared.work.Work.{Work}
use Rattle.mdr_lower.specs.Apart.{apart, either}
use Rattle.mdr_lower.specs.Lowering.{arm, conjoined, disjoined, inside, kept, low, mapped, put, slot_value, truth, two}

-- where memory isn't wanting, one fact comes of another
pub then_ok : {A E : Type 0} {P Q : Type 0} (r : Result A E) → (P → Q) → OnOk r P → OnOk r Q
then_ok (Ok x) f h = f h
then_ok (Err e) f h = h

module _ (n : ℕ) (a b : Term) (w : Work) where
  -- the right operand's truth, inside an arm
  abbrev right_arm : (slot : ℕ) → Work → Work × List Stmt
  right_arm slot v = apart v (arm n slot (mapped truth (low n b (inside v))))

  abbrev left_kept : Work → Expr → Work
  left_kept v e = (kept n (type.Int S32) (v, truth e)).0

  pub and_left : (w1 w2 w3 w4 : Work) (left : Expr) (slot : ℕ) (one : List Stmt) → left ≡ (low n a w).1 → w1 ≡ (low n a w).0 → is_active b ≡ true → slot ≡ w1.next → w2 ≡ left_kept w1 left
      → one ≡ (right_arm slot w2).1 → w3 ≡ (right_arm slot w2).0 → w4 ≡ put n (step.If (slot_value slot) one []) w3 → w4 ≡ (low n (Term.And a b) w).0
  and_left w1 w2 w3 w4 left slot one made behind active at second told grown e =
      e ∙ (λ i. put n (step.If (slot_value slot) (told i) []) (grown i))
      ∙ (λ i. put n (step.If (slot_value slot) (right_arm slot (second i)).1 []) (right_arm slot (second i)).0)
      ∙ (λ i. put n (step.If (slot_value (at i)) (right_arm (at i) (left_kept w1 left)).1 []) (right_arm (at i) (left_kept w1 left)).0)
      ∙ (λ i. put n (step.If (slot_value (behind i).next) (right_arm (behind i).next (left_kept (behind i) (made i))).1 []) (right_arm (behind i).next (left_kept (behind i) (made i))).0)
      ∙ sym (ap (λ t. (chosen t (conjoined n (low n a w) (low n b)) (two expr.And (low n a w) (low n b))).0) active)

  pub and_told : (w1 : Work) (left right : Expr) → left ≡ (low n a w).1 → w1 ≡ (low n a w).0 → is_active b ≡ false → right ≡ (low n b w1).1 → expr.And left right ≡ (low n (Term.And a b) w).1
  and_told w1 left right made behind idle told =
      (λ i. expr.And (made i) (told i)) ∙ (λ i. expr.And (low n a w).1 (low n b (behind i)).1)
      ∙ sym (ap (λ t. (chosen t (conjoined n (low n a w) (low n b)) (two expr.And (low n a w) (low n b))).1) idle)

-- `||` behind its left side
module _ (n : ℕ) (b : Term) where
  abbrev other_arm : (slot : ℕ) → Work → Work × List Stmt
  other_arm slot v = apart v (arm n slot (mapped truth (low n b (inside v))))

  abbrev first_kept : Work → Expr → Work
  first_kept v e = (kept n (type.Int S32) (v, truth e)).0

  pub either_left : (w1 w2 w3 w4 : Work) (left : Expr) (slot : ℕ) (other : List Stmt) → is_active b ≡ true → slot ≡ w1.next → w2 ≡ first_kept w1 left
      → other ≡ (other_arm slot w2).1 → w3 ≡ (other_arm slot w2).0 → w4 ≡ put n (step.If (slot_value slot) [] other) w3 → w4 ≡ (either n (w1, left) b).0
  either_left w1 w2 w3 w4 left slot other active at second told grown e =
      e ∙ (λ i. put n (step.If (slot_value slot) [] (told i)) (grown i))
      ∙ (λ i. put n (step.If (slot_value slot) [] (other_arm slot (second i)).1) (other_arm slot (second i)).0)
      ∙ (λ i. put n (step.If (slot_value (at i)) [] (other_arm (at i) (first_kept w1 left)).1) (other_arm (at i) (first_kept w1 left)).0)
      ∙ sym (ap (λ t. (chosen t (disjoined n (w1, left) (low n b)) (two expr.Or (w1, left) (low n b))).0) active)

  pub either_told : (w1 : Work) (left right : Expr) → is_active b ≡ false → right ≡ (low n b w1).1 → expr.Or left right ≡ (either n (w1, left) b).1
  either_told w1 left right idle told = ap (expr.Or left) told ∙ sym (ap (λ t. (chosen t (disjoined n (w1, left) (low n b)) (two expr.Or (w1, left) (low n b))).1) idle)

  pub either_behind : (a : Term) (w w1 w2 : Work) (left : Expr) → left ≡ (low n a w).1 → w1 ≡ (low n a w).0 → w2 ≡ (either n (w1, left) b).0 → w2 ≡ (low n (Term.Or a b) w).0
  either_behind a w w1 w2 left told grown e = e ∙ (λ i. (either n (grown i, told i) b).0)
