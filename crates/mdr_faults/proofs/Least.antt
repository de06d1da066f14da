-- What is told is in the set, and none there comes before it.
use Rattle.std.proofs.Common.{◌≡◌, Bool, true, false, refl, subst, inl, inr}
use Rattle.std.proofs.Math.Path.{sym}
use Rattle.std.specs.Prelude.{Result, MatchResult}
use Rattle.mdr_core.specs.Layout.{chosen}
use Rattle.mdr_faults.specs.declared.fault.Fault.{Fault}
use Rattle.mdr_faults.proofs.Order.{not_before_itself, below_left, below_right}
use Rattle.mdr_faults.specs.Faults.{Checked, Right, Wrong, told, IsFirst, Faults, One, Also, IsIn, first, is_before}

chosen_in : (t : Bool) (f g : Fault) (a b : Faults) → IsIn f a → IsIn g b → IsIn (chosen t g f) (Also a b)
chosen_in true f g a b p q = inr q
chosen_in false f g a b p q = inl p

pub first_is_in : (fs : Faults) → IsIn (first fs) fs
first_is_in (One f) = refl
first_is_in (Also a b) = chosen_in _ _ _ a b (first_is_in a) (first_is_in b)

pub first_is_least : (fs : Faults) (g : Fault) → IsIn g fs → is_before g (first fs) ≡ false
first_is_least (One f) g e = subst (λ x. is_before x f ≡ false) (sym e) (not_before_itself f)
first_is_least (Also a b) g (inl e) = below_left (first a) (first b) g (first_is_least a g e)
first_is_least (Also a b) g (inr e) = below_right (first a) (first b) g (first_is_least b g e)

pub first_told : {A : Type 0} (c : Checked A) (r : Result A Fault) → r ≡ told c → MatchResult r (λ x. c ≡ Right x) (λ f. IsFirst f c)
first_told {A = A} (Right x) r e = subst (λ s. MatchResult s (λ (y : A). ◌≡◌ {A = Checked A} (Right x) (Right y)) (λ f. IsFirst {A = A} f (Right x))) (sym e) refl
first_told {A = A} (Wrong fs) r e = subst (λ s. MatchResult s (λ (y : A). ◌≡◌ {A = Checked A} (Wrong fs) (Right y)) (λ f. IsFirst {A = A} f (Wrong fs))) (sym e) (first_is_in fs, first_is_least fs)
