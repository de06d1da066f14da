-- What stands behind a rule that found nothing wrong.
use Rattle.std.specs.Prelude.{◌≡◌, Bool, true, false, Option, Some, None, Result, Ok, Err}
use Rattle.std.proofs.Common.{refl, ap, sym, subst}
use Rattle.mdr_core.specs.declared.place.Place.{Place}
use Rattle.mdr_core.specs.Layout.{chosen}
use Rattle.mdr_faults.specs.declared.fault.Fault.{Fault}
use Rattle.mdr_faults.specs.declared.fault.FaultKind.{FaultKind}
use Rattle.mdr_faults.specs.Faults.{Checked, Right, Wrong, Faults, refuse, again, after, both, demand, told, first}
use Rattle.mdr_operand.specs.Forms.{needed}

abbrev IsRight : {A : Type 0} → Checked A → Type 0
IsRight (Right x) = Unit {0}
IsRight (Wrong f) = ⊥

abbrev right_or : {A : Type 0} → A → Checked A → A
right_or d (Right x) = x
right_or d (Wrong f) = d

-- what is wrong isn't right
pub not_right : {A : Type 0} {C : Type 0} (f : Faults) (x : A) → Wrong f ≡ Right x → C
not_right f x e = elim (subst (λ c. IsRight c) (sym e) tt) [ ]

pub same_right : {A : Type 0} (x y : A) → Right x ≡ Right y → x ≡ y
same_right x y e = ap (λ c. right_or x c) e

abbrev IsOk : {A : Type 0} → Result A Fault → Type 0
IsOk (Ok x) = Unit {0}
IsOk (Err f) = ⊥

abbrev ok_or : {A : Type 0} → A → Result A Fault → A
ok_or d (Ok x) = x
ok_or d (Err f) = d

pub not_ok : {A : Type 0} {C : Type 0} (f : Fault) (x : A) → ◌≡◌ {A = Result A Fault} (Err f) (Ok x) → C
not_ok f x e = elim (subst (λ c. IsOk c) (sym e) tt) [ ]

pub same_ok : {A : Type 0} (x y : A) → ◌≡◌ {A = Result A Fault} (Ok x) (Ok y) → x ≡ y
same_ok x y e = ap (λ c. ok_or x c) e

pub record After {A B : Type 0} (c : Checked A) (rule : A → Checked B) (y : B) : Type 0 where
  pub value : A
  pub right : c ≡ Right value
  pub made : rule value ≡ Right y

pub after_right : {A B : Type 0} (c : Checked A) (rule : A → Checked B) (y : B) → after c rule ≡ Right y → After c rule y
after_right (Right x) rule y e = record { value = x; right = refl; made = e }
after_right (Wrong f) rule y e = not_right f y e

pub record Both {A B C : Type 0} (c : Checked A) (d : Checked B) (rule : A → B → Checked C) (z : C) : Type 0 where
  pub left : A
  pub right : B
  pub first : c ≡ Right left
  pub second : d ≡ Right right
  pub made : rule left right ≡ Right z

pub both_right : {A B C : Type 0} (c : Checked A) (d : Checked B) (rule : A → B → Checked C) (z : C) → both c d rule ≡ Right z → Both c d rule z
both_right (Right x) (Right y) rule z e = record { left = x; right = y; first = refl; second = refl; made = e }
both_right (Right x) (Wrong g) rule z e = not_right g z e
both_right (Wrong f) (Right y) rule z e = not_right f z e
both_right (Wrong f) (Wrong g) rule z e = not_right _ z e

pub needed_right : {A : Type 0} (p : Place) (x : Option A) (y : A) → needed p x ≡ Right y → x ≡ Some y
needed_right p None y e = not_right _ y e
needed_right p (Some x) y e = ap Some (same_right x y e)

-- a test holds, and the rest is right
pub record Demanded {A : Type 0} (test : Bool) (c : Checked A) (x : A) : Type 0 where
  pub holds : test ≡ true
  pub right : c ≡ Right x

pub demand_right : {A : Type 0} (p : Place) (k : FaultKind) (test : Bool) (c : Checked A) (x : A) → demand p k test c ≡ Right x → Demanded test c x
demand_right p k true c x e = record { holds = refl; right = e }
demand_right p k false (Right y) x e = not_right _ x e
demand_right p k false (Wrong f) x e = not_right _ x e

-- a rule that refuses where the test fails
pub chosen_right : {A : Type 0} (test : Bool) (c : Checked A) (p : Place) (k : FaultKind) (x : A) → chosen test c (refuse p k) ≡ Right x → Demanded test c x
chosen_right true c p k x e = record { holds = refl; right = e }
chosen_right false c p k x e = not_right _ x e

-- a test fails, and the rest is right
pub record Refused {A : Type 0} (test : Bool) (c : Checked A) (x : A) : Type 0 where
  pub fails : test ≡ false
  pub right : c ≡ Right x

-- a rule that refuses where the test holds
pub refused_right : {A : Type 0} (test : Bool) (c : Checked A) (p : Place) (k : FaultKind) (x : A) → chosen test (refuse p k) c ≡ Right x → Refused test c x
refused_right true c p k x e = not_right _ x e
refused_right false c p k x e = record { fails = refl; right = e }

-- what was told of a declaration
pub told_right : {A : Type 0} (c : Checked A) (x : A) → told c ≡ Ok x → c ≡ Right x
told_right (Right y) x e = ap Right (same_ok y x e)
told_right (Wrong f) x e = not_ok (first f) x e

pub again_right : {A : Type 0} (r : Result A Fault) (x : A) → again r ≡ Right x → r ≡ Ok x
again_right (Ok y) x e = ap Ok (same_right y x e)
again_right (Err f) x e = not_right _ x e
