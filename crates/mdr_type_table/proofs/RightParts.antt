-- What stands behind a rule that found nothing wrong.
use Rattle.std.proofs.Common.{◌≡◌, Bool, true, false, refl}
use Rattle.mdr_core.specs.declared.place.Place.{Place}
use Rattle.mdr_faults.specs.declared.fault.FaultKind.{FaultKind}
use Rattle.mdr_faults.specs.Faults.{Checked, Right, Wrong, after, both, demand}

pub record After {A B : Type 0} (c : Checked A) (rule : A → Checked B) (y : B) : Type 0 where
  pub value : A
  pub right : c ≡ Right value
  pub made : rule value ≡ Right y

pub after_right : {A B : Type 0} (c : Checked A) (rule : A → Checked B) (y : B) → after c rule ≡ Right y → After c rule y
after_right (Right x) rule y e = record { value = x; right = refl; made = e }
after_right (Wrong f) rule y e = absurd cc

pub record Both {A B C : Type 0} (c : Checked A) (d : Checked B) (rule : A → B → Checked C) (z : C) : Type 0 where
  pub left : A
  pub right : B
  pub first : c ≡ Right left
  pub second : d ≡ Right right
  pub made : rule left right ≡ Right z

pub both_right : {A B C : Type 0} (c : Checked A) (d : Checked B) (rule : A → B → Checked C) (z : C) → both c d rule ≡ Right z → Both c d rule z
both_right (Right x) (Right y) rule z e = record { left = x; right = y; first = refl; second = refl; made = e }
both_right (Right x) (Wrong g) rule z e = absurd cc
both_right (Wrong f) (Right y) rule z e = absurd cc
both_right (Wrong f) (Wrong g) rule z e = absurd cc

pub record Demanded {A : Type 0} (test : Bool) (c : Checked A) (x : A) : Type 0 where
  pub holds : test ≡ true
  pub right : c ≡ Right x

pub demand_right : {A : Type 0} (p : Place) (k : FaultKind) (test : Bool) (c : Checked A) (x : A) → demand p k test c ≡ Right x → Demanded test c x
demand_right p k true c x e = record { holds = refl; right = e }
demand_right p k false (Right y) x e = absurd cc
demand_right p k false (Wrong f) x e = absurd cc

pub same_right : {A : Type 0} (x y : A) → Right x ≡ Right y → x ≡ y
same_right x y e = cc
