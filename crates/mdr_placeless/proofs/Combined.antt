-- Rules over parts that are alike are alike.
use Rattle.std.proofs.Common.{◌≡◌, subst, Bool, true, false, Option, Some, None, List, ◌∷◌}
use Rattle.mdr_core.specs.declared.place.Place.{Place}
use Rattle.mdr_core.specs.Layout.{chosen}
use Rattle.mdr_faults.specs.declared.fault.FaultKind.{FaultKind}
use Rattle.mdr_faults.specs.Faults.{Checked, Right, Wrong, refuse, after, both, demand, next}
use Rattle.mdr_operand.specs.Forms.{needed}
use Rattle.mdr_placeless.specs.Alike.{AreAlike}
use Rattle.mdr_placeless.specs.Alike.AreAlike.{Rights, Wrongs}

pub refused : {A : Type 0} (p q : Place) (k l : FaultKind) → AreAlike {A = A} (refuse p k) (refuse q l)
refused p q k l = Wrongs _ _

pub after_alike : {A B : Type 0} {c d : Checked A} {rule rule' : A → Checked B} → AreAlike c d → ((x : A) → AreAlike (rule x) (rule' x)) → AreAlike (after c rule) (after d rule')
after_alike (Rights x) h = h x
after_alike (Wrongs f g) h = Wrongs f g

pub both_alike : {A B C : Type 0} {c c' : Checked A} {d d' : Checked B} {rule rule' : A → B → Checked C} → AreAlike c c' → AreAlike d d' → ((x : A) (y : B) → AreAlike (rule x y) (rule' x y)) → AreAlike (both c d rule) (both c' d' rule')
both_alike (Rights x) (Rights y) h = h x y
both_alike (Rights x) (Wrongs f g) h = Wrongs _ _
both_alike (Wrongs f g) (Rights y) h = Wrongs _ _
both_alike (Wrongs f g) (Wrongs f' g') h = Wrongs _ _

pub demand_alike : {A : Type 0} {c d : Checked A} (p q : Place) (k : FaultKind) (test : Bool) → AreAlike c d → AreAlike (demand p k test c) (demand q k test d)
demand_alike p q k true h = h
demand_alike p q k false (Rights x) = Wrongs _ _
demand_alike p q k false (Wrongs f g) = Wrongs _ _

pub chosen_alike : {A : Type 0} {c c' d d' : Checked A} (test : Bool) → AreAlike c c' → AreAlike d d' → AreAlike (chosen test c d) (chosen test c' d')
chosen_alike true h k = h
chosen_alike false h k = k

pub needed_alike : {A : Type 0} (p q : Place) (x : Option A) → AreAlike (needed p x) (needed q x)
needed_alike p q None = Wrongs _ _
needed_alike p q (Some x) = Rights x

pub next_alike : {A : Type 0} {c c' : Checked A} {d d' : Checked (List A)} → AreAlike c c' → AreAlike d d' → AreAlike (next c d) (next c' d')
next_alike h k = both_alike h k (λ x xs. Rights (x ∷ xs))

pub itself : {A : Type 0} (c : Checked A) → AreAlike c c
itself (Right x) = Rights x
itself (Wrong f) = Wrongs f f

pub reversed : {A : Type 0} {c d : Checked A} → AreAlike c d → AreAlike d c
reversed (Rights x) = Rights x
reversed (Wrongs f g) = Wrongs g f

-- tests that are equal, and values
pub chosen_by : {A : Type 0} {c c' d d' : Checked A} (t u : Bool) → t ≡ u → AreAlike c c' → AreAlike d d' → AreAlike (chosen t c d) (chosen u c' d')
chosen_by {c = c} {c' = c'} {d' = d'} true u e h k = subst (λ b. AreAlike c (chosen b c' d')) e h
chosen_by {c' = c'} {d = d} {d' = d'} false u e h k = subst (λ b. AreAlike d (chosen b c' d')) e k

pub demand_by : {A : Type 0} {c d : Checked A} (p q : Place) (k : FaultKind) (t u : Bool) → t ≡ u → AreAlike c d → AreAlike (demand p k t c) (demand q k u d)
demand_by {c = c} {d = d} p q k t u e h = subst (λ b. AreAlike (demand p k t c) (demand q k b d)) e (demand_alike p q k t h)

pub rights_by : {A : Type 0} {x y : A} → x ≡ y → AreAlike (Right x) (Right y)
rights_by {A = A} {x = x} e = subst (λ (z : A). AreAlike (Right x) (Right z)) e (Rights x)
