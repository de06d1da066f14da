-- Where one rule finds no fault, another finds none, and what it gives is made of what the first gives.
use Rattle.std.proofs.Common.{◌≡◌, refl, sym, subst, ap, Bool, true, false, List, ◌∷◌, map}
use Rattle.mdr_core.specs.declared.place.Place.{Place}
use Rattle.mdr_faults.specs.declared.fault.FaultKind.{FaultKind}
use Rattle.mdr_faults.specs.Faults.{Checked, Right, Wrong, Faults, after, both, demand, next}

pub data Leads {A B : Type 0} (f : A → B) : Checked A → Checked B → Type 0 where
  Goods : (x : A) → Leads f (Right x) (Right (f x))
  Bads : (g : Faults) (d : Checked B) → Leads f (Wrong g) d

pub itself : {A : Type 0} (c : Checked A) → Leads (λ x. x) c c
itself (Right x) = Goods x
itself (Wrong g) = Bads g _

pub goods_by : {A B : Type 0} (f : A → B) (x : A) (y : B) → f x ≡ y → Leads f (Right x) (Right y)
goods_by {B = B} f x y e = subst (λ (z : B). Leads f (Right x) (Right z)) e (Goods x)

pub after_leads : {A B C D : Type 0} (f : A → B) (g : C → D) {c : Checked A} {d : Checked B} (rule : A → Checked C) (other : B → Checked D) → Leads f c d → ((x : A) → Leads g (rule x) (other (f x))) → Leads g (after c rule) (after d other)
after_leads f g rule other (Goods x) h = h x
after_leads f g rule other (Bads k d) h = Bads k _

pub both_leads : {A B C D E F : Type 0} (f : A → B) (g : C → D) (h : E → F) {c : Checked A} {d : Checked B} {c' : Checked C} {d' : Checked D} (rule : A → C → Checked E) (other : B → D → Checked F)
    → Leads f c d → Leads g c' d' → ((x : A) (y : C) → Leads h (rule x y) (other (f x) (g y))) → Leads h (both c c' rule) (both d d' other)
both_leads f g h rule other (Goods x) (Goods y) k = k x y
both_leads f g h rule other (Goods x) (Bads l d) k = Bads l _
both_leads f g h rule other (Bads l d) (Goods y) k = Bads l _
both_leads f g h rule other (Bads l d) (Bads m e) k = Bads _ _

pub demand_leads : {A B : Type 0} (f : A → B) {c : Checked A} {d : Checked B} (p : Place) (k : FaultKind) (t u : Bool) → (t ≡ true → u ≡ true) → Leads f c d → Leads f (demand p k t c) (demand p k u d)
demand_leads f {c = c} {d = d} p k true u h l = subst (λ b. Leads f c (demand p k b d)) (sym (h refl)) l
demand_leads f p k false u h (Goods x) = Bads _ _
demand_leads f p k false u h (Bads g d) = Bads _ _

pub next_leads : {A B : Type 0} (f : A → B) {c : Checked A} {d : Checked B} {cs : Checked (List A)} {ds : Checked (List B)} → Leads f c d → Leads (map f) cs ds → Leads (map f) (next c cs) (next d ds)
next_leads f l ls = both_leads f (map f) (map f) _ _ l ls (λ x xs. Goods (x ∷ xs))

-- what is right leads on
abbrev right_or : {A : Type 0} → A → Checked A → A
right_or d (Right x) = x
right_or d (Wrong g) = d

pub led : {A B : Type 0} (f : A → B) {c : Checked A} {d : Checked B} → Leads f c d → (x : A) → c ≡ Right x → d ≡ Right (f x)
led {A = A} f (Goods y) x e = ap (λ (z : A). Right (f z)) (ap (λ (c : Checked A). right_or y c) e)
led f (Bads g d) x e = absurd cc
