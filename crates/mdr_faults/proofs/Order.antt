-- The order of faults.
use Rattle.std.proofs.Common.{ℕ, ◌≡◌, ◌==◌, arith, Bool, true, false, refl, ap}
use Rattle.std.specs.Prelude.{nat_lt}
use Rattle.std.proofs.Math.Path.{sym, ◌∙◌}
use Rattle.mdr_core.specs.Layout.{chosen}
use Rattle.mdr_faults.specs.declared.fault.Fault.{Fault}
use Rattle.mdr_faults.specs.Faults.{lesser, is_before, number}

-- an order by a number, and where these are equal by another order, of which the tests are known
one_way : (a b : ℕ) (ab ba : Bool) → (ab ≡ true → ba ≡ false) → chosen (a == b) ab (nat_lt a b) ≡ true → chosen (b == a) ba (nat_lt b a) ≡ false
one_way a b true ba inner e = grind (arith, inner refl)
one_way a b false ba inner e = grind arith

none_between : (a b c : ℕ) (ba cb ca : Bool) → (ba ≡ false → cb ≡ false → ca ≡ false) → chosen (b == a) ba (nat_lt b a) ≡ false → chosen (c == b) cb (nat_lt c b) ≡ false → chosen (c == a) ca (nat_lt c a) ≡ false
none_between a b c true cb ca inner d e = grind arith
none_between a b c false true ca inner d e = grind arith
none_between a b c false false ca inner d e = grind (arith, inner refl refl)

numbers_one_way : (a b : ℕ) → nat_lt a b ≡ true → nat_lt b a ≡ false
numbers_one_way a b e = grind arith

numbers_none_between : (a b c : ℕ) → nat_lt b a ≡ false → nat_lt c b ≡ false → nat_lt c a ≡ false
numbers_none_between a b c d e = grind arith

pub before_one_way : (f g : Fault) → is_before f g ≡ true → is_before g f ≡ false
before_one_way f g =
    one_way f.place.line g.place.line _ _
    (one_way f.place.column g.place.column _ _ (numbers_one_way (number f.kind) (number g.kind)))

pub before_none_between : (f g h : Fault) → is_before g f ≡ false → is_before h g ≡ false → is_before h f ≡ false
before_none_between f g h =
    none_between f.place.line g.place.line h.place.line _ _ _
    (none_between f.place.column g.place.column h.place.column _ _ _ (numbers_none_between (number f.kind) (number g.kind) (number h.kind)))

not_both : {b : Bool} → b ≡ true → b ≡ false → ⊥
not_both e d = grind (arith, e, d)

false_unless : (b : Bool) → (b ≡ true → ⊥) → b ≡ false
false_unless true h = absurd (h refl)
false_unless false h = refl

true_unless : (b : Bool) → (b ≡ false → ⊥) → b ≡ true
true_unless true h = refl
true_unless false h = absurd (h refl)

pub before_goes_on : (f g h : Fault) → is_before g f ≡ true → is_before h g ≡ true → is_before h f ≡ true
before_goes_on f g h d e = true_unless _ (λ no. not_both e (before_none_between g f h (before_one_way g f d) no))

pub not_before_itself : (f : Fault) → is_before f f ≡ false
not_before_itself f = false_unless _ (λ yes. not_both yes (before_one_way f f yes))

-- ---- the lesser of two

left_by : (t : Bool) (f g h : Fault) → is_before g f ≡ t → is_before h f ≡ false → is_before h (chosen t g f) ≡ false
left_by true f g h d e = before_none_between g f h (before_one_way g f d) e
left_by false f g h d e = e

pub below_left : (f g h : Fault) → is_before h f ≡ false → is_before h (lesser f g) ≡ false
below_left f g h e = left_by (is_before g f) f g h refl e

right_by : (t : Bool) (f g h : Fault) → is_before g f ≡ t → is_before h g ≡ false → is_before h (chosen t g f) ≡ false
right_by true f g h d e = e
right_by false f g h d e = before_none_between f g h d e

pub below_right : (f g h : Fault) → is_before h g ≡ false → is_before h (lesser f g) ≡ false
below_right f g h e = right_by (is_before g f) f g h refl e

assoc_by : (gf hg hf : Bool) (f g h : Fault) → is_before g f ≡ gf → is_before h g ≡ hg → is_before h f ≡ hf → lesser (chosen gf g f) h ≡ lesser f (chosen hg h g)
assoc_by true true true f g h a b c = ap (λ t. chosen t h g) b ∙ sym (ap (λ t. chosen t h f) c)
assoc_by true true false f g h a b c = absurd (not_both (before_goes_on f g h a b) c)
assoc_by true false hf f g h a b c = ap (λ t. chosen t h g) b ∙ sym (ap (λ t. chosen t g f) a)
assoc_by false true hf f g h a b c = refl
assoc_by false false true f g h a b c = absurd (not_both c (before_none_between f g h a b))
assoc_by false false false f g h a b c = ap (λ t. chosen t h f) c ∙ sym (ap (λ t. chosen t g f) a)

pub lesser_assoc : (f g h : Fault) → lesser (lesser f g) h ≡ lesser f (lesser g h)
lesser_assoc f g h = assoc_by (is_before g f) (is_before h g) (is_before h f) f g h refl refl refl
