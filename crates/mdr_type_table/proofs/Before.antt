-- Texts in their order: of those that rise each stands before all that follow, so none stands there twice.
use Rattle.std.proofs.Common.{ℕ, zero, suc, ◌≡◌, refl, Bool, true, false, nat_lt, List, [], ◌∷◌, Some, slice_get, ap, sym, ◌∙◌, subst, arith}
use Rattle.mdr_core.specs.Layout.{chosen}
use Rattle.mdr_core.specs.TypeText.{is_before}
use Rattle.mdr_check.specs.declared.table.TextedType.{TextedType}
use Rattle.mdr_program.specs.Orders.{Rise}

-- ---- texts

through_by : (x y z : ℕ) (a b c : Bool) (p q p' q' r s : Bool) → nat_lt x y ≡ p → nat_lt y x ≡ q → nat_lt y z ≡ p' → nat_lt z y ≡ q' → nat_lt x z ≡ r → nat_lt z x ≡ s
    → (a ≡ true → b ≡ true → c ≡ true)
    → chosen p true (chosen q false a) ≡ true → chosen p' true (chosen q' false b) ≡ true → chosen r true (chosen s false c) ≡ true
through_by x y z a b c p q p' q' true s ep eq ep' eq' er es h f g = refl
through_by x y z a b c true q true q' false s ep eq ep' eq' er es h f g = absurd (grind (arith, ep, ep', er))
through_by x y z a b c true q false true false s ep eq ep' eq' er es h f g = absurd cc
through_by x y z a b c true q false false false s ep eq ep' eq' er es h f g = absurd (grind (arith, ep, ep', eq', er))
through_by x y z a b c false true p' q' false s ep eq ep' eq' er es h f g = absurd cc
through_by x y z a b c false false true q' false s ep eq ep' eq' er es h f g = absurd (grind (arith, ep, eq, ep', er))
through_by x y z a b c false false false true false s ep eq ep' eq' er es h f g = absurd cc
through_by x y z a b c false false false false false true ep eq ep' eq' er es h f g = absurd (grind (arith, ep, eq, ep', eq', er, es))
through_by x y z a b c false false false false false false ep eq ep' eq' er es h f g = h f g

before_through : (xs ys zs : List ℕ) → is_before xs ys ≡ true → is_before ys zs ≡ true → is_before xs zs ≡ true
before_through xs [] zs f g = absurd cc
before_through xs (y ∷ ys) [] f g = absurd cc
before_through [] (y ∷ ys) (z ∷ zs) f g = refl
before_through (x ∷ xs) (y ∷ ys) (z ∷ zs) f g =
    through_by x y z (is_before xs ys) (is_before ys zs) (is_before xs zs) (nat_lt x y) (nat_lt y x) (nat_lt y z) (nat_lt z y) (nat_lt x z) (nat_lt z x) refl refl refl refl refl refl (before_through xs ys zs) f g

not_itself_by : (x : ℕ) (a : Bool) (p : Bool) → nat_lt x x ≡ p → (a ≡ true → ⊥) → chosen p true (chosen p false a) ≡ true → ⊥
not_itself_by x a true e h f = grind (arith, e)
not_itself_by x a false e h f = h f

not_itself : (xs : List ℕ) → is_before xs xs ≡ true → ⊥
not_itself [] f = absurd cc
not_itself (x ∷ xs) f = not_itself_by x (is_before xs xs) (nat_lt x x) refl (not_itself xs) f

-- ---- lists of them

before_all : (ts : List TextedType) (t : TextedType) (j : ℕ) (x : TextedType) → Rise (t ∷ ts) → slice_get ts j ≡ Some x → is_before t.text x.text ≡ true
before_all [] t j x h e = absurd cc
before_all (u ∷ us) t zero x h e = let same : u ≡ x = cc in subst (λ (y : TextedType). is_before t.text y.text ≡ true) same h.0
before_all (u ∷ us) t (suc j) x h e = before_through t.text u.text x.text h.0 (before_all us u j x h.1 e)

apart : (x y : TextedType) → is_before x.text y.text ≡ true → x.text ≡ y.text → ⊥
apart x y b e = not_itself y.text (subst (λ (bs : List ℕ). is_before bs y.text ≡ true) e b)

pub place_once : (ts : List TextedType) → Rise ts → (j k : ℕ) (x y : TextedType) → slice_get ts j ≡ Some x → slice_get ts k ≡ Some y → x.text ≡ y.text → j ≡ k
place_once [] h j k x y e f s = absurd cc
place_once (t ∷ ts) h zero zero x y e f s = refl
place_once (t ∷ ts) h zero (suc k) x y e f s =
    let same : t ≡ x = cc in
    absurd (apart t y (before_all ts t k y h f) (ap (λ (u : TextedType). u.text) same ∙ s))
place_once (t ∷ ts) h (suc j) zero x y e f s =
    let same : t ≡ y = cc in
    absurd (apart t x (before_all ts t j x h e) (ap (λ (u : TextedType). u.text) same ∙ sym s))
place_once (t ∷ ts) h (suc j) (suc k) x y e f s = ap suc (place_once ts h.1 j k x y e f s)

pub next_rises : (ts : List TextedType) → Rise ts → (j : ℕ) (x y : TextedType) → slice_get ts j ≡ Some x → slice_get ts (suc j) ≡ Some y → is_before x.text y.text ≡ true
next_rises [] h j x y e f = absurd cc
next_rises (t ∷ ts) h zero x y e f = let same : t ≡ x = cc in subst (λ (u : TextedType). is_before u.text y.text ≡ true) same (before_all ts t 0 y h f)
next_rises (t ∷ ts) h (suc j) x y e f = next_rises ts h.1 j x y e f
