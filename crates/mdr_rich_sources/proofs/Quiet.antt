-- A form that isn't active needs no statement and no slot.
use Rattle.std.proofs.Common.{◌≡◌, ℕ, Bool, true, false, ◌&&◌, ◌||◌, List, [], ◌++◌, ◌∷◌, refl, ◌∙◌}
use Rattle.mdr_core.specs.declared.code.Expr.{Expr}
use Rattle.mdr_core.specs.declared.types.Ty.{Ty}
use Rattle.mdr_core.specs.Layout.{chosen}
use Rattle.mdr_lower.specs.Lowering.{keeps, low, low_place, part}
use Rattle.mdr_lower.specs.declared.work.Work.{Work}
use Rattle.mdr_rich.specs.Activity.{is_active, is_active_place}
use Rattle.mdr_rich.specs.Carried.{type_of}
use Rattle.mdr_rich.specs.Code.{Term, Lvalue}

true_false : true ≡ false → ⊥
true_false e = cc e

both_false : (x y : Bool) → (x || y) ≡ false → (x ≡ false) × (y ≡ false)
both_false true y e = absurd (true_false e)
both_false false y e = (refl, e)

second_chosen : {A : Type 0} (c : Bool) (x y : Work × A) (w : Work) → c ≡ false → y.0 ≡ w → (chosen c x y).0 ≡ w
second_chosen true x y w e h = absurd (true_false e)
second_chosen false x y w e h = h

no_part : (c d : Bool) (n : ℕ) (t : Ty) (x : Work × Expr) (w : Work) → c ≡ false → x.0 ≡ w → (part (c && d) n t x).0 ≡ w
no_part true d n t x w e h = absurd (true_false e)
no_part false d n t x w e h = h

module _ (n : ℕ) where
  -- one part behind another
  then_same : (f : Work → Work) (v w : Work) → ((x : Work) → f x ≡ x) → v ≡ w → f v ≡ w
  then_same f v w h e = h v ∙ e

  mutual
    pub inactive_same : (e : Term) → is_active e ≡ false → (w : Work) → (low n e w).0 ≡ w
    inactive_same (Term.Lit v) h w = refl
    inactive_same (Term.Load p) h w = place_same p h w
    inactive_same (Term.Addr p) h w = place_same p h w
    inactive_same (Term.Decay p) h w = place_same p h w
    inactive_same (Term.Neg k e) h w = inactive_same e h w
    inactive_same (Term.Flip k e) h w = inactive_same e h w
    inactive_same (Term.Not e) h w = inactive_same e h w
    inactive_same (Term.Bin op k a b) h w =
        let hs : (is_active a ≡ false) × (is_active b ≡ false) = both_false (is_active a) (is_active b) h in
        then_same (λ v. (low n b v).0) (part (keeps (is_active b) a) n (type_of a) (low n a w)).0 w (inactive_same b hs.1) (no_part (is_active b) _ n (type_of a) (low n a w) w hs.1 (inactive_same a hs.0 w))
    inactive_same (Term.Rel op a b) h w =
        let hs : (is_active a ≡ false) × (is_active b ≡ false) = both_false (is_active a) (is_active b) h in
        then_same (λ v. (low n b v).0) (part (keeps (is_active b) a) n (type_of a) (low n a w)).0 w (inactive_same b hs.1) (no_part (is_active b) _ n (type_of a) (low n a w) w hs.1 (inactive_same a hs.0 w))
    inactive_same (Term.And a b) h w =
        let hs : (is_active a ≡ false) × (is_active b ≡ false) = both_false (is_active a) (is_active b) h in
        second_chosen (is_active b) _ _ w hs.1 (then_same (λ v. (low n b v).0) (low n a w).0 w (inactive_same b hs.1) (inactive_same a hs.0 w))
    inactive_same (Term.Or a b) h w =
        let hs : (is_active a ≡ false) × (is_active b ≡ false) = both_false (is_active a) (is_active b) h in
        second_chosen (is_active b) _ _ w hs.1 (then_same (λ v. (low n b v).0) (low n a w).0 w (inactive_same b hs.1) (inactive_same a hs.0 w))
    inactive_same (Term.Conv k e) h w = inactive_same e h w
    inactive_same (Term.ToVoid e) h w = inactive_same e h w
    inactive_same (Term.FromVoid t e) h w = inactive_same e h w
    inactive_same (Term.Move back p i) h w =
        let hs : (is_active p ≡ false) × (is_active i ≡ false) = both_false (is_active p) (is_active i) h in
        then_same (λ v. (low n i v).0) (part (keeps (is_active i) p) n (type_of p) (low n p w)).0 w (inactive_same i hs.1) (no_part (is_active i) _ n (type_of p) (low n p w) w hs.1 (inactive_same p hs.0 w))
    inactive_same (Term.Diff p q) h w =
        let hs : (is_active p ≡ false) × (is_active q ≡ false) = both_false (is_active p) (is_active q) h in
        then_same (λ v. (low n q v).0) (part (keeps (is_active q) p) n (type_of p) (low n p w)).0 w (inactive_same q hs.1) (no_part (is_active q) _ n (type_of p) (low n p w) w hs.1 (inactive_same p hs.0 w))
    inactive_same (Term.Cond t c a b) h w = absurd (true_false h)
    inactive_same (Term.Call t f args shape format) h w = absurd (true_false h)
    inactive_same (Term.Bump t up first p) h w = absurd (true_false h)

    place_same : (p : Lvalue) → is_active_place p ≡ false → (w : Work) → (low_place n p w).0 ≡ w
    place_same (Lvalue.Slot i t) h w = refl
    place_same (Lvalue.Object i t) h w = refl
    place_same (Lvalue.Global g t) h w = refl
    place_same (Lvalue.Deref e) h w = inactive_same e h w
    place_same (Lvalue.Member p f t) h w = place_same p h w
    place_same (Lvalue.Index p e) h w =
        let hs : (is_active_place p ≡ false) × (is_active e ≡ false) = both_false (is_active_place p) (is_active e) h in
        second_chosen (is_active e) _ _ w hs.1 (then_same (λ v. (low n e v).0) (low_place n p w).0 w (inactive_same e hs.1) (place_same p hs.0 w))

-- nothing stands behind
pub nothing_more : {A : Type 0} (xs ys : List A) → xs ≡ xs ++ ys → ys ≡ []
nothing_more [] ys e = cc e
nothing_more (x ∷ xs) ys e = nothing_more xs ys cc
