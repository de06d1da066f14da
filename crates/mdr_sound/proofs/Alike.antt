-- Types that are alike are equal.
use Rattle.std.proofs.Common.{◌≡◌, Bool, true, false, ◌&&◌, List, [], ◌∷◌, map, refl, sym, ap, ◌∙◌, subst, eqb-true, eq-eqb}
use Rattle.mdr_core.specs.declared.kind.Kind.{Kind}
use Rattle.mdr_core.specs.declared.kind.Kind.TheVariants.{U8, U16, U32, U64, S8, S16, S32, S64}
use Rattle.mdr_core.specs.declared.types.Ty.{Ty, out-Ty, roll-Ty, out-roll-Ty, roll-out-Ty}
use Rattle.mdr_core.specs.declared.types.Ty.TheOpen.{Ty-F}
use Rattle.mdr_core.specs.declared.types.Ty.TheFolds.{ind-Ty, map-Ty, fold-roll-Ty}
use Rattle.mdr_core.specs.Kinds.{is_same_kind}
use Rattle.mdr_faults.specs.Alike.{all_alike, alike_layer, is_alike, are_alike}

pub left_of : (x y : Bool) → (x && y) ≡ true → x ≡ true
left_of true y h = refl
left_of false y h = h

pub right_of : (x y : Bool) → (x && y) ≡ true → y ≡ true
right_of true y h = h
right_of false y h = absurd cc

pub kinds_exact : (k l : Kind) → is_same_kind k l ≡ true → k ≡ l
kinds_exact U8 U8 h = refl
kinds_exact U16 U16 h = refl
kinds_exact U32 U32 h = refl
kinds_exact U64 U64 h = refl
kinds_exact S8 S8 h = refl
kinds_exact S16 S16 h = refl
kinds_exact S32 S32 h = refl
kinds_exact S64 S64 h = refl
kinds_exact k l h = absurd cc

pub kind_same : (k : Kind) → is_same_kind k k ≡ true
kind_same U8 = refl
kind_same U16 = refl
kind_same U32 = refl
kind_same U64 = refl
kind_same S8 = refl
kind_same S16 = refl
kind_same S32 = refl
kind_same S64 = refl

-- ---- a layer over types that are compared exactly

module _ {E : Type 0} (f : E → Ty) where
  all_exact : ((e : E) (u : Ty) → is_alike (f e) u ≡ true → f e ≡ u) → (es : List E) (us : List Ty) → all_alike (map is_alike (map f es)) us ≡ true → map f es ≡ us
  all_exact h [] [] q = refl
  all_exact h [] (u ∷ us) q = absurd cc
  all_exact h (e ∷ es) [] q = absurd cc
  all_exact h (e ∷ es) (u ∷ us) q =
      let first : f e ≡ u = h e u (left_of _ _ q) in
      let rest : map f es ≡ us = all_exact h es us (right_of _ _ q) in
      λ i. first i ∷ rest i

  layers_exact : ((e : E) (u : Ty) → is_alike (f e) u ≡ true → f e ≡ u) → (y : Ty-F E) (z : Ty-F Ty)
      → alike_layer (map-Ty Ty (Ty → Bool) is_alike (map-Ty E Ty f y)) z ≡ true → map-Ty E Ty f y ≡ z
  layers_exact h (Ty-F.Int k) (Ty-F.Int l) q = ap Ty-F.Int (kinds_exact k l q)
  layers_exact h Ty-F.Lock Ty-F.Lock q = refl
  layers_exact h (Ty-F.Struct s) (Ty-F.Struct t) q = ap Ty-F.Struct (eqb-true s t q)
  layers_exact h (Ty-F.Ptr e) (Ty-F.Ptr u) q = ap Ty-F.Ptr (h e u q)
  layers_exact h Ty-F.VoidPtr Ty-F.VoidPtr q = refl
  layers_exact h (Ty-F.Fun es) (Ty-F.Fun us) q = ap Ty-F.Fun (all_exact h es us q)
  layers_exact h Ty-F.Void Ty-F.Void q = refl
  layers_exact h y z q = absurd cc

  all_equal : ((e : E) → is_alike (f e) (f e) ≡ true) → (es : List E) → all_alike (map is_alike (map f es)) (map f es) ≡ true
  all_equal h [] = refl
  all_equal h (e ∷ es) = rw (h e) (all_equal h es)

  layers_equal : ((e : E) → is_alike (f e) (f e) ≡ true) → (y : Ty-F E) → alike_layer (map-Ty Ty (Ty → Bool) is_alike (map-Ty E Ty f y)) (map-Ty E Ty f y) ≡ true
  layers_equal h (Ty-F.Int k) = kind_same k
  layers_equal h Ty-F.Lock = refl
  layers_equal h (Ty-F.Struct s) = eq-eqb s s refl
  layers_equal h (Ty-F.Ptr e) = h e
  layers_equal h Ty-F.VoidPtr = refl
  layers_equal h (Ty-F.Fun es) = all_equal h es
  layers_equal h Ty-F.Void = refl

-- ---- types

-- a comparison by one level
alike_is : (x : Ty-F Ty) (u : Ty) → is_alike (roll-Ty x) u ≡ alike_layer (map-Ty Ty (Ty → Bool) is_alike x) (out-Ty u)
alike_is x u = ap (λ (g : Ty → Bool). g u) (fold-roll-Ty (Ty → Bool) (λ t u. alike_layer t (out-Ty u)) x)

record Exact (t : Ty) : Type 0 where
  by : (u : Ty) → is_alike t u ≡ true → t ≡ u

exact : (t : Ty) → Exact t
exact = ind-Ty Exact (λ x y is. record {
  by = λ u q.
      let layer : alike_layer (map-Ty Ty (Ty → Bool) is_alike (map-Ty _ Ty (λ e. e.0) y)) (out-Ty u) ≡ true =
      subst (λ (z : Ty-F Ty). alike_layer (map-Ty Ty (Ty → Bool) is_alike z) (out-Ty u) ≡ true) (sym is) (sym (alike_is x u) ∙ q)
      in
      ap roll-Ty (sym is ∙ layers_exact (λ e. e.0) (λ e. (e.1).by) y (out-Ty u) layer) ∙ roll-out-Ty u;
})

-- types that are alike are one
pub alike_same : (t u : Ty) → is_alike t u ≡ true → t ≡ u
alike_same t = (exact t).by

pub alikes_same : (ts us : List Ty) → are_alike ts us ≡ true → ts ≡ us
alikes_same [] [] q = refl
alikes_same [] (u ∷ us) q = absurd cc
alikes_same (t ∷ ts) [] q = absurd cc
alikes_same (t ∷ ts) (u ∷ us) q =
    let first : t ≡ u = alike_same t u (left_of _ _ q) in
    let rest : ts ≡ us = alikes_same ts us (right_of _ _ q) in
    λ i. first i ∷ rest i

record Equal (t : Ty) : Type 0 where
  is : is_alike t t ≡ true

equal : (t : Ty) → Equal t
equal = ind-Ty Equal (λ x y is. record {
  is = alike_is x (roll-Ty x)
      ∙ ap (λ (z : Ty-F Ty). alike_layer (map-Ty Ty (Ty → Bool) is_alike x) z) (out-roll-Ty x)
      ∙ subst (λ (z : Ty-F Ty). alike_layer (map-Ty Ty (Ty → Bool) is_alike z) z ≡ true) is (layers_equal (λ e. e.0) (λ e. (e.1).is) y);
})

-- each type is alike to itself
pub alike_itself : (t : Ty) → is_alike t t ≡ true
alike_itself t = (equal t).is
