-- Types are compared exactly, and each type of the table has its number.
use Rattle.std.proofs.Common.{◌≡◌, ℕ, zero, suc, ◌≤◌, Bool, true, false, ◌&&◌, List, [], ◌∷◌, map, Some, slice_get, refl, sym, ap, ◌∙◌, subst, eqb-true, eq-eqb, arith}
use Rattle.mdr_core.specs.declared.kind.Kind.{Kind}
use Rattle.mdr_core.specs.declared.kind.Kind.TheVariants.{U8, U16, U32, U64, S8, S16, S32, S64}
use Rattle.mdr_core.specs.declared.types.Ty.{Ty, out-Ty, roll-Ty, out-roll-Ty, roll-out-Ty}
use Rattle.mdr_core.specs.declared.types.Ty.TheOpen.{Ty-F}
use Rattle.mdr_core.specs.declared.types.Ty.TheFolds.{ind-Ty, map-Ty, fold-roll-Ty}
use Rattle.mdr_core.specs.Kinds.{is_same_kind}
use Rattle.mdr_core.specs.Layout.{chosen}
use Rattle.mdr_core.specs.Types.{HasNumber}
use Rattle.mdr_core.specs.declared.program.Program.{Program}
use Rattle.mdr_meaning.specs.Numbers.{all_same, same_layers, is_same_type, number_in, ProgramsAreNumbered}
use Rattle.mdr_meaning.specs.Values.{saturated_u32}

pub left_of : (x y : Bool) → (x && y) ≡ true → x ≡ true
left_of true y h = refl
left_of false y h = h

right_of : (x y : Bool) → (x && y) ≡ true → y ≡ true
right_of true y h = h
right_of false y h = absurd cc

some_same : {A : Type 0} {x y : A} → Some x ≡ Some y → x ≡ y
some_same e = cc

pub not_both : {b : Bool} → b ≡ true → b ≡ false → ⊥
not_both p q = cc

kinds_exact : (k l : Kind) → is_same_kind k l ≡ true → k ≡ l
kinds_exact U8 U8 h = refl
kinds_exact U16 U16 h = refl
kinds_exact U32 U32 h = refl
kinds_exact U64 U64 h = refl
kinds_exact S8 S8 h = refl
kinds_exact S16 S16 h = refl
kinds_exact S32 S32 h = refl
kinds_exact S64 S64 h = refl
kinds_exact k l h = absurd cc

kind_same : (k : Kind) → is_same_kind k k ≡ true
kind_same U8 = refl
kind_same U16 = refl
kind_same U32 = refl
kind_same U64 = refl
kind_same S8 = refl
kind_same S16 = refl
kind_same S32 = refl
kind_same S64 = refl

-- ---- a layer over types that are compared exactly

module _ {E : Type 0} (f : E → Ty) where
  all_exact : ((e : E) (u : Ty) → is_same_type (f e) u ≡ true → f e ≡ u) → (es : List E) (us : List Ty) → all_same (map is_same_type (map f es)) us ≡ true → map f es ≡ us
  all_exact h [] [] q = refl
  all_exact h [] (u ∷ us) q = absurd cc
  all_exact h (e ∷ es) [] q = absurd cc
  all_exact h (e ∷ es) (u ∷ us) q =
      let first : f e ≡ u = h e u (left_of _ _ q) in
      let rest : map f es ≡ us = all_exact h es us (right_of _ _ q) in
      λ i. first i ∷ rest i

  layers_exact : ((e : E) (u : Ty) → is_same_type (f e) u ≡ true → f e ≡ u) → (y : Ty-F E) (z : Ty-F Ty)
      → same_layers (map-Ty Ty (Ty → Bool) is_same_type (map-Ty E Ty f y)) z ≡ true → map-Ty E Ty f y ≡ z
  layers_exact h (Ty-F.Int k) (Ty-F.Int l) q = ap Ty-F.Int (kinds_exact k l q)
  layers_exact h Ty-F.Lock Ty-F.Lock q = refl
  layers_exact h (Ty-F.Struct s) (Ty-F.Struct t) q = ap Ty-F.Struct (eqb-true s t q)
  layers_exact h (Ty-F.Ptr e) (Ty-F.Ptr u) q = ap Ty-F.Ptr (h e u q)
  layers_exact h Ty-F.VoidPtr Ty-F.VoidPtr q = refl
  layers_exact h (Ty-F.Fun es) (Ty-F.Fun us) q = ap Ty-F.Fun (all_exact h es us q)
  layers_exact h Ty-F.Void Ty-F.Void q = refl
  layers_exact h y z q = absurd cc

  all_equal : ((e : E) → is_same_type (f e) (f e) ≡ true) → (es : List E) → all_same (map is_same_type (map f es)) (map f es) ≡ true
  all_equal h [] = refl
  all_equal h (e ∷ es) = rw (h e) (all_equal h es)

  layers_equal : ((e : E) → is_same_type (f e) (f e) ≡ true) → (y : Ty-F E) → same_layers (map-Ty Ty (Ty → Bool) is_same_type (map-Ty E Ty f y)) (map-Ty E Ty f y) ≡ true
  layers_equal h (Ty-F.Int k) = kind_same k
  layers_equal h Ty-F.Lock = refl
  layers_equal h (Ty-F.Struct s) = eq-eqb s s refl
  layers_equal h (Ty-F.Ptr e) = h e
  layers_equal h Ty-F.VoidPtr = refl
  layers_equal h (Ty-F.Fun es) = all_equal h es
  layers_equal h Ty-F.Void = refl

-- ---- types

-- a comparison by one level
same_is : (x : Ty-F Ty) (u : Ty) → is_same_type (roll-Ty x) u ≡ same_layers (map-Ty Ty (Ty → Bool) is_same_type x) (out-Ty u)
unfolding is_same_type
same_is x u = ap (λ (g : Ty → Bool). g u) (fold-roll-Ty (Ty → Bool) (λ t u. same_layers t (out-Ty u)) x)

record Exact (t : Ty) : Type 0 where
  by : (u : Ty) → is_same_type t u ≡ true → t ≡ u

exact : (t : Ty) → Exact t
exact = ind-Ty Exact (λ x y is. record {
  by = λ u q.
      let layer : same_layers (map-Ty Ty (Ty → Bool) is_same_type (map-Ty _ Ty (λ e. e.0) y)) (out-Ty u) ≡ true =
      subst (λ (z : Ty-F Ty). same_layers (map-Ty Ty (Ty → Bool) is_same_type z) (out-Ty u) ≡ true) (sym is) (sym (same_is x u) ∙ q)
      in
      ap roll-Ty (sym is ∙ layers_exact (λ e. e.0) (λ e. (e.1).by) y (out-Ty u) layer) ∙ roll-out-Ty u;
})

pub types_exact : (t u : Ty) → is_same_type t u ≡ true → t ≡ u
types_exact t = (exact t).by

record Equal (t : Ty) : Type 0 where
  is : is_same_type t t ≡ true

equal : (t : Ty) → Equal t
equal = ind-Ty Equal (λ x y is. record {
  is = same_is x (roll-Ty x)
      ∙ ap (same_layers (map-Ty Ty (Ty → Bool) is_same_type x)) (out-roll-Ty x)
      ∙ subst (λ (z : Ty-F Ty). same_layers (map-Ty Ty (Ty → Bool) is_same_type z) z ≡ true) is (layers_equal (λ e. e.0) (λ e. (e.1).is) y);
})

pub type_same : (t : Ty) → is_same_type t t ≡ true
type_same t = (equal t).is

-- ---- numbers

number_step : (b : Bool) (t ty : Ty) (ts : List Ty) → is_same_type t ty ≡ b
    → (b ≡ false → slice_get ts (number_in ts ty) ≡ Some ty) → slice_get (t ∷ ts) (chosen b 0 (suc (number_in ts ty))) ≡ Some ty
number_step true t ty ts q h = ap Some (types_exact t ty q)
number_step false t ty ts q h = h refl

other_place : (t ty : Ty) (ts : List Ty) (i : ℕ) → slice_get (t ∷ ts) i ≡ Some ty → is_same_type t ty ≡ false → (j : ℕ) × (slice_get ts j ≡ Some ty)
other_place t ty ts zero e q =
    let same : t ≡ ty = some_same e in
    let equal : is_same_type t ty ≡ true = subst (λ (u : Ty). is_same_type t u ≡ true) same (type_same t) in
    absurd (not_both equal q)
other_place t ty ts (suc i) e q = (i, e)

-- a type of the list has its number there
pub numbered_in : (ts : List Ty) (ty : Ty) (i : ℕ) → slice_get ts i ≡ Some ty → slice_get ts (number_in ts ty) ≡ Some ty
unfolding number_in
numbered_in [] ty i e = absurd cc
numbered_in (t ∷ ts) ty i e = number_step (is_same_type t ty) t ty ts refl (λ q. let there = other_place t ty ts i e q in numbered_in ts ty there.0 there.1)

-- which is the first such place
first_step : (b : Bool) (t ty : Ty) (ts : List Ty) (i : ℕ) → is_same_type t ty ≡ b → slice_get (t ∷ ts) i ≡ Some ty → ((j : ℕ) → slice_get ts j ≡ Some ty → number_in ts ty ≤ j) → chosen b 0 (suc (number_in ts ty)) ≤ i
first_step true t ty ts i q e h = omega arith
first_step false t ty ts zero q e h = absurd (not_both (subst (λ (u : Ty). is_same_type t u ≡ true) (some_same e) (type_same t)) q)
first_step false t ty ts (suc i) q e h = let low = h i e in omega (arith, low)

number_low : (ts : List Ty) (ty : Ty) (i : ℕ) → slice_get ts i ≡ Some ty → number_in ts ty ≤ i
unfolding number_in
number_low [] ty i e = absurd cc
number_low (t ∷ ts) ty i e = first_step (is_same_type t ty) t ty ts i refl e (number_low ts ty)

-- a type that has a number has one of 32 bits
pub short_number : (program : Program) (ty : Ty) → HasNumber program ty → saturated_u32 (number_in program.types ty) ≡ number_in program.types ty
short_number program ty h = let low = number_low program.types ty h.number h.names in let fits = h.fits in omega (arith, low, fits)

pub numbered_short : (program : Program) (ty : Ty) → HasNumber program ty → slice_get program.types (saturated_u32 (number_in program.types ty)) ≡ Some ty
numbered_short program ty h = ap (slice_get program.types) (short_number program ty h) ∙ numbered_in program.types ty h.number h.names

-- and no other type has it
back_step : (b : Bool) (t ty u : Ty) (ts : List Ty) → is_same_type t ty ≡ b → (slice_get ts (number_in ts ty) ≡ Some u → u ≡ ty) → slice_get (t ∷ ts) (chosen b 0 (suc (number_in ts ty))) ≡ Some u → u ≡ ty
back_step true t ty u ts q h e = sym (some_same e) ∙ types_exact t ty q
back_step false t ty u ts q h e = h e

pub numbered_back : (ts : List Ty) (ty u : Ty) → slice_get ts (number_in ts ty) ≡ Some u → u ≡ ty
unfolding number_in
numbered_back [] ty u e = absurd cc
numbered_back (t ∷ ts) ty u e = back_step (is_same_type t ty) t ty u ts refl (numbered_back ts ty u) e

pub programs_are_numbered : ProgramsAreNumbered
programs_are_numbered program = record {
  names = λ ty h. numbered_in program.types ty h.number h.names;
  short = short_number program;
  back = λ ty u e. numbered_back program.types ty u e;
}
