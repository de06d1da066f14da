-- Values that fit: as they are now, where more is known, and where less is.
use Rattle.std.proofs.Common.{◌≡◌, ◌⊎◌, inl, inr, ℕ, Bool, true, false, cond, List, [], ◌∷◌, map, Option, Some, None, pos, refl, sym, ap, ◌∙◌}
use Rattle.std.specs.Prelude.{◌==◌, is_some}
use Rattle.mdr_core.specs.declared.kind.Kind.{Kind}
use Rattle.mdr_core.specs.declared.kind.Kind.TheVariants.{U8, U16, U32, U64, S8, S16, S32, S64}
use Rattle.mdr_core.specs.declared.program.Program.{Program}
use Rattle.mdr_core.specs.declared.types.Shape.{Shape}
use Rattle.mdr_core.specs.declared.types.Ty.{Ty, out-Ty}
use Rattle.mdr_core.specs.declared.types.Ty.TheOpen.{Ty-F}
use Rattle.mdr_core.specs.Kinds.{is_in_range}
use Rattle.mdr_core.specs.Layout.{zero_by}
use Rattle.mdr_core.specs.Types.{is_scalar, is_scalar_by}
use Rattle.mdr_meaning.specs.declared.wire.Wire.{Wire}
use Rattle.mdr_meaning.specs.declared.wire.Wire.TheVariants as wire
use Rattle.mdr_meaning.specs.declared.wire.WireView.{WireView}
use Rattle.mdr_meaning.specs.Fair.{AllFit, AreKnown, IsKnown}
use Rattle.mdr_meaning.specs.Fit.{Fits, FitsLayer, Grows, IsDataPointer, IsKnownView, IsResult, Knowledge}
use Rattle.mdr_meaning.specs.Values.{wire_of}
use Rattle.mdr_meaning.specs.Within.{Uses}
use Rattle.mdr_meaning.proofs.GrowthLaws.{fits_grows}
use Rattle.mdr_model.specs.Holds.{IsLockState}
use Rattle.mdr_model.specs.Memory.{Memory, is_live, normal, normal_if, swept}
use Rattle.mdr_holds.specs.Holding.{FitsCell}

pub some_is : {A : Type 0} {x y : A} → Some x ≡ Some y → x ≡ y
some_is e = cc

-- ---- a pointer that may be dead

-- a dead pointer fits where a pointer does
dead_layer : (program : Program) (K : Knowledge) (l : Ty-F Ty) (p : WireView) → FitsLayer program K l (wire.Ptr p) → FitsLayer program K l wire.Dead
dead_layer program K (Ty-F.Ptr t) p h = tt
dead_layer program K Ty-F.VoidPtr p h = tt
dead_layer program K (Ty-F.Int k) p h = elim h [ ]
dead_layer program K Ty-F.Lock p h = elim h [ ]
dead_layer program K (Ty-F.Struct s) p h = elim h [ ]
dead_layer program K (Ty-F.Fun ts) p h = elim h [ ]
dead_layer program K Ty-F.Void p h = elim h [ ]

-- what holds of values, and of the dead one where it holds of a pointer, holds of a value as it is now
by_now : (P : Wire → Type 0) (m : Memory) (v : Wire) → ((p : WireView) → P (wire.Ptr p) → P wire.Dead) → P v → P (normal m v)
unfolding normal
by_now P m (wire.Ptr p) dead h = of (is_live m p.serial) where
  of : (b : Bool) → P (normal_if b p)
  of true = h
  of false = dead p h
by_now P m (wire.Int k n) dead h = h
by_now P m wire.Null dead h = h
by_now P m wire.Dead dead h = h
by_now P m (wire.Fn f) dead h = h
by_now P m (wire.Lock s) dead h = h
by_now P m wire.NoValue dead h = h

by_swept : (P : Wire → Type 0) (serial : ℕ) (v : Wire) → ((p : WireView) → P (wire.Ptr p) → P wire.Dead) → P v → P (swept serial v)
by_swept P serial (wire.Ptr p) dead h = of (p.serial == serial) where
  of : (b : Bool) → P (cond b wire.Dead (wire.Ptr p))
  of true = dead p h
  of false = h
by_swept P serial (wire.Int k n) dead h = h
by_swept P serial wire.Null dead h = h
by_swept P serial wire.Dead dead h = h
by_swept P serial (wire.Fn f) dead h = h
by_swept P serial (wire.Lock s) dead h = h
by_swept P serial wire.NoValue dead h = h

module _ (program : Program) (K : Knowledge) where
  dead_fits : (t : Ty) (p : WireView) → Fits program K t (wire.Ptr p) → Fits program K t wire.Dead
  dead_fits t p h = dead_layer program K (out-Ty t) p h

  pub fits_now : (m : Memory) (t : Ty) (v : Wire) → Fits program K t v → Fits program K t (normal m v)
  fits_now m t v h = by_now (Fits program K t) m v (dead_fits t) h

  pub result_now : (m : Memory) (t : Ty) (v : Wire) → IsResult program K t v → IsResult program K t (normal m v)
  result_now m t v h = by_now (IsResult program K t) m v (dead_fits t) h

  data_now : (Takes : ℕ → Type 0) (m : Memory) (v : Wire) → IsDataPointer program K Takes v → IsDataPointer program K Takes (normal m v)
  data_now Takes m v h = by_now (IsDataPointer program K Takes) m v (λ p q. tt) h

  known_now : (m : Memory) (v : Wire) → IsKnown program K v → IsKnown program K (normal m v)
  known_now m v h = by_now (IsKnown program K) m v (λ p q. tt) h

  pub all_now : (m : Memory) (vs : List Wire) (ts : List Ty) → AllFit program K vs ts → AllFit program K (map (normal m) vs) ts
  all_now m [] [] h = tt
  all_now m [] (t ∷ ts) h = h
  all_now m (v ∷ vs) [] h = h
  all_now m (v ∷ vs) (t ∷ ts) h = (fits_now m t v h.0, all_now m vs ts h.1)

  pub are_known_now : (m : Memory) (vs : List Wire) → AreKnown program K vs → AreKnown program K (map (normal m) vs)
  are_known_now m [] h = tt
  are_known_now m (v ∷ vs) h = (known_now m v h.0, are_known_now m vs h.1)

  -- ---- cells

  dead_cell : (t : Ty) (p : WireView) → FitsCell program K t (wire.Ptr p) → FitsCell program K t wire.Dead
  dead_cell t p (inl h) = inl (dead_fits t p h)
  dead_cell t p (inr h) = elim h.1 [ ]

  pub cell_swept : (serial : ℕ) (t : Ty) (v : Wire) → FitsCell program K t v → FitsCell program K t (swept serial v)
  cell_swept serial t v h = by_swept (FitsCell program K t) serial v (dead_cell t) h

  no_lock : (l : Ty-F Ty) → is_scalar_by l ≡ true → l ≡ Ty-F.Lock → ⊥
  no_lock l h e = let both : is_scalar_by Ty-F.Lock ≡ true = sym (ap is_scalar_by e) ∙ h in absurd cc

  -- what a cell of a scalar holds fits
  pub scalar_cell : (t : Ty) (v : Wire) → is_scalar t ≡ true → FitsCell program K t v → Fits program K t v
  scalar_cell t v scalar (inl h) = h
  scalar_cell t v scalar (inr h) = absurd (no_lock (out-Ty t) scalar h.0)

pub cell_grows : (program : Program) (K K' : Knowledge) → Grows K K' → (t : Ty) (v : Wire) → FitsCell program K t v → FitsCell program K' t v
cell_grows program K K' g t v (inl h) = inl (fits_grows program K K' g t v h)
cell_grows program K K' g t v (inr h) = inr h

-- ---- where less is known

module _ (program : Program) (K K' : Knowledge) (g : Grows K K') where
  view_narrows : (p : WireView) → is_some (K.blocks p.serial) ≡ true → IsKnownView program K' p → IsKnownView program K p
  view_narrows p there h = of (K.blocks p.serial) refl there where
    of : (o : Option Shape) → K.blocks p.serial ≡ o → is_some o ≡ true → IsKnownView program K p
    of None e q = absurd cc
    of (Some shape) e q =
        let same : shape ≡ h.shape = some_is (sym (g.stays p.serial shape e) ∙ h.known) in
        record { shape = h.shape; known = e ∙ ap (λ (s : Shape). Some s) same; view = h.view; small = h.small }

  taken_narrows : (f : ℕ) → K'.uses.taken f ≡ true → K.uses.taken f ≡ true
  taken_narrows f h = sym (ap (λ (u : Uses). u.taken f) g.same) ∙ h

  layer_narrows : (l : Ty-F Ty) (v : Wire) → ((p : WireView) → v ≡ wire.Ptr p → is_some (K.blocks p.serial) ≡ true) → FitsLayer program K' l v → FitsLayer program K l v
  layer_narrows (Ty-F.Int k) v n h = h
  layer_narrows Ty-F.Lock v n h = h
  layer_narrows (Ty-F.Struct s) v n h = h
  layer_narrows (Ty-F.Ptr t) (wire.Ptr p) n h = (h.0, view_narrows p (n p refl) h.1)
  layer_narrows (Ty-F.Ptr t) v n h = h
  layer_narrows Ty-F.VoidPtr (wire.Ptr p) n h = (tt, view_narrows p (n p refl) h.1)
  layer_narrows Ty-F.VoidPtr v n h = h
  layer_narrows (Ty-F.Fun ts) (wire.Fn f) n h = (h.0, h.1, h.2, taken_narrows f h.3)
  layer_narrows (Ty-F.Fun ts) v n h = h
  layer_narrows Ty-F.Void v n h = h

  pub fits_narrows : (t : Ty) (v : Wire) → ((p : WireView) → v ≡ wire.Ptr p → is_some (K.blocks p.serial) ≡ true) → Fits program K' t v → Fits program K t v
  fits_narrows t v n h = layer_narrows (out-Ty t) v n h

-- ---- zeros

-- the type is that of a cell
abbrev pub is_cell_by : Ty-F Ty → Type 0
is_cell_by (Ty-F.Int k) = Unit {0}
is_cell_by Ty-F.Lock = Unit {0}
is_cell_by (Ty-F.Struct s) = ⊥
is_cell_by (Ty-F.Ptr t) = Unit {0}
is_cell_by Ty-F.VoidPtr = Unit {0}
is_cell_by (Ty-F.Fun ts) = Unit {0}
is_cell_by Ty-F.Void = ⊥

zero_in_range : (k : Kind) → is_in_range k (pos 0) ≡ true
unfolding is_in_range
zero_in_range U8 = refl
zero_in_range U16 = refl
zero_in_range U32 = refl
zero_in_range U64 = refl
zero_in_range S8 = refl
zero_in_range S16 = refl
zero_in_range S32 = refl
zero_in_range S64 = refl

zero_layer : (program : Program) (K : Knowledge) (l : Ty-F Ty) → is_cell_by l → FitsLayer program K l (wire_of (zero_by l)) ⊎ ((l ≡ Ty-F.Lock) × IsLockState (wire_of (zero_by l)))
zero_layer program K (Ty-F.Int k) h = inl (refl, zero_in_range k)
zero_layer program K Ty-F.Lock h = inr (refl, tt)
zero_layer program K (Ty-F.Struct s) h = elim h [ ]
zero_layer program K (Ty-F.Ptr t) h = inl tt
zero_layer program K Ty-F.VoidPtr h = inl tt
zero_layer program K (Ty-F.Fun ts) h = inl tt
zero_layer program K Ty-F.Void h = elim h [ ]

pub zero_fits : (program : Program) (K : Knowledge) (t : Ty) → is_cell_by (out-Ty t) → FitsCell program K t (wire_of (zero_by (out-Ty t)))
zero_fits program K t h = zero_layer program K (out-Ty t) h
