-- What is known stays known as knowledge grows, and values that fit are known.
use Rattle.std.proofs.Common.{◌≡◌, ℕ, Bool, true, false, List, [], ◌∷◌, ◌++◌, Some, slice_get, refl, sym, ap, ◌∙◌, subst}
use Rattle.std.specs.List.{list_any}
use Rattle.mdr_core.specs.Kinds.{is_in_range}
use Rattle.mdr_core.specs.declared.types.Ty.{Ty, out-Ty}
use Rattle.mdr_core.specs.declared.types.Ty.TheOpen.{Ty-F}
use Rattle.mdr_core.specs.declared.program.Program.{Program}
use Rattle.mdr_core.specs.Layout.{chosen}
use Rattle.mdr_meaning.specs.declared.wire.Wire.{Wire}
use Rattle.mdr_meaning.specs.declared.wire.Wire.TheVariants as wire
use Rattle.mdr_meaning.specs.declared.wire.WireView.{WireView}
use Rattle.mdr_meaning.specs.Fair.{AllFit, AreKnown, IsKnown}
use Rattle.mdr_meaning.specs.Fit.{Knowledge, Grows, KnowsGlobals, IsDataPointer, IsKnownView, Fits, FitsLayer, IsResult, IsFunction}
use Rattle.mdr_meaning.specs.Lives.{after_deaths, is_into}
use Rattle.mdr_meaning.specs.Within.{Uses}
use Rattle.mdr_meaning.specs.Slots.{slot_fits}

pub grows_same : (K : Knowledge) → Grows K K
grows_same K = record { stays = λ serial shape h. h; same = refl }

pub grows_on : (K K' K2 : Knowledge) → Grows K K' → Grows K' K2 → Grows K K2
grows_on K K' K2 g h = record { stays = λ serial shape e. h.stays serial shape (g.stays serial shape e); same = h.same ∙ g.same }

module _ (program : Program) (K K' : Knowledge) (grows : Grows K K') where
  view_grows : (p : WireView) → IsKnownView program K p → IsKnownView program K' p
  view_grows p h = record { shape = h.shape; known = grows.stays p.serial h.shape h.known; view = h.view; small = h.small }

  data_grows : (Takes : ℕ → Type 0) (v : Wire) → IsDataPointer program K Takes v → IsDataPointer program K' Takes v
  data_grows Takes (wire.Ptr p) h = (h.0, view_grows p h.1)
  data_grows Takes v h = h

  taken_grows : (f : ℕ) → K.uses.taken f ≡ true → K'.uses.taken f ≡ true
  taken_grows f h = ap (λ (u : Uses). u.taken f) grows.same ∙ h

  function_grows : (ts : List Ty) (v : Wire) → IsFunction program K ts v → IsFunction program K' ts v
  function_grows ts (wire.Fn f) h = (h.0, h.1, h.2, taken_grows f h.3)
  function_grows ts v h = h

  layer_grows : (l : Ty-F Ty) (v : Wire) → FitsLayer program K l v → FitsLayer program K' l v
  layer_grows (Ty-F.Ptr t) v h = data_grows (λ n. slice_get program.types n ≡ Some t) v h
  layer_grows Ty-F.VoidPtr v h = data_grows (λ n. Unit {0}) v h
  layer_grows (Ty-F.Fun ts) v h = function_grows ts v h
  layer_grows l v h = h

  pub fits_grows : (t : Ty) (v : Wire) → Fits program K t v → Fits program K' t v
  fits_grows t v h = layer_grows (out-Ty t) v h

  pub slot_grows : (b : Bool) (t : Ty) (v : Wire) → slot_fits b program K t v → slot_fits b program K' t v
  slot_grows true t v h = data_grows (λ n. slice_get program.types n ≡ Some t) v h
  slot_grows false t v h = fits_grows t v h

  is_grows : (v : Wire) → IsKnown program K v → IsKnown program K' v
  is_grows (wire.Ptr p) h = view_grows p h
  is_grows (wire.Fn f) h = (h.0, h.1, taken_grows f h.2)
  is_grows v h = h

  pub are_grow : (vs : List Wire) → AreKnown program K vs → AreKnown program K' vs
  are_grow [] h = tt
  are_grow (v ∷ vs) h = (is_grows v h.0, are_grow vs h.1)

  pub all_grow : (vs : List Wire) (ts : List Ty) → AllFit program K vs ts → AllFit program K' vs ts
  all_grow [] [] h = tt
  all_grow [] (t ∷ ts) h = h
  all_grow (v ∷ vs) [] h = h
  all_grow (v ∷ vs) (t ∷ ts) h = (fits_grows t v h.0, all_grow vs ts h.1)

  pub result_grows : (t : Ty) (v : Wire) → IsResult program K t v → IsResult program K' t v
  result_grows t wire.NoValue h = tt
  result_grows t v h = fits_grows t v h

  pub globals_grow : KnowsGlobals program K → KnowsGlobals program K'
  globals_grow h = record { knows = λ g def e. grows.stays g _ (h.knows g def e) }

module _ (program : Program) (K : Knowledge) where
  pub fits_result : (t : Ty) (v : Wire) → Fits program K t v → IsResult program K t v
  fits_result t wire.NoValue h = tt
  fits_result t v h = h

  -- where a pointer fits, a dead one does
  dead_fits : (l : Ty-F Ty) (p : WireView) → FitsLayer program K l (wire.Ptr p) → FitsLayer program K l wire.Dead
  dead_fits (Ty-F.Ptr t) p h = tt
  dead_fits Ty-F.VoidPtr p h = tt
  dead_fits l p h = elim h [ ]

  pub result_outlives : (t : Ty) (ps : List Wire) (v : Wire) → IsResult program K t v → IsResult program K t (after_deaths ps v)
  result_outlives t ps (wire.Ptr p) h = by (list_any (is_into p.serial) ps) where
    by : (dies : Bool) → IsResult program K t (chosen dies wire.Dead (wire.Ptr p))
    by true = dead_fits (out-Ty t) p h
    by false = h
  result_outlives t ps v h = h

  pub data_weaker : (P Q : ℕ → Type 0) (v : Wire) → ((n : ℕ) → P n → Q n) → IsDataPointer program K P v → IsDataPointer program K Q v
  data_weaker P Q (wire.Ptr p) w h = (w p.ty h.0, h.1)
  data_weaker P Q wire.Null w h = tt
  data_weaker P Q wire.Dead w h = tt
  data_weaker P Q v w h = h

  pub data_known : (P : ℕ → Type 0) (v : Wire) → IsDataPointer program K P v → IsKnown program K v
  data_known P (wire.Ptr p) h = h.1
  data_known P wire.Null h = tt
  data_known P wire.Dead h = tt
  data_known P v h = elim h [ ]

  known_layer : (l : Ty-F Ty) (v : Wire) → FitsLayer program K l v → IsKnown program K v
  known_layer (Ty-F.Int k) (wire.Int m n) h = subst (λ x. is_in_range x n ≡ true) (sym h.0) h.1
  known_layer (Ty-F.Int k) v h = elim h [ ]
  known_layer (Ty-F.Ptr t) v h = data_known (λ n. slice_get program.types n ≡ Some t) v h
  known_layer Ty-F.VoidPtr v h = data_known (λ n. Unit {0}) v h
  known_layer (Ty-F.Fun ts) wire.Null h = tt
  known_layer (Ty-F.Fun ts) (wire.Fn f) h = (h.0, h.1, h.3)
  known_layer l v h = elim h [ ]

  pub all_known : (vs : List Wire) (ts : List Ty) → AllFit program K vs ts → AreKnown program K vs
  all_known [] ts h = tt
  all_known (v ∷ vs) [] h = elim h [ ]
  all_known (v ∷ vs) (t ∷ ts) h = (known_layer (out-Ty t) v h.0, all_known vs ts h.1)

  pub known_append : (vs ws : List Wire) → AreKnown program K vs → AreKnown program K ws → AreKnown program K (vs ++ ws)
  known_append [] ws h k = k
  known_append (v ∷ vs) ws h k = (h.0, known_append vs ws h.1 k)
