-- Values that fit by what the user half was told name nothing else.
use Rattle.std.proofs.Common.{◌≡◌, ℕ, true, Bool, sym, ◌∙◌, ap}
use Rattle.std.specs.Prelude.{is_some, ◌==◌}
use Rattle.std.proofs.lemmas.Bool.{eqb-true}
use Rattle.mdr_core.specs.declared.types.Ty.{Ty, out-Ty}
use Rattle.mdr_core.specs.declared.types.Ty.TheOpen.{Ty-F}
use Rattle.mdr_core.specs.declared.program.Program.{Program}
use Rattle.mdr_meaning.specs.declared.wire.Wire.{Wire}
use Rattle.mdr_meaning.specs.declared.wire.Wire.TheVariants as wire
use Rattle.mdr_meaning.specs.declared.wire.WireView.{WireView}
use Rattle.mdr_meaning.specs.Fit.{Fits, FitsLayer, Grows, IsDataPointer, IsKnownView, IsResult, Knowledge}
use Rattle.mdr_model.specs.Agreement.{IsKnown}
use Rattle.mdr_serves.proofs.Relations.{known_by}

module _ (program : Program) (KU : Knowledge) where
  pub view_known : (p : WireView) → IsKnownView program KU p → IsKnown (known_by KU) (wire.Ptr p)
  unfolding known_by
  view_known p v serial e = ap (λ (n : ℕ). is_some (KU.blocks n)) (sym (eqb-true p.serial serial e)) ∙ ap (λ o. is_some o) v.known

  pub pointer_known : (Takes : ℕ → Type 0) (p : Wire) → IsDataPointer program KU Takes p → IsKnown (known_by KU) p
  pointer_known Takes (wire.Ptr p) h serial e = view_known p h.1 serial e
  pointer_known Takes (wire.Int k n) h serial e = absurd cc
  pointer_known Takes wire.Null h serial e = absurd cc
  pointer_known Takes wire.Dead h serial e = absurd cc
  pointer_known Takes (wire.Fn f) h serial e = absurd cc
  pointer_known Takes (wire.Lock s) h serial e = absurd cc
  pointer_known Takes wire.NoValue h serial e = absurd cc

  layer_view : (l : Ty-F Ty) (p : WireView) → FitsLayer program KU l (wire.Ptr p) → IsKnownView program KU p
  layer_view (Ty-F.Int k) p h = elim h [ ]
  layer_view Ty-F.Lock p h = elim h [ ]
  layer_view (Ty-F.Struct s) p h = elim h [ ]
  layer_view (Ty-F.Ptr t) p h = h.1
  layer_view Ty-F.VoidPtr p h = h.1
  layer_view (Ty-F.Fun ts) p h = elim h [ ]
  layer_view Ty-F.Void p h = elim h [ ]

  pub value_known : (t : Ty) (v : Wire) → Fits program KU t v → IsKnown (known_by KU) v
  value_known t (wire.Ptr p) h serial e = view_known p (layer_view (out-Ty t) p h) serial e
  value_known t (wire.Int k n) h serial e = absurd cc
  value_known t wire.Null h serial e = absurd cc
  value_known t wire.Dead h serial e = absurd cc
  value_known t (wire.Fn f) h serial e = absurd cc
  value_known t (wire.Lock s) h serial e = absurd cc
  value_known t wire.NoValue h serial e = absurd cc

  pub result_known : (t : Ty) (v : Wire) → IsResult program KU t v → IsKnown (known_by KU) v
  result_known t (wire.Ptr p) h serial e = value_known t (wire.Ptr p) h serial e
  result_known t (wire.Int k n) h serial e = absurd cc
  result_known t wire.Null h serial e = absurd cc
  result_known t wire.Dead h serial e = absurd cc
  result_known t (wire.Fn f) h serial e = absurd cc
  result_known t (wire.Lock s) h serial e = absurd cc
  result_known t wire.NoValue h serial e = absurd cc

-- a block that is known has been told
pub known_some : (KU : Knowledge) (p : WireView) → IsKnown (known_by KU) (wire.Ptr p) → is_some (KU.blocks p.serial) ≡ true
unfolding known_by
known_some KU p h = h p.serial (same p.serial)
  where
    same : (n : ℕ) → (n == n) ≡ true
    same n = Rattle.std.proofs.lemmas.Bool.eq-eqb n n Rattle.std.proofs.Common.refl

-- what was known stays known
pub pointer_grows : (program : Program) (K K' : Knowledge) → Grows K K' → (Takes : ℕ → Type 0) (p : Wire) → IsDataPointer program K Takes p → IsDataPointer program K' Takes p
pointer_grows program K K' grows Takes (wire.Ptr p) h = (h.0, record { shape = h.1.shape; known = grows.stays p.serial h.1.shape h.1.known; view = h.1.view; small = h.1.small })
pointer_grows program K K' grows Takes v h = h
