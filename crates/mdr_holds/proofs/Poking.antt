-- An integer that is put where one of its kind is held.
use Rattle.std.proofs.Common.{◌≡◌, ℕ, ℤ, Bool, true, false, Option, Some, None, inl, inr, refl, subst}
use Rattle.mdr_core.specs.declared.kind.Kind.{Kind}
use Rattle.mdr_core.specs.declared.program.Program.{Program}
use Rattle.mdr_core.specs.declared.types.Ty.{Ty, out-Ty}
use Rattle.mdr_core.specs.declared.types.Ty.TheOpen.{Ty-F}
use Rattle.mdr_core.specs.Kinds.{is_in_range}
use Rattle.mdr_core.specs.Layout.{chosen}
use Rattle.mdr_meaning.specs.declared.wire.Wire.{Wire}
use Rattle.mdr_meaning.specs.declared.wire.Wire.TheVariants as wire
use Rattle.mdr_meaning.specs.Fit.{FitsLayer, Knowledge}
use Rattle.mdr_model.specs.declared.memory.Cell.{Cell}
use Rattle.mdr_model.specs.Memory.{cell_at, normal}
use Rattle.mdr_plain.specs.Scripts.{poked_memory, poked_value, put_if}
use Rattle.mdr_plain.specs.Storage.{with_memory}
use Rattle.mdr_plain.specs.World.{World}
use Rattle.mdr_holds.specs.Holding.{FitsCell, Holds}
use Rattle.mdr_holds.specs.Leaving.{Later}
use Rattle.mdr_holds.proofs.Steps.{later_same, put_later}

-- ---- integers of one kind

layer_fits : (program : Program) (K : Knowledge) (l : Ty-F Ty) (k : Kind) (m n : ℤ) → FitsLayer program K l (wire.Int k m) → is_in_range k n ≡ true → FitsLayer program K l (wire.Int k n)
layer_fits program K (Ty-F.Int j) k m n h r = (h.0, subst (λ i. is_in_range i n ≡ true) h.0 r)
layer_fits program K Ty-F.Lock k m n h r = absurd h
layer_fits program K (Ty-F.Struct s) k m n h r = absurd h
layer_fits program K (Ty-F.Ptr ty) k m n h r = absurd h
layer_fits program K Ty-F.VoidPtr k m n h r = absurd h
layer_fits program K (Ty-F.Fun types) k m n h r = absurd h
layer_fits program K Ty-F.Void k m n h r = absurd h

cell_fits : (program : Program) (K : Knowledge) (ty : Ty) (k : Kind) (m n : ℤ) → FitsCell program K ty (wire.Int k m) → is_in_range k n ≡ true → FitsCell program K ty (wire.Int k n)
cell_fits program K ty k m n (inl h) r = inl (layer_fits program K (out-Ty ty) k m n h r)
cell_fits program K ty k m n (inr h) r = absurd h.1

-- ---- what is left

module _ (program : Program) (from : ℕ) (K : Knowledge) (w : World) (h : Holds program K w) (c : Cell) (n : ℤ) where
  same : Later program from K w K w
  same = later_same program from K w h

  number : (k : Kind) (m : ℤ) → cell_at w.memory c ≡ Some (wire.Int k m) → (b : Bool) → is_in_range k n ≡ b → Later program from K w K (with_memory w (put_if (chosen b (Some (wire.Int k n)) None) c w.memory))
  unfolding normal
  number k m e true r = put_later program from K w c (wire.Int k n) h (λ b leaf born at. cell_fits program K leaf.type k m n (h.memory.fit c b leaf (wire.Int k m) born at e) r)
  number k m e false r = same

  by_value : (o : Option Wire) → cell_at w.memory c ≡ o → Later program from K w K (with_memory w (put_if (poked_value o n) c w.memory))
  by_value None e = same
  by_value (Some (wire.Int k m)) e = number k m e (is_in_range k n) refl
  by_value (Some wire.Null) e = same
  by_value (Some wire.Dead) e = same
  by_value (Some (wire.Ptr p)) e = same
  by_value (Some (wire.Fn f)) e = same
  by_value (Some (wire.Lock s)) e = same
  by_value (Some wire.NoValue) e = same

  pub poked_later : Later program from K w K (with_memory w (poked_memory c n w.memory))
  poked_later = by_value (cell_at w.memory c) refl
