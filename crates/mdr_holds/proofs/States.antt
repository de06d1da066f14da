-- What follows for a state that holds.
use Rattle.std.proofs.Common.{◌≡◌, ◌⊎◌, inl, inr, ℕ, ◌+◌, ◌<◌, ◌≤◌, Bool, true, ◌&&◌, [], ◌∷◌, length, slice_get, get_or, Some, None, Ok, refl, sym, ap, ◌∙◌, subst, arith}
use Rattle.std.specs.List.{list_all}
use Rattle.std.proofs.lemmas.Bool.{cond-true, cond-false, eq-eqb, ltb-true, ne_eqb}
use Rattle.std.proofs.lemmas.Option.{slice_get_cases}
use Rattle.mdr_core.specs.declared.program.GlobalDef.{GlobalDef}
use Rattle.mdr_core.specs.declared.program.Program.{Program}
use Rattle.mdr_core.specs.declared.types.Shape.{Shape}
use Rattle.mdr_core.specs.declared.types.Ty.TheVariants as type
use Rattle.mdr_core.specs.declared.types.Ty.TheVariants.{outs-Lock}
use Rattle.mdr_core.specs.Layout.{struct_by}
use Rattle.mdr_core.specs.Sound.{IsSound}
use Rattle.mdr_meaning.specs.declared.wire.Wire.{Wire}
use Rattle.mdr_meaning.specs.declared.wire.Wire.TheVariants as wire
use Rattle.mdr_meaning.specs.declared.wire.WireView.{WireView}
use Rattle.mdr_meaning.specs.Fit.{Knowledge, PointsTo, view_of}
use Rattle.mdr_meaning.proofs.FitLaws.{to_pointer}
use Rattle.mdr_model.specs.declared.memory.Cell.{Cell}
use Rattle.mdr_model.specs.declared.memory.MemoryBlock.{MemoryBlock}
use Rattle.mdr_model.specs.declared.message.New.{New}
use Rattle.mdr_model.specs.Agreement.{AreBlocks, SerialsRise}
use Rattle.mdr_model.specs.Memory.{Memory, births, born_at, everywhere, is_live, reached}
use Rattle.mdr_model.specs.User.{has_shape}
use Rattle.mdr_plain.specs.World.{World}
use Rattle.mdr_holds.specs.Holding.{Holds, born_global, shape_of}
use Rattle.mdr_holds.specs.Laws.{IsLockCell, StatesHold}
use Rattle.mdr_holds.proofs.Accesses.{IsReached, reaches}
use Rattle.mdr_holds.proofs.Fitting.{all_now, fits_narrows, some_is}
use Rattle.mdr_holds.proofs.Globals.{type_is}
use Rattle.mdr_holds.proofs.Memories.{born_live, globals_known, live_born, pointer_shape}
use Rattle.mdr_holds.proofs.Places.{HasLeaf, view_leaf}
use Rattle.mdr_holds.proofs.Steps.{in_order}

-- what holds of each block that lives holds of all births
born_behind : (x : MemoryBlock) (m : Memory) (s : ℕ) (b : New) → SerialsRise (x ∷ m) → born_at m s ≡ Some b → born_at (x ∷ m) s ≡ Some b
unfolding born_at
born_behind x m s b rises e =
    let above : x.born.serial < s = rises.0 s (live_born m s b e) in
    cond-false _ _ _ (ne_eqb x.born.serial s (λ same. absurd (omega (arith, above, same)))) ∙ e

born_first : (x : MemoryBlock) (m : Memory) → born_at (x ∷ m) x.born.serial ≡ Some x.born
unfolding born_at
born_first x m = cond-true _ _ _ (eq-eqb x.born.serial x.born.serial refl)

and_both : {a b : Bool} → a ≡ true → b ≡ true → (a && b) ≡ true
and_both e q = rw (e, q) refl

all_births : (p : New → Bool) (m : Memory) → SerialsRise m → ((s : ℕ) (b : New) → born_at m s ≡ Some b → p b ≡ true) → list_all p (births m) ≡ true
all_births p [] rises h = refl
all_births p (x ∷ m) rises h = and_both (h x.born.serial x.born (born_first x m)) (all_births p m rises.1 (λ s b e. h s b (born_behind x m s b rises e)))

pub blocks_are : (program : Program) (K : Knowledge) (w : World) → Holds program K w → AreBlocks program w.memory
blocks_are program K w h = record {
  globals = λ s e. of s (slice_get_cases program.globals s).1 (ltb-true _ _ e);
  shapes = all_births (has_shape program) w.memory h.memory.formed.rises h.memory.shapes;
}
  where
    of : (s : ℕ) → ((def : GlobalDef) × (s < length program.globals) × (slice_get program.globals s ≡ Some def) × (get_or program.globals s def ≡ def)) ⊎ ((length program.globals ≤ s) × (slice_get program.globals s ≡ None))
        → s < length program.globals → is_live w.memory s ≡ true
    of s (inl c) under = live_born w.memory s _ (h.memory.globals s c.0 c.2)
    of s (inr c) under = absurd (omega (arith, c.0, under))

-- a global's block has its type
typed : (program : Program) → IsSound program → (K : Knowledge) (w : World) → Holds program K w → (serial : ℕ) (b : New) (g : GlobalDef) → born_at w.memory serial ≡ Some b → slice_get program.globals serial ≡ Some g
    → slice_get program.types b.ty ≡ Some g.ty
typed program sound K w h serial b g e names =
    let same : born_global program serial g ≡ b = some_is (sym (h.memory.globals serial g names) ∙ e) in
    ap (λ (x : New). slice_get program.types x.ty) (sym same) ∙ type_is program sound serial g names

-- ---- locks

null_reached : (m : Memory) (c : Cell) → reached everywhere m wire.Null ≡ Ok c → ⊥
unfolding reached
null_reached m c e = cc

dead_reached : (m : Memory) (c : Cell) → reached everywhere m wire.Dead ≡ Ok c → ⊥
unfolding reached
dead_reached m c e = cc

module _ (program : Program) (sound : IsSound program) (K : Knowledge) (w : World) (h : Holds program K w) where
  lock_there : (p : WireView) (c : Cell) → PointsTo program K type.Lock (wire.Ptr p) → IsReached w.memory p c → IsLockCell program w.memory c
  lock_there p c points r =
      let b = born_live w.memory p.serial r.live in
      let shape : shape_of b.0 ≡ points.1.shape = pointer_shape program K w.memory p b.0 h.memory points.1 b.1 in
      let found : HasLeaf _ (p.first + p.index) type.Lock = view_leaf program sound b.0 points.1.shape (view_of p) type.Lock (sym (ap (λ (s : Shape). s.ty) shape)) (sym (ap (λ (s : Shape). s.count) shape)) points.1.view points.0 (ap struct_by outs-Lock) p.index r.inside in
      subst (IsLockCell program w.memory) r.cell (record { block = b.0; leaf = record { home = found.home; type = type.Lock }; born = b.1; there = found.is; lock = outs-Lock })

  lock_reached : (v : Wire) → PointsTo program K type.Lock v → (c : Cell) → reached everywhere w.memory v ≡ Ok c → IsLockCell program w.memory c
  lock_reached (wire.Ptr p) points c e = lock_there p c points (reaches everywhere w.memory p c e)
  lock_reached wire.Null points c e = absurd (null_reached w.memory c e)
  lock_reached wire.Dead points c e = absurd (dead_reached w.memory c e)
  lock_reached (wire.Int k n) points c e = elim points [ ]
  lock_reached (wire.Fn f) points c e = elim points [ ]
  lock_reached (wire.Lock s) points c e = elim points [ ]
  lock_reached wire.NoValue points c e = elim points [ ]

pub states_hold : StatesHold
states_hold = record {
  order = in_order;
  blocks = blocks_are;
  globals = λ program K w h. globals_known program K w.memory h.memory;
  pointers = λ program K w p b h v e. pointer_shape program K w.memory p b h.memory v e;
  typed = typed;
  locks = λ program sound K w h v fits c e. lock_reached program sound K w h v (to_pointer program K type.Lock v fits) c e;
  passed = λ program K w args types h. all_now program K w.memory args types h;
  narrows = λ program K K' ty v g there h. fits_narrows program K K' g ty v there h;
}
