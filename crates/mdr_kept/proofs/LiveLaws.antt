-- What lives in a state that holds, and which values are current there.
use Rattle.std.proofs.Common.{◌≡◌, ◌⊎◌, inl, inr, ℕ, suc, ◌<◌, ◌≤◌, Bool, true, false, cond, not, ◌&&◌, ◌||◌, ◌==◌, List, [], ◌∷◌, Option, Some, None, Result, Ok, Err, length, map, slice_get, get_or, is_some, refl, sym, ◌∙◌, ap, subst, arith}
use Rattle.std.specs.List.{list_any}
use Rattle.std.proofs.lemmas.Bool.{eq-eqb, ne_eqb}
use Rattle.std.proofs.lemmas.Option.{slice_get_cases}
use Rattle.std.proofs.Math.Path.{fun_ext}
use Rattle.mdr_core.specs.declared.program.GlobalDef.{GlobalDef}
use Rattle.mdr_core.specs.declared.program.Program.{Program}
use Rattle.mdr_core.specs.declared.stop.StopKind.{StopKind}
use Rattle.mdr_meaning.specs.declared.shape.Shape64.{Shape64}
use Rattle.mdr_meaning.specs.declared.wire.Wire.{Wire}
use Rattle.mdr_meaning.specs.declared.wire.Wire.TheVariants as wire
use Rattle.mdr_meaning.specs.Fair.{AreBorn}
use Rattle.mdr_meaning.specs.Fit.{Knowledge}
use Rattle.mdr_meaning.specs.Lives.{is_into}
use Rattle.mdr_model.specs.declared.memory.Cell.{Cell}
use Rattle.mdr_model.specs.declared.message.BirthKind.{BirthKind}
use Rattle.mdr_model.specs.declared.message.BirthKind.TheVariants.{Auto, Static}
use Rattle.mdr_model.specs.declared.message.New.{New}
use Rattle.mdr_model.specs.Agreement.{names_it}
use Rattle.mdr_model.specs.Memory.{Memory, born_at, cell_at, is_live, killed, loaded, loaded_cell, loaded_from, loaded_value, normal, normal_if, put, reached, stored, stored_into}
use Rattle.mdr_model.proofs.LifeLaws.{born_at-killed}
use Rattle.mdr_model.proofs.MemoryLaws.{births-put, is_live-births}
use Rattle.mdr_plain.specs.Storage.{births, deaths, died, died_at, fresh}
use Rattle.mdr_plain.specs.World.{World}
use Rattle.mdr_holds.specs.Holding.{Holds, IsMemory, born_global}
use Rattle.mdr_holds.specs.Leaving.{AreObjects, IsObject}
use Rattle.mdr_holds.proofs.Fitting.{some_is}
use Rattle.mdr_holds.proofs.Memories.{live_born}
use Rattle.mdr_kept.specs.Current.{AreCurrent, AreLiving, IsCurrent, KnowsLives, without}
use Rattle.mdr_kept.specs.Strict.{is_any_gone, is_gone}

-- ---- values

pub normal_current : (m : Memory) (v : Wire) → IsCurrent (is_live m) (normal m v)
unfolding normal
normal_current m (wire.Ptr p) = of (is_live m p.serial) refl
  where
    of : (b : Bool) → is_live m p.serial ≡ b → IsCurrent (is_live m) (normal_if b p)
    of true e = e
    of false e = tt
normal_current m (wire.Int k n) = tt
normal_current m wire.Null = tt
normal_current m wire.Dead = tt
normal_current m (wire.Fn f) = tt
normal_current m (wire.Lock s) = tt
normal_current m wire.NoValue = tt

not_gone : (m : Memory) (v : Wire) → IsCurrent (is_live m) v → is_gone m v ≡ false
not_gone m (wire.Ptr p) h = ap not h
not_gone m (wire.Int k n) h = refl
not_gone m wire.Null h = refl
not_gone m wire.Dead h = refl
not_gone m (wire.Fn f) h = refl
not_gone m (wire.Lock s) h = refl
not_gone m wire.NoValue h = refl

pub current_here : (m : Memory) (v : Wire) → IsCurrent (is_live m) v → is_gone m v ≡ false
current_here m v h = not_gone m v h

pub none_gone : (m : Memory) (vs : List Wire) → AreCurrent (is_live m) vs → is_any_gone m vs ≡ false
none_gone m [] h = refl
none_gone m (v ∷ vs) h =
    let one : is_gone m v ≡ false = not_gone m v h.0 in
    let rest : is_any_gone m vs ≡ false = none_gone m vs h.1 in
    λ i. one i || rest i

pub normals_current : (m : Memory) (vs : List Wire) → AreCurrent (is_live m) (map (normal m) vs)
normals_current m [] = tt
normals_current m (v ∷ vs) = (normal_current m v, normals_current m vs)

ok_is : {A : Type 0} {x y : A} → ◌≡◌ {A = Result A StopKind} (Ok x) (Ok y) → x ≡ y
ok_is e = cc

value_is : (v w : Wire) → loaded_value v ≡ Ok w → v ≡ w
value_is (wire.Ptr p) w e = ok_is e
value_is (wire.Int k n) w e = ok_is e
value_is wire.Null w e = ok_is e
value_is wire.Dead w e = absurd cc
value_is (wire.Fn f) w e = ok_is e
value_is (wire.Lock s) w e = ok_is e
value_is wire.NoValue w e = ok_is e

pub fresh_current : (m : Memory) (v x : Wire) → fresh m v ≡ Ok x → IsCurrent (is_live m) x
unfolding fresh
fresh_current m v x e = subst (IsCurrent (is_live m)) (value_is (normal m v) x e) (normal_current m v)

-- ---- what memory holds

module _ (program : Program) (K : Knowledge) (m : Memory) (h : IsMemory program K m) where
  held_current : (c : Cell) (v : Wire) → cell_at m c ≡ Some v → IsCurrent (is_live m) v
  unfolding names_it
  held_current c (wire.Ptr p) e = h.formed.closed c p.serial (subst (λ (o : Option Wire). names_it p.serial o ≡ true) (sym e) (eq-eqb p.serial p.serial refl))
  held_current c (wire.Int k n) e = tt
  held_current c wire.Null e = tt
  held_current c wire.Dead e = tt
  held_current c (wire.Fn f) e = tt
  held_current c (wire.Lock s) e = tt
  held_current c wire.NoValue e = tt

  cell_current : (c : Cell) (o : Option Wire) (v : Wire) → cell_at m c ≡ o → loaded_cell o ≡ Ok v → IsCurrent (is_live m) v
  cell_current c None v e q = absurd cc
  cell_current c (Some x) v e q = subst (IsCurrent (is_live m)) (value_is x v q) (held_current c x e)

  from_current : (r : Result Cell StopKind) (v : Wire) → loaded_from m r ≡ Ok v → IsCurrent (is_live m) v
  from_current (Ok c) v e = cell_current c (cell_at m c) v refl e
  from_current (Err kind) v e = absurd cc

  pub loaded_current : (allowed : Cell → Bool) (p v : Wire) → loaded allowed m p ≡ Ok v → IsCurrent (is_live m) v
  unfolding loaded
  loaded_current allowed p v e = from_current (reached allowed m p) v e

  global_lives : (g : ℕ) → g < length program.globals → (o : Option GlobalDef) → slice_get program.globals g ≡ o → is_live m g ≡ true
  global_lives g less (Some def) e = live_born m g (born_global program g def) (h.globals g def e)
  global_lives g less None e = absurd (outside (slice_get_cases program.globals g).1)
    where
      outside : ((x : GlobalDef) × (g < length program.globals) × (slice_get program.globals g ≡ Some x) × (get_or program.globals g x ≡ x)) ⊎ ((length program.globals ≤ g) × (slice_get program.globals g ≡ None)) → ⊥
      outside (inl c) = let both : None ≡ Some c.0 = sym e ∙ c.2 in cc
      outside (inr c) = omega (arith, c.0, less)

-- ---- objects of locals

none_into : (m : Memory) (from serial : ℕ) (vs : List Wire) → serial < from → AreObjects m from vs → list_any (is_into serial) vs ≡ false
none_into m from serial [] less h = refl
none_into m from serial (v ∷ vs) less h =
    let o : IsObject m from v = h.0 in
    let one : is_into serial v ≡ false = ap (is_into serial) o.is ∙ ne_eqb o.block.serial serial (λ e. omega (arith, e, o.later, less)) in
    let rest : list_any (is_into serial) vs ≡ false = none_into m (suc o.block.serial) serial vs (omega (arith, o.later, less)) h.1 in
    λ i. one i || rest i

pub objects_live : (m : Memory) (from : ℕ) (vs : List Wire) → AreObjects m from vs → AreLiving (is_live m) vs
objects_live m from [] h = tt
objects_live m from (v ∷ vs) h =
    let o : IsObject m from v = h.0 in
    subst (λ (x : Wire). AreLiving (is_live m) (x ∷ vs)) (sym o.is)
    (live_born m o.block.serial o.block o.live, none_into m (suc o.block.serial) o.block.serial vs (omega arith) h.1, objects_live m (suc o.block.serial) vs h.1)

kinds_differ : {X : Type 0} → Static ≡ Auto → X
kinds_differ e = absurd cc

no_global : (program : Program) (K : Knowledge) (m : Memory) → IsMemory program K m → (g : ℕ) (def : GlobalDef) → slice_get program.globals g ≡ Some def → (from : ℕ) (vs : List Wire) → AreObjects m from vs → list_any (is_into g) vs ≡ false
no_global program K m h g def e from [] o = refl
no_global program K m h g def e from (v ∷ vs) o =
    let x : IsObject m from v = o.0 in
    let apart : x.block.serial ≡ g → ⊥ = λ same. kinds_differ (sym (ap (λ (n : New). n.kind) (some_is (sym x.live ∙ ap (born_at m) same ∙ h.globals g def e))) ∙ x.auto) in
    let one : is_into g v ≡ false = ap (is_into g) x.is ∙ ne_eqb x.block.serial g apart in
    let rest : list_any (is_into g) vs ≡ false = no_global program K m h g def e (suc x.block.serial) vs o.1 in
    λ i. one i || rest i

pub knows : (program : Program) (K : Knowledge) (w : World) → Holds program K w → (from : ℕ) (live : List Wire) → AreObjects w.memory from live → KnowsLives (length program.globals) (is_live w.memory) live
knows program K w h from live o = record {
  globals = λ g less. global_lives program K w.memory h.memory g less (slice_get program.globals g) refl;
  living = objects_live w.memory from live o;
  apart = λ g less. of g less (slice_get program.globals g) refl;
}
  where
    of : (g : ℕ) → g < length program.globals → (d : Option GlobalDef) → slice_get program.globals g ≡ d → list_any (is_into g) live ≡ false
    of g less (Some def) e = no_global program K w.memory h.memory g def e from live o
    of g less None e = absurd (outside (slice_get_cases program.globals g).1)
      where
        outside : ((x : GlobalDef) × (g < length program.globals) × (slice_get program.globals g ≡ Some x) × (get_or program.globals g x ≡ x)) ⊎ ((length program.globals ≤ g) × (slice_get program.globals g ≡ None)) → ⊥
        outside (inl c) = let both : None ≡ Some c.0 = sym e ∙ c.2 in cc
        outside (inr c) = omega (arith, c.0, less)

-- ---- what stores, births and deaths leave of what lives

put_lives : (m : Memory) (c : Cell) (v : Wire) → is_live (put m c v) ≡ is_live m
put_lives m c v = fun_ext (λ s. is_live-births (put m c v) m s (births-put m c v))

into_lives : (m m' : Memory) (v : Wire) (r : Result Cell StopKind) → stored_into m v r ≡ Ok m' → is_live m' ≡ is_live m
into_lives m m' v (Ok c) e = ap is_live (sym (ok_is e)) ∙ put_lives m c (normal m v)
into_lives m m' v (Err kind) e = absurd cc

pub stored_lives : (allowed : Cell → Bool) (m m' : Memory) (p v : Wire) → stored allowed m p v ≡ Ok m' → is_live m' ≡ is_live m
unfolding stored
stored_lives allowed m m' p v e = into_lives m m' v (reached allowed m p) e

killed_lives : (d : ℕ) (m : Memory) (s : ℕ) → is_live (killed d m) s ≡ (is_live m s && not (d == s))
unfolding is_live
killed_lives d m s = ap (λ o. is_some o) (born_at-killed d m s) ∙ of (d == s) (born_at m s)
  where
    of : (t : Bool) (o : Option New) → is_some (cond t None o) ≡ (is_some o && not t)
    of true None = refl
    of true (Some n) = refl
    of false None = refl
    of false (Some n) = refl

none_dies : (b : Bool) → b ≡ (b && true)
none_dies true = refl
none_dies false = refl

died_lives : (p : Wire) (w : World) (s : ℕ) → is_live (died_at p w).memory s ≡ (is_live w.memory s && not (is_into s p))
unfolding died
died_lives (wire.Ptr p) w s = killed_lives p.serial w.memory s
died_lives (wire.Int k n) w s = none_dies (is_live w.memory s)
died_lives wire.Null w s = none_dies (is_live w.memory s)
died_lives wire.Dead w s = none_dies (is_live w.memory s)
died_lives (wire.Fn f) w s = none_dies (is_live w.memory s)
died_lives (wire.Lock x) w s = none_dies (is_live w.memory s)
died_lives wire.NoValue w s = none_dies (is_live w.memory s)

deaths_live_at : (ps : List Wire) (w : World) (s : ℕ) → is_live (deaths ps w).memory s ≡ without ps (is_live w.memory) s
deaths_live_at [] w s = none_dies (is_live w.memory s)
deaths_live_at (p ∷ ps) w s = deaths_live_at ps (died_at p w) s ∙ ap (λ (b : Bool). b && not (list_any (is_into s) ps)) (died_lives p w s) ∙ of (is_live w.memory s) (is_into s p) (list_any (is_into s) ps)
  where
    of : (a b c : Bool) → ((a && not b) && not c) ≡ (a && not (b || c))
    of true true c = refl
    of true false c = refl
    of false b c = refl

pub deaths_live : (ps : List Wire) (w : World) → is_live (deaths ps w).memory ≡ without ps (is_live w.memory)
deaths_live ps w = fun_ext (deaths_live_at ps w)

pub births_many : (program : Program) (kind : BirthKind) (shapes : List Shape64) (w : World) → length (births program kind shapes w).pointers ≡ length shapes
unfolding births
births_many program kind [] w = refl
births_many program kind (s ∷ shapes) w = ap suc (births_many program kind shapes _)

pub born_many : (program : Program) (K : Knowledge) (shapes : List Shape64) (ps : List Wire) → AreBorn program K shapes ps → length ps ≡ length shapes
born_many program K [] [] h = refl
born_many program K [] (p ∷ ps) h = elim h [ ]
born_many program K (s ∷ shapes) [] h = elim h [ ]
born_many program K (s ∷ shapes) (p ∷ ps) h = ap suc (born_many program K shapes ps h.2)
