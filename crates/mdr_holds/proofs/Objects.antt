-- Objects of locals: they are born with later serials, stay, and die.
use Rattle.std.proofs.Common.{◌≡◌, inr, ℕ, zero, suc, ◌*◌, ◌<◌, ◌≤◌, Bool, true, false, List, [], ◌∷◌, ◌++◌, length, map, slice_get, Some, refl, sym, ap, ◌∙◌, subst, arith, append-nil}
use Rattle.std.proofs.lemmas.Bool.{cond-true, cond-false, eq-eqb, lt-ltb, le-leb, ne_eqb}
use Rattle.mdr_core.specs.declared.program.Program.{Program}
use Rattle.mdr_core.specs.declared.types.Ty.{Ty}
use Rattle.mdr_core.specs.Layout.{Alone, cells, leaves, struct_cells}
use Rattle.mdr_core.specs.Sound.{IsSound, all_cells}
use Rattle.mdr_core.specs.Views.{Whole}
use Rattle.mdr_core.proofs.Laid.{type_has_cells}
use Rattle.mdr_core.proofs.Lying.{length-repeated}
use Rattle.mdr_meaning.specs.declared.shape.Shape64.{Shape64}
use Rattle.mdr_meaning.specs.declared.wire.Wire.{Wire}
use Rattle.mdr_meaning.specs.declared.wire.Wire.TheVariants as wire
use Rattle.mdr_meaning.specs.Fair.{AreBirths, AreBorn, IsBirth}
use Rattle.mdr_meaning.specs.Fit.{IsKnownView, Knowledge}
use Rattle.mdr_model.specs.declared.message.BirthKind.{BirthKind}
use Rattle.mdr_model.specs.declared.message.BirthKind.TheVariants.{Auto}
use Rattle.mdr_model.specs.declared.message.New.{New}
use Rattle.mdr_model.specs.Agreement.{IsBelow}
use Rattle.mdr_model.specs.Memory.{Memory, born_at, killed, normal, normal_if, size_of}
use Rattle.mdr_model.specs.User.{has_shape}
use Rattle.mdr_model.proofs.LifeLaws.{born_at-killed}
use Rattle.mdr_plain.specs.Services.{is_heap}
use Rattle.mdr_plain.specs.Storage.{births, born, deaths, died, died_at, new_of, next_serial}
use Rattle.mdr_plain.specs.World.{World}
use Rattle.mdr_holds.specs.Holding.{Holds, shape_of}
use Rattle.mdr_holds.specs.Leaving.{AreObjects, IsObject, Later}
use Rattle.mdr_holds.proofs.Fitting.{some_is}
use Rattle.mdr_holds.proofs.Memories.{live_born, with_birth}
use Rattle.mdr_holds.proofs.Places.{size_by_type}
use Rattle.mdr_holds.proofs.Steps.{MayDie, birth_later, born_last, death_later, later_from, later_on, later_same, next_born}

-- ---- where they are objects

abbrev pub serial_of : Wire → ℕ
serial_of (wire.Ptr p) = p.serial
serial_of _ = 0

object_serial : (m : Memory) (from : ℕ) (v : Wire) (o : IsObject m from v) → serial_of v ≡ o.block.serial
object_serial m from v o = ap serial_of o.is

-- their serials are below this one
abbrev pub AreUnder : ℕ → List Wire → Type 0
AreUnder next [] = Unit {0}
AreUnder next (v ∷ vs) = (serial_of v < next) × AreUnder next vs

pub objects_under : (m : Memory) (from next : ℕ) (vs : List Wire) → IsBelow next m → AreObjects m from vs → AreUnder next vs
objects_under m from next [] low h = tt
objects_under m from next (v ∷ vs) low h =
    let o : IsObject m from v = h.0 in
    let under : o.block.serial < next = low o.block.serial (live_born m o.block.serial o.block o.live) in
    (omega (arith, object_serial m from v o, under), objects_under m (suc o.block.serial) next vs low h.1)

object_early : (m : Memory) (from before : ℕ) (v : Wire) → from ≤ before → IsObject m before v → IsObject m from v
object_early m from before v less o = record { block = o.block; is = o.is; live = o.live; auto = o.auto; later = omega (arith, less, o.later) }

objects_early : (m : Memory) (from before : ℕ) (vs : List Wire) → from ≤ before → AreObjects m before vs → AreObjects m from vs
unfolding object_early
objects_early m from before [] less h = tt
objects_early m from before (v ∷ vs) less h = (object_early m from before v less h.0, h.1)

-- what doesn't end other blocks ends no object
pub objects_stay : (m m' : Memory) → ((s : ℕ) (b : New) → born_at m s ≡ Some b → is_heap b.kind ≡ false → born_at m' s ≡ Some b) → (from : ℕ) (vs : List Wire) → AreObjects m from vs → AreObjects m' from vs
objects_stay m m' stays from [] h = tt
objects_stay m m' stays from (v ∷ vs) h =
    let o : IsObject m from v = h.0 in
    (record { block = o.block; is = o.is; live = stays o.block.serial o.block o.live (ap is_heap o.auto); auto = o.auto; later = o.later }, objects_stay m m' stays (suc o.block.serial) vs h.1)

pub object_in : (m : Memory) (from : ℕ) (xs : List Wire) (v : Wire) (ys : List Wire) → AreObjects m from (xs ++ v ∷ ys) → IsObject m from v
object_in m from [] v ys h = h.0
object_in m from (x ∷ xs) v ys h = let o : IsObject m from x = h.0 in object_early m from (suc o.block.serial) v (omega (arith, o.later)) (object_in m (suc o.block.serial) xs v ys h.1)

pub objects_behind : (m : Memory) (from : ℕ) (xs ys : List Wire) → AreObjects m from (xs ++ ys) → AreObjects m from ys
objects_behind m from [] ys h = h
objects_behind m from (x ∷ xs) ys h = let o : IsObject m from x = h.0 in objects_early m from (suc o.block.serial) ys (omega (arith, o.later)) (objects_behind m (suc o.block.serial) xs ys h.1)

-- objects that were born later stand behind
pub objects_both : (m : Memory) (from next : ℕ) (xs ys : List Wire) → from ≤ next → AreUnder next xs → AreObjects m from xs → AreObjects m next ys → AreObjects m from (xs ++ ys)
objects_both m from next [] ys less under h k = objects_early m from next ys less k
objects_both m from next (x ∷ xs) ys less under h k =
    let o : IsObject m from x = h.0 in
    (o, objects_both m (suc o.block.serial) next xs ys (omega (arith, under.0, object_serial m from x o)) under.1 h.1 k)

-- an object's pointer is as it was
pub objects_now : (m : Memory) (from : ℕ) (vs : List Wire) → AreObjects m from vs → map (normal m) vs ≡ vs
unfolding normal
objects_now m from [] h = refl
objects_now m from (v ∷ vs) h = ap (λ (x : Wire). x ∷ map (normal m) vs) (one h.0) ∙ ap (λ (xs : List Wire). v ∷ xs) (objects_now m (suc h.0.block.serial) vs h.1) where
  one : IsObject m from v → normal m v ≡ v
  one o = ap (normal m) o.is ∙ ap (λ (b : Bool). normal_if b (record { serial = o.block.serial; first = 0; ty = o.block.ty; count = o.block.count; index = 0 })) (live_born m o.block.serial o.block o.live) ∙ sym o.is

-- ---- one dies

killed_other : (m : Memory) (dead : ℕ) (b : New) → born_at m b.serial ≡ Some b → (dead ≡ b.serial → ⊥) → born_at (killed dead m) b.serial ≡ Some b
killed_other m dead b e apart = born_at-killed dead m b.serial ∙ cond-false _ _ _ (ne_eqb dead b.serial apart) ∙ e

objects_above : (m : Memory) (dead from : ℕ) (vs : List Wire) → dead < from → AreObjects m from vs → AreObjects (killed dead m) from vs
objects_above m dead from [] less h = tt
objects_above m dead from (v ∷ vs) less h =
    let o : IsObject m from v = h.0 in
    (record { block = o.block; is = o.is; live = killed_other m dead o.block o.live (λ same. omega (arith, same, less, o.later)); auto = o.auto; later = o.later }, objects_above m dead (suc o.block.serial) vs (omega (arith, less, o.later)) h.1)

pub objects_without : (m : Memory) (from : ℕ) (xs : List Wire) (v : Wire) (ys : List Wire) → AreObjects m from (xs ++ v ∷ ys) → AreObjects (killed (serial_of v) m) from (xs ++ ys)
objects_without m from [] v ys h =
    let o : IsObject m from v = h.0 in
    objects_early (killed (serial_of v) m) from (suc o.block.serial) ys (omega (arith, o.later)) (objects_above m (serial_of v) (suc o.block.serial) ys (omega (arith, object_serial m from v o)) h.1)
objects_without m from (x ∷ xs) v ys h =
    let o : IsObject m from x = h.0 in
    let p : IsObject m (suc o.block.serial) v = object_in m (suc o.block.serial) xs v ys h.1 in
    let same : serial_of v ≡ p.block.serial = object_serial m (suc o.block.serial) v p in
    let behind : suc o.block.serial ≤ p.block.serial = p.later in
    (record { block = o.block; is = o.is; live = killed_other m (serial_of v) o.block o.live (λ e. omega (arith, e, same, behind)); auto = o.auto; later = o.later }, objects_without m (suc o.block.serial) xs v ys h.1)

-- ---- births and deaths in a run

module _ (program : Program) where
  -- a shape that has cells, and not too many
  pub record IsSized (s : Shape64) : Type 0 where
    pub ty : Ty
    pub names : slice_get program.types s.ty ≡ Some ty
    pub some : 1 ≤ s.count * length (leaves (struct_cells program.structs) Alone ty)
    pub small : s.count * length (leaves (struct_cells program.structs) Alone ty) ≤ 65536

  -- what births leave, and the pointers that they give
  pub record AreBornBy (from : ℕ) (kind : BirthKind) (shapes : List Shape64) (K : Knowledge) (w : World) : Type 0 where
    pub known : Knowledge
    pub later : Later program from K w known (births program kind shapes w).memory
    pub born : AreBorn program known shapes (births program kind shapes w).pointers
    pub objects : kind ≡ Auto → AreObjects (births program kind shapes w).memory.memory (next_serial w) (births program kind shapes w).pointers

  abbrev pub AreSized : List Shape64 → Type 0
  AreSized [] = Unit {0}
  AreSized (s ∷ shapes) = IsSized s × AreSized shapes

  -- objects of locals are born behind those that live
  pub record AreJoined (from : ℕ) (live : List Wire) (shapes : List Shape64) (K : Knowledge) (w : World) : Type 0 where
    pub known : Knowledge
    pub later : Later program from K w known (births program Auto shapes w).memory
    pub born : AreBorn program known shapes (births program Auto shapes w).pointers
    pub objects : AreObjects (births program Auto shapes w).memory.memory from (live ++ (births program Auto shapes w).pointers)

  pub record AreDead (from : ℕ) (remains ps : List Wire) (K : Knowledge) (w : World) : Type 0 where
    pub later : Later program from K w K (deaths ps w)
    pub objects : AreObjects (deaths ps w).memory from remains

module _ (program : Program) (sound : IsSound program) where
  few : (n l : ℕ) → 1 ≤ l → n * l ≤ 65536 → n ≤ 65536
  few n zero h q = absurd (omega (arith, h))
  few n (suc l) h q = omega (arith, q)

  sized_shape : (kind : BirthKind) (s : Shape64) (w : World) → IsSized program s → has_shape program (new_of kind s w) ≡ true
  sized_shape kind s w z =
      let size : size_of program (new_of kind s w) ≡ s.count * length (leaves (struct_cells program.structs) Alone z.ty) = size_by_type program (new_of kind s w) z.ty z.names in
      rw (z.names, size, lt-ltb 0 (s.count * length (leaves (struct_cells program.structs) Alone z.ty)) z.some, le-leb (s.count * length (leaves (struct_cells program.structs) Alone z.ty)) 65536 z.small) refl

  -- the pointer to the new block views all of it
  sized_view : (K : Knowledge) (kind : BirthKind) (s : Shape64) (w : World) → IsSized program s → K.blocks (next_serial w) ≡ Some (shape_of (new_of kind s w))
      → IsKnownView program K (record { serial = next_serial w; first = 0; ty = s.ty; count = s.count; index = 0 })
  sized_view K kind s w z e = record {
    shape = shape_of (new_of kind s w);
    known = e;
    view = record { ty = z.ty; names = z.names; part = Whole 0 z.ty s.count refl z.names refl; inside = omega arith };
    small = few s.count (length (leaves (struct_cells program.structs) Alone z.ty)) (type_has_cells program sound s.ty z.ty z.names).some z.small;
  }

  pub births_leave : (kind : BirthKind) (shapes : List Shape64) → AreSized program shapes → (from : ℕ) (K : Knowledge) (w : World) → from ≤ next_serial w → Holds program K w → AreBornBy program from kind shapes K w
  unfolding births
  births_leave kind [] z from K w early h = record { known = K; later = later_same program from K w h; born = tt; objects = λ e. tt }
  births_leave kind (s ∷ shapes) z from K w early h =
      let n : New = new_of kind s w in
      let shape : has_shape program n ≡ true = sized_shape kind s w z.0 in
      let one : Later program from K w (with_birth K n) (born program n w) = birth_later program from K w kind s h shape in
      let next : next_serial (born program n w) ≡ suc (next_serial w) = next_born program n w in
      let all : AreBornBy program (next_serial (born program n w)) kind shapes (with_birth K n) (born program n w) = births_leave kind shapes z.1 (next_serial (born program n w)) (with_birth K n) (born program n w) (omega arith) one.holds in
      let rest : Later program from (with_birth K n) (born program n w) all.known (births program kind shapes (born program n w)).memory = later_from program from (next_serial (born program n w)) (omega (arith, early, next)) (with_birth K n) all.known (born program n w) (births program kind shapes (born program n w)).memory all.later in
      let told : all.known.blocks (next_serial w) ≡ Some (shape_of n) = all.later.grows.stays (next_serial w) (shape_of n) (cond-true _ _ _ (eq-eqb (next_serial w) (next_serial w) refl)) in
      record {
        known = all.known;
        later = later_on program from K (with_birth K n) all.known w (born program n w) (births program kind shapes (born program n w)).memory one rest;
        born = ((refl, sized_view all.known kind s w z.0 told), (refl, refl), all.born);
        objects = λ e. (
          record { block = n; is = refl; live = at_birth all.later e; auto = e; later = omega arith },
          subst (λ (x : ℕ). AreObjects (births program kind shapes (born program n w)).memory.memory x (births program kind shapes (born program n w)).pointers) next (all.objects e),
        );
      }
    where
      at_birth : {K' : Knowledge} → Later program (next_serial (born program (new_of kind s w) w)) (with_birth K (new_of kind s w)) (born program (new_of kind s w) w) K' (births program kind shapes (born program (new_of kind s w) w)).memory → kind ≡ Auto
          → born_at (births program kind shapes (born program (new_of kind s w) w)).memory.memory (next_serial w) ≡ Some (new_of kind s w)
      at_birth l e = l.stays (next_serial w) (new_of kind s w) (omega (arith, next_born program (new_of kind s w) w)) (born_last program from w kind s h.low) (ap is_heap e)

  births_sized : (shapes : List Shape64) → AreBirths program shapes → AreSized program shapes
  unfolding cells
  births_sized [] h = tt
  births_sized (s ∷ shapes) h = (one h.0, births_sized shapes h.1) where
    one : IsBirth program s → IsSized program s
    one b =
        let size : length (all_cells program b.ty s.count) ≡ s.count * length (leaves (struct_cells program.structs) Alone b.ty) = length-repeated s.count (leaves (struct_cells program.structs) Alone b.ty) in
        record { ty = b.ty; names = b.names; some = filled s.count (length (leaves (struct_cells program.structs) Alone b.ty)) b.some (type_has_cells program sound s.ty b.ty b.names).some; small = omega (arith, b.small, size) }
      where
        filled : (n l : ℕ) → 1 ≤ n → 1 ≤ l → 1 ≤ n * l
        filled n zero p q = absurd (omega (arith, q))
        filled n (suc l) p q = omega (arith, p)

  pub objects_born : (from : ℕ) (live : List Wire) (shapes : List Shape64) → AreBirths program shapes → (K : Knowledge) (w : World) → from ≤ next_serial w → Holds program K w → AreObjects w.memory from live → AreJoined program from live shapes K w
  objects_born from live shapes a K w early h o =
      let all : AreBornBy program (next_serial w) Auto shapes K w = births_leave Auto shapes (births_sized shapes a) (next_serial w) K w (omega arith) h in
      let stay : AreObjects (births program Auto shapes w).memory.memory from live = objects_stay w.memory _ (λ s b e q. all.later.stays s b (h.low s (live_born w.memory s b e)) e q) from live o in
      record {
        known = all.known;
        later = later_from program from (next_serial w) early K all.known w (births program Auto shapes w).memory all.later;
        born = all.born;
        objects = objects_both _ from (next_serial w) live (births program Auto shapes w).pointers early (objects_under w.memory from (next_serial w) live h.low o) stay (all.objects refl);
      }

  -- ---- deaths

  died_object : (m : Memory) (from : ℕ) (v : Wire) (w : World) → IsObject m from v → died_at v w ≡ died (serial_of v) w
  died_object m from v w o = ap (λ (x : Wire). died_at x w) o.is ∙ ap (λ (x : Wire). died (serial_of x) w) (sym o.is)

  died_memory : (d : ℕ) (w : World) → (died d w).memory ≡ killed d w.memory
  unfolding died
  died_memory d w = refl

  -- the newest ones die
  pub objects_died : (from : ℕ) (remains ps : List Wire) (K : Knowledge) (w : World) → Holds program K w → AreObjects w.memory from (remains ++ ps) → AreDead program from remains ps K w
  objects_died from remains [] K w h o = record { later = later_same program from K w h; objects = subst (AreObjects w.memory from) (append-nil remains) o }
  objects_died from remains (p ∷ ps) K w h o =
      let object : IsObject w.memory from p = object_in w.memory from remains p ps o in
      let may : MayDie program from w (serial_of p) = λ b e. inr (ap (λ (x : New). x.kind) (some_is (sym e ∙ ap (born_at w.memory) (object_serial w.memory from p object) ∙ object.live)) ∙ object.auto, omega (arith, object.later, object_serial w.memory from p object)) in
      let one : Later program from K w K (died (serial_of p) w) = death_later program from K w (serial_of p) h may in
      let left : AreObjects (died (serial_of p) w).memory from (remains ++ ps) = subst (λ (m : Memory). AreObjects m from (remains ++ ps)) (sym (died_memory (serial_of p) w)) (objects_without w.memory from remains p ps o) in
      let all : AreDead program from remains ps K (died (serial_of p) w) = objects_died from remains ps K (died (serial_of p) w) one.holds left in
      record {
        later = subst (λ (x : World). Later program from K w K (deaths ps x)) (sym (died_object w.memory from p w object)) (later_on program from K K K w (died (serial_of p) w) (deaths ps (died (serial_of p) w)) one all.later);
        objects = subst (λ (x : World). AreObjects (deaths ps x).memory from remains) (sym (died_object w.memory from p w object)) all.objects;
      }
