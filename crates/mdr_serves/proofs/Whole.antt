-- What code of either half leaves as it was when it has ended, in the whole run, whatever room there is for calls back.
use Rattle.std.proofs.Common.{◌≡◌, ℕ, zero, suc, ◌+◌, ◌<◌, ◌≤◌, Bool, true, false, List, [], ◌∷◌, length, map, Option, Some, Result, Ok, Err, refl, sym, ◌∙◌, ap, subst}
use Rattle.mdr_core.specs.declared.place.At.{At}
use Rattle.mdr_core.specs.declared.program.Func.{Func}
use Rattle.mdr_core.specs.declared.program.Program.{Program}
use Rattle.mdr_core.specs.declared.stop.StopKind.{StopKind}
use Rattle.mdr_core.specs.declared.stop.StopKind.TheVariants as stop
use Rattle.mdr_core.specs.declared.types.Ty.{Ty}
use Rattle.mdr_core.specs.Layout.{chosen}
use Rattle.mdr_extents.specs.CellOrder.{cells}
use Rattle.mdr_extents.specs.Reaching.{Failing, visible}
use Rattle.mdr_holds.proofs.Kernel.{kernel_code_leaves}
use Rattle.mdr_holds.proofs.Memories.{live_born}
use Rattle.mdr_holds.proofs.Objects.{objects_stay}
use Rattle.mdr_holds.proofs.User.{user_code_leaves}
use Rattle.mdr_holds.specs.Holding.{Holds}
use Rattle.mdr_holds.specs.Laws.{IsCalled}
use Rattle.mdr_holds.specs.Leaving.{AreObjects, Returns, ended as leads_on, stopped as leads_out}
use Rattle.mdr_meaning.specs.declared.wire.Wire.{Wire}
use Rattle.mdr_meaning.specs.Bodies.{started}
use Rattle.mdr_meaning.specs.Fit.{Knowledge}
use Rattle.mdr_meaning.specs.Tree.{Asked, Tree}
use Rattle.mdr_meaning.specs.Within.{Uses}
use Rattle.mdr_model.specs.declared.memory.Cell.{Cell}
use Rattle.mdr_model.specs.declared.message.BirthKind.TheVariants.{Auto}
use Rattle.mdr_model.specs.declared.message.New.{New}
use Rattle.mdr_model.specs.Memory.{born_at, normal, reached, stored, stored_into}
use Rattle.mdr_paths.proofs.NodeLists.{is_in-filter}
use Rattle.mdr_paths.specs.Paths.{is_in}
use Rattle.mdr_plain.specs.Atomic.{is_atomic}
use Rattle.mdr_plain.specs.Running.{Before, Crossing, Setting, all_cells, call, interrupts, nothing, run}
use Rattle.mdr_plain.specs.Services.{is_heap, served}
use Rattle.mdr_plain.specs.Storage.{accesses, births, born, deaths, died, next_serial, remembers, without}
use Rattle.mdr_plain.specs.World.{World, Ran, Ended, Stopped, Work, advanced, after, counted, given, left, then}
use Rattle.mdr_model.proofs.Tests.{and_right}
use Rattle.mdr_watched.proofs.KeepLaws.{IsKept, births_keep, deaths_keep, interrupts_keep, served_keeps}
use Rattle.mdr_watched.specs.Driver.{Driver, entry_roots, result_roots, touched_by}
use Rattle.mdr_watched.specs.Views.{below, gained, may_touch, opened, renewed, taken, top}
use Rattle.mdr_watched.specs.Watched.{calls_back, closing, downcall, entered, held, kernel_of, kernel_with, returns_to, serves, upcall}
use Rattle.mdr_serves.proofs.KernelWork.{interrupts_lead}
use Rattle.mdr_serves.proofs.Relations.{IsRight}

-- ---- the visible sets

-- as many sets, each a part of what it was
abbrev pub AreParts : (now before : List (List Cell)) → Type 0
AreParts [] [] = Unit {0}
AreParts [] (set ∷ sets) = ⊥
AreParts (set ∷ sets) [] = ⊥
AreParts (now ∷ others) (set ∷ sets) = ((c : Cell) → is_in cells now c ≡ true → is_in cells set c ≡ true) × AreParts others sets

all_parts : (sets : List (List Cell)) → AreParts sets sets
all_parts [] = tt
all_parts (set ∷ sets) = (λ c h. h, all_parts sets)

parts_of_parts : (a b c : List (List Cell)) → AreParts a b → AreParts b c → AreParts a c
parts_of_parts [] [] [] h g = tt
parts_of_parts [] [] (z ∷ c) h g = elim g [ ]
parts_of_parts [] (y ∷ b) c h g = elim h [ ]
parts_of_parts (x ∷ a) [] c h g = elim h [ ]
parts_of_parts (x ∷ a) (y ∷ b) [] h g = elim g [ ]
parts_of_parts (x ∷ a) (y ∷ b) (z ∷ c) h g = (λ cell i. g.0 cell (h.0 cell i), parts_of_parts a b c h.1 g.1)

below_parts : (a b : List (List Cell)) → AreParts a b → AreParts (below a) (below b)
below_parts [] [] h = tt
below_parts [] (y ∷ b) h = elim h [ ]
below_parts (x ∷ a) [] h = elim h [ ]
below_parts (x ∷ a) (y ∷ b) h = h.1

pub top_parts : (a b : List (List Cell)) → AreParts a b → (c : Cell) → is_in cells (top a) c ≡ true → is_in cells (top b) c ≡ true
top_parts [] [] h c i = i
top_parts [] (y ∷ b) h c i = elim h [ ]
top_parts (x ∷ a) [] h c i = elim h [ ]
top_parts (x ∷ a) (y ∷ b) h c i = h.0 c i

pub parts_long : (a b : List (List Cell)) → AreParts a b → length a ≡ length b
parts_long [] [] h = refl
parts_long [] (y ∷ b) h = elim h [ ]
parts_long (x ∷ a) [] h = elim h [ ]
parts_long (x ∷ a) (y ∷ b) h = ap suc (parts_long a b h.1)

without_parts : (dead : ℕ) (a b : List (List Cell)) → AreParts a b → AreParts (map (without dead) a) b
without_parts dead [] [] h = tt
without_parts dead [] (y ∷ b) h = elim h [ ]
without_parts dead (x ∷ a) [] h = elim h [ ]
without_parts dead (x ∷ a) (y ∷ b) h = (λ c i. h.0 c (and_right _ _ (sym (is_in-filter cells _ x c) ∙ i)), without_parts dead a b h.1)

below_without : (dead : ℕ) (a b : List (List Cell)) → AreParts (below a) b → AreParts (below (map (without dead) a)) b
below_without dead [] b h = h
below_without dead (x ∷ a) b h = without_parts dead a b h

-- all sets, or those below the one on top
HasParts : (sets : List (List Cell)) → World → Type 0
HasParts sets w = AreParts w.views sets

HasBelow : (sets : List (List Cell)) → World → Type 0
HasBelow sets w = AreParts (below w.views) sets

parts_kept : (sets : List (List Cell)) → IsKept (HasParts sets)
unfolding HasParts born died
parts_kept sets = record {
  put = λ w c v e. e;
  keeping = λ w k e. e;
  device = λ w d e. e;
  tick = λ w e. e;
  birth = λ program kind s w e. e;
  death = λ w serial e. without_parts serial w.views sets e;
}

below_kept : (sets : List (List Cell)) → IsKept (HasBelow sets)
unfolding HasBelow born died
below_kept sets = record {
  put = λ w c v e. e;
  keeping = λ w k e. e;
  device = λ w d e. e;
  tick = λ w e. e;
  birth = λ program kind s w e. e;
  death = λ w serial e. below_without serial w.views sets e;
}

-- ---- work that ended

-- of work that ended the property holds; nothing is said of work that stopped
abbrev EndsIn : {A : Type 0} → (World → Type 0) → Ran A → Type 0
EndsIn P (Ended x w) = P w
EndsIn P (Stopped kind at w) = Unit {0}

ends_left : {A : Type 0} (P : World → Type 0) (r : Ran A) → P (left r) → EndsIn P r
ends_left P (Ended x w) h = h
ends_left P (Stopped kind at w) h = tt

module _ (P : World → Type 0) (kept : IsKept P) where
  ends_after : {A B : Type 0} (r : Ran A) (go : A → World → Ran B) → EndsIn P r → ((x : A) (w : World) → P w → EndsIn P (go x w)) → EndsIn P (after r go)
  ends_after (Ended x w) go e each = each x w e
  ends_after (Stopped kind at w) go e each = tt

  ends_then : {B : Type 0} (r : Work) (go : World → Ran B) → EndsIn P r → ((w : World) → P w → EndsIn P (go w)) → EndsIn P (then r go)
  ends_then (Ended x w) go e each = each w e
  ends_then (Stopped kind at w) go e each = tt

  ends_given : {A B : Type 0} (r : Result A StopKind) (at : At) (w : World) (go : A → Ran B) → ((x : A) → EndsIn P (go x)) → EndsIn P (given r at w go)
  ends_given (Ok x) at w go each = each x
  ends_given (Err kind) at w go each = tt

  ends_counted : {A : Type 0} (n : ℕ) (at : Option At) (w : World) (go : World → Ran A) → P w → ((w' : World) → P w' → EndsIn P (go w')) → EndsIn P (counted n at w go)
  ends_counted zero at w go e each = tt
  ends_counted (suc n) at w go e each = each (record w { clock = advanced 1 w.clock }) (kept.tick w e)

  ends_stored : {A : Type 0} (w : World) (v : Wire) (r : Result Cell StopKind) (at : At) (go : World → Ran A) → P w → ((w' : World) → P w' → EndsIn P (go w')) → EndsIn P (given (remembers w (stored_into w.memory v r)) at w go)
  ends_stored w v (Ok c) at go e each = each _ (kept.put w c (normal w.memory v) e)
  ends_stored w v (Err kind) at go e each = tt

  module _ (program : Program) (allowed : World → Cell → Bool) (asks : Asked → World → Ran (List Wire)) (crosses : Crossing) (before : Before)
      (tries : (n : ℕ) (w : World) → P w → EndsIn P (before n w)) (asked : (q : Asked) (w : World) → P w → EndsIn P (asks q w))
      (crossed : (at : At) (f : ℕ) (args : List Wire) (n : ℕ) (w : World) → P w → EndsIn P (crosses at f args n w)) where
    abbrev setting : Setting
    setting = record { accesses = accesses program allowed; serves = asks; crosses = crosses }

    run_ends : (t : Tree) (w : World) → P w → EndsIn P (run setting before t w)
    unfolding run stored
    run_ends Tree.Idle w e = e
    run_ends (Tree.Waits k) w e = e
    run_ends (Tree.Done v t) w e = e
    run_ends (Tree.Stop kind at) w e = tt
    run_ends (Tree.Tick at n t) w e = ends_then (before n w) _ (tries n w e) (λ w' e'. ends_counted w'.clock.rest _ w' _ e' (λ w'' e''. run_ends t w'' e''))
    run_ends (Tree.Load at p k) w e = ends_given _ at w _ (λ v. run_ends (k v) w e)
    run_ends (Tree.Store at p v t) w e = ends_stored w v (reached (allowed w) w.memory p) at _ e (λ w' e'. run_ends t w' e')
    run_ends (Tree.Read at p n k) w e = ends_given _ at w _ (λ bytes. run_ends (k bytes) w e)
    run_ends (Tree.Fresh at v k) w e = ends_given _ at w _ (λ x. run_ends (k x) w e)
    run_ends (Tree.Birth at shapes k) w e = run_ends (k (births program Auto shapes w).pointers) (births program Auto shapes w).memory (births_keep P kept program Auto shapes w e)
    run_ends (Tree.Death at ps t) w e = run_ends t (deaths ps w) (deaths_keep P kept ps w e)
    run_ends (Tree.Ask a k) w e = ends_after _ _ (asked a w e) (λ results w' e'. run_ends (k results) w' e')
    run_ends (Tree.Cross at f args n k) w e = ends_after _ _ (crossed at f args n w e) (λ v w' e'. run_ends (k v) w' e')

-- ---- sets behind code that ended

module _ (d : Driver) where
  -- a call of the user half that ended has left the sets that there were, or parts of them
  abbrev LeavesSets : Crossing → Type 0
  LeavesSets crosses = (sets : List (List Cell)) (at : At) (f : ℕ) (args : List Wire) (depth : ℕ) (w : World) → HasParts sets w → EndsIn (HasParts sets) (crosses at f args depth w)

  module _ (crosses : Crossing) (across : LeavesSets crosses) where
    kernel_sets : (sets : List (List Cell)) (f : ℕ) (args : List Wire) (depth : ℕ) (w : World) → HasParts sets w → EndsIn (HasParts sets) (call (kernel_with d crosses) (interrupts (kernel_of d)) f args depth w)
    unfolding call
    kernel_sets sets f args depth w e =
        run_ends (HasParts sets) (parts_kept sets) d.program all_cells (served d.program) crosses (interrupts (kernel_of d))
        (λ n w' e'. ends_left (HasParts sets) _ (interrupts_keep (HasParts sets) (parts_kept sets) d n w' e').at_end)
        (λ q w' e'. ends_left (HasParts sets) _ (served_keeps (HasParts sets) (parts_kept sets) d.program q w' e').at_end)
        (across sets) (started d.kernel (suc w.clock.rest) f args depth Tree.Idle) w e

    -- user code takes the set on top anew, and leaves those below
    returned_sets : (sets : List (List Cell)) (t : ℕ) (at : At) (f : ℕ) (args : List Wire) (v : Wire) (w : World) → HasBelow sets w → EndsIn (HasBelow sets) (returns_to d (held d) t at f args v w)
    unfolding HasBelow
    returned_sets sets t at f args v w e = of (visible d.program (touched_by d.plan t) w.memory (top w.views) (result_roots d.program f args v))
      where
        of : (x : Result (List Cell) Failing) → EndsIn (HasBelow sets) (taken x at w (λ set. Ended v (renewed set w)))
        of (Ok set) = e
        of (Err failing) = tt

    down_sets : (sets : List (List Cell)) (t : ℕ) (at : At) (f : ℕ) (args : List Wire) (depth : ℕ) (w : World) → HasBelow sets w → EndsIn (HasBelow sets) (downcall d (held d) t crosses at f args depth w)
    unfolding HasBelow HasParts
    down_sets sets t at f args depth w e = of (call (kernel_with d crosses) (interrupts (kernel_of d)) f (map (normal w.memory) args) depth w) (kernel_sets w.views f (map (normal w.memory) args) depth w (all_parts w.views))
      where
        of : (r : Ran Wire) → EndsIn (HasParts w.views) r → EndsIn (HasBelow sets) (after r (λ v w'. returns_to d (held d) t at f (map (normal w.memory) args) v w'))
        of (Ended v w') h = returned_sets sets t at f (map (normal w.memory) args) v w' (parts_of_parts (below w'.views) (below w.views) sets (below_parts w'.views w.views h) e)
        of (Stopped kind at' w') h = tt

    asked_sets : (sets : List (List Cell)) (t : ℕ) (q : Asked) (w : World) → HasBelow sets w → EndsIn (HasBelow sets) (serves d (held d) t q w)
    unfolding HasBelow
    asked_sets sets t q w e =
        ends_after (HasBelow sets) (below_kept sets) (served d.program q w) (λ results w'. Ended results (gained d.program (touched_by d.plan t) (next_serial w) w'))
        (ends_left (HasBelow sets) _ (served_keeps (HasBelow sets) (below_kept sets) d.program q w e).at_end) (λ results w' e'. e')

    closing_sets : (sets : List (List Cell)) (r : Ran Wire) → EndsIn (HasBelow sets) r → EndsIn (HasParts sets) (closing r)
    unfolding HasBelow HasParts
    closing_sets sets (Ended v w) h = h
    closing_sets sets (Stopped kind at w) h = tt

    up_sets : (sets : List (List Cell)) (f : ℕ) (args : List Wire) (depth : ℕ) (w : World) → HasParts sets w → EndsIn (HasParts sets) (upcall d (held d) crosses f args depth w)
    unfolding upcall HasBelow HasParts
    up_sets sets f args depth w e = of (visible d.program (touched_by d.plan f) w.memory [] (entry_roots d.program f args))
      where
        of : (x : Result (List Cell) Failing) → EndsIn (HasParts sets) (taken x (record { func = f; stmt = 0 }) w (λ set. entered d (held d) crosses f args depth set w))
        of (Ok set) =
            closing_sets sets _
            (run_ends (HasBelow sets) (below_kept sets) d.program may_touch (serves d (held d) f) (downcall d (held d) f crosses) nothing (λ n w' e'. e') (asked_sets sets f) (down_sets sets f)
            (started d.user (suc w.clock.rest) f args depth Tree.Idle) (opened set w) e)
        of (Err failing) = tt

  back_sets : (room : ℕ) → LeavesSets (calls_back d (held d) room)
  unfolding calls_back
  back_sets zero sets at f args depth w e = tt
  back_sets (suc room) sets at f args depth w e = of (is_atomic w) (up_sets (calls_back d (held d) room) (back_sets room) sets f (map (normal w.memory) args) depth w e)
    where
      of : (b : Bool) → EndsIn (HasParts sets) (upcall d (held d) (calls_back d (held d) room) f (map (normal w.memory) args) depth w)
          → EndsIn (HasParts sets) (chosen b (Stopped stop.Atomic (Some at) w) (upcall d (held d) (calls_back d (held d) room) f (map (normal w.memory) args) depth w))
      of true h = tt
      of false h = h

-- ---- what is as it was behind code that ended, whatever is known then

-- objects of locals live on, ticks passed, and the sets are parts of what they were
pub record Stays (w w' : World) : Type 0 where
  pub lives : (serial : ℕ) (b : New) → serial < next_serial w → born_at w.memory serial ≡ Some b → is_heap b.kind ≡ false → born_at w'.memory serial ≡ Some b
  pub time : w'.clock.ticks + w'.clock.rest ≡ w.clock.ticks + w.clock.rest
  pub later : w.clock.ticks ≤ w'.clock.ticks
  pub parts : AreParts w'.views w.views

pub objects_stay_so : (program : Program) (K : Knowledge) (w w' : World) (objects : List Wire) → Holds program K w → Stays w w' → AreObjects w.memory 0 objects → AreObjects w'.memory 0 objects
objects_stay_so program K w w' objects h s are = objects_stay w.memory w'.memory (λ serial b born heap. s.lives serial b (h.low serial (live_born w.memory serial b born)) born heap) 0 objects are

module _ (d : Driver) (uses : Uses) (right : IsRight d uses) (room : ℕ) where
  abbrev backs : Crossing
  backs = calls_back d (held d) room

  stays_of : (result : Ty) (K : Knowledge) (w w' : World) (v : Wire) (ran : Ran Wire) → Returns d.program (next_serial w) result K w ran → EndsIn (HasParts w.views) ran → ran ≡ Ended v w' → Stays w w'
  unfolding HasParts
  stays_of result K w w' v _ (leads_on K' x w2 l g) parts e =
      let same : w2 ≡ w' = cc in
      subst (λ (y : World). Stays w y) same (record { lives = l.stays; time = l.time; later = l.later; parts = parts })
  stays_of result K w w' v _ (leads_out K' kind at w2 l) parts e = absurd cc

  -- a function of the kernel half that was called
  pub kernel_stays : (K : Knowledge) (w w' : World) (f : ℕ) (func : Func) (args : List Wire) (depth : ℕ) (v : Wire) → K.uses ≡ uses → Holds d.program K w → IsCalled d.program K f func args
      → call (kernel_with d backs) (interrupts (kernel_of d)) f args depth w ≡ Ended v w' → Stays w w'
  unfolding HasParts
  kernel_stays K w w' f func args depth v same h c e =
      stays_of func.result K w w' v _
      (kernel_code_leaves.called d.program right.driver.sound uses d.kernel right.driver.kernel backs (user_code_leaves.back d uses right.driver room) (interrupts (kernel_of d)) (interrupts_lead d uses right) K w same h f func args depth c)
      (kernel_sets d backs (back_sets d room) w.views f args depth w (all_parts w.views)) e

  -- one of the user half
  pub upcall_stays : (K : Knowledge) (w w' : World) (f : ℕ) (func : Func) (args : List Wire) (depth : ℕ) (v : Wire) → K.uses ≡ uses → Holds d.program K w → IsCalled d.program K f func args
      → upcall d (held d) backs f args depth w ≡ Ended v w' → Stays w w'
  unfolding HasParts
  upcall_stays K w w' f func args depth v same h c e =
      stays_of func.result K w w' v _ (user_code_leaves.called d uses right.driver backs (user_code_leaves.back d uses right.driver room) K w same h f func args depth c)
      (up_sets d backs (back_sets d room) w.views f args depth w (all_parts w.views)) e
