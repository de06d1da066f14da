-- What a legal reply stores lies in the visible set, and none of it in a lock.
use Rattle.std.proofs.Common.{◌≡◌, ℕ, suc, Bool, true, false, List, [], ◌∷◌, ◌++◌, Option, Some, None, refl, sym, ◌∙◌, ap, subst}
use Rattle.std.specs.List.{list_all}
use Rattle.mdr_core.specs.declared.refusal.RefuseKind.TheVariants as refusal
use Rattle.mdr_core.specs.declared.types.Ty.{Ty}
use Rattle.mdr_core.specs.declared.types.Ty.TheVariants as type
use Rattle.mdr_core.specs.declared.types.Ty.TheOpen.{Ty-F}
use Rattle.mdr_core.specs.Layout.{Leaf}
use Rattle.mdr_limits.proofs.Faultless.{faultless}
use Rattle.mdr_meaning.specs.declared.wire.Wire.{Wire}
use Rattle.mdr_model.specs.declared.memory.Cell.{Cell}
use Rattle.mdr_model.specs.declared.message.New.{New}
use Rattle.mdr_model.specs.declared.message.Run.{Run}
use Rattle.mdr_model.specs.declared.message.SetRun.{SetRun}
use Rattle.mdr_model.specs.declared.reply.Reply.{Reply}
use Rattle.mdr_model.specs.declared.reply.Reply.TheVariants as replies
use Rattle.mdr_model.specs.Copies.{CellValue, numbered, put_all, put_runs, values_of_runs}
use Rattle.mdr_model.specs.Faults.{is_known, set_run_of, unless}
use Rattle.mdr_model.specs.Legal.{IsContained, is_lock, is_lock_in, runs_told}
use Rattle.mdr_model.specs.Memory.{Memory, born_at, cell_at, is_lock_leaf, is_lock_type, leaf_at, put}
use Rattle.mdr_model.specs.Sets.{follows_maybe, is_in, is_same_cell}
use Rattle.mdr_model.proofs.Accepted.{no_faults, or_none, unless_passes}
use Rattle.mdr_model.proofs.CopyLaws.{births-put_runs}
use Rattle.mdr_model.proofs.MemoryLaws.{cell_at-put_other, same_cell}
use Rattle.mdr_model.proofs.Tests.{and_both, and_left, and_right, not_both}
use Rattle.mdr_split.specs.AnyAnswers.{LegalIsContained}
use Rattle.mdr_split.specs.Fits.{Places, fits, fits_by, is_view}
use Rattle.mdr_split.specs.Legal.{fault_of, fits_block, fits_cell, fits_leaf, kernel_places, reply_runs_fault, run_fault, runs_fault}
use Rattle.mdr_split.specs.State.{Kernel, Open, Rest}
use Rattle.mdr_watched.specs.Driver.{Driver}
use Rattle.mdr_watched.specs.Views.{top}

-- ---- a store of many cells

-- a cell that none of those is holds what it held
stored_elsewhere : (test : CellValue → Bool) (xs : List CellValue) (m : Memory) (c : Cell) → ((x : CellValue) → test x ≡ true → is_same_cell x.cell c ≡ false) → list_all test xs ≡ true → cell_at (put_all xs m) c ≡ cell_at m c
unfolding put_all
stored_elsewhere test [] m c apart all = refl
stored_elsewhere test (x ∷ xs) m c apart all =
    stored_elsewhere test xs (put m x.cell x.value) c apart (and_right (test x) _ all) ∙ cell_at-put_other m x.cell c x.value (apart x (and_left _ _ all))

all_append : (test : CellValue → Bool) (xs ys : List CellValue) → list_all test xs ≡ true → list_all test ys ≡ true → list_all test (xs ++ ys) ≡ true
all_append test [] ys left right = right
all_append test (x ∷ xs) ys left right = and_both _ _ (and_left _ _ left) (all_append test xs ys (and_right (test x) _ left) right)

-- ---- runs without a fault

abbrev is_inside : List Cell → CellValue → Bool
is_inside view x = is_in view x.cell

-- each value lies in the set and fits its cell
pub record AreStorable (p : Places) (view : List Cell) (xs : List CellValue) : Type 0 where
  pub inside : list_all (is_inside view) xs ≡ true
  pub fit : list_all (fits_cell p) xs ≡ true

run_storable : (p : Places) (view : List Cell) (before : Option SetRun) (i : ℕ) (r : Run) → run_fault p view before i r ≡ None → AreStorable p view (numbered r.serial r.first r.values)
unfolding run_fault
run_storable p view before i r e =
    let tests = no_faults (
    unless (follows_maybe before (set_run_of r)) refusal.RunOrder i
    ∷ unless (list_all (is_inside view) (numbered r.serial r.first r.values)) refusal.OutsideSet i
    ∷ unless (list_all (is_known p.paired) r.values) refusal.UnknownSerial i
    ∷ unless (list_all (is_view p.program p.memory) r.values) refusal.BadView i
    ∷ unless (list_all (fits_cell p) (numbered r.serial r.first r.values)) refusal.BadValue i
    ∷ []) e in
    record { inside = unless_passes _ _ _ tests.1.0; fit = unless_passes _ _ _ tests.1.1.1.1.0 }

pub runs_storable : (p : Places) (view : List Cell) (before : Option SetRun) (i : ℕ) (rs : List Run) → runs_fault p view before i rs ≡ None → AreStorable p view (values_of_runs rs)
unfolding runs_fault values_of_runs
runs_storable p view before i [] e = record { inside = refl; fit = refl }
runs_storable p view before i (r ∷ rs) e =
    let both = or_none (run_fault p view before i r) (runs_fault p view (Some (set_run_of r)) (suc i) rs) e in
    let one : AreStorable p view (numbered r.serial r.first r.values) = run_storable p view before i r both.0 in
    let more : AreStorable p view (values_of_runs rs) = runs_storable p view (Some (set_run_of r)) (suc i) rs both.1 in
    record { inside = all_append (is_inside view) _ _ one.inside more.inside; fit = all_append (fits_cell p) _ _ one.fit more.fit }

-- ---- locks

-- nothing fits a lock
lock_takes_none : (p : Places) (t : Ty) (v : Wire) → is_lock_type t ≡ true → fits p t v ≡ true → ⊥
unfolding fits
lock_takes_none p type.Lock v lock fit = not_both fit (ap (λ (l : Ty-F Ty). fits_by p type.Lock l v) type.outs-Lock)
lock_takes_none p _ v lock fit = absurd cc

leaf_takes_none : (p : Places) (o : Option Leaf) (v : Wire) → is_lock_leaf o ≡ true → fits_leaf (fits p) o v ≡ true → ⊥
leaf_takes_none p None v lock fit = not_both lock refl
leaf_takes_none p (Some leaf) v lock fit = lock_takes_none p leaf.type v lock fit

block_takes_none : (p : Places) (o : Option New) (index : ℕ) (v : Wire) → is_lock_in p.program o index ≡ true → fits_block p o index v ≡ true → ⊥
block_takes_none p None index v lock fit = not_both lock refl
block_takes_none p (Some block) index v lock fit = leaf_takes_none p (leaf_at p.program block index) v lock fit

cell_takes_none : (p : Places) (x : CellValue) → is_lock p.program p.memory x.cell ≡ true → fits_cell p x ≡ true → ⊥
unfolding is_lock fits_cell
cell_takes_none p x lock fit = block_takes_none p (born_at p.memory x.cell.serial) x.cell.index x.value lock fit

-- ---- the store of what lies in the set and fits

module _ (p : Places) (view : List Cell) where
  -- a cell outside the set is none of those
  outside_apart : (c : Cell) → is_in view c ≡ false → (x : CellValue) → is_inside view x ≡ true → is_same_cell x.cell c ≡ false
  outside_apart c outside x inside = of (is_same_cell x.cell c) refl
    where
      of : (t : Bool) → is_same_cell x.cell c ≡ t → is_same_cell x.cell c ≡ false
      of true e = absurd (not_both (subst (λ (d : Cell). is_in view d ≡ true) (same_cell x.cell c e) inside) outside)
      of false e = e

  -- nor is a lock
  lock_apart : (c : Cell) → is_lock p.program p.memory c ≡ true → (x : CellValue) → fits_cell p x ≡ true → is_same_cell x.cell c ≡ false
  lock_apart c lock x fit = of (is_same_cell x.cell c) refl
    where
      of : (t : Bool) → is_same_cell x.cell c ≡ t → is_same_cell x.cell c ≡ false
      of true e = absurd (cell_takes_none p x (subst (λ (d : Cell). is_lock p.program p.memory d ≡ true) (sym (same_cell x.cell c e)) lock) fit)
      of false e = e

  pub store_contained : (rs : List Run) → AreStorable p view (values_of_runs rs) → IsContained p.program p.memory (put_runs rs p.memory) view
  unfolding put_runs
  store_contained rs s = record {
    blocks = births-put_runs rs p.memory;
    outside = λ c outside. stored_elsewhere (is_inside view) (values_of_runs rs) p.memory c (outside_apart c outside) s.inside;
    locks = λ c lock. stored_elsewhere (fits_cell p) (values_of_runs rs) p.memory c (lock_apart c lock) s.fit;
  }

-- ---- a legal reply

-- the runs of a reply without a fault have none
told_faultless : (d : Driver) (k : Kernel) (upcall : Open) (rest : Rest) (reply : Reply) → fault_of d k upcall rest reply ≡ None → reply_runs_fault d k (runs_told reply) ≡ None
told_faultless d k upcall rest (replies.Return return) e = (faultless d k upcall rest (replies.Return return) e).1.1.1.0
told_faultless d k upcall rest (replies.Down down) e = (faultless d k upcall rest (replies.Down down) e).1.1.1.1.1.1.0
told_faultless d k upcall rest (replies.Ask ask) e = (faultless d k upcall rest (replies.Ask ask) e).1.1.1.1.0
told_faultless d k upcall rest (replies.Stop said) e = (faultless d k upcall rest (replies.Stop said) e).1.1.1.0

-- runs without a fault are stored so, wherever the kernel half stands
pub faultless_contained : (d : Driver) (k : Kernel) (rs : List Run) → reply_runs_fault d k rs ≡ None → IsContained d.program k.world.memory (put_runs rs k.world.memory) (top k.world.views)
faultless_contained d k rs e = store_contained (kernel_places d k) (top k.world.views) rs (runs_storable (kernel_places d k) (top k.world.views) None 0 rs e)

pub legal_is_contained : LegalIsContained
legal_is_contained d script budget answers reply m k upcall rest left waits e = faultless_contained d k (runs_told reply) (told_faultless d k upcall rest reply e)
