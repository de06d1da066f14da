-- The user half's memory, read through the pairs, is the copy.
use Rattle.std.proofs.Common.{◌≡◌, ℕ, Bool, true, false, cond, [], ◌∷◌, Option, Some, None, refl, sym, ◌∙◌, ap, arith}
use Rattle.std.specs.Prelude.{◌==◌, is_some, slice_get, option_map}
use Rattle.std.proofs.lemmas.Bool.{eqb-true}
use Rattle.mdr_core.specs.declared.value.Block.{Block}
use Rattle.mdr_model.specs.declared.memory.Cell.{Cell}
use Rattle.mdr_model.specs.Agreement.{SerialsRise}
use Rattle.mdr_model.specs.Memory.{Memory, born_at, cell_at, is_live}
use Rattle.mdr_model.proofs.LifeLaws.{get-map}
use Rattle.mdr_model.proofs.MemoryLaws.{same_memory}
use Rattle.mdr_mem.specs.Contents.{Contents, cell_in, kind_of, shape_of}
use Rattle.mdr_track.specs.Pairs.{Pairs}
use Rattle.mdr_user_memory.specs.Paired.{IsTwin, Paired, block_at, block_in, cells_of, held_in, now_of, told, told_cells, value_in}

cells_of-block : (m : Memory) (c : Cell) → slice_get (cells_of (block_at m c.serial)) c.index ≡ cell_at m c
unfolding block_at cell_at
cells_of-block [] c = refl
cells_of-block (b ∷ m) c = of (b.born.serial == c.serial) (cells_of-block m c)
  where
    of : (t : Bool) → slice_get (cells_of (block_at m c.serial)) c.index ≡ cell_at m c → slice_get (cells_of (cond t (Some b) (block_at m c.serial))) c.index ≡ cond t (slice_get b.cells c.index) (cell_at m c)
    of true later = refl
    of false later = later

get-told : (r : Contents) (ps : Pairs) (c : Cell) → slice_get (told_cells r ps c.serial) c.index ≡ held_in r ps c
get-told r ps c = get-map (told r.handles ps) _ c.index ∙ ap (λ o. option_map (told r.handles ps) o) (of (ps.user_of c.serial))
  where
    of : (o : Option Block) → slice_get (cells_of (block_in r o)) c.index ≡ value_in r o c.index
    of None = refl
    of (Some b) = cells_of-block r.memory (cell_in b c.index)

pub born_at-now : (copy : Memory) (r : Contents) (ps : Pairs) (s : ℕ) → born_at (now_of copy r ps) s ≡ born_at copy s
unfolding now_of born_at
born_at-now [] r ps s = refl
born_at-now (b ∷ copy) r ps s = ap (λ o. cond (b.born.serial == s) (Some b.born) o) (born_at-now copy r ps s)

pub cell_at-now : (copy : Memory) (r : Contents) (ps : Pairs) (c : Cell) → cell_at (now_of copy r ps) c ≡ cond (is_live copy c.serial) (held_in r ps c) None
unfolding now_of cell_at born_at is_live
cell_at-now [] r ps c = refl
cell_at-now (b ∷ copy) r ps c = of (b.born.serial == c.serial) refl (cell_at-now copy r ps c)
  where
    of : (q : Bool) → (b.born.serial == c.serial) ≡ q → cell_at (now_of copy r ps) c ≡ cond (is_live copy c.serial) (held_in r ps c) None
        → cond q (slice_get (told_cells r ps b.born.serial) c.index) (cell_at (now_of copy r ps) c) ≡ cond (is_some (cond q (Some b.born) (born_at copy c.serial))) (held_in r ps c) None
    of true e later = ap (λ s. slice_get (told_cells r ps s) c.index) (eqb-true b.born.serial c.serial e) ∙ get-told r ps c
    of false e later = later

pub rises-now : (copy : Memory) (r : Contents) (ps : Pairs) → SerialsRise copy → SerialsRise (now_of copy r ps)
unfolding now_of is_live
rises-now [] r ps q = tt
rises-now (b ∷ copy) r ps q = (λ s h. q.0 s (ap is_some (sym (born_at-now copy r ps s)) ∙ h), rises-now copy r ps q.1)

-- whatever is in the cells, it goes with what is read of it
pub now_paired : {copy : Memory} {r : Contents} {ps : Pairs} → IsTwin copy r ps → Paired (now_of copy r ps) r ps
unfolding is_live
now_paired {copy} {r} {ps} w = record {
  twin = record {
    linked = w.linked;
    live = λ s. ap is_some (born_at-now copy r ps s) ∙ w.live s;
    shape = λ s. ap (λ o. shape_of o) (born_at-now copy r ps s) ∙ w.shape s;
    kind = λ s. ap (λ o. kind_of o) (born_at-now copy r ps s) ∙ w.kind s;
  };
  cells = λ c. cell_at-now copy r ps c ∙ of c (ps.user_of c.serial) refl;
}
  where
    of : (c : Cell) (o : Option Block) → ps.user_of c.serial ≡ o → cond (is_live copy c.serial) (held_in r ps c) None ≡ held_in r ps c
    of c None e = grind (arith, w.live c.serial)
    of c (Some b) e = grind (arith, w.live c.serial)

-- what goes with it, and has the copy's births, is what is read of it
pub now_is : {m : Memory} {r : Contents} {ps : Pairs} (copy : Memory) → SerialsRise copy → SerialsRise m → ((s : ℕ) → born_at copy s ≡ born_at m s) → Paired m r ps → now_of copy r ps ≡ m
unfolding is_live
now_is {m} {r} {ps} copy q q' born p =
    same_memory (now_of copy r ps) m (rises-now copy r ps q) q' (λ s. born_at-now copy r ps s ∙ born s)
    (λ c. cell_at-now copy r ps c ∙ of c (ps.user_of c.serial) refl)
  where
    of : (c : Cell) (o : Option Block) → ps.user_of c.serial ≡ o → cond (is_live copy c.serial) (held_in r ps c) None ≡ cell_at m c
    of c None e = grind (arith, p.twin.live c.serial, p.cells c, born c.serial)
    of c (Some b) e = grind (arith, p.twin.live c.serial, p.cells c, born c.serial)

pub now_copy : {copy : Memory} {r : Contents} {ps : Pairs} → SerialsRise copy → Paired copy r ps → now_of copy r ps ≡ copy
now_copy {copy} q p = now_is copy q q (λ s. refl) p
