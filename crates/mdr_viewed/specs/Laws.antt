-- protocol
-- What code does where sets are in the world of a run, and where they are kept beside it.
use Rattle.std.specs.Prelude.{◌≡◌, ◌≤◌, ℕ, Bool, List, [], ◌∷◌, ◌++◌, Ok}
use Rattle.mdr_core.specs.declared.place.At.{At}
use Rattle.mdr_core.specs.declared.plan.Key.{Key}
use Rattle.mdr_core.specs.declared.program.Program.{Program}
use Rattle.mdr_extents.specs.Reaching.{Roots, visible}
use Rattle.mdr_meaning.specs.declared.shape.Shape64.{Shape64}
use Rattle.mdr_meaning.specs.declared.wire.Wire.{Wire}
use Rattle.mdr_meaning.specs.Tree.{Asked, Tree}
use Rattle.mdr_model.specs.declared.memory.Cell.{Cell}
use Rattle.mdr_model.specs.declared.message.BirthKind.{BirthKind}
use Rattle.mdr_model.specs.Memory.{Memory}
use Rattle.mdr_plain.specs.Running.{Before, Crossing, Went, all_cells, goes, interrupts, nothing}
use Rattle.mdr_plain.specs.Services.{served}
use Rattle.mdr_plain.specs.Storage.{accesses, births, deaths, next_serial}
use Rattle.mdr_plain.specs.World.{World, Ran, Ended, left}
use Rattle.mdr_runs.specs.Around.{KeepsTicks}
use Rattle.mdr_watched.specs.Driver.{Driver, result_roots, touched_by}
use Rattle.mdr_watched.specs.Order.{AreLive}
use Rattle.mdr_watched.specs.Views.{closed, gained, living, may_touch, new_cells, opened, renewed, taken}
use Rattle.mdr_watched.specs.Watched.{calls_back, held, in_user, kernel_of, may_not, returns_to, serves}
use Rattle.mdr_viewed.specs.Viewed.{AreOlder, HasUpcall, IsOlder, IsOrdered, IsViewed, IsWentViewed, TouchAlike, after_beside, in_set, viewed, viewed_born, viewed_if}

-- kernel code up to its next call of the other half, with this tried before its ticks
abbrev pub kernel_goes : Driver → Before → Tree → World → Went
kernel_goes d before t w = goes (accesses d.program all_cells) (served d.program) before t w

-- ---- accesses

-- accesses with two tests that agree
pub record AgreeOn (program : Program) (sets : List (List Cell)) (inside beside : World → Cell → Bool) (w : World) : Type 0 where
  pub load : (p : Wire) → (accesses program inside).load (viewed sets w) p ≡ (accesses program beside).load w p
  pub store : (p v : Wire) → (accesses program inside).store (viewed sets w) p v ≡ viewed_if sets ((accesses program beside).store w p v)
  pub read : (p : Wire) (n : ℕ) → (accesses program inside).read (viewed sets w) p n ≡ (accesses program beside).read w p n
  pub fresh : (v : Wire) → (accesses program inside).fresh (viewed sets w) v ≡ (accesses program beside).fresh w v

pub record AccessesAreViewed : Type 0 where
  pub agree : (program : Program) (sets : List (List Cell)) (inside beside : World → Cell → Bool) → TouchAlike sets inside beside → (w : World) → AgreeOn program sets inside beside w
  -- so those of user code are held to the innermost set
  pub user : (set : List Cell) (outer : List (List Cell)) → TouchAlike (set ∷ outer) may_touch (in_set set)
  pub kernel : (sets : List (List Cell)) → TouchAlike sets all_cells all_cells

-- ---- births and deaths

pub record BirthsAreViewed : Type 0 where
  pub born : (program : Program) (kind : BirthKind) (shapes : List Shape64) (sets : List (List Cell)) (w : World) → AreOlder sets w
      → births program kind shapes (viewed sets w) ≡ viewed_born sets (births program kind shapes w)
  pub older_born : (program : Program) (kind : BirthKind) (shapes : List Shape64) (sets : List (List Cell)) (w : World) → AreOlder sets w → AreOlder sets (births program kind shapes w).memory
  pub died : (ps : List Wire) (sets : List (List Cell)) (w : World) → deaths ps (viewed sets w) ≡ viewed sets (deaths ps w)
  pub older_died : (ps : List Wire) (sets : List (List Cell)) (w : World) → AreOlder sets w → AreOlder sets (deaths ps w)
  -- the upcall stays open
  pub upcall_born : (program : Program) (kind : BirthKind) (shapes : List Shape64) (w : World) → HasUpcall w → HasUpcall (births program kind shapes w).memory
  pub upcall_died : (ps : List Wire) (w : World) → HasUpcall w → HasUpcall (deaths ps w)

-- ---- services and kernel code

abbrev pub ServicesAreViewed : Type 0
ServicesAreViewed =
    (program : Program) (asked : Asked) (set : List Cell) (outer : List (List Cell)) (w : World) → HasUpcall w → AreOlder (set ∷ outer) w
    → IsViewed (set ∷ outer) (served program asked (viewed (set ∷ outer) w)) (served program asked w)

-- up to its next call of the other half kernel code does the same, and nothing is tried before its ticks
pub record KernelCodeIsViewed : Type 0 where
  pub goes : (d : Driver) (t : Tree) (set : List Cell) (outer : List (List Cell)) (w : World) → HasUpcall w → AreOlder (set ∷ outer) w
      → IsWentViewed (set ∷ outer) (kernel_goes d (interrupts (kernel_of d)) t (viewed (set ∷ outer) w)) (kernel_goes d nothing t w)

-- ---- sets

pub record SetsAreViewed : Type 0 where
  -- an upcall opens, with an empty set beside which this one is kept, and is over
  pub opens : (set : List Cell) (w : World) → w.views ≡ [] → AreLive w.memory set → opened set w ≡ viewed (set ∷ []) (opened [] w)
  pub closes : (set : List Cell) (w : World) → w.views ≡ [] → closed (viewed (set ∷ []) (opened [] w)) ≡ w
  -- one opens over others, and is over
  pub opens_over : (set : List Cell) (outer : List (List Cell)) (w : World) → AreLive w.memory set → opened set (viewed outer w) ≡ viewed (set ∷ outer) w
  pub closes_over : (set : List Cell) (outer : List (List Cell)) (w : World) → closed (viewed (set ∷ outer) w) ≡ viewed outer w
  pub renews : (old set : List Cell) (outer : List (List Cell)) (w : World) → AreLive w.memory set → renewed set (viewed (old ∷ outer) w) ≡ viewed (set ∷ outer) w
  pub gains : (program : Program) (touched : List Key) (next : ℕ) (set : List Cell) (outer : List (List Cell)) (w : World) → IsOrdered w
      → gained program touched next (viewed (set ∷ outer) w) ≡ viewed ((set ++ new_cells program touched next w.memory) ∷ outer) w
  -- what a set is taken from may have dead cells
  pub known : (program : Program) (touched : List Key) (m : Memory) (set : List Cell) (roots : Roots) → visible program touched m (living m set) roots ≡ visible program touched m set roots
  -- a set that is taken is of what lives, and so older than what is born later; and so it is where it grows
  pub taken : (program : Program) (touched : List Key) (known : List Cell) (roots : Roots) (set : List Cell) (w : World) → IsOrdered w → visible program touched w.memory known roots ≡ Ok set → AreLive w.memory set
  pub older : (set : List Cell) (w : World) → IsOrdered w → AreLive w.memory set → IsOlder set w
  pub grown : (program : Program) (touched : List Key) (next : ℕ) (set : List Cell) (w : World) → IsOrdered w → IsOlder set w → IsOlder (set ++ new_cells program touched next w.memory) w

-- ---- what user code asks for, and calls

module _ (d : Driver) (t : ℕ) (set : List Cell) (outer : List (List Cell)) where
  -- what is born joins the innermost set
  abbrev pub asks : Asked → World → Ran (List Wire)
  asks asked w = after_beside (set ∷ outer) (served d.program asked w) (λ results w'. Ended results (viewed ((set ++ new_cells d.program (touched_by d.plan t) (next_serial w) w'.memory) ∷ outer) w'))

  -- the innermost set is taken anew
  abbrev pub returns : At → (func : ℕ) (args : List Wire) → Wire → World → Ran Wire
  returns at f args v w = taken (visible d.program (touched_by d.plan t) w.memory set (result_roots d.program f args v)) at (viewed (set ∷ outer) w) (λ found. Ended v (viewed (found ∷ outer) w))

pub record UpcallsAreViewed : Type 0 where
  pub asks : (d : Driver) (t : ℕ) (set : List Cell) (outer : List (List Cell)) (asked : Asked) (w : World) → HasUpcall w → AreOlder (set ∷ outer) w → IsOrdered w
      → serves d (held d) t asked (viewed (set ∷ outer) w) ≡ asks d t set outer asked w
  -- where kernel code gave a result
  pub back : (d : Driver) (t : ℕ) (set : List Cell) (outer : List (List Cell)) (at : At) (f : ℕ) (args : List Wire) (v : Wire) (w : World) → AreOlder (set ∷ outer) w → IsOrdered w
      → returns_to d (held d) t at f args v (viewed (set ∷ outer) w) ≡ returns d t set outer at f args v w

-- calls of the other half give no tick back
abbrev pub CrossingKeepsTicks : Crossing → Type 0
CrossingKeepsTicks crosses = (at : At) (f : ℕ) (args : List Wire) (depth : ℕ) (w : World) → (left (crosses at f args depth w)).clock.rest ≤ w.clock.rest

-- nothing around user code gives a tick back, where the kernel half's calls back don't; and they don't, whatever room there is
pub record UserCodeKeepsTicks : Type 0 where
  pub user : (d : Driver) (t : ℕ) (crosses : Crossing) → CrossingKeepsTicks crosses → KeepsTicks (in_user d (held d) t crosses)
  pub may_not : CrossingKeepsTicks may_not
  pub back : (d : Driver) (room : ℕ) → CrossingKeepsTicks (calls_back d (held d) room)
