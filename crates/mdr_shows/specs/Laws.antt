-- for proofs
-- Laws of the sets of cells that user code sees in a split run.
use Rattle.std.specs.Prelude.{◌≡◌, ◌≤◌, ℕ, Bool, true, ◌&&◌, List, [], ◌∷◌, ◌++◌, length, map, nat_lt, None, Some, Ok}
use Rattle.std.specs.List.{list_all}
use Rattle.mdr_core.specs.declared.plan.Key.{Key}
use Rattle.mdr_core.specs.declared.plan.Plan.{Plan}
use Rattle.mdr_core.specs.declared.program.Program.{Program}
use Rattle.mdr_core.specs.Suited.{IsSuited}
use Rattle.mdr_extents.specs.CellOrder.{cells}
use Rattle.mdr_extents.specs.Reaching.{Roots, visible}
use Rattle.mdr_meaning.specs.declared.wire.Wire.{Wire}
use Rattle.mdr_meaning.specs.Tree.{Asked}
use Rattle.mdr_model.specs.declared.memory.Cell.{Cell}
use Rattle.mdr_model.specs.declared.message.SetRun.{SetRun}
use Rattle.mdr_model.specs.Agreement.{IsAgreed, IsBelow, IsFormed, IsKnown, IsShared, IsShown, KeepsShown, MayFollow, Serials, SerialsRise}
use Rattle.mdr_model.specs.Copies.{agreed_after, begun_copy, tells, told_news}
use Rattle.mdr_model.specs.Memory.{Memory, cell_at, killed, loaded, normal, put, stored}
use Rattle.mdr_model.specs.Sets.{cells_of_run, cells_of_runs, is_in, rises_after, runs_of_cells}
use Rattle.mdr_paths.specs.Paths.{Rises, is_in as is_among}
use Rattle.mdr_plain.specs.Running.{call, interrupts}
use Rattle.mdr_plain.specs.Services.{served}
use Rattle.mdr_plain.specs.Storage.{died, fresh, next_serial, read, without}
use Rattle.mdr_plain.specs.World.{World, left}
use Rattle.mdr_watched.specs.Views.{living}
use Rattle.mdr_watched.specs.Driver.{Driver, entry_roots, result_roots, touched_by}
use Rattle.mdr_watched.specs.Order.{AllAreLive, AreLive, IsInOrder}
use Rattle.mdr_watched.specs.Views.{gained, may_touch, new_cells, top}
use Rattle.mdr_watched.specs.Watched.{kernel_of}
use Rattle.mdr_shows.specs.Cells.{AreOpenKeys, GlobalsAreTyped, HasBegun, HasNoLocks, IsServed, IsSetOf, NameRoots, NamesLock, StoresAlike, told_cells}

-- ---- membership

-- whether a cell is in a set is one question, whichever of the two tests asks it
abbrev pub MembershipIsOne : Type 0
MembershipIsOne = (set : List Cell) (c : Cell) → is_in set c ≡ is_among cells set c

-- ---- a set that is taken

pub record VisibleMayBeShown : Type 0 where
  -- the message whose values name the roots may show it
  pub shown :
      (program : Program) (touched : List Key) (m copy : Memory) (known : List Cell) (roots : Roots) (values : List Wire) (set : List Cell)
      → SerialsRise m → HasBegun program known copy m → NameRoots values roots m → visible program touched m known roots ≡ Ok set → IsShown set values copy m
  pub set :
      (program : Program) (touched : List Key) (m : Memory) (known : List Cell) (roots : Roots) (set : List Cell)
      → SerialsRise m → visible program touched m known roots ≡ Ok set → IsSetOf program touched m set
  -- a call's arguments name its roots, and a result names its own; so they do as they are sent
  pub entry : (program : Program) (f : ℕ) (args : List Wire) (m : Memory) → NameRoots args (entry_roots program f args) m
  pub result : (program : Program) (f : ℕ) (args : List Wire) (v : Wire) (m : Memory) → NameRoots (v ∷ []) (result_roots program f args v) m
  pub sent : (values : List Wire) (roots : Roots) (m : Memory) → NameRoots values roots m → NameRoots (map (normal m) values) roots m

-- each cell of a set lives, and where no key is a lock's none is a lock
pub record SetsAreOpen : Type 0 where
  pub live : (program : Program) (touched : List Key) (m : Memory) (set : List Cell) → IsSetOf program touched m set → AreLive m set
  pub no_locks : (program : Program) (touched : List Key) (m : Memory) (set : List Cell) → AreOpenKeys program touched → GlobalsAreTyped program m → IsSetOf program touched m set → HasNoLocks program m set
  -- no key of a plan that suits the program is a lock's
  pub keys : (program : Program) (plan : Plan) (t : ℕ) → IsSuited plan program → AreOpenKeys program (touched_by plan t)
  -- globals keep their types, whatever code of the kernel half does
  pub globals : (program : Program) (next next' : ℕ) (m m' : Memory) → length program.globals ≤ next → MayFollow program next m next' m' → GlobalsAreTyped program m → GlobalsAreTyped program m'
  -- a store is no matter
  pub stores : (program : Program) (touched : List Key) (m : Memory) (set : List Cell) (c : Cell) (v : Wire) → IsSetOf program touched m set → IsSetOf program touched (put m c v) set

-- the user half finds each cell of a set in a block of its own, with its key: in its copy once a message's deaths and births are in it, and in its memory while it has control
pub record SetsAreCopied : Type 0 where
  pub message :
      (program : Program) (known : Serials) (next : ℕ) (touched : List Key) (view : List Cell) (values : List Wire) (copy m : Memory)
      → IsAgreed program known next copy m → IsShown view values copy m → IsSetOf program touched m view → IsSetOf program touched (begun_copy program view values copy m) view
  pub user :
      (program : Program) (known : Serials) (next : ℕ) (touched : List Key) (view : List Cell) (copy m w u : Memory)
      → IsShared program known next view copy m w u → IsSetOf program touched w view → IsSetOf program touched u view

-- ---- deaths

-- what a death leaves of a set are its cells that still live
pub record DeathsLeaveSets : Type 0 where
  pub one : (m : Memory) (serial : ℕ) (set : List Cell) → AreLive m set → without serial set ≡ living (killed serial m) set
  pub live : (m : Memory) (serial : ℕ) (set : List Cell) → AreLive m set → AreLive (killed serial m) (without serial set)
  pub all : (serial : ℕ) (w : World) → AllAreLive w.memory w.views → AllAreLive (died serial w).memory (died serial w).views
  pub set : (program : Program) (touched : List Key) (m : Memory) (serial : ℕ) (set : List Cell) → IsSetOf program touched m set → IsSetOf program touched (killed serial m) (without serial set)
  -- so of each set of a world, when a service is done, and when code of the kernel half has run
  pub services : (program : Program) (a : Asked) (w : World) → IsInOrder w → (left (served program a w)).views ≡ map (λ (set : List Cell). living (left (served program a w)).memory set) w.views
  pub kernel :
      (d : Driver) (f : ℕ) (args : List Wire) (depth : ℕ) (w : World) → IsInOrder w
      → (left (call (kernel_of d) (interrupts (kernel_of d)) f args depth w)).views
      ≡ map (λ (set : List Cell). living (left (call (kernel_of d) (interrupts (kernel_of d)) f args depth w)).memory set) w.views

-- ---- services

pub record ServicesKeepSets : Type 0 where
  -- each cell of the set is an old one as it was, or one of a block that a result names, as it was born
  pub shown :
      (program : Program) (touched : List Key) (a : Asked) (w w' : World) (results : List Wire)
      → IsServed program a w results w' → NamesLock program a w → HasNoLocks program w.memory (top w.views)
      → KeepsShown program (next_serial w) (top w.views) (top (gained program touched (next_serial w) w').views) results w.memory w'.memory
  pub set :
      (program : Program) (touched : List Key) (a : Asked) (w w' : World) (results : List Wire)
      → IsServed program a w results w' → IsSetOf program touched w.memory (top w.views) → IsSetOf program touched w'.memory (top (gained program touched (next_serial w) w').views)
  -- it does to memory what code of the kernel half may do, also where it stops
  pub follows :
      (program : Program) (a : Asked) (w : World) → IsFormed program w.memory → IsBelow (next_serial w) w.memory
      → MayFollow program (next_serial w) w.memory (next_serial (left (served program a w))) (left (served program a w)).memory

-- and so does that code itself
abbrev pub KernelCodeMayFollow : Type 0
KernelCodeMayFollow = (d : Driver) (f : ℕ) (args : List Wire) (depth : ℕ) (w : World) → IsFormed d.program w.memory → IsBelow (next_serial w) w.memory
    → MayFollow d.program (next_serial w) w.memory (next_serial (left (call (kernel_of d) (interrupts (kernel_of d)) f args depth w))) (left (call (kernel_of d) (interrupts (kernel_of d)) f args depth w)).memory

-- ---- accesses of user code

-- through what user code knows an access comes to the same in the whole run's memory and in the user half's, and what comes of it is known
pub record AccessesAgree (program : Program) (known : Serials) (next : ℕ) (copy m : Memory) (w : World) (u : Memory) : Type 0 where
  pub loads : (p : Wire) → IsKnown known p → loaded (may_touch w) w.memory p ≡ loaded (is_in (top w.views)) u p
  pub loaded_known : (p v : Wire) → IsKnown known p → loaded (may_touch w) w.memory p ≡ Ok v → IsKnown known v
  pub stores : (p v : Wire) → IsKnown known p → IsKnown known v → StoresAlike program known next (top w.views) copy m (stored (may_touch w) w.memory p v) (stored (is_in (top w.views)) u p v)
  pub reads : (p : Wire) (n : ℕ) → IsKnown known p → read (may_touch w) w.memory p n ≡ read (is_in (top w.views)) u p n
  pub freshens : (v : Wire) → IsKnown known v → fresh w.memory v ≡ fresh u v
  pub fresh_known : (v x : Wire) → IsKnown known v → fresh w.memory v ≡ Ok x → IsKnown known x
  pub normals : (v : Wire) → IsKnown known v → normal w.memory v ≡ normal u v
  pub normal_known : (v : Wire) → IsKnown known v → IsKnown known (normal w.memory v)
  pub holds : (c : Cell) → is_in (top w.views) c ≡ true → cell_at w.memory c ≡ cell_at u c
  pub held_known : (c : Cell) (v : Wire) → is_in (top w.views) c ≡ true → cell_at w.memory c ≡ Some v → IsKnown known v

abbrev pub AccessesAreShared : Type 0
AccessesAreShared = (program : Program) (known : Serials) (next : ℕ) (copy m : Memory) (w : World) (u : Memory) → IsShared program known next (top w.views) copy m w.memory u → AccessesAgree program known next copy m w u

-- ---- sets as runs

abbrev pub passes : (Cell → Bool) → SetRun → Bool
passes p r = nat_lt 0 r.len && list_all p (cells_of_run r)

pub record RunsAreSets : Type 0 where
  -- the runs of a set are the set again, and rise where it does
  pub back : (set : List Cell) → cells_of_runs (runs_of_cells set) ≡ set
  pub rise : (set : List Cell) → Rises cells set → rises_after None (runs_of_cells set) ≡ true
  -- no run is empty, and what holds of each cell of the set holds of those of each run
  pub each : (p : Cell → Bool) (set : List Cell) → ((c : Cell) → is_among cells set c ≡ true → p c ≡ true) → list_all (passes p) (runs_of_cells set) ≡ true

-- ---- answers

-- what the answer to a service makes of the user half's set is the whole run's: the cells of the dead leave, those of the blocks that are told join
pub record AnswersGrowSets : Type 0 where
  pub joins :
      (program : Program) (known : Serials) (touched : List Key) (a : Asked) (w w' : World) (results : List Wire) (copy m u : Memory)
      → IsServed program a w results w' → IsShared program known (next_serial w) (top w.views) copy m w.memory u
      → new_cells program touched (next_serial w) w'.memory ≡ told_cells program touched (told_news [] results u w'.memory)
  pub whole :
      (program : Program) (known : Serials) (touched : List Key) (a : Asked) (w w' : World) (results : List Wire) (copy m u : Memory)
      → IsServed program a w results w' → IsShared program known (next_serial w) (top w.views) copy m w.memory u
      → top (gained program touched (next_serial w) w').views
      ≡ living (agreed_after program (tells program [] results u w'.memory) u) (top w.views) ++ told_cells program touched (told_news [] results u w'.memory)
