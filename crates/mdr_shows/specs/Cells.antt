-- for proofs
-- What is asked of a set of visible cells, and of a world in which a service is done.
use Rattle.std.specs.Prelude.{◌≡◌, ℕ, Bool, true, false, List, [], ◌∷◌, ◌++◌, map, Option, Some, None, Result, Ok, Err, length, nat_lt, slice_get}
use Rattle.mdr_access.specs.KeyOrder.{keys}
use Rattle.mdr_core.specs.declared.plan.Key.{Key}
use Rattle.mdr_core.specs.declared.program.GlobalDef.{GlobalDef}
use Rattle.mdr_core.specs.declared.program.Program.{Program}
use Rattle.mdr_core.specs.declared.stop.StopKind.{StopKind}
use Rattle.mdr_core.specs.Layout.{Leaf}
use Rattle.mdr_core.specs.Services.{Service, Combolock, Combounlock, service_numbered}
use Rattle.mdr_core.specs.Suited.{is_key, is_lock}
use Rattle.mdr_extents.specs.CellOrder.{cells}
use Rattle.mdr_extents.specs.Reaching.{Root, Roots, counts, own_cells}
use Rattle.mdr_meaning.specs.declared.wire.Wire.{Wire}
use Rattle.mdr_meaning.specs.Tree.{Asked}
use Rattle.mdr_meaning.specs.Values.{first_of}
use Rattle.mdr_model.specs.declared.memory.Cell.{Cell}
use Rattle.mdr_model.specs.declared.message.New.{New}
use Rattle.mdr_model.specs.Agreement.{IsFormed, IsShared, Serials}
use Rattle.mdr_model.specs.Copies.{is_named}
use Rattle.mdr_model.specs.Memory.{Memory, born_at, everywhere, is_live, leaf_at, reached, zero_block}
use Rattle.mdr_paths.specs.Paths.{Rises, is_in}
use Rattle.mdr_plain.specs.Services.{as_now, served}
use Rattle.mdr_plain.specs.World.{World, Ended}
use Rattle.mdr_watched.specs.Order.{IsInOrder}

-- ---- sets

-- the cells of a set rise, and each is one of a live block with its key among the touched ones
pub record IsSetOf (program : Program) (touched : List Key) (m : Memory) (set : List Cell) : Type 0 where
  pub rises : Rises cells set
  pub counted : (c : Cell) → is_in cells set c ≡ true → counts program touched m c ≡ true

-- ---- what is passed

abbrev pub values_in : List Root → List Wire
values_in roots = map (λ (r : Root). r.value) roots

-- a live block that a root names is named by one of these values
abbrev pub NameRoots : List Wire → Roots → Memory → Type 0
NameRoots values roots m = (serial : ℕ) → is_live m serial ≡ true → is_named (values_in roots.values) serial ≡ true → is_named values serial ≡ true

-- of what lives, the copy has the globals, and the blocks of the set from which a new one is taken
pub record HasBegun (program : Program) (old : List Cell) (copy m : Memory) : Type 0 where
  pub known : (c : Cell) → is_in cells old c ≡ true → is_live m c.serial ≡ true → is_live copy c.serial ≡ true
  pub globals : (serial : ℕ) → nat_lt serial (length program.globals) ≡ true → is_live m serial ≡ true → is_live copy serial ≡ true

-- ---- locks

abbrev pub is_lock_leaf : Option Leaf → Bool
is_lock_leaf None = false
is_lock_leaf (Some leaf) = is_lock leaf.type

abbrev pub is_lock_in : Program → Option New → (index : ℕ) → Bool
is_lock_in program None index = false
is_lock_in program (Some block) index = is_lock_leaf (leaf_at program block index)

-- the cell is a lock, by its own type
abbrev pub is_lock_at : Program → Memory → Cell → Bool
is_lock_at program m c = is_lock_in program (born_at m c.serial) c.index

-- no cell of the set is a lock
abbrev pub HasNoLocks : Program → Memory → List Cell → Type 0
HasNoLocks program m set = (c : Cell) → is_in cells set c ≡ true → is_lock_at program m c ≡ false

-- each of these keys names what is no lock
abbrev pub AreOpenKeys : Program → List Key → Type 0
AreOpenKeys program touched = (k : Key) → is_in keys touched k ≡ true → is_key program k ≡ true

-- a block with the serial of a global has the global's type
abbrev pub GlobalsAreTyped : Program → Memory → Type 0
GlobalsAreTyped program m = (serial : ℕ) (block : New) (g : GlobalDef) → born_at m serial ≡ Some block → slice_get program.globals serial ≡ Some g → slice_get program.types block.ty ≡ Some g.ty

-- ---- services

-- a service that takes or frees a lock
abbrev pub takes_lock : Option Service → Bool
takes_lock (Some Combolock) = true
takes_lock (Some Combounlock) = true
takes_lock _ = false

-- where a lock is taken or freed, the pointer that is passed names a lock's cell
abbrev pub NamesLock : Program → Asked → World → Type 0
NamesLock program a w = takes_lock (service_numbered a.service) ≡ true → (c : Cell) → reached everywhere w.memory (first_of (as_now w a).args) ≡ Ok c → is_lock_at program w.memory c ≡ true

-- in a world in order a service gave these results, and left this world
pub record IsServed (program : Program) (a : Asked) (w : World) (results : List Wire) (w' : World) : Type 0 where
  pub order : IsInOrder w
  pub formed : IsFormed program w.memory
  pub is : served program a w ≡ Ended results w'

-- the cells that blocks which are told add to a set
unfoldable pub told_cells : Program → (touched : List Key) → List New → List Cell
told_cells program touched [] = []
told_cells program touched (n ∷ news) = own_cells program touched (zero_block program n) ++ told_cells program touched news

-- ---- stores

-- a store stops in both memories alike, or goes in both, and keeps what they share
pub data StoresAlike (program : Program) (known : Serials) (next : ℕ) (view : List Cell) (copy m : Memory) (whole user : Result Memory StopKind) : Type 0 where
  Stops : (kind : StopKind) (whole_is : whole ≡ Err kind) (user_is : user ≡ Err kind) → StoresAlike program known next view copy m whole user
  Goes : (w u : Memory) (whole_is : whole ≡ Ok w) (user_is : user ≡ Ok u) (shared : IsShared program known next view copy m w u) → StoresAlike program known next view copy m whole user
