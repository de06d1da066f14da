-- believed
-- What holds of a run's state at any time while a sound program's code runs: its memory is in order, each cell has a value that fits, and what is known of blocks is what was born.
use Rattle.std.specs.Prelude.{◌≡◌, ◌⊎◌, ℕ, ◌<◌, true, List, [], ◌∷◌, map, Some, slice_get}
use Rattle.std.specs.Option.{option_map}
use Rattle.mdr_core.specs.declared.program.Func.{Func}
use Rattle.mdr_core.specs.declared.program.GlobalDef.{GlobalDef}
use Rattle.mdr_core.specs.declared.program.Param.{Param}
use Rattle.mdr_core.specs.declared.program.Program.{Program}
use Rattle.mdr_core.specs.declared.types.Shape.{Shape}
use Rattle.mdr_core.specs.declared.types.Ty.{Ty, out-Ty}
use Rattle.mdr_core.specs.declared.types.Ty.TheOpen.{Ty-F}
use Rattle.mdr_core.specs.declared.types.Ty.TheVariants as type
use Rattle.mdr_core.specs.Layout.{Leaf}
use Rattle.mdr_device.specs.declared.rule.Effect.{Effect}
use Rattle.mdr_device.specs.declared.rule.Effect.TheVariants as effect
use Rattle.mdr_device.specs.declared.rule.Rule.{Rule}
use Rattle.mdr_device.specs.Machines.{Machine}
use Rattle.mdr_meaning.specs.declared.wire.Wire.{Wire}
use Rattle.mdr_meaning.specs.Bodies.{known_of}
use Rattle.mdr_meaning.specs.Fit.{Knowledge, Fits, global_shape}
use Rattle.mdr_meaning.specs.Within.{Uses}
use Rattle.mdr_model.specs.declared.memory.Cell.{Cell}
use Rattle.mdr_model.specs.declared.message.New.{New}
use Rattle.mdr_model.specs.Agreement.{IsBelow, IsFormed}
use Rattle.mdr_model.specs.Holds.{IsLockState}
use Rattle.mdr_model.specs.Memory.{Memory, born_at, cell_at, leaf_at}
use Rattle.mdr_model.specs.User.{has_shape}
use Rattle.mdr_plain.specs.Storage.{global_block, next_serial}
use Rattle.mdr_plain.specs.World.{World}
use Rattle.mdr_watched.specs.Order.{AllAreLive}

-- ---- a value in its place

-- a lock holds a lock state
abbrev pub IsLockIn : Ty → Wire → Type 0
IsLockIn ty v = (out-Ty ty ≡ Ty-F.Lock) × IsLockState v

-- and each other cell a value of its type
abbrev pub FitsCell : Program → Knowledge → Ty → Wire → Type 0
FitsCell program K ty v = Fits program K ty v ⊎ IsLockIn ty v

-- ---- memories

-- what a block was born as
abbrev pub shape_of : New → Shape
shape_of b = record { ty = b.ty; count = b.count }

-- how a global is born, whose serial is its number
abbrev pub born_global : Program → ℕ → GlobalDef → New
born_global program g def = (global_block (known_of program) g def).born

pub record IsMemory (program : Program) (K : Knowledge) (m : Memory) : Type 0 where
  -- serials rise, a block has as many cells as its shape says, and each pointer in a cell names a live block
  pub formed : IsFormed program m
  -- the globals live, in their shapes
  pub globals : (g : ℕ) (def : GlobalDef) → slice_get program.globals g ≡ Some def → born_at m g ≡ Some (born_global program g def)
  -- each live block has a type of the table and 1 to 65,536 cells
  pub shapes : (serial : ℕ) (b : New) → born_at m serial ≡ Some b → has_shape program b ≡ true
  -- and is known as it was born
  pub known : (serial : ℕ) (b : New) → born_at m serial ≡ Some b → K.blocks serial ≡ Some (shape_of b)
  -- each cell holds what fits: a data pointer is null, dead or views a part of a known block; a function's address is taken
  pub fit : (c : Cell) (b : New) (leaf : Leaf) (v : Wire) → born_at m c.serial ≡ Some b → leaf_at program b c.index ≡ Some leaf → cell_at m c ≡ Some v → FitsCell program K leaf.type v

-- what is known is just what was born: the blocks with serials below the next one, whether they live or not
pub record KnowsBirths (K : Knowledge) (next : ℕ) : Type 0 where
  pub told : (serial : ℕ) (shape : Shape) → K.blocks serial ≡ Some shape → serial < next
  pub each : (serial : ℕ) → serial < next → (shape : Shape) × (K.blocks serial ≡ Some shape)

-- ---- what runs around code

-- a function that handles interrupts: it takes and gives nothing, and `request_irq` may be given its name
pub record IsHandler (program : Program) (uses : Uses) (f : ℕ) : Type 0 where
  pub func : Func
  pub names : slice_get program.funcs f ≡ Some func
  pub types : func.result ∷ map (λ (p : Param). p.ty) func.params ≡ type.Void ∷ []
  pub handles : uses.handles f ≡ true

-- a word of 32 bits
abbrev pub IsWord : ℕ → Type 0
IsWord n = n < 4294967296

abbrev pub PutsWord : Effect → Type 0
PutsWord (effect.Set r mask) = IsWord mask
PutsWord (effect.Clear r mask) = Unit {0}
PutsWord (effect.Put r word) = IsWord word
PutsWord (effect.CopyTo a b) = Unit {0}
PutsWord (effect.Start c n) = Unit {0}
PutsWord effect.Raise = Unit {0}
PutsWord effect.Lower = Unit {0}

-- rules put words into registers alone
abbrev pub PutWords : List Rule → Type 0
PutWords rules = (i j : ℕ) (rule : Rule) (e : Effect) → slice_get rules i ≡ Some rule → slice_get rule.effects j ≡ Some e → PutsWord e

abbrev pub AreWords : List ℕ → Type 0
AreWords registers = (r word : ℕ) → slice_get registers r ≡ Some word → IsWord word

-- each register holds a word
pub record IsDevice (d : Machine) : Type 0 where
  pub registers : AreWords d.state.registers
  pub rules : PutWords d.rules

-- ---- a run's state

pub record Holds (program : Program) (K : Knowledge) (w : World) : Type 0 where
  pub memory : IsMemory program K w.memory
  pub births : KnowsBirths K (next_serial w)
  pub low : IsBelow (next_serial w) w.memory
  -- each visible cell is of a live block
  pub views : AllAreLive w.memory w.views
  pub device : IsDevice w.clock.device
  pub handler : (f : ℕ) → w.kept.handler ≡ Some f → IsHandler program K.uses f

-- what is known when a run begins: the globals
abbrev pub first_knowledge : Program → Uses → Knowledge
first_knowledge program uses = record { blocks = λ serial. option_map (global_shape program) (slice_get program.globals serial); uses = uses }
