-- for proofs
-- A small run for worked examples: a tree folded over a memory that is a list of blocks, with the services that make and free objects.
use Rattle.std.specs.Prelude.{ℕ, suc, ◌+◌, ◌==◌, ◌||◌, nat_lt, Bool, true, false, List, [], ◌∷◌, ◌++◌, length, map, Option, Some, None, Result, Ok, Err, slice_get, slice_set}
use Rattle.mdr_core.specs.declared.place.At.{At}
use Rattle.mdr_core.specs.declared.stop.StopKind.{StopKind}
use Rattle.mdr_core.specs.declared.stop.StopKind.TheVariants as stop
use Rattle.mdr_core.specs.declared.types.Ty.{Ty, out-Ty}
use Rattle.mdr_core.specs.declared.types.Ty.TheOpen.{Ty-F}
use Rattle.mdr_core.specs.declared.program.Program.{Program}
use Rattle.mdr_core.specs.Kinds.{kind_number}
use Rattle.mdr_core.specs.Layout.{chosen, Leaf, cells_at, repeated, zero_value}
use Rattle.mdr_meaning.specs.declared.shape.Shape64.{Shape64}
use Rattle.mdr_meaning.specs.declared.wire.Wire.{Wire}
use Rattle.mdr_meaning.specs.declared.wire.Wire.TheVariants as wire
use Rattle.mdr_meaning.specs.declared.wire.WireView.{WireView}
use Rattle.mdr_meaning.specs.Tree.{Asked, Tree}
use Rattle.mdr_meaning.specs.Values.{natural, wire_of}

-- ---- a memory

-- blocks by serial, the serials of the dead in the groups in which they died, the ticks and the services asked for
pub record Mem : Type 0 where
  pub blocks : List (List Wire)
  pub deaths : List (List ℕ)
  pub ticks : ℕ
  pub asked : List ℕ

abbrev pub mem : List (List Wire) → List (List ℕ) → (ticks : ℕ) → (asked : List ℕ) → Mem
mem blocks deaths ticks asked = record { blocks = blocks; deaths = deaths; ticks = ticks; asked = asked }

abbrev pub is_among : ℕ → List ℕ → Bool
is_among n [] = false
is_among n (m ∷ ms) = n == m || is_among n ms

abbrev pub is_dead : ℕ → List (List ℕ) → Bool
is_dead n [] = false
is_dead n (g ∷ gs) = is_among n g || is_dead n gs

abbrev pub block_by : Option (List Wire) → List Wire
block_by None = []
block_by (Some b) = b

abbrev pub block : Mem → ℕ → List Wire
block m serial = block_by (slice_get m.blocks serial)

-- the cell of a scalar, and the stops of an access in their order
abbrev pub cell : WireView → ℕ
cell v = v.first + v.index

abbrev pub reached_by : (dead inside : Bool) → WireView → Result WireView StopKind
reached_by true inside v = Err stop.Dead
reached_by false false v = Err stop.Bounds
reached_by false true v = Ok v

abbrev pub reached : Mem → Wire → Result WireView StopKind
reached m (wire.Ptr v) = reached_by (is_dead v.serial m.deaths) (nat_lt v.index v.count) v
reached m wire.Dead = Err stop.Dead
reached m _ = Err stop.Null

-- a dead pointer isn't loaded
abbrev pub alive : Mem → Wire → Result Wire StopKind
alive m (wire.Ptr v) = chosen (is_dead v.serial m.deaths) (Err stop.Dead) (Ok (wire.Ptr v))
alive m wire.Dead = Err stop.Dead
alive m v = Ok v

abbrev pub held : Option Wire → Wire
held None = wire.NoValue
held (Some v) = v

abbrev pub with_cell : Mem → WireView → Wire → Mem
with_cell m v x = mem (slice_set m.blocks v.serial (slice_set (block m v.serial) (cell v) x)) m.deaths m.ticks m.asked

abbrev pub ticked : Mem → Mem
ticked m = mem m.blocks m.deaths (suc m.ticks) m.asked

abbrev pub noted : ℕ → Mem → Mem
noted n m = mem m.blocks m.deaths m.ticks (m.asked ++ (n ∷ []))

abbrev pub zero_of : Leaf → Wire
zero_of leaf = wire_of (zero_value leaf.type)

abbrev pub zeros : Program → Shape64 → List Wire
zeros program s = map zero_of (repeated s.count (cells_at program s.ty))

abbrev pub new_blocks : Program → List Shape64 → List (List Wire)
new_blocks program [] = []
new_blocks program (s ∷ shapes) = zeros program s ∷ new_blocks program shapes

abbrev pub new_pointers : ℕ → List Shape64 → List Wire
new_pointers serial [] = []
new_pointers serial (s ∷ shapes) = wire.Ptr (record { serial = serial; first = 0; ty = s.ty; count = s.count; index = 0 }) ∷ new_pointers (suc serial) shapes

abbrev pub born : Program → List Shape64 → Mem → Mem
born program shapes m = mem (m.blocks ++ new_blocks program shapes) m.deaths m.ticks m.asked

abbrev pub serial_of : Wire → ℕ
serial_of (wire.Ptr v) = v.serial
serial_of v = 0

abbrev pub died : List Wire → Mem → Mem
died ps m = mem m.blocks (m.deaths ++ (map serial_of ps ∷ [])) m.ticks m.asked

-- ---- a run

pub data Ending : Type 0 where
  Ended : (value : Wire) → Ending
  Stopped : (kind : StopKind) (at : At) → Ending
  Crossed : (func : ℕ) (args : List Wire) (depth : ℕ) → Ending
  Nothing : Ending

pub record Ran : Type 0 where
  pub ending : Ending
  pub memory : Mem

abbrev pub ran : Ending → Mem → Ran
ran ending m = record { ending = ending; memory = m }

abbrev pub on_view : Result WireView StopKind → At → Mem → (WireView → Ran) → Ran
on_view (Ok v) at m go = go v
on_view (Err kind) at m go = ran (Stopped kind at) m

abbrev pub on_value : Result Wire StopKind → At → Mem → (Wire → Ran) → Ran
on_value (Ok v) at m go = go v
on_value (Err kind) at m go = ran (Stopped kind at) m

-- services 3 and 14 free objects, and any that has shapes makes some
abbrev pub served : Program → Asked → Mem → Mem
served program a m = chosen (a.service == 3 || a.service == 14) (died a.args (noted a.service m)) (born program a.shapes (noted a.service m))

abbrev pub run : Program → Tree → Mem → Ran
run program Tree.Idle m = ran Nothing m
run program (Tree.Waits k) m = ran Nothing m
run program (Tree.Done v t) m = ran (Ended v) m
run program (Tree.Stop kind at) m = ran (Stopped kind at) m
run program (Tree.Tick at d t) m = run program t (ticked m)
run program (Tree.Load at p k) m = on_view (reached m p) at m (λ v. on_value (alive m (held (slice_get (block m v.serial) (cell v)))) at m (λ x. run program (k x) m))
run program (Tree.Store at p x t) m = on_view (reached m p) at m (λ v. run program t (with_cell m v x))
run program (Tree.Read at p n k) m = on_view (reached m p) at m (λ v. run program (k (map natural (block m v.serial))) m)
run program (Tree.Fresh at v k) m = on_value (alive m v) at m (λ x. run program (k x) m)
run program (Tree.Birth at shapes k) m = run program (k (new_pointers (length m.blocks) shapes)) (born program shapes m)
run program (Tree.Death at ps t) m = run program t (died ps m)
run program (Tree.Ask a k) m = run program (k (new_pointers (length m.blocks) a.shapes)) (served program a m)
run program (Tree.Cross at func args depth k) m = ran (Crossed func args depth) m

-- ---- the numbers of the types that the examples have: the kinds, the lock, two structs, and one pointer type

abbrev pub number_by : Ty-F Ty → ℕ
number_by (Ty-F.Int k) = kind_number k
number_by Ty-F.Lock = 8
number_by (Ty-F.Struct s) = 9 + s
number_by (Ty-F.Ptr t) = 11
number_by Ty-F.VoidPtr = 12
number_by (Ty-F.Fun ts) = 13
number_by Ty-F.Void = 14

abbrev pub small_number : Ty → ℕ
small_number ty = number_by (out-Ty ty)
