-- What is done to a memory, how its locks are held aside.
use Rattle.std.proofs.Common.{◌≡◌, ℕ, zero, suc, ◌+◌, Bool, true, false, cond, ◌&&◌, ◌||◌, List, [], ◌∷◌, Option, Some, None, Result, Ok, Err, refl, sym, ◌∙◌, ap}
use Rattle.std.specs.Prelude.{◌==◌, map, nat_le, nat_lt, slice_get, slice_set}
use Rattle.std.specs.List.{list_all, list_any}
use Rattle.std.specs.Option.{option_map}
use Rattle.std.proofs.lemmas.Option.{slice_get-map}
use Rattle.mdr_core.specs.declared.program.Program.{Program}
use Rattle.mdr_core.specs.declared.stop.StopKind.{StopKind}
use Rattle.mdr_core.specs.declared.types.Ty.{Ty, out-Ty}
use Rattle.mdr_core.specs.declared.types.Ty.TheOpen.{Ty-F}
use Rattle.mdr_core.specs.declared.value.LockState.{LockState}
use Rattle.mdr_core.specs.declared.value.LockState.TheVariants.{Free, Spin, Sleep}
use Rattle.mdr_core.specs.Layout.{Leaf, chosen, zero_by}
use Rattle.mdr_meaning.specs.declared.wire.Wire.{Wire}
use Rattle.mdr_meaning.specs.declared.wire.Wire.TheVariants as wire
use Rattle.mdr_meaning.specs.declared.wire.WireView.{WireView}
use Rattle.mdr_meaning.specs.Values.{wire_of}
use Rattle.mdr_model.specs.declared.memory.Cell.{Cell}
use Rattle.mdr_model.specs.declared.memory.MemoryBlock.{MemoryBlock}
use Rattle.mdr_model.specs.declared.message.New.{New}
use Rattle.mdr_model.specs.Memory.{Memory, born_at, births, cell_at, cell_of, everywhere, is_live, killed, leaves_of, loaded, loaded_cell, loaded_from, loaded_value, normal, normal_if, put, reached, reached_by, swept, zero_block, zero_of}
use Rattle.mdr_model.proofs.MemoryLaws.{born_at-births, is_live-births}
use Rattle.mdr_plain.specs.Locks.{has_held, is_any_held, is_held, is_locked, lock_in}
use Rattle.mdr_plain.specs.Scripts.{block_cells}
use Rattle.mdr_plain.specs.Storage.{byte_at, bytes_from, cells_read, fresh, number_in, read}
use Rattle.mdr_kept.specs.Alike.{spun, spun_block, spun_lock, spun_memory}

-- a result that is mapped
abbrev pub mapped : {A B : Type 0} → (A → B) → Result A StopKind → Result B StopKind
mapped f (Ok x) = Ok (f x)
mapped f (Err kind) = Err kind

-- ---- births

births_spun : (m : Memory) → births (spun_memory m) ≡ births m
births_spun [] = refl
births_spun (b ∷ m) = ap (λ (ns : List New). b.born ∷ ns) (births_spun m)

pub born_at_spun : (m : Memory) (serial : ℕ) → born_at (spun_memory m) serial ≡ born_at m serial
born_at_spun m serial = born_at-births (spun_memory m) m serial (births_spun m)

pub live_spun : (m : Memory) (serial : ℕ) → is_live (spun_memory m) serial ≡ is_live m serial
live_spun m serial = is_live-births (spun_memory m) m serial (births_spun m)

-- ---- values

normal_if_spun : (b : Bool) (p : WireView) → spun (normal_if b p) ≡ normal_if b p
normal_if_spun true p = refl
normal_if_spun false p = refl

pub normal_spun : (m : Memory) (v : Wire) → normal (spun_memory m) (spun v) ≡ spun (normal m v)
unfolding normal
normal_spun m (wire.Ptr p) = ap (λ b. normal_if b p) (live_spun m p.serial) ∙ sym (normal_if_spun (is_live m p.serial) p)
normal_spun m (wire.Int k n) = refl
normal_spun m wire.Null = refl
normal_spun m wire.Dead = refl
normal_spun m (wire.Fn f) = refl
normal_spun m (wire.Lock s) = refl
normal_spun m wire.NoValue = refl

pub normals_spun : (m : Memory) (vs : List Wire) → map (normal (spun_memory m)) (map spun vs) ≡ map spun (map (normal m) vs)
normals_spun m [] = refl
normals_spun m (v ∷ vs) =
    let one : normal (spun_memory m) (spun v) ≡ spun (normal m v) = normal_spun m v in
    let rest : map (normal (spun_memory m)) (map spun vs) ≡ map spun (map (normal m) vs) = normals_spun m vs in
    λ i. one i ∷ rest i

-- ---- cells

pub cell_at_spun : (m : Memory) (c : Cell) → cell_at (spun_memory m) c ≡ option_map spun (cell_at m c)
unfolding cell_at
cell_at_spun [] c = refl
cell_at_spun (b ∷ m) c = of (b.born.serial == c.serial) (cell_at_spun m c)
  where
    of : (t : Bool) → cell_at (spun_memory m) c ≡ option_map spun (cell_at m c) → cond t (slice_get (map spun b.cells) c.index) (cell_at (spun_memory m) c) ≡ option_map spun (cond t (slice_get b.cells c.index) (cell_at m c))
    of true e = slice_get-map spun b.cells c.index
    of false e = e

set_spun : (vs : List Wire) (i : ℕ) (v : Wire) → slice_set (map spun vs) i (spun v) ≡ map spun (slice_set vs i v)
set_spun [] i v = refl
set_spun (x ∷ vs) zero v = refl
set_spun (x ∷ vs) (suc i) v = ap (λ (ws : List Wire). spun x ∷ ws) (set_spun vs i v)

pub put_spun : (m : Memory) (c : Cell) (v : Wire) → put (spun_memory m) c (spun v) ≡ spun_memory (put m c v)
unfolding put
put_spun [] c v = refl
put_spun (b ∷ m) c v = of (b.born.serial == c.serial) (put_spun m c v)
  where
    with_cells : List Wire → Memory
    with_cells vs = record b { cells = vs } ∷ spun_memory m

    of : (t : Bool) → put (spun_memory m) c (spun v) ≡ spun_memory (put m c v)
        → cond t (record (spun_block b) { cells = slice_set (map spun b.cells) c.index (spun v) } ∷ spun_memory m) (spun_block b ∷ put (spun_memory m) c (spun v)) ≡ spun_memory (cond t (record b { cells = slice_set b.cells c.index v } ∷ m) (b ∷ put m c v))
    of true e = ap with_cells (set_spun b.cells c.index v)
    of false e = ap (λ (n : Memory). spun_block b ∷ n) e

-- ---- accesses

pub reached_spun : (m : Memory) (p : Wire) → reached everywhere (spun_memory m) (spun p) ≡ reached everywhere m p
unfolding reached
reached_spun m (wire.Ptr p) = ap (λ b. reached_by b (nat_lt p.index p.count) true (cell_of p)) (live_spun m p.serial)
reached_spun m (wire.Int k n) = refl
reached_spun m wire.Null = refl
reached_spun m wire.Dead = refl
reached_spun m (wire.Fn f) = refl
reached_spun m (wire.Lock s) = refl
reached_spun m wire.NoValue = refl

value_spun : (v : Wire) → loaded_value (spun v) ≡ mapped spun (loaded_value v)
value_spun (wire.Ptr p) = refl
value_spun (wire.Int k n) = refl
value_spun wire.Null = refl
value_spun wire.Dead = refl
value_spun (wire.Fn f) = refl
value_spun (wire.Lock s) = refl
value_spun wire.NoValue = refl

held_spun : (o : Option Wire) → loaded_cell (option_map spun o) ≡ mapped spun (loaded_cell o)
held_spun None = refl
held_spun (Some v) = value_spun v

from_spun : (m : Memory) (r : Result Cell StopKind) → loaded_from (spun_memory m) r ≡ mapped spun (loaded_from m r)
from_spun m (Ok c) = ap loaded_cell (cell_at_spun m c) ∙ held_spun (cell_at m c)
from_spun m (Err kind) = refl

pub loaded_spun : (m : Memory) (p : Wire) → loaded everywhere (spun_memory m) (spun p) ≡ mapped spun (loaded everywhere m p)
unfolding loaded
loaded_spun m p = ap (loaded_from (spun_memory m)) (reached_spun m p) ∙ from_spun m (reached everywhere m p)

pub fresh_spun : (m : Memory) (v : Wire) → fresh (spun_memory m) (spun v) ≡ mapped spun (fresh m v)
unfolding fresh
fresh_spun m v = ap loaded_value (normal_spun m v) ∙ value_spun (normal m v)

number_spun : (o : Option Wire) → number_in (option_map spun o) ≡ number_in o
number_spun None = refl
number_spun (Some (wire.Ptr p)) = refl
number_spun (Some (wire.Int k n)) = refl
number_spun (Some wire.Null) = refl
number_spun (Some wire.Dead) = refl
number_spun (Some (wire.Fn f)) = refl
number_spun (Some (wire.Lock s)) = refl
number_spun (Some wire.NoValue) = refl

bytes_spun : (m : Memory) (cs : List Cell) → map (byte_at (spun_memory m)) cs ≡ map (byte_at m) cs
bytes_spun m [] = refl
bytes_spun m (c ∷ cs) =
    let one : byte_at (spun_memory m) c ≡ byte_at m c = ap number_in (cell_at_spun m c) ∙ number_spun (cell_at m c) in
    let rest : map (byte_at (spun_memory m)) cs ≡ map (byte_at m) cs = bytes_spun m cs in
    λ i. one i ∷ rest i

all_bytes_spun : (m : Memory) (cs : List Cell) (r : Result Cell StopKind) → bytes_from (spun_memory m) cs r ≡ bytes_from m cs r
all_bytes_spun m cs (Ok c) = ap (λ (bs : List ℕ). bytes_ok bs) (bytes_spun m cs)
  where
    bytes_ok : List ℕ → Result (List ℕ) StopKind
    bytes_ok bs = Ok bs
all_bytes_spun m cs (Err kind) = refl

pub read_spun : (m : Memory) (p : Wire) (n : ℕ) → read everywhere (spun_memory m) (spun p) n ≡ read everywhere m p n
unfolding read
read_spun m (wire.Ptr p) n =
    ap (λ b. bytes_from (spun_memory m) (cells_read p n) (reached_by b (nat_le (p.index + n) p.count) (list_all everywhere (cells_read p n)) (cell_of p))) (live_spun m p.serial)
    ∙ all_bytes_spun m (cells_read p n) _
read_spun m (wire.Int k i) n = refl
read_spun m wire.Null n = refl
read_spun m wire.Dead n = refl
read_spun m (wire.Fn f) n = refl
read_spun m (wire.Lock s) n = refl
read_spun m wire.NoValue n = refl

-- ---- births and deaths

zero_layer_spun : (ty : Ty-F Ty) → spun (wire_of (zero_by ty)) ≡ wire_of (zero_by ty)
zero_layer_spun (Ty-F.Int k) = refl
zero_layer_spun Ty-F.Lock = refl
zero_layer_spun (Ty-F.Struct s) = refl
zero_layer_spun (Ty-F.Ptr ty) = refl
zero_layer_spun Ty-F.VoidPtr = refl
zero_layer_spun (Ty-F.Fun ts) = refl
zero_layer_spun Ty-F.Void = refl

zeros_spun : (leaves : List Leaf) → map spun (map zero_of leaves) ≡ map zero_of leaves
zeros_spun [] = refl
zeros_spun (leaf ∷ leaves) =
    let one : spun (zero_of leaf) ≡ zero_of leaf = zero_layer_spun (out-Ty leaf.type) in
    let rest : map spun (map zero_of leaves) ≡ map zero_of leaves = zeros_spun leaves in
    λ i. one i ∷ rest i

pub zero_block_spun : (program : Program) (n : New) → spun_block (zero_block program n) ≡ zero_block program n
zero_block_spun program n = ap with_cells (zeros_spun (leaves_of program n))
  where
    with_cells : List Wire → MemoryBlock
    with_cells vs = record { born = n; cells = vs }

swept_spun : (serial : ℕ) (v : Wire) → swept serial (spun v) ≡ spun (swept serial v)
swept_spun serial (wire.Ptr p) = of (p.serial == serial)
  where
    of : (t : Bool) → cond t wire.Dead (wire.Ptr p) ≡ spun (cond t wire.Dead (wire.Ptr p))
    of true = refl
    of false = refl
swept_spun serial (wire.Int k n) = refl
swept_spun serial wire.Null = refl
swept_spun serial wire.Dead = refl
swept_spun serial (wire.Fn f) = refl
swept_spun serial (wire.Lock s) = refl
swept_spun serial wire.NoValue = refl

sweeps_spun : (serial : ℕ) (vs : List Wire) → map (swept serial) (map spun vs) ≡ map spun (map (swept serial) vs)
sweeps_spun serial [] = refl
sweeps_spun serial (v ∷ vs) =
    let one : swept serial (spun v) ≡ spun (swept serial v) = swept_spun serial v in
    let rest : map (swept serial) (map spun vs) ≡ map spun (map (swept serial) vs) = sweeps_spun serial vs in
    λ i. one i ∷ rest i

pub killed_spun : (serial : ℕ) (m : Memory) → killed serial (spun_memory m) ≡ spun_memory (killed serial m)
unfolding killed
killed_spun serial [] = refl
killed_spun serial (b ∷ m) = of (b.born.serial == serial) (killed_spun serial m)
  where
    behind : List Wire → Memory → Memory
    behind vs rest = record { born = b.born; cells = vs } ∷ rest

    both : killed serial (spun_memory m) ≡ spun_memory (killed serial m) → behind (map (swept serial) (map spun b.cells)) (killed serial (spun_memory m)) ≡ behind (map spun (map (swept serial) b.cells)) (spun_memory (killed serial m))
    both e =
        let cells : map (swept serial) (map spun b.cells) ≡ map spun (map (swept serial) b.cells) = sweeps_spun serial b.cells in
        λ i. behind (cells i) (e i)

    of : (t : Bool) → killed serial (spun_memory m) ≡ spun_memory (killed serial m)
        → cond t (killed serial (spun_memory m)) (behind (map (swept serial) (map spun b.cells)) (killed serial (spun_memory m))) ≡ spun_memory (cond t (killed serial m) (behind (map (swept serial) b.cells) (killed serial m)))
    of true e = e
    of false e = both e

-- ---- locks

state_held_spun : (s : LockState) → is_held (wire.Lock (spun_lock s)) ≡ is_held (wire.Lock s)
state_held_spun Free = refl
state_held_spun Spin = refl
state_held_spun Sleep = refl

is_held_spun : (v : Wire) → is_held (spun v) ≡ is_held v
is_held_spun (wire.Ptr p) = refl
is_held_spun (wire.Int k n) = refl
is_held_spun wire.Null = refl
is_held_spun wire.Dead = refl
is_held_spun (wire.Fn f) = refl
is_held_spun (wire.Lock s) = state_held_spun s
is_held_spun wire.NoValue = refl

any_held_spun : (vs : List Wire) → list_any is_held (map spun vs) ≡ list_any is_held vs
any_held_spun [] = refl
any_held_spun (v ∷ vs) =
    let one : is_held (spun v) ≡ is_held v = is_held_spun v in
    let rest : list_any is_held (map spun vs) ≡ list_any is_held vs = any_held_spun vs in
    λ i. one i || rest i

pub is_any_held_spun : (m : Memory) → is_any_held (spun_memory m) ≡ is_any_held m
unfolding is_any_held
is_any_held_spun [] = refl
is_any_held_spun (b ∷ m) =
    let one : has_held (spun_block b) ≡ has_held b = any_held_spun b.cells in
    let rest : list_any has_held (spun_memory m) ≡ list_any has_held m = is_any_held_spun m in
    λ i. one i || rest i

pub is_locked_spun : (serial : ℕ) (m : Memory) → is_locked serial (spun_memory m) ≡ is_locked serial m
unfolding is_locked
is_locked_spun serial [] = refl
is_locked_spun serial (b ∷ m) =
    let one : has_held (spun_block b) ≡ has_held b = any_held_spun b.cells in
    let rest : is_locked serial (spun_memory m) ≡ is_locked serial m = is_locked_spun serial m in
    λ i. (b.born.serial == serial && one i) || rest i

pub lock_in_spun : (o : Option Wire) → lock_in (option_map spun o) ≡ spun_lock (lock_in o)
lock_in_spun None = refl
lock_in_spun (Some (wire.Ptr p)) = refl
lock_in_spun (Some (wire.Int k n)) = refl
lock_in_spun (Some wire.Null) = refl
lock_in_spun (Some wire.Dead) = refl
lock_in_spun (Some (wire.Fn f)) = refl
lock_in_spun (Some (wire.Lock s)) = refl
lock_in_spun (Some wire.NoValue) = refl

-- ---- what a block shows

pub block_cells_spun : (m : Memory) (serial : ℕ) → block_cells (spun_memory m) serial ≡ map spun (block_cells m serial)
unfolding block_cells
block_cells_spun [] serial = refl
block_cells_spun (b ∷ m) serial = of (b.born.serial == serial) (block_cells_spun m serial)
  where
    of : (t : Bool) → block_cells (spun_memory m) serial ≡ map spun (block_cells m serial) → chosen t (map spun b.cells) (block_cells (spun_memory m) serial) ≡ map spun (chosen t b.cells (block_cells m serial))
    of true e = refl
    of false e = e
