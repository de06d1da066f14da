-- Accesses of user code are the same on both sides, and keep the relation.
use Rattle.std.proofs.Common.{◌≡◌, ℕ, zero, suc, ◌+◌, ◌-◌, ◌<◌, Bool, true, false, Option, Some, None, List, Result, Ok, Err, length, refl, sym, ◌∙◌, ap, subst, arith}
use Rattle.std.specs.Prelude.{is_some, nat_le, nat_lt}
use Rattle.std.specs.List.{list_all}
use Rattle.mdr_core.specs.declared.stop.StopKind.{StopKind}
use Rattle.mdr_core.specs.declared.stop.StopKind.TheVariants as stop
use Rattle.mdr_core.specs.declared.types.Ty.{Ty}
use Rattle.mdr_device.specs.Machines.{Machine, advanced as passed, ticked}
use Rattle.mdr_holds.proofs.Accesses.{loaded_fits, read_long as bytes_long, fresh_is as fresh_was, stored_later}
use Rattle.mdr_holds.proofs.Devices.{device_ticked}
use Rattle.mdr_holds.proofs.Fitting.{fits_narrows}
use Rattle.mdr_holds.proofs.Objects.{objects_stay}
use Rattle.mdr_holds.specs.Leaving.{Later}
use Rattle.mdr_meaning.proofs.GrowthLaws.{fits_grows}
use Rattle.mdr_meaning.specs.declared.wire.Wire.{Wire}
use Rattle.mdr_meaning.specs.declared.wire.Wire.TheVariants as wire
use Rattle.mdr_meaning.specs.Fair.{LoadsScalar}
use Rattle.mdr_meaning.specs.Fit.{Fits, IsAddress, IsResult, Knowledge, PointsTo}
use Rattle.mdr_meaning.specs.Within.{Uses}
use Rattle.mdr_model.specs.declared.memory.Cell.{Cell}
use Rattle.mdr_model.specs.declared.message.New.{New}
use Rattle.mdr_model.specs.Agreement.{IsKnown, IsShared}
use Rattle.mdr_model.specs.Memory.{Memory, born_at, cell_at, cell_of, is_live, loaded, loaded_cell, loaded_from, loaded_value, normal, put, reached, reached_by, stored, stored_into}
use Rattle.mdr_model.specs.ReplyFaults.{user_stop}
use Rattle.mdr_model.specs.Sets.{is_in}
use Rattle.mdr_plain.specs.Storage.{bytes_from, cells_read, fresh, next_serial, read}
use Rattle.mdr_plain.specs.World.{Clock, World, advanced}
use Rattle.mdr_serves.proofs.Known.{known_some, pointer_grows, pointer_known, result_known, value_known}
use Rattle.mdr_serves.proofs.Relations.{IsUserStop, Rel, known_by, used}
use Rattle.mdr_shows.proofs.Accesses.{accesses_agree}
use Rattle.mdr_shows.proofs.Open.{set_stored}
use Rattle.mdr_shows.specs.Cells.{Goes, IsSetOf, Stops, StoresAlike}
use Rattle.mdr_shows.specs.Laws.{AccessesAgree}
use Rattle.mdr_split.specs.State.{Kernel}
use Rattle.mdr_watched.specs.Driver.{Driver, touched_by}
use Rattle.mdr_watched.specs.Views.{may_touch, top}

-- what both sides share of accesses
pub shared : {d : Driver} {uses : Uses} {budget t : ℕ} {K KU : Knowledge} {live : List Wire} {k : Kernel} {w : World} {um : Memory} → Rel d uses budget t K KU live k w um
    → AccessesAgree d.program (known_by KU) (next_serial w) k.agreed k.world.memory w um
shared {d = d} {KU = KU} {k = k} {w = w} {um = um} r = accesses_agree d.program (known_by KU) (next_serial w) k.agreed k.world.memory w um r.memories

-- ---- ticks

-- one tick before others is one behind them
tick_last : (n : ℕ) (m : Machine) → ticked (passed n m) ≡ passed n (ticked m)
tick_last zero m = refl
tick_last (suc n) m = tick_last n (ticked m)

pub same_clock : {c e : Clock} → c.ticks ≡ e.ticks → c.rest ≡ e.rest → c.device ≡ e.device → c ≡ e
same_clock p q s = λ i. record { ticks = p i; rest = q i; device = s i }

-- a tick of user code
pub ticks : {K : Knowledge} (d : Driver) (uses : Uses) (budget t : ℕ) (KU : Knowledge) (live : List Wire) (k : Kernel) (w : World) (um : Memory) (q : ℕ) → Rel d uses budget t K KU live k w um → w.clock.rest ≡ suc q
    → Rel d uses budget t K KU live k (record w { clock = advanced 1 w.clock }) um
ticks d uses budget t KU live k w um q r e = record {
  sound = r.sound;
  grows = r.grows;
  uses_are = r.uses_are;
  globals = r.globals;
  holds = record { memory = r.holds.memory; births = r.holds.births; low = r.holds.low; views = r.holds.views; device = device_ticked w.clock.device r.holds.device; handler = r.holds.handler };
  memories = r.memories;
  set = r.set;
  objects_are = r.objects_are;
  same_lives = r.same_lives;
  same_views = r.same_views;
  same_kept = r.same_kept;
  clock = clock;
  total = omega (arith, r.total, e);
}
  where
    n : ℕ
    n = used k w

    ticks_are : w.clock.ticks ≡ k.world.clock.ticks + n
    ticks_are = ap (λ (c : Clock). c.ticks) r.clock

    rest_is : w.clock.rest ≡ k.world.clock.rest - n
    rest_is = ap (λ (c : Clock). c.rest) r.clock

    device_is : w.clock.device ≡ passed n k.world.clock.device
    device_is = ap (λ (c : Clock). c.device) r.clock

    one_more : k.world.clock.rest - (w.clock.rest - 1) ≡ suc n
    one_more = omega (arith, rest_is, e)

    after : advanced 1 w.clock ≡ advanced (suc n) k.world.clock
    after = same_clock (omega (arith, ticks_are)) (omega (arith, rest_is, e)) (ap ticked device_is ∙ tick_last n k.world.clock.device)

    clock : advanced 1 w.clock ≡ advanced (k.world.clock.rest - (w.clock.rest - 1)) k.world.clock
    clock = after ∙ ap (λ (m : ℕ). advanced m k.world.clock) (sym one_more)

-- ---- stops

stop_is : {A : Type 0} (x kind : StopKind) → ◌≡◌ {A = Result A StopKind} (Err x) (Err kind) → IsUserStop x → IsUserStop kind
stop_is x kind e h = let same : x ≡ kind = cc in subst (λ (s : StopKind). IsUserStop s) same h

null_stop : IsUserStop stop.Null
unfolding user_stop
null_stop = record { told = refl; no_ticks = refl }

dead_stop : IsUserStop stop.Dead
unfolding user_stop
dead_stop = record { told = refl; no_ticks = refl }

bounds_stop : IsUserStop stop.Bounds
unfolding user_stop
bounds_stop = record { told = refl; no_ticks = refl }

annotation_stop : IsUserStop stop.Annotation
unfolding user_stop
annotation_stop = record { told = refl; no_ticks = refl }

tests_stop : (a b c : Bool) (x : Cell) (kind : StopKind) → reached_by a b c x ≡ Err kind → IsUserStop kind
tests_stop false b c x kind e = stop_is stop.Dead kind e dead_stop
tests_stop true false c x kind e = stop_is stop.Bounds kind e bounds_stop
tests_stop true true false x kind e = stop_is stop.Annotation kind e annotation_stop
tests_stop true true true x kind e = absurd cc

reach_stop : (allowed : Cell → Bool) (m : Memory) (p : Wire) (kind : StopKind) → reached allowed m p ≡ Err kind → IsUserStop kind
unfolding reached
reach_stop allowed m (wire.Ptr p) kind e = tests_stop (is_live m p.serial) (nat_lt p.index p.count) (allowed (cell_of p)) (cell_of p) kind e
reach_stop allowed m wire.Dead kind e = stop_is stop.Dead kind e dead_stop
reach_stop allowed m wire.Null kind e = stop_is stop.Null kind e null_stop
reach_stop allowed m (wire.Int k n) kind e = stop_is stop.Null kind e null_stop
reach_stop allowed m (wire.Fn f) kind e = stop_is stop.Null kind e null_stop
reach_stop allowed m (wire.Lock s) kind e = stop_is stop.Null kind e null_stop
reach_stop allowed m wire.NoValue kind e = stop_is stop.Null kind e null_stop

value_stop : (v : Wire) (kind : StopKind) → loaded_value v ≡ Err kind → IsUserStop kind
value_stop wire.Dead kind e = stop_is stop.Dead kind e dead_stop
value_stop (wire.Int k n) kind e = absurd cc
value_stop wire.Null kind e = absurd cc
value_stop (wire.Ptr p) kind e = absurd cc
value_stop (wire.Fn f) kind e = absurd cc
value_stop (wire.Lock s) kind e = absurd cc
value_stop wire.NoValue kind e = absurd cc

cell_stop : (o : Option Wire) (kind : StopKind) → loaded_cell o ≡ Err kind → IsUserStop kind
cell_stop None kind e = stop_is stop.Dead kind e dead_stop
cell_stop (Some v) kind e = value_stop v kind e

-- ---- loads

pub load_same : {K : Knowledge} (d : Driver) (uses : Uses) (budget t : ℕ) (KU : Knowledge) (live : List Wire) (k : Kernel) (w : World) (um : Memory) (ty : Ty) (p : Wire) → Rel d uses budget t K KU live k w um → PointsTo d.program KU ty p
    → loaded (is_in (top w.views)) um p ≡ loaded (may_touch w) w.memory p
load_same d uses budget t KU live k w um ty p r points = sym ((shared r).loads p (pointer_known d.program KU _ p points))

pub load_fits : {K : Knowledge} (d : Driver) (uses : Uses) (budget t : ℕ) (KU : Knowledge) (live : List Wire) (k : Kernel) (w : World) (um : Memory) (ty : Ty) (p v : Wire) → Rel d uses budget t K KU live k w um → PointsTo d.program KU ty p → LoadsScalar ty p
    → loaded (may_touch w) w.memory p ≡ Ok v → Fits d.program KU ty v
load_fits {K = K} d uses budget t KU live k w um ty p v r points scalar e =
    fits_narrows d.program KU K r.grows ty v
    (λ q is. known_some KU q (subst (λ (x : Wire). IsKnown (known_by KU) x) is ((shared r).loaded_known p v (pointer_known d.program KU _ p points) e)))
    (loaded_fits d.program r.sound K w r.holds (may_touch w) ty p v (pointer_grows d.program KU K r.grows _ p points) scalar e)

pub load_stop : (allowed : Cell → Bool) (m : Memory) (p : Wire) (kind : StopKind) → loaded allowed m p ≡ Err kind → IsUserStop kind
unfolding loaded
load_stop allowed m p kind e = of (reached allowed m p) refl e
  where
    of : (x : Result Cell StopKind) → reached allowed m p ≡ x → loaded_from m x ≡ Err kind → IsUserStop kind
    of (Ok c) q l = cell_stop (cell_at m c) kind l
    of (Err s) q l = stop_is s kind l (reach_stop allowed m p s q)

-- ---- stores

-- a store stops on both sides, or goes on both and keeps the relation
pub data Stores (d : Driver) (uses : Uses) (budget t : ℕ) (K KU : Knowledge) (live : List Wire) (k : Kernel) (w : World) (um : Memory) (p v : Wire) : Type 0 where
  goes : (m m' : Memory) → stored (is_in (top w.views)) um p v ≡ Ok m' → stored (may_touch w) w.memory p v ≡ Ok m → Rel d uses budget t K KU live k (record w { memory = m }) m' → Stores d uses budget t K KU live k w um p v
  stops : (kind : StopKind) → stored (is_in (top w.views)) um p v ≡ Err kind → stored (may_touch w) w.memory p v ≡ Err kind → IsUserStop kind → Stores d uses budget t K KU live k w um p v

pub is_born : (m : Memory) (serial : ℕ) (b : New) → born_at m serial ≡ Some b → is_live m serial ≡ true
unfolding is_live
is_born m serial b e = ap (λ (o : Option New). is_some o) e

store_stop : (allowed : Cell → Bool) (m : Memory) (p v : Wire) (kind : StopKind) → stored allowed m p v ≡ Err kind → IsUserStop kind
unfolding stored
store_stop allowed m p v kind e = of (reached allowed m p) refl e
  where
    of : (x : Result Cell StopKind) → reached allowed m p ≡ x → stored_into m v x ≡ Err kind → IsUserStop kind
    of (Ok c) q l = absurd cc
    of (Err s) q l = stop_is s kind l (reach_stop allowed m p s q)

pub stored_is : (allowed : Cell → Bool) (m : Memory) (p v : Wire) (m' : Memory) (Of : Memory → Type 0) → ((c : Cell) (x : Wire) → Of (put m c x)) → stored allowed m p v ≡ Ok m' → Of m'
unfolding stored
stored_is allowed m p v m' Of each e = of (reached allowed m p) e
  where
    of : (x : Result Cell StopKind) → stored_into m v x ≡ Ok m' → Of m'
    of (Ok c) l = let same : put m c (normal m v) ≡ m' = cc in subst Of same (each c (normal m v))
    of (Err s) l = absurd cc

pub store : {K : Knowledge} (d : Driver) (uses : Uses) (budget t : ℕ) (KU : Knowledge) (live : List Wire) (k : Kernel) (w : World) (um : Memory) (ty : Ty) (p v : Wire) → Rel d uses budget t K KU live k w um → PointsTo d.program KU ty p → Fits d.program KU ty v
    → Stores d uses budget t K KU live k w um p v
store {K = K} d uses budget t KU live k w um ty p v r points fits = of ((shared r).stores p v (pointer_known d.program KU _ p points) (value_known d.program KU ty v fits))
  where
    kept : (m : Memory) → stored (may_touch w) w.memory p v ≡ Ok m → Later d.program (next_serial w) K w K (record w { memory = m })
    kept m e = stored_later d.program r.sound K w r.holds (may_touch w) (next_serial w) ty p v m (pointer_grows d.program KU K r.grows _ p points) (fits_grows d.program KU K r.grows ty v fits) e

    below : (serial : ℕ) (b : New) → born_at w.memory serial ≡ Some b → serial < next_serial w
    below serial b e = r.holds.low serial (is_born w.memory serial b e)

    rel : (m m' : Memory) → stored (may_touch w) w.memory p v ≡ Ok m → IsShared d.program (known_by KU) (next_serial w) (top w.views) k.agreed k.world.memory m m' → Rel d uses budget t K KU live k (record w { memory = m }) m'
    rel m m' e s = record {
      sound = r.sound;
      grows = r.grows;
      uses_are = r.uses_are;
      globals = r.globals;
      holds = (kept m e).holds;
      memories = s;
      set = stored_is (may_touch w) w.memory p v m (λ (x : Memory). IsSetOf d.program (touched_by d.plan t) x (top w.views)) (λ c x. set_stored d.program (touched_by d.plan t) w.memory (top w.views) c x r.set) e;
      objects_are = objects_stay w.memory m (λ serial b born heap. (kept m e).stays serial b (below serial b born) born heap) 0 live r.objects_are;
      same_lives = r.same_lives;
      same_views = r.same_views;
      same_kept = r.same_kept;
      clock = r.clock;
      total = r.total;
    }

    of : StoresAlike d.program (known_by KU) (next_serial w) (top w.views) k.agreed k.world.memory (stored (may_touch w) w.memory p v) (stored (is_in (top w.views)) um p v) → Stores d uses budget t K KU live k w um p v
    of (Stops kind whole user) = stops kind user whole (store_stop (may_touch w) w.memory p v kind whole)
    of (Goes m m' whole user s) = goes m m' user whole (rel m m' whole s)

-- ---- reads of many bytes

pub read_same : {K : Knowledge} (d : Driver) (uses : Uses) (budget t : ℕ) (KU : Knowledge) (live : List Wire) (k : Kernel) (w : World) (um : Memory) (ty : Ty) (p : Wire) (n : ℕ) → Rel d uses budget t K KU live k w um → PointsTo d.program KU ty p
    → read (is_in (top w.views)) um p n ≡ read (may_touch w) w.memory p n
read_same d uses budget t KU live k w um ty p n r points = sym ((shared r).reads p n (pointer_known d.program KU _ p points))

pub read_long : (allowed : Cell → Bool) (m : Memory) (p : Wire) (n : ℕ) (bs : List ℕ) → read allowed m p n ≡ Ok bs → length bs ≡ n
read_long allowed m p n bs e = bytes_long allowed m p n bs e

bytes_stop : (m : Memory) (cells : List Cell) (a b c : Bool) (x : Cell) (kind : StopKind) → bytes_from m cells (reached_by a b c x) ≡ Err kind → IsUserStop kind
bytes_stop m cells false b c x kind e = stop_is stop.Dead kind e dead_stop
bytes_stop m cells true false c x kind e = stop_is stop.Bounds kind e bounds_stop
bytes_stop m cells true true false x kind e = stop_is stop.Annotation kind e annotation_stop
bytes_stop m cells true true true x kind e = absurd cc

pub read_stop : (allowed : Cell → Bool) (m : Memory) (p : Wire) (n : ℕ) (kind : StopKind) → read allowed m p n ≡ Err kind → IsUserStop kind
unfolding read
read_stop allowed m (wire.Ptr p) n kind e = bytes_stop m (cells_read p n) (is_live m p.serial) (nat_le (p.index + n) p.count) (list_all allowed (cells_read p n)) (cell_of p) kind e
read_stop allowed m wire.Dead n kind e = stop_is stop.Dead kind e dead_stop
read_stop allowed m wire.Null n kind e = stop_is stop.Null kind e null_stop
read_stop allowed m (wire.Int k i) n kind e = stop_is stop.Null kind e null_stop
read_stop allowed m (wire.Fn f) n kind e = stop_is stop.Null kind e null_stop
read_stop allowed m (wire.Lock s) n kind e = stop_is stop.Null kind e null_stop
read_stop allowed m wire.NoValue n kind e = stop_is stop.Null kind e null_stop

-- ---- values of locals

pub fresh_same : {K : Knowledge} (d : Driver) (uses : Uses) (budget t : ℕ) (KU : Knowledge) (live : List Wire) (k : Kernel) (w : World) (um : Memory) (v : Wire) → Rel d uses budget t K KU live k w um → IsAddress d.program KU v
    → fresh um v ≡ fresh w.memory v
fresh_same d uses budget t KU live k w um v r address = sym ((shared r).freshens v (pointer_known d.program KU _ v address))

-- a value that isn't a dead pointer is read as it is
pub fresh_is : (m : Memory) (v x : Wire) → fresh m v ≡ Ok x → x ≡ v
fresh_is m v x e = sym (fresh_was m v x e)

pub fresh_stop : (m : Memory) (v : Wire) (kind : StopKind) → fresh m v ≡ Err kind → IsUserStop kind
unfolding fresh
fresh_stop m v kind e = value_stop (normal m v) kind e

-- a result is passed alike
pub result_same : {K : Knowledge} (d : Driver) (uses : Uses) (budget t : ℕ) (KU : Knowledge) (live : List Wire) (k : Kernel) (w : World) (um : Memory) (ty : Ty) (v : Wire) → Rel d uses budget t K KU live k w um → IsResult d.program KU ty v
    → normal um v ≡ normal w.memory v
result_same d uses budget t KU live k w um ty v r fits = sym ((shared r).normals v (result_known d.program KU ty v fits))
