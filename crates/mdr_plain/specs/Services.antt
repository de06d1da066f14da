-- believed
-- What each service does.
use Rattle.std.specs.Prelude.{ℕ, ◌+◌, ◌*◌, Bool, true, false, ◌||◌, ◌&&◌, ◌==◌, nat_lt, List, [], ◌∷◌, map, Option, Some, None, Result, pos, negsuc}
use Rattle.std.specs.List.{list_any}
use Rattle.mdr_core.specs.declared.kind.Kind.TheVariants.{U32, S32}
use Rattle.mdr_core.specs.declared.place.At.{At}
use Rattle.mdr_core.specs.declared.program.Program.{Program}
use Rattle.mdr_core.specs.declared.stop.StopKind.{StopKind}
use Rattle.mdr_core.specs.declared.stop.StopKind.TheVariants as stop
use Rattle.mdr_core.specs.Layout.{chosen}
use Rattle.mdr_core.specs.Services.{Service, Kzalloc, Kcalloc, Kfree, Readl, Writel, Printk, RequestIrq, FreeIrq, Deliver, Combolock, Combounlock, Bug, Enter, Leave, service_numbered}
use Rattle.mdr_device.specs.Machines.{Machine, read as read_register, written}
use Rattle.mdr_meaning.specs.declared.shape.Shape64.{Shape64}
use Rattle.mdr_meaning.specs.declared.wire.Wire.{Wire}
use Rattle.mdr_meaning.specs.declared.wire.Wire.TheVariants as wire
use Rattle.mdr_meaning.specs.declared.wire.WireView.{WireView}
use Rattle.mdr_meaning.specs.Pointers.{position, size}
use Rattle.mdr_meaning.specs.Tree.{Asked}
use Rattle.mdr_meaning.specs.Values.{first_of, natural, rest_of, saturated_u32}
use Rattle.mdr_meaning.specs.Walk.{Born}
use Rattle.mdr_model.specs.declared.message.BirthKind.{BirthKind}
use Rattle.mdr_model.specs.declared.message.BirthKind.TheVariants.{Static, Heap, Auto}
use Rattle.mdr_model.specs.declared.message.New.{New}
use Rattle.mdr_model.specs.Memory.{Memory, born_at, normal}
use Rattle.mdr_plain.specs.declared.outcome.Happened.TheVariants as happened
use Rattle.mdr_plain.specs.Locks.{acquire, is_locked, release}
use Rattle.mdr_plain.specs.Storage.{births, deaths, died, with_memory}
use Rattle.mdr_plain.specs.World.{World, Ran, Ended, Stopped, given, noted}

-- what a service gives: a list of values, which is empty where it gives none
abbrev pub Served : Type 0
Served = Ran (List Wire)

abbrev pub gives : Wire → World → Served
gives v w = Ended (v ∷ []) w

abbrev pub gives_none : World → Served
gives_none w = Ended [] w

abbrev pub stops : StopKind → At → World → Served
stops kind at w = Stopped kind (Some at) w

-- ---- allocations: `kzalloc(T)`, `kcalloc(n, T)`

-- counted from 1, those that fail too
abbrev pub asked_once_more : World → World
asked_once_more w = record w { kept = record w.kept { allocations = w.kept.allocations + 1 } }

-- the script lets it fail
abbrev pub fails_now : World → Bool
fails_now w = list_any (λ n. n == w.kept.allocations) w.kept.fails

-- it asks for nothing, or for more cells than a block has
abbrev pub is_no_block : Program → Shape64 → Bool
is_no_block program s = s.count == 0 || nat_lt 65536 (s.count * size program s.ty)

abbrev pub as_served : Born World → Served
as_served b = Ended b.pointers b.memory

abbrev pub allocated : Program → List Shape64 → World → Served
allocated program [] w = gives wire.Null w
allocated program (s ∷ shapes) w = chosen (fails_now w || is_no_block program s) (gives wire.Null w) (as_served (births program Heap (s ∷ []) w))

-- ---- `kfree(p)`

abbrev pub is_heap : BirthKind → Bool
is_heap Static = false
is_heap Heap = true
is_heap Auto = false

-- the pointer is at cell 0 of a live block that was allocated
abbrev pub is_whole : Program → WireView → Option New → Bool
is_whole program v None = false
is_whole program v (Some n) = is_heap n.kind && position program v == 0

abbrev pub freed_by : (is_whole is_locked : Bool) → (serial : ℕ) → At → World → Served
freed_by false locked serial at w = stops stop.BadCall at w
freed_by true true serial at w = stops stop.LockHeld at w
freed_by true false serial at w = gives_none (died serial w)

-- a null pointer frees nothing
abbrev pub freed : Program → At → Wire → World → Served
freed program at wire.Null w = gives_none w
freed program at (wire.Ptr v) w = freed_by (is_whole program v (born_at w.memory v.serial)) (is_locked v.serial w.memory) v.serial at w
freed program at _ w = stops stop.BadCall at w

-- ---- `readl(reg)`, `writel(value, reg)`: the device has 4,096 registers

abbrev pub with_device : Machine → World → World
with_device d w = record w { clock = record w.clock { device = d } }

abbrev pub was_read : (register : ℕ) → ℕ × Machine → World → Served
was_read r read w = gives (wire.Int U32 (pos read.0)) (noted (happened.Read r read.0) (with_device read.1 w))

abbrev pub register_read : At → (register : ℕ) → World → Served
register_read at r w = chosen (nat_lt r 4096) (was_read r (read_register r w.clock.device) w) (stops stop.Bounds at w)

abbrev pub register_written : At → (register value : ℕ) → World → Served
register_written at r value w = chosen (nat_lt r 4096) (gives_none (noted (happened.Wrote r value) (with_device (written r value w.clock.device) w))) (stops stop.Bounds at w)

-- ---- `request_irq(f)`, `free_irq()`

abbrev pub with_handler : Option ℕ → World → World
with_handler f w = record w { kept = record w.kept { handler = f } }

-- only a function's name is ever given
abbrev pub function_named : Wire → Option ℕ
function_named (wire.Fn f) = Some f
function_named _ = None

-- there is one handler at most
abbrev pub requested : Option ℕ → Wire → World → Served
requested None v w = gives (wire.Int S32 (pos 0)) (with_handler (function_named v) w)
requested (Some f) v w = gives (wire.Int S32 (negsuc 15)) w

-- ---- locks: `combolock(l)`, `combounlock(l)`

abbrev pub when_changed : Result Memory StopKind → At → World → Served
when_changed m at w = given m at w (λ memory. gives_none (with_memory w memory))

-- ---- all of them

module _ (program : Program) (a : Asked) where
  -- the bytes of `printk` and of `deliver` come with the question
  abbrev pub served_by : Option Service → World → Served
  served_by (Some Kzalloc) w = allocated program a.shapes (asked_once_more w)
  served_by (Some Kcalloc) w = allocated program a.shapes (asked_once_more w)
  served_by (Some Kfree) w = freed program a.at (first_of a.args) w
  served_by (Some Readl) w = register_read a.at (natural (first_of a.args)) w
  served_by (Some Writel) w = register_written a.at (natural (first_of (rest_of a.args))) (saturated_u32 (natural (first_of a.args))) w
  served_by (Some Printk) w = gives_none (noted (happened.Log a.bytes) w)
  served_by (Some RequestIrq) w = requested w.kept.handler (first_of a.args) w
  served_by (Some FreeIrq) w = gives_none (with_handler None w)
  served_by (Some Deliver) w = gives_none (noted (happened.Deliver a.bytes) w)
  served_by (Some Combolock) w = when_changed (acquire (first_of a.args) w) a.at w
  served_by (Some Combounlock) w = when_changed (release (first_of a.args) w) a.at w
  served_by (Some Bug) w = stops stop.Bug a.at w
  -- objects of locals of the user half
  served_by (Some Enter) w = as_served (births program Auto a.shapes w)
  served_by (Some Leave) w = gives_none (deaths a.args w)
  served_by None w = gives_none w

-- a question with its arguments as they are now
abbrev pub as_now : World → Asked → Asked
as_now w a = record a { args = map (normal w.memory) a.args }

unfoldable pub served : Program → Asked → World → Served
served program a w = served_by program (as_now w a) (service_numbered a.service) w
