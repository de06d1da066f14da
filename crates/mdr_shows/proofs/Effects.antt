-- What each service does to memory, to births and deaths, and to sets: nothing, a change of a lock, births, or deaths.
use Rattle.std.proofs.Common.{◌≡◌, ℕ, Bool, true, false, ◌||◌, List, [], ◌∷◌, Option, Some, None, Result, Ok, Err, refl}
use Rattle.std.specs.Prelude.{nat_lt, pos}
use Rattle.mdr_core.specs.declared.kind.Kind.TheVariants.{U32}
use Rattle.mdr_core.specs.declared.place.At.{At}
use Rattle.mdr_core.specs.declared.program.Program.{Program}
use Rattle.mdr_core.specs.declared.stop.StopKind.{StopKind}
use Rattle.mdr_core.specs.declared.stop.StopKind.TheVariants as stop
use Rattle.mdr_core.specs.declared.value.LockState.{LockState}
use Rattle.mdr_core.specs.Layout.{chosen}
use Rattle.mdr_core.specs.Services.{Service, Kzalloc, Kcalloc, Kfree, Readl, Writel, Printk, RequestIrq, FreeIrq, Deliver, Combolock, Combounlock, Bug, Enter, Leave, service_numbered}
use Rattle.mdr_device.specs.Machines.{read as read_register, written}
use Rattle.mdr_meaning.specs.declared.shape.Shape64.{Shape64}
use Rattle.mdr_meaning.specs.declared.wire.Wire.{Wire}
use Rattle.mdr_meaning.specs.declared.wire.Wire.TheVariants as wire
use Rattle.mdr_meaning.specs.declared.wire.WireView.{WireView}
use Rattle.mdr_meaning.specs.Tree.{Asked}
use Rattle.mdr_meaning.specs.Values.{first_of, natural, rest_of, saturated_u32}
use Rattle.mdr_model.specs.declared.memory.Cell.{Cell}
use Rattle.mdr_model.specs.declared.message.BirthKind.{BirthKind}
use Rattle.mdr_model.specs.declared.message.BirthKind.TheVariants.{Auto, Heap}
use Rattle.mdr_model.specs.Copies.{is_named}
use Rattle.mdr_model.specs.Memory.{born_at, cell_at, everywhere, put, reached}
use Rattle.mdr_plain.specs.declared.outcome.Happened.TheVariants as happened
use Rattle.mdr_plain.specs.Locks.{acquire, acquired, changed, is_locked, lock_in, release, released, taken_as, with_lock}
use Rattle.mdr_plain.specs.Services.{allocated, as_now, as_served, asked_once_more, fails_now, freed, freed_by, gives, gives_none, is_no_block, is_whole, register_read, register_written, requested, served, served_by, stops, was_read, when_changed, with_device}
use Rattle.mdr_plain.specs.Storage.{births, deaths, with_memory}
use Rattle.mdr_plain.specs.World.{World, Clock, Kept, Ran, Ended, Stopped, noted}
use Rattle.mdr_shows.specs.Cells.{takes_lock}

-- the world with another clock, and with other things that services keep
abbrev pub beside : World → Clock → Kept → World
beside w clock kept = record { memory = w.memory; lives = w.lives; views = w.views; clock = clock; kept = kept }

-- the cell is the one that a service for locks reaches
pub record IsTaken (a : Asked) (s : Option Service) (w : World) (c : Cell) : Type 0 where
  pub takes : takes_lock s ≡ true
  pub reached_is : reached everywhere w.memory (first_of a.args) ≡ Ok c

pub data Effect (program : Program) (a : Asked) (s : Option Service) (w : World) : Ran (List Wire) → Type 0 where
  Stops : (kind : StopKind) (at : Option At) → Effect program a s w (Stopped kind at w)
  Nothing : (results : List Wire) (clock : Clock) (kept : Kept) (none : (serial : ℕ) → is_named results serial ≡ false) → Effect program a s w (Ended results (beside w clock kept))
  Locks : (c : Cell) (state : LockState) (taken : IsTaken a s w c) → Effect program a s w (Ended [] (with_memory w (put w.memory c (wire.Lock state))))
  Births : (kind : BirthKind) (shapes : List Shape64) (clock : Clock) (kept : Kept) → Effect program a s w (Ended (births program kind shapes (beside w clock kept)).pointers (births program kind shapes (beside w clock kept)).memory)
  Deaths : (ps : List Wire) → Effect program a s w (Ended [] (deaths ps w))

module _ (program : Program) (a : Asked) (s : Option Service) where
  either : (w : World) (b : Bool) (x y : Ran (List Wire)) → Effect program a s w x → Effect program a s w y → Effect program a s w (chosen b x y)
  either w true x y h j = h
  either w false x y h j = j

  gives_effect : (v : Wire) (w : World) (clock : Clock) (kept : Kept) → ((serial : ℕ) → is_named (v ∷ []) serial ≡ false) → Effect program a s w (gives v (beside w clock kept))
  gives_effect v w clock kept none = Nothing (v ∷ []) clock kept none

  nothing : (w : World) (clock : Clock) (kept : Kept) → Effect program a s w (gives_none (beside w clock kept))
  nothing w clock kept = Nothing [] clock kept (λ serial. refl)

  allocated_effect : (shapes : List Shape64) (w : World) → Effect program a s w (allocated program shapes (asked_once_more w))
  allocated_effect [] w = Nothing (wire.Null ∷ []) w.clock (asked_once_more w).kept (λ serial. refl)
  allocated_effect (x ∷ shapes) w =
      either w (fails_now (asked_once_more w) || is_no_block program x) (gives wire.Null (asked_once_more w)) (as_served (births program Heap (x ∷ []) (asked_once_more w)))
      (Nothing (wire.Null ∷ []) w.clock (asked_once_more w).kept (λ serial. refl)) (Births Heap (x ∷ []) w.clock (asked_once_more w).kept)

  freed_by_effect : (is_whole is_locked : Bool) (p : WireView) (at : At) (w : World) → Effect program a s w (freed_by is_whole is_locked p.serial at w)
  freed_by_effect false locked p at w = Stops stop.BadCall (Some at)
  freed_by_effect true true p at w = Stops stop.LockHeld (Some at)
  freed_by_effect true false p at w = Deaths (wire.Ptr p ∷ [])

  freed_effect : (at : At) (p : Wire) (w : World) → Effect program a s w (freed program at p w)
  freed_effect at (wire.Ptr v) w = freed_by_effect (is_whole program v (born_at w.memory v.serial)) (is_locked v.serial w.memory) v at w
  freed_effect at (wire.Int k n) w = Stops stop.BadCall (Some at)
  freed_effect at wire.Null w = nothing w w.clock w.kept
  freed_effect at wire.Dead w = Stops stop.BadCall (Some at)
  freed_effect at (wire.Fn f) w = Stops stop.BadCall (Some at)
  freed_effect at (wire.Lock l) w = Stops stop.BadCall (Some at)
  freed_effect at wire.NoValue w = Stops stop.BadCall (Some at)

  read_effect : (at : At) (r : ℕ) (w : World) → Effect program a s w (register_read at r w)
  read_effect at r w =
      either w (nat_lt r 4096) (was_read r (read_register r w.clock.device) w) (stops stop.Bounds at w)
      (Nothing (wire.Int U32 (pos (read_register r w.clock.device).0) ∷ []) (with_device (read_register r w.clock.device).1 w).clock
      (noted (happened.Read r (read_register r w.clock.device).0) (with_device (read_register r w.clock.device).1 w)).kept (λ serial. refl))
      (Stops stop.Bounds (Some at))

  written_effect : (at : At) (r n : ℕ) (w : World) → Effect program a s w (register_written at r n w)
  written_effect at r n w =
      either w (nat_lt r 4096) (gives_none (noted (happened.Wrote r n) (with_device (written r n w.clock.device) w))) (stops stop.Bounds at w)
      (nothing w (with_device (written r n w.clock.device) w).clock (noted (happened.Wrote r n) (with_device (written r n w.clock.device) w)).kept) (Stops stop.Bounds (Some at))

  requested_effect : (h : Option ℕ) (v : Wire) (w : World) → Effect program a s w (requested h v w)
  requested_effect None v w = Nothing _ w.clock _ (λ serial. refl)
  requested_effect (Some f) v w = Nothing _ w.clock w.kept (λ serial. refl)

  locked_effect : (c : Cell) (r : Result LockState StopKind) (at : At) (w : World) → IsTaken a s w c → Effect program a s w (when_changed (with_lock w.memory c r) at w)
  locked_effect c (Ok state) at w taken = Locks c state taken
  locked_effect c (Err kind) at w taken = Stops kind (Some at)

  changed_effect : (change : LockState → Result LockState StopKind) (r : Result Cell StopKind) (at : At) (w : World) → takes_lock s ≡ true → reached everywhere w.memory (first_of a.args) ≡ r → Effect program a s w (when_changed (changed change w.memory r) at w)
  changed_effect change (Ok c) at w takes is = locked_effect c (change (lock_in (cell_at w.memory c))) at w (record { takes = takes; reached_is = is })
  changed_effect change (Err kind) at w takes is = Stops kind (Some at)

served_by_effect : (program : Program) (a : Asked) (s : Option Service) (w : World) → Effect program a s w (served_by program a s w)
unfolding acquire release
served_by_effect program a (Some Kzalloc) w = allocated_effect program a (Some Kzalloc) a.shapes w
served_by_effect program a (Some Kcalloc) w = allocated_effect program a (Some Kcalloc) a.shapes w
served_by_effect program a (Some Kfree) w = freed_effect program a (Some Kfree) a.at (first_of a.args) w
served_by_effect program a (Some Readl) w = read_effect program a (Some Readl) a.at (natural (first_of a.args)) w
served_by_effect program a (Some Writel) w = written_effect program a (Some Writel) a.at (natural (first_of (rest_of a.args))) (saturated_u32 (natural (first_of a.args))) w
served_by_effect program a (Some Printk) w = nothing program a (Some Printk) w w.clock _
served_by_effect program a (Some RequestIrq) w = requested_effect program a (Some RequestIrq) w.kept.handler (first_of a.args) w
served_by_effect program a (Some FreeIrq) w = nothing program a (Some FreeIrq) w w.clock _
served_by_effect program a (Some Deliver) w = nothing program a (Some Deliver) w w.clock _
served_by_effect program a (Some Combolock) w = changed_effect program a (Some Combolock) (acquired (taken_as w.views)) (reached everywhere w.memory (first_of a.args)) a.at w refl refl
served_by_effect program a (Some Combounlock) w = changed_effect program a (Some Combounlock) released (reached everywhere w.memory (first_of a.args)) a.at w refl refl
served_by_effect program a (Some Bug) w = Stops stop.Bug (Some a.at)
served_by_effect program a (Some Enter) w = Births Auto a.shapes w.clock w.kept
served_by_effect program a (Some Leave) w = Deaths a.args
served_by_effect program a None w = nothing program a None w w.clock w.kept

pub served_effect : (program : Program) (a : Asked) (w : World) → Effect program (as_now w a) (service_numbered a.service) w (served program a w)
unfolding served
served_effect program a w = served_by_effect program (as_now w a) (service_numbered a.service) w
