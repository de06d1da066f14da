-- What each single step of a watched run keeps, all of it keeps.
use Rattle.std.proofs.Common.{◌≡◌, refl, ℕ, zero, suc, ◌+◌, Bool, true, false, ◌||◌, List, [], ◌∷◌, Option, Some, None, Result, Ok, Err}
use Rattle.std.specs.Prelude.{map, nat_lt}
use Rattle.mdr_core.specs.declared.place.At.{At}
use Rattle.mdr_core.specs.declared.program.Program.{Program}
use Rattle.mdr_core.specs.declared.stop.StopKind.{StopKind}
use Rattle.mdr_core.specs.declared.stop.StopKind.TheVariants as stop
use Rattle.mdr_core.specs.Layout.{chosen}
use Rattle.mdr_core.specs.Services.{Service, Kzalloc, Kcalloc, Kfree, Readl, Writel, Printk, RequestIrq, FreeIrq, Deliver, Combolock, Combounlock, Bug, Enter, Leave, service_numbered}
use Rattle.mdr_device.specs.Machines.{Machine, read as read_register, written}
use Rattle.mdr_meaning.specs.declared.shape.Shape64.{Shape64}
use Rattle.mdr_meaning.specs.declared.wire.Wire.{Wire}
use Rattle.mdr_meaning.specs.declared.wire.Wire.TheVariants as wire
use Rattle.mdr_core.specs.declared.plan.Key.{Key}
use Rattle.mdr_core.specs.declared.value.LockState.{LockState}
use Rattle.mdr_core.specs.declared.value.Value.{Value}
use Rattle.mdr_extents.specs.Reaching.{Failing, Roots, visible}
use Rattle.mdr_meaning.specs.Tree.{Asked, Tree}
use Rattle.mdr_meaning.specs.Values.{first_of, natural, rest_of, saturated_u32}
use Rattle.mdr_model.specs.declared.command.Command.{Command}
use Rattle.mdr_model.specs.declared.command.Command.TheVariants as command
use Rattle.mdr_model.specs.declared.message.BirthKind.{BirthKind}
use Rattle.mdr_model.specs.declared.message.BirthKind.TheVariants.{Heap, Auto}
use Rattle.mdr_model.specs.declared.memory.Cell.{Cell}
use Rattle.mdr_model.specs.Memory.{cell_at, everywhere, normal, put, reached, stored, stored_into}
use Rattle.mdr_plain.specs.declared.outcome.Happened.TheVariants as happened
use Rattle.mdr_plain.specs.Gate.{due}
use Rattle.mdr_plain.specs.Atomic.{is_atomic}
use Rattle.mdr_plain.specs.Locks.{acquire, acquired, changed, lock_in, release, released, taken_as, with_lock}
use Rattle.mdr_plain.specs.Running.{Before, Crossing, Setting, all_cells, call, handled, interrupts, nothing, run}
use Rattle.mdr_plain.specs.Scripts.{Finish, and_then, begin, begun, called_by, commands, idle, in_place, poked_value, put_if, returned}
use Rattle.mdr_plain.specs.Services.{allocated, as_now, as_served, fails_now, freed, freed_by, gives, gives_none, is_no_block, register_read, register_written, requested, served, served_by, stops, was_read, when_changed, with_device}
use Rattle.mdr_plain.specs.Storage.{accesses, births, born, deaths, died, died_at, new_of, next_serial, remembers, with_memory}
use Rattle.mdr_plain.specs.World.{World, Kept, Ran, Ended, Stopped, Work, advanced, after, left, then, given, counted, noted}
use Rattle.mdr_watched.specs.Driver.{Driver, entry_roots, is_user, result_roots, touched_by}
use Rattle.mdr_watched.specs.Views.{closed, gained, may_touch, opened, renewed, taken, top}
use Rattle.mdr_watched.specs.Watched.{calls_back, closing, does, does_with, downcall, entered, held, in_user, kernel_of, kernel_with, may_not, serves, upcall}

-- a property of worlds that is kept where a cell is written, where what is kept changes, where the device is used, by a tick, by a birth and by a death
pub record IsKept (P : World → Type 0) : Type 0 where
  pub put : (w : World) (c : Cell) (v : Wire) → P w → P (with_memory w (put w.memory c v))
  pub keeping : (w : World) (k : Kept) → P w → P (record w { kept = k })
  pub device : (w : World) (d : Machine) → P w → P (with_device d w)
  pub tick : (w : World) → P w → P (record w { clock = advanced 1 w.clock })
  pub birth : (program : Program) (kind : BirthKind) (s : Shape64) (w : World) → P w → P (born program (new_of kind s w) w)
  pub death : (w : World) (serial : ℕ) → P w → P (died serial w)

-- and where the visible set of an open upcall is taken anew, and grows
pub record IsKeptInside (P : World → Type 0) : Type 0 where
  pub renews : (program : Program) (touched : List Key) (known : List Cell) (roots : Roots) (set : List Cell) (w : World) → visible program touched w.memory known roots ≡ Ok set → P w → P (renewed set w)
  pub grows : (program : Program) (touched : List Key) (next : ℕ) (w : World) → P w → P (gained program touched next w)

-- and where an upcall opens, and is over
pub record IsKeptAround (P : World → Type 0) : Type 0 where
  pub opens : (program : Program) (touched : List Key) (known : List Cell) (roots : Roots) (set : List Cell) (w : World) → visible program touched w.memory known roots ≡ Ok set → P w → P (opened set w)
  pub closes : (w : World) → P w → P (closed w)

module _ (P : World → Type 0) (kept : IsKept P) where
  -- work that leaves a world with the property
  pub record Keeps {A : Type 0} (r : Ran A) : Type 0 where
    pub at_end : P (left r)

  so : {A : Type 0} {r : Ran A} → P (left r) → Keeps r
  so e = record { at_end = e }

  -- ---- one thing after another

  goes : {A B : Type 0} (r : Ran A) (go : A → World → Ran B) → Keeps r → ((x : A) (w : World) → P w → Keeps (go x w)) → Keeps (after r go)
  goes (Ended x w) go a each = each x w a.at_end
  goes (Stopped kind at w) go a each = so a.at_end

  goes_then : {B : Type 0} (r : Work) (go : World → Ran B) → Keeps r → ((w : World) → P w → Keeps (go w)) → Keeps (then r go)
  goes_then (Ended x w) go a each = each w a.at_end
  goes_then (Stopped kind at w) go a each = so a.at_end

  goes_given : {A B : Type 0} (r : Result A StopKind) (at : At) (w : World) (go : A → Ran B) → P w → ((x : A) → Keeps (go x)) → Keeps (given r at w go)
  goes_given (Ok x) at w go e each = each x
  goes_given (Err kind) at w go e each = so e

  goes_counted : {A : Type 0} (n : ℕ) (at : Option At) (w : World) (go : World → Ran A) → P w → ((w' : World) → P w' → Keeps (go w')) → Keeps (counted n at w go)
  goes_counted zero at w go e each = so e
  goes_counted (suc n) at w go e each = each (record w { clock = advanced 1 w.clock }) (kept.tick w e)

  goes_stored : {A : Type 0} (w : World) (v : Wire) (r : Result Cell StopKind) (at : At) (go : World → Ran A) → P w → ((w' : World) → P w' → Keeps (go w')) → Keeps (given (remembers w (stored_into w.memory v r)) at w go)
  goes_stored w v (Ok c) at go e each = each _ (kept.put w c (normal w.memory v) e)
  goes_stored w v (Err kind) at go e each = so e

  either : {A : Type 0} (b : Bool) (x y : Ran A) → Keeps x → Keeps y → Keeps (chosen b x y)
  either true x y a c = a
  either false x y a c = c

  -- ---- births and deaths

  pub births_keep : (program : Program) (kind : BirthKind) (shapes : List Shape64) (w : World) → P w → P (births program kind shapes w).memory
  unfolding births
  births_keep program kind [] w e = e
  births_keep program kind (s ∷ shapes) w e = births_keep program kind shapes _ (kept.birth program kind s w e)

  died_at_keeps : (p : Wire) (w : World) → P w → P (died_at p w)
  died_at_keeps (wire.Ptr p) w e = kept.death w p.serial e
  died_at_keeps (wire.Int k n) w e = e
  died_at_keeps wire.Null w e = e
  died_at_keeps wire.Dead w e = e
  died_at_keeps (wire.Fn f) w e = e
  died_at_keeps (wire.Lock s) w e = e
  died_at_keeps wire.NoValue w e = e

  pub deaths_keep : (ps : List Wire) (w : World) → P w → P (deaths ps w)
  deaths_keep [] w e = e
  deaths_keep (p ∷ ps) w e = deaths_keep ps (died_at p w) (died_at_keeps p w e)

  -- ---- a cell is written, if it is

  put_if_keeps : (o : Option Wire) (c : Cell) (w : World) → P w → P (with_memory w (put_if o c w.memory))
  put_if_keeps None c w e = e
  put_if_keeps (Some v) c w e = kept.put w c v e

  -- ---- services

  allocated_keeps : (program : Program) (shapes : List Shape64) (w : World) → P w → Keeps (allocated program shapes w)
  allocated_keeps program [] w e = so e
  allocated_keeps program (s ∷ shapes) w e =
      either (fails_now w || is_no_block program s) (gives wire.Null w) (as_served (births program Heap (s ∷ []) w)) (so e) (so (births_keep program Heap (s ∷ []) w e))

  freed_by_keeps : (is_whole is_locked : Bool) (serial : ℕ) (at : At) (w : World) → P w → Keeps (freed_by is_whole is_locked serial at w)
  freed_by_keeps false locked serial at w e = so e
  freed_by_keeps true true serial at w e = so e
  freed_by_keeps true false serial at w e = so (kept.death w serial e)

  freed_keeps : (program : Program) (at : At) (p : Wire) (w : World) → P w → Keeps (freed program at p w)
  freed_keeps program at (wire.Ptr v) w e = freed_by_keeps _ _ v.serial at w e
  freed_keeps program at (wire.Int k n) w e = so e
  freed_keeps program at wire.Null w e = so e
  freed_keeps program at wire.Dead w e = so e
  freed_keeps program at (wire.Fn f) w e = so e
  freed_keeps program at (wire.Lock s) w e = so e
  freed_keeps program at wire.NoValue w e = so e

  read_keeps : (at : At) (r : ℕ) (w : World) → P w → Keeps (register_read at r w)
  read_keeps at r w e =
      either (nat_lt r 4096) (was_read r (read_register r w.clock.device) w) (stops stop.Bounds at w)
      (so (kept.keeping (with_device (read_register r w.clock.device).1 w) _ (kept.device w (read_register r w.clock.device).1 e))) (so e)

  written_keeps : (at : At) (r n : ℕ) (w : World) → P w → Keeps (register_written at r n w)
  written_keeps at r n w e =
      either (nat_lt r 4096) (gives_none (noted (happened.Wrote r n) (with_device (written r n w.clock.device) w))) (stops stop.Bounds at w)
      (so (kept.keeping (with_device (written r n w.clock.device) w) _ (kept.device w (written r n w.clock.device) e))) (so e)

  requested_keeps : (h : Option ℕ) (v : Wire) (w : World) → P w → Keeps (requested h v w)
  requested_keeps None v w e = so (kept.keeping w _ e)
  requested_keeps (Some f) v w e = so e

  locked_keeps : (c : Cell) (r : Result LockState StopKind) (at : At) (w : World) → P w → Keeps (when_changed (with_lock w.memory c r) at w)
  locked_keeps c (Ok s) at w e = so (kept.put w c (wire.Lock s) e)
  locked_keeps c (Err kind) at w e = so e

  changed_keeps : (change : LockState → Result LockState StopKind) (r : Result Cell StopKind) (at : At) (w : World) → P w → Keeps (when_changed (changed change w.memory r) at w)
  changed_keeps change (Ok c) at w e = locked_keeps c (change (lock_in (cell_at w.memory c))) at w e
  changed_keeps change (Err kind) at w e = so e

  served_by_keeps : (program : Program) (a : Asked) (s : Option Service) (w : World) → P w → Keeps (served_by program a s w)
  unfolding acquire release
  served_by_keeps program a (Some Kzalloc) w e = allocated_keeps program a.shapes _ (kept.keeping w _ e)
  served_by_keeps program a (Some Kcalloc) w e = allocated_keeps program a.shapes _ (kept.keeping w _ e)
  served_by_keeps program a (Some Kfree) w e = freed_keeps program a.at _ w e
  served_by_keeps program a (Some Readl) w e = read_keeps a.at (natural (first_of a.args)) w e
  served_by_keeps program a (Some Writel) w e = written_keeps a.at (natural (first_of (rest_of a.args))) (saturated_u32 (natural (first_of a.args))) w e
  served_by_keeps program a (Some Printk) w e = so (kept.keeping w _ e)
  served_by_keeps program a (Some RequestIrq) w e = requested_keeps w.kept.handler _ w e
  served_by_keeps program a (Some FreeIrq) w e = so (kept.keeping w _ e)
  served_by_keeps program a (Some Deliver) w e = so (kept.keeping w _ e)
  served_by_keeps program a (Some Combolock) w e = changed_keeps (acquired (taken_as w.views)) (reached everywhere w.memory (first_of a.args)) a.at w e
  served_by_keeps program a (Some Combounlock) w e = changed_keeps released (reached everywhere w.memory (first_of a.args)) a.at w e
  served_by_keeps program a (Some Bug) w e = so e
  served_by_keeps program a (Some Enter) w e = so (births_keep program Auto a.shapes w e)
  served_by_keeps program a (Some Leave) w e = so (deaths_keep a.args w e)
  served_by_keeps program a None w e = so e

  pub served_keeps : (program : Program) (a : Asked) (w : World) → P w → Keeps (served program a w)
  unfolding served
  served_keeps program a w e = served_by_keeps program (as_now w a) (service_numbered a.service) w e

  -- ---- code

  module _ (program : Program) (allowed : World → Cell → Bool) (asks : Asked → World → Ran (List Wire)) (crosses : Crossing) (before : Before)
      (tries : (d : ℕ) (w : World) → P w → Keeps (before d w))
      (asked : (q : Asked) (w : World) → P w → Keeps (asks q w))
      (crossed : (at : At) (f : ℕ) (args : List Wire) (d : ℕ) (w : World) → P w → Keeps (crosses at f args d w)) where
    abbrev setting : Setting
    setting = record { accesses = accesses program allowed; serves = asks; crosses = crosses }

    pub run_keeps : (t : Tree) (w : World) → P w → Keeps (run setting before t w)
    unfolding run stored
    run_keeps Tree.Idle w e = so e
    run_keeps (Tree.Waits k) w e = so e
    run_keeps (Tree.Done v t) w e = so e
    run_keeps (Tree.Stop kind at) w e = so e
    run_keeps (Tree.Tick at d t) w e = goes_then (before d w) _ (tries d w e) (λ w' e'. goes_counted w'.clock.rest _ w' _ e' (λ w'' e''. run_keeps t w'' e''))
    run_keeps (Tree.Load at p k) w e = goes_given _ at w _ e (λ v. run_keeps (k v) w e)
    run_keeps (Tree.Store at p v t) w e = goes_stored w v (reached (allowed w) w.memory p) at _ e (λ w' e'. run_keeps t w' e')
    run_keeps (Tree.Read at p n k) w e = goes_given _ at w _ e (λ bytes. run_keeps (k bytes) w e)
    run_keeps (Tree.Fresh at v k) w e = goes_given _ at w _ e (λ x. run_keeps (k x) w e)
    run_keeps (Tree.Birth at shapes k) w e = run_keeps (k (births program Auto shapes w).pointers) (births program Auto shapes w).memory (births_keep program Auto shapes w e)
    run_keeps (Tree.Death at ps t) w e = run_keeps t (deaths ps w) (deaths_keep ps w e)
    run_keeps (Tree.Ask a k) w e = goes _ _ (asked a w e) (λ results w' e'. run_keeps (k results) w' e')
    run_keeps (Tree.Cross at f args d k) w e = goes _ _ (crossed at f args d w e) (λ v w' e'. run_keeps (k v) w' e')

  module _ (d : Driver) where
    -- calls of the user half keep it
    abbrev pub CrossingKeeps : Crossing → Type 0
    CrossingKeeps crosses = (at : At) (f : ℕ) (args : List Wire) (depth : ℕ) (w : World) → P w → Keeps (crosses at f args depth w)

    pub may_not_keeps : CrossingKeeps may_not
    may_not_keeps at f args depth w e = so e

    call_keeps : (crosses : Crossing) → CrossingKeeps crosses → (before : Before) → ((n : ℕ) (w : World) → P w → Keeps (before n w)) → (f : ℕ) (args : List Wire) (depth : ℕ) (w : World) → P w → Keeps (call (kernel_with d crosses) before f args depth w)
    unfolding call
    call_keeps crosses crossed before tries f args depth w e = run_keeps d.program all_cells (served d.program) crosses before tries (λ q w' e'. served_keeps d.program q w' e') crossed _ w e

    handled_keeps : (n : ℕ) (handler : Option ℕ) (w : World) → P w → Keeps (handled (kernel_of d) n handler w)
    handled_keeps n None w e = so e
    handled_keeps n (Some f) w e =
        goes _ _ (call_keeps may_not may_not_keeps nothing (λ n' w' e'. so e') f [] n _ (kept.keeping (noted (happened.Irq f) w) _ (kept.keeping w _ e))) (λ v w' e'. so (kept.keeping w' _ e'))

    pub interrupts_keep : (n : ℕ) (w : World) → P w → Keeps (interrupts (kernel_of d) n w)
    unfolding interrupts
    interrupts_keep n w e = handled_keeps n (due w) w e

    pub kernel_call_keeps : (crosses : Crossing) → CrossingKeeps crosses → (f : ℕ) (args : List Wire) (depth : ℕ) (w : World) → P w → Keeps (call (kernel_with d crosses) (interrupts (kernel_of d)) f args depth w)
    kernel_call_keeps crosses crossed f args depth w e = call_keeps crosses crossed (interrupts (kernel_of d)) interrupts_keep f args depth w e

    idle_keeps : (n : ℕ) (w : World) → P w → Keeps (idle (interrupts (kernel_of d)) n w)
    unfolding idle
    idle_keeps zero w e = so e
    idle_keeps (suc n) w e = goes_then _ _ (interrupts_keep 0 w e) (λ w' e'. goes_counted w'.clock.rest _ w' _ e' (λ w'' e''. idle_keeps n w'' e''))

    pub idle_keeps_all : (n : ℕ) (w : World) → P w → Keeps (then (idle (interrupts (kernel_of d)) n (noted (happened.Idle n) w)) (interrupts (kernel_of d) 0))
    idle_keeps_all n w e = goes_then _ _ (idle_keeps n _ (kept.keeping w _ e)) (λ w' e'. interrupts_keep 0 w' e')

    pub begun_keeps : (f : ℕ) (args : List Value) (w : World) → P w → P (begun d.program f args w)
    begun_keeps f args w e = kept.keeping (record w { kept = record w.kept { calls = w.kept.calls + 1 } }) _ (kept.keeping w (record w.kept { calls = w.kept.calls + 1 }) e)

    pub returned_keeps : (r : Ran Wire) → Keeps r → Keeps (returned (interrupts (kernel_of d)) r)
    returned_keeps r h = goes r _ h (λ v w' e'. interrupts_keep 0 _ (kept.keeping w' _ e'))

    -- ---- upcalls

    goes_taken : {A : Type 0} (r : Result (List Cell) Failing) (at : At) (w : World) (go : List Cell → Ran A) → P w → ((set : List Cell) → r ≡ Ok set → Keeps (go set)) → Keeps (taken r at w go)
    goes_taken (Ok set) at w go e each = each set refl
    goes_taken (Err failing) at w go e each = so e

    module _ (inside : IsKeptInside P) where
      pub asks_keep : (t : ℕ) (q : Asked) (w : World) → P w → Keeps (serves d (held d) t q w)
      asks_keep t q w e = goes _ _ (served_keeps d.program q w e) (λ results w' e'. so (inside.grows d.program (touched_by d.plan t) (next_serial w) w' e'))

      module _ (crosses : Crossing) (crossed : CrossingKeeps crosses) where
        pub downcall_keeps : (t : ℕ) (at : At) (f : ℕ) (args : List Wire) (depth : ℕ) (w : World) → P w → Keeps (downcall d (held d) t crosses at f args depth w)
        downcall_keeps t at f args depth w e =
            goes _ _ (kernel_call_keeps crosses crossed f _ depth w e)
            (λ v w' e'. goes_taken (visible d.program (touched_by d.plan t) w'.memory (top w'.views) (result_roots d.program f (map (normal w.memory) args) v)) at w' (λ set. Ended v (renewed set w')) e'
            (λ set is. so (inside.renews d.program (touched_by d.plan t) (top w'.views) (result_roots d.program f (map (normal w.memory) args) v) set w' is e')))

        -- what an upcall does while it is open
        pub open_keeps : (f : ℕ) (t : Tree) (w : World) → P w → Keeps (run (in_user d (held d) f crosses) nothing t w)
        open_keeps f t w e = run_keeps d.program may_touch (serves d (held d) f) (downcall d (held d) f crosses) nothing (λ n w' e'. so e') (asks_keep f) (downcall_keeps f) t w e

      module _ (around : IsKeptAround P) where
        closing_keeps : (r : Ran Wire) → Keeps r → Keeps (closing r)
        closing_keeps (Ended v w) h = so (around.closes w h.at_end)
        closing_keeps (Stopped kind at w) h = so h.at_end

        pub upcall_keeps : (crosses : Crossing) → CrossingKeeps crosses → (f : ℕ) (args : List Wire) (depth : ℕ) (w : World) → P w → Keeps (upcall d (held d) crosses f args depth w)
        unfolding upcall
        upcall_keeps crosses crossed f args depth w e =
            goes_taken (visible d.program (touched_by d.plan f) w.memory [] (entry_roots d.program f args)) (record { func = f; stmt = 0 }) w (λ set. entered d (held d) crosses f args depth set w) e
            (λ set is. closing_keeps _ (open_keeps crosses crossed f _ _ (around.opens d.program (touched_by d.plan f) [] (entry_roots d.program f args) set w is e)))

        -- ---- calls back

        pub backs_keep : (room : ℕ) → CrossingKeeps (calls_back d (held d) room)
        unfolding calls_back
        backs_keep zero at f args depth w e = so e
        backs_keep (suc room) at f args depth w e =
            either (is_atomic w) (Stopped stop.Atomic (Some at) w) (upcall d (held d) (calls_back d (held d) room) f (map (normal w.memory) args) depth w) (so e)
            (upcall_keeps (calls_back d (held d) room) (backs_keep room) f (map (normal w.memory) args) depth w e)

        -- ---- commands

        module _ (crosses : Crossing) (crossed : CrossingKeeps crosses) where
          called_keeps : (is_user : Bool) (f : ℕ) (args : List Wire) (w : World) → P w
              → Keeps (in_place (kernel_of d) (λ g vs w'. call (kernel_with d crosses) (interrupts (kernel_of d)) g vs 0 w') (λ g vs w'. upcall d (held d) crosses g vs 0 w') (called_by is_user (kernel_of d) f args w))
          called_keeps true f args w e = returned_keeps _ (upcall_keeps crosses crossed f args 0 w e)
          called_keeps false f args w e = returned_keeps _ (kernel_call_keeps crosses crossed f args 0 w e)

          does_keeps : (c : Command) (w : World) → P w → Keeps (does_with d (held d) crosses c w)
          unfolding begin
          does_keeps (command.Call f args) w e = called_keeps (is_user d.plan f) f _ _ (begun_keeps f args w e)
          does_keeps (command.Idle n) w e = idle_keeps_all n w e
          does_keeps (command.Show g) w e = so (kept.keeping w _ e)
          does_keeps (command.Poke serial index n) w e = so (put_if_keeps (poked_value (cell_at w.memory (record { serial = serial; index = index })) n) (record { serial = serial; index = index }) w e)
          does_keeps (command.Say text) w e = so (kept.keeping w _ e)

        and_then_keeps : (r : Work) (go : World → Finish) → Keeps r → ((w : World) → P w → P (go w).world) → P (and_then r go).world
        and_then_keeps (Ended x w) go a each = each w a.at_end
        and_then_keeps (Stopped kind at w) go a each = a.at_end

        pub commands_keep : (cs : List Command) (w : World) → P w → P (commands (does d (held d)) cs w).world
        unfolding commands
        commands_keep [] w e = e
        commands_keep (c ∷ cs) w e = and_then_keeps (does d (held d) c w) _ (does_keeps (calls_back d (held d) 256) (backs_keep 256) c w e) (λ w' e'. commands_keep cs w' e')
