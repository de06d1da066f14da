-- What each single step of a run keeps, all of it keeps.
use Rattle.std.proofs.Common.{ℕ, zero, suc, ◌+◌, Bool, true, false, ◌||◌, List, [], ◌∷◌, Option, Some, None, Result, Ok, Err}
use Rattle.std.specs.Prelude.{nat_lt}
use Rattle.mdr_core.specs.declared.place.At.{At}
use Rattle.mdr_core.specs.declared.program.Program.{Program}
use Rattle.mdr_core.specs.declared.stop.StopKind.{StopKind}
use Rattle.mdr_core.specs.declared.stop.StopKind.TheVariants as stop
use Rattle.mdr_core.specs.Layout.{chosen}
use Rattle.mdr_core.specs.Services.{Service, Kzalloc, Kcalloc, Kfree, Readl, Writel, Printk, RequestIrq, FreeIrq, Deliver, Combolock, Combounlock, Bug, Enter, Leave, service_numbered}
use Rattle.mdr_device.specs.Machines.{Machine, read as read_register, written}
use Rattle.mdr_meaning.specs.declared.shape.Shape64.{Shape64}
use Rattle.mdr_meaning.specs.declared.wire.Wire.{Wire}
use Rattle.mdr_meaning.specs.declared.wire.Wire.TheVariants as wire
use Rattle.mdr_meaning.specs.Sides.{Side}
use Rattle.mdr_meaning.specs.Tree.{Asked, Tree}
use Rattle.mdr_meaning.specs.Values.{first_of, natural, rest_of, saturated_u32}
use Rattle.mdr_model.specs.declared.command.Command.{Command}
use Rattle.mdr_model.specs.declared.command.Command.TheVariants as command
use Rattle.mdr_model.specs.declared.message.BirthKind.{BirthKind}
use Rattle.mdr_model.specs.declared.message.BirthKind.TheVariants.{Heap, Auto}
use Rattle.mdr_model.specs.declared.memory.MemoryBlock.{MemoryBlock}
use Rattle.mdr_model.specs.Memory.{Memory}
use Rattle.mdr_plain.specs.declared.outcome.Happened.TheVariants as happened
use Rattle.mdr_plain.specs.Gate.{due}
use Rattle.mdr_plain.specs.Plain.{does, never, whole}
use Rattle.mdr_plain.specs.Running.{Before, call, handled, in_kernel, interrupts, nothing, run}
use Rattle.mdr_plain.specs.Scripts.{Finish, and_then, begin, commands, idle}
use Rattle.mdr_plain.specs.Services.{allocated, as_now, as_served, fails_now, freed, freed_by, gives, gives_none, is_no_block, register_read, register_written, requested, served, served_by, stops, was_read, when_changed, with_device}
use Rattle.mdr_plain.specs.Storage.{births, born, deaths, died, died_at, remembers, with_block, with_memory}
use Rattle.mdr_plain.specs.World.{World, Kept, Ran, Ended, Stopped, Work, advanced, after, left, then, given, counted, noted}

-- a property of worlds that is kept where memory or what is kept changes, where the device is used, by a tick, by a birth and by a death
pub record IsKept (P : World → Type 0) : Type 0 where
  pub memory : (w : World) (m : Memory) → P w → P (with_memory w m)
  pub keeping : (w : World) (k : Kept) → P w → P (record w { kept = k })
  pub device : (w : World) (d : Machine) → P w → P (with_device d w)
  pub tick : (w : World) → P w → P (record w { clock = advanced 1 w.clock })
  pub birth : (w : World) (b : MemoryBlock) → P w → P (with_block b w)
  pub death : (w : World) (serial : ℕ) → P w → P (died serial w)

module _ (P : World → Type 0) (kept : IsKept P) where
  -- work that leaves a world with the property
  pub record Keeps {A : Type 0} (r : Ran A) : Type 0 where
    pub at_end : P (left r)

  so : {A : Type 0} {r : Ran A} → P (left r) → Keeps r
  so e = record { at_end = e }

  -- ---- one thing after another

  goes : {A B : Type 0} (r : Ran A) (go : A → World → Ran B) → Keeps r → ((x : A) (w : World) → P w → Keeps (go x w)) → Keeps (after r go)
  goes (Ended x w) go a each = each x w a.at_end
  goes (Stopped kind at w) go a each = so a.at_end

  goes_then : {B : Type 0} (r : Work) (go : World → Ran B) → Keeps r → ((w : World) → P w → Keeps (go w)) → Keeps (then r go)
  goes_then (Ended x w) go a each = each w a.at_end
  goes_then (Stopped kind at w) go a each = so a.at_end

  goes_given : {A B : Type 0} (r : Result A StopKind) (at : At) (w : World) (go : A → Ran B) → P w → ((x : A) → Keeps (go x)) → Keeps (given r at w go)
  goes_given (Ok x) at w go e each = each x
  goes_given (Err kind) at w go e each = so e

  goes_counted : {A : Type 0} (n : ℕ) (at : Option At) (w : World) (go : World → Ran A) → P w → ((w' : World) → P w' → Keeps (go w')) → Keeps (counted n at w go)
  goes_counted zero at w go e each = so e
  goes_counted (suc n) at w go e each = each (record w { clock = advanced 1 w.clock }) (kept.tick w e)

  goes_stored : {A : Type 0} (w : World) (m : Result Memory StopKind) (at : At) (go : World → Ran A) → P w → ((w' : World) → P w' → Keeps (go w')) → Keeps (given (remembers w m) at w go)
  goes_stored w (Ok m) at go e each = each (with_memory w m) (kept.memory w m e)
  goes_stored w (Err kind) at go e each = so e

  either : {A : Type 0} (b : Bool) (x y : Ran A) → Keeps x → Keeps y → Keeps (chosen b x y)
  either true x y a c = a
  either false x y a c = c

  -- ---- births and deaths

  pub births_keep : (program : Program) (kind : BirthKind) (shapes : List Shape64) (w : World) → P w → P (births program kind shapes w).memory
  unfolding births born
  births_keep program kind [] w e = e
  births_keep program kind (s ∷ shapes) w e = births_keep program kind shapes _ (kept.birth w _ e)

  died_at_keeps : (p : Wire) (w : World) → P w → P (died_at p w)
  died_at_keeps (wire.Ptr p) w e = kept.death w p.serial e
  died_at_keeps (wire.Int k n) w e = e
  died_at_keeps wire.Null w e = e
  died_at_keeps wire.Dead w e = e
  died_at_keeps (wire.Fn f) w e = e
  died_at_keeps (wire.Lock s) w e = e
  died_at_keeps wire.NoValue w e = e

  pub deaths_keep : (ps : List Wire) (w : World) → P w → P (deaths ps w)
  deaths_keep [] w e = e
  deaths_keep (p ∷ ps) w e = deaths_keep ps (died_at p w) (died_at_keeps p w e)

  -- ---- services

  allocated_keeps : (program : Program) (shapes : List Shape64) (w : World) → P w → Keeps (allocated program shapes w)
  allocated_keeps program [] w e = so e
  allocated_keeps program (s ∷ shapes) w e =
      either (fails_now w || is_no_block program s) (gives wire.Null w) (as_served (births program Heap (s ∷ []) w)) (so e) (so (births_keep program Heap (s ∷ []) w e))

  freed_by_keeps : (is_whole is_locked : Bool) (serial : ℕ) (at : At) (w : World) → P w → Keeps (freed_by is_whole is_locked serial at w)
  freed_by_keeps false locked serial at w e = so e
  freed_by_keeps true true serial at w e = so e
  freed_by_keeps true false serial at w e = so (kept.death w serial e)

  freed_keeps : (program : Program) (at : At) (p : Wire) (w : World) → P w → Keeps (freed program at p w)
  freed_keeps program at (wire.Ptr v) w e = freed_by_keeps _ _ v.serial at w e
  freed_keeps program at (wire.Int k n) w e = so e
  freed_keeps program at wire.Null w e = so e
  freed_keeps program at wire.Dead w e = so e
  freed_keeps program at (wire.Fn f) w e = so e
  freed_keeps program at (wire.Lock s) w e = so e
  freed_keeps program at wire.NoValue w e = so e

  read_keeps : (at : At) (r : ℕ) (w : World) → P w → Keeps (register_read at r w)
  read_keeps at r w e =
      either (nat_lt r 4096) (was_read r (read_register r w.clock.device) w) (stops stop.Bounds at w)
      (so (kept.keeping (with_device (read_register r w.clock.device).1 w) _ (kept.device w (read_register r w.clock.device).1 e))) (so e)

  written_keeps : (at : At) (r n : ℕ) (w : World) → P w → Keeps (register_written at r n w)
  written_keeps at r n w e =
      either (nat_lt r 4096) (gives_none (noted (happened.Wrote r n) (with_device (written r n w.clock.device) w))) (stops stop.Bounds at w)
      (so (kept.keeping (with_device (written r n w.clock.device) w) _ (kept.device w (written r n w.clock.device) e))) (so e)

  requested_keeps : (h : Option ℕ) (v : Wire) (w : World) → P w → Keeps (requested h v w)
  requested_keeps None v w e = so (kept.keeping w _ e)
  requested_keeps (Some f) v w e = so e

  changed_keeps : (m : Result Memory StopKind) (at : At) (w : World) → P w → Keeps (when_changed m at w)
  changed_keeps (Ok m) at w e = so (kept.memory w m e)
  changed_keeps (Err kind) at w e = so e

  served_by_keeps : (program : Program) (a : Asked) (s : Option Service) (w : World) → P w → Keeps (served_by program a s w)
  served_by_keeps program a (Some Kzalloc) w e = allocated_keeps program a.shapes _ (kept.keeping w _ e)
  served_by_keeps program a (Some Kcalloc) w e = allocated_keeps program a.shapes _ (kept.keeping w _ e)
  served_by_keeps program a (Some Kfree) w e = freed_keeps program a.at _ w e
  served_by_keeps program a (Some Readl) w e = read_keeps a.at (natural (first_of a.args)) w e
  served_by_keeps program a (Some Writel) w e = written_keeps a.at (natural (first_of (rest_of a.args))) (saturated_u32 (natural (first_of a.args))) w e
  served_by_keeps program a (Some Printk) w e = so (kept.keeping w _ e)
  served_by_keeps program a (Some RequestIrq) w e = requested_keeps w.kept.handler _ w e
  served_by_keeps program a (Some FreeIrq) w e = so (kept.keeping w _ e)
  served_by_keeps program a (Some Deliver) w e = so (kept.keeping w _ e)
  served_by_keeps program a (Some Combolock) w e = changed_keeps _ a.at w e
  served_by_keeps program a (Some Combounlock) w e = changed_keeps _ a.at w e
  served_by_keeps program a (Some Bug) w e = so e
  served_by_keeps program a (Some Enter) w e = so (births_keep program Auto a.shapes w e)
  served_by_keeps program a (Some Leave) w e = so (deaths_keep a.args w e)
  served_by_keeps program a None w e = so e

  pub served_keeps : (program : Program) (a : Asked) (w : World) → P w → Keeps (served program a w)
  unfolding served
  served_keeps program a w e = served_by_keeps program (as_now w a) (service_numbered a.service) w e

  -- ---- code

  module _ (program : Program) (before : Before) (tries : (d : ℕ) (w : World) → P w → Keeps (before d w)) where
    pub run_keeps : (t : Tree) (w : World) → P w → Keeps (run (in_kernel program never) before t w)
    unfolding run
    run_keeps Tree.Idle w e = so e
    run_keeps (Tree.Waits k) w e = so e
    run_keeps (Tree.Done v t) w e = so e
    run_keeps (Tree.Stop kind at) w e = so e
    run_keeps (Tree.Tick at d t) w e = goes_then (before d w) _ (tries d w e) (λ w' e'. goes_counted w'.clock.rest _ w' _ e' (λ w'' e''. run_keeps t w'' e''))
    run_keeps (Tree.Load at p k) w e = goes_given _ at w _ e (λ v. run_keeps (k v) w e)
    run_keeps (Tree.Store at p v t) w e = goes_stored w _ at _ e (λ w' e'. run_keeps t w' e')
    run_keeps (Tree.Read at p n k) w e = goes_given _ at w _ e (λ bytes. run_keeps (k bytes) w e)
    run_keeps (Tree.Fresh at v k) w e = goes_given _ at w _ e (λ x. run_keeps (k x) w e)
    run_keeps (Tree.Birth at shapes k) w e = run_keeps (k (births program Auto shapes w).pointers) (births program Auto shapes w).memory (births_keep program Auto shapes w e)
    run_keeps (Tree.Death at ps t) w e = run_keeps t (deaths ps w) (deaths_keep ps w e)
    run_keeps (Tree.Ask a k) w e = goes _ _ (served_keeps program a w e) (λ results w' e'. run_keeps (k results) w' e')
    run_keeps (Tree.Cross at f args d k) w e = run_keeps (k wire.NoValue) w e

  module _ (program : Program) (side : Side) where
    call_keeps : (before : Before) → ((d : ℕ) (w : World) → P w → Keeps (before d w)) → (f : ℕ) (args : List Wire) (d : ℕ) (w : World) → P w → Keeps (call (whole program side) before f args d w)
    unfolding call
    call_keeps before tries f args d w e = run_keeps program before tries _ w e

    handled_keeps : (d : ℕ) (handler : Option ℕ) (w : World) → P w → Keeps (handled (whole program side) d handler w)
    handled_keeps d None w e = so e
    handled_keeps d (Some f) w e =
        goes _ _ (call_keeps nothing (λ d' w' e'. so e') f [] d _ (kept.keeping (noted (happened.Irq f) w) _ (kept.keeping w _ e))) (λ v w' e'. so (kept.keeping w' _ e'))

    pub interrupts_keep : (d : ℕ) (w : World) → P w → Keeps (interrupts (whole program side) d w)
    unfolding interrupts
    interrupts_keep d w e = handled_keeps d (due w) w e

    idle_keeps : (n : ℕ) (w : World) → P w → Keeps (idle (interrupts (whole program side)) n w)
    unfolding idle
    idle_keeps zero w e = so e
    idle_keeps (suc n) w e = goes_then _ _ (interrupts_keep 0 w e) (λ w' e'. goes_counted w'.clock.rest _ w' _ e' (λ w'' e''. idle_keeps n w'' e''))

    does_keeps : (c : Command) (w : World) → P w → Keeps (does (whole program side) c w)
    unfolding begin
    does_keeps (command.Call f args) w e =
        goes _ _ (call_keeps _ interrupts_keep f _ 0 _ (kept.keeping (record w { kept = record w.kept { calls = w.kept.calls + 1 } }) _ (kept.keeping w (record w.kept { calls = w.kept.calls + 1 }) e))) (λ v w' e'. interrupts_keep 0 _ (kept.keeping w' _ e'))
    does_keeps (command.Idle n) w e = goes_then _ _ (idle_keeps n _ (kept.keeping w _ e)) (λ w' e'. interrupts_keep 0 w' e')
    does_keeps (command.Show g) w e = so (kept.keeping w _ e)
    does_keeps (command.Poke serial index n) w e = so (kept.memory w _ e)
    does_keeps (command.Say text) w e = so (kept.keeping w _ e)

    and_then_keeps : (r : Work) (go : World → Finish) → Keeps r → ((w : World) → P w → P (go w).world) → P (and_then r go).world
    and_then_keeps (Ended x w) go a each = each w a.at_end
    and_then_keeps (Stopped kind at w) go a each = a.at_end

    pub commands_keep : (cs : List Command) (w : World) → P w → P (commands (does (whole program side)) cs w).world
    unfolding commands
    commands_keep [] w e = e
    commands_keep (c ∷ cs) w e = and_then_keeps (does (whole program side) c w) _ (does_keeps c w e) (λ w' e'. commands_keep cs w' e')
