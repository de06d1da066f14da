-- What the kernel half does takes no tick back, begins no command, and leaves as many upcalls open as there were, in any driver.
use Rattle.std.proofs.Common.{◌≡◌, ℕ, zero, suc, ◌+◌, ◌≤◌, Bool, true, false, ◌||◌, List, [], ◌∷◌, ◌++◌, length, map, Option, Some, None, Result, Ok, Err, refl, ◌∙◌, nat_lt, arith, le_refl}
use Rattle.std.proofs.lemmas.List.{length-map}
use Rattle.mdr_core.specs.declared.place.At.{At}
use Rattle.mdr_core.specs.declared.program.Program.{Program}
use Rattle.mdr_core.specs.declared.stop.StopKind.{StopKind}
use Rattle.mdr_core.specs.declared.stop.StopKind.TheVariants as stop
use Rattle.mdr_core.specs.Layout.{chosen}
use Rattle.mdr_core.specs.Services.{Service, Kzalloc, Kcalloc, Kfree, Readl, Writel, Printk, RequestIrq, FreeIrq, Deliver, Combolock, Combounlock, Bug, Enter, Leave, service_numbered}
use Rattle.mdr_device.specs.Machines.{read as read_register, written}
use Rattle.mdr_extents.specs.Reaching.{Failing, visible}
use Rattle.mdr_meaning.specs.declared.shape.Shape64.{Shape64}
use Rattle.mdr_meaning.specs.declared.wire.Wire.{Wire}
use Rattle.mdr_meaning.specs.declared.wire.Wire.TheVariants as wire
use Rattle.mdr_meaning.specs.Bodies.{started}
use Rattle.mdr_meaning.specs.Tree.{Asked, Tree}
use Rattle.mdr_meaning.specs.Values.{first_of, natural, rest_of, saturated_u32}
use Rattle.mdr_model.specs.declared.memory.Cell.{Cell}
use Rattle.mdr_model.specs.declared.message.BirthKind.{BirthKind}
use Rattle.mdr_model.specs.declared.message.BirthKind.TheVariants.{Heap, Auto}
use Rattle.mdr_model.specs.declared.message.New.{New}
use Rattle.mdr_model.specs.Memory.{Memory, normal}
use Rattle.mdr_plain.specs.declared.outcome.Happened.TheVariants as happened
use Rattle.mdr_plain.specs.Gate.{due}
use Rattle.mdr_plain.specs.Locks.{acquire, release}
use Rattle.mdr_plain.specs.Running.{Before, handled, interrupted, interrupts, nothing, call, run}
use Rattle.mdr_plain.specs.Scripts.{idle, idled, returned}
use Rattle.mdr_plain.specs.Services.{allocated, as_now, as_served, asked_once_more, fails_now, freed, freed_by, gives, gives_none, is_no_block, register_read, register_written, requested, served, served_by, stops, was_read, when_changed, with_device}
use Rattle.mdr_plain.specs.Storage.{births, born, deaths, died, died_at, new_of, next_serial, remembers, with_memory, without}
use Rattle.mdr_plain.specs.World.{World, Ran, Ended, Stopped, Work, advanced, after, counted, given, left, noted, then}
use Rattle.mdr_watched.specs.Driver.{Driver, result_roots, touched_by}
use Rattle.mdr_watched.specs.Views.{below, new_cells, renewed, taken, top}
use Rattle.mdr_watched.specs.Watched.{downcall, held, kernel_of, may_not, returns_to, serves}

-- since the first state no tick was taken back, no command began to call a function, and as many upcalls are open
abbrev pub IsLater : (first w : World) → Type 0
IsLater first w = (first.clock.ticks ≤ w.clock.ticks) × (w.kept.calls ≡ first.kept.calls) × (length w.views ≡ length first.views)

pub itself : (w : World) → IsLater w w
itself w = (le_refl w.clock.ticks, refl, refl)

-- another set in the place of the innermost
pub same_height : (sets : List (List Cell)) → 1 ≤ length sets → suc (length (below sets)) ≡ length sets
same_height [] some = absurd (omega (arith, some))
same_height (set ∷ sets) some = refl

module _ (first : World) where
  -- work that leaves a later state
  pub record Leads {A : Type 0} (r : Ran A) : Type 0 where
    pub at_end : IsLater first (left r)

  so : {A : Type 0} {r : Ran A} → IsLater first (left r) → Leads r
  so e = record { at_end = e }

  -- ---- one thing after another

  goes : {A B : Type 0} (r : Ran A) (go : A → World → Ran B) → Leads r → ((x : A) (w : World) → IsLater first w → Leads (go x w)) → Leads (after r go)
  goes (Ended x w) go a each = each x w a.at_end
  goes (Stopped kind at w) go a each = so a.at_end

  goes_then : {B : Type 0} (r : Work) (go : World → Ran B) → Leads r → ((w : World) → IsLater first w → Leads (go w)) → Leads (then r go)
  goes_then (Ended x w) go a each = each w a.at_end
  goes_then (Stopped kind at w) go a each = so a.at_end

  goes_given : {A B : Type 0} (r : Result A StopKind) (at : At) (w : World) (go : A → Ran B) → IsLater first w → ((x : A) → Leads (go x)) → Leads (given r at w go)
  goes_given (Ok x) at w go e each = each x
  goes_given (Err kind) at w go e each = so e

  goes_counted : {A : Type 0} (n : ℕ) (at : Option At) (w : World) (go : World → Ran A) → IsLater first w → ((w' : World) → IsLater first w' → Leads (go w')) → Leads (counted n at w go)
  goes_counted zero at w go e each = so e
  goes_counted (suc n) at w go e each = let later : first.clock.ticks ≤ w.clock.ticks + 1 = omega (arith, e.0) in each (record w { clock = advanced 1 w.clock }) (later, e.1, e.2)

  goes_stored : {A : Type 0} (w : World) (r : Result Memory StopKind) (at : At) (go : World → Ran A) → IsLater first w → ((w' : World) → IsLater first w' → Leads (go w')) → Leads (given (remembers w r) at w go)
  goes_stored w (Ok m) at go e each = each (with_memory w m) e
  goes_stored w (Err kind) at go e each = so e

  either : {A : Type 0} (b : Bool) (x y : Ran A) → Leads x → Leads y → Leads (chosen b x y)
  either true x y a c = a
  either false x y a c = c

  -- ---- births and deaths

  born_later : (program : Program) (n : New) (w : World) → IsLater first w → IsLater first (born program n w)
  unfolding born
  born_later program n w e = e

  pub births_later : (program : Program) (kind : BirthKind) (shapes : List Shape64) (w : World) → IsLater first w → IsLater first (births program kind shapes w).memory
  unfolding births
  births_later program kind [] w e = e
  births_later program kind (s ∷ shapes) w e = births_later program kind shapes _ (born_later program (new_of kind s w) w e)

  died_later : (serial : ℕ) (w : World) → IsLater first w → IsLater first (died serial w)
  unfolding died
  died_later serial w e = (e.0, e.1, length-map w.views (without serial) ∙ e.2)

  died_at_later : (p : Wire) (w : World) → IsLater first w → IsLater first (died_at p w)
  died_at_later (wire.Ptr p) w e = died_later p.serial w e
  died_at_later (wire.Int k n) w e = e
  died_at_later wire.Null w e = e
  died_at_later wire.Dead w e = e
  died_at_later (wire.Fn f) w e = e
  died_at_later (wire.Lock s) w e = e
  died_at_later wire.NoValue w e = e

  pub deaths_later : (ps : List Wire) (w : World) → IsLater first w → IsLater first (deaths ps w)
  deaths_later [] w e = e
  deaths_later (p ∷ ps) w e = deaths_later ps (died_at p w) (died_at_later p w e)

  -- ---- services

  allocated_leads : (program : Program) (shapes : List Shape64) (w : World) → IsLater first w → Leads (allocated program shapes w)
  allocated_leads program [] w e = so e
  allocated_leads program (s ∷ shapes) w e =
      either (fails_now w || is_no_block program s) (gives wire.Null w) (as_served (births program Heap (s ∷ []) w)) (so e) (so (births_later program Heap (s ∷ []) w e))

  freed_by_leads : (is_whole is_locked : Bool) (serial : ℕ) (at : At) (w : World) → IsLater first w → Leads (freed_by is_whole is_locked serial at w)
  freed_by_leads false locked serial at w e = so e
  freed_by_leads true true serial at w e = so e
  freed_by_leads true false serial at w e = so (died_later serial w e)

  freed_leads : (program : Program) (at : At) (p : Wire) (w : World) → IsLater first w → Leads (freed program at p w)
  freed_leads program at (wire.Ptr v) w e = freed_by_leads _ _ v.serial at w e
  freed_leads program at (wire.Int k n) w e = so e
  freed_leads program at wire.Null w e = so e
  freed_leads program at wire.Dead w e = so e
  freed_leads program at (wire.Fn f) w e = so e
  freed_leads program at (wire.Lock s) w e = so e
  freed_leads program at wire.NoValue w e = so e

  read_leads : (at : At) (r : ℕ) (w : World) → IsLater first w → Leads (register_read at r w)
  read_leads at r w e = either (nat_lt r 4096) (was_read r (read_register r w.clock.device) w) (stops stop.Bounds at w) (so e) (so e)

  written_leads : (at : At) (r n : ℕ) (w : World) → IsLater first w → Leads (register_written at r n w)
  written_leads at r n w e = either (nat_lt r 4096) (gives_none (noted (happened.Wrote r n) (with_device (written r n w.clock.device) w))) (stops stop.Bounds at w) (so e) (so e)

  requested_leads : (h : Option ℕ) (v : Wire) (w : World) → IsLater first w → Leads (requested h v w)
  requested_leads None v w e = so e
  requested_leads (Some f) v w e = so e

  changed_leads : (r : Result Memory StopKind) (at : At) (w : World) → IsLater first w → Leads (when_changed r at w)
  changed_leads (Ok m) at w e = so e
  changed_leads (Err kind) at w e = so e

  served_by_leads : (program : Program) (a : Asked) (s : Option Service) (w : World) → IsLater first w → Leads (served_by program a s w)
  served_by_leads program a (Some Kzalloc) w e = allocated_leads program a.shapes (asked_once_more w) e
  served_by_leads program a (Some Kcalloc) w e = allocated_leads program a.shapes (asked_once_more w) e
  served_by_leads program a (Some Kfree) w e = freed_leads program a.at (first_of a.args) w e
  served_by_leads program a (Some Readl) w e = read_leads a.at (natural (first_of a.args)) w e
  served_by_leads program a (Some Writel) w e = written_leads a.at (natural (first_of (rest_of a.args))) (saturated_u32 (natural (first_of a.args))) w e
  served_by_leads program a (Some Printk) w e = so e
  served_by_leads program a (Some RequestIrq) w e = requested_leads w.kept.handler (first_of a.args) w e
  served_by_leads program a (Some FreeIrq) w e = so e
  served_by_leads program a (Some Deliver) w e = so e
  served_by_leads program a (Some Combolock) w e = changed_leads (acquire (first_of a.args) w) a.at w e
  served_by_leads program a (Some Combounlock) w e = changed_leads (release (first_of a.args) w) a.at w e
  served_by_leads program a (Some Bug) w e = so e
  served_by_leads program a (Some Enter) w e = so (births_later program Auto a.shapes w e)
  served_by_leads program a (Some Leave) w e = so (deaths_later a.args w e)
  served_by_leads program a None w e = so e

  pub served_leads : (program : Program) (a : Asked) (w : World) → IsLater first w → Leads (served program a w)
  unfolding served
  served_leads program a w e = served_by_leads program (as_now w a) (service_numbered a.service) w e

  -- ---- code of the kernel half

  module _ (d : Driver) where
    module _ (before : Before) (tries : (n : ℕ) (w : World) → IsLater first w → Leads (before n w)) where
      run_leads : (t : Tree) (w : World) → IsLater first w → Leads (run (kernel_of d).setting before t w)
      unfolding run
      run_leads Tree.Idle w e = so e
      run_leads (Tree.Waits k) w e = so e
      run_leads (Tree.Done v t) w e = so e
      run_leads (Tree.Stop kind at) w e = so e
      run_leads (Tree.Tick at n t) w e = goes_then (before n w) _ (tries n w e) (λ w' e'. goes_counted w'.clock.rest _ w' _ e' (λ w'' e''. run_leads t w'' e''))
      run_leads (Tree.Load at p k) w e = goes_given _ at w _ e (λ v. run_leads (k v) w e)
      run_leads (Tree.Store at p v t) w e = goes_stored w _ at _ e (λ w' e'. run_leads t w' e')
      run_leads (Tree.Read at p n k) w e = goes_given _ at w _ e (λ bytes. run_leads (k bytes) w e)
      run_leads (Tree.Fresh at v k) w e = goes_given _ at w _ e (λ x. run_leads (k x) w e)
      run_leads (Tree.Birth at shapes k) w e = run_leads (k (births d.program Auto shapes w).pointers) (births d.program Auto shapes w).memory (births_later d.program Auto shapes w e)
      run_leads (Tree.Death at ps t) w e = run_leads t (deaths ps w) (deaths_later ps w e)
      run_leads (Tree.Ask a k) w e = goes _ _ (served_leads d.program a w e) (λ results w' e'. run_leads (k results) w' e')
      run_leads (Tree.Cross at f args n k) w e = so e

      call_leads : (f : ℕ) (args : List Wire) (depth : ℕ) (w : World) → IsLater first w → Leads (call (kernel_of d) before f args depth w)
      unfolding call
      call_leads f args depth w e = run_leads (started d.kernel (suc w.clock.rest) f args depth Tree.Idle) w e

    -- ---- interrupts, and ticks in which no code runs

    handled_leads : (n : ℕ) (handler : Option ℕ) (w : World) → IsLater first w → Leads (handled (kernel_of d) n handler w)
    handled_leads n None w e = so e
    handled_leads n (Some f) w e = goes _ _ (call_leads nothing (λ n' w' e'. so e') f [] n (interrupted f w) e) (λ v w' e'. so e')

    pub interrupts_lead : (n : ℕ) (w : World) → IsLater first w → Leads (interrupts (kernel_of d) n w)
    unfolding interrupts
    interrupts_lead n w e = handled_leads n (due w) w e

    -- a function of the kernel half is called, and calls nothing back
    pub kernel_call_leads : (f : ℕ) (args : List Wire) (depth : ℕ) (w : World) → IsLater first w → Leads (call (kernel_of d) (interrupts (kernel_of d)) f args depth w)
    kernel_call_leads f args depth w e = call_leads (interrupts (kernel_of d)) interrupts_lead f args depth w e

    idle_leads : (n : ℕ) (w : World) → IsLater first w → Leads (idle (interrupts (kernel_of d)) n w)
    unfolding idle
    idle_leads zero w e = so e
    idle_leads (suc n) w e = goes_then _ _ (interrupts_lead 0 w e) (λ w' e'. goes_counted w'.clock.rest _ w' _ e' (λ w'' e''. idle_leads n w'' e''))

    pub idled_leads : (n : ℕ) (w : World) → IsLater first w → Leads (idled (interrupts (kernel_of d)) n w)
    idled_leads n w e = goes_then _ _ (idle_leads n (noted (happened.Idle n) w) e) (λ w' e'. interrupts_lead 0 w' e')

    pub returned_leads : (r : Ran Wire) → Leads r → Leads (returned (interrupts (kernel_of d)) r)
    returned_leads r h = goes r _ h (λ v w' e'. interrupts_lead 0 _ e')

    -- ---- what user code asks for

    pub goes_taken : {A : Type 0} (r : Result (List Cell) Failing) (at : At) (w : World) (go : List Cell → Ran A) → IsLater first w → ((set : List Cell) → Leads (go set)) → Leads (taken r at w go)
    goes_taken (Ok set) at w go e each = each set
    goes_taken (Err failing) at w go e each = so e

    renewed_later : (set : List Cell) (w : World) → 1 ≤ length first.views → IsLater first w → IsLater first (renewed set w)
    renewed_later set w some e =
        let here : 1 ≤ length w.views = omega (arith, some, e.2) in (e.0, e.1, same_height w.views here ∙ e.2)

    -- a downcall gave a result, in an upcall
    pub returns_lead : (t : ℕ) (at : At) (f : ℕ) (args : List Wire) (v : Wire) (w : World) → 1 ≤ length first.views → IsLater first w → Leads (returns_to d (held d) t at f args v w)
    returns_lead t at f args v w some e =
        goes_taken (visible d.program (touched_by d.plan t) w.memory (top w.views) (result_roots d.program f args v)) at w (λ set. Ended v (renewed set w)) e (λ set. so (renewed_later set w some e))

    pub downcall_leads : (t : ℕ) (at : At) (f : ℕ) (args : List Wire) (depth : ℕ) (w : World) → 1 ≤ length first.views → IsLater first w → Leads (downcall d (held d) t may_not at f args depth w)
    downcall_leads t at f args depth w some e = goes _ _ (kernel_call_leads f _ depth w e) (λ v w' e'. returns_lead t at f (map (normal w.memory) args) v w' some e')

    pub asks_lead : (t : ℕ) (a : Asked) (w : World) → 1 ≤ length first.views → IsLater first w → Leads (serves d (held d) t a w)
    asks_lead t a w some e = goes _ _ (served_leads d.program a w e) (λ results w' e'. so (renewed_later (top w'.views ++ new_cells d.program (touched_by d.plan t) (next_serial w) w'.memory) w' some e'))
