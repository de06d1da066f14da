-- What user code asks for and calls, with its set beside the world.
use Rattle.std.proofs.Common.{◌≡◌, ℕ, ◌<◌, ◌≤◌, false, true, List, ◌++◌, ◌∷◌, length, Option, Some, Result, Ok, Err, IfOk, refl, sym, ◌∙◌, ap, subst, arith, le_refl}
use Rattle.mdr_core.specs.declared.place.At.{At}
use Rattle.mdr_core.specs.declared.plan.Key.{Key}
use Rattle.mdr_core.specs.declared.program.Program.{Program}
use Rattle.mdr_core.specs.declared.stop.StopKind.{StopKind}
use Rattle.mdr_core.specs.declared.value.Value.{Value}
use Rattle.mdr_events.specs.declared.event.Asked.{Asked as Question}
use Rattle.mdr_events.specs.declared.event.Crossing.{Crossing as Call}
use Rattle.mdr_events.specs.Events.{asked_as}
use Rattle.mdr_extents.specs.CellOrder.{cells}
use Rattle.mdr_extents.specs.Reaching.{Roots, visible}
use Rattle.mdr_mem.specs.Contents.{births_in}
use Rattle.mdr_meaning.specs.declared.wire.Wire.{Wire}
use Rattle.mdr_meaning.specs.Sides.{Side}
use Rattle.mdr_meaning.specs.Tree.{Asked, Tree}
use Rattle.mdr_model.specs.declared.memory.Cell.{Cell}
use Rattle.mdr_model.specs.Memory.{Memory, zero_block}
use Rattle.mdr_paths.specs.Paths.{is_in}
use Rattle.mdr_plain.specs.Running.{KernelCode, all_cells, goes, interrupts, nothing}
use Rattle.mdr_plain.specs.Services.{served}
use Rattle.mdr_plain.specs.Storage.{accesses, born, died, new_of, next_serial}
use Rattle.mdr_plain.specs.World.{World, Ran, Ended, Stopped, left}
use Rattle.mdr_runs.specs.Upto.{went_left}
use Rattle.mdr_runs.proofs.Around.{kernel_keeps_ticks}
use Rattle.mdr_reach.specs.declared.failing.Failing.{Failing}
use Rattle.mdr_reach.specs.Answers.{answered}
use Rattle.mdr_services.specs.declared.answer.Served.{Served}
use Rattle.mdr_services.specs.declared.answer.Served.TheVariants as served_is
use Rattle.mdr_services.specs.Serving.{served_as}
use Rattle.mdr_events.specs.Values.{wires_of}
use Rattle.mdr_viewed.specs.Laws.{asks, kernel_goes, returns}
use Rattle.mdr_viewed.specs.Viewed.{IsOlder, IsOrdered, IsWentViewed, after_beside, viewed, viewing_went}
use Rattle.mdr_viewed.proofs.KernelCode.{kernel_code_is_viewed}
use Rattle.mdr_viewed.proofs.Steps.{served_beside}
use Rattle.mdr_viewed.proofs.Upcalls.{upcalls_are_viewed}
use Rattle.mdr_watched.specs.Driver.{Driver, touched_by}
use Rattle.mdr_viewed.proofs.Sets.{sets_are_viewed}
use Rattle.mdr_watched.specs.Order.{AreLive}
use Rattle.mdr_watched.specs.Views.{new_cells}
use Rattle.mdr_watched.specs.Watched.{held, kernel_of, sent, serves}
use Rattle.mdr_watched.proofs.KeepLaws.{IsKept, served_keeps}
use Rattle.mdr_whole.specs.declared.ending.Gave.TheVariants as gave_is
use Rattle.mdr_whole.specs.declared.code.Code.{Code}
use Rattle.mdr_whole.specs.declared.paused.Went.{Went as Far}
use Rattle.mdr_whole.specs.declared.paused.Went.TheVariants as far
use Rattle.mdr_whole.specs.Going.{driver_code, side_of}
use Rattle.mdr_whole.specs.Pausing.{goes_in, went_as, went_in}
use Rattle.mdr_world.specs.Driven.{Driven, driver}
use Rattle.mdr_world.proofs.StorageLaws.{births-birth, births-death}
use Rattle.mdr_watch.specs.declared.watch.Upcall.{Upcall}
use Rattle.mdr_watch.specs.declared.watch.Watch.{Watch}
use Rattle.mdr_watch.specs.Going.{program_in}
use Rattle.mdr_watch.specs.Guarding.{IsGuarded}
use Rattle.mdr_watch.specs.Watching.{came_below, comes_back, driver_in, kernel_went}

-- ---- what is born is counted

AtLeast : ℕ → World → Type 0
AtLeast n w = n ≤ next_serial w

at_least_kept : (n : ℕ) → IsKept (AtLeast n)
unfolding AtLeast born died
at_least_kept n = record {
  put = λ w c v e. e;
  keeping = λ w k e. e;
  device = λ w d e. e;
  tick = λ w e. e;
  birth = λ program kind s w e. let more = births-birth w.lives (length (zero_block program (new_of kind s w)).cells) in omega (arith, more, e);
  death = λ w serial e. let more = births-death w.lives serial in omega (arith, more, e);
}

pub served_counts : (program : Program) (asked : Asked) (w : World) → next_serial w ≤ next_serial (left (served program asked w))
unfolding AtLeast
served_counts program asked w = (served_keeps (AtLeast (next_serial w)) (at_least_kept (next_serial w)) program asked w (le_refl (next_serial w))).at_end

-- ---- services

module _ (d : Driver) (t : ℕ) (set : List Cell) (outer : List (List Cell)) (w : World) (g : IsGuarded (set ∷ outer) w) (o : IsOrdered w) (asked : Asked) where
  asks_is : serves d (held d) t asked (viewed (set ∷ outer) w) ≡ asks d t set outer asked w
  asks_is = upcalls_are_viewed.asks d t set outer asked w g.upcall g.older o

  pub asked_on : (results : List Wire) (w1 : World) (more : List Cell) → Ended results w1 ≡ served d.program asked w → more ≡ set ++ new_cells d.program (touched_by d.plan t) (next_serial w) w1.memory
      → Ended results (viewed (more ∷ outer) w1) ≡ serves d (held d) t asked (viewed (set ∷ outer) w)
  asked_on results w1 more is gains =
      ap (λ x. Ended results (viewed (x ∷ outer) w1)) gains
      ∙ ap (λ r. after_beside (set ∷ outer) r (λ results w'. Ended results (viewed ((set ++ new_cells d.program (touched_by d.plan t) (next_serial w) w'.memory) ∷ outer) w'))) is
      ∙ sym asks_is

  pub asked_out : (kind : StopKind) (at : Option At) (w1 : World) → ◌≡◌ {A = Ran (List Wire)} (Stopped kind at w1) (served d.program asked w) → ◌≡◌ {A = Ran (List Wire)} (Stopped kind at (viewed (set ∷ outer) w1)) (serves d (held d) t asked (viewed (set ∷ outer) w))
  asked_out kind at w1 is =
      ap (λ r. after_beside (set ∷ outer) r (λ results w'. Ended results (viewed ((set ++ new_cells d.program (touched_by d.plan t) (next_serial w) w'.memory) ∷ outer) w'))) is
      ∙ sym asks_is

  -- an upcall is open then too, and the set is older
  pub asked_beside : (r : Ran (List Wire)) (w1 : World) → left r ≡ w1 → r ≡ served d.program asked w → IsGuarded (set ∷ outer) w1
  asked_beside r w1 at is =
      let b = served_beside d.program asked (set ∷ outer) w (record { upcall = g.upcall; older = g.older; some = refl }) in
      subst (λ x. IsGuarded (set ∷ outer) x) (sym (ap left is) ∙ at) (record { upcall = b.upcall; older = b.older })

  pub asked_counts : (r : Ran (List Wire)) (w1 : World) → left r ≡ w1 → r ≡ served d.program asked w → next_serial w ≤ next_serial w1
  asked_counts r w1 at is = subst (λ x. next_serial w ≤ next_serial x) (sym (ap left is) ∙ at) (served_counts d.program asked w)

pub served_left : (s : Served) (at : At) (w : World) → left (served_as s at w) ≡ w
served_left (served_is.Done vs) at w = refl
served_left (served_is.Stop kind) at w = refl

-- a set whose cells are older than so many births
pub older_now : (set : List Cell) (w : World) (n : ℕ) → ((c : Cell) → is_in cells set c ≡ true → c.serial < n) → n ≡ births_in w.lives → IsOlder set w
older_now set w n older is = λ c h. subst (λ x. c.serial < x) is (older c h)

-- ---- in an upcall

module _ (u : Upcall) (w : Driven) (set : List Cell) (outer : List (List Cell)) (gd : Driven) (is : driver w.program (viewed (set ∷ outer) w.world) ≡ gd) (same : gd.program ≡ program_in u) (g : IsGuarded (set ∷ outer) w.world) (o : IsOrdered w.world) where
  program_is : w.program ≡ program_in u
  program_is = ap (λ (d : Driven). d.program) is ∙ same

  world_is : viewed (set ∷ outer) w.world ≡ gd.world
  world_is = ap (λ (d : Driven). d.world) is

  module _ (q : Question) (s : Served) (w1 : Driven) (so : served_as s q.at w1.world ≡ served w.program (asked_as q) w.world) where
    so_now : served_as s q.at w1.world ≡ served (program_in u) (asked_as q) w.world
    so_now = so ∙ ap (λ p. served p (asked_as q) w.world) program_is

    pub ask_counts : (next n : ℕ) → next ≡ births_in w.world.lives → n ≡ births_in w1.world.lives → next ≤ n
    ask_counts next n e f =
        let h : births_in w.world.lives ≤ births_in w1.world.lives = asked_counts (driver_in u.watch) u.func set outer w.world g o (asked_as q) (served_as s q.at w1.world) w1.world (served_left s q.at w1.world) so_now in
        omega (arith, h, e, f)

    -- no tick comes back
    pub ask_spends : w1.world.clock.rest ≤ w.world.clock.rest
    ask_spends =
        subst (λ (x : World). x.clock.rest ≤ w.world.clock.rest) (sym (ap left so_now) ∙ served_left s q.at w1.world)
        ((kernel_keeps_ticks (program_in u) true).serves (asked_as q) w.world)

    ask_beside : IsGuarded (set ∷ outer) w1.world
    ask_beside = asked_beside (driver_in u.watch) u.func set outer w.world g o (asked_as q) (served_as s q.at w1.world) w1.world (served_left s q.at w1.world) so_now

    pub ask_stays : IsGuarded (set ∷ outer) w1.world
    ask_stays = ask_beside

    pub ask_gains : (more : List Cell) (n : ℕ) → ((c : Cell) → is_in cells more c ≡ true → c.serial < n) → n ≡ births_in w1.world.lives → IsGuarded (more ∷ outer) w1.world
    ask_gains more n older e = let b = ask_beside in record { upcall = b.upcall; older = (older_now more w1.world n older e, b.older.1) }

    pub ask_on : (results : List Value) (more : List Cell) (next : ℕ) (keys : List Key) (m : Memory) (r : Driven) → s ≡ served_is.Done results → next ≡ births_in w.world.lives → keys ≡ touched_by u.watch.plan.now u.func → m ≡ w1.world.memory
        → more ≡ set ++ new_cells (program_in u) keys next m → r ≡ driver w1.program (viewed (more ∷ outer) w1.world) → Ended (wires_of results) r.world ≡ serves (driver_in u.watch) (held (driver_in u.watch)) u.func (asked_as q) gd.world
    ask_on results more next keys m r done n k e gains there =
        ap (λ (d : Driven). Ended (wires_of results) d.world) there
        ∙ asked_on (driver_in u.watch) u.func set outer w.world g o (asked_as q) (wires_of results) w1.world more (sym (ap (λ x. served_as x q.at w1.world) done) ∙ so_now)
        (gains ∙ ap (λ x. set ++ new_cells (program_in u) x next m) k ∙ ap (λ x. set ++ new_cells (program_in u) (touched_by u.watch.plan.now u.func) x m) n ∙ ap (λ x. set ++ new_cells (program_in u) (touched_by u.watch.plan.now u.func) (next_serial w.world) x) e)
        ∙ ap (serves (driver_in u.watch) (held (driver_in u.watch)) u.func (asked_as q)) world_is

    pub ask_out : (kind : StopKind) (r : Driven) → s ≡ served_is.Stop kind → r ≡ driver w1.program (viewed (set ∷ outer) w1.world)
        → ◌≡◌ {A = Ran (List Wire)} (Stopped kind (Some q.at) r.world) (serves (driver_in u.watch) (held (driver_in u.watch)) u.func (asked_as q) gd.world)
    ask_out kind r stop there =
        ap (λ (d : Driven). Stopped kind (Some q.at) d.world) there
        ∙ asked_out (driver_in u.watch) u.func set outer w.world g o (asked_as q) kind (Some q.at) w1.world (sym (ap (λ x. served_as x q.at w1.world) stop) ∙ so_now)
        ∙ ap (serves (driver_in u.watch) (held (driver_in u.watch)) u.func (asked_as q)) world_is

-- ---- code of the kernel half that may call back

module _ (program : Program) (side : Side) (sets : List (List Cell)) (w : World) where
  far_viewed : (g : Far) → viewing_went sets (went_as program side g w) ≡ went_as program side g (viewed sets w)
  far_viewed (far.Gave (gave_is.Value v)) = refl
  far_viewed (far.Gave (gave_is.Stopped kind at)) = refl
  far_viewed (far.Calls c p) = refl

  far_left : (g : Far) → went_left (went_as program side g w) ≡ w
  far_left (far.Gave (gave_is.Value v)) = refl
  far_left (far.Gave (gave_is.Stopped kind at)) = refl
  far_left (far.Calls c p) = refl

-- how far it went with nothing beside its world it goes with sets in it
module _ (watch : Watch) (code : Code) (is : driver_code code ≡ kernel_of (driver_in watch)) (set : List Cell) (outer : List (List Cell)) (w w1 : World) (guarded : IsGuarded (set ∷ outer) w) (t : Program → Side → Tree) (g : Far) (went : went_in code g w1 ≡ goes_in false code (t code.program.now (side_of code)) w) where
  abbrev d : Driver
  d = driver_in watch

  went_beside : went_as watch.program.now d.kernel g w1 ≡ kernel_goes d nothing (t watch.program.now d.kernel) w
  went_beside = subst (λ (k : KernelCode). went_as k.program k.side g w1 ≡ goes (accesses k.program all_cells) (served k.program) nothing (t k.program k.side) w) is went

  seen_beside : IsWentViewed (set ∷ outer) (kernel_goes d (interrupts (kernel_of d)) (t watch.program.now d.kernel) (viewed (set ∷ outer) w)) (kernel_goes d nothing (t watch.program.now d.kernel) w)
  seen_beside = kernel_code_is_viewed.goes d (t watch.program.now d.kernel) set outer w guarded.upcall guarded.older

  pub below_is : came_below watch g (viewed (set ∷ outer) w1) ≡ kernel_went watch (t watch.program.now d.kernel) (viewed (set ∷ outer) w)
  below_is = sym (far_viewed watch.program.now d.kernel (set ∷ outer) w1 g) ∙ ap (viewing_went (set ∷ outer)) went_beside ∙ sym seen_beside.is

  pub below_stays : IsGuarded (set ∷ outer) w1
  below_stays = subst (λ x. IsGuarded (set ∷ outer) x) (sym (ap went_left went_beside) ∙ far_left watch.program.now d.kernel (set ∷ outer) w1 g) (record { upcall = seen_beside.upcall; older = seen_beside.older })

-- where code of the kernel half gave a result the innermost set is taken anew
pub back_goes : (u : Upcall) (set : List Cell) (outer : List (List Cell)) (w gd : Driven) (c : Call) (sent : List Wire) (v : Wire) (r : Ran Wire) → driver w.program (viewed (set ∷ outer) w.world) ≡ gd → IsGuarded (set ∷ outer) w.world → IsOrdered w.world
    → sent ≡ wires_of c.args → r ≡ returns (driver_in u.watch) u.func set outer c.at c.func sent v w.world → r ≡ comes_back u c v gd.world
back_goes u set outer w gd c sent v r is g o are back =
    back
    ∙ ap (λ xs. returns (driver_in u.watch) u.func set outer c.at c.func xs v w.world) are
    ∙ sym (upcalls_are_viewed.back (driver_in u.watch) u.func set outer c.at c.func (wires_of c.args) v w.world g.older o)
    ∙ ap (λ (d : Driven). comes_back u c v d.world) is

-- the cells of a set that was taken are of blocks that live
pub live_now : (program : Program) (keys : List Key) (m : Memory) (known set : List Cell) (r : Roots) (x : Result (List Cell) Failing) (w : World) → IsOrdered w → m ≡ w.memory → answered x ≡ visible program keys m known r → x ≡ Ok set → AreLive w.memory set
live_now program keys m known set r x w o e is same = sets_are_viewed.taken program keys known r set w o (sym (sym (ap answered same) ∙ is ∙ ap (λ z. visible program keys z known r) e))

pub live_if : (program : Program) (keys : List Key) (m : Memory) (known : List Cell) (r : Roots) (x : Result (List Cell) Failing) (w : World) → IsOrdered w → m ≡ w.memory → answered x ≡ visible program keys m known r → IfOk x (λ set. AreLive w.memory set)
live_if program keys m known r (Ok set) w o e is = live_now program keys m known set r (Ok set) w o e is refl
live_if program keys m known r (Err failing) w o e is = tt
