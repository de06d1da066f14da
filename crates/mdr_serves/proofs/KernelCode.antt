-- Code of the kernel half: every tree of it is run to its end, or through the calls back in it, by induction over the tree, where user code is served with one less of room.
use Rattle.std.proofs.Common.{◌≡◌, ℕ, zero, suc, ◌+◌, ◌*◌, ◌<◌, ◌≤◌, Bool, true, false, List, [], ◌++◌, length, map, Option, Some, None, Result, Ok, Err, refl, sym, ◌∙◌, ap, subst, arith, append_assoc, append-nil, le_refl}
use Rattle.mdr_callees.proofs.SpacedLaws.{crossings_are_spaced}
use Rattle.mdr_callees.specs.Spaced.{Spaced}
use Rattle.mdr_core.specs.declared.place.At.{At}
use Rattle.mdr_core.specs.declared.program.Func.{Func}
use Rattle.mdr_core.specs.declared.program.Param.{Param}
use Rattle.mdr_core.specs.declared.stop.StopKind.{StopKind}
use Rattle.mdr_core.specs.declared.stop.StopKind.TheVariants as stop
use Rattle.mdr_core.specs.declared.types.Ty.{Ty}
use Rattle.mdr_core.specs.Layout.{chosen}
use Rattle.mdr_core.specs.Services.{Service, service_numbered}
use Rattle.mdr_holds.proofs.Accesses.{fresh_is, loaded_fits, read_long, stored_later}
use Rattle.mdr_holds.proofs.Fitting.{all_now, result_now}
use Rattle.mdr_holds.proofs.Memories.{live_born}
use Rattle.mdr_holds.proofs.Objects.{AreDead, AreJoined, objects_born, objects_died, objects_stay}
use Rattle.mdr_holds.proofs.Services.{services_leave}
use Rattle.mdr_holds.proofs.States.{states_hold}
use Rattle.mdr_holds.proofs.Steps.{tick_later}
use Rattle.mdr_holds.specs.Holding.{Holds}
use Rattle.mdr_holds.specs.Laws.{GivesServed, HaveHalves, IsCalled}
use Rattle.mdr_holds.specs.Leaving.{AreObjects, IsAsBefore, Later, Leads, ended as leads_on, stopped as leads_out}
use Rattle.mdr_limits.proofs.FewSteps.{IsLater, Leads as Moves, births_later, deaths_later, interrupts_lead as interrupts_move, itself as stays, served_leads}
use Rattle.mdr_meaning.proofs.FairLaws.{trees_are_fair}
use Rattle.mdr_meaning.proofs.GrowthLaws.{result_grows}
use Rattle.mdr_meaning.specs.declared.shape.Shape64.{Shape64}
use Rattle.mdr_meaning.specs.declared.wire.Wire.{Wire}
use Rattle.mdr_meaning.specs.Cut.{cut}
use Rattle.mdr_meaning.specs.Fair.{AreBirths, AreBorn, FairTo, IsAsk, IsCall, IsPlace, IsServed, Leaves, LoadsScalar, after as left_with}
use Rattle.mdr_meaning.specs.Fit.{Fits, Grows, IsResult, Knowledge, PointsTo}
use Rattle.mdr_meaning.specs.Tree.{Asked, Tree}
use Rattle.mdr_meaning.specs.Within.{IsWithin as KeepsTo, Uses}
use Rattle.mdr_model.specs.declared.command.Command.{Command}
use Rattle.mdr_model.specs.declared.message.BirthKind.TheVariants.{Auto}
use Rattle.mdr_model.specs.declared.outcome.End.TheVariants as ends
use Rattle.mdr_model.specs.Agreement.{IsBelow}
use Rattle.mdr_model.specs.Memory.{Memory, loaded, normal, stored}
use Rattle.mdr_plain.specs.Atomic.{is_atomic}
use Rattle.mdr_plain.specs.Running.{Went, Gave, Calls, all_cells, call, gave_after, gave_counted, gave_given, goes, in_kernel, interrupts, run}
use Rattle.mdr_plain.specs.Scripts.{Finish, finish}
use Rattle.mdr_plain.specs.Services.{served}
use Rattle.mdr_plain.specs.Storage.{births, born, deaths, died, fresh as read_local, next_serial, read, remembers, with_memory}
use Rattle.mdr_plain.specs.World.{World, Ran, Stopped, Work, advanced, after, counted, given, then, ticked}
use Rattle.mdr_runs.proofs.Around.{accesses_keep_ticks, served_at_most}
use Rattle.mdr_runs.proofs.Pausing.{each_setting_pauses}
use Rattle.mdr_split.specs.Kernel.{calls, gave, kernel_tree, over, runs_kernel, split_commands, went}
use Rattle.mdr_split.specs.State.{Kernel, Base, Commanded, Down as CalledDown, Resumes, Pending}
use Rattle.mdr_split.specs.User.{Down as Below, is_deeper}
use Rattle.mdr_watched.proofs.KeepLaws.{IsKept, interrupts_keep}
use Rattle.mdr_watched.specs.Driver.{Driver, is_user}
use Rattle.mdr_watched.specs.Views.{closed}
use Rattle.mdr_watched.specs.Watched.{calls_back, held, kernel_of, may_not, upcall}
use Rattle.mdr_serves.proofs.AnswerParts.{first_objects}
use Rattle.mdr_serves.proofs.Answers.{after_behind, leaves_behind}
use Rattle.mdr_serves.proofs.Calls.{call_finishes}
use Rattle.mdr_serves.proofs.KernelWork.{agree_later, grows_on, interrupts_lead, uses_all}
use Rattle.mdr_serves.proofs.Messages.{all_narrow}
use Rattle.mdr_serves.proofs.Relations.{Agree, IsPaid, IsRight, grows_same, owing}
use Rattle.mdr_serves.proofs.Results.{normal_twice, passed_twice}
use Rattle.mdr_serves.proofs.Runs.{AreRun, AreServed, EndsOn, Finishes, GoesOn, Inside, is_over, paid_less, user_at}
use Rattle.mdr_serves.proofs.Whole.{Stays, objects_stay_so, upcall_stays}

-- ---- what follows a call back counts as far as the ticks that are left

abbrev Rests : ℕ → World → Type 0
Rests r w = w.clock.rest ≤ r

rests_kept : (r : ℕ) → IsKept (Rests r)
unfolding born died
rests_kept r = record {
  put = λ w c v e. e;
  keeping = λ w k e. e;
  device = λ w d e. e;
  tick = λ w e. omega (arith, e);
  birth = λ program kind s w e. e;
  death = λ w serial e. e;
}

goes_as_cut : (d : Driver) (r : ℕ) (t : Tree) (w : World) → w.clock.rest ≤ r → runs_kernel d (cut r t) w ≡ runs_kernel d t w
goes_as_cut d r t w le =
    each_setting_pauses.cut (in_kernel d.program may_not) (interrupts (kernel_of d))
    (accesses_keep_ticks d.program all_cells (served d.program) may_not (λ a w'. served_at_most d.program w'.clock.rest a w' (le_refl w'.clock.rest)) (λ at f args depth w'. le_refl w'.clock.rest))
    (λ depth w'. (interrupts_keep (Rests w'.clock.rest) (rests_kept w'.clock.rest) d depth w' (le_refl w'.clock.rest)).at_end) r t w le

-- a stop ends the run, wherever kernel code began
gave_stops : (d : Driver) (base : Base) (kind : StopKind) (at : Option At) (w : World) (k : Kernel) (go : Kernel → Pending) (script : List Command) → gave d base (Stopped kind at w) k go script ≡ over (ends.Stop kind at) w k
gave_stops d Commanded kind at w k go script = refl
gave_stops d (CalledDown at' f args upcall' rest) kind at w k go script = refl

-- ---- the induction

-- code that began there, behind which the run goes on, with so much room for calls back; it calls back with more than so many functions active
module _ (d : Driver) (uses : Uses) (right : IsRight d uses) (halves : HaveHalves d) (fuel budget : ℕ) (enough : budget < fuel) (n : ℕ) (inside : Inside d uses fuel budget n) (script : List Command) (result : Ty) (outer : List Wire) (base : Base) (below : List Below) (reserve : ℕ) (all : Ran Wire) (later : Ran Wire → Finish)
    (K0 KU0 : Knowledge) (on : EndsOn d uses fuel budget script K0 KU0 result outer base below reserve all later) (least : ℕ) (room : 256 ≤ n + least) (deeper : (d' : ℕ) → least < d' → is_deeper below d' ≡ true) where
  -- what is left of it on one memory
  abbrev whole : Tree → World → Ran Wire
  whole tree w = run (in_kernel d.program (calls_back d (held d) n)) (interrupts (kernel_of d)) tree w

  -- what it comes to leads to the whole run's end
  abbrev EndsBy : Kernel → Went → Type 0
  EndsBy k g = Finishes d uses fuel budget k.exchanges (went d base g k (λ k'. split_commands d script k') script) (user_at k.agreed outer below) (later all)

  -- what is owed is paid, and where the code may call back before its next tick there are six more
  pub record IsSpared (free : Bool) (k : Kernel) (w : World) : Type 0 where
    pub paid : IsPaid d uses (owing k.exchanges (length w.views) reserve) w
    pub spare : free ≡ true → owing k.exchanges (length w.views) reserve + 6 ≤ 6 * w.clock.ticks + 6 * w.kept.calls

  spared_later : (free : Bool) (k : Kernel) (w w' : World) → IsLater w w' → IsSpared free k w → IsSpared free k w'
  spared_later free k w w' e s = record {
    paid = record { six = omega (arith, s.paid.six, e.0, e.1, e.2); four = λ itself. let h = s.paid.four itself in omega (arith, h, e.0, e.1, e.2) };
    spare = λ yes. let h = s.spare yes in omega (arith, h, e.0, e.1, e.2);
  }

  -- from each state in which both halves agree the tree is run
  pub record RunsOn (free : Bool) (K : Knowledge) (live : List Wire) (tree : Tree) : Type 0 where
    pub by : (KU : Knowledge) (k : Kernel) (w : World) → Grows KU0 KU → Agree d uses budget K KU k.agreed w → AreObjects w.memory 0 (outer ++ live) → IsSpared free k w → whole tree w ≡ all → EndsBy k (runs_kernel d tree w)

  -- the whole run stops here
  stops_here : (k : Kernel) (w : World) (kind : StopKind) (at : Option At) → IsPaid d uses (owing k.exchanges (length w.views) reserve) w → Stopped kind at w ≡ all → EndsBy k (Gave (Stopped kind at w))
  stops_here k w kind at paid eq =
      let fin : finish (ends.Stop kind at) w ≡ later all = sym (on.stops kind at w) ∙ ap later eq in
      subst (λ (p : Pending). Finishes d uses fuel budget k.exchanges p (user_at k.agreed outer below) (later all)) (sym (gave_stops d base kind at w k (λ k'. split_commands d script k') script))
      (subst (λ (f : Finish). Finishes d uses fuel budget k.exchanges (over (ends.Stop kind at) w k) (user_at k.agreed outer below) f) fin
      (is_over (ends.Stop kind at) (record k { world = w }) (user_at k.agreed outer below) (paid_less (2 * k.exchanges) (omega arith) paid)))

  paid_later : (k : Kernel) (w w' : World) → IsLater w w' → IsPaid d uses (owing k.exchanges (length w.views) reserve) w → IsPaid d uses (owing k.exchanges (length w'.views) reserve) w'
  paid_later k w w' e paid = record { six = omega (arith, paid.six, e.0, e.1, e.2); four = λ itself. let h = paid.four itself in omega (arith, h, e.0, e.1, e.2) }

  -- objects live on where no old block but an allocated one died
  objects_later : (K K' : Knowledge) (w w' : World) (objects : List Wire) → IsBelow (next_serial w) w.memory → Later d.program (next_serial w) K w K' w' → AreObjects w.memory 0 objects → AreObjects w'.memory 0 objects
  objects_later K K' w w' objects low l are = objects_stay w.memory w'.memory (λ s b e q. l.stays s b (low s (live_born w.memory s b e)) e q) 0 objects are

  -- ---- ends and ticks

  done_runs : (free : Bool) (K : Knowledge) (live : List Wire) (v : Wire) (under : Tree) → Grows K0 K → IsResult d.program K result v → RunsOn free K live (Tree.Done v under)
  unfolding run goes
  done_runs free K live v under up fits = record {
    by = λ KU k w more agree objects spared eq. on.by K KU up more k (normal w.memory v) w (result_now d.program K w.memory result v fits) (sym eq) (normal_twice w.memory v) agree spared.paid;
  }

  stop_runs : (free : Bool) (K : Knowledge) (live : List Wire) (kind : StopKind) (at : At) → RunsOn free K live (Tree.Stop kind at)
  unfolding run goes
  stop_runs free K live kind at = record { by = λ KU k w more agree objects spared eq. stops_here k w kind (Some at) spared.paid eq }

  tick_runs : (free : Bool) (K : Knowledge) (live : List Wire) (at : At) (depth : ℕ) (next' : Tree) → ((K' : Knowledge) → Grows K K' → RunsOn true K' live next') → RunsOn free K live (Tree.Tick at depth next')
  unfolding run goes
  tick_runs free K live at depth next' onward = record {
    by = λ KU k w more agree objects spared eq. of KU k w more agree objects spared.paid _ (interrupts_lead d uses right K w (uses_all agree) agree.holds depth) (interrupts_move w d depth w (stays w)) eq;
  }
    where
      counts : (K' : Knowledge) → Grows K K' → (KU : Knowledge) (k : Kernel) (w : World) → Grows KU0 KU → Agree d uses budget K' KU k.agreed w → AreObjects w.memory 0 (outer ++ live) → IsPaid d uses (owing k.exchanges (length w.views) reserve) w
          → (m : ℕ) → w.clock.rest ≡ m → counted m (Some at) w (λ w'. whole next' w') ≡ all → EndsBy k (gave_counted m at w (λ w'. runs_kernel d next' w'))
      counts K' up KU k w more agree objects paid zero e eq = stops_here k w stop.Ticks (Some at) paid eq
      counts K' up KU k w more agree objects paid (suc q) e eq =
          let w' : World = record w { clock = advanced 1 w.clock } in
          (onward K' up).by KU k w' more (agree_later d uses budget K' KU k.agreed w w' (next_serial w) K' agree (tick_later d.program (next_serial w) K' w q agree.holds e)) objects
          (record { paid = record { six = omega (arith, paid.six); four = λ itself. let h = paid.four itself in omega (arith, h) }; spare = λ yes. omega (arith, paid.six) }) eq

      of : (KU : Knowledge) (k : Kernel) (w : World) → Grows KU0 KU → Agree d uses budget K KU k.agreed w → AreObjects w.memory 0 (outer ++ live) → IsPaid d uses (owing k.exchanges (length w.views) reserve) w
          → (ran : Work) → Leads (Later d.program (next_serial w) K w) (λ K' x w'. IsAsBefore w w') ran → Moves w ran → then ran (λ w'. ticked (Some at) w' (λ w''. whole next' w'')) ≡ all
          → EndsBy k (gave_after ran (λ x w'. gave_counted w'.clock.rest at w' (λ w''. runs_kernel d next' w'')))
      of KU k w more agree objects paid _ (leads_on K' x w' l g) moves eq =
          counts K' l.grows KU k w' more (agree_later d uses budget K KU k.agreed w w' (next_serial w) K' agree l) (objects_later K K' w w' (outer ++ live) agree.holds.low l objects) (paid_later k w w' moves.at_end paid) w'.clock.rest refl eq
      of KU k w more agree objects paid _ (leads_out K' kind at' w' l) moves eq = stops_here k w' kind at' (paid_later k w w' moves.at_end paid) eq

  -- ---- accesses

  load_runs : (free : Bool) (K : Knowledge) (live : List Wire) (at : At) (p : Wire) (next' : Wire → Tree) (ty : Ty) → PointsTo d.program K ty p → LoadsScalar ty p → ((v : Wire) → Fits d.program K ty v → RunsOn free K live (next' v)) → RunsOn free K live (Tree.Load at p next')
  unfolding run goes
  load_runs free K live at p next' ty points scalar onward = record { by = λ KU k w more agree objects spared eq. of KU k w more agree objects spared (loaded (all_cells w) w.memory p) refl eq }
    where
      of : (KU : Knowledge) (k : Kernel) (w : World) → Grows KU0 KU → Agree d uses budget K KU k.agreed w → AreObjects w.memory 0 (outer ++ live) → IsSpared free k w
          → (x : Result Wire StopKind) → loaded (all_cells w) w.memory p ≡ x → given x at w (λ v. whole (next' v) w) ≡ all → EndsBy k (gave_given x at w (λ v. runs_kernel d (next' v) w))
      of KU k w more agree objects spared (Ok v) e eq = (onward v (loaded_fits d.program right.driver.sound K w agree.holds (all_cells w) ty p v points scalar e)).by KU k w more agree objects spared eq
      of KU k w more agree objects spared (Err kind) e eq = stops_here k w kind (Some at) spared.paid eq

  store_runs : (free : Bool) (K : Knowledge) (live : List Wire) (at : At) (p v : Wire) (next' : Tree) (ty : Ty) → PointsTo d.program K ty p → Fits d.program K ty v → RunsOn free K live next' → RunsOn free K live (Tree.Store at p v next')
  unfolding run goes
  store_runs free K live at p v next' ty points fits onward = record { by = λ KU k w more agree objects spared eq. of KU k w more agree objects spared (stored (all_cells w) w.memory p v) refl eq }
    where
      of : (KU : Knowledge) (k : Kernel) (w : World) → Grows KU0 KU → Agree d uses budget K KU k.agreed w → AreObjects w.memory 0 (outer ++ live) → IsSpared free k w
          → (x : Result Memory StopKind) → stored (all_cells w) w.memory p v ≡ x → given (remembers w x) at w (λ w'. whole next' w') ≡ all → EndsBy k (gave_given (remembers w x) at w (λ w'. runs_kernel d next' w'))
      of KU k w more agree objects spared (Ok m) e eq =
          let l : Later d.program (next_serial w) K w K (with_memory w m) = stored_later d.program right.driver.sound K w agree.holds (all_cells w) (next_serial w) ty p v m points fits e in
          onward.by KU k (with_memory w m) more (agree_later d uses budget K KU k.agreed w (with_memory w m) (next_serial w) K agree l) (objects_later K K w (with_memory w m) (outer ++ live) agree.holds.low l objects)
          (record { paid = record { six = spared.paid.six; four = spared.paid.four }; spare = spared.spare }) eq
      of KU k w more agree objects spared (Err kind) e eq = stops_here k w kind (Some at) spared.paid eq

  read_runs : (free : Bool) (K : Knowledge) (live : List Wire) (at : At) (p : Wire) (count : ℕ) (next' : List ℕ → Tree) → ((bs : List ℕ) → length bs ≡ count → RunsOn free K live (next' bs)) → RunsOn free K live (Tree.Read at p count next')
  unfolding run goes
  read_runs free K live at p count next' onward = record { by = λ KU k w more agree objects spared eq. of KU k w more agree objects spared (read (all_cells w) w.memory p count) refl eq }
    where
      of : (KU : Knowledge) (k : Kernel) (w : World) → Grows KU0 KU → Agree d uses budget K KU k.agreed w → AreObjects w.memory 0 (outer ++ live) → IsSpared free k w
          → (x : Result (List ℕ) StopKind) → read (all_cells w) w.memory p count ≡ x → given x at w (λ bs. whole (next' bs) w) ≡ all → EndsBy k (gave_given x at w (λ bs. runs_kernel d (next' bs) w))
      of KU k w more agree objects spared (Ok bs) e eq = (onward bs (read_long (all_cells w) w.memory p count bs e)).by KU k w more agree objects spared eq
      of KU k w more agree objects spared (Err kind) e eq = stops_here k w kind (Some at) spared.paid eq

  fresh_runs : (free : Bool) (K : Knowledge) (live : List Wire) (at : At) (v : Wire) (next' : Wire → Tree) → RunsOn free K live (next' v) → RunsOn free K live (Tree.Fresh at v next')
  unfolding run goes
  fresh_runs free K live at v next' onward = record { by = λ KU k w more agree objects spared eq. of KU k w more agree objects spared (read_local w.memory v) refl eq }
    where
      of : (KU : Knowledge) (k : Kernel) (w : World) → Grows KU0 KU → Agree d uses budget K KU k.agreed w → AreObjects w.memory 0 (outer ++ live) → IsSpared free k w
          → (x : Result Wire StopKind) → read_local w.memory v ≡ x → given x at w (λ y. whole (next' y) w) ≡ all → EndsBy k (gave_given x at w (λ y. runs_kernel d (next' y) w))
      of KU k w more agree objects spared (Ok x) e eq = (subst (λ (y : Wire). RunsOn free K live (next' y)) (fresh_is w.memory v x e) onward).by KU k w more agree objects spared eq
      of KU k w more agree objects spared (Err kind) e eq = stops_here k w kind (Some at) spared.paid eq

  -- ---- objects of its own locals, and services

  birth_runs : (free : Bool) (K : Knowledge) (live : List Wire) (at : At) (shapes : List Shape64) (next' : List Wire → Tree) → AreBirths d.program shapes
      → ((K' : Knowledge) → Grows K K' → (ps : List Wire) → AreBorn d.program K' shapes ps → RunsOn free K' (live ++ ps) (next' ps)) → RunsOn free K live (Tree.Birth at shapes next')
  unfolding run goes
  birth_runs free K live at shapes next' sized onward = record {
    by = λ KU k w more agree objects spared eq.
        let joined : AreJoined d.program 0 (outer ++ live) shapes K w = objects_born d.program right.driver.sound 0 (outer ++ live) shapes sized K w (omega arith) agree.holds objects in
        let ps : List Wire = (births d.program Auto shapes w).pointers in
        let w' : World = (births d.program Auto shapes w).memory in
        (onward joined.known joined.later.grows ps joined.born).by KU k w' more (agree_later d uses budget K KU k.agreed w w' 0 joined.known agree joined.later)
        (subst (AreObjects w'.memory 0) (append_assoc outer live ps) joined.objects) (spared_later free k w w' (births_later w d.program Auto shapes w (stays w)) spared) eq;
  }

  death_runs : (free : Bool) (K : Knowledge) (live remains : List Wire) (at : At) (ps : List Wire) (next' : Tree) → live ≡ remains ++ ps → RunsOn free K remains next' → RunsOn free K live (Tree.Death at ps next')
  unfolding run goes
  death_runs free K live remains at ps next' same onward = record {
    by = λ KU k w more agree objects spared eq.
        let split : outer ++ live ≡ (outer ++ remains) ++ ps = ap (λ (xs : List Wire). outer ++ xs) same ∙ sym (append_assoc outer remains ps) in
        let dead : AreDead d.program 0 (outer ++ remains) ps K w = objects_died d.program right.driver.sound 0 (outer ++ remains) ps K w agree.holds (subst (AreObjects w.memory 0) split objects) in
        onward.by KU k (deaths ps w) more (agree_later d uses budget K KU k.agreed w (deaths ps w) 0 K agree dead.later) dead.objects (spared_later free k w (deaths ps w) (deaths_later w ps w (stays w)) spared) eq;
  }

  ask_runs : (free : Bool) (K : Knowledge) (live remains : List Wire) (asked : Asked) (s : Service) (next' : List Wire → Tree) → service_numbered asked.service ≡ Some s → IsAsk d.program K asked s → Leaves s asked live remains
      → ((K' : Knowledge) → Grows K K' → (rs : List Wire) → IsServed d.program K' asked s rs → RunsOn free K' (left_with s remains rs) (next' rs)) → RunsOn free K live (Tree.Ask asked next')
  unfolding run goes
  ask_runs free K live remains asked s next' numbered ask leaves onward = record {
    by = λ KU k w more agree objects spared eq.
        of KU k w more agree spared _
        (services_leave.serve d.program right.driver.sound uses K w (uses_all agree) agree.holds 0 (outer ++ live) (outer ++ remains) asked s (omega arith) objects numbered ask (leaves_behind s asked outer live remains leaves))
        (served_leads w d.program asked w (stays w)) eq;
  }
    where
      of : (KU : Knowledge) (k : Kernel) (w : World) → Grows KU0 KU → Agree d uses budget K KU k.agreed w → IsSpared free k w
          → (ran : Ran (List Wire)) → Leads (Later d.program 0 K w) (GivesServed d.program asked s 0 (outer ++ remains) w) ran → Moves w ran → after ran (λ rs w'. whole (next' rs) w') ≡ all
          → EndsBy k (gave_after ran (λ rs w'. runs_kernel d (next' rs) w'))
      of KU k w more agree spared _ (leads_on K' rs w' l g) moves eq =
          (onward K' l.grows rs g.served).by KU k w' more (agree_later d uses budget K KU k.agreed w w' 0 K' agree l) (subst (AreObjects w'.memory 0) (after_behind s outer remains rs) g.objects) (spared_later free k w w' moves.at_end spared) eq
      of KU k w more agree spared _ (leads_out K' kind at' w' l) moves eq = stops_here k w' kind at' (paid_later k w w' moves.at_end spared.paid) eq

  -- ---- calls back

  module _ (free : Bool) (K : Knowledge) (live : List Wire) (at : At) (f : ℕ) (func : Func) (args : List Wire) (d' : ℕ) (next' : Wire → Tree) (place : IsPlace d.kernel at) (none : d.kernel.own f ≡ None) (crosses : IsCall d.program K func at.func f args d') (is_free : free ≡ true) (deep : least < d')
      (onward : (K' : Knowledge) → Grows K K' → (v : Wire) → IsResult d.program K' func.result v → RunsOn false K' live (next' v)) where
    -- what follows the upcall in the whole run
    abbrev behind : Ran Wire → Ran Wire
    behind ran = after ran (λ v w'. whole (next' v) w')

    abbrev passed : World → List Wire
    passed w = map (normal w.memory) args

    abbrev next_cut : World → Wire → Tree
    next_cut w v = cut w.clock.rest (next' v)

    user_now : (b : Bool) → is_user d.plan f ≡ b → is_user d.plan f ≡ true
    user_now true e = e
    user_now false e = let there = halves.kernel f func crosses.names e in let both : None ≡ Some there.0 = sym none ∙ there.1 in absurd (Prim.cc)

    called_now : (w : World) → IsCalled d.program K f func (passed w)
    called_now w = record { names = crosses.names; fit = all_now d.program K w.memory args (map (λ (p : Param). p.ty) func.params) crosses.fit }

    -- the upcall returned, and the code goes on
    resumes : (m : ℕ) (KU : Knowledge) (w : World) → Grows KU0 KU → Holds d.program K w → K.uses ≡ uses → AreObjects w.memory 0 (outer ++ live) → behind (upcall d (held d) (calls_back d (held d) m) f (passed w) d' w) ≡ all
        → GoesOn d uses fuel budget script K KU func.result outer (Resumes (next_cut w) base) below reserve (upcall d (held d) (calls_back d (held d) m) f (passed w) d' w) (λ ran. later (behind ran))
    resumes m KU w more holds same objects eq = record {
      by = λ K' KU' up grows k' v fits is agree' paid.
          let w2 : World = closed k'.world in
          let s : Stays w w2 = upcall_stays d uses right m K w w2 f func (passed w) d' v same holds (called_now w) is in
          subst (λ (ran : Ran Wire). Finishes d uses fuel budget k'.exchanges (went d base (runs_kernel d (next_cut w v) w2) k' (λ k''. split_commands d script k'') script) (user_at k'.agreed outer below) (later ran)) (sym eq)
          (subst (λ (g : Went). EndsBy k' g) (sym (goes_as_cut d w.clock.rest (next' v) w2 (omega (arith, s.time, s.later))))
          ((onward K' up v (result_grows d.program KU' K' agree'.grows func.result v fits)).by KU' k' w2 (grows_on KU0 KU KU' more grows) agree' (objects_stay_so d.program K w w2 (outer ++ live) holds s objects)
          (record { paid = record { six = paid.six; four = paid.four }; spare = λ no. absurd (Prim.cc) })
          (sym (ap behind is) ∙ eq)));
      stops = on.stops;
    }

    nested : (m : ℕ) → n ≡ suc m → AreServed d uses fuel budget m → (KU : Knowledge) (k : Kernel) (w : World) → Grows KU0 KU → Agree d uses budget K KU k.agreed w → AreObjects w.memory 0 (outer ++ live) → IsSpared free k w
        → behind (upcall d (held d) (calls_back d (held d) m) f (passed w) d' w) ≡ all
        → Finishes d uses fuel budget k.exchanges (calls d f d' (passed w) w k (Resumes (next_cut w) base) script) (user_at k.agreed outer below) (later all)
    nested m e served_in KU k w more agree objects spared eq =
        let gives : Ran Wire = upcall d (held d) (calls_back d (held d) m) f (passed w) d' w in
        let called : uses.calls at.func f ≡ true = subst (λ (u : Uses). u.calls at.func f ≡ true) (uses_all agree) crosses.calls in
        subst (λ (ran : Ran Wire). Finishes d uses fuel budget k.exchanges (calls d f d' (passed w) w k (Resumes (next_cut w) base) script) (user_at k.agreed outer below) (later ran)) eq
        (call_finishes d uses right fuel budget enough m served_in f func (passed w) d' crosses.limited (omega (arith, room, e, deep)) crosses.names (user_now (is_user d.plan f) refl) K KU script outer (Resumes (next_cut w) base) below reserve gives (λ ran. later (behind ran))
        (resumes m KU w more agree.holds (uses_all agree) objects eq)
        k w agree (first_objects w.memory 0 outer live objects) (deeper d' deep) (passed_twice w.memory args)
        (λ K' globals grows known. all_narrow d.program K K' w.memory grows (passed w) (map (λ (p : Param). p.ty) func.params) (passed_twice w.memory args) known (called_now w).fit)
        (record { six = spared.spare is_free; four = λ itself. absurd (itself at.func f place.body place.own called none) }) refl)

    cross_runs : RunsOn free K live (Tree.Cross at f args d' next')
    unfolding run goes calls_back
    cross_runs = record { by = λ KU k w more agree objects spared eq. of n refl inside KU k w more agree objects spared eq }
      where
        by_test : (m : ℕ) → n ≡ suc m → AreServed d uses fuel budget m → (KU : Knowledge) (k : Kernel) (w : World) → Grows KU0 KU → Agree d uses budget K KU k.agreed w → AreObjects w.memory 0 (outer ++ live) → IsSpared free k w
            → (b : Bool) → behind (chosen b (Stopped stop.Atomic (Some at) w) (upcall d (held d) (calls_back d (held d) m) f (passed w) d' w)) ≡ all
            → Finishes d uses fuel budget k.exchanges (chosen b (over (ends.Stop stop.Atomic (Some at)) w k) (calls d f d' (passed w) w k (Resumes (next_cut w) base) script)) (user_at k.agreed outer below) (later all)
        by_test m e served_in KU k w more agree objects spared true eq =
            let fin : finish (ends.Stop stop.Atomic (Some at)) w ≡ later all = sym (on.stops stop.Atomic (Some at) w) ∙ ap later eq in
            subst (λ (x : Finish). Finishes d uses fuel budget k.exchanges (over (ends.Stop stop.Atomic (Some at)) w k) (user_at k.agreed outer below) x) fin
            (is_over (ends.Stop stop.Atomic (Some at)) (record k { world = w }) (user_at k.agreed outer below) (paid_less (2 * k.exchanges) (omega arith) spared.paid))
        by_test m e served_in KU k w more agree objects spared false eq = nested m e served_in KU k w more agree objects spared eq

        of : (m : ℕ) → n ≡ m → Inside d uses fuel budget m → (KU : Knowledge) (k : Kernel) (w : World) → Grows KU0 KU → Agree d uses budget K KU k.agreed w → AreObjects w.memory 0 (outer ++ live) → IsSpared free k w
            → behind (calls_back d (held d) n at f args d' w) ≡ all
            → EndsBy k (Calls at f args d' (next_cut w) w)
        of zero e none_in KU k w more agree objects spared eq = let no : ⊥ = omega (arith, room, e, deep, crosses.limited) in elim no [ ]
        of (suc m) e served_in KU k w more agree objects spared eq =
            by_test m e served_in KU k w more agree objects spared (is_atomic w) (ap (λ (x : ℕ). behind (calls_back d (held d) x at f args d' w)) (sym e) ∙ eq)

  -- ---- every fair tree whose calls back are spaced and deeper is run

  pub runs_on : (tree : Tree) (free : Bool) (K : Knowledge) (live : List Wire) → Grows K0 K → FairTo 256 d.program d.kernel result K live tree → Spaced least free tree → RunsOn free K live tree
  runs_on Tree.Idle free K live up fair spaced = elim fair [ ]
  runs_on (Tree.Waits k) free K live up fair spaced = elim fair [ ]
  runs_on (Tree.Done v under) free K live up fair spaced = done_runs free K live v under up fair.0
  runs_on (Tree.Stop kind at) free K live up fair spaced = stop_runs free K live kind at
  runs_on (Tree.Tick at depth t) free K live up fair spaced = tick_runs free K live at depth t (λ K' grows. runs_on t true K' live (grows_on K0 K K' up grows) (fair.3 K' grows) spaced)
  runs_on (Tree.Load at p k) free K live up fair spaced = load_runs free K live at p k fair.1.0 fair.1.1 fair.1.2 (λ v fits. runs_on (k v) free K live up (fair.1.3 v fits) (spaced v))
  runs_on (Tree.Store at p v t) free K live up fair spaced = store_runs free K live at p v t fair.1.0 fair.1.1 fair.1.2 (runs_on t free K live up fair.2 spaced)
  runs_on (Tree.Read at p c k) free K live up fair spaced = read_runs free K live at p c k (λ bs long. runs_on (k bs) free K live up (fair.2 bs long) (spaced bs))
  runs_on (Tree.Fresh at v k) free K live up fair spaced = fresh_runs free K live at v k (runs_on (k v) free K live up fair.2 (spaced v))
  runs_on (Tree.Birth at shapes k) free K live up fair spaced = birth_runs free K live at shapes k fair.1 (λ K' grows ps born. runs_on (k ps) free K' (live ++ ps) (grows_on K0 K K' up grows) (fair.2 K' grows ps born) (spaced ps))
  runs_on (Tree.Death at ps t) free K live up fair spaced = death_runs free K live fair.2.0 at ps t fair.2.1 (runs_on t free K fair.2.0 up fair.2.2 spaced)
  runs_on (Tree.Ask a k) free K live up fair spaced =
      ask_runs free K live fair.1.3.0 a fair.1.0 k fair.1.1 fair.1.2 fair.1.3.1 (λ K' grows rs given'. runs_on (k rs) free K' (left_with fair.1.0 fair.1.3.0 rs) (grows_on K0 K K' up grows) (fair.1.3.2 K' grows rs given') (spaced rs))
  runs_on (Tree.Cross at f args d' k) free K live up fair spaced =
      cross_runs free K live at f fair.2.0 args d' k fair.0 fair.1 fair.2.1 spaced.0 spaced.1 (λ K' grows v fits. runs_on (k v) false K' live (grows_on K0 K K' up grows) (fair.2.2 K' grows v fits) (spaced.3 v))

-- ---- a function of the kernel half that is called

pub are_run : (d : Driver) (uses : Uses) → IsRight d uses → HaveHalves d → (fuel budget : ℕ) → budget < fuel → (n : ℕ) → Inside d uses fuel budget n → AreRun d uses fuel budget n
unfolding call
are_run d uses right halves fuel budget enough n inside f func args depth limited room body own K KU called script outer base below reserve all later on deeper k w agree objects paid eq =
    let tree : Tree = kernel_tree d f args depth w in
    let within : KeepsTo d.program d.kernel K.uses = subst (λ (u : Uses). KeepsTo d.program d.kernel u) (sym (uses_all agree)) right.driver.kernel.within in
    let fair : FairTo 256 d.program d.kernel func.result K [] tree =
    trees_are_fair d.program right.driver.sound d.kernel right.driver.kernel.bodies (suc w.clock.rest) f func K args depth
    (record { globals = states_hold.globals d.program K w agree.holds; within = within; names = called.names; body = body; own = own; fit = called.fit; limited = omega (arith, limited) }) Tree.Idle in
    let spaced : Spaced depth false tree = crossings_are_spaced d.kernel (suc w.clock.rest) f args depth body own Tree.Idle in
    (runs_on d uses right halves fuel budget enough n inside script func.result outer base below reserve all later K KU on depth room deeper tree false K [] (grows_same K) fair spaced).by KU k w (grows_same KU) agree
    (subst (AreObjects w.memory 0) (sym (append-nil outer)) objects) (record { paid = paid; spare = λ no. absurd (Prim.cc) }) eq
