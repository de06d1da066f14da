-- A driver's code stands from event to event, up to its next call of the other half.
use Rattle.std.proofs.Common.{◌≡◌, ℕ, zero, suc, ◌+◌, ◌-◌, ◌≤◌, true, List, [], ◌∷◌, Option, Some, Result, Ok, Err, refl, sym, ◌∙◌, ap, arith, le_refl, subst}
use mathlib.Core.Path.{fun_ext}
use Rattle.mdr_core.specs.declared.place.At.{At}
use Rattle.mdr_core.specs.declared.program.Program.{Program}
use Rattle.mdr_core.specs.declared.stop.StopKind.{StopKind}
use Rattle.mdr_core.specs.declared.stop.StopKind.TheVariants as stop
use Rattle.mdr_core.specs.declared.value.Value.{Value}
use Rattle.mdr_events.specs.declared.event.Asked.{Asked as Question}
use Rattle.mdr_events.specs.declared.event.Event.{Event}
use Rattle.mdr_events.specs.declared.event.Event.TheVariants as event
use Rattle.mdr_events.specs.Events.{asked_as}
use Rattle.mdr_events.specs.Going.{RanTo}
use Rattle.mdr_events.specs.Held.{Held, bare, tree}
use Rattle.mdr_events.specs.Running.{WantsTick}
use Rattle.mdr_events.specs.Steps.{child}
use Rattle.mdr_events.specs.Values.{wires_of}
use Rattle.mdr_meaning.specs.declared.wire.Wire.{Wire}
use Rattle.mdr_meaning.specs.declared.wire.Wire.TheVariants as wire
use Rattle.mdr_meaning.specs.Bodies.{started}
use Rattle.mdr_meaning.specs.Cut.{cut}
use Rattle.mdr_meaning.specs.Sides.{Side}
use Rattle.mdr_meaning.specs.Tree.{Tree}
use Rattle.mdr_meaning.specs.Values.{wire_of}
use Rattle.mdr_meaning.specs.Walk.{Accesses, Reached, Walked, on_access, walk}
use Rattle.mdr_model.specs.Memory.{normal}
use Rattle.mdr_plain.specs.Laws.{GivesNoTicks}
use Rattle.mdr_plain.specs.Running.{Before, Setting, Went, Gave, Calls, all_cells, gave_after, gave_counted, gave_given, goes, run}
use Rattle.mdr_plain.specs.Services.{served}
use Rattle.mdr_plain.specs.Storage.{accesses}
use Rattle.mdr_plain.specs.World.{World, Ran, Ended, Stopped, Work, advanced, done, left}
use Rattle.mdr_meaning.proofs.CutLaws.{cut_cut}
use Rattle.mdr_runs.specs.Around.{IsSeenBy, KeepsTicks, Wants}
use Rattle.mdr_runs.specs.Following.{setting_by}
use Rattle.mdr_runs.specs.Pausing.{finishes}
use Rattle.mdr_runs.specs.Upto.{Stands, goes_answered, goes_behind, goes_by, goes_held, went_left}
use Rattle.mdr_runs.proofs.Around.{at_most, child_cut, kernel_keeps_ticks, runs_keep_ticks}
use Rattle.mdr_runs.proofs.Pausing.{goes_cut, goes_finishes, same_gave_after}
use Rattle.mdr_runs.proofs.Standing.{Came, Comes, came, from_none, from_one, memory_is}
use Rattle.mdr_runs.proofs.Walked.{walk_at_most}

module _ (program : Program) (before : Before) where
  -- its accesses and services; what it calls of the other half is not looked at
  abbrev plainly : Setting
  plainly = setting_by program true

  keeps : KeepsTicks plainly
  keeps = kernel_keeps_ticks program true

  -- ---- by its walk

  -- what follows what a walk without ticks reaches
  abbrev pub goes_reached : Reached → World → Went
  goes_reached Reached.Idles w = Gave (Ended wire.NoValue w)
  goes_reached (Reached.Opens k) w = Gave (Ended wire.NoValue w)
  goes_reached (Reached.Ended v t) w = Gave (Ended (normal w.memory v) w)
  goes_reached (Reached.Stopped kind at) w = Gave (Stopped kind (Some at) w)
  goes_reached (Reached.Needs at d t) w = gave_after (before d w) (λ x w'. gave_counted w'.clock.rest at w' (λ w''. goes_by program before t w''))
  goes_reached (Reached.Asks a k) w = gave_after (served program a w) (λ results w'. goes_by program before (k results) w')
  goes_reached (Reached.Crosses at f args d k) w = Calls at f args d (λ v. cut w.clock.rest (k v)) w

  abbrev goes_walk : Walked World → Went
  goes_walk x = goes_reached x.reached x.memory

  accessed : {A : Type 0} (r : Result A StopKind) (at : At) (w : World) (go : A → Went) (walks : A → Walked World)
      → ((x : A) → go x ≡ goes_walk (walks x)) → gave_given r at w go ≡ goes_walk (on_access r at w 0 walks)
  accessed (Ok x) at w go walks each = each x
  accessed (Err kind) at w go walks each = refl

  walks_up : (t : Tree) (w : World) → goes_by program before t w ≡ goes_walk (walk (accesses program all_cells) 0 t w)
  unfolding goes walk
  walks_up Tree.Idle w = refl
  walks_up (Tree.Waits k) w = refl
  walks_up (Tree.Done v t) w = refl
  walks_up (Tree.Stop kind at) w = refl
  walks_up (Tree.Tick at d t) w = refl
  walks_up (Tree.Load at p k) w = accessed ((accesses program all_cells).load w p) at w _ _ (λ v. walks_up (k v) w)
  walks_up (Tree.Store at p v t) w = accessed ((accesses program all_cells).store w p v) at w _ _ (λ w'. walks_up t w')
  walks_up (Tree.Read at p n k) w = accessed ((accesses program all_cells).read w p n) at w _ _ (λ bytes. walks_up (k bytes) w)
  walks_up (Tree.Fresh at v k) w = accessed ((accesses program all_cells).fresh w v) at w _ _ (λ x. walks_up (k x) w)
  walks_up (Tree.Birth at shapes k) w = walks_up (k ((accesses program all_cells).birth w shapes).pointers) ((accesses program all_cells).birth w shapes).memory
  walks_up (Tree.Death at ps t) w = walks_up t ((accesses program all_cells).death w ps)
  walks_up (Tree.Ask a k) w = refl
  walks_up (Tree.Cross at f args d k) w = refl

  module _ (gives : GivesNoTicks before) where
    -- ---- of a tree no more counts than the ticks that are left

    pub cut_goes : (r : ℕ) (t : Tree) (w : World) → w.clock.rest ≤ r → goes_by program before (cut r t) w ≡ goes_by program before t w
    cut_goes r t w h = goes_cut plainly before keeps gives r t w h

    pub tree_goes : (side : Side) (f r : ℕ) (h : Held) (w : World) → r ≤ f → w.clock.rest ≤ r → goes_by program before (tree side f h r) w ≡ goes_held program side before f h w
    unfolding tree
    tree_goes side f r h w less enough =
        let more : w.clock.rest ≤ f = (let x : w.clock.rest ≤ r = enough in omega (arith, x, less)) in
        cut_goes r (bare side f h) w enough ∙ sym (cut_goes f (bare side f h) w more)

    pub child_goes : (side : Side) (f r : ℕ) (h : Held) (results : List Wire) (w : World) → r ≤ f → w.clock.rest ≤ r
        → goes_by program before (child (tree side f h r) results) w ≡ goes_answered program side before f h results w
    unfolding tree
    child_goes side f r h results w less enough =
        let more : w.clock.rest ≤ f = (let x : w.clock.rest ≤ r = enough in omega (arith, x, less)) in
        ap (λ t. goes_by program before t w) (child_cut r (bare side f h) results)
        ∙ cut_goes r (child (bare side f h) results) w enough
        ∙ sym (cut_goes f (child (bare side f h) results) w more)
        ∙ sym (ap (λ t. goes_by program before t w) (child_cut f (bare side f h) results))

    -- what follows a call, up to so many ticks, where the tree has more
    pub child_fewer : (side : Side) (f q r : ℕ) (h : Held) (vs : List Wire) → q ≤ r → r ≤ f → cut q (child (tree side f h r) vs) ≡ cut q (child (tree side f h f) vs)
    unfolding tree
    child_fewer side f q r h vs fewer less =
        let all : q ≤ f = omega (arith, fewer, less) in
        ap (cut q) (child_cut r (bare side f h) vs)
        ∙ cut_cut q r fewer (child (bare side f h) vs)
        ∙ sym (cut_cut q f all (child (bare side f h) vs))
        ∙ sym (ap (cut q) (child_cut f (bare side f h) vs))

    -- ---- what is left

    left_finishes : (g : Went) → left (finishes plainly before g) ≡ went_left g
    left_finishes (Gave ran) = refl
    left_finishes (Calls at f args d next w) = refl

    -- is what code leaves that may call nothing of the other half
    pub left_is : (t : Tree) (w : World) → left (run plainly before t w) ≡ went_left (goes_by program before t w)
    left_is t w = ap left (goes_finishes plainly before keeps gives t w) ∙ left_finishes (goes_by program before t w)

    pub goes_keep_ticks : (t : Tree) (w : World) → (went_left (goes_by program before t w)).clock.rest ≤ w.clock.rest
    goes_keep_ticks t w = subst (λ (x : World). x.clock.rest ≤ w.clock.rest) (left_is t w) (runs_keep_ticks plainly before keeps gives t w)

    -- ---- what follows an event

    pub tick_follows : (at : At) (d : ℕ) (t : Tree) (w : World) → goes_reached (Reached.Needs at d t) w ≡ goes_by program before (Tree.Tick at d t) w
    unfolding goes
    tick_follows at d t w = refl

    module _ {M : Type 0} (a : Accesses M) (world_in : M → World) (program_in : M → Program) (seen : IsSeenBy (accesses program all_cells) a world_in program_in program) where
      by_walk : (t : Tree) (m : M) → program_in m ≡ program → goes_by program before t (world_in m) ≡ goes_reached (walk a 0 t m).reached (world_in (walk a 0 t m).memory)
      by_walk t m same = walks_up t (world_in m) ∙ ap goes_walk (seen.walks 0 t m same)

      walk_least : (t : Tree) (m : M) (r : ℕ) → program_in m ≡ program → (world_in m).clock.rest ≤ r → (world_in (walk a 0 t m).memory).clock.rest ≤ r
      walk_least t m r same h = subst (λ (x : Walked World). x.memory.clock.rest ≤ r) (seen.walks 0 t m same) (walk_at_most plainly keeps r 0 t (world_in m) h)

      event_follows : (side : Side) (f r : ℕ) (h' : Held) (m m' : M) (e : Event) (t : Tree) → program_in m ≡ program → Wants side h' e → Comes a side f t m e h' m' 0 r → r ≤ f → (world_in m').clock.rest ≤ r
          → goes_by program before t (world_in m) ≡ goes_behind program side before f h' e (world_in m')
      unfolding walk
      event_follows side f r h' m m' (event.Done v) t same w is less h = by_walk t m same ∙ ap (λ (x : Walked M). goes_reached x.reached (world_in x.memory)) is
      event_follows side f r h' m m' (event.Stop kind at) t same w is less h = by_walk t m same ∙ ap (λ (x : Walked M). goes_reached x.reached (world_in x.memory)) is
      event_follows side f r h' m m' (event.Service q) t same w is less h =
          by_walk t m same
          ∙ ap (λ (x : Walked M). goes_reached x.reached (world_in x.memory)) is
          ∙ same_gave_after r (served program (asked_as q) (world_in m')) _ (goes_answered program side before f h')
          (at_most (left (served program (asked_as q) (world_in m'))).clock.rest (world_in m').clock.rest r (keeps.serves (asked_as q) (world_in m')) h)
          (λ results w' few. child_goes side f r _ results w' less few)
      event_follows side f r h' m m' (event.Cross c) t same w is less h =
          by_walk t m same
          ∙ ap (λ (x : Walked M). goes_reached x.reached (world_in x.memory)) is
          ∙ ap (λ next. Calls c.at c.func (wires_of c.args) c.depth next (world_in m')) (fun_ext (λ v. child_fewer side f (world_in m').clock.rest r h' (v ∷ []) h less))
      event_follows side f r h' m m' (event.TicksOut at) t same w is less h =
          by_walk t m same
          ∙ ap (λ (x : Walked M). goes_reached x.reached (world_in x.memory)) (is ∙ ap (λ u. walk a 0 u m') (w.by f r).1)
          ∙ tick_follows at _ (w.by f r).0 (world_in m')
          ∙ sym (ap (λ u. goes_by program before u (world_in m')) (w.by f r).1)
          ∙ tree_goes side f r h' (world_in m') less h

      -- code at an event
      pub record WentUpto (side : Side) (f : ℕ) (all : Went) (h : Held) (e : Event) (m : M) : Type 0 where
        pub stands : Stands program side before f all h e (world_in m)
        pub same : program_in m ≡ program

      went : (side : Side) (f r : ℕ) (all : Went) (h' : Held) (m m' : M) (e : Event) (t : Tree) → program_in m ≡ program → Wants side h' e → Comes a side f t m e h' m' 0 r → r ≤ f → (world_in m).clock.rest ≤ r
          → goes_by program before t (world_in m) ≡ all → WentUpto side f all h' e m'
      went side f r all h' m m' e t same w is less h all_is =
          let memory : (walk a 0 t m).memory ≡ m' = memory_is a side f t m e h' m' r w is in
          let least : (world_in m').clock.rest ≤ r = subst (λ x. (world_in x).clock.rest ≤ r) memory (walk_least t m r same h) in
          record {
            stands = record {
              is = sym (event_follows side f r h' m m' e t same w is less least) ∙ all_is;
              enough = omega (arith, least, less);
              wants = w;
            };
            same = ap program_in (sym memory) ∙ seen.stays 0 t m same;
          }

      -- it ran without a tick
      pub runs_upto : (side : Side) (h h' : Held) (m m' : M) (e : Event) (rest f : ℕ) → program_in m ≡ program → (world_in m).clock.rest ≤ f → RanTo a side h m 0 e h' m' rest
          → WentUpto side f (goes_held program side before f h (world_in m)) h' e m'
      runs_upto side h h' m m' e rest f same enough ran =
          let c : Came a side h m 0 e h' m' rest = came a side h m 0 e h' m' rest ran in
          went side f f _ h' m m' e (tree side f h f) same c.wants (from_none a side h m e h' m' rest f c.ran) (le_refl f) enough refl

      -- what is tried before a tick that is counted, and the tick
      tick_passes : (side : Side) (f d : ℕ) (h : Held) (at : At) (t : Tree) (w w' w'' : World) (n : ℕ) → tree side f h f ≡ Tree.Tick at d t
          → done w' ≡ before d w → w'.clock.rest ≡ suc n → w'' ≡ record w' { clock = advanced 1 w'.clock } → goes_by program before t w'' ≡ goes_held program side before f h w
      unfolding goes
      tick_passes side f d h at t w w' w'' n begins tried rest passed =
          ap (λ x. goes_by program before t x) passed
          ∙ sym (ap (λ x. gave_counted x at w' (λ v. goes_by program before t v)) rest)
          ∙ ap (λ x. gave_after x (λ y w'. gave_counted w'.clock.rest at w' (λ v. goes_by program before t v))) tried
          ∙ sym (ap (λ u. goes_by program before u w) begins)

      enough_left : (f d n : ℕ) (w w' w'' : World) → w.clock.rest ≤ f → done w' ≡ before d w → w'.clock.rest ≡ suc n → w'' ≡ record w' { clock = advanced 1 w'.clock }
          → (suc n ≤ f) × (w''.clock.rest ≡ n)
      enough_left f d n w w' w'' enough tried rest passed =
          let less : w'.clock.rest ≤ w.clock.rest = subst (λ (x : Work). (left x).clock.rest ≤ w.clock.rest) (sym tried) (gives d w) in
          let e : w.clock.rest ≤ f = enough in
          let now : w''.clock.rest ≡ w'.clock.rest - 1 = ap (λ (x : World). x.clock.rest) passed in
          let r : w'.clock.rest ≡ suc n = rest in
          (omega (arith, less, e, r), omega (arith, now, r))

      ticks_on : (side : Side) (h h' : Held) (at : At) (w w' : World) (m m' : M) (e : Event) (rest f n : ℕ) (all : Went)
          → program_in m ≡ program → Stands program side before f all h (event.TicksOut at) w → done w' ≡ before h.frame.here.depth w → w'.clock.rest ≡ suc n
          → world_in m ≡ record w' { clock = advanced 1 w'.clock } → RanTo a side h m 1 e h' m' rest → suc n ≤ f → (world_in m).clock.rest ≡ n → WentUpto side f all h' e m'
      ticks_on side h h' at w w' m m' e rest zero n all same x tried has passed ran more now = absurd (omega (arith, more))
      ticks_on side h h' at w w' m m' e rest (suc r) n all same x tried has passed ran more now =
          let c : Came a side h m 1 e h' m' rest = came a side h m 1 e h' m' rest ran in
          let least : (world_in m).clock.rest ≤ r = omega (arith, more, now) in
          let less : r ≤ suc r = omega arith in
          let wanted : WantsTick side h at h.frame.here.depth = x.wants in
          let begins = wanted.by (suc r) (suc r) in
          went side (suc r) r all h' m m' e begins.0 same c.wants (from_one a side h m e h' m' rest r at h.frame.here.depth begins.0 ran begins.1) less least
          (tick_passes side (suc r) h.frame.here.depth h at begins.0 w w' (world_in m) n begins.1 tried has passed ∙ x.is)

      -- it wanted a tick; what is tried before it was done, the tick was counted, and it ran with one tick
      pub ticks_upto : (side : Side) (h h' : Held) (at : At) (w w' : World) (m m' : M) (e : Event) (rest f n : ℕ) (all : Went)
          → program_in m ≡ program → Stands program side before f all h (event.TicksOut at) w → done w' ≡ before h.frame.here.depth w → w'.clock.rest ≡ suc n
          → world_in m ≡ record w' { clock = advanced 1 w'.clock } → RanTo a side h m 1 e h' m' rest → WentUpto side f all h' e m'
      ticks_upto side h h' at w w' m m' e rest f n all same x tried has passed ran =
          let y = enough_left f h.frame.here.depth n w w' (world_in m) x.enough tried has passed in
          ticks_on side h h' at w w' m m' e rest f n all same x tried has passed ran y.0 y.1

    -- ---- a call is started, a question is answered

    -- held work that has the tree of a called function goes as the function does
    pub started_goes : (side : Side) (func : ℕ) (args : List Wire) (depth fuel : ℕ) (h : Held) (w : World) → w.clock.rest ≤ fuel → ((f r : ℕ) → r ≤ f → tree side f h r ≡ cut r (started side (f + 1) func args depth Tree.Idle))
        → goes_held program side before fuel h w ≡ goes_by program before (started side (suc fuel) func args depth Tree.Idle) w
    started_goes side func args depth fuel h w enough is =
        ap (λ t. goes_by program before t w) (is fuel fuel (le_refl fuel))
        ∙ cut_goes fuel (started side (fuel + 1) func args depth Tree.Idle) w enough
        ∙ ap (λ n. goes_by program before (started side n func args depth Tree.Idle) w) (let e : fuel + 1 ≡ suc fuel = omega arith in e)

  -- ---- ends

  module _ (side : Side) (fuel : ℕ) (all : Went) (h : Held) where
    pub value_ends : (v v' : Value) (w : World) → Stands program side before fuel all h (event.Done v) w → wire_of v' ≡ normal w.memory (wire_of v) → Gave (Ended (wire_of v') w) ≡ all
    value_ends v v' w x now = ap (λ u. Gave (Ended u w)) now ∙ x.is

    pub stop_ends : (kind : StopKind) (at : At) (w : World) → Stands program side before fuel all h (event.Stop kind at) w → Gave (Stopped kind (Some at) w) ≡ all
    stop_ends kind at w x = x.is

    -- a service stopped the run
    pub service_ends : (q : Question) (kind : StopKind) (at : Option At) (w w' : World) → Stands program side before fuel all h (event.Service q) w → ◌≡◌ {A = Ran (List Wire)} (Stopped kind at w') (served program (asked_as q) w)
        → Gave (Stopped kind at w') ≡ all
    service_ends q kind at w w' x is = ap (λ y. gave_after y (goes_answered program side before fuel h)) is ∙ x.is

    -- what a wanted tick comes to
    ticks_do : (at : At) (t : Tree) (w : World) → tree side fuel h fuel ≡ Tree.Tick at h.frame.here.depth t → goes_held program side before fuel h w ≡ all → (x : Work) → x ≡ before h.frame.here.depth w
        → gave_after x (λ y w'. gave_counted w'.clock.rest at w' (goes_by program before t)) ≡ all
    unfolding goes
    ticks_do at t w begins is x tried =
        ap (λ y. gave_after y (λ z w'. gave_counted w'.clock.rest at w' (goes_by program before t))) tried
        ∙ sym (ap (λ u. goes_by program before u w) begins)
        ∙ is

    -- what is tried before a tick stopped it
    pub try_ends : (at : At) (kind : StopKind) (place : Option At) (w w' : World) → Stands program side before fuel all h (event.TicksOut at) w → ◌≡◌ {A = Work} (Stopped kind place w') (before h.frame.here.depth w)
        → Gave (Stopped kind place w') ≡ all
    try_ends at kind place w w' x tried =
        let wanted : WantsTick side h at h.frame.here.depth = x.wants in
        ticks_do at (wanted.by fuel fuel).0 w (wanted.by fuel fuel).1 x.is (Stopped kind place w') tried

    -- the budget was used
    pub budget_ends : (at : At) (w w' : World) → Stands program side before fuel all h (event.TicksOut at) w → done w' ≡ before h.frame.here.depth w → w'.clock.rest ≡ 0 → Gave (Stopped stop.Ticks (Some at) w') ≡ all
    budget_ends at w w' x tried none =
        let wanted : WantsTick side h at h.frame.here.depth = x.wants in
        sym (ap (λ y. gave_counted y at w' (goes_by program before (wanted.by fuel fuel).0)) none)
        ∙ ticks_do at (wanted.by fuel fuel).0 w (wanted.by fuel fuel).1 x.is (done w') tried

    -- a service was served, and its question is answered
    pub service_answered : (h' : Held) (q : Question) (w w' : World) (results : List Wire) → Stands program side before fuel all h (event.Service q) w → Ended results w' ≡ served program (asked_as q) w
        → ((f r : ℕ) → tree side f h' r ≡ child (tree side f h r) results) → goes_held program side before fuel h' w' ≡ all
    service_answered h' q w w' results x is answer = ap (λ t. goes_by program before t w') (answer fuel fuel) ∙ ap (λ y. gave_after y (goes_answered program side before fuel h)) is ∙ x.is
