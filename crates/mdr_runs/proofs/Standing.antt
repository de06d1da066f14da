-- Code that runs stands from event to event, whatever stands around it.
use Rattle.std.proofs.Common.{◌≡◌, ℕ, zero, suc, ◌+◌, ◌-◌, ◌≤◌, List, [], ◌∷◌, Some, refl, sym, ◌∙◌, ap, arith, le_refl, subst}
use Rattle.mdr_core.specs.declared.place.At.{At}
use Rattle.mdr_core.specs.declared.program.Program.{Program}
use Rattle.mdr_events.specs.declared.event.Event.{Event}
use Rattle.mdr_events.specs.declared.event.Event.TheVariants as event
use Rattle.mdr_events.specs.Events.{asked_as}
use Rattle.mdr_events.specs.Going.{RanTo}
use Rattle.mdr_events.specs.Held.{Held, tree}
use Rattle.mdr_events.specs.Running.{RunsTo, WantsTick}
use Rattle.mdr_events.specs.Steps.{after as came_after}
use Rattle.mdr_events.specs.Values.{wires_of}
use Rattle.mdr_meaning.specs.declared.wire.Wire.{Wire}
use Rattle.mdr_meaning.specs.Bodies.{started}
use Rattle.mdr_meaning.specs.Sides.{Side}
use Rattle.mdr_meaning.specs.Tree.{Tree}
use Rattle.mdr_meaning.specs.Walk.{Accesses, Reached, Walked, walk}
use Rattle.mdr_plain.specs.Laws.{GivesNoTicks, follows as follows_reached, follows_walk}
use Rattle.mdr_plain.specs.Running.{Before, Setting, run}
use Rattle.mdr_plain.specs.World.{World, Ran, Work, advanced, after, counted, done, left, then, ticked}
use Rattle.mdr_plain.proofs.RunLaws.{walks_on}
use Rattle.mdr_runs.specs.Anywhere.{CallIsStarted, CrossingIsAnswered, EachSettingRuns, EachSettingStands, RunStands, ServiceIsAnswered, TickStands}
use Rattle.mdr_runs.specs.Around.{IsSeenBy, KeepsTicks, StandsIn, Wants, WentIn, answered_in, came_to, follows_in, goes_on_in}
use Rattle.mdr_runs.proofs.Around.{at_most, child_runs, cut_runs, runs_keep_ticks, same_after, tree_runs}
use Rattle.mdr_runs.proofs.Walked.{left_few, walk_at_most}

-- ---- a run up to an event

module _ {M : Type 0} (a : Accesses M) where
  -- what a run says of the walk, and of the tick that is wanted
  pub record Came (side : Side) (h : Held) (m : M) (ticks : ℕ) (e : Event) (h' : Held) (m' : M) (rest : ℕ) : Type 0 where
    pub ran : RunsTo a side h m ticks (came_to e) h' m' rest
    pub wants : Wants side h' e

  pub came : (side : Side) (h : Held) (m : M) (ticks : ℕ) (e : Event) (h' : Held) (m' : M) (rest : ℕ) → RanTo a side h m ticks e h' m' rest → Came side h m ticks e h' m' rest
  came side h m ticks (event.Done v) h' m' rest r = record { ran = r; wants = tt }
  came side h m ticks (event.Cross c) h' m' rest r = record { ran = r; wants = tt }
  came side h m ticks (event.Service q) h' m' rest r = record { ran = r; wants = tt }
  came side h m ticks (event.Stop kind at) h' m' rest r = record { ran = r; wants = tt }
  came side h m ticks (event.TicksOut at) h' m' rest r = record { ran = r.1; wants = r.2 }

  -- the walk of a tree comes to an event without a tick
  abbrev pub Comes : Side → (fuel : ℕ) → Tree → M → Event → Held → M → (rest r : ℕ) → Type 0
  Comes side f t m e h' m' rest r = walk a 0 t m ≡ came_after a side f (came_to e) h' m' rest r

  -- its memory is the one that is left
  pub memory_is : (side : Side) (f : ℕ) (t : Tree) (m : M) (e : Event) (h' : Held) (m' : M) (r : ℕ) → Wants side h' e → Comes side f t m e h' m' 0 r → (walk a 0 t m).memory ≡ m'
  unfolding walk
  memory_is side f t m (event.Done v) h' m' r w is = ap (λ (x : Walked M). x.memory) is
  memory_is side f t m (event.Cross c) h' m' r w is = ap (λ (x : Walked M). x.memory) is
  memory_is side f t m (event.Service q) h' m' r w is = ap (λ (x : Walked M). x.memory) is
  memory_is side f t m (event.Stop kind at) h' m' r w is = ap (λ (x : Walked M). x.memory) is
  memory_is side f t m (event.TicksOut at) h' m' r w is =
      ap (λ (x : Walked M). x.memory) (is ∙ ap (λ u. walk a 0 u m') (w.by f r).1)

  -- without ticks in the end
  none_left : (side : Side) (f : ℕ) (t : Tree) (m : M) (e : Event) (h h' : Held) (m0 m' : M) (ticks rest r : ℕ) → RanTo a side h m0 ticks e h' m' rest → Comes side f t m e h' m' rest r → rest ≡ 0
  none_left side f t m (event.Done v) h h' m0 m' ticks rest r ran is = none_of rest (ap (λ (x : Walked M). x.left) is) where
    none_of : (n : ℕ) → (walk a 0 t m).left ≡ n → n ≡ 0
    none_of n e = let l : (walk a 0 t m).left ≤ 0 = left_few a 0 t m in omega (arith, e, l)
  none_left side f t m (event.Cross c) h h' m0 m' ticks rest r ran is = none_of rest (ap (λ (x : Walked M). x.left) is) where
    none_of : (n : ℕ) → (walk a 0 t m).left ≡ n → n ≡ 0
    none_of n e = let l : (walk a 0 t m).left ≤ 0 = left_few a 0 t m in omega (arith, e, l)
  none_left side f t m (event.Service q) h h' m0 m' ticks rest r ran is = none_of rest (ap (λ (x : Walked M). x.left) is) where
    none_of : (n : ℕ) → (walk a 0 t m).left ≡ n → n ≡ 0
    none_of n e = let l : (walk a 0 t m).left ≤ 0 = left_few a 0 t m in omega (arith, e, l)
  none_left side f t m (event.Stop kind at) h h' m0 m' ticks rest r ran is = none_of rest (ap (λ (x : Walked M). x.left) is) where
    none_of : (n : ℕ) → (walk a 0 t m).left ≡ n → n ≡ 0
    none_of n e = let l : (walk a 0 t m).left ≤ 0 = left_few a 0 t m in omega (arith, e, l)
  none_left side f t m (event.TicksOut at) h h' m0 m' ticks rest r ran is = ran.0

  -- a run without ticks, from the tree with all its fuel
  pub from_none : (side : Side) (h : Held) (m : M) (e : Event) (h' : Held) (m' : M) (rest f : ℕ) → RunsTo a side h m 0 (came_to e) h' m' rest → Comes side f (tree side f h f) m e h' m' 0 f
  from_none side h m e h' m' rest f ran =
      let few : rest ≤ 0 = ran.fewer in
      let zero_left : rest + 0 ≡ 0 = omega (arith, few) in
      let same : rest + f ≡ f = omega (arith, few) in
      let more : 0 + f ≡ f = omega arith in
      let none : 0 + 0 ≡ 0 = omega arith in
      let enough : 0 + f ≤ f = omega arith in
      sym (ap (λ x. walk a x (tree side f h f) m) none)
      ∙ sym (ap (λ x. walk a (0 + 0) (tree side f h x) m) more)
      ∙ ran.by f 0 f enough
      ∙ ap (λ x. came_after a side f (came_to e) h' m' x (rest + f)) zero_left
      ∙ ap (λ x. came_after a side f (came_to e) h' m' 0 x) same

  -- a run with one tick, from a tree that begins with it
  first_tick : (at : At) (d : ℕ) (t : Tree) (m : M) → walk a 1 (Tree.Tick at d t) m ≡ walk a 0 t m
  unfolding walk
  first_tick at d t m = refl

  pub from_one : (side : Side) (h : Held) (m : M) (e : Event) (h' : Held) (m' : M) (rest r : ℕ) (at : At) (d : ℕ) (t : Tree)
      → RanTo a side h m 1 e h' m' rest → tree side (suc r) h (suc r) ≡ Tree.Tick at d t → Comes side (suc r) t m e h' m' 0 r
  from_one side h m e h' m' rest r at d t ran is =
      let c : Came side h m 1 e h' m' rest = came side h m 1 e h' m' rest ran in
      let more : 1 + r ≡ suc r = omega arith in
      let one : 1 + 0 ≡ 1 = omega arith in
      let enough : 1 + r ≤ suc r = omega arith in
      let none : rest + 0 ≡ rest = omega arith in
      let walks : Comes side (suc r) t m e h' m' rest (rest + r) =
      sym (first_tick at d t m)
      ∙ sym (ap (λ u. walk a 1 u m) is)
      ∙ sym (ap (λ x. walk a x (tree side (suc r) h (suc r)) m) one)
      ∙ sym (ap (λ x. walk a (1 + 0) (tree side (suc r) h x) m) more)
      ∙ c.ran.by (suc r) 0 r enough
      ∙ ap (λ x. came_after a side (suc r) (came_to e) h' m' x (rest + r)) none in
      let zero_left : rest ≡ 0 = none_left side (suc r) t m e h h' m m' 1 rest (rest + r) ran walks in
      let same : rest + r ≡ r = omega (arith, zero_left) in
      walks ∙ ap (λ x. came_after a side (suc r) (came_to e) h' m' x (rest + r)) zero_left ∙ ap (λ x. came_after a side (suc r) (came_to e) h' m' 0 x) same

-- ---- a call is started, a question is answered

module _ (s : Setting) (before : Before) (keeps : KeepsTicks s) where
  pub call_is_started : GivesNoTicks before → CallIsStarted s before
  call_is_started gives side func args depth h w is =
      ap (λ t. run s before t w) (is w.clock.rest w.clock.rest (le_refl w.clock.rest))
      ∙ cut_runs s before keeps gives w.clock.rest (started side (w.clock.rest + 1) func args depth Tree.Idle) w (le_refl w.clock.rest)
      ∙ ap (λ n. run s before (started side n func args depth Tree.Idle) w) (let e : w.clock.rest + 1 ≡ suc w.clock.rest = omega arith in e)

  pub service_is_answered : ServiceIsAnswered s before
  service_is_answered side h h' q w w' results fuel all stands is answer = record {
    is = ap (λ t. run s before t w') (answer fuel fuel) ∙ ap (λ x. after x (answered_in s side before fuel h)) is ∙ stands.is;
    enough =
        let few : (left (s.serves (asked_as q) w)).clock.rest ≤ fuel = at_most (left (s.serves (asked_as q) w)).clock.rest w.clock.rest fuel (keeps.serves (asked_as q) w) stands.enough in
        subst (λ (x : Ran (List Wire)). (left x).clock.rest ≤ fuel) (sym is) few;
  }

  pub crossing_is_answered : CrossingIsAnswered s before
  crossing_is_answered side h h' c w w' v fuel all stands is answer = record {
    is = ap (λ t. run s before t w') (answer fuel fuel) ∙ ap (λ x. after x (λ u w1. answered_in s side before fuel h (u ∷ []) w1)) is ∙ stands.is;
    enough =
        let few : (left (s.crosses c.at c.func (wires_of c.args) c.depth w)).clock.rest ≤ fuel =
        at_most (left (s.crosses c.at c.func (wires_of c.args) c.depth w)).clock.rest w.clock.rest fuel (keeps.crosses c.at c.func (wires_of c.args) c.depth w) stands.enough in
        subst (λ (x : Ran Wire). (left x).clock.rest ≤ fuel) (sym is) few;
  }

-- ---- what follows an event

module _ (s : Setting) (before : Before) (keeps : KeepsTicks s) (gives : GivesNoTicks before) where
  tick_follows : (at : At) (d : ℕ) (t : Tree) (w : World) → follows_reached s before (Reached.Needs at d t) w ≡ run s before (Tree.Tick at d t) w
  unfolding run
  tick_follows at d t w = refl

  module _ {M : Type 0} (a : Accesses M) (world_in : M → World) (program_in : M → Program) (program : Program) (seen : IsSeenBy s.accesses a world_in program_in program) where
    -- what the tree does, by its walk
    by_walk : (t : Tree) (m : M) → program_in m ≡ program → run s before t (world_in m) ≡ follows_reached s before (walk a 0 t m).reached (world_in (walk a 0 t m).memory)
    by_walk t m same = walks_on s before t (world_in m) ∙ ap (follows_walk s before) (seen.walks 0 t m same)

    -- no ticks come back
    walk_least : (t : Tree) (m : M) (r : ℕ) → program_in m ≡ program → (world_in m).clock.rest ≤ r → (world_in (walk a 0 t m).memory).clock.rest ≤ r
    walk_least t m r same h = subst (λ (x : Walked World). x.memory.clock.rest ≤ r) (seen.walks 0 t m same) (walk_at_most s keeps r 0 t (world_in m) h)

    event_follows : (side : Side) (f r : ℕ) (h' : Held) (m m' : M) (e : Event) (t : Tree) → program_in m ≡ program → Wants side h' e → Comes a side f t m e h' m' 0 r → r ≤ f → (world_in m').clock.rest ≤ r
        → run s before t (world_in m) ≡ follows_in s side before f h' e (world_in m')
    unfolding walk
    event_follows side f r h' m m' (event.Done v) t same w is less h = by_walk t m same ∙ ap (λ (x : Walked M). follows_reached s before x.reached (world_in x.memory)) is
    event_follows side f r h' m m' (event.Stop kind at) t same w is less h = by_walk t m same ∙ ap (λ (x : Walked M). follows_reached s before x.reached (world_in x.memory)) is
    event_follows side f r h' m m' (event.Service q) t same w is less h =
        by_walk t m same
        ∙ ap (λ (x : Walked M). follows_reached s before x.reached (world_in x.memory)) is
        ∙ same_after r (s.serves (asked_as q) (world_in m')) _ (answered_in s side before f h')
        (at_most (left (s.serves (asked_as q) (world_in m'))).clock.rest (world_in m').clock.rest r (keeps.serves (asked_as q) (world_in m')) h)
        (λ results w' few. child_runs s before keeps gives side f r _ results w' less few)
    event_follows side f r h' m m' (event.Cross c) t same w is less h =
        by_walk t m same
        ∙ ap (λ (x : Walked M). follows_reached s before x.reached (world_in x.memory)) is
        ∙ same_after r (s.crosses c.at c.func (wires_of c.args) c.depth (world_in m')) _ (λ v w'. answered_in s side before f h' (v ∷ []) w')
        (at_most (left (s.crosses c.at c.func (wires_of c.args) c.depth (world_in m'))).clock.rest (world_in m').clock.rest r (keeps.crosses c.at c.func (wires_of c.args) c.depth (world_in m')) h)
        (λ v w' few. child_runs s before keeps gives side f r h' (v ∷ []) w' less few)
    event_follows side f r h' m m' (event.TicksOut at) t same w is less h =
        by_walk t m same
        ∙ ap (λ (x : Walked M). follows_reached s before x.reached (world_in x.memory)) (is ∙ ap (λ u. walk a 0 u m') (w.by f r).1)
        ∙ tick_follows at _ (w.by f r).0 (world_in m')
        ∙ sym (ap (λ u. run s before u (world_in m')) (w.by f r).1)
        ∙ tree_runs s before keeps gives side f r h' (world_in m') less h

    -- running code at an event
    went : (side : Side) (f r : ℕ) (all : Ran Wire) (h' : Held) (m m' : M) (e : Event) (t : Tree) → program_in m ≡ program → Wants side h' e → Comes a side f t m e h' m' 0 r → r ≤ f → (world_in m).clock.rest ≤ r
        → run s before t (world_in m) ≡ all → WentIn world_in program_in program s side before f all h' e m'
    went side f r all h' m m' e t same w is less h all_is =
        let memory : (walk a 0 t m).memory ≡ m' = memory_is a side f t m e h' m' r w is in
        let least : (world_in m').clock.rest ≤ r = subst (λ x. (world_in x).clock.rest ≤ r) memory (walk_least t m r same h) in
        record {
          stands = record {
            is = sym (event_follows side f r h' m m' e t same w is less least) ∙ all_is;
            enough = omega (arith, least, less);
            wants = w;
          };
          same = ap program_in (sym memory) ∙ seen.stays 0 t m same;
        }

    pub run_stands : RunStands s before a world_in program_in program
    run_stands side h h' m m' e rest f same enough ran =
        let c : Came a side h m 0 e h' m' rest = came a side h m 0 e h' m' rest ran in
        went side f f _ h' m m' e (tree side f h f) same c.wants (from_none a side h m e h' m' rest f c.ran) (le_refl f) enough refl

    -- what is tried before a tick that is counted, and the tick
    tick_passes : (side : Side) (f d : ℕ) (h : Held) (at : At) (t : Tree) (w w' w'' : World) (n : ℕ) → tree side f h f ≡ Tree.Tick at d t
        → done w' ≡ before d w → w'.clock.rest ≡ suc n → w'' ≡ record w' { clock = advanced 1 w'.clock } → run s before t w'' ≡ goes_on_in s side before f h w
    unfolding run
    tick_passes side f d h at t w w' w'' n begins tried rest passed =
        ap (λ x. run s before t x) passed
        ∙ sym (ap (λ x. counted x (Some at) w' (λ v. run s before t v)) rest)
        ∙ ap (λ x. then x (λ w'. ticked (Some at) w' (λ v. run s before t v))) tried
        ∙ sym (ap (λ u. run s before u w) begins)

    enough_left : (f d n : ℕ) (w w' w'' : World) → w.clock.rest ≤ f → done w' ≡ before d w → w'.clock.rest ≡ suc n → w'' ≡ record w' { clock = advanced 1 w'.clock }
        → (suc n ≤ f) × (w''.clock.rest ≡ n)
    enough_left f d n w w' w'' enough tried rest passed =
        let less : w'.clock.rest ≤ w.clock.rest = subst (λ (x : Work). (left x).clock.rest ≤ w.clock.rest) (sym tried) (gives d w) in
        let e : w.clock.rest ≤ f = enough in
        let now : w''.clock.rest ≡ w'.clock.rest - 1 = ap (λ (x : World). x.clock.rest) passed in
        let r : w'.clock.rest ≡ suc n = rest in
        (omega (arith, less, e, r), omega (arith, now, r))

    ticks_on : (side : Side) (h h' : Held) (at : At) (w w' : World) (m m' : M) (e : Event) (rest f n : ℕ) (all : Ran Wire)
        → program_in m ≡ program → StandsIn s side before f all h (event.TicksOut at) w → done w' ≡ before h.frame.here.depth w → w'.clock.rest ≡ suc n
        → world_in m ≡ record w' { clock = advanced 1 w'.clock } → RanTo a side h m 1 e h' m' rest → suc n ≤ f → (world_in m).clock.rest ≡ n
        → WentIn world_in program_in program s side before f all h' e m'
    ticks_on side h h' at w w' m m' e rest zero n all same x tried has passed ran more now = absurd (omega (arith, more))
    ticks_on side h h' at w w' m m' e rest (suc r) n all same x tried has passed ran more now =
        let c : Came a side h m 1 e h' m' rest = came a side h m 1 e h' m' rest ran in
        let least : (world_in m).clock.rest ≤ r = omega (arith, more, now) in
        let less : r ≤ suc r = omega arith in
        let wanted : WantsTick side h at h.frame.here.depth = x.wants in
        let begins = wanted.by (suc r) (suc r) in
        went side (suc r) r all h' m m' e begins.0 same c.wants (from_one a side h m e h' m' rest r at h.frame.here.depth begins.0 ran begins.1) less least
        (tick_passes side (suc r) h.frame.here.depth h at begins.0 w w' (world_in m) n begins.1 tried has passed ∙ x.is)

    pub tick_stands : TickStands s before a world_in program_in program
    tick_stands side h h' at w w' m m' e rest f n all same x tried has passed ran =
        let y = enough_left f h.frame.here.depth n w w' (world_in m) x.enough tried has passed in
        ticks_on side h h' at w w' m m' e rest f n all same x tried has passed ran y.0 y.1

pub each_setting_runs : EachSettingRuns
each_setting_runs = record {
  keeps = runs_keep_ticks;
  cut = cut_runs;
  started = call_is_started;
  served = service_is_answered;
  crossed = crossing_is_answered;
}

pub each_setting_stands : (M : Type 0) → EachSettingStands M
each_setting_stands M = record {
  run = λ s before keeps gives a world_in program_in program seen. run_stands s before keeps gives a world_in program_in program seen;
  tick = λ s before keeps gives a world_in program_in program seen. tick_stands s before keeps gives a world_in program_in program seen;
}
