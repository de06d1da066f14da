-- A machine that runs user code goes from event to event.
use Rattle.std.proofs.Common.{◌≡◌, ℕ, ◌+◌, ◌-◌, ◌≤◌, List, [], ◌∷◌, Option, Some, refl, sym, ◌∙◌, ap, subst, le_refl, arith}
use Rattle.mdr_core.specs.declared.place.At.{At}
use Rattle.mdr_core.specs.declared.plan.Half.{Half}
use Rattle.mdr_core.specs.declared.program.Program.{Program}
use Rattle.mdr_core.specs.declared.stop.StopKind.{StopKind}
use Rattle.mdr_core.specs.declared.stop.StopKind.TheVariants as stop
use Rattle.mdr_core.specs.declared.value.Value.{Value}
use Rattle.mdr_events.specs.declared.event.Asked.{Asked as Question}
use Rattle.mdr_events.specs.declared.event.Crossing.{Crossing as Call}
use Rattle.mdr_events.specs.declared.event.Event.{Event}
use Rattle.mdr_events.specs.declared.event.Event.TheVariants as event
use Rattle.mdr_events.specs.Events.{asked_as}
use Rattle.mdr_events.specs.Going.{LeavesAt, RanTo}
use Rattle.mdr_events.specs.Held.{tree}
use Rattle.mdr_events.specs.Ready.{IsReady}
use Rattle.mdr_events.specs.Steps.{child}
use Rattle.mdr_events.specs.Values.{wires_of}
use Rattle.mdr_exec.specs.declared.frame.Machine.{Machine}
use Rattle.mdr_exec.specs.declared.frame.Side.TheVariants as which
use Rattle.mdr_exec.specs.Halves.{side_in}
use Rattle.mdr_exec.specs.Holding.{Takes, held_of}
use Rattle.mdr_exec.proofs.ReadyLaws.{ran_leaves, takes_all}
use Rattle.mdr_meaning.specs.declared.wire.Wire.{Wire}
use Rattle.mdr_meaning.specs.Bodies.{body_of, started}
use Rattle.mdr_meaning.specs.Cut.{cut}
use Rattle.mdr_meaning.specs.Sides.{Side}
use Rattle.mdr_meaning.specs.Tree.{Tree}
use Rattle.mdr_meaning.specs.Values.{wire_of}
use Rattle.mdr_meaning.specs.Walk.{Walked, walk, walked}
use Rattle.mdr_model.specs.Memory.{normal}
use Rattle.mdr_plain.specs.Running.{nothing, run}
use Rattle.mdr_plain.specs.Storage.{accesses, next_serial}
use Rattle.mdr_plain.specs.World.{World, Clock, Ran, Ended, Stopped, advanced, after, left}
use Rattle.mdr_runs.specs.Around.{IsSeenBy, KeepsTicks, StandsIn, answered_in}
use Rattle.mdr_runs.proofs.EndsAnywhere.{budget_ends, crossing_ends, service_ends, stop_ends, value_ends}
use Rattle.mdr_runs.proofs.Many.{as_many_behind}
use Rattle.mdr_runs.proofs.Standing.{run_stands}
use Rattle.mdr_services.specs.declared.answer.Served.{Served}
use Rattle.mdr_services.specs.declared.answer.Served.TheVariants as served_is
use Rattle.mdr_services.specs.Serving.{served_as}
use Rattle.mdr_viewed.proofs.Ticks.{user_code_keeps_ticks}
use Rattle.mdr_watched.specs.Driver.{touched_by}
use Rattle.mdr_watched.specs.Views.{gained, may_touch}
use Rattle.mdr_world.specs.Driven.{Driven, driver}
use Rattle.mdr_world.proofs.WalkLaws.{drivers_walk}
use Rattle.mdr_whole.specs.declared.ending.Gave.{Gave}
use Rattle.mdr_whole.specs.declared.ending.Gave.TheVariants as gave
use Rattle.mdr_watch.specs.declared.next.Next.{Next}
use Rattle.mdr_watch.specs.declared.next.Next.TheVariants as next
use Rattle.mdr_whole.specs.Ending.{gave_as}
use Rattle.mdr_whole.proofs.Clocks.{at_clock}
use Rattle.mdr_watch.specs.declared.watch.Activation.{Activation}
use Rattle.mdr_watch.specs.declared.watch.Upcall.{Upcall}
use Rattle.mdr_watch.specs.Going.{Began, GoesOn, GoesOnWith, IsStarted, NextAt, RanThrough, StandsAt, held_in, program_in, user_does}
use Rattle.mdr_watch.specs.Guarding.{guarded_accesses}
use Rattle.mdr_watch.specs.Watching.{IsFit, around_user, backs_in, driver_in, user_side}
use Rattle.mdr_watch.proofs.Sides.{user_is}
use Rattle.mdr_watch.proofs.Through.{clock_stays, goes_through, nothing_gives}

abbrev world_in : Driven → World
world_in d = d.world

abbrev program_of : Driven → Program
program_of d = d.program

-- ---- the memory of user code is seen as a world

at_most : (fuel : ℕ) (w w1 w2 : World) → w1 ≡ w2 → w1.clock.rest ≤ w.clock.rest → w.clock.rest ≤ fuel → w2.clock.rest ≤ fuel
at_most fuel w w1 w2 same less enough = subst (λ (x : World). x.clock.rest ≤ fuel) same (omega (arith, less, enough))

-- a machine on the code of the user half
pub ran_user : (u : Upcall) → IsFit u.watch → (halves : List Half) → halves ≡ u.watch.plan.now.halves → (m m' : Machine) (d d' : Driven) (ticks : ℕ) (e : Event) (left : ℕ)
    → RanTo guarded_accesses (side_in which.User halves (program_in u)) (held_in u (record m { side = which.User })) d ticks e (held_in u m') d' left
    → RanTo guarded_accesses (user_side u) (held_in u m) d ticks e (held_in u m') d' left
unfolding held_of
ran_user u fit halves are m m' d d' ticks e left ran =
    subst (λ s. RanTo guarded_accesses s (held_in u m) d ticks e (held_in u m') d' left) (ap (λ hs. side_in which.User hs (program_in u)) are ∙ user_is (program_in u) u.watch.plan.now fit) ran

module _ (a : Activation) where
  abbrev prog : Program
  prog = program_in a.upcall

  pub keeps : KeepsTicks (around_user a)
  keeps = user_code_keeps_ticks.user (driver_in a.upcall.watch) a.upcall.func (backs_in a) (user_code_keeps_ticks.back (driver_in a.upcall.watch) a.room)

  seen : IsSeenBy (accesses prog may_touch) guarded_accesses world_in program_of prog
  seen = record {
    walks = λ n t m same.
        ap (λ p. walk (accesses p may_touch) n t m.world) (sym same) ∙ sym (ap (λ (x : Walked Driven). walked x.reached x.memory.world x.left) (drivers_walk may_touch n t m.program m.world));
    stays = λ n t m same. ap (λ (x : Walked Driven). x.memory.program) (drivers_walk may_touch n t m.program m.world) ∙ same;
  }

  -- ---- runs

  pub began : (m m' : Machine) (d d' : Driven) (e : Event) (rest : ℕ) → d.program ≡ prog → IsReady (held_in a.upcall m) → RanTo guarded_accesses (user_side a.upcall) (held_in a.upcall m) d 0 e (held_in a.upcall m') d' rest → Began a m d m' e d'
  began m m' d d' e rest same ready ran = λ fuel enough.
      let w = run_stands (around_user a) nothing keeps nothing_gives guarded_accesses world_in program_of prog seen (user_side a.upcall) (held_in a.upcall m) (held_in a.upcall m') d d' e rest fuel same enough ran in
      record { stands = w.stands; same = w.same; left = ran_leaves guarded_accesses (user_side a.upcall) (held_in a.upcall m) (held_in a.upcall m') d d' 0 e rest ready ran }

  -- ---- all ticks that are left

  spent_is : (ticks used : ℕ) → used ≤ ticks → ticks - (ticks - used) ≡ used
  spent_is ticks used less = let l : used ≤ ticks = less in omega (arith, l)

  module _ (m m' : Machine) (d d1 : Driven) (e : Event) (ticks used : ℕ) (same : d.program ≡ prog) (all_ticks : ticks ≡ d.world.clock.rest) (less : used ≤ ticks)
      (ran : RanTo guarded_accesses (user_side a.upcall) (held_in a.upcall m) d ticks e (held_in a.upcall m') d1 (ticks - used)) where
    pub ran_through : (d2 : Driven) → IsReady (held_in a.upcall m) → d2 ≡ driver d1.program (record d1.world { clock = advanced used d1.world.clock }) → RanThrough a m d m' e d2
    ran_through d2 ready counts = λ fuel all at s.
        let enough : ticks ≤ d.world.clock.rest = (let h : ticks ≡ d.world.clock.rest = all_ticks in omega (arith, h)) in
        let t = goes_through prog (around_user a).serves (around_user a).crosses keeps guarded_accesses world_in program_of seen (user_side a.upcall) d same (held_in a.upcall m) (held_in a.upcall m') d1 e at ticks (ticks - used) fuel all enough s.stands ran in
        let spent : StandsIn (around_user a) (user_side a.upcall) nothing fuel all (held_in a.upcall m') e (at_clock (advanced used d1.world.clock) d1.world) =
        subst (λ n. StandsIn (around_user a) (user_side a.upcall) nothing fuel all (held_in a.upcall m') e (at_clock (advanced n d1.world.clock) d1.world)) (spent_is ticks used less) t.stands in
        record {
          stands = subst (λ w. StandsIn (around_user a) (user_side a.upcall) nothing fuel all (held_in a.upcall m') e w) (sym (ap world_in counts)) spent;
          same = ap program_of counts ∙ t.same;
          left = ran_leaves guarded_accesses (user_side a.upcall) (held_in a.upcall m) (held_in a.upcall m') d d1 ticks e (ticks - used) ready ran;
        }

    -- no more are taken than the budget left
    pub none_beyond : used ≤ d1.world.clock.rest
    none_beyond =
        let stays : d1.world.clock ≡ d.world.clock =
        clock_stays prog (around_user a).serves (around_user a).crosses keeps guarded_accesses world_in program_of seen (user_side a.upcall) d same (held_in a.upcall m) (held_in a.upcall m') d1 e ticks (ticks - used) ran in
        let rest : d1.world.clock.rest ≡ d.world.clock.rest = ap (λ (c : Clock). c.rest) stays in
        let all : ticks ≡ d.world.clock.rest = all_ticks in
        let few : used ≤ ticks = less in
        omega (arith, rest, all, few)

  -- ---- a tick

  pub ticked_on : (at : At) (m m' : Machine) (d d' : Driven) (e : Event) → RanThrough a m d m' e d' → GoesOn a m (event.TicksOut at) d m' (next.Came e) d'
  ticked_on at m m' d d' e through = λ fuel all s. through fuel all at s

  -- none is left
  pub ticked_out : (at : At) (m m' : Machine) (d : Driven) → d.world.clock.rest ≡ 0 → GoesOn a m (event.TicksOut at) d m' (next.Gave (gave.Stopped stop.Ticks (Some at))) d
  ticked_out at m m' d none = λ fuel all s. (budget_ends (around_user a) (user_side a.upcall) nothing fuel all (held_in a.upcall m) at d.world d.world s.stands refl none, s.same)

  -- ---- answers

  pub resumed : (results : List Wire) (m m1 m' : Machine) (d d' : Driven) (e : Event) → ((f r : ℕ) → tree (user_side a.upcall) f (held_in a.upcall m1) r ≡ child (tree (user_side a.upcall) f (held_in a.upcall m) r) results)
      → Began a m1 d m' e d' → GoesOnWith a results m d m' (next.Came e) d'
  resumed results m m1 m' d d' e answer b = λ fuel all w.
      subst (λ x. StandsAt a fuel x m' e d') (ap (λ t. run (around_user a) nothing t d.world) (answer fuel fuel) ∙ w.is) (b fuel w.enough)

  module _ (m : Machine) (d : Driven) where
    pub served_on : (q : Question) (s : Served) (results : List Value) (d1 d' : Driven) (m' : Machine) (n : Next) → s ≡ served_is.Done results → served_as s q.at d1.world ≡ (around_user a).serves (asked_as q) d.world
        → GoesOnWith a (wires_of results) m d1 m' n d' → GoesOn a m (event.Service q) d m' n d'
    served_on q s results d1 d' m' n is so g = λ fuel all x.
        let ended : Ended (wires_of results) d1.world ≡ (around_user a).serves (asked_as q) d.world = sym (ap (λ y. served_as y q.at d1.world) is) ∙ so in
        g fuel all (record {
          is = ap (λ r. after r (answered_in (around_user a) (user_side a.upcall) nothing fuel (held_in a.upcall m))) ended ∙ x.stands.is;
          enough = at_most fuel d.world _ d1.world (ap left (sym ended)) (keeps.serves (asked_as q) d.world) x.stands.enough;
        })

    -- as many answers as it asks for
    pub takes_served : (q : Question) (s : Served) (results : List Value) (d1 : Driven) → s ≡ served_is.Done results → served_as s q.at d1.world ≡ (around_user a).serves (asked_as q) d.world
        → LeavesAt (event.Service q) (held_in a.upcall m) → Takes prog m results
    takes_served q s results d1 is so o =
        takes_all prog m (asked_as q) results o
        (as_many_behind prog (asked_as q) d.world d1.world (gained prog (touched_by a.upcall.watch.plan.now a.upcall.func) (next_serial d.world)) results (sym (ap (λ y. served_as y q.at d1.world) is) ∙ so))

    pub served_out : (q : Question) (s : Served) (kind : StopKind) (d1 : Driven) (m' : Machine) → s ≡ served_is.Stop kind → d1.program ≡ prog → served_as s q.at d1.world ≡ (around_user a).serves (asked_as q) d.world
        → GoesOn a m (event.Service q) d m' (next.Gave (gave.Stopped kind (Some q.at))) d1
    served_out q s kind d1 m' is kept so = λ fuel all x.
        (service_ends (around_user a) (user_side a.upcall) nothing fuel all (held_in a.upcall m) q kind (Some q.at) d.world d1.world x.stands (sym (ap (λ y. served_as y q.at d1.world) is) ∙ so), kept)

    pub crossed_on : (c : Call) (g : Gave) (v : Value) (d1 d' : Driven) (m' : Machine) (n : Next) → g ≡ gave.Value v → gave_as g d1.world ≡ (around_user a).crosses c.at c.func (wires_of c.args) c.depth d.world
        → GoesOnWith a (wires_of (v ∷ [])) m d1 m' n d' → GoesOn a m (event.Cross c) d m' n d'
    crossed_on c g v d1 d' m' n is so go = λ fuel all x.
        let ended : Ended (wire_of v) d1.world ≡ (around_user a).crosses c.at c.func (wires_of c.args) c.depth d.world = sym (ap (λ y. gave_as y d1.world) is) ∙ so in
        go fuel all (record {
          is = ap (λ r. after r (λ x w. answered_in (around_user a) (user_side a.upcall) nothing fuel (held_in a.upcall m) (x ∷ []) w)) ended ∙ x.stands.is;
          enough = at_most fuel d.world _ d1.world (ap left (sym ended)) (keeps.crosses c.at c.func (wires_of c.args) c.depth d.world) x.stands.enough;
        })

    pub crossed_out : (c : Call) (g : Gave) (kind : StopKind) (at : Option At) (d1 : Driven) (m' : Machine) → g ≡ gave.Stopped kind at → d1.program ≡ prog
        → gave_as g d1.world ≡ (around_user a).crosses c.at c.func (wires_of c.args) c.depth d.world → GoesOn a m (event.Cross c) d m' (next.Gave (gave.Stopped kind at)) d1
    crossed_out c g kind at d1 m' is kept so = λ fuel all x.
        (crossing_ends (around_user a) (user_side a.upcall) nothing fuel all (held_in a.upcall m) c kind at d.world d1.world x.stands (sym (ap (λ y. gave_as y d1.world) is) ∙ so), kept)

  -- ---- an event

  module _ (m : Machine) (e : Event) (d : Driven) where
    pub done_out : (v v' : Value) → e ≡ event.Done v → wire_of v' ≡ normal d.world.memory (wire_of v) → GoesOn a m e d m (next.Gave (gave.Value v')) d
    done_out v v' is now = λ fuel all s.
        (value_ends (around_user a) (user_side a.upcall) nothing fuel all (held_in a.upcall m) v v' d.world (subst (λ x. StandsIn (around_user a) (user_side a.upcall) nothing fuel all (held_in a.upcall m) x d.world) is s.stands) now, s.same)

    pub stopped_out : (kind : StopKind) (at : At) → e ≡ event.Stop kind at → GoesOn a m e d m (next.Gave (gave.Stopped kind (Some at))) d
    stopped_out kind at is = λ fuel all s.
        (stop_ends (around_user a) (user_side a.upcall) nothing fuel all (held_in a.upcall m) kind at d.world (subst (λ x. StandsIn (around_user a) (user_side a.upcall) nothing fuel all (held_in a.upcall m) x d.world) is s.stands), s.same)

    pub goes_on_at : (e' : Event) (m' : Machine) (n : Next) (d' : Driven) → e ≡ e' → GoesOn a m e' d m' n d' → GoesOn a m e d m' n d'
    goes_on_at e' m' n d' is g = subst (λ x. GoesOn a m x d m' n d') (sym is) g

-- ---- a machine's run

-- a machine under way: all that it does is what it did at first
pub record UnderWay (a : Activation) (m0 : Machine) (d0 : Driven) (m : Machine) (e : Event) (d : Driven) : Type 0 where
  pub at : StandsAt a d0.world.clock.rest (user_does a d0.world.clock.rest m0 d0.world) m e d

module _ (a : Activation) (m0 : Machine) (d0 : Driven) where
  abbrev all : Ran Wire
  all = user_does a d0.world.clock.rest m0 d0.world

  pub way_begins : (m : Machine) (e : Event) (d : Driven) → Began a m0 d0 m e d → UnderWay a m0 d0 m e d
  way_begins m e d b = record { at = b d0.world.clock.rest (le_refl d0.world.clock.rest) }

  next_at : (m m' : Machine) (e : Event) (d d' : Driven) (n : Next) → UnderWay a m0 d0 m e d → GoesOn a m e d m' n d' → NextAt a d0.world.clock.rest all m' n d'
  next_at m m' e d d' n way g = g d0.world.clock.rest _ way.at

  pub way_goes : (m m' : Machine) (e e' : Event) (d d' : Driven) (n : Next) → n ≡ next.Came e' → UnderWay a m0 d0 m e d → GoesOn a m e d m' n d' → UnderWay a m0 d0 m' e' d'
  way_goes m m' e e' d d' n is way g = record { at = subst (λ x. NextAt a d0.world.clock.rest all m' x d') is (next_at m m' e d d' n way g) }

  way_ends : (m m' : Machine) (e : Event) (d d' : Driven) (n : Next) (g : Gave) → n ≡ next.Gave g → UnderWay a m0 d0 m e d → GoesOn a m e d m' n d' → NextAt a d0.world.clock.rest all m' (next.Gave g) d'
  way_ends m m' e d d' n g is way x = subst (λ y. NextAt a d0.world.clock.rest all m' y d') is (next_at m m' e d d' n way x)

  pub way_gives : (m m' : Machine) (e : Event) (d d' : Driven) (n : Next) (g : Gave) → n ≡ next.Gave g → UnderWay a m0 d0 m e d → GoesOn a m e d m' n d' → gave_as g d'.world ≡ all
  way_gives m m' e d d' n g is way x = (way_ends m m' e d d' n g is way x).0

  pub way_keeps : (m m' : Machine) (e : Event) (d d' : Driven) (n : Next) (g : Gave) → n ≡ next.Gave g → UnderWay a m0 d0 m e d → GoesOn a m e d m' n d' → d'.program ≡ program_in a.upcall
  way_keeps m m' e d d' n g is way x = (way_ends m m' e d d' n g is way x).1

-- ---- a function is started

pub is_started : (a : Activation) (args : List Wire) (m0 m : Machine) → ((f r : ℕ) → tree (user_side a.upcall) f (held_in a.upcall m0) r ≡ Tree.Idle) → (user_side a.upcall).own a.upcall.func ≡ body_of (program_in a.upcall) a.upcall.func
    → ((side : Side) → side.own a.upcall.func ≡ body_of (program_in a.upcall) a.upcall.func → (f r : ℕ) → r ≤ f → tree side f (held_in a.upcall m) r ≡ cut r (started side (f + 1) a.upcall.func args a.depth (tree side f (held_in a.upcall m0) r)))
    → IsReady (held_in a.upcall m) → IsStarted a args m
is_started a args m0 m none own is ready = record {
  by = λ f r less. is (user_side a.upcall) own f r less ∙ ap (λ t. cut r (started (user_side a.upcall) (f + 1) a.upcall.func args a.depth t)) (none f r);
  ready = ready;
}
