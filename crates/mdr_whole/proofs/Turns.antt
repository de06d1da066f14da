-- A machine in a driver that runs goes from event to event.
use Rattle.std.proofs.Common.{◌≡◌, ℕ, ◌+◌, ◌≤◌, Bool, true, false, List, [], ◌∷◌, Option, Some, None, is_some, suc, ◌-◌, refl, sym, ◌∙◌, ap, arith, subst, le_refl}
use mathlib.Core.Path.{fun_ext}
use Rattle.mdr_core.specs.declared.place.At.{At}
use Rattle.mdr_core.specs.declared.program.Program.{Program}
use Rattle.mdr_core.specs.declared.stop.StopKind.{StopKind}
use Rattle.mdr_core.specs.declared.stop.StopKind.TheVariants as stop
use Rattle.mdr_core.specs.declared.types.Ty.TheVariants.{Void}
use Rattle.mdr_core.specs.Layout.{chosen}
use Rattle.mdr_core.specs.declared.value.Value.{Value}
use Rattle.mdr_events.specs.declared.event.Asked.{Asked as Question}
use Rattle.mdr_events.specs.declared.event.Crossing.{Crossing as Call}
use Rattle.mdr_events.specs.declared.event.Event.{Event}
use Rattle.mdr_events.specs.declared.event.Event.TheVariants as event
use Rattle.mdr_events.specs.Events.{asked_as}
use Rattle.mdr_events.specs.Going.{LeavesAt, RanTo}
use Rattle.mdr_events.specs.Held.{Held, bare, tree}
use Rattle.mdr_events.specs.Ready.{IsReady}
use Rattle.mdr_events.specs.Steps.{child}
use Rattle.mdr_events.specs.Values.{wires_of}
use Rattle.mdr_exec.specs.declared.frame.Machine.{Machine}
use Rattle.mdr_exec.specs.Holding.{Takes, held_of}
use Rattle.mdr_whole.proofs.HeldFuel.{held_fuel}
use Rattle.mdr_exec.proofs.ReadyLaws.{ran_leaves, takes_all}
use Rattle.mdr_meaning.proofs.CutLaws.{cut_cut}
use Rattle.mdr_meaning.specs.declared.wire.Wire.{Wire}
use Rattle.mdr_meaning.specs.declared.wire.Wire.TheVariants as wire
use Rattle.mdr_meaning.specs.Bodies.{body_of, means, started}
use Rattle.mdr_meaning.specs.Calls.{goes_to}
use Rattle.mdr_meaning.specs.Cut.{cut}
use Rattle.mdr_meaning.specs.Sides.{Body, Side}
use Rattle.mdr_meaning.specs.Tree.{Tree}
use Rattle.mdr_meaning.specs.Values.{wire_of}
use Rattle.mdr_meaning.specs.Walk.{Walked, walk, walked}
use Rattle.mdr_model.specs.Memory.{normal}
use Rattle.mdr_plain.specs.Laws.{GivesNoTicks}
use Rattle.mdr_plain.specs.Running.{Before, Setting, Went, Gave as AnyGave, Calls, all_cells, call, gave_after, goes, handled, interrupts}
use Rattle.mdr_plain.specs.Services.{served}
use Rattle.mdr_plain.specs.Storage.{accesses}
use Rattle.mdr_plain.specs.World.{World, Clock, Ended, Stopped, advanced, left}
use Rattle.mdr_runs.specs.Around.{IsSeenBy, KeepsTicks}
use Rattle.mdr_runs.specs.Following.{code_by, setting_by, tried_by}
use Rattle.mdr_runs.specs.Pausing.{finishes}
use Rattle.mdr_runs.specs.Upto.{Stands, goes_answered, goes_by, went_left}
use Rattle.mdr_runs.specs.Seen.{IsSeen}
use Rattle.mdr_runs.proofs.Around.{at_most, child_cut, kernel_keeps_ticks}
use Rattle.mdr_runs.proofs.Many.{as_many}
use Rattle.mdr_runs.proofs.Pausing.{goes_finishes}
use Rattle.mdr_runs.proofs.Upto.{budget_ends, goes_keep_ticks, runs_upto, service_ends, started_goes, stop_ends, ticks_upto, try_ends, value_ends}
use Rattle.mdr_runs.proofs.Tries.{tries_give_none}
use Rattle.mdr_world.specs.Driven.{Driven, NoneIsDueIn, Ticks, driven_accesses, driver}
use Rattle.mdr_world.proofs.WalkLaws.{drivers_walk}
use Rattle.mdr_services.specs.declared.answer.Served.{Served}
use Rattle.mdr_services.specs.declared.answer.Served.TheVariants as served_is
use Rattle.mdr_services.specs.Serving.{served_as}
use Rattle.mdr_whole.specs.declared.ending.Gave.{Gave}
use Rattle.mdr_whole.specs.declared.ending.Gave.TheVariants as gave
use Rattle.mdr_whole.specs.declared.ending.Worked.{Worked}
use Rattle.mdr_whole.specs.declared.ending.Worked.TheVariants as worked
use Rattle.mdr_whole.specs.declared.next.Next.{Next}
use Rattle.mdr_whole.specs.declared.next.Next.TheVariants as next
use Rattle.mdr_whole.specs.Ending.{gave_as, worked_as}
use Rattle.mdr_whole.specs.declared.code.Code.{Code}
use Rattle.mdr_whole.specs.declared.paused.Paused.{Paused}
use Rattle.mdr_whole.specs.declared.paused.Paused.TheVariants as pause
use Rattle.mdr_whole.specs.declared.paused.Went.{Went as MachineFar}
use Rattle.mdr_whole.specs.declared.paused.Went.TheVariants as far
use Rattle.mdr_whole.specs.Going.{Began, CallsAt, Counted, Follows, GoesOn, GoesOnWith, IsCalm, IsStarted, NextAt, Passed, RanThrough, StandsAt, half_of, machine_goes, side_of, tried_in}
use Rattle.mdr_whole.specs.Pausing.{IsWaiting, WentOn, awaited, calls_elsewhere, went_in}
use Rattle.mdr_whole.proofs.Calm.{clock_stays, goes_through}
use Rattle.mdr_whole.proofs.Clocks.{at_clock}

-- ---- a driver that runs is seen as its world

abbrev world_in : Driven → World
world_in d = d.world

abbrev program_in : Driven → Program
program_in d = d.program

seen : IsSeen driven_accesses world_in program_in
seen = record {
  walks = λ n t m. sym (ap (λ (x : Walked Driven). walked x.reached x.memory.world x.left) (drivers_walk all_cells n t m.program m.world));
  stays = λ n t m. ap (λ (x : Walked Driven). x.memory.program) (drivers_walk all_cells n t m.program m.world);
}

-- ---- a machine's runs

seen_by : (program : Program) → IsSeenBy (accesses program all_cells) driven_accesses world_in program_in program
seen_by program = record {
  walks = λ n t m same. subst (λ p. walk (accesses p all_cells) n t (world_in m) ≡ walked (walk driven_accesses n t m).reached (world_in (walk driven_accesses n t m).memory) (walk driven_accesses n t m).left) same (seen.walks n t m);
  stays = λ n t m same. seen.stays n t m ∙ same;
}

module _ (program : Program) (side : Side) (m m' : Machine) (d d' : Driven) (e : Event) (rest : ℕ) (same : d.program ≡ program) (ready : IsReady (held_of program m)) where
  pub began : RanTo driven_accesses side (held_of program m) d 0 e (held_of program m') d' rest → Began program side m d m' e d'
  began ran = λ before gives fuel enough.
      let w = runs_upto program before gives driven_accesses world_in program_in (seen_by program) side (held_of program m) (held_of program m') d d' e rest fuel same enough ran in
      record { stands = w.stands; same = w.same; left = ran_leaves driven_accesses side (held_of program m) (held_of program m') d d' 0 e rest ready ran }

  pub passed : RanTo driven_accesses side (held_of program m) d 1 e (held_of program m') d' rest → Passed program side m d m' e d'
  passed ran = λ before gives fuel all at w t n.
      let x = ticks_upto program before gives driven_accesses world_in program_in (seen_by program) side (held_of program m) (held_of program m') at t.earlier w d d' e rest fuel n.left all same t.wanted t.tried n.one n.counted ran in
      record { stands = x.stands; same = x.same; left = ran_leaves driven_accesses side (held_of program m) (held_of program m') d d' 1 e rest ready ran }

-- ---- so many ticks at once

-- where none is due, none is taken before any of them
pub calm_while : (tries : Bool) (program : Program) (half : Bool) (side : Side) (w : World) (ticks : ℕ) → NoneIsDueIn ticks w → IsCalm ticks (tried_by tries program half side) w.kept w.clock
unfolding interrupts
calm_while true program half side w ticks none = λ j d w' less same is. ap (λ o. handled (code_by program half side) d o w') (none j w' less same is)
calm_while false program half side w ticks none = λ j d w' less same is. refl

spent_is : (ticks used : ℕ) → used ≤ ticks → ticks - (ticks - used) ≡ used
spent_is ticks used less = let l : used ≤ ticks = less in omega (arith, l)

pub ran_through : (program : Program) (side : Side) (m m' : Machine) (d d1 d2 : Driven) (e : Event) (ticks used : ℕ) → d.program ≡ program → IsReady (held_of program m) → ticks ≤ d.world.clock.rest → used ≤ ticks
    → RanTo driven_accesses side (held_of program m) d ticks e (held_of program m') d1 (ticks - used)
    → d2 ≡ driver d1.program (record d1.world { clock = advanced used d1.world.clock }) → RanThrough program side m d ticks m' e d2
ran_through program side m m' d d1 d2 e ticks used same ready enough less ran counts = λ before gives fuel all at calm s.
    let before_it : Stands d.program side before fuel all (held_of program m) (event.TicksOut at) d.world = subst (λ p. Stands p side before fuel all (held_of program m) (event.TicksOut at) d.world) (sym same) s.stands in
    let t = goes_through driven_accesses world_in program_in seen side before gives d (held_of program m) (held_of program m') d1 e at ticks (ticks - used) fuel all calm enough before_it ran in
    let spent : Stands d.program side before fuel all (held_of program m') e (at_clock (advanced used d1.world.clock) d1.world) =
    subst (λ n. Stands d.program side before fuel all (held_of program m') e (at_clock (advanced n d1.world.clock) d1.world)) (spent_is ticks used less) t.stands in
    let of_program : Stands program side before fuel all (held_of program m') e (at_clock (advanced used d1.world.clock) d1.world) =
    subst (λ p. Stands p side before fuel all (held_of program m') e (at_clock (advanced used d1.world.clock) d1.world)) same spent in
    record {
      stands = subst (λ w. Stands program side before fuel all (held_of program m') e w) (sym (ap world_in counts)) of_program;
      same = ap program_in counts ∙ t.same ∙ same;
      left = ran_leaves driven_accesses side (held_of program m) (held_of program m') d d1 ticks e (ticks - used) ready ran;
    }

-- and no more ticks than the budget left
pub none_beyond : (program : Program) (side : Side) (m m' : Machine) (d d1 : Driven) (e : Event) (ticks used : ℕ) → ticks ≤ d.world.clock.rest → used ≤ ticks
    → RanTo driven_accesses side (held_of program m) d ticks e (held_of program m') d1 (ticks - used) → used ≤ d1.world.clock.rest
none_beyond program side m m' d d1 e ticks used enough less ran =
    let stays : d1.world.clock ≡ d.world.clock =
    clock_stays driven_accesses world_in program_in seen side (tried_by false program true side) (tries_give_none false program true side) d (held_of program m) (held_of program m') d1 e ticks (ticks - used) ran in
    let same : d1.world.clock.rest ≡ d.world.clock.rest = ap (λ (c : Clock). c.rest) stays in
    let all : ticks ≤ d.world.clock.rest = enough in
    let few : used ≤ ticks = less in
    omega (arith, same, all, few)

-- ---- a tick

-- the world in which a tick was counted
pub tick_counted : (t : Bool) (d d' : Driven) → t ≡ true → Ticks t d d' → Counted d.world d'.world
tick_counted true d d' h t = record { left = t.0; one = t.1; counted = ap world_in t.2 }
tick_counted false d d' h t = absurd (cc h)

pub tick_keeps : (t : Bool) (d d' : Driven) → Ticks t d d' → d'.program ≡ d.program
tick_keeps true d d' t = ap program_in t.2
tick_keeps false d d' t = ap program_in t.1

none_left : (t : Bool) (d d' : Driven) → t ≡ false → Ticks t d d' → d.world.clock.rest ≡ 0
none_left false d d' h t = t.0
none_left true d d' h t = absurd (cc h)

same_left : (t : Bool) (d d' : Driven) → t ≡ false → Ticks t d d' → d'.world ≡ d.world
same_left false d d' h t = ap world_in t.1
same_left true d d' h t = absurd (cc h)

-- it was counted, and the machine went on
pub ticked_on : (program : Program) (side : Side) (at : At) (m m' : Machine) (d d1 d' : Driven) (e : Event) (t : Bool) → t ≡ true → Ticks t d d1 → Passed program side m d1 m' e d' → Follows program side at m d m' (next.Came e) d'
ticked_on program side at m m' d d1 d' e t h ticks p = λ before gives fuel all x. p before gives fuel all at d.world x (tick_counted t d d1 h ticks)

-- none was left
pub ticked_out : (program : Program) (side : Side) (at : At) (m m' : Machine) (d d1 : Driven) (t : Bool) → d.program ≡ program → t ≡ false → Ticks t d d1 → Follows program side at m d m' (next.Gave (gave.Stopped stop.Ticks (Some at))) d1
ticked_out program side at m m' d d1 t same h ticks = λ before gives fuel all x. (
  ap (λ w. AnyGave (Stopped stop.Ticks (Some at) w)) (same_left t d d1 h ticks) ∙ budget_ends program before side fuel all (held_of program m) at x.earlier d.world x.wanted x.tried (none_left t d d1 h ticks),
  tick_keeps t d d1 ticks ∙ same,
)

-- what stands before it was tried
module _ (tries : Bool) (program : Program) (half : Bool) (side : Side) (at : At) (m : Machine) (d : Driven) (depth : ℕ) (deep : (held_of program m).frame.here.depth ≡ depth) where
  abbrev before : Before
  before = tried_by tries program half side

  pub tried_on : (w : Worked) (d1 d' : Driven) (m' : Machine) (n : Next) → w ≡ worked.Done → worked_as w d1.world ≡ before depth d.world → Follows program side at m d1 m' n d' → GoesOn program side before m (event.TicksOut at) d m' n d'
  tried_on w d1 d' m' n is tried f = λ fuel all s.
      f before (tries_give_none tries program half side) fuel all (record {
        earlier = d.world;
        wanted = s.stands;
        tried = sym (ap (λ x. worked_as x d1.world) is) ∙ tried ∙ sym (ap (λ x. before x d.world) deep);
      })

  pub tried_out : (w : Worked) (kind : StopKind) (place : Option At) (d1 : Driven) (m' : Machine) → w ≡ worked.Stopped kind place → d1.program ≡ program → worked_as w d1.world ≡ before depth d.world
      → GoesOn program side before m (event.TicksOut at) d m' (next.Gave (gave.Stopped kind place)) d1
  tried_out w kind place d1 m' is same tried = λ fuel all s.
      (try_ends program before side fuel all (held_of program m) at kind place d.world d1.world s.stands (sym (ap (λ x. worked_as x d1.world) is) ∙ tried ∙ sym (ap (λ x. before x d.world) deep)), same)

-- ---- a service

pub resumed : (program : Program) (side : Side) (results : List Wire) (m m1 m' : Machine) (d d' : Driven) (e : Event)
    → ((f r : ℕ) → tree side f (held_of program m1) r ≡ child (tree side f (held_of program m) r) results)
    → Began program side m1 d m' e d' → GoesOnWith program side results m d m' e d'
resumed program side results m m1 m' d d' e answer b = λ before gives fuel all w.
    subst (λ x. StandsAt program side before fuel x m' e d') (ap (λ t. goes_by program before t d.world) (answer fuel fuel) ∙ w.is) (b before gives fuel w.enough)

least : (fuel : ℕ) (w w1 w2 : World) → w1 ≡ w2 → w1.clock.rest ≤ w.clock.rest → w.clock.rest ≤ fuel → w2.clock.rest ≤ fuel
least fuel w w1 w2 same less enough = subst (λ (x : World). x.clock.rest ≤ fuel) same (at_most w1.clock.rest w.clock.rest fuel less enough)

module _ (program : Program) (side : Side) (m : Machine) (q : Question) (d : Driven) (same : d.program ≡ program) where
  keeps : KeepsTicks (setting_by program true)
  keeps = kernel_keeps_ticks program true

  gave_results : (s : Served) (d1 : Driven) → served_as s q.at d1.world ≡ served d.program (asked_as q) d.world → served_as s q.at d1.world ≡ served program (asked_as q) d.world
  gave_results s d1 is = is ∙ ap (λ p. served p (asked_as q) d.world) same

  pub served_on : (s : Served) (results : List Value) (d1 d' : Driven) (m' : Machine) (e : Event) → s ≡ served_is.Done results → served_as s q.at d1.world ≡ served d.program (asked_as q) d.world
      → GoesOnWith program side (wires_of results) m d1 m' e d' → (before : Before) → GivesNoTicks before → GoesOn program side before m (event.Service q) d m' (next.Came e) d'
  served_on s results d1 d' m' e is so g = λ before gives fuel all x.
      let ended : Ended (wires_of results) d1.world ≡ served program (asked_as q) d.world = sym (ap (λ y. served_as y q.at d1.world) is) ∙ gave_results s d1 so in
      g before gives fuel all (record {
        is = ap (λ r. gave_after r (goes_answered program side before fuel (held_of program m))) ended ∙ x.stands.is;
        enough = least fuel d.world _ d1.world (ap left (sym ended)) (keeps.serves (asked_as q) d.world) x.stands.enough;
      })

  -- as many answers as it asks for
  pub takes_served : (s : Served) (results : List Value) (d1 : Driven) → s ≡ served_is.Done results → served_as s q.at d1.world ≡ served d.program (asked_as q) d.world → LeavesAt (event.Service q) (held_of program m) → Takes program m results
  takes_served s results d1 is so o = takes_all program m (asked_as q) results o (as_many program (asked_as q) d.world d1.world results (sym (ap (λ y. served_as y q.at d1.world) is) ∙ gave_results s d1 so))

  pub served_out : (s : Served) (kind : StopKind) (d1 : Driven) (m' : Machine) → s ≡ served_is.Stop kind → d1.program ≡ program → served_as s q.at d1.world ≡ served d.program (asked_as q) d.world
      → (before : Before) → GivesNoTicks before → GoesOn program side before m (event.Service q) d m' (next.Gave (gave.Stopped kind (Some q.at))) d1
  served_out s kind d1 m' is kept so = λ before gives fuel all x.
      (service_ends program before side fuel all (held_of program m) q kind (Some q.at) d.world d1.world x.stands (sym (ap (λ y. served_as y q.at d1.world) is) ∙ gave_results s d1 so), kept)

-- ---- a call of the other half

-- what follows it, with fuel for the ticks that are left
waits_there : (side : Side) (f r : ℕ) (h : Held) (vs : List Wire) → r ≤ f → cut r (child (tree side f h f) vs) ≡ child (tree side r h r) vs
unfolding tree
waits_there side f r h vs less =
    sym (child_cut r (tree side f h f) vs)
    ∙ ap (λ t. child t vs) (cut_cut r f less (bare side f h))
    ∙ ap (λ t. child t vs) (held_fuel side f r r h less (le_refl r))

pub crossed : (program : Program) (side : Side) (m : Machine) (c : Call) (d : Driven) (first : Before) → GoesOn program side first m (event.Cross c) d m (next.Calls c) d
crossed program side m c d first = λ fuel all x. record {
  is = ap (λ go. Calls c.at c.func (wires_of c.args) c.depth go d.world) (fun_ext (λ v. sym (waits_there side fuel d.world.clock.rest (held_of program m) (v ∷ []) x.stands.enough))) ∙ x.stands.is;
  same = x.same;
  waits = x.left;
}

-- ---- an event

module _ (tries : Bool) (program : Program) (half : Bool) (side : Side) (m : Machine) (e : Event) (d : Driven) where
  abbrev first : Before
  first = tried_by tries program half side

  pub done_out : (v v' : Value) → e ≡ event.Done v → wire_of v' ≡ normal d.world.memory (wire_of v) → GoesOn program side first m e d m (next.Gave (gave.Value v')) d
  done_out v v' is now = λ fuel all s.
      (value_ends program first side fuel all (held_of program m) v v' d.world (subst (λ x. Stands program side first fuel all (held_of program m) x d.world) is s.stands) now, s.same)

  pub stopped_out : (kind : StopKind) (at : At) → e ≡ event.Stop kind at → GoesOn program side first m e d m (next.Gave (gave.Stopped kind (Some at))) d
  stopped_out kind at is = λ fuel all s.
      (stop_ends program first side fuel all (held_of program m) kind at d.world (subst (λ x. Stands program side first fuel all (held_of program m) x d.world) is s.stands), s.same)

  pub crossed_on : (c : Call) → e ≡ event.Cross c → GoesOn program side first m e d m (next.Calls c) d
  crossed_on c is = subst (λ x. GoesOn program side first m x d m (next.Calls c) d) (sym is) (crossed program side m c d first)

  pub asked_on : (e' : Event) (m' : Machine) (n : Next) (d' : Driven) → e ≡ e' → ((before : Before) → GivesNoTicks before → GoesOn program side before m e' d m' n d') → GoesOn program side first m e d m' n d'
  asked_on e' m' n d' is g = subst (λ x. GoesOn program side first m x d m' n d') (sym is) (g first (tries_give_none tries program half side))

  pub tick_on : (at : At) (m' : Machine) (n : Next) (d' : Driven) → e ≡ event.TicksOut at → GoesOn program side first m (event.TicksOut at) d m' n d' → GoesOn program side first m e d m' n d'
  tick_on at m' n d' is g = subst (λ x. GoesOn program side first m x d m' n d') (sym is) g

-- ---- a machine's run

-- a machine under way: all that it does is what it did at first, with any fuel that is enough
pub record UnderWay (tries : Bool) (program : Program) (half : Bool) (side : Side) (m0 : Machine) (d0 : Driven) (m : Machine) (e : Event) (d : Driven) : Type 0 where
  pub at : (fuel : ℕ) → d0.world.clock.rest ≤ fuel → StandsAt program side (tried_by tries program half side) fuel (machine_goes program side (tried_by tries program half side) fuel m0 d0.world) m e d
  pub spent : d.world.clock.rest ≤ d0.world.clock.rest

module _ (tries : Bool) (program : Program) (half : Bool) (side : Side) (m0 : Machine) (d0 : Driven) where
  abbrev rule : Before
  rule = tried_by tries program half side

  -- as much fuel as ticks were left is enough, so no more are left now
  fewer_at : (all : Went) (m : Machine) (e : Event) (d : Driven) → StandsAt program side rule d0.world.clock.rest all m e d → d.world.clock.rest ≤ d0.world.clock.rest
  fewer_at all m e d s = s.stands.enough

  pub way_begins : (m : Machine) (e : Event) (d : Driven) → Began program side m0 d0 m e d → UnderWay tries program half side m0 d0 m e d
  way_begins m e d b = record {
    at = λ fuel enough. b rule (tries_give_none tries program half side) fuel enough;
    spent = fewer_at _ m e d (b rule (tries_give_none tries program half side) d0.world.clock.rest (le_refl d0.world.clock.rest));
  }

  pub way_goes : (m m' : Machine) (e e' : Event) (d d' : Driven) (n : Next) → n ≡ next.Came e' → UnderWay tries program half side m0 d0 m e d → GoesOn program side rule m e d m' n d' → UnderWay tries program half side m0 d0 m' e' d'
  way_goes m m' e e' d d' n is u g = record {
    at = λ fuel enough. subst (λ x. NextAt program side rule fuel (machine_goes program side rule fuel m0 d0.world) m' x d') is (g fuel _ (u.at fuel enough));
    spent = fewer_at _ m' e' d' (subst (λ x. NextAt program side rule d0.world.clock.rest (machine_goes program side rule d0.world.clock.rest m0 d0.world) m' x d') is (g d0.world.clock.rest _ (u.at d0.world.clock.rest (le_refl d0.world.clock.rest))));
  }

  -- it gave what all of it gives
  way_ends : (m m' : Machine) (e : Event) (d d' : Driven) (n : Next) (g : Gave) → n ≡ next.Gave g → UnderWay tries program half side m0 d0 m e d → GoesOn program side rule m e d m' n d'
      → (fuel : ℕ) → d0.world.clock.rest ≤ fuel → NextAt program side rule fuel (machine_goes program side rule fuel m0 d0.world) m' (next.Gave g) d'
  way_ends m m' e d d' n g is u x = λ fuel enough. subst (λ y. NextAt program side rule fuel (machine_goes program side rule fuel m0 d0.world) m' y d') is (x fuel _ (u.at fuel enough))

  pub way_gives : (m m' : Machine) (e : Event) (d d' : Driven) (n : Next) (g : Gave) → n ≡ next.Gave g → UnderWay tries program half side m0 d0 m e d → GoesOn program side rule m e d m' n d'
      → (fuel : ℕ) → d0.world.clock.rest ≤ fuel → AnyGave (gave_as g d'.world) ≡ machine_goes program side rule fuel m0 d0.world
  way_gives m m' e d d' n g is u x = λ fuel enough. (way_ends m m' e d d' n g is u x fuel enough).0

  pub way_keeps : (m m' : Machine) (e : Event) (d d' : Driven) (n : Next) (g : Gave) → n ≡ next.Gave g → UnderWay tries program half side m0 d0 m e d → GoesOn program side rule m e d m' n d' → d'.program ≡ program
  way_keeps m m' e d d' n g is u x = (way_ends m m' e d d' n g is u x d0.world.clock.rest (le_refl d0.world.clock.rest)).1

  -- or it calls the other half, as all of it does
  pub way_calls : (m m' : Machine) (e : Event) (d d' : Driven) (n : Next) (c : Call) → n ≡ next.Calls c → UnderWay tries program half side m0 d0 m e d → GoesOn program side rule m e d m' n d'
      → (fuel : ℕ) → d0.world.clock.rest ≤ fuel → CallsAt program side (machine_goes program side rule fuel m0 d0.world) m' c d'
  way_calls m m' e d d' n c is u x = λ fuel enough. subst (λ y. NextAt program side rule fuel (machine_goes program side rule fuel m0 d0.world) m' y d') is (x fuel _ (u.at fuel enough))

  -- no tick comes back
  gave_world : (g : Gave) (w : World) → left (gave_as g w) ≡ w
  gave_world (gave.Value v) w = refl
  gave_world (gave.Stopped kind at) w = refl

  all_spend : (went_left (machine_goes program side rule d0.world.clock.rest m0 d0.world)).clock.rest ≤ d0.world.clock.rest
  all_spend = goes_keep_ticks program rule (tries_give_none tries program half side) (tree side d0.world.clock.rest (held_of program m0) d0.world.clock.rest) d0.world

  pub way_spends : (m m' : Machine) (e : Event) (d d' : Driven) (n : Next) (g : Gave) → n ≡ next.Gave g → UnderWay tries program half side m0 d0 m e d → GoesOn program side rule m e d m' n d' → d'.world.clock.rest ≤ d0.world.clock.rest
  way_spends m m' e d d' n g is u x =
      subst (λ (y : World). y.clock.rest ≤ d0.world.clock.rest)
      (sym (ap went_left (way_gives m m' e d d' n g is u x d0.world.clock.rest (le_refl d0.world.clock.rest))) ∙ gave_world g d'.world) all_spend

  pub way_called : (m m' : Machine) (e : Event) (d d' : Driven) (n : Next) (c : Call) → n ≡ next.Calls c → UnderWay tries program half side m0 d0 m e d → GoesOn program side rule m e d m' n d' → d'.world.clock.rest ≤ d0.world.clock.rest
  way_called m m' e d d' n c is u x =
      subst (λ (y : World). y.clock.rest ≤ d0.world.clock.rest) (sym (ap went_left (way_calls m m' e d d' n c is u x d0.world.clock.rest (le_refl d0.world.clock.rest)).is)) all_spend

-- ---- a call

-- a function is called, up to its next call of the other half
pub call_goes : (tries : Bool) (program : Program) (half : Bool) (side : Side) (func : ℕ) (args : List Wire) (depth : ℕ) (m : Machine) (d : Driven) → IsStarted program side func args depth m
    → machine_goes program side (tried_by tries program half side) d.world.clock.rest m d.world ≡ goes_by program (tried_by tries program half side) (started side (suc d.world.clock.rest) func args depth Tree.Idle) d.world
call_goes tries program half side func args depth m d s =
    started_goes program (tried_by tries program half side) (tries_give_none tries program half side) side func args depth d.world.clock.rest (held_of program m) d.world (le_refl d.world.clock.rest) s.by

pub is_started : (program : Program) (side : Side) (func : ℕ) (args : List Wire) (depth : ℕ) (m0 m : Machine)
    → ((f r : ℕ) → tree side f (held_of program m0) r ≡ Tree.Idle)
    → side.own func ≡ body_of program func → ((side : Side) → side.own func ≡ body_of program func → (f r : ℕ) → r ≤ f → tree side f (held_of program m) r ≡ cut r (started side (f + 1) func args depth (tree side f (held_of program m0) r)))
    → IsReady (held_of program m) → IsStarted program side func args depth m
is_started program side func args depth m0 m none own is ready = record {
  by = λ f r less. is side own f r less ∙ ap (λ t. cut r (started side (f + 1) func args depth t)) (none f r);
  ready = ready;
}

-- ---- functions that run here, and the others

pub its_own : (own : Bool) (o : Option Body) → own ≡ true → is_some o ≡ is_some (chosen own o None)
its_own true o h = refl
its_own false o h = absurd (cc h)

pub not_own : (own : Bool) (o : Option Body) → own ≡ false → false ≡ is_some (chosen own o None)
not_own false o h = refl
not_own true o h = absurd (cc h)

pub there_here : (own : Bool) (o : Option Body) → is_some (chosen own o None) ≡ true → (x : Body) × (o ≡ Some x)
there_here true (Some body) h = (body, refl)
there_here true None h = absurd (cc h)
there_here false o h = absurd (cc h)

pub own_here : (own : Bool) (o : Option Body) → is_some (chosen own o None) ≡ true → chosen own o None ≡ o
own_here true o h = refl
own_here false o h = absurd (cc h)

none_here : (o : Option Body) → is_some o ≡ false → ◌≡◌ {A = Option Body} o None
none_here None h = refl
none_here (Some body) h = absurd (cc h)

-- the call of one that doesn't run is a call of the other half at once
pub goes_elsewhere : (program : Program) (side : Side) (rule : Before) (func : ℕ) (args : List Wire) (depth : ℕ) (w : World) → is_some (side.own func) ≡ false
    → calls_elsewhere func args depth w ≡ goes_by program rule (started side (suc w.clock.rest) func args depth Tree.Idle) w
unfolding started goes cut
goes_elsewhere program side rule func args depth w none =
    sym (ap (λ o. goes_by program rule (goes_to side (means side (suc w.clock.rest)) (record { func = func; depth = depth; slots = []; result = Void }) (record { func = func; stmt = 0 }) func args o (λ v. Tree.Done v Tree.Idle)) w)
    (none_here (side.own func) none))

-- ---- to the end

module _ (program : Program) (half : Bool) (side : Side) (tries : Bool) where
  abbrev around : Setting
  around = setting_by program half

  abbrev tried : Before
  tried = tried_by tries program half side

  -- a function that is called does what follows how far it goes
  pub call_finishes : (func : ℕ) (args : List Wire) (depth : ℕ) (w : World) (g : Went) → g ≡ goes_by program tried (started side (suc w.clock.rest) func args depth Tree.Idle) w
      → finishes around tried g ≡ call (code_by program half side) tried func args depth w
  unfolding call
  call_finishes func args depth w g is =
      ap (finishes around tried) is ∙ sym (goes_finishes around tried (kernel_keeps_ticks program half) (tries_give_none tries program half side) (started side (suc w.clock.rest) func args depth Tree.Idle) w)

-- where all code runs a call of the other half gives nothing, and the code goes on
pub nothing_given : (program : Program) (rule : Before) → GivesNoTicks rule → (at : At) (func : ℕ) (args : List Wire) (depth : ℕ) (go : Wire → Tree) (w : World) (g : Went) → g ≡ goes_by program rule (go wire.NoValue) w
    → finishes (setting_by program false) rule g ≡ finishes (setting_by program false) rule (Calls at func args depth go w)
nothing_given program rule gives at func args depth go w g is =
    ap (finishes (setting_by program false) rule) is ∙ sym (goes_finishes (setting_by program false) rule (kernel_keeps_ticks program false) gives (go wire.NoValue) w)

-- code on its way to its end: what follows how far it went is what all of it does
pub record OnItsWay (tries : Bool) (c : Code) (g0 : MachineFar) (w0 : World) (g : MachineFar) (d : Driven) : Type 0 where
  pub rest : finishes (setting_by c.program.now false) (tried_in tries c) (went_in c g d.world) ≡ finishes (setting_by c.program.now false) (tried_in tries c) (went_in c g0 w0)
  pub same : d.program ≡ c.program.now
  pub waits : IsWaiting c.program.now g

module _ (tries : Bool) (c : Code) (g0 : MachineFar) (w0 : World) where
  -- it goes on with nothing
  pub out_goes : (g g' : MachineFar) (x : Call) (p : Paused) (d d' : Driven) → g ≡ far.Calls x p → OnItsWay tries c g0 w0 g d → WentOn tries c p wire.NoValue d.world g' d'.world → d'.program ≡ c.program.now → IsWaiting c.program.now g'
      → OnItsWay tries c g0 w0 g' d'
  out_goes g g' x p d d' is o went same waits = record {
    rest =
        nothing_given c.program.now (tried_in tries c) (tries_give_none tries c.program.now (half_of c) (side_of c)) x.at x.func (wires_of x.args) x.depth (awaited c.program.now (side_of c) p d.world.clock.rest) d.world (went_in c g' d'.world)
        (went d.world.clock.rest (le_refl d.world.clock.rest))
        ∙ sym (ap (λ y. finishes (setting_by c.program.now false) (tried_in tries c) (went_in c y d.world)) is)
        ∙ o.rest;
    same = same;
    waits = waits;
  }

-- ---- a call that waits

-- what was passed on at once is given
pub passed_on : (tries : Bool) (c : Code) (v v' : Value) (w : World) → wire_of v' ≡ normal w.memory (wire_of v) → WentOn tries c pause.Passes (wire_of v) w (far.Gave (gave.Value v')) w
unfolding goes
passed_on tries c v v' w now = λ rest enough. ap (λ x. AnyGave (Ended x w)) now

-- code that is one half's, and code that is all of the driver's
pub same_half : (program : Program) (half b : Bool) (rule : Before) (g : Went) → half ≡ b → finishes (setting_by program b) rule g ≡ finishes (setting_by program half) rule g
same_half program half b rule g h = ap (λ x. finishes (setting_by program x) rule g) (sym h)
