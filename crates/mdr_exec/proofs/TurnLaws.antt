-- Steps of the machine, whatever comes next, and runs of them.
use Rattle.std.proofs.Common.{◌≡◌, ℕ, zero, suc, ◌-◌, ◌≤◌, true, false, List, Option, Some, None, refl, sym, ◌∙◌, subst, arith}
use Rattle.mdr_core.specs.declared.place.At.{At}
use Rattle.mdr_core.specs.declared.plan.Half.{Half}
use Rattle.mdr_core.specs.declared.program.Program.{Program}
use Rattle.mdr_core.specs.declared.value.Value.{Value}
use Rattle.mdr_core.specs.Code.{Code, Codes}
use Rattle.mdr_meaning.specs.Sides.{Side, in_here}
use Rattle.mdr_meaning.specs.Walk.{Accesses}
use Rattle.mdr_events.specs.declared.event.Event.{Event}
use Rattle.mdr_events.specs.declared.event.Event.TheVariants as event
use Rattle.mdr_events.specs.Going.{RanTo}
use Rattle.mdr_events.specs.Held.{Held}
use Rattle.mdr_events.specs.Running.{RunsTo, WantsTick, is_block, number_of}
use Rattle.mdr_events.specs.Steps.{Came, Goes, IsSame, Steps, Ticks}
use Rattle.mdr_events.specs.Values.{wires_of}
use Rattle.mdr_exec.specs.declared.event.Outcome.{Outcome}
use Rattle.mdr_exec.specs.declared.event.Outcome.TheVariants as outcome
use Rattle.mdr_exec.specs.declared.frame.Front.{Front as Before}
use Rattle.mdr_exec.specs.declared.frame.Front.TheVariants as front
use Rattle.mdr_exec.specs.declared.frame.Machine.{Machine}
use Rattle.mdr_exec.specs.declared.frame.Side.{Side as Which}
use Rattle.mdr_exec.specs.declared.turn.Stepped.{Stepped}
use Rattle.mdr_exec.specs.declared.turn.Stepped.TheVariants as stepped
use Rattle.mdr_exec.specs.Entering.{filling}
use Rattle.mdr_exec.specs.Events.{came_as, came_with}
use Rattle.mdr_exec.specs.Going.{SteppedTo, ran_as, stepped_with}
use Rattle.mdr_exec.specs.Halves.{side_in}
use Rattle.mdr_exec.specs.Holding.{held_of, here_of, is_running}
use Rattle.mdr_exec.specs.Leaving.{here_in}
use Rattle.mdr_exec.specs.Storing.{with_slots}
use Rattle.mdr_exec.proofs.BeginningLaws.{stands}
use Rattle.mdr_exec.proofs.DoneLaws.{at_next, ahead_of, items_of}
use Rattle.mdr_exec.proofs.RunningLaws.{runs_are_made, statements_want_ticks}

-- ---- one step as a run

module _ {M : Type 0} (a : Accesses M) (side : Side) (h h' : Held) (m m' : M) where
  pub same_runs : (ticks : ℕ) → IsSame side h h' → RunsTo a side h m ticks Goes h' m ticks
  same_runs ticks s = let made = runs_are_made a side h m ticks in made.same h h' m ticks made.begins s

  step_runs : (ticks : ℕ) (came : Came) → Steps a side h m came h' m' → RunsTo a side h m ticks came h' m' ticks
  step_runs ticks came s = let made = runs_are_made a side h m ticks in made.step h h' m m' ticks came made.begins s

  tick_runs : (ticks left : ℕ) (came : Came) → ticks ≡ suc left → Ticks a side h m came h' m' → RunsTo a side h m ticks came h' m' left
  tick_runs ticks left came is s =
      subst (λ t. RunsTo a side h m t came h' m' left) (sym is) (let made = runs_are_made a side h m (suc left) in made.tick h h' m m' left came made.begins s)

  -- with the event that came of it
  told_runs : (ticks left : ℕ) (e : Option Outcome) → RunsTo a side h m ticks (came_as e) h' m' left → SteppedTo a side h m ticks (stepped_with e left) h' m'
  told_runs ticks left None r = r
  told_runs ticks left (Some e) r = r

  pub step_told : (ticks : ℕ) (e : Option Outcome) (x : Stepped) → x ≡ stepped_with e ticks → Steps a side h m (came_as e) h' m' → SteppedTo a side h m ticks x h' m'
  step_told ticks e x is s = subst (λ y. SteppedTo a side h m ticks y h' m') (sym is) (told_runs ticks ticks e (step_runs ticks (came_as e) s))

  before : (ticks left : ℕ) → (ticks ≡ 0 → ⊥) → left ≡ ticks - 1 → ticks ≡ suc left
  before zero left some less = elim (some refl) [ ]
  before (suc k) left some less = omega (arith, less)

  pub tick_told : (ticks left : ℕ) (e : Option Outcome) (x : Stepped) → x ≡ stepped_with e left → (ticks ≡ 0 → ⊥) → left ≡ ticks - 1 → Ticks a side h m (came_as e) h' m' → SteppedTo a side h m ticks x h' m'
  tick_told ticks left e x is some less s =
      let one : ticks ≡ suc left = before ticks left some less in
      subst (λ y. SteppedTo a side h m ticks y h' m') (sym is) (told_runs ticks left e (tick_runs ticks left (came_as e) one s))

-- a block takes no tick
pub block_steps : (code : Code) (Stands : Code → Type 0) (P : Type 0) → is_block code ≡ true → Stands code → ((body : Codes) → Stands (Code.Block body) → P) → P
block_steps (Code.Block body) Stands P h is go = go body is
block_steps (Code.Declare n i) Stands P h is go = absurd (cc h)
block_steps (Code.Text n i bytes) Stands P h is go = absurd (cc h)
block_steps (Code.Assign n p e) Stands P h is go = absurd (cc h)
block_steps (Code.Call n goal form) Stands P h is go = absurd (cc h)
block_steps (Code.If n e one other) Stands P h is go = absurd (cc h)
block_steps (Code.Loop n e step body) Stands P h is go = absurd (cc h)
block_steps (Code.Return n e) Stands P h is go = absurd (cc h)
block_steps (Code.Jump n way) Stands P h is go = absurd (cc h)

-- no tick is left for the statement that comes next
module _ {M : Type 0} (a : Accesses M) (side : Side) (program : Program) (m : Machine) (memory : M) where
  pub tick_wanted : (code : Code) (n ticks : ℕ) → is_running m.front ≡ true → at_next program m code → is_block code ≡ false → ticks ≡ 0 → n ≡ number_of code
      → SteppedTo a side (held_of program m) memory ticks (stepped.Wants (record { func = m.top.func; stmt = n })) (held_of program m) memory
  unfolding held_of here_of
  tick_wanted code n ticks runs is no_block none number =
      let law : WantsTick side (held_of program m) (in_here (here_in program m) (number_of code)) (here_in program m).depth =
      subst (λ x. WantsTick side x (in_here (here_in program m) (number_of code)) (here_in program m).depth) (sym (stands program m code runs is))
      (statements_want_ticks side (here_in program m) (with_slots m.top.slots (wires_of m.top.born)) code (ahead_of program m) (items_of program m) no_block) in (
        subst (λ t. RunsTo a side (held_of program m) memory t Goes (held_of program m) memory 0) (sym none) (runs_are_made a side (held_of program m) memory 0).begins,
        wants_here n (sym number) law,
      )
    where
      wants_here : (k : ℕ) → number_of code ≡ k → WantsTick side (held_of program m) (in_here (here_in program m) (number_of code)) (here_in program m).depth → WantsTick side (held_of program m) (record { func = m.top.func; stmt = k }) (held_of program m).frame.here.depth
      wants_here k e law = subst (λ j. WantsTick side (held_of program m) (in_here (here_in program m) j) (here_in program m).depth) e law

-- the pointers of parameters come
pub filling_is : (program : Program) (m : Machine) (b : Before) (pointers : List Value) → m.front ≡ front.Fills pointers
    → filling program (record { side = m.side; front = b; top = m.top; below = m.below; used = m.used }) pointers ≡ held_of program m
unfolding held_of
filling_is program m b pointers is = rw is refl

-- ---- runs

-- the machine is on this side
abbrev pub on_side : Which → Machine → Machine
on_side s m = record { side = s; front = m.front; top = m.top; below = m.below; used = m.used }

-- the machine runs still, on the side on which it began
pub record StillRuns {M : Type 0} (a : Accesses M) (halves : List Half) (program : Program) (began : Machine) (memory : M) (ticks : ℕ) (s : Which) (now : Machine) (memory' : M) (left : ℕ) : Type 0 where
  pub same : s ≡ began.side
  pub kept : now.side ≡ s
  pub runs : RunsTo a (side_in s halves program) (held_of program began) memory ticks Goes (held_of program now) memory' left

module _ {M : Type 0} (a : Accesses M) (halves : List Half) (program : Program) (began : Machine) (memory : M) (ticks : ℕ) where
  pub run_begins : (s : Which) → s ≡ began.side → StillRuns a halves program began memory ticks s began memory ticks
  run_begins s same = record { same = same; kept = sym same; runs = (runs_are_made a (side_in s halves program) (held_of program began) memory ticks).begins }

  module _ (s : Which) (now next : Machine) (memory' memory'' : M) (left : ℕ) (x : Stepped) (so_far : StillRuns a halves program began memory ticks s now memory' left)
      (step : SteppedTo a (side_in now.side halves program) (held_of program now) memory' left x (held_of program next) memory'') where
    step_here : (y : Stepped) → x ≡ y → SteppedTo a (side_in s halves program) (held_of program now) memory' left y (held_of program (on_side s next)) memory''
    unfolding held_of
    step_here y is =
        subst (λ z. SteppedTo a (side_in s halves program) (held_of program now) memory' left z (held_of program (on_side s next)) memory'') is
        (subst (λ z. SteppedTo a (side_in z halves program) (held_of program now) memory' left x (held_of program (on_side s next)) memory'') so_far.kept step)

    pub run_goes : (rest : ℕ) → x ≡ stepped.Goes rest → StillRuns a halves program began memory ticks s (on_side s next) memory'' rest
    run_goes rest is = record {
      same = so_far.same;
      kept = refl;
      runs = (runs_are_made a (side_in s halves program) (held_of program began) memory ticks).further (held_of program now) (held_of program (on_side s next)) memory' memory'' left rest Goes so_far.runs (step_here (stepped.Goes rest) is);
    }

    ends_on : (y : Stepped) → SteppedTo a (side_in s halves program) (held_of program now) memory' left y (held_of program (on_side s next)) memory''
        → SteppedTo a (side_in s halves program) (held_of program began) memory ticks y (held_of program (on_side s next)) memory''
    ends_on (stepped.Goes rest) r =
        (runs_are_made a (side_in s halves program) (held_of program began) memory ticks).further (held_of program now) (held_of program (on_side s next)) memory' memory'' left rest Goes so_far.runs r
    ends_on (stepped.Came e rest) r =
        (runs_are_made a (side_in s halves program) (held_of program began) memory ticks).further (held_of program now) (held_of program (on_side s next)) memory' memory'' left rest (came_with e) so_far.runs r
    ends_on (stepped.Wants at) r =
        ((runs_are_made a (side_in s halves program) (held_of program began) memory ticks).further (held_of program now) (held_of program (on_side s next)) memory' memory'' left 0 Goes so_far.runs r.0, r.1)

    pub run_ends : (y : Stepped) → x ≡ y → SteppedTo a (side_in began.side halves program) (held_of program began) memory ticks y (held_of program (on_side s next)) memory''
    run_ends y is =
        subst (λ z. SteppedTo a (side_in z halves program) (held_of program began) memory ticks y (held_of program (on_side s next)) memory'') so_far.same (ends_on y (step_here y is))

-- the answer of a run
module _ {M : Type 0} (a : Accesses M) (side : Side) (h h' : Held) (m m' : M) (ticks : ℕ) where
  ran_with : (e : Outcome) (left : ℕ) → RunsTo a side h m ticks (came_with e) h' m' left → RanTo a side h m ticks (ran_as e) h' m' left
  ran_with (outcome.Done v) left r = r
  ran_with (outcome.Cross c) left r = r
  ran_with (outcome.Service q) left r = r
  ran_with (outcome.Stop kind at) left r = r

  pub ran_fewer : (x : Stepped) (e : Outcome) (left : ℕ) → x ≡ stepped.Came e left → SteppedTo a side h m ticks x h' m' → left ≤ ticks
  ran_fewer x e left is r = let so : RunsTo a side h m ticks (came_with e) h' m' left = subst (λ y. SteppedTo a side h m ticks y h' m') is r in so.fewer

  pub ran_came : (x : Stepped) (e : Outcome) (left used : ℕ) (y z : Event) → x ≡ stepped.Came e left → SteppedTo a side h m ticks x h' m' → used ≡ ticks - left → y ≡ ran_as e → z ≡ y
      → RanTo a side h m ticks z h' m' (ticks - used)
  ran_came x e left used y z is r spent told same =
      let so : RunsTo a side h m ticks (came_with e) h' m' left = subst (λ y. SteppedTo a side h m ticks y h' m') is r in
      let fewer = so.fewer in
      let rest : left ≡ ticks - used = omega (arith, fewer, spent) in
      subst (λ y. RanTo a side h m ticks y h' m' (ticks - used)) (sym (same ∙ told)) (subst (λ k. RanTo a side h m ticks (ran_as e) h' m' k) rest (ran_with e left so))

  pub ran_out_of_ticks : (x : Stepped) (at : At) (used : ℕ) → x ≡ stepped.Wants at → SteppedTo a side h m ticks x h' m' → used ≡ ticks → RanTo a side h m ticks (event.TicksOut at) h' m' (ticks - used)
  ran_out_of_ticks x at used is r all =
      let so : SteppedTo a side h m ticks (stepped.Wants at) h' m' = subst (λ y. SteppedTo a side h m ticks y h' m') is r in
      let none : ticks - used ≡ 0 = omega (arith, all) in
      (none, subst (λ k. RunsTo a side h m ticks Goes h' m' k) (sym none) so.0, so.1)

-- and of the machine, which has counted the ticks
abbrev pub counted : Machine → ℕ → Machine
counted m used = record { side = m.side; front = m.front; top = m.top; below = m.below; used = used }

module _ {M : Type 0} (a : Accesses M) (side : Side) (program : Program) (h : Held) (now : Machine) (m m' : M) (ticks used : ℕ) where
  pub run_answers : (x : Stepped) (e : Outcome) (left : ℕ) (y z : Event) → x ≡ stepped.Came e left → SteppedTo a side h m ticks x (held_of program now) m' → used ≡ ticks - left → y ≡ ran_as e → z ≡ y
      → RanTo a side h m ticks z (held_of program (counted now used)) m' (ticks - used)
  unfolding held_of
  run_answers x e left y z is r spent told same = ran_came a side h (held_of program now) m m' ticks x e left used y z is r spent told same

  pub run_wants : (x : Stepped) (at : At) → x ≡ stepped.Wants at → SteppedTo a side h m ticks x (held_of program now) m' → used ≡ ticks → RanTo a side h m ticks (event.TicksOut at) (held_of program (counted now used)) m' (ticks - used)
  unfolding held_of
  run_wants x at is r all = ran_out_of_ticks a side h (held_of program now) m m' ticks x at used is r all
