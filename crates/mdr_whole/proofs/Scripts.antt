-- Idle ticks and the commands of a script.
use Rattle.std.proofs.Common.{◌≡◌, ℕ, zero, suc, ◌+◌, ◌-◌, ◌<◌, ◌≤◌, List, [], Option, None, refl, sym, ◌∙◌, ap, arith, suc-le-suc}
use Rattle.mdr_core.specs.declared.place.At.{At}
use Rattle.mdr_core.specs.declared.program.Program.{Program}
use Rattle.mdr_core.specs.declared.stop.StopKind.{StopKind}
use Rattle.mdr_exec.specs.declared.frame.Side.TheVariants as which
use Rattle.mdr_exec.specs.Halves.{side_in}
use Rattle.mdr_meaning.specs.Bodies.{known_of, whole_side}
use Rattle.mdr_model.specs.declared.command.Command.{Command}
use Rattle.mdr_model.specs.declared.outcome.End.{End}
use Rattle.mdr_plain.specs.declared.outcome.Outcome.{Outcome}
use Rattle.mdr_plain.specs.Outcome.{outcome_of}
use Rattle.mdr_plain.specs.Plain.{does, plain, plain_of, whole}
use Rattle.mdr_plain.specs.Gate.{due}
use Rattle.mdr_plain.specs.Running.{KernelCode, handled, interrupts}
use Rattle.mdr_plain.specs.Scripts.{commands, finish, first_world, idle}
use Rattle.mdr_bound.specs.declared.bound.Bound.{Bound}
use Rattle.mdr_plain.specs.World.{Stopped, Work, World, advanced, counted, done, then, ticked}
use Rattle.mdr_runs.specs.Scripts.{idle_tick}
use Rattle.mdr_runs.proofs.Commands.{idle_begins, idle_ends, idle_passes, idle_stops}
use Rattle.mdr_world.specs.Driven.{Driven, NoneIsDueIn, driver}
use Rattle.mdr_whole.specs.declared.ending.Worked.{Worked}
use Rattle.mdr_whole.specs.declared.ending.Worked.TheVariants as worked
use Rattle.mdr_whole.specs.Ending.{end_of, finished, worked_as}
use Rattle.mdr_whole.proofs.Clocks.{advanced_none, at_clock, one_more}

-- ---- ticks before which no interrupt is due

module _ (kernel : KernelCode) where
  none_taken : (w : World) → due w ≡ None → interrupts kernel 0 w ≡ done w
  unfolding interrupts
  none_taken w none = ap (λ o. handled kernel 0 o w) none

  one_counted : (rest n : ℕ) (w : World) → 1 ≤ rest → counted rest None w (idle (interrupts kernel) n) ≡ idle (interrupts kernel) n (at_clock (advanced 1 w.clock) w)
  one_counted zero n w some = let l : 1 ≤ 0 = some in absurd (omega (arith, l))
  one_counted (suc m) n w some = refl

  one_passes : (n : ℕ) (w : World) → due w ≡ None → 1 ≤ w.clock.rest → idle (interrupts kernel) (suc n) w ≡ idle (interrupts kernel) n (at_clock (advanced 1 w.clock) w)
  unfolding idle
  one_passes n w none some = ap (λ x. then x (λ w'. ticked None w' (idle (interrupts kernel) n))) (none_taken w none) ∙ one_counted w.clock.rest n w some

  none_later : (k : ℕ) (w : World) → NoneIsDueIn (suc k) w → NoneIsDueIn k (at_clock (advanced 1 w.clock) w)
  none_later k w none n now less same is = none (suc n) now (suc-le-suc less) same (is ∙ one_more n w.clock)

  all_pass : (k n : ℕ) (w : World) → NoneIsDueIn k w → k ≤ w.clock.rest → idle (interrupts kernel) (k + n) w ≡ idle (interrupts kernel) n (at_clock (advanced k w.clock) w)
  all_pass zero n w none enough =
      ap (λ m. idle (interrupts kernel) m w) (let e : 0 + n ≡ n = omega arith in e)
      ∙ ap (λ c. idle (interrupts kernel) n (at_clock c w)) (sym (advanced_none w.clock))
  all_pass (suc k) n w none enough =
      let many : suc k ≤ w.clock.rest = enough in
      let some : 1 ≤ w.clock.rest = omega (arith, many) in
      let fewer : k ≤ w.clock.rest - 1 = omega (arith, many) in
      let first : 0 < suc k = omega arith in
      ap (λ m. idle (interrupts kernel) m w) (let e : suc k + n ≡ suc (k + n) = omega arith in e)
      ∙ one_passes (k + n) w (none 0 w first refl (sym (advanced_none w.clock))) some
      ∙ all_pass k n (at_clock (advanced 1 w.clock) w) (none_later k w none) fewer
      ∙ ap (λ c. idle (interrupts kernel) n (at_clock c w)) (one_more k w.clock)

  -- they were counted at once, and the others do what all of them do
  pub pass_at_once : (k ticks : ℕ) (d d' : Driven) → k ≤ ticks → k ≤ d.world.clock.rest → NoneIsDueIn k d.world → d' ≡ driver d.program (record d.world { clock = advanced k d.world.clock })
      → idle (interrupts kernel) (ticks - k) d'.world ≡ idle (interrupts kernel) ticks d.world
  pass_at_once k ticks d d' less enough none is =
      let l : k ≤ ticks = less in
      ap (λ (x : Driven). idle (interrupts kernel) (ticks - k) x.world) is
      ∙ sym (all_pass k (ticks - k) d.world none enough)
      ∙ ap (λ m. idle (interrupts kernel) m d.world) (let e : k + (ticks - k) ≡ ticks = omega (arith, l) in e)

-- ---- idle time, at each of its ticks

-- the ticks that are left do what all of them do
pub record Idles (code : KernelCode) (program : Program) (all : ℕ) (d0 : Driven) (i : ℕ) (d : Driven) : Type 0 where
  pub rest : idle (interrupts code) (all - i) d.world ≡ idle (interrupts code) all d0.world
  pub same : d.program ≡ program

module _ (code : KernelCode) (program : Program) (all : ℕ) (d0 : Driven) where
  pub idles_begin : d0.program ≡ program → Idles code program all d0 0 d0
  idles_begin same = record { rest = idle_begins (interrupts code) all d0.world; same = same }

  pub idles_skip : (i k : ℕ) (d d' : Driven) → ((kernel : KernelCode) → idle (interrupts kernel) (all - i - k) d'.world ≡ idle (interrupts kernel) (all - i) d.world) → d'.program ≡ d.program
      → Idles code program all d0 i d → Idles code program all d0 (i + k) d'
  idles_skip i k d d' passed same s = record {
    rest =
        ap (λ m. idle (interrupts code) m d'.world) (let e : all - (i + k) ≡ all - i - k = omega arith in e)
        ∙ passed code
        ∙ s.rest;
    same = same ∙ s.same;
  }

  pub idles_pass : (i : ℕ) (d d' : Driven) (w : Worked) → i < all → w ≡ worked.Done → worked_as w d'.world ≡ idle_tick (interrupts code) d.world → d'.program ≡ program
      → Idles code program all d0 i d → Idles code program all d0 (i + 1) d'
  idles_pass i d d' w less is so same s = record {
    rest = sym (idle_passes (interrupts code) all i d.world d'.world less (sym (ap (λ x. worked_as x d'.world) is) ∙ so)) ∙ s.rest;
    same = same;
  }

  pub idles_stop : (i : ℕ) (d d' : Driven) (w : Worked) (kind : StopKind) (at : Option At) → i < all → w ≡ worked.Stopped kind at → worked_as w d'.world ≡ idle_tick (interrupts code) d.world
      → Idles code program all d0 i d → ◌≡◌ {A = Work} (Stopped kind at d'.world) (idle (interrupts code) all d0.world)
  idles_stop i d d' w kind at less is so s = idle_stops (interrupts code) all i d.world d'.world kind at less (sym (ap (λ x. worked_as x d'.world) is) ∙ so) ∙ s.rest

  pub idles_end : (i : ℕ) (d : Driven) → all ≤ i → Idles code program all d0 i d → done d.world ≡ idle (interrupts code) all d0.world
  idles_end i d past s = sym (idle_ends (interrupts code) all i d.world past) ∙ s.rest

-- the commands were done from a state on, with the code of all functions, and their end is shown
pub shown_by : (program : Program) (d d' : Driven) (cs : List Command) (e : Worked) (end : End) (o : Outcome)
    → d'.program ≡ program → finished e d'.world ≡ commands (does (whole program (side_in which.Whole [] program))) cs d.world
    → end ≡ end_of e → o ≡ outcome_of d'.program (finish end d'.world) → o ≡ outcome_of program (commands (does (whole program (whole_side program))) cs d.world)
unfolding whole_side
shown_by program d d' cs e end o kept ran ends shown =
    shown
    ∙ ap (λ p. outcome_of p (finish end d'.world)) kept
    ∙ ap (λ x. outcome_of program (finish x d'.world)) ends
    ∙ ap (outcome_of program) ran

-- they were done from the first state on
pub ran_whole : (program : Program) (script : Bound) (ticks : ℕ) (d : Driven) (cs : List Command) (o : Outcome)
    → d ≡ driver program (first_world (known_of program) script ticks) → cs ≡ script.commands
    → o ≡ outcome_of program (commands (does (whole program (whole_side program))) cs d.world) → o ≡ outcome_of program (plain program script ticks)
unfolding plain_of whole_side
ran_whole program script ticks d cs o first are shown =
    shown
    ∙ ap (outcome_of program) (ap (λ x. commands (does (whole program (whole_side program))) x d.world) are ∙ ap (λ (x : Driven). commands (does (whole program (whole_side program))) script.commands x.world) first)
