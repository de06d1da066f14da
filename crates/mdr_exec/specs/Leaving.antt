-- protocol
-- How a list of statements is left: what ends with it, and what is held then.
use Rattle.std.specs.Prelude.{◌≡◌, ℕ, ◌-◌, Bool, true, false, List, [], ◌∷◌, ◌++◌, Option, Some}
use Rattle.mdr_core.specs.declared.program.Program.{Program}
use Rattle.mdr_core.specs.Code.{Code, Codes}
use Rattle.mdr_meaning.specs.declared.wire.Wire.{Wire}
use Rattle.mdr_meaning.specs.Sides.{Here, Locals, Flow, Ends, Breaks, Continues, Returns}
use Rattle.mdr_events.specs.Held.{Runs, Unwinds, Rest, Held}
use Rattle.mdr_events.specs.Steps.{holds, front_after}
use Rattle.mdr_events.specs.Values.{wires_of}
use Rattle.mdr_exec.specs.declared.frame.Machine.{Machine}
use Rattle.mdr_exec.specs.declared.leave.Ending.{Ending}
use Rattle.mdr_exec.specs.declared.leave.Ending.TheVariants as ending
use Rattle.mdr_exec.specs.declared.places.Part.{Part}
use Rattle.mdr_exec.specs.declared.places.Part.TheVariants as part
use Rattle.mdr_exec.specs.declared.places.Position.{Position}
use Rattle.mdr_exec.specs.Holding.{block_of, ends_with, here_of, held_of}
use Rattle.mdr_exec.specs.Places.{behind, code_before, part_of}

abbrev pub is_loop : Option Code → Bool
is_loop (Some (Code.Loop n e step body)) = true
is_loop code = false

-- the body of a loop ends, its step, or any other block
abbrev pub ending_by : Part → (loops : Bool) → Ending
ending_by part.Body true = ending.Turn
ending_by part.Step true = ending.Stepped
ending_by part loops = ending.Plain

-- the objects that are left to a block around: those of a block that is returned from go along
abbrev pub passed_on : Flow → (outer inner : List Wire) → List Wire
passed_on (Returns v) outer inner = outer ++ inner
passed_on flow outer inner = outer

-- no object is left that dies with the block
abbrev pub NoneDies : Flow → List Wire → Type 0
NoneDies (Returns v) inner = Unit {0}
NoneDies flow inner = inner ≡ []

-- in the step of a loop the objects are those of the block around
abbrev pub LeavesNone : Ending → Flow → List Wire → Type 0
LeavesNone ending.Stepped flow inner = Unit {0}
LeavesNone ending.Turn flow inner = NoneDies flow inner
LeavesNone ending.Plain flow inner = NoneDies flow inner

module _ (program : Program) (m : Machine) where
  abbrev pub here_in : Here
  here_in = here_of program m.top.func m.top.depth

  abbrev pub with_born : List Wire → Locals
  with_born born = record { slots = wires_of m.top.slots; born = born }

  -- a list of the statement at a position is left, of which this machine's place is the block around
  abbrev pub leaves_list : Flow → Position → Held
  leaves_list flow p =
      holds (Unwinds flow) here_in (with_born (wires_of m.top.born)) Codes.End
      (ends_with p.part (wires_of p.born) (code_before (block_of program m.top) p.next) ++ Rest (behind (block_of program m.top) p.next) ∷ (held_of program m).items)

  -- what follows in the block around runs, or that block is left too
  abbrev pub goes_behind : Flow → (next : ℕ) → (born : List Wire) → Held
  goes_behind flow next born = holds (front_after flow) here_in (with_born born) (behind (block_of program m.top) next) (held_of program m).items

  -- a list that is no loop's ended so
  abbrev pub plain_left : Flow → Position → Held
  plain_left flow p = goes_behind flow p.next (passed_on flow (wires_of p.born) (wires_of m.top.born))

  -- the step of a loop comes, and then its next turn
  abbrev pub goes_round : Position → Held
  goes_round p =
      holds Runs here_in (with_born (wires_of p.born)) (part_of part.Step (code_before (block_of program m.top) p.next))
      (ends_with part.Step [] (code_before (block_of program m.top) p.next) ++ Rest (behind (block_of program m.top) p.next) ∷ (held_of program m).items)

  -- a turn of a loop's body ended so
  abbrev pub turn_left : Flow → Position → Held
  turn_left Ends p = goes_round p
  turn_left Continues p = goes_round p
  turn_left Breaks p = goes_behind Ends p.next (wires_of p.born)
  turn_left (Returns v) p = goes_behind (Returns v) p.next (wires_of p.born ++ wires_of m.top.born)

  -- the step of a loop did: the loop comes again
  abbrev pub step_left : Flow → (next : ℕ) → Held
  step_left Ends next = goes_behind Ends (next - 1) (wires_of m.top.born)
  step_left flow next = goes_behind flow next (wires_of m.top.born)
