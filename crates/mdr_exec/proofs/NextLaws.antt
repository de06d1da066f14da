-- What comes next: nothing in a list of statements, or an object.
use Rattle.std.proofs.Common.{◌≡◌, ℕ, true, List, [], ◌∷◌, ◌++◌, None, slice_set, refl}
use Rattle.mdr_core.specs.declared.program.Program.{Program}
use Rattle.mdr_core.specs.declared.value.Value.{Value}
use Rattle.mdr_meaning.specs.Bodies.{means}
use Rattle.mdr_meaning.specs.Sides.{Side}
use Rattle.mdr_meaning.specs.Values.{wire_of}
use Rattle.mdr_events.specs.Held.{bare, carry, tree}
use Rattle.mdr_events.specs.Steps.{IsSame}
use Rattle.mdr_exec.specs.declared.frame.Flow.TheVariants as flow
use Rattle.mdr_exec.specs.declared.frame.Front.TheVariants as front
use Rattle.mdr_exec.specs.declared.frame.Machine.{Machine}
use Rattle.mdr_exec.specs.Holding.{block_of, held_of, is_running}
use Rattle.mdr_exec.specs.Places.{code_at}
use Rattle.mdr_exec.proofs.EnterLaws.{running_is}
use Rattle.mdr_exec.proofs.PathLaws.{none_stands}
use Rattle.mdr_exec.proofs.StartLaws.{wires_more}
use Rattle.mdr_exec.proofs.StoringLaws.{wires_set}

pub ran_out : (m : Machine) → is_running m.front ≡ true → (program : Program) (side : Side) → code_at (block_of program m.top) m.top.next ≡ None
    → IsSame side (held_of program m) (held_of program (record { side = m.side; front = front.Unwinds flow.Ends; top = m.top; below = m.below; used = m.used }))
unfolding held_of bare tree carry means
ran_out m runs program side none =
    rw (running_is m.front runs, none_stands (block_of program m.top) m.top.next none) (record { by = λ f r. refl; ready = λ r. record { calm = refl; started = r.started } })

pub object_taken : (m : Machine) (i : ℕ) (p : Value) (slots born : List Value) → m.front ≡ front.Born i p → slots ≡ slice_set m.top.slots i p → born ≡ m.top.born ++ p ∷ []
    → (program : Program) (side : Side)
    → IsSame side (held_of program m) (held_of program (record {
      side = m.side;
      front = front.Runs;
      top = record { func = m.top.func; depth = m.top.depth; path = m.top.path; next = m.top.next; slots = slots; born = born };
      below = m.below;
      used = m.used;
    }))
unfolding held_of bare tree carry
object_taken m i p slots born is set more program side =
    rw (is, set, wires_set m.top.slots i p, wires_more m.top.born born p (wire_of p) more refl) (record { by = λ f r. refl; ready = λ r. record { calm = refl; started = r.started } })
