-- What the law of a statement says, of what a machine holds.
use Rattle.std.proofs.Common.{◌≡◌, ℕ, suc, ◌+◌, true, List, Some, refl, sym, subst, arith}
use Rattle.mdr_core.specs.declared.place.At.{At}
use Rattle.mdr_core.specs.declared.program.Program.{Program}
use Rattle.mdr_core.specs.declared.stop.StopKind.{StopKind}
use Rattle.mdr_core.specs.declared.value.Value.{Value}
use Rattle.mdr_core.specs.Code.{Code, Codes}
use Rattle.mdr_meaning.specs.Sides.{Side, Flow, Locals}
use Rattle.mdr_meaning.specs.Walk.{Accesses}
use Rattle.mdr_events.specs.Held.{Runs, Item, Held}
use Rattle.mdr_events.specs.Steps.{holds, holds_after, Came, Stopped, Ticks}
use Rattle.mdr_events.specs.Values.{wires_of}
use Rattle.mdr_exec.specs.declared.frame.Front.{Front as Before}
use Rattle.mdr_exec.specs.declared.frame.Machine.{Machine}
use Rattle.mdr_exec.specs.Holding.{block_of, front_in, held_of, is_running}
use Rattle.mdr_exec.specs.Leaving.{goes_behind, here_in}
use Rattle.mdr_exec.specs.Places.{behind, code_at}
use Rattle.mdr_exec.specs.Storing.{with_slots}
use Rattle.mdr_exec.proofs.BeginningLaws.{stands}

module _ (program : Program) (m : Machine) where
  abbrev pub ahead_of : Codes
  ahead_of = behind (block_of program m.top) (suc m.top.next)

  abbrev pub items_of : List Item
  items_of = (held_of program m).items

  abbrev pub locals_of : Locals
  locals_of = with_slots m.top.slots (wires_of m.top.born)

  abbrev pub at_next : Code → Type 0
  at_next code = code_at (block_of program m.top) m.top.next ≡ Some code

  -- a machine of these slots that stands behind the statement
  abbrev pub stepped_to : Before → (next : ℕ) → List Value → Machine
  stepped_to b next slots = record {
    side = m.side;
    front = b;
    top = record { func = m.top.func; depth = m.top.depth; path = m.top.path; next = next; slots = slots; born = m.top.born };
    below = m.below;
    used = m.used;
  }

  pub stepped_holds : (b : Before) (next : ℕ) (slots : List Value) → next ≡ m.top.next + 1
      → held_of program (stepped_to b next slots) ≡ holds (front_in program (stepped_to b (suc m.top.next) slots).top b) (here_in program m) (with_slots slots (wires_of m.top.born)) ahead_of items_of
  unfolding held_of
  stepped_holds b next slots is = let one : next ≡ suc m.top.next = omega (arith, is) in rw one refl

  -- the statement ended so, with these slots
  pub ended_holds : (slots : List Value) (flow : Flow) (next : ℕ) → next ≡ m.top.next + 1
      → goes_behind program (stepped_to m.front m.top.next slots) flow next (wires_of m.top.born) ≡ holds_after (record { flow = flow; locals = with_slots slots (wires_of m.top.born) }) (here_in program m) ahead_of items_of
  unfolding held_of
  ended_holds slots flow next is = let one : next ≡ suc m.top.next = omega (arith, is) in rw one refl

  module _ {M : Type 0} (a : Accesses M) (memory : M) (runs : is_running m.front ≡ true) (side : Side) (code : Code) (is : at_next code) where
    pub comes_in : (came came' : Came) (h held : Held) (memory' : M) → Ticks a side (holds Runs (here_in program m) locals_of (Codes.Then code ahead_of) items_of) memory came h memory' → came ≡ came' → h ≡ held
        → Ticks a side (held_of program m) memory came' held memory'
    comes_in came came' h held memory' law same left =
        subst (λ x. Ticks a side x memory came' held memory') (sym (stands program m code runs is))
        (subst (λ x. Ticks a side (holds Runs (here_in program m) locals_of (Codes.Then code ahead_of) items_of) memory came' x memory') left
        (subst (λ x. Ticks a side (holds Runs (here_in program m) locals_of (Codes.Then code ahead_of) items_of) memory x h memory') same law))

    -- what is held where it stops is no matter
    pub stops_in : (kind : StopKind) (at : At) (h held : Held) (memory' : M) → Ticks a side (holds Runs (here_in program m) locals_of (Codes.Then code ahead_of) items_of) memory (Stopped kind at) h memory'
        → Ticks a side (held_of program m) memory (Stopped kind at) held memory'
    stops_in kind at h held memory' law =
        subst (λ x. Ticks a side x memory (Stopped kind at) held memory') (sym (stands program m code runs is)) (record { by = λ f n r less. law.by f n r less; leaves = λ r. tt })
