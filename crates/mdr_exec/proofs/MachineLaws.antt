-- What a machine holds when it is made, started and answered.
use Rattle.std.proofs.Common.{◌≡◌, ℕ, true, List, [], slice_get, Vec, refl, ap, ◌∙◌}
use Rattle.mdr_core.specs.declared.program.Program.{Program}
use Rattle.mdr_core.specs.declared.value.Value.{Value}
use Rattle.mdr_meaning.specs.declared.wire.Wire.{Wire}
use Rattle.mdr_meaning.specs.Cut.{cut}
use Rattle.std.specs.declared.alloc.Global.{Global as Heap}
use Rattle.mdr_meaning.specs.Lives.{object_params}
use Rattle.mdr_meaning.specs.Sides.{Side}
use Rattle.mdr_meaning.specs.Tree.{Tree}
use Rattle.mdr_events.specs.Held.{Front, Fills, bare, carry, tree}
use Rattle.mdr_events.specs.Ready.{is_waiting}
use Rattle.mdr_events.specs.Running.{answered}
use Rattle.mdr_events.specs.Steps.{child}
use Rattle.mdr_events.specs.Values.{wires_of}
use Rattle.mdr_exec.specs.declared.frame.Side.{Side as Here}
use Rattle.mdr_exec.specs.declared.frame.Flow.TheVariants as flow
use Rattle.mdr_exec.specs.declared.frame.Frame.{Frame as Running}
use Rattle.mdr_exec.specs.declared.frame.Front.{Front as Before}
use Rattle.mdr_exec.specs.declared.frame.Front.TheVariants as front
use Rattle.mdr_exec.specs.declared.frame.Suspended.{Suspended}
use Rattle.mdr_exec.specs.declared.frame.Machine.{Machine}
use Rattle.mdr_exec.specs.declared.places.Position.{Position}
use Rattle.mdr_exec.specs.Holding.{around, below_of, front_in, held_of, here_of, slots_by, waits}
use Rattle.mdr_exec.proofs.RunningLaws.{questions_are_answered}

-- nothing was started
pub nothing_held : (program : Program) (s : Here) (path : List Position) (slots born : List Value) (below : List Suspended) (u : ℕ) → path ≡ [] → below ≡ [] → (side : Side) (f r : ℕ)
    → tree side f (held_of program (record {
      side = s;
      front = front.Unwinds flow.Ends;
      top = record { func = 0; depth = 0; path = path; next = 0; slots = slots; born = born };
      below = below;
      used = u;
    })) r ≡ Tree.Idle
unfolding tree bare held_of below_of around carry cut
nothing_held program s path slots born below u p q side f r = rw (p, q) refl

pub still_waits : (program : Program) (frame : Running) (b : Before) → waits b ≡ true → is_waiting (front_in program frame b) ≡ true
still_waits program frame front.WaitsValue h = refl
still_waits program frame (front.WaitsParams room) h = refl
still_waits program frame (front.WaitsObject i) h = refl
still_waits program frame (front.WaitsDeath flow) h = refl
still_waits program frame front.Runs h = absurd (cc h)
still_waits program frame (front.Unwinds flow) h = absurd (cc h)
still_waits program frame (front.Comes v) h = absurd (cc h)
still_waits program frame front.Enters h = absurd (cc h)
still_waits program frame (front.Fills ps) h = absurd (cc h)
still_waits program frame (front.Born i p) h = absurd (cc h)

-- the parameters' pointers come
pub params_come : (b : Before) (room : Vec Value Heap) (ps results : List Value) → b ≡ front.WaitsParams room → ps ≡ results → (program : Program) (frame : Running)
    → Fills (object_params 0 (slots_by (slice_get program.funcs frame.func))) (wires_of ps) ≡ answered (front_in program frame b) (here_of program frame.func frame.depth) (wires_of results)
unfolding here_of
params_come b room ps results is same program frame = rw (is, same) refl

-- a question was answered
pub resumed : (m : Machine) (old b : Before) (results : List Wire) → old ≡ m.front
    → ((program : Program) (frame : Running) → front_in program frame b ≡ answered (front_in program frame old) (here_of program frame.func frame.depth) results)
    → waits m.front ≡ true → (program : Program) (side : Side) (f r : ℕ)
    → tree side f (held_of program (record { side = m.side; front = b; top = m.top; below = m.below; used = m.used })) r ≡ child (tree side f (held_of program m) r) results
unfolding held_of
resumed m old b results same is waiting program side f r =
    ap (λ (x : Front). tree side f (record (held_of program m) { front = x }) r)
    (is program m.top ∙ ap (λ x. answered (front_in program m.top x) (here_of program m.top.func m.top.depth) results) same)
    ∙ questions_are_answered side (held_of program m) results (still_waits program m.top m.front waiting) f r
