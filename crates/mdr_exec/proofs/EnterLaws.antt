-- A list of the statement that comes next is entered.
use Rattle.std.proofs.Common.{◌≡◌, ℕ, suc, ◌+◌, true, List, [], ◌∷◌, ◌++◌, refl, arith}
use Rattle.mdr_core.specs.declared.program.Program.{Program}
use Rattle.mdr_core.specs.declared.value.Value.{Value}
use Rattle.mdr_exec.specs.declared.frame.Front.{Front as Before}
use Rattle.mdr_exec.specs.declared.frame.Front.TheVariants as front
use Rattle.mdr_exec.specs.declared.frame.Machine.{Machine}
use Rattle.mdr_exec.specs.declared.places.Part.{Part}
use Rattle.mdr_exec.specs.declared.places.Position.{Position}
use Rattle.mdr_exec.specs.Found.{body_codes}
use Rattle.mdr_exec.specs.Holding.{held_of, is_running, list_entered}
use Rattle.mdr_exec.specs.Places.{behind}
use Rattle.mdr_exec.proofs.PathLaws.{path_into, around_into}

pub running_is : (b : Before) → is_running b ≡ true → b ≡ front.Runs
running_is front.Runs h = refl
running_is (front.Unwinds flow) h = absurd (cc h)
running_is (front.Comes v) h = absurd (cc h)
running_is front.Enters h = absurd (cc h)
running_is (front.Fills ps) h = absurd (cc h)
running_is (front.Born i p) h = absurd (cc h)
running_is front.WaitsValue h = absurd (cc h)
running_is (front.WaitsParams room) h = absurd (cc h)
running_is (front.WaitsObject i) h = absurd (cc h)
running_is (front.WaitsDeath flow) h = absurd (cc h)

pub enters_list : (m : Machine) (part : Part) (next : ℕ) (path : List Position) (born outer : List Value) → is_running m.front ≡ true
    → next ≡ m.top.next + 1 → born ≡ [] → outer ≡ m.top.born → path ≡ m.top.path ++ record { next = next; part = part; born = outer } ∷ [] → (program : Program)
    → held_of program (record {
      side = m.side;
      front = m.front;
      top = record { func = m.top.func; depth = m.top.depth; path = path; next = 0; slots = m.top.slots; born = born };
      below = m.below;
      used = m.used;
    }) ≡ list_entered program m part
unfolding held_of behind
enters_list m part next path born outer runs e b o p program =
    let more : next ≡ suc m.top.next = omega (arith, e) in
    rw (running_is m.front runs, p, b, o, more, path_into m.top.path (record { next = suc m.top.next; part = part; born = m.top.born }) (body_codes program m.top.func), around_into m.top.path (record { next = suc m.top.next; part = part; born = m.top.born }) (body_codes program m.top.func)) refl
