-- The value of a call goes where its statement says, in the machine.
use Rattle.std.proofs.Common.{◌≡◌, ℕ, List, Option, Result, Ok, Err, refl, ap, sym, ◌∙◌, subst}
use Rattle.mdr_core.specs.declared.program.Program.{Program}
use Rattle.mdr_core.specs.declared.stop.StopKind.{StopKind}
use Rattle.mdr_core.specs.declared.value.Value.{Value}
use Rattle.mdr_core.specs.Code.{Lvalue, Goal, Codes}
use Rattle.mdr_meaning.specs.declared.wire.Wire.{Wire}
use Rattle.mdr_core.specs.declared.types.Ty.{Ty}
use Rattle.mdr_meaning.specs.Bodies.{known_of}
use Rattle.mdr_meaning.specs.Calls.{received}
use Rattle.mdr_meaning.specs.Numbers.{Numbered}
use Rattle.mdr_meaning.specs.Sides.{Side, Locals, Ends, Returns, in_here}
use Rattle.mdr_meaning.specs.Values.{wire_of}
use Rattle.mdr_meaning.specs.Walk.{Accesses}
use Rattle.mdr_events.specs.Held.{Comes, Item, Held}
use Rattle.mdr_events.specs.Outcomes.{when_made, wired}
use Rattle.mdr_events.specs.Steps.{Left, holds, Came, Goes, Stopped, came_by, held_after, Steps, Ticks}
use Rattle.mdr_events.specs.Values.{wires_of}
use Rattle.mdr_exec.specs.declared.event.Outcome.{Outcome}
use Rattle.mdr_exec.specs.declared.frame.Flow.TheVariants as flow
use Rattle.mdr_exec.specs.declared.frame.Front.{Front as Before}
use Rattle.mdr_exec.specs.declared.frame.Front.TheVariants as front
use Rattle.mdr_exec.specs.declared.frame.Machine.{Machine}
use Rattle.mdr_exec.specs.Beginning.{came_of}
use Rattle.mdr_exec.specs.Effects.{Did, did, after_did, after_result, ended, keep_of, put_of}
use Rattle.mdr_exec.specs.Events.{came_as}
use Rattle.mdr_exec.specs.Holding.{block_of, code_of_frame, front_in, goal_at, held_of, here_of, number_at}
use Rattle.mdr_exec.specs.Leaving.{here_in}
use Rattle.mdr_exec.specs.Places.{behind}
use Rattle.mdr_exec.specs.Receiving.{received_as, received_back}
use Rattle.mdr_exec.specs.Storing.{with_slots}
use Rattle.mdr_exec.proofs.UnwindingLaws.{work_goes_on}

module _ (program : Program) (m : Machine) where
  abbrev behind_of : Codes
  behind_of = behind (block_of program m.top) m.top.next

  abbrev around_of : List Item
  around_of = (held_of program m).items

  abbrev locals_now : Locals
  locals_now = with_slots m.top.slots (wires_of m.top.born)

  -- the machine goes on so, with these slots
  abbrev pub goes_on : Before → List Value → Machine
  goes_on b slots = record {
    side = m.side;
    front = b;
    top = record { func = m.top.func; depth = m.top.depth; path = m.top.path; next = m.top.next; slots = slots; born = m.top.born };
    below = m.below;
    used = m.used;
  }

  abbrev pub ComesHere : ℕ → Goal → Wire → Type 0
  ComesHere n goal v = front_in program m.top m.front ≡ Comes n goal v

  module _ {M : Type 0} (a : Accesses M) (memory : M) (side : Side) (n : ℕ) where
    kept : (goal : Goal) (v : Wire) (d : Did Left M) → ComesHere n goal v → keep_of a side.known (here_in program m) goal v locals_now memory ≡ d
        → Steps a side (held_of program m) memory (came_by (in_here (here_in program m) n) d.result) (held_after d.result (here_in program m) behind_of around_of) d.memory
    unfolding held_of
    kept goal v d comes is =
        let law = (work_goes_on a side (here_in program m) locals_now behind_of around_of memory).comes n goal v in
        subst (λ x. Steps a side (holds x (here_in program m) locals_now behind_of around_of) memory (came_by (in_here (here_in program m) n) d.result) (held_after d.result (here_in program m) behind_of around_of) d.memory) (sym comes)
        (subst (λ x. Steps a side (holds (Comes n goal v) (here_in program m) locals_now behind_of around_of) memory (came_by (in_here (here_in program m) n) x.result) (held_after x.result (here_in program m) behind_of around_of) x.memory) is law)

    -- what it held when it stopped is no matter
    kept_stops : (goal : Goal) (v : Wire) (kind : StopKind) (memory' : M) (held : Held) → ComesHere n goal v → keep_of a side.known (here_in program m) goal v locals_now memory ≡ did (Err kind) memory'
        → Steps a side (held_of program m) memory (Stopped kind (in_here (here_in program m) n)) held memory'
    kept_stops goal v kind memory' held comes is = record { by = λ f q r less. (kept goal v (did (Err kind) memory') comes is).by f q r less; leaves = λ r. tt }

    module _ (known : side.known ≡ known_of program) where
      into_is : (p : Lvalue) (v : Wire) (x : Result Wire StopKind) → received_as program m.top p v ≡ x
          → keep_of a side.known (here_in program m) (Goal.Into p) v locals_now memory ≡ after_result x memory (λ y m'. after_did (put_of a (known_of program) p y locals_now m') (ended Ends))
      unfolding here_of
      into_is p v x got =
          ap (λ k. keep_of a k (here_in program m) (Goal.Into p) v locals_now memory) known
          ∙ ap (λ y. after_result y memory (λ z m'. after_did (put_of a (known_of program) p z locals_now m') (ended Ends))) got

      back_is : (v : Wire) (x : Result Wire StopKind) → received_back program m.top.func v ≡ x
          → keep_of a side.known (here_in program m) Goal.Back v locals_now memory ≡ after_result x memory (λ y. ended (Returns y) locals_now)
      unfolding here_of
      back_is v x got =
          ap (λ k. keep_of a k (here_in program m) Goal.Back v locals_now memory) known
          ∙ ap (λ y. after_result y memory (λ z. ended (Returns z) locals_now)) got

      pub into_stops : (p : Lvalue) (v : Wire) (kind : StopKind) (held : Held) → received_as program m.top p v ≡ Err kind → ComesHere n (Goal.Into p) v
          → Steps a side (held_of program m) memory (Stopped kind (in_here (here_in program m) n)) held memory
      into_stops p v kind held got comes = kept_stops (Goal.Into p) v kind memory held comes (into_is p v (Err kind) got)

      module _ (p : Lvalue) (v x : Wire) (r : Result (Unit {0}) StopKind) (slots : List Value) (memory' : M)
          (put : (born : List Wire) → put_of a (known_of program) p x (with_slots m.top.slots born) memory ≡ did (when_made r (with_slots slots born)) memory') where
        put_is : received_as program m.top p v ≡ Ok x → (made : Result (Unit {0}) StopKind) → r ≡ made
            → keep_of a side.known (here_in program m) (Goal.Into p) v locals_now memory ≡ after_did (did (when_made made (with_slots slots (wires_of m.top.born))) memory') (ended Ends)
        put_is got made is =
            into_is p v (Ok x) got ∙ ap (λ d. after_did d (ended Ends)) (put (wires_of m.top.born) ∙ ap (λ y. did (when_made y (with_slots slots (wires_of m.top.born))) memory') is)

        pub put_goes : (u : Unit {0}) → r ≡ Ok u → received_as program m.top p v ≡ Ok x → ComesHere n (Goal.Into p) v
            → Steps a side (held_of program m) memory Goes (held_of program (goes_on front.Runs slots)) memory'
        unfolding held_of
        put_goes u ok got comes =
            kept (Goal.Into p) v (did (Ok (record { flow = Ends; locals = with_slots slots (wires_of m.top.born) })) memory') comes (put_is got (Ok u) ok)

        pub put_stops : (kind : StopKind) (held : Held) → r ≡ Err kind → received_as program m.top p v ≡ Ok x → ComesHere n (Goal.Into p) v
            → Steps a side (held_of program m) memory (Stopped kind (in_here (here_in program m) n)) held memory'
        put_stops kind held err got comes = kept_stops (Goal.Into p) v kind memory' held comes (put_is got (Err kind) err)

      pub back_goes : (v : Wire) (value : Value) → received_back program m.top.func v ≡ Ok (wire_of value) → ComesHere n Goal.Back v
          → Steps a side (held_of program m) memory Goes (held_of program (goes_on (front.Unwinds (flow.Returns value)) m.top.slots)) memory
      unfolding held_of
      back_goes v value got comes =
          kept Goal.Back v (did (Ok (record { flow = Returns (wire_of value); locals = locals_now })) memory) comes (back_is v (Ok (wire_of value)) got)

      pub back_stops : (v : Wire) (kind : StopKind) (held : Held) → received_back program m.top.func v ≡ Err kind → ComesHere n Goal.Back v
          → Steps a side (held_of program m) memory (Stopped kind (in_here (here_in program m) n)) held memory
      back_stops v kind held got comes = kept_stops Goal.Back v kind memory held comes (back_is v (Err kind) got)

    pub nothing_kept : (v : Wire) → ComesHere n Goal.Nowhere v → Steps a side (held_of program m) memory Goes (held_of program (goes_on front.Runs m.top.slots)) memory
    unfolding held_of
    nothing_kept v comes = kept Goal.Nowhere v (did (Ok (record { flow = Ends; locals = locals_now })) memory) comes refl

-- a value that was received, by its type's name
pub received_so : (known : Numbered) (ty named : Option Ty) (v : Wire) (x z : Result Value StopKind) → wired x ≡ received known ty v → ty ≡ named → x ≡ z → received known named v ≡ wired z
received_so known ty named v x z is same e = ap (λ t. received known t v) (sym same) ∙ sym is ∙ ap wired e

-- the event of what came
pub steps_told : {M : Type 0} (a : Accesses M) (side : Side) (h h' : Held) (m m' : M) (came came' : Came) → came' ≡ came → Steps a side h m came h' m' → Steps a side h m came' h' m'
steps_told a side h h' m m' came came' same law = subst (λ x. Steps a side h m x h' m') (sym same) law

-- a stop as an event, at the place of a statement of the machine's function
pub stop_told : {M : Type 0} (a : Accesses M) (side : Side) (program : Program) (m : Machine) (h h' : Held) (memory memory' : M) (n : ℕ) (r : Option StopKind) (e : Option Outcome)
    → came_as e ≡ came_of r (record { func = m.top.func; stmt = n }) → Ticks a side h memory (came_of r (in_here (here_in program m) n)) h' memory' → Ticks a side h memory (came_as e) h' memory'
unfolding here_of
stop_told a side program m h h' memory memory' n r e told law = subst (λ x. Ticks a side h memory x h' memory') (sym told) law

-- the value of the call that the machine stands behind
pub value_kept : {M : Type 0} (a : Accesses M) (program : Program) (m : Machine) (value : Value) (memory memory' : M) (number : ℕ) (goal : Goal) (r : Option StopKind) (e : Option Outcome) (held : Held)
    → m.front ≡ front.Comes value → number ≡ number_at (code_of_frame program m.top) → goal ≡ goal_at (code_of_frame program m.top) → came_as e ≡ came_of r (record { func = m.top.func; stmt = number })
    → ((side : Side) (n : ℕ) → side.known ≡ known_of program → front_in program m.top m.front ≡ Comes n goal (wire_of value) → Steps a side (held_of program m) memory (came_of r (in_here (here_in program m) n)) held memory')
    → (side : Side) → side.known ≡ known_of program → Steps a side (held_of program m) memory (came_as e) held memory'
unfolding here_of
value_kept a program m value memory memory' number goal r e held comes n_is goal_is told law side known =
    let front_is : front_in program m.top m.front ≡ Comes number goal (wire_of value) =
    ap (front_in program m.top) comes ∙ ap (λ k. Comes k (goal_at (code_of_frame program m.top)) (wire_of value)) (sym n_is) ∙ ap (λ g. Comes number g (wire_of value)) (sym goal_is) in
    steps_told a side (held_of program m) held memory memory' (came_of r (record { func = m.top.func; stmt = number })) (came_as e) told (law side number known front_is)
