-- Values are stored, and assignments are made.
use Rattle.std.proofs.Common.{◌≡◌, ℕ, zero, suc, ◌+◌, true, List, [], ◌∷◌, Option, Some, None, Result, Ok, Err, OnErr, slice_set, refl, ap, sym, ◌∙◌, subst}
use Rattle.mdr_core.specs.declared.program.Program.{Program}
use Rattle.mdr_core.specs.declared.stop.StopKind.{StopKind}
use Rattle.mdr_core.specs.declared.value.Value.{Value}
use Rattle.mdr_core.specs.Code.{Term, Lvalue, Code, Codes}
use Rattle.mdr_meaning.specs.declared.wire.Wire.{Wire}
use Rattle.mdr_meaning.specs.Bodies.{known_of}
use Rattle.mdr_meaning.specs.Numbers.{Numbered}
use Rattle.mdr_meaning.specs.Sides.{Side, Locals, Ends, in_here}
use Rattle.mdr_meaning.specs.Values.{wire_of}
use Rattle.mdr_meaning.specs.Walk.{Accesses}
use Rattle.mdr_events.specs.Held.{Runs, Item, Held}
use Rattle.mdr_events.specs.Outcomes.{when_made}
use Rattle.mdr_events.specs.Steps.{Left, holds, Goes, Stopped, came_by, held_after, Ticks}
use Rattle.mdr_events.specs.Values.{wires_of}
use Rattle.mdr_exec.specs.declared.frame.Machine.{Machine}
use Rattle.mdr_exec.specs.Effects.{Did, did, after_result, after_did, ended, assigned, put_of, stored}
use Rattle.mdr_exec.specs.Evaluation.{place_of, value_of}
use Rattle.mdr_exec.specs.Holding.{block_of, held_of, is_running}
use Rattle.mdr_exec.specs.Leaving.{here_in, goes_behind}
use Rattle.mdr_exec.specs.Places.{behind, code_at}
use Rattle.mdr_exec.specs.Storing.{slot_named, with_slots}
use Rattle.mdr_exec.proofs.BeginningLaws.{stands, goes_past}
use Rattle.mdr_exec.proofs.StepLaws.{statements_step}

pub stored_so : {A M : Type 0} (r : Result (Unit {0}) StopKind) (x : Result M StopKind) (old new : M) (l : A) → x ≡ when_made r new → OnErr r (new ≡ old)
    → after_result x old (λ m o. did (Ok l) m) ≡ did (when_made r l) new
stored_so (Ok done) x old new l is kept = ap (λ y. after_result y old (λ m o. did (Ok l) m)) is
stored_so (Err kind) x old new l is kept = ap (λ y. after_result y old (λ m o. did (Ok l) m)) is ∙ ap (did (Err kind)) (sym kept)

pub wires_set : (slots : List Value) (i : ℕ) (v : Value) → wires_of (slice_set slots i v) ≡ slice_set (wires_of slots) i (wire_of v)
wires_set [] zero v = refl
wires_set [] (suc i) v = refl
wires_set (x ∷ slots) zero v = refl
wires_set (x ∷ slots) (suc i) v = ap (λ ys. wire_of x ∷ ys) (wires_set slots i v)

module _ {M : Type 0} (a : Accesses M) (known : Numbered) (m : M) where
  put_slot : (p : Lvalue) (i : ℕ) (v : Wire) (l : Locals) → slot_named p ≡ Some i → put_of a known p v l m ≡ did (Ok (record { slots = slice_set l.slots i v; born = l.born })) m
  unfolding put_of
  put_slot (Lvalue.Slot j) i v l h = let same : j ≡ i = cc h in ap (λ k. did (Ok (record { slots = slice_set l.slots k v; born = l.born })) m) same
  put_slot (Lvalue.Object j) i v l h = absurd (cc h)
  put_slot (Lvalue.Global g) i v l h = absurd (cc h)
  put_slot (Lvalue.Deref e) i v l h = absurd (cc h)
  put_slot (Lvalue.Member p f) i v l h = absurd (cc h)
  put_slot (Lvalue.Index p e) i v l h = absurd (cc h)

  put_elsewhere : (p : Lvalue) (v : Wire) (l : Locals) → slot_named p ≡ None → put_of a known p v l m ≡ after_result (place_of a m known l.slots p) m (λ q m'. stored a q v l m')
  unfolding put_of
  put_elsewhere (Lvalue.Slot j) v l h = absurd (cc h)
  put_elsewhere (Lvalue.Object j) v l h = refl
  put_elsewhere (Lvalue.Global g) v l h = refl
  put_elsewhere (Lvalue.Deref e) v l h = refl
  put_elsewhere (Lvalue.Member p f) v l h = refl
  put_elsewhere (Lvalue.Index p e) v l h = refl

  pub slot_put : (p : Lvalue) (found : Option ℕ) (i : ℕ) (v : Value) (slots new : List Value) → found ≡ slot_named p → found ≡ Some i → new ≡ slice_set slots i v → (born : List Wire)
      → put_of a known p (wire_of v) (with_slots slots born) m ≡ did (Ok (with_slots new born)) m
  slot_put p found i v slots new named is set born =
      put_slot p i (wire_of v) (with_slots slots born) (sym named ∙ is) ∙ ap (λ ws. did (Ok (record { slots = ws; born = born })) m) (sym (wires_set slots i v) ∙ ap wires_of (sym set))

  pub place_put : (p : Lvalue) (found : Option ℕ) (v : Value) (slots given : List Value) (r : Result (Unit {0}) StopKind) (new : M) → found ≡ slot_named p → found ≡ None → given ≡ slots
      → ((l : Locals) → after_result (place_of a m known (wires_of given) p) m (λ q m'. stored a q (wire_of v) l m') ≡ did (when_made r l) new)
      → (born : List Wire) → put_of a known p (wire_of v) (with_slots slots born) m ≡ did (when_made r (with_slots slots born)) new
  place_put p found v slots given r new named is same done born =
      put_elsewhere p (wire_of v) (with_slots slots born) (sym named ∙ is)
      ∙ ap (λ ws. after_result (place_of a m known (wires_of ws) p) m (λ q m'. stored a q (wire_of v) (with_slots slots born) m')) (sym same)
      ∙ done (with_slots slots born)

-- ---- assignments

module _ {M : Type 0} (a : Accesses M) (program : Program) (m : Machine) (memory : M) (runs : is_running m.front ≡ true) (p : Lvalue) where
  abbrev items_in : List Item
  items_in = (held_of program m).items

  abbrev more_in : Codes
  more_in = behind (block_of program m.top) (suc m.top.next)

  abbrev locals_in : Locals
  locals_in = with_slots m.top.slots (wires_of m.top.born)

  assigned_so : (side : Side) (n : ℕ) (e : Term) (d : Did Left M) → assigned a side.known p e locals_in memory ≡ d → code_at (block_of program m.top) m.top.next ≡ Some (Code.Assign n p e)
      → Ticks a side (held_of program m) memory (came_by (in_here (here_in program m) n) d.result) (held_after d.result (here_in program m) more_in items_in) d.memory
  assigned_so side n e d is at =
      subst (λ h. Ticks a side h memory (came_by (in_here (here_in program m) n) d.result) (held_after d.result (here_in program m) more_in items_in) d.memory) (sym (stands program m (Code.Assign n p e) runs at))
      (subst (λ x. Ticks a side (holds Runs (here_in program m) locals_in (Codes.Then (Code.Assign n p e) more_in) items_in) memory (came_by (in_here (here_in program m) n) x.result) (held_after x.result (here_in program m) more_in items_in) x.memory) is
      ((statements_step a side (here_in program m) locals_in more_in items_in memory n).assigns p e))

  -- the value is there
  valued_so : (side : Side) (e : Term) (x : Result Wire StopKind) → x ≡ value_of a memory (known_of program) (wires_of m.top.slots) e → side.known ≡ known_of program
      → assigned a side.known p e locals_in memory ≡ after_result x memory (λ v m'. after_did (put_of a (known_of program) p v locals_in m') (ended Ends))
  valued_so side e x is known =
      ap (λ k. assigned a k p e locals_in memory) known ∙ ap (λ y. after_result y memory (λ v m'. after_did (put_of a (known_of program) p v locals_in m') (ended Ends))) (sym is)

  pub assign_goes : (v : Wire) (r : Result (Unit {0}) StopKind) (slots : List Value) (memory' : M) (held : Held) (next : ℕ)
      → ((born : List Wire) → put_of a (known_of program) p v (with_slots m.top.slots born) memory ≡ did (when_made r (with_slots slots born)) memory') → (u : Unit {0}) → r ≡ Ok u → next ≡ m.top.next + 1
      → held ≡ goes_behind program (record { side = m.side; front = m.front; top = record { func = m.top.func; depth = m.top.depth; path = m.top.path; next = m.top.next; slots = slots; born = m.top.born }; below = m.below; used = m.used }) Ends next (wires_of m.top.born)
      → (side : Side) (n : ℕ) (e : Term) → Ok v ≡ value_of a memory (known_of program) (wires_of m.top.slots) e → side.known ≡ known_of program → code_at (block_of program m.top) m.top.next ≡ Some (Code.Assign n p e)
      → Ticks a side (held_of program m) memory Goes held memory'
  unfolding held_of
  assign_goes v r slots memory' held next put u ok next_is h side n e value_is known at =
      let left : Did Left M = did (Ok (record { flow = Ends; locals = with_slots slots (wires_of m.top.born) })) memory' in
      let made : put_of a (known_of program) p v locals_in memory ≡ did (Ok (with_slots slots (wires_of m.top.born))) memory' =
      put (wires_of m.top.born) ∙ ap (λ x. did (when_made x (with_slots slots (wires_of m.top.born))) memory') ok in
      let done : assigned a side.known p e locals_in memory ≡ left = valued_so side e (Ok v) value_is known ∙ ap (λ d. after_did d (ended Ends)) made in
      subst (λ x. Ticks a side (held_of program m) memory Goes x memory')
      (sym (h ∙ goes_past program (record { side = m.side; front = m.front; top = record { func = m.top.func; depth = m.top.depth; path = m.top.path; next = m.top.next; slots = slots; born = m.top.born }; below = m.below; used = m.used }) Ends next next_is))
      (assigned_so side n e left done at)

  pub assign_stops : (v : Wire) (r : Result (Unit {0}) StopKind) (kind : StopKind) (slots : List Value) (memory' : M) (held : Held)
      → ((born : List Wire) → put_of a (known_of program) p v (with_slots m.top.slots born) memory ≡ did (when_made r (with_slots slots born)) memory') → r ≡ Err kind
      → (side : Side) (n : ℕ) (e : Term) → Ok v ≡ value_of a memory (known_of program) (wires_of m.top.slots) e → side.known ≡ known_of program → code_at (block_of program m.top) m.top.next ≡ Some (Code.Assign n p e)
      → Ticks a side (held_of program m) memory (Stopped kind (in_here (here_in program m) n)) held memory'
  assign_stops v r kind slots memory' held put err side n e value_is known at =
      let made : put_of a (known_of program) p v locals_in memory ≡ did (Err kind) memory' =
      put (wires_of m.top.born) ∙ ap (λ x. did (when_made x (with_slots slots (wires_of m.top.born))) memory') err in
      let done : assigned a side.known p e locals_in memory ≡ did (Err kind) memory' = valued_so side e (Ok v) value_is known ∙ ap (λ d. after_did d (ended Ends)) made in
      record { by = λ f k q less. (assigned_so side n e (did (Err kind) memory') done at).by f k q less; leaves = λ r. tt }

  pub value_stops : (kind : StopKind) (held : Held)
      → (side : Side) (n : ℕ) (e : Term) → Err kind ≡ value_of a memory (known_of program) (wires_of m.top.slots) e → side.known ≡ known_of program → code_at (block_of program m.top) m.top.next ≡ Some (Code.Assign n p e)
      → Ticks a side (held_of program m) memory (Stopped kind (in_here (here_in program m) n)) held memory
  value_stops kind held side n e value_is known at =
      record { by = λ f k q less. (assigned_so side n e (did (Err kind) memory) (valued_so side e (Err kind) value_is known) at).by f k q less; leaves = λ r. tt }
