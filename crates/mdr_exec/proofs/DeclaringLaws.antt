-- Declarations, in the machine.
use Rattle.std.proofs.Common.{◌≡◌, ℕ, zero, suc, ◌+◌, ◌-◌, true, false, Bool, List, [], ◌∷◌, ◌++◌, length, map, Option, Some, None, Ok, slice_get, slice_set, refl, ap, sym, ◌∙◌, subst, arith}
use Rattle.std.specs.Option.{option_map}
use Rattle.mdr_core.specs.declared.program.Program.{Program}
use Rattle.mdr_core.specs.declared.program.Param.{Param}
use Rattle.mdr_core.specs.declared.program.Local.{Local}
use Rattle.mdr_core.specs.declared.types.Ty.{Ty}
use Rattle.mdr_core.specs.declared.value.Value.{Value}
use Rattle.mdr_core.specs.Code.{Code}
use Rattle.mdr_core.specs.Layout.{zero_value}
use Rattle.mdr_core.specs.Typing.{Slot, slot_of_local, slot_of_param}
use Rattle.mdr_meaning.specs.declared.shape.Shape64.{Shape64}
use Rattle.mdr_meaning.specs.Lives.{asked_for, shape_of}
use Rattle.mdr_meaning.specs.Sides.{Side, Locals, Ends}
use Rattle.mdr_meaning.specs.Values.{first_of, wire_of}
use Rattle.mdr_meaning.specs.Walk.{Accesses}
use Rattle.mdr_events.specs.Held as held
use Rattle.mdr_events.specs.Held.{Held}
use Rattle.mdr_events.specs.Steps.{holds, holds_after, Goes, Asks, held_after, Ticks}
use Rattle.mdr_events.specs.Values.{wires_of}
use Rattle.mdr_exec.specs.declared.event.Outcome.{Outcome}
use Rattle.mdr_exec.specs.declared.frame.Front.TheVariants as front
use Rattle.mdr_exec.specs.declared.frame.Machine.{Machine}
use Rattle.mdr_exec.specs.Events.{came_with}
use Rattle.mdr_exec.specs.Holding.{here_of, held_of, is_running, slots_by}
use Rattle.mdr_exec.specs.Leaving.{goes_behind, here_in}
use Rattle.mdr_exec.specs.StatementSteps.{is_object, zeroed}
use Rattle.mdr_exec.specs.Storing.{with_slots}
use Rattle.mdr_exec.proofs.DoneLaws.{ahead_of, items_of, locals_of, at_next, stepped_to, stepped_holds, ended_holds, comes_in}
use Rattle.mdr_exec.proofs.StepLaws.{statements_step}
use Rattle.mdr_exec.proofs.StoringLaws.{wires_set}

-- ---- slots, by their numbers

get_map : {A B : Type 0} (f : A → B) (xs : List A) (i : ℕ) → slice_get (map f xs) i ≡ option_map f (slice_get xs i)
get_map f [] i = refl
get_map f (x ∷ xs) zero = refl
get_map f (x ∷ xs) (suc i) = get_map f xs i

pub in_params : (ps : List Param) (rest : List Slot) (i : ℕ) (s : Slot) → option_map slot_of_param (slice_get ps i) ≡ Some s → slice_get (map slot_of_param ps ++ rest) i ≡ Some s
in_params [] rest i s h = absurd (cc h)
in_params (p ∷ ps) rest zero s h = h
in_params (p ∷ ps) rest (suc i) s h = in_params ps rest i s h

pub in_locals : (ps : List Param) (ls : List Local) (i : ℕ) → option_map slot_of_param (slice_get ps i) ≡ None
    → slice_get (map slot_of_param ps ++ map slot_of_local ls) i ≡ option_map slot_of_local (slice_get ls (i - length ps))
in_locals [] ls i h = let back : i - 0 ≡ i = omega arith in get_map slot_of_local ls i ∙ ap (λ j. option_map slot_of_local (slice_get ls j)) (sym back)
in_locals (p ∷ ps) ls zero h = absurd (cc h)
in_locals (p ∷ ps) ls (suc i) h =
    let same : i - length ps ≡ suc i - length (p ∷ ps) = omega arith in
    in_locals ps ls i h ∙ ap (λ j. option_map slot_of_local (slice_get ls j)) same

-- ---- declarations

no_object : (o : Option Slot) → o ≡ None → is_object o ≡ false
no_object o is = ap is_object is

its_object : (o : Option Slot) (s : Slot) (b : Bool) → o ≡ Some s → s.object ≡ b → is_object o ≡ b
its_object o s b is object = ap is_object is ∙ object

its_zero : (o : Option Slot) (s : Slot) (i : ℕ) (l : Locals) → o ≡ Some s → zeroed i o l ≡ record { slots = slice_set l.slots i (wire_of (zero_value s.ty)); born = l.born }
its_zero o s i l is = ap (λ x. zeroed i x l) is

module _ {M : Type 0} (a : Accesses M) (program : Program) (m : Machine) (memory : M) (runs : is_running m.front ≡ true) (side : Side) (n i : ℕ) (is : at_next program m (Code.Declare n i)) where
  abbrev slot_is : Option Slot → Type 0
  slot_is o = slice_get (slots_by (slice_get program.funcs m.top.func)) i ≡ o

  pub nothing_declared : (next : ℕ) (held : Held) → next ≡ m.top.next + 1 → held ≡ goes_behind program m Ends next (wires_of m.top.born) → slot_is None → Ticks a side (held_of program m) memory Goes held memory
  unfolding here_of
  nothing_declared next held at h none =
      let left : zeroed i (slice_get (slots_by (slice_get program.funcs m.top.func)) i) (locals_of program m) ≡ locals_of program m = ap (λ o. zeroed i o (locals_of program m)) none in
      comes_in program m a memory runs side (Code.Declare n i) is Goes Goes
      (held_after (Ok (record { flow = Ends; locals = zeroed i (slice_get (slots_by (slice_get program.funcs m.top.func)) i) (locals_of program m) })) (here_in program m) (ahead_of program m) (items_of program m)) held memory
      ((statements_step a side (here_in program m) (locals_of program m) (ahead_of program m) (items_of program m) memory n).declares i (no_object _ none)) refl
      (ap (λ l. holds_after (record { flow = Ends; locals = l }) (here_in program m) (ahead_of program m) (items_of program m)) left ∙ sym (ended_holds program m m.top.slots Ends next at) ∙ sym h)

  pub slot_declared : (s : Slot) (ty : Ty) (v : Value) (slots : List Value) (next : ℕ) (held : Held) → wire_of v ≡ wire_of (zero_value ty) → slots ≡ slice_set m.top.slots i v → next ≡ m.top.next + 1
      → held ≡ goes_behind program (stepped_to program m m.front m.top.next slots) Ends next (wires_of m.top.born) → slot_is (Some s) → s.object ≡ false → s.ty ≡ ty → Ticks a side (held_of program m) memory Goes held memory
  unfolding here_of
  slot_declared s ty v slots next held zero_is set at h some object type =
      let zeros : slice_set (wires_of m.top.slots) i (wire_of (zero_value s.ty)) ≡ wires_of slots =
      ap (λ t. slice_set (wires_of m.top.slots) i (wire_of (zero_value t))) type ∙ ap (slice_set (wires_of m.top.slots) i) (sym zero_is) ∙ sym (wires_set m.top.slots i v) ∙ ap wires_of (sym set) in
      let left : zeroed i (slice_get (slots_by (slice_get program.funcs m.top.func)) i) (locals_of program m) ≡ with_slots slots (wires_of m.top.born) =
      its_zero (slice_get (slots_by (slice_get program.funcs m.top.func)) i) s i (locals_of program m) some ∙ ap (λ ws. record { slots = ws; born = wires_of m.top.born }) zeros in
      comes_in program m a memory runs side (Code.Declare n i) is Goes Goes
      (held_after (Ok (record { flow = Ends; locals = zeroed i (slice_get (slots_by (slice_get program.funcs m.top.func)) i) (locals_of program m) })) (here_in program m) (ahead_of program m) (items_of program m)) held memory
      ((statements_step a side (here_in program m) (locals_of program m) (ahead_of program m) (items_of program m) memory n).declares i (its_object _ s false some object)) refl
      (ap (λ l. holds_after (record { flow = Ends; locals = l }) (here_in program m) (ahead_of program m) (items_of program m)) left ∙ sym (ended_holds program m slots Ends next at) ∙ sym h)

  pub object_born : (s : Slot) (shape : Shape64) (p : Value) (memory' : M) (next : ℕ) → wire_of p ≡ first_of (a.birth memory (shape ∷ [])).pointers → memory' ≡ (a.birth memory (shape ∷ [])).memory → next ≡ m.top.next + 1
      → slot_is (Some s) → s.object ≡ true → side.asks ≡ false → shape ≡ shape_of side.known s → Ticks a side (held_of program m) memory Goes (held_of program (stepped_to program m (front.Born i p) next m.top.slots)) memory'
  unfolding here_of
  object_born s shape p memory' next pointer left at some object asks shape_is =
      let here_born : held.Born i (first_of (a.birth memory (shape_of side.known s ∷ [])).pointers) ≡ held.Born i (wire_of p) = ap (held.Born i) (ap (λ x. first_of (a.birth memory (x ∷ [])).pointers) (sym shape_is) ∙ sym pointer) in
      let after : (a.birth memory (shape_of side.known s ∷ [])).memory ≡ memory' = ap (λ x. (a.birth memory (x ∷ [])).memory) (sym shape_is) ∙ sym left in
      subst (λ x. Ticks a side (held_of program m) memory Goes (held_of program (stepped_to program m (front.Born i p) next m.top.slots)) x) after
      (comes_in program m a memory runs side (Code.Declare n i) is Goes Goes _ _ _
      ((statements_step a side (here_in program m) (locals_of program m) (ahead_of program m) (items_of program m) memory n).births i s some object asks) refl
      (ap (λ x. holds x (here_in program m) (locals_of program m) (ahead_of program m) (items_of program m)) here_born ∙ sym (stepped_holds program m (front.Born i p) next m.top.slots at)))

  pub object_asked : (s : Slot) (shape : Shape64) (e : Outcome) (next : ℕ) → came_with e ≡ Asks (asked_for 13 (record { func = m.top.func; stmt = 0 }) [] (shape ∷ []) []) → next ≡ m.top.next + 1
      → slot_is (Some s) → s.object ≡ true → side.asks ≡ true → shape ≡ shape_of side.known s → Ticks a side (held_of program m) memory (came_with e) (held_of program (stepped_to program m (front.WaitsObject i) next m.top.slots)) memory
  unfolding here_of
  object_asked s shape e next came at some object asks shape_is =
      comes_in program m a memory runs side (Code.Declare n i) is _ _ _ _ _
      ((statements_step a side (here_in program m) (locals_of program m) (ahead_of program m) (items_of program m) memory n).asks i s some object asks)
      (ap (λ x. Asks (asked_for 13 (record { func = m.top.func; stmt = 0 }) [] (x ∷ []) [])) (sym shape_is) ∙ sym came)
      (sym (stepped_holds program m (front.WaitsObject i) next m.top.slots at))
