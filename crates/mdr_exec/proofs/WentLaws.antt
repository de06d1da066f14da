-- Objects die first, or a list of statements is left.
use Rattle.std.proofs.Common.{reverse, ◌≡◌, Bool, true, false, List, [], ◌∷◌, ◌++◌, Option, Some, None, option_map, refl, ap, sym, ◌∙◌, subst}
use Rattle.mdr_core.specs.declared.program.Program.{Program}
use Rattle.mdr_core.specs.declared.place.At.{At}
use Rattle.mdr_core.specs.declared.value.Value.{Value}
use Rattle.mdr_core.specs.Code.{Code}
use Rattle.mdr_meaning.specs.declared.wire.Wire.{Wire}
use Rattle.mdr_meaning.specs.Lives.{asked_for}
use Rattle.mdr_meaning.specs.Sides.{Side, Flow, Ends, Breaks, Continues, Returns, in_here}
use Rattle.mdr_meaning.specs.Walk.{Accesses, walk}
use Rattle.mdr_exec.specs.declared.frame.Flow.{Flow as Leaving}
use Rattle.mdr_exec.specs.declared.frame.Front.TheVariants as front
use Rattle.mdr_exec.specs.declared.frame.Machine.{Machine}
use Rattle.std.proofs.lemmas.List.{reverse-append}
use Rattle.mdr_events.specs.Held.{Item, Held}
use Rattle.mdr_events.specs.Steps.{Ended, Goes, Asks, IsSame, Steps}
use Rattle.mdr_events.specs.Values.{wires_of}
use Rattle.mdr_exec.specs.declared.frame.Suspended.{Suspended}
use Rattle.mdr_exec.specs.declared.frame.Until.{Until}
use Rattle.mdr_exec.specs.declared.frame.Until.TheVariants as until
use Rattle.mdr_exec.specs.declared.leave.Ending.{Ending}
use Rattle.mdr_exec.specs.declared.leave.Ending.TheVariants as ending
use Rattle.mdr_exec.specs.declared.places.Part.{Part}
use Rattle.mdr_exec.specs.declared.places.Part.TheVariants as part
use Rattle.mdr_exec.specs.declared.places.Position.{Position}
use Rattle.mdr_exec.specs.declared.unwind.Left.{Left}
use Rattle.mdr_exec.specs.Closing.{DiesAt, AtBlock, AtEnd, Finishes, asked_to_die, asks_on}
use Rattle.mdr_exec.specs.Found.{body_codes}
use Rattle.mdr_exec.specs.Holding.{around, below_of, block_of, ends_with, flow_as, held_of, waits_by}
use Rattle.mdr_exec.specs.Leaving.{ending_by, here_in, is_loop, leaves_list}
use Rattle.mdr_exec.specs.Places.{code_before}
use Rattle.mdr_exec.specs.Unwinding.{IsEnd, dying_came, is_return}
use Rattle.mdr_exec.specs.Went.{dies_in, inside, left_came, left_of}
use Rattle.mdr_exec.proofs.LeavingLaws.{Looped, The, looped, plainly, turning, placed, block_left}
use Rattle.mdr_exec.proofs.PathLaws.{around_into}

-- ---- what is asked to die

some_list : {A : Type 0} (x y : A) → Some x ≡ Some y → x ≡ y
some_list x y h = cc h

pub asked_is : (asks : Bool) (ws : List Wire) (r : Option (List Value)) (at : At) → option_map wires_of r ≡ asked_to_die asks ws → dying_came asks at ws ≡ left_came (left_of r) at
asked_is asks [] None at h = refl
asked_is asks [] (Some vs) at h = absurd (cc h)
asked_is false (p ∷ ps) None at h = refl
asked_is false (p ∷ ps) (Some vs) at h = absurd (cc h)
asked_is true (p ∷ ps) None at h = absurd (cc h)
asked_is true (p ∷ ps) (Some vs) at h = ap (λ ws. Asks (asked_for 14 at ws [] [])) (sym (some_list (wires_of vs) (p ∷ ps) h))

pub let_die_so : {M : Type 0} (a : Accesses M) (m : Machine) (flow : Leaving) (memory memory' : M) (r : Option (List Value)) (held : (program : Program) → Held) (x : Option (List Value))
    → option_map wires_of r ≡ asked_to_die (asks_on m.side) (wires_of m.top.born) → r ≡ x
    → ((program : Program) (side : Side) → DiesAt (flow_as flow) (held_of program m).items → side.asks ≡ asks_on m.side → Steps a side (held_of program m) memory (dying_came side.asks (in_here (here_in program m) 0) (wires_of m.top.born)) (held program) memory')
    → (program : Program) (side : Side) → DiesAt (flow_as flow) (held_of program m).items → side.asks ≡ asks_on m.side
    → Steps a side (held_of program m) memory (left_came (left_of x) (in_here (here_in program m) 0)) (held program) memory'
let_die_so a m flow memory memory' r held x asked is step program side d same =
    subst (λ came. Steps a side (held_of program m) memory came (held program) memory')
    (ap (λ b. dying_came b (in_here (here_in program m) 0) (wires_of m.top.born)) same ∙ asked_is (asks_on m.side) (wires_of m.top.born) r (in_here (here_in program m) 0) asked ∙ ap (λ o. left_came (left_of o) (in_here (here_in program m) 0)) is)
    (step program side d same)

-- ---- whether objects die first

not_returned : (e : Ending) (flow : Flow) (ws : List Wire) → dies_in e flow ws ≡ true → is_return flow ≡ false
not_returned ending.Stepped flow ws h = absurd (cc h)
not_returned ending.Turn (Returns v) ws h = absurd (cc h)
not_returned ending.Turn Ends ws h = refl
not_returned ending.Turn Breaks ws h = refl
not_returned ending.Turn Continues ws h = refl
not_returned ending.Plain (Returns v) ws h = absurd (cc h)
not_returned ending.Plain Ends ws h = refl
not_returned ending.Plain Breaks ws h = refl
not_returned ending.Plain Continues ws h = refl

turn_dies : (flow : Flow) (p : Part) (code : Option Code) (outer : List Wire) (items : List Item) → p ≡ part.Body → Looped code → is_return flow ≡ false → DiesAt flow (ends_with p outer code ++ items)
turn_dies flow p _ outer items is (The n e step body) h = rw is (AtBlock flow outer _ h)

block_dies : (e : Ending) (flow : Flow) (ws : List Wire) (p : Part) (code : Option Code) (outer : List Wire) (items : List Item) → ending_by p (is_loop code) ≡ e → dies_in e flow ws ≡ true → DiesAt flow (ends_with p outer code ++ items)
block_dies ending.Stepped flow ws p code outer items k h = absurd (cc h)
block_dies ending.Plain flow ws p code outer items k h = rw (plainly p code k outer) (AtBlock flow outer items (not_returned ending.Plain flow ws h))
block_dies ending.Turn flow ws p code outer items k h = let t = turning p (is_loop code) k in turn_dies flow p code outer items t.is (looped code t.loops) (not_returned ending.Turn flow ws h)

pub dies_inside : (program : Program) (m : Machine) (flow : Flow) (p : Position) → dies_in (ending_by p.part (is_loop (code_before (block_of program m.top) p.next))) flow (wires_of m.top.born) ≡ true
    → DiesAt flow (held_of program (inside m p)).items
unfolding held_of
dies_inside program m flow p h =
    rw (around_into m.top.path p (body_codes program m.top.func))
    (block_dies (ending_by p.part (is_loop (code_before (block_of program m.top) p.next))) flow (wires_of m.top.born) p.part (code_before (block_of program m.top) p.next) (wires_of p.born) _ refl h)

-- a step that takes none
pub same_steps : {M : Type 0} (a : Accesses M) (memory : M) (side : Side) (h h' : Held) → IsSame side h h' → Steps a side h memory Goes h' memory
same_steps a memory side h h' s = record { by = λ f n r fewer. ap (λ t. walk a n t memory) (s.by f r); leaves = s.ready }

pub list_steps : {M : Type 0} (a : Accesses M) (memory : M) (program : Program) (m : Machine) (flow : Leaving) (p : Position) (held : Held) → m.front ≡ front.Unwinds flow
    → ((side : Side) → IsSame side (leaves_list program m (flow_as flow) p) held) → (side : Side) → Steps a side (held_of program (inside m p)) memory Goes held memory
list_steps a memory program m flow p held is s side =
    same_steps a memory side (held_of program (inside m p)) held (block_left program (inside m p) m.top.path flow p held is refl s side)

-- objects die in the list of statements that the machine is put back into
pub let_die_inside : {M : Type 0} (a : Accesses M) (program : Program) (m : Machine) (flow : Leaving) (p : Position) (path : List Position) (memory memory' : M) (r : Left) (held : (program : Program) → Held) (b : Bool)
    → path ≡ m.top.path ++ p ∷ [] → b ≡ dies_in (ending_by p.part (is_loop (code_before (block_of program m.top) p.next))) (flow_as flow) (wires_of m.top.born) → b ≡ true
    → ((program : Program) (side : Side) → DiesAt (flow_as flow) (held_of program (placed program m path)).items → side.asks ≡ asks_on m.side
    → Steps a side (held_of program (placed program m path)) memory (left_came r (in_here (here_in program m) 0)) (held program) memory')
    → (side : Side) → side.asks ≡ asks_on m.side → Steps a side (held_of program (inside m p)) memory (left_came r (in_here (here_in program m) 0)) (held program) memory'
let_die_inside a program m flow p path memory memory' r held b is named holds step side same =
    let step' = subst (λ (xs : List Position). (program : Program) (side : Side) → DiesAt (flow_as flow) (held_of program (placed program m xs)).items → side.asks ≡ asks_on m.side
    → Steps a side (held_of program (placed program m xs)) memory (left_came r (in_here (here_in program m) 0)) (held program) memory') is step in
    step' program side (dies_inside program m (flow_as flow) p (sym named ∙ holds)) same

-- ---- the end of a function, and any step

ends_so : (program : Program) (s : Suspended) → IsEnd (waits_by program s.frame s.until)
ends_so program s = by_until s.until where
  by_until : (u : Until) → IsEnd (waits_by program s.frame u)
  by_until until.Call = tt
  by_until (until.Started b) = tt

no_last : (xs : List Suspended) (s : Suspended) → xs ++ s ∷ [] ≡ [] → ⊥
no_last [] s h = cc h
no_last (x ∷ xs) s h = cc h

none_below : (below : List Suspended) → reverse below ≡ [] → below ≡ []
none_below [] h = refl
none_below (s ∷ below) h = absurd (no_last (reverse below) s (sym (reverse-append (s ∷ []) below) ∙ h))

end_dies : (program : Program) (flow : Flow) (below xs : List Suspended) → (below ≡ [] → ⊥) → reverse below ≡ xs → DiesAt flow (below_of program xs)
unfolding below_of
end_dies program flow below [] started is = absurd (started (none_below below is))
end_dies program flow below (s ∷ xs) started is = AtEnd flow (waits_by program s.frame s.until) _ (ends_so program s)

pub function_dies_at : (m : Machine) (flow : Flow) → m.top.path ≡ [] → (m.below ≡ [] → ⊥) → (program : Program) → DiesAt flow (held_of program m).items
unfolding held_of around
function_dies_at m flow outside started program = rw outside (end_dies program flow m.below (reverse m.below) started refl)

pub finish_steps : {M : Type 0} (a : Accesses M) (memory : M) (side : Side) (h h' : Held) (v : Wire) → Finishes side h v h' → Steps a side h memory (Ended v) h' memory
unfolding walk
finish_steps a memory side h h' v s = record { by = λ f n r fewer. ap (λ t. walk a n t memory) (s.by f r); leaves = λ r. tt }

module _ {M : Type 0} (a : Accesses M) (program : Program) (m : Machine) (path : List Position) (memory memory' : M) (r : Left) (held : Held) where
  pub put_back : (p : Position) → m.top.path ≡ path ++ p ∷ []
      → ((side : Side) → side.asks ≡ asks_on m.side → Steps a side (held_of program (inside (placed program m path) p)) memory (left_came r (in_here (here_in program m) 0)) held memory')
      → (side : Side) → side.asks ≡ asks_on m.side → Steps a side (held_of program m) memory (left_came r (in_here (here_in program m) 0)) held memory'
  put_back p e step side same = subst (λ (xs : List Position). Steps a side (held_of program (placed program m xs)) memory (left_came r (in_here (here_in program m) 0)) held memory') (sym e) (step side same)

  pub put_outside : m.top.path ≡ [] → path ≡ []
      → ((side : Side) → side.asks ≡ asks_on m.side → Steps a side (held_of program (placed program m path)) memory (left_came r (in_here (here_in program m) 0)) held memory')
      → (side : Side) → side.asks ≡ asks_on m.side → Steps a side (held_of program m) memory (left_came r (in_here (here_in program m) 0)) held memory'
  put_outside e e' step side same = subst (λ (xs : List Position). Steps a side (held_of program (placed program m xs)) memory (left_came r (in_here (here_in program m) 0)) held memory') (e' ∙ sym e) (step side same)
