-- Machines that are ready to run, and what a machine that waits takes.
use Rattle.std.proofs.Common.{◌≡◌, ℕ, true, false, Bool, ◌&&◌, ◌==◌, List, [], ◌∷◌, ◌++◌, length, Option, Some, None, reverse, refl, ap, sym, ◌∙◌, eqb-true}
use Rattle.std.proofs.lemmas.List.{reverse-append}
use Rattle.mdr_core.specs.declared.program.Program.{Program}
use Rattle.mdr_core.specs.declared.value.Value.{Value}
use Rattle.mdr_core.specs.Code.{Code, Codes}
use Rattle.mdr_meaning.specs.declared.wire.Wire.{Wire}
use Rattle.mdr_meaning.specs.Sides.{Here, Side}
use Rattle.mdr_meaning.specs.Tree.{Asked}
use Rattle.mdr_meaning.specs.Walk.{Accesses}
use Rattle.mdr_events.specs.declared.event.Event.{Event}
use Rattle.mdr_events.specs.declared.event.Event.TheVariants as event
use Rattle.mdr_events.specs.Going.{LeavesAt, RanTo}
use Rattle.mdr_events.specs.Held.{Front, Runs, Unwinds, Comes, Enters, Fills, Born, WaitsValue, WaitsParams, WaitsObject, WaitsDeath, Item, Held}
use Rattle.mdr_events.specs.Ready.{IsOpen, IsReady, is_started, is_waiting, takes_answers, takes_value}
use Rattle.mdr_events.specs.Running.{answered}
use Rattle.mdr_events.specs.Values.{wires_of}
use Rattle.mdr_exec.specs.declared.frame.Frame.{Frame as Running}
use Rattle.mdr_exec.specs.declared.frame.Front.{Front as Before}
use Rattle.mdr_exec.specs.declared.frame.Front.TheVariants as front
use Rattle.mdr_exec.specs.declared.frame.Machine.{Machine}
use Rattle.mdr_exec.specs.declared.frame.Suspended.{Suspended}
use Rattle.mdr_exec.specs.declared.frame.Until.TheVariants as until
use Rattle.mdr_exec.specs.declared.places.Part.{Part}
use Rattle.mdr_exec.specs.declared.places.Part.TheVariants as part
use Rattle.mdr_exec.specs.declared.places.Position.{Position}
use Rattle.mdr_exec.specs.Found.{body_codes}
use Rattle.mdr_exec.specs.Holding.{FitQuestion, Takes, around, below_of, ends_with, front_in, held_of, here_of, waits}
use Rattle.mdr_exec.specs.Places.{behind, code_before, part_of}
use Rattle.mdr_exec.proofs.MachineLaws.{still_waits}
use Rattle.mdr_exec.proofs.ParamLaws.{not_both}

-- ---- what lies around a place has no start in it

started_ends : (p : Part) (outer : List Wire) (code : Option Code) (items : List Item) → is_started (ends_with p outer code ++ items) ≡ is_started items
started_ends part.One outer code items = refl
started_ends part.Other outer code items = refl
started_ends part.Inner outer code items = refl
started_ends part.Body outer None items = refl
started_ends part.Body outer (Some (Code.Loop n e step body)) items = refl
started_ends part.Body outer (Some (Code.Declare n i)) items = refl
started_ends part.Body outer (Some (Code.Text n i bytes)) items = refl
started_ends part.Body outer (Some (Code.Assign n p e)) items = refl
started_ends part.Body outer (Some (Code.Call n goal form)) items = refl
started_ends part.Body outer (Some (Code.If n e one other)) items = refl
started_ends part.Body outer (Some (Code.Block body)) items = refl
started_ends part.Body outer (Some (Code.Return n e)) items = refl
started_ends part.Body outer (Some (Code.Jump n way)) items = refl
started_ends part.Step outer None items = refl
started_ends part.Step outer (Some (Code.Loop n e step body)) items = refl
started_ends part.Step outer (Some (Code.Declare n i)) items = refl
started_ends part.Step outer (Some (Code.Text n i bytes)) items = refl
started_ends part.Step outer (Some (Code.Assign n p e)) items = refl
started_ends part.Step outer (Some (Code.Call n goal form)) items = refl
started_ends part.Step outer (Some (Code.If n e one other)) items = refl
started_ends part.Step outer (Some (Code.Block body)) items = refl
started_ends part.Step outer (Some (Code.Return n e)) items = refl
started_ends part.Step outer (Some (Code.Jump n way)) items = refl

started_around : (ps : List Position) (cs : Codes) (items : List Item) → is_started (around ps cs items) ≡ is_started items
unfolding around
started_around [] cs items = refl
started_around (p ∷ ps) cs items =
    started_around ps (part_of p.part (code_before cs p.next)) _ ∙ started_ends p.part (wires_of p.born) (code_before cs p.next) _

-- a machine in which a function was started has a frame below
pub started_below : (program : Program) (m : Machine) → IsReady (held_of program m) → m.below ≡ [] → ⊥
unfolding held_of below_of
started_below program m ready none =
    not_both ready.started (started_around m.top.path (body_codes program m.top.func) _ ∙ ap (λ (ss : List Suspended). is_started (below_of program (reverse ss))) none)

-- no question is open in one that is ready
pub not_waiting : (program : Program) (m : Machine) (b : Before) → IsReady (held_of program m) → m.front ≡ b → waits b ≡ true → ⊥
unfolding held_of
not_waiting program m b ready is waiting =
    not_both (ap (λ (x : Before). is_waiting (front_in program m.top x)) is ∙ still_waits program m.top b waiting) ready.calm

-- ---- a machine that was started, and one that was answered

pub ready_started : (program : Program) (m : Machine) (top frame : Running) (before old : Before) (below : List Suspended) → before ≡ front.Enters → below ≡ m.below ++ record { frame = frame; until = until.Started old } ∷ []
    → IsReady (held_of program (record { side = m.side; front = before; top = top; below = below; used = m.used }))
unfolding held_of below_of
ready_started program m top frame before old below is last =
    let order : reverse below ≡ record { frame = frame; until = until.Started old } ∷ reverse m.below = ap reverse last ∙ reverse-append m.below (record { frame = frame; until = until.Started old } ∷ []) in
    record {
      calm = ap (λ (x : Before). is_waiting (front_in program top x)) is;
      started = started_around top.path (body_codes program top.func) _ ∙ ap (λ (ss : List Suspended). is_started (below_of program ss)) order;
    }

calm_answered : (b : Front) (here : Here) (results : List Wire) → is_waiting b ≡ true → is_waiting (answered b here results) ≡ false
calm_answered (WaitsValue n goal) here results h = refl
calm_answered (WaitsParams count) here results h = refl
calm_answered (WaitsObject i) here results h = refl
calm_answered (WaitsDeath flow) here results h = refl
calm_answered Runs here results h = absurd (cc h)
calm_answered (Unwinds flow) here results h = absurd (cc h)
calm_answered (Comes n goal v) here results h = absurd (cc h)
calm_answered Enters here results h = absurd (cc h)
calm_answered (Fills is ps) here results h = absurd (cc h)
calm_answered (Born i p) here results h = absurd (cc h)

pub ready_answered : (m : Machine) (old b : Before) (results : List Wire) → old ≡ m.front
    → ((program : Program) (frame : Running) → front_in program frame b ≡ answered (front_in program frame old) (here_of program frame.func frame.depth) results)
    → waits m.front ≡ true → (program : Program) → is_started (held_of program m).items ≡ true
    → IsReady (held_of program (record { side = m.side; front = b; top = m.top; below = m.below; used = m.used }))
unfolding held_of
ready_answered m old b results same is waiting program s = record {
  calm = ap is_waiting (is program m.top ∙ ap (λ (x : Before). answered (front_in program m.top x) (here_of program m.top.func m.top.depth) results) same)
      ∙ calm_answered (front_in program m.top m.front) (here_of program m.top.func m.top.depth) results (still_waits program m.top m.front waiting);
  started = s;
}

-- ---- what a machine takes that waits

module _ (program : Program) (frame : Running) where
  pub value_waits : (b : Before) → takes_value (front_in program frame b) ≡ true → waits b ≡ true
  value_waits front.WaitsValue h = refl
  value_waits (front.WaitsParams room) h = absurd (cc h)
  value_waits (front.WaitsObject i) h = absurd (cc h)
  value_waits (front.WaitsDeath flow) h = absurd (cc h)
  value_waits front.Runs h = absurd (cc h)
  value_waits (front.Unwinds flow) h = absurd (cc h)
  value_waits (front.Comes v) h = absurd (cc h)
  value_waits front.Enters h = absurd (cc h)
  value_waits (front.Fills ps) h = absurd (cc h)
  value_waits (front.Born i p) h = absurd (cc h)

  pub value_fits : (b : Before) (results : List Value) → takes_value (front_in program frame b) ≡ true → FitQuestion b results
  value_fits front.WaitsValue results h = tt
  value_fits (front.WaitsParams room) results h = absurd (cc h)
  value_fits (front.WaitsObject i) results h = absurd (cc h)
  value_fits (front.WaitsDeath flow) results h = absurd (cc h)
  value_fits front.Runs results h = absurd (cc h)
  value_fits (front.Unwinds flow) results h = absurd (cc h)
  value_fits (front.Comes v) results h = absurd (cc h)
  value_fits front.Enters results h = absurd (cc h)
  value_fits (front.Fills ps) results h = absurd (cc h)
  value_fits (front.Born i p) results h = absurd (cc h)

  pub answers_wait : (asked : Asked) (b : Before) → takes_answers asked (front_in program frame b) ≡ true → waits b ≡ true
  answers_wait asked front.WaitsValue h = refl
  answers_wait asked (front.WaitsParams room) h = refl
  answers_wait asked (front.WaitsObject i) h = refl
  answers_wait asked (front.WaitsDeath flow) h = refl
  answers_wait asked front.Runs h = absurd (cc h)
  answers_wait asked (front.Unwinds flow) h = absurd (cc h)
  answers_wait asked (front.Comes v) h = absurd (cc h)
  answers_wait asked front.Enters h = absurd (cc h)
  answers_wait asked (front.Fills ps) h = absurd (cc h)
  answers_wait asked (front.Born i p) h = absurd (cc h)

  both_hold : (x y : Bool) → x && y ≡ true → (x ≡ true) × (y ≡ true)
  both_hold true y h = (refl, h)
  both_hold false y h = absurd (cc h)

  pub answers_fit : (asked : Asked) (b : Before) (results : List Value) → takes_answers asked (front_in program frame b) ≡ true → (asked.service ≡ 13 → length results ≡ length asked.shapes) → FitQuestion b results
  answers_fit asked front.WaitsValue results h as_many = tt
  answers_fit asked (front.WaitsParams room) results h as_many =
      let both = both_hold (asked.service == 13) (length room.items == length asked.shapes) h in
      as_many (eqb-true asked.service 13 both.0) ∙ sym (eqb-true (length room.items) (length asked.shapes) both.1)
  answers_fit asked (front.WaitsObject i) results h as_many = tt
  answers_fit asked (front.WaitsDeath flow) results h as_many = tt
  answers_fit asked front.Runs results h as_many = absurd (cc h)
  answers_fit asked (front.Unwinds flow) results h as_many = absurd (cc h)
  answers_fit asked (front.Comes v) results h as_many = absurd (cc h)
  answers_fit asked front.Enters results h as_many = absurd (cc h)
  answers_fit asked (front.Fills ps) results h as_many = absurd (cc h)
  answers_fit asked (front.Born i p) results h as_many = absurd (cc h)

-- ---- the answers of an event

pub takes_one : (program : Program) (m : Machine) (results : List Value) → IsOpen takes_value (held_of program m) → Takes program m results
unfolding held_of
takes_one program m results o = record {
  waiting = value_waits program m.top m.front o.takes_them;
  fit = value_fits program m.top m.front results o.takes_them;
  started = o.started;
}

pub takes_all : (program : Program) (m : Machine) (asked : Asked) (results : List Value) → IsOpen (takes_answers asked) (held_of program m)
    → (asked.service ≡ 13 → length results ≡ length asked.shapes) → Takes program m results
unfolding held_of
takes_all program m asked results o as_many = record {
  waiting = answers_wait program m.top asked m.front o.takes_them;
  fit = answers_fit program m.top asked m.front results o.takes_them as_many;
  started = o.started;
}

-- a run that began ready
pub ran_leaves : {M : Type 0} (a : Accesses M) (side : Side) (h h' : Held) (m m' : M) (ticks : ℕ) (e : Event) (left : ℕ) → IsReady h → RanTo a side h m ticks e h' m' left → LeavesAt e h'
ran_leaves a side h h' m m' ticks (event.Done v) left ready ran = tt
ran_leaves a side h h' m m' ticks (event.Cross c) left ready ran = ran.leaves ready
ran_leaves a side h h' m m' ticks (event.Service q) left ready ran = ran.leaves ready
ran_leaves a side h h' m m' ticks (event.Stop kind at) left ready ran = tt
ran_leaves a side h h' m m' ticks (event.TicksOut at) left ready ran = ran.1.leaves ready
