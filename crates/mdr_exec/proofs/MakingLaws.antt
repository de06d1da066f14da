-- Calls are made, in the machine.
use Rattle.std.proofs.Common.{◌≡◌, ℕ, zero, suc, ◌+◌, ◌<◌, ◌≤◌, Bool, true, false, List, [], ◌∷◌, ◌++◌, reverse, Option, Some, None, Result, Ok, Err, slice_get, unwrap_or, lt-ltb, le-ltb, refl, ap, sym, ◌∙◌, subst, arith}
use Rattle.std.proofs.lemmas.List.{reverse-append}
use Rattle.mdr_core.specs.declared.code.Stmt.{Stmt}
use Rattle.mdr_core.specs.declared.place.At.{At}
use Rattle.mdr_core.specs.declared.program.Func.{Func}
use Rattle.mdr_core.specs.declared.program.Program.{Program}
use Rattle.mdr_core.specs.declared.stop.StopKind.{StopKind}
use Rattle.mdr_core.specs.declared.stop.StopKind.TheVariants as stop
use Rattle.mdr_core.specs.declared.value.Value.{Value}
use Rattle.mdr_core.specs.Code.{CallOf, Code, Codes, Goal}
use Rattle.mdr_core.specs.Layout.{chosen}
use Rattle.mdr_core.specs.Services.{Service, Kzalloc, Kcalloc, Kfree, Readl, Writel, Printk, RequestIrq, FreeIrq, Deliver, Combolock, Combounlock, Bug, Enter, Leave, service_numbered}
use Rattle.mdr_meaning.specs.declared.wire.Wire.{Wire}
use Rattle.mdr_meaning.specs.Bodies.{body_by, body_from, body_of, known_of, kernel_side, user_side, whole_side}
use Rattle.mdr_meaning.specs.Asking.{allocated, counted}
use Rattle.mdr_meaning.specs.Printed.{print_text}
use Rattle.mdr_meaning.specs.Sides.{Body, Here, Side, framed}
use Rattle.mdr_meaning.specs.Values.{first_of, rest_of}
use Rattle.mdr_meaning.specs.Walk.{Accesses}
use Rattle.mdr_events.specs.Held.{Held, Runs}
use Rattle.mdr_events.specs.Steps.{holds, Came, Crosses, Stopped, Ticks}
use Rattle.mdr_events.specs.Values.{wires_of}
use Rattle.mdr_exec.specs.declared.calling.Calling.{Calling as Doing}
use Rattle.mdr_exec.specs.declared.calling.Taking.{Taking}
use Rattle.mdr_exec.specs.declared.calling.Taking.TheVariants as taking
use Rattle.mdr_exec.specs.declared.event.Outcome.{Outcome}
use Rattle.mdr_exec.specs.declared.frame.Frame.{Frame as Running}
use Rattle.mdr_exec.specs.declared.frame.Front.{Front as Before}
use Rattle.mdr_exec.specs.declared.frame.Front.TheVariants as front
use Rattle.mdr_exec.specs.declared.frame.Machine.{Machine}
use Rattle.mdr_exec.specs.declared.frame.Side.TheVariants as which
use Rattle.mdr_exec.specs.declared.frame.Suspended.{Suspended}
use Rattle.mdr_exec.specs.declared.frame.Until.TheVariants as until
use Rattle.mdr_exec.specs.declared.places.Position.{Position}
use Rattle.mdr_exec.specs.Calling.{Calling, Entering, Crossing, called_of, direct_of, goes_by, served_by, asking}
use Rattle.mdr_exec.specs.Evaluation.{after_value}
use Rattle.mdr_exec.specs.Events.{came_as}
use Rattle.mdr_exec.specs.Found.{body_codes, codes_by, codes_from}
use Rattle.mdr_exec.specs.Halves.{HoldsCall, SidesAreHalves, awaits, body_in, called_as, calling_as, is_kernel, is_own, taking_by}
use Rattle.mdr_exec.specs.Holding.{around, below_of, held_of, here_of, is_running, result_by, slots_by}
use Rattle.mdr_exec.specs.Leaving.{here_in}
use Rattle.mdr_exec.specs.Places.{behind, inner}
use Rattle.mdr_exec.specs.StatementSteps.{call_came, calling}
use Rattle.mdr_exec.proofs.DoneLaws.{ahead_of, at_next, comes_in, items_of, locals_of, stepped_holds, stepped_to}
use Rattle.mdr_exec.proofs.StepLaws.{statements_step}

-- ---- sides

pub sides_are_halves : SidesAreHalves
unfolding whole_side kernel_side user_side
sides_are_halves halves program = record {
  whole = refl;
  kernel = refl;
  user = λ i. record { known = known_of program; own = λ f. turned (is_kernel halves f) (body_of program f) i; asks = true };
}
  where
    turned : (b : Bool) (body : Option Body) → chosen (is_own which.User b) body None ≡ chosen b None body
    turned true body = refl
    turned false body = refl

-- ---- which bodies are entered

pub entering_is : (f : ℕ) (vs : List Wire) (own : Option Body) (body : Body) (b : Bool) → own ≡ chosen b (Some body) None → b ≡ true → Entering f vs body ≡ goes_by f vs own
entering_is f vs own body b is h = sym (ap (goes_by f vs) (is ∙ ap (λ x. chosen x (Some body) None) h))

pub crossing_is : (f : ℕ) (vs : List Wire) (own : Option Body) (body : Body) (b : Bool) → own ≡ chosen b (Some body) None → b ≡ false → Crossing f vs ≡ goes_by f vs own
crossing_is f vs own body b is h = sym (ap (goes_by f vs) (is ∙ ap (λ x. chosen x (Some body) None) h))

body_there : (o : Option Func) (func : Func) (body : List Stmt) → o ≡ Some func → func.body ≡ Some body
    → ◌≡◌ {A = Option Body} (body_from o) (Some (record { slots = slots_by o; result = result_by o; code = codes_from o }))
body_there o func body is has = ap body_from is ∙ by_body func.body has ∙ sym (ap (λ (x : Option Func). Some (record { slots = slots_by x; result = result_by x; code = codes_from x })) is) where
  by_body : (b : Option (List Stmt)) → b ≡ Some body → ◌≡◌ {A = Option Body} (body_by func b) (Some (record { slots = slots_by (Some func); result = result_by (Some func); code = codes_by b }))
  by_body None h = absurd (cc h)
  by_body (Some x) h = refl

-- a function has a body
pub has_its_body : (program : Program) (f : ℕ) (func : Func) (body : List Stmt) → slice_get program.funcs f ≡ Some func → func.body ≡ Some body → body_of program f ≡ Some (body_in program f)
unfolding body_of body_codes
has_its_body program f func body is has = body_there (slice_get program.funcs f) func body is has

-- it has none, or isn't there
pub has_no_body : (program : Program) (f : ℕ) (func : Func) → slice_get program.funcs f ≡ Some func → func.body ≡ None → ◌≡◌ {A = Option Body} (body_of program f) None
unfolding body_of
has_no_body program f func is none = ap body_from is ∙ ap (body_by func) none

pub has_no_function : (program : Program) (f : ℕ) → slice_get program.funcs f ≡ None → ◌≡◌ {A = Option Body} (body_of program f) None
unfolding body_of
has_no_function program f none = ap body_from none

-- ---- calls that are made

module _ (program : Program) (m : Machine) where
  pub body_entered : (func : ℕ) (args : List Wire) (top frame : Running) (before : Before) (d next : ℕ) (path : List Position) (slots born : List Value) (below : List Suspended)
      → top ≡ record { func = func; depth = d; path = path; next = 0; slots = slots; born = born } → before ≡ front.Enters
      → frame ≡ record { func = m.top.func; depth = m.top.depth; path = m.top.path; next = next; slots = m.top.slots; born = m.top.born }
      → d ≡ m.top.depth + 1 → next ≡ m.top.next + 1 → path ≡ [] → born ≡ [] → wires_of slots ≡ framed (slots_by (slice_get program.funcs func)) args
      → below ≡ m.below ++ record { frame = frame; until = until.Call } ∷ []
      → HoldsCall program m (Entering func args (body_in program func)) (held_of program (record { side = m.side; front = before; top = top; below = below; used = m.used }))
  unfolding held_of here_of below_of around inner behind
  body_entered func args top frame before d next path slots born below et eb ef ed en p q s is n goal form stands =
      let deeper : d ≡ suc m.top.depth = omega (arith, ed) in
      let more : next ≡ suc m.top.next = omega (arith, en) in
      let order : reverse below ≡ record { frame = frame; until = until.Call } ∷ reverse m.below = ap reverse is ∙ reverse-append m.below (record { frame = frame; until = until.Call } ∷ []) in
      rw (et, eb, order, ef, deeper, more, p, q, s, stands) refl

  pub waits_here : (next : ℕ) → next ≡ m.top.next + 1 → held_of program (stepped_to program m front.WaitsValue next m.top.slots) ≡ awaits program m
  waits_here next is = stepped_holds program m front.WaitsValue next m.top.slots is

  pub cross_holds : (f : ℕ) (vs : List Wire) (held : Held) → held ≡ awaits program m → HoldsCall program m (Crossing f vs) held
  cross_holds f vs held is n goal form stands = is ∙ rw stands refl

  pub crossing_told : (at : At) (f : ℕ) (vs : List Wire) (x : Came) → x ≡ Crosses at f vs m.top.depth → x ≡ call_came (here_in program m) at (Ok (Crossing f vs))
  unfolding here_of
  crossing_told at f vs x is = is

  module _ {M : Type 0} (a : Accesses M) (memory : M) (side : Side) (runs : is_running m.front ≡ true) (form : CallOf) (n : ℕ) (r : Result Doing StopKind)
      (called : called_as program r ≡ called_of a side (here_in program m) memory (record { func = m.top.func; stmt = n }) form (wires_of m.top.slots) form.callee) where
    abbrev at_call : At
    at_call = record { func = m.top.func; stmt = n }

    call_law : (x : Result Calling StopKind) → called_as program r ≡ x → (goal : Goal) → at_next program m (Code.Call n goal form)
        → Ticks a side (held_of program m) memory (call_came (here_in program m) at_call x) (calling (here_in program m) (locals_of program m) (ahead_of program m) (items_of program m) n goal x) memory
    unfolding here_of
    call_law x is goal stands =
        comes_in program m a memory runs side (Code.Call n goal form) stands _ _ _ _ memory
        (subst (λ y. Ticks a side (holds Runs (here_in program m) (locals_of program m) (Codes.Then (Code.Call n goal form) (ahead_of program m)) (items_of program m)) memory (call_came (here_in program m) at_call y) (calling (here_in program m) (locals_of program m) (ahead_of program m) (items_of program m) n goal y) memory) (sym called ∙ is)
        ((statements_step a side (here_in program m) (locals_of program m) (ahead_of program m) (items_of program m) memory n).calls goal form)) refl refl

    pub call_goes : (c : Doing) (e : Option Outcome) (held : Held) → r ≡ Ok c → came_as e ≡ call_came (here_in program m) at_call (Ok (calling_as program c)) → HoldsCall program m (calling_as program c) held
        → (goal : Goal) → at_next program m (Code.Call n goal form) → Ticks a side (held_of program m) memory (came_as e) held memory
    call_goes c e held ok comes holds goal stands =
        let law : Ticks a side (held_of program m) memory (call_came (here_in program m) at_call (Ok (calling_as program c))) (calling (here_in program m) (locals_of program m) (ahead_of program m) (items_of program m) n goal (Ok (calling_as program c))) memory =
        call_law (Ok (calling_as program c)) (ap (called_as program) ok) goal stands in
        subst (λ x. Ticks a side (held_of program m) memory x held memory) (sym comes)
        (subst (λ x. Ticks a side (held_of program m) memory (call_came (here_in program m) at_call (Ok (calling_as program c))) x memory) (sym (holds n goal form stands)) law)

    pub call_stops : (kind : StopKind) (held : Held) → r ≡ Err kind → (goal : Goal) → at_next program m (Code.Call n goal form) → Ticks a side (held_of program m) memory (Stopped kind at_call) held memory
    call_stops kind held err goal stands =
        let law : Ticks a side (held_of program m) memory (Stopped kind at_call) (calling (here_in program m) (locals_of program m) (ahead_of program m) (items_of program m) n goal (Err kind)) memory =
        call_law (Err kind) (ap (called_as program) err) goal stands in
        record { by = λ f q t less. law.by f q t less; leaves = λ r. tt }

  -- at most 256 functions are active
  module _ {M : Type 0} (a : Accesses M) (memory : M) (side : Side) (f : ℕ) (vs : List Wire) where
    pub direct_goes : (c : Calling) → m.top.depth < 256 → c ≡ goes_by f vs (side.own f) → ◌≡◌ {A = Result Calling StopKind} (Ok c) (direct_of a side (here_in program m) memory f vs)
    unfolding here_of
    direct_goes c less is = ap Ok is ∙ sym (ap (λ t. chosen t (done (goes_by f vs (side.own f))) (Err stop.Depth)) (lt-ltb m.top.depth 256 less))
      where
        done : Calling → Result Calling StopKind
        done x = Ok x

    pub direct_stops : 256 ≤ m.top.depth → ◌≡◌ {A = Result Calling StopKind} (Err stop.Depth) (direct_of a side (here_in program m) memory f vs)
    unfolding here_of
    direct_stops more = sym (ap (λ t. chosen t (done (goes_by f vs (side.own f))) (Err stop.Depth)) (le-ltb m.top.depth 256 more))
      where
        done : Calling → Result Calling StopKind
        done x = Ok x

-- ---- which services take other things

pub other_taking : (n : ℕ) → (n ≡ 1 → ⊥) → (n ≡ 2 → ⊥) → (n ≡ 6 → ⊥) → (n ≡ 9 → ⊥) → ◌≡◌ {A = Taking} taking.Arguments (taking_by (service_numbered n))
other_taking zero a b c d = refl
other_taking (suc zero) a b c d = absurd (a refl)
other_taking (suc (suc zero)) a b c d = absurd (b refl)
other_taking (suc (suc (suc zero))) a b c d = refl
other_taking (suc (suc (suc (suc zero)))) a b c d = refl
other_taking (suc (suc (suc (suc (suc zero))))) a b c d = refl
other_taking (suc (suc (suc (suc (suc (suc zero)))))) a b c d = absurd (c refl)
other_taking (suc (suc (suc (suc (suc (suc (suc zero))))))) a b c d = refl
other_taking (suc (suc (suc (suc (suc (suc (suc (suc zero)))))))) a b c d = refl
other_taking (suc (suc (suc (suc (suc (suc (suc (suc (suc zero))))))))) a b c d = absurd (d refl)
other_taking (suc (suc (suc (suc (suc (suc (suc (suc (suc (suc zero)))))))))) a b c d = refl
other_taking (suc (suc (suc (suc (suc (suc (suc (suc (suc (suc (suc zero))))))))))) a b c d = refl
other_taking (suc (suc (suc (suc (suc (suc (suc (suc (suc (suc (suc (suc zero)))))))))))) a b c d = refl
other_taking (suc (suc (suc (suc (suc (suc (suc (suc (suc (suc (suc (suc (suc zero))))))))))))) a b c d = refl
other_taking (suc (suc (suc (suc (suc (suc (suc (suc (suc (suc (suc (suc (suc (suc zero)))))))))))))) a b c d = refl
other_taking (suc (suc (suc (suc (suc (suc (suc (suc (suc (suc (suc (suc (suc (suc (suc n))))))))))))))) a b c d = refl

-- ---- services

module _ {M : Type 0} (a : Accesses M) (side : Side) (here : Here) (m : M) (at : At) (form : CallOf) (n : ℕ) (vs : List Wire) where
  -- what is asked for, by what a service takes
  abbrev pub served_as : Taking → Result Calling StopKind
  served_as taking.Object = asking a side here m at form n [] (allocated side.known form.shape 1) []
  served_as taking.Objects = asking a side here m at form n [] (allocated side.known form.shape (counted (first_of vs))) []
  served_as taking.Text = asking a side here m at form n [] [] (print_text (unwrap_or form.format []) vs)
  served_as taking.Bytes = after_value (a.read m (first_of vs) (counted (first_of (rest_of vs)))) (λ bytes. asking a side here m at form n [] [] bytes)
  served_as taking.Arguments = asking a side here m at form n vs [] []

  served_by_taking : (s : Option Service) → served_by a side here m at form n vs s ≡ served_as (taking_by s)
  served_by_taking None = refl
  served_by_taking (Some Kzalloc) = refl
  served_by_taking (Some Kcalloc) = refl
  served_by_taking (Some Kfree) = refl
  served_by_taking (Some Readl) = refl
  served_by_taking (Some Writel) = refl
  served_by_taking (Some Printk) = refl
  served_by_taking (Some RequestIrq) = refl
  served_by_taking (Some FreeIrq) = refl
  served_by_taking (Some Deliver) = refl
  served_by_taking (Some Combolock) = refl
  served_by_taking (Some Combounlock) = refl
  served_by_taking (Some Bug) = refl
  served_by_taking (Some Enter) = refl
  served_by_taking (Some Leave) = refl

  -- the code's choice of what is taken
  pub service_served : (t t' : Taking) (x : Result Calling StopKind) → t ≡ taking_by (service_numbered n) → t ≡ t' → x ≡ served_as t' → x ≡ served_by a side here m at form n vs (service_numbered n)
  service_served t t' x chosen_is is told = told ∙ ap served_as (sym is ∙ chosen_is) ∙ sym (served_by_taking (service_numbered n))
