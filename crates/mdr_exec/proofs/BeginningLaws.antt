-- The machine holds what the laws of statements say, where a statement begins.
use Rattle.std.proofs.Common.{◌≡◌, ℕ, suc, ◌+◌, Bool, true, false, List, Some, None, Result, Ok, Err, refl, ap, sym, ◌∙◌, subst, arith}
use Rattle.mdr_core.specs.declared.program.Program.{Program}
use Rattle.mdr_core.specs.declared.stop.StopKind.{StopKind}
use Rattle.mdr_core.specs.Code.{Term, Code, Codes, Way}
use Rattle.mdr_core.specs.Layout.{chosen}
use Rattle.mdr_meaning.specs.declared.wire.Wire.{Wire}
use Rattle.mdr_meaning.specs.declared.wire.Wire.TheVariants as wire
use Rattle.mdr_meaning.specs.Bodies.{known_of, means}
use Rattle.mdr_meaning.specs.Sides.{Side, Here, Locals, Flow, Ends, Returns, flow_of, in_here}
use Rattle.mdr_core.specs.declared.value.Value.{Value}
use Rattle.mdr_meaning.specs.Numbers.{Numbered}
use Rattle.mdr_meaning.specs.Values.{is_true, wire_of}
use Rattle.mdr_events.specs.Outcomes.{wired}
use Rattle.mdr_meaning.specs.Walk.{Accesses}
use Rattle.mdr_events.specs.Held.{Runs, Item, Held, bare, carry, tree}
use Rattle.mdr_events.specs.Steps.{Left, holds, Came, Goes, Stopped, came_by, held_after, IsSame, Ticks}
use Rattle.mdr_events.specs.Values.{wires_of}
use Rattle.mdr_exec.specs.declared.frame.Machine.{Machine}
use Rattle.mdr_exec.specs.declared.places.Part.TheVariants as part
use Rattle.mdr_exec.specs.Beginning.{branch}
use Rattle.mdr_exec.specs.Effects.{Did, after_result, ended}
use Rattle.mdr_exec.specs.Evaluation.{value_of}
use Rattle.mdr_exec.specs.Holding.{block_of, held_of, is_running, list_entered}
use Rattle.mdr_exec.specs.Leaving.{here_in, goes_behind}
use Rattle.mdr_exec.specs.Places.{behind, code_at}
use Rattle.mdr_exec.specs.StatementSteps.{branched, holds_block, holds_turn, turned}
use Rattle.mdr_exec.proofs.EnterLaws.{running_is}
use Rattle.mdr_exec.proofs.PathLaws.{next_stands}
use Rattle.mdr_exec.proofs.StepLaws.{statements_step}

block_same : (side : Side) (here : Here) (l : Locals) (more : Codes) (items : List Item) (body : Codes) → IsSame side (holds Runs here l (Codes.Then (Code.Block body) more) items) (holds_block here l more items body)
unfolding bare tree carry means
block_same side here l more items body = record { by = λ f r. refl; ready = λ r. record { calm = refl; started = r.started } }

module _ (program : Program) (m : Machine) where
  abbrev here : Here
  here = here_in program m

  abbrev locals : Locals
  locals = record { slots = wires_of m.top.slots; born = wires_of m.top.born }

  abbrev more : Codes
  more = behind (block_of program m.top) (suc m.top.next)

  abbrev items : List Item
  items = (held_of program m).items

  abbrev Stands : Code → Type 0
  Stands code = code_at (block_of program m.top) m.top.next ≡ Some code

  -- the statement that comes next is the first of those that follow
  pub stands : (code : Code) → is_running m.front ≡ true → Stands code → held_of program m ≡ holds Runs here locals (Codes.Then code more) items
  unfolding held_of
  stands code runs is = rw (running_is m.front runs, next_stands (block_of program m.top) m.top.next code is) refl

  -- it ends so
  pub goes_past : (flow : Flow) (next : ℕ) → next ≡ m.top.next + 1 → goes_behind program m flow next (wires_of m.top.born) ≡ held_after (Ok (record { flow = flow; locals = locals })) here more items
  goes_past flow next is = let one : next ≡ suc m.top.next = omega (arith, is) in rw one refl

  branch_entered : (n : ℕ) (e : Term) (one other : Codes) → Stands (Code.If n e one other) → (b : Bool) → list_entered program m (branch b) ≡ holds_block here locals more items (chosen b one other)
  branch_entered n e one other is true = rw is refl
  branch_entered n e one other is false = rw is refl

  body_entered : (n : ℕ) (e : Term) (step body : Codes) → Stands (Code.Loop n e step body) → list_entered program m part.Body ≡ holds_turn here locals more items n e step body
  body_entered n e step body is = rw is refl

  pub block_entered : (held : Held) → is_running m.front ≡ true → held ≡ list_entered program m part.Inner → (side : Side) (body : Codes) → Stands (Code.Block body) → IsSame side (held_of program m) held
  block_entered held runs e side body is =
      let same : list_entered program m part.Inner ≡ holds_block here locals more items body = rw is refl in
      let law : IsSame side (holds Runs here locals (Codes.Then (Code.Block body) more) items) (holds_block here locals more items body) = block_same side here locals more items body in
      subst (λ h. IsSame side (held_of program m) h) (sym (e ∙ same)) (subst (λ h. IsSame side h (holds_block here locals more items body)) (sym (stands (Code.Block body) runs is)) law)

  module _ {M : Type 0} (a : Accesses M) (memory : M) (side : Side) where
    abbrev Comes : Code → Came → Held → Type 0
    Comes code came held = Ticks a side (holds Runs here locals (Codes.Then code more) items) memory came held memory

    moved_in : (code : Code) (came : Came) (h held : Held) → is_running m.front ≡ true → Stands code → held ≡ h → Comes code came h → Ticks a side (held_of program m) memory came held memory
    moved_in code came h held runs is e law =
        subst (λ x. Ticks a side (held_of program m) memory came x memory) (sym e) (subst (λ x. Ticks a side x memory came h memory) (sym (stands code runs is)) law)

    -- what it held when it stopped is no matter
    stopped_in : (code : Code) (kind : StopKind) (n : ℕ) (h held : Held) → is_running m.front ≡ true → Stands code → Comes code (Stopped kind (in_here here n)) h → Ticks a side (held_of program m) memory (Stopped kind (in_here here n)) held memory
    stopped_in code kind n h held runs is law = moved_in code (Stopped kind (in_here here n)) held held runs is refl (record { by = λ f k r less. law.by f k r less; leaves = λ r. tt })

    module _ (known_is : side.known ≡ known_of program) (e : Term) (x : Result Wire StopKind) (value_is : x ≡ value_of a memory (known_of program) locals.slots e) where
      value_so : value_of a memory side.known locals.slots e ≡ x
      value_so = ap (λ k. value_of a memory k locals.slots e) known_is ∙ sym value_is

      branch_law : (n : ℕ) (one other : Codes) → Comes (Code.If n e one other) (came_by (in_here here n) x) (branched here locals more items one other x)
      branch_law n one other =
          subst (λ y. Comes (Code.If n e one other) (came_by (in_here here n) y) (branched here locals more items one other y)) value_so ((statements_step a side here locals more items memory n).branches e one other)

      turn_law : (n : ℕ) (step body : Codes) → Comes (Code.Loop n e step body) (came_by (in_here here n) x) (turned here locals more items n e step body x)
      turn_law n step body =
          subst (λ y. Comes (Code.Loop n e step body) (came_by (in_here here n) y) (turned here locals more items n e step body y)) value_so ((statements_step a side here locals more items memory n).turns e step body)

  module _ {M : Type 0} (a : Accesses M) (memory : M) (runs : is_running m.front ≡ true) (e : Term) where
    pub branch_goes : (v : Wire) (b : Bool) (held : Held) → Ok v ≡ value_of a memory (known_of program) locals.slots e → b ≡ is_true v → held ≡ list_entered program m (branch b)
        → (side : Side) (n : ℕ) (one other : Codes) → side.known ≡ known_of program → Stands (Code.If n e one other) → Ticks a side (held_of program m) memory Goes held memory
    branch_goes v b held value_is b_is h side n one other known_is is =
        moved_in a memory side (Code.If n e one other) Goes (holds_block here locals more items (chosen (is_true v) one other)) held runs is
        (h ∙ branch_entered n e one other is b ∙ ap (λ x. holds_block here locals more items (chosen x one other)) b_is) (branch_law a memory side known_is e (Ok v) value_is n one other)

    pub branch_stops : (kind : StopKind) (held : Held) → Err kind ≡ value_of a memory (known_of program) locals.slots e
        → (side : Side) (n : ℕ) (one other : Codes) → side.known ≡ known_of program → Stands (Code.If n e one other) → Ticks a side (held_of program m) memory (Stopped kind (in_here here n)) held memory
    branch_stops kind held value_is side n one other known_is is =
        stopped_in a memory side (Code.If n e one other) kind n (holds Runs here locals more items) held runs is (branch_law a memory side known_is e (Err kind) value_is n one other)

    pub turn_goes : (v : Wire) (held : Held) → Ok v ≡ value_of a memory (known_of program) locals.slots e → true ≡ is_true v → held ≡ list_entered program m part.Body
        → (side : Side) (n : ℕ) (step body : Codes) → side.known ≡ known_of program → Stands (Code.Loop n e step body) → Ticks a side (held_of program m) memory Goes held memory
    turn_goes v held value_is holding h side n step body known_is is =
        let law : Comes a memory side (Code.Loop n e step body) Goes (chosen (is_true v) (holds_turn here locals more items n e step body) (holds Runs here locals more items)) = turn_law a memory side known_is e (Ok v) value_is n step body in
        let law' = subst (λ b. Comes a memory side (Code.Loop n e step body) Goes (chosen b (holds_turn here locals more items n e step body) (holds Runs here locals more items))) (sym holding) law in
        moved_in a memory side (Code.Loop n e step body) Goes (holds_turn here locals more items n e step body) held runs is (h ∙ body_entered n e step body is) law'

    pub turn_ends : (v : Wire) (held : Held) (next : ℕ) → Ok v ≡ value_of a memory (known_of program) locals.slots e → false ≡ is_true v → next ≡ m.top.next + 1 → held ≡ goes_behind program m Ends next (wires_of m.top.born)
        → (side : Side) (n : ℕ) (step body : Codes) → side.known ≡ known_of program → Stands (Code.Loop n e step body) → Ticks a side (held_of program m) memory Goes held memory
    turn_ends v held next value_is not_holding next_is h side n step body known_is is =
        let law : Comes a memory side (Code.Loop n e step body) Goes (chosen (is_true v) (holds_turn here locals more items n e step body) (holds Runs here locals more items)) = turn_law a memory side known_is e (Ok v) value_is n step body in
        let law' = subst (λ b. Comes a memory side (Code.Loop n e step body) Goes (chosen b (holds_turn here locals more items n e step body) (holds Runs here locals more items))) (sym not_holding) law in
        moved_in a memory side (Code.Loop n e step body) Goes (holds Runs here locals more items) held runs is (h ∙ goes_past Ends next next_is) law'

    pub turn_stops : (kind : StopKind) (held : Held) → Err kind ≡ value_of a memory (known_of program) locals.slots e
        → (side : Side) (n : ℕ) (step body : Codes) → side.known ≡ known_of program → Stands (Code.Loop n e step body) → Ticks a side (held_of program m) memory (Stopped kind (in_here here n)) held memory
    turn_stops kind held value_is side n step body known_is is =
        stopped_in a memory side (Code.Loop n e step body) kind n (holds Runs here locals more items) held runs is (turn_law a memory side known_is e (Err kind) value_is n step body)

    -- a return's value, or its stop
    abbrev returns_by : Result Wire StopKind → Did Left M
    returns_by x = after_result x memory (λ v. ended (Returns v) locals)

    return_law : (side : Side) (x : Result Wire StopKind) → x ≡ value_of a memory (known_of program) locals.slots e → side.known ≡ known_of program → (n : ℕ)
        → Ticks a side (holds Runs here locals (Codes.Then (Code.Return n (Some e)) more) items) memory (came_by (in_here here n) (returns_by x).result) (held_after (returns_by x).result here more items) (returns_by x).memory
    unfolding value_of
    return_law side x value_is known_is n =
        subst (λ y. Ticks a side (holds Runs here locals (Codes.Then (Code.Return n (Some e)) more) items) memory (came_by (in_here here n) (returns_by y).result) (held_after (returns_by y).result here more items) (returns_by y).memory)
        (value_so a memory side known_is e x value_is) ((statements_step a side here locals more items memory n).returns (Some e))

    pub return_goes : (v : Wire) (held : Held) (next : ℕ) → Ok v ≡ value_of a memory (known_of program) locals.slots e → next ≡ m.top.next + 1 → held ≡ goes_behind program m (Returns v) next (wires_of m.top.born)
        → (side : Side) (n : ℕ) → side.known ≡ known_of program → Stands (Code.Return n (Some e)) → Ticks a side (held_of program m) memory Goes held memory
    return_goes v held next value_is next_is h side n known_is is =
        moved_in a memory side (Code.Return n (Some e)) Goes (held_after (Ok (record { flow = Returns v; locals = locals })) here more items) held runs is
        (h ∙ goes_past (Returns v) next next_is) (return_law side (Ok v) value_is known_is n)

    pub return_stops : (kind : StopKind) (held : Held) → Err kind ≡ value_of a memory (known_of program) locals.slots e
        → (side : Side) (n : ℕ) → side.known ≡ known_of program → Stands (Code.Return n (Some e)) → Ticks a side (held_of program m) memory (Stopped kind (in_here here n)) held memory
    return_stops kind held value_is side n known_is is =
        stopped_in a memory side (Code.Return n (Some e)) kind n (held_after (Err kind) here more items) held runs is (return_law side (Err kind) value_is known_is n)

  module _ {M : Type 0} (a : Accesses M) (memory : M) (runs : is_running m.front ≡ true) (held : Held) (next : ℕ) (next_is : next ≡ m.top.next + 1) where
    pub jump_goes : (flow : Flow) → held ≡ goes_behind program m flow next (wires_of m.top.born)
        → (side : Side) (n : ℕ) (way : Way) → flow ≡ flow_of way → Stands (Code.Jump n way) → Ticks a side (held_of program m) memory Goes held memory
    jump_goes flow h side n way flow_is is =
        moved_in a memory side (Code.Jump n way) Goes (held_after (Ok (record { flow = flow_of way; locals = locals })) here more items) held runs is
        (h ∙ goes_past flow next next_is ∙ ap (λ x. held_after (Ok (record { flow = x; locals = locals })) here more items) flow_is) ((statements_step a side here locals more items memory n).jumps way)

    pub return_ends : held ≡ goes_behind program m (Returns wire.NoValue) next (wires_of m.top.born)
        → (side : Side) (n : ℕ) → Stands (Code.Return n None) → Ticks a side (held_of program m) memory Goes held memory
    return_ends h side n is =
        moved_in a memory side (Code.Return n None) Goes (held_after (Ok (record { flow = Returns wire.NoValue; locals = locals })) here more items) held runs is
        (h ∙ goes_past (Returns wire.NoValue) next next_is) ((statements_step a side here locals more items memory n).returns None)

-- ---- what the evaluator gave

module _ {M : Type 0} (a : Accesses M) (memory : M) (known : Numbered) (e : Term) (r : Result Value StopKind) (xs slots : List Value) (told : wired r ≡ value_of a memory known (wires_of xs) e) (same : xs ≡ slots) where
  pub value_given : (v : Value) → r ≡ Ok v → Ok (wire_of v) ≡ value_of a memory known (wires_of slots) e
  value_given v is = sym (ap wired is) ∙ told ∙ ap (λ vs. value_of a memory known (wires_of vs) e) same

  pub stop_given : (kind : StopKind) → r ≡ Err kind → Err kind ≡ value_of a memory known (wires_of slots) e
  stop_given kind is = sym (ap wired is) ∙ told ∙ ap (λ vs. value_of a memory known (wires_of vs) e) same
