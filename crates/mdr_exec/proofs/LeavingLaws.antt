-- What is held when a list of statements is left.
use Rattle.std.proofs.Common.{◌≡◌, ℕ, zero, suc, ◌-◌, Bool, true, false, List, [], ◌∷◌, ◌++◌, Option, Some, None, reverse, refl, ap, sym, ◌∙◌, subst, arith}
use mathlib.Core.Path.{fun_ext}
use Rattle.mdr_core.specs.declared.program.Program.{Program}
use Rattle.mdr_core.specs.declared.value.Value.{Value}
use Rattle.mdr_core.specs.Code.{Term, Code, Codes}
use Rattle.mdr_meaning.specs.declared.wire.Wire.{Wire}
use Rattle.mdr_meaning.specs.Bodies.{means}
use Rattle.mdr_meaning.specs.Cut.{cut}
use Rattle.mdr_meaning.specs.Sides.{Side, Here, Locals, Flow, Ends, Breaks, Continues, Returns, Next, Means}
use Rattle.mdr_meaning.specs.Statements.{on_ends, stmt, stmts}
use Rattle.mdr_events.specs.Held.{Front, Runs, Unwinds, Item, Rest, Scope, Held, carry, bare, tree, loop_again}
use Rattle.mdr_events.specs.Steps.{holds, front_after, IsSame}
use Rattle.mdr_events.specs.Values.{wires_of}
use Rattle.mdr_exec.specs.declared.frame.Flow.{Flow as Leaving}
use Rattle.mdr_exec.specs.declared.frame.Frame.{Frame as Running}
use Rattle.mdr_exec.specs.declared.frame.Front.{Front as Before}
use Rattle.mdr_exec.specs.declared.frame.Front.TheVariants as front
use Rattle.mdr_exec.specs.declared.frame.Machine.{Machine}
use Rattle.mdr_exec.specs.declared.leave.Ending.TheVariants as ending
use Rattle.mdr_exec.specs.declared.places.Part.{Part}
use Rattle.mdr_exec.specs.declared.places.Part.TheVariants as part
use Rattle.mdr_exec.specs.declared.places.Position.{Position}
use Rattle.mdr_exec.specs.Found.{body_codes}
use Rattle.mdr_exec.specs.Holding.{around, below_of, block_of, ends_with, flow_as, front_in, here_of, held_of, is_running}
use Rattle.mdr_exec.specs.Leaving.{is_loop, ending_by, passed_on, NoneDies, LeavesNone, leaves_list, goes_behind, goes_round, turn_left, step_left}
use Rattle.mdr_exec.specs.Places.{behind, code_before, inner, part_of}
use Rattle.mdr_exec.proofs.PathLaws.{next_stands, path_into, around_into}

-- ---- which code

pub data Looped : Option Code → Type 0 where
  The : (n : ℕ) (e : Term) (step body : Codes) → Looped (Some (Code.Loop n e step body))

pub looped : (code : Option Code) → is_loop code ≡ true → Looped code
looped (Some (Code.Loop n e step body)) h = The n e step body
looped None h = absurd (cc h)
looped (Some (Code.Declare n i)) h = absurd (cc h)
looped (Some (Code.Text n i bytes)) h = absurd (cc h)
looped (Some (Code.Assign n p e)) h = absurd (cc h)
looped (Some (Code.Call n goal form)) h = absurd (cc h)
looped (Some (Code.If n e one other)) h = absurd (cc h)
looped (Some (Code.Block body)) h = absurd (cc h)
looped (Some (Code.Return n e)) h = absurd (cc h)
looped (Some (Code.Jump n way)) h = absurd (cc h)

pub plainly : (p : Part) (code : Option Code) → ending_by p (is_loop code) ≡ ending.Plain → (outer : List Wire) → ends_with p outer code ≡ Scope outer ∷ []
plainly part.One code h outer = refl
plainly part.Other code h outer = refl
plainly part.Inner code h outer = refl
plainly part.Body None h outer = refl
plainly part.Body (Some (Code.Loop n e step body)) h outer = absurd (cc h)
plainly part.Body (Some (Code.Declare n i)) h outer = refl
plainly part.Body (Some (Code.Text n i bytes)) h outer = refl
plainly part.Body (Some (Code.Assign n p e)) h outer = refl
plainly part.Body (Some (Code.Call n goal form)) h outer = refl
plainly part.Body (Some (Code.If n e one other)) h outer = refl
plainly part.Body (Some (Code.Block body)) h outer = refl
plainly part.Body (Some (Code.Return n e)) h outer = refl
plainly part.Body (Some (Code.Jump n way)) h outer = refl
plainly part.Step None h outer = refl
plainly part.Step (Some (Code.Loop n e step body)) h outer = absurd (cc h)
plainly part.Step (Some (Code.Declare n i)) h outer = refl
plainly part.Step (Some (Code.Text n i bytes)) h outer = refl
plainly part.Step (Some (Code.Assign n p e)) h outer = refl
plainly part.Step (Some (Code.Call n goal form)) h outer = refl
plainly part.Step (Some (Code.If n e one other)) h outer = refl
plainly part.Step (Some (Code.Block body)) h outer = refl
plainly part.Step (Some (Code.Return n e)) h outer = refl
plainly part.Step (Some (Code.Jump n way)) h outer = refl

pub record Loops (p q : Part) (b : Bool) : Type 0 where
  pub is : p ≡ q
  pub loops : b ≡ true

pub turning : (p : Part) (b : Bool) → ending_by p b ≡ ending.Turn → Loops p part.Body b
turning part.Body true h = record { is = refl; loops = refl }
turning part.Body false h = absurd (cc h)
turning part.Step true h = absurd (cc h)
turning part.Step false h = absurd (cc h)
turning part.One b h = absurd (cc h)
turning part.Other b h = absurd (cc h)
turning part.Inner b h = absurd (cc h)

stepping : (p : Part) (b : Bool) → ending_by p b ≡ ending.Stepped → Loops p part.Step b
stepping part.Step true h = record { is = refl; loops = refl }
stepping part.Step false h = absurd (cc h)
stepping part.Body true h = absurd (cc h)
stepping part.Body false h = absurd (cc h)
stepping part.One b h = absurd (cc h)
stepping part.Other b h = absurd (cc h)
stepping part.Inner b h = absurd (cc h)

-- a statement that is under way and what follows it
pub under_way : (cs : Codes) (next : ℕ) (c : Code) → code_before cs next ≡ Some c → behind cs (next - 1) ≡ Codes.Then c (behind cs next)
under_way cs zero c h = absurd (cc h)
under_way cs (suc i) c h = let back : suc i - 1 ≡ i = omega arith in rw back (next_stands cs i c h)

-- ---- what is held

-- nothing follows at the end of a list
pub nothing_more : (side : Side) (low : Means) (here : Here) (k : Next) → on_ends (stmts side low here Codes.End) k ≡ k
nothing_more side low here k = fun_ext (λ flow. fun_ext (λ l. by_flow flow l)) where
  by_flow : (flow : Flow) (l : Locals) → on_ends (stmts side low here Codes.End) k flow l ≡ k flow l
  by_flow Ends l = refl
  by_flow Breaks l = refl
  by_flow Continues l = refl
  by_flow (Returns v) l = refl

module _ (side : Side) (here : Here) (slots : List Wire) (ahead : Codes) (items : List Item) where
  abbrev with : List Wire → Locals
  with born = record { slots = slots; born = born }

  plain_left : (flow : Flow) (born outer : List Wire) (after : Codes) → NoneDies flow born
      → IsSame side (holds (Unwinds flow) here (with born) ahead (Scope outer ∷ Rest after ∷ items)) (holds (front_after flow) here (with (passed_on flow outer born)) after items)
  unfolding bare tree carry
  plain_left Ends born outer after h = rw h (record { by = λ f r. refl; ready = λ r. record { calm = refl; started = r.started } })
  plain_left Breaks born outer after h = rw h (record { by = λ f r. refl; ready = λ r. record { calm = refl; started = r.started } })
  plain_left Continues born outer after h = rw h (record { by = λ f r. refl; ready = λ r. record { calm = refl; started = r.started } })
  plain_left (Returns v) born outer after h = record { by = λ f r. refl; ready = λ r. record { calm = refl; started = r.started } }

  turned_round : (code : Option Code) → Looped code → (born outer : List Wire) (after : Codes) → born ≡ []
      → IsSame side (holds (Unwinds Ends) here (with born) ahead (ends_with part.Body outer code ++ Rest after ∷ items)) (holds Runs here (with outer) (part_of part.Step code) (ends_with part.Step [] code ++ Rest after ∷ items))
  unfolding bare tree carry
  turned_round _ (The n e step body) born outer after h = rw h (record { by = λ f r. refl; ready = λ r. record { calm = refl; started = r.started } })

  turned_on : (code : Option Code) → Looped code → (born outer : List Wire) (after : Codes) → born ≡ []
      → IsSame side (holds (Unwinds Continues) here (with born) ahead (ends_with part.Body outer code ++ Rest after ∷ items)) (holds Runs here (with outer) (part_of part.Step code) (ends_with part.Step [] code ++ Rest after ∷ items))
  unfolding bare tree carry
  turned_on _ (The n e step body) born outer after h = rw h (record { by = λ f r. refl; ready = λ r. record { calm = refl; started = r.started } })

  broken : (code : Option Code) → Looped code → (born outer : List Wire) (after : Codes) → born ≡ []
      → IsSame side (holds (Unwinds Breaks) here (with born) ahead (ends_with part.Body outer code ++ Rest after ∷ items)) (holds Runs here (with outer) after items)
  unfolding bare tree carry
  broken _ (The n e step body) born outer after h = rw h (record { by = λ f r. refl; ready = λ r. record { calm = refl; started = r.started } })

  returned_from : (code : Option Code) → Looped code → (v : Wire) (born outer : List Wire) (after : Codes)
      → IsSame side (holds (Unwinds (Returns v)) here (with born) ahead (ends_with part.Body outer code ++ Rest after ∷ items)) (holds (Unwinds (Returns v)) here (with (outer ++ born)) after items)
  unfolding bare tree carry
  returned_from _ (The n e step body) v born outer after = record { by = λ f r. refl; ready = λ r. record { calm = refl; started = r.started } }

  stepped_again : (code : Code) (l : Locals) (after : Codes)
      → IsSame side (holds (Unwinds Ends) here l ahead (Rest (Codes.Then code Codes.End) ∷ Rest after ∷ items)) (holds Runs here l (Codes.Then code after) items)
  unfolding bare tree carry means
  stepped_again code l after = record {
    ready = λ r. record { calm = refl; started = r.started };
    by = λ f r. ap (λ (k : Next). cut r (stmt side (means side f) here code l k)) (nothing_more side (means side f) here (on_ends (stmts side (means side f) here after) (carry side (means side (suc f)) here items)));
  }

  step_passed : (flow : Flow) (l : Locals) (codes after : Codes) → front_after flow ≡ Unwinds flow
      → IsSame side (holds (Unwinds flow) here l ahead (Rest codes ∷ Rest after ∷ items)) (holds (front_after flow) here l after items)
  unfolding bare tree carry
  step_passed Ends l codes after h = absurd (cc h)
  step_passed Breaks l codes after h = record { by = λ f r. refl; ready = λ r. record { calm = refl; started = r.started } }
  step_passed Continues l codes after h = record { by = λ f r. refl; ready = λ r. record { calm = refl; started = r.started } }
  step_passed (Returns v) l codes after h = record { by = λ f r. refl; ready = λ r. record { calm = refl; started = r.started } }

-- ---- what a machine holds

abbrev moved_to : (side : Side) (h x y : Held) → y ≡ x → IsSame side h x → IsSame side h y
moved_to side h x y e s = subst (IsSame side h) (sym e) s

module _ (program : Program) (m : Machine) (flow : Flow) (p : Position) where
  abbrev code : Option Code
  code = code_before (block_of program m.top) p.next

  pub leaves_plainly : (held : Held) → ending_by p.part (is_loop code) ≡ ending.Plain → LeavesNone (ending_by p.part (is_loop code)) flow (wires_of m.top.born)
      → held ≡ goes_behind program m flow p.next (passed_on flow (wires_of p.born) (wires_of m.top.born)) → (side : Side) → IsSame side (leaves_list program m flow p) held
  leaves_plainly held kind none is side =
      let items = (held_of program m).items in
      let none' : NoneDies flow (wires_of m.top.born) = subst (λ k. LeavesNone k flow (wires_of m.top.born)) kind none in
      rw (is, plainly p.part code kind (wires_of p.born))
      (plain_left side (here_of program m.top.func m.top.depth) (wires_of m.top.slots) Codes.End items flow (wires_of m.top.born) (wires_of p.born) (behind (block_of program m.top) p.next) none')

  turns : (f : Flow) → is_loop code ≡ true → NoneDies f (wires_of m.top.born) → (side : Side)
      → IsSame side (leaves_list program m f (record { next = p.next; part = part.Body; born = p.born })) (turn_left program m f p)
  turns Ends loops none side = turned_round side (here_of program m.top.func m.top.depth) (wires_of m.top.slots) Codes.End (held_of program m).items code (looped code loops) (wires_of m.top.born) (wires_of p.born) (behind (block_of program m.top) p.next) none
  turns Continues loops none side = turned_on side (here_of program m.top.func m.top.depth) (wires_of m.top.slots) Codes.End (held_of program m).items code (looped code loops) (wires_of m.top.born) (wires_of p.born) (behind (block_of program m.top) p.next) none
  turns Breaks loops none side = broken side (here_of program m.top.func m.top.depth) (wires_of m.top.slots) Codes.End (held_of program m).items code (looped code loops) (wires_of m.top.born) (wires_of p.born) (behind (block_of program m.top) p.next) none
  turns (Returns v) loops none side = returned_from side (here_of program m.top.func m.top.depth) (wires_of m.top.slots) Codes.End (held_of program m).items code (looped code loops) v (wires_of m.top.born) (wires_of p.born) (behind (block_of program m.top) p.next)

  pub leaves_turn : (held : Held) → ending_by p.part (is_loop code) ≡ ending.Turn → LeavesNone (ending_by p.part (is_loop code)) flow (wires_of m.top.born)
      → held ≡ turn_left program m flow p → (side : Side) → IsSame side (leaves_list program m flow p) held
  leaves_turn held kind none is side =
      let t = turning p.part (is_loop code) kind in
      let none' : NoneDies flow (wires_of m.top.born) = subst (λ k. LeavesNone k flow (wires_of m.top.born)) kind none in
      let same : IsSame side (leaves_list program m flow (record { next = p.next; part = p.part; born = p.born })) (turn_left program m flow p) =
      subst (λ (q : Part). IsSame side (leaves_list program m flow (record { next = p.next; part = q; born = p.born })) (turn_left program m flow p)) (sym t.is) (turns flow t.loops none' side) in
      moved_to side (leaves_list program m flow p) (turn_left program m flow p) held is same

  steps : (f : Flow) (c : Option Code) → Looped c → code ≡ c → (side : Side)
      → IsSame side (holds (Unwinds f) (here_of program m.top.func m.top.depth) (record { slots = wires_of m.top.slots; born = wires_of m.top.born }) Codes.End (ends_with part.Step (wires_of p.born) c ++ Rest (behind (block_of program m.top) p.next) ∷ (held_of program m).items)) (step_left program m f p.next)
  steps Ends _ (The n e step body) is side =
      rw (under_way (block_of program m.top) p.next (Code.Loop n e step body) is)
      (stepped_again side (here_of program m.top.func m.top.depth) (wires_of m.top.slots) Codes.End (held_of program m).items (Code.Loop n e step body) (record { slots = wires_of m.top.slots; born = wires_of m.top.born }) (behind (block_of program m.top) p.next))
  steps Breaks _ (The n e step body) is side = step_passed side (here_of program m.top.func m.top.depth) (wires_of m.top.slots) Codes.End (held_of program m).items Breaks (record { slots = wires_of m.top.slots; born = wires_of m.top.born }) (loop_again n e step body) (behind (block_of program m.top) p.next) refl
  steps Continues _ (The n e step body) is side = step_passed side (here_of program m.top.func m.top.depth) (wires_of m.top.slots) Codes.End (held_of program m).items Continues (record { slots = wires_of m.top.slots; born = wires_of m.top.born }) (loop_again n e step body) (behind (block_of program m.top) p.next) refl
  steps (Returns v) _ (The n e step body) is side = step_passed side (here_of program m.top.func m.top.depth) (wires_of m.top.slots) Codes.End (held_of program m).items (Returns v) (record { slots = wires_of m.top.slots; born = wires_of m.top.born }) (loop_again n e step body) (behind (block_of program m.top) p.next) refl

  pub leaves_step : (held : Held) → ending_by p.part (is_loop code) ≡ ending.Stepped → held ≡ step_left program m flow p.next → (side : Side) → IsSame side (leaves_list program m flow p) held
  leaves_step held kind is side =
      let t = stepping p.part (is_loop code) kind in
      let same : IsSame side (leaves_list program m flow (record { next = p.next; part = p.part; born = p.born })) (step_left program m flow p.next) =
      subst (λ (q : Part). IsSame side (leaves_list program m flow (record { next = p.next; part = q; born = p.born })) (step_left program m flow p.next)) (sym t.is) (steps flow code (looped code t.loops) refl side) in
      moved_to side (leaves_list program m flow p) (step_left program m flow p.next) held is same

-- ---- what the machine holds behind it

-- nothing came before the statement, and nothing does then
pub still_running : (program : Program) (frame : Running) (b : Before) → is_running b ≡ true → front_in program frame b ≡ Runs
still_running program frame front.Runs h = refl
still_running program frame (front.Unwinds flow) h = absurd (cc h)
still_running program frame (front.Comes v) h = absurd (cc h)
still_running program frame front.Enters h = absurd (cc h)
still_running program frame (front.Fills ps) h = absurd (cc h)
still_running program frame (front.Born i p) h = absurd (cc h)
still_running program frame front.WaitsValue h = absurd (cc h)
still_running program frame (front.WaitsParams room) h = absurd (cc h)
still_running program frame (front.WaitsObject i) h = absurd (cc h)
still_running program frame (front.WaitsDeath flow) h = absurd (cc h)

held_front : (program : Program) (m : Machine) (b : Before) (flow : Flow) (next : ℕ) (born : List Value) → ((program : Program) (frame : Running) → front_in program frame b ≡ front_after flow)
    → held_of program (record {
      side = m.side;
      front = b;
      top = record { func = m.top.func; depth = m.top.depth; path = m.top.path; next = next; slots = m.top.slots; born = born };
      below = m.below;
      used = m.used;
    }) ≡ goes_behind program m flow next (wires_of born)
unfolding held_of
held_front program m b flow next born is =
    ap (λ (x : Front). holds x (here_of program m.top.func m.top.depth) (record { slots = wires_of m.top.slots; born = wires_of born }) (behind (block_of program m.top) next) (around m.top.path (body_codes program m.top.func) (below_of program (reverse m.below))))
    (is program (record { func = m.top.func; depth = m.top.depth; path = m.top.path; next = next; slots = m.top.slots; born = born }))

pub held_behind : (m : Machine) (b : Before) (flow : Flow) (next : ℕ) (born : List Value) → ((program : Program) (frame : Running) → front_in program frame b ≡ front_after flow)
    → (program : Program)
    → held_of program (record {
      side = m.side;
      front = b;
      top = record { func = m.top.func; depth = m.top.depth; path = m.top.path; next = next; slots = m.top.slots; born = born };
      below = m.below;
      used = m.used;
    }) ≡ goes_behind program m flow next (wires_of born)
held_behind m b flow next born is program = held_front program m b flow next born is

pub held_round : (m : Machine) (path : List Position) (next : ℕ) (born none : List Value) → path ≡ m.top.path ++ record { next = next; part = part.Step; born = none } ∷ [] → none ≡ []
    → (program : Program) (p : Position) → p.next ≡ next → p.born ≡ born
    → held_of program (record {
      side = m.side;
      front = front.Runs;
      top = record { func = m.top.func; depth = m.top.depth; path = path; next = 0; slots = m.top.slots; born = born };
      below = m.below;
      used = m.used;
    }) ≡ goes_round program m p
unfolding held_of behind
held_round m path next born none is e program p n b =
    rw (is, e, n, b, path_into m.top.path (record { next = next; part = part.Step; born = [] }) (body_codes program m.top.func), around_into m.top.path (record { next = next; part = part.Step; born = [] }) (body_codes program m.top.func)) refl

-- ---- the innermost list of statements

same_then : (side : Side) (h1 h2 h3 : Held) → IsSame side h1 h2 → IsSame side h2 h3 → IsSame side h1 h3
same_then side h1 h2 h3 p q = record { by = λ f r. p.by f r ∙ q.by f r; ready = λ r. q.ready (p.ready r) }

-- what follows in a block that is left is no matter
ahead_forgotten : (side : Side) (flow : Flow) (here : Here) (l : Locals) (ahead : Codes) (items : List Item) → IsSame side (holds (Unwinds flow) here l ahead items) (holds (Unwinds flow) here l Codes.End items)
unfolding bare tree
ahead_forgotten side flow here l ahead items = record { by = λ f r. refl; ready = λ r. record { calm = refl; started = r.started } }

module _ (program : Program) (m : Machine) (path : List Position) where
  -- the machine at another place
  abbrev pub placed : Machine
  placed = record {
    side = m.side;
    front = m.front;
    top = record { func = m.top.func; depth = m.top.depth; path = path; next = m.top.next; slots = m.top.slots; born = m.top.born };
    below = m.below;
    used = m.used;
  }

  found_last : (flow : Leaving) (p : Position) → m.front ≡ front.Unwinds flow → m.top.path ≡ path ++ p ∷ [] → (side : Side) → IsSame side (held_of program m) (leaves_list program placed (flow_as flow) p)
  unfolding held_of
  found_last flow p is e side =
      rw (is, e, around_into path p (body_codes program m.top.func))
      (ahead_forgotten side (flow_as flow) (here_of program m.top.func m.top.depth) (record { slots = wires_of m.top.slots; born = wires_of m.top.born }) (behind (inner (path ++ p ∷ []) (body_codes program m.top.func)) m.top.next)
      (ends_with p.part (wires_of p.born) (code_before (inner path (body_codes program m.top.func)) p.next) ++ Rest (behind (inner path (body_codes program m.top.func)) p.next) ∷ around path (body_codes program m.top.func) (below_of program (reverse m.below))))

  pub block_left : (flow : Leaving) (p : Position) (held : Held) → m.front ≡ front.Unwinds flow → m.top.path ≡ path ++ p ∷ []
      → ((side : Side) → IsSame side (leaves_list program placed (flow_as flow) p) held) → (side : Side) → IsSame side (held_of program m) held
  block_left flow p held is e s side = same_then side (held_of program m) (leaves_list program placed (flow_as flow) p) held (found_last flow p is e side) (s side)
