-- Objects die where a block or a function ends, and the machine holds what is left.
use Rattle.std.proofs.Common.{◌≡◌, ◌↔◌, IsTrue, ℕ, Bool, true, false, ◌||◌, List, [], ◌∷◌, ◌++◌, refl, ap, sym, ◌∙◌}
use Rattle.mdr_core.specs.declared.program.Program.{Program}
use Rattle.std.specs.List.{list_any}
use Rattle.mdr_core.specs.declared.value.Value.{Value}
use Rattle.mdr_core.specs.declared.value.Value.TheVariants as value
use Rattle.mdr_core.specs.declared.value.View.{View}
use Rattle.mdr_core.specs.Layout.{chosen}
use Rattle.mdr_core.specs.Code.{Codes}
use Rattle.mdr_meaning.specs.declared.wire.Wire.{Wire}
use Rattle.mdr_meaning.specs.declared.wire.Wire.TheVariants as wire
use Rattle.mdr_meaning.specs.Cut.{cut}
use Rattle.mdr_meaning.specs.Lives.{after_deaths, is_into, returned}
use Rattle.mdr_meaning.specs.Values.{wire_of, wire_view}
use Rattle.mdr_meaning.specs.Sides.{Side, Here, Locals, Flow, Ends, Breaks, Continues, Returns, in_here}
use Rattle.mdr_meaning.specs.Walk.{Reached, Accesses, walk, walked}
use Rattle.std.proofs.lemmas.List.{reverse-append}
use Rattle.mdr_events.specs.Held.{Unwinds, WaitsDeath, Item, Scope, Held, carry, bare, tree}
use Rattle.mdr_events.specs.Steps.{holds, child, Came, Goes, Ended, Stopped, Asks, Crosses, Leaves, after, IsSame, Steps}
use Rattle.mdr_events.specs.Values.{wires_of}
use Rattle.mdr_exec.specs.declared.frame.Flow.{Flow as Leaving}
use Rattle.mdr_exec.specs.declared.frame.Suspended.{Suspended}
use Rattle.mdr_exec.specs.declared.frame.Until.TheVariants as until
use Rattle.mdr_exec.specs.declared.frame.Front.{Front as Before}
use Rattle.mdr_exec.specs.declared.frame.Front.TheVariants as front
use Rattle.mdr_exec.specs.declared.frame.Machine.{Machine}
use Rattle.mdr_exec.specs.Closing.{DiesAt, AtBlock, AtEnd, Finishes, asks_on}
use Rattle.mdr_exec.specs.Holding.{around, below_of, block_of, flow_as, front_in, held_of}
use Rattle.mdr_exec.specs.Leaving.{here_in}
use Rattle.mdr_exec.specs.Places.{behind}
use Rattle.mdr_exec.specs.Unwinding.{is_return, flow_after, dying_came, dying_front, dying_memory}
use Rattle.mdr_exec.proofs.UnwindingLaws.{none_died, work_goes_on}

module _ {M : Type 0} (a : Accesses M) (side : Side) where
  after_same : (h1 h2 : Held) → IsSame side h1 h2 → (came : Came) (m : M) (f n r : ℕ) → after a side f came h1 m n r ≡ after a side f came h2 m n r
  after_same h1 h2 s Goes m f n r = ap (λ t. walk a n t m) (s.by f r)
  after_same h1 h2 s (Ended v) m f n r = ap (λ t. walked (Reached.Ended v t) m n) (s.by f r)
  after_same h1 h2 s (Stopped kind at) m f n r = refl
  after_same h1 h2 s (Asks asked) m f n r = ap (λ t. walked (Reached.Asks asked (child t)) m n) (s.by f r)
  after_same h1 h2 s (Crosses at func args depth) m f n r = ap (λ t. walked (Reached.Crosses at func args depth (λ v. child t (v ∷ []))) m n) (s.by f r)

  pub steps_same : (h h1 h2 : Held) (m m' : M) (came : Came) → Steps a side h m came h1 m' → IsSame side h1 h2 → (Leaves came h1 → Leaves came h2) → Steps a side h m came h2 m'
  steps_same h h1 h2 m m' came p s left = record { by = λ f n r fewer. p.by f n r fewer ∙ after_same h1 h2 s came m' f n r; leaves = λ r. left (p.leaves r) }

-- the objects of a block are dead, and the block is still to be left
module _ (side : Side) (here : Here) (slots : List Wire) (ahead : Codes) (items : List Item) where
  abbrev holding : List Wire → Locals
  holding born = record { slots = slots; born = born }

  unwinds_so : (flow : Flow) (outer : List Wire) → is_return flow ≡ false → IsSame side (holds (Unwinds flow) here (holding outer) ahead items) (holds (Unwinds flow) here (holding []) ahead (Scope outer ∷ items))
  unfolding bare tree carry
  unwinds_so Ends outer h = record { by = λ f r. refl; ready = λ r. record { calm = r.calm; started = r.started } }
  unwinds_so Breaks outer h = record { by = λ f r. refl; ready = λ r. record { calm = r.calm; started = r.started } }
  unwinds_so Continues outer h = record { by = λ f r. refl; ready = λ r. record { calm = r.calm; started = r.started } }
  unwinds_so (Returns v) outer h = absurd (cc h)

  waits_so : (flow : Flow) (outer : List Wire) → is_return flow ≡ false → IsSame side (holds (WaitsDeath flow) here (holding outer) ahead items) (holds (WaitsDeath flow) here (holding []) ahead (Scope outer ∷ items))
  unfolding bare tree carry
  waits_so Ends outer h = record { by = λ f r. refl; ready = λ r. record { calm = r.calm; started = r.started } }
  waits_so Breaks outer h = record { by = λ f r. refl; ready = λ r. record { calm = r.calm; started = r.started } }
  waits_so Continues outer h = record { by = λ f r. refl; ready = λ r. record { calm = r.calm; started = r.started } }
  waits_so (Returns v) outer h = absurd (cc h)

  left_so : (asks : Bool) (ps : List Wire) (flow : Flow) (outer : List Wire) → is_return flow ≡ false
      → IsSame side (holds (dying_front asks ps flow) here (holding outer) ahead items) (holds (dying_front asks ps flow) here (holding []) ahead (Scope outer ∷ items))
  left_so asks [] flow outer h = unwinds_so flow outer h
  left_so false (p ∷ ps) flow outer h = unwinds_so flow outer h
  left_so true (p ∷ ps) flow outer h = waits_so flow outer h

  left_open : (asks : Bool) (ps : List Wire) (flow : Flow) (outer : List Wire) → Leaves (dying_came asks (in_here here 0) ps) (holds (dying_front asks ps flow) here (holding outer) ahead items)
      → Leaves (dying_came asks (in_here here 0) ps) (holds (dying_front asks ps flow) here (holding []) ahead (Scope outer ∷ items))
  left_open asks [] flow outer r = record { calm = refl; started = r.started }
  left_open false (p ∷ ps) flow outer r = record { calm = refl; started = r.started }
  left_open true (p ∷ ps) flow outer r = record { takes_them = refl; started = r.started }

module _ {M : Type 0} (a : Accesses M) (side : Side) (here : Here) (slots born : List Wire) (ahead : Codes) (m : M) where
  left_block : (flow : Flow) (outer : List Wire) (items : List Item) → is_return flow ≡ false
      → Steps a side (holds (Unwinds flow) here (record { slots = slots; born = born }) ahead (Scope outer ∷ items)) m (dying_came side.asks (in_here here 0) born)
      (holds (dying_front side.asks born flow) here (record { slots = slots; born = [] }) ahead (Scope outer ∷ items)) (dying_memory a side.asks born m)
  left_block flow outer items h =
      let law = work_goes_on a side here (record { slots = slots; born = born }) ahead items m in
      steps_same a side _ _ _ m (dying_memory a side.asks born m) (dying_came side.asks (in_here here 0) born) (law.scope_left flow outer h) (left_so side here slots ahead items side.asks born flow outer h)
      (left_open side here slots ahead items side.asks born flow outer)

  pub dies_at : (flow : Flow) (items : List Item) → DiesAt flow items
      → Steps a side (holds (Unwinds flow) here (record { slots = slots; born = born }) ahead items) m (dying_came side.asks (in_here here 0) born)
      (holds (dying_front side.asks born (flow_after born flow)) here (record { slots = slots; born = [] }) ahead items) (dying_memory a side.asks born m)
  dies_at Ends _ (AtBlock _ outer items h) = left_block Ends outer items h
  dies_at Breaks _ (AtBlock _ outer items h) = left_block Breaks outer items h
  dies_at Continues _ (AtBlock _ outer items h) = left_block Continues outer items h
  dies_at (Returns v) _ (AtBlock _ outer items h) = absurd (cc h)
  dies_at flow _ (AtEnd _ end items h) =
      let law = work_goes_on a side here (record { slots = slots; born = born }) ahead items m in
      law.function_dies flow end h

-- ---- what the machine holds then

module _ {M : Type 0} (a : Accesses M) (m : Machine) (flow : Leaving) (born : List Value) (memory : M) where
  -- the machine without these objects
  abbrev emptied : Before → Machine
  emptied b = record {
    side = m.side;
    front = b;
    top = record { func = m.top.func; depth = m.top.depth; path = m.top.path; next = m.top.next; slots = m.top.slots; born = born };
    below = m.below;
    used = m.used;
  }

  died : (b : Before) (memory' : M) (program : Program) (side : Side) → m.front ≡ front.Unwinds flow → born ≡ [] → DiesAt (flow_as flow) (held_of program m).items
      → dying_front side.asks (wires_of m.top.born) (flow_after (wires_of m.top.born) (flow_as flow)) ≡ front_in program (emptied b).top b → dying_memory a side.asks (wires_of m.top.born) memory ≡ memory'
      → Steps a side (held_of program m) memory (dying_came side.asks (in_here (here_in program m) 0) (wires_of m.top.born)) (held_of program (emptied b)) memory'
  unfolding held_of
  died b memory' program side is none d fr me =
      rw (is, none, ← fr, ← me)
      (dies_at a side (here_in program m) (wires_of m.top.slots) (wires_of m.top.born) (behind (block_of program m.top) m.top.next) memory (flow_as flow) (held_of program m).items d)

asked_front : (asks : Bool) → asks ≡ true → (born : List Value) → (born ≡ [] → ⊥) → (flow : Flow) → dying_front asks (wires_of born) flow ≡ WaitsDeath flow
asked_front false h born some flow = absurd (cc h)
asked_front true h [] some flow = absurd (some refl)
asked_front true h (v ∷ vs) some flow = refl

asked_memory : {M : Type 0} (a : Accesses M) (asks : Bool) → asks ≡ true → (born : List Value) (memory : M) → dying_memory a asks (wires_of born) memory ≡ memory
asked_memory a false h born memory = absurd (cc h)
asked_memory a true h [] memory = refl
asked_memory a true h (v ∷ vs) memory = refl

here_front : (asks : Bool) → asks ≡ false → (born : List Value) (flow : Flow) → dying_front asks (wires_of born) flow ≡ Unwinds flow
here_front true h born flow = absurd (cc h)
here_front false h [] flow = refl
here_front false h (v ∷ vs) flow = refl

here_memory : {M : Type 0} (a : Accesses M) (asks : Bool) → asks ≡ false → (born : List Value) → (born ≡ [] → ⊥) → (memory : M) → dying_memory a asks (wires_of born) memory ≡ a.death memory (wires_of born)
here_memory a true h born some memory = absurd (cc h)
here_memory a false h [] some memory = absurd (some refl)
here_memory a false h (v ∷ vs) some memory = refl

-- pointers of code and of what it holds
among_is : (serial : ℕ) (vs : List Value) → list_any (is_into serial) (wires_of vs) ≡ list_any (λ p. is_into serial (wire_of p)) vs
among_is serial [] = refl
among_is serial (v ∷ vs) = ap (λ b. is_into serial (wire_of v) || b) (among_is serial vs)

module _ (dead : List Value) (v : Value) (p : View) (b : Bool) where
  after_by : v ≡ value.Ptr p → b ≡ list_any (λ w. is_into p.block.serial (wire_of w)) dead → after_deaths (wires_of dead) (wire_of v) ≡ chosen b wire.Dead (wire_of v)
  after_by is found = ap (λ (x : Value). after_deaths (wires_of dead) (wire_of x)) is ∙ ap (λ c. chosen c wire.Dead (wire.Ptr (wire_view p))) (among_is p.block.serial dead ∙ sym found) ∙ sym (ap (λ (x : Value). chosen b wire.Dead (wire_of x)) is)

  pub died_with : v ≡ value.Ptr p → b ≡ list_any (λ w. is_into p.block.serial (wire_of w)) dead → b ≡ true → wire.Dead ≡ after_deaths (wires_of dead) (wire_of v)
  died_with is found among = sym (after_by is found ∙ ap (λ c. chosen c wire.Dead (wire_of v)) among)

  pub outlived : v ≡ value.Ptr p → b ≡ list_any (λ w. is_into p.block.serial (wire_of w)) dead → b ≡ false → wire.Ptr (wire_view p) ≡ after_deaths (wires_of dead) (wire_of v)
  outlived is found among = sym (after_by is found ∙ ap (λ c. chosen c wire.Dead (wire_of v)) among ∙ ap wire_of is)

-- what was taken is not empty
some_taken : (e : Bool) (taken held : List Value) → (IsTrue e ↔ (taken ≡ [])) → e ≡ false → taken ≡ held → held ≡ [] → ⊥
some_taken e taken held told not_empty is none = cc (not_empty, told.1 (is ∙ none))

module _ {M : Type 0} (a : Accesses M) (m : Machine) (flow left : Leaving) (born taken slice : List Value) (memory : M) (e asks : Bool) where
  -- the flow is that behind the deaths of what was held
  gone_so : slice ≡ taken → flow_as left ≡ flow_after (wires_of slice) (flow_as flow) → taken ≡ m.top.born → flow_after (wires_of m.top.born) (flow_as flow) ≡ flow_as left
  gone_so sliced went taken_is = sym (went ∙ ap (λ vs. flow_after (wires_of vs) (flow_as flow)) (sliced ∙ taken_is))

  pub died_asked : m.front ≡ front.Unwinds flow → born ≡ [] → (IsTrue e ↔ (taken ≡ [])) → e ≡ false → taken ≡ m.top.born → slice ≡ taken → flow_as left ≡ flow_after (wires_of slice) (flow_as flow)
      → asks ≡ asks_on m.side → asks ≡ true
      → (program : Program) (side : Side) → DiesAt (flow_as flow) (held_of program m).items → side.asks ≡ asks_on m.side
      → Steps a side (held_of program m) memory (dying_came side.asks (in_here (here_in program m) 0) (wires_of m.top.born)) (held_of program (record {
        side = m.side;
        front = front.WaitsDeath left;
        top = record { func = m.top.func; depth = m.top.depth; path = m.top.path; next = m.top.next; slots = m.top.slots; born = born };
        below = m.below;
        used = m.used;
      })) memory
  died_asked is none told not_empty taken_is sliced went asks_is yes_asks program side d same =
      let some = some_taken e taken m.top.born told not_empty taken_is in
      let all = same ∙ sym asks_is ∙ yes_asks in
      died a m flow born memory (front.WaitsDeath left) memory program side is none d
      (asked_front side.asks all m.top.born some (flow_after (wires_of m.top.born) (flow_as flow)) ∙ ap WaitsDeath (gone_so sliced went taken_is)) (asked_memory a side.asks all m.top.born memory)

  pub died_here : m.front ≡ front.Unwinds flow → born ≡ [] → (IsTrue e ↔ (taken ≡ [])) → e ≡ false → taken ≡ m.top.born → slice ≡ taken → flow_as left ≡ flow_after (wires_of slice) (flow_as flow)
      → asks ≡ asks_on m.side → asks ≡ false
      → (again : List Value) → again ≡ taken → (memory' : M) → memory' ≡ a.death memory (wires_of again)
      → (program : Program) (side : Side) → DiesAt (flow_as flow) (held_of program m).items → side.asks ≡ asks_on m.side
      → Steps a side (held_of program m) memory (dying_came side.asks (in_here (here_in program m) 0) (wires_of m.top.born)) (held_of program (record {
        side = m.side;
        front = front.Unwinds left;
        top = record { func = m.top.func; depth = m.top.depth; path = m.top.path; next = m.top.next; slots = m.top.slots; born = born };
        below = m.below;
        used = m.used;
      })) memory'
  died_here is none told not_empty taken_is sliced went asks_is no_asks again same_slice memory' done program side d same =
      let some = some_taken e taken m.top.born told not_empty taken_is in
      let all = same ∙ sym asks_is ∙ no_asks in
      died a m flow born memory (front.Unwinds left) memory' program side is none d
      (here_front side.asks all m.top.born (flow_after (wires_of m.top.born) (flow_as flow)) ∙ ap Unwinds (gone_so sliced went taken_is))
      (here_memory a side.asks all m.top.born some memory ∙ sym (done ∙ ap (λ vs. a.death memory (wires_of vs)) (same_slice ∙ taken_is)))

-- ---- functions end

module _ (m : Machine) (flow : Leaving) (s : Suspended) (below : List Suspended) (value : Value) where
  pub called_back : m.front ≡ front.Unwinds flow → m.top.path ≡ [] → m.top.born ≡ [] → m.below ≡ below ++ s ∷ [] → s.until ≡ until.Call → wire_of value ≡ returned (flow_as flow)
      → (program : Program) (side : Side) → IsSame side (held_of program m) (held_of program (record { side = m.side; front = front.Comes value; top = s.frame; below = below; used = m.used }))
  unfolding held_of below_of around bare tree carry
  called_back is outside none last waits gives program side =
      rw (is, outside, none, last, reverse-append below (s ∷ []), waits, gives) (record { by = λ f r. rw (none_died (returned (flow_as flow))) refl; ready = λ r. record { calm = refl; started = r.started } })

  pub start_ended : (b : Before) → m.front ≡ front.Unwinds flow → m.top.path ≡ [] → m.top.born ≡ [] → m.below ≡ below ++ s ∷ [] → s.until ≡ until.Started b → wire_of value ≡ returned (flow_as flow)
      → (program : Program) (side : Side) → Finishes side (held_of program m) (wire_of value) (held_of program (record { side = m.side; front = b; top = s.frame; below = below; used = m.used }))
  unfolding held_of below_of around bare tree carry cut
  start_ended b is outside none last waits gives program side =
      rw (is, outside, none, last, reverse-append below (s ∷ []), waits, gives) (record { by = λ f r. rw (none_died (returned (flow_as flow))) refl })
