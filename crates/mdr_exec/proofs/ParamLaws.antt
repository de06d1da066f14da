-- Parameters that are objects are found, born, and given their values.
use Rattle.std.proofs.Common.{◌≡◌, ℕ, zero, suc, ◌+◌, ◌<◌, ◌≤◌, Bool, true, false, ◌&&◌, List, [], ◌∷◌, ◌++◌, length, get_or, drop, map, Option, Some, None, Result, Ok, Err, slice_get, slice_set, Vec, refl, ap, sym, ◌∙◌, subst, arith}
use Rattle.std.proofs.lemmas.List.{append_assoc, append-nil, at_drop_all, at_drop_more}
use Rattle.std.specs.declared.alloc.Global.{Global as Heap}
use Rattle.mdr_core.specs.declared.program.Func.{Func}
use Rattle.mdr_core.specs.declared.program.Local.{Local}
use Rattle.mdr_core.specs.declared.program.Param.{Param}
use Rattle.mdr_core.specs.declared.program.Program.{Program}
use Rattle.mdr_core.specs.declared.stop.StopKind.{StopKind}
use Rattle.mdr_core.specs.declared.value.Value.{Value}
use Rattle.mdr_core.specs.Code.{Codes}
use Rattle.mdr_core.specs.Layout.{chosen}
use Rattle.mdr_core.specs.Typing.{Slot, slot_of_local, slot_of_param}
use Rattle.mdr_meaning.specs.declared.shape.Shape64.{Shape64}
use Rattle.mdr_meaning.specs.Bodies.{known_of}
use Rattle.mdr_meaning.specs.Expressions.{slot_of}
use Rattle.mdr_meaning.specs.Lives.{asked_for, object_params, param_shapes, shape_of, with_object}
use Rattle.mdr_meaning.specs.Numbers.{Numbered}
use Rattle.mdr_meaning.specs.Sides.{Locals, Side, in_here}
use Rattle.mdr_meaning.specs.Values.{wire_of}
use Rattle.mdr_meaning.specs.Walk.{Accesses}
use Rattle.mdr_events.specs.Held.{Enters, Fills, WaitsParams, Held}
use Rattle.mdr_events.specs.Outcomes.{when_made}
use Rattle.mdr_events.specs.Steps.{holds, Goes, Asks, came_by, Steps}
use Rattle.mdr_events.specs.Values.{wires_of}
use Rattle.mdr_exec.specs.declared.event.Outcome.{Outcome}
use Rattle.mdr_exec.specs.declared.event.Outcome.TheVariants as outcome
use Rattle.mdr_exec.specs.declared.frame.Front.{Front as Before}
use Rattle.mdr_exec.specs.declared.frame.Front.TheVariants as front
use Rattle.mdr_exec.specs.declared.frame.Machine.{Machine}
use Rattle.mdr_exec.specs.Effects.{Did, after_did, did, fills_of, stored}
use Rattle.mdr_exec.specs.Entering.{filling, params_by}
use Rattle.mdr_exec.specs.Events.{came_with}
use Rattle.mdr_exec.specs.Holding.{block_of, front_in, held_of, here_of, slots_by}
use Rattle.mdr_exec.specs.Leaving.{here_in}
use Rattle.mdr_exec.specs.Places.{behind}
use Rattle.mdr_exec.specs.Storing.{with_slots}
use Rattle.mdr_exec.specs.Unwinding.{entering_came, entering_front, entering_memory, filled_after}
use Rattle.mdr_exec.proofs.StartLaws.{wires_more}
use Rattle.mdr_exec.proofs.StoringLaws.{wires_set}
use Rattle.mdr_exec.proofs.UnwindingLaws.{work_goes_on}

-- ---- lists that are gathered item by item

pub gathers : {X Y : Type 0} (f : List X → List Y) (one : X → List Y) → ((x : X) (xs : List X) → f (x ∷ xs) ≡ one x ++ f xs)
    → (xs : List X) (i : ℕ) (x d : X) (done done' : List Y) → i < length xs → x ≡ get_or xs i d → done' ≡ done ++ one x
    → done ++ f (drop i xs) ≡ f xs → done' ++ f (drop (i + 1) xs) ≡ f xs
gathers f one step xs i x d done done' inside is more so_far =
    ap (λ ys. ys ++ f (drop (i + 1) xs)) more
    ∙ append_assoc done (one x) (f (drop (i + 1) xs))
    ∙ ap (λ y. done ++ (one y ++ f (drop (i + 1) xs))) is
    ∙ sym (ap (λ ys. done ++ ys) (at_drop_more f xs i d inside ∙ step (get_or xs i d) (drop (i + 1) xs)))
    ∙ so_far

pub gathered : {X Y : Type 0} (f : List X → List Y) → f [] ≡ [] → (xs : List X) (i : ℕ) (done : List Y) → length xs ≤ i → done ++ f (drop i xs) ≡ f xs → done ≡ f xs
gathered f none xs i done past so_far = sym (append-nil done) ∙ sym (ap (λ ys. done ++ ys) (at_drop_all f xs i past ∙ none)) ∙ so_far

-- a test holds or doesn't
pub not_both : {b : Bool} → b ≡ true → b ≡ false → ⊥
not_both h k = cc

-- ---- which parameters are objects

module _ (known : Numbered) where
  abbrev pub shapes_in : List Param → List Shape64
  shapes_in ps = param_shapes known (map slot_of_param ps)

  pub shapes_step : (p : Param) (ps : List Param) → shapes_in (p ∷ ps) ≡ shapes_in (p ∷ []) ++ shapes_in ps
  shapes_step p ps = by_object p.object where
    by_object : (b : Bool) → chosen (b && true) (shape_of known (slot_of_param p) ∷ shapes_in ps) (shapes_in ps) ≡ chosen (b && true) (shape_of known (slot_of_param p) ∷ []) [] ++ shapes_in ps
    by_object true = refl
    by_object false = refl

  pub shape_pushed : (p : Param) (d : Slot) (shape : Shape64) (old new : List Shape64) → p.object ≡ true → d ≡ slot_of_param p → shape ≡ shape_of known d → new ≡ old ++ shape ∷ []
      → new ≡ old ++ shapes_in (p ∷ [])
  shape_pushed p d shape old new object same is more =
      more ∙ ap (λ x. old ++ x ∷ []) (is ∙ ap (shape_of known) same)
      ∙ ap (λ b. old ++ chosen (b && true) (shape_of known (slot_of_param p) ∷ []) []) (sym object)

  pub no_shape : (p : Param) (old : List Shape64) → p.object ≡ false → old ≡ old ++ shapes_in (p ∷ [])
  no_shape p old none = sym (append-nil old) ∙ ap (λ b. old ++ chosen (b && true) (shape_of known (slot_of_param p) ∷ []) []) (sym none)

  no_locals : (ls : List Local) → param_shapes known (map slot_of_local ls) ≡ []
  no_locals [] = refl
  no_locals (l ∷ ls) = by_object l.object (no_locals ls) where
    by_object : (b : Bool) → param_shapes known (map slot_of_local ls) ≡ []
        → chosen (b && false) (shape_of known (slot_of_local l) ∷ param_shapes known (map slot_of_local ls)) (param_shapes known (map slot_of_local ls)) ≡ []
    by_object true h = h
    by_object false h = h

  params_alone : (ps : List Param) (ls : List Local) → param_shapes known (map slot_of_param ps ++ map slot_of_local ls) ≡ shapes_in ps
  params_alone [] ls = no_locals ls
  params_alone (p ∷ ps) ls = ap (λ xs. chosen (p.object && true) (shape_of known (slot_of_param p) ∷ xs) xs) (params_alone ps ls)

  pub shapes_by : (o : Option Func) → shapes_in (params_by o) ≡ param_shapes known (slots_by o)
  shapes_by None = refl
  shapes_by (Some func) = sym (params_alone func.params func.locals)

abbrev pub numbers_in : ℕ → List Param → List ℕ
numbers_in i ps = object_params i (map slot_of_param ps)

numbers_step : (i : ℕ) (p : Param) (ps : List Param) → numbers_in i (p ∷ ps) ≡ numbers_in i (p ∷ []) ++ numbers_in (suc i) ps
numbers_step i p ps = by_object p.object where
  by_object : (b : Bool) → chosen (b && true) (i ∷ numbers_in (suc i) ps) (numbers_in (suc i) ps) ≡ chosen (b && true) (i ∷ []) [] ++ numbers_in (suc i) ps
  by_object true = refl
  by_object false = refl

pub number_pushed : (i : ℕ) (p : Param) (old new : List ℕ) → p.object ≡ true → new ≡ old ++ i ∷ [] → new ≡ old ++ numbers_in i (p ∷ [])
number_pushed i p old new object more = more ∙ ap (λ b. old ++ chosen (b && true) (i ∷ []) []) (sym object)

pub no_number : (i : ℕ) (p : Param) (old : List ℕ) → p.object ≡ false → old ≡ old ++ numbers_in i (p ∷ [])
no_number i p old none = sym (append-nil old) ∙ ap (λ b. old ++ chosen (b && true) (i ∷ []) []) (sym none)

pub numbers_go : (ps : List Param) (i n : ℕ) (p d : Param) (done done' : List ℕ) → i < length ps → p ≡ get_or ps i d → n ≡ i → done' ≡ done ++ numbers_in n (p ∷ [])
    → done ++ numbers_in i (drop i ps) ≡ numbers_in 0 ps → done' ++ numbers_in (i + 1) (drop (i + 1) ps) ≡ numbers_in 0 ps
numbers_go ps i n p d done done' inside is number more so_far =
    let one : suc i ≡ i + 1 = omega arith in
    ap (λ ys. ys ++ numbers_in (i + 1) (drop (i + 1) ps)) (more ∙ ap (λ k. done ++ numbers_in k (p ∷ [])) number)
    ∙ append_assoc done (numbers_in i (p ∷ [])) (numbers_in (i + 1) (drop (i + 1) ps))
    ∙ ap (λ y. done ++ (numbers_in i (y ∷ []) ++ numbers_in (i + 1) (drop (i + 1) ps))) is
    ∙ ap (λ j. done ++ (numbers_in i (get_or ps i d ∷ []) ++ numbers_in j (drop (i + 1) ps))) (sym one)
    ∙ sym (ap (λ ys. done ++ ys) (at_drop_more (numbers_in i) ps i d inside ∙ numbers_step i (get_or ps i d) (drop (i + 1) ps)))
    ∙ so_far

pub numbers_end : (ps : List Param) (i : ℕ) (done : List ℕ) → length ps ≤ i → done ++ numbers_in i (drop i ps) ≡ numbers_in 0 ps → done ≡ numbers_in 0 ps
numbers_end ps i done past so_far = sym (append-nil done) ∙ sym (ap (λ ys. done ++ ys) (at_drop_all (numbers_in i) ps i past)) ∙ so_far

no_local_numbers : (i : ℕ) (ls : List Local) → object_params i (map slot_of_local ls) ≡ []
no_local_numbers i [] = refl
no_local_numbers i (l ∷ ls) = by_object l.object (no_local_numbers (suc i) ls) where
  by_object : (b : Bool) → object_params (suc i) (map slot_of_local ls) ≡ []
      → chosen (b && false) (i ∷ object_params (suc i) (map slot_of_local ls)) (object_params (suc i) (map slot_of_local ls)) ≡ []
  by_object true h = h
  by_object false h = h

params_numbered : (i : ℕ) (ps : List Param) (ls : List Local) → object_params i (map slot_of_param ps ++ map slot_of_local ls) ≡ numbers_in i ps
params_numbered i [] ls = no_local_numbers i ls
params_numbered i (p ∷ ps) ls = ap (λ xs. chosen (p.object && true) (i ∷ xs) xs) (params_numbered (suc i) ps ls)

pub numbers_by : (o : Option Func) → numbers_in 0 (params_by o) ≡ object_params 0 (slots_by o)
numbers_by None = refl
numbers_by (Some func) = sym (params_numbered 0 func.params func.locals)

-- ---- they are born

module _ (program : Program) (m : Machine) where
  abbrev behind_here : Codes
  behind_here = behind (block_of program m.top) m.top.next

  abbrev locals_here : Locals
  locals_here = with_slots m.top.slots (wires_of m.top.born)

  -- the machine with this in front
  abbrev pub fronted : Before → Machine
  fronted b = record { side = m.side; front = b; top = m.top; below = m.below; used = m.used }

  abbrev pub SlotsHere : Side → List Shape64 → Type 0
  SlotsHere side shapes = shapes ≡ param_shapes side.known (here_in program m).slots

  pub shapes_here : (side : Side) (ps : List Param) (shapes : List Shape64) → shapes ≡ param_shapes (known_of program) (map slot_of_param ps) → ps ≡ params_by (slice_get program.funcs m.top.func) → side.known ≡ known_of program
      → SlotsHere side shapes
  unfolding here_of
  shapes_here side ps shapes is same known =
      is ∙ ap (shapes_in (known_of program)) same ∙ shapes_by (known_of program) (slice_get program.funcs m.top.func)
      ∙ ap (λ k. param_shapes k (slots_by (slice_get program.funcs m.top.func))) (sym known)

  module _ {M : Type 0} (a : Accesses M) (memory : M) (side : Side) (enters : m.front ≡ front.Enters) where
    begun : (shapes : List Shape64) (asks : Bool) → SlotsHere side shapes → side.asks ≡ asks
        → Steps a side (held_of program m) memory (entering_came asks (in_here (here_in program m) 0) shapes)
        (holds (entering_front a asks shapes (object_params 0 (here_in program m).slots) memory) (here_in program m) locals_here behind_here (held_of program m).items) (entering_memory a asks shapes memory)
    unfolding held_of
    begun shapes asks is e =
        let law = (work_goes_on a side (here_in program m) locals_here behind_here (held_of program m).items memory).begins in
        subst (λ x. Steps a side (holds x (here_in program m) locals_here behind_here (held_of program m).items) memory (entering_came asks (in_here (here_in program m) 0) shapes)
        (holds (entering_front a asks shapes (object_params 0 (here_in program m).slots) memory) (here_in program m) locals_here behind_here (held_of program m).items) (entering_memory a asks shapes memory)) (sym (ap (front_in program m.top) enters))
        (subst (λ b. Steps a side (holds Enters (here_in program m) locals_here behind_here (held_of program m).items) memory (entering_came b (in_here (here_in program m) 0) shapes)
        (holds (entering_front a b shapes (object_params 0 (here_in program m).slots) memory) (here_in program m) locals_here behind_here (held_of program m).items) (entering_memory a b shapes memory)) e
        (subst (λ xs. Steps a side (holds Enters (here_in program m) locals_here behind_here (held_of program m).items) memory (entering_came side.asks (in_here (here_in program m) 0) xs)
        (holds (entering_front a side.asks xs (object_params 0 (here_in program m).slots) memory) (here_in program m) locals_here behind_here (held_of program m).items) (entering_memory a side.asks xs memory)) (sym is) law))

    pub params_asked : (shapes : List Shape64) (room : Vec Value Heap) (e : Outcome) → came_with e ≡ Asks (asked_for 13 (record { func = m.top.func; stmt = 0 }) [] shapes []) → length room.items ≡ length shapes → side.asks ≡ true → SlotsHere side shapes → (shapes ≡ [] → ⊥)
        → Steps a side (held_of program m) memory (came_with e) (held_of program (fronted (front.WaitsParams room))) memory
    unfolding held_of here_of
    params_asked [] room e told as_many asks is some = absurd (some refl)
    params_asked (s ∷ shapes) room e told as_many asks is some =
        subst (λ x. Steps a side (held_of program m) memory x (held_of program (fronted (front.WaitsParams room))) memory) (sym told)
        (subst (λ k. Steps a side (held_of program m) memory (Asks (asked_for 13 (record { func = m.top.func; stmt = 0 }) [] (s ∷ shapes) [])) (holds (WaitsParams k) (here_in program m) locals_here behind_here (held_of program m).items) memory) (sym as_many) (begun (s ∷ shapes) true is asks))

    pub params_born : (shapes : List Shape64) (pointers : List Value) (memory' : M) → wires_of pointers ≡ (a.birth memory shapes).pointers → memory' ≡ (a.birth memory shapes).memory → side.asks ≡ false → SlotsHere side shapes
        → (shapes ≡ [] → ⊥) → Steps a side (held_of program m) memory Goes (held_of program (fronted (front.Fills pointers))) memory'
    unfolding held_of here_of
    params_born [] pointers memory' named left asks is some = absurd (some refl)
    params_born (s ∷ shapes) pointers memory' named left asks is some =
        subst (λ x. Steps a side (held_of program m) memory Goes (held_of program (fronted (front.Fills pointers))) x) (sym left)
        (subst (λ ps. Steps a side (held_of program m) memory Goes (holds (Fills (object_params 0 (slots_by (slice_get program.funcs m.top.func))) ps) (here_in program m) locals_here behind_here (held_of program m).items) (a.birth memory (s ∷ shapes)).memory) (sym named)
        (begun (s ∷ shapes) false is asks))

    pub none_born : (pointers : List Value) → pointers ≡ [] → SlotsHere side [] → Steps a side (held_of program m) memory Goes (held_of program (fronted (front.Fills pointers))) memory
    unfolding held_of here_of
    none_born pointers none is =
        subst (λ (ps : List Value). Steps a side (held_of program m) memory Goes (held_of program (fronted (front.Fills ps))) memory) (sym none) (begun [] side.asks is refl)

-- ---- and given their values

module _ {M : Type 0} (a : Accesses M) where
  module _ (memory memory' : M) (slots born : List Value) (i : ℕ) (p value : Value) (r : Result (Unit {0}) StopKind) (is : wire_of value ≡ slot_of (wires_of slots) i)
      (made : (l : Locals) → stored a (wire_of p) (wire_of value) l memory ≡ did (when_made r l) memory') where
    pub filled_one : (slots' born' : List Value) (u : Unit {0}) → r ≡ Ok u → slots' ≡ slice_set slots i p → born' ≡ born ++ p ∷ []
        → stored a (wire_of p) (slot_of (wires_of slots) i) (with_object i (wire_of p) (with_slots slots (wires_of born))) memory ≡ did (Ok (with_slots slots' (wires_of born'))) memory'
    filled_one slots' born' u ok set more =
        let here : ◌≡◌ {A = Locals} (with_object i (wire_of p) (with_slots slots (wires_of born))) (with_slots slots' (wires_of born')) =
        ap (λ ws. record { slots = ws; born = wires_of born ++ wire_of p ∷ [] }) (sym (wires_set slots i p) ∙ ap wires_of (sym set))
        ∙ ap (λ ws. with_slots slots' ws) (sym (wires_more born born' p (wire_of p) more refl)) in
        ap (λ v. stored a (wire_of p) v (with_object i (wire_of p) (with_slots slots (wires_of born))) memory) (sym is)
        ∙ made (with_object i (wire_of p) (with_slots slots (wires_of born))) ∙ ap (λ x. did (when_made x (with_object i (wire_of p) (with_slots slots (wires_of born)))) memory') ok
        ∙ ap (λ l. did (Ok l) memory') here

    pub fill_stopped : (kind : StopKind) → r ≡ Err kind
        → stored a (wire_of p) (slot_of (wires_of slots) i) (with_object i (wire_of p) (with_slots slots (wires_of born))) memory ≡ did (Err kind) memory'
    fill_stopped kind err =
        ap (λ v. stored a (wire_of p) v (with_object i (wire_of p) (with_slots slots (wires_of born))) memory) (sym is)
        ∙ made (with_object i (wire_of p) (with_slots slots (wires_of born))) ∙ ap (λ x. did (when_made x (with_object i (wire_of p) (with_slots slots (wires_of born)))) memory') err

  dropped : (xs : List Value) (i : ℕ) (x : Value) → slice_get xs i ≡ Some x → drop i xs ≡ x ∷ drop (suc i) xs
  dropped [] i x h = absurd (cc h)
  dropped (y ∷ xs) zero x h = cc h
  dropped (y ∷ xs) (suc i) x h = dropped xs i x h

  none_dropped : (xs : List Value) (i : ℕ) → slice_get xs i ≡ None → drop i xs ≡ []
  none_dropped [] zero h = refl
  none_dropped [] (suc i) h = refl
  none_dropped (y ∷ xs) zero h = absurd (cc h)
  none_dropped (y ∷ xs) (suc i) h = none_dropped xs i h

  none_filled : (is : List ℕ) (l : Locals) (memory : M) → fills_of a is [] l memory ≡ did (Ok l) memory
  unfolding fills_of
  none_filled [] l memory = refl
  none_filled (i ∷ is) l memory = refl

  module _ (params : List ℕ) (pointers : List Value) (i : ℕ) (l : Locals) (memory : M) where
    abbrev rest_fills : ℕ → Locals → M → Did Locals M
    rest_fills j k m = fills_of a (drop j params) (wires_of (drop j pointers)) k m

    fill_more : (n d : ℕ) (p : Value) → i < length params → n ≡ get_or params i d → slice_get pointers i ≡ Some p
        → rest_fills i l memory ≡ after_did (stored a (wire_of p) (slot_of l.slots n) (with_object n (wire_of p) l) memory) (rest_fills (i + 1))
    unfolding fills_of
    fill_more n d p inside is found =
        let one : suc i ≡ i + 1 = omega arith in
        at_drop_more (λ ys. fills_of a ys (wires_of (drop i pointers)) l memory) params i d inside
        ∙ ap (λ ys. fills_of a (get_or params i d ∷ drop (i + 1) params) (wires_of ys) l memory) (dropped pointers i p found ∙ ap (λ j. p ∷ drop j pointers) one)
        ∙ ap (λ k. after_did (stored a (wire_of p) (slot_of l.slots k) (with_object k (wire_of p) l) memory) (rest_fills (i + 1))) (sym is)

    pub fill_goes : (n d : ℕ) (p : Value) (r : Result (Unit {0}) StopKind) (u : Unit {0}) (l' : Locals) (memory' : M) (whole : Did Locals M) → i < length params → n ≡ get_or params i d → slice_get pointers i ≡ Some p
        → stored a (wire_of p) (slot_of l.slots n) (with_object n (wire_of p) l) memory ≡ did (when_made r l') memory' → r ≡ Ok u → rest_fills i l memory ≡ whole → rest_fills (i + 1) l' memory' ≡ whole
    fill_goes n d p r u l' memory' whole inside is found made ok so_far =
        sym (fill_more n d p inside is found ∙ ap (λ x. after_did x (rest_fills (i + 1))) (made ∙ ap (λ x. did (when_made x l') memory') ok)) ∙ so_far

    pub fill_ends_here : (n d : ℕ) (p : Value) (r : Result (Unit {0}) StopKind) (kind : StopKind) (l' : Locals) (memory' : M) (whole : Did Locals M) → i < length params → n ≡ get_or params i d → slice_get pointers i ≡ Some p
        → stored a (wire_of p) (slot_of l.slots n) (with_object n (wire_of p) l) memory ≡ did (when_made r l') memory' → r ≡ Err kind → rest_fills i l memory ≡ whole → whole ≡ did (Err kind) memory'
    fill_ends_here n d p r kind l' memory' whole inside is found made err so_far =
        sym so_far ∙ fill_more n d p inside is found ∙ ap (λ x. after_did x (rest_fills (i + 1))) (made ∙ ap (λ x. did (when_made x l') memory') err)

    pub no_pointer : (whole : Did Locals M) → slice_get pointers i ≡ None → rest_fills i l memory ≡ whole → whole ≡ did (Ok l) memory
    no_pointer whole none so_far = sym so_far ∙ ap (λ (ps : List Value). fills_of a (drop i params) (wires_of ps) l memory) (none_dropped pointers i none) ∙ none_filled (drop i params) l memory

    pub all_params_filled : (whole : Did Locals M) → length params ≤ i → rest_fills i l memory ≡ whole → whole ≡ did (Ok l) memory
    unfolding fills_of
    all_params_filled whole past so_far = sym so_far ∙ at_drop_all (λ ys. fills_of a ys (wires_of (drop i pointers)) l memory) params i past

-- in the machine
module _ {M : Type 0} (a : Accesses M) (program : Program) (m : Machine) (memory memory' : M) (pointers : List Value) (params : List ℕ) (ps : List Param) (slots born : List Value) (r : Result (Unit {0}) StopKind)
    (numbers : params ≡ object_params 0 (map slot_of_param ps)) (same : ps ≡ params_by (slice_get program.funcs m.top.func))
    (done : fills_of a params (wires_of pointers) (with_slots m.top.slots (wires_of m.top.born)) memory ≡ did (when_made r (with_slots slots (wires_of born))) memory') (side : Side) where
  fills_law : (x : Result (Unit {0}) StopKind) → r ≡ x → Steps a side (filling program m pointers) memory (came_by (in_here (here_in program m) 0) (when_made x (with_slots slots (wires_of born))))
      (filled_after (here_in program m) (behind (block_of program m.top) m.top.next) (held_of program m).items (when_made x (with_slots slots (wires_of born)))) memory'
  unfolding held_of
  fills_law x is =
      let these : params ≡ object_params 0 (slots_by (slice_get program.funcs m.top.func)) = numbers ∙ ap (numbers_in 0) same ∙ numbers_by (slice_get program.funcs m.top.func) in
      let whole : fills_of a (object_params 0 (slots_by (slice_get program.funcs m.top.func))) (wires_of pointers) (with_slots m.top.slots (wires_of m.top.born)) memory ≡ did (when_made x (with_slots slots (wires_of born))) memory' =
      ap (λ is. fills_of a is (wires_of pointers) (with_slots m.top.slots (wires_of m.top.born)) memory) (sym these) ∙ done ∙ ap (λ y. did (when_made y (with_slots slots (wires_of born))) memory') is in
      subst (λ d. Steps a side (filling program m pointers) memory (came_by (in_here (here_in program m) 0) d.result) (filled_after (here_in program m) (behind (block_of program m.top) m.top.next) (held_of program m).items d.result) d.memory) whole
      ((work_goes_on a side (here_in program m) (with_slots m.top.slots (wires_of m.top.born)) (behind (block_of program m.top) m.top.next) (held_of program m).items memory).fills (object_params 0 (slots_by (slice_get program.funcs m.top.func))) (wires_of pointers))

  pub params_filled : (u : Unit {0}) → r ≡ Ok u → Steps a side (filling program m pointers) memory Goes
      (held_of program (record { side = m.side; front = front.Runs; top = record { func = m.top.func; depth = m.top.depth; path = m.top.path; next = m.top.next; slots = slots; born = born }; below = m.below; used = m.used })) memory'
  unfolding held_of
  params_filled u ok = fills_law (Ok u) ok

  pub params_stopped : (kind : StopKind) (e : Outcome) (held : Held) → e ≡ outcome.Stop kind (record { func = m.top.func; stmt = 0 }) → r ≡ Err kind → Steps a side (filling program m pointers) memory (came_with e) held memory'
  unfolding here_of
  params_stopped kind e held told err =
      subst (λ x. Steps a side (filling program m pointers) memory (came_with x) held memory') (sym told) (record { by = λ f n t less. (fills_law (Err kind) err).by f n t less; leaves = λ r. tt })
