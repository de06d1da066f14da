-- What code passes on is current, statement by statement.
use Rattle.std.proofs.Common.{◌≡◌, ℕ, zero, suc, ◌+◌, ◌<◌, Bool, true, false, not, ◌&&◌, ◌||◌, ◌==◌, List, [], ◌∷◌, ◌++◌, inl, inr, Option, Some, None, Result, Ok, Err, length, map, refl, sym, ◌∙◌, ap, subst, arith, append-nil, append_assoc}
use Rattle.std.specs.Prelude.{nat_lt, slice_get, slice_set, unwrap_or}
use Rattle.std.proofs.lemmas.Bool.{and_parts, both_ways, eq-eqb, eqb-true}
use Rattle.mdr_core.specs.declared.code.Stmt.{Stmt}
use Rattle.mdr_core.specs.declared.kind.Kind.{Kind}
use Rattle.mdr_core.specs.declared.place.At.{At}
use Rattle.mdr_core.specs.declared.program.Func.{Func}
use Rattle.mdr_core.specs.declared.program.Param.{Param}
use Rattle.mdr_core.specs.declared.program.Program.{Program}
use Rattle.mdr_core.specs.declared.stop.StopKind.{StopKind}
use Rattle.mdr_core.specs.declared.types.Ty.{Ty}
use Rattle.mdr_core.specs.declared.types.Ty.TheVariants as type
use Rattle.mdr_core.specs.declared.types.Ty.TheVariants.{Void}
use Rattle.mdr_core.specs.Code.{Term, Lvalue, Called, CallOf, Goal, Way, Code, Codes}
use Rattle.mdr_core.specs.Layout.{chosen, zero_value}
use Rattle.mdr_core.specs.Services.{Service, Kzalloc, Kcalloc, Kfree, Readl, Writel, Printk, RequestIrq, FreeIrq, Deliver, Combolock, Combounlock, Bug, Enter, Leave, Signature, offered, service_numbered}
use Rattle.mdr_core.specs.Sound.{HasTypedBody, IsSound, IsSoundFunc}
use Rattle.mdr_core.specs.Typing.{AreTyped, CallGives, Designates, GoesTo, IsTyped, One, Returns as ReturnsRight, Slot, gives_by}
use Rattle.mdr_meaning.specs.declared.shape.Shape64.{Shape64}
use Rattle.mdr_meaning.specs.declared.wire.Wire.{Wire}
use Rattle.mdr_meaning.specs.declared.wire.Wire.TheVariants as wire
use Rattle.mdr_meaning.specs.Asking.{allocated, asks as asks_for, counted, serves, serves_by}
use Rattle.mdr_meaning.specs.Bodies.{body_by, body_from, body_of, known_of, means, started}
use Rattle.mdr_meaning.specs.Calls.{call, call_by, deep, direct, enters, function_of, goes_to, keep, put, through}
use Rattle.mdr_meaning.specs.Expressions.{given, place, slot_of}
use Rattle.mdr_meaning.specs.FairTrees.{IsSideOf}
use Rattle.mdr_meaning.specs.Lives.{after_deaths, asked_for, births, births_by, closes, deaths, deaths_by, ends, fills, in_block, object_params, param_shapes, returned, shape_of, with_object}
use Rattle.mdr_meaning.specs.Named.{named_type}
use Rattle.mdr_meaning.specs.Numbers.{Numbered}
use Rattle.mdr_meaning.specs.Printed.{print_text}
use Rattle.mdr_meaning.specs.Sides.{Body, Side, Here, Locals, Flow, Ends, Breaks, Continues, Returns, Next, Go, Means, flow_of, framed, in_here}
use Rattle.mdr_meaning.specs.Statements.{around, characters, declared, declared_by, leaves, on_ends, returns, stmt, stmts, texts, turn}
use Rattle.mdr_meaning.specs.Tree.{Tree}
use Rattle.mdr_meaning.specs.Values.{first_of, is_true, rest_of, wire_of}
use Rattle.mdr_kept.specs.Current.{AreCurrent, AsksCurrent, Behind, Current, IsCurrent, KnowsLives, Lives, ScopedTreesAreCurrent, without}
use Rattle.mdr_kept.specs.Scopes.{BodyScoped, CalleeScoped, CodeScoped, CodesScoped, GoalScoped, IsScoped, LvalueScoped, OptionScoped, TermsScoped, behind, is_object, is_there}
use Rattle.mdr_kept.proofs.LivingLaws.{AreKept, AreObjects, IsAmong, IsFrame, all_current, all_kept, among_right, born_frame, current_after, current_same, fewer_kept, fewer_named, kept_frame, kept_then, living_left, living_right, none_before, one_more, same_rest, set_keeps, set_other, set_same, size_set, slot_apart, still_lives}
use Rattle.mdr_kept.proofs.ValueLaws.{first_current, given_current, place_current, received_current, rest_current, value_current, values_current}

-- ---- parameters that are objects

one_of : {X : Type 0} (ps : List Wire) → length ps ≡ 1 → ((p : Wire) → ps ≡ p ∷ [] → X) → X
one_of [] e go = absurd (omega (arith, e))
one_of (p ∷ []) e go = go p refl
one_of (p ∷ q ∷ ps) e go = absurd (omega (arith, e))

as_many : (known : Numbered) (i : ℕ) (ss : List Slot) → length (object_params i ss) ≡ length (param_shapes known ss)
as_many known i [] = refl
as_many known i (s ∷ ss) = of (s.object && not s.is_local) (as_many known (suc i) ss)
  where
    of : (b : Bool) → length (object_params (suc i) ss) ≡ length (param_shapes known ss) → length (chosen b (i ∷ object_params (suc i) ss) (object_params (suc i) ss)) ≡ length (chosen b (shape_of known s ∷ param_shapes known ss) (param_shapes known ss))
    of true e = ap suc e
    of false e = e

-- the slot behind so many others
record IsParam (k : ℕ) (ss : List Slot) (i : ℕ) : Type 0 where
  place : ℕ
  is : i ≡ k + place
  object : is_object (slice_get ss place) ≡ true
  inside : place < length ss

param_of : (k : ℕ) (s : Slot) (ss : List Slot) (i : ℕ) → (is_there (object_params (suc k) ss) i ≡ true → IsParam (suc k) ss i) → is_there (object_params k (s ∷ ss)) i ≡ true → IsParam k (s ∷ ss) i
param_of k s ss i rest h = of (s.object && not s.is_local) refl h
  where
    later : is_there (object_params (suc k) ss) i ≡ true → IsParam k (s ∷ ss) i
    later e =
        let found : IsParam (suc k) ss i = rest e in
        record { place = suc found.place; is = omega (arith, found.is); object = found.object; inside = omega (arith, found.inside) }

    first : (b : Bool) → (k == i) ≡ b → s.object ≡ true → (b || is_there (object_params (suc k) ss) i) ≡ true → IsParam k (s ∷ ss) i
    first true e object there = record { place = 0; is = let same : k ≡ i = eqb-true k i e in omega (arith, same); object = object; inside = omega arith }
    first false e object there = later there

    of : (b : Bool) → (s.object && not s.is_local) ≡ b → is_there (chosen b (k ∷ object_params (suc k) ss) (object_params (suc k) ss)) i ≡ true → IsParam k (s ∷ ss) i
    of true e there = first (k == i) refl (and_parts s.object (not s.is_local) e).0 there
    of false e there = later there

param_is : (k : ℕ) (ss : List Slot) (i : ℕ) → is_there (object_params k ss) i ≡ true → IsParam k ss i
param_is k [] i h = absurd (both_ways false refl h)
param_is k (s ∷ ss) i h = param_of k s ss i (param_is (suc k) ss i) h

at_place : (i p : ℕ) → i ≡ 0 + p → p ≡ i
at_place i p e = omega (arith, e)

params_are_objects : (slots : List Slot) → AreObjects slots (object_params 0 slots)
params_are_objects slots = record {
  each = λ i there.
      let found : IsParam 0 slots i = param_is 0 slots i there in
      subst (λ j. is_object (slice_get slots j) ≡ true) (at_place i found.place found.is) found.object;
}

params_inside : (slots : List Slot) (i : ℕ) → is_there (object_params 0 slots) i ≡ true → i < length slots
params_inside slots i there = let found : IsParam 0 slots i = param_is 0 slots i there in omega (arith, found.is, found.inside)

framed_size : (slots : List Slot) (vs : List Wire) → length (framed slots vs) ≡ length slots
framed_size [] vs = refl
framed_size (s ∷ slots) [] = ap suc (framed_size slots [])
framed_size (s ∷ slots) (v ∷ vs) = ap suc (framed_size slots vs)

-- the locals when the parameters that are objects have their objects
filled : List ℕ → List Wire → Locals → Locals
filled (i ∷ is) (p ∷ ps) l = filled is ps (with_object i p l)
filled [] ps l = l
filled (i ∷ is) [] l = l

filled_born : (is : List ℕ) (ps : List Wire) (l : Locals) → length is ≡ length ps → (filled is ps l).born ≡ l.born ++ ps
unfolding filled
filled_born [] [] l e = sym (append-nil l.born)
filled_born [] (p ∷ ps) l e = absurd (omega (arith, e))
filled_born (i ∷ is) [] l e = absurd (omega (arith, e))
filled_born (i ∷ is) (p ∷ ps) l e = filled_born is ps (with_object i p l) (omega (arith, e)) ∙ append_assoc l.born (p ∷ []) ps

filled_size : (is : List ℕ) (ps : List Wire) (l : Locals) → length (filled is ps l).slots ≡ length l.slots
unfolding filled
filled_size [] ps l = refl
filled_size (i ∷ is) [] l = refl
filled_size (i ∷ is) (p ∷ ps) l = filled_size is ps (with_object i p l) ∙ size_set l.slots i p

-- slots of others stay
filled_other : (is : List ℕ) (ps : List Wire) (l : Locals) (j : ℕ) → is_there is j ≡ false → slot_of (filled is ps l).slots j ≡ slot_of l.slots j
unfolding filled
filled_other [] ps l j out = refl
filled_other (i ∷ is) [] l j out = refl
filled_other (i ∷ is) (p ∷ ps) l j out = of (filled_other is ps (with_object i p l) j) (i == j) refl (is_there is j) refl out
  where
    of : (is_there is j ≡ false → slot_of (filled is ps (with_object i p l)).slots j ≡ slot_of (with_object i p l).slots j) → (a : Bool) → (i == j) ≡ a → (b : Bool) → is_there is j ≡ b → (a || b) ≡ false
        → slot_of (filled is ps (with_object i p l)).slots j ≡ slot_of l.slots j
    of rest true e b f h = absurd (both_ways true h refl)
    of rest false e true f h = absurd (both_ways true h refl)
    of rest false e false f h = rest f ∙ set_other l.slots i j p (λ x. both_ways (i == j) e (eq-eqb i j x))

filled_named : (is : List ℕ) (ps : List Wire) (l : Locals) → length is ≡ length ps → ((i : ℕ) → is_there is i ≡ true → i < length l.slots) → (j : ℕ) → is_there is j ≡ true → IsAmong ps (slot_of (filled is ps l).slots j)
unfolding filled
filled_named [] ps l e low j there = absurd (both_ways false refl there)
filled_named (i ∷ is) [] l e low j there = absurd (omega (arith, e))
filled_named (i ∷ is) (p ∷ ps) l e low j there = of (filled_named is ps (with_object i p l) (omega (arith, e)) still_low j) (is_there is j) refl (i == j) refl there
  where
    either : (a b : Bool) → b ≡ true → (a || b) ≡ true
    either true b h = refl
    either false b h = h

    left : (a b : Bool) → a ≡ true → (a || b) ≡ true
    left true b h = refl
    left false b h = absurd (both_ways false refl h)

    still_low : (k : ℕ) → is_there is k ≡ true → k < length (slice_set l.slots i p)
    still_low k there' = let less : k < length l.slots = low k (either (i == k) (is_there is k) there') in subst (λ n. k < n) (sym (size_set l.slots i p)) less

    of : (is_there is j ≡ true → IsAmong ps (slot_of (filled is ps (with_object i p l)).slots j)) → (b : Bool) → is_there is j ≡ b → (a : Bool) → (i == j) ≡ a → (a || b) ≡ true
        → IsAmong (p ∷ ps) (slot_of (filled is ps (with_object i p l)).slots j)
    of rest true f a g h = inr (rest f)
    of rest false f true g h =
        let same : i ≡ j = eqb-true i j g in
        let less : i < length l.slots = low i (left (i == i) (is_there is i) (eq-eqb i i refl)) in
        inl (filled_other is ps (with_object i p l) j f ∙ ap (slot_of (slice_set l.slots i p)) (sym same) ∙ set_same l.slots i p less)
    of rest false f false g h = absurd (both_ways false refl h)

-- ---- behind a statement

kept_behind : (slots : List Slot) (objects : List ℕ) (code : Code) (s s' : List Wire) → AreKept (behind slots objects code) s s' → AreKept objects s s'
kept_behind slots objects (Code.Declare n i) s s' h = of (is_object (slice_get slots i)) h
  where
    of : (b : Bool) → AreKept (chosen b (i ∷ objects) objects) s s' → AreKept objects s s'
    of true e = fewer_kept objects i s s' e
    of false e = e
kept_behind slots objects (Code.Text n i bytes) s s' h = h
kept_behind slots objects (Code.Assign n p e) s s' h = h
kept_behind slots objects (Code.Call n goal form) s s' h = h
kept_behind slots objects (Code.If n e one other) s s' h = h
kept_behind slots objects (Code.Loop n e step body) s s' h = h
kept_behind slots objects (Code.Block body) s s' h = h
kept_behind slots objects (Code.Return n e) s s' h = h
kept_behind slots objects (Code.Jump n way) s s' h = h

frame_behind : (slots : List Slot) (objects : List ℕ) (code : Code) (live s : List Wire) → IsFrame slots (behind slots objects code) live s → IsFrame slots objects live s
frame_behind slots objects (Code.Declare n i) live s h = of (is_object (slice_get slots i)) h
  where
    of : (b : Bool) → IsFrame slots (chosen b (i ∷ objects) objects) live s → IsFrame slots objects live s
    of true e = fewer_named slots objects i live s e
    of false e = e
frame_behind slots objects (Code.Text n i bytes) live s h = h
frame_behind slots objects (Code.Assign n p e) live s h = h
frame_behind slots objects (Code.Call n goal form) live s h = h
frame_behind slots objects (Code.If n e one other) live s h = h
frame_behind slots objects (Code.Loop n e step body) live s h = h
frame_behind slots objects (Code.Block body) live s h = h
frame_behind slots objects (Code.Return n e) live s h = h
frame_behind slots objects (Code.Jump n way) live s h = h

objects_behind : (slots : List Slot) (objects : List ℕ) (code : Code) → AreObjects slots objects → AreObjects slots (behind slots objects code)
objects_behind slots objects (Code.Declare n i) h = of (is_object (slice_get slots i)) refl
  where
    of : (b : Bool) → is_object (slice_get slots i) ≡ b → AreObjects slots (chosen b (i ∷ objects) objects)
    of true e = one_more slots objects i e h
    of false e = h
objects_behind slots objects (Code.Text n i bytes) h = h
objects_behind slots objects (Code.Assign n p e) h = h
objects_behind slots objects (Code.Call n goal form) h = h
objects_behind slots objects (Code.If n e one other) h = h
objects_behind slots objects (Code.Loop n e step body) h = h
objects_behind slots objects (Code.Block body) h = h
objects_behind slots objects (Code.Return n e) h = h
objects_behind slots objects (Code.Jump n way) h = h

-- ---- bodies

some_is : (a b : Body) → ◌≡◌ {A = Option Body} (Some a) (Some b) → a ≡ b
some_is a b e = cc

body_typed : (program : Program) (func : Func) (o : Option (List Stmt)) → HasTypedBody program func o → (body : Body) → body_by func o ≡ Some body → AreTyped program body.slots body.result false body.code
body_typed program func None h body e = absurd cc
body_typed program func (Some b) h body e = subst (λ (x : Body). AreTyped program x.slots x.result false x.code) (some_is _ body e) h

from_typed : (program : Program) (o : Option Func) → ((func : Func) → o ≡ Some func → IsSoundFunc program func) → (body : Body) → body_from o ≡ Some body → AreTyped program body.slots body.result false body.code
from_typed program None h body e = absurd cc
from_typed program (Some func) h body e = body_typed program func func.body (h func refl).body body e

typed_body : (program : Program) → IsSound program → (f : ℕ) (body : Body) → body_of program f ≡ Some body → AreTyped program body.slots body.result false body.code
unfolding body_of
typed_body program sound f body e = from_typed program (slice_get program.funcs f) (λ func names. sound.funcs f func names) body e

module _ (program : Program) (sound : IsSound program) (scoped : IsScoped program) (own : ℕ → Option Body) (asked : Bool) (bodies : (f : ℕ) (body : Body) → own f ≡ Some body → body_of program f ≡ Some body) where
  abbrev side : Side
  side = record { known = known_of program; own = own; asks = asked }

  abbrev count : ℕ
  count = length program.globals

  abbrev C : Lives → List Wire → Tree → Type 0
  C lives live t = Current count lives live t

  abbrev Knows : Lives → List Wire → Type 0
  Knows lives live = KnowsLives count lives live

  -- what goes on with a current value, whatever died meanwhile
  record Soon (live : List Wire) (k : Wire → Tree) : Type 0 where
    by : (lives : Lives) (v : Wire) → Knows lives live → IsCurrent lives v → C lives live (k v)

  -- ---- births and deaths

  born_current : (here : Here) (shapes : List Shape64) (k : List Wire → Tree) (lives : Lives) (live : List Wire) → Knows lives live
      → ((lives' : Lives) (ps : List Wire) → length ps ≡ length shapes → Knows lives' (live ++ ps) → C lives' (live ++ ps) (k ps)) → C lives live (births side here shapes k)
  born_current here [] k lives live knows each = subst (λ vs. C lives vs (k [])) (append-nil live) (each lives [] refl (subst (λ vs. Knows lives vs) (sym (append-nil live)) knows))
  born_current here (s ∷ shapes) k lives live knows each = of asked
    where
      of : (b : Bool) → C lives live (births_by b (in_here here 0) (s ∷ shapes) k)
      of true = each
      of false = each

  -- when the newest objects have died
  died_current : (here : Here) (ps : List Wire) (t : Tree) (lives : Lives) (live base : List Wire) → Knows lives live → live ≡ base ++ ps
      → ((lives' : Lives) → Knows lives' base → ((v : Wire) → IsCurrent lives v → IsCurrent lives' (after_deaths ps v)) → C lives' base t) → C lives live (deaths side here ps t)
  died_current here [] t lives live base knows is each =
      let same : live ≡ base = is ∙ append-nil base in
      subst (λ vs. C lives vs t) (sym same) (each lives (subst (λ vs. Knows lives vs) same knows) (λ v h. current_same lives v h))
  died_current here (p ∷ ps) t lives live base knows is each = of asked
    where
      together : Knows lives (base ++ p ∷ ps)
      together = subst (λ vs. Knows lives vs) is knows

      left : Knows (without (p ∷ ps) lives) base
      left = record {
        globals = λ g less. still_lives (lives g) _ (together.globals g less) (none_before g base (p ∷ ps) (together.apart g less)).1;
        living = living_left lives base (p ∷ ps) together.living;
        apart = λ g less. (none_before g base (p ∷ ps) (together.apart g less)).0;
      }

      rest : (remains : List Wire) → live ≡ remains ++ p ∷ ps → C (without (p ∷ ps) lives) remains t
      rest remains e =
          let same : base ≡ remains = same_rest base remains (p ∷ ps) (sym is ∙ e) in
          subst (λ vs. C (without (p ∷ ps) lives) vs t) same (each (without (p ∷ ps) lives) left (λ v h. current_after lives (p ∷ ps) v h))

      of : (b : Bool) → C lives live (deaths_by b (in_here here 0) (p ∷ ps) t)
      of true = (all_current lives (p ∷ ps) (living_right lives base (p ∷ ps) together.living), λ remains e rs. rest remains e)
      of false = (all_current lives (p ∷ ps) (living_right lives base (p ∷ ps) together.living), rest)

  -- ---- what follows a statement

  abbrev FlowCurrent : Lives → Flow → Type 0
  FlowCurrent lives (Returns v) = IsCurrent lives v
  FlowCurrent lives _ = Unit {0}

  -- the objects that are named behind it, by how it ends
  abbrev FrameAt : List Slot → (objects later : List ℕ) → List Wire → Flow → List Wire → Type 0
  FrameAt slots objects later live Ends s = IsFrame slots later live s
  FrameAt slots objects later live Breaks s = IsFrame slots objects live s
  FrameAt slots objects later live Continues s = IsFrame slots objects live s
  FrameAt slots objects later live (Returns v) s = Unit {0}

  record AreNext (slots : List Slot) (base : List Wire) (objects later : List ℕ) (s : List Wire) (k : Next) : Type 0 where
    by : (lives : Lives) (live : List Wire) (flow : Flow) (l : Locals) → Knows lives live → live ≡ base ++ l.born → FlowCurrent lives flow → AreKept objects s l.slots → FrameAt slots objects later live flow l.slots → C lives live (k flow l)

  record GoCurrent (slots : List Slot) (objects later : List ℕ) (go : Go) : Type 0 where
    by : (lives : Lives) (live base : List Wire) (l : Locals) (k : Next) → Knows lives live → live ≡ base ++ l.born → IsFrame slots objects live l.slots → AreNext slots base objects later l.slots k → C lives live (go l k)

  -- the meaning of code that comes later
  record IsLater (low : Means) : Type 0 where
    by : (in_loop : Bool) (here : Here) (objects : List ℕ) (cs : Codes) → AreObjects here.slots objects → AreTyped program here.slots here.result in_loop cs → CodesScoped here.slots objects cs → GoCurrent here.slots objects objects (low here cs)

  picked : (b : Bool) {slots : List Slot} {objects later : List ℕ} (f g : Go) → GoCurrent slots objects later f → GoCurrent slots objects later g → GoCurrent slots objects later (chosen b f g)
  picked true f g a b = a
  picked false f g a b = b

  leaves_current : (slots : List Slot) (objects : List ℕ) → GoCurrent slots objects objects leaves
  leaves_current slots objects = record { by = λ lives live base l k knows is frame next. next.by lives live Ends l knows is tt (all_kept objects l.slots) frame }

  -- ---- blocks

  ends_current : (here : Here) (objects : List ℕ) (base live0 : List Wire) (l : Locals) (k : Next) → live0 ≡ base ++ l.born → IsFrame here.slots objects live0 l.slots → AreNext here.slots base objects objects l.slots k
      → AreNext here.slots (base ++ l.born) objects objects l.slots (ends side here l.born k)
  ends_current here objects base live0 l k is0 frame0 next = record { by = at }
    where
      around_it : IsFrame here.slots objects (base ++ l.born) l.slots
      around_it = subst (λ vs. IsFrame here.slots objects vs l.slots) is0 frame0

      dies : (lives : Lives) (live : List Wire) (flow : Flow) (m : Locals) → Knows lives live → live ≡ (base ++ l.born) ++ m.born → ((lives' : Lives) → FlowCurrent lives' flow) → AreKept objects l.slots m.slots → length m.slots ≡ length here.slots
          → (IsFrame here.slots objects (base ++ l.born) m.slots → FrameAt here.slots objects objects (base ++ l.born) flow m.slots)
          → C lives live (deaths side here m.born (k flow (record { slots = m.slots; born = l.born })))
      dies lives live flow m knows is c keep size at_flow =
          died_current here m.born _ lives live (base ++ l.born) knows is
          (λ lives' knows' cur. next.by lives' (base ++ l.born) flow (record { slots = m.slots; born = l.born }) knows' refl (c lives') keep (at_flow (kept_frame here.slots objects (base ++ l.born) l.slots m.slots size keep around_it)))

      at : (lives : Lives) (live : List Wire) (flow : Flow) (m : Locals) → Knows lives live → live ≡ (base ++ l.born) ++ m.born → FlowCurrent lives flow → AreKept objects l.slots m.slots → FrameAt here.slots objects objects live flow m.slots
          → C lives live (ends side here l.born k flow m)
      at lives live Ends m knows is c keep frame = dies lives live Ends m knows is (λ lives'. tt) keep frame.size (λ f. f)
      at lives live Breaks m knows is c keep frame = dies lives live Breaks m knows is (λ lives'. tt) keep frame.size (λ f. f)
      at lives live Continues m knows is c keep frame = dies lives live Continues m knows is (λ lives'. tt) keep frame.size (λ f. f)
      at lives live (Returns v) m knows is c keep frame = next.by lives live (Returns v) (record { slots = m.slots; born = l.born ++ m.born }) knows (is ∙ append_assoc base l.born m.born) c keep tt

  block_current : (here : Here) (objects : List ℕ) (go : Go) → GoCurrent here.slots objects objects go → GoCurrent here.slots objects objects (in_block side here go)
  block_current here objects go h = record {
    by = λ lives live base l k knows is frame next.
        h.by lives live (base ++ l.born) (record { slots = l.slots; born = [] }) (ends side here l.born k) knows (is ∙ sym (append-nil (base ++ l.born))) frame
        (ends_current here objects base live l k is frame next);
  }

  -- ---- ways through statements

  next_behind : (slots : List Slot) (objects : List ℕ) (code : Code) (go : Go) (base s : List Wire) (k : Next) → GoCurrent slots (behind slots objects code) (behind slots objects code) go → AreNext slots base objects objects s k
      → AreNext slots base objects (behind slots objects code) s (on_ends go k)
  next_behind slots objects code go base s k h next = record { by = at }
    where
      passed : (l : Locals) → AreKept objects s l.slots → (flow : Flow) (lives : Lives) (live : List Wire) (m : Locals) → Knows lives live → live ≡ base ++ m.born → FlowCurrent lives flow → AreKept (behind slots objects code) l.slots m.slots
          → FrameAt slots (behind slots objects code) (behind slots objects code) live flow m.slots → FrameAt slots objects objects live flow m.slots → C lives live (k flow m)
      passed l keep flow lives live m knows is c kept frame fewer = next.by lives live flow m knows is c (kept_then objects s l.slots m.slots keep (kept_behind slots objects code l.slots m.slots kept)) fewer

      fewer_at : (flow : Flow) (live s' : List Wire) → FrameAt slots (behind slots objects code) (behind slots objects code) live flow s' → FrameAt slots objects objects live flow s'
      fewer_at Ends live s' f = frame_behind slots objects code live s' f
      fewer_at Breaks live s' f = frame_behind slots objects code live s' f
      fewer_at Continues live s' f = frame_behind slots objects code live s' f
      fewer_at (Returns v) live s' f = tt

      at : (lives : Lives) (live : List Wire) (flow : Flow) (l : Locals) → Knows lives live → live ≡ base ++ l.born → FlowCurrent lives flow → AreKept objects s l.slots → FrameAt slots objects (behind slots objects code) live flow l.slots → C lives live (on_ends go k flow l)
      at lives live Ends l knows is c keep frame =
          h.by lives live base l k knows is frame
          (record { by = λ lives' live' flow m knows' is' c' kept frame'. passed l keep flow lives' live' m knows' is' c' kept frame' (fewer_at flow live' m.slots frame') })
      at lives live Breaks l knows is c keep frame = next.by lives live Breaks l knows is c keep frame
      at lives live Continues l knows is c keep frame = next.by lives live Continues l knows is c keep frame
      at lives live (Returns v) l knows is c keep frame = next.by lives live (Returns v) l knows is c keep tt

  -- in the same scope
  next_same : (slots : List Slot) (objects : List ℕ) (go : Go) (base s : List Wire) (k : Next) → GoCurrent slots objects objects go → AreNext slots base objects objects s k → AreNext slots base objects objects s (on_ends go k)
  next_same slots objects go base s k h next = next_behind slots objects (Code.Jump 0 Way.Ends) go base s k h next

  moved_next : (slots : List Slot) (objects : List ℕ) (base s s' : List Wire) (k : Next) → AreKept objects s s' → AreNext slots base objects objects s k → AreNext slots base objects objects s' k
  moved_next slots objects base s s' k keep next = record { by = λ lives live flow l knows is c kept frame. next.by lives live flow l knows is c (kept_then objects s s' l.slots keep kept) frame }

  around_current : (slots : List Slot) (objects : List ℕ) (again step : Go) (base s : List Wire) (k : Next) → GoCurrent slots objects objects again → GoCurrent slots objects objects step → AreNext slots base objects objects s k → AreNext slots base objects objects s (around again step k)
  around_current slots objects again step base s k a b next = record { by = at }
    where
      steps_on : (lives : Lives) (live : List Wire) (l : Locals) → Knows lives live → live ≡ base ++ l.born → AreKept objects s l.slots → IsFrame slots objects live l.slots → C lives live (step l (on_ends again k))
      steps_on lives live l knows is keep frame = b.by lives live base l (on_ends again k) knows is frame (next_same slots objects again base l.slots k a (moved_next slots objects base s l.slots k keep next))

      at : (lives : Lives) (live : List Wire) (flow : Flow) (l : Locals) → Knows lives live → live ≡ base ++ l.born → FlowCurrent lives flow → AreKept objects s l.slots → FrameAt slots objects objects live flow l.slots → C lives live (around again step k flow l)
      at lives live Ends l knows is c keep frame = steps_on lives live l knows is keep frame
      at lives live Breaks l knows is c keep frame = next.by lives live Ends l knows is tt keep frame
      at lives live Continues l knows is c keep frame = steps_on lives live l knows is keep frame
      at lives live (Returns v) l knows is c keep frame = next.by lives live (Returns v) l knows is c keep tt

  -- ---- where a value goes

  module _ (slots : List Slot) (objects : List ℕ) (objs : AreObjects slots objects) (lives : Lives) (live base : List Wire) (l : Locals) (knows : Knows lives live) (is : live ≡ base ++ l.born) (frame : IsFrame slots objects live l.slots) where
    -- the statement ends
    over : (k : Next) → AreNext slots base objects objects l.slots k → C lives live (k Ends l)
    over k next = next.by lives live Ends l knows is tt (all_kept objects l.slots) frame

    found_stores : (at : At) (found : (Wire → Tree) → Tree) (v : Wire) (t : Tree) → ((k : Wire → Tree) → ((p : Wire) → IsCurrent lives p → C lives live (k p)) → C lives live (found k)) → C lives live t → C lives live (found (λ p. Tree.Store at p v t))
    found_stores at found v t each h = each (λ p. Tree.Store at p v t) (λ p c. h)

    put_current : (at : At) (p : Lvalue) (ty : Ty) → Designates program slots p (One ty) → LvalueScoped objects p → (v : Wire) (k : Next) → AreNext slots base objects objects l.slots k → C lives live (put (known_of program) at p v l (k Ends))
    put_current at (Lvalue.Slot i) ty d c v k next =
        let out : is_there objects i ≡ false = slot_apart slots objects i objs (ap is_object d.names ∙ d.kept) in
        let keep : AreKept objects l.slots (slice_set l.slots i v) = set_keeps objects l.slots i v out in
        next.by lives live Ends (record { slots = slice_set l.slots i v; born = l.born }) knows is tt keep (kept_frame slots objects live l.slots (slice_set l.slots i v) (size_set l.slots i v ∙ frame.size) keep frame)
    put_current at (Lvalue.Object i) ty d c v k next = found_stores at (place (known_of program) at l.slots (Lvalue.Object i)) v (k Ends l) (place_current program lives live knows slots objects l.slots frame at (Lvalue.Object i) (One ty) d c).by (over k next)
    put_current at (Lvalue.Global g) ty d c v k next = found_stores at (place (known_of program) at l.slots (Lvalue.Global g)) v (k Ends l) (place_current program lives live knows slots objects l.slots frame at (Lvalue.Global g) (One ty) d c).by (over k next)
    put_current at (Lvalue.Deref e) ty d c v k next = found_stores at (place (known_of program) at l.slots (Lvalue.Deref e)) v (k Ends l) (place_current program lives live knows slots objects l.slots frame at (Lvalue.Deref e) (One ty) d c).by (over k next)
    put_current at (Lvalue.Member p f) ty d c v k next = found_stores at (place (known_of program) at l.slots (Lvalue.Member p f)) v (k Ends l) (place_current program lives live knows slots objects l.slots frame at (Lvalue.Member p f) (One ty) d c).by (over k next)
    put_current at (Lvalue.Index p e) ty d c v k next = found_stores at (place (known_of program) at l.slots (Lvalue.Index p e)) v (k Ends l) (place_current program lives live knows slots objects l.slots frame at (Lvalue.Index p e) (One ty) d c).by (over k next)

  keep_current : (here : Here) (objects : List ℕ) → AreObjects here.slots objects → (at : At) (goal : Goal) (form : CallOf) → GoesTo program here.slots here.result goal form → GoalScoped objects goal
      → (live base : List Wire) (l : Locals) (k : Next) → live ≡ base ++ l.born → IsFrame here.slots objects live l.slots → AreNext here.slots base objects objects l.slots k → Soon live (λ v. keep (known_of program) here at goal v l k)
  keep_current here objects objs at Goal.Nowhere form d c live base l k is frame next = record { by = λ lives v knows h. over here.slots objects objs lives live base l knows is frame k next }
  keep_current here objects objs at (Goal.Into p) form d c live base l k is frame next = record {
    by = λ lives v knows h. (given_current program lives live knows at _ (received_current lives (known_of program) (named_type (known_of program).program here.slots p) v h)).by _
        (λ x cx. put_current here.slots objects objs lives live base l knows is frame at p d.type d.object c x k next);
  }
  keep_current here objects objs at Goal.Back form d c live base l k is frame next = record {
    by = λ lives v knows h. (given_current program lives live knows at _ (received_current lives (known_of program) (Some here.result) v h)).by _
        (λ x cx. next.by lives live (Returns x) l knows is cx (all_kept objects l.slots) tt);
  }

  -- ---- services

  module _ (lives : Lives) (live : List Wire) (knows : Knows lives live) (n : ℕ) (at : At) (k : Wire → Tree) (soon : Soon live k) where
    answers : Behind
    answers lives' own' rs = Current count lives' own' (k (first_of rs))

    asked_current : (args : List Wire) → AreCurrent lives args
        → AreCurrent lives args × ((lives' : Lives) (rs : List Wire) → Knows lives' live → AreCurrent lives' rs → C lives' live (k (first_of rs)))
    asked_current args h = (h, λ lives' rs knows' c. soon.by lives' (first_of rs) knows' (first_current lives' rs c))

    -- a service by its number
    numbered : (s : Service) (args : List Wire) (shapes : List Shape64) (bytes : List ℕ) → service_numbered n ≡ Some s → AsksCurrent count lives live (asked_for n at args shapes bytes) (Some s) (λ lives' own' rs. Current count lives' own' (k (first_of rs)))
        → C lives live (asks_for n at args shapes bytes k)
    numbered s args shapes bytes is h = subst (λ o. AsksCurrent count lives live (asked_for n at args shapes bytes) o (λ lives' own' rs. Current count lives' own' (k (first_of rs)))) (sym is) h

    serves_current : (form : CallOf) (signature : Signature) (s : Service) → service_numbered n ≡ Some s → offered s form.shape form.format ≡ Some signature → (vs : List Wire) → AreCurrent lives vs → C lives live (serves_by (known_of program) n at form vs (Some s) k)
    serves_current form signature Kzalloc is o vs h = numbered Kzalloc [] (allocated (known_of program) form.shape 1) [] is (asked_current [] tt)
    serves_current form signature Kcalloc is o vs h = numbered Kcalloc [] (allocated (known_of program) form.shape (counted (first_of vs))) [] is (asked_current [] tt)
    serves_current form signature Kfree is o vs h = numbered Kfree vs [] [] is (asked_current vs h)
    serves_current form signature Readl is o vs h = numbered Readl vs [] [] is (asked_current vs h)
    serves_current form signature Writel is o vs h = numbered Writel vs [] [] is (asked_current vs h)
    serves_current form signature Printk is o vs h = numbered Printk [] [] (print_text (unwrap_or form.format []) vs) is (asked_current [] tt)
    serves_current form signature RequestIrq is o vs h = numbered RequestIrq vs [] [] is (asked_current vs h)
    serves_current form signature FreeIrq is o vs h = numbered FreeIrq vs [] [] is (asked_current vs h)
    serves_current form signature Deliver is o vs h = λ bytes. numbered Deliver [] [] bytes is (asked_current [] tt)
    serves_current form signature Combolock is o vs h = numbered Combolock vs [] [] is (asked_current vs h)
    serves_current form signature Combounlock is o vs h = numbered Combounlock vs [] [] is (asked_current vs h)
    serves_current form signature Bug is o vs h = numbered Bug vs [] [] is (asked_current vs h)
    serves_current form signature Enter is o vs h = absurd cc
    serves_current form signature Leave is o vs h = absurd cc

  -- ---- calls

  returned_current : (lives : Lives) (flow : Flow) → FlowCurrent lives flow → IsCurrent lives (returned flow)
  returned_current lives Ends h = tt
  returned_current lives Breaks h = tt
  returned_current lives Continues h = tt
  returned_current lives (Returns v) h = h

  closes_current : (here : Here) (objects : List ℕ) (live s : List Wire) (k : Wire → Tree) → Soon live k → AreNext here.slots live objects objects s (closes side here k)
  closes_current here objects live s k soon = record {
    by = λ lives live' flow l knows is c keep frame.
        died_current here l.born (k (after_deaths l.born (returned flow))) lives live' live knows is
        (λ lives' knows' cur. soon.by lives' (after_deaths l.born (returned flow)) knows' (cur (returned flow) (returned_current lives flow c)));
  }

  fills_current : (at : At) (is : List ℕ) (ps : List Wire) (l : Locals) (go : Locals → Tree) (lives : Lives) (live : List Wire) → C lives live (go (filled is ps l)) → C lives live (fills at is ps l go)
  unfolding filled
  fills_current at [] ps l go lives live h = h
  fills_current at (i ∷ is) [] l go lives live h = h
  fills_current at (i ∷ is) (p ∷ ps) l go lives live h = fills_current at is ps (with_object i p l) go lives live h

  module _ (low : Means) (later : IsLater low) where
    enters_current : (here inner : Here) (body : Body) → inner.slots ≡ body.slots → inner.result ≡ body.result → AreTyped program body.slots body.result false body.code → BodyScoped body → (vs : List Wire) (k : Wire → Tree)
        → (lives : Lives) (live : List Wire) → Knows lives live → Soon live k → C lives live (enters side low here inner body vs k)
    enters_current here inner body slots_is result_is typed right vs k lives live knows soon =
        born_current inner (param_shapes (known_of program) body.slots) _ lives live knows at_birth
      where
        params : List ℕ
        params = object_params 0 body.slots

        begun : Locals
        begun = record { slots = framed body.slots vs; born = [] }

        at_birth : (lives' : Lives) (ps : List Wire) → length ps ≡ length (param_shapes (known_of program) body.slots) → Knows lives' (live ++ ps)
            → C lives' (live ++ ps) (fills (in_here inner 0) (object_params 0 body.slots) ps (record { slots = framed body.slots vs; born = [] }) (λ l. low inner body.code l (closes side inner k)))
        at_birth lives' ps many knows' =
            let same : length params ≡ length ps = as_many (known_of program) 0 body.slots ∙ sym many in
            let born : (filled params ps begun).born ≡ ps = filled_born params ps begun same in
            let low_slots = λ (i : ℕ) (there : is_there params i ≡ true). subst (λ n. i < n) (sym (framed_size body.slots vs)) (params_inside body.slots i there) in
            let size : length (filled params ps begun).slots ≡ length body.slots = filled_size params ps begun ∙ framed_size body.slots vs in
            let frame : IsFrame inner.slots params (live ++ ps) (filled params ps begun).slots = record {
              size = size ∙ ap (λ (ss : List Slot). length ss) (sym slots_is);
              named = λ i there. among_right live ps (slot_of (filled params ps begun).slots i) (filled_named params ps begun same low_slots i there);
            } in
            fills_current (in_here inner 0) params ps begun (λ l. low inner body.code l (closes side inner k)) lives' (live ++ ps)
            ((later.by false inner params body.code (subst (λ ss. AreObjects ss params) (sym slots_is) (params_are_objects body.slots))
            (subst (λ ss. AreTyped program ss inner.result false body.code) (sym slots_is) (subst (λ t. AreTyped program body.slots t false body.code) (sym result_is) typed))
            (subst (λ ss. CodesScoped ss params body.code) (sym slots_is) right)).by lives' (live ++ ps) live (filled params ps begun) (closes side inner k) knows' (ap (λ (xs : List Wire). live ++ xs) (sym born)) frame
            (closes_current inner params live (filled params ps begun).slots k soon))

    goes_to_current : (here : Here) (at : At) (f : ℕ) (o : Option Body) → own f ≡ o → (vs : List Wire) (k : Wire → Tree) (lives : Lives) (live : List Wire) → Knows lives live → AreCurrent lives vs → Soon live k → C lives live (goes_to side low here at f vs o k)
    goes_to_current here at f None is vs k lives live knows h soon = (h, λ lives' v knows' c. soon.by lives' v knows' c)
    goes_to_current here at f (Some body) is vs k lives live knows h soon =
        enters_current here (record { func = f; depth = suc here.depth; slots = body.slots; result = body.result }) body refl refl (typed_body program sound f body (bodies f body is)) (scoped.bodies f body (bodies f body is)) vs k lives live knows soon

    direct_current : (here : Here) (at : At) (f : ℕ) (vs : List Wire) (k : Wire → Tree) (lives : Lives) (live : List Wire) → Knows lives live → AreCurrent lives vs → Soon live k → C lives live (direct side low here at f vs k)
    direct_current here at f vs k lives live knows h soon = of (nat_lt here.depth 256)
      where
        of : (b : Bool) → C lives live (chosen b (goes_to side low here at f vs (own f)) (deep side low here at) k)
        of true = goes_to_current here at f (own f) refl vs k lives live knows h soon
        of false = tt

    through_current : (here : Here) (at : At) (v : Wire) (vs : List Wire) (k : Wire → Tree) (lives : Lives) (live : List Wire) → Knows lives live → AreCurrent lives vs → Soon live k → C lives live (through side low here at v vs k)
    through_current here at v vs k lives live knows h soon = of (function_of v)
      where
        of : (r : Result ℕ StopKind) → C lives live (given at r (λ f. direct side low here at f vs k))
        of (Ok f) = direct_current here at f vs k lives live knows h soon
        of (Err kind) = tt

    -- the service that calls back
    back_current : (here : Here) (at : At) (vs : List Wire) (k : Wire → Tree) (other : (Wire → Tree) → Tree) (lives : Lives) (live : List Wire) → Knows lives live → AreCurrent lives vs → Soon live k → (b : Bool) → b ≡ true
        → C lives live (chosen b (through side low here at (first_of vs) (rest_of vs)) other k)
    back_current here at vs k other lives live knows h soon true is = through_current here at (first_of vs) (rest_of vs) k lives live knows (rest_current lives vs h) soon
    back_current here at vs k other lives live knows h soon false is = absurd cc

    call_current : (here : Here) (objects : List ℕ) (at : At) (s : List Wire) (form : CallOf) (c : Called) (t : Ty) → gives_by c program here.slots form t → CalleeScoped objects c → TermsScoped objects form.args
        → (k : Wire → Tree) (lives : Lives) (live : List Wire) → Knows lives live → IsFrame here.slots objects live s → Soon live k → C lives live (call_by side low here at s form c k)
    call_current here objects at s form (Called.Direct f) t d x xs k lives live knows frame soon =
        values_current program lives live knows here.slots objects s frame at form.args (map (λ (p : Param). p.ty) d.func.params) d.call_is.args xs (λ vs. direct side low here at f vs k) (λ vs h. direct_current here at f vs k lives live knows h soon)
    call_current here objects at s form (Called.Through e) t d x xs k lives live knows frame soon =
        (value_current program lives live knows here.slots objects s frame at e (type.Fun (t ∷ d.params)) d.pointer x).by _
        (λ v c. values_current program lives live knows here.slots objects s frame at form.args d.params d.call_is.args xs (λ vs. through side low here at v vs k) (λ vs h. through_current here at v vs k lives live knows h soon))
    call_current here objects at s form (Called.Service n) t (inr d) x xs k lives live knows frame soon =
        values_current program lives live knows here.slots objects s frame at form.args (type.Fun (t ∷ d.param ∷ []) ∷ d.param ∷ []) d.args xs (λ vs. chosen (n == 15) (through side low here at (first_of vs) (rest_of vs)) (serves (known_of program) n at form vs) k)
        (λ vs h. back_current here at vs k (serves (known_of program) n at form vs) lives live knows h soon (n == 15) (subst (λ i. (i == 15) ≡ true) (sym d.back) refl))
    call_current here objects at s form (Called.Service n) t (inl d) x xs k lives live knows frame soon =
        values_current program lives live knows here.slots objects s frame at form.args d.signature.params d.args xs (λ vs. chosen (n == 15) (through side low here at (first_of vs) (rest_of vs)) (serves (known_of program) n at form vs) k) (λ vs h. of vs h (n == 15))
      where
        of : (vs : List Wire) → AreCurrent lives vs → (b : Bool) → C lives live (chosen b (through side low here at (first_of vs) (rest_of vs)) (serves (known_of program) n at form vs) k)
        of vs h true = through_current here at (first_of vs) (rest_of vs) k lives live knows (rest_current lives vs h) soon
        of vs h false = subst (λ o. C lives live (serves_by (known_of program) n at form vs o k)) (sym d.names) (serves_current lives live knows n at k soon form d.signature d.service d.names d.offers vs h)

    -- ---- statements

    texts_current : (at : At) (kind : Kind) (p : Wire) (i : ℕ) (bs : List ℕ) (t : Tree) (lives : Lives) (live : List Wire) → C lives live t → C lives live (texts at kind p i bs t)
    texts_current at kind p i [] t lives live h = h
    texts_current at kind p i (b ∷ bs) t lives live h = texts_current at kind p (suc i) bs t lives live h

    module _ (here : Here) (objects : List ℕ) (objs : AreObjects here.slots objects) where
      -- a tick, before which others may die
      ticks : (later : List ℕ) (n : ℕ) (go : Go) → GoCurrent here.slots objects later go → GoCurrent here.slots objects later (λ l k. Tree.Tick (in_here here n) here.depth (go l k))
      ticks later n go h = record { by = λ lives live base l k knows is frame next lives' knows'. h.by lives' live base l k knows' is frame next }

      inside_slots : (xs : List Slot) (i : ℕ) (s : Slot) → slice_get xs i ≡ Some s → i < length xs
      inside_slots [] i s e = absurd cc
      inside_slots (x ∷ xs) zero s e = omega arith
      inside_slots (x ∷ xs) (suc i) s e = let less : i < length xs = inside_slots xs i s e in omega (arith, less)

      -- a declaration, of a local that isn't there yet
      declared_current : (i : ℕ) (o : Option Slot) → slice_get here.slots i ≡ o → is_there objects i ≡ false → GoCurrent here.slots objects (chosen (is_object o) (i ∷ objects) objects) (declared side low here i o)
      declared_current i None names out = leaves_current here.slots objects
      declared_current i (Some s) names out = of s.object refl
        where
          of : (b : Bool) → s.object ≡ b → GoCurrent here.slots objects (chosen b (i ∷ objects) objects) (declared_by side low here b i s)
          of false e = record {
            by = λ lives live base l k knows is frame next.
                let keep : AreKept objects l.slots (slice_set l.slots i (wire_of (zero_value s.ty))) = set_keeps objects l.slots i (wire_of (zero_value s.ty)) out in
                next.by lives live Ends (record { slots = slice_set l.slots i (wire_of (zero_value s.ty)); born = l.born }) knows is tt keep
                (kept_frame here.slots objects live l.slots _ (size_set l.slots i (wire_of (zero_value s.ty)) ∙ frame.size) keep frame);
          }
          of true e = record {
            by = λ lives live base l k knows is frame next.
                born_current here (shape_of (known_of program) s ∷ []) (λ ps. k Ends (with_object i (first_of ps) l)) lives live knows (λ lives' ps many knows'. one_of ps many (λ p same. at_birth lives' live base l k p ps same knows' is frame next));
          }
            where
              at_birth : (lives' : Lives) (live base : List Wire) (l : Locals) (k : Next) (p : Wire) (ps : List Wire) → ps ≡ p ∷ [] → Knows lives' (live ++ ps) → live ≡ base ++ l.born → IsFrame here.slots objects live l.slots → AreNext here.slots base objects (i ∷ objects) l.slots k
                  → C lives' (live ++ ps) (k Ends (with_object i (first_of ps) l))
              at_birth lives' live base l k p ps same knows' is frame next =
                  let less : i < length l.slots = subst (λ n. i < n) (sym frame.size) (inside_slots here.slots i s names) in
                  subst (λ xs. C lives' (live ++ xs) (k Ends (with_object i (first_of xs) l))) (sym same)
                  (next.by lives' (live ++ p ∷ []) Ends (with_object i p l) (subst (λ xs. Knows lives' (live ++ xs)) same knows') (ap (λ (xs : List Wire). xs ++ p ∷ []) is ∙ append_assoc base l.born (p ∷ [])) tt
                  (set_keeps objects l.slots i p out) (born_frame here.slots objects live l.slots i p less frame))

      returns_current : (at : At) (e : Option Term) → ReturnsRight program here.slots here.result e → OptionScoped objects e → GoCurrent here.slots objects objects (returns side low here at e)
      returns_current at None d c = record { by = λ lives live base l k knows is frame next. next.by lives live (Returns wire.NoValue) l knows is tt (all_kept objects l.slots) tt }
      returns_current at (Some e) d c = record {
        by = λ lives live base l k knows is frame next.
            (value_current program lives live knows here.slots objects l.slots frame at e here.result d.1 c).by _ (λ v h. next.by lives live (Returns v) l knows is h (all_kept objects l.slots) tt);
      }

      jumps_current : (way : Way) → GoCurrent here.slots objects objects (λ l k. k (flow_of way) l)
      jumps_current Way.Ends = record { by = λ lives live base l k knows is frame next. next.by lives live Ends l knows is tt (all_kept objects l.slots) frame }
      jumps_current Way.Breaks = record { by = λ lives live base l k knows is frame next. next.by lives live Breaks l knows is tt (all_kept objects l.slots) frame }
      jumps_current Way.Continues = record { by = λ lives live base l k knows is frame next. next.by lives live Continues l knows is tt (all_kept objects l.slots) frame }

      calls_current : (at : At) (goal : Goal) (form : CallOf) → GoesTo program here.slots here.result goal form → GoalScoped objects goal → CalleeScoped objects form.callee → TermsScoped objects form.args
          → GoCurrent here.slots objects objects (λ l k. call side low here at l.slots form (λ v. keep (known_of program) here at goal v l k))
      calls_current at goal form d c x xs = record {
        by = λ lives live base l k knows is frame next.
            call_current here objects at l.slots form form.callee (given_type goal d).0 (given_type goal d).1 x xs _ lives live knows frame (keep_current here objects objs at goal form d c live base l k is frame next);
      }
        where
          given_type : (goal : Goal) → GoesTo program here.slots here.result goal form → (t : Ty) × CallGives program here.slots form t
          given_type Goal.Nowhere d = d
          given_type (Goal.Into p) d = (d.given, d.call_gives)
          given_type Goal.Back d = (d.given, d.call_gives)

    mutual
      stmt_current : (in_loop : Bool) (here : Here) (objects : List ℕ) → AreObjects here.slots objects → (code : Code) → IsTyped program here.slots here.result in_loop code → CodeScoped here.slots objects code
          → GoCurrent here.slots objects (behind here.slots objects code) (stmt side low here code)
      stmt_current in_loop here objects objs (Code.Declare n i) t c = ticks here objects objs _ n _ (declared_current here objects objs i (slice_get here.slots i) refl c)
      stmt_current in_loop here objects objs (Code.Text n i bytes) t c =
          ticks here objects objs objects n _ (record {
            by = λ lives live base l k knows is frame next. texts_current (in_here here n) (characters (slice_get here.slots i)) (slot_of l.slots i) 0 bytes (k Ends l) lives live (over here.slots objects objs lives live base l knows is frame k next);
          })
      stmt_current in_loop here objects objs (Code.Assign n target e) t c =
          ticks here objects objs objects n _ (record {
            by = λ lives live base l k knows is frame next.
                (value_current program lives live knows here.slots objects l.slots frame (in_here here n) e t.right.type t.right.value c.1).by _
                (λ v h. put_current here.slots objects objs lives live base l knows is frame (in_here here n) target t.right.type t.right.object c.0 v k next);
          })
      stmt_current in_loop here objects objs (Code.Call n goal form) t c = ticks here objects objs objects n _ (calls_current here objects objs (in_here here n) goal form t.right c.0 c.1.0 c.1.1)
      stmt_current in_loop here objects objs (Code.If n e one other) t c =
          ticks here objects objs objects n _ (record {
            by = λ lives live base l k knows is frame next.
                (value_current program lives live knows here.slots objects l.slots frame (in_here here n) e t.condition.type t.condition.operand c.0).by _
                (λ v h. (block_current here objects _ (picked (is_true v) (stmts side low here one) (stmts side low here other) (stmts_current in_loop here objects objs one t.first c.1) (stmts_current in_loop here objects objs other t.second c.2))).by lives live base l k knows is frame next);
          })
      stmt_current in_loop here objects objs (Code.Loop n e step body) t c =
          let loop : Codes = Codes.Then (Code.Loop n e step body) Codes.End in
          let again : GoCurrent here.slots objects objects (low here loop) = later.by in_loop here objects loop objs (t, tt) (c, tt) in
          let steps : GoCurrent here.slots objects objects (stmts side low here step) = stmts_current false here objects objs step t.stepped c.1 in
          let inner : GoCurrent here.slots objects objects (stmts side low here body) = stmts_current true here objects objs body t.turn c.2 in
          let turned : GoCurrent here.slots objects objects (turn side low here (low here loop) (stmts side low here step) (stmts side low here body)) = record {
            by = λ lives live base l k knows is frame next.
                (block_current here objects _ inner).by lives live base l (around (low here loop) (stmts side low here step) k) knows is frame (around_current here.slots objects (low here loop) (stmts side low here step) base l.slots k again steps next);
          } in
          ticks here objects objs objects n _ (record {
            by = λ lives live base l k knows is frame next.
                (value_current program lives live knows here.slots objects l.slots frame (in_here here n) e t.condition.type t.condition.operand c.0).by _
                (λ v h. (picked (is_true v) _ leaves turned (leaves_current here.slots objects)).by lives live base l k knows is frame next);
          })
      stmt_current in_loop here objects objs (Code.Block cs) t c = block_current here objects (stmts side low here cs) (stmts_current in_loop here objects objs cs t c)
      stmt_current in_loop here objects objs (Code.Return n e) t c = ticks here objects objs objects n _ (returns_current here objects objs (in_here here n) e t.right c)
      stmt_current in_loop here objects objs (Code.Jump n way) t c = ticks here objects objs objects n _ (jumps_current here objects objs way)

      stmts_current : (in_loop : Bool) (here : Here) (objects : List ℕ) → AreObjects here.slots objects → (cs : Codes) → AreTyped program here.slots here.result in_loop cs → CodesScoped here.slots objects cs → GoCurrent here.slots objects objects (stmts side low here cs)
      stmts_current in_loop here objects objs Codes.End t c = leaves_current here.slots objects
      stmts_current in_loop here objects objs (Codes.Then code cs) t c = record {
        by = λ lives live base l k knows is frame next.
            (stmt_current in_loop here objects objs code t.0 c.0).by lives live base l (on_ends (stmts side low here cs) k) knows is frame
            (next_behind here.slots objects code (stmts side low here cs) base l.slots k (stmts_current in_loop here (behind here.slots objects code) (objects_behind here.slots objects code objs) cs t.1 c.1) next);
      }

  means_current : (n : ℕ) → IsLater (means side n)
  unfolding means
  means_current zero = record { by = λ in_loop here objects cs objs t c. record { by = λ lives live base l k knows is frame next lives' knows'. tt } }
  means_current (suc n) = record { by = λ in_loop here objects cs objs t c. record { by = (stmts_current (means side n) (means_current n) in_loop here objects objs cs t c).by } }

  started_current : (n f : ℕ) (lives : Lives) (args : List Wire) (depth : ℕ) → Knows lives [] → AreCurrent lives args → (below : Tree) → C lives [] (started side n f args depth below)
  unfolding started
  started_current n f lives args depth knows h below =
      goes_to_current (means side n) (means_current n) (record { func = f; depth = depth; slots = []; result = Void }) (record { func = f; stmt = 0 }) f (own f) refl args (λ v. Tree.Done v below) lives [] knows h (record { by = λ lives' v knows' c. c })

same_side : (program : Program) (side : Side) → IsSideOf program side → record { known = known_of program; own = side.own; asks = side.asks } ≡ side
same_side program side h = let known = sym h.known in λ i. record { known = known i; own = side.own; asks = side.asks }

pub scoped_trees_are_current : ScopedTreesAreCurrent
scoped_trees_are_current program sound scoped side h n f lives args depth knows current below =
    subst (λ (x : Side). Current (length program.globals) lives [] (started x n f args depth below)) (same_side program side h) (started_current program sound scoped side.own side.asks h.bodies n f lives args depth knows current below)
