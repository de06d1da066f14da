-- Each statement takes one step.
use Rattle.std.proofs.Common.{◌≡◌, ℕ, suc, ◌≤◌, Bool, true, false, List, [], ◌∷◌, Option, Some, None, Result, Ok, Err, refl, ap, ◌∙◌, slice_get}
use Rattle.mdr_core.specs.declared.place.At.{At}
use Rattle.mdr_core.specs.declared.stop.StopKind.{StopKind}
use Rattle.mdr_core.specs.Code.{Term, Lvalue, CallOf, Goal, Way, Code, Codes}
use Rattle.mdr_core.specs.Layout.{chosen}
use Rattle.mdr_core.specs.Typing.{Slot}
use Rattle.mdr_meaning.specs.declared.wire.Wire.{Wire}
use Rattle.mdr_meaning.specs.declared.wire.Wire.TheVariants as wire
use Rattle.mdr_meaning.specs.Bodies.{means}
use Rattle.mdr_meaning.specs.Calls.{keep}
use Rattle.mdr_meaning.specs.Cut.{cut}
use Rattle.mdr_meaning.specs.Expressions.{slot_of, value}
use Rattle.mdr_meaning.specs.Lives.{asked_for, births_by, closes, in_block, object_params, param_shapes, shape_of, with_object}
use Rattle.mdr_meaning.specs.Sides.{Side, Here, Locals, Flow, Ends, Breaks, Continues, Returns, Next, Means, flow_of, framed, in_here}
use Rattle.mdr_meaning.specs.Statements.{characters, declared, declared_by, leaves, on_ends, stmts, texts, turn}
use Rattle.mdr_meaning.specs.Tree.{Tree}
use Rattle.mdr_meaning.specs.Values.{first_of, is_true}
use Rattle.mdr_meaning.specs.Walk.{Accesses, on_access, walk}
use Rattle.mdr_events.specs.Held.{Runs, Born, WaitsObject, Item, Held, carry, bare, tree, loop_again}
use Rattle.mdr_events.specs.Ready.{IsReady, is_started, is_waiting}
use Rattle.mdr_events.specs.Steps.{Left, holds, holds_after, held_after, front_after, Goes, Asks, Leaves, after, came_by, IsSame, Ticks}
use Rattle.mdr_exec.specs.Calling.{Calling, Entering, Crossing, Asking, called_of, calling_tree, entered}
use Rattle.mdr_exec.specs.Effects.{Did, ended, assigned, returned_by, texts_of, Does}
use Rattle.mdr_exec.specs.Evaluation.{value_of}
use Rattle.mdr_exec.specs.StatementSteps.{is_object, zeroed, holds_block, holds_turn, branched, turned, calling, call_came, IsDone, StatementsStep}
use Rattle.mdr_exec.proofs.AgainLaws.{turns_again, enters_again, cut_births, cut_fills}
use Rattle.mdr_exec.proofs.CallingLaws.{comes_to_call}
use Rattle.mdr_exec.proofs.EffectLaws.{does_assign, does_end, does_return, does_texts}
use Rattle.mdr_exec.proofs.EvaluationLaws.{passes_value}

-- a statement that ends leaves work that goes on
calm_after : (flow : Flow) → is_waiting (front_after flow) ≡ false
calm_after Ends = refl
calm_after Breaks = refl
calm_after Continues = refl
calm_after (Returns v) = refl

pub leaves_after : (x : Result Left StopKind) (at : At) (here : Here) (more : Codes) (items : List Item) → is_started items ≡ true → Leaves (came_by at x) (held_after x here more items)
leaves_after (Ok left) at here more items s = record { calm = calm_after left.flow; started = s }
leaves_after (Err kind) at here more items s = tt

module _ {M : Type 0} (a : Accesses M) (side : Side) where
  -- what follows a statement
  abbrev pub next_of : ℕ → Here → Codes → List Item → Next
  next_of f here more items = on_ends (means side (suc f) here more) (carry side (means side (suc f)) here items)

  pub ends_so : (f r : ℕ) (here : Here) (more : Codes) (items : List Item) (left : Left) → cut r (next_of f here more items left.flow left.locals) ≡ tree side f (holds_after left here more items) r
  unfolding tree bare
  ends_so f r here more items left = by_flow left.flow where
    by_flow : (flow : Flow) → cut r (next_of f here more items flow left.locals) ≡ tree side f (holds_after (record { flow = flow; locals = left.locals }) here more items) r
    by_flow Ends = refl
    by_flow Breaks = refl
    by_flow Continues = refl
    by_flow (Returns v) = refl

  -- where a statement's work ends
  pub finishes : (at : At) (here : Here) (more : Codes) (items : List Item) (d : Did Left M) (f n r : ℕ)
      → on_access d.result at d.memory n (λ x. walk a n (cut r (next_of f here more items x.flow x.locals)) d.memory)
      ≡ after a side f (came_by at d.result) (held_after d.result here more items) d.memory n r
  finishes at here more items d f n r = by_result d.result where
    by_result : (x : Result Left StopKind)
        → on_access x at d.memory n (λ x. walk a n (cut r (next_of f here more items x.flow x.locals)) d.memory)
        ≡ after a side f (came_by at x) (held_after x here more items) d.memory n r
    by_result (Ok left) = ap (λ t. walk a n t d.memory) (ends_so f r here more items left)
    by_result (Err kind) = refl

  -- a statement that takes a tick, whose tree does so much and then ends
  does_ticks : (here : Here) (l : Locals) (code : Code) (n : ℕ) (more : Codes) (items : List Item) (m : M) (w : (Left → Tree) → Tree) (d : Did Left M)
      → ((f : ℕ) → bare side f (holds Runs here l (Codes.Then code more) items)
      ≡ Tree.Tick (in_here here n) here.depth (w (λ x. next_of f here more items x.flow x.locals)))
      → Does a (in_here here n) Left w m d
      → Ticks a side (holds Runs here l (Codes.Then code more) items) m (came_by (in_here here n) d.result) (held_after d.result here more items) d.memory
  unfolding tree cut walk
  does_ticks here l code n more items m w d is does = record {
    by = λ f q r fewer.
        ap (λ t. walk a (suc q) (cut (suc r) t) m) (is f) ∙ does.by q r (λ x. next_of f here more items x.flow x.locals) ∙ finishes (in_here here n) here more items d f q r;
    leaves = λ r. leaves_after d.result (in_here here n) here more items r.started;
  }

  -- a tick, and then a value that goes on or stops
  value_ticks : (here : Here) (l : Locals) (code : Code) (n : ℕ) (more : Codes) (items : List Item) (m : M) (e : Term) (k : ℕ → Wire → Tree) (held : Result Wire StopKind → Held)
      → ((f : ℕ) → bare side f (holds Runs here l (Codes.Then code more) items) ≡ Tree.Tick (in_here here n) here.depth (value side.known (in_here here n) l.slots e (k f)))
      → ((f r : ℕ) → suc r ≤ f → (v : Wire) → cut r (k f v) ≡ tree side f (held (Ok v)) r)
      → ((v : Wire) → is_started items ≡ true → IsReady (held (Ok v)))
      → Ticks a side (holds Runs here l (Codes.Then code more) items) m (came_by (in_here here n) (value_of a m side.known l.slots e)) (held (value_of a m side.known l.slots e)) m
  unfolding tree cut walk
  value_ticks here l code n more items m e k held is then goes = record {
    by = λ f q r fewer.
        ap (λ t. walk a (suc q) (cut (suc r) t) m) (is f) ∙ (passes_value a m (in_here here n) side.known l.slots e).by q r (k f)
        ∙ by_result f q r fewer (value_of a m side.known l.slots e);
    leaves = λ r. left_by r.started (value_of a m side.known l.slots e);
  } where
    left_by : is_started items ≡ true → (x : Result Wire StopKind) → Leaves (came_by (in_here here n) x) (held x)
    left_by s (Ok v) = goes v s
    left_by s (Err kind) = tt

    by_result : (f q r : ℕ) → suc r ≤ f → (x : Result Wire StopKind)
        → on_access x (in_here here n) m q (λ v. walk a q (cut r (k f v)) m) ≡ after a side f (came_by (in_here here n) x) (held x) m q r
    by_result f q r fewer (Ok v) = ap (λ t. walk a q t m) (then f r fewer v)
    by_result f q r fewer (Err kind) = refl

  module _ (here : Here) (l : Locals) (more : Codes) (items : List Item) (m : M) (n : ℕ) where
    declared_is : (low : Means) (i : ℕ) (o : Option Slot) (k : Next) → is_object o ≡ false → declared side low here i o l k ≡ k Ends (zeroed i o l)
    declared_is low i None k h = refl
    declared_is low i (Some s) k h = ap (λ b. declared_by side low here b i s l k) h

    object_is : (low : Means) (i : ℕ) (o : Option Slot) (s : Slot) (asks : Bool) (k : Next) → o ≡ Some s → s.object ≡ true → side.asks ≡ asks
        → declared side low here i o l k ≡ births_by asks (in_here here 0) (shape_of side.known s ∷ []) (λ ps. k Ends (with_object i (first_of ps) l))
    object_is low i o s asks k is object h =
        ap (λ x. declared side low here i x l k) is ∙ ap (λ b. declared_by side low here b i s l k) object
        ∙ ap (λ b. births_by b (in_here here 0) (shape_of side.known s ∷ []) (λ ps. k Ends (with_object i (first_of ps) l))) h

    declares : (i : ℕ) → is_object (slice_get here.slots i) ≡ false → IsDone a side here l more items m n (Code.Declare n i) (ended Ends (zeroed i (slice_get here.slots i) l) m)
    unfolding bare means
    declares i h =
        does_ticks here l (Code.Declare n i) n more items m (λ k. k (record { flow = Ends; locals = zeroed i (slice_get here.slots i) l })) (ended Ends (zeroed i (slice_get here.slots i) l) m)
        (λ f. ap (Tree.Tick (in_here here n) here.depth) (declared_is (means side f) i (slice_get here.slots i) (next_of f here more items) h))
        (does_end a (in_here here n) Left (record { flow = Ends; locals = zeroed i (slice_get here.slots i) l }) m)

    births : (i : ℕ) (s : Slot) → slice_get here.slots i ≡ Some s → s.object ≡ true → side.asks ≡ false
        → Ticks a side (holds Runs here l (Codes.Then (Code.Declare n i) more) items) m Goes
        (holds (Born i (first_of (a.birth m (shape_of side.known s ∷ [])).pointers)) here l more items) (a.birth m (shape_of side.known s ∷ [])).memory
    unfolding bare means tree cut walk
    births i s is object h = record {
      by = λ f q r fewer.
          ap (λ t. walk a (suc q) (cut (suc r) (Tree.Tick (in_here here n) here.depth t)) m)
          (object_is (means side f) i (slice_get here.slots i) s false (next_of f here more items) is object h);
      leaves = λ r. record { calm = refl; started = r.started };
    }

    asks : (i : ℕ) (s : Slot) → slice_get here.slots i ≡ Some s → s.object ≡ true → side.asks ≡ true
        → Ticks a side (holds Runs here l (Codes.Then (Code.Declare n i) more) items) m
        (Asks (asked_for 13 (in_here here 0) [] (shape_of side.known s ∷ []) [])) (holds (WaitsObject i) here l more items) m
    unfolding bare means tree cut walk
    asks i s is object h = record {
      by = λ f q r fewer.
          ap (λ t. walk a (suc q) (cut (suc r) (Tree.Tick (in_here here n) here.depth t)) m)
          (object_is (means side f) i (slice_get here.slots i) s true (next_of f here more items) is object h);
      leaves = λ r. record { takes_them = refl; started = r.started };
    }

    puts_text : (i : ℕ) (bytes : List ℕ) → IsDone a side here l more items m n (Code.Text n i bytes) (texts_of a (characters (slice_get here.slots i)) (slot_of l.slots i) 0 bytes l m)
    unfolding bare means
    puts_text i bytes =
        does_ticks here l (Code.Text n i bytes) n more items m
        (λ k. texts (in_here here n) (characters (slice_get here.slots i)) (slot_of l.slots i) 0 bytes (k (record { flow = Ends; locals = l }))) _ (λ f. refl)
        (does_texts a (in_here here n) (characters (slice_get here.slots i)) (slot_of l.slots i) 0 bytes l m)

    assigns : (p : Lvalue) (e : Term) → IsDone a side here l more items m n (Code.Assign n p e) (assigned a side.known p e l m)
    unfolding bare means
    assigns p e = does_ticks here l (Code.Assign n p e) n more items m _ (assigned a side.known p e l m) (λ f. refl) (does_assign a (in_here here n) side.known p e l m)

    returns : (e : Option Term) → IsDone a side here l more items m n (Code.Return n e) (returned_by a side.known e l m)
    unfolding bare means
    returns None =
        does_ticks here l (Code.Return n None) n more items m (λ k. k (record { flow = Returns wire.NoValue; locals = l })) _ (λ f. refl)
        (does_end a (in_here here n) Left (record { flow = Returns wire.NoValue; locals = l }) m)
    returns (Some e) = does_ticks here l (Code.Return n (Some e)) n more items m _ (returned_by a side.known (Some e) l m) (λ f. refl) (does_return a (in_here here n) side.known e l m)

    jumps : (way : Way) → IsDone a side here l more items m n (Code.Jump n way) (ended (flow_of way) l m)
    unfolding bare means
    jumps way =
        does_ticks here l (Code.Jump n way) n more items m (λ k. k (record { flow = flow_of way; locals = l })) _ (λ f. refl)
        (does_end a (in_here here n) Left (record { flow = flow_of way; locals = l }) m)

    enters : (body : Codes) → IsSame side (holds Runs here l (Codes.Then (Code.Block body) more) items) (holds_block here l more items body)
    unfolding bare means tree carry
    enters body = record { by = λ f r. refl; ready = λ r. record { calm = refl; started = r.started } }

    branch_is : (f r : ℕ) (one other : Codes) (b : Bool)
        → cut r (in_block side here (chosen b (stmts side (means side f) here one) (stmts side (means side f) here other)) l (next_of f here more items))
        ≡ tree side f (holds_block here l more items (chosen b one other)) r
    unfolding bare means tree carry
    branch_is f r one other true = refl
    branch_is f r one other false = refl

    branches : (e : Term) (one other : Codes)
        → Ticks a side (holds Runs here l (Codes.Then (Code.If n e one other) more) items) m (came_by (in_here here n) (value_of a m side.known l.slots e)) (branched here l more items one other (value_of a m side.known l.slots e)) m
    unfolding bare means
    branches e one other =
        value_ticks here l (Code.If n e one other) n more items m e
        (λ f v. in_block side here (chosen (is_true v) (stmts side (means side f) here one) (stmts side (means side f) here other)) l (next_of f here more items))
        (branched here l more items one other) (λ f. refl) (λ f r fewer v. branch_is f r one other (is_true v)) (λ v s. record { calm = refl; started = s })

    turn_is : (f r : ℕ) → suc r ≤ f → (e : Term) (step body : Codes) (b : Bool)
        → cut r (chosen b (turn side (means side f) here (means side f here (loop_again n e step body)) (stmts side (means side f) here step) (stmts side (means side f) here body)) leaves l (next_of f here more items))
        ≡ tree side f (chosen b (holds_turn here l more items n e step body) (holds Runs here l more items)) r
    unfolding bare means tree carry
    turn_is f r fewer e step body true = turns_again side f here n e step body (next_of f here more items) r fewer (record { slots = l.slots; born = [] }) l.born
    turn_is f r fewer e step body false = refl

    turn_ready : (n : ℕ) (e : Term) (step body : Codes) (b : Bool) → is_started items ≡ true → IsReady (chosen b (holds_turn here l more items n e step body) (holds Runs here l more items))
    turn_ready n e step body true s = record { calm = refl; started = s }
    turn_ready n e step body false s = record { calm = refl; started = s }

    turns : (e : Term) (step body : Codes)
        → Ticks a side (holds Runs here l (Codes.Then (Code.Loop n e step body) more) items) m (came_by (in_here here n) (value_of a m side.known l.slots e)) (turned here l more items n e step body (value_of a m side.known l.slots e)) m
    unfolding bare means
    turns e step body =
        value_ticks here l (Code.Loop n e step body) n more items m e
        (λ f v. chosen (is_true v) (turn side (means side f) here (means side f here (loop_again n e step body)) (stmts side (means side f) here step) (stmts side (means side f) here body)) leaves l (next_of f here more items))
        (turned here l more items n e step body) (λ f. refl) (λ f r fewer v. turn_is f r fewer e step body (is_true v)) (λ v. turn_ready n e step body (is_true v))

    -- what the statement that called goes on with
    abbrev kept : ℕ → Goal → Wire → Tree
    kept f goal v = keep side.known here (in_here here n) goal v l (next_of f here more items)

    call_is : (goal : Goal) (f q r : ℕ) → suc r ≤ f → (x : Result Calling StopKind)
        → on_access x (in_here here n) m q (λ c. walk a q (cut r (calling_tree side (means side f) here (in_here here n) c (kept f goal))) m)
        ≡ after a side f (call_came here (in_here here n) x) (calling here l more items n goal x) m q r
    unfolding bare tree carry cut walk
    call_is goal f q r fewer (Ok (Entering g vs body)) =
        let inner : Here = entered here g body in
        ap (λ t. walk a q t m)
        (cut_births side r inner (param_shapes side.known body.slots) _ _
        (λ ps. cut_fills side r (in_here inner 0) (object_params 0 body.slots) ps (record { slots = framed body.slots vs; born = [] }) _ _
        (λ x. enters_again side f r fewer inner body.code x (closes side inner (kept f goal)))))
    call_is goal f q r fewer (Ok (Crossing g vs)) = refl
    call_is goal f q r fewer (Ok (Asking asked)) = refl
    call_is goal f q r fewer (Err kind) = refl

    call_leaves : (goal : Goal) (x : Result Calling StopKind) → is_started items ≡ true → Leaves (call_came here (in_here here n) x) (calling here l more items n goal x)
    call_leaves goal (Ok (Entering g vs body)) s = record { calm = refl; started = s }
    call_leaves goal (Ok (Crossing g vs)) s = record { takes_them = refl; started = s }
    call_leaves goal (Ok (Asking asked)) s = record { takes_them = refl; started = s }
    call_leaves goal (Err kind) s = tt

    calls : (goal : Goal) (form : CallOf)
        → Ticks a side (holds Runs here l (Codes.Then (Code.Call n goal form) more) items) m
        (call_came here (in_here here n) (called_of a side here m (in_here here n) form l.slots form.callee))
        (calling here l more items n goal (called_of a side here m (in_here here n) form l.slots form.callee)) m
    unfolding bare means tree cut walk
    calls goal form = record {
      by = λ f q r fewer.
          (comes_to_call a side (means side f) here m (in_here here n) l.slots form form.callee).by q r (kept f goal)
          ∙ call_is goal f q r fewer (called_of a side here m (in_here here n) form l.slots form.callee);
      leaves = λ r. call_leaves goal (called_of a side here m (in_here here n) form l.slots form.callee) r.started;
    }

    pub statements_step : StatementsStep a side here l more items m n
    statements_step = record {
      declares = declares;
      births = births;
      asks = asks;
      texts = puts_text;
      assigns = assigns;
      calls = calls;
      branches = branches;
      turns = turns;
      enters = enters;
      returns = returns;
      jumps = jumps;
    }
