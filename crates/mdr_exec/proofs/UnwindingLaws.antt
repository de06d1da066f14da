-- Blocks, loops and functions are left one step at a time, and values, parameters and objects come one step at a time.
use Rattle.std.proofs.Common.{◌≡◌, ℕ, suc, Bool, true, false, List, [], ◌∷◌, length, Result, Ok, Err, refl, ap, sym, ◌∙◌, eq-eqb}
use Rattle.mdr_core.specs.declared.stop.StopKind.{StopKind}
use Rattle.mdr_core.specs.Code.{Goal, Codes}
use Rattle.mdr_meaning.specs.declared.wire.Wire.{Wire}
use Rattle.mdr_meaning.specs.declared.wire.Wire.TheVariants as wire
use Rattle.mdr_meaning.specs.declared.shape.Shape64.{Shape64}
use Rattle.mdr_meaning.specs.Bodies.{means}
use Rattle.mdr_meaning.specs.Calls.{keep}
use Rattle.mdr_meaning.specs.Cut.{cut}
use Rattle.mdr_meaning.specs.Lives.{after_deaths, births, births_by, closes, deaths, deaths_by, fills, object_params, param_shapes, returned}
use Rattle.mdr_meaning.specs.Sides.{Side, Here, Locals, Flow, Ends, Breaks, Continues, Returns, in_here}
use Rattle.mdr_meaning.specs.Tree.{Tree}
use Rattle.mdr_meaning.specs.Statements.{on_ends}
use Rattle.mdr_meaning.specs.Walk.{Reached, Accesses, on_access, walk, walked}
use Rattle.mdr_events.specs.Held.{Frame, Unwinds, Comes, Enters, Fills, Item, Rest, Scope, Around, Caller, Base, Held, carry, bare, tree}
use Rattle.mdr_events.specs.Ready.{is_started}
use Rattle.mdr_events.specs.Steps.{holds, front_after, came_by, held_after, Leaves, after, IsSame, Steps}
use Rattle.mdr_exec.specs.Effects.{keep_of, fills_of}
use Rattle.mdr_exec.specs.Unwinding.{is_return, flow_after, dying_came, dying_front, dying_memory, entering_came, entering_front, entering_memory, filled_after, IsEnd, WorkGoesOn}
use Rattle.mdr_exec.proofs.EffectLaws.{does_fills, does_keep}
use Rattle.mdr_exec.proofs.StepLaws.{finishes, leaves_after, next_of}

-- where nothing died, a value is as it was
pub none_died : (v : Wire) → after_deaths [] v ≡ v
none_died (wire.Int k n) = refl
none_died wire.Null = refl
none_died (wire.Ptr p) = refl
none_died wire.Dead = refl
none_died (wire.Fn f) = refl
none_died (wire.Lock s) = refl
none_died wire.NoValue = refl

died_once : (ps : List Wire) (flow : Flow) → after_deaths ps (returned flow) ≡ after_deaths [] (returned (flow_after ps flow))
died_once ps Ends = refl
died_once ps Breaks = refl
died_once ps Continues = refl
died_once ps (Returns v) = sym (none_died (after_deaths ps v))

module _ {M : Type 0} (a : Accesses M) (side : Side) (here : Here) (l : Locals) (ahead : Codes) (items : List Item) (m : M) where
  rest_same : (flow : Flow) (codes : Codes) → IsSame side (holds (Unwinds flow) here l ahead (Rest codes ∷ items)) (holds (front_after flow) here l codes items)
  unfolding bare tree carry
  rest_same Ends codes = record { by = λ f r. refl; ready = λ r. record { calm = refl; started = r.started } }
  rest_same Breaks codes = record { by = λ f r. refl; ready = λ r. record { calm = refl; started = r.started } }
  rest_same Continues codes = record { by = λ f r. refl; ready = λ r. record { calm = refl; started = r.started } }
  rest_same (Returns v) codes = record { by = λ f r. refl; ready = λ r. record { calm = refl; started = r.started } }

  -- objects die, and then the work goes on as when none had to
  dies : (h : Held) (flow : Flow) (x : Locals) (around : List Item) (ps : List Wire) (asks : Bool) → side.asks ≡ asks
      → ((f : ℕ) → bare side f h ≡ deaths side here ps (carry side (means side (suc f)) here around flow x))
      → (is_started h.items ≡ true → is_started around ≡ true)
      → Steps a side h m (dying_came asks (in_here here 0) ps) (holds (dying_front asks ps flow) here x ahead around) (dying_memory a asks ps m)
  unfolding bare tree cut walk
  dies h flow x around [] asks e is same = record {
    by = λ f n r fewer. ap (λ t. walk a n (cut r t) m) (is f);
    leaves = λ r. record { calm = refl; started = same r.started };
  }
  dies h flow x around (p ∷ ps) false e is same = record {
    leaves = λ r. record { calm = refl; started = same r.started };
    by = λ f n r fewer.
        ap (λ t. walk a n (cut r t) m) (is f) ∙ ap (λ b. walk a n (cut r (deaths_by b (in_here here 0) (p ∷ ps) (carry side (means side (suc f)) here around flow x))) m) e;
  }
  dies h flow x around (p ∷ ps) true e is same = record {
    leaves = λ r. record { takes_them = refl; started = same r.started };
    by = λ f n r fewer.
        ap (λ t. walk a n (cut r t) m) (is f) ∙ ap (λ b. walk a n (cut r (deaths_by b (in_here here 0) (p ∷ ps) (carry side (means side (suc f)) here around flow x))) m) e;
  }

  scope_is : (flow : Flow) (outer : List Wire) → is_return flow ≡ false → (f : ℕ)
      → bare side f (holds (Unwinds flow) here l ahead (Scope outer ∷ items)) ≡ deaths side here l.born (carry side (means side (suc f)) here items flow (record { slots = l.slots; born = outer }))
  unfolding bare carry
  scope_is Ends outer h f = refl
  scope_is Breaks outer h f = refl
  scope_is Continues outer h f = refl
  scope_is (Returns v) outer h f = absurd (cc h)

  -- the caller goes on with a value
  abbrev keeps_on : ℕ → Frame → (n : ℕ) → Goal → Wire → Tree
  keeps_on f outer n goal v = keep side.known outer.here (in_here outer.here n) goal v outer.locals (on_ends (means side (suc f) outer.here outer.ahead) (carry side (means side (suc f)) outer.here items))

  -- a function's objects die, and then it ends as one without objects
  closed : (k : Wire → Tree) (flow : Flow) → closes side here k flow l ≡ deaths side here l.born (closes side here k (flow_after l.born flow) (record { slots = l.slots; born = [] }))
  closed k flow = ap (λ v. deaths side here l.born (k v)) (died_once l.born flow)

  end_is : (flow : Flow) (end : Item) → IsEnd end → (f : ℕ)
      → bare side f (holds (Unwinds flow) here l ahead (end ∷ items)) ≡ deaths side here l.born (carry side (means side (suc f)) here (end ∷ items) (flow_after l.born flow) (record { slots = l.slots; born = [] }))
  unfolding bare carry
  end_is flow (Caller outer n goal) h f = closed (keeps_on f outer n goal) flow
  end_is flow (Base outer front) h f = closed (λ v. Tree.Done v (bare side f (record { frame = outer; front = front; items = items }))) flow
  end_is flow (Rest codes) h f = absurd h
  end_is flow (Scope outer) h f = absurd h
  end_is flow (Around n e step body) h f = absurd h

  comes : (n : ℕ) (goal : Goal) (v : Wire)
      → Steps a side (holds (Comes n goal v) here l ahead items) m (came_by (in_here here n) (keep_of a side.known here goal v l m).result)
      (held_after (keep_of a side.known here goal v l m).result here ahead items) (keep_of a side.known here goal v l m).memory
  unfolding bare tree
  comes n goal v = record {
    by = λ f q r fewer.
        (does_keep a (in_here here n) side.known here goal v l m).by q r (λ x. next_of a side f here ahead items x.flow x.locals)
        ∙ finishes a side (in_here here n) here ahead items (keep_of a side.known here goal v l m) f q r;
    leaves = λ r. leaves_after (keep_of a side.known here goal v l m).result (in_here here n) here ahead items r.started;
  }

  begins_leaving : (shapes : List Shape64) (asks : Bool) → is_started items ≡ true
      → Leaves (entering_came asks (in_here here 0) shapes) (holds (entering_front a asks shapes (object_params 0 here.slots) m) here l ahead items)
  begins_leaving [] asks s = record { calm = refl; started = s }
  begins_leaving (x ∷ shapes) false s = record { calm = refl; started = s }
  begins_leaving (x ∷ shapes) true s = record { takes_them = eq-eqb (length (x ∷ shapes)) (length (x ∷ shapes)) refl; started = s }

  begins_by : (shapes : List Shape64) (asks : Bool) → param_shapes side.known here.slots ≡ shapes → side.asks ≡ asks
      → Steps a side (holds Enters here l ahead items) m (entering_came asks (in_here here 0) shapes) (holds (entering_front a asks shapes (object_params 0 here.slots) m) here l ahead items) (entering_memory a asks shapes m)
  unfolding bare tree cut walk
  begins_by shapes asks is e = record {
    by = λ f n r fewer. ap (λ xs. walk a n (cut r (births_in f xs)) m) is ∙ by_shapes f n r shapes asks e;
    leaves = λ r. begins_leaving shapes asks r.started;
  } where
    births_in : ℕ → List Shape64 → Tree
    births_in f xs = births side here xs (λ ps. fills (in_here here 0) (object_params 0 here.slots) ps l (λ x. means side (suc f) here ahead x (carry side (means side (suc f)) here items)))

    by_shapes : (f n r : ℕ) (xs : List Shape64) (b : Bool) → side.asks ≡ b
        → walk a n (cut r (births_in f xs)) m ≡ after a side f (entering_came b (in_here here 0) xs) (holds (entering_front a b xs (object_params 0 here.slots) m) here l ahead items) (entering_memory a b xs m) n r
    by_shapes f n r [] b e = refl
    by_shapes f n r (s ∷ xs) false e = ap (λ b. walk a n (cut r (births_by b (in_here here 0) (s ∷ xs) (λ ps. fills (in_here here 0) (object_params 0 here.slots) ps l (λ x. means side (suc f) here ahead x (carry side (means side (suc f)) here items))))) m) e
    by_shapes f n r (s ∷ xs) true e = ap (λ b. walk a n (cut r (births_by b (in_here here 0) (s ∷ xs) (λ ps. fills (in_here here 0) (object_params 0 here.slots) ps l (λ x. means side (suc f) here ahead x (carry side (means side (suc f)) here items))))) m) e

  filled : (is : List ℕ) (ps : List Wire)
      → Steps a side (holds (Fills is ps) here l ahead items) m (came_by (in_here here 0) (fills_of a is ps l m).result) (filled_after here ahead items (fills_of a is ps l m).result) (fills_of a is ps l m).memory
  unfolding bare tree
  filled is ps = record {
    by = λ f n r fewer.
        (does_fills a (in_here here 0) is ps l m).by n r (λ x. means side (suc f) here ahead x (carry side (means side (suc f)) here items)) ∙ by_result f n r (fills_of a is ps l m).memory (fills_of a is ps l m).result;
    leaves = λ r. left_by r.started (fills_of a is ps l m).result;
  } where
    left_by : is_started items ≡ true → (x : Result Locals StopKind) → Leaves (came_by (in_here here 0) x) (filled_after here ahead items x)
    left_by s (Ok x) = record { calm = refl; started = s }
    left_by s (Err kind) = tt

    by_result : (f n r : ℕ) (m' : M) (x : Result Locals StopKind)
        → on_access x (in_here here 0) m' n (λ x. walk a n (cut r (means side (suc f) here ahead x (carry side (means side (suc f)) here items))) m')
        ≡ after a side f (came_by (in_here here 0) x) (filled_after here ahead items x) m' n r
    by_result f n r m' (Ok x) = refl
    by_result f n r m' (Err kind) = refl

  pub work_goes_on : WorkGoesOn a side here l ahead items m
  unfolding bare tree carry means cut walk
  work_goes_on = record {
    runs_out = record { by = λ f r. refl; ready = λ r. record { calm = refl; started = r.started } };
    rest = rest_same;
    scope_returned = λ v outer. record { by = λ f r. refl; ready = λ r. record { calm = refl; started = r.started } };
    scope_left = λ flow outer h. dies (holds (Unwinds flow) here l ahead (Scope outer ∷ items)) flow (record { slots = l.slots; born = outer }) items l.born side.asks refl (scope_is flow outer h) (λ s. s);
    loop_goes_on = λ n e step body. record { by = λ f r. refl; ready = λ r. record { calm = refl; started = r.started } };
    loop_continued = λ n e step body. record { by = λ f r. refl; ready = λ r. record { calm = refl; started = r.started } };
    loop_broken = λ n e step body. record { by = λ f r. refl; ready = λ r. record { calm = refl; started = r.started } };
    loop_returned = λ n e step body v. record { by = λ f r. refl; ready = λ r. record { calm = refl; started = r.started } };
    function_dies = λ flow end h. dies (holds (Unwinds flow) here l ahead (end ∷ items)) (flow_after l.born flow) (record { slots = l.slots; born = [] }) (end ∷ items) l.born side.asks refl (end_is flow end h) (λ s. s);
    call_left = λ flow outer n goal. record { by = λ f r. ap (λ v. cut r (keeps_on f outer n goal v)) (none_died (returned flow)); ready = λ r. record { calm = refl; started = r.started } };
    start_left = λ flow outer front. record {
      leaves = λ r. tt;
      by = λ f n r fewer. ap (λ v. walked (Reached.Ended v (tree side f (record { frame = outer; front = front; items = items }) r)) m n) (none_died (returned flow));
    };
    comes = comes;
    begins = begins_by (param_shapes side.known here.slots) side.asks refl refl;
    fills = filled;
    born = λ i p. record { by = λ f r. refl; ready = λ r. record { calm = refl; started = r.started } };
  }
