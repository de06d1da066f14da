-- The trees of code call the other half with a tick before each call, and deeper than where they began.
use Rattle.std.proofs.Common.{◌≡◌, ℕ, zero, suc, ◌≤◌, ◌<◌, Bool, true, false, not, List, [], ◌∷◌, ◌++◌, ◌+◌, ◌==◌, nat_lt, slice_get, slice_set, Option, Some, None, Result, Ok, Err, refl, sym, subst, le_refl, arith}
use Rattle.mdr_core.specs.declared.kind.Kind.{Kind}
use Rattle.mdr_core.specs.declared.place.At.{At}
use Rattle.mdr_core.specs.declared.stop.StopKind.{StopKind}
use Rattle.mdr_core.specs.declared.stop.StopKind.TheVariants as stop
use Rattle.mdr_core.specs.declared.types.Ty.TheVariants.{Void}
use Rattle.mdr_core.specs.Code.{Term, Lvalue, Called, CallOf, Goal, Code, Codes}
use Rattle.mdr_core.specs.Conversions.{converted}
use Rattle.mdr_core.specs.Layout.{chosen, zero_value}
use Rattle.mdr_core.specs.Operators.{operated, negated, flipped}
use Rattle.mdr_core.specs.Services.{Service, Kzalloc, Kcalloc, Kfree, Readl, Writel, Printk, RequestIrq, FreeIrq, Deliver, Combolock, Combounlock, Bug, Enter, Leave, service_numbered}
use Rattle.mdr_core.specs.Typing.{Slot}
use Rattle.mdr_meaning.specs.declared.shape.Shape64.{Shape64}
use Rattle.mdr_meaning.specs.declared.wire.Wire.{Wire}
use Rattle.mdr_meaning.specs.declared.wire.Wire.TheVariants as wire
use Rattle.mdr_meaning.specs.Asking.{serves, serves_by}
use Rattle.mdr_meaning.specs.Bodies.{means, started}
use Rattle.mdr_meaning.specs.Calls.{put, stores, received, keep, function_of, enters, goes_to, deep, direct, through, call_by}
use Rattle.mdr_meaning.specs.Expressions.{given, gives, loads, place, read, slot_of, value, values}
use Rattle.mdr_callees.specs.Spaced.{CrossingsAreSpaced, Spaced}
use Rattle.mdr_meaning.specs.Lives.{after_deaths, births, births_by, closes, deaths, deaths_by, ends, fills, in_block, object_params, param_shapes, returned, shape_of, with_object}
use Rattle.mdr_meaning.specs.Named.{named_type}
use Rattle.mdr_meaning.specs.Numbers.{Numbered}
use Rattle.mdr_meaning.specs.Pointers.{cast, difference, global, member, moved, related, steps}
use Rattle.mdr_meaning.specs.Sides.{Body, Side, Here, Locals, Flow, Ends, Breaks, Continues, Returns, Next, Go, Means, flow_of, framed, in_here}
use Rattle.mdr_meaning.specs.Statements.{around, characters, declared, declared_by, leaves, on_ends, returns, stmt, stmts, texts, turn}
use Rattle.mdr_meaning.specs.Tree.{Tree}
use Rattle.mdr_meaning.specs.Values.{at_kind, first_of, integer, is_true, operand, rest_of, right_operand, truth, wire_of}

module _ (least : ℕ) where
  -- ---- a call before the next tick may be allowed

  freed : (t : Tree) → Spaced least false t → Spaced least true t
  freed Tree.Idle h = tt
  freed (Tree.Waits k) h = λ vs. freed (k vs) (h vs)
  freed (Tree.Done v t) h = tt
  freed (Tree.Stop kind at) h = tt
  freed (Tree.Tick at d t) h = h
  freed (Tree.Load at p k) h = λ v. freed (k v) (h v)
  freed (Tree.Store at p v t) h = freed t h
  freed (Tree.Read at p n k) h = λ bytes. freed (k bytes) (h bytes)
  freed (Tree.Fresh at v k) h = λ x. freed (k x) (h x)
  freed (Tree.Birth at shapes k) h = λ ps. freed (k ps) (h ps)
  freed (Tree.Death at ps t) h = freed t h
  freed (Tree.Ask asked k) h = λ vs. freed (k vs) (h vs)
  freed (Tree.Cross at func args depth k) h = (refl, h.1, h.2, h.3)

  at_most_255 : (n : ℕ) → nat_lt n 256 ≡ true → n ≤ 255
  at_most_255 n e = let less : n < 256 = grind (arith, e) in omega (arith, less)

  -- ---- evaluations call nothing

  record Passes (free : Bool) (A : Type 0) (f : (A → Tree) → Tree) : Type 0 where
    by : (k : A → Tree) → ((x : A) → Spaced least free (k x)) → Spaced least free (f k)

  passes_given : (free : Bool) (A : Type 0) (at : At) (x : Result A StopKind) → Passes free A (given at x)
  passes_given free A at (Ok x) = record { by = λ k h. h x }
  passes_given free A at (Err kind) = record { by = λ k h. tt }

  passes_gives : (free : Bool) (v : Wire) → Passes free Wire (gives v)
  passes_gives free v = record { by = λ k h. h v }

  passes_read : (free : Bool) (at : At) (v : Wire) → Passes free Wire (read at v)
  passes_read free at (wire.Int kind n) = passes_gives free (wire.Int kind n)
  passes_read free at wire.Null = passes_gives free wire.Null
  passes_read free at (wire.Ptr v) = record { by = λ k h. h }
  passes_read free at wire.Dead = record { by = λ k h. h }
  passes_read free at (wire.Fn f) = passes_gives free (wire.Fn f)
  passes_read free at (wire.Lock s) = passes_gives free (wire.Lock s)
  passes_read free at wire.NoValue = passes_gives free wire.NoValue

  passes_pick : (free : Bool) (b : Bool) (f g : (Wire → Tree) → Tree) → Passes free Wire f → Passes free Wire g → Passes free Wire (chosen b f g)
  passes_pick free true f g a b = a
  passes_pick free false f g a b = b

  -- one after the other
  passes_then : (free : Bool) (A B : Type 0) (f : (A → Tree) → Tree) (g : A → (B → Tree) → Tree) → Passes free A f → ((x : A) → Passes free B (g x)) → Passes free B (λ k. f (λ x. g x k))
  passes_then free A B f g a b = record { by = λ k h. a.by (λ x. g x k) (λ x. (b x).by k h) }

  passes_made : (free : Bool) (f : (Wire → Tree) → Tree) (g : Wire → Wire) → Passes free Wire f → Passes free Wire (λ k. f (λ x. k (g x)))
  passes_made free f g a = record { by = λ k h. a.by (λ x. k (g x)) (λ x. h (g x)) }

  passes_tested : (free : Bool) (at : At) (f : (Wire → Tree) → Tree) (g : Wire → Result Wire StopKind) → Passes free Wire f → Passes free Wire (λ k. f (λ x. given at (g x) k))
  passes_tested free at f g a = passes_then free Wire Wire f (λ x. given at (g x)) a (λ x. passes_given free Wire at (g x))

  passes_found : (free : Bool) (at : At) (found : (Wire → Tree) → Tree) → Passes free Wire found → Passes free Wire (λ k. found (λ p. Tree.Load at p k))
  passes_found free at found a = passes_then free Wire Wire found (Tree.Load at) a (λ p. record { by = λ k h. h })

  passes_loads : (free : Bool) (at : At) (s : List Wire) (p : Lvalue) (found : (Wire → Tree) → Tree) → Passes free Wire found → Passes free Wire (loads at s p found)
  passes_loads free at s (Lvalue.Slot i) found a = passes_read free at (slot_of s i)
  passes_loads free at s (Lvalue.Object i) found a = passes_found free at found a
  passes_loads free at s (Lvalue.Global g) found a = passes_found free at found a
  passes_loads free at s (Lvalue.Deref e) found a = passes_found free at found a
  passes_loads free at s (Lvalue.Member p f) found a = passes_found free at found a
  passes_loads free at s (Lvalue.Index p e) found a = passes_found free at found a

  module _ (known : Numbered) where
    mutual
      passes_value : (free : Bool) (at : At) (s : List Wire) (e : Term) → Passes free Wire (value known at s e)
      passes_value free at s (Term.Lit v) = passes_gives free (wire_of v)
      passes_value free at s (Term.Load p) = passes_loads free at s p (place known at s p) (passes_place free at s p)
      passes_value free at s (Term.Addr p) = passes_place free at s p
      passes_value free at s (Term.Decay p) = passes_place free at s p
      passes_value free at s (Term.Neg kind e) = passes_tested free at (value known at s e) (λ x. at_kind kind (negated kind (operand kind x))) (passes_value free at s e)
      passes_value free at s (Term.Flip kind e) = passes_made free (value known at s e) (λ x. wire.Int kind (flipped kind (operand kind x))) (passes_value free at s e)
      passes_value free at s (Term.Not e) = passes_made free (value known at s e) (λ x. truth (not (is_true x))) (passes_value free at s e)
      passes_value free at s (Term.Bin op kind a b) =
          passes_then free Wire Wire (value known at s a) (λ x k. value known at s b (λ y. given at (at_kind kind (operated op kind (operand kind x) (right_operand op kind (integer y)))) k)) (passes_value free at s a)
          (λ x. passes_tested free at (value known at s b) (λ y. at_kind kind (operated op kind (operand kind x) (right_operand op kind (integer y)))) (passes_value free at s b))
      passes_value free at s (Term.Rel op a b) =
          passes_then free Wire Wire (value known at s a) (λ x k. value known at s b (λ y. given at (related known.program op x y) k)) (passes_value free at s a)
          (λ x. passes_tested free at (value known at s b) (λ y. related known.program op x y) (passes_value free at s b))
      passes_value free at s (Term.And a b) =
          passes_then free Wire Wire (value known at s a) (λ x k. chosen (is_true x) (value known at s b) (gives (truth false)) (λ y. k (truth (is_true y)))) (passes_value free at s a)
          (λ x. passes_made free (chosen (is_true x) (value known at s b) (gives (truth false))) (λ y. truth (is_true y))
          (passes_pick free (is_true x) (value known at s b) (gives (truth false)) (passes_value free at s b) (passes_gives free (truth false))))
      passes_value free at s (Term.Or a b) =
          passes_then free Wire Wire (value known at s a) (λ x k. chosen (is_true x) (gives (truth true)) (value known at s b) (λ y. k (truth (is_true y)))) (passes_value free at s a)
          (λ x. passes_made free (chosen (is_true x) (gives (truth true)) (value known at s b)) (λ y. truth (is_true y))
          (passes_pick free (is_true x) (gives (truth true)) (value known at s b) (passes_gives free (truth true)) (passes_value free at s b)))
      passes_value free at s (Term.Conv kind e) = passes_made free (value known at s e) (λ x. wire.Int kind (converted kind (integer x))) (passes_value free at s e)
      passes_value free at s (Term.ToVoid e) = passes_value free at s e
      passes_value free at s (Term.FromVoid ty e) = passes_tested free at (value known at s e) (cast known ty) (passes_value free at s e)
      passes_value free at s (Term.Move back p i) =
          passes_then free Wire Wire (value known at s p) (λ x k. value known at s i (λ n. given at (moved x (steps back (integer n))) k)) (passes_value free at s p)
          (λ x. passes_tested free at (value known at s i) (λ n. moved x (steps back (integer n))) (passes_value free at s i))
      passes_value free at s (Term.Diff p q) =
          passes_then free Wire Wire (value known at s p) (λ x k. value known at s q (λ y. given at (difference x y) k)) (passes_value free at s p)
          (λ x. passes_tested free at (value known at s q) (difference x) (passes_value free at s q))

      passes_place : (free : Bool) (at : At) (s : List Wire) (p : Lvalue) → Passes free Wire (place known at s p)
      passes_place free at s (Lvalue.Slot i) = passes_gives free wire.Null
      passes_place free at s (Lvalue.Object i) = passes_gives free (slot_of s i)
      passes_place free at s (Lvalue.Global g) = passes_gives free (global known g)
      passes_place free at s (Lvalue.Deref e) = passes_value free at s e
      passes_place free at s (Lvalue.Member p f) = passes_tested free at (place known at s p) (λ a. member known a f) (passes_place free at s p)
      passes_place free at s (Lvalue.Index p e) =
          passes_then free Wire Wire (place known at s p) (λ a k. value known at s e (λ n. given at (moved a (integer n)) k)) (passes_place free at s p)
          (λ a. passes_tested free at (value known at s e) (λ n. moved a (integer n)) (passes_value free at s e))

    passes_values : (free : Bool) (at : At) (s : List Wire) (es : List Term) → Passes free (List Wire) (values known at s es)
    passes_values free at s [] = record { by = λ k h. h [] }
    passes_values free at s (e ∷ es) =
        passes_then free Wire (List Wire) (value known at s e) (λ v k. values known at s es (λ vs. k (v ∷ vs))) (passes_value free at s e)
        (λ v. record { by = λ k h. (passes_values free at s es).by (λ vs. k (v ∷ vs)) (λ vs. h (v ∷ vs)) })

  stored_spaced : (free : Bool) (at : At) (found : (Wire → Tree) → Tree) (v : Wire) (t : Tree) → Passes free Wire found → Spaced least free t → Spaced least free (found (λ p. Tree.Store at p v t))
  stored_spaced free at found v t a h = a.by (λ p. Tree.Store at p v t) (λ p. h)

  -- ---- what comes next

  -- no call comes before its next tick
  record NextSpaced (k : Next) : Type 0 where
    by : (flow : Flow) (l : Locals) → Spaced least false (k flow l)

  record GoSpaced (go : Go) : Type 0 where
    by : (l : Locals) (k : Next) → NextSpaced k → Spaced least false (go l k)

  pick_spaced : (b : Bool) {f g : Go} → GoSpaced f → GoSpaced g → GoSpaced (chosen b f g)
  pick_spaced true a b = a
  pick_spaced false a b = b

  leaves_spaced : GoSpaced leaves
  leaves_spaced = record { by = λ l k h. h.by Ends l }

  on_ends_spaced : {go : Go} {k : Next} → GoSpaced go → NextSpaced k → NextSpaced (on_ends go k)
  on_ends_spaced {go = go} {k = k} a h = record { by = at } where
    at : (flow : Flow) (l : Locals) → Spaced least false (on_ends go k flow l)
    at Ends l = a.by l k h
    at Breaks l = h.by Breaks l
    at Continues l = h.by Continues l
    at (Returns v) l = h.by (Returns v) l

  around_spaced : {again step : Go} {k : Next} → GoSpaced again → GoSpaced step → NextSpaced k → NextSpaced (around again step k)
  around_spaced {again = again} {step = step} {k = k} a b h = record { by = at } where
    at : (flow : Flow) (l : Locals) → Spaced least false (around again step k flow l)
    at Ends l = b.by l (on_ends again k) (on_ends_spaced a h)
    at Breaks l = h.by Ends l
    at Continues l = b.by l (on_ends again k) (on_ends_spaced a h)
    at (Returns v) l = h.by (Returns v) l

  stores_spaced : (free : Bool) (at : At) (p : Lvalue) (found : (Wire → Tree) → Tree) (v : Wire) (l : Locals) (k : Locals → Tree) → Passes free Wire found → ((l : Locals) → Spaced least free (k l)) → Spaced least free (stores at p found v l k)
  stores_spaced free at (Lvalue.Slot i) found v l k a h = h (record { slots = slice_set l.slots i v; born = l.born })
  stores_spaced free at (Lvalue.Object i) found v l k a h = stored_spaced free at found v (k l) a (h l)
  stores_spaced free at (Lvalue.Global g) found v l k a h = stored_spaced free at found v (k l) a (h l)
  stores_spaced free at (Lvalue.Deref e) found v l k a h = stored_spaced free at found v (k l) a (h l)
  stores_spaced free at (Lvalue.Member p f) found v l k a h = stored_spaced free at found v (k l) a (h l)
  stores_spaced free at (Lvalue.Index p e) found v l k a h = stored_spaced free at found v (k l) a (h l)

  put_spaced : (known : Numbered) (free : Bool) (at : At) (p : Lvalue) (v : Wire) (l : Locals) (k : Locals → Tree) → ((l : Locals) → Spaced least free (k l)) → Spaced least free (put known at p v l k)
  put_spaced known free at p v l k h = stores_spaced free at p (place known at l.slots p) v l k (passes_place known free at l.slots p) h

  keep_spaced : (known : Numbered) (here : Here) (at : At) (goal : Goal) (v : Wire) → GoSpaced (keep known here at goal v)
  keep_spaced known here at Goal.Nowhere v = leaves_spaced
  keep_spaced known here at (Goal.Into p) v = record {
    by = λ l k h. (passes_given false Wire at (received known (named_type known.program here.slots p) v)).by (λ x. put known at p x l (k Ends)) (λ x. put_spaced known false at p x l (k Ends) (λ l'. h.by Ends l'));
  }
  keep_spaced known here at Goal.Back v = record { by = λ l k h. (passes_given false Wire at (received known (Some here.result) v)).by (λ x. k (Returns x) l) (λ x. h.by (Returns x) l) }

  texts_spaced : (free : Bool) (at : At) (kind : Kind) (p : Wire) (i : ℕ) (bs : List ℕ) (t : Tree) → Spaced least free t → Spaced least free (texts at kind p i bs t)
  texts_spaced free at kind p i [] t h = h
  texts_spaced free at kind p i (b ∷ bs) t h = texts_spaced free at kind p (suc i) bs t h

  -- ---- questions

  serves_spaced : (known : Numbered) (free : Bool) (n : ℕ) (at : At) (form : CallOf) (vs : List Wire) (s : Option Service) (k : Wire → Tree) → ((v : Wire) → Spaced least free (k v)) → Spaced least free (serves_by known n at form vs s k)
  serves_spaced known free n at form vs None k h = λ rs. h (first_of rs)
  serves_spaced known free n at form vs (Some Kzalloc) k h = λ rs. h (first_of rs)
  serves_spaced known free n at form vs (Some Kcalloc) k h = λ rs. h (first_of rs)
  serves_spaced known free n at form vs (Some Kfree) k h = λ rs. h (first_of rs)
  serves_spaced known free n at form vs (Some Readl) k h = λ rs. h (first_of rs)
  serves_spaced known free n at form vs (Some Writel) k h = λ rs. h (first_of rs)
  serves_spaced known free n at form vs (Some Printk) k h = λ rs. h (first_of rs)
  serves_spaced known free n at form vs (Some RequestIrq) k h = λ rs. h (first_of rs)
  serves_spaced known free n at form vs (Some FreeIrq) k h = λ rs. h (first_of rs)
  serves_spaced known free n at form vs (Some Deliver) k h = λ bytes rs. h (first_of rs)
  serves_spaced known free n at form vs (Some Combolock) k h = λ rs. h (first_of rs)
  serves_spaced known free n at form vs (Some Combounlock) k h = λ rs. h (first_of rs)
  serves_spaced known free n at form vs (Some Bug) k h = λ rs. h (first_of rs)
  serves_spaced known free n at form vs (Some Enter) k h = λ rs. h (first_of rs)
  serves_spaced known free n at form vs (Some Leave) k h = λ rs. h (first_of rs)

  -- ---- objects of locals

  module _ (side : Side) where
    births_by_spaced : (free asks : Bool) (at : At) (shapes : List Shape64) (k : List Wire → Tree) → ((ps : List Wire) → Spaced least free (k ps)) → Spaced least free (births_by asks at shapes k)
    births_by_spaced free true at shapes k h = h
    births_by_spaced free false at shapes k h = h

    births_spaced : (free : Bool) (here : Here) (shapes : List Shape64) (k : List Wire → Tree) → ((ps : List Wire) → Spaced least free (k ps)) → Spaced least free (births side here shapes k)
    births_spaced free here [] k h = h []
    births_spaced free here (s ∷ shapes) k h = births_by_spaced free side.asks (in_here here 0) (s ∷ shapes) k h

    deaths_spaced : (free : Bool) (here : Here) (ps : List Wire) (t : Tree) → Spaced least free t → Spaced least free (deaths side here ps t)
    deaths_spaced free here [] t h = h
    deaths_spaced free here (p ∷ ps) t h = by_side side.asks where
      by_side : (asks : Bool) → Spaced least free (deaths_by asks (in_here here 0) (p ∷ ps) t)
      by_side true = λ results. h
      by_side false = h

    ends_spaced : {k : Next} (here : Here) (outer : List Wire) → NextSpaced k → NextSpaced (ends side here outer k)
    ends_spaced {k = k} here outer h = record { by = at } where
      at : (flow : Flow) (l : Locals) → Spaced least false (ends side here outer k flow l)
      at Ends l = deaths_spaced false here l.born _ (h.by Ends (record { slots = l.slots; born = outer }))
      at Breaks l = deaths_spaced false here l.born _ (h.by Breaks (record { slots = l.slots; born = outer }))
      at Continues l = deaths_spaced false here l.born _ (h.by Continues (record { slots = l.slots; born = outer }))
      at (Returns v) l = h.by (Returns v) (record { slots = l.slots; born = outer ++ l.born })

    block_spaced : {go : Go} (here : Here) → GoSpaced go → GoSpaced (in_block side here go)
    block_spaced here a = record { by = λ l k h. a.by (record { slots = l.slots; born = [] }) (ends side here l.born k) (ends_spaced here l.born h) }

    closes_spaced : (here : Here) (k : Wire → Tree) → ((v : Wire) → Spaced least false (k v)) → NextSpaced (closes side here k)
    closes_spaced here k h = record { by = λ flow l. deaths_spaced false here l.born (k (after_deaths l.born (returned flow))) (h (after_deaths l.born (returned flow))) }

    fills_spaced : (free : Bool) (at : At) (is : List ℕ) (ps : List Wire) (l : Locals) (go : Locals → Tree) → ((l : Locals) → Spaced least free (go l)) → Spaced least free (fills at is ps l go)
    fills_spaced free at [] ps l go h = h l
    fills_spaced free at (i ∷ is) [] l go h = h l
    fills_spaced free at (i ∷ is) (p ∷ ps) l go h = fills_spaced free at is ps (with_object i p l) go h

    -- ---- calls

    -- code that is entered by a function that lies so deep has no call before its first tick
    abbrev MeansSpaced : Means → Type 0
    MeansSpaced low = (here : Here) (cs : Codes) → suc least ≤ here.depth → GoSpaced (low here cs)

    module _ (low : Means) (later : MeansSpaced low) where
      enters_spaced : (here inner : Here) (body : Body) (vs : List Wire) (k : Wire → Tree) → suc least ≤ inner.depth → ((v : Wire) → Spaced least false (k v)) → Spaced least false (enters side low here inner body vs k)
      enters_spaced here inner body vs k deep h =
          births_spaced false inner (param_shapes side.known body.slots) _
          (λ ps. fills_spaced false (in_here inner 0) (object_params 0 body.slots) ps (record { slots = framed body.slots vs; born = [] }) (λ l. low inner body.code l (closes side inner k))
          (λ l. (later inner body.code deep).by l (closes side inner k) (closes_spaced inner k h)))

      module _ (here : Here) (lies : suc least ≤ here.depth) where
        turn_spaced : {again step body : Go} → GoSpaced again → GoSpaced step → GoSpaced body → GoSpaced (turn side low here again step body)
        turn_spaced a b e = record { by = λ l k h. (block_spaced here e).by l _ (around_spaced a b h) }

        goes_to_spaced : (at : At) (f : ℕ) (vs : List Wire) (body : Option Body) (k : Wire → Tree) → nat_lt here.depth 256 ≡ true → ((v : Wire) → Spaced least false (k v)) → Spaced least true (goes_to side low here at f vs body k)
        goes_to_spaced at f vs None k few h = (refl, lies, at_most_255 here.depth few, h)
        goes_to_spaced at f vs (Some body) k few h =
            freed (enters side low here (record { func = f; depth = suc here.depth; slots = body.slots; result = body.result }) body vs k)
            (enters_spaced here (record { func = f; depth = suc here.depth; slots = body.slots; result = body.result }) body vs k (omega (arith, lies)) h)

        direct_spaced : (at : At) (f : ℕ) (vs : List Wire) (k : Wire → Tree) → ((v : Wire) → Spaced least false (k v)) → Spaced least true (direct side low here at f vs k)
        direct_spaced at f vs k h = by_depth (nat_lt here.depth 256) refl where
          by_depth : (b : Bool) → nat_lt here.depth 256 ≡ b → Spaced least true (chosen b (goes_to side low here at f vs (side.own f)) (deep side low here at) k)
          by_depth true e = goes_to_spaced at f vs (side.own f) k e h
          by_depth false e = tt

        through_spaced : (at : At) (v : Wire) (vs : List Wire) (k : Wire → Tree) → ((v : Wire) → Spaced least false (k v)) → Spaced least true (through side low here at v vs k)
        through_spaced at v vs k h = (passes_given true ℕ at (function_of v)).by _ (λ f. direct_spaced at f vs k h)

        service_spaced : (n : ℕ) (at : At) (form : CallOf) (vs : List Wire) (b : Bool) (k : Wire → Tree) → ((v : Wire) → Spaced least false (k v))
            → Spaced least true (chosen b (through side low here at (first_of vs) (rest_of vs)) (serves side.known n at form vs) k)
        service_spaced n at form vs true k h = through_spaced at (first_of vs) (rest_of vs) k h
        service_spaced n at form vs false k h = serves_spaced side.known true n at form vs (service_numbered n) k (λ v. freed (k v) (h v))

        call_spaced : (at : At) (s : List Wire) (form : CallOf) (callee : Called) (k : Wire → Tree) → ((v : Wire) → Spaced least false (k v)) → Spaced least true (call_by side low here at s form callee k)
        call_spaced at s form (Called.Direct f) k h = (passes_values side.known true at s form.args).by _ (λ vs. direct_spaced at f vs k h)
        call_spaced at s form (Called.Through e) k h = (passes_value side.known true at s e).by _ (λ v. (passes_values side.known true at s form.args).by _ (λ vs. through_spaced at v vs k h))
        call_spaced at s form (Called.Service n) k h = (passes_values side.known true at s form.args).by _ (λ vs. service_spaced n at form vs (n == 15) k h)

        -- ---- statements

        declared_by_spaced : (object : Bool) (i : ℕ) (s : Slot) (l : Locals) (k : Next) → NextSpaced k → Spaced least true (declared_by side low here object i s l k)
        declared_by_spaced true i s l k h = births_spaced true here (shape_of side.known s ∷ []) _ (λ ps. freed (k Ends (with_object i (first_of ps) l)) (h.by Ends (with_object i (first_of ps) l)))
        declared_by_spaced false i s l k h = freed (k Ends (record { slots = slice_set l.slots i (wire_of (zero_value s.ty)); born = l.born })) (h.by Ends (record { slots = slice_set l.slots i (wire_of (zero_value s.ty)); born = l.born }))

        declared_spaced : (i : ℕ) (s : Option Slot) (l : Locals) (k : Next) → NextSpaced k → Spaced least true (declared side low here i s l k)
        declared_spaced i None l k h = freed (k Ends l) (h.by Ends l)
        declared_spaced i (Some s) l k h = declared_by_spaced s.object i s l k h

        returns_spaced : (at : At) (e : Option Term) (l : Locals) (k : Next) → NextSpaced k → Spaced least true (returns side low here at e l k)
        returns_spaced at None l k h = freed (k (Returns wire.NoValue) l) (h.by (Returns wire.NoValue) l)
        returns_spaced at (Some e) l k h = (passes_value side.known true at l.slots e).by _ (λ v. freed (k (Returns v) l) (h.by (Returns v) l))

        mutual
          stmt_spaced : (code : Code) → GoSpaced (stmt side low here code)
          stmt_spaced (Code.Declare n i) = record { by = λ l k h. declared_spaced i (slice_get here.slots i) l k h }
          stmt_spaced (Code.Text n i bytes) = record {
            by = λ l k h. texts_spaced true (in_here here n) (characters (slice_get here.slots i)) (slot_of l.slots i) 0 bytes (k Ends l) (freed (k Ends l) (h.by Ends l));
          }
          stmt_spaced (Code.Assign n target e) = record {
            by = λ l k h. (passes_value side.known true (in_here here n) l.slots e).by _ (λ v. put_spaced side.known true (in_here here n) target v l (k Ends) (λ l'. freed (k Ends l') (h.by Ends l')));
          }
          stmt_spaced (Code.Call n goal form) = record {
            by = λ l k h. call_spaced (in_here here n) l.slots form form.callee _ (λ v. (keep_spaced side.known here (in_here here n) goal v).by l k h);
          }
          stmt_spaced (Code.If n e one other) = record {
            by = λ l k h. (passes_value side.known true (in_here here n) l.slots e).by _ (λ v. freed (in_block side here (chosen (is_true v) (stmts side low here one) (stmts side low here other)) l k)
                ((block_spaced here (pick_spaced (is_true v) (stmts_spaced one) (stmts_spaced other))).by l k h));
          }
          stmt_spaced (Code.Loop n e step body) = record {
            by = λ l k h. (passes_value side.known true (in_here here n) l.slots e).by _ (λ v.
                freed (chosen (is_true v) (turn side low here (low here (Codes.Then (Code.Loop n e step body) Codes.End)) (stmts side low here step) (stmts side low here body)) leaves l k)
                ((pick_spaced (is_true v) (turn_spaced (later here (Codes.Then (Code.Loop n e step body) Codes.End) lies) (stmts_spaced step) (stmts_spaced body)) leaves_spaced).by l k h));
          }
          stmt_spaced (Code.Block cs) = block_spaced here (stmts_spaced cs)
          stmt_spaced (Code.Return n e) = record { by = λ l k h. returns_spaced (in_here here n) e l k h }
          stmt_spaced (Code.Jump n way) = record { by = λ l k h. freed (k (flow_of way) l) (h.by (flow_of way) l) }

          stmts_spaced : (cs : Codes) → GoSpaced (stmts side low here cs)
          stmts_spaced Codes.End = leaves_spaced
          stmts_spaced (Codes.Then code cs) = record { by = λ l k h. (stmt_spaced code).by l _ (on_ends_spaced (stmts_spaced cs) h) }

    means_spaced : (n : ℕ) → MeansSpaced (means side n)
    unfolding means
    means_spaced zero here cs deep = record { by = λ l k h. tt }
    means_spaced (suc n) here cs deep = record { by = (stmts_spaced (means side n) (means_spaced n) here deep cs).by }

    started_spaced : (n func : ℕ) (args : List Wire) (body : Body) → side.own func ≡ Some body → (below : Tree) → Spaced least false (started side n func args least below)
    unfolding started
    started_spaced n func args body own below =
        let here : Here = record { func = func; depth = least; slots = []; result = Void } in
        subst (λ (o : Option Body). Spaced least false (goes_to side (means side n) here (record { func = func; stmt = 0 }) func args o (λ v. Tree.Done v below))) (sym own)
        (enters_spaced (means side n) (means_spaced n) here (record { func = func; depth = suc least; slots = body.slots; result = body.result }) body args (λ v. Tree.Done v below) (le_refl (suc least)) (λ v. tt))

pub crossings_are_spaced : CrossingsAreSpaced
crossings_are_spaced side n func args depth body own below = started_spaced depth side n func args body own below
