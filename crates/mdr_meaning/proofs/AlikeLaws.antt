-- Trees of one piece of code are alike whatever fuel stands for it, as far as the fuel goes.
use Rattle.std.proofs.Common.{ℕ, zero, suc, ◌<◌, ◌≤◌, Bool, true, false, List, [], ◌∷◌, ◌++◌, ◌==◌, not, nat_lt, slice_get, slice_set, Option, Some, None, Result, Ok, Err, le_refl, pos, arith}
use Rattle.mdr_core.specs.declared.kind.Kind.{Kind}
use Rattle.mdr_core.specs.declared.place.At.{At}
use Rattle.mdr_core.specs.declared.stop.StopKind.{StopKind}
use Rattle.mdr_core.specs.declared.stop.StopKind.TheVariants as stop
use Rattle.mdr_core.specs.declared.types.Ty.TheVariants.{Void}
use Rattle.mdr_core.specs.Code.{Term, Lvalue, Called, CallOf, Goal, Code, Codes}
use Rattle.mdr_core.specs.Conversions.{converted}
use Rattle.mdr_core.specs.Layout.{chosen, zero_value}
use Rattle.mdr_core.specs.Operators.{operated, negated, flipped}
use Rattle.mdr_core.specs.Services.{Service, Kzalloc, Kcalloc, Kfree, Readl, Writel, Printk, RequestIrq, FreeIrq, Deliver, Combolock, Combounlock, Bug, Enter, Leave, service_numbered}
use Rattle.mdr_core.specs.Typing.{Slot}
use Rattle.mdr_meaning.specs.declared.shape.Shape64.{Shape64}
use Rattle.mdr_meaning.specs.declared.wire.Wire.{Wire}
use Rattle.mdr_meaning.specs.declared.wire.Wire.TheVariants as wire
use Rattle.mdr_meaning.specs.Alike.{IsCongruence}
use Rattle.mdr_meaning.specs.Asking.{allocated, asks, counted, serves, serves_by}
use Rattle.mdr_meaning.specs.Bodies.{means, started}
use Rattle.mdr_meaning.specs.Calls.{put, stores, received, keep, function_of, goes_to, deep, direct, through, call_by}
use Rattle.mdr_meaning.specs.Expressions.{given, gives, loads, place, read, slot_of, value, values}
use Rattle.mdr_meaning.specs.Lives.{after_deaths, asked_for, births, births_by, closes, deaths, deaths_by, ends, fills, in_block, object_params, param_shapes, returned, shape_of, with_object}
use Rattle.mdr_meaning.specs.Named.{named_type}
use Rattle.mdr_meaning.specs.Numbers.{Numbered}
use Rattle.mdr_meaning.specs.Pointers.{cast, difference, global, member, moved, related, steps}
use Rattle.mdr_meaning.specs.Sides.{Body, Side, Here, Locals, Flow, Ends, Breaks, Continues, Returns, Next, Go, Means, flow_of, framed, in_here}
use Rattle.mdr_meaning.specs.Statements.{around, characters, declared, declared_by, element, leaves, on_ends, returns, stmt, stmts, texts, turn}
use Rattle.mdr_meaning.specs.Tree.{Tree}
use Rattle.mdr_meaning.specs.Values.{at_kind, first_of, integer, is_true, operand, rest_of, right_operand, truth, wire_of}

module _ (R : ℕ → Tree → Tree → Type 0) (c : IsCongruence R) where
  -- continuations that are alike at r ticks
  record Alike (r : ℕ) (A : Type 0) (k l : A → Tree) : Type 0 where
    at : (x : A) → R r (k x) (l x)

  -- what an evaluation gives is alike where what it goes on with is
  record Keeps (r : ℕ) (A : Type 0) (f : (A → Tree) → Tree) : Type 0 where
    by : (k l : A → Tree) → Alike r A k l → R r (f k) (f l)

  keeps_given : (r : ℕ) (A : Type 0) (at : At) (x : Result A StopKind) → Keeps r A (given at x)
  keeps_given r A at (Ok x) = record { by = λ k l h. h.at x }
  keeps_given r A at (Err kind) = record { by = λ k l h. c.stop r kind at }

  keeps_gives : (r : ℕ) (v : Wire) → Keeps r Wire (gives v)
  keeps_gives r v = record { by = λ k l h. h.at v }

  keeps_read : (r : ℕ) (at : At) (v : Wire) → Keeps r Wire (read at v)
  keeps_read r at (wire.Int kind n) = keeps_gives r (wire.Int kind n)
  keeps_read r at wire.Null = keeps_gives r wire.Null
  keeps_read r at (wire.Ptr v) = record { by = λ k l h. c.fresh r at (wire.Ptr v) k l h.at }
  keeps_read r at wire.Dead = record { by = λ k l h. c.fresh r at wire.Dead k l h.at }
  keeps_read r at (wire.Fn f) = keeps_gives r (wire.Fn f)
  keeps_read r at (wire.Lock s) = keeps_gives r (wire.Lock s)
  keeps_read r at wire.NoValue = keeps_gives r wire.NoValue

  keeps_pick : (r : ℕ) (b : Bool) (f g : (Wire → Tree) → Tree) → Keeps r Wire f → Keeps r Wire g → Keeps r Wire (chosen b f g)
  keeps_pick r true f g a b = a
  keeps_pick r false f g a b = b

  -- one after the other
  keeps_then : (r : ℕ) (A B : Type 0) (f : (A → Tree) → Tree) (g : A → (B → Tree) → Tree) → Keeps r A f → ((x : A) → Keeps r B (g x)) → Keeps r B (λ k. f (λ x. g x k))
  keeps_then r A B f g a b = record { by = λ k l h. a.by (λ x. g x k) (λ x. g x l) (record { at = λ x. (b x).by k l h }) }

  -- a value that was computed goes on
  keeps_made : (r : ℕ) (f : (Wire → Tree) → Tree) (g : Wire → Wire) → Keeps r Wire f → Keeps r Wire (λ k. f (λ x. k (g x)))
  keeps_made r f g a = record { by = λ k l h. a.by (λ x. k (g x)) (λ x. l (g x)) (record { at = λ x. h.at (g x) }) }

  -- a value goes on or stops
  keeps_tested : (r : ℕ) (at : At) (f : (Wire → Tree) → Tree) (g : Wire → Result Wire StopKind) → Keeps r Wire f → Keeps r Wire (λ k. f (λ x. given at (g x) k))
  keeps_tested r at f g a = keeps_then r Wire Wire f (λ x. given at (g x)) a (λ x. keeps_given r Wire at (g x))

  keeps_found : (r : ℕ) (at : At) (found : (Wire → Tree) → Tree) → Keeps r Wire found → Keeps r Wire (λ k. found (λ p. Tree.Load at p k))
  keeps_found r at found a = keeps_then r Wire Wire found (Tree.Load at) a (λ p. record { by = λ k l h. c.load r at p k l h.at })

  keeps_loads : (r : ℕ) (at : At) (s : List Wire) (p : Lvalue) (found : (Wire → Tree) → Tree) → Keeps r Wire found → Keeps r Wire (loads at s p found)
  keeps_loads r at s (Lvalue.Slot i) found a = keeps_read r at (slot_of s i)
  keeps_loads r at s (Lvalue.Object i) found a = keeps_found r at found a
  keeps_loads r at s (Lvalue.Global g) found a = keeps_found r at found a
  keeps_loads r at s (Lvalue.Deref e) found a = keeps_found r at found a
  keeps_loads r at s (Lvalue.Member p f) found a = keeps_found r at found a
  keeps_loads r at s (Lvalue.Index p e) found a = keeps_found r at found a

  module _ (known : Numbered) where
    mutual
      keeps_value : (r : ℕ) (at : At) (s : List Wire) (e : Term) → Keeps r Wire (value known at s e)
      keeps_value r at s (Term.Lit v) = keeps_gives r (wire_of v)
      keeps_value r at s (Term.Load p) = keeps_loads r at s p (place known at s p) (keeps_place r at s p)
      keeps_value r at s (Term.Addr p) = keeps_place r at s p
      keeps_value r at s (Term.Decay p) = keeps_place r at s p
      keeps_value r at s (Term.Neg kind e) = keeps_tested r at (value known at s e) (λ x. at_kind kind (negated kind (operand kind x))) (keeps_value r at s e)
      keeps_value r at s (Term.Flip kind e) = keeps_made r (value known at s e) (λ x. wire.Int kind (flipped kind (operand kind x))) (keeps_value r at s e)
      keeps_value r at s (Term.Not e) = keeps_made r (value known at s e) (λ x. truth (not (is_true x))) (keeps_value r at s e)
      keeps_value r at s (Term.Bin op kind a b) =
          keeps_then r Wire Wire (value known at s a) (λ x k. value known at s b (λ y. given at (at_kind kind (operated op kind (operand kind x) (right_operand op kind (integer y)))) k)) (keeps_value r at s a)
          (λ x. keeps_tested r at (value known at s b) (λ y. at_kind kind (operated op kind (operand kind x) (right_operand op kind (integer y)))) (keeps_value r at s b))
      keeps_value r at s (Term.Rel op a b) =
          keeps_then r Wire Wire (value known at s a) (λ x k. value known at s b (λ y. given at (related known.program op x y) k)) (keeps_value r at s a)
          (λ x. keeps_tested r at (value known at s b) (λ y. related known.program op x y) (keeps_value r at s b))
      keeps_value r at s (Term.And a b) =
          keeps_then r Wire Wire (value known at s a) (λ x k. chosen (is_true x) (value known at s b) (gives (truth false)) (λ y. k (truth (is_true y)))) (keeps_value r at s a)
          (λ x. keeps_made r (chosen (is_true x) (value known at s b) (gives (truth false))) (λ y. truth (is_true y))
          (keeps_pick r (is_true x) (value known at s b) (gives (truth false)) (keeps_value r at s b) (keeps_gives r (truth false))))
      keeps_value r at s (Term.Or a b) =
          keeps_then r Wire Wire (value known at s a) (λ x k. chosen (is_true x) (gives (truth true)) (value known at s b) (λ y. k (truth (is_true y)))) (keeps_value r at s a)
          (λ x. keeps_made r (chosen (is_true x) (gives (truth true)) (value known at s b)) (λ y. truth (is_true y))
          (keeps_pick r (is_true x) (gives (truth true)) (value known at s b) (keeps_gives r (truth true)) (keeps_value r at s b)))
      keeps_value r at s (Term.Conv kind e) = keeps_made r (value known at s e) (λ x. wire.Int kind (converted kind (integer x))) (keeps_value r at s e)
      keeps_value r at s (Term.ToVoid e) = keeps_value r at s e
      keeps_value r at s (Term.FromVoid ty e) = keeps_tested r at (value known at s e) (cast known ty) (keeps_value r at s e)
      keeps_value r at s (Term.Move back p i) =
          keeps_then r Wire Wire (value known at s p) (λ x k. value known at s i (λ n. given at (moved x (steps back (integer n))) k)) (keeps_value r at s p)
          (λ x. keeps_tested r at (value known at s i) (λ n. moved x (steps back (integer n))) (keeps_value r at s i))
      keeps_value r at s (Term.Diff p q) =
          keeps_then r Wire Wire (value known at s p) (λ x k. value known at s q (λ y. given at (difference x y) k)) (keeps_value r at s p)
          (λ x. keeps_tested r at (value known at s q) (difference x) (keeps_value r at s q))

      keeps_place : (r : ℕ) (at : At) (s : List Wire) (p : Lvalue) → Keeps r Wire (place known at s p)
      keeps_place r at s (Lvalue.Slot i) = keeps_gives r wire.Null
      keeps_place r at s (Lvalue.Object i) = keeps_gives r (slot_of s i)
      keeps_place r at s (Lvalue.Global g) = keeps_gives r (global known g)
      keeps_place r at s (Lvalue.Deref e) = keeps_value r at s e
      keeps_place r at s (Lvalue.Member p f) = keeps_tested r at (place known at s p) (λ a. member known a f) (keeps_place r at s p)
      keeps_place r at s (Lvalue.Index p e) =
          keeps_then r Wire Wire (place known at s p) (λ a k. value known at s e (λ n. given at (moved a (integer n)) k)) (keeps_place r at s p)
          (λ a. keeps_tested r at (value known at s e) (λ n. moved a (integer n)) (keeps_value r at s e))

    keeps_values : (r : ℕ) (at : At) (s : List Wire) (es : List Term) → Keeps r (List Wire) (values known at s es)
    keeps_values r at s [] = record { by = λ k l h. h.at [] }
    keeps_values r at s (e ∷ es) =
        keeps_then r Wire (List Wire) (value known at s e) (λ v k. values known at s es (λ vs. k (v ∷ vs))) (keeps_value r at s e)
        (λ v. record { by = λ k l h. (keeps_values r at s es).by (λ vs. k (v ∷ vs)) (λ vs. l (v ∷ vs)) (record { at = λ vs. h.at (v ∷ vs) }) })

    keeps_stored : (r : ℕ) (at : At) (found : (Wire → Tree) → Tree) (v : Wire) (l : Locals) → Keeps r Wire found → Keeps r Locals (λ go. found (λ p. Tree.Store at p v (go l)))
    keeps_stored r at found v l a = record { by = λ j k h. a.by (λ p. Tree.Store at p v (j l)) (λ p. Tree.Store at p v (k l)) (record { at = λ p. c.store r at p v (j l) (k l) (h.at l) }) }

    keeps_stores : (r : ℕ) (at : At) (p : Lvalue) (found : (Wire → Tree) → Tree) (v : Wire) (l : Locals) → Keeps r Wire found → Keeps r Locals (stores at p found v l)
    keeps_stores r at (Lvalue.Slot i) found v l a = record { by = λ j k h. h.at (record { slots = slice_set l.slots i v; born = l.born }) }
    keeps_stores r at (Lvalue.Object i) found v l a = keeps_stored r at found v l a
    keeps_stores r at (Lvalue.Global g) found v l a = keeps_stored r at found v l a
    keeps_stores r at (Lvalue.Deref e) found v l a = keeps_stored r at found v l a
    keeps_stores r at (Lvalue.Member p f) found v l a = keeps_stored r at found v l a
    keeps_stores r at (Lvalue.Index p e) found v l a = keeps_stored r at found v l a

    keeps_put : (r : ℕ) (at : At) (p : Lvalue) (v : Wire) (l : Locals) → Keeps r Locals (put known at p v l)
    keeps_put r at p v l = keeps_stores r at p (place known at l.slots p) v l (keeps_place r at l.slots p)

    keeps_asks : (r n : ℕ) (at : At) (vs : List Wire) (shapes : List Shape64) (bytes : List ℕ) → Keeps r Wire (asks n at vs shapes bytes)
    keeps_asks r n at vs shapes bytes = record { by = λ k l h. c.ask r (asked_for n at vs shapes bytes) (λ rs. k (first_of rs)) (λ rs. l (first_of rs)) (λ rs. h.at (first_of rs)) }

    keeps_serves : (r n : ℕ) (at : At) (form : CallOf) (vs : List Wire) (s : Option Service) → Keeps r Wire (serves_by known n at form vs s)
    keeps_serves r n at form vs None = keeps_asks r n at vs [] []
    keeps_serves r n at form vs (Some Kzalloc) = keeps_asks r n at [] (allocated known form.shape 1) []
    keeps_serves r n at form vs (Some Kcalloc) = keeps_asks r n at [] (allocated known form.shape (counted (first_of vs))) []
    keeps_serves r n at form vs (Some Kfree) = keeps_asks r n at vs [] []
    keeps_serves r n at form vs (Some Readl) = keeps_asks r n at vs [] []
    keeps_serves r n at form vs (Some Writel) = keeps_asks r n at vs [] []
    keeps_serves r n at form vs (Some Printk) = keeps_asks r n at [] [] _
    keeps_serves r n at form vs (Some RequestIrq) = keeps_asks r n at vs [] []
    keeps_serves r n at form vs (Some FreeIrq) = keeps_asks r n at vs [] []
    keeps_serves r n at form vs (Some Deliver) = record {
      by = λ k l h. c.read r at (first_of vs) (counted (first_of (rest_of vs))) _ _ (λ bytes. (keeps_asks r n at [] [] bytes).by k l h);
    }
    keeps_serves r n at form vs (Some Combolock) = keeps_asks r n at vs [] []
    keeps_serves r n at form vs (Some Combounlock) = keeps_asks r n at vs [] []
    keeps_serves r n at form vs (Some Bug) = keeps_asks r n at vs [] []
    keeps_serves r n at form vs (Some Enter) = keeps_asks r n at vs [] []
    keeps_serves r n at form vs (Some Leave) = keeps_asks r n at vs [] []

  keeps_births_by : (r : ℕ) (asks : Bool) (at : At) (shapes : List Shape64) → Keeps r (List Wire) (births_by asks at shapes)
  keeps_births_by r true at shapes = record { by = λ k l h. c.ask r (asked_for 13 at [] shapes []) k l h.at }
  keeps_births_by r false at shapes = record { by = λ k l h. c.birth r at shapes k l h.at }

  keeps_fills : (r : ℕ) (at : At) (is : List ℕ) (ps : List Wire) (l : Locals) → Keeps r Locals (fills at is ps l)
  keeps_fills r at [] ps l = record { by = λ j k h. h.at l }
  keeps_fills r at (i ∷ is) [] l = record { by = λ j k h. h.at l }
  keeps_fills r at (i ∷ is) (p ∷ ps) l = record {
    by = λ j k h. c.store r at p (slot_of l.slots i) (fills at is ps (with_object i p l) j) (fills at is ps (with_object i p l) k)
        ((keeps_fills r at is ps (with_object i p l)).by j k h);
  }

  texts_alike : (r : ℕ) (at : At) (kind : Kind) (p : Wire) (i : ℕ) (bs : List ℕ) (t u : Tree) → R r t u → R r (texts at kind p i bs t) (texts at kind p i bs u)
  texts_alike r at kind p i [] t u h = h
  texts_alike r at kind p i (b ∷ bs) t u h = c.store r at (element p i) (wire.Int kind (converted kind (pos b))) _ _ (texts_alike r at kind p (suc i) bs t u h)

  -- what comes next is alike for so many ticks and for fewer
  pub record Soon (r : ℕ) (k l : Wire → Tree) : Type 0 where
    pub by : (q : ℕ) → q ≤ r → (v : Wire) → R q (k v) (l v)

  pub record AreNext (r : ℕ) (k k' : Next) : Type 0 where
    pub by : (q : ℕ) → q ≤ r → (flow : Flow) (l : Locals) → R q (k flow l) (k' flow l)

  pub record Go_alike (r : ℕ) (go go' : Go) : Type 0 where
    pub by : (q : ℕ) → q ≤ r → (l : Locals) (k k' : Next) → AreNext q k k' → R q (go l k) (go' l k')

  -- two meanings of code that comes later
  pub record AreLater (r : ℕ) (low low' : Means) : Type 0 where
    pub by : (here : Here) (cs : Codes) → Go_alike r (low here cs) (low' here cs)

  pub next_fewer : {r : ℕ} {k k' : Next} (q : ℕ) → q ≤ r → AreNext r k k' → AreNext q k k'
  next_fewer q fewer a = record { by = λ p h. a.by p (omega (arith, h, fewer)) }

  later_fewer : {r : ℕ} {low low' : Means} (q : ℕ) → q ≤ r → AreLater r low low' → AreLater q low low'
  later_fewer q fewer a = record { by = λ here cs. record { by = λ p h. (a.by here cs).by p (omega (arith, h, fewer)) } }

  pub go_fewer : {r : ℕ} {go go' : Go} (q : ℕ) → q ≤ r → Go_alike r go go' → Go_alike q go go'
  go_fewer q fewer a = record { by = λ p h. a.by p (omega (arith, h, fewer)) }

  pick_alike : (r : ℕ) (b : Bool) {f g f' g' : Go} → Go_alike r f f' → Go_alike r g g' → Go_alike r (chosen b f g) (chosen b f' g')
  pick_alike r true a b = a
  pick_alike r false a b = b

  leaves_alike : (r : ℕ) → Go_alike r leaves leaves
  leaves_alike r = record { by = λ q fewer l k k' h. h.by q (le_refl q) Ends l }

  pub keep_alike : (r : ℕ) (known : Numbered) (here : Here) (at : At) (goal : Goal) (v : Wire) → Go_alike r (keep known here at goal v) (keep known here at goal v)
  keep_alike r known here at Goal.Nowhere v = leaves_alike r
  keep_alike r known here at (Goal.Into p) v = record {
    by = λ q fewer l k k' h. (keeps_given q Wire at (received known (named_type known.program here.slots p) v)).by _ _
        (record { at = λ x. (keeps_put known q at p x l).by (k Ends) (k' Ends) (record { at = h.by q (le_refl q) Ends }) });
  }
  keep_alike r known here at Goal.Back v = record { by = λ q fewer l k k' h. (keeps_given q Wire at (received known (Some here.result) v)).by _ _ (record { at = λ x. h.by q (le_refl q) (Returns x) l }) }

  pub on_ends_alike : {r : ℕ} {go go' : Go} {k k' : Next} → Go_alike r go go' → AreNext r k k' → AreNext r (on_ends go k) (on_ends go' k')
  on_ends_alike {r = r} {go = go} {go' = go'} {k = k} {k' = k'} a h = record { by = at } where
    at : (q : ℕ) → q ≤ r → (flow : Flow) (l : Locals) → R q (on_ends go k flow l) (on_ends go' k' flow l)
    at q fewer Ends l = a.by q fewer l k k' (next_fewer q fewer h)
    at q fewer Breaks l = h.by q fewer Breaks l
    at q fewer Continues l = h.by q fewer Continues l
    at q fewer (Returns v) l = h.by q fewer (Returns v) l

  pub around_alike : {r : ℕ} {again again' step step' : Go} {k k' : Next} → Go_alike r again again' → Go_alike r step step' → AreNext r k k' → AreNext r (around again step k) (around again' step' k')
  around_alike {r = r} {again = again} {again' = again'} {step = step} {step' = step'} {k = k} {k' = k'} a b h = record { by = at } where
    at : (q : ℕ) → q ≤ r → (flow : Flow) (l : Locals) → R q (around again step k flow l) (around again' step' k' flow l)
    at q fewer Ends l = b.by q fewer l (on_ends again k) (on_ends again' k') (next_fewer q fewer (on_ends_alike a h))
    at q fewer Breaks l = h.by q fewer Ends l
    at q fewer Continues l = b.by q fewer l (on_ends again k) (on_ends again' k') (next_fewer q fewer (on_ends_alike a h))
    at q fewer (Returns v) l = h.by q fewer (Returns v) l

  module _ (side : Side) where
    keeps_births : (r : ℕ) (here : Here) (shapes : List Shape64) → Keeps r (List Wire) (births side here shapes)
    keeps_births r here [] = record { by = λ k l h. h.at [] }
    keeps_births r here (s ∷ shapes) = keeps_births_by r side.asks (in_here here 0) (s ∷ shapes)

    deaths_by_alike : (r : ℕ) (asks : Bool) (at : At) (ps : List Wire) (t u : Tree) → R r t u → R r (deaths_by asks at ps t) (deaths_by asks at ps u)
    deaths_by_alike r true at ps t u h = c.ask r (asked_for 14 at ps [] []) (λ results. t) (λ results. u) (λ results. h)
    deaths_by_alike r false at ps t u h = c.death r at ps t u h

    deaths_alike : (r : ℕ) (here : Here) (ps : List Wire) (t u : Tree) → R r t u → R r (deaths side here ps t) (deaths side here ps u)
    deaths_alike r here [] t u h = h
    deaths_alike r here (p ∷ ps) t u h = deaths_by_alike r side.asks (in_here here 0) (p ∷ ps) t u h

    pub ends_alike : {r : ℕ} {k k' : Next} (here : Here) (outer : List Wire) → AreNext r k k' → AreNext r (ends side here outer k) (ends side here outer k')
    ends_alike {r = r} {k = k} {k' = k'} here outer h = record { by = at } where
      dies : (q : ℕ) → q ≤ r → (flow : Flow) (l : Locals)
          → R q (deaths side here l.born (k flow (record { slots = l.slots; born = outer }))) (deaths side here l.born (k' flow (record { slots = l.slots; born = outer })))
      dies q fewer flow l = deaths_alike q here l.born _ _ (h.by q fewer flow (record { slots = l.slots; born = outer }))

      at : (q : ℕ) → q ≤ r → (flow : Flow) (l : Locals) → R q (ends side here outer k flow l) (ends side here outer k' flow l)
      at q fewer Ends l = dies q fewer Ends l
      at q fewer Breaks l = dies q fewer Breaks l
      at q fewer Continues l = dies q fewer Continues l
      at q fewer (Returns v) l = h.by q fewer (Returns v) (record { slots = l.slots; born = outer ++ l.born })

    block_alike : {r : ℕ} {go go' : Go} (here : Here) → Go_alike r go go' → Go_alike r (in_block side here go) (in_block side here go')
    block_alike here a = record {
      by = λ q fewer l k k' h. a.by q fewer (record { slots = l.slots; born = [] }) (ends side here l.born k) (ends side here l.born k') (ends_alike here l.born h);
    }

    pub closes_alike : {r : ℕ} {k k' : Wire → Tree} (here : Here) → Soon r k k' → AreNext r (closes side here k) (closes side here k')
    closes_alike here h = record { by = λ q fewer flow l. deaths_alike q here l.born _ _ (h.by q fewer (after_deaths l.born (returned flow))) }

    declared_by_alike : (r : ℕ) (low low' : Means) (here : Here) (object : Bool) (i : ℕ) (s : Slot) → Go_alike r (declared_by side low here object i s) (declared_by side low' here object i s)
    declared_by_alike r low low' here true i s = record {
      by = λ q fewer l k k' h. (keeps_births q here (shape_of side.known s ∷ [])).by _ _ (record { at = λ ps. h.by q (le_refl q) Ends (with_object i (first_of ps) l) });
    }
    declared_by_alike r low low' here false i s = record { by = λ q fewer l k k' h. h.by q (le_refl q) Ends (record { slots = slice_set l.slots i (wire_of (zero_value s.ty)); born = l.born }) }

    declared_alike : (r : ℕ) (low low' : Means) (here : Here) (i : ℕ) (s : Option Slot) → Go_alike r (declared side low here i s) (declared side low' here i s)
    declared_alike r low low' here i None = leaves_alike r
    declared_alike r low low' here i (Some s) = declared_by_alike r low low' here s.object i s

    returns_alike : (r : ℕ) (low low' : Means) (here : Here) (at : At) (e : Option Term) → Go_alike r (returns side low here at e) (returns side low' here at e)
    returns_alike r low low' here at None = record { by = λ q fewer l k k' h. h.by q (le_refl q) (Returns wire.NoValue) l }
    returns_alike r low low' here at (Some e) = record { by = λ q fewer l k k' h. (keeps_value side.known q at l.slots e).by _ _ (record { at = λ v. h.by q (le_refl q) (Returns v) l }) }

    module _ (low low' : Means) where
      turn_alike : {r : ℕ} {again again' step step' body body' : Go} (here : Here) → Go_alike r again again' → Go_alike r step step' → Go_alike r body body'
          → Go_alike r (turn side low here again step body) (turn side low' here again' step' body')
      turn_alike here a b d = record {
        by = λ q fewer l k k' h. (block_alike here d).by q fewer l _ _ (around_alike (go_fewer q fewer a) (go_fewer q fewer b) h);
      }

      goes_to_alike : (r : ℕ) → AreLater r low low' → (here : Here) (at : At) (f : ℕ) (vs : List Wire) (body : Option Body) {k k' : Wire → Tree} → Soon r k k'
          → R r (goes_to side low here at f vs body k) (goes_to side low' here at f vs body k')
      goes_to_alike r later here at f vs None {k = k} {k' = k'} h = c.cross r at f vs here.depth k k' (h.by r (le_refl r))
      goes_to_alike r later here at f vs (Some body) {k = k} {k' = k'} h =
          let inner : Here = record { func = f; depth = suc here.depth; slots = body.slots; result = body.result } in
          (keeps_births r inner (param_shapes side.known body.slots)).by _ _ (record {
            at = λ ps.
                (keeps_fills r (in_here inner 0) (object_params 0 body.slots) ps (record { slots = framed body.slots vs; born = [] })).by
                (λ l. low inner body.code l (closes side inner k)) (λ l. low' inner body.code l (closes side inner k')) (record {
                  at = λ l.
                      (later.by inner body.code).by r (le_refl r) l (closes side inner k) (closes side inner k') (closes_alike inner h);
                });
          })

      direct_alike : (r : ℕ) → AreLater r low low' → (here : Here) (at : At) (f : ℕ) (vs : List Wire) {k k' : Wire → Tree} → Soon r k k'
          → R r (direct side low here at f vs k) (direct side low' here at f vs k')
      direct_alike r later here at f vs {k = k} {k' = k'} h = by_depth (nat_lt here.depth 256) where
        by_depth : (b : Bool) → R r (chosen b (goes_to side low here at f vs (side.own f)) (deep side low here at) k) (chosen b (goes_to side low' here at f vs (side.own f)) (deep side low' here at) k')
        by_depth true = goes_to_alike r later here at f vs (side.own f) h
        by_depth false = c.stop r stop.Depth at

      through_alike : (r : ℕ) → AreLater r low low' → (here : Here) (at : At) (v : Wire) (vs : List Wire) {k k' : Wire → Tree} → Soon r k k'
          → R r (through side low here at v vs k) (through side low' here at v vs k')
      through_alike r later here at v vs h = (keeps_given r ℕ at (function_of v)).by _ _ (record { at = λ f. direct_alike r later here at f vs h })

      -- service 15, and the others
      service_alike : (r : ℕ) → AreLater r low low' → (here : Here) (n : ℕ) (at : At) (form : CallOf) (vs : List Wire) (b : Bool) {k k' : Wire → Tree} → Soon r k k'
          → R r (chosen b (through side low here at (first_of vs) (rest_of vs)) (serves side.known n at form vs) k) (chosen b (through side low' here at (first_of vs) (rest_of vs)) (serves side.known n at form vs) k')
      service_alike r later here n at form vs true h = through_alike r later here at (first_of vs) (rest_of vs) h
      service_alike r later here n at form vs false {k = k} {k' = k'} h = (keeps_serves side.known r n at form vs (service_numbered n)).by k k' (record { at = h.by r (le_refl r) })

      call_alike : (r : ℕ) → AreLater r low low' → (here : Here) (at : At) (s : List Wire) (form : CallOf) (callee : Called) {k k' : Wire → Tree} → Soon r k k'
          → R r (call_by side low here at s form callee k) (call_by side low' here at s form callee k')
      call_alike r later here at s form (Called.Direct f) h = (keeps_values side.known r at s form.args).by _ _ (record { at = λ vs. direct_alike r later here at f vs h })
      call_alike r later here at s form (Called.Through e) {k = k} {k' = k'} h =
          (keeps_value side.known r at s e).by _ _ (record {
            at = λ v.
                (keeps_values side.known r at s form.args).by (λ vs. through side low here at v vs k) (λ vs. through side low' here at v vs k') (record { at = λ vs. through_alike r later here at v vs h });
          })
      call_alike r later here at s form (Called.Service n) h = (keeps_values side.known r at s form.args).by _ _ (record { at = λ vs. service_alike r later here n at form vs (n == 15) h })

      -- what may come later is alike for fewer ticks
      record Sooner (r : ℕ) : Type 0 where
        by : (q : ℕ) → suc q ≤ r → AreLater q low low'

      soon : {r : ℕ} → AreLater r low low' → Sooner r
      soon a = record { by = λ q fewer. later_fewer q (omega (arith, fewer)) a }

      sooner : {r : ℕ} (q : ℕ) → q ≤ r → Sooner r → Sooner q
      sooner q fewer a = record { by = λ p h. a.by p (omega (arith, h, fewer)) }

      tick_alike : (r : ℕ) (here : Here) (n : ℕ) (go go' : Go) → ((q : ℕ) → suc q ≤ r → Go_alike q go go') → Go_alike r (λ l k. Tree.Tick (in_here here n) here.depth (go l k)) (λ l k. Tree.Tick (in_here here n) here.depth (go' l k))
      tick_alike r here n go go' a = record {
        by = λ q fewer l k k' h. c.tick q (in_here here n) here.depth (go l k) (go' l k')
            (λ p less. (a p (omega (arith, less, fewer))).by p (le_refl p) l k k' (next_fewer p (omega (arith, less)) h));
      }

      mutual
        stmt_alike : (r : ℕ) → Sooner r → (here : Here) (code : Code) → Go_alike r (stmt side low here code) (stmt side low' here code)
        stmt_alike r s here (Code.Declare n i) = tick_alike r here n _ _ (λ q less. declared_alike q low low' here i (slice_get here.slots i))
        stmt_alike r s here (Code.Text n i bytes) =
            tick_alike r here n _ _ (λ q less. record {
              by = λ p fewer l k k' h.
                  texts_alike p (in_here here n) (characters (slice_get here.slots i)) (slot_of l.slots i) 0 bytes _ _ (h.by p (le_refl p) Ends l);
            })
        stmt_alike r s here (Code.Assign n target e) =
            tick_alike r here n _ _ (λ q less. record {
              by = λ p fewer l k k' h.
                  (keeps_value side.known p (in_here here n) l.slots e).by _ _ (record {
                    at = λ v.
                        (keeps_put side.known p (in_here here n) target v l).by (k Ends) (k' Ends) (record { at = h.by p (le_refl p) Ends });
                  });
            })
        stmt_alike r s here (Code.Call n goal form) =
            tick_alike r here n _ _ (λ q less. record {
              by = λ p fewer l k k' h.
                  call_alike p (later_fewer p fewer (s.by q less)) here (in_here here n) l.slots form form.callee (record {
                    by = λ o fewer' v.
                        (keep_alike o side.known here (in_here here n) goal v).by o (le_refl o) l k k' (next_fewer o fewer' h);
                  });
            })
        stmt_alike r s here (Code.If n e one other) =
            tick_alike r here n _ _ (λ q less. record {
              by = λ p fewer l k k' h.
                  (keeps_value side.known p (in_here here n) l.slots e).by _ _ (record {
                    at = λ v.
                        (block_alike here (pick_alike p (is_true v)
                        (stmts_alike p (sooner p (omega (arith, less, fewer)) s) here one) (stmts_alike p (sooner p (omega (arith, less, fewer)) s) here other))).by p (le_refl p) l k k' h;
                  });
            })
        stmt_alike r s here (Code.Loop n e step body) =
            tick_alike r here n _ _ (λ q less. record {
              by = λ p fewer l k k' h.
                  (keeps_value side.known p (in_here here n) l.slots e).by _ _ (record {
                    at = λ v.
                        (pick_alike p (is_true v)
                        (turn_alike here (go_fewer p fewer ((s.by q less).by here (Codes.Then (Code.Loop n e step body) Codes.End)))
                        (stmts_alike p (sooner p (omega (arith, less, fewer)) s) here step) (stmts_alike p (sooner p (omega (arith, less, fewer)) s) here body))
                        (leaves_alike p)).by p (le_refl p) l k k' h;
                  });
            })
        stmt_alike r s here (Code.Block cs) = block_alike here (stmts_alike r s here cs)
        stmt_alike r s here (Code.Return n e) = tick_alike r here n _ _ (λ q less. returns_alike q low low' here (in_here here n) e)
        stmt_alike r s here (Code.Jump n way) = tick_alike r here n _ _ (λ q less. record { by = λ p fewer l k k' h. h.by p (le_refl p) (flow_of way) l })

        stmts_alike : (r : ℕ) → Sooner r → (here : Here) (cs : Codes) → Go_alike r (stmts side low here cs) (stmts side low' here cs)
        stmts_alike r s here Codes.End = leaves_alike r
        stmts_alike r s here (Codes.Then code cs) = record {
          by = λ q fewer l k k' h. (stmt_alike r s here code).by q fewer l _ _ (on_ends_alike (go_fewer q fewer (stmts_alike r s here cs)) h);
        }

    -- code at any two fuels above r
    pub means_alike : (n m r : ℕ) → r < n → r < m → AreLater r (means side n) (means side m)
    unfolding means
    means_alike zero m r less less' = absurd (omega (arith, less))
    means_alike (suc n) zero r less less' = absurd (omega (arith, less'))
    means_alike (suc n) (suc m) r less less' = record {
      by = λ here cs. record {
        by = (stmts_alike (means side n) (means side m) r (record { by = λ q fewer. means_alike n m q (omega (arith, fewer, less)) (omega (arith, fewer, less')) }) here cs).by;
      };
    }

    pub started_alike : (n m r func : ℕ) → r < n → r < m → (args : List Wire) (depth : ℕ) (below below' : Tree) → ((q : ℕ) → q ≤ r → R q below below') → R r (started side n func args depth below) (started side m func args depth below')
    unfolding started
    started_alike n m r func less less' args depth below below' h =
        goes_to_alike (means side n) (means side m) r (means_alike n m r less less') (record { func = func; depth = depth; slots = []; result = Void }) (record { func = func; stmt = 0 }) func args (side.own func)
        (record { by = λ q fewer v. c.done q v below below' (h q fewer) })
