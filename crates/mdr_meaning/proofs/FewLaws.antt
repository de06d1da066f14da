-- The trees of code ask few questions.
use Rattle.std.proofs.Common.{ℕ, zero, suc, ◌≤◌, Bool, true, false, not, List, [], ◌∷◌, ◌++◌, ◌+◌, ◌==◌, nat_lt, slice_get, slice_set, Option, Some, None, Result, Ok, Err, le_refl, pos, arith}
use Rattle.mdr_core.specs.declared.kind.Kind.{Kind}
use Rattle.mdr_core.specs.declared.place.At.{At}
use Rattle.mdr_core.specs.declared.stop.StopKind.{StopKind}
use Rattle.mdr_core.specs.declared.stop.StopKind.TheVariants as stop
use Rattle.mdr_core.specs.declared.types.Ty.TheVariants.{Void}
use Rattle.mdr_core.specs.Code.{Term, Lvalue, Called, CallOf, Goal, Code, Codes}
use Rattle.mdr_core.specs.Conversions.{converted}
use Rattle.mdr_core.specs.Layout.{chosen, zero_value}
use Rattle.mdr_core.specs.Operators.{operated, negated, flipped}
use Rattle.mdr_core.specs.Services.{Service, Kzalloc, Kcalloc, Kfree, Readl, Writel, Printk, RequestIrq, FreeIrq, Deliver, Combolock, Combounlock, Bug, Enter, Leave, service_numbered}
use Rattle.mdr_core.specs.Typing.{Slot}
use Rattle.mdr_meaning.specs.declared.shape.Shape64.{Shape64}
use Rattle.mdr_meaning.specs.declared.wire.Wire.{Wire}
use Rattle.mdr_meaning.specs.declared.wire.Wire.TheVariants as wire
use Rattle.mdr_meaning.specs.Asking.{allocated, asks, counted, serves, serves_by}
use Rattle.mdr_meaning.specs.Bodies.{means, started}
use Rattle.mdr_meaning.specs.Calls.{put, stores, received, keep, function_of, enters, goes_to, deep, direct, through, call_by}
use Rattle.mdr_meaning.specs.Expressions.{given, gives, loads, place, read, slot_of, value, values}
use Rattle.mdr_meaning.specs.Few.{Few, few_done, few_stop, few_tick, few_load, few_store, few_read, few_fresh, few_birth, few_death, few_ask, few_cross, QuestionsAreFew}
use Rattle.mdr_meaning.specs.Lives.{after_deaths, asked_for, births, births_by, closes, deaths, deaths_by, ends, fills, in_block, object_params, param_shapes, returned, shape_of, with_object}
use Rattle.mdr_meaning.specs.Named.{named_type}
use Rattle.mdr_meaning.specs.Numbers.{Numbered}
use Rattle.mdr_meaning.specs.Pointers.{cast, difference, global, member, moved, related, steps}
use Rattle.mdr_meaning.specs.Sides.{Body, Side, Here, Locals, Flow, Ends, Breaks, Continues, Returns, Next, Go, Means, flow_of, framed, in_here}
use Rattle.mdr_meaning.specs.Statements.{around, characters, declared, declared_by, element, leaves, on_ends, returns, stmt, stmts, texts, turn}
use Rattle.mdr_meaning.specs.Tree.{Tree}
use Rattle.mdr_meaning.specs.Values.{at_kind, first_of, integer, is_true, operand, rest_of, right_operand, truth, wire_of}

-- ---- evaluations ask nothing

record Keeps (c : ℕ) (A : Type 0) (f : (A → Tree) → Tree) : Type 0 where
  by : (k : A → Tree) → ((x : A) → Few c (k x)) → Few c (f k)

keeps_given : (c : ℕ) (A : Type 0) (at : At) (x : Result A StopKind) → Keeps c A (given at x)
keeps_given c A at (Ok x) = record { by = λ k h. h x }
keeps_given c A at (Err kind) = record { by = λ k h. few_stop c kind at }

keeps_gives : (c : ℕ) (v : Wire) → Keeps c Wire (gives v)
keeps_gives c v = record { by = λ k h. h v }

keeps_read : (c : ℕ) (at : At) (v : Wire) → Keeps c Wire (read at v)
keeps_read c at (wire.Int kind n) = keeps_gives c (wire.Int kind n)
keeps_read c at wire.Null = keeps_gives c wire.Null
keeps_read c at (wire.Ptr v) = record { by = λ k h. few_fresh c at (wire.Ptr v) k h }
keeps_read c at wire.Dead = record { by = λ k h. few_fresh c at wire.Dead k h }
keeps_read c at (wire.Fn f) = keeps_gives c (wire.Fn f)
keeps_read c at (wire.Lock s) = keeps_gives c (wire.Lock s)
keeps_read c at wire.NoValue = keeps_gives c wire.NoValue

keeps_pick : (c : ℕ) (b : Bool) (f g : (Wire → Tree) → Tree) → Keeps c Wire f → Keeps c Wire g → Keeps c Wire (chosen b f g)
keeps_pick c true f g a b = a
keeps_pick c false f g a b = b

-- one after the other
keeps_then : (c : ℕ) (A B : Type 0) (f : (A → Tree) → Tree) (g : A → (B → Tree) → Tree) → Keeps c A f → ((x : A) → Keeps c B (g x)) → Keeps c B (λ k. f (λ x. g x k))
keeps_then c A B f g a b = record { by = λ k h. a.by (λ x. g x k) (λ x. (b x).by k h) }

keeps_made : (c : ℕ) (f : (Wire → Tree) → Tree) (g : Wire → Wire) → Keeps c Wire f → Keeps c Wire (λ k. f (λ x. k (g x)))
keeps_made c f g a = record { by = λ k h. a.by (λ x. k (g x)) (λ x. h (g x)) }

keeps_tested : (c : ℕ) (at : At) (f : (Wire → Tree) → Tree) (g : Wire → Result Wire StopKind) → Keeps c Wire f → Keeps c Wire (λ k. f (λ x. given at (g x) k))
keeps_tested c at f g a = keeps_then c Wire Wire f (λ x. given at (g x)) a (λ x. keeps_given c Wire at (g x))

keeps_found : (c : ℕ) (at : At) (found : (Wire → Tree) → Tree) → Keeps c Wire found → Keeps c Wire (λ k. found (λ p. Tree.Load at p k))
keeps_found c at found a = keeps_then c Wire Wire found (Tree.Load at) a (λ p. record { by = λ k h. few_load c at p k h })

keeps_loads : (c : ℕ) (at : At) (s : List Wire) (p : Lvalue) (found : (Wire → Tree) → Tree) → Keeps c Wire found → Keeps c Wire (loads at s p found)
keeps_loads c at s (Lvalue.Slot i) found a = keeps_read c at (slot_of s i)
keeps_loads c at s (Lvalue.Object i) found a = keeps_found c at found a
keeps_loads c at s (Lvalue.Global g) found a = keeps_found c at found a
keeps_loads c at s (Lvalue.Deref e) found a = keeps_found c at found a
keeps_loads c at s (Lvalue.Member p f) found a = keeps_found c at found a
keeps_loads c at s (Lvalue.Index p e) found a = keeps_found c at found a

module _ (known : Numbered) where
  mutual
    keeps_value : (c : ℕ) (at : At) (s : List Wire) (e : Term) → Keeps c Wire (value known at s e)
    keeps_value c at s (Term.Lit v) = keeps_gives c (wire_of v)
    keeps_value c at s (Term.Load p) = keeps_loads c at s p (place known at s p) (keeps_place c at s p)
    keeps_value c at s (Term.Addr p) = keeps_place c at s p
    keeps_value c at s (Term.Decay p) = keeps_place c at s p
    keeps_value c at s (Term.Neg kind e) = keeps_tested c at (value known at s e) (λ x. at_kind kind (negated kind (operand kind x))) (keeps_value c at s e)
    keeps_value c at s (Term.Flip kind e) = keeps_made c (value known at s e) (λ x. wire.Int kind (flipped kind (operand kind x))) (keeps_value c at s e)
    keeps_value c at s (Term.Not e) = keeps_made c (value known at s e) (λ x. truth (not (is_true x))) (keeps_value c at s e)
    keeps_value c at s (Term.Bin op kind a b) =
        keeps_then c Wire Wire (value known at s a) (λ x k. value known at s b (λ y. given at (at_kind kind (operated op kind (operand kind x) (right_operand op kind (integer y)))) k)) (keeps_value c at s a)
        (λ x. keeps_tested c at (value known at s b) (λ y. at_kind kind (operated op kind (operand kind x) (right_operand op kind (integer y)))) (keeps_value c at s b))
    keeps_value c at s (Term.Rel op a b) =
        keeps_then c Wire Wire (value known at s a) (λ x k. value known at s b (λ y. given at (related known.program op x y) k)) (keeps_value c at s a)
        (λ x. keeps_tested c at (value known at s b) (λ y. related known.program op x y) (keeps_value c at s b))
    keeps_value c at s (Term.And a b) =
        keeps_then c Wire Wire (value known at s a) (λ x k. chosen (is_true x) (value known at s b) (gives (truth false)) (λ y. k (truth (is_true y)))) (keeps_value c at s a)
        (λ x. keeps_made c (chosen (is_true x) (value known at s b) (gives (truth false))) (λ y. truth (is_true y))
        (keeps_pick c (is_true x) (value known at s b) (gives (truth false)) (keeps_value c at s b) (keeps_gives c (truth false))))
    keeps_value c at s (Term.Or a b) =
        keeps_then c Wire Wire (value known at s a) (λ x k. chosen (is_true x) (gives (truth true)) (value known at s b) (λ y. k (truth (is_true y)))) (keeps_value c at s a)
        (λ x. keeps_made c (chosen (is_true x) (gives (truth true)) (value known at s b)) (λ y. truth (is_true y))
        (keeps_pick c (is_true x) (gives (truth true)) (value known at s b) (keeps_gives c (truth true)) (keeps_value c at s b)))
    keeps_value c at s (Term.Conv kind e) = keeps_made c (value known at s e) (λ x. wire.Int kind (converted kind (integer x))) (keeps_value c at s e)
    keeps_value c at s (Term.ToVoid e) = keeps_value c at s e
    keeps_value c at s (Term.FromVoid ty e) = keeps_tested c at (value known at s e) (cast known ty) (keeps_value c at s e)
    keeps_value c at s (Term.Move back p i) =
        keeps_then c Wire Wire (value known at s p) (λ x k. value known at s i (λ n. given at (moved x (steps back (integer n))) k)) (keeps_value c at s p)
        (λ x. keeps_tested c at (value known at s i) (λ n. moved x (steps back (integer n))) (keeps_value c at s i))
    keeps_value c at s (Term.Diff p q) =
        keeps_then c Wire Wire (value known at s p) (λ x k. value known at s q (λ y. given at (difference x y) k)) (keeps_value c at s p)
        (λ x. keeps_tested c at (value known at s q) (difference x) (keeps_value c at s q))

    keeps_place : (c : ℕ) (at : At) (s : List Wire) (p : Lvalue) → Keeps c Wire (place known at s p)
    keeps_place c at s (Lvalue.Slot i) = keeps_gives c wire.Null
    keeps_place c at s (Lvalue.Object i) = keeps_gives c (slot_of s i)
    keeps_place c at s (Lvalue.Global g) = keeps_gives c (global known g)
    keeps_place c at s (Lvalue.Deref e) = keeps_value c at s e
    keeps_place c at s (Lvalue.Member p f) = keeps_tested c at (place known at s p) (λ a. member known a f) (keeps_place c at s p)
    keeps_place c at s (Lvalue.Index p e) =
        keeps_then c Wire Wire (place known at s p) (λ a k. value known at s e (λ n. given at (moved a (integer n)) k)) (keeps_place c at s p)
        (λ a. keeps_tested c at (value known at s e) (λ n. moved a (integer n)) (keeps_value c at s e))

  keeps_values : (c : ℕ) (at : At) (s : List Wire) (es : List Term) → Keeps c (List Wire) (values known at s es)
  keeps_values c at s [] = record { by = λ k h. h [] }
  keeps_values c at s (e ∷ es) =
      keeps_then c Wire (List Wire) (value known at s e) (λ v k. values known at s es (λ vs. k (v ∷ vs))) (keeps_value c at s e)
      (λ v. record { by = λ k h. (keeps_values c at s es).by (λ vs. k (v ∷ vs)) (λ vs. h (v ∷ vs)) })

stored_few : (c : ℕ) (at : At) (found : (Wire → Tree) → Tree) (v : Wire) (t : Tree) → Keeps c Wire found → Few c t → Few c (found (λ p. Tree.Store at p v t))
stored_few c at found v t a h = a.by (λ p. Tree.Store at p v t) (λ p. few_store c at p v t h)

-- ---- questions that are owed

-- a block that has objects owes one question, whatever their number
abbrev owed : List Wire → ℕ
owed [] = 0
owed (p ∷ ps) = 1

-- what comes next has enough with what is owed around the block and in it
record NextFew (d : ℕ) (k : Next) : Type 0 where
  by : (c : ℕ) (flow : Flow) (l : Locals) → d + owed l.born ≤ c → Few c (k flow l)

record GoFew (go : Go) : Type 0 where
  by : (d c : ℕ) (l : Locals) (k : Next) → d + owed l.born ≤ c → NextFew d k → Few c (go l k)

pick_few : (b : Bool) {f g : Go} → GoFew f → GoFew g → GoFew (chosen b f g)
pick_few true a b = a
pick_few false a b = b

leaves_few : GoFew leaves
leaves_few = record { by = λ d c l k m h. h.by c Ends l m }

on_ends_few : {d : ℕ} {go : Go} {k : Next} → GoFew go → NextFew d k → NextFew d (on_ends go k)
on_ends_few {d = d} {go = go} {k = k} a h = record { by = at } where
  at : (c : ℕ) (flow : Flow) (l : Locals) → d + owed l.born ≤ c → Few c (on_ends go k flow l)
  at c Ends l m = a.by d c l k m h
  at c Breaks l m = h.by c Breaks l m
  at c Continues l m = h.by c Continues l m
  at c (Returns v) l m = h.by c (Returns v) l m

around_few : {d : ℕ} {again step : Go} {k : Next} → GoFew again → GoFew step → NextFew d k → NextFew d (around again step k)
around_few {d = d} {again = again} {step = step} {k = k} a b h = record { by = at } where
  at : (c : ℕ) (flow : Flow) (l : Locals) → d + owed l.born ≤ c → Few c (around again step k flow l)
  at c Ends l m = b.by d c l (on_ends again k) m (on_ends_few a h)
  at c Breaks l m = h.by c Ends l m
  at c Continues l m = b.by d c l (on_ends again k) m (on_ends_few a h)
  at c (Returns v) l m = h.by c (Returns v) l m

owed_joined : (ps qs : List Wire) → owed (ps ++ qs) ≤ owed ps + owed qs
owed_joined [] qs = omega arith
owed_joined (p ∷ ps) qs = omega arith

owed_at_most : (ps : List Wire) → owed ps ≤ 1
owed_at_most [] = omega arith
owed_at_most (p ∷ ps) = omega arith

stores_few : (d c : ℕ) (at : At) (p : Lvalue) (found : (Wire → Tree) → Tree) (v : Wire) (l : Locals) (k : Next) → Keeps c Wire found → d + owed l.born ≤ c → NextFew d k → Few c (stores at p found v l (k Ends))
stores_few d c at (Lvalue.Slot i) found v l k a m h = h.by c Ends (record { slots = slice_set l.slots i v; born = l.born }) m
stores_few d c at (Lvalue.Object i) found v l k a m h = stored_few c at found v (k Ends l) a (h.by c Ends l m)
stores_few d c at (Lvalue.Global g) found v l k a m h = stored_few c at found v (k Ends l) a (h.by c Ends l m)
stores_few d c at (Lvalue.Deref e) found v l k a m h = stored_few c at found v (k Ends l) a (h.by c Ends l m)
stores_few d c at (Lvalue.Member p f) found v l k a m h = stored_few c at found v (k Ends l) a (h.by c Ends l m)
stores_few d c at (Lvalue.Index p e) found v l k a m h = stored_few c at found v (k Ends l) a (h.by c Ends l m)

put_few : (known : Numbered) (d c : ℕ) (at : At) (p : Lvalue) (v : Wire) (l : Locals) (k : Next) → d + owed l.born ≤ c → NextFew d k → Few c (put known at p v l (k Ends))
put_few known d c at p v l k m h = stores_few d c at p (place known at l.slots p) v l k (keeps_place known c at l.slots p) m h

keep_few : (known : Numbered) (here : Here) (at : At) (goal : Goal) (v : Wire) → GoFew (keep known here at goal v)
keep_few known here at Goal.Nowhere v = leaves_few
keep_few known here at (Goal.Into p) v = record {
  by = λ d c l k m h. (keeps_given c Wire at (received known (named_type known.program here.slots p) v)).by (λ x. put known at p x l (k Ends)) (λ x. put_few known d c at p x l k m h);
}
keep_few known here at Goal.Back v = record { by = λ d c l k m h. (keeps_given c Wire at (received known (Some here.result) v)).by (λ x. k (Returns x) l) (λ x. h.by c (Returns x) l m) }

texts_few : (c : ℕ) (at : At) (kind : Kind) (p : Wire) (i : ℕ) (bs : List ℕ) (t : Tree) → Few c t → Few c (texts at kind p i bs t)
texts_few c at kind p i [] t h = h
texts_few c at kind p i (b ∷ bs) t h = few_store c at (element p i) (wire.Int kind (converted kind (pos b))) _ (texts_few c at kind p (suc i) bs t h)

-- ---- questions

-- what follows an answer needs d questions
record AfterFew (d : ℕ) (k : Wire → Tree) : Type 0 where
  by : (p : ℕ) (v : Wire) → d ≤ p → Few p (k v)

asks_few : (d c n : ℕ) (at : At) (vs : List Wire) (shapes : List Shape64) (bytes : List ℕ) (k : Wire → Tree) → d + 1 ≤ c → AfterFew d k → Few c (asks n at vs shapes bytes k)
asks_few d c n at vs shapes bytes k m h = few_ask c d (omega (arith, m)) (asked_for n at vs shapes bytes) (λ rs. k (first_of rs)) (λ rs. h.by d (first_of rs) (le_refl d))

serves_few : (known : Numbered) (d c n : ℕ) (at : At) (form : CallOf) (vs : List Wire) (s : Option Service) (k : Wire → Tree) → d + 1 ≤ c → AfterFew d k → Few c (serves_by known n at form vs s k)
serves_few known d c n at form vs None k m h = asks_few d c n at vs [] [] k m h
serves_few known d c n at form vs (Some Kzalloc) k m h = asks_few d c n at [] (allocated known form.shape 1) [] k m h
serves_few known d c n at form vs (Some Kcalloc) k m h = asks_few d c n at [] (allocated known form.shape (counted (first_of vs))) [] k m h
serves_few known d c n at form vs (Some Kfree) k m h = asks_few d c n at vs [] [] k m h
serves_few known d c n at form vs (Some Readl) k m h = asks_few d c n at vs [] [] k m h
serves_few known d c n at form vs (Some Writel) k m h = asks_few d c n at vs [] [] k m h
serves_few known d c n at form vs (Some Printk) k m h = asks_few d c n at [] [] _ k m h
serves_few known d c n at form vs (Some RequestIrq) k m h = asks_few d c n at vs [] [] k m h
serves_few known d c n at form vs (Some FreeIrq) k m h = asks_few d c n at vs [] [] k m h
serves_few known d c n at form vs (Some Deliver) k m h = few_read c at (first_of vs) (counted (first_of (rest_of vs))) _ (λ bytes. asks_few d c n at [] [] bytes k m h)
serves_few known d c n at form vs (Some Combolock) k m h = asks_few d c n at vs [] [] k m h
serves_few known d c n at form vs (Some Combounlock) k m h = asks_few d c n at vs [] [] k m h
serves_few known d c n at form vs (Some Bug) k m h = asks_few d c n at vs [] [] k m h
serves_few known d c n at form vs (Some Enter) k m h = asks_few d c n at vs [] [] k m h
serves_few known d c n at form vs (Some Leave) k m h = asks_few d c n at vs [] [] k m h

-- ---- objects of locals

module _ (side : Side) where
  births_by_few : (c q : ℕ) → suc q ≤ c → (asks : Bool) (at : At) (shapes : List Shape64) (k : List Wire → Tree) → ((p : ℕ) (ps : List Wire) → q ≤ p → Few p (k ps)) → Few c (births_by asks at shapes k)
  births_by_few c q m true at shapes k h = few_ask c q m (asked_for 13 at [] shapes []) k (λ ps. h q ps (le_refl q))
  births_by_few c q m false at shapes k h = few_birth c at shapes k (λ ps. h c ps (omega (arith, m)))

  births_few : (c q : ℕ) → suc q ≤ c → (here : Here) (shapes : List Shape64) (k : List Wire → Tree) → ((p : ℕ) (ps : List Wire) → q ≤ p → Few p (k ps)) → Few c (births side here shapes k)
  births_few c q m here [] k h = h c [] (omega (arith, m))
  births_few c q m here (s ∷ shapes) k h = births_by_few c q m side.asks (in_here here 0) (s ∷ shapes) k h

  deaths_few : (c q : ℕ) (here : Here) (ps : List Wire) (t : Tree) → q + owed ps ≤ c → ((p : ℕ) → q ≤ p → Few p t) → Few c (deaths side here ps t)
  deaths_few c q here [] t m h = h c (omega (arith, m))
  deaths_few c q here (p ∷ ps) t m h = by_side side.asks where
    by_side : (asks : Bool) → Few c (deaths_by asks (in_here here 0) (p ∷ ps) t)
    by_side true = few_ask c q (omega (arith, m)) (asked_for 14 (in_here here 0) (p ∷ ps) [] []) (λ results. t) (λ results. h q (le_refl q))
    by_side false = few_death c (in_here here 0) (p ∷ ps) t (h c (omega (arith, m)))

  ends_few : {d : ℕ} {k : Next} (here : Here) (outer : List Wire) → NextFew d k → NextFew (d + owed outer) (ends side here outer k)
  ends_few {d = d} {k = k} here outer h = record { by = at } where
    dies : (c : ℕ) (flow : Flow) (l : Locals) → d + owed outer + owed l.born ≤ c → Few c (deaths side here l.born (k flow (record { slots = l.slots; born = outer })))
    dies c flow l m = deaths_few c (d + owed outer) here l.born _ m (λ p n. h.by p flow (record { slots = l.slots; born = outer }) n)

    at : (c : ℕ) (flow : Flow) (l : Locals) → d + owed outer + owed l.born ≤ c → Few c (ends side here outer k flow l)
    at c Ends l m = dies c Ends l m
    at c Breaks l m = dies c Breaks l m
    at c Continues l m = dies c Continues l m
    at c (Returns v) l m = h.by c (Returns v) (record { slots = l.slots; born = outer ++ l.born }) (omega (arith, m, owed_joined outer l.born))

  block_few : {go : Go} (here : Here) → GoFew go → GoFew (in_block side here go)
  block_few here a = record { by = λ d c l k m h. a.by (d + owed l.born) c (record { slots = l.slots; born = [] }) (ends side here l.born k) (omega (arith, m)) (ends_few here l.born h) }

  closes_few : (d : ℕ) (here : Here) (k : Wire → Tree) → AfterFew d k → NextFew d (closes side here k)
  closes_few d here k h = record { by = λ c flow l m. deaths_few c d here l.born (k (after_deaths l.born (returned flow))) m (λ p n. h.by p (after_deaths l.born (returned flow)) n) }

  fills_few : (c : ℕ) (at : At) (is : List ℕ) (ps : List Wire) (l : Locals) (go : Locals → Tree) → ((l : Locals) → Few c (go l)) → Few c (fills at is ps l go)
  fills_few c at [] ps l go h = h l
  fills_few c at (i ∷ is) [] l go h = h l
  fills_few c at (i ∷ is) (p ∷ ps) l go h = few_store c at p (slot_of l.slots i) (fills at is ps (with_object i p l) go) (fills_few c at is ps (with_object i p l) go h)

  -- ---- calls

  module _ (low : Means) (later : (here : Here) (cs : Codes) → GoFew (low here cs)) (here : Here) where
    turn_few : {again step body : Go} → GoFew again → GoFew step → GoFew body → GoFew (turn side low here again step body)
    turn_few a b e = record { by = λ d c l k m h. (block_few here e).by d c l _ m (around_few a b h) }

    enters_few : (d c : ℕ) (inner : Here) (body : Body) (vs : List Wire) (k : Wire → Tree) → d + 2 ≤ c → AfterFew d k → Few c (enters side low here inner body vs k)
    enters_few d c inner body vs k m h =
        births_few c (d + 1) (omega (arith, m)) inner (param_shapes side.known body.slots) _
        (λ p ps n. fills_few p (in_here inner 0) (object_params 0 body.slots) ps (record { slots = framed body.slots vs; born = [] }) (λ l. low inner body.code l (closes side inner k))
        (λ l. (later inner body.code).by d p l (closes side inner k) (omega (arith, n, owed_at_most l.born)) (closes_few d inner k h)))

    goes_to_few : (d c : ℕ) (at : At) (f : ℕ) (vs : List Wire) (body : Option Body) (k : Wire → Tree) → d + 2 ≤ c → AfterFew d k → Few c (goes_to side low here at f vs body k)
    goes_to_few d c at f vs None k m h = few_cross c d (omega (arith, m)) at f vs here.depth k (λ v. h.by d v (le_refl d))
    goes_to_few d c at f vs (Some body) k m h = enters_few d c (record { func = f; depth = suc here.depth; slots = body.slots; result = body.result }) body vs k m h

    direct_few : (d c : ℕ) (at : At) (f : ℕ) (vs : List Wire) (k : Wire → Tree) → d + 2 ≤ c → AfterFew d k → Few c (direct side low here at f vs k)
    direct_few d c at f vs k m h = by_depth (nat_lt here.depth 256) where
      by_depth : (b : Bool) → Few c (chosen b (goes_to side low here at f vs (side.own f)) (deep side low here at) k)
      by_depth true = goes_to_few d c at f vs (side.own f) k m h
      by_depth false = few_stop c stop.Depth at

    through_few : (d c : ℕ) (at : At) (v : Wire) (vs : List Wire) (k : Wire → Tree) → d + 2 ≤ c → AfterFew d k → Few c (through side low here at v vs k)
    through_few d c at v vs k m h = (keeps_given c ℕ at (function_of v)).by _ (λ f. direct_few d c at f vs k m h)

    service_few : (d c n : ℕ) (at : At) (form : CallOf) (vs : List Wire) (b : Bool) (k : Wire → Tree) → d + 2 ≤ c → AfterFew d k → Few c (chosen b (through side low here at (first_of vs) (rest_of vs)) (serves side.known n at form vs) k)
    service_few d c n at form vs true k m h = through_few d c at (first_of vs) (rest_of vs) k m h
    service_few d c n at form vs false k m h = serves_few side.known d c n at form vs (service_numbered n) k (omega (arith, m)) h

    call_few : (d c : ℕ) (at : At) (s : List Wire) (form : CallOf) (callee : Called) (k : Wire → Tree) → d + 2 ≤ c → AfterFew d k → Few c (call_by side low here at s form callee k)
    call_few d c at s form (Called.Direct f) k m h = (keeps_values side.known c at s form.args).by _ (λ vs. direct_few d c at f vs k m h)
    call_few d c at s form (Called.Through e) k m h = (keeps_value side.known c at s e).by _ (λ v. (keeps_values side.known c at s form.args).by _ (λ vs. through_few d c at v vs k m h))
    call_few d c at s form (Called.Service n) k m h = (keeps_values side.known c at s form.args).by _ (λ vs. service_few d c n at form vs (n == 15) k m h)

    -- ---- statements

    declared_by_few : (object : Bool) (i : ℕ) (s : Slot) (d c : ℕ) (l : Locals) (k : Next) → d + owed l.born ≤ c → NextFew d k → Few (c + 2) (declared_by side low here object i s l k)
    declared_by_few true i s d c l k m h =
        births_few (c + 2) (d + 1) (omega (arith, m)) here (shape_of side.known s ∷ []) _
        (λ p ps less. h.by p Ends (with_object i (first_of ps) l) (omega (arith, less, owed_at_most (with_object i (first_of ps) l).born)))
    declared_by_few false i s d c l k m h = h.by (c + 2) Ends (record { slots = slice_set l.slots i (wire_of (zero_value s.ty)); born = l.born }) (omega (arith, m))

    declared_few : (i : ℕ) (s : Option Slot) (d c : ℕ) (l : Locals) (k : Next) → d + owed l.born ≤ c → NextFew d k → Few (c + 2) (declared side low here i s l k)
    declared_few i None d c l k m h = h.by (c + 2) Ends l (omega (arith, m))
    declared_few i (Some s) d c l k m h = declared_by_few s.object i s d c l k m h

    returns_few : (at : At) (e : Option Term) → GoFew (returns side low here at e)
    returns_few at None = record { by = λ d c l k m h. h.by c (Returns wire.NoValue) l m }
    returns_few at (Some e) = record { by = λ d c l k m h. (keeps_value side.known c at l.slots e).by _ (λ v. h.by c (Returns v) l m) }

    mutual
      stmt_few : (code : Code) → GoFew (stmt side low here code)
      stmt_few (Code.Declare n i) = record { by = λ d c l k m h. few_tick c (in_here here n) here.depth _ (declared_few i (slice_get here.slots i) d c l k m h) }
      stmt_few (Code.Text n i bytes) = record {
        by = λ d c l k m h. few_tick c (in_here here n) here.depth _
            (texts_few (c + 2) (in_here here n) (characters (slice_get here.slots i)) (slot_of l.slots i) 0 bytes (k Ends l) (h.by (c + 2) Ends l (omega (arith, m))));
      }
      stmt_few (Code.Assign n target e) = record {
        by = λ d c l k m h. few_tick c (in_here here n) here.depth _
            ((keeps_value side.known (c + 2) (in_here here n) l.slots e).by _ (λ v. put_few side.known d (c + 2) (in_here here n) target v l k (omega (arith, m)) h));
      }
      stmt_few (Code.Call n goal form) = record {
        by = λ d c l k m h. few_tick c (in_here here n) here.depth _
            (call_few (d + owed l.born) (c + 2) (in_here here n) l.slots form form.callee _ (omega (arith, m))
            (record { by = λ p v less. (keep_few side.known here (in_here here n) goal v).by d p l k less h }));
      }
      stmt_few (Code.If n e one other) = record {
        by = λ d c l k m h. few_tick c (in_here here n) here.depth _
            ((keeps_value side.known (c + 2) (in_here here n) l.slots e).by _ (λ v. (block_few here (pick_few (is_true v) (stmts_few one) (stmts_few other))).by d (c + 2) l k (omega (arith, m)) h));
      }
      stmt_few (Code.Loop n e step body) = record {
        by = λ d c l k m h. few_tick c (in_here here n) here.depth _
            ((keeps_value side.known (c + 2) (in_here here n) l.slots e).by _ (λ v.
            (pick_few (is_true v) (turn_few (later here (Codes.Then (Code.Loop n e step body) Codes.End)) (stmts_few step) (stmts_few body)) leaves_few).by d (c + 2) l k (omega (arith, m)) h));
      }
      stmt_few (Code.Block cs) = block_few here (stmts_few cs)
      stmt_few (Code.Return n e) = record { by = λ d c l k m h. few_tick c (in_here here n) here.depth _ ((returns_few (in_here here n) e).by d (c + 2) l k (omega (arith, m)) h) }
      stmt_few (Code.Jump n way) = record { by = λ d c l k m h. few_tick c (in_here here n) here.depth _ (h.by (c + 2) (flow_of way) l (omega (arith, m))) }

      stmts_few : (cs : Codes) → GoFew (stmts side low here cs)
      stmts_few Codes.End = leaves_few
      stmts_few (Codes.Then code cs) = record { by = λ d c l k m h. (stmt_few code).by d c l _ m (on_ends_few (stmts_few cs) h) }

  means_few : (n : ℕ) (here : Here) (cs : Codes) → GoFew (means side n here cs)
  unfolding means
  means_few zero here cs = record { by = λ d c l k m h. few_tick c (in_here here 0) here.depth _ (few_stop (c + 2) stop.Ticks (in_here here 0)) }
  means_few (suc n) here cs = record { by = (stmts_few (means side n) (means_few n) here cs).by }

  started_few : (n func : ℕ) (args : List Wire) (depth : ℕ) (below : Tree) → Few 2 (started side n func args depth below)
  unfolding started
  started_few n func args depth below =
      goes_to_few (means side n) (means_few n) (record { func = func; depth = depth; slots = []; result = Void }) 0 2 (record { func = func; stmt = 0 }) func args (side.own func) (λ v. Tree.Done v below) (omega arith)
      (record { by = λ p v less. few_done p v below })

pub questions_are_few : QuestionsAreFew
questions_are_few side n func args depth below = started_few side n func args depth below
