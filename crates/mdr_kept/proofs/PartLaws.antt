-- The trees of a half and those of the whole go together, node by node, as far as the fuel goes, over values that are alike.
use Rattle.std.proofs.Common.{◌≡◌, refl, ℕ, zero, suc, ◌<◌, ◌≤◌, Bool, true, false, List, [], ◌∷◌, ◌++◌, ◌==◌, not, nat_lt, slice_get, Option, Some, None, Result, Ok, Err, le_refl, ℤ, pos, arith, ap, subst}
use Rattle.mdr_core.specs.declared.kind.Kind.{Kind}
use Rattle.mdr_core.specs.declared.place.At.{At}
use Rattle.mdr_core.specs.declared.stop.StopKind.{StopKind}
use Rattle.mdr_core.specs.declared.stop.StopKind.TheVariants as stop
use Rattle.mdr_core.specs.declared.types.Ty.TheVariants.{Void}
use Rattle.mdr_core.specs.Code.{Term, Lvalue, Called, CallOf, Goal, Code, Codes}
use Rattle.mdr_core.specs.Conversions.{converted}
use Rattle.mdr_core.specs.Layout.{chosen, zero_value}
use Rattle.mdr_core.specs.Operators.{operated, negated, flipped}
use Rattle.mdr_core.specs.Services.{Service, Kzalloc, Kcalloc, Kfree, Readl, Writel, Printk, RequestIrq, FreeIrq, Deliver, Combolock, Combounlock, Bug, Enter, Leave, Plain, service_numbered}
use Rattle.mdr_core.specs.Typing.{Slot}
use Rattle.mdr_meaning.specs.declared.shape.Shape64.{Shape64}
use Rattle.mdr_meaning.specs.declared.wire.Wire.{Wire}
use Rattle.mdr_meaning.specs.declared.wire.Wire.TheVariants as wire
use Rattle.mdr_meaning.specs.Asking.{allocated, asks, counted, serves, serves_by}
use Rattle.mdr_meaning.specs.Bodies.{means, started}
use Rattle.mdr_meaning.specs.Calls.{enters, put, stores, keep, function_of, goes_to, deep, direct, through, call_by}
use Rattle.mdr_meaning.specs.Expressions.{given, gives, loads, place, read, slot_of, value, values}
use Rattle.mdr_meaning.specs.Lives.{after_deaths, asked_for, births, births_by, closes, deaths, deaths_by, ends, fills, in_block, object_params, param_shapes, returned, shape_of, with_object}
use Rattle.mdr_meaning.specs.Named.{named_type}
use Rattle.mdr_meaning.specs.Numbers.{Numbered}
use Rattle.mdr_meaning.specs.Pointers.{global, moved, steps}
use Rattle.mdr_meaning.specs.Sides.{Body, Side, Here, Locals, Flow, Ends, Breaks, Continues, Returns, Next, Go, Means, flow_of, framed, in_here}
use Rattle.mdr_meaning.specs.Statements.{around, characters, declared, declared_by, element, leaves, on_ends, returns, stmt, stmts, texts, turn}
use Rattle.mdr_meaning.specs.Tree.{Tree}
use Rattle.mdr_meaning.specs.Values.{at_kind, first_of, integer, is_true, rest_of, right_operand, truth, wire_of}
use Rattle.std.specs.Prelude.{take, unwrap_or}
use Rattle.mdr_kept.proofs.LikeLaws.{AreLike, Empty, Gives, Gives_back, Go_on, Like, LikeFlow, LikeResult, Locks, More, Same, Stops, after_deaths_like, appended, by_integer, by_integers, cast_like, counted_like, difference_like, element_like, first_like, framed_like, integer_like, member_like, moved_like, printed_like, received_like, related_like, rest_like, returned_like, set_like, slot_like, true_like}

-- a half enters a body of the whole, or none
pub data IsPart : Option Body → Option Body → Type 0 where
  Shared : (body : Body) → IsPart (Some body) (Some body)
  Absent : (body : Option Body) → IsPart None body

-- code that comes later is that of the whole, with fuel for so many ticks
pub record IsFar (all : Side) (r : ℕ) (low : Means) : Type 0 where
  pub fuel : ℕ
  pub enough : r < fuel
  pub is : low ≡ means all fuel

nearer : {all : Side} {r : ℕ} {low : Means} (q : ℕ) → q ≤ r → IsFar all r low → IsFar all q low
nearer q fewer h = let e : _ < h.fuel = h.enough in record { fuel = h.fuel; enough = omega (arith, e, fewer); is = h.is }

-- R r t u says that t, a tree of a half, and u, one of the whole, go together for r ticks. Each node keeps it, whatever values that are alike go on; births and deaths may be asked for, and another function of the half is entered in place
pub record Rules (R : ℕ → Tree → Tree → Type 0) (asks : Bool) (own : ℕ → Option Body) (all : Side) : Type 0 where
  pub stop : (r : ℕ) (kind : StopKind) (at : At) → R r (Tree.Stop kind at) (Tree.Stop kind at)
  pub tick : (r : ℕ) (at : At) (d : ℕ) (t u : Tree) → ((q : ℕ) → suc q ≤ r → R q t u) → R r (Tree.Tick at d t) (Tree.Tick at d u)
  pub load : (r : ℕ) (at : At) (p p' : Wire) (k l : Wire → Tree) → Like p p' → ((v w : Wire) → Like v w → R r (k v) (l w)) → R r (Tree.Load at p k) (Tree.Load at p' l)
  pub store : (r : ℕ) (at : At) (p p' v w : Wire) (t u : Tree) → Like p p' → Like v w → R r t u → R r (Tree.Store at p v t) (Tree.Store at p' w u)
  pub read : (r : ℕ) (at : At) (p p' : Wire) (n : ℕ) (k l : List ℕ → Tree) → Like p p' → ((bs : List ℕ) → R r (k bs) (l bs)) → R r (Tree.Read at p n k) (Tree.Read at p' n l)
  pub fresh : (r : ℕ) (at : At) (v : Wire) (k l : Wire → Tree) → ((x y : Wire) → Like x y → R r (k x) (l y)) → R r (Tree.Fresh at v k) (Tree.Fresh at v l)
  pub ask : (r n : ℕ) (at : At) (args args' : List Wire) (shapes : List Shape64) (bytes : List ℕ) (k l : List Wire → Tree) → AreLike args args' → ((vs ws : List Wire) → AreLike vs ws → R r (k vs) (l ws))
      → R r (Tree.Ask (asked_for n at args shapes bytes) k) (Tree.Ask (asked_for n at args' shapes bytes) l)
  pub birth : (r : ℕ) (at : At) (shapes : List Shape64) (k l : List Wire → Tree) → ((ps qs : List Wire) → AreLike ps qs → R r (k ps) (l qs)) → R r (births_by asks at shapes k) (Tree.Birth at shapes l)
  pub death : (r : ℕ) (at : At) (ps qs : List Wire) (t u : Tree) → AreLike ps qs → R r t u → R r (deaths_by asks at ps t) (Tree.Death at qs u)
  pub cross : (r : ℕ) (here : Here) (at at' : At) (func : ℕ) (args args' : List Wire) (k l : Wire → Tree) (low : Means) → own func ≡ None → IsFar all r low → AreLike args args' → ((q : ℕ) → q ≤ r → (v w : Wire) → Like v w → R q (k v) (l w))
      → R r (Tree.Cross at func args here.depth k) (goes_to all low here at' func args' (all.own func) l)

module _ (R : ℕ → Tree → Tree → Type 0) (asked : Bool) (known : Numbered) (own own' : ℕ → Option Body) (part : (f : ℕ) → IsPart (own f) (own' f))
    (c : Rules R asked own (record { known = known; own = own'; asks = false })) where
  abbrev half : Side
  half = record { known = known; own = own; asks = asked }

  abbrev all : Side
  all = record { known = known; own = own'; asks = false }

  -- locals that hold what is alike
  pub record LikeLocals (l m : Locals) : Type 0 where
    pub slots : AreLike l.slots m.slots
    pub born : AreLike l.born m.born

  -- continuations that go together at r ticks, where what they are given is alike
  record Alike (r : ℕ) (A : Type 0) (Q : A → A → Type 0) (k l : A → Tree) : Type 0 where
    at : (x y : A) → Q x y → R r (k x) (l y)

  -- what two evaluations give is alike where what they go on with goes together
  record Keeps (r : ℕ) (A : Type 0) (Q : A → A → Type 0) (f g : (A → Tree) → Tree) : Type 0 where
    by : (k l : A → Tree) → Alike r A Q k l → R r (f k) (g l)

  abbrev Keep : ℕ → ((Wire → Tree) → Tree) → ((Wire → Tree) → Tree) → Type 0
  Keep r f g = Keeps r Wire Like f g

  keeps_given : (r : ℕ) (at : At) (x y : Result Wire StopKind) → LikeResult x y → Keep r (given at x) (given at y)
  keeps_given r at _ _ (Gives v w h) = record { by = λ k l a. a.at v w h }
  keeps_given r at _ _ (Stops kind) = record { by = λ k l a. c.stop r kind at }

  keeps_gives : (r : ℕ) (v w : Wire) → Like v w → Keep r (gives v) (gives w)
  keeps_gives r v w h = record { by = λ k l a. a.at v w h }

  keeps_read : (r : ℕ) (at : At) (v w : Wire) → Like v w → Keep r (read at v) (read at w)
  keeps_read r at _ _ (Locks s t e) = keeps_gives r (wire.Lock s) (wire.Lock t) (Locks s t e)
  keeps_read r at _ _ (Same v) = of v
    where
      of : (v : Wire) → Keep r (read at v) (read at v)
      of (wire.Int kind n) = keeps_gives r (wire.Int kind n) (wire.Int kind n) (Same _)
      of wire.Null = keeps_gives r wire.Null wire.Null (Same _)
      of (wire.Ptr p) = record { by = λ k l a. c.fresh r at (wire.Ptr p) k l a.at }
      of wire.Dead = record { by = λ k l a. c.fresh r at wire.Dead k l a.at }
      of (wire.Fn f) = keeps_gives r (wire.Fn f) (wire.Fn f) (Same _)
      of (wire.Lock s) = keeps_gives r (wire.Lock s) (wire.Lock s) (Same _)
      of wire.NoValue = keeps_gives r wire.NoValue wire.NoValue (Same _)

  keeps_pick : (r : ℕ) (b : Bool) (f f' g g' : (Wire → Tree) → Tree) → Keep r f f' → Keep r g g' → Keep r (chosen b f g) (chosen b f' g')
  keeps_pick r true f f' g g' a b = a
  keeps_pick r false f f' g g' a b = b

  -- which of two is evaluated goes by a condition that is alike
  keeps_if : (r : ℕ) (v w : Wire) (f f' g g' : (Wire → Tree) → Tree) → Like v w → Keep r f f' → Keep r g g' → Keep r (chosen (is_true v) f g) (chosen (is_true w) f' g')
  keeps_if r v w f f' g g' h a b = subst (λ t. Keep r (chosen (is_true v) f g) (chosen t f' g')) (true_like v w h) (keeps_pick r (is_true v) f f' g g' a b)

  keeps_found : (r : ℕ) (at : At) (found found' : (Wire → Tree) → Tree) → Keep r found found' → Keep r (λ k. found (λ p. Tree.Load at p k)) (λ k. found' (λ p. Tree.Load at p k))
  keeps_found r at found found' a = record { by = λ k l h. a.by (λ p. Tree.Load at p k) (λ p. Tree.Load at p l) (record { at = λ p q like. c.load r at p q k l like h.at }) }

  keeps_loads : (r : ℕ) (at : At) (s s' : List Wire) → AreLike s s' → (p : Lvalue) (found found' : (Wire → Tree) → Tree) → Keep r found found' → Keep r (loads at s p found) (loads at s' p found')
  keeps_loads r at s s' f (Lvalue.Slot i) found found' a = keeps_read r at (slot_of s i) (slot_of s' i) (slot_like s s' i f)
  keeps_loads r at s s' f (Lvalue.Object i) found found' a = keeps_found r at found found' a
  keeps_loads r at s s' f (Lvalue.Global g) found found' a = keeps_found r at found found' a
  keeps_loads r at s s' f (Lvalue.Deref e) found found' a = keeps_found r at found found' a
  keeps_loads r at s s' f (Lvalue.Member p n) found found' a = keeps_found r at found found' a
  keeps_loads r at s s' f (Lvalue.Index p e) found found' a = keeps_found r at found found' a

  same_number : {A : Type 0} (f : ℤ → A) (v w : Wire) → Like v w → f (integer v) ≡ f (integer w)
  same_number f v w h = ap f (integer_like v w h)

  same_truth : (g : Bool → Bool) (v w : Wire) → Like v w → Like (truth (g (is_true v))) (truth (g (is_true w)))
  same_truth g v w h = subst (λ t. Like (truth (g (is_true v))) (truth (g t))) (true_like v w h) (Same _)

  same_made : (f : ℤ → Wire) (v w : Wire) → Like v w → Like (f (integer v)) (f (integer w))
  same_made f v w h = subst (λ n. Like (f (integer v)) (f n)) (integer_like v w h) (Same _)

  moved_alike : (f : ℤ → ℤ) (v w x y : Wire) → Like v w → Like x y → LikeResult (moved v (f (integer x))) (moved w (f (integer y)))
  moved_alike f v w x y h a = subst (λ n. LikeResult (moved v (f (integer x))) (moved w (f n))) (integer_like x y a) (moved_like v w (f (integer x)) h)

  module _ (r : ℕ) (at : At) (s s' : List Wire) (f : AreLike s s') where
    mutual
      keeps_value : (e : Term) → Keep r (value known at s e) (value known at s' e)
      keeps_value (Term.Lit v) = keeps_gives r (wire_of v) (wire_of v) (Same _)
      keeps_value (Term.Load p) = keeps_loads r at s s' f p (place known at s p) (place known at s' p) (keeps_place p)
      keeps_value (Term.Addr p) = keeps_place p
      keeps_value (Term.Decay p) = keeps_place p
      keeps_value (Term.Neg kind e) = record {
        by = λ k l h. (keeps_value e).by _ _ (record { at = λ x y a. (keeps_given r at _ _ (by_integer (λ n. at_kind kind (negated kind (converted kind n))) x y a)).by k l h });
      }
      keeps_value (Term.Flip kind e) = record { by = λ k l h. (keeps_value e).by _ _ (record { at = λ x y a. h.at _ _ (same_made (λ n. wire.Int kind (flipped kind (converted kind n))) x y a) }) }
      keeps_value (Term.Not e) = record { by = λ k l h. (keeps_value e).by _ _ (record { at = λ x y a. h.at _ _ (same_truth not x y a) }) }
      keeps_value (Term.Bin op kind a b) = record {
        by = λ k l h.
            (keeps_value a).by _ _ (record {
              at = λ x x' i.
                  (keeps_value b).by _ _ (record { at = λ y y' j. (keeps_given r at _ _ (by_integers (λ m n. at_kind kind (operated op kind (converted kind m) (right_operand op kind n))) x x' y y' i j)).by k l h });
            });
      }
      keeps_value (Term.Rel op a b) = record {
        by = λ k l h.
            (keeps_value a).by _ _ (record {
              at = λ x x' i.
                  (keeps_value b).by _ _ (record { at = λ y y' j. (keeps_given r at _ _ (related_like known.program op x x' y y' i j)).by k l h });
            });
      }
      keeps_value (Term.And a b) = record {
        by = λ k l h.
            (keeps_value a).by _ _ (record {
              at = λ x x' i.
                  (keeps_if r x x' (value known at s b) (value known at s' b) (gives (truth false)) (gives (truth false)) i (keeps_value b) (keeps_gives r (truth false) (truth false) (Same _))).by _ _
                  (record { at = λ y y' j. h.at _ _ (same_truth (λ t. t) y y' j) });
            });
      }
      keeps_value (Term.Or a b) = record {
        by = λ k l h.
            (keeps_value a).by _ _ (record {
              at = λ x x' i.
                  (keeps_if r x x' (gives (truth true)) (gives (truth true)) (value known at s b) (value known at s' b) i (keeps_gives r (truth true) (truth true) (Same _)) (keeps_value b)).by _ _
                  (record { at = λ y y' j. h.at _ _ (same_truth (λ t. t) y y' j) });
            });
      }
      keeps_value (Term.Conv kind e) = record { by = λ k l h. (keeps_value e).by _ _ (record { at = λ x y a. h.at _ _ (same_made (λ n. wire.Int kind (converted kind n)) x y a) }) }
      keeps_value (Term.ToVoid e) = keeps_value e
      keeps_value (Term.FromVoid ty e) = record { by = λ k l h. (keeps_value e).by _ _ (record { at = λ x y a. (keeps_given r at _ _ (cast_like known ty x y a)).by k l h }) }
      keeps_value (Term.Move back p n) = record {
        by = λ k l h.
            (keeps_value p).by _ _ (record {
              at = λ x x' i.
                  (keeps_value n).by _ _ (record { at = λ y y' j. (keeps_given r at _ _ (moved_alike (steps back) x x' y y' i j)).by k l h });
            });
      }
      keeps_value (Term.Diff p q) = record {
        by = λ k l h.
            (keeps_value p).by _ _ (record {
              at = λ x x' i.
                  (keeps_value q).by _ _ (record { at = λ y y' j. (keeps_given r at _ _ (difference_like x x' y y' i j)).by k l h });
            });
      }

      keeps_place : (p : Lvalue) → Keep r (place known at s p) (place known at s' p)
      keeps_place (Lvalue.Slot i) = keeps_gives r wire.Null wire.Null (Same _)
      keeps_place (Lvalue.Object i) = keeps_gives r (slot_of s i) (slot_of s' i) (slot_like s s' i f)
      keeps_place (Lvalue.Global g) = keeps_gives r (global known g) (global known g) (Same _)
      keeps_place (Lvalue.Deref e) = keeps_value e
      keeps_place (Lvalue.Member p n) = record { by = λ k l h. (keeps_place p).by _ _ (record { at = λ x y a. (keeps_given r at _ _ (member_like known x y n a)).by k l h }) }
      keeps_place (Lvalue.Index p e) = record {
        by = λ k l h.
            (keeps_place p).by _ _ (record {
              at = λ x x' i.
                  (keeps_value e).by _ _ (record { at = λ y y' j. (keeps_given r at _ _ (moved_alike (λ n. n) x x' y y' i j)).by k l h });
            });
      }

    keeps_values : (es : List Term) → Keeps r (List Wire) AreLike (values known at s es) (values known at s' es)
    keeps_values [] = record { by = λ k l h. h.at [] [] Empty }
    keeps_values (e ∷ es) = record {
      by = λ k l h. (keeps_value e).by _ _ (record { at = λ v w a. (keeps_values es).by _ _ (record { at = λ vs ws b. h.at (v ∷ vs) (w ∷ ws) (More v w vs ws a b) }) });
    }

  -- ---- where values go

  keeps_stored : (r : ℕ) (at : At) (found found' : (Wire → Tree) → Tree) (v w : Wire) (l l' : Locals) → Like v w → LikeLocals l l' → Keep r found found'
      → Keeps r Locals LikeLocals (λ go. found (λ p. Tree.Store at p v (go l))) (λ go. found' (λ p. Tree.Store at p w (go l')))
  keeps_stored r at found found' v w l l' h f a = record { by = λ j k next. a.by _ _ (record { at = λ p q i. c.store r at p q v w (j l) (k l') i h (next.at l l' f) }) }

  keeps_stores : (r : ℕ) (at : At) (p : Lvalue) (found found' : (Wire → Tree) → Tree) (v w : Wire) (l l' : Locals) → Like v w → LikeLocals l l' → Keep r found found'
      → Keeps r Locals LikeLocals (stores at p found v l) (stores at p found' w l')
  keeps_stores r at (Lvalue.Slot i) found found' v w l l' h f a = record { by = λ j k next. next.at _ _ (record { slots = set_like l.slots l'.slots i v w f.slots h; born = f.born }) }
  keeps_stores r at (Lvalue.Object i) found found' v w l l' h f a = keeps_stored r at found found' v w l l' h f a
  keeps_stores r at (Lvalue.Global g) found found' v w l l' h f a = keeps_stored r at found found' v w l l' h f a
  keeps_stores r at (Lvalue.Deref e) found found' v w l l' h f a = keeps_stored r at found found' v w l l' h f a
  keeps_stores r at (Lvalue.Member p n) found found' v w l l' h f a = keeps_stored r at found found' v w l l' h f a
  keeps_stores r at (Lvalue.Index p e) found found' v w l l' h f a = keeps_stored r at found found' v w l l' h f a

  keeps_put : (r : ℕ) (at : At) (p : Lvalue) (v w : Wire) (l l' : Locals) → Like v w → LikeLocals l l' → Keeps r Locals LikeLocals (put known at p v l) (put known at p w l')
  keeps_put r at p v w l l' h f = keeps_stores r at p (place known at l.slots p) (place known at l'.slots p) v w l l' h f (keeps_place r at l.slots l'.slots f.slots p)

  -- ---- questions

  keeps_asks : (r n : ℕ) (at : At) (vs ws : List Wire) (shapes : List Shape64) (bytes : List ℕ) → AreLike vs ws → Keep r (asks n at vs shapes bytes) (asks n at ws shapes bytes)
  keeps_asks r n at vs ws shapes bytes h = record {
    by = λ k l a. c.ask r n at vs ws shapes bytes (λ rs. k (first_of rs)) (λ rs. l (first_of rs)) h (λ rs qs like. a.at _ _ (first_like rs qs like));
  }

  keeps_shaped : (r n : ℕ) (at : At) (shapes shapes' : List Shape64) → shapes ≡ shapes' → Keep r (asks n at [] shapes []) (asks n at [] shapes' [])
  keeps_shaped r n at shapes shapes' e = subst (λ x. Keep r (asks n at [] shapes []) (asks n at [] x [])) e (keeps_asks r n at [] [] shapes [] Empty)

  keeps_printed : (r n : ℕ) (at : At) (bytes bytes' : List ℕ) → bytes ≡ bytes' → Keep r (asks n at [] [] bytes) (asks n at [] [] bytes')
  keeps_printed r n at bytes bytes' e = subst (λ x. Keep r (asks n at [] [] bytes) (asks n at [] [] x)) e (keeps_asks r n at [] [] [] bytes Empty)

  keeps_serves : (r n : ℕ) (at : At) (form : CallOf) (vs ws : List Wire) → AreLike vs ws → (s : Option Service) → Keep r (serves_by known n at form vs s) (serves_by known n at form ws s)
  keeps_serves r n at form vs ws h None = keeps_asks r n at vs ws [] [] h
  keeps_serves r n at form vs ws h (Some Kzalloc) = keeps_asks r n at [] [] (allocated known form.shape 1) [] Empty
  keeps_serves r n at form vs ws h (Some Kcalloc) = keeps_shaped r n at _ _ (ap (allocated known form.shape) (counted_like _ _ (first_like vs ws h)))
  keeps_serves r n at form vs ws h (Some Kfree) = keeps_asks r n at vs ws [] [] h
  keeps_serves r n at form vs ws h (Some Readl) = keeps_asks r n at vs ws [] [] h
  keeps_serves r n at form vs ws h (Some Writel) = keeps_asks r n at vs ws [] [] h
  keeps_serves r n at form vs ws h (Some Printk) = keeps_printed r n at _ _ (ap (λ (bs : List ℕ). take 4096 bs) (printed_like Plain (unwrap_or form.format []) vs ws h))
  keeps_serves r n at form vs ws h (Some RequestIrq) = keeps_asks r n at vs ws [] [] h
  keeps_serves r n at form vs ws h (Some FreeIrq) = keeps_asks r n at vs ws [] [] h
  keeps_serves r n at form vs ws h (Some Deliver) = record {
    by = λ k l a.
        subst (λ m. R r (serves_by known n at form vs (Some Deliver) k) (Tree.Read at (first_of ws) m (λ bytes. asks n at [] [] bytes l))) (counted_like _ _ (first_like _ _ (rest_like vs ws h)))
        (c.read r at (first_of vs) (first_of ws) (counted (first_of (rest_of vs))) _ _ (first_like vs ws h) (λ bytes. (keeps_asks r n at [] [] [] bytes Empty).by k l a));
  }
  keeps_serves r n at form vs ws h (Some Combolock) = keeps_asks r n at vs ws [] [] h
  keeps_serves r n at form vs ws h (Some Combounlock) = keeps_asks r n at vs ws [] [] h
  keeps_serves r n at form vs ws h (Some Bug) = keeps_asks r n at vs ws [] [] h
  keeps_serves r n at form vs ws h (Some Enter) = keeps_asks r n at vs ws [] [] h
  keeps_serves r n at form vs ws h (Some Leave) = keeps_asks r n at vs ws [] [] h

  -- ---- objects

  with_object_like : (i : ℕ) (p q : Wire) (l l' : Locals) → Like p q → LikeLocals l l' → LikeLocals (with_object i p l) (with_object i q l')
  with_object_like i p q l l' h f = record {
    slots = set_like l.slots l'.slots i p q f.slots h;
    born = appended l.born l'.born (p ∷ []) (q ∷ []) f.born (More p q [] [] h Empty);
  }

  keeps_fills : (r : ℕ) (at : At) (is : List ℕ) (ps qs : List Wire) (l l' : Locals) → AreLike ps qs → LikeLocals l l' → Keeps r Locals LikeLocals (fills at is ps l) (fills at is qs l')
  keeps_fills r at [] ps qs l l' h f = record { by = λ j k a. a.at l l' f }
  keeps_fills r at (i ∷ is) _ _ l l' Empty f = record { by = λ j k a. a.at l l' f }
  keeps_fills r at (i ∷ is) _ _ l l' (More p q ps qs h more) f = record {
    by = λ j k a. c.store r at p q (slot_of l.slots i) (slot_of l'.slots i) _ _ h (slot_like l.slots l'.slots i f.slots)
        ((keeps_fills r at is ps qs (with_object i p l) (with_object i q l') more (with_object_like i p q l l' h f)).by j k a);
  }

  texts_alike : (r : ℕ) (at : At) (kind : Kind) (p q : Wire) (i : ℕ) (bs : List ℕ) (t u : Tree) → Like p q → R r t u → R r (texts at kind p i bs t) (texts at kind q i bs u)
  texts_alike r at kind p q i [] t u h a = a
  texts_alike r at kind p q i (b ∷ bs) t u h a =
      c.store r at (element p i) (element q i) (wire.Int kind (converted kind (pos b))) (wire.Int kind (converted kind (pos b))) _ _ (element_like p q i h) (Same _) (texts_alike r at kind p q (suc i) bs t u h a)

  -- what comes next goes together for so many ticks and for fewer
  record Soon (r : ℕ) (k l : Wire → Tree) : Type 0 where
    by : (q : ℕ) → q ≤ r → (v w : Wire) → Like v w → R q (k v) (l w)

  pub record AreNext (r : ℕ) (k k' : Next) : Type 0 where
    pub by : (q : ℕ) → q ≤ r → (flow flow' : Flow) (l l' : Locals) → LikeFlow flow flow' → LikeLocals l l' → R q (k flow l) (k' flow' l')

  pub record Go_alike (r : ℕ) (go go' : Go) : Type 0 where
    pub by : (q : ℕ) → q ≤ r → (l l' : Locals) (k k' : Next) → LikeLocals l l' → AreNext q k k' → R q (go l k) (go' l' k')

  -- two meanings of code that comes later
  pub record AreLater (r : ℕ) (low low' : Means) : Type 0 where
    pub by : (here : Here) (cs : Codes) → Go_alike r (low here cs) (low' here cs)
    pub far : IsFar all r low'

  next_fewer : {r : ℕ} {k k' : Next} (q : ℕ) → q ≤ r → AreNext r k k' → AreNext q k k'
  next_fewer q fewer a = record { by = λ p h. a.by p (omega (arith, h, fewer)) }

  later_fewer : {r : ℕ} {low low' : Means} (q : ℕ) → q ≤ r → AreLater r low low' → AreLater q low low'
  later_fewer q fewer a = record { by = λ here cs. record { by = λ p h. (a.by here cs).by p (omega (arith, h, fewer)) }; far = nearer q fewer a.far }

  go_fewer : {r : ℕ} {go go' : Go} (q : ℕ) → q ≤ r → Go_alike r go go' → Go_alike q go go'
  go_fewer q fewer a = record { by = λ p h. a.by p (omega (arith, h, fewer)) }

  pick_alike : (r : ℕ) (b : Bool) {f g f' g' : Go} → Go_alike r f f' → Go_alike r g g' → Go_alike r (chosen b f g) (chosen b f' g')
  pick_alike r true a b = a
  pick_alike r false a b = b

  -- by a condition that is alike
  if_alike : (r : ℕ) (v w : Wire) {f g f' g' : Go} → Like v w → Go_alike r f f' → Go_alike r g g' → Go_alike r (chosen (is_true v) f g) (chosen (is_true w) f' g')
  if_alike r v w {f = f} {g = g} {f' = f'} {g' = g'} h a b = subst (λ t. Go_alike r (chosen (is_true v) f g) (chosen t f' g')) (true_like v w h) (pick_alike r (is_true v) a b)

  leaves_alike : (r : ℕ) → Go_alike r leaves leaves
  leaves_alike r = record { by = λ q fewer l l' k k' f h. h.by q (le_refl q) Ends Ends l l' (Go_on Ends) f }

  keep_alike : (r : ℕ) (here : Here) (at : At) (goal : Goal) (v w : Wire) → Like v w → Go_alike r (keep known here at goal v) (keep known here at goal w)
  keep_alike r here at Goal.Nowhere v w a = leaves_alike r
  keep_alike r here at (Goal.Into p) v w a = record {
    by = λ q fewer l l' k k' f h. (keeps_given q at _ _ (received_like known (named_type known.program here.slots p) v w a)).by _ _
        (record { at = λ x y b. (keeps_put q at p x y l l' b f).by (k Ends) (k' Ends) (record { at = λ m m' g. h.by q (le_refl q) Ends Ends m m' (Go_on Ends) g }) });
  }
  keep_alike r here at Goal.Back v w a = record {
    by = λ q fewer l l' k k' f h. (keeps_given q at _ _ (received_like known (Some here.result) v w a)).by _ _ (record { at = λ x y b. h.by q (le_refl q) (Returns x) (Returns y) l l' (Gives_back x y b) f });
  }

  on_ends_alike : {r : ℕ} {go go' : Go} {k k' : Next} → Go_alike r go go' → AreNext r k k' → AreNext r (on_ends go k) (on_ends go' k')
  on_ends_alike {r = r} {go = go} {go' = go'} {k = k} {k' = k'} a h = record { by = at } where
    same : (q : ℕ) → q ≤ r → (flow : Flow) (l l' : Locals) → LikeLocals l l' → R q (on_ends go k flow l) (on_ends go' k' flow l')
    same q fewer Ends l l' f = a.by q fewer l l' k k' f (next_fewer q fewer h)
    same q fewer Breaks l l' f = h.by q fewer Breaks Breaks l l' (Go_on Breaks) f
    same q fewer Continues l l' f = h.by q fewer Continues Continues l l' (Go_on Continues) f
    same q fewer (Returns v) l l' f = h.by q fewer (Returns v) (Returns v) l l' (Go_on (Returns v)) f

    at : (q : ℕ) → q ≤ r → (flow flow' : Flow) (l l' : Locals) → LikeFlow flow flow' → LikeLocals l l' → R q (on_ends go k flow l) (on_ends go' k' flow' l')
    at q fewer _ _ l l' (Go_on flow) f = same q fewer flow l l' f
    at q fewer _ _ l l' (Gives_back v w b) f = h.by q fewer (Returns v) (Returns w) l l' (Gives_back v w b) f

  around_alike : {r : ℕ} {again again' step step' : Go} {k k' : Next} → Go_alike r again again' → Go_alike r step step' → AreNext r k k' → AreNext r (around again step k) (around again' step' k')
  around_alike {r = r} {again = again} {again' = again'} {step = step} {step' = step'} {k = k} {k' = k'} a b h = record { by = at } where
    same : (q : ℕ) → q ≤ r → (flow : Flow) (l l' : Locals) → LikeLocals l l' → R q (around again step k flow l) (around again' step' k' flow l')
    same q fewer Ends l l' f = b.by q fewer l l' (on_ends again k) (on_ends again' k') f (next_fewer q fewer (on_ends_alike a h))
    same q fewer Breaks l l' f = h.by q fewer Ends Ends l l' (Go_on Ends) f
    same q fewer Continues l l' f = b.by q fewer l l' (on_ends again k) (on_ends again' k') f (next_fewer q fewer (on_ends_alike a h))
    same q fewer (Returns v) l l' f = h.by q fewer (Returns v) (Returns v) l l' (Go_on (Returns v)) f

    at : (q : ℕ) → q ≤ r → (flow flow' : Flow) (l l' : Locals) → LikeFlow flow flow' → LikeLocals l l' → R q (around again step k flow l) (around again' step' k' flow' l')
    at q fewer _ _ l l' (Go_on flow) f = same q fewer flow l l' f
    at q fewer _ _ l l' (Gives_back v w g) f = h.by q fewer (Returns v) (Returns w) l l' (Gives_back v w g) f

  births_alike : (r : ℕ) (here : Here) (shapes : List Shape64) (k l : List Wire → Tree) → Alike r (List Wire) AreLike k l → R r (births half here shapes k) (births all here shapes l)
  births_alike r here [] k l h = h.at [] [] Empty
  births_alike r here (s ∷ shapes) k l h = c.birth r (in_here here 0) (s ∷ shapes) k l h.at

  deaths_alike : (r : ℕ) (here : Here) (ps qs : List Wire) (t u : Tree) → AreLike ps qs → R r t u → R r (deaths half here ps t) (deaths all here qs u)
  deaths_alike r here _ _ t u Empty a = a
  deaths_alike r here _ _ t u (More p q ps qs h more) a = c.death r (in_here here 0) (p ∷ ps) (q ∷ qs) t u (More p q ps qs h more) a

  ends_alike : {r : ℕ} {k k' : Next} (here : Here) (outer outer' : List Wire) → AreLike outer outer' → AreNext r k k' → AreNext r (ends half here outer k) (ends all here outer' k')
  ends_alike {r = r} {k = k} {k' = k'} here outer outer' g h = record { by = at } where
    dies : (q : ℕ) → q ≤ r → (flow : Flow) (l l' : Locals) → LikeLocals l l'
        → R q (deaths half here l.born (k flow (record { slots = l.slots; born = outer }))) (deaths all here l'.born (k' flow (record { slots = l'.slots; born = outer' })))
    dies q fewer flow l l' f = deaths_alike q here l.born l'.born _ _ f.born (h.by q fewer flow flow (record { slots = l.slots; born = outer }) (record { slots = l'.slots; born = outer' }) (Go_on flow) (record { slots = f.slots; born = g }))

    gives_it : (q : ℕ) → q ≤ r → (v w : Wire) (l l' : Locals) → LikeFlow (Returns v) (Returns w) → LikeLocals l l' → R q (ends half here outer k (Returns v) l) (ends all here outer' k' (Returns w) l')
    gives_it q fewer v w l l' b f = h.by q fewer (Returns v) (Returns w) (record { slots = l.slots; born = outer ++ l.born }) (record { slots = l'.slots; born = outer' ++ l'.born }) b (record { slots = f.slots; born = appended outer outer' l.born l'.born g f.born })

    same : (q : ℕ) → q ≤ r → (flow : Flow) (l l' : Locals) → LikeLocals l l' → R q (ends half here outer k flow l) (ends all here outer' k' flow l')
    same q fewer Ends l l' f = dies q fewer Ends l l' f
    same q fewer Breaks l l' f = dies q fewer Breaks l l' f
    same q fewer Continues l l' f = dies q fewer Continues l l' f
    same q fewer (Returns v) l l' f = gives_it q fewer v v l l' (Go_on (Returns v)) f

    at : (q : ℕ) → q ≤ r → (flow flow' : Flow) (l l' : Locals) → LikeFlow flow flow' → LikeLocals l l' → R q (ends half here outer k flow l) (ends all here outer' k' flow' l')
    at q fewer _ _ l l' (Go_on flow) f = same q fewer flow l l' f
    at q fewer _ _ l l' (Gives_back v w b) f = gives_it q fewer v w l l' (Gives_back v w b) f

  block_alike : {r : ℕ} {go go' : Go} (here : Here) → Go_alike r go go' → Go_alike r (in_block half here go) (in_block all here go')
  block_alike here a = record {
    by = λ q fewer l l' k k' f h. a.by q fewer (record { slots = l.slots; born = [] }) (record { slots = l'.slots; born = [] }) (ends half here l.born k) (ends all here l'.born k') (record { slots = f.slots; born = Empty })
        (ends_alike here l.born l'.born f.born h);
  }

  closes_alike : {r : ℕ} {k k' : Wire → Tree} (here : Here) → Soon r k k' → AreNext r (closes half here k) (closes all here k')
  closes_alike here h = record {
    by = λ q fewer flow flow' l l' a f. deaths_alike q here l.born l'.born _ _ f.born
        (h.by q fewer (after_deaths l.born (returned flow)) (after_deaths l'.born (returned flow')) (after_deaths_like l.born l'.born (returned flow) (returned flow') f.born (returned_like flow flow' a)));
  }

  declared_by_alike : (r : ℕ) (low low' : Means) (here : Here) (object : Bool) (i : ℕ) (s : Slot) → Go_alike r (declared_by half low here object i s) (declared_by all low' here object i s)
  declared_by_alike r low low' here true i s = record {
    by = λ q fewer l l' k k' f h. births_alike q here (shape_of known s ∷ []) _ _ (record {
      at = λ ps qs a. h.by q (le_refl q) Ends Ends _ _ (Go_on Ends) (with_object_like i (first_of ps) (first_of qs) l l' (first_like ps qs a) f);
    });
  }
  declared_by_alike r low low' here false i s = record {
    by = λ q fewer l l' k k' f h. h.by q (le_refl q) Ends Ends _ _ (Go_on Ends) (record { slots = set_like l.slots l'.slots i (wire_of (zero_value s.ty)) (wire_of (zero_value s.ty)) f.slots (Same _); born = f.born });
  }

  declared_alike : (r : ℕ) (low low' : Means) (here : Here) (i : ℕ) (s : Option Slot) → Go_alike r (declared half low here i s) (declared all low' here i s)
  declared_alike r low low' here i None = leaves_alike r
  declared_alike r low low' here i (Some s) = declared_by_alike r low low' here s.object i s

  returns_alike : (r : ℕ) (low low' : Means) (here : Here) (at : At) (e : Option Term) → Go_alike r (returns half low here at e) (returns all low' here at e)
  returns_alike r low low' here at None = record { by = λ q fewer l l' k k' f h. h.by q (le_refl q) _ _ l l' (Go_on (Returns wire.NoValue)) f }
  returns_alike r low low' here at (Some e) = record {
    by = λ q fewer l l' k k' f h. (keeps_value q at l.slots l'.slots f.slots e).by _ _ (record { at = λ v w a. h.by q (le_refl q) (Returns v) (Returns w) l l' (Gives_back v w a) f });
  }

  enters_alike : {r : ℕ} {low low' : Means} → AreLater r low low' → (here here' : Here) (at at' : At) (f : ℕ) (vs ws : List Wire) → AreLike vs ws → (body : Body) → here.depth ≡ here'.depth → {k k' : Wire → Tree} → Soon r k k'
      → R r (goes_to half low here at f vs (Some body) k) (goes_to all low' here' at' f ws (Some body) k')
  enters_alike {r = r} {low = low} {low' = low'} later here here' at at' f vs ws a body e {k = k} {k' = k'} h =
      subst (λ depth. R r (goes_to half low here at f vs (Some body) k) (enters all low' here' (inner depth) body ws k')) e
      (births_alike r (inner here.depth) (param_shapes known body.slots) _ _ (record {
        at = λ ps qs b.
            (keeps_fills r (in_here (inner here.depth) 0) (object_params 0 body.slots) ps qs (record { slots = framed body.slots vs; born = [] }) (record { slots = framed body.slots ws; born = [] }) b
            (record { slots = framed_like body.slots vs ws a; born = Empty })).by
            (λ l. low (inner here.depth) body.code l (closes half (inner here.depth) k)) (λ l. low' (inner here.depth) body.code l (closes all (inner here.depth) k')) (record {
              at = λ l l' g.
                  (later.by (inner here.depth) body.code).by r (le_refl r) l l' (closes half (inner here.depth) k) (closes all (inner here.depth) k') g (closes_alike (inner here.depth) h);
            });
      }))
    where
      inner : ℕ → Here
      inner depth = record { func = f; depth = suc depth; slots = body.slots; result = body.result }

  module _ (low low' : Means) where
    turn_alike : {r : ℕ} {again again' step step' body body' : Go} (here : Here) → Go_alike r again again' → Go_alike r step step' → Go_alike r body body'
        → Go_alike r (turn half low here again step body) (turn all low' here again' step' body')
    turn_alike here a b d = record {
      by = λ q fewer l l' k k' f h. (block_alike here d).by q fewer l l' _ _ f (around_alike (go_fewer q fewer a) (go_fewer q fewer b) h);
    }

    goes_to_alike : (r : ℕ) → AreLater r low low' → (here : Here) (at : At) (f : ℕ) (vs ws : List Wire) → AreLike vs ws → {k k' : Wire → Tree} → Soon r k k'
        → R r (goes_to half low here at f vs (own f) k) (goes_to all low' here at f ws (own' f) k')
    goes_to_alike r later here at f vs ws a {k = k} {k' = k'} h = of (own f) (own' f) (part f) (λ e. c.cross r here at at f vs ws k k' low' e later.far a h.by)
      where
        of : (o o' : Option Body) → IsPart o o' → (o ≡ None → R r (Tree.Cross at f vs here.depth k) (goes_to all low' here at f ws o' k'))
            → R r (goes_to half low here at f vs o k) (goes_to all low' here at f ws o' k')
        of _ _ (Shared body) crossed = enters_alike later here here at at f vs ws a body refl h
        of _ _ (Absent body) crossed = crossed refl

    direct_alike : (r : ℕ) → AreLater r low low' → (here : Here) (at : At) (f : ℕ) (vs ws : List Wire) → AreLike vs ws → {k k' : Wire → Tree} → Soon r k k'
        → R r (direct half low here at f vs k) (direct all low' here at f ws k')
    direct_alike r later here at f vs ws a {k = k} {k' = k'} h = by_depth (nat_lt here.depth 256) where
      by_depth : (b : Bool) → R r (chosen b (goes_to half low here at f vs (own f)) (deep half low here at) k) (chosen b (goes_to all low' here at f ws (own' f)) (deep all low' here at) k')
      by_depth true = goes_to_alike r later here at f vs ws a h
      by_depth false = c.stop r stop.Depth at

    through_alike : (r : ℕ) → AreLater r low low' → (here : Here) (at : At) (v w : Wire) → Like v w → (vs ws : List Wire) → AreLike vs ws → {k k' : Wire → Tree} → Soon r k k'
        → R r (through half low here at v vs k) (through all low' here at w ws k')
    through_alike r later here at _ _ (Locks s t e) vs ws a h = c.stop r stop.Null at
    through_alike r later here at _ _ (Same v) vs ws a {k = k} {k' = k'} h = of (function_of v)
      where
        of : (x : Result ℕ StopKind) → R r (given at x (λ f. direct half low here at f vs k)) (given at x (λ f. direct all low' here at f ws k'))
        of (Ok f) = direct_alike r later here at f vs ws a h
        of (Err kind) = c.stop r kind at

    -- service 15, and the others
    service_alike : (r : ℕ) → AreLater r low low' → (here : Here) (n : ℕ) (at : At) (form : CallOf) (vs ws : List Wire) → AreLike vs ws → (b : Bool) {k k' : Wire → Tree} → Soon r k k'
        → R r (chosen b (through half low here at (first_of vs) (rest_of vs)) (serves known n at form vs) k) (chosen b (through all low' here at (first_of ws) (rest_of ws)) (serves known n at form ws) k')
    service_alike r later here n at form vs ws a true h = through_alike r later here at (first_of vs) (first_of ws) (first_like vs ws a) (rest_of vs) (rest_of ws) (rest_like vs ws a) h
    service_alike r later here n at form vs ws a false {k = k} {k' = k'} h = (keeps_serves r n at form vs ws a (service_numbered n)).by k k' (record { at = h.by r (le_refl r) })

    call_alike : (r : ℕ) → AreLater r low low' → (here : Here) (at : At) (s s' : List Wire) → AreLike s s' → (form : CallOf) (callee : Called) {k k' : Wire → Tree} → Soon r k k'
        → R r (call_by half low here at s form callee k) (call_by all low' here at s' form callee k')
    call_alike r later here at s s' f form (Called.Direct g) h = (keeps_values r at s s' f form.args).by _ _ (record { at = λ vs ws a. direct_alike r later here at g vs ws a h })
    call_alike r later here at s s' f form (Called.Through e) {k = k} {k' = k'} h =
        (keeps_value r at s s' f e).by _ _ (record {
          at = λ v w b.
              (keeps_values r at s s' f form.args).by (λ vs. through half low here at v vs k) (λ ws. through all low' here at w ws k') (record { at = λ vs ws a. through_alike r later here at v w b vs ws a h });
        })
    call_alike r later here at s s' f form (Called.Service n) h = (keeps_values r at s s' f form.args).by _ _ (record { at = λ vs ws a. service_alike r later here n at form vs ws a (n == 15) h })

    -- what may come later goes together for fewer ticks
    record Sooner (r : ℕ) : Type 0 where
      by : (q : ℕ) → suc q ≤ r → AreLater q low low'

    sooner : {r : ℕ} (q : ℕ) → q ≤ r → Sooner r → Sooner q
    sooner q fewer a = record { by = λ p h. a.by p (omega (arith, h, fewer)) }

    tick_alike : (r : ℕ) (here : Here) (n : ℕ) (go go' : Go) → ((q : ℕ) → suc q ≤ r → Go_alike q go go') → Go_alike r (λ l k. Tree.Tick (in_here here n) here.depth (go l k)) (λ l k. Tree.Tick (in_here here n) here.depth (go' l k))
    tick_alike r here n go go' a = record {
      by = λ q fewer l l' k k' f h. c.tick q (in_here here n) here.depth (go l k) (go' l' k')
          (λ p less. (a p (omega (arith, less, fewer))).by p (le_refl p) l l' k k' f (next_fewer p (omega (arith, less)) h));
    }

    mutual
      stmt_alike : (r : ℕ) → Sooner r → (here : Here) (code : Code) → Go_alike r (stmt half low here code) (stmt all low' here code)
      stmt_alike r s here (Code.Declare n i) = tick_alike r here n _ _ (λ q less. declared_alike q low low' here i (slice_get here.slots i))
      stmt_alike r s here (Code.Text n i bytes) =
          tick_alike r here n _ _ (λ q less. record {
            by = λ p fewer l l' k k' f h.
                texts_alike p (in_here here n) (characters (slice_get here.slots i)) (slot_of l.slots i) (slot_of l'.slots i) 0 bytes _ _ (slot_like l.slots l'.slots i f.slots) (h.by p (le_refl p) Ends Ends l l' (Go_on Ends) f);
          })
      stmt_alike r s here (Code.Assign n target e) =
          tick_alike r here n _ _ (λ q less. record {
            by = λ p fewer l l' k k' f h.
                (keeps_value p (in_here here n) l.slots l'.slots f.slots e).by _ _ (record {
                  at = λ v w a.
                      (keeps_put p (in_here here n) target v w l l' a f).by (k Ends) (k' Ends) (record { at = λ m m' g. h.by p (le_refl p) Ends Ends m m' (Go_on Ends) g });
                });
          })
      stmt_alike r s here (Code.Call n goal form) =
          tick_alike r here n _ _ (λ q less. record {
            by = λ p fewer l l' k k' f h.
                call_alike p (later_fewer p fewer (s.by q less)) here (in_here here n) l.slots l'.slots f.slots form form.callee (record {
                  by = λ o fewer' v w a.
                      (keep_alike o here (in_here here n) goal v w a).by o (le_refl o) l l' k k' f (next_fewer o fewer' h);
                });
          })
      stmt_alike r s here (Code.If n e one other) =
          tick_alike r here n _ _ (λ q less. record {
            by = λ p fewer l l' k k' f h.
                (keeps_value p (in_here here n) l.slots l'.slots f.slots e).by _ _ (record {
                  at = λ v w a.
                      (block_alike here (if_alike p v w a
                      (stmts_alike p (sooner p (omega (arith, less, fewer)) s) here one) (stmts_alike p (sooner p (omega (arith, less, fewer)) s) here other))).by p (le_refl p) l l' k k' f h;
                });
          })
      stmt_alike r s here (Code.Loop n e step body) =
          tick_alike r here n _ _ (λ q less. record {
            by = λ p fewer l l' k k' f h.
                (keeps_value p (in_here here n) l.slots l'.slots f.slots e).by _ _ (record {
                  at = λ v w a.
                      (if_alike p v w a
                      (turn_alike here (go_fewer p fewer ((s.by q less).by here (Codes.Then (Code.Loop n e step body) Codes.End)))
                      (stmts_alike p (sooner p (omega (arith, less, fewer)) s) here step) (stmts_alike p (sooner p (omega (arith, less, fewer)) s) here body))
                      (leaves_alike p)).by p (le_refl p) l l' k k' f h;
                });
          })
      stmt_alike r s here (Code.Block cs) = block_alike here (stmts_alike r s here cs)
      stmt_alike r s here (Code.Return n e) = tick_alike r here n _ _ (λ q less. returns_alike q low low' here (in_here here n) e)
      stmt_alike r s here (Code.Jump n way) = tick_alike r here n _ _ (λ q less. record { by = λ p fewer l l' k k' f h. h.by p (le_refl p) (flow_of way) (flow_of way) l l' (Go_on (flow_of way)) f })

      stmts_alike : (r : ℕ) → Sooner r → (here : Here) (cs : Codes) → Go_alike r (stmts half low here cs) (stmts all low' here cs)
      stmts_alike r s here Codes.End = leaves_alike r
      stmts_alike r s here (Codes.Then code cs) = record {
        by = λ q fewer l l' k k' f h. (stmt_alike r s here code).by q fewer l l' _ _ f (on_ends_alike (go_fewer q fewer (stmts_alike r s here cs)) h);
      }

  -- code at any two fuels above r
  means_alike : (n m r : ℕ) → r < n → r < m → AreLater r (means half n) (means all m)
  unfolding means
  means_alike zero m r less less' = absurd (omega (arith, less))
  means_alike (suc n) zero r less less' = absurd (omega (arith, less'))
  means_alike (suc n) (suc m) r less less' = record {
    by = λ here cs. record {
      by = (stmts_alike (means half n) (means all m) r (record { by = λ q fewer. means_alike n m q (omega (arith, fewer, less)) (omega (arith, fewer, less')) }) here cs).by;
    };
    far = record { fuel = suc m; enough = less'; is = refl };
  }

  -- a function that is started, against the same one in its place, whatever comes after its end
  pub starts_alike : (n m r func : ℕ) → r < n → r < m → (args args' : List Wire) → AreLike args args' → (here : Here) (at : At) (l : Wire → Tree) → ((q : ℕ) → q ≤ r → (v w : Wire) → Like v w → R q (Tree.Done v Tree.Idle) (l w))
      → R r (started half n func args here.depth Tree.Idle) (goes_to all (means all m) here at func args' (own' func) l)
  unfolding started
  starts_alike n m r func less less' args args' a here at l h =
      of (own func) (own' func) (part func) (λ e. c.cross r here (record { func = func; stmt = 0 }) at func args args' (λ v. Tree.Done v Tree.Idle) l (means all m) e (means_alike n m r less less').far a h)
    where
      of : (o o' : Option Body) → IsPart o o' → (o ≡ None → R r (Tree.Cross (record { func = func; stmt = 0 }) func args here.depth (λ v. Tree.Done v Tree.Idle)) (goes_to all (means all m) here at func args' o' l))
          → R r (goes_to half (means half n) (record { func = func; depth = here.depth; slots = []; result = Void }) (record { func = func; stmt = 0 }) func args o (λ v. Tree.Done v Tree.Idle))
          (goes_to all (means all m) here at func args' o' l)
      of _ _ (Shared body) crossed' = enters_alike (means_alike n m r less less') (record { func = func; depth = here.depth; slots = []; result = Void }) here (record { func = func; stmt = 0 }) at func args args' a body refl (record { by = h })
      of _ _ (Absent body) crossed' = crossed' refl
