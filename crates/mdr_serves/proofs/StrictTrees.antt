-- Code is gone through together with the same code on a side that has fewer bodies: where the second tree is fair, the first is strict.
use Rattle.std.proofs.lemmas.Bool.{or_left, or_right}
use Rattle.std.proofs.Common.{◌≡◌, ◌<◌, ◌≤◌, ◌||◌, ◌&&◌, ◌⊎◌, inl, inr, eq-eqb, refl, sym, ap, ◌∙◌, subst, ℤ, ℕ, zero, suc, Bool, true, false, not, List, [], ◌∷◌, ◌++◌, ◌==◌, nat_lt, slice_get, slice_set, Option, Some, None, Result, Ok, Err, le_refl, pos, arith}
use Rattle.mdr_core.specs.declared.code.RelOp.{RelOp}
use Rattle.mdr_core.specs.declared.code.RelOp.TheVariants.{Eq, Ne, Lt, Le, Gt, Ge}
use Rattle.mdr_core.specs.declared.kind.Kind.{Kind}
use Rattle.mdr_core.specs.declared.place.At.{At}
use Rattle.mdr_core.specs.declared.program.Field.{Field}
use Rattle.mdr_core.specs.declared.program.Func.{Func}
use Rattle.mdr_core.specs.declared.program.Program.{Program}
use Rattle.mdr_core.specs.declared.stop.StopKind.{StopKind}
use Rattle.mdr_core.specs.declared.stop.StopKind.TheVariants as stop
use Rattle.mdr_core.specs.declared.types.Ty.{Ty, out-Ty}
use Rattle.mdr_core.specs.declared.types.Ty.TheOpen.{Ty-F}
use Rattle.mdr_core.specs.declared.types.Ty.TheVariants.{Void}
use Rattle.mdr_core.specs.declared.undefined.Undefined.{Undefined}
use Rattle.mdr_core.specs.declared.undefined.Undefined.TheVariants as undefined
use Rattle.mdr_core.specs.Code.{Term, Lvalue, Called, CallOf, Goal, Code, Codes}
use Rattle.mdr_core.specs.Conversions.{converted}
use Rattle.mdr_core.specs.Layout.{chosen, fields_of, zero_value}
use Rattle.mdr_core.specs.Operators.{operated, negated, flipped}
use Rattle.mdr_core.specs.Services.{Service, Kzalloc, Kcalloc, Kfree, Readl, Writel, Printk, RequestIrq, FreeIrq, Deliver, Combolock, Combounlock, Bug, Enter, Leave, service_numbered}
use Rattle.mdr_core.specs.Typing.{Slot}
use Rattle.mdr_core.proofs.Viewed.{some_same}
use Rattle.mdr_meaning.specs.declared.shape.Shape64.{Shape64}
use Rattle.mdr_meaning.specs.declared.wire.Wire.{Wire}
use Rattle.mdr_meaning.specs.declared.wire.Wire.TheVariants as wire
use Rattle.mdr_meaning.specs.declared.wire.WireView.{WireView}
use Rattle.mdr_meaning.specs.Asking.{allocated, asks, counted, serves, serves_by}
use Rattle.mdr_meaning.specs.Bodies.{means, started}
use Rattle.mdr_meaning.specs.Calls.{put, stores, received, keep, function_of, enters, goes_to, deep, direct, through, call_by}
use Rattle.mdr_meaning.specs.Expressions.{given, gives, loads, place, read, slot_of, value, values}
use Rattle.mdr_meaning.specs.Fair.{FairTo, IsServed, after, stands, stands_in}
use Rattle.mdr_meaning.specs.Fit.{Fits, IsResult, Knowledge, PointsTo}
use Rattle.mdr_meaning.specs.Lives.{after_deaths, asked_for, births, closes, deaths, ends, fills, in_block, object_params, param_shapes, returned, shape_of, with_object}
use Rattle.mdr_meaning.specs.Named.{named_type}
use Rattle.mdr_meaning.specs.Numbers.{Numbered}
use Rattle.mdr_meaning.specs.Pointers.{become_by, cast, difference, field_by, field_in, global, is_one_array, member, moved, ordered, related, steps, struct_numbered}
use Rattle.mdr_meaning.specs.Sides.{Body, Side, Here, Locals, Flow, Ends, Breaks, Continues, Returns, Next, Go, Means, flow_of, framed, in_here}
use Rattle.mdr_meaning.specs.Statements.{around, characters, declared, declared_by, element, leaves, on_ends, returns, stmt, stmts, texts, turn}
use Rattle.mdr_meaning.specs.Tree.{Asked, Tree}
use Rattle.mdr_meaning.specs.Values.{at_kind, checked, first_of, integer, is_true, operand, rest_of, right_operand, stop_of, truth, wire_of}
use Rattle.mdr_meaning.specs.Within.{Uses}
use Rattle.mdr_split.specs.Legal.{has_statement, is_object_service}
use Rattle.mdr_serves.proofs.Strict.{Birth, IsFresh, IsLoaded, IsStatement, Strict, births_with, fresh_after}

-- ---- results go on, or are stops of other kinds than that of a used budget

abbrev Goes : {A : Type 0} → Result A StopKind → Type 0
Goes (Ok x) = Unit {0}
Goes (Err kind) = kind ≡ stop.Ticks → ⊥

undefined_goes : (why : Undefined) → stop_of why ≡ stop.Ticks → ⊥
undefined_goes undefined.Overflow e = cc
undefined_goes undefined.DivZero e = cc
undefined_goes undefined.Shift e = cc

kind_goes : (k : Kind) (r : Result ℤ Undefined) → Goes (at_kind k r)
kind_goes k (Ok n) = tt
kind_goes k (Err why) = undefined_goes why

checked_goes : {A : Type 0} (b : Bool) (kind : StopKind) (x : A) → (kind ≡ stop.Ticks → ⊥) → Goes (checked b kind x)
checked_goes true kind x h = tt
checked_goes false kind x h = h

ordered_goes : (p : Program) (op : RelOp) (x y : Wire) → Goes (ordered p op x y)
ordered_goes p op (wire.Int k a) (wire.Int l b) = tt
ordered_goes p op (wire.Ptr v) (wire.Ptr w) = checked_goes (v.serial == w.serial) stop.Compare _ (λ e. cc)
ordered_goes p op x y = λ e. cc

related_goes : (p : Program) (op : RelOp) (x y : Wire) → Goes (related p op x y)
related_goes p Eq x y = tt
related_goes p Ne x y = tt
related_goes p Lt x y = ordered_goes p Lt x y
related_goes p Le x y = ordered_goes p Le x y
related_goes p Gt x y = ordered_goes p Gt x y
related_goes p Ge x y = ordered_goes p Ge x y

difference_goes : (x y : Wire) → Goes (difference x y)
difference_goes (wire.Ptr v) (wire.Ptr w) = checked_goes (is_one_array v w) stop.Compare _ (λ e. cc)
difference_goes x y = λ e. cc

cast_goes : (known : Numbered) (t : Ty) (v : Wire) → Goes (cast known t v)
cast_goes known t (wire.Ptr v) = checked_goes (v.ty == known.number t) stop.BadCast _ (λ e. cc)
cast_goes known t v = tt

moved_goes : (v : Wire) (n : ℤ) → Goes (moved v n)
moved_goes (wire.Ptr v) n = checked_goes _ stop.Bounds _ (λ e. cc)
moved_goes wire.Dead n = λ e. cc
moved_goes v n = λ e. cc

field_by_goes : (known : Numbered) (v : WireView) (s f : ℕ) (x : Option Field) → Goes (field_by known v s f x)
field_by_goes known v s f None = λ e. cc
field_by_goes known v s f (Some x) = checked_goes _ stop.Bounds _ (λ e. cc)

field_goes : (known : Numbered) (v : WireView) (s : Option ℕ) (f : ℕ) → Goes (field_in known v s f)
field_goes known v None f = λ e. cc
field_goes known v (Some s) f = field_by_goes known v s f (slice_get (fields_of known.program.structs s) f)

picked_goes : {A : Type 0} (b : Bool) (r s : Result A StopKind) → Goes r → Goes s → Goes (chosen b r s)
picked_goes true r s h k = h
picked_goes false r s h k = k

member_goes : (known : Numbered) (v : Wire) (f : ℕ) → Goes (member known v f)
member_goes known (wire.Ptr v) f = picked_goes (nat_lt v.index v.count) (field_in known v (struct_numbered known.program v.ty) f) (Err stop.Bounds) (field_goes known v (struct_numbered known.program v.ty) f) (λ e. cc)
member_goes known wire.Dead f = λ e. cc
member_goes known v f = λ e. cc

become_goes : (known : Numbered) (l : Ty-F Ty) (v : Wire) → Goes (become_by known l v)
become_goes known (Ty-F.Int k) (wire.Int l n) = tt
become_goes known (Ty-F.Ptr t) v = cast_goes known t v
become_goes known l v = tt

received_goes : (known : Numbered) (t : Option Ty) (v : Wire) → Goes (received known t v)
received_goes known t wire.NoValue = λ e. cc
received_goes known None v = tt
received_goes known (Some t) v = become_goes known (out-Ty t) v

function_goes : (v : Wire) → Goes (function_of v)
function_goes (wire.Fn f) = tt
function_goes v = λ e. cc

-- the statement's own number, before those of its parts
pub own_first : (n : ℕ) (b : Bool) → (n == n || b) ≡ true
own_first n b = or_left (n == n) b (eq-eqb n n refl)

-- code may touch the first cells of objects of these shapes
abbrev pub AllOpen : (Shape64 → Type 0) → List Shape64 → Type 0
AllOpen Opens [] = Unit {0}
AllOpen Opens (s ∷ shapes) = Opens s × AllOpen Opens shapes

-- ---- the two sides: the second has a part of the first one's bodies

module _ (Opens : Shape64 → Type 0) (program : Program) (known : Numbered) (top : Ty) (uses : Uses) (own part : ℕ → Option Body) where
  abbrev big : Side
  big = record { known = known; own = own; asks = true }

  abbrev small : Side
  small = record { known = known; own = part; asks = true }

  -- where the second tree is fair, the first is strict
  record Turns (r : ℕ) (fresh : List Birth) (t u : Tree) : Type 0 where
    by : (K : Knowledge) (live : List Wire) → K.uses ≡ uses → FairTo 256 program small top K live u → Strict Opens program big r K fresh t

  abbrev T : ℕ → Tree → Tree → Type 0
  T r t u = Turns r [] t u

  -- ---- nodes

  -- what is strict is so where objects were just born
  strict_more : (r : ℕ) (K : Knowledge) (fresh : List Birth) (t : Tree) → Strict Opens program big r K [] t → Strict Opens program big r K fresh t
  strict_more r K fresh Tree.Idle h = tt
  strict_more r K fresh (Tree.Waits k) h = tt
  strict_more r K fresh (Tree.Done v t) h = tt
  strict_more r K fresh (Tree.Stop kind at) h = h
  strict_more zero K fresh (Tree.Tick at d t) h = h
  strict_more (suc r) K fresh (Tree.Tick at d t) h = h
  strict_more r K fresh (Tree.Load at p k) h = h
  strict_more r K fresh (Tree.Store at p v t) (inl h) = inl h
  strict_more r K fresh (Tree.Store at p v t) (inr h) = elim h.0 [ ]
  strict_more r K fresh (Tree.Read at p n k) h = h
  strict_more r K fresh (Tree.Fresh at v k) h = h
  strict_more r K fresh (Tree.Birth at shapes k) h = h
  strict_more r K fresh (Tree.Death at ps t) h = h
  strict_more r K fresh (Tree.Ask a k) h = h
  strict_more r K fresh (Tree.Cross at f args depth k) h = h

  more : (r : ℕ) (fresh : List Birth) (t u : Tree) → T r t u → Turns r fresh t u
  more r fresh t u h = record { by = λ K live same fair. strict_more r K fresh t (h.by K live same fair) }

  -- a pointer has elements of one type
  loads_same : (K : Knowledge) (ty ty' : Ty) (p v : Wire) → IsLoaded program K ty p → PointsTo program K ty' p → Fits program K ty v → Fits program K ty' v
  loads_same K ty ty' (wire.Ptr p) v a b fits = subst (λ (t : Ty). Fits program K t v) (some_same (sym a.0 ∙ b.0)) fits
  loads_same K ty ty' (wire.Int k n) v a b fits = elim a [ ]
  loads_same K ty ty' wire.Null v a b fits = elim a [ ]
  loads_same K ty ty' wire.Dead v a b fits = elim a [ ]
  loads_same K ty ty' (wire.Fn f) v a b fits = elim a [ ]
  loads_same K ty ty' (wire.Lock s) v a b fits = elim a [ ]
  loads_same K ty ty' wire.NoValue v a b fits = elim a [ ]

  turns_ask : (r : ℕ) (a : Asked) → IsStatement big a.at ⊎ (is_object_service a.service ≡ true) → (k l : List Wire → Tree) → ((s : Service) → service_numbered a.service ≡ Some s → (rs : List Wire) → Turns r (fresh_after s a.shapes rs) (k rs) (l rs)) → T r (Tree.Ask a k) (Tree.Ask a l)
  turns_ask r a stand k l h = record {
    by = λ K live same fair. (
      stand,
      λ K' grows s names rs served. (h s names rs).by K' (after fair.1.0 fair.1.3.0 rs) (grows.same ∙ same) (fair.1.3.2 K' grows rs (subst (λ (x : Service). IsServed program K' a x rs) (some_same (sym names ∙ fair.1.1)) served)),
    );
  }

  module _ (at : At) (here : IsStatement big at) where
    turns_stop : (r : ℕ) (kind : StopKind) → (kind ≡ stop.Ticks → ⊥) → T r (Tree.Stop kind at) (Tree.Stop kind at)
    turns_stop r kind h = record { by = λ K live same fair. (here, h) }

    turns_tick : (r d : ℕ) (t u : Tree) → ((q : ℕ) → suc q ≤ r → T q t u) → T r (Tree.Tick at d t) (Tree.Tick at d u)
    turns_tick zero d t u h = record { by = λ K live same fair. here }
    turns_tick (suc r) d t u h = record { by = λ K live same fair. (here, (h r (le_refl (suc r))).by K live same (fair.3 K (record { stays = λ serial shape e. e; same = refl }))) }

    turns_load : (r : ℕ) (p : Wire) (k l : Wire → Tree) → ((v : Wire) → T r (k v) (l v)) → T r (Tree.Load at p k) (Tree.Load at p l)
    turns_load r p k l h = record { by = λ K live same fair. (here, λ ty points v fits. (h v).by K live same (fair.1.3 v (loads_same K ty fair.1.0 p v points fair.1.1 fits))) }

    turns_store : (r : ℕ) (p v : Wire) (t u : Tree) → T r t u → T r (Tree.Store at p v t) (Tree.Store at p v u)
    turns_store r p v t u h = record { by = λ K live same fair. inl (here, h.by K live same fair.2) }

    turns_read : (r : ℕ) (p : Wire) (n : ℕ) (k l : List ℕ → Tree) → ((bs : List ℕ) → T r (k bs) (l bs)) → T r (Tree.Read at p n k) (Tree.Read at p n l)
    turns_read r p n k l h = record { by = λ K live same fair. (here, λ bs long. (h bs).by K live same (fair.2 bs long)) }

    turns_fresh : (r : ℕ) (v : Wire) (k l : Wire → Tree) → ((x : Wire) → T r (k x) (l x)) → T r (Tree.Fresh at v k) (Tree.Fresh at v l)
    turns_fresh r v k l h = record { by = λ K live same fair. (here, (h v).by K live same fair.2) }

    turns_cross : (r f : ℕ) (args : List Wire) (depth : ℕ) (k l : Wire → Tree) → own f ≡ None → ((v : Wire) → T r (k v) (l v)) → T r (Tree.Cross at f args depth k) (Tree.Cross at f args depth l)
    turns_cross r f args depth k l none h = record {
      by = λ K live same fair. (
        here,
        none,
        λ K' grows func names v given. (h v).by K' live (grows.same ∙ same) (fair.2.2 K' grows v (subst (λ (x : Func). IsResult program K' x.result v) (some_same (sym names ∙ fair.2.1.names)) given)),
      );
    }

  -- ---- evaluations, at a statement

  record Keeps (r : ℕ) (A : Type 0) (f : (A → Tree) → Tree) : Type 0 where
    by : (k l : A → Tree) → ((x : A) → T r (k x) (l x)) → T r (f k) (f l)

  module _ (at : At) (here : IsStatement big at) where
    keeps_given : (r : ℕ) (A : Type 0) (x : Result A StopKind) → Goes x → Keeps r A (given at x)
    keeps_given r A (Ok x) g = record { by = λ k l h. h x }
    keeps_given r A (Err kind) g = record { by = λ k l h. turns_stop at here r kind g }

    keeps_gives : (r : ℕ) (v : Wire) → Keeps r Wire (gives v)
    keeps_gives r v = record { by = λ k l h. h v }

    keeps_read : (r : ℕ) (v : Wire) → Keeps r Wire (read at v)
    keeps_read r (wire.Int kind n) = keeps_gives r (wire.Int kind n)
    keeps_read r wire.Null = keeps_gives r wire.Null
    keeps_read r (wire.Ptr v) = record { by = λ k l h. turns_fresh at here r (wire.Ptr v) k l h }
    keeps_read r wire.Dead = record { by = λ k l h. turns_fresh at here r wire.Dead k l h }
    keeps_read r (wire.Fn f) = keeps_gives r (wire.Fn f)
    keeps_read r (wire.Lock s) = keeps_gives r (wire.Lock s)
    keeps_read r wire.NoValue = keeps_gives r wire.NoValue

    keeps_pick : (r : ℕ) (b : Bool) (f g : (Wire → Tree) → Tree) → Keeps r Wire f → Keeps r Wire g → Keeps r Wire (chosen b f g)
    keeps_pick r true f g a b = a
    keeps_pick r false f g a b = b

    keeps_then : (r : ℕ) (A B : Type 0) (f : (A → Tree) → Tree) (g : A → (B → Tree) → Tree) → Keeps r A f → ((x : A) → Keeps r B (g x)) → Keeps r B (λ k. f (λ x. g x k))
    keeps_then r A B f g a b = record { by = λ k l h. a.by (λ x. g x k) (λ x. g x l) (λ x. (b x).by k l h) }

    keeps_made : (r : ℕ) (f : (Wire → Tree) → Tree) (g : Wire → Wire) → Keeps r Wire f → Keeps r Wire (λ k. f (λ x. k (g x)))
    keeps_made r f g a = record { by = λ k l h. a.by (λ x. k (g x)) (λ x. l (g x)) (λ x. h (g x)) }

    keeps_tested : (r : ℕ) (f : (Wire → Tree) → Tree) (g : Wire → Result Wire StopKind) → ((x : Wire) → Goes (g x)) → Keeps r Wire f → Keeps r Wire (λ k. f (λ x. given at (g x) k))
    keeps_tested r f g t a = keeps_then r Wire Wire f (λ x. given at (g x)) a (λ x. keeps_given r Wire (g x) (t x))

    keeps_found : (r : ℕ) (found : (Wire → Tree) → Tree) → Keeps r Wire found → Keeps r Wire (λ k. found (λ p. Tree.Load at p k))
    keeps_found r found a = keeps_then r Wire Wire found (Tree.Load at) a (λ p. record { by = λ k l h. turns_load at here r p k l h })

    keeps_loads : (r : ℕ) (s : List Wire) (p : Lvalue) (found : (Wire → Tree) → Tree) → Keeps r Wire found → Keeps r Wire (loads at s p found)
    keeps_loads r s (Lvalue.Slot i) found a = keeps_read r (slot_of s i)
    keeps_loads r s (Lvalue.Object i) found a = keeps_found r found a
    keeps_loads r s (Lvalue.Global g) found a = keeps_found r found a
    keeps_loads r s (Lvalue.Deref e) found a = keeps_found r found a
    keeps_loads r s (Lvalue.Member p f) found a = keeps_found r found a
    keeps_loads r s (Lvalue.Index p e) found a = keeps_found r found a

    mutual
      keeps_value : (r : ℕ) (s : List Wire) (e : Term) → Keeps r Wire (value known at s e)
      keeps_value r s (Term.Lit v) = keeps_gives r (wire_of v)
      keeps_value r s (Term.Load p) = keeps_loads r s p (place known at s p) (keeps_place r s p)
      keeps_value r s (Term.Addr p) = keeps_place r s p
      keeps_value r s (Term.Decay p) = keeps_place r s p
      keeps_value r s (Term.Neg kind e) = keeps_tested r (value known at s e) (λ x. at_kind kind (negated kind (operand kind x))) (λ x. kind_goes kind (negated kind (operand kind x))) (keeps_value r s e)
      keeps_value r s (Term.Flip kind e) = keeps_made r (value known at s e) (λ x. wire.Int kind (flipped kind (operand kind x))) (keeps_value r s e)
      keeps_value r s (Term.Not e) = keeps_made r (value known at s e) (λ x. truth (not (is_true x))) (keeps_value r s e)
      keeps_value r s (Term.Bin op kind a b) =
          keeps_then r Wire Wire (value known at s a) (λ x k. value known at s b (λ y. given at (at_kind kind (operated op kind (operand kind x) (right_operand op kind (integer y)))) k)) (keeps_value r s a)
          (λ x. keeps_tested r (value known at s b) (λ y. at_kind kind (operated op kind (operand kind x) (right_operand op kind (integer y)))) (λ y. kind_goes kind (operated op kind (operand kind x) (right_operand op kind (integer y)))) (keeps_value r s b))
      keeps_value r s (Term.Rel op a b) =
          keeps_then r Wire Wire (value known at s a) (λ x k. value known at s b (λ y. given at (related known.program op x y) k)) (keeps_value r s a)
          (λ x. keeps_tested r (value known at s b) (λ y. related known.program op x y) (λ y. related_goes known.program op x y) (keeps_value r s b))
      keeps_value r s (Term.And a b) =
          keeps_then r Wire Wire (value known at s a) (λ x k. chosen (is_true x) (value known at s b) (gives (truth false)) (λ y. k (truth (is_true y)))) (keeps_value r s a)
          (λ x. keeps_made r (chosen (is_true x) (value known at s b) (gives (truth false))) (λ y. truth (is_true y))
          (keeps_pick r (is_true x) (value known at s b) (gives (truth false)) (keeps_value r s b) (keeps_gives r (truth false))))
      keeps_value r s (Term.Or a b) =
          keeps_then r Wire Wire (value known at s a) (λ x k. chosen (is_true x) (gives (truth true)) (value known at s b) (λ y. k (truth (is_true y)))) (keeps_value r s a)
          (λ x. keeps_made r (chosen (is_true x) (gives (truth true)) (value known at s b)) (λ y. truth (is_true y))
          (keeps_pick r (is_true x) (gives (truth true)) (value known at s b) (keeps_gives r (truth true)) (keeps_value r s b)))
      keeps_value r s (Term.Conv kind e) = keeps_made r (value known at s e) (λ x. wire.Int kind (converted kind (integer x))) (keeps_value r s e)
      keeps_value r s (Term.ToVoid e) = keeps_value r s e
      keeps_value r s (Term.FromVoid ty e) = keeps_tested r (value known at s e) (cast known ty) (cast_goes known ty) (keeps_value r s e)
      keeps_value r s (Term.Move back p i) =
          keeps_then r Wire Wire (value known at s p) (λ x k. value known at s i (λ n. given at (moved x (steps back (integer n))) k)) (keeps_value r s p)
          (λ x. keeps_tested r (value known at s i) (λ n. moved x (steps back (integer n))) (λ n. moved_goes x (steps back (integer n))) (keeps_value r s i))
      keeps_value r s (Term.Diff p q) =
          keeps_then r Wire Wire (value known at s p) (λ x k. value known at s q (λ y. given at (difference x y) k)) (keeps_value r s p)
          (λ x. keeps_tested r (value known at s q) (difference x) (difference_goes x) (keeps_value r s q))

      keeps_place : (r : ℕ) (s : List Wire) (p : Lvalue) → Keeps r Wire (place known at s p)
      keeps_place r s (Lvalue.Slot i) = keeps_gives r wire.Null
      keeps_place r s (Lvalue.Object i) = keeps_gives r (slot_of s i)
      keeps_place r s (Lvalue.Global g) = keeps_gives r (global known g)
      keeps_place r s (Lvalue.Deref e) = keeps_value r s e
      keeps_place r s (Lvalue.Member p f) = keeps_tested r (place known at s p) (λ a. member known a f) (λ a. member_goes known a f) (keeps_place r s p)
      keeps_place r s (Lvalue.Index p e) =
          keeps_then r Wire Wire (place known at s p) (λ a k. value known at s e (λ n. given at (moved a (integer n)) k)) (keeps_place r s p)
          (λ a. keeps_tested r (value known at s e) (λ n. moved a (integer n)) (λ n. moved_goes a (integer n)) (keeps_value r s e))

    keeps_values : (r : ℕ) (s : List Wire) (es : List Term) → Keeps r (List Wire) (values known at s es)
    keeps_values r s [] = record { by = λ k l h. h [] }
    keeps_values r s (e ∷ es) =
        keeps_then r Wire (List Wire) (value known at s e) (λ v k. values known at s es (λ vs. k (v ∷ vs))) (keeps_value r s e)
        (λ v. record { by = λ k l h. (keeps_values r s es).by (λ vs. k (v ∷ vs)) (λ vs. l (v ∷ vs)) (λ vs. h (v ∷ vs)) })

    keeps_stored : (r : ℕ) (found : (Wire → Tree) → Tree) (v : Wire) (l : Locals) → Keeps r Wire found → Keeps r Locals (λ go. found (λ p. Tree.Store at p v (go l)))
    keeps_stored r found v l a = record { by = λ j k h. a.by (λ p. Tree.Store at p v (j l)) (λ p. Tree.Store at p v (k l)) (λ p. turns_store at here r p v (j l) (k l) (h l)) }

    keeps_stores : (r : ℕ) (p : Lvalue) (found : (Wire → Tree) → Tree) (v : Wire) (l : Locals) → Keeps r Wire found → Keeps r Locals (stores at p found v l)
    keeps_stores r (Lvalue.Slot i) found v l a = record { by = λ j k h. h (record { slots = slice_set l.slots i v; born = l.born }) }
    keeps_stores r (Lvalue.Object i) found v l a = keeps_stored r found v l a
    keeps_stores r (Lvalue.Global g) found v l a = keeps_stored r found v l a
    keeps_stores r (Lvalue.Deref e) found v l a = keeps_stored r found v l a
    keeps_stores r (Lvalue.Member p f) found v l a = keeps_stored r found v l a
    keeps_stores r (Lvalue.Index p e) found v l a = keeps_stored r found v l a

    keeps_put : (r : ℕ) (p : Lvalue) (v : Wire) (l : Locals) → Keeps r Locals (put known at p v l)
    keeps_put r p v l = keeps_stores r p (place known at l.slots p) v l (keeps_place r l.slots p)

    keeps_asks : (r n : ℕ) (vs : List Wire) (shapes : List Shape64) (bytes : List ℕ) → Keeps r Wire (asks n at vs shapes bytes)
    keeps_asks r n vs shapes bytes = record {
      by = λ k l h. turns_ask r (asked_for n at vs shapes bytes) (inl here) (λ rs. k (first_of rs)) (λ rs. l (first_of rs)) (λ s names rs. more r (fresh_after s shapes rs) (k (first_of rs)) (l (first_of rs)) (h (first_of rs)));
    }

    keeps_serves : (r n : ℕ) (form : CallOf) (vs : List Wire) (s : Option Service) → Keeps r Wire (serves_by known n at form vs s)
    keeps_serves r n form vs None = keeps_asks r n vs [] []
    keeps_serves r n form vs (Some Kzalloc) = keeps_asks r n [] (allocated known form.shape 1) []
    keeps_serves r n form vs (Some Kcalloc) = keeps_asks r n [] (allocated known form.shape (counted (first_of vs))) []
    keeps_serves r n form vs (Some Kfree) = keeps_asks r n vs [] []
    keeps_serves r n form vs (Some Readl) = keeps_asks r n vs [] []
    keeps_serves r n form vs (Some Writel) = keeps_asks r n vs [] []
    keeps_serves r n form vs (Some Printk) = keeps_asks r n [] [] _
    keeps_serves r n form vs (Some RequestIrq) = keeps_asks r n vs [] []
    keeps_serves r n form vs (Some FreeIrq) = keeps_asks r n vs [] []
    keeps_serves r n form vs (Some Deliver) = record {
      by = λ k l h. turns_read at here r (first_of vs) (counted (first_of (rest_of vs))) _ _ (λ bytes. (keeps_asks r n [] [] bytes).by k l h);
    }
    keeps_serves r n form vs (Some Combolock) = keeps_asks r n vs [] []
    keeps_serves r n form vs (Some Combounlock) = keeps_asks r n vs [] []
    keeps_serves r n form vs (Some Bug) = keeps_asks r n vs [] []
    keeps_serves r n form vs (Some Enter) = keeps_asks r n vs [] []
    keeps_serves r n form vs (Some Leave) = keeps_asks r n vs [] []

    texts_turn : (r : ℕ) (kind : Kind) (p : Wire) (i : ℕ) (bs : List ℕ) (t u : Tree) → T r t u → T r (texts at kind p i bs t) (texts at kind p i bs u)
    texts_turn r kind p i [] t u h = h
    texts_turn r kind p i (b ∷ bs) t u h = turns_store at here r (element p i) (wire.Int kind (converted kind (pos b))) _ _ (texts_turn r kind p (suc i) bs t u h)

  -- ---- objects that were just born

  -- the pointers that are stored through are among them
  abbrev Among : List Birth → List ℕ → List Wire → Type 0
  Among fresh [] ps = Unit {0}
  Among fresh (i ∷ is) [] = Unit {0}
  Among fresh (i ∷ is) (p ∷ ps) = IsFresh Opens fresh p × Among fresh is ps

  among_more : (b : Birth) (fresh : List Birth) (is : List ℕ) (ps : List Wire) → Among fresh is ps → Among (b ∷ fresh) is ps
  among_more b fresh [] ps h = tt
  among_more b fresh (i ∷ is) [] h = tt
  among_more b fresh (i ∷ is) (p ∷ ps) h = (inr h.0, among_more b fresh is ps h.1)

  among_by : (b : Bool) (i : ℕ) (shape : Shape64) (shapes : List Shape64) (is : List ℕ) (ps : List Wire) → AllOpen Opens (chosen b (shape ∷ shapes) shapes) → ((ps' : List Wire) → AllOpen Opens shapes → Among (births_with shapes ps') is ps')
      → Among (births_with (chosen b (shape ∷ shapes) shapes) ps) (chosen b (i ∷ is) is) ps
  among_by true i shape shapes is [] open' h = tt
  among_by true i shape shapes is (p ∷ ps) open' h = (inl (refl, open'.0), among_more (record { shape = shape; pointer = p }) (births_with shapes ps) is ps (h ps open'.1))
  among_by false i shape shapes is ps open' h = h ps open'

  born_among : (i : ℕ) (slots : List Slot) (ps : List Wire) → AllOpen Opens (param_shapes known slots) → Among (births_with (param_shapes known slots) ps) (object_params i slots) ps
  born_among i [] ps open' = tt
  born_among i (s ∷ ss) ps open' = among_by (s.object && not s.is_local) i (shape_of known s) (param_shapes known ss) (object_params (suc i) ss) ps open' (λ ps' h. born_among (suc i) ss ps' h)

  fills_turn : (r : ℕ) (at : At) (is : List ℕ) (ps : List Wire) (l : Locals) (go go' : Locals → Tree) (fresh : List Birth) → Among fresh is ps → ((l' : Locals) → T r (go l') (go' l')) → Turns r fresh (fills at is ps l go) (fills at is ps l go')
  fills_turn r at [] ps l go go' fresh among h = more r fresh (go l) (go' l) (h l)
  fills_turn r at (i ∷ is) [] l go go' fresh among h = more r fresh (go l) (go' l) (h l)
  fills_turn r at (i ∷ is) (p ∷ ps) l go go' fresh among h = record {
    by = λ K live same fair. inr (among.0, (fills_turn r at is ps (with_object i p l) go go' fresh among.1 h).by K live same fair.2);
  }

  births_turn : (r : ℕ) (here : Here) (shapes : List Shape64) (k l : List Wire → Tree) → ((ps : List Wire) → Turns r (births_with shapes ps) (k ps) (l ps)) → T r (births big here shapes k) (births small here shapes l)
  births_turn r here [] k l h = h []
  births_turn r here (s ∷ shapes) k l h =
      turns_ask r (asked_for 13 (in_here here 0) [] (s ∷ shapes) []) (inr refl) k l
      (λ service names rs. subst (λ (x : Service). Turns r (fresh_after x (s ∷ shapes) rs) (k rs) (l rs)) (some_same names) (h rs))

  deaths_turn : (r : ℕ) (here : Here) (ps : List Wire) (t u : Tree) → T r t u → T r (deaths big here ps t) (deaths small here ps u)
  deaths_turn r here [] t u h = h
  deaths_turn r here (p ∷ ps) t u h = turns_ask r (asked_for 14 (in_here here 0) (p ∷ ps) [] []) (inr refl) (λ rs. t) (λ rs. u) (λ s names rs. more r (fresh_after s [] rs) t u h)

  -- ---- what comes next, with so many ticks or fewer

  record Soon (r : ℕ) (k l : Wire → Tree) : Type 0 where
    by : (q : ℕ) → q ≤ r → (v : Wire) → T q (k v) (l v)

  record AreNext (r : ℕ) (k k' : Next) : Type 0 where
    by : (q : ℕ) → q ≤ r → (flow : Flow) (l : Locals) → T q (k flow l) (k' flow l)

  record AreBoth (r : ℕ) (go go' : Go) : Type 0 where
    by : (q : ℕ) → q ≤ r → (l : Locals) (k k' : Next) → AreNext q k k' → T q (go l k) (go' l k')

  next_fewer : {r : ℕ} {k k' : Next} (q : ℕ) → q ≤ r → AreNext r k k' → AreNext q k k'
  next_fewer q fewer a = record { by = λ p h. a.by p (omega (arith, h, fewer)) }

  both_fewer : {r : ℕ} {go go' : Go} (q : ℕ) → q ≤ r → AreBoth r go go' → AreBoth q go go'
  both_fewer q fewer a = record { by = λ p h. a.by p (omega (arith, h, fewer)) }

  pick_both : (r : ℕ) (b : Bool) {f g f' g' : Go} → AreBoth r f f' → AreBoth r g g' → AreBoth r (chosen b f g) (chosen b f' g')
  pick_both r true a b = a
  pick_both r false a b = b

  leaves_both : (r : ℕ) → AreBoth r leaves leaves
  leaves_both r = record { by = λ q fewer l k k' h. h.by q (le_refl q) Ends l }

  keep_both : (r : ℕ) (here : Here) (at : At) → IsStatement big at → (goal : Goal) (v : Wire) → AreBoth r (keep known here at goal v) (keep known here at goal v)
  keep_both r here at w Goal.Nowhere v = leaves_both r
  keep_both r here at w (Goal.Into p) v = record {
    by = λ q fewer l k k' h. (keeps_given at w q Wire (received known (named_type known.program here.slots p) v) (received_goes known (named_type known.program here.slots p) v)).by _ _
        (λ x. (keeps_put at w q p x l).by (k Ends) (k' Ends) (h.by q (le_refl q) Ends));
  }
  keep_both r here at w Goal.Back v = record {
    by = λ q fewer l k k' h. (keeps_given at w q Wire (received known (Some here.result) v) (received_goes known (Some here.result) v)).by _ _ (λ x. h.by q (le_refl q) (Returns x) l);
  }

  on_ends_both : {r : ℕ} {go go' : Go} {k k' : Next} → AreBoth r go go' → AreNext r k k' → AreNext r (on_ends go k) (on_ends go' k')
  on_ends_both {r = r} {go = go} {go' = go'} {k = k} {k' = k'} a h = record { by = at } where
    at : (q : ℕ) → q ≤ r → (flow : Flow) (l : Locals) → T q (on_ends go k flow l) (on_ends go' k' flow l)
    at q fewer Ends l = a.by q fewer l k k' (next_fewer q fewer h)
    at q fewer Breaks l = h.by q fewer Breaks l
    at q fewer Continues l = h.by q fewer Continues l
    at q fewer (Returns v) l = h.by q fewer (Returns v) l

  around_both : {r : ℕ} {again again' step step' : Go} {k k' : Next} → AreBoth r again again' → AreBoth r step step' → AreNext r k k' → AreNext r (around again step k) (around again' step' k')
  around_both {r = r} {again = again} {again' = again'} {step = step} {step' = step'} {k = k} {k' = k'} a b h = record { by = at } where
    at : (q : ℕ) → q ≤ r → (flow : Flow) (l : Locals) → T q (around again step k flow l) (around again' step' k' flow l)
    at q fewer Ends l = b.by q fewer l (on_ends again k) (on_ends again' k') (next_fewer q fewer (on_ends_both a h))
    at q fewer Breaks l = h.by q fewer Ends l
    at q fewer Continues l = b.by q fewer l (on_ends again k) (on_ends again' k') (next_fewer q fewer (on_ends_both a h))
    at q fewer (Returns v) l = h.by q fewer (Returns v) l

  ends_both : {r : ℕ} {k k' : Next} (here : Here) (outer : List Wire) → AreNext r k k' → AreNext r (ends big here outer k) (ends small here outer k')
  ends_both {r = r} {k = k} {k' = k'} here outer h = record { by = at } where
    dies : (q : ℕ) → q ≤ r → (flow : Flow) (l : Locals)
        → T q (deaths big here l.born (k flow (record { slots = l.slots; born = outer }))) (deaths small here l.born (k' flow (record { slots = l.slots; born = outer })))
    dies q fewer flow l = deaths_turn q here l.born _ _ (h.by q fewer flow (record { slots = l.slots; born = outer }))

    at : (q : ℕ) → q ≤ r → (flow : Flow) (l : Locals) → T q (ends big here outer k flow l) (ends small here outer k' flow l)
    at q fewer Ends l = dies q fewer Ends l
    at q fewer Breaks l = dies q fewer Breaks l
    at q fewer Continues l = dies q fewer Continues l
    at q fewer (Returns v) l = h.by q fewer (Returns v) (record { slots = l.slots; born = outer ++ l.born })

  block_both : {r : ℕ} {go go' : Go} (here : Here) → AreBoth r go go' → AreBoth r (in_block big here go) (in_block small here go')
  block_both here a = record {
    by = λ q fewer l k k' h. a.by q fewer (record { slots = l.slots; born = [] }) (ends big here l.born k) (ends small here l.born k') (ends_both here l.born h);
  }

  closes_both : {r : ℕ} {k k' : Wire → Tree} (here : Here) → Soon r k k' → AreNext r (closes big here k) (closes small here k')
  closes_both here h = record { by = λ q fewer flow l. deaths_turn q here l.born _ _ (h.by q fewer (after_deaths l.born (returned flow))) }

  -- ---- numbers of statements

  record Inside (here : Here) (cs : Codes) : Type 0 where
    each : (n : ℕ) → stands n cs ≡ true → IsStatement big (in_here here n)

  record InsideCode (here : Here) (c : Code) : Type 0 where
    each : (n : ℕ) → stands_in n c ≡ true → IsStatement big (in_here here n)

  first_inside : (here : Here) (c : Code) (cs : Codes) → Inside here (Codes.Then c cs) → InsideCode here c
  first_inside here c cs h = record { each = λ n e. h.each n (or_left (stands_in n c) (stands n cs) e) }

  rest_inside : (here : Here) (c : Code) (cs : Codes) → Inside here (Codes.Then c cs) → Inside here cs
  rest_inside here c cs h = record { each = λ n e. h.each n (or_right (stands_in n c) (stands n cs) e) }

  or_none : (b : Bool) → (b || false) ≡ true → b ≡ true
  or_none true h = refl
  or_none false h = h

  only_inside : (here : Here) (c : Code) → InsideCode here c → Inside here (Codes.Then c Codes.End)
  only_inside here c h = record { each = λ n e. h.each n (or_none (stands_in n c) e) }

  -- two meanings of code that comes later
  record AreLater (r : ℕ) (low low' : Means) : Type 0 where
    by : (here : Here) (cs : Codes) → Inside here cs → AreBoth r (low here cs) (low' here cs)

  later_fewer : {r : ℕ} {low low' : Means} (q : ℕ) → q ≤ r → AreLater r low low' → AreLater q low low'
  later_fewer q fewer a = record { by = λ here cs i. record { by = λ p h. (a.by here cs i).by p (omega (arith, h, fewer)) } }

  -- ---- code, where functions of the smaller side call no others of the larger one, and may touch what their parameters are born as

  module _ (inside : (f : ℕ) (body : Body) → part f ≡ Some body → own f ≡ Some body) (closed : (f g : ℕ) (body other : Body) → part f ≡ Some body → own g ≡ Some other → uses.calls f g ≡ true → part g ≡ None → ⊥) (opens : (f : ℕ) (body : Body) → part f ≡ Some body → AllOpen Opens (param_shapes known body.slots)) where
    -- a function of the larger side alone isn't called
    crosses_not : (r : ℕ) (at : At) (f : ℕ) (args : List Wire) (depth : ℕ) (t : Tree) (l : Wire → Tree) (other : Body) → own f ≡ Some other → part f ≡ None → T r t (Tree.Cross at f args depth l)
    crosses_not r at f args depth t l other is none = record {
      by = λ K live same fair. elim (closed at.func f fair.0.body other fair.0.own is (ap (λ (u : Uses). u.calls at.func f) (sym same) ∙ fair.2.1.calls) none) [ ];
    }

    declared_by_both : (r : ℕ) (low low' : Means) (here : Here) (object : Bool) (i : ℕ) (s : Slot) → AreBoth r (declared_by big low here object i s) (declared_by small low' here object i s)
    declared_by_both r low low' here true i s = record {
      by = λ q fewer l k k' h. births_turn q here (shape_of known s ∷ []) _ _ (λ ps. more q (births_with (shape_of known s ∷ []) ps) _ _ (h.by q (le_refl q) Ends (with_object i (first_of ps) l)));
    }
    declared_by_both r low low' here false i s = record { by = λ q fewer l k k' h. h.by q (le_refl q) Ends (record { slots = slice_set l.slots i (wire_of (zero_value s.ty)); born = l.born }) }

    declared_both : (r : ℕ) (low low' : Means) (here : Here) (i : ℕ) (s : Option Slot) → AreBoth r (declared big low here i s) (declared small low' here i s)
    declared_both r low low' here i None = leaves_both r
    declared_both r low low' here i (Some s) = declared_by_both r low low' here s.object i s

    returns_both : (r : ℕ) (low low' : Means) (here : Here) (at : At) → IsStatement big at → (e : Option Term) → AreBoth r (returns big low here at e) (returns small low' here at e)
    returns_both r low low' here at w None = record { by = λ q fewer l k k' h. h.by q (le_refl q) (Returns wire.NoValue) l }
    returns_both r low low' here at w (Some e) = record { by = λ q fewer l k k' h. (keeps_value at w q l.slots e).by _ _ (λ v. h.by q (le_refl q) (Returns v) l) }

    module _ (low low' : Means) where
      turn_both : {r : ℕ} {again again' step step' body body' : Go} (here : Here) → AreBoth r again again' → AreBoth r step step' → AreBoth r body body'
          → AreBoth r (turn big low here again step body) (turn small low' here again' step' body')
      turn_both here a b d = record {
        by = λ q fewer l k k' h. (block_both here d).by q fewer l _ _ (around_both (both_fewer q fewer a) (both_fewer q fewer b) h);
      }

      -- a body that both sides have
      enters_both : (r : ℕ) → AreLater r low low' → (here inner : Here) (body : Body) → own inner.func ≡ Some body → part inner.func ≡ Some body → (vs : List Wire) {k k' : Wire → Tree} → Soon r k k'
          → T r (enters big low here inner body vs k) (enters small low' here inner body vs k')
      enters_both r later here inner body is is' vs {k = k} {k' = k'} h =
          births_turn r inner (param_shapes known body.slots) _ _ (λ ps.
          fills_turn r (in_here inner 0) (object_params 0 body.slots) ps (record { slots = framed body.slots vs; born = [] })
          (λ l. low inner body.code l (closes big inner k)) (λ l. low' inner body.code l (closes small inner k')) (births_with (param_shapes known body.slots) ps)
          (born_among 0 body.slots ps (opens inner.func body is'))
          (λ l. (later.by inner body.code (record { each = λ n e. ap (λ (o : Option Body). has_statement o n) is ∙ e })).by r (le_refl r) l (closes big inner k) (closes small inner k') (closes_both inner h)))

      goes_to_both : (r : ℕ) → AreLater r low low' → (here : Here) (at : At) → IsStatement big at → (f : ℕ) (vs : List Wire) (o o' : Option Body) → own f ≡ o → part f ≡ o' → {k k' : Wire → Tree} → Soon r k k'
          → T r (goes_to big low here at f vs o k) (goes_to small low' here at f vs o' k')
      goes_to_both r later here at w f vs None None is is' {k = k} {k' = k'} h = turns_cross at w r f vs here.depth k k' is (h.by r (le_refl r))
      goes_to_both r later here at w f vs None (Some body) is is' h = let both : None ≡ Some body = sym is ∙ inside f body is' in absurd cc
      goes_to_both r later here at w f vs (Some body) None is is' {k = k} {k' = k'} h =
          crosses_not r at f vs here.depth (goes_to big low here at f vs (Some body) k) k' body is is'
      goes_to_both r later here at w f vs (Some body) (Some body') is is' {k = k} {k' = k'} h =
          let one : body' ≡ body = some_same (sym (inside f body' is') ∙ is) in
          subst (λ (b : Body). T r (goes_to big low here at f vs (Some body) k) (goes_to small low' here at f vs (Some b) k')) (sym one)
          (enters_both r later here (record { func = f; depth = suc here.depth; slots = body.slots; result = body.result }) body is (is' ∙ ap (λ (b : Body). Some b) one) vs h)

      direct_both : (r : ℕ) → AreLater r low low' → (here : Here) (at : At) → IsStatement big at → (f : ℕ) (vs : List Wire) {k k' : Wire → Tree} → Soon r k k'
          → T r (direct big low here at f vs k) (direct small low' here at f vs k')
      direct_both r later here at w f vs {k = k} {k' = k'} h = by_depth (nat_lt here.depth 256) where
        by_depth : (b : Bool) → T r (chosen b (goes_to big low here at f vs (own f)) (deep big low here at) k) (chosen b (goes_to small low' here at f vs (part f)) (deep small low' here at) k')
        by_depth true = goes_to_both r later here at w f vs (own f) (part f) refl refl h
        by_depth false = turns_stop at w r stop.Depth (λ e. cc)

      through_both : (r : ℕ) → AreLater r low low' → (here : Here) (at : At) → IsStatement big at → (v : Wire) (vs : List Wire) {k k' : Wire → Tree} → Soon r k k'
          → T r (through big low here at v vs k) (through small low' here at v vs k')
      through_both r later here at w v vs h = (keeps_given at w r ℕ (function_of v) (function_goes v)).by _ _ (λ f. direct_both r later here at w f vs h)

      -- service 15, and the others
      service_both : (r : ℕ) → AreLater r low low' → (here : Here) (n : ℕ) (at : At) → IsStatement big at → (form : CallOf) (vs : List Wire) (b : Bool) {k k' : Wire → Tree} → Soon r k k'
          → T r (chosen b (through big low here at (first_of vs) (rest_of vs)) (serves known n at form vs) k) (chosen b (through small low' here at (first_of vs) (rest_of vs)) (serves known n at form vs) k')
      service_both r later here n at w form vs true h = through_both r later here at w (first_of vs) (rest_of vs) h
      service_both r later here n at w form vs false {k = k} {k' = k'} h = (keeps_serves at w r n form vs (service_numbered n)).by k k' (h.by r (le_refl r))

      call_both : (r : ℕ) → AreLater r low low' → (here : Here) (at : At) → IsStatement big at → (s : List Wire) (form : CallOf) (callee : Called) {k k' : Wire → Tree} → Soon r k k'
          → T r (call_by big low here at s form callee k) (call_by small low' here at s form callee k')
      call_both r later here at w s form (Called.Direct f) h = (keeps_values at w r s form.args).by _ _ (λ vs. direct_both r later here at w f vs h)
      call_both r later here at w s form (Called.Through e) {k = k} {k' = k'} h =
          (keeps_value at w r s e).by _ _ (λ v. (keeps_values at w r s form.args).by (λ vs. through big low here at v vs k) (λ vs. through small low' here at v vs k') (λ vs. through_both r later here at w v vs h))
      call_both r later here at w s form (Called.Service n) h = (keeps_values at w r s form.args).by _ _ (λ vs. service_both r later here n at w form vs (n == 15) h)

      -- what may come later is alike for fewer ticks
      record Sooner (r : ℕ) : Type 0 where
        by : (q : ℕ) → suc q ≤ r → AreLater q low low'

      sooner : {r : ℕ} (q : ℕ) → q ≤ r → Sooner r → Sooner q
      sooner q fewer a = record { by = λ p h. a.by p (omega (arith, h, fewer)) }

      tick_both : (r : ℕ) (here : Here) (n : ℕ) → IsStatement big (in_here here n) → (go go' : Go) → ((q : ℕ) → suc q ≤ r → AreBoth q go go') → AreBoth r (λ l k. Tree.Tick (in_here here n) here.depth (go l k)) (λ l k. Tree.Tick (in_here here n) here.depth (go' l k))
      tick_both r here n w go go' a = record {
        by = λ q fewer l k k' h. turns_tick (in_here here n) w q here.depth (go l k) (go' l k')
            (λ p less. (a p (omega (arith, less, fewer))).by p (le_refl p) l k k' (next_fewer p (omega (arith, less)) h));
      }

      mutual
        stmt_both : (r : ℕ) → Sooner r → (here : Here) (code : Code) → InsideCode here code → AreBoth r (stmt big low here code) (stmt small low' here code)
        stmt_both r s here (Code.Declare n i) i' = tick_both r here n (i'.each n (eq-eqb n n refl)) _ _ (λ q less. declared_both q low low' here i (slice_get here.slots i))
        stmt_both r s here (Code.Text n i bytes) i' =
            let w = i'.each n (eq-eqb n n refl) in
            tick_both r here n w _ _ (λ q less. record {
              by = λ p fewer l k k' h.
                  texts_turn (in_here here n) w p (characters (slice_get here.slots i)) (slot_of l.slots i) 0 bytes _ _ (h.by p (le_refl p) Ends l);
            })
        stmt_both r s here (Code.Assign n target e) i' =
            let w = i'.each n (eq-eqb n n refl) in
            tick_both r here n w _ _ (λ q less. record {
              by = λ p fewer l k k' h.
                  (keeps_value (in_here here n) w p l.slots e).by _ _ (λ v. (keeps_put (in_here here n) w p target v l).by (k Ends) (k' Ends) (h.by p (le_refl p) Ends));
            })
        stmt_both r s here (Code.Call n goal form) i' =
            let w = i'.each n (eq-eqb n n refl) in
            tick_both r here n w _ _ (λ q less. record {
              by = λ p fewer l k k' h.
                  call_both p (later_fewer p fewer (s.by q less)) here (in_here here n) w l.slots form form.callee (record {
                    by = λ o fewer' v. (keep_both o here (in_here here n) w goal v).by o (le_refl o) l k k' (next_fewer o fewer' h);
                  });
            })
        stmt_both r s here (Code.If n e one other) i' =
            let w = i'.each n (own_first n (stands n one || stands n other)) in
            let first : Inside here one = record { each = λ m x. i'.each m (or_right (m == n) _ (or_left (stands m one) (stands m other) x)) } in
            let second : Inside here other = record { each = λ m x. i'.each m (or_right (m == n) _ (or_right (stands m one) (stands m other) x)) } in
            tick_both r here n w _ _ (λ q less. record {
              by = λ p fewer l k k' h.
                  (keeps_value (in_here here n) w p l.slots e).by _ _ (λ v.
                  (block_both here (pick_both p (is_true v)
                  (stmts_both p (sooner p (omega (arith, less, fewer)) s) here one first) (stmts_both p (sooner p (omega (arith, less, fewer)) s) here other second))).by p (le_refl p) l k k' h);
            })
        stmt_both r s here (Code.Loop n e step body) i' =
            let w = i'.each n (own_first n (stands n step || stands n body)) in
            let first : Inside here step = record { each = λ m x. i'.each m (or_right (m == n) _ (or_left (stands m step) (stands m body) x)) } in
            let second : Inside here body = record { each = λ m x. i'.each m (or_right (m == n) _ (or_right (stands m step) (stands m body) x)) } in
            tick_both r here n w _ _ (λ q less. record {
              by = λ p fewer l k k' h.
                  (keeps_value (in_here here n) w p l.slots e).by _ _ (λ v.
                  (pick_both p (is_true v)
                  (turn_both here (both_fewer p fewer ((s.by q less).by here (Codes.Then (Code.Loop n e step body) Codes.End) (only_inside here (Code.Loop n e step body) i')))
                  (stmts_both p (sooner p (omega (arith, less, fewer)) s) here step first) (stmts_both p (sooner p (omega (arith, less, fewer)) s) here body second))
                  (leaves_both p)).by p (le_refl p) l k k' h);
            })
        stmt_both r s here (Code.Block cs) i' = block_both here (stmts_both r s here cs (record { each = i'.each }))
        stmt_both r s here (Code.Return n e) i' = let w = i'.each n (eq-eqb n n refl) in tick_both r here n w _ _ (λ q less. returns_both q low low' here (in_here here n) w e)
        stmt_both r s here (Code.Jump n way) i' = tick_both r here n (i'.each n (eq-eqb n n refl)) _ _ (λ q less. record { by = λ p fewer l k k' h. h.by p (le_refl p) (flow_of way) l })

        stmts_both : (r : ℕ) → Sooner r → (here : Here) (cs : Codes) → Inside here cs → AreBoth r (stmts big low here cs) (stmts small low' here cs)
        stmts_both r s here Codes.End i' = leaves_both r
        stmts_both r s here (Codes.Then code cs) i' = record {
          by = λ q fewer l k k' h. (stmt_both r s here code (first_inside here code cs i')).by q fewer l _ _ (on_ends_both (both_fewer q fewer (stmts_both r s here cs (rest_inside here code cs i'))) h);
        }

    -- with more fuel than ticks
    means_both : (n r : ℕ) → r < n → AreLater r (means big n) (means small n)
    unfolding means
    means_both zero r less = absurd (omega (arith, less))
    means_both (suc n) r less = record {
      by = λ here cs i. record {
        by = (stmts_both (means big n) (means small n) r (record { by = λ q fewer. means_both n q (omega (arith, fewer, less)) }) here cs i).by;
      };
    }

    -- a function of both sides that is started
    pub started_strict : (n r f depth : ℕ) → r < n → (body : Body) → part f ≡ Some body → (args : List Wire) (K : Knowledge) → K.uses ≡ uses → FairTo 256 program small top K [] (started small n f args depth Tree.Idle)
        → Strict Opens program big r K [] (started big n f args depth Tree.Idle)
    unfolding started
    started_strict n r f depth less body is' args K same fair =
        let start : Here = record { func = f; depth = depth; slots = []; result = Void } in
        let inner : Here = record { func = f; depth = suc depth; slots = body.slots; result = body.result } in
        let both : T r (goes_to big (means big n) start (in_here start 0) f args (Some body) (λ v. Tree.Done v Tree.Idle)) (goes_to small (means small n) start (in_here start 0) f args (Some body) (λ v. Tree.Done v Tree.Idle)) =
        enters_both (means big n) (means small n) r (means_both n r less) start inner body (inside f body is') is' args {k = λ v. Tree.Done v Tree.Idle} {k' = λ v. Tree.Done v Tree.Idle} (record { by = λ q fewer v. record { by = λ K' live same' fair'. tt } }) in
        subst (λ (o : Option Body). Strict Opens program big r K [] (goes_to big (means big n) start (in_here start 0) f args o (λ v. Tree.Done v Tree.Idle))) (sym (inside f body is'))
        (both.by K [] same (subst (λ (o : Option Body). FairTo 256 program small top K [] (goes_to small (means small n) start (in_here start 0) f args o (λ v. Tree.Done v Tree.Idle))) is' fair))
