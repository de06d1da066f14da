-- The trees of code name what their side has.
use Rattle.std.proofs.lemmas.Bool.{or_left, or_right}
use Rattle.std.proofs.Common.{◌≡◌, ◌<◌, ◌||◌, inl, inr, eq-eqb, ltb-true, refl, ℤ, ℕ, zero, suc, ◌≤◌, Bool, true, false, not, List, [], ◌∷◌, ◌++◌, ◌==◌, nat_lt, slice_get, slice_set, Option, Some, None, Result, Ok, Err, arith}
use Rattle.mdr_core.specs.declared.kind.Kind.{Kind}
use Rattle.mdr_core.specs.declared.place.At.{At}
use Rattle.mdr_core.specs.declared.stop.StopKind.{StopKind}
use Rattle.mdr_core.specs.declared.stop.StopKind.TheVariants as stop
use Rattle.mdr_core.specs.declared.types.Ty.TheVariants.{Void}
use Rattle.mdr_core.specs.Code.{Term, Lvalue, Called, CallOf, Goal, Code, Codes}
use Rattle.mdr_core.specs.Conversions.{converted}
use Rattle.mdr_core.specs.Layout.{chosen, zero_value}
use Rattle.mdr_core.specs.Operators.{operated, negated, flipped}
use Rattle.mdr_core.specs.Services.{Service, Deliver, service_numbered}
use Rattle.mdr_core.specs.Typing.{Slot}
use Rattle.mdr_meaning.specs.declared.shape.Shape64.{Shape64}
use Rattle.mdr_meaning.specs.declared.wire.Wire.{Wire}
use Rattle.mdr_meaning.specs.declared.wire.Wire.TheVariants as wire
use Rattle.mdr_meaning.specs.Asking.{serves, serves_by}
use Rattle.mdr_meaning.specs.Bodies.{means, started}
use Rattle.mdr_meaning.specs.Calls.{put, stores, received, keep, function_of, enters, goes_to, deep, direct, through, call_by}
use Rattle.mdr_meaning.specs.Expressions.{given, gives, loads, place, read, slot_of, value, values}
use Rattle.mdr_meaning.specs.Fair.{IsPlace, is_code_stop, stands, stands_in}
use Rattle.mdr_meaning.specs.Placed.{Placed, TreesArePlaced}
use Rattle.mdr_meaning.specs.Lives.{after_deaths, births, births_by, closes, deaths, deaths_by, ends, fills, in_block, object_params, param_shapes, returned, shape_of, with_object}
use Rattle.mdr_meaning.specs.Named.{named_type}
use Rattle.mdr_meaning.specs.Numbers.{Numbered}
use Rattle.mdr_meaning.specs.Pointers.{cast, difference, global, member, moved, related, steps}
use Rattle.mdr_meaning.specs.Sides.{Body, Side, Here, Locals, Flow, Ends, Breaks, Continues, Returns, Next, Go, Means, flow_of, framed, in_here}
use Rattle.mdr_meaning.specs.Statements.{around, characters, declared, declared_by, leaves, on_ends, returns, stmt, stmts, texts, turn}
use Rattle.mdr_meaning.specs.Tree.{Tree}
use Rattle.mdr_meaning.specs.Values.{at_kind, first_of, integer, is_true, operand, rest_of, right_operand, truth, wire_of}
use Rattle.mdr_core.specs.declared.types.Ty.{Ty, out-Ty}
use Rattle.mdr_core.specs.declared.types.Ty.TheOpen.{Ty-F}
use Rattle.mdr_core.specs.declared.undefined.Undefined.{Undefined}
use Rattle.mdr_core.specs.declared.undefined.Undefined.TheVariants as undefined
use Rattle.mdr_core.specs.declared.program.Program.{Program}
use Rattle.mdr_core.specs.declared.program.Field.{Field}
use Rattle.mdr_core.specs.declared.code.RelOp.{RelOp}
use Rattle.mdr_core.specs.declared.code.RelOp.TheVariants.{Eq, Ne, Lt, Le, Gt, Ge}
use Rattle.mdr_core.specs.Layout.{fields_of}
use Rattle.mdr_meaning.specs.declared.wire.WireView.{WireView}
use Rattle.mdr_meaning.specs.Pointers.{become_by, field_by, field_in, is_one_array, ordered, struct_numbered}
use Rattle.mdr_meaning.specs.Values.{checked, stop_of}

-- a result goes on, or is a stop that code comes to
abbrev Goes : {A : Type 0} → Result A StopKind → Type 0
Goes (Ok x) = Unit {0}
Goes (Err kind) = is_code_stop kind ≡ true

undefined_goes : (why : Undefined) → is_code_stop (stop_of why) ≡ true
undefined_goes undefined.Overflow = refl
undefined_goes undefined.DivZero = refl
undefined_goes undefined.Shift = refl

kind_goes : (k : Kind) (r : Result ℤ Undefined) → Goes (at_kind k r)
kind_goes k (Ok n) = tt
kind_goes k (Err why) = undefined_goes why

checked_goes : {A : Type 0} (b : Bool) (kind : StopKind) (x : A) → is_code_stop kind ≡ true → Goes (checked b kind x)
checked_goes true kind x h = tt
checked_goes false kind x h = h

ordered_goes : (p : Program) (op : RelOp) (x y : Wire) → Goes (ordered p op x y)
ordered_goes p op (wire.Int k a) (wire.Int l b) = tt
ordered_goes p op (wire.Ptr v) (wire.Ptr w) = checked_goes (v.serial == w.serial) stop.Compare _ refl
ordered_goes p op x y = refl

related_goes : (p : Program) (op : RelOp) (x y : Wire) → Goes (related p op x y)
related_goes p Eq x y = tt
related_goes p Ne x y = tt
related_goes p Lt x y = ordered_goes p Lt x y
related_goes p Le x y = ordered_goes p Le x y
related_goes p Gt x y = ordered_goes p Gt x y
related_goes p Ge x y = ordered_goes p Ge x y

difference_goes : (x y : Wire) → Goes (difference x y)
difference_goes (wire.Ptr v) (wire.Ptr w) = checked_goes (is_one_array v w) stop.Compare _ refl
difference_goes x y = refl

cast_goes : (known : Numbered) (t : Ty) (v : Wire) → Goes (cast known t v)
cast_goes known t (wire.Ptr v) = checked_goes (v.ty == known.number t) stop.BadCast _ refl
cast_goes known t v = tt

moved_goes : (v : Wire) (n : ℤ) → Goes (moved v n)
moved_goes (wire.Ptr v) n = checked_goes _ stop.Bounds _ refl
moved_goes wire.Dead n = refl
moved_goes v n = refl

field_by_goes : (known : Numbered) (v : WireView) (s f : ℕ) (x : Option Field) → Goes (field_by known v s f x)
field_by_goes known v s f None = refl
field_by_goes known v s f (Some x) = checked_goes _ stop.Bounds _ refl

field_goes : (known : Numbered) (v : WireView) (s : Option ℕ) (f : ℕ) → Goes (field_in known v s f)
field_goes known v None f = refl
field_goes known v (Some s) f = field_by_goes known v s f (slice_get (fields_of known.program.structs s) f)

picked_goes : {A : Type 0} (b : Bool) (r s : Result A StopKind) → Goes r → Goes s → Goes (chosen b r s)
picked_goes true r s h k = h
picked_goes false r s h k = k

member_goes : (known : Numbered) (v : Wire) (f : ℕ) → Goes (member known v f)
member_goes known (wire.Ptr v) f = picked_goes (nat_lt v.index v.count) (field_in known v (struct_numbered known.program v.ty) f) (Err stop.Bounds) (field_goes known v (struct_numbered known.program v.ty) f) refl
member_goes known wire.Dead f = refl
member_goes known v f = refl

become_goes : (known : Numbered) (l : Ty-F Ty) (v : Wire) → Goes (become_by known l v)
become_goes known (Ty-F.Int k) (wire.Int l n) = tt
become_goes known (Ty-F.Ptr t) v = cast_goes known t v
become_goes known l v = tt

received_goes : (known : Numbered) (t : Option Ty) (v : Wire) → Goes (received known t v)
received_goes known t wire.NoValue = refl
received_goes known None v = tt
received_goes known (Some t) v = become_goes known (out-Ty t) v

function_goes : (v : Wire) → Goes (function_of v)
function_goes (wire.Fn f) = tt
function_goes v = refl

own : (n : ℕ) → (n == n) ≡ true
own n = eq-eqb n n refl

-- the statement's own number, before those of its parts
pub own_first : (n : ℕ) (b : Bool) → (n == n || b) ≡ true
own_first n b = or_left (n == n) b (own n)

module _ (side : Side) where
  -- ---- evaluations, at a place of the side

  record Keeps (A : Type 0) (f : (A → Tree) → Tree) : Type 0 where
    by : (k : A → Tree) → ((x : A) → Placed side (k x)) → Placed side (f k)

  module _ (at : At) (here : IsPlace side at) where
    keeps_given : (A : Type 0) (x : Result A StopKind) → Goes x → Keeps A (given at x)
    keeps_given A (Ok x) g = record { by = λ k h. h x }
    keeps_given A (Err kind) g = record { by = λ k h. (here, g) }

    keeps_gives : (v : Wire) → Keeps Wire (gives v)
    keeps_gives v = record { by = λ k h. h v }

    keeps_read : (v : Wire) → Keeps Wire (read at v)
    keeps_read (wire.Ptr v) = record { by = λ k h. (here, h) }
    keeps_read wire.Dead = record { by = λ k h. (here, h) }
    keeps_read (wire.Int kind n) = keeps_gives (wire.Int kind n)
    keeps_read wire.Null = keeps_gives wire.Null
    keeps_read (wire.Fn f) = keeps_gives (wire.Fn f)
    keeps_read (wire.Lock s) = keeps_gives (wire.Lock s)
    keeps_read wire.NoValue = keeps_gives wire.NoValue

    keeps_pick : (b : Bool) (f g : (Wire → Tree) → Tree) → Keeps Wire f → Keeps Wire g → Keeps Wire (chosen b f g)
    keeps_pick true f g a b = a
    keeps_pick false f g a b = b

    keeps_then : (A B : Type 0) (f : (A → Tree) → Tree) (g : A → (B → Tree) → Tree) → Keeps A f → ((x : A) → Keeps B (g x)) → Keeps B (λ k. f (λ x. g x k))
    keeps_then A B f g a b = record { by = λ k h. a.by (λ x. g x k) (λ x. (b x).by k h) }

    keeps_made : (f : (Wire → Tree) → Tree) (g : Wire → Wire) → Keeps Wire f → Keeps Wire (λ k. f (λ x. k (g x)))
    keeps_made f g a = record { by = λ k h. a.by (λ x. k (g x)) (λ x. h (g x)) }

    keeps_tested : (f : (Wire → Tree) → Tree) (g : Wire → Result Wire StopKind) → ((x : Wire) → Goes (g x)) → Keeps Wire f → Keeps Wire (λ k. f (λ x. given at (g x) k))
    keeps_tested f g t a = keeps_then Wire Wire f (λ x. given at (g x)) a (λ x. keeps_given Wire (g x) (t x))

    keeps_found : (found : (Wire → Tree) → Tree) → Keeps Wire found → Keeps Wire (λ k. found (λ p. Tree.Load at p k))
    keeps_found found a = keeps_then Wire Wire found (Tree.Load at) a (λ p. record { by = λ k h. (here, h) })

    keeps_loads : (s : List Wire) (p : Lvalue) (found : (Wire → Tree) → Tree) → Keeps Wire found → Keeps Wire (loads at s p found)
    keeps_loads s (Lvalue.Slot i) found a = keeps_read (slot_of s i)
    keeps_loads s (Lvalue.Object i) found a = keeps_found found a
    keeps_loads s (Lvalue.Global g) found a = keeps_found found a
    keeps_loads s (Lvalue.Deref e) found a = keeps_found found a
    keeps_loads s (Lvalue.Member p f) found a = keeps_found found a
    keeps_loads s (Lvalue.Index p e) found a = keeps_found found a

    module _ (known : Numbered) where
      mutual
        keeps_value : (s : List Wire) (e : Term) → Keeps Wire (value known at s e)
        keeps_value s (Term.Lit v) = keeps_gives (wire_of v)
        keeps_value s (Term.Load p) = keeps_loads s p (place known at s p) (keeps_place s p)
        keeps_value s (Term.Addr p) = keeps_place s p
        keeps_value s (Term.Decay p) = keeps_place s p
        keeps_value s (Term.Neg kind e) = keeps_tested (value known at s e) (λ x. at_kind kind (negated kind (operand kind x))) (λ x. kind_goes kind (negated kind (operand kind x))) (keeps_value s e)
        keeps_value s (Term.Flip kind e) = keeps_made (value known at s e) (λ x. wire.Int kind (flipped kind (operand kind x))) (keeps_value s e)
        keeps_value s (Term.Not e) = keeps_made (value known at s e) (λ x. truth (not (is_true x))) (keeps_value s e)
        keeps_value s (Term.Bin op kind a b) =
            keeps_then Wire Wire (value known at s a) (λ x k. value known at s b (λ y. given at (at_kind kind (operated op kind (operand kind x) (right_operand op kind (integer y)))) k)) (keeps_value s a)
            (λ x. keeps_tested (value known at s b) (λ y. at_kind kind (operated op kind (operand kind x) (right_operand op kind (integer y)))) (λ y. kind_goes kind (operated op kind (operand kind x) (right_operand op kind (integer y)))) (keeps_value s b))
        keeps_value s (Term.Rel op a b) =
            keeps_then Wire Wire (value known at s a) (λ x k. value known at s b (λ y. given at (related known.program op x y) k)) (keeps_value s a)
            (λ x. keeps_tested (value known at s b) (λ y. related known.program op x y) (λ y. related_goes known.program op x y) (keeps_value s b))
        keeps_value s (Term.And a b) =
            keeps_then Wire Wire (value known at s a) (λ x k. chosen (is_true x) (value known at s b) (gives (truth false)) (λ y. k (truth (is_true y)))) (keeps_value s a)
            (λ x. keeps_made (chosen (is_true x) (value known at s b) (gives (truth false))) (λ y. truth (is_true y))
            (keeps_pick (is_true x) (value known at s b) (gives (truth false)) (keeps_value s b) (keeps_gives (truth false))))
        keeps_value s (Term.Or a b) =
            keeps_then Wire Wire (value known at s a) (λ x k. chosen (is_true x) (gives (truth true)) (value known at s b) (λ y. k (truth (is_true y)))) (keeps_value s a)
            (λ x. keeps_made (chosen (is_true x) (gives (truth true)) (value known at s b)) (λ y. truth (is_true y))
            (keeps_pick (is_true x) (gives (truth true)) (value known at s b) (keeps_gives (truth true)) (keeps_value s b)))
        keeps_value s (Term.Conv kind e) = keeps_made (value known at s e) (λ x. wire.Int kind (converted kind (integer x))) (keeps_value s e)
        keeps_value s (Term.ToVoid e) = keeps_value s e
        keeps_value s (Term.FromVoid ty e) = keeps_tested (value known at s e) (cast known ty) (cast_goes known ty) (keeps_value s e)
        keeps_value s (Term.Move back p i) =
            keeps_then Wire Wire (value known at s p) (λ x k. value known at s i (λ n. given at (moved x (steps back (integer n))) k)) (keeps_value s p)
            (λ x. keeps_tested (value known at s i) (λ n. moved x (steps back (integer n))) (λ n. moved_goes x (steps back (integer n))) (keeps_value s i))
        keeps_value s (Term.Diff p q) =
            keeps_then Wire Wire (value known at s p) (λ x k. value known at s q (λ y. given at (difference x y) k)) (keeps_value s p)
            (λ x. keeps_tested (value known at s q) (difference x) (difference_goes x) (keeps_value s q))

        keeps_place : (s : List Wire) (p : Lvalue) → Keeps Wire (place known at s p)
        keeps_place s (Lvalue.Slot i) = keeps_gives wire.Null
        keeps_place s (Lvalue.Object i) = keeps_gives (slot_of s i)
        keeps_place s (Lvalue.Global g) = keeps_gives (global known g)
        keeps_place s (Lvalue.Deref e) = keeps_value s e
        keeps_place s (Lvalue.Member p f) = keeps_tested (place known at s p) (λ a. member known a f) (λ a. member_goes known a f) (keeps_place s p)
        keeps_place s (Lvalue.Index p e) =
            keeps_then Wire Wire (place known at s p) (λ a k. value known at s e (λ n. given at (moved a (integer n)) k)) (keeps_place s p)
            (λ a. keeps_tested (value known at s e) (λ n. moved a (integer n)) (λ n. moved_goes a (integer n)) (keeps_value s e))

      keeps_values : (s : List Wire) (es : List Term) → Keeps (List Wire) (values known at s es)
      keeps_values s [] = record { by = λ k h. h [] }
      keeps_values s (e ∷ es) =
          keeps_then Wire (List Wire) (value known at s e) (λ v k. values known at s es (λ vs. k (v ∷ vs))) (keeps_value s e)
          (λ v. record { by = λ k h. (keeps_values s es).by (λ vs. k (v ∷ vs)) (λ vs. h (v ∷ vs)) })

      keeps_serves : (n : ℕ) (form : CallOf) (vs : List Wire) (s : Option Service) → Keeps Wire (serves_by known n at form vs s)
      keeps_serves n form vs (Some Deliver) = record { by = λ k h. (here, λ bs. (here, λ rs. h (first_of rs))) }
      keeps_serves n form vs s = record { by = λ k h. (here, λ rs. h (first_of rs)) }

    stored_placed : (found : (Wire → Tree) → Tree) (v : Wire) (t : Tree) → Keeps Wire found → Placed side t → Placed side (found (λ p. Tree.Store at p v t))
    stored_placed found v t a h = a.by (λ p. Tree.Store at p v t) (λ p. (here, h))

    stores_placed : (p : Lvalue) (found : (Wire → Tree) → Tree) (v : Wire) (l : Locals) (go : Locals → Tree) → Keeps Wire found → ((l : Locals) → Placed side (go l)) → Placed side (stores at p found v l go)
    stores_placed (Lvalue.Slot i) found v l go a h = h (record { slots = slice_set l.slots i v; born = l.born })
    stores_placed (Lvalue.Object i) found v l go a h = stored_placed found v (go l) a (h l)
    stores_placed (Lvalue.Global g) found v l go a h = stored_placed found v (go l) a (h l)
    stores_placed (Lvalue.Deref e) found v l go a h = stored_placed found v (go l) a (h l)
    stores_placed (Lvalue.Member p f) found v l go a h = stored_placed found v (go l) a (h l)
    stores_placed (Lvalue.Index p e) found v l go a h = stored_placed found v (go l) a (h l)

    texts_placed : (kind : Kind) (p : Wire) (i : ℕ) (bs : List ℕ) (t : Tree) → Placed side t → Placed side (texts at kind p i bs t)
    texts_placed kind p i [] t h = h
    texts_placed kind p i (b ∷ bs) t h = (here, texts_placed kind p (suc i) bs t h)

    fills_placed : (is : List ℕ) (ps : List Wire) (l : Locals) (go : Locals → Tree) → ((l : Locals) → Placed side (go l)) → Placed side (fills at is ps l go)
    fills_placed [] ps l go h = h l
    fills_placed (i ∷ is) [] l go h = h l
    fills_placed (i ∷ is) (p ∷ ps) l go h = (here, fills_placed is ps (with_object i p l) go h)

  -- ---- what comes next

  record NextPlaced (k : Next) : Type 0 where
    by : (flow : Flow) (l : Locals) → Placed side (k flow l)

  record GoPlaced (go : Go) : Type 0 where
    by : (l : Locals) (k : Next) → NextPlaced k → Placed side (go l k)

  pick_placed : (b : Bool) {f g : Go} → GoPlaced f → GoPlaced g → GoPlaced (chosen b f g)
  pick_placed true a b = a
  pick_placed false a b = b

  leaves_placed : GoPlaced leaves
  leaves_placed = record { by = λ l k h. h.by Ends l }

  on_ends_placed : {go : Go} {k : Next} → GoPlaced go → NextPlaced k → NextPlaced (on_ends go k)
  on_ends_placed {go = go} {k = k} a h = record { by = by } where
    by : (flow : Flow) (l : Locals) → Placed side (on_ends go k flow l)
    by Ends l = a.by l k h
    by Breaks l = h.by Breaks l
    by Continues l = h.by Continues l
    by (Returns v) l = h.by (Returns v) l

  around_placed : {again step : Go} {k : Next} → GoPlaced again → GoPlaced step → NextPlaced k → NextPlaced (around again step k)
  around_placed {again = again} {step = step} {k = k} a b h = record { by = by } where
    by : (flow : Flow) (l : Locals) → Placed side (around again step k flow l)
    by Ends l = b.by l (on_ends again k) (on_ends_placed a h)
    by Breaks l = h.by Ends l
    by Continues l = b.by l (on_ends again k) (on_ends_placed a h)
    by (Returns v) l = h.by (Returns v) l

  -- ---- in a function of the side

  pub record IsHere (here : Here) : Type 0 where
    pub whole : IsPlace side (in_here here 0)
    pub some : 1 ≤ here.depth
    pub limited : here.depth ≤ 256

  pub record Inside (here : Here) (cs : Codes) : Type 0 where
    pub each : (n : ℕ) → stands n cs ≡ true → IsPlace side (in_here here n)

  pub record InsideCode (here : Here) (c : Code) : Type 0 where
    pub each : (n : ℕ) → stands_in n c ≡ true → IsPlace side (in_here here n)

  pub first_inside : (here : Here) (c : Code) (cs : Codes) → Inside here (Codes.Then c cs) → InsideCode here c
  first_inside here c cs h = record { each = λ n e. h.each n (or_left (stands_in n c) (stands n cs) e) }

  pub rest_inside : (here : Here) (c : Code) (cs : Codes) → Inside here (Codes.Then c cs) → Inside here cs
  rest_inside here c cs h = record { each = λ n e. h.each n (or_right (stands_in n c) (stands n cs) e) }

  or_none : (b : Bool) → (b || false) ≡ true → b ≡ true
  or_none true h = refl
  or_none false h = h

  pub only_inside : (here : Here) (c : Code) → InsideCode here c → Inside here (Codes.Then c Codes.End)
  only_inside here c h = record { each = λ n e. h.each n (or_none (stands_in n c) e) }

  births_placed : (here : Here) → IsPlace side (in_here here 0) → (shapes : List Shape64) (k : List Wire → Tree) → ((ps : List Wire) → Placed side (k ps)) → Placed side (births side here shapes k)
  births_placed here w [] k h = h []
  births_placed here w (s ∷ shapes) k h = by_side side.asks where
    by_side : (asks : Bool) → Placed side (births_by asks (in_here here 0) (s ∷ shapes) k)
    by_side true = (w, h)
    by_side false = (w, h)

  deaths_placed : (here : Here) → IsPlace side (in_here here 0) → (ps : List Wire) (t : Tree) → Placed side t → Placed side (deaths side here ps t)
  deaths_placed here w [] t h = h
  deaths_placed here w (p ∷ ps) t h = by_side side.asks where
    by_side : (asks : Bool) → Placed side (deaths_by asks (in_here here 0) (p ∷ ps) t)
    by_side true = (w, λ rs. h)
    by_side false = (w, h)

  ends_placed : {k : Next} (here : Here) → IsPlace side (in_here here 0) → (outer : List Wire) → NextPlaced k → NextPlaced (ends side here outer k)
  ends_placed {k = k} here w outer h = record { by = by } where
    dies : (flow : Flow) (l : Locals) → Placed side (deaths side here l.born (k flow (record { slots = l.slots; born = outer })))
    dies flow l = deaths_placed here w l.born _ (h.by flow (record { slots = l.slots; born = outer }))

    by : (flow : Flow) (l : Locals) → Placed side (ends side here outer k flow l)
    by Ends l = dies Ends l
    by Breaks l = dies Breaks l
    by Continues l = dies Continues l
    by (Returns v) l = h.by (Returns v) (record { slots = l.slots; born = outer ++ l.born })

  block_placed : {go : Go} (here : Here) → IsPlace side (in_here here 0) → GoPlaced go → GoPlaced (in_block side here go)
  block_placed here w a = record { by = λ l k h. a.by (record { slots = l.slots; born = [] }) (ends side here l.born k) (ends_placed here w l.born h) }

  module _ (low : Means) (later : (here : Here) → IsHere here → (cs : Codes) → Inside here cs → GoPlaced (low here cs)) (here : Here) (h : IsHere here) where
    turn_placed : {again step body : Go} → GoPlaced again → GoPlaced step → GoPlaced body → GoPlaced (turn side low here again step body)
    turn_placed a b e = record { by = λ l k n. (block_placed here h.whole e).by l _ (around_placed a b n) }

    enters_placed : (inner : Here) → IsHere inner → (body : Body) → Inside inner body.code → (vs : List Wire) (k : Wire → Tree) → ((v : Wire) → Placed side (k v)) → Placed side (enters side low here inner body vs k)
    enters_placed inner i body inside vs k n =
        births_placed inner i.whole (param_shapes side.known body.slots) _
        (λ ps. fills_placed (in_here inner 0) i.whole (object_params 0 body.slots) ps (record { slots = framed body.slots vs; born = [] }) (λ l. low inner body.code l (closes side inner k))
        (λ l. (later inner i body.code inside).by l (closes side inner k) (record { by = λ flow l'. deaths_placed inner i.whole l'.born (k (after_deaths l'.born (returned flow))) (n (after_deaths l'.born (returned flow))) })))

    goes_to_placed : (at : At) → IsPlace side at → (f : ℕ) (vs : List Wire) (body : Option Body) → side.own f ≡ body → here.depth < 256 → (k : Wire → Tree) → ((v : Wire) → Placed side (k v)) → Placed side (goes_to side low here at f vs body k)
    goes_to_placed at w f vs None own d k n = (w, own, h.some, omega (arith, d), n)
    goes_to_placed at w f vs (Some body) own d k n =
        let inner : Here = record { func = f; depth = suc here.depth; slots = body.slots; result = body.result } in
        enters_placed inner (record { whole = record { body = body; own = own; stmt = inl refl }; some = omega arith; limited = omega (arith, d) }) body
        (record { each = λ n e. record { body = body; own = own; stmt = inr e } }) vs k n

    direct_placed : (at : At) → IsPlace side at → (f : ℕ) (vs : List Wire) (k : Wire → Tree) → ((v : Wire) → Placed side (k v)) → Placed side (direct side low here at f vs k)
    direct_placed at w f vs k n = by_depth (nat_lt here.depth 256) refl where
      by_depth : (b : Bool) → nat_lt here.depth 256 ≡ b → Placed side (chosen b (goes_to side low here at f vs (side.own f)) (deep side low here at) k)
      by_depth true q = goes_to_placed at w f vs (side.own f) refl (ltb-true _ _ q) k n
      by_depth false q = (w, refl)

    through_placed : (at : At) → IsPlace side at → (v : Wire) (vs : List Wire) (k : Wire → Tree) → ((v : Wire) → Placed side (k v)) → Placed side (through side low here at v vs k)
    through_placed at w v vs k n = (keeps_given at w ℕ (function_of v) (function_goes v)).by _ (λ f. direct_placed at w f vs k n)

    service_placed : (at : At) → IsPlace side at → (m : ℕ) (form : CallOf) (vs : List Wire) (b : Bool) (k : Wire → Tree) → ((v : Wire) → Placed side (k v)) → Placed side (chosen b (through side low here at (first_of vs) (rest_of vs)) (serves side.known m at form vs) k)
    service_placed at w m form vs true k n = through_placed at w (first_of vs) (rest_of vs) k n
    service_placed at w m form vs false k n = (keeps_serves at w side.known m form vs (service_numbered m)).by k n

    call_placed : (at : At) → IsPlace side at → (s : List Wire) (form : CallOf) (callee : Called) (k : Wire → Tree) → ((v : Wire) → Placed side (k v)) → Placed side (call_by side low here at s form callee k)
    call_placed at w s form (Called.Direct f) k n = (keeps_values at w side.known s form.args).by _ (λ vs. direct_placed at w f vs k n)
    call_placed at w s form (Called.Through e) k n = (keeps_value at w side.known s e).by _ (λ v. (keeps_values at w side.known s form.args).by _ (λ vs. through_placed at w v vs k n))
    call_placed at w s form (Called.Service m) k n = (keeps_values at w side.known s form.args).by _ (λ vs. service_placed at w m form vs (m == 15) k n)

    put_placed : (at : At) → IsPlace side at → (p : Lvalue) (v : Wire) (l : Locals) (k : Next) → NextPlaced k → Placed side (put side.known at p v l (k Ends))
    put_placed at w p v l k n = stores_placed at w p (place side.known at l.slots p) v l (k Ends) (keeps_place at w side.known l.slots p) (λ l'. n.by Ends l')

    keep_placed : (at : At) → IsPlace side at → (goal : Goal) (v : Wire) (l : Locals) (k : Next) → NextPlaced k → Placed side (keep side.known here at goal v l k)
    keep_placed at w Goal.Nowhere v l k n = n.by Ends l
    keep_placed at w (Goal.Into p) v l k n =
        (keeps_given at w Wire (received side.known (named_type side.known.program here.slots p) v) (received_goes side.known (named_type side.known.program here.slots p) v)).by (λ x. put side.known at p x l (k Ends)) (λ x. put_placed at w p x l k n)
    keep_placed at w Goal.Back v l k n = (keeps_given at w Wire (received side.known (Some here.result) v) (received_goes side.known (Some here.result) v)).by (λ x. k (Returns x) l) (λ x. n.by (Returns x) l)

    declared_by_placed : (object : Bool) (i : ℕ) (s : Slot) (l : Locals) (k : Next) → NextPlaced k → Placed side (declared_by side low here object i s l k)
    declared_by_placed true i s l k n = births_placed here h.whole (shape_of side.known s ∷ []) _ (λ ps. n.by Ends (with_object i (first_of ps) l))
    declared_by_placed false i s l k n = n.by Ends (record { slots = slice_set l.slots i (wire_of (zero_value s.ty)); born = l.born })

    declared_placed : (i : ℕ) (s : Option Slot) (l : Locals) (k : Next) → NextPlaced k → Placed side (declared side low here i s l k)
    declared_placed i None l k n = n.by Ends l
    declared_placed i (Some s) l k n = declared_by_placed s.object i s l k n

    returns_placed : (at : At) → IsPlace side at → (e : Option Term) (l : Locals) (k : Next) → NextPlaced k → Placed side (returns side low here at e l k)
    returns_placed at w None l k n = n.by (Returns wire.NoValue) l
    returns_placed at w (Some e) l k n = (keeps_value at w side.known l.slots e).by _ (λ v. n.by (Returns v) l)

    mutual
      stmt_placed : (code : Code) → InsideCode here code → GoPlaced (stmt side low here code)
      stmt_placed (Code.Declare n i) p = let w = p.each n (own n) in record { by = λ l k q. (w, h.some, h.limited, declared_placed i (slice_get here.slots i) l k q) }
      stmt_placed (Code.Text n i bytes) p =
          let w = p.each n (own n) in
          record { by = λ l k q. (w, h.some, h.limited, texts_placed (in_here here n) w (characters (slice_get here.slots i)) (slot_of l.slots i) 0 bytes (k Ends l) (q.by Ends l)) }
      stmt_placed (Code.Assign n target e) p =
          let w = p.each n (own n) in
          record { by = λ l k q. (w, h.some, h.limited, (keeps_value (in_here here n) w side.known l.slots e).by _ (λ v. put_placed (in_here here n) w target v l k q)) }
      stmt_placed (Code.Call n goal form) p =
          let w = p.each n (own n) in
          record { by = λ l k q. (w, h.some, h.limited, call_placed (in_here here n) w l.slots form form.callee _ (λ v. keep_placed (in_here here n) w goal v l k q)) }
      stmt_placed (Code.If n e one other) p =
          let w = p.each n (own_first n (stands n one || stands n other)) in
          let first : Inside here one = record { each = λ m q. p.each m (or_right (m == n) _ (or_left (stands m one) (stands m other) q)) } in
          let second : Inside here other = record { each = λ m q. p.each m (or_right (m == n) _ (or_right (stands m one) (stands m other) q)) } in
          record { by = λ l k q. (w, h.some, h.limited, (keeps_value (in_here here n) w side.known l.slots e).by _ (λ v. (block_placed here h.whole (pick_placed (is_true v) (stmts_placed one first) (stmts_placed other second))).by l k q)) }
      stmt_placed (Code.Loop n e step body) p =
          let w = p.each n (own_first n (stands n step || stands n body)) in
          let first : Inside here step = record { each = λ m q. p.each m (or_right (m == n) _ (or_left (stands m step) (stands m body) q)) } in
          let second : Inside here body = record { each = λ m q. p.each m (or_right (m == n) _ (or_right (stands m step) (stands m body) q)) } in
          record {
            by = λ l k q. (
              w,
              h.some,
              h.limited,
              (keeps_value (in_here here n) w side.known l.slots e).by _ (λ v.
                  (pick_placed (is_true v)
                  (turn_placed (later here h (Codes.Then (Code.Loop n e step body) Codes.End) (only_inside here (Code.Loop n e step body) p)) (stmts_placed step first) (stmts_placed body second))
                  leaves_placed).by l k q),
            );
          }
      stmt_placed (Code.Block cs) p = block_placed here h.whole (stmts_placed cs (record { each = p.each }))
      stmt_placed (Code.Return n e) p = let w = p.each n (own n) in record { by = λ l k q. (w, h.some, h.limited, returns_placed (in_here here n) w e l k q) }
      stmt_placed (Code.Jump n way) p = let w = p.each n (own n) in record { by = λ l k q. (w, h.some, h.limited, q.by (flow_of way) l) }

      stmts_placed : (cs : Codes) → Inside here cs → GoPlaced (stmts side low here cs)
      stmts_placed Codes.End p = leaves_placed
      stmts_placed (Codes.Then code cs) p = record { by = λ l k q. (stmt_placed code (first_inside here code cs p)).by l _ (on_ends_placed (stmts_placed cs (rest_inside here code cs p)) q) }

  means_placed : (n : ℕ) (here : Here) → IsHere here → (cs : Codes) → Inside here cs → GoPlaced (means side n here cs)
  unfolding means
  means_placed zero here h cs p = record { by = λ l k q. (h.whole, h.some, h.limited, (h.whole, refl)) }
  means_placed (suc n) here h cs p = record { by = (stmts_placed (means side n) (means_placed n) here h cs p).by }

  -- the body of a function that is started
  body_placed : (n f : ℕ) (vs : List Wire) (depth : ℕ) → depth < 256 → (below : Tree) (o : Option Body) (body : Body) → side.own f ≡ o → o ≡ Some body
      → Placed side (goes_to side (means side n) (record { func = f; depth = depth; slots = []; result = Void }) (record { func = f; stmt = 0 }) f vs o (λ v. Tree.Done v below))
  body_placed n f vs depth d below None body own some = absurd cc
  body_placed n f vs depth d below (Some b) body own some =
      let inner : Here = record { func = f; depth = suc depth; slots = b.slots; result = b.result } in
      let i : IsHere inner = record { whole = record { body = b; own = own; stmt = inl refl }; some = omega arith; limited = omega (arith, d) } in
      enters_placed (means side n) (means_placed n) inner i inner i b (record { each = λ m e. record { body = b; own = own; stmt = inr e } }) vs (λ v. Tree.Done v below) (λ v. tt)

pub trees_are_placed : TreesArePlaced
unfolding started
trees_are_placed side n func body own args depth d below = body_placed side n func args depth d below (side.own func) body refl own
