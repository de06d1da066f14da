-- Every form: what is done before its last tick is what its lowered statements do, and what waits is what its residual gives.
use Rattle.std.proofs.Common.{◌≡◌, ℕ, ◌+◌, ◌<◌, ◌≤◌, ◌==◌, Bool, true, false, not, List, [], ◌∷◌, ◌++◌, length, map, pos, Result, Ok, Option, Some, slice_get, slice_set, refl, ap, sym, subst, ◌∙◌, append-nil, append_assoc, arith}
use mathlib.Core.Path.{fun_ext}
use Rattle.std.specs.Option.{option_map}
use Rattle.mdr_core.proofs.Coded.{addr_is, and_is, bin_is, call_is, conv_is, decay_is, deref_is, diff_is, flip_is, from_void_is, global_is, index_is, lit_is, load_is, member_is, move_is, neg_is, not_is, object_is, or_is, rel_is, slot_is, to_void_is}
use Rattle.mdr_core.specs.declared.code.BinOp.{BinOp}
use Rattle.mdr_core.specs.declared.code.CallForm.{CallForm}
use Rattle.mdr_core.specs.declared.code.Callee.{Callee}
use Rattle.mdr_core.specs.declared.code.Callee.TheVariants as callee
use Rattle.mdr_core.specs.declared.code.Expr.{Expr}
use Rattle.mdr_core.specs.declared.code.Expr.TheVariants as expr
use Rattle.mdr_core.specs.declared.code.Lval.{Lval}
use Rattle.mdr_core.specs.declared.code.Lval.TheVariants as lval
use Rattle.mdr_core.specs.declared.code.Step.TheVariants as step
use Rattle.mdr_core.specs.declared.kind.Kind.{Kind}
use Rattle.mdr_core.specs.declared.kind.Kind.TheVariants.{S32}
use Rattle.mdr_core.specs.declared.place.At.{At}
use Rattle.mdr_core.specs.declared.stop.StopKind.{StopKind}
use Rattle.mdr_core.specs.declared.types.Ty.{Ty, out-Ty}
use Rattle.mdr_core.specs.declared.types.Ty.TheOpen.{Ty-F}
use Rattle.mdr_core.specs.declared.types.Ty.TheVariants as type
use Rattle.mdr_core.specs.declared.value.Value.{Value}
use Rattle.mdr_core.specs.declared.value.Value.TheVariants as value_of
use Rattle.mdr_core.specs.Code.{Term as PlainTerm, Lvalue as PlainLvalue, Called as PlainCalled, CallOf as PlainCall, Goal, Code as PlainCode}
use Rattle.mdr_core.specs.Conversions.{converted, promoted}
use Rattle.mdr_core.specs.Folds.{call_of, called_of, lvalue_of, term_of}
use Rattle.mdr_core.specs.Kinds.{is_same_kind}
use Rattle.mdr_core.specs.Layout.{chosen}
use Rattle.mdr_core.specs.Operators.{flipped, negated as sign_changed}
use Rattle.mdr_core.specs.Services.{Service, Kzalloc, Kcalloc, Printk, Deliver, service_numbered}
use Rattle.mdr_core.specs.Typing.{Slot, slot_of_local}
use Rattle.mdr_meaning.specs.declared.wire.Wire.{Wire}
use Rattle.mdr_meaning.specs.declared.wire.Wire.TheVariants as wire
use Rattle.mdr_meaning.specs.Asking.{serves, serves_by}
use Rattle.mdr_meaning.specs.Calls.{call, call_by, direct, function_of, put as put_at, received, through}
use Rattle.mdr_meaning.specs.Expressions.{given, gives, read, slot_of}
use Rattle.mdr_meaning.specs.Named.{slot_type}
use Rattle.mdr_meaning.specs.Numbers.{Numbered}
use Rattle.mdr_meaning.specs.Pointers.{cast, difference, global, member, related}
use Rattle.mdr_meaning.specs.Sides.{Locals, Ends, Next, in_here}
use Rattle.mdr_meaning.specs.Statements.{on_ends}
use Rattle.mdr_meaning.specs.Tree.{Tree}
use Rattle.mdr_meaning.specs.Values.{at_kind, first_of, integer, is_true, operand, rest_of, truth as truth_of, wire_of}
use Rattle.mdr_lower.specs.Lowering.{arm, as_call, as_kind as as_kind_low, bumped as bumped_low, called as called_low, choice as choice_low, conjoined as conjoined_low, disjoined as disjoined_low, element, inside, keeps, kept as kept_low, low, low_args, low_callee, low_place, mapped, new_slot, part as part_low, put, slot_value, step_operator as operator_low, stepped as stepped_low, stepped_by as stepped_by_low, stmt, truth, two as two_low, with_slot}
use Rattle.mdr_lower.specs.declared.work.Work.{Work}
use Rattle.mdr_rich.specs.Activity.{are_active, is_active}
use Rattle.mdr_rich.specs.Carried.{type_at, type_of}
use Rattle.mdr_rich.specs.Code.{Term, Lvalue, Called, Terms}
use Rattle.mdr_rich_sources.specs.Expressions.{Arguments, RichSide, RichMeans, arguments, asked_by, called, calls, is_taken, prep, prep_args, prep_callee, prep_place, rich_direct, rich_through}
use Rattle.mdr_rich_sources.specs.Waiting.{Ready, Prep, as_kind, at_element, both, bumped, by_steps, calculated, choice, conjoined, disjoined, either, joined, kept, literal, loaded, made, more, negated, none, now, one, part, step_operator, stepped_by, stores, storing, taken, truly, two}
use Rattle.mdr_rich_sources.proofs.Bounds.{NamesIn, NamesPlace, NamesCalled, NamesAll}
use Rattle.mdr_rich_sources.proofs.Preparing.{Begins, Both, Goes, N, P, S, Ticks, V, Way, all_valued, assign_step, begins_armed, goes_armed, goes_as, goes_kept, goes_map, goes_now, goes_slot, goes_then, into_same, one_stmt, placed, ready_kept, rich_side, side, slot_valued, stmts_both, there, valued, way_now, way_taken}
use Rattle.mdr_rich_sources.proofs.Slots.{with, Fits, IsCounted, IsReady, Near, Sees, answered, near_fewer, near_new, near_refl, near_source, near_then, ready_later, sees_new, sees_source, slot_after, slot_back, slot_before, slot_counted, slot_less, slot_stands}

-- a direct call does the same on both sides
pub record CallsAlike (b : Both) : Type 0 where
  pub by : (at : At) (f : ℕ) (vs : List Wire) (k K : Wire → Tree) → ((v : Wire) → k v ≡ K v) → rich_direct (rich_side b) b.rich_low b.here at f vs k ≡ direct (side b) b.low (there b) at f vs K

-- ---- places that aren't slots

abbrev pub IsFound : Lvalue → Type 0
IsFound (Lvalue.Slot i t) = ⊥
IsFound p = Unit {0}

abbrev pub NoSlot : PlainLvalue → Type 0
NoSlot (PlainLvalue.Slot i) = ⊥
NoSlot p = Unit {0}

load_found : (known : Numbered) (q : PlainLvalue) → NoSlot q → (at : At) (s : List Wire) (k : Wire → Tree) → valued known (PlainTerm.Load q) at s k ≡ placed known q at s (λ a. Tree.Load at a k)
load_found known (PlainLvalue.Slot i) free at s k = absurd free
load_found known q free at s k = refl

pub put_found : (known : Numbered) (q : PlainLvalue) → NoSlot q → (at : At) (v : Wire) (l : Locals) (go : Locals → Tree) → put_at known at q v l go ≡ placed known q at l.slots (λ a. Tree.Store at a v (go l))
put_found known (PlainLvalue.Slot i) free at v l go = absurd free
put_found known q free at v l go = refl

loaded_found : (p : Lvalue) → IsFound p → (r : Ready Wire) (at : At) (s : List Wire) (k : Wire → Tree) → loaded p r at s k ≡ r at s (λ a. Tree.Load at a k)
loaded_found (Lvalue.Slot i t) found r at s k = absurd found
loaded_found p found r at s k = refl

pub stores_found : (p : Lvalue) → IsFound p → (r : Ready Wire) (at : At) (v : Wire) (s : List Wire) (go : List Wire → Tree) → stores p r at v s go ≡ r at s (λ a. Tree.Store at a v (go s))
stores_found (Lvalue.Slot i t) found r at v s go = absurd found
stores_found p found r at v s go = refl

of_two : (P : Lval → Type 0) (c : Bool) (x y : Work × Lval) → P x.1 → P y.1 → P (chosen c x y).1
of_two P true x y p q = p
of_two P false x y p q = q

pub low_found : (n : ℕ) (p : Lvalue) → IsFound p → (w : Work) → NoSlot (lvalue_of (low_place n p w).1)
low_found n (Lvalue.Slot i t) found w = absurd found
low_found n (Lvalue.Object i t) found w = subst NoSlot (sym (object_is i)) tt
low_found n (Lvalue.Global g t) found w = subst NoSlot (sym (global_is g)) tt
low_found n (Lvalue.Deref e) found w = subst NoSlot (sym (deref_is (low n e w).1)) tt
low_found n (Lvalue.Member p f t) found w = subst NoSlot (sym (member_is (low_place n p w).1 f)) tt
low_found n (Lvalue.Index p e) found w = of_two (λ l. NoSlot (lvalue_of l)) (is_active e) _ _ (subst NoSlot (sym (deref_is _)) tt) (subst NoSlot (sym (index_is _ _)) tt)

-- ---- what a service asks for is told by the type that is named and by the text

serves_same : (known : Numbered) (n : ℕ) (at : At) (f g : PlainCall) (vs : List Wire) → f.shape ≡ g.shape → f.format ≡ g.format → (o : Option Service) (k : Wire → Tree) → serves_by known n at f vs o k ≡ serves_by known n at g vs o k
serves_same known n at f g vs shapes texts (Some Kzalloc) k = ap (λ s. serves_by known n at (record { callee = f.callee; args = f.args; shape = s; format = f.format }) vs (Some Kzalloc) k) shapes
serves_same known n at f g vs shapes texts (Some Kcalloc) k = ap (λ s. serves_by known n at (record { callee = f.callee; args = f.args; shape = s; format = f.format }) vs (Some Kcalloc) k) shapes
serves_same known n at f g vs shapes texts (Some Printk) k = ap (λ s. serves_by known n at (record { callee = f.callee; args = f.args; shape = f.shape; format = s }) vs (Some Printk) k) texts
serves_same known n at f g vs shapes texts (Some Deliver) k = refl
serves_same known n at f g vs shapes texts o k = refl

module _ (b : Both) where
  abbrev R : {A : Type 0} → ℕ → List Wire → Ready A → Ready A → Type 0
  R {A} d u r e = IsReady (N b) b.all A d u r e

  abbrev pub G : Prep Wire → Work → Work × Expr → Type 0
  G p w x = Goes b Wire p w x.0 (V b x.1)

  abbrev pub GP : Prep Wire → Work → Work × Lval → Type 0
  GP p w x = Goes b Wire p w x.0 (P b x.1)

  -- ---- what waits

  pub ready_as : (d : ℕ) (u : List Wire) (r e f : Ready Wire) → e ≡ f → R d u r e → R d u r f
  ready_as d u r e f is h = subst (R d u r) is h

  pub ready_literal : (v : Wire) (d : ℕ) (u : List Wire) → R d u (literal v) (literal v)
  ready_literal v d u = record { by = λ at t u1 sees near k. refl }

  ready_one : (f : Wire → Result Wire StopKind) (e : Ready Wire) (d : ℕ) (u : List Wire) (r : Ready Wire) → R d u r e → R d u (one f r) (one f e)
  ready_one f e d u r ready = record { by = λ at t u1 sees near k. ready.by at t u1 sees near (λ x. given at (f x) k) }

  pub ready_two : (f : Wire → Wire → Result Wire StopKind) (ea eb : Ready Wire) (d : ℕ) (u : List Wire) (ra rb : Ready Wire) → R d u ra ea → R d u rb eb → R d u (two f ra rb) (two f ea eb)
  ready_two f ea eb d u ra rb x y = record {
    by = λ at t u1 sees near k. x.by at t u1 sees near _ ∙ ap (ea at u1) (fun_ext (λ v. y.by at t u1 sees near (λ w. given at (f v w) k)));
  }

  first_same : (f g : (Wire → Tree) → Tree) → ((k : Wire → Tree) → f k ≡ g k) → (c : Bool) (v : Wire) (k : Wire → Tree) → chosen c f (gives v) k ≡ chosen c g (gives v) k
  first_same f g h true v k = h k
  first_same f g h false v k = refl

  second_same : (f g : (Wire → Tree) → Tree) → ((k : Wire → Tree) → f k ≡ g k) → (c : Bool) (v : Wire) (k : Wire → Tree) → chosen c (gives v) f k ≡ chosen c (gives v) g k
  second_same f g h true v k = refl
  second_same f g h false v k = h k

  ready_both : (ea eb : Ready Wire) (d : ℕ) (u : List Wire) (ra rb : Ready Wire) → R d u ra ea → R d u rb eb → R d u (both ra rb) (both ea eb)
  ready_both ea eb d u ra rb x y = record {
    by = λ at t u1 sees near k.
        x.by at t u1 sees near _ ∙ ap (ea at u1) (fun_ext (λ v. first_same (rb at t) (eb at u1) (y.by at t u1 sees near) (is_true v) (truth_of false) (λ z. k (truth_of (is_true z)))));
  }

  pub ready_either : (ea eb : Ready Wire) (d : ℕ) (u : List Wire) (ra rb : Ready Wire) → R d u ra ea → R d u rb eb → R d u (either ra rb) (either ea eb)
  ready_either ea eb d u ra rb x y = record {
    by = λ at t u1 sees near k.
        x.by at t u1 sees near _ ∙ ap (ea at u1) (fun_ext (λ v. second_same (rb at t) (eb at u1) (y.by at t u1 sees near) (is_true v) (truth_of true) (λ z. k (truth_of (is_true z)))));
  }

  ready_more : (ea : Ready Wire) (eb : Ready (List Wire)) (d : ℕ) (u : List Wire) (ra : Ready Wire) (rb : Ready (List Wire)) → R d u ra ea → R d u rb eb → R d u (more ra rb) (more ea eb)
  ready_more ea eb d u ra rb x y = record { by = λ at t u1 sees near k. x.by at t u1 sees near _ ∙ ap (ea at u1) (fun_ext (λ v. y.by at t u1 sees near (λ vs. k (v ∷ vs)))) }

  ready_arguments : (ea : Ready Wire) (eb : Ready (List Wire)) (d : ℕ) (u : List Wire) (ra : Ready Wire) (rb : Ready (List Wire)) → R d u ra ea → R d u rb eb → R d u (arguments ra rb) (arguments ea eb)
  ready_arguments ea eb d u ra rb x y = record {
    by = λ at t u1 sees near k. x.by at t u1 sees near _ ∙ ap (ea at u1) (fun_ext (λ v. y.by at t u1 sees near (λ vs. k (record { callee = v; args = vs }))));
  }

  -- ---- forms of one part and of two

  pub valued_is : (e : Expr) (t : PlainTerm) → term_of e ≡ t → V b e ≡ valued b.known t
  valued_is e t is = ap (valued b.known) is

  pub ready_or : (x y : Expr) (d : ℕ) (u : List Wire) (rx ry : Ready Wire) → R d u rx (V b x) → R d u ry (V b y) → R d u (either rx ry) (V b (expr.Or x y))
  ready_or x y d u rx ry hx hy = ready_as d u (either rx ry) (either (V b x) (V b y)) (V b (expr.Or x y)) (sym (valued_is (expr.Or x y) (PlainTerm.Or (term_of x) (term_of y)) (or_is x y))) (ready_either (V b x) (V b y) d u rx ry hx hy)

  goes_one : (f : Wire → Result Wire StopKind) (g : Expr → Expr) → ((e : Expr) → V b (g e) ≡ one f (V b e)) → (p : Prep Wire) (w : Work) (x : Work × Expr) → G p w x → G (made (one f) p) w (mapped g x)
  goes_one f g is p w x h = goes_as b Wire (made (one f) p) w x.0 (one f (V b x.1)) (V b (g x.1)) (sym (is x.1)) (goes_map b Wire Wire p (one f) w x.0 (V b x.1) (ready_one f (V b x.1)) h)

  goes_two : (f : Ready Wire → Ready Wire → Ready Wire) (g : Expr → Expr → Expr) → ((a c : Expr) → V b (g a c) ≡ f (V b a) (V b c))
      → ((ea eb : Ready Wire) (d : ℕ) (u : List Wire) (ra rb : Ready Wire) → R d u ra ea → R d u rb eb → R d u (f ra rb) (f ea eb))
      → (p q : Prep Wire) (w : Work) (x : Work × Expr) (y : Work → Work × Expr) → G p w x → ((v : Work) → G q v (y v)) → G (joined f p q) w (two_low g x y)
  goes_two f g is respects p q w x y h k =
      goes_as b Wire (joined f p q) w (y x.0).0 (f (V b x.1) (V b (y x.0).1)) (V b (g x.1 (y x.0).1)) (sym (is x.1 (y x.0).1))
      (goes_then b Wire Wire Wire p q f w x.0 (y x.0).0 (V b x.1) (V b (y x.0).1) (respects (V b x.1) (V b (y x.0).1)) h (k x.0))

  pub goes_part : (c : Bool) (n : ℕ) (t : Ty) (p : Prep Wire) (w : Work) (x : Work × Expr) → G p w x → G (part b.here n c p) w (part_low c n t x)
  goes_part true n t p w x h = goes_kept b n t p w x h
  goes_part false n t p w x h = h

  goes_chosen : {A : Type 0} (E : A → Ready Wire) (c : Bool) (p q : Prep Wire) (w : Work) (x y : Work × A) → Goes b Wire p w x.0 (E x.1) → Goes b Wire q w y.0 (E y.1) → Goes b Wire (chosen c p q) w (chosen c x y).0 (E (chosen c x y).1)
  goes_chosen E true p q w x y h k = h
  goes_chosen E false p q w x y h k = k

  -- ---- `&&`, `||` and `?:`

  truth_valued : (e : Expr) → V b (truth e) ≡ truly (V b e)
  truth_valued e = valued_is (truth e) (PlainTerm.Not (PlainTerm.Not (term_of e))) (not_is (expr.Not e) ∙ ap PlainTerm.Not (not_is e))

  goes_truth : (p : Prep Wire) (w : Work) (x : Work × Expr) → G p w x → G (made truly p) w (mapped truth x)
  goes_truth p w x h = goes_as b Wire (made truly p) w x.0 (truly (V b x.1)) (V b (truth x.1)) (sym (truth_valued x.1))
      (goes_map b Wire Wire p truly w x.0 (V b x.1) (λ d u r ready. ready_one negated (one negated (V b x.1)) d u (one negated r) (ready_one negated (V b x.1) d u r ready)) h)

  module _ (n : ℕ) (pb : Prep Wire) (x : Work × Expr) (y : Work → Work × Expr) (k : (v : Work) → G pb v (y v)) where
    abbrev first : Work × Expr
    first = kept_low n (type.Int S32) (mapped truth x)

    abbrev second : Work × Expr
    second = mapped truth (y (inside first.0))

    abbrev last : Work
    last = arm n x.0.next second

    goes_second : G (made truly pb) (inside first.0) second
    goes_second = goes_truth pb (inside first.0) (y (inside first.0)) (k (inside first.0))

    way_second : (behind : Work) → (Fits (N b) b.all behind → Fits (N b) b.all second.0) → second.0.next ≤ behind.next → Way b x.0.next first.1 first.0 behind (λ r. taken b.here n (made truly pb)) last.code
    way_second behind back grows = way_taken b n x.0.next first.1 first.0 first.0 behind (made truly pb) second (λ c. c) back
        (λ c. slot_after (N b) b.all x.0 (slot_before (N b) b.all (type.Int S32) x.0 c))
        (λ c f. slot_less (N b) b.all (type.Int S32) x.0 (slot_before (N b) b.all (type.Int S32) x.0 c) (goes_second.back (back f))) (omega arith) (omega (arith, goes_second.grows, grows)) goes_second

    module _ (pa : Prep Wire) (w : Work) (h : G pa w x) where
      goes_first : G (taken b.here n (made truly pa)) w first
      goes_first = goes_kept b n (type.Int S32) (made truly pa) w (mapped truth x) (goes_truth pa w x h)

      goes_conjoined : G (conjoined b.here n pa pb) w (conjoined_low n x y)
      goes_conjoined = goes_armed b n x.0.next (taken b.here n (made truly pa)) w first (λ r. taken b.here n (made truly pb)) (λ r. now r) last (inside last) h.grows goes_first
          (λ f. goes_second.back f) (λ c. goes_second.counted c) goes_second.grows (way_second (inside last) (λ f. f) (omega arith)) (way_now b x.0.next first.0 (inside last) goes_second.grows)

      goes_disjoined : G (disjoined b.here n pa pb) w (disjoined_low n x y)
      goes_disjoined = goes_armed b n x.0.next (taken b.here n (made truly pa)) w first (λ r. now r) (λ r. taken b.here n (made truly pb)) (inside first.0) last h.grows goes_first
          (λ f. goes_second.back f) (λ c. goes_second.counted c) goes_second.grows (way_now b x.0.next first.0 last goes_second.grows) (way_second last (λ f. f) (omega arith))

    pub disjoined_back : Fits (N b) b.all (disjoined_low n x y).0 → Fits (N b) b.all x.0
    disjoined_back f = slot_back (N b) b.all (type.Int S32) x.0 (goes_second.back f)

    pub disjoined_counted : IsCounted (N b) b.all x.0 → IsCounted (N b) b.all (disjoined_low n x y).0
    disjoined_counted c = goes_second.counted (slot_counted (N b) b.all (type.Int S32) x.0 c)

    -- where the left operand stands ready at certain slots
    pub begins_disjoined : (r : Ready Wire) (t u born : List Wire) → IsCounted (N b) b.all x.0 → Fits (N b) b.all (disjoined_low n x y).0 → Sees (N b) b.all t u → R x.0.next u r (V b x.1)
        → Begins b Wire (disjoined b.here n (now r) pb) x.0 (disjoined_low n x y).0 (V b (disjoined_low n x y).1) (stmt n (step.Assign (lval.Slot x.0.next) (truth x.1)) ∷ stmt n (step.If first.1 [] last.code) ∷ []) t u born
    begins_disjoined r t u born c f sees ready =
        let i : ℕ = x.0.next in
        let new : N b ≤ i = slot_after (N b) b.all x.0 c in
        let less : i < length b.all = slot_less (N b) b.all (type.Int S32) x.0 c (goes_second.back f) in
        begins_armed b n i (taken b.here n (made truly (now r))) x.0 first (stmt n (step.Assign (lval.Slot i) (truth x.1)) ∷ []) (λ r1. now r1) (λ r1. taken b.here n (made truly pb)) (inside first.0) last t u born (omega arith) (slot_counted (N b) b.all (type.Int S32) x.0 c) f
        (λ j J h. into_same b n i i (truth x.1) (truly r) t u born j J
        (ready_as i u (truly r) (truly (V b x.1)) (V b (truth x.1)) (sym (truth_valued x.1)) (ready_one negated (one negated (V b x.1)) i u (one negated r) (ready_one negated (V b x.1) i u r ready))) sees
        (λ v. h (kept v) t (slice_set u i v) (sees_new (N b) b.all i v new sees) (near_new (N b) b.all i i u v (omega arith)) (ready_kept b (i + 1) i u v new (omega arith) (omega (arith, less, sees.rooms)))))
        (way_now b i first.0 last goes_second.grows) (way_second last (λ g. g) (omega arith))

  goes_choice : (n : ℕ) (t : Ty) (pc pa pb : Prep Wire) (w : Work) (x : Work × Expr) (y z : Work → Work × Expr) → G pc w x → ((v : Work) → G pa v (y v)) → ((v : Work) → G pb v (z v)) → G (choice b.here n pc pa pb) w (choice_low n t x y z)
  goes_choice n t pc pa pb w x y z h ky kz =
      let front : Work = with_slot t x.0 in
      let left : Work × Expr = y (inside front) in
      let one_way : Work = arm n x.0.next left in
      let right : Work × Expr = z (inside one_way) in
      let other_way : Work = arm n x.0.next right in
      let gl : G pa (inside front) left = ky (inside front) in
      let gr : G pb (inside one_way) right = kz (inside one_way) in
      let new : IsCounted (N b) b.all front → N b ≤ x.0.next = λ c. slot_after (N b) b.all x.0 (slot_before (N b) b.all t x.0 c) in
      let stands : IsCounted (N b) b.all front → Fits (N b) b.all other_way → x.0.next < length b.all = λ c f. slot_less (N b) b.all t x.0 (slot_before (N b) b.all t x.0 c) (gl.back (gr.back f)) in
      goes_armed b n x.0.next pc w (front, x.1) (λ r. taken b.here n pa) (λ r. taken b.here n pb) one_way other_way h.grows (goes_slot b Wire pc w x.0 (V b x.1) t h)
      (λ f. gl.back (gr.back f)) (λ c. gr.counted (gl.counted c)) (omega (arith, gl.grows, gr.grows))
      (way_taken b n x.0.next x.1 front front other_way pa left (λ c. c) (λ f. gr.back f) new stands (omega arith) (omega (arith, gl.grows, gr.grows)) gl)
      (way_taken b n x.0.next x.1 front one_way other_way pb right (λ c. gl.counted c) (λ f. f) new stands (omega (arith, gl.grows)) (omega (arith, gl.grows, gr.grows)) gr)

  -- ---- places

  place_is : (l : Lval) (p : PlainLvalue) → lvalue_of l ≡ p → P b l ≡ placed b.known p
  place_is l p is = ap (placed b.known) is

  address_valued : (l : Lval) → V b (expr.Addr l) ≡ P b l
  address_valued l = valued_is (expr.Addr l) (PlainTerm.Addr (lvalue_of l)) (addr_is l)

  array_valued : (l : Lval) → V b (expr.Decay l) ≡ P b l
  array_valued l = valued_is (expr.Decay l) (PlainTerm.Decay (lvalue_of l)) (decay_is l)

  -- what is found at a place is loaded
  ready_found : (p : Lvalue) → IsFound p → (q : Lval) → NoSlot (lvalue_of q) → (d : ℕ) (u : List Wire) (r : Ready Wire) → R d u r (P b q) → R d u (loaded p r) (V b (expr.Load q))
  ready_found p found q free d u r ready = record {
    by = λ at t u1 sees near k.
        loaded_found p found r at t k
        ∙ ready.by at t u1 sees near (λ a. Tree.Load at a k)
        ∙ sym (ap (λ (f : Ready Wire). f at u1 k) (valued_is (expr.Load q) (PlainTerm.Load (lvalue_of q)) (load_is q)) ∙ load_found b.known (lvalue_of q) free at u1 k);
  }

  ready_loaded : (n : ℕ) (p : Lvalue) → NamesPlace (N b) p → (w : Work) (d : ℕ) (u : List Wire) (r : Ready Wire) → R d u r (P b (low_place n p w).1) → R d u (loaded p r) (V b (expr.Load (low_place n p w).1))
  ready_loaded n (Lvalue.Slot i t) names w d u r ready = record { by = λ at t1 u1 sees near k. ap (λ v. read at v k) (sees.same i names) ∙ sym (ap (λ (f : Ready Wire). f at u1 k) (slot_valued b i)) }
  ready_loaded n (Lvalue.Object i t) names w d u r ready = ready_found (Lvalue.Object i t) tt (low_place n (Lvalue.Object i t) w).1 (low_found n (Lvalue.Object i t) tt w) d u r ready
  ready_loaded n (Lvalue.Global g t) names w d u r ready = ready_found (Lvalue.Global g t) tt (low_place n (Lvalue.Global g t) w).1 (low_found n (Lvalue.Global g t) tt w) d u r ready
  ready_loaded n (Lvalue.Deref e) names w d u r ready = ready_found (Lvalue.Deref e) tt (low_place n (Lvalue.Deref e) w).1 (low_found n (Lvalue.Deref e) tt w) d u r ready
  ready_loaded n (Lvalue.Member p f t) names w d u r ready = ready_found (Lvalue.Member p f t) tt (low_place n (Lvalue.Member p f t) w).1 (low_found n (Lvalue.Member p f t) tt w) d u r ready
  ready_loaded n (Lvalue.Index p e) names w d u r ready = ready_found (Lvalue.Index p e) tt (low_place n (Lvalue.Index p e) w).1 (low_found n (Lvalue.Index p e) tt w) d u r ready

  -- a value is stored at a place on both sides
  found_same : (p : Lvalue) → IsFound p → (q : Lval) → NoSlot (lvalue_of q) → (at : At) (v : Wire) (t u born : List Wire) (d : ℕ) (r : Ready Wire) → R d u r (P b q) → Sees (N b) b.all t u
      → (k : List Wire → Tree) (K : Locals → Tree) → k t ≡ K (with u born) → stores p r at v t k ≡ put_at b.known at (lvalue_of q) v (with u born) K
  found_same p found q free at v t u born d r ready sees k K h =
      stores_found p found r at v t k ∙ answered (N b) b.all ready at t sees _ _ (λ a. ap (Tree.Store at a v) h) ∙ sym (put_found b.known (lvalue_of q) free at v (with u born) K)

  pub stores_same : (n : ℕ) (p : Lvalue) → NamesPlace (N b) p → N b ≤ length b.all → (w : Work) (at : At) (v : Wire) (t u born : List Wire) (d : ℕ) (r : Ready Wire) → R d u r (P b (low_place n p w).1) → Sees (N b) b.all t u
      → (k : List Wire → Tree) (K : Locals → Tree) → ((t1 u1 : List Wire) → Sees (N b) b.all t1 u1 → Near (N b) b.all d u u1 → k t1 ≡ K (with u1 born))
      → stores p r at v t k ≡ put_at b.known at (lvalue_of (low_place n p w).1) v (with u born) K
  stores_same n (Lvalue.Slot i ty) names fits w at v t u born d r ready sees k K h =
      h (slice_set t i v) (slice_set u i v) (sees_source (N b) b.all i v fits names sees) (near_source (N b) b.all d i u v names) ∙ sym (ap (λ (q : PlainLvalue). put_at b.known at q v (with u born) K) (slot_is i))
  stores_same n (Lvalue.Object i ty) names fits w at v t u born d r ready sees k K h =
      found_same (Lvalue.Object i ty) tt (low_place n (Lvalue.Object i ty) w).1 (low_found n (Lvalue.Object i ty) tt w) at v t u born d r ready sees k K (h t u sees (near_refl (N b) b.all d u))
  stores_same n (Lvalue.Global g ty) names fits w at v t u born d r ready sees k K h =
      found_same (Lvalue.Global g ty) tt (low_place n (Lvalue.Global g ty) w).1 (low_found n (Lvalue.Global g ty) tt w) at v t u born d r ready sees k K (h t u sees (near_refl (N b) b.all d u))
  stores_same n (Lvalue.Deref e) names fits w at v t u born d r ready sees k K h =
      found_same (Lvalue.Deref e) tt (low_place n (Lvalue.Deref e) w).1 (low_found n (Lvalue.Deref e) tt w) at v t u born d r ready sees k K (h t u sees (near_refl (N b) b.all d u))
  stores_same n (Lvalue.Member p f ty) names fits w at v t u born d r ready sees k K h =
      found_same (Lvalue.Member p f ty) tt (low_place n (Lvalue.Member p f ty) w).1 (low_found n (Lvalue.Member p f ty) tt w) at v t u born d r ready sees k K (h t u sees (near_refl (N b) b.all d u))
  stores_same n (Lvalue.Index p e) names fits w at v t u born d r ready sees k K h =
      found_same (Lvalue.Index p e) tt (low_place n (Lvalue.Index p e) w).1 (low_found n (Lvalue.Index p e) tt w) at v t u born d r ready sees k K (h t u sees (near_refl (N b) b.all d u))

  -- ---- `++` and `--`

  ready_kind : (k l : Kind) (e : Expr) (d : ℕ) (u : List Wire) (r : Ready Wire) → R d u r (V b e) → R d u (as_kind k l r) (V b (as_kind_low k l e))
  ready_kind k l e d u r ready = by (is_same_kind k l) where
    by : (c : Bool) → R d u (chosen c r (one (λ x. Ok (wire.Int l (converted l (integer x)))) r)) (V b (chosen c e (expr.Conv l e)))
    by true = ready
    by false = ready_as d u (one (λ x. Ok (wire.Int l (converted l (integer x)))) r) (one (λ x. Ok (wire.Int l (converted l (integer x)))) (V b e)) (V b (expr.Conv l e)) (sym (valued_is (expr.Conv l e) (PlainTerm.Conv l (term_of e)) (conv_is l e)))
        (ready_one (λ x. Ok (wire.Int l (converted l (integer x)))) (V b e) d u r ready)

  pub literal_valued : (v : Value) → V b (expr.Lit v) ≡ literal (wire_of v)
  literal_valued v = valued_is (expr.Lit v) (PlainTerm.Lit v) (lit_is v)

  operator_same : (up : Bool) → step_operator up ≡ operator_low up
  operator_same true = refl
  operator_same false = refl

  ready_stepped_by : (up : Bool) (e : Expr) (l : Ty-F Ty) (d : ℕ) (u : List Wire) (r : Ready Wire) → R d u r (V b e) → R d u (stepped_by up r l) (V b (stepped_by_low up e l))
  ready_stepped_by up e (Ty-F.Int k) d u r ready =
      let wide : Kind = promoted k in
      let f : Expr = as_kind_low k wide e in
      let g : Expr = expr.Lit (value_of.Int wide (pos 1)) in
      let h : Wire → Wire → Result Wire StopKind = calculated (operator_low up) wide in
      ready_kind wide k (expr.Bin (operator_low up) wide f g) d u (two (calculated (step_operator up) wide) (as_kind k wide r) (literal (wire.Int wide (pos 1))))
      (ready_as d u (two (calculated (step_operator up) wide) (as_kind k wide r) (literal (wire.Int wide (pos 1)))) (two h (V b f) (V b g)) (V b (expr.Bin (operator_low up) wide f g))
      (sym (valued_is (expr.Bin (operator_low up) wide f g) (PlainTerm.Bin (operator_low up) wide (term_of f) (term_of g)) (bin_is (operator_low up) wide f g)))
      (subst (λ (o : BinOp). R d u (two (calculated o wide) (as_kind k wide r) (literal (wire.Int wide (pos 1)))) (two h (V b f) (V b g))) (sym (operator_same up))
      (ready_two h (V b f) (V b g) d u (as_kind k wide r) (literal (wire.Int wide (pos 1))) (ready_kind k wide e d u r ready)
      (ready_as d u (literal (wire.Int wide (pos 1))) (literal (wire.Int wide (pos 1))) (V b g) (sym (literal_valued (value_of.Int wide (pos 1)))) (ready_literal (wire.Int wide (pos 1)) d u)))))
  ready_stepped_by up e (Ty-F.Ptr t) d u r ready =
      let g : Expr = expr.Lit (value_of.Int S32 (pos 1)) in
      ready_as d u (two (by_steps (not up)) r (literal (wire.Int S32 (pos 1)))) (two (by_steps (not up)) (V b e) (V b g)) (V b (expr.Move (not up) e g))
      (sym (valued_is (expr.Move (not up) e g) (PlainTerm.Move (not up) (term_of e) (term_of g)) (move_is (not up) e g)))
      (ready_two (by_steps (not up)) (V b e) (V b g) d u r (literal (wire.Int S32 (pos 1))) ready
      (ready_as d u (literal (wire.Int S32 (pos 1))) (literal (wire.Int S32 (pos 1))) (V b g) (sym (literal_valued (value_of.Int S32 (pos 1)))) (ready_literal (wire.Int S32 (pos 1)) d u)))
  ready_stepped_by up e Ty-F.Lock d u r ready = ready
  ready_stepped_by up e (Ty-F.Struct s) d u r ready = ready
  ready_stepped_by up e Ty-F.VoidPtr d u r ready = ready
  ready_stepped_by up e (Ty-F.Fun ts) d u r ready = ready
  ready_stepped_by up e Ty-F.Void d u r ready = ready

  -- a stepped value is stored
  store_same : (n : ℕ) (p : Lvalue) → NamesPlace (N b) p → N b ≤ length b.all → (w : Work) (up : Bool) (ty : Ty) (a : Expr) (r rp : Ready Wire) (d : ℕ) (t u born : List Wire) (k : Ready Wire → List Wire → Tree) (K : Next)
      → R d u r (V b a) → R d u rp (P b (low_place n p w).1) → Sees (N b) b.all t u → ((t1 u1 : List Wire) → Sees (N b) b.all t1 u1 → Near (N b) b.all d u u1 → k r t1 ≡ K Ends (with u1 born))
      → storing b.here n up ty p rp r t k ≡ S b (stmt n (step.Assign (low_place n p w).1 (stepped_low up ty a)) ∷ []) (with u born) K
  store_same n p names fits w up ty a r rp d t u born k K ready found sees h =
      ap (Ticks b n) (answered (N b) b.all (ready_stepped_by up a (out-Ty ty) d u r ready) (in_here b.here n) t sees _ _
      (λ v. stores_same n p names fits w (in_here b.here n) v t u born d rp found sees (λ s1. k r s1) (K Ends) h))
      ∙ sym (assign_step b n (low_place n p w).1 (stepped_low up ty a) (with u born) K)

  abbrev stored : ℕ → Lval → Expr → Work → Work
  stored n q a w = put n (step.Assign q a) w

  goes_stored : (n : ℕ) (p : Lvalue) → NamesPlace (N b) p → N b ≤ length b.all → (w : Work) (up : Bool) (ty : Ty) (place_of : Prep Wire) → GP place_of w (low_place n p w)
      → Goes b Wire (λ s k. place_of s (λ rp s1. storing b.here n up ty p rp (loaded p rp) s1 k)) w (stored n (low_place n p w).1 (stepped_low up ty (expr.Load (low_place n p w).1)) (low_place n p w).0) (V b (expr.Load (low_place n p w).1))
  goes_stored n p names fits w up ty place_of g =
      let x : Work × Lval = low_place n p w in
      let last = stmt n (step.Assign x.1 (stepped_low up ty (expr.Load x.1))) ∷ [] in
      record {
        back = g.back;
        counted = g.counted;
        grows = g.grows;
        more = g.more ++ last;
        code = ap (λ c. c ++ last) g.code ∙ append_assoc w.code g.more last;
        by = λ c f t u born k K sees h.
            g.by c f t u born (λ rp s1. storing b.here n up ty p rp (loaded p rp) s1 k) (on_ends (S b last) K) sees
            (λ rp t1 u1 sees1 near1 ready1.
            let held = ready_loaded n p names w x.0.next u1 rp ready1 in
            store_same n p names fits w up ty (expr.Load x.1) (loaded p rp) rp x.0.next t1 u1 born k K held ready1 sees1
            (λ t2 u2 sees2 near2. h (loaded p rp) t2 u2 sees2 (near_then (N b) b.all near1 (near_fewer (N b) b.all g.grows near2)) (ready_later (N b) b.all (omega arith) near2 held)))
            ∙ sym (stmts_both b g.more last K (with u born));
      }

  goes_bump : (n : ℕ) (p : Lvalue) → NamesPlace (N b) p → N b ≤ length b.all → (w : Work) (up first : Bool) (ty : Ty) (place_of : Prep Wire) → GP place_of w (low_place n p w) → G (bumped b.here n up first ty p place_of) w (bumped_low n ty up first (low_place n p w))
  goes_bump n p names fits w up true ty place_of g =
      let x : Work × Lval = low_place n p w in
      goes_kept b n ty (λ s k. place_of s (λ rp s1. storing b.here n up ty p rp (loaded p rp) s1 k)) w (stored n x.1 (stepped_low up ty (expr.Load x.1)) x.0, expr.Load x.1) (goes_stored n p names fits w up ty place_of g)
  goes_bump n p names fits w up false ty place_of g =
      let x : Work × Lval = low_place n p w in
      let i : ℕ = x.0.next in
      let takes = stmt n (step.Assign (lval.Slot i) (expr.Load x.1)) ∷ [] in
      let changes = stmt n (step.Assign x.1 (stepped_low up ty (slot_value i))) ∷ [] in
      record {
        back = λ f. g.back (slot_back (N b) b.all ty x.0 f);
        counted = λ c. slot_counted (N b) b.all ty x.0 (g.counted c);
        grows = omega (arith, g.grows);
        more = (g.more ++ takes) ++ changes;
        code = ap (λ c. (c ++ takes) ++ changes) g.code ∙ ap (λ c. c ++ changes) (append_assoc w.code g.more takes) ∙ append_assoc w.code (g.more ++ takes) changes;
        by = λ c f t u born k K sees h.
            let new : N b ≤ i = slot_after (N b) b.all x.0 (g.counted c) in
            let less : i < length b.all = slot_less (N b) b.all ty x.0 (g.counted c) f in
            g.by c (slot_back (N b) b.all ty x.0 f) t u born _ (on_ends (S b takes) (on_ends (S b changes) K)) sees
            (λ rp t1 u1 sees1 near1 ready1.
            into_same b n i i (expr.Load x.1) (loaded p rp) t1 u1 born (λ r s1. storing b.here n up ty p rp r s1 k) (on_ends (S b changes) K) (ready_loaded n p names w i u1 rp ready1) sees1
            (λ v.
            let held : R (i + 1) (slice_set u1 i v) (kept v) (V b (slot_value i)) = ready_kept b (i + 1) i u1 v new (omega arith) (omega (arith, less, sees1.rooms)) in
            store_same n p names fits w up ty (slot_value i) (kept v) rp (i + 1) t1 (slice_set u1 i v) born k K held
            (ready_later (N b) b.all (omega arith) (near_new (N b) b.all i i u1 v (omega arith)) ready1) (sees_new (N b) b.all i v new sees1)
            (λ t2 u2 sees2 near2.
            h (kept v) t2 u2 sees2 (near_then (N b) b.all near1 (near_then (N b) b.all (near_new (N b) b.all w.next i u1 v g.grows) (near_fewer (N b) b.all (omega (arith, g.grows)) near2))) (ready_later (N b) b.all (omega arith) near2 held))))
            ∙ sym (stmts_both b g.more takes (on_ends (S b changes) K) (with u born))
            ∙ sym (stmts_both b (g.more ++ takes) changes K (with u born));
      }

  -- ---- calls

  abbrev callee_ready : PlainCalled → Ready Wire
  callee_ready (PlainCalled.Direct f) = literal wire.NoValue
  callee_ready (PlainCalled.Through e) = valued b.known e
  callee_ready (PlainCalled.Service n) = literal wire.NoValue

  abbrev pub L : List Expr → Ready (List Wire)
  L es = all_valued b.known (map term_of es)

  -- a callee's value and the arguments of a call
  abbrev pub asked : CallForm → Ready Arguments
  asked form = arguments (callee_ready (called_of form.callee)) (L form.args)

  -- what is called then
  abbrev pub plain_calls : PlainCalled → PlainCall → At → Arguments → (Wire → Tree) → Tree
  plain_calls (PlainCalled.Direct f) form at a k = direct (side b) b.low (there b) at f a.args k
  plain_calls (PlainCalled.Through e) form at a k = through (side b) b.low (there b) at a.callee a.args k
  plain_calls (PlainCalled.Service n) form at a k = chosen (n == 15) (through (side b) b.low (there b) at (first_of a.args) (rest_of a.args)) (serves b.known n at form a.args) k

  pub call_split : (c : PlainCalled) (form : PlainCall) (at : At) (s : List Wire) (k : Wire → Tree)
      → call_by (side b) b.low (there b) at s form c k ≡ arguments (callee_ready c) (all_valued b.known form.args) at s (λ a. plain_calls c form at a k)
  call_split (PlainCalled.Direct f) form at s k = refl
  call_split (PlainCalled.Through e) form at s k = refl
  call_split (PlainCalled.Service n) form at s k = refl

  -- the form calls what the source's does
  abbrev pub CallsSame : Called → Option Ty → Option (List ℕ) → CallForm → Type 0
  CallsSame f shape format form = (at : At) (a : Arguments) (k K : Wire → Tree) → ((v : Wire) → k v ≡ K v) → calls (rich_side b) b.rich_low b.here f shape format at a k ≡ plain_calls (called_of form.callee) (call_of form) at a K

  module _ (alike : CallsAlike b) where
    pub through_same : (at : At) (v : Wire) (vs : List Wire) (k K : Wire → Tree) → ((w : Wire) → k w ≡ K w) → rich_through (rich_side b) b.rich_low b.here at v vs k ≡ through (side b) b.low (there b) at v vs K
    through_same at v vs k K h = ap (given at (function_of v)) (fun_ext (λ f. alike.by at f vs k K h))

    service_same : (n : ℕ) (shape : Option Ty) (format : Option (List ℕ)) (form : PlainCall) → shape ≡ form.shape → format ≡ form.format → (at : At) (vs : List Wire) (k K : Wire → Tree) → ((w : Wire) → k w ≡ K w) → (c : Bool)
        → chosen c (rich_through (rich_side b) b.rich_low b.here at (first_of vs) (rest_of vs)) (serves b.known n at (asked_by shape format) vs) k
        ≡ chosen c (through (side b) b.low (there b) at (first_of vs) (rest_of vs)) (serves b.known n at form vs) K
    service_same n shape format form shapes texts at vs k K h true = through_same at (first_of vs) (rest_of vs) k K h
    service_same n shape format form shapes texts at vs k K h false =
        ap (serves b.known n at (asked_by shape format) vs) (fun_ext h) ∙ serves_same b.known n at (asked_by shape format) form vs shapes texts (service_numbered n) K

    pub calls_as : (f : Called) (shape : Option Ty) (format : Option (List ℕ)) (w : Work) (later : Bool) (n : ℕ) (es : List Expr) → CallsSame f shape format (as_call shape format (low_callee n later f w).1 es)
    calls_as (Called.Direct f) shape format w later n es at a k K h = alike.by at f a.args k K h
    calls_as (Called.Through e) shape format w later n es at a k K h = through_same at a.callee a.args k K h
    calls_as (Called.Service m) shape format w later n es at a k K h = service_same m shape format (call_of (as_call shape format (callee.Service m) es)) refl refl at a.args k K h (m == 15)

  call_step : (n i : ℕ) (t : Ty) (form : CallForm) → slice_get b.all i ≡ Some (slot_of_local (new_slot t)) → (u born : List Wire) (K : Next)
      → S b (stmt n (step.Call (Some (lval.Slot i)) form) ∷ []) (with u born) K
      ≡ Ticks b n (asked form (in_here b.here n) u (λ a. plain_calls (called_of form.callee) (call_of form) (in_here b.here n) a (λ v. given (in_here b.here n) (received b.known (Some t) v) (λ x. K Ends (with (slice_set u i x) born)))))
  call_step n i t form stands u born K =
      one_stmt b n (step.Call (Some (lval.Slot i)) form) (PlainCode.Call n (Goal.Into (PlainLvalue.Slot i)) (call_of form))
      (call_is n (Some (lval.Slot i)) form ∙ ap (λ (p : PlainLvalue). PlainCode.Call n (Goal.Into p) (call_of form)) (slot_is i)) (with u born) K
      ∙ ap (λ (o : Option Slot). Ticks b n (call (side b) b.low (there b) (in_here b.here n) u (call_of form) (λ v. given (in_here b.here n) (received b.known (option_map slot_type o) v) (λ x. K Ends (with (slice_set u i x) born))))) stands
      ∙ ap (Ticks b n) (call_split (called_of form.callee) (call_of form) (in_here b.here n) u _)

  goes_called : (n : ℕ) (t : Ty) (f : Called) (shape : Option Ty) (format : Option (List ℕ)) (p : Prep Arguments) (w : Work) (x : Work × CallForm) → CallsSame f shape format x.1 → Goes b Arguments p w x.0 (asked x.1)
      → G (called (rich_side b) b.rich_low b.here n t f shape format p) w (called_low n t x)
  goes_called n ty f shape format p w x same g =
      let i : ℕ = x.0.next in
      let last = stmt n (step.Call (Some (lval.Slot i)) x.1) ∷ [] in
      record {
        back = λ fits. g.back (slot_back (N b) b.all ty x.0 fits);
        counted = λ c. slot_counted (N b) b.all ty x.0 (g.counted c);
        grows = omega (arith, g.grows);
        more = g.more ++ last;
        code = ap (λ c. c ++ last) g.code ∙ append_assoc w.code g.more last;
        by = λ c fits t u born k K sees h.
            let new : N b ≤ i = slot_after (N b) b.all x.0 (g.counted c) in
            let less : i < length b.all = slot_less (N b) b.all ty x.0 (g.counted c) fits in
            g.by c (slot_back (N b) b.all ty x.0 fits) t u born _ (on_ends (S b last) K) sees
            (λ r t1 u1 sees1 near1 ready1.
            ap (Ticks b n) (answered (N b) b.all ready1 (in_here b.here n) t1 sees1 _ _
            (λ a. same (in_here b.here n) a _ _ (λ v. ap (given (in_here b.here n) (received b.known (Some ty) v)) (fun_ext (λ y.
            h (kept y) t1 (slice_set u1 i y) (sees_new (N b) b.all i y new sees1) (near_then (N b) b.all near1 (near_new (N b) b.all w.next i u1 y g.grows))
            (ready_kept b (i + 1) i u1 y new (omega arith) (omega (arith, less, sees1.rooms))))))))
            ∙ sym (call_step n i ty x.1 (slot_stands (N b) b.all ty x.0 (g.counted c) fits) u1 born K))
            ∙ sym (stmts_both b g.more last K (with u born));
      }

  -- arguments behind those so far
  pub record ArgsGo (p : Prep (List Wire)) (es : List Expr) (w : Work) (x : Work × List Expr) : Type 0 where
    pub news : List Expr
    pub is : x.1 ≡ es ++ news
    pub goes : Goes b (List Wire) p w x.0 (L news)

  args_then : (p : Prep Wire) (q : Prep (List Wire)) (es : List Expr) (w : Work) (x : Work × Expr) (y : Work × List Expr) → G p w x → ArgsGo q (es ++ x.1 ∷ []) x.0 y → ArgsGo (joined more p q) es w y
  args_then p q es w x y g h = record {
    news = x.1 ∷ h.news;
    is = h.is ∙ append_assoc es (x.1 ∷ []) h.news;
    goes = goes_then b Wire (List Wire) (List Wire) p q more w x.0 y.0 (V b x.1) (L h.news) (ready_more (V b x.1) (L h.news)) g h.goes;
  }

  -- ---- every form

  module _ (alike : CallsAlike b) (fits : N b ≤ length b.all) (n : ℕ) where
    abbrev rl : RichMeans
    rl = b.rich_low

    abbrev rs : RichSide
    rs = rich_side b

    goes_arguments : (f : Called) (shape : Option Ty) (format : Option (List ℕ)) (later : Bool) (p : Prep Wire) (args : Terms) (w : Work) → Goes b Wire p w (low_callee n later f w).0 (callee_ready (called_of (low_callee n later f w).1))
        → ((v : Work) → ArgsGo (prep_args rs rl b.here n args) [] v (low_args n args [] v))
        → Goes b Arguments (joined arguments p (prep_args rs rl b.here n args)) w (two_low (as_call shape format) (low_callee n later f w) (low_args n args [])).0 (asked (two_low (as_call shape format) (low_callee n later f w) (low_args n args [])).1)
    goes_arguments f shape format later p args w g each =
        let c : Work × Callee = low_callee n later f w in
        let h : ArgsGo (prep_args rs rl b.here n args) [] c.0 (low_args n args [] c.0) = each c.0 in
        goes_as b Arguments (joined arguments p (prep_args rs rl b.here n args)) w (low_args n args [] c.0).0 (arguments (callee_ready (called_of c.1)) (L h.news)) (arguments (callee_ready (called_of c.1)) (L (low_args n args [] c.0).1))
        (ap (λ (es : List Expr). arguments (callee_ready (called_of c.1)) (L es)) (sym h.is))
        (goes_then b Wire (List Wire) Arguments p (prep_args rs rl b.here n args) arguments w c.0 (low_args n args [] c.0).0 (callee_ready (called_of c.1)) (L h.news) (ready_arguments (callee_ready (called_of c.1)) (L h.news)) g h.goes)

    -- an array in front of an active index is kept as a pointer
    index_goes : (c : Bool) (p : Lvalue) (e : Term) (w : Work) → GP (prep_place rs rl b.here n p) w (low_place n p w) → ((v : Work) → G (prep rs rl b.here n e) v (low n e v))
        → GP (joined (two at_element) (part b.here n c (prep_place rs rl b.here n p)) (prep rs rl b.here n e)) w (chosen c (two_low element (kept_low n (type.Ptr (type_at p)) (mapped expr.Decay (low_place n p w))) (low n e)) (two_low lval.Index (low_place n p w) (low n e)))
    index_goes true p e w g h =
        let x : Work × Lval = low_place n p w in
        let a : Work × Expr = kept_low n (type.Ptr (type_at p)) (mapped expr.Decay x) in
        let y : Work × Expr = low n e a.0 in
        let taken_array : G (taken b.here n (prep_place rs rl b.here n p)) w a = goes_kept b n (type.Ptr (type_at p)) (prep_place rs rl b.here n p) w (mapped expr.Decay x) (goes_as b Wire (prep_place rs rl b.here n p) w x.0 (P b x.1) (V b (expr.Decay x.1)) (sym (array_valued x.1)) g) in
        goes_as b Wire (joined (two at_element) (taken b.here n (prep_place rs rl b.here n p)) (prep rs rl b.here n e)) w y.0 (two at_element (V b a.1) (V b y.1)) (P b (element a.1 y.1))
        (sym (place_is (element a.1 y.1) (PlainLvalue.Deref (PlainTerm.Move false (term_of a.1) (term_of y.1))) (deref_is (expr.Move false a.1 y.1) ∙ ap PlainLvalue.Deref (move_is false a.1 y.1))))
        (goes_then b Wire Wire Wire (taken b.here n (prep_place rs rl b.here n p)) (prep rs rl b.here n e) (two at_element) w a.0 y.0 (V b a.1) (V b y.1) (ready_two at_element (V b a.1) (V b y.1)) taken_array (h a.0))
    index_goes false p e w g h =
        let x : Work × Lval = low_place n p w in
        let y : Work × Expr = low n e x.0 in
        goes_as b Wire (joined (two at_element) (prep_place rs rl b.here n p) (prep rs rl b.here n e)) w y.0 (two at_element (P b x.1) (V b y.1)) (P b (lval.Index x.1 y.1))
        (sym (place_is (lval.Index x.1 y.1) (PlainLvalue.Index (lvalue_of x.1) (term_of y.1)) (index_is x.1 y.1)))
        (goes_then b Wire Wire Wire (prep_place rs rl b.here n p) (prep rs rl b.here n e) (two at_element) w x.0 y.0 (P b x.1) (V b y.1) (ready_two at_element (P b x.1) (V b y.1)) g (h x.0))

    mutual
      pub form_goes : (e : Term) → NamesIn (N b) e → (w : Work) → G (prep rs rl b.here n e) w (low n e w)
      form_goes (Term.Lit v) names w = goes_now b Wire (literal (wire_of v)) (V b (expr.Lit v)) w (λ c u. ready_as c u (literal (wire_of v)) (literal (wire_of v)) (V b (expr.Lit v)) (sym (literal_valued v)) (ready_literal (wire_of v) c u))
      form_goes (Term.Load p) names w =
          let x : Work × Lval = low_place n p w in
          let g : GP (prep_place rs rl b.here n p) w x = place_goes p names w in
          record {
            back = g.back;
            counted = g.counted;
            grows = g.grows;
            more = g.more;
            code = g.code;
            by = λ c f t u born k K sees h. g.by c f t u born (λ r s. k (loaded p r) s) K sees (λ r t1 u1 sees1 near1 ready1. h (loaded p r) t1 u1 sees1 near1 (ready_loaded n p names w x.0.next u1 r ready1));
          }
      form_goes (Term.Addr p) names w = goes_as b Wire (prep_place rs rl b.here n p) w (low_place n p w).0 (P b (low_place n p w).1) (V b (expr.Addr (low_place n p w).1)) (sym (address_valued (low_place n p w).1)) (place_goes p names w)
      form_goes (Term.Decay p) names w = goes_as b Wire (prep_place rs rl b.here n p) w (low_place n p w).0 (P b (low_place n p w).1) (V b (expr.Decay (low_place n p w).1)) (sym (array_valued (low_place n p w).1)) (place_goes p names w)
      form_goes (Term.Neg k e) names w = goes_one (λ x. at_kind k (sign_changed k (operand k x))) (expr.Neg k) (λ d. valued_is (expr.Neg k d) (PlainTerm.Neg k (term_of d)) (neg_is k d)) (prep rs rl b.here n e) w (low n e w) (form_goes e names w)
      form_goes (Term.Flip k e) names w = goes_one (λ x. Ok (wire.Int k (flipped k (operand k x)))) (expr.Flip k) (λ d. valued_is (expr.Flip k d) (PlainTerm.Flip k (term_of d)) (flip_is k d)) (prep rs rl b.here n e) w (low n e w) (form_goes e names w)
      form_goes (Term.Not e) names w = goes_one negated expr.Not (λ d. valued_is (expr.Not d) (PlainTerm.Not (term_of d)) (not_is d)) (prep rs rl b.here n e) w (low n e w) (form_goes e names w)
      form_goes (Term.Bin op k x y) names w =
          goes_two (two (calculated op k)) (expr.Bin op k) (λ a c. valued_is (expr.Bin op k a c) (PlainTerm.Bin op k (term_of a) (term_of c)) (bin_is op k a c)) (ready_two (calculated op k)) (part b.here n (is_taken (is_active y) x) (prep rs rl b.here n x)) (prep rs rl b.here n y) w
          (part_low (keeps (is_active y) x) n (type_of x) (low n x w)) (low n y) (goes_part (is_taken (is_active y) x) n (type_of x) (prep rs rl b.here n x) w (low n x w) (form_goes x names.0 w)) (λ v. form_goes y names.1 v)
      form_goes (Term.Rel op x y) names w =
          goes_two (two (related b.known.program op)) (expr.Rel op) (λ a c. valued_is (expr.Rel op a c) (PlainTerm.Rel op (term_of a) (term_of c)) (rel_is op a c)) (ready_two (related b.known.program op)) (part b.here n (is_taken (is_active y) x) (prep rs rl b.here n x)) (prep rs rl b.here n y) w
          (part_low (keeps (is_active y) x) n (type_of x) (low n x w)) (low n y) (goes_part (is_taken (is_active y) x) n (type_of x) (prep rs rl b.here n x) w (low n x w) (form_goes x names.0 w)) (λ v. form_goes y names.1 v)
      form_goes (Term.And x y) names w =
          goes_chosen (V b) (is_active y) (conjoined b.here n (prep rs rl b.here n x) (prep rs rl b.here n y)) (joined both (prep rs rl b.here n x) (prep rs rl b.here n y)) w (conjoined_low n (low n x w) (low n y)) (two_low expr.And (low n x w) (low n y))
          (goes_conjoined n (prep rs rl b.here n y) (low n x w) (low n y) (λ v. form_goes y names.1 v) (prep rs rl b.here n x) w (form_goes x names.0 w))
          (goes_two both expr.And (λ a c. valued_is (expr.And a c) (PlainTerm.And (term_of a) (term_of c)) (and_is a c)) ready_both (prep rs rl b.here n x) (prep rs rl b.here n y) w (low n x w) (low n y) (form_goes x names.0 w) (λ v. form_goes y names.1 v))
      form_goes (Term.Or x y) names w =
          goes_chosen (V b) (is_active y) (disjoined b.here n (prep rs rl b.here n x) (prep rs rl b.here n y)) (joined either (prep rs rl b.here n x) (prep rs rl b.here n y)) w (disjoined_low n (low n x w) (low n y)) (two_low expr.Or (low n x w) (low n y))
          (goes_disjoined n (prep rs rl b.here n y) (low n x w) (low n y) (λ v. form_goes y names.1 v) (prep rs rl b.here n x) w (form_goes x names.0 w))
          (goes_two either expr.Or (λ a c. valued_is (expr.Or a c) (PlainTerm.Or (term_of a) (term_of c)) (or_is a c)) ready_either (prep rs rl b.here n x) (prep rs rl b.here n y) w (low n x w) (low n y) (form_goes x names.0 w) (λ v. form_goes y names.1 v))
      form_goes (Term.Conv k e) names w = goes_one (λ x. Ok (wire.Int k (converted k (integer x)))) (expr.Conv k) (λ d. valued_is (expr.Conv k d) (PlainTerm.Conv k (term_of d)) (conv_is k d)) (prep rs rl b.here n e) w (low n e w) (form_goes e names w)
      form_goes (Term.ToVoid e) names w =
          goes_as b Wire (prep rs rl b.here n e) w (low n e w).0 (V b (low n e w).1) (V b (expr.ToVoid (low n e w).1)) (sym (valued_is (expr.ToVoid (low n e w).1) (PlainTerm.ToVoid (term_of (low n e w).1)) (to_void_is (low n e w).1))) (form_goes e names w)
      form_goes (Term.FromVoid t e) names w = goes_one (cast b.known t) (expr.FromVoid t) (λ d. valued_is (expr.FromVoid t d) (PlainTerm.FromVoid t (term_of d)) (from_void_is t d)) (prep rs rl b.here n e) w (low n e w) (form_goes e names w)
      form_goes (Term.Move back p i) names w =
          goes_two (two (by_steps back)) (expr.Move back) (λ a c. valued_is (expr.Move back a c) (PlainTerm.Move back (term_of a) (term_of c)) (move_is back a c)) (ready_two (by_steps back)) (part b.here n (is_taken (is_active i) p) (prep rs rl b.here n p)) (prep rs rl b.here n i) w
          (part_low (keeps (is_active i) p) n (type_of p) (low n p w)) (low n i) (goes_part (is_taken (is_active i) p) n (type_of p) (prep rs rl b.here n p) w (low n p w) (form_goes p names.0 w)) (λ v. form_goes i names.1 v)
      form_goes (Term.Diff p q) names w =
          goes_two (two difference) expr.Diff (λ a c. valued_is (expr.Diff a c) (PlainTerm.Diff (term_of a) (term_of c)) (diff_is a c)) (ready_two difference) (part b.here n (is_taken (is_active q) p) (prep rs rl b.here n p)) (prep rs rl b.here n q) w
          (part_low (keeps (is_active q) p) n (type_of p) (low n p w)) (low n q) (goes_part (is_taken (is_active q) p) n (type_of p) (prep rs rl b.here n p) w (low n p w) (form_goes p names.0 w)) (λ v. form_goes q names.1 v)
      form_goes (Term.Cond t c x y) names w =
          goes_choice n t (prep rs rl b.here n c) (prep rs rl b.here n x) (prep rs rl b.here n y) w (low n c w) (low n x) (low n y) (form_goes c names.0 w) (λ v. form_goes x names.1 v) (λ v. form_goes y names.2 v)
      form_goes (Term.Call t (Called.Direct f) args shape format) names w =
          goes_called n t (Called.Direct f) shape format (joined arguments (prep_callee rs rl b.here n (are_active args) (Called.Direct f)) (prep_args rs rl b.here n args)) w (two_low (as_call shape format) (low_callee n (are_active args) (Called.Direct f) w) (low_args n args []))
          (calls_as alike (Called.Direct f) shape format w (are_active args) n (low_args n args [] w).1)
          (goes_arguments (Called.Direct f) shape format (are_active args) (prep_callee rs rl b.here n (are_active args) (Called.Direct f)) args w (goes_now b Wire (literal wire.NoValue) (literal wire.NoValue) w (λ c u. ready_literal wire.NoValue c u)) (λ v. args_go args names.1 [] v))
      form_goes (Term.Call t (Called.Through e) args shape format) names w =
          goes_called n t (Called.Through e) shape format (joined arguments (prep_callee rs rl b.here n (are_active args) (Called.Through e)) (prep_args rs rl b.here n args)) w (two_low (as_call shape format) (low_callee n (are_active args) (Called.Through e) w) (low_args n args []))
          (calls_as alike (Called.Through e) shape format w (are_active args) n (low_args n args [] (low_callee n (are_active args) (Called.Through e) w).0).1)
          (goes_arguments (Called.Through e) shape format (are_active args) (prep_callee rs rl b.here n (are_active args) (Called.Through e)) args w (goes_part (is_taken (are_active args) e) n (type_of e) (prep rs rl b.here n e) w (low n e w) (form_goes e names.0 w)) (λ v. args_go args names.1 [] v))
      form_goes (Term.Call t (Called.Service m) args shape format) names w =
          goes_called n t (Called.Service m) shape format (joined arguments (prep_callee rs rl b.here n (are_active args) (Called.Service m)) (prep_args rs rl b.here n args)) w (two_low (as_call shape format) (low_callee n (are_active args) (Called.Service m) w) (low_args n args []))
          (calls_as alike (Called.Service m) shape format w (are_active args) n (low_args n args [] w).1)
          (goes_arguments (Called.Service m) shape format (are_active args) (prep_callee rs rl b.here n (are_active args) (Called.Service m)) args w (goes_now b Wire (literal wire.NoValue) (literal wire.NoValue) w (λ c u. ready_literal wire.NoValue c u)) (λ v. args_go args names.1 [] v))
      form_goes (Term.Bump t up first p) names w = goes_bump n p names fits w up first t (prep_place rs rl b.here n p) (place_goes p names w)

      pub place_goes : (p : Lvalue) → NamesPlace (N b) p → (w : Work) → GP (prep_place rs rl b.here n p) w (low_place n p w)
      place_goes (Lvalue.Slot i t) names w = goes_now b Wire (literal wire.Null) (P b (lval.Slot i)) w (λ c u. ready_as c u (literal wire.Null) (literal wire.Null) (P b (lval.Slot i)) (sym (place_is (lval.Slot i) (PlainLvalue.Slot i) (slot_is i))) (ready_literal wire.Null c u))
      place_goes (Lvalue.Object i t) names w = goes_now b Wire (λ at s k. k (slot_of s i)) (P b (lval.Object i)) w
          (λ c u. ready_as c u (λ at s k. k (slot_of s i)) (λ at s k. k (slot_of s i)) (P b (lval.Object i)) (sym (place_is (lval.Object i) (PlainLvalue.Object i) (object_is i))) (record { by = λ at t1 u1 sees near k. ap k (sees.same i names) }))
      place_goes (Lvalue.Global g t) names w = goes_now b Wire (literal (global b.known g)) (P b (lval.Global g)) w
          (λ c u. ready_as c u (literal (global b.known g)) (literal (global b.known g)) (P b (lval.Global g)) (sym (place_is (lval.Global g) (PlainLvalue.Global g) (global_is g))) (ready_literal (global b.known g) c u))
      place_goes (Lvalue.Deref e) names w = goes_as b Wire (prep rs rl b.here n e) w (low n e w).0 (V b (low n e w).1) (P b (lval.Deref (low n e w).1)) (sym (place_is (lval.Deref (low n e w).1) (PlainLvalue.Deref (term_of (low n e w).1)) (deref_is (low n e w).1))) (form_goes e names w)
      place_goes (Lvalue.Member p f t) names w =
          let x : Work × Lval = low_place n p w in
          goes_as b Wire (made (one (λ a. member b.known a f)) (prep_place rs rl b.here n p)) w x.0 (one (λ a. member b.known a f) (P b x.1)) (P b (lval.Member x.1 f)) (sym (place_is (lval.Member x.1 f) (PlainLvalue.Member (lvalue_of x.1) f) (member_is x.1 f)))
          (goes_map b Wire Wire (prep_place rs rl b.here n p) (one (λ a. member b.known a f)) w x.0 (P b x.1) (ready_one (λ a. member b.known a f) (P b x.1)) (place_goes p names w))
      place_goes (Lvalue.Index p e) names w = index_goes (is_active e) p e w (place_goes p names.0 w) (λ v. form_goes e names.1 v)

      pub args_go : (args : Terms) → NamesAll (N b) args → (es : List Expr) (w : Work) → ArgsGo (prep_args rs rl b.here n args) es w (low_args n args es w)
      args_go Terms.End names es w = record { news = []; is = sym (append-nil es); goes = goes_now b (List Wire) none none w (λ c u. record { by = λ at t1 u1 sees near k. refl }) }
      args_go (Terms.Then e rest) names es w =
          let x : Work × Expr = part_low (keeps (are_active rest) e) n (type_of e) (low n e w) in
          args_then (part b.here n (is_taken (are_active rest) e) (prep rs rl b.here n e)) (prep_args rs rl b.here n rest) es w x (low_args n rest (es ++ x.1 ∷ []) x.0)
          (goes_part (is_taken (are_active rest) e) n (type_of e) (prep rs rl b.here n e) w (low n e w) (form_goes e names.0 w)) (args_go rest names.1 (es ++ x.1 ∷ []) x.0)

    -- what is called, and its arguments
    pub call_goes : (f : Called) (shape : Option Ty) (format : Option (List ℕ)) (args : Terms) → NamesCalled (N b) f → NamesAll (N b) args → (w : Work)
        → Goes b Arguments (joined arguments (prep_callee rs rl b.here n (are_active args) f) (prep_args rs rl b.here n args)) w (two_low (as_call shape format) (low_callee n (are_active args) f w) (low_args n args [])).0 (asked (two_low (as_call shape format) (low_callee n (are_active args) f w) (low_args n args [])).1)
    call_goes (Called.Direct f) shape format args names all_names w =
        goes_arguments (Called.Direct f) shape format (are_active args) (prep_callee rs rl b.here n (are_active args) (Called.Direct f)) args w (goes_now b Wire (literal wire.NoValue) (literal wire.NoValue) w (λ c u. ready_literal wire.NoValue c u)) (λ v. args_go args all_names [] v)
    call_goes (Called.Through e) shape format args names all_names w =
        goes_arguments (Called.Through e) shape format (are_active args) (prep_callee rs rl b.here n (are_active args) (Called.Through e)) args w (goes_part (is_taken (are_active args) e) n (type_of e) (prep rs rl b.here n e) w (low n e w) (form_goes e names w)) (λ v. args_go args all_names [] v)
    call_goes (Called.Service m) shape format args names all_names w =
        goes_arguments (Called.Service m) shape format (are_active args) (prep_callee rs rl b.here n (are_active args) (Called.Service m)) args w (goes_now b Wire (literal wire.NoValue) (literal wire.NoValue) w (λ c u. ready_literal wire.NoValue c u)) (λ v. args_go args all_names [] v)
