-- What is done before a statement's last tick is what lowered statements do, and what waits is what their residual gives.
use Rattle.std.proofs.Common.{◌≡◌, ℕ, ◌+◌, ◌<◌, ◌≤◌, Bool, true, false, List, [], ◌∷◌, ◌++◌, length, Option, slice_set, refl, ap, sym, subst, ◌∙◌, le_refl, append-nil, append_assoc, arith}
use mathlib.Core.Path.{fun_ext}
use Rattle.mdr_core.proofs.Coded.{assign_is, code_is, if_is, load_is, numbered, slot_is}
use Rattle.mdr_core.specs.declared.code.Expr.{Expr}
use Rattle.mdr_core.specs.declared.code.Lval.{Lval}
use Rattle.mdr_core.specs.declared.code.Lval.TheVariants as lval
use Rattle.mdr_core.specs.declared.code.Step.{Step}
use Rattle.mdr_core.specs.declared.code.Step.TheVariants as step
use Rattle.mdr_core.specs.declared.code.Stmt.{Stmt}
use Rattle.mdr_core.specs.declared.types.Ty.{Ty}
use Rattle.mdr_core.specs.Code.{Term as PlainTerm, Lvalue as PlainLvalue, Code as PlainCode}
use Rattle.mdr_core.specs.Folds.{code_of, codes_of, lvalue_of, term_of}
use Rattle.mdr_core.specs.Layout.{chosen}
use Rattle.mdr_core.specs.Typing.{Slot}
use Rattle.mdr_meaning.specs.declared.wire.Wire.{Wire}
use Rattle.mdr_meaning.specs.Calls.{put as put_at}
use Rattle.mdr_meaning.specs.Expressions.{place, read, slot_of, value, values}
use Rattle.mdr_meaning.specs.Lives.{ends, in_block}
use Rattle.mdr_meaning.specs.Numbers.{Numbered}
use Rattle.mdr_meaning.specs.Sides.{Body, Side, Here, Locals, Flow, Ends, Breaks, Continues, Returns, Next, Go, Means, in_here}
use Rattle.mdr_meaning.specs.Statements.{on_ends, stmt as plain_stmt, stmts}
use Rattle.mdr_meaning.specs.Tree.{Tree}
use Rattle.mdr_meaning.specs.Values.{is_true}
use Rattle.mdr_lower.specs.Lowering.{arm, armed, inside, kept as kept_low, slot_value, stmt, with_slot}
use Rattle.mdr_lower.specs.declared.work.Work.{Work}
use Rattle.mdr_rich_sources.specs.Expressions.{RichBody, RichSide, RichMeans}
use Rattle.mdr_rich_sources.specs.Waiting.{Ready, Prep, joined, kept, made, now, taken, tick}
use Rattle.mdr_rich_sources.proofs.Slots.{with, Fits, IsCounted, IsReady, Near, Sees, answered, get_here, near_fewer, near_new, near_refl, near_then, ready_later, sees_new, slot_after, slot_back, slot_counted, slot_less}

-- a source's function and its lowered one
pub record Both : Type 0 where
  pub known : Numbered
  pub asks : Bool
  pub rich_own : ℕ → Option RichBody
  pub own : ℕ → Option Body
  pub rich_low : RichMeans
  pub low : Means
  pub here : Here
  -- all slots of the lowered function
  pub all : List Slot

abbrev pub rich_side : Both → RichSide
rich_side b = record { known = b.known; own = b.rich_own; asks = b.asks }

abbrev pub side : Both → Side
side b = record { known = b.known; own = b.own; asks = b.asks }

-- the same function with its new slots
abbrev pub there : Both → Here
there b = record { func = b.here.func; depth = b.here.depth; slots = b.all; result = b.here.result }

-- what a term, an lvalue and a list of terms give
abbrev pub valued : Numbered → PlainTerm → Ready Wire
valued known e at s k = value known at s e k

abbrev pub placed : Numbered → PlainLvalue → Ready Wire
placed known p at s k = place known at s p k

abbrev pub all_valued : Numbered → List PlainTerm → Ready (List Wire)
all_valued known es at s k = values known at s es k

module _ (b : Both) where
  abbrev pub V : Expr → Ready Wire
  V e = valued b.known (term_of e)

  abbrev pub P : Lval → Ready Wire
  P l = placed b.known (lvalue_of l)

  abbrev pub S : List Stmt → Go
  S ss = stmts (side b) b.low (there b) (codes_of ss)

  -- how many slots the source's function has
  abbrev pub N : ℕ
  N = length b.here.slots

  abbrev pub Ticks : ℕ → Tree → Tree
  Ticks n t = Tree.Tick (in_here b.here n) b.here.depth t

  -- ---- lists of statements

  rest_equal : (xs ys : List Stmt) (K : Next) → ((l : Locals) → S (xs ++ ys) l K ≡ S xs l (on_ends (S ys) K)) → (flow : Flow) (l : Locals) → on_ends (S (xs ++ ys)) K flow l ≡ on_ends (S xs) (on_ends (S ys) K) flow l
  rest_equal xs ys K h Ends l = h l
  rest_equal xs ys K h Breaks l = refl
  rest_equal xs ys K h Continues l = refl
  rest_equal xs ys K h (Returns v) l = refl

  pub stmts_both : (xs ys : List Stmt) (K : Next) (l : Locals) → S (xs ++ ys) l K ≡ S xs l (on_ends (S ys) K)
  stmts_both [] ys K l = refl
  stmts_both (x ∷ xs) ys K l = ap (plain_stmt (side b) b.low (there b) (code_of x) l) (fun_ext (λ flow. fun_ext (rest_equal xs ys K (stmts_both xs ys K) flow)))

  -- one statement, by what it is
  pub one_stmt : (n : ℕ) (s : Step) (c : PlainCode) → numbered s n ≡ c → (l : Locals) (K : Next) → S (stmt n s ∷ []) l K ≡ plain_stmt (side b) b.low (there b) c l (on_ends (S []) K)
  one_stmt n s c is l K = ap (λ (x : PlainCode). plain_stmt (side b) b.low (there b) x l (on_ends (S []) K)) (code_is (stmt n s) s refl ∙ is)

  pub assign_step : (n : ℕ) (p : Lval) (e : Expr) (l : Locals) (K : Next)
      → S (stmt n (step.Assign p e) ∷ []) l K ≡ Ticks n (V e (in_here b.here n) l.slots (λ v. put_at b.known (in_here b.here n) (lvalue_of p) v l (K Ends)))
  assign_step n p e l K = one_stmt n (step.Assign p e) (PlainCode.Assign n (lvalue_of p) (term_of e)) (assign_is n p e) l K

  pub into_step : (n i : ℕ) (e : Expr) (u born : List Wire) (K : Next)
      → S (stmt n (step.Assign (lval.Slot i) e) ∷ []) (with u born) K ≡ Ticks n (V e (in_here b.here n) u (λ v. K Ends (with (slice_set u i v) born)))
  into_step n i e u born K =
      one_stmt n (step.Assign (lval.Slot i) e) (PlainCode.Assign n (PlainLvalue.Slot i) (term_of e)) (assign_is n (lval.Slot i) e ∙ ap (λ (p : PlainLvalue). PlainCode.Assign n p (term_of e)) (slot_is i)) (with u born) K

  pub if_step : (n : ℕ) (e : Expr) (one other : List Stmt) (l : Locals) (K : Next)
      → S (stmt n (step.If e one other) ∷ []) l K ≡ Ticks n (V e (in_here b.here n) l.slots (λ v. in_block (side b) (there b) (chosen (is_true v) (S one) (S other)) l (on_ends (S []) K)))
  if_step n e one other l K = one_stmt n (step.If e one other) (PlainCode.If n (term_of e) (codes_of one) (codes_of other)) (if_is n e one other) l K

  -- ---- what is done before

  pub record Goes (A : Type 0) (p : Prep A) (w v : Work) (e : Ready A) : Type 0 where
    pub back : Fits N b.all v → Fits N b.all w
    pub counted : IsCounted N b.all w → IsCounted N b.all v
    pub grows : w.next ≤ v.next
    pub more : List Stmt
    pub code : v.code ≡ w.code ++ more
    pub by : IsCounted N b.all w → Fits N b.all v → (t u born : List Wire) (k : Ready A → List Wire → Tree) (K : Next) → Sees N b.all t u
        → ((r : Ready A) (t1 u1 : List Wire) → Sees N b.all t1 u1 → Near N b.all w.next u u1 → IsReady N b.all A v.next u1 r e → k r t1 ≡ K Ends (with u1 born))
        → p t k ≡ S more (with u born) K

  pub goes_as : (A : Type 0) (p : Prep A) (w v : Work) (e f : Ready A) → e ≡ f → Goes A p w v e → Goes A p w v f
  goes_as A p w v e f is g = subst (Goes A p w v) is g

  -- nothing is done before
  pub goes_now : (A : Type 0) (r e : Ready A) (w : Work) → ((c : ℕ) (u : List Wire) → IsReady N b.all A c u r e) → Goes A (now r) w w e
  goes_now A r e w ready = record {
    back = λ f. f;
    counted = λ c. c;
    grows = le_refl w.next;
    more = [];
    code = sym (append-nil w.code);
    by = λ c f t u born k K sees h. h r t u sees (near_refl N b.all w.next u) (ready w.next u);
  }

  -- it is done to what waits
  pub goes_map : (A B : Type 0) (p : Prep A) (f : Ready A → Ready B) (w v : Work) (e : Ready A) → ((d : ℕ) (u : List Wire) (r : Ready A) → IsReady N b.all A d u r e → IsReady N b.all B d u (f r) (f e)) → Goes A p w v e → Goes B (made f p) w v (f e)
  goes_map A B p f w v e respects g = record {
    back = g.back;
    counted = g.counted;
    grows = g.grows;
    more = g.more;
    code = g.code;
    by = λ c fits t u born k K sees h. g.by c fits t u born (λ r s. k (f r) s) K sees (λ r t1 u1 sees1 near1 ready1. h (f r) t1 u1 sees1 near1 (respects v.next u1 r ready1));
  }

  -- one after the other
  pub goes_then : (A B C : Type 0) (p : Prep A) (q : Prep B) (f : Ready A → Ready B → Ready C) (w v x : Work) (ea : Ready A) (eb : Ready B)
      → ((d : ℕ) (u : List Wire) (ra : Ready A) (rb : Ready B) → IsReady N b.all A d u ra ea → IsReady N b.all B d u rb eb → IsReady N b.all C d u (f ra rb) (f ea eb))
      → Goes A p w v ea → Goes B q v x eb → Goes C (joined f p q) w x (f ea eb)
  goes_then A B C p q f w v x ea eb respects g h = record {
    back = λ fits. g.back (h.back fits);
    counted = λ c. h.counted (g.counted c);
    grows = omega (arith, g.grows, h.grows);
    more = g.more ++ h.more;
    code = h.code ∙ ap (λ c. c ++ h.more) g.code ∙ append_assoc w.code g.more h.more;
    by = λ c fits t u born k K sees next.
        g.by c (h.back fits) t u born (λ ra s1. q s1 (λ rb s2. k (f ra rb) s2)) (on_ends (S h.more) K) sees
        (λ ra t1 u1 sees1 near1 ready1. h.by (g.counted c) fits t1 u1 born (λ rb s2. k (f ra rb) s2) K sees1
        (λ rb t2 u2 sees2 near2 ready2. next (f ra rb) t2 u2 sees2 (near_then N b.all near1 (near_fewer N b.all g.grows near2)) (respects x.next u2 ra rb (ready_later N b.all h.grows near2 ready1) ready2)))
        ∙ sym (stmts_both g.more h.more K (with u born));
  }

  -- a slot that is taken changes nothing yet
  pub goes_slot : (A : Type 0) (p : Prep A) (w v : Work) (e : Ready A) (t : Ty) → Goes A p w v e → Goes A p w (with_slot t v) e
  goes_slot A p w v e ty g = record {
    back = λ f. g.back (slot_back N b.all ty v f);
    counted = λ c. slot_counted N b.all ty v (g.counted c);
    grows = omega (arith, g.grows);
    more = g.more;
    code = g.code;
    by = λ c f t u born k K sees h. g.by c (slot_back N b.all ty v f) t u born k K sees
        (λ r t1 u1 sees1 near1 ready1. h r t1 u1 sees1 near1 (ready_later N b.all (omega arith) (near_refl N b.all v.next u1) ready1));
  }

  -- ---- values that are kept

  pub slot_valued : (i : ℕ) → V (slot_value i) ≡ (λ at s k. read at (slot_of s i) k)
  slot_valued i = ap (valued b.known) (load_is (lval.Slot i) ∙ ap PlainTerm.Load (slot_is i))

  pub ready_slot : (d i : ℕ) (u : List Wire) (v : Wire) → N ≤ i → i < d → slot_of u i ≡ v → IsReady N b.all Wire d u (kept v) (V (slot_value i))
  ready_slot d i u v new less holds = record { by = λ at t u1 sees near k. ap (λ w. read at w k) (sym holds ∙ near.by i new less) ∙ sym (ap (λ (f : Ready Wire). f at u1 k) (slot_valued i)) }

  pub ready_kept : (d i : ℕ) (u : List Wire) (v : Wire) → N ≤ i → i < d → i < length u → IsReady N b.all Wire d (slice_set u i v) (kept v) (V (slot_value i))
  ready_kept d i u v new less fits = ready_slot d i (slice_set u i v) v new less (get_here u i v fits)

  pub into_same : (n i d : ℕ) (e : Expr) (r : Ready Wire) (t u born : List Wire) (k : Ready Wire → List Wire → Tree) (K : Next) → IsReady N b.all Wire d u r (V e) → Sees N b.all t u
      → ((v : Wire) → k (kept v) t ≡ K Ends (with (slice_set u i v) born)) → taken b.here n (now r) t k ≡ S (stmt n (step.Assign (lval.Slot i) e) ∷ []) (with u born) K
  into_same n i d e r t u born k K ready sees h = ap (Ticks n) (answered N b.all ready (in_here b.here n) t sees (λ v. k (kept v) t) (λ v. K Ends (with (slice_set u i v) born)) h) ∙ sym (into_step n i e u born K)

  pub goes_kept : (n : ℕ) (t : Ty) (p : Prep Wire) (w : Work) (x : Work × Expr) → Goes Wire p w x.0 (V x.1) → Goes Wire (taken b.here n p) w (kept_low n t x).0 (V (kept_low n t x).1)
  goes_kept n ty p w x g = record {
    back = λ f. g.back (slot_back N b.all ty x.0 f);
    counted = λ c. slot_counted N b.all ty x.0 (g.counted c);
    grows = omega (arith, g.grows);
    more = g.more ++ stmt n (step.Assign (lval.Slot x.0.next) x.1) ∷ [];
    code = ap (λ c. c ++ stmt n (step.Assign (lval.Slot x.0.next) x.1) ∷ []) g.code ∙ append_assoc w.code g.more (stmt n (step.Assign (lval.Slot x.0.next) x.1) ∷ []);
    by = λ c f t u born k K sees h.
        let new : N ≤ x.0.next = slot_after N b.all x.0 (g.counted c) in
        let less : x.0.next < length b.all = slot_less N b.all ty x.0 (g.counted c) f in
        g.by c (slot_back N b.all ty x.0 f) t u born (λ r s. taken b.here n (now r) s k) (on_ends (S (stmt n (step.Assign (lval.Slot x.0.next) x.1) ∷ [])) K) sees
        (λ r t1 u1 sees1 near1 ready1. into_same n x.0.next x.0.next x.1 r t1 u1 born k K ready1 sees1
        (λ v. h (kept v) t1 (slice_set u1 x.0.next v) (sees_new N b.all x.0.next v new sees1) (near_then N b.all near1 (near_new N b.all w.next x.0.next u1 v g.grows))
        (ready_kept (x.0.next + 1) x.0.next u1 v new (omega arith) (omega (arith, less, sees1.rooms)))))
        ∙ sym (stmts_both g.more (stmt n (step.Assign (lval.Slot x.0.next) x.1) ∷ []) K (with u born));
  }

  -- ---- two ways, each of which leaves its value in slot i

  abbrev pub branching : (number : ℕ) → Prep Wire → (one other : Ready Wire → Prep Wire) → Prep Wire
  branching n p one other s k = p s (λ r s1. tick b.here n (λ at. r at s1 (λ x. chosen (is_true x) (one r) (other r) s1 k)))

  -- from where the test stands ready in front, over what was lowered behind
  abbrev pub Way : (i : ℕ) → (test : Expr) → (front behind : Work) → (Ready Wire → Prep Wire) → List Stmt → Type 0
  Way i e front behind q code = (r : Ready Wire) (t u : List Wire) → IsCounted N b.all front → Fits N b.all behind → Sees N b.all t u → IsReady N b.all Wire front.next u r (V e) → (k : Ready Wire → List Wire → Tree) (E : Next)
      → ((r1 : Ready Wire) (t1 u1 : List Wire) → Sees N b.all t1 u1 → Near N b.all i u u1 → IsReady N b.all Wire behind.next u1 r1 (V (slot_value i)) → k r1 t1 ≡ E Ends (with u1 []))
      → q r t k ≡ S code (with u []) E

  -- what is done before, at certain slots, is what the statements do
  abbrev pub Begins : (A : Type 0) → Prep A → (from behind : Work) → Ready A → List Stmt → (t u born : List Wire) → Type 0
  Begins A p from behind e code t u born = (k : Ready A → List Wire → Tree) (K : Next)
      → ((r : Ready A) (t1 u1 : List Wire) → Sees N b.all t1 u1 → Near N b.all from.next u u1 → IsReady N b.all A behind.next u1 r e → k r t1 ≡ K Ends (with u1 born))
      → p t k ≡ S code (with u born) K

  -- and then one of the two ways
  pub begins_armed : (n i : ℕ) (p : Prep Wire) (w : Work) (x : Work × Expr) (code : List Stmt) (one other : Ready Wire → Prep Wire) (a d : Work) (t u born : List Wire) → w.next ≤ i → IsCounted N b.all x.0 → Fits N b.all d
      → Begins Wire p w x.0 (V x.1) code t u born → Way i x.1 x.0 d one a.code → Way i x.1 x.0 d other d.code → Begins Wire (branching n p one other) w d (V (slot_value i)) (code ++ stmt n (step.If x.1 a.code d.code) ∷ []) t u born
  begins_armed n i p w x code one other a d t u born first c f front left right k K h =
      front (λ r s1. tick b.here n (λ at. r at s1 (λ y. chosen (is_true y) (one r) (other r) s1 k))) (on_ends (S (stmt n (step.If x.1 a.code d.code) ∷ [])) K)
      (λ r t1 u1 sees1 near1 ready1. ap (Ticks n) (answered N b.all ready1 (in_here b.here n) t1 sees1 _ _
      (λ y. ways r t1 u1 sees1 ready1 (λ r1 t2 u2 sees2 near2 ready2. h r1 t2 u2 sees2 (near_then N b.all near1 (near_fewer N b.all first near2)) ready2) (is_true y)))
      ∙ sym (if_step n x.1 a.code d.code (with u1 born) K))
      ∙ sym (stmts_both code (stmt n (step.If x.1 a.code d.code) ∷ []) K (with u born)) where
        ways : (r : Ready Wire) (t1 u1 : List Wire) → Sees N b.all t1 u1 → IsReady N b.all Wire x.0.next u1 r (V x.1)
            → ((r1 : Ready Wire) (t2 u2 : List Wire) → Sees N b.all t2 u2 → Near N b.all i u1 u2 → IsReady N b.all Wire d.next u2 r1 (V (slot_value i)) → k r1 t2 ≡ K Ends (with u2 born))
            → (c : Bool) → chosen c (one r) (other r) t1 k ≡ in_block (side b) (there b) (chosen c (S a.code) (S d.code)) (with u1 born) (on_ends (S []) K)
        ways r t1 u1 sees1 ready1 h true = left r t1 u1 c f sees1 ready1 k (ends (side b) (there b) born (on_ends (S []) K)) h
        ways r t1 u1 sees1 ready1 h false = right r t1 u1 c f sees1 ready1 k (ends (side b) (there b) born (on_ends (S []) K)) h

  pub goes_armed : (n i : ℕ) (p : Prep Wire) (w : Work) (x : Work × Expr) (one other : Ready Wire → Prep Wire) (a d : Work) → w.next ≤ i → Goes Wire p w x.0 (V x.1)
      → (Fits N b.all d → Fits N b.all x.0) → (IsCounted N b.all x.0 → IsCounted N b.all d) → x.0.next ≤ d.next → Way i x.1 x.0 d one a.code → Way i x.1 x.0 d other d.code
      → Goes Wire (branching n p one other) w (armed n i x.1 x.0 a d).0 (V (slot_value i))
  goes_armed n i p w x one other a d first g back counted grows left right = record {
    back = λ f. g.back (back f);
    counted = λ c. counted (g.counted c);
    grows = omega (arith, g.grows, grows);
    more = g.more ++ stmt n (step.If x.1 a.code d.code) ∷ [];
    code = ap (λ c. c ++ stmt n (step.If x.1 a.code d.code) ∷ []) g.code ∙ append_assoc w.code g.more (stmt n (step.If x.1 a.code d.code) ∷ []);
    by = λ c f t u born k K sees h. begins_armed n i p w x g.more one other a d t u born first (g.counted c) f (λ j J more. g.by c (back f) t u born j J sees more) left right k K h;
  }

  -- a value is taken into the slot
  pub way_taken : (n i : ℕ) (e : Expr) (front from behind : Work) (p : Prep Wire) (y : Work × Expr) → (IsCounted N b.all front → IsCounted N b.all from) → (Fits N b.all behind → Fits N b.all y.0) → (IsCounted N b.all front → N ≤ i)
      → (IsCounted N b.all front → Fits N b.all behind → i < length b.all) → i < from.next → i < behind.next → Goes Wire p (inside from) y.0 (V y.1) → Way i e front behind (λ r. taken b.here n p) (arm n i y).code
  way_taken n i e front from behind p y counted back new stands less later g r t u c f sees ready k E h =
      g.by (counted c) (back f) t u [] (λ r1 s. taken b.here n (now r1) s k) (on_ends (S (stmt n (step.Assign (lval.Slot i) y.1) ∷ [])) E) sees
      (λ r1 t1 u1 sees1 near1 ready1. into_same n i y.0.next y.1 r1 t1 u1 [] k E ready1 sees1
      (λ v. h (kept v) t1 (slice_set u1 i v) (sees_new N b.all i v (new c) sees1) (near_then N b.all (near_fewer N b.all (omega (arith, less)) near1) (near_new N b.all i i u1 v (le_refl i)))
      (ready_kept behind.next i u1 v (new c) later (let fits : i < length b.all = stands c f in omega (arith, fits, sees1.rooms)))))
      ∙ sym (stmts_both g.more (stmt n (step.Assign (lval.Slot i) y.1) ∷ []) E (with u []))
      ∙ sym (ap (λ xs. S (xs ++ stmt n (step.Assign (lval.Slot i) y.1) ∷ []) (with u []) E) g.code)

  -- or what is tested lies there already
  pub way_now : (i : ℕ) (front behind : Work) → front.next ≤ behind.next → Way i (slot_value i) front behind (λ r. now r) []
  way_now i front behind grows r t u c f sees ready k E h = h r t u sees (near_refl N b.all i u) (ready_later N b.all grows (near_refl N b.all front.next u) ready)
