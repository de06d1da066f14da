-- What follows statements, on both sides.
use Rattle.std.proofs.Common.{◌≡◌, ℕ, ◌<◌, ◌≤◌, Bool, true, false, List, [], ◌∷◌, ◌++◌, length, Option, Some, None, slice_set, refl, ap, sym, subst, ◌∙◌, append_assoc}
use mathlib.Core.Path.{fun_ext}
use Rattle.mdr_core.specs.declared.code.Step.{Step}
use Rattle.mdr_core.specs.declared.code.Step.TheVariants as step
use Rattle.mdr_core.specs.declared.code.Stmt.{Stmt}
use Rattle.mdr_core.specs.declared.place.At.{At}
use Rattle.mdr_core.proofs.Coded.{block_is}
use Rattle.mdr_core.specs.Code.{Code as PlainCode}
use Rattle.mdr_core.specs.Folds.{codes_of}
use Rattle.mdr_core.specs.Layout.{chosen, zero_value}
use Rattle.mdr_core.specs.Typing.{Slot}
use Rattle.mdr_meaning.specs.declared.shape.Shape64.{Shape64}
use Rattle.mdr_meaning.specs.declared.wire.Wire.{Wire}
use Rattle.mdr_meaning.specs.Expressions.{slot_of}
use Rattle.mdr_meaning.specs.Lives.{births, births_by, deaths, ends, in_block, shape_of}
use Rattle.mdr_meaning.specs.Sides.{Flow, Ends, Breaks, Continues, Returns, Go, Locals, Next, in_here}
use Rattle.mdr_meaning.specs.Statements.{around, declared, declared_by, leaves, on_ends, turn as plain_turn}
use Rattle.mdr_meaning.specs.Tree.{Tree}
use Rattle.mdr_meaning.specs.Values.{first_of, wire_of}
use Rattle.mdr_lower.specs.Lowering.{blocked, inside, stmt}
use Rattle.mdr_lower.specs.declared.work.Work.{Work}
use Rattle.mdr_rich_sources.specs.Expressions.{without_bodies}
use Rattle.mdr_rich_sources.specs.Statements.{nothing_later, turn, at_tick}
use Rattle.mdr_rich_sources.specs.Waiting.{Ready, Prep}
use Rattle.mdr_rich_sources.proofs.Preparing.{Both, Goes, N, S, Ticks, one_stmt, rich_side, side, stmts_both, there}
use Rattle.mdr_rich_sources.proofs.Slots.{with, AreNext, Fits, IsCounted, Sees, answered, sees_source}

module _ (b : Both) where
  abbrev pub See : List Wire → List Wire → Type 0
  See t u = Sees (N b) b.all t u

  abbrev pub Nexts : Next → Next → Type 0
  Nexts k K = AreNext (N b) b.all k K

  -- two ways through statements
  pub record Same (g h : Go) : Type 0 where
    pub by : (t u born : List Wire) (k K : Next) → See t u → Nexts k K → g (with t born) k ≡ h (with u born) K

  -- and two that are alike where slot i of the lowered function holds v
  pub record SameWhere (i : ℕ) (v : Wire) (g h : Go) : Type 0 where
    pub by : (t u born : List Wire) (k K : Next) → See t u → slot_of u i ≡ v → Nexts k K → g (with t born) k ≡ h (with u born) K

  -- ---- births and deaths look at no bodies

  deaths_same : (ps : List Wire) (t : Tree) → deaths (without_bodies (rich_side b)) b.here ps t ≡ deaths (side b) (there b) ps t
  deaths_same [] t = refl
  deaths_same (p ∷ ps) t = refl

  pub births_same : (shapes : List Shape64) (k : List Wire → Tree) → births (without_bodies (rich_side b)) b.here shapes k ≡ births (side b) (there b) shapes k
  births_same [] k = refl
  births_same (s ∷ shapes) k = refl

  pub dead : (born : List Wire) (t u : Tree) → t ≡ u → deaths (without_bodies (rich_side b)) b.here born t ≡ deaths (side b) (there b) born u
  dead born t u e = deaths_same born t ∙ ap (deaths (side b) (there b) born) e

  -- ---- what comes next

  end_equal : (K : Next) (flow : Flow) (l : Locals) → on_ends (S b []) K flow l ≡ K flow l
  end_equal K Ends l = refl
  end_equal K Breaks l = refl
  end_equal K Continues l = refl
  end_equal K (Returns v) l = refl

  pub next_end : {k K : Next} → Nexts k K → Nexts k (on_ends (S b []) K)
  next_end {K = K} h = record { by = λ flow t u born sees. h.by flow t u born sees ∙ sym (end_equal K flow (with u born)) }

  pub next_leaves : {k K : Next} → Nexts k K → Nexts (on_ends leaves k) (on_ends (S b []) K)
  next_leaves {k = k} {K = K} h = record { by = at } where
    at : (flow : Flow) (t u born : List Wire) → See t u → on_ends leaves k flow (with t born) ≡ on_ends (S b []) K flow (with u born)
    at Ends t u born sees = h.by Ends t u born sees
    at Breaks t u born sees = h.by Breaks t u born sees
    at Continues t u born sees = h.by Continues t u born sees
    at (Returns v) t u born sees = h.by (Returns v) t u born sees

  pub next_ends : {k K : Next} (outer : List Wire) → Nexts k K → Nexts (ends (without_bodies (rich_side b)) b.here outer k) (ends (side b) (there b) outer K)
  next_ends {k = k} {K = K} outer h = record { by = at } where
    at : (flow : Flow) (t u born : List Wire) → See t u → ends (without_bodies (rich_side b)) b.here outer k flow (with t born) ≡ ends (side b) (there b) outer K flow (with u born)
    at Ends t u born sees = dead born _ _ (h.by Ends t u outer sees)
    at Breaks t u born sees = dead born _ _ (h.by Breaks t u outer sees)
    at Continues t u born sees = dead born _ _ (h.by Continues t u outer sees)
    at (Returns v) t u born sees = h.by (Returns v) t u (outer ++ born) sees

  -- a block in a block whose own list is at its end
  pub next_wrapped : (k E : Next) (outer : List Wire) → Nexts (ends (without_bodies (rich_side b)) b.here outer k) E → Nexts (ends (without_bodies (rich_side b)) b.here outer k) (ends (side b) (there b) [] (on_ends (S b []) E))
  next_wrapped k E outer h = record { by = at } where
    at : (flow : Flow) (t u born : List Wire) → See t u → ends (without_bodies (rich_side b)) b.here outer k flow (with t born) ≡ ends (side b) (there b) [] (on_ends (S b []) E) flow (with u born)
    at Ends t u born sees = dead born _ _ (h.by Ends t u [] sees)
    at Breaks t u born sees = dead born _ _ (h.by Breaks t u [] sees)
    at Continues t u born sees = dead born _ _ (h.by Continues t u [] sees)
    at (Returns v) t u born sees = h.by (Returns v) t u born sees

  pub next_on_ends : {g h : Go} {k K : Next} → Same g h → Nexts k K → Nexts (on_ends g k) (on_ends h K)
  next_on_ends {g = g} {h = h} {k = k} {K = K} same next = record { by = at } where
    at : (flow : Flow) (t u born : List Wire) → See t u → on_ends g k flow (with t born) ≡ on_ends h K flow (with u born)
    at Ends t u born sees = same.by t u born k K sees next
    at Breaks t u born sees = next.by Breaks t u born sees
    at Continues t u born sees = next.by Continues t u born sees
    at (Returns v) t u born sees = next.by (Returns v) t u born sees

  pub next_around : {again later step after : Go} {k K : Next} → Same again later → Same step after → Nexts k K → Nexts (around again step k) (around later after K)
  next_around {again = again} {later = later} {step = step} {after = after} {k = k} {K = K} turns steps next = record { by = at } where
    at : (flow : Flow) (t u born : List Wire) → See t u → around again step k flow (with t born) ≡ around later after K flow (with u born)
    at Ends t u born sees = steps.by t u born _ _ sees (next_on_ends turns next)
    at Breaks t u born sees = next.by Ends t u born sees
    at Continues t u born sees = steps.by t u born _ _ sees (next_on_ends turns next)
    at (Returns v) t u born sees = next.by (Returns v) t u born sees

  pub same_block : {g h : Go} → Same g h → Same (in_block (without_bodies (rich_side b)) b.here g) (in_block (side b) (there b) h)
  same_block same = record { by = λ t u born k K sees next. same.by t u [] _ _ sees (next_ends born next) }

  pub same_chosen : {g h g1 h1 : Go} → Same g h → Same g1 h1 → (c : Bool) → Same (chosen c g g1) (chosen c h h1)
  same_chosen x y true = x
  same_chosen x y false = y

  pub same_leaves : Same leaves leaves
  same_leaves = record { by = λ t u born k K sees next. next.by Ends t u born sees }

  pub same_turn : {again later step after body codes : Go} → Same again later → Same step after → Same body codes → Same (turn (rich_side b) b.rich_low b.here again step body) (plain_turn (side b) b.low (there b) later after codes)
  same_turn turns steps bodies = record { by = λ t u born k K sees next. bodies.by t u [] _ _ sees (next_ends born (next_around turns steps next)) }

  -- ---- lists of statements

  pub record Runs (g : Go) (w v : Work) : Type 0 where
    pub back : Fits (N b) b.all v → Fits (N b) b.all w
    pub counted : IsCounted (N b) b.all w → IsCounted (N b) b.all v
    pub more : List Stmt
    pub code : v.code ≡ w.code ++ more
    pub same : IsCounted (N b) b.all w → Fits (N b) b.all v → Same g (S b more)

  pub runs_end : (w : Work) → w.code ≡ w.code ++ [] → Runs leaves w w
  runs_end w e = record { back = λ f. f; counted = λ c. c; more = []; code = e; same = λ c f. same_leaves }

  pub runs_seq : (g h : Go) (w v x : Work) → Runs g w v → Runs h v x → Runs (λ l k. g l (on_ends h k)) w x
  runs_seq g h w v x r s = record {
    back = λ f. r.back (s.back f);
    counted = λ c. s.counted (r.counted c);
    more = r.more ++ s.more;
    code = s.code ∙ ap (λ c. c ++ s.more) r.code ∙ append_assoc w.code r.more s.more;
    same = λ c f. record {
      by = λ t u born k K sees next.
          (r.same c (s.back f)).by t u born (on_ends h k) (on_ends (S b s.more) K) sees (next_on_ends (s.same (r.counted c) f) next) ∙ sym (stmts_both b r.more s.more K (with u born));
    };
  }

  -- inside another statement
  pub inner_same : (g : Go) (w v : Work) → Runs g (inside w) v → IsCounted (N b) b.all w → Fits (N b) b.all v → Same g (S b v.code)
  inner_same g w v r c f = subst (λ xs. Same g (S b xs)) (sym r.code) (r.same c f)

  -- one statement, which nothing comes before
  pub runs_stmt : (n : ℕ) (s : Step) (g h : Go) (w z : Work) → z.code ≡ w.code ++ stmt n s ∷ [] → (Fits (N b) b.all z → Fits (N b) b.all w) → (IsCounted (N b) b.all w → IsCounted (N b) b.all z)
      → ((l : Locals) (K : Next) → S b (stmt n s ∷ []) l K ≡ h l (on_ends (S b []) K)) → (IsCounted (N b) b.all w → Fits (N b) b.all z → Same g h) → Runs g w z
  runs_stmt n s g h w z code back counted is same = record {
    back = back;
    counted = counted;
    more = stmt n s ∷ [];
    code = code;
    same = λ c f. record { by = λ t u born k K sees next. (same c f).by t u born k (on_ends (S b []) K) sees (next_end next) ∙ sym (is (with u born) K) };
  }

  -- and one behind what its expression takes
  pub runs_last : (A : Type 0) (p : Prep A) (w v : Work) (e : Ready A) → Goes b A p w v e → (n : ℕ) (s : Step) (go F : A → At → Go) (z : Work) → z.code ≡ v.code ++ stmt n s ∷ [] → (Fits (N b) b.all z → Fits (N b) b.all v)
      → (IsCounted (N b) b.all v → IsCounted (N b) b.all z) → ((u born : List Wire) (K : Next) → S b (stmt n s ∷ []) (with u born) K ≡ Ticks b n (e (in_here b.here n) u (λ x. F x (in_here b.here n) (with u born) (on_ends (S b []) K))))
      → (IsCounted (N b) b.all v → Fits (N b) b.all z → (x : A) → Same (go x (in_here b.here n)) (F x (in_here b.here n))) → Runs (at_tick (rich_side b) b.rich_low b.here n p go) w z
  runs_last A p w v e g n s go F z code back counted is same = record {
    back = λ f. g.back (back f);
    counted = λ c. counted (g.counted c);
    more = g.more ++ stmt n s ∷ [];
    code = code ∙ ap (λ c. c ++ stmt n s ∷ []) g.code ∙ append_assoc w.code g.more (stmt n s ∷ []);
    same = λ c f. record {
      by = λ t u born k K sees next.
          g.by c (back f) t u born _ (on_ends (S b (stmt n s ∷ [])) K) sees
          (λ r t1 u1 sees1 near1 ready1.
          ap (Ticks b n) (answered (N b) b.all ready1 (in_here b.here n) t1 sees1 _ _ (λ x. (same (g.counted c) f x).by t1 u1 born k (on_ends (S b []) K) sees1 (next_end next))) ∙ sym (is u1 born K))
          ∙ sym (stmts_both b g.more (stmt n s ∷ []) K (with u born));
    };
  }

  pub runs_block : (m : ℕ) (g : Go) (w v : Work) → Runs g (inside w) v → Runs (in_block (without_bodies (rich_side b)) b.here g) w (blocked m w v)
  runs_block m g w v r = runs_stmt m (step.Block v.code) (in_block (without_bodies (rich_side b)) b.here g) (in_block (side b) (there b) (S b v.code)) w (blocked m w v) refl r.back r.counted
      (λ l K. one_stmt b m (step.Block v.code) (PlainCode.Block (codes_of v.code)) (block_is m v.code) l K) (λ c f. same_block (inner_same g w v r c f))

  -- ---- declarations

  pub declared_same : (i : ℕ) → i < N b → N b ≤ length b.all → (o : Option Slot) → Same (declared (without_bodies (rich_side b)) nothing_later b.here i o) (declared (side b) b.low (there b) i o)
  declared_same i less fits None = record { by = λ t u born k K sees next. next.by Ends t u born sees }
  declared_same i less fits (Some s) = of s.object where
    of : (c : Bool) → Same (declared_by (without_bodies (rich_side b)) nothing_later b.here c i s) (declared_by (side b) b.low (there b) c i s)
    of true = record {
      by = λ t u born k K sees next.
          ap (births_by b.asks (in_here b.here 0) (shape_of b.known s ∷ [])) (fun_ext (λ ps. next.by Ends (slice_set t i (first_of ps)) (slice_set u i (first_of ps)) (born ++ (first_of ps ∷ [])) (sees_source (N b) b.all i (first_of ps) fits less sees)));
    }
    of false = record { by = λ t u born k K sees next. next.by Ends (slice_set t i (wire_of (zero_value s.ty))) (slice_set u i (wire_of (zero_value s.ty))) born (sees_source (N b) b.all i (wire_of (zero_value s.ty)) fits less sees) }
