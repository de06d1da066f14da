-- Clauses of a `switch`: each lowered one stands in the `else` of the one before it.
use Rattle.std.proofs.Common.{◌≡◌, ℕ, suc, ◌<◌, ◌≤◌, Bool, true, false, List, [], ◌∷◌, ◌++◌, length, pos, slice_set, refl, ap, sym, ◌∙◌, append_assoc, arith}
use Rattle.mdr_core.proofs.Coded.{block_is, rel_is}
use Rattle.mdr_core.specs.declared.code.Expr.{Expr}
use Rattle.mdr_core.specs.declared.code.Expr.TheVariants as expr
use Rattle.mdr_core.specs.declared.code.Lval.TheVariants as lval
use Rattle.mdr_core.specs.declared.code.RelOp.TheVariants.{Eq}
use Rattle.mdr_core.specs.declared.code.Step.TheVariants as step
use Rattle.mdr_core.specs.declared.code.Stmt.{Stmt}
use Rattle.mdr_core.specs.declared.kind.Kind.TheVariants.{S32}
use Rattle.mdr_core.specs.declared.types.Ty.{Ty}
use Rattle.mdr_core.specs.declared.value.Value.{Value}
use Rattle.mdr_core.specs.declared.value.Value.TheVariants as value
use Rattle.mdr_core.specs.Code.{Code as PlainCode, Term as PlainTerm}
use Rattle.mdr_core.specs.Folds.{codes_of, term_of}
use Rattle.mdr_core.specs.Layout.{chosen}
use Rattle.mdr_meaning.specs.declared.wire.Wire.{Wire}
use Rattle.mdr_meaning.specs.Expressions.{slot_of}
use Rattle.mdr_meaning.specs.Lives.{ends, in_block}
use Rattle.mdr_meaning.specs.Pointers.{related}
use Rattle.mdr_meaning.specs.Sides.{Go, Next, in_here}
use Rattle.mdr_meaning.specs.Statements.{on_ends}
use Rattle.mdr_meaning.specs.Values.{is_true, wire_of}
use Rattle.mdr_rich.specs.Code.{Clauses, Codes}
use Rattle.mdr_lower.specs.Lowering.{blocked, inside, is_label, is_labelled, kept as kept_low, or_label, outside, put, slot_value, stmt, with_slot}
use Rattle.mdr_lower.specs.declared.work.Work.{Work}
use Rattle.mdr_rich_sources.specs.Expressions.{without_bodies}
use Rattle.mdr_rich_sources.specs.Statements.{at_tick, stmts as rich_stmts, tries}
use Rattle.mdr_rich_sources.specs.Waiting.{Prep, Ready, either, equals, equals_one, kept, literal, or_equals, two}
use Rattle.mdr_rich_sources.proofs.Flows.{Nexts, Runs, See, inner_same, next_end, next_ends, next_wrapped}
use Rattle.mdr_rich_sources.proofs.Forms.{G, literal_valued, ready_as, ready_literal, ready_or, ready_two, valued_is}
use Rattle.mdr_rich_sources.proofs.Preparing.{Both, N, S, Ticks, V, if_step, into_step, one_stmt, ready_slot, rich_side, side, stmts_both, there}
use Rattle.mdr_rich_sources.proofs.Slots.{with, Fits, IsCounted, IsReady, answered, get_here, sees_new, slot_after, slot_back, slot_counted, slot_less}

module _ (b : Both) where
  -- ---- labels: slot i holds v

  module _ (d i : ℕ) (u : List Wire) (v : Wire) (new : N b ≤ i) (less : i < d) (holds : slot_of u i ≡ v) where
    abbrev Stands : Ready Wire → Expr → Type 0
    Stands r e = IsReady (N b) b.all Wire d u r (V b e)

    equals_ready : (c : Value) → Stands (equals b.known.program v c) (is_label i c)
    equals_ready c =
        ready_as b d u (equals b.known.program v c) (two (related b.known.program Eq) (V b (slot_value i)) (V b (expr.Lit c))) (V b (is_label i c))
        (sym (valued_is b (is_label i c) (PlainTerm.Rel Eq (term_of (slot_value i)) (term_of (expr.Lit c))) (rel_is Eq (slot_value i) (expr.Lit c))))
        (ready_two b (related b.known.program Eq) (V b (slot_value i)) (V b (expr.Lit c)) d u (kept v) (literal (wire_of c)) (ready_slot b d i u v new less holds)
        (ready_as b d u (literal (wire_of c)) (literal (wire_of c)) (V b (expr.Lit c)) (sym (literal_valued b c)) (ready_literal b (wire_of c) d u)))

    or_ready : (r : Ready Wire) (e : Expr) → Stands r e → (cs : List Value) → Stands (or_equals b.known.program v r cs) (or_label i e cs)
    or_ready r e ready [] = ready
    or_ready r e ready (c ∷ cs) = or_ready (either r (equals b.known.program v c)) (expr.Or e (is_label i c)) (ready_or b e (is_label i c) d u r (equals b.known.program v c) ready (equals_ready c)) cs

    pub labels_ready : (cs : List Value) → Stands (equals_one b.known.program v cs) (is_labelled i cs)
    labels_ready [] = ready_as b d u (literal (wire_of (value.Int S32 (pos 0)))) (literal (wire_of (value.Int S32 (pos 0)))) (V b (expr.Lit (value.Int S32 (pos 0)))) (sym (literal_valued b (value.Int S32 (pos 0)))) (ready_literal b (wire_of (value.Int S32 (pos 0))) d u)
    labels_ready (c ∷ cs) = or_ready (equals b.known.program v c) (is_label i c) (equals_ready c) cs

  -- ---- clauses, each of them one statement behind w: what comes next sees them as a block

  abbrev RS : Codes → Go
  RS cs = rich_stmts (rich_side b) b.rich_low b.here cs

  abbrev pub Tries : ℕ → Wire → Clauses → Go
  Tries n v cs = tries (rich_side b) b.rich_low b.here n v cs

  abbrev RichEnds : List Wire → Next → Next
  RichEnds born k = ends (without_bodies (rich_side b)) b.here born k

  abbrev PlainEnds : List Wire → Next → Next
  PlainEnds born K = ends (side b) (there b) born K

  pub record Tried (n i : ℕ) (cs : Clauses) (w z : Work) : Type 0 where
    pub back : Fits (N b) b.all z → Fits (N b) b.all w
    pub counted : IsCounted (N b) b.all w → IsCounted (N b) b.all z
    pub more : List Stmt
    pub code : z.code ≡ w.code ++ more
    pub same : IsCounted (N b) b.all w → Fits (N b) b.all z → N b ≤ i → (v : Wire) (t u born outer : List Wire) (k K : Next) → See b t u → slot_of u i ≡ v → Nexts b (RichEnds born k) (PlainEnds outer (on_ends (S b []) K))
        → Tries n v cs (with t born) k ≡ S b more (with u outer) K

  pub tried_default : (n i : ℕ) (body : Codes) (w a : Work) → Runs b (RS body) (inside w) a → Tried n i (Clauses.Default body) w (blocked 0 w a)
  tried_default n i body w a r = record {
    back = r.back;
    counted = r.counted;
    more = stmt 0 (step.Block a.code) ∷ [];
    code = refl;
    same = λ c f new v t u born outer k K sees holds next.
        (inner_same b (RS body) w a r c f).by t u [] _ _ sees next ∙ sym (one_stmt b 0 (step.Block a.code) (PlainCode.Block (codes_of a.code)) (block_is 0 a.code) (with u outer) K);
  }

  pub tried_clause : (n i : ℕ) (labels : List Value) (body : Codes) (rest : Clauses) (w a d : Work) → Runs b (RS body) (inside w) a → Tried n i rest (inside a) d
      → Tried n i (Clauses.Clause labels body rest) w (put n (step.If (is_labelled i labels) a.code d.code) (outside w d))
  tried_clause n i labels body rest w a d r q = record {
    back = λ f. r.back (q.back f);
    counted = λ c. q.counted (r.counted c);
    more = stmt n (step.If (is_labelled i labels) a.code d.code) ∷ [];
    code = refl;
    same = λ c f new v t u born outer k K sees holds next.
        ap (Ticks b n) (answered (N b) b.all (labels_ready (suc i) i u v new (omega arith) holds labels) (in_here b.here n) t sees _ _ (λ y. ways c f new v t u born k (PlainEnds outer (on_ends (S b []) K)) sees holds next (is_true y)))
        ∙ sym (if_step b n (is_labelled i labels) a.code d.code (with u outer) K);
  } where
    ways : IsCounted (N b) b.all w → Fits (N b) b.all d → N b ≤ i → (v : Wire) (t u born : List Wire) (k E : Next) → See b t u → slot_of u i ≡ v → Nexts b (RichEnds born k) E → (y : Bool)
        → chosen y (in_block (without_bodies (rich_side b)) b.here (RS body)) (Tries n v rest) (with t born) k ≡ chosen y (S b a.code) (S b d.code) (with u []) E
    ways c f new v t u born k E sees holds next true = (inner_same b (RS body) w a r c (q.back f)).by t u [] _ E sees next
    ways c f new v t u born k E sees holds next false = q.same (r.counted c) f new v t u born [] k E sees holds (next_wrapped b k E born next) ∙ sym (ap (λ m. S b m (with u []) E) q.code)

  -- the value is kept in front of them
  pub switch_runs : (n : ℕ) (p : Prep Wire) (t : Ty) (cs : Clauses) (w : Work) (x : Work × Expr) (z : Work) → G b p w x → Tried n x.0.next cs (kept_low n t x).0 z → Runs b (at_tick (rich_side b) b.rich_low b.here n p (λ v at. Tries n v cs)) w z
  switch_runs n p ty cs w x z g q =
      let i : ℕ = x.0.next in
      let keeps : List Stmt = stmt n (step.Assign (lval.Slot i) x.1) ∷ [] in
      record {
        back = λ f. g.back (slot_back (N b) b.all ty x.0 (q.back f));
        counted = λ c. q.counted (slot_counted (N b) b.all ty x.0 (g.counted c));
        more = g.more ++ (keeps ++ q.more);
        code = q.code ∙ ap (λ c. (c ++ keeps) ++ q.more) g.code ∙ append_assoc (w.code ++ g.more) keeps q.more ∙ append_assoc w.code g.more (keeps ++ q.more);
        same = λ c f. record {
          by = λ t u born k K sees next.
              let fits : Fits (N b) b.all (with_slot ty x.0) = q.back f in
              let new : N b ≤ i = slot_after (N b) b.all x.0 (g.counted c) in
              let less : i < length b.all = slot_less (N b) b.all ty x.0 (g.counted c) fits in
              g.by c (slot_back (N b) b.all ty x.0 fits) t u born _ (on_ends (S b (keeps ++ q.more)) K) sees
              (λ r t1 u1 sees1 near1 ready1.
              ap (Ticks b n) (answered (N b) b.all ready1 (in_here b.here n) t1 sees1 _ _
              (λ v. q.same (slot_counted (N b) b.all ty x.0 (g.counted c)) f new v t1 (slice_set u1 i v) born born k K (sees_new (N b) b.all i v new sees1) (get_here u1 i v (omega (arith, less, sees1.rooms))) (next_ends b born (next_end b next))))
              ∙ sym (into_step b n i x.1 u1 born (on_ends (S b q.more) K))
              ∙ sym (stmts_both b keeps q.more K (with u1 born)))
              ∙ sym (stmts_both b g.more (keeps ++ q.more) K (with u born));
        };
      }
