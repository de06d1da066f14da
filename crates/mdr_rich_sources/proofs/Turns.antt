-- Turns of loops: of one whose test stands in its body, and of a `do`, whose flag lies in a new slot.
use Rattle.std.proofs.Common.{◌≡◌, ℕ, ◌<◌, ◌≤◌, Bool, true, false, List, [], ◌∷◌, ◌++◌, length, map, pos, Option, slice_set, refl, ap, sym, ◌∙◌, arith}
use mathlib.Core.Path.{fun_ext}
use Rattle.mdr_core.proofs.Coded.{block_is, break_is, for_is}
use Rattle.mdr_core.specs.declared.code.Expr.{Expr}
use Rattle.mdr_core.specs.declared.code.Expr.TheVariants as expr
use Rattle.mdr_core.specs.declared.code.Lval.TheVariants as lval
use Rattle.mdr_core.specs.declared.code.Step.TheVariants as step
use Rattle.mdr_core.specs.declared.code.Stmt.{Stmt}
use Rattle.mdr_core.specs.declared.kind.Kind.TheVariants.{S32}
use Rattle.mdr_core.specs.declared.types.Ty.TheVariants as type
use Rattle.mdr_core.specs.declared.value.Value.{Value}
use Rattle.mdr_core.specs.declared.value.Value.TheVariants as value
use Rattle.mdr_core.specs.Code.{Way, Code as PlainCode, Codes as PlainCodes}
use Rattle.mdr_core.specs.Folds.{before, code_of, codes_of, test_of}
use Rattle.mdr_core.specs.Layout.{chosen}
use Rattle.mdr_meaning.specs.declared.wire.Wire.{Wire}
use Rattle.mdr_meaning.specs.Expressions.{slot_of}
use Rattle.mdr_meaning.specs.Lives.{ends, in_block}
use Rattle.mdr_meaning.specs.Sides.{Flow, Ends, Breaks, Continues, Returns, Go, Locals, Next, in_here}
use Rattle.mdr_meaning.specs.Statements.{around, leaves, on_ends, stmt as plain_stmt, stmts as plain_stmts, turn as plain_turn}
use Rattle.mdr_meaning.specs.Values.{is_true, wire_of}
use Rattle.mdr_rich.specs.Activity.{is_active}
use Rattle.mdr_rich.specs.Code.{Term}
use Rattle.mdr_lower.specs.Lowering.{blocked, counted, disjoined as disjoined_low, flagged, inside, low, slot_value, stmt, tested, with_slot}
use Rattle.mdr_lower.specs.declared.work.Work.{Work}
use Rattle.mdr_rich_sources.specs.Expressions.{prep, without_bodies}
use Rattle.mdr_rich_sources.specs.Statements.{at_tick, do_test, flag, loops, pauses, turn}
use Rattle.mdr_rich_sources.specs.Waiting.{Prep, Ready, disjoined, either, joined, literal, now, tick}
use Rattle.mdr_rich_sources.proofs.Flows.{Nexts, Runs, Same, SameWhere, See, inner_same, next_end, next_ends, next_wrapped, runs_stmt, same_block, same_chosen, same_leaves}
use Rattle.mdr_rich_sources.proofs.Forms.{G, begins_disjoined, disjoined_counted, literal_valued, ready_or}
use Rattle.mdr_rich_sources.proofs.Preparing.{Begins, Both, N, S, Ticks, V, if_step, into_step, one_stmt, ready_slot, rich_side, side, stmts_both, there}
use Rattle.mdr_rich_sources.proofs.Quiet.{inactive_same, nothing_more}
use Rattle.mdr_rich_sources.proofs.Slots.{with, Fits, IsCounted, IsReady, answered, get_here, sees_new, slot_after, slot_back, slot_counted, slot_less}

-- what the flag of a `do` holds, and the step of its loop
abbrev pub flag_wire : (first : Bool) → Wire
flag_wire first = wire_of (flag first)

abbrev pub zero_step : (number i : ℕ) → List Stmt
zero_step n i = stmt n (step.Assign (lval.Slot i) (expr.Lit (value.Int S32 (pos 0)))) ∷ []

module _ (b : Both) where
  abbrev pub Prepared : ℕ → Term → Prep Wire
  Prepared n e = prep (rich_side b) b.rich_low b.here n e

  abbrev pub P1 : PlainCode → Go
  P1 c = plain_stmt (side b) b.low (there b) c

  abbrev pub PS : PlainCodes → Go
  PS cs = plain_stmts (side b) b.low (there b) cs

  abbrev pub Turn : (again pass body : Go) → Go
  Turn again pass body = turn (rich_side b) b.rich_low b.here again pass body

  abbrev pub PlainTurn : (again pass body : Go) → Go
  PlainTurn again pass body = plain_turn (side b) b.low (there b) again pass body

  -- a loop's test, and its turn
  abbrev pub Looped : ℕ → Term → Go → Go
  Looped n e go = loops (rich_side b) b.rich_low b.here n e go

  abbrev pub Pauses : ℕ → Go
  Pauses n = pauses (rich_side b) b.rich_low b.here n

  -- what follows a loop's body is alike
  abbrev pub Arounds : (again pass later after : Go) → Type 0
  Arounds again pass later after = (k K : Next) → Nexts b k K → Nexts b (around again pass k) (around later after K)

  pub turned : (again pass later after body codes : Go) → Arounds again pass later after → Same b body codes → Same b (Turn again pass body) (PlainTurn later after codes)
  turned again pass later after body codes arounds bodies = record { by = λ t u born k K sees next. bodies.by t u [] _ _ sees (next_ends b born (arounds k K next)) }

  -- ---- a test in a loop's body

  abbrev breaking : ℕ → List Stmt
  breaking n = stmt n step.Break ∷ []

  -- a turn, or the loop's end
  turn_or_end : (n : ℕ) (again later pass after body : Go) (codes : List Stmt) → Arounds again pass later after → Same b body (S b codes) → (t u born : List Wire) (k K : Next) → See b t u → Nexts b k K → (c : Bool)
      → chosen c (Turn again pass body) (Pauses n) (with t born) k
      ≡ in_block (side b) (there b) (chosen c (S b []) (S b (breaking n))) (with u []) (on_ends (S b []) (on_ends (S b (stmt 0 (step.Block codes) ∷ [])) (ends (side b) (there b) born (around later after K))))
  turn_or_end n again later pass after body codes arounds bodies t u born k K sees next true =
      let E : Next = ends (side b) (there b) born (around later after K) in
      bodies.by t u [] _ _ sees (next_wrapped b (around again pass k) E born (next_ends b born (arounds k K next))) ∙ sym (one_stmt b 0 (step.Block codes) (PlainCode.Block (codes_of codes)) (block_is 0 codes) (with u []) E)
  turn_or_end n again later pass after body codes arounds bodies t u born k K sees next false =
      let E : Next = ends (side b) (there b) born (around later after K) in
      ap (Ticks b n) (next.by Ends t u born sees) ∙ sym (one_stmt b n step.Break (PlainCode.Jump n Way.Breaks) (break_is n) (with u []) (ends (side b) (there b) [] (on_ends (S b []) (on_ends (S b (stmt 0 (step.Block codes) ∷ [])) E))))

  -- the test, and then either
  pub tested_turn : (n : ℕ) (p : Prep Wire) (a : Work) (x : Work × Expr) (code : List Stmt) → x.0.code ≡ code → (t u born : List Wire) → Begins b Wire p a x.0 (V b x.1) code t u [] → (body : Go) (z : Work) → Same b body (S b z.code)
      → (again later pass after : Go) → Arounds again pass later after → (k K : Next) → Nexts b k K
      → p t (λ r s. tick b.here n (λ at. r at s (λ y. chosen (is_true y) (Turn again pass body) (Pauses n) (with s born) k))) ≡ S b (blocked 0 (tested n x) z).code (with u []) (ends (side b) (there b) born (around later after K))
  tested_turn n p a x code is t u born begins body z bodies again later pass after arounds k K next =
      let test : List Stmt = stmt n (step.If x.1 [] (breaking n)) ∷ [] in
      let block : List Stmt = stmt 0 (step.Block z.code) ∷ [] in
      let E : Next = ends (side b) (there b) born (around later after K) in
      begins _ (on_ends (S b test) (on_ends (S b block) E))
      (λ r t1 u1 sees1 near1 ready1.
      ap (Ticks b n) (answered (N b) b.all ready1 (in_here b.here n) t1 sees1 _ _ (λ y. turn_or_end n again later pass after body z.code arounds bodies t1 u1 born k K sees1 next (is_true y)))
      ∙ sym (if_step b n x.1 [] (breaking n) (with u1 []) (on_ends (S b block) E)))
      ∙ sym (stmts_both b code test (on_ends (S b block) E) (with u []))
      ∙ sym (stmts_both b (code ++ test) block E (with u []))
      ∙ sym (ap (λ m. S b ((m ++ test) ++ block) (with u []) E) is)

  -- ---- `do`: its flag is 1 in front of the first turn, and 0 behind each

  ready_flag : (first : Bool) (d i : ℕ) (u : List Wire) → N b ≤ i → i < d → slot_of u i ≡ flag_wire first → IsReady (N b) b.all Wire d u (literal (flag_wire first)) (V b (slot_value i))
  ready_flag true d i u new less holds = ready_slot b d i u (flag_wire true) new less holds
  ready_flag false d i u new less holds = ready_slot b d i u (flag_wire false) new less holds

  flag_step : (n i : ℕ) (v : Value) (u born : List Wire) (K : Next) → S b (stmt n (step.Assign (lval.Slot i) (expr.Lit v)) ∷ []) (with u born) K ≡ Ticks b n (K Ends (with (slice_set u i (wire_of v)) born))
  flag_step n i v u born K = into_step b n i (expr.Lit v) u born K ∙ ap (λ (f : Ready Wire). Ticks b n (f (in_here b.here n) u (λ x. K Ends (with (slice_set u i x) born)))) (literal_valued b v)

  pub do_around : (n i : ℕ) → N b ≤ i → i < length b.all → (again later : Go) → SameWhere b i (flag_wire false) again later → Arounds again (Pauses n) later (S b (zero_step n i))
  do_around n i new less again later same k K next = record { by = at } where
    passes : (t u born : List Wire) → See b t u → Pauses n (with t born) (on_ends again k) ≡ S b (zero_step n i) (with u born) (on_ends later K)
    passes t u born sees =
        ap (Ticks b n) (same.by t (slice_set u i (flag_wire false)) born k K (sees_new (N b) b.all i (flag_wire false) new sees) (get_here u i (flag_wire false) (omega (arith, less, sees.rooms))) next)
        ∙ sym (flag_step n i (value.Int S32 (pos 0)) u born (on_ends later K))

    at : (flow : Flow) (t u born : List Wire) → See b t u → around again (Pauses n) k flow (with t born) ≡ around later (S b (zero_step n i)) K flow (with u born)
    at Ends t u born sees = passes t u born sees
    at Breaks t u born sees = next.by Ends t u born sees
    at Continues t u born sees = passes t u born sees
    at (Returns v) t u born sees = next.by (Returns v) t u born sees

  module _ (first : Bool) (n i : ℕ) (e : Term) (goes : (w : Work) → G b (Prepared n e) w (low n e w)) (new : N b ≤ i) where
    abbrev stands : Ready Wire
    stands = literal (flag_wire first)

    -- the test, where the form is active and where it isn't
    abbrev prepared : Bool → Prep Wire
    prepared c = chosen c (disjoined b.here n (now stands) (Prepared n e)) (joined either (now stands) (Prepared n e))

    abbrev looped : Bool → Go → Go
    looped c go = chosen c (λ l k. Ticks b n (at_tick (rich_side b) b.rich_low b.here n (prepared c) (λ y at. chosen (is_true y) go (Pauses n)) l k)) (at_tick (rich_side b) b.rich_low b.here n (prepared c) (λ y at. chosen (is_true y) go leaves))

    pub quiet_do : is_active e ≡ false → (v : Work) → IsCounted (N b) b.all v → Fits (N b) b.all (low n e v).0 → i < v.next → (go plain : Go) → Same b go plain
        → SameWhere b i (flag_wire first) (Looped n (do_test first e) go) (λ l k. Ticks b n (V b (expr.Or (slot_value i) (low n e v).1) (in_here b.here n) l.slots (λ y. chosen (is_true y) plain leaves l k)))
    quiet_do quiet v c f less go plain same =
        let x : Work × Expr = low n e v in
        let g : G b (Prepared n e) v x = goes v in
        record {
          by = λ t u born k K sees holds next.
              let E : Next = λ flow l. Ticks b n (V b (expr.Or (slot_value i) x.1) (in_here b.here n) l.slots (λ y. chosen (is_true y) plain leaves l K)) in
              ap (λ d. looped d go (with t born) k) quiet
              ∙ g.by c f t u born _ E sees
              (λ r t1 u1 sees1 near1 ready1.
              ap (Ticks b n) (answered (N b) b.all (ready_or b (slot_value i) x.1 x.0.next u1 stands r (ready_flag first x.0.next i u1 new (omega (arith, less, g.grows)) (sym (near1.by i new less) ∙ holds)) ready1) (in_here b.here n) t1 sees1 _ _
              (λ y. (same_chosen b same (same_leaves b) (is_true y)).by t1 u1 born k K sees1 next)))
              ∙ ap (λ m. S b m (with u born) E) (nothing_more v.code g.more (sym (ap (λ (w : Work). w.code) (inactive_same n e quiet v)) ∙ g.code));
        }

    pub tested_do : is_active e ≡ true → (a : Work) → IsCounted (N b) b.all a → i < a.next → (body : Go) (z : Work) → Runs b body (inside (tested n (disjoined_low n (inside a, slot_value i) (low n e)))) z → Fits (N b) b.all z
        → (again later after : Go) → Arounds again (Pauses n) later after
        → SameWhere b i (flag_wire first) (Looped n (do_test first e) (Turn again (Pauses n) body)) (λ l k. Ticks b n (PlainTurn later after (S b (blocked 0 (tested n (disjoined_low n (inside a, slot_value i) (low n e))) z).code) l k))
    tested_do active a c less body z r f again later after arounds =
        let x : Work × Expr = disjoined_low n (inside a, slot_value i) (low n e) in
        record {
          by = λ t u born k K sees holds next.
              ap (λ d. looped d (Turn again (Pauses n) body) (with t born) k) active
              ∙ ap (Ticks b n) (tested_turn n (prepared true) (inside a) x x.0.code refl t u born
              (begins_disjoined b n (Prepared n e) (inside a, slot_value i) (low n e) goes stands t u [] c (r.back f) sees (ready_flag first a.next i u new less holds))
              body z (inner_same b body (tested n x) z r (disjoined_counted b n (Prepared n e) (inside a, slot_value i) (low n e) goes c) f) again later (Pauses n) after arounds k K next);
        }

  -- ---- where it begins

  plain_rest : (cs ds : PlainCodes) (L : PlainCode) (k : Next) → ((l : Locals) → PS cs l k ≡ PS ds l (on_ends (PS (PlainCodes.Then L PlainCodes.End)) k)) → (flow : Flow) (l : Locals) → on_ends (PS cs) k flow l ≡ on_ends (PS ds) (on_ends (PS (PlainCodes.Then L PlainCodes.End)) k) flow l
  plain_rest cs ds L k h Ends l = h l
  plain_rest cs ds L k h Breaks l = refl
  plain_rest cs ds L k h Continues l = refl
  plain_rest cs ds L k h (Returns v) l = refl

  pub plain_front : (ss : List Stmt) (L : PlainCode) (k : Next) (l : Locals) → PS (before (map code_of ss) L) l k ≡ S b ss l (on_ends (PS (PlainCodes.Then L PlainCodes.End)) k)
  plain_front [] L k l = refl
  plain_front (s ∷ ss) L k l = ap (P1 (code_of s) l) (fun_ext (λ flow. fun_ext (plain_rest (before (map code_of ss) L) (codes_of ss) L k (plain_front ss L k) flow)))

  pub do_begins : (n : ℕ) (g : Go) (w d z : Work) (e : Option Expr) → (Fits (N b) b.all z → Fits (N b) b.all (with_slot (type.Int S32) w)) → (IsCounted (N b) b.all (with_slot (type.Int S32) w) → IsCounted (N b) b.all z)
      → (IsCounted (N b) b.all (with_slot (type.Int S32) w) → N b ≤ w.next → w.next < length b.all → Fits (N b) b.all z → SameWhere b w.next (flag_wire true) g (P1 (PlainCode.Loop n (test_of e) (codes_of d.code) (codes_of z.code))))
      → Runs b (in_block (without_bodies (rich_side b)) b.here (λ l k. Ticks b n (g l k))) w (counted n (with_slot (type.Int S32) w) (flagged n w.next (pos 1) (inside (with_slot (type.Int S32) w))) e d z)
  do_begins n g w d z e back counts same =
      let i : ℕ = w.next in
      let M : PlainCode = PlainCode.Loop n (test_of e) (codes_of d.code) (codes_of z.code) in
      let front : List Stmt = stmt n (step.Assign (lval.Slot i) (expr.Lit (value.Int S32 (pos 1)))) ∷ [] in
      runs_stmt b n (step.For front e d.code z.code) (in_block (without_bodies (rich_side b)) b.here (λ l k. Ticks b n (g l k))) (in_block (side b) (there b) (PS (before (map code_of front) M))) w
      (counted n (with_slot (type.Int S32) w) (flagged n i (pos 1) (inside (with_slot (type.Int S32) w))) e d z) refl (λ f. slot_back (N b) b.all (type.Int S32) w (back f)) (λ c. counts (slot_counted (N b) b.all (type.Int S32) w c))
      (λ l K. one_stmt b n (step.For front e d.code z.code) (PlainCode.Block (before (map code_of front) M)) (for_is n front e d.code z.code) l K)
      (λ c f.
      let new : N b ≤ i = slot_after (N b) b.all w c in
      let less : i < length b.all = slot_less (N b) b.all (type.Int S32) w c (back f) in
      same_block b {g = λ l k. Ticks b n (g l k)} {h = PS (before (map code_of front) M)} (record {
        by = λ t u born k K sees next.
            ap (Ticks b n) ((same (slot_counted (N b) b.all (type.Int S32) w c) new less f).by t (slice_set u i (flag_wire true)) born k (on_ends (S b []) K) (sees_new (N b) b.all i (flag_wire true) new sees) (get_here u i (flag_wire true) (omega (arith, less, sees.rooms))) (next_end b next))
            ∙ sym (flag_step n i (value.Int S32 (pos 1)) u born (on_ends (PS (PlainCodes.Then M PlainCodes.End)) K))
            ∙ sym (plain_front front M K (with u born));
      }))
