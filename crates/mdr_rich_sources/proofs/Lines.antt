-- Every statement of a source's body that has its types does what its lowered statements do.
use Rattle.std.proofs.Common.{◌≡◌, ℕ, ◌<◌, ◌≤◌, Bool, true, false, List, [], ◌∷◌, ◌++◌, length, map, pos, Option, Some, None, slice_get, refl, ap, sym, subst, ◌∙◌, append-nil, append_assoc, arith}
use mathlib.Core.Path.{fun_ext}
use Rattle.std.specs.Option.{option_map}
use Rattle.mdr_core.proofs.Coded.{break_is, call_is, continue_is, declare_is, empty_is, for_is, lit_is, numbered, return_call_is, return_is, text_is, while_is}
use Rattle.mdr_core.specs.declared.code.CallForm.{CallForm}
use Rattle.mdr_core.specs.declared.code.Expr.{Expr}
use Rattle.mdr_core.specs.declared.code.Expr.TheVariants as expr
use Rattle.mdr_core.specs.declared.code.Lval.{Lval}
use Rattle.mdr_core.specs.declared.code.Step.{Step}
use Rattle.mdr_core.specs.declared.code.Step.TheVariants as step
use Rattle.mdr_core.specs.declared.code.Stmt.{Stmt}
use Rattle.mdr_core.specs.declared.kind.Kind.{Kind}
use Rattle.mdr_core.specs.declared.kind.Kind.TheVariants.{S32}
use Rattle.mdr_core.specs.declared.place.At.{At}
use Rattle.mdr_core.specs.declared.program.Program.{Program}
use Rattle.mdr_core.specs.declared.types.Ty.{Ty}
use Rattle.mdr_core.specs.declared.types.Ty.TheVariants as type
use Rattle.mdr_core.specs.declared.value.Value.TheVariants as value
use Rattle.mdr_core.specs.Code.{Way, Goal, Term as PlainTerm, Code as PlainCode, Codes as PlainCodes}
use Rattle.mdr_core.specs.Folds.{before, call_of, called_of, code_of, codes_of, lvalue_of, term_of, test_of}
use Rattle.mdr_core.specs.Layout.{chosen}
use Rattle.mdr_core.specs.Typing.{Slot, One, int}
use Rattle.mdr_meaning.specs.declared.wire.Wire.{Wire}
use Rattle.mdr_meaning.specs.declared.wire.Wire.TheVariants as wire
use Rattle.mdr_meaning.specs.Calls.{keep, put as put_at, received}
use Rattle.mdr_meaning.specs.Expressions.{given, slot_of}
use Rattle.mdr_meaning.specs.Lives.{in_block}
use Rattle.mdr_meaning.specs.Named.{named_type}
use Rattle.mdr_meaning.specs.Sides.{Flow, Ends, Breaks, Continues, Returns, Go, Locals, Next, flow_of, in_here}
use Rattle.mdr_meaning.specs.Statements.{characters, declared, leaves, on_ends, texts}
use Rattle.mdr_meaning.specs.Values.{is_true}
use Rattle.mdr_rich.proofs.Coded.{numbered as rich_numbered}
use Rattle.mdr_rich.specs.declared.code.CallForm.{CallForm as RichCallForm}
use Rattle.mdr_rich.specs.declared.code.Expr.{Expr as RichExpr}
use Rattle.mdr_rich.specs.declared.code.Lval.{Lval as RichLval}
use Rattle.mdr_rich.specs.declared.code.Step.{Step as RichStep, roll-Step}
use Rattle.mdr_rich.specs.declared.code.Clause.{Clause as RichClause, roll-Clause}
use Rattle.mdr_rich.specs.declared.code.Step.TheFolds.{ind-Stmt, map-Step, fold-roll-Step, fold-roll-Clause, fold_out-Stmt}
use Rattle.mdr_rich.specs.declared.code.Step.TheOpen.{Step-F}
use Rattle.mdr_rich.specs.declared.code.Stmt.{Stmt as RichStmt}
use Rattle.mdr_rich.specs.Activity.{are_active, is_active, is_active_place}
use Rattle.mdr_rich.specs.Carried.{type_at, type_of}
use Rattle.mdr_rich.specs.Code.{Lvalue, Term, Terms, Code, Codes, Clauses, Goal as RichGoal, term_list}
use Rattle.mdr_rich.specs.Folds.{Labelled, before as rich_before, call_of as rich_call_of, called_of as rich_called_of, clause_layer as rich_clause_layer, clause_of as rich_clause_of, clauses_of as rich_clauses_of, code_list as rich_code_list, code_of as rich_code_of, codes_of as rich_codes_of, goal_of as rich_goal_of, lvalue_of as rich_lvalue_of, step_layer as rich_step_layer, stmt_layer as rich_stmt_layer, term_of as rich_term_of, test_of as rich_test_of}
use Rattle.mdr_rich.specs.Typing.{AreClauses, AreTyped, CallGives, Designates, GoesTo, Has, IsTyped, NamesHandler, Returns as ReturnsTyped}
use Rattle.mdr_lower.proofs.Carried.{type_at_is}
use Rattle.mdr_lower.specs.Lowering.{Branch, always, assigned, blocked, call_lowered, call_made, clause_layer, clause_lowered, counted, counted_by, disjoined, do_lowered, done, expr_lowered, flagged, for_lowered, inside, is_labelled, keeps, kept, low, low_place, mapped, outside, part, perhaps_lowered, put, repeated, run, slot_value, step_layer, step_lowered, stmt, stmt_layer, stmt_lowered, tested, tried, turn, two, while_lowered, with_slot, within}
use Rattle.mdr_lower.specs.declared.work.Work.{Work}
use Rattle.mdr_rich_sources.specs.Expressions.{Arguments, calls, is_taken, prep_place, without_bodies}
use Rattle.mdr_rich_sources.specs.Statements.{at_tick, do_again, do_test, prep_call, stmt as rich_stmt, stmts as rich_stmts, tests}
use Rattle.mdr_rich_sources.proofs.Bounds.{names_called, names_in, names_place}
use Rattle.mdr_rich_sources.proofs.Flows.{Runs, Same, SameWhere, declared_same, inner_same, next_around, next_leaves, next_on_ends, runs_block, runs_end, runs_last, runs_seq, runs_stmt, same_block, same_chosen, same_leaves, same_turn}
use Rattle.mdr_rich_sources.proofs.Forms.{CallsSame, G, GP, asked, call_goes, call_split, calls_as, disjoined_back, disjoined_counted, form_goes, goes_part, place_goes, plain_calls, stores_same}
use Rattle.mdr_rich_sources.proofs.Named.{Framed, KnowsTypes, named_is}
use Rattle.mdr_rich_sources.proofs.Preparing.{Both, Goes, N, S, Ticks, V, assign_step, if_step, one_stmt, rich_side, side, stmts_both, there}
use Rattle.mdr_rich_sources.proofs.Quiet.{inactive_same, nothing_more}
use Rattle.mdr_rich_sources.proofs.Switches.{Tried, switch_runs, tried_clause, tried_default}
use Rattle.mdr_rich_sources.proofs.Turns.{Looped, P1, PS, Pauses, PlainTurn, Prepared, Turn, do_around, do_begins, flag_wire, plain_front, quiet_do, tested_do, tested_turn, turned, zero_step}
use Rattle.mdr_rich_sources.proofs.Slots.{with, Fits, IsCounted, answered, get_less, ready_later}

-- a loop and its lowered one, whose later turns are alike
pub data IsLoop (b : Both) (program : Program) (result : Ty) : Code → PlainCode → Type 0 where
  Plain : (n : ℕ) (e : Term) (xs ys : List RichStmt) (in_loop : Bool) (v : Work) → IsTyped program b.here.slots result in_loop (Code.Loop n e (rich_codes_of xs) (rich_codes_of ys)) → is_active e ≡ false → IsCounted (N b) b.all v
      → Fits (N b) b.all (within (within (low n e v).0 (map stmt_lowered xs)) (map stmt_lowered ys))
      → IsLoop b program result (Code.Loop n e (rich_codes_of xs) (rich_codes_of ys)) (PlainCode.Loop n (term_of (low n e v).1) (codes_of (within (low n e v).0 (map stmt_lowered xs)).code) (codes_of (within (within (low n e v).0 (map stmt_lowered xs)) (map stmt_lowered ys)).code))
  Tested : (n : ℕ) (e : Term) (xs ys : List RichStmt) (in_loop : Bool) (v : Work) → IsTyped program b.here.slots result in_loop (Code.Loop n e (rich_codes_of xs) (rich_codes_of ys)) → is_active e ≡ true → IsCounted (N b) b.all v
      → Fits (N b) b.all (turn n (low n e (inside (within v (map stmt_lowered xs)))) (map stmt_lowered ys))
      → IsLoop b program result (Code.Loop n e (rich_codes_of xs) (rich_codes_of ys))
      (PlainCode.Loop n (PlainTerm.Lit (value.Int S32 (pos 1))) (codes_of (within v (map stmt_lowered xs)).code) (codes_of (turn n (low n e (inside (within v (map stmt_lowered xs)))) (map stmt_lowered ys)).code))

-- later turns of a `do`, whose flag lies in slot i
pub data IsAgain (b : Both) (program : Program) (result : Ty) (i : ℕ) : Code → PlainCode → Type 0 where
  Quiet : (n : ℕ) (e : Term) (ys : List RichStmt) (in_loop : Bool) (v : Work) → IsTyped program b.here.slots result in_loop (Code.Do n (rich_codes_of ys) e) → is_active e ≡ false → IsCounted (N b) b.all v → N b ≤ i → i < v.next → i < length b.all
      → Fits (N b) b.all (within (flagged n i (pos 0) (inside (low n e v).0)) (map stmt_lowered ys))
      → IsAgain b program result i (do_again n (rich_codes_of ys) e)
      (PlainCode.Loop n (term_of (expr.Or (slot_value i) (low n e v).1)) (codes_of (zero_step n i)) (codes_of (within (flagged n i (pos 0) (inside (low n e v).0)) (map stmt_lowered ys)).code))
  Active : (n : ℕ) (e : Term) (ys : List RichStmt) (in_loop : Bool) (a : Work) → IsTyped program b.here.slots result in_loop (Code.Do n (rich_codes_of ys) e) → is_active e ≡ true → IsCounted (N b) b.all a → N b ≤ i → i < a.next → i < length b.all
      → Fits (N b) b.all (turn n (disjoined n (inside a, slot_value i) (low n e)) (map stmt_lowered ys))
      → IsAgain b program result i (do_again n (rich_codes_of ys) e)
      (PlainCode.Loop n (PlainTerm.Lit (value.Int S32 (pos 1))) (codes_of (zero_step n i)) (codes_of (turn n (disjoined n (inside a, slot_value i) (low n e)) (map stmt_lowered ys)).code))

-- and so these are, where a flag is 0
pub record LoopsAlike (b : Both) (program : Program) (result : Ty) : Type 0 where
  pub by : (c : Code) (d : PlainCode) → IsLoop b program result c d → Same b (b.rich_low b.here (Codes.Then c Codes.End)) (b.low (there b) (PlainCodes.Then d PlainCodes.End))
  pub again : (i : ℕ) (c : Code) (d : PlainCode) → IsAgain b program result i c d → SameWhere b i (flag_wire false) (b.rich_low b.here (Codes.Then c Codes.End)) (b.low (there b) (PlainCodes.Then d PlainCodes.End))

module _ (b : Both) (framed : Framed b) (program : Program) (knows : KnowsTypes b program) (result : Ty) (loops_are : LoopsAlike b program result) where
  abbrev R1 : Code → Go
  R1 c = rich_stmt (rich_side b) b.rich_low b.here c

  abbrev RS : Codes → Go
  RS cs = rich_stmts (rich_side b) b.rich_low b.here cs

  abbrev Typed : Bool → Code → Type 0
  Typed in_loop c = IsTyped program b.here.slots result in_loop c

  abbrev AllTyped : Bool → Codes → Type 0
  AllTyped in_loop cs = AreTyped program b.here.slots result in_loop cs

  expression : (n : ℕ) (e : Term) (t : Ty) → Has program b.here.slots e t → (w : Work) → G b (Prepared b n e) w (low n e w)
  expression n e t h w = form_goes b framed.alike framed.fits n e (names_in program b.here.slots e t h) w

  place : (n : ℕ) (p : Lvalue) (t : Ty) → Designates program b.here.slots p (One t) → (w : Work) → GP b (prep_place (rich_side b) b.rich_low b.here n p) w (low_place n p w)
  place n p t h w = place_goes b framed.alike framed.fits n p (names_place program b.here.slots p (One t) h) w

  -- a statement without statements inside
  plain_runs : (n : ℕ) (s : Step) (c : PlainCode) (g : Go) (w : Work) → numbered s n ≡ c → (IsCounted (N b) b.all w → Fits (N b) b.all w → Same b g (P1 b c)) → Runs b g w (put n s w)
  plain_runs n s c g w is same = runs_stmt b n s g (P1 b c) w (put n s w) refl (λ f. f) (λ k. k) (λ l K. one_stmt b n s c is l K) same

  -- ---- declarations and texts

  declare_runs : (n i : ℕ) → i < N b → (w : Work) → Runs b (R1 (Code.Declare n i)) w (put n (step.Declare i) w)
  declare_runs n i less w = plain_runs n (step.Declare i) (PlainCode.Declare n i) (R1 (Code.Declare n i)) w (declare_is n i) (λ c f. record {
    by = λ t u born k K sees next. ap (Ticks b n)
        ((declared_same b i less framed.fits (slice_get b.here.slots i)).by t u born k K sees next ∙ ap (λ (o : Option Slot). declared (side b) b.low (there b) i o (with u born) K) (framed.same i less));
  })

  text_runs : (n i : ℕ) (text : List ℕ) → i < N b → (w : Work) → Runs b (R1 (Code.Text n i text)) w (put n (step.Text i text) w)
  text_runs n i text less w = plain_runs n (step.Text i text) (PlainCode.Text n i text) (R1 (Code.Text n i text)) w (text_is n i text) (λ c f. record {
    by = λ t u born k K sees next. ap (Ticks b n)
        (ap (texts (in_here b.here n) (characters (slice_get b.here.slots i)) (slot_of t i) 0 text) (next.by Ends t u born sees)
        ∙ ap (λ (v : Wire). texts (in_here b.here n) (characters (slice_get b.here.slots i)) v 0 text (K Ends (with u born))) (sees.same i less)
        ∙ ap (λ (o : Option Slot). texts (in_here b.here n) (characters o) (slot_of u i) 0 text (K Ends (with u born))) (framed.same i less));
  })

  jump_runs : (n : ℕ) (s : Step) (way : Way) → numbered s n ≡ PlainCode.Jump n way → (w : Work) → Runs b (R1 (Code.Jump n way)) w (put n s w)
  jump_runs n s way is w = plain_runs n s (PlainCode.Jump n way) (R1 (Code.Jump n way)) w is (λ c f. record { by = λ t u born k K sees next. ap (Ticks b n) (next.by (flow_of way) t u born sees) })

  -- ---- assignments

  assign_runs : (n : ℕ) (p : RichLval) (e : RichExpr) (t : Ty) → Designates program b.here.slots (rich_lvalue_of p) (One t) → Has program b.here.slots (rich_term_of e) t → (w : Work)
      → Runs b (R1 (Code.Assign n (rich_lvalue_of p) (rich_term_of e))) w (done n (assigned n p e w))
  assign_runs n p e ty d h w =
      let q : Lvalue = rich_lvalue_of p in
      let a : Term = rich_term_of e in
      let x : Work × Expr = part (keeps (is_active_place q) a) n (type_of a) (low n a w) in
      let y : Work × Lval = low_place n q x.0 in
      let gx = goes_part b (is_taken (is_active_place q) a) n (type_of a) (Prepared b n a) w (low n a w) (expression n a ty h w) in
      let gy : GP b (prep_place (rich_side b) b.rich_low b.here n q) x.0 y = place n q ty d x.0 in
      let last : List Stmt = stmt n (step.Assign y.1 x.1) ∷ [] in
      record {
        back = λ f. gx.back (gy.back f);
        counted = λ c. gy.counted (gx.counted c);
        more = gx.more ++ (gy.more ++ last);
        code = ap (λ c. c ++ last) (gy.code ∙ ap (λ c. c ++ gy.more) gx.code) ∙ append_assoc (w.code ++ gx.more) gy.more last ∙ append_assoc w.code gx.more (gy.more ++ last);
        same = λ c f. record {
          by = λ t u born k K sees next.
              gx.by c (gy.back f) t u born _ (on_ends (S b (gy.more ++ last)) K) sees
              (λ r t1 u1 sees1 near1 ready1. gy.by (gx.counted c) f t1 u1 born _ (on_ends (S b last) K) sees1
              (λ rp t2 u2 sees2 near2 ready2.
              ap (Ticks b n) (answered (N b) b.all (ready_later (N b) b.all gy.grows near2 ready1) (in_here b.here n) t2 sees2 _ _
              (λ v. stores_same b n q (names_place program b.here.slots q (One ty) d) framed.fits x.0 (in_here b.here n) v t2 u2 born y.0.next rp ready2 sees2 (λ s. k Ends (with s born)) (K Ends) (λ t3 u3 sees3 near3. next.by Ends t3 u3 born sees3)))
              ∙ sym (assign_step b n y.1 x.1 (with u2 born) K))
              ∙ sym (stmts_both b gy.more last K (with u1 born)))
              ∙ sym (stmts_both b gx.more (gy.more ++ last) K (with u born));
        };
      }

  -- ---- calls

  abbrev formed : RichCallForm → Terms
  formed form = term_list (map rich_term_of form.args)

  call_prepared : (n : ℕ) (form : RichCallForm) (u : Ty) → CallGives program b.here.slots (rich_call_of form) u → (w : Work) → Goes b Arguments (prep_call (rich_side b) b.rich_low b.here n (rich_call_of form)) w (call_lowered n form w).0 (asked b (call_lowered n form w).1)
  call_prepared n form u h w =
      let ns = names_called program b.here.slots (rich_called_of form.callee) (formed form) (λ s. NamesHandler s (map rich_term_of form.args)) form.shape form.format u h in
      call_goes b framed.alike framed.fits n (rich_called_of form.callee) form.shape form.format (formed form) ns.0 ns.1 w

  -- what a call does at its tick, and where its value goes
  called_same : (n : ℕ) (form : RichCallForm) (w : Work) → CallsSame b (rich_called_of form.callee) form.shape form.format (call_lowered n form w).1
  called_same n form w at a k K h = calls_as b framed.alike (rich_called_of form.callee) form.shape form.format w (are_active (formed form)) n (call_lowered n form w).1.args at a k K h

  call_step : (n : ℕ) (s : Step) (goal : Goal) (form : CallForm) → numbered s n ≡ PlainCode.Call n goal (call_of form) → (u born : List Wire) (K : Next)
      → S b (stmt n s ∷ []) (with u born) K ≡ Ticks b n (asked b form (in_here b.here n) u (λ a. plain_calls b (called_of form.callee) (call_of form) (in_here b.here n) a (λ v. keep b.known (there b) (in_here b.here n) goal v (with u born) (on_ends (S b []) K))))
  call_step n s goal form is u born K = one_stmt b n s (PlainCode.Call n goal (call_of form)) is (with u born) K ∙ ap (Ticks b n) (call_split b (called_of form.callee) (call_of form) (in_here b.here n) u _)

  -- what is done with the value of a call
  abbrev After : RichCallForm → (Wire → At → Go) → Arguments → At → Go
  After form go a at l k = calls (rich_side b) b.rich_low b.here (rich_called_of form.callee) form.shape form.format at a (λ v. go v at l k)

  abbrev PlainAfter : CallForm → (Wire → At → Go) → Arguments → At → Go
  PlainAfter form go a at l k = plain_calls b (called_of form.callee) (call_of form) at a (λ v. go v at l k)

  call_runs : (n : ℕ) (form : RichCallForm) (u : Ty) (w : Work) (s : Step) (goal : Goal) (go : Wire → At → Go) → CallGives program b.here.slots (rich_call_of form) u → numbered s n ≡ PlainCode.Call n goal (call_of (call_lowered n form w).1)
      → ((v : Wire) → Same b (go v (in_here b.here n)) (keep b.known (there b) (in_here b.here n) goal v)) → Runs b (at_tick (rich_side b) b.rich_low b.here n (prep_call (rich_side b) b.rich_low b.here n (rich_call_of form)) (After form go)) w (put n s (call_lowered n form w).0)
  call_runs n form u w s goal go h is same =
      let x : Work × CallForm = call_lowered n form w in
      runs_last b Arguments (prep_call (rich_side b) b.rich_low b.here n (rich_call_of form)) w x.0 (asked b x.1) (call_prepared n form u h w) n s (After form go) (PlainAfter x.1 (λ v at. keep b.known (there b) at goal v)) (put n s x.0) refl (λ f. f) (λ c. c)
      (λ v born K. call_step n s goal x.1 is v born K) (λ c f a. record { by = λ t v born k K sees next. called_same n form w (in_here b.here n) a _ _ (λ y. (same y).by t v born k K sees next) })

  call_none_runs : (n : ℕ) (form : RichCallForm) → GoesTo program b.here.slots result RichGoal.Nowhere (rich_call_of form) → (w : Work) → Runs b (R1 (Code.Call n RichGoal.Nowhere (rich_call_of form))) w (done n (call_made n None form w))
  call_none_runs n form h w =
      call_runs n form h.0 w (step.Call None (call_lowered n form w).1) Goal.Nowhere (λ v at l k. k Ends l) h.1 (call_is n None (call_lowered n form w).1) (λ v. record { by = λ t u born k K sees next. next.by Ends t u born sees })

  call_back_runs : (n : ℕ) (form : RichCallForm) → GoesTo program b.here.slots result RichGoal.Back (rich_call_of form) → (w : Work) → Runs b (R1 (Code.Call n RichGoal.Back (rich_call_of form))) w (done n (mapped step.ReturnCall (call_lowered n form w)))
  call_back_runs n form h w =
      call_runs n form h.given w (step.ReturnCall (call_lowered n form w).1) Goal.Back (λ v at l k. given at (received b.known (Some b.here.result) v) (λ x. k (Returns x) l)) h.call_gives (return_call_is n (call_lowered n form w).1)
      (λ v. record { by = λ t u born k K sees next. ap (given (in_here b.here n) (received b.known (Some b.here.result) v)) (fun_ext (λ x. next.by (Returns x) t u born sees)) })

  call_into_runs : (n : ℕ) (p : RichLval) (form : RichCallForm) → GoesTo program b.here.slots result (RichGoal.Into (rich_lvalue_of p)) (rich_call_of form) → (w : Work) → Runs b (R1 (Code.Call n (RichGoal.Into (rich_lvalue_of p)) (rich_call_of form))) w (done n (call_made n (Some p) form w))
  call_into_runs n p form h w =
      let q : Lvalue = rich_lvalue_of p in
      let x : Work × CallForm = call_lowered n form w in
      let y : Work × Lval = low_place n q x.0 in
      let gx = call_prepared n form h.given h.call_gives w in
      let gy : GP b (prep_place (rich_side b) b.rich_low b.here n q) x.0 y = place n q h.type h.object x.0 in
      let last : List Stmt = stmt n (step.Call (Some y.1) x.1) ∷ [] in
      record {
        back = λ f. gx.back (gy.back f);
        counted = λ c. gy.counted (gx.counted c);
        more = gx.more ++ (gy.more ++ last);
        code = ap (λ c. c ++ last) (gy.code ∙ ap (λ c. c ++ gy.more) gx.code) ∙ append_assoc (w.code ++ gx.more) gy.more last ∙ append_assoc w.code gx.more (gy.more ++ last);
        same = λ c f. record {
          by = λ t u born k K sees next.
              let types : named_type b.known.program b.all (lvalue_of y.1) ≡ Some (type_at q) = named_is b framed program knows n q (One h.type) h.object x.0 (gx.counted c) f ∙ ap Some (sym (type_at_is program b.here.slots q (One h.type) h.object)) in
              gx.by c (gy.back f) t u born _ (on_ends (S b (gy.more ++ last)) K) sees
              (λ r t1 u1 sees1 near1 ready1. gy.by (gx.counted c) f t1 u1 born _ (on_ends (S b last) K) sees1
              (λ rp t2 u2 sees2 near2 ready2.
              ap (Ticks b n) (answered (N b) b.all (ready_later (N b) b.all gy.grows near2 ready1) (in_here b.here n) t2 sees2 _ _
              (λ a. called_same n form w (in_here b.here n) a _ _ (λ v.
              ap (given (in_here b.here n) (received b.known (Some (type_at q)) v)) (fun_ext (λ z.
              stores_same b n q (names_place program b.here.slots q (One h.type) h.object) framed.fits x.0 (in_here b.here n) z t2 u2 born y.0.next rp ready2 sees2 (λ s. k Ends (with s born)) (K Ends) (λ t3 u3 sees3 near3. next.by Ends t3 u3 born sees3)))
              ∙ ap (λ (o : Option Ty). given (in_here b.here n) (received b.known o v) (λ z. put_at b.known (in_here b.here n) (lvalue_of y.1) z (with u2 born) (K Ends))) (sym types))))
              ∙ sym (call_step n (step.Call (Some y.1) x.1) (Goal.Into (lvalue_of y.1)) x.1 (call_is n (Some y.1) x.1) u2 born K))
              ∙ sym (stmts_both b gy.more last K (with u1 born)))
              ∙ sym (stmts_both b gx.more (gy.more ++ last) K (with u born));
        };
      }

  call_goal_runs : (n : ℕ) (o : Option RichLval) (form : RichCallForm) → GoesTo program b.here.slots result (rich_goal_of o) (rich_call_of form) → (w : Work) → Runs b (R1 (Code.Call n (rich_goal_of o) (rich_call_of form))) w (done n (call_made n o form w))
  call_goal_runs n None form h w = call_none_runs n form h w
  call_goal_runs n (Some p) form h w = call_into_runs n p form h w

  return_runs : (n : ℕ) (o : Option RichExpr) → ReturnsTyped program b.here.slots result (option_map rich_term_of o) → (w : Work) → Runs b (R1 (Code.Return n (option_map rich_term_of o))) w (done n (mapped step.Return (perhaps_lowered n o w)))
  return_runs n None h w = plain_runs n (step.Return None) (PlainCode.Return n None) (R1 (Code.Return n None)) w (return_is n None) (λ c f. record { by = λ t u born k K sees next. ap (Ticks b n) (next.by (Returns wire.NoValue) t u born sees) })
  return_runs n (Some e) h w =
      let x : Work × Expr = low n (rich_term_of e) w in
      runs_last b Wire (Prepared b n (rich_term_of e)) w x.0 (V b x.1) (expression n (rich_term_of e) result h.1 w) n (step.Return (Some x.1)) (λ v at l k. k (Returns v) l) (λ v at l k. k (Returns v) l) (put n (step.Return (Some x.1)) x.0) refl (λ f. f) (λ c. c)
      (λ u born K. one_stmt b n (step.Return (Some x.1)) (PlainCode.Return n (Some (term_of x.1))) (return_is n (Some x.1)) (with u born) K) (λ c f v. record { by = λ t u born k K sees next. next.by (Returns v) t u born sees })

  -- ---- `if`

  if_runs : (n : ℕ) (e : RichExpr) (t : Ty) → Has program b.here.slots (rich_term_of e) t → (one other : Codes) (w a d : Work) → Runs b (RS one) (inside (expr_lowered n e w).0) a → Runs b (RS other) (inside a) d
      → Runs b (R1 (Code.If n (rich_term_of e) one other)) w (put n (step.If (expr_lowered n e w).1 a.code d.code) (outside (expr_lowered n e w).0 d))
  if_runs n e ty h one other w a d ra rd =
      let x : Work × Expr = expr_lowered n e w in
      runs_last b Wire (Prepared b n (rich_term_of e)) w x.0 (V b x.1) (expression n (rich_term_of e) ty h w) n (step.If x.1 a.code d.code) (λ v at. in_block (without_bodies (rich_side b)) b.here (chosen (is_true v) (RS one) (RS other)))
      (λ v at. in_block (side b) (there b) (chosen (is_true v) (S b a.code) (S b d.code))) (put n (step.If x.1 a.code d.code) (outside x.0 d)) refl (λ f. ra.back (rd.back f)) (λ c. rd.counted (ra.counted c))
      (λ u born K. if_step b n x.1 a.code d.code (with u born) K)
      (λ c f v. same_block b (same_chosen b (inner_same b (RS one) x.0 a ra c (rd.back f)) (inner_same b (RS other) a d rd (ra.counted c) f) (is_true v)))

  -- ---- loops

  abbrev Again : Code → Go
  Again c = b.rich_low b.here (Codes.Then c Codes.End)

  abbrev Later : PlainCode → Go
  Later d = b.low (there b) (PlainCodes.Then d PlainCodes.End)

  -- a test that isn't active
  quiet_loop : (n : ℕ) (e : Term) (t : Ty) → Has program b.here.slots e t → is_active e ≡ false → (v : Work) → IsCounted (N b) b.all v → Fits (N b) b.all (low n e v).0 → (again later pass after body codes : Go) → Same b again later → Same b pass after → Same b body codes
      → Same b (Looped b n e (Turn b again pass body)) (λ l k. Ticks b n (V b (low n e v).1 (in_here b.here n) l.slots (λ y. chosen (is_true y) (PlainTurn b later after codes) leaves l k)))
  quiet_loop n e ty h quiet v c f again later pass after body codes turns steps bodies =
      let x : Work × Expr = low n e v in
      let g : G b (Prepared b n e) v x = expression n e ty h v in
      let go : Go = Turn b again pass body in
      record {
        by = λ t u born k K sees next.
            let E : Next = λ flow l. Ticks b n (V b x.1 (in_here b.here n) l.slots (λ y. chosen (is_true y) (PlainTurn b later after codes) leaves l K)) in
            ap (λ d. chosen d (tests (rich_side b) b.rich_low b.here n e go) (at_tick (rich_side b) b.rich_low b.here n (Prepared b n e) (λ y at. chosen (is_true y) go leaves)) (with t born) k) quiet
            ∙ g.by c f t u born _ E sees
            (λ r t1 u1 sees1 near1 ready1. ap (Ticks b n) (answered (N b) b.all ready1 (in_here b.here n) t1 sees1 _ _ (λ y. (same_chosen b (same_turn b turns steps bodies) (same_leaves b) (is_true y)).by t1 u1 born k K sees1 next)))
            ∙ ap (λ m. S b m (with u born) E) (nothing_more v.code g.more (sym (ap (λ (w : Work). w.code) (inactive_same n e quiet v)) ∙ g.code));
      }

  -- an active one
  tested_loop : (n : ℕ) (e : Term) (t : Ty) → Has program b.here.slots e t → is_active e ≡ true → (a : Work) → IsCounted (N b) b.all a → (body : Codes) (z : Work) → Runs b (RS body) (inside (tested n (low n e (inside a)))) z → Fits (N b) b.all z
      → (again later pass after : Go) → Same b again later → Same b pass after
      → Same b (Looped b n e (Turn b again pass (RS body))) (λ l k. Ticks b n (PlainTurn b later after (S b (blocked 0 (tested n (low n e (inside a))) z).code) l k))
  tested_loop n e ty h active a c body z r f again later pass after turns steps =
      let x : Work × Expr = low n e (inside a) in
      let g : G b (Prepared b n e) (inside a) x = expression n e ty h (inside a) in
      let go : Go = Turn b again pass (RS body) in
      record {
        by = λ t u born k K sees next.
            ap (λ d. chosen d (tests (rich_side b) b.rich_low b.here n e go) (at_tick (rich_side b) b.rich_low b.here n (Prepared b n e) (λ y at. chosen (is_true y) go leaves)) (with t born) k) active
            ∙ ap (Ticks b n) (tested_turn b n (Prepared b n e) (inside a) x g.more g.code t u born (λ j J h. g.by c (r.back f) t u [] j J sees h) (RS body) z (inner_same b (RS body) (tested n x) z r (g.counted c) f) again later pass after
            (λ j J follows. next_around b turns steps follows) k K next);
      }

  -- a list of statements, lowered behind any work
  abbrev ListRuns : List RichStmt → Type 0
  ListRuns xs = (w : Work) → Runs b (RS (rich_codes_of xs)) w (run w (map stmt_lowered xs))

  pub plain_same : (n : ℕ) (e : Term) (xs ys : List RichStmt) (in_loop : Bool) (v : Work) → Typed in_loop (Code.Loop n e (rich_codes_of xs) (rich_codes_of ys)) → is_active e ≡ false → IsCounted (N b) b.all v
      → Fits (N b) b.all (within (within (low n e v).0 (map stmt_lowered xs)) (map stmt_lowered ys)) → ListRuns xs → ListRuns ys
      → Same b (R1 (Code.Loop n e (rich_codes_of xs) (rich_codes_of ys)))
      (P1 b (PlainCode.Loop n (term_of (low n e v).1) (codes_of (within (low n e v).0 (map stmt_lowered xs)).code) (codes_of (within (within (low n e v).0 (map stmt_lowered xs)) (map stmt_lowered ys)).code)))
  plain_same n e xs ys in_loop v h quiet c f run_xs run_ys =
      let x : Work × Expr = low n e v in
      let g : G b (Prepared b n e) v x = expression n e h.condition.type h.condition.operand v in
      let d : Work = within x.0 (map stmt_lowered xs) in
      let z : Work = within d (map stmt_lowered ys) in
      let rx : Runs b (RS (rich_codes_of xs)) (inside x.0) d = run_xs (inside x.0) in
      let ry : Runs b (RS (rich_codes_of ys)) (inside d) z = run_ys (inside d) in
      let fd : Fits (N b) b.all d = ry.back f in
      let fx : Fits (N b) b.all x.0 = rx.back fd in
      quiet_loop n e h.condition.type h.condition.operand quiet v c fx (Again (Code.Loop n e (rich_codes_of xs) (rich_codes_of ys))) (Later (PlainCode.Loop n (term_of x.1) (codes_of d.code) (codes_of z.code))) (RS (rich_codes_of xs)) (S b d.code) (RS (rich_codes_of ys)) (S b z.code)
      (loops_are.by (Code.Loop n e (rich_codes_of xs) (rich_codes_of ys)) (PlainCode.Loop n (term_of x.1) (codes_of d.code) (codes_of z.code)) (IsLoop.Plain n e xs ys in_loop v h quiet c f))
      (inner_same b (RS (rich_codes_of xs)) x.0 d rx (g.counted c) fd) (inner_same b (RS (rich_codes_of ys)) d z ry (rx.counted (g.counted c)) f)

  pub tested_same : (n : ℕ) (e : Term) (xs ys : List RichStmt) (in_loop : Bool) (v : Work) → Typed in_loop (Code.Loop n e (rich_codes_of xs) (rich_codes_of ys)) → is_active e ≡ true → IsCounted (N b) b.all v
      → Fits (N b) b.all (turn n (low n e (inside (within v (map stmt_lowered xs)))) (map stmt_lowered ys)) → ListRuns xs → ListRuns ys
      → Same b (R1 (Code.Loop n e (rich_codes_of xs) (rich_codes_of ys)))
      (P1 b (PlainCode.Loop n (PlainTerm.Lit (value.Int S32 (pos 1))) (codes_of (within v (map stmt_lowered xs)).code) (codes_of (turn n (low n e (inside (within v (map stmt_lowered xs)))) (map stmt_lowered ys)).code)))
  tested_same n e xs ys in_loop v h active c f run_xs run_ys =
      let d : Work = within v (map stmt_lowered xs) in
      let x : Work × Expr = low n e (inside d) in
      let z : Work = within (tested n x) (map stmt_lowered ys) in
      let whole : Work = turn n x (map stmt_lowered ys) in
      let rx : Runs b (RS (rich_codes_of xs)) (inside v) d = run_xs (inside v) in
      let ry : Runs b (RS (rich_codes_of ys)) (inside (tested n x)) z = run_ys (inside (tested n x)) in
      let g : G b (Prepared b n e) (inside d) x = expression n e h.condition.type h.condition.operand (inside d) in
      let fd : Fits (N b) b.all d = g.back (ry.back f) in
      tested_loop n e h.condition.type h.condition.operand active d (rx.counted c) (rich_codes_of ys) z ry f (Again (Code.Loop n e (rich_codes_of xs) (rich_codes_of ys))) (Later (PlainCode.Loop n (PlainTerm.Lit (value.Int S32 (pos 1))) (codes_of d.code) (codes_of whole.code))) (RS (rich_codes_of xs)) (S b d.code)
      (loops_are.by (Code.Loop n e (rich_codes_of xs) (rich_codes_of ys)) (PlainCode.Loop n (PlainTerm.Lit (value.Int S32 (pos 1))) (codes_of d.code) (codes_of whole.code)) (IsLoop.Tested n e xs ys in_loop v h active c f))
      (inner_same b (RS (rich_codes_of xs)) v d rx c fd)

  -- ---- `while`

  while_runs : (n : ℕ) (e : RichExpr) (ys : List RichStmt) (in_loop : Bool) → Typed in_loop (Code.Loop n (rich_term_of e) Codes.End (rich_codes_of ys)) → ListRuns ys → (w : Work) → Runs b (R1 (Code.Loop n (rich_term_of e) Codes.End (rich_codes_of ys))) w (while_lowered n e (map stmt_lowered ys) w)
  while_runs n e ys in_loop h run_ys w = of (is_active a) refl where
    a : Term
    a = rich_term_of e

    none_run : ListRuns []
    none_run v = runs_end b v (sym (append-nil v.code))

    of : (c : Bool) → is_active a ≡ c → Runs b (R1 (Code.Loop n a Codes.End (rich_codes_of ys))) w
        (chosen c (repeated n w always (turn n (expr_lowered n e (inside w)) (map stmt_lowered ys))) (repeated n (expr_lowered n e w).0 (expr_lowered n e w).1 (within (expr_lowered n e w).0 (map stmt_lowered ys))))
    of true active =
        let x : Work × Expr = low n a (inside w) in
        let whole : Work = turn n x (map stmt_lowered ys) in
        let g : G b (Prepared b n a) (inside w) x = expression n a h.condition.type h.condition.operand (inside w) in
        let ry : Runs b (RS (rich_codes_of ys)) (inside (tested n x)) (within (tested n x) (map stmt_lowered ys)) = run_ys (inside (tested n x)) in
        runs_stmt b n (step.While always whole.code) (R1 (Code.Loop n a Codes.End (rich_codes_of ys))) (P1 b (PlainCode.Loop n (PlainTerm.Lit (value.Int S32 (pos 1))) PlainCodes.End (codes_of whole.code))) w (repeated n w always whole) refl
        (λ f. g.back (ry.back f)) (λ c. ry.counted (g.counted c))
        (λ l K. one_stmt b n (step.While always whole.code) (PlainCode.Loop n (PlainTerm.Lit (value.Int S32 (pos 1))) PlainCodes.End (codes_of whole.code)) (while_is n always whole.code ∙ ap (λ t. PlainCode.Loop n t PlainCodes.End (codes_of whole.code)) (lit_is (value.Int S32 (pos 1)))) l K)
        (λ c f. tested_same n a [] ys in_loop w h active c f none_run run_ys)
    of false quiet =
        let x : Work × Expr = low n a w in
        let z : Work = within x.0 (map stmt_lowered ys) in
        let g : G b (Prepared b n a) w x = expression n a h.condition.type h.condition.operand w in
        let ry : Runs b (RS (rich_codes_of ys)) (inside x.0) z = run_ys (inside x.0) in
        runs_stmt b n (step.While x.1 z.code) (R1 (Code.Loop n a Codes.End (rich_codes_of ys))) (P1 b (PlainCode.Loop n (term_of x.1) PlainCodes.End (codes_of z.code))) w (repeated n x.0 x.1 z)
        (ap (λ (v : Work). v.code ++ stmt n (step.While x.1 z.code) ∷ []) (inactive_same n a quiet w)) (λ f. g.back (ry.back f)) (λ c. ry.counted (g.counted c))
        (λ l K. one_stmt b n (step.While x.1 z.code) (PlainCode.Loop n (term_of x.1) PlainCodes.End (codes_of z.code)) (while_is n x.1 z.code) l K)
        (λ c f. plain_same n a [] ys in_loop w h quiet c f none_run run_ys)

  -- ---- `for`

  rich_rest : (c : Code) (cs ds : Codes) (L : Code) (k : Next) → ((l : Locals) → RS cs l k ≡ RS ds l (on_ends (RS (Codes.Then L Codes.End)) k)) → (flow : Flow) (l : Locals) → on_ends (RS cs) k flow l ≡ on_ends (RS ds) (on_ends (RS (Codes.Then L Codes.End)) k) flow l
  rich_rest c cs ds L k h Ends l = h l
  rich_rest c cs ds L k h Breaks l = refl
  rich_rest c cs ds L k h Continues l = refl
  rich_rest c cs ds L k h (Returns v) l = refl

  rich_front : (cs : List Code) (L : Code) (k : Next) (l : Locals) → RS (rich_before cs L) l k ≡ RS (rich_code_list cs) l (on_ends (RS (Codes.Then L Codes.End)) k)
  rich_front [] L k l = refl
  rich_front (c ∷ cs) L k l = ap (R1 c l) (fun_ext (λ flow. fun_ext (rich_rest c (rich_before cs L) (rich_code_list cs) L k (rich_front cs L k) flow)))

  single_same : (L : Code) (M : PlainCode) → Same b (R1 L) (P1 b M) → Same b (RS (Codes.Then L Codes.End)) (PS b (PlainCodes.Then M PlainCodes.End))
  single_same L M same = record { by = λ t u born k K sees next. same.by t u born (on_ends (RS Codes.End) k) (on_ends (S b []) K) sees (next_leaves b next) }

  front_same : (cs : List Code) (ss : List Stmt) (L : Code) (M : PlainCode) → Same b (RS (rich_code_list cs)) (S b ss) → Same b (R1 L) (P1 b M) → Same b (RS (rich_before cs L)) (PS b (before (map code_of ss) M))
  front_same cs ss L M first same = record {
    by = λ t u born k K sees next.
        rich_front cs L k (with t born) ∙ first.by t u born (on_ends (RS (Codes.Then L Codes.End)) k) (on_ends (PS b (PlainCodes.Then M PlainCodes.End)) K) sees (next_on_ends b (single_same L M same) next) ∙ sym (plain_front b ss M K (with u born));
  }

  counted_runs : (n : ℕ) (cs : List Code) (L : Code) (w a d z : Work) (e : Option Expr) → Runs b (RS (rich_code_list cs)) (inside w) a → (Fits (N b) b.all z → Fits (N b) b.all a) → (IsCounted (N b) b.all a → IsCounted (N b) b.all z)
      → (IsCounted (N b) b.all a → Fits (N b) b.all z → Same b (R1 L) (P1 b (PlainCode.Loop n (test_of e) (codes_of d.code) (codes_of z.code)))) → Runs b (R1 (Code.Block (rich_before cs L))) w (counted n w a e d z)
  counted_runs n cs L w a d z e ra back counts same =
      let M : PlainCode = PlainCode.Loop n (test_of e) (codes_of d.code) (codes_of z.code) in
      runs_stmt b n (step.For a.code e d.code z.code) (R1 (Code.Block (rich_before cs L))) (in_block (side b) (there b) (PS b (before (map code_of a.code) M))) w (counted n w a e d z) refl (λ f. ra.back (back f)) (λ c. counts (ra.counted c))
      (λ l K. one_stmt b n (step.For a.code e d.code z.code) (PlainCode.Block (before (map code_of a.code) M)) (for_is n a.code e d.code z.code) l K)
      (λ c f. same_block b (front_same cs a.code L M (inner_same b (RS (rich_code_list cs)) w a ra c (back f)) (same (ra.counted c) f)))

  for_runs : (n : ℕ) (cs : List Code) (a : Work) (o : Option RichExpr) (xs ys : List RichStmt) (in_loop : Bool) → Typed in_loop (Code.Loop n (rich_test_of o) (rich_codes_of xs) (rich_codes_of ys)) → ListRuns xs → ListRuns ys → (w : Work) → Runs b (RS (rich_code_list cs)) (inside w) a
      → Runs b (R1 (Code.Block (rich_before cs (Code.Loop n (rich_test_of o) (rich_codes_of xs) (rich_codes_of ys))))) w (for_lowered n w a o (map stmt_lowered xs) (map stmt_lowered ys))
  for_runs n cs a None xs ys in_loop h run_xs run_ys w ra =
      let e : Term = Term.Lit (value.Int S32 (pos 1)) in
      let d : Work = within a (map stmt_lowered xs) in
      let z : Work = within d (map stmt_lowered ys) in
      let rx : Runs b (RS (rich_codes_of xs)) (inside a) d = run_xs (inside a) in
      let ry : Runs b (RS (rich_codes_of ys)) (inside d) z = run_ys (inside d) in
      counted_runs n cs (Code.Loop n e (rich_codes_of xs) (rich_codes_of ys)) w a d z None ra (λ f. rx.back (ry.back f)) (λ c. ry.counted (rx.counted c))
      (λ c f. subst (λ t. Same b (R1 (Code.Loop n e (rich_codes_of xs) (rich_codes_of ys))) (P1 b (PlainCode.Loop n t (codes_of d.code) (codes_of z.code)))) (lit_is (value.Int S32 (pos 1))) (plain_same n e xs ys in_loop a h refl c f run_xs run_ys))
  for_runs n cs a (Some e) xs ys in_loop h run_xs run_ys w ra = of (is_active t) refl where
    t : Term
    t = rich_term_of e

    L : Code
    L = Code.Loop n t (rich_codes_of xs) (rich_codes_of ys)

    d : Work
    d = within a (map stmt_lowered xs)

    x : Work × Expr
    x = low n t (inside a)

    tested_x : Work × Expr
    tested_x = low n t (inside d)

    of : (c : Bool) → is_active t ≡ c → Runs b (R1 (Code.Block (rich_before cs L))) w
        (chosen c (counted n w a None d (turn n tested_x (map stmt_lowered ys))) (counted n w a (Some x.1) (within x.0 (map stmt_lowered xs)) (within (within x.0 (map stmt_lowered xs)) (map stmt_lowered ys))))
    of true active =
        let whole : Work = turn n tested_x (map stmt_lowered ys) in
        let rx : Runs b (RS (rich_codes_of xs)) (inside a) d = run_xs (inside a) in
        let g : G b (Prepared b n t) (inside d) tested_x = expression n t h.condition.type h.condition.operand (inside d) in
        let ry : Runs b (RS (rich_codes_of ys)) (inside (tested n tested_x)) (within (tested n tested_x) (map stmt_lowered ys)) = run_ys (inside (tested n tested_x)) in
        counted_runs n cs L w a d whole None ra (λ f. rx.back (g.back (ry.back f))) (λ c. ry.counted (g.counted (rx.counted c))) (λ c f. tested_same n t xs ys in_loop a h active c f run_xs run_ys)
    of false quiet =
        let d1 : Work = within x.0 (map stmt_lowered xs) in
        let z : Work = within d1 (map stmt_lowered ys) in
        let g : G b (Prepared b n t) (inside a) x = expression n t h.condition.type h.condition.operand (inside a) in
        let rx : Runs b (RS (rich_codes_of xs)) (inside x.0) d1 = run_xs (inside x.0) in
        let ry : Runs b (RS (rich_codes_of ys)) (inside d1) z = run_ys (inside d1) in
        counted_runs n cs L w a d1 z (Some x.1) ra (λ f. g.back (rx.back (ry.back f))) (λ c. ry.counted (rx.counted (g.counted c))) (λ c f. plain_same n t xs ys in_loop (inside a) h quiet c f run_xs run_ys)

  -- ---- `do`

  pub quiet_again : (first : Bool) (n i : ℕ) (e : Term) (ys : List RichStmt) (in_loop : Bool) (v : Work) → Typed in_loop (Code.Do n (rich_codes_of ys) e) → is_active e ≡ false → IsCounted (N b) b.all v → N b ≤ i → i < v.next → i < length b.all
      → Fits (N b) b.all (within (flagged n i (pos 0) (inside (low n e v).0)) (map stmt_lowered ys)) → ListRuns ys
      → SameWhere b i (flag_wire first) (Looped b n (do_test first e) (Turn b (Again (do_again n (rich_codes_of ys) e)) (Pauses b n) (RS (rich_codes_of ys))))
      (P1 b (PlainCode.Loop n (term_of (expr.Or (slot_value i) (low n e v).1)) (codes_of (zero_step n i)) (codes_of (within (flagged n i (pos 0) (inside (low n e v).0)) (map stmt_lowered ys)).code)))
  quiet_again first n i e ys in_loop v h quiet c new less stands f run_ys =
      let x : Work × Expr = low n e v in
      let g : G b (Prepared b n e) v x = expression n e h.condition.type h.condition.operand v in
      let d : Work = flagged n i (pos 0) (inside x.0) in
      let z : Work = within d (map stmt_lowered ys) in
      let L : Code = do_again n (rich_codes_of ys) e in
      let M : PlainCode = PlainCode.Loop n (term_of (expr.Or (slot_value i) x.1)) (codes_of (zero_step n i)) (codes_of z.code) in
      let ry : Runs b (RS (rich_codes_of ys)) (inside d) z = run_ys (inside d) in
      quiet_do b first n i e (λ w. expression n e h.condition.type h.condition.operand w) new quiet v c (ry.back f) less (Turn b (Again L) (Pauses b n) (RS (rich_codes_of ys))) (PlainTurn b (Later M) (S b (zero_step n i)) (S b z.code))
      (turned b (Again L) (Pauses b n) (Later M) (S b (zero_step n i)) (RS (rich_codes_of ys)) (S b z.code)
      (do_around b n i new stands (Again L) (Later M) (loops_are.again i L M (IsAgain.Quiet n e ys in_loop v h quiet c new less stands f))) (inner_same b (RS (rich_codes_of ys)) d z ry (g.counted c) f))

  pub active_again : (first : Bool) (n i : ℕ) (e : Term) (ys : List RichStmt) (in_loop : Bool) (a : Work) → Typed in_loop (Code.Do n (rich_codes_of ys) e) → is_active e ≡ true → IsCounted (N b) b.all a → N b ≤ i → i < a.next → i < length b.all
      → Fits (N b) b.all (turn n (disjoined n (inside a, slot_value i) (low n e)) (map stmt_lowered ys)) → ListRuns ys
      → SameWhere b i (flag_wire first) (Looped b n (do_test first e) (Turn b (Again (do_again n (rich_codes_of ys) e)) (Pauses b n) (RS (rich_codes_of ys))))
      (P1 b (PlainCode.Loop n (PlainTerm.Lit (value.Int S32 (pos 1))) (codes_of (zero_step n i)) (codes_of (turn n (disjoined n (inside a, slot_value i) (low n e)) (map stmt_lowered ys)).code)))
  active_again first n i e ys in_loop a h active c new less stands f run_ys =
      let x : Work × Expr = disjoined n (inside a, slot_value i) (low n e) in
      let z : Work = within (tested n x) (map stmt_lowered ys) in
      let whole : Work = turn n x (map stmt_lowered ys) in
      let L : Code = do_again n (rich_codes_of ys) e in
      let M : PlainCode = PlainCode.Loop n (PlainTerm.Lit (value.Int S32 (pos 1))) (codes_of (zero_step n i)) (codes_of whole.code) in
      tested_do b first n i e (λ w. expression n e h.condition.type h.condition.operand w) new active a c less (RS (rich_codes_of ys)) z (run_ys (inside (tested n x))) f (Again L) (Later M) (S b (zero_step n i))
      (do_around b n i new stands (Again L) (Later M) (loops_are.again i L M (IsAgain.Active n e ys in_loop a h active c new less stands f)))

  do_runs : (n : ℕ) (e : RichExpr) (ys : List RichStmt) (in_loop : Bool) → Typed in_loop (Code.Do n (rich_codes_of ys) (rich_term_of e)) → ListRuns ys → (w : Work) → Runs b (R1 (Code.Do n (rich_codes_of ys) (rich_term_of e))) w (do_lowered n e (map stmt_lowered ys) w)
  do_runs n e ys in_loop h run_ys w = of (is_active t) refl where
    t : Term
    t = rich_term_of e

    i : ℕ
    i = w.next

    v : Work
    v = with_slot (type.Int S32) w

    a : Work
    a = flagged n i (pos 1) (inside v)

    asks : Bool → Work → Work × Expr
    asks c u = chosen c (disjoined n (u, slot_value i) (low n t)) (two expr.Or (u, slot_value i) (low n t))

    looped : Go
    looped = Looped b n (do_test true t) (Turn b (Again (do_again n (rich_codes_of ys) t)) (Pauses b n) (RS (rich_codes_of ys)))

    goes : (u : Work) → G b (Prepared b n t) u (low n t u)
    goes u = expression n t h.condition.type h.condition.operand u

    of : (c : Bool) → is_active t ≡ c → Runs b (R1 (Code.Do n (rich_codes_of ys) t)) w
        (chosen c (counted n v a None (flagged n i (pos 0) (inside a)) (turn n (asks c (inside (flagged n i (pos 0) (inside a)))) (map stmt_lowered ys))) (counted_by n v a (mapped Some (asks c (inside a))) (flagged n i (pos 0) ∷ []) (map stmt_lowered ys)))
    of true active =
        let d : Work = flagged n i (pos 0) (inside a) in
        let x : Work × Expr = disjoined n (inside d, slot_value i) (low n t) in
        let z : Work = within (tested n x) (map stmt_lowered ys) in
        let whole : Work = turn n x (map stmt_lowered ys) in
        let ry : Runs b (RS (rich_codes_of ys)) (inside (tested n x)) z = run_ys (inside (tested n x)) in
        do_begins b n looped w d whole None (λ f. disjoined_back b n (Prepared b n t) (inside d, slot_value i) (low n t) goes (ry.back f)) (λ c. ry.counted (disjoined_counted b n (Prepared b n t) (inside d, slot_value i) (low n t) goes c))
        (λ c new stands f. active_again true n i t ys in_loop d h active c new (omega arith) stands f run_ys)
    of false quiet =
        let x : Work × Expr = low n t (inside a) in
        let d : Work = flagged n i (pos 0) (inside x.0) in
        let z : Work = within d (map stmt_lowered ys) in
        let ry : Runs b (RS (rich_codes_of ys)) (inside d) z = run_ys (inside d) in
        do_begins b n looped w d z (Some (expr.Or (slot_value i) x.1)) (λ f. (goes (inside a)).back (ry.back f)) (λ c. ry.counted ((goes (inside a)).counted c))
        (λ c new stands f. quiet_again true n i t ys in_loop (inside a) h quiet c new (omega arith) stands f run_ys)

  -- ---- every statement

  typed_front : (in_loop : Bool) (ds : List Code) (c : Code) → AllTyped in_loop (rich_before ds c) → AllTyped in_loop (rich_code_list ds) × Typed in_loop c
  typed_front in_loop [] c h = (tt, h.0)
  typed_front in_loop (d ∷ ds) c h = let r = typed_front in_loop ds c h.1 in ((h.0, r.0), r.1)

  abbrev StepRuns : RichStep → Type 0
  StepRuns s = (n : ℕ) (in_loop : Bool) → Typed in_loop (rich_numbered s n) → (w : Work) → Runs b (R1 (rich_numbered s n)) w (step_lowered s n w)

  abbrev StmtRuns : RichStmt → Type 0
  StmtRuns s = (in_loop : Bool) → Typed in_loop (rich_code_of s) → (w : Work) → Runs b (R1 (rich_code_of s)) w (stmt_lowered s w)

  -- what follows the labels, which stay
  abbrev Labels : Labelled → Branch → Type 0
  Labels x y = (x.0 ≡ y.0) × ((in_loop : Bool) → AllTyped in_loop x.1 → (w : Work) → Runs b (RS x.1) w (run w y.1))

  abbrev ClauseRuns : RichClause → Type 0
  ClauseRuns c = Labels (rich_clause_of c) (clause_lowered c)

  abbrev coded : Step-F RichStep RichClause RichStmt → ℕ → Code
  coded l n = rich_step_layer (map-Step RichStep RichClause RichStmt (ℕ → Code) Labelled Code rich_numbered rich_clause_of rich_code_of l) n

  abbrev StepLayer : Step-F RichStep RichClause RichStmt → Type 0
  StepLayer l = (n : ℕ) (in_loop : Bool) → Typed in_loop (coded l n) → (w : Work)
      → Runs b (R1 (coded l n)) w (step_layer (map-Step RichStep RichClause RichStmt (ℕ → Work → Work) Branch (Work → Work) step_lowered clause_lowered stmt_lowered l) n w)

  abbrev BodyLayer : List RichStmt → Type 0
  BodyLayer ss = (in_loop : Bool) → AllTyped in_loop (rich_codes_of ss) → ListRuns ss

  list_runs : {Y : Type 0} (at : Y → RichStmt) → ((y : Y) → StmtRuns (at y)) → (ys : List Y) → BodyLayer (map at ys)
  list_runs at all_run [] in_loop h w = runs_end b w (sym (append-nil w.code))
  list_runs at all_run (y ∷ ys) in_loop h w =
      runs_seq b (R1 (rich_code_of (at y))) (RS (rich_codes_of (map at ys))) w (stmt_lowered (at y) w) (run (stmt_lowered (at y) w) (map stmt_lowered (map at ys))) (all_run y in_loop h.0 w) (list_runs at all_run ys in_loop h.1 (stmt_lowered (at y) w))

  module _ {X C Y : Type 0} (of : X → RichStep) (clause : C → RichClause) (at : Y → RichStmt) (all_clauses : (c : C) → ClauseRuns (clause c)) (all_run : (y : Y) → StmtRuns (at y)) where
    clauses_run : (n i : ℕ) (kind : Kind) (cs : List C) (ys : List Y) (in_loop : Bool) → AreClauses program b.here.slots result in_loop kind (rich_clauses_of (map clause cs) (map at ys)) → (w : Work)
        → Tried b n i (rich_clauses_of (map clause cs) (map at ys)) w (tried n i (map clause_lowered (map clause cs)) (map stmt_lowered (map at ys)) w)
    clauses_run n i kind [] ys in_loop h w = tried_default b n i (rich_codes_of (map at ys)) w (within w (map stmt_lowered (map at ys))) (list_runs at all_run ys in_loop h (inside w))
    clauses_run n i kind (c ∷ cs) ys in_loop h w =
        let rest : Clauses = rich_clauses_of (map clause cs) (map at ys) in
        let l : Labelled = rich_clause_of (clause c) in
        let a : Work = within w (clause_lowered (clause c)).1 in
        let d : Work = tried n i (map clause_lowered (map clause cs)) (map stmt_lowered (map at ys)) (inside a) in
        subst (λ vs. Tried b n i (Clauses.Clause l.0 l.1 rest) w (put n (step.If (is_labelled i vs) a.code d.code) (outside w d))) (all_clauses c).0
        (tried_clause b n i l.0 l.1 rest w a d ((all_clauses c).1 in_loop h.turn (inside w)) (clauses_run n i kind cs ys in_loop h.later (inside a)))

    step_runs : (l : Step-F X C Y) → StepLayer (map-Step X C Y RichStep RichClause RichStmt of clause at l)
    step_runs (Step-F.Declare i) n in_loop h w = declare_runs n i (get_less b.here.slots i h.right.slot h.right.names) w
    step_runs (Step-F.Text i text) n in_loop h w = text_runs n i text (get_less b.here.slots i h.right.slot h.right.names) w
    step_runs (Step-F.Assign p e) n in_loop h w = assign_runs n p e h.right.type h.right.object h.right.value w
    step_runs (Step-F.Call o form) n in_loop h w = call_goal_runs n o form h.right w
    step_runs (Step-F.If e xs ys) n in_loop h w =
        let x : Work × Expr = expr_lowered n e w in
        let a : Work = within x.0 (map stmt_lowered (map at xs)) in
        if_runs n e h.condition.type h.condition.operand (rich_codes_of (map at xs)) (rich_codes_of (map at ys)) w a (within a (map stmt_lowered (map at ys))) (list_runs at all_run xs in_loop h.first (inside x.0)) (list_runs at all_run ys in_loop h.second (inside a))
    step_runs (Step-F.While e ys) n in_loop h w = while_runs n e (map at ys) in_loop h (list_runs at all_run ys true h.turn) w
    step_runs (Step-F.For init o xs ys) n in_loop h w =
        let r = typed_front in_loop (map rich_code_of (map at init)) (Code.Loop n (rich_test_of o) (rich_codes_of (map at xs)) (rich_codes_of (map at ys))) h in
        for_runs n (map rich_code_of (map at init)) (within w (map stmt_lowered (map at init))) o (map at xs) (map at ys) in_loop r.1 (list_runs at all_run xs false r.1.stepped) (list_runs at all_run ys true r.1.turn) w (list_runs at all_run init in_loop r.0 (inside w))
    step_runs (Step-F.Do ys e) n in_loop h w = do_runs n e (map at ys) in_loop h (list_runs at all_run ys true h.turn) w
    step_runs (Step-F.Switch e cs ys) n in_loop h w =
        let x : Work × Expr = expr_lowered n e w in
        let t : Ty = type_of (rich_term_of e) in
        switch_runs b n (Prepared b n (rich_term_of e)) t (rich_clauses_of (map clause cs) (map at ys)) w x (tried n x.0.next (map clause_lowered (map clause cs)) (map stmt_lowered (map at ys)) (kept n t x).0) (expression n (rich_term_of e) (int h.kind) h.value w)
        (clauses_run n x.0.next h.kind cs ys in_loop h.parts (kept n t x).0)
    step_runs (Step-F.Return o) n in_loop h w = return_runs n o h.right w
    step_runs (Step-F.ReturnCall form) n in_loop h w = call_back_runs n form h.right w
    step_runs Step-F.Break n in_loop h w = jump_runs n step.Break Way.Breaks (break_is n) w
    step_runs Step-F.Continue n in_loop h w = jump_runs n step.Continue Way.Continues (continue_is n) w
    step_runs Step-F.Empty n in_loop h w = jump_runs n step.Empty Way.Ends (empty_is n) w
    step_runs (Step-F.Block ys) n in_loop h w = runs_block b n (RS (rich_codes_of (map at ys))) w (within w (map stmt_lowered (map at ys))) (list_runs at all_run ys in_loop h (inside w))

  stmt_runs : (s : RichStmt) → StmtRuns s
  stmt_runs = ind-Stmt StepRuns ClauseRuns StmtRuns
      (λ x y is n in_loop h w.
      subst (λ (f : ℕ → Code). Runs b (R1 (f n)) w (step_lowered (roll-Step x) n w)) (sym (fold-roll-Step (ℕ → Code) Labelled Code rich_step_layer rich_clause_layer rich_stmt_layer x))
      (subst (λ (f : ℕ → Work → Work). Runs b (R1 (coded x n)) w (f n w)) (sym (fold-roll-Step (ℕ → Work → Work) Branch (Work → Work) step_layer clause_layer stmt_layer x))
      (subst StepLayer is (step_runs (λ e. e.0) (λ e. e.0) (λ e. e.0) (λ e. e.1) (λ e. e.1) y) n in_loop
      (subst (λ (f : ℕ → Code). Typed in_loop (f n)) (fold-roll-Step (ℕ → Code) Labelled Code rich_step_layer rich_clause_layer rich_stmt_layer x) h) w)))
      (λ x y is.
      subst (λ l. Labels l (clause_lowered (roll-Clause x))) (sym (fold-roll-Clause (ℕ → Code) Labelled Code rich_step_layer rich_clause_layer rich_stmt_layer x))
      (subst (Labels (x.labels, rich_codes_of x.body)) (sym (fold-roll-Clause (ℕ → Work → Work) Branch (Work → Work) step_layer clause_layer stmt_layer x))
      (refl, subst BodyLayer (ap (λ z. z.body) is) (list_runs (λ e. e.0) (λ e. e.1) y.body))))
      (λ x y is in_loop h w.
      let s : RichStmt = record { number = x.number; step = x.step } in
      subst (λ (c : Code). Runs b (R1 c) w (stmt_lowered s w)) (sym (fold_out-Stmt (ℕ → Code) Labelled Code rich_step_layer rich_clause_layer rich_stmt_layer s))
      (subst (λ (f : Work → Work). Runs b (R1 (rich_numbered x.step x.number)) w (f w)) (sym (fold_out-Stmt (ℕ → Work → Work) Branch (Work → Work) step_layer clause_layer stmt_layer s))
      (subst StepRuns (ap (λ z. z.step) is) y.step.1 x.number in_loop (subst (Typed in_loop) (fold_out-Stmt (ℕ → Code) Labelled Code rich_step_layer rich_clause_layer rich_stmt_layer s) h) w)))

  pub body_runs : (ss : List RichStmt) (in_loop : Bool) → AllTyped in_loop (rich_codes_of ss) → ListRuns ss
  body_runs [] in_loop h w = runs_end b w (sym (append-nil w.code))
  body_runs (s ∷ ss) in_loop h w = runs_seq b (R1 (rich_code_of s)) (RS (rich_codes_of ss)) w (stmt_lowered s w) (run (stmt_lowered s w) (map stmt_lowered ss)) (stmt_runs s in_loop h.0 w) (body_runs ss in_loop h.1 (stmt_lowered s w))
