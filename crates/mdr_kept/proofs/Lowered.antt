-- Lowered code names objects only where they live, if the code did.
use Rattle.std.proofs.Common.{◌≡◌, ℕ, ℤ, Bool, true, false, not, pos, List, [], ◌∷◌, ◌++◌, map, Option, Some, None, slice_get, refl, sym, ap, ◌∙◌, subst}
use Rattle.std.specs.Option.{option_map}
use Rattle.mdr_core.proofs.Coded.{addr_is, and_is, assign_is, bin_is, block_is, break_is, call_is, code_is, continue_is, conv_is, decay_is, declare_is, deref_is, diff_is, empty_is, flip_is, for_is, from_void_is, global_is, if_is, index_is, lit_is, load_is, member_is, move_is, neg_is, not_is, numbered, object_is, or_is, rel_is, return_call_is, return_is, slot_is, text_is, to_void_is, while_is}
use Rattle.mdr_core.specs.Code.{Code, Codes, Goal, Way, Term as PlainTerm, Lvalue as PlainLvalue}
use Rattle.mdr_core.specs.declared.code.CallForm.{CallForm}
use Rattle.mdr_core.specs.declared.code.Callee.{Callee}
use Rattle.mdr_core.specs.declared.code.Callee.TheVariants as callee
use Rattle.mdr_core.specs.declared.code.Expr.{Expr}
use Rattle.mdr_core.specs.declared.code.Expr.TheVariants as expr
use Rattle.mdr_core.specs.declared.code.Lval.{Lval}
use Rattle.mdr_core.specs.declared.code.Lval.TheVariants as lval
use Rattle.mdr_core.specs.declared.code.RelOp.TheVariants.{Eq}
use Rattle.mdr_core.specs.declared.code.Step.{Step}
use Rattle.mdr_core.specs.declared.code.Step.TheVariants as step
use Rattle.mdr_core.specs.declared.code.Stmt.{Stmt}
use Rattle.mdr_core.specs.declared.kind.Kind.{Kind}
use Rattle.mdr_core.specs.declared.kind.Kind.TheVariants.{S32}
use Rattle.mdr_core.specs.declared.types.Ty.{Ty, out-Ty}
use Rattle.mdr_core.specs.declared.types.Ty.TheOpen.{Ty-F}
use Rattle.mdr_core.specs.declared.types.Ty.TheVariants as type
use Rattle.mdr_core.specs.declared.value.Value.{Value}
use Rattle.mdr_core.specs.declared.value.Value.TheVariants as value
use Rattle.mdr_core.specs.Conversions.{promoted}
use Rattle.mdr_core.specs.Folds.{before, call_of, called_of, code_of, codes_of, goal_of, lvalue_of, term_of, test_of}
use Rattle.mdr_core.specs.Kinds.{is_same_kind}
use Rattle.mdr_core.specs.Layout.{chosen}
use Rattle.mdr_core.specs.Typing.{Slot}
use Rattle.mdr_rich.specs.declared.code.CallForm.{CallForm as RichCallForm}
use Rattle.mdr_rich.specs.declared.code.Clause.{Clause as RichClause}
use Rattle.mdr_rich.specs.declared.code.Step.TheViews.{roll-Clause}
use Rattle.mdr_rich.specs.declared.code.Expr.{Expr as RichExpr}
use Rattle.mdr_rich.specs.declared.code.Lval.{Lval as RichLval}
use Rattle.mdr_rich.specs.declared.code.Step.{Step as RichStep, roll-Step}
use Rattle.mdr_rich.specs.declared.code.Step.TheFolds.{ind-Stmt, map-Step, fold-roll-Step, fold-roll-Clause, fold_out-Stmt}
use Rattle.mdr_rich.specs.declared.code.Step.TheOpen.{Step-F}
use Rattle.mdr_rich.specs.declared.code.Stmt.{Stmt as RichStmt}
use Rattle.mdr_rich.proofs.Coded.{numbered as rich_numbered}
use Rattle.mdr_rich.specs.Activity.{are_active, is_active, is_active_place}
use Rattle.mdr_rich.specs.Carried.{type_at, type_of}
use Rattle.mdr_rich.specs.Code.{Called, Lvalue, Term, Terms, Code as RichCode, Codes as RichCodes, term_list}
use Rattle.mdr_rich.specs.Folds.{Labelled, clause_list, clause_layer as rich_clause_layer, clause_of as rich_clause_of, term_of as rich_term_of, lvalue_of as rich_lvalue_of, called_of as rich_called_of, call_of as rich_call_of, goal_of as rich_goal_of, test_of as rich_test_of, code_list as rich_code_list, before as rich_before, step_layer as rich_step_layer, stmt_layer as rich_stmt_layer, code_of as rich_code_of, codes_of as rich_codes_of}
use Rattle.mdr_lower.specs.declared.work.Work.{Work}
use Rattle.mdr_lower.specs.Lowering.{Branch, again, always, arm, armed, as_call, as_kind, assigned, begun, blocked, bumped, call_lowered, call_made, called, choice, clause_layer, clause_lowered, conjoined, counted, counted_while, disjoined, do_lowered, done, element, expr_lowered, flagged, for_lowered, inside, is_label, is_labelled, keeps, kept, low, low_args, low_callee, low_place, lowered, mapped, or_label, outside, part, perhaps_lowered, place_lowered, put, repeated, run, slot_value, step_layer, step_lowered, step_operator, stepped, stepped_by, stmt, stmt_layer, stmt_lowered, switch_lowered, target_lowered, tested, tried, truth, turn, two, while_lowered, with_slot, within}
use Rattle.mdr_kept.specs.Scopes as plain
use Rattle.mdr_kept.specs.Scopes.{is_object}
use Rattle.mdr_kept.specs.Named.{TermScoped, LvalueScoped, CalleeScoped, TermsScoped, FormScoped, GoalScoped, OptionScoped, CodeScoped, CodesScoped, ClausesScoped, behind}
use Rattle.mdr_kept.proofs.Living.{behinds}

-- ---- code behind code

module _ (all : List Slot) where
  abbrev leaving : List ℕ → Codes → List ℕ
  leaving objects Codes.End = objects
  leaving objects (Codes.Then c cs) = leaving (plain.behind all objects c) cs

  scoped_last : (xs : List Stmt) (x : Stmt) (objects : List ℕ) → plain.CodesScoped all objects (codes_of xs) → plain.CodeScoped all (leaving objects (codes_of xs)) (code_of x) → plain.CodesScoped all objects (codes_of (xs ++ x ∷ []))
  scoped_last [] x objects h k = (k, tt)
  scoped_last (y ∷ ys) x objects h k = (h.0, scoped_last ys x (plain.behind all objects (code_of y)) h.1 k)

  leaving_last : (xs : List Stmt) (x : Stmt) (objects : List ℕ) → leaving objects (codes_of (xs ++ x ∷ [])) ≡ plain.behind all (leaving objects (codes_of xs)) (code_of x)
  leaving_last [] x objects = refl
  leaving_last (y ∷ ys) x objects = leaving_last ys x (plain.behind all objects (code_of y))

  scoped_before : (xs : List Stmt) (c : Code) (objects : List ℕ) → plain.CodesScoped all objects (codes_of xs) → plain.CodeScoped all (leaving objects (codes_of xs)) c → plain.CodesScoped all objects (before (map code_of xs) c)
  scoped_before [] c objects h k = (k, tt)
  scoped_before (x ∷ xs) c objects h k = (h.0, scoped_before xs c (plain.behind all objects (code_of x)) h.1 k)

  terms_last : (objects : List ℕ) (es : List Expr) (e : Expr) → plain.TermsScoped objects (map term_of es) → plain.TermScoped objects (term_of e) → plain.TermsScoped objects (map term_of (es ++ e ∷ []))
  terms_last objects [] e h k = (k, tt)
  terms_last objects (x ∷ xs) e h k = (h.0, terms_last objects xs e h.1 k)

  -- ---- work at a place

  -- the statements of a block so far name objects where they live, if some did in front of them, and these live behind
  record At (first objects : List ℕ) (w : Work) : Type 0 where
    scoped : plain.CodesScoped all first (codes_of w.code)
    leaves : leaving first (codes_of w.code) ≡ objects

  at_begin : (objects : List ℕ) (w : Work) → At objects objects (inside w)
  at_begin objects w = record { scoped = tt; leaves = refl }

  -- with other slots
  at_same : {first objects : List ℕ} {w : Work} (v : Work) → v.code ≡ w.code → At first objects w → At first objects v
  at_same {first} {objects} {w} v is h = record {
    scoped = subst (λ (c : List Stmt). plain.CodesScoped all first (codes_of c)) (sym is) h.scoped;
    leaves = ap (λ (c : List Stmt). leaving first (codes_of c)) is ∙ h.leaves;
  }

  put_at : {first objects more : List ℕ} (w : Work) (n : ℕ) (s : Step) (c : Code) → numbered s n ≡ c → plain.CodeScoped all objects c → plain.behind all objects c ≡ more → At first objects w → At first more (put n s w)
  put_at {first} {objects} {more} w n s c is k b h =
      let e : code_of (stmt n s) ≡ c = code_is (stmt n s) s refl ∙ is in
      record {
        scoped = scoped_last w.code (stmt n s) first h.scoped (subst (λ os. plain.CodeScoped all os (code_of (stmt n s))) (sym h.leaves) (subst (plain.CodeScoped all objects) (sym e) k));
        leaves = leaving_last w.code (stmt n s) first ∙ ap (λ os. plain.behind all os (code_of (stmt n s))) h.leaves ∙ ap (plain.behind all objects) e ∙ b;
      }

  -- ---- expressions and lvalues, where these objects live

  module _ (objects : List ℕ) where
    abbrev V : Expr → Type 0
    V e = plain.TermScoped objects (term_of e)

    abbrev P : Lval → Type 0
    P p = plain.LvalueScoped objects (lvalue_of p)

    abbrev All : List Expr → Type 0
    All es = plain.TermsScoped objects (map term_of es)

    abbrev C : Callee → Type 0
    C c = plain.CalleeScoped objects (called_of c)

    abbrev F : CallForm → Type 0
    F form = plain.FormScoped objects (call_of form)

    record Gives {A : Type 0} (Q : A → Type 0) (first : List ℕ) (x : Work × A) : Type 0 where
      at : At first objects x.0
      value : Q x.1

    gives_map : {A B : Type 0} {Q : A → Type 0} {R : B → Type 0} {first : List ℕ} {x : Work × A} (f : A → B) → Gives Q first x → ((a : A) → Q a → R (f a)) → Gives R first (mapped f x)
    gives_map {A} {B} {Q} {R} {first} {x} f g h = record { at = g.at; value = h x.1 g.value }

    gives_two : {A B D : Type 0} {Q : A → Type 0} {R : B → Type 0} {S : D → Type 0} {first : List ℕ} {x : Work × A} {y : Work → Work × B} (f : A → B → D) → Gives Q first x → ((v : Work) → At first objects v → Gives R first (y v)) → ((a : A) (b : B) → Q a → R b → S (f a b)) → Gives S first (two f x y)
    gives_two {A} {B} {D} {Q} {R} {S} {first} {x} {y} f g k h = let second = k x.0 g.at in record { at = second.at; value = h x.1 (y x.0).1 g.value second.value }

    either : {A : Type 0} {Q : A → Type 0} {first : List ℕ} {x y : Work × A} (c : Bool) → Gives Q first x → Gives Q first y → Gives Q first (chosen c x y)
    either true g h = g
    either false g h = h

    value_at : (e : Expr) (d : PlainTerm) → term_of e ≡ d → plain.TermScoped objects d → V e
    value_at e d is h = subst (plain.TermScoped objects) (sym is) h

    place_at : (p : Lval) (q : PlainLvalue) → lvalue_of p ≡ q → plain.LvalueScoped objects q → P p
    place_at p q is h = subst (plain.LvalueScoped objects) (sym is) h

    -- ---- values that are kept

    slot_place : (i : ℕ) → P (lval.Slot i)
    slot_place i = place_at (lval.Slot i) (PlainLvalue.Slot i) (slot_is i) tt

    slot_scoped : (i : ℕ) → V (slot_value i)
    slot_scoped i = value_at (slot_value i) (PlainTerm.Load (lvalue_of (lval.Slot i))) (load_is (lval.Slot i)) (slot_place i)

    assign_at : {first : List ℕ} (w : Work) (n : ℕ) (p : Lval) (e : Expr) → P p → V e → At first objects w → At first objects (put n (step.Assign p e) w)
    assign_at w n p e h k a = put_at w n (step.Assign p e) (Code.Assign n (lvalue_of p) (term_of e)) (assign_is n p e) (h, k) refl a

    kept_at : {first : List ℕ} {x : Work × Expr} (n : ℕ) (t : Ty) → Gives V first x → Gives V first (kept n t x)
    kept_at {first} {x} n t g = record { at = assign_at (with_slot t x.0) n (lval.Slot x.0.next) x.1 (slot_place x.0.next) g.value (at_same (with_slot t x.0) refl g.at); value = slot_scoped x.0.next }

    part_at : {first : List ℕ} {x : Work × Expr} (is_kept : Bool) (n : ℕ) (t : Ty) → Gives V first x → Gives V first (part is_kept n t x)
    part_at true n t g = kept_at n t g
    part_at false n t g = g

    truth_scoped : (e : Expr) → V e → V (truth e)
    truth_scoped e h = value_at (truth e) (PlainTerm.Not (term_of (expr.Not e))) (not_is (expr.Not e)) (value_at (expr.Not e) (PlainTerm.Not (term_of e)) (not_is e) h)

    -- ---- calls that are kept

    called_at : {first : List ℕ} {x : Work × CallForm} (n : ℕ) (t : Ty) → Gives F first x → Gives V first (called n t x)
    called_at {first} {x} n t g = record {
      at = put_at (with_slot t x.0) n (step.Call (Some (lval.Slot x.0.next)) x.1) (Code.Call n (Goal.Into (lvalue_of (lval.Slot x.0.next))) (call_of x.1)) (call_is n (Some (lval.Slot x.0.next)) x.1) (slot_place x.0.next, g.value) refl (at_same (with_slot t x.0) refl g.at);
      value = slot_scoped x.0.next;
    }

    -- ---- one of two lists of statements

    arm_at : {first : List ℕ} {x : Work × Expr} (n i : ℕ) → Gives V first x → At first objects (arm n i x)
    arm_at {first} {x} n i g = assign_at x.0 n (lval.Slot i) x.1 (slot_place i) g.value g.at

    if_at : {first : List ℕ} (w : Work) (n : ℕ) (e : Expr) (one other : Work) → V e → plain.CodesScoped all objects (codes_of one.code) → plain.CodesScoped all objects (codes_of other.code) → At first objects w → At first objects (put n (step.If e one.code other.code) (outside w other))
    if_at w n e one other h a b k = put_at (outside w other) n (step.If e one.code other.code) (Code.If n (term_of e) (codes_of one.code) (codes_of other.code)) (if_is n e one.code other.code) (h, a, b) refl (at_same (outside w other) refl k)

    armed_at : {first : List ℕ} (w : Work) (n i : ℕ) (e : Expr) (one other : Work) → V e → At objects objects one → At objects objects other → At first objects w → Gives V first (armed n i e w one other)
    armed_at w n i e one other h a b k = record { at = if_at w n e one other h a.scoped b.scoped k; value = slot_scoped i }

    -- whatever stands in front of it
    abbrev Lowers : (Work → Work × Expr) → Type 0
    Lowers y = (first : List ℕ) (v : Work) → At first objects v → Gives V first (y v)

    choice_at : {first : List ℕ} {x : Work × Expr} (n : ℕ) (t : Ty) (a b : Work → Work × Expr) → Gives V first x → Lowers a → Lowers b → Gives V first (choice n t x a b)
    choice_at {first} {x} n t a b g h k =
        let v : Work = with_slot t x.0 in
        let one : Work = arm n x.0.next (a (inside v)) in
        armed_at v n x.0.next x.1 one (arm n x.0.next (b (inside one))) g.value
        (arm_at n x.0.next (h objects (inside v) (at_begin objects v))) (arm_at n x.0.next (k objects (inside one) (at_begin objects one))) (at_same v refl g.at)

    -- the truth of what is needed
    module _ (n : ℕ) (x : Work × Expr) (b : Work → Work × Expr) (k : Lowers b) where
      abbrev First : Work × Expr
      First = kept n (type.Int S32) (mapped truth x)

      abbrev Second : Work
      Second = arm n x.0.next (mapped truth (b (inside First.0)))

      second_at : At objects objects Second
      second_at = arm_at n x.0.next (gives_map truth (k objects (inside First.0) (at_begin objects First.0)) truth_scoped)

      conjoined_at : {first : List ℕ} → Gives V first x → Gives V first (conjoined n x b)
      conjoined_at g = let f = kept_at n (type.Int S32) (gives_map truth g truth_scoped) in armed_at First.0 n x.0.next First.1 Second (inside Second) f.value second_at (at_begin objects Second) f.at

      disjoined_at : {first : List ℕ} → Gives V first x → Gives V first (disjoined n x b)
      disjoined_at g = let f = kept_at n (type.Int S32) (gives_map truth g truth_scoped) in armed_at First.0 n x.0.next First.1 (inside First.0) Second f.value (at_begin objects First.0) second_at f.at

    -- ---- `++` and `--`

    as_kind_scoped : (k l : Kind) (e : Expr) → V e → V (as_kind k l e)
    as_kind_scoped k l e h = by (is_same_kind k l) where
      by : (b : Bool) → V (chosen b e (expr.Conv l e))
      by true = h
      by false = value_at (expr.Conv l e) (PlainTerm.Conv l (term_of e)) (conv_is l e) h

    constant_scoped : (v : Value) → V (expr.Lit v)
    constant_scoped v = value_at (expr.Lit v) (PlainTerm.Lit v) (lit_is v) tt

    literal_scoped : (k : Kind) → V (expr.Lit (value.Int k (pos 1)))
    literal_scoped k = constant_scoped (value.Int k (pos 1))

    -- ---- the labels of a clause, with which the value in a slot is tried

    label_scoped : (i : ℕ) (v : Value) → V (is_label i v)
    label_scoped i v = value_at (is_label i v) (PlainTerm.Rel Eq (term_of (slot_value i)) (term_of (expr.Lit v))) (rel_is Eq (slot_value i) (expr.Lit v)) (slot_scoped i, constant_scoped v)

    or_label_scoped : (i : ℕ) (e : Expr) (vs : List Value) → V e → V (or_label i e vs)
    or_label_scoped i e [] h = h
    or_label_scoped i e (v ∷ vs) h = or_label_scoped i (expr.Or e (is_label i v)) vs (value_at (expr.Or e (is_label i v)) (PlainTerm.Or (term_of e) (term_of (is_label i v))) (or_is e (is_label i v)) (h, label_scoped i v))

    labels_scoped : (i : ℕ) (vs : List Value) → V (is_labelled i vs)
    labels_scoped i [] = constant_scoped (value.Int S32 (pos 0))
    labels_scoped i (v ∷ vs) = or_label_scoped i (is_label i v) vs (label_scoped i v)

    stepped_by_scoped : (up : Bool) (e : Expr) (l : Ty-F Ty) → V e → V (stepped_by up e l)
    stepped_by_scoped up e (Ty-F.Int k) h =
        let wide : Kind = promoted k in
        let one : Expr = expr.Lit (value.Int wide (pos 1)) in
        as_kind_scoped wide k (expr.Bin (step_operator up) wide (as_kind k wide e) one)
        (value_at (expr.Bin (step_operator up) wide (as_kind k wide e) one) (PlainTerm.Bin (step_operator up) wide (term_of (as_kind k wide e)) (term_of one)) (bin_is (step_operator up) wide (as_kind k wide e) one) (as_kind_scoped k wide e h, literal_scoped wide))
    stepped_by_scoped up e Ty-F.Lock h = h
    stepped_by_scoped up e (Ty-F.Struct s) h = h
    stepped_by_scoped up e (Ty-F.Ptr t) h =
        let one : Expr = expr.Lit (value.Int S32 (pos 1)) in
        value_at (expr.Move (not up) e one) (PlainTerm.Move (not up) (term_of e) (term_of one)) (move_is (not up) e one) (h, literal_scoped S32)
    stepped_by_scoped up e Ty-F.VoidPtr h = h
    stepped_by_scoped up e (Ty-F.Fun ts) h = h
    stepped_by_scoped up e Ty-F.Void h = h

    stepped_scoped : (up : Bool) (t : Ty) (e : Expr) → V e → V (stepped up t e)
    stepped_scoped up t e h = stepped_by_scoped up e (out-Ty t) h

    load_scoped : (p : Lval) → P p → V (expr.Load p)
    load_scoped p h = value_at (expr.Load p) (PlainTerm.Load (lvalue_of p)) (load_is p) h

    bumped_at : {first : List ℕ} {x : Work × Lval} (n : ℕ) (t : Ty) (up first_one : Bool) → Gives P first x → Gives V first (bumped n t up first_one x)
    bumped_at {first} {x} n t up true g =
        let load = load_scoped x.1 g.value in
        kept_at n t (record { at = assign_at x.0 n x.1 (stepped up t (expr.Load x.1)) g.value (stepped_scoped up t (expr.Load x.1) load) g.at; value = load })
    bumped_at {first} {x} n t up false g =
        let old : Gives V first (kept n t (x.0, expr.Load x.1)) = kept_at n t (record { at = g.at; value = load_scoped x.1 g.value }) in
        record { at = assign_at (kept n t (x.0, expr.Load x.1)).0 n x.1 (stepped up t (slot_value x.0.next)) g.value (stepped_scoped up t (slot_value x.0.next) old.value) old.at; value = old.value }

    -- ---- forms of one part

    one_at : {first : List ℕ} {x : Work × Expr} (f : Expr → Expr) (g : PlainTerm → PlainTerm) → ((e : Expr) → term_of (f e) ≡ g (term_of e)) → ((d : PlainTerm) → plain.TermScoped objects d → plain.TermScoped objects (g d)) → Gives V first x → Gives V first (mapped f x)
    one_at f g is h v = gives_map f v (λ e k. value_at (f e) (g (term_of e)) (is e) (h (term_of e) k))

    of_place : {first : List ℕ} {x : Work × Lval} (f : Lval → Expr) (g : PlainLvalue → PlainTerm) → ((p : Lval) → term_of (f p) ≡ g (lvalue_of p)) → ((q : PlainLvalue) → plain.LvalueScoped objects q → plain.TermScoped objects (g q)) → Gives P first x → Gives V first (mapped f x)
    of_place f g is h v = gives_map f v (λ p k. value_at (f p) (g (lvalue_of p)) (is p) (h (lvalue_of p) k))

    -- ---- all forms, in the statement of this number

    module _ (n : ℕ) where
      call_at : (f : Called) (args : Terms) (shape : Option Ty) (format : Option (List ℕ)) (first : List ℕ) (w : Work) → Gives C first (low_callee n (are_active args) f w) → ((v : Work) → At first objects v → Gives All first (low_args n args [] v))
          → Gives F first (two (as_call shape format) (low_callee n (are_active args) f w) (low_args n args []))
      call_at f args shape format first w g h = gives_two (as_call shape format) g h (λ c es s r. (s, r))

      mutual
        low_at : (e : Term) → TermScoped objects e → (first : List ℕ) (w : Work) → At first objects w → Gives V first (low n e w)
        low_at (Term.Lit v) h first w a = record { at = a; value = value_at (expr.Lit v) (PlainTerm.Lit v) (lit_is v) tt }
        low_at (Term.Load p) h first w a = of_place expr.Load PlainTerm.Load load_is (λ q k. k) (low_place_at p h first w a)
        low_at (Term.Addr p) h first w a = of_place expr.Addr PlainTerm.Addr addr_is (λ q k. k) (low_place_at p h first w a)
        low_at (Term.Decay p) h first w a = of_place expr.Decay PlainTerm.Decay decay_is (λ q k. k) (low_place_at p h first w a)
        low_at (Term.Neg k e) h first w a = one_at (expr.Neg k) (PlainTerm.Neg k) (neg_is k) (λ d s. s) (low_at e h first w a)
        low_at (Term.Flip k e) h first w a = one_at (expr.Flip k) (PlainTerm.Flip k) (flip_is k) (λ d s. s) (low_at e h first w a)
        low_at (Term.Not e) h first w a = one_at expr.Not PlainTerm.Not not_is (λ d s. s) (low_at e h first w a)
        low_at (Term.Bin op k x y) h first w a = gives_two (expr.Bin op k) (part_at (keeps (is_active y) x) n (type_of x) (low_at x h.0 first w a))
            (λ v b. low_at y h.1 first v b) (λ c d s r. value_at (expr.Bin op k c d) (PlainTerm.Bin op k (term_of c) (term_of d)) (bin_is op k c d) (s, r))
        low_at (Term.Rel op x y) h first w a = gives_two (expr.Rel op) (part_at (keeps (is_active y) x) n (type_of x) (low_at x h.0 first w a))
            (λ v b. low_at y h.1 first v b) (λ c d s r. value_at (expr.Rel op c d) (PlainTerm.Rel op (term_of c) (term_of d)) (rel_is op c d) (s, r))
        low_at (Term.And x y) h first w a = either (is_active y)
            (conjoined_at n (low n x w) (low n y) (λ f v b. low_at y h.1 f v b) (low_at x h.0 first w a))
            (gives_two expr.And (low_at x h.0 first w a) (λ v b. low_at y h.1 first v b) (λ c d s r. value_at (expr.And c d) (PlainTerm.And (term_of c) (term_of d)) (and_is c d) (s, r)))
        low_at (Term.Or x y) h first w a = either (is_active y)
            (disjoined_at n (low n x w) (low n y) (λ f v b. low_at y h.1 f v b) (low_at x h.0 first w a))
            (gives_two expr.Or (low_at x h.0 first w a) (λ v b. low_at y h.1 first v b) (λ c d s r. value_at (expr.Or c d) (PlainTerm.Or (term_of c) (term_of d)) (or_is c d) (s, r)))
        low_at (Term.Conv k e) h first w a = one_at (expr.Conv k) (PlainTerm.Conv k) (conv_is k) (λ d s. s) (low_at e h first w a)
        low_at (Term.ToVoid e) h first w a = one_at expr.ToVoid PlainTerm.ToVoid to_void_is (λ d s. s) (low_at e h first w a)
        low_at (Term.FromVoid t e) h first w a = one_at (expr.FromVoid t) (PlainTerm.FromVoid t) (from_void_is t) (λ d s. s) (low_at e h first w a)
        low_at (Term.Move back p i) h first w a = gives_two (expr.Move back) (part_at (keeps (is_active i) p) n (type_of p) (low_at p h.0 first w a))
            (λ v b. low_at i h.1 first v b) (λ c d s r. value_at (expr.Move back c d) (PlainTerm.Move back (term_of c) (term_of d)) (move_is back c d) (s, r))
        low_at (Term.Diff p q) h first w a = gives_two expr.Diff (part_at (keeps (is_active q) p) n (type_of p) (low_at p h.0 first w a))
            (λ v b. low_at q h.1 first v b) (λ c d s r. value_at (expr.Diff c d) (PlainTerm.Diff (term_of c) (term_of d)) (diff_is c d) (s, r))
        low_at (Term.Cond t c x y) h first w a = choice_at n t (low n x) (low n y) (low_at c h.0 first w a) (λ f v b. low_at x h.1 f v b) (λ f v b. low_at y h.2 f v b)
        low_at (Term.Call t f args shape format) h first w a = called_at n t (call_at f args shape format first w (low_callee_at (are_active args) f h.0 first w a) (λ v b. low_args_at args h.1 first [] v tt b))
        low_at (Term.Bump t up first_one p) h first w a = bumped_at n t up first_one (low_place_at p h first w a)

        low_place_at : (p : Lvalue) → LvalueScoped objects p → (first : List ℕ) (w : Work) → At first objects w → Gives P first (low_place n p w)
        low_place_at (Lvalue.Slot i t) h first w a = record { at = a; value = slot_place i }
        low_place_at (Lvalue.Object i t) h first w a = record { at = a; value = place_at (lval.Object i) (PlainLvalue.Object i) (object_is i) h }
        low_place_at (Lvalue.Global g t) h first w a = record { at = a; value = place_at (lval.Global g) (PlainLvalue.Global g) (global_is g) tt }
        low_place_at (Lvalue.Deref e) h first w a = gives_map lval.Deref (low_at e h first w a) (λ d s. place_at (lval.Deref d) (PlainLvalue.Deref (term_of d)) (deref_is d) s)
        low_place_at (Lvalue.Member p f t) h first w a = gives_map (λ (l : Lval). lval.Member l f) (low_place_at p h first w a) (λ l s. place_at (lval.Member l f) (PlainLvalue.Member (lvalue_of l) f) (member_is l f) s)
        low_place_at (Lvalue.Index p e) h first w a = either (is_active e)
            (gives_two element (kept_at n (type.Ptr (type_at p)) (of_place expr.Decay PlainTerm.Decay decay_is (λ q k. k) (low_place_at p h.0 first w a)))
            (λ v b. low_at e h.1 first v b) (λ c d s r. place_at (element c d) (PlainLvalue.Deref (term_of (expr.Move false c d))) (deref_is (expr.Move false c d)) (value_at (expr.Move false c d) (PlainTerm.Move false (term_of c) (term_of d)) (move_is false c d) (s, r))))
            (gives_two lval.Index (low_place_at p h.0 first w a) (λ v b. low_at e h.1 first v b) (λ l d s r. place_at (lval.Index l d) (PlainLvalue.Index (lvalue_of l) (term_of d)) (index_is l d) (s, r)))

        low_callee_at : (later : Bool) (f : Called) → CalleeScoped objects f → (first : List ℕ) (w : Work) → At first objects w → Gives C first (low_callee n later f w)
        low_callee_at later (Called.Direct f) h first w a = record { at = a; value = tt }
        low_callee_at later (Called.Through e) h first w a = gives_map callee.Through (part_at (keeps later e) n (type_of e) (low_at e h first w a)) (λ d s. s)
        low_callee_at later (Called.Service s) h first w a = record { at = a; value = tt }

        low_args_at : (args : Terms) → TermsScoped objects args → (first : List ℕ) (es : List Expr) (w : Work) → All es → At first objects w → Gives All first (low_args n args es w)
        low_args_at Terms.End h first es w k a = record { at = a; value = k }
        low_args_at (Terms.Then e rest) h first es w k a =
            let x : Work × Expr = part (keeps (are_active rest) e) n (type_of e) (low n e w) in
            let g = part_at (keeps (are_active rest) e) n (type_of e) (low_at e h.0 first w a) in
            low_args_at rest h.1 first (es ++ x.1 ∷ []) x.0 (terms_last objects es x.1 k g.value) g.at

      -- ---- parts of statements

      form_at : (form : RichCallForm) → FormScoped objects (rich_call_of form) → (first : List ℕ) (w : Work) → At first objects w → Gives F first (call_lowered n form w)
      form_at form h first w a =
          let args : Terms = term_list (map rich_term_of form.args) in
          call_at (rich_called_of form.callee) args form.shape form.format first w (low_callee_at (are_active args) (rich_called_of form.callee) h.0 first w a) (λ v b. low_args_at args h.1 first [] v tt b)

      target_at : (o : Option RichLval) → GoalScoped objects (rich_goal_of o) → (first : List ℕ) (w : Work) → At first objects w → Gives (λ p. plain.GoalScoped objects (goal_of p)) first (target_lowered n o w)
      target_at None h first w a = record { at = a; value = tt }
      target_at (Some p) h first w a = gives_map Some (low_place_at (rich_lvalue_of p) h first w a) (λ l s. s)

      perhaps_at : (o : Option RichExpr) → OptionScoped objects (option_map rich_term_of o) → (first : List ℕ) (w : Work) → At first objects w → Gives (λ e. plain.OptionScoped objects (option_map term_of e)) first (perhaps_lowered n o w)
      perhaps_at None h first w a = record { at = a; value = tt }
      perhaps_at (Some e) h first w a = gives_map Some (low_at (rich_term_of e) h first w a) (λ d s. s)

      -- ---- statements without statements inside

      assigned_at : (p : RichLval) (e : RichExpr) → LvalueScoped objects (rich_lvalue_of p) → TermScoped objects (rich_term_of e) → (first : List ℕ) (w : Work) → At first objects w → At first objects (done n (assigned n p e w))
      assigned_at p e h k first w a =
          let x : Work × Expr = part (keeps (is_active_place (rich_lvalue_of p)) (rich_term_of e)) n (type_of (rich_term_of e)) (expr_lowered n e w) in
          let g = part_at (keeps (is_active_place (rich_lvalue_of p)) (rich_term_of e)) n (type_of (rich_term_of e)) (low_at (rich_term_of e) k first w a) in
          let l = low_place_at (rich_lvalue_of p) h first x.0 g.at in
          assign_at (place_lowered n p x.0).0 n (place_lowered n p x.0).1 x.1 l.value g.value l.at

      call_made_at : (o : Option RichLval) (form : RichCallForm) → GoalScoped objects (rich_goal_of o) → FormScoped objects (rich_call_of form) → (first : List ℕ) (w : Work) → At first objects w → At first objects (done n (call_made n o form w))
      call_made_at o form h k first w a =
          let f = form_at form k first w a in
          let x : Work × CallForm = call_lowered n form w in
          let y : Work × Option Lval = target_lowered n o x.0 in
          let g = target_at o h first x.0 f.at in
          put_at y.0 n (step.Call y.1 x.1) (Code.Call n (goal_of y.1) (call_of x.1)) (call_is n y.1 x.1) (g.value, f.value) refl g.at

      return_at : (o : Option RichExpr) → OptionScoped objects (option_map rich_term_of o) → (first : List ℕ) (w : Work) → At first objects w → At first objects (done n (mapped step.Return (perhaps_lowered n o w)))
      return_at o h first w a =
          let x : Work × Option Expr = perhaps_lowered n o w in
          let g = perhaps_at o h first w a in
          put_at x.0 n (step.Return x.1) (Code.Return n (option_map term_of x.1)) (return_is n x.1) g.value refl g.at

      back_at : (form : RichCallForm) → FormScoped objects (rich_call_of form) → (first : List ℕ) (w : Work) → At first objects w → At first objects (done n (mapped step.ReturnCall (call_lowered n form w)))
      back_at form h first w a =
          let x : Work × CallForm = call_lowered n form w in
          let g = form_at form h first w a in
          put_at x.0 n (step.ReturnCall x.1) (Code.Call n Goal.Back (call_of x.1)) (return_call_is n x.1) (tt, g.value) refl g.at

      -- ---- statements with statements inside

      block_at : {first : List ℕ} (w a : Work) → plain.CodesScoped all objects (codes_of a.code) → At first objects w → At first objects (blocked n w a)
      block_at w a h k = put_at (outside w a) n (step.Block a.code) (Code.Block (codes_of a.code)) (block_is n a.code) h refl (at_same (outside w a) refl k)

      while_at : {first : List ℕ} (w : Work) (e : Expr) (a : Work) → V e → plain.CodesScoped all objects (codes_of a.code) → At first objects w → At first objects (repeated n w e a)
      while_at w e a h k b = put_at (outside w a) n (step.While e a.code) (Code.Loop n (term_of e) Codes.End (codes_of a.code)) (while_is n e a.code) (h, tt, k) refl (at_same (outside w a) refl b)

      tested_at : {first : List ℕ} {x : Work × Expr} → Gives V first x → At first objects (tested n x)
      tested_at {first} {x} g =
          let leave : plain.CodesScoped all objects (codes_of (stmt n step.Break ∷ [])) = (subst (plain.CodeScoped all objects) (sym (code_is (stmt n step.Break) step.Break refl ∙ break_is n)) tt, tt) in
          put_at x.0 n (step.If x.1 [] (stmt n step.Break ∷ [])) (Code.If n (term_of x.1) Codes.End (codes_of (stmt n step.Break ∷ []))) (if_is n x.1 [] (stmt n step.Break ∷ [])) (g.value, tt, leave) refl g.at

  -- the head of a `for`
  counted_at : {first objects more : List ℕ} (w : Work) (n : ℕ) (a : Work) (e : Option Expr) (b c : Work) → At objects more a → plain.TermScoped more (test_of e) → plain.CodesScoped all more (codes_of b.code) → plain.CodesScoped all more (codes_of c.code) → At first objects w → At first objects (counted n w a e b c)
  counted_at {first} {objects} {more} w n a e b c init test next body k =
      let loop : Code = Code.Loop n (test_of e) (codes_of b.code) (codes_of c.code) in
      put_at (outside w c) n (step.For a.code e b.code c.code) (Code.Block (before (map code_of a.code) loop)) (for_is n a.code e b.code c.code)
      (scoped_before a.code loop objects init.scoped (subst (λ os. plain.CodeScoped all os loop) (sym init.leaves) (test, next, body))) refl (at_same (outside w c) refl k)

-- ---- statements

choose_at : {all : List Slot} {first objects : List ℕ} {w v : Work} (c : Bool) → At all first objects w → At all first objects v → At all first objects (chosen c w v)
choose_at true g h = g
choose_at false g h = h

-- code inside another, whatever stands around it
abbrev Within : List Slot → List ℕ → List (Work → Work) → Type 0
Within all objects fs = (w : Work) → plain.CodesScoped all objects (codes_of (within w fs).code)

-- ---- loops, over their bodies

module _ (all : List Slot) (n : ℕ) where
  turn_scoped : (e : Term) (body : List (Work → Work)) (objects : List ℕ) → TermScoped objects e → Within all objects body → (w : Work) → plain.CodesScoped all objects (codes_of (turn n (low n e (inside w)) body).code)
  turn_scoped e body objects h k w =
      let v : Work = tested n (low n e (inside w)) in
      (block_at all objects 0 v (within v body) (k v) (tested_at all objects n (low_at all objects n e h objects (inside w) (at_begin all objects w)))).scoped

  while_scoped : (e : RichExpr) (body : List (Work → Work)) (objects : List ℕ) → TermScoped objects (rich_term_of e) → Within all objects body → (first : List ℕ) (w : Work) → At all first objects w → At all first objects (while_lowered n e body w)
  while_scoped e body objects h k first w a =
      let x : Work × Expr = expr_lowered n e w in
      let g = low_at all objects n (rich_term_of e) h first w a in
      choose_at (is_active (rich_term_of e))
      (while_at all objects n w always (turn n (expr_lowered n e (inside w)) body) (literal_scoped all objects S32) (turn_scoped (rich_term_of e) body objects h k w) a)
      (while_at all objects n x.0 x.1 (within x.0 body) g.value (k x.0) g.at)

  -- behind what a `for` begins with, where more objects may live
  counted_scoped : (front init : Work) (e : Term) (next body : List (Work → Work)) (objects more : List ℕ) → At all objects more init → TermScoped more e → Within all more next → Within all more body → (first : List ℕ) → At all first objects front → At all first objects (counted_while n front init e next body)
  counted_scoped front init e next body objects more begins h k l first b =
      let step : Work = within init next in
      let x : Work × Option Expr = mapped Some (low n e (inside init)) in
      let later : Work = within x.0 next in
      choose_at (is_active e)
      (counted_at all front n init None step (turn n (low n e (inside step)) body) begins tt (k init) (turn_scoped e body more h l step) b)
      (counted_at all front n init x.1 later (within later body) begins (low_at all more n e h more (inside init) (at_begin all more init)).value (k x.0) (l later) b)

  for_scoped : (front init : Work) (o : Option RichExpr) (next body : List (Work → Work)) (objects more : List ℕ) → At all objects more init → TermScoped more (rich_test_of o) → Within all more next → Within all more body → (first : List ℕ) → At all first objects front → At all first objects (for_lowered n front init o next body)
  for_scoped front init None next body objects more begins h k l first b =
      let step : Work = within init next in
      counted_at all front n init None step (within step body) begins tt (k init) (l step) b
  for_scoped front init (Some e) next body objects more begins h k l first b = counted_scoped front init (rich_term_of e) next body objects more begins h k l first b

  -- a slot that tells whether it is the first turn
  flag_scoped : (i : ℕ) (x : ℤ) (objects : List ℕ) (w : Work) → At all objects objects (flagged n i x (inside w))
  flag_scoped i x objects w =
      let one : Expr = expr.Lit (value.Int S32 x) in
      assign_at all objects (inside w) n (lval.Slot i) one (slot_place all objects i) (constant_scoped all objects (value.Int S32 x)) (at_begin all objects w)

  do_scoped : (e : RichExpr) (body : List (Work → Work)) (objects : List ℕ) → TermScoped objects (rich_term_of e) → Within all objects body → (first : List ℕ) (w : Work) → At all first objects w → At all first objects (do_lowered n e body w)
  do_scoped e body objects h k first w a =
      let front : Work = with_slot (type.Int S32) w in
      counted_scoped front (flagged n w.next (pos 1) (inside front)) (again w.next (rich_term_of e)) (flagged n w.next (pos 0) ∷ []) body objects objects
      (flag_scoped w.next (pos 1) objects front) (tt, h) (λ v. (flag_scoped w.next (pos 0) objects v).scoped) k first (at_same all front refl a)

-- new slots are no objects
module _ (slots all : List Slot) (same : (i : ℕ) → is_object (slice_get all i) ≡ is_object (slice_get slots i)) where
  scoped_front : (ds : List RichCode) (c : RichCode) (objects : List ℕ) → CodesScoped slots objects (rich_before ds c) → CodesScoped slots objects (rich_code_list ds) × CodeScoped slots (behinds slots objects (rich_code_list ds)) c
  scoped_front [] c objects h = (tt, h.0)
  scoped_front (d ∷ ds) c objects h = let r = scoped_front ds c (behind slots objects d) h.1 in ((h.0, r.0), r.1)

  abbrev StepAt : RichStep → Type 0
  StepAt s = (n : ℕ) (objects : List ℕ) → CodeScoped slots objects (rich_numbered s n) → (first : List ℕ) (w : Work) → At all first objects w → At all first (behind slots objects (rich_numbered s n)) (step_lowered s n w)

  abbrev StmtAt : RichStmt → Type 0
  StmtAt s = (objects : List ℕ) → CodeScoped slots objects (rich_code_of s) → (first : List ℕ) (w : Work) → At all first objects w → At all first (behind slots objects (rich_code_of s)) (stmt_lowered s w)

  -- what stands behind labels, and what it is lowered to
  abbrev BranchAt : Labelled → Branch → Type 0
  BranchAt c b = (objects : List ℕ) → CodesScoped slots objects c.1 → Within all objects b.1

  abbrev ClauseAt : RichClause → Type 0
  ClauseAt c = BranchAt (rich_clause_of c) (clause_lowered c)

  abbrev Written : Step-F RichStep RichClause RichStmt → ℕ → RichCode
  Written l n = rich_step_layer (map-Step RichStep RichClause RichStmt (ℕ → RichCode) Labelled RichCode rich_numbered rich_clause_of rich_code_of l) n

  abbrev StepLayer : Step-F RichStep RichClause RichStmt → Type 0
  StepLayer l = (n : ℕ) (objects : List ℕ) → CodeScoped slots objects (Written l n) → (first : List ℕ) (w : Work) → At all first objects w
      → At all first (behind slots objects (Written l n)) (step_layer (map-Step RichStep RichClause RichStmt (ℕ → Work → Work) Branch (Work → Work) step_lowered clause_lowered stmt_lowered l) n w)

  abbrev ClauseLayer : List Value → List RichStmt → Type 0
  ClauseLayer labels body = BranchAt (labels, rich_code_list (map rich_code_of body)) (labels, map stmt_lowered body)

  module _ {Y : Type 0} (at : Y → RichStmt) (all_at : (y : Y) → StmtAt (at y)) where
    abbrev Made : List Y → List (Work → Work)
    Made ys = map stmt_lowered (map at ys)

    abbrev Rich : List Y → RichCodes
    Rich ys = rich_code_list (map rich_code_of (map at ys))

    list_at : (ys : List Y) (objects : List ℕ) → CodesScoped slots objects (Rich ys) → (first : List ℕ) (w : Work) → At all first objects w → At all first (behinds slots objects (Rich ys)) (run w (Made ys))
    list_at [] objects h first w a = a
    list_at (y ∷ ys) objects h first w a = list_at ys (behind slots objects (rich_code_of (at y))) h.1 first (stmt_lowered (at y) w) (all_at y objects h.0 first w a)

    -- inside another
    within_scoped : (ys : List Y) (objects : List ℕ) → CodesScoped slots objects (Rich ys) → Within all objects (Made ys)
    within_scoped ys objects h w = (list_at ys objects h objects (inside w) (at_begin all objects w)).scoped

    body_at : (labels : List Value) (ys : List Y) → ClauseLayer labels (map at ys)
    body_at labels ys objects h w = within_scoped ys objects h w

    module _ {X C : Type 0} (of : X → RichStep) (clause : C → RichClause) (all_clauses : (c : C) → ClauseAt (clause c)) where
      -- each clause in the `else` of the one before it
      tried_at : (n i : ℕ) (cs : List C) (ys : List Y) (objects : List ℕ) → ClausesScoped slots objects (clause_list (map rich_clause_of (map clause cs)) (Rich ys)) → (first : List ℕ) (w : Work) → At all first objects w
          → At all first objects (tried n i (map clause_lowered (map clause cs)) (Made ys) w)
      tried_at n i [] ys objects h first w a = block_at all objects 0 w (within w (Made ys)) (within_scoped ys objects h w) a
      tried_at n i (c ∷ cs) ys objects h first w a =
          let b : Branch = clause_lowered (clause c) in
          let one : Work = within w b.1 in
          let rest : List (Work → Work) = tried n i (map clause_lowered (map clause cs)) (Made ys) ∷ [] in
          if_at all objects w n (is_labelled i b.0) one (within one rest) (labels_scoped all objects i b.0) (all_clauses c objects h.0 w)
          (tried_at n i cs ys objects h.1 objects (inside one) (at_begin all objects one)).scoped a

      switch_at : (n : ℕ) (e : RichExpr) (cs : List C) (ys : List Y) (objects : List ℕ) → TermScoped objects (rich_term_of e) → ClausesScoped slots objects (clause_list (map rich_clause_of (map clause cs)) (Rich ys)) → (first : List ℕ) (w : Work) → At all first objects w
          → At all first objects (switch_lowered n e (map clause_lowered (map clause cs)) (Made ys) w)
      switch_at n e cs ys objects h k first w a =
          let x : Work × Expr = expr_lowered n e w in
          let g = low_at all objects n (rich_term_of e) h first w a in
          tried_at n x.0.next cs ys objects k first (kept n (type_of (rich_term_of e)) x).0 (kept_at all objects n (type_of (rich_term_of e)) g).at

      step_at : (l : Step-F X C Y) → StepLayer (map-Step X C Y RichStep RichClause RichStmt of clause at l)
      step_at (Step-F.Declare i) n objects h first w a = put_at all w n (step.Declare i) (Code.Declare n i) (declare_is n i) h (ap (λ b. chosen b (i ∷ objects) objects) (same i)) a
      step_at (Step-F.Text i text) n objects h first w a = put_at all w n (step.Text i text) (Code.Text n i text) (text_is n i text) h refl a
      step_at (Step-F.Assign p e) n objects h first w a = assigned_at all objects n p e h.0 h.1 first w a
      step_at (Step-F.Call o form) n objects h first w a = call_made_at all objects n o form h.0 h.1 first w a
      step_at (Step-F.If e xs ys) n objects h first w a =
          let x : Work × Expr = expr_lowered n e w in
          let one : Work = within x.0 (Made xs) in
          let g = low_at all objects n (rich_term_of e) h.0 first w a in
          if_at all objects x.0 n x.1 one (within one (Made ys)) g.value (within_scoped xs objects h.1 x.0) (within_scoped ys objects h.2 one) g.at
      step_at (Step-F.While e ys) n objects h first w a = while_scoped all n e (Made ys) objects h.0 (within_scoped ys objects h.2) first w a
      step_at (Step-F.For init o xs ys) n objects h first w a =
          let r = scoped_front (map rich_code_of (map at init)) (RichCode.Loop n (rich_test_of o) (Rich xs) (Rich ys)) objects h in
          let more : List ℕ = behinds slots objects (Rich init) in
          for_scoped all n w (within w (Made init)) o (Made xs) (Made ys) objects more (list_at init objects r.0 objects (inside w) (at_begin all objects w)) r.1.0 (within_scoped xs more r.1.1) (within_scoped ys more r.1.2) first a
      step_at (Step-F.Do ys e) n objects h first w a = do_scoped all n e (Made ys) objects h.1 (within_scoped ys objects h.0) first w a
      step_at (Step-F.Switch e cs ys) n objects h first w a = switch_at n e cs ys objects h.0 h.1 first w a
      step_at (Step-F.Return o) n objects h first w a = return_at all objects n o h first w a
      step_at (Step-F.ReturnCall form) n objects h first w a = back_at all objects n form h.1 first w a
      step_at Step-F.Break n objects h first w a = put_at all w n step.Break (Code.Jump n Way.Breaks) (break_is n) tt refl a
      step_at Step-F.Continue n objects h first w a = put_at all w n step.Continue (Code.Jump n Way.Continues) (continue_is n) tt refl a
      step_at Step-F.Empty n objects h first w a = put_at all w n step.Empty (Code.Jump n Way.Ends) (empty_is n) tt refl a
      step_at (Step-F.Block ys) n objects h first w a = block_at all objects n w (within w (Made ys)) (within_scoped ys objects h w) a

  stmt_at : (s : RichStmt) → StmtAt s
  stmt_at = ind-Stmt StepAt ClauseAt StmtAt
      (λ x y is n objects. subst (λ (c : RichCode). CodeScoped slots objects c → (first : List ℕ) (w : Work) → At all first objects w → At all first (behind slots objects c) (step_lowered (roll-Step x) n w)) (sym (ap (λ (f : ℕ → RichCode). f n) (fold-roll-Step (ℕ → RichCode) Labelled RichCode rich_step_layer rich_clause_layer rich_stmt_layer x)))
      (λ h first w a. subst (λ (f : ℕ → Work → Work). At all first (behind slots objects (Written x n)) (f n w)) (sym (fold-roll-Step (ℕ → Work → Work) Branch (Work → Work) step_layer clause_layer stmt_layer x))
      (subst StepLayer is (step_at (λ e. e.0) (λ e. e.1) (λ e. e.0) (λ e. e.0) (λ e. e.1) y) n objects h first w a)))
      (λ x y is. subst (λ (c : Labelled). BranchAt c (clause_lowered (roll-Clause x))) (sym (fold-roll-Clause (ℕ → RichCode) Labelled RichCode rich_step_layer rich_clause_layer rich_stmt_layer x))
      (subst (λ (b : Branch). BranchAt (x.labels, rich_code_list (map rich_code_of x.body)) b) (sym (fold-roll-Clause (ℕ → Work → Work) Branch (Work → Work) step_layer clause_layer stmt_layer x))
      (subst (ClauseLayer x.labels) (ap (λ z. z.body) is) (body_at (λ e. e.0) (λ e. e.1) x.labels y.body))))
      (λ x y is objects.
      let s : RichStmt = record { number = x.number; step = x.step } in
      subst (λ (c : RichCode). CodeScoped slots objects c → (first : List ℕ) (w : Work) → At all first objects w → At all first (behind slots objects c) (stmt_lowered s w)) (sym (fold_out-Stmt (ℕ → RichCode) Labelled RichCode rich_step_layer rich_clause_layer rich_stmt_layer s))
      (λ h first w a. subst (λ (f : Work → Work). At all first (behind slots objects (rich_numbered x.step x.number)) (f w)) (sym (fold_out-Stmt (ℕ → Work → Work) Branch (Work → Work) step_layer clause_layer stmt_layer s))
      (subst StepAt (ap (λ z. z.step) is) y.step.1 x.number objects h first w a)))

  list_scoped : (ss : List RichStmt) (objects : List ℕ) → CodesScoped slots objects (rich_codes_of ss) → (first : List ℕ) (w : Work) → At all first objects w → At all first (behinds slots objects (rich_codes_of ss)) (run w (map stmt_lowered ss))
  list_scoped [] objects h first w a = a
  list_scoped (s ∷ ss) objects h first w a = list_scoped ss (behind slots objects (rich_code_of s)) h.1 first (stmt_lowered s w) (stmt_at s objects h.0 first w a)

  -- the statements of a body
  pub lowered_scoped : (k : ℕ) (ss : List RichStmt) (objects : List ℕ) → CodesScoped slots objects (rich_codes_of ss) → plain.CodesScoped all objects (codes_of (lowered k ss).code)
  lowered_scoped k ss objects h = (list_scoped ss objects h objects (begun k) (record { scoped = tt; leaves = refl })).scoped
