-- Lowered code has the types that the code had.
use Rattle.std.specs.Option.{option_map}
use Rattle.mdr_rich.specs.declared.code.Clause.{Clause as RichClause}
use Rattle.mdr_rich.specs.declared.code.Stmt.{Stmt as RichStmt}
use Rattle.mdr_rich.specs.declared.code.Step.TheFolds.{ind-Stmt, map-Step, fold-roll-Step, fold-roll-Clause, fold_out-Stmt}
use Rattle.mdr_rich.specs.declared.code.Step.TheViews.{roll-Clause}
use Rattle.mdr_rich.specs.declared.code.Step.TheOpen.{Step-F}
use Rattle.mdr_rich.specs.declared.code.Step.{Step as RichStep}
use Rattle.mdr_rich.specs.declared.code.Lval.{Lval as RichLval}
use Rattle.mdr_rich.specs.declared.code.Expr.{Expr as RichExpr}
use Rattle.mdr_rich.specs.declared.code.CallForm.{CallForm as RichCallForm}
use Rattle.mdr_rich.proofs.Coded.{numbered as rich_numbered}
use Rattle.mdr_rich.specs.Folds.{term_of as rich_term_of, lvalue_of as rich_lvalue_of, called_of as rich_called_of, call_of as rich_call_of, goal_of as rich_goal_of, test_of as rich_test_of, code_list as rich_code_list, before as rich_before, Labelled, clause_list, step_layer as rich_step_layer, clause_layer as rich_clause_layer, stmt_layer as rich_stmt_layer, code_of as rich_code_of, clause_of as rich_clause_of, codes_of as rich_codes_of}
use Rattle.std.proofs.lemmas.Option.{none-some, same_Some}
use Rattle.std.proofs.Common.{Bool, List, None, Option, Some, ℤ, [], ap, append-nil, append_assoc, arith, false, inl, inr, length, map, refl, slice_get, subst, suc, sym, true, zero, ℕ, ⊎_elim, ◌++◌, ◌+◌, ◌∙◌, ◌∷◌, ◌≡◌, ◌≤◌, IsTrue, pos}
use Rattle.mdr_core.proofs.Coded.{addr_is, and_is, assign_is, bin_is, call_is, code_is, conv_is, decay_is, deref_is, diff_is, flip_is, from_void_is, global_is, if_is, index_is, lit_is, load_is, member_is, move_is, neg_is, not_is, numbered, object_is, or_is, rel_is, slot_is, to_void_is, declare_is, text_is, while_is, for_is, return_is, return_call_is, break_is, continue_is, empty_is, block_is}
use Rattle.mdr_core.specs.Code.{Code, Codes, Lvalue as PlainLvalue, Term as PlainTerm}
use Rattle.mdr_core.specs.Folds.{call_of, called_of, code_of, codes_of, goal_of, lvalue_of, term_of, test_of, before}
use Rattle.mdr_core.specs.Kinds.{is_in_range}
use Rattle.mdr_core.specs.Layout.{chosen}
use Rattle.mdr_core.specs.Services.{RequestIrq, Service}
use Rattle.mdr_core.specs.TypeText.{Allocates, AllocatesIn}
use Rattle.mdr_core.specs.Types.{Becomes, HasNumber, becomes_by, is_scalar}
use Rattle.mdr_core.specs.Typing.{AreTyped, CallGives, Designates, Extent, GoesTo, Has, HasAddress, HaveAll, IsCondition, IsTyped, Many, Literal, NamesHandler, NamesObject, One, RightOperand, Slot, gives_by, int, ptr, slot_of_local, struct_type, void_ptr, CallsFunction, Returns}
use Rattle.mdr_core.specs.declared.code.BinOp.TheVariants.{Add, BitAnd, BitOr, BitXor, Div, Mul, Rem, Shl, Shr, Sub}
use Rattle.mdr_core.specs.declared.code.BinOp.{BinOp}
use Rattle.mdr_core.specs.declared.code.CallForm.{CallForm}
use Rattle.mdr_core.specs.declared.code.Callee.TheVariants as callee
use Rattle.mdr_core.specs.declared.code.Callee.{Callee}
use Rattle.mdr_core.specs.declared.code.Expr.TheVariants as expr
use Rattle.mdr_core.specs.declared.code.Expr.{Expr}
use Rattle.mdr_core.specs.declared.code.Lval.TheVariants as lval
use Rattle.mdr_core.specs.declared.code.Lval.{Lval}
use Rattle.mdr_core.specs.declared.code.RelOp.TheVariants.{Eq}
use Rattle.mdr_core.specs.declared.code.Step.TheVariants as step
use Rattle.mdr_core.specs.declared.code.Step.{Step}
use Rattle.mdr_core.specs.declared.code.Stmt.{Stmt}
use Rattle.mdr_core.specs.declared.kind.Kind.TheVariants.{S32}
use Rattle.mdr_core.specs.declared.kind.Kind.{Kind}
use Rattle.mdr_core.specs.declared.program.Local.{Local}
use Rattle.mdr_core.specs.declared.program.Param.{Param}
use Rattle.mdr_core.specs.declared.program.Program.{Program}
use Rattle.mdr_core.specs.declared.types.Ty.TheOpen.{Ty-F}
use Rattle.mdr_core.specs.declared.types.Ty.TheVariants as type
use Rattle.mdr_core.specs.declared.types.Ty.{Ty, out-Ty}
use Rattle.mdr_core.specs.declared.value.Value.{Value}
use Rattle.mdr_core.specs.declared.value.Value.TheVariants as value
use Rattle.mdr_rich.specs.Activity.{are_active, is_active, is_active_place}
use Rattle.mdr_rich.specs.Carried.{type_at, type_of}
use Rattle.mdr_rich.specs.Code.{Called, Lvalue, Term, Terms, Clauses, Code as RichCode, term_list, Goal as RichGoal}
use Rattle.mdr_rich.specs.Typing.{Designates as RichDesignates, HandlerAmong, Has as RichHas, HasAddress as RichHasAddress, HasEach, IsScalar, PointerHas, gives_of, type_in, IsShape, IsStepped, NamesHandler as RichNamesHandler, CallGives as RichCallGives, GoesTo as RichGoesTo, Returns as RichReturns, AreLabels, IsTyped as RichIsTyped, AreTyped as RichAreTyped, AreClauses}
use Rattle.mdr_lower.proofs.Carried.{has_scalar, int_is, integer_is, int_scalar, not_literal, scalar_is, type_at_is, type_is}
use Rattle.mdr_lower.proofs.Stepped.{stepped_has, one_in_range, zero_in_range}
use Rattle.mdr_lower.specs.Lowering.{Branch, again, arm, armed, as_call, bumped, called, choice, conjoined, disjoined, done, element, inside, keeps, kept, low, low_args, low_callee, low_place, mapped, new_slot, outside, part, put, slot_value, stepped, stmt, truth, two, with_slot, begun, expr_lowered, call_lowered, perhaps_lowered, assigned, call_made, run, within, blocked, tested, turn, always, repeated, while_lowered, counted, counted_while, for_lowered, flagged, do_lowered, is_label, or_label, is_labelled, tried, switch_lowered, step_layer, clause_layer, stmt_layer, step_lowered, clause_lowered, stmt_lowered, lowered}
use Rattle.mdr_lower.specs.declared.work.Work.{Work}

-- a value of a type may be assigned to an object of it
itself_by : (t : Ty) (l : Ty-F Ty) → becomes_by t t l l
itself_by t (Ty-F.Int k) = tt
itself_by t Ty-F.Lock = refl
itself_by t (Ty-F.Struct s) = refl
itself_by t (Ty-F.Ptr u) = refl
itself_by t Ty-F.VoidPtr = refl
itself_by t (Ty-F.Fun ts) = refl
itself_by t Ty-F.Void = refl

becomes_itself : (t : Ty) → Becomes t t
becomes_itself t = itself_by t (out-Ty t)

-- ---- slots

-- the slots stand there one after the other
abbrev pub Fit : List Slot → ℕ → List Local → Type 0
Fit all k [] = Unit {0}
Fit all k (l ∷ ls) = (slice_get all k ≡ Some (slot_of_local l)) × Fit all (suc k) ls

fit_front : (all : List Slot) (k : ℕ) (ls : List Local) (l : Local) → Fit all k (ls ++ l ∷ []) → Fit all k ls
fit_front all k [] l f = tt
fit_front all k (x ∷ xs) l f = (f.0, fit_front all (suc k) xs l f.1)

fit_last : (all : List Slot) (k : ℕ) (ls : List Local) (l : Local) → Fit all k (ls ++ l ∷ []) → slice_get all (k + length ls) ≡ Some (slot_of_local l)
fit_last all k [] l f = let e : k + 0 ≡ k = omega arith in ap (slice_get all) e ∙ f.0
fit_last all k (x ∷ xs) l f = let e : k + suc (length xs) ≡ suc k + length xs = omega arith in ap (slice_get all) e ∙ fit_last all (suc k) xs l f.1

-- a slot that a value was kept in
pub record IsNew (program : Program) (l : Local) : Type 0 where
  pub type : Ty
  pub formed : IsScalar program type
  pub is : l ≡ new_slot type

abbrev pub AreNew : Program → List Local → Type 0
AreNew program [] = Unit {0}
AreNew program (l ∷ ls) = IsNew program l × AreNew program ls

new_last : (program : Program) (ls : List Local) (t : Ty) → IsScalar program t → AreNew program ls → AreNew program (ls ++ new_slot t ∷ [])
new_last program [] t s h = (record { type = t; formed = s; is = refl }, tt)
new_last program (l ∷ ls) t s h = (h.0, new_last program ls t s h.1)

one_more : {A : Type 0} (xs : List A) (x : A) → length (xs ++ x ∷ []) ≡ length xs + 1
one_more [] x = refl
one_more (y ∷ ys) x = let e : length (ys ++ x ∷ []) ≡ length ys + 1 = one_more ys x in omega (arith, e)

-- one value more of one type more
have_last : (program : Program) (all : List Slot) (es : List Expr) (ts : List Ty) (e : Expr) (t : Ty) → HaveAll program all (map term_of es) ts → Has program all (term_of e) t → HaveAll program all (map term_of (es ++ e ∷ [])) (ts ++ t ∷ [])
have_last program all [] [] e t h k = (k, tt)
have_last program all [] (u ∷ us) e t h k = absurd h
have_last program all (x ∷ xs) [] e t h k = absurd h
have_last program all (x ∷ xs) (u ∷ us) e t h k = (h.0, have_last program all xs us e t h.1 k)

abbrev last_of : List Expr → Expr → List Expr
last_of es e = es ++ e ∷ []

module _ (program : Program) (slots all : List Slot) (keep : (i : ℕ) (s : Slot) → slice_get slots i ≡ Some s → slice_get all i ≡ Some s) (base : ℕ) (result : Ty) where
  abbrev V : Ty → Expr → Type 0
  V t e = Has program all (term_of e) t

  abbrev Cond : Expr → Type 0
  Cond e = IsCondition (Has program all (term_of e))

  abbrev Fits : Work → Type 0
  Fits w = Fit all base w.slots

  abbrev IsCounted : Work → Type 0
  IsCounted w = base + length w.slots ≡ w.next

  -- ---- code

  -- what it allocates are objects, and where these types have numbers it is typed
  abbrev IsMade : Bool → Code → Type 0
  IsMade b c = ((t : Ty) → Allocates t c → IsScalar program (ptr t)) × (((t : Ty) → Allocates t c → HasNumber program t) → IsTyped program all result b c)

  abbrev Made : Bool → Codes → Type 0
  Made b Codes.End = Unit {0}
  Made b (Codes.Then c cs) = IsMade b c × Made b cs

  abbrev AreMade : Bool → Codes → Type 0
  AreMade b cs = ((t : Ty) → AllocatesIn t cs → IsScalar program (ptr t)) × (((t : Ty) → AllocatesIn t cs → HasNumber program t) → AreTyped program all result b cs)

  all_made : (b : Bool) (cs : Codes) → Made b cs → AreMade b cs
  all_made b Codes.End m = (λ t h. absurd h, λ g. tt)
  all_made b (Codes.Then c cs) m =
      let rest = all_made b cs m.1 in
      (λ t. ⊎_elim (m.0.0 t) (rest.0 t), λ g. (m.0.1 (λ t h. g t (inl h)), rest.1 (λ t h. g t (inr h))))

  made_last : (b : Bool) (xs : List Stmt) (x : Stmt) → Made b (codes_of xs) → IsMade b (code_of x) → Made b (codes_of (xs ++ x ∷ []))
  made_last b [] x m h = (h, tt)
  made_last b (y ∷ ys) x m h = (m.0, made_last b ys x m.1 h)

  -- ---- work behind work

  record Goes (b : Bool) (w v : Work) : Type 0 where
    back : Fits v → Fits w
    counted : IsCounted w → IsCounted v
    before : IsCounted v → IsCounted w
    new : AreNew program w.slots → AreNew program v.slots
    code : IsCounted w → Fits v → Made b (codes_of w.code) → Made b (codes_of v.code)

  goes_same : (b : Bool) (w : Work) → Goes b w w
  goes_same b w = record { back = λ f. f; counted = λ c. c; before = λ c. c; new = λ h. h; code = λ c f m. m }

  goes_then : {b : Bool} {u v w : Work} → Goes b u v → Goes b v w → Goes b u w
  goes_then g h = record { back = λ f. g.back (h.back f); counted = λ c. h.counted (g.counted c); before = λ c. g.before (h.before c); new = λ n. h.new (g.new n); code = λ c f m. h.code (g.counted c) f (g.code c (h.back f) m) }

  put_goes : {b : Bool} {w v : Work} (n : ℕ) (s : Step) → Goes b w v → (IsCounted w → Fits v → IsMade b (numbered s n)) → Goes b w (put n s v)
  put_goes {b} {w} {v} n s g h = record {
    back = λ f. g.back f;
    counted = λ c. g.counted c;
    before = λ c. g.before c;
    new = λ k. g.new k;
    code = λ c f m. made_last b v.code (stmt n s) (g.code c f m) (subst (IsMade b) (sym (code_is (stmt n s) s refl)) (h c f));
  }

  slot_goes : {b : Bool} (t : Ty) → IsScalar program t → (w : Work) → Goes b w (with_slot t w)
  slot_goes t s w = record {
    back = λ f. fit_front all base w.slots (new_slot t) f;
    counted = λ c. let e = one_more w.slots (new_slot t) in omega (arith, c, e);
    before = λ c. let e = one_more w.slots (new_slot t) in omega (arith, c, e);
    new = λ h. new_last program w.slots t s h;
    code = λ c f m. m;
  }

  -- statements inside another
  outside_goes : {b c : Bool} (w v : Work) → Goes c (inside w) v → Goes b w (outside w v)
  outside_goes w v g = record { back = λ f. g.back f; counted = λ k. g.counted k; before = λ k. g.before k; new = λ h. g.new h; code = λ k f m. m }

  inner_made : {b : Bool} (w v : Work) → Goes b (inside w) v → IsCounted w → Fits v → AreMade b (codes_of v.code)
  inner_made {b} w v g c f = all_made b (codes_of v.code) (g.code c f tt)

  -- ---- what is given beside

  record Gives {A : Type 0} (b : Bool) (P : A → Type 0) (w : Work) (x : Work × A) : Type 0 where
    goes : Goes b w x.0
    value : IsCounted w → Fits x.0 → P x.1

  gives_now : {A : Type 0} {b : Bool} (P : A → Type 0) (w : Work) (a : A) → P a → Gives b P w (w, a)
  gives_now {A} {b} P w a p = record { goes = goes_same b w; value = λ c f. p }

  gives_map : {A B : Type 0} {b : Bool} {P : A → Type 0} {Q : B → Type 0} {w : Work} {x : Work × A} (f : A → B) → ((a : A) → P a → Q (f a)) → Gives b P w x → Gives b Q w (mapped f x)
  gives_map {A} {B} {b} {P} {Q} {w} {x} f h g = record { goes = g.goes; value = λ c k. h x.1 (g.value c k) }

  gives_as : {A : Type 0} {b : Bool} {P Q : A → Type 0} {w : Work} {x : Work × A} → ((a : A) → P a → Q a) → Gives b P w x → Gives b Q w x
  gives_as {A} {b} {P} {Q} {w} {x} h g = record { goes = g.goes; value = λ c k. h x.1 (g.value c k) }

  gives_with : {A : Type 0} {b : Bool} {P Q : A → Type 0} {w : Work} {x : Work × A} → Q x.1 → Gives b P w x → Gives b (λ a. P a × Q a) w x
  gives_with q g = record { goes = g.goes; value = λ c k. (g.value c k, q) }

  gives_two : {A B C : Type 0} {b : Bool} {P : A → Type 0} {Q : B → Type 0} {R : C → Type 0} {w : Work} {x : Work × A} {y : Work → Work × B} (f : A → B → C) → Gives b P w x → ((v : Work) → Gives b Q v (y v)) → ((a : A) (d : B) → P a → Q d → R (f a d)) → Gives b R w (two f x y)
  gives_two {A} {B} {C} {b} {P} {Q} {R} {w} {x} {y} f g h r =
      record { goes = goes_then g.goes (h x.0).goes; value = λ c k. r x.1 (y x.0).1 (g.value c ((h x.0).goes.back k)) ((h x.0).value (g.goes.counted c) k) }

  -- ---- values that are kept

  -- a new slot of the type stands at this number
  abbrev Stands : Ty → ℕ → Type 0
  Stands t i = slice_get all i ≡ Some (slot_of_local (new_slot t))

  slot_stands : (t : Ty) (w : Work) → IsCounted w → Fits (with_slot t w) → Stands t w.next
  slot_stands t w c f = ap (slice_get all) (sym c) ∙ fit_last all base w.slots (new_slot t) f

  -- in front of what was made inside
  stands_in : {b : Bool} {v : Work} (t : Ty) (u : Work) → Goes b (inside (with_slot t u)) v → IsScalar program t → IsCounted v → Fits v → Stands t u.next
  stands_in {b} t u g s c f = slot_stands t u ((slot_goes {b = b} t s u).before (g.before c)) (g.back f)

  slot_place : (t : Ty) (i : ℕ) → Stands t i → Designates program all (lvalue_of (lval.Slot i)) (One t)
  slot_place t i at = subst (λ p. Designates program all p (One t)) (sym (slot_is i)) (record { slot = slot_of_local (new_slot t); names = at; kept = refl; is = refl })

  load_has : (t : Ty) (l : Lval) → IsScalar program t → Designates program all (lvalue_of l) (One t) → V t (expr.Load l)
  load_has t l s d = subst (λ x. Has program all x t) (sym (load_is l)) (record { object = d; scalar = scalar_is program t s })

  slot_has : (t : Ty) (i : ℕ) → IsScalar program t → Stands t i → V t (slot_value i)
  slot_has t i s at = load_has t (lval.Slot i) s (slot_place t i at)

  module _ (n : ℕ) (least : 1 ≤ n) where
    assign_made : (b : Bool) (l : Lval) (e : Expr) (t : Ty) → IsScalar program t → Designates program all (lvalue_of l) (One t) → V t e → IsMade b (numbered (step.Assign l e) n)
    assign_made b l e t s d v = subst (IsMade b) (sym (assign_is n l e))
        (λ u h. absurd h, λ g. record { numbered = least; right = record { type = t; scalar = scalar_is program t s; object = d; value = v } })

    kept_gives : {b : Bool} {w : Work} {x : Work × Expr} (t : Ty) → IsScalar program t → Gives b (V t) w x → Gives b (V t) w (kept n t x)
    kept_gives {b} {w} {x} t s g =
        let more : Goes b x.0 (with_slot t x.0) = slot_goes t s x.0 in
        record {
          goes = put_goes n (step.Assign (lval.Slot x.0.next) x.1) (goes_then g.goes more)
              (λ c f. assign_made b (lval.Slot x.0.next) x.1 t s (slot_place t x.0.next (slot_stands t x.0 (g.goes.counted c) f)) (g.value c (more.back f)));
          value = λ c f. slot_has t x.0.next s (slot_stands t x.0 (g.goes.counted c) f);
        }

    part_gives : {b : Bool} {w : Work} {x : Work × Expr} (is_kept : Bool) (t u : Ty) → (is_kept ≡ true → (u ≡ t) × IsScalar program t) → Gives b (V t) w x → Gives b (V t) w (part is_kept n u x)
    part_gives {b} {w} {x} true t u k g = let q = k refl in subst (λ y. Gives b (V t) w (kept n y x)) (sym q.0) (kept_gives t q.1 g)
    part_gives false t u k g = g

    -- ---- calls

    -- it allocates objects, and where its type has a number it gives such a value
    abbrev CallMade : Ty → CallForm → Type 0
    CallMade t form = ((u : Ty) → form.shape ≡ Some u → IsScalar program (ptr u)) × (((u : Ty) → form.shape ≡ Some u → HasNumber program u) → CallGives program all (call_of form) t)

    call_step : (b : Bool) (p : Option Lval) (form : CallForm) (t : Ty) → CallMade t form → (CallGives program all (call_of form) t → GoesTo program all result (goal_of p) (call_of form)) → IsMade b (numbered (step.Call p form) n)
    call_step b p form t m to = subst (IsMade b) (sym (call_is n p form)) (λ u h. m.0 u h, λ g. record { numbered = least; right = to (m.1 g) })

    called_gives : {b : Bool} {w : Work} {x : Work × CallForm} (t : Ty) → IsScalar program t → Gives b (CallMade t) w x → Gives b (V t) w (called n t x)
    called_gives {b} {w} {x} t s g =
        let more : Goes b x.0 (with_slot t x.0) = slot_goes t s x.0 in
        record {
          goes = put_goes n (step.Call (Some (lval.Slot x.0.next)) x.1) (goes_then g.goes more)
              (λ c f. call_step b (Some (lval.Slot x.0.next)) x.1 t (g.value c (more.back f)) (λ given. record {
                type = t;
                given = t;
                scalar = scalar_is program t s;
                object = slot_place t x.0.next (slot_stands t x.0 (g.goes.counted c) f);
                call_gives = given;
                becomes = becomes_itself t;
              }));
          value = λ c f. slot_has t x.0.next s (slot_stands t x.0 (g.goes.counted c) f);
        }

    -- ---- two ways

    if_made : (b : Bool) (e : Expr) (one other : List Stmt) → Cond e → AreMade b (codes_of one) → AreMade b (codes_of other) → IsMade b (numbered (step.If e one other) n)
    if_made b e one other c h k = subst (IsMade b) (sym (if_is n e one other))
        (λ t. ⊎_elim (h.0 t) (k.0 t), λ g. record { numbered = least; condition = c; first = h.1 (λ t a. g t (inl a)); second = k.1 (λ t a. g t (inr a)) })

    branch_goes : {b : Bool} {w : Work} {x : Work × Expr} (one other : Work) → Gives b Cond w x → Goes b (inside x.0) one → Goes b (inside one) other → Goes b w (put n (step.If x.1 one.code other.code) (outside x.0 other))
    branch_goes {b} {w} {x} one other g h k =
        let more : Goes b x.0 (outside x.0 other) = record { back = λ f. h.back (k.back f); counted = λ c. k.counted (h.counted c); before = λ c. h.before (k.before c); new = λ a. k.new (h.new a); code = λ c f m. m } in
        put_goes n (step.If x.1 one.code other.code) (goes_then g.goes more)
        (λ c f. if_made b x.1 one.code other.code (g.value c (more.back f)) (inner_made x.0 one h (g.goes.counted c) (k.back f)) (inner_made one other k (h.counted (g.goes.counted c)) f))

    armed_gives : {b : Bool} {w : Work} {x : Work × Expr} (t : Ty) (i : ℕ) (one other : Work) → IsScalar program t → (IsCounted w → Fits x.0 → Stands t i) → Gives b Cond w x → Goes b (inside x.0) one → Goes b (inside one) other → Gives b (V t) w (armed n i x.1 x.0 one other)
    armed_gives t i one other s at g h k = record { goes = branch_goes one other g h k; value = λ c f. slot_has t i s (at c (h.back (k.back f))) }

    arm_goes : {b : Bool} {v : Work} {y : Work × Expr} (t : Ty) (i : ℕ) → IsScalar program t → (IsCounted v → Fits y.0 → Stands t i) → Gives b (V t) v y → Goes b v (arm n i y)
    arm_goes {b} {v} {y} t i s at g = put_goes n (step.Assign (lval.Slot i) y.1) g.goes (λ c f. assign_made b (lval.Slot i) y.1 t s (slot_place t i (at c f)) (g.value c f))

    -- ---- statements

    done_goes : {b : Bool} {w : Work} {x : Work × Step} → Gives b (λ s. IsMade b (numbered s n)) w x → Goes b w (done n x)
    done_goes {b} {w} {x} g = put_goes n x.1 g.goes (λ c f. g.value c f)

  -- ---- truth

  number_condition : (k : Kind) (e : Expr) → V (int k) e → Cond e
  number_condition k e v = record { type = int k; operand = v; scalar = int_scalar k }

  negated : (e : Expr) → Cond e → V (int S32) (expr.Not e)
  negated e c = subst (λ x. Has program all x (int S32)) (sym (not_is e)) (record { operand = c; is = refl })

  truth_has : (e : Expr) → Cond e → V (int S32) (truth e)
  truth_has e c = negated (expr.Not e) (number_condition S32 (expr.Not e) (negated e c))

  number_has : (k : Kind) (x : ℤ) → IsTrue (is_in_range k x) → V (int k) (expr.Lit (value.Int k x))
  number_has k x r = subst (λ y. Has program all y (int k)) (sym (lit_is (value.Int k x))) (refl, r)

  or_has : (c d : Expr) → Cond c → Cond d → V (int S32) (expr.Or c d)
  or_has c d h k = subst (λ x. Has program all x (int S32)) (sym (or_is c d)) (record { left = h; right = k; is = refl })

  -- ---- a slot of a kind, and labels

  module _ (k : Kind) (i : ℕ) (at : Stands (int k) i) where
    label_has : (v : Value) → Literal program v (int k) → Cond (is_label i v)
    label_has v h = number_condition S32 (is_label i v) (subst (λ x. Has program all x (int S32)) (sym (rel_is Eq (slot_value i) (expr.Lit v))) (record {
      type = int k;
      left = slot_has (int k) i (int_is program k) at;
      right = subst (λ x. Has program all x (int k)) (sym (lit_is v)) h;
      compares = inl (k, refl);
      is = refl;
    }))

    or_labels_have : (e : Expr) (vs : List Value) → AreLabels program k vs → Cond e → Cond (or_label i e vs)
    or_labels_have e [] h c = c
    or_labels_have e (v ∷ vs) h c = or_labels_have (expr.Or e (is_label i v)) vs h.1 (number_condition S32 (expr.Or e (is_label i v)) (or_has e (is_label i v) c (label_has v h.0)))

    labels_have : (vs : List Value) → AreLabels program k vs → Cond (is_labelled i vs)
    labels_have [] h = number_condition S32 (expr.Lit (value.Int S32 (pos 0))) (number_has S32 (pos 0) zero_in_range)
    labels_have (v ∷ vs) h = or_labels_have (is_label i v) vs h.1 (label_has v h.0)

  -- ---- expressions and lvalues of the statement of this number

  module _ (n : ℕ) (least : 1 ≤ n) (b : Bool) where
    abbrev Values : Ty → Work → Work × Expr → Type 0
    Values t w x = Gives b (V t) w x

    abbrev Conditions : Work → Work × Expr → Type 0
    Conditions w x = Gives b Cond w x

    -- an lvalue that has an address where the one before had it
    abbrev D : Lvalue → Extent → Lval → Type 0
    D p x l = Designates program all (lvalue_of l) x × (RichHasAddress p → HasAddress (lvalue_of l))

    abbrev Places : Lvalue → Extent → Work → Work × Lval → Type 0
    Places p x w y = Gives b (D p x) w y

    abbrev All : List Ty → List Expr → Type 0
    All ts es = HaveAll program all (map term_of es) ts

    abbrev Lists : List Ty → Work → Work × List Expr → Type 0
    Lists ts w x = Gives b (All ts) w x

    -- ---- forms of one part and of two

    one : {w : Work} {x : Work × Expr} (f : Expr → Expr) (g : PlainTerm → PlainTerm) (t u : Ty) → ((e : Expr) → term_of (f e) ≡ g (term_of e)) → ((e : Expr) → V t e → Has program all (g (term_of e)) u) → Values t w x → Values u w (mapped f x)
    one f g t u is h v = gives_map f (λ e p. subst (λ y. Has program all y u) (sym (is e)) (h e p)) v

    of_place : {w : Work} {y : Work × Lval} (f : Lval → Expr) (g : PlainLvalue → PlainTerm) (p : Lvalue) (x : Extent) (u : Ty) → ((l : Lval) → term_of (f l) ≡ g (lvalue_of l)) → ((l : Lval) → D p x l → Has program all (g (lvalue_of l)) u) → Places p x w y → Values u w (mapped f y)
    of_place f g p x u is h v = gives_map f (λ l d. subst (λ y. Has program all y u) (sym (is l)) (h l d)) v

    conditioned : {w : Work} {x : Work × Expr} (t : Ty) → IsTrue (is_scalar t) → Values t w x → Conditions w x
    conditioned t s v = gives_as (λ e p. record { type = t; operand = p; scalar = s }) v

    right_given : {w : Work} {x : Work × Expr} (op : BinOp) (k : Kind) (P : Ty → Type 0) → ((t : Ty) → P t → Values t w x) → RightOperand op k P → Gives b (λ e. RightOperand op k (Has program all (term_of e))) w x
    right_given Shl k P f h = gives_as (λ e v. (h.0, v)) (f (int h.0) h.1)
    right_given Shr k P f h = gives_as (λ e v. (h.0, v)) (f (int h.0) h.1)
    right_given Add k P f h = f (int k) h
    right_given Sub k P f h = f (int k) h
    right_given Mul k P f h = f (int k) h
    right_given Div k P f h = f (int k) h
    right_given Rem k P f h = f (int k) h
    right_given BitAnd k P f h = f (int k) h
    right_given BitOr k P f h = f (int k) h
    right_given BitXor k P f h = f (int k) h

    -- a part that is kept where an active one follows
    part_of : {w : Work} (later : Bool) (e : Term) (t : Ty) → RichHas program slots e t → Values t w (low n e w) → Values t w (part (keeps later e) n (type_of e) (low n e w))
    part_of later e t h v =
        part_gives n least (keeps later e) t (type_of e) (λ q. let free = not_literal later e q in (type_is program slots e t free h, has_scalar program slots e t free h)) v

    either : {w : Work} {A : Type 0} {P : A → Type 0} {x y : Work × A} (c : Bool) → Gives b P w x → Gives b P w y → Gives b P w (chosen c x y)
    either true v u = v
    either false v u = u

    -- ---- one of two lists of statements

    module _ (w : Work) (x : Work × Expr) (y : Work → Work × Expr) (h : Conditions w x) (k : (v : Work) → Conditions v (y v)) where
      first : Values (int S32) w (kept n (int S32) (mapped truth x))
      first = kept_gives n least (int S32) (int_is program S32) (gives_map truth (λ e c. truth_has e c) h)

      abbrev front : Work
      front = inside (with_slot (int S32) x.0)

      truth_arm : Goes b front (arm n x.0.next (mapped truth (y front)))
      truth_arm =
          let second : Values (int S32) front (mapped truth (y front)) = gives_map truth (λ e c. truth_has e c) (k front) in
          arm_goes n least (int S32) x.0.next (int_is program S32) (λ c f. stands_in (int S32) x.0 second.goes (int_is program S32) (second.goes.counted c) f) second

      tested_first : Conditions w (kept n (int S32) (mapped truth x))
      tested_first = conditioned (int S32) (int_scalar S32) first

      conjunction : Values (int S32) w (conjoined n x y)
      conjunction = armed_gives n least (int S32) x.0.next (arm n x.0.next (mapped truth (y front))) (inside (arm n x.0.next (mapped truth (y front)))) (int_is program S32)
          (λ c f. slot_stands (int S32) x.0 (h.goes.counted c) f) tested_first truth_arm (goes_same b (inside (arm n x.0.next (mapped truth (y front)))))

      disjunction : Values (int S32) w (disjoined n x y)
      disjunction = armed_gives n least (int S32) x.0.next front (arm n x.0.next (mapped truth (y front))) (int_is program S32)
          (λ c f. slot_stands (int S32) x.0 (h.goes.counted c) f) tested_first (goes_same b front) truth_arm

    one_chosen : (t : Ty) (w : Work) (x : Work × Expr) (y z : Work → Work × Expr) → IsScalar program t → Conditions w x → ((v : Work) → Values t v (y v)) → ((v : Work) → Values t v (z v)) → Values t w (choice n t x y z)
    one_chosen t w x y z s h ky kz =
        let more : Goes b x.0 (with_slot t x.0) = slot_goes t s x.0 in
        let front : Work = inside (with_slot t x.0) in
        let left : Work = arm n x.0.next (y front) in
        let to_left : Goes b front left = arm_goes n least t x.0.next s (λ c f. stands_in t x.0 (ky front).goes s ((ky front).goes.counted c) f) (ky front) in
        let to_right : Goes b (inside left) (arm n x.0.next (z (inside left))) = arm_goes n least t x.0.next s
        (λ c f. slot_stands t x.0 (more.before (to_left.before c)) (to_left.back ((kz (inside left)).goes.back f))) (kz (inside left)) in
        let begun : Conditions w (with_slot t x.0, x.1) = record { goes = goes_then h.goes more; value = λ c f. h.value c (more.back f) } in
        armed_gives n least t x.0.next left (arm n x.0.next (z (inside left))) s (λ c f. slot_stands t x.0 (h.goes.counted c) f) begun to_left to_right

    -- ---- `++` and `--`

    bump_given : (t : Ty) (up first : Bool) (p : Lvalue) (w : Work) (x : Work × Lval) → IsScalar program t → IsStepped t → Places p (One t) w x → Values t w (bumped n t up first x)
    bump_given t up true p w x s steps g =
        let stored : Values t w (put n (step.Assign x.1 (stepped up t (expr.Load x.1))) x.0, expr.Load x.1) = record {
          goes = put_goes n (step.Assign x.1 (stepped up t (expr.Load x.1))) g.goes (λ c f. assign_made n least b x.1 (stepped up t (expr.Load x.1)) t s (g.value c f).0 (stepped_has program all up t (expr.Load x.1) steps (load_has t x.1 s (g.value c f).0)));
          value = λ c f. load_has t x.1 s (g.value c f).0;
        } in
        kept_gives n least t s stored
    bump_given t up false p w x s steps g =
        let more : Goes b x.0 (with_slot t x.0) = slot_goes t s x.0 in
        let old : Values t w (kept n t (x.0, expr.Load x.1)) = kept_gives n least t s (gives_map expr.Load (λ l d. load_has t l s d.0) g) in
        record {
          goes = put_goes n (step.Assign x.1 (stepped up t (slot_value x.0.next))) old.goes
              (λ c f. assign_made n least b x.1 (stepped up t (slot_value x.0.next)) t s (g.value c (more.back f)).0 (stepped_has program all up t (slot_value x.0.next) steps (old.value c f)));
          value = λ c f. old.value c f;
        }

    -- ---- calls

    abbrev CalleeIs : Called → Ty → Callee → Type 0
    CalleeIs (Called.Direct f) t c = c ≡ callee.Direct f
    CalleeIs (Called.Through e) t c = (d : Expr) × (c ≡ callee.Through d) × V t d
    CalleeIs (Called.Service s) t c = c ≡ callee.Service s

    handler_low : (args : Terms) (w : Work) (s : Service) → HandlerAmong args s → NamesHandler s (map term_of (low_args n args [] w).1)
    handler_low args w RequestIrq h = (h.0, ap (λ a. map term_of (low_args n a [] w).1) h.1 ∙ ap (λ e. e ∷ []) (lit_is (value.Fn h.0)))
    handler_low args w s h = tt

    -- of arguments and of what is called comes a call
    module _ (u : Ty) (shape : Option Ty) (format : Option (List ℕ)) where
      function_made : (c : Callee) (es : List Expr) (ts : List Ty) → shape ≡ None → format ≡ None → (CallsFunction program all (call_of (as_call shape format c es)) ts → gives_by (called_of c) program all (call_of (as_call shape format c es)) u) → All ts es → CallMade n least u (as_call shape format c es)
      function_made c es ts none empty to h = (λ v e. absurd (none-some v (sym none ∙ e)), λ g. to (record { no_type = none; no_text = empty; args = h }))

      object_named : (o : Option Ty) → ((v : Ty) → o ≡ Some v → HasNumber program v) → IsShape program o → NamesObject program o
      object_named None g h = tt
      object_named (Some t) g h = record { formed = h; in_table = g t refl }

      shape_formed : (o : Option Ty) (v : Ty) → IsShape program o → o ≡ Some v → IsScalar program (ptr v)
      shape_formed None v h e = absurd (none-some v e)
      shape_formed (Some t) v h e = subst (λ y. IsScalar program (ptr y)) (same_Some t v e) h

      call_given : (f : Called) (args : Terms) (H : Service → Type 0) → ((w : Work) (s : Service) → H s → NamesHandler s (map term_of (low_args n args [] w).1))
          → gives_of program (HasEach program slots args) H (PointerHas program slots f) shape format f u
          → ((t : Ty) → PointerHas program slots f t → (w : Work) → Gives b (CalleeIs f t) w (low_callee n (are_active args) f w))
          → ((ts : List Ty) → HasEach program slots args ts → (w : Work) → Lists ts w (low_args n args [] w))
          → (w : Work) → Gives b (CallMade n least u) w (two (as_call shape format) (low_callee n (are_active args) f w) (low_args n args []))
      call_given (Called.Direct f) args H handled h point each w =
          let ts : List Ty = map (λ (p : Param). p.ty) h.func.params in
          gives_two (as_call shape format)
          (gives_now (λ c. c ≡ callee.Direct f) w (callee.Direct f) refl)
          (each ts h.call_is.args) (λ c es is hs. subst (λ d. CallMade n least u (as_call shape format d es)) (sym is) (function_made (callee.Direct f) es ts h.call_is.no_type h.call_is.no_text (λ k. record { func = h.func; names = h.names; call_is = k; is = h.is }) hs))
      call_given (Called.Through e) args H handled h point each w =
          gives_two (as_call shape format)
          (point (type.Fun (u ∷ h.params)) h.pointer w)
          (each h.params h.call_is.args) (λ c es is hs. subst (λ d. CallMade n least u (as_call shape format d es)) (sym is.1) (function_made (callee.Through is.0) es h.params h.call_is.no_type h.call_is.no_text (λ k. record { params = h.params; pointer = is.2; call_is = k }) hs))
      call_given (Called.Service s) args H handled (inl h) point each w =
          gives_two (as_call shape format)
          (gives_now (λ c. c ≡ callee.Service s) w (callee.Service s) refl)
          (λ v. gives_with {Q = λ (es : List Expr). NamesHandler h.service (map term_of es)} (handled v h.service h.handler) (each h.signature.params h.args v)) (λ c es is hs. subst (λ d. CallMade n least u (as_call shape format d es)) (sym is) (
            λ v e. shape_formed shape v h.object e,
            λ g. inl (record {
              service = h.service;
              names = h.names;
              signature = h.signature;
              offers = h.offers;
              args = hs.0;
              handler = hs.1;
              object = object_named shape g h.object;
              is = h.is;
            }),
          ))
      call_given (Called.Service s) args H handled (inr h) point each w =
          gives_two (as_call shape format)
          (gives_now (λ c. c ≡ callee.Service s) w (callee.Service s) refl)
          (each (type.Fun (u ∷ h.param ∷ []) ∷ h.param ∷ []) h.args) (λ c es is hs. subst (λ d. CallMade n least u (as_call shape format d es)) (sym is)
          (λ v e. absurd (none-some v (sym h.no_type ∙ e)), λ g. inr (record { back = h.back; no_type = h.no_type; no_text = h.no_text; param = h.param; args = hs })))

    through_given : (later : Bool) (e : Term) (t : Ty) (w : Work) → RichHas program slots e t → Values t w (low n e w) → Gives b (CalleeIs (Called.Through e) t) w (low_callee n later (Called.Through e) w)
    through_given later e t w h v = gives_map callee.Through (λ d p. (d, refl, p)) (part_of later e t h v)

    called_as : (u t : Ty) (w : Work) (x : Work × CallForm) → t ≡ u → IsScalar program u → Gives b (CallMade n least u) w x → Values t w (called n u x)
    called_as u t w x is s g = subst (λ y. Values y w (called n u x)) (sym is) (called_gives n least u s g)

    -- ---- elements

    element_is : (t : Ty) (k : Kind) (x : Extent) → x ≡ One t → (c d : Expr) → V (ptr t) c → V (int k) d → Designates program all (lvalue_of (element c d)) x
    element_is t k x is c d v u = subst (λ l. Designates program all l x) (sym (deref_is (expr.Move false c d)))
        (record { type = t; pointer = subst (λ y. Has program all y (ptr t)) (sym (move_is false c d)) (record { type = t; kind = k; pointer = v; steps = u; is = refl }); is = is })

    kept_array : (p : Lvalue) (t : Ty) (count : ℕ) (w : Work) → type_at p ≡ t → IsScalar program (ptr t) → Places p (Many t count) w (low_place n p w) → Values (ptr t) w (kept n (ptr (type_at p)) (mapped expr.Decay (low_place n p w)))
    kept_array p t count w is s g = subst (λ u. Values (ptr t) w (kept n (ptr u) (mapped expr.Decay (low_place n p w)))) (sym is)
        (kept_gives n least (ptr t) s (of_place expr.Decay PlainTerm.Decay p (Many t count) (ptr t) decay_is (λ l d. record { type = t; count = count; array = d.0; is = refl }) g))

    -- ---- all forms

    mutual
      low_given : (e : Term) (t : Ty) → RichHas program slots e t → (w : Work) → Values t w (low n e w)
      low_given (Term.Lit v) t h w = gives_now (V t) w (expr.Lit v) (subst (λ y. Has program all y t) (sym (lit_is v)) h)
      low_given (Term.Load p) t h w = of_place expr.Load PlainTerm.Load p (One t) t load_is (λ l d. record { object = d.0; scalar = h.0.scalar }) (place_given p (One t) h.0.object w)
      low_given (Term.Addr p) t h w = of_place expr.Addr PlainTerm.Addr p (One h.0.type) t addr_is (λ l d. record { type = h.0.type; object = d.0; kept = d.1 h.0.kept; is = h.0.is }) (place_given p (One h.0.type) h.0.object w)
      low_given (Term.Decay p) t h w =
          of_place expr.Decay PlainTerm.Decay p (Many h.0.type h.0.count) t decay_is (λ l d. record { type = h.0.type; count = h.0.count; array = d.0; is = h.0.is }) (place_given p (Many h.0.type h.0.count) h.0.array w)
      low_given (Term.Neg k e) t h w = one (expr.Neg k) (PlainTerm.Neg k) (int k) t (neg_is k) (λ d v. record { operand = v; is = h.is }) (low_given e (int k) h.operand w)
      low_given (Term.Flip k e) t h w = one (expr.Flip k) (PlainTerm.Flip k) (int k) t (flip_is k) (λ d v. record { operand = v; is = h.is }) (low_given e (int k) h.operand w)
      low_given (Term.Not e) t h w = one expr.Not PlainTerm.Not h.operand.type t not_is
          (λ d v. record { operand = record { type = h.operand.type; operand = v; scalar = h.operand.scalar }; is = h.is }) (low_given e h.operand.type h.operand.operand w)
      low_given (Term.Bin op k x y) t h w =
          gives_two (expr.Bin op k) (part_of (is_active y) x (int k) h.left (low_given x (int k) h.left w))
          (λ v. right_given op k (RichHas program slots y) (λ u q. low_given y u q v) h.right) (λ c d v u. subst (λ z. Has program all z t) (sym (bin_is op k c d)) (record { left = v; right = u; is = h.is }))
      low_given (Term.Rel op x y) t h w =
          gives_two (expr.Rel op) (part_of (is_active y) x h.type h.left (low_given x h.type h.left w))
          (λ v. low_given y h.type h.right v) (λ c d v u. subst (λ z. Has program all z t) (sym (rel_is op c d)) (record { type = h.type; left = v; right = u; compares = h.compares; is = h.is }))
      low_given (Term.And x y) t h w = subst (λ u. Values u w (low n (Term.And x y) w)) (sym h.is) (either (is_active y)
          (conjunction w (low n x w) (low n y) (conditioned h.left.type h.left.scalar (low_given x h.left.type h.left.operand w)) (λ v. conditioned h.right.type h.right.scalar (low_given y h.right.type h.right.operand v)))
          (gives_two expr.And (conditioned h.left.type h.left.scalar (low_given x h.left.type h.left.operand w))
          (λ v. conditioned h.right.type h.right.scalar (low_given y h.right.type h.right.operand v)) (λ c d v u. subst (λ z. Has program all z (int S32)) (sym (and_is c d)) (record { left = v; right = u; is = refl }))))
      low_given (Term.Or x y) t h w = subst (λ u. Values u w (low n (Term.Or x y) w)) (sym h.is) (either (is_active y)
          (disjunction w (low n x w) (low n y) (conditioned h.left.type h.left.scalar (low_given x h.left.type h.left.operand w)) (λ v. conditioned h.right.type h.right.scalar (low_given y h.right.type h.right.operand v)))
          (gives_two expr.Or (conditioned h.left.type h.left.scalar (low_given x h.left.type h.left.operand w))
          (λ v. conditioned h.right.type h.right.scalar (low_given y h.right.type h.right.operand v)) (λ c d v u. subst (λ z. Has program all z (int S32)) (sym (or_is c d)) (record { left = v; right = u; is = refl }))))
      low_given (Term.Conv k e) t h w = one (expr.Conv k) (PlainTerm.Conv k) (int h.from) t (conv_is k) (λ d v. record { from = h.from; operand = v; is = h.is }) (low_given e (int h.from) h.operand w)
      low_given (Term.ToVoid e) t h w = one expr.ToVoid PlainTerm.ToVoid (ptr h.type) t to_void_is (λ d v. record { type = h.type; pointer = v; is = h.is }) (low_given e (ptr h.type) h.pointer w)
      low_given (Term.FromVoid u e) t h w = one (expr.FromVoid u) (PlainTerm.FromVoid u) void_ptr t (from_void_is u) (λ d v. record { pointer = v; formed = h.formed; is = h.is }) (low_given e void_ptr h.pointer w)
      low_given (Term.Move back p i) t h w =
          gives_two (expr.Move back) (part_of (is_active i) p (ptr h.0.type) h.0.pointer (low_given p (ptr h.0.type) h.0.pointer w))
          (λ v. low_given i (int h.0.kind) h.0.steps v) (λ c d v u. subst (λ z. Has program all z t) (sym (move_is back c d)) (record { type = h.0.type; kind = h.0.kind; pointer = v; steps = u; is = h.0.is }))
      low_given (Term.Diff p q) t h w =
          gives_two expr.Diff (part_of (is_active q) p (ptr h.type) h.left (low_given p (ptr h.type) h.left w))
          (λ v. low_given q (ptr h.type) h.right v) (λ c d v u. subst (λ z. Has program all z t) (sym (diff_is c d)) (record { type = h.type; left = v; right = u; is = h.is }))
      low_given (Term.Cond u c x y) t h w = subst (λ z. Values z w (low n (Term.Cond u c x y) w)) (sym h.is)
          (one_chosen u w (low n c w) (low n x) (low n y) h.formed (conditioned h.test.type h.test.scalar (low_given c h.test.type h.test.operand w)) (λ v. low_given x u h.one v) (λ v. low_given y u h.other v))
      low_given (Term.Call u (Called.Direct f) args shape format) t h w = called_as u t w _ h.is h.formed
          (call_given u shape format (Called.Direct f) args (HandlerAmong args) (λ v s k. handler_low args v s k) h.gives (λ z k v. absurd k) (λ ts k v. args_given args ts k [] (v, []) (gives_now (All []) v [] tt)) w)
      low_given (Term.Call u (Called.Through e) args shape format) t h w = called_as u t w _ h.is h.formed
          (call_given u shape format (Called.Through e) args (HandlerAmong args) (λ v s k. handler_low args v s k) h.gives (λ z k v. through_given (are_active args) e z v k (low_given e z k v))
          (λ ts k v. args_given args ts k [] (v, []) (gives_now (All []) v [] tt)) w)
      low_given (Term.Call u (Called.Service s) args shape format) t h w = called_as u t w _ h.is h.formed
          (call_given u shape format (Called.Service s) args (HandlerAmong args) (λ v z k. handler_low args v z k) h.gives (λ z k v. absurd k) (λ ts k v. args_given args ts k [] (v, []) (gives_now (All []) v [] tt)) w)
      low_given (Term.Bump u up first p) t h w = subst (λ z. Values z w (low n (Term.Bump u up first p) w)) (sym h.is) (bump_given u up first p w (low_place n p w) h.formed h.steps (place_given p (One u) h.object w))

      place_given : (p : Lvalue) (x : Extent) → RichDesignates program slots p x → (w : Work) → Places p x w (low_place n p w)
      place_given (Lvalue.Slot i t) x h w = gives_now (D (Lvalue.Slot i t) x) w (lval.Slot i)
          (subst (λ l. Designates program all l x) (sym (slot_is i)) (record { slot = h.0.slot; names = keep i h.0.slot h.0.names; kept = h.0.kept; is = h.0.is }), λ a. absurd a)
      place_given (Lvalue.Object i t) x h w = gives_now (D (Lvalue.Object i t) x) w (lval.Object i)
          (subst (λ l. Designates program all l x) (sym (object_is i)) (record { slot = h.0.slot; names = keep i h.0.slot h.0.names; kept = h.0.kept; is = h.0.is }), λ a. subst HasAddress (sym (object_is i)) tt)
      place_given (Lvalue.Global g t) x h w = gives_now (D (Lvalue.Global g t) x) w (lval.Global g) (subst (λ l. Designates program all l x) (sym (global_is g)) h.0, λ a. subst HasAddress (sym (global_is g)) tt)
      place_given (Lvalue.Deref e) x h w = gives_map lval.Deref
          (λ d v. (subst (λ l. Designates program all l x) (sym (deref_is d)) (record { type = h.0.type; pointer = v; is = h.0.is }), λ a. subst HasAddress (sym (deref_is d)) tt)) (low_given e (ptr h.0.type) h.0.pointer w)
      place_given (Lvalue.Member p f t) x h w = gives_map (λ (l : Lval). lval.Member l f)
          (λ l d. (subst (λ z. Designates program all z x) (sym (member_is l f)) (record { struct = h.0.struct; whole = d.0; field = h.0.field; names = h.0.names; is = h.0.is }), λ a. subst HasAddress (sym (member_is l f)) (d.1 a)))
          (place_given p (One (struct_type h.0.struct)) h.0.whole w)
      place_given (Lvalue.Index p e) x h w = either (is_active e)
          (gives_two element (kept_array p h.0.type h.0.count w (type_at_is program slots p (Many h.0.type h.0.count) h.0.array) (subst (λ z. IsScalar program (ptr (type_in z))) h.0.is h.1) (place_given p (Many h.0.type h.0.count) h.0.array w))
          (λ v. low_given e (int h.0.kind) h.0.index v)
          (λ c d v u. (element_is h.0.type h.0.kind x h.0.is c d v u, λ a. subst HasAddress (sym (deref_is (expr.Move false c d))) tt)))
          (gives_two lval.Index
          (place_given p (Many h.0.type h.0.count) h.0.array w)
          (λ v. low_given e (int h.0.kind) h.0.index v) (λ l d v u. (subst (λ z. Designates program all z x) (sym (index_is l d)) (record { type = h.0.type; count = h.0.count; kind = h.0.kind; array = v.0; index = u; is = h.0.is }), λ a. subst HasAddress (sym (index_is l d)) (v.1 a))))

      args_given : (args : Terms) (ts : List Ty) → HasEach program slots args ts → {w : Work} (us : List Ty) (x : Work × List Expr) → Lists us w x → Lists (us ++ ts) w (low_args n args x.1 x.0)
      args_given Terms.End [] h us x g = record { goes = g.goes; value = λ c f. subst (λ zs. All zs x.1) (sym (append-nil us)) (g.value c f) }
      args_given Terms.End (t ∷ ts) h us x g = absurd h
      args_given (Terms.Then e es) [] h us x g = absurd h
      args_given (Terms.Then e es) (t ∷ ts) h {w} us x g = subst (λ zs. Lists zs w (low_args n (Terms.Then e es) x.1 x.0)) (append_assoc us (t ∷ []) ts)
          (args_given es ts h.1 (us ++ t ∷ []) (two last_of x (λ v. part (keeps (are_active es) e) n (type_of e) (low n e v)))
          (gives_two last_of g (λ v. part_of (are_active es) e t h.0 (low_given e t h.0 v)) (λ xs d v u. have_last program all xs us d t v u)))

  -- ---- statements without statements inside

  -- a statement that is made of its parts
  abbrev StepMade : ℕ → Bool → Step → Type 0
  StepMade n b s = IsMade b (numbered s n)

  handler_among : (s : Service) (es : List Term) → RichNamesHandler s es → HandlerAmong (term_list es) s
  handler_among RequestIrq es h = (h.0, ap term_list h.1)
  handler_among s es h = tt

  module _ (n : ℕ) (least : 1 ≤ n) (b : Bool) where
    callee_given : (later : Bool) (f : Called) (t : Ty) → PointerHas program slots f t → (w : Work) → Gives b (CalleeIs n least b f t) w (low_callee n later f w)
    callee_given later (Called.Direct f) t h w = absurd h
    callee_given later (Called.Through e) t h w = through_given n least b later e t w h (low_given n least b e t h w)
    callee_given later (Called.Service s) t h w = absurd h

    form_given : (form : RichCallForm) (u : Ty) → RichCallGives program slots (rich_call_of form) u → (w : Work) → Gives b (CallMade n least u) w (call_lowered n form w)
    form_given form u h w =
        let args : Terms = term_list (map rich_term_of form.args) in
        call_given n least b u form.shape form.format (rich_called_of form.callee) args (λ s. RichNamesHandler s (map rich_term_of form.args))
        (λ v s k. handler_low n least b args v s (handler_among s (map rich_term_of form.args) k)) h (λ t k v. callee_given (are_active args) (rich_called_of form.callee) t k v)
        (λ ts k v. args_given n least b args ts k [] (v, []) (gives_now (All n least b []) v [] tt)) w

    assigned_given : (p : RichLval) (e : RichExpr) (t : Ty) → IsTrue (is_scalar t) → RichDesignates program slots (rich_lvalue_of p) (One t) → RichHas program slots (rich_term_of e) t → (w : Work) → Gives b (StepMade n b) w (assigned n p e w)
    assigned_given p e t s d v w =
        gives_two (λ (x : Expr) (l : Lval). step.Assign l x)
        (part_of n least b (is_active_place (rich_lvalue_of p)) (rich_term_of e) t v (low_given n least b (rich_term_of e) t v w))
        (λ u. place_given n least b (rich_lvalue_of p) (One t) d u) (λ x l h k. subst (IsMade b) (sym (assign_is n l x)) (λ u a. absurd a, λ g. record { numbered = least; right = record { type = t; scalar = s; object = k.0; value = h } }))

    call_step_given : (o : Option RichLval) (form : RichCallForm) → RichGoesTo program slots result (rich_goal_of o) (rich_call_of form) → (w : Work) → Gives b (StepMade n b) w (call_made n o form w)
    call_step_given None form h w = gives_two (λ (f : CallForm) (p : Option Lval). step.Call p f)
        (form_given form h.0 h.1 w) (λ v. gives_now (λ q. q ≡ None) v None refl) (λ f p m is. subst (λ q. StepMade n b (step.Call q f)) (sym is) (call_step n least b None f h.0 m (λ given. (h.0, given))))
    call_step_given (Some l) form h w = gives_two (λ (f : CallForm) (p : Option Lval). step.Call p f)
        (form_given form h.given h.call_gives w)
        (λ v. gives_map {Q = λ (q : Option Lval). (k : Lval) × (q ≡ Some k) × Designates program all (lvalue_of k) (One h.type)} Some (λ k d. (k, refl, d.0)) (place_given n least b (rich_lvalue_of l) (One h.type) h.object v))
        (λ f p m is. subst (λ q. StepMade n b (step.Call q f)) (sym is.1) (call_step n least b (Some is.0) f h.given m
        (λ given. record { type = h.type; given = h.given; scalar = h.scalar; object = is.2; call_gives = given; becomes = h.becomes })))

    back_given : (form : RichCallForm) → RichGoesTo program slots result RichGoal.Back (rich_call_of form) → (w : Work) → Gives b (StepMade n b) w (mapped step.ReturnCall (call_lowered n form w))
    back_given form h w = gives_map step.ReturnCall
        (λ f m. subst (IsMade b) (sym (return_call_is n f)) (λ u a. m.0 u a, λ g. record { numbered = least; right = record { given = h.given; scalar = h.scalar; call_gives = m.1 g; becomes = h.becomes } }))
        (form_given form h.given h.call_gives w)

    return_given : (o : Option RichExpr) → RichReturns program slots result (option_map rich_term_of o) → (w : Work) → Gives b (StepMade n b) w (mapped step.Return (perhaps_lowered n o w))
    return_given None h w = gives_map step.Return
        (λ q is. subst (IsMade b) (sym (return_is n q)) (λ u a. absurd a, λ g. record { numbered = least; right = subst (λ z. Returns program all result (option_map term_of z)) (sym is) h }))
        (gives_now (λ q. q ≡ None) w None refl)
    return_given (Some e) h w = gives_map (λ (x : Expr). step.Return (Some x))
        (λ x v. subst (IsMade b) (sym (return_is n (Some x))) (λ u a. absurd a, λ g. record { numbered = least; right = (h.0, v) })) (low_given n least b (rich_term_of e) result h.1 w)

    condition_given : (e : RichExpr) → IsCondition (RichHas program slots (rich_term_of e)) → (w : Work) → Gives b Cond w (expr_lowered n e w)
    condition_given e h w = conditioned n least b h.type h.scalar (low_given n least b (rich_term_of e) h.type h.operand w)

  -- ---- statements inside others

  block_goes : {b : Bool} {w : Work} (k : ℕ) (v a : Work) → Goes b w v → Goes b (inside v) a → Goes b w (blocked k v a)
  block_goes {b} k v a g h =
      let more : Goes b v (outside v a) = outside_goes v a h in
      put_goes k (step.Block a.code) (goes_then g more) (λ c f. subst (IsMade b) (sym (block_is k a.code)) (inner_made v a h (g.counted c) f))

  -- a test of a `for`
  abbrev Test : Option Expr → Type 0
  Test o = IsCondition (Has program all (test_of o))

  always_true : Cond always
  always_true = number_condition S32 always (subst (λ x. Has program all x (int S32)) (sym (lit_is (value.Int S32 (pos 1)))) (refl, one_in_range S32))

  no_test : Test None
  no_test = record { type = int S32; operand = (refl, one_in_range S32); scalar = int_scalar S32 }

  loop_made : (b : Bool) (n : ℕ) → 1 ≤ n → (e : PlainTerm) (next body : Codes) → IsCondition (Has program all e) → AreMade false next → AreMade true body → IsMade b (Code.Loop n e next body)
  loop_made b n least e next body c h k = (λ t. ⊎_elim (h.0 t) (k.0 t), λ g. record { numbered = least; condition = c; stepped = h.1 (λ t a. g t (inl a)); turn = k.1 (λ t a. g t (inr a)) })

  made_before : (b : Bool) (xs : List Stmt) (c : Code) → Made b (codes_of xs) → IsMade b c → Made b (before (map code_of xs) c)
  made_before b [] c m h = (h, tt)
  made_before b (x ∷ xs) c m h = (m.0, made_before b xs c m.1 h)

  while_goes : {b : Bool} {w : Work} {x : Work × Expr} (n : ℕ) → 1 ≤ n → (a : Work) → Gives b Cond w x → Goes true (inside x.0) a → Goes b w (repeated n x.0 x.1 a)
  while_goes {b} {w} {x} n least a g h =
      let more : Goes b x.0 (outside x.0 a) = outside_goes x.0 a h in
      put_goes n (step.While x.1 a.code) (goes_then g.goes more)
      (λ k f. subst (IsMade b) (sym (while_is n x.1 a.code)) (loop_made b n least (term_of x.1) Codes.End (codes_of a.code) (g.value k (more.back f)) (λ t q. absurd q, λ q. tt) (inner_made x.0 a h (g.goes.counted k) f)))

  counted_goes : {b k : Bool} {w : Work} (n : ℕ) → 1 ≤ n → (a : Work) (x : Work × Option Expr) (d e : Work) → Goes b (inside w) a → Gives k Test (inside a) x → Goes false (inside x.0) d → Goes true (inside d) e → Goes b w (counted n w a x.1 d e)
  counted_goes {b} {k} {w} n least a x d e first test next body =
      let more : Goes b w (outside w e) = record {
        back = λ f. first.back (test.goes.back (next.back (body.back f)));
        counted = λ c. body.counted (next.counted (test.goes.counted (first.counted c)));
        before = λ c. first.before (test.goes.before (next.before (body.before c)));
        new = λ h. body.new (next.new (test.goes.new (first.new h)));
        code = λ c f m. m;
      } in
      put_goes n (step.For a.code x.1 d.code e.code) more (λ c f.
      let c1 = first.counted c in
      let c2 = test.goes.counted c1 in
      subst (IsMade b) (sym (for_is n a.code x.1 d.code e.code))
      (all_made b (before (map code_of a.code) (Code.Loop n (test_of x.1) (codes_of d.code) (codes_of e.code)))
      (made_before b a.code (Code.Loop n (test_of x.1) (codes_of d.code) (codes_of e.code)) (first.code c (test.goes.back (next.back (body.back f))) tt)
      (loop_made b n least (test_of x.1) (codes_of d.code) (codes_of e.code) (test.value c1 (next.back (body.back f))) (inner_made x.0 d next c2 (body.back f)) (inner_made d e body (next.counted c2) f)))))

  tested_goes : {w : Work} {x : Work × Expr} (n : ℕ) → 1 ≤ n → Gives true Cond w x → Goes true w (tested n x)
  tested_goes {w} {x} n least g =
      put_goes n (step.If x.1 [] (stmt n step.Break ∷ [])) g.goes (λ c f. if_made n least true x.1 [] (stmt n step.Break ∷ []) (g.value c f) (λ t q. absurd q, λ q. tt)
      (all_made true (codes_of (stmt n step.Break ∷ []))
      (subst (IsMade true) (sym (code_is (stmt n step.Break) step.Break refl ∙ break_is n)) (λ t q. absurd q, λ q. record { numbered = least; right = refl }), tt)))

  choose_goes : {b : Bool} {w v u : Work} (c : Bool) → Goes b w v → Goes b w u → Goes b w (chosen c v u)
  choose_goes true g h = g
  choose_goes false g h = h

  -- a `for` with a test, over any lists of statements
  module _ (n : ℕ) (least : 1 ≤ n) (a : Work) (e : Term) (next body : List (Work → Work))
      (test : (v : Work) → (IsCounted v → IsCounted a) → (Fits v → Fits a) → Gives true Cond v (low n e v))
      (step : (v : Work) → (IsCounted v → IsCounted a) → (Fits v → Fits a) → Goes false (inside v) (within v next))
      (turned : (v : Work) → Goes true (inside v) (within v body)) where
    test_in : (d : Work) → Goes false (inside a) d → Goes true (inside d) (turn n (low n e (inside d)) body)
    test_in d g =
        let v : Work = tested n (low n e (inside d)) in
        block_goes 0 v (within v body) (tested_goes n least (test (inside d) (λ c. g.before c) (λ f. g.back f))) (turned v)

    counted_while_goes : {b : Bool} (w : Work) → Goes b (inside w) a → Goes b w (counted_while n w a e next body)
    counted_while_goes w g =
        let d : Work = within a next in
        let first : Goes false (inside a) d = step a (λ c. c) (λ f. f) in
        let y : Gives true Cond (inside a) (low n e (inside a)) = test (inside a) (λ c. c) (λ f. f) in
        let x : Work × Option Expr = mapped Some (low n e (inside a)) in
        let later : Work = within x.0 next in
        choose_goes (is_active e)
        (counted_goes n least a (inside a, None) d (turn n (low n e (inside d)) body) g (gives_now {b = true} Test (inside a) None no_test) first (test_in d first))
        (counted_goes n least a x later (within later body) g (gives_map {Q = Test} Some (λ d v. v) y) (step x.0 (λ c. y.goes.before c) (λ f. y.goes.back f)) (turned later))

  flag_goes : {b : Bool} (n : ℕ) → 1 ≤ n → (i : ℕ) (x : ℤ) → IsTrue (is_in_range S32 x) → (w : Work) → (IsCounted w → Fits w → Stands (int S32) i) → Goes b w (flagged n i x w)
  flag_goes {b} n least i x r w at = put_goes n (step.Assign (lval.Slot i) (expr.Lit (value.Int S32 x))) (goes_same b w)
      (λ c f. assign_made n least b (lval.Slot i) (expr.Lit (value.Int S32 x)) (int S32) (int_is program S32) (slot_place (int S32) i (at c f)) (number_has S32 x r))

  again_given : (n : ℕ) → 1 ≤ n → (i : ℕ) (e : RichExpr) → IsCondition (RichHas program slots (rich_term_of e)) → (v : Work) → (IsCounted v → Fits v → Stands (int S32) i) → Gives true Cond v (low n (again i (rich_term_of e)) v)
  again_given n least i e h v at =
      let x : Gives true Cond v (v, slot_value i) = record { goes = goes_same true v; value = λ c f. number_condition S32 (slot_value i) (slot_has (int S32) i (int_is program S32) (at c f)) } in
      conditioned n least true (int S32) (int_scalar S32) (either n least true (is_active (rich_term_of e))
      (disjunction n least true v (v, slot_value i) (low n (rich_term_of e)) x (λ u. condition_given n least true e h u))
      (gives_two expr.Or x (λ u. condition_given n least true e h u) (λ c d p q. or_has c d p q)))

  typed_front : (b : Bool) (ds : List RichCode) (c : RichCode) → RichAreTyped program slots result b (rich_before ds c) → RichAreTyped program slots result b (rich_code_list ds) × RichIsTyped program slots result b c
  typed_front b [] c h = (tt, h.0)
  typed_front b (d ∷ ds) c h = let r = typed_front b ds c h.1 in ((h.0, r.0), r.1)

  abbrev StepGoes : RichStep → Type 0
  StepGoes s = (n : ℕ) (b : Bool) → RichIsTyped program slots result b (rich_numbered s n) → (w : Work) → Goes b w (step_lowered s n w)

  abbrev StmtGoes : RichStmt → Type 0
  StmtGoes s = (b : Bool) → RichIsTyped program slots result b (rich_code_of s) → (w : Work) → Goes b w (stmt_lowered s w)

  -- what follows labels, and what it is lowered to
  record BranchGoes (l : Labelled) (c : Branch) : Type 0 where
    same : l.0 ≡ c.0
    turn : (b : Bool) → RichAreTyped program slots result b l.1 → (w : Work) → Goes b w (run w c.1)

  abbrev ClauseGoes : RichClause → Type 0
  ClauseGoes c = BranchGoes (rich_clause_of c) (clause_lowered c)

  abbrev BodyLayer : List Value → List RichStmt → Type 0
  BodyLayer labels body = BranchGoes (labels, rich_code_list (map rich_code_of body)) (labels, map stmt_lowered body)

  abbrev StepLayer : Step-F RichStep RichClause RichStmt → Type 0
  StepLayer l = (n : ℕ) (b : Bool) → RichIsTyped program slots result b (rich_step_layer (map-Step RichStep RichClause RichStmt (ℕ → RichCode) Labelled RichCode rich_numbered rich_clause_of rich_code_of l) n)
      → (w : Work) → Goes b w (step_layer (map-Step RichStep RichClause RichStmt (ℕ → Work → Work) Branch (Work → Work) step_lowered clause_lowered stmt_lowered l) n w)

  module _ {Y : Type 0} (at : Y → RichStmt) (all_go : (y : Y) → StmtGoes (at y)) where
    list_goes : (ys : List Y) (b : Bool) → RichAreTyped program slots result b (rich_code_list (map rich_code_of (map at ys))) → (w : Work) → Goes b w (run w (map stmt_lowered (map at ys)))
    list_goes [] b h w = goes_same b w
    list_goes (y ∷ ys) b h w = goes_then (all_go y b h.0 w) (list_goes ys b h.1 (stmt_lowered (at y) w))

    turn_goes : (n : ℕ) → 1 ≤ n → (e : RichExpr) → IsCondition (RichHas program slots (rich_term_of e)) → (ys : List Y) → RichAreTyped program slots result true (rich_code_list (map rich_code_of (map at ys))) → (w : Work) → Goes true (inside w) (turn n (expr_lowered n e (inside w)) (map stmt_lowered (map at ys)))
    turn_goes n least e c ys h w =
        let v : Work = tested n (expr_lowered n e (inside w)) in
        block_goes 0 v (within v (map stmt_lowered (map at ys))) (tested_goes n least (condition_given n least true e c (inside w))) (list_goes ys true h (inside v))

    while_given : (n : ℕ) → 1 ≤ n → (b : Bool) (e : RichExpr) → IsCondition (RichHas program slots (rich_term_of e)) → (ys : List Y) → RichAreTyped program slots result true (rich_code_list (map rich_code_of (map at ys))) → (w : Work) → Goes b w (while_lowered n e (map stmt_lowered (map at ys)) w)
    while_given n least b e c ys h w = choose_goes (is_active (rich_term_of e))
        (while_goes n least (turn n (expr_lowered n e (inside w)) (map stmt_lowered (map at ys))) (gives_now Cond w always always_true) (turn_goes n least e c ys h w))
        (while_goes n least (within (expr_lowered n e w).0 (map stmt_lowered (map at ys))) (condition_given n least b e c w) (list_goes ys true h (inside (expr_lowered n e w).0)))

    for_given : (n : ℕ) → 1 ≤ n → (b : Bool) (a : Work) (o : Option RichExpr) → IsCondition (RichHas program slots (rich_test_of o)) → (xs ys : List Y) → RichAreTyped program slots result false (rich_code_list (map rich_code_of (map at xs))) → RichAreTyped program slots result true (rich_code_list (map rich_code_of (map at ys))) → (w : Work) → Goes b (inside w) a → Goes b w (for_lowered n w a o (map stmt_lowered (map at xs)) (map stmt_lowered (map at ys)))
    for_given n least b a None c xs ys h k w g =
        let next : Work = within a (map stmt_lowered (map at xs)) in
        counted_goes n least a (inside a, None) next (within next (map stmt_lowered (map at ys))) g (gives_now {b = true} Test (inside a) None no_test) (list_goes xs false h (inside a)) (list_goes ys true k (inside next))
    for_given n least b a (Some e) c xs ys h k w g =
        counted_while_goes n least a (rich_term_of e) (map stmt_lowered (map at xs)) (map stmt_lowered (map at ys))
        (λ v x y. condition_given n least true e c v) (λ v x y. list_goes xs false h (inside v)) (λ v. list_goes ys true k (inside v)) w g

    body_branch : (labels : List Value) (ys : List Y) → BodyLayer labels (map at ys)
    body_branch labels ys = record { same = refl; turn = λ b h w. list_goes ys b h w }

    -- ---- `do`

    do_given : (n : ℕ) → 1 ≤ n → (b : Bool) (e : RichExpr) → IsCondition (RichHas program slots (rich_term_of e)) → (ys : List Y) → RichAreTyped program slots result true (rich_code_list (map rich_code_of (map at ys))) → (w : Work) → Goes b w (do_lowered n e (map stmt_lowered (map at ys)) w)
    do_given n least b e c ys h w =
        let i : ℕ = w.next in
        let front : Work = with_slot (int S32) w in
        let taken : Goes b w front = slot_goes (int S32) (int_is program S32) w in
        let stands : IsCounted front → Fits front → Stands (int S32) i = λ k f. slot_stands (int S32) w (taken.before k) f in
        goes_then taken
        (counted_while_goes n least (flagged n i (pos 1) (inside front)) (again i (rich_term_of e)) (flagged n i (pos 0) ∷ []) (map stmt_lowered (map at ys))
        (λ v k f. again_given n least i e c v (λ x y. stands (k x) (f y)))
        (λ v k f. flag_goes n least i (pos 0) zero_in_range (inside v) (λ x y. stands (k x) (f y)))
        (λ v. list_goes ys true h (inside v)) front (flag_goes n least i (pos 1) (one_in_range S32) (inside front) stands))

    -- ---- `switch`

    module _ {X C : Type 0} (of : X → RichStep) (clause : C → RichClause) (all_clauses : (c : C) → ClauseGoes (clause c)) where
      abbrev Branches : List C → List Branch
      Branches cs = map clause_lowered (map clause cs)

      abbrev Parts : List C → List Y → Clauses
      Parts cs ys = clause_list (map rich_clause_of (map clause cs)) (rich_code_list (map rich_code_of (map at ys)))

      tried_goes : (n : ℕ) → 1 ≤ n → (b : Bool) (k : Kind) (i : ℕ) (cs : List C) (ys : List Y) → AreClauses program slots result b k (Parts cs ys) → (w : Work) → (IsCounted w → Fits w → Stands (int k) i) → Goes b w (tried n i (Branches cs) (map stmt_lowered (map at ys)) w)
      tried_goes n least b k i [] ys h w stands = block_goes 0 w (within w (map stmt_lowered (map at ys))) (goes_same b w) (list_goes ys b h (inside w))
      tried_goes n least b k i (c ∷ cs) ys h w stands =
          let g : ClauseGoes (clause c) = all_clauses c in
          let l : Branch = clause_lowered (clause c) in
          let one : Work = within w l.1 in
          let first : Goes b (inside w) one = g.turn b h.turn (inside w) in
          let test : Gives b Cond w (w, is_labelled i l.0) = record { goes = goes_same b w; value = λ x f. labels_have k i (stands x f) l.0 (subst (AreLabels program k) g.same h.labelled) } in
          branch_goes n least one (tried n i (Branches cs) (map stmt_lowered (map at ys)) (inside one)) test first
          (tried_goes n least b k i cs ys h.later (inside one) (λ x f. stands (first.before x) (first.back f)))

      switch_given : (n : ℕ) → 1 ≤ n → (b : Bool) (k : Kind) (e : RichExpr) → RichHas program slots (rich_term_of e) (int k) → (cs : List C) (ys : List Y) → AreClauses program slots result b k (Parts cs ys) → (w : Work) → Goes b w (switch_lowered n e (Branches cs) (map stmt_lowered (map at ys)) w)
      switch_given n least b k e v cs ys h w =
          let x : Work × Expr = expr_lowered n e w in
          let value : Gives b (V (int k)) w (kept n (int k) x) = kept_gives n least (int k) (int_is program k) (low_given n least b (rich_term_of e) (int k) v w) in
          let taken : Goes b x.0 (with_slot (int k) x.0) = slot_goes (int k) (int_is program k) x.0 in
          subst (λ t. Goes b w (tried n x.0.next (Branches cs) (map stmt_lowered (map at ys)) (kept n t x).0)) (sym (integer_is program slots (rich_term_of e) k v))
          (goes_then value.goes (tried_goes n least b k x.0.next cs ys h (kept n (int k) x).0 (λ c f. slot_stands (int k) x.0 (taken.before c) f)))

      step_goes : (l : Step-F X C Y) → StepLayer (map-Step X C Y RichStep RichClause RichStmt of clause at l)
      step_goes (Step-F.Declare i) n b h w = put_goes n (step.Declare i) (goes_same b w) (λ c f. subst (IsMade b) (sym (declare_is n i))
          (λ t q. absurd q, λ g. record { numbered = h.numbered; right = record { slot = h.right.slot; names = keep i h.right.slot h.right.names; local = h.right.local } }))
      step_goes (Step-F.Text i text) n b h w = put_goes n (step.Text i text) (goes_same b w) (λ c f. subst (IsMade b) (sym (text_is n i text)) (
        λ t q. absurd q,
        λ g. record {
          numbered = h.numbered;
          right = record { slot = h.right.slot; names = keep i h.right.slot h.right.names; local = h.right.local; array = h.right.array; characters = h.right.characters; fits = h.right.fits };
        },
      ))
      step_goes (Step-F.Assign p e) n b h w = done_goes n h.numbered (assigned_given n h.numbered b p e h.right.type h.right.scalar h.right.object h.right.value w)
      step_goes (Step-F.Call o form) n b h w = done_goes n h.numbered (call_step_given n h.numbered b o form h.right w)
      step_goes (Step-F.If e xs ys) n b h w =
          let x : Work × Expr = expr_lowered n e w in
          let one : Work = within x.0 (map stmt_lowered (map at xs)) in
          branch_goes n h.numbered one (within one (map stmt_lowered (map at ys))) (condition_given n h.numbered b e h.condition w) (list_goes xs b h.first (inside x.0)) (list_goes ys b h.second (inside one))
      step_goes (Step-F.While e ys) n b h w = while_given n h.numbered b e h.condition ys h.turn w
      step_goes (Step-F.For init o xs ys) n b h w =
          let r = typed_front b (map rich_code_of (map at init)) (RichCode.Loop n (rich_test_of o) (rich_code_list (map rich_code_of (map at xs))) (rich_code_list (map rich_code_of (map at ys)))) h in
          for_given n r.1.numbered b (within w (map stmt_lowered (map at init))) o r.1.condition xs ys r.1.stepped r.1.turn w (list_goes init b r.0 (inside w))
      step_goes (Step-F.Do ys e) n b h w = do_given n h.numbered b e h.condition ys h.turn w
      step_goes (Step-F.Switch e cs ys) n b h w = switch_given n h.numbered b h.kind e h.value cs ys h.parts w
      step_goes (Step-F.Return o) n b h w = done_goes n h.numbered (return_given n h.numbered b o h.right w)
      step_goes (Step-F.ReturnCall form) n b h w = done_goes n h.numbered (back_given n h.numbered b form h.right w)
      step_goes Step-F.Break n b h w = put_goes n step.Break (goes_same b w) (λ c f. subst (IsMade b) (sym (break_is n)) (λ t q. absurd q, λ g. h))
      step_goes Step-F.Continue n b h w = put_goes n step.Continue (goes_same b w) (λ c f. subst (IsMade b) (sym (continue_is n)) (λ t q. absurd q, λ g. h))
      step_goes Step-F.Empty n b h w = put_goes n step.Empty (goes_same b w) (λ c f. subst (IsMade b) (sym (empty_is n)) (λ t q. absurd q, λ g. h))
      step_goes (Step-F.Block ys) n b h w = block_goes n w (within w (map stmt_lowered (map at ys))) (goes_same b w) (list_goes ys b h (inside w))

  stmt_goes : (s : RichStmt) → StmtGoes s
  stmt_goes = ind-Stmt StepGoes ClauseGoes StmtGoes
      (λ x y is n b h w. subst (λ (f : ℕ → Work → Work). Goes b w (f n w)) (sym (fold-roll-Step (ℕ → Work → Work) Branch (Work → Work) step_layer clause_layer stmt_layer x))
      (subst StepLayer is (step_goes (λ e. e.0) (λ e. e.1) (λ e. e.0) (λ e. e.0) (λ e. e.1) y) n b (subst (λ (f : ℕ → RichCode). RichIsTyped program slots result b (f n)) (fold-roll-Step (ℕ → RichCode) Labelled RichCode rich_step_layer rich_clause_layer rich_stmt_layer x) h) w))
      (λ x y is.
      subst (λ l. BranchGoes l (clause_lowered (roll-Clause x))) (sym (fold-roll-Clause (ℕ → RichCode) Labelled RichCode rich_step_layer rich_clause_layer rich_stmt_layer x))
      (subst (BranchGoes (x.labels, rich_codes_of x.body)) (sym (fold-roll-Clause (ℕ → Work → Work) Branch (Work → Work) step_layer clause_layer stmt_layer x))
      (subst (BodyLayer x.labels) (ap (λ z. z.body) is) (body_branch (λ e. e.0) (λ e. e.1) x.labels y.body))))
      (λ x y is b h w.
      let s : RichStmt = record { number = x.number; step = x.step } in
      subst (λ (f : Work → Work). Goes b w (f w)) (sym (fold_out-Stmt (ℕ → Work → Work) Branch (Work → Work) step_layer clause_layer stmt_layer s))
      (subst StepGoes (ap (λ z. z.step) is) y.step.1 x.number b (subst (RichIsTyped program slots result b) (fold_out-Stmt (ℕ → RichCode) Labelled RichCode rich_step_layer rich_clause_layer rich_stmt_layer s) h) w))

  body_goes : (ss : List RichStmt) (b : Bool) → RichAreTyped program slots result b (rich_codes_of ss) → (w : Work) → Goes b w (run w (map stmt_lowered ss))
  body_goes [] b h w = goes_same b w
  body_goes (s ∷ ss) b h w = goes_then (stmt_goes s b h.0 w) (body_goes ss b h.1 (stmt_lowered s w))

-- ---- a body

get_front : {A : Type 0} (xs ys : List A) (i : ℕ) (x : A) → slice_get xs i ≡ Some x → slice_get (xs ++ ys) i ≡ Some x
get_front [] ys i x e = absurd (none-some x e)
get_front (z ∷ zs) ys zero x e = e
get_front (z ∷ zs) ys (suc i) x e = get_front zs ys i x e

get_at : {A : Type 0} (xs : List A) (y : A) (ys : List A) → slice_get (xs ++ y ∷ ys) (length xs) ≡ Some y
get_at [] y ys = refl
get_at (x ∷ xs) y ys = get_at xs y ys

fit_behind : (front : List Slot) (ls : List Local) → Fit (front ++ map slot_of_local ls) (length front) ls
fit_behind front [] = tt
fit_behind front (l ∷ ls) =
    let e : length (front ++ slot_of_local l ∷ []) ≡ suc (length front) = one_more front (slot_of_local l) ∙ omega arith in (
      get_at front (slot_of_local l) (map slot_of_local ls),
      subst (λ k. Fit (front ++ slot_of_local l ∷ map slot_of_local ls) k ls) e
          (subst (λ xs. Fit xs (length (front ++ slot_of_local l ∷ [])) ls) (append_assoc front (slot_of_local l ∷ []) (map slot_of_local ls)) (fit_behind (front ++ slot_of_local l ∷ []) ls)),
    )

module _ (program : Program) (slots : List Slot) (result : Ty) (ss : List RichStmt) (typed : RichAreTyped program slots result false (rich_codes_of ss)) where
  abbrev Body : Work
  Body = lowered (length slots) ss

  abbrev pub BodySlots : List Slot
  BodySlots = slots ++ map slot_of_local Body.slots

  goes : Goes program slots BodySlots (λ i s e. get_front slots (map slot_of_local Body.slots) i s e) (length slots) result false (begun (length slots)) Body
  goes = body_goes program slots BodySlots (λ i s e. get_front slots (map slot_of_local Body.slots) i s e) (length slots) result ss false typed (begun (length slots))

  made : AreMade program slots BodySlots (λ i s e. get_front slots (map slot_of_local Body.slots) i s e) (length slots) result false (codes_of Body.code)
  made = let e : length slots + 0 ≡ length slots = omega arith in
      all_made program slots BodySlots (λ i s e. get_front slots (map slot_of_local Body.slots) i s e) (length slots) result false (codes_of Body.code) (goes.code e (fit_behind slots Body.slots) tt)

  -- what a body allocates are objects, whatever stands in the type table
  pub body_shaped : (t : Ty) → AllocatesIn t (codes_of Body.code) → IsScalar program (ptr t)
  body_shaped t h = made.0 t h

  -- and where these types have numbers it is typed as it was
  pub body_typed : ((t : Ty) → AllocatesIn t (codes_of Body.code) → HasNumber program t) → AreTyped program BodySlots result false (codes_of Body.code)
  body_typed h = made.1 h

  pub new_slots : AreNew program Body.slots
  new_slots = goes.new tt

-- one of them
pub new_at : (program : Program) (ls : List Local) (i : ℕ) (l : Local) → AreNew program ls → slice_get ls i ≡ Some l → IsNew program l
new_at program [] i l h e = absurd (none-some l e)
new_at program (x ∷ xs) zero l h e = subst (IsNew program) (same_Some x l e) h.0
new_at program (x ∷ xs) (suc i) l h e = new_at program xs i l h.1 e
