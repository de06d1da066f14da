-- Lowering keeps the tree, for every fuel.
use Rattle.std.proofs.Common.{◌≡◌, ℕ, zero, suc, ◌+◌, ◌<◌, ◌≤◌, Bool, true, false, not, ◌&&◌, nat_lt, List, [], ◌∷◌, ◌++◌, length, map, Option, Some, None, slice_get, slice_set, refl, ap, sym, ◌∙◌, arith}
use mathlib.Core.Path.{fun_ext}
use Rattle.mdr_core.specs.declared.place.At.{At}
use Rattle.mdr_core.specs.declared.program.Local.{Local}
use Rattle.mdr_core.specs.declared.program.Program.{Program}
use Rattle.mdr_core.specs.declared.types.Ty.TheVariants.{Void}
use Rattle.mdr_core.specs.Code.{Code as PlainCode, Codes as PlainCodes}
use Rattle.mdr_core.specs.Folds.{codes_of}
use Rattle.mdr_core.specs.Layout.{chosen}
use Rattle.mdr_core.specs.Typing.{Slot, slot_of_local}
use Rattle.mdr_meaning.specs.declared.wire.Wire.{Wire}
use Rattle.mdr_meaning.specs.Bodies.{means, started}
use Rattle.mdr_meaning.specs.Calls.{deep, goes_to}
use Rattle.mdr_meaning.specs.Expressions.{slot_of}
use Rattle.mdr_meaning.specs.Lives.{after_deaths, births, closes, fills, object_params, param_shapes, returned, shape_of, with_object}
use Rattle.mdr_meaning.specs.Numbers.{Numbered}
use Rattle.mdr_meaning.specs.Sides.{Body, Here, Locals, Next, Side, framed, in_here}
use Rattle.mdr_meaning.specs.Statements.{leaves, on_ends}
use Rattle.mdr_meaning.specs.Tree.{Tree}
use Rattle.mdr_lower.specs.Lowering.{begun, lowered}
use Rattle.mdr_rich.specs.declared.code.Stmt.{Stmt as RichStmt}
use Rattle.mdr_rich.specs.Code.{Code, Codes}
use Rattle.mdr_rich.specs.Folds.{codes_of as rich_codes_of}
use Rattle.mdr_rich.specs.Typing.{AreTyped}
use Rattle.mdr_rich_sources.specs.Functions.{rich_means, rich_started}
use Rattle.mdr_rich_sources.specs.Expressions.{RichBody, RichSide, rich_deep, rich_enters, rich_goes_to, without_bodies}
use Rattle.mdr_rich_sources.specs.LoweringLaw.{IsLoweredBody, LoweringKeepsTrees, lowered_body}
use Rattle.mdr_rich_sources.proofs.Flows.{births_same, dead, next_leaves}
use Rattle.mdr_rich_sources.proofs.Forms.{CallsAlike}
use Rattle.mdr_rich_sources.proofs.Lines.{IsAgain, IsLoop, LoopsAlike, active_again, body_runs, plain_same, quiet_again, tested_same}
use Rattle.mdr_rich_sources.proofs.Named.{Framed, KnowsTypes}
use Rattle.mdr_rich_sources.proofs.Preparing.{Both, S, side, there}
use Rattle.mdr_rich_sources.proofs.Turns.{flag_wire}
use Rattle.mdr_rich_sources.proofs.Slots.{with, AreNext, Sees, fit_behind, framed_room, framed_same, get_front, sees_source}

-- ---- parameters that are objects: new slots are none

no_object : (c : Bool) → (c && false) ≡ false
no_object true = refl
no_object false = refl

new_shapes : (known : Numbered) (ls : List Local) → param_shapes known (map slot_of_local ls) ≡ []
new_shapes known [] = refl
new_shapes known (l ∷ ls) = ap (λ c. chosen c (shape_of known (slot_of_local l) ∷ param_shapes known (map slot_of_local ls)) (param_shapes known (map slot_of_local ls))) (no_object l.object) ∙ new_shapes known ls

same_shapes : (known : Numbered) (ss : List Slot) (ls : List Local) → param_shapes known (ss ++ map slot_of_local ls) ≡ param_shapes known ss
same_shapes known [] ls = new_shapes known ls
same_shapes known (s ∷ ss) ls = ap (λ r. chosen (s.object && not s.is_local) (shape_of known s ∷ r) r) (same_shapes known ss ls)

new_params : (i : ℕ) (ls : List Local) → object_params i (map slot_of_local ls) ≡ []
new_params i [] = refl
new_params i (l ∷ ls) = ap (λ c. chosen c (i ∷ object_params (suc i) (map slot_of_local ls)) (object_params (suc i) (map slot_of_local ls))) (no_object l.object) ∙ new_params (suc i) ls

same_params : (i : ℕ) (ss : List Slot) (ls : List Local) → object_params i (ss ++ map slot_of_local ls) ≡ object_params i ss
same_params i [] ls = new_params i ls
same_params i (s ∷ ss) ls = ap (λ r. chosen (s.object && not s.is_local) (i ∷ r) r) (same_params (suc i) ss ls)

abbrev AllBelow : ℕ → List ℕ → Type 0
AllBelow M [] = Unit {0}
AllBelow M (i ∷ is) = (i < M) × AllBelow M is

one_below : (M i : ℕ) (is : List ℕ) (c : Bool) → i < M → AllBelow M is → AllBelow M (chosen c (i ∷ is) is)
one_below M i is true less h = (less, h)
one_below M i is false less h = h

params_below : (M i : ℕ) (ss : List Slot) → i + length ss ≤ M → AllBelow M (object_params i ss)
params_below M i [] h = tt
params_below M i (s ∷ ss) h = one_below M i (object_params (suc i) ss) (s.object && not s.is_local) (omega (arith, h)) (params_below M (suc i) ss (omega (arith, h)))

fills_same : (M : ℕ) (all : List Slot) → M ≤ length all → (at : At) (is : List ℕ) → AllBelow M is → (ps t u born : List Wire) → Sees M all t u → (go after : Locals → Tree)
    → ((t1 u1 born1 : List Wire) → Sees M all t1 u1 → go (with t1 born1) ≡ after (with u1 born1)) → fills at is ps (with t born) go ≡ fills at is ps (with u born) after
fills_same M all fits at [] below ps t u born sees go after h = h t u born sees
fills_same M all fits at (i ∷ is) below [] t u born sees go after h = h t u born sees
fills_same M all fits at (i ∷ is) below (p ∷ ps) t u born sees go after h =
    ap (λ r. Tree.Store at p (slot_of t i) r) (fills_same M all fits at is below.1 ps (slice_set t i p) (slice_set u i p) (born ++ (p ∷ [])) (sees_source M all i p fits below.0 sees) go after h)
    ∙ ap (λ v. Tree.Store at p v (fills at is ps (with_object i p (with u born)) after)) (sees.same i below.0)

length_both : {A : Type 0} (xs ys : List A) → length xs ≤ length (xs ++ ys)
length_both [] ys = omega arith
length_both (x ∷ xs) ys = let h : length xs ≤ length (xs ++ ys) = length_both xs ys in omega (arith, h)

module _ (program : Program) (known : Numbered) (asks : Bool) (rown : ℕ → Option RichBody) (sown : ℕ → Option Body) (structs : known.program.structs ≡ program.structs) (globals : known.program.globals ≡ program.globals)
    (none : (f : ℕ) → rown f ≡ None → sown f ≡ None) (some : (f : ℕ) (b : RichBody) → rown f ≡ Some b → (body : Body) × (sown f ≡ Some body) × IsLoweredBody program b body) where
  abbrev rich : RichSide
  rich = record { known = known; own = rown; asks = asks }

  abbrev plain : Side
  plain = record { known = known; own = sown; asks = asks }

  abbrev at_fuel : ℕ → Here → List Slot → Both
  at_fuel n here all = record { known = known; asks = asks; rich_own = rown; own = sown; rich_low = rich_means rich n; low = means plain n; here = here; all = all }

  abbrev all_of : Here → List RichStmt → List Slot
  all_of here ss = here.slots ++ map slot_of_local (lowered (length here.slots) ss).slots

  pub record Alike (n : ℕ) : Type 0 where
    pub bodies : (here : Here) (ss : List RichStmt) → AreTyped program here.slots here.result false (rich_codes_of ss) → (t u born : List Wire) (k K : Next) → Sees (length here.slots) (all_of here ss) t u → AreNext (length here.slots) (all_of here ss) k K
        → rich_means rich n here (rich_codes_of ss) (with t born) k ≡ means plain n (there (at_fuel n here (all_of here ss))) (codes_of (lowered (length here.slots) ss).code) (with u born) K
    pub loops : (here : Here) (all : List Slot) → length here.slots ≤ length all → ((i : ℕ) → i < length here.slots → slice_get here.slots i ≡ slice_get all i) → LoopsAlike (at_fuel n here all) program here.result

  knows : (n : ℕ) (here : Here) (all : List Slot) → KnowsTypes (at_fuel n here all) program
  knows n here all = record { structs = structs; globals = globals }

  -- ---- calls

  module _ (n : ℕ) (alike : Alike n) where
    entered : (here : Here) (all : List Slot) (at : At) (f : ℕ) (vs : List Wire) (k K : Wire → Tree) → ((v : Wire) → k v ≡ K v) → (r : RichBody) (ss : List RichStmt) → AreTyped program r.slots r.result false (rich_codes_of ss)
        → rich_enters rich (rich_means rich n) here (record { func = f; depth = suc here.depth; slots = r.slots; result = r.result }) (record { slots = r.slots; result = r.result; code = rich_codes_of ss }) vs k
        ≡ goes_to plain (means plain n) (there (at_fuel n here all)) at f vs (Some (lowered_body r.slots r.result ss)) K
    entered here all at f vs k K h r ss typed =
        let inner : Here = record { func = f; depth = suc here.depth; slots = r.slots; result = r.result } in
        let whole : List Slot = all_of inner ss in
        let news : List Local = (lowered (length r.slots) ss).slots in
        let b : Both = at_fuel n inner whole in
        let fits : length r.slots ≤ length whole = length_both r.slots (map slot_of_local news) in
        let rest : List ℕ → List Wire → Tree = λ is ps. fills (in_here inner 0) is ps (with (framed whole vs) []) (λ l. means plain n (there b) (codes_of (lowered (length r.slots) ss).code) l (closes plain (there b) K)) in
        births_same b (param_shapes known r.slots) _
        ∙ ap (births plain (there b) (param_shapes known r.slots)) (fun_ext (λ ps. fills_same (length r.slots) whole fits (in_here inner 0) (object_params 0 r.slots) (params_below (length r.slots) 0 r.slots (omega arith)) ps (framed r.slots vs) (framed whole vs) []
        (record { same = framed_same r.slots (map slot_of_local news) vs; room = framed_room r.slots vs; rooms = framed_room whole vs }) _ (λ l. means plain n (there b) (codes_of (lowered (length r.slots) ss).code) l (closes plain (there b) K))
        (λ t u born sees. alike.bodies inner ss typed t u born (closes (without_bodies rich) inner k) (closes plain (there b) K) sees
        (record { by = λ flow t1 u1 born1 sees1. dead b born1 _ _ (h (after_deaths born1 (returned flow))) }))))
        ∙ ap (λ is. births plain (there b) (param_shapes known r.slots) (rest is)) (sym (same_params 0 r.slots news))
        ∙ ap (λ shapes. births plain (there b) shapes (rest (object_params 0 whole))) (sym (same_shapes known r.slots news))

    goes_same : (here : Here) (all : List Slot) (at : At) (f : ℕ) (vs : List Wire) (k K : Wire → Tree) → ((v : Wire) → k v ≡ K v) → (o : Option RichBody) → rown f ≡ o
        → rich_goes_to rich (rich_means rich n) here at f vs o k ≡ goes_to plain (means plain n) (there (at_fuel n here all)) at f vs (sown f) K
    goes_same here all at f vs k K h None e = ap (Tree.Cross at f vs here.depth) (fun_ext h) ∙ sym (ap (λ o. goes_to plain (means plain n) (there (at_fuel n here all)) at f vs o K) (none f e))
    goes_same here all at f vs k K h (Some r) e =
        let s = some f r e in
        let inner : Here = record { func = f; depth = suc here.depth; slots = r.slots; result = r.result } in
        ap (λ (cs : Codes). rich_enters rich (rich_means rich n) here inner (record { slots = r.slots; result = r.result; code = cs }) vs k) s.2.code
        ∙ entered here all at f vs k K h r s.2.source s.2.typed
        ∙ sym (ap (λ o. goes_to plain (means plain n) (there (at_fuel n here all)) at f vs o K) (s.1 ∙ ap Some s.2.is))

    direct_by : (here : Here) (all : List Slot) (at : At) (f : ℕ) (vs : List Wire) (k K : Wire → Tree) → ((v : Wire) → k v ≡ K v) → (c : Bool)
        → chosen c (rich_goes_to rich (rich_means rich n) here at f vs (rown f)) (rich_deep rich (rich_means rich n) here at) k ≡ chosen c (goes_to plain (means plain n) (there (at_fuel n here all)) at f vs (sown f)) (deep plain (means plain n) (there (at_fuel n here all)) at) K
    direct_by here all at f vs k K h true = goes_same here all at f vs k K h (rown f) refl
    direct_by here all at f vs k K h false = refl

    calls_alike : (here : Here) (all : List Slot) → CallsAlike (at_fuel n here all)
    calls_alike here all = record { by = λ at f vs k K h. direct_by here all at f vs k K h (nat_lt here.depth 256) }

    framed_at : (here : Here) (all : List Slot) → length here.slots ≤ length all → ((i : ℕ) → i < length here.slots → slice_get here.slots i ≡ slice_get all i) → Framed (at_fuel n here all)
    framed_at here all fits same = record { alike = calls_alike here all; fits = fits; same = same }

    -- ---- one more

    bodies_mean : (here : Here) (ss : List RichStmt) → AreTyped program here.slots here.result false (rich_codes_of ss) → (t u born : List Wire) (k K : Next) → Sees (length here.slots) (all_of here ss) t u → AreNext (length here.slots) (all_of here ss) k K
        → rich_means rich (suc n) here (rich_codes_of ss) (with t born) k ≡ means plain (suc n) (there (at_fuel (suc n) here (all_of here ss))) (codes_of (lowered (length here.slots) ss).code) (with u born) K
    unfolding rich_means means
    bodies_mean here ss typed t u born k K sees next =
        let whole : List Slot = all_of here ss in
        let b : Both = at_fuel n here whole in
        let news : List Local = (lowered (length here.slots) ss).slots in
        let fits : length here.slots ≤ length whole = length_both here.slots (map slot_of_local news) in
        let same : (i : ℕ) → i < length here.slots → slice_get here.slots i ≡ slice_get whole i = get_front here.slots (map slot_of_local news) in
        let r = body_runs b (framed_at here whole fits same) program (knows n here whole) here.result (alike.loops here whole fits same) ss false typed (begun (length here.slots)) in
        (r.same (omega arith) (fit_behind here.slots news)).by t u born k K sees next ∙ sym (ap (λ xs. S b xs (with u born) K) r.code)

    loops_mean : (here : Here) (all : List Slot) → length here.slots ≤ length all → ((i : ℕ) → i < length here.slots → slice_get here.slots i ≡ slice_get all i) → (c : Code) (d : PlainCode) → IsLoop (at_fuel (suc n) here all) program here.result c d
        → (t u born : List Wire) (k K : Next) → Sees (length here.slots) all t u → AreNext (length here.slots) all k K
        → rich_means rich (suc n) here (Codes.Then c Codes.End) (with t born) k ≡ means plain (suc n) (there (at_fuel (suc n) here all)) (PlainCodes.Then d PlainCodes.End) (with u born) K
    unfolding rich_means means
    loops_mean here all fits same c d (IsLoop.Plain m e xs ys in_loop v typed quiet counted room) t u born k K sees next =
        let b : Both = at_fuel n here all in
        let f : Framed b = framed_at here all fits same in
        let l : LoopsAlike b program here.result = alike.loops here all fits same in
        (plain_same b f program (knows n here all) here.result l m e xs ys in_loop v typed quiet counted room (body_runs b f program (knows n here all) here.result l xs false typed.stepped) (body_runs b f program (knows n here all) here.result l ys true typed.turn)).by
        t u born (on_ends leaves k) (on_ends (S b []) K) sees (next_leaves b next)
    loops_mean here all fits same c d (IsLoop.Tested m e xs ys in_loop v typed active counted room) t u born k K sees next =
        let b : Both = at_fuel n here all in
        let f : Framed b = framed_at here all fits same in
        let l : LoopsAlike b program here.result = alike.loops here all fits same in
        (tested_same b f program (knows n here all) here.result l m e xs ys in_loop v typed active counted room (body_runs b f program (knows n here all) here.result l xs false typed.stepped) (body_runs b f program (knows n here all) here.result l ys true typed.turn)).by
        t u born (on_ends leaves k) (on_ends (S b []) K) sees (next_leaves b next)

    again_means : (here : Here) (all : List Slot) → length here.slots ≤ length all → ((i : ℕ) → i < length here.slots → slice_get here.slots i ≡ slice_get all i) → (i : ℕ) (c : Code) (d : PlainCode) → IsAgain (at_fuel (suc n) here all) program here.result i c d
        → (t u born : List Wire) (k K : Next) → Sees (length here.slots) all t u → slot_of u i ≡ flag_wire false → AreNext (length here.slots) all k K
        → rich_means rich (suc n) here (Codes.Then c Codes.End) (with t born) k ≡ means plain (suc n) (there (at_fuel (suc n) here all)) (PlainCodes.Then d PlainCodes.End) (with u born) K
    unfolding rich_means means
    again_means here all fits same i c d (IsAgain.Quiet m e ys in_loop v typed quiet counted new less stands room) t u born k K sees holds next =
        let b : Both = at_fuel n here all in
        let f : Framed b = framed_at here all fits same in
        let l : LoopsAlike b program here.result = alike.loops here all fits same in
        (quiet_again b f program (knows n here all) here.result l false m i e ys in_loop v typed quiet counted new less stands room (body_runs b f program (knows n here all) here.result l ys true typed.turn)).by
        t u born (on_ends leaves k) (on_ends (S b []) K) sees holds (next_leaves b next)
    again_means here all fits same i c d (IsAgain.Active m e ys in_loop a typed active counted new less stands room) t u born k K sees holds next =
        let b : Both = at_fuel n here all in
        let f : Framed b = framed_at here all fits same in
        let l : LoopsAlike b program here.result = alike.loops here all fits same in
        (active_again b f program (knows n here all) here.result l false m i e ys in_loop a typed active counted new less stands room (body_runs b f program (knows n here all) here.result l ys true typed.turn)).by
        t u born (on_ends leaves k) (on_ends (S b []) K) sees holds (next_leaves b next)

  all_alike : (n : ℕ) → Alike n
  unfolding rich_means means
  all_alike zero = record {
    bodies = λ here ss typed t u born k K sees next. refl;
    loops = λ here all fits same. record { by = λ c d h. record { by = λ t u born k K sees next. refl }; again = λ i c d h. record { by = λ t u born k K sees holds next. refl } };
  }
  all_alike (suc n) = record {
    bodies = bodies_mean n (all_alike n);
    loops = λ here all fits same. record {
      by = λ c d h. record { by = λ t u born k K sees next. loops_mean n (all_alike n) here all fits same c d h t u born k K sees next };
      again = λ i c d h. record { by = λ t u born k K sees holds next. again_means n (all_alike n) here all fits same i c d h t u born k K sees holds next };
    };
  }

  started_same : (n f : ℕ) (args : List Wire) (depth : ℕ) (below : Tree) → rich_started rich n f args depth below ≡ started plain n f args depth below
  unfolding rich_started started
  started_same n f args depth below =
      goes_same n (all_alike n) (record { func = f; depth = depth; slots = []; result = Void }) [] (record { func = f; stmt = 0 }) f args (λ v. Tree.Done v below) (λ v. Tree.Done v below) (λ v. refl) (rown f) refl

pub lowering_keeps_trees : LoweringKeepsTrees
lowering_keeps_trees program rich side ok n f args depth below =
    ap (λ (r : RichSide). rich_started r n f args depth below) (λ i. record { known = ok.known i; own = rich.own; asks = ok.asks i })
    ∙ started_same program side.known side.asks rich.own side.own ok.structs ok.globals ok.none ok.some n f args depth below
