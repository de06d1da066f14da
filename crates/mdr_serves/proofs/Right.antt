-- What the induction uses of a driver is right for each sound program with its plan.
use Rattle.std.proofs.Common.{◌≡◌, ◌⊎◌, inl, inr, ℕ, ◌<◌, ◌≤◌, Bool, true, false, not, ◌&&◌, List, [], ◌∷◌, length, get_or, map, Option, Some, None, slice_get, refl, sym, ap, ◌∙◌, subst, arith}
use Rattle.std.specs.Prelude.{is_some, unwrap_or}
use Rattle.std.proofs.lemmas.Bool.{and_from, and_parts, both_ways}
use Rattle.std.proofs.lemmas.Option.{slice_get_cases, slice_get_within}
use Rattle.mdr_access.specs.KeyOrder.{keys}
use Rattle.mdr_access.specs.Keys.{AreKeys, CallsUser}
use Rattle.mdr_access.proofs.KeyLaws.{keys_are_right}
use Rattle.mdr_callees.specs.Callees.{uses_by}
use Rattle.mdr_callees.proofs.HalfLaws.{stubs as crossings_have_stubs}
use Rattle.mdr_core.specs.declared.code.Stmt.{Stmt}
use Rattle.mdr_core.specs.declared.plan.Half.{Half}
use Rattle.mdr_core.specs.declared.plan.Half.TheVariants.{Kernel, User}
use Rattle.mdr_core.specs.declared.plan.Key.{Key}
use Rattle.mdr_core.specs.declared.plan.Plan.{Plan}
use Rattle.mdr_core.specs.declared.program.Func.{Func}
use Rattle.mdr_core.specs.declared.program.Param.{Param}
use Rattle.mdr_core.specs.declared.program.Program.{Program}
use Rattle.mdr_core.specs.Layout.{chosen}
use Rattle.mdr_core.specs.Sound.{IsSound}
use Rattle.mdr_core.specs.Suited.{IsSuited}
use Rattle.mdr_core.specs.Typing.{Slot, slots_of}
use Rattle.mdr_core.proofs.Viewed.{some_same}
use Rattle.mdr_holds.specs.Laws.{IsDriver}
use Rattle.mdr_holds.proofs.Drivers.{programs_are_drivers}
use Rattle.mdr_meaning.specs.declared.wire.Wire.{Wire}
use Rattle.mdr_meaning.specs.Bodies.{body_by, body_from, body_of, kernel_side, known_of, started, user_side}
use Rattle.mdr_meaning.specs.Fair.{AllFit, Fair}
use Rattle.mdr_meaning.specs.FairTrees.{IsSideOf, IsStart}
use Rattle.mdr_meaning.specs.Fit.{Knowledge, KnowsGlobals}
use Rattle.mdr_meaning.specs.Lives.{param_shapes}
use Rattle.mdr_meaning.specs.Sides.{Body, Side}
use Rattle.mdr_meaning.specs.Tree.{Tree}
use Rattle.mdr_meaning.specs.Within.{CodesWithin, Uses}
use Rattle.mdr_meaning.proofs.FairLaws.{trees_are_fair}
use Rattle.mdr_model.proofs.Tests.{and_both}
use Rattle.mdr_paths.specs.Chains.{Chain}
use Rattle.mdr_paths.specs.Numbers.{numbers}
use Rattle.mdr_paths.specs.Paths.{is_in}
use Rattle.mdr_paths.proofs.NodeLists.{is_in-cases, is_in-head, is_in-tail, none_in}
use Rattle.mdr_slice.specs.Graph.{AreCallees}
use Rattle.mdr_split.specs.Law.{HaveBodies, IsPlanOf}
use Rattle.mdr_split.specs.Legal.{has_down_stub, is_kernel_half, is_true}
use Rattle.mdr_watched.specs.Driver.{driver_of, is_user, is_user_half, touched_by}
use Rattle.mdr_serves.proofs.Graphs.{graph_is, graph_of}
use Rattle.mdr_serves.proofs.Opened.{slots_open}
use Rattle.mdr_serves.proofs.Relations.{IsRight, Opens}
use Rattle.mdr_serves.proofs.Strict.{Strict}
use Rattle.mdr_serves.proofs.StrictTrees.{AllOpen, started_strict}

-- a program's call graph
pub record CallGraph (program : Program) : Type 0 where
  pub callees : List (List ℕ)
  pub are : AreCallees program true callees

pub call_graph : (program : Program) → CallGraph program
call_graph program = record { callees = graph_of program; are = graph_is program }

-- ---- options of halves and bodies

user_half : (o : Option Half) → is_user_half o ≡ true → o ≡ Some User
user_half None e = absurd (both_ways false refl e)
user_half (Some Kernel) e = absurd (both_ways false refl e)
user_half (Some User) e = refl

not_user : (h : Half) → is_user_half (Some h) ≡ false → Some h ≡ Some Kernel
not_user Kernel e = refl
not_user User e = absurd (both_ways true e refl)

own_user : (b : Bool) (o : Option Body) (body : Body) → chosen (not b) None o ≡ Some body → (b ≡ true) × (o ≡ Some body)
own_user true o body e = (refl, e)
own_user false o body e = absurd cc

none_kernel : (b : Bool) (o : Option Body) (body : Body) → chosen (not b) None o ≡ None → o ≡ Some body → b ≡ false
none_kernel true o body e q = let both : None ≡ Some body = sym e ∙ q in absurd cc
none_kernel false o body e q = refl

part_is : (b : Bool) (o : Option Body) (body : Body) → chosen b o None ≡ Some body → (b ≡ true) × (o ≡ Some body)
part_is true o body e = (refl, e)
part_is false o body e = absurd cc

by_some : (func : Func) (o : Option (List Stmt)) → is_some o ≡ true → (body : Body) × (body_by func o ≡ Some body)
by_some func None e = absurd (both_ways false refl e)
by_some func (Some ss) e = (_, refl)

slots_by : (func : Func) (o : Option (List Stmt)) (body : Body) → body_by func o ≡ Some body → body.slots ≡ slots_of func
slots_by func None body e = absurd cc
slots_by func (Some ss) body e = ap (λ (b : Body). b.slots) (sym (some_same e))

-- ---- all keys of one list are in another

abbrev all_in : (all some : List Key) → Bool
all_in all [] = true
all_in all (k ∷ ks) = is_in keys all k && all_in all ks

all_from : (all ks : List Key) → ((k : Key) → is_in keys ks k ≡ true → is_in keys all k ≡ true) → all_in all ks ≡ true
all_from all [] h = refl
all_from all (k ∷ ks) h = and_from _ _ (h k (is_in-head keys k ks)) (all_from all ks (λ j e. h j (is_in-tail keys k ks j e)))

all_to : (all ks : List Key) (k : Key) → all_in all ks ≡ true → is_in keys ks k ≡ true → is_in keys all k ≡ true
all_to all [] k h e = absurd (none_in keys k e)
all_to all (j ∷ ks) k h e = of (and_parts (is_in keys all j) (all_in all ks) h) (is_in-cases keys j ks k e) (all_to all ks k)
  where
    of : (is_in keys all j ≡ true) × (all_in all ks ≡ true) → (k ≡ j) ⊎ (is_in keys ks k ≡ true) → (all_in all ks ≡ true → is_in keys ks k ≡ true → is_in keys all k ≡ true) → is_in keys all k ≡ true
    of parts (inl q) later = subst (λ (x : Key). is_in keys all x ≡ true) (sym q) parts.0
    of parts (inr q) later = later parts.1 q

-- ---- of a sound program with its plan

module _ (program : Program) (plan : Plan) (callees : List (List ℕ)) (sound : IsSound program) (bodies : HaveBodies program) (planned : IsPlanOf program plan) (graph : AreCallees program true callees) where
  abbrev uses_now : Uses
  uses_now = uses_by program callees

  abbrev halves_now : List Half
  halves_now = planned.halves.halves

  abbrev own_body : ℕ → Option Body
  own_body f = chosen (not (is_user plan f)) None (body_of program f)

  half_user : (f : ℕ) → is_user plan f ≡ true → slice_get halves_now f ≡ Some User
  half_user f e = user_half (slice_get halves_now f) (ap (λ (hs : List Half). is_user_half (slice_get hs f)) (sym planned.is_plan.halves_are) ∙ e)

  user_inside : (f : ℕ) → is_user plan f ≡ true → f < length program.funcs
  user_inside f e = subst (λ (n : ℕ). f < n) planned.are_halves.halves_size (slice_get_within halves_now f User (half_user f e))

  kernel_half : (f : ℕ) → f < length program.funcs → is_user plan f ≡ false → slice_get halves_now f ≡ Some Kernel
  kernel_half f inside e = of (slice_get_cases halves_now f).1
    where
      none : is_user_half (slice_get halves_now f) ≡ false
      none = ap (λ (hs : List Half). is_user_half (slice_get hs f)) (sym planned.is_plan.halves_are) ∙ e

      of : ((x : Half) × (f < length halves_now) × (slice_get halves_now f ≡ Some x) × (get_or halves_now f x ≡ x)) ⊎ ((length halves_now ≤ f) × (slice_get halves_now f ≡ None)) → slice_get halves_now f ≡ Some Kernel
      of (inl c) = c.2 ∙ not_user c.0 (ap is_user_half (sym c.2) ∙ none)
      of (inr c) = let size = planned.are_halves.halves_size in absurd (omega (arith, c.0, size, inside))

  pub body_there : (f : ℕ) (func : Func) → slice_get program.funcs f ≡ Some func → (body : Body) × (body_of program f ≡ Some body)
  unfolding body_of
  body_there f func names = let there = by_some func func.body (bodies f func names) in (there.0, ap body_from names ∙ there.1)

  own_there : (f : ℕ) (func : Func) → slice_get program.funcs f ≡ Some func → is_user plan f ≡ true → (body : Body) × (own_body f ≡ Some body)
  own_there f func names user = let there = body_there f func names in (there.0, ap (λ (b : Bool). chosen (not b) None (body_of program f)) user ∙ there.1)

  is_suited : IsSuited plan program
  is_suited = keys_are_right.suits program planned.halves plan (record { halves_size = planned.are_halves.halves_size; roots_size = planned.are_halves.roots_size; down_size = planned.are_halves.down_size }) planned.is_plan

  is_driver : IsDriver (driver_of program plan) uses_now
  is_driver = programs_are_drivers.driver program sound plan callees graph

  handled : (f : ℕ) (func : Func) → slice_get program.funcs f ≡ Some func → uses_now.handles f ≡ true → is_kernel_half (driver_of program plan) f ≡ true
  unfolding kernel_side
  handled f func names h =
      let root : is_in numbers planned.roots f ≡ true = (planned.are_roots.exact f).1 (record { func = func; names = names; why = inr h }) in
      let kernel : slice_get halves_now f ≡ Some Kernel = (planned.are_halves.kernel f).1 (Chain.Begin f root) in
      let here : is_user plan f ≡ false = ap (λ (hs : List Half). is_user_half (slice_get hs f)) planned.is_plan.halves_are ∙ ap is_user_half kernel in
      ap (λ (b : Bool). is_some (chosen (not b) (body_of program f) None)) here ∙ ap (λ (o : Option Body). is_some o) (body_there f func names).1

  crossed : (f g : ℕ) (body : Body) (func : Func) → own_body f ≡ Some body → own_body g ≡ None → slice_get program.funcs g ≡ Some func → uses_now.calls f g ≡ true → has_down_stub (driver_of program plan) g ≡ true
  unfolding kernel_side
  crossed f g body func own none names calls =
      let there = body_there g func names in
      let here : is_user plan g ≡ false = none_kernel (is_user plan g) (body_of program g) there.0 none there.1 in
      let user : slice_get halves_now f ≡ Some User = half_user f (own_user (is_user plan f) (body_of program f) body own).0 in
      let kernel : slice_get halves_now g ≡ Some Kernel = kernel_half g (slice_get_within program.funcs g func names) here in
      let stub : is_true (slice_get plan.down g) ≡ true =
      ap (λ (xs : List Bool). is_true (slice_get xs g)) planned.is_plan.down ∙ ap is_true (crossings_have_stubs program planned.roots planned.halves planned.are_halves callees graph f g user kernel calls) in
      let bodied : is_kernel_half (driver_of program plan) g ≡ true = ap (λ (b : Bool). is_some (chosen (not b) (body_of program g) None)) here ∙ ap (λ (o : Option Body). is_some o) there.1 in
      and_both _ _ stub bodied

  -- ---- what functions touch

  keys_are : (f : ℕ) → is_user plan f ≡ true → AreKeys program halves_now f (touched_by plan f)
  keys_are f user = of (slice_get_cases plan.keys f).1
    where
      of : ((x : List Key) × (f < length plan.keys) × (slice_get plan.keys f ≡ Some x) × (get_or plan.keys f x ≡ x)) ⊎ ((length plan.keys ≤ f) × (slice_get plan.keys f ≡ None)) → AreKeys program halves_now f (touched_by plan f)
      of (inl c) = subst (λ (ks : List Key). AreKeys program halves_now f ks) (sym (ap (λ (o : Option (List Key)). unwrap_or o []) c.2)) (planned.is_plan.user f c.0 (half_user f user) c.2)
      of (inr c) = let lists = planned.is_plan.lists in let inside = user_inside f user in absurd (omega (arith, c.0, lists, inside))

  -- of a function that may be called all that it touches is touched
  called_touches : (f g : ℕ) (k : Key) → is_user plan f ≡ true → is_user plan g ≡ true → uses_now.calls f g ≡ true → is_in keys (touched_by plan g) k ≡ true → is_in keys (touched_by plan f) k ≡ true
  called_touches f g k user user' calls h =
      let call : CallsUser program halves_now f g = record { calls = ((graph.rows f (user_inside f user)).exact g).0 calls; user = half_user g user' } in
      ((keys_are f user).exact k).1 (keys_are_right.grow program halves_now f g k call (((keys_are g user').exact k).0 h))

  -- ---- the side of the functions that touch no more than one function does

  module _ (t : ℕ) where
    abbrev led : ℕ → Bool
    led f = all_in (touched_by plan t) (touched_by plan f)

    abbrev part_body : ℕ → Option Body
    part_body f = chosen (led f) (own_body f) None

    abbrev part_side : Side
    part_side = record { known = known_of program; own = part_body; asks = true }

    part_own : (f : ℕ) (body : Body) → part_body f ≡ Some body → own_body f ≡ Some body
    part_own f body e = (part_is (led f) (own_body f) body e).1

    part_closed : (f g : ℕ) (body other : Body) → part_body f ≡ Some body → own_body g ≡ Some other → uses_now.calls f g ≡ true → part_body g ≡ None → ⊥
    part_closed f g body other e q calls none =
        let first = part_is (led f) (own_body f) body e in
        let user : is_user plan f ≡ true = (own_user (is_user plan f) (body_of program f) body first.1).0 in
        let user' : is_user plan g ≡ true = (own_user (is_user plan g) (body_of program g) other q).0 in
        let here : led g ≡ true = all_from (touched_by plan t) (touched_by plan g) (λ k h. all_to (touched_by plan t) (touched_by plan f) k first.0 (called_touches f g k user user' calls h)) in
        let both : Some other ≡ None = sym (ap (λ (b : Bool). chosen b (own_body g) None) here ∙ q) ∙ none in
        absurd cc

    slots_are : (f : ℕ) (body : Body) → body_of program f ≡ Some body → (func : Func) × (slice_get program.funcs f ≡ Some func) × (body.slots ≡ slots_of func)
    unfolding body_of
    slots_are f body e = of (slice_get program.funcs f) refl e
      where
        of : (o : Option Func) → slice_get program.funcs f ≡ o → body_from o ≡ Some body → (func : Func) × (slice_get program.funcs f ≡ Some func) × (body.slots ≡ slots_of func)
        of None q h = absurd cc
        of (Some func) q h = (func, q, slots_by func func.body body h)

    part_opens : (f : ℕ) (body : Body) → part_body f ≡ Some body → AllOpen (Opens (driver_of program plan) t) (param_shapes (known_of program) body.slots)
    part_opens f body e =
        let first = part_is (led f) (own_body f) body e in
        let own = own_user (is_user plan f) (body_of program f) body first.1 in
        let is = slots_are f body own.1 in
        subst (λ (slots : List Slot). AllOpen (Opens (driver_of program plan) t) (param_shapes (known_of program) slots)) (sym is.2)
        (slots_open program sound halves_now (touched_by plan t) (touched_by plan f) f is.0 is.1 (keys_are f own.0) (λ k h. all_to (touched_by plan t) (touched_by plan f) k first.0 h))

    side_is : IsSideOf program part_side
    side_is = record { known = refl; bodies = λ f body e. (own_user (is_user plan f) (body_of program f) body (part_own f body e)).1 }

    itself_there : (func : Func) → slice_get program.funcs t ≡ Some func → is_user plan t ≡ true → (body : Body) × (part_body t ≡ Some body)
    itself_there func names user =
        let there = own_there t func names user in
        (there.0, ap (λ (b : Bool). chosen b (own_body t) None) (all_from (touched_by plan t) (touched_by plan t) (λ k h. h)) ∙ there.1)

    part_fair : (n depth : ℕ) → depth ≤ 255 → (func : Func) (K : Knowledge) (args : List Wire) → K.uses ≡ uses_now → KnowsGlobals program K → slice_get program.funcs t ≡ Some func → is_user plan t ≡ true
        → AllFit program K args (map (λ (p : Param). p.ty) func.params) → Fair program part_side func.result K [] (started part_side n t args depth Tree.Idle)
    unfolding user_side
    part_fair n depth shallow func K args same globals names user fit =
        let there = itself_there func names user in
        let start : IsStart program part_side K t func args depth = record {
          globals = globals;
          within = record { bodies = λ f body e. subst (λ (u : Uses). CodesWithin program u body.slots f body.code) (sym same) (is_driver.user.within.bodies f body (part_own f body e)) };
          names = names;
          body = there.0;
          own = there.1;
          fit = fit;
          limited = omega (arith, shallow);
        } in
        trees_are_fair program sound part_side side_is n t func K args depth start Tree.Idle

  strict_trees : (r n f depth : ℕ) → r < n → depth ≤ 255 → (func : Func) (K : Knowledge) (args : List Wire) → K.uses ≡ uses_now → KnowsGlobals program K → slice_get program.funcs f ≡ Some func → is_user plan f ≡ true
      → AllFit program K args (map (λ (p : Param). p.ty) func.params)
      → Strict (Opens (driver_of program plan) f) program (driver_of program plan).user r K [] (started (driver_of program plan).user n f args depth Tree.Idle)
  unfolding user_side
  strict_trees r n f depth less shallow func K args same globals names user fit =
      let there = itself_there f func names user in
      started_strict (Opens (driver_of program plan) f) program (known_of program) func.result uses_now own_body (part_body f) (part_own f) (part_closed f) (part_opens f) n r f depth less there.0 there.1 args K same
      (part_fair f n depth shallow func K args same globals names user fit)

  pub is_right : IsRight (driver_of program plan) uses_now
  unfolding user_side
  is_right = record {
    driver = is_driver;
    first = programs_are_drivers.first program callees;
    suited = is_suited;
    bodies = bodies;
    taken = λ f h. h;
    handlers = handled;
    stubs = crossed;
    own = own_there;
    strict = strict_trees;
  }
