-- Programs with plans are drivers, by what the slicer says of calls.
use Rattle.std.proofs.Common.{◌≡◌, ◌⊎◌, inl, inr, ℕ, zero, suc, ◌<◌, ◌≤◌, Bool, true, false, not, List, [], ◌∷◌, ◌++◌, length, slice_get, get_or, Option, Some, None, refl, sym, ap, ◌∙◌, subst, arith}
use Rattle.std.proofs.lemmas.Option.{slice_get_cases, slice_get_within}
use Rattle.std.proofs.lemmas.Bool.{or_left, or_right}
use Rattle.mdr_callees.specs.Callees.{uses_by}
use Rattle.mdr_callees.proofs.CalleeLaws.{code_keeps}
use Rattle.mdr_callees.proofs.HalfLaws.{nowhere}
use Rattle.mdr_core.specs.declared.plan.Half.{Half}
use Rattle.mdr_core.specs.declared.plan.Half.TheVariants.{Kernel, User}
use Rattle.mdr_core.specs.declared.plan.Plan.{Plan}
use Rattle.mdr_core.specs.declared.program.Func.{Func}
use Rattle.mdr_core.specs.declared.program.GlobalDef.{GlobalDef}
use Rattle.mdr_core.specs.declared.program.Program.{Program}
use Rattle.mdr_core.specs.declared.value.Value.{Value}
use Rattle.mdr_core.specs.declared.value.Value.TheVariants as value
use Rattle.mdr_core.specs.Layout.{chosen}
use Rattle.mdr_core.specs.Sound.{IsSound}
use Rattle.mdr_meaning.specs.Bodies.{body_from, body_of, kernel_side, user_side}
use Rattle.mdr_meaning.specs.FairTrees.{IsSideOf}
use Rattle.mdr_meaning.specs.Sides.{Body, Side}
use Rattle.mdr_meaning.proofs.FairLaws.{sides_are_of_programs}
use Rattle.mdr_paths.specs.Chains.{Begin}
use Rattle.mdr_paths.specs.Numbers.{numbers}
use Rattle.mdr_paths.specs.Paths.{is_in}
use Rattle.mdr_paths.proofs.NodeLists.{in_both, is_in-head}
use Rattle.mdr_slice.specs.Calls.{body_names, global_names, handlers_of, value_names, values_names}
use Rattle.mdr_slice.specs.declared.halves.Halves.{Halves}
use Rattle.mdr_slice.specs.Graph.{AreCallees}
use Rattle.mdr_slice.specs.Halves.{AreHalves}
use Rattle.mdr_watched.specs.Driver.{driver_of, is_user, is_user_half}
use Rattle.mdr_holds.specs.Holding.{IsHandler}
use Rattle.mdr_holds.specs.Laws.{CallsItself, HaveBodies, HaveHalves, IsCode, IsDriver, ProgramsAreDrivers, TakesFirst}
use Rattle.mdr_holds.proofs.Fitting.{some_is}

is_code : (program : Program) → IsSound program → (callees : List (List ℕ)) → AreCallees program true callees → (side : Side) → IsSideOf program side → IsCode program (uses_by program callees) side
is_code program sound callees h side s = record { bodies = s; within = code_keeps program sound callees h side s }

is_driver : (program : Program) → IsSound program → (plan : Plan) (callees : List (List ℕ)) → AreCallees program true callees → IsDriver (driver_of program plan) (uses_by program callees)
is_driver program sound plan callees h =
    let sides = sides_are_of_programs program (λ f. not (is_user plan f)) in
    record { sound = sound; kernel = is_code program sound callees h _ sides.1; user = is_code program sound callees h _ sides.2 }

-- ---- first values

in_left : (xs ys : List ℕ) (n : ℕ) → is_in numbers xs n ≡ true → is_in numbers (xs ++ ys) n ≡ true
in_left xs ys n h = in_both numbers xs ys n ∙ or_left _ _ h

in_right : (xs ys : List ℕ) (n : ℕ) → is_in numbers ys n ≡ true → is_in numbers (xs ++ ys) n ≡ true
in_right xs ys n h = in_both numbers xs ys n ∙ or_right _ _ h

named_value : (vs : List Value) (i f : ℕ) → slice_get vs i ≡ Some (value.Fn f) → is_in numbers (values_names vs) f ≡ true
named_value [] i f e = absurd cc
named_value (v ∷ vs) zero f e = in_left (value_names v) (values_names vs) f (subst (λ (x : Value). is_in numbers (value_names x) f ≡ true) (sym (some_is e)) (is_in-head numbers f []))
named_value (v ∷ vs) (suc i) f e = in_right (value_names v) (values_names vs) f (named_value vs i f e)

named_global : (defs : List GlobalDef) (g i f : ℕ) (def : GlobalDef) → slice_get defs g ≡ Some def → slice_get def.init i ≡ Some (value.Fn f) → is_in numbers (global_names defs) f ≡ true
unfolding global_names
named_global [] g i f def e q = absurd cc
named_global (d ∷ defs) zero i f def e q = in_left (values_names d.init) (global_names defs) f (named_value d.init i f (ap (λ (x : GlobalDef). slice_get x.init i) (some_is e) ∙ q))
named_global (d ∷ defs) (suc g) i f def e q = in_right (values_names d.init) (global_names defs) f (named_global defs g i f def e q)

takes_first : (program : Program) (callees : List (List ℕ)) → TakesFirst program (uses_by program callees)
takes_first program callees g i f def e q = in_right (body_names program.funcs) (global_names program.globals) f (named_global program.globals g i f def e q)

-- ---- code of the kernel half calls no other function

module _ (program : Program) (plan : Plan) (roots : List ℕ) (halves : Halves) (are : AreHalves program roots halves) (same : plan.halves ≡ halves.halves) (bodies : HaveBodies program) where
  func_there : (f : ℕ) (body : Body) → body_of program f ≡ Some body → f < length program.funcs
  unfolding body_of
  func_there f body e = of (slice_get program.funcs f) refl e where
    of : (o : Option Func) → slice_get program.funcs f ≡ o → body_from o ≡ Some body → f < length program.funcs
    of None q h = absurd cc
    of (Some func) q h = slice_get_within program.funcs f func q

  by_half : (f : ℕ) (o : Option Half) → slice_get halves.halves f ≡ o → is_user_half o ≡ false → f < length program.funcs → slice_get halves.halves f ≡ Some Kernel
  by_half f (Some Kernel) q h inside = q
  by_half f (Some User) q h inside = absurd cc
  by_half f None q h inside = absurd (outside (slice_get_cases halves.halves f).1) where
    outside : ((x : Half) × (f < length halves.halves) × (slice_get halves.halves f ≡ Some x) × (get_or halves.halves f x ≡ x)) ⊎ ((length halves.halves ≤ f) × (slice_get halves.halves f ≡ None)) → ⊥
    outside (inl c) = let both : None ≡ Some c.0 = sym q ∙ c.2 in cc
    outside (inr c) = let size = are.halves_size in omega (arith, c.0, size, inside)

  -- a function with a body in the kernel half is of it
  kernel_half : (f : ℕ) (body : Body) → chosen (not (is_user plan f)) (body_of program f) None ≡ Some body → slice_get halves.halves f ≡ Some Kernel
  kernel_half f body e = of (is_user plan f) refl e where
    of : (b : Bool) → is_user plan f ≡ b → chosen (not b) (body_of program f) None ≡ Some body → slice_get halves.halves f ≡ Some Kernel
    of true q h = absurd cc
    of false q h = by_half f (slice_get halves.halves f) refl (sym (ap (λ (hs : List Half). is_user_half (slice_get hs f)) same) ∙ q) (func_there f body h)

  -- and one of the kernel half has its body there
  kernel_body : (g : ℕ) → slice_get halves.halves g ≡ Some Kernel → chosen (not (is_user plan g)) (body_of program g) None ≡ None → ⊥
  kernel_body g kernel none =
      let inside : g < length program.funcs = subst (λ (n : ℕ). g < n) are.halves_size (slice_get_within halves.halves g Kernel kernel) in
      let ours : is_user plan g ≡ false = ap (λ (hs : List Half). is_user_half (slice_get hs g)) same ∙ ap is_user_half kernel in
      of inside (slice_get_cases program.funcs g).1 (sym (ap (λ (b : Bool). chosen (not b) (body_of program g) None) ours) ∙ none)
    where
      of : g < length program.funcs → ((x : Func) × (g < length program.funcs) × (slice_get program.funcs g ≡ Some x) × (get_or program.funcs g x ≡ x)) ⊎ ((length program.funcs ≤ g) × (slice_get program.funcs g ≡ None)) → body_of program g ≡ None → ⊥
      of inside (inl c) none = let both : Some (bodies g c.0 c.2).0 ≡ None = sym (bodies g c.0 c.2).1 ∙ none in cc
      of inside (inr c) none = omega (arith, c.0, inside)

  stays : (callees : List (List ℕ)) → AreCallees program false callees → CallsItself (uses_by program callees) (driver_of program plan).kernel
  unfolding kernel_side
  stays callees h f g body own calls none = kernel_body g (nowhere program roots halves are callees h f g (kernel_half f body own) calls) none

  handler_body : (callees : List (List ℕ)) → ((f : ℕ) → is_in numbers (handlers_of program) f ≡ true → is_in numbers roots f ≡ true) → (f : ℕ) → IsHandler program (uses_by program callees) f → (body : Body) × ((driver_of program plan).kernel.own f ≡ Some body)
  unfolding kernel_side
  handler_body callees rooted f x =
      let kernel : slice_get halves.halves f ≡ Some Kernel = (are.kernel f).1 (Begin f (rooted f x.handles)) in
      let ours : is_user plan f ≡ false = ap (λ (hs : List Half). is_user_half (slice_get hs f)) same ∙ ap is_user_half kernel in
      let body = bodies f x.func x.names in
      (body.0, ap (λ (b : Bool). chosen (not b) (body_of program f) None) ours ∙ body.1)

-- ---- each function has its body in a half

no_body : {X : Type 0} (body : Body) → ◌≡◌ {A = Option Body} None (Some body) → X
no_body body e = absurd cc

module _ (program : Program) (bodies : HaveBodies program) (plan : Plan) where
  in_kernel_half : (f : ℕ) (func : Func) → slice_get program.funcs f ≡ Some func → is_user plan f ≡ false → (body : Body) × ((driver_of program plan).kernel.own f ≡ Some body)
  unfolding kernel_side
  in_kernel_half f func names e = let body = bodies f func names in (body.0, ap (λ (b : Bool). chosen (not b) (body_of program f) None) e ∙ body.1)

  in_user_half : (f : ℕ) (func : Func) → slice_get program.funcs f ≡ Some func → is_user plan f ≡ true → (body : Body) × ((driver_of program plan).user.own f ≡ Some body)
  unfolding user_side
  in_user_half f func names e = let body = bodies f func names in (body.0, ap (λ (b : Bool). chosen (not b) None (body_of program f)) e ∙ body.1)

  not_in_user_half : (f : ℕ) (func : Func) → slice_get program.funcs f ≡ Some func → (driver_of program plan).user.own f ≡ None → (body : Body) × ((driver_of program plan).kernel.own f ≡ Some body)
  not_in_user_half f func names none = of (is_user plan f) refl where
    of : (b : Bool) → is_user plan f ≡ b → (body : Body) × ((driver_of program plan).kernel.own f ≡ Some body)
    of true e = no_body (in_user_half f func names e).0 (sym none ∙ (in_user_half f func names e).1)
    of false e = in_kernel_half f func names e

  have_halves : HaveHalves (driver_of program plan)
  have_halves = record { across = not_in_user_half; kernel = in_kernel_half; user = in_user_half }

pub programs_are_drivers : ProgramsAreDrivers
programs_are_drivers = record {
  driver = is_driver;
  first = takes_first;
  halves = λ program bodies plan. have_halves program bodies plan;
  kernel = λ program plan roots halves are same bodies callees h. stays program plan roots halves are same bodies callees h;
  handlers = λ program plan roots halves are same bodies callees rooted f x. handler_body program plan roots halves are same bodies callees rooted f x;
}
