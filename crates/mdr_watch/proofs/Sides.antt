-- The code of each half, by the halves of a plan.
use Rattle.std.proofs.Common.{◌≡◌, ℕ, zero, suc, true, false, not, List, [], ◌∷◌, length, Option, Some, None, refl, sym, ap, ◌∙◌}
use Rattle.std.specs.Prelude.{is_some, slice_get}
use Rattle.mdr_core.specs.declared.code.Stmt.{Stmt}
use Rattle.mdr_core.specs.declared.plan.Half.{Half}
use Rattle.mdr_core.specs.declared.plan.Half.TheVariants as half
use Rattle.mdr_core.specs.declared.plan.Plan.{Plan}
use Rattle.mdr_core.specs.declared.program.Func.{Func}
use Rattle.mdr_core.specs.declared.program.Program.{Program}
use Rattle.mdr_core.specs.Layout.{chosen}
use Rattle.mdr_exec.specs.declared.frame.Side.TheVariants as which
use Rattle.mdr_exec.specs.Halves.{is_kernel_half, side_in}
use Rattle.mdr_meaning.specs.Bodies.{body_by, body_from, body_of, kernel_side, user_side}
use Rattle.mdr_meaning.specs.Sides.{Body}
use Rattle.mdr_watched.specs.Driver.{driver_of, is_user, is_user_half}
use Rattle.mdr_watch.specs.Watching.{HaveBodies}

-- a function with statements has a body
its_body : (program : Program) (func : ℕ) (f : Func) (body : List Stmt) → slice_get program.funcs func ≡ Some f → f.body ≡ Some body → (x : Body) × (body_of program func ≡ Some x)
unfolding body_of
its_body program func f body there has = (_, ap body_from there ∙ ap (body_by f) has)

a_body : (o : Option (List Stmt)) → is_some o ≡ true → (body : List Stmt) × (o ≡ Some body)
a_body None h = absurd cc
a_body (Some body) h = (body, refl)

a_half : (o : Option Half) → is_user_half o ≡ true → (h : Half) × (o ≡ Some h)
a_half None u = absurd cc
a_half (Some h) u = (h, refl)

-- what is in one list is in the other
there_both : {A B : Type 0} (xs : List A) (ys : List B) (f : ℕ) (x : A) → length xs ≡ length ys → slice_get xs f ≡ Some x → (y : B) × (slice_get ys f ≡ Some y)
there_both [] ys f x e is = absurd cc
there_both (w ∷ xs) [] f x e is = absurd cc
there_both (w ∷ xs) (y ∷ ys) zero x e is = (y, refl)
there_both (w ∷ xs) (y ∷ ys) (suc f) x e is = let s : length xs ≡ length ys = cc in there_both xs ys f x s is

-- past the end of one list is past the end of the other
past_both : {A B : Type 0} (xs : List A) (ys : List B) (f : ℕ) → length xs ≡ length ys → slice_get xs f ≡ None → slice_get ys f ≡ None
past_both [] [] f e n = refl
past_both [] (y ∷ ys) f e n = absurd cc
past_both (x ∷ xs) [] f e n = refl
past_both (x ∷ xs) (y ∷ ys) zero e n = absurd cc
past_both (x ∷ xs) (y ∷ ys) (suc f) e n = let s : length xs ≡ length ys = cc in past_both xs ys f s n

-- a function without a half has no body
no_body : (program : Program) (halves : List Half) (f : ℕ) → length halves ≡ length program.funcs → slice_get halves f ≡ None → body_of program f ≡ None
unfolding body_of
no_body program halves f e n = ap body_from (past_both halves program.funcs f e n)

kernel_own : (h : Option Half) (body : Option Body) → (h ≡ None → body ≡ None) → chosen (is_kernel_half h) body None ≡ chosen (not (is_user_half h)) body None
kernel_own None body none = sym (none refl)
kernel_own (Some half.Kernel) body none = refl
kernel_own (Some half.User) body none = refl

user_own : (h : Option Half) (body : Option Body) → (h ≡ None → body ≡ None) → chosen (not (is_kernel_half h)) body None ≡ chosen (not (is_user_half h)) None body
user_own None body none = none refl
user_own (Some half.Kernel) body none = refl
user_own (Some half.User) body none = refl

module _ (program : Program) (plan : Plan) (fit : length plan.halves ≡ length program.funcs) where
  pub kernel_is : side_in which.Kernel plan.halves program ≡ (driver_of program plan).kernel
  unfolding kernel_side
  kernel_is = λ i. record {
    known = (driver_of program plan).kernel.known;
    own = λ f. kernel_own (slice_get plan.halves f) (body_of program f) (no_body program plan.halves f fit) i;
    asks = false;
  }

  pub user_is : side_in which.User plan.halves program ≡ (driver_of program plan).user
  unfolding user_side
  user_is = λ i. record {
    known = (driver_of program plan).user.known;
    own = λ f. user_own (slice_get plan.halves f) (body_of program f) (no_body program plan.halves f fit) i;
    asks = true;
  }

  -- the body of a function of the user half is entered in an upcall
  own_user : (f : ℕ) (h : Option Half) → slice_get plan.halves f ≡ h → is_user_half h ≡ true → chosen (not (is_user_half h)) None (body_of program f) ≡ body_of program f
  own_user f None e u = absurd (cc u)
  own_user f (Some half.Kernel) e u = absurd (cc u)
  own_user f (Some half.User) e u = refl

  pub user_body : (f : ℕ) → is_user plan f ≡ true → (driver_of program plan).user.own f ≡ body_of program f
  unfolding user_side
  user_body f u = own_user f (slice_get plan.halves f) refl u

  -- it has one, where each function has one
  pub user_has_body : HaveBodies program → (f : ℕ) → is_user plan f ≡ true → (body : Body) × (body_of program f ≡ Some body)
  user_has_body bodies f u =
      let h = a_half (slice_get plan.halves f) u in
      let there = there_both plan.halves program.funcs f h.0 fit h.1 in
      let has = a_body there.0.body (bodies f there.0 there.1) in
      its_body program f there.0 has.0 there.1 has.1
