-- The code of each half, by the halves of a plan.
use Rattle.std.proofs.Common.{◌≡◌, ℕ, zero, suc, true, not, List, [], ◌∷◌, length, Option, Some, None, refl, ap}
use Rattle.std.specs.Prelude.{slice_get}
use Rattle.mdr_core.specs.declared.plan.Half.{Half}
use Rattle.mdr_core.specs.declared.plan.Half.TheVariants as half
use Rattle.mdr_core.specs.declared.plan.Plan.{Plan}
use Rattle.mdr_core.specs.declared.program.Program.{Program}
use Rattle.mdr_core.specs.Layout.{chosen}
use Rattle.mdr_exec.specs.declared.frame.Side.TheVariants as which
use Rattle.mdr_exec.specs.Halves.{is_kernel_half, side_in}
use Rattle.mdr_meaning.specs.Bodies.{body_from, body_of, user_side}
use Rattle.mdr_meaning.specs.Sides.{Body}
use Rattle.mdr_watched.specs.Driver.{driver_of, is_user, is_user_half}

-- past the end of one list is past the end of the other
past_both : {A B : Type 0} (xs : List A) (ys : List B) (f : ℕ) → length xs ≡ length ys → slice_get xs f ≡ None → slice_get ys f ≡ None
past_both [] [] f e n = refl
past_both [] (y ∷ ys) f e n = absurd cc
past_both (x ∷ xs) [] f e n = refl
past_both (x ∷ xs) (y ∷ ys) zero e n = absurd cc
past_both (x ∷ xs) (y ∷ ys) (suc f) e n = let s : length xs ≡ length ys = cc in past_both xs ys f s n

-- a function without a half has no body
no_body : (program : Program) (halves : List Half) (f : ℕ) → length halves ≡ length program.funcs → slice_get halves f ≡ None → body_of program f ≡ None
unfolding body_of
no_body program halves f e n = ap body_from (past_both halves program.funcs f e n)

user_own : (h : Option Half) (body : Option Body) → (h ≡ None → body ≡ None) → chosen (not (is_kernel_half h)) body None ≡ chosen (not (is_user_half h)) None body
user_own None body none = none refl
user_own (Some half.Kernel) body none = refl
user_own (Some half.User) body none = refl

module _ (program : Program) (plan : Plan) (fit : length plan.halves ≡ length program.funcs) where
  pub user_is : side_in which.User plan.halves program ≡ (driver_of program plan).user
  unfolding user_side
  user_is = λ i. record {
    known = (driver_of program plan).user.known;
    own = λ f. user_own (slice_get plan.halves f) (body_of program f) (no_body program plan.halves f fit) i;
    asks = true;
  }

  -- the body of a function of the user half is entered in an upcall
  own_user : (f : ℕ) (h : Option Half) → slice_get plan.halves f ≡ h → is_user_half h ≡ true → chosen (not (is_user_half h)) None (body_of program f) ≡ body_of program f
  own_user f None e u = absurd (cc u)
  own_user f (Some half.Kernel) e u = absurd (cc u)
  own_user f (Some half.User) e u = refl

  pub user_body : (f : ℕ) → is_user plan f ≡ true → (driver_of program plan).user.own f ≡ body_of program f
  unfolding user_side
  user_body f u = own_user f (slice_get plan.halves f) refl u
