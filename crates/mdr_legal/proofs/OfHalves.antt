-- Functions of each half, and their bodies.
use Rattle.std.proofs.Common.{◌≡◌, ℕ, Bool, true, false, ◌&&◌, Option, None, refl, sym, ap, ◌∙◌}
use Rattle.std.specs.Prelude.{is_some, not}
use Rattle.mdr_core.specs.declared.place.At.{At}
use Rattle.mdr_core.specs.declared.plan.Plan.{Plan}
use Rattle.mdr_core.specs.declared.program.Program.{Program}
use Rattle.mdr_core.specs.Layout.{chosen}
use Rattle.mdr_meaning.specs.Bodies.{body_of, kernel_side, user_side}
use Rattle.mdr_meaning.specs.Sides.{Body}
use Rattle.mdr_split.specs.Legal.{has_statement, is_kernel_half, is_user_place}
use Rattle.mdr_watched.specs.Driver.{driver_of, is_user}

stands_by : (u : Bool) (o : Option Body) (n : ℕ) → (u && has_statement o n) ≡ has_statement (chosen (not u) None o) n
stands_by true o n = refl
stands_by false o n = refl

some_by : (u : Bool) (o : Option Body) → (u && is_some o) ≡ is_some (chosen (not u) None o)
some_by true o = refl
some_by false o = refl

none_by : (u : Bool) (o : Option Body) → (not u && is_some o) ≡ is_some (chosen (not u) o None)
none_by true o = refl
none_by false o = refl

pub place_is : (program : Program) (plan : Plan) (at : At) → (is_user plan at.func && has_statement (body_of program at.func) at.stmt) ≡ is_user_place (driver_of program plan) at
unfolding is_user_place user_side
place_is program plan at = stands_by (is_user plan at.func) (body_of program at.func) at.stmt

pub user_is : (program : Program) (plan : Plan) (f : ℕ) → (is_user plan f && is_some (body_of program f)) ≡ is_some ((driver_of program plan).user.own f)
unfolding user_side
user_is program plan f = some_by (is_user plan f) (body_of program f)

pub kernel_is : (program : Program) (plan : Plan) (f : ℕ) → (not (is_user plan f) && is_some (body_of program f)) ≡ is_kernel_half (driver_of program plan) f
unfolding kernel_side
kernel_is program plan f = none_by (is_user plan f) (body_of program f)

-- ---- the same, by a test that was made

module _ (program : Program) (plan : Plan) where
  pub place_when : (at : At) (b : Bool) → is_user plan at.func ≡ true → b ≡ has_statement (body_of program at.func) at.stmt → b ≡ is_user_place (driver_of program plan) at
  place_when at b e h = h ∙ sym (ap (λ (u : Bool). u && has_statement (body_of program at.func) at.stmt) e) ∙ place_is program plan at

  pub place_unless : (at : At) → is_user plan at.func ≡ false → false ≡ is_user_place (driver_of program plan) at
  place_unless at e = sym (ap (λ (u : Bool). u && has_statement (body_of program at.func) at.stmt) e) ∙ place_is program plan at

  pub user_when : (f : ℕ) (b : Bool) → is_user plan f ≡ true → b ≡ is_some (body_of program f) → b ≡ is_some ((driver_of program plan).user.own f)
  user_when f b e h = h ∙ sym (ap (λ (u : Bool). u && is_some (body_of program f)) e) ∙ user_is program plan f

  pub user_unless : (f : ℕ) → is_user plan f ≡ false → false ≡ is_some ((driver_of program plan).user.own f)
  user_unless f e = sym (ap (λ (u : Bool). u && is_some (body_of program f)) e) ∙ user_is program plan f

  pub kernel_when : (f : ℕ) (b : Bool) → is_user plan f ≡ false → b ≡ is_some (body_of program f) → b ≡ is_kernel_half (driver_of program plan) f
  kernel_when f b e h = h ∙ sym (ap (λ (u : Bool). not u && is_some (body_of program f)) e) ∙ kernel_is program plan f

  pub kernel_unless : (f : ℕ) → is_user plan f ≡ true → false ≡ is_kernel_half (driver_of program plan) f
  kernel_unless f e = sym (ap (λ (u : Bool). not u && is_some (body_of program f)) e) ∙ kernel_is program plan f
