-- for proofs
-- Which plans suit the functions and the keys of a half's text.
use Rattle.std.specs.Prelude.{◌≡◌, ℕ, true, List, [], ◌∷◌, length, map}
use Rattle.mdr_core.specs.declared.plan.Half.{Half}
use Rattle.mdr_core.specs.declared.plan.Half.TheVariants.{User}
use Rattle.mdr_core.specs.declared.plan.Plan.{Plan}
use Rattle.mdr_core.specs.declared.program.Func.{Func}
use Rattle.mdr_core.specs.Suited.{IsSuited}
use Rattle.mdr_check.specs.declared.file.Piece.{Piece}
use Rattle.mdr_program.specs.declared.parts.Parts.{Parts}
use Rattle.mdr_program.specs.Parts.{parts_of}
use Rattle.mdr_program.specs.Programs.{made}
use Rattle.mdr_check_half.specs.Suiting.{are_named, each_function, each_key, is_bare, is_whole, names_no_lock, names_something}
use Rattle.mdr_half.specs.Halves.{half_of}
use Rattle.mdr_half_program.specs.Bodies.{HaveBodies}
use Rattle.mdr_half_program.specs.Sides.{IsSide}

-- each function has by its name the half that it has by its number
abbrev pub HaveHalves : (half : List ℕ → Half) → List Half → List Func → Type 0
HaveHalves half [] fs = Unit {0}
HaveHalves half (h ∷ hs) [] = ⊥
HaveHalves half (h ∷ hs) (f ∷ fs) = (half f.name ≡ h) × HaveHalves half hs fs

-- the tests of functions and keys
pub record SuitsFunctions (plan : Plan) (ps : Parts) : Type 0 where
  pub names : are_named plan.names ps.funcs ≡ true
  pub whole : each_function is_whole plan.halves ps.funcs ≡ true
  pub bare : each_function is_bare plan.halves ps.funcs ≡ true
  pub something : each_key (λ k. names_something plan.types ps k) plan.keys ≡ true
  pub no_lock : each_key (λ k. names_no_lock plan.types ps k) plan.keys ≡ true

-- a plan that suits the whole program, in which each function has a body, suits the functions and the keys of the user half's text
abbrev pub PlansSuitTheirFunctions : Type 0
PlansSuitTheirFunctions = (plan : Plan) (whole part : Parts) → IsSide User plan whole part → IsSuited plan (made whole) → HaveBodies whole.funcs → HaveHalves (half_of plan) plan.halves whole.funcs → SuitsFunctions plan part

-- a plan of the program's functions gives each its half by its name, since no name is that of two functions
abbrev pub HalvesAreByNames : Type 0
HalvesAreByNames = (plan : Plan) (xs : List Piece) → plan.names ≡ map (λ (f : Func). f.name) (parts_of xs).funcs → length plan.halves ≡ length plan.names → HaveHalves (half_of plan) plan.halves (parts_of xs).funcs
