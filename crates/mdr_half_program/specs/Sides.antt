-- for proofs
-- Which functions a half's text has, beside those of the whole program.
use Rattle.std.specs.Prelude.{◌≡◌, Bool, true, false, List, [], ◌∷◌, map, None}
use Rattle.mdr_core.specs.declared.plan.Half.{Half}
use Rattle.mdr_core.specs.declared.plan.Plan.{Plan}
use Rattle.mdr_core.specs.declared.program.Func.{Func}
use Rattle.mdr_check.specs.declared.file.Piece.{Piece}
use Rattle.mdr_program.specs.declared.parts.Parts.{Parts}
use Rattle.mdr_program.specs.Parts.{parts_of}
use Rattle.mdr_half.specs.Halves.{half_of, is_same_half}
use Rattle.mdr_half_program.specs.Pieces.{piece_in}

-- a function of the other half: it has its name, and no body, no locals and no `__critical`
pub record IsBare (whole part : Func) : Type 0 where
  pub name : part.name ≡ whole.name
  pub body : part.body ≡ None
  pub locals : part.locals ≡ []
  pub critical : part.critical ≡ false

-- a function of the half itself is there as it is
abbrev pub IsShown : (is_mine : Bool) → (whole part : Func) → Type 0
IsShown true whole part = part ≡ whole
IsShown false whole part = IsBare whole part

abbrev pub AreShown : Half → Plan → (whole part : List Func) → Type 0
AreShown half plan [] [] = Unit {0}
AreShown half plan [] (g ∷ gs) = ⊥
AreShown half plan (f ∷ fs) [] = ⊥
AreShown half plan (f ∷ fs) (g ∷ gs) = IsShown (is_same_half (half_of plan f.name) half) f g × AreShown half plan fs gs

-- the parts of a program that a half's text has
pub record IsSide (half : Half) (plan : Plan) (whole part : Parts) : Type 0 where
  pub structs : part.structs ≡ whole.structs
  pub variables : part.variables ≡ whole.variables
  pub funcs : AreShown half plan whole.funcs part.funcs

abbrev pub HalvesHaveTheParts : Type 0
HalvesHaveTheParts = (half : Half) (plan : Plan) (xs : List Piece) → IsSide half plan (parts_of xs) (parts_of (map (piece_in half plan) xs))
