-- protocol
-- What marks of functions tell, as the halves are made from them.
use Rattle.std.specs.Prelude.{◌≡◌, ℕ, ◌<◌, Bool, true, false, List, [], get_or}
use Rattle.mdr_core.specs.declared.plan.Half.{Half}
use Rattle.mdr_core.specs.declared.plan.Half.TheVariants.{Kernel, User}
use Rattle.mdr_core.specs.declared.program.Program.{Program}
use Rattle.mdr_paths.specs.Numbers.{numbers, marked}
use Rattle.mdr_paths.specs.Paths.{is_in}
use Rattle.mdr_slice.specs.Graph.{MayCall}

abbrev pub half_by : Bool → Half
half_by true = Kernel
half_by false = User

-- one of the first functions that isn't marked has an edge to the node
pub record CalledByUser (kernel : List Bool) (edges : List (List ℕ)) (first : ℕ) (node : ℕ) : Type 0 where
  pub caller : ℕ
  pub before : caller < first
  pub user : marked kernel caller ≡ false
  pub calls : is_in numbers (get_or edges caller []) node ≡ true

pub record HasBoth (one other : List Bool) (node : ℕ) : Type 0 where
  pub first : marked one node ≡ true
  pub second : marked other node ≡ true

-- a marked function that one without a mark may call
pub record IsDown (program : Program) (kernel : List Bool) (f : ℕ) : Type 0 where
  pub marked_one : marked kernel f ≡ true
  pub caller : ℕ
  pub user : marked kernel caller ≡ false
  pub calls : MayCall program true caller f
