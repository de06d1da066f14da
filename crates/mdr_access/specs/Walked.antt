-- protocol
-- What a function of the user half leads to, as the code has it.
use Rattle.std.specs.Prelude.{◌≡◌, ℕ, Bool, true, false, List, [], ◌∷◌, ◌++◌, Option, Some, None, slice_get, get_or, length, map, not}
use Rattle.mdr_core.specs.declared.program.Program.{Program}
use Rattle.mdr_core.specs.declared.program.Func.{Func}
use Rattle.mdr_core.specs.declared.plan.Key.{Key}
use Rattle.mdr_core.specs.declared.plan.Half.{Half}
use Rattle.mdr_core.specs.declared.plan.Half.TheVariants.{Kernel, User}
use Rattle.mdr_core.specs.Layout.{chosen}
use Rattle.mdr_paths.specs.Numbers.{AreReached}
use Rattle.mdr_paths.specs.Marking.{AreNodes, Tells}
use Rattle.mdr_slice.specs.Marks.{CalledByUser}
use Rattle.mdr_access.specs.AllKeys.{picked}
use Rattle.mdr_access.specs.Forms.{func_forms}
use Rattle.mdr_access.specs.Keys.{AreKeys, LeadsTo}
use Rattle.mdr_access.specs.Owned.{Owns}

abbrev pub is_user_half : Half → Bool
is_user_half Kernel = false
is_user_half User = true

abbrev pub user_by : Option Half → Bool
user_by None = false
user_by (Some h) = is_user_half h

abbrev pub is_user : List Half → ℕ → Bool
is_user halves f = user_by (slice_get halves f)

-- those of the functions that are of the user half
abbrev pub users : List Half → List ℕ → List ℕ
users halves [] = []
users halves (f ∷ fs) = chosen (is_user halves f) (f ∷ []) [] ++ users halves fs

-- a function that t leads to owns the key at this index
pub record IsTouchedAt (program : Program) (halves : List Half) (t : ℕ) (keys : List Key) (at : ℕ) : Type 0 where
  pub func : ℕ
  pub reached : LeadsTo program halves t func
  pub own : Func
  pub names : slice_get program.funcs func ≡ Some own
  pub owns : Owns program (func_forms program own) keys at

-- for each function the indices of the keys that it owns
pub record AreOwned (program : Program) (keys : List Key) (rows : List (List ℕ)) : Type 0 where
  pub size : length rows ≡ length program.funcs
  pub each : (u : ℕ) (own : Func) → slice_get program.funcs u ≡ Some own → AreNodes (length keys) (Owns program (func_forms program own) keys) (get_or rows u [])

-- the keys are those that the rows of what is marked have
pub record IsFoundIn (rows : List (List ℕ)) (keys : List Key) (led : List Bool) (found : List Key) : Type 0 where
  pub marks : List Bool
  pub told : Tells (length keys) (CalledByUser (map not led) rows (length rows)) marks
  pub is : found ≡ picked keys marks

-- the keys are those that the rows of what t leads to have
pub record IsFoundBy (edges rows : List (List ℕ)) (keys : List Key) (t : ℕ) (found : List Key) : Type 0 where
  pub led : List Bool
  pub reached : AreReached edges (t ∷ []) led
  pub found_in : IsFoundIn rows keys led found

-- the list of a function: nothing in the kernel half, S(t) in the user half
pub record IsListOf (program : Program) (halves : List Half) (t : ℕ) (ks : List Key) : Type 0 where
  pub kernel : slice_get halves t ≡ Some Kernel → ks ≡ []
  pub user : slice_get halves t ≡ Some User → AreKeys program halves t ks

abbrev pub IsFoundIf : Bool → (edges rows : List (List ℕ)) (keys : List Key) (t : ℕ) (found : List Key) → Type 0
IsFoundIf true edges rows keys t found = IsFoundBy edges rows keys t found
IsFoundIf false edges rows keys t found = found ≡ []

pub record AreFound (halves : List Half) (edges rows : List (List ℕ)) (keys : List Key) (n : ℕ) (lists : List (List Key)) : Type 0 where
  pub size : length lists ≡ n
  pub each : (t : ℕ) (ks : List Key) → slice_get lists t ≡ Some ks → IsFoundIf (is_user halves t) edges rows keys t ks

pub record AreLists (program : Program) (halves : List Half) (lists : List (List Key)) : Type 0 where
  pub size : length lists ≡ length program.funcs
  pub each : (t : ℕ) (ks : List Key) → slice_get lists t ≡ Some ks → IsListOf program halves t ks
