-- protocol
-- Which keys a function has access forms for itself, as indices of a list of keys.
use Rattle.std.specs.Prelude.{◌≡◌, ℕ, List, Some, None, slice_get}
use Rattle.mdr_core.specs.declared.program.Program.{Program}
use Rattle.mdr_core.specs.declared.plan.Key.{Key}
use Rattle.mdr_core.specs.Layout.{key_at}
use Rattle.mdr_access.specs.Forms.{Form, FormHas}

-- a cell of an element of the type of this number has the key
pub record HasCell (program : Program) (number : ℕ) (k : Key) : Type 0 where
  pub cell : ℕ
  pub is : key_at program None number cell ≡ Some k

-- one of the forms has the key
pub record HasOne (program : Program) (forms : List Form) (k : Key) : Type 0 where
  pub at : ℕ
  pub form : Form
  pub is : slice_get forms at ≡ Some form
  pub has : FormHas program form k

-- one of the forms has the key at this index
pub record Owns (program : Program) (forms : List Form) (keys : List Key) (at : ℕ) : Type 0 where
  pub key : Key
  pub is : slice_get keys at ≡ Some key
  pub one : HasOne program forms key
