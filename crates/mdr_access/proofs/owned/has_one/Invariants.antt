use Rattle.std.proofs.Common.{◌≡◌, ℕ, ◌<◌, map, Some, slice_get}
use Rattle.mdr_access.specs.Forms.{Form, FormHas}
use Rattle.mdr_access.specs.Told.{form_of}
use Rattle.mdr_access.proofs.owned.has_one.Given as goal

-- none of the forms so far has
abbrev pub invariant-loop-form : goal.invariant-loop-form
invariant-loop-form l = (i : ℕ) (form : Form) → i < l.form-index → slice_get (map form_of l.forms) i ≡ Some form → FormHas l.program form l.key → ⊥
