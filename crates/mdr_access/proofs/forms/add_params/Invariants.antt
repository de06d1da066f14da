use Rattle.std.proofs.Common.{◌≡◌, ◌++◌, map, drop}
use Rattle.mdr_access.specs.Told.{form_of}
use Rattle.mdr_access.specs.Forms.{param_forms}
use Rattle.mdr_access.proofs.forms.add_params.Given as goal

abbrev pub invariant-loop-param : goal.invariant-loop-param
invariant-loop-param l = map form_of l.out.items ++ param_forms (drop l.param-index l.params) ≡ map form_of l.fn.out.items ++ param_forms (l.params)
