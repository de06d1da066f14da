-- believed
-- Enumeration constants (C99 6.7.2.2), and how a scope grows.
use Rattle.std.specs.Prelude.{ℕ, List, [], ◌∷◌, ◌++◌, not, is_some, Result, Ok, Err}
use Rattle.mdr_core.specs.declared.place.Place.{Place}
use Rattle.mdr_syntax.specs.declared.tree.Enumerator.{Enumerator}
use Rattle.mdr_faults.specs.declared.fault.Fault.{Fault}
use Rattle.mdr_faults.specs.declared.fault.FaultKind.TheVariants.{Redefined}
use Rattle.mdr_faults.specs.declared.scope.Constant.{Constant}
use Rattle.mdr_faults.specs.declared.scope.Entity.{Entity}
use Rattle.mdr_faults.specs.declared.scope.Entity.TheVariants as entity
use Rattle.mdr_faults.specs.declared.scope.Scope.{Scope}
use Rattle.mdr_faults.specs.Declarations.{enumerator_value}
use Rattle.mdr_faults.specs.Faults.{Checked, Right, again, demand, next, told}
use Rattle.mdr_faults.specs.Scopes.{entity_among}

-- behind a declaration its name stands among those of the file
abbrev pub with_name : Scope → List ℕ → Result Entity Fault → Scope
with_name scope name means = record scope { names = scope.names ++ record { name = name; means = means } ∷ [] }

-- a name is declared once in the file (6.7, paragraph 3): the later declaration is wrong
abbrev pub new_name : {A : Type 0} → Scope → Place → List ℕ → Checked A → Checked A
new_name scope p name c = demand p Redefined (not (is_some (entity_among scope.names name))) c

abbrev pub constant_means : Result Constant Fault → Result Entity Fault
constant_means (Ok c) = Ok (entity.Constant c)
constant_means (Err f) = Err f

-- the value of an enumerator behind the constant before it, of which this was told
abbrev pub value_behind : Scope → Result Constant Fault → Enumerator → Checked Constant
value_behind scope before e = enumerator_value scope e.place (again before) e.value

abbrev pub behind_enumerator : Scope → Result Constant Fault → Enumerator → Scope
behind_enumerator scope before e = with_name scope e.name (constant_means (told (value_behind scope before e)))

unfoldable pub enumerators : Scope → Result Constant Fault → List Enumerator → Checked (List Constant)
enumerators scope before [] = Right []
enumerators scope before (e ∷ es) = next (new_name scope e.place e.name (value_behind scope before e)) (enumerators (behind_enumerator scope before e) (told (value_behind scope before e)) es)

unfoldable pub behind_enumerators : Scope → Result Constant Fault → List Enumerator → Scope
behind_enumerators scope before [] = scope
behind_enumerators scope before (e ∷ es) = behind_enumerators (behind_enumerator scope before e) (told (value_behind scope before e)) es
