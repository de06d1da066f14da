-- believed
-- Globals (C99 6.7, 6.9.2).
use Rattle.std.specs.Prelude.{ℕ, ◌==◌, not, List, [], ◌∷◌, Option, Some, None, Result, Ok, Err}
use Rattle.mdr_core.specs.declared.place.Place.{Place}
use Rattle.mdr_core.specs.declared.types.Ann.{Ann}
use Rattle.mdr_syntax.specs.declared.tree.Decl.{Decl, out-Decl}
use Rattle.mdr_syntax.specs.declared.tree.Init.{Init}
use Rattle.mdr_faults.specs.declared.fault.Fault.{Fault}
use Rattle.mdr_faults.specs.declared.fault.FaultKind.TheVariants.{Limit}
use Rattle.mdr_check.specs.declared.initialiser.First.{First}
use Rattle.mdr_check.specs.declared.initialiser.First.TheVariants as first
use Rattle.mdr_check.specs.declared.variable.Variable.{Variable}
use Rattle.mdr_faults.specs.declared.scope.Entity.{Entity}
use Rattle.mdr_faults.specs.declared.scope.Entity.TheVariants as entity
use Rattle.mdr_faults.specs.declared.scope.Object.{Object}
use Rattle.mdr_faults.specs.declared.scope.Scope.{Scope}
use Rattle.mdr_headings.specs.Annotations.{annotated}
use Rattle.mdr_faults.specs.Declarations.{object_declared}
use Rattle.mdr_faults.specs.Enums.{with_name, new_name}
use Rattle.mdr_faults.specs.Faults.{Checked, Right, after, both, demand, told}
use Rattle.mdr_check.specs.Initialisers.{initial}
use Rattle.mdr_headings.specs.Structs.{name_or_none}
use Rattle.mdr_headings.specs.Within.{beside, within}

-- the object that a global is
abbrev pub global_object : Scope → Decl → Checked Object
global_object scope d = object_declared scope (out-Decl d).place d

abbrev pub global_means : (own : ℕ) → Result Object Fault → Result Entity Fault
global_means own (Ok object) = Ok (entity.Global own object)
global_means own (Err f) = Err f

-- behind its declarator a global is in scope: in its own annotation and initialiser, too (6.2.1, paragraph 7)
unfoldable pub behind_global : Scope → (own : ℕ) → Decl → Scope
behind_global scope own d = with_name scope (name_or_none (out-Decl d).name) (global_means own (told (global_object scope d)))

-- where there is no initialiser, all cells are zero (6.7.8, paragraph 10)
unfoldable pub first_value : Scope → (own : ℕ) → Place → Option Init → Object → Checked (List First)
first_value scope own p None o = Right (first.Zeros o ∷ [])
first_value scope own p (Some init) o = initial scope own p init o

abbrev pub variable_of : List ℕ → Object → Ann → List First → Checked Variable
variable_of name o a xs = Right (record { name = name; object = o; ann = a; first = xs })

-- a global of this object: its annotation and its first value
unfoldable pub variable : Scope → (own : ℕ) → Decl → Option Init → Object → Checked Variable
variable scope own d init o =
    both (annotated scope [] (out-Decl d).place o.ty (out-Decl d).ann)
    (first_value scope own (out-Decl d).place init o)
    (variable_of (name_or_none (out-Decl d).name) o)

-- the global of number `own`. There are at most 1,024. Its name isn't in scope within its declarator (6.2.1, paragraph 7)
unfoldable pub global : Scope → (own : ℕ) → Decl → Option Init → Checked Variable
global scope own d init =
    new_name scope (out-Decl d).place (name_or_none (out-Decl d).name)
    (demand (out-Decl d).place Limit (not (own == 1024))
    (beside (within scope [] d) (after (global_object scope d) (variable (behind_global scope own d) own d init))))
