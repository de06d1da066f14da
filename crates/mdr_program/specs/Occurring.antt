-- believed
-- The types that occur in a program: those of fields, globals, parameters and locals, and those that allocations name. The result of a function adds none.
use Rattle.std.specs.Prelude.{List, [], ◌∷◌, ◌++◌, map, Option, Some, None}
use Rattle.mdr_core.specs.declared.types.Ty.{Ty}
use Rattle.mdr_core.specs.declared.program.Field.{Field}
use Rattle.mdr_core.specs.declared.program.StructDef.{StructDef}
use Rattle.mdr_core.specs.declared.program.Func.{Func}
use Rattle.mdr_core.specs.declared.program.Param.{Param}
use Rattle.mdr_core.specs.declared.program.Local.{Local}
use Rattle.mdr_core.specs.declared.code.Stmt.{Stmt}
use Rattle.mdr_core.specs.Code.{Code, Codes}
use Rattle.mdr_core.specs.Folds.{codes_of}
use Rattle.mdr_core.specs.Layout.{chosen}
use Rattle.mdr_lower.specs.Tables.{is_counted}
use Rattle.mdr_check.specs.declared.variable.Variable.{Variable}
use Rattle.mdr_program.specs.declared.parts.Parts.{Parts}

abbrev pub field_types : List Field → List Ty
field_types xs = map (λ x. x.ty) xs

unfoldable pub struct_types : List StructDef → List Ty
struct_types [] = []
struct_types (d ∷ ds) = field_types d.fields ++ struct_types ds

abbrev pub global_types : List Variable → List Ty
global_types vs = map (λ v. v.object.ty) vs

abbrev pub param_types : List Param → List Ty
param_types ps = map (λ p. p.ty) ps

-- locals in slots, too, but for those that lowering took
abbrev pub local_types : List Local → List Ty
local_types [] = []
local_types (l ∷ ls) = chosen (is_counted l) (l.ty ∷ local_types ls) (local_types ls)

abbrev pub shape_types : Option Ty → List Ty
shape_types None = []
shape_types (Some t) = t ∷ []

-- the types that are allocated, not the pointers to them
abbrev mutual
  pub allocated : Code → List Ty
  allocated (Code.Declare n i) = []
  allocated (Code.Text n i bytes) = []
  allocated (Code.Assign n p e) = []
  allocated (Code.Call n goal call) = shape_types call.shape
  allocated (Code.If n e one other) = allocated_in one ++ allocated_in other
  allocated (Code.Loop n e step body) = allocated_in step ++ allocated_in body
  allocated (Code.Block body) = allocated_in body
  allocated (Code.Return n e) = []
  allocated (Code.Jump n way) = []

  pub allocated_in : Codes → List Ty
  allocated_in Codes.End = []
  allocated_in (Codes.Then c cs) = allocated c ++ allocated_in cs

abbrev pub body_types : Option (List Stmt) → List Ty
body_types None = []
body_types (Some body) = allocated_in (codes_of body)

abbrev pub func_types : Func → List Ty
func_types f = param_types f.params ++ (local_types f.locals ++ body_types f.body)

unfoldable pub funcs_types : List Func → List Ty
funcs_types [] = []
funcs_types (f ∷ fs) = func_types f ++ funcs_types fs

unfoldable pub occurring : Parts → List Ty
occurring ps = struct_types ps.structs ++ (global_types ps.variables ++ funcs_types ps.funcs)
