-- for proofs
-- How what is known at a place of a file counts the structs, globals and functions of its program (C99 6.9).
use Rattle.std.specs.Prelude.{◌≡◌, ℕ, true, List, [], ◌∷◌, ◌++◌, length, map, Ok, Some, is_some, slice_get}
use Rattle.mdr_core.specs.declared.program.Func.{Func}
use Rattle.mdr_core.specs.declared.program.Param.{Param}
use Rattle.mdr_core.specs.declared.types.Ty.{Ty}
use Rattle.mdr_core.specs.declared.types.Ty.TheVariants as type
use Rattle.mdr_core.specs.Typing.{function_type}
use Rattle.mdr_check.specs.declared.file.Known.{Known}
use Rattle.mdr_faults.specs.Scopes.{entity_among}
use Rattle.mdr_headings.specs.declared.function.Declared.{Declared}
use Rattle.mdr_headings.specs.declared.head.Heading.{Heading}
use Rattle.mdr_program.specs.declared.parts.Parts.{Parts}

-- the type of a function with this heading
abbrev pub heading_type : Heading → Ty
heading_type h = type.Fun (h.result ∷ map (λ (p : Param). p.ty) h.params)

-- a function as it was declared first
pub record IsDeclaredAs (d : Declared) (f : Func) : Type 0 where
  pub name : f.name ≡ d.name
  pub heading : Heading
  pub told : d.heading ≡ Ok heading
  pub types : function_type f ≡ heading_type heading

abbrev pub AreDeclaredAs : List Declared → List Func → Type 0
AreDeclaredAs [] [] = Unit {0}
AreDeclaredAs [] (f ∷ fs) = ⊥
AreDeclaredAs (d ∷ ds) [] = ⊥
AreDeclaredAs (d ∷ ds) (f ∷ fs) = IsDeclaredAs d f × AreDeclaredAs ds fs

-- the structs, globals and functions so far have the numbers that the file gives them
pub record Counts (known : Known) (ps : Parts) : Type 0 where
  pub globals : known.globals ≡ length ps.variables
  pub structs : length known.scope.structs ≡ length ps.structs
  pub functions : AreDeclaredAs known.functions ps.funcs
  -- the name of each function is taken
  pub taken : (i : ℕ) (d : Declared) → slice_get known.functions i ≡ Some d → is_some (entity_among known.scope.names d.name) ≡ true

-- what stands in one list first stands in the other
pub record Begins {A : Type 0} (xs ys : List A) : Type 0 where
  pub more : List A
  pub whole : ys ≡ xs ++ more
