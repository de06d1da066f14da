-- believed
-- First values of globals, cell by cell (C99 6.7.8).
use Rattle.std.specs.Prelude.{ℕ, List, [], ◌∷◌, ◌++◌, map, position, Option, Some, None, slice_get}
use Rattle.mdr_core.specs.declared.types.Ty.{Ty}
use Rattle.mdr_core.specs.declared.program.StructDef.{StructDef}
use Rattle.mdr_core.specs.declared.value.Value.{Value}
use Rattle.mdr_core.specs.declared.value.Value.TheVariants as value
use Rattle.mdr_core.specs.declared.value.View.{View}
use Rattle.mdr_core.specs.Layout.{Leaf, Alone, leaves, repeated, struct_cells, zero_value}
use Rattle.mdr_check.specs.declared.initialiser.First.{First}
use Rattle.mdr_check.specs.declared.initialiser.First.TheVariants as first
use Rattle.mdr_check.specs.declared.variable.Variable.{Variable}
use Rattle.mdr_faults.specs.declared.scope.Object.{Object}
use Rattle.mdr_faults.specs.Alike.{is_alike}

-- ---- cells that nothing initialises: zero, null or a free lock (6.7.8, paragraph 10)

abbrev pub zeros : List Leaf → List Value
zeros cells = map (λ l. zero_value l.type) cells

abbrev pub object_cells : List StructDef → Object → List Leaf
object_cells structs o = repeated o.count (leaves (struct_cells structs) Alone o.ty)

-- ---- addresses

abbrev pub or_zero : Option ℕ → ℕ
or_zero None = 0
or_zero (Some n) = n

-- the number of a type in a table that has it
abbrev pub number_in : List Ty → Ty → ℕ
number_in types t = or_zero (position (λ u. is_alike u t) types)

abbrev pub target_number : List Ty → Option Variable → ℕ
target_number types None = 0
target_number types (Some v) = number_in types v.object.ty

-- the address of a global that is no array: it views the one element (6.5.3.2, paragraph 3). No slot is meant
abbrev pub address_of : List Ty → (g : ℕ) → Option Variable → View
address_of types g v = record { block = record { slot = 0; serial = g }; first = 0; ty = target_number types v; count = 1; index = 0 }

-- ---- values

abbrev pub first_cells : List Ty → List StructDef → List Variable → First → List Value
first_cells types structs vs (first.Integer k n) = value.Int k n ∷ []
first_cells types structs vs first.Null = value.Null ∷ []
first_cells types structs vs (first.Address g) = value.Ptr (address_of types g (slice_get vs g)) ∷ []
first_cells types structs vs (first.Function f) = value.Fn f ∷ []
first_cells types structs vs (first.Zeros o) = zeros (object_cells structs o)

-- the first values of all cells of a global, where these are the globals, and this is the type table
unfoldable pub first_values : List Ty → List StructDef → List Variable → List First → List Value
first_values types structs vs [] = []
first_values types structs vs (x ∷ xs) = first_cells types structs vs x ++ first_values types structs vs xs
