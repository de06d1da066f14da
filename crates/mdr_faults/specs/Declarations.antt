-- believed
-- Constants, types and declarators (C99 6.6, 6.7).
use Rattle.std.specs.Prelude.{ℕ, zero, suc, ◌*◌, ◌==◌, ◌&&◌, ◌||◌, not, nat_lt, Bool, true, false, ℤ, pos, negsuc, neg_ℤ, ◌+ℤ◌, ◌-ℤ◌, List, [], ◌∷◌, ◌++◌, length, Option, Some, None, is_some, slice_get}
use Rattle.std.specs.Str.{bytes_eq}
use Rattle.mdr_core.specs.declared.kind.Kind.{Kind}
use Rattle.mdr_core.specs.declared.kind.Kind.TheVariants.{S32}
use Rattle.mdr_core.specs.declared.place.Place.{Place}
use Rattle.mdr_core.specs.declared.types.Ty.{Ty, out-Ty}
use Rattle.mdr_core.specs.declared.types.Ty.TheOpen.{Ty-F}
use Rattle.mdr_core.specs.declared.types.Ty.TheVariants as type
use Rattle.mdr_core.specs.Kinds.{greatest, is_signed, is_in_range}
use Rattle.mdr_core.specs.Layout.{chosen}
use Rattle.mdr_core.specs.Types.{is_scalar}
use Rattle.mdr_syntax.specs.declared.tree.Base.{Base}
use Rattle.mdr_syntax.specs.declared.tree.Base.TheVariants as base
use Rattle.mdr_syntax.specs.declared.tree.Const.{Const}
use Rattle.mdr_syntax.specs.declared.tree.Const.TheVariants as const
use Rattle.mdr_syntax.specs.declared.tree.Decl.{Decl, out-Decl}
use Rattle.mdr_syntax.specs.declared.tree.Decl.TheOpen.{Decl-F}
use Rattle.mdr_syntax.specs.declared.tree.Decl.TheFolds.{fold-Decl}
use Rattle.mdr_faults.specs.declared.fault.FaultKind.TheVariants.{UnknownName, Mismatch, Limit, Incomplete}
use Rattle.mdr_faults.specs.declared.scope.Constant.{Constant}
use Rattle.mdr_faults.specs.declared.scope.Entity.{Entity}
use Rattle.mdr_faults.specs.declared.scope.Entity.TheVariants as entity
use Rattle.mdr_faults.specs.declared.scope.Named.{Named}
use Rattle.mdr_faults.specs.declared.scope.Object.{Object}
use Rattle.mdr_faults.specs.declared.scope.Scope.{Scope}
use Rattle.mdr_faults.specs.declared.scope.StructEntry.{StructEntry}
use Rattle.mdr_faults.specs.declared.scope.Tag.{Tag}
use Rattle.mdr_faults.specs.Faults.{Checked, Right, refuse, again, after, both, demand, next}
use Rattle.mdr_faults.specs.Scopes.{entity_named, tag_named}

-- ---- constants

-- the negation of a number in its kind (6.5.3.3, paragraph 3): an unsigned kind counts modulo one more than its greatest number (6.2.5, paragraph 9)
abbrev pub opposite : Kind → ℕ → ℤ
opposite k n = chosen (is_signed k || (n == 0)) (neg_ℤ (pos n)) ((greatest k +ℤ pos 1) -ℤ pos n)

abbrev pub number_constant : (is_negative : Bool) → ℕ → Kind → Constant
number_constant is_negative n k = record { kind = k; number = chosen is_negative (opposite k n) (pos n) }

-- a name of a constant expression names a constant (6.6, paragraph 6)
abbrev pub constant_entity : Place → Entity → Checked Constant
constant_entity p (entity.Constant c) = Right c
constant_entity p (entity.Global g object) = refuse p Mismatch
constant_entity p (entity.Function f) = refuse p Mismatch

abbrev pub constant_named : (at p : Place) → Option Named → Checked Constant
constant_named at p None = refuse at UnknownName
constant_named at p (Some entry) = after (again entry.means) (constant_entity p)

-- a constant of the declaration at place p
abbrev pub constant : Scope → Place → Const → Checked Constant
constant scope p (const.Number at is_negative n k) = Right (number_constant is_negative n k)
constant scope p (const.Name at name) = constant_named at p (entity_named scope name)

-- ---- enumeration constants (6.7.2.2)

-- an `int` (paragraph 3)
abbrev pub enumerated : Place → ℤ → Checked Constant
enumerated p n = chosen (is_in_range S32 n) (Right (record { kind = S32; number = n })) (refuse p Mismatch)

-- one more than the constant before it, unless it has a value of its own
abbrev pub enumerator_value : Scope → Place → (before : Checked Constant) → Option Const → Checked Constant
enumerator_value scope p before (Some c) = after (constant scope p c) (λ c. enumerated p c.number)
enumerator_value scope p before None = after before (λ c. enumerated p (c.number +ℤ pos 1))

-- ---- types

-- a struct that the file defines nowhere
abbrev pub struct_named : Place → Option Tag → Checked Ty
struct_named p None = refuse p Incomplete
struct_named p (Some t) = Right (type.Struct t.number)

abbrev pub base_type : Scope → Base → Checked Ty
base_type scope (base.Int k) = Right (type.Int k)
base_type scope (base.Struct p name) = struct_named p (tag_named scope name)
base_type scope base.Void = Right type.Void
base_type scope base.Lock = Right type.Lock

abbrev pub pointer_by : Ty → Ty-F Ty → Ty
pointer_by t (Ty-F.Int k) = type.Ptr t
pointer_by t Ty-F.Lock = type.Ptr t
pointer_by t (Ty-F.Struct s) = type.Ptr t
pointer_by t (Ty-F.Ptr u) = type.Ptr t
pointer_by t Ty-F.VoidPtr = type.Ptr t
pointer_by t (Ty-F.Fun ts) = type.Ptr t
pointer_by t Ty-F.Void = type.VoidPtr

-- a pointer to a type; one to `void` is written apart
abbrev pub pointer_to : Ty → Ty
pointer_to t = pointer_by t (out-Ty t)

unfoldable pub starred : ℕ → Ty → Ty
starred zero t = t
starred (suc n) t = starred n (pointer_to t)

-- a base with so many stars (6.7.5.1)
abbrev pub type_named : Scope → Base → (stars : ℕ) → Checked Ty
type_named scope b n = after (base_type scope b) (λ t. Right (starred n t))

-- ---- parameters and function pointers

abbrev pub is_void_by : Ty-F Ty → Bool
is_void_by (Ty-F.Int k) = false
is_void_by Ty-F.Lock = false
is_void_by (Ty-F.Struct s) = false
is_void_by (Ty-F.Ptr u) = false
is_void_by Ty-F.VoidPtr = false
is_void_by (Ty-F.Fun ts) = false
is_void_by Ty-F.Void = true

abbrev pub is_void : Ty → Bool
is_void t = is_void_by (out-Ty t)

-- a function gives a scalar or nothing
abbrev pub result_type : Place → Ty → Checked Ty
result_type p t = chosen (is_scalar t || is_void t) (Right t) (refuse p Mismatch)

-- a parameter is a scalar
abbrev pub parameter_type : Place → (is_array : Bool) → Ty → Checked Ty
parameter_type p is_array t = chosen (is_scalar t && not is_array) (Right t) (refuse p Mismatch)

abbrev pub function_type : (result : Checked Ty) → (params : Checked (List Ty)) → Checked Ty
function_type result params = both result params (λ r ps. Right (type.Fun (r ∷ ps)))

-- a declarator: its place, its type, and its type as a parameter
pub record Declarator : Type 0 where
  pub place : Place
  pub whole : Checked Ty
  pub parameter : Checked Ty

abbrev pub is_same_name : Option (List ℕ) → Option (List ℕ) → Bool
is_same_name None other = false
is_same_name (Some a) None = false
is_same_name (Some a) (Some b) = bytes_eq a b

-- a list has at most 8 parameters. Their names are no part of a type
abbrev pub parameter_among : (before : List Declarator) → Declarator → Checked Ty
parameter_among before d = demand d.place Limit (not (length before == 8)) d.parameter

unfoldable pub parameter_list : (before : List Declarator) → List Declarator → Checked (List Ty)
parameter_list before [] = Right []
parameter_list before (d ∷ ds) = next (parameter_among before d) (parameter_list (before ++ d ∷ []) ds)

-- a pointer to a function where there are parameters (6.7.5.3)
abbrev pub declarator_by : Checked Ty → Place → Option (List Declarator) → Checked Ty
declarator_by t p None = t
declarator_by t p (Some params) = function_type (after t (result_type p)) (parameter_list [] params)

-- the type of a declarator, its brackets aside (6.7.5)
abbrev pub declarator_type : Scope → Decl-F Declarator → Checked Ty
declarator_type scope d = declarator_by (type_named scope d.base d.stars) d.place d.fun

abbrev pub declarator_layer : Scope → Decl-F Declarator → Declarator
declarator_layer scope d = record {
  place = d.place;
  whole = declarator_type scope d;
  parameter = after (declarator_type scope d) (parameter_type d.place (is_some d.size));
}

abbrev pub declarator : Scope → Decl → Declarator
declarator scope = fold-Decl Declarator (declarator_layer scope)

-- ---- objects

-- an array has 1 or more elements, by a constant (6.7.5.2)
abbrev pub element_count : Place → ℤ → Checked ℕ
element_count p (pos zero) = refuse p Mismatch
element_count p (pos (suc n)) = Right (suc n)
element_count p (negsuc n) = refuse p Mismatch

abbrev pub count_of : Scope → Place → Option Const → Checked ℕ
count_of scope p None = Right 1
count_of scope p (Some c) = after (constant scope p c) (λ c. element_count p c.number)

-- a struct of which there are objects is complete (6.7.5.2, 6.7.2.1)
abbrev pub struct_cells : Place → Option StructEntry → Checked ℕ
struct_cells p None = refuse p Mismatch
struct_cells p (Some s) = again s.cells

-- how many cells an object of the type has
abbrev pub cells_by : Scope → Place → Ty-F Ty → Checked ℕ
cells_by scope p (Ty-F.Int k) = Right 1
cells_by scope p Ty-F.Lock = Right 1
cells_by scope p (Ty-F.Struct s) = struct_cells p (slice_get scope.structs s)
cells_by scope p (Ty-F.Ptr t) = Right 1
cells_by scope p Ty-F.VoidPtr = Right 1
cells_by scope p (Ty-F.Fun ts) = Right 1
cells_by scope p Ty-F.Void = refuse p Mismatch

abbrev pub cells_of : Scope → Place → Ty → Checked ℕ
cells_of scope p t = cells_by scope p (out-Ty t)

-- at most 65,536 cells. What is larger is told at place `limit`
abbrev pub sized : (limit : Place) → Ty → (is_array : Bool) → (count cells : ℕ) → Checked Object
sized limit t is_array n cells = chosen (nat_lt 65536 n || nat_lt 65536 (n * cells)) (refuse limit Limit) (Right (record { ty = t; count = n; array = is_array }))

abbrev pub object_of : Scope → (p limit : Place) → Ty → (is_array : Bool) → ℕ → Checked Object
object_of scope p limit t is_array n = after (cells_of scope p t) (sized limit t is_array n)

-- a field, a global or a local, its annotation aside
unfoldable pub object_declared : Scope → (limit : Place) → Decl → Checked Object
object_declared scope limit d =
    both (declarator scope d).whole (count_of scope (out-Decl d).place (out-Decl d).size) (λ t n.
    object_of scope (out-Decl d).place limit t (is_some (out-Decl d).size) n)
