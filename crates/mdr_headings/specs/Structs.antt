-- believed
-- Structs (C99 6.7.2.1).
use Rattle.std.specs.Prelude.{ℕ, ◌+◌, ◌*◌, ◌==◌, not, nat_lt, Bool, true, false, List, [], ◌∷◌, ◌++◌, map, length, Option, Some, None}
use Rattle.std.specs.List.{list_any}
use Rattle.mdr_core.specs.declared.place.Place.{Place}
use Rattle.mdr_core.specs.declared.program.Field.{Field}
use Rattle.mdr_core.specs.declared.types.Ann.{Ann}
use Rattle.mdr_core.specs.declared.types.Ty.{Ty, out-Ty}
use Rattle.mdr_core.specs.declared.types.Ty.TheOpen.{Ty-F}
use Rattle.mdr_core.specs.Layout.{chosen}
use Rattle.mdr_syntax.specs.declared.tree.Decl.{Decl, out-Decl}
use Rattle.mdr_faults.specs.declared.fault.FaultKind.TheVariants.{Redefined, Mismatch, Limit}
use Rattle.mdr_faults.specs.declared.scope.Candidate.{Candidate}
use Rattle.mdr_faults.specs.declared.scope.Member.{Member}
use Rattle.mdr_faults.specs.declared.scope.Object.{Object}
use Rattle.mdr_faults.specs.declared.scope.Scope.{Scope}
use Rattle.mdr_faults.specs.declared.scope.StructEntry.{StructEntry}
use Rattle.mdr_headings.specs.Annotations.{annotated, candidate}
use Rattle.mdr_faults.specs.Declarations.{cells_of, is_same_name, object_declared}
use Rattle.mdr_faults.specs.Faults.{Checked, Right, Wrong, refuse, after, demand, next, told}
use Rattle.mdr_headings.specs.Within.{beside, within}

-- ---- which types are structs

abbrev pub is_struct_by : Ty-F Ty → Bool
is_struct_by (Ty-F.Int k) = false
is_struct_by Ty-F.Lock = false
is_struct_by (Ty-F.Struct s) = true
is_struct_by (Ty-F.Ptr t) = false
is_struct_by Ty-F.VoidPtr = false
is_struct_by (Ty-F.Fun ts) = false
is_struct_by Ty-F.Void = false

abbrev pub is_struct : Ty → Bool
is_struct t = is_struct_by (out-Ty t)

-- ---- fields

abbrev pub name_or_none : Option (List ℕ) → List ℕ
name_or_none None = []
name_or_none (Some name) = name

abbrev pub field_of : Option (List ℕ) → Object → Ann → Field
field_of name o a = record { name = name_or_none name; ty = o.ty; count = o.count; array = o.array; ann = a }

unfoldable pub annotated_field : Scope → List Candidate → Decl → Object → Checked Field
annotated_field scope siblings d o = after (annotated scope siblings (out-Decl d).place o.ty (out-Decl d).ann) (λ a. Right (field_of (out-Decl d).name o a))

-- a field has a name of its own among those before it, and there are at most 64
abbrev pub may_follow : (before : List Decl) → Decl → Checked Field → Checked Field
may_follow before d field =
    demand (out-Decl d).place Redefined (not (list_any (λ b. is_same_name (out-Decl b).name (out-Decl d).name) before))
    (demand (out-Decl d).place Limit (not (length before == 64)) field)

-- the members of a struct are a name space (6.2.3), so no name of a field is around the parameters in another
unfoldable pub field_among : Scope → (limit : Place) → List Candidate → (before : List Decl) → Decl → Checked Field
field_among scope limit siblings before d =
    may_follow before d (beside (within scope [] d) (after (object_declared scope limit d) (annotated_field scope siblings d)))

unfoldable pub fields_behind : Scope → (limit : Place) → List Candidate → (before : List Decl) → List Decl → Checked (List Field)
fields_behind scope limit siblings before [] = Right []
fields_behind scope limit siblings before (d ∷ ds) = next (field_among scope limit siblings before d) (fields_behind scope limit siblings (before ++ d ∷ []) ds)

abbrev pub number_or_zero : Checked ℕ → ℕ
number_or_zero (Right n) = n
number_or_zero (Wrong f) = 0

-- the cells of all fields (6.7.2.1, paragraph 13)
unfoldable pub cells_of_fields : Scope → Place → List Field → ℕ
cells_of_fields scope p [] = 0
cells_of_fields scope p (x ∷ xs) = x.count * number_or_zero (cells_of scope p x.ty) + cells_of_fields scope p xs

abbrev pub within_limit : Place → ℕ → Checked ℕ
within_limit p n = chosen (nat_lt 65536 n) (refuse p Limit) (Right n)

-- at most 65,536 cells
abbrev pub struct_size : Scope → Place → List Field → Checked ℕ
struct_size scope p xs = within_limit p (cells_of_fields scope p xs)

-- a struct has a field (6.7.2.1, paragraph 7)
abbrev pub struct_rule : Scope → Place → List Field → Checked (List Field)
struct_rule scope p [] = refuse p Mismatch
struct_rule scope p (x ∷ xs) = after (struct_size scope p (x ∷ xs)) (λ n. Right (x ∷ xs))

-- the fields of the struct whose name stands at place p
unfoldable pub struct_fields : Scope → Place → List Decl → Checked (List Field)
struct_fields scope p ds = after (fields_behind scope p (map (candidate scope) ds) [] ds) (struct_rule scope p)

-- ---- what is known of it

unfoldable pub member : Scope → (limit : Place) → Decl → Member
member scope limit d = record { name = name_or_none (out-Decl d).name; means = told (object_declared scope limit d) }

unfoldable pub struct_entry : Scope → Place → List Decl → StructEntry
struct_entry scope p ds = record { members = map (member scope p) ds; cells = told (after (struct_fields scope p ds) (struct_size scope p)) }
