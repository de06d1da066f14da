-- believed
-- Annotations: how far the pointers of a declaration may be followed.
use Rattle.std.specs.Prelude.{ℕ, zero, suc, ◌&&◌, ◌||◌, not, nat_lt, Bool, true, false, ℤ, pos, negsuc, List, Option, Some, None, is_some, Result, Ok, Err, position, slice_get}
use Rattle.std.specs.List.{list_any}
use Rattle.mdr_core.specs.declared.kind.Kind.{Kind}
use Rattle.mdr_core.specs.declared.kind.Kind.TheVariants.{U8, U16, U32, U64, S8, S16, S32, S64}
use Rattle.mdr_core.specs.declared.place.Place.{Place}
use Rattle.mdr_core.specs.declared.types.Ann.{Ann}
use Rattle.mdr_core.specs.declared.types.Ann.TheVariants as ann
use Rattle.mdr_core.specs.declared.types.LenOf.TheVariants as len
use Rattle.mdr_core.specs.declared.types.Ty.{Ty, out-Ty}
use Rattle.mdr_core.specs.declared.types.Ty.TheOpen.{Ty-F}
use Rattle.mdr_core.specs.Layout.{chosen}
use Rattle.mdr_core.specs.Types.{is_scalar}
use Rattle.mdr_syntax.specs.declared.tree.AnnText.{AnnText}
use Rattle.mdr_syntax.specs.declared.tree.AnnText.TheVariants as text
use Rattle.mdr_syntax.specs.declared.tree.Const.{Const}
use Rattle.mdr_syntax.specs.declared.tree.Const.TheVariants as const
use Rattle.mdr_syntax.specs.declared.tree.Decl.{Decl, out-Decl}
use Rattle.mdr_faults.specs.declared.scope.Candidate.{Candidate}
use Rattle.mdr_faults.specs.declared.fault.Fault.{Fault}
use Rattle.mdr_faults.specs.declared.fault.FaultKind.TheVariants.{UnknownName, BadAnnotation}
use Rattle.mdr_faults.specs.declared.scope.Entity.{Entity}
use Rattle.mdr_faults.specs.declared.scope.Entity.TheVariants as entity
use Rattle.mdr_faults.specs.declared.scope.Named.{Named}
use Rattle.mdr_faults.specs.declared.scope.Scope.{Scope}
use Rattle.mdr_faults.specs.Declarations.{declarator, is_same_name, number_constant}
use Rattle.mdr_faults.specs.Faults.{Checked, Right, refuse, told}
use Rattle.mdr_faults.specs.Scopes.{entity_named}

-- ---- what an annotation may name

abbrev pub is_integer_by : Ty-F Ty → Bool
is_integer_by (Ty-F.Int k) = true
is_integer_by Ty-F.Lock = false
is_integer_by (Ty-F.Struct s) = false
is_integer_by (Ty-F.Ptr t) = false
is_integer_by Ty-F.VoidPtr = false
is_integer_by (Ty-F.Fun ts) = false
is_integer_by Ty-F.Void = false

abbrev pub is_integer : Ty → Bool
is_integer t = is_integer_by (out-Ty t)

-- a field or a parameter as an annotation sees it: one whose own type is wrong is of no use, nor is an array
abbrev pub candidate_by : Option (List ℕ) → (is_array : Bool) → Result Ty Fault → Candidate
candidate_by name is_array (Ok t) = record { name = name; is_integer = is_integer t && not is_array; is_scalar = is_scalar t && not is_array }
candidate_by name is_array (Err f) = record { name = name; is_integer = false; is_scalar = false }

unfoldable pub candidate : Scope → Decl → Candidate
candidate scope d = candidate_by (out-Decl d).name (is_some (out-Decl d).size) (told (declarator scope d).whole)

-- a name that is declared, but names nothing that suits
abbrev pub bare : Option (List ℕ) → Candidate
bare name = record { name = name; is_integer = false; is_scalar = false }

-- ---- lengths

-- a length is at least 1 and has 32 bits
abbrev pub as_length : ℤ → Option ℕ
as_length (pos zero) = None
as_length (pos (suc n)) = chosen (nat_lt 4294967295 (suc n)) None (Some (suc n))
as_length (negsuc n) = None

abbrev pub entity_constant : Result Entity Fault → Option ℕ
entity_constant (Ok (entity.Constant c)) = as_length c.number
entity_constant (Ok (entity.Global g object)) = None
entity_constant (Ok (entity.Function f)) = None
entity_constant (Err f) = None

abbrev pub named_constant : Option Named → Option ℕ
named_constant None = None
named_constant (Some entry) = entity_constant entry.means

-- an integer of the file
abbrev pub entity_global : Result Entity Fault → Option ℕ
entity_global (Ok (entity.Constant c)) = None
entity_global (Ok (entity.Global g object)) = chosen (is_integer object.ty && not object.array) (Some g) None
entity_global (Ok (entity.Function f)) = None
entity_global (Err f) = None

abbrev pub named_global : Option Named → Option ℕ
named_global None = None
named_global (Some entry) = entity_global entry.means

-- the name of an integer field or parameter
unfoldable pub sibling_named : List Candidate → List ℕ → Option ℕ
sibling_named siblings name = position (λ c. is_same_name c.name (Some name) && c.is_integer) siblings

-- a field or a parameter of any type has this name
unfoldable pub has_sibling : List Candidate → List ℕ → Bool
has_sibling siblings name = list_any (λ c. is_same_name c.name (Some name)) siblings

-- no length: of a name that nothing declares at the name, else at the declaration
abbrev pub no_length : (is_declared : Bool) → (at p : Place) → Checked Ann
no_length true at p = refuse p BadAnnotation
no_length false at p = refuse at UnknownName

abbrev pub or_global : (is_declared : Bool) → (at p : Place) → Option ℕ → Checked Ann
or_global is_declared at p (Some g) = Right (ann.Array (len.Global g))
or_global is_declared at p None = no_length is_declared at p

abbrev pub or_sibling : Option ℕ → Checked Ann → Checked Ann
or_sibling (Some i) other = Right (ann.Array (len.Sibling i))
or_sibling None other = other

abbrev pub or_constant : Option ℕ → Checked Ann → Checked Ann
or_constant (Some n) other = Right (ann.Array (len.Const n))
or_constant None other = other

-- a name is that of a constant, else of a sibling, else of a global: of the first of these that suits
abbrev pub length_named : List Candidate → (at p : Place) → List ℕ → Option Named → Checked Ann
length_named siblings at p name entry =
    or_constant (named_constant entry)
    (or_sibling (sibling_named siblings name)
    (or_global (is_some entry || has_sibling siblings name) at p (named_global entry)))

abbrev pub array_length : Scope → List Candidate → Place → Const → Checked Ann
array_length scope siblings p (const.Number at is_negative n k) = or_constant (as_length (number_constant is_negative n k).number) (refuse p BadAnnotation)
array_length scope siblings p (const.Name at name) = length_named siblings at p name (entity_named scope name)

-- ---- sentinels

abbrev pub field_suits : Place → ℕ → Option Candidate → Checked Ann
field_suits p f None = refuse p BadAnnotation
field_suits p f (Some c) = chosen c.is_scalar (Right (ann.Sentinel f)) (refuse p BadAnnotation)

abbrev pub sentinel_at : List Candidate → (at p : Place) → Option ℕ → Checked Ann
sentinel_at fields at p None = refuse at UnknownName
sentinel_at fields at p (Some f) = field_suits p f (slice_get fields f)

unfoldable pub field_named : List Candidate → List ℕ → Option ℕ
field_named fields name = position (λ c. is_same_name c.name (Some name)) fields

-- the fields of a struct that the file defines anywhere
abbrev pub sentinel_among : (at p : Place) → List ℕ → Option (List Candidate) → Checked Ann
sentinel_among at p name None = refuse p BadAnnotation
sentinel_among at p name (Some fields) = sentinel_at fields at p (field_named fields name)

-- ---- annotations

-- what a pointer points to: the target of one to an object
abbrev pub target_by : Ty-F Ty → Option Ty
target_by (Ty-F.Int k) = None
target_by Ty-F.Lock = None
target_by (Ty-F.Struct s) = None
target_by (Ty-F.Ptr t) = Some t
target_by Ty-F.VoidPtr = None
target_by (Ty-F.Fun ts) = None
target_by Ty-F.Void = None

abbrev pub array_on : Scope → List Candidate → Place → Const → Option Ty → Checked Ann
array_on scope siblings p c None = refuse p BadAnnotation
array_on scope siblings p c (Some t) = array_length scope siblings p c

abbrev pub sentinel_of : Scope → (at p : Place) → List ℕ → Ty-F Ty → Checked Ann
sentinel_of scope at p name (Ty-F.Int k) = refuse p BadAnnotation
sentinel_of scope at p name Ty-F.Lock = refuse p BadAnnotation
sentinel_of scope at p name (Ty-F.Struct s) = sentinel_among at p name (slice_get scope.outlines s)
sentinel_of scope at p name (Ty-F.Ptr t) = refuse p BadAnnotation
sentinel_of scope at p name Ty-F.VoidPtr = refuse p BadAnnotation
sentinel_of scope at p name (Ty-F.Fun ts) = refuse p BadAnnotation
sentinel_of scope at p name Ty-F.Void = refuse p BadAnnotation

abbrev pub sentinel_on : Scope → (at p : Place) → List ℕ → Option Ty → Checked Ann
sentinel_on scope at p name None = refuse p BadAnnotation
sentinel_on scope at p name (Some t) = sentinel_of scope at p name (out-Ty t)

abbrev pub is_character_kind : Kind → Bool
is_character_kind U8 = true
is_character_kind U16 = false
is_character_kind U32 = false
is_character_kind U64 = false
is_character_kind S8 = true
is_character_kind S16 = false
is_character_kind S32 = false
is_character_kind S64 = false

abbrev pub is_character_by : Ty-F Ty → Bool
is_character_by (Ty-F.Int k) = is_character_kind k
is_character_by Ty-F.Lock = false
is_character_by (Ty-F.Struct s) = false
is_character_by (Ty-F.Ptr t) = false
is_character_by Ty-F.VoidPtr = false
is_character_by (Ty-F.Fun ts) = false
is_character_by Ty-F.Void = false

abbrev pub is_character : Ty → Bool
is_character t = is_character_by (out-Ty t)

abbrev pub points_to_characters : Option Ty → Bool
points_to_characters None = false
points_to_characters (Some t) = is_character t

abbrev pub is_data_pointer_by : Ty-F Ty → Bool
is_data_pointer_by (Ty-F.Int k) = false
is_data_pointer_by Ty-F.Lock = false
is_data_pointer_by (Ty-F.Struct s) = false
is_data_pointer_by (Ty-F.Ptr t) = true
is_data_pointer_by Ty-F.VoidPtr = true
is_data_pointer_by (Ty-F.Fun ts) = false
is_data_pointer_by Ty-F.Void = false

abbrev pub is_data_pointer : Ty → Bool
is_data_pointer t = is_data_pointer_by (out-Ty t)

-- the annotation suits where the test holds
abbrev pub suits_if : Place → Bool → Ann → Checked Ann
suits_if p true a = Right a
suits_if p false a = refuse p BadAnnotation

-- the annotation of the declaration at place p, of this type and beside these fields or parameters. The type is judged before the name
abbrev pub annotated : Scope → List Candidate → Place → Ty → Option AnnText → Checked Ann
annotated scope siblings p t None = Right ann.Single
annotated scope siblings p t (Some (text.Array c)) = array_on scope siblings p c (target_by (out-Ty t))
annotated scope siblings p t (Some (text.Sentinel at name)) = sentinel_on scope at p name (target_by (out-Ty t))
annotated scope siblings p t (Some text.NullTerm) = suits_if p (points_to_characters (target_by (out-Ty t))) ann.NullTerm
annotated scope siblings p t (Some text.Opaque) = suits_if p (is_data_pointer t) ann.Opaque
