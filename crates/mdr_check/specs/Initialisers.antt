-- believed
-- First values of globals (C99 6.7.8).
use Rattle.std.specs.Prelude.{ℕ, ◌+◌, ◌-◌, ◌==◌, ◌&&◌, ◌||◌, not, nat_lt, Bool, true, false, pos, List, [], ◌∷◌, ◌++◌, length, find, position, Option, Some, None, is_some, is_none, slice_get}
use Rattle.std.specs.List.{list_all, list_any}
use Rattle.std.specs.Str.{bytes_eq}
use Rattle.mdr_core.specs.declared.kind.Kind.{Kind}
use Rattle.mdr_core.specs.declared.place.Place.{Place}
use Rattle.mdr_core.specs.declared.types.Ty.{Ty, out-Ty}
use Rattle.mdr_core.specs.declared.types.Ty.TheOpen.{Ty-F}
use Rattle.mdr_core.specs.Conversions.{converted}
use Rattle.mdr_core.specs.Layout.{chosen}
use Rattle.mdr_core.specs.Types.{is_scalar}
use Rattle.mdr_syntax.specs.declared.tree.Const.{Const}
use Rattle.mdr_syntax.specs.declared.tree.Const.TheVariants as const
use Rattle.mdr_syntax.specs.declared.tree.Elem.{Elem, out-Elem}
use Rattle.mdr_syntax.specs.declared.tree.FieldName.{FieldName}
use Rattle.mdr_syntax.specs.declared.tree.Init.{Init}
use Rattle.mdr_syntax.specs.declared.tree.Init.TheOpen.{Init-F, Elem-F}
use Rattle.mdr_syntax.specs.declared.tree.Init.TheFolds.{fold-Init, fold-Elem}
use Rattle.mdr_faults.specs.declared.fault.FaultKind.TheVariants.{UnknownName, Mismatch}
use Rattle.mdr_check.specs.declared.initialiser.First.{First}
use Rattle.mdr_check.specs.declared.initialiser.First.TheVariants as first
use Rattle.mdr_check.specs.declared.initialiser.Placed.{Placed}
use Rattle.mdr_faults.specs.declared.scope.Constant.{Constant}
use Rattle.mdr_faults.specs.declared.scope.Entity.{Entity}
use Rattle.mdr_faults.specs.declared.scope.Entity.TheVariants as entity
use Rattle.mdr_faults.specs.declared.scope.Member.{Member}
use Rattle.mdr_faults.specs.declared.scope.Named.{Named}
use Rattle.mdr_faults.specs.declared.scope.Object.{Object}
use Rattle.mdr_faults.specs.declared.scope.Scope.{Scope}
use Rattle.mdr_faults.specs.declared.scope.Signature.{Signature}
use Rattle.mdr_faults.specs.declared.scope.StructEntry.{StructEntry}
use Rattle.mdr_faults.specs.Alike.{is_alike, are_alike}
use Rattle.mdr_headings.specs.Annotations.{is_character}
use Rattle.mdr_headings.specs.Structs.{is_struct}
use Rattle.mdr_faults.specs.Declarations.{number_constant}
use Rattle.mdr_faults.specs.Faults.{Checked, Right, refuse, again, after, both, demand, next}
use Rattle.mdr_faults.specs.Scopes.{entity_named}

-- ---- single values

-- a null pointer where the form is a null pointer constant (6.3.2.3, paragraph 3)
abbrev pub null_if : Place → Bool → Checked First
null_if p true = Right first.Null
null_if p false = refuse p Mismatch

-- a number converts to the cell's kind (6.7.8, paragraph 11; 6.3.1.3). A literal 0 is a null pointer constant
abbrev pub number_first : Place → (is_null : Bool) → Constant → Ty-F Ty → Checked First
number_first p is_null c (Ty-F.Int k) = Right (first.Integer k (converted k c.number))
number_first p is_null c Ty-F.Lock = refuse p Mismatch
number_first p is_null c (Ty-F.Struct s) = refuse p Mismatch
number_first p is_null c (Ty-F.Ptr t) = null_if p is_null
number_first p is_null c Ty-F.VoidPtr = null_if p is_null
number_first p is_null c (Ty-F.Fun ts) = null_if p is_null
number_first p is_null c Ty-F.Void = refuse p Mismatch

abbrev pub is_any_pointer_by : Ty-F Ty → Bool
is_any_pointer_by (Ty-F.Int k) = false
is_any_pointer_by Ty-F.Lock = false
is_any_pointer_by (Ty-F.Struct s) = false
is_any_pointer_by (Ty-F.Ptr t) = true
is_any_pointer_by Ty-F.VoidPtr = true
is_any_pointer_by (Ty-F.Fun ts) = true
is_any_pointer_by Ty-F.Void = false

-- `NULL`
abbrev pub null_first : Place → Ty → Checked First
null_first p t = null_if p (is_any_pointer_by (out-Ty t))

-- a function's address, with `&` or without (6.3.2.1, paragraph 4), is of its own type alone. Whether the function is defined is asked of the whole file
abbrev pub handle_first : Place → Signature → Ty-F Ty → Checked First
handle_first p s (Ty-F.Int k) = refuse p Mismatch
handle_first p s Ty-F.Lock = refuse p Mismatch
handle_first p s (Ty-F.Struct n) = refuse p Mismatch
handle_first p s (Ty-F.Ptr t) = refuse p Mismatch
handle_first p s Ty-F.VoidPtr = refuse p Mismatch
handle_first p s (Ty-F.Fun ts) = chosen (are_alike ts (s.result ∷ s.params)) (Right (first.Function s.number)) (refuse p Mismatch)
handle_first p s Ty-F.Void = refuse p Mismatch

abbrev pub entity_first : Place → Ty → Entity → Checked First
entity_first p t (entity.Constant c) = number_first p false c (out-Ty t)
entity_first p t (entity.Global g object) = refuse p Mismatch
entity_first p t (entity.Function s) = handle_first p s (out-Ty t)

abbrev pub named_first : (at p : Place) → Ty → Option Named → Checked First
named_first at p t None = refuse at UnknownName
named_first at p t (Some entry) = after (again entry.means) (entity_first p t)

-- a constant of the declaration at place p, for a scalar of this type
abbrev pub constant_first : Scope → Place → Const → Ty → Checked First
constant_first scope p (const.Number at is_negative n k) t = number_first p (not is_negative && (n == 0)) (number_constant is_negative n k) (out-Ty t)
constant_first scope p (const.Name at name) t = named_first at p t (entity_named scope name)

-- ---- addresses (6.5.3.2)

abbrev pub address_if : Place → ℕ → Bool → Checked First
address_if p g true = Right (first.Address g)
address_if p g false = refuse p Mismatch

-- the address of a global converts to a pointer to its own type and to `void *` (6.3.2.3, paragraph 1)
abbrev pub address_first : Place → (may_be : Bool) → ℕ → Object → Ty-F Ty → Checked First
address_first p may_be g object (Ty-F.Int k) = refuse p Mismatch
address_first p may_be g object Ty-F.Lock = refuse p Mismatch
address_first p may_be g object (Ty-F.Struct s) = refuse p Mismatch
address_first p may_be g object (Ty-F.Ptr t) = address_if p g (may_be && is_alike t object.ty)
address_first p may_be g object Ty-F.VoidPtr = address_if p g may_be
address_first p may_be g object (Ty-F.Fun ts) = refuse p Mismatch
address_first p may_be g object Ty-F.Void = refuse p Mismatch

-- what `&` stands before is an earlier global that is no array, or a function
abbrev pub located_first : (own : ℕ) → Place → Ty → Entity → Checked First
located_first own p t (entity.Constant c) = refuse p Mismatch
located_first own p t (entity.Global g object) = address_first p (nat_lt g own && not object.array) g object (out-Ty t)
located_first own p t (entity.Function s) = handle_first p s (out-Ty t)

abbrev pub address_named : (own : ℕ) → (at p : Place) → Ty → Option Named → Checked First
address_named own at p t None = refuse at UnknownName
address_named own at p t (Some entry) = after (again entry.means) (located_first own p t)

-- ---- what takes a single value

-- an array or a struct (6.2.5, paragraph 21). A lock is none
abbrev pub is_aggregate : Object → Bool
is_aggregate o = o.array || is_struct o.ty

abbrev pub sole : Place → Ty → First → Checked (List First)
sole p t x = chosen (is_scalar t) (Right (x ∷ [])) (refuse p Mismatch)

-- a single value is for a scalar (6.7.8, paragraph 11). Where it is for an array or a struct, what stands there isn't judged
abbrev pub single : Place → Object → Checked First → Checked (List First)
single p o c = chosen (is_aggregate o) (refuse p Mismatch) (after c (sole p o.ty))

-- what has no initialiser of its own (6.7.8, paragraph 21): the elements behind the first n
abbrev pub left_of : Object → ℕ → First
left_of o n = first.Zeros (record { ty = o.ty; count = o.count - n; array = true })

-- ---- texts (6.7.8, paragraph 14)

unfoldable pub characters : Kind → List ℕ → List First
characters k [] = []
characters k (b ∷ bs) = first.Integer k (converted k (pos b)) ∷ characters k bs

-- the characters fit; a closing zero need not
abbrev pub has_room : Object → ℕ → Bool
has_room o n = not (nat_lt o.count n)

abbrev pub text_by : Place → List ℕ → Object → Ty-F Ty → Checked (List First)
text_by p bytes o (Ty-F.Int k) = Right (characters k bytes ++ left_of o (length bytes) ∷ [])
text_by p bytes o Ty-F.Lock = refuse p Mismatch
text_by p bytes o (Ty-F.Struct s) = refuse p Mismatch
text_by p bytes o (Ty-F.Ptr t) = refuse p Mismatch
text_by p bytes o Ty-F.VoidPtr = refuse p Mismatch
text_by p bytes o (Ty-F.Fun ts) = refuse p Mismatch
text_by p bytes o Ty-F.Void = refuse p Mismatch

-- a text is for an array of characters
abbrev pub takes_text : Object → ℕ → Bool
takes_text o n = is_character o.ty && o.array && has_room o n

unfoldable pub text_first : Place → List ℕ → Object → Checked (List First)
text_first p bytes o = chosen (takes_text o (length bytes)) (text_by p bytes o (out-Ty o.ty)) (refuse p Mismatch)

-- ---- lists in braces

-- an element of a list: the field that it is for, where one is named, and its first value as that of an object
pub record Part : Type 0 where
  pub field : Option FieldName
  pub init : Object → Checked (List First)

-- no element has a designator. The elements are parts, or what was written
abbrev pub are_plain : {A : Type 0} → (A → Option FieldName) → List A → Bool
are_plain field es = list_all (λ e. is_none (field e)) es

abbrev pub are_named : {A : Type 0} → (A → Option FieldName) → List A → Bool
are_named field es = list_all (λ e. is_some (field e)) es

-- two elements are for one field
abbrev pub is_same_field : Option FieldName → Option FieldName → Bool
is_same_field None other = false
is_same_field (Some f) None = false
is_same_field (Some f) (Some g) = bytes_eq f.name g.name

unfoldable pub are_once : {A : Type 0} → (A → Option FieldName) → List A → Bool
are_once field [] = true
are_once field (e ∷ es) = not (list_any (λ x. is_same_field (field x) (field e)) es) && are_once field es

-- the field that an element, as it is written, is for
abbrev pub field_of : Elem → Option FieldName
field_of e = (out-Elem e).field

abbrev pub part_field : Part → Option FieldName
part_field e = e.field

-- ---- lists for arrays

abbrev pub appended : {A : Type 0} → List A → List A → Checked (List A)
appended xs ys = Right (xs ++ ys)

unfoldable pub elements_first : Object → List Part → Checked (List First)
elements_first o [] = Right []
elements_first o (e ∷ es) = both (e.init o) (elements_first o es) appended

abbrev pub element_of : Object → Object
element_of o = record { ty = o.ty; count = 1; array = false }

abbrev pub suits_array : {A : Type 0} → (A → Option FieldName) → Object → List A → Bool
suits_array field o es = are_plain field es && has_room o (length es)

-- elements that these first values are of, and zeros behind them
abbrev pub array_rule : {A : Type 0} → Place → (A → Option FieldName) → Object → List A → Checked (List First) → Checked (List First)
array_rule p field o es firsts =
    demand p Mismatch (suits_array field o es)
    (after firsts (λ xs. Right (xs ++ left_of o (length es) ∷ [])))

-- the elements in their order, with no designators and no more than there are (6.7.8, paragraphs 2, 17 and 21)
unfoldable pub array_first : Place → Object → List Part → Checked (List First)
array_first p o es = array_rule p part_field o es (elements_first (element_of o) es)

-- ---- lists for structs

abbrev pub numbered : {A : Type 0} → Checked A → Option A → Checked A
numbered c None = c
numbered c (Some x) = Right x

-- the member that the element of number j is for (6.7.8, paragraphs 7 and 17)
abbrev pub part_number : Place → List Member → ℕ → Option FieldName → Checked ℕ
part_number p ms j None = Right j
part_number p ms j (Some f) = numbered (refuse f.place UnknownName) (position (λ m. bytes_eq m.name f.name) ms)

abbrev pub placed : ℕ → Checked (List First) → Checked Placed
placed i c = after c (λ xs. Right (record { member = i; first = xs }))

abbrev pub placed_at : Place → ℕ → (Object → Checked (List First)) → Option Member → Checked Placed
placed_at p i init None = refuse p Mismatch
placed_at p i init (Some m) = placed i (after (again m.means) init)

abbrev pub placed_by : Place → List Member → ℕ → Option FieldName → (Object → Checked (List First)) → Checked Placed
placed_by p ms j field init = after (part_number p ms j field) (λ i. placed_at p i init (slice_get ms i))

unfoldable pub placed_part : Place → List Member → ℕ → Part → Checked Placed
placed_part p ms j e = placed_by p ms j e.field e.init

unfoldable pub placed_parts : Place → List Member → ℕ → List Part → Checked (List Placed)
placed_parts p ms j [] = Right []
placed_parts p ms j (e ∷ es) = next (placed_part p ms j e) (placed_parts p ms (j + 1) es)

-- a member that no element is for has zeros
abbrev pub member_first : Member → Option Placed → Checked (List First)
member_first m None = after (again m.means) (λ o. Right (first.Zeros o ∷ []))
member_first m (Some part) = Right part.first

abbrev pub part_for : List Placed → ℕ → Option Placed
part_for parts i = find (λ part. part.member == i) parts

-- the members in their order, from number i on
unfoldable pub members_first : List Placed → ℕ → List Member → Checked (List First)
members_first parts i [] = Right []
members_first parts i (m ∷ ms) = both (member_first m (part_for parts i)) (members_first parts (i + 1) ms) appended

-- all elements have designators or none, each for a field of its own, and there are no more than members
abbrev pub suits_struct : {A : Type 0} → (A → Option FieldName) → List Member → List A → Bool
suits_struct field ms es = (are_plain field es || are_named field es) && are_once field es && not (nat_lt (length ms) (length es))

-- elements that are placed so, and zeros in the other members
abbrev pub struct_rule : {A : Type 0} → Place → (A → Option FieldName) → List Member → List A → Checked (List Placed) → Checked (List First)
struct_rule p field ms es parts =
    demand p Mismatch (suits_struct field ms es)
    (after parts (λ placed. members_first placed 0 ms))

unfoldable pub struct_first : Place → List Member → List Part → Checked (List First)
struct_first p ms es = struct_rule p part_field ms es (placed_parts p ms 0 es)

abbrev pub struct_by : Place → List Part → Option StructEntry → Checked (List First)
struct_by p es None = refuse p Mismatch
struct_by p es (Some s) = struct_first p s.members es

abbrev pub list_by : Scope → Place → List Part → Ty-F Ty → Checked (List First)
list_by scope p es (Ty-F.Int k) = refuse p Mismatch
list_by scope p es Ty-F.Lock = refuse p Mismatch
list_by scope p es (Ty-F.Struct s) = struct_by p es (slice_get scope.structs s)
list_by scope p es (Ty-F.Ptr t) = refuse p Mismatch
list_by scope p es Ty-F.VoidPtr = refuse p Mismatch
list_by scope p es (Ty-F.Fun ts) = refuse p Mismatch
list_by scope p es Ty-F.Void = refuse p Mismatch

-- braces are for an array or a struct
unfoldable pub list_first : Scope → Place → List Part → Object → Checked (List First)
list_first scope p es o = chosen o.array (array_first p o es) (list_by scope p es (out-Ty o.ty))

-- ---- initialisers

abbrev pub initial_layer : Scope → (own : ℕ) → Place → Init-F (Object → Checked (List First)) Part → Object → Checked (List First)
initial_layer scope own p (Init-F.Const c) o = single p o (constant_first scope p c o.ty)
initial_layer scope own p (Init-F.Null at) o = single p o (null_first p o.ty)
initial_layer scope own p (Init-F.Address at name) o = single p o (address_named own at p o.ty (entity_named scope name))
initial_layer scope own p (Init-F.Text at bytes) o = text_first p bytes o
initial_layer scope own p (Init-F.List at es) o = list_first scope p es o

abbrev pub part_layer : Elem-F (Object → Checked (List First)) Part → Part
part_layer e = record { field = e.field; init = e.init }

-- the first value of an object of the global of number `own`, whose name stands at place p
abbrev pub initial : Scope → (own : ℕ) → Place → Init → Object → Checked (List First)
initial scope own p = fold-Init (Object → Checked (List First)) Part (initial_layer scope own p) part_layer

abbrev pub part : Scope → (own : ℕ) → Place → Elem → Part
part scope own p = fold-Elem (Object → Checked (List First)) Part (initial_layer scope own p) part_layer
