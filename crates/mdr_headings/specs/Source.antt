-- believed
-- What is known at each place of a file (C99 6.2.1, 6.9).
use Rattle.std.specs.Prelude.{ℕ, ◌==◌, Bool, true, false, List, [], ◌∷◌, ◌++◌, map, length, Option, Some, None, Result, Ok, negsuc}
use Rattle.std.specs.List.{list_any}
use Rattle.std.specs.Str.{bytes_eq}
use Rattle.mdr_core.specs.declared.kind.Kind.TheVariants.{S32}
use Rattle.mdr_core.specs.declared.place.Place.{Place}
use Rattle.mdr_core.specs.declared.types.Ty.{Ty}
use Rattle.mdr_core.specs.Layout.{chosen}
use Rattle.mdr_syntax.specs.declared.tree.Decl.{Decl}
use Rattle.mdr_syntax.specs.declared.tree.Head.{Head}
use Rattle.mdr_syntax.specs.declared.tree.Item.{Item}
use Rattle.mdr_syntax.specs.declared.tree.ItemWhat.{ItemWhat}
use Rattle.mdr_syntax.specs.declared.tree.ItemWhat.TheVariants as item
use Rattle.mdr_faults.specs.declared.fault.Fault.{Fault}
use Rattle.mdr_faults.specs.declared.scope.Constant.{Constant}
use Rattle.mdr_faults.specs.declared.scope.Entity.TheVariants as entity
use Rattle.mdr_faults.specs.declared.scope.Named.{Named}
use Rattle.mdr_faults.specs.declared.scope.Scope.{Scope}
use Rattle.mdr_faults.specs.declared.scope.Signature.{Signature}
use Rattle.mdr_faults.specs.declared.scope.StructEntry.{StructEntry}
use Rattle.mdr_faults.specs.declared.scope.Tag.{Tag}
use Rattle.mdr_faults.specs.Declarations.{declarator, number_constant, parameter_list}
use Rattle.mdr_faults.specs.Faults.{Checked, Right, both}
use Rattle.mdr_headings.specs.Heads.{head_result}
use Rattle.mdr_faults.specs.Scopes.{tag_named}
use Rattle.mdr_headings.specs.Structs.{struct_entry}

-- ---- what holds in the whole file

abbrev pub has_tag : List Tag → List ℕ → Bool
has_tag tags name = list_any (λ t. bytes_eq t.name name) tags

-- structs are numbered by their first definitions
abbrev pub with_tag : List Tag → List ℕ → List Tag
with_tag tags name = chosen (has_tag tags name) tags (tags ++ record { name = name; number = length tags } ∷ [])

abbrev pub tags_behind : List Tag → ItemWhat → List Tag
tags_behind tags (item.Define name is_negative n k) = tags
tags_behind tags (item.Struct p name ds) = with_tag tags name
tags_behind tags (item.Enum es) = tags
tags_behind tags (item.Global d init) = tags
tags_behind tags (item.Proto h is_remote) = tags
tags_behind tags (item.Func h is_critical body) = tags

unfoldable pub tags_from : List Tag → List Item → List Tag
tags_from tags [] = tags
tags_from tags (i ∷ is) = tags_from (tags_behind tags i.what) is

-- a `#define` holds in the whole file
abbrev pub defined_constant : List ℕ → Constant → Named
defined_constant name c = record { name = name; means = Ok (entity.Constant c) }

abbrev pub defines_behind : List Named → ItemWhat → List Named
defines_behind names (item.Define name is_negative n k) = names ++ defined_constant name (number_constant is_negative n k) ∷ []
defines_behind names (item.Struct p name ds) = names
defines_behind names (item.Enum es) = names
defines_behind names (item.Global d init) = names
defines_behind names (item.Proto h is_remote) = names
defines_behind names (item.Func h is_critical body) = names

unfoldable pub defines_from : List Named → List Item → List Named
defines_from names [] = names
defines_from names (i ∷ is) = defines_from (defines_behind names i.what) is

-- a scope in which nothing but these is known
abbrev pub scope_of : List Tag → List Named → Scope
scope_of tags defines = record { tags = tags; defines = defines; names = []; outlines = []; structs = [] }

-- ---- behind a declaration

-- the declaration is the struct's first, which completes it
abbrev pub with_struct_if : Bool → Scope → StructEntry → Scope
with_struct_if true scope e = record scope { structs = scope.structs ++ e ∷ [] }
with_struct_if false scope e = scope

abbrev pub is_numbered : Option Tag → ℕ → Bool
is_numbered None n = false
is_numbered (Some t) n = t.number == n

abbrev pub behind_struct : Scope → Place → List ℕ → List Decl → Scope
behind_struct scope p name ds = with_struct_if (is_numbered (tag_named scope name) (length scope.structs)) scope (struct_entry scope p ds)

-- one less than the first enumerator
abbrev pub before_first : Result Constant Fault
before_first = Ok (record { kind = S32; number = negsuc 0 })

abbrev pub signature_by : (number : ℕ) → Ty → List Ty → Checked Signature
signature_by n t ts = Right (record { number = n; result = t; params = ts })

-- a function's type, as its uses see it
unfoldable pub signature : Scope → (number : ℕ) → Head → Checked Signature
signature scope n h = both (head_result scope h) (parameter_list [] (map (declarator scope) h.params)) (signature_by n)
