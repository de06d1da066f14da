-- believed
-- Plans that suit the text of a user half, test by test.
use Rattle.std.specs.Prelude.{ℕ, ◌+◌, ◌==◌, ◌&&◌, not, Bool, true, false, List, [], ◌∷◌, length, Option, Some, None, is_some, is_none, slice_get}
use Rattle.std.specs.List.{list_all, list_any}
use Rattle.std.specs.Option.{option_map}
use Rattle.std.specs.Str.{bytes_eq}
use Rattle.mdr_core.specs.declared.plan.Half.{Half}
use Rattle.mdr_core.specs.declared.plan.Half.TheVariants.{Kernel, User}
use Rattle.mdr_core.specs.declared.plan.Key.{Key}
use Rattle.mdr_core.specs.declared.plan.Key.TheVariants as key
use Rattle.mdr_core.specs.declared.plan.Plan.{Plan}
use Rattle.mdr_core.specs.declared.program.Func.{Func}
use Rattle.mdr_core.specs.declared.types.Ty.{Ty, out-Ty}
use Rattle.mdr_core.specs.declared.types.Ty.TheOpen.{Ty-F}
use Rattle.mdr_core.specs.Layout.{fields_of}
use Rattle.mdr_core.specs.Suited.{field_type, is_lock}
use Rattle.mdr_faults.specs.Alike.{is_alike}
use Rattle.mdr_check.specs.declared.variable.Variable.{Variable}
use Rattle.mdr_program.specs.declared.parts.Parts.{Parts}
use Rattle.mdr_program.specs.Occurring.{occurring}

-- ---- functions

-- the functions have these names, in order
abbrev pub are_named : List (List ℕ) → List Func → Bool
are_named [] [] = true
are_named [] (f ∷ fs) = false
are_named (name ∷ names) [] = false
are_named (name ∷ names) (f ∷ fs) = bytes_eq name f.name && are_named names fs

-- a function of the user half has its body in the text
abbrev pub is_whole : Half → Func → Bool
is_whole User f = is_some f.body
is_whole Kernel f = true

-- a function of the kernel half has none there
abbrev pub is_bare : Half → Func → Bool
is_bare User f = true
is_bare Kernel f = is_none f.body

abbrev pub each_function : (Half → Func → Bool) → List Half → List Func → Bool
each_function test [] fs = true
each_function test (h ∷ hs) [] = true
each_function test (h ∷ hs) (f ∷ fs) = test h f && each_function test hs fs

-- ---- types

abbrev pub one_by : Ty-F Ty → ℕ
one_by (Ty-F.Int k) = 0
one_by Ty-F.Lock = 0
one_by (Ty-F.Struct s) = 1
one_by (Ty-F.Ptr t) = 0
one_by Ty-F.VoidPtr = 0
one_by (Ty-F.Fun ts) = 0
one_by Ty-F.Void = 0

-- how many structs a type table has
unfoldable pub structs_in : List Ty → ℕ
structs_in [] = 0
structs_in (t ∷ ts) = one_by (out-Ty t) + structs_in ts

abbrev pub has_type : List Ty → Ty → Bool
has_type types t = list_any (λ u. is_alike u t) types

-- ---- keys

abbrev pub variable_type : Variable → Ty
variable_type v = v.object.ty

-- the type of what a key names, of each element where it is an array
abbrev pub named_type : List Ty → Parts → Key → Option Ty
named_type types ps (key.Global g) = option_map variable_type (slice_get ps.variables g)
named_type types ps (key.Field s f) = option_map field_type (slice_get (fields_of ps.structs s) f)
named_type types ps (key.Elem t) = slice_get types t

-- the key names a global, a field or a type
abbrev pub names_something : List Ty → Parts → Key → Bool
names_something types ps k = is_some (named_type types ps k)

abbrev pub is_free : Option Ty → Bool
is_free None = true
is_free (Some t) = not (is_lock t)

-- it names no lock and no array of locks
abbrev pub names_no_lock : List Ty → Parts → Key → Bool
names_no_lock types ps k = is_free (named_type types ps k)

abbrev pub each_key : (Key → Bool) → List (List Key) → Bool
each_key test lists = list_all (λ ks. list_all test ks) lists

-- ---- the whole plan

-- each key names something that is no lock
abbrev pub suits_keys : Plan → Parts → Bool
suits_keys plan ps = each_key (λ k. names_something plan.types ps k) plan.keys && each_key (λ k. names_no_lock plan.types ps k) plan.keys

-- there are as many structs, these types, and keys that suit
abbrev pub suits_types : Plan → Parts → List Ty → Bool
suits_types plan ps all = (structs_in plan.types == length ps.structs) && (list_all (λ t. has_type plan.types t) all && suits_keys plan ps)

-- the plan has the text's functions by their names, those of the user half have their bodies in the text and those of the kernel half have none, it has as many structs as the text and each type that occurs there, and each of its keys names something that is no lock
unfoldable pub suits_text : Plan → Parts → Bool
suits_text plan ps =
    are_named plan.names ps.funcs
    && (each_function is_whole plan.halves ps.funcs
    && (each_function is_bare plan.halves ps.funcs
    && suits_types plan ps (occurring ps)))
