-- believed
-- Which types' values become values of which others (C99 6.5.16.1, 6.3).
use Rattle.std.specs.Prelude.{◌≡◌, ◌↔◌, Bool, true, false, ◌&&◌, ◌||◌}
use Rattle.mdr_core.specs.declared.types.Ty.{Ty, out-Ty}
use Rattle.mdr_core.specs.declared.types.Ty.TheOpen.{Ty-F}
use Rattle.mdr_core.specs.Types.{Becomes, is_object_pointer}
use Rattle.mdr_faults.specs.Alike.{is_alike}

abbrev pub is_integer_by : Ty-F Ty → Bool
is_integer_by (Ty-F.Int k) = true
is_integer_by Ty-F.Lock = false
is_integer_by (Ty-F.Struct s) = false
is_integer_by (Ty-F.Ptr t) = false
is_integer_by Ty-F.VoidPtr = false
is_integer_by (Ty-F.Fun ts) = false
is_integer_by Ty-F.Void = false

abbrev pub is_integer : Ty → Bool
is_integer t = is_integer_by (out-Ty t)

abbrev pub is_opaque_by : Ty-F Ty → Bool
is_opaque_by (Ty-F.Int k) = false
is_opaque_by Ty-F.Lock = false
is_opaque_by (Ty-F.Struct s) = false
is_opaque_by (Ty-F.Ptr t) = false
is_opaque_by Ty-F.VoidPtr = true
is_opaque_by (Ty-F.Fun ts) = false
is_opaque_by Ty-F.Void = false

-- `void *`
abbrev pub is_opaque : Ty → Bool
is_opaque t = is_opaque_by (out-Ty t)

abbrev pub are_integers : Ty → Ty → Bool
are_integers t u = is_integer t && is_integer u

-- `void *`, and a pointer to an object
abbrev pub are_pointers : Ty → Ty → Bool
are_pointers t u = is_opaque t && is_object_pointer u

-- as if by assignment: integers convert, pointers to objects convert to and from `void *`, and all other values keep their type
unfoldable pub becomes : (from to : Ty) → Bool
becomes from to = are_integers from to || (are_pointers from to || (are_pointers to from || is_alike from to))

-- what becomes what in a sound program
abbrev pub BecomesExactly : Type 0
BecomesExactly = (from to : Ty) → (becomes from to ≡ true) ↔ Becomes from to
