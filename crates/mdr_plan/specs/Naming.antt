-- believed
-- Names, and the structs that they name.
use Rattle.std.specs.Prelude.{ℕ, ◌^◌, Bool, true, false, ◌&&◌, not, nat_lt, if◌then◌else◌, List, [], ◌∷◌, Option, Some, None}
use Rattle.std.specs.List.{list_all, list_any, position}
use Rattle.std.specs.Str.{bytes_eq}
use Rattle.mdr_syntax.specs.Bytes.{is_letter, is_name_byte}
use Rattle.mdr_syntax.specs.Words.{is_reserved}
use Rattle.mdr_plan.specs.Gives.{◌>>=◌}

abbrev pub begins_name : List ℕ → Bool
begins_name [] = false
begins_name (b ∷ bytes) = is_letter b

-- a letter or `_`, then letters, digits and `_`; no reserved word
unfoldable pub is_name : List ℕ → Bool
is_name name = begins_name name && list_all is_name_byte name && not (is_reserved name)

-- the first of the name
abbrev pub is_named : List ℕ → List ℕ → Bool
is_named name other = bytes_eq other name

-- a name that none of these is
unfoldable pub is_new : List (List ℕ) → List ℕ → Bool
is_new names name = is_name name && not (list_any (is_named name) names)

-- which struct a name names, if it names one
abbrev pub Naming : Type 0
Naming = List ℕ → Option ℕ

abbrev pub small : ℕ → Option ℕ
small n = if nat_lt n (2 ^ 32) then Some n else None

-- the number of the first of these structs that has the name
unfoldable pub struct_number : List (List ℕ) → List ℕ → Option ℕ
struct_number names name = position (is_named name) names >>= small

-- some struct, whatever its name is
unfoldable pub any_struct : List ℕ → Option ℕ
any_struct name = if is_name name then Some 0 else None

-- one of these structs, or any
unfoldable pub naming : (any : Bool) → List (List ℕ) → List ℕ → Option ℕ
naming true names = any_struct
naming false names = struct_number names
