-- believed
-- The names of types (C99 6.7.2), and stars.
use Rattle.std.specs.Prelude.{ℕ, zero, suc, ◌==◌, List, codes}
use Rattle.mdr_core.specs.declared.kind.Kind.{Kind}
use Rattle.mdr_core.specs.declared.kind.Kind.TheVariants.{U8, U16, U32, U64, S8, S16, S32, S64}
use Rattle.mdr_syntax.specs.declared.tree.Base.{Base}
use Rattle.mdr_syntax.specs.declared.tree.Base.TheVariants.{Int, Struct, Void, Lock}
use Rattle.mdr_print.specs.Marks.{Marks, word, sign, blank, blank_unless, ◌▸◌}

-- integer types have their own names
abbrev pub kind_name : Kind → List ℕ
kind_name U8 = codes "u8"
kind_name U16 = codes "u16"
kind_name U32 = codes "u32"
kind_name U64 = codes "u64"
kind_name S8 = codes "s8"
kind_name S16 = codes "s16"
kind_name S32 = codes "s32"
kind_name S64 = codes "s64"

abbrev pub base_name : Base → Marks
base_name (Int kind) = word (kind_name kind)
base_name (Struct place name) = word (codes "struct") ▸ blank ▸ word name
base_name Void = word (codes "void")
base_name Lock = word (codes "combolock_t")

-- so many stars, one right behind the other
abbrev pub stars : ℕ → Marks
stars zero rest = rest
stars (suc n) rest = sign (codes "*") (stars n rest)

-- a type alone: a blank stands between its base and its stars
abbrev pub type_name : Base → (stars : ℕ) → Marks
type_name base n = base_name base ▸ blank_unless (n == 0) ▸ stars n
