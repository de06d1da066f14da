-- for proofs
-- What the grammar gives of a source's items: numbers are of their kinds, what has to be named is named, and no declaration stands where a statement has to (C99 6.4.2.1, 6.4.4.1, 6.8, 6.9.1).
use Rattle.std.specs.Prelude.{ℕ, ◌<◌, List, [], ◌∷◌, length, IsTrue}
use Rattle.std.specs.List.{list_all}
use Rattle.mdr_core.specs.Kinds.{is_in_range}
use Rattle.mdr_syntax.specs.declared.tree.Item.{Item}
use Rattle.mdr_syntax.specs.declared.tree.ItemWhat.{ItemWhat}
use Rattle.mdr_syntax.specs.declared.tree.ItemWhat.TheVariants as item
use Rattle.mdr_syntax.specs.Bytes.{is_name_byte}
use Rattle.mdr_faults.specs.declared.scope.Constant.{Constant}
use Rattle.mdr_faults.specs.Declarations.{number_constant}
use Rattle.mdr_operand.specs.Written.{lines_of}
use Rattle.mdr_sound.specs.Written.{AreNamed, AreProper}

-- a name is letters, digits and `_`, at least one (6.4.2.1)
pub record IsIdentifier (name : List ℕ) : Type 0 where
  pub bytes : IsTrue (list_all is_name_byte name)
  pub some : 0 < length name

-- a constant is one of its kind (6.4.4.1, 6.5.3.3)
abbrev pub IsInRange : Constant → Type 0
IsInRange c = IsTrue (is_in_range c.kind c.number)

-- a function with a body names its parameters (6.9.1, paragraph 5)
abbrev pub IsProperItem : ItemWhat → Type 0
IsProperItem (item.Define name is_negative n kind) = IsInRange (number_constant is_negative n kind)
IsProperItem (item.Struct place name ds) = IsIdentifier name
IsProperItem (item.Enum es) = Unit {0}
IsProperItem (item.Global d init) = Unit {0}
IsProperItem (item.Proto h is_remote) = Unit {0}
IsProperItem (item.Func h is_critical ns) = AreNamed h.params × AreProper (lines_of ns)

abbrev pub AreProperItems : List Item → Type 0
AreProperItems [] = Unit {0}
AreProperItems (i ∷ is) = IsProperItem i.what × AreProperItems is
