-- protocol
-- Of which tree two trees are the halves. Their items stand in pairs.
use Rattle.std.specs.Prelude.{◌≡◌, ℕ, Bool, true, false, List, [], ◌∷◌, Result, Ok, Err}
use Rattle.std.specs.Str.{bytes_eq}
use Rattle.mdr_syntax.specs.declared.tree.Tree.{Tree}
use Rattle.mdr_syntax.specs.declared.tree.Item.{Item}
use Rattle.mdr_syntax.specs.declared.tree.ItemWhat.{ItemWhat}
use Rattle.mdr_syntax.specs.declared.tree.ItemWhat.TheVariants as item
use Rattle.mdr_syntax.specs.declared.tree.Head.{Head}
use Rattle.mdr_syntax.specs.Places.{first_place}
use Rattle.mdr_print.specs.Items.{printed}
use Rattle.mdr_half.specs.declared.join_error.JoinError.{JoinError}
use Rattle.mdr_half.specs.declared.join_error.JoinError.TheVariants.{Differ, OutOfMemory}
use Rattle.mdr_half.specs.declared.joining.Part.{Part}
use Rattle.mdr_half.specs.declared.joining.Part.TheVariants.{Here, There, Both}
use Rattle.mdr_half.specs.declared.joining.Whole.{Whole}
use Rattle.mdr_half.specs.declared.joining.Whole.TheVariants.{First, Second, Neither}
use Rattle.mdr_core.specs.declared.plan.Half.{Half}
use Rattle.mdr_core.specs.declared.plan.Half.TheVariants.{Kernel, User}
use Rattle.mdr_half.specs.Halves.{remote, is_same_half, body_or_remote}

-- the text of an item alone, in which its place doesn't show
abbrev pub item_text : ItemWhat → List ℕ
item_text what = printed (record { items = record { place = first_place; what = what } ∷ [] })

-- two items are equal, places aside, where they are printed alike
abbrev pub are_alike : ItemWhat → ItemWhat → Bool
are_alike a b = bytes_eq (item_text a) (item_text b)

abbrev pub part_of_proto : (is_remote : Bool) → Part
part_of_proto true = There
part_of_proto false = Both

-- what an item is to a half: a function that is here, one that is in the other half, or an item of both
abbrev pub part_of : ItemWhat → Part
part_of (item.Func head is_critical body) = Here
part_of (item.Proto head is_remote) = part_of_proto is_remote
part_of (item.Define name is_negative n kind) = Both
part_of (item.Struct place name fields) = Both
part_of (item.Enum es) = Both
part_of (item.Global d value) = Both

-- an item as the half has it in which it is no function with a body
abbrev pub remote_of : ItemWhat → ItemWhat
remote_of (item.Func head is_critical body) = remote head
remote_of what = what

-- a function with a body fits its `__remote` prototype, in either order; items fit that are equal and neither a function with a body nor such a prototype
abbrev pub whole_by : Part → Part → (is_alike : Bool) → Whole
whole_by Here There true = First
whole_by There Here true = Second
whole_by Both Both true = First
whole_by p q is_alike = Neither

-- which of two items is the whole one
abbrev pub whole_of : ItemWhat → ItemWhat → Whole
whole_of a b = whole_by (part_of a) (part_of b) (are_alike (remote_of a) (remote_of b))

-- that item, or the line of the user tree's
abbrev pub whole_item : (kernel user : Item) → Whole → Result Item ℕ
whole_item kernel user First = Ok kernel
whole_item kernel user Second = Ok user
whole_item kernel user Neither = Err user.place.line

abbrev pub joined_item : (kernel user : Item) → Result Item ℕ
joined_item kernel user = whole_item kernel user (whole_of kernel.what user.what)

abbrev pub behind : Item → Result (List Item) ℕ → Result (List Item) ℕ
behind i (Ok is) = Ok (i ∷ is)
behind i (Err line) = Err line

abbrev pub behind_joined : Result Item ℕ → Result (List Item) ℕ → Result (List Item) ℕ
behind_joined (Ok i) rest = behind i rest
behind_joined (Err line) rest = Err line

-- the items of the whole tree, or the line of the first item of the user tree that doesn't fit; where only the kernel tree goes on, the line of the user tree's item before, which is given
abbrev pub joined_from : (last : ℕ) → (kernel user : List Item) → Result (List Item) ℕ
joined_from last [] [] = Ok []
joined_from last [] (u ∷ us) = Err u.place.line
joined_from last (k ∷ ks) [] = Err last
joined_from last (k ∷ ks) (u ∷ us) = behind_joined (joined_item k u) (joined_from u.place.line ks us)

unfoldable pub joined : Tree → Tree → Result (List Item) ℕ
joined kernel user = joined_from 1 kernel.items user.items

abbrev pub Refuses : {A : Type 0} → JoinError → Result A ℕ → Type 0
Refuses (Differ line) read = read ≡ Err line
Refuses OutOfMemory read = Unit {0}

-- what a function returned is what joining gives, unless memory ran out
abbrev pub JoinsItem : Result Item JoinError → Result Item ℕ → Type 0
JoinsItem (Ok i) read = read ≡ Ok i
JoinsItem (Err e) read = Refuses e read

abbrev pub JoinsItems : Result (List Item) JoinError → Result (List Item) ℕ → Type 0
JoinsItems (Ok is) read = read ≡ Ok is
JoinsItems (Err e) read = Refuses e read

abbrev pub Joins : Result Tree JoinError → Result (List Item) ℕ → Type 0
Joins (Ok tree) read = read ≡ Ok tree.items
Joins (Err e) read = Refuses e read

-- ---- what joining two halves of a tree gives

-- no item is marked `__remote`: so in every source
abbrev pub HasNoRemote : List Item → Type 0
HasNoRemote [] = Unit {0}
HasNoRemote (i ∷ is) = ((head : Head) → i.what ≡ item.Proto head true → ⊥) × HasNoRemote is

-- an item as a half's text has it, where the item's function is in the given half
abbrev pub shown_in : (side half : Half) → ItemWhat → ItemWhat
shown_in side half (item.Func head is_critical body) = body_or_remote (is_same_half half side) head is_critical body
shown_in side half what = what

-- the two items are what the two halves have of a whole one, places aside
pub record ArePartsOf (kernel user whole : ItemWhat) : Type 0 where
  pub half : Half
  pub no_remote : (head : Head) → whole ≡ item.Proto head true → ⊥
  pub in_kernel : item_text kernel ≡ item_text (shown_in Kernel half whole)
  pub in_user : item_text user ≡ item_text (shown_in User half whole)

abbrev pub AreHalvesOf : (kernel user whole : List Item) → Type 0
AreHalvesOf [] [] [] = Unit {0}
AreHalvesOf (k ∷ ks) (u ∷ us) (i ∷ is) = ArePartsOf k.what u.what i.what × AreHalvesOf ks us is
AreHalvesOf ks us is = ⊥
