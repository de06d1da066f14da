-- believed
-- The two halves of a tree. Each has all items in order, and of a function of the other half a prototype marked `__remote`.
use Rattle.std.specs.Prelude.{ℕ, Bool, true, false, List, map, Option, Some, None, slice_get}
use Rattle.std.specs.List.{position}
use Rattle.std.specs.Str.{bytes_eq}
use Rattle.mdr_core.specs.declared.plan.Half.{Half}
use Rattle.mdr_core.specs.declared.plan.Half.TheVariants.{Kernel, User}
use Rattle.mdr_core.specs.declared.plan.Plan.{Plan}
use Rattle.mdr_syntax.specs.declared.tree.Tree.{Tree}
use Rattle.mdr_syntax.specs.declared.tree.Item.{Item}
use Rattle.mdr_syntax.specs.declared.tree.ItemWhat.{ItemWhat}
use Rattle.mdr_syntax.specs.declared.tree.ItemWhat.TheVariants as item
use Rattle.mdr_syntax.specs.declared.tree.Head.{Head}
use Rattle.mdr_syntax.specs.declared.tree.Node.{Node}
use Rattle.mdr_print.specs.Items.{printed}
use Rattle.mdr_half.specs.Plans.{half_or_user}

abbrev pub half_by : Plan → Option ℕ → Half
half_by plan None = User
half_by plan (Some f) = half_or_user (slice_get plan.halves f)

-- the half that the plan gives the function of this name
unfoldable pub half_of : Plan → (name : List ℕ) → Half
half_of plan name = half_by plan (position (λ n. bytes_eq n name) plan.names)

abbrev pub is_same_half : Half → Half → Bool
is_same_half Kernel Kernel = true
is_same_half Kernel User = false
is_same_half User Kernel = false
is_same_half User User = true

-- a function as the text of the other half has it: without `__critical` and without a body
abbrev pub remote : Head → ItemWhat
remote head = item.Proto head true

abbrev pub body_or_remote : (is_mine : Bool) → Head → (is_critical : Bool) → List Node → ItemWhat
body_or_remote true head is_critical body = item.Func head is_critical body
body_or_remote false head is_critical body = remote head

abbrev pub what_in : Half → Plan → ItemWhat → ItemWhat
what_in half plan (item.Func head is_critical body) = body_or_remote (is_same_half (half_of plan head.name) half) head is_critical body
what_in half plan what = what

abbrev pub item_in : Half → Plan → Item → Item
item_in half plan i = record { place = i.place; what = what_in half plan i.what }

abbrev pub half_tree : Half → Plan → Tree → Tree
half_tree half plan tree = record { items = map (item_in half plan) tree.items }

abbrev pub kernel_tree : Plan → Tree → Tree
kernel_tree = half_tree Kernel

abbrev pub user_tree : Plan → Tree → Tree
user_tree = half_tree User

-- the texts of the halves
abbrev pub kernel_text : Plan → Tree → List ℕ
kernel_text plan tree = printed (kernel_tree plan tree)

abbrev pub user_text : Plan → Tree → List ℕ
user_text plan tree = printed (user_tree plan tree)
