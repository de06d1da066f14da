-- What stands in both halves as it is.
use Rattle.std.proofs.Common.{◌≡◌, Bool, List, refl}
use Rattle.mdr_core.specs.declared.plan.Half.{Half}
use Rattle.mdr_core.specs.declared.plan.Plan.{Plan}
use Rattle.mdr_syntax.specs.declared.tree.ItemWhat.{ItemWhat}
use Rattle.mdr_syntax.specs.declared.tree.ItemWhat.TheVariants as item
use Rattle.mdr_syntax.specs.declared.tree.Head.{Head}
use Rattle.mdr_syntax.specs.declared.tree.Node.{Node}
use Rattle.mdr_half.specs.Halves.{what_in}

-- what is no function with a body stands in both halves
pub stays : (half : Half) (plan : Plan) (what : ItemWhat) → ((h : Head) (c : Bool) (body : List Node) → what ≡ item.Func h c body → ⊥) → what ≡ what_in half plan what
stays half plan (item.Func h c body) other = absurd (other h c body refl)
stays half plan (item.Define name is_negative n kind) other = refl
stays half plan (item.Struct place name fields) other = refl
stays half plan (item.Enum es) other = refl
stays half plan (item.Global d value) other = refl
stays half plan (item.Proto h is_remote) other = refl
