-- The halves of trees that are equal, places aside, have the same texts.
use Rattle.std.proofs.Common.{◌≡◌, Bool, true, false, List, [], ◌∷◌, map, refl, sym, ap, ◌∙◌}
use Rattle.mdr_core.specs.declared.plan.Half.{Half}
use Rattle.mdr_core.specs.declared.plan.Half.TheVariants.{Kernel, User}
use Rattle.mdr_core.specs.declared.plan.Plan.{Plan}
use Rattle.mdr_core.specs.declared.program.Program.{Program}
use Rattle.mdr_cut.specs.declared.texts.Texts.{Texts}
use Rattle.mdr_cut.specs.Cuts.{AreTexts}
use Rattle.mdr_half.specs.Halves.{body_or_remote, half_of, half_tree, is_same_half, item_in, what_in}
use Rattle.mdr_print.specs.Items.{printed}
use Rattle.mdr_roundtrip.specs.Itemised.{unplaced_head, unplaced_item, unplaced_tree, unplaced_what_item}
use Rattle.mdr_roundtrip.specs.Stated.{unplaced_node}
use Rattle.mdr_roundtrip.specs.Unplaced.{nowhere}
use Rattle.mdr_roundtrip.proofs.PrintedTrees.{printed_alike}
use Rattle.mdr_syntax.specs.declared.tree.Head.{Head}
use Rattle.mdr_syntax.specs.declared.tree.Item.{Item}
use Rattle.mdr_syntax.specs.declared.tree.ItemWhat.{ItemWhat}
use Rattle.mdr_syntax.specs.declared.tree.ItemWhat.TheVariants as item
use Rattle.mdr_syntax.specs.declared.tree.Node.{Node}
use Rattle.mdr_syntax.specs.declared.tree.Tree.{Tree}

func_both : (mine : Bool) (h : Head) (c : Bool) (body : List Node) → unplaced_what_item (body_or_remote mine h c body) ≡ body_or_remote mine (unplaced_head h) c (map unplaced_node body)
func_both true h c body = refl
func_both false h c body = refl

what_both : (half : Half) (plan : Plan) (w : ItemWhat) → unplaced_what_item (what_in half plan w) ≡ what_in half plan (unplaced_what_item w)
what_both half plan (item.Define name is_negative n kind) = refl
what_both half plan (item.Struct place name fields) = refl
what_both half plan (item.Enum es) = refl
what_both half plan (item.Global d value) = refl
what_both half plan (item.Proto h is_remote) = refl
what_both half plan (item.Func h c body) = func_both (is_same_half (half_of plan h.name) half) h c body

items_both : (half : Half) (plan : Plan) (is : List Item) → map unplaced_item (map (item_in half plan) is) ≡ map (item_in half plan) (map unplaced_item is)
items_both half plan [] = refl
items_both half plan (i ∷ is) = λ k. record { place = nowhere; what = what_both half plan i.what k } ∷ items_both half plan is k

tree_both : (half : Half) (plan : Plan) (tree : Tree) → unplaced_tree (half_tree half plan tree) ≡ half_tree half plan (unplaced_tree tree)
tree_both half plan tree = ap (λ (is : List Item). record { items = is }) (items_both half plan tree.items)

halves_same : (half : Half) (plan : Plan) (a b : Tree) → unplaced_tree a ≡ unplaced_tree b → printed (half_tree half plan a) ≡ printed (half_tree half plan b)
halves_same half plan a b e =
    printed_alike (half_tree half plan a) (half_tree half plan b) (tree_both half plan a ∙ ap (half_tree half plan) e ∙ sym (tree_both half plan b))

pub texts_moved : (a b : Tree) (program : Program) (texts : Texts) → unplaced_tree a ≡ unplaced_tree b → AreTexts a program texts → AreTexts b program texts
texts_moved a b program texts e t = record {
  plan = t.plan;
  is_plan = t.is_plan;
  kernel_is = t.kernel_is ∙ halves_same Kernel t.plan a b e;
  user_is = t.user_is ∙ halves_same User t.plan a b e;
  plan_is = t.plan_is;
}
