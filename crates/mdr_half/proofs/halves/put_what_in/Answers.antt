use Rattle.std.proofs.Common.{OnOk, subst}
use Rattle.mdr_syntax.specs.declared.tree.ItemWhat.{ItemWhat}
use Rattle.mdr_print.specs.Marks.{Appends, newline, ◌▸◌}
use Rattle.mdr_print.specs.Items.{item_words}
use Rattle.mdr_half.proofs.Parts.{stays}
use Rattle.mdr_half.proofs.halves.put_what_in.Goals as goal

pub returns-in_default : goal.returns-in_default
returns-in_default c =
    subst (λ (w : ItemWhat). OnOk c.put_item.result (Appends c.args.out.now.items c.put_item.new.out.items (item_words w ▸ newline)))
    (stays c.args.half c.args.plan.now c.args.what.now c.in_default.not-Func) c.put_item.ensures
