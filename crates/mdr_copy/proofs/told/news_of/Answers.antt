use Rattle.std.proofs.Common.{◌++◌, drop, ◌+◌, ap, sym, ◌∙◌, Vec, Global}
use Rattle.mdr_model.specs.declared.message.New.{New}
use Rattle.mdr_copy.specs.Namings.{is_listed, news_by}
use Rattle.mdr_copy.proofs.Births.{tells_of_it, passes_it_by}
use Rattle.mdr_copy.proofs.told.news_of.Goals.{then-is_news+in_ok-push, else-is_news}
use Rattle.mdr_copy.proofs.told.news_of.Goals as goal

pub loop-block-preserved : goal.loop-block-preserved
loop-block-preserved c = elim c.if-is_news.branch [
  | then-is_news+in_ok-push w ↦
      tells_of_it c.args.copy.now (is_listed c.args.named.now) c.args.memory.now c.loop-block.block-index c.block-item.result c.loop-block.out.items c.if-is_news.out.items _ c.loop-block-test.true c.block-item.is (sym w.if-is_news.ensures)
      (ap (λ (v : Vec New Global). v.items) w.out-is ∙ w.in_ok-push.ensures.items) c.loop-block.invariant
  | else-is_news w ↦
      ap (λ (v : Vec New Global). v.items ++ news_by c.args.copy.now (is_listed c.args.named.now) (drop (c.loop-block.block-index + 1) c.args.memory.now)) w.out-is
      ∙ passes_it_by c.args.copy.now (is_listed c.args.named.now) c.args.memory.now c.loop-block.block-index c.block-item.result c.loop-block.out.items _ c.loop-block-test.true c.block-item.is (sym w.if-is_news.ensures) c.loop-block.invariant
]
