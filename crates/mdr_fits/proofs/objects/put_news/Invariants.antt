use Rattle.std.proofs.Common.{◌≡◌, ◌++◌, drop}
use Rattle.std.specs.Prelude.{map}
use Rattle.mdr_model.specs.declared.message.New.{New}
use Rattle.mdr_fits.proofs.objects.put_news.Given as goal

abbrev pub invariant-loop-block : goal.invariant-loop-block
invariant-loop-block l = l.out ++ map (λ (n : New). n.serial) (drop l.block-index l.news) ≡ l.initial.out ++ map (λ (n : New). n.serial) l.news
