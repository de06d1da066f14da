use Rattle.std.proofs.Common.{ℕ, List, sym, ◌∙◌, ap, subst}
use Rattle.std.specs.List.Sorted.{IsNonDecreasing}
use Rattle.mdr_meaning.specs.declared.wire.Wire.{Wire}
use Rattle.mdr_model.specs.Copies.{is_named}
use Rattle.mdr_model.specs.Memory.{Memory}
use Rattle.mdr_copy.specs.Namings.{is_listed, news_by}
use Rattle.mdr_copy.proofs.Births.{news_alike}
use Rattle.mdr_copy.proofs.told.told_news.Goals as goal

pub news_of-requires : goal.news_of-requires
news_of-requires c = subst IsNonDecreasing (sym c.as_slice-2.ensures.value) c.in_ok-serials.ensures.rise

pub returns : goal.returns
returns c =
    c.in_ok-news.ensures
    ∙ ap (λ (m : Memory). news_by c.args.left.now (is_listed c.as_slice-2.result.now) m) c.as_slice-3.ensures.blocks
    ∙ news_alike c.args.left.now (is_listed c.as_slice-2.result.now) _ c.args.memory.now
    (λ serial. ap (λ (xs : List ℕ). is_listed xs serial) c.as_slice-2.ensures.value ∙ c.in_ok-serials.ensures.exact serial ∙ ap (λ (vs : List Wire). is_named vs serial) (c.as_slice.ensures.value ∙ c.in_ok-all.ensures))
