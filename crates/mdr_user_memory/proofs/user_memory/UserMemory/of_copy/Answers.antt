use Rattle.std.proofs.Common.{sym, subst, ◌∙◌}
use Rattle.mdr_model.specs.Agreement.{SerialsRise}
use Rattle.mdr_track.specs.Tracked.{pairs_of}
use Rattle.mdr_user_memory.specs.Beginning.{ComeInOrder}
use Rattle.mdr_user_memory.specs.Paired.{Paired}
use Rattle.mdr_user_memory.specs.Kept.{Kept}
use Rattle.mdr_user_memory.specs.Lived.{HasLived, lived_of}
use Rattle.mdr_user_memory.proofs.user_memory.UserMemory.of_copy.Goals as goal

pub twins_of-requires-clause-rises : goal.twins_of-requires-clause-rises
twins_of-requires-clause-rises c = subst SerialsRise (sym c.as_slice.ensures.blocks) c.requires.rises

pub twins_of-requires-clause-ordered : goal.twins_of-requires-clause-ordered
twins_of-requires-clause-ordered c = subst ComeInOrder (sym c.as_slice.ensures.blocks) c.requires.ordered

pub user_memory-requires : goal.user_memory-requires
user_memory-requires c = record { paired = subst (λ m. Paired m c.in-Ok.twins.region.contents (pairs_of c.in-Ok.twins.pairs)) c.as_slice.ensures.blocks c.in-Ok.ensures.paired; rises = c.requires.rises }

pub returns-in-Ok-clause-lived : goal.returns-in-Ok-clause-lived
returns-in-Ok-clause-lived c =
    subst (λ (k : Kept). HasLived (lived_of c.args.copy) k.region.contents.lives (pairs_of k.pairs)) (sym c.user_memory.ensures)
    (subst (λ m. HasLived (lived_of m) c.in-Ok.twins.region.contents.lives (pairs_of c.in-Ok.twins.pairs)) c.as_slice.ensures.blocks c.in-Ok.ensures.lived)
