use Rattle.std.proofs.Common.{[], ap, refl, subst, sym, ◌∙◌}
use Rattle.mdr_track.specs.Tracked.{pairs_of}
use Rattle.mdr_user_memory.specs.Kept.{Kept}
use Rattle.mdr_user_memory.specs.Paired.{Paired}
use Rattle.mdr_watched.specs.Driver.{driver_of}
use Rattle.mdr_far.specs.Halves.{HalfState, new_half}
use Rattle.mdr_far.specs.Memories.{HasLived, HoldsMemory}
use Rattle.mdr_far.proofs.HalfSteps.{memory_paired}
use Rattle.mdr_far.proofs.half.UserHalf.begin.Goals as goal

pub begins-requires : goal.begins-requires
begins-requires c = c.requires.sound

pub returns-in-Ok-clause-begun : goal.returns-in-Ok-clause-begun
returns-in-Ok-clause-begun c = c.half_of.ensures ∙ ap (new_half c.args.source.program c.args.source.plan) (sym (ap (λ (h : HalfState). h.memory) c.half_of.ensures))

pub returns-in-Ok-clause-paired : goal.returns-in-Ok-clause-paired
returns-in-Ok-clause-paired c =
    let d = driver_of c.args.source.program c.args.source.plan in
    let own = subst (λ (k : Kept). Paired k.agreed k.region.contents (pairs_of k.pairs)) c.memory.ensures c.is_paired.ensures.paired in
    subst HoldsMemory (sym c.half_of.ensures) (memory_paired d [] c.in-Ok.state c.in-Ok.state.memory c.in-Ok.ensures refl own)

pub returns-in-Ok-clause-lived : goal.returns-in-Ok-clause-lived
returns-in-Ok-clause-lived c = subst HasLived (sym c.half_of.ensures) c.in-Ok.ensures.lived
