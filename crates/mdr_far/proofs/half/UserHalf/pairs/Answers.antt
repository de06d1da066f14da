use Rattle.std.proofs.Common.{Some, ap, subst, sym, ◌∙◌}
use Rattle.std.specs.Option.{option_copied}
use Rattle.std.specs.Prelude.{IfSome, option_map}
use Rattle.mdr_track.specs.Tracked.{pairs_of}
use Rattle.mdr_user_memory.specs.Kept.{Kept}
use Rattle.mdr_user_memory.specs.Paired.{Paired}
use Rattle.mdr_far.specs.Memories.{ArePairsOf, memory_of}
use Rattle.mdr_far.proofs.half.UserHalf.pairs.Goals as goal

pub returns-in-Some-clause-paired : goal.returns-in-Some-clause-paired
returns-in-Some-clause-paired c =
    let m = memory_of c.args.self.now in
    let p = subst (λ o. IfSome (option_copied o) (λ (u : Kept). Paired m u.region.contents (pairs_of u.pairs))) c.in-Some.is c.memory.ensures.paired in
    subst (λ t. ArePairsOf m (pairs_of t)) (sym c.pairs.ensures) (record { contents = c.in-Some.memory.now.region.contents; paired = p })

pub returns-in-Some-clause-there : goal.returns-in-Some-clause-there
returns-in-Some-clause-there c =
    ap Some c.pairs.ensures ∙ ap (λ o. option_map (λ (u : Kept). u.pairs) (option_copied o)) (sym c.in-Some.is) ∙ ap (option_map (λ (u : Kept). u.pairs)) c.memory.ensures.there

pub returns-in-None-clause-there : goal.returns-in-None-clause-there
returns-in-None-clause-there c =
    ap (λ o. option_map (λ (u : Kept). u.pairs) (option_copied o)) (sym c.in-None.is) ∙ ap (option_map (λ (u : Kept). u.pairs)) c.memory.ensures.there
