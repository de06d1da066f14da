use Rattle.std.proofs.Common.{Some, ap, subst, sym, ◌∙◌}
use Rattle.std.specs.Prelude.{option_map}
use Rattle.mdr_exchanges.specs.Runs.{sent_of}
use Rattle.mdr_model.specs.Bytes.{readings}
use Rattle.mdr_track.specs.Tracked.{pairs_of}
use Rattle.mdr_user_code.specs.declared.state.State.{State}
use Rattle.mdr_user_code.specs.Standing.{Follows}
use Rattle.mdr_user_memory.specs.Paired.{Paired}
use Rattle.mdr_watched.specs.Driver.{driver_of}
use Rattle.mdr_far.specs.Halves.{HalfState}
use Rattle.mdr_far.specs.Memories.{lived_in, memory_of}
use Rattle.mdr_far.proofs.HalfSteps.{at_some, memory_paired}
use Rattle.mdr_user_code.specs.Standing.{lived_after}
use Rattle.mdr_user_memory.specs.Kept.{IsLived, Kept}
use Rattle.mdr_far.proofs.half.UserHalf.memory.Goals as goal

pub returns-in-Some-clause-paired : goal.returns-in-Some-clause-paired
returns-in-Some-clause-paired c =
    let d = driver_of c.self.inside.program c.self.inside.plan in
    let es = c.self.inside.exchanges in
    let k = c.memory-memory.result.now in
    let follows = at_some (λ (s : State). Follows d (readings (sent_of es)) s) c.self.inside.state c.in-Some.state c.in-Some.is c.self.invariant.follows in
    subst (λ (h : HalfState). Paired (memory_of h) k.region.contents (pairs_of k.pairs)) c.self.view_is
    (memory_paired d es c.in-Some.state k follows c.memory-memory.ensures c.is_paired.ensures.paired)

pub returns-in-Some-clause-there : goal.returns-in-Some-clause-there
returns-in-Some-clause-there c =
    ap Some c.memory-memory.ensures ∙ ap (option_map (λ (s : State). s.memory)) (sym c.in-Some.is) ∙ ap (λ (h : HalfState). h.memory) c.self.view_is

pub returns-in-None-clause-there : goal.returns-in-None-clause-there
returns-in-None-clause-there c = ap (option_map (λ (s : State). s.memory)) (sym c.in-None.is) ∙ ap (λ (h : HalfState). h.memory) c.self.view_is

pub returns-in-Some-clause-lived : goal.returns-in-Some-clause-lived
returns-in-Some-clause-lived c =
    let d = driver_of c.self.inside.program c.self.inside.plan in
    let es = c.self.inside.exchanges in
    let k = c.memory-memory.result.now in
    let follows = at_some (λ (s : State). Follows d (readings (sent_of es)) s) c.self.inside.state c.in-Some.state c.in-Some.is c.self.invariant.follows in
    subst (λ (h : HalfState). IsLived (lived_in h) k) c.self.view_is (subst (λ (u : Kept). IsLived (lived_after d (readings (sent_of es))) u) (sym c.memory-memory.ensures) follows.lived)
