use Rattle.std.proofs.Common.{◌≡◌, ℕ, List, ◌++◌, Some, refl, subst, sym, ap, ◌∙◌, is_some}
use Rattle.std.specs.Prelude.{option_map}
use Rattle.mdr_exchanges.specs.Runs.{sent_of}
use Rattle.mdr_model.specs.Bytes.{readings}
use Rattle.mdr_model.specs.declared.message.Message.TheVariants.{Refuse}
use Rattle.mdr_model.specs.Text.{text}
use Rattle.mdr_over_bytes.specs.OverBytes.{IsHonestReply, user_reply_to_bytes}
use Rattle.mdr_track.specs.Tracked.{pairs_of}
use Rattle.mdr_user_code.specs.declared.state.State.{State}
use Rattle.mdr_user_code.specs.Standing.{Follows, lived_after, user_memory}
use Rattle.mdr_user_memory.specs.Kept.{Kept}
use Rattle.mdr_user_memory.specs.Paired.{Paired}
use Rattle.mdr_watched.specs.Driver.{driver_of}
use Rattle.mdr_far.specs.Halves.{HalfState, driver_in}
use Rattle.mdr_far.specs.Memories.{AreIts, GoesWith}
use Rattle.mdr_far.proofs.HalfSteps.{at_some, then_some, kept_wants, at_ok, on_ok, follows_next, honest_more, memory_paired, replies_on}
use Rattle.mdr_far.proofs.half.UserHalf.deliver.Goals as goal

pub invariant_of-self-in-Ok : goal.invariant_of-self-in-Ok
invariant_of-self-in-Ok c =
    let d = driver_of c.self.inside.program c.self.inside.plan in
    let es = c.self.inside.exchanges in
    let follows = at_some (λ (s : State). Follows d (readings (sent_of es)) s) c.self.inside.state c.in-Some.state (sym c.take.ensures.value ∙ c.in-Some.is) c.self.invariant.follows in
    record {
      sound = c.self.invariant.sound;
      fit = c.self.invariant.fit;
      wanting = kept_wants c.put.new.place c.reply_to-reply.new.state c.self.inside.wanted c.put.ensures;
      honest =
          honest_more d es c.recorded.new.exchanges c.args.bytes.now c.in-Ok.reply.items c.in-Ok.ensures.ok.1
          (at_ok c.reply_to-reply.result c.in-Ok.reply c.in-Ok.ensures.ok.0 (λ r. (before : List (List ℕ)) → Follows d (readings before) c.in-Some.state → IsHonestReply d before c.args.bytes.now r.items) c.reply_to-reply.ensures.reply (sent_of es) follows)
          c.self.invariant.honest;
      follows =
          then_some (λ (s : State). Follows d (readings (sent_of c.recorded.new.exchanges)) s) c.put.new.place c.reply_to-reply.new.state c.put.ensures
          (follows_next d es c.recorded.new.exchanges c.reply_to-reply.new.state c.args.bytes.now c.in-Ok.reply.items c.in-Ok.ensures.ok.1
          (on_ok c.reply_to-reply.result c.in-Ok.reply c.in-Ok.ensures.ok.0 _ c.reply_to-reply.ensures.follows (sent_of es) follows));
    }

pub returns-in-Ok-clause-refused : goal.returns-in-Ok-clause-refused
returns-in-Ok-clause-refused c = λ reason refused more last.
    let d = driver_of c.self.inside.program c.self.inside.plan in
    let es = c.self.inside.exchanges in
    let follows = at_some (λ (s : State). Follows d (readings (sent_of es)) s) c.self.inside.state c.in-Some.state (sym c.take.ensures.value ∙ c.in-Some.is) c.self.invariant.follows in
    replies_on d es c.recorded.new.exchanges c.args.bytes.now c.in-Ok.reply.items reason c.in-Ok.ensures.ok.1
    (at_ok c.reply_to-reply.result c.in-Ok.reply c.in-Ok.ensures.ok.0 (λ r. (before : List (List ℕ)) → Follows d (readings before) c.in-Some.state → IsHonestReply d before c.args.bytes.now r.items) c.reply_to-reply.ensures.reply (sent_of es) follows)
    refused more last
    ∙ ap (λ (h : HalfState). user_reply_to_bytes (driver_in h) (sent_of h.exchanges ++ more) last) c.self.view_is

pub returns-in-Ok-clause-untouched : goal.returns-in-Ok-clause-untouched
returns-in-Ok-clause-untouched c = λ reason refused.
    let s = c.in-Some.state in
    let s' = c.reply_to-reply.new.state in
    let same = at_ok c.reply_to-reply.result c.in-Ok.reply c.in-Ok.ensures.ok.0 (λ r. (n : ℕ) → r.items ≡ text (Refuse n) → s' ≡ s) c.reply_to-reply.ensures.refused reason refused in
    ap (option_map (λ (x : State). x.memory)) (c.put.ensures ∙ (ap Some same ∙ (sym c.in-Some.is ∙ c.take.ensures.value)))
    ∙ ap (λ (h : HalfState). h.memory) c.self.view_is

pub reply_to-reply-requires-clause-opens : goal.reply_to-reply-requires-clause-opens
reply_to-reply-requires-clause-opens c =
    let d = driver_of c.self.inside.program c.self.inside.plan in
    let es = c.self.inside.exchanges in
    let follows = at_some (λ (s : State). Follows d (readings (sent_of es)) s) c.self.inside.state c.in-Some.state (sym c.take.ensures.value ∙ c.in-Some.is) c.self.invariant.follows in
    follows.opens

pub returns-in-Ok-clause-paired : goal.returns-in-Ok-clause-paired
returns-in-Ok-clause-paired c =
    let d = driver_of c.self.inside.program c.self.inside.plan in
    let es = c.self.inside.exchanges in
    let es' = c.recorded.new.exchanges in
    let s' = c.reply_to-reply.new.state in
    let follows = at_some (λ (s : State). Follows d (readings (sent_of es)) s) c.self.inside.state c.in-Some.state (sym c.take.ensures.value ∙ c.in-Some.is) c.self.invariant.follows in
    let follows' =
    follows_next d es es' s' c.args.bytes.now c.in-Ok.reply.items c.in-Ok.ensures.ok.1
    (on_ok c.reply_to-reply.result c.in-Ok.reply c.in-Ok.ensures.ok.0 _ c.reply_to-reply.ensures.follows (sent_of es) follows) in
    let own = subst (λ (k : Kept). Paired k.agreed k.region.contents (pairs_of k.pairs)) c.memory.ensures c.is_paired.ensures.paired in
    subst (λ o. GoesWith (user_memory d (readings (sent_of es'))) (option_map (λ (s : State). s.memory) o)) (sym c.put.ensures) (memory_paired d es' s' s'.memory follows' refl own)

pub returns-in-Ok-clause-lived : goal.returns-in-Ok-clause-lived
returns-in-Ok-clause-lived c =
    let d = driver_of c.self.inside.program c.self.inside.plan in
    let es = c.self.inside.exchanges in
    let es' = c.recorded.new.exchanges in
    let s' = c.reply_to-reply.new.state in
    let follows = at_some (λ (s : State). Follows d (readings (sent_of es)) s) c.self.inside.state c.in-Some.state (sym c.take.ensures.value ∙ c.in-Some.is) c.self.invariant.follows in
    let follows' =
    follows_next d es es' s' c.args.bytes.now c.in-Ok.reply.items c.in-Ok.ensures.ok.1
    (on_ok c.reply_to-reply.result c.in-Ok.reply c.in-Ok.ensures.ok.0 _ c.reply_to-reply.ensures.follows (sent_of es) follows) in
    subst (λ o. AreIts (lived_after d (readings (sent_of es'))) (option_map (λ (s : State). s.memory) o)) (sym c.put.ensures) follows'.lived

pub wanting-requires : goal.wanting-requires
wanting-requires c = c.self.invariant.wanting (ap is_some (sym c.take.ensures.value ∙ c.in_default.is))
