-- A run over an honest far side means what one memory does.
use Rattle.std.proofs.Common.{◌≡◌, ℕ, List, [], ◌∷◌, ◌++◌, Option, Some, None, sym, ap, ◌∙◌, subst}
use Rattle.std.specs.Prelude.{IfSome}
use Rattle.mdr_core.specs.declared.plan.Plan.{Plan}
use Rattle.mdr_half.specs.Halves.{user_text}
use Rattle.mdr_outside.specs.declared.far.Exchange.{Exchange}
use Rattle.mdr_outside.specs.declared.far.Loaded.{Loaded}
use Rattle.mdr_model.specs.Bytes.{readings}
use Rattle.mdr_model.specs.KernelState.{Reading}
use Rattle.mdr_model.specs.Reading.{reading_of}
use Rattle.mdr_model.specs.Text.{text}
use Rattle.mdr_msg.specs.WellFormed.{IsMessage}
use Rattle.mdr_source.specs.declared.outcome.Source.{Source}
use Rattle.mdr_split.specs.User.{user_reply}
use Rattle.mdr_watched.specs.Driver.{Driver, driver_of}
use Rattle.mdr_over_bytes.specs.OverBytes.{IsHonestReply, user_reply_to_bytes}
use Rattle.mdr_exchanges.specs.Meanings.{Honest, IsRunnable}
use Rattle.mdr_exchanges.proofs.Meant.{honest_runs_are_meant}
use Rattle.mdr_honest.specs.Honest.{IsHonestSince}
use Rattle.mdr_half_source.specs.Loads.{Loads}
use Rattle.mdr_honest.specs.Loading.{AreItsHalf}
use Rattle.mdr_honest.specs.Meanings.{HasTexts, RunIsMeaning}
use Rattle.mdr_honest.proofs.Taken.{its_plan, source_bodies, source_sound, texts_are_loaded}
use Rattle.mdr_honest.proofs.FittingScripts.{scripts_fit}

-- ---- honest exchanges

-- two user halves give the same replies
abbrev Replies : Driver → Driver → Type 0
Replies d other = (before : List Reading) (last : Reading) → user_reply d before last ≡ user_reply other before last

reply_moved : (d other : Driver) → Replies d other → (before : List (List ℕ)) (last reply : List ℕ) → IsHonestReply d before last reply → IsHonestReply other before last reply
unfolding user_reply_to_bytes
reply_moved d other same before last reply h = record {
  spelled = subst IsMessage (same (readings before) (reading_of last)) h.spelled;
  bytes = h.bytes ∙ ap text (same (readings before) (reading_of last));
}

honest_moved : (d other : Driver) → Replies d other → (before : List (List ℕ)) (es : List Exchange) → Honest d before es → Honest other before es
honest_moved d other same before [] h = tt
honest_moved d other same before (e ∷ es) h = (of e.got h.0, honest_moved d other same (before ++ e.sent ∷ []) es h.1)
  where
    of : (got : Option (List ℕ)) → IfSome got (λ reply. IsHonestReply d before e.sent reply) → IfSome got (λ reply. IsHonestReply other before e.sent reply)
    of None q = tt
    of (Some reply) q = reply_moved d other same before e.sent reply q

-- an honest far side that was loaded with a source's texts answers as the user half of the whole program
replies_are : (source : Source) (plan : Plan) (l : Loaded) (es : List Exchange) → AreItsHalf source plan → HasTexts source plan l → IsHonestSince l es → Honest (driver_of source.program plan) [] es
replies_are source plan l es half texts honest =
    let loaded : Loads l.user l.plan half.part plan =
    subst (λ (u : List ℕ). Loads u l.plan half.part plan) (sym texts.user_is) (subst (λ (t : List ℕ). Loads (user_text plan source.tree) t half.part plan) (sym texts.plan_is) half.loaded) in
    honest_moved (driver_of half.part plan) (driver_of source.program plan) half.replies [] es (honest.served half.part plan loaded)

-- ---- the run

pub meaning : RunIsMeaning
meaning bytes script_bytes source plan script budget l es o cut scripted texts honest ran =
    let s = cut.source_is in
    let sound = source_sound bytes source s in
    let runnable : IsRunnable source.program plan script =
    record {
      bodies = source_bodies bytes source s;
      planned = its_plan source.program plan cut.plan_is;
      fits = scripts_fit source.program script_bytes script sound scripted;
    } in
    honest_runs_are_meant source.program plan script budget es o sound ran runnable (replies_are source plan l es (texts_are_loaded bytes source plan cut) texts honest)
