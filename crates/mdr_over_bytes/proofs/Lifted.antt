-- The law over messages, lifted to their bytes.
use Rattle.std.proofs.Common.{◌≡◌, ℕ, List, [], ◌∷◌, ◌++◌, Ok, map, refl, sym, ap, subst, ◌∙◌}
use Rattle.mdr_model.specs.declared.message.Message.{Message}
use Rattle.mdr_model.specs.Bytes.{readings}
use Rattle.mdr_model.specs.KernelState.{Reading}
use Rattle.mdr_model.specs.Law.{read}
use Rattle.mdr_model.specs.Reading.{reading_of}
use Rattle.mdr_model.specs.Text.{text}
use Rattle.mdr_msg.proofs.Messages.{reading_again}
use Rattle.mdr_msg.specs.OverBytes.{HaveSpellings}
use Rattle.mdr_msg.specs.WellFormed.{IsMessage}
use Rattle.mdr_over_bytes.specs.OverBytes.{IsHonestOverBytes, IsOneMemoryOverBytes, SplitOverBytesIsOneMemory, split_run_over_bytes, user_reply_to_bytes}
use Rattle.mdr_bound.specs.declared.bound.Bound.{Bound}
use Rattle.mdr_serves.proofs.LawProof.{split_is_one_memory}
use Rattle.mdr_split.specs.Kernel.{SplitRun, first_kernel, next, run_from_pending, split_commands, split_run}
use Rattle.mdr_split.specs.Law.{IsHonest, IsOneMemory}
use Rattle.mdr_split.specs.State.{Over, Pending, Waits}
use Rattle.mdr_split.specs.User.{user_reply}
use Rattle.mdr_watched.specs.Driver.{Driver, driver_of}

-- ---- messages and their bytes

-- messages' bytes read as the messages
readings_again : (ms : List Message) → HaveSpellings ms → readings (map text ms) ≡ read ms
readings_again [] h = refl
readings_again (m ∷ ms) h = rw (reading_again m h.0, readings_again ms h.1) refl

one_more : (before : List Message) (m : Message) → map text (before ++ m ∷ []) ≡ map text before ++ text m ∷ []
one_more [] m = refl
one_more (b ∷ before) m = ap (λ (bs : List (List ℕ)). text b ∷ bs) (one_more before m)

all_and : (before : List Message) (m : Message) → HaveSpellings before → IsMessage m → HaveSpellings (before ++ m ∷ [])
all_and [] m h p = (p, tt)
all_and (b ∷ before) m h p = (h.0, all_and before m h.1 p)

both_are : (x y : Reading) (xs ys : List Reading) → x ≡ y → xs ≡ ys → x ∷ xs ≡ y ∷ ys
both_are x y xs ys e es = cc

module _ (d : Driver) where
  -- the reply to what messages' bytes read as is the reply to the messages
  same_reply : (before : List Message) (m : Message) → HaveSpellings before → IsMessage m
      → user_reply d (readings (map text before)) (reading_of (text m)) ≡ user_reply d (read before) (Ok m)
  same_reply before m h p = rw (readings_again before h, reading_again m p) refl

  -- the reply to bytes is the bytes of the reply
  reply_is : (before : List Message) (m : Message) → HaveSpellings before → IsMessage m
      → user_reply_to_bytes d (map text before) (text m) ≡ text (user_reply d (read before) (Ok m))
  unfolding user_reply_to_bytes
  reply_is before m h p = ap text (same_reply before m h p)

  -- ---- from messages to bytes

  spelled : (before sent answers : List Message) → HaveSpellings before → HaveSpellings sent → HaveSpellings answers → IsHonest d before sent answers
      → IsHonestOverBytes d (map text before) (map text sent) (map text answers)
  spelled before sent [] h p q honest = tt
  spelled before [] (a ∷ answers) h p q honest = honest
  spelled before (m ∷ sent) (a ∷ answers) h p q honest = (
    record {
      spelled = subst IsMessage (honest.0 ∙ sym (same_reply before m h p.0)) q.0;
      bytes = ap text honest.0 ∙ sym (reply_is before m h p.0);
    },
    subst (λ (bs : List (List ℕ)). IsHonestOverBytes d bs (map text sent) (map text answers)) (one_more before m)
        (spelled (before ++ m ∷ []) sent answers (all_and before m h p.0) p.1 q.1 honest.1),
  )

  -- ---- from bytes to messages

  -- the messages that the answers are
  record AreAnswers (before : List Message) (p : Pending) (answers : List (List ℕ)) : Type 0 where
    told : List Message
    are : readings answers ≡ read told
    honest : IsHonest d before (run_from_pending d (read told) p).sent told

  answers_are : (answers : List (List ℕ)) (before : List Message) (p : Pending) → HaveSpellings before → HaveSpellings (run_from_pending d (readings answers) p).sent
      → IsHonestOverBytes d (map text before) (map text (run_from_pending d (readings answers) p).sent) answers
      → AreAnswers before p answers
  unfolding run_from_pending
  answers_are [] before p h spellings honest = record { told = []; are = refl; honest = tt }
  answers_are (a ∷ answers) before (Over end k) h spellings honest = absurd honest
  answers_are (a ∷ answers) before (Waits m k upcall rest script) h spellings honest =
      let reply : Message = user_reply d (read before) (Ok m) in
      let reply_has : IsMessage reply = subst IsMessage (same_reply before m h spellings.0) honest.0.spelled in
      let bytes : a ≡ text reply = honest.0.bytes ∙ reply_is before m h spellings.0 in
      let reads : reading_of a ≡ Ok reply = ap reading_of bytes ∙ reading_again reply reply_has in
      let after : Pending = next d (Ok reply) k upcall rest script in
      let sent : HaveSpellings (run_from_pending d (readings answers) after).sent =
      subst (λ (r : Reading). HaveSpellings (run_from_pending d (readings answers) (next d r k upcall rest script)).sent) reads spellings.1 in
      let left : IsHonestOverBytes d (map text (before ++ m ∷ [])) (map text (run_from_pending d (readings answers) after).sent) answers =
      subst (λ (bs : List (List ℕ)). IsHonestOverBytes d bs (map text (run_from_pending d (readings answers) after).sent) answers) (sym (one_more before m))
      (subst (λ (r : Reading). IsHonestOverBytes d (map text before ++ text m ∷ []) (map text (run_from_pending d (readings answers) (next d r k upcall rest script)).sent) answers) reads honest.1) in
      let others = answers_are answers (before ++ m ∷ []) after (all_and before m h spellings.0) sent left in
      record {
        told = reply ∷ others.told;
        are = both_are (reading_of a) (Ok reply) (readings answers) (read others.told) reads others.are;
        honest = (refl, others.honest);
      }

  -- ---- the law

  same_run : (script : Bound) (budget : ℕ) (answers : List (List ℕ)) (told : List Message) → readings answers ≡ read told
      → split_run_over_bytes d script budget answers ≡ split_run d script budget (read told)
  unfolding split_run_over_bytes
  same_run script budget answers told are = ap (split_run d script budget) are

  lifted : (script : Bound) (budget : ℕ) → IsOneMemory d script budget → IsOneMemoryOverBytes d script budget
  unfolding split_run_over_bytes split_run
  lifted script budget law =
      let first : Pending = split_commands d script.commands (first_kernel d script budget) in
      let told : List Message = law.ends.0 in
      record {
        same = λ answers end k spellings run.
            let read_as = answers_are answers [] first tt spellings run.honest in
            law.same read_as.told end k read_as.honest (ap (λ (r : SplitRun). r.pending) (sym (same_run script budget answers read_as.told read_as.are)) ∙ run.over);
        ends = record {
          answers = told;
          end = law.ends.1;
          kernel = law.ends.2;
          honest = law.ends.3;
          over = law.ends.4;
          bytes = λ sent got.
              let run = same_run script budget (map text told) told (readings_again told got) in
              record {
                honest = subst (λ (r : SplitRun). IsHonestOverBytes d [] (map text r.sent) (map text told)) (sym run) (spelled [] (split_run d script budget (read told)).sent told tt sent got law.ends.3);
                over = ap (λ (r : SplitRun). r.pending) run ∙ law.ends.4;
              };
        };
      }

pub split_over_bytes_is_one_memory : SplitOverBytesIsOneMemory
split_over_bytes_is_one_memory program plan script budget sound bodies is_plan is_script =
    lifted (driver_of program plan) script budget (split_is_one_memory program plan script budget sound bodies is_plan is_script)
