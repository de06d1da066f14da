-- believed
-- The law over bytes: a split run whose messages and answers are bytes, with an honest far side, is the watched run on one memory.
use Rattle.std.specs.Prelude.{◌≡◌, ℕ, List, [], ◌∷◌, ◌++◌, map}
use Rattle.mdr_core.specs.declared.plan.Plan.{Plan}
use Rattle.mdr_core.specs.declared.program.Program.{Program}
use Rattle.mdr_core.specs.Sound.{IsSound}
use Rattle.mdr_holds.specs.Laws.{IsScript}
use Rattle.mdr_model.specs.declared.message.Message.{Message}
use Rattle.mdr_model.specs.declared.outcome.End.{End}
use Rattle.mdr_model.specs.Bytes.{readings}
use Rattle.mdr_model.specs.Law.{read}
use Rattle.mdr_model.specs.Reading.{reading_of}
use Rattle.mdr_model.specs.Text.{text}
use Rattle.mdr_msg.specs.OverBytes.{HaveSpellings}
use Rattle.mdr_msg.specs.WellFormed.{IsMessage}
use Rattle.mdr_bound.specs.declared.bound.Bound.{Bound}
use Rattle.mdr_split.specs.Kernel.{SplitRun, split_run}
use Rattle.mdr_split.specs.Law.{HaveBodies, IsHonest, IsPlanOf, IsWatched}
use Rattle.mdr_split.specs.State.{Kernel, Over}
use Rattle.mdr_split.specs.User.{user_reply}
use Rattle.mdr_watched.specs.Driver.{Driver, driver_of}

-- ---- each message is what its bytes read as

-- the split run over answers that are any bytes
unfoldable pub split_run_over_bytes : Driver → Bound → (budget : ℕ) → List (List ℕ) → SplitRun
split_run_over_bytes d script budget answers = split_run d script budget (readings answers)

-- the user half's reply to messages that are any bytes
unfoldable pub user_reply_to_bytes : Driver → (before : List (List ℕ)) (last : List ℕ) → List ℕ
user_reply_to_bytes d before last = text (user_reply d (readings before) (reading_of last))

abbrev pub sent_bytes : Driver → Bound → (budget : ℕ) → List (List ℕ) → List (List ℕ)
sent_bytes d script budget answers = map text (split_run_over_bytes d script budget answers).sent

-- ---- an honest far side

-- an honest answer is the user half's reply to the bytes of the messages so far, which has a spelling
pub record IsHonestReply (d : Driver) (before : List (List ℕ)) (last reply : List ℕ) : Type 0 where
  pub spelled : IsMessage (user_reply d (readings before) (reading_of last))
  pub bytes : reply ≡ user_reply_to_bytes d before last

-- each answer is one
abbrev pub IsHonestOverBytes : Driver → (before sent answers : List (List ℕ)) → Type 0
IsHonestOverBytes d before sent [] = Unit {0}
IsHonestOverBytes d before [] (a ∷ answers) = ⊥
IsHonestOverBytes d before (m ∷ sent) (a ∷ answers) = IsHonestReply d before m a × IsHonestOverBytes d (before ++ m ∷ []) sent answers

-- a run over bytes with an honest far side, which is over
pub record IsHonestRun (d : Driver) (script : Bound) (budget : ℕ) (answers : List (List ℕ)) (end : End) (k : Kernel) : Type 0 where
  pub honest : IsHonestOverBytes d [] (sent_bytes d script budget answers) answers
  pub over : (split_run_over_bytes d script budget answers).pending ≡ Over end k

-- the run with an honest far side over messages; and over their bytes, where each message that is sent and each answer has a spelling
pub record HasHonestRun (d : Driver) (script : Bound) (budget : ℕ) : Type 0 where
  pub answers : List Message
  pub end : End
  pub kernel : Kernel
  pub honest : IsHonest d [] (split_run d script budget (read answers)).sent answers
  pub over : (split_run d script budget (read answers)).pending ≡ Over end kernel
  pub bytes : HaveSpellings (split_run d script budget (read answers)).sent → HaveSpellings answers → IsHonestRun d script budget (map text answers) end kernel

-- ---- the law

-- whatever honest answers come, where each message that was sent has a spelling; and there are some with which the run is over
pub record IsOneMemoryOverBytes (d : Driver) (script : Bound) (budget : ℕ) : Type 0 where
  pub same :
      (answers : List (List ℕ)) (end : End) (k : Kernel)
      → HaveSpellings (split_run_over_bytes d script budget answers).sent
      → IsHonestRun d script budget answers end k
      → IsWatched d script budget end k
  pub ends : HasHonestRun d script budget

-- the law for every sound program in which each function has a body, with its plan, every script whose commands fit it and every budget
abbrev pub SplitOverBytesIsOneMemory : Type 0
SplitOverBytesIsOneMemory =
    (program : Program) (plan : Plan) (script : Bound) (budget : ℕ) → IsSound program → HaveBodies program → IsPlanOf program plan → IsScript program script
    → IsOneMemoryOverBytes (driver_of program plan) script budget
