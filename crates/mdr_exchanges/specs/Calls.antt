-- believed
-- What a run sends, and where it stops for want of memory.
use Rattle.std.specs.Prelude.{◌≡◌, ℕ, ◌+◌, ◌⊎◌, List, [], ◌∷◌, ◌++◌, map, length, take, Some, None}
use Rattle.mdr_watched.specs.Driver.{Driver}
use Rattle.mdr_outside.specs.Calls.{FarCall, Sends, and_then}
use Rattle.mdr_outside.specs.declared.far.Exchange.{Exchange}
use Rattle.mdr_outside.specs.Far.{exchange}
use Rattle.mdr_bound.specs.declared.bound.Bound.{Bound}
use Rattle.mdr_model.specs.declared.message.Message.{Message}
use Rattle.mdr_model.specs.Memory.{Memory}
use Rattle.mdr_model.specs.Text.{text}
use Rattle.mdr_over_bytes.specs.OverBytes.{split_run_over_bytes}
use Rattle.mdr_split.specs.AnyAnswers.{kernel_in}
use Rattle.mdr_exchanges.specs.Runs.{answers_of, run_over}

-- messages as calls of a far side
abbrev pub sends : List (List ℕ) → List FarCall
sends messages = map Sends messages

-- ---- where a run stops

-- the run sent nothing yet, and no memory is held; or it stands where these answers lead it, which are all that came, or all but the last
pub data IsPlace (d : Driver) (script : Bound) (budget : ℕ) (answers : List (List ℕ)) (memory : Memory) : Type 0 where
  begins : memory ≡ [] → answers ≡ [] → IsPlace d script budget answers memory
  stands : (taken : List (List ℕ)) → (answers ≡ taken) ⊎ ((last : List ℕ) × (answers ≡ taken ++ last ∷ [])) → memory ≡ (kernel_in (split_run_over_bytes d script budget taken).pending).world.memory → IsPlace d script budget answers memory

-- messages that a run sends, from its first on
pub record IsPart (d : Driver) (script : Bound) (budget : ℕ) (es : List Exchange) (sent : List (List ℕ)) : Type 0 where
  pub count : ℕ
  pub part : sent ≡ take count (map text (run_over d script budget es).sent)

-- memory was wanting: the messages sent are a beginning of the run's, they and the answers are counted, and the memory is that of the place
pub record IsStopped (d : Driver) (script : Bound) (budget : ℕ) (old new : List FarCall) (es : List Exchange) (memory : Memory) (messages : ℕ) : Type 0 where
  pub sent : List (List ℕ)
  pub called : new ≡ old ++ sends sent
  pub part : IsPart d script budget es sent
  pub count : messages ≡ length sent + length (answers_of es)
  pub place : IsPlace d script budget (answers_of es) memory

-- ---- a turn

-- a turn for which memory was wanting: the message wasn't sent; or no answer came; or the answer wasn't taken
pub data Broke (m : Message) (calls calls' : List FarCall) (es es' : List Exchange) (before after : ℕ) : Type 0 where
  unsent : calls' ≡ calls → es' ≡ es → after ≡ before → Broke m calls calls' es es' before after
  unanswered : calls' ≡ and_then calls (Sends (text m)) → (es' ≡ es) ⊎ (es' ≡ es ++ exchange (text m) None ∷ []) → after ≡ before + 1 → Broke m calls calls' es es' before after
  untaken : (bytes : List ℕ) → calls' ≡ and_then calls (Sends (text m)) → es' ≡ es ++ exchange (text m) (Some bytes) ∷ [] → after ≡ before + 2 → Broke m calls calls' es es' before after
