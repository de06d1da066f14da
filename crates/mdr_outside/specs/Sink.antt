-- believed
-- What a sink's answers say of the bytes that it holds.
use Rattle.std.specs.Prelude.{ℕ, ◌≡◌, ◌≤◌, ◌<◌, List, ◌++◌, length, take, Option, option_map}
use Rattle.std.specs.Io.KnownBytes.{Keeps, Appends as KnownAppends}
use Rattle.mdr_outside.specs.Count.{raised}
use Rattle.mdr_outside.specs.declared.sink.SinkAnswer.{SinkAnswer}
use Rattle.mdr_outside.specs.declared.sink.SinkAnswer.TheVariants as sinks
use Rattle.mdr_outside.specs.declared.sink.SinkCall.{SinkCall}

-- a write of this piece, with its answer
abbrev pub wrote : (piece : List ℕ) → SinkAnswer → SinkCall
wrote piece answer = record { piece = piece; answer = answer }

-- the first n bytes of the piece were appended, and one at least where it has any
pub record Appends (old new : Option (List ℕ)) (piece : List ℕ) (n : ℕ) : Type 0 where
  pub within : n ≤ length piece
  pub some : 0 < length piece → 0 < n
  pub told : new ≡ option_map (λ bytes. bytes ++ take n piece) old

-- what an answer says of the bytes before and after
abbrev pub Takes : Option (List ℕ) → Option (List ℕ) → List ℕ → SinkAnswer → Type 0
Takes old new piece (sinks.Ok n) = Appends old new piece n
Takes old new piece sinks.Failed = new ≡ old

-- what a writer's known bytes are after an answer
abbrev pub HandsOn : Option (List ℕ) → Option (List ℕ) → List ℕ → SinkAnswer → Type 0
HandsOn old new piece (sinks.Ok n) = KnownAppends old new (take n piece)
HandsOn old new piece sinks.Failed = Keeps old new

-- the count of faults after an answer
abbrev pub count_after : ℕ → SinkAnswer → ℕ
count_after faults (sinks.Ok n) = faults
count_after faults sinks.Failed = raised faults
