-- protocol
-- What a transcript is: the report of a split run, then a line for each message, then how many they are. And the first line with which no transcript goes on.
use Rattle.std.specs.Prelude.{◌≡◌, ◌⊎◌, ℕ, ◌+◌, Bool, not, ◌==◌, nat_lt, List, [], ◌∷◌, ◌++◌, length, Result, Ok, Err, IsTrue, codes, decimal}
use Rattle.std.specs.List.{list_all, prefix_len}
use Rattle.mdr_plain.specs.Report.{hex}
use Rattle.mdr_verify.specs.declared.transcript.Transcript.{Transcript}
use Rattle.mdr_verify.specs.declared.transcript.TranscriptError.{TranscriptError}
use Rattle.mdr_verify.specs.declared.transcript.TranscriptError.TheVariants.{Form, OutOfMemory}

-- ---- lines. 10 is a newline

abbrev pub in_line : ℕ → Bool
in_line b = not (b == 10)

-- the bytes have no newline
abbrev pub IsOneLine : List ℕ → Type 0
IsOneLine bytes = prefix_len in_line bytes ≡ length bytes

-- ---- messages

abbrev pub is_byte : ℕ → Bool
is_byte b = nat_lt b 256

abbrev pub AreBytes : List ℕ → Type 0
AreBytes message = IsTrue (list_all is_byte message)

abbrev pub AreMessages : List (List ℕ) → Type 0
AreMessages messages = IsTrue (list_all (λ message. list_all is_byte message) messages)

-- a message that was sent to the user half
abbrev pub sent_text : List ℕ → List ℕ
sent_text message = codes "> " ++ hex message

-- an answer
abbrev pub got_text : List ℕ → List ℕ
got_text message = codes "< " ++ hex message

-- the line shows a message
pub data ShowsMessage : List ℕ → Type 0 where
  Sent : (message : List ℕ) → AreBytes message → ShowsMessage (sent_text message)
  Got : (message : List ℕ) → AreBytes message → ShowsMessage (got_text message)

-- ---- the three parts

-- lines of which none shows a message
pub data IsReport : List ℕ → Type 0 where
  NoLines : IsReport []
  Line : (line rest : List ℕ) → IsOneLine line → (ShowsMessage line → ⊥) → IsReport rest → IsReport (line ++ 10 ∷ rest)

-- there is an answer to each message, but perhaps to the last
abbrev pub AreInTurn : (sent got : List (List ℕ)) → Type 0
AreInTurn sent got = (length sent ≡ length got) ⊎ (length sent ≡ length got + 1)

-- a line for each message and each answer in turn, in front of what stands behind them
abbrev pub message_lines : (sent got : List (List ℕ)) → List ℕ → List ℕ
message_lines [] got rest = rest
message_lines (m ∷ sent) [] rest = sent_text m ++ 10 ∷ rest
message_lines (m ∷ sent) (a ∷ got) rest = sent_text m ++ 10 ∷ (got_text a ++ 10 ∷ message_lines sent got rest)

-- how many messages there are
abbrev pub count_text : ℕ → List ℕ
count_text n = codes "messages " ++ decimal n

-- the bytes are what is printed of a split run with these messages
pub record IsTranscript (bytes : List ℕ) (t : Transcript) : Type 0 where
  pub report : IsReport t.report
  pub sent : AreMessages t.sent
  pub got : AreMessages t.got
  pub turns : AreInTurn t.sent t.got
  pub same : t.report ++ message_lines t.sent t.got (count_text (length t.sent + length t.got) ++ 10 ∷ []) ≡ bytes

-- ---- the first line that can't stand there

-- the bytes are the beginning of a transcript
pub record GoesOn (bytes : List ℕ) : Type 0 where
  pub rest : List ℕ
  pub transcript : Transcript
  pub is : IsTranscript (bytes ++ rest) transcript

-- so many whole lines
pub data AreLines : List ℕ → ℕ → Type 0 where
  NoLine : AreLines [] 0
  Then : (bytes line : List ℕ) (n : ℕ) → AreLines bytes n → IsOneLine line → AreLines (bytes ++ (line ++ 10 ∷ [])) (n + 1)

-- why reading ends behind these lines: the text ends without a further newline, and is no transcript, or no transcript goes on with the next line
pub data IsStuck (before rest : List ℕ) : Type 0 where
  Over : IsOneLine rest → ((t : Transcript) → IsTranscript (before ++ rest) t → ⊥) → IsStuck before rest
  Refused : (line more : List ℕ) → rest ≡ line ++ 10 ∷ more → IsOneLine line → (GoesOn (before ++ (line ++ 10 ∷ [])) → ⊥) → IsStuck before rest

-- the line of this number, from 1, is the first with which no transcript goes on
pub record IsFault (bytes : List ℕ) (number : ℕ) : Type 0 where
  pub before : List ℕ
  pub rest : List ℕ
  pub lines : ℕ
  pub split : bytes ≡ before ++ rest
  pub are : AreLines before lines
  pub count : number ≡ lines + 1
  pub goes : GoesOn before
  pub stuck : IsStuck before rest

-- what reading gives
abbrev pub Transcribes : List ℕ → Result Transcript TranscriptError → Type 0
Transcribes bytes (Ok t) = IsTranscript bytes t
Transcribes bytes (Err (Form number)) = IsFault bytes number
Transcribes bytes (Err OutOfMemory) = Unit {0}
