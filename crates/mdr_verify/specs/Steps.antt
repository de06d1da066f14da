-- protocol
-- Reading a transcript line by line.
use Rattle.std.specs.Prelude.{◌≡◌, ℕ, ◌+◌, Bool, true, false, if◌then◌else◌, List, [], ◌∷◌, ◌++◌, length, Option, Some, None, Result, Ok, Err, codes}
use Rattle.std.specs.Str.{bytes_eq}
use Rattle.mdr_verify.specs.declared.line.Line.{Line}
use Rattle.mdr_verify.specs.declared.line.Line.TheVariants as line
use Rattle.mdr_verify.specs.declared.reader.Stage.{Stage}
use Rattle.mdr_verify.specs.declared.reader.Stage.TheVariants as stage
use Rattle.mdr_verify.specs.declared.reader.Reader.{Reader}
use Rattle.mdr_verify.specs.declared.transcript.Transcript.{Transcript}
use Rattle.mdr_script.specs.declared.unread.Unread.{Unread}
use Rattle.mdr_script.specs.declared.unread.Unread.TheVariants.{Refused, OutOfMemory}
use Rattle.mdr_verify.specs.Lines.{line_at}
use Rattle.mdr_verify.specs.Transcripts.{count_text}

abbrev pub reader_at : Stage → (report : List ℕ) → (sent got : List (List ℕ)) → Reader
reader_at stage report sent got = record { stage = stage; report = report; sent = sent; got = got }

-- before the first line
abbrev pub start : Reader
start = reader_at stage.Report [] [] []

-- the number of messages where there is none
abbrev pub no_messages : List ℕ
no_messages = codes "messages 0"

-- there is a further line, so that this one was of the report
abbrev pub is_zero : Stage → Bool
is_zero stage.Zero = true
is_zero stage.Report = false
is_zero stage.Sent = false
is_zero stage.Got = false
is_zero stage.Done = false

abbrev pub reopened : Reader → Reader
reopened r = if is_zero r.stage then reader_at stage.Report (r.report ++ (no_messages ++ 10 ∷ [])) r.sent r.got else r

-- a message may come next
abbrev pub takes_sent : Stage → Bool
takes_sent stage.Report = true
takes_sent stage.Got = true
takes_sent stage.Zero = false
takes_sent stage.Sent = false
takes_sent stage.Done = false

abbrev pub after_sent : Reader → List ℕ → Option Reader
after_sent r m = if takes_sent r.stage then Some (record r { stage = stage.Sent; sent = r.sent ++ m ∷ [] }) else None

-- an answer may come next
abbrev pub takes_got : Stage → Bool
takes_got stage.Sent = true
takes_got stage.Report = false
takes_got stage.Zero = false
takes_got stage.Got = false
takes_got stage.Done = false

abbrev pub after_got : Reader → List ℕ → Option Reader
after_got r m = if takes_got r.stage then Some (record r { stage = stage.Got; got = r.got ++ m ∷ [] }) else None

-- there was no message yet
abbrev pub in_report : Stage → Bool
in_report stage.Report = true
in_report stage.Zero = false
in_report stage.Sent = false
in_report stage.Got = false
in_report stage.Done = false

-- the number of messages may come next
abbrev pub takes_count : Stage → Bool
takes_count stage.Sent = true
takes_count stage.Got = true
takes_count stage.Report = false
takes_count stage.Zero = false
takes_count stage.Done = false

-- behind a line of the report, of which one may be the number of messages
abbrev pub after_report : Reader → List ℕ → Reader
after_report r bytes = if bytes_eq bytes no_messages then record r { stage = stage.Zero } else record r { report = r.report ++ (bytes ++ 10 ∷ []) }

-- behind the number of messages
abbrev pub after_count : Reader → List ℕ → Option Reader
after_count r bytes = if bytes_eq bytes (count_text (length r.sent + length r.got)) then Some (record r { stage = stage.Done }) else None

abbrev pub after_other : Reader → List ℕ → Option Reader
after_other r bytes = if in_report r.stage then Some (after_report r bytes) else (if takes_count r.stage then after_count r bytes else None)

abbrev pub after_by : Reader → Line → List ℕ → Option Reader
after_by r (line.Sent m) bytes = after_sent r m
after_by r (line.Got m) bytes = after_got r m
after_by r line.Other bytes = after_other r bytes

-- what was read with one line more, or none where the line can't stand there
abbrev pub after : Reader → List ℕ → Option Reader
after r bytes = after_by (reopened r) (line_at bytes) bytes

-- what a line did, unless memory ran out
abbrev pub Took : {A : Type 0} → Result A Unread → Option Reader → Reader → Type 0
Took (Ok x) next new = next ≡ Some new
Took (Err Refused) next new = next ≡ None
Took (Err OutOfMemory) next new = Unit {0}

-- the last line may be the text's last
abbrev pub is_whole : Stage → Bool
is_whole stage.Zero = true
is_whole stage.Done = true
is_whole stage.Report = false
is_whole stage.Sent = false
is_whole stage.Got = false

abbrev pub transcript_of : Reader → Transcript
transcript_of r = record { report = r.report; sent = r.sent; got = r.got }
