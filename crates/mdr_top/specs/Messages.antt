-- believed
-- The lines that show the messages of a run.
use Rattle.std.specs.Prelude.{ℕ, ◌+◌, Bool, true, false, List, [], ◌∷◌, ◌++◌, codes, Option, None, Some}
use Rattle.mdr_model.specs.Report.{count_line, newline}
use Rattle.mdr_outside.specs.declared.far.Exchange.{Exchange}
use Rattle.mdr_plain.specs.Report.{hex}

-- ---- lines

-- bytes in hexadecimal digits, behind a mark that tells their direction
abbrev pub bytes_line : List ℕ → List ℕ → List ℕ
bytes_line mark bytes = mark ++ (hex bytes ++ newline)

-- an answer, where there was one
abbrev pub answer_line : Option (List ℕ) → List ℕ
answer_line None = []
answer_line (Some bytes) = bytes_line (codes "< ") bytes

-- a message, and the answer to it
abbrev pub exchange_lines : Exchange → List ℕ
exchange_lines e = bytes_line (codes "> ") e.sent ++ answer_line e.got

unfoldable pub lines_of : List Exchange → List ℕ
lines_of [] = []
lines_of (e ∷ es) = exchange_lines e ++ lines_of es

-- ---- their number

-- a message counts one, and the answer to it too
abbrev pub messages_by : Option (List ℕ) → ℕ
messages_by None = 1
messages_by (Some bytes) = 2

unfoldable pub messages_in : List Exchange → ℕ
messages_in [] = 0
messages_in (e ∷ es) = messages_by e.got + messages_in es

-- ---- all of it

-- the lines of the exchanges in order, and the number of messages
unfoldable pub messages_shown : List Exchange → List ℕ
messages_shown es = lines_of es ++ count_line (codes "messages ") (messages_in es)

-- a report, and behind it the lines that show the messages, where they are asked for
abbrev pub with_messages : (wire : Bool) → List Exchange → (report : List ℕ) → List ℕ
with_messages false es report = report
with_messages true es report = report ++ messages_shown es
