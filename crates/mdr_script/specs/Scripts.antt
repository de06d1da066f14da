-- believed
-- A script, or its first line that is refused.
use Rattle.std.specs.Prelude.{◌≡◌, ℕ, ◌+◌, Bool, true, false, ◌==◌, ◌||◌, ◌&&◌, not, nat_lt, nat_le, if◌then◌else◌, List, [], ◌∷◌, ◌++◌, length, Option, Some, None, Result, Ok, Err}
use Rattle.mdr_script.specs.declared.line.Line.{Line}
use Rattle.mdr_script.specs.declared.line.Line.TheVariants as line
use Rattle.mdr_script.specs.declared.script.Script.{Script}
use Rattle.mdr_script.specs.declared.script_error.ScriptKind.{ScriptKind}
use Rattle.mdr_script.specs.declared.script_error.ScriptKind.TheVariants.{Form, Range, Order, Limit}
use Rattle.mdr_script.specs.declared.script_error.ScriptError.{ScriptError}
use Rattle.mdr_script.specs.declared.script_error.ScriptError.TheVariants as error
use Rattle.mdr_script.specs.Lines.{line_at}

-- ---- lines

abbrev pub with_byte : ℕ → List (List ℕ) → List (List ℕ)
with_byte b [] = (b ∷ []) ∷ []
with_byte b (l ∷ ls) = (b ∷ l) ∷ ls

-- each newline ends a line, and behind the last one there is a line if a byte is there
abbrev pub lines_of : List ℕ → List (List ℕ)
lines_of [] = []
lines_of (b ∷ bytes) = if b == 10 then [] ∷ lines_of bytes else with_byte b (lines_of bytes)

-- ---- what a line adds

abbrev pub empty_script : Script
empty_script = record { words = []; rules = []; fails = []; lines = [] }

abbrev pub with_line : (number : ℕ) → Line → Script → Script
with_line n line.Nothing s = s
with_line n (line.Word r v) s = record s { words = s.words ++ (r, v) ∷ [] }
with_line n (line.Rule rule) s = record s { rules = s.rules ++ rule ∷ [] }
with_line n (line.Fail k) s = record s { fails = s.fails ++ k ∷ [] }
with_line n (line.Command what) s = record s { lines = s.lines ++ record { line = n; what = what } ∷ [] }

-- the lines that stand before all commands
abbrev pub is_setup : Line → Bool
is_setup line.Nothing = false
is_setup (line.Word r v) = true
is_setup (line.Rule rule) = true
is_setup (line.Fail k) = true
is_setup (line.Command what) = false

-- 256 rules, with 8 effects each
abbrev pub is_rule_past : Line → Script → Bool
is_rule_past line.Nothing s = false
is_rule_past (line.Word r v) s = false
is_rule_past (line.Rule rule) s = nat_le 256 (length s.rules) || nat_lt 8 (length rule.effects)
is_rule_past (line.Fail k) s = false
is_rule_past (line.Command what) s = false

-- 10,000 lines
unfoldable pub is_past : (number : ℕ) → Line → Script → Bool
is_past n l s = nat_lt 10000 n || is_rule_past l s

abbrev pub has_commands : Script → Bool
has_commands s = not (length s.lines == 0)

-- a line of the table, at its place
unfoldable pub placed : (number : ℕ) → Script → Line → Result Script ScriptKind
placed n s l =
    if is_setup l && has_commands s then Err Order
    else (if is_past n l s then Err Limit
    else Ok (with_line n l s))

-- a line that is none of the table is one with other numbers, or none at all
abbrev pub judged_by : (number : ℕ) → Script → Option Line → Option Line → Result Script ScriptKind
judged_by n s (Some l) shape = placed n s l
judged_by n s None (Some l) = Err Range
judged_by n s None None = Err Form

unfoldable pub judged : (number : ℕ) → Script → List ℕ → Result Script ScriptKind
judged n s bytes = judged_by n s (line_at false bytes) (line_at true bytes)

-- ---- all lines

abbrev pub and_then : (number : ℕ) → Result Script ScriptKind → (Script → Result Script (ℕ × ScriptKind)) → Result Script (ℕ × ScriptKind)
and_then n (Ok s) f = f s
and_then n (Err kind) f = Err (n, kind)

-- these lines behind a script, of which the first has this number
abbrev pub script_from : (number : ℕ) → Script → List (List ℕ) → Result Script (ℕ × ScriptKind)
script_from n s [] = Ok s
script_from n s (l ∷ ls) = and_then n (judged n s l) (λ t. script_from (n + 1) t ls)

unfoldable pub script_of : List ℕ → Result Script (ℕ × ScriptKind)
script_of bytes = script_from 1 empty_script (lines_of bytes)

-- what a function returned is what reading gives, unless memory ran out
abbrev pub Told : {A : Type 0} → Result A ScriptError → Result A (ℕ × ScriptKind) → Type 0
Told (Ok x) read = read ≡ Ok x
Told (Err (error.Line n kind)) read = read ≡ Err (n, kind)
Told (Err error.OutOfMemory) read = Unit {0}

-- what one line did
abbrev pub Placed : {A : Type 0} → (number : ℕ) → Result A ScriptError → Script → Result Script ScriptKind → Type 0
Placed n (Ok x) new judged = judged ≡ Ok new
Placed n (Err (error.Line m kind)) new judged = (judged ≡ Err kind) × (m ≡ n)
Placed n (Err error.OutOfMemory) new judged = Unit {0}

-- a line of the table's with other numbers, or none of it
abbrev pub IsRefused : (number : ℕ) → Option Line → ScriptError → Type 0
IsRefused n (Some l) (error.Line m kind) = (kind ≡ Range) × (m ≡ n)
IsRefused n None (error.Line m kind) = (kind ≡ Form) × (m ≡ n)
IsRefused n shape error.OutOfMemory = Unit {0}
