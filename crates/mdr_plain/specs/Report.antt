-- believed
-- The printed report of an outcome.
use Rattle.std.specs.Prelude.{ℕ, suc, false, ◌&&◌, ◌==◌, nat_le, nat_lt, List, [], ◌∷◌, ◌++◌, Option, Some, None, codes, decimal}
use Rattle.std.specs.Fmt.{digits}
use Rattle.mdr_core.specs.declared.program.Program.{Program}
use Rattle.mdr_core.specs.declared.types.Ty.{Ty}
use Rattle.mdr_core.specs.declared.value.Value.{Value}
use Rattle.mdr_core.specs.Layout.{chosen}
use Rattle.mdr_core.specs.TypeText.{type_text}
use Rattle.mdr_model.specs.declared.outcome.Happened.TheVariants as small
use Rattle.mdr_model.specs.declared.outcome.Object.{Object}
use Rattle.mdr_model.specs.Report.{cells_shown, count_line, end_line, event_line as small_line, func_name, newline, value_shown}
use Rattle.mdr_model.specs.Values.{type_at}
use Rattle.mdr_plain.specs.declared.outcome.Happened.{Happened}
use Rattle.mdr_plain.specs.declared.outcome.Happened.TheVariants as happened
use Rattle.mdr_plain.specs.declared.outcome.Outcome.{Outcome}

-- ---- bytes

abbrev pub two_digits : List ℕ → List ℕ
two_digits [] = codes "00"
two_digits (d ∷ []) = codes "0" ++ d ∷ []
two_digits ds = ds

-- a byte as two hexadecimal digits, in lower case
abbrev pub hex_byte : ℕ → List ℕ
hex_byte b = two_digits (digits 16 false b)

unfoldable pub hex : List ℕ → List ℕ
hex [] = []
hex (b ∷ bs) = hex_byte b ++ hex bs

-- the bytes of a text, of which 32 to 126 stand as they are, but for the backslash (92); a newline (10) and all others are escaped
abbrev pub escaped_byte : ℕ → List ℕ
escaped_byte b =
    chosen (b == 92) (codes "\\\\") (chosen (nat_le 32 b && nat_lt b 127) (b ∷ []) (chosen (b == 10) (codes "\\n") (codes "\\x" ++ hex_byte b)))

unfoldable pub escaped : List ℕ → List ℕ
escaped [] = []
escaped (b ∷ bs) = escaped_byte b ++ escaped bs

-- ---- lines

-- values of cells, each after a blank
unfoldable pub values_shown : Program → List Value → List ℕ
values_shown program [] = []
values_shown program (v ∷ vs) = codes " " ++ (value_shown program v ++ values_shown program vs)

abbrev pub register_line : List ℕ → (register number : ℕ) → List ℕ
register_line word r n = word ++ (decimal r ++ (codes " " ++ (decimal n ++ newline)))

-- three events have the lines that `mdr_model` gives them
unfoldable pub event_line : Program → Happened → List ℕ
event_line program (happened.Call name args) = small_line program (small.Call name args)
event_line program (happened.Idle n) = codes "idle " ++ (decimal n ++ newline)
event_line program (happened.Read r n) = register_line (codes "R ") r n
event_line program (happened.Wrote r n) = small_line program (small.Wrote r n)
event_line program (happened.Log text) = codes "log " ++ (escaped text ++ newline)
event_line program (happened.Deliver bytes) = codes "deliver " ++ (hex bytes ++ newline)
event_line program (happened.Irq f) = codes "irq " ++ (func_name program f ++ newline)
event_line program (happened.Ret v) = small_line program (small.Ret v)
event_line program (happened.Show name vs) = codes "show " ++ (name ++ (codes ":" ++ (values_shown program vs ++ newline)))
event_line program (happened.Say text) = text ++ newline

unfoldable pub event_lines : Program → List Happened → List ℕ
event_lines program [] = []
event_lines program (e ∷ es) = event_line program e ++ event_lines program es

abbrev pub type_shown : Program → Option Ty → List ℕ
type_shown program None = []
type_shown program (Some ty) = type_text program ty

unfoldable pub object_line : Program → ℕ → Object → List ℕ
object_line program n o =
    codes "obj " ++ (decimal n ++ (codes " " ++ (type_shown program (type_at program o.ty) ++ (codes " x" ++ (decimal o.count ++ (codes ":" ++ (cells_shown program o.cells ++ newline)))))))

-- numbered from the given number on
unfoldable pub object_lines : Program → ℕ → List Object → List ℕ
object_lines program n [] = []
object_lines program n (o ∷ os) = object_line program n o ++ object_lines program (suc n) os

-- the events in order, the end, the ticks, the live blocks, and the objects, numbered from 1
unfoldable pub report : Program → Outcome → List ℕ
report program o =
    event_lines program o.events
    ++ (end_line program o.end ++ (count_line (codes "ticks ") o.ticks ++ (count_line (codes "live ") o.live ++ object_lines program 1 o.objects)))
