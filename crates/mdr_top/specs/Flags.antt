-- believed
-- The flags behind the words of a run.
use Rattle.std.specs.Prelude.{ℕ, Bool, true, false, List, [], ◌∷◌, codes, Option, Some, None}
use Rattle.std.specs.Str.{bytes_eq}
use Rattle.mdr_core.specs.Layout.{chosen}
use Rattle.mdr_top.specs.declared.flags.Flags.{Flags}
use Rattle.mdr_top.specs.declared.flags.Reading.{Reading}
use Rattle.mdr_top.specs.declared.flags.Reading.TheVariants as reading
use Rattle.mdr_top.specs.Budgets.{ticks_of}

-- ---- a word more

-- a flag stands once alone
abbrev pub once : (stands : Bool) → Flags → Reading
once true flags = reading.Refused
once false flags = reading.Flag flags

-- so does `--ticks`, and its number is to follow
abbrev pub ticks_next : Flags → (stands : Option ℕ) → Reading
ticks_next flags None = reading.Ticks flags
ticks_next flags (Some n) = reading.Refused

-- where a flag may stand
abbrev pub with_flag : Flags → (word : List ℕ) → Reading
with_flag flags word =
    chosen (bytes_eq word (codes "--watch")) (once flags.watch (record flags { watch = true }))
    (chosen (bytes_eq word (codes "--wire")) (once flags.wire (record flags { wire = true }))
    (chosen (bytes_eq word (codes "--region")) (once flags.region (record flags { region = true }))
    (chosen (bytes_eq word (codes "--ticks")) (ticks_next flags flags.ticks) reading.Refused)))

-- where the number of `--ticks` stands
abbrev pub with_number : Flags → Option ℕ → Reading
with_number flags None = reading.Refused
with_number flags (Some n) = reading.Flag (record flags { ticks = Some n })

abbrev pub with_word : Reading → (word : List ℕ) → Reading
with_word (reading.Flag flags) word = with_flag flags word
with_word (reading.Ticks flags) word = with_number flags (ticks_of word)
with_word reading.Refused word = reading.Refused

-- ---- all words

unfoldable pub with_words : Reading → List (List ℕ) → Reading
with_words r [] = r
with_words r (word ∷ words) = with_words (with_word r word) words

abbrev pub no_flags : Flags
no_flags = record { watch = false; ticks = None; wire = false; region = false }

abbrev pub first_reading : Reading
first_reading = reading.Flag no_flags

abbrev pub flags_in : Reading → Option Flags
flags_in (reading.Flag flags) = Some flags
flags_in (reading.Ticks flags) = None
flags_in reading.Refused = None

-- what the words say, where they are flags, each at most once, in any order
abbrev pub flags_of : List (List ℕ) → Option Flags
flags_of words = flags_in (with_words first_reading words)
