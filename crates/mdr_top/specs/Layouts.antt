-- believed
-- The line that tells how the memory of a run lies, and all that stands behind a report where it is asked for.
use Rattle.std.specs.Prelude.{ℕ, Bool, true, false, List, ◌++◌, codes, decimal}
use Rattle.mdr_model.specs.Report.{newline}
use Rattle.mdr_outside.specs.declared.far.Exchange.{Exchange}
use Rattle.mdr_plain.specs.World.{World}
use Rattle.mdr_region.specs.Layout.{places_of}
use Rattle.mdr_top.specs.declared.split_manner.SplitManner.{SplitManner}
use Rattle.mdr_top.specs.Messages.{with_messages}

-- how many places are used, and how many there are
abbrev pub layout_line : ℕ × ℕ → List ℕ
layout_line places = codes "region " ++ (decimal places.0 ++ (codes " " ++ (decimal places.1 ++ newline)))

-- a text, and behind it the line of a layout, where it is asked for
abbrev pub with_layout : (region : Bool) → ℕ × ℕ → (text : List ℕ) → List ℕ
with_layout false places text = text
with_layout true places text = text ++ layout_line places

-- a report, and behind it what is asked for: the lines of the messages, and that of the layout of all births and deaths up to this state
abbrev pub with_lines : SplitManner → List Exchange → World → (report : List ℕ) → List ℕ
with_lines manner es w report = with_layout manner.region (places_of w.lives) (with_messages manner.wire es report)
