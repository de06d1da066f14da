-- protocol
-- What functions give that run a script over two halves, by what lies outside before and after.
use Rattle.std.specs.Prelude.{ℕ, List}
use Rattle.mdr_due.specs.declared.due.Due.{Due}
use Rattle.mdr_due.specs.Statuses.{ReadCause}
use Rattle.mdr_source.specs.declared.outcome.Source.{Source}
use Rattle.mdr_top.specs.declared.split_manner.SplitManner.{SplitManner}
use Rattle.mdr_top.specs.Sides.{Change}
use Rattle.mdr_top.specs.SplitRuns.{SplitRuns, SplitRunsOver, SplitRunsOverPart, SplitRunsPart}

abbrev pub OverBy : (source : Source) (name : List ℕ) → SplitManner → Change → Due → Type 0
OverBy source name manner c due = SplitRunsOver c.before.shelf.files source name manner c.before.shelf.calls c.after.shelf.calls c.before.far c.after.far due.status due.text.items

abbrev pub OverPartBy : (source : Source) (name : List ℕ) (ticks : ℕ) → Change → Type 0
OverPartBy source name ticks c = SplitRunsOverPart c.before.shelf.files source name ticks c.before.shelf.calls c.after.shelf.calls c.before.far c.after.far

abbrev pub SplitRunsBy : (source_name script_name : List ℕ) → SplitManner → Change → Due → Type 0
SplitRunsBy source_name script_name manner c due = SplitRuns c.before.shelf.files source_name script_name manner c.before.shelf.calls c.after.shelf.calls c.before.far c.after.far due.status due.text.items

abbrev pub SplitPartBy : (source_name script_name : List ℕ) (ticks : ℕ) → Change → Type 0
SplitPartBy source_name script_name ticks c = SplitRunsPart c.before.shelf.files source_name script_name ticks c.before.shelf.calls c.after.shelf.calls c.before.far c.after.far

-- a status that tells of a file comes only where its count of reads rose
abbrev pub ReadCauseBy : Change → Due → Type 0
ReadCauseBy c due =
    ReadCause c.before.shelf c.after.shelf due.status
