use Rattle.mdr_sound.proofs.Sourced.{sources_have_tables}
use Rattle.mdr_sound.proofs.laws.sources_have_ordered_tables.Goals as goal

-- src/laws.rt:7:1
pub returns : goal.returns
returns c = sources_have_tables
