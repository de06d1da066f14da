-- The program of a source that isn't refused is sound.
use Rattle.std.proofs.Common.{ℕ, false, List, Ok}
use Rattle.mdr_core.specs.Sound.{IsSound}
use Rattle.mdr_body.specs.Uses.{first_use}
use Rattle.mdr_source.specs.declared.outcome.Source.{Source}
use Rattle.mdr_source.specs.Sources.{Comes}
use Rattle.mdr_source.proofs.Whose.{come_source}
use Rattle.mdr_sound.specs.Sources.{IsProgramOf}
use Rattle.mdr_sound.proofs.Sourced.{sources_sound}

pub source_sound : (bytes : List ℕ) (source : Source) → Comes bytes (Ok source) → IsSound source.program
source_sound bytes source comes =
    let s = come_source bytes source comes in
    let is : IsProgramOf bytes false first_use source.program = record { tokens = s.tokens; tree = source.tree; lexed = s.are_tokens; read = s.reads; typed = s.judged } in
    sources_sound bytes false first_use source.program is s.numbers
