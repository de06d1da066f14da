use Rattle.std.proofs.Common.{◌≡◌, map, drop}
use Rattle.std.specs.Prelude.{string_bytes}
use Rattle.mdr_top.specs.Flags.{with_words, first_reading}
use Rattle.mdr_top.proofs.flags.reading_of.Given as goal

abbrev pub invariant-loop-word : goal.invariant-loop-word
invariant-loop-word l = with_words l.reading (map string_bytes (drop l.word-index l.words)) ≡ with_words first_reading (map string_bytes l.words)
