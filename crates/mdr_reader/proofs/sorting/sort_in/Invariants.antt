use Rattle.std.proofs.Common.{◌≡◌, drop, map}
use Rattle.mdr_grammar.specs.Sorts.{word as listed}
use Rattle.mdr_grammar.specs.Sorts.{sort_in}
use Rattle.mdr_reader.proofs.sorting.sort_in.Given as goal

abbrev pub invariant-loop-word : goal.invariant-loop-word
invariant-loop-word l = sort_in (map (λ w. listed w.0.now w.1) (drop l.word-index l.table)) l.text l.other ≡ sort_in (map (λ w. listed w.0.now w.1) l.table) l.text l.other
