use Rattle.std.proofs.Common.{◌≡◌, drop, map}
use Rattle.mdr_syntax.specs.Words.{front_len}
use Rattle.mdr_syntax.proofs.words.front_len.Given as goal

abbrev pub invariant-loop-word : goal.invariant-loop-word
invariant-loop-word l = front_len (map (λ w. w.now) (drop l.word-index l.words)) l.bytes ≡ front_len (map (λ w. w.now) l.words) l.bytes
