use Rattle.std.proofs.Common.{◌≤◌, ◌+◌, length}
use Rattle.mdr_syntax.specs.Tokens.{tokens_of}
use Rattle.mdr_syntax.proofs.Lexing.{Reads}
use Rattle.mdr_syntax.proofs.lexer.tokens.Given as goal

abbrev pub invariant-loop-rest : goal.invariant-loop-rest
invariant-loop-rest l = record {
  reads : Reads l.tokens l.is_fresh l.place l.rest (tokens_of l.bytes);
  line : l.place.line + length l.rest ≤ 1 + length l.bytes;
  column : l.place.column + length l.rest ≤ 1 + length l.bytes;
  short : length l.bytes ≤ 4294967294;
}

abbrev pub decreases-loop-rest : goal.decreases-loop-rest
decreases-loop-rest l = length l.rest
