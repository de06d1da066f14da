use Rattle.std.proofs.Common.{◌≡◌, ◌≤◌, ◌+◌, drop}
use Rattle.mdr_syntax.specs.Places.{place_after}
use Rattle.mdr_syntax.proofs.lexer.place_after.Given as goal

abbrev pub invariant-loop-b : goal.invariant-loop-b
invariant-loop-b l = record {
  so_far : place_after l.after (drop l.b-index l.bytes) ≡ place_after l.fn.place l.bytes;
  line : l.after.line ≤ l.fn.place.line + l.b-index;
  column : l.after.column ≤ l.fn.place.column + l.b-index;
}
