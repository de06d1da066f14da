use Rattle.std.proofs.Common.{◌≡◌, drop}
use Rattle.mdr_parse.specs.Parsing.{last_place, end_place}
use Rattle.mdr_parse.proofs.faults.end_place.Given as goal

abbrev pub invariant-loop-token : goal.invariant-loop-token
invariant-loop-token l = last_place l.place (drop l.token-index l.tokens) ≡ end_place l.tokens
