use Rattle.std.proofs.Common.{◌≡◌, length}
use Rattle.mdr_reach.specs.Chains.{HasLinks}
use Rattle.mdr_reach.proofs.chains.chains_of.Given as goal

abbrev pub invariant-loop-name : goal.invariant-loop-name
invariant-loop-name l = record {
  links : length l.chains.befores.items ≡ l.name-index;
  buckets : length l.chains.lasts.items ≡ l.buckets;
  linked : HasLinks l.names l.chains.lasts.items l.chains.befores.items;
}
