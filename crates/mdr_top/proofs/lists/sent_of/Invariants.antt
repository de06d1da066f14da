use Rattle.std.proofs.Common.{◌≡◌, ◌++◌, drop}
use Rattle.mdr_exchanges.specs.Runs.{sent_of}
use Rattle.mdr_top.proofs.lists.sent_of.Given as goal

abbrev pub invariant-loop-exchange : goal.invariant-loop-exchange
invariant-loop-exchange l = l.list.items ++ sent_of (drop l.exchange-index l.exchanges) ≡ sent_of l.exchanges
