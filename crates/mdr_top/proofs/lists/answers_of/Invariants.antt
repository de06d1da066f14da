use Rattle.std.proofs.Common.{◌≡◌, ◌++◌, drop}
use Rattle.mdr_exchanges.specs.Runs.{answers_of}
use Rattle.mdr_top.proofs.lists.answers_of.Given as goal

abbrev pub invariant-loop-exchange : goal.invariant-loop-exchange
invariant-loop-exchange l = l.list.items ++ answers_of (drop l.exchange-index l.exchanges) ≡ answers_of l.exchanges
