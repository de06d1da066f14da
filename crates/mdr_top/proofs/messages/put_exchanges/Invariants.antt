use Rattle.std.proofs.Common.{◌≡◌, ◌++◌, drop}
use Rattle.mdr_top.specs.Messages.{lines_of}
use Rattle.mdr_top.proofs.messages.put_exchanges.Given as goal

abbrev pub invariant-loop-exchange : goal.invariant-loop-exchange
invariant-loop-exchange l = l.out.items ++ lines_of (drop l.exchange-index l.exchanges) ≡ l.initial.out.items ++ lines_of l.exchanges
