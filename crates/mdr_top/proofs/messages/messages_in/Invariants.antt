use Rattle.std.proofs.Common.{◌≡◌, ◌+◌, ◌*◌, ◌≤◌, drop}
use Rattle.mdr_top.specs.Messages.{messages_in}
use Rattle.mdr_top.proofs.messages.messages_in.Given as goal

abbrev pub invariant-loop-exchange : goal.invariant-loop-exchange
invariant-loop-exchange l = (l.total + messages_in (drop l.exchange-index l.exchanges) ≡ messages_in l.exchanges) × (l.total ≤ l.exchange-index * 256)
