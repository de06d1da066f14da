use Rattle.std.proofs.Common.{arith}
use Rattle.mdr_msg.proofs.Messages.{is_found, is_only}
use Rattle.mdr_msg.proofs.reading.decode.Goals as goal

pub returns-clause-found : goal.returns-clause-found
returns-clause-found c = is_found c.args.bytes.now c.whole.result (λ i. omega (arith, c.type_inv.bytes i)) c.whole.ensures

pub returns-clause-only : goal.returns-clause-only
returns-clause-only c = λ m fits is. is_only c.args.bytes.now c.whole.result c.whole.ensures m fits is
