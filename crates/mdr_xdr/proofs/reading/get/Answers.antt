use Rattle.std.proofs.Common.{arith}
use Rattle.mdr_xdr.proofs.Numbers.{item_reader}
use Rattle.mdr_xdr.proofs.Spelled.{is_found, is_only}
use Rattle.mdr_xdr.proofs.reading.get.Goals as goal

pub returns-clause-found : goal.returns-clause-found
returns-clause-found c = is_found (item_reader c.args.kind) (λ n. n) c.args.bytes.now c.args.c.now.at c.integer_of.new.c.at c.integer_of.result (λ i. omega (arith, c.type_inv.bytes i)) c.integer_of.ensures.read

pub returns-clause-only : goal.returns-clause-only
returns-clause-only c = λ y rest fits is. is_only (item_reader c.args.kind) (λ n. n) c.args.bytes.now c.args.c.now.at c.integer_of.new.c.at c.integer_of.result c.integer_of.ensures.read y rest fits is
