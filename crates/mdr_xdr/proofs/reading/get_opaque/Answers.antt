use Rattle.std.proofs.Common.{arith}
use Rattle.mdr_xdr.proofs.Opaque.{opaque_reader}
use Rattle.mdr_xdr.proofs.Spelled.{is_found, is_only}
use Rattle.mdr_xdr.proofs.reading.get_opaque.Goals as goal

pub returns-clause-found : goal.returns-clause-found
returns-clause-found c = is_found opaque_reader (λ x. x.now) c.args.bytes.now c.args.c.now.at c.opaque_of.new.c.at c.opaque_of.result (λ i. omega (arith, c.type_inv.bytes i)) c.opaque_of.ensures

pub returns-clause-only : goal.returns-clause-only
returns-clause-only c = λ y rest fits is. is_only opaque_reader (λ x. x.now) c.args.bytes.now c.args.c.now.at c.opaque_of.new.c.at c.opaque_of.result c.opaque_of.ensures y rest fits is
