use Rattle.std.proofs.Common.{arith, refl}
use Rattle.std.proofs.lemmas.Result.{err_from_is_err_and}
use Rattle.mdr_xdr.specs.Reads.{input_at}
use Rattle.mdr_xdr.proofs.Readers.{IsBytes-drop}
use Rattle.mdr_msg.specs.Decoding.{error_of}
use Rattle.mdr_msg.proofs.Unsigned.{fails_from, eight_ok, eight_fails}
use Rattle.mdr_msg.proofs.integers.U64Item.get.Goals as goal

pub returns-in_err-n : goal.returns-in_err-n
returns-in_err-n c =
    let p = err_from_is_err_and c.from_residual.result c.from_residual.ensures.1 in
    rw (p.1, p.2) (eight_fails (input_at c.args.bytes.now c.args.c.now.at) (error_of c.in_err-n.field-0.0) (IsBytes-drop c.args.c.now.at c.args.bytes.now (λ i. omega (arith, c.type_inv.bytes i))) (fails_from c.in_err-n.field-0.0 _ _ refl c.in_err-n.ensures.exact.0))

pub returns : goal.returns
returns c = eight_ok (input_at c.args.bytes.now c.args.c.now.at) (input_at c.args.bytes.now c.get.new.c.at) c.in_ok-n.n c.in_ok-n.ensures.in_range c.in_ok-n.ensures.exact
