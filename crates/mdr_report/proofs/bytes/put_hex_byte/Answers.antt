use Rattle.std.proofs.Common.{◌<◌, [], ◌∷◌, ◌++◌, ap, ◌∙◌, arith}
use Rattle.mdr_report.proofs.Hex.{digits_put}
use Rattle.mdr_report.proofs.bytes.put_hex_byte.Goals as goal

pub returns : goal.returns
returns c =
    c.in_ok-put_byte-2.ensures
    ∙ ap (λ l. l ++ c.hex_digit-2.result ∷ []) c.in_ok-put_byte.ensures
    ∙ digits_put c.args.out.now.items c.args.byte _ _ (let h : c.args.byte < 256 = omega arith in h) c.hex_digit.ensures c.hex_digit-2.ensures
