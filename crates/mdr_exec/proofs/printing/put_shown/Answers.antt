use Rattle.std.proofs.Common.{false, [], ◌∷◌, ◌++◌, pos, unsigned_abs, ◌∙◌, ap, sym}
use Rattle.std.specs.Fmt.{decimal, digits, signed_decimal}
use Rattle.std.specs.Int.{int_rem_euclid, w128}
use Rattle.std.proofs.lemmas.Int.{to_z-of_z}
use Rattle.mdr_meaning.specs.Values.{natural_of, saturated_u64}
use Rattle.mdr_exec.proofs.PrintLaws.{shown_byte, shown_decimal, shown_hex, shown_signed}
use Rattle.mdr_exec.proofs.printing.put_shown.Goals as goal

pub returns-in_ok-put_signed : goal.returns-in_ok-put_signed
returns-in_ok-put_signed c = c.in_ok-put_signed.ensures ∙ ap (λ m. c.args.out.now.items ++ signed_decimal m) (to_z-of_z w128 c.args.n c.ranges.n) ∙ ap (λ xs. c.args.out.now.items ++ xs) (sym (shown_signed c.args.letter c.args.n c.if-letter-eq100.true))

pub returns-in_ok-put_byte_of : goal.returns-in_ok-put_byte_of
returns-in_ok-put_byte_of c = c.in_ok-put_byte_of.ensures ∙ ap (λ m. c.args.out.now.items ++ unsigned_abs (int_rem_euclid m (pos 256)) ∷ []) (to_z-of_z w128 c.args.n c.ranges.n) ∙ ap (λ xs. c.args.out.now.items ++ xs) (sym (shown_byte c.args.letter c.args.n c.if-letter-eq100.false c.if-letter-eq99.true))

pub returns-in_ok-put_hex : goal.returns-in_ok-put_hex
returns-in_ok-put_hex c = c.in_ok-put_hex.ensures ∙ ap (λ m. c.args.out.now.items ++ digits 16 false (saturated_u64 (natural_of m))) (to_z-of_z w128 c.args.n c.ranges.n) ∙ ap (λ xs. c.args.out.now.items ++ xs) (sym (shown_hex c.args.letter c.args.n c.if-letter-eq100.false c.if-letter-eq99.false c.if-letter-eq120.true))

pub returns-in_ok-put_decimal : goal.returns-in_ok-put_decimal
returns-in_ok-put_decimal c = c.in_ok-put_decimal.ensures ∙ ap (λ m. c.args.out.now.items ++ decimal (saturated_u64 (natural_of m))) (to_z-of_z w128 c.args.n c.ranges.n) ∙ ap (λ xs. c.args.out.now.items ++ xs) (sym (shown_decimal c.args.letter c.args.n c.if-letter-eq100.false c.if-letter-eq99.false c.if-letter-eq120.false))
