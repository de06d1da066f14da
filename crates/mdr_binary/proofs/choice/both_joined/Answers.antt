use Rattle.std.proofs.Common.{subst}
use Rattle.std.specs.Prelude.{◌≡◌, IfOk}
use Rattle.mdr_operand.specs.Forms.{value_type}
use Rattle.mdr_binary.specs.Choices.{joined_type}
use Rattle.mdr_binary.proofs.choice.both_joined.Goals as goal

pub returns : goal.returns
returns c =
    subst (λ t. IfOk c.joined_with-joined.result (λ r. r ≡ joined_type t (value_type c.args.y.now))) c.in_ok-t.ensures
    (c.joined_with-joined.ensures (value_type c.args.y.now) c.value_type-u.ensures)
