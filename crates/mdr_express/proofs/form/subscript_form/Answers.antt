use Rattle.mdr_express.proofs.Joined.{joined}
use Rattle.mdr_express.proofs.form.subscript_form.Goals as goal

pub returns : goal.returns
returns c x y made given = joined (c.in_ok-sides.ensures x y made given) (c.in_ok-subscript_rule.ensures x y)
