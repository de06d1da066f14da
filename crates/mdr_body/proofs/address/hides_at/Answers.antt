use Rattle.mdr_body.specs.Addresses.{line_what}
use Rattle.mdr_body.proofs.Apart.{apart}
use Rattle.mdr_body.proofs.Undeclared.{hides_none}
use Rattle.mdr_body.proofs.address.hides_at.Goals as goal

pub returns-in_default : goal.returns-in_default
returns-in_default c = hides_none c.args.name.now (line_what c.args.what.now c.args.place) (apart c.args.what.now c.in_default.not-Local c.args.place)
