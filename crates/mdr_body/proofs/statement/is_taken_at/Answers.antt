use Rattle.mdr_operand.specs.Written.{lines_of}
use Rattle.mdr_body.specs.Addresses.{line_what}
use Rattle.mdr_body.proofs.Apart.{apart}
use Rattle.mdr_body.proofs.Undeclared.{taken_none}
use Rattle.mdr_body.proofs.statement.is_taken_at.Goals as goal

pub returns-in_default : goal.returns-in_default
returns-in_default c = taken_none (lines_of c.args.rest.now) (line_what c.args.what.now c.args.place) (apart c.args.what.now c.in_default.not-Local c.args.place)
