use Rattle.mdr_body.proofs.Apart.{not_apart}
use Rattle.mdr_body.proofs.simple.plain_made.Goals as goal

pub returns-in-Local : goal.returns-in-Local
returns-in-Local g c t h = absurd (not_apart c.args.what.now _ _ c.in-Local.is c.args.place h)
