use Rattle.mdr_faults.proofs.Places.{noted_now}
use Rattle.mdr_faults.proofs.names.add.Goals as goal

pub returns-clause-ok : goal.returns-clause-ok
returns-clause-ok c = noted_now c.args.places.now c.insert.new.self c.in_ok-key.key c.args.name.now c.args.place c.in_ok-key.ensures.items c.requires c.in_ok-insert.ensures.entries
