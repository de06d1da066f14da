use Rattle.std.proofs.Common.{sym, ◌∙◌, ap}
use Rattle.std.specs.Option.{option_copied}
use Rattle.mdr_reach.proofs.RowLaws.{no_offsets_known, none_known}
use Rattle.mdr_reach.proofs.rows.push_struct.Goals as goal

pub returns-in-None-clause-arounds : goal.returns-in-None-clause-arounds
returns-in-None-clause-arounds c = none_known c.args.row.now.arounds c.args.rows.now c.args.s (sym (ap option_copied c.in-None.is) ∙ c.row_at.ensures)

pub returns-in-None-clause-offsets : goal.returns-in-None-clause-offsets
returns-in-None-clause-offsets c = no_offsets_known c.args.row.now.offsets c.args.rows.now c.args.s (sym (ap option_copied c.in-None.is) ∙ c.row_at.ensures)
