use Rattle.std.proofs.Common.{◌∙◌, ap, sym, rules}
use Rattle.std.specs.Int.{w128}
use Rattle.std.proofs.lemmas.Int.{to_z-of_z}
use Rattle.mdr_core.specs.Kinds.{is_in_range}
use Rattle.mdr_exec.proofs.IntegerLaws.{in_kind, stays_in_kind}
use Rattle.mdr_exec.proofs.integer.operand.Goals as goal

pub returns-then-contains-clause-value : goal.returns-then-contains-clause-value
returns-then-contains-clause-value c =
    to_z-of_z w128 c.args.number c.ranges.number
    ∙ stays_in_kind c.args.kind c.args.number (ap (is_in_range c.args.kind) (sym (to_z-of_z w128 c.args.number c.ranges.number)) ∙ sym c.contains.ensures ∙ c.if-contains.true)

pub returns-then-contains-clause-fits : goal.returns-then-contains-clause-fits
returns-then-contains-clause-fits c = sym c.contains.ensures ∙ c.if-contains.true

pub returns-else-contains-clause-fits : goal.returns-else-contains-clause-fits
returns-else-contains-clause-fits c = in_kind c.args.kind _ _ (to_z-of_z w128 c.conv.result (search rules) ∙ c.conv.ensures)
