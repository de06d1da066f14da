use Rattle.std.proofs.Common.{List, ◌∙◌, sym, ap}
use Rattle.std.proofs.lemmas.Option.{IfSome_then}
use Rattle.mdr_model.specs.declared.memory.Cell.{Cell}
use Rattle.mdr_model.specs.Sets.{is_in}
use Rattle.mdr_user_memory.proofs.QuickLaws.{loads-first}
use Rattle.mdr_user_memory.proofs.quick.first_integer.Goals as goal

pub returns : goal.returns
returns c =
    IfSome_then c.integer_in.result c.integer_in.ensures
    (λ n e.
    loads-first c.args.memory.now.past c.args.memory.now.agreed c.args.memory.now.view c.args.memory.now.memory c.args.serial n
    (ap (λ (xs : List Cell). is_in xs (record { serial = c.args.serial; index = 0 })) (sym c.view.ensures) ∙ sym c.has.ensures ∙ c.if-not-has.false)
    (sym c.held.ensures ∙ e))
