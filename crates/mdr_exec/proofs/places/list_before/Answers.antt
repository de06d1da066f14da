use Rattle.std.proofs.Common.{◌∙◌, ap, sym, option_copied}
use Rattle.std.proofs.lemmas.Option.{IfSome_then}
use Rattle.mdr_exec.proofs.PlaceLaws.{listed_before}
use Rattle.mdr_exec.proofs.places.list_before.Goals as goal

pub returns-in-Some : goal.returns-in-Some
returns-in-Some c =
    IfSome_then c.list_in.result c.list_in.ensures
    (λ list is. is ∙ listed_before c.args.statements.now c.args.next c.in-Some.statement.now c.args.part c.if-next-eq0.false (sym (ap option_copied c.in-Some.is) ∙ c.statement_at.ensures))
