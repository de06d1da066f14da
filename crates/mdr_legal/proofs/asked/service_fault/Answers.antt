use Rattle.std.proofs.Common.{sym, ap, ◌∙◌}
use Rattle.std.specs.Prelude.{option_map}
use Rattle.mdr_fits.specs.Tables.{terms_as}
use Rattle.mdr_split.specs.Services.{asked_of}
use Rattle.mdr_legal.specs.Waiting.{driver_at, kernel_at, open_at}
use Rattle.mdr_legal.proofs.Terms.{asked_is, none_is}
use Rattle.mdr_legal.proofs.asked.service_fault.Goals as goal

pub returns-in-Some : goal.returns-in-Some
returns-in-Some c =
    c.terms_fault.ensures
    ∙ asked_is (driver_at c.args.standing) (kernel_at c.args.standing) (open_at c.args.standing) (asked_of c.args.ask.now) (terms_as c.in-Some.terms)
    (sym (ap (option_map terms_as) c.in-Some.is) ∙ c.terms_of.ensures)

pub returns-in-None : goal.returns-in-None
returns-in-None c =
    c.fault.ensures
    ∙ none_is (driver_at c.args.standing) (kernel_at c.args.standing) (open_at c.args.standing) (asked_of c.args.ask.now) (option_map terms_as c.terms_of.result)
    (ap (option_map terms_as) c.in-None.is) c.terms_of.ensures
