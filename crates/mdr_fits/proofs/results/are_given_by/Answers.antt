use Rattle.std.proofs.Common.{sym, ap, ◌∙◌}
use Rattle.std.specs.Prelude.{option_map}
use Rattle.mdr_core.specs.Services.{service_numbered}
use Rattle.mdr_fits.proofs.Layers.{given_so}
use Rattle.mdr_fits.specs.Tables.{terms_as}
use Rattle.mdr_fits.proofs.results.are_given_by.Goals as goal

pub returns-in-Some : goal.returns-in-Some
returns-in-Some c =
    c.are_given.ensures
    ∙ given_so (service_numbered c.args.service) (terms_as c.in-Some.terms) c.args.news.now c.args.shapes.now c.args.results.now
    (sym (ap (option_map terms_as) c.in-Some.is) ∙ c.terms_of.ensures)
