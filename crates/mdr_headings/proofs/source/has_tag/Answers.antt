use Rattle.std.proofs.Common.{◌∙◌}
use Rattle.std.specs.Str.{bytes_eq}
use Rattle.mdr_faults.proofs.Places.{any_found}
use Rattle.mdr_headings.proofs.source.has_tag.Goals as goal

pub returns : goal.returns
returns c = c.is_found.ensures ∙ any_found (λ t. bytes_eq t.name c.args.name.now) c.args.tags.now
