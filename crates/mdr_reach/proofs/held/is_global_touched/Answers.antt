use Rattle.std.proofs.Common.{◌∙◌, ap}
use Rattle.mdr_reach.specs.Keys.{is_set}
use Rattle.mdr_reach.proofs.held.is_global_touched.Goals as goal

pub returns : goal.returns
returns c = c.is_set.ensures ∙ ap (λ xs. is_set xs c.args.number) c.as_slice.ensures.value ∙ c.requires.keys.globals c.args.number
