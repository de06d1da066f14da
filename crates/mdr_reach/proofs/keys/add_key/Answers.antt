use Rattle.std.proofs.Common.{◌∙◌, ap, sym}
use Rattle.std.specs.Prelude.{◌||◌}
use Rattle.mdr_access.specs.KeyOrder.{same_key}
use Rattle.mdr_core.specs.declared.plan.Key.TheVariants as key
use Rattle.mdr_reach.specs.Keys.{is_set}
use Rattle.mdr_reach.proofs.keys.add_key.Goals as goal

pub returns-in_ok-set_flag-in-Global-clause-globals : goal.returns-in_ok-set_flag-in-Global-clause-globals
returns-in_ok-set_flag-in-Global-clause-globals c n = c.in_ok-set_flag-in-Global.ensures n ∙ ap (λ k. same_key (key.Global n) k || is_set c.args.keys.now.globals.items n) (sym c.in-Global.is)

pub returns-in_ok-set_flag-in-Elem-clause-types : goal.returns-in_ok-set_flag-in-Elem-clause-types
returns-in_ok-set_flag-in-Elem-clause-types c n = c.in_ok-set_flag-in-Elem.ensures n ∙ ap (λ k. same_key (key.Elem n) k || is_set c.args.keys.now.types.items n) (sym c.in-Elem.is)
