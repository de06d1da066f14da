use Rattle.std.proofs.Common.{◌∙◌, ap}
use Rattle.std.specs.Prelude.{◌||◌, ◌==◌}
use Rattle.mdr_reach.proofs.KeyLaws.{flag_set}
use Rattle.mdr_reach.proofs.keys.set_flag.Goals as goal

pub returns : goal.returns
returns c n = flag_set c.reach.new.flags.items c.args.place n c.in_ok-reach.ensures.inside ∙ ap (λ b. n == c.args.place || b) (c.reach.ensures.same n)
