use Rattle.std.proofs.Common.{subst}
use Rattle.mdr_half_source.specs.Stages.{Reading}
use Rattle.mdr_half_source.proofs.Steps.{found_tokens}
use Rattle.mdr_half_source.proofs.texts.found_in.Goals as goal

pub returns-in_ok-found-in-Ok : goal.returns-in_ok-found-in-Ok
returns-in_ok-found-in-Ok c =
    found_tokens c.args.user.now c.args.plan.now c.in-Ok.tokens c.in_ok-found-in-Ok.found c.in-Ok.ensures.exact
    (subst (λ ts. Reading c.args.plan.now ts c.in_ok-found-in-Ok.found) c.as_slice.ensures c.in_ok-found-in-Ok.ensures)
