use Rattle.std.proofs.Common.{◌≤◌, subst}
use Rattle.std.specs.Prelude.{IfSome}
use Rattle.mdr_script.proofs.values.view_of.Goals as goal

pub small-requires : goal.small-requires
small-requires c = subst (λ o. IfSome o (λ t. t ≤ 16777216)) c.in-Some.is c.requires
