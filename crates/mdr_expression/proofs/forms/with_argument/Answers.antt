use Rattle.std.proofs.Common.{ap, ◌∙◌, [], ◌∷◌, ◌++◌}
use Rattle.mdr_expression.proofs.Expressing.{one_higher}
use Rattle.mdr_expression.proofs.forms.with_argument.Goals as goal

pub returns-clause-measured : goal.returns-clause-measured
returns-clause-measured c = λ a b. one_higher c.args.arguments.forms c.push.new.self c.args.part.form c.args.arguments.highest c.args.part.height c.max-highest.result (c.in_ok-push.ensures.ok ∙ ap (λ f. c.args.arguments.forms ++ (f ∷ [])) c.into_inner.ensures) a b c.max-highest.ensures
