use Rattle.std.specs.Prelude.{reverse}
use Rattle.std.proofs.Common.{[], ◌∷◌, ◌++◌, ◌∙◌, ap}
use Rattle.mdr_watch.proofs.Guards.{one_over}
use Rattle.mdr_watch.proofs.guarded.push_set.Goals as goal

pub returns : goal.returns
returns c =
    ap (λ inner. inner ∷ reverse c.push.new.self) c.replace-inner.ensures.after
    ∙ one_over c.args.set c.args.sets.now.inner c.args.sets.now.outer c.push.new.self (c.in_ok-push.ensures.ok ∙ ap (λ inner. c.args.sets.now.outer ++ inner ∷ []) c.replace-inner.ensures.value)
