use Rattle.std.proofs.Common.{◌∙◌, ap, sym, Some, option_copied, pos}
use Rattle.mdr_core.specs.declared.kind.Kind.TheVariants.{S32}
use Rattle.mdr_core.specs.declared.value.Value.TheVariants as value
use Rattle.mdr_core.specs.Code.{Code}
use Rattle.mdr_core.specs.Folds.{test_of}
use Rattle.mdr_core.proofs.Coded.{lit_is}
use Rattle.mdr_exec.proofs.begin.begin_loop.Goals as goal

pub returns-in_ok-came-in-Some : goal.returns-in_ok-came-in-Some
returns-in_ok-came-in-Some g c = λ side n step body known is.
    c.in_ok-came-in-Some.ensures side n step body known (is ∙ ap (λ t. Some (Code.Loop n t step body)) (ap (λ o. test_of (option_copied o)) c.in-Some.is))

pub returns-in_ok-came-in-None : goal.returns-in_ok-came-in-None
returns-in_ok-came-in-None g c = λ side n step body known is.
    c.in_ok-came-in-None.ensures side n step body known
    (is ∙ ap (λ t. Some (Code.Loop n t step body)) (ap (λ o. test_of (option_copied o)) c.in-None.is ∙ sym (lit_is (value.Int S32 (pos 1)))))
