use Rattle.std.proofs.Common.{sym, subst, Option, List, ℕ}
use Rattle.mdr_verify.specs.declared.verdict.Wrong.{Wrong}
use Rattle.mdr_verify.specs.Verdicts.{FirstWrong, FirstDifference}
use Rattle.mdr_verify.proofs.Differing.{wrong_is}
use Rattle.mdr_verify.proofs.verdict.first_wrong.Goals as goal

pub returns : goal.returns
returns c =
    let t = c.args.transcript.now in
    let sent = subst (λ (xs : List (List ℕ)). FirstDifference xs c.args.sent.now c.first_difference-message.result) c.as_slice.ensures c.first_difference-message.ensures in
    let got = subst (λ (xs : List (List ℕ)). FirstDifference xs c.args.answers.now c.first_difference-answer.result) c.as_slice-2.ensures c.first_difference-answer.ensures in
    subst (λ (w : Option Wrong). FirstWrong t c.args.sent.now c.args.answers.now w) (sym c.wrong_of.ensures) (wrong_is t c.args.sent.now c.args.answers.now c.first_difference-message.result c.first_difference-answer.result sent got)
