-- An answer that came and wasn't read.
use Rattle.std.proofs.Common.{rules, List, ℕ, Some, ◌∷◌, [], ◌++◌, ◌+◌, ◌≡◌, ◌∙◌, subst}
use Rattle.mdr_exchanges.proofs.Stops.{on_err}
use Rattle.mdr_exchanges.specs.Calls.{Broke}
use Rattle.mdr_model.specs.declared.message.Message.{Message}
use Rattle.mdr_model.specs.Text.{text}
use Rattle.mdr_near.proofs.send.send.Goals as goal
use Rattle.mdr_outside.specs.Calls.{FarCall, Sends, and_then}
use Rattle.mdr_outside.specs.declared.far.Exchange.{Exchange}
use Rattle.mdr_outside.specs.Far.{exchange}

unread_so : (m : Message) (calls calls' : List FarCall) (es es' : List Exchange) (n n' : ℕ) (sent bytes : List ℕ) → sent ≡ text m → calls' ≡ and_then calls (Sends sent) → es' ≡ es ++ exchange sent (Some bytes) ∷ [] → n' ≡ n + 2
    → Broke m calls calls' es es' n n'
unread_so m calls calls' es es' n n' sent bytes same called added count =
    Broke.untaken bytes (subst (λ (xs : List ℕ). calls' ≡ and_then calls (Sends xs)) same called) (subst (λ (xs : List ℕ). es' ≡ es ++ exchange xs (Some bytes) ∷ []) same added) count

pub returns-in_err-reading-in-Ok-clause-broke : goal.returns-in_err-reading-in-Ok-clause-broke
returns-in_err-reading-in-Ok-clause-broke g c =
    on_err _ _ (unread_so c.args.message _ _ _ _ c.args.messages.now (c.args.messages.now + 2) c.as_slice.result.now c.in-Ok.reply (c.as_slice.ensures.value ∙ c.in_ok-bytes.ensures.written) c.in-Ok.ensures.called c.in-Ok.ensures.exchanged (search rules))
