-- Readings of messages, and what the spelling of a refusal shows.
use Rattle.std.proofs.Common.{◌≡◌, ℕ, true, List, [], ◌∷◌, ◌++◌, refl, ap}
use Rattle.mdr_model.specs.declared.message.Message.{Message}
use Rattle.mdr_model.specs.declared.message.Message.TheVariants as message
use Rattle.mdr_model.specs.declared.reply.Reply.TheVariants as replies
use Rattle.mdr_model.specs.Xdr.{four}
use Rattle.mdr_model.specs.Text.{reply_text, text}
use Rattle.mdr_model.specs.Reading.{reading_of}
use Rattle.mdr_model.specs.KernelState.{Reading}
use Rattle.mdr_model.specs.Bytes.{readings}
use Rattle.mdr_model.specs.Refusals.{is_refusal}

-- ---- messages in turn

pub readings-append : (xs ys : List (List ℕ)) → readings (xs ++ ys) ≡ readings xs ++ readings ys
readings-append [] ys = refl
readings-append (x ∷ xs) ys = ap (λ (zs : List Reading). reading_of x ∷ zs) (readings-append xs ys)

-- ---- a refusal

-- a refusal that its spelling shows
pub shown_refusal : (m : Message) (reason : ℕ) → text m ≡ text (message.Refuse reason) → is_refusal m ≡ true
unfolding text reply_text four
shown_refusal (message.Call call) reason e = absurd (Prim.cc)
shown_refusal (message.Back back) reason e = absurd (Prim.cc)
shown_refusal (message.Answer answer) reason e = absurd (Prim.cc)
shown_refusal (message.Reply (replies.Return return)) reason e = absurd (Prim.cc)
shown_refusal (message.Reply (replies.Down down)) reason e = absurd (Prim.cc)
shown_refusal (message.Reply (replies.Ask ask)) reason e = absurd (Prim.cc)
shown_refusal (message.Reply (replies.Stop stop)) reason e = absurd (Prim.cc)
shown_refusal (message.Refuse given) reason e = refl
