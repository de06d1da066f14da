-- One refused message, wherever it stands: the replies to the messages behind it are those without it.
use Rattle.std.proofs.Common.{◌≡◌, ℕ, suc, ◌+◌, true, List, ◌∷◌, ◌++◌, sym, ◌∙◌, ap, arith}
use Rattle.mdr_model.specs.Bytes.{readings}
use Rattle.mdr_model.specs.KernelState.{Reading}
use Rattle.mdr_model.specs.Reading.{reading_of}
use Rattle.mdr_model.specs.Refusals.{is_refusal}
use Rattle.mdr_model.specs.Text.{text}
use Rattle.mdr_model.specs.User.{allowance, granted}
use Rattle.mdr_model.proofs.FuelLaws.{allowance-append}
use Rattle.mdr_model.proofs.RefusalLaws.{readings-append}
use Rattle.mdr_over_bytes.specs.OverBytes.{user_reply_to_bytes}
use Rattle.mdr_split.specs.User.{User, deliver, first_user, user_after, user_reply}
use Rattle.mdr_split.proofs.FuelLaws.{reply_with_fuel, user_after-append}
use Rattle.mdr_split.proofs.RefusalLaws.{refused_leaves_user}
use Rattle.mdr_watched.specs.Driver.{Driver}

reply_without : (d : Driver) (before : List Reading) (x : Reading) (more : List Reading) (last : Reading) → is_refusal (user_reply d before x) ≡ true
    → user_reply d (before ++ x ∷ more) last ≡ user_reply d (before ++ more) last
unfolding user_after allowance
reply_without d before x more last e =
    with_it ∙ ap (λ (u : User). (deliver d n u last).reply) same ∙ sym without_it
  where
    n : ℕ
    n = suc (allowance before + granted x + allowance more + granted last)

    first : User
    first = user_after d n (first_user d) before

    all : allowance (before ++ x ∷ more) ≡ allowance before + (granted x + allowance more)
    all = allowance-append before (x ∷ more)

    others : allowance (before ++ more) ≡ allowance before + allowance more
    others = allowance-append before more

    with_it : user_reply d (before ++ x ∷ more) last ≡ (deliver d n (user_after d n (first_user d) (before ++ x ∷ more)) last).reply
    with_it = reply_with_fuel d n (before ++ x ∷ more) last (omega (arith, all))

    without_it : user_reply d (before ++ more) last ≡ (deliver d n (user_after d n (first_user d) (before ++ more)) last).reply
    without_it = reply_with_fuel d n (before ++ more) last (omega (arith, others))

    stays : (deliver d n first x).user ≡ first
    stays = refused_leaves_user d n first x (ap is_refusal (sym (reply_with_fuel d n before x (omega arith))) ∙ e)

    same : user_after d n (first_user d) (before ++ x ∷ more) ≡ user_after d n (first_user d) (before ++ more)
    same =
        user_after-append d n (first_user d) before (x ∷ more)
        ∙ ap (λ (u : User). user_after d n u more) stays
        ∙ sym (user_after-append d n (first_user d) before more)

-- the same of bytes
pub replies_without : (d : Driver) (before : List (List ℕ)) (x : List ℕ) (more : List (List ℕ)) (last : List ℕ) → is_refusal (user_reply d (readings before) (reading_of x)) ≡ true
    → user_reply_to_bytes d (before ++ x ∷ more) last ≡ user_reply_to_bytes d (before ++ more) last
unfolding user_reply_to_bytes
replies_without d before x more last e =
    ap (λ (rs : List Reading). text (user_reply d rs (reading_of last))) (readings-append before (x ∷ more))
    ∙ ap text (reply_without d (readings before) (reading_of x) (readings more) (reading_of last) e)
    ∙ sym (ap (λ (rs : List Reading). text (user_reply d rs (reading_of last))) (readings-append before more))
