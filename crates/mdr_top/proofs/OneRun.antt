-- Exchanges with honest far sides that lead a run to its end are one list.
use Rattle.std.proofs.Common.{◌≡◌, ℕ, List, [], ◌∷◌, ◌++◌, map, Option, Some, None, refl, sym, ap, ◌∙◌, subst}
use Rattle.std.specs.Prelude.{IfSome}
use Rattle.mdr_exchanges.specs.Meanings.{Honest}
use Rattle.mdr_exchanges.specs.Runs.{answers_of, sent_of, then_answers}
use Rattle.mdr_model.specs.Bytes.{readings}
use Rattle.mdr_model.specs.declared.command.Command.{Command}
use Rattle.mdr_model.specs.declared.message.Message.{Message}
use Rattle.mdr_model.specs.Reading.{reading_of}
use Rattle.mdr_model.specs.Text.{text}
use Rattle.mdr_outside.specs.declared.far.Exchange.{Exchange}
use Rattle.mdr_over_bytes.specs.OverBytes.{IsHonestReply, user_reply_to_bytes}
use Rattle.mdr_split.specs.Kernel.{SplitRun, next, run_from_pending}
use Rattle.mdr_split.specs.State.{Kernel, Open, Over, Pending, Rest, Waits}
use Rattle.mdr_watched.specs.Driver.{Driver}

-- it waits for no answer
abbrev pub IsOver : Pending → Type 0
IsOver (Over end k) = Unit {0}
IsOver (Waits m k upcall rest cs) = ⊥

heads : {A : Type 0} (x y : A) (xs ys : List A) → x ∷ xs ≡ y ∷ ys → x ≡ y
heads x y xs ys e = Prim.cc

tails : {A : Type 0} (x y : A) (xs ys : List A) → x ∷ xs ≡ y ∷ ys → xs ≡ ys
tails x y xs ys e = Prim.cc

nothing_sent : (es : List Exchange) → sent_of es ≡ [] → es ≡ []
nothing_sent [] e = refl
nothing_sent (x ∷ es) e = absurd (Prim.cc)

same_exchange : (e x : Exchange) → e.sent ≡ x.sent → e.got ≡ x.got → e ≡ x
same_exchange e x sent got = λ i. record { sent = sent i; got = got i }

module _ (d user : Driver) where
  -- from a state on these are the run's messages, the run is over behind them, and the answers are the user half's
  pub record Leads (before : List (List ℕ)) (p : Pending) (es : List Exchange) : Type 0 where
    pub sent : sent_of es ≡ map text (run_from_pending d (readings (answers_of es)) p).sent
    pub over : IsOver (run_from_pending d (readings (answers_of es)) p).pending
    pub honest : Honest user before es

  -- where the run waits, the first exchange is its message and the answer to it
  record Goes (before : List (List ℕ)) (m : Message) (k : Kernel) (upcall : Open) (rest : Rest) (cs : List Command) (e : Exchange) (es : List Exchange) : Type 0 where
    answer : List ℕ
    got_is : e.got ≡ Some answer
    sent_is : e.sent ≡ text m
    reply : answer ≡ user_reply_to_bytes user before e.sent
    later : Leads (before ++ e.sent ∷ []) (next d (reading_of answer) k upcall rest cs) es

  goes : (before : List (List ℕ)) (m : Message) (k : Kernel) (upcall : Open) (rest : Rest) (cs : List Command) (e : Exchange) (es : List Exchange) → Leads before (Waits m k upcall rest cs) (e ∷ es) → Goes before m k upcall rest cs e es
  unfolding run_from_pending
  goes before m k upcall rest cs e es leads = of e.got refl leads.sent leads.over leads.honest.0
    where
      of : (got : Option (List ℕ)) → e.got ≡ got → e.sent ∷ sent_of es ≡ map text (run_from_pending d (readings (then_answers got (answers_of es))) (Waits m k upcall rest cs)).sent
          → IsOver (run_from_pending d (readings (then_answers got (answers_of es))) (Waits m k upcall rest cs)).pending → IfSome got (λ reply. IsHonestReply user before e.sent reply) → Goes before m k upcall rest cs e es
      of None is sent over honest = absurd over
      of (Some a) is sent over honest =
          let later : SplitRun = run_from_pending d (readings (answers_of es)) (next d (reading_of a) k upcall rest cs) in
          record {
            answer = a;
            got_is = is;
            sent_is = heads e.sent (text m) (sent_of es) (map text later.sent) sent;
            reply = honest.bytes;
            later = record { sent = tails e.sent (text m) (sent_of es) (map text later.sent) sent; over = over; honest = leads.honest.1 };
          }

  pub one : (before : List (List ℕ)) (p : Pending) (es xs : List Exchange) → Leads before p es → Leads before p xs → es ≡ xs
  unfolding run_from_pending
  one before (Over end k) es xs f g = nothing_sent es f.sent ∙ sym (nothing_sent xs g.sent)
  one before (Waits m k upcall rest cs) [] xs f g = absurd f.over
  one before (Waits m k upcall rest cs) (e ∷ es) [] f g = absurd g.over
  one before (Waits m k upcall rest cs) (e ∷ es) (x ∷ xs) f g =
      let a : Goes before m k upcall rest cs e es = goes before m k upcall rest cs e es f in
      let b : Goes before m k upcall rest cs x xs = goes before m k upcall rest cs x xs g in
      let sent : e.sent ≡ x.sent = a.sent_is ∙ sym b.sent_is in
      let answers : a.answer ≡ b.answer = a.reply ∙ ap (λ (s : List ℕ). user_reply_to_bytes user before s) sent ∙ sym b.reply in
      let got : e.got ≡ x.got = a.got_is ∙ ap (λ (s : List ℕ). Some s) answers ∙ sym b.got_is in
      let later : Leads (before ++ e.sent ∷ []) (next d (reading_of a.answer) k upcall rest cs) xs =
      subst (λ (s : List ℕ). Leads (before ++ s ∷ []) (next d (reading_of a.answer) k upcall rest cs) xs) (sym sent)
      (subst (λ (s : List ℕ). Leads (before ++ x.sent ∷ []) (next d (reading_of s) k upcall rest cs) xs) (sym answers) b.later) in
      let first : e ≡ x = same_exchange e x sent got in
      let others : es ≡ xs = one (before ++ e.sent ∷ []) (next d (reading_of a.answer) k upcall rest cs) es xs a.later later in
      λ i. first i ∷ others i
