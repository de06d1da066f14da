-- Messages are read exactly where they are spelled.
use Rattle.std.proofs.Common.{◌≡◌, ℕ, ◌+◌, ◌^◌, ◌<◌, true, cond, List, [], ◌++◌, length, Result, Ok, Err, refl, sym, ap, subst, ◌∙◌, arith}
use Rattle.std.specs.Prelude.{◌==◌}
use Rattle.std.proofs.lemmas.Bool.{eqb-true}
use Rattle.std.proofs.lemmas.List.{append-nil, nil_from_length}
use Rattle.mdr_core.specs.declared.refusal.RefuseKind.TheVariants as refusal
use Rattle.mdr_model.specs.declared.message.Message.{Message}
use Rattle.mdr_model.specs.declared.message.Message.TheVariants as message
use Rattle.mdr_model.specs.declared.reply.Reply.TheVariants as replies
use Rattle.mdr_model.specs.declared.message.Fault.{Fault}
use Rattle.mdr_model.specs.Faults.{fault}
use Rattle.mdr_model.specs.Xdr.{Input, Read, ◌>>=◌, four, four_at}
use Rattle.mdr_model.specs.Text.{reply_text, text}
use Rattle.mdr_model.specs.Reading.{made, message_by, message_at, reading_of}
use Rattle.mdr_xdr.specs.Bytes.{IsBytes}
use Rattle.mdr_xdr.proofs.Readers.{bind_ok, holds_ok, input_is, from, IsReader}
use Rattle.mdr_xdr.proofs.Numbers.{four_reader}
use Rattle.mdr_xdr.proofs.Sequences.{TakesSome, last_takes, Again, last_again, IsText, made_reader, fault_takes, cond_takes, chosen_takes, chosen_again}
use Rattle.std.specs.Prelude.{IfOk}
use Rattle.mdr_msg.specs.declared.error.MsgError.{MsgError}
use Rattle.mdr_msg.specs.Decoding.{Reads}
use Rattle.mdr_msg.specs.WellFormed.{IsMessage}
use Rattle.mdr_msg.proofs.PayloadReaders.{call_reader, return_reader, down_reader, back_reader, ask_reader, answer_reader, stop_reader}

-- behind a kind, the rest of a message's text
abbrev IsBehind : ℕ → List ℕ → Message → Type 0
IsBehind kind t m = IsText text IsMessage (four kind ++ t) m

-- a payload behind its kind is a message
payload_takes : {A : Type 0} {reader : Input → Read A} {spelled : A → List ℕ} {Fits : A → Type 0} (kind : ℕ) (make : A → Message)
    → IsReader reader spelled Fits → ((payload : A) → Fits payload → IsBehind kind (spelled payload) (make payload)) → TakesSome (made make reader) (IsBehind kind)
payload_takes kind make reader is = last_takes make reader is

at_kind : {r : Input → Read Message} (kind n : ℕ) → (kind == n) ≡ true → TakesSome r (IsBehind n) → TakesSome r (IsBehind kind)
at_kind {r} kind n e h = subst (λ (k : ℕ). TakesSome r (IsBehind k)) (sym (eqb-true kind n e)) h

message_takes : (kind at : ℕ) → TakesSome (message_by kind at) (IsBehind kind)
unfolding message_by text reply_text
message_takes kind at =
    cond_takes (kind == 1) (λ e. at_kind kind 1 e (payload_takes 1 (λ call. message.Call call) call_reader (λ call h. record { is = refl; fits = h }))) (λ _.
    cond_takes (kind == 2) (λ e. at_kind kind 2 e (payload_takes 2 (λ return. message.Reply (replies.Return return)) return_reader (λ return h. record { is = refl; fits = h }))) (λ _.
    cond_takes (kind == 3) (λ e. at_kind kind 3 e (payload_takes 3 (λ down. message.Reply (replies.Down down)) down_reader (λ down h. record { is = refl; fits = h }))) (λ _.
    cond_takes (kind == 4) (λ e. at_kind kind 4 e (payload_takes 4 (λ back. message.Back back) back_reader (λ back h. record { is = refl; fits = h }))) (λ _.
    cond_takes (kind == 5) (λ e. at_kind kind 5 e (payload_takes 5 (λ ask. message.Reply (replies.Ask ask)) ask_reader (λ ask h. record { is = refl; fits = h }))) (λ _.
    cond_takes (kind == 6) (λ e. at_kind kind 6 e (payload_takes 6 (λ answer. message.Answer answer) answer_reader (λ answer h. record { is = refl; fits = h }))) (λ _.
    cond_takes (kind == 7) (λ e. at_kind kind 7 e (payload_takes 7 (λ stop. message.Reply (replies.Stop stop)) stop_reader (λ stop h. record { is = refl; fits = h }))) (λ _.
    cond_takes (kind == 8) (λ e. at_kind kind 8 e (payload_takes 8 (λ reason. message.Refuse reason) four_reader (λ reason h. record { is = refl; fits = h }))) (λ _.
    fault_takes (fault refusal.Kind at)))))))))

abbrev next : ℕ → ℕ × Input → Read Message
next at kind = message_by kind.0 at kind.1

-- a message is read behind its kind
behind : (kind : ℕ) (m : Message) (more : List ℕ) → kind < 2 ^ 32 → ((at : ℕ) → Again (λ i. message_by kind at i) m more) → four kind ++ more ≡ text m → Again message_at m (text m)
unfolding message_at
behind kind m more lt h is = subst (λ (t : List ℕ). Again (λ i. four_at i >>= next i.at) m t) is (chosen_again next four_reader kind lt h)

message_again : (m : Message) → IsMessage m → Again message_at m (text m)
unfolding message_by text reply_text
message_again (message.Call call) h = behind 1 (message.Call call) _ (omega arith) (λ offset. last_again _ call_reader call h) refl
message_again (message.Reply (replies.Return return)) h = behind 2 (message.Reply (replies.Return return)) _ (omega arith) (λ offset. last_again _ return_reader return h) refl
message_again (message.Reply (replies.Down down)) h = behind 3 (message.Reply (replies.Down down)) _ (omega arith) (λ offset. last_again _ down_reader down h) refl
message_again (message.Back back) h = behind 4 (message.Back back) _ (omega arith) (λ offset. last_again _ back_reader back h) refl
message_again (message.Reply (replies.Ask ask)) h = behind 5 (message.Reply (replies.Ask ask)) _ (omega arith) (λ offset. last_again _ ask_reader ask h) refl
message_again (message.Answer answer) h = behind 6 (message.Answer answer) _ (omega arith) (λ offset. last_again _ answer_reader answer h) refl
message_again (message.Reply (replies.Stop stop)) h = behind 7 (message.Reply (replies.Stop stop)) _ (omega arith) (λ offset. last_again _ stop_reader stop h) refl
message_again (message.Refuse reason) h = behind 8 (message.Refuse reason) _ (omega arith) (λ offset. last_again _ four_reader reason h) refl

pub message_reader : IsReader message_at text IsMessage
unfolding message_at
message_reader = made_reader (chosen_takes next four_reader (λ at kind lt. message_takes kind at)) (λ m h. message_again m h)

-- ---- all of the bytes

all_taken : (m n : Message) (i : Input) → cond (length i.bytes == 0) (Ok m) (Err (fault refusal.Trailing i.at)) ≡ Ok n → (i.bytes ≡ []) × (m ≡ n)
all_taken m n i e = let g = holds_ok (length i.bytes == 0) (fault refusal.Trailing i.at) m n e in (nil_from_length i.bytes (eqb-true _ _ g.0), g.1)

pub reading_takes : (bytes : List ℕ) (m : Message) → IsBytes bytes → reading_of bytes ≡ Ok m → IsMessage m × (bytes ≡ text m)
unfolding reading_of
reading_takes bytes m fits e =
    let a = bind_ok (message_at (from 0 bytes)) (λ x. cond (length x.1.bytes == 0) (Ok x.0) (Err (fault refusal.Trailing x.1.at))) m e in
    let taken = message_reader.takes (from 0 bytes) a.0.1 a.0.0 fits a.1 in
    let rest = all_taken a.0.0 m a.0.1 a.2 in
    let whole : bytes ≡ text a.0.0 = taken.0.parts ∙ ap (λ (r : List ℕ). text a.0.0 ++ r) rest.0 ∙ append-nil (text a.0.0) in
    subst (λ (n : Message). IsMessage n × (bytes ≡ text n)) rest.1 (taken.1, whole)

pub reading_again : (m : Message) → IsMessage m → reading_of (text m) ≡ Ok m
unfolding reading_of
reading_again m fits =
    let read : message_at (from 0 (text m)) ≡ Ok (m, from (0 + length (text m)) []) =
    ap (λ (t : List ℕ). message_at (from 0 t)) (sym (append-nil (text m))) ∙ message_reader.again m 0 [] fits in
    rw read refl

pub is_found : (bytes : List ℕ) (r : Result Message MsgError) → IsBytes bytes → Reads r (reading_of bytes) → IfOk r (λ m. IsMessage m × (bytes ≡ text m))
is_found bytes (Ok m) fits read = reading_takes bytes m fits read
is_found bytes (Err e) fits read = tt

pub is_only : (bytes : List ℕ) (r : Result Message MsgError) → Reads r (reading_of bytes) → (m : Message) → IsMessage m → bytes ≡ text m → Reads r (Ok m)
is_only bytes r read m fits is = subst (λ (f : Result Message Fault). Reads r f) (ap reading_of is ∙ reading_again m fits) read

-- ---- one spelling

pub one_message : (m n : Message) → IsMessage m → IsMessage n → text m ≡ text n → m ≡ n
one_message m n p q e = ok_is (sym (reading_again m p) ∙ ap reading_of e ∙ reading_again n q)
  where
    ok_is : {A : Type 0} {x y : A} → ◌≡◌ {A = Result A Fault} (Ok x) (Ok y) → x ≡ y
    ok_is h = cc

pub no_prefix : (m n : Message) (rest : List ℕ) → IsMessage m → IsMessage n → text m ++ rest ≡ text n → rest ≡ []
no_prefix m n rest p q e =
    let long = message_reader.again m 0 rest p in
    let short = message_reader.again n 0 [] q in
    let same : message_at (from 0 (text m ++ rest)) ≡ message_at (from 0 (text n ++ [])) = ap (λ (t : List ℕ). message_at (from 0 t)) (e ∙ sym (append-nil (text n))) in
    ap (λ (i : Input). i.bytes) (input_is m n (from (0 + length (text m)) rest) (from (0 + length (text n)) []) (sym long ∙ same ∙ short))
