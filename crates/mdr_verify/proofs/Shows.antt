-- What a line shows.
use Rattle.std.proofs.Common.{◌≡◌, ℕ, Bool, true, false, cond, ◌&&◌, ◌==◌, List, [], ◌∷◌, Option, Some, None, refl, sym, ap, subst, ◌∙◌}
use Rattle.std.proofs.lemmas.Bool.Decides.{Decides-eqb}
use Rattle.mdr_plain.specs.Report.{hex}
use Rattle.mdr_verify.specs.declared.line.Line.{Line}
use Rattle.mdr_verify.specs.declared.line.Line.TheVariants as line
use Rattle.mdr_verify.specs.Transcripts.{AreBytes, sent_text, got_text, count_text, ShowsMessage}
use Rattle.mdr_verify.specs.Transcripts.ShowsMessage.{Sent, Got}
use Rattle.mdr_verify.specs.Digits.{are_pairs, bytes_of, message_of}
use Rattle.mdr_verify.specs.Lines.{behind_mark, sent_by, got_by, line_by, line_at}
use Rattle.mdr_verify.proofs.Pairs.{both, shown_again, pairs_again}

pub some_same : {A : Type 0} (x y : A) → Some x ≡ Some y → x ≡ y
some_same x y e = cc

-- ---- lines of messages

message_again : (message : List ℕ) → AreBytes message → message_of (hex message) ≡ Some message
message_again message h =
    let d = shown_again message h in
    ap (λ t. cond t (Some (bytes_of (hex message))) None) d.pairs ∙ ap Some d.bytes

pub sent_shown : (message : List ℕ) → AreBytes message → line_at (sent_text message) ≡ line.Sent message
sent_shown message h = ap sent_by (message_again message h)

pub got_shown : (message : List ℕ) → AreBytes message → line_at (got_text message) ≡ line.Got message
got_shown message h = ap got_by (message_again message h)

-- ---- other lines

pub count_shown : (n : ℕ) → line_at (count_text n) ≡ line.Other
count_shown n = refl

-- ---- what the lines say

pub data Seen (bytes : List ℕ) : Line → Type 0 where
  OfSent : (message : List ℕ) → AreBytes message → bytes ≡ sent_text message → Seen bytes (line.Sent message)
  OfGot : (message : List ℕ) → AreBytes message → bytes ≡ got_text message → Seen bytes (line.Got message)
  OfOther : Seen bytes line.Other

mark_is : (mark : ℕ) (bytes digits : List ℕ) → behind_mark mark bytes ≡ Some digits → bytes ≡ mark ∷ 32 ∷ digits
mark_is mark [] digits e = let q : None ≡ Some digits = e in absurd (Prim.cc)
mark_is mark (a ∷ []) digits e = let q : None ≡ Some digits = e in absurd (Prim.cc)
mark_is mark (a ∷ b ∷ rest) digits e = on (a == mark && b == 32) refl e
  where
    on : (t : Bool) → (a == mark && b == 32) ≡ t → cond t (Some rest) None ≡ Some digits → a ∷ b ∷ rest ≡ mark ∷ 32 ∷ digits
    on true q f =
        let p = both (a == mark) (b == 32) q in
        let x : a ≡ mark = (Decides-eqb a mark).0 p.0 in
        let y : b ≡ 32 = (Decides-eqb b 32).0 p.1 in
        let z : rest ≡ digits = some_same rest digits f in
        rw (x, y, z) refl
    on false q f = let n : None ≡ Some digits = f in absurd (Prim.cc)

pub seen : (bytes : List ℕ) → Seen bytes (line_at bytes)
seen bytes = on (behind_mark 62 bytes) (behind_mark 60 bytes) refl refl
  where
    of_sent : (digits : List ℕ) (t : Bool) → are_pairs digits ≡ t → bytes ≡ 62 ∷ 32 ∷ digits → Seen bytes (sent_by (cond t (Some (bytes_of digits)) None))
    of_sent digits true q e = let d = pairs_again digits q in OfSent (bytes_of digits) d.are (e ∙ ap (λ ds. 62 ∷ 32 ∷ ds) (sym d.shown))
    of_sent digits false q e = OfOther

    of_got : (digits : List ℕ) (t : Bool) → are_pairs digits ≡ t → bytes ≡ 60 ∷ 32 ∷ digits → Seen bytes (got_by (cond t (Some (bytes_of digits)) None))
    of_got digits true q e = let d = pairs_again digits q in OfGot (bytes_of digits) d.are (e ∙ ap (λ ds. 60 ∷ 32 ∷ ds) (sym d.shown))
    of_got digits false q e = OfOther

    on : (o p : Option (List ℕ)) → behind_mark 62 bytes ≡ o → behind_mark 60 bytes ≡ p → Seen bytes (line_by o p)
    on (Some digits) p e f = of_sent digits (are_pairs digits) refl (mark_is 62 bytes digits e)
    on None (Some digits) e f = of_got digits (are_pairs digits) refl (mark_is 60 bytes digits f)
    on None None e f = OfOther

-- a line of which nothing is read shows no message
pub other_shows_none : (bytes : List ℕ) → line_at bytes ≡ line.Other → ShowsMessage bytes → ⊥
other_shows_none _ e (Sent message h) = let q : line.Sent message ≡ line.Other = sym (sent_shown message h) ∙ e in absurd (Prim.cc)
other_shows_none _ e (Got message h) = let q : line.Got message ≡ line.Other = sym (got_shown message h) ∙ e in absurd (Prim.cc)

-- of a line that shows no message nothing is read
pub none_shown : (bytes : List ℕ) → (ShowsMessage bytes → ⊥) → line_at bytes ≡ line.Other
none_shown bytes h = on (line_at bytes) (seen bytes) refl
  where
    on : (l : Line) → Seen bytes l → line_at bytes ≡ l → line_at bytes ≡ line.Other
    on _ (OfSent message are e) q = absurd (h (subst ShowsMessage (sym e) (Sent message are)))
    on _ (OfGot message are e) q = absurd (h (subst ShowsMessage (sym e) (Got message are)))
    on _ OfOther q = q
