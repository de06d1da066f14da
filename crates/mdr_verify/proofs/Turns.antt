-- A message more.
use Rattle.std.proofs.Common.{◌≡◌, ℕ, true, ◌&&◌, ◌+◌, List, [], ◌∷◌, ◌++◌, length, refl, ap, ◌∙◌, arith, length-append}
use Rattle.std.specs.List.{list_all}
use Rattle.std.proofs.lemmas.List.Folds.{list_all-append}
use Rattle.mdr_verify.specs.Transcripts.{is_byte, AreBytes, AreMessages, sent_text, got_text, message_lines}
use Rattle.mdr_verify.proofs.Pairs.{both_true}

pub one_more : (messages : List (List ℕ)) (m : List ℕ) → AreMessages messages → AreBytes m → AreMessages (messages ++ m ∷ [])
one_more messages m h b =
    list_all-append (λ message. list_all is_byte message) messages (m ∷ [])
    ∙ both_true (list_all (λ message. list_all is_byte message) messages) (list_all is_byte m && true) h (both_true (list_all is_byte m) true b refl)

pub length_more : (messages : List (List ℕ)) (m : List ℕ) → length (messages ++ m ∷ []) ≡ length messages + 1
length_more messages m = let e = length-append messages (m ∷ []) in omega (arith, e)

pub sent_more : (sent got : List (List ℕ)) (m rest : List ℕ) → length sent ≡ length got → message_lines (sent ++ m ∷ []) got rest ≡ message_lines sent got (sent_text m ++ 10 ∷ rest)
sent_more [] [] m rest e = refl
sent_more [] (a ∷ got) m rest e = absurd (omega (arith, e))
sent_more (x ∷ sent) [] m rest e = absurd (omega (arith, e))
sent_more (x ∷ sent) (a ∷ got) m rest e = ap (λ bs. sent_text x ++ 10 ∷ (got_text a ++ 10 ∷ bs)) (sent_more sent got m rest (omega (arith, e)))

pub got_more : (sent got : List (List ℕ)) (m rest : List ℕ) → length sent ≡ length got + 1 → message_lines sent (got ++ m ∷ []) rest ≡ message_lines sent got (got_text m ++ 10 ∷ rest)
got_more [] got m rest e = absurd (omega (arith, e))
got_more (x ∷ []) [] m rest e = refl
got_more (x ∷ y ∷ sent) [] m rest e = absurd (omega (arith, e))
got_more (x ∷ sent) (a ∷ got) m rest e = ap (λ bs. sent_text x ++ 10 ∷ (got_text a ++ 10 ∷ bs)) (got_more sent got m rest (omega (arith, e)))
