-- The lines of a transcript are those that are printed of its exchanges.
use Rattle.std.proofs.Common.{◌≡◌, ℕ, ◌+◌, inl, inr, List, [], ◌∷◌, ◌++◌, length, Option, Some, None, refl, sym, ap, ◌∙◌, append_assoc, arith, codes}
use Rattle.std.specs.Prelude.{decimal}
use Rattle.std.proofs.lemmas.List.{append-nil}
use Rattle.mdr_exchanges.specs.Runs.{answers_of, sent_of, then_answers}
use Rattle.mdr_outside.specs.declared.far.Exchange.{Exchange}
use Rattle.mdr_plain.specs.Report.{hex}
use Rattle.mdr_top.specs.Messages.{answer_line, bytes_line, lines_of, messages_by, messages_in, messages_shown}
use Rattle.mdr_verify.specs.Transcripts.{AreInTurn, count_text, message_lines, sent_text}

-- behind an exchange messages and answers still come in turn
turns_on : (m a : List ℕ) (sent got : List (List ℕ)) → AreInTurn (m ∷ sent) (a ∷ got) → AreInTurn sent got
turns_on m a sent got (inl e) = inl (omega (arith, e))
turns_on m a sent got (inr e) = inr (omega (arith, e))

-- behind a message without an answer there is none
no_more : {A : Type 0} (m x : List ℕ) (sent : List (List ℕ)) → AreInTurn (m ∷ x ∷ sent) [] → A
no_more m x sent (inl e) = absurd (omega (arith, e))
no_more m x sent (inr e) = absurd (omega (arith, e))

last_line : (h rest : List ℕ) → h ++ 10 ∷ rest ≡ (((h ++ 10 ∷ []) ++ []) ++ []) ++ rest
last_line h rest = sym (ap (λ (xs : List ℕ). (xs ++ []) ++ rest) (append-nil (h ++ 10 ∷ [])) ∙ ap (λ (xs : List ℕ). xs ++ rest) (append-nil (h ++ 10 ∷ [])) ∙ append_assoc h (10 ∷ []) rest)

two_lines : (h a more rest : List ℕ) → h ++ 10 ∷ 60 ∷ 32 ∷ (a ++ 10 ∷ (more ++ rest)) ≡ (((h ++ 10 ∷ []) ++ (60 ∷ 32 ∷ (a ++ 10 ∷ []))) ++ more) ++ rest
two_lines h a more rest =
    sym (append_assoc ((h ++ 10 ∷ []) ++ (60 ∷ 32 ∷ (a ++ 10 ∷ []))) more rest ∙ append_assoc (h ++ 10 ∷ []) (60 ∷ 32 ∷ (a ++ 10 ∷ [])) (more ++ rest)
    ∙ append_assoc h (10 ∷ []) ((60 ∷ 32 ∷ (a ++ 10 ∷ [])) ++ (more ++ rest)) ∙ ap (λ (ys : List ℕ). h ++ 10 ∷ 60 ∷ 32 ∷ ys) (append_assoc a (10 ∷ []) (more ++ rest)))

pub lines_so : (es : List Exchange) (rest : List ℕ) → AreInTurn (sent_of es) (answers_of es) → message_lines (sent_of es) (answers_of es) rest ≡ lines_of es ++ rest
unfolding lines_of
lines_so [] rest turns = refl
lines_so (e ∷ es) rest turns = of e.got turns (λ later. lines_so es rest later)
  where
    last : (xs : List Exchange) → AreInTurn (e.sent ∷ sent_of xs) [] → sent_text e.sent ++ 10 ∷ rest ≡ ((bytes_line (codes "> ") e.sent ++ []) ++ lines_of xs) ++ rest
    last [] turns' = ap (λ (bs : List ℕ). 62 ∷ 32 ∷ bs) (last_line (hex e.sent) rest)
    last (x ∷ xs) turns' = no_more e.sent x.sent (sent_of xs) turns'

    of : (got : Option (List ℕ)) → AreInTurn (e.sent ∷ sent_of es) (then_answers got (answers_of es)) → (AreInTurn (sent_of es) (answers_of es) → message_lines (sent_of es) (answers_of es) rest ≡ lines_of es ++ rest)
        → message_lines (e.sent ∷ sent_of es) (then_answers got (answers_of es)) rest ≡ ((bytes_line (codes "> ") e.sent ++ answer_line got) ++ lines_of es) ++ rest
    of None turns' later = last es turns'
    of (Some a) turns' later =
        ap (λ (bs : List ℕ). 62 ∷ 32 ∷ (hex e.sent ++ 10 ∷ 60 ∷ 32 ∷ (hex a ++ 10 ∷ bs))) (later (turns_on e.sent a (sent_of es) (answers_of es) turns'))
        ∙ ap (λ (bs : List ℕ). 62 ∷ 32 ∷ bs) (two_lines (hex e.sent) (hex a) (lines_of es) rest)

pub count_so : (es : List Exchange) → AreInTurn (sent_of es) (answers_of es) → length (sent_of es) + length (answers_of es) ≡ messages_in es
unfolding messages_in
count_so [] turns = refl
count_so (e ∷ es) turns = of e.got turns (λ later. count_so es later)
  where
    last : (xs : List Exchange) → AreInTurn (e.sent ∷ sent_of xs) [] → length (e.sent ∷ sent_of xs) + 0 ≡ 1 + messages_in xs
    last [] turns' = refl
    last (x ∷ xs) turns' = no_more e.sent x.sent (sent_of xs) turns'

    of : (got : Option (List ℕ)) → AreInTurn (e.sent ∷ sent_of es) (then_answers got (answers_of es)) → (AreInTurn (sent_of es) (answers_of es) → length (sent_of es) + length (answers_of es) ≡ messages_in es)
        → length (e.sent ∷ sent_of es) + length (then_answers got (answers_of es)) ≡ messages_by got + messages_in es
    of None turns' later = last es turns'
    of (Some a) turns' later = let n = later (turns_on e.sent a (sent_of es) (answers_of es) turns') in omega (arith, n)

-- the lines of the messages, and their number
pub shown_so : (es : List Exchange) → AreInTurn (sent_of es) (answers_of es) → message_lines (sent_of es) (answers_of es) (count_text (length (sent_of es) + length (answers_of es)) ++ 10 ∷ []) ≡ messages_shown es
unfolding messages_shown
shown_so es turns =
    lines_so es (count_text (length (sent_of es) + length (answers_of es)) ++ 10 ∷ []) turns
    ∙ ap (λ (n : ℕ). lines_of es ++ (count_text n ++ 10 ∷ [])) (count_so es turns)
    ∙ ap (λ (bs : List ℕ). lines_of es ++ bs) (append_assoc (codes "messages ") (decimal (messages_in es)) (10 ∷ []))
