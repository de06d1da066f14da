-- What is stripped from the front of a text, and the word there.
use Rattle.std.proofs.Common.{◌≡◌, ℕ, suc, Bool, true, false, cond, ◌==◌, ◌+◌, List, [], ◌∷◌, ◌++◌, length, take, Option, Some, None, refl, sym, ap, ◌∙◌, arith, MatchOption, ◌≢◌, option_map, Bor}
use Rattle.std.specs.List.{prefix_len}
use Rattle.std.proofs.lemmas.Bool.Decides.{Decides-eqb}
use Rattle.std.proofs.lemmas.List.{take_at, drop_at, take-append-drop}
use Rattle.std.proofs.lemmas.List.Folds.{prefix_len-append, length-prefix_len}
use Rattle.mdr_syntax.specs.Bytes.{is_name_byte}
use Rattle.mdr_plan.specs.Front.{strip, word_at}

same_byte : (b : ℕ) → (b == b) ≡ true
same_byte b = (Decides-eqb b b).1 refl

pub strip_again : (front rest : List ℕ) → strip front (front ++ rest) ≡ Some rest
strip_again [] rest = refl
strip_again (f ∷ front) rest = rw (same_byte f) (strip_again front rest)

strip_step : (f b : ℕ) (front bytes rest : List ℕ) (t : Bool) → (f == b) ≡ t → (strip front bytes ≡ Some rest → bytes ≡ front ++ rest) → cond t (strip front bytes) None ≡ Some rest → b ∷ bytes ≡ f ∷ (front ++ rest)
strip_step f b front bytes rest true q h e = let s : f ≡ b = (Decides-eqb f b).0 q in rw (s, h e) refl
strip_step f b front bytes rest false q h e = let n : None ≡ Some rest = e in absurd (Prim.cc)

pub strip_is : (front bytes rest : List ℕ) → strip front bytes ≡ Some rest → bytes ≡ front ++ rest
strip_is [] bytes rest e = let f : bytes ≡ rest = cc in f
strip_is (f ∷ front) [] rest e = let n : None ≡ Some rest = e in absurd (Prim.cc)
strip_is (f ∷ front) (b ∷ bytes) rest e = strip_step f b front bytes rest (f == b) refl (strip_is front bytes rest) e

strip_none_by : (front bytes : List ℕ) → ((rest : List ℕ) → bytes ≢ front ++ rest) → (o : Option (List ℕ)) → strip front bytes ≡ o → o ≡ None
strip_none_by front bytes h None e = refl
strip_none_by front bytes h (Some rest) e = absurd (h rest (strip_is front bytes rest e))

pub strip_none : (front bytes : List ℕ) → ((rest : List ℕ) → bytes ≢ front ++ rest) → strip front bytes ≡ None
strip_none front bytes h = strip_none_by front bytes h (strip front bytes) refl

pub stripped : (bytes front : List ℕ) (r : Option (Bor (List ℕ))) → MatchOption r ((rest : List ℕ) → bytes ≢ front ++ rest) (λ x. bytes ≡ front ++ x.now) → option_map (λ (x : Bor (List ℕ)). x.now) r ≡ strip front bytes
stripped bytes front None h = sym (strip_none front bytes h)
stripped bytes front (Some x) h = sym (strip_again front x.now) ∙ ap (strip front) (sym h)

-- ---- words

-- a word, and what can't continue one
pub record IsWord (word : List ℕ) : Type 0 where
  pub whole : prefix_len is_name_byte word ≡ length word

pub record IsBreak (rest : List ℕ) : Type 0 where
  pub none : prefix_len is_name_byte rest ≡ 0

word_len : (word rest : List ℕ) → IsWord word → IsBreak rest → prefix_len is_name_byte (word ++ rest) ≡ length word
word_len word rest w b = prefix_len-append is_name_byte word rest ∙ rw (w.whole, same_byte (length word), b.none) (omega arith)

pub word_again : (word rest : List ℕ) → IsWord word → IsBreak rest → word_at (word ++ rest) ≡ (word, rest)
unfolding word_at
word_again word rest w b = rw (word_len word rest w b, take_at word rest (length word) refl, drop_at word rest (length word) refl) refl

pub word_is : (bytes : List ℕ) → bytes ≡ (word_at bytes).0 ++ (word_at bytes).1
unfolding word_at
word_is bytes = sym (take-append-drop (prefix_len is_name_byte bytes) bytes)

word_front : (bytes : List ℕ) → prefix_len is_name_byte (take (prefix_len is_name_byte bytes) bytes) ≡ prefix_len is_name_byte bytes
word_front [] = refl
word_front (b ∷ bytes) = on (is_name_byte b) (word_front bytes) refl
  where
    on : (t : Bool) → prefix_len is_name_byte (take (prefix_len is_name_byte bytes) bytes) ≡ prefix_len is_name_byte bytes → is_name_byte b ≡ t → prefix_len is_name_byte (take (prefix_len is_name_byte (b ∷ bytes)) (b ∷ bytes)) ≡ prefix_len is_name_byte (b ∷ bytes)
    on true h q = let s : 1 + prefix_len is_name_byte bytes ≡ suc (prefix_len is_name_byte bytes) = omega arith in rw (q, s, q, h) s
    on false h q = rw q refl

pub word_whole : (bytes : List ℕ) → IsWord (word_at bytes).0
unfolding word_at
word_whole bytes = record { whole = word_front bytes ∙ sym (length-prefix_len is_name_byte bytes) }
