-- The tokens that the lexer gives.
use Rattle.std.proofs.Common.{◌≡◌, ℕ, zero, suc, Bool, true, false, Option, Some, None, Result, Ok, Err, ◌+◌, ◌-◌, ◌≤◌, ◌^◌, List, [], ◌∷◌, ◌++◌, length, take, drop, refl, sym, subst, arith}
use Rattle.std.specs.Prelude.{◌==◌, ◌&&◌, ◌||◌, not, nat_le, nat_lt, nat_eq, if◌then◌else◌, slice_index, option_and_then, codes}
use Rattle.std.specs.Char.{is_ascii_digit}
use Rattle.std.specs.Option.{option_map}
use Rattle.std.specs.Str.{bytes_eq}
use Rattle.std.specs.List.{list_all, prefix_len, starts_with}
use Rattle.std.proofs.lemmas.Bool.{false≢true, eqb-true, leb-true, lt-ltb}
use Rattle.mdr_core.specs.declared.kind.Kind.{Kind}
use Rattle.mdr_core.specs.declared.kind.Kind.TheVariants.{S32, U32, S64, U64}
use Rattle.mdr_core.specs.declared.place.Place.{Place}
use Rattle.mdr_syntax.specs.declared.error.LexError.{LexError}
use Rattle.mdr_syntax.specs.declared.error.LexError.TheVariants.{BadByte, BadNumber, OpenComment, OpenText}
use Rattle.mdr_syntax.specs.declared.number.Suffix.{Suffix}
use Rattle.mdr_syntax.specs.declared.piece.Piece.{Piece}
use Rattle.mdr_syntax.specs.declared.quoted.Part.{Part}
use Rattle.mdr_syntax.specs.declared.quoted.Part.TheVariants.{Byte, Backslash, Close, Wrong}
use Rattle.mdr_syntax.specs.declared.token.Lexeme.{Lexeme}
use Rattle.mdr_syntax.specs.declared.token.Lexeme.TheVariants as lexeme
use Rattle.mdr_syntax.specs.declared.token.Token.{Token}
use Rattle.mdr_syntax.specs.Bytes.{is_letter, is_name_byte, is_number_byte, is_space, is_plain, in_line}
use Rattle.mdr_syntax.specs.Gives.{◌>>=◌, or_fault}
use Rattle.mdr_syntax.specs.Numbers.{is_digit_of, radix_of, suffix_of, kind_of, value_of, number_of}
use Rattle.mdr_syntax.specs.Pieces.{token_of, gap_of, word_at, number_at, character_piece, text_piece, punctuation_piece, begins_with, close_at, slash_piece, begins_letter, begins_digit, sign_at, skip_blanks, define_head, define_piece, place_right, directive_piece, number_piece, piece_at}
use Rattle.mdr_syntax.specs.Places.{place_after, first_place}
use Rattle.mdr_syntax.specs.Quoted.{escape_of, character_at, part_of, with_part, text_from}
use Rattle.mdr_syntax.specs.Tokens.{is_fresh_after, tokens_of_piece, end_at, tokens_from, tokens_of}
use Rattle.mdr_syntax.specs.Words.{is_reserved, punctuation, front_len, punctuation_len}
use Rattle.mdr_roundtrip.specs.Words.{is_word, is_written, is_writable, is_among}
use Rattle.mdr_roundtrip.specs.PrintableDeclarations.{maybe}
use Rattle.mdr_roundtrip.specs.Whole.{is_defined}
use Rattle.mdr_roundtrip.proofs.Tests.{both, or_right}
use Rattle.mdr_roundtrip.specs.Lexed.{is_lexed, are_lexed}
use Rattle.mdr_roundtrip.proofs.Bools.{also, all_joined}

-- ---- what was found is such

record OkAre {A : Type 0} (p : A → Bool) (r : Result A LexError) : Type 0 where
  by : (x : A) → r ≡ Ok x → p x ≡ true

record SomeAre {A : Type 0} (p : A → Bool) (o : Option A) : Type 0 where
  by : (x : A) → o ≡ Some x → p x ≡ true

ok_are : {A : Type 0} (p : A → Bool) (x : A) → p x ≡ true → OkAre p (Ok x)
ok_are p x h = record { by = λ y e. let s : x ≡ y = Prim.cc in subst (λ z. p z ≡ true) s h }

none_are : {A : Type 0} (p : A → Bool) (e : LexError) → OkAre p (Err e)
none_are p e = record { by = λ y q. absurd (Prim.cc) }

some_are : {A : Type 0} (p : A → Bool) (x : A) → p x ≡ true → SomeAre p (Some x)
some_are p x h = record { by = λ y e. let s : x ≡ y = Prim.cc in subst (λ z. p z ≡ true) s h }

no_some : {A : Type 0} (p : A → Bool) → SomeAre p None
no_some p = record { by = λ y q. absurd (Prim.cc) }

then_are : {A B : Type 0} (p : A → Bool) (q : B → Bool) (r : Result A LexError) (f : A → Result B LexError) → OkAre p r → ((x : A) → p x ≡ true → OkAre q (f x)) → OkAre q (r >>= f)
then_are p q (Ok x) f h g = g x (h.by x refl)
then_are p q (Err e) f h g = none_are q e

and_then_are : {A B : Type 0} (p : A → Bool) (q : B → Bool) (o : Option A) (f : A → Option B) → SomeAre p o → ((x : A) → p x ≡ true → SomeAre q (f x)) → SomeAre q (option_and_then f o)
and_then_are p q (Some x) f h g = g x (h.by x refl)
and_then_are p q None f h g = no_some q

any_some : {A : Type 0} (o : Option A) → SomeAre (λ x. true) o
any_some o = record { by = λ x e. refl }

fault_are : {A : Type 0} (p : A → Bool) (o : Option A) (e : LexError) → SomeAre p o → OkAre p (or_fault o e)
fault_are p (Some x) e h = ok_are p x (h.by x refl)
fault_are p None e h = none_are p e

map_are : {A B : Type 0} (p : A → Bool) (q : B → Bool) (f : A → B) (o : Option A) → SomeAre p o → ((x : A) → p x ≡ true → q (f x) ≡ true) → SomeAre q (option_map f o)
map_are p q f (Some x) h g = some_are q (f x) (g x (h.by x refl))
map_are p q f None h g = no_some q

if_are : {A : Type 0} (p : A → Bool) (b : Bool) (x y : Result A LexError) → (b ≡ true → OkAre p x) → (b ≡ false → OkAre p y) → OkAre p (if b then x else y)
if_are p true x y f g = f refl
if_are p false x y f g = g refl

if_some : {A : Type 0} (p : A → Bool) (b : Bool) (x y : Option A) → (b ≡ true → SomeAre p x) → (b ≡ false → SomeAre p y) → SomeAre p (if b then x else y)
if_some p true x y f g = f refl
if_some p false x y f g = g refl

-- ---- words

front_all : (p : ℕ → Bool) (xs : List ℕ) → list_all p (take (prefix_len p xs) xs) ≡ true
front_all p [] = refl
front_all p (x ∷ xs) = on (p x) refl (front_all p xs)
  where
    on : (b : Bool) → p x ≡ b → list_all p (take (prefix_len p xs) xs) ≡ true → list_all p (take (prefix_len p (x ∷ xs)) (x ∷ xs)) ≡ true
    on true e h =
        let number : prefix_len p (x ∷ xs) ≡ suc (prefix_len p xs) = rw e (omega arith) in
        subst (λ (n : ℕ). list_all p (take n (x ∷ xs)) ≡ true) (sym number) (also (p x) (list_all p (take (prefix_len p xs) xs)) e h)
    on false e h =
        let number : prefix_len p (x ∷ xs) ≡ 0 = rw e refl in
        subst (λ (n : ℕ). list_all p (take n (x ∷ xs)) ≡ true) (sym number) refl

abbrev is_good : Piece → Bool
is_good p = maybe is_lexed p.what

word_is : (bytes : List ℕ) → is_letter (slice_index bytes 0) ≡ true → is_good (word_at bytes) ≡ true
unfolding word_at
word_is [] h = absurd (false≢true h)
word_is (b ∷ bs) h =
    let number : 1 + prefix_len is_name_byte bs ≡ suc (prefix_len is_name_byte bs) = omega arith in
    subst (λ (n : ℕ). is_word (take n (b ∷ bs)) ≡ true) (sym number) (also (is_letter b) (list_all is_name_byte (take (prefix_len is_name_byte bs) bs)) h (front_all is_name_byte bs))

-- ---- numbers

kind_are : (is_decimal : Bool) (s : Suffix) (n : ℕ) → SomeAre (is_written n) (kind_of is_decimal s n)
unfolding kind_of
kind_are is_decimal s n =
    if_some (is_written n) (not s.unsigned && not s.long && nat_lt n (2 ^ 31)) _ _ (λ e. some_are (is_written n) S32 (both (not s.unsigned && not s.long) (nat_lt n (2 ^ 31)) e).1) (λ _.
    if_some (is_written n) (not s.long && (s.unsigned || not is_decimal) && nat_lt n (2 ^ 32)) _ _ (λ e. some_are (is_written n) U32 (both (not s.long && (s.unsigned || not is_decimal)) (nat_lt n (2 ^ 32)) e).1) (λ _.
    if_some (is_written n) (not s.unsigned && nat_lt n (2 ^ 63)) _ _ (λ e. some_are (is_written n) S64 (both (not s.unsigned) (nat_lt n (2 ^ 63)) e).1) (λ _.
    if_some (is_written n) ((s.unsigned || not is_decimal) && nat_lt n (2 ^ 64)) _ _ (λ e. some_are (is_written n) U64 (both (s.unsigned || not is_decimal) (nat_lt n (2 ^ 64)) e).1) (λ _. no_some (is_written n)))))

abbrev is_number : ℕ × Kind → Bool
is_number x = is_written x.0 x.1

number_are : (bytes : List ℕ) → SomeAre is_number (number_of bytes)
unfolding number_of
number_are bytes =
    let r = radix_of bytes in
    let len = prefix_len (is_digit_of r.0) r.1 in
    if_some is_number (len == 0) _ _ (λ _. no_some is_number) (λ _.
    and_then_are (λ x. true) is_number (suffix_of (drop len r.1)) _ (any_some (suffix_of (drop len r.1))) (λ s _.
    and_then_are (λ x. true) is_number (value_of r.0 (take len r.1)) _ (any_some (value_of r.0 (take len r.1))) (λ n _.
    and_then_are (is_written n) is_number (kind_of (r.0 == 10) s n) _ (kind_are (r.0 == 10) s n) (λ k h. some_are is_number (n, k) h))))

abbrev is_number_at : ℕ × Kind × ℕ → Bool
is_number_at x = is_written x.0 x.1

number_at_are : (place : Place) (bytes : List ℕ) → OkAre is_number_at (number_at place bytes)
unfolding number_at
number_at_are place bytes =
    let more = prefix_len is_number_byte (drop 1 bytes) in
    fault_are is_number_at _ (BadNumber place) (map_are is_number is_number_at (λ n. (n.0, n.1, more)) (number_of (take (1 + more) bytes)) (number_are (take (1 + more) bytes)) (λ x h. h))

number_piece_are : (place : Place) (bytes : List ℕ) → OkAre is_good (number_piece place bytes)
unfolding number_piece
number_piece_are place bytes = then_are is_number_at is_good (number_at place bytes) _ (number_at_are place bytes) (λ n h. ok_are is_good (token_of (lexeme.Number n.0 n.1) n.2) h)

-- ---- characters and texts

-- a byte of a text, and a small number
abbrev is_byte : ℕ → Bool
is_byte b = is_writable b && nat_lt b (2 ^ 31)

plain_low : (b : ℕ) → nat_le b 126 ≡ true → nat_lt b (2 ^ 31) ≡ true
plain_low b h = let le : b ≤ 126 = leb-true b 126 h in lt-ltb b (2 ^ 31) (omega (arith, le))

plain_are : (quote b : ℕ) → is_plain quote b ≡ true → is_byte b ≡ true
plain_are quote b h =
    let a = both (nat_le 32 b && nat_le b 126 && not (b == quote)) (not (b == 92)) h in
    let c = both (nat_le 32 b && nat_le b 126) (not (b == quote)) a.0 in
    let d = both (nat_le 32 b) (nat_le b 126) c.0 in
    also (is_writable b) (nat_lt b (2 ^ 31))
    (or_right (b == 0) _ (or_right (b == 9) _ (or_right (b == 10) _ (or_right (b == 13) _ c.0)))) (plain_low b d.1)

quoted_are : (e : ℕ) → (e == 92 || e == 39 || e == 34) ≡ true → is_byte e ≡ true
quoted_are e h = by92 (e == 92) refl (e == 39) refl (e == 34) refl
  where
    by92 : (a : Bool) → (e == 92) ≡ a → (b : Bool) → (e == 39) ≡ b → (c : Bool) → (e == 34) ≡ c → is_byte e ≡ true
    by92 true p b q c r = subst (λ (x : ℕ). is_byte x ≡ true) (sym (eqb-true e 92 p)) refl
    by92 false p true q c r = subst (λ (x : ℕ). is_byte x ≡ true) (sym (eqb-true e 39 q)) refl
    by92 false p false q true r = subst (λ (x : ℕ). is_byte x ≡ true) (sym (eqb-true e 34 r)) refl
    by92 false p false q false r = let k : false ≡ true = rw (p, q, r) at h in absurd (false≢true k)

escape_are : (e : ℕ) → SomeAre is_byte (escape_of e)
escape_are e =
    if_some is_byte (e == 110) _ _ (λ _. some_are is_byte 10 refl) (λ _.
    if_some is_byte (e == 116) _ _ (λ _. some_are is_byte 9 refl) (λ _.
    if_some is_byte (e == 114) _ _ (λ _. some_are is_byte 13 refl) (λ _.
    if_some is_byte (e == 48) _ _ (λ _. some_are is_byte 0 refl) (λ _.
    if_some is_byte (e == 92 || e == 39 || e == 34) _ _ (λ h. some_are is_byte e (quoted_are e h)) (λ _. no_some is_byte)))))

abbrev is_character : ℕ × ℕ → Bool
is_character c = nat_lt c.0 (2 ^ 31)

character_are : (bytes : List ℕ) → SomeAre is_character (character_at bytes)
unfolding character_at
character_are [] = no_some is_character
character_are (a ∷ []) = no_some is_character
character_are (a ∷ b ∷ []) =
    if_some is_character (b == 39 && is_plain 39 a) _ _
    (λ h. some_are is_character (a, 2) (both (is_writable a) (nat_lt a (2 ^ 31)) (plain_are 39 a (both (b == 39) (is_plain 39 a) h).1)).1) (λ _. no_some is_character)
character_are (a ∷ b ∷ c ∷ rest) =
    if_some is_character (b == 39 && is_plain 39 a) _ _
    (λ h. some_are is_character (a, 2) (both (is_writable a) (nat_lt a (2 ^ 31)) (plain_are 39 a (both (b == 39) (is_plain 39 a) h).1)).1) (λ _.
    if_some is_character (a == 92 && c == 39) _ _ (λ _. map_are is_byte is_character (λ v. (v, 3)) (escape_of b) (escape_are b) (λ v k. (both (is_writable v) (nat_lt v (2 ^ 31)) k).1)) (λ _. no_some is_character))

character_piece_are : (place : Place) (bytes : List ℕ) → OkAre is_good (character_piece place bytes)
unfolding character_piece
character_piece_are place bytes = fault_are is_good _ (OpenText place) (map_are is_character is_good (λ c. token_of (lexeme.Number c.0 S32) c.1) (character_at (drop 1 bytes)) (character_are (drop 1 bytes)) (λ c h. h))

abbrev is_part : Part → Bool
is_part (Byte b) = is_writable b
is_part Backslash = true
is_part Close = true
is_part Wrong = true

escaped_is : (b : ℕ) (o : Option ℕ) → escape_of b ≡ o → is_part (part_of true b) ≡ true
escaped_is b None e = rw e refl
escaped_is b (Some v) e = let k = both (is_writable v) (nat_lt v (2 ^ 31)) ((escape_are b).by v e) in rw e k.0

part_is : (is_escaped : Bool) (b : ℕ) → is_part (part_of is_escaped b) ≡ true
part_is true b = escaped_is b (escape_of b) refl
part_is false b = on (b == 34) refl (b == 92) refl (is_plain 34 b) refl
  where
    on : (x : Bool) → (b == 34) ≡ x → (y : Bool) → (b == 92) ≡ y → (z : Bool) → is_plain 34 b ≡ z → is_part (part_of false b) ≡ true
    on true p y q z r = rw p refl
    on false p true q z r = rw (p, q) refl
    on false p false q true r =
        let k = both (is_writable b) (nat_lt b (2 ^ 31)) (plain_are 34 b r) in
        let left : (nat_le 32 b && nat_le b 126 && not false && not false) ≡ true = rw (p, q) at r in
        rw (p, q, left) k.0
    on false p false q false r =
        let left : (nat_le 32 b && nat_le b 126 && not false && not false) ≡ false = rw (p, q) at r in
        rw (p, q, left) refl

abbrev is_text : List ℕ × ℕ → Bool
is_text t = list_all is_writable t.0

with_are : (part : Part) (next : Bool → Option (List ℕ × ℕ)) → is_part part ≡ true → ((e : Bool) → SomeAre is_text (next e)) → SomeAre is_text (with_part part next)
with_are (Byte v) next h more = map_are is_text is_text (λ x. (v ∷ x.0, 1 + x.1)) (next false) (more false) (λ x k. also (is_writable v) (list_all is_writable x.0) h k)
with_are Backslash next h more = map_are is_text is_text (λ x. (x.0, 1 + x.1)) (next true) (more true) (λ x k. k)
with_are Close next h more = some_are is_text ([], 1) refl
with_are Wrong next h more = no_some is_text

text_are : (is_escaped : Bool) (bytes : List ℕ) → SomeAre is_text (text_from is_escaped bytes)
text_are is_escaped [] = no_some is_text
text_are is_escaped (b ∷ bs) = with_are (part_of is_escaped b) (λ e. text_from e bs) (part_is is_escaped b) (λ e. text_are e bs)

text_piece_are : (place : Place) (bytes : List ℕ) → OkAre is_good (text_piece place bytes)
unfolding text_piece
text_piece_are place bytes = fault_are is_good _ (OpenText place) (map_are is_text is_good (λ t. token_of (lexeme.Text t.0) t.1) (text_from false (drop 1 bytes)) (text_are false (drop 1 bytes)) (λ t h. h))

-- ---- punctuation

front_among : (texts : List (List ℕ)) (bytes : List ℕ) → (front_len texts bytes == 0) ≡ false → is_among texts (take (front_len texts bytes) bytes) ≡ true
front_among [] bytes h = absurd (false≢true (sym h))
front_among (text ∷ texts) bytes h = on (starts_with nat_eq bytes text) refl (front_among texts bytes)
  where
    on : (b : Bool) → starts_with nat_eq bytes text ≡ b → ((front_len texts bytes == 0) ≡ false → is_among texts (take (front_len texts bytes) bytes) ≡ true) → is_among (text ∷ texts) (take (front_len (text ∷ texts) bytes) bytes) ≡ true
    on true e more =
        let number : front_len (text ∷ texts) bytes ≡ length text = rw e refl in
        let here : is_among (text ∷ texts) (take (length text) bytes) ≡ true = rw e refl in
        subst (λ (n : ℕ). is_among (text ∷ texts) (take n bytes) ≡ true) (sym number) here
    on false e more =
        let number : front_len (text ∷ texts) bytes ≡ front_len texts bytes = rw e refl in
        let some : (front_len texts bytes == 0) ≡ false = subst (λ (n : ℕ). (n == 0) ≡ false) number h in
        subst (λ (n : ℕ). is_among (text ∷ texts) (take n bytes) ≡ true) (sym number) (or_right (bytes_eq text (take (front_len texts bytes) bytes)) _ (more some))

punctuation_are : (place : Place) (bytes : List ℕ) → OkAre is_good (punctuation_piece place bytes)
unfolding punctuation_piece punctuation_len
punctuation_are place bytes =
    let len = punctuation_len bytes in
    if_are is_good (len == 0) _ _ (λ _. none_are is_good (BadByte place)) (λ e. ok_are is_good (token_of (lexeme.Punct (take len bytes)) (len - 1)) (front_among punctuation bytes e))

-- ---- comments and directives

gap_are : (more : ℕ) → OkAre is_good (Ok (gap_of more))
gap_are more = ok_are is_good (gap_of more) refl

slash_are : (place : Place) (bytes : List ℕ) → OkAre is_good (slash_piece place bytes)
unfolding slash_piece
slash_are place bytes =
    if_are is_good (begins_with 47 47 bytes) _ _ (λ _. gap_are (prefix_len in_line (drop 1 bytes))) (λ _.
    if_are is_good (begins_with 47 42 bytes) _ _ (λ _. fault_are is_good _ (OpenComment place) (map_are (λ n. true) is_good (λ n. gap_of (1 + n)) (close_at (drop 2 bytes)) (any_some (close_at (drop 2 bytes))) (λ n h. refl))) (λ _.
    punctuation_are place bytes))

begun_word : (name : List ℕ) → begins_letter name ≡ true → list_all is_name_byte name ≡ true → is_word name ≡ true
begun_word [] h a = absurd (false≢true h)
begun_word (b ∷ bs) h a = also (is_letter b) (list_all is_name_byte bs) h (both (is_name_byte b) (list_all is_name_byte bs) a).1

abbrev is_head : List ℕ × Bool × List ℕ → Bool
is_head h = is_defined h.0

fails_none : (a b c : Bool) → (not a || b || c) ≡ false → (a ≡ true) × (not b ≡ true)
fails_none true false c e = (refl, refl)
fails_none true true c e = absurd (false≢true (sym e))
fails_none false b c e = absurd (false≢true (sym e))

head_are : (bytes : List ℕ) → SomeAre is_head (define_head bytes)
unfolding define_head
head_are bytes =
    let start = skip_blanks bytes in
    let len = prefix_len is_name_byte start in
    let name = take len start in
    let signed = sign_at (skip_blanks (drop len start)) in
    if_some is_head (not (begins_letter name) || is_reserved name || not (begins_digit signed.1)) _ _ (λ _. no_some is_head) (λ e.
    let k = fails_none (begins_letter name) (is_reserved name) (not (begins_digit signed.1)) e in
    some_are is_head (name, signed.0, signed.1) (also (is_word name) (not (is_reserved name)) (begun_word name k.0 (front_all is_name_byte start)) k.1))

define_are : (place : Place) (len : ℕ) (bytes : List ℕ) → OkAre is_good (define_piece place len bytes)
unfolding define_piece
define_are place len bytes =
    then_are is_head is_good (or_fault (define_head bytes) (BadByte place)) _ (fault_are is_head (define_head bytes) (BadByte place) (head_are bytes)) (λ head h.
    let at = len - length head.2 in
    then_are is_number_at is_good (number_at (place_right place at) head.2) _ (number_at_are (place_right place at) head.2) (λ number k.
    ok_are is_good (token_of (lexeme.Define head.0 head.1 number.0 number.1) (at + number.2)) (also (is_defined head.0) (is_written number.0 number.1) h k)))

directive_are : (is_fresh : Bool) (place : Place) (bytes : List ℕ) → OkAre is_good (directive_piece is_fresh place bytes)
unfolding directive_piece
directive_are is_fresh place bytes =
    let rest = drop 1 bytes in
    let len = prefix_len is_name_byte rest in
    if_are is_good (is_fresh && bytes_eq (take len rest) (codes "include")) _ _ (λ _. gap_are (prefix_len in_line rest)) (λ _.
    if_are is_good (bytes_eq (take len rest) (codes "define")) _ _ (λ _. define_are place (length bytes) (drop len rest)) (λ _. none_are is_good (BadByte place)))

-- ---- pieces, and all of a text

piece_are : (is_fresh : Bool) (place : Place) (bytes : List ℕ) → OkAre is_good (piece_at is_fresh place bytes)
unfolding piece_at
piece_are is_fresh place bytes =
    let b = slice_index bytes 0 in
    if_are is_good (is_space b) _ _ (λ _. gap_are 0) (λ _.
    if_are is_good (is_letter b) _ _ (λ e. ok_are is_good (word_at bytes) (word_is bytes e)) (λ _.
    if_are is_good (is_ascii_digit b) _ _ (λ _. number_piece_are place bytes) (λ _.
    if_are is_good (b == 39) _ _ (λ _. character_piece_are place bytes) (λ _.
    if_are is_good (b == 34) _ _ (λ _. text_piece_are place bytes) (λ _.
    if_are is_good (b == 47) _ _ (λ _. slash_are place bytes) (λ _.
    if_are is_good (b == 35) _ _ (λ _. directive_are is_fresh place bytes) (λ _. punctuation_are place bytes)))))))

piece_tokens : (place : Place) (what : Option Lexeme) → maybe is_lexed what ≡ true → are_lexed (tokens_of_piece place what) ≡ true
piece_tokens place None h = refl
piece_tokens place (Some what) h = also (is_lexed what) true h refl

from_are : (most : ℕ) (is_fresh : Bool) (place : Place) (bytes : List ℕ) → OkAre are_lexed (tokens_from most is_fresh place bytes)
unfolding tokens_from
from_are most is_fresh place [] = ok_are are_lexed (end_at place) refl
from_are zero is_fresh place (b ∷ bytes) = ok_are are_lexed (end_at place) refl
from_are (suc most) is_fresh place (b ∷ bytes) =
    then_are is_good are_lexed (piece_at is_fresh place (b ∷ bytes)) _ (piece_are is_fresh place (b ∷ bytes)) (λ piece h.
    let taken = take (1 + piece.more) (b ∷ bytes) in
    then_are are_lexed are_lexed (tokens_from most (is_fresh_after is_fresh piece.what taken) (place_after place taken) (drop (1 + piece.more) (b ∷ bytes))) _ (from_are most (is_fresh_after is_fresh piece.what taken) (place_after place taken) (drop (1 + piece.more) (b ∷ bytes))) (λ tokens k.
    ok_are are_lexed (tokens_of_piece place piece.what ++ tokens) (all_joined (λ t. is_lexed t.what) (tokens_of_piece place piece.what) tokens (piece_tokens place piece.what h) k)))

-- what the lexer gives are tokens of C
pub tokens_are_lexed : (bytes : List ℕ) (tokens : List Token) → tokens_of bytes ≡ Ok tokens → are_lexed tokens ≡ true
unfolding tokens_of
tokens_are_lexed bytes tokens e = (from_are (length bytes) true first_place bytes).by tokens e
