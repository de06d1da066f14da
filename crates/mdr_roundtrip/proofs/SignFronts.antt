-- The front of a text that is punctuation.
use Rattle.std.proofs.Common.{◌≡◌, ℕ, Bool, true, false, Some, List, [], ◌∷◌, ◌++◌, refl, codes}
use Rattle.std.specs.Prelude.{◌==◌, ◌||◌, slice_index}
use Rattle.std.specs.List.{AllByRecursion}
use Rattle.std.specs.Char.{is_ascii_digit}
use Rattle.std.proofs.lemmas.Bool.{false≢true}
use Rattle.mdr_syntax.specs.declared.token.Lexeme.TheVariants.{Punct}
use Rattle.mdr_syntax.specs.Bytes.{is_letter}
use Rattle.mdr_syntax.specs.Words.{punctuation, punctuation_len}
use Rattle.mdr_syntax.specs.Pieces.{piece_at, punctuation_piece, slash_piece}
use Rattle.mdr_print.specs.Spelled.{IsFront}
use Rattle.mdr_roundtrip.specs.Words.{is_sign, is_prefix, is_step, prefixes, steps}
use Rattle.mdr_roundtrip.specs.Standing.{stops}
use Rattle.mdr_roundtrip.proofs.Tests.{among, never_when}

-- what an operand begins with: a letter, a digit, a quote or `(`
abbrev pub opens : ℕ → Bool
opens b = is_letter b || (is_ascii_digit b || ((b == 34) || (b == 40)))

abbrev IsSign : List ℕ → List ℕ → Type 0
IsSign op rest = IsFront op (Some (Punct op)) rest

-- ---- in front of a blank

abbrev StandsBlank : List ℕ → Type 0
StandsBlank op = (rest : List ℕ) → IsSign op (32 ∷ rest)

all_blank : AllByRecursion StandsBlank punctuation
unfolding punctuation piece_at punctuation_piece slash_piece punctuation_len
all_blank = (λ rest. record { more = 2; front = λ is_fresh place. refl; whole = refl }, (λ rest. record { more = 2; front = λ is_fresh place. refl; whole = refl }, (λ rest. record { more = 2; front = λ is_fresh place. refl; whole = refl }, (λ rest. record { more = 1; front = λ is_fresh place. refl; whole = refl }, (λ rest. record { more = 1; front = λ is_fresh place. refl; whole = refl }, (λ rest. record { more = 1; front = λ is_fresh place. refl; whole = refl }, (λ rest. record { more = 1; front = λ is_fresh place. refl; whole = refl }, (λ rest. record { more = 1; front = λ is_fresh place. refl; whole = refl }, (λ rest. record { more = 1; front = λ is_fresh place. refl; whole = refl }, (λ rest. record { more = 1; front = λ is_fresh place. refl; whole = refl }, (λ rest. record { more = 1; front = λ is_fresh place. refl; whole = refl }, (λ rest. record { more = 1; front = λ is_fresh place. refl; whole = refl }, (λ rest. record { more = 1; front = λ is_fresh place. refl; whole = refl }, (λ rest. record { more = 1; front = λ is_fresh place. refl; whole = refl }, (λ rest. record { more = 1; front = λ is_fresh place. refl; whole = refl }, (λ rest. record { more = 1; front = λ is_fresh place. refl; whole = refl }, (λ rest. record { more = 1; front = λ is_fresh place. refl; whole = refl }, (λ rest. record { more = 1; front = λ is_fresh place. refl; whole = refl }, (λ rest. record { more = 1; front = λ is_fresh place. refl; whole = refl }, (λ rest. record { more = 1; front = λ is_fresh place. refl; whole = refl }, (λ rest. record { more = 1; front = λ is_fresh place. refl; whole = refl }, (λ rest. record { more = 1; front = λ is_fresh place. refl; whole = refl }, (λ rest. record { more = 0; front = λ is_fresh place. refl; whole = refl }, (λ rest. record { more = 0; front = λ is_fresh place. refl; whole = refl }, (λ rest. record { more = 0; front = λ is_fresh place. refl; whole = refl }, (λ rest. record { more = 0; front = λ is_fresh place. refl; whole = refl }, (λ rest. record { more = 0; front = λ is_fresh place. refl; whole = refl }, (λ rest. record { more = 0; front = λ is_fresh place. refl; whole = refl }, (λ rest. record { more = 0; front = λ is_fresh place. refl; whole = refl }, (λ rest. record { more = 0; front = λ is_fresh place. refl; whole = refl }, (λ rest. record { more = 0; front = λ is_fresh place. refl; whole = refl }, (λ rest. record { more = 0; front = λ is_fresh place. refl; whole = refl }, (λ rest. record { more = 0; front = λ is_fresh place. refl; whole = refl }, (λ rest. record { more = 0; front = λ is_fresh place. refl; whole = refl }, (λ rest. record { more = 0; front = λ is_fresh place. refl; whole = refl }, (λ rest. record { more = 0; front = λ is_fresh place. refl; whole = refl }, (λ rest. record { more = 0; front = λ is_fresh place. refl; whole = refl }, (λ rest. record { more = 0; front = λ is_fresh place. refl; whole = refl }, (λ rest. record { more = 0; front = λ is_fresh place. refl; whole = refl }, (λ rest. record { more = 0; front = λ is_fresh place. refl; whole = refl }, (λ rest. record { more = 0; front = λ is_fresh place. refl; whole = refl }, (λ rest. record { more = 0; front = λ is_fresh place. refl; whole = refl }, (λ rest. record { more = 0; front = λ is_fresh place. refl; whole = refl }, (λ rest. record { more = 0; front = λ is_fresh place. refl; whole = refl }, (λ rest. record { more = 0; front = λ is_fresh place. refl; whole = refl }, (λ rest. record { more = 0; front = λ is_fresh place. refl; whole = refl }, tt))))))))))))))))))))))))))))))))))))))))))))))

pub sign_front : (op rest : List ℕ) → is_sign op ≡ true → IsSign op (32 ∷ rest)
sign_front op rest h = among StandsBlank punctuation op all_blank h rest

-- ---- in front of anything

pub closed_front : (rest : List ℕ) → IsSign (codes ")") rest
unfolding piece_at punctuation_piece punctuation_len punctuation
closed_front rest = record { more = 0; front = λ is_fresh place. refl; whole = refl }

pub open_front : (rest : List ℕ) → IsSign (codes "(") rest
unfolding piece_at punctuation_piece punctuation_len punctuation
open_front rest = record { more = 0; front = λ is_fresh place. refl; whole = refl }

pub bracket_front : (rest : List ℕ) → IsSign (codes "[") rest
unfolding piece_at punctuation_piece punctuation_len punctuation
bracket_front rest = record { more = 0; front = λ is_fresh place. refl; whole = refl }

pub unbracket_front : (rest : List ℕ) → IsSign (codes "]") rest
unfolding piece_at punctuation_piece punctuation_len punctuation
unbracket_front rest = record { more = 0; front = λ is_fresh place. refl; whole = refl }

pub brace_front : (rest : List ℕ) → IsSign (codes "{") rest
unfolding piece_at punctuation_piece punctuation_len punctuation
brace_front rest = record { more = 0; front = λ is_fresh place. refl; whole = refl }

pub unbrace_front : (rest : List ℕ) → IsSign (codes "}") rest
unfolding piece_at punctuation_piece punctuation_len punctuation
unbrace_front rest = record { more = 0; front = λ is_fresh place. refl; whole = refl }

pub semicolon_front : (rest : List ℕ) → IsSign (codes ";") rest
unfolding piece_at punctuation_piece punctuation_len punctuation
semicolon_front rest = record { more = 0; front = λ is_fresh place. refl; whole = refl }

pub comma_front : (rest : List ℕ) → IsSign (codes ",") rest
unfolding piece_at punctuation_piece punctuation_len punctuation
comma_front rest = record { more = 0; front = λ is_fresh place. refl; whole = refl }

pub colon_front : (rest : List ℕ) → IsSign (codes ":") rest
unfolding piece_at punctuation_piece punctuation_len punctuation
colon_front rest = record { more = 0; front = λ is_fresh place. refl; whole = refl }

pub arrow_front : (rest : List ℕ) → IsSign (codes "->") rest
unfolding piece_at punctuation_piece punctuation_len punctuation
arrow_front rest = record { more = 1; front = λ is_fresh place. refl; whole = refl }

-- `++` and `--` behind an operand, which they don't belong to
abbrev StandsBehind : List ℕ → Type 0
StandsBehind op = (rest : List ℕ) → IsSign op rest × (stops true (slice_index (op ++ rest) 0) ≡ true)

all_behind : AllByRecursion StandsBehind steps
unfolding steps punctuation piece_at punctuation_piece punctuation_len
all_behind = (λ rest. (record { more = 1; front = λ is_fresh place. refl; whole = refl }, refl), (λ rest. (record { more = 1; front = λ is_fresh place. refl; whole = refl }, refl), tt))

pub step_front : (op rest : List ℕ) → is_step op ≡ true → IsSign op rest × (stops true (slice_index (op ++ rest) 0) ≡ true)
step_front op rest h = among StandsBehind steps op all_behind h rest

-- ---- in front of an operand

abbrev StandsBefore : List ℕ → Type 0
StandsBefore op = (x : ℕ) (rest : List ℕ) → opens x ≡ true → IsSign op (x ∷ rest)

minus_before : StandsBefore (codes "-")
unfolding punctuation piece_at punctuation_piece punctuation_len
minus_before x rest o =
    let a = never_when opens x 62 o refl in
    let b = never_when opens x 61 o refl in
    let c = never_when opens x 45 o refl in
    record { more = 0; front = λ is_fresh place. rw (a, b, c) refl; whole = refl }

plus_before : StandsBefore (codes "+")
unfolding punctuation piece_at punctuation_piece punctuation_len
plus_before x rest o =
    let b = never_when opens x 61 o refl in
    let c = never_when opens x 43 o refl in
    record { more = 0; front = λ is_fresh place. rw (b, c) refl; whole = refl }

and_before : StandsBefore (codes "&")
unfolding punctuation piece_at punctuation_piece punctuation_len
and_before x rest o =
    let b = never_when opens x 38 o refl in
    let c = never_when opens x 61 o refl in
    record { more = 0; front = λ is_fresh place. rw (b, c) refl; whole = refl }

not_before : StandsBefore (codes "!")
unfolding punctuation piece_at punctuation_piece punctuation_len
not_before x rest o =
    let b = never_when opens x 61 o refl in
    record { more = 0; front = λ is_fresh place. rw b refl; whole = refl }

star_before : StandsBefore (codes "*")
unfolding punctuation piece_at punctuation_piece punctuation_len
star_before x rest o =
    let b = never_when opens x 61 o refl in
    record { more = 0; front = λ is_fresh place. rw b refl; whole = refl }

dot_before : StandsBefore (codes ".")
unfolding punctuation piece_at punctuation_piece punctuation_len
dot_before x rest o =
    let b = never_when opens x 46 o refl in
    record { more = 0; front = λ is_fresh place. rw b refl; whole = refl }

all_before : AllByRecursion StandsBefore prefixes
unfolding prefixes punctuation piece_at punctuation_piece punctuation_len
all_before = (
  minus_before,
  (
    plus_before,
    (
      and_before,
      (
        star_before,
        (
          not_before,
          (
            λ x rest o. record { more = 0; front = λ is_fresh place. refl; whole = refl },
            (
              λ x rest o. record { more = 1; front = λ is_fresh place. refl; whole = refl },
              (λ x rest o. record { more = 1; front = λ is_fresh place. refl; whole = refl }, tt),
            ),
          ),
        ),
      ),
    ),
  ),
)

before : (op rest : List ℕ) → StandsBefore op → opens (slice_index rest 0) ≡ true → IsSign op rest
before op [] h o = absurd (false≢true o)
before op (x ∷ rest) h o = h x rest o

pub prefix_sign : (op rest : List ℕ) → is_prefix op ≡ true → opens (slice_index rest 0) ≡ true → IsSign op rest
prefix_sign op rest h o = before op rest (among StandsBefore prefixes op all_before h) o

pub dot_front : (rest : List ℕ) → opens (slice_index rest 0) ≡ true → IsSign (codes ".") rest
dot_front rest o = before (codes ".") rest dot_before o

pub and_front : (rest : List ℕ) → opens (slice_index rest 0) ≡ true → IsSign (codes "&") rest
and_front rest o = before (codes "&") rest and_before o

pub minus_front : (rest : List ℕ) → opens (slice_index rest 0) ≡ true → IsSign (codes "-") rest
minus_front rest o = before (codes "-") rest minus_before o

-- a star, where no `=` comes
pub star_front : (rest : List ℕ) → (61 == slice_index rest 0) ≡ false → IsSign (codes "*") rest
unfolding punctuation piece_at punctuation_piece punctuation_len
star_front [] e = record { more = 0; front = λ is_fresh place. refl; whole = refl }
star_front (x ∷ rest) e = record { more = 0; front = λ is_fresh place. rw e refl; whole = refl }
