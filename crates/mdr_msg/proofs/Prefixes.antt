-- No message's bytes begin another's, since each are the spelling of a message.
use Rattle.std.proofs.Common.{◌≡◌, ℕ, ◌-◌, List, [], ◌++◌, length, refl, sym, ap, subst, ◌∙◌, inl, inr}
use Rattle.std.proofs.lemmas.Bool.{cases_lt}
use Rattle.std.proofs.lemmas.List.{take_at, get_or_append_left, get_or-append_right}
use Rattle.mdr_model.specs.declared.message.Message.{Message}
use Rattle.mdr_model.specs.Text.{text}
use Rattle.mdr_xdr.specs.Bytes.{IsBytes}
use Rattle.mdr_xdr.proofs.Readers.{IsBytes-take}
use Rattle.mdr_msg.specs.WellFormed.{IsMessage}
use Rattle.mdr_msg.specs.Alone.{IsRead, StandsAlone}
use Rattle.mdr_msg.proofs.Messages.{reading_takes, no_prefix}

-- ---- bytes

front_is : (front back : List ℕ) → IsBytes (front ++ back) → IsBytes front
front_is front back h = subst IsBytes (take_at front back (length front) refl) (IsBytes-take (length front) (front ++ back) h)

both_are : (xs ys : List ℕ) → IsBytes xs → IsBytes ys → IsBytes (xs ++ ys)
both_are xs ys p q i =
    elim (cases_lt i (length xs)) [
      | inl lt ↦ rw (get_or_append_left xs ys 0 i lt) (p i)
      | inr le ↦ rw (get_or-append_right xs ys (length xs) i 0 refl le) (q (i - length xs))
    ]

-- ---- messages

-- the bytes spell a message
record Spells (bytes : List ℕ) : Type 0 where
  told : Message
  fits : IsMessage told
  is : bytes ≡ text told

spells : (bytes : List ℕ) → IsBytes bytes → IsRead bytes → Spells bytes
spells bytes are read = let taken = reading_takes bytes read.0 are read.1 in record { told = read.0; fits = taken.0; is = taken.1 }

-- the spelling of a message begins no other's
nothing_behind : (front back : List ℕ) → Spells front → Spells (front ++ back) → back ≡ []
nothing_behind front back short long =
    no_prefix short.told long.told back short.fits long.fits (ap (λ (t : List ℕ). t ++ back) (sym short.is) ∙ long.is)

pub stands_alone : (bytes : List ℕ) → IsBytes bytes → IsRead bytes → StandsAlone bytes
stands_alone bytes are read = record {
  cut = λ front back parts short.
      let long : Spells (front ++ back) = subst Spells parts (spells bytes are read) in
      nothing_behind front back (spells front (front_is front back (subst IsBytes parts are)) short) long;
  added = λ more fit long. nothing_behind bytes more (spells bytes are read) (spells (bytes ++ more) (both_are bytes more are fit) long);
}
