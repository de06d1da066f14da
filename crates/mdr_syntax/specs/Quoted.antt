-- believed
-- Character constants and texts (C99 6.4.4.4, 6.4.5).
use Rattle.std.specs.Prelude.{ℕ, ◌+◌, Bool, true, false, ◌==◌, ◌||◌, ◌&&◌, if◌then◌else◌, List, [], ◌∷◌, Option, Some, None}
use Rattle.std.specs.Option.{option_map}
use Rattle.mdr_syntax.specs.declared.quoted.Part.{Part}
use Rattle.mdr_syntax.specs.declared.quoted.Part.TheVariants.{Byte, Backslash, Close, Wrong}
use Rattle.mdr_syntax.specs.Bytes.{is_plain}

-- what a letter behind a backslash stands for: n, t, r, 0, and a backslash and the quotes for themselves
abbrev pub escape_of : ℕ → Option ℕ
escape_of e =
    if e == 110 then Some 10
    else (if e == 116 then Some 9
    else (if e == 114 then Some 13
    else (if e == 48 then Some 0
    else (if e == 92 || e == 39 || e == 34 then Some e
    else None))))

-- behind the opening quote of a character constant: the byte that it stands for, and how many bytes there are with the closing quote
unfoldable pub character_at : List ℕ → Option (ℕ × ℕ)
character_at [] = None
character_at (a ∷ []) = None
character_at (a ∷ b ∷ []) = if b == 39 && is_plain 39 a then Some (a, 2) else None
character_at (a ∷ b ∷ c ∷ rest) =
    if b == 39 && is_plain 39 a then Some (a, 2)
    else (if a == 92 && c == 39 then option_map (λ v. (v, 3)) (escape_of b) else None)

-- what a byte is in a text
abbrev pub part_of : (is_escaped : Bool) → ℕ → Part
part_of true b = part_from (escape_of b)
  where
    part_from : Option ℕ → Part
    part_from (Some v) = Byte v
    part_from None = Wrong
part_of false b = if b == 34 then Close else (if b == 92 then Backslash else (if is_plain 34 b then Byte b else Wrong))

abbrev pub with_part : Part → (Bool → Option (List ℕ × ℕ)) → Option (List ℕ × ℕ)
with_part (Byte v) next = option_map (λ x. (v ∷ x.0, 1 + x.1)) (next false)
with_part Backslash next = option_map (λ x. (x.0, 1 + x.1)) (next true)
with_part Close next = Some ([], 1)
with_part Wrong next = None

-- behind the opening quote of a text, or behind a backslash in it: the bytes that it stands for, and how many bytes there are with the closing quote
abbrev pub text_from : (is_escaped : Bool) → List ℕ → Option (List ℕ × ℕ)
text_from is_escaped [] = None
text_from is_escaped (b ∷ bs) = with_part (part_of is_escaped b) (λ e. text_from e bs)
