-- for proofs
-- What tokens must be for their text to be read again (C99 6.4).
use Rattle.std.specs.Prelude.{ℕ, ◌^◌, Bool, true, false, ◌==◌, ◌||◌, ◌&&◌, nat_lt, nat_le, List, [], ◌∷◌, codes}
use Rattle.std.specs.List.{list_any, list_all}
use Rattle.std.specs.Str.{bytes_eq}
use Rattle.mdr_core.specs.declared.kind.Kind.{Kind}
use Rattle.mdr_core.specs.declared.kind.Kind.TheVariants.{U8, U16, U32, U64, S8, S16, S32, S64}
use Rattle.mdr_syntax.specs.declared.tree.Base.{Base}
use Rattle.mdr_syntax.specs.declared.tree.Base.TheVariants as base
use Rattle.mdr_syntax.specs.Bytes.{is_letter, is_name_byte}
use Rattle.mdr_syntax.specs.Words.{punctuation}

-- a letter or `_`, then letters, digits and `_`
abbrev pub is_word : List ℕ → Bool
is_word [] = false
is_word (b ∷ bs) = is_letter b && list_all is_name_byte bs

-- the kinds that a suffix tells (C99 6.4.4.1), and what they hold
abbrev pub is_written : ℕ → Kind → Bool
is_written n U8 = false
is_written n U16 = false
is_written n U32 = nat_lt n (2 ^ 32)
is_written n U64 = nat_lt n (2 ^ 64)
is_written n S8 = false
is_written n S16 = false
is_written n S32 = nat_lt n (2 ^ 31)
is_written n S64 = nat_lt n (2 ^ 63)

-- a byte of a text stands for itself, or has an escape
abbrev pub is_writable : ℕ → Bool
is_writable b = (b == 0) || ((b == 9) || ((b == 10) || ((b == 13) || (nat_le 32 b && nat_le b 126))))

abbrev pub is_among : List (List ℕ) → List ℕ → Bool
is_among texts text = list_any (λ t. bytes_eq t text) texts

-- an operator between two operands, or of an assignment
abbrev pub is_sign : List ℕ → Bool
is_sign op = is_among punctuation op

unfoldable pub prefixes : List (List ℕ)
prefixes = codes "-" ∷ codes "+" ∷ codes "&" ∷ codes "*" ∷ codes "!" ∷ codes "~" ∷ codes "++" ∷ codes "--" ∷ []

abbrev pub is_prefix : List ℕ → Bool
is_prefix op = is_among prefixes op

unfoldable pub steps : List (List ℕ)
steps = codes "++" ∷ codes "--" ∷ []

abbrev pub is_step : List ℕ → Bool
is_step op = is_among steps op

abbrev pub is_base : Base → Bool
is_base (base.Int kind) = true
is_base (base.Struct place name) = is_word name
is_base base.Void = true
is_base base.Lock = true
