-- A sort is known by its number.
use Rattle.std.proofs.Common.{◌≡◌, refl, sym, ap, ◌∙◌, arith, ℕ, zero, suc, true, nat_eq, List, [], ◌∷◌}
use Rattle.mdr_core.specs.declared.kind.Kind.TheVariants.{U8, U16, U32, U64, S8, S16, S32, S64}
use Rattle.mdr_grammar.specs.declared.sort.Sort.{Sort}
use Rattle.mdr_grammar.specs.Sorts.{number_of, is}

by_number : List Sort
by_number =
    (Sort.Integer U8) ∷ (Sort.Integer U16) ∷ (Sort.Integer U32) ∷ (Sort.Integer U64) ∷ (Sort.Integer S8) ∷ (Sort.Integer S16) ∷ (Sort.Integer S32) ∷ (Sort.Integer S64) ∷ Sort.Other ∷ Sort.Other ∷ Sort.Name ∷ Sort.Number ∷ Sort.Text ∷ Sort.Define ∷ Sort.End ∷ Sort.Other ∷ Sort.Char ∷ Sort.Short ∷ Sort.Int ∷ Sort.Long ∷ Sort.Signed ∷ Sort.Unsigned ∷ Sort.Void ∷ Sort.Lock ∷ Sort.Struct ∷ Sort.Qualifier ∷ Sort.Remote ∷ Sort.Critical ∷ Sort.Array ∷ Sort.Sentinel ∷ Sort.NullTerm ∷ Sort.Opaque ∷ Sort.Enum ∷ Sort.Null ∷ Sort.Service ∷ Sort.If ∷ Sort.Else ∷ Sort.While ∷ Sort.For ∷ Sort.Do ∷ Sort.Switch ∷ Sort.Case ∷ Sort.Default ∷ Sort.Return ∷ Sort.Break ∷ Sort.Continue ∷ Sort.OpenBrace ∷ Sort.CloseBrace ∷ Sort.Open ∷ Sort.Close ∷ Sort.OpenBracket ∷ Sort.CloseBracket ∷ Sort.Semicolon ∷ Sort.Comma ∷ Sort.Dot ∷ Sort.Arrow ∷ Sort.Colon ∷ Sort.Question ∷ Sort.Equals ∷ Sort.Compound ∷ Sort.Step ∷ Sort.OrElse ∷ Sort.AndThen ∷ Sort.Or ∷ Sort.Xor ∷ Sort.Equality ∷ Sort.Relation ∷ Sort.Shift ∷ Sort.Slash ∷ Sort.And ∷ Sort.Plus ∷ Sort.Minus ∷ Sort.Star ∷ Sort.Not ∷ []

nth : List Sort → ℕ → Sort
nth [] n = Sort.Other
nth (s ∷ ss) zero = s
nth (s ∷ ss) (suc n) = nth ss n

found : (s : Sort) → nth by_number (number_of s) ≡ s
unfolding nth by_number
found (Sort.Integer U8) = refl
found (Sort.Integer U16) = refl
found (Sort.Integer U32) = refl
found (Sort.Integer U64) = refl
found (Sort.Integer S8) = refl
found (Sort.Integer S16) = refl
found (Sort.Integer S32) = refl
found (Sort.Integer S64) = refl
found Sort.Name = refl
found Sort.Number = refl
found Sort.Text = refl
found Sort.Define = refl
found Sort.End = refl
found Sort.Other = refl
found Sort.Char = refl
found Sort.Short = refl
found Sort.Int = refl
found Sort.Long = refl
found Sort.Signed = refl
found Sort.Unsigned = refl
found Sort.Void = refl
found Sort.Lock = refl
found Sort.Struct = refl
found Sort.Qualifier = refl
found Sort.Remote = refl
found Sort.Critical = refl
found Sort.Array = refl
found Sort.Sentinel = refl
found Sort.NullTerm = refl
found Sort.Opaque = refl
found Sort.Enum = refl
found Sort.Null = refl
found Sort.Service = refl
found Sort.If = refl
found Sort.Else = refl
found Sort.While = refl
found Sort.For = refl
found Sort.Do = refl
found Sort.Switch = refl
found Sort.Case = refl
found Sort.Default = refl
found Sort.Return = refl
found Sort.Break = refl
found Sort.Continue = refl
found Sort.OpenBrace = refl
found Sort.CloseBrace = refl
found Sort.Open = refl
found Sort.Close = refl
found Sort.OpenBracket = refl
found Sort.CloseBracket = refl
found Sort.Semicolon = refl
found Sort.Comma = refl
found Sort.Dot = refl
found Sort.Arrow = refl
found Sort.Colon = refl
found Sort.Question = refl
found Sort.Equals = refl
found Sort.Compound = refl
found Sort.Step = refl
found Sort.OrElse = refl
found Sort.AndThen = refl
found Sort.Or = refl
found Sort.Xor = refl
found Sort.Equality = refl
found Sort.Relation = refl
found Sort.Shift = refl
found Sort.Slash = refl
found Sort.And = refl
found Sort.Plus = refl
found Sort.Minus = refl
found Sort.Star = refl
found Sort.Not = refl

same_number : (a b : ℕ) → nat_eq a b ≡ true → a ≡ b
same_number a b e = grind arith

pub is_same : (s s' : Sort) → is s s' ≡ true → s' ≡ s
is_same s s' e = sym (found s') ∙ ap (λ n. nth by_number n) (sym (same_number (number_of s) (number_of s') e)) ∙ found s
