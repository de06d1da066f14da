-- What holds of every sort, by trying each.
use Rattle.std.proofs.Common.{◌≡◌, ℕ, zero, suc, Bool, true, List, [], ◌∷◌}
use Rattle.std.specs.List.{list_all}
use Rattle.mdr_core.specs.declared.kind.Kind.TheVariants.{U8, U16, U32, U64, S8, S16, S32, S64}
use Rattle.mdr_grammar.specs.Sorts.{Sort}
use Rattle.mdr_grammar.proofs.Bools.{and_left, and_right}

abbrev pub sorts : List Sort
sorts =
    Sort.Name ∷ Sort.Number ∷ Sort.Text ∷ Sort.Define ∷ Sort.End ∷ Sort.Other ∷ (Sort.Integer U8) ∷
    (Sort.Integer U16) ∷ (Sort.Integer U32) ∷ (Sort.Integer U64) ∷ (Sort.Integer S8) ∷ (Sort.Integer S16) ∷
    (Sort.Integer S32) ∷ (Sort.Integer S64) ∷ Sort.Char ∷ Sort.Short ∷ Sort.Int ∷ Sort.Long ∷ Sort.Signed ∷
    Sort.Unsigned ∷ Sort.Void ∷ Sort.Lock ∷ Sort.Struct ∷ Sort.Qualifier ∷ Sort.Remote ∷ Sort.Critical ∷
    Sort.Array ∷ Sort.Sentinel ∷ Sort.NullTerm ∷ Sort.Opaque ∷ Sort.Enum ∷ Sort.Null ∷ Sort.Service ∷ Sort.If ∷
    Sort.Else ∷ Sort.While ∷ Sort.For ∷ Sort.Do ∷ Sort.Switch ∷ Sort.Case ∷ Sort.Default ∷ Sort.Return ∷
    Sort.Break ∷ Sort.Continue ∷ Sort.OpenBrace ∷ Sort.CloseBrace ∷ Sort.Open ∷ Sort.Close ∷ Sort.OpenBracket ∷
    Sort.CloseBracket ∷ Sort.Semicolon ∷ Sort.Comma ∷ Sort.Dot ∷ Sort.Arrow ∷ Sort.Colon ∷ Sort.Question ∷
    Sort.Equals ∷ Sort.Compound ∷ Sort.Step ∷ Sort.OrElse ∷ Sort.AndThen ∷ Sort.Or ∷ Sort.Xor ∷ Sort.Equality ∷
    Sort.Relation ∷ Sort.Shift ∷ Sort.Slash ∷ Sort.And ∷ Sort.Plus ∷ Sort.Minus ∷ Sort.Star ∷ Sort.Not ∷ []

abbrev pub all_sorts : (Sort → Bool) → Bool
all_sorts f = list_all f sorts

nth : List Sort → ℕ → Sort
nth [] n = Sort.Name
nth (s ∷ ss) zero = s
nth (s ∷ ss) (suc n) = nth ss n

one_of : (f : Sort → Bool) (ss : List Sort) (n : ℕ) → f Sort.Name ≡ true → list_all f ss ≡ true → f (nth ss n) ≡ true
unfolding nth
one_of f [] n h e = h
one_of f (s ∷ ss) zero h e = and_left (f s) (list_all f ss) e
one_of f (s ∷ ss) (suc n) h e = one_of f ss n h (and_right (f s) (list_all f ss) e)

pub every_sort : (f : Sort → Bool) → all_sorts f ≡ true → (s : Sort) → f s ≡ true
unfolding nth
every_sort f e Sort.Name = one_of f sorts 0 (and_left _ _ e) e
every_sort f e Sort.Number = one_of f sorts 1 (and_left _ _ e) e
every_sort f e Sort.Text = one_of f sorts 2 (and_left _ _ e) e
every_sort f e Sort.Define = one_of f sorts 3 (and_left _ _ e) e
every_sort f e Sort.End = one_of f sorts 4 (and_left _ _ e) e
every_sort f e Sort.Other = one_of f sorts 5 (and_left _ _ e) e
every_sort f e (Sort.Integer U8) = one_of f sorts 6 (and_left _ _ e) e
every_sort f e (Sort.Integer U16) = one_of f sorts 7 (and_left _ _ e) e
every_sort f e (Sort.Integer U32) = one_of f sorts 8 (and_left _ _ e) e
every_sort f e (Sort.Integer U64) = one_of f sorts 9 (and_left _ _ e) e
every_sort f e (Sort.Integer S8) = one_of f sorts 10 (and_left _ _ e) e
every_sort f e (Sort.Integer S16) = one_of f sorts 11 (and_left _ _ e) e
every_sort f e (Sort.Integer S32) = one_of f sorts 12 (and_left _ _ e) e
every_sort f e (Sort.Integer S64) = one_of f sorts 13 (and_left _ _ e) e
every_sort f e Sort.Char = one_of f sorts 14 (and_left _ _ e) e
every_sort f e Sort.Short = one_of f sorts 15 (and_left _ _ e) e
every_sort f e Sort.Int = one_of f sorts 16 (and_left _ _ e) e
every_sort f e Sort.Long = one_of f sorts 17 (and_left _ _ e) e
every_sort f e Sort.Signed = one_of f sorts 18 (and_left _ _ e) e
every_sort f e Sort.Unsigned = one_of f sorts 19 (and_left _ _ e) e
every_sort f e Sort.Void = one_of f sorts 20 (and_left _ _ e) e
every_sort f e Sort.Lock = one_of f sorts 21 (and_left _ _ e) e
every_sort f e Sort.Struct = one_of f sorts 22 (and_left _ _ e) e
every_sort f e Sort.Qualifier = one_of f sorts 23 (and_left _ _ e) e
every_sort f e Sort.Remote = one_of f sorts 24 (and_left _ _ e) e
every_sort f e Sort.Critical = one_of f sorts 25 (and_left _ _ e) e
every_sort f e Sort.Array = one_of f sorts 26 (and_left _ _ e) e
every_sort f e Sort.Sentinel = one_of f sorts 27 (and_left _ _ e) e
every_sort f e Sort.NullTerm = one_of f sorts 28 (and_left _ _ e) e
every_sort f e Sort.Opaque = one_of f sorts 29 (and_left _ _ e) e
every_sort f e Sort.Enum = one_of f sorts 30 (and_left _ _ e) e
every_sort f e Sort.Null = one_of f sorts 31 (and_left _ _ e) e
every_sort f e Sort.Service = one_of f sorts 32 (and_left _ _ e) e
every_sort f e Sort.If = one_of f sorts 33 (and_left _ _ e) e
every_sort f e Sort.Else = one_of f sorts 34 (and_left _ _ e) e
every_sort f e Sort.While = one_of f sorts 35 (and_left _ _ e) e
every_sort f e Sort.For = one_of f sorts 36 (and_left _ _ e) e
every_sort f e Sort.Do = one_of f sorts 37 (and_left _ _ e) e
every_sort f e Sort.Switch = one_of f sorts 38 (and_left _ _ e) e
every_sort f e Sort.Case = one_of f sorts 39 (and_left _ _ e) e
every_sort f e Sort.Default = one_of f sorts 40 (and_left _ _ e) e
every_sort f e Sort.Return = one_of f sorts 41 (and_left _ _ e) e
every_sort f e Sort.Break = one_of f sorts 42 (and_left _ _ e) e
every_sort f e Sort.Continue = one_of f sorts 43 (and_left _ _ e) e
every_sort f e Sort.OpenBrace = one_of f sorts 44 (and_left _ _ e) e
every_sort f e Sort.CloseBrace = one_of f sorts 45 (and_left _ _ e) e
every_sort f e Sort.Open = one_of f sorts 46 (and_left _ _ e) e
every_sort f e Sort.Close = one_of f sorts 47 (and_left _ _ e) e
every_sort f e Sort.OpenBracket = one_of f sorts 48 (and_left _ _ e) e
every_sort f e Sort.CloseBracket = one_of f sorts 49 (and_left _ _ e) e
every_sort f e Sort.Semicolon = one_of f sorts 50 (and_left _ _ e) e
every_sort f e Sort.Comma = one_of f sorts 51 (and_left _ _ e) e
every_sort f e Sort.Dot = one_of f sorts 52 (and_left _ _ e) e
every_sort f e Sort.Arrow = one_of f sorts 53 (and_left _ _ e) e
every_sort f e Sort.Colon = one_of f sorts 54 (and_left _ _ e) e
every_sort f e Sort.Question = one_of f sorts 55 (and_left _ _ e) e
every_sort f e Sort.Equals = one_of f sorts 56 (and_left _ _ e) e
every_sort f e Sort.Compound = one_of f sorts 57 (and_left _ _ e) e
every_sort f e Sort.Step = one_of f sorts 58 (and_left _ _ e) e
every_sort f e Sort.OrElse = one_of f sorts 59 (and_left _ _ e) e
every_sort f e Sort.AndThen = one_of f sorts 60 (and_left _ _ e) e
every_sort f e Sort.Or = one_of f sorts 61 (and_left _ _ e) e
every_sort f e Sort.Xor = one_of f sorts 62 (and_left _ _ e) e
every_sort f e Sort.Equality = one_of f sorts 63 (and_left _ _ e) e
every_sort f e Sort.Relation = one_of f sorts 64 (and_left _ _ e) e
every_sort f e Sort.Shift = one_of f sorts 65 (and_left _ _ e) e
every_sort f e Sort.Slash = one_of f sorts 66 (and_left _ _ e) e
every_sort f e Sort.And = one_of f sorts 67 (and_left _ _ e) e
every_sort f e Sort.Plus = one_of f sorts 68 (and_left _ _ e) e
every_sort f e Sort.Minus = one_of f sorts 69 (and_left _ _ e) e
every_sort f e Sort.Star = one_of f sorts 70 (and_left _ _ e) e
every_sort f e Sort.Not = one_of f sorts 71 (and_left _ _ e) e
