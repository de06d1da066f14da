-- Tokens of the sorts that a source can be completed with.
use Rattle.std.proofs.Common.{◌≡◌, refl, Bool, true, false, [], codes}
use Rattle.mdr_core.specs.declared.kind.Kind.TheVariants.{S32}
use Rattle.mdr_syntax.specs.declared.token.Lexeme.{Lexeme}
use Rattle.mdr_syntax.specs.declared.token.Lexeme.TheVariants as lexeme
use Rattle.mdr_syntax.specs.declared.token.Token.{Token}
use Rattle.mdr_syntax.specs.Words.{reserved, is_reserved}
use Rattle.mdr_grammar.specs.Sorts.{Sort, words, marks, sort_of}
use Rattle.mdr_grammar.proofs.Hungry.{can_be_taken}

token : Lexeme → Token
token what = record { place = record { line = 1; column = 1 }; what = what }

pub sample : Sort → Token
sample Sort.Name = token (lexeme.Word (codes "x"))
sample Sort.Number = token (lexeme.Number 0 S32)
sample Sort.Text = token (lexeme.Text [])
sample Sort.Define = token (lexeme.Define [] false 0 S32)
sample Sort.Char = token (lexeme.Word (codes "char"))
sample Sort.Void = token (lexeme.Word (codes "void"))
sample Sort.NullTerm = token (lexeme.Word (codes "__nullterm"))
sample Sort.Default = token (lexeme.Word (codes "default"))
sample Sort.While = token (lexeme.Word (codes "while"))
sample Sort.OpenBrace = token (lexeme.Punct (codes "{"))
sample Sort.CloseBrace = token (lexeme.Punct (codes "}"))
sample Sort.Open = token (lexeme.Punct (codes "("))
sample Sort.Close = token (lexeme.Punct (codes ")"))
sample Sort.OpenBracket = token (lexeme.Punct (codes "["))
sample Sort.CloseBracket = token (lexeme.Punct (codes "]"))
sample Sort.Semicolon = token (lexeme.Punct (codes ";"))
sample Sort.Colon = token (lexeme.Punct (codes ":"))
sample Sort.Equals = token (lexeme.Punct (codes "="))
sample Sort.Star = token (lexeme.Punct (codes "*"))
sample Sort.End = token lexeme.End
sample s = token lexeme.End

abbrev pub has_sample : Sort → Bool
has_sample Sort.Text = true
has_sample Sort.Define = true
has_sample Sort.Void = true
has_sample Sort.NullTerm = true
has_sample Sort.Default = true
has_sample Sort.OpenBracket = true
has_sample s = can_be_taken s

pub sampled : (halves : Bool) (s : Sort) → has_sample s ≡ true → sort_of halves (sample s).what ≡ s
unfolding sort_of words marks is_reserved reserved sample token
sampled halves Sort.Name e = refl
sampled halves Sort.Number e = refl
sampled halves Sort.Text e = refl
sampled halves Sort.Define e = refl
sampled halves Sort.Char e = refl
sampled halves Sort.Void e = refl
sampled halves Sort.NullTerm e = refl
sampled halves Sort.Default e = refl
sampled halves Sort.While e = refl
sampled halves Sort.OpenBrace e = refl
sampled halves Sort.CloseBrace e = refl
sampled halves Sort.Open e = refl
sampled halves Sort.Close e = refl
sampled halves Sort.OpenBracket e = refl
sampled halves Sort.CloseBracket e = refl
sampled halves Sort.Semicolon e = refl
sampled halves Sort.Colon e = refl
sampled halves Sort.Equals e = refl
sampled halves Sort.Star e = refl
sampled halves Sort.End e = refl
sampled halves _ e = let q : false ≡ true = e in absurd (Prim.cc)
