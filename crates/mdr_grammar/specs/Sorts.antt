-- believed
-- What the grammar tells apart: the sorts of tokens.
use Rattle.std.specs.Prelude.{ℕ, Bool, ◌||◌, List, [], ◌∷◌, codes, nat_eq, if◌then◌else◌}
use Rattle.std.specs.Str.{bytes_eq}
use Rattle.mdr_core.specs.declared.kind.Kind.{Kind}
use Rattle.mdr_core.specs.declared.kind.Kind.TheVariants.{U8, U16, U32, U64, S8, S16, S32, S64}
use Rattle.mdr_syntax.specs.declared.token.Lexeme.{Lexeme}
use Rattle.mdr_syntax.specs.declared.token.Lexeme.TheVariants as lexeme
pub use Rattle.mdr_grammar.specs.declared.sort.Sort.{Sort}
use Rattle.mdr_syntax.specs.Words.{is_reserved}

pub record Word : Type 0 where
  pub text : List ℕ
  pub sort : Sort

abbrev pub sort_in : List Word → List ℕ → Sort → Sort
sort_in [] text other = other
sort_in (w ∷ words) text other = if bytes_eq w.text text then w.sort else sort_in words text other

abbrev pub word : List ℕ → Sort → Word
word text sort = record { text = text; sort = sort }

-- the words that productions name
unfoldable pub words : List Word
words =
    word (codes "u8") (Sort.Integer U8) ∷ word (codes "u16") (Sort.Integer U16) ∷
    word (codes "u32") (Sort.Integer U32) ∷ word (codes "u64") (Sort.Integer U64) ∷
    word (codes "s8") (Sort.Integer S8) ∷ word (codes "s16") (Sort.Integer S16) ∷
    word (codes "s32") (Sort.Integer S32) ∷ word (codes "s64") (Sort.Integer S64) ∷
    word (codes "char") Sort.Char ∷ word (codes "short") Sort.Short ∷ word (codes "int") Sort.Int ∷
    word (codes "long") Sort.Long ∷ word (codes "signed") Sort.Signed ∷ word (codes "unsigned") Sort.Unsigned ∷
    word (codes "void") Sort.Void ∷ word (codes "combolock_t") Sort.Lock ∷ word (codes "struct") Sort.Struct ∷
    word (codes "static") Sort.Qualifier ∷ word (codes "const") Sort.Qualifier ∷
    word (codes "inline") Sort.Qualifier ∷ word (codes "volatile") Sort.Qualifier ∷
    word (codes "__remote") Sort.Remote ∷ word (codes "__critical") Sort.Critical ∷
    word (codes "__array") Sort.Array ∷ word (codes "__sentinel") Sort.Sentinel ∷
    word (codes "__nullterm") Sort.NullTerm ∷ word (codes "__opaque") Sort.Opaque ∷
    word (codes "enum") Sort.Enum ∷ word (codes "NULL") Sort.Null ∷
    word (codes "kzalloc") Sort.Service ∷ word (codes "kcalloc") Sort.Service ∷ word (codes "kfree") Sort.Service ∷
    word (codes "readl") Sort.Service ∷ word (codes "writel") Sort.Service ∷ word (codes "printk") Sort.Service ∷
    word (codes "request_irq") Sort.Service ∷ word (codes "free_irq") Sort.Service ∷
    word (codes "deliver") Sort.Service ∷ word (codes "combolock") Sort.Service ∷
    word (codes "combounlock") Sort.Service ∷ word (codes "BUG") Sort.Service ∷ word (codes "kcall") Sort.Service ∷
    word (codes "if") Sort.If ∷ word (codes "else") Sort.Else ∷ word (codes "while") Sort.While ∷
    word (codes "for") Sort.For ∷ word (codes "do") Sort.Do ∷ word (codes "switch") Sort.Switch ∷
    word (codes "case") Sort.Case ∷ word (codes "default") Sort.Default ∷ word (codes "return") Sort.Return ∷
    word (codes "break") Sort.Break ∷ word (codes "continue") Sort.Continue ∷ []

unfoldable pub marks : List Word
marks =
    word (codes "{") Sort.OpenBrace ∷ word (codes "}") Sort.CloseBrace ∷ word (codes "(") Sort.Open ∷
    word (codes ")") Sort.Close ∷ word (codes "[") Sort.OpenBracket ∷ word (codes "]") Sort.CloseBracket ∷
    word (codes ";") Sort.Semicolon ∷ word (codes ",") Sort.Comma ∷ word (codes ".") Sort.Dot ∷
    word (codes "->") Sort.Arrow ∷ word (codes ":") Sort.Colon ∷ word (codes "?") Sort.Question ∷
    word (codes "=") Sort.Equals ∷ word (codes "+=") Sort.Compound ∷ word (codes "-=") Sort.Compound ∷
    word (codes "*=") Sort.Compound ∷ word (codes "/=") Sort.Compound ∷ word (codes "%=") Sort.Compound ∷
    word (codes "&=") Sort.Compound ∷ word (codes "|=") Sort.Compound ∷ word (codes "^=") Sort.Compound ∷
    word (codes "<<=") Sort.Compound ∷ word (codes ">>=") Sort.Compound ∷
    word (codes "++") Sort.Step ∷ word (codes "--") Sort.Step ∷
    word (codes "||") Sort.OrElse ∷ word (codes "&&") Sort.AndThen ∷ word (codes "|") Sort.Or ∷
    word (codes "^") Sort.Xor ∷ word (codes "==") Sort.Equality ∷ word (codes "!=") Sort.Equality ∷
    word (codes "<") Sort.Relation ∷ word (codes "<=") Sort.Relation ∷ word (codes ">") Sort.Relation ∷
    word (codes ">=") Sort.Relation ∷ word (codes "<<") Sort.Shift ∷ word (codes ">>") Sort.Shift ∷
    word (codes "/") Sort.Slash ∷ word (codes "%") Sort.Slash ∷ word (codes "&") Sort.And ∷
    word (codes "+") Sort.Plus ∷ word (codes "-") Sort.Minus ∷ word (codes "*") Sort.Star ∷
    word (codes "!") Sort.Not ∷ word (codes "~") Sort.Not ∷ []

abbrev pub kind_number : Kind → ℕ
kind_number U8 = 0
kind_number U16 = 1
kind_number U32 = 2
kind_number U64 = 3
kind_number S8 = 4
kind_number S16 = 5
kind_number S32 = 6
kind_number S64 = 7

-- each sort has a number of its own
abbrev pub number_of : Sort → ℕ
number_of Sort.Name = 10
number_of Sort.Number = 11
number_of Sort.Text = 12
number_of Sort.Define = 13
number_of Sort.End = 14
number_of Sort.Other = 15
number_of (Sort.Integer kind) = kind_number kind
number_of Sort.Char = 16
number_of Sort.Short = 17
number_of Sort.Int = 18
number_of Sort.Long = 19
number_of Sort.Signed = 20
number_of Sort.Unsigned = 21
number_of Sort.Void = 22
number_of Sort.Lock = 23
number_of Sort.Struct = 24
number_of Sort.Qualifier = 25
number_of Sort.Remote = 26
number_of Sort.Critical = 27
number_of Sort.Array = 28
number_of Sort.Sentinel = 29
number_of Sort.NullTerm = 30
number_of Sort.Opaque = 31
number_of Sort.Enum = 32
number_of Sort.Null = 33
number_of Sort.Service = 34
number_of Sort.If = 35
number_of Sort.Else = 36
number_of Sort.While = 37
number_of Sort.For = 38
number_of Sort.Do = 39
number_of Sort.Switch = 40
number_of Sort.Case = 41
number_of Sort.Default = 42
number_of Sort.Return = 43
number_of Sort.Break = 44
number_of Sort.Continue = 45
number_of Sort.OpenBrace = 46
number_of Sort.CloseBrace = 47
number_of Sort.Open = 48
number_of Sort.Close = 49
number_of Sort.OpenBracket = 50
number_of Sort.CloseBracket = 51
number_of Sort.Semicolon = 52
number_of Sort.Comma = 53
number_of Sort.Dot = 54
number_of Sort.Arrow = 55
number_of Sort.Colon = 56
number_of Sort.Question = 57
number_of Sort.Equals = 58
number_of Sort.Compound = 59
number_of Sort.Step = 60
number_of Sort.OrElse = 61
number_of Sort.AndThen = 62
number_of Sort.Or = 63
number_of Sort.Xor = 64
number_of Sort.Equality = 65
number_of Sort.Relation = 66
number_of Sort.Shift = 67
number_of Sort.Slash = 68
number_of Sort.And = 69
number_of Sort.Plus = 70
number_of Sort.Minus = 71
number_of Sort.Star = 72
number_of Sort.Not = 73

abbrev pub is : Sort → Sort → Bool
is s t = nat_eq (number_of s) (number_of t)

-- `__remote` stands in half texts alone
abbrev pub admitted : (halves : Bool) → Sort → Sort
admitted halves s = if is s Sort.Remote then (if halves then Sort.Remote else Sort.Other) else s

-- a word that isn't reserved is a name
abbrev pub unlisted : List ℕ → Sort
unlisted text = if is_reserved text then Sort.Other else Sort.Name

unfoldable pub sort_of : (halves : Bool) → Lexeme → Sort
sort_of halves (lexeme.Word text) = admitted halves (sort_in words text (unlisted text))
sort_of halves (lexeme.Number n kind) = Sort.Number
sort_of halves (lexeme.Text bytes) = Sort.Text
sort_of halves (lexeme.Punct text) = sort_in marks text Sort.Other
sort_of halves (lexeme.Define name negative n kind) = Sort.Define
sort_of halves lexeme.End = Sort.End

-- `KERN_` words are names that are dropped before a text
unfoldable pub is_level : List ℕ → Bool
is_level text = bytes_eq (codes "KERN_ERR") text || bytes_eq (codes "KERN_WARNING") text || bytes_eq (codes "KERN_NOTICE") text || bytes_eq (codes "KERN_INFO") text || bytes_eq (codes "KERN_DEBUG") text
