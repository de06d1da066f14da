-- believed
-- What a printed text is put together from: tokens (C99 6.4), and the blanks, tabs and ends of lines between them.
use Rattle.std.specs.Prelude.{◌≡◌, ℕ, zero, suc, Bool, true, false, ◌==◌, if◌then◌else◌, List, [], ◌∷◌, ◌++◌, codes, decimal}
use Rattle.mdr_core.specs.declared.kind.Kind.{Kind}
use Rattle.mdr_core.specs.declared.kind.Kind.TheVariants.{U8, U16, U32, U64, S8, S16, S32, S64}
use Rattle.mdr_syntax.specs.declared.token.Lexeme.{Lexeme}
use Rattle.mdr_syntax.specs.declared.token.Lexeme.TheVariants.{Word, Number, Text, Punct, Define, End}

pub data Mark : Type 0 where
  Is : Lexeme → Mark
  Blank : Mark
  Tab : Mark
  Newline : Mark

-- ---- the text of a token

abbrev pub suffix_of : Kind → List ℕ
suffix_of U8 = []
suffix_of U16 = []
suffix_of U32 = codes "u"
suffix_of U64 = codes "ul"
suffix_of S8 = []
suffix_of S16 = []
suffix_of S32 = []
suffix_of S64 = codes "l"

-- the bytes 0, 9, 10 and 13, the quote and the backslash are written by their escapes
abbrev pub escaped : ℕ → List ℕ
escaped b =
    if b == 0 then codes "\\0"
    else (if b == 9 then codes "\\t"
    else (if b == 10 then codes "\\n"
    else (if b == 13 then codes "\\r"
    else (if b == 34 then codes "\\\""
    else (if b == 92 then codes "\\\\"
    else b ∷ [])))))

abbrev pub all_escaped : List ℕ → List ℕ
all_escaped [] = []
all_escaped (b ∷ bytes) = escaped b ++ all_escaped bytes

abbrev pub sign_of : (is_negative : Bool) → List ℕ
sign_of true = codes "-"
sign_of false = []

abbrev pub number_text : ℕ → Kind → List ℕ
number_text n kind = decimal n ++ suffix_of kind

unfoldable pub token_text : Lexeme → List ℕ
token_text (Word name) = name
token_text (Number n kind) = number_text n kind
token_text (Text bytes) = codes "\"" ++ (all_escaped bytes ++ codes "\"")
token_text (Punct p) = p
token_text (Define name is_negative n kind) = codes "#define " ++ (name ++ (codes " " ++ (sign_of is_negative ++ number_text n kind)))
token_text End = []

-- ---- the text of marks

unfoldable pub spell : List Mark → List ℕ
spell [] = []
spell (Is token ∷ marks) = token_text token ++ spell marks
spell (Blank ∷ marks) = 32 ∷ spell marks
spell (Tab ∷ marks) = 9 ∷ spell marks
spell (Newline ∷ marks) = 10 ∷ spell marks

-- ---- marks in front of marks

abbrev pub Marks : Type 0
Marks = List Mark → List Mark

-- first these, then those
infixr 10 ◌▸◌
abbrev pub ◌▸◌ : Marks → Marks → Marks
a ▸ b = λ rest. a (b rest)

abbrev pub nothing : Marks
nothing rest = rest

-- a name or a word of the language
abbrev pub word : List ℕ → Marks
word text rest = Is (Word text) ∷ rest

-- punctuation
abbrev pub sign : List ℕ → Marks
sign text rest = Is (Punct text) ∷ rest

abbrev pub number : ℕ → Kind → Marks
number n kind rest = Is (Number n kind) ∷ rest

abbrev pub quoted : List ℕ → Marks
quoted bytes rest = Is (Text bytes) ∷ rest

abbrev pub defined : List ℕ → (is_negative : Bool) → ℕ → Kind → Marks
defined name is_negative n kind rest = Is (Define name is_negative n kind) ∷ rest

abbrev pub blank : Marks
blank rest = Blank ∷ rest

abbrev pub blank_unless : Bool → Marks
blank_unless true rest = rest
blank_unless false rest = blank rest

abbrev pub newline : Marks
newline rest = Newline ∷ rest

-- one tab per block
abbrev pub tabs : ℕ → Marks
tabs zero rest = rest
tabs (suc depth) rest = Tab ∷ tabs depth rest

-- ---- what stands between them

-- an operator between two blanks
abbrev pub spaced : List ℕ → Marks
spaced op = blank ▸ sign op ▸ blank

abbrev pub comma : Marks
comma = sign (codes ",") ▸ blank

abbrev pub in_parentheses : Marks → Marks
in_parentheses marks = sign (codes "(") ▸ marks ▸ sign (codes ")")

abbrev pub in_brackets : Marks → Marks
in_brackets marks = sign (codes "[") ▸ marks ▸ sign (codes "]")

abbrev pub in_braces : Marks → Marks
in_braces marks = sign (codes "{") ▸ marks ▸ sign (codes "}")

abbrev pub comma_unless : (is_first : Bool) → Marks
comma_unless true rest = rest
comma_unless false rest = comma rest

abbrev pub separated : (is_first : Bool) → List Marks → Marks
separated is_first [] rest = rest
separated is_first (m ∷ ms) rest = comma_unless is_first (m (separated false ms rest))

-- with a comma and a blank between them
abbrev pub comma_list : List Marks → Marks
comma_list ms = separated true ms

-- one behind the other
abbrev pub row : List Marks → Marks
row [] rest = rest
row (m ∷ ms) rest = m (row ms rest)

-- what was appended: for whatever comes behind, the text of these marks in front of it
abbrev pub Appends : (old new : List ℕ) → Marks → Type 0
Appends old new marks = (rest : List Mark) → new ++ spell rest ≡ old ++ spell (marks rest)
