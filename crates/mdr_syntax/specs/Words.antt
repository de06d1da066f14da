-- believed
-- The reserved words and the punctuation.
use Rattle.std.specs.Prelude.{ℕ, Bool, List, [], ◌∷◌, length, codes, nat_eq, if◌then◌else◌}
use Rattle.std.specs.List.{list_any, starts_with}
use Rattle.std.specs.Str.{bytes_eq}

unfoldable pub reserved : List (List ℕ)
reserved =
    codes "auto" ∷ codes "break" ∷ codes "case" ∷ codes "char" ∷ codes "const" ∷ codes "continue" ∷
    codes "default" ∷ codes "do" ∷ codes "double" ∷ codes "else" ∷ codes "enum" ∷ codes "extern" ∷
    codes "float" ∷ codes "for" ∷ codes "goto" ∷ codes "if" ∷ codes "inline" ∷ codes "int" ∷
    codes "long" ∷ codes "register" ∷ codes "restrict" ∷ codes "return" ∷ codes "short" ∷
    codes "signed" ∷ codes "sizeof" ∷ codes "static" ∷ codes "struct" ∷ codes "switch" ∷
    codes "typedef" ∷ codes "union" ∷ codes "unsigned" ∷ codes "void" ∷ codes "volatile" ∷
    codes "while" ∷ codes "_Bool" ∷ codes "_Complex" ∷ codes "_Imaginary" ∷ codes "NULL" ∷
    codes "u8" ∷ codes "u16" ∷ codes "u32" ∷ codes "u64" ∷ codes "s8" ∷ codes "s16" ∷ codes "s32" ∷
    codes "s64" ∷ codes "combolock_t" ∷ codes "__array" ∷ codes "__sentinel" ∷ codes "__nullterm" ∷
    codes "__opaque" ∷ codes "__critical" ∷ codes "__remote" ∷ codes "asm" ∷ codes "__asm__" ∷
    codes "kzalloc" ∷ codes "kcalloc" ∷ codes "kfree" ∷ codes "readl" ∷ codes "writel" ∷
    codes "printk" ∷ codes "request_irq" ∷ codes "free_irq" ∷ codes "deliver" ∷ codes "combolock" ∷
    codes "combounlock" ∷ codes "BUG" ∷ codes "enter" ∷ codes "leave" ∷ codes "kcall" ∷ []

unfoldable pub is_reserved : List ℕ → Bool
is_reserved word = list_any (λ w. bytes_eq w word) reserved

-- the longest first
unfoldable pub punctuation : List (List ℕ)
punctuation =
    codes "..." ∷ codes "<<=" ∷ codes ">>=" ∷ codes "->" ∷ codes "==" ∷ codes "!=" ∷ codes "<=" ∷
    codes ">=" ∷ codes "<<" ∷ codes ">>" ∷ codes "&&" ∷ codes "||" ∷ codes "+=" ∷ codes "-=" ∷
    codes "*=" ∷ codes "/=" ∷ codes "%=" ∷ codes "&=" ∷ codes "|=" ∷ codes "^=" ∷ codes "++" ∷
    codes "--" ∷ codes "{" ∷ codes "}" ∷ codes "(" ∷ codes ")" ∷ codes "[" ∷ codes "]" ∷
    codes ";" ∷ codes "," ∷ codes "." ∷ codes "=" ∷ codes "<" ∷ codes ">" ∷ codes "+" ∷ codes "-" ∷
    codes "*" ∷ codes "/" ∷ codes "%" ∷ codes "&" ∷ codes "|" ∷ codes "^" ∷ codes "!" ∷ codes "~" ∷
    codes "?" ∷ codes ":" ∷ []

-- how many bytes the first of these texts has that stands at the front, or none
abbrev pub front_len : List (List ℕ) → List ℕ → ℕ
front_len [] bytes = 0
front_len (text ∷ texts) bytes = if starts_with nat_eq bytes text then length text else front_len texts bytes

unfoldable pub punctuation_len : List ℕ → ℕ
punctuation_len bytes = front_len punctuation bytes
