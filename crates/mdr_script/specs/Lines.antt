-- believed
-- Reading a line of a script. Where `any` is true, each number will do in the place of any other.
use Rattle.std.specs.Prelude.{ℕ, zero, suc, Bool, ◌==◌, ◌||◌, if◌then◌else◌, List, [], ◌∷◌, ◌++◌, length, Option, Some, None, codes}
use Rattle.std.specs.Str.{bytes_eq}
use Rattle.mdr_script.specs.declared.line.ArgText.{ArgText}
use Rattle.mdr_script.specs.declared.line.ArgText.TheVariants as arg
use Rattle.mdr_script.specs.declared.line.LineWhat.TheVariants as what
use Rattle.mdr_script.specs.declared.line.Line.{Line}
use Rattle.mdr_script.specs.declared.line.Line.TheVariants as line
use Rattle.mdr_script.specs.Gives.{◌>>=◌, when}
use Rattle.mdr_script.specs.Words.{word_at, is_empty, ends, begins_hash, name_of}
use Rattle.mdr_script.specs.Numbers.{which_at, idle_at, integer_of}
use Rattle.mdr_script.specs.Rules.{reg_value, rule_at}

-- ---- arguments

unfoldable pub global_arg : List ℕ → Option ArgText
global_arg bytes = do
  g ← name_of bytes
  Some (arg.Global g)

unfoldable pub integer_arg : (any : Bool) → List ℕ → Option ArgText
integer_arg any word = do
  n ← integer_of any word
  Some (arg.Int n)

-- what isn't `null`; 38 is `&`
abbrev pub other_arg : (any : Bool) → List ℕ → Option ArgText
other_arg any [] = None
other_arg any (b ∷ word) = if b == 38 then global_arg word else integer_arg any (b ∷ word)

unfoldable pub arg_of : (any : Bool) → List ℕ → Option ArgText
arg_of any word = if bytes_eq word (codes "null") then Some arg.Null else other_arg any word

-- the words that are left, at most so many, behind these arguments
abbrev pub args_from : (most : ℕ) → (any : Bool) → List ArgText → List ℕ → Option (List ArgText)
args_from zero any args bytes = None
args_from (suc n) any args bytes = if is_empty (word_at bytes).0 then Some args else (do
  a ← arg_of any (word_at bytes).0
  args_from n any (args ++ a ∷ []) (word_at bytes).1)

-- each word that is left is an argument; there are no more than bytes, and then the end
unfoldable pub args_at : (any : Bool) → List ℕ → Option (List ArgText)
args_at any bytes = args_from (suc (length bytes)) any [] bytes

-- ---- lines, by their first words

unfoldable pub reg_line : (any : Bool) → List ℕ → Option Line
reg_line any bytes = do
  p ← reg_value any bytes
  when (ends p.1) (Some (line.Word p.0.0 p.0.1))

unfoldable pub on_line : (any : Bool) → List ℕ → Option Line
on_line any bytes = do
  r ← rule_at any bytes
  Some (line.Rule r)

unfoldable pub fail_line : (any : Bool) → List ℕ → Option Line
fail_line any bytes = do
  k ← which_at any bytes
  when (ends k.1) (Some (line.Fail k.0))

unfoldable pub call_line : (any : Bool) → List ℕ → Option Line
call_line any bytes = do
  f ← name_of (word_at bytes).0
  args ← args_at any (word_at bytes).1
  Some (line.Command (what.Call f args))

unfoldable pub idle_line : (any : Bool) → List ℕ → Option Line
idle_line any bytes = do
  n ← idle_at any bytes
  when (ends n.1) (Some (line.Command (what.Idle n.0)))

unfoldable pub show_line : List ℕ → Option Line
show_line bytes = do
  g ← name_of (word_at bytes).0
  when (ends (word_at bytes).1) (Some (line.Command (what.Show g)))

-- the lines behind which commands may stand
unfoldable pub setup_line : (any : Bool) → (word : List ℕ) → List ℕ → Option Line
setup_line any word bytes =
    if bytes_eq word (codes "reg") then reg_line any bytes
    else (if bytes_eq word (codes "on") then on_line any bytes
    else (if bytes_eq word (codes "failalloc") then fail_line any bytes
    else None))

unfoldable pub line_by : (any : Bool) → (word : List ℕ) → List ℕ → Option Line
line_by any word bytes =
    if bytes_eq word (codes "call") then call_line any bytes
    else (if bytes_eq word (codes "idle") then idle_line any bytes
    else (if bytes_eq word (codes "show") then show_line bytes
    else setup_line any word bytes))

-- a comment begins with its line
unfoldable pub line_at : (any : Bool) → List ℕ → Option Line
line_at any bytes =
    if begins_hash bytes || is_empty (word_at bytes).0 then Some line.Nothing
    else line_by any (word_at bytes).0 (word_at bytes).1
