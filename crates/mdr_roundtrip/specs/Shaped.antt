-- for proofs
-- Expressions as they are read: which stand as expressions, as what is called, and as arguments (C99 6.5).
use Rattle.std.specs.Prelude.{ℕ, Bool, true, false, ◌&&◌, ◌||◌, not, nat_le, List, [], ◌∷◌, map, codes}
use Rattle.std.specs.List.{list_all}
use Rattle.mdr_syntax.specs.declared.tree.Base.{Base}
use Rattle.mdr_syntax.specs.declared.tree.Base.TheVariants as base
use Rattle.mdr_syntax.specs.declared.tree.Form.{Form}
use Rattle.mdr_syntax.specs.declared.tree.FormWhat.{FormWhat}
use Rattle.mdr_syntax.specs.declared.tree.FormWhat.TheOpen.{Form-F, FormWhat-F}
use Rattle.mdr_syntax.specs.declared.tree.FormWhat.TheFolds.{fold-Form, fold-FormWhat}
use Rattle.mdr_syntax.specs.Words.{is_reserved}
use Rattle.mdr_roundtrip.specs.Words.{is_word, is_written, is_writable, is_among, is_prefix, is_step}
use Rattle.mdr_roundtrip.specs.Printable.{all}

-- a word that isn't reserved
abbrev pub is_name : List ℕ → Bool
is_name text = is_word text && not (is_reserved text)

unfoldable pub services : List (List ℕ)
services =
    codes "kzalloc" ∷ codes "kcalloc" ∷ codes "kfree" ∷ codes "readl" ∷ codes "writel" ∷ codes "printk" ∷
    codes "request_irq" ∷ codes "free_irq" ∷ codes "deliver" ∷ codes "combolock" ∷ codes "combounlock" ∷
    codes "BUG" ∷ codes "kcall" ∷ []

-- the operators between two operands
unfoldable pub binaries : List (List ℕ)
binaries =
    codes "||" ∷ codes "&&" ∷ codes "|" ∷ codes "^" ∷ codes "==" ∷ codes "!=" ∷ codes "<" ∷ codes "<=" ∷
    codes ">" ∷ codes ">=" ∷ codes "<<" ∷ codes ">>" ∷ codes "/" ∷ codes "%" ∷ codes "&" ∷ codes "+" ∷
    codes "-" ∷ codes "*" ∷ []

-- a base type, and how many stars a tree holds
abbrev pub is_named_base : Base → Bool
is_named_base (base.Int kind) = true
is_named_base (base.Struct place name) = is_name name
is_named_base base.Void = true
is_named_base base.Lock = true

abbrev pub are_stars : ℕ → Bool
are_stars n = nat_le n 4294967295

-- where it may stand
pub record Shape : Type 0 where
  pub expression : Bool
  pub called : Bool
  pub argument : Bool

abbrev pub standing : Bool → Shape
standing b = record { expression = b; called = b; argument = b }

abbrev pub only_argument : Bool → Shape
only_argument b = record { expression = false; called = false; argument = b }

abbrev pub argument_of : Shape → Bool
argument_of s = s.argument

abbrev pub what_shaped : FormWhat-F Shape Shape → Shape
what_shaped (FormWhat-F.Number n kind) = standing (is_written n kind)
what_shaped FormWhat-F.Null = standing true
what_shaped (FormWhat-F.Name name) = record { expression = is_name name; called = is_name name || is_among services name; argument = is_name name }
what_shaped (FormWhat-F.Prefix op a) = standing (is_prefix op && a.expression)
what_shaped (FormWhat-F.Post op a) = standing (is_step op && a.expression)
what_shaped (FormWhat-F.Cast base n a) = standing (is_named_base base && (are_stars n && a.expression))
what_shaped (FormWhat-F.Binary op a b) = standing (is_among binaries op && (a.expression && b.expression))
what_shaped (FormWhat-F.Choice c a b) = standing (c.expression && (a.expression && b.expression))
what_shaped (FormWhat-F.Subscript a i) = standing (a.expression && i.expression)
what_shaped (FormWhat-F.Member a is_arrow place name) = standing (a.expression && is_name name)
what_shaped (FormWhat-F.Call f args) = standing (f.called && all (map argument_of args))
what_shaped (FormWhat-F.Text bytes) = only_argument (list_all is_writable bytes)
what_shaped (FormWhat-F.Base base n) = only_argument (is_named_base base && are_stars n)

abbrev pub form_shaped : Form-F Shape Shape → Shape
form_shaped f = f.what

abbrev pub shape_of : Form → Shape
shape_of = fold-Form Shape Shape what_shaped form_shaped

abbrev pub shape_of_what : FormWhat → Shape
shape_of_what = fold-FormWhat Shape Shape what_shaped form_shaped
