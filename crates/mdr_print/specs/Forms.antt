-- believed
-- Expressions (C99 6.5).
use Rattle.std.specs.Prelude.{Bool, true, false, not, ◌||◌, List, map, codes}
use Rattle.mdr_syntax.specs.declared.tree.Form.{Form}
use Rattle.mdr_syntax.specs.declared.tree.FormWhat.{FormWhat}
use Rattle.mdr_syntax.specs.declared.tree.FormWhat.TheOpen.{Form-F, FormWhat-F}
use Rattle.mdr_syntax.specs.declared.tree.FormWhat.TheFolds.{fold-Form, fold-FormWhat}
use Rattle.mdr_print.specs.Marks.{Marks, word, sign, number, quoted, spaced, in_parentheses, in_brackets, comma_list, ◌▸◌}
use Rattle.mdr_print.specs.Types.{type_name}

-- an expression's text, whether it is an operator form (no name, literal or postfix form), whether it is a number, and whether it is a unary expression (6.5.3)
pub record Shown : Type 0 where
  pub is_operator : Bool
  pub is_number : Bool
  pub is_unary : Bool
  pub marks : Marks

abbrev pub marks_of : Shown → Marks
marks_of s = s.marks

abbrev pub plain : Marks → Shown
plain marks = record { is_operator = false; is_number = false; is_unary = true; marks = marks }

abbrev pub literal : Marks → Shown
literal marks = record { is_operator = false; is_number = true; is_unary = true; marks = marks }

abbrev pub operator : Marks → Shown
operator marks = record { is_operator = true; is_number = false; is_unary = false; marks = marks }

abbrev pub prefixed : Marks → Shown
prefixed marks = record { is_operator = true; is_number = false; is_unary = true; marks = marks }

abbrev pub parenthesised_if : Bool → Marks → Marks
parenthesised_if true marks = in_parentheses marks
parenthesised_if false marks = marks

-- an operand that is an operator form is in parentheses
abbrev pub operand : Shown → Marks
operand s = parenthesised_if s.is_operator s.marks

-- a `.` right behind a number would belong to the number
abbrev pub is_apart : (is_arrow : Bool) → Shown → Bool
is_apart true s = s.is_operator
is_apart false s = s.is_operator || s.is_number

abbrev pub owner : (is_arrow : Bool) → Shown → Marks
owner is_arrow s = parenthesised_if (is_apart is_arrow s) s.marks

abbrev pub member_sign : (is_arrow : Bool) → Marks
member_sign true = sign (codes "->")
member_sign false = sign (codes ".")

abbrev pub arguments : List Shown → Marks
arguments args = in_parentheses (comma_list (map marks_of args))

abbrev pub what_shown : FormWhat-F Shown Shown → Shown
what_shown (FormWhat-F.Number n kind) = literal (number n kind)
what_shown FormWhat-F.Null = plain (word (codes "NULL"))
what_shown (FormWhat-F.Name name) = plain (word name)
what_shown (FormWhat-F.Prefix op a) = prefixed (sign op ▸ operand a)
what_shown (FormWhat-F.Post op a) = plain (operand a ▸ sign op)
what_shown (FormWhat-F.Cast base n a) = operator (in_parentheses (type_name base n) ▸ operand a)
what_shown (FormWhat-F.Binary op a b) = operator (operand a ▸ spaced op ▸ operand b)
what_shown (FormWhat-F.Choice c a b) = operator (operand c ▸ spaced (codes "?") ▸ operand a ▸ spaced (codes ":") ▸ operand b)
what_shown (FormWhat-F.Subscript a i) = plain (operand a ▸ in_brackets i.marks)
what_shown (FormWhat-F.Member a is_arrow place name) = plain (owner is_arrow a ▸ member_sign is_arrow ▸ word name)
what_shown (FormWhat-F.Call f args) = plain (operand f ▸ arguments args)
what_shown (FormWhat-F.Text bytes) = plain (quoted bytes)
what_shown (FormWhat-F.Base base n) = plain (type_name base n)

abbrev pub form_shown : Form-F Shown Shown → Shown
form_shown f = f.what

abbrev pub shown_form : Form → Shown
shown_form = fold-Form Shown Shown what_shown form_shown

abbrev pub shown_what : FormWhat → Shown
shown_what = fold-FormWhat Shown Shown what_shown form_shown

abbrev pub form : Form → Marks
form f = (shown_form f).marks

-- the left side of an assignment is a unary expression (6.5.16); any other is in parentheses
abbrev pub left_of : Shown → Marks
left_of s = parenthesised_if (not s.is_unary) s.marks

abbrev pub left_side : Form → Marks
left_side f = left_of (shown_form f)
