-- for proofs
-- Expressions whose text can be read again.
use Rattle.std.specs.Prelude.{Bool, true, ◌&&◌, List}
use Rattle.std.specs.List.{list_all}
use Rattle.mdr_syntax.specs.declared.tree.Form.{Form}
use Rattle.mdr_syntax.specs.declared.tree.FormWhat.{FormWhat}
use Rattle.mdr_syntax.specs.declared.tree.FormWhat.TheOpen.{Form-F, FormWhat-F}
use Rattle.mdr_syntax.specs.declared.tree.FormWhat.TheFolds.{fold-Form, fold-FormWhat}
use Rattle.mdr_roundtrip.specs.Words.{is_word, is_written, is_writable, is_sign, is_prefix, is_step, is_base}

abbrev pub all : List Bool → Bool
all bs = list_all (λ b. b) bs

abbrev pub what_printable : FormWhat-F Bool Bool → Bool
what_printable (FormWhat-F.Number n kind) = is_written n kind
what_printable FormWhat-F.Null = true
what_printable (FormWhat-F.Name name) = is_word name
what_printable (FormWhat-F.Prefix op a) = is_prefix op && a
what_printable (FormWhat-F.Post op a) = is_step op && a
what_printable (FormWhat-F.Cast base n a) = is_base base && a
what_printable (FormWhat-F.Binary op a b) = is_sign op && (a && b)
what_printable (FormWhat-F.Choice c a b) = c && (a && b)
what_printable (FormWhat-F.Subscript a i) = a && i
what_printable (FormWhat-F.Member a is_arrow place name) = a && is_word name
what_printable (FormWhat-F.Call f args) = f && all args
what_printable (FormWhat-F.Text bytes) = list_all is_writable bytes
what_printable (FormWhat-F.Base base n) = is_base base

abbrev pub form_printable : Form-F Bool Bool → Bool
form_printable f = f.what

abbrev pub is_printable_form : Form → Bool
is_printable_form = fold-Form Bool Bool what_printable form_printable

abbrev pub is_printable_what : FormWhat → Bool
is_printable_what = fold-FormWhat Bool Bool what_printable form_printable
