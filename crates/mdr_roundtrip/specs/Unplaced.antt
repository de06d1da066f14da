-- for proofs
-- Expressions with their places set aside.
use Rattle.std.specs.Prelude.{List, map}
use Rattle.mdr_core.specs.declared.place.Place.{Place}
use Rattle.mdr_syntax.specs.declared.token.Lexeme.{Lexeme}
use Rattle.mdr_syntax.specs.declared.token.Token.{Token}
use Rattle.mdr_syntax.specs.declared.tree.Base.{Base}
use Rattle.mdr_syntax.specs.declared.tree.Base.TheVariants as base
use Rattle.mdr_syntax.specs.declared.tree.Form.{Form}
use Rattle.mdr_syntax.specs.declared.tree.FormWhat
use Rattle.mdr_syntax.specs.declared.tree.FormWhat.{FormWhat}
use Rattle.mdr_syntax.specs.declared.tree.FormWhat.TheOpen.{Form-F, FormWhat-F}
use Rattle.mdr_syntax.specs.declared.tree.FormWhat.TheFolds.{fold-Form, fold-FormWhat}
use Rattle.mdr_syntax.specs.Places.{first_place}

-- one place for all
abbrev pub nowhere : Place
nowhere = first_place

abbrev pub at : Lexeme → Token
at what = record { place = nowhere; what = what }

abbrev pub all_at : List Lexeme → List Token
all_at lexemes = map at lexemes

abbrev pub unplaced_base : Base → Base
unplaced_base (base.Int kind) = base.Int kind
unplaced_base (base.Struct place name) = base.Struct nowhere name
unplaced_base base.Void = base.Void
unplaced_base base.Lock = base.Lock

abbrev pub what_unplaced : FormWhat-F FormWhat Form → FormWhat
what_unplaced (FormWhat-F.Number n kind) = FormWhat.Number n kind
what_unplaced FormWhat-F.Null = FormWhat.Null
what_unplaced (FormWhat-F.Name name) = FormWhat.Name name
what_unplaced (FormWhat-F.Prefix op a) = FormWhat.Prefix op a
what_unplaced (FormWhat-F.Post op a) = FormWhat.Post op a
what_unplaced (FormWhat-F.Cast base n a) = FormWhat.Cast (unplaced_base base) n a
what_unplaced (FormWhat-F.Binary op a b) = FormWhat.Binary op a b
what_unplaced (FormWhat-F.Choice c a b) = FormWhat.Choice c a b
what_unplaced (FormWhat-F.Subscript a i) = FormWhat.Subscript a i
what_unplaced (FormWhat-F.Member a is_arrow place name) = FormWhat.Member a is_arrow nowhere name
what_unplaced (FormWhat-F.Call f args) = FormWhat.Call f args
what_unplaced (FormWhat-F.Text bytes) = FormWhat.Text bytes
what_unplaced (FormWhat-F.Base base n) = FormWhat.Base (unplaced_base base) n

abbrev pub form_unplaced : Form-F FormWhat Form → Form
form_unplaced f = record { place = nowhere; what = f.what }

abbrev pub unplaced_form : Form → Form
unplaced_form = fold-Form FormWhat Form what_unplaced form_unplaced

abbrev pub unplaced_what : FormWhat → FormWhat
unplaced_what = fold-FormWhat FormWhat Form what_unplaced form_unplaced
