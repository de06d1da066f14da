-- for proofs
-- Expressions that are statements by themselves: calls, and forms with `++` or `--` (C99 6.8.3).
use Rattle.std.specs.Prelude.{Bool, true, false}
use Rattle.mdr_syntax.specs.declared.tree.Form.{Form}
use Rattle.mdr_syntax.specs.declared.tree.FormWhat.{FormWhat}
use Rattle.mdr_syntax.specs.declared.tree.FormWhat.TheOpen.{Form-F, FormWhat-F}
use Rattle.mdr_syntax.specs.declared.tree.FormWhat.TheFolds.{fold-Form, fold-FormWhat}
use Rattle.mdr_roundtrip.specs.Words.{is_step}

abbrev pub what_alone : FormWhat-F Bool Bool → Bool
what_alone (FormWhat-F.Prefix op a) = is_step op
what_alone (FormWhat-F.Post op a) = true
what_alone (FormWhat-F.Call f args) = true
what_alone _ = false

abbrev pub form_alone : Form-F Bool Bool → Bool
form_alone f = f.what

abbrev pub is_alone : Form → Bool
is_alone = fold-Form Bool Bool what_alone form_alone

abbrev pub is_alone_what : FormWhat → Bool
is_alone_what = fold-FormWhat Bool Bool what_alone form_alone
