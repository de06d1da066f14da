use Rattle.std.proofs.Common.{◌≡◌, drop, false}
use Rattle.mdr_syntax.specs.Quoted.{text_from}
use Rattle.mdr_syntax.proofs.Texts.{behind}
use Rattle.mdr_syntax.proofs.quoted.text.Given as goal

abbrev pub invariant-loop-i : goal.invariant-loop-i
invariant-loop-i l = behind l.text l.i (text_from l.is_escaped (drop l.i l.bytes)) ≡ text_from false l.bytes
