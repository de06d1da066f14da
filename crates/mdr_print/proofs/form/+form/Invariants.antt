use Rattle.std.proofs.Common.{◌≡◌, ◌++◌, drop, map, List}
use Rattle.mdr_print.specs.Marks.{Mark, spell, separated, comma_list}
use Rattle.mdr_print.specs.Forms.{marks_of, shown_form}
use Rattle.mdr_print.proofs.form.+form.Given as goal

abbrev pub invariant-put_forms-loop-f : goal.invariant-put_forms-loop-f
invariant-put_forms-loop-f l = (rest : List Mark) → l.out.items ++ spell (separated l.is_first (map marks_of (map shown_form (drop l.f-index l.forms))) rest) ≡ l.initial.out.items ++ spell (comma_list (map marks_of (map shown_form l.forms)) rest)
