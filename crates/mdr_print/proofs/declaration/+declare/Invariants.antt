use Rattle.std.proofs.Common.{◌≡◌, ◌++◌, drop, map, List}
use Rattle.mdr_print.specs.Marks.{Mark, spell, separated, comma_list}
use Rattle.mdr_print.specs.Declarations.{whole_of, shown_decl}
use Rattle.mdr_print.proofs.declaration.+declare.Given as goal

abbrev pub invariant-put_declarations-loop-d : goal.invariant-put_declarations-loop-d
invariant-put_declarations-loop-d l = (rest : List Mark) → l.out.items ++ spell (separated l.is_first (map whole_of (map shown_decl (drop l.d-index l.decls))) rest) ≡ l.initial.out.items ++ spell (comma_list (map whole_of (map shown_decl l.decls)) rest)
