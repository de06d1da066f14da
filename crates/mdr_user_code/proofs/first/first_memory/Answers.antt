use Rattle.std.proofs.Common.{sym, ◌∙◌, ap, subst}
use Rattle.mdr_copy.specs.Serials.{Rise}
use Rattle.mdr_meaning.specs.Bodies.{known_of}
use Rattle.mdr_plain.specs.Storage.{global_blocks}
use Rattle.mdr_user_code.proofs.FirstLaws.{globals_rise}
use Rattle.mdr_user_code.proofs.first.first_memory.Goals as goal

pub global_blocks-requires : goal.global_blocks-requires
global_blocks-requires c = c.requires.types

pub of-requires : goal.of-requires
of-requires c = subst Rise (sym (c.in_ok-blocks.ensures ∙ ap (global_blocks (known_of c.args.program.now) 0) c.as_slice.ensures)) (globals_rise (known_of c.args.program.now) c.args.program.now.globals)
