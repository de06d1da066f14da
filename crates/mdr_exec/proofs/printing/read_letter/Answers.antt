use Rattle.std.proofs.Common.{◌++◌, ◌∙◌, ap, rules}
use Rattle.std.specs.Int.{w128}
use Rattle.std.proofs.lemmas.Int.{to_z-of_z}
use Rattle.mdr_meaning.specs.Printed.{shown}
use Rattle.mdr_meaning.specs.Values.{integer}
use Rattle.mdr_events.specs.Values.{wires_of}
use Rattle.mdr_exec.proofs.PrintLaws.{letter_put}
use Rattle.mdr_exec.proofs.printing.read_letter.Goals as goal

pub returns : goal.returns
returns c =
    letter_put c.args.out.now.items c.args.letter (wires_of c.args.args.now) c.put_shown.new.out.items (wires_of c.behind_first.result.now)
    (c.in_ok-put_shown.ensures ∙ ap (λ n. c.args.out.now.items ++ shown c.args.letter n) (to_z-of_z w128 c.integer.result (search rules) ∙ c.integer.ensures ∙ ap integer c.first.ensures)) c.behind_first.ensures
