use Rattle.std.proofs.Common.{ap}
use Rattle.std.proofs.Math.Path.{◌∙◌, sym}
use Rattle.mdr_faults.specs.Faults.{told}
use Rattle.mdr_faults.proofs.Declarators.{among_is}
use Rattle.mdr_faults.proofs.declarator.parameter_among.Goals as goal

pub returns : goal.returns
returns c = λ scope e. c.demanded.ensures _ e ∙ ap told (sym (among_is scope c.args.before.now c.args.d.now))
