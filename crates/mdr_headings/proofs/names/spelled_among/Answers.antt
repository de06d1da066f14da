use Rattle.std.proofs.Common.{ap}
use Rattle.std.proofs.Math.Path.{◌∙◌, sym}
use Rattle.std.specs.Prelude.{not}
use Rattle.mdr_syntax.specs.declared.tree.Decl.{out-Decl}
use Rattle.mdr_faults.specs.declared.fault.FaultKind.TheVariants.{Redefined}
use Rattle.mdr_faults.specs.Faults.{told, demand}
use Rattle.mdr_headings.specs.Names.{spelled}
use Rattle.mdr_headings.proofs.Shortness.{among_is}
use Rattle.mdr_headings.proofs.names.spelled_among.Goals as goal

pub returns : goal.returns
returns c = λ e.
    c.demanded.ensures _ e
    ∙ ap (λ t. told (demand (out-Decl c.args.d.now).place Redefined (not t) (spelled c.args.d.now).names)) c.is_declared.ensures
    ∙ ap told (sym (among_is c.args.before.now c.args.d.now))
