use Rattle.std.proofs.Common.{ap, []}
use Rattle.std.proofs.Math.Path.{◌∙◌}
use Rattle.mdr_syntax.specs.declared.tree.Decl.{out-Decl}
use Rattle.mdr_headings.specs.Annotations.{annotated}
use Rattle.mdr_faults.specs.Faults.{told, both}
use Rattle.mdr_check.specs.Globals.{first_value, variable_of, variable}
use Rattle.mdr_check.proofs.variable.annotated_variable.Goals as goal

pub returns : goal.returns
unfolding variable
returns c =
    c.variable_of.ensures (annotated c.args.scope.now [] (out-Decl c.args.d.now).place c.args.object.ty (out-Decl c.args.d.now).ann) (first_value c.args.scope.now c.args.own (out-Decl c.args.d.now).place c.args.init.now c.args.object) c.in_ok-ann.ensures c.in_ok-first.ensures
    ∙ ap (λ n. told (both (annotated c.args.scope.now [] (out-Decl c.args.d.now).place c.args.object.ty (out-Decl c.args.d.now).ann) (first_value c.args.scope.now c.args.own (out-Decl c.args.d.now).place c.args.init.now c.args.object) (variable_of n c.args.object))) c.in_ok-name.ensures
