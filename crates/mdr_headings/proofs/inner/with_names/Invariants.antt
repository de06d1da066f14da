use Rattle.std.proofs.Common.{◌≡◌, drop, ◌++◌, map}
use Rattle.mdr_syntax.specs.declared.tree.Decl.{Decl, out-Decl}
use Rattle.mdr_headings.specs.Annotations.{bare}
use Rattle.mdr_headings.proofs.inner.with_names.Given as goal

abbrev pub invariant-loop-d : goal.invariant-loop-d
invariant-loop-d l = l.all ++ map (λ (d : Decl). bare (out-Decl d).name) (drop l.d-index l.ds) ≡ l.initial.all ++ map (λ (d : Decl). bare (out-Decl d).name) l.ds
