-- What annotations see of a declaration.
use Rattle.std.proofs.Common.{◌≡◌, ◌&&◌, not, is_some, ap}
use Rattle.mdr_core.specs.declared.types.Ty.{Ty}
use Rattle.mdr_core.specs.Types.{is_scalar}
use Rattle.mdr_syntax.specs.declared.tree.Decl.{Decl, out-Decl}
use Rattle.mdr_faults.specs.declared.scope.Scope.{Scope}
use Rattle.mdr_faults.specs.Declarations.{Declarator, declarator}
use Rattle.mdr_faults.specs.Faults.{Right, told}
use Rattle.mdr_headings.specs.Annotations.{is_integer, candidate, candidate_by}
use Rattle.mdr_sound.proofs.Scoping.{same_declarator}

pub candidate_integer : (scope : Scope) (d : Decl) (t : Ty) → (declarator scope d).whole ≡ Right t → (candidate scope d).is_integer ≡ (is_integer t && not (is_some (out-Decl d).size))
unfolding candidate
candidate_integer scope d t e = ap (λ r. (candidate_by (out-Decl d).name (is_some (out-Decl d).size) r).is_integer) (ap told e)

pub candidate_scalar : (scope : Scope) (d : Decl) (t : Ty) → (declarator scope d).whole ≡ Right t → (candidate scope d).is_scalar ≡ (is_scalar t && not (is_some (out-Decl d).size))
unfolding candidate
candidate_scalar scope d t e = ap (λ r. (candidate_by (out-Decl d).name (is_some (out-Decl d).size) r).is_scalar) (ap told e)

pub same_candidate : (scope other : Scope) (d : Decl) → scope.tags ≡ other.tags → candidate scope d ≡ candidate other d
unfolding candidate
same_candidate scope other d e = ap (λ (x : Declarator). candidate_by (out-Decl d).name (is_some (out-Decl d).size) (told x.whole)) (same_declarator scope other d e)
