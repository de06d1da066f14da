-- What is dropped beside what is kept, and what depends on the names of structs alone.
use Rattle.std.proofs.Common.{◌≡◌, ◌∙◌}
use Rattle.mdr_syntax.specs.declared.tree.Decl.{Decl}
use Rattle.mdr_syntax.specs.declared.tree.Head.{Head}
use Rattle.mdr_faults.specs.declared.scope.Scope.{Scope}
use Rattle.mdr_faults.specs.Declarations.{declarator}
use Rattle.mdr_faults.specs.Faults.{Checked, Right}
use Rattle.mdr_headings.specs.Heads.{head_result}
use Rattle.mdr_headings.specs.Within.{beside}
use Rattle.mdr_sound.proofs.Rights.{both_right}

-- what is kept is right by itself
pub beside_right : {A B : Type 0} (c : Checked A) (d : Checked B) (x : B) → beside c d ≡ Right x → d ≡ Right x
beside_right c d x e = let b = both_right c d (λ y z. Right z) x e in b.second ∙ b.made

-- a declaration's type depends on the tags alone
pub same_declarator : (scope other : Scope) (d : Decl) → scope.tags ≡ other.tags → declarator scope d ≡ declarator other d
same_declarator scope other d e = λ i. declarator (record scope { tags = e i }) d

-- so does a function's result
pub same_result : (scope other : Scope) (h : Head) → scope.tags ≡ other.tags → head_result scope h ≡ head_result other h
unfolding head_result
same_result scope other h e = λ i. head_result (record scope { tags = e i }) h
