-- What a `for` allocates: what it begins with stands in front of its loop.
use Rattle.std.proofs.Common.{◌≡◌, List, [], ◌∷◌, ◌++◌, map, Option, ap, append_assoc, append-nil}
use Rattle.std.proofs.Math.Path.{sym, ◌∙◌}
use Rattle.mdr_core.specs.declared.code.Expr.{Expr}
use Rattle.mdr_core.specs.declared.code.Stmt.{Stmt}
use Rattle.mdr_core.specs.declared.code.Step.TheVariants as step
use Rattle.mdr_core.specs.declared.types.Ty.{Ty}
use Rattle.mdr_core.specs.Code.{Code}
use Rattle.mdr_core.specs.Folds.{code_list, test_of, before, code_of, codes_of}
use Rattle.mdr_core.proofs.Coded.{code_is, for_is}
use Rattle.mdr_program.specs.Occurring.{allocated, allocated_in}

allocated_before : (cs : List Code) (c : Code) → allocated_in (before cs c) ≡ allocated_in (code_list cs) ++ allocated c
allocated_before [] c = append-nil (allocated c)
allocated_before (d ∷ ds) c = ap (λ (xs : List Ty). allocated d ++ xs) (allocated_before ds c) ∙ sym (append_assoc (allocated d) (allocated_in (code_list ds)) (allocated c))

for_is_allocated : (s : Stmt) (init : List Stmt) (test : Option Expr) (next body : List Stmt) → s.step ≡ step.For init test next body
    → allocated (code_of s) ≡ allocated_in (codes_of init) ++ (allocated_in (codes_of next) ++ allocated_in (codes_of body))
for_is_allocated s init test next body is = ap allocated (code_is s _ is ∙ for_is s.number init test next body) ∙ allocated_before (map code_of init) (Code.Loop s.number (test_of test) (codes_of next) (codes_of body))

pub for_allocates : (s : Stmt) (init : List Stmt) (test : Option Expr) (next body : List Stmt) → s.step ≡ step.For init test next body
    → (xs ys zs : List Stmt) → xs ≡ init → ys ≡ next → zs ≡ body → (old a b now : List Ty)
    → a ≡ old ++ allocated_in (codes_of xs) → b ≡ a ++ allocated_in (codes_of ys) → now ≡ b ++ allocated_in (codes_of zs) → now ≡ old ++ allocated (code_of s)
for_allocates s init test next body is xs ys zs ex ey ez old a b now ea eb en =
    en
    ∙ ap (λ (us : List Stmt). b ++ allocated_in (codes_of us)) ez
    ∙ ap (λ (us : List Ty). us ++ allocated_in (codes_of body)) (eb ∙ ap (λ (us : List Stmt). a ++ allocated_in (codes_of us)) ey)
    ∙ ap (λ (us : List Ty). (us ++ allocated_in (codes_of next)) ++ allocated_in (codes_of body)) (ea ∙ ap (λ (us : List Stmt). old ++ allocated_in (codes_of us)) ex)
    ∙ append_assoc (old ++ allocated_in (codes_of init)) (allocated_in (codes_of next)) (allocated_in (codes_of body))
    ∙ append_assoc old (allocated_in (codes_of init)) (allocated_in (codes_of next) ++ allocated_in (codes_of body))
    ∙ ap (λ (us : List Ty). old ++ us) (sym (for_is_allocated s init test next body is))
