-- The fields that a `for` exposes: those of what it begins with, and of its loop.
use Rattle.std.proofs.Common.{◌≡◌, List, [], ◌∷◌, ◌++◌, map, Option, Some, None, refl, sym, ap, ◌∙◌, append_assoc, append-nil}
use Rattle.std.specs.Option.{option_map}
use Rattle.mdr_core.specs.declared.code.Expr.{Expr}
use Rattle.mdr_core.specs.declared.code.Stmt.{Stmt}
use Rattle.mdr_core.specs.declared.code.Step.TheVariants as step
use Rattle.mdr_core.specs.declared.program.Program.{Program}
use Rattle.mdr_core.specs.Code.{Code}
use Rattle.mdr_core.specs.Folds.{term_of, code_list, test_of, before, code_of, codes_of}
use Rattle.mdr_core.specs.declared.plan.Key.{Key}
use Rattle.mdr_core.specs.Typing.{Slot}
use Rattle.mdr_slice.proofs.Bodies.{for_code}
use Rattle.mdr_access.specs.Exposed.{option_fields, term_fields, code_fields, all_code_fields}

module _ (program : Program) (slots : List Slot) where
  fields_before : (cs : List Code) (c : Code) → all_code_fields program slots (before cs c) ≡ all_code_fields program slots (code_list cs) ++ code_fields program slots c
  fields_before [] c = append-nil (code_fields program slots c)
  fields_before (d ∷ ds) c =
      ap (λ xs. code_fields program slots d ++ xs) (fields_before ds c) ∙ sym (append_assoc (code_fields program slots d) (all_code_fields program slots (code_list ds)) (code_fields program slots c))

  test_fields : (test : Option Expr) → term_fields program slots (test_of test) ≡ option_fields program slots (option_map term_of test)
  test_fields None = refl
  test_fields (Some e) = refl

  for_fields : (s : Stmt) (init : List Stmt) (test : Option Expr) (next body : List Stmt) → s.step ≡ step.For init test next body
      → code_fields program slots (code_of s)
      ≡ all_code_fields program slots (codes_of init) ++ (option_fields program slots (option_map term_of test) ++ (all_code_fields program slots (codes_of next) ++ all_code_fields program slots (codes_of body)))
  for_fields s init test next body is =
      ap (code_fields program slots) (for_code s init test next body is)
      ∙ fields_before (map code_of init) _
      ∙ ap (λ us. all_code_fields program slots (codes_of init) ++ (us ++ (all_code_fields program slots (codes_of next) ++ all_code_fields program slots (codes_of body)))) (test_fields test)

  pub for_adds_fields : (s : Stmt) (init : List Stmt) (test : Option Expr) (next body : List Stmt) → s.step ≡ step.For init test next body
      → (xs ys zs : List Stmt) → xs ≡ init → ys ≡ next → zs ≡ body → (old a t b now : List Key)
      → a ≡ old ++ all_code_fields program slots (codes_of xs) → t ≡ a ++ option_fields program slots (option_map term_of test) → b ≡ t ++ all_code_fields program slots (codes_of ys)
      → now ≡ b ++ all_code_fields program slots (codes_of zs) → now ≡ old ++ code_fields program slots (code_of s)
  for_adds_fields s init test next body is xs ys zs ex ey ez old a t b now ea et eb en =
      let i = all_code_fields program slots (codes_of init) in
      let o = option_fields program slots (option_map term_of test) in
      let n = all_code_fields program slots (codes_of next) in
      let z = all_code_fields program slots (codes_of body) in
      en
      ∙ ap (λ (us : List Stmt). b ++ all_code_fields program slots (codes_of us)) ez
      ∙ ap (λ us. us ++ z) (eb ∙ ap (λ (us : List Stmt). t ++ all_code_fields program slots (codes_of us)) ey)
      ∙ ap (λ us. (us ++ n) ++ z) (et ∙ ap (λ us. us ++ o) (ea ∙ ap (λ (us : List Stmt). old ++ all_code_fields program slots (codes_of us)) ex))
      ∙ append_assoc ((old ++ i) ++ o) n z
      ∙ append_assoc (old ++ i) o (n ++ z)
      ∙ append_assoc old i (o ++ (n ++ z))
      ∙ ap (λ us. old ++ us) (sym (for_fields s init test next body is))
