-- The access forms of a `for`: those of what it begins with, and of its loop.
use Rattle.std.proofs.Common.{◌≡◌, List, [], ◌∷◌, ◌++◌, map, Option, Some, None, refl, sym, ap, ◌∙◌, append_assoc, append-nil}
use Rattle.std.specs.Option.{option_map}
use Rattle.mdr_core.specs.declared.code.Expr.{Expr}
use Rattle.mdr_core.specs.declared.code.Stmt.{Stmt}
use Rattle.mdr_core.specs.declared.code.Step.TheVariants as step
use Rattle.mdr_core.specs.declared.program.Program.{Program}
use Rattle.mdr_core.specs.Code.{Code}
use Rattle.mdr_core.specs.Folds.{term_of, code_list, test_of, before, code_of, codes_of}
use Rattle.mdr_core.specs.Typing.{Slot}
use Rattle.mdr_slice.proofs.Bodies.{for_code}
use Rattle.mdr_access.specs.Forms.{Form, option_forms, term_forms, code_forms, all_code_forms}

module _ (program : Program) (slots : List Slot) where
  forms_before : (cs : List Code) (c : Code) → all_code_forms program slots (before cs c) ≡ all_code_forms program slots (code_list cs) ++ code_forms program slots c
  forms_before [] c = append-nil (code_forms program slots c)
  forms_before (d ∷ ds) c =
      ap (λ xs. code_forms program slots d ++ xs) (forms_before ds c) ∙ sym (append_assoc (code_forms program slots d) (all_code_forms program slots (code_list ds)) (code_forms program slots c))

  test_forms : (test : Option Expr) → term_forms program slots (test_of test) ≡ option_forms program slots (option_map term_of test)
  test_forms None = refl
  test_forms (Some e) = refl

  for_forms : (s : Stmt) (init : List Stmt) (test : Option Expr) (next body : List Stmt) → s.step ≡ step.For init test next body
      → code_forms program slots (code_of s)
      ≡ all_code_forms program slots (codes_of init) ++ (option_forms program slots (option_map term_of test) ++ (all_code_forms program slots (codes_of next) ++ all_code_forms program slots (codes_of body)))
  for_forms s init test next body is =
      ap (code_forms program slots) (for_code s init test next body is)
      ∙ forms_before (map code_of init) _
      ∙ ap (λ us. all_code_forms program slots (codes_of init) ++ (us ++ (all_code_forms program slots (codes_of next) ++ all_code_forms program slots (codes_of body)))) (test_forms test)

  pub for_adds_forms : (s : Stmt) (init : List Stmt) (test : Option Expr) (next body : List Stmt) → s.step ≡ step.For init test next body
      → (xs ys zs : List Stmt) → xs ≡ init → ys ≡ next → zs ≡ body → (old a t b now : List Form)
      → a ≡ old ++ all_code_forms program slots (codes_of xs) → t ≡ a ++ option_forms program slots (option_map term_of test) → b ≡ t ++ all_code_forms program slots (codes_of ys)
      → now ≡ b ++ all_code_forms program slots (codes_of zs) → now ≡ old ++ code_forms program slots (code_of s)
  for_adds_forms s init test next body is xs ys zs ex ey ez old a t b now ea et eb en =
      let i = all_code_forms program slots (codes_of init) in
      let o = option_forms program slots (option_map term_of test) in
      let n = all_code_forms program slots (codes_of next) in
      let z = all_code_forms program slots (codes_of body) in
      en
      ∙ ap (λ (us : List Stmt). b ++ all_code_forms program slots (codes_of us)) ez
      ∙ ap (λ us. us ++ z) (eb ∙ ap (λ (us : List Stmt). t ++ all_code_forms program slots (codes_of us)) ey)
      ∙ ap (λ us. (us ++ n) ++ z) (et ∙ ap (λ us. us ++ o) (ea ∙ ap (λ (us : List Stmt). old ++ all_code_forms program slots (codes_of us)) ex))
      ∙ append_assoc ((old ++ i) ++ o) n z
      ∙ append_assoc (old ++ i) o (n ++ z)
      ∙ append_assoc old i (o ++ (n ++ z))
      ∙ ap (λ us. old ++ us) (sym (for_forms s init test next body is))
