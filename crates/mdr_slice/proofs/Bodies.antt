-- The code of a `for`: a block of what it begins with and its loop.
use Rattle.std.proofs.Common.{◌≡◌, ℕ, List, [], ◌∷◌, ◌++◌, map, Option, Some, None, refl, sym, ap, ◌∙◌, append_assoc, append-nil}
use Rattle.std.specs.Option.{option_map}
use Rattle.mdr_core.specs.declared.code.Expr.{Expr}
use Rattle.mdr_core.specs.declared.code.Stmt.{Stmt}
use Rattle.mdr_core.specs.declared.code.Step.TheVariants as step
use Rattle.mdr_core.specs.Code.{CallOf, Code}
use Rattle.mdr_core.specs.Folds.{term_of, code_list, test_of, before, code_of, codes_of}
use Rattle.mdr_core.proofs.Coded.{code_is, for_is}
use Rattle.mdr_slice.specs.Calls.{calls, all_calls, option_names, term_names, code_names, all_code_names}

pub for_code : (s : Stmt) (init : List Stmt) (test : Option Expr) (next body : List Stmt) → s.step ≡ step.For init test next body
    → code_of s ≡ Code.Block (before (map code_of init) (Code.Loop s.number (test_of test) (codes_of next) (codes_of body)))
for_code s init test next body is = code_is s _ is ∙ for_is s.number init test next body

-- ---- calls

calls_before : (cs : List Code) (c : Code) → all_calls (before cs c) ≡ all_calls (code_list cs) ++ calls c
calls_before [] c = append-nil (calls c)
calls_before (d ∷ ds) c = ap (λ xs. calls d ++ xs) (calls_before ds c) ∙ sym (append_assoc (calls d) (all_calls (code_list ds)) (calls c))

pub for_calls : (s : Stmt) (init : List Stmt) (test : Option Expr) (next body : List Stmt) → s.step ≡ step.For init test next body
    → calls (code_of s) ≡ all_calls (codes_of init) ++ (all_calls (codes_of next) ++ all_calls (codes_of body))
for_calls s init test next body is = ap calls (for_code s init test next body is) ∙ calls_before (map code_of init) _

pub for_adds_calls : (s : Stmt) (init : List Stmt) (test : Option Expr) (next body : List Stmt) → s.step ≡ step.For init test next body
    → (xs ys zs : List Stmt) → xs ≡ init → ys ≡ next → zs ≡ body → (old a b now : List CallOf)
    → a ≡ old ++ all_calls (codes_of xs) → b ≡ a ++ all_calls (codes_of ys) → now ≡ b ++ all_calls (codes_of zs) → now ≡ old ++ calls (code_of s)
for_adds_calls s init test next body is xs ys zs ex ey ez old a b now ea eb en =
    en
    ∙ ap (λ (us : List Stmt). b ++ all_calls (codes_of us)) ez
    ∙ ap (λ us. us ++ all_calls (codes_of body)) (eb ∙ ap (λ (us : List Stmt). a ++ all_calls (codes_of us)) ey)
    ∙ ap (λ us. (us ++ all_calls (codes_of next)) ++ all_calls (codes_of body)) (ea ∙ ap (λ (us : List Stmt). old ++ all_calls (codes_of us)) ex)
    ∙ append_assoc (old ++ all_calls (codes_of init)) (all_calls (codes_of next)) (all_calls (codes_of body))
    ∙ append_assoc old (all_calls (codes_of init)) (all_calls (codes_of next) ++ all_calls (codes_of body))
    ∙ ap (λ us. old ++ us) (sym (for_calls s init test next body is))

-- ---- names

names_before : (cs : List Code) (c : Code) → all_code_names (before cs c) ≡ all_code_names (code_list cs) ++ code_names c
names_before [] c = append-nil (code_names c)
names_before (d ∷ ds) c = ap (λ xs. code_names d ++ xs) (names_before ds c) ∙ sym (append_assoc (code_names d) (all_code_names (code_list ds)) (code_names c))

test_names : (test : Option Expr) → term_names (test_of test) ≡ option_names (option_map term_of test)
test_names None = refl
test_names (Some e) = refl

pub for_names : (s : Stmt) (init : List Stmt) (test : Option Expr) (next body : List Stmt) → s.step ≡ step.For init test next body
    → code_names (code_of s) ≡ all_code_names (codes_of init) ++ (option_names (option_map term_of test) ++ (all_code_names (codes_of next) ++ all_code_names (codes_of body)))
for_names s init test next body is =
    ap code_names (for_code s init test next body is)
    ∙ names_before (map code_of init) _
    ∙ ap (λ us. all_code_names (codes_of init) ++ (us ++ (all_code_names (codes_of next) ++ all_code_names (codes_of body)))) (test_names test)

pub for_adds_names : (s : Stmt) (init : List Stmt) (test : Option Expr) (next body : List Stmt) → s.step ≡ step.For init test next body
    → (xs ys zs : List Stmt) → xs ≡ init → ys ≡ next → zs ≡ body → (old a t b now : List ℕ)
    → a ≡ old ++ all_code_names (codes_of xs) → t ≡ a ++ option_names (option_map term_of test) → b ≡ t ++ all_code_names (codes_of ys) → now ≡ b ++ all_code_names (codes_of zs)
    → now ≡ old ++ code_names (code_of s)
for_adds_names s init test next body is xs ys zs ex ey ez old a t b now ea et eb en =
    let i = all_code_names (codes_of init) in
    let o = option_names (option_map term_of test) in
    let n = all_code_names (codes_of next) in
    let z = all_code_names (codes_of body) in
    en
    ∙ ap (λ (us : List Stmt). b ++ all_code_names (codes_of us)) ez
    ∙ ap (λ us. us ++ z) (eb ∙ ap (λ (us : List Stmt). t ++ all_code_names (codes_of us)) ey)
    ∙ ap (λ us. (us ++ n) ++ z) (et ∙ ap (λ us. us ++ o) (ea ∙ ap (λ (us : List Stmt). old ++ all_code_names (codes_of us)) ex))
    ∙ append_assoc ((old ++ i) ++ o) n z
    ∙ append_assoc (old ++ i) o (n ++ z)
    ∙ append_assoc old i (o ++ (n ++ z))
    ∙ ap (λ us. old ++ us) (sym (for_names s init test next body is))
