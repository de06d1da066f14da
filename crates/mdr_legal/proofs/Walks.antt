-- Walks over bodies: a `for` is a block around its loop, behind what it begins with.
use Rattle.std.proofs.Common.{◌≡◌, ℕ, Bool, true, false, ◌||◌, ◌==◌, List, [], ◌∷◌, map, Option, eqb-true, refl, sym, ap, ◌∙◌}
use Rattle.mdr_core.specs.declared.code.Expr.{Expr}
use Rattle.mdr_core.specs.declared.code.Stmt.{Stmt}
use Rattle.mdr_core.specs.declared.code.Step.TheVariants as step
use Rattle.mdr_core.specs.Code.{Code}
use Rattle.mdr_core.specs.Folds.{code_list, before, code_of, codes_of}
use Rattle.mdr_core.proofs.Coded.{code_is, for_is}
use Rattle.mdr_meaning.specs.Fair.{stands, stands_in}

or_false : (b : Bool) → (b || false) ≡ b
or_false true = refl
or_false false = refl

or_group : (a b c : Bool) → (a || (b || c)) ≡ ((a || b) || c)
or_group true b c = refl
or_group false b c = refl

-- numbers that differ
pub not_number : (a b : ℕ) → (a ≡ b → ⊥) → (a == b) ≡ false
not_number a b differ = of (a == b) refl
  where
    of : (t : Bool) → (a == b) ≡ t → t ≡ false
    of true e = elim (differ (eqb-true a b e)) [ ]
    of false e = refl

stands_before : (n : ℕ) (cs : List Code) (c : Code) → stands n (before cs c) ≡ (stands n (code_list cs) || stands_in n c)
stands_before n [] c = or_false (stands_in n c)
stands_before n (d ∷ ds) c = ap (λ (b : Bool). stands_in n d || b) (stands_before n ds c) ∙ or_group (stands_in n d) (stands n (code_list ds)) (stands_in n c)

for_stands : (n : ℕ) (s : Stmt) (init : List Stmt) (test : Option Expr) (next body : List Stmt) → s.step ≡ step.For init test next body
    → stands_in n (code_of s) ≡ (stands n (codes_of init) || (n == s.number || (stands n (codes_of next) || stands n (codes_of body))))
for_stands n s init test next body is = ap (stands_in n) (code_is s _ is ∙ for_is s.number init test next body) ∙ stands_before n (map code_of init) _

module _ (n : ℕ) (s : Stmt) (init : List Stmt) (test : Option Expr) (next body : List Stmt) (is : s.step ≡ step.For init test next body) where
  abbrev turns : Bool
  turns = stands n (codes_of next) || stands n (codes_of body)

  pub for_first : stands n (codes_of init) ≡ true → true ≡ stands_in n (code_of s)
  for_first a = sym (for_stands n s init test next body is ∙ ap (λ (b : Bool). b || (n == s.number || turns)) a)

  behind_init : stands n (codes_of init) ≡ false → stands_in n (code_of s) ≡ (n == s.number || turns)
  behind_init a = for_stands n s init test next body is ∙ ap (λ (b : Bool). b || (n == s.number || turns)) a

  pub for_own : stands n (codes_of init) ≡ false → (n == s.number) ≡ true → true ≡ stands_in n (code_of s)
  for_own a b = sym (behind_init a ∙ ap (λ (x : Bool). x || turns) b)

  pub for_second : stands n (codes_of init) ≡ false → (n == s.number) ≡ false → stands n (codes_of next) ≡ true → true ≡ stands_in n (code_of s)
  for_second a b e = sym (behind_init a ∙ ap (λ (x : Bool). x || turns) b ∙ ap (λ (x : Bool). x || stands n (codes_of body)) e)

  pub for_third : stands n (codes_of init) ≡ false → (n == s.number) ≡ false → stands n (codes_of next) ≡ false → stands n (codes_of body) ≡ stands_in n (code_of s)
  for_third a b e = sym (behind_init a ∙ ap (λ (x : Bool). x || turns) b ∙ ap (λ (x : Bool). x || stands n (codes_of body)) e)
