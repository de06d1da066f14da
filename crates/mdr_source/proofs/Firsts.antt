-- There is one first fault: in tokens, and of types.
use Rattle.std.proofs.Common.{◌≡◌, refl, sym, subst, ap, ◌∙◌, ◌==◌, ◌≤◌, ◌<◌, ◌++◌, arith, ℕ, zero, suc, Bool, true, false, List, [], ◌∷◌, length, take, drop}
use Rattle.std.specs.Prelude.{nat_lt}
use Rattle.std.proofs.lemmas.List.{take-append-drop}
use Rattle.mdr_core.specs.declared.place.Place.{Place}
use Rattle.mdr_core.specs.Layout.{chosen}
use Rattle.mdr_syntax.specs.declared.token.Token.{Token}
use Rattle.mdr_grammar.specs.Grammar.{Reads}
use Rattle.mdr_grammar.specs.Running.{FirstFault}
use Rattle.mdr_faults.specs.declared.fault.Fault.{Fault}
use Rattle.mdr_faults.specs.declared.fault.FaultKind.{FaultKind}
use Rattle.mdr_faults.specs.declared.fault.FaultKind.TheVariants.{UnknownName, Redefined, Mismatch, NotAnLvalue, BadAnnotation, IrqTarget, Limit, Incomplete, BadArity}
use Rattle.mdr_faults.specs.Faults.{Checked, Right, Wrong, IsFirst, is_before, number}

-- ---- in tokens

take_within : {A : Type 0} (n m : ℕ) (xs ys : List A) → n ≤ m → m ≤ length xs → take n (take m xs ++ ys) ≡ take n xs
take_within zero m xs ys a b = refl
take_within (suc n) zero xs ys a b = absurd (omega (arith, a))
take_within (suc n) (suc m) [] ys a b = absurd (omega (arith, b))
take_within (suc n) (suc m) (x ∷ xs) ys a b = ap (λ zs. x ∷ zs) (take_within n m xs ys (omega (arith, a)) (omega (arith, b)))

-- the tokens before a later fault begin no source
no_later : (halves : Bool) (ts : List Token) (n m : ℕ) → FirstFault halves ts n → FirstFault halves ts m → n < m → ⊥
no_later halves ts n m f g h =
    f.refused (omega (arith, h, g.inside)) (drop (suc n) (take m ts ++ g.before.0)) g.before.1
    (subst (λ l. Reads halves l g.before.1)
    (sym (take-append-drop (suc n) (take m ts ++ g.before.0)) ∙ ap (λ l. l ++ drop (suc n) (take m ts ++ g.before.0)) (take_within (suc n) m ts g.before.0 (omega (arith, h)) g.inside))
    g.before.2)

equal_unless : (n m : ℕ) → (n < m → ⊥) → (m < n → ⊥) → n ≡ m
equal_unless n m a b = by_test (nat_lt n m) (nat_lt m n) refl refl
  where
    by_test : (s t : Bool) → nat_lt n m ≡ s → nat_lt m n ≡ t → n ≡ m
    by_test true t e d = absurd (a (grind (arith, e)))
    by_test false true e d = absurd (b (grind (arith, d)))
    by_test false false e d = grind (arith, e, d)

pub one_first_fault : (halves : Bool) (ts : List Token) (n m : ℕ) → FirstFault halves ts n → FirstFault halves ts m → n ≡ m
one_first_fault halves ts n m f g = equal_unless n m (no_later halves ts n m f g) (no_later halves ts m n g f)

-- ---- of types

same_number : (a b : ℕ) → nat_lt a b ≡ false → nat_lt b a ≡ false → a ≡ b
same_number a b d e = grind (arith, d, e)

-- an order by a number, and where these are equal by another order
level : (a b : ℕ) (ab ba : Bool) → chosen (a == b) ab (nat_lt a b) ≡ false → chosen (b == a) ba (nat_lt b a) ≡ false → a ≡ b
level a b true true d e = grind (arith, d, e)
level a b true false d e = grind (arith, d, e)
level a b false true d e = grind (arith, d, e)
level a b false false d e = grind (arith, d, e)

below : (a b : ℕ) (ab : Bool) → a ≡ b → chosen (a == b) ab (nat_lt a b) ≡ false → ab ≡ false
below a b true is d = grind (arith, is, d)
below a b false is d = refl

abbrev kind_numbered : ℕ → FaultKind
kind_numbered n = chosen (n == 1) UnknownName (chosen (n == 2) Redefined (chosen (n == 3) Mismatch (chosen (n == 4) NotAnLvalue (chosen (n == 5) BadAnnotation (chosen (n == 6) IrqTarget (chosen (n == 7) Limit (chosen (n == 8) Incomplete BadArity)))))))

kind_back : (k : FaultKind) → kind_numbered (number k) ≡ k
kind_back UnknownName = refl
kind_back Redefined = refl
kind_back Mismatch = refl
kind_back NotAnLvalue = refl
kind_back BadAnnotation = refl
kind_back IrqTarget = refl
kind_back Limit = refl
kind_back Incomplete = refl
kind_back BadArity = refl

same_kind : (j k : FaultKind) → number j ≡ number k → j ≡ k
same_kind j k e = sym (kind_back j) ∙ ap kind_numbered e ∙ kind_back k

same_place : (p q : Place) → p.line ≡ q.line → p.column ≡ q.column → p ≡ q
same_place p q l c = λ i. record { line = l i; column = c i }

same_fault : (f g : Fault) → f.place ≡ g.place → f.kind ≡ g.kind → f ≡ g
same_fault f g p k = λ i. record { place = p i; kind = k i }

neither_before : (f g : Fault) → is_before f g ≡ false → is_before g f ≡ false → f ≡ g
neither_before f g d e =
    let line : f.place.line ≡ g.place.line = level f.place.line g.place.line _ _ d e in
    let d1 = below f.place.line g.place.line _ line d in
    let e1 = below g.place.line f.place.line _ (sym line) e in
    let column : f.place.column ≡ g.place.column = level f.place.column g.place.column _ _ d1 e1 in
    let d2 = below f.place.column g.place.column _ column d1 in
    let e2 = below g.place.column f.place.column _ (sym column) e1 in
    same_fault f g (same_place f.place g.place line column) (same_kind f.kind g.kind (same_number (number f.kind) (number g.kind) d2 e2))

pub one_first : {A : Type 0} (c : Checked A) (f g : Fault) → IsFirst f c → IsFirst g c → f ≡ g
one_first (Right x) f g i j = absurd i
one_first (Wrong fs) f g i j = neither_before f g (j.1 f i.0) (i.1 g j.0)
