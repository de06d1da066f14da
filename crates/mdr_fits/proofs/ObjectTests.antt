-- Objects and their serials, one by one.
use Rattle.std.proofs.Common.{◌≡◌, ℕ, zero, suc, ◌+◌, ◌<◌, ◌≤◌, Bool, true, false, cond, ◌&&◌, ◌||◌, ◌==◌, List, [], ◌∷◌, ◌++◌, length, drop, get_or, filter, append_assoc, refl, sym, ap, ◌∙◌, arith}
use Rattle.std.specs.List.{list_any}
use Rattle.std.specs.Prelude.{not}
use Rattle.std.proofs.lemmas.List.{append-nil, at_drop_all, at_drop_more}
use Rattle.mdr_core.specs.Services.{service_numbered}
use Rattle.mdr_fits.specs.Tables.{are_once, names}
use Rattle.mdr_meaning.specs.declared.wire.Wire.{Wire}
use Rattle.mdr_meaning.specs.declared.wire.Wire.TheVariants as wire
use Rattle.mdr_model.specs.Agreement.{has}
use Rattle.mdr_split.specs.Services.{are_different, entering_by, leaving_by, less, serials_of}

serials_cons : (v : Wire) (vs : List Wire) → serials_of (v ∷ vs) ≡ serials_of (v ∷ []) ++ serials_of vs
serials_cons (wire.Int _ _) vs = refl
serials_cons wire.Null vs = refl
serials_cons (wire.Ptr p) vs = refl
serials_cons wire.Dead vs = refl
serials_cons (wire.Fn _) vs = refl
serials_cons (wire.Lock _) vs = refl
serials_cons wire.NoValue vs = refl

-- ---- lists that are built

pub serials_next : (out next : List ℕ) (values : List Wire) (i : ℕ) (d : Wire) (whole : List ℕ) → i < length values → next ≡ out ++ serials_of (get_or values i d ∷ [])
    → out ++ serials_of (drop i values) ≡ whole → next ++ serials_of (drop (i + 1) values) ≡ whole
serials_next out next values i d whole inside is so_far =
    ap (λ (xs : List ℕ). xs ++ serials_of (drop (i + 1) values)) is
    ∙ append_assoc out (serials_of (get_or values i d ∷ [])) (serials_of (drop (i + 1) values))
    ∙ ap (λ (xs : List ℕ). out ++ xs) (sym (at_drop_more serials_of values i d inside ∙ serials_cons (get_or values i d) (drop (i + 1) values)))
    ∙ so_far

pub serials_all : (out : List ℕ) (values : List Wire) (i : ℕ) (whole : List ℕ) → length values ≤ i → out ++ serials_of (drop i values) ≡ whole → out ≡ whole
serials_all out values i whole past so_far = sym (append-nil out) ∙ ap (λ (xs : List ℕ). out ++ xs) (sym (at_drop_all serials_of values i past)) ∙ so_far

less_cons : (gone : List ℕ) (n : ℕ) (ns : List ℕ) → less gone (n ∷ ns) ≡ less gone (n ∷ []) ++ less gone ns
less_cons gone n ns = of (not (has gone n)) (less gone ns) where
  of : (b : Bool) (rest : List ℕ) → cond b (n ∷ rest) rest ≡ cond b (n ∷ []) [] ++ rest
  of true rest = refl
  of false rest = refl

pub less_next : (gone out next : List ℕ) (serials : List ℕ) (i d : ℕ) (whole : List ℕ) → i < length serials → next ≡ out ++ less gone (get_or serials i d ∷ [])
    → out ++ less gone (drop i serials) ≡ whole → next ++ less gone (drop (i + 1) serials) ≡ whole
less_next gone out next serials i d whole inside is so_far =
    ap (λ (xs : List ℕ). xs ++ less gone (drop (i + 1) serials)) is
    ∙ append_assoc out (less gone (get_or serials i d ∷ [])) (less gone (drop (i + 1) serials))
    ∙ ap (λ (xs : List ℕ). out ++ xs) (sym (at_drop_more (less gone) serials i d inside ∙ less_cons gone (get_or serials i d) (drop (i + 1) serials)))
    ∙ so_far

pub less_all : (gone out serials : List ℕ) (i : ℕ) (whole : List ℕ) → length serials ≤ i → out ++ less gone (drop i serials) ≡ whole → out ≡ whole
less_all gone out serials i whole past so_far = sym (append-nil out) ∙ ap (λ (xs : List ℕ). out ++ xs) (sym (at_drop_all (less gone) serials i past)) ∙ so_far

-- ---- what is named once

named_in : (vs : List Wire) (n : ℕ) → list_any (names n) vs ≡ has (serials_of vs) n
unfolding has
named_in [] n = refl
named_in (wire.Int _ _ ∷ vs) n = named_in vs n
named_in (wire.Null ∷ vs) n = named_in vs n
named_in (wire.Ptr p ∷ vs) n = ap (λ (b : Bool). (p.serial == n) || b) (named_in vs n)
named_in (wire.Dead ∷ vs) n = named_in vs n
named_in (wire.Fn _ ∷ vs) n = named_in vs n
named_in (wire.Lock _ ∷ vs) n = named_in vs n
named_in (wire.NoValue ∷ vs) n = named_in vs n

pub once_different : (vs : List Wire) → are_once vs ≡ are_different (serials_of vs)
unfolding are_once
once_different [] = refl
once_different (wire.Int _ _ ∷ vs) = once_different vs
once_different (wire.Null ∷ vs) = once_different vs
once_different (wire.Ptr p ∷ vs) = λ i. not (named_in vs p.serial i) && once_different vs i
once_different (wire.Dead ∷ vs) = once_different vs
once_different (wire.Fn _ ∷ vs) = once_different vs
once_different (wire.Lock _ ∷ vs) = once_different vs
once_different (wire.NoValue ∷ vs) = once_different vs

-- ---- by the service's number

pub no_leaving : (service : ℕ) (args : List Wire) → (service ≡ 14 → ⊥) → leaving_by (service_numbered service) args ≡ []
no_leaving zero args other = refl
no_leaving (suc zero) args other = refl
no_leaving (suc (suc zero)) args other = refl
no_leaving (suc (suc (suc zero))) args other = refl
no_leaving (suc (suc (suc (suc zero)))) args other = refl
no_leaving (suc (suc (suc (suc (suc zero))))) args other = refl
no_leaving (suc (suc (suc (suc (suc (suc zero)))))) args other = refl
no_leaving (suc (suc (suc (suc (suc (suc (suc zero))))))) args other = refl
no_leaving (suc (suc (suc (suc (suc (suc (suc (suc zero)))))))) args other = refl
no_leaving (suc (suc (suc (suc (suc (suc (suc (suc (suc zero))))))))) args other = refl
no_leaving (suc (suc (suc (suc (suc (suc (suc (suc (suc (suc zero)))))))))) args other = refl
no_leaving (suc (suc (suc (suc (suc (suc (suc (suc (suc (suc (suc zero))))))))))) args other = refl
no_leaving (suc (suc (suc (suc (suc (suc (suc (suc (suc (suc (suc (suc zero)))))))))))) args other = refl
no_leaving (suc (suc (suc (suc (suc (suc (suc (suc (suc (suc (suc (suc (suc zero))))))))))))) args other = refl
no_leaving (suc (suc (suc (suc (suc (suc (suc (suc (suc (suc (suc (suc (suc (suc zero)))))))))))))) args other = absurd (other refl)
no_leaving (suc (suc (suc (suc (suc (suc (suc (suc (suc (suc (suc (suc (suc (suc (suc n))))))))))))))) args other = refl

pub no_entering : (service : ℕ) (results : List Wire) → (service ≡ 13 → ⊥) → entering_by (service_numbered service) results ≡ []
no_entering zero results other = refl
no_entering (suc zero) results other = refl
no_entering (suc (suc zero)) results other = refl
no_entering (suc (suc (suc zero))) results other = refl
no_entering (suc (suc (suc (suc zero)))) results other = refl
no_entering (suc (suc (suc (suc (suc zero))))) results other = refl
no_entering (suc (suc (suc (suc (suc (suc zero)))))) results other = refl
no_entering (suc (suc (suc (suc (suc (suc (suc zero))))))) results other = refl
no_entering (suc (suc (suc (suc (suc (suc (suc (suc zero)))))))) results other = refl
no_entering (suc (suc (suc (suc (suc (suc (suc (suc (suc zero))))))))) results other = refl
no_entering (suc (suc (suc (suc (suc (suc (suc (suc (suc (suc zero)))))))))) results other = refl
no_entering (suc (suc (suc (suc (suc (suc (suc (suc (suc (suc (suc zero))))))))))) results other = refl
no_entering (suc (suc (suc (suc (suc (suc (suc (suc (suc (suc (suc (suc zero)))))))))))) results other = refl
no_entering (suc (suc (suc (suc (suc (suc (suc (suc (suc (suc (suc (suc (suc zero))))))))))))) results other = absurd (other refl)
no_entering (suc (suc (suc (suc (suc (suc (suc (suc (suc (suc (suc (suc (suc (suc n)))))))))))))) results other = of n where
  of : (k : ℕ) → entering_by (service_numbered (suc (suc (suc (suc (suc (suc (suc (suc (suc (suc (suc (suc (suc (suc k))))))))))))))) results ≡ []
  of zero = refl
  of (suc k) = refl
