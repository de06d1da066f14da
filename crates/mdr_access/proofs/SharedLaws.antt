-- Laws of functions that share what they lead to.
use Rattle.std.proofs.Common.{◌≡◌, ◌⊎◌, inl, inr, ℕ, zero, suc, ◌+◌, ◌<◌, Bool, true, false, List, [], ◌∷◌, ◌++◌, length, get_or, refl, sym, ◌∙◌, ap, subst, arith}
use Rattle.std.specs.List.{range_with_len}
use Rattle.std.proofs.lemmas.Bool.{both_ways}
use Rattle.std.proofs.lemmas.List.FromFn.{get_or-range_with_len, length-range_with_len}
use Rattle.mdr_core.specs.declared.plan.Key.{Key}
use Rattle.mdr_core.specs.declared.plan.Half.{Half}
use Rattle.mdr_paths.specs.Numbers.{AreReached, marked}
use Rattle.mdr_paths.specs.Turned.{AreTurned, LeadToEachOther}
use Rattle.mdr_paths.proofs.TurnedLaws.{lead_to_each_other, leads_to_itself, same_reached}
use Rattle.mdr_slice.proofs.GraphLaws.{at_index}
use Rattle.mdr_access.specs.Shared.{AreFirsts, KeepsFirsts, SharesMarked, StandsFor}
use Rattle.mdr_access.specs.Walked.{AreFound, IsFoundBy, IsFoundIf, is_user}

-- ---- those that stand for others

count_last : (a n j : ℕ) → a + n ≡ j → range_with_len a (suc n) ≡ range_with_len a n ++ j ∷ []
count_last a zero j e = let same : a ≡ j = omega arith in ap (λ k. k ∷ []) same
count_last a (suc n) j e = ap (λ xs. a ∷ xs) (count_last (a + 1) n j (omega arith))

pub one_counted : (n : ℕ) (firsts now : List ℕ) → firsts ≡ range_with_len 0 n → now ≡ firsts ++ n ∷ [] → now ≡ range_with_len 0 (n + 1)
one_counted n firsts now are is =
    let next : n + 1 ≡ suc n = omega arith in
    is ∙ ap (λ xs. xs ++ n ∷ []) are ∙ sym (ap (range_with_len 0) next ∙ count_last 0 n n (omega arith))

pub alone_first : (edges : List (List ℕ)) (n : ℕ) (firsts : List ℕ) → firsts ≡ range_with_len 0 n → n ≡ length edges → AreFirsts edges firsts
alone_first edges n firsts is size = record {
  size = ap length is ∙ length-range_with_len 0 n ∙ size;
  each = λ f h.
      let same : f ≡ get_or firsts f 0 = let e : 0 + f ≡ f = omega arith in sym (ap (λ xs. get_or xs f 0) is ∙ get_or-range_with_len 0 n f 0 (omega (arith, h, size)) ∙ e) in
      subst (λ x. StandsFor edges x f) same (record { early = omega arith; both = leads_to_itself edges f h });
}

pub keeps_shared : (turned : List (List ℕ)) (led leading slice : List Bool) (func : ℕ) (old now : List ℕ) → AreReached turned (func ∷ []) leading → slice ≡ leading → SharesMarked led slice func old now → KeepsFirsts turned led func old now
keeps_shared turned led leading slice func old now back is_slice shares_slice = record {
  size = shares.size;
  keeps = λ edges are reached firsts. record { size = shares.size ∙ firsts.size; each = λ f h. of edges are reached f (firsts.each f h) (shares.each f) };
}
  where
    shares : SharesMarked led leading func old now
    shares = subst (λ xs. SharesMarked led xs func old now) is_slice shares_slice

    of : (edges : List (List ℕ)) → AreTurned edges turned → AreReached edges (func ∷ []) led → (f : ℕ) → StandsFor edges (get_or old f 0) f
        → (get_or now f 0 ≡ get_or old f 0) ⊎ ((get_or now f 0 ≡ func) × (func < f) × (marked led f ≡ true) × (marked leading f ≡ true)) → StandsFor edges (get_or now f 0) f
    of edges are reached f was (inl e) = subst (λ x. StandsFor edges x f) (sym e) was
    of edges are reached f was (inr p) = subst (λ x. StandsFor edges x f) (sym p.0) (record { early = omega (arith, p.1); both = lead_to_each_other edges turned func f led leading are reached back p.2 p.3 })

-- ---- lists

pub found_shared : (edges rows : List (List ℕ)) (keys : List Key) (a b : ℕ) (found : List Key) → LeadToEachOther edges a b → IsFoundBy edges rows keys a found → IsFoundBy edges rows keys b found
found_shared edges rows keys a b found both by = record { led = by.led; reached = same_reached edges a b by.led both by.reached; found_in = by.found_in }

pub list_shared : (halves : List Half) (edges rows : List (List ℕ)) (keys : List Key) (n : ℕ) (lists : List (List Key)) (first f : ℕ) (u : Bool) (item list : List Key)
    → AreFound halves edges rows keys n lists → first < length lists → item ≡ get_or lists first item → is_user halves first ≡ true → StandsFor edges first f → u ≡ true → list ≡ item → IsFoundIf u edges rows keys f list
list_shared halves edges rows keys n lists first f false item list found inside at user stands e is = absurd (both_ways false refl e)
list_shared halves edges rows keys n lists first f true item list found inside at user stands e is =
    let here : IsFoundIf true edges rows keys first item = subst (λ b. IsFoundIf b edges rows keys first item) user (found.each first item (at_index lists first item inside at)) in
    subst (IsFoundBy edges rows keys f) (sym is) (found_shared edges rows keys first f item stands.both here)

any_default : (xs : List ℕ) (i d e : ℕ) → i < length xs → get_or xs i d ≡ get_or xs i e
any_default [] i d e h = absurd (omega arith)
any_default (x ∷ xs) zero d e h = refl
any_default (x ∷ xs) (suc i) d e h = any_default xs i d e (omega arith)

pub list_again : (halves : List Half) (edges rows : List (List ℕ)) (keys : List Key) (lists : List (List Key)) (firsts : List ℕ) (first f : ℕ) (item slice list : List Key)
    → AreFound halves edges rows keys f lists → AreFirsts edges firsts → f < length edges → first ≡ get_or firsts f first → (first < f) × (is_user halves first ≡ true) → item ≡ get_or lists first item → is_user halves f ≡ true → slice ≡ item → list ≡ slice
    → IsFoundIf (is_user halves f) edges rows keys f list
list_again halves edges rows keys lists firsts first f item slice list found are inside is shared at user e_slice e_list =
    list_shared halves edges rows keys f lists first f (is_user halves f) item list found (omega (arith, shared.0, found.size)) at shared.1 (subst (λ x. StandsFor edges x f) (sym (is ∙ any_default firsts f first 0 (omega (arith, inside, are.size)))) (are.each f inside)) user (e_list ∙ e_slice)
