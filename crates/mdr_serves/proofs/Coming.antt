-- The blocks that come with an honest answer to an `enter` are its results, in their order.
use Rattle.std.proofs.Common.{◌≡◌, ℕ, suc, ◌<◌, ◌≤◌, Bool, true, false, cond, not, ◌&&◌, ◌||◌, List, [], ◌∷◌, ◌++◌, map, Some, refl, sym, ◌∙◌, ap, subst, arith}
use Rattle.std.specs.Prelude.{is_some, ◌==◌}
use Rattle.std.proofs.lemmas.Bool.{eqb-true}
use Rattle.mdr_holds.specs.Leaving.{AreObjects}
use Rattle.mdr_meaning.specs.declared.wire.Wire.{Wire}
use Rattle.mdr_meaning.specs.declared.wire.Wire.TheVariants as wire
use Rattle.mdr_model.specs.declared.message.New.{New}
use Rattle.mdr_model.specs.Agreement.{DeathsRise, NewsRise, SerialsRise, has, is_named_in, is_told, news_at}
use Rattle.mdr_model.specs.Copies.{changed_cells, changed_values, is_named, left_of, told_news}
use Rattle.mdr_model.specs.Memory.{Memory, is_live}
use Rattle.mdr_model.proofs.AgreedMessages.{is_told-told}
use Rattle.mdr_model.proofs.LifeLaws.{news-rise}
use Rattle.mdr_model.proofs.Tests.{and_left, and_right, not_both}
use Rattle.mdr_split.proofs.ObjectLaws.{has_cases, has_first, has_none, serials_first}
use Rattle.mdr_split.specs.Services.{less, serials_of}
use Rattle.mdr_split.specs.User.{agrees, objects_fit}

-- ---- lists of numbers that rise

never : (b : Bool) → (b ≡ true → ⊥) → b ≡ false
never true h = absurd (h refl)
never false h = refl

-- what two lists have behind the same first number
tails : (x n : ℕ) (xs ys : List ℕ) → ((k : ℕ) → has xs k ≡ true → x < k) → ((k : ℕ) → has ys k ≡ true → x < k) → has (x ∷ xs) n ≡ has (x ∷ ys) n → has xs n ≡ has ys n
unfolding has
tails x n xs ys above above' same = of (x == n) refl same
  where
    none : (zs : List ℕ) → ((k : ℕ) → has zs k ≡ true → x < k) → (x == n) ≡ true → has zs n ≡ false
    none zs up e = never (has zs n) (λ h. let less : x < n = up n h in let here : x ≡ n = eqb-true x n e in omega (arith, less, here))

    of : (b : Bool) → (x == n) ≡ b → (b || has xs n) ≡ (b || has ys n) → has xs n ≡ has ys n
    of true e h = none xs above e ∙ sym (none ys above' e)
    of false e h = h

-- the first of them
heads : (x y : ℕ) (xs ys : List ℕ) → DeathsRise (x ∷ xs) → DeathsRise (y ∷ ys) → ((n : ℕ) → has (x ∷ xs) n ≡ has (y ∷ ys) n) → x ≡ y
heads x y xs ys up up' same =
    has_cases (x ≡ y) y ys x (λ e. sym e)
    (λ later. has_cases (x ≡ y) x xs y (λ e. e) (λ r. let above : x < y = up.0 y r in let below : y < x = up'.0 x later in absurd (omega (arith, above, below))) (same y ∙ has_first y ys y refl))
    (sym (same x) ∙ has_first x xs x refl)

-- with the same members they are one
same_rising : (xs ys : List ℕ) → DeathsRise xs → DeathsRise ys → ((n : ℕ) → has xs n ≡ has ys n) → xs ≡ ys
same_rising [] [] up up' same = refl
same_rising [] (y ∷ ys) up up' same = absurd (not_both (same y ∙ has_first y ys y refl) (has_none y))
same_rising (x ∷ xs) [] up up' same = absurd (not_both (sym (same x) ∙ has_first x xs x refl) (has_none x))
same_rising (x ∷ xs) (y ∷ ys) up up' same =
    let first : x ≡ y = heads x y xs ys up up' same in
    let above : (k : ℕ) → has ys k ≡ true → x < k = λ k h. subst (λ (m : ℕ). m < k) (sym first) (up'.0 k h) in
    let alike : (n : ℕ) → has (x ∷ xs) n ≡ has (x ∷ ys) n = λ n. subst (λ (m : ℕ). has (x ∷ xs) n ≡ has (m ∷ ys) n) (sym first) (same n) in
    let rest : xs ≡ ys = same_rising xs ys up.1 up'.1 (λ n. tails x n xs ys up.0 above (alike n)) in
    λ i. first i ∷ rest i

-- ---- the serials of results and of what is told

named_is : (vs : List Wire) (n : ℕ) → has (serials_of vs) n ≡ is_named vs n
unfolding has
named_is [] n = refl
named_is (wire.Ptr v ∷ vs) n = ap (λ (b : Bool). (v.serial == n) || b) (named_is vs n)
named_is (wire.Int k i ∷ vs) n = named_is vs n
named_is (wire.Null ∷ vs) n = named_is vs n
named_is (wire.Dead ∷ vs) n = named_is vs n
named_is (wire.Fn f ∷ vs) n = named_is vs n
named_is (wire.Lock s ∷ vs) n = named_is vs n
named_is (wire.NoValue ∷ vs) n = named_is vs n

abbrev serials : List New → List ℕ
serials news = map (λ (n : New). n.serial) news

told_is : (news : List New) (n : ℕ) → has (serials news) n ≡ is_told news n
unfolding has is_told
told_is [] n = refl
told_is (b ∷ news) n = of (b.serial == n) (told_is news n)
  where
    of : (t : Bool) → has (serials news) n ≡ is_told news n → (t || has (serials news) n) ≡ is_some (cond t (Some b) (news_at news n))
    of true later = refl
    of false later = later

news_rise : (news : List New) → NewsRise news → DeathsRise (serials news)
news_rise [] up = tt
news_rise (b ∷ news) up = (λ n h. up.0 n (sym (told_is news n) ∙ h), news_rise news up.1)

above_all : (m : Memory) (from : ℕ) (vs : List Wire) → AreObjects m from vs → (n : ℕ) → has (serials_of vs) n ≡ true → from ≤ n
above_all m from [] objects n h = absurd (not_both h (has_none n))
above_all m from (v ∷ vs) objects n h =
    let first : ℕ = objects.0.block.serial in
    let later : from ≤ objects.0.block.serial = objects.0.later in
    has_cases (from ≤ n) first (serials_of vs) n
    (λ e. let here : objects.0.block.serial ≡ n = e in omega (arith, later, here))
    (λ r. let up : suc objects.0.block.serial ≤ n = above_all m (suc objects.0.block.serial) vs objects.1 n r in omega (arith, later, up))
    (ap (λ (ns : List ℕ). has ns n) (sym (serials_first v vs objects.0.block objects.0.is)) ∙ h)

objects_rise : (m : Memory) (from : ℕ) (vs : List Wire) → AreObjects m from vs → DeathsRise (serials_of vs)
objects_rise m from [] objects = tt
objects_rise m from (v ∷ vs) objects =
    let first : ℕ = objects.0.block.serial in
    let up : DeathsRise (first ∷ serials_of vs) = (λ n h. above_all m (suc first) vs objects.1 n h, objects_rise m (suc first) vs objects.1) in
    subst DeathsRise (sym (serials_first v vs objects.0.block objects.0.is)) up

-- ---- what an answer tells

-- where the results are objects that the copy hasn't, an answer tells of them and of no others
pub news_are_results :
    (rs : List Wire) (copy m : Memory) (from : ℕ) → SerialsRise m → AreObjects m from rs → ((n : ℕ) → is_named rs n ≡ true → is_live m n ≡ true) → ((n : ℕ) → is_named rs n ≡ true → is_live copy n ≡ false)
    → map (λ (n : New). n.serial) (told_news [] rs copy m) ≡ serials_of rs
unfolding told_news changed_cells is_named_in
news_are_results rs copy m from rises objects lives new =
    same_rising (serials (told_news [] rs copy m)) (serials_of rs)
    (news_rise (told_news [] rs copy m) (news-rise (left_of copy m) (rs ++ changed_values [] (left_of copy m) m) m rises)) (objects_rise m from rs objects)
    (λ n. told_is (told_news [] rs copy m) n ∙ is_told-told [] rs copy m n ∙ of n (is_named rs n) refl ∙ sym (named_is rs n))
  where
    nothing : (b c : Bool) → (b && c && false) ≡ false
    nothing true true = refl
    nothing true false = refl
    nothing false c = refl

    of : (n : ℕ) (b : Bool) → is_named rs n ≡ b → (is_live m n && not (is_live copy n) && (is_named rs n || false)) ≡ is_named rs n
    of n true e = rw (lives n e, new n e, e) refl
    of n false e = rw e (nothing (is_live m n) (not (is_live copy n)))

-- ---- what is left

-- where those die that are left, those that live on are those that aren't left
pub less_same : (gone deaths ns : List ℕ) → objects_fit gone deaths ns ≡ true → less deaths ns ≡ less gone ns
unfolding objects_fit
less_same gone deaths [] h = refl
less_same gone deaths (n ∷ ns) h = of (has gone n) (has deaths n) (and_left _ _ h) (less_same gone deaths ns (and_right (agrees (has gone n) (has deaths n)) _ h))
  where
    of : (b c : Bool) → agrees b c ≡ true → less deaths ns ≡ less gone ns → cond (not c) (n ∷ less deaths ns) (less deaths ns) ≡ cond (not b) (n ∷ less gone ns) (less gone ns)
    of true true e same = same
    of true false e same = absurd cc
    of false true e same = absurd cc
    of false false e same = λ i. n ∷ same i
