-- Blocks that are told of for the first time, found one by one.
use Rattle.std.proofs.Common.{◌≡◌, ℕ, zero, suc, ◌+◌, ◌<◌, ◌≤◌, List, [], ◌∷◌, ◌++◌, Bool, true, false, cond, not, ◌&&◌, ◌||◌, length, drop, get_or, refl, sym, ap, ◌∙◌, append_assoc, Ok, Err, ◌⊎◌, inl, inr, arith}
use Rattle.std.specs.Prelude.{◌==◌}
use Rattle.std.specs.List.{list_any}
use Rattle.std.specs.List.Sorted.{IsNonDecreasing, IsBinarySearchResult}
use Rattle.std.specs.Ordering.{nat_cmp}
use Rattle.std.proofs.lemmas.Bool.{cases_lt}
use Rattle.std.proofs.lemmas.Bool.Decides.{nat_tests}
use Rattle.std.proofs.lemmas.List.{at_drop_more}
use Rattle.std.proofs.lemmas.List.Sorted.{searched}
use Rattle.mdr_meaning.specs.declared.wire.Wire.{Wire}
use Rattle.mdr_meaning.specs.declared.wire.Wire.TheVariants as wire
use Rattle.mdr_model.specs.declared.message.New.{New}
use Rattle.mdr_model.specs.declared.memory.MemoryBlock.{MemoryBlock}
use Rattle.mdr_model.specs.Memory.{Memory, is_live}
use Rattle.mdr_model.specs.Copies.{is_named, news_of}
use Rattle.mdr_copy.specs.Namings.{with_named, named_serials, is_listed, news_by}

-- ---- the blocks that values name

listed_with : (v : Wire) (vs : List Wire) (serial : ℕ) → is_listed (named_serials vs) serial ≡ is_named vs serial → is_listed (with_named v (named_serials vs)) serial ≡ is_named (v ∷ vs) serial
listed_with (wire.Ptr p) vs serial later = ap (λ (t : Bool). (p.serial == serial) || t) later
listed_with (wire.Int k n) vs serial later = later
listed_with wire.Null vs serial later = later
listed_with wire.Dead vs serial later = later
listed_with (wire.Fn f) vs serial later = later
listed_with (wire.Lock s) vs serial later = later
listed_with wire.NoValue vs serial later = later

pub listed_is : (vs : List Wire) (serial : ℕ) → is_listed (named_serials vs) serial ≡ is_named vs serial
unfolding named_serials
listed_is [] serial = refl
listed_is (v ∷ vs) serial = listed_with v vs serial (listed_is vs serial)

-- ---- look-ups among serials in order

listed_at : (xs : List ℕ) (i x : ℕ) → i < length xs → get_or xs i 0 ≡ x → is_listed xs x ≡ true
listed_at [] i x l e = absurd (omega (arith, l))
listed_at (y ∷ xs) zero x l e = let same : (y == x) ≡ true = grind (arith, nat_tests) in ap (λ (t : Bool). t || is_listed xs x) same
listed_at (y ∷ xs) (suc i) x l e = or_true (y == x) (is_listed xs x) (listed_at xs i x (omega (arith, l)) e)
  where
    or_true : (a b : Bool) → b ≡ true → (a || b) ≡ true
    or_true true b e = refl
    or_true false b e = e

unlisted : (xs : List ℕ) (x : ℕ) → ((k : ℕ) → k < length xs → (get_or xs k 0 == x) ≡ false) → is_listed xs x ≡ false
unlisted [] x h = refl
unlisted (y ∷ xs) x h = ap (λ (t : Bool). t || is_listed xs x) (h 0 (omega arith)) ∙ unlisted xs x (λ k l. h (suc k) (omega (arith, l)))

pub found_listed : (xs : List ℕ) (x i : ℕ) → IsNonDecreasing xs → IsBinarySearchResult (λ y. nat_cmp y x) xs (Ok i) → true ≡ is_listed xs x
found_listed xs x i up r = let s = searched xs x (Ok i) r (λ a b le l. up a b 0 le l) in sym (listed_at xs i x s.0 s.1)

pub not_listed : (xs : List ℕ) (x i : ℕ) → IsNonDecreasing xs → IsBinarySearchResult (λ y. nat_cmp y x) xs (Err i) → false ≡ is_listed xs x
not_listed xs x i up r = let s = searched xs x (Err i) r (λ a b le l. up a b 0 le l) in sym (unlisted xs x (λ k l. of k l (cases_lt k i) s))
  where
    differs : (a : ℕ) → a < x → (a == x) ≡ false
    differs a h = grind (arith, nat_tests)

    exceeds : (a : ℕ) → x < a → (a == x) ≡ false
    exceeds a h = grind (arith, nat_tests)

    of : (k : ℕ) → k < length xs → (k < i) ⊎ (i ≤ k) → ((i ≤ length xs) × ((k : ℕ) → k < i → get_or xs k 0 < x) × ((k : ℕ) → i ≤ k → k < length xs → x < get_or xs k 0)) → (get_or xs k 0 == x) ≡ false
    of k l (inl m) s = differs (get_or xs k 0) (s.1 k m)
    of k l (inr m) s = exceeds (get_or xs k 0) (s.2 k m l)

-- ---- one after another

abbrev pub is_told : Memory → (ℕ → Bool) → ℕ → Bool
is_told copy named serial = not (is_live copy serial) && named serial

-- tests that agree tell of the same blocks
pub news_alike : (copy : Memory) (named : ℕ → Bool) (values : List Wire) (m : Memory) → ((serial : ℕ) → named serial ≡ is_named values serial) → news_by copy named m ≡ news_of copy values m
unfolding news_by news_of
news_alike copy named values [] h = refl
news_alike copy named values (b ∷ m) h =
    ap (λ (t : Bool). cond (not (is_live copy b.born.serial) && t) (b.born ∷ news_by copy named m) (news_by copy named m)) (h b.born.serial)
    ∙ ap (λ (ns : List New). cond (not (is_live copy b.born.serial) && is_named values b.born.serial) (b.born ∷ ns) ns) (news_alike copy named values m h)

block_and_rest : (copy : Memory) (named : ℕ → Bool) (m : Memory) (i : ℕ) (b : MemoryBlock) → i < length m → b ≡ get_or m i b
    → news_by copy named (drop i m) ≡ cond (is_told copy named b.born.serial) (b.born ∷ news_by copy named (drop (i + 1) m)) (news_by copy named (drop (i + 1) m))
unfolding news_by
block_and_rest copy named m i b inside is =
    at_drop_more (λ (bs : Memory). news_by copy named bs) m i b inside
    ∙ sym (ap (λ (x : MemoryBlock). news_by copy named (x ∷ drop (i + 1) m)) is)

pub tells_of_it : (copy : Memory) (named : ℕ → Bool) (m : Memory) (i : ℕ) (b : MemoryBlock) (out next all : List New) → i < length m → b ≡ get_or m i b
    → is_told copy named b.born.serial ≡ true → next ≡ out ++ b.born ∷ [] → out ++ news_by copy named (drop i m) ≡ all → next ++ news_by copy named (drop (i + 1) m) ≡ all
tells_of_it copy named m i b out next all inside is told made so_far =
    let rest : List New = news_by copy named (drop (i + 1) m) in
    ap (λ (ns : List New). ns ++ rest) made
    ∙ append_assoc out (b.born ∷ []) rest
    ∙ ap (λ (t : Bool). out ++ cond t (b.born ∷ rest) rest) (sym told)
    ∙ ap (λ (ns : List New). out ++ ns) (sym (block_and_rest copy named m i b inside is))
    ∙ so_far

pub passes_it_by : (copy : Memory) (named : ℕ → Bool) (m : Memory) (i : ℕ) (b : MemoryBlock) (out all : List New) → i < length m → b ≡ get_or m i b
    → is_told copy named b.born.serial ≡ false → out ++ news_by copy named (drop i m) ≡ all → out ++ news_by copy named (drop (i + 1) m) ≡ all
passes_it_by copy named m i b out all inside is told so_far =
    let rest : List New = news_by copy named (drop (i + 1) m) in
    ap (λ (t : Bool). out ++ cond t (b.born ∷ rest) rest) (sym told)
    ∙ ap (λ (ns : List New). out ++ ns) (sym (block_and_rest copy named m i b inside is))
    ∙ so_far
