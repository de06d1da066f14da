-- A block in its place, and new blocks one after another.
use Rattle.std.proofs.Common.{◌≡◌, ℕ, suc, ◌+◌, ◌-◌, ◌<◌, ◌≤◌, Bool, true, false, cond, List, [], ◌∷◌, length, drop, get_or, refl, sym, ap, ◌∙◌, arith}
use Rattle.std.specs.Prelude.{nat_lt, nat_le}
use Rattle.std.specs.List.{insert}
use Rattle.std.proofs.Math.Seq.{drop-length}
use Rattle.std.proofs.lemmas.List.{at_drop_more}
use Rattle.mdr_core.specs.declared.program.Program.{Program}
use Rattle.mdr_model.specs.declared.message.New.{New}
use Rattle.mdr_model.specs.declared.memory.MemoryBlock.{MemoryBlock}
use Rattle.mdr_model.specs.Memory.{Memory, zero_block}
use Rattle.mdr_model.specs.Copies.{inserted, with_news}
use Rattle.mdr_copy.specs.InPlaces.{place_for}

one_more : (n : ℕ) → 1 + n ≡ suc n
one_more n = omega arith

place_behind : (b : MemoryBlock) (m : Memory) (serial : ℕ) → nat_lt b.born.serial serial ≡ true → place_for (b ∷ m) serial ≡ suc (place_for m serial)
place_behind b m serial e = ap (λ (t : Bool). cond t (1 + place_for m serial) 0) e ∙ one_more (place_for m serial)

place_here : (b : MemoryBlock) (m : Memory) (serial : ℕ) → nat_lt b.born.serial serial ≡ false → place_for (b ∷ m) serial ≡ 0
place_here b m serial e = ap (λ (t : Bool). cond t (1 + place_for m serial) 0) e

pub place_inside : (m : Memory) (serial : ℕ) → place_for m serial ≤ length m
place_inside [] serial = omega arith
place_inside (b ∷ m) serial = of (nat_lt b.born.serial serial) refl (place_inside m serial)
  where
    of : (t : Bool) → nat_lt b.born.serial serial ≡ t → place_for m serial ≤ length m → place_for (b ∷ m) serial ≤ length (b ∷ m)
    of true e later = let more : place_for (b ∷ m) serial ≡ suc (place_for m serial) = place_behind b m serial e in omega (arith, more, later)
    of false e later = let none : place_for (b ∷ m) serial ≡ 0 = place_here b m serial e in omega (arith, none)

-- the tests are each other's contrary
before_place : (n m : ℕ) → nat_le n m ≡ cond (nat_lt m n) false true
before_place n m = grind arith

pub in_its_place : (m : Memory) (b : MemoryBlock) → insert m (place_for m b.born.serial) b ≡ inserted b m
unfolding inserted
in_its_place [] b = refl
in_its_place (x ∷ m) b = of (nat_lt x.born.serial b.born.serial) refl (in_its_place m b)
  where
    other : (t : Bool) → nat_lt x.born.serial b.born.serial ≡ t → nat_le b.born.serial x.born.serial ≡ cond t false true
    other t e = before_place b.born.serial x.born.serial ∙ ap (λ (u : Bool). cond u false true) e

    of : (t : Bool) → nat_lt x.born.serial b.born.serial ≡ t → insert m (place_for m b.born.serial) b ≡ inserted b m → insert (x ∷ m) (place_for (x ∷ m) b.born.serial) b ≡ inserted b (x ∷ m)
    of true e later =
        ap (λ (n : ℕ). insert (x ∷ m) n b) (place_behind x m b.born.serial e)
        ∙ ap (λ (xs : Memory). x ∷ xs) later
        ∙ sym (ap (λ (t : Bool). cond t (b ∷ x ∷ m) (x ∷ inserted b m)) (other true e))
    of false e later =
        ap (λ (n : ℕ). insert (x ∷ m) n b) (place_here x m b.born.serial e)
        ∙ sym (ap (λ (t : Bool). cond t (b ∷ x ∷ m) (x ∷ inserted b m)) (other false e))

-- ---- new blocks

pub all_first : (program : Program) (news : List New) (copy : Memory) → copy ≡ with_news program (drop (length news) news) copy
unfolding with_news
all_first program news copy = sym (ap (λ (ns : List New). with_news program ns copy) (drop-length news))

pub news_before : (program : Program) (news : List New) (i : ℕ) (n d : New) (first before after : Memory) → 0 < i → i ≤ length news → n ≡ get_or news (i - 1) d → after ≡ inserted (zero_block program n) before
    → before ≡ with_news program (drop i news) first → after ≡ with_news program (drop (i - 1) news) first
unfolding with_news
news_before program news i n d first before after some within is made so_far =
    let inside : i - 1 < length news = omega arith in
    let back : (i - 1) + 1 ≡ i = omega arith in
    made
    ∙ ap (λ (m : Memory). inserted (zero_block program n) m) so_far
    ∙ ap (λ (k : ℕ). inserted (zero_block program n) (with_news program (drop k news) first)) (sym back)
    ∙ ap (λ (x : New). with_news program (x ∷ drop ((i - 1) + 1) news) first) is
    ∙ sym (at_drop_more (λ (ns : List New). with_news program ns first) news (i - 1) d inside)
