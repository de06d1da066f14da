-- What pairs keep when one is added and when one is taken out.
use Rattle.std.proofs.Common.{◌≡◌, ℕ, Bool, true, false, cond, Option, Some, None, refl, sym, ◌∙◌, ap, arith}
use Rattle.std.specs.Prelude.{◌==◌}
use Rattle.std.proofs.lemmas.Bool.{eqb-true, eq-eqb, true≢false}
use Rattle.mdr_core.specs.declared.value.Block.{Block}
use Rattle.mdr_track.specs.Pairs.{AreMatched, Pairs, dropped, is_block, is_that_block, is_that_serial, paired, unpaired, unpaired_at}
use Rattle.mdr_track.specs.Laws.{PairsAreOneToOne, PairsStayMatched}

-- ---- blocks

same_slot : (a b : Block) → is_block a b ≡ true → a.slot ≡ b.slot
same_slot a b h = grind (arith, eqb-true a.slot b.slot)

same_serial : (a b : Block) → is_block a b ≡ true → a.serial ≡ b.serial
same_serial a b h = grind (arith, eqb-true a.serial b.serial)

pub same_block : (a b : Block) → is_block a b ≡ true → a ≡ b
same_block a b h = λ i. record { slot = same_slot a b h i; serial = same_serial a b h i }

pub is_itself : (b : Block) → is_block b b ≡ true
is_itself b = grind (arith, eq-eqb b.slot b.slot, eq-eqb b.serial b.serial)

pub is_serial_itself : (s : ℕ) → (s == s) ≡ true
is_serial_itself s = eq-eqb s s refl

-- ---- what each look-up says

that_block : (o : Option Block) (b : Block) → is_that_block o b ≡ true → o ≡ Some b
that_block None b h = grind arith
that_block (Some a) b h = ap Some (same_block a b h)

that_serial : (o : Option ℕ) (s : ℕ) → is_that_serial o s ≡ true → o ≡ Some s
that_serial None s h = grind arith
that_serial (Some t) s h = ap Some (eqb-true t s h)

-- ---- one to one

pub there : (ps : Pairs) (s : ℕ) (b : Block) → AreMatched ps → ps.user_of s ≡ Some b → ps.serial_of b ≡ Some s
there ps s b m e = that_serial (ps.serial_of b) s (sym (m s b) ∙ (ap (λ o. is_that_block o b) e ∙ is_itself b))

pub back : (ps : Pairs) (s : ℕ) (b : Block) → AreMatched ps → ps.serial_of b ≡ Some s → ps.user_of s ≡ Some b
back ps s b m e = that_block (ps.user_of s) b (m s b ∙ (ap (λ o. is_that_serial o s) e ∙ is_serial_itself s))

abbrev serial_in : Option ℕ → ℕ → ℕ
serial_in None d = d
serial_in (Some s) d = s

abbrev block_in : Option Block → Block → Block
block_in None d = d
block_in (Some b) d = b

one_serial : (ps : Pairs) (s t : ℕ) (b : Block) → AreMatched ps → ps.user_of s ≡ Some b → ps.user_of t ≡ Some b → s ≡ t
one_serial ps s t b m e f = ap (λ o. serial_in o s) (sym (there ps s b m e) ∙ there ps t b m f)

one_block : (ps : Pairs) (s : ℕ) (a b : Block) → AreMatched ps → ps.serial_of a ≡ Some s → ps.serial_of b ≡ Some s → a ≡ b
one_block ps s a b m e f = ap (λ o. block_in o a) (sym (back ps s a m e) ∙ back ps s b m f)

pub one_to_one : PairsAreOneToOne
one_to_one = record { there = there; back = back; one_serial = one_serial; one_block = one_block }

-- ---- a pair more

pub matched-paired : (ps : Pairs) (s : ℕ) (b : Block) → AreMatched ps → ps.user_of s ≡ None → ps.serial_of b ≡ None → AreMatched (paired s b ps)
matched-paired ps s b m new free t c = of (s == t) refl (is_block b c) refl
  where
    of : (q : Bool) → (s == t) ≡ q → (r : Bool) → is_block b c ≡ r → is_that_block (cond q (Some b) (ps.user_of t)) c ≡ is_that_serial (cond r (Some s) (ps.serial_of c)) t
    of true e true h = h ∙ sym e
    of true e false h = h ∙ (sym (ap (λ o. is_that_block o c) (ap ps.user_of (sym (eqb-true s t e)) ∙ new)) ∙ m t c)
    of false e true h = m t c ∙ (ap (λ o. is_that_serial o t) (ap ps.serial_of (sym (same_block b c h)) ∙ free) ∙ sym e)
    of false e false h = m t c

-- ---- a pair less

pub matched-dropped : (ps : Pairs) (s : ℕ) (b : Block) → AreMatched ps → ps.user_of s ≡ Some b → AreMatched (dropped s b ps)
matched-dropped ps s b m has t c = of (s == t) refl (is_block b c) refl
  where
    of : (q : Bool) → (s == t) ≡ q → (r : Bool) → is_block b c ≡ r → is_that_block (cond q None (ps.user_of t)) c ≡ is_that_serial (cond r None (ps.serial_of c)) t
    of true e true h = refl
    of true e false h = sym h ∙ (sym (ap (λ o. is_that_block o c) (ap ps.user_of (sym (eqb-true s t e)) ∙ has)) ∙ m t c)
    of false e true h = m t c ∙ (ap (λ o. is_that_serial o t) (ap ps.serial_of (sym (same_block b c h)) ∙ there ps s b m has) ∙ e)
    of false e false h = m t c

pub matched-unpaired : (ps : Pairs) (s : ℕ) → AreMatched ps → AreMatched (unpaired s ps)
matched-unpaired ps s m = of (ps.user_of s) refl
  where
    of : (o : Option Block) → ps.user_of s ≡ o → AreMatched (unpaired_at o s ps)
    of None e = m
    of (Some b) e = matched-dropped ps s b m e

gone : (ps : Pairs) (s : ℕ) → (unpaired s ps).user_of s ≡ None
gone ps s = of (ps.user_of s) refl
  where
    of : (o : Option Block) → ps.user_of s ≡ o → (unpaired_at o s ps).user_of s ≡ None
    of None e = e
    of (Some b) e = ap (λ q. cond q None (ps.user_of s)) (is_serial_itself s)

freed : (ps : Pairs) (s : ℕ) (b : Block) → AreMatched ps → ps.user_of s ≡ Some b → (unpaired s ps).serial_of b ≡ None
freed ps s b m e = ap (λ o. (unpaired_at o s ps).serial_of b) e ∙ ap (λ q. cond q None (ps.serial_of b)) (is_itself b)

others : (ps : Pairs) (s t : ℕ) → (s == t) ≡ false → (unpaired s ps).user_of t ≡ ps.user_of t
others ps s t h = of (ps.user_of s)
  where
    of : (o : Option Block) → (unpaired_at o s ps).user_of t ≡ ps.user_of t
    of None = refl
    of (Some b) = ap (λ q. cond q None (ps.user_of t)) h

blocks : (ps : Pairs) (s t : ℕ) (b : Block) → AreMatched ps → (s == t) ≡ false → ps.serial_of b ≡ Some t → (unpaired s ps).serial_of b ≡ Some t
blocks ps s t b m h f = of (ps.user_of s) refl
  where
    of : (o : Option Block) → ps.user_of s ≡ o → (unpaired_at o s ps).serial_of b ≡ Some t
    of None e = f
    of (Some a) e = apart (is_block a b) refl
      where
        apart : (r : Bool) → is_block a b ≡ r → cond r None (ps.serial_of b) ≡ Some t
        apart true k = absurd (true≢false (sym (eq-eqb s t (ap (λ o. serial_in o s) (sym (there ps s a m e) ∙ (ap ps.serial_of (same_block a b k) ∙ f)))) ∙ h))
        apart false k = f

pub stay_matched : PairsStayMatched
stay_matched = record {
  first = λ s b. refl;
  birth = matched-paired;
  death = matched-unpaired;
  gone = gone;
  freed = freed;
  others = others;
  blocks = blocks;
}
