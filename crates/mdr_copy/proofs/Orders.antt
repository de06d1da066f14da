-- What keeps the blocks of a memory in order.
use Rattle.std.proofs.Common.{◌≡◌, ℕ, ◌<◌, ◌≤◌, Bool, true, false, cond, [], ◌∷◌, refl, sym, ◌∙◌, ap, subst, arith}
use Rattle.std.specs.Prelude.{◌==◌, nat_lt, nat_le, slice_set}
use Rattle.std.specs.List.{insert}
use Rattle.std.proofs.lemmas.Bool.Decides.{nat_tests}
use Rattle.mdr_meaning.specs.declared.wire.Wire.{Wire}
use Rattle.mdr_model.specs.declared.memory.MemoryBlock.{MemoryBlock}
use Rattle.mdr_model.specs.declared.memory.Cell.{Cell}
use Rattle.mdr_model.specs.Memory.{Memory, put, killed, swept_block, is_live, born_at}
use Rattle.mdr_model.specs.Agreement.{SerialsRise}
use Rattle.mdr_model.specs.Copies.{inserted}
use Rattle.mdr_copy.specs.Serials.{RiseFrom, Rise}
use Rattle.mdr_copy.specs.InPlaces.{place_for}
use Rattle.mdr_copy.proofs.Inserted.{in_its_place}
use Rattle.mdr_copy.proofs.Places.{with_cell}

pub lower : (a b : ℕ) (m : Memory) → a ≤ b → RiseFrom b m → RiseFrom a m
lower a b [] l h = tt
lower a b (x ∷ m) l h = let g = h.0 in (omega (arith, l, g), h.1)

pub put_from : (least : ℕ) (m : Memory) (c : Cell) (v : Wire) → RiseFrom least m → RiseFrom least (put m c v)
unfolding put
put_from least [] c v h = tt
put_from least (b ∷ m) c v h = of (b.born.serial == c.serial) refl (put_from b.born.serial m c v h.1)
  where
    of : (t : Bool) → (b.born.serial == c.serial) ≡ t → RiseFrom b.born.serial (put m c v) → RiseFrom least (cond t (with_cell b c.index v ∷ m) (b ∷ put m c v))
    of true e later = (h.0, h.1)
    of false e later = (h.0, later)

pub killed_from : (least serial : ℕ) (m : Memory) → RiseFrom least m → RiseFrom least (killed serial m)
unfolding killed
killed_from least serial [] h = tt
killed_from least serial (b ∷ m) h = of (b.born.serial == serial) (killed_from b.born.serial serial m h.1)
  where
    of : (t : Bool) → RiseFrom b.born.serial (killed serial m) → RiseFrom least (cond t (killed serial m) (swept_block serial b ∷ killed serial m))
    of true later = lower least b.born.serial (killed serial m) h.0 later
    of false later = (h.0, later)

inserted_from : (least : ℕ) (b : MemoryBlock) (m : Memory) → least ≤ b.born.serial → RiseFrom least m → RiseFrom least (inserted b m)
unfolding inserted
inserted_from least b [] l h = (l, tt)
inserted_from least b (x ∷ m) l h = of (nat_le b.born.serial x.born.serial) refl (inserted_from x.born.serial b m)
  where
    below : nat_le b.born.serial x.born.serial ≡ true → b.born.serial ≤ x.born.serial
    below e = grind (arith, nat_tests)

    above : nat_le b.born.serial x.born.serial ≡ false → x.born.serial ≤ b.born.serial
    above e = grind (arith, nat_tests)

    of : (t : Bool) → nat_le b.born.serial x.born.serial ≡ t → (x.born.serial ≤ b.born.serial → RiseFrom x.born.serial m → RiseFrom x.born.serial (inserted b m)) → RiseFrom least (cond t (b ∷ x ∷ m) (x ∷ inserted b m))
    of true e later = (l, (below e, h.1))
    of false e later = (h.0, later (above e) h.1)

pub inserted_rises : (b : MemoryBlock) (m : Memory) → Rise m → Rise (inserted b m)
inserted_rises b m h = inserted_from 0 b m (omega arith) h

-- serials that rise don't fall
rises_from : (least : ℕ) (m : Memory) → ((serial : ℕ) → is_live m serial ≡ true → least < serial) → SerialsRise m → RiseFrom least m
unfolding is_live born_at
rises_from least [] low h = tt
rises_from least (b ∷ m) low h = (let g = low b.born.serial here in omega (arith, g), rises_from b.born.serial m h.0 h.1)
  where
    here : is_live (b ∷ m) b.born.serial ≡ true
    here = grind (arith, nat_tests)

pub rise_of : (m : Memory) → SerialsRise m → Rise m
rise_of [] h = tt
rise_of (b ∷ m) h = (omega arith, rises_from b.born.serial m h.0 h.1)

-- a block that is put into its place
pub rises_with : (m n : Memory) (b : MemoryBlock) (i : ℕ) → Rise m → i ≡ place_for m b.born.serial → n ≡ insert m i b → Rise n
rises_with m n b i h at is = subst Rise (sym (is ∙ ap (λ (k : ℕ). insert m k b) at ∙ in_its_place m b)) (inserted_rises b m h)
