-- Stores into objects that were just born: none comes to a stop.
use Rattle.std.proofs.Common.{◌≡◌, ℕ, Bool, true, Some, List, [], ◌∷◌, Result, Ok, Err, inl, inr, refl, sym, ◌∙◌, ap}
use Rattle.std.specs.Prelude.{nat_lt}
use Rattle.std.proofs.lemmas.Bool.{lt-ltb}
use Rattle.mdr_core.specs.declared.stop.StopKind.{StopKind}
use Rattle.mdr_meaning.specs.declared.wire.Wire.{Wire}
use Rattle.mdr_model.specs.declared.memory.Cell.{Cell}
use Rattle.mdr_model.specs.declared.message.New.{New}
use Rattle.mdr_model.specs.Memory.{Memory, born_at, is_live, reached, reached_by, stored, stored_into}
use Rattle.mdr_model.proofs.MemoryLaws.{born_at-put}
use Rattle.mdr_plain.specs.Storage.{pointer_to}
use Rattle.mdr_plain.specs.World.{World}
use Rattle.mdr_serves.proofs.Accesses.{is_born, stored_is}
use Rattle.mdr_serves.proofs.Relations.{AreOpened, IsOpened, Opens}
use Rattle.mdr_serves.proofs.Strict.{Birth, IsFresh}
use Rattle.mdr_shows.proofs.Membership.{membership_is_one}
use Rattle.mdr_watched.specs.Driver.{Driver}
use Rattle.mdr_watched.specs.Views.{may_touch, top}

-- the first cell of an object
abbrev first_cell : New → Cell
first_cell block = record { serial = block.serial; index = 0 }

goes_at : (w : World) (block : New) (v : Wire) → is_live w.memory block.serial ≡ true → nat_lt 0 block.count ≡ true → may_touch w (first_cell block) ≡ true → (m : Memory) × (stored (may_touch w) w.memory (pointer_to block) v ≡ Ok m)
unfolding stored reached
goes_at w block v live some may = (_, of (is_live w.memory block.serial) (nat_lt 0 block.count) (may_touch w (first_cell block)) live some may)
  where
    of : (a b c : Bool) → a ≡ true → b ≡ true → c ≡ true → stored_into w.memory v (reached_by a b c (first_cell block)) ≡ stored_into w.memory v (Ok (first_cell block))
    of a b c e f g = rw (e, f, g) refl

never : {A E : Type 0} (x : A) (y : E) → ◌≡◌ {A = Result A E} (Ok x) (Err y) → ⊥
never x y e = cc

one_goes : (d : Driver) (t : ℕ) (w : World) (b : Birth) (p v : Wire) (kind : StopKind) → IsOpened d t w b → p ≡ b.pointer → Opens d t b.shape → stored (may_touch w) w.memory p v ≡ Err kind → ⊥
one_goes d t w b p v kind o is opens e =
    let may : may_touch w (first_cell o.block) ≡ true = sym (membership_is_one (top w.views) (first_cell o.block)) ∙ o.visible opens in
    let goes = goes_at w o.block v (is_born w.memory o.block.serial o.block o.live) (lt-ltb 0 o.block.count o.some) may in
    never goes.0 kind (sym goes.1 ∙ ap (λ (q : Wire). stored (may_touch w) w.memory q v) (sym (is ∙ o.is)) ∙ e)

-- the store goes
pub fresh_goes : (d : Driver) (t : ℕ) (w : World) (fresh : List Birth) (p v : Wire) (kind : StopKind) → AreOpened d t w fresh → IsFresh (Opens d t) fresh p → stored (may_touch w) w.memory p v ≡ Err kind → ⊥
fresh_goes d t w [] p v kind opened among e = elim among [ ]
fresh_goes d t w (b ∷ fresh) p v kind opened (inl here) e = one_goes d t w b p v kind opened.0 here.0 here.1 e
fresh_goes d t w (b ∷ fresh) p v kind opened (inr among) e = fresh_goes d t w fresh p v kind opened.1 among e

-- and the others live on as they were
pub opened_stay : (d : Driver) (t : ℕ) (w : World) (fresh : List Birth) (p v : Wire) (m : Memory) → AreOpened d t w fresh → stored (may_touch w) w.memory p v ≡ Ok m → AreOpened d t (record w { memory = m }) fresh
opened_stay d t w [] p v m opened e = tt
opened_stay d t w (b ∷ fresh) p v m opened e =
    let o : IsOpened d t w b = opened.0 in
    let live : born_at m o.block.serial ≡ Some o.block =
    stored_is (may_touch w) w.memory p v m (λ (x : Memory). born_at x o.block.serial ≡ Some o.block) (λ c y. born_at-put w.memory c y o.block.serial ∙ o.live) e in
    (record { block = o.block; is = o.is; live = live; some = o.some; visible = o.visible }, opened_stay d t w fresh p v m opened.1 e)
