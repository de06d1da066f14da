-- One step of the code, over plain variables.
use Rattle.std.proofs.Common.{◌≡◌, ◌∙◌, ℕ, Some, None, refl, sym, ap, subst}
use Rattle.std.specs.Prelude.{is_some}
use Rattle.mdr_core.specs.declared.value.Block.{Block}
use Rattle.mdr_core.specs.declared.value.Value.{Value}
use Rattle.mdr_meaning.specs.declared.wire.Wire.{Wire}
use Rattle.mdr_meaning.specs.Values.{wire_of}
use Rattle.mdr_model.specs.declared.memory.Cell.{Cell}
use Rattle.mdr_model.specs.Copies.{inserted}
use Rattle.mdr_model.specs.Memory.{Memory, born_at, is_live, killed, normal, put}
use Rattle.mdr_model.specs.Agreement.{SerialsRise}
use Rattle.mdr_model.proofs.MemoryLaws.{born_at-put, rises-put}
use Rattle.mdr_mem.specs.Contents.{Contents, IsInOrder, after_birth, after_death, after_store, births_in, is_handle, kind_of, shape_of}
use Rattle.mdr_track.specs.Pairs.{Pairs, paired, unpaired, unpaired_at}
use Rattle.mdr_track.specs.Pointers.{addressed}
use Rattle.mdr_user_memory.specs.declared.newborn.Newborn.{Newborn}
use Rattle.mdr_user_memory.specs.Paired.{IsLinked, IsTwin, Paired, now_of}
use Rattle.mdr_user_memory.specs.Taking.{Moves, block_of}
use Rattle.mdr_user_memory.proofs.NowLaws.{born_at-now, now_is, now_paired, rises-now}
use Rattle.mdr_user_memory.proofs.TwinLaws.{linked-born, linked-died, moves_death, moves_store, paired-born, shape_in}

-- where it goes is said by equations
pub moved : {f : Memory → Memory} {r s s' : Contents} {ps qs qs' : Pairs} → s' ≡ s → qs' ≡ qs → Moves f r ps s qs → Moves f r ps s' qs'
moved {f} {r} {s} {s'} {ps} {qs} {qs'} e k mv m p = subst (λ x. Paired (f m) x qs') (sym e) (subst (λ x. Paired (f m) s x) (sym k) (mv m p))

pub linked_moved : {s s' : Contents} {qs qs' : Pairs} → s' ≡ s → qs' ≡ qs → IsLinked s qs → IsLinked s' qs'
linked_moved {s} {s'} {qs} {qs'} e k l = subst (λ x. IsLinked x qs') (sym e) (subst (λ x. IsLinked s x) (sym k) l)

pub moved_from : {f : Memory → Memory} {r r1 s : Contents} {ps ps1 qs : Pairs} → r1 ≡ r → ps1 ≡ ps → Moves f r1 ps1 s qs → Moves f r ps s qs
moved_from {f} {r} {r1} {s} {ps} {ps1} {qs} e k mv m p = mv m (subst (λ x. Paired m x ps1) (sym e) (subst (λ x. Paired m r x) (sym k) p))

-- ---- a death

module _ (s : ℕ) (b : Block) (r r' : Contents) (ps ps' : Pairs) (dead : r' ≡ after_death b.serial r) (gone : ps' ≡ unpaired s ps) (order : IsInOrder r') (e : ps.user_of s ≡ Some b) where
  ordered : IsInOrder (after_death b.serial r)
  ordered = subst IsInOrder dead order

  pub bury_linked : IsLinked r ps → IsLinked r' ps'
  bury_linked l = linked_moved dead (gone ∙ ap (λ o. unpaired_at o s ps) e) (linked-died s b r ps ordered e l)

  pub bury_moves : Moves (killed s) r ps r' ps'
  bury_moves = moved dead gone (moves_death s b r ps ordered e)

pub stale_gone : (s : ℕ) (ps : Pairs) → ps.user_of s ≡ None → ps ≡ unpaired s ps
stale_gone s ps e = sym (ap (λ o. unpaired_at o s ps) e)

-- ---- a birth

module _ (x : Newborn) (b : Block) (r r' : Contents) (ps ps' : Pairs) (born : r' ≡ after_birth x.born.kind (shape_in x.born) x.first b r) (with : ps' ≡ paired x.born.serial b ps) (order : IsInOrder r') (next : b.serial ≡ births_in r.lives) (new : ps.user_of x.born.serial ≡ None) where
  ordered-born : IsInOrder (after_birth x.born.kind (shape_in x.born) x.first b r)
  ordered-born = subst IsInOrder born order

  pub bear_linked : IsLinked r ps → IsLinked r' ps'
  bear_linked l = linked_moved born with (linked-born (block_of x r.handles ps) x.first b r ps ordered-born next new l)

  pub bear_moves : Moves (inserted (block_of x r.handles ps)) r ps r' ps'
  bear_moves = moved born with (λ m p. paired-born (block_of x r.handles ps) x.first b r ps ordered-born next new m p refl)

-- ---- a store

module _ (c : Cell) (b : Block) (v y : Value) (r r' : Contents) (ps : Pairs) (is : y ≡ addressed ps v) (stored : r' ≡ after_store b c.index y r) (order : IsInOrder r') (e : ps.user_of c.serial ≡ Some b) where
  same : r' ≡ after_store b c.index (addressed ps v) r
  same = stored ∙ ap (λ x. after_store b c.index x r) is

  pub keep_linked : IsLinked r ps → IsLinked r' ps
  keep_linked l = record { order = order; matched = l.matched; only = subst (λ x. (k : Block) → is_handle x.handles k ≡ is_some (ps.serial_of k)) (sym same) l.only }

  pub keep_moves : Moves (λ m. put m c (normal m (wire_of v))) r ps r' ps
  keep_moves = moved same refl (moves_store c b v r ps (subst IsInOrder same order) e)

-- ---- code that runs

-- only births are looked at
pub twin-same : {m m' : Memory} {r : Contents} {ps : Pairs} → ((s : ℕ) → born_at m' s ≡ born_at m s) → IsTwin m r ps → IsTwin m' r ps
unfolding is_live
twin-same born w = record {
  linked = w.linked;
  live = λ s. ap (λ o. is_some o) (born s) ∙ w.live s;
  shape = λ s. ap (λ o. shape_of o) (born s) ∙ w.shape s;
  kind = λ s. ap (λ o. kind_of o) (born s) ∙ w.kind s;
}

module _ (copy : Memory) (r r' : Contents) (ps : Pairs) (c : Cell) (v : Wire) (w : IsTwin copy r ps) (moves : Moves (λ m. put m c (normal m v)) r ps r' ps) where
  abbrev now : Memory
  now = now_of copy r ps

  births-same : (s : ℕ) → born_at copy s ≡ born_at (put now c (normal now v)) s
  births-same s = sym (born_at-put now c (normal now v) s ∙ born_at-now copy r ps s)

  pub put_twin : IsTwin copy r' ps
  put_twin = twin-same births-same (moves now (now_paired w)).twin

  pub put_now : SerialsRise copy → now_of copy r' ps ≡ put now c (normal now v)
  put_now q = now_is copy q (rises-put now c (normal now v) (rises-now copy r ps q)) births-same (moves now (now_paired w))
