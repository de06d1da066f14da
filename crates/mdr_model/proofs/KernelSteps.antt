-- What the steps of code of the kernel half leave: stores, deaths and births, and one after another.
use Rattle.std.proofs.Common.{◌≡◌, ℕ, suc, ◌<◌, Bool, true, false, refl, arith}
use Rattle.std.proofs.lemmas.Bool.{eqb-true}
use Rattle.mdr_core.specs.declared.program.Program.{Program}
use Rattle.mdr_meaning.specs.declared.wire.Wire.{Wire}
use Rattle.mdr_model.specs.declared.message.New.{New}
use Rattle.mdr_model.specs.Memory.{Memory, Cell, is_live, cell_at, put, killed, zero_block, normal}
use Rattle.mdr_model.specs.Copies.{inserted}
use Rattle.mdr_model.specs.Agreement.{names_it, IsFormed, IsBelow, MayFollow, StepsMayFollow}
use Rattle.mdr_model.proofs.MemoryLaws.{born_at-put}
use Rattle.mdr_model.proofs.LifeLaws.{names-swept, born_at-killed, cell_at-killed, rises-killed, some-swept, born_at-inserted, cell_at-inserted, rises-inserted, zero_names, zero_there, zero_block-get}
use Rattle.mdr_model.proofs.AgreedReplies.{formed-put}

after_none : (program : Program) (next : ℕ) (m : Memory) → IsFormed program m → IsBelow next m → MayFollow program next m next m
after_none program next m f low = record { formed = f; later = omega arith; low = low; old = λ s h k. refl }

after_more : {program : Program} {n n' n'' : ℕ} {m m' m'' : Memory} → MayFollow program n m n' m' → MayFollow program n' m' n'' m'' → MayFollow program n m n'' m''
unfolding is_live
after_more f g = record { formed = g.formed; later = omega (arith, f.later, g.later); low = g.low; old = λ s h k. grind (arith, g.old s h, f.old s, f.later) }

after_store : (program : Program) (next : ℕ) (m : Memory) (c : Cell) (v : Wire) → IsFormed program m → IsBelow next m → MayFollow program next m next (put m c (normal m v))
unfolding is_live
after_store program next m c v f low = record {
  formed = formed-put m c v f;
  later = omega arith;
  low = λ s h. grind (arith, low s, born_at-put m c (normal m v) s);
  old = λ s h k. born_at-put m c (normal m v) s;
}

after_death : (program : Program) (next : ℕ) (m : Memory) (d : ℕ) → IsFormed program m → IsBelow next m → MayFollow program next m next (killed d m)
unfolding is_live names_it
after_death program next m d f low = record {
  formed = record {
    rises = rises-killed d m f.rises;
    sized = λ c. grind (arith, f.sized c, cell_at-killed d m c, some-swept d (cell_at m c), born_at-killed d m c.serial);
    closed = λ c s h. grind (arith, f.closed c s, cell_at-killed d m c, names-swept d (cell_at m c) s, born_at-killed d m s);
  };
  later = omega arith;
  low = λ s h. grind (arith, low s, born_at-killed d m s);
  old = λ s h k. grind (arith, born_at-killed d m s);
}

after_birth : (program : Program) (m : Memory) (n : New) → IsFormed program m → IsBelow n.serial m → MayFollow program n.serial m (suc n.serial) (inserted (zero_block program n) m)
unfolding is_live names_it
after_birth program m n f low = record {
  formed = record {
    rises = rises-inserted (zero_block program n) m (new (is_live m n.serial) (low n.serial)) f.rises;
    sized = λ c. grind (arith, f.sized c, cell_at-inserted (zero_block program n) m c, born_at-inserted (zero_block program n) m c.serial, zero_block-get program n c.index, zero_there program n c.index);
    closed = λ c s h. grind (arith, f.closed c s, cell_at-inserted (zero_block program n) m c, born_at-inserted (zero_block program n) m s, zero_block-get program n c.index, zero_names program n c.index s);
  };
  later = omega arith;
  low = λ s h. grind (arith, low s, born_at-inserted (zero_block program n) m s, eqb-true n.serial s);
  old = λ s h k. grind (arith, born_at-inserted (zero_block program n) m s, eqb-true n.serial s);
}
  where
    new : (t : Bool) → (t ≡ true → n.serial < n.serial) → t ≡ false
    new true h = absurd (omega (arith, h refl))
    new false h = refl

pub steps_may_follow : StepsMayFollow
steps_may_follow = record { none = after_none; more = after_more; store = after_store; death = after_death; birth = after_birth }
