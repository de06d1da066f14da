-- What a store, a death and a birth change.
use Rattle.std.proofs.Common.{◌≡◌, true, Option, Some, None, refl, ◌∙◌, ap}
use Rattle.std.specs.Prelude.{is_some}
use Rattle.std.proofs.lemmas.Bool.{eq-eqb, cond-true, cond-false}
use Rattle.mdr_meaning.specs.declared.wire.Wire.{Wire}
use Rattle.mdr_model.specs.declared.message.New.{New}
use Rattle.mdr_model.specs.Memory.{is_live, cell_at, zero_block}
use Rattle.mdr_model.specs.MemoryKept.{StoreIsOneCell, DeathIsOneBlock, BirthIsOneBlock}
use Rattle.mdr_model.proofs.Tests.{not_both}
use Rattle.mdr_model.proofs.MemoryLaws.{replaced, itself, births-put, cell_at-put}
use Rattle.mdr_model.proofs.LifeLaws.{born_at-killed, cell_at-killed, born_at-inserted, cell_at-inserted, zero_block-get}

unfolding_same : (o : Option Wire) (v : Wire) → is_some o ≡ true → replaced o v ≡ Some v
unfolding_same None v e = absurd (not_both e refl)
unfolding_same (Some old) v e = refl

pub store_is_one_cell : StoreIsOneCell
store_is_one_cell = record {
  blocks = births-put;
  here = λ m c v e. cell_at-put m c v c ∙ cond-true _ _ _ (itself c) ∙ unfolding_same (cell_at m c) v e;
  others = λ m c d v e. cell_at-put m c v d ∙ cond-false _ _ _ e;
}

pub death_is_one_block : DeathIsOneBlock
unfolding is_live
death_is_one_block = record {
  gone = λ m s. ap (λ (o : Option New). is_some o) (born_at-killed s m s ∙ cond-true _ _ _ (eq-eqb s s refl));
  blocks = λ m d s e. born_at-killed d m s ∙ cond-false _ _ _ e;
  cells = λ m d c e. cell_at-killed d m c ∙ cond-false _ _ _ e;
}

pub birth_is_one_block : BirthIsOneBlock
birth_is_one_block = record {
  born = λ program m n. born_at-inserted (zero_block program n) m n.serial ∙ cond-true _ _ _ (eq-eqb n.serial n.serial refl);
  zeros = λ program m n i. cell_at-inserted (zero_block program n) m (record { serial = n.serial; index = i }) ∙ cond-true _ _ _ (eq-eqb n.serial n.serial refl) ∙ zero_block-get program n i;
  blocks = λ program m n s e. born_at-inserted (zero_block program n) m s ∙ cond-false _ _ _ e;
  cells = λ program m n c e. cell_at-inserted (zero_block program n) m c ∙ cond-false _ _ _ e;
}
