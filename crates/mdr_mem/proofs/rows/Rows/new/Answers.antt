use Rattle.std.proofs.Common.{[]}
use Rattle.mdr_mem.proofs.SoundLaws.{sound-empty, blocks-none}
use Rattle.mdr_mem.proofs.rows.Rows.new.Goals as goal

pub returns-clause-sound : goal.returns-clause-sound
returns-clause-sound c = rw (c.new.ensures.items, c.new-2.ensures.empty, c.new-3.ensures.items) (sound-empty _)

pub returns-clause-empty : goal.returns-clause-empty
returns-clause-empty c = rw (c.new.ensures.items, c.new-3.ensures.items) (λ i. record { handles = []; memory = blocks-none [] c.new-2.result.slots i; lives = [] })
