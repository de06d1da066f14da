-- protocol
-- The blocks that values name, listed once for all look-ups.
use Rattle.std.specs.Prelude.{ℕ, Bool, cond, not, ◌&&◌, List, [], ◌∷◌, ◌==◌}
use Rattle.std.specs.List.{list_any}
use Rattle.mdr_meaning.specs.declared.wire.Wire.{Wire}
use Rattle.mdr_meaning.specs.declared.wire.Wire.TheVariants as wire
use Rattle.mdr_model.specs.declared.message.New.{New}
use Rattle.mdr_model.specs.Memory.{Memory, is_live}

-- the serial that a value names, in front of others
abbrev pub with_named : Wire → List ℕ → List ℕ
with_named (wire.Ptr p) serials = p.serial ∷ serials
with_named _ serials = serials

unfoldable pub named_serials : List Wire → List ℕ
named_serials [] = []
named_serials (v ∷ vs) = with_named v (named_serials vs)

abbrev pub is_listed : List ℕ → ℕ → Bool
is_listed serials serial = list_any (λ (s : ℕ). s == serial) serials

-- the blocks that the copy hasn't and a test names
unfoldable pub news_by : Memory → (ℕ → Bool) → Memory → List New
news_by copy named [] = []
news_by copy named (b ∷ m) =
    cond (not (is_live copy b.born.serial) && named b.born.serial) (b.born ∷ news_by copy named m) (news_by copy named m)
