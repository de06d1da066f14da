-- The user half finds the cells of a set in its own memory, each with its key.
use Rattle.std.proofs.Common.{◌≡◌, ℕ, true, List, sym, ◌∙◌}
use Rattle.mdr_core.specs.declared.plan.Key.{Key}
use Rattle.mdr_core.specs.declared.program.Program.{Program}
use Rattle.mdr_meaning.specs.declared.wire.Wire.{Wire}
use Rattle.mdr_model.specs.declared.memory.Cell.{Cell}
use Rattle.mdr_model.specs.Agreement.{IsAgreed, IsShared, IsShown, Serials}
use Rattle.mdr_model.specs.Copies.{begun_copy}
use Rattle.mdr_model.specs.Memory.{Memory, born_at, is_live}
use Rattle.mdr_model.proofs.AgreedMessages.{born_at-begun, placed}
use Rattle.mdr_shows.specs.Cells.{IsSetOf}
use Rattle.mdr_shows.specs.Laws.{SetsAreCopied}
use Rattle.mdr_shows.proofs.Membership.{membership_is_one}
use Rattle.mdr_shows.proofs.Open.{set_moved}

in_message : (program : Program) (known : Serials) (next : ℕ) (touched : List Key) (view : List Cell) (values : List Wire) (copy m : Memory) → IsAgreed program known next copy m → IsShown view values copy m → IsSetOf program touched m view
    → IsSetOf program touched (begun_copy program view values copy m) view
in_message program known next touched view values copy m a shown s =
    set_moved program touched m (begun_copy program view values copy m) view
    (λ c h. born_at-begun program view values copy m c.serial (a.born c.serial) (placed program view values copy m c a shown (membership_is_one view c ∙ h))) s

in_user : (program : Program) (known : Serials) (next : ℕ) (touched : List Key) (view : List Cell) (copy m w u : Memory) → IsShared program known next view copy m w u → IsSetOf program touched w view → IsSetOf program touched u view
in_user program known next touched view copy m w u r s = set_moved program touched w u view (λ c h. same c.serial (r.placed c (membership_is_one view c ∙ h))) s
  where
    same : (serial : ℕ) → is_live copy serial ≡ true → born_at u serial ≡ born_at w serial
    same serial h = r.user_born serial ∙ sym (r.agree.born serial h (r.live serial h)) ∙ sym (r.whole_born serial)

pub sets_are_copied : SetsAreCopied
sets_are_copied = record { message = in_message; user = in_user }
