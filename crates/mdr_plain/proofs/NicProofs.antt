-- The network driver's run comes to its outcome, which has its text.
use Rattle.std.proofs.Common.{◌≡◌, ℕ, List, [], ◌∷◌, refl, ap, ◌∙◌}
use Rattle.std.specs.Prelude.{codes, pos, negsuc}
use Rattle.mdr_core.specs.declared.kind.Kind.TheVariants.{U32, S32}
use Rattle.mdr_core.specs.declared.value.LockState.TheVariants.{Free}
use Rattle.mdr_core.specs.declared.value.Value.{Value}
use Rattle.mdr_core.specs.declared.value.Value.TheVariants as value
use Rattle.mdr_core.specs.Operators.{bitwise}
use Rattle.mdr_core.specs.Bits.{bit_of, of_bits}
use Rattle.mdr_core.specs.Worked.{buf, card, op, stats}
use Rattle.mdr_model.specs.declared.outcome.End.TheVariants as ends
use Rattle.mdr_model.specs.declared.outcome.Object.{Object}
use Rattle.mdr_model.specs.declared.outcome.Seen.TheVariants as seen
use Rattle.mdr_plain.specs.declared.outcome.Happened.{Happened}
use Rattle.mdr_plain.specs.declared.outcome.Happened.TheVariants as happened
use Rattle.mdr_plain.specs.declared.outcome.Outcome.{Outcome}
use Rattle.mdr_plain.specs.Report.{report}
use Rattle.mdr_plain.specs.WorkedNic.{DrivesCard, arguments, nic, nic_shown, nic_text}
use Rattle.mdr_plain.proofs.Computing.{runs, reports, struct_text}

abbrev calling : List ℕ → List ℕ → Happened
calling name ns = happened.Call name (arguments ns)

abbrev gives : ℕ → Happened
gives n = happened.Ret (value.Int S32 (pos n))

abbrev fails : ℕ → Happened
fails n = happened.Ret (value.Int S32 (negsuc n))

abbrev interrupt : List Happened → List Happened
interrupt behind = happened.Irq 0 ∷ happened.Read 1 1 ∷ happened.Wrote 1 0 ∷ behind

abbrev number : ℕ → Value
number n = value.Int U32 (pos n)

abbrev to_buffer : ℕ → Value
to_buffer serial = value.Ptr (record { block = record { slot = 0; serial = serial }; first = 0; ty = 9; count = 1; index = 0 })

abbrev buffer : ℕ → Object
buffer n = record {
  ty = 9;
  count = 1;
  cells =
      seen.Int (pos n) ∷ seen.Int (pos 0) ∷ seen.Int (pos 0) ∷ seen.Int (pos 0) ∷ seen.Int (pos 0) ∷ seen.Int (pos 0) ∷ seen.Int (pos 0) ∷ seen.Int (pos 0) ∷ seen.Int (pos 0) ∷ seen.Null ∷ [];
}

abbrev driven : Outcome
driven = record {
  events =
      calling (codes "nic_probe") [] ∷ happened.Log (codes "nic: 4 buffers\n") ∷ gives 0
      ∷ calling (codes "nic_transmit") (60 ∷ []) ∷ fails 99
      ∷ calling (codes "nic_open") [] ∷ happened.Wrote 0 1 ∷ gives 0
      ∷ calling (codes "nic_transmit") (60 ∷ []) ∷ happened.Wrote 2 60 ∷ gives 0
      ∷ happened.Idle 10 ∷ interrupt
      (calling (codes "nic_transmit") (90 ∷ []) ∷ happened.Wrote 2 90 ∷ gives 0
      ∷ happened.Idle 10 ∷ interrupt
      (calling (codes "nic_total") [] ∷ happened.Ret (number 157)
      ∷ calling (codes "nic_ioctl") (1 ∷ 0 ∷ []) ∷ gives 0
      ∷ calling (codes "nic_transmit") (7 ∷ []) ∷ fails 99
      ∷ calling (codes "nic_ioctl") (2 ∷ 5 ∷ []) ∷ gives 0
      ∷ calling (codes "nic_ioctl") (9 ∷ 0 ∷ []) ∷ fails 24
      ∷ happened.Show (codes "card")
      (value.Lock Free ∷ number 0 ∷ number 0 ∷ number 0 ∷ number 5 ∷ to_buffer 2 ∷ to_buffer 3 ∷ to_buffer 4 ∷ to_buffer 5 ∷ number 2 ∷ value.Null ∷ [])
      ∷ []));
  end = ends.Ok;
  ticks = 152;
  live = 6;
  objects =
      record {
        ty = 11;
        count = 1;
        cells =
            seen.Free ∷ seen.Int (pos 0) ∷ seen.Int (pos 0) ∷ seen.Int (pos 0) ∷ seen.Int (pos 5) ∷ seen.At 3 0 ∷ seen.At 4 0 ∷ seen.At 5 0 ∷ seen.At 6 0 ∷ seen.Int (pos 2) ∷ seen.Null ∷ [];
      }
      ∷ record { ty = 12; count = 3; cells = seen.Int (pos 1) ∷ seen.Fn 1 ∷ seen.Int (pos 2) ∷ seen.Fn 2 ∷ seen.Int (pos 0) ∷ seen.Null ∷ [] }
      ∷ buffer 60 ∷ buffer 90 ∷ buffer 3 ∷ buffer 4 ∷ [];
}

nic_ends : nic_shown ≡ driven
unfolding runs bitwise bit_of of_bits
nic_ends = refl

nic_reads : report nic driven ≡ nic_text
unfolding reports
nic_reads = rw (struct_text (buf ∷ stats ∷ card ∷ op ∷ []) 2, struct_text (buf ∷ stats ∷ card ∷ op ∷ []) 3, struct_text (buf ∷ stats ∷ card ∷ op ∷ []) 0) refl

pub drives_card : DrivesCard
drives_card = ap (report nic) nic_ends ∙ nic_reads
