-- The parts of the user half's memory, as messages and code leave them.
use Rattle.std.proofs.Common.{◌≡◌, ◌∙◌, ℕ, true, List, [], map, sym, ap, subst}
use Rattle.std.specs.Prelude.{is_some}
use Rattle.mdr_core.specs.declared.program.Program.{Program}
use Rattle.mdr_meaning.specs.declared.wire.Wire.{Wire}
use Rattle.mdr_model.specs.declared.memory.Cell.{Cell}
use Rattle.mdr_model.specs.declared.message.New.{New}
use Rattle.mdr_model.specs.declared.message.Run.{Run}
use Rattle.mdr_model.specs.Agreement.{SerialsRise}
use Rattle.mdr_model.specs.Copies.{put_runs, values_of_runs}
use Rattle.mdr_model.specs.Memory.{Memory, cell_at, is_live, normal, put}
use Rattle.mdr_model.specs.User.{lives_fit, renewed_copy}
use Rattle.mdr_model.proofs.CopyLaws.{rises-put_runs}
use Rattle.mdr_region.specs.RowsView.{Reserved}
use Rattle.mdr_track.specs.Pairs.{no_pairs}
use Rattle.mdr_track.specs.Tracked.{Tracked, pairs_of}
use Rattle.mdr_user_memory.specs.Copied.{Copied, Past, copied, past_of}
use Rattle.mdr_user_memory.specs.Kept.{IsKept, IsSeen, Kept, kept}
use Rattle.mdr_user_memory.specs.Paired.{Paired, held_in, now_of}
use Rattle.mdr_user_memory.specs.Taking.{AreFresh, AreKept, AreSized, Moves, newborn_of, taken, unpaired_all}
use Rattle.mdr_user_memory.proofs.MessageLaws.{message_fresh, message_rises, message_sized, message_taken}
use Rattle.mdr_user_memory.proofs.NowLaws.{now_copy, now_paired}
use Rattle.mdr_user_memory.proofs.OpeningLaws.{empty_paired}
use Rattle.mdr_user_memory.proofs.StepLaws.{put_now, put_twin}

-- ---- a message

module _ (program : Program) (deaths : List ℕ) (news : List New) (runs : List Run) (agreed : Memory) (region : Reserved) (pairs : Tracked) (old : Kept) (view_is : kept agreed region pairs ≡ old) (k : IsKept agreed region pairs)
    (lives : lives_fit program old.agreed deaths news ≡ true) where
  here : lives_fit program agreed deaths news ≡ true
  here = ap (λ (x : Kept). lives_fit program x.agreed deaths news) view_is ∙ lives

  pub take_fresh : AreFresh (map (newborn_of program) news) (unpaired_all deaths (pairs_of pairs))
  take_fresh = message_fresh program deaths news agreed here (pairs_of pairs) k.paired.twin.live

  pub take_sized : AreSized (map (newborn_of program) news)
  take_sized = message_sized program deaths news agreed here

  module _ (region' : Reserved) (pairs' : Tracked) (copy : Memory) (leads : copy ≡ put_runs runs (renewed_copy program deaths news old.agreed)) (as_kept : AreKept (values_of_runs runs) (renewed_copy program deaths news old.agreed))
      (moves : Moves (taken deaths (map (newborn_of program) news) runs) region.contents (pairs_of pairs) region'.contents (pairs_of pairs')) where
    same : (x : Kept) → kept agreed region pairs ≡ x → agreed ≡ x.agreed
    same x e = ap (λ (y : Kept). y.agreed) e

    kept_here : AreKept (values_of_runs runs) (renewed_copy program deaths news agreed)
    kept_here = subst (λ m. AreKept (values_of_runs runs) (renewed_copy program deaths news m)) (sym (same old view_is)) as_kept

    copy_is : taken deaths (map (newborn_of program) news) runs agreed ≡ copy
    copy_is =
        message_taken program deaths news agreed here runs k.rises kept_here
        ∙ (ap (λ m. put_runs runs (renewed_copy program deaths news m)) (same old view_is) ∙ sym leads)

    pub take_kept : IsKept copy region' pairs'
    take_kept = record {
      paired = subst (λ m. Paired m region'.contents (pairs_of pairs')) copy_is (moves agreed k.paired);
      rises =
          subst SerialsRise (sym (leads ∙ ap (λ m. put_runs runs (renewed_copy program deaths news m)) (sym (same old view_is))))
          (rises-put_runs runs (renewed_copy program deaths news agreed) (message_rises program deaths news agreed here runs k.rises));
    }

-- where nothing was changed
pub kept_same : (agreed : Memory) (region region' : Reserved) (pairs pairs' : Tracked) → region'.contents ≡ region.contents → pairs_of pairs' ≡ pairs_of pairs → IsKept agreed region pairs → IsKept agreed region' pairs'
kept_same agreed region region' pairs pairs' e f k = record {
  paired = subst (λ x. Paired agreed x (pairs_of pairs')) (sym e) (subst (λ x. Paired agreed region.contents x) (sym f) k.paired);
  rises = k.rises;
}

pub empty_kept : (agreed : Memory) (region : Reserved) (pairs : Tracked) → agreed ≡ [] → region.contents ≡ record { handles = []; memory = []; lives = [] } → pairs_of pairs ≡ no_pairs → IsKept agreed region pairs
empty_kept agreed region pairs e f g = subst (λ m. IsKept m region pairs) (sym e) (record { paired = empty_paired region.contents (pairs_of pairs) f g; rises = tt })

-- ---- code

pub kept_seen : (agreed : Memory) (region : Reserved) (pairs : Tracked) → IsKept agreed region pairs → IsSeen agreed region pairs
kept_seen agreed region pairs k = record { twin = k.paired.twin; rises = k.rises }

pub seen_is : (agreed : Memory) (region : Reserved) (pairs : Tracked) (view : List Cell) (old : Kept) → kept agreed region pairs ≡ old → IsKept agreed region pairs
    → copied (past_of region pairs) agreed view (now_of agreed region.contents (pairs_of pairs)) ≡ copied (past_of old.region old.pairs) old.agreed view old.agreed
seen_is agreed region pairs view old e k =
    ap (λ m. copied (past_of region pairs) agreed view m) (now_copy k.rises k.paired) ∙ ap (λ (x : Kept). copied (past_of x.region x.pairs) x.agreed view x.agreed) e

-- what code leaves, agreed on
pub settled_kept : (runs : List Run) (agreed : Memory) (region : Reserved) (pairs : Tracked) (view : List Cell) (old : Copied) → copied (past_of region pairs) agreed view (now_of agreed region.contents (pairs_of pairs)) ≡ old → IsSeen agreed region pairs
    → put_runs runs old.agreed ≡ old.memory → IsKept (put_runs runs agreed) region pairs
settled_kept runs agreed region pairs view old e s told =
    let is : put_runs runs agreed ≡ now_of agreed region.contents (pairs_of pairs) = ap (λ (x : Copied). put_runs runs x.agreed) e ∙ (told ∙ sym (ap (λ (x : Copied). x.memory) e)) in
    record {
      paired = subst (λ m. Paired m region.contents (pairs_of pairs)) (sym is) (now_paired s.twin);
      rises = rises-put_runs runs agreed s.rises;
    }

pub settled_is : (runs : List Run) (agreed : Memory) (region : Reserved) (pairs : Tracked) (view : List Cell) (old : Copied) → copied (past_of region pairs) agreed view (now_of agreed region.contents (pairs_of pairs)) ≡ old
    → put_runs runs old.agreed ≡ old.memory → put_runs runs agreed ≡ old.memory
settled_is runs agreed region pairs view old e told = ap (λ (x : Copied). put_runs runs x.agreed) e ∙ told

-- a store
pub seen_put : (agreed : Memory) (region region' : Reserved) (pairs : Tracked) (c : Cell) (v : Wire) → IsSeen agreed region pairs
    → Moves (λ m. put m c (normal m v)) region.contents (pairs_of pairs) region'.contents (pairs_of pairs) → IsSeen agreed region' pairs
seen_put agreed region region' pairs c v s moves =
    record { twin = put_twin agreed region.contents region'.contents (pairs_of pairs) c v s.twin moves; rises = s.rises }

pub put_is : (agreed : Memory) (region region' : Reserved) (pairs : Tracked) (view : List Cell) (old : Copied) (c : Cell) (v : Wire) → copied (past_of region pairs) agreed view (now_of agreed region.contents (pairs_of pairs)) ≡ old → IsSeen agreed region pairs
    → Moves (λ m. put m c (normal m v)) region.contents (pairs_of pairs) region'.contents (pairs_of pairs) → region'.contents.lives ≡ region.contents.lives
    → copied (past_of region' pairs) agreed view (now_of agreed region'.contents (pairs_of pairs)) ≡ copied old.past old.agreed old.view (put old.memory c (normal old.memory v))
put_is agreed region region' pairs view old c v e s moves same =
    ap (λ lives. copied (record { lives = lives; pairs = pairs }) agreed view (now_of agreed region'.contents (pairs_of pairs))) same
    ∙ ap (λ m. copied (past_of region pairs) agreed view m) (put_now agreed region.contents region'.contents (pairs_of pairs) c v s.twin moves s.rises)
    ∙ ap (λ (x : Copied). copied x.past x.agreed x.view (put x.memory c (normal x.memory v))) e

-- what is read of a cell
pub held_is : (agreed : Memory) (region : Reserved) (pairs : Tracked) (view : List Cell) (old : Copied) (c : Cell) → copied (past_of region pairs) agreed view (now_of agreed region.contents (pairs_of pairs)) ≡ old → IsSeen agreed region pairs
    → held_in region.contents (pairs_of pairs) c ≡ cell_at old.memory c
held_is agreed region pairs view old c e s = sym ((now_paired s.twin).cells c) ∙ ap (λ (x : Copied). cell_at x.memory c) e

pub live_is : (agreed : Memory) (region : Reserved) (pairs : Tracked) (view : List Cell) (old : Copied) (s : ℕ) → copied (past_of region pairs) agreed view (now_of agreed region.contents (pairs_of pairs)) ≡ old → IsSeen agreed region pairs
    → is_some ((pairs_of pairs).user_of s) ≡ is_live old.memory s
live_is agreed region pairs view old s e k = sym ((now_paired k.twin).twin.live s) ∙ ap (λ (x : Copied). is_live x.memory s) e
