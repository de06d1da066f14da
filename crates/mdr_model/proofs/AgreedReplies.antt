-- M2: what a reply of the user half tells, and what holds after it.
use Rattle.std.proofs.Common.{◌≡◌, ℕ, true, List, Some, refl, sym, ◌∙◌, arith}
use Rattle.std.proofs.lemmas.Bool.{eq-eqb}
use Rattle.mdr_core.specs.declared.program.Program.{Program}
use Rattle.mdr_meaning.specs.declared.wire.Wire.{Wire}
use Rattle.mdr_meaning.specs.declared.wire.Wire.TheVariants as wire
use Rattle.mdr_model.specs.Memory.{Memory, Cell, born_at, is_live, cell_at, put, normal}
use Rattle.mdr_model.specs.Sets.{is_in}
use Rattle.mdr_model.specs.Copies.{changed_cells, changes, put_runs}
use Rattle.mdr_model.specs.Agreement.{names_it, IsFormed, Serials, IsAgreed, MayBeTold, IsShared, IsKnown}
use Rattle.mdr_model.proofs.MemoryLaws.{same_memory, rises-put, born_at-put, cell_at-put}
use Rattle.mdr_model.proofs.CopyLaws.{same_cell, is_in-changed, cell_at-changes, born_at-put_runs, rises-put_runs}
use Rattle.mdr_model.proofs.LifeLaws.{names-normal}

-- ---- the reply

-- storing the reply gives the whole run's memory
pub reply_whole : {program : Program} {known : Serials} {next : ℕ} {view : List Cell} {copy m w u : Memory} → IsShared program known next view copy m w u → put_runs (changes view copy u) m ≡ w
reply_whole {view = view} {copy} {m} {w} {u} r =
    same_memory _ w (rises-put_runs (changes view copy u) m r.agree.formed.rises) r.whole.rises (λ s. born_at-put_runs (changes view copy u) m s ∙ sym (r.whole_born s))
    (λ c. grind (arith, cell_at-changes view copy u m c (λ h. grind (arith, r.kernel_cells c, r.user.sized c, r.agree.copied.sized c, r.user_born c.serial)) (λ h. grind (arith, r.kernel_cells c)), r.user_cells c, r.kernel_cells c))

-- and the user half's in the copy
pub reply_user : {program : Program} {known : Serials} {next : ℕ} {view : List Cell} {copy m w u : Memory} → IsShared program known next view copy m w u → put_runs (changes view copy u) copy ≡ u
reply_user {view = view} {copy} {m} {w} {u} r =
    same_memory _ u (rises-put_runs (changes view copy u) copy r.agree.copied.rises) r.user.rises (λ s. born_at-put_runs (changes view copy u) copy s ∙ sym (r.user_born s))
    (λ c. grind (arith, cell_at-changes view copy u copy c (λ h. grind (arith, r.user.sized c, r.agree.copied.sized c, r.user_born c.serial)) (λ h. refl), r.user_cells c))

-- so both sides agree on it
pub replied : {program : Program} {known : Serials} {next : ℕ} {view : List Cell} {copy m w u : Memory} → IsShared program known next view copy m w u → IsAgreed program known next u w
unfolding is_live
replied r = record {
  copied = r.user;
  formed = r.whole;
  born = λ s h k. grind (arith, r.user_born s, r.whole_born s, r.agree.born s);
  knows = λ s h. grind (arith, r.user_born s, r.agree.knows s);
  paired = λ s h k. grind (arith, r.user_born s, r.whole_born s, r.agree.paired s);
  told = r.agree.told;
  low = λ s h. grind (arith, r.whole_born s, r.agree.low s);
}

-- the kernel half may accept it
pub tellable : {program : Program} {known : Serials} {next : ℕ} {view : List Cell} {copy m w u : Memory} → IsShared program known next view copy m w u → MayBeTold view copy m u (changed_cells view copy u)
unfolding is_live
tellable {view = view} {copy} {m} {w} {u} r = record {
  inside = λ c h. grind (arith, is_in-changed view copy u c);
  there = λ c h. grind (arith, is_in-changed view copy u c, r.kernel_cells c, r.user.sized c, r.agree.copied.sized c, r.user_born c.serial);
  paired = λ c s h k. grind (arith, r.user.closed c s k, r.user_born s, r.live s);
}

-- ---- loads and stores of user code

-- a known block is the same in both memories, or in neither
pub alike : {program : Program} {known : Serials} {next : ℕ} {view : List Cell} {copy m w u : Memory} (s : ℕ) → IsShared program known next view copy m w u → known s ≡ true → born_at u s ≡ born_at w s
unfolding is_live
alike s r k = grind (arith, r.user_born s, r.whole_born s, r.agree.born s, r.agree.paired s, r.live s)

pub get : {program : Program} {known : Serials} {next : ℕ} {view : List Cell} {copy m w u : Memory} (c : Cell) → IsShared program known next view copy m w u → is_in view c ≡ true → cell_at u c ≡ cell_at w c
get c r h = grind (arith, r.user_cells c)

-- what is loaded is known
pub get_known : {program : Program} {known : Serials} {next : ℕ} {view : List Cell} {copy m w u : Memory} (c : Cell) (v : Wire) → IsShared program known next view copy m w u → cell_at u c ≡ Some v → IsKnown known v
unfolding is_live names_it
get_known c v r e = λ s h. grind (arith, r.user.closed c s, r.user_born s, r.agree.knows s)

pub formed-put : {program : Program} (m : Memory) (c : Cell) (v : Wire) → IsFormed program m → IsFormed program (put m c (normal m v))
unfolding is_live names_it
formed-put m c v f = record {
  rises = rises-put m c (normal m v) f.rises;
  sized = λ d. grind (arith, f.sized d, cell_at-put m c (normal m v) d, born_at-put m c (normal m v) d.serial);
  closed = λ d s h. grind (arith, f.closed d s, cell_at-put m c (normal m v) d, born_at-put m c (normal m v) s, names-normal m v s);
}

-- a known value is stored and sent in the same way
pub normal-known : {program : Program} {known : Serials} {next : ℕ} {view : List Cell} {copy m w u : Memory} (v : Wire) → IsShared program known next view copy m w u → IsKnown known v → normal u v ≡ normal w v
unfolding normal is_live
normal-known (wire.Ptr p) r k = grind (arith, alike p.serial r (k p.serial (eq-eqb p.serial p.serial refl)))
normal-known (wire.Int kind n) r k = refl
normal-known wire.Null r k = refl
normal-known wire.Dead r k = refl
normal-known (wire.Fn f) r k = refl
normal-known (wire.Lock s) r k = refl
normal-known wire.NoValue r k = refl

pub put_keeps : {program : Program} {known : Serials} {next : ℕ} {view : List Cell} {copy m w u : Memory} (c : Cell) (v : Wire) → IsShared program known next view copy m w u → is_in view c ≡ true → IsKnown known v
    → IsShared program known next view copy m (put w c (normal w v)) (put u c (normal u v))
put_keeps {view = view} {copy} {m} {w} {u} c v r h k = record {
  agree = r.agree;
  whole = formed-put w c v r.whole;
  user = formed-put u c v r.user;
  live = r.live;
  placed = r.placed;
  user_born = λ s. born_at-put u c (normal u v) s ∙ r.user_born s;
  whole_born = λ s. born_at-put w c (normal w v) s ∙ r.whole_born s;
  user_cells = λ d. grind (arith, r.user_cells d, cell_at-put u c (normal u v) d, cell_at-put w c (normal w v) d, normal-known v r k, same_cell d c);
  kernel_cells = λ d. grind (arith, r.kernel_cells d, cell_at-put w c (normal w v) d, same_cell d c);
}
