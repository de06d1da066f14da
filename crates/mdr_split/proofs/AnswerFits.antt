-- What a service gives fits as its answer, where the blocks that it bore are told.
use Rattle.std.proofs.Common.{◌≡◌, ℕ, suc, ◌+◌, ◌<◌, ◌≤◌, ◌⊎◌, inl, inr, Bool, true, false, cond, not, ◌&&◌, ◌||◌, ◌==◌, nat_lt, List, [], ◌∷◌, ◌++◌, Option, Some, None, Result, Ok, Err, refl, sym, ap, ◌∙◌, subst, arith, eq-eqb, eqb-true}
use Rattle.std.specs.Prelude.{is_some}
use Rattle.std.proofs.lemmas.List.Sums.{sum_by-append}
use Rattle.mdr_core.specs.declared.kind.Kind.TheVariants.{U32, S32}
use Rattle.mdr_core.specs.declared.program.Program.{Program}
use Rattle.mdr_core.specs.declared.stop.StopKind.{StopKind}
use Rattle.mdr_core.specs.declared.stop.StopKind.TheVariants as stop
use Rattle.mdr_core.specs.Layout.{chosen}
use Rattle.mdr_core.specs.Services.{Service, Kzalloc, Kcalloc, Kfree, Readl, Writel, Printk, RequestIrq, FreeIrq, Deliver, Combolock, Combounlock, Bug, Enter, Leave, service_numbered}
use Rattle.mdr_device.specs.Machines.{read as read_register, written}
use Rattle.mdr_mem.specs.declared.cells.Life.{Life}
use Rattle.mdr_mem.specs.declared.cells.Life.TheVariants as life
use Rattle.mdr_mem.specs.Contents.{births_in, is_birth}
use Rattle.mdr_meaning.specs.declared.shape.Shape64.{Shape64}
use Rattle.mdr_meaning.specs.declared.wire.Wire.{Wire}
use Rattle.mdr_meaning.specs.declared.wire.Wire.TheVariants as wire
use Rattle.mdr_meaning.specs.Fair.{IsAsk, IsServed}
use Rattle.mdr_meaning.specs.Fit.{IsInteger, Knowledge}
use Rattle.mdr_meaning.specs.Tree.{Asked}
use Rattle.mdr_meaning.specs.Values.{first_of, natural, rest_of, saturated_u32}
use Rattle.mdr_model.specs.declared.memory.MemoryBlock.{MemoryBlock}
use Rattle.mdr_model.specs.declared.message.BirthKind.{BirthKind}
use Rattle.mdr_model.specs.declared.message.BirthKind.TheVariants.{Auto, Heap}
use Rattle.mdr_model.specs.declared.message.New.{New}
use Rattle.mdr_model.specs.Agreement.{IsBelow, is_named_in, news_at}
use Rattle.mdr_model.specs.Copies.{changed_cells, is_named, left_of, told_news}
use Rattle.mdr_model.specs.Memory.{Memory, born_at, is_live, zero_block}
use Rattle.mdr_model.specs.Values.{names_block}
use Rattle.mdr_model.proofs.AgreedMessages.{is_named_now, live-left, news_at-told}
use Rattle.mdr_model.proofs.Tests.{and_both}
use Rattle.mdr_plain.specs.declared.outcome.Happened.TheVariants as happened
use Rattle.mdr_plain.specs.Locks.{acquire, is_locked, release}
use Rattle.mdr_plain.specs.Services.{Served, allocated, as_now, as_served, asked_once_more, fails_now, freed, freed_by, gives, gives_none, is_no_block, is_whole, register_read, register_written, requested, served, served_by, stops, was_read, when_changed, with_device}
use Rattle.mdr_plain.specs.Storage.{births, born, new_of, next_serial, pointer_to}
use Rattle.mdr_plain.specs.World.{World, Ended, Stopped, noted}
use Rattle.mdr_split.specs.Services.{Block, Gives, Nothing, Number, Pointers, are_given, are_given_by, are_new, is_block, is_born_so, is_new, results_fit, terms_of}
use Rattle.mdr_split.proofs.ObjectLaws.{AreWhole, whole_differ}

-- the news tell each block that was born since, where a result names it
pub record TellsBirths (w w' : World) (rs : List Wire) (news : List New) : Type 0 where
  pub tells : (block : New) → next_serial w ≤ block.serial → born_at w'.memory block.serial ≡ Some block → is_named rs block.serial ≡ true → news_at news block.serial ≡ Some block

-- ---- a memory with one block more

born_stays : (m more : Memory) (serial : ℕ) (n : New) → born_at m serial ≡ Some n → born_at (m ++ more) serial ≡ Some n
unfolding born_at
born_stays [] more serial n e = absurd cc
born_stays (b ∷ m) more serial n e = of (b.born.serial == serial) e (born_stays m more serial n)
  where
    of : (t : Bool) → cond t (Some b.born) (born_at m serial) ≡ Some n → (born_at m serial ≡ Some n → born_at (m ++ more) serial ≡ Some n) → cond t (Some b.born) (born_at (m ++ more) serial) ≡ Some n
    of true h later = h
    of false h later = later h

born_last : (m : Memory) (b : MemoryBlock) → (is_live m b.born.serial ≡ true → ⊥) → born_at (m ++ b ∷ []) b.born.serial ≡ Some b.born
unfolding born_at is_live
born_last [] b new = ap (λ (t : Bool). cond t (Some b.born) None) (eq-eqb b.born.serial b.born.serial refl)
born_last (x ∷ m) b new = of (x.born.serial == b.born.serial) new (born_last m b)
  where
    of : (t : Bool) → (is_some (cond t (Some x.born) (born_at m b.born.serial)) ≡ true → ⊥) → ((is_some (born_at m b.born.serial) ≡ true → ⊥) → born_at (m ++ b ∷ []) b.born.serial ≡ Some b.born)
        → cond t (Some x.born) (born_at (m ++ b ∷ []) b.born.serial) ≡ Some b.born
    of true never later = absurd (never refl)
    of false never later = later never

live_or_last : (m : Memory) (b : MemoryBlock) (serial : ℕ) → is_live (m ++ b ∷ []) serial ≡ true → (is_live m serial ≡ true) ⊎ (b.born.serial ≡ serial)
unfolding born_at is_live
live_or_last [] b serial h = of (b.born.serial == serial) refl h
  where
    of : (t : Bool) → (b.born.serial == serial) ≡ t → is_some (cond t (Some b.born) None) ≡ true → (false ≡ true) ⊎ (b.born.serial ≡ serial)
    of true e g = inr (eqb-true b.born.serial serial e)
    of false e g = inl g
live_or_last (x ∷ m) b serial h = of (x.born.serial == serial) h (live_or_last m b serial)
  where
    of : (t : Bool) → is_some (cond t (Some x.born) (born_at (m ++ b ∷ []) serial)) ≡ true → (is_some (born_at (m ++ b ∷ []) serial) ≡ true → (is_some (born_at m serial) ≡ true) ⊎ (b.born.serial ≡ serial))
        → (is_some (cond t (Some x.born) (born_at m serial)) ≡ true) ⊎ (b.born.serial ≡ serial)
    of true g later = inl refl
    of false g later = later g

-- a block with a serial above all others
below_more : (m : Memory) (b : MemoryBlock) → IsBelow b.born.serial m → IsBelow (suc b.born.serial) (m ++ b ∷ [])
below_more m b low serial h = of (live_or_last m b serial h)
  where
    of : (is_live m serial ≡ true) ⊎ (b.born.serial ≡ serial) → serial < suc b.born.serial
    of (inl g) = let below = low serial g in omega arith
    of (inr e) = omega arith

one_birth : (lives : List Life) (n : ℕ) → births_in (lives ++ life.Birth n ∷ []) ≡ births_in lives + 1
one_birth lives n = sum_by-append (λ (l : Life). cond (is_birth l) 1 0) lives (life.Birth n ∷ [])

-- ---- births

next_is : (a b : ℕ) → b ≡ a + 1 → b ≡ suc a
next_is a b e = omega (arith, e)

next_born : (program : Program) (kind : BirthKind) (s : Shape64) (w : World) → next_serial (born program (new_of kind s w) w) ≡ suc (next_serial w)
unfolding born
next_born program kind s w = next_is (next_serial w) _ (one_birth w.lives _)

below_born : (program : Program) (kind : BirthKind) (s : Shape64) (w : World) → IsBelow (next_serial w) w.memory → IsBelow (next_serial (born program (new_of kind s w) w)) (born program (new_of kind s w) w).memory
unfolding born
below_born program kind s w low =
    subst (λ (k : ℕ). IsBelow k (w.memory ++ zero_block program (new_of kind s w) ∷ [])) (sym (next_born program kind s w)) (below_more w.memory (zero_block program (new_of kind s w)) low)

births_stay : (program : Program) (kind : BirthKind) (shapes : List Shape64) (w : World) (serial : ℕ) (n : New) → born_at w.memory serial ≡ Some n → born_at (births program kind shapes w).memory.memory serial ≡ Some n
unfolding births born
births_stay program kind [] w serial n e = e
births_stay program kind (s ∷ shapes) w serial n e =
    births_stay program kind shapes (born program (new_of kind s w) w) serial n (born_stays w.memory (zero_block program (new_of kind s w) ∷ []) serial n e)

-- a pointer to a block of the shape as a whole, with this serial
record IsNewIn (m : Memory) (next : ℕ) (s : Shape64) (v : Wire) : Type 0 where
  block : New
  is : v ≡ pointer_to block
  live : born_at m block.serial ≡ Some block
  place : block.serial ≡ next
  ty : block.ty ≡ s.ty
  count : block.count ≡ s.count

abbrev AreNewIn : Memory → (next : ℕ) → List Shape64 → List Wire → Type 0
AreNewIn m next [] [] = Unit {0}
AreNewIn m next [] (v ∷ vs) = ⊥
AreNewIn m next (s ∷ shapes) [] = ⊥
AreNewIn m next (s ∷ shapes) (v ∷ vs) = IsNewIn m next s v × AreNewIn m (suc next) shapes vs

here : (program : Program) (kind : BirthKind) (s : Shape64) (w : World) → IsBelow (next_serial w) w.memory → born_at (born program (new_of kind s w) w).memory (next_serial w) ≡ Some (new_of kind s w)
unfolding born
here program kind s w low = born_last w.memory (zero_block program (new_of kind s w)) (λ h. let below = low (next_serial w) h in omega arith)

births_new : (program : Program) (kind : BirthKind) (shapes : List Shape64) (w : World) → IsBelow (next_serial w) w.memory
    → AreNewIn (births program kind shapes w).memory.memory (next_serial w) shapes (births program kind shapes w).pointers
unfolding births
births_new program kind [] w low = tt
births_new program kind (s ∷ shapes) w low = (
  record { block = new_of kind s w; is = refl; live = births_stay program kind shapes (born program (new_of kind s w) w) (next_serial w) (new_of kind s w) (here program kind s w low); place = refl; ty = refl; count = refl },
  subst (λ (k : ℕ). AreNewIn (births program kind shapes (born program (new_of kind s w) w)).memory.memory k shapes (births program kind shapes (born program (new_of kind s w) w)).pointers)
      (next_born program kind s w) (births_new program kind shapes (born program (new_of kind s w) w) (below_born program kind s w low)),
)

new_whole : (m : Memory) (next : ℕ) (shapes : List Shape64) (vs : List Wire) → AreNewIn m next shapes vs → AreWhole m next vs
new_whole m next [] [] new = tt
new_whole m next [] (v ∷ vs) new = elim new [ ]
new_whole m next (s ∷ shapes) [] new = elim new [ ]
new_whole m next (s ∷ shapes) (v ∷ vs) new =
    let h : IsNewIn m next s v = new.0 in
    (record { block = h.block; is = h.is; live = h.live; later = later h.place }, subst (λ (k : ℕ). AreWhole m (suc k) vs) (sym h.place) (new_whole m (suc next) shapes vs new.1))
  where
    later : {n : ℕ} → n ≡ next → next ≤ n
    later e = omega arith

-- ---- what is told of them

named_first : (v : Wire) (vs : List Wire) (block : New) → v ≡ pointer_to block → is_named (v ∷ vs) block.serial ≡ true
named_first v vs block is =
    ap (λ (x : Wire). names_block block.serial x || is_named vs block.serial) is ∙ ap (λ (b : Bool). b || is_named vs block.serial) (eq-eqb block.serial block.serial refl)

named_rest : (v : Wire) (vs : List Wire) (serial : ℕ) → is_named vs serial ≡ true → is_named (v ∷ vs) serial ≡ true
named_rest v vs serial h = ap (λ (b : Bool). names_block serial v || b) h ∙ or_true (names_block serial v)
  where
    or_true : (b : Bool) → (b || true) ≡ true
    or_true true = refl
    or_true false = refl

module _ (m : Memory) (first : ℕ) (all : List Wire) (news : List New) (tells : (block : New) → first ≤ block.serial → born_at m block.serial ≡ Some block → is_named all block.serial ≡ true → news_at news block.serial ≡ Some block) where
  new_right : (next : ℕ) (s : Shape64) (v : Wire) → first ≤ next → (h : IsNewIn m next s v) → is_named all h.block.serial ≡ true → is_new news s v ≡ true
  unfolding is_new
  new_right next s v above h named =
      let place : h.block.serial ≡ next = h.place in
      let told : news_at news h.block.serial ≡ Some h.block = tells h.block (omega arith) h.live named in
      let ty : (h.block.ty == s.ty) ≡ true = eq-eqb _ _ h.ty in
      let count : (h.block.count == s.count) ≡ true = eq-eqb _ _ h.count in
      ap (is_new news s) h.is
      ∙ and_both _ _ (eq-eqb 0 0 refl) (and_both _ _ (eq-eqb 0 0 refl) (and_both _ _ ty (and_both _ _ count (ap (is_born_so s) told ∙ and_both _ _ ty count))))

  news_right : (next : ℕ) (shapes : List Shape64) (vs : List Wire) → first ≤ next → ((serial : ℕ) → is_named vs serial ≡ true → is_named all serial ≡ true) → AreNewIn m next shapes vs → are_new news shapes vs ≡ true
  news_right next [] [] above among new = refl
  news_right next [] (v ∷ vs) above among new = elim new [ ]
  news_right next (s ∷ shapes) [] above among new = elim new [ ]
  news_right next (s ∷ shapes) (v ∷ vs) above among new =
      and_both _ _ (new_right next s v above new.0 (among new.0.block.serial (named_first v vs new.0.block new.0.is)))
      (news_right (suc next) shapes vs (omega arith) (λ serial h. among serial (named_rest v vs serial h)) new.1)

  block_right : (next : ℕ) (s : Shape64) (vs : List Wire) → first ≤ next → ((serial : ℕ) → is_named vs serial ≡ true → is_named all serial ≡ true) → AreNewIn m next (s ∷ []) vs → are_given Block news (s ∷ []) vs ≡ true
  block_right next s [] above among new = elim new [ ]
  block_right next s (v ∷ []) above among new =
      ap (is_block news (s ∷ [])) new.0.is ∙ ap (is_new news s) (sym new.0.is) ∙ new_right next s v above new.0 (among new.0.block.serial (named_first v [] new.0.block new.0.is))
  block_right next s (v ∷ u ∷ vs) above among new = elim new.1 [ ]

-- ---- what each service gives

module _ (program : Program) (a : Asked) (w : World) where
  -- results that keep to P are given so, where what was born is told
  abbrev IsGivenBy : Gives → (List Wire → Type 0) → Served → Type 0
  IsGivenBy gives P (Ended rs w') = (news : List New) → TellsBirths w w' rs news → P rs → are_given gives news a.shapes rs ≡ true
  IsGivenBy gives P (Stopped kind at w') = Unit {0}

  allocated_given : (P : List Wire → Type 0) (s : Shape64) → IsBelow (next_serial w) w.memory → a.shapes ≡ s ∷ [] → IsGivenBy Block P (allocated program (s ∷ []) (asked_once_more w))
  allocated_given P s low is = of (fails_now (asked_once_more w) || is_no_block program s) where
    of : (b : Bool) → IsGivenBy Block P (chosen b (gives wire.Null (asked_once_more w)) (as_served (births program Heap (s ∷ []) (asked_once_more w))))
    of true = λ news tells so. ap (λ (shapes : List Shape64). are_given Block news shapes (wire.Null ∷ [])) is
    of false = λ news tells so.
        let made = births program Heap (s ∷ []) (asked_once_more w) in
        ap (λ (shapes : List Shape64). are_given Block news shapes made.pointers) is
        ∙ block_right made.memory.memory (next_serial w) made.pointers news tells.tells (next_serial w) s made.pointers (omega arith) (λ serial h. h) (births_new program Heap (s ∷ []) (asked_once_more w) low)

  freed_given : (P : List Wire → Type 0) (v : Wire) → IsGivenBy Nothing P (freed program a.at v w)
  freed_given P wire.Null = λ news tells so. refl
  freed_given P (wire.Ptr v) = of (is_whole program v (born_at w.memory v.serial)) (is_locked v.serial w.memory) where
    of : (whole locked : Bool) → IsGivenBy Nothing P (freed_by whole locked v.serial a.at w)
    of false locked = tt
    of true true = tt
    of true false = λ news tells so. refl
  freed_given P (wire.Int k n) = tt
  freed_given P wire.Dead = tt
  freed_given P (wire.Fn f) = tt
  freed_given P (wire.Lock s) = tt
  freed_given P wire.NoValue = tt

  read_given : (register : ℕ) → IsGivenBy (Number U32) (λ rs. IsInteger U32 (first_of rs)) (register_read a.at register w)
  read_given register = of (nat_lt register 4096) where
    of : (b : Bool) → IsGivenBy (Number U32) (λ rs. IsInteger U32 (first_of rs)) (chosen b (was_read register (read_register register w.clock.device) w) (stops stop.Bounds a.at w))
    of true = λ news tells so. so.1
    of false = tt

  written_given : (P : List Wire → Type 0) (register value : ℕ) → IsGivenBy Nothing P (register_written a.at register value w)
  written_given P register value = of (nat_lt register 4096) where
    of : (b : Bool) → IsGivenBy Nothing P (chosen b (gives_none (noted (happened.Wrote register value) (with_device (written register value w.clock.device) w))) (stops stop.Bounds a.at w))
    of true = λ news tells so. refl
    of false = tt

  requested_given : (handler : Option ℕ) (v : Wire) → IsGivenBy (Number S32) (λ rs. IsInteger S32 (first_of rs)) (requested handler v w)
  requested_given None v = λ news tells so. so.1
  requested_given (Some f) v = λ news tells so. so.1

  changed_given : (P : List Wire → Type 0) (m : Result Memory StopKind) → IsGivenBy Nothing P (when_changed m a.at w)
  changed_given P (Ok m) = λ news tells so. refl
  changed_given P (Err kind) = tt

  births_given : (P : List Wire → Type 0) → IsBelow (next_serial w) w.memory → IsGivenBy Pointers P (as_served (births program Auto a.shapes w))
  births_given P low = λ news tells so.
      let made = births program Auto a.shapes w in
      let new = births_new program Auto a.shapes w low in
      and_both _ _ (news_right made.memory.memory (next_serial w) made.pointers news tells.tells (next_serial w) a.shapes made.pointers (omega arith) (λ serial h. h) new)
      (whole_differ made.memory.memory (next_serial w) made.pointers (new_whole made.memory.memory (next_serial w) a.shapes made.pointers new))

  -- by the service, from what it is asked with
  service_given : (K K' : Knowledge) (s : Service) → IsBelow (next_serial w) w.memory → IsAsk program K a s → IsGivenBy (terms_of s).gives (IsServed program K' a s) (served_by program (as_now w a) (Some s) w)
  service_given K K' Kzalloc low h = subst (λ (shapes : List Shape64). IsGivenBy Block (IsServed program K' a Kzalloc) (allocated program shapes (asked_once_more w))) (sym h.is) (allocated_given (IsServed program K' a Kzalloc) h.shape low h.is)
  service_given K K' Kcalloc low h = subst (λ (shapes : List Shape64). IsGivenBy Block (IsServed program K' a Kcalloc) (allocated program shapes (asked_once_more w))) (sym h.is) (allocated_given (IsServed program K' a Kcalloc) h.shape low h.is)
  service_given K K' Kfree low h = freed_given (IsServed program K' a Kfree) (first_of (as_now w a).args)
  service_given K K' Readl low h = read_given (natural (first_of (as_now w a).args))
  service_given K K' Writel low h = written_given (IsServed program K' a Writel) (natural (first_of (rest_of (as_now w a).args))) (saturated_u32 (natural (first_of (as_now w a).args)))
  service_given K K' Printk low h = λ news tells so. refl
  service_given K K' RequestIrq low h = requested_given w.kept.handler (first_of (as_now w a).args)
  service_given K K' FreeIrq low h = λ news tells so. refl
  service_given K K' Deliver low h = λ news tells so. refl
  service_given K K' Combolock low h = changed_given (IsServed program K' a Combolock) (acquire (first_of (as_now w a).args) w)
  service_given K K' Combounlock low h = changed_given (IsServed program K' a Combounlock) (release (first_of (as_now w a).args) w)
  service_given K K' Bug low h = tt
  service_given K K' Enter low h = births_given (IsServed program K' a Enter) low
  service_given K K' Leave low h = λ news tells so. refl

-- the results are those of the service
pub answer_fits : (program : Program) (K K' : Knowledge) (a : Asked) (s : Service) (w w' : World) (rs : List Wire) (news : List New) → IsBelow (next_serial w) w.memory
    → service_numbered a.service ≡ Some s → IsAsk program K a s → served program a w ≡ Ended rs w' → IsServed program K' a s rs → TellsBirths w w' rs news → results_fit a news rs ≡ true
unfolding results_fit served
answer_fits program K K' a s w w' rs news low numbered h is so tells =
    let by : served_by program (as_now w a) (Some s) w ≡ Ended rs w' = ap (λ (o : Option Service). served_by program (as_now w a) o w) (sym numbered) ∙ is in
    let given : IsGivenBy program a w (terms_of s).gives (IsServed program K' a s) (Ended rs w') = subst (λ (x : Served). IsGivenBy program a w (terms_of s).gives (IsServed program K' a s) x) by (service_given program a w K K' s low h) in
    ap (λ (o : Option Service). are_given_by o news a.shapes rs) numbered ∙ given news tells so

-- ---- the answer's news tell what was born

no_copy : (b : Bool) → (b ≡ true → ⊥) → b ≡ false
no_copy true h = absurd (h refl)
no_copy false h = refl

pub births_told : (w w' : World) (rs : List Wire) (copy : Memory) → IsBelow (next_serial w) copy → TellsBirths w w' rs (told_news [] rs copy w'.memory)
births_told w w' rs copy low = record { tells = λ block above live named. told block above live named }
  where
    told : (block : New) → next_serial w ≤ block.serial → born_at w'.memory block.serial ≡ Some block → is_named rs block.serial ≡ true → news_at (told_news [] rs copy w'.memory) block.serial ≡ Some block
    told block above live named =
        let unknown : is_live copy block.serial ≡ false = no_copy (is_live copy block.serial) (λ h. let below = low block.serial h in omega arith) in
        let new : is_live (left_of copy w'.memory) block.serial ≡ false = live-left copy w'.memory block.serial ∙ ap (λ (b : Bool). b && is_live w'.memory block.serial) unknown in
        let test : (not (is_live (left_of copy w'.memory) block.serial) && is_named_now [] rs copy w'.memory block.serial) ≡ true =
        and_both _ _ (ap (λ (b : Bool). not b) new) (ap (λ (b : Bool). b || is_named_in (changed_cells [] (left_of copy w'.memory) w'.memory) w'.memory block.serial) named)
        in
        news_at-told [] rs copy w'.memory block.serial ∙ ap (λ (b : Bool). cond b (born_at w'.memory block.serial) None) test ∙ live
