-- What a message does to the copy, as the code takes it and as it is defined.
use Rattle.std.proofs.Common.{◌≡◌, ◌∙◌, ◌<◌, ◌≤◌, ◌-◌, ℕ, suc, Bool, true, false, List, [], ◌∷◌, ◌++◌, map, length, Option, Some, None, refl, sym, ap, subst, arith}
use Rattle.std.specs.Prelude.{is_some, nat_lt, slice_get}
use Rattle.std.specs.List.{list_all}
use Rattle.std.proofs.lemmas.Bool.{eqb-true, eq-eqb, and_parts}
use Rattle.std.proofs.lemmas.List.{length-map}
use Rattle.mdr_core.specs.declared.program.Program.{Program}
use Rattle.mdr_core.specs.declared.value.Block.{Block}
use Rattle.mdr_core.specs.declared.value.Value.{Value}
use Rattle.mdr_core.specs.declared.value.Value.TheVariants as value
use Rattle.mdr_meaning.specs.declared.wire.Wire.{Wire}
use Rattle.mdr_meaning.specs.declared.wire.Wire.TheVariants as wire
use Rattle.mdr_meaning.specs.Values.{wire_of}
use Rattle.mdr_model.specs.declared.memory.Cell.{Cell}
use Rattle.mdr_model.specs.declared.memory.MemoryBlock.{MemoryBlock}
use Rattle.mdr_model.specs.declared.message.New.{New}
use Rattle.mdr_model.specs.declared.message.Run.{Run}
use Rattle.mdr_model.specs.Agreement.{NewsRise, SerialsRise, is_told, names_it}
use Rattle.mdr_model.specs.Copies.{CellValue, inserted, numbered, put_all, put_runs, values_of_runs, with_news, without}
use Rattle.mdr_model.specs.Memory.{Memory, born_at, cell_at, is_live, killed, leaves_of, normal, normal_if, put, zero_block, zero_of}
use Rattle.mdr_model.specs.User.{lives_fit, may_come, news_fit, renewed_copy, rise_after}
use Rattle.mdr_model.specs.Values.{names_block, value_of}
use Rattle.mdr_model.proofs.LifeLaws.{born_at-inserted, born_at-killed, cell_at-inserted, rises-inserted, rises-news, rises-without, zero_block-get, zero_names}
use Rattle.mdr_model.proofs.MemoryLaws.{born_at-put, same_memory}
use Rattle.mdr_mem.specs.Contents.{current, wire_in}
use Rattle.mdr_track.specs.Pairs.{Pairs, paired, unpaired, unpaired_at}
use Rattle.mdr_user_memory.specs.declared.newborn.Newborn.{Newborn}
use Rattle.mdr_user_memory.specs.Paired.{told}
use Rattle.mdr_user_memory.specs.Taking.{AreFresh, AreKept, ArePlain, AreSized, Fit, IsRoom, block_of, borne, kept_all, kept_runs, newborn_of, plain_block, taken, total, unpaired_all}
use Rattle.mdr_user_memory.proofs.ValueLaws.{told_plain}

-- ---- values that are no pointers

wire_plain : (hs : List Block) (v : Value) → ((s : ℕ) → names_block s (wire_of v) ≡ false) → wire_in hs v ≡ wire_of v
unfolding current
wire_plain hs (value.Ptr p) h = absurd (grind (arith, h p.block.serial, eq-eqb p.block.serial p.block.serial refl))
wire_plain hs (value.Int k n) h = refl
wire_plain hs value.Null h = refl
wire_plain hs value.Dead h = refl
wire_plain hs (value.Fn f) h = refl
wire_plain hs (value.Lock s) h = refl
wire_plain hs value.NoValue h = refl

cells_plain : (hs : List Block) (ps : Pairs) (vs : List Value) → ArePlain vs → map (told hs ps) (map (wire_in hs) vs) ≡ map wire_of vs
unfolding ArePlain
cells_plain hs ps [] h = refl
cells_plain hs ps (v ∷ vs) h =
    let here : told hs ps (wire_in hs v) ≡ wire_of v = ap (told hs ps) (wire_plain hs v h.0) ∙ told_plain hs ps (wire_of v) h.0 in
    λ i. here i ∷ cells_plain hs ps vs h.1 i

pub block_plain : (x : Newborn) (hs : List Block) (ps : Pairs) → ArePlain x.first → block_of x hs ps ≡ plain_block x
block_plain x hs ps h = λ i. record { born = x.born; cells = cells_plain hs ps x.first h i }

pub wire_value : (w : Wire) → wire_of (value_of w) ≡ w
wire_value (wire.Ptr p) = refl
wire_value (wire.Int k n) = refl
wire_value wire.Null = refl
wire_value wire.Dead = refl
wire_value (wire.Fn f) = refl
wire_value (wire.Lock s) = refl
wire_value wire.NoValue = refl

pub wires_values : (ws : List Wire) → map wire_of (map value_of ws) ≡ ws
wires_values [] = refl
wires_values (w ∷ ws) = λ i. wire_value w i ∷ wires_values ws i

-- ---- zeros

pub zero_newborn : (program : Program) (n : New) → plain_block (newborn_of program n) ≡ zero_block program n
zero_newborn program n = λ i. record { born = n; cells = wires_values (zero_block program n).cells i }

plain_list : (ws : List Wire) → ((i s : ℕ) → names_it s (slice_get ws i) ≡ false) → ArePlain (map value_of ws)
unfolding ArePlain names_it
plain_list [] h = tt
plain_list (w ∷ ws) h = (λ s. ap (names_block s) (wire_value w) ∙ h 0 s, plain_list ws (λ i s. h (suc i) s))

pub newborn_plain : (program : Program) (n : New) → ArePlain (newborn_of program n).first
newborn_plain program n = plain_list (zero_block program n).cells (λ i s. ap (names_it s) (zero_block-get program n i) ∙ zero_names program n i s)

-- ---- deaths

abbrev pub AreLive : Memory → Pairs → Type 0
AreLive m ps = (s : ℕ) → is_live m s ≡ is_some (ps.user_of s)

live_one : (d : ℕ) (m : Memory) (ps : Pairs) → AreLive m ps → AreLive (killed d m) (unpaired d ps)
unfolding is_live
live_one d m ps l s = of (ps.user_of d) refl
  where
    of : (o : Option Block) → ps.user_of d ≡ o → is_some (born_at (killed d m) s) ≡ is_some ((unpaired_at o d ps).user_of s)
    of None e = grind (arith, born_at-killed d m s, l s, l d, eqb-true d s)
    of (Some b) e = grind (arith, born_at-killed d m s, l s)

pub live_all : (ds : List ℕ) (m : Memory) (ps : Pairs) → AreLive m ps → AreLive (without ds m) (unpaired_all ds ps)
unfolding without unpaired_all
live_all [] m ps l = l
live_all (d ∷ ds) m ps l = live_all ds (killed d m) (unpaired d ps) (live_one d m ps l)

-- ---- births

rise_news : (b : ℕ) (ns : List New) → rise_after (Some b) (map (λ (n : New). n.serial) ns) ≡ true → ((s : ℕ) → is_told ns s ≡ true → b < s) × NewsRise ns
unfolding is_told
rise_news b [] h = (λ s k. absurd (grind (arith, k)), tt)
rise_news b (n ∷ ns) h =
    let both = and_parts (nat_lt b n.serial) _ h in
    let rest = rise_news n.serial ns both.1 in
    (λ s k. grind (arith, both.0, k, rest.0 s, eqb-true n.serial s), (rest.0, rest.1))

rise_first : (ns : List New) → rise_after None (map (λ (n : New). n.serial) ns) ≡ true → NewsRise ns
rise_first [] h = tt
rise_first (n ∷ ns) h = rise_news n.serial ns h

all_new : (program : Program) (m : Memory) (ns : List New) → list_all (may_come program m) ns ≡ true → (s : ℕ) → is_told ns s ≡ true → is_live m s ≡ false
unfolding is_told
all_new program m [] h s k = absurd (grind (arith, k))
all_new program m (n ∷ ns) h s k = grind (arith, h, k, all_new program m ns (grind (arith, h)) s, eqb-true n.serial s)

pub not_paired : (m : Memory) (ps : Pairs) (s : ℕ) → AreLive m ps → is_live m s ≡ false → ps.user_of s ≡ None
not_paired m ps s l h = of (ps.user_of s) refl
  where
    of : (o : Option Block) → ps.user_of s ≡ o → o ≡ None
    of None e = refl
    of (Some b) e = absurd (grind (arith, l s, h))

first_told : (n : New) (ns : List New) → is_told (n ∷ ns) n.serial ≡ true
unfolding is_told
first_told n ns = grind (arith, eq-eqb n.serial n.serial refl)

later_told : (n : New) (ns : List New) (s : ℕ) → is_told ns s ≡ true → is_told (n ∷ ns) s ≡ true
unfolding is_told
later_told n ns s h = grind (arith, h)

live_born : (program : Program) (n : New) (m : Memory) (ps : Pairs) (b : Block) → AreLive m ps → AreLive (inserted (zero_block program n) m) (paired n.serial b ps)
unfolding is_live
live_born program n m ps b l s = grind (arith, born_at-inserted (zero_block program n) m s, l s)

still_new : (program : Program) (n : New) (ns : List New) (m : Memory) → NewsRise (n ∷ ns) → ((s : ℕ) → is_told (n ∷ ns) s ≡ true → is_live m s ≡ false) → (s : ℕ) → is_told ns s ≡ true → is_live (inserted (zero_block program n) m) s ≡ false
unfolding is_live
still_new program n ns m r new s h = grind (arith, born_at-inserted (zero_block program n) m s, new s (later_told n ns s h), r.0 s h, eqb-true n.serial s)

pub fresh_news : (program : Program) (ns : List New) (m : Memory) (ps : Pairs) → NewsRise ns → ((s : ℕ) → is_told ns s ≡ true → is_live m s ≡ false) → AreLive m ps → AreFresh (map (newborn_of program) ns) ps
unfolding AreFresh
fresh_news program [] m ps r new l = tt
fresh_news program (n ∷ ns) m ps r new l = (
  not_paired m ps n.serial l (new n.serial (first_told n ns)),
  λ b. fresh_news program ns (inserted (zero_block program n) m) (paired n.serial b ps) r.1 (still_new program n ns m r new) (live_born program n m ps b l),
)

newborn_length : (program : Program) (n : New) → length (newborn_of program n).first ≡ length (leaves_of program n)
newborn_length program n = length-map (zero_block program n).cells value_of ∙ length-map (leaves_of program n) zero_of

pub sized_news : (program : Program) (m : Memory) (ns : List New) → list_all (may_come program m) ns ≡ true → AreSized (map (newborn_of program) ns)
unfolding AreSized
sized_news program m [] h = tt
sized_news program m (n ∷ ns) h =
    let size = newborn_length program n in (
      some size (and_parts _ _ h).0,
      (few size (and_parts _ _ h).0, (newborn_plain program n, sized_news program m ns (and_parts _ _ h).1)),
    )
  where
    some : length (newborn_of program n).first ≡ length (leaves_of program n) → may_come program m n ≡ true → 0 < length (newborn_of program n).first
    some e k = grind (arith, e, k)

    few : length (newborn_of program n).first ≡ length (leaves_of program n) → may_come program m n ≡ true → length (newborn_of program n).first ≤ 65536
    few e k = grind (arith, e, k)

-- the code's births go from the first on, and the definition's from the last
rises-borne : (program : Program) (ns : List New) (m : Memory) → NewsRise ns → ((s : ℕ) → is_told ns s ≡ true → is_live m s ≡ false) → SerialsRise m → SerialsRise (borne (map (newborn_of program) ns) m)
unfolding borne
rises-borne program [] m r new q = q
rises-borne program (n ∷ ns) m r new q =
    subst (λ (b : MemoryBlock). SerialsRise (borne (map (newborn_of program) ns) (inserted b m))) (sym (zero_newborn program n))
    (rises-borne program ns (inserted (zero_block program n) m) r.1 (still_new program n ns m r new) (rises-inserted (zero_block program n) m (new n.serial (first_told n ns)) q))

not_again : (n : New) (ns : List New) → NewsRise (n ∷ ns) → is_told ns n.serial ≡ false
not_again n ns r = of (is_told ns n.serial) refl
  where
    of : (t : Bool) → is_told ns n.serial ≡ t → t ≡ false
    of true h = absurd (omega (arith, r.0 n.serial h))
    of false h = refl

born_at-either : (program : Program) (b : MemoryBlock) (ns : List New) (m : Memory) (s : ℕ) → is_told ns b.born.serial ≡ false → born_at (with_news program ns (inserted b m)) s ≡ born_at (inserted b (with_news program ns m)) s
unfolding with_news is_told
born_at-either program b [] m s new = refl
born_at-either program b (n ∷ ns) m s new =
    grind (arith, born_at-either program b ns m s, born_at-inserted b (with_news program (n ∷ ns) m) s, born_at-inserted b (with_news program ns m) s, born_at-inserted (zero_block program n) (with_news program ns m) s, born_at-inserted (zero_block program n) (with_news program ns (inserted b m)) s, eqb-true n.serial s, eqb-true b.born.serial s, eq-eqb n.serial b.born.serial)

cell_at-either : (program : Program) (b : MemoryBlock) (ns : List New) (m : Memory) (c : Cell) → is_told ns b.born.serial ≡ false → cell_at (with_news program ns (inserted b m)) c ≡ cell_at (inserted b (with_news program ns m)) c
unfolding with_news is_told
cell_at-either program b [] m c new = refl
cell_at-either program b (n ∷ ns) m c new =
    grind (arith, cell_at-either program b ns m c, cell_at-inserted b (with_news program (n ∷ ns) m) c, cell_at-inserted b (with_news program ns m) c, cell_at-inserted (zero_block program n) (with_news program ns m) c, cell_at-inserted (zero_block program n) (with_news program ns (inserted b m)) c, eqb-true n.serial c.serial, eqb-true b.born.serial c.serial, eq-eqb n.serial b.born.serial)

either : (program : Program) (n : New) (ns : List New) (m : Memory) → NewsRise (n ∷ ns) → ((s : ℕ) → is_told (n ∷ ns) s ≡ true → is_live m s ≡ false) → SerialsRise m
    → with_news program ns (inserted (zero_block program n) m) ≡ with_news program (n ∷ ns) m
unfolding with_news
either program n ns m r new q =
    same_memory (with_news program ns (inserted (zero_block program n) m)) (inserted (zero_block program n) (with_news program ns m))
    (rises-news program ns (inserted (zero_block program n) m) r.1 (still_new program n ns m r new) (rises-inserted (zero_block program n) m (new n.serial (first_told n ns)) q))
    (rises-news program (n ∷ ns) m r new q)
    (λ s. born_at-either program (zero_block program n) ns m s (not_again n ns r)) (λ c. cell_at-either program (zero_block program n) ns m c (not_again n ns r))

nothing : (program : Program) (m : Memory) → with_news program [] m ≡ m
unfolding with_news
nothing program m = refl

pub borne_is : (program : Program) (ns : List New) (m : Memory) → NewsRise ns → ((s : ℕ) → is_told ns s ≡ true → is_live m s ≡ false) → SerialsRise m → borne (map (newborn_of program) ns) m ≡ with_news program ns m
unfolding borne
borne_is program [] m r new q = sym (nothing program m)
borne_is program (n ∷ ns) m r new q =
    ap (λ (b : MemoryBlock). borne (map (newborn_of program) ns) (inserted b m)) (zero_newborn program n)
    ∙ (borne_is program ns (inserted (zero_block program n) m) r.1 (still_new program n ns m r new) (rises-inserted (zero_block program n) m (new n.serial (first_told n ns)) q)
    ∙ either program n ns m r new q)

-- ---- values

normal-put : (m : Memory) (c : Cell) (v w : Wire) → normal (put m c v) w ≡ normal m w
unfolding normal is_live
normal-put m c v (wire.Ptr p) = ap (λ o. normal_if (is_some o) p) (born_at-put m c v p.serial)
normal-put m c v (wire.Int k n) = refl
normal-put m c v wire.Null = refl
normal-put m c v wire.Dead = refl
normal-put m c v (wire.Fn f) = refl
normal-put m c v (wire.Lock s) = refl
normal-put m c v wire.NoValue = refl

kept-put : (m : Memory) (c : Cell) (v : Wire) (xs : List CellValue) → AreKept xs m → AreKept xs (put m c v)
unfolding AreKept
kept-put m c v [] h = tt
kept-put m c v (x ∷ xs) h = (normal-put m c v x.value ∙ h.0, kept-put m c v xs h.1)

kept_is : (xs : List CellValue) (m : Memory) → AreKept xs m → kept_all xs m ≡ put_all xs m
unfolding kept_all put_all AreKept
kept_is [] m h = refl
kept_is (x ∷ xs) m h = ap (λ v. kept_all xs (put m x.cell v)) h.0 ∙ kept_is xs (put m x.cell x.value) (kept-put m x.cell x.value xs h.1)

kept_all-append : (xs ys : List CellValue) (m : Memory) → kept_all (xs ++ ys) m ≡ kept_all ys (kept_all xs m)
unfolding kept_all
kept_all-append [] ys m = refl
kept_all-append (x ∷ xs) ys m = kept_all-append xs ys (put m x.cell (normal m x.value))

no_values : (m : Memory) → kept_all [] m ≡ m
unfolding kept_all
no_values m = refl

runs_are : (runs : List Run) (m : Memory) → kept_runs runs m ≡ kept_all (values_of_runs runs) m
unfolding kept_runs values_of_runs
runs_are [] m = sym (no_values m)
runs_are (r ∷ runs) m = runs_are runs (kept_all (numbered r.serial r.first r.values) m) ∙ sym (kept_all-append (numbered r.serial r.first r.values) (values_of_runs runs) m)

pub kept_runs_are : (runs : List Run) (m : Memory) → AreKept (values_of_runs runs) m → kept_runs runs m ≡ put_runs runs m
unfolding put_runs
kept_runs_are runs m h = runs_are runs m ∙ kept_is (values_of_runs runs) m h

-- ---- a message

module _ (program : Program) (deaths : List ℕ) (news : List New) (copy : Memory) (fits : lives_fit program copy deaths news ≡ true) where
  fitting : news_fit program (without deaths copy) news ≡ true
  unfolding lives_fit
  fitting = (and_parts _ _ fits).1

  news_rise : NewsRise news
  news_rise = rise_first news (and_parts _ _ fitting).0

  may_all : list_all (may_come program (without deaths copy)) news ≡ true
  may_all = (and_parts _ _ fitting).1

  news_new : (s : ℕ) → is_told news s ≡ true → is_live (without deaths copy) s ≡ false
  news_new = all_new program (without deaths copy) news may_all

  pub message_fresh : (ps : Pairs) → AreLive copy ps → AreFresh (map (newborn_of program) news) (unpaired_all deaths ps)
  message_fresh ps l = fresh_news program news (without deaths copy) (unpaired_all deaths ps) news_rise news_new (live_all deaths copy ps l)

  pub message_sized : AreSized (map (newborn_of program) news)
  message_sized = sized_news program (without deaths copy) news may_all

  pub message_rises : (runs : List Run) → SerialsRise copy → SerialsRise (renewed_copy program deaths news copy)
  message_rises runs q = rises-news program news (without deaths copy) news_rise news_new (rises-without deaths copy q)

  pub message_taken : (runs : List Run) → SerialsRise copy → AreKept (values_of_runs runs) (renewed_copy program deaths news copy) → taken deaths (map (newborn_of program) news) runs copy ≡ put_runs runs (renewed_copy program deaths news copy)
  message_taken runs q kept =
      ap (kept_runs runs) (borne_is program news (without deaths copy) news_rise news_new (rises-without deaths copy q))
      ∙ kept_runs_are runs (renewed_copy program deaths news copy) kept

-- ---- what the code's loops ask

pub room_fit : (xs : List Newborn) (ps : Pairs) (cells births room : ℕ) → AreFresh xs ps → AreSized xs → IsRoom xs cells births room → Fit xs ps cells births room
unfolding Fit AreFresh AreSized total
room_fit [] ps cells births room f s r = tt
room_fit (x ∷ xs) ps cells births room f s r = (
  record {
    some = s.0;
    few = s.1.0;
    has_cells = omega (arith, r.has_cells);
    has_births = omega (arith, r.has_births);
    has_pairs = omega (arith, r.has_pairs);
    new = f.0;
  },
  (
    s.1.1.0,
    λ b. room_fit xs (paired x.born.serial b ps) (cells - length x.first) (births - 1) (room - 1) (f.1 b) s.1.1.1
        (record { has_cells = omega (arith, r.has_cells); has_births = omega (arith, r.has_births); has_pairs = omega (arith, r.has_pairs) }),
  ),
)

pub fit_moved : (xs : List Newborn) (ps ps' : Pairs) (c c' b b' p p' : ℕ) → ps' ≡ ps → c' ≡ c → b' ≡ b → p' ≡ p → Fit xs ps c b p → Fit xs ps' c' b' p'
fit_moved xs ps ps' c c' b b' p p' es ec eb ep f =
    subst (λ x. Fit xs x c' b' p') (sym es) (subst (λ x. Fit xs ps x b' p') (sym ec) (subst (λ x. Fit xs ps c x p') (sym eb) (subst (λ x. Fit xs ps c b x) (sym ep) f)))
