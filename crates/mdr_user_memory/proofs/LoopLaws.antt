-- Deaths, births and stores, one after the other.
use Rattle.std.proofs.Common.{◌≡◌, ◌∙◌, ◌<◌, ◌≤◌, ◌+◌, ◌-◌, ℕ, suc, false, List, [], ◌∷◌, ◌++◌, map, length, take, drop, get_or, Option, Some, None, Result, Err, ℤ, refl, sym, ap, subst, arith}
use Rattle.std.specs.Prelude.{IsOk, is_ok}
use Rattle.std.proofs.lemmas.Bool.{true≢false}
use Rattle.std.proofs.lemmas.List.{append-nil, at_drop_all, at_drop_more, drop_more, take_more}
use Rattle.mdr_core.specs.declared.kind.Kind.{Kind}
use Rattle.mdr_core.specs.declared.program.Program.{Program}
use Rattle.mdr_core.specs.declared.value.Block.{Block}
use Rattle.mdr_core.specs.declared.value.Value.{Value}
use Rattle.mdr_meaning.specs.declared.wire.Wire.{Wire}
use Rattle.mdr_meaning.specs.declared.wire.Wire.TheVariants as wire
use Rattle.mdr_meaning.specs.Values.{wire_of}
use Rattle.mdr_model.specs.declared.memory.MemoryBlock.{MemoryBlock}
use Rattle.mdr_model.specs.declared.message.New.{New}
use Rattle.mdr_model.specs.declared.message.Run.{Run}
use Rattle.mdr_model.specs.declared.message.SetRun.{SetRun}
use Rattle.mdr_model.specs.Copies.{inserted, numbered, with_news, without}
use Rattle.mdr_model.specs.Memory.{Memory, killed, normal, put, zero_block}
use Rattle.mdr_model.specs.Sets.{cells_of_run, cells_of_runs}
use Rattle.mdr_model.specs.Values.{value_of}
use Rattle.mdr_mem.specs.Contents.{Contents}
use Rattle.mdr_region.specs.RowsView.{Reserved}
use Rattle.mdr_track.specs.Pairs.{Pairs, paired, unpaired}
use Rattle.mdr_track.specs.Tracked.{Tracked, pairs_of}
use Rattle.mdr_user_memory.specs.declared.newborn.Newborn.{Newborn}
use Rattle.mdr_user_memory.specs.Lived.{LivesIn, LivesLead, LivesOn, all_born, all_died, born, died}
use Rattle.mdr_user_memory.specs.Paired.{IsLinked, Paired}
use Rattle.mdr_user_memory.specs.Taking.{ArePlain, Fit, FitsOne, Leads, Moves, block_of, borne, kept_all, kept_runs, newborn_of, plain_block, total, unpaired_all}
use Rattle.mdr_user_memory.proofs.LivedLaws.{births_done, births_next, deaths_done, deaths_next}
use Rattle.mdr_user_memory.proofs.MessageLaws.{block_plain, wire_value}

-- a call that can't fail
pub not_err : {A E : Type 0} (r : Result A E) (e : E) → IsOk r → r ≡ Err e → ⊥
not_err r e ok is = true≢false (sym ok ∙ ap is_ok is)

-- ---- any list

pub leads_next : {X : Type 0} (F : List X → Memory → Memory) (all step : Memory → Memory) (xs : List X) (i : ℕ) (d : X) (r r1 r2 : Contents) (ps ps1 ps2 : Pairs) → i < length xs
    → ((m : Memory) → F (get_or xs i d ∷ drop (i + 1) xs) m ≡ F (drop (i + 1) xs) (step m)) → Moves step r1 ps1 r2 ps2 → Leads all (F (drop i xs)) r ps r1 ps1 → Leads all (F (drop (i + 1) xs)) r ps r2 ps2
leads_next F all step xs i d r r1 r2 ps ps1 ps2 low is moves l = λ s qs mv. l s qs (λ m p. subst (λ x. Paired x s qs) (sym (at_drop_more (λ ys. F ys m) xs i d low ∙ is m)) (mv (step m) (moves m p)))

pub leads_done : {X : Type 0} (F : List X → Memory → Memory) (all : Memory → Memory) (xs : List X) (i : ℕ) (r r' : Contents) (ps ps' : Pairs) → length xs ≤ i → ((m : Memory) → F [] m ≡ m) → Leads all (F (drop i xs)) r ps r' ps' → Moves all r ps r' ps'
leads_done F all xs i r r' ps ps' over none l = l r' ps' (λ m p. subst (λ x. Paired x r' ps') (sym (at_drop_all (λ ys. F ys m) xs i over ∙ none m)) p)

-- ---- deaths

pub record Buries (all rest : List ℕ) (r : Reserved) (ps : Tracked) (r' : Reserved) (ps' : Tracked) : Type 0 where
  pub linked : IsLinked r'.contents (pairs_of ps')
  pub leads : Leads (without all) (without rest) r.contents (pairs_of ps) r'.contents (pairs_of ps')
  pub paired : unpaired_all rest (pairs_of ps') ≡ unpaired_all all (pairs_of ps)
  pub cells : r'.cells ≡ r.cells
  pub births : r'.births ≡ r.births
  pub room : ps'.room ≡ ps.room
  pub lived : LivesLead (all_died all) (all_died rest) r.contents.lives (pairs_of ps) r'.contents.lives (pairs_of ps')

pub buries_first : (all : List ℕ) (r : Reserved) (ps : Tracked) → IsLinked r.contents (pairs_of ps) → Buries all all r ps r ps
buries_first all r ps l = record { linked = l; leads = λ s qs mv. mv; paired = refl; cells = refl; births = refl; room = refl; lived = λ a qs go. go }

without_one : (s : ℕ) (rest : List ℕ) (m : Memory) → without (s ∷ rest) m ≡ without rest (killed s m)
unfolding without
without_one s rest m = refl

without_none : (m : Memory) → without [] m ≡ m
unfolding without
without_none m = refl

unpaired_one : (s : ℕ) (rest : List ℕ) (ps : Pairs) → unpaired_all (s ∷ rest) ps ≡ unpaired_all rest (unpaired s ps)
unfolding unpaired_all
unpaired_one s rest ps = refl

unpaired_none : (ps : Pairs) → unpaired_all [] ps ≡ ps
unfolding unpaired_all
unpaired_none ps = refl

pub buries_next : (all : List ℕ) (i : ℕ) (d : ℕ) (r r1 r2 : Reserved) (ps ps1 ps2 : Tracked) → i < length all
    → IsLinked r2.contents (pairs_of ps2) → Moves (killed (get_or all i d)) r1.contents (pairs_of ps1) r2.contents (pairs_of ps2) → pairs_of ps2 ≡ unpaired (get_or all i d) (pairs_of ps1)
    → r2.cells ≡ r1.cells → r2.births ≡ r1.births → ps2.room ≡ ps1.room → LivesIn (died (get_or all i d)) r1 ps1 r2 ps2
    → Buries all (drop i all) r ps r1 ps1 → Buries all (drop (i + 1) all) r ps r2 ps2
buries_next all i d r r1 r2 ps ps1 ps2 low linked moves gone cells births room on b = record {
  linked = linked;
  leads = leads_next without (without all) (killed (get_or all i d)) all i d r.contents r1.contents r2.contents (pairs_of ps) (pairs_of ps1) (pairs_of ps2) low (without_one (get_or all i d) (drop (i + 1) all)) moves b.leads;
  paired = ap (unpaired_all (drop (i + 1) all)) gone ∙ (sym (unpaired_one (get_or all i d) (drop (i + 1) all) (pairs_of ps1)) ∙ (sym (at_drop_more (λ ss. unpaired_all ss (pairs_of ps1)) all i d low) ∙ b.paired));
  cells = cells ∙ b.cells;
  births = births ∙ b.births;
  room = room ∙ b.room;
  lived = deaths_next all i d r.contents.lives r1.contents.lives r2.contents.lives (pairs_of ps) (pairs_of ps1) (pairs_of ps2) low on b.lived;
}

module _ (all : List ℕ) (i : ℕ) (r r' : Reserved) (ps ps' : Tracked) (over : length all ≤ i) (b : Buries all (drop i all) r ps r' ps') where
  pub buries_moves : Moves (without all) r.contents (pairs_of ps) r'.contents (pairs_of ps')
  buries_moves = leads_done without (without all) all i r.contents r'.contents (pairs_of ps) (pairs_of ps') over without_none b.leads

  pub buries_pairs : pairs_of ps' ≡ unpaired_all all (pairs_of ps)
  buries_pairs = sym (unpaired_none (pairs_of ps')) ∙ (sym (at_drop_all (λ ss. unpaired_all ss (pairs_of ps')) all i over) ∙ b.paired)

  pub buries_lives : LivesOn (all_died all) r.contents.lives (pairs_of ps) r'.contents.lives (pairs_of ps')
  buries_lives = deaths_done all i r.contents.lives r'.contents.lives (pairs_of ps) (pairs_of ps') over b.lived

-- ---- births

pub record Bears (all rest : List Newborn) (r : Reserved) (ps : Tracked) (r' : Reserved) (ps' : Tracked) : Type 0 where
  pub linked : IsLinked r'.contents (pairs_of ps')
  pub leads : Leads (borne all) (borne rest) r.contents (pairs_of ps) r'.contents (pairs_of ps')
  pub fit : Fit rest (pairs_of ps') r'.cells r'.births ps'.room
  pub lived : LivesLead (all_born all) (all_born rest) r.contents.lives (pairs_of ps) r'.contents.lives (pairs_of ps')

pub bears_first : (all : List Newborn) (r : Reserved) (ps : Tracked) → IsLinked r.contents (pairs_of ps) → Fit all (pairs_of ps) r.cells r.births ps.room → Bears all all r ps r ps
bears_first all r ps l f = record { linked = l; leads = λ s qs mv. mv; fit = f; lived = λ a qs go. go }

borne_one : (x : Newborn) (rest : List Newborn) (m : Memory) → borne (x ∷ rest) m ≡ borne rest (inserted (plain_block x) m)
unfolding borne
borne_one x rest m = refl

borne_none : (m : Memory) → borne [] m ≡ m
unfolding borne
borne_none m = refl

fit_first : (x : Newborn) (rest : List Newborn) (ps : Pairs) (cells births room : ℕ) → Fit (x ∷ rest) ps cells births room
    → FitsOne x ps cells births room × (ArePlain x.first × ((b : Block) → Fit rest (paired x.born.serial b ps) (cells - length x.first) (births - 1) (room - 1)))
unfolding Fit
fit_first x rest ps cells births room f = f

module _ (all : List Newborn) (i : ℕ) (x : Newborn) (r r1 : Reserved) (ps ps1 : Tracked) (low : i < length all) (is : x ≡ get_or all i x) (b : Bears all (drop i all) r ps r1 ps1) where
  front : Fit (x ∷ drop (i + 1) all) (pairs_of ps1) r1.cells r1.births ps1.room
  front =
      subst (λ y. Fit (y ∷ drop (i + 1) all) (pairs_of ps1) r1.cells r1.births ps1.room) (sym is)
      (subst (λ xs. Fit xs (pairs_of ps1) r1.cells r1.births ps1.room) (drop_more all i x low) b.fit)

  pub bears_fits : FitsOne x (pairs_of ps1) r1.cells r1.births ps1.room
  bears_fits = (fit_first x (drop (i + 1) all) (pairs_of ps1) r1.cells r1.births ps1.room front).0

  plain : ArePlain x.first
  plain = (fit_first x (drop (i + 1) all) (pairs_of ps1) r1.cells r1.births ps1.room front).1.0

  fit_behind : (k : Block) → Fit (drop (i + 1) all) (paired x.born.serial k (pairs_of ps1)) (r1.cells - length x.first) (r1.births - 1) (ps1.room - 1)
  fit_behind = (fit_first x (drop (i + 1) all) (pairs_of ps1) r1.cells r1.births ps1.room front).1.1

  pub bears_next : (r2 : Reserved) (ps2 : Tracked) (k : Block) → IsLinked r2.contents (pairs_of ps2) → Moves (inserted (block_of x r1.contents.handles (pairs_of ps1))) r1.contents (pairs_of ps1) r2.contents (pairs_of ps2)
      → pairs_of ps2 ≡ paired x.born.serial k (pairs_of ps1) → r2.cells ≡ r1.cells - length x.first → r2.births ≡ r1.births - 1 → ps2.room ≡ ps1.room - 1
      → LivesIn (born x.born.serial (length x.first)) r1 ps1 r2 ps2 → Bears all (drop (i + 1) all) r ps r2 ps2
  bears_next r2 ps2 k linked moves more cells births room on = record {
    linked = linked;
    leads =
        leads_next borne (borne all) (inserted (plain_block x)) all i x r.contents r1.contents r2.contents (pairs_of ps) (pairs_of ps1) (pairs_of ps2) low
        (λ m. ap (λ y. borne (y ∷ drop (i + 1) all) m) (sym is) ∙ borne_one x (drop (i + 1) all) m)
        (subst (λ y. Moves (inserted y) r1.contents (pairs_of ps1) r2.contents (pairs_of ps2)) (block_plain x r1.contents.handles (pairs_of ps1) plain) moves) b.leads;
    fit =
        subst (λ q. Fit (drop (i + 1) all) q r2.cells r2.births ps2.room) (sym more)
        (subst (λ n. Fit (drop (i + 1) all) (paired x.born.serial k (pairs_of ps1)) n r2.births ps2.room) (sym cells)
        (subst (λ n. Fit (drop (i + 1) all) (paired x.born.serial k (pairs_of ps1)) (r1.cells - length x.first) n ps2.room) (sym births)
        (subst (λ n. Fit (drop (i + 1) all) (paired x.born.serial k (pairs_of ps1)) (r1.cells - length x.first) (r1.births - 1) n) (sym room) (fit_behind k))));
    lived = births_next all i x r.contents.lives r1.contents.lives r2.contents.lives (pairs_of ps) (pairs_of ps1) (pairs_of ps2) low is on b.lived;
  }

pub bears_moves : (all : List Newborn) (i : ℕ) (r r' : Reserved) (ps ps' : Tracked) → length all ≤ i → Bears all (drop i all) r ps r' ps' → Moves (borne all) r.contents (pairs_of ps) r'.contents (pairs_of ps')
bears_moves all i r r' ps ps' over b = leads_done borne (borne all) all i r.contents r'.contents (pairs_of ps) (pairs_of ps') over borne_none b.leads

pub bears_lives : (all : List Newborn) (i : ℕ) (r r' : Reserved) (ps ps' : Tracked) → length all ≤ i → Bears all (drop i all) r ps r' ps' → LivesOn (all_born all) r.contents.lives (pairs_of ps) r'.contents.lives (pairs_of ps')
bears_lives all i r r' ps ps' over b = births_done all i r.contents.lives r'.contents.lives (pairs_of ps) (pairs_of ps') over b.lived

-- ---- values of a run

pub record Keeps (all rest : Memory → Memory) (r r' : Contents) (ps : Pairs) : Type 0 where
  pub linked : IsLinked r' ps
  pub leads : Leads all rest r ps r' ps
  pub lives : r'.lives ≡ r.lives

pub keeps_first : (all : Memory → Memory) (r : Contents) (ps : Pairs) → IsLinked r ps → Keeps all all r r ps
keeps_first all r ps l = record { linked = l; leads = λ s qs mv. mv; lives = refl }

row_one : (serial n : ℕ) (w : Wire) (ws : List Wire) (m : Memory) → kept_all (numbered serial n (w ∷ ws)) m ≡ kept_all (numbered serial (suc n) ws) (put m (record { serial = serial; index = n }) (normal m w))
unfolding kept_all numbered
row_one serial n w ws m = refl

row_none : (serial n : ℕ) (m : Memory) → kept_all (numbered serial n []) m ≡ m
unfolding kept_all numbered
row_none serial n m = refl

row_start : (serial first : ℕ) (ws : List Wire) (m : Memory) → kept_all (numbered serial (first + 0) (drop 0 ws)) m ≡ kept_all (numbered serial first ws) m
row_start serial first ws m =
    let none : first + 0 ≡ first = omega arith in ap (λ n. kept_all (numbered serial n ws) m) none

pub row_first : (serial first : ℕ) (ws : List Wire) (r : Contents) (ps : Pairs) → IsLinked r ps → Keeps (kept_all (numbered serial first ws)) (kept_all (numbered serial (first + 0) (drop 0 ws))) r r ps
row_first serial first ws r ps l = record { linked = l; leads = λ s qs mv m p. subst (λ x. Paired x s qs) (row_start serial first ws m) (mv m p); lives = refl }

pub row_next : (serial first : ℕ) (all : Memory → Memory) (ws : List Wire) (i : ℕ) (d : Wire) (v : Value) (r r1 r2 : Contents) (ps : Pairs) → i < length ws → v ≡ value_of (get_or ws i d)
    → IsLinked r2 ps → Moves (λ m. put m (record { serial = serial; index = first + i }) (normal m (wire_of v))) r1 ps r2 ps → r2.lives ≡ r1.lives
    → Keeps all (kept_all (numbered serial (first + i) (drop i ws))) r r1 ps → Keeps all (kept_all (numbered serial (first + (i + 1)) (drop (i + 1) ws))) r r2 ps
row_next serial first all ws i d v r r1 r2 ps low is linked moves same k = record {
  linked = linked;
  leads = λ s qs mv. k.leads s qs (λ m p. subst (λ x. Paired x s qs) (sym (step m)) (mv _ (moves m p)));
  lives = same ∙ k.lives;
}
  where
    wire : wire_of v ≡ get_or ws i d
    wire = ap wire_of is ∙ wire_value (get_or ws i d)

    step : (m : Memory) → kept_all (numbered serial (first + i) (drop i ws)) m ≡ kept_all (numbered serial (first + (i + 1)) (drop (i + 1) ws)) (put m (record { serial = serial; index = first + i }) (normal m (wire_of v)))
    step m =
        let next : suc (first + i) ≡ first + (i + 1) = omega arith in
        at_drop_more (λ vs. kept_all (numbered serial (first + i) vs) m) ws i d low
        ∙ (row_one serial (first + i) (get_or ws i d) (drop (i + 1) ws) m
        ∙ (ap (λ n. kept_all (numbered serial n (drop (i + 1) ws)) (put m (record { serial = serial; index = first + i }) (normal m (get_or ws i d)))) next
        ∙ ap (λ x. kept_all (numbered serial (first + (i + 1)) (drop (i + 1) ws)) (put m (record { serial = serial; index = first + i }) (normal m x))) (sym wire)))

pub row_moves : (serial first : ℕ) (all : Memory → Memory) (ws : List Wire) (i : ℕ) (r r' : Contents) (ps : Pairs) → length ws ≤ i → Keeps all (kept_all (numbered serial (first + i) (drop i ws))) r r' ps → Moves all r ps r' ps
row_moves serial first all ws i r r' ps over k = leads_done (λ vs. kept_all (numbered serial (first + i) vs)) all ws i r r' ps ps over (row_none serial (first + i)) k.leads

-- ---- runs

runs_one : (x : Run) (rest : List Run) (m : Memory) → kept_runs (x ∷ rest) m ≡ kept_runs rest (kept_all (numbered x.serial x.first x.values) m)
unfolding kept_runs
runs_one x rest m = refl

runs_none : (m : Memory) → kept_runs [] m ≡ m
unfolding kept_runs
runs_none m = refl

pub runs_next : (all : Memory → Memory) (runs : List Run) (i : ℕ) (x : Run) (values : List Wire) (r r1 r2 : Contents) (ps : Pairs) → i < length runs → x ≡ get_or runs i x → values ≡ x.values
    → IsLinked r2 ps → Moves (kept_all (numbered x.serial x.first values)) r1 ps r2 ps → r2.lives ≡ r1.lives → Keeps all (kept_runs (drop i runs)) r r1 ps → Keeps all (kept_runs (drop (i + 1) runs)) r r2 ps
runs_next all runs i x values r r1 r2 ps low is lent linked moves same k = record {
  linked = linked;
  leads =
      leads_next kept_runs all (kept_all (numbered x.serial x.first values)) runs i x r r1 r2 ps ps ps low
      (λ m. ap (λ y. kept_runs (y ∷ drop (i + 1) runs) m) (sym is) ∙ (runs_one x (drop (i + 1) runs) m ∙ ap (λ vs. kept_runs (drop (i + 1) runs) (kept_all (numbered x.serial x.first vs) m)) (sym lent)))
      moves k.leads;
  lives = same ∙ k.lives;
}

pub runs_moves : (all : Memory → Memory) (runs : List Run) (i : ℕ) (r r' : Contents) (ps : Pairs) → length runs ≤ i → Keeps all (kept_runs (drop i runs)) r r' ps → Moves all r ps r' ps
runs_moves all runs i r r' ps over k = leads_done kept_runs all runs i r r' ps ps over runs_none k.leads

-- ---- what is born of a message

-- the last of one
only_one : {A : Type 0} (x y : A) (rest : List A) → x ∷ [] ≡ rest ++ y ∷ [] → y ≡ x
only_one {A} x y [] e = sym (same e)
  where
    same : x ∷ [] ≡ y ∷ [] → x ≡ y
    same k = cc
only_one {A} x y (z ∷ []) e = absurd (never e)
  where
    never : x ∷ [] ≡ z ∷ y ∷ [] → ⊥
    never k = cc
only_one {A} x y (z ∷ w ∷ rest) e = absurd (never e)
  where
    never : x ∷ [] ≡ z ∷ w ∷ (rest ++ y ∷ []) → ⊥
    never k = cc

one_new : (program : Program) (n : New) → with_news program (n ∷ []) [] ≡ zero_block program n ∷ []
unfolding with_news inserted
one_new program n = refl

pub popped : (program : Program) (n : New) (xs rest left : List MemoryBlock) (b : MemoryBlock) → left ≡ [] → xs ≡ with_news program (n ∷ []) left → xs ≡ rest ++ b ∷ [] → b ≡ zero_block program n
popped program n xs rest left b none made last = only_one (zero_block program n) b rest (sym (one_new program n) ∙ (ap (with_news program (n ∷ [])) (sym none) ∙ (sym made ∙ last)))

-- one was there
not_none : {A : Type 0} (x : A) → x ∷ [] ≡ [] → ⊥
not_none x e = cc

pub none_left : (program : Program) (n : New) (xs rest left : List MemoryBlock) (size : ℕ) → left ≡ [] → xs ≡ with_news program (n ∷ []) left → xs ≡ rest ++ [] → rest ≡ take (size - 1) xs → size ≡ 0 → ⊥
none_left program n xs rest left size none made last behind empty =
    let one : xs ≡ zero_block program n ∷ [] = made ∙ (ap (with_news program (n ∷ [])) none ∙ one_new program n) in
    let gone : rest ≡ [] = behind ∙ (λ i. take (empty i - 1) (one i)) in
    not_none (zero_block program n) (sym one ∙ (last ∙ ap (λ (r : List MemoryBlock). r ++ []) gone))

pub newborn_is : (program : Program) (n : New) (b : MemoryBlock) (cells : List Wire) (first : List Value) → b ≡ zero_block program n → cells ≡ b.cells → first ≡ map value_of cells → record { born = n; first = first } ≡ newborn_of program n
newborn_is program n b cells first e f g =
    let is : first ≡ map value_of (zero_block program n).cells = g ∙ (ap (map value_of) (f ∙ ap (λ (x : MemoryBlock). x.cells) e)) in
    λ i. record { born = n; first = is i }

-- ---- counting

total_one : (x : Newborn) (rest : List Newborn) → total (x ∷ rest) ≡ length x.first + total rest
unfolding total
total_one x rest = refl

total_none : total [] ≡ 0
unfolding total
total_none = refl

pub total_next : (news : List Newborn) (i : ℕ) (x : Newborn) (sum next cells whole : ℕ) → i < length news → x ≡ get_or news i x → cells ≡ length x.first → next ≡ sum + cells → sum + total (drop i news) ≡ whole → next + total (drop (i + 1) news) ≡ whole
total_next news i x sum next cells whole low is count more so_far =
    let here : total (drop i news) ≡ length x.first + total (drop (i + 1) news) = at_drop_more total news i x low ∙ (ap (λ y. total (y ∷ drop (i + 1) news)) (sym is) ∙ total_one x (drop (i + 1) news)) in
    omega (arith, here, count, more, so_far)

pub total_done : (news : List Newborn) (i sum whole : ℕ) → length news ≤ i → sum + total (drop i news) ≡ whole → sum ≡ whole
total_done news i sum whole over so_far =
    let none : total (drop i news) ≡ 0 = at_drop_all total news i over ∙ total_none in omega (arith, none, so_far)

-- ---- small facts

pub normal_int : (m : Memory) (k : Kind) (n : ℤ) → normal m (wire.Int k n) ≡ wire.Int k n
unfolding normal
normal_int m k n = refl

pub one_run : (r : SetRun) → cells_of_runs (r ∷ []) ≡ cells_of_run r
unfolding cells_of_runs
one_run r = append-nil (cells_of_run r)

pub taken_more : (copy : Memory) (i : ℕ) (b : MemoryBlock) (r r' : Contents) (ps ps' : Pairs) → i < length copy → b ≡ get_or copy i b → Moves (λ m. m ++ b ∷ []) r ps r' ps' → Paired (take i copy) r ps → Paired (take (i + 1) copy) r' ps'
taken_more copy i b r r' ps ps' low is moves p =
    subst (λ m. Paired m r' ps') (sym (take_more copy i b low ∙ ap (λ x. take i copy ++ x ∷ []) (sym is))) (moves (take i copy) p)
