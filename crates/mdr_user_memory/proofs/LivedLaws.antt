-- Births and deaths, one after the other.
use Rattle.std.proofs.Common.{◌≡◌, ◌∙◌, ◌<◌, ◌≤◌, ◌+◌, ℕ, Bool, true, false, cond, List, [], ◌∷◌, ◌++◌, map, length, take, drop, get_or, Option, Some, None, refl, sym, ap, subst}
use Rattle.std.specs.Prelude.{◌==◌}
use Rattle.std.proofs.lemmas.List.{at_drop_all, at_drop_more, length-map, take_more}
use Rattle.mdr_core.specs.declared.value.Block.{Block}
use Rattle.mdr_core.specs.declared.value.Value.{Value}
use Rattle.mdr_meaning.specs.declared.wire.Wire.{Wire}
use Rattle.mdr_mem.specs.declared.cells.Life.{Life}
use Rattle.mdr_mem.specs.declared.cells.Life.TheVariants as life
use Rattle.mdr_mem.specs.Contents.{births_in, wire_in}
use Rattle.mdr_model.specs.declared.memory.MemoryBlock.{MemoryBlock}
use Rattle.mdr_model.specs.Memory.{Memory}
use Rattle.mdr_track.specs.Pairs.{Pairs, no_pairs, paired, unpaired, unpaired_at}
use Rattle.mdr_track.specs.Tracked.{pairs_of}
use Rattle.mdr_user_memory.specs.declared.newborn.Newborn.{Newborn}
use Rattle.mdr_user_memory.specs.Copied.{Past}
use Rattle.mdr_user_memory.specs.Kept.{IsLived, Kept, past_in}
use Rattle.mdr_user_memory.specs.Lived.{HasLived, Lived, LivesLead, LivesOn, all_born, all_died, all_there, born, died, died_at, none_lived, own_of}
use Rattle.mdr_user_memory.specs.Paired.{told, told_all}

-- ---- one

module _ (s : ℕ) (b : Block) (all all' : List Life) (ps ps' : Pairs) (made : all' ≡ all ++ life.Death b.serial ∷ []) (gone : ps' ≡ unpaired s ps) (e : ps.user_of s ≡ Some b) where
  without : (q : Bool) (o : Option Block) (n : Option ℕ) → own_of o ≡ n → own_of (cond q None o) ≡ cond q None n
  without true o n h = refl
  without false o n h = h

  pub lives_died : LivesOn (died s) all ps all' ps'
  lives_died l h =
      subst (λ o. HasLived (died_at o s l) all' ps') (sym (ap own_of e) ∙ h.own s)
      (record {
        lives = made ∙ ap (λ ls. ls ++ life.Death b.serial ∷ []) h.lives;
        own = λ t. ap (λ (q : Pairs). own_of (q.user_of t)) (gone ∙ ap (λ o. unpaired_at o s ps) e) ∙ without (s == t) (ps.user_of t) (l.own t) (h.own t);
      })

pub lives_stale : (s : ℕ) (all : List Life) (ps : Pairs) → ps.user_of s ≡ None → LivesOn (died s) all ps all ps
lives_stale s all ps e l h = subst (λ o. HasLived (died_at o s l) all ps) (sym (ap own_of e) ∙ h.own s) h

module _ (n cells : ℕ) (b : Block) (all all' : List Life) (ps ps' : Pairs) (made : all' ≡ all ++ life.Birth cells ∷ []) (with : ps' ≡ paired n b ps) (next : b.serial ≡ births_in all) where
  one_more : (l : Lived) → HasLived l all ps → (t : ℕ) (q : Bool) → own_of (cond q (Some b) (ps.user_of t)) ≡ cond q (Some (births_in l.lives)) (l.own t)
  one_more l h t true = ap Some (next ∙ ap births_in h.lives)
  one_more l h t false = h.own t

  pub lives_born : LivesOn (born n cells) all ps all' ps'
  lives_born l h = record {
    lives = made ∙ ap (λ ls. ls ++ life.Birth cells ∷ []) h.lives;
    own = λ t. ap (λ (q : Pairs). own_of (q.user_of t)) with ∙ one_more l h t (n == t);
  }

-- where it goes is said by equations
pub lives_from : {f : Lived → Lived} {all all1 all' : List Life} {ps ps1 ps' : Pairs} → all1 ≡ all → ps1 ≡ ps → LivesOn f all1 ps1 all' ps' → LivesOn f all ps all' ps'
lives_from {f} {all} {all1} {all'} {ps} {ps1} {ps'} e k on l h = on l (subst (λ x. HasLived l x ps1) (sym e) (subst (λ x. HasLived l all x) (sym k) h))

-- the same births and deaths
pub lives_same : {l : Lived} {all all' : List Life} {ps : Pairs} → all' ≡ all → HasLived l all ps → HasLived l all' ps
lives_same e h = record { lives = e ∙ h.lives; own = h.own }

-- of a memory that has the past of another
pub lived_same : {l : Lived} (k' k : Kept) → past_in k' ≡ past_in k → IsLived l k → IsLived l k'
lived_same {l} k' k e h = subst (λ (x : Past). HasLived l x.lives (pairs_of x.pairs)) (sym e) h

-- ---- any list

lives_next : {X : Type 0} (F : List X → Lived → Lived) (whole step : Lived → Lived) (xs : List X) (i : ℕ) (d : X) (all all1 all2 : List Life) (ps ps1 ps2 : Pairs) → i < length xs
    → ((l : Lived) → F (get_or xs i d ∷ drop (i + 1) xs) l ≡ F (drop (i + 1) xs) (step l)) → LivesOn step all1 ps1 all2 ps2 → LivesLead whole (F (drop i xs)) all ps all1 ps1 → LivesLead whole (F (drop (i + 1) xs)) all ps all2 ps2
lives_next F whole step xs i d all all1 all2 ps ps1 ps2 low is on lead =
    λ a qs go. lead a qs (λ l h. subst (λ x. HasLived x a qs) (sym (at_drop_more (λ ys. F ys l) xs i d low ∙ is l)) (go (step l) (on l h)))

lives_done : {X : Type 0} (F : List X → Lived → Lived) (whole : Lived → Lived) (xs : List X) (i : ℕ) (all all' : List Life) (ps ps' : Pairs) → length xs ≤ i → ((l : Lived) → F [] l ≡ l) → LivesLead whole (F (drop i xs)) all ps all' ps'
    → LivesOn whole all ps all' ps'
lives_done F whole xs i all all' ps ps' over none lead = lead all' ps' (λ l h. subst (λ x. HasLived x all' ps') (sym (at_drop_all (λ ys. F ys l) xs i over ∙ none l)) h)

-- ---- deaths

died_one : (s : ℕ) (rest : List ℕ) (l : Lived) → all_died (s ∷ rest) l ≡ all_died rest (died s l)
unfolding all_died
died_one s rest l = refl

died_none : (l : Lived) → all_died [] l ≡ l
unfolding all_died
died_none l = refl

pub deaths_next : (serials : List ℕ) (i d : ℕ) (all all1 all2 : List Life) (ps ps1 ps2 : Pairs) → i < length serials → LivesOn (died (get_or serials i d)) all1 ps1 all2 ps2
    → LivesLead (all_died serials) (all_died (drop i serials)) all ps all1 ps1 → LivesLead (all_died serials) (all_died (drop (i + 1) serials)) all ps all2 ps2
deaths_next serials i d all all1 all2 ps ps1 ps2 low on lead =
    lives_next all_died (all_died serials) (died (get_or serials i d)) serials i d all all1 all2 ps ps1 ps2 low (died_one (get_or serials i d) (drop (i + 1) serials)) on lead

pub deaths_done : (serials : List ℕ) (i : ℕ) (all all' : List Life) (ps ps' : Pairs) → length serials ≤ i → LivesLead (all_died serials) (all_died (drop i serials)) all ps all' ps' → LivesOn (all_died serials) all ps all' ps'
deaths_done serials i all all' ps ps' over lead = lives_done all_died (all_died serials) serials i all all' ps ps' over died_none lead

-- ---- births

born_one : (x : Newborn) (rest : List Newborn) (l : Lived) → all_born (x ∷ rest) l ≡ all_born rest (born x.born.serial (length x.first) l)
unfolding all_born
born_one x rest l = refl

born_none : (l : Lived) → all_born [] l ≡ l
unfolding all_born
born_none l = refl

pub births_next : (news : List Newborn) (i : ℕ) (x : Newborn) (all all1 all2 : List Life) (ps ps1 ps2 : Pairs) → i < length news → x ≡ get_or news i x → LivesOn (born x.born.serial (length x.first)) all1 ps1 all2 ps2
    → LivesLead (all_born news) (all_born (drop i news)) all ps all1 ps1 → LivesLead (all_born news) (all_born (drop (i + 1) news)) all ps all2 ps2
births_next news i x all all1 all2 ps ps1 ps2 low is on lead =
    lives_next all_born (all_born news) (born x.born.serial (length x.first)) news i x all all1 all2 ps ps1 ps2 low
    (λ l. ap (λ y. all_born (y ∷ drop (i + 1) news) l) (sym is) ∙ born_one x (drop (i + 1) news) l) on lead

pub births_done : (news : List Newborn) (i : ℕ) (all all' : List Life) (ps ps' : Pairs) → length news ≤ i → LivesLead (all_born news) (all_born (drop i news)) all ps all' ps' → LivesOn (all_born news) all ps all' ps'
births_done news i all all' ps ps' over lead = lives_done all_born (all_born news) news i all all' ps ps' over born_none lead

-- ---- the blocks of a copy

there_last : (m : Memory) (b : MemoryBlock) (l : Lived) → all_there (m ++ b ∷ []) l ≡ born b.born.serial (length b.cells) (all_there m l)
unfolding all_there
there_last [] b l = refl
there_last (x ∷ m) b l = there_last m b (born x.born.serial (length x.cells) l)

there_none : (l : Lived) → l ≡ all_there [] l
unfolding all_there
there_none l = refl

pub there_first : (all : List Life) (ps : Pairs) → all ≡ [] → ps ≡ no_pairs → HasLived (all_there [] none_lived) all ps
there_first all ps e f = subst (λ l. HasLived l all ps) (there_none none_lived) (record { lives = e; own = λ s. ap (λ (q : Pairs). own_of (q.user_of s)) f })

pub there_more : (copy : Memory) (i : ℕ) (b : MemoryBlock) (all all' : List Life) (ps ps' : Pairs) → i < length copy → b ≡ get_or copy i b → LivesOn (born b.born.serial (length b.cells)) all ps all' ps'
    → HasLived (all_there (take i copy) none_lived) all ps → HasLived (all_there (take (i + 1) copy) none_lived) all' ps'
there_more copy i b all all' ps ps' low is on h =
    subst (λ l. HasLived l all' ps')
    (sym (ap (λ m. all_there m none_lived) (take_more copy i b low ∙ ap (λ x. take i copy ++ x ∷ []) (sym is)) ∙ there_last (take i copy) b none_lived))
    (on (all_there (take i copy) none_lived) h)

-- values in cells are as many as those that they are told as
pub told_length : (hs : List Block) (ps : Pairs) (vs : List Value) (ws : List Wire) → told_all hs ps vs ≡ ws → length vs ≡ length ws
told_length hs ps vs ws e = sym (length-map vs (wire_in hs)) ∙ (sym (length-map (map (wire_in hs) vs) (told hs ps)) ∙ ap length e)
