-- The tests of the user half pass each message's births and deaths.
use Rattle.std.proofs.Common.{◌≡◌, ℕ, Bool, true, false, cond, not, ◌&&◌, List, [], ◌∷◌, ◌++◌, map, Option, Some, None, refl, sym, ◌∙◌, arith}
use Rattle.std.specs.Prelude.{nat_lt}
use Rattle.std.specs.List.{list_all}
use Rattle.std.proofs.lemmas.Bool.{eq-eqb, lt-ltb}
use Rattle.mdr_core.specs.declared.program.Program.{Program}
use Rattle.mdr_meaning.specs.declared.wire.Wire.{Wire}
use Rattle.mdr_model.specs.declared.message.New.{New}
use Rattle.mdr_model.specs.Memory.{Memory, Cell, births, is_live}
use Rattle.mdr_model.specs.Copies.{died, without, is_named, news_of, left_of, changed_values, told_news, tells}
use Rattle.mdr_model.specs.User.{rise_after, may_die, has_shape, may_come, lives_fit}
use Rattle.mdr_model.specs.Agreement.{Serials, IsAgreed, has, is_told, DeathsRise, NewsRise, IsAccepted, AreBlocks}
use Rattle.mdr_model.proofs.LifeLaws.{has-died}
use Rattle.mdr_model.proofs.AgreedMessages.{accepted}

abbrev after_maybe : Option ℕ → ℕ → Bool
after_maybe None s = true
after_maybe (Some d) s = nat_lt d s

-- serials that rise pass the test
rising_pass : (before : Option ℕ) (ds : List ℕ) → DeathsRise ds → ((s : ℕ) → has ds s ≡ true → after_maybe before s ≡ true) → rise_after before ds ≡ true
unfolding has
rising_pass before [] r h = refl
rising_pass None (d ∷ ds) r h = rising_pass (Some d) ds r.1 (λ s k. lt-ltb d s (r.0 s k))
rising_pass (Some b) (d ∷ ds) r h = grind (arith, h d, eq-eqb d d refl, rising_pass (Some d) ds r.1 (λ s k. lt-ltb d s (r.0 s k)))

all_pass : (p : ℕ → Bool) (ds : List ℕ) → ((s : ℕ) → has ds s ≡ true → p s ≡ true) → list_all p ds ≡ true
unfolding has
all_pass p [] h = refl
all_pass p (d ∷ ds) h = grind (arith, h d, eq-eqb d d refl, all_pass p ds (λ s k. h s (grind arith)))

has-news : (ns : List New) (s : ℕ) → has (map (λ (n : New). n.serial) ns) s ≡ is_told ns s
unfolding has is_told
has-news [] s = refl
has-news (n ∷ ns) s = grind (arith, has-news ns s)

news_pass : (ns : List New) → NewsRise ns → DeathsRise (map (λ (n : New). n.serial) ns)
news_pass [] r = tt
news_pass (n ∷ ns) r = (λ s h. r.0 s (sym (has-news ns s) ∙ h), news_pass ns r.1)

-- new blocks may come where all have shapes
news_come : (program : Program) (left : Memory) (values : List Wire) (m : Memory) → list_all (has_shape program) (births m) ≡ true → list_all (may_come program left) (news_of left values m) ≡ true
unfolding news_of
news_come program left values [] h = refl
news_come program left values (b ∷ m) h = of (not (is_live left b.born.serial) && is_named values b.born.serial) refl (news_come program left values m (grind arith))
  where
    of : (t : Bool) → (not (is_live left b.born.serial) && is_named values b.born.serial) ≡ t → list_all (may_come program left) (news_of left values m) ≡ true
        → list_all (may_come program left) (cond t (b.born ∷ news_of left values m) (news_of left values m)) ≡ true
    of true e later = grind (arith, h)
    of false e later = later

pub lives_pass : {known : Serials} {next : ℕ} (program : Program) (view : List Cell) (values : List Wire) (copy m : Memory) → IsAgreed program known next copy m → AreBlocks program m
    → lives_fit program copy (tells program view values copy m).deaths (tells program view values copy m).news ≡ true
unfolding lives_fit tells told_news left_of
lives_pass program view values copy m a blocks =
    let t : IsAccepted _ (tells program view values copy m) copy = accepted program view values copy m a in
    let left : Memory = without (died copy m) copy in
    let news : List New = news_of left (values ++ changed_values view left m) m in
    grind (
      arith,
      rising_pass None (died copy m) t.deaths_rise (λ s h. refl),
      all_pass (may_die program copy) (died copy m) (λ s h. grind (arith, has-died copy m s, blocks.globals s)),
      rising_pass None (map (λ (n : New). n.serial) news) (news_pass news t.news_rise) (λ s h. refl),
      news_come program left (values ++ changed_values view left m) m blocks.shapes,
    )
