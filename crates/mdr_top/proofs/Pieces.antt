-- A text that is written piece by piece.
use Rattle.std.proofs.Common.{◌≡◌, ℕ, zero, suc, ◌+◌, ◌≤◌, ◌<◌, inl, inr, Bool, true, false, List, [], ◌∷◌, ◌++◌, length, take, drop, Option, Some, None, refl, sym, ap, ◌∙◌, subst, append_assoc, length-drop, arith}
use Rattle.std.specs.Prelude.{option_map}
use Rattle.std.proofs.lemmas.List.{append-nil}
use Rattle.mdr_outside.specs.Calls.{and_then}
use Rattle.mdr_outside.specs.Count.{Rose}
use Rattle.mdr_outside.specs.declared.sink.SinkAnswer.TheVariants as sinks
use Rattle.mdr_outside.specs.declared.sink.SinkCall.{SinkCall}
use Rattle.mdr_outside.specs.Sides.{SinkSide}
use Rattle.mdr_outside.specs.Sink.{Appends, wrote}
use Rattle.mdr_top.specs.Writing.{Offers, taken_by, taken_in, Adds, IsWritten, IsCutOff, AnyFailed, EndsWhereFailed}

-- ---- parts of a text

take_more : (used n : ℕ) (xs : List ℕ) → used ≤ length xs → take (used + n) xs ≡ take used xs ++ take n (drop used xs)
take_more zero n xs h = ap (λ (m : ℕ). take m xs) (none n)
  where
    none : (m : ℕ) → 0 + m ≡ m
    none m = omega arith
take_more (suc used) n [] h = absurd (omega (arith, h))
take_more (suc used) n (x ∷ xs) h = ap (λ (m : ℕ). take m (x ∷ xs)) (more used n) ∙ ap (λ (ys : List ℕ). x ∷ ys) (take_more used n xs (omega (arith, h)))
  where
    more : (a b : ℕ) → suc a + b ≡ suc (a + b)
    more a b = omega arith

drop_more : (used n : ℕ) (xs : List ℕ) → used ≤ length xs → drop (used + n) xs ≡ drop n (drop used xs)
drop_more zero n xs h = ap (λ (m : ℕ). drop m xs) (none n)
  where
    none : (m : ℕ) → 0 + m ≡ m
    none m = omega arith
drop_more (suc used) n [] h = absurd (omega (arith, h))
drop_more (suc used) n (x ∷ xs) h = ap (λ (m : ℕ). drop m (x ∷ xs)) (more used n) ∙ drop_more used n xs (omega (arith, h))
  where
    more : (a b : ℕ) → suc a + b ≡ suc (a + b)
    more a b = omega arith

take_all : (n : ℕ) (xs : List ℕ) → length xs ≤ n → take n xs ≡ xs
take_all zero [] h = refl
take_all zero (x ∷ xs) h = absurd (omega (arith, h))
take_all (suc n) [] h = refl
take_all (suc n) (x ∷ xs) h = ap (λ (ys : List ℕ). x ∷ ys) (take_all n xs (omega (arith, h)))

drop_all : (n : ℕ) (xs : List ℕ) → length xs ≤ n → drop n xs ≡ []
drop_all zero [] h = refl
drop_all zero (x ∷ xs) h = absurd (omega (arith, h))
drop_all (suc n) [] h = refl
drop_all (suc n) (x ∷ xs) h = drop_all n xs (omega (arith, h))

-- a piece more
pub adds_more : (old mid new : Option (List ℕ)) (text : List ℕ) (used n : ℕ) → used ≤ length text → Adds old mid (take used text) → Appends mid new (drop used text) n → Adds old new (take (used + n) text)
adds_more old mid new text used n within first more = more.told ∙ ap (option_map (λ bytes. bytes ++ take n (drop used text))) first ∙ of old
  where
    of : (o : Option (List ℕ)) → option_map (λ bytes. bytes ++ take n (drop used text)) (option_map (λ bytes. bytes ++ take used text) o) ≡ option_map (λ bytes. bytes ++ take (used + n) text) o
    of None = refl
    of (Some bytes) =
        ap (λ (xs : List ℕ). Some xs) (append_assoc bytes (take used text) (take n (drop used text)) ∙ ap (λ (xs : List ℕ). bytes ++ xs) (sym (take_more used n text within)))

pub still_within : (text : List ℕ) (used n : ℕ) → used < length text → n ≤ length (drop used text) → used + n ≤ length text
still_within text used n h within = omega (arith, h, within, length-drop used text)

some_left : (text : List ℕ) (used : ℕ) → used < length text → 0 < length (drop used text)
some_left text used h = omega (arith, h, length-drop used text)

-- ---- calls

taken_more : (calls : List SinkCall) (call : SinkCall) → taken_in (calls ++ call ∷ []) ≡ taken_in calls + taken_by call.answer
taken_more [] call = omega arith
taken_more (c ∷ calls) call = omega (arith, taken_more calls call)

-- one call more
calls_more : (old now next made : List SinkCall) (call : SinkCall) → now ≡ old ++ made → next ≡ and_then now call → next ≡ old ++ (made ++ call ∷ [])
calls_more old now next made call so more = more ∙ ap (λ (cs : List SinkCall). cs ++ call ∷ []) so ∙ append_assoc old made (call ∷ [])

-- the calls so far took a text up to a place: what is then offered of the rest is offered of the text
pub record OfferedSo (old now : List SinkCall) (text : List ℕ) (used : ℕ) : Type 0 where
  pub made : List SinkCall
  pub called : now ≡ old ++ made
  pub taken : used ≡ taken_in made
  pub goes : (later : List SinkCall) (whole : Bool) → Offers (drop used text) later whole → Offers text (made ++ later) whole

pub offered_none : (old : List SinkCall) (text : List ℕ) → OfferedSo old old text 0
offered_none old text = record { made = []; called = sym (append-nil old); taken = refl; goes = λ later whole h. h }

pub offered_more : (old now next : List SinkCall) (text : List ℕ) (used n : ℕ) → used < length text → n ≤ length (drop used text) → (0 < length (drop used text) → 0 < n) → OfferedSo old now text used
    → next ≡ and_then now (wrote (drop used text) (sinks.Ok n)) → OfferedSo old next text (used + n)
offered_more old now next text used n h within some so more =
    let call : SinkCall = wrote (drop used text) (sinks.Ok n) in
    let before : used ≤ length text = omega (arith, h) in
    let took : taken_in (so.made ++ call ∷ []) ≡ taken_in so.made + n = taken_more so.made call in
    record {
      made = so.made ++ call ∷ [];
      called = calls_more old now next so.made call so.called more;
      taken = omega (arith, so.taken, took);
      goes = λ later whole rest.
          subst (λ (cs : List SinkCall). Offers text cs whole) (sym (append_assoc so.made (call ∷ []) later))
          (so.goes (call ∷ later) whole (Offers.goes (drop used text) n later whole (some (some_left text used h)) within (subst (λ (xs : List ℕ). Offers xs later whole) (drop_more used n text before) rest)));
    }

-- ---- the end

-- nothing is left
pub written_whole : (before after : SinkSide) (text : List ℕ) (used : ℕ) → length text ≤ used → Adds before.written after.written (take used text) → OfferedSo before.calls after.calls text used → IsWritten before after text
written_whole before after text used over adds so = record {
  made = so.made;
  called = so.called;
  offered = subst (λ (cs : List SinkCall). Offers text cs true) (append-nil so.made) (so.goes [] true (subst (λ (xs : List ℕ). Offers xs [] true) (sym (drop_all used text over)) Offers.all));
  adds = subst (λ (xs : List ℕ). Adds before.written after.written xs) (take_all used text over) adds;
}

-- a call fails
pub cut_off : (before after : SinkSide) (written' : Option (List ℕ)) (calls' : List SinkCall) (faults' : ℕ) (text : List ℕ) (used : ℕ) → used < length text → Adds before.written written' (take used text) → before.faults ≤ faults' → OfferedSo before.calls calls' text used
    → after.written ≡ written' → after.calls ≡ and_then calls' (wrote (drop used text) sinks.Failed) → Rose faults' after.faults → IsCutOff before after text
cut_off before after written' calls' faults' text used h adds later so same more rose =
    let call : SinkCall = wrote (drop used text) sinks.Failed in
    let took : taken_in (so.made ++ call ∷ []) ≡ taken_in so.made + 0 = taken_more so.made call in
    let all : used ≡ taken_in (so.made ++ call ∷ []) = omega (arith, so.taken, took) in
    record {
      made = so.made ++ call ∷ [];
      called = calls_more before.calls calls' after.calls so.made call so.called more;
      offered = so.goes (call ∷ []) false (Offers.fails (drop used text) (some_left text used h));
      within = omega (arith, h, all);
      adds = subst (λ (n : ℕ). Adds before.written after.written (take n text)) all (same ∙ adds);
      rose = omega (arith, later, rose);
    }

-- ---- calls that fail

pub offers_last : (text : List ℕ) (made : List SinkCall) (whole : Bool) → Offers text made whole → EndsWhereFailed made
offers_last _ _ _ Offers.all = tt
offers_last _ _ _ (Offers.fails left some) = (λ e. refl, tt)
offers_last _ _ _ (Offers.goes left n later whole some within rest) = (λ e. absurd (taken_not n e), offers_last (drop n left) later whole rest)
  where
    taken_not : (k : ℕ) → sinks.Ok k ≡ sinks.Failed → ⊥
    taken_not k e = Prim.cc

-- where a text is written whole none fails
pub offers_whole : (text : List ℕ) (made : List SinkCall) (whole : Bool) → whole ≡ true → Offers text made whole → AnyFailed made → ⊥
offers_whole _ _ _ e Offers.all any = any
offers_whole _ _ _ e (Offers.fails left some) any = not_whole e
  where
    not_whole : false ≡ true → ⊥
    not_whole q = Prim.cc
offers_whole _ _ _ e (Offers.goes left n later whole some within rest) (inl failed) = taken_not n failed
  where
    taken_not : (k : ℕ) → sinks.Ok k ≡ sinks.Failed → ⊥
    taken_not k q = Prim.cc
offers_whole _ _ _ e (Offers.goes left n later whole some within rest) (inr any) = offers_whole (drop n left) later whole e rest any
