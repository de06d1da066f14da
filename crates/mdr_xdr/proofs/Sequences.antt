-- Readers of one part after the other, and of lists.
use Rattle.std.proofs.Common.{◌≡◌, ℕ, zero, suc, ◌+◌, ◌^◌, ◌<◌, Bool, true, false, cond, List, [], ◌∷◌, ◌++◌, length, Result, Ok, Err, refl, sym, ap, subst, ◌∙◌, append_assoc, arith}
use Rattle.std.specs.List.{flat_map, AllByRecursion}
use Rattle.std.proofs.lemmas.List.{length-append}
use Rattle.std.proofs.lemmas.List.Concat.{flat_map-cons}
use Rattle.mdr_model.specs.declared.message.Fault.{Fault}
use Rattle.mdr_model.specs.Xdr.{Input, Read, ◌>>=◌, four, four_at, listed, items_at, list_at}
use Rattle.mdr_xdr.specs.Bytes.{IsBytes}
use Rattle.mdr_xdr.proofs.Readers.{bind_ok, done, value_is, input_is, from, Takes, Takes-then, IsReader}
use Rattle.mdr_xdr.proofs.Numbers.{four_reader}

-- ---- one part after the other

-- a reader takes some text of which, with the value, Q holds
pub record TakesSome {B : Type 0} (reader : Input → Read B) (Q : List ℕ → B → Type 0) : Type 0 where
  pub takes : (i j : Input) (y : B) → IsBytes i.bytes → reader i ≡ Ok (y, j) → (text : List ℕ) × Takes i text j × Q text y

pub then_takes : {A B : Type 0} {reader : Input → Read A} {text : A → List ℕ} {Fits : A → Type 0} {Q : List ℕ → B → Type 0}
    → (next : A × Input → Read B) → IsReader reader text Fits → ((x : A) → Fits x → TakesSome (λ i. next (x, i)) (λ t y. Q (text x ++ t) y)) → TakesSome (λ i. reader i >>= next) Q
then_takes {A} {B} {reader} {text} {Fits} {Q} next r others = record {
  takes = λ i j y fits e.
      let a = bind_ok (reader i) next (y, j) e in
      let first = r.takes i a.0.1 a.0.0 fits a.1 in
      let second = (others a.0.0 first.1).takes a.0.1 j y first.0.rest a.2 in
      (text a.0.0 ++ second.0, Takes-then i a.0.1 j (text a.0.0) second.0 first.0 second.1, second.2);
}

pub last_takes : {A B : Type 0} {reader : Input → Read A} {text : A → List ℕ} {Fits : A → Type 0} {Q : List ℕ → B → Type 0}
    → (make : A → B) → IsReader reader text Fits → ((x : A) → Fits x → Q (text x) (make x)) → TakesSome (λ i. reader i >>= λ x. Ok (make x.0, x.1)) Q
last_takes {A} {B} {reader} {text} {Fits} {Q} make r is = record {
  takes = λ i j y fits e.
      let a = bind_ok (reader i) (λ x. Ok (make x.0, x.1)) (y, j) e in
      let first = r.takes i a.0.1 a.0.0 fits a.1 in
      let value : make a.0.0 ≡ y = value_is (make a.0.0) y a.0.1 j a.2 in
      let left : a.0.1 ≡ j = input_is (make a.0.0) y a.0.1 j a.2 in
      (text a.0.0, subst (λ (k : Input). Takes i (text a.0.0) k) left first.0, subst (λ (z : B). Q (text a.0.0) z) value (is a.0.0 first.1));
}

-- a reader reads a value where bytes begin with this text
pub record Again {B : Type 0} (reader : Input → Read B) (y : B) (text : List ℕ) : Type 0 where
  pub reads : (at : ℕ) (rest : List ℕ) → reader (from at (text ++ rest)) ≡ Ok (y, from (at + length text) rest)

pub then_again : {A B : Type 0} {reader : Input → Read A} {text : A → List ℕ} {Fits : A → Type 0} {y : B} {more : List ℕ}
    → (next : A × Input → Read B) → IsReader reader text Fits → (x : A) → Fits x → Again (λ i. next (x, i)) y more → Again (λ i. reader i >>= next) y (text x ++ more)
then_again {A} {B} {reader} {text} {Fits} {y} {more} next r x fits others = record {
  reads = λ at rest.
      let regrouped : (text x ++ more) ++ rest ≡ text x ++ (more ++ rest) = append_assoc (text x) more rest in
      let end : at + length (text x) + length more ≡ at + length (text x ++ more) = omega (arith, length-append (text x) more) in
      let first = r.again x at (more ++ rest) fits in
      let second = others.reads (at + length (text x)) rest in
      let read : (reader (from at (text x ++ (more ++ rest))) >>= next) ≡ Ok (y, from (at + length (text x) + length more) rest) = ap (λ (z : Read A). z >>= next) first ∙ second in
      ap (λ (t : List ℕ). reader (from at t) >>= next) regrouped ∙ read ∙ ap (λ (k : ℕ). done y (from k rest)) end;
}

pub last_again : {A B : Type 0} {reader : Input → Read A} {text : A → List ℕ} {Fits : A → Type 0}
    → (make : A → B) → IsReader reader text Fits → (x : A) → Fits x → Again (λ i. reader i >>= λ x. Ok (make x.0, x.1)) (make x) (text x)
last_again {A} {B} {reader} {text} {Fits} make r x fits = record { reads = λ at rest. ap (λ (z : Read A). z >>= λ x. Ok (make x.0, x.1)) (r.again x at rest fits) }

-- a value and its text
pub record IsText {A : Type 0} (text : A → List ℕ) (Fits : A → Type 0) (t : List ℕ) (y : A) : Type 0 where
  pub is : t ≡ text y
  pub fits : Fits y

pub made_reader : {A : Type 0} {reader : Input → Read A} {text : A → List ℕ} {Fits : A → Type 0}
    → TakesSome reader (IsText text Fits) → ((y : A) → Fits y → Again reader y (text y)) → IsReader reader text Fits
made_reader {A} {reader} {text} {Fits} t a = record {
  takes = λ i j x fits e. let s = t.takes i j x fits e in (subst (λ (u : List ℕ). Takes i u j) s.2.is s.1, s.2.fits);
  again = λ x at rest fits. (a x fits).reads at rest;
}

-- ---- lists

items_take : {A : Type 0} {one : Input → Read A} {text : A → List ℕ} {Fits : A → Type 0} → IsReader one text Fits → (n : ℕ) (i j : Input) (xs : List A)
    → IsBytes i.bytes → items_at one n i ≡ Ok (xs, j) → Takes i (flat_map text xs) j × (length xs ≡ n) × AllByRecursion Fits xs
unfolding items_at
items_take {A} {one} {text} {Fits} r zero i j xs fits e =
    subst (λ (p : List A × Input). Takes i (flat_map text p.0) p.1 × (length p.0 ≡ 0) × AllByRecursion Fits p.0) (pair_is e) (record { parts = refl; rest = fits }, refl, tt)
  where
    pair_is : ◌≡◌ {A = Read (List A)} (Ok ([], i)) (Ok (xs, j)) → ◌≡◌ {A = List A × Input} ([], i) (xs, j)
    pair_is h = cc
items_take {A} {one} {text} {Fits} r (suc n) i j xs fits e =
    let a = bind_ok (one i) (λ first. items_at one n first.1 >>= λ others. Ok (first.0 ∷ others.0, others.1)) (xs, j) e in
    let b = bind_ok (items_at one n a.0.1) (λ others. Ok (a.0.0 ∷ others.0, others.1)) (xs, j) a.2 in
    let first = r.takes i a.0.1 a.0.0 fits a.1 in
    let second = items_take r n a.0.1 b.0.1 b.0.0 first.0.rest b.1 in
    let both = Takes-then i a.0.1 b.0.1 (text a.0.0) (flat_map text b.0.0) first.0 second.0 in
    let value : a.0.0 ∷ b.0.0 ≡ xs = value_is (a.0.0 ∷ b.0.0) xs b.0.1 j b.2 in
    let left : b.0.1 ≡ j = input_is (a.0.0 ∷ b.0.0) xs b.0.1 j b.2 in
    let whole : Takes i (flat_map text (a.0.0 ∷ b.0.0)) b.0.1 = rw flat_map-cons both in
    subst (λ (k : Input). Takes i (flat_map text xs) k × (length xs ≡ suc n) × AllByRecursion Fits xs) left
    (subst (λ (ys : List A). Takes i (flat_map text ys) b.0.1 × (length ys ≡ suc n) × AllByRecursion Fits ys) value (whole, ap suc second.1, (first.1, second.2)))

items_again : {A : Type 0} {one : Input → Read A} {text : A → List ℕ} {Fits : A → Type 0} → IsReader one text Fits → (xs : List A) (at : ℕ) (rest : List ℕ)
    → AllByRecursion Fits xs → items_at one (length xs) (from at (flat_map text xs ++ rest)) ≡ Ok (xs, from (at + length (flat_map text xs)) rest)
unfolding items_at
items_again r [] at rest fits = ap (λ (k : ℕ). done [] (from k rest)) (omega arith)
items_again {A} {one} {text} {Fits} r (x ∷ xs) at rest fits =
    let t = text x in
    let ts = flat_map text xs in
    let regrouped : flat_map text (x ∷ xs) ++ rest ≡ t ++ (ts ++ rest) = ap (λ (u : List ℕ). u ++ rest) (flat_map-cons text x xs) ∙ append_assoc t ts rest in
    let end : at + length t + length ts ≡ at + length (flat_map text (x ∷ xs)) = omega (arith, length-append t ts, ap length (flat_map-cons text x xs)) in
    let read : items_at one (suc (length xs)) (from at (t ++ (ts ++ rest))) ≡ Ok (x ∷ xs, from (at + length t + length ts) rest) =
    rw (r.again x at (ts ++ rest) fits.0, items_again r xs (at + length t) rest fits.1) refl in
    ap (λ (u : List ℕ). items_at one (suc (length xs)) (from at u)) regrouped ∙ read ∙ ap (λ (k : ℕ). done (x ∷ xs) (from k rest)) end

abbrev pub FitsList : {A : Type 0} → (A → Type 0) → List A → Type 0
FitsList Fits xs = (length xs < 2 ^ 32) × AllByRecursion Fits xs

list_takes : {A : Type 0} {one : Input → Read A} {text : A → List ℕ} {Fits : A → Type 0} → IsReader one text Fits → (i j : Input) (xs : List A)
    → IsBytes i.bytes → list_at one i ≡ Ok (xs, j) → Takes i (listed text xs) j × FitsList Fits xs
unfolding list_at listed
list_takes {A} {one} {text} {Fits} r i j xs fits e =
    let a = bind_ok (four_at i) (λ n. items_at one n.0 n.1) (xs, j) e in
    let first = four_reader.takes i a.0.1 a.0.0 fits a.1 in
    let second = items_take r a.0.0 a.0.1 j xs first.0.rest a.2 in
    let both = Takes-then i a.0.1 j (four a.0.0) (flat_map text xs) first.0 second.0 in
    (subst (λ (k : ℕ). Takes i (four k ++ flat_map text xs) j) (sym second.1) both, (omega (arith, second.1, first.1), second.2))

list_again : {A : Type 0} {one : Input → Read A} {text : A → List ℕ} {Fits : A → Type 0} → IsReader one text Fits → (xs : List A) (at : ℕ) (rest : List ℕ)
    → FitsList Fits xs → list_at one (from at (listed text xs ++ rest)) ≡ Ok (xs, from (at + length (listed text xs)) rest)
unfolding list_at listed
list_again {A} {one} {text} {Fits} r xs at rest fits =
    let t = four (length xs) in
    let ts = flat_map text xs in
    let regrouped : (t ++ ts) ++ rest ≡ t ++ (ts ++ rest) = append_assoc t ts rest in
    let end : at + length t + length ts ≡ at + length (t ++ ts) = omega (arith, length-append t ts) in
    let read : list_at one (from at (t ++ (ts ++ rest))) ≡ Ok (xs, from (at + length t + length ts) rest) =
    rw (four_reader.again (length xs) at (ts ++ rest) fits.0) (items_again r xs (at + length t) rest fits.1) in
    ap (λ (u : List ℕ). list_at one (from at u)) regrouped ∙ read ∙ ap (λ (k : ℕ). done xs (from k rest)) end

pub list_reader : {A : Type 0} {one : Input → Read A} {text : A → List ℕ} {Fits : A → Type 0} → IsReader one text Fits → IsReader (list_at one) (listed text) (FitsList Fits)
list_reader r = record { takes = λ i j xs fits e. list_takes r i j xs fits e; again = λ xs at rest fits. list_again r xs at rest fits }

-- ---- a choice by what was read first

pub done_takes : {B : Type 0} {Q : List ℕ → B → Type 0} → (y : B) → Q [] y → TakesSome (λ i. Ok (y, i)) Q
done_takes {B} {Q} y is = record {
  takes = λ i j z fits e. ([], record { parts = ap (λ (k : Input). k.bytes) (input_is y z i j e); rest = subst (λ (k : Input). IsBytes k.bytes) (input_is y z i j e) fits }, subst (λ (w : B). Q [] w) (value_is y z i j e) is);
}

pub fault_takes : {B : Type 0} {Q : List ℕ → B → Type 0} → (f : Fault) → TakesSome (λ i. Err f) Q
fault_takes {B} {Q} f = record { takes = λ i j y fits e. absurd (apart f (y, j) e) }
  where
    apart : {C : Type 0} (g : Fault) (x : C) → ◌≡◌ {A = Result C Fault} (Err g) (Ok x) → ⊥
    apart g x e = absurd cc

pub cond_takes : {B : Type 0} {Q : List ℕ → B → Type 0} {one other : Input → Read B} → (b : Bool) → (b ≡ true → TakesSome one Q) → (b ≡ false → TakesSome other Q) → TakesSome (λ i. cond b (one i) (other i)) Q
cond_takes true p q = p refl
cond_takes false p q = q refl

pub chosen_takes : {A B : Type 0} {reader : Input → Read A} {text : A → List ℕ} {Fits : A → Type 0} {Q : List ℕ → B → Type 0}
    → (next : ℕ → A × Input → Read B) → IsReader reader text Fits → ((at : ℕ) (x : A) → Fits x → TakesSome (λ i. next at (x, i)) (λ t y. Q (text x ++ t) y)) → TakesSome (λ i. reader i >>= next i.at) Q
chosen_takes {A} {B} {reader} {text} {Fits} {Q} next r others = record {
  takes = λ i j y fits e.
      let a = bind_ok (reader i) (next i.at) (y, j) e in
      let first = r.takes i a.0.1 a.0.0 fits a.1 in
      let second = (others i.at a.0.0 first.1).takes a.0.1 j y first.0.rest a.2 in
      (text a.0.0 ++ second.0, Takes-then i a.0.1 j (text a.0.0) second.0 first.0 second.1, second.2);
}

pub done_again : {B : Type 0} (y : B) → Again (λ i. Ok (y, i)) y []
done_again y = record { reads = λ at rest. ap (λ (k : ℕ). done y (from k rest)) (omega arith) }

pub chosen_again : {A B : Type 0} {reader : Input → Read A} {text : A → List ℕ} {Fits : A → Type 0} {y : B} {more : List ℕ}
    → (next : ℕ → A × Input → Read B) → IsReader reader text Fits → (x : A) → Fits x → ((at : ℕ) → Again (λ i. next at (x, i)) y more) → Again (λ i. reader i >>= next i.at) y (text x ++ more)
chosen_again {A} {B} {reader} {text} {Fits} {y} {more} next r x fits others = record { reads = λ at rest. (then_again (next at) r x fits (others at)).reads at rest }
