-- Each text of lines goes on to a plan's.
use Rattle.std.proofs.Common.{◌≡◌, ℕ, zero, suc, Bool, true, false, ◌&&◌, ◌+◌, ◌-◌, ◌^◌, ◌<◌, ◌≤◌, ltb, List, [], ◌∷◌, ◌++◌, length, drop, IsTrue, nat_lt, nat_le, refl, sym, subst, arith, append_assoc, length-append}
use Rattle.std.specs.List.{list_all}
use Rattle.std.proofs.lemmas.Bool.Decides.{Decides-ltb, not_from_Decides}
use Rattle.std.proofs.lemmas.List.{length-drop}
use Rattle.mdr_core.specs.declared.plan.Half.{Half}
use Rattle.mdr_plan.specs.declared.line.Line.{Line}
use Rattle.mdr_plan.specs.declared.line.Line.TheVariants as line
use Rattle.mdr_plan.specs.declared.line.Stage.{Stage}
use Rattle.mdr_plan.specs.declared.line.Stage.TheVariants as stage
use Rattle.mdr_plan.specs.declared.reader.Reader.{Reader}
use Rattle.mdr_plan.specs.Lines.{begins, takes_types, takes_functions, takes_downs, takes_ups, ends, is_kernel, line_text, IsNext}
use Rattle.mdr_plan.specs.Steps.{Reached, after, first_type}
use Rattle.mdr_plan.specs.Steps.Reached.{Begun, Then}
use Rattle.mdr_plan.specs.Texts.{IsPlanText, GoesOn, is_done}
use Rattle.mdr_plan.proofs.TypesRead.{both}
use Rattle.mdr_plan.proofs.Standings.{both_true, less, is_less, no, next_up, kept}

abbrev before_functions : Stage → Bool
before_functions stage.Start = true
before_functions stage.Types = true
before_functions _ = false

-- functions come behind nine types
record Grown (r : Reader) : Type 0 where
  early : IsTrue (before_functions r.stage) → r.plan.halves ≡ []
  nine : IsTrue (takes_ups r.stage) → 8 < length r.plan.types

begun : (s : Stage) → IsTrue (begins s) → IsTrue (before_functions s)
begun stage.Start b = refl
begun stage.Types b = no b
begun stage.Functions b = no b
begun stage.Downs b = no b
begun stage.Ups b = no b
begun stage.Done b = no b

downs_then_ups : (s : Stage) → IsTrue (takes_downs s) → IsTrue (takes_ups s)
downs_then_ups stage.Start b = no b
downs_then_ups stage.Types b = no b
downs_then_ups stage.Functions b = refl
downs_then_ups stage.Downs b = refl
downs_then_ups stage.Ups b = no b
downs_then_ups stage.Done b = no b

more_types : {A : Type 0} (ts : List A) (t : A) → 8 < length ts → 8 < length (ts ++ t ∷ [])
more_types ts t lt = let e = length-append ts (t ∷ []) in omega (arith, e, lt)

grown_line : (r : Reader) (l : Line) → Grown r → IsNext r l → Grown (after r l)
grown_line r line.Heading g h = record { early = λ q. g.early (begun r.stage h); nine = λ q. no q }
grown_line r line.First g h = record { early = g.early; nine = λ q. more_types r.plan.types _ (g.nine q) }
grown_line r (line.Struct name) g h = record { early = g.early; nine = λ q. more_types r.plan.types _ (g.nine q) }
grown_line r (line.Type ty text) g h = record { early = g.early; nine = λ q. more_types r.plan.types _ (g.nine q) }
grown_line r (line.Function name half is_root) g h =
    let a = both (takes_functions r.stage && nat_lt 8 (length r.plan.types)) _ h in
    let b = both (takes_functions r.stage) (nat_lt 8 (length r.plan.types)) a.0 in
    record { early = λ q. no q; nine = λ q. less 8 (length r.plan.types) b.1 }
grown_line r (line.Down k) g h =
    let a = both (takes_downs r.stage && nat_le r.low k) (nat_lt k (length r.plan.down)) h.0 in
    let b = both (takes_downs r.stage) (nat_le r.low k) a.0 in
    record { early = λ q. no q; nine = λ q. g.nine (downs_then_ups r.stage b.0) }
grown_line r (line.Up k) g h = record { early = λ q. no q; nine = λ q. g.nine (both (takes_ups r.stage) _ h.0).0 }
grown_line r (line.Key key) g h = record { early = g.early; nine = g.nine }
grown_line r line.End g h = record { early = λ q. no q; nine = λ q. no q }

grown : (text : List ℕ) (n : ℕ) (r : Reader) → Reached text n r → Grown r
grown _ _ _ Begun = record { early = λ q. refl; nine = λ q. no q }
grown _ _ _ (Then text bytes n r l before reads) = grown_line r l (grown text n r before) reads.next

-- ---- lines more

abbrev longer : List ℕ → Reader → Line → List ℕ
longer text r l = text ++ (line_text r l ++ 10 ∷ [])

step : (text : List ℕ) (n : ℕ) (r : Reader) (l : Line) → Reached text n r → IsNext r l → Reached (longer text r l) (n + 1) (after r l)
step text n r l reached next = Then text (line_text r l) n r l reached (record { next = next; same = refl })

back : (text : List ℕ) (r : Reader) (l : Line) → GoesOn (longer text r l) → GoesOn text
back text r l g = record { rest = (line_text r l ++ 10 ∷ []) ++ g.rest; plan = g.plan; is = subst (λ bs. IsPlanText bs g.plan) (append_assoc text (line_text r l ++ 10 ∷ []) g.rest) g.is }

ended : (text : List ℕ) (n : ℕ) (r : Reader) → Reached text n r → IsNext r line.End → GoesOn text
ended text n r reached next = record { rest = line_text r line.End ++ 10 ∷ []; plan = r.plan; is = record { lines = n + 1; reader = after r line.End; reached = step text n r line.End reached next; done = refl; same = refl } }

-- what is so where `up` lines and `end` may come
record Rises (r : Reader) : Type 0 where
  takes : IsTrue (takes_ups r.stage)
  ends : IsTrue (ends r.stage)
  nine : 8 < length r.plan.types
  small : length r.plan.halves < 2 ^ 64

end_next : (r : Reader) → IsTrue (ends r.stage) → 8 < length r.plan.types → IsTrue (list_all is_kernel (drop r.ups r.plan.halves)) → IsNext r line.End
end_next r e nine all = both_true (ends r.stage && nat_lt 8 (length r.plan.types)) _ (both_true (ends r.stage) _ e (is_less 8 (length r.plan.types) nine)) all

rises_on : (r : Reader) (k : ℕ) → Rises r → Rises (after r (line.Up k))
rises_on r k s = record { takes = refl; ends = refl; nine = s.nine; small = s.small }

ups_close : (m : ℕ) (text : List ℕ) (n : ℕ) (r : Reader) → Reached text n r → Rises r → length r.plan.halves - r.ups ≤ m → GoesOn text
ups_close zero text n r reached s le = ended text n r reached (end_next r s.ends s.nine (none_left (drop r.ups r.plan.halves) (let e = length-drop r.ups r.plan.halves in omega (arith, e, le))))
  where
    none_left : (hs : List Half) → length hs ≤ 0 → IsTrue (list_all is_kernel hs)
    none_left [] le = refl
    none_left (h ∷ hs) le = absurd (omega (arith, le))
ups_close (suc m) text n r reached s le = on (list_all is_kernel (drop r.ups r.plan.halves)) refl (λ bs i q. ups_close m bs i q)
  where
    on : (v : Bool) → list_all is_kernel (drop r.ups r.plan.halves) ≡ v → ((bs : List ℕ) (i : ℕ) (q : Reader) → Reached bs i q → Rises q → length q.plan.halves - q.ups ≤ m → GoesOn bs) → GoesOn text
    on true e go = ended text n r reached (end_next r s.ends s.nine e)
    on false e go =
        let up = next_up r s.small s.takes e in
        let a = up.le in let b = up.inside in
        back text r (line.Up up.k) (go (longer text r (line.Up up.k)) (n + 1) (after r (line.Up up.k)) (step text n r (line.Up up.k) reached up.next) (rises_on r up.k s) (omega (arith, a, b, le)))

types_done : (text : List ℕ) (n : ℕ) (r : Reader) → Reached text n r → r.stage ≡ stage.Types → 9 ≤ length r.plan.types → GoesOn text
types_done text n r reached is le =
    let none : r.plan.halves ≡ [] = (grown text n r reached).early (subst (λ s. IsTrue (before_functions s)) (sym is) refl) in
    ended text n r reached (end_next r (subst (λ s. IsTrue (ends s)) (sym is) refl) (omega (arith, le)) (subst (λ hs. IsTrue (list_all is_kernel (drop r.ups hs))) (sym none) (dropped r.ups)))
  where
    dropped : (n : ℕ) → IsTrue (list_all is_kernel (drop n []))
    dropped zero = refl
    dropped (suc n) = refl

first_next : (r : Reader) → r.stage ≡ stage.Types → length r.plan.types < 9 → IsNext r line.First
first_next r is lt = both_true (takes_types r.stage) (nat_lt (length r.plan.types) 9) (subst (λ s. IsTrue (takes_types s)) (sym is) refl) (is_less (length r.plan.types) 9 lt)

types_close : (m : ℕ) (text : List ℕ) (n : ℕ) (r : Reader) → Reached text n r → r.stage ≡ stage.Types → 9 ≤ length r.plan.types + m → GoesOn text
types_close zero text n r reached is le = types_done text n r reached is (omega (arith, le))
types_close (suc m) text n r reached is le = on (ltb (length r.plan.types) 9) refl (λ bs i q. types_close m bs i q)
  where
    on : (v : Bool) → ltb (length r.plan.types) 9 ≡ v → ((bs : List ℕ) (i : ℕ) (q : Reader) → Reached bs i q → q.stage ≡ stage.Types → 9 ≤ length q.plan.types + m → GoesOn bs) → GoesOn text
    on true e go =
        let next = first_next r is (less (length r.plan.types) 9 e) in
        let a = length-append r.plan.types (first_type (length r.plan.types) ∷ []) in
        back text r line.First (go (longer text r line.First) (n + 1) (after r line.First) (step text n r line.First reached next) is (omega (arith, a, le)))
    on false e go = let b = not_from_Decides (ltb (length r.plan.types) 9) (Decides-ltb (length r.plan.types) 9) e in types_done text n r reached is (omega (arith, b))

lines_fit : (text : List ℕ) (n : ℕ) (r : Reader) → Reached text n r → n ≤ length text
lines_fit _ _ _ Begun = omega arith
lines_fit _ _ _ (Then text bytes n r l before reads) =
    let h = lines_fit text n r before in
    let a = length-append text (bytes ++ 10 ∷ []) in
    let b = length-append bytes (10 ∷ []) in
    omega (arith, h, a, b)

rises : (text : List ℕ) (n : ℕ) (r : Reader) → Reached text n r → n < 2 ^ 64 → IsTrue (takes_ups r.stage) → IsTrue (ends r.stage) → Rises r
rises text n r reached lt t e = record { takes = t; ends = e; nine = (grown text n r reached).nine t; small = let h = (kept text n r reached).halves in omega (arith, h, lt) }

closes_by : (s : Stage) (text : List ℕ) (n : ℕ) (r : Reader) → Reached text n r → n < 2 ^ 64 → r.stage ≡ s → is_done s ≡ false → GoesOn text
closes_by stage.Start text n r reached lt is d =
    let next : IsNext r line.Heading = subst (λ s. IsTrue (begins s)) (sym is) refl in
    back text r line.Heading (types_close 9 (longer text r line.Heading) (n + 1) (after r line.Heading) (step text n r line.Heading reached next) refl (omega arith))
closes_by stage.Types text n r reached lt is d = types_close 9 text n r reached is (omega arith)
closes_by stage.Functions text n r reached lt is d = ups_close (length r.plan.halves) text n r reached (rises text n r reached lt (subst (λ s. IsTrue (takes_ups s)) (sym is) refl) (subst (λ s. IsTrue (ends s)) (sym is) refl)) (omega arith)
closes_by stage.Downs text n r reached lt is d = ups_close (length r.plan.halves) text n r reached (rises text n r reached lt (subst (λ s. IsTrue (takes_ups s)) (sym is) refl) (subst (λ s. IsTrue (ends s)) (sym is) refl)) (omega arith)
closes_by stage.Ups text n r reached lt is d = ups_close (length r.plan.halves) text n r reached (rises text n r reached lt (subst (λ s. IsTrue (takes_ups s)) (sym is) refl) (subst (λ s. IsTrue (ends s)) (sym is) refl)) (omega arith)
closes_by stage.Done text n r reached lt is d = let q : true ≡ false = d in absurd (Prim.cc)

pub closes : (text : List ℕ) (n : ℕ) (r : Reader) → Reached text n r → length text < 2 ^ 64 → is_done r.stage ≡ false → GoesOn text
closes text n r reached lt d = let h = lines_fit text n r reached in closes_by r.stage text n r reached (omega (arith, h, lt)) refl d
