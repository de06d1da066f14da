-- A text is read in one way.
use Rattle.std.proofs.Common.{◌≡◌, ℕ, Bool, true, false, cond, not, ◌+◌, ◌==◌, List, [], ◌∷◌, ◌++◌, Option, Some, None, refl, sym, ap, subst, ◌∙◌, append_assoc}
use Rattle.std.specs.List.{list_all}
use Rattle.std.proofs.lemmas.List.{append-nil}
use Rattle.mdr_core.specs.declared.plan.Plan.{Plan}
use Rattle.mdr_plan.specs.declared.line.Line.{Line}
use Rattle.mdr_plan.specs.declared.reader.Reader.{Reader}
use Rattle.mdr_plan.specs.declared.shape.Shape.{Shape}
use Rattle.mdr_plan.specs.declared.plan_error.PlanKind.{PlanKind}
use Rattle.mdr_plan.specs.declared.plan_error.PlanKind.TheVariants.{Form}
use Rattle.mdr_plan.specs.LineReading.{line_at}
use Rattle.mdr_plan.specs.Shapes.{HasShape, Stands, IsKind}
use Rattle.mdr_plan.specs.Shapes.IsKind.{OfNone, Misplaced, Another}
use Rattle.mdr_plan.specs.Steps.{Reached, IsRefused, after, start}
use Rattle.mdr_plan.specs.Steps.Reached.{Begun, Then}
use Rattle.mdr_plan.specs.Texts.{in_line, IsOneLine, IsPlanText, IsStuck, IsFault, is_done}
use Rattle.mdr_plan.specs.Texts.IsStuck.{Over, Open, Refused}
use Rattle.mdr_plan.proofs.TypesRead.{both}
use Rattle.mdr_plan.proofs.TypesSound.{some_same}
use Rattle.mdr_plan.proofs.LinesAre.{line_is}
use Rattle.mdr_plan.proofs.LinesAgain.{line_again}
use Rattle.mdr_plan.proofs.Forms.{shape_again}
use Rattle.mdr_plan.proofs.Newlines.{IsPlain, all_in, line_plain}

-- what reading all of a text ends in: a plan, or a line that was refused, or the bytes behind the last newline
data Ending : Type 0 where
  Read : Plan → Ending
  Stopped : ℕ → Reader → List ℕ → Ending
  Ended : ℕ → Reader → List ℕ → Ending

abbrev on_line : Option Line → (Line → Ending) → Ending → Ending
on_line (Some l) go stop = go l
on_line None go stop = stop

abbrev at_end : ℕ → Reader → List ℕ → Ending
at_end n r [] = cond (is_done r.stage) (Read r.plan) (Ended n r [])
at_end n r (b ∷ line) = Ended n r (b ∷ line)

-- so many lines were begun, and of the last one these bytes were seen
abbrev run : ℕ → Reader → List ℕ → List ℕ → Ending
run n r line [] = at_end n r line
run n r line (b ∷ bytes) = cond (b == 10) (on_line (line_at r line) (λ l. run (n + 1) (after r l) [] bytes) (Stopped n r line)) (run n r (line ++ b ∷ []) bytes)

no_newline : (b : ℕ) → in_line b ≡ true → (b == 10) ≡ false
no_newline b h = on (b == 10) h
  where
    on : (v : Bool) → not v ≡ true → v ≡ false
    on true q = let n : false ≡ true = q in absurd (Prim.cc)
    on false q = refl

run_line : (n : ℕ) (r : Reader) (seen line more : List ℕ) → IsPlain line → run n r seen (line ++ 10 ∷ more) ≡ on_line (line_at r (seen ++ line)) (λ l. run (n + 1) (after r l) [] more) (Stopped n r (seen ++ line))
run_line n r seen [] more h = ap (λ s. on_line (line_at r s) (λ l. run (n + 1) (after r l) [] more) (Stopped n r s)) (sym (append-nil seen))
run_line n r seen (b ∷ line) more h =
    let a = both (in_line b) (list_all in_line line) h in
    let q : (b == 10) ≡ false = no_newline b a.0 in
    ap (λ v. cond v (on_line (line_at r seen) (λ l. run (n + 1) (after r l) [] (line ++ 10 ∷ more)) (Stopped n r seen)) (run n r (seen ++ b ∷ []) (line ++ 10 ∷ more))) q
    ∙ run_line n r (seen ++ b ∷ []) line more a.1
    ∙ ap (λ s. on_line (line_at r s) (λ l. run (n + 1) (after r l) [] more) (Stopped n r s)) (append_assoc seen (b ∷ []) line)

run_open : (n : ℕ) (r : Reader) (seen line : List ℕ) → IsPlain line → run n r seen line ≡ at_end n r (seen ++ line)
run_open n r seen [] h = ap (at_end n r) (sym (append-nil seen))
run_open n r seen (b ∷ line) h =
    let a = both (in_line b) (list_all in_line line) h in
    let q : (b == 10) ≡ false = no_newline b a.0 in
    ap (λ v. cond v (on_line (line_at r seen) (λ l. run (n + 1) (after r l) [] line) (Stopped n r seen)) (run n r (seen ++ b ∷ []) line)) q
    ∙ run_open n r (seen ++ b ∷ []) line a.1 ∙ ap (at_end n r) (append_assoc seen (b ∷ []) line)

run_reached : (text : List ℕ) (n : ℕ) (r : Reader) → Reached text n r → (more : List ℕ) → run 1 start [] (text ++ more) ≡ run (n + 1) r [] more
run_reached _ _ _ Begun more = refl
run_reached _ _ _ (Then text bytes n r l before reads) more =
    let plain : IsPlain bytes = subst IsPlain reads.same (line_plain r l reads.next) in
    ap (run 1 start []) (append_assoc text (bytes ++ 10 ∷ []) more ∙ ap (λ bs. text ++ bs) (append_assoc bytes (10 ∷ []) more))
    ∙ run_reached text n r before (bytes ++ 10 ∷ more)
    ∙ run_line (n + 1) r [] bytes more plain
    ∙ ap (λ o. on_line o (λ k. run (n + 1 + 1) (after r k) [] more) (Stopped (n + 1) r bytes)) (line_again r bytes l reads)

refused_none : (r : Reader) (line : List ℕ) → IsRefused r line → line_at r line ≡ None
refused_none r line h = on (line_at r line) refl
  where
    on : (o : Option Line) → line_at r line ≡ o → line_at r line ≡ None
    on None e = e
    on (Some l) e = absurd (h l (line_is r line l e))

run_plan : (bytes : List ℕ) (plan : Plan) → IsPlanText bytes plan → run 1 start [] bytes ≡ Read plan
run_plan bytes plan h =
    ap (run 1 start []) (sym (append-nil bytes)) ∙ run_reached bytes h.lines h.reader h.reached []
    ∙ ap (λ v. cond v (Read h.reader.plan) (Ended (h.lines + 1) h.reader [])) h.done ∙ ap Read h.same

-- what reading a text with a fault ends in
data Faulted (bytes : List ℕ) (n : ℕ) (kind : PlanKind) : Type 0 where
  AtLine : (r : Reader) (line : List ℕ) → run 1 start [] bytes ≡ Stopped n r line → IsKind r line kind → Faulted bytes n kind
  AtEnd : (r : Reader) (rest : List ℕ) → run 1 start [] bytes ≡ Ended n r rest → kind ≡ Form → Faulted bytes n kind

one_line : (line : List ℕ) → IsOneLine line → IsPlain line
one_line line h = all_in in_line line h

some_end : (n : ℕ) (r : Reader) (rest : List ℕ) → (rest ≡ [] → ⊥) → at_end n r rest ≡ Ended n r rest
some_end n r [] h = absurd (h refl)
some_end n r (b ∷ rest) h = refl

run_stuck : (bytes : List ℕ) (n : ℕ) (kind : PlanKind) (r : Reader) (rest : List ℕ) → run 1 start [] bytes ≡ run n r [] rest → IsStuck r rest kind → Faulted bytes n kind
run_stuck bytes n _ r rest e (Over over undone) = AtEnd r [] (e ∙ ap (run n r []) over ∙ ap (λ v. cond v (Read r.plan) (Ended n r [])) undone) refl
run_stuck bytes n _ r rest e (Open one some) = AtEnd r rest (e ∙ run_open n r [] rest (one_line rest one) ∙ some_end n r rest some) refl
run_stuck bytes n _ r rest e (Refused line more kind whole one refused is) =
    AtLine r line (e ∙ ap (run n r []) whole ∙ run_line n r [] line more (one_line line one) ∙ ap (λ o. on_line o (λ l. run (n + 1) (after r l) [] more) (Stopped n r line)) (refused_none r line refused)) is

run_fault : (bytes : List ℕ) (n : ℕ) (kind : PlanKind) → IsFault bytes n kind → Faulted bytes n kind
run_fault bytes n kind h =
    let p = h.progress in
    run_stuck bytes n kind h.reader h.rest (ap (run 1 start []) p.split ∙ run_reached p.before p.lines h.reader p.reached h.rest ∙ ap (λ m. run m h.reader [] h.rest) (sym p.count)) h.stuck

shape_once : (bytes : List ℕ) (s t : Shape) → HasShape bytes s → HasShape bytes t → s ≡ t
shape_once bytes s t h k = some_same s t (sym (shape_again bytes s h) ∙ shape_again bytes t k)

kind_once : (r : Reader) (line : List ℕ) (k j : PlanKind) → IsKind r line k → IsKind r line j → k ≡ j
kind_once r line _ _ (OfNone f) (OfNone g) = refl
kind_once r line _ _ (OfNone f) (Misplaced s h x) = absurd (f s h)
kind_once r line _ _ (OfNone f) (Another s h x) = absurd (f s h)
kind_once r line _ _ (Misplaced s h x) (OfNone f) = absurd (f s h)
kind_once r line _ _ (Misplaced s h x) (Misplaced t g y) = refl
kind_once r line _ _ (Misplaced s h x) (Another t g y) = absurd (x (subst (Stands r) (shape_once line t s g h) y))
kind_once r line _ _ (Another s h x) (OfNone f) = absurd (f s h)
kind_once r line _ _ (Another s h x) (Misplaced t g y) = absurd (y (subst (Stands r) (shape_once line s t h g) x))
kind_once r line _ _ (Another s h x) (Another t g y) = refl

-- ---- one reading

pub plan_once : (bytes : List ℕ) (plan other : Plan) → IsPlanText bytes plan → IsPlanText bytes other → plan ≡ other
plan_once bytes plan other h k = let e : Read plan ≡ Read other = sym (run_plan bytes plan h) ∙ run_plan bytes other k in cc

no_fault_by : (bytes : List ℕ) (plan : Plan) (n : ℕ) (kind : PlanKind) → run 1 start [] bytes ≡ Read plan → Faulted bytes n kind → ⊥
no_fault_by bytes plan n kind e (AtLine r line f is) = let q : Read plan ≡ Stopped n r line = sym e ∙ f in Prim.cc
no_fault_by bytes plan n kind e (AtEnd r rest f is) = let q : Read plan ≡ Ended n r rest = sym e ∙ f in Prim.cc

pub no_fault : (bytes : List ℕ) (plan : Plan) (n : ℕ) (kind : PlanKind) → IsPlanText bytes plan → IsFault bytes n kind → ⊥
no_fault bytes plan n kind h k = no_fault_by bytes plan n kind (run_plan bytes plan h) (run_fault bytes n kind k)

fault_once_by : (bytes : List ℕ) (n m : ℕ) (k j : PlanKind) → Faulted bytes n k → Faulted bytes m j → (n ≡ m) × (k ≡ j)
fault_once_by bytes n m k j (AtLine r line e is) (AtLine s other f us) =
    let q : Stopped n r line ≡ Stopped m s other = sym e ∙ f in
    let a : n ≡ m = cc in let b : r ≡ s = cc in let c : line ≡ other = cc in
    (a, kind_once s other k j (subst (λ (v : Reader). IsKind v other k) b (subst (λ l. IsKind r l k) c is)) us)
fault_once_by bytes n m k j (AtLine r line e is) (AtEnd s rest f us) = let q : Stopped n r line ≡ Ended m s rest = sym e ∙ f in absurd (Prim.cc)
fault_once_by bytes n m k j (AtEnd r rest e is) (AtLine s line f us) = let q : Ended n r rest ≡ Stopped m s line = sym e ∙ f in absurd (Prim.cc)
fault_once_by bytes n m k j (AtEnd r rest e is) (AtEnd s other f us) = let q : Ended n r rest ≡ Ended m s other = sym e ∙ f in let a : n ≡ m = cc in (a, is ∙ sym us)

pub fault_once : (bytes : List ℕ) (n m : ℕ) (k j : PlanKind) → IsFault bytes n k → IsFault bytes m j → (n ≡ m) × (k ≡ j)
fault_once bytes n m k j h g = fault_once_by bytes n m k j (run_fault bytes n k h) (run_fault bytes m j g)

pub not_continued : (text : List ℕ) (n : ℕ) (r : Reader) (line more : List ℕ) (plan : Plan) → Reached text n r → IsOneLine line → IsRefused r line → IsPlanText (text ++ (line ++ 10 ∷ more)) plan → ⊥
not_continued text n r line more plan reached one refused h =
    let e : Stopped (n + 1) r line ≡ Read plan =
    sym (run_reached text n r reached (line ++ 10 ∷ more) ∙ run_line (n + 1) r [] line more (one_line line one) ∙ ap (λ o. on_line o (λ l. run (n + 1 + 1) (after r l) [] more) (Stopped (n + 1) r line)) (refused_none r line refused))
    ∙ run_plan (text ++ (line ++ 10 ∷ more)) plan h in
    Prim.cc
