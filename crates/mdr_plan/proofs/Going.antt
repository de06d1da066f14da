-- Going from line to line.
use Rattle.std.proofs.Common.{◌≡◌, ℕ, suc, Bool, true, false, ◌==◌, ◌+◌, ◌≤◌, ◌<◌, ◌^◌, List, [], ◌∷◌, ◌++◌, length, get_or, take, drop, Result, Ok, Err, refl, sym, ap, subst, ◌∙◌, arith, append_assoc, length-append, drop-cons}
use Rattle.std.specs.List.{prefix_len}
use Rattle.std.proofs.lemmas.Bool.Decides.{Decides-eqb}
use Rattle.std.proofs.lemmas.List.{append-nil, take-append-drop}
use Rattle.std.proofs.lemmas.List.Folds.{length-prefix_len}
use Rattle.std.proofs.lemmas.List.Sums.{prefix_len_stops}
use Rattle.mdr_core.specs.declared.plan.Plan.{Plan}
use Rattle.mdr_plan.specs.declared.reader.Reader.{Reader}
use Rattle.mdr_plan.specs.declared.plan_error.PlanError.{PlanError}
use Rattle.mdr_plan.specs.declared.plan_error.PlanError.TheVariants.{Line, OutOfMemory}
use Rattle.mdr_plan.specs.Steps.{Reached, IsRefused, Stepped, start}
use Rattle.mdr_plan.specs.Steps.Reached.{Begun, Then}
use Rattle.mdr_plan.specs.declared.plan_error.PlanKind.{PlanKind}
use Rattle.mdr_plan.specs.declared.plan_error.PlanKind.TheVariants.{Form}
use Rattle.mdr_plan.specs.Shapes.{IsKind}
use Rattle.mdr_plan.specs.Standing.{IsRefusal}
use Rattle.mdr_plan.specs.Texts.{in_line, IsOneLine, Progress, IsStuck, IsFault, Fails, Plans, Ends}
use Rattle.mdr_plan.specs.Texts.IsStuck.{Over, Open, Refused}
use Rattle.mdr_plan.proofs.Standings.{kind_is}

-- the first line, and what stands behind its newline
pub record IsSplit (bytes line rest : List ℕ) : Type 0 where
  pub whole : bytes ≡ line ++ 10 ∷ rest
  pub one : IsOneLine line

newline_is : (b : ℕ) → in_line b ≡ false → b ≡ 10
newline_is b e = on (b == 10) refl
  where
    on : (v : Bool) → (b == 10) ≡ v → b ≡ 10
    on true q = (Decides-eqb b 10).0 q
    on false q = let n : true ≡ false = rw q at e in absurd (Prim.cc)

front_whole : (bytes : List ℕ) → prefix_len in_line (take (prefix_len in_line bytes) bytes) ≡ prefix_len in_line bytes
front_whole [] = refl
front_whole (b ∷ bytes) = on (b == 10) (front_whole bytes) refl
  where
    on : (t : Bool) → prefix_len in_line (take (prefix_len in_line bytes) bytes) ≡ prefix_len in_line bytes → (b == 10) ≡ t → prefix_len in_line (take (prefix_len in_line (b ∷ bytes)) (b ∷ bytes)) ≡ prefix_len in_line (b ∷ bytes)
    on false h q = let s : 1 + prefix_len in_line bytes ≡ suc (prefix_len in_line bytes) = omega arith in rw (q, s, q, h) s
    on true h q = rw q refl

pub split_is : (bytes : List ℕ) → prefix_len in_line bytes < length bytes → IsSplit bytes (take (prefix_len in_line bytes) bytes) (drop (1 + prefix_len in_line bytes) bytes)
split_is bytes lt =
    let n = prefix_len in_line bytes in
    let ten : get_or bytes n 0 ≡ 10 = newline_is (get_or bytes n 0) (prefix_len_stops in_line bytes 0 lt) in
    let s : 1 + n ≡ suc n = omega arith in
    record {
      whole = sym (take-append-drop n bytes) ∙ ap (λ r. take n bytes ++ r) (drop-cons bytes n 0 lt ∙ ap (λ c. c ∷ drop (suc n) bytes) ten ∙ ap (λ m. 10 ∷ drop m bytes) (sym s));
      one = front_whole bytes ∙ sym (length-prefix_len in_line bytes);
    }

-- ---- reading

pub begins : (bytes : List ℕ) → Progress bytes bytes 1 start
begins bytes = record { before = []; lines = 0; split = refl; reached = Begun; count = refl }

pub goes : (bytes rest line more : List ℕ) (number : ℕ) (old new : Reader) → Progress bytes rest number old → IsSplit rest line more → Stepped old line new → Progress bytes more (number + 1) new
goes bytes rest line more number old new p s h = record {
  before = p.before ++ (line ++ 10 ∷ []);
  lines = p.lines + 1;
  split = p.split ∙ ap (λ bs. p.before ++ bs) (s.whole ∙ sym (append_assoc line (10 ∷ []) more)) ∙ sym (append_assoc p.before (line ++ 10 ∷ []) more);
  reached = subst (λ r. Reached (p.before ++ (line ++ 10 ∷ [])) (p.lines + 1) r) (sym h.same) (Then p.before line p.lines old h.line p.reached h.reads);
  count = ap (λ n. n + 1) p.count;
}

pub refused : (bytes rest line more : List ℕ) (number : ℕ) (kind : PlanKind) (r : Reader) → Progress bytes rest number r → IsSplit rest line more → IsRefused r line → IsKind r line kind → IsFault bytes number kind
refused bytes rest line more number kind r p s h k = record { rest = rest; reader = r; progress = p; stuck = Refused line more kind s.whole s.one h k }

pub open_line : (bytes rest : List ℕ) (number : ℕ) (r : Reader) → Progress bytes rest number r → IsOneLine rest → (rest ≡ [] → ⊥) → IsFault bytes number Form
open_line bytes rest number r p one some = record { rest = rest; reader = r; progress = p; stuck = Open one some }

pub finished : (bytes rest : List ℕ) (number : ℕ) (r : Reader) (result : Result Plan PlanError) → Progress bytes rest number r → rest ≡ [] → Ends r number result → Plans bytes result
finished bytes rest number r (Ok plan) p e h = record { lines = p.lines; reader = r; reached = subst (λ bs. Reached bs p.lines r) (sym (p.split ∙ ap (λ bs. p.before ++ bs) e ∙ append-nil p.before)) p.reached; done = h.0; same = sym h.1 }
finished bytes rest number r (Err (Line n kind)) p e h = let q : n ≡ number = cc in let k : kind ≡ Form = cc in record { rest = rest; reader = r; progress = subst (λ m. Progress bytes rest m r) (sym q) p; stuck = subst (IsStuck r rest) (sym k) (Over e h.0) }
finished bytes rest number r (Err OutOfMemory) p e h = tt

-- ---- as the code splits lines

pub record IsCut (rest line more : List ℕ) : Type 0 where
  pub front : line ≡ take (prefix_len in_line rest) rest
  pub behind : more ≡ drop (1 + prefix_len in_line rest) rest
  pub newline : prefix_len in_line rest < length rest

split_of : (rest line more : List ℕ) → IsCut rest line more → IsSplit rest line more
split_of rest line more c =
    let s = split_is rest c.newline in
    subst (λ m. IsSplit rest line m) (sym c.behind) (subst (λ l. IsSplit rest l (drop (1 + prefix_len in_line rest) rest)) (sym c.front) s)

pub goes_by : (bytes rest line more : List ℕ) (number : ℕ) (old new : Reader) → Progress bytes rest number old → IsCut rest line more → Stepped old line new → Progress bytes more (number + 1) new
goes_by bytes rest line more number old new p c h = goes bytes rest line more number old new p (split_of rest line more c) h

pub refused_by : (bytes rest line more : List ℕ) (number : ℕ) (r : Reader) (e : PlanError) → Progress bytes rest number r → number < 2 ^ 64 → IsCut rest line more → IsRefused r line → IsRefusal r line number e → Fails e bytes
refused_by bytes rest line more number r (Line n kind) p lt c h e =
    let small : p.lines < 2 ^ 64 = let q = p.count in omega (arith, q, lt) in
    let is : IsKind r line kind = subst (IsKind r line) (sym e.1) (kind_is p.before line p.lines r p.reached small) in
    subst (λ m. IsFault bytes m kind) (sym e.0) (refused bytes rest line more number kind r p (split_of rest line more c) h is)
refused_by bytes rest line more number r OutOfMemory p lt c h e = tt

pub few_by : (rest line more : List ℕ) (number total : ℕ) → IsCut rest line more → number + length rest ≤ total → number + 1 + length more ≤ total
few_by rest line more number total c le =
    let s = split_of rest line more c in
    let e : length rest ≡ length line + length (10 ∷ more) = ap length s.whole ∙ length-append line (10 ∷ more) in
    let f : length (10 ∷ more) ≡ 1 + length more = omega arith in
    omega (arith, e, f, le)

pub none_left : (rest : List ℕ) (b : Bool) → b ≡ (length rest == 0) → b ≡ true → rest ≡ []
none_left [] b e q = refl
none_left (x ∷ rest) b e q = let n : length (x ∷ rest) ≡ 0 = (Decides-eqb (length (x ∷ rest)) 0).0 (sym e ∙ q) in absurd (omega (arith, n))
