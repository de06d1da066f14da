-- Reading a script line by line.
use Rattle.std.proofs.Common.{◌≡◌, ℕ, suc, Bool, true, false, ltb, Option, Some, None, Result, Ok, Err, ◌+◌, ◌<◌, ◌≤◌, ◌&&◌, List, [], ◌∷◌, length, take, drop, refl, sym, ap, ◌∙◌, arith}
use Rattle.std.specs.Prelude.{◌==◌}
use Rattle.std.specs.List.{prefix_len}
use Rattle.std.proofs.lemmas.Bool.{ltb-false}
use Rattle.mdr_syntax.specs.Bytes.{in_line}
use Rattle.mdr_script.specs.declared.line.Line.{Line}
use Rattle.mdr_script.specs.declared.script.Script.{Script}
use Rattle.mdr_script.specs.declared.script_error.ScriptKind.{ScriptKind}
use Rattle.mdr_script.specs.declared.script_error.ScriptKind.TheVariants.{Order, Limit}
use Rattle.mdr_script.specs.declared.script_error.ScriptError.{ScriptError}
use Rattle.mdr_script.specs.declared.script_error.ScriptError.TheVariants as error
use Rattle.mdr_script.specs.Lines.{line_at}
use Rattle.mdr_script.specs.Scripts.{with_byte, lines_of, is_setup, is_past, has_commands, placed, judged_by, judged, and_then, script_from, script_of, empty_script, Told, Placed}

-- ---- lines

joined : (b n : ℕ) (bytes : List ℕ) → with_byte b (take n bytes ∷ lines_of (drop (1 + n) bytes)) ≡ take (1 + n) (b ∷ bytes) ∷ lines_of (drop (1 + (1 + n)) (b ∷ bytes))
joined b n bytes =
    let s : 1 + n ≡ suc n = omega arith in
    let t : 1 + suc n ≡ suc (suc n) = omega arith in
    rw (s, t) refl

lines_first : (b : ℕ) (bytes : List ℕ) (t : Bool) → (b == 10) ≡ t → lines_of (b ∷ bytes) ≡ take (prefix_len in_line (b ∷ bytes)) (b ∷ bytes) ∷ lines_of (drop (1 + prefix_len in_line (b ∷ bytes)) (b ∷ bytes))
lines_first b bytes true e = rw e refl
lines_first b [] false e = rw e refl
lines_first b (c ∷ cs) false e = rw e (ap (with_byte b) (lines_first c cs (c == 10) refl) ∙ joined b (prefix_len in_line (c ∷ cs)) (c ∷ cs))

-- the first line, and the lines behind it
pub line_step : (n : ℕ) (s : Script) (rest line after : List ℕ) → 0 < length rest → line ≡ take (prefix_len in_line rest) rest → after ≡ drop (1 + prefix_len in_line rest) rest
    → script_from n s (lines_of rest) ≡ and_then n (judged n s line) (λ t. script_from (n + 1) t (lines_of after))
line_step n s [] line after h e f = absurd (omega arith)
line_step n s (b ∷ bytes) line after h e f = ap (script_from n s) (lines_first b bytes (b == 10) refl) ∙ rw (sym e, sym f) refl

-- a line that was read is none past the last
few_by : (n : ℕ) (s t : Script) (l : Line) (v w : Bool) → (is_setup l && has_commands s) ≡ v → ltb 10000 n ≡ w → placed n s l ≡ Ok t → n ≤ 10000
unfolding placed is_past
few_by n s t l true w p q e = let m : Err Order ≡ Ok t = rw p at e in absurd (Prim.cc)
few_by n s t l false true p q e = let m : Err Limit ≡ Ok t = rw (p, q) at e in absurd (Prim.cc)
few_by n s t l false false p q e = ltb-false 10000 n q

few_placed : (n : ℕ) (s t : Script) (l : Line) → placed n s l ≡ Ok t → n ≤ 10000
few_placed n s t l e = few_by n s t l (is_setup l && has_commands s) (ltb 10000 n) refl refl e

few_judged : (n : ℕ) (s t : Script) (o p : Option Line) → judged_by n s o p ≡ Ok t → n ≤ 10000
few_judged n s t (Some l) p e = few_placed n s t l e
few_judged n s t None (Some l) e = absurd (Prim.cc)
few_judged n s t None None e = absurd (Prim.cc)

pub few : (n : ℕ) (s t : Script) (bytes : List ℕ) → judged n s bytes ≡ Ok t → n ≤ 10000
unfolding judged
few n s t bytes e = few_judged n s t (line_at false bytes) (line_at true bytes) e

-- ---- what the loop keeps

pub on_line : (n : ℕ) (s t : Script) (rest line after : List ℕ) (whole : Result Script (ℕ × ScriptKind)) → 0 < length rest → line ≡ take (prefix_len in_line rest) rest → after ≡ drop (1 + prefix_len in_line rest) rest
    → judged n s line ≡ Ok t → script_from n s (lines_of rest) ≡ whole → script_from (n + 1) t (lines_of after) ≡ whole
on_line n s t rest line after whole h e f j so_far = sym (line_step n s rest line after h e f ∙ ap (λ r. and_then n r (λ u. script_from (n + 1) u (lines_of after))) j) ∙ so_far

pub on_fault : (n : ℕ) (s : Script) (kind : ScriptKind) (rest line after : List ℕ) (whole : Result Script (ℕ × ScriptKind)) → 0 < length rest → line ≡ take (prefix_len in_line rest) rest → after ≡ drop (1 + prefix_len in_line rest) rest
    → judged n s line ≡ Err kind → script_from n s (lines_of rest) ≡ whole → whole ≡ Err (n, kind)
on_fault n s kind rest line after whole h e f j so_far = sym so_far ∙ line_step n s rest line after h e f ∙ ap (λ r. and_then n r (λ u. script_from (n + 1) u (lines_of after))) j

pub at_end : (n : ℕ) (s : Script) (rest : List ℕ) (whole : Result Script (ℕ × ScriptKind)) → length rest ≤ 0 → script_from n s (lines_of rest) ≡ whole → whole ≡ Ok s
at_end n s [] whole none so_far = sym so_far
at_end n s (b ∷ rest) whole none so_far = absurd (omega arith)

pub begins : (bytes : List ℕ) (s : Script) → s ≡ empty_script → script_from 1 s (lines_of bytes) ≡ script_of bytes
unfolding script_of
begins bytes s e = ap (λ (t : Script). script_from 1 t (lines_of bytes)) e

abbrev failed : {A : Type 0} → ScriptError → Result A ScriptError
failed e = Err e

pub fault_of : (n : ℕ) (s new : Script) (e : ScriptError) (rest line after : List ℕ) (whole : Result Script (ℕ × ScriptKind)) → 0 < length rest → line ≡ take (prefix_len in_line rest) rest → after ≡ drop (1 + prefix_len in_line rest) rest
    → Placed n (failed {A = Unit {0}} e) new (judged n s line) → script_from n s (lines_of rest) ≡ whole → Told (failed {A = Script} e) whole
fault_of n s new (error.Line m kind) rest line after whole h f g j so_far = on_fault n s kind rest line after whole h f g j.0 so_far ∙ ap (λ k. Err (k, kind)) (sym j.1)
fault_of n s new error.OutOfMemory rest line after whole h f g j so_far = tt
