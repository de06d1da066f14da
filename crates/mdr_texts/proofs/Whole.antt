-- The text that was read so far is that of the plan so far.
use Rattle.std.proofs.Common.{◌≡◌, ℕ, zero, suc, Bool, true, false, not, ◌+◌, ◌<◌, ◌≤◌, List, [], ◌∷◌, ◌++◌, length, drop, IsTrue, codes, decimal, slice_get, slice_set, refl, sym, ap, ◌∙◌, arith, append_assoc}
use Rattle.std.specs.List.{list_all}
use Rattle.std.proofs.lemmas.List.{append-nil}
use Rattle.mdr_core.specs.declared.plan.Half.{Half}
use Rattle.mdr_core.specs.declared.plan.Half.TheVariants.{Kernel, User}
use Rattle.mdr_core.specs.declared.plan.Key.{Key}
use Rattle.mdr_core.specs.declared.plan.Plan.{Plan}
use Rattle.mdr_core.specs.declared.types.Ty.{Ty}
use Rattle.mdr_core.specs.declared.program.Program.{Program}
use Rattle.mdr_plan.specs.Lines.{is_kernel}
use Rattle.mdr_half.specs.Plans.{half_or_user, true_or_not, keys_or_none, newline, type_line, function_line, down_line, key_line, key_lines, up_lines_of, type_lines, function_lines, down_lines, up_lines}

-- ---- parts of a text

pub in_front : (p q x r : List ℕ) → q ++ x ≡ r → (p ++ q) ++ x ≡ p ++ r
in_front p q x r e = append_assoc p q x ∙ ap (λ z. p ++ z) e

-- ---- lists that grow at their end

pub type_lines_more : (program : Program) (k : ℕ) (ts : List Ty) (t : Ty) → type_lines program k (ts ++ t ∷ []) ≡ type_lines program k ts ++ type_line program (k + length ts) t
type_lines_more program k [] t = let e : k + 0 ≡ k = omega arith in append-nil (type_line program k t) ∙ ap (λ n. type_line program n t) (sym e)
type_lines_more program k (x ∷ ts) t =
    let e : k + 1 + length ts ≡ k + suc (length ts) = omega arith in
    ap (λ r. type_line program k x ++ r) (type_lines_more program (k + 1) ts t ∙ ap (λ n. type_lines program (k + 1) ts ++ type_line program n t) e)
    ∙ sym (append_assoc (type_line program k x) (type_lines program (k + 1) ts) (type_line program (k + suc (length ts)) t))

-- the line of a function, as a plan has it
abbrev pub line_in : Plan → ℕ → List ℕ → List ℕ
line_in plan k name = function_line k name (half_or_user (slice_get plan.halves k)) (true_or_not (slice_get plan.roots k))

pub function_lines_more : (plan : Plan) (k : ℕ) (ns : List (List ℕ)) (n : List ℕ) → function_lines plan k (ns ++ n ∷ []) ≡ function_lines plan k ns ++ line_in plan (k + length ns) n
function_lines_more plan k [] n = let e : k + 0 ≡ k = omega arith in append-nil (line_in plan k n) ∙ ap (λ m. line_in plan m n) (sym e)
function_lines_more plan k (x ∷ ns) n =
    let e : k + 1 + length ns ≡ k + suc (length ns) = omega arith in
    ap (λ r. line_in plan k x ++ r) (function_lines_more plan (k + 1) ns n ∙ ap (λ m. function_lines plan (k + 1) ns ++ line_in plan m n) e)
    ∙ sym (append_assoc (line_in plan k x) (function_lines plan (k + 1) ns) (line_in plan (k + suc (length ns)) n))

-- two plans agree below a number
pub record Agree (a b : Plan) (n : ℕ) : Type 0 where
  pub halves : (j : ℕ) → j < n → slice_get a.halves j ≡ slice_get b.halves j
  pub roots : (j : ℕ) → j < n → slice_get a.roots j ≡ slice_get b.roots j

pub function_lines_same : (a b : Plan) (k n : ℕ) (ns : List (List ℕ)) → Agree a b n → k + length ns ≤ n → function_lines a k ns ≡ function_lines b k ns
function_lines_same a b k n [] h le = refl
function_lines_same a b k n (x ∷ ns) h le =
    let lt : k < n = omega (arith, le) in
    let less : k + 1 + length ns ≤ n = omega (arith, le) in
    ap (λ o. function_line k x (half_or_user o) (true_or_not (slice_get a.roots k)) ++ function_lines a (k + 1) ns) (h.halves k lt)
    ∙ ap (λ o. function_line k x (half_or_user (slice_get b.halves k)) (true_or_not o) ++ function_lines a (k + 1) ns) (h.roots k lt)
    ∙ ap (λ r. line_in b k x ++ r) (function_lines_same a b (k + 1) n ns h less)

pub no_downs : (k : ℕ) (flags : List Bool) → IsTrue (list_all not flags) → down_lines k flags ≡ []
no_downs k [] h = refl
no_downs k (false ∷ flags) h = no_downs (k + 1) flags h
no_downs k (true ∷ flags) h = let q : false ≡ true = h in absurd (Prim.cc)

pub down_lines_more : (k i : ℕ) (flags : List Bool) → i < length flags → IsTrue (list_all not (drop i flags)) → down_lines k (slice_set flags i true) ≡ down_lines k flags ++ down_line (k + i) true
down_lines_more k i [] lt h = absurd (omega (arith, lt))
down_lines_more k zero (true ∷ flags) lt h = let q : false ≡ true = h in absurd (Prim.cc)
down_lines_more k zero (false ∷ flags) lt h =
    let e : k + 0 ≡ k = omega arith in
    let n : down_lines (k + 1) flags ≡ [] = no_downs (k + 1) flags h in
    ap (λ r. down_line k true ++ r) n ∙ append-nil (down_line k true) ∙ ap (λ m. down_line m true) (sym e) ∙ ap (λ r. r ++ down_line (k + 0) true) (sym n)
down_lines_more k (suc i) (x ∷ flags) lt h =
    let e : k + 1 + i ≡ k + suc i = omega arith in
    ap (λ r. down_line k x ++ r) (down_lines_more (k + 1) i flags (omega (arith, lt)) h ∙ ap (λ m. down_lines (k + 1) flags ++ down_line m true) e)
    ∙ sym (append_assoc (down_line k x) (down_lines (k + 1) flags) (down_line (k + suc i) true))

-- ---- the functions of the user half

abbrev pub keys_at : Plan → ℕ → List Key
keys_at plan k = keys_or_none (slice_get plan.keys k)

pub up_lines_joined : (plan : Plan) (k : ℕ) (hs gs : List Half) → up_lines plan k (hs ++ gs) ≡ up_lines plan k hs ++ up_lines plan (k + length hs) gs
up_lines_joined plan k [] gs = let e : k + 0 ≡ k = omega arith in ap (λ n. up_lines plan n gs) (sym e)
up_lines_joined plan k (h ∷ hs) gs =
    let e : k + 1 + length hs ≡ k + suc (length hs) = omega arith in
    ap (λ r. up_lines_of k h (keys_at plan k) ++ r) (up_lines_joined plan (k + 1) hs gs ∙ ap (λ n. up_lines plan (k + 1) hs ++ up_lines plan n gs) e)
    ∙ sym (append_assoc (up_lines_of k h (keys_at plan k)) (up_lines plan (k + 1) hs) (up_lines plan (k + suc (length hs)) gs))

pub no_ups : (plan : Plan) (k : ℕ) (hs : List Half) → IsTrue (list_all is_kernel hs) → up_lines plan k hs ≡ []
no_ups plan k [] h = refl
no_ups plan k (Kernel ∷ hs) h = no_ups plan (k + 1) hs h
no_ups plan k (User ∷ hs) h = let q : false ≡ true = h in absurd (Prim.cc)

pub up_lines_same : (a b : Plan) (k n : ℕ) (hs : List Half) → ((j : ℕ) → j < n → keys_at a j ≡ keys_at b j) → k + length hs ≤ n → up_lines a k hs ≡ up_lines b k hs
up_lines_same a b k n [] same le = refl
up_lines_same a b k n (h ∷ hs) same le =
    ap (λ ks. up_lines_of k h ks ++ up_lines a (k + 1) hs) (same k (omega (arith, le)))
    ∙ ap (λ r. up_lines_of k h (keys_at b k) ++ r) (up_lines_same a b (k + 1) n hs same (omega (arith, le)))

key_lines_more : (k : ℕ) (ks : List Key) (key : Key) → key_lines k (ks ++ key ∷ []) ≡ key_lines k ks ++ key_line k key
key_lines_more k [] key = append-nil (key_line k key)
key_lines_more k (x ∷ ks) key = ap (λ r. key_line k x ++ r) (key_lines_more k ks key) ∙ sym (append_assoc (key_line k x) (key_lines k ks) (key_line k key))

-- the user half's lines of one function, with one key more
pub user_lines_more : (k : ℕ) (ks : List Key) (key : Key) → up_lines_of k User (ks ++ key ∷ []) ≡ up_lines_of k User ks ++ key_line k key
user_lines_more k ks key =
    ap (λ r. codes "up " ++ (decimal k ++ (newline ++ r))) (key_lines_more k ks key)
    ∙ sym (in_front (codes "up ") (decimal k ++ (newline ++ key_lines k ks)) (key_line k key) _ (in_front (decimal k) (newline ++ key_lines k ks) (key_line k key) _ refl))
