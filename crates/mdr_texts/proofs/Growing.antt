-- What was read so far has the text of the plan so far, and each line adds to it.
use Rattle.std.proofs.Common.{◌≡◌, ℕ, zero, suc, Bool, true, false, not, ◌&&◌, ◌+◌, ◌-◌, ◌^◌, ◌<◌, ◌≤◌, ◌==◌, List, [], ◌∷◌, ◌++◌, length, take, drop, get_or, Option, Some, None, IsTrue, codes, decimal, nat_lt, nat_le, slice_get, slice_set, refl, sym, ap, subst, ◌∙◌, arith, append_assoc, length-append, option_map}
use Rattle.std.specs.List.{list_all}
use Rattle.std.proofs.lemmas.Bool.Decides.{Decides-ltb}
use Rattle.std.proofs.lemmas.List.{append-nil, length-set, take-append-drop, length-take-le, length-drop, drop-set-lt}
use Rattle.std.proofs.lemmas.Option.{slice_get-map, slice_get-get_or}
use Rattle.mdr_core.specs.declared.kind.Kind.TheVariants.{U8, U16, U32, U64, S8, S16, S32, S64}
use Rattle.mdr_core.specs.declared.plan.Half.{Half}
use Rattle.mdr_core.specs.declared.plan.Half.TheVariants.{Kernel, User}
use Rattle.mdr_core.specs.declared.plan.Key.{Key}
use Rattle.mdr_core.specs.declared.plan.Key.TheVariants.{Global, Field, Elem}
use Rattle.mdr_core.specs.declared.plan.Plan.{Plan}
use Rattle.mdr_core.specs.declared.types.Ty.{Ty}
use Rattle.mdr_core.specs.declared.types.Ty.TheVariants as type
use Rattle.mdr_core.specs.declared.program.Program.{Program}
use Rattle.mdr_core.specs.declared.program.StructDef.{StructDef}
use Rattle.mdr_core.specs.TypeText.{Text, type_text, name_or}
use Rattle.mdr_half.specs.Plans.{half_or_user, true_or_not, keys_or_none, newline, heading, type_line, function_line, down_line, key_line, key_lines, up_lines_of, ending, type_lines, function_lines, down_lines, up_lines, plan_text}
use Rattle.mdr_half.specs.Plans as plans
use Rattle.mdr_plan.specs.declared.line.Line.{Line}
use Rattle.mdr_plan.specs.declared.line.Line.TheVariants as line
use Rattle.mdr_plan.specs.declared.line.Stage.{Stage}
use Rattle.mdr_plan.specs.declared.line.Stage.TheVariants as stage
use Rattle.mdr_plan.specs.declared.reader.Reader.{Reader}
use Rattle.mdr_plan.specs.Naming.{struct_number, is_new}
use Rattle.mdr_plan.specs.TypeTexts.{IsPointerText}
use Rattle.mdr_plan.specs.Lines.{begins, takes_types, takes_functions, takes_downs, takes_ups, takes_keys, ends, is_kernel, is_user_half, is_next_user, is_there, is_after, first_text, numbered, line_text, IsSmall, IsNext, Reads}
use Rattle.mdr_plan.specs.Lines as lines
use Rattle.mdr_plan.specs.Steps.{Reached, after, start, first_type, key_added, with_key}
use Rattle.mdr_plan.specs.Steps.Reached.{Begun, Then}
use Rattle.mdr_plan.specs.Texts.{IsPlanText, is_done}
use Rattle.mdr_plan.proofs.TypesRead.{both}
use Rattle.mdr_plan.proofs.WrittenTexts.{Named, written_is, int_is, lock_is, struct_is, struct_place}
use Rattle.mdr_texts.specs.PlanTexts.{struct_names, IsTextOf}
use Rattle.mdr_texts.proofs.Whole.{in_front, type_lines_more, line_in, function_lines_more, Agree, function_lines_same, no_downs, down_lines_more, keys_at, up_lines_joined, no_ups, up_lines_same, user_lines_more}

-- ---- the lines

type_line_is : (program : Program) (k : ℕ) (ty : Ty) (text : List ℕ) → type_text program ty ≡ text → numbered (codes "type ") k (codes " " ++ text) ++ 10 ∷ [] ≡ type_line program k ty
type_line_is program k ty text e =
    in_front (codes "type ") (decimal k ++ (codes " " ++ text)) (10 ∷ []) _ (in_front (decimal k) (codes " " ++ text) (10 ∷ []) (codes " " ++ (text ++ 10 ∷ [])) refl)
    ∙ ap (λ b. codes "type " ++ (decimal k ++ (codes " " ++ (b ++ newline)))) (sym e)

ended : (half : Half) (is_root : Bool) → (lines.half_text half ++ lines.root_text is_root) ++ 10 ∷ [] ≡ plans.half_text half ++ (plans.root_text is_root ++ newline)
ended Kernel true = refl
ended Kernel false = refl
ended User true = refl
ended User false = refl

function_line_is : (k : ℕ) (name : List ℕ) (half : Half) (is_root : Bool) → numbered (codes "function ") k (codes " " ++ (name ++ (lines.half_text half ++ lines.root_text is_root))) ++ 10 ∷ [] ≡ function_line k name half is_root
function_line_is k name half is_root =
    in_front (codes "function ") (decimal k ++ (codes " " ++ (name ++ (lines.half_text half ++ lines.root_text is_root)))) (10 ∷ []) _
    (in_front (decimal k) (codes " " ++ (name ++ (lines.half_text half ++ lines.root_text is_root))) (10 ∷ []) _
    (in_front (codes " ") (name ++ (lines.half_text half ++ lines.root_text is_root)) (10 ∷ []) _
    (in_front name (lines.half_text half ++ lines.root_text is_root) (10 ∷ []) _ (ended half is_root))))

key_ended : (key : Key) → lines.key_text key ++ 10 ∷ [] ≡ plans.key_text key ++ newline
key_ended (Global g) = refl
key_ended (Field s f) = refl
key_ended (Elem t) = refl

key_line_is : (k : ℕ) (key : Key) → numbered (codes "key ") k (lines.key_text key) ++ 10 ∷ [] ≡ key_line k key
key_line_is k key = in_front (codes "key ") (decimal k ++ lines.key_text key) (10 ∷ []) _ (in_front (decimal k) (lines.key_text key) (10 ∷ []) _ (key_ended key))

-- ---- the texts of types

-- the structs begin with these names
pub record Begins (program : Program) (names : List (List ℕ)) : Type 0 where
  pub more : List (List ℕ)
  pub same : struct_names program ≡ names ++ more

get_front : (xs ys : List (List ℕ)) (i : ℕ) (x : List ℕ) → slice_get xs i ≡ Some x → slice_get (xs ++ ys) i ≡ Some x
get_front [] ys i x e = let n : None ≡ Some x = e in absurd (Prim.cc)
get_front (a ∷ xs) ys zero x e = e
get_front (a ∷ xs) ys (suc i) x e = get_front xs ys i x e

named_at : (program : Program) (names : List (List ℕ)) (name : List ℕ) (s : ℕ) → Begins program names → slice_get names s ≡ Some name → name_or (slice_get program.structs s) ≡ name
named_at program names name s b e = on (slice_get program.structs s) refl
  where
    got : option_map (λ (def : StructDef). def.name) (slice_get program.structs s) ≡ Some name
    got = sym (slice_get-map (λ (def : StructDef). def.name) program.structs s) ∙ ap (λ ns. slice_get ns s) b.same ∙ get_front names b.more s name e

    on : (o : Option StructDef) → slice_get program.structs s ≡ o → name_or (slice_get program.structs s) ≡ name
    on None q = let n : None ≡ Some name = sym (ap (option_map (λ (def : StructDef). def.name)) q) ∙ got in absurd (Prim.cc)
    on (Some def) q = let n : Some def.name ≡ Some name = sym (ap (option_map (λ (d : StructDef). d.name)) q) ∙ got in let m : def.name ≡ name = cc in ap name_or q ∙ m

named_by : (program : Program) (names : List (List ℕ)) → Begins program names → Named program.structs (struct_number names)
named_by program names b = record { named = λ name s e. named_at program names name s b (struct_place names name s e) }

pointer_text : (program : Program) (names : List (List ℕ)) (ty : Ty) (bytes : List ℕ) → Begins program names → IsPointerText (struct_number names) ty bytes → type_text program ty ≡ bytes
pointer_text program names ty bytes b h = ap (λ (x : Text). x.bytes) (written_is program.structs (struct_number names) ty h.pointer h.whole (named_by program names b) h.written) ∙ h.same

last_name : (names : List (List ℕ)) (name : List ℕ) → slice_get (names ++ name ∷ []) (length names) ≡ Some name
last_name [] name = refl
last_name (x ∷ names) name = last_name names name

struct_text : (program : Program) (names : List (List ℕ)) (name : List ℕ) → Begins program (names ++ name ∷ []) → type_text program (type.Struct (length names)) ≡ codes "struct " ++ name
struct_text program names name b =
    ap (λ (x : Text). x.bytes) (struct_is program.structs (length names))
    ∙ ap (λ n. codes "struct " ++ n) (named_at program (names ++ name ∷ []) name (length names) b (last_name names name))

fewer : (program : Program) (names : List (List ℕ)) (name : List ℕ) → Begins program (names ++ name ∷ []) → Begins program names
fewer program names name b = record { more = name ∷ b.more; same = b.same ∙ append_assoc names (name ∷ []) b.more }

first_is : (program : Program) (k : ℕ) → k < 9 → type_text program (first_type k) ≡ first_text k
unfolding first_type first_text
first_is program zero lt = ap (λ (x : Text). x.bytes) (int_is program.structs U8)
first_is program (suc zero) lt = ap (λ (x : Text). x.bytes) (int_is program.structs U16)
first_is program (suc (suc zero)) lt = ap (λ (x : Text). x.bytes) (int_is program.structs U32)
first_is program (suc (suc (suc zero))) lt = ap (λ (x : Text). x.bytes) (int_is program.structs U64)
first_is program (suc (suc (suc (suc zero)))) lt = ap (λ (x : Text). x.bytes) (int_is program.structs S8)
first_is program (suc (suc (suc (suc (suc zero))))) lt = ap (λ (x : Text). x.bytes) (int_is program.structs S16)
first_is program (suc (suc (suc (suc (suc (suc zero)))))) lt = ap (λ (x : Text). x.bytes) (int_is program.structs S32)
first_is program (suc (suc (suc (suc (suc (suc (suc zero))))))) lt = ap (λ (x : Text). x.bytes) (int_is program.structs S64)
first_is program (suc (suc (suc (suc (suc (suc (suc (suc zero)))))))) lt = ap (λ (x : Text). x.bytes) (lock_is program.structs)
first_is program (suc (suc (suc (suc (suc (suc (suc (suc (suc n))))))))) lt = absurd (omega (arith, lt))

-- ---- the text so far

abbrev pub head_of : Stage → List ℕ
head_of stage.Start = []
head_of _ = heading

abbrev pub tail_of : Stage → List ℕ
tail_of stage.Done = ending
tail_of _ = []

abbrev parts : (h t f d u e : List ℕ) → List ℕ
parts h t f d u e = h ++ (t ++ (f ++ (d ++ (u ++ e))))

abbrev pub so_by : Program → Stage → Plan → (ups : ℕ) → List ℕ
so_by program s plan ups = parts (head_of s) (type_lines program 0 plan.types) (function_lines plan 0 plan.names) (down_lines 0 plan.down) (up_lines plan 0 (take ups plan.halves)) (tail_of s)

abbrev pub so_far : Program → Reader → List ℕ
so_far program r = so_by program r.stage r.plan r.ups

types_put : (h t f d u e x s g c v o : List ℕ) → f ≡ [] → d ≡ [] → u ≡ [] → e ≡ [] → s ≡ t ++ x → g ≡ [] → c ≡ [] → v ≡ [] → o ≡ [] → parts h t f d u e ++ x ≡ parts h s g c v o
types_put h t f d u e x s g c v o a0 a1 a2 a3 a4 a5 a6 a7 a8 =
    rw (a0, a1, a2, a3, a4, a5, a6, a7, a8) (in_front h (t ++ []) x ((t ++ x) ++ []) (ap (λ z. z ++ x) (append-nil t) ∙ sym (append-nil (t ++ x))))

functions_put : (h t f d u e x g c v o : List ℕ) → d ≡ [] → u ≡ [] → e ≡ [] → g ≡ f ++ x → c ≡ [] → v ≡ [] → o ≡ [] → parts h t f d u e ++ x ≡ parts h t g c v o
functions_put h t f d u e x g c v o a1 a2 a3 a5 a6 a7 a8 =
    rw (a1, a2, a3, a5, a6, a7, a8) (in_front h (t ++ (f ++ [])) x _ (in_front t (f ++ []) x ((f ++ x) ++ []) (ap (λ z. z ++ x) (append-nil f) ∙ sym (append-nil (f ++ x)))))

downs_put : (h t f d u e x c v o : List ℕ) → u ≡ [] → e ≡ [] → c ≡ d ++ x → v ≡ [] → o ≡ [] → parts h t f d u e ++ x ≡ parts h t f c v o
downs_put h t f d u e x c v o a2 a3 a6 a7 a8 =
    rw (a2, a3, a6, a7, a8) (in_front h (t ++ (f ++ (d ++ []))) x _ (in_front t (f ++ (d ++ [])) x _ (in_front f (d ++ []) x ((d ++ x) ++ []) (ap (λ z. z ++ x) (append-nil d) ∙ sym (append-nil (d ++ x))))))

ups_put : (h t f d u e x v o : List ℕ) → e ≡ [] → v ≡ u ++ x → o ≡ [] → parts h t f d u e ++ x ≡ parts h t f d v o
ups_put h t f d u e x v o a3 a7 a8 =
    rw (a3, a7, a8) (in_front h (t ++ (f ++ (d ++ (u ++ [])))) x _ (in_front t (f ++ (d ++ (u ++ []))) x _ (in_front f (d ++ (u ++ [])) x _ (in_front d (u ++ []) x ((u ++ x) ++ []) (ap (λ z. z ++ x) (append-nil u) ∙ sym (append-nil (u ++ x)))))))

end_put : (h t f d u e o : List ℕ) → e ≡ [] → parts h t f d u e ++ o ≡ parts h t f d u o
end_put h t f d u e o a3 =
    rw a3 (in_front h (t ++ (f ++ (d ++ (u ++ [])))) o _ (in_front t (f ++ (d ++ (u ++ []))) o _ (in_front f (d ++ (u ++ [])) o _ (in_front d (u ++ []) o (u ++ o) (ap (λ z. z ++ o) (append-nil u))))))

-- ---- what is kept

abbrev before_types : Stage → Bool
before_types stage.Start = true
before_types _ = false

abbrev before_functions : Stage → Bool
before_functions stage.Start = true
before_functions stage.Types = true
before_functions _ = false

abbrev before_downs : Stage → Bool
before_downs stage.Start = true
before_downs stage.Types = true
before_downs stage.Functions = true
before_downs _ = false

abbrev before_ups : Stage → Bool
before_ups stage.Start = true
before_ups stage.Types = true
before_ups stage.Functions = true
before_ups stage.Downs = true
before_ups _ = false

-- what is so of a reader with this stage, plan, least number and count
pub record HeldBy (s : Stage) (plan : Plan) (low ups : ℕ) : Type 0 where
  pub halves : length plan.halves ≡ length plan.names
  pub roots : length plan.roots ≡ length plan.names
  pub keys : length plan.keys ≡ length plan.names
  pub no_types : IsTrue (before_types s) → plan.types ≡ []
  pub no_functions : IsTrue (before_functions s) → plan.names ≡ []
  pub no_low : IsTrue (before_downs s) → low ≡ 0
  pub no_ups : IsTrue (before_ups s) → ups ≡ 0
  pub flags : IsTrue (list_all not (drop low plan.down))
  pub later : (j : ℕ) → ups ≤ j → keys_at plan j ≡ []
  pub user : IsTrue (takes_keys s) → (1 ≤ ups) × IsTrue (is_user_half (slice_get plan.halves (ups - 1)))
  pub rest : is_done s ≡ true → IsTrue (list_all is_kernel (drop ups plan.halves))

abbrev pub HeldNow : Reader → Type 0
HeldNow r = HeldBy r.stage r.plan r.low r.ups

no : {A : Type 0} → IsTrue false → A
no h = let q : false ≡ true = h in absurd (Prim.cc)

begun : (s : Stage) → IsTrue (begins s) → s ≡ stage.Start
begun stage.Start b = refl
begun stage.Types b = no b
begun stage.Functions b = no b
begun stage.Downs b = no b
begun stage.Ups b = no b
begun stage.Done b = no b

typing : (s : Stage) → IsTrue (takes_types s) → s ≡ stage.Types
typing stage.Start b = no b
typing stage.Types b = refl
typing stage.Functions b = no b
typing stage.Downs b = no b
typing stage.Ups b = no b
typing stage.Done b = no b

keying : (s : Stage) → IsTrue (takes_keys s) → s ≡ stage.Ups
keying stage.Start b = no b
keying stage.Types b = no b
keying stage.Functions b = no b
keying stage.Downs b = no b
keying stage.Ups b = refl
keying stage.Done b = no b

functions_early : (s : Stage) → IsTrue (takes_functions s) → IsTrue (before_downs s) × IsTrue (before_ups s) × (head_of s ≡ heading) × (tail_of s ≡ [])
functions_early stage.Start b = no b
functions_early stage.Types b = (refl, refl, refl, refl)
functions_early stage.Functions b = (refl, refl, refl, refl)
functions_early stage.Downs b = no b
functions_early stage.Ups b = no b
functions_early stage.Done b = no b

downs_early : (s : Stage) → IsTrue (takes_downs s) → IsTrue (before_ups s) × (head_of s ≡ heading) × (tail_of s ≡ [])
downs_early stage.Start b = no b
downs_early stage.Types b = no b
downs_early stage.Functions b = (refl, refl, refl)
downs_early stage.Downs b = (refl, refl, refl)
downs_early stage.Ups b = no b
downs_early stage.Done b = no b

ups_running : (s : Stage) → IsTrue (takes_ups s) → (head_of s ≡ heading) × (tail_of s ≡ [])
ups_running stage.Start b = no b
ups_running stage.Types b = no b
ups_running stage.Functions b = (refl, refl)
ups_running stage.Downs b = (refl, refl)
ups_running stage.Ups b = (refl, refl)
ups_running stage.Done b = no b

ending_running : (s : Stage) → IsTrue (ends s) → (head_of s ≡ heading) × (tail_of s ≡ [])
ending_running stage.Start b = no b
ending_running stage.Types b = (refl, refl)
ending_running stage.Functions b = (refl, refl)
ending_running stage.Downs b = (refl, refl)
ending_running stage.Ups b = (refl, refl)
ending_running stage.Done b = no b

-- ---- lists

none_in : {A : Type 0} (xs : List A) → length xs ≡ 0 → xs ≡ []
none_in [] e = refl
none_in (x ∷ xs) e = absurd (omega (arith, e))

last_get : {A : Type 0} (xs : List A) (x : A) (n : ℕ) → n ≡ length xs → slice_get (xs ++ x ∷ []) n ≡ Some x
last_get [] x zero e = refl
last_get [] x (suc n) e = absurd (omega (arith, e))
last_get (a ∷ xs) x zero e = absurd (omega (arith, e))
last_get (a ∷ xs) x (suc n) e = last_get xs x n (omega (arith, e))

front_get : {A : Type 0} (xs ys : List A) (j : ℕ) → j < length xs → slice_get (xs ++ ys) j ≡ slice_get xs j
front_get [] ys j lt = absurd (omega (arith, lt))
front_get (x ∷ xs) ys zero lt = refl
front_get (x ∷ xs) ys (suc j) lt = front_get xs ys j (omega (arith, lt))

set_same : {A : Type 0} (xs : List A) (i : ℕ) (y : A) → i < length xs → slice_get (slice_set xs i y) i ≡ Some y
set_same [] i y lt = absurd (omega (arith, lt))
set_same (x ∷ xs) zero y lt = refl
set_same (x ∷ xs) (suc i) y lt = set_same xs i y (omega (arith, lt))

set_other : {A : Type 0} (xs : List A) (i j : ℕ) (y : A) → (i ≡ j → ⊥) → slice_get (slice_set xs i y) j ≡ slice_get xs j
set_other [] i j y n = refl
set_other (x ∷ xs) zero zero y n = absurd (n refl)
set_other (x ∷ xs) zero (suc j) y n = refl
set_other (x ∷ xs) (suc i) zero y n = refl
set_other (x ∷ xs) (suc i) (suc j) y n = set_other xs i j y (λ e. n (ap suc e))

all_later : (flags : List Bool) (a b : ℕ) → a ≤ b → IsTrue (list_all not (drop a flags)) → IsTrue (list_all not (drop b flags))
all_later [] zero zero le h = h
all_later [] zero (suc b) le h = refl
all_later [] (suc a) zero le h = refl
all_later [] (suc a) (suc b) le h = refl
all_later (x ∷ flags) zero zero le h = h
all_later (x ∷ flags) zero (suc b) le h = all_later flags zero b (omega arith) (both (not x) (list_all not flags) h).1
all_later (x ∷ flags) (suc a) zero le h = absurd (omega (arith, le))
all_later (x ∷ flags) (suc a) (suc b) le h = all_later flags a b (omega (arith, le)) h

all_more : (flags : List Bool) → IsTrue (list_all not flags) → IsTrue (list_all not (flags ++ false ∷ []))
all_more [] h = refl
all_more (false ∷ flags) h = all_more flags h
all_more (true ∷ flags) h = no h

-- with a flag set, those behind it are as before
drop_set : (flags : List Bool) (k : ℕ) → drop (k + 1) (slice_set flags k true) ≡ drop (k + 1) flags
drop_set flags k = drop-set-lt (k + 1) flags k true (omega arith)

split_user : (hs : List Half) (ups k : ℕ) → ups ≤ k → IsTrue (is_user_half (slice_get hs k)) → take (k + 1) hs ≡ take ups hs ++ (take (k - ups) (drop ups hs) ++ User ∷ [])
split_user [] ups k le h = no h
split_user (Kernel ∷ hs) zero zero le h = no h
split_user (User ∷ hs) zero zero le h = refl
split_user (x ∷ hs) (suc ups) zero le h = absurd (omega (arith, le))
split_user (x ∷ hs) zero (suc k) le h =
    let e : suc k + 1 ≡ suc (k + 1) = omega arith in
    let f : suc k - 0 ≡ suc k = omega arith in
    let g : k - 0 ≡ k = omega arith in
    let ih : take (k + 1) hs ≡ take (k - 0) hs ++ User ∷ [] = split_user hs zero k (omega arith) h in
    ap (λ n. take n (x ∷ hs)) e ∙ ap (λ r. x ∷ r) (ih ∙ ap (λ n. take n hs ++ User ∷ []) g) ∙ ap (λ n. take n (x ∷ hs) ++ User ∷ []) (sym f)
split_user (x ∷ hs) (suc ups) (suc k) le h =
    let e : suc k + 1 ≡ suc (k + 1) = omega arith in
    let f : suc k - suc ups ≡ k - ups = omega arith in
    ap (λ n. take n (x ∷ hs)) e ∙ ap (λ r. x ∷ r) (split_user hs ups k (omega (arith, le)) h) ∙ ap (λ n. x ∷ (take ups hs ++ (take n (drop ups hs) ++ User ∷ []))) (sym f)

user_inside : (hs : List Half) (k : ℕ) → IsTrue (is_user_half (slice_get hs k)) → k < length hs
user_inside [] k h = no h
user_inside (x ∷ hs) zero h = omega arith
user_inside (x ∷ hs) (suc k) h = let i = user_inside hs k h in omega (arith, i)

-- ---- each line adds its text

none_of_functions : (plan : Plan) (names : List (List ℕ)) → names ≡ [] → function_lines plan 0 names ≡ []
none_of_functions plan names e = ap (function_lines plan 0) e

none_of_downs : (s : Stage) (plan : Plan) (low ups : ℕ) → HeldBy s plan low ups → IsTrue (before_downs s) → down_lines 0 plan.down ≡ []
none_of_downs s plan low ups h b = no_downs 0 plan.down (subst (λ n. IsTrue (list_all not (drop n plan.down))) (h.no_low b) h.flags)

none_of_ups : (plan : Plan) (ups : ℕ) (hs : List Half) → ups ≡ 0 → up_lines plan 0 (take ups hs) ≡ []
none_of_ups plan ups hs e = ap (λ n. up_lines plan 0 (take n hs)) e

types_grow : (program : Program) (s : Stage) (plan : Plan) (low ups : ℕ) (ty : Ty) (x : List ℕ) → HeldBy s plan low ups → IsTrue (takes_types s) → x ≡ type_line program (length plan.types) ty
    → so_by program s plan ups ++ x ≡ so_by program s (record plan { types = plan.types ++ ty ∷ [] }) ups
types_grow program s plan low ups ty x h t e =
    let is = typing s t in
    let names : plan.names ≡ [] = h.no_functions (subst (λ v. IsTrue (before_functions v)) (sym is) refl) in
    let zero_ups : ups ≡ 0 = h.no_ups (subst (λ v. IsTrue (before_ups v)) (sym is) refl) in
    let downs : down_lines 0 plan.down ≡ [] = none_of_downs s plan low ups h (subst (λ v. IsTrue (before_downs v)) (sym is) refl) in
    let tail : tail_of s ≡ [] = ap tail_of is in
    let n : 0 + length plan.types ≡ length plan.types = omega arith in
    types_put (head_of s) (type_lines program 0 plan.types) _ _ _ _ x _ _ _ _ _ (none_of_functions plan plan.names names) downs (none_of_ups plan ups plan.halves zero_ups) tail
    (type_lines_more program 0 plan.types ty ∙ ap (λ m. type_lines program 0 plan.types ++ type_line program m ty) n ∙ ap (λ z. type_lines program 0 plan.types ++ z) (sym e))
    (none_of_functions (record plan { types = plan.types ++ ty ∷ [] }) plan.names names) downs (none_of_ups (record plan { types = plan.types ++ ty ∷ [] }) ups plan.halves zero_ups) tail

abbrev with_function : Plan → List ℕ → Half → Bool → Plan
with_function plan name half is_root = record plan { names = plan.names ++ name ∷ []; halves = plan.halves ++ half ∷ []; roots = plan.roots ++ is_root ∷ []; down = plan.down ++ false ∷ []; keys = plan.keys ++ [] ∷ [] }

functions_grow : (program : Program) (s : Stage) (plan : Plan) (low ups : ℕ) (name : List ℕ) (half : Half) (is_root : Bool) (x : List ℕ) → HeldBy s plan low ups → IsTrue (takes_functions s) → x ≡ function_line (length plan.names) name half is_root
    → so_by program s plan ups ++ x ≡ so_by program stage.Functions (with_function plan name half is_root) ups
functions_grow program s plan low ups name half is_root x h t e =
    let early = functions_early s t in
    let zero_low : low ≡ 0 = h.no_low early.0 in
    let zero_ups : ups ≡ 0 = h.no_ups early.1 in
    let all : IsTrue (list_all not plan.down) = subst (λ n. IsTrue (list_all not (drop n plan.down))) zero_low h.flags in
    let new : Plan = with_function plan name half is_root in
    let agree : Agree new plan (length plan.names) = record { halves = λ j lt. front_get plan.halves (half ∷ []) j (let q = h.halves in omega (arith, q, lt)); roots = λ j lt. front_get plan.roots (is_root ∷ []) j (let q = h.roots in omega (arith, q, lt)) } in
    let n : 0 + length plan.names ≡ length plan.names = omega arith in
    let here : line_in new (length plan.names) name ≡ function_line (length plan.names) name half is_root =
    ap (λ o. function_line (length plan.names) name (half_or_user o) (true_or_not (slice_get new.roots (length plan.names)))) (last_get plan.halves half (length plan.names) (sym h.halves))
    ∙ ap (λ o. function_line (length plan.names) name half (true_or_not o)) (last_get plan.roots is_root (length plan.names) (sym h.roots)) in
    let grown : function_lines new 0 (plan.names ++ name ∷ []) ≡ function_lines plan 0 plan.names ++ x =
    function_lines_more new 0 plan.names name ∙ ap (λ m. function_lines new 0 plan.names ++ line_in new m name) n
    ∙ ap (λ r. function_lines new 0 plan.names ++ r) (here ∙ sym e) ∙ ap (λ r. r ++ x) (function_lines_same new plan 0 (length plan.names) plan.names agree (omega arith)) in
    functions_put (head_of s) (type_lines program 0 plan.types) (function_lines plan 0 plan.names) _ _ _ x (function_lines new 0 (plan.names ++ name ∷ [])) _ _ [] (no_downs 0 plan.down all) (none_of_ups plan ups plan.halves zero_ups) early.3
    grown (no_downs 0 (plan.down ++ false ∷ []) (all_more plan.down all)) (none_of_ups new ups (plan.halves ++ half ∷ []) zero_ups) refl
    ∙ ap (λ g. parts g (type_lines program 0 plan.types) (function_lines new 0 (plan.names ++ name ∷ [])) (down_lines 0 (plan.down ++ false ∷ [])) (up_lines new 0 (take ups (plan.halves ++ half ∷ []))) []) early.2

same_functions : (a b : Plan) → a.halves ≡ b.halves → a.roots ≡ b.roots → (names : List (List ℕ)) → function_lines a 0 names ≡ function_lines b 0 names
same_functions a b e f names = function_lines_same a b 0 (length names) names (record { halves = λ j lt. ap (λ hs. slice_get hs j) e; roots = λ j lt. ap (λ rs. slice_get rs j) f }) (omega arith)

downs_grow : (program : Program) (s : Stage) (plan : Plan) (low ups k : ℕ) (x : List ℕ) → HeldBy s plan low ups → IsTrue (takes_downs s) → low ≤ k → k < length plan.down → x ≡ down_line k true
    → so_by program s plan ups ++ x ≡ so_by program stage.Downs (record plan { down = slice_set plan.down k true }) ups
downs_grow program s plan low ups k x h t le lt e =
    let early = downs_early s t in
    let zero_ups : ups ≡ 0 = h.no_ups early.0 in
    let new : Plan = record plan { down = slice_set plan.down k true } in
    let n : 0 + k ≡ k = omega arith in
    let grown : down_lines 0 (slice_set plan.down k true) ≡ down_lines 0 plan.down ++ x =
    down_lines_more 0 k plan.down lt (all_later plan.down low k le h.flags) ∙ ap (λ m. down_lines 0 plan.down ++ down_line m true) n ∙ ap (λ z. down_lines 0 plan.down ++ z) (sym e) in
    downs_put (head_of s) (type_lines program 0 plan.types) (function_lines plan 0 plan.names) (down_lines 0 plan.down) _ _ x (down_lines 0 (slice_set plan.down k true)) _ [] (none_of_ups plan ups plan.halves zero_ups) early.2
    grown (none_of_ups new ups plan.halves zero_ups) refl
    ∙ ap (λ g. parts g (type_lines program 0 plan.types) (function_lines plan 0 plan.names) (down_lines 0 (slice_set plan.down k true)) (up_lines new 0 (take ups plan.halves)) []) early.1
    ∙ ap (λ f. parts heading (type_lines program 0 plan.types) f (down_lines 0 (slice_set plan.down k true)) (up_lines new 0 (take ups plan.halves)) []) (same_functions plan new refl refl plan.names)

length_front : {A : Type 0} (n : ℕ) (xs : List A) → n ≤ length xs → length (take n xs) ≡ n
length_front n xs le = length-take-le n xs le

up_text : (plan : Plan) (k : ℕ) → keys_at plan k ≡ [] → up_lines plan k (User ∷ []) ≡ up_lines_of k User []
up_text plan k e = ap (λ ks. up_lines_of k User ks ++ []) e ∙ append-nil (up_lines_of k User [])

ups_more : (plan : Plan) (ups k : ℕ) (hs : List Half) → ups ≤ k → IsTrue (is_user_half (slice_get hs k)) → IsTrue (list_all is_kernel (take (k - ups) (drop ups hs))) → keys_at plan k ≡ []
    → up_lines plan 0 (take (k + 1) hs) ≡ up_lines plan 0 (take ups hs) ++ up_lines_of k User []
ups_more plan ups k hs le u between e =
    let inside = user_inside hs k u in
    let a : length (take ups hs) ≡ ups = length_front ups hs (omega (arith, le, inside)) in
    let d : length (drop ups hs) ≡ length hs - ups = length-drop ups hs in
    let b : length (take (k - ups) (drop ups hs)) ≡ k - ups = length_front (k - ups) (drop ups hs) (omega (arith, d, inside, le)) in
    let n : 0 + length (take ups hs) + length (take (k - ups) (drop ups hs)) ≡ k = omega (arith, a, b, le) in
    let mid : up_lines plan (0 + length (take ups hs)) (take (k - ups) (drop ups hs)) ≡ [] = no_ups plan (0 + length (take ups hs)) (take (k - ups) (drop ups hs)) between in
    ap (up_lines plan 0) (split_user hs ups k le u)
    ∙ up_lines_joined plan 0 (take ups hs) (take (k - ups) (drop ups hs) ++ User ∷ [])
    ∙ ap (λ r. up_lines plan 0 (take ups hs) ++ r) (up_lines_joined plan (0 + length (take ups hs)) (take (k - ups) (drop ups hs)) (User ∷ [])
    ∙ ap (λ r. r ++ up_lines plan (0 + length (take ups hs) + length (take (k - ups) (drop ups hs))) (User ∷ [])) mid
    ∙ ap (λ m. up_lines plan m (User ∷ [])) n ∙ up_text plan k e)

ups_grow : (program : Program) (s : Stage) (plan : Plan) (low ups k : ℕ) (x : List ℕ) → HeldBy s plan low ups → IsTrue (takes_ups s) → ups ≤ k → IsTrue (is_user_half (slice_get plan.halves k)) → IsTrue (list_all is_kernel (take (k - ups) (drop ups plan.halves))) → x ≡ up_lines_of k User []
    → so_by program s plan ups ++ x ≡ so_by program stage.Ups plan (k + 1)
ups_grow program s plan low ups k x h t le u between e =
    let early = ups_running s t in
    ups_put (head_of s) (type_lines program 0 plan.types) (function_lines plan 0 plan.names) (down_lines 0 plan.down) (up_lines plan 0 (take ups plan.halves)) (tail_of s) x (up_lines plan 0 (take (k + 1) plan.halves)) [] early.1
    (ups_more plan ups k plan.halves le u between (h.later k le) ∙ ap (λ z. up_lines plan 0 (take ups plan.halves) ++ z) (sym e)) refl
    ∙ ap (λ g. parts g (type_lines program 0 plan.types) (function_lines plan 0 plan.names) (down_lines 0 plan.down) (up_lines plan 0 (take (k + 1) plan.halves)) []) early.0

key_here : (m : ℕ) (key : Key) (lists : List (List Key)) → m < length lists → keys_or_none (slice_get (with_key m key lists) m) ≡ keys_or_none (slice_get lists m) ++ key ∷ []
unfolding with_key
key_here m key lists lt =
    let got : slice_get lists m ≡ Some (get_or lists m []) = slice_get-get_or lists m [] lt in
    ap (λ o. keys_or_none (slice_get (key_added o m key lists) m)) got
    ∙ ap keys_or_none (set_same lists m (get_or lists m [] ++ key ∷ []) lt)
    ∙ ap (λ o. keys_or_none o ++ key ∷ []) (sym got)

key_elsewhere_by : (m j : ℕ) (key : Key) (lists : List (List Key)) (o : Option (List Key)) → (m ≡ j → ⊥) → slice_get (key_added o m key lists) j ≡ slice_get lists j
key_elsewhere_by m j key lists None n = refl
key_elsewhere_by m j key lists (Some ks) n = set_other lists m j (ks ++ key ∷ []) n

key_elsewhere : (m j : ℕ) (key : Key) (lists : List (List Key)) → (m ≡ j → ⊥) → slice_get (with_key m key lists) j ≡ slice_get lists j
unfolding with_key
key_elsewhere m j key lists n = key_elsewhere_by m j key lists (slice_get lists m) n

with_key_length : (m : ℕ) (key : Key) (lists : List (List Key)) → length (with_key m key lists) ≡ length lists
unfolding with_key
with_key_length m key lists = on (slice_get lists m)
  where
    on : (o : Option (List Key)) → length (key_added o m key lists) ≡ length lists
    on None = refl
    on (Some ks) = length-set lists m (ks ++ key ∷ [])

-- the lines of the last function that an `up` line named
last_lines : (plan : Plan) (m : ℕ) (hs : List Half) → IsTrue (is_user_half (slice_get hs m)) → up_lines plan 0 (take (m + 1) hs) ≡ up_lines plan 0 (take m hs) ++ up_lines_of m User (keys_at plan m)
last_lines plan m hs u =
    let inside = user_inside hs m u in
    let z : m - m ≡ 0 = omega arith in
    let a : 0 + length (take m hs) ≡ m = let q : length (take m hs) ≡ m = length_front m hs (omega (arith, inside)) in omega (arith, q) in
    ap (up_lines plan 0) (split_user hs m m (omega arith) u ∙ ap (λ n. take m hs ++ (take n (drop m hs) ++ User ∷ [])) z)
    ∙ up_lines_joined plan 0 (take m hs) (User ∷ [])
    ∙ ap (λ n. up_lines plan 0 (take m hs) ++ up_lines plan n (User ∷ [])) a
    ∙ ap (λ r. up_lines plan 0 (take m hs) ++ r) (append-nil (up_lines_of m User (keys_at plan m)))

abbrev with_one : Plan → ℕ → Key → Plan
with_one plan m key = record plan { keys = with_key m key plan.keys }

keys_more : (plan : Plan) (m : ℕ) (key : Key) → m < length plan.keys → IsTrue (is_user_half (slice_get plan.halves m)) → up_lines (with_one plan m key) 0 (take (m + 1) plan.halves) ≡ up_lines plan 0 (take (m + 1) plan.halves) ++ key_line m key
keys_more plan m key lt u =
    let inside = user_inside plan.halves m u in
    let a : length (take m plan.halves) ≡ m = length_front m plan.halves (omega (arith, inside)) in
    let same : up_lines (with_one plan m key) 0 (take m plan.halves) ≡ up_lines plan 0 (take m plan.halves) =
    up_lines_same (with_one plan m key) plan 0 m (take m plan.halves) (λ j jl. ap keys_or_none (key_elsewhere m j key plan.keys (λ e. absurd (omega (arith, e, jl))))) (omega (arith, a)) in
    let here : up_lines_of m User (keys_at (with_one plan m key) m) ≡ up_lines_of m User (keys_at plan m) ++ key_line m key =
    ap (up_lines_of m User) (key_here m key plan.keys lt) ∙ user_lines_more m (keys_at plan m) key in
    last_lines (with_one plan m key) m plan.halves u
    ∙ ap (λ r. r ++ up_lines_of m User (keys_at (with_one plan m key) m)) same
    ∙ ap (λ r. up_lines plan 0 (take m plan.halves) ++ r) here
    ∙ sym (append_assoc (up_lines plan 0 (take m plan.halves)) (up_lines_of m User (keys_at plan m)) (key_line m key))
    ∙ ap (λ r. r ++ key_line m key) (sym (last_lines plan m plan.halves u))

keys_grow : (program : Program) (s : Stage) (plan : Plan) (low ups : ℕ) (key : Key) (x : List ℕ) → HeldBy s plan low ups → IsTrue (takes_keys s) → x ≡ key_line (ups - 1) key
    → so_by program s plan ups ++ x ≡ so_by program s (with_one plan (ups - 1) key) ups
keys_grow program s plan low ups key x h t e =
    let last = h.user t in
    let some : 1 ≤ ups = last.0 in
    let inside = user_inside plan.halves (ups - 1) last.1 in
    let up : ups - 1 + 1 ≡ ups = omega (arith, some) in
    let there : ups - 1 < length plan.keys = let q = h.halves in let r = h.keys in omega (arith, q, r, inside) in
    let tail : tail_of s ≡ [] = ap tail_of (keying s t) in
    let grown : up_lines (with_one plan (ups - 1) key) 0 (take ups plan.halves) ≡ up_lines plan 0 (take ups plan.halves) ++ x =
    subst (λ n. up_lines (with_one plan (ups - 1) key) 0 (take n plan.halves) ≡ up_lines plan 0 (take n plan.halves) ++ x) up (keys_more plan (ups - 1) key there last.1 ∙ ap (λ z. up_lines plan 0 (take (ups - 1 + 1) plan.halves) ++ z) (sym e)) in
    ups_put (head_of s) (type_lines program 0 plan.types) (function_lines plan 0 plan.names) (down_lines 0 plan.down) (up_lines plan 0 (take ups plan.halves)) (tail_of s) x (up_lines (with_one plan (ups - 1) key) 0 (take ups plan.halves)) (tail_of s) tail grown tail
    ∙ ap (λ f. parts (head_of s) (type_lines program 0 plan.types) f (down_lines 0 plan.down) (up_lines (with_one plan (ups - 1) key) 0 (take ups plan.halves)) (tail_of s)) (same_functions plan (with_one plan (ups - 1) key) refl refl plan.names)

end_grow : (program : Program) (s : Stage) (plan : Plan) (ups : ℕ) → IsTrue (ends s) → so_by program s plan ups ++ ending ≡ so_by program stage.Done plan ups
end_grow program s plan ups t =
    let early = ending_running s t in
    end_put (head_of s) (type_lines program 0 plan.types) (function_lines plan 0 plan.names) (down_lines 0 plan.down) (up_lines plan 0 (take ups plan.halves)) (tail_of s) ending early.1
    ∙ ap (λ g. parts g (type_lines program 0 plan.types) (function_lines plan 0 plan.names) (down_lines 0 plan.down) (up_lines plan 0 (take ups plan.halves)) ending) early.0

all_none : (h t f d u e x : List ℕ) → h ≡ [] → t ≡ [] → f ≡ [] → d ≡ [] → u ≡ [] → e ≡ [] → parts h t f d u e ++ x ≡ parts x t f d u []
all_none h t f d u e x a0 a1 a2 a3 a4 a5 = rw (a0, a1, a2, a3, a4, a5) (sym (append-nil x))

heading_grow : (program : Program) (s : Stage) (plan : Plan) (low ups : ℕ) → HeldBy s plan low ups → IsTrue (begins s) → so_by program s plan ups ++ heading ≡ so_by program stage.Types plan ups
heading_grow program s plan low ups h b =
    let is = begun s b in
    all_none (head_of s) (type_lines program 0 plan.types) (function_lines plan 0 plan.names) (down_lines 0 plan.down) (up_lines plan 0 (take ups plan.halves)) (tail_of s) heading
    (ap head_of is) (ap (type_lines program 0) (h.no_types (subst (λ v. IsTrue (before_types v)) (sym is) refl)))
    (none_of_functions plan plan.names (h.no_functions (subst (λ v. IsTrue (before_functions v)) (sym is) refl)))
    (none_of_downs s plan low ups h (subst (λ v. IsTrue (before_downs v)) (sym is) refl))
    (none_of_ups plan ups plan.halves (h.no_ups (subst (λ v. IsTrue (before_ups v)) (sym is) refl)))
    (ap tail_of is)

-- ---- what is kept

still : {A : Type 0} → false ≡ true → A
still e = absurd (Prim.cc)

held_heading : (s : Stage) (plan : Plan) (low ups : ℕ) → HeldBy s plan low ups → IsTrue (begins s) → HeldBy stage.Types plan low ups
held_heading s plan low ups h b =
    let is = begun s b in
    record {
      halves = h.halves;
      roots = h.roots;
      keys = h.keys;
      no_types = λ q. no q;
      no_functions = λ q. h.no_functions (subst (λ v. IsTrue (before_functions v)) (sym is) refl);
      no_low = λ q. h.no_low (subst (λ v. IsTrue (before_downs v)) (sym is) refl);
      no_ups = λ q. h.no_ups (subst (λ v. IsTrue (before_ups v)) (sym is) refl);
      flags = h.flags;
      later = h.later;
      user = λ q. no q;
      rest = λ q. still q;
    }

held_types : (s : Stage) (plan : Plan) (low ups : ℕ) (ts : List Ty) → HeldBy s plan low ups → IsTrue (takes_types s) → HeldBy s (record plan { types = ts }) low ups
held_types s plan low ups ts h t = record {
  halves = h.halves;
  roots = h.roots;
  keys = h.keys;
  no_types = λ q. no (subst (λ v. IsTrue (before_types v)) (typing s t) q);
  no_functions = h.no_functions;
  no_low = h.no_low;
  no_ups = h.no_ups;
  flags = h.flags;
  later = h.later;
  user = h.user;
  rest = h.rest;
}

later_more : (lists : List (List Key)) (ups : ℕ) → ((j : ℕ) → ups ≤ j → keys_or_none (slice_get lists j) ≡ []) → (j : ℕ) → ups ≤ j → keys_or_none (slice_get (lists ++ [] ∷ []) j) ≡ []
later_more [] ups h zero le = refl
later_more [] ups h (suc j) le = refl
later_more (ks ∷ lists) zero h zero le = h zero le
later_more (ks ∷ lists) (suc ups) h zero le = absurd (omega (arith, le))
later_more (ks ∷ lists) zero h (suc j) le = later_more lists zero (λ i l. h (suc i) (omega arith)) j (omega arith)
later_more (ks ∷ lists) (suc ups) h (suc j) le = later_more lists ups (λ i l. h (suc i) (omega (arith, l))) j (omega (arith, le))

held_function : (s : Stage) (plan : Plan) (low ups : ℕ) (name : List ℕ) (half : Half) (is_root : Bool) → HeldBy s plan low ups → IsTrue (takes_functions s) → HeldBy stage.Functions (with_function plan name half is_root) low ups
held_function s plan low ups name half is_root h t =
    let early = functions_early s t in
    let zero_low : low ≡ 0 = h.no_low early.0 in
    let a = h.halves in let b = h.roots in let c = h.keys in
    let n = length-append plan.names (name ∷ []) in
    let all : IsTrue (list_all not plan.down) = subst (λ m. IsTrue (list_all not (drop m plan.down))) zero_low h.flags in
    record {
      halves = let e = length-append plan.halves (half ∷ []) in omega (arith, a, e, n);
      roots = let e = length-append plan.roots (is_root ∷ []) in omega (arith, b, e, n);
      keys = let e = length-append {A = List Key} plan.keys ([] ∷ []) in omega (arith, c, e, n);
      no_types = λ q. no q;
      no_functions = λ q. no q;
      no_low = λ q. zero_low;
      no_ups = λ q. h.no_ups early.1;
      flags = subst (λ m. IsTrue (list_all not (drop m (plan.down ++ false ∷ [])))) (sym zero_low) (all_more plan.down all);
      later = later_more plan.keys ups h.later;
      user = λ q. no q;
      rest = λ q. still q;
    }

held_down : (s : Stage) (plan : Plan) (low ups k : ℕ) → HeldBy s plan low ups → IsTrue (takes_downs s) → low ≤ k → HeldBy stage.Downs (record plan { down = slice_set plan.down k true }) (k + 1) ups
held_down s plan low ups k h t le =
    let early = downs_early s t in
    record {
      halves = h.halves;
      roots = h.roots;
      keys = h.keys;
      no_types = λ q. no q;
      no_functions = λ q. no q;
      no_low = λ q. no q;
      no_ups = λ q. h.no_ups early.0;
      flags = subst (λ fs. IsTrue (list_all not fs)) (sym (drop_set plan.down k)) (all_later plan.down low (k + 1) (omega (arith, le)) h.flags);
      later = h.later;
      user = λ q. no q;
      rest = λ q. still q;
    }

held_up : (s : Stage) (plan : Plan) (low ups k : ℕ) → HeldBy s plan low ups → ups ≤ k → IsTrue (is_user_half (slice_get plan.halves k)) → HeldBy stage.Ups plan low (k + 1)
held_up s plan low ups k h le u =
    let back : k + 1 - 1 ≡ k = omega arith in
    record {
      halves = h.halves;
      roots = h.roots;
      keys = h.keys;
      no_types = λ q. no q;
      no_functions = λ q. no q;
      no_low = λ q. no q;
      no_ups = λ q. no q;
      flags = h.flags;
      later = λ j jl. h.later j (omega (arith, jl, le));
      user = λ q. (omega arith, subst (λ n. IsTrue (is_user_half (slice_get plan.halves n))) (sym back) u);
      rest = λ q. still q;
    }

held_key : (s : Stage) (plan : Plan) (low ups : ℕ) (key : Key) → HeldBy s plan low ups → IsTrue (takes_keys s) → HeldBy s (with_one plan (ups - 1) key) low ups
held_key s plan low ups key h t =
    let some : 1 ≤ ups = (h.user t).0 in
    let c = h.keys in
    let e = with_key_length (ups - 1) key plan.keys in
    record {
      halves = h.halves;
      roots = h.roots;
      keys = e ∙ c;
      no_types = h.no_types;
      no_functions = h.no_functions;
      no_low = h.no_low;
      no_ups = h.no_ups;
      flags = h.flags;
      later = λ j jl. ap keys_or_none (key_elsewhere (ups - 1) j key plan.keys (λ q. absurd (omega (arith, q, jl, some)))) ∙ h.later j jl;
      user = h.user;
      rest = h.rest;
    }

held_end : (s : Stage) (plan : Plan) (low ups : ℕ) → HeldBy s plan low ups → IsTrue (list_all is_kernel (drop ups plan.halves)) → HeldBy stage.Done plan low ups
held_end s plan low ups h all = record {
  halves = h.halves;
  roots = h.roots;
  keys = h.keys;
  no_types = λ q. no q;
  no_functions = λ q. no q;
  no_low = λ q. no q;
  no_ups = λ q. no q;
  flags = h.flags;
  later = h.later;
  user = λ q. no q;
  rest = λ q. all;
}

-- ---- a line more

less : (a b : ℕ) → IsTrue (nat_lt a b) → a < b
less a b h = (Decides-ltb a b).0 h

at_most : (a b : ℕ) → IsTrue (nat_le a b) → a ≤ b
at_most a b h = grind (arith, h)

-- what an `up` line that may come next says
record NextUser (r : Reader) (k : ℕ) : Type 0 where
  takes : IsTrue (takes_ups r.stage)
  le : r.ups ≤ k
  user : IsTrue (is_user_half (slice_get r.plan.halves k))
  between : IsTrue (list_all is_kernel (take (k - r.ups) (drop r.ups r.plan.halves)))

next_user : (r : Reader) (k : ℕ) → IsTrue (takes_ups r.stage && is_next_user r k) → NextUser r k
unfolding is_next_user
next_user r k h =
    let a = both (takes_ups r.stage) _ h in
    let b = both (nat_le r.ups k && is_user_half (slice_get r.plan.halves k)) _ a.1 in
    let c = both (nat_le r.ups k) (is_user_half (slice_get r.plan.halves k)) b.0 in
    record { takes = a.0; le = at_most r.ups k c.0; user = c.1; between = b.1 }

struct_takes : (r : Reader) (name : List ℕ) → IsNext r (line.Struct name) → IsTrue (takes_types r.stage)
struct_takes r name h =
    let a = both _ (is_new r.structs name) h in
    let b = both _ (nat_lt (length r.structs) (2 ^ 32)) a.0 in
    (both (takes_types r.stage) (length r.plan.types == 9 + length r.structs) b.0).0

-- what a `down` line that may come next says
record NextDown (r : Reader) (k : ℕ) : Type 0 where
  takes : IsTrue (takes_downs r.stage)
  le : r.low ≤ k
  inside : k < length r.plan.down

next_down : (r : Reader) (k : ℕ) → IsTrue (takes_downs r.stage && nat_le r.low k && nat_lt k (length r.plan.down)) → NextDown r k
next_down r k h =
    let a = both (takes_downs r.stage && nat_le r.low k) (nat_lt k (length r.plan.down)) h in
    let b = both (takes_downs r.stage) (nat_le r.low k) a.0 in
    record { takes = b.0; le = at_most r.low k b.1; inside = less k (length r.plan.down) a.1 }

key_takes : (r : Reader) (key : Key) → IsTrue (takes_keys r.stage && is_there (length r.structs) (length r.plan.types) key && is_after r.last_key key) → IsTrue (takes_keys r.stage)
key_takes r key h =
    let a = both (takes_keys r.stage && is_there (length r.structs) (length r.plan.types) key) _ h in
    (both (takes_keys r.stage) _ a.0).0

end_all : (r : Reader) → IsNext r line.End → IsTrue (ends r.stage) × IsTrue (list_all is_kernel (drop r.ups r.plan.halves))
end_all r h =
    let a = both (ends r.stage && nat_lt 8 (length r.plan.types)) _ h in
    ((both (ends r.stage) _ a.0).0, a.1)

line_held : (r : Reader) (l : Line) → HeldNow r → IsNext r l → HeldNow (after r l)
line_held r line.Heading h n = held_heading r.stage r.plan r.low r.ups h n
line_held r line.First h n = held_types r.stage r.plan r.low r.ups _ h (both (takes_types r.stage) _ n).0
line_held r (line.Struct name) h n = held_types r.stage r.plan r.low r.ups _ h (struct_takes r name n)
line_held r (line.Type ty text) h n = held_types r.stage r.plan r.low r.ups _ h (both (takes_types r.stage) _ n.0).0
line_held r (line.Function name half is_root) h n = held_function r.stage r.plan r.low r.ups name half is_root h (both (takes_functions r.stage) _ (both (takes_functions r.stage && nat_lt 8 (length r.plan.types)) _ n).0).0
line_held r (line.Down k) h n = let d = next_down r k n.0 in held_down r.stage r.plan r.low r.ups k h d.takes d.le
line_held r (line.Up k) h n = let u = next_user r k n.0 in held_up r.stage r.plan r.low r.ups k h u.le u.user
line_held r (line.Key key) h n = held_key r.stage r.plan r.low r.ups key h (key_takes r key n.0)
line_held r line.End h n = held_end r.stage r.plan r.low r.ups h (end_all r n).1

line_grows : (program : Program) (r : Reader) (l : Line) → HeldNow r → Begins program (after r l).structs → IsNext r l → so_far program r ++ (line_text r l ++ 10 ∷ []) ≡ so_far program (after r l)
line_grows program r line.Heading h b n = heading_grow program r.stage r.plan r.low r.ups h n
line_grows program r line.First h b n =
    let t = both (takes_types r.stage) _ n in
    types_grow program r.stage r.plan r.low r.ups (first_type (length r.plan.types)) _ h t.0 (type_line_is program (length r.plan.types) (first_type (length r.plan.types)) (first_text (length r.plan.types)) (first_is program (length r.plan.types) (less (length r.plan.types) 9 t.1)))
line_grows program r (line.Struct name) h b n =
    types_grow program r.stage r.plan r.low r.ups (type.Struct (length r.structs)) _ h (struct_takes r name n) (type_line_is program (length r.plan.types) (type.Struct (length r.structs)) (codes "struct " ++ name) (struct_text program r.structs name b))
line_grows program r (line.Type ty text) h b n =
    types_grow program r.stage r.plan r.low r.ups ty _ h (both (takes_types r.stage) _ n.0).0 (type_line_is program (length r.plan.types) ty text (pointer_text program r.structs ty text b n.1))
line_grows program r (line.Function name half is_root) h b n =
    functions_grow program r.stage r.plan r.low r.ups name half is_root _ h (both (takes_functions r.stage) _ (both (takes_functions r.stage && nat_lt 8 (length r.plan.types)) _ n).0).0 (function_line_is (length r.plan.names) name half is_root)
line_grows program r (line.Down k) h b n =
    let d = next_down r k n.0 in
    downs_grow program r.stage r.plan r.low r.ups k _ h d.takes d.le d.inside refl
line_grows program r (line.Up k) h b n =
    let u = next_user r k n.0 in
    ups_grow program r.stage r.plan r.low r.ups k _ h u.takes u.le u.user u.between refl
line_grows program r (line.Key key) h b n = keys_grow program r.stage r.plan r.low r.ups key _ h (key_takes r key n.0) (key_line_is (r.ups - 1) key)
line_grows program r line.End h b n = end_grow program r.stage r.plan r.ups (end_all r n).0

fewer_names : (program : Program) (r : Reader) (l : Line) → Begins program (after r l).structs → Begins program r.structs
fewer_names program r line.Heading b = b
fewer_names program r line.First b = b
fewer_names program r (line.Struct name) b = fewer program r.structs name b
fewer_names program r (line.Type ty text) b = b
fewer_names program r (line.Function name half is_root) b = b
fewer_names program r (line.Down k) b = b
fewer_names program r (line.Up k) b = b
fewer_names program r (line.Key key) b = b
fewer_names program r line.End b = b

-- ---- all lines

none_later : (j : ℕ) → keys_at start.plan j ≡ []
none_later j = refl

pub held : (bytes : List ℕ) (n : ℕ) (r : Reader) → Reached bytes n r → HeldNow r
held _ _ _ Begun = record {
  halves = refl;
  roots = refl;
  keys = refl;
  no_types = λ q. refl;
  no_functions = λ q. refl;
  no_low = λ q. refl;
  no_ups = λ q. refl;
  flags = refl;
  later = λ j le. none_later j;
  user = λ q. no q;
  rest = λ q. still q;
}
held _ _ _ (Then text bytes n r l before reads) = line_held r l (held text n r before) reads.next

pub read_so_far : (program : Program) (bytes : List ℕ) (n : ℕ) (r : Reader) → Reached bytes n r → Begins program r.structs → bytes ≡ so_far program r
read_so_far program _ _ _ Begun b = refl
read_so_far program _ _ _ (Then text bytes n r l before reads) b =
    ap (λ bs. text ++ (bs ++ 10 ∷ [])) (sym reads.same)
    ∙ ap (λ bs. bs ++ (line_text r l ++ 10 ∷ [])) (read_so_far program text n r before (fewer_names program r l b))
    ∙ line_grows program r l (held text n r before) b reads.next

done_is : (s : Stage) → is_done s ≡ true → s ≡ stage.Done
done_is stage.Start e = still e
done_is stage.Types e = still e
done_is stage.Functions e = still e
done_is stage.Downs e = still e
done_is stage.Ups e = still e
done_is stage.Done e = refl

all_ups : (plan : Plan) (ups : ℕ) → IsTrue (list_all is_kernel (drop ups plan.halves)) → up_lines plan 0 (take ups plan.halves) ≡ up_lines plan 0 plan.halves
all_ups plan ups all =
    sym (append-nil (up_lines plan 0 (take ups plan.halves)))
    ∙ ap (λ r. up_lines plan 0 (take ups plan.halves) ++ r) (sym (no_ups plan (0 + length (take ups plan.halves)) (drop ups plan.halves) all))
    ∙ sym (up_lines_joined plan 0 (take ups plan.halves) (drop ups plan.halves))
    ∙ ap (up_lines plan 0) (take-append-drop ups plan.halves)

whole_by : (program : Program) (s : Stage) (plan : Plan) (ups : ℕ) → s ≡ stage.Done → IsTrue (list_all is_kernel (drop ups plan.halves)) → plan_text program plan ≡ so_by program s plan ups
unfolding plan_text
whole_by program s plan ups e all =
    ap (λ u. parts heading (type_lines program 0 plan.types) (function_lines plan 0 plan.names) (down_lines 0 plan.down) u ending) (sym (all_ups plan ups all))
    ∙ ap (λ v. so_by program v plan ups) (sym e)

pub text_in : (program : Program) (bytes : List ℕ) (plan : Plan) (h : IsPlanText bytes plan) → struct_names program ≡ h.reader.structs → plan_text program plan ≡ bytes
text_in program bytes plan h e =
    ap (plan_text program) (sym h.same)
    ∙ whole_by program h.reader.stage h.reader.plan h.reader.ups (done_is h.reader.stage h.done) ((held bytes h.lines h.reader h.reached).rest h.done)
    ∙ sym (read_so_far program bytes h.lines h.reader h.reached (record { more = []; same = e ∙ sym (append-nil h.reader.structs) }))

pub text_is : (bytes : List ℕ) (plan : Plan) → IsPlanText bytes plan → IsTextOf bytes plan
text_is bytes plan h = record { names = h.reader.structs; text = λ program e. text_in program bytes plan h e }
