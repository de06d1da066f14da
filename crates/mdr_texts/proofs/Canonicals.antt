-- A plan that has its lines in order is read from its text: each of them may follow those before it.
use Rattle.std.proofs.Common.{◌≡◌, ℕ, zero, suc, Bool, true, false, ◌&&◌, ◌+◌, ◌-◌, ◌^◌, ◌<◌, ◌≤◌, ◌==◌, List, [], ◌∷◌, ◌++◌, length, take, drop, Option, Some, None, IsTrue, nat_lt, nat_le, slice_get, slice_set, refl, sym, ap, subst, ◌∙◌, arith, append_assoc, length-append}
use Rattle.std.specs.List.{list_all}
use Rattle.std.proofs.lemmas.Bool.Decides.{Decides-ltb}
use Rattle.std.proofs.lemmas.List.{append-nil}
use Rattle.mdr_core.specs.declared.plan.Half.{Half}
use Rattle.mdr_core.specs.declared.plan.Half.TheVariants.{Kernel, User}
use Rattle.mdr_core.specs.declared.plan.Key.{Key}
use Rattle.mdr_core.specs.declared.plan.Plan.{Plan}
use Rattle.mdr_core.specs.declared.program.Program.{Program}
use Rattle.mdr_core.specs.declared.types.Ty.{Ty}
use Rattle.mdr_core.specs.declared.types.Ty.TheVariants as type
use Rattle.mdr_half.specs.Plans.{plan_text}
use Rattle.mdr_plan.specs.declared.line.Line.{Line}
use Rattle.mdr_plan.specs.declared.line.Line.TheVariants as line
use Rattle.mdr_plan.specs.declared.line.Stage.{Stage}
use Rattle.mdr_plan.specs.declared.line.Stage.TheVariants as stage
use Rattle.mdr_plan.specs.declared.reader.Reader.{Reader}
use Rattle.mdr_plan.specs.Naming.{is_new}
use Rattle.mdr_plan.specs.Lines.{takes_functions, takes_downs, takes_ups, ends, is_kernel, is_user_half, is_next_user, is_there, is_after, line_text, IsNext}
use Rattle.mdr_plan.specs.Steps.{Reached, after, start, first_type, key_added, with_key}
use Rattle.mdr_plan.specs.Steps.Reached.{Begun, Then}
use Rattle.mdr_plan.specs.Texts.{IsPlanText, is_done}
use Rattle.mdr_texts.specs.PlanTexts.{struct_names}
use Rattle.mdr_texts.specs.Canonical.{IsCanonical, AreNew, ArePointers, AreKeys, AreKeyed, first_types, struct_types}
use Rattle.mdr_texts.specs.Canonical.ArePointers.{NoPointers, Pointer}
use Rattle.mdr_texts.specs.Canonical.AreKeys.{NoKeys, Behind}
use Rattle.mdr_texts.specs.Canonical.AreKeyed.{NoFunctions, OfKernel, OfUser}
use Rattle.mdr_texts.proofs.Growing.{text_in}

-- ---- tests

and_true : (a b : Bool) → IsTrue a → IsTrue b → IsTrue (a && b)
and_true true b p q = q
and_true false b p q = p

no : {A : Type 0} → IsTrue false → A
no h = let q : false ≡ true = h in absurd (Prim.cc)

less_true : (a b : ℕ) → a < b → IsTrue (nat_lt a b)
less_true a b lt = (Decides-ltb a b).1 lt

most_true : (a b : ℕ) → a ≤ b → IsTrue (nat_le a b)
most_true a b le = grind (arith, le)

same_true : (a b : ℕ) → a ≡ b → IsTrue (a == b)
same_true a b e = grind (arith, e)

-- ---- lists

get_at : {A : Type 0} (xs : List A) (y : A) (ys : List A) → slice_get (xs ++ y ∷ ys) (length xs) ≡ Some y
get_at [] y ys = refl
get_at (x ∷ xs) y ys = get_at xs y ys

set_at : {A : Type 0} (xs : List A) (y z : A) (ys : List A) → slice_set (xs ++ y ∷ ys) (length xs) z ≡ xs ++ z ∷ ys
set_at [] y z ys = refl
set_at (x ∷ xs) y z ys = ap (λ r. x ∷ r) (set_at xs y z ys)

drop_front : {A : Type 0} (xs ys : List A) → drop (length xs) (xs ++ ys) ≡ ys
drop_front [] ys = refl
drop_front (x ∷ xs) ys = drop_front xs ys

take_front : {A : Type 0} (xs ys : List A) → take (length xs) (xs ++ ys) ≡ xs
take_front [] ys = refl
take_front (x ∷ xs) ys = ap (λ r. x ∷ r) (take_front xs ys)

abbrev falses : ℕ → List Bool
falses zero = []
falses (suc n) = false ∷ falses n

abbrev nones : ℕ → List (List Key)
nones zero = []
nones (suc n) = [] ∷ nones n

all_more : (hs : List Half) → IsTrue (list_all is_kernel hs) → IsTrue (list_all is_kernel (hs ++ Kernel ∷ []))
all_more [] h = refl
all_more (Kernel ∷ hs) h = all_more hs h
all_more (User ∷ hs) h = no h

-- ---- what was read, field by field

abbrev reader_at : Stage → List (List ℕ) → List ℕ → Plan → (low ups : ℕ) → Option Key → Reader
reader_at s structs last plan low ups key = record { stage = s; structs = structs; last = last; plan = plan; low = low; ups = ups; last_key = key }

abbrev plan_of : List Ty → List (List ℕ) → List Half → (roots down : List Bool) → List (List Key) → Plan
plan_of types names halves roots down keys = record { types = types; names = names; halves = halves; roots = roots; down = down; keys = keys }

abbrev typing : List (List ℕ) → List ℕ → List Ty → Reader
typing structs last types = reader_at stage.Types structs last (plan_of types [] [] [] [] []) 0 0 None

abbrev listed : Stage → List (List ℕ) → List ℕ → List Ty → List (List ℕ) → List Half → (roots down : List Bool) → List (List Key) → Reader
listed s structs last types names halves roots down keys = reader_at s structs last (plan_of types names halves roots down keys) 0 0 None

-- the plan was read to its end
record Read (wanted : List (List ℕ)) (plan : Plan) : Type 0 where
  bytes : List ℕ
  lines : ℕ
  reader : Reader
  reached : Reached bytes lines reader
  done : is_done reader.stage ≡ true
  same : reader.plan ≡ plan
  structs : reader.structs ≡ wanted

-- from here lines that may follow lead to the plan's end
abbrev Arrives : List (List ℕ) → Plan → Reader → Type 0
Arrives wanted plan r = (text : List ℕ) (n : ℕ) → Reached text n r → Read wanted plan

-- the stage behind the lines of functions
abbrev behind : Stage → List (List ℕ) → Stage
behind s [] = s
behind s (n ∷ ns) = behind stage.Functions ns

behind_functions : (ns : List (List ℕ)) → behind stage.Functions ns ≡ stage.Functions
behind_functions [] = refl
behind_functions (n ∷ ns) = behind_functions ns

takes_ups_of : (s : Stage) → IsTrue (takes_downs s) → IsTrue (takes_ups s)
takes_ups_of stage.Start h = no h
takes_ups_of stage.Types h = no h
takes_ups_of stage.Functions h = refl
takes_ups_of stage.Downs h = refl
takes_ups_of stage.Ups h = no h
takes_ups_of stage.Done h = no h

ends_of : (s : Stage) → IsTrue (takes_ups s) → IsTrue (ends s)
ends_of stage.Start h = no h
ends_of stage.Types h = no h
ends_of stage.Functions h = refl
ends_of stage.Downs h = refl
ends_of stage.Ups h = refl
ends_of stage.Done h = no h

struct_next : (done : List (List ℕ)) (types : List Ty) (name : List ℕ) → length types ≡ 9 + length done → length done < 2 ^ 32 → IsTrue (is_new done name) → IsNext (typing done [] types) (line.Struct name)
struct_next done types name e lt new =
    and_true ((length types == 9 + length done) && nat_lt (length done) (2 ^ 32)) (is_new done name)
    (and_true (length types == 9 + length done) (nat_lt (length done) (2 ^ 32)) (same_true (length types) (9 + length done) e) (less_true (length done) (2 ^ 32) lt)) new

function_next : (s : Stage) (structs : List (List ℕ)) (last : List ℕ) (types : List Ty) (ns : List (List ℕ)) (hs : List Half) (rs fs : List Bool) (ks : List (List Key)) (n : List ℕ) (h : Half) (r : Bool)
    → IsTrue (takes_functions s) → 9 ≤ length types → IsTrue (is_new ns n) → IsNext (listed s structs last types ns hs rs fs ks) (line.Function n h r)
function_next s structs last types ns hs rs fs ks n h r t le new =
    and_true (takes_functions s && nat_lt 8 (length types)) (is_new ns n) (and_true (takes_functions s) (nat_lt 8 (length types)) t (less_true 8 (length types) (omega (arith, le)))) new

module _ (wanted : List (List ℕ)) (whole : Plan) where
  next : (r : Reader) (l : Line) → IsNext r l → Arrives wanted whole (after r l) → Arrives wanted whole r
  next r l ok go text n reached = go (text ++ (line_text r l ++ 10 ∷ [])) (n + 1) (Then text (line_text r l) n r l reached (record { next = ok; same = refl }))

  typing_at : (structs structs' : List (List ℕ)) (last : List ℕ) (types types' : List Ty) → structs ≡ structs' → types ≡ types' → Arrives wanted whole (typing structs last types) → Arrives wanted whole (typing structs' last types')
  typing_at structs structs' last types types' a b go =
      subst (λ z. Arrives wanted whole (typing structs' last z)) b (subst (λ z. Arrives wanted whole (typing z last types)) a go)

  heading_on : Arrives wanted whole (typing [] [] []) → Arrives wanted whole start
  heading_on go = next start line.Heading refl go

  firsts_on : Arrives wanted whole (typing [] [] first_types) → Arrives wanted whole (typing [] [] [])
  unfolding first_type
  firsts_on go =
      next (typing [] [] []) line.First refl (next _ line.First refl (next _ line.First refl (next _ line.First refl (next _ line.First refl (next _ line.First refl (next _ line.First refl (next _ line.First refl (next _ line.First refl go))))))))

  structs_on : (k : ℕ) (done : List (List ℕ)) (types : List Ty) (rest : List (List ℕ)) → k ≡ length done → length types ≡ 9 + k → k + length rest ≤ 2 ^ 32 → AreNew done rest
      → Arrives wanted whole (typing (done ++ rest) [] (types ++ struct_types k rest)) → Arrives wanted whole (typing done [] types)
  structs_on k done types [] e t few new go = typing_at (done ++ []) done [] (types ++ []) types (append-nil done) (append-nil types) go
  structs_on k done types (name ∷ rest) e t few new go =
      let n = length-append done (name ∷ []) in
      let m = length-append types (type.Struct (length done) ∷ []) in
      next (typing done [] types) (line.Struct name) (struct_next done types name (t ∙ ap (λ i. 9 + i) e) (omega (arith, e, few)) new.0)
      (structs_on (k + 1) (done ++ name ∷ []) (types ++ type.Struct (length done) ∷ []) rest (omega (arith, e, n)) (omega (arith, t, m)) (omega (arith, few)) new.1
      (typing_at (done ++ name ∷ rest) _ [] (types ++ struct_types k (name ∷ rest)) _ (sym (append_assoc done (name ∷ []) rest))
      (ap (λ i. types ++ type.Struct i ∷ struct_types (k + 1) rest) e ∙ sym (append_assoc types (type.Struct (length done) ∷ []) (struct_types (k + 1) rest))) go))

  pointers_on : (structs : List (List ℕ)) (last : List ℕ) (types rest : List Ty) → 9 ≤ length types → ArePointers structs last rest
      → ((l : List ℕ) → Arrives wanted whole (typing structs l (types ++ rest))) → Arrives wanted whole (typing structs last types)
  pointers_on structs last types _ le (NoPointers _) go = typing_at structs structs last (types ++ []) types refl (append-nil types) (go last)
  pointers_on structs last types _ le (Pointer _ text ty rest is before more) go =
      let n = length-append types (ty ∷ []) in
      next (typing structs last types) (line.Type ty text) (less_true 8 (length types) (omega (arith, le)), is, before)
      (pointers_on structs text (types ++ ty ∷ []) rest (omega (arith, le, n)) more (λ l. typing_at structs structs l (types ++ ty ∷ rest) _ refl (sym (append_assoc types (ty ∷ []) rest)) (go l)))

  listed_at : (s : Stage) (structs : List (List ℕ)) (last : List ℕ) (types : List Ty) (ns ns' : List (List ℕ)) (hs hs' : List Half) (rs rs' fs fs' : List Bool) (ks ks' : List (List Key))
      → ns ≡ ns' → hs ≡ hs' → rs ≡ rs' → fs ≡ fs' → ks ≡ ks' → Arrives wanted whole (listed s structs last types ns hs rs fs ks) → Arrives wanted whole (listed s structs last types ns' hs' rs' fs' ks')
  listed_at s structs last types ns ns' hs hs' rs rs' fs fs' ks ks' a b c d e go =
      subst (λ z. Arrives wanted whole (listed s structs last types ns' hs' rs' fs' z)) e
      (subst (λ z. Arrives wanted whole (listed s structs last types ns' hs' rs' z ks)) d
      (subst (λ z. Arrives wanted whole (listed s structs last types ns' hs' z fs ks)) c
      (subst (λ z. Arrives wanted whole (listed s structs last types ns' z rs fs ks)) b
      (subst (λ z. Arrives wanted whole (listed s structs last types z hs rs fs ks)) a go))))

  functions_on : (s : Stage) (structs : List (List ℕ)) (last : List ℕ) (types : List Ty) (ns : List (List ℕ)) (hs : List Half) (rs fs : List Bool) (ks : List (List Key)) (names : List (List ℕ)) (halves : List Half) (roots : List Bool)
      → IsTrue (takes_functions s) → 9 ≤ length types → AreNew ns names → length halves ≡ length names → length roots ≡ length names
      → Arrives wanted whole (listed (behind s names) structs last types (ns ++ names) (hs ++ halves) (rs ++ roots) (fs ++ falses (length names)) (ks ++ nones (length names)))
      → Arrives wanted whole (listed s structs last types ns hs rs fs ks)
  functions_on s structs last types ns hs rs fs ks [] [] [] t le new a b go =
      listed_at s structs last types (ns ++ []) ns (hs ++ []) hs (rs ++ []) rs (fs ++ []) fs (ks ++ []) ks (append-nil ns) (append-nil hs) (append-nil rs) (append-nil fs) (append-nil ks) go
  functions_on s structs last types ns hs rs fs ks [] [] (r ∷ roots) t le new a b go = absurd (omega (arith, b))
  functions_on s structs last types ns hs rs fs ks [] (h ∷ halves) roots t le new a b go = absurd (omega (arith, a))
  functions_on s structs last types ns hs rs fs ks (n ∷ names) [] roots t le new a b go = absurd (omega (arith, a))
  functions_on s structs last types ns hs rs fs ks (n ∷ names) (h ∷ halves) [] t le new a b go = absurd (omega (arith, b))
  functions_on s structs last types ns hs rs fs ks (n ∷ names) (h ∷ halves) (r ∷ roots) t le new a b go =
      next (listed s structs last types ns hs rs fs ks) (line.Function n h r) (function_next s structs last types ns hs rs fs ks n h r t le new.0)
      (functions_on stage.Functions structs last types (ns ++ n ∷ []) (hs ++ h ∷ []) (rs ++ r ∷ []) (fs ++ false ∷ []) (ks ++ [] ∷ []) names halves roots refl le new.1 (omega (arith, a)) (omega (arith, b))
      (listed_at (behind stage.Functions names) structs last types (ns ++ n ∷ names) _ (hs ++ h ∷ halves) _ (rs ++ r ∷ roots) _ (fs ++ false ∷ falses (length names)) _ (ks ++ [] ∷ nones (length names)) _
      (sym (append_assoc ns (n ∷ []) names)) (sym (append_assoc hs (h ∷ []) halves)) (sym (append_assoc rs (r ∷ []) roots)) (sym (append_assoc fs (false ∷ []) (falses (length names)))) (sym (append_assoc ks ([] ∷ []) (nones (length names)))) go))

-- ---- stubs and keys

module _ (wanted : List (List ℕ)) (whole : Plan) (structs : List (List ℕ)) (last : List ℕ) (types : List Ty) (names : List (List ℕ)) (halves : List Half) (roots : List Bool) where
  abbrev state : Stage → (low ups : ℕ) → Option Key → (down : List Bool) → List (List Key) → Reader
  state s low ups key down keys = reader_at s structs last (plan_of types names halves roots down keys) low ups key

  abbrev Goes : Reader → Type 0
  Goes r = Arrives wanted whole r

  down_next : (s : Stage) (low k : ℕ) (down : List Bool) (keys : List (List Key)) → IsTrue (takes_downs s) → low ≤ k → k < length down → k < 2 ^ 64 → IsNext (state s low 0 None down keys) (line.Down k)
  down_next s low k down keys t le lt few =
      (and_true (takes_downs s && nat_le low k) (nat_lt k (length down)) (and_true (takes_downs s) (nat_le low k) t (most_true low k le)) (less_true k (length down) lt), few)

  downs_on : (s : Stage) (low : ℕ) (done rest : List Bool) (keys : List (List Key)) → IsTrue (takes_downs s) → low ≤ length done → length done + length rest ≤ 2 ^ 64
      → ((t : Stage) (l : ℕ) → IsTrue (takes_downs t) → Goes (state t l 0 None (done ++ rest) keys)) → Goes (state s low 0 None (done ++ falses (length rest)) keys)
  downs_on s low done [] keys t le few go = go s low t
  downs_on s low done (false ∷ rest) keys t le few go =
      let n = length-append done (false ∷ []) in
      subst (λ z. Goes (state s low 0 None z keys)) (append_assoc done (false ∷ []) (falses (length rest)))
      (downs_on s low (done ++ false ∷ []) rest keys t (omega (arith, le, n)) (omega (arith, few, n)) (λ u l q. subst (λ z. Goes (state u l 0 None z keys)) (sym (append_assoc done (false ∷ []) rest)) (go u l q)))
  downs_on s low done (true ∷ rest) keys t le few go =
      let n = length-append done (true ∷ []) in
      let m = length-append done (false ∷ falses (length rest)) in
      next wanted whole (state s low 0 None (done ++ false ∷ falses (length rest)) keys) (line.Down (length done)) (down_next s low (length done) (done ++ false ∷ falses (length rest)) keys t le (omega (arith, m)) (omega (arith, few)))
      (subst (λ z. Goes (state stage.Downs (length done + 1) 0 None z keys)) (append_assoc done (true ∷ []) (falses (length rest)) ∙ sym (set_at done false true (falses (length rest))))
      (downs_on stage.Downs (length done + 1) (done ++ true ∷ []) rest keys refl (omega (arith, n)) (omega (arith, few, n)) (λ u l q. subst (λ z. Goes (state u l 0 None z keys)) (sym (append_assoc done (true ∷ []) rest)) (go u l q))))

  with_key_is : (n : ℕ) (key : Key) (kd : List (List Key)) (done : List Key) (more : List (List Key)) → n ≡ length kd → with_key (n + 1 - 1) key (kd ++ done ∷ more) ≡ kd ++ (done ++ key ∷ []) ∷ more
  unfolding with_key
  with_key_is n key kd done more e =
      let back : n + 1 - 1 ≡ length kd = omega (arith, e) in
      ap (λ m. key_added (slice_get (kd ++ done ∷ more) m) m key (kd ++ done ∷ more)) back
      ∙ ap (λ o. key_added o (length kd) key (kd ++ done ∷ more)) (get_at kd done more)
      ∙ set_at kd done (done ++ key ∷ []) more

  keys_on : (low : ℕ) (down : List Bool) (n : ℕ) (kd : List (List Key)) (done rest : List Key) (more : List (List Key)) (key : Option Key) → n ≡ length kd → AreKeys (length structs) (length types) key rest
      → ((l : Option Key) → Goes (state stage.Ups low (n + 1) l down (kd ++ (done ++ rest) ∷ more))) → Goes (state stage.Ups low (n + 1) key down (kd ++ done ∷ more))
  keys_on low down n kd done _ more key e (NoKeys _) go = subst (λ z. Goes (state stage.Ups low (n + 1) key down (kd ++ z ∷ more))) (append-nil done) (go key)
  keys_on low down n kd done _ more key e (Behind _ one rest there rises small keys) go =
      next wanted whole (state stage.Ups low (n + 1) key down (kd ++ done ∷ more)) (line.Key one) (and_true (is_there (length structs) (length types) one) (is_after key one) there rises, small)
      (subst (λ z. Goes (state stage.Ups low (n + 1) (Some one) down z)) (sym (with_key_is n one kd done more e))
      (keys_on low down n kd (done ++ one ∷ []) rest more (Some one) e keys (λ l. subst (λ z. Goes (state stage.Ups low (n + 1) l down (kd ++ z ∷ more))) (sym (append_assoc done (one ∷ []) rest)) (go l))))

  up_next : (s : Stage) (low : ℕ) (key : Option Key) (down : List Bool) (keys : List (List Key)) (front mid rest : List Half) → halves ≡ front ++ (mid ++ User ∷ rest) → IsTrue (list_all is_kernel mid) → IsTrue (takes_ups s) → length halves ≤ 2 ^ 64
      → IsNext (state s low (length front) key down keys) (line.Up (length front + length mid))
  unfolding is_next_user
  up_next s low key down keys front mid rest e all t few =
      let k : ℕ = length front + length mid in
      let n : length (front ++ mid) ≡ k = length-append front mid in
      let got : slice_get halves k ≡ Some User =
      ap (λ z. slice_get z k) (e ∙ sym (append_assoc front mid (User ∷ rest))) ∙ ap (λ m. slice_get ((front ++ mid) ++ User ∷ rest) m) (sym n) ∙ get_at (front ++ mid) User rest in
      let less : k - length front ≡ length mid = omega arith in
      let between : take (k - length front) (drop (length front) halves) ≡ mid =
      ap (λ m. take m (drop (length front) halves)) less ∙ ap (λ z. take (length mid) (drop (length front) z)) e ∙ ap (λ z. take (length mid) z) (drop_front front (mid ++ User ∷ rest)) ∙ take_front mid (User ∷ rest) in
      let user : IsTrue (is_user_half (slice_get halves k)) = subst (λ o. IsTrue (is_user_half o)) (sym got) refl in
      let kernel : IsTrue (list_all is_kernel (take (k - length front) (drop (length front) halves))) = subst (λ z. IsTrue (list_all is_kernel z)) (sym between) all in
      let a : length halves ≡ length front + (length mid + suc (length rest)) = ap length e ∙ length-append front (mid ++ User ∷ rest) ∙ ap (λ m. length front + m) (length-append mid (User ∷ rest)) in
      (and_true (takes_ups s) _ t (and_true (nat_le (length front) k && is_user_half (slice_get halves k)) _ (and_true (nat_le (length front) k) _ (most_true (length front) k (omega arith)) user) kernel), omega (arith, a, few))

  ups_on : (s : Stage) (low : ℕ) (down : List Bool) (front mid rest : List Half) (kd lists : List (List Key)) (key : Option Key) → halves ≡ front ++ (mid ++ rest) → IsTrue (list_all is_kernel mid) → length kd ≡ length front + length mid
      → IsTrue (takes_ups s) → length halves ≤ 2 ^ 64 → AreKeyed (length structs) (length types) rest lists
      → ((t : Stage) (u : ℕ) (l : Option Key) → IsTrue (ends t) → IsTrue (list_all is_kernel (drop u halves)) → Goes (state t low u l down (kd ++ lists)))
      → Goes (state s low (length front) key down (kd ++ nones (length rest)))
  ups_on s low down front mid _ kd _ key e all len t few NoFunctions go =
      go s (length front) key (ends_of s t) (subst (λ z. IsTrue (list_all is_kernel z)) (sym (ap (drop (length front)) e ∙ drop_front front (mid ++ []) ∙ append-nil mid)) all)
  ups_on s low down front mid _ kd _ key e all len t few (OfKernel rest lists keyed) go =
      let n = length-append mid (Kernel ∷ []) in
      let m = length-append {A = List Key} kd ([] ∷ []) in
      subst (λ z. Goes (state s low (length front) key down z)) (append_assoc kd ([] ∷ []) (nones (length rest)))
      (ups_on s low down front (mid ++ Kernel ∷ []) rest (kd ++ [] ∷ []) lists key (e ∙ ap (λ z. front ++ z) (sym (append_assoc mid (Kernel ∷ []) rest))) (all_more mid all) (omega (arith, len, n, m)) t few keyed
      (λ u i l en k. subst (λ z. Goes (state u low i l down z)) (sym (append_assoc kd ([] ∷ []) lists)) (go u i l en k)))
  ups_on s low down front mid _ kd _ key e all len t few (OfUser rest keys lists are keyed) go =
      let n = length-append mid (User ∷ []) in
      let n2 = length-append front (mid ++ User ∷ []) in
      let m = length-append kd (keys ∷ []) in
      let k : ℕ = length front + length mid in
      let here : length (front ++ (mid ++ User ∷ [])) ≡ k + 1 = omega (arith, n, n2) in
      next wanted whole (state s low (length front) key down (kd ++ [] ∷ nones (length rest))) (line.Up k) (up_next s low key down (kd ++ [] ∷ nones (length rest)) front mid rest e all t few)
      (keys_on low down k kd [] keys (nones (length rest)) None (sym len) are
      (λ l. subst (λ z. Goes (state stage.Ups low (k + 1) l down z)) (append_assoc kd (keys ∷ []) (nones (length rest)))
      (subst (λ i. Goes (state stage.Ups low i l down ((kd ++ keys ∷ []) ++ nones (length rest)))) here
      (ups_on stage.Ups low down (front ++ (mid ++ User ∷ [])) [] rest (kd ++ keys ∷ []) lists l (e ∙ ap (λ z. front ++ z) (sym (append_assoc mid (User ∷ []) rest)) ∙ sym (append_assoc front (mid ++ User ∷ []) rest)) refl (omega (arith, len, n, n2, m)) refl few keyed
      (λ u i o en q. subst (λ z. Goes (state u low i o down z)) (sym (append_assoc kd (keys ∷ []) lists)) (go u i o en q))))))

  end_on : (s : Stage) (low ups : ℕ) (key : Option Key) (down : List Bool) (keys : List (List Key)) → IsTrue (ends s) → 9 ≤ length types → IsTrue (list_all is_kernel (drop ups halves)) → plan_of types names halves roots down keys ≡ whole → structs ≡ wanted
      → Goes (state s low ups key down keys)
  end_on s low ups key down keys t le all e f =
      next wanted whole (state s low ups key down keys) line.End
      (and_true (ends s && nat_lt 8 (length types)) _ (and_true (ends s) _ t (less_true 8 (length types) (omega (arith, le)))) all)
      (λ text n reached. record { bytes = text; lines = n; reader = after (state s low ups key down keys) line.End; reached = reached; done = refl; same = e; structs = f })

-- ---- the whole

none_in : {A : Type 0} (xs : List A) → length xs ≡ 0 → xs ≡ []
none_in [] e = refl
none_in (x ∷ xs) e = absurd (omega (arith, e))

keyed_length : (structs types : ℕ) (hs : List Half) (lists : List (List Key)) → AreKeyed structs types hs lists → length lists ≡ length hs
keyed_length structs types _ _ NoFunctions = refl
keyed_length structs types _ _ (OfKernel hs lists k) = ap suc (keyed_length structs types hs lists k)
keyed_length structs types _ _ (OfUser hs keys lists are k) = ap suc (keyed_length structs types hs lists k)

-- behind the types
rest_on : (structs : List (List ℕ)) (last : List ℕ) (types : List Ty) (names : List (List ℕ)) (halves : List Half) (roots down : List Bool) (keys : List (List Key))
    → 9 ≤ length types → AreNew [] names → length names ≤ 2 ^ 64 → length halves ≡ length names → length roots ≡ length names → length down ≡ length names → AreKeyed (length structs) (length types) halves keys
    → Arrives structs (plan_of types names halves roots down keys) (typing structs last types)
rest_on structs last types [] [] [] [] [] le new few a b c d = end_on structs (plan_of types [] [] [] [] []) structs last types [] [] [] stage.Types 0 0 None [] [] refl le refl refl refl
rest_on structs last types [] [] [] [] (k ∷ keys) le new few a b c d = let q = keyed_length (length structs) (length types) [] (k ∷ keys) d in absurd (omega (arith, q))
rest_on structs last types [] [] [] (f ∷ down) keys le new few a b c d = absurd (omega (arith, c))
rest_on structs last types [] [] (r ∷ roots) down keys le new few a b c d = absurd (omega (arith, b))
rest_on structs last types [] (h ∷ halves) roots down keys le new few a b c d = absurd (omega (arith, a))
rest_on structs last types (n ∷ names) halves roots down keys le new few a b c d =
    let whole : Plan = plan_of types (n ∷ names) halves roots down keys in
    functions_on structs whole stage.Types structs last types [] [] [] [] [] (n ∷ names) halves roots refl le new a b
    (subst (λ s. Arrives structs whole (listed s structs last types (n ∷ names) halves roots (falses (length (n ∷ names))) (nones (length (n ∷ names))))) (sym (behind_functions names))
    (subst (λ i. Arrives structs whole (listed stage.Functions structs last types (n ∷ names) halves roots (falses i) (nones (length (n ∷ names))))) c
    (downs_on structs whole structs last types (n ∷ names) halves roots stage.Functions 0 [] down (nones (length (n ∷ names))) refl (omega arith) (omega (arith, few, c))
    (λ s low t. subst (λ i. Arrives structs whole (reader_at s structs last (plan_of types (n ∷ names) halves roots down (nones i)) low 0 None)) a
    (ups_on structs whole structs last types (n ∷ names) halves roots s low down [] [] halves [] keys None refl refl refl (takes_ups_of s t) (omega (arith, few, a)) d
    (λ u i l en all. end_on structs whole structs last types (n ∷ names) halves roots u low i l down keys en le all refl refl))))))

pub canonical_is_read : (program : Program) (plan : Plan) → IsCanonical (struct_names program) plan → IsPlanText (plan_text program plan) plan
canonical_is_read program plan c =
    let names : List (List ℕ) = struct_names program in
    let n = length-append first_types (struct_types 0 names ++ c.pointers) in
    let m = length-append first_types (struct_types 0 names) in
    let le : 9 ≤ length plan.types = let e = ap length c.types in omega (arith, e, n) in
    let few : 0 + length names ≤ 2 ^ 32 = let q = c.few_structs in omega (arith, q) in
    let le2 : 9 ≤ length (first_types ++ struct_types 0 names) = omega (arith, m) in
    let read : Read names plan =
    heading_on names plan (firsts_on names plan (structs_on names plan 0 [] first_types names refl refl few c.structs
    (pointers_on names plan names [] (first_types ++ struct_types 0 names) c.pointers le2 c.rise
    (λ l. typing_at names plan names names l plan.types _ refl (c.types ∙ sym (append_assoc first_types (struct_types 0 names) c.pointers))
    (rest_on names l plan.types plan.names plan.halves plan.roots plan.down plan.keys le c.functions c.few c.halves c.roots c.down c.keys))))) [] 0 Begun in
    let is : IsPlanText read.bytes plan = record { lines = read.lines; reader = read.reader; reached = read.reached; done = read.done; same = read.same } in
    subst (λ b. IsPlanText b plan) (sym (text_in program read.bytes plan is (sym read.structs))) is
