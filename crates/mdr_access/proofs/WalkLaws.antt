-- Laws of what functions of the user half lead to, and of their keys.
use Rattle.std.proofs.Common.{◌≡◌, ◌⊎◌, inl, inr, ℕ, zero, suc, ◌+◌, ◌<◌, ◌≤◌, Bool, true, false, not, ◌||◌, List, [], ◌∷◌, ◌++◌, map, length, get_or, Option, Some, None, slice_get, refl, sym, ◌∙◌, ap, subst, arith, length-append}
use Rattle.std.proofs.lemmas.Bool.{both_ways, or_cases, or_left, or_right}
use Rattle.std.proofs.lemmas.List.{length-map}
use Rattle.mdr_core.specs.declared.program.Program.{Program}
use Rattle.mdr_core.specs.declared.program.Func.{Func}
use Rattle.mdr_core.specs.declared.plan.Key.{Key}
use Rattle.mdr_core.specs.declared.plan.Half.{Half}
use Rattle.mdr_core.specs.declared.plan.Half.TheVariants.{Kernel, User}
use Rattle.mdr_core.specs.declared.plan.Plan.{Plan}
use Rattle.mdr_core.specs.Layout.{chosen}
use Rattle.mdr_slice.specs.declared.halves.Halves.{Halves}
use Rattle.mdr_paths.specs.Paths.{is_in}
use Rattle.mdr_paths.specs.Numbers.{numbers, marked, AreReached}
use Rattle.mdr_paths.specs.Marking.{AreNodes, Tells}
use Rattle.mdr_paths.proofs.NodeLists.{none_in, is_in-head, is_in-cases, in_both}
use Rattle.mdr_paths.proofs.Told.{chains_told}
use Rattle.mdr_slice.specs.Graph.{AreCallees}
use Rattle.mdr_slice.specs.Marks.{CalledByUser}
use Rattle.mdr_slice.proofs.GraphLaws.{nothing_there, some_inside, some_same}
use Rattle.mdr_access.specs.AllKeys.{all_keys, picked}
use Rattle.mdr_access.specs.Forms.{func_forms}
use Rattle.mdr_access.specs.KeyOrder.{keys}
use Rattle.mdr_access.specs.Keys.{AreKeys, CallsUser, IsPlan, IsTouched, LeadsTo}
use Rattle.mdr_access.specs.Owned.{Owns, HasOne}
use Rattle.mdr_access.specs.Walked.{AreFound, AreLists, AreOwned, IsFoundBy, IsFoundIf, IsFoundIn, IsTouchedAt, is_user, is_user_half, user_by, users}
use Rattle.mdr_access.proofs.AllKeysLaws.{all_kept, all_rise, picked_of, of_picked, picked_inside, picked_rise, place_of}

user_half : (h : Half) → is_user_half h ≡ true → h ≡ User
user_half Kernel e = absurd (both_ways false refl e)
user_half User e = refl

user_by_is : (o : Option Half) → user_by o ≡ true → o ≡ Some User
user_by_is None e = absurd (both_ways false refl e)
user_by_is (Some h) e = ap Some (user_half h e)

users_in : (halves : List Half) (row : List ℕ) (c : ℕ) → is_in numbers (users halves row) c ≡ true → (is_user halves c ≡ true) × (is_in numbers row c ≡ true)
users_in halves [] c h = absurd (none_in numbers c h)
users_in halves (f ∷ fs) c h = of (is_user halves f) refl (or_cases _ _ (sym (in_both numbers (chosen (is_user halves f) (f ∷ []) []) (users halves fs) c) ∙ h)) (users_in halves fs c)
  where
    tail : is_in numbers fs c ≡ true → is_in numbers (f ∷ fs) c ≡ true
    tail i = in_both numbers (f ∷ []) fs c ∙ or_right _ _ i

    of : (t : Bool) → is_user halves f ≡ t → (is_in numbers (chosen (is_user halves f) (f ∷ []) []) c ≡ true) ⊎ (is_in numbers (users halves fs) c ≡ true)
        → (is_in numbers (users halves fs) c ≡ true → (is_user halves c ≡ true) × (is_in numbers fs c ≡ true)) → (is_user halves c ≡ true) × (is_in numbers (f ∷ fs) c ≡ true)
    of t e (inr i) later = let p = later i in (p.0, tail p.1)
    of false e (inl i) later = absurd (none_in numbers c (ap (λ b. is_in numbers (chosen b (f ∷ []) []) c) (sym e) ∙ i))
    of true e (inl i) later = here (is_in-cases numbers f [] c (ap (λ b. is_in numbers (chosen b (f ∷ []) []) c) (sym e) ∙ i))
      where
        here : (c ≡ f) ⊎ (is_in numbers [] c ≡ true) → (is_user halves c ≡ true) × (is_in numbers (f ∷ fs) c ≡ true)
        here (inl s) = (ap (is_user halves) s ∙ e, subst (λ x. is_in numbers (f ∷ fs) x ≡ true) (sym s) (is_in-head numbers f fs))
        here (inr n) = absurd (none_in numbers c n)

in_users : (halves : List Half) (row : List ℕ) (c : ℕ) → is_user halves c ≡ true → is_in numbers row c ≡ true → is_in numbers (users halves row) c ≡ true
in_users halves [] c u h = absurd (none_in numbers c h)
in_users halves (f ∷ fs) c u h = in_both numbers (chosen (is_user halves f) (f ∷ []) []) (users halves fs) c ∙ of (is_in-cases numbers f fs c h) (in_users halves fs c u)
  where
    of : (c ≡ f) ⊎ (is_in numbers fs c ≡ true) → (is_in numbers fs c ≡ true → is_in numbers (users halves fs) c ≡ true) → (is_in numbers (chosen (is_user halves f) (f ∷ []) []) c || is_in numbers (users halves fs) c) ≡ true
    of (inl s) later = or_left _ _ (ap (λ b. is_in numbers (chosen b (f ∷ []) []) c) (ap (is_user halves) (sym s) ∙ u) ∙ subst (λ x. is_in numbers (x ∷ []) c ≡ true) s (is_in-head numbers c []))
    of (inr i) later = or_right _ _ (later i)

users_row : (halves : List Half) (edges : List (List ℕ)) (d : ℕ) → get_or (map (users halves) edges) d [] ≡ users halves (get_or edges d [])
users_row halves [] d = refl
users_row halves (row ∷ edges) zero = refl
users_row halves (row ∷ edges) (suc d) = users_row halves edges d

pub leads_told : (program : Program) (halves : List Half) (edges : List (List ℕ)) (t : ℕ) (marks : List Bool) → t < length program.funcs → AreCallees program true edges
    → AreReached (map (users halves) edges) (t ∷ []) marks → Tells (length program.funcs) (LeadsTo program halves t) marks
leads_told program halves edges t marks inside callees reached =
    chains_told (length program.funcs) (λ s. s ≡ t) (CallsUser program halves) (t ∷ []) (map (users halves) edges) (record {
      size = length-map edges (users halves) ∙ callees.size;
      begins = λ c h. (λ i. here c (is_in-cases numbers t [] c i), λ e. subst (λ x. is_in numbers (t ∷ []) x ≡ true) (sym e) (is_in-head numbers t []));
      goes = λ d c low h. (
        λ i. go d c low (users_in halves (get_or edges d []) c (ap (λ xs. is_in numbers xs c) (sym (users_row halves edges d)) ∙ i)),
        λ m. ap (λ xs. is_in numbers xs c) (users_row halves edges d) ∙ in_users halves (get_or edges d []) c (ap user_by m.user) (((callees.rows d low).exact c).1 m.calls),
      );
      start_inside = λ c e. omega (arith, inside, e);
      step_inside = λ d c m. m.calls.inside;
    }) marks reached
  where
    here : (c : ℕ) → (c ≡ t) ⊎ (is_in numbers [] c ≡ true) → c ≡ t
    here c (inl e) = e
    here c (inr n) = absurd (none_in numbers c n)

    go : (d c : ℕ) → d < length program.funcs → (is_user halves c ≡ true) × (is_in numbers (get_or edges d []) c ≡ true) → CallsUser program halves d c
    go d c low p = record { calls = ((callees.rows d low).exact c).0 p.1; user = user_by_is (slice_get halves c) p.0 }

-- ---- what is owned by those that t leads to

turned_mark : (marks : List Bool) (u : ℕ) → u < length marks → marked (map not marks) u ≡ not (marked marks u)
turned_mark [] u h = absurd (omega arith)
turned_mark (m ∷ marks) zero h = refl
turned_mark (m ∷ marks) (suc u) h = turned_mark marks u (omega arith)

not_false : (b : Bool) → not b ≡ false → b ≡ true
not_false true e = refl
not_false false e = absurd (both_ways true e refl)

there : {A : Type 0} (xs : List A) (i : ℕ) → i < length xs → (x : A) × (slice_get xs i ≡ Some x)
there [] i h = absurd (omega arith)
there (x ∷ xs) zero h = (x, refl)
there (x ∷ xs) (suc i) h = there xs i (omega arith)

pub touched_told : (program : Program) (halves : List Half) (t : ℕ) (all : List Key) (rows : List (List ℕ)) (led marks : List Bool) → Tells (length program.funcs) (LeadsTo program halves t) led
    → AreOwned program all rows → Tells (length all) (CalledByUser (map not led) rows (length rows)) marks → Tells (length all) (IsTouchedAt program halves t all) marks
touched_told program halves t all rows led marks told_led owned told = record {
  size = told.size;
  each = λ j. (λ h. let p = (told.each j).0 h in (of j p.0, p.1), λ h. (told.each j).1 (back j h.0 h.1, h.1));
}
  where
    of : (j : ℕ) → CalledByUser (map not led) rows (length rows) j → IsTouchedAt program halves t all j
    of j c =
        let low : c.caller < length program.funcs = omega (arith, c.before, owned.size) in
        let own = there program.funcs c.caller low in
        let is_led : marked led c.caller ≡ true = not_false (marked led c.caller) (sym (turned_mark led c.caller (omega (arith, low, told_led.size))) ∙ c.user) in
        record { func = c.caller; reached = ((told_led.each c.caller).0 is_led).0; own = own.0; names = own.1; owns = (((owned.each c.caller own.0 own.1).exact j).0 c.calls).0 }

    back : (j : ℕ) → IsTouchedAt program halves t all j → j < length all → CalledByUser (map not led) rows (length rows) j
    back j x inside =
        let low : x.func < length program.funcs = some_inside program.funcs x.func x.own x.names in
        record {
          caller = x.func;
          before = omega (arith, low, owned.size);
          user = turned_mark led x.func (omega (arith, low, told_led.size)) ∙ ap not ((told_led.each x.func).1 (x.reached, low));
          calls = ((owned.each x.func x.own x.names).exact j).1 (x.owns, inside);
        }

-- ---- the keys of S(t)

keys_told : (program : Program) (halves : List Half) (t : ℕ) (marks : List Bool) → Tells (length (all_keys program)) (IsTouchedAt program halves t (all_keys program)) marks → AreKeys program halves t (picked (all_keys program) marks)
keys_told program halves t marks told = record {
  rises = picked_rise (all_keys program) marks (all_rise program);
  exact = λ k. (λ h. of k h, λ x. back k x);
}
  where
    of : (k : Key) → is_in keys (picked (all_keys program) marks) k ≡ true → IsTouched program halves t k
    of k h =
        let o = picked_of (all_keys program) marks k h in
        let x = ((told.each o.at).0 o.marked_one).0 in
        let one : HasOne program (func_forms program x.own) k = subst (HasOne program (func_forms program x.own)) (some_same (sym x.owns.is ∙ o.is)) x.owns.one in
        record { func = x.func; reached = x.reached; own = x.own; names = x.names; form = one.form; one = record { at = one.at; is = one.is }; has = one.has; kept = all_kept program k (picked_inside (all_keys program) marks k h) }

    back : (k : Key) → IsTouched program halves t k → is_in keys (picked (all_keys program) marks) k ≡ true
    back k x =
        let o = place_of program k x.kept in
        of_picked (all_keys program) marks o.at k o.is
        ((told.each o.at).1 (
          record {
            func = x.func;
            reached = x.reached;
            own = x.own;
            names = x.names;
            owns = record { key = k; is = o.is; one = record { at = x.one.at; form = x.form; is = x.one.is; has = x.has } };
          },
          some_inside (all_keys program) o.at k o.is,
        ))

pub found_are : (program : Program) (halves : List Half) (edges rows : List (List ℕ)) (t : ℕ) (all found : List Key) → t < length program.funcs → AreCallees program true edges → all ≡ all_keys program → AreOwned program all rows
    → IsFoundBy (map (users halves) edges) rows all t found → AreKeys program halves t found
found_are program halves edges rows t all found inside callees is owned by =
    let marks = touched_told program halves t all rows by.led by.found_in.marks (leads_told program halves edges t by.led inside callees by.reached) owned by.found_in.told in
    subst (AreKeys program halves t) (sym (by.found_in.is ∙ ap (λ xs. picked xs by.found_in.marks) is))
    (keys_told program halves t by.found_in.marks (subst (λ xs. Tells (length xs) (IsTouchedAt program halves t xs) by.found_in.marks) is marks))

-- ---- as the code has it

pub record OwnsRow (program : Program) (all : List Key) (f : ℕ) (row : List ℕ) : Type 0 where
  pub each : (own : Func) → slice_get program.funcs f ≡ Some own → AreNodes (length all) (Owns program (func_forms program own) all) row

pub owns_row : (program : Program) (all : List Key) (f : ℕ) (own : Func) (row : List ℕ) → slice_get program.funcs f ≡ Some own → AreNodes (length all) (Owns program (func_forms program own) all) row → OwnsRow program all f row
owns_row program all f own row names are = record { each = λ other h. subst (λ (x : Func). AreNodes (length all) (Owns program (func_forms program x) all) row) (some_same (sym names ∙ h)) are }

pub are_owned : (program : Program) (all : List Key) (rows : List (List ℕ)) → length rows ≡ length program.funcs → ((f : ℕ) → f < length program.funcs → OwnsRow program all f (get_or rows f [])) → AreOwned program all rows
are_owned program all rows size each = record { size = size; each = λ u own names. (each u (some_inside program.funcs u own names)).each own names }

pub keys_found : {A : Type 0} (g : A → List ℕ) (rows : List A) (all : List Key) (n : ℕ) (led skipped slice marks marks_slice : List Bool) (found : List Key)
    → skipped ≡ map not led → slice ≡ skipped → n ≡ length all → Tells n (CalledByUser slice (map g rows) (length rows)) marks → marks_slice ≡ marks → found ≡ picked all marks_slice → IsFoundIn (map g rows) all led found
keys_found g rows all n led skipped slice marks marks_slice found e_skipped e_slice e_n told e_marks is = record {
  marks = marks;
  told =
      subst (λ m. Tells m (CalledByUser (map not led) (map g rows) (length (map g rows))) marks) e_n
      (subst (λ k. Tells n (CalledByUser (map not led) (map g rows) k) marks) (sym (length-map rows g)) (subst (λ xs. Tells n (CalledByUser xs (map g rows) (length rows)) marks) (e_slice ∙ e_skipped) told));
  is = is ∙ ap (picked all) e_marks;
}

pub found_none : (halves : List Half) (edges rows : List (List ℕ)) (all : List Key) (lists : List (List Key)) → lists ≡ [] → AreFound halves edges rows all 0 lists
found_none halves edges rows all [] e = record { size = refl; each = λ t ks h. absurd (nothing_there ks h) }
found_none halves edges rows all (x ∷ lists) e = absurd (omega (arith, ap length e))

pub found_more : (halves : List Half) (edges rows : List (List ℕ)) (all : List Key) (i : ℕ) (lists now : List (List Key)) (list : List Key) (u : Bool) → now ≡ lists ++ list ∷ [] → u ≡ is_user halves i → IsFoundIf u edges rows all i list
    → AreFound halves edges rows all i lists → AreFound halves edges rows all (i + 1) now
found_more halves edges rows all i lists now list u is is_u here before = record {
  size = ap length is ∙ omega (arith, length-append lists (list ∷ []), before.size);
  each = λ t ks h. by t ks (at lists t ks (sym (ap (λ xs. slice_get xs t) is) ∙ h));
}
  where
    at : (xs : List (List Key)) (t : ℕ) (ks : List Key) → slice_get (xs ++ list ∷ []) t ≡ Some ks → (slice_get xs t ≡ Some ks) ⊎ ((t ≡ length xs) × (list ≡ ks))
    at [] zero ks h = inr (refl, some_same h)
    at [] (suc t) ks h = absurd (nothing_there ks h)
    at (x ∷ xs) zero ks h = inl h
    at (x ∷ xs) (suc t) ks h = on (at xs t ks h)
      where
        on : (slice_get xs t ≡ Some ks) ⊎ ((t ≡ length xs) × (list ≡ ks)) → (slice_get xs t ≡ Some ks) ⊎ ((suc t ≡ suc (length xs)) × (list ≡ ks))
        on (inl e) = inl e
        on (inr p) = inr (ap suc p.0, p.1)

    by : (t : ℕ) (ks : List Key) → (slice_get lists t ≡ Some ks) ⊎ ((t ≡ length lists) × (list ≡ ks)) → IsFoundIf (is_user halves t) edges rows all t ks
    by t ks (inl e) = before.each t ks e
    by t ks (inr p) =
        let same : i ≡ t = sym (p.0 ∙ before.size) in
        subst (λ xs. IsFoundIf (is_user halves t) edges rows all t xs) p.1 (subst (λ m. IsFoundIf (is_user halves m) edges rows all m list) same (subst (λ b. IsFoundIf b edges rows all i list) is_u here))

pub lists_are : (program : Program) (halves : List Half) (edges rows : List (List ℕ)) (all : List Key) (n : ℕ) (lists : List (List Key)) → n ≡ length program.funcs → AreCallees program true edges → all ≡ all_keys program → AreOwned program all rows
    → AreFound halves (map (users halves) edges) rows all n lists → AreLists program halves lists
lists_are program halves edges rows all n lists is callees is_all owned found = record {
  size = found.size ∙ is;
  each = λ t ks e. record {
    kernel = λ h. let f : IsFoundIf false (map (users halves) edges) rows all t ks = subst (λ b. IsFoundIf b (map (users halves) edges) rows all t ks) (ap user_by h) (found.each t ks e) in f;
    user = λ h. let f : IsFoundIf true (map (users halves) edges) rows all t ks = subst (λ b. IsFoundIf b (map (users halves) edges) rows all t ks) (ap user_by h) (found.each t ks e) in found_are program halves edges rows t all ks (omega (arith, some_inside lists t ks e, found.size, is)) callees is_all owned f;
  };
}

pub lists_by : {A : Type 0} (program : Program) (halves : List Half) (g : A → List ℕ) (graph graph_slice edges edges_slice rows rows_slice : List A) (all all_slice other_slice : List Key) (lists : List (List Key))
    → AreCallees program true (map g graph) → graph_slice ≡ graph → map g edges ≡ map (users halves) (map g graph_slice) → edges_slice ≡ edges → all ≡ all_keys program → all_slice ≡ all → AreOwned program all_slice (map g rows)
    → rows_slice ≡ rows → other_slice ≡ all → AreFound halves (map g edges_slice) (map g rows_slice) other_slice (length rows_slice) lists → AreLists program halves lists
lists_by program halves g graph graph_slice edges edges_slice rows rows_slice all all_slice other_slice lists callees e_graph e_edges e_edges_slice is_all e_all owned e_rows e_other found =
    let owned_all : AreOwned program all (map g rows) = subst (λ xs. AreOwned program xs (map g rows)) e_all owned in
    let edges_are : map g edges_slice ≡ map (users halves) (map g graph) = ap (map g) e_edges_slice ∙ e_edges ∙ ap (λ xs. map (users halves) (map g xs)) e_graph in
    lists_are program halves (map g graph) (map g rows) all (length rows_slice) lists (ap length e_rows ∙ sym (length-map rows g) ∙ owned_all.size) callees is_all owned_all
    (subst (λ xs. AreFound halves xs (map g rows) all (length rows_slice) lists) edges_are
    (subst (λ xs. AreFound halves (map g edges_slice) (map g xs) all (length rows_slice) lists) e_rows (subst (λ xs. AreFound halves (map g edges_slice) (map g rows_slice) xs (length rows_slice) lists) e_other found)))

pub same_size : {A : Type 0} (program : Program) (halves : List Half) (g : A → List ℕ) (graph graph_slice edges edges_slice rows rows_slice : List A) (all_slice : List Key)
    → AreCallees program true (map g graph) → graph_slice ≡ graph → map g edges ≡ map (users halves) (map g graph_slice) → edges_slice ≡ edges → AreOwned program all_slice (map g rows) → rows_slice ≡ rows → length edges_slice ≡ length rows_slice
same_size program halves g graph graph_slice edges edges_slice rows rows_slice all_slice callees e_graph e_edges e_edges_slice owned e_rows =
    ap length e_edges_slice
    ∙ sym (length-map edges g)
    ∙ ap length e_edges
    ∙ length-map (map g graph_slice) (users halves)
    ∙ ap (λ xs. length (map g xs)) e_graph
    ∙ callees.size
    ∙ sym owned.size
    ∙ length-map rows g
    ∙ sym (ap length e_rows)

pub few_rows : {A : Type 0} (program : Program) (g : A → List ℕ) (rows rows_slice : List A) (all_slice : List Key) → AreOwned program all_slice (map g rows) → rows_slice ≡ rows → length program.funcs ≤ 4294967296 → length rows_slice ≤ 4294967296
few_rows program g rows rows_slice all_slice owned e few = omega (arith, ap length e, length-map rows g, owned.size)

pub plan_is : (program : Program) (halves : Halves) (plan : Plan) (lists : List (List Key)) → plan.types ≡ program.types → plan.names ≡ map (λ (func : Func). func.name) program.funcs → plan.halves ≡ halves.halves → plan.roots ≡ halves.roots → plan.down ≡ halves.down
    → plan.keys ≡ lists → AreLists program halves.halves lists → IsPlan program halves plan
plan_is program halves plan lists types names sides roots down e are = record {
  types = types;
  names = names;
  halves_are = sides;
  roots = roots;
  down = down;
  lists = ap length e ∙ are.size;
  kernel = λ f ks h at. (are.each f ks (ap (λ xs. slice_get xs f) (sym e) ∙ at)).kernel h;
  user = λ f ks h at. (are.each f ks (ap (λ xs. slice_get xs f) (sym e) ∙ at)).user h;
}
