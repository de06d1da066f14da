-- Laws of the marks that the halves are made from.
use Rattle.std.proofs.Common.{◌≡◌, ◌↔◌, ◌⊎◌, inl, inr, ℕ, zero, suc, ◌+◌, ◌<◌, Bool, true, false, List, [], ◌∷◌, map, length, get_or, replicate, Some, None, slice_get, refl, sym, ◌∙◌, ap, arith, eqb}
use Rattle.std.proofs.lemmas.Bool.{both_ways, eqb-true, eq-eqb}
use Rattle.std.proofs.lemmas.List.{length-map}
use Rattle.std.proofs.Math.ListN.{length-replicate}
use Rattle.mdr_core.specs.declared.plan.Half.{Half}
use Rattle.mdr_core.specs.declared.plan.Half.TheVariants.{Kernel, User}
use Rattle.mdr_core.specs.declared.program.Program.{Program}
use Rattle.mdr_core.specs.Layout.{chosen}
use Rattle.mdr_paths.specs.Chains.{Chain, AreSteps}
use Rattle.mdr_paths.specs.Paths.{is_in}
use Rattle.mdr_paths.specs.Numbers.{numbers, marked}
use Rattle.mdr_paths.specs.Marking.{Adds, AreMarks, Tells}
use Rattle.mdr_paths.proofs.NodeLists.{none_in}
use Rattle.mdr_paths.proofs.MarkLaws.{none_marked}
use Rattle.mdr_paths.proofs.Told.{adds_nothing}
use Rattle.mdr_slice.specs.declared.halves.Halves.{Halves}
use Rattle.mdr_slice.specs.Graph.{AreCallees, MayCall}
use Rattle.mdr_slice.specs.Halves.{AreFunctions, AreHalves, HasDownStub, IsKernel, IsUser}
use Rattle.mdr_slice.specs.Marks.{CalledByUser, HasBoth, IsDown, half_by}
use Rattle.mdr_slice.proofs.GraphLaws.{some_same, some_inside}

pub steps_of : (program : Program) (roots : List ℕ) (edges : List (List ℕ)) → AreFunctions program roots → AreCallees program false edges
    → AreSteps (length program.funcs) (λ r. is_in numbers roots r ≡ true) (MayCall program false) roots edges
steps_of program roots edges are callees = record {
  size = callees.size;
  begins = λ c h. (λ k. k, λ k. k);
  goes = λ d c inside h. (callees.rows d inside).exact c;
  start_inside = are.inside;
  step_inside = λ d c m. m.inside;
}

-- ---- what functions of the user half may call

pub called_none : (kernel : List Bool) (edges : List (List ℕ)) (n : ℕ) (marks : List Bool) → marks ≡ replicate n false → Tells n (CalledByUser kernel edges 0) marks
called_none kernel edges n marks none = record {
  size = ap length none ∙ length-replicate n false;
  each = λ c. (λ h. absurd (both_ways _ (ap (λ m. marked m c) none ∙ none_marked n c) h), λ h. absurd (omega (arith, h.0.before)));
}

pub called_more : (kernel : List Bool) (edges : List (List ℕ)) (n i : ℕ) (marks now : List Bool) (k : Bool) (row : List ℕ)
    → row ≡ get_or edges i [] → k ≡ marked kernel i → Adds marks (chosen k [] row) now → Tells n (CalledByUser kernel edges i) marks → Tells n (CalledByUser kernel edges (i + 1)) now
called_more kernel edges n i marks now k row is_row is_k adds told = record {
  size = adds.size ∙ told.size;
  each = λ c. (λ h. of c ((adds.each c).0 h), λ h. (adds.each c).1 (back c h.0 h.1 (eqb h.0.caller i) refl));
}
  where
    old : (c : ℕ) → CalledByUser kernel edges i c → CalledByUser kernel edges (i + 1) c
    old c p = record { caller = p.caller; before = omega (arith, p.before); user = p.user; calls = p.calls }

    of : (c : ℕ) → (marked marks c ≡ true) ⊎ ((is_in numbers (chosen k [] row) c ≡ true) × (c < length marks)) → CalledByUser kernel edges (i + 1) c × (c < n)
    of c (inl h) = let p = (told.each c).0 h in (old c p.0, p.1)
    of c (inr h) = (new k refl h.0, omega (arith, h.1, told.size))
      where
        new : (t : Bool) → k ≡ t → is_in numbers (chosen t [] row) c ≡ true → CalledByUser kernel edges (i + 1) c
        new true e j = absurd (none_in numbers c j)
        new false e j = record { caller = i; before = omega arith; user = sym is_k ∙ e; calls = ap (λ xs. is_in numbers xs c) (sym is_row) ∙ j }

    back : (c : ℕ) → (p : CalledByUser kernel edges (i + 1) c) → c < n → (t : Bool) → eqb p.caller i ≡ t → (marked marks c ≡ true) ⊎ ((is_in numbers (chosen k [] row) c ≡ true) × (c < length marks))
    back c p inside false e = inl ((told.each c).1 (record { caller = p.caller; before = omega (arith, p.before, λ (s : p.caller ≡ i). both_ways _ e (eq-eqb p.caller i s)); user = p.user; calls = p.calls }, inside))
    back c p inside true e =
        let same : p.caller ≡ i = eqb-true p.caller i e in
        let out : k ≡ false = is_k ∙ ap (marked kernel) (sym same) ∙ p.user in
        inr (ap (λ b. is_in numbers (chosen b [] row) c) out ∙ ap (λ xs. is_in numbers xs c) (is_row ∙ ap (λ x. get_or edges x []) (sym same)) ∙ p.calls, omega (arith, inside, told.size))

pub adds_skipped : (marks : List Bool) (nodes : List ℕ) (k : Bool) → k ≡ true → Adds marks (chosen k [] nodes) marks
adds_skipped marks nodes true e = adds_nothing marks marks refl
adds_skipped marks nodes false e = absurd (both_ways false refl e)

-- ---- down stubs

pub down_of : {A : Type 0} (program : Program) (g : A → List ℕ) (rows : List A) (kernel called marks : List Bool) → length kernel ≡ length program.funcs → AreCallees program true (map g rows)
    → Tells (length program.funcs) (CalledByUser kernel (map g rows) (length rows)) called → Tells (length kernel) (HasBoth kernel called) marks → Tells (length program.funcs) (IsDown program kernel) marks
down_of program g rows kernel called marks size callees told_called told = record {
  size = told.size ∙ size;
  each = λ f. (λ h. let p = (told.each f).0 h in (of f p.0, omega (arith, p.1, size)), λ h. (told.each f).1 (back f h.0 h.1, omega (arith, h.1, size)));
}
  where
    is : length rows ≡ length program.funcs
    is = sym (length-map rows g) ∙ callees.size

    of : (f : ℕ) → HasBoth kernel called f → IsDown program kernel f
    of f both =
        let p = (told_called.each f).0 both.second in
        record { marked_one = both.first; caller = p.0.caller; user = p.0.user; calls = ((callees.rows p.0.caller (omega (arith, p.0.before, is))).exact f).0 p.0.calls }

    back : (f : ℕ) → IsDown program kernel f → f < length program.funcs → HasBoth kernel called f
    back f d inside =
        let h = some_inside program.funcs d.caller d.calls.func d.calls.names in
        record {
          first = d.marked_one;
          second = (told_called.each f).1 (record { caller = d.caller; before = omega (arith, h, is); user = d.user; calls = ((callees.rows d.caller h).exact f).1 d.calls }, omega (arith, inside, is));
        }

-- ---- the halves

true_is : (marks : List Bool) (f : ℕ) → (slice_get marks f ≡ Some true) ↔ (marked marks f ≡ true)
true_is [] f = (λ e. let none : None ≡ Some true = e in absurd cc, λ e. absurd (both_ways false refl e))
true_is (m ∷ marks) zero = (λ e. some_same e, λ e. ap Some e)
true_is (m ∷ marks) (suc f) = true_is marks f

kernel_by : (m : Bool) → Some (half_by m) ≡ Some Kernel → m ≡ true
kernel_by true e = refl
kernel_by false e = let no : User ≡ Kernel = some_same e in absurd cc

user_by : (m : Bool) → Some (half_by m) ≡ Some User → m ≡ false
user_by false e = refl
user_by true e = let no : Kernel ≡ User = some_same e in absurd cc

kernel_is : (marks : List Bool) (f : ℕ) → (slice_get (map half_by marks) f ≡ Some Kernel) ↔ (marked marks f ≡ true)
kernel_is [] f = (λ e. let none : None ≡ Some Kernel = e in absurd cc, λ e. absurd (both_ways false refl e))
kernel_is (m ∷ marks) zero = (kernel_by m, λ e. ap (λ t. Some (half_by t)) e)
kernel_is (m ∷ marks) (suc f) = kernel_is marks f

user_is : (marks : List Bool) (f : ℕ) → (slice_get (map half_by marks) f ≡ Some User) ↔ ((marked marks f ≡ false) × (f < length marks))
user_is [] f = (λ e. let none : None ≡ Some User = e in absurd cc, λ h. absurd (omega (arith, h.1)))
user_is (m ∷ marks) zero = (λ e. (user_by m e, omega arith), λ h. ap (λ t. Some (half_by t)) h.0)
user_is (m ∷ marks) (suc f) = let p = user_is marks f in (λ e. let q = p.0 e in (q.0, omega (arith, q.1)), λ h. p.1 (h.0, omega (arith, h.1)))

false_or : (b : Bool) → (b ≡ true → ⊥) → b ≡ false
false_or true h = absurd (h refl)
false_or false h = refl

pub halves_are : (program : Program) (roots : List ℕ) (kernel root down : List Bool) (list : List Half) → AreFunctions program roots → list ≡ map half_by kernel
    → Tells (length program.funcs) (IsKernel program roots) kernel → AreMarks (length program.funcs) roots root → Tells (length program.funcs) (IsDown program kernel) down
    → (halves : Halves) → halves.halves ≡ list → halves.roots ≡ root → halves.down ≡ down → AreHalves program roots halves
halves_are program roots kernel root down list are is_list told_kernel marks_root told_down halves e_halves e_roots e_down = record {
  halves_size = ap length (e_halves ∙ is_list) ∙ length-map kernel half_by ∙ told_kernel.size;
  roots_size = ap length e_roots ∙ marks_root.size;
  down_size = ap length e_down ∙ told_down.size;
  kernel = λ f. (λ h. ((told_kernel.each f).0 ((kernel_is kernel f).0 (get f h))).0, λ k. sym_get f ∙ (kernel_is kernel f).1 ((told_kernel.each f).1 (k, kernel_inside f k)));
  user = λ f. (
    λ h. let p = (user_is kernel f).0 (get f h) in record { inside = omega (arith, p.1, told_kernel.size); no_list = λ k. both_ways _ p.0 ((told_kernel.each f).1 (k, omega (arith, p.1, told_kernel.size))) },
    λ u. sym_get f ∙ (user_is kernel f).1 (user_mark f u, omega (arith, u.inside, told_kernel.size)),
  );
  root = λ f. (λ h. ((marks_root.each f).0 ((true_is root f).0 (ap (λ xs. slice_get xs f) (sym e_roots) ∙ h))).0, λ h. ap (λ xs. slice_get xs f) e_roots ∙ (true_is root f).1 ((marks_root.each f).1 (h, are.inside f h)));
  stub = λ f. (λ h. stub f ((told_down.each f).0 ((true_is down f).0 (ap (λ xs. slice_get xs f) (sym e_down) ∙ h))).0, λ h. ap (λ xs. slice_get xs f) e_down ∙ (true_is down f).1 ((told_down.each f).1 (unstub f h, kernel_inside f h.kernel)));
}
  where
    sym_get : (f : ℕ) → slice_get halves.halves f ≡ slice_get (map half_by kernel) f
    sym_get f = ap (λ xs. slice_get xs f) (e_halves ∙ is_list)

    get : (f : ℕ) {h : Half} → slice_get halves.halves f ≡ Some h → slice_get (map half_by kernel) f ≡ Some h
    get f e = sym (sym_get f) ∙ e

    kernel_inside : (f : ℕ) → IsKernel program roots f → f < length program.funcs
    kernel_inside _ (Chain.Begin c start) = are.inside c start
    kernel_inside _ (Chain.Next d c chain step) = step.inside

    user_mark : (f : ℕ) → IsUser program roots f → marked kernel f ≡ false
    user_mark f u = false_or (marked kernel f) (λ h. u.no_list ((told_kernel.each f).0 h).0)

    stub : (f : ℕ) → IsDown program kernel f → HasDownStub program roots f
    stub f d =
        let inside = some_inside program.funcs d.caller d.calls.func d.calls.names in
        record { kernel = ((told_kernel.each f).0 d.marked_one).0; caller = d.caller; user = record { inside = inside; no_list = λ k. both_ways _ d.user ((told_kernel.each d.caller).1 (k, inside)) }; calls = d.calls }

    unstub : (f : ℕ) → HasDownStub program roots f → IsDown program kernel f
    unstub f h = record { marked_one = (told_kernel.each f).1 (h.kernel, kernel_inside f h.kernel); caller = h.caller; user = user_mark h.caller h.user; calls = h.calls }
