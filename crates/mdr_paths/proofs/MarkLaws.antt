-- Laws of marks and a worklist.
use Rattle.std.proofs.Common.{◌≡◌, ℕ, zero, suc, ◌+◌, ◌-◌, ◌<◌, ◌≤◌, Bool, true, false, cond, not, ◌&&◌, ◌||◌, ◌⊎◌, inl, inr, List, [], ◌∷◌, ◌++◌, length, get_or, set, map, replicate, refl, sym, ◌∙◌, ap, subst, append_assoc, arith, eqb, nat_lt, length-append, length-set, get_or-set_same, get_or-set_other}
use Rattle.std.specs.List.{range_with_len, filter}
use Rattle.std.proofs.lemmas.Bool.{both_ways, and_parts, or_cases, or_left, or_right, eqb-true, eq-eqb}
use Rattle.std.proofs.lemmas.Bool.Decides.{nat_tests}
use Rattle.std.proofs.lemmas.List.{length-map}
use Rattle.std.proofs.Math.ListN.{length-replicate}
use Rattle.std.proofs.lemmas.List.Sums.{sum_by-set}
use Rattle.mdr_paths.specs.Paths.{is_in, counted, leads, Path, Rises}
use Rattle.mdr_paths.specs.Numbers.{numbers, graph, marked, marks_of, AreReached}
use Rattle.mdr_paths.specs.Marking.{is_new, marks_after, entered, unmarked_count, IsWork, AreMarks}
use Rattle.mdr_paths.proofs.NodeLists.{none_in, is_in-filter, is_in-head, is_in-tail, is_in-cases, in_both, rises-filter}
use Rattle.mdr_paths.proofs.ReachLaws.{path_set_is, path_marked, work_ends}

-- ---- the numbers below n

pub in_range : (a n c : ℕ) → is_in numbers (range_with_len a n) c ≡ true → (a ≤ c) × (c < a + n)
in_range a zero c h = absurd (none_in numbers c h)
in_range a (suc n) c h = of (is_in-cases numbers a (range_with_len (a + 1) n) c h) (in_range (a + 1) n c)
  where
    of : (c ≡ a) ⊎ (is_in numbers (range_with_len (a + 1) n) c ≡ true) → (is_in numbers (range_with_len (a + 1) n) c ≡ true → (a + 1 ≤ c) × (c < (a + 1) + n)) → (a ≤ c) × (c < a + suc n)
    of (inl e) later = (omega arith, omega arith)
    of (inr j) later = let p = later j in (omega (arith, p.0), omega (arith, p.1))

pub from_range : (a n c : ℕ) → a ≤ c → c < a + n → is_in numbers (range_with_len a n) c ≡ true
from_range a zero c low high = absurd (omega arith)
from_range a (suc n) c low high = of (eqb c a) refl (from_range (a + 1) n c)
  where
    of : (t : Bool) → eqb c a ≡ t → (a + 1 ≤ c → c < (a + 1) + n → is_in numbers (range_with_len (a + 1) n) c ≡ true) → is_in numbers (a ∷ range_with_len (a + 1) n) c ≡ true
    of true e later = subst (λ x. is_in numbers (x ∷ range_with_len (a + 1) n) c ≡ true) (eqb-true c a e) (is_in-head numbers c (range_with_len (a + 1) n))
    of false e later = is_in-tail numbers a (range_with_len (a + 1) n) c (later (grind (arith, eq-eqb c a)) (omega arith))

pub range_rises : (a n : ℕ) → Rises numbers (range_with_len a n)
range_rises a zero = tt
range_rises a (suc n) = (λ d h. let p = in_range (a + 1) n d h in omega (arith, p.0), range_rises (a + 1) n)

-- ---- marks

pub marked_inside : (marks : List Bool) (c : ℕ) → marked marks c ≡ true → c < length marks
marked_inside [] c h = absurd (both_ways _ refl h)
marked_inside (m ∷ marks) zero h = omega arith
marked_inside (m ∷ marks) (suc c) h = omega (arith, marked_inside marks c h)

pub in_marks : (marks : List Bool) (c : ℕ) → is_in numbers (marks_of marks) c ≡ marked marks c
unfolding marks_of
in_marks marks c = is_in-filter numbers (marked marks) (range_with_len 0 (length marks)) c ∙ of (marked marks c) refl
  where
    of : (t : Bool) → marked marks c ≡ t → (marked marks c && is_in numbers (range_with_len 0 (length marks)) c) ≡ marked marks c
    of true e = rw (e, from_range 0 (length marks) c (omega arith) (omega (arith, marked_inside marks c e))) refl
    of false e = rw e refl

-- ---- entering one node

abbrev one : List Bool → ℕ → List Bool
one marks c = cond (is_new marks c) (set marks c true) marks

one_length : (marks : List Bool) (c : ℕ) → length (one marks c) ≡ length marks
one_length marks c = of (is_new marks c)
  where
    of : (t : Bool) → length (cond t (set marks c true) marks) ≡ length marks
    of true = length-set marks c true
    of false = refl

or_false : (b : Bool) → b ≡ (b || false)
or_false true = refl
or_false false = refl

one_marked : (marks : List Bool) (c d : ℕ) → marked (one marks c) d ≡ (marked marks d || (is_new marks c && eqb d c))
one_marked marks c d = of (is_new marks c) (eqb d c) refl refl
  where
    of : (t u : Bool) → is_new marks c ≡ t → eqb d c ≡ u → marked (cond t (set marks c true) marks) d ≡ (marked marks d || (t && u))
    of false u e f = grind arith
    of true true e f = let same : d ≡ c = eqb-true d c f in rw same (grind (arith, nat_tests, and_parts (nat_lt c (length marks)) (not (marked marks c)) e, get_or-set_same marks c true false))
    of true false e f = get_or-set_other marks c d true false (λ s. both_ways _ f (eq-eqb d c s)) ∙ or_false (marked marks d)

one_count : (marks : List Bool) (c : ℕ) → unmarked_count (one marks c) + length (cond (is_new marks c) (c ∷ []) []) ≡ unmarked_count marks
unfolding unmarked_count
one_count marks c = of (is_new marks c) refl
  where
    of : (t : Bool) → is_new marks c ≡ t → unmarked_count (cond t (set marks c true) marks) + length (cond t (c ∷ []) []) ≡ unmarked_count marks
    of false e = omega arith
    of true e = grind (arith, nat_tests, and_parts (nat_lt c (length marks)) (not (marked marks c)) e, sum_by-set (λ b. cond b 0 1) marks c true false)

-- ---- entering nodes

pub after_length : (cs : List ℕ) (marks : List Bool) → length (marks_after marks cs) ≡ length marks
after_length [] marks = refl
after_length (c ∷ cs) marks = after_length cs (one marks c) ∙ one_length marks c

in_one : (t : Bool) (c d : ℕ) → is_in numbers (cond t (c ∷ []) []) d ≡ (t && eqb d c)
unfolding is_in
in_one true c d = grind arith
in_one false c d = refl

pub after_marked : (cs : List ℕ) (marks : List Bool) (d : ℕ) → marked (marks_after marks cs) d ≡ (marked marks d || is_in numbers (entered marks cs) d)
after_marked [] marks d = grind (arith, none_in numbers d)
after_marked (c ∷ cs) marks d = grind (arith, after_marked cs (one marks c) d, one_marked marks c d, in_one (is_new marks c) c d, in_both numbers (cond (is_new marks c) (c ∷ []) []) (entered (one marks c) cs) d)

pub after_count : (cs : List ℕ) (marks : List Bool) → unmarked_count (marks_after marks cs) + length (entered marks cs) ≡ unmarked_count marks
after_count [] marks = omega arith
after_count (c ∷ cs) marks = omega (arith, after_count cs (one marks c), one_count marks c, length-append (cond (is_new marks c) (c ∷ []) []) (entered (one marks c) cs))

-- only what is there is entered
pub entered_from : (cs : List ℕ) (marks : List Bool) (d : ℕ) → is_in numbers (entered marks cs) d ≡ true → is_in numbers cs d ≡ true
entered_from [] marks d h = h
entered_from (c ∷ cs) marks d h = of (or_cases _ _ (sym (in_both numbers (cond (is_new marks c) (c ∷ []) []) (entered (one marks c) cs) d) ∙ h)) (entered_from cs (one marks c) d)
  where
    of : (is_in numbers (cond (is_new marks c) (c ∷ []) []) d ≡ true) ⊎ (is_in numbers (entered (one marks c) cs) d ≡ true) → (is_in numbers (entered (one marks c) cs) d ≡ true → is_in numbers cs d ≡ true) → is_in numbers (c ∷ cs) d ≡ true
    of (inr j) later = is_in-tail numbers c cs d (later j)
    of (inl j) later =
        let same : d ≡ c = eqb-true d c (and_parts _ _ (sym (in_one (is_new marks c) c d) ∙ j)).1 in
        subst (λ x. is_in numbers (x ∷ cs) d ≡ true) same (is_in-head numbers d cs)

-- marks stay
pub after_kept : (cs : List ℕ) (marks : List Bool) (d : ℕ) → marked marks d ≡ true → marked (marks_after marks cs) d ≡ true
after_kept cs marks d h = after_marked cs marks d ∙ or_left _ _ h

-- and all of it is marked
one_all : (marks : List Bool) (c : ℕ) → c < length marks → marked (one marks c) c ≡ true
one_all marks c inside = grind (arith, nat_tests, one_marked marks c c, eq-eqb c c refl)

pub after_all : (cs : List ℕ) (marks : List Bool) (d : ℕ) → is_in numbers cs d ≡ true → d < length marks → marked (marks_after marks cs) d ≡ true
after_all [] marks d h inside = absurd (none_in numbers d h)
after_all (c ∷ cs) marks d h inside = of (is_in-cases numbers c cs d h) (λ j. after_all cs (one marks c) d j (omega (arith, one_length marks c)))
  where
    of : (d ≡ c) ⊎ (is_in numbers cs d ≡ true) → (is_in numbers cs d ≡ true → marked (marks_after (one marks c) cs) d ≡ true) → marked (marks_after (one marks c) cs) d ≡ true
    of (inr j) later = later j
    of (inl e) later = after_kept cs (one marks c) d (subst (λ x. marked (one marks c) x ≡ true) (sym e) (one_all marks c (subst (λ x. x < length marks) e inside)))

-- ---- the graph

pub counts_inside : (edges : List (List ℕ)) (c : ℕ) → is_in numbers (counted (graph edges)) c ≡ true → c < length edges
unfolding counted graph
counts_inside edges c h = let p = in_range 0 (length edges) c (and_parts true (is_in numbers (range_with_len 0 (length edges)) c) (sym (is_in-filter numbers (λ d. true) (range_with_len 0 (length edges)) c) ∙ h)).1 in omega (arith, p.1)

pub inside_counts : (edges : List (List ℕ)) (c : ℕ) → c < length edges → is_in numbers (counted (graph edges)) c ≡ true
unfolding counted graph
inside_counts edges c h = is_in-filter numbers (λ d. true) (range_with_len 0 (length edges)) c ∙ from_range 0 (length edges) c (omega arith) (omega arith)

pub leads_is : (edges : List (List ℕ)) (d c : ℕ) → leads (graph edges) d c ≡ is_in numbers (get_or edges d []) c
unfolding leads graph
leads_is edges d c = refl

pub graph_rises : (edges : List (List ℕ)) → Rises numbers (graph edges).all
unfolding graph
graph_rises edges = range_rises 0 (length edges)

pub marks_rise : (marks : List Bool) → Rises numbers (marks_of marks)
unfolding marks_of
marks_rise marks = rises-filter numbers (marked marks) (range_with_len 0 (length marks)) (range_rises 0 (length marks))

-- ---- work

-- a turn: the edges of d are entered
work_on : (edges : List (List ℕ)) (roots : List ℕ) (marks : List Bool) (d : ℕ) (rest : List ℕ)
    → IsWork edges roots marks (rest ++ d ∷ []) → IsWork edges roots (marks_after marks (get_or edges d [])) (rest ++ entered marks (get_or edges d []))
work_on edges roots marks d rest was = record {
  size = after_length es marks ∙ was.size;
  partial = record {
    sound = λ c h. sound c (sym (in_marks now c) ∙ h) (either c (sym (in_marks now c) ∙ h));
    begun = λ c h counts. keep c (was.partial.begun c h counts);
    followed = λ e c h led counts. followed e c (either e (sym (in_marks now e) ∙ h)) led counts;
  };
  inside = λ e h. inside e (or_cases _ _ (sym (in_both numbers rest (entered marks es) e) ∙ h));
}
  where
    es : List ℕ
    es = get_or edges d []

    now : List Bool
    now = marks_after marks es

    last_in : is_in numbers (rest ++ d ∷ []) d ≡ true
    last_in = in_both numbers rest (d ∷ []) d ∙ or_right _ _ (is_in-head numbers d [])

    either : (c : ℕ) → marked now c ≡ true → (marked marks c ≡ true) ⊎ (is_in numbers (entered marks es) c ≡ true)
    either c h = or_cases _ _ (sym (after_marked es marks c) ∙ h)

    keep : (c : ℕ) → is_in numbers (marks_of marks) c ≡ true → is_in numbers (marks_of now) c ≡ true
    keep c h = in_marks now c ∙ after_kept es marks c (sym (in_marks marks c) ∙ h)

    sound : (c : ℕ) → marked now c ≡ true → (marked marks c ≡ true) ⊎ (is_in numbers (entered marks es) c ≡ true) → Path (graph edges) roots c
    sound c h (inl k) = was.partial.sound c (in_marks marks c ∙ k)
    sound c h (inr k) =
        Path.Next d c (was.partial.sound d (in_marks marks d ∙ was.inside d last_in)) (leads_is edges d c ∙ entered_from es marks c k)
        (inside_counts edges c (omega (arith, marked_inside now c h, after_length es marks, was.size)))

    followed : (e c : ℕ) → (marked marks e ≡ true) ⊎ (is_in numbers (entered marks es) e ≡ true) → leads (graph edges) e c ≡ true → is_in numbers (counted (graph edges)) c ≡ true
        → (is_in numbers (rest ++ entered marks es) e ≡ true) ⊎ (is_in numbers (marks_of now) c ≡ true)
    followed e c (inr k) led counts = inl (in_both numbers rest (entered marks es) e ∙ or_right _ _ k)
    followed e c (inl k) led counts = of (was.partial.followed e c (in_marks marks e ∙ k) led counts)
      where
        last : (is_in numbers rest e ≡ true) ⊎ (is_in numbers (d ∷ []) e ≡ true) → (is_in numbers (rest ++ entered marks es) e ≡ true) ⊎ (is_in numbers (marks_of now) c ≡ true)
        last (inl j) = inl (in_both numbers rest (entered marks es) e ∙ or_left _ _ j)
        last (inr j) = same (is_in-cases numbers d [] e j)
          where
            same : (e ≡ d) ⊎ (is_in numbers [] e ≡ true) → (is_in numbers (rest ++ entered marks es) e ≡ true) ⊎ (is_in numbers (marks_of now) c ≡ true)
            same (inr n) = absurd (none_in numbers e n)
            same (inl s) = inr (in_marks now c ∙ after_all es marks c (subst (λ x. is_in numbers (get_or edges x []) c ≡ true) s (sym (leads_is edges e c) ∙ led)) (omega (arith, counts_inside edges c counts, was.size)))

        of : (is_in numbers (rest ++ d ∷ []) e ≡ true) ⊎ (is_in numbers (marks_of marks) c ≡ true) → (is_in numbers (rest ++ entered marks es) e ≡ true) ⊎ (is_in numbers (marks_of now) c ≡ true)
        of (inr j) = inr (keep c j)
        of (inl j) = last (or_cases _ _ (sym (in_both numbers rest (d ∷ []) e) ∙ j))

    inside : (e : ℕ) → (is_in numbers rest e ≡ true) ⊎ (is_in numbers (entered marks es) e ≡ true) → marked now e ≡ true
    inside e (inl k) = after_kept es marks e (was.inside e (in_both numbers rest (d ∷ []) e ∙ or_left _ _ k))
    inside e (inr k) = after_marked es marks e ∙ or_right _ _ k

work_first : (edges : List (List ℕ)) (roots : List ℕ) (marks : List Bool) → length marks ≡ length edges → ((c : ℕ) → marked marks c ≡ false) → IsWork edges roots (marks_after marks roots) (entered marks roots)
work_first edges roots marks size none = record {
  size = after_length roots marks ∙ size;
  partial = record {
    sound = λ c h. let k : marked now c ≡ true = sym (in_marks now c) ∙ h in Path.Root c (entered_from roots marks c (new c k)) (inside_counts edges c (omega (arith, marked_inside now c k, after_length roots marks, size)));
    begun = λ c h counts. in_marks now c ∙ after_all roots marks c h (omega (arith, counts_inside edges c counts, size));
    followed = λ e c h led counts. inl (new e (sym (in_marks now e) ∙ h));
  };
  inside = λ e h. after_marked roots marks e ∙ or_right _ _ h;
}
  where
    now : List Bool
    now = marks_after marks roots

    new : (c : ℕ) → marked now c ≡ true → is_in numbers (entered marks roots) c ≡ true
    new c h = of (or_cases _ _ (sym (after_marked roots marks c) ∙ h))
      where
        of : (marked marks c ≡ true) ⊎ (is_in numbers (entered marks roots) c ≡ true) → is_in numbers (entered marks roots) c ≡ true
        of (inl k) = absurd (both_ways _ (none c) k)
        of (inr k) = k

pub none_marked : (n c : ℕ) → marked (replicate n false) c ≡ false
none_marked zero c = refl
none_marked (suc n) zero = refl
none_marked (suc n) (suc c) = none_marked n c

pub at_map : {A : Type 0} (f : A → List ℕ) (xs : List A) (i : ℕ) (v : A) → i < length xs → v ≡ get_or xs i v → get_or (map f xs) i [] ≡ f v
at_map f [] i v h e = absurd (omega arith)
at_map f (x ∷ xs) zero v h e = ap f (sym e)
at_map f (x ∷ xs) (suc i) v h e = at_map f xs i v (omega arith) e

-- ---- as the code has it

pub work_begins : {A : Type 0} (f : A → List ℕ) (edges : List A) (roots : List ℕ) (marks now : List Bool) (empty todo : List ℕ)
    → marks ≡ replicate (length edges) false → empty ≡ [] → now ≡ marks_after marks roots → todo ≡ empty ++ entered marks roots → IsWork (map f edges) roots now todo
work_begins f edges roots marks now empty todo none is_empty is_now is_todo =
    subst (λ (s : List Bool × List ℕ). IsWork (map f edges) roots s.0 s.1) (λ i. (sym is_now i, sym (is_todo ∙ ap (λ t. t ++ entered marks roots) is_empty) i))
    (work_first (map f edges) roots marks (ap length none ∙ length-replicate (length edges) false ∙ sym (length-map edges f)) (λ c. ap (λ m. marked m c) none ∙ none_marked (length edges) c))

pub todo_inside : {A : Type 0} (f : A → List ℕ) (edges : List A) (roots : List ℕ) (marks : List Bool) (todo rest : List ℕ) (d : ℕ)
    → IsWork (map f edges) roots marks todo → todo ≡ rest ++ d ∷ [] → d < length edges
todo_inside f edges roots marks todo rest d was is =
    let h : marked marks d ≡ true = was.inside d (ap (λ t. is_in numbers t d) is ∙ in_both numbers rest (d ∷ []) d ∙ or_right _ _ (is_in-head numbers d [])) in
    omega (arith, marked_inside marks d h, was.size, length-map edges f)

pub work_goes_on : {A : Type 0} (f : A → List ℕ) (edges : List A) (roots : List ℕ) (marks now : List Bool) (todo rest later cs : List ℕ) (d : ℕ) (v : A)
    → IsWork (map f edges) roots marks todo → todo ≡ rest ++ d ∷ [] → v ≡ get_or edges d v → cs ≡ f v → now ≡ marks_after marks cs → later ≡ rest ++ entered marks cs
    → IsWork (map f edges) roots now later
work_goes_on f edges roots marks now todo rest later cs d v was is at is_cs is_now is_later =
    let e : get_or (map f edges) d [] ≡ cs = at_map f edges d v (todo_inside f edges roots marks todo rest d was is) at ∙ sym is_cs in
    let next : IsWork (map f edges) roots (marks_after marks (get_or (map f edges) d [])) (rest ++ entered marks (get_or (map f edges) d [])) = work_on (map f edges) roots marks d rest (subst (IsWork (map f edges) roots marks) is was) in
    subst (λ (s : List Bool × List ℕ). IsWork (map f edges) roots s.0 s.1) (λ i. ((ap (marks_after marks) e ∙ sym is_now) i, (ap (λ x. rest ++ entered marks x) e ∙ sym is_later) i)) next

pub work_falls : (marks now : List Bool) (todo rest later cs : List ℕ) (d : ℕ)
    → todo ≡ rest ++ d ∷ [] → now ≡ marks_after marks cs → later ≡ rest ++ entered marks cs → unmarked_count now + length later < unmarked_count marks + length todo
work_falls marks now todo rest later cs d is is_now is_later =
    omega (arith, ap unmarked_count is_now, ap length is, ap length is_later, after_count cs marks, length-append rest (d ∷ []), length-append rest (entered marks cs))

pub work_done : (edges : List (List ℕ)) (roots : List ℕ) (marks : List Bool) (todo : List ℕ) → IsWork edges roots marks todo → length todo ≡ 0 → AreReached edges roots marks
work_done edges roots marks (d ∷ todo) was none = absurd (omega arith)
work_done edges roots marks [] was none =
    let set = work_ends (graph edges) roots (marks_of marks) was.partial in
    record {
      size = was.size;
      paths = λ c. (λ h. set.sound c (in_marks marks c ∙ h), λ path. sym (in_marks marks c) ∙ path_marked (graph edges) roots (marks_of marks) set c path);
      nodes = path_set_is (graph edges) roots (marks_of marks) (graph_rises edges) (marks_rise marks) set;
    }

pub marks_are : (n : ℕ) (nodes : List ℕ) (marks now : List Bool) → marks ≡ replicate n false → now ≡ marks_after marks nodes → AreMarks n nodes now
marks_are n nodes marks now none is =
    let size : length marks ≡ n = ap length none ∙ length-replicate n false in
    let later : length now ≡ n = ap length is ∙ after_length nodes marks ∙ size in
    record {
      size = later;
      each = λ c. (λ h. (new c (sym (ap (λ m. marked m c) is) ∙ h), omega (arith, marked_inside now c h, later)), λ h. ap (λ m. marked m c) is ∙ after_all nodes marks c h.0 (omega (arith, size, h.1)));
    }
  where
    new : (c : ℕ) → marked (marks_after marks nodes) c ≡ true → is_in numbers nodes c ≡ true
    new c h = of (or_cases _ _ (sym (after_marked nodes marks c) ∙ h))
      where
        of : (marked marks c ≡ true) ⊎ (is_in numbers (entered marks nodes) c ≡ true) → is_in numbers nodes c ≡ true
        of (inl k) = absurd (both_ways _ (ap (λ m. marked m c) none ∙ none_marked n c) k)
        of (inr k) = entered_from nodes marks c k

-- the marked nodes from i on, of which i is one or not
left_by : (marks : List Bool) (i : ℕ) (t : Bool) → i < length marks → marked marks i ≡ t
    → filter (marked marks) (range_with_len i (length marks - i)) ≡ cond t (i ∷ []) [] ++ filter (marked marks) (range_with_len (i + 1) (length marks - (i + 1)))
left_by marks i t inside e =
    let n : length marks - i ≡ suc (length marks - (i + 1)) = omega arith in
    ap (λ n. filter (marked marks) (range_with_len i n)) n ∙ of t e
  where
    of : (t : Bool) → marked marks i ≡ t → filter (marked marks) (range_with_len i (suc (length marks - (i + 1)))) ≡ cond t (i ∷ []) [] ++ filter (marked marks) (range_with_len (i + 1) (length marks - (i + 1)))
    of true e = rw e refl
    of false e = rw e refl

pub push_left : (marks : List Bool) (i : ℕ) (nodes now all : List ℕ) → i < length marks → marked marks i ≡ true → now ≡ nodes ++ i ∷ []
    → nodes ++ filter (marked marks) (range_with_len i (length marks - i)) ≡ all → now ++ filter (marked marks) (range_with_len (i + 1) (length marks - (i + 1))) ≡ all
push_left marks i nodes now all inside e is h =
    ap (λ xs. xs ++ filter (marked marks) (range_with_len (i + 1) (length marks - (i + 1)))) is
    ∙ append_assoc nodes (i ∷ []) (filter (marked marks) (range_with_len (i + 1) (length marks - (i + 1))))
    ∙ ap (λ xs. nodes ++ xs) (sym (left_by marks i true inside e))
    ∙ h

pub skip_left : (marks : List Bool) (i : ℕ) (nodes now all : List ℕ) → i < length marks → marked marks i ≡ false → now ≡ nodes
    → nodes ++ filter (marked marks) (range_with_len i (length marks - i)) ≡ all → now ++ filter (marked marks) (range_with_len (i + 1) (length marks - (i + 1))) ≡ all
skip_left marks i nodes now all inside e is h =
    ap (λ xs. xs ++ filter (marked marks) (range_with_len (i + 1) (length marks - (i + 1)))) is
    ∙ ap (λ xs. nodes ++ xs) (sym (left_by marks i false inside e))
    ∙ h
