-- Functions get their numbers by their first declarations, and keep their types.
use Rattle.std.proofs.Common.{◌≡◌, ℕ, zero, suc, Bool, true, false, not, nat_lt, cond, List, [], ◌∷◌, ◌++◌, length, Option, Some, None, Ok, refl, sym, ap, ◌∙◌, subst, slice_get, is_some, ◌+◌, arith}
use Rattle.std.proofs.lemmas.Bool.{ltb-true, ltb-false, lt-ltb}
use Rattle.std.specs.List.{position, position_or_len}
use Rattle.std.specs.Option.{option_map}
use Rattle.std.specs.Str.{bytes_eq}
use Rattle.mdr_core.specs.declared.program.Func.{Func}
use Rattle.mdr_headings.specs.declared.function.Declared.{Declared}
use Rattle.mdr_headings.specs.declared.head.Heading.{Heading}
use Rattle.mdr_headings.specs.Functions.{function_named}
use Rattle.mdr_program.specs.Parts.{number_among, declared, defined}
use Rattle.mdr_sound.specs.Counting.{IsDeclaredAs, AreDeclaredAs}

-- ---- places by recursion

further : (b : Bool) (n : ℕ) → cond b (Some (suc n)) None ≡ option_map suc (cond b (Some n) None)
further true n = refl
further false n = refl

less_by : (n m : ℕ) (a b : Bool) → nat_lt (suc n) (suc m) ≡ a → nat_lt n m ≡ b → a ≡ b
less_by n m true true p q = refl
less_by n m false false p q = refl
less_by n m true false p q = absurd (omega (arith, ltb-true (suc n) (suc m) p, ltb-false n m q))
less_by n m false true p q = absurd (omega (arith, ltb-false (suc n) (suc m) p, ltb-true n m q))

less : (n m : ℕ) → nat_lt (suc n) (suc m) ≡ nat_lt n m
less n m = less_by n m (nat_lt (suc n) (suc m)) (nat_lt n m) refl refl

abbrev number_if : Bool → ℕ → Option ℕ
number_if b n = cond b (Some n) None

some_first : (m : ℕ) → number_if (nat_lt 0 (suc m)) 0 ≡ Some 0
some_first m = ap (λ (b : Bool). number_if b 0) (lt-ltb 0 (suc m) (omega arith))

position_here : {X : Type 0} (p : X → Bool) (x : X) (xs : List X) → p x ≡ true → position p (x ∷ xs) ≡ Some 0
position_here p x xs e = rw e (some_first (length xs))

position_there : {X : Type 0} (p : X → Bool) (x : X) (xs : List X) → p x ≡ false → position p (x ∷ xs) ≡ option_map suc (position p xs)
position_there p x xs e =
    ap (λ (b : Bool). cond (nat_lt (cond (not b) (1 + position_or_len p xs) 0) (suc (length xs))) (Some (cond (not b) (1 + position_or_len p xs) 0)) None) e
    ∙ ap (λ (n : ℕ). cond (nat_lt n (suc (length xs))) (Some n) None) (let one : 1 + position_or_len p xs ≡ suc (position_or_len p xs) = omega arith in one)
    ∙ ap (λ (b : Bool). cond b (Some (suc (position_or_len p xs))) None) (less (position_or_len p xs) (length xs))
    ∙ further (nat_lt (position_or_len p xs) (length xs)) (position_or_len p xs)

-- ---- functions by their names

-- the function in place of the first of its name, or behind all others
abbrev pub put_named : List Func → Func → List Func
put_named [] f = f ∷ []
put_named (g ∷ gs) f = cond (bytes_eq g.name f.name) (f ∷ gs) (g ∷ put_named gs f)

-- the function behind all others, unless one has its name
abbrev pub keep_named : List Func → Func → List Func
keep_named [] f = f ∷ []
keep_named (g ∷ gs) f = cond (bytes_eq g.name f.name) (g ∷ gs) (g ∷ keep_named gs f)

defined_there : (g : Func) (gs : List Func) (f : Func) (o : Option ℕ) → defined (g ∷ gs) f (option_map suc o) ≡ g ∷ defined gs f o
defined_there g gs f None = refl
defined_there g gs f (Some i) = refl

declared_there : (g : Func) (gs : List Func) (f : Func) (o : Option ℕ) → declared (g ∷ gs) f (option_map suc o) ≡ g ∷ declared gs f o
declared_there g gs f None = refl
declared_there g gs f (Some i) = refl

abbrev same_name : Func → Func → Bool
same_name f g = bytes_eq g.name f.name

pub defined_put : (fs : List Func) (f : Func) → defined fs f (number_among fs f.name) ≡ put_named fs f
defined_put [] f = refl
defined_put (g ∷ gs) f = by (bytes_eq g.name f.name) refl (defined_put gs f)
  where
    by : (t : Bool) → bytes_eq g.name f.name ≡ t → defined gs f (number_among gs f.name) ≡ put_named gs f → defined (g ∷ gs) f (number_among (g ∷ gs) f.name) ≡ cond t (f ∷ gs) (g ∷ put_named gs f)
    by true e rest = ap (defined (g ∷ gs) f) (position_here (same_name f) g gs e)
    by false e rest = ap (defined (g ∷ gs) f) (position_there (same_name f) g gs e) ∙ defined_there g gs f (number_among gs f.name) ∙ ap (λ (fs : List Func). g ∷ fs) rest

pub declared_keep : (fs : List Func) (f : Func) → declared fs f (number_among fs f.name) ≡ keep_named fs f
declared_keep [] f = refl
declared_keep (g ∷ gs) f = by (bytes_eq g.name f.name) refl (declared_keep gs f)
  where
    by : (t : Bool) → bytes_eq g.name f.name ≡ t → declared gs f (number_among gs f.name) ≡ keep_named gs f → declared (g ∷ gs) f (number_among (g ∷ gs) f.name) ≡ cond t (g ∷ gs) (g ∷ keep_named gs f)
    by true e rest = ap (declared (g ∷ gs) f) (position_here (same_name f) g gs e)
    by false e rest = ap (declared (g ∷ gs) f) (position_there (same_name f) g gs e) ∙ declared_there g gs f (number_among gs f.name) ∙ ap (λ (fs : List Func). g ∷ fs) rest

-- ---- a function that is declared again

-- what a later declaration has to be: of this name, and of the type that the first one told
pub record Agrees (ds : List Declared) (f : Func) : Type 0 where
  pub types : (d : Declared) (h : Heading) → function_named ds f.name ≡ Some d → d.heading ≡ Ok h → IsDeclaredAs d f

agrees_behind : (d : Declared) (ds : List Declared) (f : Func) → bytes_eq d.name f.name ≡ false → Agrees (d ∷ ds) f → Agrees ds f
agrees_behind d ds f e a = record { types = λ d' h found told. a.types d' h (rw e found) told }

put_kept : (ds : List Declared) (fs : List Func) (f : Func) → AreDeclaredAs ds fs → is_some (function_named ds f.name) ≡ true → Agrees ds f → AreDeclaredAs ds (put_named fs f)
put_kept [] [] f all there a = absurd cc
put_kept [] (g ∷ gs) f all there a = absurd all
put_kept (d ∷ ds) [] f all there a = absurd all
put_kept (d ∷ ds) (g ∷ gs) f all there a = by (bytes_eq d.name f.name) refl (put_kept ds gs f all.1)
  where
    by : (t : Bool) → bytes_eq d.name f.name ≡ t → (is_some (function_named ds f.name) ≡ true → Agrees ds f → AreDeclaredAs ds (put_named gs f)) → AreDeclaredAs (d ∷ ds) (put_named (g ∷ gs) f)
    by true e further =
        let test : bytes_eq g.name f.name ≡ true = subst (λ n. bytes_eq n f.name ≡ true) (sym (all.0).name) e in
        let found : function_named (d ∷ ds) f.name ≡ Some d = rw e refl in
        subst (λ (t : Bool). AreDeclaredAs (d ∷ ds) (cond t (f ∷ gs) (g ∷ put_named gs f))) (sym test) (a.types d (all.0).heading found (all.0).told, all.1)
    by false e further =
        let test : bytes_eq g.name f.name ≡ false = subst (λ n. bytes_eq n f.name ≡ false) (sym (all.0).name) e in
        let rest : is_some (function_named ds f.name) ≡ true = sym (ap (λ (t : Bool). is_some (cond t (Some d) (function_named ds f.name))) e) ∙ there in
        subst (λ (t : Bool). AreDeclaredAs (d ∷ ds) (cond t (f ∷ gs) (g ∷ put_named gs f))) (sym test) (all.0, further rest (agrees_behind d ds f e a))

keep_kept : (ds : List Declared) (fs : List Func) (f : Func) → AreDeclaredAs ds fs → is_some (function_named ds f.name) ≡ true → AreDeclaredAs ds (keep_named fs f)
keep_kept [] [] f all there = absurd cc
keep_kept [] (g ∷ gs) f all there = absurd all
keep_kept (d ∷ ds) [] f all there = absurd all
keep_kept (d ∷ ds) (g ∷ gs) f all there = by (bytes_eq d.name f.name) refl (keep_kept ds gs f all.1)
  where
    by : (t : Bool) → bytes_eq d.name f.name ≡ t → (is_some (function_named ds f.name) ≡ true → AreDeclaredAs ds (keep_named gs f)) → AreDeclaredAs (d ∷ ds) (keep_named (g ∷ gs) f)
    by true e further =
        let test : bytes_eq g.name f.name ≡ true = subst (λ n. bytes_eq n f.name ≡ true) (sym (all.0).name) e in
        subst (λ (t : Bool). AreDeclaredAs (d ∷ ds) (cond t (g ∷ gs) (g ∷ keep_named gs f))) (sym test) all
    by false e further =
        let test : bytes_eq g.name f.name ≡ false = subst (λ n. bytes_eq n f.name ≡ false) (sym (all.0).name) e in
        let rest : is_some (function_named ds f.name) ≡ true = sym (ap (λ (t : Bool). is_some (cond t (Some d) (function_named ds f.name))) e) ∙ there in
        subst (λ (t : Bool). AreDeclaredAs (d ∷ ds) (cond t (g ∷ gs) (g ∷ keep_named gs f))) (sym test) (all.0, further rest)

-- ---- a function that is declared first

not_both : true ≡ false → ⊥
not_both h = cc

put_new : (ds : List Declared) (fs : List Func) (d : Declared) (f : Func) → AreDeclaredAs ds fs → is_some (function_named ds f.name) ≡ false → IsDeclaredAs d f → AreDeclaredAs (ds ++ d ∷ []) (put_named fs f)
put_new [] [] d f all there own = (own, tt)
put_new [] (g ∷ gs) d f all there own = absurd all
put_new (e ∷ es) [] d f all there own = absurd all
put_new (e ∷ es) (g ∷ gs) d f all there own = by (bytes_eq e.name f.name) refl (put_new es gs d f all.1)
  where
    by : (t : Bool) → bytes_eq e.name f.name ≡ t → (is_some (function_named es f.name) ≡ false → IsDeclaredAs d f → AreDeclaredAs (es ++ d ∷ []) (put_named gs f)) → AreDeclaredAs (e ∷ (es ++ d ∷ [])) (put_named (g ∷ gs) f)
    by true q further = absurd (not_both (sym (ap (λ (t : Bool). is_some (cond t (Some e) (function_named es f.name))) q) ∙ there))
    by false q further =
        let test : bytes_eq g.name f.name ≡ false = subst (λ n. bytes_eq n f.name ≡ false) (sym (all.0).name) q in
        let rest : is_some (function_named es f.name) ≡ false = sym (ap (λ (t : Bool). is_some (cond t (Some e) (function_named es f.name))) q) ∙ there in
        subst (λ (t : Bool). AreDeclaredAs (e ∷ (es ++ d ∷ [])) (cond t (f ∷ gs) (g ∷ put_named gs f))) (sym test) (all.0, further rest own)

keep_new : (ds : List Declared) (fs : List Func) (d : Declared) (f : Func) → AreDeclaredAs ds fs → is_some (function_named ds f.name) ≡ false → IsDeclaredAs d f → AreDeclaredAs (ds ++ d ∷ []) (keep_named fs f)
keep_new [] [] d f all there own = (own, tt)
keep_new [] (g ∷ gs) d f all there own = absurd all
keep_new (e ∷ es) [] d f all there own = absurd all
keep_new (e ∷ es) (g ∷ gs) d f all there own = by (bytes_eq e.name f.name) refl (keep_new es gs d f all.1)
  where
    by : (t : Bool) → bytes_eq e.name f.name ≡ t → (is_some (function_named es f.name) ≡ false → IsDeclaredAs d f → AreDeclaredAs (es ++ d ∷ []) (keep_named gs f)) → AreDeclaredAs (e ∷ (es ++ d ∷ [])) (keep_named (g ∷ gs) f)
    by true q further = absurd (not_both (sym (ap (λ (t : Bool). is_some (cond t (Some e) (function_named es f.name))) q) ∙ there))
    by false q further =
        let test : bytes_eq g.name f.name ≡ false = subst (λ n. bytes_eq n f.name ≡ false) (sym (all.0).name) q in
        let rest : is_some (function_named es f.name) ≡ false = sym (ap (λ (t : Bool). is_some (cond t (Some e) (function_named es f.name))) q) ∙ there in
        subst (λ (t : Bool). AreDeclaredAs (e ∷ (es ++ d ∷ [])) (cond t (g ∷ gs) (g ∷ keep_named gs f))) (sym test) (all.0, further rest own)

-- ---- what is public of it

pub defined_again : (ds : List Declared) (fs : List Func) (f : Func) → AreDeclaredAs ds fs → is_some (function_named ds f.name) ≡ true → Agrees ds f → AreDeclaredAs ds (defined fs f (number_among fs f.name))
defined_again ds fs f all there a = subst (AreDeclaredAs ds) (sym (defined_put fs f)) (put_kept ds fs f all there a)

pub declared_again : (ds : List Declared) (fs : List Func) (f : Func) → AreDeclaredAs ds fs → is_some (function_named ds f.name) ≡ true → AreDeclaredAs ds (declared fs f (number_among fs f.name))
declared_again ds fs f all there = subst (AreDeclaredAs ds) (sym (declared_keep fs f)) (keep_kept ds fs f all there)

pub defined_first : (ds : List Declared) (fs : List Func) (d : Declared) (f : Func) → AreDeclaredAs ds fs → is_some (function_named ds f.name) ≡ false → IsDeclaredAs d f → AreDeclaredAs (ds ++ d ∷ []) (defined fs f (number_among fs f.name))
defined_first ds fs d f all there own = subst (AreDeclaredAs (ds ++ d ∷ [])) (sym (defined_put fs f)) (put_new ds fs d f all there own)

pub declared_first : (ds : List Declared) (fs : List Func) (d : Declared) (f : Func) → AreDeclaredAs ds fs → is_some (function_named ds f.name) ≡ false → IsDeclaredAs d f → AreDeclaredAs (ds ++ d ∷ []) (declared fs f (number_among fs f.name))
declared_first ds fs d f all there own = subst (AreDeclaredAs (ds ++ d ∷ [])) (sym (declared_keep fs f)) (keep_new ds fs d f all there own)

-- the function of a number is the declared one
pub declared_at : (ds : List Declared) (fs : List Func) (i : ℕ) (d : Declared) → AreDeclaredAs ds fs → slice_get ds i ≡ Some d → (f : Func) × (slice_get fs i ≡ Some f) × IsDeclaredAs d f
declared_at [] fs i d all e = absurd cc
declared_at (c ∷ cs) [] i d all e = absurd all
declared_at (c ∷ cs) (g ∷ gs) zero d all e = (g, refl, subst (λ (x : Declared). IsDeclaredAs x g) (same e) all.0)
  where
    same : {x y : Declared} → Some x ≡ Some y → x ≡ y
    same q = cc
declared_at (c ∷ cs) (g ∷ gs) (suc i) d all e = declared_at cs gs i d all.1 e
