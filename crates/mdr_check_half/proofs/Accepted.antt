-- A plan that suits a text suits its program.
use Rattle.std.proofs.Common.{◌≡◌, ℕ, zero, suc, ◌==◌, ◌&&◌, Bool, true, false, List, [], ◌∷◌, length, map, Option, Some, None, is_some, slice_get, IsTrue, refl, ap, ◌∙◌, subst}
use Rattle.std.specs.List.{list_all}
use Rattle.std.specs.Option.{option_map}
use Rattle.std.specs.Str.{bytes_eq}
use Rattle.std.proofs.lemmas.Slice.Eq.{bytes_eq-Decides}
use Rattle.mdr_core.specs.declared.plan.Key.{Key}
use Rattle.mdr_core.specs.declared.plan.Key.TheVariants as key
use Rattle.mdr_core.specs.declared.plan.Plan.{Plan}
use Rattle.mdr_core.specs.declared.program.Func.{Func}
use Rattle.mdr_core.specs.declared.program.Program.{Program}
use Rattle.mdr_core.specs.declared.program.StructDef.{StructDef}
use Rattle.mdr_core.specs.declared.types.Ty.{Ty}
use Rattle.mdr_core.specs.Suited.{IsSuited, global_type, key_type, is_no_lock, is_key}
use Rattle.mdr_faults.specs.Faults.{Checked, Right, Wrong, after}
use Rattle.mdr_check.specs.declared.file.Piece.{Piece}
use Rattle.mdr_check.specs.declared.variable.Variable.{Variable}
use Rattle.mdr_check.specs.Whole.{file_pieces}
use Rattle.mdr_program.specs.declared.parts.Parts.{Parts}
use Rattle.mdr_program.specs.Occurring.{occurring}
use Rattle.mdr_program.specs.Parts.{parts_of}
use Rattle.mdr_program.specs.Programs.{global_defs, with_types}
use Rattle.mdr_check_half.specs.Suiting.{are_named, is_whole, is_bare, each_function, structs_in, has_type, variable_type, named_type, names_something, is_free, names_no_lock, each_key, suits_text}
use Rattle.mdr_check_half.specs.HalfPrograms.{planned, half_right}
use Rattle.mdr_check_half.specs.HalfLaws.{PlansSuitTheirHalves}

-- ---- what a text came to

pub both : (a b : Bool) → (a && b) ≡ true → (a ≡ true) × (b ≡ true)
both true b h = (refl, h)
both false b h = absurd cc

-- the text's pieces, which the plan suits, and its program
pub record IsHalfOf (pieces : Checked (List Piece)) (plan : Plan) (program : Program) : Type 0 where
  pub value : List Piece
  pub right : pieces ≡ Right value
  pub suits : suits_text plan (parts_of value) ≡ true
  pub made : with_types plan.types (parts_of value) ≡ program

right_same : {A : Type 0} {x y : A} → ◌≡◌ {A = Checked A} (Right x) (Right y) → x ≡ y
right_same e = cc

of_parts : (xs : List Piece) (plan : Plan) (program : Program) → planned plan (parts_of xs) ≡ Right program → IsHalfOf (Right xs) plan program
of_parts xs plan program e = by (suits_text plan (parts_of xs)) refl
  where
    by : (t : Bool) → suits_text plan (parts_of xs) ≡ t → IsHalfOf (Right xs) plan program
    by true s = let f : ◌≡◌ {A = Checked Program} (Right (with_types plan.types (parts_of xs))) (Right program) = rw s at e in record { value = xs; right = refl; suits = s; made = right_same f }
    by false s = absurd (let f = rw s at e in cc)

pub half_of : (pieces : Checked (List Piece)) (plan : Plan) (program : Program) → after pieces (half_right plan) ≡ Right program → IsHalfOf pieces plan program
half_of (Right xs) plan program e = of_parts xs plan program e
half_of (Wrong fs) plan program e = absurd cc

-- ---- the tests

pub record HasTests (plan : Plan) (ps : Parts) : Type 0 where
  pub names : are_named plan.names ps.funcs ≡ true
  pub whole : each_function is_whole plan.halves ps.funcs ≡ true
  pub bare : each_function is_bare plan.halves ps.funcs ≡ true
  pub structs : (structs_in plan.types == length ps.structs) ≡ true
  pub types : list_all (λ t. has_type plan.types t) (occurring ps) ≡ true
  pub something : each_key (λ k. names_something plan.types ps k) plan.keys ≡ true
  pub no_lock : each_key (λ k. names_no_lock plan.types ps k) plan.keys ≡ true

pub tests_of : (plan : Plan) (ps : Parts) → suits_text plan ps ≡ true → HasTests plan ps
unfolding suits_text
tests_of plan ps e =
    let a = both (are_named plan.names ps.funcs) _ e in
    let b = both (each_function is_whole plan.halves ps.funcs) _ a.1 in
    let c = both (each_function is_bare plan.halves ps.funcs) _ b.1 in
    let d = both (structs_in plan.types == length ps.structs) _ c.1 in
    let f = both (list_all (λ t. has_type plan.types t) (occurring ps)) _ d.1 in
    let g = both (each_key (λ k. names_something plan.types ps k) plan.keys) _ f.1 in
    record { names = a.0; whole = b.0; bare = c.0; structs = d.0; types = f.0; something = g.0; no_lock = g.1 }

-- ---- names

names_are : (names : List (List ℕ)) (fs : List Func) → are_named names fs ≡ true → names ≡ map (λ (f : Func). f.name) fs
names_are [] [] e = refl
names_are [] (f ∷ fs) e = absurd cc
names_are (name ∷ names) [] e = absurd cc
names_are (name ∷ names) (f ∷ fs) e =
    let h = both (bytes_eq name f.name) (are_named names fs) e in
    let first : name ≡ f.name = (bytes_eq-Decides name f.name).0 h.0 in
    let rest : names ≡ map (λ (f : Func). f.name) fs = names_are names fs h.1 in
    λ i. first i ∷ rest i

how_many : (names : List (List ℕ)) (fs : List Func) → are_named names fs ≡ true → length names ≡ length fs
how_many [] [] e = refl
how_many [] (f ∷ fs) e = absurd cc
how_many (name ∷ names) [] e = absurd cc
how_many (name ∷ names) (f ∷ fs) e = ap suc (how_many names fs (both (bytes_eq name f.name) (are_named names fs) e).1)

-- ---- keys

pub all_at : {A : Type 0} (test : A → Bool) (xs : List A) (i : ℕ) (x : A) → list_all test xs ≡ true → slice_get xs i ≡ Some x → test x ≡ true
all_at test [] i x h e = absurd cc
all_at test (y ∷ ys) zero x h e = let same : y ≡ x = cc in subst (λ z. test z ≡ true) same (both (test y) (list_all test ys) h).0
all_at test (y ∷ ys) (suc i) x h e = all_at test ys i x (both (test y) (list_all test ys) h).1 e

key_at : (test : Key → Bool) (lists : List (List Key)) (f i : ℕ) (ks : List Key) (k : Key) → each_key test lists ≡ true → slice_get lists f ≡ Some ks → slice_get ks i ≡ Some k → test k ≡ true
key_at test lists f i ks k h at e = all_at test ks i k (all_at (λ ks. list_all test ks) lists f ks h at) e

global_at : (types : List Ty) (structs : List StructDef) (all vs : List Variable) (g : ℕ) → option_map global_type (slice_get (global_defs types structs all vs) g) ≡ option_map variable_type (slice_get vs g)
unfolding global_defs
global_at types structs all [] g = refl
global_at types structs all (v ∷ vs) zero = refl
global_at types structs all (v ∷ vs) (suc g) = global_at types structs all vs g

named_is : (types : List Ty) (ps : Parts) (k : Key) → key_type (with_types types ps) k ≡ named_type types ps k
named_is types ps (key.Global g) = global_at types ps.structs ps.variables ps.variables g
named_is types ps (key.Field s f) = refl
named_is types ps (key.Elem t) = refl

no_lock_by : (o : Option Ty) → is_some o ≡ true → is_free o ≡ true → is_no_lock o ≡ true
no_lock_by None s f = absurd cc
no_lock_by (Some t) s f = f

key_is : (types : List Ty) (ps : Parts) (k : Key) → names_something types ps k ≡ true → names_no_lock types ps k ≡ true → IsTrue (is_key (with_types types ps) k)
unfolding is_key
key_is types ps k s f = ap is_no_lock (named_is types ps k) ∙ no_lock_by (named_type types ps k) s f

-- ---- the whole plan

pub plans_suit : PlansSuitTheirHalves
plans_suit body uses plan items program is e =
    let half = half_of (file_pieces body uses items) plan program e in
    let ps : Parts = parts_of half.value in
    let tests = tests_of plan ps half.suits in
    let count = how_many plan.names ps.funcs tests.names in
    subst (IsSuited plan) half.made (record {
      types = refl;
      names = names_are plan.names ps.funcs tests.names;
      halves = is.halves ∙ count;
      roots = is.roots ∙ count;
      down = is.down ∙ count;
      lists = is.lists ∙ count;
      kernel = is.kernel;
      keys = λ f i ks k at there. key_is plan.types ps k (key_at (λ k. names_something plan.types ps k) plan.keys f i ks k tests.something at there) (key_at (λ k. names_no_lock plan.types ps k) plan.keys f i ks k tests.no_lock at there);
    })
