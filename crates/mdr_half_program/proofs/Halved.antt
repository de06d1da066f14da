-- No name is that of two functions, so a plan gives each function its half by its name.
use Rattle.std.proofs.Common.{◌≡◌, ℕ, suc, Bool, true, false, cond, List, [], ◌∷◌, length, map, Option, Some, None, slice_get, refl, sym, ap, subst, ◌∙◌, arith}
use Rattle.std.proofs.lemmas.Slice.Eq.{bytes_eq-Decides}
use Rattle.std.specs.List.{position}
use Rattle.std.specs.Option.{option_map}
use Rattle.std.specs.Str.{bytes_eq}
use Rattle.mdr_core.specs.declared.plan.Half.{Half}
use Rattle.mdr_core.specs.declared.plan.Half.TheVariants.{User}
use Rattle.mdr_core.specs.declared.plan.Plan.{Plan}
use Rattle.mdr_core.specs.declared.program.Func.{Func}
use Rattle.mdr_check.specs.declared.file.Piece.{Piece}
use Rattle.mdr_check.specs.declared.file.Piece.TheVariants as piece
use Rattle.mdr_program.specs.declared.parts.Parts.{Parts}
use Rattle.mdr_program.specs.Parts.{remote, whole, behind_piece, parts_behind, parts_of, no_parts}
use Rattle.mdr_half.specs.Halves.{half_of, half_by}
use Rattle.mdr_half.specs.Plans.{half_or_user}
use Rattle.mdr_half_program.specs.Suited.{HaveHalves, HalvesAreByNames}
use Rattle.mdr_half_program.proofs.Putting.{put_named, keep_named, defined_put, declared_keep, position_here, position_there}

-- ---- names once

-- none of these has the name
abbrev NoneNamed : List ℕ → List Func → Type 0
NoneNamed name [] = Unit {0}
NoneNamed name (g ∷ gs) = (bytes_eq name g.name ≡ false) × NoneNamed name gs

abbrev AreOnce : List Func → Type 0
AreOnce [] = Unit {0}
AreOnce (g ∷ gs) = NoneNamed g.name gs × AreOnce gs

none_put : (name : List ℕ) (gs : List Func) (f : Func) → NoneNamed name gs → bytes_eq name f.name ≡ false → NoneNamed name (put_named gs f)
none_put name [] f h e = (e, tt)
none_put name (g ∷ gs) f h e = by (bytes_eq g.name f.name) (none_put name gs f h.1 e)
  where
    by : (t : Bool) → NoneNamed name (put_named gs f) → NoneNamed name (cond t (f ∷ gs) (g ∷ put_named gs f))
    by true rest = (e, h.1)
    by false rest = (h.0, rest)

none_keep : (name : List ℕ) (gs : List Func) (f : Func) → NoneNamed name gs → bytes_eq name f.name ≡ false → NoneNamed name (keep_named gs f)
none_keep name [] f h e = (e, tt)
none_keep name (g ∷ gs) f h e = by (bytes_eq g.name f.name) (none_keep name gs f h.1 e)
  where
    by : (t : Bool) → NoneNamed name (keep_named gs f) → NoneNamed name (cond t (g ∷ gs) (g ∷ keep_named gs f))
    by true rest = h
    by false rest = (h.0, rest)

put_once : (gs : List Func) (f : Func) → AreOnce gs → AreOnce (put_named gs f)
put_once [] f h = (tt, tt)
put_once (g ∷ gs) f h = by (bytes_eq g.name f.name) refl (put_once gs f h.1)
  where
    by : (t : Bool) → bytes_eq g.name f.name ≡ t → AreOnce (put_named gs f) → AreOnce (cond t (f ∷ gs) (g ∷ put_named gs f))
    by true e rest = (subst (λ (n : List ℕ). NoneNamed n gs) ((bytes_eq-Decides g.name f.name).0 e) h.0, h.1)
    by false e rest = (none_put g.name gs f h.0 e, rest)

keep_once : (gs : List Func) (f : Func) → AreOnce gs → AreOnce (keep_named gs f)
keep_once [] f h = (tt, tt)
keep_once (g ∷ gs) f h = by (bytes_eq g.name f.name) refl (keep_once gs f h.1)
  where
    by : (t : Bool) → bytes_eq g.name f.name ≡ t → AreOnce (keep_named gs f) → AreOnce (cond t (g ∷ gs) (g ∷ keep_named gs f))
    by true e rest = h
    by false e rest = (none_keep g.name gs f h.0 e, rest)

one_once : (ps : Parts) (x : Piece) → AreOnce ps.funcs → AreOnce (behind_piece ps x).funcs
one_once ps piece.Nothing h = h
one_once ps (piece.Struct d) h = h
one_once ps (piece.Global v) h = h
one_once ps (piece.Prototype name x) h = subst AreOnce (sym (declared_keep ps.funcs (remote name x))) (keep_once ps.funcs (remote name x) h)
one_once ps (piece.Function name c x b) h = subst AreOnce (sym (defined_put ps.funcs (whole name c x b))) (put_once ps.funcs (whole name c x b) h)

all_once : (xs : List Piece) (ps : Parts) → AreOnce ps.funcs → AreOnce (parts_behind ps xs).funcs
unfolding parts_behind
all_once [] ps h = h
all_once (x ∷ xs) ps h = all_once xs (behind_piece ps x) (one_once ps x h)

-- ---- halves by names

abbrev half_at : List Half → Option ℕ → Half
half_at hs None = User
half_at hs (Some i) = half_or_user (slice_get hs i)

half_by_at : (plan : Plan) (o : Option ℕ) → half_by plan o ≡ half_at plan.halves o
half_by_at plan None = refl
half_by_at plan (Some i) = refl

half_further : (h : Half) (hs : List Half) (o : Option ℕ) → half_at (h ∷ hs) (option_map suc o) ≡ half_at hs o
half_further h hs None = refl
half_further h hs (Some i) = refl

abbrev names_of : List Func → List (List ℕ)
names_of fs = map (λ (f : Func). f.name) fs

abbrev half_among : List Half → List (List ℕ) → List ℕ → Half
half_among hs ns name = half_at hs (position (λ n. bytes_eq n name) ns)

-- behind a function of another name
moved : (hs all : List Half) (h : Half) (ns : List (List ℕ)) (first : List ℕ) (fs : List Func) → NoneNamed first fs → HaveHalves (half_among all ns) hs fs → HaveHalves (half_among (h ∷ all) (first ∷ ns)) hs fs
moved [] all h ns first fs none k = tt
moved (x ∷ hs) all h ns first [] none k = absurd k
moved (x ∷ hs) all h ns first (f ∷ fs) none k = (
  ap (half_at (h ∷ all)) (position_there (λ n. bytes_eq n f.name) first ns none.0) ∙ half_further h all (position (λ n. bytes_eq n f.name) ns) ∙ k.0,
  moved hs all h ns first fs none.1 k.1,
)

halves_at : (hs : List Half) (fs : List Func) → length hs ≡ length fs → AreOnce fs → HaveHalves (half_among hs (names_of fs)) hs fs
halves_at [] fs e h = tt
halves_at (x ∷ hs) [] e h = absurd cc
halves_at (x ∷ hs) (f ∷ fs) e h = (
  ap (half_at (x ∷ hs)) (position_here (λ n. bytes_eq n f.name) f.name (names_of fs) ((bytes_eq-Decides f.name f.name).1 refl)),
  moved hs hs x (names_of fs) f.name fs h.0 (halves_at hs fs (let same : length hs ≡ length fs = omega (arith, e) in same) h.1),
)

same_halves : (of other : List ℕ → Half) → ((name : List ℕ) → of name ≡ other name) → (hs : List Half) (fs : List Func) → HaveHalves other hs fs → HaveHalves of hs fs
same_halves of other e [] fs h = tt
same_halves of other e (x ∷ hs) [] h = absurd h
same_halves of other e (x ∷ hs) (f ∷ fs) h = (e f.name ∙ h.0, same_halves of other e hs fs h.1)

lengths_same : (fs : List Func) → length (names_of fs) ≡ length fs
lengths_same [] = refl
lengths_same (f ∷ fs) = ap (λ n. suc n) (lengths_same fs)

half_is : (plan : Plan) (ns : List (List ℕ)) → plan.names ≡ ns → (name : List ℕ) → half_of plan name ≡ half_among plan.halves ns name
unfolding half_of
half_is plan ns e name = half_by_at plan (position (λ n. bytes_eq n name) plan.names) ∙ ap (λ (ms : List (List ℕ)). half_among plan.halves ms name) e

pub halves_by_names : HalvesAreByNames
halves_by_names plan xs e l =
    same_halves (half_of plan) (half_among plan.halves (names_of (parts_of xs).funcs)) (half_is plan (names_of (parts_of xs).funcs) e) plan.halves (parts_of xs).funcs
    (halves_at plan.halves (parts_of xs).funcs (l ∙ ap (λ (ns : List (List ℕ)). length ns) e ∙ lengths_same (parts_of xs).funcs) (all_once xs no_parts tt))
