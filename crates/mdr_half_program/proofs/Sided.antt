-- The parts that are made of a half's pieces.
use Rattle.mdr_check.specs.declared.variable.Variable.{Variable}
use Rattle.mdr_core.specs.declared.plan.Half.{Half}
use Rattle.mdr_core.specs.declared.plan.Plan.{Plan}
use Rattle.mdr_half_program.proofs.Putting.{declared_keep, defined_put, keep_named, put_named}
use Rattle.mdr_half_program.specs.Pieces.{function_or_prototype, piece_in}
use Rattle.mdr_half_program.specs.Sides.{AreShown, HalvesHaveTheParts, IsBare, IsShown, IsSide}
use Rattle.mdr_program.specs.declared.parts.Parts.{Parts}
use Rattle.std.proofs.Common.{Bool, List, [], ap, bytes_eq, cond, false, map, refl, subst, sym, true, ℕ, ◌++◌, ◌∙◌, ◌∷◌, ◌≡◌}
use Rattle.mdr_check.specs.declared.file.Piece.TheVariants as piece
use Rattle.mdr_check.specs.declared.file.Piece.{Piece}
use Rattle.mdr_core.specs.declared.program.Func.{Func}
use Rattle.mdr_core.specs.declared.program.StructDef.{StructDef}
use Rattle.mdr_half.specs.Halves.{half_of, is_same_half}
use Rattle.mdr_headings.specs.declared.body.Body.{Body}
use Rattle.mdr_headings.specs.declared.head.Heading.{Heading}
use Rattle.mdr_program.specs.Parts.{number_among, declared, defined, remote, whole, behind_piece, parts_behind, no_parts}
use Rattle.std.proofs.lemmas.Slice.Eq.{bytes_eq-Decides}

module _ (half : Half) (plan : Plan) where
  mine : Func → Bool
  mine f = is_same_half (half_of plan f.name) half

  named_by : (is_mine : Bool) (f g : Func) → IsShown is_mine f g → g.name ≡ f.name
  named_by true f g e = ap (λ (h : Func). h.name) e
  named_by false f g e = e.name

  -- what one function becomes where both are put in its place
  put_both : (fs gs : List Func) → AreShown half plan fs gs → (f g : Func) → g.name ≡ f.name → IsShown (is_same_half (half_of plan f.name) half) f g → AreShown half plan (put_named fs f) (put_named gs g)
  put_both [] [] a f g e r = (r, tt)
  put_both [] (y ∷ gs) a f g e r = absurd a
  put_both (x ∷ fs) [] a f g e r = absurd a
  put_both (x ∷ fs) (y ∷ gs) a f g e r =
      by (bytes_eq x.name f.name) (bytes_eq y.name g.name) (ap (λ (n : List ℕ). bytes_eq n f.name) (sym (named_by (is_same_half (half_of plan x.name) half) x y a.0)) ∙ ap (λ (n : List ℕ). bytes_eq y.name n) (sym e)) (put_both fs gs a.1 f g e r)
    where
      by : (t u : Bool) → t ≡ u → AreShown half plan (put_named fs f) (put_named gs g) → AreShown half plan (cond t (f ∷ fs) (x ∷ put_named fs f)) (cond u (g ∷ gs) (y ∷ put_named gs g))
      by true true p rest = (r, a.1)
      by false false p rest = (a.0, rest)
      by true false p rest = absurd cc
      by false true p rest = absurd cc

  keep_both : (fs gs : List Func) → AreShown half plan fs gs → (f g : Func) → g.name ≡ f.name → IsShown (is_same_half (half_of plan f.name) half) f g → AreShown half plan (keep_named fs f) (keep_named gs g)
  keep_both [] [] a f g e r = (r, tt)
  keep_both [] (y ∷ gs) a f g e r = absurd a
  keep_both (x ∷ fs) [] a f g e r = absurd a
  keep_both (x ∷ fs) (y ∷ gs) a f g e r =
      by (bytes_eq x.name f.name) (bytes_eq y.name g.name) (ap (λ (n : List ℕ). bytes_eq n f.name) (sym (named_by (is_same_half (half_of plan x.name) half) x y a.0)) ∙ ap (λ (n : List ℕ). bytes_eq y.name n) (sym e)) (keep_both fs gs a.1 f g e r)
    where
      by : (t u : Bool) → t ≡ u → AreShown half plan (keep_named fs f) (keep_named gs g) → AreShown half plan (cond t (x ∷ fs) (x ∷ keep_named fs f)) (cond u (y ∷ gs) (y ∷ keep_named gs g))
      by true true p rest = a
      by false false p rest = (a.0, rest)
      by true false p rest = absurd cc
      by false true p rest = absurd cc

  -- a body of the other half takes the place of a function that stays as it is in the half's text
  replaced : (x y f : Func) → bytes_eq x.name f.name ≡ true → is_same_half (half_of plan f.name) half ≡ false → IsShown (is_same_half (half_of plan x.name) half) x y → IsShown (is_same_half (half_of plan f.name) half) f y
  replaced x y f q other r =
      let same : x.name ≡ f.name = (bytes_eq-Decides x.name f.name).0 q in
      let bare : IsBare x y = subst (λ b. IsShown b x y) (ap (λ (n : List ℕ). is_same_half (half_of plan n) half) same ∙ other) r in
      subst (λ b. IsShown b f y) (sym other) (record { name = bare.name ∙ same; body = bare.body; locals = bare.locals; critical = bare.critical })

  other_both : (fs gs : List Func) → AreShown half plan fs gs → (f g : Func) → g.name ≡ f.name → is_same_half (half_of plan f.name) half ≡ false → IsBare f g → AreShown half plan (put_named fs f) (keep_named gs g)
  other_both [] [] a f g e o r = (subst (λ b. IsShown b f g) (sym o) r, tt)
  other_both [] (y ∷ gs) a f g e o r = absurd a
  other_both (x ∷ fs) [] a f g e o r = absurd a
  other_both (x ∷ fs) (y ∷ gs) a f g e o r =
      by (bytes_eq x.name f.name) (bytes_eq y.name g.name) refl (ap (λ (n : List ℕ). bytes_eq n f.name) (sym (named_by (is_same_half (half_of plan x.name) half) x y a.0)) ∙ ap (λ (n : List ℕ). bytes_eq y.name n) (sym e)) (other_both fs gs a.1 f g e o r)
    where
      by : (t u : Bool) → bytes_eq x.name f.name ≡ t → t ≡ u → AreShown half plan (put_named fs f) (keep_named gs g) → AreShown half plan (cond t (f ∷ fs) (x ∷ put_named fs f)) (cond u (y ∷ gs) (y ∷ keep_named gs g))
      by true true q p rest = (replaced x y f q o a.0, a.1)
      by false false q p rest = (a.0, rest)
      by true false q p rest = absurd cc
      by false true q p rest = absurd cc

  -- ---- pieces

  shown_itself : (b : Bool) (name : List ℕ) (h : Heading) → IsShown b (remote name h) (remote name h)
  shown_itself true name h = refl
  shown_itself false name h = record { name = refl; body = refl; locals = refl; critical = refl }

  whole_by : (b : Bool) (name : List ℕ) (c : Bool) (h : Heading) (x : Body) → b ≡ true → IsShown b (whole name c h x) (whole name c h x)
  whole_by true name c h x e = refl
  whole_by false name c h x e = absurd cc

  defined_both : (ps qs : List Func) → AreShown half plan ps qs → (name : List ℕ) (c : Bool) (h : Heading) (x : Body) (b : Bool) → is_same_half (half_of plan name) half ≡ b
      → (p q : Parts) → p.funcs ≡ ps → q.funcs ≡ qs → AreShown half plan (behind_piece p (piece.Function name c h x)).funcs (behind_piece q (function_or_prototype b name c h x)).funcs
  defined_both ps qs a name c h x true e p q pe qe =
      subst (λ (z : List Func). AreShown half plan (defined z (whole name c h x) (number_among z name)) (defined q.funcs (whole name c h x) (number_among q.funcs name))) (sym pe)
      (subst (λ (z : List Func). AreShown half plan (defined ps (whole name c h x) (number_among ps name)) (defined z (whole name c h x) (number_among z name))) (sym qe)
      (subst (λ (z : List Func). AreShown half plan z (defined qs (whole name c h x) (number_among qs name))) (sym (defined_put ps (whole name c h x)))
      (subst (λ (z : List Func). AreShown half plan (put_named ps (whole name c h x)) z) (sym (defined_put qs (whole name c h x)))
      (put_both ps qs a (whole name c h x) (whole name c h x) refl (whole_by (is_same_half (half_of plan name) half) name c h x e)))))
  defined_both ps qs a name c h x false e p q pe qe =
      subst (λ (z : List Func). AreShown half plan (defined z (whole name c h x) (number_among z name)) (declared q.funcs (remote name h) (number_among q.funcs name))) (sym pe)
      (subst (λ (z : List Func). AreShown half plan (defined ps (whole name c h x) (number_among ps name)) (declared z (remote name h) (number_among z name))) (sym qe)
      (subst (λ (z : List Func). AreShown half plan z (declared qs (remote name h) (number_among qs name))) (sym (defined_put ps (whole name c h x)))
      (subst (λ (z : List Func). AreShown half plan (put_named ps (whole name c h x)) z) (sym (declared_keep qs (remote name h)))
      (other_both ps qs a (whole name c h x) (remote name h) refl e (record { name = refl; body = refl; locals = refl; critical = refl })))))

  prototypes_both : (ps qs : List Func) → AreShown half plan ps qs → (name : List ℕ) (h : Heading) → AreShown half plan (declared ps (remote name h) (number_among ps name)) (declared qs (remote name h) (number_among qs name))
  prototypes_both ps qs a name h =
      subst (λ (z : List Func). AreShown half plan z (declared qs (remote name h) (number_among qs name))) (sym (declared_keep ps (remote name h)))
      (subst (λ (z : List Func). AreShown half plan (keep_named ps (remote name h)) z) (sym (declared_keep qs (remote name h)))
      (keep_both ps qs a (remote name h) (remote name h) refl (shown_itself (is_same_half (half_of plan name) half) name h)))

  structs_kept : (b : Bool) (name : List ℕ) (c : Bool) (h : Heading) (x : Body) (q : Parts) → ((behind_piece q (function_or_prototype b name c h x)).structs ≡ q.structs) × ((behind_piece q (function_or_prototype b name c h x)).variables ≡ q.variables)
  structs_kept true name c h x q = (refl, refl)
  structs_kept false name c h x q = (refl, refl)

  behind_both : (p q : Parts) → IsSide half plan p q → (x : Piece) → IsSide half plan (behind_piece p x) (behind_piece q (piece_in half plan x))
  behind_both p q a piece.Nothing = a
  behind_both p q a (piece.Struct d) = record { structs = ap (λ (ds : List StructDef). ds ++ d ∷ []) a.structs; variables = a.variables; funcs = a.funcs }
  behind_both p q a (piece.Global v) = record { structs = a.structs; variables = ap (λ (vs : List Variable). vs ++ v ∷ []) a.variables; funcs = a.funcs }
  behind_both p q a (piece.Prototype name h) = record { structs = a.structs; variables = a.variables; funcs = prototypes_both p.funcs q.funcs a.funcs name h }
  behind_both p q a (piece.Function name c h x) = record {
    structs = (structs_kept (is_same_half (half_of plan name) half) name c h x q).0 ∙ a.structs;
    variables = (structs_kept (is_same_half (half_of plan name) half) name c h x q).1 ∙ a.variables;
    funcs = defined_both p.funcs q.funcs a.funcs name c h x (is_same_half (half_of plan name) half) refl p q refl refl;
  }

  parts_both : (xs : List Piece) (p q : Parts) → IsSide half plan p q → IsSide half plan (parts_behind p xs) (parts_behind q (map (piece_in half plan) xs))
  unfolding parts_behind
  parts_both [] p q a = a
  parts_both (x ∷ xs) p q a = parts_both xs (behind_piece p x) (behind_piece q (piece_in half plan x)) (behind_both p q a x)

pub sides_both : HalvesHaveTheParts
sides_both half plan xs = parts_both half plan xs no_parts no_parts (record { structs = refl; variables = refl; funcs = tt })
