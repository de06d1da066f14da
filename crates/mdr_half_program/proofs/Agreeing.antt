-- Declarations that agree say the same of a function, but for the names of its parameters.
use Rattle.std.proofs.Common.{◌≡◌, ℕ, ◌+◌, Bool, true, false, List, [], ◌∷◌, map, Option, Some, None, slice_get, refl, sym, ◌∙◌}
use Rattle.std.specs.Prelude.{◌&&◌}
use Rattle.mdr_core.specs.declared.program.Func.{Func}
use Rattle.mdr_core.specs.declared.program.Param.{Param}
use Rattle.mdr_faults.specs.Alike.{is_alike}
use Rattle.mdr_headings.specs.declared.body.Body.{Body}
use Rattle.mdr_headings.specs.declared.head.Heading.{Heading}
use Rattle.mdr_headings.specs.Functions.{are_same_params, is_same_ann, is_same_heading, is_same_param}
use Rattle.mdr_program.specs.Parts.{flagged, marked, remote, whole}
use Rattle.mdr_sound.proofs.Alike.{left_of, right_of}
use Rattle.mdr_sound.proofs.Functions.{same_headings}
use Rattle.mdr_half_program.specs.Headings.{unnamed}

-- ---- a function with this heading

pub record IsHeaded (h : Heading) (f : Func) : Type 0 where
  pub result : f.result ≡ h.result
  pub annotation : f.ann ≡ h.ann
  pub params : map unnamed f.params ≡ map unnamed h.params

flagged_unnamed : (p : Param) (o : Option Bool) → unnamed (flagged p o) ≡ unnamed p
flagged_unnamed p None = refl
flagged_unnamed p (Some b) = refl

marked_unnamed : (objects : List Bool) (i : ℕ) (ps : List Param) → map unnamed (marked objects i ps) ≡ map unnamed ps
unfolding marked
marked_unnamed objects i [] = refl
marked_unnamed objects i (p ∷ ps) = λ j. flagged_unnamed p (slice_get objects i) j ∷ marked_unnamed objects (i + 1) ps j

pub remote_headed : (name : List ℕ) (h : Heading) → IsHeaded h (remote name h)
remote_headed name h = record { result = refl; annotation = refl; params = refl }

pub whole_headed : (name : List ℕ) (is_critical : Bool) (h : Heading) (b : Body) → IsHeaded h (whole name is_critical h b)
whole_headed name is_critical h b = record { result = refl; annotation = refl; params = marked_unnamed b.objects 0 h.params }

-- ---- parameters that agree

-- a parameter is compared as the heading of a function without parameters is
abbrev alone : Param → Heading
alone p = record { result = p.ty; ann = p.ann; params = [] }

and_nothing : (a b : Bool) → (a && b) ≡ true → (a && (b && true)) ≡ true
and_nothing true true e = refl
and_nothing true false e = absurd cc
and_nothing false b e = absurd cc

param_unnamed : (p q : Param) → is_same_param p q ≡ true → unnamed p ≡ unnamed q
param_unnamed p q e =
    let same = same_headings (alone p) (alone q) (and_nothing (is_alike p.ty q.ty) (is_same_ann p.ann q.ann) e) in
    λ i. (same.result i, same.note i)

params_unnamed : (ps qs : List Param) → are_same_params ps qs ≡ true → map unnamed ps ≡ map unnamed qs
params_unnamed [] [] e = refl
params_unnamed [] (q ∷ qs) e = absurd cc
params_unnamed (p ∷ ps) [] e = absurd cc
params_unnamed (p ∷ ps) (q ∷ qs) e =
    let first = param_unnamed p q (left_of (is_same_param p q) (are_same_params ps qs) e) in
    let rest = params_unnamed ps qs (right_of (is_same_param p q) (are_same_params ps qs) e) in
    λ i. first i ∷ rest i

-- ---- headings that agree

-- what has the later heading has the earlier one
pub earlier_headed : (a b : Heading) (f : Func) → is_same_heading a b ≡ true → IsHeaded b f → IsHeaded a f
earlier_headed a b f e h =
    let same = same_headings a b e in
    let rest = right_of (is_alike a.result b.result) (is_same_ann a.ann b.ann && are_same_params a.params b.params) e in
    record {
      result = h.result ∙ sym same.result;
      annotation = h.annotation ∙ sym same.note;
      params = h.params ∙ sym (params_unnamed a.params b.params (right_of (is_same_ann a.ann b.ann) (are_same_params a.params b.params) rest));
    }
