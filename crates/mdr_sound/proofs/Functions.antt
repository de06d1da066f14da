-- Functions of a program, from what stands before their bodies.
use Rattle.std.proofs.Common.{◌≡◌, ℕ, zero, suc, ◌+◌, Bool, true, List, [], ◌∷◌, map, length, Option, Some, None, slice_get, refl, sym, ap, subst, ◌∙◌, eqb-true}
use Rattle.std.specs.Prelude.{◌&&◌}
use Rattle.mdr_core.specs.declared.program.Local.{Local}
use Rattle.mdr_core.specs.declared.program.Param.{Param}
use Rattle.mdr_core.specs.declared.program.Program.{Program}
use Rattle.mdr_core.specs.declared.types.Ann.{Ann}
use Rattle.mdr_core.specs.declared.types.Ann.TheVariants as ann
use Rattle.mdr_core.specs.declared.types.LenOf.{LenOf}
use Rattle.mdr_core.specs.declared.types.LenOf.TheVariants as len
use Rattle.mdr_core.specs.declared.types.Ty.{Ty}
use Rattle.mdr_core.specs.declared.types.Ty.TheVariants as type
use Rattle.mdr_core.specs.Sound.{Sibling, sibling_param, Annotates, IsSoundFunc, IsSoundLocal, IsSoundParam, HasTypedBody}
use Rattle.mdr_core.specs.Types.{HasNumber, sort_of}
use Rattle.mdr_core.specs.Typing.{function_type}
use Rattle.mdr_core.proofs.Viewed.{some_same}
use Rattle.mdr_faults.specs.Alike.{is_alike}
use Rattle.mdr_headings.specs.declared.body.Body.{Body}
use Rattle.mdr_headings.specs.declared.head.Heading.{Heading}
use Rattle.mdr_headings.specs.Functions.{is_same_length, is_same_ann, is_same_param, are_same_params, is_same_heading}
use Rattle.mdr_program.specs.Parts.{flagged, marked, remote, whole}
use Rattle.mdr_sound.proofs.Alike.{left_of, right_of, alike_same}
use Rattle.mdr_sound.specs.Declared.{IsSoundHeading}

-- ---- parameters that are objects

flagged_sibling : (p : Param) (o : Option Bool) → sibling_param (flagged p o) ≡ sibling_param p
flagged_sibling p None = refl
flagged_sibling p (Some b) = refl

flagged_type : (p : Param) (o : Option Bool) → (flagged p o).ty ≡ p.ty
flagged_type p None = refl
flagged_type p (Some b) = refl

flagged_note : (p : Param) (o : Option Bool) → (flagged p o).ann ≡ p.ann
flagged_note p None = refl
flagged_note p (Some b) = refl

pub marked_siblings : (objects : List Bool) (i : ℕ) (ps : List Param) → map sibling_param (marked objects i ps) ≡ map sibling_param ps
unfolding marked
marked_siblings objects i [] = refl
marked_siblings objects i (p ∷ ps) = λ j. flagged_sibling p (slice_get objects i) j ∷ marked_siblings objects (i + 1) ps j

pub marked_types : (objects : List Bool) (i : ℕ) (ps : List Param) → map (λ (p : Param). p.ty) (marked objects i ps) ≡ map (λ (p : Param). p.ty) ps
unfolding marked
marked_types objects i [] = refl
marked_types objects i (p ∷ ps) = λ j. flagged_type p (slice_get objects i) j ∷ marked_types objects (i + 1) ps j

-- the parameter that was marked
record IsMarked (ps : List Param) (k : ℕ) (p : Param) : Type 0 where
  before : Param
  names : slice_get ps k ≡ Some before
  type : p.ty ≡ before.ty
  note : p.ann ≡ before.ann

marked_at : (objects : List Bool) (i : ℕ) (ps : List Param) (k : ℕ) (p : Param) → slice_get (marked objects i ps) k ≡ Some p → IsMarked ps k p
unfolding marked
marked_at objects i [] k p e = cc
marked_at objects i (q ∷ qs) zero p e =
    let same : flagged q (slice_get objects i) ≡ p = some_same e in
    record {
      before = q;
      names = refl;
      type = ap (λ (r : Param). r.ty) (sym same) ∙ flagged_type q (slice_get objects i);
      note = ap (λ (r : Param). r.ann) (sym same) ∙ flagged_note q (slice_get objects i);
    }
marked_at objects i (q ∷ qs) (suc k) p e =
    let m = marked_at objects (i + 1) qs k p e in
    record { before = m.before; names = m.names; type = m.type; note = m.note }

param_as : (program : Program) (siblings others : List Sibling) (p q : Param) → others ≡ siblings → p.ty ≡ q.ty → p.ann ≡ q.ann → IsSoundParam program siblings q → IsSoundParam program others p
param_as program siblings others p q same type note h = record {
  sort = ap (sort_of (length program.structs)) type ∙ h.sort;
  annotation = subst (λ (ss : List Sibling). Annotates program ss p.ty p.ann) (sym same) (subst (λ (t : Ty). Annotates program siblings t p.ann) (sym type) (subst (λ (a : Ann). Annotates program siblings q.ty a) (sym note) h.annotation));
  in_table = subst (λ (t : Ty). HasNumber program t) (sym type) h.in_table;
}

-- ---- functions

pub whole_sound : (program : Program) (name : List ℕ) (is_critical : Bool) (x : Heading) (b : Body) → IsSoundHeading program x → ((i : ℕ) (l : Local) → slice_get (whole name is_critical x b).locals i ≡ Some l → IsSoundLocal program l) → HasTypedBody program (whole name is_critical x b) (whole name is_critical x b).body → IsSoundFunc program (whole name is_critical x b)
whole_sound program name is_critical x b h locals body = record {
  result = h.result;
  annotation = subst (λ (ss : List Sibling). Annotates program ss x.result x.ann) (sym (marked_siblings b.objects 0 x.params)) h.annotation;
  params = λ i p e.
      let m = marked_at b.objects 0 x.params i p e in
      param_as program (map sibling_param x.params) (map sibling_param (marked b.objects 0 x.params)) p m.before (marked_siblings b.objects 0 x.params) m.type m.note (h.params i m.before m.names);
  locals = locals;
  body = body;
}

-- a function of the other half has no body here
pub remote_sound : (program : Program) (name : List ℕ) (x : Heading) → IsSoundHeading program x → IsSoundFunc program (remote name x)
remote_sound program name x h = record {
  result = h.result;
  annotation = h.annotation;
  params = h.params;
  locals = λ i l e. not_none e;
  body = tt;
}
  where
    not_none : {A C : Type 0} {l : A} → None ≡ Some l → C
    not_none e = cc

pub whole_type : (name : List ℕ) (is_critical : Bool) (x : Heading) (b : Body) → function_type (whole name is_critical x b) ≡ type.Fun (x.result ∷ map (λ (p : Param). p.ty) x.params)
whole_type name is_critical x b = ap (λ (ts : List Ty). type.Fun (x.result ∷ ts)) (marked_types b.objects 0 x.params)

pub remote_type : (name : List ℕ) (x : Heading) → function_type (remote name x) ≡ type.Fun (x.result ∷ map (λ (p : Param). p.ty) x.params)
remote_type name x = refl

-- ---- declarations that agree

same_length : (m n : LenOf) → is_same_length m n ≡ true → m ≡ n
same_length (len.Const m) (len.Const n) e = ap len.Const (eqb-true m n e)
same_length (len.Const m) (len.Sibling i) e = cc
same_length (len.Const m) (len.Global g) e = cc
same_length (len.Sibling i) (len.Const n) e = cc
same_length (len.Sibling i) (len.Sibling j) e = ap len.Sibling (eqb-true i j e)
same_length (len.Sibling i) (len.Global g) e = cc
same_length (len.Global g) (len.Const n) e = cc
same_length (len.Global g) (len.Sibling i) e = cc
same_length (len.Global g) (len.Global h) e = ap len.Global (eqb-true g h e)

same_note : (a b : Ann) → is_same_ann a b ≡ true → a ≡ b
same_note ann.Single ann.Single e = refl
same_note (ann.Array m) (ann.Array n) e = ap ann.Array (same_length m n e)
same_note (ann.Sentinel f) (ann.Sentinel g) e = ap ann.Sentinel (eqb-true f g e)
same_note ann.NullTerm ann.NullTerm e = refl
same_note ann.Opaque ann.Opaque e = refl
same_note a b e = absurd cc

same_params : (ps qs : List Param) → are_same_params ps qs ≡ true → map (λ (p : Param). p.ty) ps ≡ map (λ (p : Param). p.ty) qs
same_params [] [] e = refl
same_params [] (q ∷ qs) e = cc
same_params (p ∷ ps) [] e = cc
same_params (p ∷ ps) (q ∷ qs) e =
    let one = alike_same p.ty q.ty (left_of (is_alike p.ty q.ty) (is_same_ann p.ann q.ann) (left_of (is_same_param p q) (are_same_params ps qs) e)) in
    let rest = same_params ps qs (right_of (is_same_param p q) (are_same_params ps qs) e) in
    λ i. one i ∷ rest i

-- headings that agree have one type
pub record HaveOneType (a b : Heading) : Type 0 where
  pub result : a.result ≡ b.result
  pub note : a.ann ≡ b.ann
  pub params : map (λ (p : Param). p.ty) a.params ≡ map (λ (p : Param). p.ty) b.params

pub same_headings : (a b : Heading) → is_same_heading a b ≡ true → HaveOneType a b
same_headings a b e =
    let rest = right_of (is_alike a.result b.result) (is_same_ann a.ann b.ann && are_same_params a.params b.params) e in
    record {
      result = alike_same a.result b.result (left_of (is_alike a.result b.result) (is_same_ann a.ann b.ann && are_same_params a.params b.params) e);
      note = same_note a.ann b.ann (left_of (is_same_ann a.ann b.ann) (are_same_params a.params b.params) rest);
      params = same_params a.params b.params (right_of (is_same_ann a.ann b.ann) (are_same_params a.params b.params) rest);
    }
