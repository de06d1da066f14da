-- The rules of parameters and locals look at no place.
use Rattle.mdr_body.specs.Bodies.{frame_of}
use Rattle.mdr_body.specs.Locals.{any_lock, entered, first_here, has_no_size, has_place, holds_lock, is_again, is_in_block, is_no_constant, is_own_object, lies_apart, local_declared, local_object, local_whole, locks_behind, member_lock, name_of, named_local, names_here, numbered, object_lock, parameter_means, parameters_from, struct_locks, with_local, without_lock}
use Rattle.mdr_body.specs.declared.here.DeclaredLocal.{DeclaredLocal}
use Rattle.mdr_body.specs.declared.here.Frame.{Frame}
use Rattle.mdr_body.specs.declared.here.Here.{Here}
use Rattle.mdr_core.specs.declared.place.Place.{Place}
use Rattle.mdr_faults.specs.Faults.{Checked, first}
use Rattle.mdr_faults.specs.declared.fault.Fault.{Fault}
use Rattle.mdr_faults.specs.declared.fault.FaultKind.TheVariants.{Limit, Mismatch, Redefined}
use Rattle.mdr_faults.specs.declared.scope.Member.{Member}
use Rattle.mdr_faults.specs.declared.scope.Scope.{Scope}
use Rattle.mdr_faults.specs.declared.scope.StructEntry.{StructEntry}
use Rattle.mdr_headings.specs.Annotations.{bare}
use Rattle.mdr_operand.specs.declared.room.LocalName.{LocalName}
use Rattle.mdr_placeless.proofs.Annotated.{AreWhole}
use Rattle.mdr_placeless.proofs.Combined.{after_alike, both_alike, chosen_alike, demand_by, rights_by}
use Rattle.mdr_placeless.proofs.Constants.{AreConsts}
use Rattle.mdr_placeless.proofs.Declared.{AreDecls, objects}
use Rattle.mdr_placeless.proofs.Headings.{AreHeads, head_results}
use Rattle.mdr_placeless.proofs.Lines.{AreLines}
use Rattle.mdr_placeless.proofs.Addresses.{takes_both}
use Rattle.mdr_placeless.proofs.Postfixes.{AreLocalNames, local_alike}
use Rattle.mdr_placeless.proofs.Scopes.{AreEntries, AreMembers, AreScopes, AreTold, Pairs, Perhaps, one_more, pairs_length, pairs_map, perhaps_some, told_alike}
use Rattle.mdr_placeless.proofs.Scopes.AreTold.{Errs, Oks}
use Rattle.mdr_placeless.proofs.Scopes.Pairs.{Cons, Nil}
use Rattle.mdr_placeless.proofs.Scopes.Perhaps.{Nones, Somes}
use Rattle.mdr_placeless.specs.Alike.{AreAlike}
use Rattle.mdr_placeless.specs.Alike.AreAlike.{Rights, Wrongs}
use Rattle.mdr_syntax.specs.declared.tree.Const.{Const}
use Rattle.mdr_syntax.specs.declared.tree.Head.{Head}
use Rattle.std.proofs.Common.{Bool, List, Option, Result, Some, [], ap, bytes_eq, length, nat_lt, not, refl, subst, suc, take, zero, ℕ, ◌&&◌, ◌++◌, ◌+◌, ◌||◌, ◌∙◌, ◌∷◌, ◌≡◌}
use Rattle.mdr_body.specs.Locals.{left}
use Rattle.mdr_faults.specs.declared.scope.Object.{Object}
use Rattle.mdr_headings.specs.Structs.{name_or_none}
use Rattle.mdr_headings.specs.Within.{within}
use Rattle.mdr_operand.specs.Written.{Lines}
use Rattle.mdr_placeless.proofs.Constants.AreConsts.{Numbers, Worded}
use Rattle.mdr_syntax.specs.declared.tree.Decl.{Decl, out-Decl}

-- ---- which structs hold a lock

locks_told : (locks : List Bool) {r s : Result Object Fault} → AreTold r s → object_lock locks r ≡ object_lock locks s
locks_told locks (Oks o) = refl
locks_told locks (Errs f g) = refl

locks_any : (locks : List Bool) {ms ns : List Member} → Pairs AreMembers ms ns → any_lock locks ms ≡ any_lock locks ns
locks_any locks Nil = refl
locks_any locks (Cons {x = x} {y = y} {xs = xs} {ys = ys} r rs) = ap (λ b. b || any_lock locks xs) (locks_told locks r.mean) ∙ ap (λ b. member_lock locks y || b) (locks_any locks rs)

locks_from : {ds es : List StructEntry} → Pairs AreEntries ds es → (locks : List Bool) → locks_behind locks ds ≡ locks_behind locks es
unfolding locks_behind
locks_from Nil locks = refl
locks_from (Cons {x = x} {y = y} {xs = xs} {ys = ys} r rs) locks =
    ap (λ b. locks_behind (locks ++ b ∷ []) xs) (locks_any locks r.member)
    ∙ locks_from rs (locks ++ any_lock locks y.members ∷ [])

pub locks_both : {s t : Scope} → AreScopes s t → struct_locks s ≡ struct_locks t
locks_both a = locks_from a.struct []

-- ---- what is known in front of a statement

pub record AreLocals (d e : DeclaredLocal) : Type 0 where
  pub told_both : AreTold d.means e.means

pub record AreHere (h k : Here) : Type 0 where
  pub names_both : Pairs AreLocalNames h.names k.names
  pub first_both : h.first ≡ k.first
  pub locals_both : Pairs AreLocals h.locals k.locals
  pub slot_both : h.slot ≡ k.slot
  pub number_both : h.number ≡ k.number

pub record AreFrames (f g : Frame) : Type 0 where
  pub lock_both : f.locks ≡ g.locks
  pub result_both : AreTold f.result g.result

pub frames : {s t : Scope} → AreScopes s t → {h k : Head} → AreHeads h k → AreFrames (frame_of s h) (frame_of t k)
unfolding frame_of
frames a r = record { lock_both = locks_both a; result_both = told_alike (head_results a r) }

-- ---- one local

name_both : {d e : Decl} → AreDecls d e → name_of d ≡ name_of e
name_both r = ap (λ (n : Option (List ℕ)). name_or_none n) r.named

without_locks : (locks : List Bool) (p q : Place) (o : Object) → AreAlike (without_lock locks p o) (without_lock locks q o)
without_locks locks p q o = chosen_alike (holds_lock locks o.ty) (Wrongs _ _) (Rights _)

pub local_objects : {s t : Scope} → AreScopes s t → (locks : List Bool) {d e : Decl} → AreDecls d e → AreAlike (local_object s locks d) (local_object t locks e)
unfolding local_object
local_objects a locks {d = d} {e = e} r = after_alike (objects a (out-Decl d).place (out-Decl e).place r) (without_locks locks (out-Decl d).place (out-Decl e).place)

apart_told : (b : Bool) {r s : Result Object Fault} → AreTold r s → lies_apart b r ≡ lies_apart b s
apart_told b (Oks o) = refl
apart_told b (Errs f g) = refl

pub locals_named : (m n : ℕ) → m ≡ n → (b c : Bool) → b ≡ c → {d e : Decl} → AreDecls d e → {r s : Result Object Fault} → AreTold r s → AreLocalNames (named_local m b d r) (named_local n c e s)
unfolding named_local
locals_named m n e b c f r {s = s} h = record { named = name_both r; at_slot = e; apart = apart_told b h ∙ ap (λ x. lies_apart x s) f; mean = h }

in_block : (first other : ℕ) → first ≡ other → (m n : List ℕ) → m ≡ n → {x y : LocalName} → AreLocalNames x y → is_in_block first m x ≡ is_in_block other n y
in_block first other e m n f {x = x} {y = y} r =
    ap (λ k. not (nat_lt x.slot k) && bytes_eq x.name m) e
    ∙ ap (λ k. not (nat_lt k other) && bytes_eq x.name m) r.at_slot
    ∙ ap (λ (k : List ℕ). not (nat_lt y.slot other) && bytes_eq k m) r.named
    ∙ ap (λ (k : List ℕ). not (nat_lt y.slot other) && bytes_eq y.name k) f

again_both : (first other : ℕ) → first ≡ other → (m n : List ℕ) → m ≡ n → {xs ys : List LocalName} → Pairs AreLocalNames xs ys → is_again first m xs ≡ is_again other n ys
again_both first other e m n f Nil = refl
again_both first other e m n f (Cons {x = x} {y = y} {xs = xs} {ys = ys} r rs) = ap (λ b. b || is_again first m xs) (in_block first other e m n f r) ∙ ap (λ b. is_in_block other n y || b) (again_both first other e m n f rs)

places_both : (m n : ℕ) → m ≡ n → (x y : List ℕ) → x ≡ y → has_place m x ≡ has_place n y
places_both m n e x y f = ap (λ k. has_place k x) e ∙ ap (λ (z : List ℕ). has_place n z) f

pub no_constants : {xs ys : List LocalName} → Pairs AreLocalNames xs ys → {c d : Const} → AreConsts c d → is_no_constant xs c ≡ is_no_constant ys d
no_constants h (Numbers p q b n k) = refl
no_constants h (Worded p q name) = perhaps_some (local_alike name h)

no_sizes : {xs ys : List LocalName} → Pairs AreLocalNames xs ys → {c d : Option Const} → Perhaps AreConsts c d → has_no_size xs c ≡ has_no_size ys d
no_sizes h Nones = refl
no_sizes h (Somes r) = no_constants h r

wholes_of : (b : Bool) {d e : Decl} → AreDecls d e → {c c' : Checked Object} → AreAlike c c' → AreAlike (local_whole b d c) (local_whole b e c')
wholes_of b {d = d} {e = e} r h = after_alike h (λ o. rights_by (ap (λ (n : List ℕ). record { name = n; ty = o.ty; count = o.count; array = o.array; object = is_own_object b o }) (name_both r)))

around_names : {xs ys : List LocalName} → Pairs AreLocalNames xs ys → names_here xs ≡ names_here ys
around_names h = pairs_map (λ (n : LocalName). bare (Some n.name)) (λ (n : LocalName). bare (Some n.name)) (λ x y r. ap (λ (n : List ℕ). bare (Some n)) r.named) h

module _ {s t : Scope} (a : AreScopes s t) (locks : List Bool) {h k : Here} (r : AreHere h k) {d e : Decl} (w : AreWhole d e) where
  locals_declared : (b : Bool) → AreAlike (local_declared s locks h b d) (local_declared t locks k b e)
  unfolding local_declared
  locals_declared b =
      demand_by (out-Decl d).place (out-Decl e).place Redefined _ _ (ap (λ x. not x) (again_both h.first k.first r.first_both (name_of d) (name_of e) (name_both w.decl) r.names_both))
      (demand_by (out-Decl d).place (out-Decl e).place Limit _ _ (places_both (length h.locals) (length k.locals) (pairs_length r.locals_both) (name_of d) (name_of e) (name_both w.decl))
      (demand_by (out-Decl d).place (out-Decl e).place Mismatch _ _ (ap (λ x. not x) (no_sizes r.names_both w.decl.size))
      (both_alike w.short (both_alike (subst (λ cs. AreAlike (within s (names_here h.names) d) (within t cs e)) (around_names r.names_both) (w.inside s t a (names_here h.names))) (wholes_of b w.decl (local_objects a locks w.decl)) (λ x y. Rights _)) (λ x y. Rights _))))

  pub with_both : (b : Bool) → AreHere (with_local s locks b d h) (with_local t locks b e k)
  unfolding with_local
  with_both b = record {
    names_both = one_more r.names_both (locals_named h.slot k.slot r.slot_both b b refl w.decl (told_alike (local_objects a locks w.decl)));
    first_both = r.first_both;
    locals_both = one_more r.locals_both (record { told_both = told_alike (locals_declared b) });
    slot_both = ap (λ n. n + 1) r.slot_both;
    number_both = r.number_both;
  }

-- ---- blocks and parameters

pairs_take : {A : Type 0} {R : A → A → Type 0} {xs ys : List A} → Pairs R xs ys → (n : ℕ) → Pairs R (take n xs) (take n ys)
pairs_take h zero = Nil
pairs_take Nil (suc n) = Nil
pairs_take (Cons r rs) (suc n) = Cons r (pairs_take rs n)

pub entered_both : {h k : Here} → AreHere h k → AreHere (entered h) (entered k)
entered_both r = record { names_both = r.names_both; first_both = r.slot_both; locals_both = r.locals_both; slot_both = r.slot_both; number_both = r.number_both }

pub left_both : {h k b c : Here} → AreHere h k → AreHere b c → AreHere (left h b) (left k c)
left_both {h = h} {k = k} {b = b} {c = c} r q = record {
  names_both = subst (λ n. Pairs AreLocalNames (take (length h.names) b.names) (take n c.names)) (pairs_length r.names_both) (pairs_take q.names_both (length h.names));
  first_both = r.first_both;
  locals_both = q.locals_both;
  slot_both = q.slot_both;
  number_both = q.number_both;
}

pub numbered_both : {h k : Here} → AreHere h k → AreHere (numbered h) (numbered k)
numbered_both r = record { names_both = r.names_both; first_both = r.first_both; locals_both = r.locals_both; slot_both = r.slot_both; number_both = ap (λ n. n + 1) r.number_both }

parameter_objects : {s t : Scope} → AreScopes s t → {d e : Decl} → AreDecls d e → AreAlike (parameter_means s d) (parameter_means t e)
unfolding parameter_means
parameter_objects {s = s} {t = t} a r = after_alike (r.typed s t a).param (λ u. Rights _)

pub parameters_both : {s t : Scope} → AreScopes s t → {ls ks : Lines} → AreLines ls ks → (n : ℕ) {ds es : List Decl} → Pairs AreWhole ds es → Pairs AreLocalNames (parameters_from s ls n ds) (parameters_from t ks n es)
unfolding parameters_from
parameters_both a rs n Nil = Nil
parameters_both a rs n (Cons w ws) = Cons (locals_named n n refl _ _ (takes_both w.decl.named Nones rs) w.decl (told_alike (parameter_objects a w.decl))) (parameters_both a rs (n + 1) ws)

pub first_here_both : {s t : Scope} → AreScopes s t → {ls ks : Lines} → AreLines ls ks → {ds es : List Decl} → Pairs AreWhole ds es → AreHere (first_here s ls ds) (first_here t ks es)
unfolding first_here
first_here_both a rs ws = record { names_both = parameters_both a rs 0 ws; first_both = refl; locals_both = Nil; slot_both = pairs_length ws; number_both = refl }
