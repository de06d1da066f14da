-- Verdicts that are gathered from the front.
use Rattle.std.proofs.Common.{◌≡◌, List, [], ◌∷◌, ◌++◌, map, refl, ap, Result, Ok, Err}
use Rattle.std.proofs.Math.Path.{sym, ◌∙◌}
use Rattle.mdr_core.specs.declared.program.Local.{Local}
use Rattle.mdr_faults.specs.declared.fault.Fault.{Fault}
use Rattle.mdr_faults.specs.Faults.{Checked, Right, Wrong, again, each, extended, first, lesser, next, told}
use Rattle.mdr_faults.proofs.Order.{lesser_assoc}
use Rattle.mdr_body.specs.declared.here.DeclaredLocal.{DeclaredLocal}
use Rattle.mdr_body.specs.Bodies.{declared_locals, local_again}

abbrev before : {A : Type 0} → Result A Fault → Result (List A) Fault → Result (List A) Fault
before (Ok x) (Ok xs) = Ok (x ∷ xs)
before (Ok x) (Err g) = Err g
before (Err f) (Ok xs) = Err f
before (Err f) (Err g) = Err (lesser f g)

told_next : {A : Type 0} (c : Checked A) (cs : Checked (List A)) → told (next c cs) ≡ before (told c) (told cs)
told_next (Right x) (Right xs) = refl
told_next (Right x) (Wrong g) = refl
told_next (Wrong f) (Right xs) = refl
told_next (Wrong f) (Wrong g) = refl

extended_before : {A : Type 0} (r : Result A Fault) (s : Result (List A) Fault) (t : Result A Fault) → extended (before r s) t ≡ before r (extended s t)
extended_before (Ok x) (Ok xs) (Ok y) = refl
extended_before (Ok x) (Ok xs) (Err h) = refl
extended_before (Ok x) (Err g) (Ok y) = refl
extended_before (Ok x) (Err g) (Err h) = refl
extended_before (Err f) (Ok xs) (Ok y) = refl
extended_before (Err f) (Ok xs) (Err h) = refl
extended_before (Err f) (Err g) (Ok y) = refl
extended_before (Err f) (Err g) (Err h) = ap Err (lesser_assoc f g h)

told_again : {A : Type 0} (r : Result A Fault) → told (again r) ≡ r
told_again (Ok x) = refl
told_again (Err f) = refl

last_alone : {A : Type 0} (c : Checked A) → extended (Ok []) (told c) ≡ told (next c (Right []))
last_alone (Right x) = refl
last_alone (Wrong f) = refl

last : {X A : Type 0} (f : X → Checked A) (xs : List X) (x : X) → extended (told (each (map f xs))) (told (f x)) ≡ told (each (map f (xs ++ x ∷ [])))
last f [] x = last_alone (f x)
last f (y ∷ ys) x =
    ap (λ r. extended r (told (f x))) (told_next (f y) (each (map f ys)))
    ∙ extended_before (told (f y)) (told (each (map f ys))) (told (f x))
    ∙ ap (before (told (f y))) (last f ys x)
    ∙ sym (told_next (f y) (each (map f (ys ++ x ∷ []))))

pub one_local : (ds : List DeclaredLocal) (d : DeclaredLocal) → extended (told (declared_locals ds)) d.means ≡ told (declared_locals (ds ++ d ∷ []))
unfolding declared_locals
one_local ds d = ap (extended (told (each (map local_again ds)))) (sym (told_again d.means)) ∙ last local_again ds d
