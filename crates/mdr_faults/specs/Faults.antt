-- believed
-- Faults, and how the faults of a form's parts come together.
use Rattle.std.specs.Prelude.{ℕ, ◌≡◌, ◌⊎◌, Bool, true, false, nat_lt, ◌==◌, List, [], ◌∷◌, ◌++◌, Result, Ok, Err}
use Rattle.mdr_core.specs.declared.place.Place.{Place}
use Rattle.mdr_core.specs.Layout.{chosen}
use Rattle.mdr_faults.specs.declared.fault.FaultKind.{FaultKind}
use Rattle.mdr_faults.specs.declared.fault.FaultKind.TheVariants.{UnknownName, Redefined, Mismatch, NotAnLvalue, BadAnnotation, IrqTarget, Limit, Incomplete, BadArity}
use Rattle.mdr_faults.specs.declared.fault.Fault.{Fault}

abbrev pub number : FaultKind → ℕ
number UnknownName = 1
number Redefined = 2
number Mismatch = 3
number NotAnLvalue = 4
number BadAnnotation = 5
number IrqTarget = 6
number Limit = 7
number Incomplete = 8
number BadArity = 9

-- the order of faults: by line, on a line by column, and at one place by the kind's number
abbrev pub is_before : Fault → Fault → Bool
is_before f g =
    chosen (f.place.line == g.place.line)
    (chosen (f.place.column == g.place.column)
    (nat_lt (number f.kind) (number g.kind))
    (nat_lt f.place.column g.place.column))
    (nat_lt f.place.line g.place.line)

-- a set of faults that isn't empty
pub data Faults : Type 0 where
  One : Fault → Faults
  Also : Faults → Faults → Faults

-- what a form comes to: its meaning, or the faults in it
pub data Checked (A : Type 0) : Type 0 where
  Right : A → Checked A
  Wrong : Faults → Checked A

abbrev pub refuse : {A : Type 0} → Place → FaultKind → Checked A
refuse p k = Wrong (One (record { place = p; kind = k }))

-- a form with a wrong part has no fault of its own: its rule speaks of right parts alone
abbrev pub after : {A B : Type 0} → Checked A → (A → Checked B) → Checked B
after (Right x) rule = rule x
after (Wrong f) rule = Wrong f

abbrev pub both : {A B C : Type 0} → Checked A → Checked B → (A → B → Checked C) → Checked C
both (Right x) (Right y) rule = rule x y
both (Right x) (Wrong g) rule = Wrong g
both (Wrong f) (Right y) rule = Wrong f
both (Wrong f) (Wrong g) rule = Wrong (Also f g)

-- a rule of the form's own: where the test fails, the fault is one more
abbrev pub demand : {A : Type 0} → Place → FaultKind → Bool → Checked A → Checked A
demand p k true c = c
demand p k false (Right x) = refuse p k
demand p k false (Wrong f) = Wrong (Also (One (record { place = p; kind = k })) f)

abbrev pub next : {A : Type 0} → Checked A → Checked (List A) → Checked (List A)
next c cs = both c cs (λ x xs. Right (x ∷ xs))

abbrev pub each : {A : Type 0} → List (Checked A) → Checked (List A)
each [] = Right []
each (c ∷ cs) = next c (each cs)

-- f is one of the faults
abbrev pub IsIn : Fault → Faults → Type 0
IsIn f (One g) = f ≡ g
IsIn f (Also a b) = IsIn f a ⊎ IsIn f b

-- ---- what is told: the first fault

abbrev pub lesser : Fault → Fault → Fault
lesser f g = chosen (is_before g f) g f

abbrev pub first : Faults → Fault
first (One f) = f
first (Also a b) = lesser (first a) (first b)

abbrev pub told : {A : Type 0} → Checked A → Result A Fault
told (Right x) = Ok x
told (Wrong f) = Err (first f)

-- what was told of a declaration comes again wherever its name is used
abbrev pub again : {A : Type 0} → Result A Fault → Checked A
again (Ok x) = Right x
again (Err f) = Wrong (One f)

abbrev pub joined : {A B : Type 0} → Result A Fault → Result B Fault → Result (A × B) Fault
joined (Ok x) (Ok y) = Ok (x, y)
joined (Ok x) (Err g) = Err g
joined (Err f) (Ok y) = Err f
joined (Err f) (Err g) = Err (lesser f g)

-- one part behind others
abbrev pub extended : {A : Type 0} → Result (List A) Fault → Result A Fault → Result (List A) Fault
extended (Ok xs) (Ok x) = Ok (xs ++ x ∷ [])
extended (Ok xs) (Err g) = Err g
extended (Err f) (Ok x) = Err f
extended (Err f) (Err g) = Err (lesser f g)

-- all of the one, and then all of the other
abbrev pub followed : {A : Type 0} → Result (List A) Fault → Result (List A) Fault → Result (List A) Fault
followed (Ok xs) (Ok ys) = Ok (xs ++ ys)
followed (Ok xs) (Err g) = Err g
followed (Err f) (Ok ys) = Err f
followed (Err f) (Err g) = Err (lesser f g)

-- f is there, and none there comes before it
abbrev pub IsFirst : {A : Type 0} → Fault → Checked A → Type 0
IsFirst f (Right x) = ⊥
IsFirst f (Wrong fs) = IsIn f fs × ((g : Fault) → IsIn g fs → is_before g f ≡ false)
