-- Values that are alike, how a lock is held aside, and what code makes of them.
use Rattle.std.proofs.Common.{◌≡◌, ℕ, zero, suc, Bool, true, false, List, [], ◌∷◌, ◌++◌, ◌==◌, ◌||◌, Result, Ok, Err, ℤ, pos, refl, ap, subst}
use Rattle.std.specs.Prelude.{map, not, slice_set}
use Rattle.std.specs.List.{list_any}
use Rattle.std.proofs.lemmas.Bool.{both_ways}
use Rattle.mdr_core.specs.declared.code.RelOp.{RelOp}
use Rattle.mdr_core.specs.declared.code.RelOp.TheVariants.{Eq, Ne, Lt, Le, Gt, Ge}
use Rattle.mdr_core.specs.declared.stop.StopKind.{StopKind}
use Rattle.mdr_core.specs.declared.types.Ty.{Ty, out-Ty}
use Rattle.mdr_core.specs.declared.types.Ty.TheOpen.{Ty-F}
use Rattle.mdr_core.specs.declared.value.LockState.{LockState}
use Rattle.mdr_core.specs.Layout.{chosen}
use Rattle.mdr_core.specs.Services.{Reading, Plain, Percent, Long}
use Rattle.mdr_core.specs.Typing.{Slot}
use Rattle.mdr_core.specs.declared.program.Program.{Program}
use Rattle.mdr_meaning.specs.declared.wire.Wire.{Wire}
use Rattle.mdr_meaning.specs.declared.wire.Wire.TheVariants as wire
use Rattle.mdr_meaning.specs.Calls.{received}
use Rattle.mdr_meaning.specs.Expressions.{slot_of}
use Rattle.mdr_meaning.specs.Lives.{after_deaths, is_into, returned}
use Rattle.mdr_meaning.specs.Asking.{counted}
use Rattle.mdr_meaning.specs.Numbers.{Numbered}
use Rattle.mdr_meaning.specs.Pointers.{become_by, cast, difference, is_equal, member, moved, ordered, related}
use Rattle.mdr_meaning.specs.Printed.{behind, printed, shown, told}
use Rattle.mdr_meaning.specs.Sides.{Flow, Returns, framed, undeclared}
use Rattle.mdr_meaning.specs.Statements.{element}
use Rattle.mdr_meaning.specs.Values.{first_of, integer, is_true, rest_of, truth}
use Rattle.std.specs.Prelude.{Option, Some, None}
use Rattle.mdr_kept.specs.Alike.{spun, spun_lock}

pub data Like : Wire → Wire → Type 0 where
  Same : (v : Wire) → Like v v
  Locks : (s t : LockState) → spun_lock s ≡ spun_lock t → Like (wire.Lock s) (wire.Lock t)

pub data AreLike : List Wire → List Wire → Type 0 where
  Empty : AreLike [] []
  More : (v w : Wire) (vs ws : List Wire) → Like v w → AreLike vs ws → AreLike (v ∷ vs) (w ∷ ws)

pub same_list : (vs : List Wire) → AreLike vs vs
same_list [] = Empty
same_list (v ∷ vs) = More v v vs vs (Same v) (same_list vs)

-- ---- the same as an equation

abbrev is_a_lock : Wire → Bool
is_a_lock (wire.Lock s) = true
is_a_lock _ = false

pub spun_like : (v w : Wire) → Like v w → spun v ≡ spun w
spun_like _ _ (Same v) = refl
spun_like _ _ (Locks s t e) = ap (λ (x : LockState). wire.Lock x) e

pub spun_likes : (vs ws : List Wire) → AreLike vs ws → map spun vs ≡ map spun ws
spun_likes _ _ Empty = refl
spun_likes _ _ (More v w vs ws h t) =
    let one : spun v ≡ spun w = spun_like v w h in
    let rest : map spun vs ≡ map spun ws = spun_likes vs ws t in
    λ i. one i ∷ rest i

unlocked : (v w : Wire) → is_a_lock v ≡ false → v ≡ spun w → Like v w
unlocked v (wire.Int k n) f e = subst (λ x. Like v x) e (Same v)
unlocked v wire.Null f e = subst (λ x. Like v x) e (Same v)
unlocked v (wire.Ptr p) f e = subst (λ x. Like v x) e (Same v)
unlocked v wire.Dead f e = subst (λ x. Like v x) e (Same v)
unlocked v (wire.Fn g) f e = subst (λ x. Like v x) e (Same v)
unlocked v (wire.Lock t) f e = absurd (both_ways (is_a_lock v) f (ap is_a_lock e))
unlocked v wire.NoValue f e = subst (λ x. Like v x) e (Same v)

locked : (s : LockState) (w : Wire) → spun (wire.Lock s) ≡ spun w → Like (wire.Lock s) w
locked s (wire.Int k n) e = absurd cc
locked s wire.Null e = absurd cc
locked s (wire.Ptr p) e = absurd cc
locked s wire.Dead e = absurd cc
locked s (wire.Fn g) e = absurd cc
locked s (wire.Lock t) e = Locks s t cc
locked s wire.NoValue e = absurd cc

pub like_spun : (v w : Wire) → spun v ≡ spun w → Like v w
like_spun (wire.Int k n) w e = unlocked (wire.Int k n) w refl e
like_spun wire.Null w e = unlocked wire.Null w refl e
like_spun (wire.Ptr p) w e = unlocked (wire.Ptr p) w refl e
like_spun wire.Dead w e = unlocked wire.Dead w refl e
like_spun (wire.Fn f) w e = unlocked (wire.Fn f) w refl e
like_spun (wire.Lock s) w e = locked s w e
like_spun wire.NoValue w e = unlocked wire.NoValue w refl e

pub likes_spun : (vs ws : List Wire) → map spun vs ≡ map spun ws → AreLike vs ws
likes_spun [] [] e = Empty
likes_spun [] (w ∷ ws) e = absurd cc
likes_spun (v ∷ vs) [] e = absurd cc
likes_spun (v ∷ vs) (w ∷ ws) e = More v w vs ws (like_spun v w cc) (likes_spun vs ws cc)

-- ---- lists

pub first_like : (vs ws : List Wire) → AreLike vs ws → Like (first_of vs) (first_of ws)
first_like _ _ Empty = Same wire.NoValue
first_like _ _ (More v w vs ws h t) = h

pub rest_like : (vs ws : List Wire) → AreLike vs ws → AreLike (rest_of vs) (rest_of ws)
rest_like _ _ Empty = Empty
rest_like _ _ (More v w vs ws h t) = t

pub appended : (vs ws xs ys : List Wire) → AreLike vs ws → AreLike xs ys → AreLike (vs ++ xs) (ws ++ ys)
appended _ _ xs ys Empty more = more
appended _ _ xs ys (More v w vs ws h t) more = More v w (vs ++ xs) (ws ++ ys) h (appended vs ws xs ys t more)

pub set_like : (vs ws : List Wire) (i : ℕ) (x y : Wire) → AreLike vs ws → Like x y → AreLike (slice_set vs i x) (slice_set ws i y)
set_like _ _ i x y Empty a = Empty
set_like _ _ zero x y (More v w vs ws h t) a = More x y vs ws a t
set_like _ _ (suc i) x y (More v w vs ws h t) a = More v w (slice_set vs i x) (slice_set ws i y) h (set_like vs ws i x y t a)

pub slot_like : (vs ws : List Wire) (i : ℕ) → AreLike vs ws → Like (slot_of vs i) (slot_of ws i)
unfolding slot_of
slot_like _ _ i Empty = Same wire.NoValue
slot_like _ _ zero (More v w vs ws h t) = h
slot_like _ _ (suc i) (More v w vs ws h t) = slot_like vs ws i t

pub framed_like : (slots : List Slot) (vs ws : List Wire) → AreLike vs ws → AreLike (framed slots vs) (framed slots ws)
framed_like [] vs ws a = Empty
framed_like (s ∷ slots) _ _ Empty = More (undeclared s) (undeclared s) (framed slots []) (framed slots []) (Same _) (framed_like slots [] [] Empty)
framed_like (s ∷ slots) _ _ (More v w vs ws h t) = More v w (framed slots vs) (framed slots ws) h (framed_like slots vs ws t)

-- ---- numbers and conditions

pub integer_like : (v w : Wire) → Like v w → integer v ≡ integer w
integer_like _ _ (Same v) = refl
integer_like _ _ (Locks s t e) = refl

pub counted_like : (v w : Wire) → Like v w → counted v ≡ counted w
counted_like _ _ (Same v) = refl
counted_like _ _ (Locks s t e) = refl

pub true_like : (v w : Wire) → Like v w → is_true v ≡ is_true w
true_like _ _ (Same v) = refl
true_like _ _ (Locks s t e) = refl

-- ---- results that are alike

pub data LikeResult : Result Wire StopKind → Result Wire StopKind → Type 0 where
  Gives : (v w : Wire) → Like v w → LikeResult (Ok v) (Ok w)
  Stops : (kind : StopKind) → LikeResult (Err kind) (Err kind)

pub same_result : (r : Result Wire StopKind) → LikeResult r r
same_result (Ok v) = Gives v v (Same v)
same_result (Err kind) = Stops kind

pub by_integer : (f : ℤ → Result Wire StopKind) (v w : Wire) → Like v w → LikeResult (f (integer v)) (f (integer w))
by_integer f _ _ (Same v) = same_result (f (integer v))
by_integer f _ _ (Locks s t e) = same_result (f (pos 0))

pub by_integers : (f : ℤ → ℤ → Result Wire StopKind) (v w x y : Wire) → Like v w → Like x y → LikeResult (f (integer v) (integer x)) (f (integer w) (integer y))
by_integers f _ _ x y (Same v) a = by_integer (f (integer v)) x y a
by_integers f _ _ x y (Locks s t e) a = by_integer (f (pos 0)) x y a

-- ---- pointers

pub moved_like : (v w : Wire) (n : ℤ) → Like v w → LikeResult (moved v n) (moved w n)
moved_like _ _ n (Same v) = same_result (moved v n)
moved_like _ _ n (Locks s t e) = Stops _

pub member_like : (known : Numbered) (v w : Wire) (f : ℕ) → Like v w → LikeResult (member known v f) (member known w f)
member_like known _ _ f (Same v) = same_result (member known v f)
member_like known _ _ f (Locks s t e) = Stops _

equal_lock : (program : Program) (v : Wire) (s t : LockState) → is_equal program v (wire.Lock s) ≡ is_equal program v (wire.Lock t)
equal_lock program (wire.Int k n) s t = refl
equal_lock program wire.Null s t = refl
equal_lock program (wire.Ptr p) s t = refl
equal_lock program wire.Dead s t = refl
equal_lock program (wire.Fn f) s t = refl
equal_lock program (wire.Lock u) s t = refl
equal_lock program wire.NoValue s t = refl

equal_like : (program : Program) (v w x y : Wire) → Like v w → Like x y → is_equal program v x ≡ is_equal program w y
equal_like program _ _ _ _ (Same v) (Same x) = refl
equal_like program _ _ _ _ (Same v) (Locks s t e) = equal_lock program v s t
equal_like program _ _ x y (Locks s t e) a = refl

ordered_lock : (program : Program) (op : RelOp) (v : Wire) (s t : LockState) → ordered program op v (wire.Lock s) ≡ ordered program op v (wire.Lock t)
ordered_lock program op (wire.Int k n) s t = refl
ordered_lock program op wire.Null s t = refl
ordered_lock program op (wire.Ptr p) s t = refl
ordered_lock program op wire.Dead s t = refl
ordered_lock program op (wire.Fn f) s t = refl
ordered_lock program op (wire.Lock u) s t = refl
ordered_lock program op wire.NoValue s t = refl

ordered_like : (program : Program) (op : RelOp) (v w x y : Wire) → Like v w → Like x y → ordered program op v x ≡ ordered program op w y
ordered_like program op _ _ _ _ (Same v) (Same x) = refl
ordered_like program op _ _ _ _ (Same v) (Locks s t e) = ordered_lock program op v s t
ordered_like program op _ _ x y (Locks s t e) a = refl

equal_result : (r s : Result Wire StopKind) → r ≡ s → LikeResult r s
equal_result r s e = subst (λ q. LikeResult r q) e (same_result r)

pub related_like : (program : Program) (op : RelOp) (v w x y : Wire) → Like v w → Like x y → LikeResult (related program op v x) (related program op w y)
related_like program Eq v w x y a b = equal_result _ _ (ap (λ (t : Bool). related_as t) (equal_like program v w x y a b))
  where
    related_as : Bool → Result Wire StopKind
    related_as t = Ok (truth t)
related_like program Ne v w x y a b = equal_result _ _ (ap (λ (t : Bool). related_as t) (equal_like program v w x y a b))
  where
    related_as : Bool → Result Wire StopKind
    related_as t = Ok (truth (not t))
related_like program Lt v w x y a b = equal_result _ _ (ordered_like program Lt v w x y a b)
related_like program Le v w x y a b = equal_result _ _ (ordered_like program Le v w x y a b)
related_like program Gt v w x y a b = equal_result _ _ (ordered_like program Gt v w x y a b)
related_like program Ge v w x y a b = equal_result _ _ (ordered_like program Ge v w x y a b)

difference_lock : (v : Wire) (s t : LockState) → difference v (wire.Lock s) ≡ difference v (wire.Lock t)
difference_lock (wire.Int k n) s t = refl
difference_lock wire.Null s t = refl
difference_lock (wire.Ptr p) s t = refl
difference_lock wire.Dead s t = refl
difference_lock (wire.Fn f) s t = refl
difference_lock (wire.Lock u) s t = refl
difference_lock wire.NoValue s t = refl

pub difference_like : (v w x y : Wire) → Like v w → Like x y → LikeResult (difference v x) (difference w y)
difference_like _ _ _ _ (Same v) (Same x) = same_result (difference v x)
difference_like _ _ _ _ (Same v) (Locks s t e) = equal_result _ _ (difference_lock v s t)
difference_like _ _ x y (Locks s t e) a = Stops _

pub cast_like : (known : Numbered) (ty : Ty) (v w : Wire) → Like v w → LikeResult (cast known ty v) (cast known ty w)
cast_like known ty _ _ (Same v) = same_result (cast known ty v)
cast_like known ty _ _ (Locks s t e) = Gives (wire.Lock s) (wire.Lock t) (Locks s t e)

become_like : (known : Numbered) (ty : Ty-F Ty) (v w : Wire) → Like v w → LikeResult (become_by known ty v) (become_by known ty w)
become_like known ty _ _ (Same v) = same_result (become_by known ty v)
become_like known (Ty-F.Int k) _ _ (Locks s t e) = Gives _ _ (Locks s t e)
become_like known Ty-F.Lock _ _ (Locks s t e) = Gives _ _ (Locks s t e)
become_like known (Ty-F.Struct n) _ _ (Locks s t e) = Gives _ _ (Locks s t e)
become_like known (Ty-F.Ptr ty) _ _ (Locks s t e) = Gives _ _ (Locks s t e)
become_like known Ty-F.VoidPtr _ _ (Locks s t e) = Gives _ _ (Locks s t e)
become_like known (Ty-F.Fun ts) _ _ (Locks s t e) = Gives _ _ (Locks s t e)
become_like known Ty-F.Void _ _ (Locks s t e) = Gives _ _ (Locks s t e)

pub received_like : (known : Numbered) (ty : Option Ty) (v w : Wire) → Like v w → LikeResult (received known ty v) (received known ty w)
received_like known ty _ _ (Same v) = same_result (received known ty v)
received_like known None _ _ (Locks s t e) = Gives _ _ (Locks s t e)
received_like known (Some ty) _ _ (Locks s t e) = become_like known (out-Ty ty) (wire.Lock s) (wire.Lock t) (Locks s t e)

pub element_like : (v w : Wire) (i : ℕ) → Like v w → Like (element v i) (element w i)
element_like _ _ i (Same v) = Same (element v i)
element_like _ _ i (Locks s t e) = Locks s t e

-- ---- what a function gives

into_like : (serial : ℕ) (v w : Wire) → Like v w → is_into serial v ≡ is_into serial w
into_like serial _ _ (Same v) = refl
into_like serial _ _ (Locks s t e) = refl

any_into : (serial : ℕ) (ps qs : List Wire) → AreLike ps qs → list_any (is_into serial) ps ≡ list_any (is_into serial) qs
any_into serial _ _ Empty = refl
any_into serial _ _ (More p q ps qs h t) =
    let one : is_into serial p ≡ is_into serial q = into_like serial p q h in
    let rest : list_any (is_into serial) ps ≡ list_any (is_into serial) qs = any_into serial ps qs t in
    λ i. one i || rest i

pub after_deaths_like : (ps qs : List Wire) (v w : Wire) → AreLike ps qs → Like v w → Like (after_deaths ps v) (after_deaths qs w)
after_deaths_like ps qs _ _ a (Same v) = of v
  where
    of : (v : Wire) → Like (after_deaths ps v) (after_deaths qs v)
    of (wire.Ptr p) = subst (λ t. Like (chosen (list_any (is_into p.serial) ps) wire.Dead (wire.Ptr p)) (chosen t wire.Dead (wire.Ptr p))) (any_into p.serial ps qs a) (Same _)
    of (wire.Int k n) = Same _
    of wire.Null = Same _
    of wire.Dead = Same _
    of (wire.Fn f) = Same _
    of (wire.Lock s) = Same _
    of wire.NoValue = Same _
after_deaths_like ps qs _ _ a (Locks s t e) = Locks s t e

pub data LikeFlow : Flow → Flow → Type 0 where
  Go_on : (flow : Flow) → LikeFlow flow flow
  Gives_back : (v w : Wire) → Like v w → LikeFlow (Returns v) (Returns w)

pub returned_like : (flow flow' : Flow) → LikeFlow flow flow' → Like (returned flow) (returned flow')
returned_like _ _ (Go_on flow) = Same (returned flow)
returned_like _ _ (Gives_back v w h) = h

-- ---- texts

picked : (t : Bool) (f g : List Wire → List ℕ) (vs ws : List Wire) → f vs ≡ f ws → g vs ≡ g ws → chosen t f g vs ≡ chosen t f g ws
picked true f g vs ws a b = a
picked false f g vs ws a b = b

told_like : (more : List Wire → List ℕ) (letter : ℕ) (vs ws : List Wire) → AreLike vs ws → more (rest_of vs) ≡ more (rest_of ws) → told more letter vs ≡ told more letter ws
told_like more letter vs ws a e =
    let number : integer (first_of vs) ≡ integer (first_of ws) = integer_like _ _ (first_like vs ws a) in
    λ i. shown letter (number i) ++ e i

pub printed_like : (reading : Reading) (bs : List ℕ) (vs ws : List Wire) → AreLike vs ws → printed reading bs vs ≡ printed reading bs ws
unfolding printed
printed_like Plain [] vs ws a = refl
printed_like Percent [] vs ws a = refl
printed_like Long [] vs ws a = refl
printed_like Plain (b ∷ bs) vs ws a = picked (b == 37) (printed Percent bs) (behind (printed Plain bs) b) vs ws (printed_like Percent bs vs ws a) (ap (λ (ds : List ℕ). b ∷ ds) (printed_like Plain bs vs ws a))
printed_like Percent (b ∷ bs) vs ws a =
    picked (b == 37) (behind (printed Plain bs) b) (chosen (b == 108) (printed Long bs) (told (printed Plain bs) b)) vs ws (ap (λ (ds : List ℕ). b ∷ ds) (printed_like Plain bs vs ws a))
    (picked (b == 108) (printed Long bs) (told (printed Plain bs) b) vs ws (printed_like Long bs vs ws a) (told_like (printed Plain bs) b vs ws a (printed_like Plain bs _ _ (rest_like vs ws a))))
printed_like Long (b ∷ bs) vs ws a = told_like (printed Plain bs) b vs ws a (printed_like Plain bs _ _ (rest_like vs ws a))
