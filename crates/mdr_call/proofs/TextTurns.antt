-- A text's directives, at one byte.
use Rattle.std.proofs.Common.{ℕ, ◌≡◌, ◌<◌, ◌+◌, ◌==◌, refl, Bool, true, false, List, [], ◌∷◌, ◌++◌, append_assoc, append-nil, Option, Some, None, ap, length, get_or, drop}
use Rattle.std.proofs.Math.Path.{sym, ◌∙◌}
use Rattle.std.proofs.lemmas.List.{at_drop_more}
use Rattle.mdr_core.specs.declared.kind.Kind.{Kind}
use Rattle.mdr_core.specs.Layout.{chosen}
use Rattle.mdr_core.specs.Services.{Reading as CoreReading, directives, and_kinds, plain_directive, long_directive}
use Rattle.mdr_call.specs.declared.directives.Reading.{Reading}
use Rattle.mdr_call.specs.declared.directives.Reading.TheVariants.{Plain, Percent, Long}
use Rattle.mdr_call.specs.declared.directives.Effect.{Effect}
use Rattle.mdr_call.specs.declared.directives.Effect.TheVariants.{Goes, Takes, Wrong}
use Rattle.mdr_call.specs.Turns.{core_reading, taken, turn, ended}

abbrev pub behind : List Kind → Option (List Kind) → Option (List Kind)
behind ks None = None
behind ks (Some ls) = Some (ks ++ ls)

abbrev pub going : Effect → List ℕ → Option (List Kind)
going (Goes r) bs = directives (core_reading r) bs
going (Takes k) bs = and_kinds (Some k) (directives CoreReading.Plain bs)
going Wrong bs = None

going_chosen : (t : Bool) (a b : Effect) (bs : List ℕ) → going (chosen t a b) bs ≡ chosen t (going a bs) (going b bs)
going_chosen true a b bs = refl
going_chosen false a b bs = refl

going_taken : (o : Option Kind) (bs : List ℕ) → going (taken o) bs ≡ and_kinds o (directives CoreReading.Plain bs)
going_taken None bs = refl
going_taken (Some k) bs = refl

pub turned : (r : Reading) (b : ℕ) (bs : List ℕ) → directives (core_reading r) (b ∷ bs) ≡ going (turn r b) bs
unfolding directives
turned Plain b bs = sym (going_chosen (b == 37) (Goes Percent) (Goes Plain) bs)
turned Percent b bs = sym (going_chosen (b == 37) (Goes Plain) (chosen (b == 108) (Goes Long) (taken (plain_directive b))) bs
    ∙ ap (chosen (b == 37) (directives CoreReading.Plain bs)) (going_chosen (b == 108) (Goes Long) (taken (plain_directive b)) bs
    ∙ ap (chosen (b == 108) (directives CoreReading.Long bs)) (going_taken (plain_directive b) bs)))
turned Long b bs = sym (going_taken (long_directive b) bs)

behind_more : (ks : List Kind) (k : Kind) (o : Option (List Kind)) → behind (ks ++ k ∷ []) o ≡ behind ks (and_kinds (Some k) o)
behind_more ks k None = refl
behind_more ks k (Some ls) = ap Some (append_assoc ks (k ∷ []) ls)

-- the loop at one byte
moved : (text : List ℕ) (i : ℕ) (r : Reading) → i < length text → directives (core_reading r) (drop i text) ≡ going (turn r (get_or text i 0)) (drop (i + 1) text)
moved text i r inside = at_drop_more (directives (core_reading r)) text i 0 inside ∙ turned r (get_or text i 0) (drop (i + 1) text)

pub at_turn : (text : List ℕ) (i : ℕ) (r : Reading) (t : Effect) (ks : List Kind) (w : Option (List Kind)) → i < length text → t ≡ turn r (get_or text i 0) → behind ks (directives (core_reading r) (drop i text)) ≡ w → behind ks (going t (drop (i + 1) text)) ≡ w
at_turn text i r t ks w inside done so_far =
    ap (λ t. behind ks (going t (drop (i + 1) text))) done ∙ sym (ap (behind ks) (moved text i r inside)) ∙ so_far

pub at_go : (text : List ℕ) (i : ℕ) (r r1 n : Reading) (ks ks1 : List Kind) (w : Option (List Kind)) → i < length text → Goes n ≡ turn r (get_or text i 0) → ks1 ≡ ks → r1 ≡ n → behind ks (directives (core_reading r) (drop i text)) ≡ w → behind ks1 (directives (core_reading r1) (drop (i + 1) text)) ≡ w
at_go text i r r1 n ks ks1 w inside done kept now so_far =
    ap (λ ks. behind ks (directives (core_reading r1) (drop (i + 1) text))) kept ∙ ap (λ r. behind ks (directives (core_reading r) (drop (i + 1) text))) now ∙ at_turn text i r (Goes n) ks w inside done so_far

pub at_take : (text : List ℕ) (i : ℕ) (r r1 : Reading) (k : Kind) (ks ks1 : List Kind) (w : Option (List Kind)) → i < length text → Takes k ≡ turn r (get_or text i 0) → ks1 ≡ ks ++ k ∷ [] → r1 ≡ Plain → behind ks (directives (core_reading r) (drop i text)) ≡ w → behind ks1 (directives (core_reading r1) (drop (i + 1) text)) ≡ w
at_take text i r r1 k ks ks1 w inside done grown now so_far =
    ap (λ ks. behind ks (directives (core_reading r1) (drop (i + 1) text))) grown ∙ ap (λ r. behind (ks ++ k ∷ []) (directives (core_reading r) (drop (i + 1) text))) now
    ∙ behind_more ks k (directives CoreReading.Plain (drop (i + 1) text)) ∙ at_turn text i r (Takes k) ks w inside done so_far

pub at_end : (r : Reading) (ks : List Kind) → behind ks (directives (core_reading r) []) ≡ ended r ks
unfolding directives
at_end Plain ks = ap Some (append-nil ks)
at_end Percent ks = refl
at_end Long ks = refl
