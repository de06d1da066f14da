-- The parts of messages are read exactly where they are spelled.
use Rattle.std.proofs.Common.{◌≡◌, ℕ, zero, suc, ◌^◌, ◌<◌, true, List, [], ◌++◌, Option, Some, None, refl, sym, ap, subst, ◌∙◌, arith}
use Rattle.std.specs.Prelude.{slice_get, ◌==◌}
use Rattle.std.proofs.lemmas.Bool.{eqb-true}
use Rattle.std.proofs.lemmas.List.{append-nil}
use Rattle.mdr_core.specs.declared.kind.Kind.{Kind}
use Rattle.mdr_core.specs.declared.kind.Kind.TheVariants.{U8, U16, U32, U64, S8, S16, S32, S64}
use Rattle.mdr_core.specs.declared.refusal.RefuseKind.TheVariants as refusal
use Rattle.mdr_core.specs.Kinds.{kind_number}
use Rattle.mdr_meaning.specs.declared.wire.Wire.{Wire}
use Rattle.mdr_meaning.specs.declared.wire.Wire.TheVariants as wire
use Rattle.mdr_model.specs.declared.message.BirthKind.{BirthKind}
use Rattle.mdr_model.specs.declared.message.BirthKind.TheVariants.{Static, Heap, Auto}
use Rattle.mdr_model.specs.Faults.{fault}
use Rattle.mdr_model.specs.Xdr.{Input, Read, ◌>>=◌, four, item, four_at}
use Rattle.mdr_model.specs.Text.{view_text, value_text, birth_number, new_text, run_text, set_run_text, shape_text, at_text, told_text}
use Rattle.mdr_model.specs.Reading.{kinds, births_by_number, view_at, tagged_at, value_at, number_value_at, birth_or, birth_at, new_at, run_at, set_run_at, shape_at, place_at, told_at}
use Rattle.mdr_xdr.proofs.Readers.{IsReader}
use Rattle.mdr_xdr.proofs.Numbers.{four_reader, eight_reader, item_reader}
use Rattle.mdr_xdr.proofs.Sequences.{TakesSome, then_takes, last_takes, Again, then_again, last_again, IsText, made_reader, list_reader, done_takes, fault_takes, cond_takes, chosen_takes, done_again, chosen_again}
use Rattle.mdr_msg.specs.WellFormed.{IsView, IsValue, IsNew, IsRun, IsSetRun, IsShape, IsPlace, IsTold}

pub view_reader : IsReader view_at view_text IsView
unfolding view_at
view_reader = made_reader
    (then_takes _ eight_reader (λ serial s. then_takes _ four_reader (λ first f. then_takes _ four_reader (λ ty t. then_takes _ four_reader (λ count c.
    last_takes _ four_reader (λ index n. record { is = refl; fits = record { serial = s; first = f; ty = t; count = c; index = n } }))))))
    (λ p h. then_again _ eight_reader p.serial h.serial (then_again _ four_reader p.first h.first (then_again _ four_reader p.ty h.ty (then_again _ four_reader p.count h.count
    (last_again _ four_reader p.index h.index)))))

-- ---- values

-- behind a tag, the rest of a value's text
abbrev IsTagged : ℕ → List ℕ → Wire → Type 0
IsTagged tag t v = IsText value_text IsValue (four tag ++ t) v

alone : (tag n : ℕ) (v : Wire) → (tag == n) ≡ true → four n ≡ value_text v → IsValue v → IsTagged tag [] v
alone tag n v e text fits = record { is = append-nil (four tag) ∙ ap four (eqb-true tag n e) ∙ text; fits = fits }

kind_is : (k l : Kind) → ◌≡◌ {A = Option Kind} (Some k) (Some l) → kind_number l ≡ kind_number k
kind_is k l e = ap kind_number (sym (some_is e))
  where
    some_is : {A : Type 0} {x y : A} → ◌≡◌ {A = Option A} (Some x) (Some y) → x ≡ y
    some_is h = cc

tag_is : (tag : ℕ) (k : Kind) → slice_get kinds tag ≡ Some k → kind_number k ≡ tag
tag_is zero k e = kind_is U8 k e
tag_is (suc zero) k e = kind_is U16 k e
tag_is (suc (suc zero)) k e = kind_is U32 k e
tag_is (suc (suc (suc zero))) k e = kind_is U64 k e
tag_is (suc (suc (suc (suc zero)))) k e = kind_is S8 k e
tag_is (suc (suc (suc (suc (suc zero))))) k e = kind_is S16 k e
tag_is (suc (suc (suc (suc (suc (suc zero)))))) k e = kind_is S32 k e
tag_is (suc (suc (suc (suc (suc (suc (suc zero))))))) k e = kind_is S64 k e
tag_is (suc (suc (suc (suc (suc (suc (suc (suc tag)))))))) k e = absurd cc

integer_takes : (tag at : ℕ) (o : Option Kind) → ((k : Kind) → o ≡ Some k → kind_number k ≡ tag) → TakesSome (number_value_at o at) (IsTagged tag)
unfolding value_text
integer_takes tag at (Some k) is = last_takes _ (item_reader k) (λ n h. record { is = ap (λ (m : ℕ). four m ++ item k n) (sym (is k refl)); fits = h })
integer_takes tag at None is = fault_takes (fault refusal.Kind at)

tagged_takes : (tag at : ℕ) → tag < 2 ^ 32 → TakesSome (tagged_at tag at) (IsTagged tag)
unfolding tagged_at value_text
tagged_takes tag at lt =
    cond_takes (tag == 8) (λ e. done_takes wire.Null (alone tag 8 wire.Null e refl tt)) (λ _.
    cond_takes (tag == 9) (λ e. last_takes _ view_reader (λ p h. record { is = ap (λ (n : ℕ). four n ++ view_text p) (eqb-true tag 9 e); fits = h })) (λ _.
    cond_takes (tag == 10) (λ e. done_takes wire.Dead (alone tag 10 wire.Dead e refl tt)) (λ _.
    cond_takes (tag == 11) (λ e. last_takes _ four_reader (λ f h. record { is = ap (λ (n : ℕ). four n ++ four f) (eqb-true tag 11 e); fits = h })) (λ _.
    cond_takes (tag == 12) (λ e. done_takes wire.NoValue (alone tag 12 wire.NoValue e refl tt)) (λ _.
    integer_takes tag at (slice_get kinds tag) (λ k e. tag_is tag k e))))))

-- a value is read behind its tag
behind : (n : ℕ) (v : Wire) (more : List ℕ) → n < 2 ^ 32 → ((at : ℕ) → Again (λ i. tagged_at n at i) v more) → four n ++ more ≡ value_text v → Again value_at v (value_text v)
unfolding value_at
behind n v more lt h text =
    subst (λ (t : List ℕ). Again (λ i. four_at i >>= λ tag. tagged_at tag.0 i.at tag.1) v t) text (chosen_again (λ at tag. tagged_at tag.0 at tag.1) four_reader n lt h)

value_again : (v : Wire) → IsValue v → Again value_at v (value_text v)
unfolding tagged_at value_text
value_again (wire.Int U8 n) h = behind 0 (wire.Int U8 n) (item U8 n) (omega arith) (λ at. last_again _ (item_reader U8) n h) refl
value_again (wire.Int U16 n) h = behind 1 (wire.Int U16 n) (item U16 n) (omega arith) (λ at. last_again _ (item_reader U16) n h) refl
value_again (wire.Int U32 n) h = behind 2 (wire.Int U32 n) (item U32 n) (omega arith) (λ at. last_again _ (item_reader U32) n h) refl
value_again (wire.Int U64 n) h = behind 3 (wire.Int U64 n) (item U64 n) (omega arith) (λ at. last_again _ (item_reader U64) n h) refl
value_again (wire.Int S8 n) h = behind 4 (wire.Int S8 n) (item S8 n) (omega arith) (λ at. last_again _ (item_reader S8) n h) refl
value_again (wire.Int S16 n) h = behind 5 (wire.Int S16 n) (item S16 n) (omega arith) (λ at. last_again _ (item_reader S16) n h) refl
value_again (wire.Int S32 n) h = behind 6 (wire.Int S32 n) (item S32 n) (omega arith) (λ at. last_again _ (item_reader S32) n h) refl
value_again (wire.Int S64 n) h = behind 7 (wire.Int S64 n) (item S64 n) (omega arith) (λ at. last_again _ (item_reader S64) n h) refl
value_again wire.Null h = behind 8 wire.Null [] (omega arith) (λ at. done_again wire.Null) (append-nil (four 8))
value_again (wire.Ptr p) h = behind 9 (wire.Ptr p) (view_text p) (omega arith) (λ at. last_again _ view_reader p h) refl
value_again wire.Dead h = behind 10 wire.Dead [] (omega arith) (λ at. done_again wire.Dead) (append-nil (four 10))
value_again (wire.Fn f) h = behind 11 (wire.Fn f) (four f) (omega arith) (λ at. last_again _ four_reader f h) refl
value_again (wire.Lock s) h = absurd h
value_again wire.NoValue h = behind 12 wire.NoValue [] (omega arith) (λ at. done_again wire.NoValue) (append-nil (four 12))

pub value_reader : IsReader value_at value_text IsValue
unfolding value_at
value_reader = made_reader (chosen_takes (λ at tag. tagged_at tag.0 at tag.1) four_reader (λ at tag lt. tagged_takes tag at lt)) (λ v h. value_again v h)

-- ---- the other parts

pub place_reader : IsReader place_at at_text IsPlace
unfolding place_at
place_reader = made_reader
    (then_takes _ four_reader (λ func f. last_takes _ four_reader (λ stmt s. record { is = refl; fits = record { func = f; stmt = s } })))
    (λ at h. then_again _ four_reader at.func h.func (last_again _ four_reader at.stmt h.stmt))

pub set_run_reader : IsReader set_run_at set_run_text IsSetRun
unfolding set_run_at set_run_text
set_run_reader = made_reader
    (then_takes _ eight_reader (λ serial s. then_takes _ four_reader (λ first f. last_takes _ four_reader (λ len l. record { is = refl; fits = record { serial = s; first = f; len = l } }))))
    (λ r h. then_again _ eight_reader r.serial h.serial (then_again _ four_reader r.first h.first (last_again _ four_reader r.len h.len)))

pub shape_reader : IsReader shape_at shape_text IsShape
unfolding shape_at shape_text
shape_reader = made_reader
    (then_takes _ four_reader (λ ty t. last_takes _ eight_reader (λ count c. record { is = refl; fits = record { ty = t; count = c } })))
    (λ s h. then_again _ four_reader s.ty h.ty (last_again _ eight_reader s.count h.count))

pub run_reader : IsReader run_at run_text IsRun
unfolding run_at run_text
run_reader = made_reader
    (then_takes _ eight_reader (λ serial s. then_takes _ four_reader (λ first f. last_takes _ (list_reader value_reader) (λ values v. record { is = refl; fits = record { serial = s; first = f; values = v } }))))
    (λ r h. then_again _ eight_reader r.serial h.serial (then_again _ four_reader r.first h.first (last_again _ (list_reader value_reader) r.values h.values)))

-- ---- births

birth_is : (a b : BirthKind) → ◌≡◌ {A = Option BirthKind} (Some a) (Some b) → birth_number b ≡ birth_number a
birth_is a b e = ap birth_number (sym (some_is e))
  where
    some_is : {A : Type 0} {x y : A} → ◌≡◌ {A = Option A} (Some x) (Some y) → x ≡ y
    some_is h = cc

number_is : (n : ℕ) (kind : BirthKind) → slice_get births_by_number n ≡ Some kind → birth_number kind ≡ n
number_is zero kind e = birth_is Static kind e
number_is (suc zero) kind e = birth_is Heap kind e
number_is (suc (suc zero)) kind e = birth_is Auto kind e
number_is (suc (suc (suc n))) kind e = absurd cc

abbrev birth_text : BirthKind → List ℕ
birth_text kind = four (birth_number kind)

abbrev IsBirth : BirthKind → Type 0
IsBirth kind = Unit {0}

abbrev IsBorn : ℕ → List ℕ → BirthKind → Type 0
IsBorn n t kind = IsText birth_text IsBirth (four n ++ t) kind

born_takes : (n at : ℕ) (o : Option BirthKind) → ((kind : BirthKind) → o ≡ Some kind → birth_number kind ≡ n) → TakesSome (birth_or o at) (IsBorn n)
born_takes n at (Some kind) is = done_takes kind (record { is = append-nil (four n) ∙ ap four (sym (is kind refl)); fits = tt })
born_takes n at None is = fault_takes (fault refusal.Range at)

abbrev born_next : ℕ → ℕ × Input → Read BirthKind
born_next at n = birth_or (slice_get births_by_number n.0) at n.1

born_again : (n : ℕ) (kind : BirthKind) → n < 2 ^ 32 → ((at : ℕ) → Again (λ i. born_next at (n, i)) kind []) → four n ≡ birth_text kind → Again birth_at kind (birth_text kind)
unfolding birth_at
born_again n kind lt h text =
    subst (λ (t : List ℕ). Again (λ i. four_at i >>= born_next i.at) kind t) (append-nil (four n) ∙ text) (chosen_again born_next four_reader n lt h)

birth_again : (kind : BirthKind) → Again birth_at kind (birth_text kind)
birth_again Static = born_again 0 Static (omega arith) (λ at. done_again Static) refl
birth_again Heap = born_again 1 Heap (omega arith) (λ at. done_again Heap) refl
birth_again Auto = born_again 2 Auto (omega arith) (λ at. done_again Auto) refl

birth_reader : IsReader birth_at birth_text IsBirth
unfolding birth_at
birth_reader = made_reader (chosen_takes born_next four_reader (λ at n lt. born_takes n at (slice_get births_by_number n) (λ kind e. number_is n kind e))) (λ kind h. birth_again kind)

pub new_reader : IsReader new_at new_text IsNew
unfolding new_at new_text
new_reader = made_reader
    (then_takes _ eight_reader (λ serial s. then_takes _ birth_reader (λ kind k. then_takes _ four_reader (λ ty t. last_takes _ four_reader (λ count c. record { is = refl; fits = record { serial = s; ty = t; count = c } })))))
    (λ n h. then_again _ eight_reader n.serial h.serial (then_again _ birth_reader n.kind tt (then_again _ four_reader n.ty h.ty (last_again _ four_reader n.count h.count))))

-- ---- what is told of memory

pub told_reader : IsReader told_at told_text IsTold
unfolding told_at told_text
told_reader = made_reader
    (then_takes _ (list_reader eight_reader) (λ deaths d. then_takes _ (list_reader new_reader) (λ news n. then_takes _ (list_reader set_run_reader) (λ view v.
    last_takes _ (list_reader run_reader) (λ runs r. record { is = refl; fits = record { deaths = d; news = n; view = v; runs = r } })))))
    (λ t h. then_again _ (list_reader eight_reader) t.deaths h.deaths (then_again _ (list_reader new_reader) t.news h.news (then_again _ (list_reader set_run_reader) t.view h.view
    (last_again _ (list_reader run_reader) t.runs h.runs))))
