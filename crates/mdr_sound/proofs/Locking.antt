-- Which types hold no lock: what is known of the structs so far is so in the program.
use Rattle.std.proofs.Common.{◌≡◌, ◌⊎◌, inl, inr, ℕ, zero, suc, ◌+◌, ◌<◌, ◌≤◌, Bool, true, false, List, [], ◌∷◌, ◌++◌, length, Option, Some, None, refl, sym, ap, ◌∙◌, subst, slice_get, arith, is_some, nat_lt, length-append, add-zero}
use Rattle.std.proofs.lemmas.Option.{none-some, same_Some}
use Rattle.mdr_core.specs.declared.place.Place.{Place}
use Rattle.mdr_core.specs.declared.program.Field.{Field}
use Rattle.mdr_core.specs.declared.program.Program.{Program}
use Rattle.mdr_core.specs.declared.types.Ty.{Ty, out-Ty}
use Rattle.mdr_core.specs.declared.types.Ty.TheOpen.{Ty-F}
use Rattle.mdr_core.specs.declared.types.Ty.TheVariants as type
use Rattle.mdr_core.specs.Layout.{Leaf, Home, Alone, repeated, leaves_by, leaves, field_leaves, fields_of, leaves_below, struct_cells, cells}
use Rattle.mdr_core.specs.Types.{HasNoLock}
use Rattle.mdr_core.proofs.Lying.{is_below, not_below}
use Rattle.mdr_syntax.specs.declared.tree.Decl.{Decl, out-Decl}
use Rattle.mdr_faults.specs.declared.fault.FaultKind.TheVariants.{Limit}
use Rattle.mdr_faults.specs.declared.scope.Member.{Member}
use Rattle.mdr_faults.specs.declared.scope.Object.{Object}
use Rattle.mdr_faults.specs.declared.scope.Scope.{Scope}
use Rattle.mdr_faults.specs.declared.scope.StructEntry.{StructEntry}
use Rattle.mdr_faults.specs.Declarations.{object_declared, declarator, count_of, cells_of, cells_by, sized, struct_cells as counted_cells}
use Rattle.mdr_faults.specs.Faults.{Right}
use Rattle.mdr_body.specs.Locals.{flag, lock_by, holds_lock, object_lock, member_lock, any_lock, locks_behind, struct_locks}
use Rattle.mdr_sound.proofs.Rights.{not_right, same_right, both_right, after_right, refused_right}
use Rattle.mdr_sound.specs.Within.{KnowsDeclarations}
use Rattle.mdr_sound.proofs.JoinedLists.{or_left, or_right, get_front, get_last}

-- ---- cells that are no locks

AreNoLocks : List Leaf → Type 0
AreNoLocks [] = Unit {0}
AreNoLocks (l ∷ ls) = (l.type ≡ type.Lock → ⊥) × AreNoLocks ls

nothing : AreNoLocks []
unfolding AreNoLocks
nothing = tt

none_both : (xs ys : List Leaf) → AreNoLocks xs → AreNoLocks ys → AreNoLocks (xs ++ ys)
unfolding AreNoLocks
none_both [] ys h k = k
none_both (x ∷ xs) ys h k = (h.0, none_both xs ys h.1 k)

none_repeated : (n : ℕ) (xs : List Leaf) → AreNoLocks xs → AreNoLocks (repeated n xs)
unfolding AreNoLocks repeated
none_repeated zero xs h = tt
none_repeated (suc n) xs h = none_both xs (repeated n xs) h (none_repeated n xs h)

none_at : (xs : List Leaf) (i : ℕ) (l : Leaf) → AreNoLocks xs → slice_get xs i ≡ Some l → l.type ≡ type.Lock → ⊥
unfolding AreNoLocks
none_at [] i l h e = absurd (none-some l e)
none_at (x ∷ xs) zero l h e = subst (λ (y : Leaf). y.type ≡ type.Lock → ⊥) (same_Some x l e) h.0
none_at (x ∷ xs) (suc i) l h e = none_at xs i l h.1 e

-- ---- the locks of structs

locks_stay : (locks : List Bool) (ss : List StructEntry) (i : ℕ) (b : Bool) → slice_get locks i ≡ Some b → slice_get (locks_behind locks ss) i ≡ Some b
unfolding locks_behind
locks_stay locks [] i b e = e
locks_stay locks (s ∷ ss) i b e = locks_stay (locks ++ any_lock locks s.members ∷ []) ss i b (get_front locks (any_lock locks s.members ∷ []) i b e)

-- what is known in front of struct n
record IsLocked (all : List Bool) (entry : StructEntry) (n : ℕ) : Type 0 where
  pub before : List Bool
  pub many : length before ≡ n
  pub same : (i : ℕ) (b : Bool) → slice_get before i ≡ Some b → slice_get all i ≡ Some b
  pub at : slice_get all n ≡ Some (any_lock before entry.members)

locked_at : (locks : List Bool) (ss : List StructEntry) (i : ℕ) (entry : StructEntry) → slice_get ss i ≡ Some entry → IsLocked (locks_behind locks ss) entry (length locks + i)
unfolding locks_behind
locked_at locks [] i entry e = absurd (none-some entry e)
locked_at locks (s ∷ ss) zero entry e =
    let lock : Bool = any_lock locks s.members in
    record {
      before = locks;
      many = sym (add-zero (length locks));
      same = λ j b q. locks_stay (locks ++ lock ∷ []) ss j b (get_front locks (lock ∷ []) j b q);
      at = ap (slice_get (locks_behind (locks ++ lock ∷ []) ss)) (add-zero (length locks)) ∙ locks_stay (locks ++ lock ∷ []) ss (length locks) lock (get_last locks lock) ∙ ap (λ (x : StructEntry). Some (any_lock locks x.members)) (same_Some s entry e);
    }
locked_at locks (s ∷ ss) (suc i) entry e =
    let lock : Bool = any_lock locks s.members in
    let rest = locked_at (locks ++ lock ∷ []) ss i entry e in
    let one : length (locks ++ lock ∷ []) ≡ length locks + length (lock ∷ []) = length-append locks (lock ∷ []) in
    let number : length (locks ++ lock ∷ []) + i ≡ length locks + suc i = omega (arith, one) in
    subst (IsLocked (locks_behind (locks ++ lock ∷ []) ss) entry) number rest

some_lock : (members : List Member) (locks : List Bool) (f : ℕ) (m : Member) → any_lock locks members ≡ false → slice_get members f ≡ Some m → member_lock locks m ≡ false
some_lock [] locks f m h e = absurd (none-some m e)
some_lock (x ∷ ms) locks zero m h e = subst (λ y. member_lock locks y ≡ false) (same_Some x m e) (or_left (member_lock locks x) (any_lock locks ms) h)
some_lock (x ∷ ms) locks (suc f) m h e = some_lock ms locks f m (or_right (member_lock locks x) (any_lock locks ms) h) e

within : (locks : List Bool) (i : ℕ) → i < length locks → (b : Bool) × (slice_get locks i ≡ Some b)
within [] i h = absurd (omega arith)
within (b ∷ bs) zero h = (b, refl)
within (b ∷ bs) (suc i) h = within bs i (omega arith)

-- ---- the cells of a type

-- a cell that is the type itself
layer_none : (locks : List Bool) (known : ℕ → List Leaf) (home : Home) (t : Ty) (l : Ty-F Ty) → out-Ty t ≡ l → lock_by locks l ≡ false → ((s : ℕ) → out-Ty t ≡ Ty-F.Struct s → flag (slice_get locks s) ≡ false → AreNoLocks (known s)) → AreNoLocks (leaves_by known home t l)
unfolding AreNoLocks
layer_none locks known home t (Ty-F.Int k) is h low = (λ e. let q = sym is ∙ ap out-Ty e ∙ type.outs-Lock in cc, tt)
layer_none locks known home t Ty-F.Lock is h low = absurd cc
layer_none locks known home t (Ty-F.Struct s) is h low = low s is h
layer_none locks known home t (Ty-F.Ptr u) is h low = (λ e. let q = sym is ∙ ap out-Ty e ∙ type.outs-Lock in cc, tt)
layer_none locks known home t Ty-F.VoidPtr is h low = (λ e. let q = sym is ∙ ap out-Ty e ∙ type.outs-Lock in cc, tt)
layer_none locks known home t (Ty-F.Fun ts) is h low = (λ e. let q = sym is ∙ ap out-Ty e ∙ type.outs-Lock in cc, tt)
layer_none locks known home t Ty-F.Void is h low = tt

leaves_none : (locks : List Bool) (known : ℕ → List Leaf) (home : Home) (t : Ty) → holds_lock locks t ≡ false → ((s : ℕ) → out-Ty t ≡ Ty-F.Struct s → flag (slice_get locks s) ≡ false → AreNoLocks (known s)) → AreNoLocks (leaves known home t)
unfolding leaves
leaves_none locks known home t h low = layer_none locks known home t (out-Ty t) refl h low

fields_none : (known : ℕ → List Leaf) (s f : ℕ) (xs : List Field) → ((i : ℕ) (x : Field) → slice_get xs i ≡ Some x → (home : Home) → AreNoLocks (leaves known home x.ty)) → AreNoLocks (field_leaves known s f xs)
unfolding AreNoLocks field_leaves
fields_none known s f [] h = tt
fields_none known s f (x ∷ xs) h = none_both (repeated x.count (leaves known _ x.ty)) (field_leaves known s (f + 1) xs) (none_repeated x.count (leaves known _ x.ty) (h zero x refl _)) (fields_none known s (f + 1) xs (λ i y e. h (suc i) y e))

-- ---- structs

below_or : (s n : ℕ) → (s < n) ⊎ (n ≤ s)
below_or s n = on (nat_lt s n) refl where
  on : (b : Bool) → nat_lt s n ≡ b → (s < n) ⊎ (n ≤ s)
  on true e = inl (grind (arith, e))
  on false e = inr (grind (arith, e))

entry_at : (ss : List StructEntry) (i : ℕ) → i < length ss → (entry : StructEntry) × (slice_get ss i ≡ Some entry)
entry_at [] i h = absurd (omega arith)
entry_at (s ∷ ss) zero h = (s, refl)
entry_at (s ∷ ss) (suc i) h = entry_at ss i (omega arith)

entry_within : (ss : List StructEntry) (i : ℕ) (entry : StructEntry) → slice_get ss i ≡ Some entry → i < length ss
entry_within [] i entry e = absurd (none-some entry e)
entry_within (s ∷ ss) zero entry e = omega arith
entry_within (s ∷ ss) (suc i) entry e = let rest = entry_within ss i entry e in omega (arith, rest)

module _ (program : Program) (scope : Scope) (known : KnowsDeclarations program scope) where
  -- a struct, over those before it
  one_struct : (n : ℕ) (entry : StructEntry) → slice_get scope.structs n ≡ Some entry → flag (slice_get (struct_locks scope) n) ≡ false → ((s : ℕ) → s < n → flag (slice_get (struct_locks scope) s) ≡ false → AreNoLocks (struct_cells program.structs s)) → AreNoLocks (struct_cells program.structs n)
  unfolding struct_cells
  one_struct n entry at free lower =
      let zero_more : 0 + n ≡ n = omega arith in
      let k = subst (IsLocked (struct_locks scope) entry) zero_more (locked_at [] scope.structs n entry at) in
      let none : any_lock k.before entry.members ≡ false = sym (ap flag k.at) ∙ free in
      let many = k.many in
      fields_none (leaves_below program.structs n) n 0 (fields_of program.structs n)
      (λ i x e home.
      let m = known.fields n i entry x at e in
      let lock : holds_lock k.before x.ty ≡ false = ap (holds_lock k.before) (sym m.ty) ∙ sym (ap (object_lock k.before) m.means) ∙ some_lock entry.members k.before i m.member none m.at in
      leaves_none k.before (leaves_below program.structs n) home x.ty lock
      (λ s is f. of_lower s k.before many f (λ b q. k.same s b q) (below_or s n)))
    where
      of_lower : (s : ℕ) (before : List Bool) → length before ≡ n → flag (slice_get before s) ≡ false → ((b : Bool) → slice_get before s ≡ Some b → slice_get (struct_locks scope) s ≡ Some b) → (s < n) ⊎ (n ≤ s) → AreNoLocks (leaves_below program.structs n s)
      of_lower s before many f same (inl less) =
          let b = within before s (omega (arith, many, less)) in
          let off : flag (slice_get (struct_locks scope) s) ≡ false = ap flag (same b.0 b.1) ∙ sym (ap flag b.1) ∙ f in
          subst AreNoLocks (sym (is_below program.structs n s less)) (lower s less off)
      of_lower s before many f same (inr past) = subst AreNoLocks (sym (not_below program.structs n s past)) nothing

  structs_below : (n s : ℕ) → s < n → s < length scope.structs → flag (slice_get (struct_locks scope) s) ≡ false → AreNoLocks (struct_cells program.structs s)
  structs_below zero s h complete free = absurd (omega arith)
  structs_below (suc n) s h complete free =
      let entry = entry_at scope.structs s complete in
      one_struct s entry.0 entry.1 free (λ r less off. structs_below n r (omega (arith, less, h)) (omega (arith, less, complete)) off)

  -- ---- objects

  counted_at : (p : Place) (entry : Option StructEntry) (n : ℕ) → counted_cells p entry ≡ Right n → (e : StructEntry) × (entry ≡ Some e)
  counted_at p None n e = not_right _ n e
  counted_at p (Some x) n e = (x, refl)

  complete_at : (limit : Place) (d : Decl) (o : Object) → object_declared scope limit d ≡ Right o → (s : ℕ) → out-Ty o.ty ≡ Ty-F.Struct s → s < length scope.structs
  unfolding object_declared
  complete_at limit d o e s is =
      let p : Place = (out-Decl d).place in
      let b = both_right (declarator scope d).whole (count_of scope p (out-Decl d).size) _ o e in
      let a = after_right (cells_of scope p b.left) (sized limit b.left (is_some (out-Decl d).size) b.right) o b.made in
      let r = refused_right _ (Right (record { ty = b.left; count = b.right; array = is_some (out-Decl d).size })) limit Limit o a.made in
      let same : b.left ≡ o.ty = ap (λ (x : Object). x.ty) (same_right _ _ r.right) in
      let found = counted_at p (slice_get scope.structs s) a.value (sym (ap (cells_by scope p) (ap out-Ty same ∙ is)) ∙ a.right) in
      entry_within scope.structs s found.0 found.1

  pub object_no_lock : (limit : Place) (d : Decl) (o : Object) → object_declared scope limit d ≡ Right o → holds_lock (struct_locks scope) o.ty ≡ false → HasNoLock program o.ty
  unfolding cells
  object_no_lock limit d o e free =
      let none : AreNoLocks (cells program o.ty) = leaves_none (struct_locks scope) (struct_cells program.structs) Alone o.ty free (λ s is f. structs_below (suc s) s (omega arith) (complete_at limit d o e s is) f) in
      record { none = λ i leaf at. none_at (cells program o.ty) i leaf none at }
