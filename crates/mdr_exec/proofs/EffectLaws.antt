-- The trees of assignments, texts, parameters and of the values of calls do what was said.
use Rattle.std.proofs.Common.{◌≡◌, ℕ, suc, List, [], ◌∷◌, Some, Result, Ok, Err, refl, ◌∙◌, slice_set, pos}
use Rattle.mdr_core.specs.declared.kind.Kind.{Kind}
use Rattle.mdr_core.specs.declared.place.At.{At}
use Rattle.mdr_core.specs.declared.stop.StopKind.{StopKind}
use Rattle.mdr_core.specs.Code.{Term, Lvalue, Goal}
use Rattle.mdr_core.specs.Conversions.{converted}
use Rattle.mdr_meaning.specs.declared.wire.Wire.{Wire}
use Rattle.mdr_meaning.specs.declared.wire.Wire.TheVariants as wire
use Rattle.mdr_meaning.specs.Calls.{keep, put, received, stores}
use Rattle.mdr_meaning.specs.Cut.{cut}
use Rattle.mdr_meaning.specs.Expressions.{given, place, slot_of, value}
use Rattle.mdr_meaning.specs.Lives.{fills, with_object}
use Rattle.mdr_meaning.specs.Named.{named_type}
use Rattle.mdr_meaning.specs.Numbers.{Numbered}
use Rattle.mdr_meaning.specs.Sides.{Here, Locals, Ends, Returns}
use Rattle.mdr_meaning.specs.Statements.{element, texts}
use Rattle.mdr_meaning.specs.Tree.{Tree}
use Rattle.mdr_meaning.specs.Walk.{Accesses, Walked, on_access, walk}
use Rattle.mdr_events.specs.Steps.{Left}
use Rattle.mdr_exec.specs.Evaluation.{value_of, place_of, Evaluates}
use Rattle.mdr_exec.specs.Effects.{Did, did, after_result, after_did, stored, put_by, put_of, keep_of, assigned, texts_of, fills_of, Does}
use Rattle.mdr_exec.proofs.EvaluationLaws.{passes_given, passes_place, passes_value}

module _ {M : Type 0} (a : Accesses M) (at : At) where
  -- an evaluation changes nothing
  pub does_nothing : (A : Type 0) (f : (A → Tree) → Tree) (x : Result A StopKind) (m : M) → Evaluates a m at A f x → Does a at A f m (did x m)
  does_nothing A f x m p = record { by = λ n r k. p.by n r k }

  pub does_end : (A : Type 0) (x : A) (m : M) → Does a at A (λ k. k x) m (did (Ok x) m)
  does_end A x m = record { by = λ n r k. refl }

  linked : {A B : Type 0} (x : Result A StopKind) (m : M) (e : A → M → Did B M) (n : ℕ) (go : A → Walked M) (k : B → M → Walked M)
      → ((v : A) → go v ≡ on_access (e v m).result at (e v m).memory n (λ y. k y (e v m).memory))
      → on_access x at m n go ≡ on_access (after_result x m e).result at (after_result x m e).memory n (λ y. k y (after_result x m e).memory)
  linked (Ok v) m e n go k h = h v
  linked (Err kind) m e n go k h = refl

  -- one after the other
  pub does_then : (A B : Type 0) (f : (A → Tree) → Tree) (g : A → (B → Tree) → Tree) (m : M) (d : Did A M) (e : A → M → Did B M)
      → Does a at A f m d → ((x : A) → Does a at B (g x) d.memory (e x d.memory)) → Does a at B (λ k. f (λ x. g x k)) m (after_did d e)
  does_then A B f g m d e p q = record {
    by = λ n r k. p.by n r (λ x. g x k)
        ∙ linked d.result d.memory e n (λ x. walk a n (cut r (g x k)) d.memory) (λ y m'. walk a n (cut r (k y)) m') (λ x. (q x).by n r k);
  }

  -- a store
  pub does_store : (A : Type 0) (p v : Wire) (x : A) (m : M) → Does a at A (λ k. Tree.Store at p v (k x)) m (stored a p v x m)
  unfolding walk cut
  does_store A p v x m = record { by = λ n r k. by_store n r k (a.store m p v) } where
    by_store : (n r : ℕ) (k : A → Tree) (s : Result M StopKind)
        → on_access s at m n (λ m'. walk a n (cut r (k x)) m')
        ≡ on_access (after_result s m (λ m' old. did (Ok x) m')).result at (after_result s m (λ m' old. did (Ok x) m')).memory n (λ y. walk a n (cut r (k y)) (after_result s m (λ m' old. did (Ok x) m')).memory)
    by_store n r k (Ok m') = refl
    by_store n r k (Err kind) = refl

  does_found : (found : (Wire → Tree) → Tree) (x : Result Wire StopKind) (v : Wire) (l : Locals) (m : M) → Evaluates a m at Wire found x
      → Does a at Locals (λ go. found (λ p. Tree.Store at p v (go l))) m (after_result x m (λ p. stored a p v l))
  does_found found x v l m p = does_then Wire Locals found (λ p go. Tree.Store at p v (go l)) m (did x m) (λ p. stored a p v l) (does_nothing Wire found x m p) (λ p. does_store Locals p v l m)

  module _ (known : Numbered) where
    does_stores : (p : Lvalue) (found : (Wire → Tree) → Tree) (x : Result Wire StopKind) (v : Wire) (l : Locals) (m : M) → Evaluates a m at Wire found x
        → Does a at Locals (stores at p found v l) m (put_by a p x v l m)
    does_stores (Lvalue.Slot i) found x v l m p = does_end Locals (record { slots = slice_set l.slots i v; born = l.born }) m
    does_stores (Lvalue.Object i) found x v l m p = does_found found x v l m p
    does_stores (Lvalue.Global g) found x v l m p = does_found found x v l m p
    does_stores (Lvalue.Deref e) found x v l m p = does_found found x v l m p
    does_stores (Lvalue.Member q f) found x v l m p = does_found found x v l m p
    does_stores (Lvalue.Index q e) found x v l m p = does_found found x v l m p

    pub does_put : (p : Lvalue) (v : Wire) (l : Locals) (m : M) → Does a at Locals (put known at p v l) m (put_of a known p v l m)
    unfolding put_of
    does_put p v l m = does_stores p (place known at l.slots p) (place_of a m known l.slots p) v l m (passes_place a m at known l.slots p)

    -- a value is put, and the statement ends
    does_put_end : (p : Lvalue) (v : Wire) (l : Locals) (m : M)
        → Does a at Left (λ k. put known at p v l (λ l'. k (record { flow = Ends; locals = l' }))) m (after_did (put_of a known p v l m) (λ l'. did (Ok (record { flow = Ends; locals = l' }))))
    does_put_end p v l m =
        does_then Locals Left (put known at p v l) (λ l' k. k (record { flow = Ends; locals = l' })) m (put_of a known p v l m) (λ l'. did (Ok (record { flow = Ends; locals = l' })))
        (does_put p v l m) (λ l'. does_end Left (record { flow = Ends; locals = l' }) (put_of a known p v l m).memory)

    pub does_keep : (here : Here) (goal : Goal) (v : Wire) (l : Locals) (m : M)
        → Does a at Left (λ k. keep known here at goal v l (λ flow l'. k (record { flow = flow; locals = l' }))) m (keep_of a known here goal v l m)
    does_keep here Goal.Nowhere v l m = does_end Left (record { flow = Ends; locals = l }) m
    does_keep here (Goal.Into p) v l m =
        does_then Wire Left (given at (received known (named_type known.program here.slots p) v)) (λ x k. put known at p x l (λ l'. k (record { flow = Ends; locals = l' }))) m
        (did (received known (named_type known.program here.slots p) v) m) (λ x m'. after_did (put_of a known p x l m') (λ l'. did (Ok (record { flow = Ends; locals = l' }))))
        (does_nothing Wire (given at (received known (named_type known.program here.slots p) v)) (received known (named_type known.program here.slots p) v) m (passes_given a m at Wire (received known (named_type known.program here.slots p) v)))
        (λ x. does_put_end p x l m)
    does_keep here Goal.Back v l m =
        does_then Wire Left (given at (received known (Some here.result) v)) (λ x k. k (record { flow = Returns x; locals = l })) m
        (did (received known (Some here.result) v) m) (λ x. did (Ok (record { flow = Returns x; locals = l })))
        (does_nothing Wire (given at (received known (Some here.result) v)) (received known (Some here.result) v) m (passes_given a m at Wire (received known (Some here.result) v)))
        (λ x. does_end Left (record { flow = Returns x; locals = l }) m)

    pub does_assign : (p : Lvalue) (e : Term) (l : Locals) (m : M)
        → Does a at Left (λ k. value known at l.slots e (λ v. put known at p v l (λ l'. k (record { flow = Ends; locals = l' })))) m (assigned a known p e l m)
    does_assign p e l m =
        does_then Wire Left (value known at l.slots e) (λ v k. put known at p v l (λ l'. k (record { flow = Ends; locals = l' }))) m
        (did (value_of a m known l.slots e) m) (λ v m'. after_did (put_of a known p v l m') (λ l'. did (Ok (record { flow = Ends; locals = l' }))))
        (does_nothing Wire (value known at l.slots e) (value_of a m known l.slots e) m (passes_value a m at known l.slots e))
        (λ v. does_put_end p v l m)

    pub does_return : (e : Term) (l : Locals) (m : M)
        → Does a at Left (λ k. value known at l.slots e (λ v. k (record { flow = Returns v; locals = l }))) m (after_result (value_of a m known l.slots e) m (λ v. did (Ok (record { flow = Returns v; locals = l }))))
    does_return e l m =
        does_then Wire Left (value known at l.slots e) (λ v k. k (record { flow = Returns v; locals = l })) m
        (did (value_of a m known l.slots e) m) (λ v. did (Ok (record { flow = Returns v; locals = l })))
        (does_nothing Wire (value known at l.slots e) (value_of a m known l.slots e) m (passes_value a m at known l.slots e))
        (λ v. does_end Left (record { flow = Returns v; locals = l }) m)

  pub does_texts : (kind : Kind) (p : Wire) (i : ℕ) (bs : List ℕ) (l : Locals) (m : M)
      → Does a at Left (λ k. texts at kind p i bs (k (record { flow = Ends; locals = l }))) m (texts_of a kind p i bs l m)
  unfolding texts_of
  does_texts kind p i [] l m = does_end Left (record { flow = Ends; locals = l }) m
  does_texts kind p i (b ∷ bs) l m =
      let v : Wire = wire.Int kind (converted kind (pos b)) in
      does_then Locals Left (λ k. Tree.Store at (element p i) v (k l)) (λ l' k. texts at kind p (suc i) bs (k (record { flow = Ends; locals = l' }))) m
      (stored a (element p i) v l m) (texts_of a kind p (suc i) bs)
      (does_store Locals (element p i) v l m) (λ l'. does_texts kind p (suc i) bs l' (stored a (element p i) v l m).memory)

  pub does_fills : (is : List ℕ) (ps : List Wire) (l : Locals) (m : M) → Does a at Locals (fills at is ps l) m (fills_of a is ps l m)
  unfolding fills_of
  does_fills [] ps l m = does_end Locals l m
  does_fills (i ∷ is) [] l m = does_end Locals l m
  does_fills (i ∷ is) (p ∷ ps) l m =
      does_then Locals Locals (λ k. Tree.Store at p (slot_of l.slots i) (k (with_object i p l))) (λ l' k. fills at is ps l' k) m
      (stored a p (slot_of l.slots i) (with_object i p l) m) (fills_of a is ps)
      (does_store Locals p (slot_of l.slots i) (with_object i p l) m) (λ l'. does_fills is ps l' (stored a p (slot_of l.slots i) (with_object i p l) m).memory)
