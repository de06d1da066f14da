-- Accesses that are held to a set.
use Rattle.std.proofs.Common.{◌≡◌, ℕ, zero, suc, ◌+◌, ◌-◌, ◌<◌, ◌≤◌, arith, Bool, true, false, not, ◌&&◌, List, [], ◌∷◌, ◌++◌, length, map, reverse, take, Result, Ok, Err, refl, sym, ◌∙◌, ap, subst}
use Rattle.std.proofs.lemmas.List.{append-nil, length-map, length-reverse, reverse-append}
use Rattle.std.specs.Prelude.{OnErr, nat_le, nat_lt}
use Rattle.std.specs.List.{list_all}
use Rattle.mdr_core.specs.declared.program.Program.{Program}
use Rattle.mdr_core.specs.declared.stop.StopKind.{StopKind}
use Rattle.mdr_core.specs.declared.stop.StopKind.TheVariants as stop
use Rattle.mdr_extents.specs.CellOrder.{cells}
use Rattle.mdr_events.specs.declared.integer.Integer.{Integer}
use Rattle.mdr_events.specs.Integers.{FirstBecomes, FirstIs, IsFirst, integer_wire}
use Rattle.mdr_events.specs.Outcomes.{when_made}
use Rattle.mdr_meaning.specs.declared.shape.Shape64.{Shape64}
use Rattle.mdr_meaning.specs.declared.wire.Wire.{Wire}
use Rattle.mdr_meaning.specs.declared.wire.Wire.TheVariants as wire
use Rattle.mdr_meaning.specs.declared.wire.WireView.{WireView}
use Rattle.mdr_meaning.specs.Walk.{Born}
use Rattle.mdr_model.specs.declared.memory.Cell.{Cell}
use Rattle.mdr_model.specs.declared.message.BirthKind.TheVariants.{Auto}
use Rattle.mdr_model.specs.Memory.{Memory, cell_of, everywhere, is_live, loaded, loaded_from, reached, reached_by, stored, stored_into}
use Rattle.mdr_model.specs.Sets.{cells_from}
use Rattle.mdr_paths.specs.Paths.{is_in}
use Rattle.mdr_paths.proofs.NodeLists.{none_in}
use Rattle.mdr_plain.specs.Gate.{are_none}
use Rattle.mdr_plain.specs.Storage.{births, bytes_from, cells_read, deaths, read, remembers, with_memory}
use Rattle.mdr_plain.specs.World.{World}
use Rattle.mdr_viewed.specs.Viewed.{AreOlder, IsOlder, in_set, viewed, viewed_born, viewed_if}
use Rattle.mdr_viewed.specs.Laws.{AgreeOn}
use Rattle.mdr_viewed.proofs.Steps.{IsBeside, accesses_are_viewed, beside_kept, births_are_viewed, births_viewed, deaths_viewed}
use Rattle.mdr_watched.proofs.KeepLaws.{deaths_keep}
use Rattle.mdr_viewed.proofs.Sets.{sets_are_viewed}
use Rattle.mdr_watched.specs.Order.{AreLive}
use Rattle.mdr_watched.specs.Views.{below, closed, living, may_touch, opened}
use Rattle.mdr_world.specs.Driven.{Driven, driven_accesses, driver, driver_if, open_views}
use Rattle.mdr_watch.specs.declared.guarded.Closing.{Closing}
use Rattle.mdr_watch.specs.declared.guarded.Closing.TheVariants as closing
use Rattle.mdr_watch.specs.declared.sets.Sets.{Sets}
use Rattle.mdr_watch.specs.Guarding.{IsGuarded, StaysOpen, are_kept_out, guarded_accesses, is_kept_out, sets_of}
use Rattle.mdr_watch.specs.Leaving.{IsClosed, with_views}

-- ---- which cell is reached

kept_out : (alive inside allowed : Bool) (c : Cell) → alive && (inside && not allowed) ≡ true → ◌≡◌ {A = Result Cell StopKind} (reached_by alive inside allowed c) (Err stop.Annotation)
kept_out true true false c e = refl
kept_out true true true c e = absurd (cc e)
kept_out true false allowed c e = absurd (cc e)
kept_out false inside allowed c e = absurd (cc e)

let_in : (alive inside allowed : Bool) (c : Cell) → alive && (inside && not allowed) ≡ false → reached_by alive inside allowed c ≡ reached_by alive inside true c
let_in true true false c e = absurd (cc e)
let_in true true true c e = refl
let_in true false allowed c e = refl
let_in false inside allowed c e = refl

module _ (set : List Cell) (m : Memory) where
  reached_out : (p : Wire) → is_kept_out set m p ≡ true → reached (is_in cells set) m p ≡ Err stop.Annotation
  unfolding reached
  reached_out (wire.Ptr p) e = kept_out _ _ _ _ e
  reached_out (wire.Int k n) e = absurd (cc e)
  reached_out wire.Null e = absurd (cc e)
  reached_out wire.Dead e = absurd (cc e)
  reached_out (wire.Fn f) e = absurd (cc e)
  reached_out (wire.Lock s) e = absurd (cc e)
  reached_out wire.NoValue e = absurd (cc e)

  reached_in : (p : Wire) → is_kept_out set m p ≡ false → reached (is_in cells set) m p ≡ reached everywhere m p
  unfolding reached
  reached_in (wire.Ptr p) e = let_in _ _ _ _ e
  reached_in (wire.Int k n) e = refl
  reached_in wire.Null e = refl
  reached_in wire.Dead e = refl
  reached_in (wire.Fn f) e = refl
  reached_in (wire.Lock s) e = refl
  reached_in wire.NoValue e = refl

  loaded_out : (p : Wire) → is_kept_out set m p ≡ true → loaded (is_in cells set) m p ≡ Err stop.Annotation
  unfolding loaded
  loaded_out p e = ap (loaded_from m) (reached_out p e)

  loaded_in : (p : Wire) → is_kept_out set m p ≡ false → loaded (is_in cells set) m p ≡ loaded everywhere m p
  unfolding loaded
  loaded_in p e = ap (loaded_from m) (reached_in p e)

  stored_out : (p v : Wire) → is_kept_out set m p ≡ true → stored (is_in cells set) m p v ≡ Err stop.Annotation
  unfolding stored
  stored_out p v e = ap (stored_into m v) (reached_out p e)

  stored_in : (p v : Wire) → is_kept_out set m p ≡ false → stored (is_in cells set) m p v ≡ stored everywhere m p v
  unfolding stored
  stored_in p v e = ap (stored_into m v) (reached_in p e)

  read_out : (p : Wire) (n : ℕ) → are_kept_out set m p n ≡ true → read (is_in cells set) m p n ≡ Err stop.Annotation
  unfolding read
  read_out (wire.Ptr p) n e = ap (bytes_from m (cells_read p n)) (kept_out _ _ _ _ e)
  read_out (wire.Int k x) n e = absurd (cc e)
  read_out wire.Null n e = absurd (cc e)
  read_out wire.Dead n e = absurd (cc e)
  read_out (wire.Fn f) n e = absurd (cc e)
  read_out (wire.Lock s) n e = absurd (cc e)
  read_out wire.NoValue n e = absurd (cc e)

  all_everywhere : (cs : List Cell) → list_all everywhere cs ≡ true
  all_everywhere [] = refl
  all_everywhere (c ∷ cs) = all_everywhere cs

  read_in : (p : Wire) (n : ℕ) → are_kept_out set m p n ≡ false → read (is_in cells set) m p n ≡ read everywhere m p n
  unfolding read
  read_in (wire.Ptr p) n e = ap (bytes_from m (cells_read p n)) (let_in _ _ _ _ e ∙ sym (ap (λ t. reached_by (is_live m p.serial) (nat_le (p.index + n) p.count) t (cell_of p)) (all_everywhere (cells_read p n))))
  read_in (wire.Int k x) n e = refl
  read_in wire.Null n e = refl
  read_in wire.Dead n e = refl
  read_in (wire.Fn f) n e = refl
  read_in (wire.Lock s) n e = refl
  read_in wire.NoValue n e = refl

-- ---- accesses of user code, with the set beside the world

module _ (program : Program) (set : List Cell) (outer : List (List Cell)) (w : World) where
  abbrev agree : AgreeOn program (set ∷ outer) may_touch (in_set set) w
  agree = accesses_are_viewed.agree program (set ∷ outer) may_touch (in_set set) (accesses_are_viewed.user set outer) w

  pub load_stops : (g : Driven) → driver program (viewed (set ∷ outer) w) ≡ g → (p : Wire) → is_kept_out set w.memory p ≡ true → guarded_accesses.load g p ≡ Err stop.Annotation
  load_stops g is p e = sym (ap (λ d. guarded_accesses.load d p) is) ∙ agree.load p ∙ loaded_out set w.memory p e

  pub load_goes : (g : Driven) → driver program (viewed (set ∷ outer) w) ≡ g → (p : Wire) → is_kept_out set w.memory p ≡ false → driven_accesses.load (driver program w) p ≡ guarded_accesses.load g p
  load_goes g is p e = sym (loaded_in set w.memory p e) ∙ sym (agree.load p) ∙ ap (λ d. guarded_accesses.load d p) is

  pub read_stops : (g : Driven) → driver program (viewed (set ∷ outer) w) ≡ g → (p : Wire) (n : ℕ) → are_kept_out set w.memory p n ≡ true → guarded_accesses.read g p n ≡ Err stop.Annotation
  read_stops g is p n e = sym (ap (λ d. guarded_accesses.read d p n) is) ∙ agree.read p n ∙ read_out set w.memory p n e

  pub read_goes : (g : Driven) → driver program (viewed (set ∷ outer) w) ≡ g → (p : Wire) (n : ℕ) → are_kept_out set w.memory p n ≡ false → driven_accesses.read (driver program w) p n ≡ guarded_accesses.read g p n
  read_goes g is p n e = sym (read_in set w.memory p n e) ∙ sym (agree.read p n) ∙ ap (λ d. guarded_accesses.read d p n) is

  pub fresh_goes : (g : Driven) → driver program (viewed (set ∷ outer) w) ≡ g → (v : Wire) → driven_accesses.fresh (driver program w) v ≡ guarded_accesses.fresh g v
  fresh_goes g is v = ap (λ d. guarded_accesses.fresh d v) is

-- ---- stores and deaths leave the set beside the world

pub guarded_with : (set : List Cell) (outer : List (List Cell)) (w : World) (m : Memory) → IsGuarded (set ∷ outer) w → IsGuarded (set ∷ outer) (with_memory w m)
guarded_with set outer w m g = record { upcall = g.upcall; older = g.older }

module _ (program : Program) (set : List Cell) (outer : List (List Cell)) where
  stored_if : (r : Result (Unit {0}) StopKind) (s : Result World StopKind) (d' : Driven) → driver_if program s ≡ when_made r d' → driver_if program (viewed_if (set ∷ outer) s) ≡ when_made r (driver d'.program (viewed (set ∷ outer) d'.world))
  stored_if (Ok x) (Ok w) d' e = let same : driver program w ≡ d' = cc in ap (λ (d : Driven). Ok (driver d.program (viewed (set ∷ outer) d.world))) same
  stored_if (Ok x) (Err kind) d' e = absurd (cc e)
  stored_if (Err kind) (Ok w) d' e = absurd (cc e)
  stored_if (Err kind) (Err kind') d' e = let same : kind' ≡ kind = cc in ap Err same

  pub store_stops : (w : World) (g : Driven) → driver program (viewed (set ∷ outer) w) ≡ g → (p v : Wire) → is_kept_out set w.memory p ≡ true → guarded_accesses.store g p v ≡ Err stop.Annotation
  store_stops w g is p v e =
      sym (ap (λ d. guarded_accesses.store d p v) is)
      ∙ ap (driver_if program) (AgreeOn.store (accesses_are_viewed.agree program (set ∷ outer) may_touch (in_set set) (accesses_are_viewed.user set outer) w) p v)
      ∙ ap (λ m. driver_if program (viewed_if (set ∷ outer) (remembers w m))) (stored_out set w.memory p v e)

  pub store_goes : (w : World) (g : Driven) → driver program (viewed (set ∷ outer) w) ≡ g → (p v : Wire) → is_kept_out set w.memory p ≡ false → (r : Result (Unit {0}) StopKind) (d' : Driven)
      → driven_accesses.store (driver program w) p v ≡ when_made r d' → guarded_accesses.store g p v ≡ when_made r (driver d'.program (viewed (set ∷ outer) d'.world))
  store_goes w g is p v e r d' made =
      sym (ap (λ d. guarded_accesses.store d p v) is)
      ∙ ap (driver_if program) (AgreeOn.store (accesses_are_viewed.agree program (set ∷ outer) may_touch (in_set set) (accesses_are_viewed.user set outer) w) p v)
      ∙ ap (λ m. driver_if program (viewed_if (set ∷ outer) (remembers w m))) (stored_in set w.memory p v e)
      ∙ stored_if r (remembers w (stored everywhere w.memory p v)) d' made

  pub death_goes : (w : World) (g : Driven) → driver program (viewed (set ∷ outer) w) ≡ g → (ps : List Wire) (d' : Driven) → d' ≡ driven_accesses.death (driver program w) ps → driver d'.program (viewed (set ∷ outer) d'.world) ≡ guarded_accesses.death g ps
  death_goes w g is ps d' e = ap (λ (d : Driven). driver d.program (viewed (set ∷ outer) d.world)) e ∙ ap (driver program) (sym (deaths_viewed ps (set ∷ outer) w)) ∙ ap (λ d. guarded_accesses.death d ps) is

pub store_guarded : (program : Program) (set : List Cell) (outer : List (List Cell)) (w : World) (s : Result Memory StopKind) (r : Result (Unit {0}) StopKind) (d' : Driven) → IsGuarded (set ∷ outer) w → driver_if program (remembers w s) ≡ when_made r d' → (OnErr r (d' ≡ driver program w)) → IsGuarded (set ∷ outer) d'.world
store_guarded program set outer w (Ok m) (Ok x) d' g e kept = let same : driver program (with_memory w m) ≡ d' = cc in subst (λ (d : Driven). IsGuarded (set ∷ outer) d.world) same (guarded_with set outer w m g)
store_guarded program set outer w (Ok m) (Err kind) d' g e kept = absurd (cc e)
store_guarded program set outer w (Err kind) (Ok x) d' g e kept = absurd (cc e)
store_guarded program set outer w (Err kind) (Err kind') d' g e kept = subst (λ (d : Driven). IsGuarded (set ∷ outer) d.world) (sym kept) g

-- ---- first cells that are in the set

abbrev at_first : ℕ → WireView
at_first serial = record { serial = serial; first = 0; ty = 0; count = 1; index = 0 }

none_out : (x y : Bool) → x && (y && false) ≡ false
none_out true true = refl
none_out true false = refl
none_out false y = refl

module _ (program : Program) (set : List Cell) (outer : List (List Cell)) (w : World) (serial : ℕ) (n : Integer) where
  first_in : is_in cells set (record { serial = serial; index = 0 }) ≡ true → (v : WireView) → IsFirst serial v → is_kept_out set w.memory (wire.Ptr v) ≡ false
  first_in has v f =
      let start : v.first + v.index ≡ 0 = omega (arith, f.first, f.index) in
      let here : is_in cells set (cell_of v) ≡ true = (λ i. is_in cells set (record { serial = f.block i; index = start i })) ∙ has in
      ap (λ b. is_live w.memory v.serial && (nat_lt v.index v.count && not b)) here ∙ none_out _ _

  pub first_goes : (g : Driven) → driver program (viewed (set ∷ outer) w) ≡ g → is_in cells set (record { serial = serial; index = 0 }) ≡ true → FirstIs driven_accesses (driver program w) serial n → FirstIs guarded_accesses g serial n
  first_goes g is has e v f = sym (load_goes program set outer w g is (wire.Ptr v) (first_in has v f)) ∙ e v f

  pub put_goes : (g : Driven) → driver program (viewed (set ∷ outer) w) ≡ g → is_in cells set (record { serial = serial; index = 0 }) ≡ true → (d' : Driven) → FirstBecomes driven_accesses (driver program w) serial n d'
      → FirstBecomes guarded_accesses g serial n (driver d'.program (viewed (set ∷ outer) d'.world))
  put_goes g is has d' e v f = store_goes program set outer w g is (wire.Ptr v) (integer_wire n) (first_in has v f) (Ok tt) d' (e v f)

  pub put_guarded : (done : Bool) (d' : Driven) → IsGuarded (set ∷ outer) w → (done ≡ true → FirstBecomes driven_accesses (driver program w) serial n d') → (done ≡ false → d' ≡ driver program w) → IsGuarded (set ∷ outer) d'.world
  put_guarded true d' g put kept =
      store_guarded program set outer w (stored everywhere w.memory (wire.Ptr (at_first serial)) (integer_wire n)) (Ok tt) d' g (put refl (at_first serial) (record { block = refl; first = refl; index = refl; some = omega arith })) tt
  put_guarded false d' g put kept = subst (λ (d : Driven). IsGuarded (set ∷ outer) d.world) (sym (kept refl)) g

-- births leave it too
module _ (program : Program) (set : List Cell) (outer : List (List Cell)) (w : World) (shapes : List Shape64) (g : IsGuarded (set ∷ outer) w) where
  birth_goes : births program Auto shapes (viewed (set ∷ outer) w) ≡ viewed_born (set ∷ outer) (births program Auto shapes w)
  birth_goes = births_viewed program Auto shapes (set ∷ outer) w g.older

  pub birth_points : (driven_accesses.birth (driver program w) shapes).pointers ≡ (guarded_accesses.birth (driver program (viewed (set ∷ outer) w)) shapes).pointers
  birth_points = sym (ap (λ (b : Born World). b.pointers) birth_goes)

  pub birth_leaves : (d' : Driven) → d' ≡ (driven_accesses.birth (driver program w) shapes).memory → driver d'.program (viewed (set ∷ outer) d'.world) ≡ (guarded_accesses.birth (driver program (viewed (set ∷ outer) w)) shapes).memory
  birth_leaves d' e = ap (λ (d : Driven). driver d.program (viewed (set ∷ outer) d.world)) e ∙ sym (ap (λ (b : Born World). driver program b.memory) birth_goes)

  pub birth_guarded : (d' : Driven) → d' ≡ (driven_accesses.birth (driver program w) shapes).memory → IsGuarded (set ∷ outer) d'.world
  birth_guarded d' e = subst (λ (d : Driven). IsGuarded (set ∷ outer) d.world) (sym e) (record {
    upcall = births_are_viewed.upcall_born program Auto shapes w g.upcall;
    older = births_are_viewed.older_born program Auto shapes (set ∷ outer) w g.older;
  })

pub death_guarded : (set : List Cell) (outer : List (List Cell)) (w : World) (ps : List Wire) → IsGuarded (set ∷ outer) w → IsGuarded (set ∷ outer) (deaths ps w)
death_guarded set outer w ps g = let b = deaths_keep (IsBeside (set ∷ outer)) (beside_kept (set ∷ outer)) ps w (record { upcall = g.upcall; older = g.older; some = refl }) in record { upcall = b.upcall; older = b.older }

-- an empty set stands alone beside any world in which an upcall is open
pub forgotten : (set : List Cell) (outer : List (List Cell)) (d d' : Driven) → set ≡ [] → outer ≡ [] → d' ≡ driver d.program (record d.world { views = open_views true }) → IsGuarded (set ∷ outer) d'.world
forgotten set outer d d' none alone is = record {
  upcall = ap (λ (x : Driven). are_none x.world.views) is;
  older = ((λ c h. absurd (none_in cells c (sym (ap (λ s. is_in cells s c) none) ∙ h))), subst (λ sets. AreOlder sets d'.world) (sym alone) tt);
}

-- an upcall opens with a set
pub open_goes : (program : Program) (set : List Cell) (w : World) → w.views ≡ [] → AreLive w.memory set → (d' : Driven) → d' ≡ driver program (record w { views = open_views true }) → driver d'.program (viewed (set ∷ []) d'.world) ≡ driver program (opened set w)
open_goes program set w none live d' e = ap (λ (d : Driven). driver d.program (viewed (set ∷ []) d.world)) e ∙ ap (driver program) (sym (sets_are_viewed.opens set w none live))

pub open_guarded : (program : Program) (set : List Cell) (outer : List (List Cell)) (w : World) (d' : Driven) → outer ≡ [] → IsOlder set w → d' ≡ driver program (record w { views = open_views true }) → IsGuarded (set ∷ reverse outer) d'.world
open_guarded program set outer w d' none older is = record {
  upcall = ap (λ (x : Driven). are_none x.world.views) is;
  older = (subst (λ (x : Driven). IsOlder set x.world) (sym is) older, subst (λ sets. AreOlder (reverse sets) d'.world) (sym none) tt);
}

-- one opens over others
pub over_goes : (program : Program) (set : List Cell) (outer : List (List Cell)) (w : World) → AreLive w.memory set → driver program (viewed (set ∷ outer) w) ≡ driver program (opened set (viewed outer w))
over_goes program set outer w live = ap (driver program) (sym (sets_are_viewed.opens_over set outer w live))

-- ---- sets within one another

-- the last of those outside is the innermost of them
last_first : (outer rest : List (List Cell)) (last : List Cell) → outer ≡ rest ++ last ∷ [] → reverse outer ≡ last ∷ reverse rest
last_first outer rest last split = ap reverse split ∙ reverse-append rest (last ∷ [])

pub one_over : (set inner : List Cell) (outer outer' : List (List Cell)) → outer' ≡ outer ++ inner ∷ [] → set ∷ reverse outer' ≡ set ∷ inner ∷ reverse outer
one_over set inner outer outer' split = ap (λ sets. set ∷ sets) (last_first outer' outer inner split)

-- none is left
no_first : (xs : List (List Cell)) → take zero xs ≡ []
no_first [] = refl
no_first (x ∷ xs) = refl

pub none_outside : (xs rest : List (List Cell)) (size : ℕ) → xs ≡ rest ++ [] → rest ≡ take (size - 1) xs → size ≡ 0 → xs ≡ []
none_outside xs rest size last behind empty = last ∙ append-nil rest ∙ behind ∙ ap (λ n. take (n - 1) xs) empty ∙ no_first xs

-- there is a last one, and the others are around what is left
pub none_is_some : (outer xs : List (List Cell)) (n : ℕ) → outer ≡ xs → xs ≡ [] → length outer ≡ suc n → ⊥
none_is_some outer xs n are none some = let h : length outer ≡ 0 = ap length (are ∙ none) in omega (arith, h, some)

pub one_under : (inner last : List Cell) (outer rest : List (List Cell)) → outer ≡ rest ++ last ∷ [] → inner ∷ reverse outer ≡ inner ∷ last ∷ reverse rest
one_under inner last outer rest split = ap (λ sets. inner ∷ sets) (last_first outer rest last split)

module _ (program : Program) (inner : List Cell) (outer : List (List Cell)) (w : World) (d : Driven) (is : driver program (viewed (inner ∷ reverse outer) w) ≡ d) where
  -- how many there are
  pub one_and : suc (length outer) ≡ length d.world.views
  one_and = ap suc (sym (length-map (reverse outer) (living w.memory) ∙ length-reverse outer)) ∙ ap (λ (x : Driven). length x.world.views) is

  -- the innermost is gone, and the next one is the innermost, or none is left
  pub close_under : (rest : List (List Cell)) (last : List Cell) → outer ≡ rest ++ last ∷ [] → IsClosed d (closing.Under (driver program (viewed (last ∷ reverse rest) w)))
  close_under rest last split = subst (λ (x : Driven). IsClosed x (closing.Under (driver program (viewed (last ∷ reverse rest) w)))) is (
    ap (λ sets. driver program (viewed sets w)) (sym (last_first outer rest last split)),
    length (map (living w.memory) (reverse rest)),
    ap (λ sets. suc (length (map (living w.memory) sets))) (last_first outer rest last split),
  )

  pub close_last : (d' : Driven) → outer ≡ [] → d' ≡ driver program (record w { views = open_views false }) → IsClosed d (closing.Last d')
  close_last d' none gone = subst (λ (x : Driven). IsClosed x (closing.Last d')) is (
    gone ∙ ap (λ sets. driver program (viewed (reverse sets) w)) (sym none),
    ap (λ (x : Driven). x.world.views) gone,
  )

  -- where others are around the innermost it goes in place
  pub some_outside : (n : ℕ) → length (below d.world.views) ≡ suc n → length outer ≡ suc n
  some_outside n e = sym (length-map (reverse outer) (living w.memory) ∙ length-reverse outer) ∙ ap (λ (x : Driven). length (below x.world.views)) is ∙ e

  pub popped : (sets : List (List Cell)) → inner ∷ reverse outer ≡ inner ∷ sets → driver program (viewed sets w) ≡ driver d.program (closed d.world)
  popped sets split = ap (λ xs. driver program (closed (viewed xs w))) (sym split) ∙ ap (λ (x : Driven). driver x.program (closed x.world)) is

  pub left_all : (d' : Driven) → d' ≡ driver program (record w { views = open_views false }) → d' ≡ driver d.program (with_views [] d.world)
  left_all d' gone = gone ∙ ap (λ (x : Driven). driver x.program (with_views [] x.world)) is

  -- one opens over them
  module _ (set : List Cell) where
    pub over_is : (sets : List (List Cell)) → sets ≡ set ∷ inner ∷ reverse outer → AreLive d.world.memory set → driver program (viewed sets w) ≡ driver d.program (opened set d.world)
    over_is sets are live =
        ap (λ x. driver program (viewed x w)) are
        ∙ over_goes program set (inner ∷ reverse outer) w (subst (λ (x : Driven). AreLive x.world.memory set) (sym is) live)
        ∙ ap (λ (x : Driven). driver x.program (opened set x.world)) is

two_open : (views : List (List Cell)) (n : ℕ) → length views ≡ suc (suc n) → below views ≡ [] → ⊥
two_open [] n e none = omega (arith, e)
two_open (set ∷ []) n e none = omega (arith, e)
two_open (set ∷ under ∷ sets) n e none = let h : under ∷ sets ≡ [] = none in cc h

-- where one upcall is open, none is under it
pub not_under : (d : Driven) (x : Closing) (g : Driven) → x ≡ closing.Under g → IsClosed d x → length d.world.views ≡ 1 → ⊥
not_under d x g is c one =
    let u : IsClosed d (closing.Under g) = subst (λ y. IsClosed d y) is c in
    let more : length d.world.views ≡ suc (suc u.1) = u.2 in
    let one_is : length d.world.views ≡ 1 = one in
    omega (arith, more, one_is)

-- and where more are, it isn't the last
pub not_last : (d : Driven) (x : Closing) (w : Driven) (n : ℕ) → x ≡ closing.Last w → IsClosed d x → length d.world.views ≡ suc (suc n) → ⊥
not_last d x w n is c more =
    let l : IsClosed d (closing.Last w) = subst (λ y. IsClosed d y) is c in
    two_open d.world.views n more (sym (ap (λ (y : Driven). y.world.views) l.0) ∙ l.1)

pub is_last : (d : Driven) (x : Closing) (w : Driven) → x ≡ closing.Last w → IsClosed d x → IsClosed d (closing.Last w)
is_last d x w is c = subst (λ y. IsClosed d y) is c

pub is_under : (d : Driven) (x : Closing) (g : Driven) → x ≡ closing.Under g → IsClosed d x → IsClosed d (closing.Under g)
is_under d x g is c = subst (λ y. IsClosed d y) is c

-- as many are open as before
pub stays_open : (old new : Sets) (w w1 gd : Driven) → driver w.program (viewed (sets_of old) w.world) ≡ gd → new.outer ≡ old.outer → w1.world.clock.rest ≤ w.world.clock.rest → StaysOpen gd.world (viewed (sets_of new) w1.world)
stays_open old new w w1 gd is same spent = subst (λ (d : Driven). StaysOpen d.world (viewed (sets_of new) w1.world)) is (record {
  sets =
      length-map (sets_of new) (living w1.world.memory)
      ∙ ap (λ sets. suc (length (reverse sets))) same
      ∙ sym (length-map (sets_of old) (living w.world.memory));
  spent = spent;
})

-- ---- neighbours that are in the set

-- those that are left decide
pub record AllLeft (set : List Cell) (serial first count i : ℕ) : Type 0 where
  pub few : i ≤ count
  pub rest : list_all (is_in cells set) (cells_from serial (first + i) (count - i)) ≡ list_all (is_in cells set) (cells_from serial first count)

module _ (set : List Cell) (serial first : ℕ) where
  pub all_begin : (count : ℕ) → AllLeft set serial first count 0
  all_begin count = record {
    few = omega arith;
    rest =
        let f : first + 0 ≡ first = omega arith in
        let n : count - 0 ≡ count = omega arith in
        ap (λ x. list_all (is_in cells set) (cells_from serial x (count - 0))) f ∙ ap (λ x. list_all (is_in cells set) (cells_from serial first x)) n;
  }

  -- the first of those that are left, and the others
  one_more : (count i : ℕ) → i < count → list_all (is_in cells set) (cells_from serial (first + i) (count - i)) ≡ (is_in cells set (record { serial = serial; index = first + i }) && list_all (is_in cells set) (cells_from serial (first + (i + 1)) (count - (i + 1))))
  unfolding cells_from
  one_more count i less =
      let n : count - i ≡ suc (count - (i + 1)) = omega (arith, less) in
      let k : suc (first + i) ≡ first + (i + 1) = omega arith in
      ap (λ x. list_all (is_in cells set) (cells_from serial (first + i) x)) n
      ∙ ap (λ x. is_in cells set (record { serial = serial; index = first + i }) && list_all (is_in cells set) (cells_from serial x (count - (i + 1)))) k

  pub all_more : (count i : ℕ) → i < count → is_in cells set (record { serial = serial; index = first + i }) ≡ true → AllLeft set serial first count i → AllLeft set serial first count (i + 1)
  all_more count i less here left = record {
    few = omega (arith, less);
    rest = sym (one_more count i less ∙ ap (λ b. b && list_all (is_in cells set) (cells_from serial (first + (i + 1)) (count - (i + 1)))) here) ∙ left.rest;
  }

  pub all_out : (count i : ℕ) → i < count → is_in cells set (record { serial = serial; index = first + i }) ≡ false → AllLeft set serial first count i → false ≡ list_all (is_in cells set) (cells_from serial first count)
  all_out count i less here left = sym (one_more count i less ∙ ap (λ b. b && list_all (is_in cells set) (cells_from serial (first + (i + 1)) (count - (i + 1)))) here) ∙ left.rest

  pub all_end : (count i : ℕ) → count ≤ i → AllLeft set serial first count i → true ≡ list_all (is_in cells set) (cells_from serial first count)
  unfolding cells_from
  all_end count i past left =
      let n : count - i ≡ 0 = omega (arith, past) in
      sym (ap (λ x. list_all (is_in cells set) (cells_from serial (first + i) x)) n) ∙ left.rest
