-- What births, deaths and stores do to the copy and to the memory behind the pairs.
use Rattle.std.proofs.Common.{◌≡◌, ℕ, Bool, true, false, cond, List, [], ◌∷◌, ◌++◌, map, Option, Some, None, refl, sym, ◌∙◌, ap, subst, arith}
use Rattle.std.specs.Prelude.{◌==◌, is_some, option_map, slice_get}
use Rattle.std.proofs.lemmas.Bool.{eqb-true, eq-eqb}
use Rattle.mdr_core.specs.declared.types.Shape.{Shape}
use Rattle.mdr_core.specs.declared.value.Block.{Block}
use Rattle.mdr_core.specs.declared.value.Value.{Value}
use Rattle.mdr_core.specs.declared.value.Value.TheVariants as value
use Rattle.mdr_meaning.specs.declared.wire.Wire.{Wire}
use Rattle.mdr_meaning.specs.Values.{wire_of}
use Rattle.mdr_model.specs.declared.memory.Cell.{Cell}
use Rattle.mdr_model.specs.declared.memory.MemoryBlock.{MemoryBlock}
use Rattle.mdr_model.specs.declared.message.New.{New}
use Rattle.mdr_model.specs.Agreement.{names_it}
use Rattle.mdr_model.specs.Copies.{inserted}
use Rattle.mdr_model.specs.Memory.{Memory, born_at, cell_at, is_live, killed, normal, put, swept}
use Rattle.mdr_model.specs.Sets.{is_same_cell}
use Rattle.mdr_model.specs.Values.{names_block}
use Rattle.mdr_model.proofs.LifeLaws.{born_at-inserted, born_at-killed, cell_at-inserted, cell_at-killed, get-map}
use Rattle.mdr_model.proofs.MemoryLaws.{born_at-put, cell_at-put, replaced}
use Rattle.mdr_mem.specs.Contents.{Contents, IsInOrder, after_birth, after_death, after_store, births_in, cell_in, current, handle_of, is_handle, kind_of, new_block, shape_of, wire_in}
use Rattle.mdr_mem.proofs.HandleLaws.{is_handle-append, is_handle-left}
use Rattle.mdr_track.specs.Pairs.{Pairs, dropped, is_block, paired, unpaired, unpaired_at}
use Rattle.mdr_track.specs.Pointers.{addressed}
use Rattle.mdr_track.proofs.PairLaws.{matched-dropped, matched-paired, there}
use Rattle.mdr_user_memory.specs.Paired.{IsLinked, IsTwin, Paired, born_in, held_in, told, value_in}
use Rattle.mdr_user_memory.specs.Taking.{Moves}
use Rattle.mdr_user_memory.proofs.HandleLaws.{born_at-append, cell_at-append}
use Rattle.mdr_user_memory.proofs.ValueLaws.{swept_told, told_addressed, told_born, told_died}

-- only births and cells are looked at
pub paired-same : {m m' : Memory} {r : Contents} {ps : Pairs} → ((s : ℕ) → born_at m' s ≡ born_at m s) → ((c : Cell) → cell_at m' c ≡ cell_at m c) → Paired m r ps → Paired m' r ps
unfolding is_live
paired-same born same p = record {
  twin = record {
    linked = p.twin.linked;
    live = λ s. ap (λ o. is_some o) (born s) ∙ p.twin.live s;
    shape = λ s. ap (λ o. shape_of o) (born s) ∙ p.twin.shape s;
    kind = λ s. ap (λ o. kind_of o) (born s) ∙ p.twin.kind s;
  };
  cells = λ c. same c ∙ p.cells c;
}

-- ---- blocks that are paired

-- a serial's block lives
pub pair_alive : {r : Contents} {ps : Pairs} (s : ℕ) (b : Block) → IsLinked r ps → ps.user_of s ≡ Some b → is_handle r.handles b ≡ true
pair_alive {r} {ps} s b l e = l.only b ∙ ap is_some (there ps s b l.matched e)

pub pair_found : {r : Contents} {ps : Pairs} (s : ℕ) (b : Block) → IsLinked r ps → ps.user_of s ≡ Some b → handle_of r.handles b.serial ≡ Some b
pair_found s b l e = l.order.one b (pair_alive s b l e)

pub pair_live : {r : Contents} {ps : Pairs} (s : ℕ) (b : Block) → IsLinked r ps → ps.user_of s ≡ Some b → is_live r.memory b.serial ≡ true
pair_live s b l e = l.order.handled b.serial ∙ ap is_some (pair_found s b l e)

-- two serials have blocks of two serials
pub pair_apart : {r : Contents} {ps : Pairs} (s t : ℕ) (a b : Block) → IsLinked r ps → ps.user_of s ≡ Some a → ps.user_of t ≡ Some b → a.serial ≡ b.serial → s ≡ t
pair_apart {r} {ps} s t a b l e f same =
    let both : ◌≡◌ {A = Option Block} (Some a) (Some b) = sym (pair_found s a l e) ∙ (ap (λ n. handle_of r.handles n) same ∙ pair_found t b l f) in
    serial (sym (there ps s a l.matched e) ∙ (ap ps.serial_of (block both) ∙ there ps t b l.matched f))
  where
    block : ◌≡◌ {A = Option Block} (Some a) (Some b) → a ≡ b
    block k = cc

    serial : ◌≡◌ {A = Option ℕ} (Some s) (Some t) → s ≡ t
    serial k = cc

-- the next serial has no block yet
pub next_new : {r : Contents} (n : ℕ) → IsInOrder r → n ≡ births_in r.lives → is_live r.memory n ≡ false
next_new {r} n o e = of (is_live r.memory n) refl
  where
    of : (q : Bool) → is_live r.memory n ≡ q → q ≡ false
    of true h = absurd (omega (arith, o.below n h, e))
    of false h = refl

pub next_free : {r : Contents} {ps : Pairs} (b : Block) → IsLinked r ps → b.serial ≡ births_in r.lives → ps.serial_of b ≡ None
next_free {r} {ps} b l e = of (ps.serial_of b) refl
  where
    never : (s : ℕ) → ps.serial_of b ≡ Some s → is_live r.memory b.serial ≡ true
    never s f = l.order.handled b.serial ∙ ap is_some (l.order.one b (l.only b ∙ ap is_some f))

    of : (o : Option ℕ) → ps.serial_of b ≡ o → o ≡ None
    of None f = refl
    of (Some s) f = absurd (grind (arith, never s f, next_new b.serial l.order e))

-- ---- a birth

module _ (r : Contents) (ps : Pairs) (b : Block) (l : IsLinked r ps) (next : b.serial ≡ births_in r.lives) where
  -- no cell names the next block
  cell_other : (c : Cell) → names_it b.serial (cell_at r.memory c) ≡ false
  cell_other c = of (names_it b.serial (cell_at r.memory c)) refl
    where
      of : (q : Bool) → names_it b.serial (cell_at r.memory c) ≡ q → q ≡ false
      of true h = absurd (grind (arith, l.order.normal c b.serial h, next_new b.serial l.order next))
      of false h = refl

  -- and no value that is put into one
  value_other : (v : Value) → names_block b.serial (wire_in r.handles v) ≡ false
  unfolding current
  value_other (value.Ptr p) = of (is_handle r.handles p.block) refl
    where
      lives : is_handle r.handles p.block ≡ true → is_live r.memory p.block.serial ≡ true
      lives h = l.order.handled p.block.serial ∙ ap is_some (l.order.one p.block h)

      of : (q : Bool) → is_handle r.handles p.block ≡ q → names_block b.serial (wire_of (cond q (value.Ptr p) value.Dead)) ≡ false
      of true h = grind (arith, l.order.below p.block.serial (lives h), next, eqb-true p.block.serial b.serial)
      of false h = refl
  value_other (value.Int k n) = refl
  value_other value.Null = refl
  value_other value.Dead = refl
  value_other (value.Fn f) = refl
  value_other (value.Lock s) = refl
  value_other value.NoValue = refl

  told_cell : (s : ℕ) (o : Option Wire) → names_it b.serial o ≡ false → option_map (told (r.handles ++ b ∷ []) (paired s b ps)) o ≡ option_map (told r.handles ps) o
  unfolding names_it
  told_cell s None h = refl
  told_cell s (Some w) h = ap Some (told_born r.handles ps s b w h)

  told_first : (s : ℕ) (first : List Value) → map (told (r.handles ++ b ∷ []) (paired s b ps)) (map (wire_in r.handles) first) ≡ map (told r.handles ps) (map (wire_in r.handles) first)
  told_first s [] = refl
  told_first s (v ∷ vs) = λ i. told_born r.handles ps s b (wire_in r.handles v) (value_other v) i ∷ told_first s vs i

abbrev pub shape_in : New → Shape
shape_in n = record { ty = n.ty; count = n.count }

module _ (added : MemoryBlock) (first : List Value) (b : Block) (r : Contents) (ps : Pairs) where
  abbrev pub behind : Contents
  behind = after_birth added.born.kind (shape_in added.born) first b r

  abbrev pub with_pair : Pairs
  with_pair = paired added.born.serial b ps

  abbrev own : MemoryBlock
  own = new_block added.born.kind (shape_in added.born) first b r.handles

  module _ (order : IsInOrder behind) (next : b.serial ≡ births_in r.lives) (new : ps.user_of added.born.serial ≡ None) where
    pub linked-born : IsLinked r ps → IsLinked behind with_pair
    linked-born l = record {
      order = order;
      matched = matched-paired ps added.born.serial b l.matched new (next_free b l next);
      only = λ c. grind (arith, is_handle-append r.handles b c, l.only c);
    }

    module _ (m : Memory) (p : Paired m r ps) where
      abbrev link : IsLinked r ps
      link = p.twin.linked

      absent : is_live r.memory b.serial ≡ false
      absent = next_new b.serial link.order next

      -- a paired block isn't the new one
      older : (s : ℕ) (a : Block) → ps.user_of s ≡ Some a → (b.serial == a.serial) ≡ false
      older s a e = grind (arith, link.order.below a.serial (pair_live s a link e), next, eqb-true b.serial a.serial)

      shapes : (s : ℕ) (q : Bool) → (added.born.serial == s) ≡ q → (o : Option Block) → ps.user_of s ≡ o
          → shape_of (born_at (inserted added m) s) ≡ shape_of (born_in behind (cond q (Some b) o))
      shapes s true e o f = grind (arith, born_at-inserted added m s, born_at-append r.memory own b.serial absent, eq-eqb b.serial b.serial refl)
      shapes s false e None f = grind (arith, born_at-inserted added m s, p.twin.shape s)
      shapes s false e (Some a) f = grind (arith, born_at-inserted added m s, p.twin.shape s, born_at-append r.memory own a.serial absent, older s a f)

      kinds : (s : ℕ) (q : Bool) → (added.born.serial == s) ≡ q → (o : Option Block) → ps.user_of s ≡ o
          → kind_of (born_at (inserted added m) s) ≡ kind_of (born_in behind (cond q (Some b) o))
      kinds s true e o f = grind (arith, born_at-inserted added m s, born_at-append r.memory own b.serial absent, eq-eqb b.serial b.serial refl)
      kinds s false e None f = grind (arith, born_at-inserted added m s, p.twin.kind s)
      kinds s false e (Some a) f = grind (arith, born_at-inserted added m s, p.twin.kind s, born_at-append r.memory own a.serial absent, older s a f)

      twin-born : IsTwin (inserted added m) behind with_pair
      unfolding is_live
      twin-born = record {
        linked = linked-born link;
        live = λ s. grind (arith, born_at-inserted added m s, p.twin.live s);
        shape = λ s. shapes s (added.born.serial == s) refl (ps.user_of s) refl;
        kind = λ s. kinds s (added.born.serial == s) refl (ps.user_of s) refl;
      }

      module _ (same : map (told r.handles ps) (map (wire_in r.handles) first) ≡ added.cells) where
        new_cell : (i : ℕ) → option_map (told behind.handles with_pair) (slice_get own.cells i) ≡ slice_get added.cells i
        new_cell i =
            sym (get-map (told behind.handles with_pair) own.cells i)
            ∙ ap (λ ws. slice_get ws i) (told_first r ps b link next added.born.serial first ∙ same)

        at : (c : Cell) (q : Bool) → (added.born.serial == c.serial) ≡ q → (o : Option Block) → ps.user_of c.serial ≡ o
            → cell_at (inserted added m) c ≡ option_map (told behind.handles with_pair) (value_in behind (cond q (Some b) o) c.index)
        at c true e o f =
            cell_at-inserted added m c
            ∙ (ap (λ q. cond q (slice_get added.cells c.index) (cell_at m c)) e
            ∙ (sym (new_cell c.index)
            ∙ ap (λ x. option_map (told behind.handles with_pair) x) (sym (cell_at-append r.memory own (cell_in b c.index) absent ∙ ap (λ q. cond q (slice_get own.cells c.index) (cell_at r.memory (cell_in b c.index))) (eq-eqb b.serial b.serial refl)))))
        at c false e None f =
            cell_at-inserted added m c
            ∙ (ap (λ q. cond q (slice_get added.cells c.index) (cell_at m c)) e
            ∙ (p.cells c ∙ ap (λ o. option_map (told r.handles ps) (value_in r o c.index)) f))
        at c false e (Some a) f =
            cell_at-inserted added m c
            ∙ (ap (λ q. cond q (slice_get added.cells c.index) (cell_at m c)) e
            ∙ (p.cells c
            ∙ (ap (λ o. option_map (told r.handles ps) (value_in r o c.index)) f
            ∙ (sym (told_cell r ps b link next added.born.serial (cell_at r.memory (cell_in a c.index)) (cell_other r ps b link next (cell_in a c.index)))
            ∙ ap (λ x. option_map (told behind.handles with_pair) x) (sym (cell_at-append r.memory own (cell_in a c.index) absent ∙ ap (λ q. cond q (slice_get own.cells c.index) (cell_at r.memory (cell_in a c.index))) (older c.serial a f)))))))

        pub paired-born : Paired (inserted added m) behind with_pair
        paired-born = record {
          twin = twin-born;
          cells = λ c. at c (added.born.serial == c.serial) refl (ps.user_of c.serial) refl;
        }

-- ---- a death

module _ (s : ℕ) (b : Block) (r : Contents) (ps : Pairs) (order : IsInOrder (after_death b.serial r)) (e : ps.user_of s ≡ Some b) (linked : IsLinked r ps) where
  abbrev after : Contents
  after = after_death b.serial r

  gone : (c : Block) → is_handle (after_death b.serial r).handles c ≡ is_some ((dropped s b ps).serial_of c)
  gone c = of (is_block b c) refl (is_handle r.handles c) refl
    where
      of : (q : Bool) → is_block b c ≡ q → (h : Bool) → is_handle r.handles c ≡ h → is_handle (after_death b.serial r).handles c ≡ is_some (cond q None (ps.serial_of c))
      of true k h f = grind (arith, is_handle-left b.serial r.handles c, eqb-true b.slot c.slot, eqb-true b.serial c.serial, eq-eqb c.serial b.serial)
      of false k true f = grind (arith, is_handle-left b.serial r.handles c, linked.only c, apart k f)
        where
          block : ◌≡◌ {A = Option Block} (Some c) (Some b) → c ≡ b
          block j = cc

          apart : is_block b c ≡ false → is_handle r.handles c ≡ true → (c.serial == b.serial) ≡ false
          apart k f = under (c.serial == b.serial) refl
            where
              same : (c.serial == b.serial) ≡ true → c ≡ b
              same j = block (sym (linked.order.one c f) ∙ (ap (λ n. handle_of r.handles n) (eqb-true c.serial b.serial j) ∙ pair_found s b linked e))

              under : (q : Bool) → (c.serial == b.serial) ≡ q → q ≡ false
              under true j = absurd (grind (arith, k, ap (λ (x : Block). x.slot) (same j), ap (λ (x : Block). x.serial) (same j), eq-eqb b.slot c.slot, eq-eqb b.serial c.serial))
              under false j = refl
      of false k false f = grind (arith, is_handle-left b.serial r.handles c, linked.only c)

  pub linked-died : IsLinked after (dropped s b ps)
  linked-died = record { order = order; matched = matched-dropped ps s b linked.matched e; only = gone }

  -- another serial's block is another
  others : (t : ℕ) (a : Block) → (s == t) ≡ false → ps.user_of t ≡ Some a → (b.serial == a.serial) ≡ false
  others t a k f = of (b.serial == a.serial) refl
    where
      of : (q : Bool) → (b.serial == a.serial) ≡ q → q ≡ false
      of true j = absurd (grind (arith, k, eq-eqb s t (pair_apart s t b a linked e f (eqb-true b.serial a.serial j))))
      of false j = refl

  module _ (m : Memory) (p : Paired m r ps) where
    shapes-died : (t : ℕ) (q : Bool) → (s == t) ≡ q → (o : Option Block) → ps.user_of t ≡ o → shape_of (born_at (killed s m) t) ≡ shape_of (born_in after (cond q None o))
    shapes-died t true k o f = grind (arith, born_at-killed s m t)
    shapes-died t false k None f = grind (arith, born_at-killed s m t, p.twin.shape t)
    shapes-died t false k (Some a) f = grind (arith, born_at-killed s m t, p.twin.shape t, born_at-killed b.serial r.memory a.serial, others t a k f)

    kinds-died : (t : ℕ) (q : Bool) → (s == t) ≡ q → (o : Option Block) → ps.user_of t ≡ o → kind_of (born_at (killed s m) t) ≡ kind_of (born_in after (cond q None o))
    kinds-died t true k o f = grind (arith, born_at-killed s m t)
    kinds-died t false k None f = grind (arith, born_at-killed s m t, p.twin.kind t)
    kinds-died t false k (Some a) f = grind (arith, born_at-killed s m t, p.twin.kind t, born_at-killed b.serial r.memory a.serial, others t a k f)

    twin-died : IsTwin (killed s m) after (dropped s b ps)
    unfolding is_live
    twin-died = record {
      linked = linked-died;
      live = λ t. grind (arith, born_at-killed s m t, p.twin.live t);
      shape = λ t. shapes-died t (s == t) refl (ps.user_of t) refl;
      kind = λ t. kinds-died t (s == t) refl (ps.user_of t) refl;
    }

    cell-died : (o : Option Wire) → option_map (told after.handles (dropped s b ps)) (option_map (swept b.serial) o) ≡ option_map (swept s) (option_map (told r.handles ps) o)
    cell-died None = refl
    cell-died (Some w) = ap Some (told_died ps s b linked.matched e r.handles w (pair_found s b linked e))

    at-died : (c : Cell) (q : Bool) → (s == c.serial) ≡ q → (o : Option Block) → ps.user_of c.serial ≡ o
        → cell_at (killed s m) c ≡ option_map (told after.handles (dropped s b ps)) (value_in after (cond q None o) c.index)
    at-died c true k o f = cell_at-killed s m c ∙ ap (λ q. cond q None (option_map (swept s) (cell_at m c))) k
    at-died c false k None f =
        cell_at-killed s m c
        ∙ (ap (λ q. cond q None (option_map (swept s) (cell_at m c))) k
        ∙ ap (λ o. option_map (swept s) o) (p.cells c ∙ ap (λ o. option_map (told r.handles ps) (value_in r o c.index)) f))
    at-died c false k (Some a) f =
        cell_at-killed s m c
        ∙ (ap (λ q. cond q None (option_map (swept s) (cell_at m c))) k
        ∙ (ap (λ o. option_map (swept s) o) (p.cells c ∙ ap (λ o. option_map (told r.handles ps) (value_in r o c.index)) f)
        ∙ (sym (cell-died (cell_at r.memory (cell_in a c.index)))
        ∙ ap (λ x. option_map (told after.handles (dropped s b ps)) x) (sym (cell_at-killed b.serial r.memory (cell_in a c.index) ∙ ap (λ q. cond q None (option_map (swept b.serial) (cell_at r.memory (cell_in a c.index)))) (others c.serial a k f))))))

    pub paired-died : Paired (killed s m) (after_death b.serial r) (dropped s b ps)
    paired-died = record { twin = twin-died; cells = λ c. at-died c (s == c.serial) refl (ps.user_of c.serial) refl }

-- a death of what isn't there changes neither
pub paired-stale : {m : Memory} {r : Contents} {ps : Pairs} (s : ℕ) → Paired m r ps → ps.user_of s ≡ None → Paired (killed s m) r ps
unfolding is_live
paired-stale {m} {r} {ps} s p e = record {
  twin = record {
    linked = p.twin.linked;
    live = λ u. grind (arith, born_at-killed s m u, p.twin.live u, eqb-true s u);
    shape = λ u. grind (arith, born_at-killed s m u, p.twin.shape u, eqb-true s u);
    kind = λ u. grind (arith, born_at-killed s m u, p.twin.kind u, eqb-true s u);
  };
  cells = λ c. of c (ps.user_of c.serial) refl;
}
  where
    same : (o : Option Wire) → option_map (swept s) (option_map (told r.handles ps) o) ≡ option_map (told r.handles ps) o
    same None = refl
    same (Some w) = ap Some (swept_told r.handles ps s w p.twin.linked.matched e)

    of : (c : Cell) (o : Option Block) → ps.user_of c.serial ≡ o → cell_at (killed s m) c ≡ held_in r ps c
    of c None h = grind (arith, cell_at-killed s m c, p.cells c)
    of c (Some b) h = grind (arith, cell_at-killed s m c, p.cells c, eqb-true s c.serial, same (cell_at r.memory (cell_in b c.index)))

-- ---- a store

module _ (c : Cell) (b : Block) (x : Value) (v : Wire) (r : Contents) (ps : Pairs) (order : IsInOrder (after_store b c.index x r)) (e : ps.user_of c.serial ≡ Some b) (says : told r.handles ps (wire_in r.handles x) ≡ v) (m : Memory) (p : Paired m r ps) where
  abbrev written : Contents
  written = after_store b c.index x r

  linked-stored : IsLinked written ps
  linked-stored = record { order = order; matched = p.twin.linked.matched; only = p.twin.linked.only }

  shapes-stored : (s : ℕ) (o : Option Block) → ps.user_of s ≡ o → shape_of (born_at (put m c v) s) ≡ shape_of (born_in written o)
  shapes-stored s None h = grind (arith, born_at-put m c v s, p.twin.shape s)
  shapes-stored s (Some a) h = grind (arith, born_at-put m c v s, p.twin.shape s, born_at-put r.memory (cell_in b c.index) (wire_in r.handles x) a.serial)

  kinds-stored : (s : ℕ) (o : Option Block) → ps.user_of s ≡ o → kind_of (born_at (put m c v) s) ≡ kind_of (born_in written o)
  kinds-stored s None h = grind (arith, born_at-put m c v s, p.twin.kind s)
  kinds-stored s (Some a) h = grind (arith, born_at-put m c v s, p.twin.kind s, born_at-put r.memory (cell_in b c.index) (wire_in r.handles x) a.serial)

  twin-stored : IsTwin (put m c v) written ps
  unfolding is_live
  twin-stored = record {
    linked = linked-stored;
    live = λ s. grind (arith, born_at-put m c v s, p.twin.live s);
    shape = λ s. shapes-stored s (ps.user_of s) refl;
    kind = λ s. kinds-stored s (ps.user_of s) refl;
  }

  told_put : (q : Bool) (o : Option Wire) → option_map (told r.handles ps) (cond q (replaced o (wire_in r.handles x)) o) ≡ cond q (replaced (option_map (told r.handles ps) o) v) (option_map (told r.handles ps) o)
  told_put true None = refl
  told_put true (Some y) = ap Some says
  told_put false o = refl

  -- the cell that is stored is the one with the serial's block
  same_place : (d : Cell) (a : Block) → ps.user_of d.serial ≡ Some a → is_same_cell (cell_in a d.index) (cell_in b c.index) ≡ is_same_cell d c
  same_place d a h = grind (arith, eqb-true a.serial b.serial, eq-eqb a.serial b.serial, eqb-true d.serial c.serial, eq-eqb d.serial c.serial, pair_apart d.serial c.serial a b p.twin.linked h e, one d a h)
    where
      block : (o o' : Option Block) → o ≡ Some a → o' ≡ Some b → o ≡ o' → a.serial ≡ b.serial
      block o o' f g k = under (sym f ∙ (k ∙ g))
        where
          under : ◌≡◌ {A = Option Block} (Some a) (Some b) → a.serial ≡ b.serial
          under j = cc

      one : (d : Cell) (a : Block) → ps.user_of d.serial ≡ Some a → d.serial ≡ c.serial → a.serial ≡ b.serial
      one d a h k = under (sym h ∙ (ap ps.user_of k ∙ e))
        where
          under : ◌≡◌ {A = Option Block} (Some a) (Some b) → a.serial ≡ b.serial
          under j = cc

  at-stored : (d : Cell) (o : Option Block) → ps.user_of d.serial ≡ o → cell_at (put m c v) d ≡ option_map (told r.handles ps) (value_in written o d.index)
  at-stored d None h =
      cell_at-put m c v d
      ∙ (ap (λ o. cond (is_same_cell d c) (replaced o v) o) (p.cells d ∙ ap (λ o. option_map (told r.handles ps) (value_in r o d.index)) h) ∙ both (is_same_cell d c))
    where
      both : (q : Bool) → ◌≡◌ {A = Option Wire} (cond q None None) None
      both true = refl
      both false = refl
  at-stored d (Some a) h =
      cell_at-put m c v d
      ∙ (ap (λ o. cond (is_same_cell d c) (replaced o v) o) (p.cells d ∙ ap (λ o. option_map (told r.handles ps) (value_in r o d.index)) h)
      ∙ (sym (told_put (is_same_cell d c) (cell_at r.memory (cell_in a d.index)))
      ∙ ap (λ o. option_map (told r.handles ps) o)
      (sym (cell_at-put r.memory (cell_in b c.index) (wire_in r.handles x) (cell_in a d.index)
      ∙ ap (λ q. cond q (replaced (cell_at r.memory (cell_in a d.index)) (wire_in r.handles x)) (cell_at r.memory (cell_in a d.index))) (same_place d a h)))))

  pub paired-stored : Paired (put m c v) (after_store b c.index x r) ps
  paired-stored = record { twin = twin-stored; cells = λ d. at-stored d (ps.user_of d.serial) refl }

-- where no block is, neither changes
pub paired-nothing : {m : Memory} {r : Contents} {ps : Pairs} (c : Cell) (v : Wire) → Paired m r ps → ps.user_of c.serial ≡ None → Paired (put m c v) r ps
unfolding is_live
paired-nothing {m} {r} {ps} c v p e = record {
  twin = record {
    linked = p.twin.linked;
    live = λ s. grind (arith, born_at-put m c v s, p.twin.live s);
    shape = λ s. grind (arith, born_at-put m c v s, p.twin.shape s);
    kind = λ s. grind (arith, born_at-put m c v s, p.twin.kind s);
  };
  cells = λ d. of d (ps.user_of d.serial) refl;
}
  where
    of : (d : Cell) (o : Option Block) → ps.user_of d.serial ≡ o → cell_at (put m c v) d ≡ held_in r ps d
    of d None h = grind (arith, cell_at-put m c v d, p.cells d)
    of d (Some b) h = grind (arith, cell_at-put m c v d, p.cells d, eqb-true d.serial c.serial)

-- ---- steps of code

pub moves_death : (s : ℕ) (b : Block) (r : Contents) (ps : Pairs) → IsInOrder (after_death b.serial r) → ps.user_of s ≡ Some b → Moves (λ m. killed s m) r ps (after_death b.serial r) (unpaired s ps)
moves_death s b r ps order e m p = subst (λ o. Paired (killed s m) (after_death b.serial r) (unpaired_at o s ps)) (sym e) (paired-died s b r ps order e p.twin.linked m p)

pub moves_stale : (s : ℕ) (r : Contents) (ps : Pairs) → ps.user_of s ≡ None → Moves (λ m. killed s m) r ps r ps
moves_stale s r ps e m p = paired-stale s p e

pub moves_store : (c : Cell) (b : Block) (v : Value) (r : Contents) (ps : Pairs) → IsInOrder (after_store b c.index (addressed ps v) r) → ps.user_of c.serial ≡ Some b
    → Moves (λ m. put m c (normal m (wire_of v))) r ps (after_store b c.index (addressed ps v) r) ps
moves_store c b v r ps order e m p =
    let l = p.twin.linked in
    paired-stored c b (addressed ps v) (normal m (wire_of v)) r ps order e (told_addressed r.handles ps l.matched l.only l.order.one m v p.twin.live) m p

pub moves_nothing : (c : Cell) (v : Value) (r : Contents) (ps : Pairs) → ps.user_of c.serial ≡ None → Moves (λ m. put m c (normal m (wire_of v))) r ps r ps
moves_nothing c v r ps e m p = paired-nothing c (normal m (wire_of v)) p e
