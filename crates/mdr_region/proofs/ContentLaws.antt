-- What a region's contents are after a birth, a store and a death.
use Rattle.std.proofs.Common.{◌≡◌, ◌≢◌, ◌+◌, ℕ, true, List, [], ◌∷◌, ◌++◌, map, length, take, Some, None, refl, sym, ◌∙◌, ap, subst}
use Rattle.std.proofs.lemmas.List.{length-map}
use Rattle.mdr_core.specs.declared.value.Block.{Block}
use Rattle.mdr_core.specs.declared.value.Value.{Value}
use Rattle.mdr_meaning.specs.Values.{wire_of}
use Rattle.mdr_model.specs.Memory.{put}
use Rattle.mdr_mem.specs.declared.cells.Life.{Life}
use Rattle.mdr_mem.specs.declared.cells.Life.TheVariants as life
use Rattle.mdr_mem.specs.Contents.{Contents, is_handle, left_of, current, wire_in, cell_in, with_block, after_death, after_store}
use Rattle.mdr_mem.specs.Rows.{blocks_of, AreOld}
use Rattle.mdr_mem.proofs.HandleLaws.{current-twice, currents-old, current-old, wires-current}
use Rattle.mdr_mem.proofs.RowLaws.{blocks-stored}
use Rattle.mdr_mem.proofs.SoundLaws.{same_contents, blocks-added, blocks-died}
use Rattle.mdr_region.specs.declared.slots.Row.{Row}
use Rattle.mdr_region.specs.Layout.{laid}
use Rattle.mdr_region.specs.Blocks.{IsBlock, AreBelow}
use Rattle.mdr_region.specs.Cells.{cells_of, written, put_cell}
use Rattle.mdr_region.specs.Slots.{RowSlots, row_in, held_slots}
use Rattle.mdr_region.specs.RowsView.{AreKept}
use Rattle.mdr_region.proofs.RegionLaws.{no-held, row-held, born-there, born-others, kept-born, stored-there, stored-others, kept-stored, died-there, died-others}

abbrev contents : List Block → RowSlots → List Value → List Life → Contents
contents hs slots values lives = record { handles = hs; memory = blocks_of hs (held_slots values slots) hs; lives = lives }

-- ---- a birth

module _ (hs : List Block) (slots slots' : RowSlots) (values : List Value) (lives : List Life) (births : ℕ) (k : AreKept hs slots values lives births)
    (fresh : AreBelow births (laid lives).marks) (next : births ≡ (laid lives).births) (high : length values ≡ length (laid lives).marks)
    (b : Block) (r : Row) (first : List Value)
    (new : b.serial ≡ births) (born : r.born.serial ≡ b.serial) (size : r.cells ≡ length first)
    (vacant : row_in slots b.slot ≡ None) (there : row_in slots' b.slot ≡ Some r) (others : (slot : ℕ) → slot ≢ b.slot → row_in slots' slot ≡ row_in slots slot)
    (lies : IsBlock (laid (lives ++ life.Birth (length first) ∷ [])).marks births r.start (length first))
  where
    firsts : List Value
    firsts = map (current hs) first

    long : length (map (current hs) first) ≡ length first
    long = length-map first (current hs)

    lies' : IsBlock (laid (lives ++ life.Birth (length (map (current hs) first)) ∷ [])).marks births r.start (length (map (current hs) first))
    lies' = subst (λ n. IsBlock (laid (lives ++ life.Birth n ∷ [])).marks births r.start n) (sym long) lies

    old : AreOld births (map (current hs) first)
    old = currents-old hs births k.memory.below first

    pub region-born : AreKept (hs ++ b ∷ []) slots' (written r.start (map (current hs) first) values) (lives ++ life.Birth (length first) ∷ []) (births + 1)
    region-born = subst (λ n. AreKept (hs ++ b ∷ []) slots' (written r.start (map (current hs) first) values) (lives ++ life.Birth n ∷ []) (births + 1)) long
        (kept-born hs slots slots' values lives births k fresh next high b r (map (current hs) first) new born (size ∙ sym long) vacant there others lies' old)

    pub contents-born : contents (hs ++ b ∷ []) slots' (written r.start (map (current hs) first) values) (lives ++ life.Birth (length first) ∷ [])
        ≡ with_block b (record { born = r.born; cells = map (wire_in hs) first }) (length first) (contents hs slots values lives)
    contents-born = same_contents refl
        (blocks-added hs (held_slots values slots) (held_slots (written r.start (map (current hs) first) values) slots') lives births (length lives + length hs) k.memory b (record { born = r.born; cells = map (current hs) first }) new
        (no-held hs slots values lives births k b.slot vacant)
        (born-there hs slots slots' values lives births k fresh next high b r (map (current hs) first) new born (size ∙ sym long) vacant there others lies')
        (born-others hs slots slots' values lives births k fresh next high b r (map (current hs) first) new born (size ∙ sym long) vacant there others lies') old
        ∙ ap (λ ws. blocks_of hs (held_slots values slots) hs ++ record { born = r.born; cells = ws } ∷ []) (wires-current hs first))
        refl

-- ---- a store

module _ (hs : List Block) (slots : RowSlots) (values : List Value) (lives : List Life) (births : ℕ) (k : AreKept hs slots values lives births)
    (b : Block) (alive : is_handle hs b ≡ true) (r : Row) (was : row_in slots b.slot ≡ Some r) (index : ℕ) (v : Value)
  where
    pub region-stored : AreKept hs slots (put_cell r.start r.cells index (current hs v) values) lives births
    region-stored = kept-stored hs slots values lives births k b alive r was index (current hs v) (current-old hs births k.memory.below v)

    pub contents-stored : contents hs slots (put_cell r.start r.cells index (current hs v) values) lives ≡ after_store b index v (contents hs slots values lives)
    contents-stored = same_contents refl
        (blocks-stored hs (held_slots values slots) (held_slots (put_cell r.start r.cells index (current hs v) values) slots) hs b (record { born = r.born; cells = cells_of r.start r.cells values }) index (current hs v)
        k.memory.rise (λ h j. sym (k.memory.held h) ∙ j) alive (row-held hs slots values lives births k b.slot r was)
        (stored-there hs slots values lives births k b alive r was index (current hs v)) (stored-others hs slots values lives births k b alive r was index (current hs v))
        ∙ ap (λ w. put (blocks_of hs (held_slots values slots) hs) (cell_in b index) (wire_of w)) (current-twice hs v))
        refl

-- ---- a death

module _ (hs : List Block) (slots slots' : RowSlots) (values : List Value) (lives : List Life) (births top : ℕ) (k : AreKept hs slots values lives births)
    (b : Block) (alive : is_handle hs b ≡ true)
    (gone : row_in slots' b.slot ≡ None) (others : (slot : ℕ) → slot ≢ b.slot → row_in slots' slot ≡ row_in slots slot)
    (height : top ≡ length (laid (lives ++ life.Death b.serial ∷ [])).marks)
  where
    pub contents-died : contents (left_of b.serial hs) slots' (take top values) (lives ++ life.Death b.serial ∷ []) ≡ after_death b.serial (contents hs slots values lives)
    contents-died = same_contents refl
        (blocks-died hs (held_slots values slots) (held_slots (take top values) slots') lives births (length lives + length hs) k.memory b alive
        (died-there hs slots slots' values lives births top k b alive gone others height) (died-others hs slots slots' values lives births top k b alive gone others height))
        refl
