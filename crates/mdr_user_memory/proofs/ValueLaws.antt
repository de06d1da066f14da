-- What pointers are, read through the pairs, before and after births and deaths.
use Rattle.std.proofs.Common.{◌≡◌, ℕ, Bool, true, false, cond, List, [], ◌∷◌, ◌++◌, Option, Some, None, refl, sym, ◌∙◌, ap, arith}
use Rattle.std.specs.Prelude.{◌==◌, is_some}
use Rattle.std.proofs.lemmas.Bool.{eqb-true, eq-eqb}
use Rattle.mdr_core.specs.declared.value.Block.{Block}
use Rattle.mdr_core.specs.declared.value.Value.{Value}
use Rattle.mdr_core.specs.declared.value.Value.TheVariants as value
use Rattle.mdr_core.specs.declared.value.View.{View}
use Rattle.mdr_meaning.specs.declared.wire.Wire.{Wire}
use Rattle.mdr_meaning.specs.declared.wire.Wire.TheVariants as wire
use Rattle.mdr_meaning.specs.declared.wire.WireView.{WireView}
use Rattle.mdr_meaning.specs.Values.{wire_of, wire_view}
use Rattle.mdr_model.specs.Values.{names_block}
use Rattle.mdr_model.specs.Memory.{Memory, is_live, normal, normal_if, swept}
use Rattle.mdr_mem.specs.Contents.{current, handle_of, is_handle, left_of, wire_in}
use Rattle.mdr_mem.proofs.SearchLaws.{HasSerial, handle_serial}
use Rattle.mdr_track.specs.Pairs.{AreMatched, Pairs, dropped, paired}
use Rattle.mdr_track.specs.Pointers.{addressed, name_of, named, pointer}
use Rattle.mdr_track.proofs.PairLaws.{back, there}
use Rattle.mdr_user_memory.specs.Paired.{points, serial_in, told}
use Rattle.mdr_user_memory.proofs.HandleLaws.{handle_of-left, handle_of-other}

-- ---- values that name no block

pub told_plain : (hs : List Block) (ps : Pairs) (w : Wire) → ((s : ℕ) → names_block s w ≡ false) → told hs ps w ≡ w
unfolding told
told_plain hs ps (wire.Ptr p) h = absurd (grind (arith, h p.serial, eq-eqb p.serial p.serial refl))
told_plain hs ps (wire.Int k n) h = refl
told_plain hs ps wire.Null h = refl
told_plain hs ps wire.Dead h = refl
told_plain hs ps (wire.Fn f) h = refl
told_plain hs ps (wire.Lock s) h = refl
told_plain hs ps wire.NoValue h = refl

-- ---- a birth

serial_born : (ps : Pairs) (s n : ℕ) (b : Block) (o : Option Block) → HasSerial n o → (n == b.serial) ≡ false → serial_in (paired s b ps) o ≡ serial_in ps o
serial_born ps s n b None h e = refl
serial_born ps s n b (Some a) h e = grind (arith, eqb-true b.serial a.serial, eq-eqb n b.serial)

pub told_born : (hs : List Block) (ps : Pairs) (s : ℕ) (b : Block) (w : Wire) → names_block b.serial w ≡ false → told (hs ++ b ∷ []) (paired s b ps) w ≡ told hs ps w
unfolding told
told_born hs ps s b (wire.Ptr p) h =
    let other : (b.serial == p.serial) ≡ false = grind (arith, h, eqb-true b.serial p.serial, eq-eqb p.serial b.serial) in
    ap (λ o. points p (serial_in (paired s b ps) o)) (handle_of-other hs b p.serial other)
    ∙ ap (λ o. points p o) (serial_born ps s p.serial b (handle_of hs p.serial) (handle_serial hs p.serial) h)
told_born hs ps s b (wire.Int k n) h = refl
told_born hs ps s b wire.Null h = refl
told_born hs ps s b wire.Dead h = refl
told_born hs ps s b (wire.Fn f) h = refl
told_born hs ps s b (wire.Lock l) h = refl
told_born hs ps s b wire.NoValue h = refl

-- ---- a death

module _ (ps : Pairs) (s : ℕ) (b : Block) (m : AreMatched ps) (e : ps.user_of s ≡ Some b) where
  -- another block has another serial
  other_pair : (a : Block) (t : ℕ) → ps.serial_of a ≡ Some t → (a.serial == b.serial) ≡ false → (t == s) ≡ false
  other_pair a t f h = of (t == s) refl
    where
      same : (t == s) ≡ true → ◌≡◌ {A = Option Block} (Some a) (Some b)
      same k = sym (back ps t a m f) ∙ (ap ps.user_of (eqb-true t s k) ∙ e)

      serial : ◌≡◌ {A = Option Block} (Some a) (Some b) → a.serial ≡ b.serial
      serial k = cc

      of : (q : Bool) → (t == s) ≡ q → q ≡ false
      of true k = absurd (grind (arith, h, eq-eqb a.serial b.serial (serial (same k))))
      of false k = refl

  left_pair : (p : WireView) (o : Option Block) → HasSerial p.serial o → (p.serial == b.serial) ≡ false → points p (serial_in (dropped s b ps) o) ≡ swept s (points p (serial_in ps o))
  left_pair p None h k = refl
  left_pair p (Some a) h k =
      let apart : (a.serial == b.serial) ≡ false = grind (arith, h, k) in
      let same : serial_in (dropped s b ps) (Some a) ≡ ps.serial_of a = grind (arith, apart, eqb-true b.serial a.serial, eq-eqb a.serial b.serial) in
      ap (λ o. points p o) same ∙ of (ps.serial_of a) refl apart
    where
      of : (u : Option ℕ) → ps.serial_of a ≡ u → (a.serial == b.serial) ≡ false → points p u ≡ swept s (points p u)
      of None f apart = refl
      of (Some t) f apart = sym (ap (λ q. cond q wire.Dead (points p (Some t))) (other_pair a t f apart))

  pub told_died : (hs : List Block) (w : Wire) → handle_of hs b.serial ≡ Some b → told (left_of b.serial hs) (dropped s b ps) (swept b.serial w) ≡ swept s (told hs ps w)
  unfolding told
  told_died hs (wire.Ptr p) one = of (p.serial == b.serial) refl
    where
      own : (t : ℕ) → (t == t) ≡ true → swept t (points p (Some t)) ≡ wire.Dead
      own t k = ap (λ q. cond q wire.Dead (points p (Some t))) k

      of : (q : Bool) → (p.serial == b.serial) ≡ q
          → told (left_of b.serial hs) (dropped s b ps) (cond q wire.Dead (wire.Ptr p)) ≡ swept s (points p (serial_in ps (handle_of hs p.serial)))
      of true k =
          sym (ap (λ o. swept s (points p (serial_in ps o))) (ap (λ n. handle_of hs n) (eqb-true p.serial b.serial k) ∙ one)
          ∙ (ap (λ o. swept s (points p o)) (there ps s b m e) ∙ own s (eq-eqb s s refl)))
      of false k =
          let other : (b.serial == p.serial) ≡ false = grind (arith, k, eqb-true b.serial p.serial, eq-eqb p.serial b.serial) in
          ap (λ o. points p (serial_in (dropped s b ps) o)) (handle_of-left b.serial hs p.serial ∙ ap (λ q. cond q None (handle_of hs p.serial)) other)
          ∙ left_pair p (handle_of hs p.serial) (handle_serial hs p.serial) k
  told_died hs (wire.Int k n) one = refl
  told_died hs wire.Null one = refl
  told_died hs wire.Dead one = refl
  told_died hs (wire.Fn f) one = refl
  told_died hs (wire.Lock l) one = refl
  told_died hs wire.NoValue one = refl

-- what isn't paired is named by nothing that is told
pub swept_told : (hs : List Block) (ps : Pairs) (s : ℕ) (w : Wire) → AreMatched ps → ps.user_of s ≡ None → swept s (told hs ps w) ≡ told hs ps w
unfolding told
swept_told hs ps s (wire.Ptr p) m e = at (handle_of hs p.serial)
  where
    differ : (a : Block) (t : ℕ) → ps.serial_of a ≡ Some t → (t == s) ≡ false
    differ a t f = of (t == s) refl
      where
        never : ◌≡◌ {A = Option Block} (Some a) None → ⊥
        never k = cc

        of : (q : Bool) → (t == s) ≡ q → q ≡ false
        of true k = absurd (never (sym (back ps t a m f) ∙ (ap ps.user_of (eqb-true t s k) ∙ e)))
        of false k = refl

    at : (o : Option Block) → swept s (points p (serial_in ps o)) ≡ points p (serial_in ps o)
    at None = refl
    at (Some a) = of (ps.serial_of a) refl
      where
        of : (u : Option ℕ) → ps.serial_of a ≡ u → swept s (points p u) ≡ points p u
        of None f = refl
        of (Some t) f = ap (λ q. cond q wire.Dead (points p (Some t))) (differ a t f)
swept_told hs ps s (wire.Int k n) m e = refl
swept_told hs ps s wire.Null m e = refl
swept_told hs ps s wire.Dead m e = refl
swept_told hs ps s (wire.Fn f) m e = refl
swept_told hs ps s (wire.Lock l) m e = refl
swept_told hs ps s wire.NoValue m e = refl

-- ---- values in hand

module _ (hs : List Block) (ps : Pairs) (matched : AreMatched ps) (only : (b : Block) → is_handle hs b ≡ is_some (ps.serial_of b)) (one : (b : Block) → is_handle hs b ≡ true → handle_of hs b.serial ≡ Some b) where
  -- a cell's value, as code has it
  pub named_told : (v : Value) → wire_of (named ps v) ≡ told hs ps (wire_in hs v)
  unfolding named told current
  named_told (value.Ptr p) = of (ps.serial_of p.block) refl
    where
      of : (o : Option ℕ) → ps.serial_of p.block ≡ o → wire_of (pointer p (name_of p.block o)) ≡ told hs ps (wire_of (cond (is_handle hs p.block) (value.Ptr p) value.Dead))
      of None e = sym (ap (λ q. told hs ps (wire_of (cond q (value.Ptr p) value.Dead))) (only p.block ∙ ap is_some e))
      of (Some s) e =
          let alive : is_handle hs p.block ≡ true = only p.block ∙ ap is_some e in
          sym (ap (λ q. told hs ps (wire_of (cond q (value.Ptr p) value.Dead))) alive
          ∙ (ap (λ o. points (wire_view p) (serial_in ps o)) (one p.block alive) ∙ ap (λ o. points (wire_view p) o) e))
  named_told (value.Int k n) = refl
  named_told value.Null = refl
  named_told value.Dead = refl
  named_told (value.Fn f) = refl
  named_told (value.Lock l) = refl
  named_told value.NoValue = refl

  -- a pointer in hand to a block that is paired, put into a cell and told again
  pub placed_back : (p : View) (b : Block) → ps.user_of p.block.serial ≡ Some b → told hs ps (wire_in hs (pointer p (Some b))) ≡ wire.Ptr (wire_view p)
  unfolding told current
  placed_back p b e =
      let back : ps.serial_of b ≡ Some p.block.serial = there ps p.block.serial b matched e in
      let alive : is_handle hs b ≡ true = only b ∙ ap is_some back in
      ap (λ q. told hs ps (wire_of (cond q (value.Ptr (record p { block = b })) value.Dead))) alive
      ∙ (ap (λ o. points (wire_view (record p { block = b })) (serial_in ps o)) (one b alive)
      ∙ ap (λ o. points (wire_view (record p { block = b })) o) back)

  -- a value in hand, stored and told again, is the value as memory keeps it
  pub told_addressed : (m : Memory) (v : Value) → ((s : ℕ) → is_live m s ≡ is_some (ps.user_of s)) → told hs ps (wire_in hs (addressed ps v)) ≡ normal m (wire_of v)
  unfolding addressed told current normal
  told_addressed m (value.Ptr p) live = of (ps.user_of p.block.serial) refl
    where
      of : (o : Option Block) → ps.user_of p.block.serial ≡ o → told hs ps (wire_in hs (pointer p o)) ≡ normal_if (is_live m p.block.serial) (wire_view p)
      of None e = sym (ap (λ q. normal_if q (wire_view p)) (live p.block.serial ∙ ap is_some e))
      of (Some b) e = placed_back p b e ∙ sym (ap (λ q. normal_if q (wire_view p)) (live p.block.serial ∙ ap is_some e))
  told_addressed m (value.Int k n) live = refl
  told_addressed m value.Null live = refl
  told_addressed m value.Dead live = refl
  told_addressed m (value.Fn f) live = refl
  told_addressed m (value.Lock l) live = refl
  told_addressed m value.NoValue live = refl
