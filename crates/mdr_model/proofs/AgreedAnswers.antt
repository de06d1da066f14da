-- The answer to a service, which tells no cells: what may have changed meanwhile.
use Rattle.std.proofs.Common.{◌≡◌, ℕ, ◌≤◌, Bool, true, false, cond, ◌⊎◌, inl, inr, List, [], Option, Some, None, refl, ◌∙◌, arith}
use Rattle.std.specs.Prelude.{option_map}
use Rattle.std.proofs.lemmas.Bool.{eq-eqb}
use Rattle.mdr_core.specs.declared.program.Program.{Program}
use Rattle.mdr_meaning.specs.declared.wire.Wire.{Wire}
use Rattle.mdr_meaning.specs.declared.wire.Wire.TheVariants as wire
use Rattle.mdr_model.specs.declared.message.New.{New}
use Rattle.mdr_model.specs.Memory.{Memory, Cell, born_at, is_live, cell_at, normal, normal_if}
use Rattle.mdr_model.specs.Sets.{is_in}
use Rattle.mdr_model.specs.Copies.{died, is_named, left_of, told_news, begun_copy}
use Rattle.mdr_model.specs.Agreement.{names_it, IsFormed, MayFollow, Serials, IsAgreed, IsShown, has, is_told, learnt, IsShared, born_cell, KeepsShown}
use Rattle.mdr_model.proofs.LifeLaws.{has-died, sweeps, cell_at-without, zero_cell, cell_at-news, sweeps_pointer, sweeps_other}
use Rattle.mdr_model.proofs.AgreedMessages.{follows, after, news_at-told, live-left, is_told-told, live-after, cell_at-after, agree-after, shared_of}
use Rattle.mdr_model.proofs.AgreedReplies.{replied}

sweeps-normal : (copy m : Memory) (o : Option Wire) → ((s : ℕ) → names_it s o ≡ true → is_live copy s ≡ true) → sweeps (died copy m) o ≡ option_map (normal m) o
unfolding normal names_it
sweeps-normal copy m None h = sweeps_other (died copy m) None (λ s. refl)
sweeps-normal copy m (Some (wire.Ptr p)) h = sweeps_pointer (died copy m) p ∙ of (is_live m p.serial) refl (has (died copy m) p.serial) refl
  where
    of : (t : Bool) → is_live m p.serial ≡ t → (u : Bool) → has (died copy m) p.serial ≡ u → cond u (Some wire.Dead) (Some (wire.Ptr p)) ≡ Some (normal_if t p)
    of true e true f = grind (arith, has-died copy m p.serial)
    of true e false f = refl
    of false e true f = refl
    of false e false f = grind (arith, has-died copy m p.serial, h p.serial, eq-eqb p.serial p.serial refl)
sweeps-normal copy m (Some (wire.Int k n)) h = sweeps_other (died copy m) (Some (wire.Int k n)) (λ s. refl)
sweeps-normal copy m (Some wire.Null) h = sweeps_other (died copy m) (Some wire.Null) (λ s. refl)
sweeps-normal copy m (Some wire.Dead) h = sweeps_other (died copy m) (Some wire.Dead) (λ s. refl)
sweeps-normal copy m (Some (wire.Fn f)) h = sweeps_other (died copy m) (Some (wire.Fn f)) (λ s. refl)
sweeps-normal copy m (Some (wire.Lock l)) h = sweeps_other (died copy m) (Some (wire.Lock l)) (λ s. refl)
sweeps-normal copy m (Some wire.NoValue) h = sweeps_other (died copy m) (Some wire.NoValue) (λ s. refl)

cell_at-left : {program : Program} (copy m : Memory) (c : Cell) → IsFormed program copy → is_live m c.serial ≡ true → cell_at (left_of copy m) c ≡ option_map (normal m) (cell_at copy c)
unfolding left_of
cell_at-left copy m c f h = grind (arith, cell_at-without (died copy m) copy c, has-died copy m c.serial, sweeps-normal copy m (cell_at copy c) (f.closed c))

nothing_shown : (values : List Wire) (copy m : Memory) → IsShown [] values copy m
unfolding is_in
nothing_shown values copy m = λ c h. grind arith

-- the block was in the copy, so it isn't told
cell_at-kept : {known : Serials} {next : ℕ} (program : Program) (values : List Wire) (copy m : Memory) (c : Cell) → IsAgreed program known next copy m → is_live copy c.serial ≡ true → is_live m c.serial ≡ true
    → cell_at (after program [] values copy m) c ≡ option_map (normal m) (cell_at copy c)
unfolding begun_copy is_told is_in
cell_at-kept program values copy m c a h k =
    grind (arith, cell_at-after program [] values copy m c a (nothing_shown values copy m), cell_at-news program (told_news [] values copy m) (left_of copy m) c, is_told-told [] values copy m c.serial, cell_at-left copy m c a.copied k)

born-zero : (program : Program) (o : Option New) (i : ℕ) → zero_cell program o i None ≡ born_cell program o i
born-zero program None i = refl
born-zero program (Some n) i = refl

-- the block is told, with zero cells
cell_at-fresh : {known : Serials} {next : ℕ} (program : Program) (values : List Wire) (copy m : Memory) (c : Cell) → IsAgreed program known next copy m → is_live copy c.serial ≡ false → is_live m c.serial ≡ true → is_named values c.serial ≡ true
    → cell_at (after program [] values copy m) c ≡ born_cell program (born_at m c.serial) c.index
unfolding begun_copy is_in is_live
cell_at-fresh program values copy m c a h k named =
    grind (arith, cell_at-after program [] values copy m c a (nothing_shown values copy m), cell_at-news program (told_news [] values copy m) (left_of copy m) c, news_at-told [] values copy m c.serial, live-left copy m c.serial, born-zero program (born_at m c.serial) c.index)

pub answered : {known : Serials} {next next' : ℕ} {view : List Cell} {copy m w u : Memory} (program : Program) (view' : List Cell) (results : List Wire) (w' : Memory)
    → IsShared program known next view copy m w u → MayFollow program next w next' w' → KeepsShown program next view view' results w w'
    → IsShared program (learnt known (told_news [] results u w')) next' view' (after program [] results u w') w' w' (after program [] results u w')
unfolding is_live
answered {known} {next} {next'} {view} {copy} {m} {w} {u} program view' results w' r f left =
    let a = follows (replied r) f in
    shared_of view' (after program [] results u w') w' (agree-after program [] results u w' a (nothing_shown results u w'))
    (λ s h. grind (arith, live-after program [] results u w' s))
    (λ c h. there c (left.live c h) (left.cells c h))
    (λ c h. same c a (left.live c h) (left.cells c h))
  where
    there : (c : Cell) → is_live w' c.serial ≡ true
        → ((is_in view c ≡ true) × (cell_at w' c ≡ option_map (normal w') (cell_at w c))) ⊎ ((next ≤ c.serial) × (is_named results c.serial ≡ true) × (cell_at w' c ≡ born_cell program (born_at w' c.serial) c.index))
        → is_live (after program [] results u w') c.serial ≡ true
    there c live (inl h) = grind (arith, live-after program [] results u w' c.serial, r.placed c h.0, r.user_born c.serial)
    there c live (inr h) = grind (arith, live-after program [] results u w' c.serial, h.1)

    same : (c : Cell) → IsAgreed program known next' u w' → is_live w' c.serial ≡ true
        → ((is_in view c ≡ true) × (cell_at w' c ≡ option_map (normal w') (cell_at w c))) ⊎ ((next ≤ c.serial) × (is_named results c.serial ≡ true) × (cell_at w' c ≡ born_cell program (born_at w' c.serial) c.index))
        → cell_at (after program [] results u w') c ≡ cell_at w' c
    same c a live (inl h) = grind (arith, cell_at-kept program results u w' c a, r.placed c h.0, r.user_born c.serial, r.user_cells c, h.0, h.1)
    same c a live (inr h) = grind (arith, cell_at-fresh program results u w' c a, h.0, h.1, h.2, a.knows c.serial, r.agree.told c.serial)
