-- By what the kernel half judges an honest reply: what the user half knows and has is what both know.
use Rattle.std.proofs.Common.{◌≡◌, ℕ, suc, true, List, [], ◌∷◌, map, Option, Some, refl, sym, ◌∙◌, ap, subst}
use Rattle.std.specs.Prelude.{is_some, unwrap_or}
use Rattle.mdr_core.specs.declared.types.Shape.{Shape}
use Rattle.mdr_core.specs.declared.types.Ty.{Ty}
use Rattle.mdr_core.specs.Layout.{Leaf}
use Rattle.mdr_core.specs.Services.{Service, Kzalloc, Kcalloc, Kfree, Readl, Writel, Printk, RequestIrq, FreeIrq, Deliver, Combolock, Combounlock, Bug, Enter, Leave}
use Rattle.mdr_holds.proofs.Fitting.{fits_narrows, some_is}
use Rattle.mdr_holds.proofs.Memories.{born_live}
use Rattle.mdr_holds.proofs.States.{states_hold}
use Rattle.mdr_holds.specs.Leaving.{AreObjects, IsObject}
use Rattle.mdr_meaning.proofs.GrowthLaws.{all_known}
use Rattle.mdr_meaning.specs.declared.wire.Wire.{Wire}
use Rattle.mdr_meaning.specs.declared.wire.Wire.TheVariants as wire
use Rattle.mdr_meaning.specs.Fair.{AllFit, AreKnown, IsAsk, IsKnown as IsFairlyKnown}
use Rattle.mdr_meaning.specs.Fit.{Fits, Knowledge}
use Rattle.mdr_meaning.specs.Tree.{Asked}
use Rattle.mdr_meaning.specs.Within.{Uses}
use Rattle.mdr_model.specs.declared.memory.Cell.{Cell}
use Rattle.mdr_model.specs.declared.message.New.{New}
use Rattle.mdr_model.proofs.AgreedReplies.{get, tellable}
use Rattle.mdr_model.specs.Agreement.{IsKnown}
use Rattle.mdr_model.specs.Copies.{changed_cells, held}
use Rattle.mdr_model.specs.Memory.{Memory, born_at, cell_at, is_live, normal}
use Rattle.mdr_model.specs.Sets.{is_in}
use Rattle.mdr_plain.specs.World.{World}
use Rattle.mdr_serves.proofs.Accesses.{shared}
use Rattle.mdr_serves.proofs.Known.{known_some, view_known}
use Rattle.mdr_serves.proofs.Relations.{IsRight, Rel, known_by}
use Rattle.mdr_serves.proofs.ShownCells.{IsShownCell, shown_cell}
use Rattle.mdr_shows.specs.Cells.{GlobalsAreTyped}
use Rattle.mdr_split.proofs.FitLaws.{IsPaired, Judges, cell_fits}
use Rattle.mdr_split.proofs.RunLaws.{IsTellable}
use Rattle.mdr_split.proofs.ServiceFits.{AreWhole}
use Rattle.mdr_split.specs.Fits.{fits}
use Rattle.mdr_split.specs.Legal.{fits_leaf, kernel_places}
use Rattle.mdr_split.specs.State.{Kernel}
use Rattle.mdr_watched.specs.Driver.{Driver}
use Rattle.mdr_watched.specs.Views.{top}

-- ---- values that are passed

-- values that are known, of which each is passed alike
known_alike : (d : Driver) (KU : Knowledge) (m m' : Memory) → ((v : Wire) → IsKnown (known_by KU) v → normal m v ≡ normal m' v) → (vs : List Wire) → AreKnown d.program KU vs → map (normal m) vs ≡ map (normal m') vs
known_alike d KU m m' same [] h = refl
known_alike d KU m m' same (v ∷ vs) h = λ i. same v (fairly v h.0) i ∷ known_alike d KU m m' same vs h.1 i
  where
    fairly : (x : Wire) → IsFairlyKnown d.program KU x → IsKnown (known_by KU) x
    fairly (wire.Ptr p) k serial e = view_known d.program KU p k serial e
    fairly (wire.Int kind n) k serial e = absurd cc
    fairly wire.Null k serial e = absurd cc
    fairly wire.Dead k serial e = absurd cc
    fairly (wire.Fn f) k serial e = absurd cc
    fairly (wire.Lock s) k serial e = elim k [ ]
    fairly wire.NoValue k serial e = elim k [ ]

-- the arguments of a question
asked_known : (d : Driver) (KU : Knowledge) (a : Asked) (s : Service) → IsAsk d.program KU a s → AreKnown d.program KU a.args
asked_known d KU a Kzalloc h = subst (AreKnown d.program KU) (sym h.no_args) tt
asked_known d KU a Kcalloc h = subst (AreKnown d.program KU) (sym h.no_args) tt
asked_known d KU a Kfree h = all_known d.program KU a.args _ h.fit
asked_known d KU a Readl h = all_known d.program KU a.args _ h.fit
asked_known d KU a Writel h = all_known d.program KU a.args _ h.fit
asked_known d KU a Printk h = subst (AreKnown d.program KU) (sym h.no_args) tt
asked_known d KU a RequestIrq h = all_known d.program KU a.args _ h.takes.fit
asked_known d KU a FreeIrq h = all_known d.program KU a.args _ h.fit
asked_known d KU a Deliver h = subst (AreKnown d.program KU) (sym h.no_args) tt
asked_known d KU a Combolock h = all_known d.program KU a.args _ h.fit
asked_known d KU a Combounlock h = all_known d.program KU a.args _ h.fit
asked_known d KU a Bug h = all_known d.program KU a.args _ h.fit
asked_known d KU a Enter h = subst (AreKnown d.program KU) (sym h.no_args) tt
asked_known d KU a Leave h = h.known

pub args_alike : {d : Driver} {uses : Uses} {budget t : ℕ} {K KU : Knowledge} {live : List Wire} {k : Kernel} {w : World} {um : Memory} (args : List Wire) (types : List Ty) → Rel d uses budget t K KU live k w um → AllFit d.program KU args types
    → map (normal um) args ≡ map (normal w.memory) args
args_alike {d = d} {KU = KU} {w = w} {um = um} args types r fit = known_alike d KU um w.memory (λ v known. sym ((shared r).normals v known)) args (all_known d.program KU args types fit)

pub asked_alike : {d : Driver} {uses : Uses} {budget t : ℕ} {K KU : Knowledge} {live : List Wire} {k : Kernel} {w : World} {um : Memory} (a : Asked) (s : Service) → Rel d uses budget t K KU live k w um → IsAsk d.program KU a s
    → map (normal um) a.args ≡ map (normal w.memory) a.args
asked_alike {d = d} {KU = KU} {w = w} {um = um} a s r ask = known_alike d KU um w.memory (λ v known. sym ((shared r).normals v known)) a.args (asked_known d KU a s ask)

-- ---- blocks that both know

same_life : (m m' : Memory) (serial : ℕ) → born_at m serial ≡ born_at m' serial → is_live m serial ≡ is_live m' serial
unfolding is_live
same_life m m' serial e = ap (λ (o : Option New). is_some o) e

module _ {K : Knowledge} (d : Driver) (uses : Uses) (budget t : ℕ) (KU : Knowledge) (live : List Wire) (k : Kernel) (w : World) (um : Memory) (right : IsRight d uses) (r : Rel d uses budget t K KU live k w um) where
  paired_where : (serial : ℕ) (shape : Shape) → KU.blocks serial ≡ Some shape → is_live k.agreed serial ≡ true → IsPaired (kernel_places d k) serial shape
  paired_where serial shape known copied =
      let b = born_live k.world.memory serial (r.memories.live serial copied) in
      let whole : born_at w.memory serial ≡ Some b.0 = r.memories.whole_born serial ∙ b.1 in
      record { paired = copied; block = b.0; born = b.1; shaped = some_is (sym (r.holds.memory.known serial b.0 whole) ∙ r.grows.stays serial shape known) }

  pub judges : Judges (kernel_places d k) KU um
  judges = record {
    sound = r.sound;
    pairs = λ serial shape known lives. paired_where serial shape known (sym (same_life um k.agreed serial (r.memories.user_born serial)) ∙ lives);
    passes = λ f taken. right.taken f (ap (λ (u : Uses). u.taken f) (sym r.uses_are) ∙ taken);
  }

  -- a known block that lives in the whole run lives in the user half
  pub lives_too : (serial : ℕ) (shape : Shape) → KU.blocks serial ≡ Some shape → is_live w.memory serial ≡ true → is_live um serial ≡ true
  unfolding known_by
  lives_too serial shape known lives =
      same_life um k.agreed serial (r.memories.user_born serial)
      ∙ r.memories.agree.paired serial (ap (λ (o : Option Shape). is_some o) known) (sym (same_life w.memory k.world.memory serial (r.memories.whole_born serial)) ∙ lives)

  -- ---- what changed

  typed : GlobalsAreTyped d.program w.memory
  typed serial b g born names = states_hold.typed d.program r.sound K w r.holds serial b g born names

  -- a visible cell's value fits by what the user half knows
  pub shown_fits : (c : Cell) → is_in (top w.views) c ≡ true → (x : IsShownCell d.program K w.memory c) → Fits d.program KU x.leaf.type x.value
  shown_fits c inside x =
      fits_narrows d.program KU K r.grows x.leaf.type x.value
      (λ q is. known_some KU q (subst (λ (v : Wire). IsKnown (known_by KU) v) is ((shared r).held_known c x.value inside x.held))) x.fits

  pub shown : (c : Cell) → is_in (top w.views) c ≡ true → IsShownCell d.program K w.memory c
  shown c inside = shown_cell d.program d.plan t K w.memory (top w.views) right.suited typed r.holds.memory r.set c inside

  held_is : (c : Cell) (v : Wire) → cell_at um c ≡ Some v → held um c ≡ v
  unfolding held
  held_is c v e = ap (λ (o : Option Wire). unwrap_or o wire.NoValue) e

  -- each cell that changed may be told
  pub changed_tellable : (c : Cell) → is_in (changed_cells (top w.views) k.agreed um) c ≡ true → IsTellable (kernel_places d k) (top w.views) um c
  changed_tellable c changed =
      let inside : is_in (top w.views) c ≡ true = (tellable r.memories).inside c changed in
      let x : IsShownCell d.program K w.memory c = shown c inside in
      let value : held um c ≡ x.value = held_is c x.value (get c r.memories inside ∙ x.held) in
      let fit : fits (kernel_places d k) x.leaf.type (held um c) ≡ true = cell_fits judges r.memories.user x.leaf.type c (subst (λ (v : Wire). Fits d.program KU x.leaf.type v) (sym value) (shown_fits c inside x)) in
      record {
        inside = inside;
        block = x.block;
        born = sym (r.memories.whole_born c.serial) ∙ x.born;
        fit = ap (λ (o : Option Leaf). fits_leaf (fits (kernel_places d k)) o (held um c)) x.there ∙ fit;
      }

-- objects of locals are blocks as wholes
pub objects_whole : (m : Memory) (from : ℕ) (vs : List Wire) → AreObjects m from vs → AreWhole m from vs
objects_whole m from [] h = tt
objects_whole m from (v ∷ vs) h =
    let o : IsObject m from v = h.0 in
    (record { block = o.block; is = o.is; live = o.live; later = o.later }, objects_whole m (suc o.block.serial) vs h.1)
