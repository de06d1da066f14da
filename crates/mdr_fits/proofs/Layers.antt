-- Types that are written out, and what a service that is asked for gives.
use Rattle.std.proofs.Common.{◌≡◌, Bool, true, false, List, [], ◌∷◌, Option, Some, None, ℤ, refl, sym, ap, ◌∙◌, ℕ}
use Rattle.std.specs.Prelude.{option_map}
use Rattle.mdr_core.specs.declared.kind.Kind.{Kind}
use Rattle.mdr_core.specs.declared.types.Ty.{Ty}
use Rattle.mdr_core.specs.declared.types.Ty.TheOpen.{Ty-F}
use Rattle.mdr_core.specs.declared.types.Ty.TheVariants as type
use Rattle.mdr_core.specs.declared.types.Ty.TheVariants.{outs-Fun, outs-Ptr}
use Rattle.mdr_core.specs.declared.value.LockState.{LockState}
use Rattle.mdr_core.specs.Services.{Service, handler_type}
use Rattle.mdr_meaning.specs.declared.shape.Shape64.{Shape64}
use Rattle.mdr_meaning.specs.declared.wire.Wire.{Wire}
use Rattle.mdr_meaning.specs.declared.wire.Wire.TheVariants as wire
use Rattle.mdr_model.specs.declared.message.New.{New}
use Rattle.mdr_split.specs.Fits.{Places, fits, fits_by, fits_function, fits_pointer, is_named}
use Rattle.mdr_split.specs.Services.{Terms, are_given, are_given_by, is_block, is_new, terms_of}

pub handler_fits : (p : Places) (v : Wire) → fits_function p handler_type v ≡ fits p handler_type v
unfolding fits
handler_fits p v = ap (λ (l : Ty-F Ty). fits_by p handler_type l v) (sym (outs-Fun (type.Void ∷ [])))

pub lock_fits : (p : Places) (v : Wire) → fits_pointer p (λ n. is_named p.program n type.Lock) v ≡ fits p (type.Ptr type.Lock) v
unfolding fits
lock_fits p v = ap (λ (l : Ty-F Ty). fits_by p (type.Ptr type.Lock) l v) (sym (outs-Ptr type.Lock))

pub given_so : (o : Option Service) (t : Terms) (news : List New) (shapes : List Shape64) (results : List Wire) → Some t ≡ option_map terms_of o
    → are_given t.gives news shapes results ≡ are_given_by o news shapes results
given_so None t news shapes results e = absurd (Prim.cc)
given_so (Some s) t news shapes results e = let same : t ≡ terms_of s = Prim.cc in ap (λ (x : Terms). are_given x.gives news shapes results) same

-- what is neither null nor a pointer is no new block
int_by : (news : List New) (shapes : List Shape64) (k : Kind) (n : ℤ) → false ≡ is_block news shapes (wire.Int k n)
unfolding is_new
int_by news [] k n = refl
int_by news (x ∷ []) k n = refl
int_by news (x ∷ y ∷ shapes) k n = refl

pub no_block_int : (news : List New) (shapes : List Shape64) (v : Wire) (k : Kind) (n : ℤ) → v ≡ (wire.Int k n) → false ≡ is_block news shapes v
no_block_int news shapes v k n e = int_by news shapes k n ∙ ap (is_block news shapes) (sym e)

dead_by : (news : List New) (shapes : List Shape64) → false ≡ is_block news shapes wire.Dead
unfolding is_new
dead_by news [] = refl
dead_by news (x ∷ []) = refl
dead_by news (x ∷ y ∷ shapes) = refl

pub no_block_dead : (news : List New) (shapes : List Shape64) (v : Wire) → v ≡ wire.Dead → false ≡ is_block news shapes v
no_block_dead news shapes v e = dead_by news shapes ∙ ap (is_block news shapes) (sym e)

fn_by : (news : List New) (shapes : List Shape64) (f : ℕ) → false ≡ is_block news shapes (wire.Fn f)
unfolding is_new
fn_by news [] f = refl
fn_by news (x ∷ []) f = refl
fn_by news (x ∷ y ∷ shapes) f = refl

pub no_block_fn : (news : List New) (shapes : List Shape64) (v : Wire) (f : ℕ) → v ≡ (wire.Fn f) → false ≡ is_block news shapes v
no_block_fn news shapes v f e = fn_by news shapes f ∙ ap (is_block news shapes) (sym e)

lock_by : (news : List New) (shapes : List Shape64) (s : LockState) → false ≡ is_block news shapes (wire.Lock s)
unfolding is_new
lock_by news [] s = refl
lock_by news (x ∷ []) s = refl
lock_by news (x ∷ y ∷ shapes) s = refl

pub no_block_lock : (news : List New) (shapes : List Shape64) (v : Wire) (s : LockState) → v ≡ (wire.Lock s) → false ≡ is_block news shapes v
no_block_lock news shapes v s e = lock_by news shapes s ∙ ap (is_block news shapes) (sym e)

none_by : (news : List New) (shapes : List Shape64) → false ≡ is_block news shapes wire.NoValue
unfolding is_new
none_by news [] = refl
none_by news (x ∷ []) = refl
none_by news (x ∷ y ∷ shapes) = refl

pub no_block_none : (news : List New) (shapes : List Shape64) (v : Wire) → v ≡ wire.NoValue → false ≡ is_block news shapes v
no_block_none news shapes v e = none_by news shapes ∙ ap (is_block news shapes) (sym e)
