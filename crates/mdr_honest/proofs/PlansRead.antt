-- What was read of a plan is in order.
use Rattle.std.proofs.Common.{◌≡◌, ℕ, zero, suc, ◌+◌, ◌-◌, ◌^◌, ◌<◌, ◌≤◌, ◌==◌, ◌&&◌, nat_lt, Bool, true, false, List, [], ◌∷◌, ◌++◌, length, Option, Some, None, take, drop, slice_get, slice_set, IsTrue, refl, sym, ap, ◌∙◌, subst, arith, length-append, eqb-true}
use Rattle.std.specs.List.{list_all}
use Rattle.std.proofs.lemmas.Bool.Decides.{Decides-ltb}
use Rattle.std.proofs.lemmas.List.{length-set}
use Rattle.mdr_core.specs.declared.plan.Half.{Half}
use Rattle.mdr_core.specs.declared.plan.Half.TheVariants.{Kernel}
use Rattle.mdr_core.specs.declared.plan.Key.{Key}
use Rattle.mdr_core.specs.declared.plan.Plan.{Plan}
use Rattle.mdr_core.specs.declared.types.Ty.{Ty}
use Rattle.mdr_core.specs.declared.types.Ty.TheVariants as type
use Rattle.mdr_plan.specs.declared.line.Line.{Line}
use Rattle.mdr_plan.specs.declared.line.Line.TheVariants as line
use Rattle.mdr_plan.specs.declared.line.Stage.{Stage}
use Rattle.mdr_plan.specs.declared.line.Stage.TheVariants as stage
use Rattle.mdr_plan.specs.declared.reader.Reader.{Reader}
use Rattle.mdr_plan.specs.Lines.{takes_types, takes_ups, takes_keys, ends, is_kernel, is_user_half, is_next_user, is_there, IsNext}
use Rattle.mdr_plan.specs.Naming.{is_new}
use Rattle.mdr_plan.specs.Steps.{Reached, after, first_type, key_added, with_key}
use Rattle.mdr_plan.specs.Steps.Reached.{Begun, Then}
use Rattle.mdr_plan.specs.Texts.{is_done}
use Rattle.mdr_plan.proofs.TypesRead.{both}
use Rattle.mdr_check_half.specs.Planned.{IsPlanned}
use Rattle.mdr_honest.specs.PlanTexts.{PlansThatAreReadArePlanned, PlansHaveFewTypes}
use Rattle.mdr_honest.proofs.PlanTables.{IsRead, Few, first_read, struct_read, pointer_read, table_read}

no : {A : Type 0} → IsTrue false → A
no h = let q : false ≡ true = h in absurd cc

below : (a b : ℕ) → IsTrue (nat_lt a b) → a < b
below a b h = (Decides-ltb a b).0 h

-- ---- lists

-- functions of the kernel half have no keys
pub record AreBare (halves : List Half) (lists : List (List Key)) : Type 0 where
  pub bare : (f : ℕ) (ks : List Key) → slice_get halves f ≡ Some Kernel → slice_get lists f ≡ Some ks → ks ≡ []

more_bare : (halves : List Half) (lists : List (List Key)) (half : Half) → length lists ≡ length halves → AreBare halves lists → AreBare (halves ++ half ∷ []) (lists ++ [] ∷ [])
more_bare halves lists half e h = record { bare = λ f ks a b. by halves lists f ks e h.bare a b }
  where
    by : (hs : List Half) (ls : List (List Key)) (f : ℕ) (ks : List Key) → length ls ≡ length hs → ((f : ℕ) (ks : List Key) → slice_get hs f ≡ Some Kernel → slice_get ls f ≡ Some ks → ks ≡ []) → slice_get (hs ++ half ∷ []) f ≡ Some Kernel → slice_get (ls ++ [] ∷ []) f ≡ Some ks → ks ≡ []
    by [] [] zero ks n g a b = cc
    by [] [] (suc f) ks n g a b = absurd cc
    by [] (l ∷ ls) f ks n g a b = absurd (omega (arith, n))
    by (x ∷ hs) [] f ks n g a b = absurd (omega (arith, n))
    by (x ∷ hs) (l ∷ ls) zero ks n g a b = g zero ks a b
    by (x ∷ hs) (l ∷ ls) (suc f) ks n g a b = by hs ls f ks (omega (arith, n)) (λ k js. g (suc k) js) a b

set_other : {A : Type 0} (xs : List A) (i j : ℕ) (y : A) → (i ≡ j → ⊥) → slice_get (slice_set xs i y) j ≡ slice_get xs j
set_other [] i j y n = refl
set_other (x ∷ xs) zero zero y n = absurd (n refl)
set_other (x ∷ xs) zero (suc j) y n = refl
set_other (x ∷ xs) (suc i) zero y n = refl
set_other (x ∷ xs) (suc i) (suc j) y n = set_other xs i j y (λ e. n (ap suc e))

key_other_by : (i j : ℕ) (key : Key) (lists : List (List Key)) (o : Option (List Key)) → (i ≡ j → ⊥) → slice_get (key_added o i key lists) j ≡ slice_get lists j
key_other_by i j key lists None n = refl
key_other_by i j key lists (Some ks) n = set_other lists i j (ks ++ key ∷ []) n

key_other : (i j : ℕ) (key : Key) (lists : List (List Key)) → (i ≡ j → ⊥) → slice_get (with_key i key lists) j ≡ slice_get lists j
unfolding with_key
key_other i j key lists n = key_other_by i j key lists (slice_get lists i) n

key_count_by : (i : ℕ) (key : Key) (lists : List (List Key)) (o : Option (List Key)) → length (key_added o i key lists) ≡ length lists
key_count_by i key lists None = refl
key_count_by i key lists (Some ks) = length-set lists i (ks ++ key ∷ [])

key_count : (i : ℕ) (key : Key) (lists : List (List Key)) → length (with_key i key lists) ≡ length lists
unfolding with_key
key_count i key lists = key_count_by i key lists (slice_get lists i)

kernel_is_no_user : (halves : List Half) (i j : ℕ) → IsTrue (is_user_half (slice_get halves i)) → slice_get halves j ≡ Some Kernel → i ≡ j → ⊥
kernel_is_no_user halves i j u k e = no (ap is_user_half (sym k ∙ ap (slice_get halves) (sym e)) ∙ u)

key_bare : (halves : List Half) (i : ℕ) (key : Key) (lists : List (List Key)) → IsTrue (is_user_half (slice_get halves i)) → AreBare halves lists → AreBare halves (with_key i key lists)
key_bare halves i key lists u h = record { bare = λ f ks a b. h.bare f ks a (sym (key_other i f key lists (kernel_is_no_user halves i f u a)) ∙ b) }

-- ---- what was read so far

-- of this stage, so many functions passed by `up` lines
pub record IsKept (s : Stage) (names : List (List ℕ)) (last : List ℕ) (plan : Plan) (ups : ℕ) : Type 0 where
  pub table : IsRead names last plan.types
  pub halves : length plan.halves ≡ length plan.names
  pub roots : length plan.roots ≡ length plan.names
  pub down : length plan.down ≡ length plan.names
  pub lists : length plan.keys ≡ length plan.names
  pub bare : AreBare plan.halves plan.keys
  pub user : IsTrue (takes_keys s) → IsTrue (is_user_half (slice_get plan.halves (ups - 1)))
  pub many : is_done s ≡ true → 8 < length plan.types

abbrev pub IsKeptNow : Reader → Type 0
IsKeptNow r = IsKept r.stage r.structs r.last r.plan r.ups

typing : (s : Stage) → IsTrue (takes_types s) → s ≡ stage.Types
typing stage.Start b = no b
typing stage.Types b = refl
typing stage.Functions b = no b
typing stage.Downs b = no b
typing stage.Ups b = no b
typing stage.Done b = no b

keying : (s : Stage) → IsTrue (takes_keys s) → s ≡ stage.Ups
keying stage.Start b = no b
keying stage.Types b = no b
keying stage.Functions b = no b
keying stage.Downs b = no b
keying stage.Ups b = refl
keying stage.Done b = no b

-- another type of the table
typed_more : (r : Reader) (names : List (List ℕ)) (last : List ℕ) (types : List Ty) → IsKeptNow r → IsTrue (takes_types r.stage) → IsRead names last types → IsKept r.stage names last (record r.plan { types = types }) r.ups
typed_more r names last types h t table = record {
  table = table;
  halves = h.halves;
  roots = h.roots;
  down = h.down;
  lists = h.lists;
  bare = h.bare;
  user = h.user;
  many = λ q. no (sym (ap is_done (typing r.stage t)) ∙ q);
}

-- what a struct's line that may come next says
record NextStruct (r : Reader) : Type 0 where
  takes : IsTrue (takes_types r.stage)
  count : length r.plan.types ≡ 9 + length r.structs

next_struct : (r : Reader) (name : List ℕ) → IsNext r (line.Struct name) → NextStruct r
next_struct r name h =
    let a = both _ (is_new r.structs name) h in
    let b = both _ (nat_lt (length r.structs) (2 ^ 32)) a.0 in
    let c = both (takes_types r.stage) (length r.plan.types == 9 + length r.structs) b.0 in
    record { takes = c.0; count = eqb-true (length r.plan.types) (9 + length r.structs) c.1 }

user_next : (r : Reader) (k : ℕ) → IsTrue (takes_ups r.stage && is_next_user r k) → IsTrue (is_user_half (slice_get r.plan.halves k))
unfolding is_next_user
user_next r k h =
    let a = both (takes_ups r.stage) _ h in
    let b = both _ (list_all is_kernel (take (k - r.ups) (drop r.ups r.plan.halves))) a.1 in
    (both _ (is_user_half (slice_get r.plan.halves k)) b.0).1

function_more : (r : Reader) (name : List ℕ) (half : Half) (is_root : Bool) → IsKeptNow r → IsKeptNow (after r (line.Function name half is_root))
function_more r name half is_root h =
    let a = h.halves in let b = h.roots in let c = h.down in let d = h.lists in
    let n = length-append r.plan.names (name ∷ []) in
    record {
      table = h.table;
      halves = let e = length-append r.plan.halves (half ∷ []) in omega (arith, a, e, n);
      roots = let e = length-append r.plan.roots (is_root ∷ []) in omega (arith, b, e, n);
      down = let e = length-append r.plan.down (false ∷ []) in omega (arith, c, e, n);
      lists = let e = length-append {A = List Key} r.plan.keys ([] ∷ []) in omega (arith, d, e, n);
      bare = more_bare r.plan.halves r.plan.keys half (omega (arith, a, d)) h.bare;
      user = λ q. no q;
      many = λ q. no q;
    }

key_more : (r : Reader) (key : Key) → IsKeptNow r → IsTrue (takes_keys r.stage) → IsKeptNow (after r (line.Key key))
key_more r key h t = record {
  table = h.table;
  halves = h.halves;
  roots = h.roots;
  down = h.down;
  lists = key_count (r.ups - 1) key r.plan.keys ∙ h.lists;
  bare = key_bare r.plan.halves (r.ups - 1) key r.plan.keys (h.user t) h.bare;
  user = h.user;
  many = h.many;
}

up_more : (r : Reader) (k : ℕ) → IsKeptNow r → IsTrue (is_user_half (slice_get r.plan.halves k)) → IsKeptNow (after r (line.Up k))
up_more r k h u = record {
  table = h.table;
  halves = h.halves;
  roots = h.roots;
  down = h.down;
  lists = h.lists;
  bare = h.bare;
  user = λ q. let back : k + 1 - 1 ≡ k = omega arith in subst (λ n. IsTrue (is_user_half (slice_get r.plan.halves n))) (sym back) u;
  many = λ q. no q;
}

line_kept : (r : Reader) (l : Line) → IsKeptNow r → IsNext r l → IsKeptNow (after r l)
line_kept r line.Heading h n = record { table = h.table; halves = h.halves; roots = h.roots; down = h.down; lists = h.lists; bare = h.bare; user = λ q. no q; many = λ q. no q }
line_kept r line.First h n =
    let a = both (takes_types r.stage) (nat_lt (length r.plan.types) 9) n in
    typed_more r r.structs r.last _ h a.0 (first_read r.structs r.last r.plan.types h.table (below (length r.plan.types) 9 a.1))
line_kept r (line.Struct name) h n =
    let a = next_struct r name n in
    typed_more r (r.structs ++ name ∷ []) r.last _ h a.takes (struct_read r.structs r.last r.plan.types name h.table a.count)
line_kept r (line.Type ty text) h n =
    let a = both (takes_types r.stage) (nat_lt 8 (length r.plan.types)) n.0 in
    typed_more r r.structs text _ h a.0 (pointer_read r.structs r.last r.plan.types ty text h.table (below 8 (length r.plan.types) a.1) n.1 n.2)
line_kept r (line.Function name half is_root) h n = function_more r name half is_root h
line_kept r (line.Down k) h n = record { table = h.table; halves = h.halves; roots = h.roots; down = length-set r.plan.down k true ∙ h.down; lists = h.lists; bare = h.bare; user = λ q. no q; many = λ q. no q }
line_kept r (line.Up k) h n = up_more r k h (user_next r k n.0)
line_kept r (line.Key key) h n =
    let a = both (takes_keys r.stage && is_there (length r.structs) (length r.plan.types) key) _ n.0 in
    key_more r key h (both (takes_keys r.stage) _ a.0).0
line_kept r line.End h n =
    let a = both (ends r.stage && nat_lt 8 (length r.plan.types)) _ n in
    record { table = h.table; halves = h.halves; roots = h.roots; down = h.down; lists = h.lists; bare = h.bare; user = λ q. no q; many = λ q. below 8 (length r.plan.types) (both (ends r.stage) (nat_lt 8 (length r.plan.types)) a.0).1 }

kept : (bytes : List ℕ) (n : ℕ) (r : Reader) → Reached bytes n r → IsKeptNow r
kept _ _ _ Begun = record {
  table = Few 0 (omega arith) refl refl refl;
  halves = refl;
  roots = refl;
  down = refl;
  lists = refl;
  bare = record { bare = λ f ks a b. absurd cc };
  user = λ q. no q;
  many = λ q. no q;
}
kept _ _ _ (Then text bytes n r l before reads) = line_kept r l (kept text n r before) reads.next

done_planned : (r : Reader) → IsKeptNow r → is_done r.stage ≡ true → IsPlanned r.plan
done_planned r h d = record {
  table = table_read r.structs r.last r.plan.types h.table (h.many d);
  halves = h.halves;
  roots = h.roots;
  down = h.down;
  lists = h.lists;
  kernel = (h.bare).bare;
}

pub plans_planned : PlansThatAreReadArePlanned
plans_planned bytes plan is = subst IsPlanned is.same (done_planned is.reader (kept bytes is.lines is.reader is.reached) is.done)

-- ---- how many types there are

types_step : (r : Reader) (l : Line) → length (after r l).plan.types ≤ length r.plan.types + 1
types_step r line.Heading = omega arith
types_step r line.First = let e = length-append r.plan.types (first_type (length r.plan.types) ∷ []) in omega (arith, e)
types_step r (line.Struct name) = let e = length-append r.plan.types (type.Struct (length r.structs) ∷ []) in omega (arith, e)
types_step r (line.Type ty text) = let e = length-append r.plan.types (ty ∷ []) in omega (arith, e)
types_step r (line.Function name half is_root) = omega arith
types_step r (line.Down k) = omega arith
types_step r (line.Up k) = omega arith
types_step r (line.Key key) = omega arith
types_step r line.End = omega arith

types_so_far : (bytes : List ℕ) (n : ℕ) (r : Reader) → Reached bytes n r → length r.plan.types ≤ length bytes
types_so_far _ _ _ Begun = omega arith
types_so_far _ _ _ (Then text bytes n r l before reads) =
    let few = types_so_far text n r before in
    let step = types_step r l in
    let a = length-append text (bytes ++ 10 ∷ []) in
    let b = length-append bytes (10 ∷ []) in
    omega (arith, few, step, a, b)

pub few_types : PlansHaveFewTypes
few_types bytes plan is = subst (λ (p : Plan). length p.types ≤ length bytes) is.same (types_so_far bytes is.lines is.reader is.reached)
