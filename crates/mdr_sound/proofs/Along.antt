-- Along all items of a file: what holds at its begin and goes on behind each item holds at its end.
use Rattle.std.proofs.Common.{◌≡◌, List, [], ◌∷◌, ◌++◌, refl, sym, ap, ◌∙◌, subst, append_assoc, append-nil}
use Rattle.mdr_syntax.specs.declared.tree.Item.{Item}
use Rattle.mdr_faults.specs.Faults.{Right}
use Rattle.mdr_headings.specs.declared.function.Declared.{Declared}
use Rattle.mdr_check.specs.declared.file.Known.{Known}
use Rattle.mdr_check.specs.declared.file.Piece.{Piece}
use Rattle.mdr_check.specs.Files.{BodyRule, item_piece, behind_item, pieces_behind, known_behind, first_known}
use Rattle.mdr_program.specs.declared.parts.Parts.{Parts}
use Rattle.mdr_program.specs.Parts.{behind_piece, parts_behind, no_parts}
use Rattle.mdr_sound.proofs.Rights.{same_right}
use Rattle.mdr_sound.specs.Counting.{Counts, Begins}
use Rattle.mdr_sound.proofs.CountedItems.{counted_by}
use Rattle.mdr_sound.proofs.Extending.{Pieces, pieces_parted, structs_begin, variables_begin, functions_begin}
use Rattle.mdr_sound.proofs.Passing.{IsAt, at_behind, first_at}

module _ (body : BodyRule) (items : List Item) (whole : Parts) (functions : List Declared) where
  -- an item at its place in the file, whose program has these parts and functions
  pub record IsPlace (before : List Item) (known : Known) (i : Item) (x : Piece) (ps : Parts) : Type 0 where
    pub at : IsAt items before known
    pub counts : Counts known ps
    pub begins : Begins (before ++ i ∷ []) items
    pub one : item_piece body before known i.place i.what ≡ Right x
    pub structs : Begins (behind_piece ps x).structs whole.structs
    pub variables : Begins (behind_piece ps x).variables whole.variables
    pub declared : Begins (behind_item known i.what).functions functions

  pub record GoesOn (Q : Known → Parts → Type 0) : Type 0 where
    pub behind : (before : List Item) (known : Known) (i : Item) (x : Piece) (ps : Parts) → IsPlace before known i x ps → Q known ps → Q (behind_item known i.what) (behind_piece ps x)

  -- what stands in front of the other items
  pub record Front (before : List Item) (known : Known) (is : List Item) (xs : List Piece) (ps : Parts) : Type 0 where
    pub at : IsAt items before known
    pub counts : Counts known ps
    pub all : items ≡ before ++ is
    pub right : pieces_behind body known before is ≡ Right xs
    pub parts : parts_behind ps xs ≡ whole
    pub declared : (known_behind known is).functions ≡ functions

  ends : (Q : Known → Parts → Type 0) (known : Known) (before : List Item) (xs : List Piece) (ps : Parts) → Front before known [] xs ps → Q known ps → Q (known_behind known []) whole
  unfolding pieces_behind known_behind parts_behind
  ends Q known before xs ps f q = subst (Q known) (ap (parts_behind ps) (same_right [] xs f.right) ∙ f.parts) q

  pub place_at : (before : List Item) (known : Known) (i : Item) (is : List Item) (xs : List Piece) (ps : Parts) (f : Front before known (i ∷ is) xs ps) (p : Pieces body items before known i is xs) → IsPlace before known i p.first ps
  unfolding parts_behind known_behind
  place_at before known i is xs ps f p =
      let last : parts_behind (behind_piece ps p.first) p.rest ≡ whole = ap (parts_behind ps) (sym p.all) ∙ f.parts in
      record {
        at = f.at;
        counts = f.counts;
        begins = record { more = is; whole = f.all ∙ sym (append_assoc before (i ∷ []) is) };
        one = p.one;
        structs = subst (λ (w : Parts). Begins (behind_piece ps p.first).structs w.structs) last (structs_begin (behind_piece ps p.first) p.rest);
        variables = subst (λ (w : Parts). Begins (behind_piece ps p.first).variables w.variables) last (variables_begin (behind_piece ps p.first) p.rest);
        declared = subst (Begins (behind_item known i.what).functions) f.declared (functions_begin items (behind_item known i.what) is);
      }

  pub front_behind : (before : List Item) (known : Known) (i : Item) (is : List Item) (xs : List Piece) (ps : Parts) (f : Front before known (i ∷ is) xs ps) (p : Pieces body items before known i is xs) → Front (before ++ i ∷ []) (behind_item known i.what) is p.rest (behind_piece ps p.first)
  unfolding parts_behind known_behind
  front_behind before known i is xs ps f p = record {
    at = at_behind body items before known i p.first f.at (record { more = is; whole = f.all ∙ sym (append_assoc before (i ∷ []) is) }) p.one;
    counts = counted_by body items before known i.place i.what p.first ps f.counts p.one;
    all = f.all ∙ sym (append_assoc before (i ∷ []) is);
    right = p.others;
    parts = ap (parts_behind ps) (sym p.all) ∙ f.parts;
    declared = f.declared;
  }

  pub known_next : (known : Known) (i : Item) (is : List Item) → known_behind (behind_item known i.what) is ≡ known_behind known (i ∷ is)
  unfolding known_behind
  known_next known i is = refl

  along_from : (Q : Known → Parts → Type 0) → GoesOn Q → (before : List Item) (known : Known) (is : List Item) (xs : List Piece) (ps : Parts) → Front before known is xs ps → Q known ps → Q (known_behind known is) whole
  along_from Q on before known [] xs ps f q = ends Q known before xs ps f q
  along_from Q on before known (i ∷ is) xs ps f q =
      let p = pieces_parted body items before known i is xs f.right in
      subst (λ k. Q k whole) (known_next known i is)
      (along_from Q on (before ++ i ∷ []) (behind_item known i.what) is p.rest (behind_piece ps p.first) (front_behind before known i is xs ps f p) (on.behind before known i p.first ps (place_at before known i is xs ps f p) q))

  at_end : (before : List Item) (known : Known) (is : List Item) (xs : List Piece) (ps : Parts) → Front before known is xs ps → IsAt items items (known_behind known is)
  unfolding known_behind
  at_end before known [] xs ps f = subst (λ bs. IsAt items bs known) (sym (f.all ∙ append-nil before)) f.at
  at_end before known (i ∷ is) xs ps f =
      let p = pieces_parted body items before known i is xs f.right in
      at_end (before ++ i ∷ []) (behind_item known i.what) is p.rest (behind_piece ps p.first) (front_behind before known i is xs ps f p)

-- nothing is counted at the begin
first_counts : (items : List Item) → Counts (first_known items) no_parts
unfolding first_known
first_counts items = record { globals = refl; structs = refl; functions = tt; taken = λ i d e. absurd cc }

-- in front of all items
pub first_front : (body : BodyRule) (items : List Item) (xs : List Piece) → pieces_behind body (first_known items) [] items ≡ Right xs → Front body items (parts_behind no_parts xs) (known_behind (first_known items) items).functions [] (first_known items) items xs no_parts
first_front body items xs right = record { at = first_at items; counts = first_counts items; all = refl; right = right; parts = refl; declared = refl }

-- what holds at the begin of a file, and goes on behind each of its items, holds at its end
pub along : (body : BodyRule) (items : List Item) (xs : List Piece) (Q : Known → Parts → Type 0) → pieces_behind body (first_known items) [] items ≡ Right xs → GoesOn body items (parts_behind no_parts xs) (known_behind (first_known items) items).functions Q → Q (first_known items) no_parts → Q (known_behind (first_known items) items) (parts_behind no_parts xs)
along body items xs Q right on first =
    along_from body items (parts_behind no_parts xs) (known_behind (first_known items) items).functions Q on [] (first_known items) items xs no_parts
    (first_front body items xs right) first

-- behind all items everything is counted
pub counted_all : (body : BodyRule) (items : List Item) (xs : List Piece) → pieces_behind body (first_known items) [] items ≡ Right xs → Counts (known_behind (first_known items) items) (parts_behind no_parts xs)
counted_all body items xs right = along body items xs Counts right (record { behind = λ before known i x ps place c. counted_by body items before known i.place i.what x ps c place.one }) (first_counts items)

-- and all that the file has is there
pub at_all : (body : BodyRule) (items : List Item) (xs : List Piece) → pieces_behind body (first_known items) [] items ≡ Right xs → IsAt items items (known_behind (first_known items) items)
at_all body items xs right = at_end body items (parts_behind no_parts xs) (known_behind (first_known items) items).functions [] (first_known items) items xs no_parts (first_front body items xs right)
