-- The items of a file, one by one.
use Rattle.std.proofs.Common.{ℕ, ◌≡◌, ◌<◌, ◌+◌, List, [], ◌∷◌, ◌++◌, take, drop, length, get_or, ap, Result}
use Rattle.std.proofs.Math.Path.{sym, ◌∙◌}
use Rattle.std.proofs.lemmas.List.{at_drop_more, take_more}
use Rattle.mdr_syntax.specs.declared.tree.Item.{Item}
use Rattle.mdr_faults.specs.declared.fault.Fault.{Fault}
use Rattle.mdr_check.specs.declared.file.Known.{Known}
use Rattle.mdr_check.specs.declared.file.Piece.{Piece}
use Rattle.mdr_faults.specs.Faults.{told, followed, extended, next}
use Rattle.mdr_check.specs.Files.{BodyRule, item_piece, behind_item, pieces_behind, known_behind}
use Rattle.mdr_faults.proofs.Gathered.{one_more}

pub one_item : (body : BodyRule) (items : List Item) (known known1 : Known) (i : ℕ) (x : Item) (a a1 w : Result (List Piece) Fault) → i < length items → x ≡ get_or items i x → known1 ≡ behind_item known x.what → a1 ≡ extended a (told (item_piece body (take i items) known x.place x.what)) → followed a (told (pieces_behind body known (take i items) (drop i items))) ≡ w → followed a1 (told (pieces_behind body known1 (take (i + 1) items) (drop (i + 1) items))) ≡ w
unfolding pieces_behind
one_item body items known known1 i x a a1 w inside is e grown so_far =
    let one : take (i + 1) items ≡ take i items ++ x ∷ [] = take_more items i x inside ∙ ap (λ y. take i items ++ y ∷ []) (sym is) in
    one_more (pieces_behind body known (take i items)) (item_piece body (take i items) known x.place x.what) (pieces_behind body known1 (take (i + 1) items) (drop (i + 1) items)) items i x a a1 w inside is
    (λ j. next (item_piece body (take i items) known x.place x.what) (pieces_behind body (sym e j) (sym one j) (drop (i + 1) items)))
    grown so_far

pub one_known : (items : List Item) (known known1 w : Known) (i : ℕ) (x : Item) → i < length items → x ≡ get_or items i x → known1 ≡ behind_item known x.what → known_behind known (drop i items) ≡ w → known_behind known1 (drop (i + 1) items) ≡ w
unfolding known_behind
one_known items known known1 w i x inside is e so_far =
    (λ j. known_behind (e j) (drop (i + 1) items)) ∙ ap (λ y. known_behind known (y ∷ drop (i + 1) items)) is ∙ sym (at_drop_more (known_behind known) items i x inside) ∙ so_far
