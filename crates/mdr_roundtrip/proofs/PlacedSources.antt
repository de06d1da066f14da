-- Sources whose tokens differ in places alone have trees that differ in places alone.
use Rattle.std.proofs.Common.{◌≡◌, refl, sym, subst, ap, ◌∙◌, Bool, true, List, [], ◌∷◌, map, IsTrue}
use Rattle.mdr_syntax.specs.declared.token.Lexeme.{Lexeme}
use Rattle.mdr_syntax.specs.declared.token.Token.{Token}
use Rattle.mdr_syntax.specs.declared.tree.Item.{Item}
use Rattle.mdr_syntax.specs.declared.tree.Tree.{Tree}
use Rattle.mdr_syntax.specs.Tokens.{tokens_of}
use Rattle.mdr_print.specs.Items.{printed}
use Rattle.mdr_print.specs.Spelled.{spelled, what_of, GivesLexemes}
use Rattle.mdr_grammar.specs.declared.sort.Sort.{Sort}
use Rattle.mdr_grammar.specs.Sorts.{is, sort_of}
use Rattle.mdr_grammar.specs.Forms.Nonterminal.{many}
use Rattle.mdr_grammar.specs.Forms.Repeated.{items}
use Rattle.mdr_grammar.specs.Statements.{tree_of}
use Rattle.mdr_grammar.specs.Grammar.{Gets, Reads}
use Rattle.mdr_roundtrip.specs.Again.{IsSourceOf, IsPrintedAsSource}
use Rattle.mdr_roundtrip.specs.Itemised.{unplaced_item, unplaced_tree, is_shaped_tree}
use Rattle.mdr_roundtrip.specs.Unplaced.{all_at}
use Rattle.mdr_roundtrip.proofs.Erased.{erased_token}
use Rattle.mdr_roundtrip.proofs.Unplacing.{map_joined}
use Rattle.mdr_roundtrip.proofs.Placeless.{Alike, placed_by, erased_by}
use Rattle.mdr_roundtrip.proofs.Placeless.Erases.{erases}
use Rattle.mdr_roundtrip.proofs.PlacelessRules.{placeless}
use Rattle.mdr_roundtrip.proofs.RereadItems.{trees_reread}

-- ---- tokens

all_alike : (ts : List Token) → Alike ts (all_at (map what_of ts))
all_alike [] = tt
all_alike (t ∷ ts) = (refl, all_alike ts)

all_erased : (ts : List Token) → map erased_token ts ≡ all_at (map what_of ts)
all_erased [] = refl
all_erased (t ∷ ts) = ap (λ (us : List Token). erased_token t ∷ us) (all_erased ts)

record Last (left : List Token) (u : Token) : Type 0 where
  last : Token
  alone : left ≡ last ∷ []
  alike : erased_token last ≡ u

last_of : (left : List Token) (u : Token) → Alike left (u ∷ []) → Last left u
last_of [] u a = absurd a
last_of (t ∷ []) u a = record { last = t; alone = refl; alike = a.0 }
last_of (t ∷ s ∷ ts) u a = absurd a.1

-- ---- sources

unplaced_whole : (is : List (List Item)) → unplaced_tree (tree_of is) ≡ tree_of (map (map unplaced_item) is)
unplaced_whole is = ap (λ (xs : List Item). record { items = xs }) (map_joined unplaced_item is)

-- with its places set aside
unplaced_source : (halves : Bool) (tokens : List Token) (tree : Tree) → Reads halves tokens tree → Reads halves (all_at (map what_of tokens)) (unplaced_tree tree)
unplaced_source halves tokens tree r = record {
  items_of = map (map unplaced_item) r.items_of;
  end = erased_token r.end;
  found = subst (λ (ts : List Token). Gets halves (many true items []) ts (erased_token r.end ∷ []) (map (map unplaced_item) r.items_of)) (all_erased tokens) (erased_by halves placeless r.found);
  at_end = r.at_end;
  is_tree = ap unplaced_tree r.is_tree ∙ unplaced_whole r.items_of;
}

-- with its places put back
placed_source : (halves : Bool) (tokens : List Token) (tree : Tree) → Reads halves (all_at (map what_of tokens)) tree → (of : Tree) → tree ≡ unplaced_tree of → IsSourceOf halves tokens of
placed_source halves tokens tree r of e =
    let k = placed_by halves placeless (erases (many true items [])) tokens r.found (all_alike tokens) in
    let z = last_of k.left r.end k.left_alike in
    record {
      read = tree_of k.given_value;
      is_read = record {
        items_of = k.given_value;
        end = z.last;
        found = subst (λ (ts : List Token). Gets halves (many true items []) tokens ts k.given_value) z.alone k.found;
        at_end = subst (λ (t : Token). IsTrue (is Sort.End (sort_of halves t.what))) (sym z.alike) r.at_end;
        is_tree = refl;
      };
      is_same = unplaced_whole k.given_value ∙ ap tree_of k.value_alike ∙ sym r.is_tree ∙ e;
    }

pub sources_alike : (halves : Bool) (tokens others : List Token) (tree : Tree) → map what_of tokens ≡ map what_of others → Reads halves tokens tree → IsSourceOf halves others tree
sources_alike halves tokens others tree e r = placed_source halves others (unplaced_tree tree) (subst (λ (xs : List Lexeme). Reads halves (all_at xs) (unplaced_tree tree)) e (unplaced_source halves tokens tree r)) tree refl

-- what is printed of a tree that has the shape of those that are read is a source of it
pub shape_again : (halves : Bool) (tree : Tree) → is_shaped_tree halves tree ≡ true → GivesLexemes (tokens_of (printed tree)) (spelled tree) → IsPrintedAsSource halves tree
shape_again halves tree s g = record {
  tokens = g.tokens;
  is_text = g.is_read;
  is_source = placed_source halves g.tokens (unplaced_tree tree) (subst (λ (xs : List Lexeme). Reads halves (all_at xs) (unplaced_tree tree)) (sym g.are) (trees_reread halves tree s)) tree refl;
}
