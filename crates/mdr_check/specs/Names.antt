-- believed
-- The names that a file declares have a greatest length (C99 5.2.4.1 lets an implementation set one), and those of the parameters of one list are different (6.2.1).
use Rattle.std.specs.Prelude.{List, map}
use Rattle.mdr_core.specs.declared.place.Place.{Place}
use Rattle.mdr_syntax.specs.declared.tree.Enumerator.{Enumerator}
use Rattle.mdr_syntax.specs.declared.tree.Head.{Head}
use Rattle.mdr_syntax.specs.declared.tree.Item.{Item}
use Rattle.mdr_syntax.specs.declared.tree.ItemWhat.{ItemWhat}
use Rattle.mdr_syntax.specs.declared.tree.ItemWhat.TheVariants as item
use Rattle.mdr_headings.specs.Names.{Verdict, all_fine, all_good_names, as_well, good_list, good_names, short_name}

abbrev pub short_enumerator : Enumerator → Verdict
short_enumerator e = short_name e.place e.name

abbrev pub short_enumerators : List Enumerator → Verdict
short_enumerators es = all_fine (map short_enumerator es)

abbrev pub short_head : Head → Verdict
short_head h = as_well (short_name h.place h.name) (good_list h.params)

-- the names that an item declares, those in bodies aside
abbrev pub short_what : Place → ItemWhat → Verdict
short_what p (item.Define name is_negative n k) = short_name p name
short_what p (item.Struct at name ds) = as_well (short_name at name) (all_good_names ds)
short_what p (item.Enum es) = short_enumerators es
short_what p (item.Global d init) = good_names d
short_what p (item.Proto h is_remote) = short_head h
short_what p (item.Func h is_critical nodes) = short_head h

abbrev pub short_item : Item → Verdict
short_item i = short_what i.place i.what

unfoldable pub short_items : List Item → Verdict
short_items is = all_fine (map short_item is)
