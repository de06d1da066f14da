-- protocol
-- The driver of all seeds, and the script that a seed and a number of lines make.
use Rattle.std.specs.Prelude.{ℕ, zero, suc, ◌+◌, ◌*◌, ◌/◌, ◌%◌, ◌^◌, ◌==◌, nat_lt, if◌then◌else◌, List, [], ◌++◌, codes, decimal}

-- ---- the driver: a list of nodes, which user code makes, sums up and takes apart

unfoldable pub list_text : List ℕ
list_text = codes "struct node { u32 v; struct node *next; };\nstruct node *head;\n"

unfoldable pub count_text : List ℕ
count_text = codes "u32 count;\nu32 sum;\n"

unfoldable pub note_text : List ℕ
note_text = codes "__critical void note(u32 x) { sum = sum + x; }\n"

unfoldable pub add_text : List ℕ
add_text = codes "void add(u32 v) { struct node *p; p = kzalloc(struct node); if (!p) { return; } p->v = v; p->next = head; head = p; count += 1; }\n"

unfoldable pub walk_text : List ℕ
walk_text = codes "void walk(void) { struct node *p; u32 s; s = 0; p = head; while (p) { s += p->v; p = p->next; } note(s); }\n"

unfoldable pub drop_text : List ℕ
drop_text = codes "void drop(void) { struct node *p; p = head; if (!p) { return; } head = p->next; kfree(p); count -= 1; }\n"

unfoldable pub driver_text : List ℕ
driver_text = list_text ++ (count_text ++ (note_text ++ (add_text ++ (walk_text ++ drop_text))))

-- ---- the script

-- the number behind another one
abbrev pub next : ℕ → ℕ
next x = (x * 6364136223846793005 + 1442695040888963407) % 2 ^ 64

-- two kinds of four add a value below 1,000, one walks, and one drops
unfoldable pub line_by : (kind value : ℕ) → List ℕ
line_by kind value = if nat_lt kind 2 then codes "call add " ++ (decimal value ++ codes "\n") else (if kind == 2 then codes "call walk\n" else codes "call drop\n")

-- the line that a number stands for
abbrev pub line_of : ℕ → List ℕ
line_of x = line_by ((x / 2 ^ 33) % 4) ((x / 2 ^ 40) % 1000)

-- so many lines, of the numbers behind this one
unfoldable pub lines_from : (x count : ℕ) → List ℕ
lines_from x zero = []
lines_from x (suc n) = line_of (next x) ++ lines_from (next x) n
