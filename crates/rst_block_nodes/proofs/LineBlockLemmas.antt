-- Line blocks that are being made.
use Rattle.std.proofs.Common.{◌≡◌, ℕ, suc, ◌+◌, ◌<◌, Bool, true, false, List, [], ◌∷◌, ◌++◌, length, map, take, drop, get_or, drop-cons, add-one, Result, Ok, Err, refl, sym, ap, ap₂, subst, ◌∙◌, arith, append_assoc}
use Rattle.std.specs.Prelude.{nat_lt, if◌then◌else◌}
use Rattle.std.specs.List.{flat_map}
use Rattle.std.proofs.lemmas.List.{append-nil}
use Rattle.rst_tree.specs.declared.node.Node.{Node}
use Rattle.rst_tree.specs.declared.tag.Tag.TheVariants.{Line, LineBlock}
use Rattle.rst_block_nodes.specs.Elements.{element_of}
use Rattle.rst_block_nodes.specs.LineBlocks.{IndentedLine, LinePart, level_line, deeper_lines, deeper_len, with_deeper, line_parts, part_node, line_block, MakesLineBlock}
use Rattle.rst_block_nodes.specs.Numbered.{then_read, ◌>>=◌, just, each}
use Rattle.rst_block_nodes.specs.Readings.{texted}
use Rattle.rst_block_nodes.specs.declared.fault.BlockFault.{BlockFault}
use Rattle.rst_block_nodes.specs.declared.fault.BlockFault.TheVariants.{TooDeep, NoMemory}
use Rattle.rst_block_nodes.specs.declared.texted.Texted.{Texted}

-- the line at a place, and those after it
pub line_at : (lines : List IndentedLine) (place : ℕ) (l : IndentedLine) → place < length lines → l ≡ get_or lines place l → drop place lines ≡ l ∷ drop (place + 1) lines
line_at lines place l within is = rw (add-one, drop-cons lines place l within) (ap (λ m. m ∷ drop (suc place) lines) (sym is))

-- ---- parts

-- whether the first line is deeper decides which part it is of, and whether it counts
first_is : (least : ℕ) (l : IndentedLine) (ls : List IndentedLine) (b : Bool) → nat_lt least l.indent ≡ b → line_parts least (l ∷ ls) ≡ (if b then with_deeper l (line_parts least ls) else level_line l ∷ line_parts least ls)
first_is least l ls b h = ap (λ b. if b then with_deeper l (line_parts least ls) else level_line l ∷ line_parts least ls) h

len_more : (least : ℕ) (l : IndentedLine) (ls : List IndentedLine) → nat_lt least l.indent ≡ true → deeper_len least (l ∷ ls) ≡ suc (deeper_len least ls)
len_more least l ls h = ap (λ b. if b then 1 + deeper_len least ls else 0) h ∙ omega arith

len_none : (least : ℕ) (l : IndentedLine) (ls : List IndentedLine) → nat_lt least l.indent ≡ false → deeper_len least (l ∷ ls) ≡ 0
len_none least l ls h = ap (λ b. if b then 1 + deeper_len least ls else 0) h

-- a deeper line and those after it, up to the first that isn't, are one part
abbrev IsRun : ℕ → IndentedLine → List IndentedLine → Type 0
IsRun least l ls = nat_lt least l.indent ≡ true → line_parts least (l ∷ ls) ≡ deeper_lines (l ∷ take (deeper_len least ls) ls) ∷ line_parts least (drop (deeper_len least ls) ls)

run_grows : (least : ℕ) (l m : IndentedLine) (ms : List IndentedLine) → IsRun least m ms → IsRun least l (m ∷ ms)
run_grows least l m ms following h = by (nat_lt least m.indent) refl
  where
    by : (b : Bool) → nat_lt least m.indent ≡ b → line_parts least (l ∷ m ∷ ms) ≡ deeper_lines (l ∷ take (deeper_len least (m ∷ ms)) (m ∷ ms)) ∷ line_parts least (drop (deeper_len least (m ∷ ms)) (m ∷ ms))
    by true k =
        first_is least l (m ∷ ms) true h
        ∙ ap (with_deeper l) (following k)
        ∙ ap (λ n. deeper_lines (l ∷ take n (m ∷ ms)) ∷ line_parts least (drop n (m ∷ ms))) (sym (len_more least m ms k))
    by false k =
        first_is least l (m ∷ ms) true h
        ∙ ap (with_deeper l) (first_is least m ms false k)
        ∙ ap (λ ps. deeper_lines (l ∷ []) ∷ ps) (sym (first_is least m ms false k))
        ∙ ap (λ n. deeper_lines (l ∷ take n (m ∷ ms)) ∷ line_parts least (drop n (m ∷ ms))) (sym (len_none least m ms k))

run_is_part : (least : ℕ) (l : IndentedLine) (ls : List IndentedLine) → IsRun least l ls
run_is_part least l [] h = first_is least l [] true h
run_is_part least l (m ∷ ms) h = run_grows least l m ms (run_is_part least m ms) h

-- the first of these lines isn't deeper: it is a part alone
pub next_level : (least : ℕ) (lines : List IndentedLine) (l : IndentedLine) (ls : List IndentedLine) → lines ≡ l ∷ ls → deeper_len least lines ≡ 0 → line_parts least lines ≡ level_line l ∷ line_parts least ls
next_level least lines l ls next none = ap (line_parts least) next ∙ by (nat_lt least l.indent) refl
  where
    by : (b : Bool) → nat_lt least l.indent ≡ b → line_parts least (l ∷ ls) ≡ level_line l ∷ line_parts least ls
    by true h = absurd (let some : deeper_len least lines ≡ suc (deeper_len least ls) = ap (deeper_len least) next ∙ len_more least l ls h in omega arith)
    by false h = first_is least l ls false h

-- this many of these lines are deeper: they are one part
pub next_deeper : (least : ℕ) (lines : List IndentedLine) (n : ℕ) → n ≡ deeper_len least lines → 0 < n → line_parts least lines ≡ deeper_lines (take n lines) ∷ line_parts least (drop n lines)
next_deeper least [] n same some = absurd (omega arith)
next_deeper least (l ∷ ls) n same some = by (nat_lt least l.indent) refl
  where
    by : (b : Bool) → nat_lt least l.indent ≡ b → line_parts least (l ∷ ls) ≡ deeper_lines (take n (l ∷ ls)) ∷ line_parts least (drop n (l ∷ ls))
    by true h =
        run_is_part least l ls h
        ∙ ap (λ k. deeper_lines (take k (l ∷ ls)) ∷ line_parts least (drop k (l ∷ ls))) (sym (same ∙ len_more least l ls h))
    by false h = absurd (let none : deeper_len least (l ∷ ls) ≡ 0 = len_none least l ls h in omega arith)

-- ---- what is made so far

-- a line block of these nodes and messages, and of what was made after them
abbrev block_with : ℕ → List Node → List Node → List (Node × List Node) → Node × List Node
block_with line nodes notes made =
    (element_of LineBlock [] (nodes ++ map (λ (m : Node × List Node). m.0) made) line, notes ++ flat_map (λ (m : Node × List Node). m.1) made)

-- A line block of these nodes and messages, and of what the parts of the lines give that are left, where the next message has the number `now`. It
-- begins in the line `line`, and `least` is its least indentation.
abbrev pub block_after : ℕ → ℕ → ℕ → List Node → List Node → List IndentedLine → ℕ → Result ((Node × List Node) × ℕ) ℕ
block_after levels least line nodes notes left now =
    then_read (λ made. just (block_with line nodes notes made)) (each (part_node (line_block levels)) (line_parts least left) now)

-- what was made last comes before what is made of the others
put_first : (line : ℕ) (nodes notes : List Node) (m : Node × List Node) (made : List (Node × List Node))
    → block_with line (nodes ++ m.0 ∷ []) (notes ++ m.1) made ≡ block_with line nodes notes (m ∷ made)
put_first line nodes notes m made =
    ap₂ (λ (ns ms : List Node). (element_of LineBlock [] ns line, ms))
    (append_assoc nodes (m.0 ∷ []) (map (λ (k : Node × List Node). k.0) made))
    (append_assoc notes m.1 (flat_map (λ (k : Node × List Node). k.1) made))

put_read : (line : ℕ) (nodes notes : List Node) (m : Node × List Node) (others : Result (List (Node × List Node) × ℕ) ℕ)
    → then_read (λ made. just (block_with line (nodes ++ m.0 ∷ []) (notes ++ m.1) made)) others
    ≡ then_read (λ made. just (block_with line nodes notes made)) (then_read (λ made. just (m ∷ made)) others)
put_read line nodes notes m (Ok (made, number)) = ap (λ (b : Node × List Node). Ok (b, number)) (put_first line nodes notes m made)
put_read line nodes notes m (Err number) = refl

-- one more part was made
one_more : (levels least line now next : ℕ) (left following : List IndentedLine) (nodes notes nodes_then notes_then : List Node) (p : LinePart) (m : Texted)
    → line_parts least left ≡ p ∷ line_parts least following → part_node (line_block levels) p now ≡ Ok ((m.element, m.notes.items), next)
    → nodes_then ≡ nodes ++ m.element ∷ [] → notes_then ≡ notes ++ m.notes.items
    → block_after levels least line nodes_then notes_then following next ≡ block_after levels least line nodes notes left now
one_more levels least line now next left following nodes notes nodes_then notes_then p m part read put noted =
    let f = part_node (line_block levels) in
    ap₂ (λ (ns ms : List Node). block_after levels least line ns ms following next) put noted
    ∙ put_read line nodes notes (m.element, m.notes.items) (each f (line_parts least following) next)
    ∙ ap (λ (r : Result ((Node × List Node) × ℕ) ℕ). then_read (λ made. just (block_with line nodes notes made)) (then_read (λ a. each f (line_parts least following) >>= λ others. just (a ∷ others)) r)) (sym read)
    ∙ ap (λ (ps : List LinePart). then_read (λ made. just (block_with line nodes notes made)) (each f ps now)) (sym part)

-- a part is nested too deeply
one_refused : (levels least line now number : ℕ) (left following : List IndentedLine) (nodes notes : List Node) (p : LinePart)
    → line_parts least left ≡ p ∷ line_parts least following → part_node (line_block levels) p now ≡ Err number → block_after levels least line nodes notes left now ≡ Err number
one_refused levels least line now number left following nodes notes p part read =
    let f = part_node (line_block levels) in
    ap (λ (ps : List LinePart). then_read (λ made. just (block_with line nodes notes made)) (each f ps now)) part
    ∙ ap (λ (r : Result ((Node × List Node) × ℕ) ℕ). then_read (λ made. just (block_with line nodes notes made)) (then_read (λ a. each f (line_parts least following) >>= λ others. just (a ∷ others)) r)) read

-- a line was made
pub one_line : (levels now next least line : ℕ) (left following : List IndentedLine) (nodes notes nodes_then notes_then : List Node) (l : IndentedLine) (m : Texted)
    → deeper_len least left ≡ 0 → left ≡ l ∷ following → texted l.parts Line l.line l.text l.text_line now ≡ Ok ((m.element, m.notes.items), next)
    → nodes_then ≡ nodes ++ m.element ∷ [] → notes_then ≡ notes ++ m.notes.items
    → block_after levels least line nodes_then notes_then following next ≡ block_after levels least line nodes notes left now
one_line levels now next least line left following nodes notes nodes_then notes_then l m none here read put noted =
    one_more levels least line now next left following nodes notes nodes_then notes_then (level_line l) m (next_level least left l following here none) read put noted

run_first : (least n : ℕ) (left inner following : List IndentedLine) → n ≡ deeper_len least left → 0 < n → inner ≡ take n left → following ≡ drop n left
    → line_parts least left ≡ deeper_lines inner ∷ line_parts least following
run_first least n left inner following same some those others =
    next_deeper least left n same some ∙ ap₂ (λ (ls ms : List IndentedLine). deeper_lines ls ∷ line_parts least ms) (sym those) (sym others)

-- a line block inside was made
pub one_run : (levels now next least line n : ℕ) (left inner following : List IndentedLine) (nodes notes nodes_then notes_then : List Node) (m : Texted)
    → n ≡ deeper_len least left → 0 < n → inner ≡ take n left → following ≡ drop n left → line_block levels inner now ≡ Ok ((m.element, m.notes.items), next)
    → nodes_then ≡ nodes ++ m.element ∷ [] → notes_then ≡ notes ++ m.notes.items
    → block_after levels least line nodes_then notes_then following next ≡ block_after levels least line nodes notes left now
one_run levels now next least line n left inner following nodes notes nodes_then notes_then m same some those others read put noted =
    one_more levels least line now next left following nodes notes nodes_then notes_then (deeper_lines inner) m (run_first least n left inner following same some those others) read put noted

-- a line block inside was not made
pub run_refused : (levels now next after least line n : ℕ) (left inner : List IndentedLine) (nodes notes : List Node) (fault : BlockFault) (read : Result ((Node × List Node) × ℕ) ℕ) (r : Result Texted BlockFault)
    → block_after levels least line nodes notes left now ≡ read → n ≡ deeper_len least left → 0 < n → inner ≡ take n left
    → MakesLineBlock (line_block levels inner now) next (Err fault) → r ≡ Err fault → MakesLineBlock read after r
run_refused levels now next after least line n left inner nodes notes fault read r so_far same some those refused is = subst (MakesLineBlock read after) (sym is) (by fault refused)
  where
    by : (fault : BlockFault) → MakesLineBlock (line_block levels inner now) next (Err fault) → MakesLineBlock read after (Err fault)
    by (TooDeep number) deep =
        sym so_far ∙ one_refused levels least line now number left (drop n left) nodes notes (deeper_lines inner) (run_first least n left inner (drop n left) same some those refl) deep
    by NoMemory deep = tt

-- everything was made
pub all_made : (levels now least line : ℕ) (left : List IndentedLine) (nodes notes : List Node) (block : Texted) (read : Result ((Node × List Node) × ℕ) ℕ)
    → block_after levels least line nodes notes left now ≡ read → left ≡ [] → block.element ≡ element_of LineBlock [] nodes line → block.notes.items ≡ notes
    → read ≡ Ok ((block.element, block.notes.items), now)
all_made levels now least line left nodes notes block read so_far none element noted =
    sym so_far
    ∙ ap (λ (ls : List IndentedLine). block_after levels least line nodes notes ls now) none
    ∙ ap₂ (λ (ns ms : List Node). Ok ((element_of LineBlock [] ns line, ms), now)) (append-nil nodes) (append-nil notes)
    ∙ ap₂ (λ (e : Node) (ms : List Node). Ok ((e, ms), now)) (sym element) (sym noted)
