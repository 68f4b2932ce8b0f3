-- The blocks that wait, and the work that is left in them.
use Rattle.std.proofs.Common.{◌≡◌, ℕ, suc, ◌+◌, ◌-◌, ◌*◌, ◌<◌, ◌≤◌, ◌++◌, List, [], ◌∷◌, length, length-append, take, drop, map, Option, None, Some, arith, refl, ap, sym, subst, ◌∙◌}
use Rattle.std.proofs.lemmas.List.{drop-append-le, take-append-le, map-append, length-map}
use Rattle.rst_text.specs.Block.{Block}
use Rattle.rst_text.specs.ViewBlock.{placement_block}
use Rattle.rst_markup_blocks.specs.declared.part.Part.{Part}
use Rattle.rst_block_state.specs.machine.Frames.{IsFrame, AreFrames, AreNested, IsNow, HasSecond}
use Rattle.rst_block_state.specs.machine.Steps.{IsTable, IsStep, IsNext, IsResumed}
use Rattle.rst_block_state.specs.declared.frame.Frame.{Frame}
use Rattle.rst_block_state.specs.machine.Meanings.{deepest}
use Rattle.rst_block_state.specs.declared.open_block.OpenBlock.{OpenBlock}
use Rattle.rst_block_state.specs.declared.step.Step.{Step}
use Rattle.rst_block_state.specs.declared.step.Step.TheVariants.{Begin, Next, Open, Cells, Done}
use Rattle.rst_block.specs.Reading.{cost, parts_left, left, all_left}
use Rattle.rst_block.proofs.Work.{less, more, last}

-- what is less than what was no more
pub below : {a b c : ℕ} → a < b → b ≤ c → a < c
below h k = omega (arith, h, k)

pub still : {a b c : ℕ} → a < b → b ≤ c → a ≤ c
still h k = omega (arith, h, k)

-- a step after others
pub next_of_step : (B : Block) (at on to : ℕ) (s : Step) → at ≤ on → on < length B → IsStep B on to s → IsNext B at to s
next_of_step B at on to Begin i j h = absurd h
next_of_step B at on to Next i j h = (omega (arith, i, j), omega (arith, i, h))
next_of_step B at on to (Open w first second) i j h = (omega (arith, i, j), omega (arith, i, h.0), h.1, h.2, h.3)
next_of_step B at on to (Cells table) i j h = (omega (arith, i, h.0), omega (arith, h.0, h.1), subst (λ k. IsTable k table) (sym h.0) h.2)
next_of_step B at on to Done i j h = tt

pub now_of_next : (B : Block) (at : ℕ) (l : OpenBlock) (s : Step) → l.depth ≤ deepest → IsNext B at l.at s → IsNow B l s
now_of_next B at l Begin d h = absurd h
now_of_next B at l Next d h = d
now_of_next B at l (Open w first second) d h = (d, h.2, h.3, h.4)
now_of_next B at l (Cells table) d h = (d, h.1, h.2)
now_of_next B at l Done d h = tt

pub now_of_resumed : (B : Block) (at : ℕ) (l : OpenBlock) (s : Step) → l.depth ≤ deepest → IsResumed B at l.at s → IsNow B l s
now_of_resumed B at l Begin d h = absurd h
now_of_resumed B at l Next d h = d
now_of_resumed B at l (Open w first second) d h = (d, h.2, h.3, h.4)
now_of_resumed B at l (Cells table) d h = absurd h
now_of_resumed B at l Done d h = tt

pub cost_of_resumed : (B : Block) (at to : ℕ) (s : Step) → IsResumed B at to s → cost (length B) to s < 5 * (length B - at) + 3
cost_of_resumed B at to Begin h = absurd h
cost_of_resumed B at to Next h = omega (arith, h)
cost_of_resumed B at to (Open w first second) h = omega (arith, h.0, h.1)
cost_of_resumed B at to (Cells table) h = absurd h
cost_of_resumed B at to Done h = absurd h

cost_of_next : (B : Block) (at to : ℕ) (s : Step) → IsNext B at to s → cost (length B) to s < 5 * (length B - at) + 2
cost_of_next B at to Begin h = absurd h
cost_of_next B at to Done h = omega arith
cost_of_next B at to _ h = omega (arith, h.0, h.1)

cost_of_begin : (n m : ℕ) → m ≤ n → cost m 0 Begin < 5 * n + 6
cost_of_begin n m i = omega arith

fewer : (S : Block) (fs : List Frame) → length (map (left S) fs) ≡ length fs
fewer S fs = length-map fs (left S)

-- less is left in the block that is read
pub goes_on : (n room : ℕ) (S : Block) (fs : List Frame) (k at j to : ℕ) (s t : Step) → cost j to t < cost k at s
    → all_left n room S fs j to t < all_left n room S fs k at s
goes_on n room S fs k at j to s t h = less (5 * n + 6) room (map (left S) fs) (omega arith) h

-- what comes next
pub stepped : (n room : ℕ) (S : Block) (fs : List Frame) (B : Block) (at to : ℕ) (now s : Step) → 5 * (length B - at) + 2 ≤ cost (length B) at now → IsNext B at to s
    → all_left n room S fs (length B) to s < all_left n room S fs (length B) at now
stepped n room S fs B at to now s first h = goes_on n room S fs (length B) at (length B) to now s (omega (arith, first, cost_of_next B at to s h))

-- a block inside is opened
pub opens : (n room : ℕ) (S : Block) (fs : List Frame) (B : Block) (at : ℕ) (s : Step) (f : Frame) (m : ℕ)
    → length fs < room → placement_block S f.placement ≡ B → left S f < cost (length B) at s → m ≤ n
    → all_left n room S (fs ++ f ∷ []) m 0 Begin < all_left n room S fs (length B) at s
opens n room S fs B at s f m r e h i =
    rw (map-append (left S) fs (f ∷ [])) (more (5 * n + 6) room (map (left S) fs) (omega (arith, fewer S fs, r)) h (cost_of_begin n m i))

-- a block that waited goes on
pub resumes : (n room : ℕ) (S : Block) (fs : List Frame) (f : Frame) (k at j to : ℕ) (s t : Step)
    → length fs < room → cost j to t < left S f → all_left n room S fs j to t < all_left n room S (fs ++ f ∷ []) k at s
resumes n room S fs f k at j to s t r h =
    rw (map-append (left S) fs (f ∷ [])) (
    let a = less (5 * n + 6) room (map (left S) fs) (omega arith) h in
    let b = last (5 * n + 6) room (map (left S) fs) (left S f) (cost k at s) (omega (arith, fewer S fs, r)) in
    omega (arith, a, b))

-- a block that waited waits for another part
pub waits_again : (n room : ℕ) (S : Block) (fs : List Frame) (f g : Frame) (k at m : ℕ) (s : Step)
    → length fs < room → left S g < left S f → m ≤ n → all_left n room S (fs ++ g ∷ []) m 0 Begin < all_left n room S (fs ++ f ∷ []) k at s
waits_again n room S fs f g k at m s r h i =
    rw (map-append (left S) fs (f ∷ [])) (rw (map-append (left S) fs (g ∷ [])) (
    let a = more (5 * n + 6) room (map (left S) fs) (omega (arith, fewer S fs, r)) h (cost_of_begin n m i) in
    let b = last (5 * n + 6) room (map (left S) fs) (left S f) (cost k at s) (omega (arith, fewer S fs, r)) in
    omega (arith, a, b)))

pub second_left : (p : Option Part) → HasSecond p → parts_left p ≡ 4
second_left (Some p) h = refl
second_left None h = absurd h

pushed : (S : Block) (fs : List Frame) (f : Frame) → AreFrames S fs → IsFrame S f → AreFrames S (fs ++ f ∷ [])
pushed S [] f h i = (i, tt)
pushed S (g ∷ fs) f h i = (h.0, pushed S fs f h.1 i)

popped : (S : Block) (fs : List Frame) (f : Frame) → AreFrames S (fs ++ f ∷ []) → AreFrames S fs × IsFrame S f
popped S [] f h = (tt, h.0)
popped S (g ∷ fs) f h = let r = popped S fs f h.1 in ((h.0, r.0), r.1)

pub parts_at_most : (p : Option Part) → parts_left p ≤ 4
parts_at_most None = omega arith
parts_at_most (Some p) = omega arith

pub parts_at_least : (p : Option Part) → 3 ≤ parts_left p
parts_at_least None = omega arith
parts_at_least (Some p) = omega arith

-- the last of some blocks that wait is taken off
pub taken : (S : Block) (base : ℕ) (items xs : List Frame) (f : Frame) → items ≡ xs ++ f ∷ [] → base < length items → AreFrames S (drop base items)
    → (base ≤ length xs) × (drop base items ≡ drop base xs ++ f ∷ []) × (take base items ≡ take base xs) × AreFrames S (drop base xs) × IsFrame S f
taken S base items xs f e h a =
    let b : base ≤ length xs = omega (arith, ap length e, length-append xs (f ∷ []), h) in
    let d : drop base items ≡ drop base xs ++ f ∷ [] = ap (drop base) e ∙ drop-append-le base xs (f ∷ []) b in
    let p = popped S (drop base xs) f (rw d at a) in
    (b, d, ap (take base) e ∙ take-append-le base xs (f ∷ []) b, p.0, p.1)

-- one more is put after them
pub placed : (S : Block) (base : ℕ) (xs : List Frame) (f : Frame) → base ≤ length xs → AreFrames S (drop base xs) → IsFrame S f
    → (base ≤ length (xs ++ f ∷ [])) × (drop base (xs ++ f ∷ []) ≡ drop base xs ++ f ∷ []) × (take base (xs ++ f ∷ []) ≡ take base xs) × AreFrames S (drop base (xs ++ f ∷ []))
placed S base xs f h a i =
    let d : drop base (xs ++ f ∷ []) ≡ drop base xs ++ f ∷ [] = drop-append-le base xs (f ∷ []) h in
    (omega (arith, length-append xs (f ∷ []), h), d, take-append-le base xs (f ∷ []) h, rw d (pushed S (drop base xs) f a i))

-- ---- how deep they are

-- one more block that waits is inside one block more than the last
pub nested_push : (d : ℕ) (fs : List Frame) (f : Frame) → AreNested d fs → f.level.depth ≡ d + length fs → AreNested d (fs ++ f ∷ [])
nested_push d [] f h e = (omega (arith, e), tt)
nested_push d (g ∷ fs) f h e = (h.0, nested_push (suc d) fs f h.1 (omega (arith, e)))

pub nested_pop : (d : ℕ) (fs : List Frame) (f : Frame) → AreNested d (fs ++ f ∷ []) → AreNested d fs × (f.level.depth ≡ d + length fs)
nested_pop d [] f h = (tt, omega (arith, h.0))
nested_pop d (g ∷ fs) f h = let r = nested_pop (suc d) fs f h.1 in ((h.0, r.0), omega (arith, r.1))
