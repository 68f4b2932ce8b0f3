-- Texts that are written to a writer one after another.
use Rattle.std.proofs.Common.{◌≡◌, ◌∙◌, ℕ, ◌+◌, ◌<◌, List, [], ◌∷◌, ◌++◌, length, take, drop, Option, Result, Ok, Err, false, refl, sym, ap, arith, add_assoc, zero-add, append-nil, length-append, length-drop, true≢false}
use Rattle.std.proofs.KnownBytes.{Appends-nil, Appends-trans}
use Rattle.std.proofs.Math.Seq.{take-append-add, take-length}
use Rattle.std.proofs.lemmas.List.{take-append-le}
use Rattle.std.proofs.lemmas.List.Folds.{concat-append}
use Rattle.std.specs.List.{concat}
use Rattle.rst_text.specs.declared.counted.Counted.{Counted}
use Rattle.rst_text.specs.Counted.{inner_of, has_failed, between, Gains, IsSent, Puts, Written, taken_of}
use Rattle.rst_text.specs.Counted.Written.{all, empty, some, last}

module _ {W : Type 0} (Takes : W → Option ℕ → List ℕ → W → Type 0) where
  -- calls that write some pieces whole, and then those that write others
  pub written_then : {a b c : W} {pieces more : List (List ℕ)} {n m : ℕ} → Written Takes a pieces b n → n ≡ length (concat pieces) → Written Takes b more c m → Written Takes a (pieces ++ more) c (n + m)
  written_then {m = m} all whole rest = rw (zero-add m) rest
  written_then (empty calls) whole rest = empty (written_then calls whole rest)
  written_then {m = m} (some {piece = piece} {pieces = pieces} {n = k} {taken = t} gives within call calls) whole rest =
      rw (add_assoc k t m)
      (some gives within call (written_then calls (omega (arith, whole, length-append piece (concat pieces), length-append (drop k piece) (concat pieces), length-drop k piece)) rest))
  written_then (last {piece = piece} {pieces = pieces} more call) whole rest = absurd (omega (arith, whole, more, length-append piece (concat pieces)))

  -- calls of which the last failed: nothing that comes after is written
  pub written_cut : {a b : W} {pieces : List (List ℕ)} {n : ℕ} (later : List (List ℕ)) → Written Takes a pieces b n → n < length (concat pieces) → Written Takes a (pieces ++ later) b n
  written_cut later all short = absurd (omega (arith, short))
  written_cut later (empty calls) short = empty (written_cut later calls short)
  written_cut later (some {piece = piece} {pieces = pieces} {n = k} gives within call calls) short =
      some gives within call (written_cut later calls (omega (arith, short, length-append piece (concat pieces), length-append (drop k piece) (concat pieces), length-drop k piece)))
  written_cut later (last more call) short = last more call

module _ {W : Type 0} {Takes : W → Option ℕ → List ℕ → W → Type 0} {contents : W → Option (List ℕ)} where
  -- no call writes nothing
  unfoldable pub sent_nothing : (writer : Counted W) → IsSent Takes contents writer writer []
  sent_nothing writer = record { pieces = []; taken = 0; are_pieces = refl; calls = all; gained = Appends-nil (contents (inner_of writer)); whole = λ _. refl }

  -- a text that is written after another, which was written whole
  unfoldable pub sent_then : {a b c : Counted W} {x y : List ℕ} → (s : IsSent Takes contents a b x) → s.taken ≡ length x → IsSent Takes contents b c y → IsSent Takes contents a c (x ++ y)
  sent_then {a} {b} {c} {x} {y} s whole t = record {
    pieces = s.pieces ++ t.pieces;
    taken = s.taken + t.taken;
    are_pieces = concat-append s.pieces t.pieces ∙ ap (λ l. l ++ concat t.pieces) s.are_pieces ∙ ap (λ l. x ++ l) t.are_pieces;
    calls = written_then Takes s.calls (whole ∙ ap length (sym s.are_pieces)) t.calls;
    gained = rw (whole, take-append-add x y t.taken) (Appends-trans _ _ _ _ _ (rw (whole, take-length x) at s.gained) t.gained);
    whole = λ going. let rest = t.whole going in omega (arith, whole, rest, length-append x y);
  }

  -- a text that comes after a write failed
  unfoldable pub sent_cut : {a b : Counted W} {x : List ℕ} (y : List ℕ) → (s : IsSent Takes contents a b x) → s.taken < length x → IsSent Takes contents a b (x ++ y)
  sent_cut {a} {b} {x} y s short = record {
    pieces = s.pieces ++ (y ∷ []);
    taken = s.taken;
    are_pieces = concat-append s.pieces (y ∷ []) ∙ ap (λ l. l ++ concat (y ∷ [])) s.are_pieces ∙ ap (λ l. x ++ l) (append-nil y);
    calls = written_cut Takes (y ∷ []) s.calls (rw s.are_pieces short);
    gained = rw (take-append-le s.taken x y (omega (arith, short))) s.gained;
    whole = λ going. absurd (omega (arith, s.whole going, short));
  }

  -- a text that `write_all` writes
  unfoldable pub sent_at_once : {A : Type 0} {a b : Counted W} {text : List ℕ} (result : Result A ℕ) → Puts (between contents a b) text result
      → Written Takes (inner_of a) (text ∷ []) (inner_of b) (taken_of text result) → IsSent Takes contents a b text
  sent_at_once {A} {a} {b} {text} result puts calls = record {
    pieces = text ∷ [];
    taken = taken_of text result;
    are_pieces = append-nil text;
    calls = calls;
    gained = gained result puts;
    whole = whole result puts;
  }
    where
      gained : (result : Result A ℕ) → Puts (between contents a b) text result → Gains (between contents a b) (take (taken_of text result) text)
      gained (Ok _) puts = rw (take-length text) puts.0
      gained (Err done) puts = puts.1

      whole : (result : Result A ℕ) → Puts (between contents a b) text result → has_failed b ≡ false → taken_of text result ≡ length text
      whole (Ok _) puts going = refl
      whole (Err done) puts going = absurd (true≢false (sym puts.2 ∙ going))
