-- What a page gathers, and what of it is written.
use Rattle.std.proofs.Common.{◌≡◌, ℕ, ◌+◌, ◌-◌, ◌^◌, ◌<◌, ◌≤◌, min, List, [], ◌++◌, length, take, Bool, true, false, Option, Result, Ok, Err, sym, ◌∙◌, ap, subst, arith, length-append, length-take-le, append_assoc, append-nil, refl, true≢false}
use Rattle.std.proofs.Math.Seq.{take-append-add, take-length}
use Rattle.std.proofs.lemmas.List.{take-append-le}
use borrow.Rule.Slice.PartMut.{put_mid}
use Rattle.rst_text.proofs.WriteLemmas.{sent_nothing, sent_then}
use Rattle.rst_text.specs.declared.counted.Counted.{Counted}
use Rattle.rst_text.specs.Counted.{has_failed, between, Gains, IsSent}
use Rattle.rst_tree.specs.declared.page.Page.{Page}
use Rattle.rst_tree.specs.declared.fault.PrintFault.{PrintFault}
use Rattle.rst_tree.specs.declared.fault.PrintFault.TheVariants.{Write}
use Rattle.rst_tree.specs.Faults.{IsEnd, Prints}
use Rattle.rst_tree.specs.Sends.{page_bytes, Came, IsTaken, Sends, Turns}

-- the first of some bytes that were copied to a place
pub take-placed : (a k n : ℕ) (xs ys : List ℕ) → a ≤ length xs → n ≤ length ys → take (a + n) (put_mid a k xs ys) ≡ take a xs ++ take n ys
take-placed a k n xs ys within few =
    ap (λ m. take (m + n) (put_mid a k xs ys)) (sym (length-take-le a xs within)) ∙ take-append-add (take a xs) _ n ∙ ap (λ l. take a xs ++ l) (take-append-le n ys _ few)

module _ {W : Type 0} {N : ℕ} {Takes : W → Option ℕ → List ℕ → W → Type 0} {contents : W → Option (List ℕ)} where
  -- a text that is gathered
  pub Sends-gathered : (bytes : List ℕ) (a : Counted W) (p p' : Page N) → has_failed a ≡ false → page_bytes p' ≡ page_bytes p ++ bytes → p'.taken ≡ p.taken → Sends Takes contents bytes a p a p'
  Sends-gathered bytes a p p' going same taken = record {
    after = λ start before came. record {
      sent = came.sent;
      calls = came.calls;
      counted = taken ∙ came.counted;
      gathered = λ e. ap (λ l. came.sent ++ l) same ∙ sym (append_assoc came.sent (page_bytes p) bytes) ∙ ap (λ l. l ++ bytes) (came.gathered e);
      cut = λ e. absurd (true≢false (sym e ∙ going));
    };
  }

  -- what the page contained, and a text after it, are written
  pub Sends-written : (text bytes : List ℕ) (a b : Counted W) (p p' : Page N) (count : ℕ) → has_failed a ≡ false → page_bytes p ++ text ≡ bytes → IsTaken Takes contents a b bytes count
      → (has_failed b ≡ false → page_bytes p' ≡ []) → p'.taken ≡ min (p.taken + count) (2 ^ 64 - 1) → Sends Takes contents text a p b p'
  unfolding sent_then
  Sends-written text bytes a b p p' count going is written empties taken = record {
    after = λ start before came.
        let whole = came.calls.whole going in
        let all : came.sent ++ bytes ≡ before ++ text =
        ap (λ l. came.sent ++ l) (sym is) ∙ sym (append_assoc came.sent (page_bytes p) text) ∙ ap (λ l. l ++ text) (came.gathered going) in
        record {
          sent = came.sent ++ bytes;
          calls = sent_then came.calls whole written.calls;
          counted = let sum : p'.taken ≡ min (0 + (came.calls.taken + written.calls.taken)) (2 ^ 64 - 1) = omega (arith, taken, came.counted, written.count_is) in sum;
          gathered = λ e. ap (λ l. (came.sent ++ bytes) ++ l) (empties e) ∙ append-nil (came.sent ++ bytes) ∙ all;
          cut = λ e. let short : came.calls.taken + written.calls.taken < length (before ++ text) = omega (arith, whole, written.count_is, written.cut e, length-append came.sent bytes, ap length all) in (all, short);
        };
  }

module _ {W : Type 0} {N : ℕ} {Takes : W → Option ℕ → List ℕ → W → Type 0} {contents : W → Option (List ℕ)} (text : List ℕ) (a b c : Counted W) (p q r : Page N)
    (going : has_failed a ≡ false) (empty : page_bytes p ≡ []) (none : p.taken ≡ 0) (sends : Sends Takes contents text a p b q) (turns : Turns Takes contents b q c r) where
  -- what came when the page was turned
  turned : Came Takes contents a text c r
  unfolding sent_nothing
  turned =
      let start : Came Takes contents a [] a p = record {
        sent = [];
        calls = sent_nothing a;
        counted = let zero : p.taken ≡ min (0 + 0) (2 ^ 64 - 1) = omega (arith, none) in zero;
        gathered = λ _. empty;
        cut = λ e. absurd (true≢false (sym e ∙ going));
      } in
      subst (λ t. Came Takes contents a t c r) (append-nil text) (turns.0.after a text (sends.after a [] start))

  all_sent : (failed : Bool) → has_failed c ≡ failed → turned.sent ≡ text
  all_sent false e = sym (append-nil turned.sent) ∙ ap (λ l. turned.sent ++ l) (sym (turns.1 e)) ∙ turned.gathered e
  all_sent true e = (turned.cut e).0

  -- the calls of a print
  pub printed_calls : IsSent Takes contents a c text
  printed_calls = subst (IsSent Takes contents a c) (all_sent (has_failed c) refl) turned.calls

  -- the end of a print
  pub printed : {A : Type 0} (result : Result A PrintFault) → IsEnd r.taken (has_failed c) result → Prints (between contents a c) text result
  printed (Ok done) end =
      (subst (Gains (between contents a c)) (ap (λ n. take n turned.sent) (turned.calls.whole end) ∙ take-length turned.sent ∙ all_sent false end) turned.calls.gained, end)
  printed (Err (Write done)) end =
      let cut = turned.cut end.0 in
      record {
        came = turned.calls.taken;
        within = omega (arith, cut.1);
        counted = end.1 ∙ turned.counted;
        gained = subst (λ t. Gains (between contents a c) (take turned.calls.taken t)) cut.0 turned.calls.gained;
        failed = end.0;
      }
