-- Texts that are sent one after another.
use Rattle.std.proofs.Common.{◌≡◌, ℕ, ◌+◌, ◌<◌, List, [], ◌∷◌, ◌++◌, get_or, length, take, true, Option, refl, sym, ◌∙◌, ap, subst, arith, length-append, append_assoc, append-nil, true≢false}
use Rattle.std.proofs.lemmas.List.{take_more}
use Rattle.std.proofs.lemmas.List.Concat.{flat_map-append}
use Rattle.std.specs.List.{flat_map}
use Rattle.rst_text.proofs.WriteLemmas.{sent_cut}
use Rattle.rst_text.specs.declared.counted.Counted.{Counted}
use Rattle.rst_text.specs.Counted.{has_failed}
use Rattle.rst_tree.specs.declared.page.Page.{Page}
use Rattle.rst_tree.specs.Sends.{Came, Sends}

module _ {W : Type 0} {N : ℕ} {Takes : W → Option ℕ → List ℕ → W → Type 0} {contents : W → Option (List ℕ)} where
  -- nothing is sent where nothing is done
  pub Sends-none : (a : Counted W) (d : Page N) → Sends Takes contents [] a d a d
  Sends-none a d = record { after = λ start before came. subst (λ t. Came Takes contents start t a d) (sym (append-nil before)) came }

  -- a text that a failed writer does not get
  pub Sends-failed : (text : List ℕ) (a : Counted W) (d : Page N) → has_failed a ≡ true → Sends Takes contents text a d a d
  unfolding sent_cut
  Sends-failed text a d failed = record {
    after = λ start before came.
        let cut = came.cut failed in
        record {
          sent = came.sent ++ text;
          calls = sent_cut text came.calls (omega (arith, cut.1, ap length cut.0));
          counted = came.counted;
          gathered = λ going. absurd (true≢false (sym failed ∙ going));
          cut = λ _. let short : came.calls.taken < length (before ++ text) = omega (arith, cut.1, length-append before text) in (ap (λ l. l ++ text) cut.0, short);
        };
  }

  -- two texts that are sent one after the other
  infixl 20 ◌▸◌
  pub ◌▸◌ : {x y : List ℕ} {a : Counted W} {d : Page N} {b : Counted W} {e : Page N} {c : Counted W} {f : Page N}
      → Sends Takes contents x a d b e → Sends Takes contents y b e c f → Sends Takes contents (x ++ y) a d c f
  ◌▸◌ {x} {y} {a} {d} {b} {e} {c} {f} p q = record {
    after = λ start before came. subst (λ t. Came Takes contents start t c f) (append_assoc before x y) (q.after start (before ++ x) (p.after start before came));
  }

  -- the same text in another form
  pub Sends-as : {x y : List ℕ} {a : Counted W} {d : Page N} {b : Counted W} {e : Page N} → Sends Takes contents x a d b e → x ≡ y → Sends Takes contents y a d b e
  Sends-as {x} {y} {a} {d} {b} {e} p same = subst (λ t. Sends Takes contents t a d b e) same p

  -- the text of one more item
  pub Sends-more : {X : Type 0} (g : X → List ℕ) (xs : List X) (i : ℕ) (x : X) {a : Counted W} {d : Page N} {b : Counted W} {e : Page N} {c : Counted W} {f : Page N} → i < length xs
      → Sends Takes contents (flat_map g (take i xs)) a d b e → Sends Takes contents (g (get_or xs i x)) b e c f → Sends Takes contents (flat_map g (take (i + 1) xs)) a d c f
  Sends-more g xs i x fits p q =
      Sends-as (p ▸ q) (sym (ap (flat_map g) (take_more xs i x fits) ∙ flat_map-append g (take i xs) (get_or xs i x ∷ []) ∙ ap (λ y. flat_map g (take i xs) ++ y) (append-nil (g (get_or xs i x)))))

  -- the same, where the item has a name
  pub Sends-item : {X : Type 0} (g : X → List ℕ) (xs : List X) (i : ℕ) (x : X) {a : Counted W} {d : Page N} {b : Counted W} {e : Page N} {c : Counted W} {f : Page N} → x ≡ get_or xs i x → i < length xs
      → Sends Takes contents (flat_map g (take i xs)) a d b e → Sends Takes contents (g x) b e c f → Sends Takes contents (flat_map g (take (i + 1) xs)) a d c f
  Sends-item g xs i x is fits p q = Sends-more g xs i x fits p (Sends-as q (ap g is))

-- what has come so far, and what is still to come, is the whole text
pub record Owes {W : Type 0} {N : ℕ} (Takes : W → Option ℕ → List ℕ → W → Type 0) (contents : W → Option (List ℕ)) (whole rest : List ℕ) (old : Counted W) (page : Page N) (new : Counted W) (page' : Page N) : Type 0 where
  pub came : List ℕ
  pub parts : came ++ rest ≡ whole
  pub sends : Sends Takes contents came old page new page'

module _ {W : Type 0} {N : ℕ} {Takes : W → Option ℕ → List ℕ → W → Type 0} {contents : W → Option (List ℕ)} {whole : List ℕ} {a : Counted W} {d : Page N} where
  -- all is owed at the start
  pub Owes-all : Owes Takes contents whole whole a d a d
  Owes-all = record { came = []; parts = refl; sends = Sends-none a d }

  -- a step from what is owed to what is owed then
  pub Owes-step : {x rest rest' : List ℕ} {b : Counted W} {e : Page N} {c : Counted W} {f : Page N}
      → Owes Takes contents whole rest a d b e → rest ≡ x ++ rest' → Sends Takes contents x b e c f → Owes Takes contents whole rest' a d c f
  Owes-step {x} {rest} {rest'} p first q = record {
    came = p.came ++ x;
    parts = append_assoc p.came x rest' ∙ ap (λ l. p.came ++ l) (sym first) ∙ p.parts;
    sends = p.sends ▸ q;
  }
