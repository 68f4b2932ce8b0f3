-- Something that is done for one thing after another, as far as a loop has come.
use Rattle.std.proofs.Common.{◌≡◌, ℕ, ◌+◌, ◌<◌, List, [], ◌∷◌, ◌++◌, take, get_or, length, sym, ◌∙◌, ap, arith, Bor}
use Rattle.std.specs.Prelude.{option_map, MatchOption, Option, Some, None}
use Rattle.std.specs.List.{range_with_len}
use Rattle.std.proofs.lemmas.List.{map-id}
use Rattle.std.proofs.lemmas.List.FromFn.{map-range_with_len_more}
use Rattle.std.proofs.lemmas.List.Sums.{fold-append, fold_more}
use Rattle.rst_transform_work.specs.declared.context.Context.{Context}
use Rattle.rst_transform_work.specs.Known.{Known, Makes}
use Rattle.rst_transform_references.specs.Links.{all, each}
use Rattle.rst_transform_references.specs.Table.{Links}

-- one number more
pub range_more : (a n j : ℕ) → a + n ≡ j → range_with_len a (n + 1) ≡ range_with_len a n ++ j ∷ []
range_more a n j is = sym (map-id (range_with_len a (n + 1))) ∙ map-range_with_len_more (λ k. k) a n j is ∙ ap (λ l. l ++ j ∷ []) (map-id (range_with_len a n))

pub all_next : {S : Type 0} (step : ℕ → S → S) (n : ℕ) (state : S) → all step (range_with_len 0 (n + 1)) state ≡ step n (all step (range_with_len 0 n) state)
all_next step n state = ap (λ list. all step list state) (range_more 0 n n (omega arith)) ∙ fold-append (λ done one. step one done) state (range_with_len 0 n) (n ∷ [])

pub all_more : {A S : Type 0} (step : A → S → S) (list : List A) (i : ℕ) (one : A) (state : S) → i < length list → one ≡ get_or list i one → all step (take (i + 1) list) state ≡ step one (all step (take i list) state)
all_more step list i one state within at = fold_more (λ done one. step one done) state list i one within ∙ ap (λ x. step x (all step (take i list) state)) (sym at)

-- what a borrowed value is, where there is one
pub now_is : {X : Type 0} (found : Option (Bor X)) (is : Option X) → MatchOption found (is ≡ None) (λ one. is ≡ Some one.now) → option_map (λ one. one.now) found ≡ is
now_is None is none = sym none
now_is (Some one) is some = sym some

-- where a step changes the context
pub each_next : (step : ℕ → Links → Known → Links × Known) (n : ℕ) (before middle after : Context) (links done next : Links) → Makes (each step (range_with_len 0 n) links) before middle done → Makes (step n done) middle after next
    → Makes (each step (range_with_len 0 (n + 1)) links) before after next
each_next step n before middle after links done next makes more known h =
    let made = makes known h in rw (all_next (λ one state. step one state.0 state.1) n (links, known), ← made.0) (more _ made.1)

pub each_more : {A : Type 0} (step : A → Links → Known → Links × Known) (list : List A) (i : ℕ) (one : A) (before middle after : Context) (links done next : Links) → i < length list → one ≡ get_or list i one
    → Makes (each step (take i list) links) before middle done → Makes (step one done) middle after next → Makes (each step (take (i + 1) list) links) before after next
each_more step list i one before middle after links done next within at makes more known h =
    let made = makes known h in rw (all_more (λ thing state. step thing state.0 state.1) list i one (links, known) within at, ← made.0) (more _ made.1)
