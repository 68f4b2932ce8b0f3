-- E-mail addresses.
use Rattle.std.proofs.Common.{◌≡◌, ⊎_elim, ℕ, ◌+◌, ◌-◌, ◌<◌, ◌≤◌, Bool, true, false, not, ◌&&◌, ◌||◌, ◌==◌, cond, List, [], ◌∷◌, Option, Some, None, length, option_map, get_or, unwrap_or, true≢false, refl, sym, ap, ap₂, ◌∙◌, subst, arith}
use Rattle.std.specs.Prelude.{nat_lt}
use Rattle.std.specs.Option.{option_or}
use Rattle.std.specs.Str.{chars, IsUtf8}
use Rattle.std.proofs.Math.Utf8.{encode, encodes}
use Rattle.std.proofs.lemmas.Str.{encode_ascii, encodes-chars}
use Rattle.std.proofs.lemmas.Bool.{le-ltb, ltb-true, ne_eqb, and_parts, and_left, or_parts, cond_both, cases_lt, false_from_ne_true}
use Rattle.std.proofs.lemmas.List.{get_or_past}
use Rattle.std.proofs.lemmas.List.Folds.{list_any-append, list_any_at}
use Rattle.std.proofs.Math.Bool.{and-false}
use Rattle.rst_text.specs.Escapes.{has_backslash}
use Rattle.rst_text.specs.Places.{first_from, last_from, IsFirst, IsLast}
use Rattle.rst_text.proofs.PlacesLemmas.{first_from-is, first_from-IsFirst, last_from-is, last_from-last}
use Rattle.rst_text.proofs.Choices.{chosen}
use Rattle.rst_text.specs.Characters.{Text, has}
use Rattle.rst_inline_scan.specs.Registered.{ends_link}
use Rattle.rst_inline_scan.specs.Mail.{holds_at_sign, is_address_char, is_address_at, is_in_user, user_stop, has_at_sign, is_in_host, host_stop, host_end, after_user, address_end, address_piece, address, is_whole, is_address}
use Rattle.rst_inline_scan.specs.declared.piece.Piece.{Piece}
use Rattle.rst_inline_scan.proofs.FitLemmas.{Fit, Fit-none, Fit-some}
use Rattle.rst_inline_scan.proofs.RunLemmas.{Runs, run-stop, run-of, run-later}
use Rattle.rst_inline_scan.proofs.RegisteredLemmas.{has-past, ends_link-past}

-- ---- the runs

pub user_stop-is : (t : Text) (i stop : ℕ) → Runs (is_in_user t) i (length t) stop → stop ≡ user_stop t i
unfolding user_stop
user_stop-is t i stop run = run-stop (is_in_user t) i (length t) stop run

pub user_stop-runs : (t : Text) (i : ℕ) → i ≤ length t → Runs (is_in_user t) i (length t) (user_stop t i)
unfolding user_stop
user_stop-runs t i h = run-of (is_in_user t) i (length t) h

pub host_stop-is : (t : Text) (i stop : ℕ) → Runs (is_in_host t) i (length t) stop → stop ≡ host_stop t i
unfolding host_stop
host_stop-is t i stop run = run-stop (is_in_host t) i (length t) stop run

-- ---- past the end

none-zero : is_address_char 0 ≡ false
unfolding is_address_char
none-zero = refl

pub is_address_at-past : (t : Text) (k : ℕ) → length t ≤ k → is_address_at t k ≡ false
is_address_at-past t k past = ap₂ (λ a b. a || b) (ap is_address_char (get_or_past t k 0 past) ∙ none-zero) (and_left (has t k 92) (not (has t (k + 1) 92)) (has-past t k 92 past))

pub is_in_host-past : (t : Text) (k : ℕ) → length t ≤ k → is_in_host t k ≡ false
is_in_host-past t k past = ap₂ (λ a b. a || b) (is_address_at-past t k past) (has-past t k 46 past)

-- ---- the host

pub host_end-is : (t : Text) (i stop : ℕ) (r : Option ℕ) → is_address_at t i ≡ true → stop ≡ host_stop t i → IsLast (ends_link t) (i + 2) (stop + 2) r → r ≡ host_end t i
unfolding host_end
host_end-is t i stop r begins same h =
    let many : stop + 2 - (i + 2) ≡ stop - i = omega arith in
    rw begins (subst (λ n. r ≡ last_from (ends_link t) (i + 2) n) (many ∙ ap (λ s. s - i) same) (last_from-is (ends_link t) (i + 2) (stop + 2) r h))

last-within : (t : Text) (i n e : ℕ) → last_from (ends_link t) (i + 2) n ≡ Some e → (i + 2 ≤ e) × (e ≤ length t)
last-within t i n e h =
    let many : i + 2 + n - (i + 2) ≡ n = omega arith in
    let found : IsLast (ends_link t) (i + 2) (i + 2 + n) (Some e) = subst (IsLast (ends_link t) (i + 2) (i + 2 + n)) (ap (last_from (ends_link t) (i + 2)) many ∙ h) (last_from-last (ends_link t) (i + 2) (i + 2 + n) (omega arith)) in
    (found.0, ⊎_elim (λ past. absurd (true≢false (sym found.2 ∙ ends_link-past t e past))) (λ within. within) (cases_lt (length t) e))

pub host_end-fits : (t : Text) (i e : ℕ) → host_end t i ≡ Some e → (i + 2 ≤ e) × (e ≤ length t)
unfolding host_end
host_end-fits t i e h = last-within t i (host_stop t i - i) e (chosen (is_address_at t i) (last_from (ends_link t) (i + 2) (host_stop t i - i)) e h).1

-- ---- the whole

address_end-user : (t : Text) (i e : ℕ) → address_end t i ≡ Some e → (is_address_at t i ≡ true) × (host_end t (user_stop t i + 1) ≡ Some e)
unfolding address_end
address_end-user t i e h =
    let user = chosen (is_address_at t i) (after_user t (user_stop t i)) e h in
    (user.0, (chosen (has_at_sign t (user_stop t i)) (host_end t (user_stop t i + 1)) e user.1).1)

pub address_end-fits : (t : Text) (i e : ℕ) → i ≤ length t → address_end t i ≡ Some e → (i < e) × (e ≤ length t)
address_end-fits t i e within h =
    let host = host_end-fits t (user_stop t i + 1) e (address_end-user t i e h).1 in
    let run = user_stop-runs t i within in
    let above = run.above in
    let order = host.0 in
    (omega arith, host.1)

address_piece-fits : (t : Text) (i : ℕ) (r : Option ℕ) → ((e : ℕ) → r ≡ Some e → (i < e) × (e ≤ length t)) → Fit t i (option_map (address_piece i) r)
address_piece-fits t i (Some e) h = let found = h e refl in Fit-some t i _ (record { begins = refl; some = found.0; within = found.1; above = omega arith; order = (let less = found.0 in omega arith); limit = omega arith })
address_piece-fits t i None h = Fit-none t i

pub address-fits : (t : Text) (i : ℕ) → i ≤ length t → Fit t i (address t i)
unfolding address
address-fits t i within = address_piece-fits t i (address_end t i) (λ e h. address_end-fits t i e within h)

pub no-at_sign : (t : Text) (k : ℕ) → has_at_sign t k ≡ false → after_user t k ≡ None
no-at_sign t k h = ap (λ b. cond b (host_end t (k + 1)) None) h

pub no-host : (t : Text) (k : ℕ) → has_at_sign t k ≡ true → host_end t (k + 1) ≡ None → after_user t k ≡ None
no-host t k h none = ap (λ b. cond b (host_end t (k + 1)) None) h ∙ none

-- where none begins whose @ would be at the stop, none begins before the stop
pub none-before : (t : Text) (start stop : ℕ) → start ≤ length t → stop ≡ user_stop t start → after_user t stop ≡ None → (i : ℕ) → start ≤ i → i < stop → address_end t i ≡ None
unfolding address_end
none-before t start stop within is none i above below =
    let runs : Runs (is_in_user t) start (length t) stop = subst (Runs (is_in_user t) start (length t)) (sym is) (user_stop-runs t start within) in
    let same : stop ≡ user_stop t i = user_stop-is t i stop (run-later (is_in_user t) start i (length t) stop runs above (omega arith)) in
    cond_both (is_address_at t i) (after_user t (user_stop t i)) None (λ r. r ≡ None) (λ yes. subst (λ s. after_user t s ≡ None) same none) (λ no. refl)

-- ---- without an @

absent : (t : Text) (k : ℕ) → holds_at_sign t ≡ false → has t k 64 ≡ false
absent t k h = false_from_ne_true (has t k 64) (λ here.
    let parts = and_parts (nat_lt k (length t)) (get_or t k 0 == 64) here in
    true≢false (sym (list_any_at (λ c. c == 64) t k 0 (ltb-true k (length t) parts.0) parts.1) ∙ h))

no-user : (t : Text) (k : ℕ) → holds_at_sign t ≡ false → after_user t k ≡ None
no-user t k h = no-at_sign t k (and_left (has t k 64) (not (has t (k - 1) 92)) (absent t k h))

no-end : (t : Text) (i : ℕ) → holds_at_sign t ≡ false → address_end t i ≡ None
unfolding address_end
no-end t i h = cond_both (is_address_at t i) (after_user t (user_stop t i)) None (λ r. r ≡ None) (λ yes. no-user t (user_stop t i) h) (λ no. refl)

pub no-address : (t : Text) (i : ℕ) → holds_at_sign t ≡ false → address t i ≡ None
unfolding address
no-address t i h = ap (option_map (address_piece i)) (no-end t i h)

-- such a text is no address
pub no-whole : (t : Text) → holds_at_sign t ≡ false → is_address t ≡ false
unfolding is_address
no-whole t h = ap (λ r. not (has_backslash t) && is_whole t r) (no-end t 0 h) ∙ and-false (not (has_backslash t))

-- ---- its bytes

absent-encoded : (cs : Text) → holds_at_sign (encodes cs) ≡ false → holds_at_sign cs ≡ false
absent-encoded [] h = refl
absent-encoded (c ∷ cs) h =
    let parts = or_parts (holds_at_sign (encode c)) (holds_at_sign (encodes cs)) (sym (list_any-append (λ c. c == 64) (encode c) (encodes cs)) ∙ h) in
    let first : (c == 64) ≡ false = ⊎_elim
    (λ low. (or_parts (c == 64) false (subst (λ bs. holds_at_sign bs ≡ false) (encode_ascii c low) parts.0)).0)
    (λ high. ne_eqb c 64 (λ same. omega arith))
    (cases_lt c 128) in
    rw first (absent-encoded cs parts.1)

-- a text holds none whose bytes hold none
pub absent-chars : (bs : List ℕ) → IsUtf8 bs → holds_at_sign bs ≡ false → holds_at_sign (chars bs) ≡ false
absent-chars bs utf8 h = absent-encoded (chars bs) (subst (λ t. holds_at_sign t ≡ false) (sym (encodes-chars bs utf8)) h)
