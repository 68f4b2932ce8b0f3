use Rattle.std.proofs.Common.{ℕ, Ok, Err, refl, sym, ◌∙◌, true≢false}
use Rattle.rst_text.proofs.WriteLemmas.{sent_at_once}
use Rattle.rst_tree.proofs.page.Page.write.Goals as goal

pub returns-in-Ok : goal.returns-in-Ok
unfolding sent_at_once
returns-in-Ok g c = record {
  calls = sent_at_once {A = ℕ} (Ok 0) c.in-Ok.ensures.bytes c.in-Ok.ensures.call;
  count_is = refl;
  cut = λ failed. absurd (true≢false (sym failed ∙ c.in-Ok.ensures.bytes.1 ∙ c.requires));
}

pub returns-in-Err : goal.returns-in-Err
unfolding sent_at_once
returns-in-Err g c = record {
  calls = sent_at_once {A = ℕ} (Err c.in-Err.done) c.in-Err.ensures.bytes c.in-Err.ensures.call;
  count_is = refl;
  cut = λ failed. c.in-Err.ensures.bytes.0;
}
