use Rattle.rst_transform_substitutions.proofs.sizes.measure_one.Goals as goal

pub returns-then-not-fits : goal.returns-then-not-fits
returns-then-not-fits c = (c.in_ok-stuck.ensures.size, λ nodes is. absurd (cc))

pub returns : goal.returns
returns c = (c.in_ok-stuck.ensures.size, λ nodes is. rw is at c.in_ok-copy.ensures)
