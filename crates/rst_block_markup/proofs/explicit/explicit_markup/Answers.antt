use Rattle.std.proofs.Common.{drop, arith, rules, ◌∙◌, ap, sym}
use Rattle.rst_text.specs.ViewBlock.{block_of}
use Rattle.rst_markup_blocks.specs.Explicit.{explicit_of}
use Rattle.rst_block_state.proofs.Calls.{keeps_as, refuses, refused_as}
use Rattle.rst_block_markup.proofs.MarkupReads.{explicit_some, explicit_reads, found_reads}
use Rattle.rst_block_markup.proofs.MarkupPaid.{markup_paid}
use Rattle.rst_block_markup.proofs.explicit.explicit_markup.Goals as goal

pub explicit_markup_of-requires-clause-later : goal.explicit_markup_of-requires-clause-later
explicit_markup_of-requires-clause-later c =
    omega (arith, explicit_some (block_of c.args.view.now) c.args.level.now.at c.requires.inside, c.end-end.ensures, c.explicit-found.ensures.end, c.begin_markup.ensures.at)

pub returns-in_err-begin_markup-clause-read : goal.returns-in_err-begin_markup-clause-read
returns-in_err-begin_markup-clause-read c =
    let read = explicit_reads c.args.level.now (block_of c.args.view.now) c.args.pass.now.numbers c.end-end.result c.requires.kind (c.end-end.ensures ∙ c.explicit-found.ensures.end) in
    refuses c.from_residual.result c.in_err-begin_markup.field-0.0 _ _ (search rules) (refused_as c.in_err-begin_markup.field-0.0 _ _ _ _ (sym read) c.in_err-begin_markup.ensures.read)

pub returns-clause-read : goal.returns-clause-read
returns-clause-read c =
    let end = c.end-end.result in
    keeps_as c.explicit_markup_of.result _ _ _
    (found_reads c.args.level.now c.begin_markup.new.level (block_of c.args.view.now) c.explicit-found.result end c.args.pass.now.numbers c.begin_markup.new.pass.numbers c.requires.kind
    (c.end-end.ensures ∙ c.explicit-found.ensures.end) c.explicit-found.ensures.explicit c.begin_markup.ensures.at c.in_ok-begin_markup.ensures.read)
    c.explicit_markup_of.ensures.read

pub explicit_markup_of-requires-clause-explicit : goal.explicit_markup_of-requires-clause-explicit
explicit_markup_of-requires-clause-explicit c = c.explicit-found.ensures.explicit ∙ ap (λ i. explicit_of i (drop i (block_of c.args.view.now))) (sym c.begin_markup.ensures.at)

pub returns-clause-paid : goal.returns-clause-paid
returns-clause-paid c =
    markup_paid c.args.level.now c.begin_markup.new.level c.explicit_markup_of.new.level (block_of c.args.view.now) c.explicit-found.result c.end-end.result c.explicit_markup_of.result c.args.pass.now.looks _ _ _ c.requires.inside c.requires.kind
    (c.end-end.ensures ∙ c.explicit-found.ensures.end) c.explicit-found.ensures.explicit c.begin_markup.ensures.at c.in_ok-begin_markup.ensures.kept
    c.explicit-found.ensures.looked.1 c.explicit-found.ensures.looked.0 c.in_ok-begin_markup.ensures.run c.begin_markup.ensures.low c.explicit_markup_of.ensures.paid
