-- Options and what calls make, written out, for worked examples. No rule of markup.
use Prim.Native.String.{String}
use Rattle.std.specs.Prelude.{ℕ, Ok, codes}
use Rattle.rst_c.specs.Answers.{Wanted}
use Rattle.rst_c.specs.declared.options.RstOptions.{RstOptions}

-- RST_OPTIONS of the header
abbrev pub usual_options : RstOptions
usual_options = record {
  size = 16;
  report = 2;
  halt = 4;
  exit_status = 5;
  tab_width = 8;
  line_length_limit = 10000;
  no_doc_title = 0;
  no_doc_info = 0;
  profile = 0;
  unused = 0;
}

-- a tree, JSON or records, and messages were made, with this exit status
abbrev pub made_wanted : String → String → ℕ → Wanted
made_wanted tree messages status = Ok (record { out = codes tree; err = codes messages; status = status })
