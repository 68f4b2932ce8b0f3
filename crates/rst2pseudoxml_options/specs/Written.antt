-- Argument words that are written out, and what they choose, for worked examples (Docutils Front-End Tools, 'rst2pseudoxml').
use Prim.Native.String.{String}
use Rattle.std.specs.Prelude.{◌≡◌, List, [], ◌∷◌, map, Option, Some, None, Ok, Err, codes}
use Rattle.std.specs.Borrow.{Bor}
use Rattle.clap.specs.declared.builder.value_parser.ValueParser.{ValueParser}
use Rattle.clap.specs.declared.builder.value_parser.ValueParser.TheVariants.{Names as JustNames}
use Rattle.clap.specs.declared.error.kind.ErrorKind.{ErrorKind}
use Rattle.clap.specs.Words.{Text}
use Rattle.rst2pseudoxml_options.specs.Options.{Choice, options_of, usual}
use Rattle.rst2pseudoxml_options.specs.Tree.{tree_options_of, Chosen}
use Rattle.rst2pseudoxml_options.specs.TreeCommand.{format_names, level_names, profile_names, Tests}
use Rattle.rst2pseudoxml_options.specs.declared.fault.OptionFault.{OptionFault}

-- the words choose these settings, and name no SOURCE
abbrev pub Sets : List String → Choice → Type 0
Sets words choice = options_of (map codes words) ≡ Ok (choice, None)

-- the words choose the usual settings and name this SOURCE
abbrev pub Names : List String → String → Type 0
Names words source = options_of (map codes words) ≡ Ok (usual, Some (codes source))

-- the words have this fault, and none before it
abbrev pub Fails : List String → OptionFault → Type 0
Fails words fault = options_of (map codes words) ≡ Err fault

-- something at no place
abbrev pub placed : {X : Type 0} → X → Bor X
placed x = record { ref_ptr = (0, 0); now = x }

-- the test of names that are written out
abbrev pub test_of : List Text → ValueParser
test_of names = JustNames (placed (map placed names))

-- the tests of `rst-tree`, with names that are written out
abbrev pub written_tests : Tests
written_tests = record {
  levels = test_of level_names;
  profiles = test_of profile_names;
  formats = test_of format_names;
}

-- the words of `rst-tree` choose this
abbrev pub TreeTakes : List String → Chosen → Type 0
TreeTakes words chosen = tree_options_of written_tests (map codes words) ≡ Ok chosen

-- they are refused by this kind
abbrev pub TreeRefuses : List String → ErrorKind → Type 0
TreeRefuses words kind = tree_options_of written_tests (map codes words) ≡ Err (kind ∷ [])
