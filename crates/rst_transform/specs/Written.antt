-- Documents that are written out, and what is left of them after all transforms, for worked examples. No rule of markup.
use Prim.Native.String.{String}
use Rattle.std.proofs.Common.{arith}
use Rattle.std.specs.Prelude.{◌≡◌, true, List, [], ◌∷◌, codes, map}
use Rattle.rst_settings.specs.Parts.{no_parts}
use Rattle.rst_settings.specs.Profile.{profile_of}
use Rattle.rst_settings.specs.declared.Settings.{Settings}
use Rattle.rst_settings.specs.declared.Threshold.TheVariants.{Never, Severe, Warning}
use Rattle.rst_tree.specs.declared.key.Key.TheVariants.{Anonymous, Auto, OwnName, Rawsource, Refname}
use Rattle.rst_tree.specs.declared.node.Node.{Node}
use Rattle.rst_tree.specs.declared.tag.Tag.TheVariants.{FootnoteReference, Paragraph, Reference, Section, Target, Title, Transition}
use Rattle.rst_transform_names.specs.Trees.{counts, document_element, element, IsPrintedIn, says, text}
use Rattle.rst_transform.specs.Finishing.{leaves}

-- the settings of a run without options
abbrev pub usual : Settings
usual = record { report = Warning; halt = Severe; exit = Never; title = true; info = true; tab = 8; limit = 10000; parts = no_parts; tab_from = omega arith; tab_to = omega arith }

-- of a document of these nodes, in which no number was given to a message, these lines are printed after all transforms, without a source
abbrev pub Leaves : Settings → List Node → List String → Type 0
Leaves settings nodes lines = IsPrintedIn (leaves 0 (profile_of settings) settings (document_element nodes)).0 lines

-- the list of its messages has these texts, in order
abbrev pub HasMessageTexts : Settings → List Node → List String → Type 0
HasMessageTexts settings nodes texts = map (λ note. note.text) (leaves 0 (profile_of settings) settings (document_element nodes)).1 ≡ map codes texts

-- a paragraph that is a reference to a name, and an anonymous reference; each with its text and its source text
abbrev pub reference_paragraph : String → String → Node
reference_paragraph name source = element Paragraph [] (element Reference (says Rawsource source ∷ says Refname name ∷ []) (text name ∷ []) ∷ [])

abbrev pub anonymous_reference : String → String → Node
anonymous_reference words source = element Reference (counts Anonymous 1 ∷ says Rawsource source ∷ []) (text words ∷ [])

-- a paragraph that is a reference to the next numbered footnote
abbrev pub numbered_reference : Node
numbered_reference = element Paragraph [] (element FootnoteReference (says Auto "1" ∷ says Rawsource "[#]_" ∷ []) [] ∷ [])

-- a target that leads where another name leads
abbrev pub indirect_target : String → String → Node
indirect_target name other = element Target (says OwnName name ∷ says Refname other ∷ []) []

-- a section of a name, with its title and what follows it
abbrev pub named_section : String → String → List Node → Node
named_section name title nodes = element Section (says OwnName name ∷ []) (element Title [] (text title ∷ []) ∷ nodes)

-- a transition
abbrev pub transition : Node
transition = element Transition [] []
