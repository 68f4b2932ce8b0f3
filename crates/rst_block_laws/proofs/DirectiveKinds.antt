-- The element of a directive may hold any nodes, and what is read of its options consists of characters of its lines.
use Rattle.std.proofs.Common.{ℕ, Bool, true, false, cond, List, [], ◌∷◌, drop, Option, None, Some, Result, Ok, Err, option_map, refl, rules}
use Rattle.std.specs.Prelude.{◌&&◌, ◌||◌, MatchResult, encode_utf8_all, not, ok_or, option_and_then}
use Rattle.std.specs.List.{AllByRecursion}
use Rattle.std.specs.Option.{IfSome, option_or}
use Rattle.std.specs.Result.{result_map_both}
use Rattle.std.proofs.lemmas.Bool.{cond_both}
use Rattle.rst_text.specs.Block.{Block, Line, first_parts}
use Rattle.rst_text.specs.Characters.{is_among}
use Rattle.rst_text.specs.Names.{normalized_white}
use Rattle.rst_settings.specs.declared.Parts.{Parts}
use Rattle.rst_markup_blocks.specs.declared.forms.Invocation.{Invocation}
use Rattle.rst_markup_blocks.specs.declared.part.Part.{Part}
use Rattle.rst_markup_directives.specs.Argument.{ArgumentMeaning, argument_of, classes, language, word_of}
use Rattle.rst_markup_directives.specs.Characters.{Text, is_word}
use Rattle.rst_markup_directives.specs.declared.fault.DirectiveFault.{DirectiveFault}
use Rattle.rst_markup_directives.specs.declared.fault.DirectiveFault.TheVariants.{NotInSubstitution}
use Rattle.rst_markup_directives.specs.declared.found.Content.{Content}
use Rattle.rst_markup_directives.specs.declared.found.Place.{Place}
use Rattle.rst_markup_directives.specs.declared.found.Place.TheVariants.{Top, Substitution}
use Rattle.rst_markup_directives.specs.declared.kind.Allowed.{Allowed}
use Rattle.rst_markup_directives.specs.declared.kind.Allowed.TheVariants.{Sections, Beside, Substitution as SubstitutionAlone}
use Rattle.rst_markup_directives.specs.declared.kind.ArgumentKind.{ArgumentKind}
use Rattle.rst_markup_directives.specs.declared.kind.ArgumentKind.TheVariants.{Absent, Classes, Language, OptionalClasses, OptionalTitle}
use Rattle.rst_markup_directives.specs.declared.kind.ContentKind.{ContentKind}
use Rattle.rst_markup_directives.specs.declared.kind.ContentKind.TheVariants.{Empty, Entries, Paragraph}
use Rattle.rst_markup_directives.specs.declared.kind.Kind.{Kind}
use Rattle.rst_markup_directives.specs.declared.option.OptionName.{OptionName}
use Rattle.rst_markup_directives.specs.declared.option.OptionName.TheVariants.{File, Subtitle, Url}
use Rattle.rst_markup_directives.specs.Directive.{Read, Outcome, classes_fault, directive_by_layout, directive_of, directive_outcome_at, found as right, handed, judged_directive, of_block, read_at, read_block, read_parts, run_in, wrong}
use Rattle.rst_markup_directives.specs.Judgement.{content_fault, fault_by, fault_of_option, has_title, is_substitutable, option_fault, permitted, permitted_by, place_fault}
use Rattle.rst_markup_directives.specs.Kind.{directive_named, directives, PartKind, if_on, is_on, is_text}
use Rattle.rst_markup_directives.specs.Layout.{layout_of}
use Rattle.rst_markup_directives.specs.Lines.{first_run, joined_nonempty}
use Rattle.rst_markup_directives.specs.Message.{wrong_text}
use Rattle.rst_markup_directives.specs.Options.{OptionSetting, fields_in, settings_in}
use Rattle.rst_markup_directives.specs.Wrong.{Fault, and_then, fault_in, inside, invalid_classes, many_arguments, option_block, unless}
use Rattle.rst_block_state.specs.Directives.{called, is_handed_at}
use Rattle.rst_block_state.specs.Within.{Within}
use Rattle.rst_tree_laws.specs.Texts.{BlockKept, Kept}
use Rattle.rst_block_laws.proofs.DirectiveTexts.{ChoiceHas, FieldKept, Judged, fields_kept, found, groups_kept, nonempty_kept, settings_have, then_has}
use Rattle.rst_block_laws.proofs.LineTexts.{lines_kept}
use Rattle.rst_tree_laws.proofs.Lists.{all_drop, all_map, all_take}
use Rattle.rst_tree_laws.proofs.Properties.{Suited, fixed_has}
use Rattle.rst_block_laws.proofs.Weights.{Open}

abbrev KindOpen : Kind → Type 0
KindOpen kind = Open kind.element

on_open : (parts : Parts) (code : Bool) (o : Option PartKind) → IfSome o (λ row. KindOpen row.1) → IfSome (option_and_then (if_on parts code) o) KindOpen
on_open parts code None h = tt
on_open parts code (Some row) h = cond_both (is_on parts code row.0) (Some row.1) None (λ o. IfSome o KindOpen) (λ e. h) (λ e. tt)

named_open : (parts : Parts) (t : Text) (code : Bool) → IfSome (directive_named parts t code) KindOpen
unfolding directive_named
named_open parts t code = on_open parts code _ (found (λ row. KindOpen row.1.1) (λ row. KindOpen row.1) (λ row. row.1) (λ row h. h) (λ row. is_word t row.0) directives (search rules))

module _ (P : ℕ → Bool) (T : List ℕ → Type 0) (s : Suited P T) where
  abbrev pub ReadHas : Read → Type 0
  ReadHas read = Open read.kind.element × AllByRecursion (ChoiceHas P T s) read.options

  abbrev pub FaultHas : Fault → Type 0
  FaultHas (inside w) = T (wrong_text w)
  FaultHas (invalid_classes text) = T (encode_utf8_all text)
  FaultHas _ = Unit {0}

  -- ---- its argument and its options

  -- class names, which a message may show
  abbrev ArgumentHas : ArgumentMeaning → Type 0
  ArgumentHas (classes text ids) = Kept P text
  ArgumentHas _ = Unit {0}

  argument_has : (kind : ArgumentKind) (ts : List Text) (part : Part) → AllByRecursion (Kept P) ts → Judged P T s ArgumentHas (argument_of kind ts part)
  unfolding word_of
  argument_has Absent ts part h = tt
  argument_has Language [] part h = tt
  argument_has Language (t ∷ ts) part h = cond_both (is_among (normalized_white (joined_nonempty (t ∷ ts))) 32) (Err many_arguments) (Ok (language (Some _))) (Judged P T s ArgumentHas) (λ e. fixed_has P T s _ refl) (λ e. tt)
  argument_has OptionalTitle [] part h = tt
  argument_has OptionalClasses [] part h = tt
  argument_has OptionalClasses (t ∷ ts) part h = nonempty_kept P T s (t ∷ ts) h
  argument_has Classes (t ∷ ts) part h = nonempty_kept P T s (t ∷ ts) h
  argument_has _ [] part h = fixed_has P T s _ refl
  argument_has _ (t ∷ ts) part h = tt

  classes_have : (given : ArgumentMeaning) → ArgumentHas given → IfSome (classes_fault given) FaultHas
  classes_have (classes text None) h = s.encoded text h
  classes_have (classes text (Some ids)) h = tt
  classes_have _ h = tt

  -- before its content is judged
  abbrev BlockHas : Read → Type 0
  BlockHas read = ReadHas read × ArgumentHas read.argument

  parts_have : (kind : Kind) (content : Content) (given : _) (choices : _) → KindOpen kind → Judged P T s ArgumentHas given → Judged P T s (AllByRecursion (ChoiceHas P T s)) choices → MatchResult (of_block (read_parts kind content given choices)) BlockHas FaultHas
  parts_have kind content (Ok argument) (Ok options) any h k = ((any, k), h)
  parts_have kind content (Err w) (Ok options) any h k = h
  parts_have kind content given (Err w) any h k = k

  block_has : (kind : Kind) (late : Bool) (block : Part) (H : Block) → KindOpen kind → BlockKept P H → MatchResult (of_block (read_block kind late block H)) BlockHas FaultHas
  unfolding read_block directive_by_layout run_in
  block_has kind late block H any h =
      let run : List Text = run_in kind late H in let lines : List Text = drop (layout_of kind run H).options run in
      let kept : AllByRecursion (Kept P) run = cond_both (late && (is_text kind.content || (first_parts H).unmarked)) [] (first_run H) (AllByRecursion (Kept P)) (λ e. tt) (λ e. all_map _ (Kept P) (λ (l : Line). l.text) (λ l h. h) _ (all_take _ _ H h)) in
      parts_have kind _ _ _ any (argument_has kind.argument _ _ (all_take _ _ run kept))
      (elim (fields_in (first_parts H) lines) as (λ o. IfSome o (AllByRecursion (FieldKept P T s)) → Judged P T s (AllByRecursion (ChoiceHas P T s)) (and_then (settings_in kind.options) (ok_or o option_block))) [ None ↦ λ k. fixed_has P T s _ refl | Some fs ↦ settings_have P T s kind.options fs ]
      (fields_kept P T s (first_parts H) _ (groups_kept P T s lines (all_drop _ _ run kept))))

  -- ---- its name, its place and its content

  allowed_has : (kind : Option Kind) (substitution : Bool) → IfSome kind KindOpen → MatchResult (result_map_both (λ kind. kind) fault_in (permitted_by kind substitution)) KindOpen FaultHas
  allowed_has None true h = tt
  allowed_has None false h = tt
  allowed_has (Some k) substitution h = cond_both (substitution && not (is_substitutable k.allowed)) (Err NotInSubstitution) (Ok k) (λ r. MatchResult (result_map_both (λ kind. kind) fault_in r) KindOpen FaultHas) (λ _. tt) (λ _. h)

  content_has : (kind : ContentKind) (empty paragraph : Bool) → IfSome (option_map fault_in (fault_by kind empty paragraph)) FaultHas
  content_has Empty false paragraph = fixed_has P T s _ refl
  content_has Entries false paragraph = fixed_has P T s _ refl
  content_has Paragraph false false = fixed_has P T s _ refl
  content_has _ true paragraph = tt
  content_has _ _ paragraph = tt

  place_has : (allowed : Allowed) (place : Place) → IfSome (option_map fault_in (place_fault allowed place)) FaultHas
  place_has Sections Top = tt
  place_has Beside Top = tt
  place_has SubstitutionAlone Substitution = tt
  place_has _ place = tt

  either : (o p : Option DirectiveFault) → IfSome (option_map fault_in o) FaultHas → IfSome (option_map fault_in p) FaultHas → IfSome (option_map fault_in (option_or o p)) FaultHas
  either (Some fault) p h k = h
  either None p h k = k

  option_has : (titled : Bool) (option : OptionName) → IfSome (option_map fault_in (fault_of_option titled option)) FaultHas
  option_has titled File = tt
  option_has titled Url = tt
  option_has false Subtitle = tt
  option_has _ _ = tt

  options_have : (titled : Bool) (options : List OptionSetting) → IfSome (option_map fault_in (option_fault titled options)) FaultHas
  options_have titled [] = tt
  options_have titled (setting ∷ more) = either (fault_of_option titled setting.0) (option_fault titled more) (option_has titled setting.0) (options_have titled more)

  -- what holds of each right directive and of each wrong one
  pub called_has : (c : Within) (B : Block) (i : ℕ) (call : Invocation) (place : Place) → BlockKept P B → (R : Outcome → Type 0) → ((read : Read) → ReadHas read → R (right read)) → R handed → ((fault : Fault) (part : Part) → FaultHas fault → R (wrong fault part)) → R (called c B i call place)
  unfolding directive_of permitted content_fault
  called_has c B i call place b R good back bad =
      known_or (is_handed_at B i call) (outcome _ _ (then_has BlockHas ReadHas FaultHas (judged_directive place _) _
      (then_has KindOpen BlockHas FaultHas (read_at B i call.block) _ (allowed_has _ _ (named_open _ _ c.code)) (λ kind any. block_has kind _ call.block _ any (lines_kept P B call.block b)))
      (λ read. judged read (option_fault (has_title read.argument) read.options) (option_or (fault_by read.kind.content _ _) (place_fault read.kind.allowed place)) (classes_fault read.argument) (options_have (has_title read.argument) read.options)
      (either (fault_by read.kind.content _ _) (place_fault read.kind.allowed place) (content_has read.kind.content _ _) (place_has read.kind.allowed place)) (classes_have read.argument))))
    where
      judged : (read : Read) (o p : Option DirectiveFault) (q : Option Fault) → IfSome (option_map fault_in o) FaultHas → IfSome (option_map fault_in p) FaultHas → (ArgumentHas read.argument → IfSome q FaultHas) → BlockHas read
          → MatchResult (unless (option_or (option_map fault_in (option_or o p)) q) (Ok read)) ReadHas FaultHas
      judged read (Some fault) p q h k l own = h
      judged read None (Some fault) q h k l own = k
      judged read None None (Some fault) h k l own = l own.1
      judged read None None None h k l own = own.0

      outcome : (source : Part) (r : Result Read Fault) → MatchResult r ReadHas FaultHas → R (directive_outcome_at source r)
      outcome source (Ok read) h = good read h
      outcome source (Err fault) h = bad fault source h

      known_or : {o : Outcome} (h : Bool) → R o → R (cond h handed o)
      known_or true known = back
      known_or false known = known
