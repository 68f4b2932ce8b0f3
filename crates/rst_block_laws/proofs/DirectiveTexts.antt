-- What is read of the options of a directive consists of characters of its lines, where it becomes a text.
use Rattle.std.proofs.Common.{◌≡◌, ℕ, ◌-◌, Bool, true, List, [], ◌∷◌, ◌++◌, length, Option, None, Some, Result, Ok, Err, option_map, refl}
use Rattle.std.specs.Prelude.{◌==◌, MatchResult, codes, find, option_and_then}
use Rattle.std.specs.List.{AllByRecursion, list_all}
use Rattle.std.specs.Option.{IfSome, option_or}
use Rattle.std.proofs.lemmas.Bool.{cond_both}
use Rattle.rst_settings.specs.declared.Parts.{Parts}
use Rattle.rst_text.specs.Block.{indentation, is_blank}
use Rattle.rst_text.specs.Characters.{Text, without_white}
use Rattle.rst_text.specs.Escapes.{unescaped}
use Rattle.rst_markup_lines.specs.Field.{field_of}
use Rattle.rst_markup_lines.specs.TextStart.{begins_with}
use Rattle.rst_markup_directives.specs.Characters.{unindented}
use Rattle.rst_markup_directives.specs.declared.kind.OptionSet.{OptionSet}
use Rattle.rst_markup_directives.specs.declared.option.OptionName.{OptionName}
use Rattle.rst_markup_directives.specs.declared.option.OptionName.TheVariants.{Alt, Target, Name, Subtitle, Inclusion}
use Rattle.rst_markup_directives.specs.Lines.{joined_nonempty}
use Rattle.rst_markup_directives.specs.Message.{wrong_text}
use Rattle.rst_markup_directives.specs.OptionName.{option_named}
use Rattle.rst_markup_directives.specs.Options.{FieldText, Group, OptionSetting, choices_of, fields_of, first_again, first_unknown, groups, is_field_name, least_indentation, onto_choices, onto_fields, onto_groups, option_field, option_setting, settings_in}
use Rattle.rst_markup_directives.specs.Target.{Destination, destination_in, is_phrase_reference, is_simple_reference, located, named, phrase_in, target_text, target_value}
use Rattle.rst_markup_directives.specs.Value.{Meaning, linked, option_meaning, plain}
use Rattle.rst_markup_directives.specs.Wrong.{Wrong, and_then, duplicate, unknown, unless}
use Rattle.rst_block_nodes.specs.Options.{link_attrs, link_meant, subtitle_meant, value_meant}
use Rattle.rst_tree_laws.specs.Texts.{AttrsHave, Kept, ValueHas, is_fixed}
use Rattle.rst_block_laws.proofs.LineTexts.{all_range}
use Rattle.rst_tree_laws.proofs.Lists.{all_drop, all_map, all_take}
use Rattle.rst_tree_laws.proofs.Properties.{Suited, all_filter, fixed_has, join_kept, name_kept, split_kept, unescaped_kept}

-- ---- of any lists, options and results

pub found : {A B : Type 0} (Q : A → Type 0) (R : B → Type 0) (f : A → B) → ((a : A) → Q a → R (f a)) → (test : A → Bool) (xs : List A) → AllByRecursion Q xs → IfSome (option_map f (find test xs)) R
found Q R f h test [] k = tt
found Q R f h test (x ∷ xs) k = cond_both (test x) (Some x) (find test xs) (λ o. IfSome (option_map f o) R) (λ e. h x k.0) (λ e. found Q R f h test xs k.1)

pub then_has : {A C E : Type 0} (Q : A → Type 0) (R : C → Type 0) (W : E → Type 0) (next : A → Result C E) (r : Result A E) → MatchResult r Q W → ((a : A) → Q a → MatchResult (next a) R W) → MatchResult (and_then next r) R W
then_has Q R W next (Ok a) h k = k a h
then_has Q R W next (Err e) h k = h

module _ (P : ℕ → Bool) (T : List ℕ → Type 0) (s : Suited P T) where
  pub quoted_has : (before t after : List ℕ) → list_all is_fixed before ≡ true → list_all is_fixed after ≡ true → T t → T (before ++ t ++ after)
  quoted_has before t after e f h = s.append (before ++ t) after (s.append before t (fixed_has P T s before e) h) (fixed_has P T s after f)

  pub nonempty_kept : (ts : List Text) → AllByRecursion (Kept P) ts → Kept P (joined_nonempty ts)
  unfolding joined_nonempty
  nonempty_kept ts h = join_kept P 10 _ (s.fixed 10 refl) (all_filter (Kept P) _ ts h)

  -- what holds of each name that a target can lead to, of each URI and of nothing
  pub target_has : (R : Option Destination → Type 0) (t : Text) → Kept P t → R None → ((name : Text) → Kept P name → R (Some (named name))) → ((uri : Text) → R (Some (located uri))) → R (target_value t)
  unfolding target_value target_text destination_in phrase_in
  target_has R t h nothing name uri =
      let kept : Kept P (target_text t) = nonempty_kept _ (all_map (Kept P) (Kept P) unindented (λ u. all_drop _ (indentation u) u) _ (split_kept P (λ c. c == 10) t h)) in
      cond_both (is_simple_reference (target_text t)) _ _ R (λ e. name _ (all_take _ _ (target_text t) kept))
      (λ e. cond_both (is_phrase_reference (target_text t)) _ _ R (λ d. name _ (unescaped_kept P (phrase_in (target_text t)) (all_range _ (target_text t) 1 (length (target_text t) - 2) kept)))
      (λ d. cond_both (is_blank (without_white (unescaped (target_text t)))) _ _ R (λ e. nothing) (λ e. uri _)))

  -- ---- fields

  abbrev GroupKept : Group → Type 0
  GroupKept g = Kept P g.0 × AllByRecursion (Kept P) g.1

  -- its name and its value
  abbrev pub FieldKept : FieldText → Type 0
  FieldKept f = Kept P f.0 × Kept P f.1

  pub groups_kept : (ts : List Text) → AllByRecursion (Kept P) ts → AllByRecursion GroupKept (groups ts)
  groups_kept [] h = tt
  groups_kept (t ∷ ts) h = elim (groups ts) as (λ gs. AllByRecursion GroupKept gs → AllByRecursion GroupKept (onto_groups t gs)) [
    | [] ↦ λ k. ((h.0, tt), tt)
    | g ∷ gs ↦ λ k. cond_both (begins_with 32 g.0) ((t, g.0 ∷ g.1) ∷ gs) ((t, []) ∷ g ∷ gs) (AllByRecursion GroupKept) (λ e. ((h.0, k.0), k.1)) (λ e. ((h.0, tt), k))
  ] (groups_kept ts h.1)

  onto_kept : {A : Type 0} (f : A → FieldText) (o : Option A) (fs : Option (List FieldText)) → ((a : A) → FieldKept (f a)) → IfSome fs (AllByRecursion FieldKept) → IfSome (onto_fields (option_map f o) fs) (AllByRecursion FieldKept)
  onto_kept f None fs h k = tt
  onto_kept f (Some a) None h k = tt
  onto_kept f (Some a) (Some fs) h k = (h a, k)

  pub fields_kept : (parts : Parts) (gs : List Group) → AllByRecursion GroupKept gs → IfSome (fields_of parts gs) (AllByRecursion FieldKept)
  unfolding option_field
  fields_kept parts [] h = tt
  fields_kept parts (g ∷ gs) h =
      onto_kept _ (field_of parts g.0) (fields_of parts gs) (λ mark. (all_range _ g.0 _ _ h.0.0, nonempty_kept _ (all_drop _ mark.marker.cut g.0 h.0.0, all_map (Kept P) (Kept P) _ (λ u. all_drop _ (least_indentation g.1) u) g.1 h.0.1))) (fields_kept parts gs h.1)

  -- ---- options

  -- a name, an alternate text and a subtitle that become texts; other values don't
  abbrev pub NameHas : OptionName → Meaning → Type 0
  NameHas Name m = ValueHas T true (value_meant m)
  NameHas Alt m = ValueHas T true (value_meant m)
  NameHas Subtitle m = IfSome (subtitle_meant Subtitle m) (Kept P)
  NameHas _ m = Unit {0}

  -- that name, or the attributes of a reference
  abbrev pub ChoiceHas : OptionSetting → Type 0
  ChoiceHas choice = NameHas choice.0 choice.1 × IfSome (link_meant choice.1) (λ link. AttrsHave T (link_attrs link.0 link.1))

  -- what is right, or a message's text
  abbrev pub Judged : {A : Type 0} → (A → Type 0) → Result A Wrong → Type 0
  Judged Q r = MatchResult r Q (λ w. T (wrong_text w))

  again_kept : (before fs : List FieldText) → AllByRecursion FieldKept fs → IfSome (first_again before fs) (Kept P)
  again_kept before [] h = tt
  again_kept before (f ∷ fs) h = cond_both (is_field_name f.0 before) _ _ (λ o. IfSome o (Kept P)) (λ e. h.0.0) (λ e. again_kept (before ++ f ∷ []) fs h.1)

  paired : {A : Type 0} (option : OptionName) (f : A → Meaning) (o : Option A) → ((a : A) → ChoiceHas (option, f a)) → IfSome (option_map (λ (m : Meaning). (option, m)) (option_map f o)) ChoiceHas
  paired option f None h = tt
  paired option f (Some a) h = h a

  setting_has : (options : OptionSet) (o : Option OptionName) (t : Text) → Kept P t → IfSome {T = OptionSetting} (option_and_then (λ option. option_map (λ meaning. (option, meaning)) (option_meaning options option t)) o) ChoiceHas
  setting_has options None t h = tt
  setting_has options (Some Name) t h = (s.encoded _ (name_kept P T s t h), tt)
  setting_has options (Some Target) t h =
      target_has (λ o. IfSome (option_map (λ (m : Meaning). (Target, m)) (option_map (λ to. linked to t) o)) ChoiceHas) t h tt
      (λ name k. (tt, (tt, (s.encoded t h, (s.encoded _ (name_kept P T s name k), tt))))) (λ uri. (tt, (s.encoded t h, (tt, tt))))
  setting_has options (Some Subtitle) t h = cond_both (is_blank t) None (Some t) (λ o. IfSome (option_map (λ (m : Meaning). (Subtitle, m)) (option_map plain o)) ChoiceHas) (λ e. tt) (λ e. (h, tt))
  setting_has options (Some Alt) t h = (s.encoded t h, tt)
  setting_has options (Some Inclusion) t h = (tt, tt)
  setting_has options (Some _) t h = paired _ _ _ (λ a. (tt, tt))

  choices_have : (options : OptionSet) (fs : List FieldText) → AllByRecursion FieldKept fs → Judged (AllByRecursion ChoiceHas) (choices_of options fs)
  choices_have options [] h = tt
  choices_have options (f ∷ fs) h = elim (option_setting options f) as (λ o. IfSome o ChoiceHas → Judged (AllByRecursion ChoiceHas) (onto_choices o f.0 (choices_of options fs))) [
    | None ↦ λ k. quoted_has (codes "invalid value of option \"") _ (codes "\".") refl refl (s.encoded f.0 h.0.0)
    | Some choice ↦ λ k. then_has (AllByRecursion ChoiceHas) _ _ _ (choices_of options fs) (choices_have options fs h.1) (λ choices l. (k, l))
  ] (setting_has options (option_named f.0) f.1 h.0.1)

  pub settings_have : (options : OptionSet) (fs : List FieldText) → AllByRecursion FieldKept fs → Judged (AllByRecursion ChoiceHas) (settings_in options fs)
  unfolding settings_in
  settings_have options fs h = by (first_unknown options fs) (first_again [] fs) (found FieldKept (Kept P) (λ f. f.0) (λ f k. k.0) _ fs h) (again_kept [] fs h)
    where
      by : (o p : Option Text) → IfSome o (Kept P) → IfSome p (Kept P) → Judged (AllByRecursion ChoiceHas) (unless (option_or (option_map unknown o) (option_map duplicate p)) (choices_of options fs))
      by (Some name) p k l = quoted_has (codes "unknown option: \"") _ (codes "\".") refl refl (s.encoded name k)
      by None (Some name) k l = quoted_has (codes "duplicate option \"") _ (codes "\".") refl refl (s.encoded name l)
      by None None k l = choices_have options fs h
