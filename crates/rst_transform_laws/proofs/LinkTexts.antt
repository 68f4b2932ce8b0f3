-- The transforms of links add at most one level, and keep a property of texts.
use Rattle.std.proofs.Common.{◌≡◌, ℕ, zero, suc, ◌+◌, ◌/◌, ◌%◌, Bool, true, List, [], ◌∷◌, ◌++◌, map, length, Option, Some, None, codes, arith, refl, subst}
use Rattle.std.specs.Prelude.{◌&&◌, ◌||◌, filter, if◌then◌else◌, decimal, encode_utf8, fold, is_none, is_some, nat_eq, slice_get, slice_index, unwrap_or, option_and_then, option_map}
use Rattle.std.specs.List.{list_all, list_any, range_with_len, repeat, zip}
use Rattle.std.specs.Option.{IfSome, option_flatten, option_or}
use Rattle.std.proofs.lemmas.Bool.{cond_both}
use Rattle.std.proofs.lemmas.List.{append-nil}
use Rattle.std.proofs.lemmas.List.Elements.{All-from_recursion, All-replicate, recursion_from_All}
use Rattle.std.proofs.lemmas.List.Folds.{fold-map, fold_along}
use Rattle.std.proofs.lemmas.List.Sums.{fold-append}
use Rattle.std.proofs.lemmas.Option.{slice_get-map}
use Rattle.rst_tree.specs.declared.attrs.Attr.{Attr}
use Rattle.rst_tree.specs.declared.key.Key.{Key}
use Rattle.rst_tree.specs.declared.key.Key.TheVariants.{Auto, OwnName, Refname}
use Rattle.rst_tree.specs.declared.node.Node.{Node}
use Rattle.rst_tree.specs.declared.node.Node.TheVariants.{Element, Text}
use Rattle.rst_tree.specs.Forest.{Forest, bare, element, words}
use Rattle.rst_tree.specs.Nodes.{nodes_of}
use Rattle.rst_tree.specs.Paths.{node_value}
use Rattle.rst_tree.specs.Tree.{text_in}
use Rattle.rst_tree_index.specs.LinkedTags.{is_linked_tag}
use Rattle.rst_transform_names.specs.declared.names.NameEntry.{NameEntry}
use Rattle.rst_transform_references.specs.declared.chains.Answer.{Answer}
use Rattle.rst_transform_references.specs.declared.chains.Answer.TheVariants.{Leads, Missing, Circular}
use Rattle.rst_transform_references.specs.declared.chains.Step.{Step}
use Rattle.rst_transform_references.specs.declared.chains.Step.TheVariants.{To, Ends}
use Rattle.rst_transform_references.specs.declared.links.Change.{Change}
use Rattle.rst_transform_references.specs.declared.links.Change.TheVariants.{Stays, Lists, Failed}
use Rattle.rst_transform_references.specs.declared.orders.Order.{Order}
use Rattle.rst_transform_references.specs.declared.orders.Order.TheVariants.{Anonymous, Numbers, Symbols}
use Rattle.rst_transform_references.specs.Aliases.{names_before}
use Rattle.rst_transform_references.specs.Anonymous.{anonymous, lead_to}
use Rattle.rst_transform_references.specs.Changes.{changed_document}
use Rattle.rst_transform_references.specs.Chains.{answers_of, comes_to, indirect_name, step_on, step_to}
use Rattle.rst_transform_references.specs.Failing.{fail_for, fails_as}
use Rattle.rst_transform_references.specs.FootnoteLabels.{labels, numbered, symbol_label, symbols}
use Rattle.rst_transform_references.specs.Footnotes.{footnotes, is_of_footnotes, label_at, labelled, left_over, new_text, printed_label, refer_by}
use Rattle.rst_transform_references.specs.Holders.{holder_place, is_nobody, places_by_number}
use Rattle.rst_transform_references.specs.Indirect.{concludes, indirect, is_anonymous_at, is_reference_node, own_name, references_to, steps_of, targets_of}
use Rattle.rst_transform_references.specs.Leads.{found_lead, is_target_node, kept_lead, lead_at, lead_by, name_lead}
use Rattle.rst_transform_references.specs.Links.{change_at, each, linked_among, links_of, node_at, own_linked, places_of, puts}
use Rattle.rst_transform_references.specs.Orders.{is_order, pairs_by, references_by, target_order, targets_by}
use Rattle.rst_transform_references.specs.Resolving.{fails_alone, label_for, note_at, references, refers_back, refers_to_note, resolves_to, with_backref, with_backrefs}
use Rattle.rst_transform_references.specs.Table.{Links}
use Rattle.rst_transform_work.specs.declared.document.Document.{Document}
use Rattle.rst_transform_work.specs.Known.{Known}
use Rattle.rst_transform_work.specs.Lists.{at_place}
use Rattle.rst_transform_work.specs.Reading.{text_of_attribute}
use Rattle.rst_transform_work.specs.Reports.{reported}
use Rattle.rst_tree.specs.declared.note.Level.TheVariants.{Error}
use Rattle.rst_tree_laws.proofs.Decimals.{decimal_fixed, decimal_has}
use Rattle.rst_tree_laws.proofs.Have.{nodes_have, text_in_has}
use Rattle.rst_transform_laws.proofs.Held.{DocumentHeld, KnownHas}
use Rattle.rst_tree_laws.proofs.Lists.{all_append}
use Rattle.rst_tree_laws.proofs.Properties.{Suited, fixed_has}
use Rattle.rst_transform_laws.proofs.ReportTexts.{all_get, all_set, problematic_has, quoted_has, reported_has, value_has}
use Rattle.rst_transform_laws.proofs.TransformLinks.{ChangeHas, ChangesHave, LeadHas, changed_held, on_some}
use Rattle.rst_tree_laws.specs.Texts.{Kept, NodeHas, NodesHave, TextsHave, becomes_text, is_fixed, is_text_character}

or_has : {A : Type 0} (Q : A → Type 0) (a b : Option A) → IfSome a Q → IfSome b Q → IfSome (option_or a b) Q
or_has Q a b h g = on_some Q (λ o. IfSome (option_or o b) Q) g (λ x k. k) a h

if_has : {A : Type 0} (Q : A → Type 0) (b : Bool) (o : Option A) → IfSome o Q → IfSome (if b then o else None) Q
if_has Q b o h = cond_both b o None (λ p. IfSome p Q) (λ _. h) (λ _. tt)

place_has : {A B : Type 0} (R : Option B → Type 0) (f : A → Option B) → R None → ((a : A) → R (f a)) → (xs : List A) (i : ℕ) → R (at_place (map f xs) i)
place_has R f none some xs i = rw (slice_get-map f xs i) (elim (slice_get xs i) as (λ o. R (option_flatten (option_map f o))) [ None ↦ none | Some a ↦ some a ])

fold_keeps : {A S : Type 0} (Q : S → Type 0) (f : S → A → S) (xs : List A) → ((a : A) (t : S) → Q t → Q (f t a)) → (t : S) → Q t → Q (fold f t xs)
fold_keeps Q f xs h t = fold_along f {C = ℕ} (λ n a. n) (λ u n. Q u) (λ u n a. h a u) t 0 xs

-- the symbols of footnotes are text characters
pub symbols_kept : Kept is_text_character symbols
symbols_kept = (refl, (refl, (refl, (refl, (refl, (refl, (refl, (refl, (refl, (refl, tt))))))))))

module _ (P : ℕ → Bool) (T : List ℕ → Type 0) (s : Suited P T) (signs : Kept P symbols) where
  -- ---- the table of links

  abbrev LinksHave : Links → Type 0
  LinksHave links = NodesHave T links.linked × ChangesHave T links.changes

  abbrev StateHas : Links × Known → Type 0
  StateHas done = LinksHave done.0 × KnownHas T done.1

  abbrev Keeps : (Links → Known → Links × Known) → Type 0
  Keeps step = (done : Links × Known) → StateHas done → StateHas (step done.0 done.1)

  linked_have : (f : Forest) → TextsHave T f → NodesHave T (linked_among f)
  linked_have bare h = tt
  linked_have (words t r) h = linked_have r h.1
  linked_have (element t a c l r) h = all_append _ (own_linked (Element t a c l)) _ (cond_both (is_linked_tag t) _ _ (NodesHave T) (λ _. ((h.0, h.1), tt)) (λ _. tt)) (all_append _ (linked_among c) _ (linked_have c h.1) (linked_have r h.2))

  node_has : (place : ℕ) (links : Links) → LinksHave links → NodeHas T (node_at place links)
  node_has place links h = on_some (NodeHas T) (λ o. NodeHas T (unwrap_or o (Text []))) (s.encoded [] tt) (λ n k. k) (slice_get links.linked place) (all_get _ links.linked place h.0)

  text_has : (k : Key) → becomes_text k ≡ true → (n : Node) → NodeHas T n → IfSome (text_of_attribute k n) T
  text_has k e n = elim n as (λ n. NodeHas T n → IfSome (text_of_attribute k n) T) [ Element t a c l ↦ λ h. value_has P T s k a e h.0 | Text t ↦ λ h. tt ]

  parts_have : (o : Option Change) → IfSome o (ChangeHas T) → LeadHas T (found_lead (unwrap_or o (Stays None None))) × IfSome (new_text (unwrap_or o (Stays None None))) T
  parts_have (Some (Stays lead text)) h = h
  parts_have _ h = (tt, tt)

  put_has : (place : ℕ) (change : Change) (links : Links) → ChangeHas T change → LinksHave links → LinksHave (puts place change links)
  put_has place change links own h = (h.0, all_set _ links.changes place change own h.1)

  -- ---- where elements and names lead

  lead_by_has : (uri id : Option (List ℕ)) → LeadHas T (lead_by uri id)
  lead_by_has uri id = elim uri as (λ o. LeadHas T (lead_by o id)) [ None ↦ elim id as (λ o. LeadHas T (lead_by None o)) [ None ↦ tt | Some text ↦ tt ] | Some text ↦ tt ]

  lead_at_has : (place : ℕ) (links : Links) → LinksHave links → LeadHas T (lead_at place links)
  lead_at_has place links h = or_has _ (found_lead (change_at place links)) _ (parts_have _ (all_get _ links.changes place h.1)).0 (lead_by_has _ _)

  name_lead_has : (holder : Option ℕ) (entry : NameEntry) (links : Links) → LinksHave links → LeadHas T (Some (name_lead holder entry links))
  name_lead_has holder entry links h = on_some _ (λ o. LeadHas T (Some (unwrap_or o (kept_lead entry.uri entry.id)))) (elim entry.uri as (λ o. LeadHas T (Some (kept_lead o entry.id))) [ None ↦ tt | Some uri ↦ tt ]) (λ a k. k) _
      (elim holder as (λ o. LeadHas T (option_and_then (λ at. if is_target_node (node_at at links) then lead_at at links else None) o)) [ None ↦ tt | Some at ↦ if_has _ (is_target_node (node_at at links)) _ (lead_at_has at links h) ])

  -- ---- what fails

  fails_keep : (message place : ℕ) (n : Node) → Keeps (fails_as message place n)
  fails_keep message place (Text t) done h = h
  fails_keep message place (Element t a c l) (links, known) h = let made = problematic_has P T s message known h.1 in
      ((fold_keeps (NodesHave T) _ (range_with_len 0 (length (linked_among c) + 1)) (λ i ns. all_set _ ns (place + i) (Text []) (s.encoded [] tt)) links.linked h.0.0, all_set _ links.changes place _ made.0 h.0.1), made.1)

  fail_for_keeps : (places : List ℕ) (line : ℕ) (text : List ℕ) → T text → Keeps (fail_for places line text)
  unfolding fail_for
  fail_for_keeps places line text own (links, known) h = fold_keeps StateHas _ places (λ at now. fails_keep (length known.reports) at (node_at at now.0) now) (links, reported Error line text true known) (h.0, reported_has P T s _ _ _ _ known own h.1)

  -- ---- anonymous references

  lead_to_has : (target : ℕ) (links : Links) → LinksHave links → LeadHas T (lead_to target links)
  lead_to_has target links h = or_has _ (lead_at target links) _ (lead_at_has target links h) (cond_both (is_some (node_value Refname (node_at target links))) None _ (LeadHas T) (λ _. tt) (λ _. lead_by_has None _))

  anonymous_keeps : Keeps anonymous
  unfolding anonymous
  anonymous_keeps (links, known) h = cond_both (nat_eq (length (references_by Anonymous links)) (length (targets_by Anonymous links))) _ _ StateHas
      (λ _. (fold_keeps LinksHave _ (pairs_by Anonymous links) (λ pair now g. put_has pair.0 (Stays _ None) now (lead_to_has pair.1 now g, tt) g) links h.0, h.1))
      (λ _. fail_for_keeps _ _ _ (fixed_has P T s _ (decimal_fixed _ _ (decimal_fixed _ (codes " targets.") refl))) (links, known) h)

  -- ---- indirect targets

  abbrev AnswerHas : Option Answer → Type 0
  AnswerHas (Some (Leads lead)) = LeadHas T (Some lead)
  AnswerHas (Some (Missing name)) = T name
  AnswerHas _ = Unit {0}

  -- what a step comes to at once
  abbrev StepHas : Option Step → Type 0
  StepHas step = AnswerHas (comes_to [] 0 step)

  step_on_has : (holder : Option ℕ) (links : Links) (lead : Attr) → LeadHas T (Some lead) → StepHas (Some (step_on holder links lead))
  step_on_has holder links lead h = elim holder as (λ o. StepHas (Some (step_on o links lead))) [ None ↦ h | Some at ↦ cond_both (is_some (indirect_name (node_at at links))) (To at) _ (λ step. StepHas (Some step)) (λ _. tt) (λ _. h) ]

  step_has : (places : List (Option ℕ)) (links : Links) (name : List ℕ) (entry : Option NameEntry) → LinksHave links → T name → StepHas (Some (step_to places links name entry))
  step_has places links name None h own = own
  step_has places links name (Some entry) h own = cond_both (is_nobody entry.holder) _ _ (λ step. StepHas (Some step)) (λ _. own) (λ _. step_on_has _ links _ (name_lead_has (holder_place places entry.holder) entry links h))

  comes_has : (steps : List (Option Step)) → ((i : ℕ) → StepHas (at_place steps i)) → (count : ℕ) (step : Option Step) → StepHas step → AnswerHas (comes_to steps count step)
  comes_has steps all count (Some (Ends answer)) h = h
  comes_has steps all (suc more) (Some (To place)) h = comes_has steps all more (at_place steps place) (all place)
  comes_has _ _ _ _ h = tt

  about_has : (target : ℕ) (links : Links) (rest : List ℕ) → LinksHave links → T rest → T (codes "Indirect hyperlink target \"" ++ (own_name (node_at target links) ++ rest))
  about_has target links rest h k = s.append (codes "Indirect hyperlink target \"") _ (fixed_has P T s _ refl) (s.append _ rest (on_some T (λ o. T (unwrap_or o [])) (s.encoded [] tt) (λ u g. g) _ (text_has OwnName refl _ (node_has target links h))) k)

  concludes_keeps : (target : ℕ) (refs : List ℕ) (answer : Option Answer) → AnswerHas answer → Keeps (concludes target refs answer)
  concludes_keeps target refs None own done h = h
  concludes_keeps target refs (Some (Leads lead)) own done h = (fold_keeps LinksHave _ (target ∷ filter (is_anonymous_at done.0) refs) (λ place now. put_has place (Stays (Some lead) None) now (own, tt)) done.0 h.0, h.1)
  concludes_keeps target refs (Some (Missing name)) own done h = fail_for_keeps refs _ _ (about_has target done.0 _ h.0 (quoted_has P T s (codes "\" refers to target \"") name (codes "\", which does not exist.") refl refl own)) done h
  concludes_keeps target refs (Some Circular) own done h = fail_for_keeps refs _ _ (about_has target done.0 _ h.0 (fixed_has P T s (codes "\" is circular.") refl)) done h

  indirect_keeps : Keeps indirect
  unfolding indirect
  indirect_keeps (links, known) h = let places : List (Option ℕ) = places_by_number known.serials links in let steps : List (Option Step) = steps_of known.names places links in
      let steps_have : (i : ℕ) → StepHas (at_place steps i) = place_has StepHas _ tt (λ place. on_some T (λ o. StepHas (option_map (λ name. step_to places links name (names_before place places links known.names name)) o)) tt
      (λ name. step_has places links name (names_before place places links known.names name) h.0) _ (if_has T (is_target_node (node_at place links)) _ (text_has Refname refl _ (node_has place links h.0)))) (places_of links) in
      let named : Known = record known { names = names_before (length links.linked) places links known.names } in let targets : List (Option ℕ) = targets_of named.names places links in
      cond_both (list_any (λ place. is_some (indirect_name (node_at place links))) (places_of links)) _ _ StateHas
      (λ _. fold_keeps StateHas _ (range_with_len 0 (length targets)) (λ place. concludes_keeps place (references_to targets place) (at_place (answers_of steps) place)
      (place_has AnswerHas _ tt (λ at. comes_has steps steps_have (length steps) (at_place steps at) (steps_have at)) _ place)) (links, named) h) (λ _. h)

  -- ---- footnotes

  symbol_has : (n : ℕ) → T (symbol_label n)
  symbol_has n = let c : ℕ = slice_index symbols (n % 10) in let own = subst T (append-nil (encode_utf8 c)) (s.encoded (c ∷ []) (All-from_recursion (λ d. P d ≡ true) symbols signs (n % 10) 0 (omega arith), tt)) in
      elim (n / 10 + 1) as (λ k. T (repeat k (encode_utf8 c))) [ zero ↦ s.encoded [] tt | suc (k → more) ↦ s.append _ _ own more ]

  labelled_keeps : (pair : ℕ × List ℕ) → T pair.1 → Keeps (labelled pair)
  labelled_keeps pair own (links, known) h = let showing = put_has (pair.0 + 1) (Stays None (Some pair.1)) links (tt, own) h.0 in
      cond_both (is_order Numbers (target_order (node_at pair.0 links))) _ _ StateHas (λ _. (put_has pair.0 (Lists _ []) _ tt showing, h.1)) (λ _. (showing, h.1))

  printed_has : (n : Node) → NodeHas T n → IfSome (printed_label n) T
  printed_has n = elim n as (λ n. NodeHas T n → IfSome (printed_label n) T) [ Element t a c l ↦ λ h. on_some (NodeHas T) (λ o. IfSome (option_map text_in o) T) tt (text_in_has T P s) _ (all_get _ (nodes_of c) 0 (nodes_have T c h.1)) | Text t ↦ λ h. tt ]

  label_at_has : (place : ℕ) (links : Links) → LinksHave links → IfSome (label_at place links) T
  label_at_has place links h = or_has T (new_text (change_at (place + 1) links)) _ (parts_have _ (all_get _ links.changes (place + 1) h.1)).1 (printed_has _ (node_has place links h))

  left_over_keeps : (order : Order) (n : ℕ) (refs : List ℕ) → Keeps (left_over order n refs)
  left_over_keeps order n [] done h = h
  left_over_keeps Symbols n (first ∷ more) done h = fail_for_keeps (first ∷ more) _ _ (fixed_has P T s _ (decimal_fixed n (codes " corresponding footnotes available.") refl)) done h
  left_over_keeps _ n (first ∷ more) done h = fail_for_keeps (first ∷ more) _ _ (fixed_has P T s _ (decimal_fixed n (codes " corresponding footnotes available.") refl)) done h

  refer_by_keeps : (order : Order) → Keeps (refer_by order)
  unfolding refer_by
  refer_by_keeps order (links, known) h = left_over_keeps order _ _ (_, known) (fold_keeps LinksHave _ (pairs_by order links) (λ pair now g. put_has pair.0 (Stays _ _) now (lead_by_has None _, label_at_has pair.1 now g) g) links h.0, h.1)

  footnotes_keep : Keeps footnotes
  unfolding footnotes
  footnotes_keep (links, known) h = let showing : StateHas (each labelled (labels links) links known) = simp (fold-append, fold-map)
      (fold_keeps StateHas _ (zip (targets_by Symbols links) (range_with_len 0 (length links.linked))) (λ pair. labelled_keeps (pair.0, symbol_label pair.1) (symbol_has pair.1)) _
      (fold_keeps StateHas _ (numbered links) (λ pair. labelled_keeps (pair.0, decimal pair.1) (decimal_has P T s pair.1)) (links, known) h)) in
      cond_both (list_any (λ place. is_of_footnotes (node_at place links)) (places_of links)) _ _ StateHas
      (λ _. fold_keeps StateHas (λ done order. refer_by order done.0 done.1) (Numbers ∷ Symbols ∷ []) refer_by_keeps (each labelled (labels links) links known) showing) (λ _. h)

  -- ---- references by name

  refers_back_keeps : (note : Option ℕ) (id : Option (List ℕ)) (links : Links) → LinksHave links → LinksHave (refers_back note id links)
  refers_back_keeps (Some note) (Some id) links h = put_has note _ links (elim (change_at note links) as (λ c. ChangeHas T (with_backref id c)) [ Stays lead text ↦ tt | Lists names ids ↦ tt | Failed p inside ↦ tt ]) h
  refers_back_keeps _ _ links h = h

  alone_keeps : (place : ℕ) (before name : List ℕ) → list_all is_fixed before ≡ true → T name → Keeps (fails_alone place (before ++ (name ++ codes "\".")))
  alone_keeps place before name e own done = fail_for_keeps (place ∷ []) _ _ (quoted_has P T s before name (codes "\".") e refl own) done

  label_for_has : (n : Node) (holder : Option ℕ) (links : Links) → LinksHave links → IfSome (label_for n holder links) T
  label_for_has n holder links h = if_has T (refers_to_note n && is_some (node_value Auto n)) _ (elim holder as (λ o. IfSome (option_and_then (λ at. label_at at links) o) T) [ None ↦ tt | Some at ↦ label_at_has at links h ])

  resolves_keep : (places : List (Option ℕ)) (place : ℕ) (name : List ℕ) (entry : Option NameEntry) → T name → Keeps (resolves_to places place name entry)
  resolves_keep places place name None own done h = alone_keeps place (codes "Unknown target name: \"") name refl own done h
  resolves_keep places place name (Some entry) own (links, known) h = cond_both (is_nobody entry.holder) _ _ StateHas (λ _. alone_keeps place (codes "Duplicate target name, cannot be used as a unique reference: \"") name refl own (links, known) h)
      (λ _. cond_both (refers_to_note (node_at place links) && is_none (note_at (holder_place places entry.holder) links)) _ _ StateHas (λ _. alone_keeps place (codes "Unknown target name: \"") name refl own (links, known) h)
      (λ _. (put_has place (Stays _ _) links (name_lead_has _ entry links h.0, label_for_has (node_at place links) _ links h.0) h.0, h.1)))

  references_keep : Keeps references
  unfolding references
  references_keep (links, known) h = let places : List (Option ℕ) = places_by_number known.serials links in let listed : Links = with_backrefs known.names places links in
      fold_keeps StateHas _ (places_of listed) (λ place done g. on_some T (λ o. StateHas (unwrap_or (option_map (λ name. resolves_to places place name (done.1.names name) done.0 done.1) o) done)) g
      (λ name own. resolves_keep places place name (done.1.names name) own done g) _ (if_has T (is_reference_node (node_at place done.0) || refers_to_note (node_at place done.0)) _ (text_has Refname refl _ (node_has place done.0 g.0)))) (listed, known)
      (cond_both (list_any (λ place. refers_to_note (node_at place links)) (places_of links)) _ _ LinksHave (λ _. fold_keeps LinksHave _ (places_of links) (λ place now. refers_back_keeps _ _ now) links h.0) (λ _. h.0), h.1)

  -- ---- all of them

  pub links_held : (m : ℕ) (document : Document) (known : Known) → DocumentHeld T m document → KnownHas T known
      → let done : Links × Known = each (λ transform. transform) (anonymous ∷ indirect ∷ footnotes ∷ references ∷ []) (links_of document) known in DocumentHeld T (m + 1) (changed_document done.0.changes document) × KnownHas T done.1
  links_held m document known h k = let first : Links × Known = anonymous (links_of document) known in let second : Links × Known = indirect first.0 first.1 in
      let stays : ChangesHave T (links_of document).changes = recursion_from_All (ChangeHas T) _ (All-replicate (ChangeHas T) (length (linked_among document.children)) (Stays None None) (tt, tt)) in
      let done = references_keep (footnotes second.0 second.1) (footnotes_keep second (indirect_keeps first (anonymous_keeps (links_of document, known) ((linked_have _ h.0.1, stays), k)))) in (changed_held P T s m _ document done.0.1 h, done.1)
