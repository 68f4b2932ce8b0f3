-- Lists of texts among attributes.
use Rattle.std.proofs.Common.{◌≡◌, ◌∙◌, ℕ, ◌≤◌, false, List, [], ◌∷◌, ◌++◌, length, take, nat_eq, ap, refl, IfOk}
use Rattle.std.specs.Prelude.{Result, Ok, Err}
use Rattle.std.proofs.lemmas.List.{take_all}
use Rattle.rst_tree.specs.Attributes.{with_attr, without_key}
use Rattle.rst_tree.specs.Faults.{Becomes}
use Rattle.rst_tree.specs.declared.attrs.Attr.{Attr}
use Rattle.rst_tree.specs.declared.attrs.Value.TheVariants.{List as Listed}
use Rattle.std.specs.declared.alloc.AllocError.{AllocError}
use Rattle.rst_tree.specs.declared.key.Key.{Key}
use Rattle.rst_transform_work.specs.Lists.{listed_texts, with_listed}

-- what becomes one thing becomes whatever is the same
pub becomes_same : {A S : Type 0} (old new wanted same : S) (r : Result A AllocError) → Becomes old new wanted r → wanted ≡ same → IfOk r (λ (done : A). new ≡ same)
becomes_same old new wanted same (Ok done) h e = h ∙ e
becomes_same old new wanted same (Err refused) h e = tt

-- some texts come after those that an attribute lists
pub listed_then : (k : Key) (more : List (List ℕ)) (attrs : List Attr) → nat_eq (length more) 0 ≡ false
    → with_attr k (Listed (listed_texts k attrs ++ more)) (without_key k attrs) ≡ with_listed k more attrs
listed_then k [] attrs h = absurd (cc)
listed_then k (text ∷ more) attrs h = refl

-- the same, where the list, the attributes without it and the texts that come after are at hand
pub listed_by : (k : Key) (more texts start : List (List ℕ)) (attrs rest : List Attr) (n : ℕ) → nat_eq (length more) 0 ≡ false → texts ≡ start ++ take n more → length more ≤ n
    → start ≡ listed_texts k attrs → rest ≡ without_key k attrs → with_attr k (Listed texts) rest ≡ with_listed k more attrs
listed_by k more texts start attrs rest n h t le s r =
    ap (λ ts. with_attr k (Listed ts) rest) (t ∙ ap (λ ts. start ++ ts) (take_all n more le))
    ∙ ap (λ ts. with_attr k (Listed (ts ++ more)) rest) s
    ∙ ap (λ others. with_attr k (Listed (listed_texts k attrs ++ more)) others) r
    ∙ listed_then k more attrs h
