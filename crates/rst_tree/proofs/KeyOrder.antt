-- The order of the attributes is that of their names.
use Rattle.std.proofs.Common.{◌≡◌, ◌<◌, ℕ, nat_lt, zero, suc, Bool, true, List, [], ◌∷◌, refl, ◌∙◌, ap, arith}
use Rattle.std.proofs.lemmas.Bool.{agree_below, agree_below_at}
use Rattle.rst_tree.specs.declared.key.Key.{Key}
use Rattle.rst_tree.specs.declared.key.Key.TheVariants.{Align, Alt, Anonymous, Auto, Backlinks, Backrefs, Bullet, Classes, Cols, Colwidth, Delimiter, Depth, Dupnames, Enumtype, Format, Height, Ids, Inline, Kind, Level, Line, Local, Mark, Message, Morecols, Morerows, Name, Names, OwnName, Prefix, Rawsource, Refid, Refname, Refuri, Scale, Serial, Source, Start, Stub, Suffix, TextMessages, Title, Type_, Uri, Width, XmlSpace}
use Rattle.rst_tree.specs.KeyNames.{key_name, key_code}
use Rattle.rst_tree.specs.Law.{is_before, KeysAreInOrder}

abbrev keys : List Key
keys = Align ∷ Alt ∷ Anonymous ∷ Auto ∷ Backlinks ∷ Backrefs ∷ Bullet ∷ Classes ∷ Cols ∷ Colwidth ∷ Delimiter ∷ Depth ∷ Dupnames ∷ Enumtype ∷ Format ∷ Height ∷ Ids ∷ Inline ∷ Kind ∷ Level ∷ Line ∷ Local ∷ Mark ∷ Message ∷ Morecols ∷ Morerows ∷ Name ∷ Names ∷ OwnName ∷ Prefix ∷ Rawsource ∷ Refid ∷ Refname ∷ Refuri ∷ Scale ∷ Serial ∷ Source ∷ Start ∷ Stub ∷ Suffix ∷ TextMessages ∷ Title ∷ Type_ ∷ Uri ∷ Width ∷ XmlSpace ∷ []

-- the key at a place
abbrev key_at : ℕ → List Key → Key → Key
key_at n [] d = d
key_at zero (k ∷ ks) d = k
key_at (suc n) (k ∷ ks) d = key_at n ks d

-- each key is at the place of its code
found : (k : Key) → key_at (key_code k) keys Align ≡ k
found Align = refl
found _ = refl

below_all : (k : Key) → key_code k < 46
below_all Align = omega arith
below_all _ = omega arith

-- a name is before that of the key at a place
abbrev is_before_at : Key → ℕ → Bool
is_before_at k n = is_before (key_name k) (key_name (key_at n keys Align))

row : (k : Key) → agree_below (nat_lt (key_code k)) (is_before_at k) 46 ≡ true
unfolding key_name
row Align = refl
row _ = refl

pub keys_in_order : KeysAreInOrder
keys_in_order k j = agree_below_at (nat_lt (key_code k)) (is_before_at k) 46 (key_code j) (row k) (below_all j) ∙ ap (λ i. is_before (key_name k) (key_name i)) (found j)
