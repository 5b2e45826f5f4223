-- Lists of tags, in which each stands once.
use Rattle.std.specs.Prelude.{ℕ, Bool, true, false, ◌&&◌, ◌||◌, not, eqb, List, [], ◌∷◌, ◌++◌}
use Rattle.std.specs.Prelude.{if◌then◌else◌}
use Rattle.kan_terms.specs.Tree.{Tree, has_symbol}

-- a tag is in the list
abbrev pub is_listed : ℕ → List ℕ → Bool
is_listed tag [] = false
is_listed tag (other ∷ more) = eqb other tag || is_listed tag more

-- the list with a tag at the end, unless it is there
abbrev pub with_tag : ℕ → List ℕ → List ℕ
with_tag tag tags = if is_listed tag tags then tags else tags ++ tag ∷ []

-- the list with tags at the end, one after the other
abbrev pub with_tags : List ℕ → List ℕ → List ℕ
with_tags [] tags = tags
with_tags (tag ∷ more) tags = with_tags more (with_tag tag tags)

-- one of the tags stands in a tree
abbrev pub has_any : {V : Type 0} → List ℕ → Tree V → Bool
has_any [] t = false
has_any (tag ∷ more) t = has_symbol tag t || has_any more t

-- each tag is in the list once
abbrev pub is_once : List ℕ → Bool
is_once [] = true
is_once (tag ∷ more) = not (is_listed tag more) && is_once more
