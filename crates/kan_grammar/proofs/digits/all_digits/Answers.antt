-- `all` answers as the definition's recursion does.
use Rattle.std.proofs.Common.{◌≡◌, ℕ, List, [], ◌∷◌, ◌&&◌, refl, ap, ◌∙◌, rules}
use Rattle.std.specs.List.{list_all}
use Rattle.std.specs.Char.{is_ascii_digit}
use Rattle.std.proofs.lemmas.Iterator.{YieldsList-from_slice}
use Rattle.std.proofs.lemmas.Iterator.Search.{all_from_yields_List}
use Rattle.kan_grammar.specs.Data.Words.{all_digits}
use Rattle.kan_grammar.proofs.digits.all_digits.Goals as goal

same : (bs : List ℕ) → list_all is_ascii_digit bs ≡ all_digits bs
same [] = refl
same (b ∷ bs) = ap (λ more. is_ascii_digit b && more) (same bs)

pub returns : goal.returns
returns c = all_from_yields_List is_ascii_digit _ _ c.all.result c.all.ensures.ran (YieldsList-from_slice c.args.bytes.now cc) (λ x b q k. search rules) ∙ same c.args.bytes.now
