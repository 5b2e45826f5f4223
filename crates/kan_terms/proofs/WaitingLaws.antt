-- Terms put on a stack.
use Rattle.std.proofs.Common.{◌≡◌, List, [], ◌∷◌, ◌++◌, refl, sym, ◌∙◌, ap}
use Rattle.std.specs.Borrow.{Bor}
use Rattle.kan_terms.specs.Tree.{Tree, Tm}
use Rattle.kan_terms.specs.Terms.{tree}
use Rattle.kan_terms.specs.Waiting.{waiting_trees, parts_of}
use Rattle.kan_terms.specs.declared.terms.Term.{Term}

-- the top of a stack comes first
pub waiting-push : (ts : List (Bor Term)) (t : Bor Term) → waiting_trees (ts ++ t ∷ []) ≡ tree t.now ∷ waiting_trees ts
waiting-push [] t = refl
waiting-push (u ∷ ts) t = ap (λ us. us ++ tree u.now ∷ []) (waiting-push ts t)

-- the two parts of a pair put on the stack
pub parts_wait : (old middle new : List (Bor Term)) (a b : Bor Term) (t : Tm) → middle ≡ old ++ b ∷ [] → new ≡ middle ++ a ∷ [] → t ≡ Tree.pair (tree a.now) (tree b.now) →
    waiting_trees new ≡ parts_of t ++ waiting_trees old
parts_wait old middle new a b t one two is_pair =
    ap waiting_trees two ∙ waiting-push middle a ∙ ap (λ us. tree a.now ∷ us) (ap waiting_trees one ∙ waiting-push old b) ∙ ap (λ u. parts_of u ++ waiting_trees old) (sym is_pair)
