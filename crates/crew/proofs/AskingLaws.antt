-- What a seat did, one step after the other.
use Rattle.std.proofs.Common.{◌≡◌, ℕ, ◌+◌, ◌<◌, Bool, refl, ap, ◌∙◌, arith}
use Rattle.pull_budget.specs.declared.rule.View.{View}
use Rattle.pull_budget.specs.Views.{after_asking}
use Rattle.crew.specs.Asking.{HasAsked}

pub none_asked : (v : View) → HasAsked v v 0
none_asked v = record {
  won = omega arith;
  loads = omega arith;
  puller = refl;
  ahead = refl;
  made = refl;
  ender = refl;
}

-- one thing after the other
pub asked_on : (v w x : View) (n m tickets : ℕ) → HasAsked w x m → tickets ≡ n + m → HasAsked v w n → HasAsked v x tickets
asked_on v w x n m tickets b s a = record {
  won = let e = a.won in let f = b.won in omega (arith, e, f, s);
  loads = let e = a.loads in let f = b.loads in omega (arith, e, f);
  puller = b.puller ∙ a.puller;
  ahead = b.ahead ∙ a.ahead;
  made = b.made ∙ a.made;
  ender = b.ender ∙ a.ender;
}

-- the stop word was loaded
pub asked_stop : (v w x : View) (n : ℕ) (set : Bool) → x ≡ after_asking w set → HasAsked v w n → HasAsked v x n
asked_stop v w x n set e a = record {
  won = ap (λ u. u.won) e ∙ a.won;
  loads = let f = ap (λ u. u.loads) e in let g = a.loads in omega (arith, f, g);
  puller = ap (λ u. u.puller) e ∙ a.puller;
  ahead = ap (λ u. u.ahead) e ∙ a.ahead;
  made = ap (λ u. u.made) e ∙ a.made;
  ender = ap (λ u. u.ender) e ∙ a.ender;
}

pub stop_loads : (v w x : View) (n : ℕ) (set : Bool) → x ≡ after_asking w set → HasAsked v w n → v.loads < x.loads
stop_loads v w x n set e a = let f = ap (λ u. u.loads) e in let g = a.loads in omega (arith, f, g)
