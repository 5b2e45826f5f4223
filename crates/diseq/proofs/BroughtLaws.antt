-- Disequalities that were brought up to bindings.
use Rattle.std.proofs.Common.{◌≡◌, ◌↔◌, ℕ, true, List, [], ◌∷◌, ◌++◌, sym, ap, refl, ◌∙◌}
use Rattle.kan_terms.specs.Tree.{Tree, Tm, Gd, fill}
use Rattle.kan_terms.proofs.TreeLaws.{fill-fill, fill-leaf, fill-same, term_eq-true, eq-term_eq}
use Rattle.kan_model.specs.Stores.Unifiers.{Unifies}
use Rattle.unify_core.specs.Walking.{Pairs, ends, full}
use Rattle.unify_core.specs.Solutions.{IsSolution, AddedTo}
use Rattle.unify_core.proofs.GrowthLaws.{Grown}
use Rattle.unify_core.proofs.SolutionLaws.{solution_of, IsSolution-same}
use Rattle.unify_core.proofs.AddedLaws.{added_solutions}
use Rattle.diseq.specs.Disequalities.{Disequality, SaysAsMuch, NeverEqual, Brought, has_same_sides, is_identical}
use Rattle.diseq.specs.Laws.{AllDiffer, GroundMeaning, BringingGoesOn}
use Rattle.diseq.proofs.ListLaws.{and_parts, and_both}

pub brought_same : (bound : Pairs) (ds : List Disequality) → Brought bound ds ds
brought_same bound [] = Brought.none_left
brought_same bound (es ∷ ds) = Brought.listed (λ f s. (λ u. u, λ u. u)) (brought_same bound ds)

pub brought_joined : (bound : Pairs) (old new old' new' : List Disequality) → Brought bound old new → Brought bound old' new' → Brought bound (old ++ old') (new ++ new')
brought_joined bound old new old' new' Brought.none_left k = k
brought_joined bound old new old' new' (Brought.listed {es = es} {fs = fs} {old = os} {new = ns} same h) k = Brought.listed same (brought_joined bound os ns old' new' h k)
brought_joined bound old new old' new' (Brought.left_out {es = es} {old = os} {new = ns} never h) k = Brought.left_out never (brought_joined bound os ns old' new' h k)

pub brought_twice : (bound : Pairs) (first second third : List Disequality) → Brought bound first second → Brought bound second third → Brought bound first third
brought_twice bound first second third Brought.none_left k = k
brought_twice bound first second third (Brought.left_out {old = os} {new = ns} never h) k = Brought.left_out never (brought_twice bound os second third h k)
brought_twice bound first second third (Brought.listed {es = es} {fs = fs} {old = os} {new = ns} same h) k = after third (λ ms m. brought_twice bound os ns ms h m) k
  where
    after : (third : List Disequality) → ((ms : List Disequality) → Brought bound ns ms → Brought bound os ms) → Brought bound (fs ∷ ns) third → Brought bound (es ∷ os) third
    after third rest (Brought.listed {new = ms} more k) =
        Brought.listed (λ f s. (λ u. (more f s).0 ((same f s).0 u), λ u. (same f s).1 ((more f s).1 u))) (rest ms k)
    after third rest (Brought.left_out never k) = Brought.left_out (λ f s u. never f s ((same f s).0 u)) (rest third k)

-- bindings to which others were added have fewer solutions
pub brought_later : (older : Pairs) (added : List (Tm × Tm)) (bound : Pairs) → AddedTo older added bound → (old new : List Disequality) → Brought older old new → Brought bound old new
brought_later older added bound put old new Brought.none_left = Brought.none_left
brought_later older added bound put old new (Brought.listed {old = os} {new = ns} same h) =
    Brought.listed (λ f s. same f ((added_solutions f older added bound put).0 s).0) (brought_later older added bound put os ns h)
brought_later older added bound put old new (Brought.left_out {old = os} {new = ns} never h) =
    Brought.left_out (λ f s. never f ((added_solutions f older added bound put).0 s).0) (brought_later older added bound put os ns h)

pub bringing_goes_on : BringingGoesOn
bringing_goes_on = record {
  stays = brought_same;
  goes_on = λ older added bound first second third put h k. brought_twice bound first second third (brought_later older added bound put first second h) k;
  joined = brought_joined;
}

-- the full values of variables are a solution, under which a disequality's equations hold where it is identical
pub full_solves : (bound : Pairs) → Grown bound → IsSolution (ends bound) bound
full_solves bound g = IsSolution-same (λ v. fill Tree.leaf (ends bound v)) (ends bound) (λ v. fill-leaf (ends bound v)) bound (solution_of bound g Tree.leaf)

pub identical_unifies : (bound : Pairs) (es : Disequality) → is_identical bound es ≡ true → Unifies (ends bound) es
identical_unifies bound [] h = tt
identical_unifies bound (e ∷ es) h =
    let (here, rest) = and_parts (has_same_sides bound e) (is_identical bound es) h in
    (term_eq-true (full bound e.left) (full bound e.right) here, identical_unifies bound es rest)

pub unifies_identical : (bound : Pairs) (es : Disequality) → Unifies (ends bound) es → is_identical bound es ≡ true
unifies_identical bound [] u = refl
unifies_identical bound (e ∷ es) (same, u) =
    and_both (has_same_sides bound e) (is_identical bound es) (eq-term_eq (full bound e.left) (full bound e.right) same) (unifies_identical bound es u)

-- a ground term as a term without variables
abbrev pub embed : Gd → Tm
embed = fill (λ none. absurd none)

-- it is read back by whatever is put for variables
read_back : (t : Gd) → fill (λ v. Tree.nil) (embed t) ≡ t
read_back t = fill-fill (λ v. Tree.nil) (λ none. absurd none) t ∙ fill-same (λ none. fill (λ v. Tree.nil) (absurd none)) Tree.leaf (λ none. absurd none) t ∙ fill-leaf t

embedded : (f : ℕ → Gd) (t : Tm) → fill (λ v. embed (f v)) t ≡ embed (fill f t)
embedded f t = sym (fill-fill (λ none. absurd none) f t)

module _ (f : ℕ → Gd) where
  there : (s t : Tm) → fill f s ≡ fill f t → fill (λ v. embed (f v)) s ≡ fill (λ v. embed (f v)) t
  there s t e = embedded f s ∙ ap embed e ∙ sym (embedded f t)

  back : (s t : Tm) → fill (λ v. embed (f v)) s ≡ fill (λ v. embed (f v)) t → fill f s ≡ fill f t
  back s t e =
      let same : embed (fill f s) ≡ embed (fill f t) = sym (embedded f s) ∙ e ∙ embedded f t in
      sym (read_back (fill f s)) ∙ ap (fill (λ v. Tree.nil)) same ∙ read_back (fill f t)

  solution_there : (bound : Pairs) → IsSolution f bound → IsSolution (λ v. embed (f v)) bound
  solution_there [] s = tt
  solution_there (p ∷ older) (here, s) = (ap embed here ∙ sym (embedded f p.1), solution_there older s)

  unifies_there : (es : Disequality) → Unifies f es → Unifies (λ v. embed (f v)) es
  unifies_there [] u = tt
  unifies_there (e ∷ es) (same, u) = (there e.left e.right same, unifies_there es u)

  unifies_back : (es : Disequality) → Unifies (λ v. embed (f v)) es → Unifies f es
  unifies_back [] u = tt
  unifies_back (e ∷ es) (same, u) = (back e.left e.right same, unifies_back es u)

  as_much_ground : (bound : Pairs) (es fs : Disequality) → SaysAsMuch bound es fs → IsSolution f bound → Unifies f es ↔ Unifies f fs
  as_much_ground bound es fs same s = (
    λ u. unifies_back fs ((same (λ v. embed (f v)) (solution_there bound s)).0 (unifies_there es u)),
    λ u. unifies_back es ((same (λ v. embed (f v)) (solution_there bound s)).1 (unifies_there fs u)),
  )

  never_ground : (bound : Pairs) (es : Disequality) → NeverEqual bound es → IsSolution f bound → Unifies f es → ⊥
  never_ground bound es never s u = never (λ v. embed (f v)) (solution_there bound s) (unifies_there es u)

  all_ground : (bound : Pairs) (old new : List Disequality) → Brought bound old new → IsSolution f bound → AllDiffer f old ↔ AllDiffer f new
  all_ground bound old new Brought.none_left s = (λ d. d, λ d. d)
  all_ground bound old new (Brought.listed {es = es} {fs = fs} {old = os} {new = ns} same h) s =
      let (to, from) = as_much_ground bound es fs same s in
      let (rest, rest') = all_ground bound os ns h s in (
        λ (differs, d). (λ u. differs (from u), rest d),
        λ (differs, d). (λ u. differs (to u), rest' d),
      )
  all_ground bound old new (Brought.left_out {es = es} {old = os} {new = ns} never h) s =
      let (rest, rest') = all_ground bound os ns h s in (
        λ (differs, d). rest d,
        λ d. (never_ground bound es never s, rest' d),
      )

pub ground_meaning : GroundMeaning
ground_meaning = record {
  as_much = λ bound es fs same f. as_much_ground f bound es fs same;
  never = λ bound es never f. never_ground f bound es never;
  all = λ bound old new h f. all_ground f bound old new h;
}
