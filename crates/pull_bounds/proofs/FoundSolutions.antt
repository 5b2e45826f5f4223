-- A derivation at the values of a solution leads to a store that has a longer solution, within the derivation's pulls.
use Rattle.std.proofs.Common.{◌≡◌, ℕ, suc, ◌+◌, ◌*◌, true, List, [], ◌++◌, length, map, Some, slice_get, refl, sym, ap, ap₂, subst, ◌∙◌, arith}
use Rattle.std.specs.List.{list_all}
use Rattle.std.proofs.lemmas.Bool.{and_from}
use Rattle.std.proofs.lemmas.List.{map-append}
use Rattle.std.proofs.lemmas.List.Folds.{list_all-append}
use Rattle.kan_terms.specs.Tree.{Tm, Gd}
use Rattle.kan_terms.specs.Valuations.{value}
use Rattle.kan_model.specs.Programs.Goals.{Primitive, Goal, Template, Relation, Program, on_sides}
use Rattle.kan_model.specs.Stores.Store.{Store, with_prim, with_fresh}
use Rattle.kan_model.specs.Streams.Stream.{Stream, Thunk, one, append}
use Rattle.kan_model.specs.Streams.Running.{run, force, enter, instance, instances, name_pairs, variables}
use Rattle.kan_model.specs.Programs.Scope.{all_below, is_counted}
use Rattle.kan_model.specs.Meaning.Holds.{holds_at, IsSolution, BeginsWith}
use Rattle.kan_model.specs.Meaning.Derivations.{Derivation, Derives, values}
use Rattle.kan_model.specs.Streams.Pulls.{pulls_for, and_first}
use Rattle.kan_model.proofs.Meaning.DerivationLaws.{Derives-from_test}
use Rattle.pull_bounds.specs.Coming.{ComesWithin}
use Rattle.pull_bounds.specs.Finding.{StandsAbove, DerivationIsFound}
use Rattle.pull_bounds.proofs.Within.{Comes, Comes-within, within-Comes, Comes-more}
use Rattle.pull_bounds.proofs.AppendLaws.{left_comes, right_comes}
use Rattle.pull_bounds.proofs.BindLaws.{both_come}
use Rattle.pull_bounds.proofs.KeptStores.{holding_is_added}
use Rattle.pull_bounds.proofs.LongerValuations.{BeginsWith-self, BeginsWith-trans, BeginsWith-length, values-longer, all-below_more, holds-instance, values-instances, sides-below_instance, below-instances, values-variables, below-variables}
use Rattle.pull_bounds.proofs.NamedArguments.{AreNamed, are_named, solution-fresh, counted-fresh, solution-with, counted-with}

-- a store that comes within some pulls, with a solution that begins with these values
pub record Finds (program : Program) (pulls : ℕ) (s : Stream) (us : List Gd) : Type 0 where
  pub store : Store
  pub comes : ComesWithin program pulls s store
  pub counted : is_counted store ≡ true
  pub longer : List Gd
  pub solves : IsSolution store longer
  pub begins : BeginsWith longer us

module _ (program : Program) where
  one_comes : (b : ℕ) (st : Store) → ComesWithin program b (one st) st
  one_comes b st = within-Comes program b (one st) st (Comes.last (0, omega arith, refl))

  pull_comes : (b : ℕ) (i : Thunk) (st : Store) → ComesWithin program b (force program i) st → ComesWithin program (1 + b) (Stream.goes_on [] i) st
  pull_comes b i st h =
      within-Comes program (1 + b) (Stream.goes_on [] i) st
      (Comes-more program (suc b) (1 + b) (Stream.goes_on [] i) st (omega arith) (Comes.pulled (Comes-within program b (force program i) st h)))

  -- where what comes of one stream comes of another one, so does what is found
  found_there : (b c : ℕ) (s t : Stream) (us : List Gd) → ((st : Store) → ComesWithin program b s st → ComesWithin program c t st) → Finds program b s us → Finds program c t us
  found_there b c s t us there found = record {
    store = found.store;
    comes = there found.store found.comes;
    counted = found.counted;
    longer = found.longer;
    solves = found.solves;
    begins = found.begins;
  }

  found_pulled : (b : ℕ) (i : Thunk) (us : List Gd) → Finds program b (force program i) us → Finds program (1 + b) (Stream.goes_on [] i) us
  found_pulled b i us = found_there b (1 + b) (force program i) (Stream.goes_on [] i) us (pull_comes b i)

  -- a solution that begins with a longer one begins with the shorter one
  found_shorter : (b : ℕ) (s : Stream) (us vs : List Gd) → BeginsWith vs us → Finds program b s vs → Finds program b s us
  found_shorter b s us vs begins found = record {
    store = found.store;
    comes = found.comes;
    counted = found.counted;
    longer = found.longer;
    solves = found.solves;
    begins = BeginsWith-trans us vs found.longer found.begins begins;
  }

  -- a primitive that holds
  found_primitive : (p : Primitive Template) (env : List Tm) (st : Store) (us : List Gd) → StandsAbove st env → IsSolution st us →
      holds_at (map (value us) env) p ≡ true → Finds program 0 (run (Goal.prim p) env st) us
  found_primitive p env st us (counted, below) solves h = record {
    store = with_prim st added;
    comes = subst (λ s. ComesWithin program 0 s (with_prim st added)) (sym (holding_is_added st us added solves holds)) (one_comes 0 (with_prim st added));
    counted = counted-with st added counted (sides-below_instance st.counter env below p);
    longer = us;
    solves = solution-with st us added solves holds;
    begins = BeginsWith-self us;
  }
    where
      added : Primitive Tm
      added = on_sides (instance env) p

      holds : holds_at us added ≡ true
      holds = holds-instance us env p ∙ h

  -- an environment stands below the counter of a store with a longer solution, and has the values that it had
  above_later : (env : List Tm) (st later : Store) (us vs : List Gd) → StandsAbove st env → IsSolution st us → is_counted later ≡ true → IsSolution later vs → BeginsWith vs us →
      StandsAbove later env
  above_later env st later us vs (counted, below) (long, h) also (longer, k) begins =
      (also, all-below_more st.counter later.counter (omega (arith, long, longer, BeginsWith-length us vs begins)) env below)

  values_later : (env : List Tm) (st : Store) (us vs : List Gd) → StandsAbove st env → IsSolution st us → BeginsWith vs us → map (value vs) env ≡ map (value us) env
  values_later env st us vs (counted, below) (long, h) begins = values-longer us vs begins env (subst (λ n. list_all (all_below n) env ≡ true) (sym long) below)

  -- fresh variables with these values behind an environment
  above_fresh : (env : List Tm) (st : Store) (k : ℕ) → StandsAbove st env → StandsAbove (with_fresh st k) (env ++ variables st.counter k)
  above_fresh env st k (counted, below) = (
    counted-fresh st k counted,
    list_all-append (all_below (st.counter + k)) env (variables st.counter k)
        ∙ and_from (list_all (all_below (st.counter + k)) env) (list_all (all_below (st.counter + k)) (variables st.counter k))
        (all-below_more st.counter (st.counter + k) (omega arith) env below) (below-variables (st.counter + k) st.counter k (omega arith)),
  )

  values_fresh : (env : List Tm) (st : Store) (us vs : List Gd) → StandsAbove st env → IsSolution st us →
      map (value (us ++ vs)) (env ++ variables st.counter (length vs)) ≡ map (value us) env ++ vs
  values_fresh env st us vs above solves =
      map-append (value (us ++ vs)) env (variables st.counter (length vs))
      ∙ ap₂ (λ l m. l ++ m) (values_later env st us (us ++ vs) above solves (vs, refl))
      (ap (λ n. map (value (us ++ vs)) (variables n (length vs))) (sym solves.0) ∙ values-variables us vs)

  -- where a goal's derivation leads, at whatever store
  abbrev FindsAt : Goal → List Gd → ℕ → Type 0
  FindsAt g ws pulls =
      (env : List Tm) (st : Store) (us : List Gd) → StandsAbove st env → IsSolution st us → map (value us) env ≡ ws → Finds program pulls (run g env st) us

  found_both : (g h : Goal) (ws : List Gd) (b1 b2 : ℕ) → FindsAt g ws b1 → FindsAt h ws b2 → FindsAt (Goal.both g h) ws (and_first program g b1 b2)
  found_both g h ws b1 b2 first second env st us above solves same =
      let one = first env st us above solves same in
      let two = second env one.store one.longer (above_later env st one.store us one.longer above solves one.counted one.solves one.begins) one.solves
      (values_later env st us one.longer above solves one.begins ∙ same) in
      record {
        store = two.store;
        comes = both_come program g h env st one.store two.store b1 b2 one.comes two.comes;
        counted = two.counted;
        longer = two.longer;
        solves = two.solves;
        begins = BeginsWith-trans us one.longer two.longer two.begins one.begins;
      }

  found_fresh : (g : Goal) (ws vs : List Gd) (b : ℕ) → FindsAt g (ws ++ vs) b → FindsAt (Goal.fresh (length vs) g) ws b
  found_fresh g ws vs b below env st us above solves same =
      found_shorter b (run g (env ++ variables st.counter (length vs)) (with_fresh st (length vs))) us (us ++ vs) (vs, refl)
      (below (env ++ variables st.counter (length vs)) (with_fresh st (length vs)) (us ++ vs) (above_fresh env st (length vs) above) (solution-fresh st us vs above.0 solves)
      (values_fresh env st us vs above solves ∙ ap (λ l. l ++ vs) same))

  found_call : (r : ℕ) (args : List Template) (rel : Relation) (ws : List Gd) (b : ℕ) → slice_get program.relations r ≡ Some rel → FindsAt rel.body (values ws args) b →
      FindsAt (Goal.call r args) ws (1 + b)
  found_call r args rel ws b there below env st us above solves same =
      found_pulled b (Thunk.call r (name_pairs st terms).values (name_pairs st terms).store) us
      (found_shorter b (force program (Thunk.call r (name_pairs st terms).values (name_pairs st terms).store)) us are.longer are.begins
      (subst (λ found. Finds program b (enter found (name_pairs st terms).values (name_pairs st terms).store) are.longer) (sym there)
      (below (name_pairs st terms).values (name_pairs st terms).store are.longer (are.counted, are.below) are.solves
      (are.same ∙ values-instances us env args ∙ ap (λ l. values l args) same))))
    where
      terms : List Tm
      terms = instances env args

      are : AreNamed us (map (value us) terms) (name_pairs st terms)
      are = are_named st us terms (above.0, below-instances st.counter env above.1 args) solves

  found_later : (g : Goal) (ws : List Gd) (b : ℕ) → FindsAt g ws b → FindsAt (Goal.later g) ws (1 + b)
  found_later g ws b below env st us above solves same = found_pulled b (Thunk.pause g env st) us (below env st us above solves same)

  -- each derivation leads to a store within its pulls
  finds : (g : Goal) (ws : List Gd) (d : Derivation) → Derives program g ws d → FindsAt g ws (pulls_for program g d)
  finds g ws d (Derives.primitive {p = p} h) env st us above solves same =
      found_primitive p env st us above solves (ap (λ l. holds_at l p) same ∙ h)
  finds g ws d Derives.succeed env st us above solves same =
      record { store = st; comes = one_comes 0 st; counted = above.0; longer = us; solves = solves; begins = BeginsWith-self us }
  finds g ws d (Derives.both {g = g'} {h = k} {d = d'} {e = e} first second) env st us above solves same =
      found_both g' k ws (pulls_for program g' d') (pulls_for program k e) (finds g' ws d' first) (finds k ws e second) env st us above solves same
  finds g ws d (Derives.left {g = g'} {h = k} {d = d'} below) env st us above solves same =
      found_there (pulls_for program g' d') (2 * pulls_for program g' d') (run g' env st) (append (run g' env st) (run k env st)) us
      (left_comes program (pulls_for program g' d') (run g' env st) (run k env st)) (finds g' ws d' below env st us above solves same)
  finds g ws d (Derives.right {g = g'} {h = k} {d = d'} below) env st us above solves same =
      found_there (pulls_for program k d') (2 * pulls_for program k d' + 1) (run k env st) (append (run g' env st) (run k env st)) us
      (right_comes program (pulls_for program k d') (run g' env st) (run k env st)) (finds k ws d' below env st us above solves same)
  finds g ws d (Derives.choose {g = g'} {vs = vs} {d = d'} below) env st us above solves same =
      found_fresh g' ws vs (pulls_for program g' d') (finds g' (ws ++ vs) d' below) env st us above solves same
  finds g ws d (Derives.later {g = g'} {d = d'} below) env st us above solves same =
      found_later g' ws (pulls_for program g' d') (finds g' ws d' below) env st us above solves same
  finds g ws d (Derives.enter {r = r} {args = args} {rel = rel} {d = d'} there below) env st us above solves same =
      rw (there, pulls_for) (found_call r args rel ws (pulls_for program rel.body d') there (finds rel.body (values ws args) d' below) env st us above solves same)

  pub derivation_finds : (g : Goal) (env : List Tm) (st : Store) (us : List Gd) (d : Derivation) → StandsAbove st env → IsSolution st us →
      Derives program g (map (value us) env) d → Finds program (pulls_for program g d) (run g env st) us
  derivation_finds g env st us d above solves h = finds g (map (value us) env) d h env st us above solves refl

pub derivation_is_found : DerivationIsFound
derivation_is_found program g env st us d above solves h =
    let found = derivation_finds program g env st us d above solves (Derives-from_test program g (map (value us) env) d h) in
    (found.store, found.comes, (found.longer, found.solves, found.begins))
