-- Tables that grow: one call after the other, and what is kept.
use Rattle.std.proofs.Common.{◌≡◌, ◌⊎◌, inl, inr, true, false, List, [], ◌∷◌, ◌++◌, refl, sym, ◌∙◌, ap, subst}
use Rattle.std.specs.Prelude.{Option, Some, None, IfSome}
use Rattle.kan_model.specs.declared.program.Program as code
use Rattle.kan_model.specs.Stores.Store as facts
use Rattle.stream_core.specs.CodeTasks.{stack}
use Rattle.stream_core.specs.Tables.{Told, Table, BothTold, InnerStays, KeepsSame, KeepsAll, KeepsMore, KeepsWay, GrowsBy, OnlyAdds, Grows, IsTableOf, IsKept}
use Rattle.stream_core.specs.PathDown.{Leads, EndsPath}
use Rattle.stream_core.specs.declared.streams.Stream.{Stream}
use Rattle.stream_core.proofs.StackLaws.{stack-pop}
use Rattle.stream_core.proofs.StreamLaws.{stays-twice}

module _ {I : Type 0} where
  both-same : (R : Told I → Told I → Type 0) → ((told : Told I) → R told told) → (o : Option (Told I)) → BothTold R o o
  both-same R here None = tt
  both-same R here (Some told) = here told

  both-twice : (Q R S : Told I → Told I → Type 0) → ((a b c : Told I) → Q a b → R b c → S a c) → (o p q : Option (Told I)) → BothTold Q o p → BothTold R p q → BothTold S o q
  both-twice Q R S join None None None h k = tt
  both-twice Q R S join (Some a) (Some b) (Some c) h k = join a b c h k
  both-twice Q R S join None None (Some c) h k = k
  both-twice Q R S join None (Some b) q h k = absurd h
  both-twice Q R S join (Some a) None q h k = absurd h
  both-twice Q R S join (Some a) (Some b) None h k = k

  both-like : (R S : Told I → Told I → Type 0) → ((a b : Told I) → R a b → S a b) → (o p : Option (Told I)) → BothTold R o p → BothTold S o p
  both-like R S more None None h = tt
  both-like R S more (Some a) (Some b) h = more a b h
  both-like R S more None (Some b) h = h
  both-like R S more (Some a) None h = h

  -- a table that grew twice
  grew-twice : (Q R S : Told I → Told I → Type 0) → ((a b c : Told I) → Q a b → R b c → S a c) → (t u v : Table I) → GrowsBy Q t u → GrowsBy R u v → GrowsBy S t v
  grew-twice Q R S join t u v one two = record {
    program = two.program ∙ one.program;
    ids = stays-twice t.belongs u.belongs v.belongs t.tree u.tree v.tree one.ids two.ids;
    inner = both-twice (InnerStays t.belongs) (InnerStays u.belongs) (InnerStays t.belongs) (λ a b c h k id there. k id (one.ids id there).0 ∙ h id there) t.told u.told v.told one.inner two.inner;
    kept = both-twice Q R S join t.told u.told v.told one.kept two.kept;
  }

  grew-like : (R S : Told I → Told I → Type 0) → ((a b : Told I) → R a b → S a b) → (t u : Table I) → GrowsBy R t u → GrowsBy S t u
  grew-like R S more t u grew = record { program = grew.program; ids = grew.ids; inner = grew.inner; kept = both-like R S more t.told u.told grew.kept }

  pub adds_same : (t : Table I) → OnlyAdds t t
  adds_same t = record {
    program = refl;
    ids = λ id there. (there, refl);
    inner = both-same (InnerStays t.belongs) (λ told id there. refl) t.told;
    kept = both-same KeepsSame (λ told. refl) t.told;
  }

  pub adds_twice : (t u v : Table I) → OnlyAdds t u → OnlyAdds u v → OnlyAdds t v
  adds_twice t u v = grew-twice KeepsSame KeepsSame KeepsSame (λ a b c h k. k ∙ h) t u v

  -- suspensions were added, and then a stream was kept
  pub adds_more : (id : I) (t u v : Table I) → OnlyAdds t u → GrowsBy (KeepsMore id) u v → GrowsBy (KeepsMore id) t v
  adds_more id t u v =
      grew-twice KeepsSame (KeepsMore id) (KeepsMore id)
      (λ (a b c : Told I) h k. (k.0, λ other. subst (λ kept. (other ≡ id) ⊎ (c.kept other ≡ kept other)) h (k.1 other))) t u v

  pub adds_grow : (t u : Table I) → OnlyAdds t u → Grows t u
  adds_grow t u = grew-like KeepsSame KeepsAll (λ (a b : Told I) h id kept. ap (λ f. f id) h ∙ kept) t u

  more-keeps : (id : I) (a b : Told I) → KeepsMore id a b → KeepsAll a b
  more-keeps id a b (here, others) other kept = go (others other)
    where
      go : (other ≡ id) ⊎ (b.kept other ≡ a.kept other) → b.kept other ≡ true
      go (inl same) = ap b.kept same ∙ here
      go (inr same) = same ∙ kept

  pub more_grow : (id : I) (t u : Table I) → GrowsBy (KeepsMore id) t u → Grows t u
  more_grow id t u = grew-like (KeepsMore id) KeepsAll (more-keeps id) t u

  pub grow_twice : (t u v : Table I) → Grows t u → Grows u v → Grows t v
  grow_twice t u v = grew-twice KeepsAll KeepsAll KeepsAll (λ a b c h k id kept. k id (h id kept)) t u v

  -- a table is of its program still
  pub table_stays : (R : Told I → Told I → Type 0) (p : code.Program) (t u : Table I) → GrowsBy R t u → IsTableOf p t → IsTableOf p u
  table_stays R p t u grew is = record { program = grew.program ∙ is.program; small = is.small }

  -- the way up from where a stream is kept: the ids that are left lead there, and each for which a stream was kept has one for what is inside
  pub record KeptUpTo (belonged : I → Type 0) (whole : I) (ids : List I) (was is : Told I) : Type 0 where
    pub at : I
    pub leads : Leads was.inner whole ids at
    pub kept : is.kept at ≡ true
    pub inside : (other inner : I) → belonged other → was.kept other ≡ false → is.kept other ≡ true → was.inner other ≡ Some inner → is.kept inner ≡ true

  -- nothing is left
  pub kept-whole : (belonged : I → Type 0) (whole : I) (was is : Option (Told I)) → BothTold (KeptUpTo belonged whole []) was is → BothTold (KeepsWay belonged whole) was is
  kept-whole belonged whole was is = both-like (KeptUpTo belonged whole []) (KeepsWay belonged whole)
      (λ (a b : Told I) h. record { here = ap b.kept (sym h.leads) ∙ h.kept; inside = h.inside }) was is

  pub kept-none : (belonged : I → Type 0) (whole : I) (ids : List I) (was is : Option (Told I)) → ids ≡ [] → BothTold (KeptUpTo belonged whole (stack (λ (i : I). i) ids)) was is → BothTold (KeepsWay belonged whole) was is
  kept-none belonged whole ids was is none h = kept-whole belonged whole was is (subst (λ xs. BothTold (KeptUpTo belonged whole (stack (λ (i : I). i) xs)) was is) none h)

  -- one step up
  one-up : (belonged : I → Type 0) (whole at : I) (rest : List I) (was is now : Told I) → KeptUpTo belonged whole (at ∷ rest) was is → KeepsMore at is now → KeptUpTo belonged whole rest was now
  one-up belonged whole at rest was is now h more = record {
    at = at;
    leads = h.leads.1;
    kept = more.0;
    inside = λ other inner there not is_kept has. go other inner there not is_kept has (more.1 other);
  }
    where
      go : (other inner : I) → belonged other → was.kept other ≡ false → now.kept other ≡ true → was.inner other ≡ Some inner → (other ≡ at) ⊎ (now.kept other ≡ is.kept other) → now.kept inner ≡ true
      go other inner there not is_kept has (inl same) =
          let next : Some inner ≡ Some h.at = sym has ∙ ap was.inner same ∙ h.leads.0 in
          let here : inner ≡ h.at = cc in
          ap now.kept here ∙ more-keeps at is now more h.at h.kept
      go other inner there not is_kept has (inr same) =
          more-keeps at is now more inner (h.inside other inner there not (sym same ∙ is_kept) has)

  pub kept-up : (belonged : I → Type 0) (whole at : I) (ids rest : List I) (was is now : Option (Told I)) → ids ≡ rest ++ at ∷ [] →
      BothTold (KeptUpTo belonged whole (stack (λ (i : I). i) ids)) was is → BothTold (KeepsMore at) is now → BothTold (KeptUpTo belonged whole (stack (λ (i : I). i) rest)) was now
  kept-up belonged whole at ids rest was is now split h more =
      both-twice (KeptUpTo belonged whole (at ∷ stack (λ (i : I). i) rest)) (KeepsMore at) (KeptUpTo belonged whole (stack (λ (i : I). i) rest))
      (λ a b c. one-up belonged whole at (stack (λ (i : I). i) rest) a b c) was is now
      (subst (λ xs. BothTold (KeptUpTo belonged whole xs) was is) (stack-pop (λ (i : I). i) ids rest at split) h) more

  -- where the way ends: a stream was found, or is kept now
  last-kept : (whole last : I) (ids : List I) (belonged : I → Type 0) (was is : Told I) → Leads was.inner whole ids last → (was.kept last ≡ true) ⊎ (was.inner last ≡ None) → KeepsMore last was is →
      KeptUpTo belonged whole ids was is
  last-kept whole last ids belonged was is leads end more = record {
    at = last;
    leads = leads;
    kept = more.0;
    inside = λ other inner there not is_kept has. go other inner not is_kept has (more.1 other) end;
  }
    where
      go : (other inner : I) → was.kept other ≡ false → is.kept other ≡ true → was.inner other ≡ Some inner → (other ≡ last) ⊎ (is.kept other ≡ was.kept other) → (was.kept last ≡ true) ⊎ (was.inner last ≡ None) → is.kept inner ≡ true
      go other inner not is_kept has (inl same) (inl kept) = let none : true ≡ false = sym kept ∙ ap was.kept (sym same) ∙ not in cc
      go other inner not is_kept has (inl same) (inr none) = let both : None ≡ Some inner = sym none ∙ ap was.inner (sym same) ∙ has in cc
      go other inner not is_kept has (inr same) end = let none : true ≡ false = sym is_kept ∙ same ∙ not in cc

  kept-or-last : (o : Option (Told I)) (last : I) → IfSome o (λ told. told.kept last ≡ true) → IfSome o (λ told. (told.kept last ≡ true) ⊎ (told.inner last ≡ None))
  kept-or-last None last h = h
  kept-or-last (Some told) last h = inl h

  none-or-last : (o : Option (Told I)) (last : I) → IfSome o (λ told. told.inner last ≡ None) → IfSome o (λ told. (told.kept last ≡ true) ⊎ (told.inner last ≡ None))
  none-or-last None last h = h
  none-or-last (Some told) last h = inr h

  path-end : {St : Type 0} (means : St → facts.Store) (t : Table I) (last : I) (found : Option (Stream I St)) → EndsPath t means last found → IfSome t.told (λ told. (told.kept last ≡ true) ⊎ (told.inner last ≡ None))
  path-end means t last None end = none-or-last t.told last end.1
  path-end means t last (Some s) end = kept-or-last t.told last end.1

  both-last : (whole last : I) (ids : List I) (belonged : I → Type 0) (was is : Option (Told I)) → IfSome was (λ told. Leads told.inner whole ids last) →
      IfSome was (λ told. (told.kept last ≡ true) ⊎ (told.inner last ≡ None)) → BothTold (KeepsMore last) was is → BothTold (KeptUpTo belonged whole ids) was is
  both-last whole last ids belonged None None leads end more = tt
  both-last whole last ids belonged (Some a) (Some b) leads end more = last-kept whole last ids belonged a b leads end more
  both-last whole last ids belonged None (Some b) leads end more = more
  both-last whole last ids belonged (Some a) None leads end more = more

  pub kept-last : {St : Type 0} (means : St → facts.Store) (whole last : I) (ids : List I) (t u : Table I) (found : Option (Stream I St)) → EndsPath t means last found →
      IfSome t.told (λ told. Leads told.inner whole (stack (λ (i : I). i) ids) last) → GrowsBy (KeepsMore last) t u → BothTold (KeptUpTo t.belongs whole (stack (λ (i : I). i) ids)) t.told u.told
  kept-last means whole last ids t u found end leads more =
      both-last whole last (stack (λ (i : I). i) ids) t.belongs t.told u.told leads (path-end means t last found end) more.kept

  -- a stream that was found is kept already
  kept-twice : (last : I) (told : Told I) → told.kept last ≡ true → KeepsMore last told told
  kept-twice last told kept = (kept, λ other. inr refl)

  found-told : (last : I) (o : Option (Told I)) → IfSome o (λ told. told.kept last ≡ true) → BothTold (KeepsMore last) o o
  found-told last None h = tt
  found-told last (Some told) h = kept-twice last told h

  pub found-more : (t : Table I) (last : I) → IsKept t true last → GrowsBy (KeepsMore last) t t
  found-more t last kept = record {
    program = refl;
    ids = λ id there. (there, refl);
    inner = both-same (InnerStays t.belongs) (λ told id there. refl) t.told;
    kept = found-told last t.told kept;
  }
