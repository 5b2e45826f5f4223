-- What clap answers is what the words give.
use Rattle.std.proofs.Common.{◌≡◌, ◌∙◌, Bool, true, false, List, [], ◌∷◌, Option, Some, None, true≢false, refl, sym, ap, ap₂, subst, inl, inr, map, Err}
use Rattle.std.specs.Prelude.{fold}
use Rattle.std.specs.Prelude.{◌⊎◌}
use Rattle.std.specs.Borrow.{Bor}
use Rattle.clap.specs.Kinds.{Kinds, IsAmong, or_else}
use Rattle.clap.specs.declared.error.kind.ErrorKind.{ErrorKind}
use Rattle.clap.specs.declared.error.kind.ErrorKind.TheVariants.{OutOfMemory}
use Rattle.command_line.specs.declared.fault.WordsFault.{WordsFault}
use Rattle.command_line.specs.declared.fault.WordsFault.TheVariants.{Usage, Memory}
use Rattle.command_line.specs.CodeValues.{Gives, words_fault}
use Rattle.clap.specs.Walk.{Row, Rule, Walk, idle, walked, has_row, settled, nothing_held, with_default}
use Rattle.clap.specs.Simple.{App, matches_of, built, is_simple}
use Rattle.clap.specs.Faults.{fault_of, is_simple_and_free, turn_fault, walk_fault, settle_fault, default_fault, defaults_fault}
use Rattle.clap.proofs.FaultLemmas.{leaf_fault}
use Rattle.command_line.specs.Parts.{Text}
use Rattle.command_line.specs.Lines.{Given, values_given, texts}
use Rattle.command_line.specs.Clap.{given_in, AreUtf8}
use Rattle.command_line.proofs.ClapRules.{rules, shape, is_exact}
use Rattle.command_line.specs.Clap.{app}
use Rattle.command_line.proofs.ClapWalk.{walk_at, outcome, unless}
use Rattle.command_line.proofs.ClapLine.{walk_gives}

abbrev end_of : Walk → List Text → Walk
end_of w xs = fold (walked rules []) w xs

unless_both : (a b : Kinds) (o : Option Given) → unless a (unless b o) ≡ unless (or_else a b) o
unless_both [] b o = refl
unless_both (k ∷ ks) b o = refl

or_else_in : (a b c : Kinds) → or_else (or_else a b) c ≡ or_else a (or_else b c)
or_else_in [] b c = refl
or_else_in (k ∷ ks) b c = refl

-- the faults of the words one after another are those of the walk
outcome_is : (w : Walk) (xs : List Text) → outcome w xs ≡ unless (or_else (walk_fault shape [] w xs) (settle_fault rules false (end_of w xs).held)) (Some (given_in (settled rules (end_of w xs).held).rows))
unfolding outcome walk_fault
outcome_is w [] = refl
outcome_is w (x ∷ xs) =
    let next = walked rules [] w x in
    let result : Option Given = Some (given_in (settled rules (end_of next xs).held).rows) in
    ap (unless (turn_fault shape [] w x)) (outcome_is next xs)
    ∙ unless_both (turn_fault shape [] w x) (or_else (walk_fault shape [] next xs) (settle_fault rules false (end_of next xs).held)) result
    ∙ ap (λ ks. unless ks result) (sym (or_else_in (turn_fault shape [] w x) (walk_fault shape [] next xs) (settle_fault rules false (end_of next xs).held)))

-- no rule has a default
no_default : (a : Rule) (rows : List Row) → a.defaults ≡ [] → with_default rows a ≡ rows
no_default a rows none = go (has_row a.id rows) refl
  where
    go : (b : Bool) → has_row a.id rows ≡ b → with_default rows a ≡ rows
    go true e = rw e refl
    go false e = rw (e, none) refl

no_default_fault : (a : Rule) (rows : List Row) → a.defaults ≡ [] → default_fault rows a ≡ []
no_default_fault a rows none = go (has_row a.id rows) refl
  where
    go : (b : Bool) → has_row a.id rows ≡ b → default_fault rows a ≡ []
    go true e = rw e refl
    go false e = rw (e, none) refl

-- each rule of a list has none
abbrev NoDefaults : List Rule → Type 0
NoDefaults [] = Unit {0}
NoDefaults (a ∷ rest) = (a.defaults ≡ []) × NoDefaults rest

same_end : (c : List Rule) → NoDefaults c → (rows : List Row) → fold with_default rows c ≡ rows
same_end [] none rows = refl
same_end (a ∷ rest) none rows = ap (λ rs. fold with_default rs rest) (no_default a rows none.0) ∙ same_end rest none.1 rows

no_end_fault : (c : List Rule) → NoDefaults c → (rows : List Row) → defaults_fault rows c ≡ []
unfolding defaults_fault
no_end_fault [] none rows = refl
no_end_fault (a ∷ rest) none rows = rw (no_default_fault a rows none.0) (no_end_fault rest none.1 (with_default rows a))

none_have : NoDefaults rules
none_have = (refl, (refl, (refl, (refl, (refl, (refl, (refl, (refl, tt))))))))

or_none : (a : Kinds) → or_else a [] ≡ a
or_none [] = refl
or_none (k ∷ ks) = refl

-- the faults of the command, and its matches
fault_is : (words : List Text) → fault_of app words ≡ or_else (walk_fault shape [] (walk_at [] None idle 1 false) words) (settle_fault rules false (end_of (walk_at [] None idle 1 false) words).held)
fault_is words =
    let end = (end_of (walk_at [] None idle 1 false) words).held in
    leaf_fault (built app) nothing_held words refl
    ∙ ap (λ ks. or_else (walk_fault shape [] (walk_at [] None idle 1 false) words) (or_else (settle_fault rules false end) (or_else ks []))) (no_end_fault rules none_have (settled rules end).rows)
    ∙ ap (or_else (walk_fault shape [] (walk_at [] None idle 1 false) words)) (or_none (settle_fault rules false end))

matches_are : (words : List Text) → matches_of app words ≡ (settled rules (end_of (walk_at [] None idle 1 false) words).held).rows
matches_are words = same_end rules none_have (settled rules (end_of (walk_at [] None idle 1 false) words).held).rows

-- what the words give is what clap matches, and nothing where it finds a fault
pub clap_reads : (words : List Text) → AreUtf8 words → values_given words ≡ unless (fault_of app words) (Some (given_in (matches_of app words)))
clap_reads words utf8 =
    sym (walk_gives words utf8) ∙ outcome_is (walk_at [] None idle 1 false) words
    ∙ ap₂ (λ ks rows. unless ks (Some (given_in rows))) (sym (fault_is words)) (sym (matches_are words))

-- the same by the kinds of faults
gives_kinds : (words : List Text) (ks : Kinds) (rows : List Row) → values_given words ≡ unless ks (Some (given_in rows)) → ks ≡ [] → values_given words ≡ Some (given_in rows)
gives_kinds words ks rows is none = is ∙ ap (λ kinds. unless kinds (Some (given_in rows))) none

-- words that clap matches
pub matched_gives : (words : List Text) (a : App) (rows : List Row) → AreUtf8 words → a ≡ app → (is_simple_and_free a ≡ true → fault_of a words ≡ []) → (is_simple a ≡ true → rows ≡ matches_of a words) → values_given words ≡ Some (given_in rows)
matched_gives words a rows utf8 is faultless matches =
    let none : fault_of app words ≡ [] = subst (λ x. fault_of x words ≡ []) is (faultless (ap is_simple_and_free is ∙ is_exact)) in
    let found : rows ≡ matches_of app words = matches (ap is_simple is) ∙ ap (λ x. matches_of x words) is in
    gives_kinds words (fault_of app words) (matches_of app words) (clap_reads words utf8) none ∙ ap (λ rs. Some (given_in rs)) (sym found)

-- words that it refuses
abbrev is_usage : WordsFault → Bool
is_usage Usage = true
is_usage Memory = false

memory_is_no_usage : Memory ≡ Usage → ⊥
memory_is_no_usage e = true≢false (sym (ap is_usage e))

refused_by : (words : List Text) (ks : Kinds) (o : Option Given) (kind : ErrorKind) → values_given words ≡ unless ks o → (kind ≡ OutOfMemory) ⊎ IsAmong kind ks → (words_fault kind ≡ Usage) → values_given words ≡ None
refused_by words ks o kind is (inl memory) usage = absurd (memory_is_no_usage (ap words_fault (sym memory) ∙ usage))
refused_by words [] o kind is (inr among) usage = absurd among
refused_by words (k ∷ ks) o kind is (inr among) usage = is

pub refused_gives : (words : List Text) (a : App) (kind : ErrorKind) (fault : WordsFault) → AreUtf8 words → a ≡ app → (is_simple_and_free a ≡ true → (kind ≡ OutOfMemory) ⊎ IsAmong kind (fault_of a words)) → fault ≡ words_fault kind → Gives (values_given words) (Err fault)
refused_gives words a kind Usage utf8 is kinds usage = refused_by words (fault_of app words) _ kind (clap_reads words utf8) (subst (λ x. (kind ≡ OutOfMemory) ⊎ IsAmong kind (fault_of x words)) is (kinds (ap is_simple_and_free is ∙ is_exact))) (sym usage)
refused_gives words a kind Memory utf8 is kinds usage = tt

-- words as clap sees them
pub same_texts : (ws : List (Bor Text)) → map (λ w. w.now) ws ≡ texts ws
same_texts [] = refl
same_texts (w ∷ ws) = ap (λ more. w.now ∷ more) (same_texts ws)
