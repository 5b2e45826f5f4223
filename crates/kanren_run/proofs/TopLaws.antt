-- What the writing of runs and of refusals makes of the answer of a text.
use Rattle.std.proofs.Common.{◌≡◌, ℕ, Bool, List, Option, map, true, Err, sym, ◌∙◌, ap, subst}
use Rattle.std.specs.List.{list_all}
use Rattle.std.specs.Io.KnownBytes.{Appends}
use Rattle.kan_refusals.specs.declared.refusals.Refusal.{Refusal}
use Rattle.kan_base.specs.Views.{SinkView}
use Rattle.kan_base.specs.Writes.{PutsFront}
use Rattle.kan_terms.specs.Table.{Table}
use Rattle.kan_model.specs.Programs.Closed as programs
use Rattle.kan_model.specs.Programs.Closed.{query_of}
use Rattle.kan_model.specs.Answers.Output.{runs_output}
use Rattle.kan_grammar.specs.Data.Faults.{fault}
use Rattle.kan_grammar.specs.Texts.Reply.{reply_bytes, refusal_line, spends_fuel}
use Rattle.kanren_run.specs.Answers.{reply_to, answer_bytes, is_accepted, AreInForm, IsRefusedFor, Runs, spends}
use Rattle.kanren_run.specs.Outcomes.{PutFront, PutWhole}
use Rattle.kanren_run.specs.Replies.{HasRuns, ComesTo}
use Rattle.kanren_run.specs.declared.text.NotRun.{NotRun}
use Rattle.kanren_run.specs.declared.text.NotRun.TheVariants as not_run
use Rattle.kanren_run.specs.declared.refusal.Fault as refusals
use Rattle.kanren_run.specs.declared.writing.Stop.{Stop}
use Rattle.kanren_run.specs.Writing.{Stops}
use Rattle.kanren_run.specs.declared.settings.Settings.{Settings}
use Rattle.kanren_run.proofs.DeclaredTypes as declared
use Rattle.kan_model.specs.Answers.InForm.{TextsDiffer}
use Rattle.kanren_run.specs.Tags.{is_body_named}
use Rattle.kanren_run.proofs.FormLaws.{answers_in_form}
use Rattle.kanren_run.proofs.RunLaws.{runs-same, spends-same}

-- the lines of the runs are what is written for the text
lines_same : (s : Settings) (text : List ℕ) (names : Table) (program : declared.Program) (queries : List declared.Query) (has : HasRuns s text names program queries) →
    runs_output names (programs.meaning program) s.fuel (map (query_of program) queries) ≡ answer_bytes s text
lines_same s text names program queries has =
    runs-same names (programs.meaning program) has.meant has.relations s.fuel (map (query_of program) queries)
    ∙ ap (reply_bytes s.fuel) (sym has.answered)

-- their answers are in form
forms_of : (s : Settings) (text : List ℕ) (names : Table) (program : declared.Program) (queries : List declared.Query) (has : HasRuns s text names program queries) → TextsDiffer names → AreInForm s.fuel (reply_to s text)
forms_of s text names program queries has differ =
    subst (AreInForm s.fuel) (sym has.answered)
    (answers_in_form s.fuel names has.meant (map (query_of program) queries) differ (subst (λ rs. list_all (is_body_named names) rs ≡ true) has.relations has.can.bodies) has.can.goals)

-- whether one of them spends its fuel
runs_of : (s : Settings) (text : List ℕ) (names : Table) (program : declared.Program) (queries : List declared.Query) (spent : Bool) (has : HasRuns s text names program queries) → TextsDiffer names →
    spent ≡ spends (programs.meaning program) s.fuel (map (query_of program) queries) → Runs s text spent
runs_of s text names program queries spent has differ told = record {
  accepted = ap is_accepted has.answered;
  in_form = forms_of s text names program queries has differ;
  spends = ap (spends_fuel s.fuel) has.answered
      ∙ sym (told ∙ spends-same (programs.meaning program) has.meant has.relations s.fuel (map (query_of program) queries));
}

-- the same where the queries are lent as a list of items
pub runs_done : (s : Settings) (text : List ℕ) (names : Table) (program : declared.Program) (queries items : List declared.Query) (b spent : Bool) (old new : SinkView) → TextsDiffer names → HasRuns s text names program queries → items ≡ queries →
    spent ≡ b → spent ≡ spends (programs.meaning program) s.fuel (map (query_of program) items) → Appends old.put new.put (runs_output names (programs.meaning program) s.fuel (map (query_of program) items)) × (new.faults ≡ old.faults) →
    Runs s text b × PutWhole s text old.put new.put × (new.faults ≡ old.faults)
runs_done s text names program queries items b spent old new differ has same is told (puts, still) = (
  runs_of s text names program queries b has differ (sym is ∙ told ∙ ap (λ qs. spends (programs.meaning program) s.fuel (map (query_of program) qs)) same),
  subst (Appends old.put new.put) (ap (λ qs. runs_output names (programs.meaning program) s.fuel (map (query_of program) qs)) same ∙ lines_same s text names program queries has) puts,
  still,
)

pub runs_stopped : (s : Settings) (text : List ℕ) (names : Table) (program : declared.Program) (queries items : List declared.Query) (put after : Option (List ℕ)) → TextsDiffer names → HasRuns s text names program queries → items ≡ queries →
    PutsFront put after (runs_output names (programs.meaning program) s.fuel (map (query_of program) items)) → PutFront s text put after
runs_stopped s text names program queries items put after differ has same front = record {
  front = subst (PutsFront put after) (ap (λ qs. runs_output names (programs.meaning program) s.fuel (map (query_of program) qs)) same ∙ lines_same s text names program queries has) front;
  in_form = forms_of s text names program queries has differ;
}

-- the line of a refusal is what is written for the text
line_same : (s : Settings) (text : List ℕ) (at : ℕ) (refusal : Refusal) (line : List ℕ) → IsRefusedFor s text at refusal → line ≡ refusal_line (fault at refusal) → line ≡ answer_bytes s text
line_same s text at refusal line refused is = is ∙ ap (reply_bytes s.fuel) (sym refused)

pub refused_front : (s : Settings) (text : List ℕ) (at : ℕ) (refusal : Refusal) (line : List ℕ) (put after : Option (List ℕ)) → IsRefusedFor s text at refusal → line ≡ refusal_line (fault at refusal) → PutsFront put after line → PutFront s text put after
refused_front s text at refusal line put after refused is front = record {
  front = subst (PutsFront put after) (line_same s text at refusal line refused is) front;
  in_form = subst (AreInForm s.fuel) (sym refused) tt;
}

pub refused_whole : (s : Settings) (text : List ℕ) (at : ℕ) (refusal : Refusal) (line : List ℕ) (put after : Option (List ℕ)) → IsRefusedFor s text at refusal → line ≡ refusal_line (fault at refusal) → Appends put after line → PutWhole s text put after
refused_whole s text at refusal line put after refused is whole = subst (Appends put after) (line_same s text at refusal line refused is) whole

-- the same of equal stops, and of equal refusals
pub stops_as : (text : List ℕ) (old new : SinkView) (a b : Stop) → a ≡ b → Stops text old new a → Stops text old new b
stops_as text old new a b is stops = subst (Stops text old new) is stops

pub refused_as : (s : Settings) (text : List ℕ) (names : Table) (x : NotRun) (f : refusals.Fault) → x ≡ not_run.Fault f → ComesTo s text names (Err x) → IsRefusedFor s text f.at f.refusal
refused_as s text names x f is comes = subst (λ y. ComesTo s text names (Err y)) is comes

pub refused_also : (s : Settings) (text : List ℕ) (f g : refusals.Fault) → f ≡ g → IsRefusedFor s text f.at f.refusal → IsRefusedFor s text g.at g.refusal
refused_also s text f g is h = subst (λ (x : refusals.Fault). IsRefusedFor s text x.at x.refusal) is h
