-- No generated load is refused.
use Rattle.std.proofs.Common.{◌≡◌, ◌≤◌, ℕ, true, false, refl, sym, ap, ◌∙◌}
use Rattle.kan_base.specs.Views.{SinkView}
use Rattle.kan_base.specs.declared.status.Status.{Status}
use Rattle.kan_base.specs.declared.status.Status.TheVariants as statuses
use Rattle.kan_grammar.specs.Texts.TextNames.{text_table}
use Rattle.kan_grammar.specs.Texts.ProgramText.{program_of_text, queries_of_text}
use Rattle.kan_grammar.specs.Texts.Reply.{Reply, reply, reply_to_reading, unless_fault}
use Rattle.rel_library.specs.Library.{library}
use Rattle.rel_library.specs.Loads.{load}
use Rattle.rel_library.specs.Accepted.{library_data, load_data}
use Rattle.rel_library.proofs.AcceptedLoads.{loads_are_accepted}
use Rattle.kanren_run.specs.Answers.{IsRefused}
use Rattle.kanren_run.specs.Outcomes.{WritesReply, is_refusal}
use Rattle.kanren_run.specs.Settings.{library_before}
use Rattle.kanren_run.specs.declared.settings.Settings.{Settings}

-- what a load is answered with behind the library
load_reply : (s : Settings) (n : ℕ) → n ≤ 400 →
    reply library (load n) s.dialect ≡ Reply.accepted (text_table library (load n)) (program_of_text s.dialect (text_table library (load n)) library_data (load_data n))
    (queries_of_text s.dialect (text_table library (load n)) library_data (load_data n))
unfolding reply
load_reply s n few =
    let h = loads_are_accepted n few in
    let table = text_table library (load n) in
    ap (reply_to_reading s.dialect table library_data) h.read
    ∙ ap (λ f. unless_fault f (Reply.accepted table (program_of_text s.dialect table library_data (load_data n)) (queries_of_text s.dialect table library_data (load_data n)))) h.faultless

load_answer : (s : Settings) (n at number : ℕ) → n ≤ 400 → s.library ≡ true → IsRefused s (load n) at number → ⊥
load_answer s n at number few on h = let same = sym (load_reply s n few) ∙ ap (λ b. reply (library_before b) (load n) s.dialect) (sym on) ∙ h.is_for in cc

pub load_not_refused : (s : Settings) (n : ℕ) (old new : SinkView) (status : Status) → n ≤ 400 → s.library ≡ true → WritesReply s (load n) old new status → is_refusal status ≡ false
load_not_refused s n old new statuses.Done few on h = refl
load_not_refused s n old new statuses.Fuel few on h = refl
load_not_refused s n old new statuses.Usage few on h = refl
load_not_refused s n old new (statuses.Text at number) few on h = absurd (load_answer s n at number few on h.0)
load_not_refused s n old new statuses.ReadFault few on h = refl
load_not_refused s n old new statuses.WriteFault few on h = refl
load_not_refused s n old new statuses.TooLong few on h = refl
load_not_refused s n old new statuses.Memory few on h = refl
