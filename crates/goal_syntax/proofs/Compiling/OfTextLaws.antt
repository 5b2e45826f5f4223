-- Data of texts, and libraries that are accepted by themselves, for those who compile.
use Rattle.std.proofs.Common.{◌≡◌, ◌≤◌, ◌<◌, ◌+◌, ◌^◌, ℕ, List, [], map, length, refl, arith, ◌*◌, ap}
use Rattle.std.proofs.lemmas.List.{length-map}
use Rattle.std.specs.Prelude.{None, Ok}
use Rattle.std.specs.Str.{is_utf8, chars}
use Rattle.kan_terms.specs.Table.{Table}
use Rattle.kan_grammar.specs.Data.Faults.{run, read_tokens, read_text, data_are}
use Rattle.kan_grammar.specs.Data.Tokens.{tokens, tokens_from}
use Rattle.kan_grammar.specs.Texts.TextFaults.{faults_of, fault_of_text}
use Rattle.kan_grammar.specs.Texts.ProgramText.{queries_of_text, text_meaning}
use Rattle.kan_grammar.specs.declared.dialect.Dialect.{Dialect}
use Rattle.kan_grammar.specs.Texts.TextNames.{GoesOn, with_prefixes}
use Rattle.kan_grammar.proofs.Texts.NameLaws.{extends_prefixes, goes_on_further}
use Rattle.sexpr.specs.Reads.{Reads}
use Rattle.kan_grammar.specs.Texts.Sited.{with_sites}
use Rattle.goal_forms.specs.Flattening.{meaning}
use Rattle.goal_forms.specs.Sizes.{parts_in}
use Rattle.goal_forms.proofs.DataPlaces.{map-meaning}
use Rattle.goal_forms.proofs.SizeLaws.{text_parts}
use Rattle.goal_syntax.specs.Building.Widths.{forms_width}
use Rattle.goal_syntax.proofs.Building.FormWidthLaws.{forms_narrow}
use Rattle.goal_syntax.specs.Building.Entries.{forms_size}
use Rattle.goal_syntax.proofs.Building.FormEntryLaws.{forms_small}
use Rattle.kan_grammar.proofs.Data.CountLaws.{few_data}
use Rattle.sexpr.specs.WrittenForms.{as_kept, written_form}
use Rattle.sexpr.specs.declared.data.Datum.{Datum}
use Rattle.goal_syntax.specs.Compiling.Compiles.{AreOfText, IsAcceptedAlone}

-- no data are those of the empty text
empty_read : read_text as_kept [] ≡ data_are []
unfolding run read_tokens read_text tokens tokens_from is_utf8 chars
empty_read = refl

pub none_of_text : (names : Table) (ds : List Datum) → ds ≡ [] → AreOfText names ds
none_of_text names ds e = rw e (record { bytes = []; few = omega arith; are = empty_read })

-- data that were read are those of their text, under a table that goes on
pub read_of_text : (old new : Table) (bytes : List ℕ) (ds : List Datum) → length bytes ≤ 1048576 → GoesOn old new → ((later : Table) → GoesOn old later → Reads bytes later (Ok ds)) → AreOfText (with_prefixes new) ds
read_of_text old new bytes ds few further reads = record {
  bytes = bytes;
  few = few;
  are = reads (with_prefixes new) (goes_on_further old new (with_prefixes new) further (extends_prefixes new).goes_on);
}

-- an empty library is accepted
none_faulty : (t : Table) → fault_of_text t [] [] ≡ None
unfolding faults_of
none_faulty t = refl

none_runs : (dialect : Dialect) (t : Table) → queries_of_text dialect t [] [] ≡ []
unfolding text_meaning
none_runs dialect t = refl

pub none_accepted : (names : Table) (ds : List Datum) → ds ≡ [] → IsAcceptedAlone names ds
none_accepted names ds e = rw e (record { faultless = none_faulty names; runless = λ dialect. none_runs dialect names })

-- data of a text are at most as many as its bytes, so those of two are counted by a u32
few_of_text : (names : Table) (ds : List Datum) → AreOfText names ds → length ds ≤ 2 ^ 20
few_of_text names ds of =
    omega (
      arith,
      few_data as_kept of.bytes (map (written_form names) ds) of.are,
      length-map ds (written_form names),
      of.few,
    )

pub few_of_both : (names : Table) (library text : List Datum) → AreOfText names library →
    AreOfText names text → length library + length text < 2 ^ 32
few_of_both names library text ls ds =
    omega (arith, few_of_text names library ls, few_of_text names text ds)

-- data of a text have at most four parts a byte, so few entries are made of them
pub parts_of_text : (old new : Table) (ds : List Datum) → new ≡ with_prefixes old → AreOfText (with_prefixes old) ds → parts_in (map (meaning new) ds) + 3 * length ds ≤ 2 ^ 22
parts_of_text old new ds is of =
    let table = with_prefixes old in
    rw is (
    omega (
      arith,
      text_parts table of.bytes (map (written_form table) ds) of.are,
      ap parts_in (map-meaning table ds),
      length-map ds (written_form table),
      of.few,
    )
    )

pub forms_of_data : (names : Table) (ds : List Datum) → forms_size names (map (with_sites names) (map (written_form names) ds)) ≤ parts_in (map (meaning names) ds) + 3 * length ds
forms_of_data names ds =
    omega (
      arith,
      forms_small names (map (with_sites names) (map (written_form names) ds)),
      ap parts_in (map-meaning names ds),
      length-map (map (written_form names) ds) (with_sites names),
      length-map ds (written_form names),
    )

-- and their goals are narrow
pub narrow_data : (names : Table) (ds : List Datum) → parts_in (map (meaning names) ds) + 3 * length ds ≤ 2 ^ 22 → forms_width names (map (with_sites names) (map (written_form names) ds)) < 2 ^ 21
narrow_data names ds few =
    forms_narrow names (map (with_sites names) (map (written_form names) ds))
    (
    omega (
      arith,
      few,
      ap parts_in (map-meaning names ds),
      length-map (map (written_form names) ds) (with_sites names),
      length-map ds (written_form names),
    )
    )
