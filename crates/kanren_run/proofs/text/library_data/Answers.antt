use Rattle.std.proofs.Common.{rules, ◌∙◌, Err, subst}
use Rattle.kan_grammar.proofs.Texts.NameLaws.{goes_on_same}
use Rattle.sexpr.specs.Reads.{Reads}
use Rattle.kanren_run.proofs.TextLaws.{no_library, reads_library}
use Rattle.kanren_run.proofs.text.library_data.Goals as goal

pub returns-then-not-library-clause-read : goal.returns-then-not-library-clause-read
returns-then-not-library-clause-read c = no_library c.args.library c.args.names.now c.new.result (search rules) c.requires.first c.new.ensures

pub unreachable-requires : goal.unreachable-requires
unreachable-requires c =
    reads_library c.in-Err-Fault.field-0-0 c.in-Err-Fault.field-0-1 c.read.new.names c.in-Err-Fault.field-0 c.in-Err-Fault.field-0-is
    (subst (λ t. Reads t c.read.new.names (Err c.in-Err-Fault.field-0)) (c.as_bytes.ensures.value ∙ c.library_text.ensures.text) (c.in-Err-Fault.ensures.reads c.read.new.names (goes_on_same c.read.new.names)))
