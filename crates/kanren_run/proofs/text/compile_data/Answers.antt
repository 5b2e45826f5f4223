use Rattle.kanren_run.proofs.TextLaws.{data_come, data_refused}
use Rattle.kanren_run.proofs.text.compile_data.Goals as goal

pub returns-in-Ok : goal.returns-in-Ok
returns-in-Ok c text read = data_come c.args.settings text c.args.names.now _ c.args.library.now c.args.forms.now c.in-Ok.compiled read c.in-Ok.ensures.table c.in-Ok.ensures.compiled

pub returns-in-Err-Fault : goal.returns-in-Err-Fault
returns-in-Err-Fault c text read = data_refused c.args.settings text c.args.names.now c.args.library.now c.args.forms.now _ _ _ c.in-Err-Fault.field-0-is read c.in-Err-Fault.ensures.compiled
