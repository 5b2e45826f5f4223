use Rattle.std.proofs.Common.{◌≡◌, ◌≤◌, ◌++◌, take, drop, length}
use Rattle.kan_grammar.specs.Texts.TopForms.{definitions}
use Rattle.kan_grammar.specs.Texts.TextFaults.{forms_faults}
use Rattle.goal_forms.specs.Contexts.{data_at, defined_in}
use Rattle.goal_syntax.specs.Judging.FaultLists.{fault_list}
use Rattle.goal_syntax.proofs.judge_text.judge_forms.Given as goal

-- the relations of the forms that are left come behind those before, and the faults so far and those of what is left are all
abbrev pub invariant-loop-place : goal.invariant-loop-place
invariant-loop-place l = record {
  before : l.before ≤ length (defined_in l.context);
  later : defined_in l.context ≡ take l.before (defined_in l.context)
      ++ definitions l.context.names.now (data_at l.context (drop l.place-index l.forms));
  faults : fault_list l.faults.items ++ forms_faults l.context.names.now (defined_in l.context)
      (take l.before (defined_in l.context)) (data_at l.context (drop l.place-index l.forms))
      ≡ fault_list l.fn.faults.items ++ forms_faults l.context.names.now (defined_in l.context)
      (take l.fn.before (defined_in l.context)) (data_at l.context l.forms);
}
