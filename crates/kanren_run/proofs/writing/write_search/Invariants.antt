use Rattle.std.proofs.Common.{◌≡◌, ◌+◌, ◌≤◌, length}
use Rattle.kan_search.specs.Searches.{answers_left}
use Rattle.kan_model.specs.Answers.Answer.{HasNames}
use Rattle.kan_model.specs.Each.{Each}
use Rattle.kanren_run.specs.Writing.{Written, rest_text}
use Rattle.kanren_run.proofs.writing.write_search.Given as goal

-- the lines so far are put, and what is left of the run ends as the whole
abbrev pub invariant-loop-ended : goal.invariant-loop-ended
invariant-loop-ended g l = record {
  written : Written (rest_text l.names 0 l.fn.search.pulls (answers_left l.fn.search)) (g.K.Sink.view l.fn.sink) (g.K.Sink.view l.sink)
      (rest_text l.names l.answers l.search.pulls (answers_left l.search));
  round : 1 ≤ l.search.round;
  named : Each (HasNames l.names) (answers_left l.search).stores;
  ending : (answers_left l.search).ending ≡ (answers_left l.fn.search).ending;
}

-- what is left to be take_query
abbrev pub decreases-loop-ended : goal.decreases-loop-ended
decreases-loop-ended g l = length (answers_left l.search).stores + (answers_left l.search).pulls
