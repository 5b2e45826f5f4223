use Rattle.task_deques.proofs.holders.TaskDeque.new.Given as goal

abbrev pub ghosts-named : goal.ghosts-named
ghosts-named g a = record { home = a.home.now.numbers }
