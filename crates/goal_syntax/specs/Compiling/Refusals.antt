-- Want of memory among the refusals.
use Rattle.goal_syntax.specs.declared.refusal.SyntaxError.{SyntaxError}
use Rattle.goal_syntax.specs.declared.refusal.SyntaxError.TheVariants.{Memory}

-- want of memory
abbrev pub memory_wanted : SyntaxError
memory_wanted = Memory
