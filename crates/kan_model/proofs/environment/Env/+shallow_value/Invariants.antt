use Rattle.kan_model.proofs.environment.Env.+shallow_value.Given as goal

abbrev pub decreases-shallow_value : goal.decreases-shallow_value
decreases-shallow_value l = l.height
