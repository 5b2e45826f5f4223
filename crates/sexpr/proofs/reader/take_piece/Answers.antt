-- A piece with a token is its token before the tokens that follow.
use Rattle.sexpr.proofs.FrameLaws.{on_ok}
use Rattle.sexpr.proofs.ReadLaws.{taken_token, refused_token, numbered_token, text_token}
use Rattle.sexpr.proofs.reader.take_piece.Goals as goal

pub take-requires-clause-text : goal.take-requires-clause-text
take-requires-clause-text c = text_token c.args.piece c.in-Some.token c.in-Some.is c.requires.text

pub returns-in-Some-clause-taken : goal.returns-in-Some-clause-taken
returns-in-Some-clause-taken c = on_ok c.take.result (taken_token c.take.new.names c.args.at c.args.piece c.in-Some.token c.args.enclosing.now c.take.new.enclosing c.in-Some.is) c.take.ensures.taken

pub returns-in-Some-clause-refused : goal.returns-in-Some-clause-refused
returns-in-Some-clause-refused c = refused_token c.take.result c.args.at c.args.piece c.in-Some.token c.args.enclosing.now c.in-Some.is c.take.ensures.refused

pub returns-in-Some-clause-numbered : goal.returns-in-Some-clause-numbered
returns-in-Some-clause-numbered c = on_ok c.take.result (numbered_token c.args.names.now c.take.new.names c.args.piece c.in-Some.token c.in-Some.is) c.take.ensures.numbered
