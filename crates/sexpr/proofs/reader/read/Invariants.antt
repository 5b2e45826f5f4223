-- What is unclosed, with the tokens that are left, reads as the whole text does, and so its names come to those of the whole.
use Rattle.std.proofs.Common.{◌≡◌, ◌+◌, length}
use denote.Text.{Utf8}
use denote.Shadow.{shadow}
use Rattle.kan_grammar.specs.Data.Tokens.{tokens_from}
use Rattle.kan_grammar.specs.Texts.TextNames.{Extends, with_tokens, with_text_names}
use Rattle.sexpr.specs.Frames.{HasDepth}
use Rattle.sexpr.proofs.ReadLaws.{Left}
use Rattle.sexpr.proofs.reader.read.Given as goal

abbrev pub invariant-loop-rest : goal.invariant-loop-rest
invariant-loop-rest l = shadow (Utf8 l.rest) × record {
  left : Left l.names l.enclosing l.at l.rest l.bytes;
  depth_is : HasDepth l.enclosing;
  cut : l.at + length l.rest ≡ length l.bytes;
  numbered : with_tokens l.names (tokens_from l.at 0 l.rest) ≡ with_text_names l.fn.names l.bytes;
  names_added : Extends l.at l.fn.names l.names;
}

abbrev pub decreases-loop-rest : goal.decreases-loop-rest
decreases-loop-rest l = length l.rest
