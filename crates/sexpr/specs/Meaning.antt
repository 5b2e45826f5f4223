-- What the tokens of the code stand for.
use Rattle.std.specs.Prelude.{ℕ, ◌-◌, Option, Some, None, false}
use Rattle.kan_grammar.specs.Data.Words.{Atom, Shape, round, square, Prefix, quote, quasiquote}
use Rattle.kan_grammar.specs.Data.Words.{unquote, Token}
use Rattle.kan_grammar.specs.Data.Strings.{string_meaning}
use Rattle.kan_grammar.specs.Data.Tokens.{Start, Piece, blank, spelled}
use Rattle.sexpr.specs.declared.token.Shape.TheVariants.{Round, Square}
use Rattle.sexpr.specs.declared.token.Shape as shapes
use Rattle.sexpr.specs.declared.data.Prefix.TheVariants.{Quote, Quasiquote, Unquote}
use Rattle.sexpr.specs.declared.data.Prefix as prefixes
use Rattle.sexpr.specs.declared.token.Atom as atoms
use Rattle.sexpr.specs.declared.token.Atom.TheVariants as atom_variants
use Rattle.sexpr.specs.declared.token.Token as tokens
use Rattle.sexpr.specs.declared.token.Token.TheVariants as token_variants
use Rattle.sexpr.specs.declared.lexer.Piece as pieces
use Rattle.sexpr.specs.declared.bytes.Start as starts
use Rattle.sexpr.specs.declared.bytes.Start.TheVariants as start_variants

-- a shape of parentheses
abbrev pub shape_of : shapes.Shape → Shape
shape_of Round = round
shape_of Square = square

-- a prefix
abbrev pub prefix_of : prefixes.Prefix → Prefix
prefix_of Quote = quote
prefix_of Quasiquote = quasiquote
prefix_of Unquote = unquote

-- an atom: a symbol is the bytes of its text, and a string those of the text that it means
abbrev pub atom_of : atoms.Atom → Atom
atom_of (atom_variants.Symbol s) = Atom.symbol s.now
atom_of (atom_variants.Text s) = Atom.string (string_meaning false s.now)
atom_of (atom_variants.Number n) = Atom.number n
atom_of (atom_variants.Truth b) = Atom.truth b
atom_of atom_variants.OutOfRange = Atom.out_of_range
atom_of atom_variants.Reserved = Atom.reserved

-- a token
abbrev pub token_of : tokens.Token → Token
token_of (token_variants.Opening s) = Token.opening (shape_of s)
token_of (token_variants.Closing s) = Token.closing (shape_of s)
token_of (token_variants.Prefix p) = Token.prefix (prefix_of p)
token_of token_variants.Dot = Token.dot
token_of (token_variants.Atom a) = Token.atom (atom_of a)
token_of token_variants.BadString = Token.bad_string
token_of token_variants.Bad = Token.bad

-- what a byte begins
abbrev pub start_of : starts.Start → Start
start_of start_variants.Separator = Start.separator
start_of start_variants.Comment = Start.comment
start_of (start_variants.Opening s) = Start.whole (Token.opening (shape_of s))
start_of (start_variants.Closing s) = Start.whole (Token.closing (shape_of s))
start_of (start_variants.Prefix p) = Start.whole (Token.prefix (prefix_of p))
start_of start_variants.Comma = Start.comma
start_of start_variants.Hash = Start.hash
start_of start_variants.Quotation = Start.quotation
start_of start_variants.Word = Start.in_word
start_of start_variants.Bad = Start.whole Token.bad

-- a piece of so many bytes after its first, with a token or without
abbrev pub piece_with : Option tokens.Token → ℕ → Piece
piece_with None n = blank n
piece_with (Some t) n = spelled (token_of t) n

-- a piece
abbrev pub piece_of : pieces.Piece → Piece
piece_of p = piece_with p.token (p.length - 1)
