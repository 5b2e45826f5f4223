-- Strings, character by character.
use Rattle.std.specs.Prelude.{ℕ, Bool, true, false, ◌==◌, List, [], if◌then◌else◌, encode_utf8}
use Rattle.std.specs.Prelude.{codes}
use Rattle.kan_grammar.specs.Data.Strings.{Role, escape_meaning}
use Rattle.sexpr.specs.declared.strings.Role as roles
use Rattle.sexpr.specs.declared.strings.Role.TheVariants as role_variants

-- what a byte is to a string
abbrev pub role_of : roles.Role → Role
role_of role_variants.Closes = Role.closes
role_of role_variants.Never = Role.never
role_of role_variants.Part = Role.part

-- a character's part in what a string means, directly behind a backslash or not
abbrev pub character_meaning : Bool → ℕ → List ℕ
character_meaning true c = encode_utf8 (escape_meaning c)
character_meaning false c = if c == 92 then [] else encode_utf8 c

-- a character of a string as it is spelled
abbrev pub character_text : ℕ → List ℕ
character_text c =
    if c == 34
    then codes "\\\"" else (if c == 92 then codes "\\\\" else (if c == 10 then codes "\\n"
    else (if c == 9 then codes "\\t" else (if c == 13 then codes "\\r" else encode_utf8 c))))
