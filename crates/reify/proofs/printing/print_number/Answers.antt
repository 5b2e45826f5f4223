-- Numbers of 128 bits are printed as std prints them.
use Rattle.std.proofs.Common.{◌≡◌, ◌++◌, ap, sym, ◌∙◌, string_bytes, rules}
use Rattle.std.specs.Fmt.{signed_decimal}
use Rattle.sexpr.proofs.PrintLaws.{printed_number}
use Rattle.reify.proofs.printing.print_number.Goals as goal

pub returns : goal.returns
returns c =
    let put : string_bytes c.write.new.self ≡ string_bytes c.args.text.now ++ signed_decimal c.args.number = search rules in
    put ∙ ap (λ x. string_bytes c.args.text.now ++ x) (sym (printed_number c.args.number c.ranges.number.sfits))
