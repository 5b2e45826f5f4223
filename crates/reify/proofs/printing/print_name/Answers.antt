-- Numbers of 32 bits are printed as std prints them.
use Rattle.std.proofs.Common.{◌≡◌, ◌∷◌, ◌++◌, ap, sym, ◌∙◌, string_bytes, rules, arith}
use Rattle.std.specs.Fmt.{decimal}
use Rattle.kan_model.proofs.Answering.DecimalLaws.{decimal_as_printed}
use Rattle.reify.proofs.printing.print_name.Goals as goal

pub returns : goal.returns
returns c =
    let put : string_bytes c.write.new.self ≡ string_bytes c.args.text.now ++ 95 ∷ decimal c.args.name = search rules in
    put ∙ ap (λ x. string_bytes c.args.text.now ++ 95 ∷ x) (sym (decimal_as_printed c.args.name (omega (arith, c.ranges.name.fits))))
