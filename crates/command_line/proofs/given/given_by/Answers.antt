-- Clap matches the words, or refuses them.
use Rattle.std.proofs.Common.{◌≡◌, ◌∙◌, Some, map, ap, sym, subst}
use Rattle.clap.specs.Words.{app_of, found_of, rows_of}
use Rattle.clap.specs.Kinds.{HasKind}
use Rattle.clap.specs.Simple.{matches_of}
use Rattle.clap.specs.Faults.{fault_of}
use Rattle.command_line.specs.Lines.{texts}
use Rattle.command_line.proofs.ClapReads.{matched_gives, refused_gives, same_texts}
use Rattle.command_line.proofs.given.given_by.Goals as goal

pub returns-in-Ok-try_get_matches_from : goal.returns-in-Ok-try_get_matches_from
returns-in-Ok-try_get_matches_from c =
    let words : map (λ w. w.now) c.args.words.now ≡ texts c.args.words.now = same_texts c.args.words.now in
    matched_gives (texts c.args.words.now) (app_of c.in-Ok.command) (rows_of (found_of c.in-Ok-try_get_matches_from.matches)) c.are_texts.ensures c.in-Ok.ensures
    (λ simple. ap (fault_of (app_of c.in-Ok.command)) (sym words) ∙ c.in-Ok-try_get_matches_from.ensures.kinds simple)
    (λ simple. (c.in-Ok-try_get_matches_from.ensures.matches simple).0 ∙ ap (matches_of (app_of c.in-Ok.command)) words)
    ∙ ap Some (sym c.given_in.ensures)

pub returns-in-Err : goal.returns-in-Err
returns-in-Err c =
    let words : map (λ w. w.now) c.args.words.now ≡ texts c.args.words.now = same_texts c.args.words.now in
    refused_gives (texts c.args.words.now) (app_of c.in-Ok.command) c.in-Err.error.kind c.fault_of.result c.are_texts.ensures c.in-Ok.ensures
    (λ simple. subst (λ ws. HasKind (fault_of (app_of c.in-Ok.command) ws) c.in-Err.error) words (c.in-Err.ensures.kinds simple))
    c.fault_of.ensures
