use Rattle.std.proofs.Common.{ap, ◌∙◌, map}
use Rattle.kan_model.specs.Stores.Solve.{image}
use Rattle.kan_model.specs.Stores.Calls.{replacement_of}
use Rattle.reify.specs.Naming.{shape_in}
use Rattle.reify.specs.Shapes.{named_pair, tree_of}
use Rattle.reify.specs.Meaning.{absence}
use Rattle.reify.proofs.FreeLaws.{all_named_free}
use Rattle.reify.proofs.ChooseLaws.{term_named, term_is, term_whole}
use Rattle.reify.proofs.AnswerLaws.{naming_is, answer_is, over_holds}
use Rattle.kan_model.specs.Answers.AnswerText.{answer_of}
use Rattle.kan_model.proofs.Answering.AnswerLaws.{answer_in_form}
use Rattle.reify.proofs.answering.answer_of.Goals as goal

pub disequalities-requires : goal.disequalities-requires
disequalities-requires g c =
    all_named_free (g.St.Store.meaning c.args.store.now) c.in_ok-naming.naming (g.met.St.Store.kept c.args.store.now)
    (naming_is (image (replacement_of (g.St.Store.meaning c.args.store.now)) 0) c.in_ok-letters.letters.items c.deref.result.now c.in_ok-naming.naming c.in_ok-letters.ensures c.deref.ensures.value c.in_ok-naming.ensures)

pub names_of-requires : goal.names_of-requires
names_of-requires g c = record {
  free = all_named_free (g.St.Store.meaning c.args.store.now) c.in_ok-naming.naming (g.met.St.Store.kept c.args.store.now)
      (naming_is (image (replacement_of (g.St.Store.meaning c.args.store.now)) 0) c.in_ok-letters.letters.items c.deref.result.now c.in_ok-naming.naming c.in_ok-letters.ensures c.deref.ensures.value c.in_ok-naming.ensures);
}

pub names_of-requires-2 : goal.names_of-requires-2
names_of-requires-2 g c = record {
  free = all_named_free (g.St.Store.meaning c.args.store.now) c.in_ok-naming.naming (g.met.St.Store.kept c.args.store.now)
      (naming_is (image (replacement_of (g.St.Store.meaning c.args.store.now)) 0) c.in_ok-letters.letters.items c.deref.result.now c.in_ok-naming.naming c.in_ok-letters.ensures c.deref.ensures.value c.in_ok-naming.ensures);
}

pub names_of-requires-3 : goal.names_of-requires-3
names_of-requires-3 g c = record {
  free = all_named_free (g.St.Store.meaning c.args.store.now) c.in_ok-naming.naming (g.met.St.Store.kept c.args.store.now)
      (naming_is (image (replacement_of (g.St.Store.meaning c.args.store.now)) 0) c.in_ok-letters.letters.items c.deref.result.now c.in_ok-naming.naming c.in_ok-letters.ensures c.deref.ensures.value c.in_ok-naming.ensures);
}

pub absences-requires-clause-free : goal.absences-requires-clause-free
absences-requires-clause-free g c =
    all_named_free (g.St.Store.meaning c.args.store.now) c.in_ok-naming.naming (g.met.St.Store.kept c.args.store.now)
    (naming_is (image (replacement_of (g.St.Store.meaning c.args.store.now)) 0) c.in_ok-letters.letters.items c.deref.result.now c.in_ok-naming.naming c.in_ok-letters.ensures c.deref.ensures.value c.in_ok-naming.ensures)

pub invariant_of-result : goal.invariant_of-result
invariant_of-result g c = record {
  one = term_whole c.in_ok-naming.naming (image (replacement_of (g.St.Store.meaning c.args.store.now)) 0) c.in_ok-term.term
      (term_named c.in_ok-naming.naming (image (replacement_of (g.St.Store.meaning c.args.store.now)) 0) c.in_ok-letters.letters.items c.in_ok-term.term c.in_ok-letters.ensures
      (c.in_ok-term.ensures ∙ ap (map (shape_in c.in_ok-naming.naming)) c.deref-2.ensures.value));
  whole = c.in_ok-disequalities.ensures.whole;
  over =
      over_holds c.args.names.now _ (answer_of c.args.names.now (g.St.Store.meaning c.args.store.now))
      (
      answer_is c.args.names.now (g.St.Store.meaning c.args.store.now) c.in_ok-naming.naming (tree_of c.in_ok-term.term) (map (map named_pair) c.in_ok-disequalities.disequalities.items)
      c.in_ok-numbers.numbers.items c.in_ok-symbols.symbols.items c.in_ok-strings.strings.items (map absence c.in_ok-absences.absences.items)
      (naming_is (image (replacement_of (g.St.Store.meaning c.args.store.now)) 0) c.in_ok-letters.letters.items c.deref.result.now c.in_ok-naming.naming c.in_ok-letters.ensures c.deref.ensures.value c.in_ok-naming.ensures)
      (term_is c.in_ok-naming.naming (image (replacement_of (g.St.Store.meaning c.args.store.now)) 0) c.in_ok-term.term
      (term_named c.in_ok-naming.naming (image (replacement_of (g.St.Store.meaning c.args.store.now)) 0) c.in_ok-letters.letters.items c.in_ok-term.term c.in_ok-letters.ensures
      (c.in_ok-term.ensures ∙ ap (map (shape_in c.in_ok-naming.naming)) c.deref-2.ensures.value)))
      c.in_ok-disequalities.ensures.named c.in_ok-numbers.ensures c.in_ok-symbols.ensures c.in_ok-strings.ensures c.in_ok-absences.ensures
      )
      (answer_in_form c.args.names.now (g.St.Store.meaning c.args.store.now) c.texts_differ.ensures c.requires.named (g.met.St.Store.kept c.args.store.now));
}

pub returns : goal.returns
returns g c =
    answer_is c.args.names.now (g.St.Store.meaning c.args.store.now) c.in_ok-naming.naming (tree_of c.in_ok-term.term) (map (map named_pair) c.in_ok-disequalities.disequalities.items)
    c.in_ok-numbers.numbers.items c.in_ok-symbols.symbols.items c.in_ok-strings.strings.items (map absence c.in_ok-absences.absences.items)
    (naming_is (image (replacement_of (g.St.Store.meaning c.args.store.now)) 0) c.in_ok-letters.letters.items c.deref.result.now c.in_ok-naming.naming c.in_ok-letters.ensures c.deref.ensures.value c.in_ok-naming.ensures)
    (term_is c.in_ok-naming.naming (image (replacement_of (g.St.Store.meaning c.args.store.now)) 0) c.in_ok-term.term
    (term_named c.in_ok-naming.naming (image (replacement_of (g.St.Store.meaning c.args.store.now)) 0) c.in_ok-letters.letters.items c.in_ok-term.term c.in_ok-letters.ensures
    (c.in_ok-term.ensures ∙ ap (map (shape_in c.in_ok-naming.naming)) c.deref-2.ensures.value)))
    c.in_ok-disequalities.ensures.named c.in_ok-numbers.ensures c.in_ok-symbols.ensures c.in_ok-strings.ensures c.in_ok-absences.ensures
