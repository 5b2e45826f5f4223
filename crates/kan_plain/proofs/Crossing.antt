-- A plain store may go to another thread.
use denote.Param.Send.{IsSend, IsSync, sendable}
use denote.Param.SendFields.{declared_send, declared_sync, variants_send, variants_sync}
use denote.Hole.{as_row}
use denote.Struct.Field.{u32-field, u64-field}
use Rattle.std.proofs.Crossing.{crosses}
use Rattle.kan_terms.proofs.terms.PairParts.TheLaws.TheKnot as term_knot
use Rattle.kan_terms.specs.contracts.terms.Term as Term
use Rattle.kan_model.specs.contracts.prims.Asserted as Asserted
use Rattle.kan_solving.specs.contracts.solving.Replaced as Replaced
use Rattle.kan_plain.specs.contracts.plain.PlainStore as PlainStore

term_send : IsSend Term.the_row
term_send = search (sendable, crosses, term_knot.crosses) depth 40

term_sync : IsSync Term.the_row
term_sync = search (sendable, crosses, term_knot.crosses) depth 40

two : {A B : Type 0} → A → B → A × (B × Unit {0})
two a b = (a, (b, tt))

asserted_send : IsSend Asserted.the_row
asserted_send =
    let t : IsSend (as_row Term.the_field) = search (sendable, crosses, term_send) in
    let n : IsSend (as_row u32-field) = search sendable in
    variants_send Asserted.enum (two t t, (two t t, ((t, tt), ((t, tt), ((t, tt), (two n t, tt))))))

asserted_sync : IsSync Asserted.the_row
asserted_sync =
    let t : IsSync (as_row Term.the_field) = search (sendable, crosses, term_sync) in
    let n : IsSync (as_row u32-field) = search sendable in
    variants_sync Asserted.enum (two t t, (two t t, ((t, tt), ((t, tt), ((t, tt), (two n t, tt))))))

replaced_send : IsSend Replaced.the_row
replaced_send =
    let t : IsSend (as_row Term.the_field) = search (sendable, crosses, term_send) in
    let n : IsSend (as_row u64-field) = search sendable in
    declared_send Replaced.the_type (two n t)

replaced_sync : IsSync Replaced.the_row
replaced_sync =
    let t : IsSync (as_row Term.the_field) = search (sendable, crosses, term_sync) in
    let n : IsSync (as_row u64-field) = search sendable in
    declared_sync Replaced.the_type (two n t)

pub plain_send : IsSend PlainStore.the_row
plain_send = search (sendable, crosses, asserted_send, replaced_send) depth 40

pub plain_sync : IsSync PlainStore.the_row
plain_sync = search (sendable, crosses, asserted_sync, replaced_sync) depth 40
