-- What may go to another thread, one type after the other, each over those that it stands on.
use denote.RattleType.{RattleType}
use denote.Param.Send.{IsSend, IsSync, sendable}
use denote.Param.SendFields.{declared_send, declared_sync, variants_send, variants_sync}
use denote.Hole.{as_row}
use denote.Struct.Field.{u32-field, row_field}
use Rattle.std.specs.contracts.option.Option as Option
use Rattle.std.proofs.Crossing.{crosses}
use Rattle.kan_terms.proofs.terms.PairParts.TheLaws.TheKnot as term_knot
use Rattle.kan_terms.specs.contracts.terms.Term as Term
use Rattle.kan_terms.specs.contracts.list.ListOf as ListOf
use Rattle.kan_model.specs.contracts.environment.Env as Env
use Rattle.kan_model.specs.contracts.values.Values as Values
use Rattle.kan_model.specs.contracts.nodes.TermRow as TermRow
use Rattle.kan_model.specs.contracts.nodes.GoalRow as GoalRow
use Rattle.kan_model.specs.contracts.nodes.Relation as Relation
use Rattle.kan_model.specs.contracts.draft.Draft as Draft
use Rattle.kan_model.specs.contracts.program.Program as Program
use Rattle.kan_model.specs.declared.stores.Store.{Ghosts}
use Rattle.stream_core.specs.contracts.streams.Thunk as Thunk
use Rattle.susp_cells.proofs.suspensions.Susp.TheLaws.TheKnot as knot
use Rattle.susp_cells.proofs.suspensions.Mark.TheSendSync as mark
use Rattle.susp_cells.proofs.suspensions.Label.TheSendSync as label
use Rattle.susp_cells.proofs.cells.Cells.TheSendSync as cells
use Rattle.susp_cells.proofs.cells.Kept.TheSendSync as kept
use denote.Ref.{NamedLft}
use Rattle.boxcar.proofs.vec.Vec.TheSendSync as vec
use Rattle.std.proofs.alloc.Global.TheSendSync as heap
use Rattle.susp_cells.specs.contracts.suspensions.Susp as Susp
use Rattle.susp_cells.specs.contracts.forced.Forced as Forced
use Rattle.susp_cells.specs.contracts.tables.Table as Table

pub term_send : IsSend Term.the_row
term_send = search (sendable, crosses, term_knot.crosses) depth 40

pub term_sync : IsSync Term.the_row
term_sync = search (sendable, crosses, term_knot.crosses) depth 40

pub values_send : IsSend Values.the_row
values_send = variants_send Values.enum (
  (search (sendable, crosses, term_send) depth 40, tt),
  ((search (sendable, crosses, term_send, term_sync) depth 40, tt), tt),
)

pub values_sync : IsSync Values.the_row
values_sync = variants_sync Values.enum (
  (search (sendable, crosses, term_sync) depth 40, tt),
  ((search (sendable, crosses, term_send, term_sync) depth 40, tt), tt),
)

pub values_field_send : IsSend (as_row Values.the_field)
values_field_send = search (sendable, crosses, values_send) depth 40

pub values_field_sync : IsSync (as_row Values.the_field)
values_field_sync = search (sendable, crosses, values_sync) depth 40

pub env_send : IsSend Env.the_row
env_send = declared_send Env.the_type (values_field_send, tt)

pub env_sync : IsSync Env.the_row
env_sync = declared_sync Env.the_type (values_field_sync, tt)

pub term_row_sync : IsSync TermRow.the_row
term_row_sync = search (sendable, crosses) depth 40

pub goal_row_sync : IsSync GoalRow.the_row
goal_row_sync = search (sendable, crosses) depth 40

pub relation_sync : IsSync Relation.the_row
relation_sync = search (sendable, crosses) depth 40

pub draft_sync : IsSync Draft.the_row
draft_sync = search (sendable, crosses, term_row_sync, goal_row_sync, relation_sync) depth 40

pub draft_field_sync : IsSync (as_row Draft.the_field)
draft_field_sync = search (sendable, crosses, draft_sync) depth 40

pub env_field_send : IsSend (as_row Env.the_field)
env_field_send = search (sendable, crosses, env_send) depth 40

pub env_field_sync : IsSync (as_row Env.the_field)
env_field_sync = search (sendable, crosses, env_sync) depth 40

pub list_field_send : (T : RattleType) → IsSend T → IsSend (as_row (ListOf.the_field T))
list_field_send T s = search (sendable, crosses) depth 40

pub list_field_sync : (T : RattleType) → IsSync T → IsSync (as_row (ListOf.the_field T))
list_field_sync T s = search (sendable, crosses) depth 40

pub program_sync : IsSync Program.the_row
program_sync = declared_sync Program.the_type (draft_field_sync, tt)

three : {A B C : Type 0} → A → B → C → A × (B × (C × Unit {0}))
three a b c = (a, (b, (c, tt)))

pub thunk_send : (I T : RattleType) → IsSend I → IsSend T → IsSend (Thunk.the_row I T)
thunk_send I T i s =
    let n : IsSend (as_row u32-field) = search sendable in
    let own : IsSend (as_row (row_field T)) = search (sendable, crosses) in
    let inner : IsSend (as_row (row_field I)) = search (sendable, crosses) in
    let tail : IsSend (as_row (Option.the_field I)) = variants_send (Option.enum I) (tt, ((inner, tt), tt)) in
    variants_send (Thunk.enum I T) (three n env_field_send own, (three n env_field_send own, (three (list_field_send T s) tail inner, (three n env_field_send inner, tt))))

pub thunk_sync : (I T : RattleType) → IsSync I → IsSync T → IsSync (Thunk.the_row I T)
thunk_sync I T i y =
    let n : IsSync (as_row u32-field) = search sendable in
    let own : IsSync (as_row (row_field T)) = search (sendable, crosses) in
    let inner : IsSync (as_row (row_field I)) = search (sendable, crosses) in
    let tail : IsSync (as_row (Option.the_field I)) = variants_sync (Option.enum I) (tt, ((inner, tt), tt)) in
    variants_sync (Thunk.enum I T) (three n env_field_sync own, (three n env_field_sync own, (three (list_field_sync T y) tail inner, (three n env_field_sync inner, tt))))

pub susp_send : (St : RattleType) (g : Ghosts St.Denot) → IsSend St → IsSync St → IsSend (Susp.the_row St g)
susp_send St g s y = search (sendable, crosses, knot.crosses, thunk_send, thunk_sync, mark.the_send, mark.the_sync) depth 40

pub susp_sync : (St : RattleType) (g : Ghosts St.Denot) → IsSend St → IsSync St → IsSync (Susp.the_row St g)
susp_sync St g s y = search (sendable, crosses, knot.crosses, thunk_send, thunk_sync, mark.the_send, mark.the_sync) depth 40

pub forced_send : (St : RattleType) (g : Ghosts St.Denot) → IsSend St → IsSync St → IsSend (Forced.the_row St g)
forced_send St g s y = search (sendable, crosses, susp_send) depth 40

pub forced_sync : (St : RattleType) (g : Ghosts St.Denot) → IsSend St → IsSync St → IsSync (Forced.the_row St g)
forced_sync St g s y = search (sendable, crosses, susp_sync) depth 40

pub table_sync : (a : NamedLft) (St : RattleType) (g : Ghosts St.Denot) → IsSend St → IsSync St → IsSync (Table.the_row a St g)
table_sync a St g s y = search (
  sendable,
  crosses,
  program_sync,
  susp_send,
  forced_send,
  forced_sync,
  cells.the_field_sync,
  kept.the_field_sync,
  vec.the_sync,
  label.the_send,
  label.the_sync,
  heap.the_send,
  heap.the_sync,
  heap.the_field_sync,
) depth 40
