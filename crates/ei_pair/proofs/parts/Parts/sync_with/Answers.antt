use Rattle.std.proofs.Common.{◌≡◌, Option, Some, refl, ap}
use Rattle.std.proofs.lemmas.Result.{err_from_is_err_and}
use Rattle.ei_wire.specs.declared.error.SendError.TheVariants as send_error
use Rattle.ei_event.specs.Converter.{ConverterView}
use Rattle.ei_pair.specs.Parts.{PartsView}
use Rattle.ei_pair.proofs.Syncing.{waiting_with}
use Rattle.ei_pair.proofs.SyncingAt.{has_converter, sync_refused_at, sync_spent_at, sync_stored_at, kept_where_err, done_where_ok, exit_as}
use Rattle.ei_pair.proofs.parts.Parts.sync_with.Goals as goal

pub unreachable-requires : goal.unreachable-requires
unreachable-requires g c =
    let v : PartsView g.row.H.Denot = record { ends = c.self.inside.ends; asks = c.self.inside.asks; tells = c.self.inside.tells; converter = c.self.inside.converter; serial = c.self.inside.initial_serial; steady = c.self.inside.steady; client_wanted = c.self.inside.client_wanted; server_wanted = c.self.inside.server_wanted } in
    has_converter v c.args.self.now c.self.view_is c.requires.done c.in_default.is

pub returns-in_err-callback : goal.returns-in_err-callback
returns-in_err-callback g c =
    let v : PartsView g.row.H.Denot = record { ends = c.self.inside.ends; asks = c.self.inside.asks; tells = c.self.inside.tells; converter = c.self.inside.converter; serial = c.self.inside.initial_serial; steady = c.self.inside.steady; client_wanted = c.self.inside.client_wanted; server_wanted = c.self.inside.server_wanted } in
    let p = err_from_is_err_and c.from_residual.result c.from_residual.ensures.1 in
    exit_as c.args.handler c.args.self.now _ c.from_residual.result p.0 c.in_err-callback.field-0.0 p.1 p.2
    (sync_refused_at v c.args.self.now c.self.view_is c.in-Some.converter c.args.handler c.in-Some.is c.requires.sound c.requires.whole c.sync_on.new.ends.client.context c.in_err-callback.field-0.0 c.sync_on.new.ends _ c.in_err-callback.ensures.sends c.in_err-callback.ensures.kept refl)

pub returns-then-is_err : goal.returns-then-is_err
returns-then-is_err g c =
    let v : PartsView g.row.H.Denot = record { ends = c.self.inside.ends; asks = c.self.inside.asks; tells = c.self.inside.tells; converter = c.self.inside.converter; serial = c.self.inside.initial_serial; steady = c.self.inside.steady; client_wanted = c.self.inside.client_wanted; server_wanted = c.self.inside.server_wanted } in
    let same : c.add_callback_handler.new.self ≡ c.in-Some.converter = kept_where_err _ c.add_callback_handler.result c.if-is_err.ensures.value c.add_callback_handler.ensures.err in
    sync_spent_at v c.args.self.now c.self.view_is c.in-Some.converter c.args.handler c.in-Some.is c.requires.sound c.requires.whole c.sync_on.new.ends.client.context c.resting.ensures.spent c.in_ok-callback.callback c.sync_on.new.ends c.spend.new.ends _ c.add_callback_handler.new.self c.in_ok-callback.ensures.sends c.in_ok-callback.ensures.kept c.spend.ensures refl (ap (λ (x : ConverterView g.row.H.Denot). x.kept) same) (ap (λ (x : ConverterView g.row.H.Denot). x.receipts) same)

pub returns-in_err-store_client : goal.returns-in_err-store_client
returns-in_err-store_client g c =
    let v : PartsView g.row.H.Denot = record { ends = c.self.inside.ends; asks = c.self.inside.asks; tells = c.self.inside.tells; converter = c.self.inside.converter; serial = c.self.inside.initial_serial; steady = c.self.inside.steady; client_wanted = c.self.inside.client_wanted; server_wanted = c.self.inside.server_wanted } in
    let p = err_from_is_err_and c.from_residual-in_err-store_client.result c.from_residual-in_err-store_client.ensures.1 in
    let waits : c.add_callback_handler.new.self ≡ waiting_with c.in_ok-callback.callback.id c.args.handler c.in-Some.converter = done_where_ok _ c.add_callback_handler.result c.if-is_err.ensures.value c.add_callback_handler.ensures.ok in
    exit_as c.args.handler c.args.self.now _ c.from_residual-in_err-store_client.result p.0 send_error.NoMemory p.1 p.2
    (sync_spent_at v c.args.self.now c.self.view_is c.in-Some.converter c.args.handler c.in-Some.is c.requires.sound c.requires.whole c.sync_on.new.ends.client.context c.resting.ensures.spent c.in_ok-callback.callback c.sync_on.new.ends c.store_client.new.ends _ c.add_callback_handler.new.self c.in_ok-callback.ensures.sends c.in_ok-callback.ensures.kept c.in_err-store_client.ensures.err refl (ap (λ (x : ConverterView g.row.H.Denot). x.kept) waits) (ap (λ (x : ConverterView g.row.H.Denot). x.receipts) waits))

pub returns : goal.returns
returns g c =
    let v : PartsView g.row.H.Denot = record { ends = c.self.inside.ends; asks = c.self.inside.asks; tells = c.self.inside.tells; converter = c.self.inside.converter; serial = c.self.inside.initial_serial; steady = c.self.inside.steady; client_wanted = c.self.inside.client_wanted; server_wanted = c.self.inside.server_wanted } in
    let waits : c.add_callback_handler.new.self ≡ waiting_with c.in_ok-callback.callback.id c.args.handler c.in-Some.converter = done_where_ok _ c.add_callback_handler.result c.if-is_err.ensures.value c.add_callback_handler.ensures.ok in
    sync_stored_at v c.args.self.now c.self.view_is c.in-Some.converter c.args.handler c.in-Some.is c.requires.sound c.requires.whole c.sync_on.new.ends.client.context c.doing.ensures.may_sync c.doing.ensures.syncs c.in_ok-callback.callback c.sync_on.new.ends c.store_client.new.ends _ c.client_unsent_at-before.result c.in_ok-callback.ensures.sends c.in_ok-callback.ensures.kept c.client_unsent_at-before.ensures c.in_ok-store_client.ensures.stores
    (ap (λ (x : ConverterView g.row.H.Denot). let o : Option (ConverterView g.row.H.Denot) = Some x in o) waits) c.object_of-object.result c.object_of-object.ensures
