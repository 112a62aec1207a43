use Rattle.std.proofs.Common.{[], sym, ap, subst, ◌∙◌}
use Rattle.ei_spec.specs.declared.interface.KnownInterface.TheVariants as known
use Rattle.ei_backend.specs.Backend.{BackendView}
use Rattle.ei_playing.specs.Playing.{messages}
use Rattle.ei_player.specs.Objects.{MayHear, Knows, with_peer}
use Rattle.ei_session.specs.Setup.{connection_id, seat_id}
use Rattle.ei_replay.proofs.Opening.{some_greeting, few_greeting, hears_first, knows_greeted, begun_goes, greeting_fails, fails_greeted, opened}
use Rattle.ei_replay.proofs.player.Player.open.Goals as goal

pub deliver-requires : goal.deliver-requires
deliver-requires c =
    let x = c.requires.can in
    record {
      going = begun_goes x.setup c.args.self.now.session x.begun.fresh;
      some = some_greeting c.args.self.now.client x.begun.greeted;
      few = few_greeting c.args.self.now.client x.begun.greeted;
    }

pub announce_first-requires : goal.announce_first-requires
announce_first-requires c =
    subst (λ (b : BackendView). MayHear connection_id seat_id b) (sym c.in_ok-deliver.ensures.flushed) (hears_first c.args.self.now.client c.requires.can.begun.greeted)

pub returns-in_err-deliver : goal.returns-in_err-deliver
returns-in_err-deliver c = λ setup x.
    greeting_fails setup c.args.self.now.session x.fresh x.limit c.in_err-deliver.field-0.0 c.from_residual.result (record c.args.self.now { client = c.deliver.new.client; session = c.deliver.new.session })
    c.args.self.now.client.unsent c.deliver.new.session c.args.stream.now.items c.deliver.new.stream.items c.args.out.now.items c.deliver.new.out.items
    c.from_residual.ensures.1 x.greeted.unsent_is (c.in_err-deliver.ensures.delivers setup [] [] x.fresh)

pub returns-in_err-announce_first : goal.returns-in_err-announce_first
returns-in_err-announce_first c = λ setup x.
    fails_greeted setup c.args.self.now.session x.fresh x.limit c.from_residual-in_err-announce_first.result (record c.args.self.now { client = c.announce_first.new.client; session = c.deliver.new.session })
    c.args.self.now.client.unsent c.deliver.new.session c.args.stream.now.items c.deliver.new.stream.items c.args.out.now.items c.deliver.new.out.items
    c.from_residual-in_err-announce_first.ensures.1 x.greeted.unsent_is (c.in_ok-deliver.ensures.delivers setup [] [] x.fresh)

pub returns : goal.returns
returns c = λ setup x.
    let told = c.in_ok-announce_first.ensures ∙ ap (λ (b : BackendView). with_peer (with_peer b connection_id known.Connection 1) seat_id known.Seat 2) c.in_ok-deliver.ensures.flushed in
    let knows = subst (λ (b : BackendView). Knows (messages []) b) (sym told) (knows_greeted c.args.self.now.client x.greeted) in
    opened setup c.args.self.now.session x.fresh x.limit c.args.self.now.client.unsent (record c.args.self.now { client = c.announce_first.new.client; session = c.deliver.new.session })
    c.args.stream.now.items c.deliver.new.stream.items c.args.out.now.items c.deliver.new.out.items
    x.greeted.unsent_is (c.in_ok-deliver.ensures.delivers setup [] [] x.fresh) knows x.sums x.same
