use Rattle.std.proofs.Common.{ap, ◌∙◌}
use Rattle.ei_handshake.specs.Client.{ClientView}
use Rattle.ei_handshake.proofs.Greeting.{first_sent, name_sent, kind_sent, room_for_versions, finish_sent, all_sent}
use Rattle.ei_handshake.proofs.client.EiHandshaker.send_greeting.Goals as goal

pub unwrap-requires : goal.unwrap-requires
unwrap-requires c =
    (first_sent c.args.handshake.now c.args.self.now.greeter c.requires.short c.args.ctx.now c.handshake_version.new.ctx c.handshake_version.result c.requires.spare c.handshake_version.ensures.sends).ok

pub unwrap-requires-2 : goal.unwrap-requires-2
unwrap-requires-2 c =
    let name_is = c.as_str.ensures ∙ ap (λ (h : ClientView). h.greeter.name) c.self.view_is in
    (name_sent c.args.handshake.now c.args.self.now.greeter c.requires.short c.args.ctx.now c.handshake_version.new.ctx c.handshake_version.result c.requires.spare c.handshake_version.ensures.sends
    c.name.new.ctx c.name.result c.as_str.result.now name_is c.name.ensures.sends).ok

pub unwrap-requires-3 : goal.unwrap-requires-3
unwrap-requires-3 c =
    let name_is = c.as_str.ensures ∙ ap (λ (h : ClientView). h.greeter.name) c.self.view_is in
    let kind_is = ap (λ (h : ClientView). h.greeter.kind) c.self.view_is in
    (kind_sent c.args.handshake.now c.args.self.now.greeter c.requires.short c.args.ctx.now c.handshake_version.new.ctx c.handshake_version.result c.requires.spare c.handshake_version.ensures.sends
    c.name.new.ctx c.name.result c.as_str.result.now name_is c.name.ensures.sends
    c.context_type.new.ctx c.context_type.result c.self.inside.context_type kind_is c.context_type.ensures.sends).ok

pub announce_all-requires : goal.announce_all-requires
announce_all-requires c =
    let name_is = c.as_str.ensures ∙ ap (λ (h : ClientView). h.greeter.name) c.self.view_is in
    let kind_is = ap (λ (h : ClientView). h.greeter.kind) c.self.view_is in
    room_for_versions c.args.handshake.now c.args.self.now.greeter c.requires.short c.args.ctx.now c.handshake_version.new.ctx c.handshake_version.result c.requires.spare c.handshake_version.ensures.sends
    c.name.new.ctx c.name.result c.as_str.result.now name_is c.name.ensures.sends
    c.context_type.new.ctx c.context_type.result c.self.inside.context_type kind_is c.context_type.ensures.sends

pub unwrap-requires-4 : goal.unwrap-requires-4
unwrap-requires-4 c =
    let name_is = c.as_str.ensures ∙ ap (λ (h : ClientView). h.greeter.name) c.self.view_is in
    let kind_is = ap (λ (h : ClientView). h.greeter.kind) c.self.view_is in
    (finish_sent c.args.handshake.now c.args.self.now.greeter c.requires.short c.args.ctx.now c.handshake_version.new.ctx c.handshake_version.result c.requires.spare c.handshake_version.ensures.sends
    c.name.new.ctx c.name.result c.as_str.result.now name_is c.name.ensures.sends
    c.context_type.new.ctx c.context_type.result c.self.inside.context_type kind_is c.context_type.ensures.sends
    c.announce_all.new.ctx c.finish.new.ctx c.finish.result c.announce_all.ensures.sends c.announce_all.ensures.spare c.finish.ensures.sends).ok

pub returns : goal.returns
returns c =
    let name_is = c.as_str.ensures ∙ ap (λ (h : ClientView). h.greeter.name) c.self.view_is in
    let kind_is = ap (λ (h : ClientView). h.greeter.kind) c.self.view_is in
    all_sent c.args.handshake.now c.args.self.now.greeter c.requires.short c.args.ctx.now c.handshake_version.new.ctx c.handshake_version.result c.requires.spare c.handshake_version.ensures.sends
    c.name.new.ctx c.name.result c.as_str.result.now name_is c.name.ensures.sends
    c.context_type.new.ctx c.context_type.result c.self.inside.context_type kind_is c.context_type.ensures.sends
    c.announce_all.new.ctx c.finish.new.ctx c.finish.result c.announce_all.ensures.sends c.announce_all.ensures.spare c.finish.ensures.sends
