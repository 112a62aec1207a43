use Rattle.reis_trace.proofs.Tracing.{begins, last_traced, more_traced, all_traced}
use Rattle.reis_trace.proofs.reply.push_whole.Goals as goal

pub loop-is_message-init : goal.loop-is_message-init
loop-is_message-init c = begins c.args.client.now c.args.lines.now.items c.requires

pub push_next-requires : goal.push_next-requires
push_next-requires c = c.loop-is_message.invariant.no_handles

pub returns-then-not-is_message : goal.returns-then-not-is_message
returns-then-not-is_message c =
    last_traced c.args.client.now c.loop-is_message.client c.push_next.new.client c.args.lines.now.items c.loop-is_message.lines.items c.push_next.new.lines.items c.loop-is_message.invariant
    c.in_ok-is_message.field-0 c.in-Some.is_message c.in-Some.is c.if-not-is_message.true c.in_ok-is_message.ensures

pub loop-is_message-smaller : goal.loop-is_message-smaller
loop-is_message-smaller c =
    (more_traced c.args.client.now c.loop-is_message.client c.push_next.new.client c.args.lines.now.items c.loop-is_message.lines.items c.push_next.new.lines.items c.loop-is_message.invariant
    c.in_ok-is_message.field-0 c.in-Some.is_message c.in-Some.is c.if-not-is_message.false c.in_ok-is_message.ensures).1

pub loop-is_message-preserved : goal.loop-is_message-preserved
loop-is_message-preserved c =
    (more_traced c.args.client.now c.loop-is_message.client c.push_next.new.client c.args.lines.now.items c.loop-is_message.lines.items c.push_next.new.lines.items c.loop-is_message.invariant
    c.in_ok-is_message.field-0 c.in-Some.is_message c.in-Some.is c.if-not-is_message.false c.in_ok-is_message.ensures).0

pub returns : goal.returns
returns c =
    all_traced c.args.client.now c.loop-is_message.client c.push_next.new.client c.args.lines.now.items c.loop-is_message.lines.items c.push_next.new.lines.items c.loop-is_message.invariant
    c.in_ok-is_message.field-0 c.in_default.is c.in_ok-is_message.ensures
