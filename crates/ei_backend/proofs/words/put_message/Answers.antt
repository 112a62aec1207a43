use Rattle.std.proofs.Common.{sym, ◌∙◌, arith}
use Rattle.std.proofs.lemmas.List.{append-nil}
use Rattle.ei_backend.proofs.InWords.{word_put, message_put}
use Rattle.ei_backend.proofs.words.put_message.Goals as goal

pub loop-i-init : goal.loop-i-init
loop-i-init g c = c.put_header.ensures ∙ sym (append-nil _)

pub loop-i-preserved : goal.loop-i-preserved
loop-i-preserved g c = word_put _ c.args.words.now _ _ c.loop-i.i (omega (arith, c.told-words, c.requires.count)) c.put_at.ensures c.loop-i.invariant

pub returns : goal.returns
returns g c =
    message_put _ _ _ c.loop-i.i c.args.words.now _ c.loop-i-test.false c.loop-i.auto.i-end (omega (arith, c.told-words, c.requires.count)) c.loop-i.invariant
