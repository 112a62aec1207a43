-- A connection that the client ends, worked by hand.
use Rattle.std.proofs.Common.{true, false, [], ◌∷◌, inl, refl, arith, lit≤}
use Rattle.ei_ends.specs.Sent.{Took, Missed, spelled}
use Rattle.ei_ends.specs.Joined.{AreListedCalls}
use Rattle.ei_ends.specs.Worked.{server_says, client_says, client_writes, silence, connection, sync, done, disconnect, seat, device, talk_answered, talk_ended}
use Rattle.ei_ends.proofs.Talking.{IsTalk, server_said, client_said, client_wrote, is_silence, all_open}

may_connect : AreListedCalls true (connection ∷ []) [] []
unfolding all_open
may_connect = (
  _,
  record {
    call = record { row = refl; kinds = (omega arith, (omega arith, (omega arith, tt))); target = omega arith; opcode = omega arith; short = lit≤ tt };
    target = refl;
    next = refl;
    left = lit≤ tt;
  },
  tt,
)

is_connected : IsTalk (server_says (connection ∷ []) silence) (connection ∷ []) [] [] (Took connection 0 ∷ []) []
unfolding all_open
is_connected = server_said (connection ∷ []) silence [] [] [] [] [] is_silence may_connect (lit≤ tt) refl (inl refl, tt)

may_sync : AreListedCalls false (sync ∷ []) [] (Took connection 0 ∷ [])
unfolding all_open
may_sync = (
  _,
  record {
    call = record { row = refl; kinds = (omega arith, (omega arith, tt)); target = omega arith; opcode = omega arith; short = lit≤ tt };
    target = refl;
    next = refl;
    left = lit≤ tt;
  },
  tt,
)

may_answer : AreListedCalls true (done ∷ []) (connection ∷ []) (Took sync 1 ∷ [])
unfolding all_open
may_answer = (
  _,
  record {
    call = record { row = refl; kinds = (omega arith, tt); target = omega arith; opcode = omega arith; short = lit≤ tt };
    target = refl;
    next = tt;
    left = lit≤ tt;
  },
  tt,
)

may_end : AreListedCalls false (disconnect ∷ []) (sync ∷ []) (Took done 1 ∷ Took connection 0 ∷ [])
unfolding all_open
may_end = (
  _,
  record {
    call = record { row = refl; kinds = tt; target = omega arith; opcode = omega arith; short = lit≤ tt };
    target = refl;
    next = tt;
    left = lit≤ tt;
  },
  tt,
)

pub may_announce : AreListedCalls true (seat 0xff00000000000001 ∷ device 0xff00000000000001 0xff00000000000002 ∷ []) (done ∷ connection ∷ []) (Took sync 1 ∷ [])
unfolding all_open
may_announce = (
  _,
  record {
    call = record { row = refl; kinds = (omega arith, (omega arith, tt)); target = omega arith; opcode = omega arith; short = lit≤ tt };
    target = refl;
    next = refl;
    left = lit≤ tt;
  },
  (
    _,
    record {
      call = record { row = refl; kinds = (omega arith, (omega arith, tt)); target = omega arith; opcode = omega arith; short = lit≤ tt };
      target = refl;
      next = refl;
      left = lit≤ tt;
    },
    tt,
  ),
)

pub is_answered : IsTalk talk_answered (done ∷ connection ∷ []) (Took sync 1 ∷ []) (sync ∷ []) (Took done 1 ∷ Took connection 0 ∷ []) []
unfolding all_open talk_answered
is_answered =
    let asked = client_said (sync ∷ []) (server_says (connection ∷ []) silence) (connection ∷ []) [] [] (Took connection 0 ∷ []) is_connected may_sync (lit≤ tt) refl (inl refl, tt) in
    server_said (done ∷ []) (client_says (sync ∷ []) (server_says (connection ∷ []) silence)) (connection ∷ []) (sync ∷ []) (Took sync 1 ∷ []) (Took connection 0 ∷ []) [] asked may_answer (lit≤ tt) refl (inl refl, tt)

pub is_ended : IsTalk talk_ended (device 0xff00000000000001 0xff00000000000002 ∷ seat 0xff00000000000001 ∷ done ∷ connection ∷ []) (Took sync 1 ∷ []) (disconnect ∷ sync ∷ [])
    (Missed 0xff00000000000001 2 ∷ Missed 0xff00000000000000 2 ∷ Took done 1 ∷ Took connection 0 ∷ []) (spelled (disconnect ∷ []))
unfolding all_open talk_ended
is_ended =
    let wrote = client_wrote (disconnect ∷ []) talk_answered (done ∷ connection ∷ []) (sync ∷ []) (Took sync 1 ∷ []) (Took done 1 ∷ Took connection 0 ∷ []) [] is_answered may_end in
    server_said (seat 0xff00000000000001 ∷ device 0xff00000000000001 0xff00000000000002 ∷ []) (client_writes (disconnect ∷ []) talk_answered) (done ∷ connection ∷ []) (disconnect ∷ sync ∷ []) (Took sync 1 ∷ []) (Took done 1 ∷ Took connection 0 ∷ []) (spelled (disconnect ∷ [])) wrote may_announce (lit≤ tt) refl (inl refl, (inl refl, tt))
