-- A handle of a message that is dropped, worked by hand.
use Rattle.std.proofs.Common.{◌≡◌, ℕ, true, false, List, [], ◌∷◌, ◌++◌, length, inl, inr, refl, sym, ap, ◌∙◌, arith, lit≤}
use Rattle.ei_spec.specs.declared.handle.Handle.{Handle}
use Rattle.ei_ends.specs.Sent.{Sent, Got, Took, Missed, handles_in, spelled, IsAlike}
use Rattle.ei_ends.specs.Agree.{after_of, afters, dropped, IsTaken, handles_sent, handles_got}
use Rattle.ei_ends.specs.Steps.{no_piece}
use Rattle.ei_ends.specs.Joined.{Joined, AreListedCalls}
use Rattle.ei_ends.specs.Worked.{server_says, client_writes, silence, connection, disconnect, seat, device, keyboard, keymap, talk_keyboard, talk_keymap}
use Rattle.ei_ends.specs.Worked.{talk_keymaps}
use Rattle.ei_ends.proofs.JoinedSteps.{handles_in_order}
use Rattle.ei_ends.proofs.EqualHandles.{same_message}
use Rattle.ei_ends.proofs.Flowing.{alike_handles}
use Rattle.ei_ends.proofs.Talking.{IsTalk, SaidOne, server_said, client_wrote, server_said_one, is_silence, all_open}

abbrev four : List Sent
four = connection ∷ seat 0xff00000000000001 ∷ device 0xff00000000000001 0xff00000000000002 ∷ keyboard 0xff00000000000002 0xff00000000000003 ∷ []

abbrev four_sent : List Sent
four_sent = keyboard 0xff00000000000002 0xff00000000000003 ∷ device 0xff00000000000001 0xff00000000000002 ∷ seat 0xff00000000000001 ∷ connection ∷ []

abbrev four_taken : List Got
four_taken = Took (keyboard 0xff00000000000002 0xff00000000000003) 0 ∷ Took (device 0xff00000000000001 0xff00000000000002) 0 ∷ Took (seat 0xff00000000000001) 0 ∷ Took connection 0 ∷ []

may_announce_four : AreListedCalls true four [] []
unfolding all_open
may_announce_four = (
  _,
  record {
    call = record { row = refl; kinds = (omega arith, (omega arith, (omega arith, tt))); target = omega arith; opcode = omega arith; short = lit≤ tt };
    target = refl;
    next = refl;
    left = lit≤ tt;
  },
  (
    _,
    record {
      call = record { row = refl; kinds = (omega arith, (omega arith, tt)); target = omega arith; opcode = omega arith; short = lit≤ tt };
      target = refl;
      next = refl;
      left = lit≤ tt;
    },
    (
      _,
      record {
        call = record { row = refl; kinds = (omega arith, (omega arith, tt)); target = omega arith; opcode = omega arith; short = lit≤ tt };
        target = refl;
        next = refl;
        left = lit≤ tt;
      },
      (
        _,
        record {
          call = record { row = refl; kinds = (omega arith, (refl, (omega arith, tt))); target = omega arith; opcode = omega arith; short = lit≤ tt };
          target = refl;
          next = refl;
          left = lit≤ tt;
        },
        tt,
      ),
    ),
  ),
)

pub is_keyboard : IsTalk talk_keyboard four_sent [] [] four_taken []
unfolding all_open talk_keyboard
is_keyboard = server_said four silence [] [] [] [] [] is_silence may_announce_four (lit≤ tt) refl (inl refl, (inl refl, (inl refl, (inl refl, tt))))

may_end_it : AreListedCalls false (disconnect ∷ []) [] four_taken
unfolding all_open
may_end_it = (
  _,
  record {
    call = record { row = refl; kinds = tt; target = omega arith; opcode = omega arith; short = lit≤ tt };
    target = refl;
    next = tt;
    left = lit≤ tt;
  },
  tt,
)

abbrev more : Handle → List Sent
more h = seat 0xff00000000000004 ∷ device 0xff00000000000004 0xff00000000000005 ∷ keyboard 0xff00000000000005 0xff00000000000006 ∷ keymap 0xff00000000000006 h ∷ []

abbrev more_sent : Handle → List Sent
more_sent h = keymap 0xff00000000000006 h ∷ keyboard 0xff00000000000005 0xff00000000000006 ∷ device 0xff00000000000004 0xff00000000000005 ∷ seat 0xff00000000000004 ∷ four_sent

abbrev more_taken : List Got
more_taken = Missed 0xff00000000000006 1 ∷ Missed 0xff00000000000005 1 ∷ Missed 0xff00000000000004 1 ∷ Missed 0xff00000000000000 1 ∷ four_taken

may_announce_more : (h : Handle) → AreListedCalls true (more h) four_sent []
unfolding all_open
may_announce_more h = (
  _,
  record {
    call = record { row = refl; kinds = (omega arith, (omega arith, tt)); target = omega arith; opcode = omega arith; short = lit≤ tt };
    target = refl;
    next = refl;
    left = lit≤ tt;
  },
  (
    _,
    record {
      call = record { row = refl; kinds = (omega arith, (omega arith, tt)); target = omega arith; opcode = omega arith; short = lit≤ tt };
      target = refl;
      next = refl;
      left = lit≤ tt;
    },
    (
      _,
      record {
        call = record { row = refl; kinds = (omega arith, (refl, (omega arith, tt))); target = omega arith; opcode = omega arith; short = lit≤ tt };
        target = refl;
        next = refl;
        left = lit≤ tt;
      },
      (
        _,
        record {
          call = record { row = refl; kinds = ((omega arith, refl), (omega arith, (tt, tt))); target = omega arith; opcode = omega arith; short = lit≤ tt };
          target = refl;
          next = tt;
          left = lit≤ tt;
        },
        tt,
      ),
    ),
  ),
)

pub is_keymap : (h : Handle) → IsTalk (talk_keymap h) (more_sent h) [] (disconnect ∷ []) more_taken (spelled (disconnect ∷ []))
unfolding all_open talk_keymap
is_keymap h =
    let wrote = client_wrote (disconnect ∷ []) talk_keyboard four_sent [] [] four_taken [] is_keyboard may_end_it in
    server_said (more h) (client_writes (disconnect ∷ []) talk_keyboard) four_sent (disconnect ∷ []) [] four_taken (spelled (disconnect ∷ [])) wrote (may_announce_more h) (lit≤ tt) refl (inl refl, (inl refl, (inl refl, (inr refl, tt))))

may_send_keymap : (h next : Handle) → AreListedCalls true (keymap 0xff00000000000003 next ∷ []) (more_sent h) []
unfolding all_open
may_send_keymap h next = (
  _,
  record {
    call = record { row = refl; kinds = ((omega arith, refl), (omega arith, (tt, tt))); target = omega arith; opcode = omega arith; short = lit≤ tt };
    target = refl;
    next = tt;
    left = lit≤ tt;
  },
  tt,
)

last_one : (h next : Handle) → SaidOne (talk_keymap h) (keymap 0xff00000000000003 next) (more_sent h) (disconnect ∷ []) more_taken
unfolding all_open
last_one h next = server_said_one (keymap 0xff00000000000003 next) (talk_keymap h) (more_sent h) (disconnect ∷ []) [] more_taken (spelled (disconnect ∷ [])) (is_keymap h) (may_send_keymap h next) (lit≤ tt) refl

-- a message that isn't dropped is read
is_took : (own past : List Sent) (gots : List Got) (m : Sent) (n : ℕ) (g : Got) → after_of g ≡ n → IsTaken true own past gots m g → dropped true own past (afters gots) n m.target ≡ false → (r : Sent) × (g ≡ Took r n) × IsAlike m r
is_took own past gots m n (Took r after) e h there = (r, ap (Took r) e, h.2)
is_took own past gots m n (Missed id after) e h there =
    let both : true ≡ false = sym h.1 ∙ ap (λ k. dropped true own past (afters gots) k m.target) e ∙ there in
    absurd cc

last_there : (h next : Handle) → dropped true (disconnect ∷ []) (more_sent h) (afters more_taken) 1 (keymap 0xff00000000000003 next).target ≡ false
unfolding all_open
last_there h next = refl

first_handle : (hs rest : List Handle) (h next : Handle) → h ∷ next ∷ [] ≡ hs ++ rest → length hs ≡ 1 → hs ≡ h ∷ []
first_handle [] rest h next e one = absurd (omega (arith, one))
first_handle (k ∷ []) rest h next e one = let same : h ≡ k = cc in ap (λ (x : Handle). x ∷ []) (sym same)
first_handle (k ∷ l ∷ hs) rest h next e one = absurd (omega (arith, one))

sent_handles : (h next : Handle) → handles_sent (keymap 0xff00000000000003 next ∷ more_sent h) ≡ h ∷ next ∷ []
unfolding handles_sent
sent_handles h next = refl

got_handles : (r : Sent) → handles_got (Took r 1 ∷ more_taken) ≡ handles_in r
unfolding handles_got
got_handles r = refl

pub next_gets_it : (h next : Handle) → (talk_keymaps h next).client.taken ≡ Took (keymap 0xff00000000000003 h) 1 ∷ more_taken
unfolding talk_keymaps
next_gets_it h next =
    let s = last_one h next in
    let t = is_took (disconnect ∷ []) (more_sent h) more_taken (keymap 0xff00000000000003 next) 1 s.got s.after s.is (last_there h next) in
    let r = t.0 in
    let taken : (server_says (keymap 0xff00000000000003 next ∷ []) (talk_keymap h)).client.taken ≡ Took r 1 ∷ more_taken = s.taken ∙ ap (λ (g : Got). g ∷ more_taken) t.1 in
    let order = handles_in_order true (server_says (keymap 0xff00000000000003 next ∷ []) (talk_keymap h)).server (server_says (keymap 0xff00000000000003 next ∷ []) (talk_keymap h)).client no_piece no_piece s.joined in
    let all : h ∷ next ∷ [] ≡ handles_in r ++ order.0 = sym (sent_handles h next) ∙ ap handles_sent (sym s.sent) ∙ order.1 ∙ ap (λ (g : List Got). handles_got g ++ order.0) taken ∙ ap (λ (l : List Handle). l ++ order.0) (got_handles r) in
    let one : handles_in r ≡ h ∷ [] = first_handle (handles_in r) order.0 h next all (alike_handles r.values (keymap 0xff00000000000003 next).values t.2.values) in
    let same : r ≡ keymap 0xff00000000000003 h = same_message (keymap 0xff00000000000003 h) r (record { target = t.2.target; interface = t.2.interface; version = t.2.version; opcode = t.2.opcode; values = t.2.values }) one in
    taken ∙ ap (λ (m : Sent). Took m 1 ∷ more_taken) same

pub keymaps_joined : (h next : Handle) → Joined true (talk_keymaps h next).server (talk_keymaps h next).client no_piece no_piece
unfolding talk_keymaps
keymaps_joined h next = (last_one h next).joined
