-- Two ends that shake hands go on so, whatever either of them takes and sends.
use Rattle.std.proofs.Common.{◌≡◌, ℕ, ◌-◌, Bool, true, false, cond, List, [], ◌∷◌, ◌++◌, length, drop, refl, sym, ap, subst, ◌∙◌, length-append, append_assoc, arith}
use Rattle.std.proofs.Math.Seq.{drop-append_seam}
use Rattle.ei_spec.specs.History.{occurs}
use Rattle.ei_ends.specs.Sent.{Sent}
use Rattle.ei_ends.specs.Way.{onto}
use Rattle.ei_greeting.specs.Shaking.{Greeter}
use Rattle.ei_shaking.specs.Messages.{greeting}
use Rattle.ei_shaking.specs.Heard.{event_shake, is_finish, is_connection}
use Rattle.ei_shaking.specs.Both.{has, up_to, is_handed, is_finished, client_answer, client_said, server_answer, server_said, Side, Hears, AreShaking}
use Rattle.ei_shaking.proofs.Ontos.{onto_some, behind}
use Rattle.ei_shaking.proofs.UpTo.{not_both, has_behind, up_to_more, up_to_none, up_to_behind}

-- ---- what was taken stays an end of what was sent

seam : (newer taken : List Sent) → Hears taken (newer ++ taken)
seam newer taken =
    let same : length (newer ++ taken) - length taken ≡ length newer = omega (arith, length-append newer taken) in
    sym (ap (λ (n : ℕ). drop n (newer ++ taken)) same ∙ drop-append_seam newer taken)

still_hears : (more taken sent : List Sent) → Hears taken sent → Hears taken (more ++ sent)
still_hears more taken sent h =
    let b = behind taken sent h in
    subst (Hears taken) (append_assoc more b.0 taken ∙ ap (λ (l : List Sent). more ++ l) b.1) (seam (more ++ b.0) taken)

hears_onto : (ms taken sent : List Sent) → Hears taken sent → Hears taken (onto ms sent)
hears_onto ms taken sent h = let r = onto_some ms sent in subst (Hears taken) (sym r.1) (still_hears r.0 taken sent h)

-- ---- steps

pub begins : (g : Greeter) (serial : ℕ) → AreShaking g serial (record { sent = greeting ∷ []; taken = [] }) (record { sent = []; taken = [] })
unfolding up_to server_said client_said occurs
begins g serial = record {
  server_says = record { more = []; is = refl; none = λ e. refl };
  client_says = record { more = []; is = refl; none = λ e. refl };
  server_hears = refl;
  client_hears = refl;
}

open_more : (test : Sent → Bool) (m : Sent) (past : List Sent) → has test past ≡ false → up_to test (m ∷ past) ≡ m ∷ past
open_more test m past n = up_to_more test m past ∙ ap (λ (b : Bool). cond b (up_to test past) (m ∷ past)) n

server_more : (serial : ℕ) (m : Sent) (past : List Sent) → server_said serial (m ∷ past) ≡ onto (server_answer serial past m) (server_said serial past)
unfolding server_said
server_more serial m past = refl

client_more : (g : Greeter) (m : Sent) (past : List Sent) → client_said g (m ∷ past) ≡ onto (client_answer g (event_shake m)) (client_said g past)
unfolding client_said
client_more g m past = refl

module _ (g : Greeter) (serial : ℕ) (server client : Side) (s : AreShaking g serial server client) where
  pub server_takes : (m : Sent) → Hears (m ∷ server.taken) client.sent → is_finished server.taken ≡ false →
      AreShaking g serial (record { sent = onto (server_answer serial server.taken m) server.sent; taken = m ∷ server.taken }) client
  server_takes m h n = record {
    server_says = record {
      more = [];
      is = ap (onto (server_answer serial server.taken m)) sent_is ∙ sym (server_more serial m server.taken) ∙ ap (server_said serial) (sym (open_more is_finish m server.taken n));
      none = λ e. refl;
    };
    client_says = s.client_says;
    server_hears = h;
    client_hears = hears_onto (server_answer serial server.taken m) client.taken server.sent s.client_hears;
  }
    where
      sent_is : server.sent ≡ server_said serial server.taken
      sent_is = s.server_says.is ∙ ap (λ (l : List Sent). l ++ server_said serial (up_to is_finish server.taken)) (s.server_says.none n) ∙ ap (server_said serial) (up_to_none is_finish server.taken n)

  pub client_takes : (m : Sent) → Hears (m ∷ client.taken) server.sent → is_handed client.taken ≡ false →
      AreShaking g serial server (record { sent = onto (client_answer g (event_shake m)) client.sent; taken = m ∷ client.taken })
  client_takes m h n = record {
    server_says = s.server_says;
    client_says = record {
      more = [];
      is = ap (onto (client_answer g (event_shake m))) sent_is ∙ sym (client_more g m client.taken) ∙ ap (client_said g) (sym (open_more is_connection m client.taken n));
      none = λ e. refl;
    };
    server_hears = hears_onto (client_answer g (event_shake m)) server.taken client.sent s.server_hears;
    client_hears = h;
  }
    where
      sent_is : client.sent ≡ client_said g client.taken
      sent_is = s.client_says.is ∙ ap (λ (l : List Sent). l ++ client_said g (up_to is_connection client.taken)) (s.client_says.none n) ∙ ap (client_said g) (up_to_none is_connection client.taken n)

  pub server_later : (sent taken : List Sent) → is_finished server.taken ≡ true → Hears (taken ++ server.taken) client.sent →
      AreShaking g serial (record { sent = sent ++ server.sent; taken = taken ++ server.taken }) client
  server_later sent taken done h = record {
    server_says = record {
      more = sent ++ s.server_says.more;
      is = ap (λ (l : List Sent). sent ++ l) (s.server_says.is ∙ ap (λ (l : List Sent). s.server_says.more ++ server_said serial l) (sym (up_to_behind is_finish taken server.taken done)))
          ∙ sym (append_assoc sent s.server_says.more (server_said serial (up_to is_finish (taken ++ server.taken))));
      none = λ e. absurd (not_both (is_finished (taken ++ server.taken)) (has_behind is_finish taken server.taken done) e);
    };
    client_says = s.client_says;
    server_hears = h;
    client_hears = still_hears sent client.taken server.sent s.client_hears;
  }

  pub client_later : (sent taken : List Sent) → is_handed client.taken ≡ true → Hears (taken ++ client.taken) server.sent →
      AreShaking g serial server (record { sent = sent ++ client.sent; taken = taken ++ client.taken })
  client_later sent taken done h = record {
    server_says = s.server_says;
    client_says = record {
      more = sent ++ s.client_says.more;
      is = ap (λ (l : List Sent). sent ++ l) (s.client_says.is ∙ ap (λ (l : List Sent). s.client_says.more ++ client_said g l) (sym (up_to_behind is_connection taken client.taken done)))
          ∙ sym (append_assoc sent s.client_says.more (client_said g (up_to is_connection (taken ++ client.taken))));
      none = λ e. absurd (not_both (is_handed (taken ++ client.taken)) (has_behind is_connection taken client.taken done) e);
    };
    server_hears = still_hears sent server.taken client.sent s.server_hears;
    client_hears = h;
  }
