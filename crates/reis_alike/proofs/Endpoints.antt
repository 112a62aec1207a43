-- An endpoint that has something to write reads what one reads that has nothing, and leaves it waiting.
use Rattle.std.proofs.Common.{◌≡◌, ℕ, false, List, [], Option, Some, None, refl, ap, sym, ◌∙◌}
use Rattle.std.specs.Prelude.{IfSome}
use Rattle.ei_spec.specs.Interface.{ObjectView}
use Rattle.ei_spec.specs.Reading.{Fault}
use Rattle.ei_spec.specs.Message.{Raw, Front, Short, Unlawful, Whole, front}
use Rattle.ei_wire.specs.Gives.{fault_of}
use Rattle.ei_backend.specs.Table.{found}
use Rattle.ei_backend.specs.Backend.{BackendView, FrontAnswer, Refused, of_target, of_front, next, Answers}
use Rattle.ei_backend.specs.declared.message.PendingRequestResult.{PendingRequestResult}
use Rattle.ei_backend.specs.declared.message.PendingRequestResult.TheVariants as pending
use Rattle.ei_server.specs.declared.request.Request.{Request}
use Rattle.ei_server.specs.Request.{target_of, opcode_of, values_of}

-- the endpoint with nothing to write, and a ring that holds nothing yet
abbrev pub quietly : BackendView → BackendView
quietly b = record b { unsent = []; capacity = 0 }

abbrev so : FrontAnswer × BackendView → FrontAnswer × BackendView
so p = (p.0, quietly p.1)

of_target_so : (b : BackendView) (o : Option ObjectView) (m : Raw) (rest : List ℕ) → of_target false (quietly b) o m rest ≡ so (of_target false b o m rest)
of_target_so b None m rest = refl
of_target_so b (Some target) m rest = refl

of_front_so : (b : BackendView) (f : Front) → of_front false (quietly b) f ≡ so (of_front false b f)
of_front_so b Short = refl
of_front_so b (Unlawful n) = refl
of_front_so b (Whole m rest) = of_target_so b (found b.table m.id) m rest

next_so : (b : BackendView) → next false (quietly b) ≡ so (next false b)
next_so b = of_front_so b (front b.unread)

fault_so : (o : Option Fault) (b new : BackendView) → IfSome o (λ f. next false b ≡ (Refused f, new)) → IfSome o (λ f. next false (quietly b) ≡ (Refused f, quietly new))
fault_so None b new h = tt
fault_so (Some f) b new h = next_so b ∙ ap so h

-- what asking for the message at the front answers
pub answers_so : (said : Option (PendingRequestResult Request)) (b new : BackendView) → Answers target_of opcode_of values_of said new (next false b) → Answers target_of opcode_of values_of said (quietly new) (next false (quietly b))
answers_so None b new h = next_so b ∙ ap so h
answers_so (Some (pending.Request r)) b new h = next_so b ∙ ap so h
answers_so (Some (pending.ParseError e)) b new h = (fault_so (fault_of e) b new h.0, h.1)
answers_so (Some (pending.InvalidObject id)) b new h = next_so b ∙ ap so h

-- ---- what waits to be written stays

unsent_at : (b : BackendView) (o : Option ObjectView) (m : Raw) (rest : List ℕ) → (of_target false b o m rest).1.unsent ≡ b.unsent
unsent_at b None m rest = refl
unsent_at b (Some target) m rest = refl

unsent_front : (b : BackendView) (f : Front) → (of_front false b f).1.unsent ≡ b.unsent
unsent_front b Short = refl
unsent_front b (Unlawful n) = refl
unsent_front b (Whole m rest) = unsent_at b (found b.table m.id) m rest

abbrev unsent_of : FrontAnswer × BackendView → List ℕ
unsent_of p = p.1.unsent

pub unsent_stays : (r : Request) (b new : BackendView) → Answers target_of opcode_of values_of (Some (pending.Request r)) new (next false b) → new.unsent ≡ b.unsent
unsent_stays r b new h = sym (ap unsent_of h) ∙ unsent_front b (front b.unread)
