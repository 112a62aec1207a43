-- A message behind the handshake, from what was read to what became of it.
use Rattle.std.proofs.Common.{◌≡◌, ℕ, false, Option, Some, None, refl, sym, ap, subst, ◌∙◌, inl}
use Rattle.ei_types.specs.declared.error.Error.TheVariants as error
use Rattle.ei_wire.specs.declared.error.ParseError.{ParseError}
use Rattle.ei_backend.specs.Backend.{BackendView, next, Answers}
use Rattle.ei_backend.specs.declared.message.PendingRequestResult.{PendingRequestResult}
use Rattle.ei_backend.specs.declared.message.PendingRequestResult.TheVariants as pending
use Rattle.ei_server.specs.declared.request.Request.{Request}
use Rattle.ei_server.specs.Request.{target_of, opcode_of, values_of}
use Rattle.ei_request.specs.Connection.{ConnectionView}
use Rattle.ei_request.specs.Converter.{ConverterView}
use Rattle.reis_eis.specs.declared.step.Step.{Step}
use Rattle.reis_eis.specs.declared.step.Step.TheVariants as step
use Rattle.reis_eis.specs.Words.{with_ctx}
use Rattle.reis_eis.specs.Handling.{refused, Obeys, TellsNoObject, DoesRead, Converses}

module _ (time : ℕ) (old : ConverterView) (h : ConnectionView) (b read : BackendView) (h_is : h ≡ old.handle) (b_is : b ≡ h.ctx) (said : Option (PendingRequestResult Request))
    (reads : Answers target_of opcode_of values_of said read (next false b)) where
  -- the converter with what was read, as it comes back through what is lent
  abbrev between : ConverterView
  between = record old { handle = record h { ctx = read } }

  between_is : between ≡ with_ctx old read
  between_is = ap (λ (c : ConnectionView). record old { handle = record c { ctx = read } }) h_is

  reads_on : (s : Step) (new : ConverterView) → DoesRead time (with_ctx old read) said s new → Converses time old s new
  reads_on s new does = inl (record {
    said = said;
    ctx = read;
    reads = subst (λ (x : BackendView). Answers target_of opcode_of values_of said read (next false x)) (b_is ∙ ap (λ (c : ConnectionView). c.ctx) h_is) reads;
    does = does;
  })

  reads_said : (o : Option (PendingRequestResult Request)) → said ≡ o → (s : Step) (new : ConverterView) → DoesRead time between o s new → Converses time old s new
  reads_said o is s new does =
      reads_on s new (subst (λ (c : ConverterView). DoesRead time c said s new) between_is (subst (λ (x : Option (PendingRequestResult Request)). DoesRead time between x s new) (sym is) does))

  pub waits : said ≡ None → Converses time old step.Waiting between
  waits is = reads_said None is step.Waiting between (refl, refl)

  pub asked : (r : Request) → said ≡ Some (pending.Request r) → (s : Step) (new : ConverterView) → Obeys time between r s new → Converses time old s new
  asked r is s new obeys = reads_said (Some (pending.Request r)) is s new obeys

  pub unlawful : (e : ParseError) → said ≡ Some (pending.ParseError e) → Converses time old (refused (error.Parse e)) between
  unlawful e is = reads_said (Some (pending.ParseError e)) is (refused (error.Parse e)) between (refl, refl)

  pub untold : (id : ℕ) → said ≡ Some (pending.InvalidObject id) → (s : Step) (new : ConverterView) → TellsNoObject between id s new → Converses time old s new
  untold id is s new tells = reads_said (Some (pending.InvalidObject id)) is s new tells
