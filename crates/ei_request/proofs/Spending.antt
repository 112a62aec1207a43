-- What is spent of the room that was made.
use Rattle.std.proofs.Common.{◌≡◌, ℕ, ◌+◌, ◌*◌, ◌≤◌, ◌<◌, List, [], ◌∷◌, length, Result, Ok, Err, refl, sym, ap, subst, arith}
use Rattle.std.specs.List.{flat_map}
use Rattle.std.proofs.lemmas.List.{length-append}
use Rattle.ei_spec.specs.Interface.{Interface}
use Rattle.ei_spec.specs.Value.{Value, Word, handles_of}
use Rattle.ei_spec.specs.Message.{message, bytes_of, size}
use Rattle.ei_backend.specs.Backend.{BackendView, sent, sent_new}
use Rattle.ei_backend.proofs.GoingOut.{message_length}
use Rattle.ei_request.specs.Costs.{Cost, Fits, Spends, destroyed_cost}
use Rattle.ei_request.specs.Sending.{destroyed}

-- what costs less fits too
pub fits_within : (w c : Cost) (b : BackendView) → Fits w b → c.bytes ≤ w.bytes → c.handles ≤ w.handles → c.objects ≤ w.objects → Fits c b
fits_within w c b f p q r = record {
  bytes = omega (arith, f.bytes, p);
  handles = omega (arith, f.handles, q);
  ids = λ h. omega (arith, f.ids (omega (arith, h, r)), r);
  places = λ h. omega (arith, f.places (omega (arith, h, r)), r);
}

-- what fits once something was spent
pub fits_after : (w c d : Cost) (a b : BackendView) → Fits w a → Spends c a b → c.bytes + d.bytes ≤ w.bytes → c.handles + d.handles ≤ w.handles → c.objects + d.objects ≤ w.objects → Fits d b
fits_after w c d a b f s p q r = record {
  bytes = omega (arith, f.bytes, s.bytes, s.room, p);
  handles = omega (arith, f.handles, s.handles, s.handle_room, q);
  ids = λ h. omega (arith, f.ids (omega (arith, h, r)), s.objects, s.end, r);
  places = λ h. omega (arith, f.places (omega (arith, h, r)), s.objects, s.places, r);
}

-- one thing and another were spent
pub spends_both : (w c d : Cost) (x y z : BackendView) → Spends c x y → Spends d y z → c.bytes + d.bytes ≤ w.bytes → c.handles + d.handles ≤ w.handles → c.objects + d.objects ≤ w.objects → Spends w x z
spends_both w c d x y z s t p q r = record {
  bytes = omega (arith, s.bytes, t.bytes, p);
  handles = omega (arith, s.handles, t.handles, q);
  objects = omega (arith, s.objects, t.objects, r);
  room = omega (arith, s.room, t.room);
  handle_room = omega (arith, s.handle_room, t.handle_room);
  end = omega (arith, s.end, t.end);
  places = omega (arith, s.places, t.places);
  ring = omega (arith, s.ring, t.ring);
}

-- less was spent than might be
pub spends_within : (w c : Cost) (x y : BackendView) → Spends c x y → c.bytes ≤ w.bytes → c.handles ≤ w.handles → c.objects ≤ w.objects → Spends w x y
spends_within w c x y s p q r = record {
  bytes = omega (arith, s.bytes, p);
  handles = omega (arith, s.handles, q);
  objects = omega (arith, s.objects, r);
  room = s.room;
  handle_room = s.handle_room;
  end = s.end;
  places = s.places;
  ring = s.ring;
}

-- nothing was spent
pub spends_nothing : (w : Cost) (b : BackendView) → Spends w b b
spends_nothing w b = record {
  bytes = omega arith;
  handles = omega arith;
  objects = omega arith;
  room = refl;
  handle_room = refl;
  end = refl;
  places = refl;
  ring = refl;
}

-- a message was sent that costs no more
pub spends_sent : (w : Cost) (b new : BackendView) (id opcode : ℕ) (values : List Value) → new ≡ sent b id opcode values → size (message id opcode values) ≤ w.bytes →
    length (flat_map handles_of values) ≤ w.handles → Spends w b new
spends_sent w b new id opcode values is le few = subst (λ (x : BackendView). Spends w b x) (sym is) (record {
  bytes = omega (arith, length-append b.unsent (bytes_of (message id opcode values)), message_length (message id opcode values), le);
  handles = omega (arith, length-append b.unsent_handles (flat_map handles_of values), few);
  objects = omega arith;
  room = refl;
  handle_room = refl;
  end = refl;
  places = refl;
  ring = refl;
})

-- and an object was announced by it
pub spends_new : (w : Cost) (b new : BackendView) (id opcode : ℕ) (values : List Value) (i : Interface) (v : ℕ) → new ≡ sent_new b id opcode values i v → size (message id opcode values) ≤ w.bytes →
    length (flat_map handles_of values) ≤ w.handles → 1 ≤ w.objects → Spends w b new
spends_new w b new id opcode values i v is le few one = subst (λ (x : BackendView). Spends w b x) (sym is) (record {
  bytes = omega (arith, length-append b.unsent (bytes_of (message id opcode values)), message_length (message id opcode values), le);
  handles = omega (arith, length-append b.unsent_handles (flat_map handles_of values), few);
  objects = omega (arith, one);
  room = refl;
  handle_room = refl;
  end = refl;
  places = refl;
  ring = refl;
})

-- an object was told to be gone
pub spends_destroyed : (b new : BackendView) (id serial : ℕ) → new ≡ destroyed b id serial → Spends destroyed_cost b new
spends_destroyed b new id serial is = subst (λ (x : BackendView). Spends destroyed_cost b x) (sym is) (record {
  bytes = omega (arith, length-append b.unsent (bytes_of (message id 0 (Word serial ∷ []))), message_length (message id 0 (Word serial ∷ [])));
  handles = omega arith;
  objects = omega arith;
  room = refl;
  handle_room = refl;
  end = refl;
  places = refl;
  ring = refl;
})
