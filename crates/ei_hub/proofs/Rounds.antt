-- Rounds of a hub: each client that goes on has a turn in each.
use Rattle.std.proofs.Common.{◌≡◌, ℕ, ◌+◌, ◌≤◌, ◌<◌, List, length, Option, Some, refl, sym, subst, ◌∙◌, add-zero, below_more, arith}
use Rattle.std.specs.Prelude.{slice_get, IsSome}
use Rattle.ei_backend.specs.Outside.{SourceView, SinkView}
use Rattle.ei_hub.specs.declared.client.Client.{Client}
use Rattle.ei_hub.specs.Clocks.{GaveReadings}
use Rattle.ei_hub.specs.Limit.{AreWithin}
use Rattle.ei_hub.specs.Since.{Since}
use Rattle.ei_hub.proofs.Limits.{has_end}
use Rattle.ei_hub.proofs.Places.{there, within}
use Rattle.ei_hub.proofs.Readings.{gave_nothing}
use Rattle.ei_hub.proofs.Sinces.{since_still, since_then}

-- those that had their turn have an end
pub ended_more : {S K : Type 0} (ms zs : List (Client S K)) (at : ℕ) → ((k : ℕ) → (k ≡ at → ⊥) → slice_get zs k ≡ slice_get ms k) →
    ((k : ℕ) → k < at → (d : Client S K) → slice_get ms k ≡ Some d → IsSome d.end) → ((d : Client S K) → slice_get zs at ≡ Some d → IsSome d.end) →
    (k : ℕ) → k < at + 1 → (d : Client S K) → slice_get zs k ≡ Some d → IsSome d.end
ended_more {S = S} {K = K} ms zs at others before this =
    below_more (λ (k : ℕ). (d : Client S K) → slice_get zs k ≡ Some d → IsSome d.end) at
    (λ k low d now. before k low d (sym (others k (λ e. absurd (omega (arith, low, e)))) ∙ now))
    this

module _ {S K : Type 0} (source_view : S → SourceView) (source_later : S → S → Type 0) (sink_view : K → SinkView) (sink_later : K → K → Type 0)
    (source_same : (a : S) → source_later a a) (sink_same : (a : K) → sink_later a a)
    (source_trans : (a b c : S) → source_later a b → source_later b c → source_later a c) (sink_trans : (a b c : K) → sink_later a b → sink_later b c → sink_later a c) where
  abbrev So : ℕ → Option (List ℕ) → Option (List ℕ) → Client S K → Client S K → Type 0
  So turns before after c d = Since source_view source_later sink_view sink_later turns before after c d

  -- what became of the client at a place
  abbrev Each : ℕ → Option (List ℕ) → Option (List ℕ) → List (Client S K) → List (Client S K) → ℕ → Type 0
  Each turns before after xs zs k = (c d : Client S K) → slice_get xs k ≡ Some c → slice_get zs k ≡ Some d → So turns before after c d

  -- nothing, at the start
  pub starts : (before : Option (List ℕ)) (xs : List (Client S K)) (k : ℕ) → Each 0 before before xs xs k
  starts before xs k c d at now =
      let same : c ≡ d = cc in
      subst (λ (e : Client S K). So 0 before before c e) same
      (since_still source_view source_later sink_view sink_later source_same sink_same 0 before before c (gave_nothing before) (λ none. refl))

  then_so : (m n : ℕ) (before mid after : Option (List ℕ)) → GaveReadings mid after → (c d e : Client S K) → So m before mid c d → So n mid after d e → So (m + n) before after c e
  then_so m n before mid after gave c d e g h =
      since_then source_view source_later sink_view sink_later source_trans sink_trans m n before mid after gave c d e g h

  -- one round after others
  pub all_then : (m n : ℕ) (before mid after : Option (List ℕ)) (xs ms zs : List (Client S K)) → length zs ≡ length ms → GaveReadings mid after →
      ((k : ℕ) → Each m before mid xs ms k) → ((k : ℕ) → Each n mid after ms zs k) → (k : ℕ) → Each (m + n) before after xs zs k
  all_then m n before mid after xs ms zs count gave g h k c e at now =
      let d = there ms k (omega (arith, count, within zs k e now)) in
      then_so m n before mid after gave c d.0 e (g k c d.0 at d.1) (h k d.0 e d.1 now)

  -- behind so many rounds nobody goes on
  pub all_ended : (limit n : ℕ) (before after : Option (List ℕ)) (xs zs : List (Client S K)) → length zs ≡ length xs → limit < n → AreWithin limit zs → ((k : ℕ) → Each n before after xs zs k) → (k : ℕ) (d : Client S K) → slice_get zs k ≡ Some d → IsSome d.end
  all_ended limit n before after xs zs count lt all g k d now =
      let c = there xs k (omega (arith, count, within zs k d now)) in
      has_end d.end (λ none. absurd (omega (arith, lt, (all k d now none).few, (g k c.0 d c.1 now).more none)))

  -- ---- one turn in a round

  module _ (before mid after : Option (List ℕ)) (xs ms zs : List (Client S K)) (at : ℕ) (gave : GaveReadings mid after)
      (others : (k : ℕ) → (k ≡ at → ⊥) → slice_get zs k ≡ slice_get ms k) where
    -- a client of another number
    beside : (n k : ℕ) → (k ≡ at → ⊥) → Each n before mid xs ms k → Each n before after xs zs k
    beside n k ne g c d was now =
        let still = since_still source_view source_later sink_view sink_later source_same sink_same 0 mid after d gave (λ none. refl) in
        let both = then_so n 0 before mid after gave c d d (g c d was (sym (others k ne) ∙ now)) still in
        subst (λ (t : ℕ). So t before after c d) (add-zero n) both

    -- the client that had the turn
    this_one : at < length ms → Each 0 before mid xs ms at → Each 1 mid after ms zs at → Each 1 before after xs zs at
    this_one lt g h c e was now =
        let d = there ms at lt in
        then_so 0 1 before mid after gave c d.0 e (g c d.0 was d.1) (h d.0 e d.1 now)

    -- those that had their turn
    pub done_more : at < length ms → ((k : ℕ) → k < at → Each 1 before mid xs ms k) → Each 0 before mid xs ms at → Each 1 mid after ms zs at → (k : ℕ) → k < at + 1 → Each 1 before after xs zs k
    done_more lt done rest this =
        below_more (λ (k : ℕ). Each 1 before after xs zs k) at
        (λ k low. beside 1 k (λ e. absurd (omega (arith, low, e))) (done k low))
        (this_one lt rest this)

    -- those that wait for it
    pub rest_less : ((k : ℕ) → at ≤ k → Each 0 before mid xs ms k) → (k : ℕ) → at + 1 ≤ k → Each 0 before after xs zs k
    rest_less rest k high = beside 0 k (λ e. absurd (omega (arith, high, e))) (rest k (omega (arith, high)))
