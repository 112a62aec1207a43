-- A record that can be played back is.
use Rattle.std.proofs.Common.{◌≡◌, ℕ, suc, ◌+◌, ◌≤◌, Bool, true, false, List, [], ◌∷◌, ◌++◌, length, Some, None, refl, sym, ap, subst, ◌∙◌, arith, inl, inr}
use Rattle.std.specs.Prelude.{slice_get, reverse}
use Rattle.std.specs.List.{All}
use Rattle.std.proofs.lemmas.List.{append-nil, reverse-append, reverse-reverse}
use Rattle.ei_spec.specs.Stream.{Reading, stream_of}
use Rattle.ei_spec.proofs.HistoryLaws.{occurs_now}
use Rattle.ei_session.specs.Setup.{Setup}
use Rattle.ei_session.specs.Refusals.{Refusal}
use Rattle.ei_session.specs.Requests.{Request, framed}
use Rattle.ei_session.specs.Served.{accepted}
use Rattle.ei_session.proofs.Choices.{chosen, none_some}
use Rattle.ei_record.specs.Replayable.{disconnects, is_wrong, wrong_from, IsReplayable}
use Rattle.ei_record.proofs.Lists.{onto}
use Rattle.ei_playing.specs.Playing.{IsBorne, messages}
use Rattle.ei_playing.specs.Whole.{Plays, played_bytes}
use Rattle.ei_playing.proofs.Wants.{right_so}
use Rattle.ei_playing.proofs.Groups.{all_given}
use Rattle.ei_playing.proofs.Steps.{Played, played_none, played_more, waits_then, ends_reading, reads_so, ends_so_read}

-- ---- lists

abbrev pub AreBorne : List Request → Type 0
AreBorne [] = Unit {0}
AreBorne (i ∷ is) = IsBorne i × AreBorne is

pub borne_each : (items : List Request) → All IsBorne items → AreBorne items
borne_each [] h = tt
borne_each (i ∷ is) h = (h 0 i (omega arith), borne_each is (λ k d lt. h (suc k) d (omega (arith, lt))))

turn : (xs before : List Request) → onto xs before ≡ reverse xs ++ before
turn [] before = refl
turn (x ∷ xs) before = turn xs (x ∷ before) ∙ sym (ap (λ (l : List Request). l ++ before) (reverse-append (x ∷ []) xs) ∙ assoc (reverse xs) (x ∷ []) before)
  where
    assoc : (a b c : List Request) → (a ++ b) ++ c ≡ a ++ (b ++ c)
    assoc [] b c = refl
    assoc (y ∷ a) b c = ap (λ (l : List Request). y ∷ l) (assoc a b c)

pub onto_turned : (xs : List Request) → onto xs [] ≡ reverse xs
onto_turned xs = turn xs [] ∙ append-nil (reverse xs)

-- ---- the next item

-- the first of some items isn't wrong, and then neither are the others
pub record GoesRight (setup : Setup) (before : List Request) (i : Request) (later : List Request) : Type 0 where
  pub right : is_wrong setup before i (slice_get later 0) ≡ false
  pub rest : wrong_from setup (i ∷ before) later ≡ None

pub goes_right : (setup : Setup) (before : List Request) (i : Request) (later : List Request) → wrong_from setup before (i ∷ later) ≡ None → GoesRight setup before i later
unfolding wrong_from
goes_right setup before i later h = elim (chosen (is_wrong setup before i (slice_get later 0)) (Some (length before)) (wrong_from setup (i ∷ before) later) None h) [
  | inl a ↦ absurd (none_some (length before) (sym a.1))
  | inr b ↦ record { right = b.0; rest = b.1 }
]

-- behind the end of the connection there is no item
pub none_behind : (setup : Setup) (before : List Request) (i : Request) (later : List Request) → disconnects i ≡ true → wrong_from setup (i ∷ before) later ≡ None → later ≡ []
none_behind setup before i [] e h = refl
none_behind setup before i (x ∷ later) e h =
    let right = right_so setup (i ∷ before) x (slice_get later 0) (goes_right setup (i ∷ before) x later h).right in
    let q : true ≡ false = sym (occurs_now (λ b y. disconnects y) before i e) ∙ right.going in
    absurd cc

-- ---- the whole record

-- the messages of these items are all that is accepted of their bytes, and give the items
pub record IsWhole (setup : Setup) (before : List Request) : Type 0 where
  pub all_read : accepted setup (stream_of (messages before)) ≡ messages before
  pub gives_all : (readings : List ℕ) → framed setup readings (messages before) ≡ reverse before

whole_waiting : (setup : Setup) (before : List Request) → Played setup before None → IsWhole setup before
whole_waiting setup before p = record {
  all_read = ap (λ (r : Reading Refusal). r.past) (reads_so setup before None p);
  gives_all = all_given setup before (messages before) p.waits;
}

module _ (setup : Setup) (before : List Request) (i : Request) (p : Played setup before (Some i)) (borne : IsBorne i) (few : length before ≤ 4294967000) where
  whole_ended : is_wrong setup before i None ≡ false → disconnects i ≡ true → IsWhole setup (i ∷ before)
  whole_ended right e = record {
    all_read = ap (λ (r : Reading Refusal). r.past) (ends_so_read setup (i ∷ before) (ends_reading setup before i None p right borne few e));
    gives_all = all_given setup (i ∷ before) (messages (i ∷ before)) (waits_then setup before i None p right borne few);
  }

pub whole : (setup : Setup) (later before : List Request) → Played setup before (slice_get later 0) → wrong_from setup before later ≡ None → AreBorne later → length before + length later ≤ 4294967000 → IsWhole setup (onto later before)
whole setup [] before p h b few = whole_waiting setup before p
whole setup (i ∷ later) before p h b few =
    by (disconnects i) refl (λ q. whole setup later (i ∷ before) q g.rest b.1 (omega (arith, few)))
  where
    g : GoesRight setup before i later
    g = goes_right setup before i later h

    by : (c : Bool) → disconnects i ≡ c → (Played setup (i ∷ before) (slice_get later 0) → IsWhole setup (onto later (i ∷ before))) → IsWhole setup (onto later (i ∷ before))
    by false e next = next (played_more setup before i (slice_get later 0) p g.right b.0 (omega (arith, few)) e)
    by true e next =
        let none = none_behind setup before i later e g.rest in
        subst (λ (l : List Request). IsWhole setup (onto l (i ∷ before))) (sym none) (whole_ended setup before i p b.0 (omega (arith, few)) (sym (ap (λ (l : List Request). is_wrong setup before i (slice_get l 0)) none) ∙ g.right) e)

pub plays : (setup : Setup) (items : List Request) → IsReplayable setup items → All IsBorne items → length items ≤ 4294967000 → Plays setup (played_bytes items) items
unfolding played_bytes
plays setup items h b few =
    let w = subst (IsWhole setup) (onto_turned items) (whole setup items [] (played_none setup (slice_get items 0)) h (borne_each items b) (omega (arith, few))) in
    record {
      whole = sym (ap stream_of w.all_read);
      requests = λ readings. ap (framed setup readings) w.all_read ∙ w.gives_all readings ∙ reverse-reverse items;
    }
