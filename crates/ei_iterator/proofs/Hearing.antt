-- More turns, and what the converter follows then and has told.
use Rattle.std.proofs.Common.{◌≡◌, ℕ, List, [], ◌∷◌, ◌++◌, Some, length, refl, sym, ap, subst, ◌∙◌, append_assoc, arith}
use Rattle.std.specs.Prelude.{map}
use Rattle.std.proofs.lemmas.List.{append-nil, length-append, map-append}
use Rattle.ei_spec.specs.Groups.{frames_made}
use Rattle.ei_spec.specs.History.{joined}
use Rattle.ei_types.specs.declared.error.EventError.{EventError}
use Rattle.ei_client.specs.declared.event.Event.{Event}
use Rattle.ei_reported.specs.Said.{Said}
use Rattle.ei_reported.specs.Reported.{Report, slots, tells}
use Rattle.ei_reported.specs.Changes.{NewIdsDiffer}
use Rattle.ei_following.specs.Core.{refused, closed_group, used_by}
use Rattle.ei_event.specs.declared.event.EiEvent.{EiEvent}
use Rattle.ei_event.specs.Typed.{said_of}
use Rattle.ei_event.specs.Connection.{ConnectionView}
use Rattle.ei_event.specs.Kept.{KeptView, new_kept}
use Rattle.ei_event.specs.Core.{core_of, report_of}
use Rattle.ei_event.specs.Handles.{after}
use Rattle.ei_heeding.specs.Heeding.{Heeds, HeedsOne}
use Rattle.ei_iterator.specs.Turns.{Standing, Turn, Comes, Skips, Hears, standing_at}
use Rattle.ei_iterator.specs.Next.{GivesFirst, FailsAt}
use Rattle.ei_iterator.specs.Heard.{heard, readings_of, tells_more, HeedsMore, Accounts}

-- ---- what the laws of one more event say

abbrev pub OneMore : Type 0
OneMore = (start : ℕ) (before : List Said) (readings : List ℕ) (c : KeptView) (e : Event) (time : ℕ) → Heeds start before readings c → NewIdsDiffer (said_of e ∷ before) →
    HeedsOne start before e readings (used_by (closed_group (core_of c) (said_of e)) time) c (after c e time)

-- an event that is refused makes no frame
abbrev pub RefusedMakesNone : Type 0
RefusedMakesNone = (start : ℕ) (before : List Said) (readings : List ℕ) (c : KeptView) (e : Event) (why : EventError) → Heeds start before readings c → refused (core_of c) (said_of e) ≡ Some why →
    frames_made (slots start (said_of e ∷ before)) ≡ frames_made (slots start before)

-- ---- more events

no_more : (start : ℕ) (before : List Said) (readings : List ℕ) (c : KeptView) → Heeds start before readings c → HeedsMore start before [] readings [] c c
no_more start before readings c h = record {
  heeds = subst (λ (r : List ℕ). Heeds start before r c) (sym (append-nil readings)) h;
  queue = λ later. sym (append-nil (map report_of c.queue));
}

joined_more : (start : ℕ) (readings : List ℕ) (before more : List Said) → joined (tells start readings) (more ++ before) ≡ joined (tells start readings) before ++ tells_more start readings before more
unfolding joined
joined_more start readings before [] = sym (append-nil (joined (tells start readings) before))
joined_more start readings before (m ∷ more) =
    ap (λ (l : List Report). l ++ tells start readings (more ++ before) m) (joined_more start readings before more)
    ∙ append_assoc (joined (tells start readings) before) (tells_more start readings before more) (tells start readings (more ++ before) m)

-- what more events tell goes on the account
more_accounts : (start : ℕ) (before more : List Said) (readings used : List ℕ) (given : List EiEvent) (c new : KeptView) → Accounts start before readings given c → HeedsMore start before more readings used c new →
    Accounts start (more ++ before) (readings ++ used) given new
more_accounts start before more readings used given c new a h = record {
  heeds = h.heeds;
  told = λ later.
      let now : List Report = tells_more start ((readings ++ used) ++ later) before more in
      joined_more start ((readings ++ used) ++ later) before more
      ∙ ap (λ (r : List ℕ). joined (tells start r) before ++ now) (append_assoc readings used later)
      ∙ ap (λ (l : List Report). l ++ now) (a.told (used ++ later))
      ∙ append_assoc (map report_of given) (map report_of c.queue) now
      ∙ ap (λ (l : List Report). map report_of given ++ l) (sym (h.queue later));
}

-- a new converter's is empty
pub first_account : (k : ConnectionView) → Heeds k.serial [] [] (new_kept k) → Accounts k.serial [] [] [] (new_kept k)
unfolding joined
first_account k h = record { heeds = h; told = λ later. refl }

-- ---- an event that is given

first_out : (start : ℕ) (events : List Said) (readings : List ℕ) (given : List EiEvent) (c : KeptView) (event : EiEvent) (others : List EiEvent) → c.queue ≡ event ∷ others → Accounts start events readings given c →
    Accounts start events readings (given ++ event ∷ []) (record c { queue = others })
first_out start events readings given c event others is a = record {
  heeds = record {
    follows = record {
      differ = a.heeds.follows.differ;
      seats = a.heeds.follows.seats;
      devices = a.heeds.follows.devices;
      interfaces = a.heeds.follows.interfaces;
      serial = a.heeds.follows.serial;
      frames = a.heeds.follows.frames;
    };
    placed = a.heeds.placed;
  };
  told = λ later.
      a.told later
      ∙ ap (λ (q : List EiEvent). map report_of given ++ map report_of q) is
      ∙ sym (append_assoc (map report_of given) (report_of event ∷ []) (map report_of others))
      ∙ ap (λ (l : List Report). l ++ map report_of others) (sym (map-append report_of given (event ∷ [])));
}

pub gives_one : {H : Type 0} (start : ℕ) (events : List Said) (readings : List ℕ) (given : List EiEvent) (s left : Standing H) (event : EiEvent) → Accounts start events readings given s.kept → GivesFirst s event left →
    Accounts start events readings (given ++ event ∷ []) left.kept
gives_one {H} start events readings given s left event a g =
    subst (λ (k : KeptView). Accounts start events readings (given ++ event ∷ []) k) (ap (λ (x : Standing H). x.kept) (sym g.left_is)) (first_out start events readings given s.kept event g.others g.queue a)

-- ---- by the laws

module _ (one : OneMore) where
  -- one event behind more
  behind_more : (start : ℕ) (before more : List Said) (readings used : List ℕ) (c k : KeptView) (e : Event) (time : ℕ) → HeedsMore start before more readings used c k → NewIdsDiffer (said_of e ∷ (more ++ before)) →
      HeedsMore start before (said_of e ∷ more) readings (used ++ used_by (closed_group (core_of k) (said_of e)) time) c (after k e time)
  behind_more start before more readings used c k e time h differ =
      let last : List ℕ = used_by (closed_group (core_of k) (said_of e)) time in
      let o : HeedsOne start (more ++ before) e (readings ++ used) last k (after k e time) = one start (more ++ before) (readings ++ used) k e time h.heeds differ in
      record {
        heeds = subst (λ (r : List ℕ). Heeds start (said_of e ∷ (more ++ before)) r (after k e time)) (append_assoc readings used last) o.heeds;
        queue = λ later.
            let all : List ℕ = (readings ++ (used ++ last)) ++ later in
            let same : ((readings ++ used) ++ last) ++ later ≡ all = ap (λ (r : List ℕ). r ++ later) (append_assoc readings used last) in
            let before_it : map report_of k.queue ≡ map report_of c.queue ++ tells_more start all before more =
            h.queue (last ++ later) ∙ ap (λ (r : List ℕ). map report_of c.queue ++ tells_more start r before more) (sym (append_assoc (readings ++ used) last later) ∙ same) in
            o.queue later
            ∙ (λ i. before_it i ++ tells start (same i) (more ++ before) (said_of e))
            ∙ append_assoc (map report_of c.queue) (tells_more start all before more) (tells start all (more ++ before) (said_of e));
      }

  -- those of turns
  pub more_turns : {H : Type 0} (start : ℕ) (before : List Said) (readings : List ℕ) (s : Standing H) (turns : List Turn) → Heeds start before readings s.kept → NewIdsDiffer (heard turns ++ before) →
      HeedsMore start before (heard turns) readings (readings_of s turns) s.kept (standing_at s turns).kept
  more_turns start before readings s [] h differ = no_more start before readings s.kept h
  more_turns start before readings s (Comes piece ∷ turns) h differ = more_turns start before readings s turns h differ
  more_turns start before readings s (Skips ∷ turns) h differ = more_turns start before readings s turns h differ
  more_turns start before readings s (Hears e time ∷ turns) h differ =
      behind_more start before (heard turns) readings (readings_of s turns) s.kept (standing_at s turns).kept e time (more_turns start before readings s turns h differ.1) differ

  pub turns_account : {H : Type 0} (start : ℕ) (before : List Said) (readings : List ℕ) (given : List EiEvent) (s : Standing H) (turns : List Turn) → Accounts start before readings given s.kept → NewIdsDiffer (heard turns ++ before) →
      Accounts start (heard turns ++ before) (readings ++ readings_of s turns) given (standing_at s turns).kept
  turns_account start before readings given s turns a differ =
      more_accounts start before (heard turns) readings (readings_of s turns) given s.kept (standing_at s turns).kept a (more_turns start before readings s turns a.heeds differ)

  -- ---- an event that is refused

  module _ (none : RefusedMakesNone) where
    refuses_at : (start : ℕ) (before : List Said) (readings : List ℕ) (given : List EiEvent) (c : KeptView) (e : Event) (why : EventError) (time : ℕ) → Accounts start before readings given c → refused (core_of c) (said_of e) ≡ Some why →
        NewIdsDiffer (said_of e ∷ before) → Accounts start (said_of e ∷ before) readings given (after c e time)
    refuses_at start before readings given c e why time a refuses differ =
        let used : List ℕ = used_by (closed_group (core_of c) (said_of e)) time in
        let all : Accounts start (said_of e ∷ before) (readings ++ used) given (after c e time) =
        more_accounts start before (said_of e ∷ []) readings used given c (after c e time) a (behind_more start before [] readings [] c c e time (no_more start before readings c a.heeds) differ) in
        let empty : used ≡ [] = no_length used (omega (arith, all.heeds.follows.frames, a.heeds.follows.frames, none start before readings c e why a.heeds refuses, length-append readings used)) in
        subst (λ (r : List ℕ). Accounts start (said_of e ∷ before) r given (after c e time)) (ap (λ (u : List ℕ). readings ++ u) empty ∙ append-nil readings) all
      where
        no_length : (l : List ℕ) → length l ≡ 0 → l ≡ []
        no_length [] e = refl
        no_length (x ∷ l) e = absurd (omega (arith, e))

    pub refuses_one : {H : Type 0} (start : ℕ) (before : List Said) (readings : List ℕ) (given : List EiEvent) (s left : Standing H) (why : EventError) → Accounts start before readings given s.kept → (f : FailsAt s why left) →
        NewIdsDiffer (said_of f.event ∷ before) → Accounts start (said_of f.event ∷ before) readings given left.kept
    refuses_one {H} start before readings given s left why a f differ =
        subst (λ (k : KeptView). Accounts start (said_of f.event ∷ before) readings given k) (ap (λ (x : Standing H). x.kept) (sym f.left_is)) (refuses_at start before readings given s.kept f.event why f.time a f.refuses differ)
