-- The claims of request 4, each from the laws of `card`. Assumes nothing.
use mathlib.Core.Path.{◌≡◌, refl, sym, ◌∙◌, ap}
use mathlib.Core.Logic.{◌↔◌, ⊎_elim, inl, inr}
use mathlib.Core.List.{List}
use Prim.Native.Nat.{ℕ, zero, suc, ◌+◌, ◌*◌, ◌<◌, ◌≤◌}
use native.Mathlib.Omega.{arith}
use Rattle.format.specs.Words.{accepted}
use Rattle.format.specs.Octets.{Octets, unsigned_at}
use Rattle.format.specs.Values.{DatetimeTz, Answer}
use Rattle.format.specs.Reading.{read}
use Rattle.format.proofs.Cases.{never, same, lt_or_le}
use Rattle.format.proofs.Images.{read_numbers}
use Rattle.format.proofs.Round.{was_read, read_writes}
use Rattle.moments.specs.Instant.{instant_of}
use Rattle.moments.proofs.Limits.{instant_is}
use Rattle.card.specs.Header.{twelve, count_of}
use Rattle.card.specs.Records.{Record}
use Rattle.card.specs.Step.{before_at}
use Rattle.card.specs.Reading.{records, refused_at, FullReading, full_reading, record_asked}
use Rattle.card.proofs.Exactly as accepting
use Rattle.card.proofs.FirstFault as first
use Rattle.card.proofs.Limits as limits
use Rattle.card.proofs.Stepping as stepping
use Rattle.card.proofs.Bench as bench
use Rattle.schedule.specs.declared.Record.{Record as GivenRecord}
use Rattle.std.specs.Prelude.{Ok}
use Rattle.schedule.specs.Meaning.{record_from}
use Rattle.schedule.specs.Calls.{FindsRecord}
use Rattle.schedule.proofs.Finding.{asked_refused}
use Rattle.boundary.specs.Files.{full_number, full_count, full_place, record_numbers}
use Rattle.claims.specs.Schedule.{start_of, length_of, channel_of, correction_of, stamp_of, moment_of, Card, FileAcceptedExactly, FirstInTurn}
use Rattle.claims.specs.Schedule.{NoOtherRefusal, NeverDecrease, StampsAgain, TheRecord, LongestFile, EachRefusalMet, OwnReading, shown_as, OwnRecord, FilesToC}
use Rattle.claims.proofs.ProvedInstants.{gets}
use Rattle.claims.proofs.OverPlaces.{to_header, from_header, moment_is, stamp_is, to_good, from_good, step_faulty, faulty_step, record_is}

-- ---- the claims over the definitions

pub file_accepted_exactly : FileAcceptedExactly
unfolding count_of
file_accepted_exactly s n = (
  λ e.
      let d = (accepting.accepted_exactly twelve s n).0 e in
      (record { header = from_header s d.0.header; each = λ i q. from_good s i (accepting.described_good twelve s d.0 i (omega arith)) }, d.1),
  λ p.
      (accepting.accepted_exactly twelve s n).1
      (accepting.good_described twelve s (to_header s p.0.header) (λ j q. to_good s j (p.0.each j (omega arith))), p.1),
)

pub first_in_turn : FirstInTurn
unfolding count_of
first_in_turn s = (
  λ m. (
    λ e. let x = (first.header_refused twelve s m).0 e in (λ h. never (sym x.0 ∙ accepting.header_is twelve s (to_header s h)), x.1),
    λ p. (first.header_refused twelve s m).1 (accepting.not_good twelve s (λ h. p.0 (from_header s h)), p.1),
  ),
  λ k m. (
    λ e.
        let x = (first.record_refused twelve s k m).0 e in
        (from_header s (accepting.header_told twelve s x.0), x.1.0, λ j l. from_good s j (x.1.1 j l), step_faulty s k m x.1.2),
    λ p. (first.record_refused twelve s k m).1 (accepting.header_is twelve s (to_header s p.0), (p.1, λ j l. to_good s j (p.2 j l), faulty_step s k m p.3)),
  ),
)

pub no_other_refusal : NoOtherRefusal
no_other_refusal s zero m e = inl (refl, (((first_in_turn s).0 m).0 e).1)
no_other_refusal s (suc k) m e =
    let x = ((first_in_turn s).1 k m).0 e in
    inr (omega arith, omega (arith, x.0.few, x.1), ⊎_elim (λ y. inl y.1) (λ z. ⊎_elim (λ y. inr (inr (read_numbers DatetimeTz (stamp_of s k) m y.1))) (λ y. inr (inl y.3)) z) x.3)

pub never_decrease : NeverDecrease
never_decrease s n e i j p q =
    let a = (accepting.accepted_exactly twelve s n).0 e in
    rw (moment_is s i, moment_is s j) at (accepting.never_decrease twelve s a.0 i j p (omega (arith, a.1)))

pub stamps_again : StampsAgain
unfolding count_of
stamps_again s n o e i q =
    let c = (file_accepted_exactly s n).0 e in
    let t = (c.0.each i (omega (arith, c.1))).1 in
    let x : Octets (stamp_of s i) = rw (stamp_is s i) at (limits.stamp_octets_lem twelve s o i) in
    let w = was_read DatetimeTz (stamp_of s i) t.0 x t.1 in
    (t.0, t.1, instant_is t.0.value w.from.range ∙ ap accepted (moment s i t.0 t.1), read_writes DatetimeTz (stamp_of s i) t.0 x t.1)
  where
    moment : (s : List ℕ) (i : ℕ) (a : Answer) → read DatetimeTz (stamp_of s i) ≡ accepted a → instant_of a.value ≡ moment_of s i
    moment s i a e = sym (stepping.instant_is twelve s i (before_at twelve s i) a (ap (read DatetimeTz) (stamp_is s i) ∙ e)) ∙ moment_is s i

pub the_record_lem : TheRecord
unfolding count_of
the_record_lem s = (
  λ n e.
      let c = ((file_accepted_exactly s n).0 e).1 in
      let r = limits.record_at_place twelve s n e in
      (λ i q. r.0 i q ∙ ap accepted (record_is s n i c), r.1, r.2),
  λ p q m e. asked_refused s p q m e,
)

pub longest_file : LongestFile
longest_file s n o e =
    let d = (accepting.accepted_exactly twelve s n).0 e in
    (omega (arith, limits.longest_file twelve s d.0 o), omega (arith, d.0.header.few, d.1))

pub each_refusal_met : EachRefusalMet
each_refusal_met = (bench.the_card, bench.accepted, bench.of_headers, bench.of_fields, bench.of_places, bench.of_stamps, bench.of_order, bench.first_of_two, bench.of_records)

-- ---- over the promises of our own code

pub own_reading : OwnReading
own_reading = (
  λ s n. (λ e. (file_accepted_exactly s n).0 (sym e), λ p. sym ((file_accepted_exactly s n).1 p)),
  λ s f p. (λ e. sym e, λ e. sym e),
)

pub same_record : (s : List ℕ) (n i : ℕ) (r : GivenRecord) → n ≡ unsigned_at s 0 4
    → record_from r ≡ record { place = suc i; start = 16 + 12 * n + start_of s i; size = length_of s i; channel = channel_of s i; correction = correction_of s i; instant = moment_of s i }
    → shown_as r s i
same_record s n i r e h = (
  ap (λ (x : Record). x.place) h,
  ap (λ (x : Record). x.start) h ∙ ap (λ k. 16 + 12 * k + start_of s i) e,
  ap (λ (x : Record). x.size) h,
  ap (λ (x : Record). x.channel) h,
  ap (λ (x : Record). x.correction) h,
  ap (λ (x : Record). x.instant) h,
)

own_found : (s : List ℕ) (i : ℕ) (r : GivenRecord) → FindsRecord s (suc i) (Ok r) ↔ (Card s × (i < unsigned_at s 0 4) × shown_as r s i)
own_found s i r = (λ e. go (full_reading twelve s) refl e, λ p. back p)
  where
    go : (w : FullReading) → full_reading twelve s ≡ w → FindsRecord s (suc i) (Ok r) → Card s × (i < unsigned_at s 0 4) × shown_as r s i
    go (refused_at q m) e f = let k = asked_refused s (suc i) q m e in absurd (let z : ◌≡◌ {A = ℕ} 0 1 = cc in omega arith)
    go (records n) e f =
        let c = (file_accepted_exactly s n).0 e in
        let t = (the_record_lem s).0 n e in
        ⊎_elim
        (λ (l : i < n). (c.0, omega (arith, c.1), same_record s n i r c.1 (same (f ∙ t.0 i l))))
        (λ (l : n ≤ i). let k = t.1 (suc i) (omega arith) in absurd (let z : ◌≡◌ {A = ℕ} 0 1 = cc in omega arith))
        (lt_or_le i n)

    back : Card s × (i < unsigned_at s 0 4) × shown_as r s i → FindsRecord s (suc i) (Ok r)
    back p =
        let e = (file_accepted_exactly s (unsigned_at s 0 4)).1 (p.0, refl) in
        let h = p.2 in
        rw (h.0, h.1, h.2, h.3, h.4, h.5) (sym (((the_record_lem s).0 (unsigned_at s 0 4) e).0 i p.1))

own_none : (s : List ℕ) (r : GivenRecord) → FindsRecord s 0 (Ok r) → ⊥
own_none s r f = go (full_reading twelve s) refl
  where
    go : (w : FullReading) → full_reading twelve s ≡ w → ⊥
    go (refused_at q m) e = let k = asked_refused s 0 q m e in absurd (let z : ◌≡◌ {A = ℕ} 0 1 = cc in omega arith)
    go (records n) e = let k = ((the_record_lem s).0 n e).2 in absurd (let z : ◌≡◌ {A = ℕ} 0 1 = cc in omega arith)

pub own_record : OwnRecord
own_record = (own_found, own_none, λ s p f. (λ e. sym e, λ e. sym e))

pub files_to_c : FilesToC
unfolding record_numbers
files_to_c = (
  λ s r count place h. (
    λ n e. (h.number ∙ ap full_number e, h.records ∙ ap full_count e, h.fault ∙ ap full_place e),
    λ p m e. (h.number ∙ ap full_number e, h.records ∙ ap full_count e, h.fault ∙ ap full_place e),
  ),
  λ s p. gets (record_asked twelve s p),
)
