-- A step over the fields and the stamp that the code reads is the step of the definitions. Assumes nothing.
--     record_fits      a record that the header says lies within the file
--     fields_small     its fields are few enough for the code's sums
--     stamps_small     and so is the place where the stamp octets start
--     stamp_fits       a stamp in its place lies within the file
--     step_bad         wrong fields: 14
--     step_refused     a stamp that is refused
--     step_timed       a stamp with an instant: the record, or 15
use mathlib.Core.Path.{◌≡◌, refl, sym, ap, ◌∙◌}
use mathlib.Core.Bool.{Bool, true, false}
use mathlib.Core.List.{List}
use Prim.Native.Nat.{ℕ, suc, ◌+◌, ◌≤◌, ◌<◌}
use native.Mathlib.Omega.{arith}
use lib.IntN.{ℤ, nat_abs}
use lib.Dec.{leb, eqb}
use lib.Signed.{le_z}
use lib.ListN.{length}
use borrow.Author.Tests.{leb-true}
use Rattle.format.specs.Words.{Outcome, accepted, refused, unless}
use Rattle.format.specs.Octets.{Octets}
use Rattle.format.specs.Values.{DatetimeTz, Answer}
use Rattle.format.specs.Reading.{read}
use Rattle.format.proofs.Cases.{both_true, same}
use Rattle.format.proofs.Unsigned.{unsigned_small}
use Rattle.moments.specs.Instant.{instant_of}
use Rattle.card.specs.Header.{twelve, count_of, stamp_octets, stamps_start}
use Rattle.card.specs.Records.{record_start, start_at, length_at, channel_at, correction_at, stamp_at, instant_at, record_at}
use Rattle.card.specs.Step.{at, at_front, channel_good, placed, place_good, fields_good, timed, step}
use Rattle.card.proofs.Exactly.{header_told}
use Rattle.card.proofs.Stepping.{instant_is}
use Rattle.schedule.specs.declared.header.Card.{Card}
use Rattle.schedule.specs.declared.walk.Before.{Before}
use Rattle.schedule.specs.Steps.{fields_in, right, instant_in, before_from, taken}

pub fields_small : (s : List ℕ) (i : ℕ) → Octets s → (start_at twelve s i < 4294967296) × (length_at twelve s i < 65536)
unfolding start_at length_at
fields_small s i o = (unsigned_small s (record_start twelve i) 4 o, unsigned_small s (record_start twelve i + 4) 2 o)

pub stamps_small : (c : Card) → c.stamps < 4294967296
unfolding stamps_start
stamps_small c = let d = header_told twelve c.file.now c.good in omega (arith, d.few, c.follow)

right_as : (s : List ℕ) (i : ℕ) (b : Before) (n k : ℕ) → n ≡ stamp_octets s → k ≡ count_of s
    → right (fields_in s i) b.ended n (eqb (i + 1) k) ≡ fields_good twelve s i (before_from b)
unfolding right placed fields_good place_good
right_as s i b n k p q = let e : i + 1 ≡ suc i = omega arith in rw (p, q, e)

module _ (c : Card) (i : ℕ) where
  abbrev s : List ℕ
  s = c.file.now

  pub record_fits : i < c.records → record_start twelve i + 12 ≤ length s
  unfolding stamps_start
  record_fits l = let d = header_told twelve s c.good in omega (arith, d.ends_file, c.counted)

  module _ (b : Before) where
    abbrev rightly : Bool
    rightly = right (fields_in s i) b.ended c.octets (eqb (i + 1) c.records)

    right_is : rightly ≡ fields_good twelve s i (before_from b)
    right_is = right_as s i b c.octets c.records c.many c.counted

    pub step_bad : rightly ≡ false → step twelve s i (before_from b) ≡ refused 14
    unfolding step
    step_bad e = rw (sym right_is ∙ e)

    pub stamp_fits : rightly ≡ true → c.stamps + start_at twelve s i + length_at twelve s i ≤ length s
    unfolding right placed
    stamp_fits e =
        let x = both_true (channel_good (channel_at twelve s i)) _ e in
        let k = both_true (leb (nat_abs (correction_at twelve s i)) 1000000) _ x.1 in
        let p = both_true (eqb (start_at twelve s i) b.ended) _ k.1 in
        let w = both_true (leb (start_at twelve s i + length_at twelve s i) c.octets) _ p.1 in
        let d = header_told twelve s c.good in
        omega (arith, leb-true (start_at twelve s i + length_at twelve s i) c.octets w.0, c.many, c.follow, d.ends_file)

    pub step_refused : (n : ℕ) → rightly ≡ true → instant_in (read DatetimeTz (stamp_at twelve s i)) ≡ refused n → step twelve s i (before_from b) ≡ refused n
    unfolding step
    step_refused n e f = rw (sym right_is ∙ e) (go (read DatetimeTz (stamp_at twelve s i)) f)
      where
        go : (o : Outcome Answer) → instant_in o ≡ refused n → timed (record_at twelve s i) (at b.last) o ≡ refused n
        go (accepted a) p = absurd (let z : ◌≡◌ {A = ℕ} 0 1 = cc in omega arith)
        go (refused m) p = ap refused (cc)

    record_is : (t : ℤ) → instant_at twelve s i ≡ t → record_at twelve s i ≡ taken i (record { fields = fields_in s i; instant = t })
    unfolding record_at
    record_is t e = rw e

    pub step_timed : (t : ℤ) → rightly ≡ true → instant_in (read DatetimeTz (stamp_at twelve s i)) ≡ accepted t
        → step twelve s i (before_from b) ≡ unless (le_z b.last t) 15 (accepted (taken i (record { fields = fields_in s i; instant = t })))
    unfolding step
    step_timed t e f = rw (sym right_is ∙ e) (go (read DatetimeTz (stamp_at twelve s i)) refl f)
      where
        go : (o : Outcome Answer) → read DatetimeTz (stamp_at twelve s i) ≡ o → instant_in o ≡ accepted t
            → timed (record_at twelve s i) (at b.last) o ≡ unless (le_z b.last t) 15 (accepted (taken i (record { fields = fields_in s i; instant = t })))
        go (accepted a) q p =
            let v : instant_of a.value ≡ t = same p in
            rw (v, record_is t (instant_is twelve s i at_front a q ∙ v))
        go (refused m) q p = absurd (let z : ◌≡◌ {A = ℕ} 0 1 = cc in omega arith)
