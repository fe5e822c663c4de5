-- What reading comes to, part by part, over the kind: a part that is refused refuses the whole, and with all parts found so is the whole.
-- Assumes nothing.
use mathlib.Core.Path.{◌≡◌, refl, sym, ap}
use mathlib.Core.Bool.{Bool, true, false}
use mathlib.Core.List.{List}
use Prim.Native.Nat.{ℕ, ◌+◌, ◌%◌, ◌≤◌}
use lib.IntN.{ℤ, pos}
use lib.Dec.{leb, eqb}
use lib.ListN.{length}
use native.Mathlib.Omega.{arith}
use Rattle.std.specs.Prelude.{Result, Ok, Err}
use Rattle.std.specs.Result.{IsErrAnd}
use borrow.Author.Tests.{eq-eqb, ne_eqb, eqb-true, leb-true}
use Rattle.format.specs.Words.{pick, both, either, Outcome, accepted, refused, unless}
use Rattle.format.specs.Calendar.{Day, no_date, last_number, day_of}
use Rattle.format.specs.Local.{join}
use Rattle.format.specs.Values.{Kind, dated, zoned, Value, end_of_day, time_in_range, offset_in_range, extended}
use Rattle.format.specs.Octets.{unsigned_at}
use Rattle.format.specs.Extended.{day_width, offset_from, extended_value, read_extended}
use Rattle.format.specs.Reading.{answer, read_in, read_as}
use Rattle.format.proofs.Cases.{both_false, passed, same, never}
use Rattle.format.proofs.Dates.{number_date}
use Rattle.values.specs.declared.refusal.Refusal.{Refusal}
use Rattle.values.specs.Meaning.{refusal_number}
use Rattle.values.specs.Answers.{outcome, local_in}

-- what a `?` hands on of a refusal
pub handed_on : {T A : Type 0} (f : T → A) (r : Result T Refusal) (e : Refusal) (o : Outcome A) → IsErrAnd r (λ x. x ≡ e) → refused (refusal_number e) ≡ o → outcome f r ≡ o
handed_on f (Ok t) e o i p = absurd i
handed_on f (Err x) e o i p = rw i p

-- a plain header's offset
pub no_offset : (b : ℕ) → true ≡ eqb b 0 → pos 0 ≡ offset_from b
unfolding offset_from
no_offset b e = rw (eqb-true b 0 (sym e))

pub no_offset_fits : (b : ℕ) → true ≡ eqb b 0 → offset_in_range (offset_from b) ≡ true
unfolding offset_in_range
no_offset_fits b e = rw (← no_offset b e)

-- one that was refused at its only test failed it, and has its number
refused_at : {A : Type 0} (t : Bool) (n m : ℕ) (a : A) → refused n ≡ unless t m (accepted a) → (t ≡ false) × (n ≡ m)
refused_at {A = A} true n m a e = never (ap is_accepted e)
  where
    is_accepted : Outcome A → Bool
    is_accepted (accepted x) = true
    is_accepted (refused x) = false
refused_at false n m a e = (refl, cc)

module _ (k : Kind) (s : List ℕ) where
  abbrev bits : ℕ
  bits = unsigned_at s 0 2 % 4096

  abbrev day : ℕ
  day = unsigned_at s 2 (day_width k)

  abbrev micros : ℕ
  micros = unsigned_at s (2 + day_width k) 5

  abbrev plain : Bool
  plain = either (zoned k) (eqb bits 0)

  abbrev pub header_in : Outcome ℤ
  header_in = unless plain 6 (unless (offset_in_range (offset_from bits)) 8 (accepted (offset_from bits)))

  abbrev pub time_in : Outcome ℕ
  time_in = unless (time_in_range micros) 8 (accepted micros)

  abbrev pub date_in : Outcome Day
  date_in = unless (leb day last_number) 8 (accepted (pick (dated k) (day_of day) no_date))

  pub wrong_length : (length s ≡ 7 + day_width k → ⊥) → refused 5 ≡ read_as k extended s
  unfolding read_extended read_in
  wrong_length e = rw (ne_eqb (length s) (7 + day_width k) e)

  module _ (m : ℕ) (t : accepted m ≡ time_in) where
    time_tests : (time_in_range micros ≡ true) × (m ≡ micros)
    time_tests = let p = passed (time_in_range micros) 8 (accepted micros) m (sym t) in (p.0, sym (same p.1))

    pub time_few : m ≤ end_of_day
    unfolding time_in_range
    time_few = let e = leb-true micros end_of_day time_tests.0 in omega (arith, time_tests.1)

  module _ (l : length s ≡ 7 + day_width k) where
    comes : read_extended k s
        ≡ unless plain 6
        (unless (both (offset_in_range (offset_from bits)) (both (leb day last_number) (time_in_range micros))) 8
        (accepted (extended_value k bits day micros)))
    unfolding read_extended
    comes = rw (eq-eqb (length s) (7 + day_width k) l)

    pub header_refused : (n : ℕ) → refused n ≡ header_in → refused n ≡ read_as k extended s
    unfolding read_in
    header_refused n e = rw comes (go plain (offset_in_range (offset_from bits)) (both (leb day last_number) (time_in_range micros)) (offset_from bits) (extended_value k bits day micros) e)
      where
        go : (a b c : Bool) (x : ℤ) (v : Value) → refused n ≡ unless a 6 (unless b 8 (accepted x)) → refused n ≡ answer k extended (unless a 6 (unless (both b c) 8 (accepted v)))
        go false b c x v e = let p : n ≡ 6 = cc in rw p
        go true b c x v e = let p = refused_at b n 8 x e in rw (p.0, p.1)

    module _ (o : ℤ) (h : accepted o ≡ header_in) where
      tests : (plain ≡ true) × (offset_in_range (offset_from bits) ≡ true) × (o ≡ offset_from bits)
      tests =
          let p = passed plain 6 (unless (offset_in_range (offset_from bits)) 8 (accepted (offset_from bits))) o (sym h) in
          let q = passed (offset_in_range (offset_from bits)) 8 (accepted (offset_from bits)) o p.1 in
          (p.0, q.0, sym (same q.1))

      pub time_refused : (n : ℕ) → refused n ≡ time_in → refused n ≡ read_as k extended s
      unfolding read_in
      time_refused n e = let p = refused_at (time_in_range micros) n 8 micros e in rw (comes, tests.0, tests.1, p.0, p.1, both_false (leb day last_number))

      pub day_refused : leb day last_number ≡ false → refused 8 ≡ read_as k extended s
      unfolding read_in
      day_refused d = rw (comes, tests.0, tests.1, d)

      pub date_refused : (n : ℕ) → refused n ≡ date_in → refused n ≡ read_as k extended s
      date_refused n e = let p = refused_at (leb day last_number) n 8 (pick (dated k) (day_of day) no_date) e in rw p.1 (day_refused p.0)

      module _ (m : ℕ) (t : accepted m ≡ time_in) where
        pub found : (d : Day) → accepted d ≡ date_in → accepted (record { kind = k; form = extended; value = record { date = d; micros = m; offset = o } }) ≡ read_as k extended s
        unfolding read_in extended_value
        found d e =
            let p = passed (leb day last_number) 8 (accepted (pick (dated k) (day_of day) no_date)) d (sym e) in
            rw (comes, tests.0, tests.1, (time_tests m t).0, p.0, tests.2, (time_tests m t).1, same p.1)

        -- the day number is that of its date
        pub located_there : leb day last_number ≡ true → dated k ≡ true → accepted (join end_of_day day m, o) ≡ local_in (read_as k extended s)
        unfolding read_in extended_value
        located_there d y = rw (comes, tests.0, tests.1, d, (time_tests m t).0, tests.2, (time_tests m t).1, y, (number_date day (omega (arith, leb-true day last_number d))).1)
