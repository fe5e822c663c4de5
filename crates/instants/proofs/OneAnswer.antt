-- No two different answers meet the promise that a public call's contract cites (specs/Calls). What an answer means can be undone. Assumes nothing.
use Rattle.std.proofs.Common.{◌≡◌, ℕ, eqb, ℤ, refl, ap}
use Rattle.std.specs.Prelude.{Result, Ok, Err}
use Rattle.format.specs.Words.{pick, Outcome, accepted, refused}
use Rattle.format.specs.Values.{Value}
use Rattle.format.specs.Promises.{OneAnswer}
use Rattle.format.proofs.Promises.{equal_one, meaning_one}
use Rattle.values.specs.declared.parts.Offset.{Offset}
use Rattle.values.specs.declared.kinds.DatetimeTz.{DatetimeTz}
use Rattle.instants.specs.declared.Instant.{Instant}
use Rattle.instants.specs.declared.Refusal.{Refusal}
use Rattle.instants.specs.declared.Refusal.TheVariants as R
use Rattle.values.specs.Meaning.{datetime_tz_value}
use Rattle.instants.specs.Meaning.{refusal_number, outcome, found, apart, stated}
use Rattle.instants.specs.Calls.{RefusalNumber, InstantNew, InstantInRange, InstantOf, InstantAdd, InstantDifference, InstantAt, Restates}

refusal_of : ℕ → Refusal
refusal_of n = pick (eqb n 2) R.Value R.NotRepresentable

refusal_back : (f : Refusal) → refusal_of (refusal_number f) ≡ f
unfolding refusal_of
refusal_back R.Value = refl
refusal_back R.NotRepresentable = refl

-- what a call answers, where what it means can be undone
answer_of : {T A : Type 0} → (A → T) → Outcome A → Result T Refusal
answer_of g (accepted a) = Ok (g a)
answer_of g (refused n) = Err (refusal_of n)

answer_back : {T A : Type 0} (f : T → A) (g : A → T) → ((t : T) → g (f t) ≡ t) → (r : Result T Refusal) → answer_of g (outcome f r) ≡ r
unfolding answer_of
answer_back f g b (Ok t) = ap Ok (b t)
answer_back f g b (Err f') = rw (refusal_back f')

instant_of : ℤ → Instant
instant_of i = record { micros = i }

instant_back : (i : Instant) → instant_of i.micros ≡ i
unfolding instant_of
instant_back i = refl

stamp_of : Value → DatetimeTz
stamp_of v =
    record { date = record { year = v.date.year; month = v.date.month; day = v.date.day }; time = record { micros = v.micros }; offset = record { minutes = v.offset } }

stamp_back : (v : DatetimeTz) → stamp_of (datetime_tz_value v) ≡ v
unfolding stamp_of
stamp_back v = refl

one_found : (o : Outcome ℤ) → OneAnswer (λ (r : Result Instant Refusal). found r ≡ o)
one_found = meaning_one (outcome (λ i. i.micros)) (answer_of instant_of) (answer_back (λ i. i.micros) instant_of instant_back)

one_apart : (o : Outcome ℤ) → OneAnswer (λ (r : Result ℤ Refusal). apart r ≡ o)
one_apart = meaning_one (outcome (λ n. n)) (answer_of (λ n. n)) (answer_back (λ n. n) (λ n. n) (λ n. refl))

one_stated : (o : Outcome Value) → OneAnswer (λ (r : Result DatetimeTz Refusal). stated r ≡ o)
one_stated = meaning_one (outcome datetime_tz_value) (answer_of stamp_of) (answer_back datetime_tz_value stamp_of stamp_back)

pub one_number : (f : Refusal) → OneAnswer (RefusalNumber f)
one_number f = equal_one _

pub one_new : (m : ℤ) → OneAnswer (InstantNew m)
one_new m = equal_one _

pub one_in_range : (i : Instant) → OneAnswer (InstantInRange i)
one_in_range i = equal_one _

pub one_instant_of : (v : DatetimeTz) → OneAnswer (InstantOf v)
one_instant_of v = one_found _

pub one_add : (i : Instant) (n : ℤ) → OneAnswer (InstantAdd i n)
one_add i n = one_found _

pub one_difference : (a b : Instant) → OneAnswer (InstantDifference a b)
one_difference a b = one_apart _

pub one_at : (i : Instant) (o : Offset) → OneAnswer (InstantAt i o)
one_at i o = one_stated _

pub one_restate : (v : DatetimeTz) (o : Offset) → OneAnswer (Restates v o)
one_restate v o = one_stated _
