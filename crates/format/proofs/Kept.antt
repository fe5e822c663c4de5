-- What is read is already cut to what its form keeps, and has no parts but the kind's; and a writer looks at no others. Assumes nothing.
use mathlib.Core.Path.{◌≡◌, refl, sym, ◌∙◌, ap}
use mathlib.Core.Bool.{Bool, true, false}
use mathlib.Core.List.{List}
use Prim.Native.Nat.{ℕ, ◌+◌}
use lib.IntN.{ℤ, pos}
use lib.Dec.{eqb}
use Rattle.format.specs.Words.{pick, both, if_any, accepted}
use Rattle.format.specs.Octets.{Octets, signed_octets}
use Rattle.format.specs.Calendar.{Day, no_date, day_number, day_of}
use Rattle.format.specs.Values.{Kind, Date, DateTz, Time, TimeTz, Datetime, DatetimeTz, dated, timed, zoned, Value, end_of_day, in_range, Settings, Form, text, compact, extended, Answer}
use Rattle.format.specs.Choice.{form_for}
use Rattle.format.specs.Text.{fraction_unit, text_numbers, text_image}
use Rattle.format.specs.Compact.{count, number, carried, has_compact, compact_image}
use Rattle.format.specs.Extended.{twelve, extended_image}
use Rattle.format.specs.Writing.{image_in, has_form, encode_in, encode}
use Rattle.format.specs.Reading.{read}
use Rattle.format.specs.Keeping.{own, owned, down, cut}
use Rattle.format.proofs.Cases.{same, never}
use Rattle.format.proofs.Round.{answered, image_reads, was_read}

own_own : (k : Kind) (d : Day) (m : ℕ) (o : ℤ) → owned k (own k d m o) ≡ own k d m o
unfolding own
own_own k d m o = go (dated k) (timed k) (zoned k)
  where
    go : (a b c : Bool) → ◌≡◌ {A = Value}
        (record { date = pick a (pick a d no_date) no_date; micros = if_any b (if_any b m); offset = pick c (pick c o (pos 0)) (pos 0) })
        (record { date = pick a d no_date; micros = if_any b m; offset = pick c o (pos 0) })
    go true true true = refl
    go true true false = refl
    go true false true = refl
    go true false false = refl
    go false true true = refl
    go false true false = refl
    go false false true = refl
    go false false false = refl

cut_owned : (k : Kind) (f : Form) (v : Value) → owned k (cut k f v) ≡ cut k f v
unfolding cut
cut_owned k (text d) v = own_own k v.date (down (fraction_unit d) v.micros) v.offset
cut_owned k compact v = go (both (both (dated k) (timed k)) (eqb v.micros end_of_day))
  where
    go : (b : Bool)
        → owned k (pick b (own k (day_of (day_number v.date + 1)) 0 v.offset) (own k v.date (down 1000 v.micros) v.offset))
        ≡ pick b (own k (day_of (day_number v.date + 1)) 0 v.offset) (own k v.date (down 1000 v.micros) v.offset)
    go true = own_own k (day_of (day_number v.date + 1)) 0 v.offset
    go false = own_own k v.date (down 1000 v.micros) v.offset
cut_owned k extended v = own_own k v.date v.micros v.offset

-- it is the image of what was read, and an image reads as what its form keeps
pub read_kept : (k : Kind) (xs : List ℕ) (a : Answer) → Octets xs → read k xs ≡ accepted a → a.value ≡ cut k a.form a.value
read_kept k xs a o e =
    let r = (was_read k xs a o e).from in
    let i : read k xs ≡ accepted (answered k a.form (cut k a.form a.value)) =
    rw (← r.image) (image_reads k a.form a.value r.range r.kind r.has) in
    let q : a ≡ answered k a.form (cut k a.form a.value) = same (sym e ∙ i) in
    ap (λ (x : Answer). x.value) q

pub read_owned : (k : Kind) (xs : List ℕ) (a : Answer) → Octets xs → read k xs ≡ accepted a → owned k a.value ≡ a.value
read_owned k xs a o e =
    let q = read_kept k xs a o e in
    ap (owned k) q ∙ cut_owned k a.form a.value ∙ sym q

-- ---- writing

-- A kind without a time is written as text or compact, by the binary setting alone; the others in any form.
text_or_compact : (k : Kind) → timed k ≡ false → (b : Bool) (v : Value)
    → encode_in k (pick b compact (text 0)) (owned k v) ≡ encode_in k (pick b compact (text 0)) v
unfolding own in_range image_in has_form text_numbers text_image count number carried has_compact compact_image signed_octets
text_or_compact Date u true v = refl
text_or_compact Date u false v = refl
text_or_compact DateTz u true v = refl
text_or_compact DateTz u false v = refl
text_or_compact Time u b v = never (sym u)
text_or_compact TimeTz u b v = never (sym u)
text_or_compact Datetime u b v = never (sym u)
text_or_compact DatetimeTz u b v = never (sym u)

any_form : (k : Kind) → timed k ≡ true → (f : Form) (v : Value) → encode_in k f (owned k v) ≡ encode_in k f v
unfolding own in_range image_in has_form text_numbers text_image count number carried has_compact compact_image signed_octets twelve extended_image
any_form Date u f v = never u
any_form DateTz u f v = never u
any_form Time u (text d) v = refl
any_form Time u compact v = refl
any_form Time u extended v = refl
any_form TimeTz u (text d) v = refl
any_form TimeTz u compact v = refl
any_form TimeTz u extended v = refl
any_form Datetime u (text d) v = refl
any_form Datetime u compact v = refl
any_form Datetime u extended v = refl
any_form DatetimeTz u (text d) v = refl
any_form DatetimeTz u compact v = refl
any_form DatetimeTz u extended v = refl

pub encode_owned : (k : Kind) (t : Settings) (v : Value) → encode k t (owned k v) ≡ encode k t v
unfolding encode form_for own
encode_owned Date t v = rw (text_or_compact Date refl t.binary v)
encode_owned DateTz t v = rw (text_or_compact DateTz refl t.binary v)
encode_owned Time t v = rw (any_form Time refl (form_for Time t v) v)
encode_owned TimeTz t v = rw (any_form TimeTz refl (form_for TimeTz t v) v)
encode_owned Datetime t v = rw (any_form Datetime refl (form_for Datetime t v) v)
encode_owned DatetimeTz t v = rw (any_form DatetimeTz refl (form_for DatetimeTz t v) v)
