-- What a writer leaves, by what `day_in_range` and `image` answered: a value out of range; one without compact form; the buffer too short; the
-- image stored. Assumes nothing.
use mathlib.Core.Path.{◌≡◌, refl, sym, ◌∙◌}
use mathlib.Core.Bool.{Bool, true, false}
use mathlib.Core.List.{List}
use Prim.Native.Nat.{ℕ, ◌<◌, ◌≤◌}
use native.Mathlib.Omega.{arith}
use lib.ListN.{length}
use lib.Seq.{sets}
use Rattle.format.specs.Words.{if_any, Outcome, accepted, refused, unless}
use Rattle.format.specs.Calendar.{day_number}
use Rattle.format.specs.Values.{Kind, dated, Value, in_range, compact}
use Rattle.format.specs.Choice.{kind_has}
use Rattle.format.specs.Compact.{has_compact, compact_image}
use Rattle.format.specs.Writing.{image_in, has_form, encode_in}
use Rattle.format.proofs.Cases.{passed, same}
use Rattle.format.proofs.Images.{image_size}
use Rattle.values.specs.Promise.{Left}
use Rattle.values.proofs.Writes.{refuses, short, stored}
use Rattle.compact.specs.declared.put.Image.{Image}
use Rattle.compact.specs.Meaning.{image_octets}
use Rattle.compact.specs.Ranged.{day_where_ranged}

-- the writing of v comes to the octets of i, and they are few
pub record Made (k : Kind) (v : Value) (i : Image) : Type 0 where
  pub written : encode_in k compact v ≡ accepted (image_octets i)
  pub small : length (image_octets i) ≤ 32

-- refused at one test, whatever would have come behind it
refused_at : {A B : Type 0} (b : Bool) (n m : ℕ) (a : A) (o : Outcome B) → refused m ≡ unless b n (accepted a) → unless b n o ≡ refused m
refused_at true n m a o e = let z : ◌≡◌ {A = ℕ} 0 1 = cc in absurd (omega arith)
refused_at false n m a o e = let z : n ≡ m = cc in rw z

module _ (k : Kind) (v : Value) where
  pub out_of_range : (n : ℕ) → refused n ≡ day_where_ranged k v → (lent : List ℕ) → Left (encode_in k compact v) lent n 0 lent
  unfolding day_where_ranged
  out_of_range n e lent = rw (refused_at (in_range k v) 2 n _ _ e) (refuses n lent)

  module _ (day : ℕ) (h : accepted day ≡ day_where_ranged k v) where
    pub asks_image : (in_range k v ≡ true) × (dated k ≡ true → day ≡ day_number v.date)
    unfolding day_where_ranged
    asks_image =
        let p = passed (in_range k v) 2 (accepted (if_any (dated k) (day_number v.date))) day (sym h) in
        (p.0, λ d. same (sym p.1 ∙ rw d))

    pub no_form : (n : ℕ) → refused n ≡ unless (has_compact k v) 3 (accepted (compact_image k v)) → (lent : List ℕ) → Left (encode_in k compact v) lent n 0 lent
    unfolding has_form image_in
    no_form n e lent = rw (asks_image.0, refused_at (has_compact k v) 3 n _ _ e) (refuses n lent)

    pub made : (i : Image) → accepted (image_octets i) ≡ unless (has_compact k v) 3 (accepted (compact_image k v)) → Made k v i
    unfolding has_form image_in kind_has
    made i e =
        let p = passed (has_compact k v) 3 (accepted (compact_image k v)) (image_octets i) (sym e) in
        let is-image : compact_image k v ≡ image_octets i = same p.1 in
        record {
          written = rw (asks_image.0, p.0, is-image);
          small = rw (← is-image) (image_size k compact v asks_image.0 refl p.0).1;
        }

module _ {k : Kind} {v : Value} {i : Image} (m : Made k v i) {n : ℕ} (l : n ≡ length (image_octets i)) (lent : List ℕ) where
  pub too_short : length lent < n → Left (encode_in k compact v) lent 4 0 lent
  too_short h = rw m.written (short _ lent (omega (arith, l)))

  pub image_stored : {left : List ℕ} → n ≤ length lent → left ≡ sets lent 0 (image_octets i) → Left (encode_in k compact v) lent 0 n left
  image_stored h e = rw m.written (stored _ lent _ n l (omega (arith, l)) e)
