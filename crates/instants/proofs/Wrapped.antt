-- Sums that may wrap, and what the code's tests tell of them. Assumes nothing.
--     sum_in, sum_is     of an instant and any number: what wraps is no instant, and an instant does not wrap
--     at_stamp, at_none  the stamp of a number at an offset, where its local reading has one, and where it has none
use Rattle.std.proofs.Common.{◌≡◌, ℕ, Bool, true, false, ltb, ℤ, ◌+ℤ◌, nat_abs, sym, refl, ap, ◌∙◌, arith, ltb-true, w64, SFits, of_z}
use Rattle.std.specs.Int.{int_wrapping_add}
use Rattle.std.proofs.lemmas.Int.{ints}
use Rattle.format.specs.Words.{pick, unless, accepted, refused}
use Rattle.format.specs.Values.{Value, offset_in_range}
use Rattle.format.proofs.Cases.{passed, failed}
use Rattle.moments.specs.Instant.{ahead, is_instant, local_at, in_years, end_of_years, stamp_of}
use Rattle.moments.specs.Calls.{at}
use Rattle.moments.proofs.Stamps.{ahead_size}
use Rattle.moments.proofs.Limits.{at_good, at_instant, within}

module _ (i n : ℤ) (known : is_instant i ≡ true) (fits : SFits w64 n) where
  pub sum_in : is_instant (int_wrapping_add w64 i n) ≡ is_instant (i +ℤ n)
  unfolding is_instant
  sum_in = grind (arith, ints)

  pub sum_is : is_instant (i +ℤ n) ≡ true → int_wrapping_add w64 i n ≡ i +ℤ n
  unfolding is_instant
  sum_is h = grind (arith, ints)

-- a reading within the years at an offset in range is that of an instant
in_years_instant : (i o : ℤ) → offset_in_range o ≡ true → in_years (local_at i o) ≡ true → is_instant i ≡ true
in_years_instant i o g e =
    ap is_instant (sym (at_instant i o e)) ∙ within (stamp_of (nat_abs (local_at i o)) o) (at_good i o g e)

module _ (i o : ℤ) (r : ℕ) (fits : SFits w64 i) (known : offset_in_range o ≡ true) (sum : r ≡ of_z w64 (int_wrapping_add w64 i (ahead o))) where
  years : ltb r end_of_years ≡ in_years (local_at i o)
  unfolding local_at
  years = let a = ahead_size o known in grind (arith, ints)

  reading : ltb r end_of_years ≡ true → nat_abs (local_at i o) ≡ r
  unfolding local_at
  reading e = let h = ltb-true r end_of_years e in let a = ahead_size o known in grind (arith, ints)

  pub at_stamp : (v : Value) → accepted v ≡ unless (ltb r end_of_years) 9 (accepted (stamp_of r o)) → accepted v ≡ at i o
  unfolding at
  at_stamp v e =
      let p = passed (ltb r end_of_years) 9 (accepted (stamp_of r o)) v (sym e) in
      rw (in_years_instant i o known (sym years ∙ p.0), known, sym years ∙ p.0, reading p.0) (sym p.1)

  pub at_none : (n : ℕ) → refused n ≡ unless (ltb r end_of_years) 9 (accepted (stamp_of r o)) → refused (pick (is_instant i) 9 2) ≡ at i o
  unfolding at
  at_none n e = rw (known, sym years ∙ failed (ltb r end_of_years) 9 n (stamp_of r o) (sym e)) (go (is_instant i))
    where
      go : (s : Bool) → refused (pick s 9 2) ≡ unless s 2 (unless true 2 (unless false 9 (accepted (stamp_of (nat_abs (local_at i o)) o))))
      go true = refl
      go false = refl
