-- One octet stored behind those of the number without it; and the first four stored, then the last two over them. Assumes nothing.
use Rattle.std.proofs.Common.{◌≡◌, ℕ, zero, suc, ◌+◌, ◌-◌, ◌^◌, ◌<◌, ◌≤◌, List, [], ◌∷◌, ◌++◌, length, set, ℤ, sym, refl, ◌∙◌, le_of_suc-le-suc, not-suc-le-zero, zero-add, arith, set-set, pow-add}
use lib.Seq.{sets, set_comm}
use Rattle.format.specs.Floor.{div_f}
use Rattle.format.specs.Octets.{signed_octets}
use Rattle.format.proofs.Floor.{div_div}
use Rattle.format.proofs.Signed.{octets_length}
use Rattle.format.proofs.Storing.{sets_append}

-- ---- octets stored over others

set_before : (l : List ℕ) (i j : ℕ) (ys : List ℕ) (z : ℕ) → i < j → set (sets l j ys) i z ≡ sets (set l i z) j ys
set_before l i j [] z h = refl
set_before l i j (y ∷ ys) z h = set_before (set l j y) i (suc j) ys z (omega arith) ∙ rw (set_comm l j i y z (λ e. omega arith))

pub sets_over : (l : List ℕ) (i : ℕ) (ys zs : List ℕ) → length ys ≤ length zs → sets (sets l i ys) i zs ≡ sets l i zs
sets_over l i [] zs h = refl
sets_over l i (y ∷ ys) [] h = absurd (not-suc-le-zero h)
sets_over l i (y ∷ ys) (z ∷ zs) h =
    rw (set_before (set l i y) i (suc i) ys z (omega arith), set-set l i y z) (sets_over (set l i z) (suc i) ys zs (le_of_suc-le-suc h))

-- the first m of m + n octets are those of the number without its last n
split : (m n : ℕ) (x : ℤ) → signed_octets (m + n) x ≡ signed_octets m (div_f x (256 ^ n)) ++ signed_octets n x
unfolding signed_octets
split zero n x = rw zero-add
split (suc m) n x =
    let e : m + n ≡ n + m = omega arith in
    let d : div_f x (256 ^ (m + n)) ≡ div_f (div_f x (256 ^ n)) (256 ^ m) = rw (e, pow-add 256 n m) (sym (div_div x (256 ^ n) (256 ^ m))) in
    let z : suc m + n ≡ suc (m + n) = omega arith in
    rw (z, d, split m n x)

-- k of the last two are among the first four
module _ (l : List ℕ) (at m k : ℕ) (x : ℤ) (p : m + k ≡ 4) (q : k ≤ 2) where
  head : signed_octets 4 (div_f x (256 ^ (2 - k))) ≡ signed_octets m (div_f x (256 ^ 2)) ++ signed_octets k (div_f x (256 ^ (2 - k)))
  head =
      let e : (2 - k) + k ≡ 2 = omega arith in
      let d : div_f (div_f x (256 ^ (2 - k))) (256 ^ k) ≡ div_f x (256 ^ 2) = div_div x (256 ^ (2 - k)) (256 ^ k) ∙ rw (← pow-add 256 (2 - k) k, e) in
      rw d at (rw p at (split m k (div_f x (256 ^ (2 - k)))))

  pub stored_over : sets (sets l at (signed_octets 4 (div_f x (256 ^ (2 - k))))) (at + m) (signed_octets 2 x) ≡ sets l at (signed_octets (m + 2) x)
  stored_over =
      let xs = signed_octets m (div_f x (256 ^ 2)) in
      let ys = signed_octets k (div_f x (256 ^ (2 - k))) in
      let c : length xs ≡ m = octets_length m (div_f x (256 ^ 2)) in
      let s : length ys ≤ length (signed_octets 2 x) = omega (arith, octets_length k (div_f x (256 ^ (2 - k))), octets_length 2 x) in
      let a = rw c at (sets_append l at xs ys) in
      let b = rw c at (sets_append l at xs (signed_octets 2 x)) in
      rw (head, split m 2 x, a, b) (sets_over (sets l at xs) (at + m) ys (signed_octets 2 x) s)
