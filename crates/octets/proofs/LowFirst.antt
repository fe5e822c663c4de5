-- Octets least significant first: how many they are, those of a word that is made of two, and single or shorter stores that are the store of
-- one word. Assumes nothing.
use Rattle.std.proofs.Common.{◌≡◌, ℕ, zero, suc, ◌+◌, ◌*◌, ◌/◌, ◌%◌, ◌^◌, ◌<◌, List, [], ◌∷◌, ◌++◌, length, take, sym, refl, ap, mul_assoc, pow-suc, arith}
use lib.Seq.{sets}
use Rattle.octets.specs.Words.{low_octets}

-- ---- how many

pub length_low : (n w : ℕ) → length (low_octets n w) ≡ n
unfolding low_octets
length_low zero w = refl
length_low (suc n) w = ap suc (length_low n (w / 256))

-- fewer octets of a word
pub take_low : (n k w : ℕ) → take n (low_octets (n + k) w) ≡ low_octets n w
unfolding low_octets
take_low zero k w = refl
take_low (suc n) k w =
    let e : suc n + k ≡ suc (n + k) = omega arith in
    rw e (ap (λ (r : List ℕ). w % 256 ∷ r) (take_low n k (w / 256)))

-- ---- a word made of two

pub low_none : (w : ℕ) → low_octets 0 w ≡ []
unfolding low_octets
low_none w = refl

-- an octet and what is above it
pub low_first : (n x w : ℕ) → x < 256 → low_octets (suc n) (x + 256 * w) ≡ x ∷ low_octets n w
unfolding low_octets
low_first n x w h =
    let a : (x + 256 * w) % 256 ≡ x = omega arith in
    let b : (x + 256 * w) / 256 ≡ w = omega arith in
    rw (a, b)

-- m octets and those above them
pub low_append : (m n x y : ℕ) → x < 256 ^ m → low_octets (m + n) (x + y * 256 ^ m) ≡ low_octets m x ++ low_octets n y
unfolding low_octets
low_append zero n x y h =
    let e : x + y * 1 ≡ y = omega arith in
    let f : 0 + n ≡ n = omega arith in
    rw (e, f)
low_append (suc m) n x y h =
    let p = y * 256 ^ m in
    let g : suc m + n ≡ suc (m + n) = omega arith in
    let e : y * 256 ^ suc m ≡ p * 256 = rw pow-suc (sym (mul_assoc y (256 ^ m) 256)) in
    let a : (x + p * 256) % 256 ≡ x % 256 = omega arith in
    let b : (x + p * 256) / 256 ≡ x / 256 + p = omega arith in
    rw (g, e, a, b) (ap (λ (r : List ℕ). x % 256 ∷ r) (low_append m n (x / 256) y (omega (arith, rw pow-suc at h))))

-- ---- stored

two_quotients : (w : ℕ) → w / 256 / 256 ≡ w / 65536
two_quotients w = omega arith

pub four_quotients : (w : ℕ) → w / 256 / 256 / 256 / 256 ≡ w / 4294967296
four_quotients w = rw (two_quotients w, two_quotients (w / 65536)) (omega arith)

module _ (l : List ℕ) (i w : ℕ) where
  pub low_six : sets (sets l i (low_octets 4 w)) (i + 4) (low_octets 2 (w / 4294967296)) ≡ sets l i (low_octets 6 w)
  unfolding low_octets
  low_six = let e : i + 4 ≡ suc (suc (suc (suc i))) = omega arith in rw (e, ← four_quotients w)
