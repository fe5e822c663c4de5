-- Octets stored and loaded several at a time. Assumes nothing.
use Rattle.std.proofs.Common.{◌≡◌, ℕ, zero, suc, ◌+◌, ◌-◌, ◌*◌, ◌/◌, ◌%◌, ◌^◌, ◌≤◌, List, [], ◌∷◌, ◌++◌, length, get_or, take, drop, sym, refl, mul_assoc, arith, drop-cons}
use Rattle.std.proofs.lemmas.List.{drop-drop, append_assoc}
use Rattle.std.proofs.lemmas.List.Edits.{sets-eq}
use lib.Seq.{sets}
use borrow.Rule.Slice.PartMut.{put_mid}
use native.Mathlib.Nat.{div-div-eq-div-mul, pow-suc, pow-succ'}
use Rattle.format.specs.Octets.{unsigned_octets}
use Rattle.octets.specs.Words.{low_octets, word, behind, standing}

-- ---- stored

-- the first octet apart
unsigned_first : (n x : ℕ) → unsigned_octets (suc n) x ≡ x / 256 ^ n % 256 ∷ unsigned_octets n x
unfolding unsigned_octets
unsigned_first zero x = let e : x / 1 ≡ x = omega arith in rw e
unsigned_first (suc n) x = rw (unsigned_first n (x / 256), div-div-eq-div-mul x 256 (256 ^ n), ← pow-succ' 256 n)

-- the last n of eight
pub eight_octets : (x : ℕ)
    → (x / 72057594037927936 % 256 ∷ x / 281474976710656 % 256 ∷ x / 1099511627776 % 256 ∷ x / 4294967296 % 256 ∷ x / 16777216 % 256 ∷ x / 65536 % 256 ∷ x / 256 % 256 ∷ x % 256 ∷ [])
    ≡ unsigned_octets 8 x
unfolding unsigned_octets
eight_octets x =
    let e : x / 1 ≡ x = omega arith in
    rw (unsigned_first 7 x, unsigned_first 6 x, unsigned_first 5 x, unsigned_first 4 x, unsigned_first 3 x, unsigned_first 2 x, unsigned_first 1 x, unsigned_first 0 x, e)

pub last_octets : (k n x : ℕ) → drop k (unsigned_octets (k + n) x) ≡ unsigned_octets n x
last_octets zero n x = let e : 0 + n ≡ n = omega arith in rw e
last_octets (suc k) n x = let e : suc k + n ≡ suc (k + n) = omega arith in rw (e, unsigned_first (k + n) x) (last_octets k n x)

-- what stands above the octets that are looked at does not count
above : (q r p : ℕ) → (q * (p * 256) + r) % 256 ≡ r % 256
above q r p = rw (← mul_assoc q p 256) (omega arith)

shifted : (q r p : ℕ) → (q * (p * 256) + r) / 256 ≡ q * p + r / 256
shifted q r p = rw (← mul_assoc q p 256) (omega arith)

pub unsigned_over : (n q r : ℕ) → unsigned_octets n (q * 256 ^ n + r) ≡ unsigned_octets n r
unfolding unsigned_octets
unsigned_over zero q r = refl
unsigned_over (suc n) q r = rw (pow-suc, above q r (256 ^ n), shifted q r (256 ^ n), unsigned_over n q (r / 256))

-- the same, least significant first
pub eight_low : (x : ℕ)
    → (x % 256 ∷ x / 256 % 256 ∷ x / 65536 % 256 ∷ x / 16777216 % 256 ∷ x / 4294967296 % 256 ∷ x / 1099511627776 % 256 ∷ x / 281474976710656 % 256 ∷ x / 72057594037927936 % 256 ∷ [])
    ≡ low_octets 8 x
unfolding low_octets
eight_low x =
    let q2 : x / 256 / 256 ≡ x / 65536 = omega arith in
    let q3 : x / 65536 / 256 ≡ x / 16777216 = omega arith in
    let q4 : x / 16777216 / 256 ≡ x / 4294967296 = omega arith in
    let q5 : x / 4294967296 / 256 ≡ x / 1099511627776 = omega arith in
    let q6 : x / 1099511627776 / 256 ≡ x / 281474976710656 = omega arith in
    let q7 : x / 281474976710656 / 256 ≡ x / 72057594037927936 = omega arith in
    rw (q2, q3, q4, q5, q6, q7)

-- a part that was written over, as one store
pub stored : (l xs : List ℕ) (at n : ℕ) → length xs ≡ n → at + n ≤ length l → put_mid at (at + n - at) l xs ≡ sets l at xs
stored l xs at n c h =
    let e : at + n - at ≡ n = omega arith in
    rw (e, drop-drop, ← append_assoc) (sym (rw c at (sets-eq xs l at (omega (arith, c)))))

-- ---- loaded

one_off : (l : List ℕ) (j : ℕ) → word (drop j l) ≡ word (drop (suc j) l) * 256 + get_or l j 0
unfolding word
one_off [] zero = refl
one_off [] (suc j) = refl
one_off (o ∷ os) zero = refl
one_off (o ∷ os) (suc j) = one_off os j

dropped_all : (j : ℕ) (l : List ℕ) → length l ≡ j → word (drop j l) ≡ 0
unfolding word
dropped_all zero [] h = refl
dropped_all zero (o ∷ os) h = absurd (omega arith)
dropped_all (suc j) [] h = refl
dropped_all (suc j) (o ∷ os) h = dropped_all j os (omega arith)

-- eight octets
pub eight_loaded : (l : List ℕ) (w : ℕ) → length l ≡ 8
    → w ≡ get_or l 0 0 + get_or l 1 0 * 256 + get_or l 2 0 * 65536 + get_or l 3 0 * 16777216 + get_or l 4 0 * 4294967296 + get_or l 5 0 * 1099511627776 + get_or l 6 0 * 281474976710656 + get_or l 7 0 * 72057594037927936
    → w ≡ word l
eight_loaded l w h e =
    omega (arith, e, one_off l 0, one_off l 1, one_off l 2, one_off l 3, one_off l 4, one_off l 5, one_off l 6, one_off l 7, dropped_all 8 l h)

-- zeros behind a number's octets
zeros_left : (n : ℕ) (zs : List ℕ) → word zs ≡ 0 → word (drop n zs) ≡ 0
unfolding word
zeros_left zero zs e = e
zeros_left (suc n) [] e = e
zeros_left (suc n) (z ∷ zs) e = zeros_left n zs (omega arith)

zeros_behind : (xs zs : List ℕ) → word zs ≡ 0 → word (xs ++ zs) ≡ word xs
unfolding word
zeros_behind [] zs e = e
zeros_behind (x ∷ xs) zs e = rw (zeros_behind xs zs e)

pub padded : (n : ℕ) (xs : List ℕ) → word (xs ++ drop n (0 ∷ 0 ∷ 0 ∷ 0 ∷ 0 ∷ 0 ∷ 0 ∷ 0 ∷ [])) ≡ word xs
unfolding word
padded n xs = zeros_behind xs _ (zeros_left n (0 ∷ 0 ∷ 0 ∷ 0 ∷ 0 ∷ 0 ∷ 0 ∷ 0 ∷ []) refl)

behind_taken : (n i : ℕ) (s : List ℕ) (at : ℕ) → at + i + n ≤ length s → behind i n s at ≡ take n (drop (at + i) s)
behind_taken zero i s at h = refl
behind_taken (suc n) i s at h =
    let e : suc (at + i) ≡ at + suc i = omega arith in
    rw (drop-cons s (at + i) 0 (omega arith), e, behind_taken n (suc i) s at (omega arith))

pub standing_taken : (n : ℕ) (s : List ℕ) (at : ℕ) → at + n ≤ length s → standing n s at ≡ take n (drop at s)
standing_taken zero s at h = refl
standing_taken (suc n) s at h =
    let e : suc at ≡ at + 1 = omega arith in
    rw (drop-cons s at 0 (omega arith), e, behind_taken n 1 s at (omega arith))
