-- The number of a number's first octets: two or four taken at once, one octet more, and that there is room for it. Assumes nothing.
use Rattle.std.proofs.Common.{◌≡◌, ℕ, zero, suc, ◌+◌, ◌-◌, ◌*◌, ◌^◌, ◌<◌, ◌≤◌, List, length, get_or, take, drop, pos, negsuc, refl, ⊎_elim, lt_of_lt_of_le, add-one, arith, length-drop, length-take, get_or-drop, drop-cons, take-suc, le-ltb, lt-ltb, w16, w32, to_z}
use lib.Signed.{mag}
use mir.Syntax.{Width}
use mir.Val.{bits, hbits}
use mir.Facts.{to_z_pos, to_z-neg}
use Rattle.format.specs.Octets.{Octets, push, more, sign_from, signed_of, fewest_octets}
use Rattle.octets.specs.Words.{so_far}
use Rattle.format.proofs.Cases.{lt_or_le}
use Rattle.format.proofs.Floor.{push_neg}
use Rattle.format.proofs.Signed.{take_octets, drop_octets, more_snoc}
use Rattle.format.proofs.Ber.{half_mono, least, fewest_octets_lem}

-- ---- the sign of a first octet

pub sign_plus : (b : ℕ) → b < 128 → pos 0 ≡ sign_from b
sign_plus b h = rw (lt-ltb b 128 h)

pub sign_minus : (b : ℕ) → 128 ≤ b → negsuc 0 ≡ sign_from b
sign_minus b h = rw (le-ltb b 128 h)

-- ---- two's complement: the i octets from `at` on, after the sign

pub none_yet_lem : (s : List ℕ) (at : ℕ) → so_far s at 0 ≡ sign_from (get_or s at 0)
unfolding more
none_yet_lem s at = refl

pub one_more : (s : List ℕ) (at i : ℕ) → at + i < length s → so_far s at (i + 1) ≡ push (so_far s at i) (get_or s (at + i) 0)
one_more s at i h =
    let l : i < length (drop at s) = rw length-drop (omega arith) in
    rw (add-one, take-suc (drop at s) i 0 l, get_or-drop) (more_snoc (sign_from (get_or s at 0)) (take i (drop at s)) (get_or s (at + i) 0))

pub all_passed : (s : List ℕ) (at n : ℕ) → at + n ≤ length s → 1 ≤ n → so_far s at n ≡ signed_of (take n (drop at s))
unfolding signed_of
all_passed s at zero h p = absurd (omega arith)
all_passed s at (suc n) h p = rw (drop-cons s at 0 (omega arith))

-- what seven octets or fewer hold has room for one more
pub room : (s : List ℕ) (at i : ℕ) → Octets s → at + i ≤ length s → i ≤ 7 → mag (so_far s at i) < 2 ^ 55
room s at zero o l h =
    rw (none_yet_lem s at) (⊎_elim (λ p. rw (← sign_plus (get_or s at 0) p) (omega arith)) (λ p. rw (← sign_minus (get_or s at 0) p) (omega arith)) (lt_or_le (get_or s at 0) 128))
room s at (suc i) o l h =
    let xs = take (suc i) (drop at s) in
    let x = signed_of xs in
    let c : length xs ≡ suc i = simp (length-take, length-drop) (omega arith) in
    let f = fewest_octets_lem xs (take_octets (suc i) (drop at s) (drop_octets at s o)) (omega arith) in
    rw (all_passed s at (suc i) l (omega arith)) (lt_of_lt_of_le (least x).holds (half_mono (fewest_octets x) 7 (omega arith)))

-- ---- two or four at once: by the sign of the first

-- a word below half is itself, and from there on what it lacks to the whole
low_half : (w : Width) (v n : ℕ) → v ≡ n → n < 2 ^ hbits w → to_z w v ≡ pos n
low_half w v n e h = rw e (to_z_pos w {n = n} h)

high_half : (w : Width) (v n : ℕ) → v ≡ 2 ^ bits w - suc n → n < 2 ^ hbits w → to_z w v ≡ negsuc n
high_half w v n e h = rw e (to_z-neg w n h)

two_octets : (a b : ℕ) → a < 256 → b < 256 → to_z w16 (a * 256 + b) ≡ push (push (sign_from a) a) b
two_octets a b p q =
    ⊎_elim (λ l. rw (← sign_plus a l) (low_half w16 (a * 256 + b) ((0 * 256 + a) * 256 + b) (omega arith) (omega arith)))
    (λ l.
    rw (← sign_minus a l, push_neg 0 a p, push_neg (0 * 256 + (255 - a)) b q)
    (high_half w16 (a * 256 + b) ((0 * 256 + (255 - a)) * 256 + (255 - b)) (omega arith) (omega arith)))
    (lt_or_le a 128)

four_octets : (a b c d : ℕ) → a < 256 → b < 256 → c < 256 → d < 256
    → to_z w32 (a * 16777216 + b * 65536 + c * 256 + d) ≡ push (push (push (push (sign_from a) a) b) c) d
four_octets a b c d p q r s =
    ⊎_elim (λ l. rw (← sign_plus a l) (low_half w32 (a * 16777216 + b * 65536 + c * 256 + d) ((((0 * 256 + a) * 256 + b) * 256 + c) * 256 + d) (omega arith) (omega arith)))
    (λ l.
    rw (← sign_minus a l, push_neg 0 a p, push_neg (0 * 256 + (255 - a)) b q, push_neg ((0 * 256 + (255 - a)) * 256 + (255 - b)) c r, push_neg (((0 * 256 + (255 - a)) * 256 + (255 - b)) * 256 + (255 - c)) d s)
    (high_half w32 (a * 16777216 + b * 65536 + c * 256 + d) ((((0 * 256 + (255 - a)) * 256 + (255 - b)) * 256 + (255 - c)) * 256 + (255 - d)) (omega arith) (omega arith)))
    (lt_or_le a 128)

module _ (s : List ℕ) (at : ℕ) (o : Octets s) where
  pub first_2 : at + 2 ≤ length s → to_z w16 (get_or s at 0 * 256 + get_or s (at + 1) 0) ≡ so_far s at 2
  first_2 l =
      let z : at + 0 ≡ at = omega arith in
      rw (one_more s at 1 (omega arith), one_more s at 0 (omega arith), none_yet_lem s at, z)
      (two_octets (get_or s at 0) (get_or s (at + 1) 0) (o at) (o (at + 1)))

  pub first_4 : at + 4 ≤ length s
      → to_z w32 (get_or s at 0 * 16777216 + get_or s (at + 1) 0 * 65536 + get_or s (at + 2) 0 * 256 + get_or s (at + 3) 0) ≡ so_far s at 4
  first_4 l =
      let z : at + 0 ≡ at = omega arith in
      rw (one_more s at 3 (omega arith), one_more s at 2 (omega arith), one_more s at 1 (omega arith), one_more s at 0 (omega arith), none_yet_lem s at, z)
      (four_octets (get_or s at 0) (get_or s (at + 1) 0) (get_or s (at + 2) 0) (get_or s (at + 3) 0) (o at) (o (at + 1)) (o (at + 2)) (o (at + 3)))
