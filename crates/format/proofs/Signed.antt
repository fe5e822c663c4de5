-- Laws of two's complement: the two round trips, at every length, and what fits. Assumes nothing.
use Prim.Native.Nat.{ℕ, zero, suc, ◌+◌, ◌-◌, ◌*◌, ◌%◌, ◌^◌, ◌<◌}
use native.Mathlib.Nat.{pow-suc, pow-succ', div-lt_iff_lt-mul, one-le-pow}
use native.Mathlib.Omega.{arith}
use mathlib.Core.Path.{◌≡◌, refl, ◌∙◌, ap}
use mathlib.Core.Bool.{Bool, true, false, cond}
use mathlib.Core.List.{List, [], ◌∷◌, ◌++◌}
use lib.IntN.{ℤ, pos, negsuc}
use lib.Signed.{mag}
use lib.Dec.{ltb}
use lib.Pow.{pow-add}
use lib.ListN.{length, take, drop}
use lib.Seq.{get_or-drop}
use borrow.Author.Tests.{lt-ltb, le-ltb, ltb-true, ltb-false}
use Rattle.format.specs.Floor.{div_f, mod_f}
use Rattle.format.specs.Octets.{half, signed_octets, push, more, sign_from, signed_of, Octets}
use Rattle.format.proofs.Floor.{div_div, div_1, mag_div, push_neg, push_div_mod, div_push, mod_push}

-- ---- lists of octets

pub head_octet : (b : ℕ) (bs : List ℕ) → Octets (b ∷ bs) → b < 256
head_octet b bs h = h 0

pub tail_octets : (b : ℕ) (bs : List ℕ) → Octets (b ∷ bs) → Octets bs
tail_octets b bs h = λ i. h (suc i)

pub drop_octets : (n : ℕ) (s : List ℕ) → Octets s → Octets (drop n s)
drop_octets n s o i = rw (get_or-drop n s i 0) (o (n + i))

pub take_octets : (n : ℕ) (s : List ℕ) → Octets s → Octets (take n s)
take_octets zero s o i = omega arith
take_octets (suc n) [] o i = omega arith
take_octets (suc n) (b ∷ bs) o zero = o 0
take_octets (suc n) (b ∷ bs) o (suc i) = take_octets n bs (tail_octets b bs o) i

-- ---- octets after a number

pub div_more : (z : ℤ) (bs : List ℕ) → Octets bs → div_f (more z bs) (256 ^ length bs) ≡ z
unfolding more
div_more z [] h = div_1 z
div_more z (b ∷ bs) h =
    rw (pow-suc 256 (length bs), ← div_div (more (push z b) bs) (256 ^ length bs) 256, div_more (push z b) bs (tail_octets b bs h))
    (div_push z b (head_octet b bs h))

pub octets_more : (z : ℤ) (bs : List ℕ) → Octets bs → signed_octets (length bs) (more z bs) ≡ bs
unfolding more signed_octets
octets_more z [] h = refl
octets_more z (b ∷ bs) h =
    rw (div_more (push z b) bs (tail_octets b bs h), mod_push z b (head_octet b bs h), octets_more (push z b) bs (tail_octets b bs h))

push_back : (n : ℕ) (x : ℤ) → push (div_f x (256 ^ suc n)) (mod_f (div_f x (256 ^ n)) 256) ≡ div_f x (256 ^ n)
push_back n x = rw (pow-suc 256 n, ← div_div x (256 ^ n) 256) (push_div_mod (div_f x (256 ^ n)))

pub more_octets : (n : ℕ) (x : ℤ) → more (div_f x (256 ^ n)) (signed_octets n x) ≡ x
unfolding more signed_octets
more_octets zero x = div_1 x
more_octets (suc n) x = ap (λ (z : ℤ). more z (signed_octets n x)) (push_back n x) ∙ more_octets n x

pub more_snoc : (z : ℤ) (bs : List ℕ) (b : ℕ) → more z (bs ++ (b ∷ [])) ≡ push (more z bs) b
unfolding more
more_snoc z [] b = refl
more_snoc z (c ∷ bs) b = more_snoc (push z c) bs b

pub octets_length : (n : ℕ) (x : ℤ) → length (signed_octets n x) ≡ n
unfolding signed_octets
octets_length zero x = refl
octets_length (suc n) x = ap suc (octets_length n x)

-- the last octet apart
pub octets_snoc : (n : ℕ) (x : ℤ) → signed_octets (suc n) x ≡ signed_octets n (div_f x 256) ++ (mod_f x 256 ∷ [])
unfolding signed_octets
octets_snoc zero x = rw (div_1 x)
octets_snoc (suc n) x = rw (octets_snoc n x, pow-succ' 256 n, ← div_div x 256 (256 ^ n))

-- ---- what fits

pub half_pow : (n : ℕ) → half (suc n) ≡ 128 * 256 ^ n
half_pow zero = refl
half_pow (suc n) =
    let e : 8 * suc (suc n) - 1 ≡ (8 * suc n - 1) + 8 = omega arith in
    rw (e, pow-add 2 (8 * suc n - 1) 8, half_pow n, pow-suc 256 n) (omega arith)

pub sign_one : (y : ℤ) → mag y < 128 → sign_from (mod_f y 256) ≡ div_f y 256
sign_one (pos m) h = rw (lt-ltb (m % 256) 128 (omega arith)) (ap pos (omega arith))
sign_one (negsuc m) h = rw (le-ltb (256 - suc (m % 256)) 128 (omega arith)) (ap negsuc (omega arith))

pow_256_pos : (n : ℕ) → 0 < 256 ^ n
pow_256_pos n = one-le-pow n 256 (omega arith)

-- the high octet of what fits is a number of one octet
pub top_fits : (n : ℕ) (x : ℤ) → mag x < half (suc n) → mag (div_f x (256 ^ n)) < 128
top_fits n x h = rw (mag_div x (256 ^ n)) ((div-lt_iff_lt-mul (pow_256_pos n)).1 (rw (half_pow n) at h))

pub fits_top : (n : ℕ) (x : ℤ) → mag (div_f x (256 ^ n)) < 128 → mag x < half (suc n)
fits_top n x h = rw (half_pow n) ((div-lt_iff_lt-mul (pow_256_pos n)).0 (rw (mag_div x (256 ^ n)) at h))

-- ---- the round trips

pub signed_octets_lem : (n : ℕ) (x : ℤ) → mag x < half (suc n) → signed_of (signed_octets (suc n) x) ≡ x
unfolding signed_of signed_octets
signed_octets_lem n x h =
    rw (sign_one (div_f x (256 ^ n)) (top_fits n x h), push_div_mod (div_f x (256 ^ n))) (more_octets n x)

pub octets_signed : (xs : List ℕ) → Octets xs → signed_octets (length xs) (signed_of xs) ≡ xs
unfolding signed_of signed_octets
octets_signed [] h = refl
octets_signed (b ∷ bs) h = octets_more (sign_from b) (b ∷ bs) h

-- ---- the number of a list fits its length

pub push_sign : (b : ℕ) → b < 256 → mag (push (sign_from b) b) < 128
push_sign b h = go (ltb b 128) refl
  where
    go : (t : Bool) → ltb b 128 ≡ t → mag (push (cond t (pos 0) (negsuc 0)) b) < 128
    go true e = omega (arith, ltb-true b 128 e)
    go false e = rw (push_neg 0 b h) (omega (arith, ltb-false b 128 e))

pub signed_fits : (b : ℕ) (bs : List ℕ) → Octets (b ∷ bs) → mag (signed_of (b ∷ bs)) < half (suc (length bs))
unfolding signed_of more
signed_fits b bs h =
    fits_top (length bs) (signed_of (b ∷ bs))
    (rw (div_more (push (sign_from b) b) bs (tail_octets b bs h)) (push_sign b (head_octet b bs h)))
