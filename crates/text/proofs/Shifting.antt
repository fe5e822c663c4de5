-- A word that is stored some octets further on, over the end of one that stands: what it has of the first word is what stands there already,
-- so that the two stores are one, of the first word and then of the second one's octets. Assumes nothing.
use Rattle.std.proofs.Common.{◌≡◌, ℕ, zero, suc, ◌+◌, ◌-◌, ◌*◌, ◌/◌, ◌%◌, ◌^◌, ◌<◌, ◌≤◌, List, [], ◌∷◌, ◌++◌, length, take, drop, set, sym, ap, ◌∙◌, ap₂, add-zero, mod-lt, add_comm, div-add-mod', arith, length-append, take_at, drop_at}
use lib.Seq.{sets}
use Rattle.format.proofs.Clock.{seven}
use Rattle.octets.specs.Words.{low_octets}
use Rattle.octets.proofs.LowFirst.{length_low, take_low, low_append}
use Rattle.octets.proofs.Behind.{sets_over}

-- ---- stores

-- from some place in a run on, its rest once more and then others
pub over : (l : List ℕ) (i n : ℕ) (xs ys : List ℕ) → n ≤ length xs → sets (sets l i xs) (i + n) (drop n xs ++ ys) ≡ sets l i (xs ++ ys)
over l i zero xs ys h =
    rw (add-zero i) (sets_over l i xs (xs ++ ys) (omega (arith, length-append xs ys)))
over l i (suc n) [] ys h = absurd (omega arith)
over l i (suc n) (x ∷ xs) ys h =
    let e : i + suc n ≡ suc i + n = omega arith in
    rw e (over (set l i x) (suc i) n xs ys (omega arith))

-- ---- words

-- the word that is stored further on, by what the two words are made of
joined : (m n w t v x y z : ℕ) → w ≡ x + v * 256 ^ n → x < 256 ^ n → v < 256 ^ m → t ≡ y + z * 256 ^ n → y < 256 ^ n
    → low_octets (m + n) (v + y * 256 ^ m) ≡ drop n (low_octets (n + m) w) ++ low_octets n t
joined m n w t v x y z e h k f j =
    let a : drop n (low_octets (n + m) w) ≡ low_octets m v = ap (drop n) (ap (low_octets (n + m)) e ∙ low_append n m x v h) ∙ drop_at (low_octets n x) (low_octets m v) n (length_low n x) in
    let b : low_octets n t ≡ low_octets n y = sym (take_low n m t) ∙ ap (take n) (ap (low_octets (n + m)) f ∙ low_append n m y z j) ∙ take_at (low_octets n y) (low_octets m z) n (length_low n y) in
    low_append m n v y k ∙ ap₂ ◌++◌ (sym a) (sym b)

-- r is what the second word leaves above the first
shifted : (m n w s r : ℕ) → 0 < 256 ^ n → w / 256 ^ n < 256 ^ m → r ≡ s / 256 % 256 ^ n * 256 ^ m
    → low_octets (m + n) (w / 256 ^ n + r) ≡ drop n (low_octets (n + m) w) ++ low_octets n (s / 256)
shifted m n w s r p k e =
    let t = s / 256 in
    let f : w ≡ w % 256 ^ n + w / 256 ^ n * 256 ^ n = sym (add_comm _ _ ∙ div-add-mod' w (256 ^ n)) in
    let g : t ≡ t % 256 ^ n + t / 256 ^ n * 256 ^ n = sym (add_comm _ _ ∙ div-add-mod' t (256 ^ n)) in
    rw e (joined m n w t (w / 256 ^ n) (w % 256 ^ n) (t % 256 ^ n) (t / 256 ^ n) f (mod-lt w p) k g (mod-lt t p))

eight : (P : ℕ → Type 0) → P 0 → P 1 → P 2 → P 3 → P 4 → P 5 → P 6 → P 7 → (n : ℕ) → n ≤ 7 → P n
eight P p0 p1 p2 p3 p4 p5 p6 p7 zero h = p0
eight P p0 p1 p2 p3 p4 p5 p6 p7 (suc n) h = seven (λ n. P (suc n)) p1 p2 p3 p4 p5 p6 p7 n (omega arith)

module _ (w s : ℕ) (h : w < 18446744073709551616) (e : s % 256 ≡ 0) where
  pub shifted_word : (n : ℕ) → n ≤ 7
      → low_octets 8 (w / 2 ^ (n * 8) + s * 2 ^ (56 - n * 8) % 18446744073709551616) ≡ drop n (low_octets 8 w) ++ low_octets n (s / 256)
  shifted_word =
      eight (λ n. low_octets 8 (w / 2 ^ (n * 8) + s * 2 ^ (56 - n * 8) % 18446744073709551616) ≡ drop n (low_octets 8 w) ++ low_octets n (s / 256))
      (shifted 8 0 w s _ (omega arith) (omega arith) (omega arith))
      (shifted 7 1 w s _ (omega arith) (omega arith) (omega arith))
      (shifted 6 2 w s _ (omega arith) (omega arith) (omega arith))
      (shifted 5 3 w s _ (omega arith) (omega arith) (omega arith))
      (shifted 4 4 w s _ (omega arith) (omega arith) (omega arith))
      (shifted 3 5 w s _ (omega arith) (omega arith) (omega arith))
      (shifted 2 6 w s _ (omega arith) (omega arith) (omega arith))
      (shifted 1 7 w s _ (omega arith) (omega arith) (omega arith))

  pub shifted_fits : (n : ℕ) → n ≤ 7 → w / 2 ^ (n * 8) + s * 2 ^ (56 - n * 8) % 18446744073709551616 < 18446744073709551616
  shifted_fits =
      eight (λ n. w / 2 ^ (n * 8) + s * 2 ^ (56 - n * 8) % 18446744073709551616 < 18446744073709551616)
      (omega arith) (omega arith) (omega arith) (omega arith) (omega arith) (omega arith) (omega arith) (omega arith)
