-- Pairs of digits in a word: what the word's test tells of the row of fields that stands there, and the numbers that it says. For each
-- layout its octets, one by one. Assumes nothing.
use Rattle.std.proofs.Common.{◌≡◌, ℕ, suc, ◌+◌, ◌-◌, ◌*◌, ◌/◌, ◌%◌, ◌^◌, ◌<◌, ◌≤◌, Bool, true, false, eqb, List, [], ◌∷◌, get_or, refl, add-zero, arith}
use lib.Bits.{bit_xor}
use Rattle.format.specs.Words.{both, accepted, refused}
use Rattle.format.specs.Digits.{is_digit, are_digits, number_at}
use Rattle.format.specs.Fields.{digits, after, width, fits_at, says_at, fit, says}
use Rattle.format.specs.Text.{fraction_unit}
use Rattle.format.specs.Octets.{Octets}
use Rattle.octets.specs.Words.{standing, Loads}
use Rattle.text.specs.Pairs.{row_at, part_at, clean}
use Rattle.text.proofs.Octetwise.{Want, decimal, mark, zero_of, six_of, mask_of, most_of, each, are_wanted, Sized, wanted_clean, wanted_word, wanted_values, unwanted_unclean}
use Rattle.text.proofs.PairNumbers.{joined, pair_numbers, two_numbers, three_numbers, part_numbers_lem}

-- ---- tests in the order of the octets

group2 : (a b : Bool) → both (both a b) true ≡ both a (both b true)
group2 true b = refl
group2 false b = refl

group5 : (a b c d e : Bool) → both (both a b) (both (both c (both d e)) true) ≡ both a (both b (both c (both d (both e true))))
group5 true true true true e = refl
group5 true true true false e = refl
group5 true true false d e = refl
group5 true false c d e = refl
group5 false b c d e = refl

group8 : (a b c d e f g h : Bool)
    → both (both a b) (both (both c (both d e)) (both (both f (both g h)) true)) ≡ both a (both b (both c (both d (both e (both f (both g (both h true)))))))
group8 true true true true true f g h = group5 true true f g h
group8 true true true true false f g h = refl
group8 true true true false e f g h = refl
group8 true true false d e f g h = refl
group8 true false c d e f g h = refl
group8 false b c d e f g h = refl

group4 : (a b c d : Bool) → both a (both (both b c) d) ≡ both a (both b (both c (both d true)))
group4 true true true true = refl
group4 true true true false = refl
group4 true true false d = refl
group4 true false c d = refl
group4 false b c d = refl

-- ---- the layouts

abbrev pair_wants : List Want
pair_wants = decimal ∷ decimal ∷ []

abbrev two_wants : List Want
two_wants = decimal ∷ decimal ∷ mark 58 ∷ decimal ∷ decimal ∷ []

abbrev three_wants : ℕ → List Want
three_wants m = decimal ∷ decimal ∷ mark m ∷ decimal ∷ decimal ∷ mark m ∷ decimal ∷ decimal ∷ []

abbrev part_wants : List Want
part_wants = mark 46 ∷ decimal ∷ decimal ∷ decimal ∷ []

abbrev is_at : List ℕ → ℕ → Bool
is_at s i = is_digit (get_or s i 0)

module _ (s : List ℕ) (at : ℕ) where
  pair-fit : fit (digits 2 ∷ []) s at ≡ are_wanted pair_wants (standing 2 s at)
  unfolding fit fits_at are_digits
  pair-fit = rw (add-zero at) (group2 (is_at s at) (is_at s (at + 1)))

  two-fit : fit (digits 2 ∷ after 58 2 ∷ []) s at ≡ are_wanted two_wants (standing 5 s at)
  unfolding fit fits_at are_digits width
  two-fit =
      let e3 : suc (at + 2) + 0 ≡ at + 3 = omega arith in
      let e4 : suc (at + 2) + 1 ≡ at + 4 = omega arith in
      rw (add-zero at, e3, e4) (group5 (is_at s at) (is_at s (at + 1)) (eqb (get_or s (at + 2) 0) 58) (is_at s (at + 3)) (is_at s (at + 4)))

  three-fit : (m : ℕ) → fit (digits 2 ∷ after m 2 ∷ after m 2 ∷ []) s at ≡ are_wanted (three_wants m) (standing 8 s at)
  unfolding fit fits_at are_digits width
  three-fit m =
      let e3 : suc (at + 2) + 0 ≡ at + 3 = omega arith in
      let e4 : suc (at + 2) + 1 ≡ at + 4 = omega arith in
      let e6 : suc (at + 2 + 3) + 0 ≡ at + 6 = omega arith in
      let e7 : suc (at + 2 + 3) + 1 ≡ at + 7 = omega arith in
      let e5 : at + 2 + 3 ≡ at + 5 = omega arith in
      rw (add-zero at, e3, e4, e6, e7, e5) (group8 (is_at s at) (is_at s (at + 1)) (eqb (get_or s (at + 2) 0) m) (is_at s (at + 3)) (is_at s (at + 4)) (eqb (get_or s (at + 5) 0) m) (is_at s (at + 6)) (is_at s (at + 7)))

  part-fit : fits_at (after 46 3) s at ≡ are_wanted part_wants (standing 4 s at)
  unfolding fits_at are_digits
  part-fit =
      let e1 : suc at + 0 ≡ at + 1 = omega arith in
      let e2 : suc at + 1 ≡ at + 2 = omega arith in
      let e3 : suc at + 2 ≡ at + 3 = omega arith in
      rw (e1, e2, e3) (group4 (eqb (get_or s at 0) 46) (is_at s (at + 1)) (is_at s (at + 2)) (is_at s (at + 3)))

-- ---- what the test tells

below_256 : 48 < 256
below_256 = omega arith

module _ (s : List ℕ) (at : ℕ) (o : Octets s) where
  pair-sized : Sized pair_wants (standing 2 s at)
  pair-sized = (below_256, (o at, (below_256, (o (at + 1), tt))))

  two_sized : Sized two_wants (standing 5 s at)
  two_sized = (below_256, (o at, (below_256, (o (at + 1), (omega arith, (o (at + 2), (below_256, (o (at + 3), (below_256, (o (at + 4), tt))))))))))

  three-sized : (m : ℕ) → m < 256 → Sized (three_wants m) (standing 8 s at)
  three-sized m h = (
    below_256,
    (
      o at,
      (
        below_256,
        (
          o (at + 1),
          (
            h,
            (
              o (at + 2),
              (
                below_256,
                (
                  o (at + 3),
                  (
                    below_256,
                    (
                      o (at + 4),
                      (h, (o (at + 5), (below_256, (o (at + 6), (below_256, (o (at + 7), tt)))))),
                    ),
                  ),
                ),
              ),
            ),
          ),
        ),
      ),
    ),
  )

  part-sized : Sized part_wants (standing 4 s at)
  part-sized = (omega arith, (o at, (below_256, (o (at + 1), (below_256, (o (at + 2), (below_256, (o (at + 3), tt))))))))

-- two digits, and three
number_two : (s : List ℕ) (p at : ℕ) → p + 0 ≡ at → number_at s p 2 ≡ (get_or s at 0 - 48) * 10 + (get_or s (at + 1) 0 - 48)
unfolding number_at
number_two s p at e =
    let f : p ≡ at = omega (arith, e) in
    rw (f, add-zero at) (omega arith)

number_three : (s : List ℕ) (at : ℕ) → number_at s (suc at) 3 ≡ ((get_or s (at + 1) 0 - 48) * 10 + (get_or s (at + 2) 0 - 48)) * 10 + (get_or s (at + 3) 0 - 48)
unfolding number_at
number_three s at =
    let e1 : suc at + 0 ≡ at + 1 = omega arith in
    let e2 : suc at + 1 ≡ at + 2 = omega arith in
    let e3 : suc at + 2 ≡ at + 3 = omega arith in
    rw (e1, e2, e3) (omega arith)

abbrev pub Clean : List Want → ℕ → Bool → Type 0
Clean ws w b = clean (bit_xor w (each zero_of ws)) (each six_of ws) (each mask_of ws) ≡ b

-- the word of zeros with a mark that is not known yet
abbrev pub zeros_with : ℕ → ℕ
zeros_with m = m * 1099511693312 + 3472275519666401328

zeros_with_lem : (m : ℕ) → zeros_with m ≡ each zero_of (three_wants m)
zeros_with_lem m = omega arith

nine : (a : ℕ) → a + 6 ≤ 15 → a ≤ 9
nine a h = omega arith

module _ (s : List ℕ) (at w : ℕ) where
  pub pair_refused : Loads (standing 2 s at) s w → Clean pair_wants w false → refused 6 ≡ row_at (digits 2 ∷ []) s at
  unfolding row_at
  pair_refused l e =
      let f = unwanted_unclean pair_wants (standing 2 s at) (pair-sized s at l.octets) (omega arith) (rw l.number at e) in
      rw (pair-fit s at, f)

  pub record PairRead (x : ℕ) : Type 0 where
    pub small : x ≤ 2313
    pub read : accepted ((joined x % 256) ∷ []) ≡ row_at (digits 2 ∷ []) s at

  pub pair_read : Loads (standing 2 s at) s w → Clean pair_wants w true → PairRead (bit_xor w (each zero_of pair_wants))
  unfolding row_at says says_at
  pair_read l e =
      let z = pair-sized s at l.octets in
      let r : each most_of pair_wants + each six_of pair_wants < 2 ^ 64 = omega arith in
      let f = wanted_clean pair_wants (standing 2 s at) z r (rw l.number at e) in
      let x = wanted_word pair_wants (standing 2 s at) z r f in
      let m = wanted_values pair_wants (standing 2 s at) z r f in
      let n = pair_numbers (get_or s at 0 - 48) (get_or s (at + 1) 0 - 48) (nine _ m.0) (nine _ m.1.0) in
      rw (l.number, x) (record { small = n.small; read = rw (n.number, pair-fit s at, f, number_two s at at (add-zero at)) })

  pub two_refused : Loads (standing 5 s at) s w → Clean two_wants w false → refused 6 ≡ row_at (digits 2 ∷ after 58 2 ∷ []) s at
  unfolding row_at
  two_refused l e =
      let f = unwanted_unclean two_wants (standing 5 s at) (two_sized s at l.octets) (omega arith) (rw l.number at e) in
      rw (two-fit s at, f)

  pub record TwoRead (x : ℕ) : Type 0 where
    pub small : x ≤ 38805702921
    pub read : accepted ((joined x % 256) ∷ (joined x / 16777216 % 256) ∷ []) ≡ row_at (digits 2 ∷ after 58 2 ∷ []) s at

  two-says : says (digits 2 ∷ after 58 2 ∷ []) s at ≡ ((get_or s at 0 - 48) * 10 + (get_or s (at + 1) 0 - 48)) ∷ ((get_or s (at + 3) 0 - 48) * 10 + (get_or s (at + 4) 0 - 48)) ∷ []
  unfolding says says_at width
  two-says =
      let e3 : suc (at + 2) + 0 ≡ at + 3 = omega arith in
      let e4 : at + 3 + 1 ≡ at + 4 = omega arith in
      rw (number_two s at at (add-zero at), number_two s (suc (at + 2)) (at + 3) e3, e4)

  pub two_read : Loads (standing 5 s at) s w → Clean two_wants w true → TwoRead (bit_xor w (each zero_of two_wants))
  unfolding row_at
  two_read l e =
      let z = two_sized s at l.octets in
      let r : each most_of two_wants + each six_of two_wants < 2 ^ 64 = omega arith in
      let f = wanted_clean two_wants (standing 5 s at) z r (rw l.number at e) in
      let x = wanted_word two_wants (standing 5 s at) z r f in
      let m = wanted_values two_wants (standing 5 s at) z r f in
      let n = two_numbers (get_or s at 0 - 48) (get_or s (at + 1) 0 - 48) (get_or s (at + 3) 0 - 48) (get_or s (at + 4) 0 - 48)
      (nine _ m.0) (nine _ m.1.0) (nine _ m.1.1.1.0) (nine _ m.1.1.1.1.0) in
      rw (l.number, x) (record { small = n.small; read = rw (n.first, n.second, two-fit s at, f, two-says) })

  pub three_refused : (m : ℕ) → m < 256 → Loads (standing 8 s at) s w
      → clean (bit_xor w (zeros_with m)) (each six_of (three_wants m)) (each mask_of (three_wants m)) ≡ false → refused 6 ≡ row_at (digits 2 ∷ after m 2 ∷ after m 2 ∷ []) s at
  unfolding row_at
  three_refused m h l e =
      let f = unwanted_unclean (three_wants m) (standing 8 s at) (three-sized s at l.octets m h) (omega arith) (rw (l.number, zeros_with_lem m) at e) in
      rw (three-fit s at m, f)

  pub record ThreeRead (m x : ℕ) : Type 0 where
    pub small : x ≤ 651061486403881225
    pub read : accepted ((joined x % 256) ∷ (joined x / 16777216 % 256) ∷ (joined x / 281474976710656 % 256) ∷ []) ≡ row_at (digits 2 ∷ after m 2 ∷ after m 2 ∷ []) s at

  three-says : (m : ℕ) → says (digits 2 ∷ after m 2 ∷ after m 2 ∷ []) s at
      ≡ ((get_or s at 0 - 48) * 10 + (get_or s (at + 1) 0 - 48)) ∷ ((get_or s (at + 3) 0 - 48) * 10 + (get_or s (at + 4) 0 - 48)) ∷ ((get_or s (at + 6) 0 - 48) * 10 + (get_or s (at + 7) 0 - 48)) ∷ []
  unfolding says says_at width
  three-says m =
      let e3 : suc (at + 2) + 0 ≡ at + 3 = omega arith in
      let e4 : at + 3 + 1 ≡ at + 4 = omega arith in
      let e6 : suc (at + 2 + 3) + 0 ≡ at + 6 = omega arith in
      let e7 : at + 6 + 1 ≡ at + 7 = omega arith in
      rw (number_two s at at (add-zero at), number_two s (suc (at + 2)) (at + 3) e3, e4, number_two s (suc (at + 2 + 3)) (at + 6) e6, e7)

  pub three_read : (m : ℕ) → m < 256 → Loads (standing 8 s at) s w
      → clean (bit_xor w (zeros_with m)) (each six_of (three_wants m)) (each mask_of (three_wants m)) ≡ true → ThreeRead m (bit_xor w (zeros_with m))
  unfolding row_at
  three_read m h l e =
      let z = three-sized s at l.octets m h in
      let r : each most_of (three_wants m) + each six_of (three_wants m) < 2 ^ 64 = omega arith in
      let f = wanted_clean (three_wants m) (standing 8 s at) z r (rw (l.number, zeros_with_lem m) at e) in
      let x = wanted_word (three_wants m) (standing 8 s at) z r f in
      let v = wanted_values (three_wants m) (standing 8 s at) z r f in
      let n = three_numbers (get_or s at 0 - 48) (get_or s (at + 1) 0 - 48) (get_or s (at + 3) 0 - 48) (get_or s (at + 4) 0 - 48) (get_or s (at + 6) 0 - 48) (get_or s (at + 7) 0 - 48)
      (nine _ v.0) (nine _ v.1.0) (nine _ v.1.1.1.0) (nine _ v.1.1.1.1.0) (nine _ v.1.1.1.1.1.1.0) (nine _ v.1.1.1.1.1.1.1.0) in
      rw (l.number, zeros_with_lem m, x) (record { small = n.small; read = rw (n.first, n.second, n.third, three-fit s at m, f, three-says m) })

  pub part_refused : Loads (standing 4 s at) s w → Clean part_wants w false → refused 6 ≡ part_at 3 s at
  unfolding part_at
  part_refused l e =
      let f = unwanted_unclean part_wants (standing 4 s at) (part-sized s at l.octets) (omega arith) (rw l.number at e) in
      rw (part-fit s at, f)

  pub record PartRead (x : ℕ) : Type 0 where
    pub small : x ≤ 151587072
    pub low : joined x / 256 % 256 ≤ 99
    pub last : x / 16777216 ≤ 9
    pub read : accepted ((joined x / 256 % 256 * 10000 + x / 16777216 * 1000) ∷ []) ≡ part_at 3 s at

  pub part_read : Loads (standing 4 s at) s w → Clean part_wants w true → PartRead (bit_xor w (each zero_of part_wants))
  unfolding part_at says_at fraction_unit
  part_read l e =
      let z = part-sized s at l.octets in
      let r : each most_of part_wants + each six_of part_wants < 2 ^ 64 = omega arith in
      let f = wanted_clean part_wants (standing 4 s at) z r (rw l.number at e) in
      let x = wanted_word part_wants (standing 4 s at) z r f in
      let v = wanted_values part_wants (standing 4 s at) z r f in
      let a = get_or s (at + 1) 0 - 48 in
      let b = get_or s (at + 2) 0 - 48 in
      let d = get_or s (at + 3) 0 - 48 in
      let ha : a ≤ 9 = nine _ v.1.0 in
      let hb : b ≤ 9 = nine _ v.1.1.0 in
      let hd : d ≤ 9 = nine _ v.1.1.1.0 in
      let n = part_numbers_lem a b d ha hb hd in
      let t : (a * 10 + b) * 10000 + d * 1000 ≡ ((a * 10 + b) * 10 + d) * 1000 = omega arith in
      rw (l.number, x)
      (record {
        small = n.small;
        low = rw n.first (omega arith);
        last = rw n.last hd;
        read = rw (n.first, n.last, part-fit s at, f, number_three s at, t);
      })
