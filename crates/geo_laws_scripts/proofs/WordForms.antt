-- The words that are written are clean, of a bounded length, and read as what they stand for.
use Rattle.std.specs.Prelude.{◌≡◌, ◌≢◌, ◌⊎◌, ℕ, ◌+◌, ◌-◌, ◌/◌, ◌%◌, ◌^◌, ◌<◌, ◌≤◌, ◌==◌, ◌&&◌, nat_le, not, Bool, true, false, List, [], ◌∷◌, length, map, decimal, Some, Ok, if◌then◌else◌}
use Rattle.std.specs.List.{AllByRecursion, list_all}
use Rattle.std.proofs.Common.{refl, sym, ◌∙◌, ap, arith}
use Rattle.std.proofs.lemmas.Bool.{and_parts, leb-true}
use Rattle.std.proofs.lemmas.Bool.Decides.{nat_tests}
use Rattle.std.proofs.lemmas.Fmt.{decimal_digit, decimal_nonempty, length-decimal-le}
use Rattle.std.proofs.lemmas.List.Elements.{recursion_from_All, All-weaker}
use Rattle.std.proofs.lemmas.List.Sums.{list_all-from_AllPass, AllPass-from_list_all}
use Rattle.geo_base.specs.Name.{is_name, is_name_byte, is_short_name, is_word_byte}
use Rattle.geo_base.specs.Runs.{ByteRun, IsRuns, add_byte, hex_digit, run_text, runs_of, runs_text}
use Rattle.geo_base.specs.declared.request.Counts.{Counts}
use Rattle.geo_model.specs.Plans.{IsGrant, IsRunsBytes}
use Rattle.geo_model.specs.Report.{counts_text}
use Rattle.geo_model.specs.Script.{counts_of, is_digit, runs_words, words_of}
use Rattle.geo_laws_texts.proofs.Clean.{IsClean, is_clean_byte, line_of, words_back}
use Rattle.geo_laws_texts.proofs.Numbers.{written_digits}
use Rattle.geo_laws_texts.proofs.Words.{short_name}
use Rattle.geo_script.proofs.FormLemmas.{runs_words-some}

-- a clean word of a bounded length
pub record IsWordWithin (n : ℕ) (word : List ℕ) : Type 0 where
  pub clean : IsClean word
  pub short : length word ≤ n

-- Names

-- a byte of a name is clean
name_byte_clean : (b : ℕ) → is_name_byte b ≡ true → is_clean_byte b ≡ true
name_byte_clean b e = grind (arith, nat_tests)

-- a name of a provider
pub name_within : (word : List ℕ) → is_name word ≡ true → IsWordWithin 63 word
name_within word is =
    let sized = and_parts (nat_le 1 (length word) && nat_le (length word) 63) (list_all is_name_byte word) is in
    let sizes = and_parts (nat_le 1 (length word)) (nat_le (length word) 63) sized.0 in
    record {
      clean = record {
        some_byte = let some : 1 ≤ length word = leb-true 1 (length word) sizes.0 in omega (arith, some);
        bytes =
            list_all-from_AllPass is_clean_byte word
            (All-weaker (λ b. is_name_byte b ≡ true) (λ b. is_clean_byte b ≡ true) name_byte_clean word
            (AllPass-from_list_all is_name_byte word sized.1));
      };
      short = leb-true (length word) 63 sizes.1;
    }

-- a short name
pub short_within : (word : List ℕ) → is_short_name word ≡ true → IsWordWithin 16 word
short_within word is =
    let sized = and_parts (nat_le 1 (length word) && nat_le (length word) 16) (list_all is_word_byte word) is in
    let sizes = and_parts (nat_le 1 (length word)) (nat_le (length word) 16) sized.0 in
    record {
      clean = (name_within word (short_name word is)).clean;
      short = leb-true (length word) 16 sizes.1;
    }

-- Numbers

-- a digit is clean
digit_clean : (b : ℕ) → is_digit b ≡ true → is_clean_byte b ≡ true
digit_clean b e = grind (arith, nat_tests)

-- what is written for a number
pub number_clean : (n : ℕ) → n < 2 ^ 64 → IsClean (decimal n)
number_clean n fits = record {
  some_byte = decimal_nonempty n fits;
  bytes =
      list_all-from_AllPass is_clean_byte (decimal n)
      (All-weaker (λ b. is_digit b ≡ true) (λ b. is_clean_byte b ≡ true) digit_clean (decimal n)
      (AllPass-from_list_all is_digit (decimal n) (written_digits n fits)));
}

-- a number of at most twenty digits
pub number_within : (n : ℕ) → n < 2 ^ 64 → IsWordWithin 20 (decimal n)
number_within n fits = record {
  clean = number_clean n fits;
  short = length-decimal-le 20 n (omega arith) (omega (arith, fits)) fits;
}

-- Counts

-- counts of one digit each are three letters and three digits
counts_spelled : (a : Counts) → a.r ≤ 9 → a.w ≤ 9 → a.e ≤ 9
    → counts_text a ≡ 114 ∷ (48 + a.r) ∷ 119 ∷ (48 + a.w) ∷ 101 ∷ (48 + a.e) ∷ []
counts_spelled a r w e =
    rw
    (decimal_digit a.r (omega (arith, r)), decimal_digit a.w (omega (arith, w)), decimal_digit a.e (omega (arith, e)))
    refl

-- a digit more than zero isn't `0`
digit_is : (n : ℕ) → n ≤ 9 → is_digit (48 + n) ≡ true
digit_is n h = grind (arith, nat_tests)

-- and its value is the count
digit_value : (n : ℕ) → (48 + n) - 48 ≡ n
digit_value n = omega arith

-- not all three are zero
not_all_zero : (r w e : ℕ) → (r ≢ 0) ⊎ (w ≢ 0) ⊎ (e ≢ 0)
    → not ((48 + r == 48) && ((48 + w == 48) && (48 + e == 48))) ≡ true
not_all_zero r w e some = grind (arith, nat_tests)

-- counts are read
pub counts_read : (a : Counts) → IsGrant a → counts_of (counts_text a) ≡ Some a
counts_read a is =
    ap counts_of (counts_spelled a is.r is.w is.e)
    ∙ (rw (
      digit_is a.r is.r,
      digit_is a.w is.w,
      digit_is a.e is.e,
      not_all_zero a.r a.w a.e is.some,
      digit_value a.r,
      digit_value a.w,
      digit_value a.e,
    ) refl)

-- and are a word of six bytes
pub counts_within : (a : Counts) → IsGrant a → IsWordWithin 6 (counts_text a)
counts_within a is =
    let spelled = counts_spelled a is.r is.w is.e in
    rw spelled (record {
      clean = record {
        some_byte = omega arith;
        bytes = rw (
          digit_clean (48 + a.r) (digit_is a.r is.r),
          digit_clean (48 + a.w) (digit_is a.w is.w),
          digit_clean (48 + a.e) (digit_is a.e is.e),
        ) refl;
      };
      short = omega arith;
    })

-- Runs

-- a run of a byte, so many times at most
record IsSmallRun (n : ℕ) (x : ByteRun) : Type 0 where
  byte : x.byte < 256
  times : x.times ≤ n

-- with room for one more
more_room : (n : ℕ) (xs : List ByteRun) → AllByRecursion (IsSmallRun n) xs → AllByRecursion (IsSmallRun (n + 1)) xs
more_room n [] all = tt
more_room n (x ∷ xs) all =
    let times = all.0.times in
    (record { byte = all.0.byte; times = omega (arith, times) }, more_room n xs all.1)

-- a byte more
add_small : (n b : ℕ) (xs : List ByteRun) → b < 256 → AllByRecursion (IsSmallRun n) xs
    → AllByRecursion (IsSmallRun (n + 1)) (add_byte b xs)
add_small n b [] is all = (record { byte = is; times = omega arith }, tt)
add_small n b (x ∷ xs) is all = by (b == x.byte)
  where
    times : x.times ≤ n
    times = all.0.times

    by : (t : Bool) → AllByRecursion (IsSmallRun (n + 1))
        (if t
        then record { byte = b; times = x.times + 1 } ∷ xs
        else record { byte = b; times = 1 } ∷ (x ∷ xs))
    by true = (record { byte = is; times = omega (arith, times) }, more_room n xs all.1)
    by false = (record { byte = is; times = omega arith }, more_room n (x ∷ xs) all)

-- the runs of some bytes are no longer than these
small_runs : (bytes : List ℕ) → AllByRecursion (λ b. b < 256) bytes
    → AllByRecursion (IsSmallRun (length bytes)) (runs_of bytes)
small_runs [] all = tt
small_runs (b ∷ bs) all =
    let same : length bs + 1 ≡ length (b ∷ bs) = omega arith in
    rw (← same) (add_small (length bs) b (runs_of bs) all.0 (small_runs bs all.1))

-- a hexadecimal digit is clean
hex_clean : (n : ℕ) → n < 16 → is_clean_byte (hex_digit n) ≡ true
hex_clean n h = grind (arith, nat_tests)

-- a run is a clean word
run_clean : (n : ℕ) (x : ByteRun) → n < 2 ^ 64 → IsSmallRun n x → IsClean (run_text x)
run_clean n x fits is =
    let byte = is.byte in
    let times = is.times in
    let count : IsClean (decimal x.times) = number_clean x.times (omega (arith, times, fits)) in
    record {
      some_byte = omega arith;
      bytes = rw (hex_clean (x.byte / 16) (omega (arith, byte)), hex_clean (x.byte % 16) (omega arith)) count.bytes;
    }

-- so are all
runs_clean : (n : ℕ) (xs : List ByteRun) → n < 2 ^ 64 → AllByRecursion (IsSmallRun n) xs
    → AllByRecursion IsClean (map run_text xs)
runs_clean n [] fits all = tt
runs_clean n (x ∷ xs) fits all = (run_clean n x fits all.0, runs_clean n xs fits all.1)

-- the words of runs are clean, and are read as the bytes
pub record AreRunWords (words : List (List ℕ)) (bytes : List ℕ) : Type 0 where
  pub clean : AllByRecursion IsClean words
  pub reads : runs_words words ≡ Ok (bytes, [])

-- there is a run
some_run : (b : ℕ) (xs : List ByteRun) → 1 ≤ length (add_byte b xs)
some_run b [] = omega arith
some_run b (x ∷ xs) = by (b == x.byte)
  where
    by : (t : Bool) → 1 ≤ length
        (if t
        then record { byte = b; times = x.times + 1 } ∷ xs
        else record { byte = b; times = 1 } ∷ (x ∷ xs))
    by true = omega arith
    by false = omega arith

-- the runs of some bytes are such words
pub run_words : (bytes : List ℕ) → IsRunsBytes bytes → AreRunWords (map run_text (runs_of bytes)) bytes
unfolding runs_text
run_words bytes are = by bytes are refl
  where
    back : (words : List (List ℕ)) → 1 ≤ length words → AllByRecursion IsClean words → words_of (line_of words) ≡ words
    back [] some clean = absurd (omega arith)
    back (word ∷ words) some clean = words_back word words clean

    some : (xs : List ℕ) → 1 ≤ length xs → 1 ≤ length (map run_text (runs_of xs))
    some [] h = absurd (omega arith)
    some (x ∷ xs) h = mapped (add_byte x (runs_of xs)) (some_run x (runs_of xs))
      where
        mapped : (ys : List ByteRun) → 1 ≤ length ys → 1 ≤ length (map run_text ys)
        mapped [] h = absurd (omega arith)
        mapped (y ∷ ys) h = omega arith

    by : (bs : List ℕ) → IsRunsBytes bs → bs ≡ bytes → AreRunWords (map run_text (runs_of bs)) bs
    by bs is same =
        let few = is.not_long in
        let clean : AllByRecursion IsClean (map run_text (runs_of bs)) =
        runs_clean (length bs) (runs_of bs) (omega (arith, few))
        (small_runs bs (recursion_from_All (λ b. b < 256) bs is.each)) in
        let told : IsRuns (runs_text bs) bs =
        record { spelled = refl; some_byte = is.some; not_long = is.not_long; are_bytes = is.each } in
        record {
          clean = clean;
          reads =
              ap runs_words (sym (back (map run_text (runs_of bs)) (some bs is.some) clean))
              ∙ runs_words-some (runs_text bs) bs told;
        }
